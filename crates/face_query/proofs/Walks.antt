-- The turns of the walks along an edge's windows and along a face's entries. Assumes nothing.
use Prim.Native.Nat.{ℕ, zero, suc, ◌-◌, ◌<◌}
use native.Mathlib.Omega.{arith}
use mathlib.Core.Bool.{cond}
use mathlib.Core.List.{List}
use mathlib.Core.Logic.{◌≢◌}
use mathlib.Core.Path.{◌≡◌, refl, sym, ap, ◌∙◌}
use lib.Ieee.{Float}
use Rattle.float64.specs.Scalar.{min_of}
use Rattle.vec3.specs.declared.Vec3.{Vec3}
use Rattle.windows.specs.Windows.{window_at}
use Rattle.chains.specs.Chains.{Links, link_in, link_at}
use Rattle.last_pass.specs.Buffers.{chain_behind}
use Rattle.last_pass.proofs.Chains.{chain_end, chain_next, chain_out}
use Rattle.face_entries.specs.declared.PiecePart.{PiecePart}
use Rattle.face_entries.specs.Buffers.{part_at, next_entry_of}
use Rattle.face_entries.specs.Entries.{entries_from_link}
use Rattle.last_pass.specs.of_face_distance.Entries.{through_window}
use Rattle.face_query.specs.FaceDistance.{through_windows, records_on, to_part, to_entries}

-- ---- windows; r is the link that was read
module _ (made : ℕ) (b : Links) (f : List Float) (e : ℕ) (x y : Float) where
  abbrev pub to_do : ℕ → ℕ → Float → Float
  to_do left k d = through_windows x y d (records_on b.words f (chain_behind made b e left k))

  pub chain_done : (left k r : ℕ) (d : Float) → r ≡ link_in made (link_at b e k) → r ≡ 0 → to_do left k d ≡ d
  unfolding through_windows
  chain_done left k r d read h = ap (λ (is : List ℕ). through_windows x y d (records_on b.words f is)) (chain_end made b e left k r read h)

  pub count_done : (left k : ℕ) (d : Float) → left ≡ 0 → to_do left k d ≡ d
  unfolding through_windows
  count_done left k d h = ap (λ (is : List ℕ). through_windows x y d (records_on b.words f is)) (chain_out made b e left k h)

  pub one_window : (left k r : ℕ) (d d' : Float) → r ≡ link_in made (link_at b e k) → 0 < left → r ≢ 0
      → d' ≡ cond (window_at b.words f (r - 1)).alive (through_window d (window_at b.words f (r - 1)).win x y) d → to_do (left - 1) r d' ≡ to_do left k d
  unfolding through_windows
  one_window left k r d d' read m q h =
      ap (to_do (left - 1) r) h ∙ sym (ap (λ (is : List ℕ). through_windows x y d (records_on b.words f is)) (chain_next made b e left k r read m q))

-- ---- entries
module _ (coords : List Float) (w : List ℕ) (p : Vec3) where
  abbrev pub to_enter : ℕ → ℕ → Float → Float
  to_enter left l d = to_entries coords p d (entries_from_link left w l)

  pub entries_done : (left l : ℕ) (d : Float) → l ≡ 0 → to_enter left l d ≡ d
  unfolding to_entries entries_from_link
  entries_done zero l d h = refl
  entries_done (suc left) l d h = rw h refl

  pub slots_done : (left l : ℕ) (d : Float) → left ≡ 0 → to_enter left l d ≡ d
  unfolding to_entries entries_from_link
  slots_done left l d h = rw h refl

  pub one_entry : (left l n : ℕ) (d part d' : Float) (x : PiecePart) → 0 < left → l ≢ 0 → x ≡ part_at w (l - 1) → part ≡ to_part coords p x.piece x.part → d' ≡ min_of d part → n ≡ next_entry_of w (l - 1)
      → to_enter (left - 1) n d' ≡ to_enter left l d
  unfolding to_entries entries_from_link
  one_entry zero l n d part d' x m q hx hp hd hn = absurd (omega arith)
  one_entry (suc left) zero n d part d' x m q hx hp hd hn = absurd (q refl)
  one_entry (suc left) (suc i) n d part d' x m q hx hp hd hn =
      let u : suc left - 1 ≡ left = omega arith in
      let v : suc i - 1 ≡ i = omega arith in
      (λ j. to_entries coords p (hd j) (entries_from_link (u j) w (hn j)))
      ∙ ap (λ (z : Float). to_entries coords p (min_of d z) (entries_from_link left w (next_entry_of w (suc i - 1)))) (hp ∙ ap (λ (z : PiecePart). to_part coords p z.piece z.part) hx)
      ∙ ap (λ (z : ℕ). to_entries coords p (min_of d (to_part coords p (part_at w z).piece (part_at w z).part)) (entries_from_link left w (next_entry_of w z))) v
