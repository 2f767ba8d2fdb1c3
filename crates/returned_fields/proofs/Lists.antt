-- The chains of windows and of entries that a field's lists stand in are sound by refusal 20: windows_sound, entries_sound. Assumes nothing.
use Prim.Native.Nat.{ℕ, zero, suc, ◌+◌, ◌*◌, ◌≤◌, ◌<◌}
use native.Mathlib.Omega.{arith}
use mathlib.Core.Bool.{Bool, false, not, ◌||◌}
use mathlib.Core.List.{List, [], ◌∷◌}
use mathlib.Core.Path.{◌≡◌, refl, sym, ap, subst, ◌∙◌}
use borrow.Author.Tests.{le-ltb, lt-leb}
use lib.Dec.{T}
use lib.Ieee.{Float, nan, lt}
use lib.Ieee.Bits.{is_true}
use lib.ListN.{length, get_or}
use Rattle.layout.specs.Layout.{reals_per_window, window_b1, words_per_entry, entry_part}
use Rattle.nat_laws.specs.Lists.{All, Pairs}
use Rattle.nat_laws.proofs.Lists.{all_of, all_map, all_map2}
use Rattle.windows.specs.Windows.{window_at, win_at, edge_stored, link_of}
use Rattle.chains.specs.Chains.{head_of, Path, Belongs}
use Rattle.queries.specs.of_trim_model.Windows.{Window}
use Rattle.queries.specs.of_live_windows.Live.{nums, Alive}
use Rattle.queries.specs.of_face_entries.declared.Part.{Part}
use Rattle.queries.specs.of_face_entries.declared.Part.TheVariants.{EndA, EndB, Whole}
use Rattle.queries.specs.of_face_entries.Buffers.{part_number, entry_capacity, first_entry_of, next_entry_of}
use Rattle.queries.specs.of_face_entries.Entries.{FaceEntry, numbers_of, EntryChain, StoredFrom}
use Rattle.queries.proofs.laws_of_face_entries.Numbers.{face_from, Numbered, each_numbered}
use Rattle.computed.specs.declared.Field.{Field}
use Rattle.queries.specs.of_field_check.Chains.{any_bad}
use Rattle.queries.specs.of_field_check.FieldCheck.{FieldSlices, window_start, not_rising, window_unsound, windows_unsound, entry_outside, entries_unsound}
use Rattle.returned_fields.specs.Held.{HeldWindows, HeldEntries}
use Rattle.returned_fields.proofs.Counting.{Run, chains_sound}

pub neither : {a b : Bool} → a ≡ false → b ≡ false → (a || b) ≡ false
neither p q = λ t. p t || q t

-- ---- windows
path_run : (w : List ℕ) (l : ℕ) (is : List ℕ) → Path w l is → Run (link_of w) l is
unfolding Path Run
path_run w l [] p = p
path_run w l (i ∷ is) p = (p.0, path_run w (link_of w i) is p.1)

module _ (w : List ℕ) (f : List Float) where
  start_is : (u : Window) → Alive w f u → window_start f u.num ≡ u.b0
  unfolding window_at win_at
  start_is u a = ap (λ (z : Window). z.b0) a.same

  end_is : (u : Window) → Alive w f u → get_or f (reals_per_window * u.num + window_b1) nan ≡ u.b1
  unfolding window_at win_at
  end_is u a = ap (λ (z : Window). z.b1) a.same

  rising : (u : Window) → Alive w f u → (v : Window) → Alive w f v → T (lt u.b0 v.b0) → not_rising f (suc u.num) v.num ≡ false
  unfolding not_rising
  rising u a v c r = ap not ((λ t. lt (start_is u a t) (start_is v c t)) ∙ is_true (lt u.b0 v.b0) r)

  listed_sound : (us : List Window) (before : ℕ) → All (Alive w f) us → All (λ (u : Window). T (lt u.b0 u.b1)) us → Pairs (λ (u v : Window). T (lt u.b0 v.b0)) us → All (λ (u : Window). not_rising f before u.num ≡ false) us
      → any_bad (link_of w) (window_unsound f) before (nums us) ≡ false
  unfolding any_bad nums window_unsound
  listed_sound [] before a o p r = refl
  listed_sound (u ∷ us) before a o p r =
      neither (neither (ap not ((λ t. lt (start_is u a.0 t) (end_is u a.0 t)) ∙ is_true (lt u.b0 u.b1) o.0)) r.0)
      (listed_sound us (suc u.num) a.1 o.1 p.1 (all_map2 {P = Alive w f} {Q = λ (v : Window). T (lt u.b0 v.b0)} {R = λ (v : Window). not_rising f (suc u.num) v.num ≡ false} (rising u a.0) us a.1 p.0))

first_rises : (f : List Float) (i : ℕ) → not_rising f 0 i ≡ false
unfolding not_rising
first_rises f i = refl

pub windows_sound : (n : Field) (b : FieldSlices) (live : ℕ → List Window) → HeldWindows n b live → windows_unsound b.edge_words_held b.words b.reals n.windows n.edges ≡ false
unfolding windows_unsound
windows_sound n b live H =
    let w = b.words in
    chains_sound (link_of w) (window_unsound b.reals) (head_of b.edge_words_held) n.windows (edge_stored w) (λ (e : ℕ). nums (live e)) n.edges
    (λ e h. let c = (H.stands e h).chain in
    record {
      run = path_run w (head_of b.edge_words_held e) (nums (live e)) c.path;
      places = all_map {P = Belongs n.windows w e} {Q = λ (i : ℕ). (edge_stored w i ≡ e) × (i < n.windows)} (λ i g. (g.edge, g.made)) (nums (live e)) c.belong;
    })
    (λ e h. listed_sound w b.reals (live e) 0 (H.stands e h).windows (H.ordered e h) (H.rise e h) (all_of (λ (u : Window). not_rising b.reals 0 u.num ≡ false) (live e) (λ u. first_rises b.reals u.num)))

-- ---- entries
chain_run : (w : List ℕ) (l : ℕ) (is : List ℕ) → EntryChain w l is → Run (next_entry_of w) l is
unfolding EntryChain Run
chain_run w l [] p = p
chain_run w l (i ∷ is) p = (p.0, chain_run w (next_entry_of w i) is p.1)

part_few : (p : Part) → part_number p ≤ 2
part_few EndA = omega arith
part_few EndB = omega arith
part_few Whole = omega arith

part_there : (w : List ℕ) (i : ℕ) (xs : List FaceEntry) → StoredFrom w i xs → (k : ℕ) → k < length xs → get_or w (words_per_entry * (i + k) + entry_part) 0 ≤ 2
unfolding StoredFrom
part_there w i [] s k l = absurd (omega (arith, l))
part_there w i (x ∷ xs) s zero l =
    let e : i ≡ i + 0 = omega arith in
    subst (λ (z : ℕ). get_or w (words_per_entry * z + entry_part) 0 ≤ 2) e (subst (λ (z : ℕ). z ≤ 2) (sym s.0.1) (part_few x.entry.part))
part_there w i (x ∷ xs) s (suc k) l = let e : suc i + k ≡ i + suc k = omega arith in subst (λ (z : ℕ). get_or w (words_per_entry * z + entry_part) 0 ≤ 2) e (part_there w (suc i) xs s.1 k (omega (arith, l)))

none_bad : (next : ℕ → ℕ) (bad : ℕ → Bool) (before : ℕ) (is : List ℕ) → All (λ (i : ℕ). bad i ≡ false) is → any_bad next (λ (k i : ℕ). bad i) before is ≡ false
unfolding any_bad
none_bad next bad before [] a = refl
none_bad next bad before (i ∷ is) a = neither a.0 (none_bad next bad (suc i) is a.1)

module _ (n : Field) (b : FieldSlices) (xs : List FaceEntry) (H : HeldEntries n b xs) where
  entry_inside : (i : ℕ) → i < length xs → entry_outside n.pieces b.entry_words_held i ≡ false
  unfolding entry_outside
  entry_inside i l =
      let p = H.pieces i l in
      let e : 0 + i ≡ i = omega arith in
      let q = subst (λ (z : ℕ). get_or b.entry_words_held (words_per_entry * z + entry_part) 0 ≤ 2) e (part_there b.entry_words_held 0 xs H.holds.stored i l) in
      let r = H.entry_links i l in
      let s = H.slots in
      neither (lt-leb n.pieces _ p) (neither (le-ltb 2 _ q) (le-ltb (entry_capacity (length b.entry_words_held)) (next_entry_of b.entry_words_held i) (omega (arith, r, s))))

  pub entries_sound : entries_unsound b.triangle_words_held b.entry_words_held n.pieces n.triangles ≡ false
  unfolding entries_unsound
  entries_sound =
      let w = b.entry_words_held in
      let s = H.slots in
      chains_sound (next_entry_of w) (λ (before i : ℕ). entry_outside n.pieces w i) (first_entry_of b.triangle_words_held) (entry_capacity (length w)) (face_from 0 xs) (λ (f : ℕ). numbers_of f xs) n.triangles
      (λ f h. record {
        run = chain_run w (first_entry_of b.triangle_words_held f) (numbers_of f xs) (H.holds.chain f);
        places = all_map {P = Numbered 0 f xs} {Q = λ (i : ℕ). (face_from 0 xs i ≡ f) × (i < entry_capacity (length w))} (λ i g. (g.face, (let z = g.high in omega (arith, z, s)))) (numbers_of f xs) (each_numbered 0 f xs);
      })
      (λ f h. none_bad (next_entry_of w) (entry_outside n.pieces w) 0 (numbers_of f xs)
      (all_map {P = Numbered 0 f xs} {Q = λ (i : ℕ). entry_outside n.pieces w i ≡ false} (λ i g. entry_inside i (let z = g.high in omega (arith, z))) (numbers_of f xs) (each_numbered 0 f xs)))
