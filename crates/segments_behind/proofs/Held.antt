-- Where the pieces' buffer holds the table, the walk by `first_behind` and `next_behind` is the Rust's `behind`, and `any_round` answers for all ends of a point's bits. Assumes nothing.
use Prim.Native.Nat.{ℕ, zero, suc, ◌+◌, ◌*◌, ◌/◌, ◌<◌, ◌≤◌}
use mathlib.Core.Path.{◌≡◌, refl, sym, ap, ◌∙◌}
use mathlib.Core.Bool.{Bool, true, false, not, ◌&&◌}
use mathlib.Core.List.{List, ◌∷◌, map}
use mathlib.Core.Logic.{⊎_elim}
use native.Mathlib.Omega.{arith}
use borrow.Author.Tests.{ne_eqb, eqb-true, eqb-false}
use lib.Dec.{eqb}
use lib.Ieee.{Float}
use lib.ListN.{length}
use Rattle.layout.specs.Layout.{reals_per_piece}
use Rattle.vec3.specs.declared.Vec3.{Vec3}
use Rattle.job_checks.specs.Any.{any_below}
use Rattle.job_checks.proofs.Any.{found, none_all}
use Rattle.topology.proofs.Find.{either}
use Rattle.piece_ends.specs.Ends.{passing, has_bits, ends_with_bits}
use Rattle.piece_ends.specs.Table.{link_to}
use Rattle.piece_ends.specs.Walk.{follow, find_along, first_link_at, next_link_at, HoldsTable}
use Rattle.piece_ends.specs.Directions.{direction_of, piece_reals_of}
use Rattle.piece_ends.proofs.Passing.{both, pass_none, pass_here, pass_over, link_one, first_link_lem}
use Rattle.piece_ends.proofs.Following.{follow_left, search_left}
use Rattle.piece_ends.proofs.Held.{end_below, has_end, first_held, bits_lead}
use Rattle.piece_ends.proofs.Unit.{direction_held}
use Rattle.segments_behind.specs.Behind.{turned_at, in_face, ends_behind, behind_in, first_behind_at, next_behind_at, leaving_at}
use Rattle.segments_behind.specs.Round.{is_round, any_round, any_round_at}

-- ---- lists of numbers that pass a test
-- none passes where there is no first
none_pass : (test : ℕ → Bool) (k s : ℕ) → link_to (passing test k s) ≡ 0 → (j : ℕ) → s ≤ j → j < s + k → test j ≡ false
none_pass test zero s z j l m = absurd (omega arith)
none_pass test (suc k) s z j l m = ⊎_elim
    (λ q. absurd (let y : suc s ≡ 0 = sym (ap link_to (pass_here test k s q) ∙ link_one s (passing test k (suc s))) ∙ z in omega arith))
    (λ q. ⊎_elim
    (λ e. ap test (sym (eqb-true s j e)) ∙ q)
    (λ e. none_pass test k (suc s) (sym (ap link_to (pass_over test k s q)) ∙ z) j (omega (arith, eqb-false s j e)) (omega arith))
    (either (eqb s j)))
    (either (test s))

some_link : (test : ℕ → Bool) (n : ℕ) (at : ℕ) → link_to (passing test n 0) ≡ at → not (eqb at 0) ≡ any_below test n
some_link test n zero h = sym (none_all test n (λ j l. none_pass test n 0 h j (omega arith) (omega arith)))
some_link test n (suc e) h =
    let f = first_link_lem test n 0 e h in
    ap not (ne_eqb (suc e) 0 (λ z. omega arith)) ∙ sym (found test e n (omega (arith, f.below)) f.passes)

map_passing : (test : ℕ → Bool) (f g : ℕ → Vec3) → ((e : ℕ) → test e ≡ true → f e ≡ g e) → (k s : ℕ) → map f (passing test k s) ≡ map g (passing test k s)
map_passing test f g same zero s = rw (pass_none test s) refl
map_passing test f g same (suc k) s = ⊎_elim
    (λ q. rw (pass_here test k s q) (λ i. same s q i ∷ map_passing test f g same k (suc s) i))
    (λ q. rw (pass_over test k s q) (map_passing test f g same k (suc s)))
    (either (test s))

module _ (kinds faces : List ℕ) (coords : List Float) (words : List ℕ) (held : HoldsTable kinds coords words) where
  abbrev next : ℕ → ℕ
  next = next_link_at coords words (length kinds)

  -- a link to the first end of p's bits
  abbrev pub IsFirst : Vec3 → ℕ → Type 0
  IsFirst p link = link ≡ link_to (ends_with_bits kinds coords p)

  -- what a search along the ends of p's bits finds, from the first of them on
  search_first : (p : Vec3) (inner : ℕ → Bool) (link : ℕ) → IsFirst p link → find_along next inner (2 * length kinds) link ≡ link_to (passing (λ (e : ℕ). has_bits kinds coords p e && inner e) (2 * length kinds) 0)
  unfolding ends_with_bits
  search_first p inner link is-link =
      ap (find_along next inner (2 * length kinds)) is-link
      ∙ search_left next (has_bits kinds coords p) (2 * length kinds) (bits_lead kinds coords words held p) inner (2 * length kinds) 0 (2 * length kinds) (omega arith) (omega arith)

  -- ---- the Rust's `behind`
  module _ (g : ℕ) (p : Vec3) where
    abbrev test : ℕ → Bool
    test e = has_bits kinds coords p e && in_face kinds faces coords g e

    pub first_behind_held : (link : ℕ) → IsFirst p link → first_behind_at kinds faces coords words (length kinds) g link ≡ link_to (ends_behind kinds faces coords g p)
    unfolding ends_behind
    first_behind_held link is-link = search_first p (in_face kinds faces coords g) link is-link

    pub next_behind_held : (k e : ℕ) → suc e + k ≡ 2 * length kinds → test e ≡ true → next_behind_at kinds faces coords words (length kinds) g e ≡ link_to (passing test k (suc e))
    unfolding next_behind_at
    next_behind_held k e s h =
        ap (find_along next (in_face kinds faces coords g) (2 * length kinds)) (bits_lead kinds coords words held p k e s (both (has_bits kinds coords p e) (in_face kinds faces coords g e) h).0)
        ∙ search_left next (has_bits kinds coords p) (2 * length kinds) (bits_lead kinds coords words held p) (in_face kinds faces coords g) k (suc e) (2 * length kinds) s (omega arith)

    -- the walk is all of these ends, in the Rust's order
    pub behind_walk_held : (link : ℕ) → IsFirst p link
        → follow (next_behind_at kinds faces coords words (length kinds) g) (2 * length kinds) (first_behind_at kinds faces coords words (length kinds) g link) ≡ ends_behind kinds faces coords g p
    unfolding ends_behind
    behind_walk_held link is-link =
        ap (follow (next_behind_at kinds faces coords words (length kinds) g) (2 * length kinds)) (first_behind_held link is-link)
        ∙ follow_left (next_behind_at kinds faces coords words (length kinds) g) test (2 * length kinds) next_behind_held (2 * length kinds) 0 (2 * length kinds) (omega arith) (omega arith)

    -- and the directions read at them are the Rust's
    leaving_held : (n : ℕ) → reals_per_piece * length kinds ≤ n → (e : ℕ) → test e ≡ true → leaving_at (piece_reals_of kinds coords n) e ≡ turned_at e (direction_of kinds coords (e / 2))
    leaving_held n room e h =
        let l : e < 2 * length kinds = end_below kinds coords e (has_end kinds coords p e (both (has_bits kinds coords p e) (in_face kinds faces coords g e) h).0).0 in
        ap (turned_at e) (direction_held kinds coords n (e / 2) (omega arith) room)

    pub behind_held : (link : ℕ) → IsFirst p link → (n : ℕ) → reals_per_piece * length kinds ≤ n
        → map (leaving_at (piece_reals_of kinds coords n)) (follow (next_behind_at kinds faces coords words (length kinds) g) (2 * length kinds) (first_behind_at kinds faces coords words (length kinds) g link)) ≡ behind_in kinds faces coords g p
    unfolding behind_in ends_behind
    behind_held link is-link n room =
        ap (map (leaving_at (piece_reals_of kinds coords n))) (behind_walk_held link is-link)
        ∙ map_passing test (leaving_at (piece_reals_of kinds coords n)) (λ (e : ℕ). turned_at e (direction_of kinds coords (e / 2))) (leaving_held n room) (2 * length kinds) 0

  -- ---- segments round a vertex
  pub any_round_held : (triangles : List ℕ) (k : ℕ) (p : Vec3) → any_round_at kinds faces coords triangles words (length kinds) k p ≡ any_round kinds faces coords triangles k p
  unfolding any_round_at any_round
  any_round_held triangles k p =
      ap (λ (at : ℕ). not (eqb at 0)) (search_first p (is_round kinds faces coords triangles k) (first_link_at coords words (length kinds) p) (first_held kinds coords words held p))
      ∙ some_link (λ (e : ℕ). has_bits kinds coords p e && is_round kinds faces coords triangles k e) (2 * length kinds) _ refl
