-- The readers' answers from the values that they computed. Assumes nothing.
use Prim.Native.Nat.{ℕ, suc, ◌+◌, ◌-◌, ◌*◌, ◌<◌}
use mathlib.Core.Path.{◌≡◌, refl, sym, ap, ◌∙◌}
use mathlib.Core.Bool.{Bool, true, false}
use mathlib.Core.List.{List}
use borrow.Author.Tests.{eq-eqb, ne_eqb, lt-ltb}
use lib.Ieee.{Float}
use lib.ListN.{get_or}
use Rattle.layout.specs.Layout.{words_per_piece, piece_head}
use Rattle.vec3.specs.declared.Vec3.{Vec3}
use Rattle.piece_ends.specs.Ends.{end_point, same_bits, is_end}
use Rattle.piece_ends.specs.Table.{point_bucket}
use Rattle.piece_ends.specs.Walk.{end_link_at, stands_at, find_along, first_link_at, next_link_at, leads_at, follows_at, is_first_at}

pub stands_said : (coords : List Float) (p q : Vec3) (e : ℕ) (b : Bool) → q ≡ end_point coords e → b ≡ same_bits q p → b ≡ stands_at coords p e
stands_said coords p q e b is said = said ∙ ap (λ (r : Vec3). same_bits r p) is

module _ (coords : List Float) (words : List ℕ) (pieces : ℕ) where
  pub first_done : (p : Vec3) (b head r : ℕ) → b ≡ point_bucket pieces p → head ≡ get_or words (words_per_piece * b + piece_head) 0 → r ≡ find_along (end_link_at words) (stands_at coords p) (2 * pieces) head → r ≡ first_link_at coords words pieces p
  unfolding first_link_at
  first_done p b head r is_b is-head is-r = is-r ∙ rw (is-head, is_b) refl

  pub next_done : (e : ℕ) (q : Vec3) (link r : ℕ) → q ≡ end_point coords e → link ≡ end_link_at words e → r ≡ find_along (end_link_at words) (stands_at coords q) (2 * pieces) link → r ≡ next_link_at coords words pieces e
  unfolding next_link_at
  next_done e q link r is-q is-link is-r = is-r ∙ rw (is-link, is-q) refl

  module _ (e : ℕ) (q : Vec3) (link : ℕ) (is-q : q ≡ end_point coords e) (is-link : link ≡ first_link_at coords words pieces q) where
    link_is : link ≡ first_link_at coords words pieces (end_point coords e)
    link_is = is-link ∙ ap (first_link_at coords words pieces) is-q

    pub first_is : link ≡ suc e → true ≡ leads_at coords words pieces e
    unfolding leads_at
    first_is h = sym (eq-eqb (first_link_at coords words pieces (end_point coords e)) (suc e) (sym link_is ∙ h))

    pub first_is_not : (link ≡ suc e → ⊥) → false ≡ leads_at coords words pieces e
    unfolding leads_at
    first_is_not h = sym (ne_eqb (first_link_at coords words pieces (end_point coords e)) (suc e) (λ z. h (link_is ∙ z)))

-- ---- `follows`
module _ (kinds : List ℕ) (coords : List Float) (e : ℕ) where
  pub no_end_before : e ≡ 0 → false ≡ follows_at kinds coords e
  unfolding follows_at
  no_end_before h = sym (rw h refl)

  pub before_no_end : 0 < e → is_end kinds (e - 1) ≡ false → false ≡ follows_at kinds coords e
  unfolding follows_at
  before_no_end l h = sym (rw (lt-ltb 0 e l, h) refl)

  pub before_has : (p q : Vec3) (r : Bool) → 0 < e → is_end kinds (e - 1) ≡ true → p ≡ end_point coords (e - 1) → q ≡ end_point coords e → r ≡ same_bits p q → r ≡ follows_at kinds coords e
  unfolding follows_at
  before_has p q r l h is-p is-q is = is ∙ (λ i. same_bits (is-p i) (is-q i)) ∙ sym (rw (lt-ltb 0 e l, h) refl)

-- ---- `is_first`
module _ (kinds : List ℕ) (coords : List Float) (words : List ℕ) (pieces e : ℕ) where
  pub no_end : is_end kinds e ≡ false → false ≡ is_first_at kinds coords words pieces e
  unfolding is_first_at
  no_end h = sym (rw h refl)

  pub end_follows : is_end kinds e ≡ true → follows_at kinds coords e ≡ true → false ≡ is_first_at kinds coords words pieces e
  unfolding is_first_at
  end_follows h f = sym (rw (h, f) refl)

  pub end_leads : (r : Bool) → is_end kinds e ≡ true → follows_at kinds coords e ≡ false → r ≡ leads_at coords words pieces e → r ≡ is_first_at kinds coords words pieces e
  unfolding is_first_at
  end_leads r h f is = is ∙ sym (rw (h, f) refl)
