-- Whether slices fit, and the answers of turns and of a finish. Assumes nothing.
use Prim.Native.Nat.{ℕ, ◌+◌, ◌≤◌, ◌<◌}
use native.Mathlib.Omega.{arith}
use mathlib.Core.Bool.{Bool, true, false, ◌&&◌}
use mathlib.Core.List.{List}
use mathlib.Core.Path.{◌≡◌, refl, sym, ap, subst, ◌∙◌}
use borrow.Author.Tests.{leb-true, le-leb, lt-leb, eqb-true, eq-eqb, ne_eqb}
use lib.Dec.{leb, eqb}
use lib.Ieee.{Float}
use lib.ListN.{get_or, set}
use Rattle.layout.specs.Layout.{words_per_edge}
use Rattle.buffers.specs.declared.Lack.{Lack}
use Rattle.buffers.specs.Lack.{lack_number}
use Rattle.buffers.specs.Slots.{slots_of}
use Rattle.windows.specs.Windows.{capacity_of}
use Rattle.advance.specs.of_cut_lists.Buffers.{Cuts}
use Rattle.finish.specs.of_trim.Buffers.{Slices}
use Rattle.advance.specs.of_trim_split.declared.Counts.{Counts}
use Rattle.advance.specs.declared.Advanced.{Advanced}
use Rattle.std.specs.declared.result.Result.{Result}
use Rattle.std.specs.declared.result.Result.TheVariants.{Ok, Err}
use Rattle.advance.specs.Contract.{AdvancesTo}
use Rattle.finish.specs.Finish.{FinishesTo}
use Rattle.advance_c.specs.Turns.{told_counts, turns_told, turns_fit, turns_fit_in, TurnsAnswer, finish_fits, finish_fits_in, FinishAnswer}

not_both : {A : Type 0} (b : Bool) → b ≡ true → b ≡ false → A
not_both b t f = absurd (let z : ◌≡◌ {A = Bool} true false = sym t ∙ f in (let y : ◌≡◌ {A = ℕ} 0 1 = cc in omega arith))

both_left : (a b : Bool) → (a && b) ≡ true → a ≡ true
both_left true b e = refl
both_left false b e = e

both_right : (a b : Bool) → (a && b) ≡ true → b ≡ true
both_right true b e = e
both_right false b e = not_both false e refl

-- ---- what is told
pub counts_told : (t : List ℕ) {a b : ℕ} → a ≡ get_or t 0 0 → b ≡ get_or t 1 0 → ◌≡◌ {A = Counts} (record { made = a; queued = b }) (told_counts t)
unfolding told_counts
counts_told t a b = λ i. record { made = a i; queued = b i }

module _ (t : List ℕ) {x : Result Advanced Lack} where
  pub told_stopped : (lack : Lack) {n : ℕ} → x ≡ Err lack → n ≡ lack_number lack → (n, t) ≡ turns_told x t
  unfolding turns_told
  told_stopped lack h e = (λ i. (e i, t)) ∙ (λ i. turns_told (sym h i) t)

  pub told_went : (a : Advanced) {t₁ t₂ t₃ : List ℕ} → x ≡ Ok a → t₁ ≡ set t 0 a.counts.made → t₂ ≡ set t₁ 1 a.counts.queued → t₃ ≡ set t₂ 2 a.steps → (0, t₃) ≡ turns_told x t
  unfolding turns_told
  told_went a h f b d = (λ i. (0, (d ∙ (λ j. set ((b ∙ (λ l. set (f l) 1 a.counts.queued)) j) 2 a.steps)) i)) ∙ (λ i. turns_told (sym h i) t)

-- ---- tests
pub is_double_true : (one two : ℕ) → two ≡ one + one → true ≡ eqb two (one + one)
is_double_true one two h = sym (eq-eqb two (one + one) h)

pub is_double_false : (one two : ℕ) → (two ≡ one + one → ⊥) → false ≡ eqb two (one + one)
is_double_false one two h = sym (ne_eqb two (one + one) h)

-- a test first, and what is left
pub first_false : (a b : Bool) → a ≡ false → false ≡ (a && b)
first_false a b h = sym (ap (λ (z : Bool). z && b) h)

pub first_true : (a b : Bool) {c : Bool} → a ≡ true → c ≡ b → c ≡ (a && b)
first_true a b h e = e ∙ sym (ap (λ (z : Bool). z && b) h)

module _ (made w r p o k n : ℕ) where
  pub turns_need : turns_fit made w r p o k n ≡ true → (made ≤ capacity_of w r) × ((o ≡ p + p) × ((k ≡ p + p) × (n ≡ p + p)))
  unfolding turns_fit
  turns_need h =
      let rest : (eqb o (p + p) && (eqb k (p + p) && eqb n (p + p))) ≡ true = both_right (leb made (capacity_of w r)) (eqb o (p + p) && (eqb k (p + p) && eqb n (p + p))) h in
      let last : (eqb k (p + p) && eqb n (p + p)) ≡ true = both_right (eqb o (p + p)) (eqb k (p + p) && eqb n (p + p)) rest in (
        leb-true made (capacity_of w r) (both_left (leb made (capacity_of w r)) (eqb o (p + p) && (eqb k (p + p) && eqb n (p + p))) h),
        (
          eqb-true o (p + p) (both_left (eqb o (p + p)) (eqb k (p + p) && eqb n (p + p)) rest),
          (eqb-true k (p + p) (both_left (eqb k (p + p)) (eqb n (p + p)) last), eqb-true n (p + p) (both_right (eqb k (p + p)) (eqb n (p + p)) last)),
        ),
      )

  module _ {s : ℕ} (e : s ≡ capacity_of w r) where
    pub windows_lack : s < made → false ≡ turns_fit made w r p o k n
    unfolding turns_fit
    windows_lack h = first_false (leb made (capacity_of w r)) (eqb o (p + p) && (eqb k (p + p) && eqb n (p + p))) (lt-leb made (capacity_of w r) (omega (arith, e, h)))

    module _ (h : made ≤ s) {x : Bool} (u : x ≡ eqb o (p + p)) where
      enough : leb made (capacity_of w r) ≡ true
      enough = le-leb made (capacity_of w r) (omega (arith, e, h))

      pub out_unlike : x ≡ false → false ≡ turns_fit made w r p o k n
      unfolding turns_fit
      out_unlike z = first_true _ _ enough (first_false _ _ (sym u ∙ z))

      module _ (xt : x ≡ true) {y : Bool} (q : y ≡ eqb k (p + p)) where
        pub keep_unlike : y ≡ false → false ≡ turns_fit made w r p o k n
        unfolding turns_fit
        keep_unlike z = first_true _ _ enough (first_true _ _ (sym u ∙ xt) (first_false _ _ (sym q ∙ z)))

        pub next_told : {z : Bool} → y ≡ true → z ≡ eqb n (p + p) → z ≡ turns_fit made w r p o k n
        unfolding turns_fit
        next_told yt g = first_true _ _ enough (first_true _ _ (sym u ∙ xt) (first_true _ _ (sym q ∙ yt) g))

module _ (edges made e w r : ℕ) {s : ℕ} (a : s ≡ slots_of e words_per_edge) where
  pub finish_edges_lack : s < edges → false ≡ finish_fits edges made e w r
  unfolding finish_fits
  finish_edges_lack h = first_false (leb edges (slots_of e words_per_edge)) (leb made (capacity_of w r)) (lt-leb edges (slots_of e words_per_edge) (omega (arith, a, h)))

  module _ (h : edges ≤ s) {x : ℕ} (b : x ≡ capacity_of w r) where
    edges_there : leb edges (slots_of e words_per_edge) ≡ true
    edges_there = le-leb edges (slots_of e words_per_edge) (omega (arith, a, h))

    pub finish_windows_lack : x < made → false ≡ finish_fits edges made e w r
    unfolding finish_fits
    finish_windows_lack k = first_true (leb edges (slots_of e words_per_edge)) (leb made (capacity_of w r)) edges_there (sym (lt-leb made (capacity_of w r) (omega (arith, b, k))))

    pub finish_none_lacks : made ≤ x → true ≡ finish_fits edges made e w r
    unfolding finish_fits
    finish_none_lacks k = first_true (leb edges (slots_of e words_per_edge)) (leb made (capacity_of w r)) edges_there (sym (le-leb made (capacity_of w r) (omega (arith, b, k))))

pub finish_need : (edges made e w r : ℕ) → finish_fits edges made e w r ≡ true → (made ≤ capacity_of w r) × (edges ≤ slots_of e words_per_edge)
unfolding finish_fits
finish_need edges made e w r h = (
  leb-true made (capacity_of w r) (both_right (leb edges (slots_of e words_per_edge)) (leb made (capacity_of w r)) h),
  leb-true edges (slots_of e words_per_edge) (both_left (leb edges (slots_of e words_per_edge)) (leb made (capacity_of w r)) h),
)

-- ---- the answers
same_test : (told : List ℕ) (b : Slices) (c : Cuts) {counts : Counts} {t : Bool} → counts ≡ told_counts told → t ≡ turns_fit_in counts.made b c → t ≡ turns_fit_in (told_counts told).made b c
same_test told b c e test = test ∙ ap (λ (z : Counts). turns_fit_in z.made b c) e

module _ {limit : Float} {n most : ℕ} {v : List Float} {buffer vertex_words round : List ℕ} {edge_reals : List Float} {triangle_words : List ℕ} {triangleReals : List Float}
    {told : List ℕ} {b : Slices} {c : Cuts} {counts : Counts} {t : Bool} (e : counts ≡ told_counts told) (test : t ≡ turns_fit_in counts.made b c) where
  pub turns_unfit : t ≡ false → TurnsAnswer limit n most v buffer vertex_words round edge_reals triangle_words triangleReals told b c 20 b c told
  turns_unfit h = record {
    unfit = λ g. (refl, (refl, (refl, refl)));
    turned = λ g. not_both t (same_test told b c e test ∙ g) h;
  }

  pub turns_turned : {r : ℕ} {b' : Slices} {c' : Cuts} {told' : List ℕ} (x : Result Advanced Lack) → t ≡ true
      → AdvancesTo limit n most v buffer vertex_words round edge_reals triangle_words triangleReals counts b c x b' → (r, told') ≡ turns_told x told
      → TurnsAnswer limit n most v buffer vertex_words round edge_reals triangle_words triangleReals told b c r b' c' told'
  turns_turned {b' = b'} x h a q = record {
    unfit = λ g. not_both t h (same_test told b c e test ∙ g);
    turned = λ g. record {
      answer = x;
      advances = subst (λ (z : Counts). AdvancesTo limit n most v buffer vertex_words round edge_reals triangle_words triangleReals z b c x b') e a;
      tells = q;
    };
  }

module _ {edges made : ℕ} {edge_reals : List Float} {b : Slices} {c : Cuts} {t : Bool} (test : t ≡ finish_fits_in edges made b) where
  pub finish_unfit : t ≡ false → FinishAnswer edges made edge_reals b c 20 b c
  finish_unfit h = record {
    unfit = λ g. (refl, (refl, refl));
    finished = λ g. not_both t (test ∙ g) h;
  }

  pub finish_finished : {b' : Slices} {c' : Cuts} → t ≡ true → FinishesTo edges made edge_reals b c b' c' → FinishAnswer edges made edge_reals b c 0 b' c'
  finish_finished h a = record {
    unfit = λ g. not_both t h (test ∙ g);
    finished = λ g. (refl, a);
  }
