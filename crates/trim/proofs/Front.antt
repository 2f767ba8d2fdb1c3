-- In a tidy list starts and ends rise, so what stands before a window that the new one passes is passed too. Assumes nothing.
use Prim.Native.Nat.{◌<◌}
use mathlib.Core.Bool.{Bool, true, false, not, ◌&&◌}
use mathlib.Core.List.{List, ◌∷◌}
use mathlib.Core.Path.{◌≡◌, refl, sym, subst}
use lib.Dec.{T}
use lib.Ieee.{Float, lt}
use Rattle.float64.specs.Notation.{◌⊖◌}
use Rattle.float_laws.proofs.Order.{lt_trans}
use Rattle.trim_visit.specs.of_better.Claim.{All}
use Rattle.trim_visit.specs.of_trim_model.Windows.{Window}
use Rattle.trim_visit.specs.of_trim_model.Add.{passes}
use Rattle.trim_visit.proofs.laws_of_trim_model.Ranks.{rank, rank_lt}
use Rattle.trim_visit.proofs.laws_of_trim_model.Windows.{Ordered, ordered_cross, Wide}
use Rattle.trim_visit.proofs.laws_of_trim_model.Lists.{all_left, all_right, all_map2}
use Rattle.trim_visit.proofs.laws_of_trim_model.Order.{Tidy}
use Rattle.trim_visit.specs.of_live_windows.Live.{Leads}

both : (a b : Bool) → (a && not b) ≡ true → T a × (T b → ⊥)
both true false h = (tt, λ z. z)
both true true h = absurd (subst T (sym h) tt)
both false b h = absurd (subst T (sym h) tt)

yes_no : (a b : Bool) → T a → (T b → ⊥) → (a && not b) ≡ true
yes_no true false y n = refl
yes_no true true y n = absurd (n tt)
yes_no false b y n = absurd y

module _ (t b0 : Float) where
  earlier : (u v : Window) → Wide t u → Wide t v → (rank u.b0 < rank v.b0) × (rank u.b1 < rank v.b1) → passes t b0 v ≡ true → passes t b0 u ≡ true
  earlier u v g k h p =
      let d = both (lt v.b0 b0) (lt (b0 ⊖ t) v.b1) p in
      yes_no (lt u.b0 b0) (lt (b0 ⊖ t) u.b1) (lt_trans u.b0 v.b0 b0 (rank_lt g.point0 k.point0 h.0) d.0)
      (λ y. d.1 (lt_trans (b0 ⊖ t) u.b1 v.b1 y (rank_lt g.point1 k.point1 h.1)))

  pub tidy_leads : (l : List Window) → Tidy t l → Leads (passes t b0) l
  tidy_leads l h xs v zs is p =
      let wides = subst (All (Wide t)) is h.wides in
      let v-wide = (all_right (Wide t) xs (v ∷ zs) wides).0 in
      all_map2 (λ u g k. earlier u v g v-wide k p) xs (all_left (Wide t) xs (v ∷ zs) wides) (ordered_cross xs v zs (subst Ordered is h.ordered))
