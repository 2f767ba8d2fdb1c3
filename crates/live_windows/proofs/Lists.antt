-- Lists of live windows as callers go through them: one edge's list replaced, and what a link says of the list behind it. Assumes nothing.
use Prim.Native.Nat.{ℕ, suc}
use native.Mathlib.Omega.{arith}
use native.Mathlib.Decide.{ℕ_discrete}
use mathlib.Core.Bool.{Bool, true, false, cond}
use mathlib.Core.List.{List, [], ◌∷◌, ◌++◌}
use mathlib.Core.Logic.{◌≢◌}
use mathlib.Core.Path.{◌≡◌, refl, sym, ap, ◌∙◌}
use borrow.Author.Tests.{eq-eqb, ne_eqb}
use lib.Dec.{eqb}
use Rattle.chains.specs.Chains.{first_link}
use Rattle.trim_model.specs.Windows.{Window}
use Rattle.trim_state.specs.State.{put}
use Rattle.live_windows.specs.Live.{nums, end_link, last_link}
use Rattle.live_windows.proofs.Places.{nums_append, end_append}

-- ---- the list of one edge
module _ (e : ℕ) (l : List Window) (live : ℕ → List Window) where
  pub put_here : put e l live e ≡ l
  put_here = ap (λ c. cond c l (live e)) (eq-eqb e e refl)

  pub put_other : (x : ℕ) → x ≢ e → put e l live x ≡ live x
  put_other x ne = ap (λ c. cond c l (live x)) (ne_eqb x e ne)

pub put_twice : (e : ℕ) (l l' : List Window) (live : ℕ → List Window) → put e l (put e l' live) ≡ put e l live
put_twice e l l' live = λ t x. go (eqb x e) (live x) t where
  go : (c : Bool) (k : List Window) → cond c l (cond c l' k) ≡ cond c l k
  go true k = refl
  go false k = refl

pub put_same : (e : ℕ) (l : List Window) (live : ℕ → List Window) → live e ≡ l → put e l live ≡ live
put_same e l live h = λ t x. go x (ℕ_discrete x e) t where
  go : (x : ℕ) → Dec (x ≡ e) → cond (eqb x e) l (live x) ≡ live x
  go x (yes d) = ap (λ c. cond c l (live x)) (eq-eqb x e d) ∙ sym h ∙ ap live (sym d)
  go x (no d) = ap (λ c. cond c l (live x)) (ne_eqb x e d)

-- ---- links
pub last_snoc : (xs : List Window) (u : Window) → last_link (xs ++ (u ∷ [])) ≡ suc u.num
unfolding nums end_link
last_snoc xs u = ap (end_link 0) (nums_append xs (u ∷ [])) ∙ end_append 0 (nums xs) (u.num ∷ [])

-- a link of 0 is the end, and another leads to a window
pub record Starts (zs : List Window) (r : ℕ) : Type 0 where
  pub first : Window
  pub rest : List Window
  pub is : zs ≡ first ∷ rest
  pub link : r ≡ suc first.num

pub starts : (zs : List Window) (r : ℕ) → r ≡ first_link (nums zs) → r ≢ 0 → Starts zs r
unfolding nums first_link
starts [] r h ne = absurd (ne h)
starts (u ∷ us) r h ne = record { first = u; rest = us; is = refl; link = h }

pub ends : (zs : List Window) (r : ℕ) → r ≡ first_link (nums zs) → r ≡ 0 → zs ≡ []
unfolding nums first_link
ends [] r h z = refl
ends (u ∷ us) r h z = absurd (omega arith)
