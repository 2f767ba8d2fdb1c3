-- Each answer of the work is finished. Assumes nothing.
use Prim.Native.Nat.{ℕ, ◌≤◌}
use mathlib.Core.List.{List}
use mathlib.Core.Path.{◌≡◌, refl, sym, subst}
use lib.Ieee.{Float}
use Rattle.run_steps.specs.of_cut_lists.Buffers.{Cuts}
use Rattle.finish.specs.of_trim.Buffers.{Slices}
use Rattle.run_steps.specs.of_insertion.declared.InsertCounts.{InsertCounts}
use Rattle.run_steps.specs.declared.FieldWork.{FieldWork}
use Rattle.run_steps.specs.declared.FieldWork.TheVariants.{Refused, Done}
use Rattle.run_steps.specs.Contract.{WorkWithin}
use Rattle.finish.specs.Finish.{FinishesTo}
use Rattle.finish_work.specs.FinishWork.{FinishesWork}

pub end_refused : (work : FieldWork) (k : ℕ) → work ≡ Refused k → (edges : ℕ) (er : List Float) (b : Slices) (c : Cuts) → FinishesWork work edges er b c b c
end_refused work k e edges er b c = subst (λ (w : FieldWork). FinishesWork w edges er b c b c) (sym e) (refl, refl)

pub end_done : (work : FieldWork) (n : InsertCounts) (steps : ℕ) → work ≡ Done n steps → (edges : ℕ) (er : List Float) (b : Slices) (c : Cuts) (b' : Slices) (c' : Cuts)
    → FinishesTo edges n.trim.made er b c b' c' → FinishesWork work edges er b c b' c'
end_done work n steps e edges er b c b' c' h = subst (λ (w : FieldWork). FinishesWork w edges er b c b' c') (sym e) h

pub done_within : (windows : ℕ) (work : FieldWork) (n : InsertCounts) (steps : ℕ) → work ≡ Done n steps → WorkWithin windows work → n.trim.made ≤ windows
done_within windows work n steps e h = subst (WorkWithin windows) e h
