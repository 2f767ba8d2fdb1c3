-- What else the Rust does at the end of `compute` changes nothing: `low` is right of every window made (`lows_stay`), and the lists of the edges have no dead windows and are
-- sorted (`lists_stay`). Assumes nothing.
use Prim.Native.Nat.{ℕ, zero, suc, ◌<◌}
use native.Mathlib.Omega.{arith}
use mathlib.Core.Bool.{Bool, true, false, cond}
use mathlib.Core.List.{List, [], ◌∷◌}
use mathlib.Core.Path.{◌≡◌, refl, sym, ap, subst, ◌∙◌}
use lib.ListN.{length, get_or}
use lib.Ieee.{Float}
use Rattle.nat_laws.specs.Lists.{insert_by, sort_by}
use Rattle.float64.specs.TotalOrder.{total_less}
use Rattle.source.specs.declared.Win.{Win}
use Rattle.source.specs.Distance.{lowest_of}
use Rattle.windows.specs.declared.WindowRecord.{WindowRecord}
use Rattle.windows.specs.Windows.{window_at, trimmed, trimmed_win}
use Rattle.chains.specs.Chains.{links, AllBelong}
use Rattle.pop.specs.of_better.Claim.{All}
use Rattle.pop.specs.of_trim_model.Windows.{Window, insert, sorted}
use Rattle.pop.specs.of_trim_model.Model.{Candidate}
use Rattle.pop.proofs.laws_of_trim_model.Lists.{all_map}
use Rattle.pop.proofs.laws_of_trim_model.Windows.{ordered_from, sorted_all}
use Rattle.pop.proofs.laws_of_trim_model.Insertion.{Start, sorted_self, ordered_differ}
use Rattle.pop.specs.of_trim_state.Follows.{Follows}
use Rattle.pop.proofs.laws_of_trim_state.Follows.{follows_tidy}
use Rattle.pop.specs.of_live_windows.Live.{nums, Alive, HoldsWindows}
use Rattle.pop.proofs.laws_of_live_windows.Stored.{length_wins}
use Rattle.pop.proofs.Pending.{window_is}
use Rattle.last_pass.specs.Finished.{lows_set, retained, resorted, LowIs}

-- ---- `low`
pub lows_stay : (wins : List WindowRecord) → All LowIs wins → lows_set wins ≡ wins
unfolding trimmed trimmed_win
lows_stay [] h = refl
lows_stay (x ∷ wins) h = λ i. record {
  edge = x.edge;
  carried = x.carried;
  alive = x.alive;
  link = x.link;
  win = record { b0 = x.win.b0; b1 = x.win.b1; low = sym h.0 i; src = x.win.src };
} ∷ lows_stay wins h.1 i

all_at : {A : Type 0} (P : A → Type 0) (l : List A) (i : ℕ) (d : A) → i < length l → All P l → P (get_or l i d)
all_at P [] i d h a = absurd (omega arith)
all_at P (x ∷ l) zero d h a = a.0
all_at P (x ∷ l) (suc i) d h a = all_at P l i d (omega arith) a.1

module _ (made : ℕ) (w : List ℕ) (f : List Float) (edges : List ℕ) (wins : List WindowRecord) (live : ℕ → List Window) (H : HoldsWindows made wins (links edges w) f live) where
  -- so the buffers have the lowest value of each window made, alive or dead
  pub low_stored : All LowIs wins → (i : ℕ) → i < made → LowIs (window_at w f i)
  low_stored h i l =
      let x = window_at w f i in
      let there : i < length wins = omega (arith, l, sym (length_wins made w f) ∙ ap length H.all) in
      subst (λ (v : Win). v.low ≡ lowest_of v.src v.b0 v.b1) (sym (window_is made w f edges wins live H i x l).win) (all_at LowIs wins i x there h)

  -- ---- the lists
  module _ (none : WindowRecord) where
    abbrev at : ℕ → WindowRecord
    at i = get_or wins i none

    -- a window of a list, as the list of all has it
    abbrev Listed : Window → Type 0
    Listed u = ((at u.num).alive ≡ true) × ((at u.num).win.b0 ≡ u.b0)

    listed : (e : ℕ) (us : List Window) → AllBelong made w e (nums us) → All (Alive w f) us → All Listed us
    unfolding nums
    listed e [] b a = tt
    listed e (u ∷ us) b a =
        let x = window_is made w f edges wins live H u.num none b.0.made in
        ((sym x.alive ∙ a.0.alive, ap (λ (v : Win). v.b0) (sym x.win) ∙ ap (λ (v : Window). v.b0) a.0.same), listed e us b.1 a.1)

    retained_all : (us : List Window) → All Listed us → retained wins none (nums us) ≡ nums us
    unfolding nums retained
    retained_all [] a = refl
    retained_all (u ∷ us) a = ap (λ (b : Bool). cond b (u.num ∷ retained wins none (nums us)) (retained wins none (nums us))) a.0.0 ∙ ap (λ (l : List ℕ). u.num ∷ l) (retained_all us a.1)

    abbrev by_start : ℕ → ℕ → Bool
    by_start i j = total_less (at i).win.b0 (at j).win.b0

    insert_nums : (u : Window) (us : List Window) → Listed u → All Listed us → insert_by by_start u.num (nums us) ≡ nums (insert u us)
    unfolding nums insert_by
    insert_nums u [] h a = refl
    insert_nums u (v ∷ vs) h a =
        (λ i. cond (total_less (a.0.1 i) (h.1 i)) (v.num ∷ insert_nums u vs h a.1 i) (u.num ∷ v.num ∷ nums vs))
        ∙ go (total_less v.b0 u.b0) where
          go : (b : Bool) → cond b (v.num ∷ nums (insert u vs)) (u.num ∷ v.num ∷ nums vs) ≡ nums (cond b (v ∷ insert u vs) (u ∷ v ∷ vs))
          go true = refl
          go false = refl

    resorted_nums : (us : List Window) → All Listed us → resorted wins none (nums us) ≡ nums (sorted us)
    unfolding nums sort_by
    resorted_nums [] a = refl
    resorted_nums (u ∷ us) a = ap (insert_by by_start u.num) (resorted_nums us a.1) ∙ insert_nums u (sorted us) a.0 (sorted_all Listed us a.1)

    pub lists_stay : {limit : Float} {len : ℕ → Float} {cs : List Candidate} {n : ℕ} → Follows limit len cs n live → (e : ℕ) → resorted wins none (retained wins none (nums (live e))) ≡ nums (live e)
    lists_stay F e =
        let s = H.on_edge e in
        let a = listed e (live e) s.chain.belong s.windows in
        let t = follows_tidy F e in
        ap (resorted wins none) (retained_all (live e) a)
        ∙ resorted_nums (live e) a
        ∙ ap nums (sorted_self 0 (live e) (all_map {Q = Start} (λ u k. k.point0) (live e) t.wides) (ordered_from (live e) t.ordered) (ordered_differ (live e) t.ordered))
