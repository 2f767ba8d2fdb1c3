-- A loop that offers candidates one after the other, each read from the mesh's buffers: every such loop's invariant and its laws. Assumes nothing.
--     ReadsOffers (what is read), LoopInv (so many turns are done); loop_start, loop_fits, loop_next, loop_stopped, loop_over
use Prim.Native.Nat.{ℕ, suc, ◌+◌, ◌-◌, ◌≤◌, ◌<◌}
use native.Mathlib.Numerals.{add-one}
use native.Mathlib.Omega.{arith}
use mathlib.Core.List.{List}
use mathlib.Core.Path.{◌≡◌, sym, ap, ◌∙◌, subst}
use lib.ListN.{length}
use lib.Ieee.{Float}
use Rattle.std.specs.declared.option.Option.{Option}
use Rattle.std.specs.declared.result.Result.{Result}
use Rattle.std.specs.declared.result.Result.TheVariants.{Ok, Err}
use Rattle.buffers.specs.Lack.{lack_number}
use Rattle.buffers.specs.declared.Lack.{Lack}
use Rattle.trim.specs.of_cut_lists.Buffers.{Cuts}
use Rattle.trim.specs.of_trim_model.Model.{Candidate}
use Rattle.trim.specs.of_trim_split.declared.Counts.{Counts}
use Rattle.trim.specs.of_trim_split.Running as running
use Rattle.trim.specs.of_trim_split.Running.{Snapshot, End}
use Rattle.trim.specs.Buffers.{Slices}
use Rattle.trim.specs.Adding.{snapshot_at, added_end_in}
use Rattle.offers.specs.declared.Offered.{Offered}
use Rattle.offers.specs.Offers.{offer_list, EdgeThere, Offers, OffersTo}
use Rattle.offers.specs.Each.{each_of}
use Rattle.offers.specs.Walks.{MeshIn, edge_data, AddsCandidates}
use Rattle.offers.proofs.Each.{each_more}
use Rattle.offers.proofs.Offers.{offers_none, offers_stop, offers_then}
use Rattle.offers.proofs.Walks.{mesh_kept, SameSizes, same_refl, same_trans, windows_in, windows_same}

-- ---- what is read: offer i, where the buffers hold the mesh and what is asked of it holds
pub record ReadsOffers (v er : List Float) (tw : List ℕ) (tr : List Float) (Asks : List ℕ → ℕ → Type 0) (count : ℕ) (read_at : List ℕ → ℕ → Option Offered) (nth : List ℕ → ℕ → Option Offered) (cs : List ℕ → List Candidate) : Type 0 where
  pub held : (triangles : List ℕ) (n : ℕ) (ew : List ℕ) → MeshIn v triangles n ew er tw tr → Asks triangles n → (i : ℕ) → i < count → read_at ew i ≡ nth triangles i
  pub there : (triangles : List ℕ) (n : ℕ) (ew : List ℕ) → MeshIn v triangles n ew er tw tr → Asks triangles n → (i : ℕ) → i < count → EdgeThere (edge_data v triangles) ew er (nth triangles i)
  pub all : (triangles : List ℕ) (n : ℕ) (ew : List ℕ) → MeshIn v triangles n ew er tw tr → Asks triangles n → each_of (λ i. offer_list (nth triangles i)) count ≡ cs triangles

module _ (limit : Float) (vw : List ℕ) {v er : List Float} {tw : List ℕ} {tr : List Float} {Asks : List ℕ → ℕ → Type 0} {count : ℕ} {read_at nth : List ℕ → ℕ → Option Offered} {cs : List ℕ → List Candidate}
    (reads : ReadsOffers v er tw tr Asks count read_at nth cs) where
  abbrev Does : (cuts windows : ℕ) (triangles : List ℕ) → List Candidate → Snapshot → End → Type 0
  Does cuts windows triangles = Offers cuts windows limit vw (edge_data v triangles)

  abbrev turn : List ℕ → ℕ → List Candidate
  turn triangles i = offer_list (nth triangles i)

  -- one, by what `offer` ensures
  one : (triangles : List ℕ) (n : ℕ) (B : Slices) → MeshIn v triangles n B.edges er tw tr → Asks triangles n → (i : ℕ) → i < count → (counts : Counts) (c : Cuts) (r : Result Counts Lack) (B' : Slices) (c' : Cuts)
      → (o : Option Offered) → o ≡ read_at B.edges i → OffersTo limit vw er o counts B c r B' c' → Does (length c.pts) (windows_in B) triangles (turn triangles i) (snapshot_at counts B) (added_end_in r B')
  one triangles n B m a i q counts c r B' c' o read h =
      let H : o ≡ nth triangles i = read ∙ reads.held triangles n B.edges m a i q in
      subst (λ (o : Option Offered). Does (length c.pts) (windows_in B) triangles (offer_list o) (snapshot_at counts B) (added_end_in r B')) H
      (h.offers (edge_data v triangles) (subst (λ (o : Option Offered). EdgeThere (edge_data v triangles) B.edges er o) (sym H) (reads.there triangles n B.edges m a i q)))

  -- ---- from the buffers B and c on
  module _ (counts : Counts) (B : Slices) (c : Cuts) where
    abbrev DoesFrom : List ℕ → List Candidate → End → Type 0
    DoesFrom triangles ds = Does (length c.pts) (windows_in B) triangles ds (snapshot_at counts B)

    -- i turns are done
    pub record LoopInv (B' : Slices) (c' : Cuts) (now : Counts) (i : ℕ) : Type 0 where
      pub same : SameSizes B B' c c'
      pub fits : now.made ≤ windows_in B
      pub few : i ≤ count
      pub done : (triangles : List ℕ) (n : ℕ) → MeshIn v triangles n B.edges er tw tr → Asks triangles n → DoesFrom triangles (each_of (turn triangles) i) (running.at (snapshot_at now B'))

    pub loop_start : counts.made ≤ windows_in B → LoopInv B c counts 0
    unfolding each_of
    loop_start fits = record {
      same = same_refl B c;
      fits = fits;
      few = omega arith;
      done = λ triangles n m a. offers_none (length c.pts) (windows_in B) limit vw (edge_data v triangles) (snapshot_at counts B);
    }

    abbrev Whole : Result Counts Lack → Slices → Type 0
    Whole r B' = AddsCandidates limit vw v er tw tr Asks cs counts B c r B'

    pub loop_over : (B' : Slices) (c' : Cuts) (now : Counts) (i : ℕ) → LoopInv B' c' now i → count ≤ i → Whole (Ok now) B'
    loop_over B' c' now i inv end =
        let z : i ≡ count = omega (arith, end, inv.few) in
        record {
          bounded = inv.fits;
          adds = λ triangles n m a.
              subst (λ (ds : List Candidate). DoesFrom triangles ds (running.at (snapshot_at now B'))) (ap (each_of (turn triangles)) z ∙ reads.all triangles n B.edges m a) (inv.done triangles n m a);
        }

    -- a turn
    module _ (B₁ : Slices) (c₁ : Cuts) (now : Counts) (i : ℕ) (inv : LoopInv B₁ c₁ now i) (q : i < count) where
      windows₁ : windows_in B₁ ≡ windows_in B
      windows₁ = windows_same B B₁ c c₁ inv.same

      pub loop_fits : now.made ≤ windows_in B₁
      loop_fits = subst (λ (z : ℕ). now.made ≤ z) (sym windows₁) inv.fits

      -- what is read is offered
      module _ (o : Option Offered) (read : o ≡ read_at B₁.edges i) where
        abbrev Turn : Result Counts Lack → Slices → Cuts → Type 0
        Turn r B₂ c₂ = OffersTo limit vw er o now B₁ c₁ r B₂ c₂

        turned : (r : Result Counts Lack) (B₂ : Slices) (c₂ : Cuts) → Turn r B₂ c₂ → (triangles : List ℕ) (n : ℕ) → MeshIn v triangles n B.edges er tw tr → Asks triangles n → DoesFrom triangles (each_of (turn triangles) (suc i)) (added_end_in r B₂)
        unfolding each_of
        turned r B₂ c₂ h triangles n m a =
            offers_then (length c.pts) (windows_in B) limit vw (edge_data v triangles) (each_of (turn triangles) i) (turn triangles i) (snapshot_at counts B) (snapshot_at now B₁) (inv.done triangles n m a) (added_end_in r B₂)
            (λ u. subst (λ (z : ℕ). Does z (windows_in B) triangles (turn triangles i) (snapshot_at now B₁) (added_end_in r B₂)) inv.same.pts
            (subst (λ (z : ℕ). Does (length c₁.pts) z triangles (turn triangles i) (snapshot_at now B₁) (added_end_in r B₂)) windows₁
            (one triangles n B₁ (mesh_kept v triangles n er tw tr B.edges B₁.edges inv.same.edges u.edges m) a i q now c₁ r B₂ c₂ o read h)))

        pub loop_stopped : (lack : Lack) (B₂ : Slices) (c₂ : Cuts) → Turn (Err lack) B₂ c₂ → Whole (Err lack) B₂
        loop_stopped lack B₂ c₂ h = record {
          bounded = tt;
          adds = λ triangles n m a.
              let j = count - suc i in
              let z : suc i + j ≡ count = omega (arith, q) in
              subst (λ (ds : List Candidate). DoesFrom triangles ds (running.stopped (lack_number lack))) (sym (each_more (turn triangles) (suc i) j) ∙ ap (each_of (turn triangles)) z ∙ reads.all triangles n B.edges m a)
              (offers_stop (length c.pts) (windows_in B) limit vw (edge_data v triangles) (each_of (turn triangles) (suc i)) (each_of (λ k. turn triangles (suc i + k)) j) (snapshot_at counts B) (lack_number lack)
              (turned (Err lack) B₂ c₂ h triangles n m a));
        }

        pub loop_next : (now₂ : Counts) (B₂ : Slices) (c₂ : Cuts) → SameSizes B₁ B₂ c₁ c₂ → Turn (Ok now₂) B₂ c₂ → LoopInv B₂ c₂ now₂ (i + 1)
        loop_next now₂ B₂ c₂ same h = record {
          same = same_trans B B₁ B₂ c c₁ c₂ inv.same same;
          fits = subst (λ (z : ℕ). now₂.made ≤ z) windows₁ h.bounded;
          few = omega (arith, q);
          done = λ triangles n m a.
              subst (λ (j : ℕ). DoesFrom triangles (each_of (turn triangles) j) (running.at (snapshot_at now₂ B₂))) (sym (add-one i)) (turned (Ok now₂) B₂ c₂ h triangles n m a);
        }
