-- What is read for a window or a vertex, candidate by candidate, is what the Rust adds. Assumes nothing.
use Rattle.std.specs.declared.option.Option.{Option}
use Prim.Native.Nat.{ℕ}
use mathlib.Core.List.{List}
use mathlib.Core.Path.{◌≡◌, ◌∙◌, subst}
use lib.Ieee.{Float}
use Rattle.buffers.specs.declared.Lack.{Lack}
use Rattle.spread_offers.specs.of_cut_lists.Buffers.{Cuts}
use Rattle.spread_offers.specs.of_trim_split.declared.Counts.{Counts}
use Rattle.spread_offers.specs.of_trim.Buffers.{Slices}
use Rattle.std.specs.declared.result.Result.{Result}
use Rattle.spread_offers.specs.of_offers.declared.Offered.{Offered}
use Rattle.spread_offers.specs.of_offers.Walks.{MeshIn, AddsCandidates}
use Rattle.spread_offers.proofs.laws_of_offers.Loop.{ReadsOffers}
use Rattle.spread_offers.specs.declared.Opposite.{Opposite}
use Rattle.spread_offers.specs.declared.Spread.{Spread}
use Rattle.spread_offers.specs.Spreading.{spread_candidates, spread_count_at, opposite_at, spread_offer_at}
use Rattle.spread_offers.proofs.Numbered.{spread_nth, spread_all, opposite_is_held, spread_held, spread_there}
use Rattle.spread.specs.Walk.{SpreadIn}

-- o is the face ahead, as it is read before the first candidate, from the edges ew₀
module _ (v : List Float) (buffer : List ℕ) (er : List Float) (tw : List ℕ) (tr : List Float) (vw round : List ℕ) (s : Spread) (ew₀ : List ℕ) (o : Opposite) where
  abbrev pub spread_read_at : List ℕ → ℕ → Option Offered
  spread_read_at ew i = spread_offer_at v ew er tw tr vw round o s i

  -- those edges are the mesh's too
  abbrev pub ReadFirst : List ℕ → ℕ → Type 0
  ReadFirst triangles n = SpreadIn buffer vw round s triangles n × (MeshIn v triangles n ew₀ er tw tr × (o ≡ opposite_at v buffer ew₀ er tw tr s))

  pub reads_spread : ReadsOffers v er tw tr ReadFirst (spread_count_at vw s) spread_read_at (λ triangles i. spread_nth v triangles s i) (λ triangles. spread_candidates v triangles s)
  reads_spread = record {
    held = λ triangles n ew m a i q. spread_held v triangles n ew er tw tr vw round a.0.rounds m.mesh s a.0.there o
        (a.1.1 ∙ (λ t. opposite_at v (a.0.same t) ew₀ er tw tr s) ∙ opposite_is_held v triangles n ew₀ er tw tr vw round a.0.rounds a.1.0.mesh s a.0.there) i q;
    there = λ triangles n ew m a i q. spread_there v triangles n ew er tw tr vw round a.0.rounds m s a.0.there i q;
    all = λ triangles n ew m a. spread_all v triangles n m.mesh.valid vw round a.0.rounds s a.0.there;
  }

  pub read_first : o ≡ opposite_at v buffer ew₀ er tw tr s → (limit : Float) (counts : Counts) (b : Slices) → b.edges ≡ ew₀ → (c : Cuts) (r : Result Counts Lack) (b' : Slices)
      → AddsCandidates limit vw v er tw tr ReadFirst (λ triangles. spread_candidates v triangles s) counts b c r b'
      → AddsCandidates limit vw v er tw tr (SpreadIn buffer vw round s) (λ triangles. spread_candidates v triangles s) counts b c r b'
  read_first known limit counts b same c r b' h = record {
    bounded = h.bounded;
    adds = λ triangles n m a. h.adds triangles n m (a, (subst (λ (ew : List ℕ). MeshIn v triangles n ew er tw tr) same m, known));
  }
