-- The face beyond an edge is one of its faces, or none; a face of an edge is one of the mesh's. Assumes nothing.
use Rattle.std.specs.Prelude.{Option, Some, None}
use Prim.Native.Nat.{ℕ, ◌/◌, ◌<◌}
use native.Mathlib.Omega.{arith}
use mathlib.Core.Bool.{Bool}
use mathlib.Core.List.{List}
use lib.ListN.{length}
use lib.Ieee.{Float}
use Rattle.job_checks.specs.Sound.{ValidTriangles}
use Rattle.topology.specs.Edges.{edges, other}
use Rattle.topology.proofs.Checked.{edge_ends}
use Rattle.topology.proofs.Faces.{face_in_range}
use Rattle.topology.proofs.Other.{other_listed}
use Rattle.pop.specs.of_better.Claim.{All}
use Rattle.spread_offers.specs.of_source_windows.declared.CandidateWindow.{CandidateWindow}
use Rattle.pop.specs.of_trim_model.Model.{Candidate}
use Rattle.spread_offers.specs.of_offers.Offers.{offer_list}
use Rattle.spread_offers.specs.of_offers.Walks.{edge_data}
use Rattle.spread_offers.specs.of_source_offers.Offering.{offered}
use Rattle.windows_there.specs.There.{FaceOf, GoesInto, CandidateThere, EndsThere}

module _ (triangles : List ℕ) (n : ℕ) (valid : ValidTriangles triangles n) (e : ℕ) (l : e < length (edges triangles)) where
  pub other_into : (f : ℕ) → GoesInto triangles e (other triangles e f)
  other_into f = (l, other_listed triangles n valid e l f)

  pub face_there : (g : ℕ) → FaceOf triangles e g → g < length triangles / 3
  face_there g of = omega (arith, face_in_range triangles e l of.0 of.1.0, of.1.1, valid.whole)

-- what is offered goes into what it is said to
pub offered_into : (P : ℕ → ℕ → Type 0) (e into : ℕ) → P e into → (queued : Bool) (range : Option CandidateWindow) → All (CandidateThere P) (offer_list (offered e into queued range))
unfolding offered
offered_into P e into h queued None = tt
offered_into P e into h queued (Some w) = (h, tt)

-- its edge's ends are vertices of the mesh
pub into_ends : (v : List Float) (triangles : List ℕ) (n : ℕ) → ValidTriangles triangles n → (c : Candidate) → CandidateThere (GoesInto triangles) c → EndsThere n (edge_data v triangles) c
into_ends v triangles n valid c h = let e = edge_ends triangles n valid c.edge h.0 in (omega (arith, e.0, e.1), e.1)
