-- What a walk that offers candidates keeps: the mesh in its buffers, and the lengths of all. Assumes nothing.
use Prim.Native.Nat.{ℕ, ◌+◌, ◌*◌, ◌≤◌, ◌<◌}
use native.Mathlib.Omega.{arith}
use mathlib.Core.List.{List}
use mathlib.Core.Logic.{◌≢◌}
use mathlib.Core.Path.{◌≡◌, refl, sym, ap, ◌∙◌, subst}
use lib.ListN.{length, get_or}
use lib.Ieee.{Float}
use Rattle.layout.specs.Layout.{words_per_edge, edge_head, edge_scratch}
use Rattle.buffers.specs.Slots.{slots_of}
use Rattle.topology.specs.Edges.{edges}
use Rattle.windows.specs.Windows.{capacity_of}
use Rattle.mesh_readers.specs.Readers.{trim_edge_at}
use Rattle.mesh_readers.proofs.Held.{trim_edge_held}
use Rattle.mesh_readers.proofs.Mesh.{mesh_stays}
use Rattle.trim.specs.of_cut_lists.Buffers.{Cuts}
use Rattle.trim.specs.of_cut_lists.Cut.{Sizes}
use Rattle.trim.specs.of_trim_state.State.{edge_in}
use Rattle.trim.specs.Buffers.{Slices}
use Rattle.offers.specs.Walks.{MeshIn, edge_data}

-- what no addition touches holds the mesh still
module _ (v : List Float) (triangles : List ℕ) (n : ℕ) (er : List Float) (tw : List ℕ) (tr : List Float) (ew ew' : List ℕ) (long : length ew' ≡ length ew)
    (kept : (i : ℕ) → ((e : ℕ) → Unit {0} → (i ≢ words_per_edge * e + edge_head) × (i ≢ words_per_edge * e + edge_scratch)) → get_or ew' i 0 ≡ get_or ew i 0) where
  pub mesh_kept : MeshIn v triangles n ew er tw tr → MeshIn v triangles n ew' er tw tr
  mesh_kept m = record {
    mesh = mesh_stays v triangles n er tr (λ e. Unit {0}) tw ew ew' kept m.mesh;
    slots = subst (λ (z : ℕ). length (edges triangles) ≤ slots_of z words_per_edge) (sym long) m.slots;
  }

-- an edge of the mesh has a slot and stands there
pub edge_there : (v : List Float) (triangles : List ℕ) (n : ℕ) (ew : List ℕ) (er : List Float) (tw : List ℕ) (tr : List Float) → MeshIn v triangles n ew er tw tr → (e : ℕ) → e < length (edges triangles)
    → (e < slots_of (length ew) words_per_edge) × (edge_in (edge_data v triangles) e ≡ trim_edge_at ew er e)
edge_there v triangles n ew er tw tr m e l = (omega (arith, l, m.slots), sym (trim_edge_held triangles ew m.mesh.ends v er m.mesh.lengths e l))

-- buffers of the same lengths
pub record SameSizes (B B' : Slices) (c c' : Cuts) : Type 0 where
  pub edges : length B'.edges ≡ length B.edges
  pub words : length B'.words ≡ length B.words
  pub reals : length B'.reals ≡ length B.reals
  pub keys : length B'.keys ≡ length B.keys
  pub events : length B'.events ≡ length B.events
  pub vertex : length B'.vertex ≡ length B.vertex
  pub pts : length c'.pts ≡ length c.pts
  pub out : length c'.out ≡ length c.out
  pub keep : length c'.keep ≡ length c.keep
  pub next : length c'.next ≡ length c.next

pub same_refl : (B : Slices) (c : Cuts) → SameSizes B B c c
same_refl B c = record { edges = refl; words = refl; reals = refl; keys = refl; events = refl; vertex = refl; pts = refl; out = refl; keep = refl; next = refl }

pub same_trans : (B B' B'' : Slices) (c c' c'' : Cuts) → SameSizes B B' c c' → SameSizes B' B'' c' c'' → SameSizes B B'' c c''
same_trans B B' B'' c c' c'' h g = record {
  edges = g.edges ∙ h.edges;
  words = g.words ∙ h.words;
  reals = g.reals ∙ h.reals;
  keys = g.keys ∙ h.keys;
  events = g.events ∙ h.events;
  vertex = g.vertex ∙ h.vertex;
  pts = g.pts ∙ h.pts;
  out = g.out ∙ h.out;
  keep = g.keep ∙ h.keep;
  next = g.next ∙ h.next;
}

pub sizes_same : (B B' : Slices) (c c' : Cuts) → SameSizes B B' c c' → Sizes (length c.pts) c.out c.keep c.next → Sizes (length c'.pts) c'.out c'.keep c'.next
sizes_same B B' c c' h s = record {
  outs = h.out ∙ s.outs ∙ ap (λ (n : ℕ). n + n) (sym h.pts);
  keeps = h.keep ∙ s.keeps ∙ ap (λ (n : ℕ). n + n) (sym h.pts);
  nexts = h.next ∙ s.nexts ∙ ap (λ (n : ℕ). n + n) (sym h.pts);
}

abbrev pub windows_in : Slices → ℕ
windows_in B = capacity_of (length B.words) (length B.reals)

pub windows_same : (B B' : Slices) (c c' : Cuts) → SameSizes B B' c c' → windows_in B' ≡ windows_in B
windows_same B B' c c' h = (λ i. capacity_of (h.words i) (h.reals i))
