-- The buffers of a finished field are a function of the mesh as it was built, the state, the entries and the job's pieces. Assumes nothing.
use Prim.Native.Nat.{ℕ, ◌*◌, ◌-◌, ◌/◌, ◌≤◌, ◌<◌}
use native.Mathlib.Omega.{arith}
use mathlib.Core.List.{List}
use mathlib.Core.Path.{◌≡◌, sym, ap, subst, ◌∙◌}
use lib.ListN.{length, get_or, drop, replicate}
use lib.Ieee.{Float}
use Rattle.layout.specs.Layout.{words_per_edge, words_per_window, reals_per_window}
use Rattle.float64.specs.Scalar.{zero64}
use Rattle.windows.specs.Windows.{capacity_of}
use Rattle.chains.specs.Chains.{Links, links}
use Rattle.face_entries.specs.of_mesh.Topology.{MeshBuffers}
use Rattle.face_entries.specs.of_mesh.Held.{Held, Fresh, Worked}
use Rattle.face_entries.proofs.laws_of_mesh.Keeping.{held_kept}
use Rattle.last_pass.specs.of_mesh_readers.Readers.{trim_edge_at}
use Rattle.offers.proofs.laws_of_mesh_readers.Held.{trim_edge_held}
use Rattle.topology.specs.Edges.{edges}
use Rattle.offers.specs.Walks.{edge_data}
use Rattle.offers.specs.of_cut_lists.Buffers.{Cuts}
use Rattle.offers.specs.of_trim_state.State.{State, EdgeData, edge_in}
use Rattle.offers.specs.of_trim_split.Running.{Untouched}
use Rattle.offers.specs.of_trim_split.declared.Counts.{Counts}
use Rattle.offers.specs.of_trim.Buffers.{Slices}
use Rattle.offers.specs.of_trim.Adding.{snapshot_at}
use Rattle.actions.specs.Actions.{Stock}
use Rattle.contents.specs.of_trim_model.Model.{Candidate}
use Rattle.offers.specs.Offers.{StandsFor}
use Rattle.contents.specs.of_live_windows.Live.{HoldsWindows}
use Rattle.contents.specs.Contents.{words_of, reals_of_all}
use Rattle.contents.proofs.Forgotten.{kept}
use Rattle.contents.proofs.Held.{drop_zeros, words_are, reals_are_all}
use Rattle.face_entries.specs.Entries.{FaceEntry, HoldsOnly, entry_words}
use Rattle.face_entries.proofs.Content.{only_these}
use Rattle.last_pass.specs.Lowered.{lowered_all}
use Rattle.last_pass.proofs.Held.{lowered_held}
use Rattle.zero_buffers.specs.ZeroIf.{zero_reals}
use Rattle.finish.specs.Finish.{FinishesTo}
use Rattle.finish.specs.Contents.{FieldBuffers, slices_of, FieldContents, BuffersKept, no_windows, WorkIn, after_finish}
use Rattle.finish.proofs.Edges.{windows_stand, edge_words_are}

words_fit : (made m n : ℕ) → made ≤ capacity_of m n → words_per_window * made ≤ m
words_fit made m n h = omega (arith, h)

reals_fit : (made m n : ℕ) → made ≤ capacity_of m n → reals_per_window * made ≤ n
reals_fit made m n h = omega (arith, h)

-- zeros behind the first k elements
behind : {A : Type 0} (z : A) (k n : ℕ) (l : List A) → length l ≡ n → drop k l ≡ drop k (replicate n z) → drop k l ≡ replicate (length l - k) z
behind z k n l s h = h ∙ drop_zeros z k n ∙ ap (λ (m : ℕ). replicate (m - k) z) (sym s)

module _ (built : MeshBuffers) (mesh : EdgeData) (edges : ℕ) (counts : Counts) (entered : ℕ) (s : State) (xs : List FaceEntry) (kinds : List ℕ) (coords : List Float) (b b₁ : FieldBuffers)
    (w : WorkIn built mesh edges counts entered s xs kinds coords b b₁) where
  -- ---- before `finish`, what it doesn't change
  pub window_words_are : b₁.words ≡ words_of (length b.words) s.wins s.live
  window_words_are =
      words_are counts.made s.wins b₁.mesh.edge_words_held b₁.words b₁.reals s.live w.holds (words_fit counts.made (length b₁.words) (length b₁.reals) w.fits) (reals_fit counts.made (length b₁.words) (length b₁.reals) w.fits)
      (behind 0 (words_per_window * counts.made) (length b.words) b₁.words w.kept.same.words w.untouched.words)
      ∙ ap (λ (n : ℕ). words_of n s.wins s.live) w.kept.same.words

  pub window_reals_are : b₁.reals ≡ reals_of_all (length b.reals) s.wins
  window_reals_are =
      reals_are_all counts.made s.wins b₁.mesh.edge_words_held b₁.words b₁.reals s.live w.holds (words_fit counts.made (length b₁.words) (length b₁.reals) w.fits) (reals_fit counts.made (length b₁.words) (length b₁.reals) w.fits)
      (behind zero64 (reals_per_window * counts.made) (length b.reals) b₁.reals w.kept.same.reals w.untouched.reals)
      ∙ ap (λ (n : ℕ). reals_of_all n s.wins) w.kept.same.reals

  -- ---- and after it: z and c are what it left
  module _ (z : Slices) (c : Cuts) (ends : FinishesTo edges counts.made b₁.mesh.edge_reals_held (slices_of b₁) b₁.cuts z c) where
    zeros : (l l₁ r : List Float) → length l₁ ≡ length l → r ≡ zero_reals l₁ → r ≡ zero_reals l
    zeros l l₁ r e h = h ∙ ap (λ (n : ℕ). replicate n zero64) e

    pub contents_are : FieldContents built mesh edges s xs kinds coords b (after_finish b₁ z c)
    contents_are =
        let only = only_these built.triangle_words_held entered b₁.mesh.triangle_words_held b₁.entry_words_held xs w.entries in
        record {
          vertex_words_held = w.kept.vertex_words_held;
          edge_words_held = ends.edges
              ∙ edge_words_are built.edge_words_held b₁.mesh.edge_words_held w.kept.edge_length counts.made s.wins b₁.words b₁.reals s.live w.holds w.fresh.scratch (λ i ne. w.untouched.edges i (λ e u. ne e));
          edge_reals_held = w.kept.edge_reals_held;
          round = w.kept.round;
          triangle_words_held = only.1.0;
          triangle_reals = w.kept.triangle_reals;
          vertex = ends.vertex
              ∙ lowered_held counts.made s.wins (links b₁.mesh.edge_words_held b₁.words) b₁.reals b₁.mesh.edge_reals_held s.live mesh w.holds edges w.edge_data_held b₁.vertex
              ∙ ap (lowered_all edges mesh s.live) (sym w.distances);
          piece_words = w.kept.piece_words;
          piece_reals = w.kept.piece_reals;
          words = ends.words ∙ window_words_are;
          reals = ends.reals ∙ window_reals_are;
          keys = zeros b.keys b₁.keys z.keys w.kept.same.keys ends.keys;
          events = ends.events ∙ ap (λ (n : ℕ). replicate n 0) w.kept.same.events;
          cuts = ends.cuts ∙ (λ i. record {
            pts = replicate (w.kept.same.pts i) zero64;
            out = replicate (w.kept.same.out i) zero64;
            keep = replicate (w.kept.same.keep i) zero64;
            next = replicate (w.kept.same.next i) zero64;
          });
          entry_words_held = only.1.1 ∙ ap (λ (n : ℕ). entry_words n xs) w.kept.same.entry_words_held;
          scratch = w.kept.scratch;
          other_scratch = w.kept.other_scratch;
        }

    -- ---- what it kept
    pub windows_held : HoldsWindows counts.made s.wins (links z.edges z.words) z.reals s.live
    windows_held =
        subst (λ (f : List Float). HoldsWindows counts.made s.wins (links z.edges z.words) f s.live) (sym ends.reals)
        (subst (λ (l : Links). HoldsWindows counts.made s.wins l b₁.reals s.live) (λ i. links (sym ends.edges i) (sym ends.words i))
        (windows_stand built.edge_words_held b₁.mesh.edge_words_held w.kept.edge_length counts.made s.wins b₁.words b₁.reals s.live w.holds w.fresh.scratch (λ i ne. w.untouched.edges i (λ e u. ne e))))

    pub mesh_worked : Worked built (after_finish b₁ z c).mesh
    mesh_worked = record {
      vertex_words_held = w.kept.vertex_words_held;
      edge_words_held = λ i ne. ap (λ (l : List ℕ). get_or l i 0) ends.edges ∙ kept (length b₁.mesh.edge_words_held / words_per_edge) b₁.mesh.edge_words_held i (λ e l. (ne e).1) ∙ w.untouched.edges i (λ e u. ne e);
      edge_reals_held = w.kept.edge_reals_held;
      round = w.kept.round;
      triangle_words_held = w.entries.others;
      triangle_reals = w.kept.triangle_reals;
    }

    pub mesh_held : (v : List Float) (triangles flags : List ℕ) → Held v triangles flags built → Held v triangles flags (after_finish b₁ z c).mesh
    mesh_held v triangles flags h = held_kept built (after_finish b₁ z c).mesh mesh_worked v triangles flags h

-- the edges of a mesh whose words changed in nothing but chain heads and scratch words
pub edge_data_held_lem : (v : List Float) (triangles flags : List ℕ) (built m : MeshBuffers) → Held v triangles flags built → Worked built m
    → (e : ℕ) → e < length (edges triangles) → edge_in (edge_data v triangles) e ≡ trim_edge_at m.edge_words_held m.edge_reals_held e
edge_data_held_lem v triangles flags built m h k e l =
    let held = held_kept built m k v triangles flags h in
    sym (trim_edge_held triangles m.edge_words_held held.ends v m.edge_reals_held held.lengths e l)

-- `WorkIn` from what insertion and the main loop say of the buffers, for a mesh that was built from a job
module _ (v : List Float) (triangles flags : List ℕ) (built : MeshBuffers) (fresh : Fresh built) (held : Held v triangles flags built) (limit : Float) (past : List Candidate)
    (counts : Counts) (entered : ℕ) (s : State) (xs : List FaceEntry) (kinds : List ℕ) (coords : List Float) (b b₁ : FieldBuffers) (start : Slices)
    (kept : BuffersKept built kinds coords b b₁)
    (fits : counts.made ≤ capacity_of (length b₁.words) (length b₁.reals))
    (stands : StandsFor limit (edge_data v triangles) past s (snapshot_at counts (slices_of b₁)))
    (untouched : Untouched (λ e. Unit {0}) (no_windows built b start) (snapshot_at counts (slices_of b₁)))
    (entries : HoldsOnly built.triangle_words_held entered b₁.mesh.triangle_words_held b₁.entry_words_held xs) where
  work_done : Worked built b₁.mesh
  work_done = record {
    vertex_words_held = kept.vertex_words_held;
    edge_words_held = λ i ne. untouched.edges i (λ e u. ne e);
    edge_reals_held = kept.edge_reals_held;
    round = kept.round;
    triangle_words_held = entries.others;
    triangle_reals = kept.triangle_reals;
  }

  pub work_in : WorkIn built (edge_data v triangles) (length (edges triangles)) counts entered s xs kinds coords b b₁
  work_in = record {
    fresh = fresh;
    kept = kept;
    fits = fits;
    start = start;
    untouched = untouched;
    holds = stands.holds;
    distances = ap (λ (t : Stock). t.vertex) stands.stock;
    entries = entries;
    edge_data_held = edge_data_held_lem v triangles flags built b₁.mesh held work_done;
  }
