-- The laws of a field that a job returned, of its state and of the buffers: mesh_laws, window_laws. Assumes nothing.
use Prim.Native.Nat.{ℕ, zero, suc, ◌+◌, ◌*◌, ◌-◌, ◌/◌, ◌%◌, ◌≤◌, ◌<◌}
use native.Mathlib.Omega.{arith}
use native.Mathlib.Decide.{dec_le}
use native.Mathlib.Nat.{div-add-mod'}
use mathlib.Core.Bool.{Bool, true, false, cond, ◌&&◌}
use mathlib.Core.List.{List, [], ◌∷◌}
use mathlib.Core.Logic.{◌⊎◌, ◌≢◌}
use mathlib.Core.Path.{◌≡◌, refl, sym, ap, subst, ◌∙◌}
use borrow.Author.Tests.{ne_eqb, lt-ltb, le-leb}
use lib.Dec.{T, eqb}
use lib.ListN.{length, length-append, get_or, replicate, length-replicate, get_or-eq_default}
use lib.Ieee.{Float, lt}
use Rattle.layout.specs.Layout.{words_per_edge, edge_head, edge_scratch, words_per_triangle, triangle_first_entry, triangle_last_entry, words_per_window, reals_per_window}
use Rattle.float64.specs.Scalar.{zero64}
use Rattle.nat_laws.proofs.Lists.{length_list_of, get_d_list_of}
use Rattle.work_laws.specs.of_better.Claim.{All, Point}
use Rattle.buffers.specs.declared.EdgeId.{EdgeId}
use Rattle.buffers.specs.declared.FaceId.{FaceId}
use Rattle.std.specs.Prelude.{None, Some}
use Rattle.heap.specs.Queue.{Queue, at, slots, popped, popping, Popped}
use Rattle.heap.specs.Model.{weight_of}
use Rattle.windows.specs.declared.WindowRecord.{WindowRecord}
use Rattle.windows.specs.Windows.{capacity_of, window_at, edge_stored, into_of}
use Rattle.chains.specs.Chains.{Links, links, head_of, next_link, first_link}
use Rattle.chains.proofs.Paths.{path_first}
use Rattle.job_checks.specs.Job.{Job, vertex_count, triangle_count}
use Rattle.job_checks.specs.Sound.{ValidTriangles}
use Rattle.topology.specs.Edges.{no_face, edges, vertex_faces}
use Rattle.topology.specs.Frames.{len}
use Rattle.topology.proofs.Checked.{edge_ends}
use Rattle.topology.proofs.Edges.{tri_edge_there}
use Rattle.topology.proofs.Other.{face_or_none}
use Rattle.work_laws.specs.of_frames.Stored.{face_at}
use Rattle.vertex_faces.specs.Ranges.{degree_among, start_of, end_of}
use Rattle.vertex_faces.proofs.Ranges.{sums_grow}
use Rattle.vertex_faces.proofs.Sides.{start_sum, total_is}
use Rattle.work_laws.specs.of_mesh.Topology.{MeshBuffers}
use Rattle.work_laws.specs.of_mesh.Held.{Held, Worked}
use Rattle.work_laws.proofs.laws_of_mesh.Keeping.{held_kept}
use Rattle.work_laws.proofs.laws_of_mesh_readers.Mesh.{mesh_round}
use Rattle.work_laws.proofs.laws_of_mesh_readers.Round.{entry_there}
use Rattle.work_laws.specs.of_trim_model.Intervals.{tiny_of}
use Rattle.work_laws.specs.of_trim_model.Windows.{Window}
use Rattle.work_laws.proofs.laws_of_trim_model.Lists.{all_map2}
use Rattle.work_laws.proofs.laws_of_trim_model.Ranks.{by_cases, rank_lt, wide_pos, tiny_nonneg}
use Rattle.work_laws.proofs.laws_of_trim_model.Windows.{Wide}
use Rattle.work_laws.specs.of_trim_state.State.{State}
use Rattle.work_laws.proofs.laws_of_trim_state.Follows.{follows_differ, follows_below, follows_tidy, follows_demand3}
use Rattle.work_laws.specs.of_live_windows.Live.{nums, HoldsWindows}
use Rattle.work_laws.proofs.laws_of_live_windows.Places.{short}
use Rattle.work_laws.proofs.laws_of_pop.Pending.{window_is}
use Rattle.field_model.specs.of_contents.Contents.{padded, words_from, reals_from, reals_of_all, link_after}
use Rattle.work_laws.specs.of_windows_there.There.{FaceOf, GoesInto, LiveThere}
use Rattle.work_laws.proofs.laws_of_windows_there.Kept.{there_at}
use Rattle.field_model.specs.of_face_entries.Entries.{FaceEntry, word_with, triangles_with}
use Rattle.work_laws.specs.of_field_step.Step.{is_empty, no_window}
use Rattle.work_laws.specs.of_insertion.Insertion.{Inserted}
use Rattle.work_laws.proofs.laws_of_last_pass.Finished.{low_stored}
use Rattle.field_model.specs.of_offers.Walks.{edge_data}
use Rattle.field_model.specs.of_finish.Contents.{FieldBuffers, FieldContents, edge_word_with, edges_with}
use Rattle.work_laws.specs.of_run_steps.Run.{field}
use Rattle.work_laws.specs.of_insert_job.Field.{begun_job}
use Rattle.field_model.specs.of_compute_spec.Compute.{work_slices_in, compute_by_heap}
use Rattle.work_laws.specs.Account.{names, waiting, OnRecord}
use Rattle.work_laws.specs.Laws.{StateLaws}
use Rattle.field_laws.specs.Demands.{MeshLaws, WindowLaws}
use Rattle.field_laws.proofs.Held.{length_words, length_reals, link_is, contents_hold}
use Rattle.field_laws.proofs.Job.{job_candidates, finished_as, built, sound_job, mesh_held, edge_slots, long, laws, no_event}

-- ---- no event is queued
queue_empty : (q : Queue) (n : ℕ) → n ≤ slots q → is_empty (popping q n).0 ≡ true → n ≡ 0
unfolding is_empty
queue_empty q zero h e = refl
queue_empty q (suc n) h e =
    let z : (popping q (suc n)).0 ≡ Some (at q 0, suc n - 1) = (λ i. (cond {A = Popped × Queue} (lt-ltb 0 (suc n) (omega arith) i && le-leb (suc n) (slots q) h i) (Some (at q 0, suc n - 1), popped q (suc n - 1)) (None, q)).0) in
    absurd (subst T (sym (sym (ap is_empty z) ∙ e)) tt)

-- so none of the windows that have events where they are queued is queued
all_idle : (wins : List WindowRecord) (events : ℕ → ℕ) → ((i : ℕ) → events i ≡ 0) → (e : ℕ) (us : List Window) → All (OnRecord wins events e) us → All (λ (u : Window). u.carried.queued ≡ false) us
all_idle wins events none e [] a = tt
all_idle wins events none e (u ∷ us) a = (go u.carried.queued (λ q. let z = a.0.waits q in let w : ⊥ = omega (arith, z, none u.num) in w), all_idle wins events none e us a.1) where
  go : (b : Bool) → (b ≡ true → ⊥) → b ≡ false
  go true h = absurd (h refl)
  go false h = refl

-- ---- words that a field does not write
edges_kept : (t : List ℕ) (live : ℕ → List Window) (i : ℕ) → ((e : ℕ) → (i ≢ words_per_edge * e + edge_head) × (i ≢ words_per_edge * e + edge_scratch)) → get_or (edges_with t live) i 0 ≡ get_or t i 0
unfolding edge_word_with
edges_kept t live i ne = go (dec_le (length t) i) where
  is : i / words_per_edge * words_per_edge + i % words_per_edge ≡ i
  is = div-add-mod' i words_per_edge

  other : i % words_per_edge ≡ edge_head → ⊥
  other h = (ne (i / words_per_edge)).0 (omega (arith, is, h))

  go : Dec (length t ≤ i) → get_or (edges_with t live) i 0 ≡ get_or t i 0
  go (yes h) = get_or-eq_default (edges_with t live) 0 (subst (λ (z : ℕ). z ≤ i) (sym (length_list_of (length t) (edge_word_with t live))) h) ∙ sym (get_or-eq_default t 0 h)
  go (no h) = get_d_list_of (length t) (edge_word_with t live) i 0 (omega (arith, h)) ∙ rw (ne_eqb (i % words_per_edge) edge_head other) refl

triangles_kept : (t : List ℕ) (xs : List FaceEntry) (i : ℕ) → ((f : ℕ) → (i ≢ words_per_triangle * f + triangle_first_entry) × (i ≢ words_per_triangle * f + triangle_last_entry)) → get_or (triangles_with t xs) i 0 ≡ get_or t i 0
unfolding word_with
triangles_kept t xs i ne = go (dec_le (length t) i) where
  is : i / words_per_triangle * words_per_triangle + i % words_per_triangle ≡ i
  is = div-add-mod' i words_per_triangle

  first : i % words_per_triangle ≡ triangle_first_entry → ⊥
  first h = (ne (i / words_per_triangle)).0 (omega (arith, is, h))

  last : i % words_per_triangle ≡ triangle_last_entry → ⊥
  last h = (ne (i / words_per_triangle)).1 (omega (arith, is, h))

  go : Dec (length t ≤ i) → get_or (triangles_with t xs) i 0 ≡ get_or t i 0
  go (yes h) = get_or-eq_default (triangles_with t xs) 0 (subst (λ (z : ℕ). z ≤ i) (sym (length_list_of (length t) (word_with t xs))) h) ∙ sym (get_or-eq_default t 0 h)
  go (no h) = get_d_list_of (length t) (word_with t xs) i 0 (omega (arith, h)) ∙ rw (ne_eqb (i % words_per_triangle) triangle_first_entry first, ne_eqb (i % words_per_triangle) triangle_last_entry last) refl

all_at : {A : Type 0} (P : A → Type 0) (l : List A) → All P l → (i : ℕ) (d : A) → i < length l → P (get_or l i d)
all_at P [] a i d h = absurd (omega (arith, h))
all_at P (x ∷ l) a zero d h = a.0
all_at P (x ∷ l) a (suc i) d h = all_at P l a.1 i d (omega (arith, h))

-- an edge past the mesh's has no windows
no_live : (edge_count_held e : ℕ) (Q : Window → Type 0) (us : List Window) → All (λ (u : Window). (e < edge_count_held) × Q u) us → edge_count_held ≤ e → us ≡ []
no_live edge_count_held e Q [] a h = refl
no_live edge_count_held e Q (u ∷ us) a h = let z = a.0.0 in absurd (omega (arith, z, h))

first_below : (m : ℕ) (is : List ℕ) → All (λ (i : ℕ). i < m) is → first_link is ≤ m
unfolding first_link
first_below m [] a = omega arith
first_below m (i ∷ is) a = a.0

nums_below : (m : ℕ) (us : List Window) → All (λ (u : Window). u.num < m) us → All (λ (i : ℕ). i < m) (nums us)
unfolding nums
nums_below m [] a = tt
nums_below m (u ∷ us) a = (a.0, nums_below m us a.1)

length_nums : (us : List Window) → length (nums us) ≡ length us
unfolding nums
length_nums [] = refl
length_nums (u ∷ us) = ap suc (length_nums us)

link_below_lem : (m i : ℕ) (is : List ℕ) → All (λ (k : ℕ). k < m) is → link_after i is ≤ m
unfolding link_after
link_below_lem m i [] a = omega arith
link_below_lem m i (k ∷ is) a = by_cases (λ (b : Bool). cond b (first_link is) (link_after i is) ≤ m) (eqb i k) (λ y. first_below m is a.1) (λ y. link_below_lem m i is a.1)

-- the faces round a vertex end within the list of all
range_ends : (triangles : List ℕ) (n : ℕ) → ValidTriangles triangles n → (k : ℕ) → k < n → end_of triangles k ≤ length triangles
unfolding end_of vertex_faces
range_ends triangles n valid k l =
    let f = degree_among triangles (length triangles) in
    let z : start_of triangles n ≡ length triangles = total_is triangles n (record { there = valid.there; few = omega (arith, valid.whole, valid.few) }) in
    omega (arith, sums_grow f n k l, start_sum triangles n, start_sum triangles k, z)

pub padded_length : {A : Type 0} (z : A) (n : ℕ) (l : List A) → length l ≤ n → length (padded z n l) ≡ n
padded_length z n l h = omega (arith, length-append l (replicate (n - length l) z), length-replicate (n - length l) z, h)

-- ---- the field
module _ (j : Job) (b : FieldBuffers) (most : ℕ) (x : Inserted) (n : ℕ) (is : compute_by_heap j b most ≡ field x n) where
  abbrev s : State
  s = x.state

  abbrev L : StateLaws j.limit j.vertices j.triangles (vertex_count j) (capacity_of (length b.words) (length b.reals)) (length (begun_job j (work_slices_in b)).vertex) (job_candidates j b most) s
  L = laws j b most x n is

  abbrev edge_count_held : ℕ
  edge_count_held = length (edges j.triangles)

  -- an edge past the mesh's has no windows
  pub no_windows_held : (e : ℕ) → edge_count_held ≤ e → s.live e ≡ []
  no_windows_held e h = no_live edge_count_held e (λ (u : Window). FaceOf j.triangles e u.carried.into.0 ⊎ (u.carried.into.0 ≡ no_face)) (s.live e) (L.there.live e) h

  none_queued : s.stock.queued ≡ 0
  none_queued = queue_empty s.stock.queue s.stock.queued L.queue_fits (no_event j b most x n is)

  none_wait : (i : ℕ) → waiting s.stock i ≡ 0
  unfolding weight_of
  none_wait i = ap (λ (k : ℕ). weight_of (names i) k s.stock.queue) none_queued

  pub idle_windows : (e : ℕ) → All (λ (u : Window). u.carried.queued ≡ false) (s.live e)
  idle_windows e = all_idle s.wins (waiting s.stock) none_wait e (s.live e) (L.accounted.on_record e)

  module _ (b' : FieldBuffers) (c : FieldContents (built j b most x n is) (edge_data j.vertices j.triangles) edge_count_held s x.entries j.kinds j.coords b b') where
    abbrev m : MeshBuffers
    m = built j b most x n is

    -- ---- the mesh
    worked : Worked m b'.mesh
    worked = record {
      vertex_words_held = c.vertex_words_held;
      edge_words_held = λ i ne. ap (λ (l : List ℕ). get_or l i 0) c.edge_words_held ∙ edges_kept m.edge_words_held s.live i ne;
      edge_reals_held = c.edge_reals_held;
      round = c.round;
      triangle_words_held = λ i ne. ap (λ (l : List ℕ). get_or l i 0) c.triangle_words_held ∙ triangles_kept m.triangle_words_held x.entries i ne;
      triangle_reals = c.triangle_reals;
    }

    held_there : Held j.vertices j.triangles j.flags b'.mesh
    held_there = held_kept m b'.mesh worked j.vertices j.triangles j.flags (mesh_held j b most x n is)

    faces_in_lem : (e : ℕ) → e < edge_count_held → (i : ℕ) → i < 2 → (face_at b'.mesh.edge_words_held e i < triangle_count j) ⊎ (face_at b'.mesh.edge_words_held e i ≡ no_face)
    faces_in_lem e l zero h = subst (λ (f : ℕ). (f < triangle_count j) ⊎ (f ≡ no_face)) (sym (held_there.faces.first e l)) (face_or_none j.triangles (vertex_count j) (sound_job j b most x n is).triangles e l 0)
    faces_in_lem e l (suc zero) h = subst (λ (f : ℕ). (f < triangle_count j) ⊎ (f ≡ no_face)) (sym (held_there.faces.second e l)) (face_or_none j.triangles (vertex_count j) (sound_job j b most x n is).triangles e l 1)
    faces_in_lem e l (suc (suc i)) h = absurd (omega (arith, h))

    pub mesh_laws : MeshLaws j b'
    unfolding end_of
    mesh_laws =
        let valid = (sound_job j b most x n is).triangles in
        let H = held_there in
        record {
          held = H;
          ends_there = λ e l. let z = edge_ends j.triangles (vertex_count j) valid e l in let p = H.ends.low e l in let q = H.ends.high e l in (omega (arith, z.0, p, q), omega (arith, z.1, q));
          faces_there = λ e i l h. faces_in_lem e l i h;
          sides_there = λ h l. let z = H.sides h l in omega (arith, z, tri_edge_there j.triangles h l);
          range_there = λ k l. let p = H.start k l in let q = H.end k l in let z = range_ends j.triangles (vertex_count j) valid k l in (omega (arith, p, q), omega (arith, q, z));
          round_there = λ k p l from upto. entry_there j.triangles (vertex_count j) b'.mesh.vertex_words_held b'.mesh.round (mesh_round j.vertices j.triangles j.flags b'.mesh H) k l p
              (omega (arith, from, H.start k l)) (omega (arith, upto, H.end k l)) valid.whole;
        }

    -- ---- the windows
    abbrev made : ℕ
    made = length s.wins

    count : s.stock.made ≡ made
    count = L.recorded.count

    outside : (e : ℕ) → length m.edge_words_held ≤ words_per_edge * e + edge_head → s.live e ≡ []
    outside e h = no_windows_held e (omega (arith, h, edge_slots j b most x n is))

    fits_words : words_per_window * length s.wins ≤ length b.words
    fits_words = let z = L.fits in omega (arith, z, count)

    fits_reals : reals_per_window * length s.wins ≤ length b.reals
    fits_reals = let z = L.fits in omega (arith, z, count)

    abbrev unlinked : (d : WindowRecord) (i : ℕ) → i < length s.wins → (get_or s.wins i d).link ≡ 0
    unlinked d i l = all_at (λ (z : WindowRecord). z.link ≡ 0) s.wins L.accounted.unlinked i d l

    holds_windows : HoldsWindows made s.wins (links b'.mesh.edge_words_held b'.words) b'.reals s.live
    holds_windows =
        let H = contents_hold s.wins s.live (waiting s.stock) L.accounted.on_record L.accounted.complete
        unlinked (λ e. follows_differ L.follows e)
        (length b.words) (length b.reals) fits_words fits_reals m.edge_words_held outside in
        subst (λ (f : List Float). HoldsWindows (length s.wins) s.wins (links b'.mesh.edge_words_held b'.words) f s.live) (sym c.reals)
        (subst (λ (z : Links). HoldsWindows (length s.wins) s.wins z (reals_of_all (length b.reals) s.wins) s.live) (λ i. links (sym c.edge_words_held i) (sym c.words i)) H)

    below : (e : ℕ) → All (λ (i : ℕ). i < made) (nums (s.live e))
    below e = subst (λ (k : ℕ). All (λ (i : ℕ). i < k) (nums (s.live e))) count (nums_below s.stock.made (s.live e) (follows_below L.follows e))

    slots_are : made ≤ capacity_of (length b'.words) (length b'.reals)
    slots_are =
        let p : length b'.words ≡ length b.words = ap length c.words ∙ padded_length 0 (length b.words) (words_from s.live 0 s.wins) (omega (arith, length_words s.live 0 s.wins, fits_words)) in
        let q : length b'.reals ≡ length b.reals = ap length c.reals ∙ padded_length zero64 (length b.reals) (reals_from s.wins) (omega (arith, length_reals s.wins, fits_reals)) in
        subst (λ (k : ℕ). k ≤ capacity_of (length b'.words) (length b'.reals)) count (subst (λ (k : ℕ). s.stock.made ≤ k) (λ i. capacity_of (sym p i) (sym q i)) L.fits)

    link_there : (i : ℕ) → i < made → next_link b'.words i ≤ made
    link_there i h =
        let d = no_window in
        let y = get_or s.wins i d in
        let read = link_is s.wins s.live (waiting s.stock) L.accounted.on_record L.accounted.complete unlinked (λ e. follows_differ L.follows e)
        (length b.words) (length b.reals) fits_words fits_reals m.edge_words_held outside i h d in
        subst (λ (z : ℕ). z ≤ made) (sym (ap (λ (w : List ℕ). next_link w i) c.words ∙ read))
        (by_cases (λ (v : Bool). cond v (link_after i (nums (s.live y.edge.0))) y.link ≤ made) y.alive (λ t. link_below_lem made i (nums (s.live y.edge.0)) (below y.edge.0)) (λ t. let z = unlinked d i h in omega (arith, z)))

    record_there : (i : ℕ) → i < made → GoesInto j.triangles (edge_stored b'.words i) (into_of b'.words i)
    unfolding window_at
    record_there i h =
        let d = no_window in
        let W = window_is made b'.words b'.reals b'.mesh.edge_words_held s.wins s.live holds_windows i d h in
        let t = there_at (GoesInto j.triangles) s L.there i d (omega (arith, h, count)) in
        subst (λ (e : ℕ). GoesInto j.triangles e (into_of b'.words i)) (sym (ap (λ (z : EdgeId). z.0) W.edge))
        (subst (λ (g : ℕ). GoesInto j.triangles (get_or s.wins i d).edge.0 g) (sym (ap (λ (z : FaceId). z.0) W.into)) t)

    one_ordered : (e : ℕ) (u : Window) → Wide (tiny_of (len j.vertices j.triangles e)) u → LiveThere (GoesInto j.triangles) e u → Point u.b0 × (Point u.b1 × T (lt u.b0 u.b1))
    one_ordered e u w t =
        let checked = long j b most x n is e t.0 in
        let tiny = tiny_nonneg (len j.vertices j.triangles e) (record { number = checked.number; double = checked.double }) checked.positive in
        (w.point0, (w.point1, rank_lt w.point0 w.point1 (wide_pos tiny w.point0 w.point1 w.wide)))

    pub window_laws : WindowLaws j (finished_as x n) b'
    window_laws =
        let H = holds_windows in
        let w = b'.words in
        record {
          holds = H;
          slots_there = slots_are;
          edge_there = record_there;
          heads_there = λ e. subst (λ (z : ℕ). z ≤ made) (sym (path_first w (head_of b'.mesh.edge_words_held e) (nums (s.live e)) (H.on_edge e).chain.path)) (first_below made (nums (s.live e)) (below e));
          links_there = link_there;
          chains_end = λ e. let z = short made w e (head_of b'.mesh.edge_words_held e) (nums (s.live e)) (H.on_edge e).chain.path (H.on_edge e).chain.belong in omega (arith, z, length_nums (s.live e));
          lows = λ i l. low_stored made w b'.reals b'.mesh.edge_words_held s.wins s.live H L.recorded.lows i l;
          ordered = λ e. all_map2 {P = Wide (tiny_of (len j.vertices j.triangles e))} {Q = LiveThere (GoesInto j.triangles) e} {R = λ (u : Window). Point u.b0 × (Point u.b1 × T (lt u.b0 u.b1))} (one_ordered e) (s.live e) (follows_tidy L.follows e).wides (L.there.live e);
          rise = λ e. (follows_demand3 L.follows e).order;
          inside = L.inside;
          idle = idle_windows;
        }
