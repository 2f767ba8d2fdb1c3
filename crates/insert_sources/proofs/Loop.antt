-- A loop that inserts, turn by turn: what it keeps, and what it comes to. Assumes nothing.
use Prim.Native.Nat.{ℕ, suc, ◌+◌, ◌-◌, ◌/◌, ◌≤◌, ◌<◌}
use native.Mathlib.Omega.{arith}
use native.Mathlib.Numerals.{add-one}
use mathlib.Core.List.{List}
use mathlib.Core.Path.{◌≡◌, refl, sym, ap, ◌∙◌, subst}
use lib.ListN.{length, get_or}
use lib.Ieee.{Float}
use Rattle.layout.specs.Layout.{words_per_edge, words_per_triangle}
use Rattle.buffers.specs.declared.Lack.{Lack}
use Rattle.buffers.specs.Lack.{lack_number}
use Rattle.buffers.specs.Slots.{slots_of}
use Rattle.topology.specs.Edges.{edges}
use Rattle.insertion.specs.of_cut_lists.Buffers.{Cuts}
use Rattle.insertion.specs.of_cut_lists.Cut.{Sizes}
use Rattle.insertion.specs.of_trim_split.Running.{Untouched}
use Rattle.insertion.specs.of_trim.Buffers.{Slices}
use Rattle.insertion.proofs.laws_of_mesh_readers.Mesh.{mesh_stays, mesh_entered}
use Rattle.insertion.specs.of_offers.Walks.{edge_data}
use Rattle.insertion.proofs.laws_of_offers.Walks.{SameSizes, same_refl, same_trans, windows_in, windows_same, sizes_same}
use Rattle.insertion.specs.of_face_entries.Buffers.{EntryBuffers, entry_capacity}
use Rattle.insertion.specs.of_source_inserts.declared.Insert.{Insert}
use Rattle.insertion.specs.of_offers.Each.{each_of}
use Rattle.insertion.specs.declared.InsertCounts.{InsertCounts}
use Rattle.insertion.specs.Snapshots as snapshots
use Rattle.insertion.specs.Snapshots.{InsertSnapshot, InsertEnd, SidesKept, insert_snapshot, InsertsFrom}
use Rattle.insertion.proofs.Inserts.{inserts_none, inserts_stop, inserts_then}
use Rattle.insert_sources.specs.Job.{InsertionSlices, JobIn}
use Rattle.insertion.proofs.laws_of_offers.Each.{each_more}
use Rattle.insert_sources.proofs.Lists.{each_next}

-- ---- lengths
pub record LengthsKept (B B' : Slices) (T T' : EntryBuffers) (c c' : Cuts) : Type 0 where
  pub trim : SameSizes B B' c c'
  pub triangles : length T'.triangles ≡ length T.triangles
  pub entries : length T'.words ≡ length T.words

lengths_refl : (B : Slices) (T : EntryBuffers) (c : Cuts) → LengthsKept B B T T c c
lengths_refl B T c = record { trim = same_refl B c; triangles = refl; entries = refl }

lengths_trans : (B B' B'' : Slices) (T T' T'' : EntryBuffers) (c c' c'' : Cuts) → LengthsKept B B' T T' c c' → LengthsKept B' B'' T' T'' c' c'' → LengthsKept B B'' T T'' c c''
lengths_trans B B' B'' T T' T'' c c' c'' h g =
    record { trim = same_trans B B' B'' c c' c'' h.trim g.trim; triangles = g.triangles ∙ h.triangles; entries = g.entries ∙ h.entries }

abbrev pub slots_in : EntryBuffers → ℕ
slots_in T = entry_capacity (length T.words)

-- ---- insertion keeps the job
job_kept : (k : InsertionSlices) (triangles : List ℕ) (n : ℕ) (ew ew' tw tw' : List ℕ) (p p' : InsertSnapshot) → length ew' ≡ length ew → length tw' ≡ length tw
    → p.trim.links.edges ≡ ew → p'.trim.links.edges ≡ ew' → Untouched (λ e. Unit {0}) p.trim p'.trim → SidesKept tw tw' → JobIn k triangles n ew tw → JobIn k triangles n ew' tw'
job_kept k triangles n ew ew' tw tw' p p' long wide is is' u kept J = record {
  job = record {
    mesh = mesh_entered k.vertices triangles n k.edge_reals_held k.triangle_reals ew' tw tw' kept
        (mesh_stays k.vertices triangles n k.edge_reals_held k.triangle_reals (λ e. Unit {0}) tw ew ew' (λ i ne. ap (λ (l : List ℕ). get_or l i 0) (sym is') ∙ u.edges i ne ∙ ap (λ (l : List ℕ). get_or l i 0) is) J.job.mesh);
    round_vertex = J.job.round_vertex;
    table = J.job.table;
    face_there = J.job.face_there;
  };
  edge_slots = subst (λ (z : ℕ). length (edges triangles) ≤ slots_of z words_per_edge) (sym long) J.edge_slots;
  triangle_slots_held = subst (λ (z : ℕ). length triangles / 3 ≤ slots_of z words_per_triangle) (sym wide) J.triangle_slots_held;
  directions = J.directions;
  room = J.room;
}

-- ---- the loop: f i is what turn i inserts
module _ (limit : Float) (k : InsertionSlices) (f : List ℕ → ℕ → List Insert) (counts : InsertCounts) (B : Slices) (T : EntryBuffers) (c : Cuts) where
  abbrev Does : List ℕ → List Insert → InsertSnapshot → InsertEnd → Type 0
  Does triangles = InsertsFrom (length c.pts) (windows_in B) (slots_in T) limit k.vertex_words_held (edge_data k.vertices triangles)

  -- of every job that the buffers hold at first
  abbrev pub Done : ℕ → InsertEnd → Type 0
  Done i end = (triangles : List ℕ) (n : ℕ) → JobIn k triangles n B.edges T.triangles → Does triangles (each_of (f triangles) i) (insert_snapshot counts B T) end

  pub record InsertInv (turns : ℕ) (B' : Slices) (T' : EntryBuffers) (c' : Cuts) (now : InsertCounts) (i : ℕ) : Type 0 where
    pub same : LengthsKept B B' T T' c c'
    pub fits : now.trim.made ≤ windows_in B
    pub few : i ≤ turns
    pub done : Done i (snapshots.at (insert_snapshot now B' T'))

  pub insert_start : (turns : ℕ) → counts.trim.made ≤ windows_in B → InsertInv turns B T c counts 0
  unfolding each_of
  insert_start turns fits = record {
    same = lengths_refl B T c;
    fits = fits;
    few = omega arith;
    done = λ triangles n J. inserts_none (length c.pts) (windows_in B) (slots_in T) limit k.vertex_words_held (edge_data k.vertices triangles) (insert_snapshot counts B T);
  }

  pub insert_over : (turns : ℕ) (B' : Slices) (T' : EntryBuffers) (c' : Cuts) (now : InsertCounts) (i : ℕ) → InsertInv turns B' T' c' now i → turns ≤ i → Done turns (snapshots.at (insert_snapshot now B' T'))
  insert_over turns B' T' c' now i inv end = let z : i ≡ turns = omega (arith, end, inv.few) in subst (λ (j : ℕ). Done j (snapshots.at (insert_snapshot now B' T'))) z inv.done

  -- a turn
  module _ (turns : ℕ) (B₁ : Slices) (T₁ : EntryBuffers) (c₁ : Cuts) (now : InsertCounts) (i : ℕ) (inv : InsertInv turns B₁ T₁ c₁ now i) (q : i < turns) where
    windows₁ : windows_in B₁ ≡ windows_in B
    windows₁ = windows_same B B₁ c c₁ inv.same.trim

    slots₁ : slots_in T₁ ≡ slots_in T
    slots₁ = ap entry_capacity inv.same.entries

    pub insert_fits : now.trim.made ≤ windows_in B₁
    insert_fits = subst (λ (z : ℕ). now.trim.made ≤ z) (sym windows₁) inv.fits

    pub insert_sizes : Sizes (length c.pts) c.out c.keep c.next → Sizes (length c₁.pts) c₁.out c₁.keep c₁.next
    insert_sizes = sizes_same B B₁ c c₁ inv.same.trim

    -- what it does, of a job that the buffers held at first and hold now
    abbrev pub Turn : InsertEnd → Type 0
    Turn end = (triangles : List ℕ) (n : ℕ) → JobIn k triangles n B.edges T.triangles → JobIn k triangles n B₁.edges T₁.triangles
        → InsertsFrom (length c₁.pts) (windows_in B₁) (slots_in T₁) limit k.vertex_words_held (edge_data k.vertices triangles) (f triangles i) (insert_snapshot now B₁ T₁) end

    turn : (end : InsertEnd) → Turn end → Done (suc i) end
    turn end h triangles n J =
        subst (λ (l : List Insert). Does triangles l (insert_snapshot counts B T) end) (sym (each_next (f triangles) i))
        (inserts_then (length c.pts) (windows_in B) (slots_in T) limit k.vertex_words_held (edge_data k.vertices triangles) (each_of (f triangles) i) (f triangles i) (insert_snapshot counts B T) (insert_snapshot now B₁ T₁)
        (inv.done triangles n J) end
        (λ u kept. subst (λ (z : ℕ). InsertsFrom z (windows_in B) (slots_in T) limit k.vertex_words_held (edge_data k.vertices triangles) (f triangles i) (insert_snapshot now B₁ T₁) end) inv.same.trim.pts
        (subst (λ (z : ℕ). InsertsFrom (length c₁.pts) z (slots_in T) limit k.vertex_words_held (edge_data k.vertices triangles) (f triangles i) (insert_snapshot now B₁ T₁) end) windows₁
        (subst (λ (z : ℕ). InsertsFrom (length c₁.pts) (windows_in B₁) z limit k.vertex_words_held (edge_data k.vertices triangles) (f triangles i) (insert_snapshot now B₁ T₁) end) slots₁
        (h triangles n J
        (job_kept k triangles n B.edges B₁.edges T.triangles T₁.triangles (insert_snapshot counts B T) (insert_snapshot now B₁ T₁) inv.same.trim.edges inv.same.triangles refl refl u kept J))))))

    pub insert_stopped : (lack : Lack) → Turn (snapshots.stopped (lack_number lack)) → Done turns (snapshots.stopped (lack_number lack))
    insert_stopped lack h triangles n J =
        let z : suc i + (turns - suc i) ≡ turns = omega (arith, q) in
        subst (λ (j : ℕ). Does triangles (each_of (f triangles) j) (insert_snapshot counts B T) (snapshots.stopped (lack_number lack))) z
        (subst (λ (l : List Insert). Does triangles l (insert_snapshot counts B T) (snapshots.stopped (lack_number lack))) (sym (each_more (f triangles) (suc i) (turns - suc i)))
        (inserts_stop (length c.pts) (windows_in B) (slots_in T) limit k.vertex_words_held (edge_data k.vertices triangles) (each_of (f triangles) (suc i)) (each_of (λ (a : ℕ). f triangles (suc i + a)) (turns - suc i)) (insert_snapshot counts B T) (lack_number lack)
        (turn (snapshots.stopped (lack_number lack)) h triangles n J)))

    pub insert_next : (now₂ : InsertCounts) (B₂ : Slices) (T₂ : EntryBuffers) (c₂ : Cuts) → LengthsKept B₁ B₂ T₁ T₂ c₁ c₂ → now₂.trim.made ≤ windows_in B₁ → Turn (snapshots.at (insert_snapshot now₂ B₂ T₂)) → InsertInv turns B₂ T₂ c₂ now₂ (i + 1)
    insert_next now₂ B₂ T₂ c₂ same fits h = record {
      same = lengths_trans B B₁ B₂ T T₁ T₂ c c₁ c₂ inv.same same;
      fits = subst (λ (z : ℕ). now₂.trim.made ≤ z) windows₁ fits;
      few = omega (arith, q);
      done = subst (λ (j : ℕ). Done j (snapshots.at (insert_snapshot now₂ B₂ T₂))) (sym (add-one i)) (turn (snapshots.at (insert_snapshot now₂ B₂ T₂)) h);
    }
