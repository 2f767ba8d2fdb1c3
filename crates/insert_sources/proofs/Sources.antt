-- What a source does, and all of a job, by what their turns do. Assumes nothing.
use Rattle.std.specs.declared.option.Option.{Option}
use Rattle.std.specs.declared.option.Option.TheVariants.{None, Some}
use Prim.Native.Nat.{ℕ, ◌+◌, ◌*◌, ◌≤◌, ◌<◌}
use native.Mathlib.Omega.{arith}
use mathlib.Core.List.{List, [], ◌∷◌}
use mathlib.Core.Path.{◌≡◌, sym, ap, ◌∙◌, subst}
use lib.ListN.{length, get_or}
use lib.Ieee.{Float}
use Rattle.layout.specs.Layout.{words_per_triangle}
use Rattle.buffers.specs.declared.Lack.{Lack}
use Rattle.buffers.proofs.Strides.{in_slots}
use Rattle.insertion.specs.of_cut_lists.Buffers.{Cuts}
use Rattle.insertion.proofs.laws_of_mesh_readers.Held.{trim_edge_held}
use Rattle.insertion.specs.of_trim.Buffers.{Slices}
use Rattle.insertion.specs.of_offers.declared.Offered.{Offered}
use Rattle.insertion.specs.of_offers.Offers.{EdgeThere}
use Rattle.insertion.specs.of_offers.Walks.{edge_data}
use Rattle.insertion.proofs.laws_of_offers.Walks.{windows_in}
use Rattle.insertion.specs.of_face_entries.Buffers.{EntryBuffers}
use Rattle.insertion.specs.of_source_inserts.declared.Insert.{Insert}
use Rattle.insertion.specs.of_source_inserts.declared.Insert.TheVariants.{Entry, Offer}
use Rattle.insertion.specs.of_source_inserts.declared.Source.{Source}
use Rattle.insertion.specs.of_offers.Each.{each_of}
use Rattle.insertion.specs.of_source_inserts.Inserts.{source_inserts, job_inserts, IsSource, There, OfferThere}
use Rattle.insertion.specs.of_source_inserts.Read.{job_source_at, insert_at, insert_count_at}
use Rattle.insertion.proofs.laws_of_source_inserts.Held.{source_is, source_inserts_held}
use Rattle.insertion.proofs.laws_of_source_inserts.Job.{job_inserts_lem}
use Rattle.insertion.proofs.laws_of_source_inserts.There.{source_there}
use Rattle.insertion.specs.declared.InsertCounts.{InsertCounts}
use Rattle.std.specs.declared.result.Result.{Result}
use Rattle.std.specs.declared.result.Result.TheVariants.{Ok, Err}
use Rattle.insertion.specs.Snapshots as snapshots
use Rattle.insertion.specs.Snapshots.{insert_snapshot, insert_end, InsertsFrom, InsertThere, InsertsTo}
use Rattle.insert_sources.specs.Job.{InsertionSlices, JobIn, InsertsAll}
use Rattle.insert_sources.proofs.Lists.{made_length, made_at, made_again, all_at}
use Rattle.insert_sources.proofs.Loop.{slots_in, Done, InsertInv, LengthsKept, Turn, insert_stopped, insert_next, insert_over}

-- ---- what is inserted is there in the buffers
module _ (k : InsertionSlices) (triangles : List ℕ) (n : ℕ) (ew tw : List ℕ) (J : JobIn k triangles n ew tw) where
  offer_there : (o : Option Offered) → OfferThere triangles o → EdgeThere (edge_data k.vertices triangles) ew k.edge_reals_held o
  offer_there None h = tt
  offer_there (Some o) h =
      (omega (arith, h, J.edge_slots), sym (trim_edge_held triangles ew J.job.mesh.ends k.vertices k.edge_reals_held J.job.mesh.lengths o.edge.0 h))

  insert_there : (x : Insert) → There triangles x → InsertThere (edge_data k.vertices triangles) ew k.edge_reals_held tw x
  insert_there (Entry f x) h =
      let fits = in_slots (length tw) words_per_triangle f.0 (omega (arith, h, J.triangle_slots_held)) in
      omega (arith, fits)
  insert_there (Offer o) h = offer_there o h

abbrev none : Insert
none = Offer None

-- ---- source j of a job
module _ (k : InsertionSlices) (j : ℕ) where
  abbrev pub of_source : List ℕ → List Insert
  of_source triangles = source_inserts k.vertices triangles k.kinds k.faces k.coords j

  -- turn i of its loop
  abbrev pub one_of : List ℕ → ℕ → List Insert
  one_of triangles i = get_or (of_source triangles) i none ∷ []

-- as it is read: of so many pieces, the i-th of source s
abbrev pub read_at : InsertionSlices → ℕ → Source → List ℕ → List ℕ → ℕ → Insert
read_at k pieces s ew tw i = insert_at k.vertices ew k.edge_reals_held tw k.triangle_reals k.vertex_words_held k.round k.kinds k.faces k.coords k.piece_words k.piece_reals pieces s i

module _ (limit : Float) (k : InsertionSlices) (pieces : ℕ) (few : pieces ≡ length k.kinds) (j : ℕ) (l : j < 3 * length k.kinds) (counts : InsertCounts) (B : Slices) (T : EntryBuffers) (c : Cuts) (s : Source)
    (is : s ≡ job_source_at k.vertices B.edges k.edge_reals_held T.triangles k.triangle_reals k.kinds k.faces k.coords k.piece_words pieces j)
    (turns : ℕ) (counted : turns ≡ insert_count_at B.edges k.vertex_words_held s) where
  abbrev turns_at : List ℕ → ℕ
  turns_at ew = insert_count_at ew k.vertex_words_held s

  -- of a job that the buffers hold at first, and hold with ew and tw
  module _ (triangles : List ℕ) (n : ℕ) (J : JobIn k triangles n B.edges T.triangles) (ew tw : List ℕ) (J₁ : JobIn k triangles n ew tw) where
    a_source : IsSource k.vertices triangles k.kinds k.faces k.coords n j s
    a_source =
        subst (IsSource k.vertices triangles k.kinds k.faces k.coords n j)
        (ap (λ (z : ℕ). job_source_at k.vertices B.edges k.edge_reals_held T.triangles k.triangle_reals k.kinds k.faces k.coords k.piece_words z j) (sym few) ∙ sym is)
        (source_is k.vertices triangles n B.edges k.edge_reals_held T.triangles k.triangle_reals k.vertex_words_held k.round k.kinds k.faces k.coords k.piece_words J.job j l)

    -- the pieces and their directions as they are read
    abbrev Made : List Float → ℕ → Type 0
    Made pr z = each_of (λ (i : ℕ). insert_at k.vertices ew k.edge_reals_held tw k.triangle_reals k.vertex_words_held k.round k.kinds k.faces k.coords k.piece_words pr z s i ∷ []) (turns_at ew) ≡ of_source k j triangles

    made : each_of (λ (i : ℕ). read_at k pieces s ew tw i ∷ []) (turns_at ew) ≡ of_source k j triangles
    made =
        subst (λ (z : ℕ). Made k.piece_reals z) (sym few)
        (subst (λ (pr : List Float). Made pr (length k.kinds)) (sym J₁.directions)
        (source_inserts_held k.vertices triangles n ew k.edge_reals_held tw k.triangle_reals k.vertex_words_held k.round k.kinds k.faces k.coords k.piece_words J₁.job (length k.piece_reals) J₁.room j s a_source))

    turns_are : turns_at ew ≡ length (of_source k j triangles)
    turns_are = made_length (read_at k pieces s ew tw) (turns_at ew) (of_source k j triangles) made none

    read_is : (i : ℕ) → i < length (of_source k j triangles) → read_at k pieces s ew tw i ≡ get_or (of_source k j triangles) i none
    read_is i q = made_at (read_at k pieces s ew tw) (turns_at ew) (of_source k j triangles) made none i (omega (arith, q, turns_are))

    again : each_of (one_of k j triangles) (turns_at ew) ≡ of_source k j triangles
    again = made_again (read_at k pieces s ew tw) (turns_at ew) (of_source k j triangles) made none

    there : (i : ℕ) → i < length (of_source k j triangles) → InsertThere (edge_data k.vertices triangles) ew k.edge_reals_held tw (get_or (of_source k j triangles) i none)
    there i q = insert_there k triangles n ew tw J₁ (get_or (of_source k j triangles) i none)
        (all_at (There triangles) (of_source k j triangles) none i (source_there k.vertices triangles n J.job.mesh.valid k.kinds k.faces k.coords J.job.face_there j l) q)

  turns_same : (triangles : List ℕ) (n : ℕ) → JobIn k triangles n B.edges T.triangles → turns ≡ length (of_source k j triangles)
  turns_same triangles n J = counted ∙ turns_are triangles n J B.edges T.triangles J

  -- a turn, by what is inserted in it
  module _ (B₁ : Slices) (T₁ : EntryBuffers) (c₁ : Cuts) (now : InsertCounts) (i : ℕ) (inv : InsertInv limit k (one_of k j) counts B T c turns B₁ T₁ c₁ now i) (q : i < turns) (r : Result InsertCounts Lack) (B₂ : Slices) (T₂ : EntryBuffers)
      (h : InsertsTo limit k.vertex_words_held k.edge_reals_held (read_at k pieces s B₁.edges T₁.triangles i) now B₁ T₁ c₁ r B₂ T₂) where
    turn_does : Turn limit k (one_of k j) counts B T c turns B₁ T₁ c₁ now i inv q (insert_end r B₂ T₂)
    turn_does triangles n J J₁ =
        let short : i < length (of_source k j triangles) = omega (arith, q, turns_same triangles n J) in
        let x = read_is triangles n J B₁.edges T₁.triangles J₁ i short in
        subst (λ (z : Insert). InsertsFrom (length c₁.pts) (windows_in B₁) (slots_in T₁) limit k.vertex_words_held (edge_data k.vertices triangles) (z ∷ []) (insert_snapshot now B₁ T₁) (insert_end r B₂ T₂)) x
        (h.inserts (edge_data k.vertices triangles)
        (subst (λ (z : Insert). InsertThere (edge_data k.vertices triangles) B₁.edges k.edge_reals_held T₁.triangles z) (sym x) (there triangles n J B₁.edges T₁.triangles J₁ i short)))

  abbrev pub OfAll : Result InsertCounts Lack → Slices → EntryBuffers → Type 0
  OfAll r B' T' = InsertsAll limit k (of_source k j) counts B T c r B' T'

  whole : (r : Result InsertCounts Lack) (B' : Slices) (T' : EntryBuffers) → Done limit k (one_of k j) counts B T c turns (insert_end r B' T') → (triangles : List ℕ) (n : ℕ) → JobIn k triangles n B.edges T.triangles
      → InsertsFrom (length c.pts) (windows_in B) (slots_in T) limit k.vertex_words_held (edge_data k.vertices triangles) (of_source k j triangles) (insert_snapshot counts B T) (insert_end r B' T')
  whole r B' T' d triangles n J =
      subst (λ (z : List Insert). InsertsFrom (length c.pts) (windows_in B) (slots_in T) limit k.vertex_words_held (edge_data k.vertices triangles) z (insert_snapshot counts B T) (insert_end r B' T')) (ap (each_of (one_of k j triangles)) counted ∙ again triangles n J B.edges T.triangles J) (d triangles n J)

  module _ (B₁ : Slices) (T₁ : EntryBuffers) (c₁ : Cuts) (now : InsertCounts) (i : ℕ) (inv : InsertInv limit k (one_of k j) counts B T c turns B₁ T₁ c₁ now i) where
    pub source_over : turns ≤ i → OfAll (Ok now) B₁ T₁
    source_over end = record { bounded = inv.fits; inserts = whole (Ok now) B₁ T₁ (insert_over limit k (one_of k j) counts B T c turns B₁ T₁ c₁ now i inv end) }

    module _ (q : i < turns) (B₂ : Slices) (T₂ : EntryBuffers) where
      pub source_stopped : (lack : Lack) → InsertsTo limit k.vertex_words_held k.edge_reals_held (read_at k pieces s B₁.edges T₁.triangles i) now B₁ T₁ c₁ (Err lack) B₂ T₂ → OfAll (Err lack) B₂ T₂
      source_stopped lack h = record {
        bounded = tt;
        inserts = whole (Err lack) B₂ T₂
            (insert_stopped limit k (one_of k j) counts B T c turns B₁ T₁ c₁ now i inv q lack (turn_does B₁ T₁ c₁ now i inv q (Err lack) B₂ T₂ h));
      }

      pub source_next : (now₂ : InsertCounts) (c₂ : Cuts) → LengthsKept B₁ B₂ T₁ T₂ c₁ c₂ → InsertsTo limit k.vertex_words_held k.edge_reals_held (read_at k pieces s B₁.edges T₁.triangles i) now B₁ T₁ c₁ (Ok now₂) B₂ T₂
          → InsertInv limit k (one_of k j) counts B T c turns B₂ T₂ c₂ now₂ (i + 1)
      source_next now₂ c₂ same h =
          insert_next limit k (one_of k j) counts B T c turns B₁ T₁ c₁ now i inv q now₂ B₂ T₂ c₂ same h.bounded (turn_does B₁ T₁ c₁ now i inv q (Ok now₂) B₂ T₂ h)

-- ---- all sources
module _ (limit : Float) (k : InsertionSlices) (counts : InsertCounts) (B : Slices) (T : EntryBuffers) (c : Cuts) where
  abbrev pub source_of : List ℕ → ℕ → List Insert
  source_of triangles j = source_inserts k.vertices triangles k.kinds k.faces k.coords j

  abbrev pub sources : ℕ
  sources = 3 * length k.kinds

  abbrev pub OfJob : Result InsertCounts Lack → Slices → EntryBuffers → Type 0
  OfJob r B' T' = InsertsAll limit k (λ triangles. job_inserts k.vertices triangles k.kinds k.faces k.coords) counts B T c r B' T'

  whole_job : (r : Result InsertCounts Lack) (B' : Slices) (T' : EntryBuffers) → Done limit k source_of counts B T c sources (insert_end r B' T') → (triangles : List ℕ) (n : ℕ) → JobIn k triangles n B.edges T.triangles
      → InsertsFrom (length c.pts) (windows_in B) (slots_in T) limit k.vertex_words_held (edge_data k.vertices triangles) (job_inserts k.vertices triangles k.kinds k.faces k.coords) (insert_snapshot counts B T) (insert_end r B' T')
  whole_job r B' T' d triangles n J =
      subst (λ (z : List Insert). InsertsFrom (length c.pts) (windows_in B) (slots_in T) limit k.vertex_words_held (edge_data k.vertices triangles) z (insert_snapshot counts B T) (insert_end r B' T')) (job_inserts_lem k.vertices triangles k.kinds k.faces k.coords) (d triangles n J)

  module _ (B₁ : Slices) (T₁ : EntryBuffers) (c₁ : Cuts) (now : InsertCounts) (j : ℕ) (inv : InsertInv limit k source_of counts B T c sources B₁ T₁ c₁ now j) where
    pub job_over : sources ≤ j → OfJob (Ok now) B₁ T₁
    job_over end = record { bounded = inv.fits; inserts = whole_job (Ok now) B₁ T₁ (insert_over limit k source_of counts B T c sources B₁ T₁ c₁ now j inv end) }

    module _ (q : j < sources) (B₂ : Slices) (T₂ : EntryBuffers) where
      pub job_stopped : (lack : Lack) → InsertsAll limit k (λ triangles. source_of triangles j) now B₁ T₁ c₁ (Err lack) B₂ T₂ → OfJob (Err lack) B₂ T₂
      job_stopped lack h = record {
        bounded = tt;
        inserts = whole_job (Err lack) B₂ T₂ (insert_stopped limit k source_of counts B T c sources B₁ T₁ c₁ now j inv q lack (λ triangles n J J₁. h.inserts triangles n J₁));
      }

      pub job_next : (now₂ : InsertCounts) (c₂ : Cuts) → LengthsKept B₁ B₂ T₁ T₂ c₁ c₂ → InsertsAll limit k (λ triangles. source_of triangles j) now B₁ T₁ c₁ (Ok now₂) B₂ T₂
          → InsertInv limit k source_of counts B T c sources B₂ T₂ c₂ now₂ (j + 1)
      job_next now₂ c₂ same h = insert_next limit k source_of counts B T c sources B₁ T₁ c₁ now j inv q now₂ B₂ T₂ c₂ same h.bounded (λ triangles n J J₁. h.inserts triangles n J₁)
