-- What it is that buffers come to hold the outcome of insertion. Definitions only.
use Rattle.std.specs.Prelude.{ℕ, ◌+◌, ◌*◌, ◌≤◌, ◌<◌, List, [], ◌∷◌, ◌++◌, ◌≢◌, ◌≡◌, length, get_or, Float, Option, Result, Ok, Err}
use Rattle.layout.specs.Layout.{words_per_triangle, triangle_first_entry, triangle_last_entry}
use Rattle.buffers.specs.Lack.{lack_number}
use Rattle.buffers.specs.Lent.{Lent, given, left}
use Rattle.source_inserts.specs.of_better.Claim.{All}
use Rattle.source_inserts.specs.of_trim_model.Model.{Candidate}
use Rattle.source_inserts.specs.of_trim_model.Claim.{AdmittedProper}
use Rattle.source_inserts.specs.of_trim_state.State.{EdgeData}
use Rattle.source_inserts.specs.of_trim_split.Running.{Snapshot, Untouched}
use Rattle.windows.specs.Windows.{capacity_of}
use Rattle.source_inserts.specs.of_cut_lists.Buffers.{Cuts}
use Rattle.source_inserts.specs.of_trim.Buffers.{Slices}
use Rattle.source_inserts.specs.of_trim.Adding.{snapshot_at}
use Rattle.source_inserts.specs.of_trim_split.declared.Counts.{Counts}
use Rattle.buffers.specs.declared.FaceId.{FaceId}
use Rattle.buffers.specs.declared.Lack.{Lack}
use Rattle.source_inserts.specs.of_offers.declared.Offered.{Offered}
use Rattle.source_inserts.specs.of_offers.Offers.{StandsFor, EdgeThere, OffersTo}
use Rattle.source_inserts.specs.of_face_entries.declared.PiecePart.{PiecePart}
use Rattle.source_inserts.specs.of_face_entries.Buffers.{EntryBuffers, entry_buffers, entry_capacity, entering}
use Rattle.source_inserts.specs.of_face_entries.Entries.{HoldsOnly}
use Rattle.source_inserts.specs.declared.Insert.{Insert}
use Rattle.source_inserts.specs.declared.Insert.TheVariants.{Entry, Offer}
use Rattle.insertion.specs.declared.InsertCounts.{InsertCounts}
use Rattle.source_inserts.specs.Inserts.{candidates_in}
use Rattle.insertion.specs.Insertion.{Inserted, InsertResult, insert_each}
use Rattle.insertion.specs.Insertion as insertion

-- what the buffers hold, and how many windows, events and entries there are
pub record InsertSnapshot : Type 0 where
  pub trim : Snapshot
  pub entered : ℕ
  pub entries : EntryBuffers

abbrev pub insert_snapshot : InsertCounts → Slices → EntryBuffers → InsertSnapshot
insert_snapshot n b t = record { trim = snapshot_at n.trim b; entered = n.entries; entries = t }

-- a refusal by its number in 01, or where it ends
pub data InsertEnd : Type 0 where
  stopped : ℕ → InsertEnd
  at : InsertSnapshot → InsertEnd

abbrev pub insert_end : Result InsertCounts Lack → Slices → EntryBuffers → InsertEnd
insert_end (Err lack) b t = stopped (lack_number lack)
insert_end (Ok n) b t = at (insert_snapshot n b t)

-- words of triangles stay but for their first and last entries
abbrev pub SidesKept : List ℕ → List ℕ → Type 0
SidesKept t t' = (i : ℕ) → ((f : ℕ) → (i ≢ words_per_triangle * f + triangle_first_entry) × (i ≢ words_per_triangle * f + triangle_last_entry)) → get_or t' i 0 ≡ get_or t i 0

module _ (limit : Float) (mesh : EdgeData) where
  -- the buffers at p hold s, whose state follows the reference model with the candidates so far; t₀ are the triangles' words before the first entry
  pub record HoldsInserted (t₀ : List ℕ) (past : List Candidate) (s : Inserted) (p : InsertSnapshot) : Type 0 where
    pub trim : StandsFor limit mesh past s.state p.trim
    pub entries : HoldsOnly t₀ p.entered p.entries.triangles p.entries.words s.entries

  -- from p₀ to p the buffers have come to hold a result; the mesh is as it was
  pub record ComesIn (t₀ : List ℕ) (past : List Candidate) (p₀ p : InsertSnapshot) (r : InsertResult) : Type 0 where
    pub inserted : Inserted
    pub is : r ≡ insertion.went inserted
    pub stands : HoldsInserted t₀ past inserted p
    pub untouched : Untouched (λ e. Unit {0}) p₀.trim p.trim
    pub kept : SidesKept p₀.entries.triangles p.entries.triangles

  abbrev pub InsertEnds : List ℕ → List Candidate → InsertSnapshot → InsertEnd → InsertResult → Type 0
  InsertEnds t₀ past p₀ (stopped n) r = r ≡ insertion.stopped n
  InsertEnds t₀ past p₀ (at p) r = ComesIn t₀ past p₀ p r

-- from p on all of xs are inserted, whatever the buffers hold that follows the model; a candidate must be proper only if it is admitted
module _ (cuts windows slots : ℕ) (limit : Float) (flags : List ℕ) (mesh : EdgeData) where
  abbrev pub InsertsFrom : List Insert → InsertSnapshot → InsertEnd → Type 0
  InsertsFrom xs p end =
      (t₀ : List ℕ) (past : List Candidate) (s : Inserted) → HoldsInserted limit mesh t₀ past s p → All (AdmittedProper limit mesh.len) (candidates_in xs)
      → InsertEnds limit mesh t₀ (past ++ candidates_in xs) p end (insert_each cuts windows slots limit flags mesh xs s)

-- ---- the contracts
-- of `enter`, with what `face_entries::enter` answers
abbrev pub enter_answer : InsertCounts → Result ℕ Lack → Result InsertCounts Lack
enter_answer n (Err lack) = Err lack
enter_answer n (Ok k) = Ok (record { trim = n.trim; entries = k })

pub record EntersTo (counts : InsertCounts) (f : FaceId) (x : PiecePart) (t : EntryBuffers) (r : Result InsertCounts Lack) (t' : EntryBuffers) : Type 0 where
  pub entered : Result ℕ Lack
  pub said : (entered, t') ≡ entering t counts.entries f.0 x
  pub answer : r ≡ enter_answer counts entered

-- of `offer`, with what `offers::offer` answers
abbrev pub offer_answer : InsertCounts → Result Counts Lack → Result InsertCounts Lack
offer_answer n (Err lack) = Err lack
offer_answer n (Ok c) = Ok (record { trim = c; entries = n.entries })

pub record OfferedTo (limit : Float) (vertex_words : List ℕ) (edge_reals : List Float) (o : Option Offered) (counts : InsertCounts) (b : Slices) (c : Cuts) (r : Result InsertCounts Lack) (b' : Slices) (c' : Cuts) : Type 0 where
  pub added : Result Counts Lack
  pub offers : OffersTo limit vertex_words edge_reals o counts.trim b c added b' c'
  pub answer : r ≡ offer_answer counts added

-- of `insert`
-- its face has words, or its edge is there
abbrev pub InsertThere : EdgeData → List ℕ → List Float → List ℕ → Insert → Type 0
InsertThere mesh edge_words edge_reals triangle_words (Entry f x) = words_per_triangle * f.0 + triangle_last_entry < length triangle_words
InsertThere mesh edge_words edge_reals triangle_words (Offer o) = EdgeThere mesh edge_words edge_reals o

-- no more windows are made than there are slots for
abbrev pub InsertedWithin : ℕ → Result InsertCounts Lack → Type 0
InsertedWithin windows (Err lack) = Unit {0}
InsertedWithin windows (Ok n) = n.trim.made ≤ windows

pub record InsertsTo (limit : Float) (vertex_words : List ℕ) (edge_reals : List Float) (x : Insert) (counts : InsertCounts) (b : Slices) (t : EntryBuffers) (c : Cuts) (r : Result InsertCounts Lack) (b' : Slices) (t' : EntryBuffers) : Type 0 where
  pub bounded : InsertedWithin (capacity_of (length b.words) (length b.reals)) r
  pub inserts : (mesh : EdgeData) → InsertThere mesh b.edges edge_reals t.triangles x
      → InsertsFrom (length c.pts) (capacity_of (length b.words) (length b.reals)) (entry_capacity (length t.words)) limit vertex_words mesh (x ∷ []) (insert_snapshot counts b t) (insert_end r b' t')

-- of lent slices, at the call and at the return
abbrev pub entries_before : Lent ℕ → Lent ℕ → EntryBuffers
entries_before triangle_words words = entry_buffers (given triangle_words) (given words)

abbrev pub entries_after : Lent ℕ → Lent ℕ → EntryBuffers
entries_after triangle_words words = entry_buffers (left triangle_words) (left words)
