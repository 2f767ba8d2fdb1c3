-- The answers of `insert_job`, from what the functions that it calls answered. Assumes nothing.
use Prim.Native.Nat.{ℕ, ◌/◌, ◌≤◌}
use mathlib.Core.Bool.{true, false}
use mathlib.Core.List.{List}
use mathlib.Core.Path.{◌≡◌, sym, ap, subst, ◌∙◌}
use lib.Ieee.{Float}
use lib.ListN.{length, length-replicate}
use Rattle.float64.specs.Scalar.{zero64}
use Rattle.buffers.specs.declared.Lack.{Lack}
use Rattle.windows.specs.Windows.{capacity_of}
use Rattle.job_checks.specs.Job.{Job, job}
use Rattle.insert_sources.specs.of_mesh.Topology.{MeshBuffers}
use Rattle.insert_sources.specs.of_cut_lists.Buffers.{Cuts}
use Rattle.insert_sources.specs.of_trim.Buffers.{Slices}
use Rattle.insert_sources.specs.of_face_entries.Buffers.{EntryBuffers}
use Rattle.insert_sources.specs.of_wedge_refusal.Wedge.{any_wedge_at}
use Rattle.insert_sources.specs.of_source_inserts.Inserts.{job_inserts}
use Rattle.insert_sources.specs.of_insertion.declared.InsertCounts.{InsertCounts}
use Rattle.std.specs.declared.result.Result.{Result}
use Rattle.std.specs.declared.result.Result.TheVariants.{Ok, Err}
use Rattle.insert_sources.specs.Job.{insertion_slices, InsertsAll}
use Rattle.begin.specs.Begin.{WorkSlices, begun}
use Rattle.insert_job.specs.declared.InsertRefusal.{InsertRefusal}
use Rattle.insert_job.specs.declared.InsertRefusal.TheVariants.{Wedge, NoSlot}
use Rattle.insert_job.specs.Field.{trim_slices, entry_slices, no_counts}
use Rattle.insert_job.specs.Job.{job_answer, InsertsJob}
use Rattle.insert_job.proofs.Begun.{begun_wedge, inserted}

module _ (v : List Float) (triangles kinds faces : List ℕ) (coords : List Float) (limit : Float) (m : MeshBuffers) (s : WorkSlices) (c : Cuts) where
  abbrev job_with : List ℕ → Job
  job_with flags = job v triangles flags kinds faces coords limit

  -- the slices as `begin_buffers` leaves them
  abbrev first : WorkSlices
  first = begun kinds coords (length v / 3) s

  abbrev WedgeIn : WorkSlices → Type 0
  WedgeIn w = any_wedge_at v m.edge_words_held m.edge_reals_held m.triangle_words_held m.triangle_reals m.vertex_words_held triangles kinds faces coords w.piece_words ≡ true

  abbrev NoWedge : WorkSlices → Type 0
  NoWedge w = any_wedge_at v m.edge_words_held m.edge_reals_held m.triangle_words_held m.triangle_reals m.vertex_words_held triangles kinds faces coords w.piece_words ≡ false

  abbrev pub InsertsFrom : WorkSlices → Result InsertCounts Lack → Slices → EntryBuffers → Type 0
  InsertsFrom w a b' t' =
      InsertsAll limit (insertion_slices v m.vertex_words_held m.edge_reals_held m.triangle_reals m.round kinds faces coords w.piece_words w.piece_reals)
      (λ (ts : List ℕ). job_inserts v ts kinds faces coords) no_counts (trim_slices m w) (entry_slices m w) c a b' t'

  module _ (w : WorkSlices) (is : w ≡ first) (b' : Slices) (t' : EntryBuffers) where
    pub says_wedge : WedgeIn w → InsertsJob v triangles kinds faces coords limit m s c (Err Wedge) w.piece_words w.piece_reals b' t'
    says_wedge h = record {
      bounded = tt;
      pieces = ap (λ (z : WorkSlices). z.piece_words) is;
      directions = ap (λ (z : WorkSlices). z.piece_reals) is;
      inserts = λ flags others meshed before answered passed counted. sym (begun_wedge (job_with flags) others meshed before m answered passed s counted) ∙ subst WedgeIn is h;
    }

    says_stopped : (lack : Lack) → NoWedge w → InsertsFrom w (Err lack) b' t' → InsertsJob v triangles kinds faces coords limit m s c (Err (NoSlot lack)) w.piece_words w.piece_reals b' t'
    says_stopped lack h k = record {
      bounded = tt;
      pieces = ap (λ (z : WorkSlices). z.piece_words) is;
      directions = ap (λ (z : WorkSlices). z.piece_reals) is;
      inserts = λ flags others meshed before answered passed counted. (
        sym (begun_wedge (job_with flags) others meshed before m answered passed s counted) ∙ subst NoWedge is h,
        inserted (job_with flags) others meshed before m answered passed s counted c (Err lack) b' t' (subst (λ (z : WorkSlices). InsertsFrom z (Err lack) b' t') is k),
      );
    }

    says_went : (n : InsertCounts) → NoWedge w → InsertsFrom w (Ok n) b' t' → InsertsJob v triangles kinds faces coords limit m s c (Ok n) w.piece_words w.piece_reals b' t'
    says_went n h k =
        let q : InsertsFrom first (Ok n) b' t' = subst (λ (z : WorkSlices). InsertsFrom z (Ok n) b' t') is k in
        record {
          bounded = subst (λ (z : ℕ). n.trim.made ≤ z) (λ i. capacity_of (length-replicate {A = ℕ} (length s.words) 0 i) (length-replicate (length s.reals) zero64 i)) q.bounded;
          pieces = ap (λ (z : WorkSlices). z.piece_words) is;
          directions = ap (λ (z : WorkSlices). z.piece_reals) is;
          inserts = λ flags others meshed before answered passed counted. (
            sym (begun_wedge (job_with flags) others meshed before m answered passed s counted) ∙ subst NoWedge is h,
            inserted (job_with flags) others meshed before m answered passed s counted c (Ok n) b' t' q,
          );
        }

    says_each : (a : Result InsertCounts Lack) → NoWedge w → InsertsFrom w a b' t' → InsertsJob v triangles kinds faces coords limit m s c (job_answer a) w.piece_words w.piece_reals b' t'
    says_each (Err lack) h k = says_stopped lack h k
    says_each (Ok n) h k = says_went n h k

    pub says_answer : (a : Result InsertCounts Lack) (r : Result InsertCounts InsertRefusal) → r ≡ job_answer a → NoWedge w → InsertsFrom w a b' t' → InsertsJob v triangles kinds faces coords limit m s c r w.piece_words w.piece_reals b' t'
    says_answer a r e h k = subst (λ (z : Result InsertCounts InsertRefusal). InsertsJob v triangles kinds faces coords limit m s c z w.piece_words w.piece_reals b' t') (sym e) (says_each a h k)
