-- The ways that an insert can go. Assumes nothing.
use Prim.Native.Nat.{ℕ, ◌≤◌}
use mathlib.Core.List.{List}
use mathlib.Core.Path.{◌≡◌, refl, sym, ap, subst}
use lib.ListN.{length}
use lib.Ieee.{Float}
use Rattle.std.specs.declared.option.Option.{Option}
use Rattle.std.specs.declared.result.Result.{Result}
use Rattle.std.specs.declared.result.Result.TheVariants.{Ok, Err}
use Rattle.buffers.specs.declared.FaceId.{FaceId}
use Rattle.buffers.specs.declared.Lack.{Lack}
use Rattle.buffers.specs.Lack.{lack_number}
use Rattle.windows.specs.Windows.{capacity_of}
use Rattle.source_inserts.specs.of_cut_lists.Buffers.{Cuts}
use Rattle.source_inserts.specs.of_trim_split.declared.Counts.{Counts}
use Rattle.source_inserts.specs.of_trim_split.Running as running
use Rattle.source_inserts.specs.of_trim.Buffers.{Slices}
use Rattle.source_inserts.specs.of_trim.Adding.{snapshot_at}
use Rattle.source_inserts.specs.of_offers.declared.Offered.{Offered}
use Rattle.source_inserts.specs.of_offers.Offers.{OffersTo}
use Rattle.source_inserts.specs.of_face_entries.declared.PiecePart.{PiecePart}
use Rattle.source_inserts.specs.of_face_entries.Buffers.{EntryBuffers, entry_capacity, entering}
use Rattle.source_inserts.specs.declared.Insert.{Insert}
use Rattle.source_inserts.specs.declared.Insert.TheVariants.{Entry, Offer}
use Rattle.insertion.specs.declared.InsertCounts.{InsertCounts}
use Rattle.insertion.specs.Snapshots.{insert_snapshot, enter_answer, EntersTo, offer_answer, OfferedTo, InsertsTo}
use Rattle.insertion.proofs.Inserts.{inserts_offer, inserts_full, inserts_entry}

-- ---- of `enter`
module _ (counts : InsertCounts) (f : FaceId) (x : PiecePart) (t t' : EntryBuffers) (e : Result ℕ Lack) (said : (e, t') ≡ entering t counts.entries f.0 x) where
  pub enters_full : (lack : Lack) → e ≡ Err lack → EntersTo counts f x t (Err lack) t'
  enters_full lack h = record { entered = e; said = said; answer = sym (ap (enter_answer counts) h) }

  pub enters_count : (n : ℕ) → e ≡ Ok n → EntersTo counts f x t (Ok (record { trim = counts.trim; entries = n })) t'
  enters_count n h = record { entered = e; said = said; answer = sym (ap (enter_answer counts) h) }

-- ---- of `offer`
module _ (limit : Float) (vw : List ℕ) (er : List Float) (o : Option Offered) (counts : InsertCounts) (b : Slices) (c : Cuts) (a : Result Counts Lack) (b' : Slices) (c' : Cuts) (h : OffersTo limit vw er o counts.trim b c a b' c') where
  pub offered_stopped : (lack : Lack) → a ≡ Err lack → OfferedTo limit vw er o counts b c (Err lack) b' c'
  offered_stopped lack e = record { added = a; offers = h; answer = sym (ap (offer_answer counts) e) }

  pub offered_went : (k : Counts) → a ≡ Ok k → OfferedTo limit vw er o counts b c (Ok (record { trim = k; entries = counts.entries })) b' c'
  offered_went k e = record { added = a; offers = h; answer = sym (ap (offer_answer counts) e) }

-- ---- of `insert`
module _ (limit : Float) (vw : List ℕ) (er : List Float) (x : Insert) (counts : InsertCounts) (b : Slices) (t : EntryBuffers) (c : Cuts) where
  abbrev windows : ℕ
  windows = capacity_of (length b.words) (length b.reals)

  abbrev slots : ℕ
  slots = entry_capacity (length t.words)

  module _ (o : Option Offered) (is : x ≡ Offer o) (b' : Slices) (c' : Cuts) where
    abbrev Done : Result InsertCounts Lack → Type 0
    Done r = InsertsTo limit vw er (Offer o) counts b t c r b' t

    offered_as : (a : Result Counts Lack) → OffersTo limit vw er o counts.trim b c a b' c' → Done (offer_answer counts a)
    offered_as (Err lack) h = record {
      bounded = tt;
      inserts = λ mesh there. inserts_offer (length c.pts) windows slots limit vw mesh o (insert_snapshot counts b t) (running.stopped (lack_number lack)) (h.offers mesh there);
    }
    offered_as (Ok k) h = record {
      bounded = h.bounded;
      inserts = λ mesh there. inserts_offer (length c.pts) windows slots limit vw mesh o (insert_snapshot counts b t) (running.at (snapshot_at k b')) (h.offers mesh there);
    }

    pub insert_offered : (r : Result InsertCounts Lack) → OfferedTo limit vw er o counts b c r b' c' → InsertsTo limit vw er x counts b t c r b' t
    insert_offered r h =
        subst (λ (y : Insert). InsertsTo limit vw er y counts b t c r b' t) (sym is)
        (subst Done (sym h.answer) (offered_as h.added h.offers))

  module _ (f : FaceId) (part : PiecePart) (is : x ≡ Entry f part) (fits : counts.trim.made ≤ windows) (t' : EntryBuffers) where
    abbrev Entered-so : Result InsertCounts Lack → Type 0
    Entered-so r = InsertsTo limit vw er (Entry f part) counts b t c r b t'

    entered_as : (e : Result ℕ Lack) → (e, t') ≡ entering t counts.entries f.0 part → Entered-so (enter_answer counts e)
    entered_as (Err lack) said = record { bounded = tt; inserts = λ mesh there. inserts_full (length c.pts) windows slots limit vw mesh f part (insert_snapshot counts b t) refl t' lack said }
    entered_as (Ok n) said = record { bounded = fits; inserts = λ mesh there. inserts_entry (length c.pts) windows slots limit vw mesh f part (insert_snapshot counts b t) refl t' n said there }

    pub insert_entered : (r : Result InsertCounts Lack) → EntersTo counts f part t r t' → InsertsTo limit vw er x counts b t c r b t'
    insert_entered r h =
        subst (λ (y : Insert). InsertsTo limit vw er y counts b t c r b t') (sym is)
        (subst Entered-so (sym h.answer) (entered_as h.entered h.said))

-- what was read is inserted
pub inserts_read : (limit : Float) (vw : List ℕ) (er : List Float) (x x' : Insert) → x ≡ x' → (counts : InsertCounts) (b : Slices) (t : EntryBuffers) (c : Cuts) (r : Result InsertCounts Lack) (b' : Slices) (t' : EntryBuffers)
    → InsertsTo limit vw er x counts b t c r b' t' → InsertsTo limit vw er x' counts b t c r b' t'
inserts_read limit vw er x x' h counts b t c r b' t' = subst (λ (y : Insert). InsertsTo limit vw er y counts b t c r b' t') h
