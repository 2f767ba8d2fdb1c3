-- Lists of inserts are done piece by piece: none, a window that is offered, an entry in a face, and one list behind another. Assumes nothing.
use Rattle.std.specs.declared.option.Option.{Option}
use Prim.Native.Nat.{ℕ, ◌+◌, ◌*◌, ◌≤◌, ◌<◌}
use mathlib.Core.List.{List, [], ◌∷◌, ◌++◌, append-nil, append_assoc}
use mathlib.Core.Path.{◌≡◌, refl, sym, ap, ◌∙◌, subst}
use borrow.Author.Tests.{lt-ltb, le-ltb}
use lib.ListN.{length, get_or}
use lib.Ieee.{Float}
use Rattle.layout.specs.Layout.{words_per_triangle, triangle_last_entry}
use Rattle.buffers.specs.declared.FaceId.{FaceId}
use Rattle.buffers.specs.declared.Lack.{Lack}
use Rattle.buffers.specs.declared.Lack.TheVariants.{Entries}
use Rattle.buffers.specs.Lack.{lack_number}
use Rattle.source_inserts.specs.of_better.Claim.{All}
use Rattle.source_inserts.specs.of_trim_model.Model.{Candidate}
use Rattle.source_inserts.specs.of_trim_model.Claim.{AdmittedProper}
use Rattle.source_inserts.proofs.laws_of_trim_model.Lists.{all_left, all_right}
use Rattle.source_inserts.specs.of_trim_state.State.{EdgeData}
use Rattle.source_inserts.specs.of_trim_state.State as state
use Rattle.source_inserts.specs.of_trim_split.Running as running
use Rattle.source_inserts.specs.of_trim_split.Running.{End, Untouched}
use Rattle.source_inserts.proofs.laws_of_trim_split.Untouched.{untouched_same, untouched_then}
use Rattle.source_inserts.specs.of_offers.declared.Offered.{Offered}
use Rattle.source_inserts.specs.of_offers.Offers.{add_all, offer_list, Offers}
use Rattle.source_inserts.specs.of_face_entries.declared.PiecePart.{PiecePart}
use Rattle.std.specs.declared.result.Result.{Result}
use Rattle.std.specs.declared.result.Result.TheVariants.{Ok, Err}
use Rattle.source_inserts.specs.of_face_entries.Buffers.{EntryBuffers, entry_capacity, entering}
use Rattle.source_inserts.specs.of_face_entries.Entries.{FaceEntry}
use Rattle.source_inserts.proofs.laws_of_face_entries.Answers.{was_free, was_full, call_only}
use Rattle.source_inserts.proofs.laws_of_face_entries.Keeping.{enter_others}
use Rattle.source_inserts.specs.declared.Insert.{Insert}
use Rattle.source_inserts.specs.declared.Insert.TheVariants.{Entry, Offer}
use Rattle.source_inserts.specs.Inserts.{candidates_at, candidates_in}
use Rattle.insertion.specs.Insertion.{Inserted, InsertResult, stopped, went, and_insert, with_entries, insert_one, insert_each}
use Rattle.insertion.specs.Snapshots as snapshots
use Rattle.insertion.specs.Snapshots.{InsertSnapshot, InsertEnd, SidesKept, HoldsInserted, InsertsFrom}

-- ---- results
next_went : (r : InsertResult) → and_insert r went ≡ r
unfolding and_insert
next_went (stopped n) = refl
next_went (went s) = refl

next_stopped : (r : InsertResult) (n : ℕ) (f : Inserted → InsertResult) → r ≡ stopped n → and_insert r f ≡ stopped n
unfolding and_insert
next_stopped r n f h = ap (λ (x : InsertResult). and_insert x f) h

next_inserted : (r : InsertResult) (s : Inserted) (f : Inserted → InsertResult) → r ≡ went s → and_insert r f ≡ f s
unfolding and_insert
next_inserted r s f h = ap (λ (x : InsertResult). and_insert x f) h

next_next : (r : InsertResult) (f g : Inserted → InsertResult) → and_insert (and_insert r f) g ≡ and_insert r (λ s. and_insert (f s) g)
unfolding and_insert
next_next (stopped n) f g = refl
next_next (went s) f g = refl

next_same : (r : InsertResult) (f g : Inserted → InsertResult) → ((s : Inserted) → f s ≡ g s) → and_insert r f ≡ and_insert r g
unfolding and_insert
next_same (stopped n) f g h = refl
next_same (went s) f g h = h s

pub candidates_append : (xs ys : List Insert) → candidates_in (xs ++ ys) ≡ candidates_in xs ++ candidates_in ys
unfolding candidates_in
candidates_append [] ys = refl
candidates_append (x ∷ xs) ys = ap (λ (l : List Candidate). candidates_at x ++ l) (candidates_append xs ys) ∙ sym (append_assoc (candidates_at x) (candidates_in xs) (candidates_in ys))

candidates_one : (x : Insert) → candidates_in (x ∷ []) ≡ candidates_at x
unfolding candidates_in
candidates_one x = append-nil (candidates_at x)

sides_same : (t : List ℕ) → SidesKept t t
sides_same t i ne = refl

sides_then : (t t' t'' : List ℕ) → SidesKept t t' → SidesKept t' t'' → SidesKept t t''
sides_then t t' t'' p q i ne = q i ne ∙ p i ne

module _ (cuts windows slots : ℕ) (limit : Float) (flags : List ℕ) (mesh : EdgeData) where
  abbrev all : List Insert → Inserted → InsertResult
  all = insert_each cuts windows slots limit flags mesh

  abbrev one : Insert → Inserted → InsertResult
  one = insert_one cuts windows slots limit flags mesh

  abbrev Proper : List Candidate → Type 0
  Proper = All (AdmittedProper limit mesh.len)

  insert_append : (xs ys : List Insert) (s : Inserted) → all (xs ++ ys) s ≡ and_insert (all xs s) (all ys)
  unfolding insert_each and_insert
  insert_append [] ys s = refl
  insert_append (x ∷ xs) ys s =
      next_same (one x s) (all (xs ++ ys)) (λ t. and_insert (all xs t) (all ys)) (insert_append xs ys)
      ∙ sym (next_next (one x s) (all xs) (all ys))

  insert_one_lem : (x : Insert) (s : Inserted) → all (x ∷ []) s ≡ one x s
  unfolding insert_each
  insert_one_lem x s = next_went (one x s)

  abbrev Does : List Insert → InsertSnapshot → InsertEnd → Type 0
  Does = InsertsFrom cuts windows slots limit flags mesh

  -- nothing is inserted
  pub inserts_none : (p : InsertSnapshot) → Does [] p (snapshots.at p)
  unfolding insert_each candidates_in
  inserts_none p t₀ past s S a = record {
    inserted = s;
    is = refl;
    stands = subst (λ (l : List Candidate). HoldsInserted limit mesh t₀ l s p) (sym (append-nil past)) S;
    untouched = untouched_same (λ e. Unit {0}) p.trim p.trim.queued p.trim.last p.trim.queue p.trim.vertex;
    kept = sides_same p.entries.triangles;
  }

  -- a window is offered
  module _ (o : Option Offered) (p : InsertSnapshot) where
    offer_stopped : (s : Inserted) (n : ℕ) → add_all cuts windows limit flags mesh (offer_list o) s.state ≡ state.stopped n → one (Offer o) s ≡ stopped n
    unfolding insert_one with_entries
    offer_stopped s n h = ap (with_entries s.entries) h

    offer_went : (s : Inserted) (u : state.State) → add_all cuts windows limit flags mesh (offer_list o) s.state ≡ state.went u → one (Offer o) s ≡ went (record { state = u; entries = s.entries })
    unfolding insert_one with_entries
    offer_went s u h = ap (with_entries s.entries) h

    -- where it ends, the entries being as they are
    abbrev offer_end : End → InsertEnd
    offer_end (running.stopped n) = snapshots.stopped n
    offer_end (running.at q) = snapshots.at (record { trim = q; entered = p.entered; entries = p.entries })

    pub inserts_offer : (end : End) → Offers cuts windows limit flags mesh (offer_list o) p.trim end → Does (Offer o ∷ []) p (offer_end end)
    inserts_offer (running.stopped n) h t₀ past s S a =
        insert_one_lem (Offer o) s ∙ offer_stopped s n (h past s.state S.trim (subst Proper (candidates_one (Offer o)) a))
    inserts_offer (running.at q) h t₀ past s S a =
        let r = h past s.state S.trim (subst Proper (candidates_one (Offer o)) a) in
        let u : Inserted = record { state = r.state; entries = s.entries } in
        record {
          inserted = u;
          is = insert_one_lem (Offer o) s ∙ offer_went s r.state r.is;
          stands = subst (λ (l : List Candidate). HoldsInserted limit mesh t₀ (past ++ l) u (record { trim = q; entered = p.entered; entries = p.entries })) (sym (candidates_one (Offer o)))
              (record { trim = r.stands; entries = S.entries });
          untouched = r.untouched;
          kept = sides_same p.entries.triangles;
        }

  -- a part of a piece is entered
  module _ (f : FaceId) (x : PiecePart) (p : InsertSnapshot) (fits : slots ≡ entry_capacity (length p.entries.words)) (t' : EntryBuffers) where
    abbrev new : FaceEntry
    new = record { face = f.0; entry = x }

    entry_full : (s : Inserted) → length s.entries ≡ p.entered → slots ≤ p.entered → one (Entry f x) s ≡ stopped (lack_number Entries)
    unfolding insert_one
    entry_full s c h = rw (c, le-ltb p.entered slots h) refl

    entry_free : (s : Inserted) → length s.entries ≡ p.entered → p.entered < slots → one (Entry f x) s ≡ went (record { state = s.state; entries = s.entries ++ (new ∷ []) })
    unfolding insert_one
    entry_free s c h = rw (c, lt-ltb p.entered slots h) refl

    pub inserts_full : (lack : Lack) → (Err lack, t') ≡ entering p.entries p.entered f.0 x → Does (Entry f x ∷ []) p (snapshots.stopped (lack_number lack))
    inserts_full lack said t₀ past s S a =
        let w = was_full p.entries t' p.entered f.0 x (Err lack) said lack refl in
        insert_one_lem (Entry f x) s
        ∙ entry_full s S.entries.holds.counted (subst (λ (z : ℕ). z ≤ p.entered) (sym fits) w.1.1)
        ∙ ap (λ (l : Lack). stopped (lack_number l)) (sym w.0)

    pub inserts_entry : (n : ℕ) → (Ok n, t') ≡ entering p.entries p.entered f.0 x → words_per_triangle * f.0 + triangle_last_entry < length p.entries.triangles
        → Does (Entry f x ∷ []) p (snapshots.at (record { trim = p.trim; entered = n; entries = t' }))
    unfolding candidates_in
    inserts_entry n said there t₀ past s S a =
        let w = was_free p.entries t' p.entered f.0 x (Ok n) said n refl in
        record {
          inserted = record { state = s.state; entries = s.entries ++ (new ∷ []) };
          is = insert_one_lem (Entry f x) s ∙ entry_free s S.entries.holds.counted (subst (λ (z : ℕ). p.entered < z) (sym fits) w.1.1);
          stands = record {
            trim = (subst (λ (l : List Candidate). HoldsInserted limit mesh t₀ l s p) (sym (append-nil past)) S).trim;
            entries = call_only p.entries.triangles p.entries.words t'.triangles t'.words p.entered f.0 x (Ok n) said n refl there s.entries t₀ S.entries;
          };
          untouched = untouched_same (λ e. Unit {0}) p.trim p.trim.queued p.trim.last p.trim.queue p.trim.vertex;
          kept = λ i ne. ap (λ (q : Result ℕ Lack × EntryBuffers). get_or q.1.triangles i 0) said ∙ enter_others p.entries p.entered f.0 x i ne;
        }

  -- a list that stops, and a list behind one that went: what it inserts may depend on what was kept
  module _ (xs ys : List Insert) (p : InsertSnapshot) where
    proper_left : Proper (candidates_in (xs ++ ys)) → Proper (candidates_in xs)
    proper_left a = all_left (AdmittedProper limit mesh.len) (candidates_in xs) (candidates_in ys) (subst Proper (candidates_append xs ys) a)

    proper_right : Proper (candidates_in (xs ++ ys)) → Proper (candidates_in ys)
    proper_right a = all_right (AdmittedProper limit mesh.len) (candidates_in xs) (candidates_in ys) (subst Proper (candidates_append xs ys) a)

    pub inserts_stop : (n : ℕ) → Does xs p (snapshots.stopped n) → Does (xs ++ ys) p (snapshots.stopped n)
    inserts_stop n h t₀ past s S a = insert_append xs ys s ∙ next_stopped (all xs s) n (all ys) (h t₀ past s S (proper_left a))

    past_is : (past : List Candidate) → (past ++ candidates_in xs) ++ candidates_in ys ≡ past ++ candidates_in (xs ++ ys)
    past_is past = append_assoc past (candidates_in xs) (candidates_in ys) ∙ ap (λ (l : List Candidate). past ++ l) (sym (candidates_append xs ys))

    module _ (p' : InsertSnapshot) (h : Does xs p (snapshots.at p')) where
      pub inserts_then : (end : InsertEnd) → (Untouched (λ e. Unit {0}) p.trim p'.trim → SidesKept p.entries.triangles p'.entries.triangles → Does ys p' end) → Does (xs ++ ys) p end
      inserts_then (snapshots.stopped n) g t₀ past s S a =
          let r = h t₀ past s S (proper_left a) in
          insert_append xs ys s ∙ next_inserted (all xs s) r.inserted (all ys) r.is ∙ g r.untouched r.kept t₀ (past ++ candidates_in xs) r.inserted r.stands (proper_right a)
      inserts_then (snapshots.at q) g t₀ past s S a =
          let r = h t₀ past s S (proper_left a) in
          let o = g r.untouched r.kept t₀ (past ++ candidates_in xs) r.inserted r.stands (proper_right a) in
          record {
            inserted = o.inserted;
            is = insert_append xs ys s ∙ next_inserted (all xs s) r.inserted (all ys) r.is ∙ o.is;
            stands = subst (λ (l : List Candidate). HoldsInserted limit mesh t₀ l o.inserted q) (past_is past) o.stands;
            untouched = untouched_then (λ e. Unit {0}) p.trim p'.trim q.trim r.untouched o.untouched;
            kept = sides_then p.entries.triangles p'.entries.triangles q.entries.triangles r.kept o.kept;
          }
