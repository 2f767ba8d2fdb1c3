-- The ways that a turn can go: step_idle, step_skip, step_pass. Assumes nothing.
use Rattle.std.specs.declared.option.Option.{Option}
use Rattle.std.specs.declared.option.Option.TheVariants.{None, Some}
use Prim.Native.Nat.{ℕ, ◌*◌, ◌≤◌, ◌<◌}
use native.Mathlib.Omega.{arith}
use mathlib.Core.Bool.{Bool, false}
use mathlib.Core.List.{List, ◌++◌, append-nil}
use mathlib.Core.Path.{◌≡◌, refl, sym, ap, subst, ◌∙◌}
use lib.ListN.{length, drop}
use lib.Ieee.{Float}
use Rattle.layout.specs.Layout.{words_per_window}
use Rattle.heap.specs.declared.Event.{Event}
use Rattle.heap.specs.Queue.{Queue, queue, popping, Popped}
use Rattle.buffers.specs.declared.Lack.{Lack}
use Rattle.windows.specs.Windows.{capacity_of}
use Rattle.chains.specs.Chains.{links}
use Rattle.actions.specs.Actions as actions
use Rattle.actions.specs.Actions.{Stock}
use Rattle.windows_there.specs.of_trim_model.Model.{Candidate}
use Rattle.windows_there.proofs.laws_of_trim_model.Lists.{all_map}
use Rattle.windows_there.specs.of_trim_state.State.{State}
use Rattle.windows_there.specs.of_trim_state.Follows.{Follows}
use Rattle.windows_there.proofs.laws_of_trim_state.Follows.{follows_unqueue}
use Rattle.windows_there.specs.of_live_windows.Live.{HoldsWindows}
use Rattle.spread.specs.of_cut_lists.Buffers.{Cuts}
use Rattle.spread.specs.of_trim_split.declared.Counts.{Counts}
use Rattle.spread.specs.of_trim_split.Running as running
use Rattle.spread.specs.of_trim_split.Running.{Snapshot, Untouched}
use Rattle.spread.proofs.laws_of_trim_split.Untouched.{untouched_then}
use Rattle.spread.specs.of_trim.Buffers.{Slices, slices}
use Rattle.spread.specs.of_trim.Adding.{AddedWithin, snapshot_at, added_end_in}
use Rattle.std.specs.declared.result.Result.{Result}
use Rattle.std.specs.declared.result.Result.TheVariants.{Ok, Err}
use Rattle.windows_there.specs.of_pop.declared.Taken.{Taken}
use Rattle.windows_there.specs.of_pop.Words.{item_pending, item_claimed, taken_of, words_after}
use Rattle.windows_there.specs.of_pop.State.{wins_claimed, live_claimed, after_pop}
use Rattle.windows_there.proofs.laws_of_pop.Claimed.{item_holds, item_words}
use Rattle.windows_there.proofs.laws_of_pop.Answers.{taken_none, taken_one, empty_queue, live_claimed_lem}
use Rattle.spread.specs.of_offers.Offers.{add_all, StandsFor, OfferEnds}
use Rattle.spread.specs.of_offers.Walks.{edge_data, AddsCandidates}
use Rattle.spread.specs.of_spread_offers.declared.Spread.{Spread}
use Rattle.spread.specs.of_spread_offers.Spreading.{spread_candidates, SpreadOf}
use Rattle.spread.proofs.laws_of_spread_offers.Proper.{spread_proper}
use Rattle.spread.specs.Walk.{SpreadIn}
use Rattle.windows_there.specs.There.{GoesInto, CandidateThere, WindowsThere, EndsThere, ItemThere, EventsThere}
use Rattle.windows_there.proofs.Kept.{there_stock, there_all, there_pop}
use Rattle.windows_there.proofs.Events.{events_all, events_pop, popped_there}
use Rattle.windows_there.proofs.Sides.{into_ends}
use Rattle.windows_there.proofs.Passed.{spread_into}
use Rattle.field_step.specs.Step.{turn_of, marked_vertex, marked, after_turn, step_with, step_of, is_empty, turn_candidates, candidates_with, step_candidates}
use Rattle.field_step.specs.Contract.{turn_at, SlotFor, stepped_of, FieldMesh, FieldStands, FieldEnds, counts_after, stepped_end, is_idle, StepsOnce}
use Rattle.field_step.proofs.Turns.{slot_there, turn_held, turn_there}

module _ (limit : Float) (n : ℕ) (v : List Float) (buffer vw round : List ℕ) (er : List Float) (tw : List ℕ) (tr : List Float) (counts : Counts) (b : Slices) (c : Cuts) where
  abbrev windows : ℕ
  windows = capacity_of (length b.words) (length b.reals)

  abbrev P : Popped × Queue
  P = popping (queue b.keys b.events) counts.queued

  abbrev p₀ : Snapshot
  p₀ = snapshot_at counts b

  -- ---- what the pop did
  module _ (fits : counts.made ≤ windows) (words' : List ℕ) (keys' : List Float) (events' : List ℕ) (t : Option Taken) (isT : t ≡ taken_of counts.made b.words P.0)
      (isW : words' ≡ words_after counts.made b.words P.0) (isQ : queue keys' events' ≡ P.1) where
    abbrev b₁ : Slices
    b₁ = slices b.edges words' b.reals keys' events' b.vertex

    -- the queue was empty
    module _ (h : t ≡ None) where
      none : P.0 ≡ None
      none = taken_none counts.made b.words P.0 (sym h ∙ isT)

      words_same : words' ≡ b.words
      unfolding words_after
      words_same = isW ∙ ap (words_after counts.made b.words) none

      queue_same : queue b.keys b.events ≡ queue keys' events'
      queue_same = sym (isQ ∙ empty_queue (queue b.keys b.events) counts.queued none)

      idle_steps : (triangles : List ℕ) (past : List Candidate) (s : State) → FieldStands limit v triangles n past s p₀
          → FieldEnds limit v triangles n (past ++ step_candidates limit v triangles s) p₀ (running.at (snapshot_at counts b₁)) (step_of (length c.pts) windows limit vw v triangles s)
      unfolding step_with candidates_with
      idle_steps triangles past s S =
          let same : popping s.stock.queue s.stock.queued ≡ (None, P.1) = ap (λ (k : Stock). popping k.queue k.queued) S.stands.stock ∙ (λ i. (none i, P.1)) in
          let cs : past ≡ past ++ step_candidates limit v triangles s = sym (append-nil past) ∙ ap (λ (z : Popped × Queue). past ++ candidates_with limit v triangles s z.0) (sym same) in
          record {
            state = s;
            is = ap (step_with (length c.pts) windows limit vw v triangles s) same;
            field = record {
              stands = record {
                holds = subst (λ (w : List ℕ). HoldsWindows counts.made s.wins (links b.edges w) b.reals s.live) (sym words_same) S.stands.holds;
                stock = S.stands.stock ∙ ap (λ (q : Queue). actions.stock counts.made counts.queued q b.vertex) queue_same;
                follows = subst (λ (l : List Candidate). Follows limit (edge_data v triangles).len l s.stock.made s.live) cs S.stands.follows;
              };
              there = S.there;
              events = S.events;
            };
            untouched = record { more = omega arith; edges = λ i z. refl; words = ap (drop (words_per_window * counts.made)) words_same; reals = refl };
          }

      pub step_idle : StepsOnce limit n v buffer vw round er tw tr counts b c (Ok None) b₁
      unfolding is_empty
      step_idle = record {
        bounded = fits;
        idle = ap is_empty (sym none);
        steps = λ triangles F past s S. idle_steps triangles past s S;
      }

    -- an event was taken
    module _ (x : Event) (k : ℕ) (pending : Bool) (h : t ≡ Some (record { event = x; queued = k; pending = pending })) where
      abbrev now : Counts
      now = record { made = counts.made; queued = k }

      abbrev p₁ : Snapshot
      p₁ = snapshot_at now b₁

      first : P.0 ≡ Some (x, k)
      first = (taken_one counts.made b.words P.0 (record { event = x; queued = k; pending = pending }) (sym h ∙ isT)).0

      pending_is : pending ≡ item_pending counts.made b.words x.item
      pending_is = (taken_one counts.made b.words P.0 (record { event = x; queued = k; pending = pending }) (sym h ∙ isT)).1

      words_are : words' ≡ item_claimed counts.made b.words x.item
      unfolding words_after
      words_are = isW ∙ ap (words_after counts.made b.words) first

      pub pending_slot : length words' ≡ length b.words → SlotFor (capacity_of (length words') (length b.reals)) x.item pending
      pending_slot long = subst (λ (z : ℕ). SlotFor (capacity_of z (length b.reals)) x.item pending) (sym long) (slot_there counts.made b.words windows fits x.item pending pending_is)

      popped_untouched : Untouched (λ e. Unit {0}) p₀ p₁
      popped_untouched = record { more = omega arith; edges = λ i z. refl; words = ap (drop (words_per_window * counts.made)) words_are ∙ item_words counts.made b.words x.item; reals = refl }

      module _ (turn : Option Spread) (isTurn : turn ≡ turn_at limit n words' b.reals b.vertex x.item x.key pending) where
        module _ (triangles : List ℕ) (past : List Candidate) (s : State) (S : FieldStands limit v triangles n past s p₀) where
          abbrev s₁ : State
          s₁ = after_pop s (Some (x, k), P.1)

          same_pop : popping s.stock.queue s.stock.queued ≡ (Some (x, k), P.1)
          same_pop = ap (λ (z : Stock). popping z.queue z.queued) S.stands.stock ∙ (λ i. (first i, P.1))

          item_there : ItemThere (λ i. i < n) x.item
          item_there = popped_there n s S.events x k P.1 (sym same_pop)

          popped_events : EventsThere n s₁
          popped_events = events_pop n s S.events (Some (x, k), P.1) (sym same_pop)

          turn_is : turn ≡ turn_of limit x.item x.key s
          turn_is =
              isTurn
              ∙ (λ i. turn_at limit n (words_are i) b.reals b.vertex x.item x.key (pending_is i))
              ∙ turn_held limit n counts.made b.words b.reals b.vertex b.edges s S.stands.holds (ap (λ (z : Stock). z.vertex) S.stands.stock) fits x.item item_there x.key

          step_is : step_of (length c.pts) windows limit vw v triangles s ≡ after_turn (length c.pts) windows limit vw v triangles turn s₁
          unfolding step_with
          step_is = ap (step_with (length c.pts) windows limit vw v triangles s) same_pop ∙ ap (λ (z : Option Spread). after_turn (length c.pts) windows limit vw v triangles z s₁) (sym turn_is)

          candidates_are : step_candidates limit v triangles s ≡ turn_candidates limit v triangles turn
          unfolding candidates_with
          candidates_are = ap (λ (z : Popped × Queue). candidates_with limit v triangles s z.0) same_pop ∙ ap (turn_candidates limit v triangles) (sym turn_is)

          popped_stands : StandsFor limit (edge_data v triangles) past s₁ p₁
          unfolding after_pop
          popped_stands = record {
            holds = subst (λ (w : List ℕ). HoldsWindows counts.made (wins_claimed x.item s.wins) (links b.edges w) b.reals (λ e. live_claimed x.item (s.live e))) (sym words_are)
                (item_holds counts.made b.words b.reals b.edges s.wins s.live S.stands.holds x.item fits);
            stock = λ i. actions.stock (S.stands.stock i).made k (sym isQ i) (S.stands.stock i).vertex;
            follows = follows_unqueue S.stands.follows (λ (e : ℕ). live_claimed x.item (s.live e)) (λ e. live_claimed_lem x.item (s.live e));
          }

          popped_windows : WindowsThere (GoesInto triangles) s₁
          popped_windows = there_pop (GoesInto triangles) s S.there (Some (x, k), P.1)

        -- and it is out of date
        module _ (out : turn ≡ None) where
          skip_steps : (triangles : List ℕ) (past : List Candidate) (s : State) → FieldStands limit v triangles n past s p₀
              → FieldEnds limit v triangles n (past ++ step_candidates limit v triangles s) p₀ (running.at p₁) (step_of (length c.pts) windows limit vw v triangles s)
          unfolding after_turn turn_candidates
          skip_steps triangles past s S =
              let cs : past ≡ past ++ step_candidates limit v triangles s = sym (append-nil past) ∙ ap (λ (z : Option Spread). past ++ turn_candidates limit v triangles z) (sym out) ∙ ap (λ (l : List Candidate). past ++ l) (sym (candidates_are triangles past s S)) in
              record {
                state = s₁ triangles past s S;
                is = step_is triangles past s S ∙ ap (λ (z : Option Spread). after_turn (length c.pts) windows limit vw v triangles z (s₁ triangles past s S)) out;
                field = record {
                  stands = subst (λ (l : List Candidate). StandsFor limit (edge_data v triangles) l (s₁ triangles past s S) p₁) cs (popped_stands triangles past s S);
                  there = popped_windows triangles past s S;
                  events = popped_events triangles past s S;
                };
                untouched = popped_untouched;
              }

          pub step_skip : StepsOnce limit n v buffer vw round er tw tr counts b c (Ok (Some now)) b₁
          unfolding is_empty
          step_skip = record {
            bounded = fits;
            idle = ap is_empty (sym first);
            steps = λ triangles F past s S. skip_steps triangles past s S;
          }

        -- or something is passed on
        module _ (p : Spread) (on : turn ≡ Some p) (vertex' : List Float) (isV : vertex' ≡ marked_vertex p b.vertex) where
          abbrev b₂ : Slices
          b₂ = slices b.edges words' b.reals keys' events' vertex'

          abbrev p₂ : Snapshot
          p₂ = snapshot_at now b₂

          module _ (triangles : List ℕ) (past : List Candidate) (s : State) (S : FieldStands limit v triangles n past s p₀) where
            abbrev s₂ : State
            s₂ = marked p (s₁ triangles past s S)

            marked_stands : StandsFor limit (edge_data v triangles) past s₂ p₂
            marked_stands =
                let Q = popped_stands triangles past s S in
                record {
                  holds = Q.holds;
                  stock = (λ i. actions.stock (Q.stock i).made (Q.stock i).queued (Q.stock i).queue (marked_vertex p (Q.stock i).vertex)) ∙ ap (λ (l : List Float). actions.stock counts.made k (queue keys' events') l) (sym isV);
                  follows = Q.follows;
                }

            passed_is : step_of (length c.pts) windows limit vw v triangles s ≡ add_all (length c.pts) windows limit vw (edge_data v triangles) (spread_candidates v triangles p) s₂
            unfolding after_turn
            passed_is = step_is triangles past s S ∙ ap (λ (z : Option Spread). after_turn (length c.pts) windows limit vw v triangles z (s₁ triangles past s S)) on

            passed_candidates : step_candidates limit v triangles s ≡ spread_candidates v triangles p
            unfolding turn_candidates
            passed_candidates = candidates_are triangles past s S ∙ ap (turn_candidates limit v triangles) on

            module _ (F : FieldMesh v triangles n buffer b.edges er tw tr vw round) where
              passed_of : SpreadOf triangles n p
              passed_of = turn_there triangles n F.mesh.mesh.valid limit s S.there x.item (item_there triangles past s S) x.key (Some p) (sym on ∙ turn_is triangles past s S)

              spread_in : SpreadIn buffer vw round p triangles n
              spread_in = record { same = F.same; rounds = F.rounds; there = passed_of }

              passed_ends : (r : Result Counts Lack) (b' : Slices) → OfferEnds limit (edge_data v triangles) (past ++ spread_candidates v triangles p) p₂ (added_end_in r b') (add_all (length c.pts) windows limit vw (edge_data v triangles) (spread_candidates v triangles p) s₂)
                  → FieldEnds limit v triangles n (past ++ step_candidates limit v triangles s) p₀ (added_end_in r b') (step_of (length c.pts) windows limit vw v triangles s)
              passed_ends (Err lack) b' e = passed_is ∙ e
              passed_ends (Ok m) b' e = record {
                state = e.state;
                is = passed_is ∙ e.is;
                field = record {
                  stands = subst (λ (l : List Candidate). StandsFor limit (edge_data v triangles) (past ++ l) e.state (snapshot_at m b')) (sym passed_candidates) e.stands;
                  there = there_all (GoesInto triangles) (length c.pts) windows limit vw (edge_data v triangles) (spread_candidates v triangles p) (spread_into v triangles n F.mesh.mesh.valid p passed_of)
                      s₂ (there_stock (GoesInto triangles) (s₁ triangles past s S) (popped_windows triangles past s S) s₂.stock) e.state e.is;
                  events = events_all n (length c.pts) windows limit vw (edge_data v triangles) (spread_candidates v triangles p)
                      (all_map {P = CandidateThere (GoesInto triangles)} {Q = EndsThere n (edge_data v triangles)} (into_ends v triangles n F.mesh.mesh.valid) (spread_candidates v triangles p) (spread_into v triangles n F.mesh.mesh.valid p passed_of))
                      s₂ (popped_events triangles past s S) e.state e.is;
                };
                untouched = untouched_then (λ e. Unit {0}) p₀ p₂ (snapshot_at m b') (record { more = popped_untouched.more; edges = popped_untouched.edges; words = popped_untouched.words; reals = popped_untouched.reals }) e.untouched;
              }

          step_ends : (r : Result Counts Lack) (b' : Slices) (Q : running.End → Type 0) → Q (added_end_in r b') → Q (stepped_end counts (stepped_of r) b')
          step_ends (Err lack) b' Q h = h
          step_ends (Ok m) b' Q h = h

          step_bounded : length words' ≡ length b.words → (r : Result Counts Lack) → AddedWithin (capacity_of (length words') (length b.reals)) r → (counts_after counts (stepped_of r)).made ≤ windows
          step_bounded long (Err lack) h = fits
          step_bounded long (Ok m) h = subst (λ (z : ℕ). m.made ≤ capacity_of z (length b.reals)) long h

          not_idle : (r : Result Counts Lack) → is_idle (stepped_of r) ≡ false
          not_idle (Err lack) = refl
          not_idle (Ok m) = refl

          pub step_pass : length words' ≡ length b.words → (r : Result Counts Lack) (b' : Slices)
              → AddsCandidates limit vw v er tw tr (SpreadIn buffer vw round p) (λ triangles. spread_candidates v triangles p) now b₂ c r b'
              → StepsOnce limit n v buffer vw round er tw tr counts b c (stepped_of r) b'
          unfolding is_empty
          step_pass long r b' A = record {
            bounded = step_bounded long r A.bounded;
            idle = not_idle r ∙ ap is_empty (sym first);
            steps = λ triangles F past s S.
                let adds = A.adds triangles n F.mesh (spread_in triangles past s S F) past (s₂ triangles past s S) (marked_stands triangles past s S) (spread_proper limit v triangles n F.mesh.mesh.valid F.long p (passed_of triangles past s S F)) in
                step_ends r b' (λ end. FieldEnds limit v triangles n (past ++ step_candidates limit v triangles s) p₀ end (step_of (length c.pts) windows limit vw v triangles s))
                (passed_ends triangles past s S F r b'
                (subst (λ (z : ℕ). OfferEnds limit (edge_data v triangles) (past ++ spread_candidates v triangles p) p₂ (added_end_in r b') (add_all (length c.pts) (capacity_of z (length b.reals)) limit vw (edge_data v triangles) (spread_candidates v triangles p) (s₂ triangles past s S))) long adds));
          }
