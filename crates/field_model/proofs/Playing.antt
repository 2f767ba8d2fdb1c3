-- Whatever an addition does, it does the same to a field over any queue and to one whose queue is the heap. Assumes nothing.
use Prim.Native.Nat.{ℕ, zero, suc, ◌+◌, ◌*◌, ◌<◌, ◌≤◌}
use native.Mathlib.Omega.{arith}
use mathlib.Core.Bool.{Bool, true, false, cond, ◌&&◌}
use mathlib.Core.List.{List, [], ◌∷◌, ◌++◌}
use mathlib.Core.Path.{◌≡◌, refl, sym, ap, subst, ◌∙◌}
use borrow.Author.Tests.{ltb-true}
use lib.Dec.{ltb, leb, eqb}
use lib.ListN.{length, get_or, length-append}
use lib.Ieee.{Float, lt, le}
use Rattle.heap.specs.declared.Event.{Event}
use Rattle.heap.specs.declared.Item.TheVariants.{Vertex as Item-as-Vertex}
use Rattle.std.specs.Prelude.{Err, Ok}
use Rattle.buffers.specs.declared.Lack.TheVariants.{Events}
use Rattle.heap.specs.Order.{item_number}
use Rattle.heap.specs.Queue.{Queue, pushed, slots, pushing, Pushed}
use Rattle.heap.specs.Model.{WellFormed}
use Rattle.windows.specs.declared.WindowRecord.{WindowRecord}
use Rattle.windows.specs.Windows.{adjust, trimmed, dead}
use Rattle.actions.specs.Actions as actions
use Rattle.actions.specs.Actions.{Action, list, make, trim, kill, push, touch, Stock, stock, Outcome, wins_with, wins_after, distance_of, with_distance, queueing, and_then, act, play}
use Rattle.compute_spec.specs.of_trim_model.Windows.{Window}
use Rattle.compute_spec.proofs.laws_of_trim_state.Made.{one}
use Rattle.compute_spec.specs.of_face_entries.Entries.{FaceEntry}
use Rattle.field_model.specs.Queue.{QueueKind, LeastFirst}
use Rattle.field_model.specs.Field.{FieldState, Reply, refused, gives, and_go, Slots, push_in, touch_in, act_in, play_in}
use Rattle.field_model.proofs.Queues.{SameQueue, count_same, push_same}
use Rattle.field_model.proofs.Numbers.{Double, Fit, AllFit}

-- whichever a test says
pub either : (P : Bool → Type 1) (b : Bool) → P true → P false → P b
either P true x y = x
either P false x y = y

pub length_adjust : {A : Type 0} (g : A → A) (i : ℕ) (l : List A) → length (adjust i g l) ≡ length l
unfolding adjust
length_adjust g i [] = refl
length_adjust g zero (x ∷ l) = refl
length_adjust g (suc i) (x ∷ l) = ap suc (length_adjust g i l)

-- a vertex that the definitions tell apart by its number, and of which both know whether it passes distances round itself
abbrev pub Agreed : (ℕ → Bool) → List ℕ → ℕ → Type 0
Agreed pseudo flags k = (k < 4294967296) × (pseudo k ≡ eqb (get_or flags (3 * k + 2) 0) 1)

module _ (Q : QueueKind) (L : LeastFirst Q) (slots : Slots) where
  -- the number of windows, and a queue that holds what the heap holds
  pub record Alike (wins : List WindowRecord) (made queued : ℕ) (heap : Queue) (q : Q.State) : Type 1 where
    pub counted : made ≡ length wins
    pub few : length wins ≤ slots.windows
    pub reached : L.Reached q
    pub same : SameQueue slots.events (Q.events q) queued heap

  abbrev pub field_at : List WindowRecord → (ℕ → List Window) → List FaceEntry → List Float → Q.State → FieldState Q.State
  field_at wins live xs vertex q = record { wins = wins; live = live; vertex = vertex; entries = xs; queue = q }

  -- both are refused by one number, or both go on alike
  pub data Meets (wins : List WindowRecord) (live : ℕ → List Window) (xs : List FaceEntry) : Reply (FieldState Q.State) → Outcome → Type 1 where
    both_stop : (n : ℕ) → Meets wins live xs (refused n) (actions.stopped n)
    both_go : (k : Stock) (q : Q.State) → Alike wins k.made k.queued k.queue q → Meets wins live xs (gives (field_at wins live xs k.vertex q)) (actions.went k)

  -- a window is changed
  adjusted : (g : WindowRecord → WindowRecord) (i : ℕ) (wins : List WindowRecord) (made queued : ℕ) (heap : Queue) (q : Q.State) → Alike wins made queued heap q → Alike (adjust i g wins) made queued heap q
  adjusted g i wins made queued heap q a = record { counted = a.counted ∙ sym (length_adjust g i wins); few = subst (λ (n : ℕ). n ≤ slots.windows) (sym (length_adjust g i wins)) a.few; reached = a.reached; same = a.same }

  pub then_meets : (wins wins' : List WindowRecord) (live : ℕ → List Window) (xs : List FaceEntry) (r : Reply (FieldState Q.State)) (o : Outcome) (f : FieldState Q.State → Reply (FieldState Q.State)) (g : Stock → Outcome)
      → Meets wins live xs r o → ((k : Stock) (q : Q.State) → Alike wins k.made k.queued k.queue q → Meets wins' live xs (f (field_at wins live xs k.vertex q)) (g k))
      → Meets wins' live xs (and_go r f) (and_then o g)
  unfolding and_go and_then
  then_meets wins wins' live xs _ _ f g (both_stop n) h = both_stop n
  then_meets wins wins' live xs _ _ f g (both_go k q a) h = h k q a

  module _ (small : slots.windows < 4294967296) (limit : Float) (pseudo : ℕ → Bool) (flags : List ℕ) (v : List Float) (triangles : List ℕ) where
    abbrev pub Named : ℕ → Type 0
    Named = Agreed pseudo flags

    push_meets : (e : Event) → WellFormed e → (wins : List WindowRecord) (live : ℕ → List Window) (xs : List FaceEntry) (made queued : ℕ) (heap : Queue) (vertex : List Float) (q : Q.State) → Alike wins made queued heap q
        → Meets wins live xs (push_in Q slots limit pseudo v triangles e (field_at wins live xs vertex q)) (queueing made vertex (pushing heap queued e))
    unfolding push_in queueing
    push_meets e p wins live xs made queued heap vertex q a =
        let cap = slots.events in
        let put : Reply (FieldState Q.State) = gives (field_at wins live xs vertex (Q.put e q)) in
        subst (λ (n : ℕ). Meets wins live xs (cond (ltb n cap) put (refused 13)) (queueing made vertex (pushing heap queued e))) (sym (count_same cap (Q.events q) queued heap a.same))
        (subst (λ (n : ℕ). Meets wins live xs (cond (ltb queued cap) put (refused 13)) (queueing made vertex (cond {A = Pushed × Queue} (ltb queued n) (Ok (queued + 1), pushed heap queued e) (Err Events, heap)))) (sym a.same.room)
        (go (ltb queued cap) refl))
      where
        go : (b : Bool) → ltb queued slots.events ≡ b
            → Meets wins live xs (cond b (gives (field_at wins live xs vertex (Q.put e q))) (refused 13)) (queueing made vertex (cond {A = Pushed × Queue} b (Ok (queued + 1), pushed heap queued e) (Err Events, heap)))
        go true l = both_go (stock made (queued + 1) (pushed heap queued e) vertex) (Q.put e q) (record {
          counted = a.counted;
          few = a.few;
          reached = L.after_put e q a.reached;
          same = push_same slots.events (Q.events q) (Q.events (Q.put e q)) queued heap e (ltb-true queued slots.events l) p (L.puts e q a.reached) a.same;
        })
        go false l = both_stop 13

    touch_meets : (k : ℕ) (d : Float) → Named k → Double d → (wins : List WindowRecord) (live : ℕ → List Window) (xs : List FaceEntry) (s : Stock) (q : Q.State) → Alike wins s.made s.queued s.queue q
        → Meets wins live xs (touch_in Q slots limit pseudo v triangles k d (field_at wins live xs s.vertex q)) (act slots.cuts slots.windows limit flags (touch k d) s)
    unfolding touch_in act
    touch_meets k d named double wins live xs s q a =
        let vertex = with_distance s.vertex k d in
        let e : Event = record { key = d; item = Item-as-Vertex (record { 0 = k }) } in
        let pushes = push_in Q slots limit pseudo v triangles e (field_at wins live xs vertex q) in
        let rests : Reply (FieldState Q.State) = gives (field_at wins live xs vertex q) in
        let queues = queueing s.made vertex (pushing s.queue s.queued e) in
        let stays = actions.went (stock s.made s.queued s.queue vertex) in
        let flag = eqb (get_or flags (3 * k + 2) 0) 1 in
        either (λ (b : Bool). Meets wins live xs (cond b (cond (pseudo k && le d limit) pushes rests) (gives (field_at wins live xs s.vertex q))) (cond b (cond (flag && le d limit) queues stays) (actions.went s))) (lt d (distance_of s.vertex k))
        (subst (λ (b : Bool). Meets wins live xs (cond (b && le d limit) pushes rests) (cond (flag && le d limit) queues stays)) (sym named.1)
        (either (λ (b : Bool). Meets wins live xs (cond b pushes rests) (cond b queues stays)) (flag && le d limit)
        (push_meets e (record { double = double; numbered = unfold item_number in named.0 }) wins live xs s.made s.queued s.queue vertex q a)
        (both_go (stock s.made s.queued s.queue vertex) q a)))
        (both_go s q a)

    act_meets : (x : Action) (wins : List WindowRecord) (live : ℕ → List Window) (xs : List FaceEntry) (s : Stock) (q : Q.State) → Fit Named (length wins) x → Alike wins s.made s.queued s.queue q
        → Meets (wins_with x wins) live xs (act_in Q slots limit pseudo v triangles x (field_at wins live xs s.vertex q)) (act slots.cuts slots.windows limit flags x s)
    unfolding act_in act wins_with
    act_meets (list n) wins live xs s q f a =
        either (λ (b : Bool). Meets wins live xs (cond b (gives (field_at wins live xs s.vertex q)) (refused 14)) (cond b (actions.went s) (actions.stopped 14))) (leb n slots.cuts) (both_go s q a) (both_stop 14)
    act_meets (make x) wins live xs s q f a =
        let more = wins ++ (x ∷ []) in
        let made : Reply (FieldState Q.State) = gives (field_at more live xs s.vertex q) in
        subst (λ (n : ℕ). Meets more live xs (cond (ltb n slots.windows) made (refused 12)) (act slots.cuts slots.windows limit flags (make x) s)) a.counted
        (go (ltb s.made slots.windows) refl)
      where
        go : (b : Bool) → ltb s.made slots.windows ≡ b
            → Meets (wins ++ (x ∷ [])) live xs (cond b (gives (field_at (wins ++ (x ∷ [])) live xs s.vertex q)) (refused 12)) (cond b (actions.went (stock (suc s.made) s.queued s.queue s.vertex)) (actions.stopped 12))
        go true l = both_go (stock (suc s.made) s.queued s.queue s.vertex) q (record {
          counted = omega (arith, a.counted, length-append wins (x ∷ []));
          few = omega (arith, a.counted, length-append wins (x ∷ []), ltb-true s.made slots.windows l);
          reached = a.reached;
          same = a.same;
        })
        go false l = both_stop 12
    act_meets (trim i b0 b1 low) wins live xs s q f a = both_go s q (adjusted (λ (x : WindowRecord). trimmed x b0 b1 low) i wins s.made s.queued s.queue q a)
    act_meets (kill i) wins live xs s q f a = both_go s q (adjusted dead i wins s.made s.queued s.queue q a)
    act_meets (push e) wins live xs s q f a = push_meets e (record { double = f.1; numbered = omega (arith, f.0, a.few, small) }) wins live xs s.made s.queued s.queue s.vertex q a
    act_meets (touch k d) wins live xs s q f a = touch_meets k d f.0 f.1 wins live xs s q a

    -- the windows are as many as were made
    with_one : (x : Action) (wins : List WindowRecord) → length (wins_with x wins) ≡ length wins + one x
    unfolding wins_with
    with_one (list n) wins = omega arith
    with_one (make x) wins = length-append wins (x ∷ [])
    with_one (trim i b0 b1 low) wins = length_adjust (λ (x : WindowRecord). trimmed x b0 b1 low) i wins ∙ omega arith
    with_one (kill i) wins = length_adjust dead i wins ∙ omega arith
    with_one (push e) wins = omega arith
    with_one (touch k d) wins = omega arith

    pub play_meets : (todo : List Action) (wins : List WindowRecord) (m : ℕ) (live : ℕ → List Window) (xs : List FaceEntry) (s : Stock) (q : Q.State) → AllFit Named (length wins) todo m → Alike wins s.made s.queued s.queue q
        → Meets (wins_after todo wins) live xs (play_in Q slots limit pseudo v triangles todo (field_at wins live xs s.vertex q)) (play slots.cuts slots.windows limit flags todo s)
    unfolding AllFit play_in play wins_after
    play_meets [] wins m live xs s q f a = both_go s q a
    play_meets (x ∷ todo) wins m live xs s q f a =
        then_meets (wins_with x wins) (wins_after todo (wins_with x wins)) live xs (act_in Q slots limit pseudo v triangles x (field_at wins live xs s.vertex q)) (act slots.cuts slots.windows limit flags x s)
        (play_in Q slots limit pseudo v triangles todo) (play slots.cuts slots.windows limit flags todo) (act_meets x wins live xs s q f.0 a)
        (λ k r b. play_meets todo (wins_with x wins) m live xs k r (subst (λ (n : ℕ). AllFit Named n todo m) (sym (with_one x wins)) f.1) b)
