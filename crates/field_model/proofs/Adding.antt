-- A candidate that is added, and many, over any queue and over the heap: the same refusal, or the same windows, lists and vertices. Assumes nothing.
use Prim.Native.Nat.{ℕ, ◌<◌}
use mathlib.Core.Bool.{Bool, cond}
use mathlib.Core.List.{List, [], ◌∷◌}
use mathlib.Core.Path.{subst}
use lib.Ieee.{Float}
use Rattle.compute_spec.specs.of_better.Stretches.{better_of}
use Rattle.windows.specs.declared.WindowRecord.{WindowRecord}
use Rattle.actions.specs.Actions.{Action, Outcome, wins_after, play}
use Rattle.compute_spec.specs.of_trim_model.Intervals.{tiny_of}
use Rattle.compute_spec.specs.of_trim_model.Windows.{Window}
use Rattle.compute_spec.specs.of_trim_model.Add.{add_to}
use Rattle.compute_spec.specs.of_trim_model.Model.{Candidate, as_window, admits}
use Rattle.compute_spec.specs.of_trim_state.Trace.{adding}
use Rattle.compute_spec.specs.of_trim_state.State as state
use Rattle.compute_spec.specs.of_trim_state.State.{State, Result, EdgeData, edge_in, put, finish, admit_of, add_of}
use Rattle.compute_spec.specs.of_offers.Offers.{and_next, add_all}
use Rattle.compute_spec.specs.of_offers.Walks.{edge_data}
use Rattle.compute_spec.specs.of_face_entries.Entries.{FaceEntry}
use Rattle.field_model.specs.Queue.{QueueKind, LeastFirst}
use Rattle.field_model.specs.Field.{FieldState, Reply, refused, gives, and_go, Slots, with_live, play_in, admit_in, add_in, add_all_in}
use Rattle.field_model.proofs.Numbers.{AllFit, adding_fit}
use Rattle.field_model.proofs.Playing.{either, Agreed, Alike, field_at, Meets, both_stop, both_go, play_meets}

module _ (Q : QueueKind) (L : LeastFirst Q) (slots : Slots) where
  -- a state with the heap, and the field with q in its place
  abbrev pub like : State → List FaceEntry → Q.State → FieldState Q.State
  like s xs q = field_at Q L slots s.wins s.live xs s.stock.vertex q

  abbrev pub AlikeIn : State → Q.State → Type 1
  AlikeIn s q = Alike Q L slots s.wins s.stock.made s.stock.queued s.stock.queue q

  -- both are refused by one number, or both go on alike
  pub data MeetsIn (xs : List FaceEntry) : Reply (FieldState Q.State) → Result → Type 1 where
    both_stopped : (n : ℕ) → MeetsIn xs (refused n) (state.stopped n)
    both_went : (s : State) (q : Q.State) → AlikeIn s q → MeetsIn xs (gives (like s xs q)) (state.went s)

  pub next_meets : (xs : List FaceEntry) (r : Reply (FieldState Q.State)) (o : Result) (f : FieldState Q.State → Reply (FieldState Q.State)) (g : State → Result)
      → MeetsIn xs r o → ((s : State) (q : Q.State) → AlikeIn s q → MeetsIn xs (f (like s xs q)) (g s)) → MeetsIn xs (and_go r f) (and_next o g)
  unfolding and_go and_next
  next_meets xs _ _ f g (both_stopped n) h = both_stopped n
  next_meets xs _ _ f g (both_went s q a) h = h s q a

  finish_meets : (wins : List WindowRecord) (live live' : ℕ → List Window) (xs : List FaceEntry) (r : Reply (FieldState Q.State)) (o : Outcome) → Meets Q L slots wins live xs r o
      → MeetsIn xs (and_go r (λ (g : FieldState Q.State). gives (with_live live' g))) (finish wins live' o)
  unfolding and_go finish
  finish_meets wins live live' xs _ _ (both_stop n) = both_stopped n
  finish_meets wins live live' xs _ _ (both_go k q a) = both_went (record { wins = wins; live = live'; stock = k }) q a

  module _ (small : slots.windows < 4294967296) (limit : Float) (pseudo : ℕ → Bool) (flags : List ℕ) (v : List Float) (triangles : List ℕ)
      (named : (e : ℕ) → Agreed pseudo flags ((edge_data v triangles).low e) × Agreed pseudo flags ((edge_data v triangles).high e)) where
    abbrev mesh : EdgeData
    mesh = edge_data v triangles

    admit_meets : (c : Candidate) (s : State) (xs : List FaceEntry) (q : Q.State) → AlikeIn s q → MeetsIn xs (admit_in Q slots limit pseudo v triangles c (like s xs q)) (admit_of slots.cuts slots.windows limit flags mesh c s)
    unfolding admit_in admit_of
    admit_meets c s xs q a =
        let e = c.edge in
        let made = s.stock.made in
        let todo : ℕ → List Action = λ (n : ℕ). adding (edge_in mesh e) (as_window c) (s.live e) n in
        let live : ℕ → ℕ → List Window = λ (n : ℕ). put e (add_to better_of (tiny_of (mesh.len e)) (as_window c) (s.live e) n).live s.live in
        let fit = adding_fit (Agreed pseudo flags) (edge_in mesh e) (named e).0 (named e).1 (as_window c) (s.live e) made in
        let after = (add_to better_of (tiny_of (mesh.len e)) (as_window c) (s.live e) made).made in
        subst (λ (n : ℕ). MeetsIn xs (and_go (play_in Q slots limit pseudo v triangles (todo n) (like s xs q)) (λ (g : FieldState Q.State). gives (with_live (live n) g))) (admit_of slots.cuts slots.windows limit flags mesh c s)) a.counted
        (finish_meets (wins_after (todo made) s.wins) s.live (live made) xs (play_in Q slots limit pseudo v triangles (todo made) (like s xs q)) (play slots.cuts slots.windows limit flags (todo made) s.stock)
        (play_meets Q L slots small limit pseudo flags v triangles (todo made) s.wins after s.live xs s.stock q (subst (λ (n : ℕ). AllFit (Agreed pseudo flags) n (todo made) after) a.counted fit) a))

    add_meets : (c : Candidate) (s : State) (xs : List FaceEntry) (q : Q.State) → AlikeIn s q → MeetsIn xs (add_in Q slots limit pseudo v triangles c (like s xs q)) (add_of slots.cuts slots.windows limit flags mesh c s)
    unfolding add_in add_of
    add_meets c s xs q a =
        either (λ (b : Bool). MeetsIn xs (cond b (admit_in Q slots limit pseudo v triangles c (like s xs q)) (gives (like s xs q))) (cond b (admit_of slots.cuts slots.windows limit flags mesh c s) (state.went s))) (admits limit mesh.len c)
        (admit_meets c s xs q a) (both_went s q a)

    pub all_meets : (cs : List Candidate) (s : State) (xs : List FaceEntry) (q : Q.State) → AlikeIn s q
        → MeetsIn xs (add_all_in Q slots limit pseudo v triangles cs (like s xs q)) (add_all slots.cuts slots.windows limit flags mesh cs s)
    unfolding add_all_in add_all
    all_meets [] s xs q a = both_went s q a
    all_meets (c ∷ cs) s xs q a =
        next_meets xs (add_in Q slots limit pseudo v triangles c (like s xs q)) (add_of slots.cuts slots.windows limit flags mesh c s) (add_all_in Q slots limit pseudo v triangles cs) (add_all slots.cuts slots.windows limit flags mesh cs)
        (add_meets c s xs q a) (λ t r b. all_meets cs t xs r b)
