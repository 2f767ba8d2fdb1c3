-- One operation, by its kind and its answer. Assumes nothing.
use Prim.Native.Nat.{ℕ, ◌≤◌, ◌<◌}
use native.Mathlib.Omega.{arith}
use mathlib.Core.List.{List}
use mathlib.Core.Path.{◌≡◌, refl, sym, ap, subst, ◌∙◌}
use borrow.Author.Tests.{le-ltb, lt-ltb}
use lib.ListN.{length}
use lib.Ieee.{Float}
use Rattle.layout.specs.Layout.{reals_per_vertex}
use Rattle.buffers.specs.Slots.{slots_of}
use Rattle.windows.specs.Windows.{capacity_of}
use Rattle.std.specs.Prelude.{Err, Ok}
use Rattle.buffers.specs.declared.Lack.{Lack}
use Rattle.heap.specs.Queue.{queue, popping, Pushed}
use Rattle.actions.specs.Actions as actions
use Rattle.actions.specs.Actions.{queueing, act}
use Rattle.trim.specs.of_trim_state.State.{finish}
use Rattle.trim.proofs.laws_of_trim_split.Untouched.{untouched_same}
use Rattle.trim_operations.specs.declared.Op.{Op}
use Rattle.trim_operations.specs.Operations.{touch, pop, unknown, as_operation}
use Rattle.trim_operations.specs.of_pop.State.{after_pop}
use Rattle.trim_operations.specs.Run.{operate}
use Rattle.trim_operations.specs.declared.OperationRefusal.TheVariants.{UnknownKind, NoVertex, NoSlot}
use Rattle.run_operations.proofs.Pops.{after_pop_lem}
use Rattle.run_operations.specs.Lists.{Setting, Step, StepWithin, snapshot_in, Touches, PopsFirst, Operated}
use Rattle.trim.specs.Buffers.{Slices, slices}

-- ---- a touch
module _ (v : ℕ) (d limit : Float) (flags : List ℕ) (made queued : ℕ) (keys : List Float) (events : List ℕ) (vertex : List Float) where
  pub touch_missing : slots_of (length vertex) reals_per_vertex ≤ v → Touches v d limit flags made queued keys events vertex (Err NoVertex) keys events vertex
  unfolding operate
  touch_missing h = record { fits = tt; says = λ cuts windows mesh m edges words reals s R. rw (le-ltb v (slots_of (length vertex) reals_per_vertex) h) }

  module _ (there : v < slots_of (length vertex) reals_per_vertex) (keys' : List Float) (events' : List ℕ) (vertex' : List Float) where
    -- what `actions::touch` ensures
    abbrev Answers : Pushed → Type 0
    Answers p = (cuts windows made : ℕ) → act cuts windows limit flags (actions.touch v d) (actions.stock made queued (queue keys events) vertex) ≡ queueing made vertex' (p, queue keys' events')

    pub touch_full : (l : Lack) → Answers (Err l) → Touches v d limit flags made queued keys events vertex (Err (NoSlot l)) keys' events' vertex'
    unfolding operate finish queueing
    touch_full l h = record {
      fits = tt;
      says = λ cuts windows mesh m edges words reals s R.
          rw (lt-ltb v (slots_of (length vertex) reals_per_vertex) there)
          (ap (finish s.wins s.live) (ap (act cuts windows limit flags (actions.touch v d)) R.stock ∙ h cuts windows made));
    }

    pub touch_queued : (n : ℕ) → Answers (Ok n) → Touches v d limit flags made queued keys events vertex (Ok (record { made = made; queued = n })) keys' events' vertex'
    unfolding operate finish queueing
    touch_queued n h = record {
      fits = omega arith;
      says = λ cuts windows mesh m edges words reals s R. record {
        state = record { wins = s.wins; live = s.live; stock = actions.stock made n (queue keys' events') vertex' };
        is =
            rw (lt-ltb v (slots_of (length vertex) reals_per_vertex) there)
            (ap (finish s.wins s.live) (ap (act cuts windows limit flags (actions.touch v d)) R.stock ∙ h cuts windows made));
        stands = record { holds = R.holds; stock = refl };
        untouched = untouched_same (λ e. e < m) (snapshot_in made queued (slices edges words reals keys events vertex)) n 0 (queue keys' events') vertex';
      };
    }

-- ---- the kinds
within : (made windows : ℕ) → made ≤ windows → (r : Step) → StepWithin made r → StepWithin windows r
within made windows h (Err refusal) w = tt
within made windows h (Ok counts) w = omega (arith, h, w)

module _ (g : Setting) (made queued : ℕ) where
  pub of_op : (op o : Op) → op ≡ o → (b : Slices) (r : Step) (b' : Slices) → Operated g (as_operation o) made queued b r b' → Operated g (as_operation op) made queued b r b'
  of_op op o h b r b' k = subst (λ (z : Op). Operated g (as_operation z) made queued b r b') (sym h) k

  pub op_unknown : (b : Slices) → Operated g unknown made queued b (Err UnknownKind) b
  unfolding operate
  op_unknown b = record { doubles = tt; fits = tt; says = λ s cs S F. refl }

  module _ (fits : made ≤ g.windows) (edges words : List ℕ) (reals keys : List Float) (events : List ℕ) (vertex : List Float) where
    pub op_pop : made ≤ capacity_of (length words) (length reals) → (words' : List ℕ) (keys' : List Float) (events' : List ℕ) (n : ℕ) → PopsFirst made queued words keys events n words' keys' events'
        → Operated g pop made queued (slices edges words reals keys events vertex) (Ok (record { made = made; queued = n })) (slices edges words' reals keys' events' vertex)
    unfolding operate
    op_pop room words' keys' events' n h = record {
      doubles = tt;
      fits = fits;
      says = λ s cs S F.
          let a = after_pop_lem made queued edges words reals keys events vertex words' keys' events' s S room n h in
          record { state = after_pop s (popping s.stock.queue s.stock.queued); is = refl; stands = a.1; untouched = record { more = omega arith; edges = λ i z. refl; words = a.0; reals = refl } };
    }

    pub op_touch : (v : ℕ) (d : Float) → g.vertices ≡ slots_of (length vertex) reals_per_vertex → (r : Step) (keys' : List Float) (events' : List ℕ) (vertex' : List Float)
        → Touches v d g.limit g.flags made queued keys events vertex r keys' events' vertex' → Operated g (touch v d) made queued (slices edges words reals keys events vertex) r (slices edges words reals keys' events' vertex')
    op_touch v d e r keys' events' vertex' t = record {
      doubles = tt;
      fits = within made g.windows fits r t.fits;
      says = λ s cs S F. rw e (t.says g.cuts g.windows g.mesh g.edges edges words reals s S);
    }
