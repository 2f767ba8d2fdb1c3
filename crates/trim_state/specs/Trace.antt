-- The actions of the Rust's `add` of an admitted window, in its order, told from the windows and the lists alone. Definitions only.
use Rattle.std.specs.Prelude.{ℕ, suc, true, List, [], ◌∷◌, ◌++◌, length, Float, if◌then◌else◌}
use Rattle.std.specs.Float.{binary64}
use Rattle.std.specs.Float.Ieee.{of_bits, le}
use Rattle.float64.specs.Scalar.{zero64}
use Rattle.float64.specs.Notation.{◌⊖◌, ◌⊗◌}
use Rattle.source.specs.declared.Win.{Win}
use Rattle.source.specs.Distance.{lowest_of, eval_of}
use Rattle.better.specs.Points.{pts_of, walk_of}
use Rattle.better.specs.Stretches.{Interval, better_of}
use Rattle.heap.specs.declared.Event.{Event}
use Rattle.heap.specs.declared.Item.TheVariants.{Window as Item-as-Window}
use Rattle.windows.specs.declared.Edge.{Edge}
use Rattle.windows.specs.declared.WindowRecord.{WindowRecord}
use Rattle.actions.specs.Actions.{Action, list, make, trim, kill, push, touch}
use Rattle.trim_model.specs.Intervals.{width, tiny_of, push_if, next, pieces, wide_of}
use Rattle.trim_model.specs.Windows.{Window, part}
use Rattle.trim_model.specs.Add.{Walk, run, shared_lo, shared_hi, start, visit, visits}

-- `Event(lowest, id, false)`
abbrev pub window_event : Float → ℕ → Event
window_event key n = record { key = key; item = Item-as-Window (record { 0 = n }) }

abbrev pub win_of : Window → Win
win_of u = record { b0 = u.b0; b1 = u.b1; low = u.low; src = u.src }

-- the Rust's `Win` of a live window of edge e
abbrev pub record_of : ℕ → Window → WindowRecord
record_of e u = record { edge = record { 0 = e }; carried = u.carried; alive = true; link = 0; win = win_of u }

-- a part of u, of edge e, is made as number n, and queued if u is
abbrev pub making : ℕ → Window → ℕ → Interval → List Action
making e u n p =
    make (record_of e (part u p.from p.to n))
    ∷ push_if u.carried.queued (push (window_event (lowest_of u.src p.from p.to) n))

unfoldable pub makings : ℕ → Window → ℕ → List Interval → List Action
makings e u n [] = []
makings e u n (p ∷ ps) = making e u n p ++ makings e u (suc n) ps

-- the pieces of u: it dies where there is none, and else it is trimmed to the first and the others are made
unfoldable pub splitting : ℕ → Window → ℕ → List Interval → List Action
unfolding makings
splitting e u n [] = kill u.num ∷ []
splitting e u n (p ∷ rest) = trim u.num p.from p.to (lowest_of u.src p.from p.to) ∷ makings e u n rest

-- u loses `better`, if there is any
unfoldable pub losing : ℕ → Float → Window → ℕ → List Interval → List Action
unfolding splitting
losing e tiny u n [] = []
losing e tiny u n (g ∷ better) =
    let ps = pieces tiny u.b0 u.b1 (g ∷ better) in
    list (length ps) ∷ splitting e u n ps

-- one turn of the loop over the run: `pts` and `out` of `better`, then `next`, then `pieces`
unfoldable pub visiting : ℕ → Float → Window → Window → Walk → List Action
unfolding losing
visiting e tiny w u s =
    let lo = shared_lo w u in
    let hi = shared_hi w u in
    let better = better_of w.src u.src lo hi in
    if le (width lo hi) tiny then [] else
    (list (length (walk_of w.src u.src (pts_of w.src u.src lo hi)))
    ∷ list (length better)
    ∷ list (length (next lo hi better s.keep))
    ∷ losing e tiny u s.made better)

unfoldable pub visitings : ℕ → Float → Window → List Window → Walk → List Action
unfolding visiting visit
visitings e tiny w [] s = []
visitings e tiny w (u ∷ us) s = visiting e tiny w u s ++ visitings e tiny w us (visit better_of tiny w u s)

-- 1e-9
abbrev pub near : Float
near = of_bits binary64 0x3e11_2e0b_e826_d695

-- the ends of an edge: those that the new window nw reaches are touched
unfoldable pub touching : Edge → Window → List Action
touching e nw =
    push_if (le nw.b0 (near ⊗ e.len)) (touch e.a.0 (eval_of (win_of nw) zero64 zero64))
    ++ push_if (le (e.len ⊖ near ⊗ e.len) nw.b1) (touch e.b.0 (eval_of (win_of nw) e.len zero64))

-- the wide entries of `keep` become windows
unfoldable pub keeping : Edge → Window → ℕ → List Interval → List Action
unfolding touching
keeping e w n [] = []
keeping e w n (k ∷ keep) = making e.id.0 w n k ++ (touching e (part w k.from k.to n) ++ keeping e w (suc n) keep)

-- the whole: `keep` has one entry at first
unfoldable pub adding : Edge → Window → List Window → ℕ → List Action
unfolding visitings keeping visits
adding e w live made =
    let tiny = tiny_of e.len in
    let s = visits better_of tiny w (run tiny w live) (start w made) in
    list 1 ∷ (visitings e.id.0 tiny w (run tiny w live) (start w made) ++ keeping e w s.made (wide_of tiny s.keep))
