-- What stays as it is where windows are made, trimmed and taken out. Assumes nothing.
use Prim.Native.Nat.{ℕ, suc, ◌+◌, ◌*◌, ◌-◌, ◌≤◌, ◌<◌}
use native.Mathlib.Omega.{arith}
use mathlib.Core.List.{List}
use mathlib.Core.Path.{◌≡◌, refl, sym, ap, ◌∙◌}
use lib.ListN.{drop}
use lib.Seq.{drop-drop}
use lib.Ieee.{Float}
use Rattle.layout.specs.Layout.{words_per_window, reals_per_window}
use Rattle.heap.specs.Queue.{Queue}
use Rattle.windows.specs.declared.WindowRecord.{WindowRecord}
use Rattle.chains.specs.Chains.{Links}
use Rattle.live_windows.specs.Live.{Makes, Trims, Kills}
use Rattle.trim_split.specs.Running.{Snapshot, snapshot, Untouched}

-- lists that agree from place a on agree from any later one on
further : {A : Type 0} (a b : ℕ) (l k : List A) → a ≤ b → drop a l ≡ drop a k → drop b l ≡ drop b k
further a b l k h i =
    let e : a + (b - a) ≡ b = omega (arith, h) in
    sym (drop-drop (b - a) a l ∙ ap (λ (n : ℕ). drop n l) e) ∙ ap (drop (b - a)) i ∙ (drop-drop (b - a) a k ∙ ap (λ (n : ℕ). drop n k) e)

-- windows and edges stay
pub untouched_same : (AtWork : ℕ → Type 0) (p : Snapshot) (queued last : ℕ) (q : Queue) (vertex : List Float) → Untouched AtWork p (snapshot p.made queued last p.links p.reals q vertex)
untouched_same AtWork p queued last q vertex = record { more = omega arith; edges = λ i h. refl; words = refl; reals = refl }

pub untouched_then : (AtWork : ℕ → Type 0) (p p1 p2 : Snapshot) → Untouched AtWork p p1 → Untouched AtWork p1 p2 → Untouched AtWork p p2
untouched_then AtWork p p1 p2 a b = record {
  more = omega (arith, a.more, b.more);
  edges = λ i h. b.edges i h ∙ a.edges i h;
  words = b.words ∙ further (words_per_window * p1.made) (words_per_window * p2.made) p1.links.words p.links.words (omega (arith, b.more)) a.words;
  reals = b.reals ∙ further (reals_per_window * p1.made) (reals_per_window * p2.made) p1.reals p.reals (omega (arith, b.more)) a.reals;
}

-- more edges are at work
pub untouched_wider : (A B : ℕ → Type 0) → ((e : ℕ) → A e → B e) → (p p' : Snapshot) → Untouched A p p' → Untouched B p p'
untouched_wider A B f p p' u = record { more = u.more; edges = λ i h. u.edges i (λ e a. h e (f e a)); words = u.words; reals = u.reals }

module _ (e made queued last : ℕ) (b : Links) (f : List Float) (q : Queue) (vertex : List Float) where
  abbrev here : Snapshot
  here = snapshot made queued last b f q vertex

  pub untouched_made : (b' : Links) (f' : List Float) (x : WindowRecord) → Makes made b b' f f' e last x → (n last' : ℕ) (q' : Queue) → Untouched (λ k. k ≡ e) here (snapshot (suc made) n last' b' f' q' vertex)
  untouched_made b' f' x m n last' q' = record { more = omega arith; edges = λ i h. m.outside.edges i (h e refl).0; words = m.outside.words; reals = m.reals }

  pub untouched_killed : (b' : Links) (id : ℕ) → Kills made b b' e last id → Untouched (λ k. k ≡ e) here (snapshot made queued last b' f q vertex)
  untouched_killed b' id k = record { more = omega arith; edges = λ i h. k.outside.edges i (h e refl).0; words = k.outside.words; reals = refl }

  pub untouched_trimmed : (f' : List Float) (id : ℕ) (b0 b1 low : Float) → id < made → Trims f f' id b0 b1 low → (last' : ℕ) → Untouched (λ k. k ≡ e) here (snapshot made queued last' b f' q vertex)
  untouched_trimmed f' id b0 b1 low i t last' = record { more = omega arith; edges = λ j h. refl; words = refl; reals = t.reals made i }
