-- Whole slices as they are lent: their counts, the parts that are used, and zeros. Assumes nothing.
use Prim.Native.Nat.{ℕ, ◌+◌, ◌*◌, ◌-◌, ◌/◌, ◌≤◌, min}
use native.Mathlib.Omega.{arith}
use mathlib.Core.List.{List}
use mathlib.Core.Path.{◌≡◌, refl, sym, ap, subst, ◌∙◌}
use lib.ListN.{length, take, replicate, length-replicate}
use lib.Ieee.{Float}
use Rattle.layout.specs.Layout.{reals_per_vertex, words_per_edge, edge_head, words_per_window, reals_per_window, words_per_ends, reals_per_len}
use Rattle.float64.specs.Scalar.{zero64}
use Rattle.windows.specs.Windows.{capacity_of}
use Rattle.buffers.specs.Slots.{slots_of}
use Rattle.buffers.proofs.Zeroing.{zero_at}
use Rattle.chains.specs.Chains.{head_of}
use Rattle.trim.specs.of_trim_split.Running.{Snapshot}
use Rattle.contents.specs.Contents.{heads_in, words_of, reals_of_all, forgotten}
use Rattle.contents.proofs.Held.{drop_zeros, words_are, reals_are_all}
use Rattle.contents.proofs.Forgotten.{heads_only}
use Rattle.std.specs.Prelude.{Ok, Err}
use Rattle.trim_operations.specs.Represents.{refusal_number}
use Rattle.trim.specs.of_trim_split.declared.Counts.{Counts}
use Rattle.run_operations.specs.declared.Ended.{Ended}
use Rattle.run_operations.specs.Lists.{Ran, mesh_of, Setting, setting_of, ReadyToRun, Finishes, Ends, Runs, snapshot_in, edge_count, operation_count, lent_setting, cleared, ZeroSlices, ZeroCuts, RunWhole}
use Rattle.trim.specs.Buffers.{Slices, slices}
use Rattle.trim.specs.of_cut_lists.Buffers.{Cuts}
use Rattle.cut_slots.specs.Slots.{cut_count, cut_to}
use Rattle.cut_slots.proofs.Parts.{pts_length, parts_sizes}
use Rattle.run_operations.proofs.Loop.{SameLengths, SameCuts}

-- ---- counts
least_last : (a b x : ℕ) → x ≡ min a b → x ≤ b
least_last a b x h = omega (arith, h)

pub edges_same : (ends : List ℕ) (lens : List Float) (edges zeroed : List ℕ) (m : ℕ) → length zeroed ≡ length edges → m ≡ edge_count ends lens edges → m ≡ edge_count ends lens zeroed
edges_same ends lens edges zeroed m h k = rw h k

-- ---- the parts of the cut buffers that are used
module _ (ends : List ℕ) (lens : List Float) (b : Slices) (c : Cuts) (m x : ℕ) (isEdges : m ≡ edge_count ends lens b.edges) (isCuts : x ≡ cut_count c) where
  pub parts_ready : ReadyToRun m 0 b (cut_to x c)
  parts_ready = record {
    fits = omega arith;
    edges = least_last (min (slots_of (length ends) words_per_ends) (slots_of (length lens) reals_per_len)) (slots_of (length b.edges) words_per_edge) m isEdges;
    outs = (parts_sizes c x isCuts).outs;
    keeps = (parts_sizes c x isCuts).keeps;
    nexts = (parts_sizes c x isCuts).nexts;
  }

  module _ (limit : Float) (flags : List ℕ) where
    abbrev setting_at : ℕ → ℕ → Setting
    setting_at k e = record { cuts = k; windows = capacity_of (length b.words) (length b.reals); limit = limit; flags = flags; mesh = mesh_of ends lens; edges = e; vertices = slots_of (length b.vertex) reals_per_vertex }

    same_setting : setting_of (cut_to x c) b limit flags ends lens m ≡ lent_setting c b limit flags ends lens
    same_setting = let p : length (take x c.pts) ≡ cut_count c = pts_length c x isCuts ∙ isCuts in λ t. setting_at (p t) (isEdges t)

    pub parts_run : (ops : List ℕ) (args : List Float) (n : ℕ) → n ≡ operation_count ops args → (p : Snapshot) (r : Ran) (b' : Slices) → Runs (setting_of (cut_to x c) b limit flags ends lens m) ops args n p r b'
        → Runs (lent_setting c b limit flags ends lens) ops args (operation_count ops args) p r b'
    parts_run ops args n isCount p r b' k =
        subst (λ (j : ℕ). Runs (lent_setting c b limit flags ends lens) ops args j p r b') isCount
        (subst (λ (g : Setting). Runs g ops args n p r b') same_setting k)

-- ---- zeros
pub heads_zero : (edges : List ℕ) → edges ≡ replicate (length edges) 0 → (e : ℕ) → head_of edges e ≡ 0
heads_zero edges h e = ap (λ (l : List ℕ). head_of l e) h ∙ zero_at 0 (length edges) (words_per_edge * e + edge_head)

pub zeroed_cuts : (c c₁ c' : Cuts) → SameCuts c₁ c → ZeroCuts c₁ c' → ZeroCuts c c'
zeroed_cuts c c₁ c' s z = record {
  pts = z.pts ∙ ap (λ (n : ℕ). replicate n zero64) s.pts;
  out = z.out ∙ ap (λ (n : ℕ). replicate n zero64) s.out;
  keep = z.keep ∙ ap (λ (n : ℕ). replicate n zero64) s.keep;
  next = z.next ∙ ap (λ (n : ℕ). replicate n zero64) s.next;
}

pub zeroed_slices : (b b₁ b' : Slices) → SameLengths b₁ b → ZeroSlices b₁ b' → ZeroSlices b b'
zeroed_slices b b₁ b' s z = record {
  edges = z.edges ∙ ap (λ (n : ℕ). replicate n 0) s.edges;
  words = z.words ∙ ap (λ (n : ℕ). replicate n 0) s.words;
  reals = z.reals ∙ ap (λ (n : ℕ). replicate n zero64) s.reals;
  keys = z.keys ∙ ap (λ (n : ℕ). replicate n zero64) s.keys;
  events = z.events ∙ ap (λ (n : ℕ). replicate n 0) s.events;
  vertex = z.vertex ∙ ap (λ (n : ℕ). replicate n zero64) s.vertex;
}

pub zeros_stay : (edges zeroed : List ℕ) → zeroed ≡ replicate (length edges) 0 → zeroed ≡ replicate (length zeroed) 0
zeros_stay edges zeroed h = h ∙ ap (λ (n : ℕ). replicate n 0) (sym (ap (λ (l : List ℕ). length l) h ∙ length-replicate (length edges) 0))

-- windows that fit have their slots
counted : (made m n : ℕ) → made ≤ capacity_of m n → (words_per_window * made ≤ m) × (reals_per_window * made ≤ n)
counted made m n h = (omega (arith, h), omega (arith, h))

-- ---- the whole: edges and windows are zeroed, the run leaves b₂ and c₁, and the cut buffers are zeroed to c'
module _ (limit : Float) (flags ends : List ℕ) (lens : List Float) (ops : List ℕ) (args : List Float) (b : Slices) (c : Cuts) where
  abbrev setting_for : ℕ → ℕ → ℕ → Setting
  setting_for edges words reals = record { cuts = cut_count c; windows = capacity_of words reals; limit = limit; flags = flags; mesh = mesh_of ends lens; edges = min (min (slots_of (length ends) words_per_ends) (slots_of (length lens) reals_per_len)) (slots_of edges words_per_edge); vertices = slots_of (length b.vertex) reals_per_vertex }

  same_lent : lent_setting c (cleared b) limit flags ends lens ≡ lent_setting c b limit flags ends lens
  same_lent = λ t. setting_for (length-replicate {A = ℕ} (length b.edges) 0 t) (length-replicate {A = ℕ} (length b.words) 0 t) (length-replicate (length b.reals) zero64 t)

  abbrev WholeRuns : Setting → Slices → Ran → Slices → Type 0
  WholeRuns g b₁ r b₂ = Runs g ops args (operation_count ops args) (snapshot_in 0 0 b₁) r b₂

  abbrev with : List ℕ → List ℕ → List Float → Slices
  with edges words reals = slices edges words reals b.keys b.events b.vertex

  module _ (edges words : List ℕ) (reals : List Float) (isEdges : edges ≡ replicate (length b.edges) 0) (isWords : words ≡ replicate (length b.words) 0) (isReals : reals ≡ replicate (length b.reals) zero64)
      (r : Ran) (b₂ : Slices) (runs : WholeRuns (lent_setting c (with edges words reals) limit flags ends lens) (with edges words reals) r b₂)
      (c₁ c' : Cuts) (same : SameCuts c₁ c) (zeros : ZeroCuts c₁ c') where
    whole_runs : WholeRuns (lent_setting c b limit flags ends lens) (cleared b) r b₂
    whole_runs =
        subst (λ (g : Setting). WholeRuns g (cleared b) r b₂) same_lent
        (subst (λ (z : Slices). WholeRuns (lent_setting c z limit flags ends lens) z r b₂) (λ t. with (isEdges t) (isWords t) (isReals t)) runs)

    -- the slices keep their lengths, and the edges forget their links
    pub whole_done : (counts : Counts) → r ≡ Ok counts → SameLengths b₂ b → (edges' : List ℕ) → edges' ≡ forgotten (length b₂.edges / words_per_edge) b₂.edges
        → RunWhole limit flags ends lens ops args b c (Ok counts) (slices edges' b₂.words b₂.reals b₂.keys b₂.events b₂.vertex) c'
    whole_done counts h s edges' forget =
        let made = counts.made in
        let queued = counts.queued in
        let F : Finishes (lent_setting c b limit flags ends lens) ops args (operation_count ops args) (snapshot_in 0 0 (cleared b)) made queued b₂ = subst (λ (z : Ran). WholeRuns (lent_setting c b limit flags ends lens) (cleared b) z b₂) h whole_runs in
        let m = edge_count ends lens b.edges in
        let H = F.stands.holds in
        let room = counted made (length b₂.words) (length b₂.reals) (rw (s.words, s.reals) F.fits) in
        let wins = F.state.wins in
        let live = F.state.live in
        record {
          whole = record {
            state = F.state;
            is = F.is;
            demand3 = F.demand3;
            edges = forget ∙ heads_only m (length b₂.edges / words_per_edge) made wins b₂.edges b₂.words b₂.reals live H
                (rw s.edges (let h = least_last (min (slots_of (length ends) words_per_ends) (slots_of (length lens) reals_per_len)) (slots_of (length b.edges) words_per_edge) m refl in omega (arith, h)))
                (λ p q. F.untouched.edges p q ∙ zero_at 0 (length b.edges) p)
                ∙ ap (heads_in live) s.edges;
            words = words_are made wins b₂.edges b₂.words b₂.reals live H room.0 room.1
                (F.untouched.words ∙ drop_zeros 0 (words_per_window * made) (length b.words) ∙ ap (λ (n : ℕ). replicate (n - words_per_window * made) 0) (sym s.words))
                ∙ ap (λ (n : ℕ). words_of n wins live) s.words;
            reals = reals_are_all made wins b₂.edges b₂.words b₂.reals live H room.0 room.1
                (F.untouched.reals ∙ drop_zeros zero64 (reals_per_window * made) (length b.reals) ∙ ap (λ (n : ℕ). replicate (n - reals_per_window * made) zero64) (sym s.reals))
                ∙ ap (λ (n : ℕ). reals_of_all n wins) s.reals;
            rest = F.stands.stock;
          };
          cuts = zeroed_cuts c c₁ c' same zeros;
        }

    pub whole_ended : (ended : Ended) → r ≡ Err ended → (b' : Slices) → SameLengths b₂ b → ZeroSlices b₂ b' → RunWhole limit flags ends lens ops args b c (Err ended) b' c'
    whole_ended ended h b' s z =
        let E : Ends (lent_setting c b limit flags ends lens) ops args (operation_count ops args) (snapshot_in 0 0 (cleared b)) ended.at (refusal_number ended.refusal) = subst (λ (y : Ran). WholeRuns (lent_setting c b limit flags ends lens) (cleared b) y b₂) h whole_runs in
        record {
          whole = record { before = record { state = E.state; is = E.is; shorter = E.shorter; demand3 = E.demand3 }; zeros = zeroed_slices b b₂ b' s z };
          cuts = zeroed_cuts c c₁ c' same zeros;
        }
