-- The live windows of each edge, as the reference model has them, standing in the window buffer and its chains. Definitions only.
use Rattle.std.specs.Prelude.{ℕ, suc, ◌+◌, ◌*◌, ◌≤◌, ◌<◌, Bool, true, cond, List, [], ◌∷◌, ◌++◌, ◌≢◌, ◌≡◌, eqb, get_or, set, drop, Float, if◌then◌else◌}
use Rattle.layout.specs.Layout.{words_per_edge, edge_head, edge_scratch, words_per_window, reals_per_window}
use Rattle.float64.specs.TotalOrder.{total_less}
use Rattle.nat_laws.specs.Lists.{list_of}
use Rattle.buffers.specs.declared.EdgeId.{EdgeId}
use Rattle.source.specs.declared.Win.{Win}
use Rattle.windows.specs.declared.Carried.{Carried}
use Rattle.windows.specs.declared.WindowRecord.{WindowRecord}
use Rattle.windows.specs.Windows.{flags_at, window_at, trimmed, relinked, dead, adjust}
use Rattle.chains.specs.Chains.{Links, links, link_in, link_at, Out, OnEdge, first_link}
use Rattle.better.specs.Claim.{All}
use Rattle.trim_model.specs.Windows.{Window, unqueued, take_while}
use Rattle.trim_state.specs.State.{put}

-- ---- what stands
-- a stored window as the model has it, as number n
abbrev pub live_of : WindowRecord → ℕ → Window
live_of x n = record { b0 = x.win.b0; b1 = x.win.b1; low = x.win.low; src = x.win.src; carried = x.carried; num = n }

unfoldable pub nums : List Window → List ℕ
nums [] = []
nums (u ∷ us) = u.num ∷ nums us

-- the link of the last of a list of numbers, or k where there is none
unfoldable pub end_link : ℕ → List ℕ → ℕ
end_link k [] = k
end_link k (i ∷ is) = end_link (suc i) is

-- the link after which stands what follows us on their chain: 0 is before the first window
abbrev pub last_link : List Window → ℕ
last_link us = end_link 0 (nums us)

-- window u stands in the slices, alive
pub record Alive (w : List ℕ) (f : List Float) (u : Window) : Type 0 where
  pub alive : (window_at w f u.num).alive ≡ true
  pub same : live_of (window_at w f u.num) u.num ≡ u

-- i is one of the list
abbrev pub Among : ℕ → List ℕ → Type 0
Among i is = Out i is → ⊥

-- of the first n windows, those alive on edge e are all in the list
abbrev pub Complete : ℕ → List ℕ → List Float → ℕ → List ℕ → Type 0
Complete n w f e is = (i : ℕ) → i < n → (window_at w f i).edge.0 ≡ e → (window_at w f i).alive ≡ true → Among i is

-- us are the windows of edge e in order, of the first n, and all of them that are alive
pub record Stands (n : ℕ) (b : Links) (f : List Float) (e : ℕ) (us : List Window) : Type 0 where
  pub chain : OnEdge n b e (nums us)
  pub windows : All (Alive b.words f) us
  pub complete : Complete n b.words f e (nums us)

-- ---- all windows, dead ones too
-- a window without its link where it is alive: there the chain says it
unfoldable pub bare : WindowRecord → WindowRecord
bare x = relinked x (cond x.alive 0 x.link)

-- the Rust's `wins`: the first n windows
unfoldable pub wins_of : ℕ → List ℕ → List Float → List WindowRecord
wins_of n w f = list_of n (λ i. bare (window_at w f i))

-- no flag word has a bit above the three that are read
abbrev pub FewFlags : ℕ → List ℕ → Type 0
FewFlags n w = (i : ℕ) → i < n → flags_at w i < 8

-- ---- the whole: the Rust's `on_edge` of every edge, and its `wins`, of which there are n
pub record HoldsWindows (n : ℕ) (wins : List WindowRecord) (b : Links) (f : List Float) (live : ℕ → List Window) : Type 0 where
  pub on_edge : (e : ℕ) → Stands n b f e (live e)
  pub all : wins_of n b.words f ≡ wins
  pub flags : FewFlags n b.words

-- a window as it is made
abbrev pub window_of : EdgeId → Carried → ℕ → Win → WindowRecord
window_of e carried link win = record { edge = e; carried = carried; alive = true; link = link; win = win }

-- of the model: u with its ends and lowest value changed; the window of number n, if it is there, whose event was popped
abbrev pub ranged : Window → Float → Float → Float → Window
ranged u b0 b1 low = record { b0 = b0; b1 = b1; low = low; src = u.src; carried = u.carried; num = u.num }

unfoldable pub unqueued_in : ℕ → List Window → List Window
unqueued_in n [] = []
unqueued_in n (u ∷ us) = (if eqb u.num n then unqueued u else u) ∷ unqueued_in n us

-- v starts before b0, as windows are sorted
abbrev pub sorts_before : Float → Window → Bool
sorts_before b0 v = total_less v.b0 b0

-- ---- the contracts, b and f at entry, b' and f' at exit; n is the number of windows made
-- nothing changes from window n on, and of the edges nothing but the head of e
pub record Outside (n e : ℕ) (b b' : Links) : Type 0 where
  pub edges : (p : ℕ) → p ≢ words_per_edge * e + edge_head → get_or b'.edges p 0 ≡ get_or b.edges p 0
  pub words : drop (words_per_window * n) b'.words ≡ drop (words_per_window * n) b.words

-- r is the link that follows k on the chain of edge e
pub record LinkFollows (n : ℕ) (b : Links) (e k r : ℕ) : Type 0 where
  pub is : r ≡ link_in n (link_at b e k)
  pub made : r ≤ n
  pub first : (wins : List WindowRecord) (f : List Float) (live : ℕ → List Window) (xs zs : List Window) → HoldsWindows n wins b f live → live e ≡ xs ++ zs → k ≡ last_link xs → r ≡ first_link (nums zs)

-- r is the last link of those behind k whose windows pass p, as many as stand together, or k
pub record Walked (p : Window → Bool) (n : ℕ) (b : Links) (f : List Float) (e k r : ℕ) : Type 0 where
  pub made : r ≤ n
  pub last : (wins : List WindowRecord) (live : ℕ → List Window) (xs zs : List Window) → HoldsWindows n wins b f live → live e ≡ xs ++ zs → k ≡ last_link xs → r ≡ last_link (xs ++ take_while p zs)

-- what stands before a window that passes p passes too
abbrev pub Leads : (Window → Bool) → List Window → Type 0
Leads p us = (xs : List Window) (u : Window) (zs : List Window) → us ≡ xs ++ u ∷ zs → p u ≡ true → All (λ v. p v ≡ true) xs

-- r is the link of the last of some first windows of us, which all pass p, or 0 for none of them
pub record Lead (p : Window → Bool) (us : List Window) (r : ℕ) : Type 0 where
  pub xs : List Window
  pub zs : List Window
  pub is : us ≡ xs ++ zs
  pub link : r ≡ last_link xs
  pub pass : All (λ u. p u ≡ true) xs

-- a walk along those of edge e that pass p may start behind link r
pub record Begins (p : Window → Bool) (n : ℕ) (b : Links) (f : List Float) (e r : ℕ) : Type 0 where
  pub made : r ≤ n
  pub lead : (wins : List WindowRecord) (live : ℕ → List Window) → HoldsWindows n wins b f live → Leads p (live e) → Lead p (live e) r

-- r is the link of the last of those first windows of edge e that pass p, or 0, and the edge remembers it
pub record Fronted (p : Window → Bool) (n : ℕ) (b : Links) (f : List Float) (edges' : List ℕ) (e r : ℕ) : Type 0 where
  pub edges : edges' ≡ set b.edges (words_per_edge * e + edge_scratch) r
  pub made : r ≤ n
  pub holds : (wins : List WindowRecord) (g : List Float) (live : ℕ → List Window) → HoldsWindows n wins b g live → HoldsWindows n wins (links edges' b.words) g live
  pub last : (wins : List WindowRecord) (live : ℕ → List Window) → HoldsWindows n wins b f live → Leads p (live e) → r ≡ last_link (take_while p (live e))

-- x is the window of number i
pub record Loads (w : List ℕ) (f : List Float) (i : ℕ) (x : WindowRecord) : Type 0 where
  pub is : x ≡ window_at w f i
  pub live : (n : ℕ) (wins : List WindowRecord) (edges : List ℕ) (e : ℕ) (live : ℕ → List Window) (xs : List Window) (u : Window) (zs : List Window) → HoldsWindows n wins (links edges w) f live → live e ≡ xs ++ u ∷ zs → i ≡ u.num
      → (live_of x i ≡ u) × ((x.edge.0 ≡ e) × (x.alive ≡ true))

-- x is made as window n, behind link k of edge e
pub record Makes (n : ℕ) (b b' : Links) (f f' : List Float) (e k : ℕ) (x : WindowRecord) : Type 0 where
  pub outside : Outside (suc n) e b b'
  pub reals : drop (reals_per_window * suc n) f' ≡ drop (reals_per_window * suc n) f
  pub holds : (wins : List WindowRecord) (live : ℕ → List Window) (xs zs : List Window) → HoldsWindows n wins b f live → live e ≡ xs ++ zs → k ≡ last_link xs
      → HoldsWindows (suc n) (wins ++ (x ∷ [])) b' f' (put e (xs ++ live_of x n ∷ zs) live)

-- window i has its ends and lowest value changed
pub record Trims (f f' : List Float) (i : ℕ) (b0 b1 low : Float) : Type 0 where
  pub reals : (n : ℕ) → i < n → drop (reals_per_window * n) f' ≡ drop (reals_per_window * n) f
  pub holds : (n : ℕ) (wins : List WindowRecord) (b : Links) (e : ℕ) (live : ℕ → List Window) (xs : List Window) (u : Window) (zs : List Window) → HoldsWindows n wins b f live → live e ≡ xs ++ u ∷ zs → i ≡ u.num
      → HoldsWindows n (adjust i (λ x. trimmed x b0 b1 low) wins) b f' (put e (xs ++ ranged u b0 b1 low ∷ zs) live)

-- window i, behind link k of edge e, is taken out
pub record Kills (n : ℕ) (b b' : Links) (e k i : ℕ) : Type 0 where
  pub outside : Outside n e b b'
  pub holds : (wins : List WindowRecord) (f : List Float) (live : ℕ → List Window) (xs : List Window) (u : Window) (zs : List Window) → HoldsWindows n wins b f live → live e ≡ xs ++ u ∷ zs → k ≡ last_link xs → i ≡ u.num
      → HoldsWindows n (adjust i dead wins) b' f (put e (xs ++ zs) live)
