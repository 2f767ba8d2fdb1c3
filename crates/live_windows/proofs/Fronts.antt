-- The walk along the front of an edge's list may start behind any window of it that passes, so also behind the one where the last walk ended. Assumes nothing.
use Prim.Native.Nat.{ℕ, ◌+◌, ◌*◌, ◌-◌, ◌≤◌}
use native.Mathlib.Omega.{arith}
use native.Mathlib.Decide.{ℕ_discrete}
use mathlib.Core.Bool.{Bool, true, cond}
use mathlib.Core.List.{List, [], ◌∷◌, ◌++◌, append_assoc}
use mathlib.Core.Logic.{◌≢◌}
use mathlib.Core.Path.{◌≡◌, refl, sym, ap, subst, ◌∙◌}
use lib.ListN.{get_or, set}
use lib.Ieee.{Float}
use Rattle.layout.specs.Layout.{words_per_edge, edge_head, edge_scratch, words_per_window, window_edge, window_flags, alive_flag}
use Rattle.float64.specs.Notation.{◌⊖◌}
use Rattle.buffers.proofs.Strides.{other_fields}
use Rattle.windows.specs.declared.WindowRecord.{WindowRecord}
use Rattle.windows.specs.Windows.{has_flag, window_at}
use Rattle.chains.specs.Chains.{Links, links, head_of, Path}
use Rattle.better.specs.Claim.{All}
use Rattle.trim_model.specs.Windows.{Window, take_while}
use Rattle.trim_model.specs.Add.{passes}
use Rattle.trim_model.proofs.Lists.{all_append}
use Rattle.live_windows.specs.Live.{nums, end_link, last_link, Among, Stands, HoldsWindows, Walked, Leads, Lead, Begins, Fronted}
use Rattle.live_windows.proofs.Walks.{passes_at, passes_is}
use Rattle.live_windows.proofs.Lists.{last_snoc}
use Rattle.live_windows.proofs.Standing.{at_edge, around}

-- ---- lists
-- a window by its number
pub record Found (us : List Window) (i : ℕ) : Type 0 where
  pub front : List Window
  pub it : Window
  pub rest : List Window
  pub is : us ≡ front ++ it ∷ rest
  pub number : it.num ≡ i

pub find : (us : List Window) (i : ℕ) → Among i (nums us) → Found us i
unfolding nums
find [] i h = absurd (h tt)
find (u ∷ us) i h = go (ℕ_discrete u.num i) (find us i) where
  go : Dec (u.num ≡ i) → (Among i (nums us) → Found us i) → Found (u ∷ us) i
  go (yes d) ih = record { front = []; it = u; rest = us; is = refl; number = d }
  go (no d) ih =
      let f = ih (λ o. h ((λ z. d (sym z)), o)) in
      record { front = u ∷ f.front; it = f.it; rest = f.rest; is = ap (λ l. u ∷ l) f.is; number = f.number }

-- windows that all pass are taken
take_all : (p : Window → Bool) (xs zs : List Window) → All (λ u. p u ≡ true) xs → take_while p (xs ++ zs) ≡ xs ++ take_while p zs
unfolding take_while
take_all p [] zs h = refl
take_all p (x ∷ xs) zs h = ap (λ c. cond c (x ∷ take_while p (xs ++ zs)) []) h.0 ∙ ap (λ l. x ∷ l) (take_all p xs zs h.1)

-- ---- where the walk starts
pub from_head_lem : (p : Window → Bool) (n : ℕ) (b : Links) (f : List Float) (e : ℕ) → Begins p n b f e 0
unfolding nums end_link
from_head_lem p n b f e = record { made = omega arith; lead = λ wins live H g. record { xs = []; zs = live e; is = refl; link = refl; pass = tt } }

-- the window of link r is alive, of edge e, and passes
module _ (tiny b0 : Float) (n : ℕ) (b : Links) (f : List Float) (e r : ℕ) (made : r ≤ n) (some : r ≢ 0) (edge : get_or b.words (words_per_window * (r - 1) + window_edge) 0 ≡ e)
    (alive : has_flag (get_or b.words (words_per_window * (r - 1) + window_flags) 0) alive_flag ≡ true) (pass : passes_at b0 (b0 ⊖ tiny) f (r - 1) ≡ true) where
  edge_at : (window_at b.words f (r - 1)).edge.0 ≡ e
  unfolding window_at
  edge_at = edge

  alive_at : (window_at b.words f (r - 1)).alive ≡ true
  unfolding window_at
  alive_at = alive

  pub from_hint : Begins (passes tiny b0) n b f e r
  from_hint = record { made = made; lead = λ wins live H g. go wins live H g (find (live e) (r - 1) ((H.on_edge e).complete (r - 1) (omega (arith, made, some)) edge_at alive_at)) } where
    go : (wins : List WindowRecord) (live : ℕ → List Window) → HoldsWindows n wins b f live → Leads (passes tiny b0) (live e) → Found (live e) (r - 1) → Lead (passes tiny b0) (live e) r
    go wins live H g d =
        let u = d.it in
        let a = (around n b f e d.front u d.rest (at_edge n wins b f live e (d.front ++ u ∷ d.rest) H d.is)).here in
        let y : passes tiny b0 u ≡ true = sym (passes_is b.words f u a b0 (b0 ⊖ tiny)) ∙ ap (passes_at b0 (b0 ⊖ tiny) f) d.number ∙ pass in
        record {
          xs = d.front ++ (u ∷ []);
          zs = d.rest;
          is = d.is ∙ sym (append_assoc d.front (u ∷ []) d.rest);
          link = (let q = d.number in omega (arith, q, some)) ∙ sym (last_snoc d.front u);
          pass = all_append (λ v. passes tiny b0 v ≡ true) d.front (u ∷ []) (g d.front u d.rest d.is y) (y, tt);
        }

-- ---- what the edge remembers is no part of its chain
hint_stands : (n : ℕ) (b : Links) (e v : ℕ) (f : List Float) (x : ℕ) (us : List Window) → Stands n b f x us → Stands n (links (set b.edges (words_per_edge * e + edge_scratch) v) b.words) f x us
hint_stands n b e v f x us s =
    let head : head_of (set b.edges (words_per_edge * e + edge_scratch) v) x ≡ head_of b.edges x = other_fields words_per_edge b.edges e x edge_scratch edge_head v 0 (λ z. omega (arith, z)) (omega arith) (omega arith) in
    record {
      chain = record { path = subst (λ h. Path b.words h (nums us)) (sym head) s.chain.path; belong = s.chain.belong };
      windows = s.windows;
      complete = s.complete;
    }

pub hint_holds : (n : ℕ) (b : Links) (e v : ℕ) (wins : List WindowRecord) (f : List Float) (live : ℕ → List Window) → HoldsWindows n wins b f live → HoldsWindows n wins (links (set b.edges (words_per_edge * e + edge_scratch) v) b.words) f live
hint_holds n b e v wins f live H = record { on_edge = λ x. hint_stands n b e v f x (live x) (H.on_edge x); all = H.all; flags = H.flags }

-- the walk from link k ended at link r
pub fronted : (p : Window → Bool) (n : ℕ) (b : Links) (f : List Float) (edges' : List ℕ) (e k r : ℕ) → Begins p n b f e k → Walked p n b f e k r → edges' ≡ set b.edges (words_per_edge * e + edge_scratch) r → Fronted p n b f edges' e r
fronted p n b f edges' e k r s w h = record {
  edges = h;
  made = w.made;
  holds = λ wins g live H. subst (λ es. HoldsWindows n wins (links es b.words) g live) (sym h) (hint_holds n b e r wins g live H);
  last = λ wins live H g. last wins live H (s.lead wins live H g);
} where
  last : (wins : List WindowRecord) (live : ℕ → List Window) → HoldsWindows n wins b f live → Lead p (live e) k → r ≡ last_link (take_while p (live e))
  last wins live H d =
      w.last wins live d.xs d.zs H d.is d.link
      ∙ ap last_link (sym (take_all p d.xs d.zs d.pass) ∙ ap (take_while p) (sym d.is))
