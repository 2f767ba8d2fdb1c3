-- Paths of links. A path ends, so no window comes twice on it; a link of a window that is not on it can change freely
-- (`path_set`), and pointing the link after a front at another path exchanges the rest (`splice`).
use Prim.Native.Nat.{ℕ, suc, ◌+◌, ◌*◌, ◌≤◌}
use native.Mathlib.Omega.{arith}
use mathlib.Core.Path.{◌≡◌, refl, sym, ap, subst, ◌∙◌}
use mathlib.Core.List.{List, [], ◌∷◌, ◌++◌}
use mathlib.Core.Logic.{◌≢◌}
use lib.ListN.{length, length-append}
use lib.Seq.{get_or-set_same}
use Rattle.layout.specs.Layout.{words_per_window, window_link}
use Rattle.nat_laws.specs.Lists.{All}
use Rattle.nat_laws.proofs.Lists.{all_map, all_right}
use Rattle.buffers.proofs.Strides.{other_slot}
use Rattle.windows.specs.Windows.{link_with}
use Rattle.chains.specs.Chains.{next_link, Path, Out, first_link}

-- ---- a path
-- from a link there is one path
pub path_unique : (w : List ℕ) (l : ℕ) (is js : List ℕ) → Path w l is → Path w l js → is ≡ js
unfolding Path
path_unique w l [] [] p q = refl
path_unique w l [] (j ∷ js) p q = absurd (omega (arith, p, q.0))
path_unique w l (i ∷ is) [] p q = absurd (omega (arith, p.0, q))
path_unique w l (i ∷ is) (j ∷ js) p q =
    let e : i ≡ j = omega (arith, p.0, q.0) in
    ap (λ k. k ∷ is) e ∙ ap (λ t. j ∷ t) (path_unique w (next_link w j) is js (subst (λ k. Path w (next_link w k) is) e p.1) q.1)

pub path_drop : (w : List ℕ) (l : ℕ) (xs : List ℕ) (i : ℕ) (zs : List ℕ) → Path w l (xs ++ i ∷ zs) → Path w (next_link w i) zs
unfolding Path
path_drop w l [] i zs p = p.1
path_drop w l (x ∷ xs) i zs p = path_drop w (next_link w x) xs i zs p.1

out_of : (i : ℕ) (ys : List ℕ) → ((xs zs : List ℕ) → ys ≡ xs ++ i ∷ zs → ⊥) → Out i ys
out_of i [] f = tt
out_of i (y ∷ ys) f = (λ e. f [] ys (ap (λ k. k ∷ ys) (sym e)), out_of i ys (λ xs zs e. f (y ∷ xs) zs (ap (λ t. y ∷ t) e)))

-- so no window comes twice
pub path_once : (w : List ℕ) (l i : ℕ) (ys : List ℕ) → Path w l (i ∷ ys) → Out i ys
unfolding Path
path_once w l i ys p = out_of i ys go where
  go : (xs zs : List ℕ) → ys ≡ xs ++ i ∷ zs → ⊥
  go xs zs e =
      let q : Path w (next_link w i) zs = path_drop w (next_link w i) xs i zs (subst (Path w (next_link w i)) e p.1) in
      let n : length ys ≡ length zs = ap length (path_unique w (next_link w i) ys zs p.1 q) in
      omega (arith, n, ap length e ∙ length-append xs (i ∷ zs))

-- on a path each window of the front is none of what follows
pub front_out : (w : List ℕ) (l : ℕ) (xs : List ℕ) (k : ℕ) (zs : List ℕ) → Path w l (xs ++ k ∷ zs) → Out k xs × Out k zs
unfolding Path
front_out w l [] k zs p = (tt, path_once w l k zs p)
front_out w l (x ∷ xs) k zs p =
    let o = all_right (λ j. x ≢ j) xs (k ∷ zs) (path_once w l x (xs ++ k ∷ zs) p) in
    let r = front_out w (next_link w x) xs k zs p.1 in
    ((λ e. o.0 (sym e), r.0), r.1)

-- ---- a link changes
-- a path depends on nothing but the links of its windows
pub path_same : (w w' : List ℕ) (l : ℕ) (is : List ℕ) → All (λ i. next_link w' i ≡ next_link w i) is → Path w l is → Path w' l is
unfolding Path
path_same w w' l [] h p = p
path_same w w' l (i ∷ is) h p = (p.0, rw h.0 (path_same w w' (next_link w i) is h.1 p.1))

pub path_set : (w : List ℕ) (l : ℕ) (is : List ℕ) (k v : ℕ) → Out k is → Path w l is → Path (link_with w k v) l is
path_set w l is k v o =
    path_same w (link_with w k v) l is
    (all_map {P = λ i. k ≢ i} {Q = λ i. next_link (link_with w k v) i ≡ next_link w i} (λ i ne. other_slot words_per_window w k i window_link window_link v 0 ne (omega arith) (omega arith)) is o)

-- from link l on the windows xs are passed, and the next is k
unfoldable pub Front : List ℕ → ℕ → List ℕ → ℕ → Type 0
Front w l [] k = l ≡ suc k
Front w l (x ∷ xs) k = (l ≡ suc x) × Front w (next_link w x) xs k

pub front_of : (w : List ℕ) (l : ℕ) (xs : List ℕ) (k : ℕ) (zs : List ℕ) → Path w l (xs ++ k ∷ zs) → Front w l xs k
unfolding Path Front
front_of w l [] k zs p = p.0
front_of w l (x ∷ xs) k zs p = (p.0, front_of w (next_link w x) xs k zs p.1)

-- the link of k points at the path vs
pub splice : (w : List ℕ) (l : ℕ) (xs : List ℕ) (k : ℕ) (vs : List ℕ) (v : ℕ) → words_per_window * k + words_per_window ≤ length w → Out k xs → Out k vs
    → Front w l xs k → Path w v vs → Path (link_with w k v) l (xs ++ k ∷ vs)
unfolding Path Front
splice w l [] k vs v b ox ov p q = (p, rw (get_or-set_same w (words_per_window * k + window_link) v 0 (omega arith)) (path_set w v vs k v ov q))
splice w l (x ∷ xs) k vs v b ox ov p q =
    (p.0, rw (other_slot words_per_window w k x window_link window_link v 0 ox.0 (omega arith) (omega arith)) (splice w (next_link w x) xs k vs v b ox.1 ov p.1 q))

-- ---- the link at which a path starts
pub path_first : (w : List ℕ) (l : ℕ) (zs : List ℕ) → Path w l zs → l ≡ first_link zs
unfolding first_link Path
path_first w l [] p = p
path_first w l (z ∷ zs) p = p.0

pub path_after : (w : List ℕ) (l : ℕ) (ys zs : List ℕ) → Path w l (ys ++ zs) → Path w (first_link zs) zs
unfolding Path
path_after w l [] zs p = subst (λ k. Path w k zs) (path_first w l zs p) p
path_after w l (y ∷ ys) zs p = path_after w (next_link w y) ys zs p.1
