-- A walk along a chain from link to link, as long as the windows pass a test: as the loops go, and what it leads to. Assumes nothing.
use Prim.Native.Nat.{ℕ, zero, suc, ◌+◌, ◌*◌, ◌-◌, ◌≤◌, ◌<◌}
use native.Mathlib.Omega.{arith}
use mathlib.Core.Bool.{Bool, true, false, not, cond, ◌&&◌}
use mathlib.Core.Path.{◌≡◌, refl, sym, ap, subst, ◌∙◌}
use mathlib.Core.List.{List, [], ◌∷◌, ◌++◌}
use mathlib.Core.Logic.{◌≢◌}
use lib.ListN.{length, get_or}
use lib.Ieee.{Float, nan, lt}
use Rattle.layout.specs.Layout.{reals_per_window, window_b0, window_b1}
use Rattle.float64.specs.TotalOrder.{total_less}
use Rattle.float64.specs.Notation.{◌⊖◌}
use Rattle.windows.proofs.WindowList.{b0_is, b1_is}
use Rattle.chains.proofs.Turns.{link_in_lem, link_le}
use Rattle.nat_laws.proofs.Lists.{all_map, all_right}
use Rattle.chains.specs.Chains.{Links, link_in, link_at, Path, Belongs, AllBelong, OnEdge}
use Rattle.better.specs.Claim.{All}
use Rattle.trim_model.specs.Windows.{Window, take_while}
use Rattle.trim_model.specs.Add.{passes}
use Rattle.live_windows.specs.Live.{nums, end_link, last_link, Alive, Stands, sorts_before, LinkFollows, Walked}
use Rattle.live_windows.proofs.Places.{nums_append, end_append, head_path, path_behind, next_is, short}

-- a link k is followed by l: it is the last where l is none or its window does not pass
unfoldable turn : (ℕ → Bool) → ℕ → ℕ → (ℕ → ℕ) → ℕ
turn p k zero go = k
turn p k (suc i) go = cond (p i) (go (suc i)) k

module _ (p : ℕ → Bool) (n : ℕ) (b : Links) (e : ℕ) where
  unfoldable pub walk_on : ℕ → ℕ → ℕ
  unfolding turn
  walk_on zero k = k
  walk_on (suc left) k = turn p k (link_in n (link_at b e k)) (walk_on left)

  -- the turns of a loop; r is the link that was read
  module _ (left k r : ℕ) (read : r ≡ link_in n (link_at b e k)) where
    pub walk_end : r ≡ 0 → walk_on left k ≡ k
    unfolding walk_on
    walk_end h = go left where
      go : (left : ℕ) → walk_on left k ≡ k
      go zero = refl
      go (suc left) = ap (λ l. turn p k l (walk_on left)) (sym read ∙ h)

    pub walk_stop : r ≢ 0 → p (r - 1) ≡ false → walk_on left k ≡ k
    unfolding walk_on
    walk_stop q h = go left where
      last : (l : ℕ) → l ≢ 0 → p (l - 1) ≡ false → (g : ℕ → ℕ) → turn p k l g ≡ k
      last zero q h g = refl
      last (suc i) q h g = let m : suc i - 1 ≡ i = omega arith in ap (λ c. cond c (g (suc i)) k) (rw m at h)

      go : (left : ℕ) → walk_on left k ≡ k
      go zero = refl
      go (suc left) = ap (λ l. turn p k l (walk_on left)) (sym read) ∙ last r q h (walk_on left)

    pub walk_go : 0 < left → r ≢ 0 → p (r - 1) ≡ true → walk_on left k ≡ walk_on (left - 1) r
    unfolding walk_on
    walk_go m q h = go left m where
      on : (l : ℕ) → l ≢ 0 → p (l - 1) ≡ true → (g : ℕ → ℕ) → turn p k l g ≡ g l
      on zero q h g = absurd (q refl)
      on (suc i) q h g = let m : suc i - 1 ≡ i = omega arith in ap (λ c. cond c (g (suc i)) k) (rw m at h)

      go : (left : ℕ) → 0 < left → walk_on left k ≡ walk_on (left - 1) r
      go zero m = absurd (omega arith)
      go (suc left) m = let d : suc left - 1 ≡ left = omega arith in rw d (ap (λ l. turn p k l (walk_on left)) (sym read) ∙ on r q h (walk_on left))

  pub walk_none : (left k : ℕ) → left ≡ 0 → walk_on left k ≡ k
  unfolding walk_on
  walk_none left k h = rw h refl

  -- ---- on the live windows of an edge
  walk_is : (q : Window → Bool) (zs : List Window) (left k : ℕ) → Path b.words (link_at b e k) (nums zs) → AllBelong n b.words e (nums zs) → All (λ u. p u.num ≡ q u) zs
      → length (nums zs) ≤ left → walk_on left k ≡ end_link k (nums (take_while q zs))
  unfolding nums Path end_link take_while link_at walk_on
  walk_is q [] left k h a t m = walk_end left k 0 (sym (ap (link_in n) h ∙ link_in_lem n 0 (omega arith))) refl
  walk_is q (u ∷ us) zero k h a t m = absurd (omega arith)
  walk_is q (u ∷ us) (suc left) k h a t m =
      ap (λ l. turn p k l (walk_on left)) (ap (link_in n) h.0 ∙ link_in_lem n (suc u.num) (let g = a.0.made in omega arith))
      ∙ ap (λ c. cond c (walk_on left (suc u.num)) k) t.0
      ∙ go (q u) (walk_is q us left (suc u.num) h.1 a.1 t.1 (omega arith)) where
        go : (c : Bool) → walk_on left (suc u.num) ≡ end_link (suc u.num) (nums (take_while q us)) → cond c (walk_on left (suc u.num)) k ≡ end_link k (nums (cond c (u ∷ take_while q us) []))
        go true ih = ih
        go false ih = refl

-- the test reads what the windows of the list have
module _ (p : ℕ → Bool) (q : Window → Bool) (f : List Float) where
  pub walked : (n : ℕ) (b : Links) (e k r : ℕ) → ((u : Window) → Alive b.words f u → p u.num ≡ q u) → r ≤ n → r ≡ walk_on p n b e n k → Walked q n b f e k r
  walked n b e k r t h i = record { made = h; last = λ wins live xs zs H d g. i ∙ go xs zs (subst (Stands n b f e) d (H.on_edge e)) g } where
    go : (xs zs : List Window) → Stands n b f e (xs ++ zs) → k ≡ last_link xs → walk_on p n b e n k ≡ last_link (xs ++ take_while q zs)
    go xs zs s g =
        let o : OnEdge n b e (nums xs ++ nums zs) = subst (OnEdge n b e) (nums_append xs zs) s.chain in
        let path : Path b.words (link_at b e (last_link xs)) (nums zs) = path_behind b e 0 (nums xs) (nums zs) (head_path b e (nums xs ++ nums zs) o.path) in
        let a : AllBelong n b.words e (nums zs) = all_right (Belongs n b.words e) (nums xs) (nums zs) o.belong in
        ap (walk_on p n b e n) g
        ∙ walk_is p n b e q zs n (last_link xs) path a (all_map t zs (all_right (Alive b.words f) xs zs s.windows)) (short n b.words e (link_at b e (last_link xs)) (nums zs) path a)
        ∙ sym (ap (end_link 0) (nums_append xs (take_while q zs)) ∙ end_append 0 (nums xs) (nums (take_while q zs)))

-- ---- the two tests
abbrev pub passes_at : Float → Float → List Float → ℕ → Bool
passes_at b0 lo f i = lt (get_or f (reals_per_window * i + window_b0) nan) b0 && not (lt lo (get_or f (reals_per_window * i + window_b1) nan))

abbrev pub starts_at : Float → List Float → ℕ → Bool
starts_at b0 f i = total_less (get_or f (reals_per_window * i + window_b0) nan) b0

module _ (w : List ℕ) (f : List Float) (u : Window) (a : Alive w f u) where
  start_is : get_or f (reals_per_window * u.num + window_b0) nan ≡ u.b0
  start_is = sym (b0_is w f u.num) ∙ ap (λ v. v.b0) a.same

  end_is : get_or f (reals_per_window * u.num + window_b1) nan ≡ u.b1
  end_is = sym (b1_is w f u.num) ∙ ap (λ v. v.b1) a.same

  pub passes_is : (b0 lo : Float) → passes_at b0 lo f u.num ≡ (lt u.b0 b0 && not (lt lo u.b1))
  passes_is b0 lo = ap (λ x. lt x b0 && not (lt lo (get_or f (reals_per_window * u.num + window_b1) nan))) start_is ∙ ap (λ x. lt u.b0 b0 && not (lt lo x)) end_is

  starts_is : (b0 : Float) → starts_at b0 f u.num ≡ total_less u.b0 b0
  starts_is b0 = ap (λ x. total_less x b0) start_is

-- what the loops come to
pub passed : (tiny b0 : Float) (f : List Float) (n : ℕ) (b : Links) (e k r : ℕ) → r ≤ n → r ≡ walk_on (passes_at b0 (b0 ⊖ tiny) f) n b e n k → Walked (passes tiny b0) n b f e k r
passed tiny b0 f n b e k r h i = walked (passes_at b0 (b0 ⊖ tiny) f) (passes tiny b0) f n b e k r (λ u a. passes_is b.words f u a b0 (b0 ⊖ tiny)) h i

pub seated : (b0 : Float) (f : List Float) (n : ℕ) (b : Links) (e k r : ℕ) → r ≤ n → r ≡ walk_on (starts_at b0 f) n b e n k → Walked (sorts_before b0) n b f e k r
seated b0 f n b e k r h i = walked (starts_at b0 f) (sorts_before b0) f n b e k r (λ u a. starts_is b.words f u a b0) h i

-- a window that passes, or not; x and y are what was read
module _ (b0 lo : Float) (f : List Float) (i : ℕ) (x y : Float) (start : x ≡ get_or f (reals_per_window * i + window_b0) nan) (end : y ≡ get_or f (reals_per_window * i + window_b1) nan) where
  read_both : (lt x b0 && not (lt lo y)) ≡ passes_at b0 lo f i
  read_both = ap (λ z. lt z b0 && not (lt lo y)) start ∙ ap (λ z. lt (get_or f (reals_per_window * i + window_b0) nan) b0 && not (lt lo z)) end

  pub starts_late : lt x b0 ≡ false → false ≡ passes_at b0 lo f i
  starts_late p = sym (ap (λ c. c && not (lt lo y)) p) ∙ read_both

  pub ends_late : lt x b0 ≡ true → lt lo y ≡ true → false ≡ passes_at b0 lo f i
  ends_late p q = sym (ap (λ c. c && not (lt lo y)) p ∙ ap not q) ∙ read_both

  pub passes_both : lt x b0 ≡ true → lt lo y ≡ false → true ≡ passes_at b0 lo f i
  passes_both p q = sym (ap (λ c. c && not (lt lo y)) p ∙ ap not q) ∙ read_both

-- the link that was read
pub follows : (n : ℕ) (b : Links) (e k r : ℕ) → r ≡ link_in n (link_at b e k) → LinkFollows n b e k r
follows n b e k r is =
    record {
      is = is;
      made = link_le n (link_at b e k) r is;
      first = λ wins f live xs zs H d g. is ∙ next_is n b e k (nums xs) (nums zs) g (subst (OnEdge n b e) (nums_append xs zs) (subst (Stands n b f e) d (H.on_edge e)).chain);
    }
