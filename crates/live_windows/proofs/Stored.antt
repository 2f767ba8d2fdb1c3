-- Windows in the slices: what a change of a link, of a range or of flags leaves of each, and of the list of all. Assumes nothing.
use Prim.Native.Nat.{ℕ, zero, suc, ◌+◌, ◌*◌, ◌≤◌, ◌<◌}
use native.Mathlib.Omega.{arith}
use native.Mathlib.Decide.{ℕ_discrete, dec_le}
use mathlib.Core.Bool.{true, cond}
use mathlib.Core.Path.{◌≡◌, refl, sym, ap, subst, ◌∙◌}
use mathlib.Core.List.{List, [], ◌∷◌, ◌++◌}
use mathlib.Core.Logic.{◌≢◌}
use lib.ListN.{length, get_or, set, length-append}
use lib.Ieee.{Float}
use Rattle.layout.specs.Layout.{words_per_window, window_link}
use Rattle.nat_laws.specs.Lists.{list_of}
use Rattle.nat_laws.proofs.Lists.{length_list_of, get_d_list_of, list_of_same}
use Rattle.windows.specs.declared.WindowRecord.{WindowRecord}
use Rattle.windows.specs.Windows.{window_at, relinked, adjust}
use Rattle.windows.proofs.WindowList.{link_same, link_other}
use Rattle.chains.specs.Chains.{Links, with_link, Out}
use Rattle.better.specs.Claim.{All}
use Rattle.trim_model.specs.Windows.{Window}
use Rattle.live_windows.specs.Live.{live_of, nums, Alive, bare, wins_of}

-- window j is the same, but for a link that its chain says
abbrev pub Same : List ℕ → List Float → List ℕ → List Float → ℕ → Type 0
Same w f w' f' j = bare (window_at w' f' j) ≡ bare (window_at w f j)

pub same_alive : (w : List ℕ) (f : List Float) (w' : List ℕ) (f' : List Float) (u : Window) → Same w f w' f' u.num → Alive w f u → Alive w' f' u
unfolding bare relinked
same_alive w f w' f' u s a = record { alive = ap (λ x. x.alive) s ∙ a.alive; same = ap (λ x. live_of x u.num) s ∙ a.same }

-- where nothing but window k changed, the others stand as they stood
pub others : (w : List ℕ) (f : List Float) (w' : List ℕ) (f' : List Float) (k : ℕ) (us : List Window) → Out k (nums us) → ((j : ℕ) → k ≢ j → Same w f w' f' j) → All (Alive w f) us → All (Alive w' f') us
unfolding nums
others w f w' f' k [] o h a = tt
others w f w' f' k (u ∷ us) o h a = (same_alive w f w' f' u (h u.num o.0) a.0, others w f w' f' k us o.1 h a.1)

-- ---- the link of a live window changes
bare_link : (x : WindowRecord) (v : ℕ) → x.alive ≡ true → bare (relinked x v) ≡ bare x
unfolding bare relinked
bare_link x v h = ap (λ a. relinked x (cond a 0 v)) h ∙ sym (ap (λ a. relinked x (cond a 0 x.link)) h)

pub link_bare : (w : List ℕ) (f : List Float) (k v j : ℕ) → words_per_window * k + words_per_window ≤ length w → (window_at w f k).alive ≡ true → Same w f (set w (words_per_window * k + window_link) v) f j
link_bare w f k v j b h = go (ℕ_discrete k j) where
  go : Dec (k ≡ j) → Same w f (set w (words_per_window * k + window_link) v) f j
  go (yes e) = subst (λ i. Same w f (set w (words_per_window * k + window_link) v) f i) e (ap bare (link_same w f k v b) ∙ bare_link (window_at w f k) v h)
  go (no e) = ap bare (link_other w f k v j e)

-- before the first window, or behind a live one
unfoldable pub Behind : List ℕ → List Float → ℕ → Type 0
Behind w f zero = Unit {0}
Behind w f (suc k) = (words_per_window * k + words_per_window ≤ length w) × ((window_at w f k).alive ≡ true)

pub with_bare : (b : Links) (f : List Float) (e k v j : ℕ) → Behind b.words f k → Same b.words f (with_link b e k v).words f j
unfolding with_link Behind
with_bare b f e zero v j h = refl
with_bare b f e (suc k) v j h = link_bare b.words f k v j h.0 h.1

-- ---- an element of a list changes
module _ {A : Type 0} (g : A → A) where
  adjust_left : (k : ℕ) (l m : List A) → k < length l → adjust k g (l ++ m) ≡ adjust k g l ++ m
  unfolding adjust
  adjust_left k [] m h = absurd (omega arith)
  adjust_left zero (x ∷ l) m h = refl
  adjust_left (suc k) (x ∷ l) m h = ap (λ t. x ∷ t) (adjust_left k l m (omega arith))

  adjust_end : (k : ℕ) (l : List A) (x : A) → k ≡ length l → adjust k g (l ++ (x ∷ [])) ≡ l ++ (g x ∷ [])
  unfolding adjust
  adjust_end zero [] x h = refl
  adjust_end zero (y ∷ l) x h = absurd (omega arith)
  adjust_end (suc k) [] x h = absurd (omega arith)
  adjust_end (suc k) (y ∷ l) x h = ap (λ t. y ∷ t) (adjust_end k l x (omega arith))

  pub adjust_out : (k : ℕ) (l : List A) → length l ≤ k → adjust k g l ≡ l
  unfolding adjust
  adjust_out k [] h = refl
  adjust_out zero (x ∷ l) h = absurd (omega arith)
  adjust_out (suc k) (x ∷ l) h = ap (λ t. x ∷ t) (adjust_out k l (omega arith))

  -- an element that is not changed
  pub adjust_same : (k : ℕ) (l : List A) (d : A) → get_or l k d ≡ d → g d ≡ d → adjust k g l ≡ l
  unfolding adjust
  adjust_same k [] d h c = refl
  adjust_same zero (x ∷ l) d h c = ap (λ t. t ∷ l) (ap g h ∙ c ∙ sym h)
  adjust_same (suc k) (x ∷ l) d h c = ap (λ t. x ∷ t) (adjust_same k l d h c)

-- two changes of an element that come to the same
pub adjust_as : {A : Type 0} (g h : A → A) (k : ℕ) (l : List A) (d : A) → get_or l k d ≡ d → g d ≡ h d → adjust k g l ≡ adjust k h l
unfolding adjust
adjust_as g h k [] d e c = refl
adjust_as g h zero (x ∷ l) d e c = ap (λ t. t ∷ l) (ap g e ∙ c ∙ ap h (sym e))
adjust_as g h (suc k) (x ∷ l) d e c = ap (λ t. x ∷ t) (adjust_as g h k l d e c)

-- ---- the list of all windows
pub length_wins : (n : ℕ) (w : List ℕ) (f : List Float) → length (wins_of n w f) ≡ n
unfolding wins_of
length_wins n w f = length_list_of n (λ i. bare (window_at w f i))

pub wins_same : (n : ℕ) (w : List ℕ) (f : List Float) (w' : List ℕ) (f' : List Float) → ((j : ℕ) → j < n → Same w f w' f' j) → wins_of n w' f' ≡ wins_of n w f
unfolding wins_of
wins_same n w f w' f' = list_of_same n (λ i. bare (window_at w f i)) (λ i. bare (window_at w' f' i))

-- where one window changed, element k alone changed
pub wins_adjust : (n : ℕ) (w : List ℕ) (f : List Float) (w' : List ℕ) (f' : List Float) (k : ℕ) (g : WindowRecord → WindowRecord) → ((j : ℕ) → k ≢ j → Same w f w' f' j)
    → bare (window_at w' f' k) ≡ g (bare (window_at w f k)) → wins_of n w' f' ≡ adjust k g (wins_of n w f)
unfolding wins_of list_of
wins_adjust zero w f w' f' k g h c = sym (adjust_out g k [] (omega arith))
wins_adjust (suc n) w f w' f' k g h c = go (ℕ_discrete k n) (dec_le n k) (wins_adjust n w f w' f' k g h c) where
  l : List WindowRecord
  l = wins_of n w f

  x : WindowRecord
  x = bare (window_at w f n)

  go : Dec (k ≡ n) → Dec (n ≤ k) → wins_of n w' f' ≡ adjust k g l → wins_of n w' f' ++ (bare (window_at w' f' n) ∷ []) ≡ adjust k g (l ++ (x ∷ []))
  go (yes e) s ih =
      ap (λ t. t ++ (bare (window_at w' f' n) ∷ [])) (ih ∙ adjust_out g k l (rw (length_list_of n (λ i. bare (window_at w f i))) (omega arith)))
      ∙ ap (λ t. l ++ (t ∷ [])) (subst (λ i. bare (window_at w' f' i) ≡ g (bare (window_at w f i))) e c)
      ∙ sym (adjust_end g k l x (e ∙ sym (length_list_of n (λ i. bare (window_at w f i)))))
  go (no e) (yes s) ih =
      ap (λ t. t ++ (bare (window_at w' f' n) ∷ [])) (ih ∙ adjust_out g k l (rw (length_list_of n (λ i. bare (window_at w f i))) s))
      ∙ ap (λ t. l ++ (t ∷ [])) (h n e)
      ∙ sym (adjust_out g k (l ++ (x ∷ [])) (rw (length-append l (x ∷ []), length_list_of n (λ i. bare (window_at w f i))) (omega (arith, e))))
  go (no e) (no s) ih =
      ap (λ t. t ++ (bare (window_at w' f' n) ∷ [])) ih
      ∙ ap (λ t. adjust k g l ++ (t ∷ [])) (h n e)
      ∙ sym (adjust_left g k l (x ∷ []) (rw (length_list_of n (λ i. bare (window_at w f i))) (omega arith)))

pub wins_at : (n : ℕ) (w : List ℕ) (f : List Float) (i : ℕ) (d : WindowRecord) → i < n → get_or (wins_of n w f) i d ≡ bare (window_at w f i)
unfolding wins_of
wins_at n w f i d = get_d_list_of n (λ j. bare (window_at w f j)) i d
