-- Where windows stand in the buffers, with zeros behind, the buffers' words and reals are those of the windows. Assumes nothing.
use Prim.Native.Nat.{ℕ, zero, suc, ◌+◌, ◌*◌, ◌-◌, ◌≤◌, ◌<◌}
use native.Mathlib.Omega.{arith}
use native.Mathlib.Decide.{ℕ_discrete}
use mathlib.Core.Bool.{Bool, true, false, cond}
use mathlib.Core.List.{List, [], ◌∷◌, ◌++◌, append_assoc, append-nil}
use mathlib.Core.Path.{◌≡◌, refl, sym, ap, ◌∙◌}
use borrow.Author.Tests.{eq-eqb, ne_eqb}
use lib.Dec.{eqb}
use lib.ListN.{length, get_or, take, drop, replicate, take-append-drop}
use lib.Seq.{take-add, length-take-le}
use lib.Ieee.{Float, nan}
use Rattle.layout.specs.Layout.{words_per_window, window_edge, window_into, window_flags, window_link, line_flag, alive_flag, queued_flag, reals_per_window, window_b0, window_b1, window_low, window_s0, window_s1, window_s2}
use Rattle.nat_laws.specs.Lists.{list_of}
use Rattle.buffers.specs.Slots.{slot}
use Rattle.buffers.proofs.Strides.{slot_at, length_slot}
use Rattle.float64.specs.Scalar.{zero64}
use Rattle.windows.specs.declared.WindowRecord.{WindowRecord}
use Rattle.windows.specs.Windows.{is_line, reals_of, src_of, flags_of, has_flag, edge_stored, into_of, flags_at, link_of, win_at, window_at, relinked}
use Rattle.chains.specs.Chains.{links, head_of, next_link, Path, first_link}
use Rattle.chains.proofs.Paths.{path_first}
use Rattle.trim_model.specs.Windows.{Window}
use Rattle.live_windows.specs.Live.{nums, Among, HoldsWindows, bare, wins_of}
use Rattle.live_windows.proofs.Stored.{length_wins}
use Rattle.contents.specs.Contents.{link_after, four_words, words_from, six_reals, reals_from, padded, words_of, reals_of_all}

-- ---- slots as lists
four : (l : List ℕ) → length l ≡ 4 → l ≡ get_or l 0 0 ∷ get_or l 1 0 ∷ get_or l 2 0 ∷ get_or l 3 0 ∷ []
four [] h = absurd (omega arith)
four (a ∷ []) h = absurd (omega arith)
four (a ∷ b ∷ []) h = absurd (omega arith)
four (a ∷ b ∷ c ∷ []) h = absurd (omega arith)
four (a ∷ b ∷ c ∷ d ∷ []) h = refl
four (a ∷ b ∷ c ∷ d ∷ e ∷ l) h = absurd (omega arith)

six : (l : List Float) → length l ≡ 6 → l ≡ get_or l 0 nan ∷ get_or l 1 nan ∷ get_or l 2 nan ∷ get_or l 3 nan ∷ get_or l 4 nan ∷ get_or l 5 nan ∷ []
six [] h = absurd (omega arith)
six (a ∷ []) h = absurd (omega arith)
six (a ∷ b ∷ []) h = absurd (omega arith)
six (a ∷ b ∷ c ∷ []) h = absurd (omega arith)
six (a ∷ b ∷ c ∷ d ∷ []) h = absurd (omega arith)
six (a ∷ b ∷ c ∷ d ∷ e ∷ []) h = absurd (omega arith)
six (a ∷ b ∷ c ∷ d ∷ e ∷ f ∷ []) h = refl
six (a ∷ b ∷ c ∷ d ∷ e ∷ f ∷ g ∷ l) h = absurd (omega arith)

-- ---- flags
-- a number below 8 is what its flags make
below_eight : (n : ℕ) → n < 8 → n ≡ flags_of (has_flag n line_flag) (has_flag n alive_flag) (has_flag n queued_flag)
below_eight zero h = refl
below_eight (suc zero) h = refl
below_eight (suc (suc zero)) h = refl
below_eight (suc (suc (suc zero))) h = refl
below_eight (suc (suc (suc (suc zero)))) h = refl
below_eight (suc (suc (suc (suc (suc zero))))) h = refl
below_eight (suc (suc (suc (suc (suc (suc zero)))))) h = refl
below_eight (suc (suc (suc (suc (suc (suc (suc zero))))))) h = refl
below_eight (suc (suc (suc (suc (suc (suc (suc (suc n)))))))) h = absurd (omega arith)

line_is : (line : Bool) (a b c : Float) → is_line (src_of line a b c) ≡ line
unfolding is_line
line_is true a b c = refl
line_is false a b c = refl

reals_are : (line : Bool) (a b c : Float) → reals_of (src_of line a b c) ≡ a ∷ b ∷ c ∷ []
unfolding reals_of
reals_are true a b c = refl
reals_are false a b c = refl

-- ---- links along a path
after_head : (w : List ℕ) (l i : ℕ) (is : List ℕ) → Path w l is → Among i is → next_link w i ≡ link_after i is
unfolding Path link_after
after_head w l i [] p m = absurd (m tt)
after_head w l i (j ∷ js) p m = go (ℕ_discrete i j) (after_head w (next_link w j) i js p.1) where
  go : Dec (i ≡ j) → (Among i js → next_link w i ≡ link_after i js) → next_link w i ≡ cond (eqb i j) (first_link js) (link_after i js)
  go (yes d) ih = rw (eq-eqb i j d) (ap (next_link w) d ∙ path_first w (next_link w j) js p.1)
  go (no d) ih = rw (ne_eqb i j d) (ih (λ o. m (d, o)))

slot_is : {A : Type 0} (s : ℕ) (l : List A) (k : ℕ) → take s (drop (s * k) l) ≡ slot s l k
unfolding slot
slot_is s l k = refl

-- ---- one window more
words_snoc : (live : ℕ → List Window) (i : ℕ) (l : List WindowRecord) (y : WindowRecord) → words_from live i (l ++ (y ∷ [])) ≡ words_from live i l ++ four_words live (i + length l) y
unfolding words_from
words_snoc live i [] y = let e : i ≡ i + 0 = omega arith in append-nil (four_words live i y) ∙ ap (λ (j : ℕ). four_words live j y) e
words_snoc live i (z ∷ l) y =
    let e : suc i + length l ≡ i + suc (length l) = omega arith in
    ap (λ (r : List ℕ). four_words live i z ++ r) (words_snoc live (suc i) l y ∙ ap (λ (j : ℕ). words_from live (suc i) l ++ four_words live j y) e)
    ∙ sym (append_assoc (four_words live i z) (words_from live (suc i) l) (four_words live (i + suc (length l)) y))

reals_snoc : (l : List WindowRecord) (y : WindowRecord) → reals_from (l ++ (y ∷ [])) ≡ reals_from l ++ six_reals y
unfolding reals_from
reals_snoc [] y = append-nil (six_reals y)
reals_snoc (z ∷ l) y = ap (λ (r : List Float). six_reals z ++ r) (reals_snoc l y) ∙ sym (append_assoc (six_reals z) (reals_from l) (six_reals y))

-- zeros from an element on
pub drop_zeros : {A : Type 0} (z : A) (n m : ℕ) → drop n (replicate m z) ≡ replicate (m - n) z
drop_zeros z zero m = let e : m ≡ m - zero = omega arith in ap (λ (k : ℕ). replicate k z) e
drop_zeros z (suc n) zero = let e : zero ≡ zero - suc n = omega arith in ap (λ (k : ℕ). replicate k z) e
drop_zeros z (suc n) (suc m) = let e : m - n ≡ suc m - suc n = omega arith in drop_zeros z n m ∙ ap (λ (k : ℕ). replicate k z) e

-- a list of which the first n elements are known, and zeros behind
filled : {A : Type 0} (z : A) (l k : List A) (n : ℕ) → n ≤ length l → take n l ≡ k → drop n l ≡ replicate (length l - n) z → l ≡ padded z (length l) k
filled z l k n h d g =
    let e : length k ≡ n = ap length (sym d) ∙ length-take-le n l h in
    sym (take-append-drop n l)
    ∙ (λ t. d t ++ g t)
    ∙ ap (λ (j : ℕ). k ++ replicate (length l - j) z) (sym e)

module _ (n : ℕ) (wins : List WindowRecord) (edges w : List ℕ) (f : List Float) (live : ℕ → List Window) (H : HoldsWindows n wins (links edges w) f live) (fitsWords : words_per_window * n ≤ length w) (fitsReals : reals_per_window * n ≤ length f) where
  abbrev x : ℕ → WindowRecord
  x i = bare (window_at w f i)

  link_of_lem : (i : ℕ) → i < n → link_of w i ≡ cond (x i).alive (link_after i (nums (live (x i).edge.0))) (x i).link
  unfolding bare relinked window_at
  link_of_lem i l = go (has_flag (flags_at w i) alive_flag) refl where
    go : (b : Bool) → has_flag (flags_at w i) alive_flag ≡ b → link_of w i ≡ cond b (link_after i (nums (live (edge_stored w i)))) (cond b 0 (link_of w i))
    go true h =
        let s = H.on_edge (edge_stored w i) in
        after_head w (head_of edges (edge_stored w i)) i (nums (live (edge_stored w i))) s.chain.path (s.complete i l refl h)
    go false h = refl

  flags_of_lem : (i : ℕ) → i < n → flags_at w i ≡ flags_of (is_line (x i).win.src) (x i).alive (x i).carried.queued
  unfolding bare relinked window_at win_at
  flags_of_lem i l =
      below_eight (flags_at w i) (H.flags i l)
      ∙ ap (λ b. flags_of b (has_flag (flags_at w i) alive_flag) (has_flag (flags_at w i) queued_flag)) (sym (line_is (has_flag (flags_at w i) line_flag) (get_or f (reals_per_window * i + window_s0) nan) (get_or f (reals_per_window * i + window_s1) nan) (get_or f (reals_per_window * i + window_s2) nan)))

  edge_of : (i : ℕ) → edge_stored w i ≡ (x i).edge.0
  unfolding bare relinked window_at
  edge_of i = refl

  into_of_lem : (i : ℕ) → into_of w i ≡ (x i).carried.into.0
  unfolding bare relinked window_at
  into_of_lem i = refl

  words_at : (i : ℕ) → i < n → slot words_per_window w i ≡ four_words live i (x i)
  words_at i l =
      let h : words_per_window * i + words_per_window ≤ length w = omega (arith, l, fitsWords) in
      four (slot words_per_window w i) (length_slot words_per_window w i h)
      ∙ (λ t. slot_at words_per_window w i window_edge 0 (omega arith) t ∷ slot_at words_per_window w i window_into 0 (omega arith) t ∷ slot_at words_per_window w i window_flags 0 (omega arith) t ∷ slot_at words_per_window w i window_link 0 (omega arith) t ∷ [])
      ∙ (λ t. edge_of i t ∷ into_of_lem i t ∷ flags_of_lem i l t ∷ link_of_lem i l t ∷ [])

  reals_at : (i : ℕ) → i < n → slot reals_per_window f i ≡ six_reals (x i)
  unfolding bare relinked window_at win_at
  reals_at i l =
      let h : reals_per_window * i + reals_per_window ≤ length f = omega (arith, l, fitsReals) in
      let at : (a : ℕ) → a < reals_per_window → get_or (slot reals_per_window f i) a nan ≡ get_or f (reals_per_window * i + a) nan = λ a k. slot_at reals_per_window f i a nan k in
      six (slot reals_per_window f i) (length_slot reals_per_window f i h)
      ∙ (λ t. at window_b0 (omega arith) t ∷ at window_b1 (omega arith) t ∷ at window_low (omega arith) t ∷ at window_s0 (omega arith) t ∷ at window_s1 (omega arith) t ∷ at window_s2 (omega arith) t ∷ [])
      ∙ ap (λ r. get_or f (reals_per_window * i + window_b0) nan ∷ get_or f (reals_per_window * i + window_b1) nan ∷ get_or f (reals_per_window * i + window_low) nan ∷ r)
      (sym (reals_are (has_flag (flags_at w i) line_flag) (get_or f (reals_per_window * i + window_s0) nan) (get_or f (reals_per_window * i + window_s1) nan) (get_or f (reals_per_window * i + window_s2) nan)))

  -- ---- all of them
  words_upto : (k : ℕ) → k ≤ n → take (words_per_window * k) w ≡ words_from live 0 (wins_of k w f)
  unfolding wins_of list_of words_from
  words_upto zero h = refl
  words_upto (suc k) h =
      let e : words_per_window * suc k ≡ words_per_window * k + words_per_window = omega arith in
      let last : 0 + length (wins_of k w f) ≡ k = omega (arith, length_wins k w f) in
      ap (λ (j : ℕ). take j w) e
      ∙ take-add (words_per_window * k) words_per_window w
      ∙ (λ t. words_upto k (omega (arith, h)) t ++ (slot_is 4 w k ∙ words_at k (omega (arith, h))) t)
      ∙ sym (words_snoc live 0 (wins_of k w f) (x k) ∙ ap (λ (j : ℕ). words_from live 0 (wins_of k w f) ++ four_words live j (x k)) last)

  reals_upto : (k : ℕ) → k ≤ n → take (reals_per_window * k) f ≡ reals_from (wins_of k w f)
  unfolding wins_of list_of reals_from
  reals_upto zero h = refl
  reals_upto (suc k) h =
      let e : reals_per_window * suc k ≡ reals_per_window * k + reals_per_window = omega arith in
      ap (λ (j : ℕ). take j f) e
      ∙ take-add (reals_per_window * k) reals_per_window f
      ∙ (λ t. reals_upto k (omega (arith, h)) t ++ (slot_is 6 f k ∙ reals_at k (omega (arith, h))) t)
      ∙ sym (reals_snoc (wins_of k w f) (x k))

  words_whole : take (words_per_window * n) w ≡ words_from live 0 wins
  words_whole = words_upto n (omega arith) ∙ ap (words_from live 0) H.all

  reals_whole : take (reals_per_window * n) f ≡ reals_from wins
  reals_whole = reals_upto n (omega arith) ∙ ap reals_from H.all

  pub words_are : drop (words_per_window * n) w ≡ replicate (length w - words_per_window * n) 0 → w ≡ words_of (length w) wins live
  words_are z = filled 0 w (words_from live 0 wins) (words_per_window * n) fitsWords words_whole z

  pub reals_are_all : drop (reals_per_window * n) f ≡ replicate (length f - reals_per_window * n) zero64 → f ≡ reals_of_all (length f) wins
  reals_are_all z = filled zero64 f (reals_from wins) (reals_per_window * n) fitsReals reals_whole z
