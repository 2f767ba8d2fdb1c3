-- Buffers with the contents of a field hold its windows: contents_hold. Assumes nothing.
use Prim.Native.Nat.{ℕ, zero, suc, ◌+◌, ◌*◌, ◌-◌, ◌/◌, ◌%◌, ◌≤◌, ◌<◌}
use native.Mathlib.Omega.{arith}
use native.Mathlib.Decide.{dec_le}
use mathlib.Core.Bool.{Bool, true, false, cond}
use mathlib.Core.List.{List, [], ◌∷◌, ◌++◌}
use mathlib.Core.Path.{◌≡◌, refl, sym, ap, subst, ◌∙◌}
use borrow.Author.Tests.{eq-eqb, ne_eqb}
use lib.Dec.{eqb}
use lib.ListN.{length, length-append, get_or, replicate, length-replicate, get_or-append, get_or-eq_default}
use lib.Seq.{ext_get_or}
use lib.Ieee.{Float, nan}
use Rattle.layout.specs.Layout.{words_per_edge, edge_head, words_per_window, reals_per_window, line_flag, alive_flag, queued_flag}
use Rattle.float64.specs.Scalar.{zero64}
use Rattle.nat_laws.specs.Lists.{list_of}
use Rattle.nat_laws.proofs.Lists.{length_list_of, get_d_list_of}
use Rattle.source.specs.declared.Src.{Src}
use Rattle.source.specs.declared.Src.TheVariants.{Point, Line}
use Rattle.source.specs.declared.Win.{Win}
use Rattle.work_laws.specs.of_better.Claim.{All, Pairs}
use Rattle.windows.specs.declared.WindowRecord.{WindowRecord}
use Rattle.windows.specs.Windows.{is_line, reals_of, src_of, flags_of, has_flag, flags_at, win_at, window_at, relinked}
use Rattle.chains.specs.Chains.{Links, links, head_of, next_link, Path, Belongs, first_link}
use Rattle.work_laws.specs.of_trim_model.Windows.{Window}
use Rattle.work_laws.proofs.laws_of_trim_model.Lists.{all_map, all_map2}
use Rattle.work_laws.specs.of_trim_state.Trace.{record_of}
use Rattle.work_laws.specs.of_live_windows.Live.{live_of, nums, Alive, Among, Stands, bare, wins_of, HoldsWindows}
use Rattle.field_model.specs.of_contents.Contents.{link_after, four_words, words_from, six_reals, reals_from, words_of, reals_of_all}
use Rattle.field_model.specs.of_finish.Contents.{edge_word_with, edges_with}
use Rattle.work_laws.specs.Account.{OnRecord}

-- ---- the slots of a window
-- a window with the link that the buffers have
abbrev stored : (ℕ → List Window) → ℕ → WindowRecord → WindowRecord
stored live i x = relinked x (cond x.alive (link_after i (nums (live x.edge.0))) x.link)

pub length_words : (live : ℕ → List Window) (k : ℕ) (wins : List WindowRecord) → length (words_from live k wins) ≡ words_per_window * length wins
unfolding words_from
length_words live k [] = refl
length_words live k (x ∷ wins) = omega (arith, length_words live (suc k) wins)

length_three : (s : Src) → length (reals_of s) ≡ 3
unfolding reals_of
length_three (Point x y s) = refl
length_three (Line ux uy c) = refl

pub length_reals : (wins : List WindowRecord) → length (reals_from wins) ≡ reals_per_window * length wins
unfolding reals_from
length_reals [] = refl
length_reals (x ∷ wins) = omega (arith, length_reals wins, length-append (reals_of x.win.src) (reals_from wins), length_three x.win.src)

module _ {A : Type 0} where
  -- past four elements, and past six
  past_four : (l : List A) (d : A) (a b c e : A) (i k : ℕ) → get_or (a ∷ b ∷ c ∷ e ∷ l) (4 * suc i + k) d ≡ get_or l (4 * i + k) d
  past_four l d a b c e i k = let h : 4 * suc i + k ≡ suc (suc (suc (suc (4 * i + k)))) = omega arith in ap (λ (j : ℕ). get_or (a ∷ b ∷ c ∷ e ∷ l) j d) h

  past_six : (l m : List A) (d : A) (a b c : A) → length l ≡ 3 → (i k : ℕ) → get_or (a ∷ b ∷ c ∷ (l ++ m)) (6 * suc i + k) d ≡ get_or m (6 * i + k) d
  past_six [] m d a b c h i k = absurd (omega arith)
  past_six (x ∷ []) m d a b c h i k = absurd (omega arith)
  past_six (x ∷ y ∷ []) m d a b c h i k = absurd (omega arith)
  past_six (x ∷ y ∷ z ∷ []) m d a b c h i k = let g : 6 * suc i + k ≡ suc (suc (suc (suc (suc (suc (6 * i + k)))))) = omega arith in ap (λ (j : ℕ). get_or (a ∷ b ∷ c ∷ x ∷ y ∷ z ∷ m) j d) g
  past_six (x ∷ y ∷ z ∷ u ∷ l) m d a b c h i k = absurd (omega arith)

words_slot : (live : ℕ → List Window) (k : ℕ) (wins : List WindowRecord) (i : ℕ) (d : WindowRecord) (a : ℕ) → i < length wins → a < 4 → get_or (words_from live k wins) (4 * i + a) 0 ≡ get_or (four_words live (k + i) (get_or wins i d)) a 0
unfolding words_from
words_slot live k [] i d a l h = absurd (omega (arith, l))
words_slot live k (x ∷ wins) zero d a l h =
    let e : k + 0 ≡ k = omega arith in
    let first : 4 * 0 + a ≡ a = omega arith in
    ap (λ (j : ℕ). get_or (four_words live k x ++ words_from live (suc k) wins) j 0) first ∙ get_or-append (four_words live k x) (words_from live (suc k) wins) 0 a h ∙ ap (λ (j : ℕ). get_or (four_words live j x) a 0) (sym e)
words_slot live k (x ∷ wins) (suc i) d a l h =
    let e : suc k + i ≡ k + suc i = omega arith in
    past_four (words_from live (suc k) wins) 0 _ _ _ _ i a ∙ words_slot live (suc k) wins i d a (omega (arith, l)) h ∙ ap (λ (j : ℕ). get_or (four_words live j (get_or wins i d)) a 0) e

reals_slot : (wins : List WindowRecord) (i : ℕ) (d : WindowRecord) (a : ℕ) → i < length wins → a < 6 → get_or (reals_from wins) (6 * i + a) nan ≡ get_or (six_reals (get_or wins i d)) a nan
unfolding reals_from
reals_slot [] i d a l h = absurd (omega (arith, l))
reals_slot (x ∷ wins) zero d a l h =
    let first : 6 * 0 + a ≡ a = omega arith in
    ap (λ (j : ℕ). get_or (six_reals x ++ reals_from wins) j nan) first ∙ get_or-append (six_reals x) (reals_from wins) nan a (omega (arith, h, length_three x.win.src))
reals_slot (x ∷ wins) (suc i) d a l h = past_six (reals_of x.win.src) (reals_from wins) nan _ _ _ (length_three x.win.src) i a ∙ reals_slot wins i d a (omega (arith, l)) h

-- ---- flags
decoded : (l a q : Bool) → (has_flag (flags_of l a q) line_flag ≡ l) × ((has_flag (flags_of l a q) alive_flag ≡ a) × (has_flag (flags_of l a q) queued_flag ≡ q))
decoded true true true = (refl, (refl, refl))
decoded true true false = (refl, (refl, refl))
decoded true false true = (refl, (refl, refl))
decoded true false false = (refl, (refl, refl))
decoded false true true = (refl, (refl, refl))
decoded false true false = (refl, (refl, refl))
decoded false false true = (refl, (refl, refl))
decoded false false false = (refl, (refl, refl))

few_flags : (l a q : Bool) → flags_of l a q < 8
few_flags true true true = omega arith
few_flags true true false = omega arith
few_flags true false true = omega arith
few_flags true false false = omega arith
few_flags false true true = omega arith
few_flags false true false = omega arith
few_flags false false true = omega arith
few_flags false false false = omega arith

win_read : (x : Win) → x ≡ record { b0 = x.b0; b1 = x.b1; low = x.low; src = src_of (is_line x.src) (get_or (reals_of x.src) 0 nan) (get_or (reals_of x.src) 1 nan) (get_or (reals_of x.src) 2 nan) }
win_read x = ap (λ (s : Src). record { b0 = x.b0; b1 = x.b1; low = x.low; src = s }) (go x.src) where
  go : (s : Src) → s ≡ src_of (is_line s) (get_or (reals_of s) 0 nan) (get_or (reals_of s) 1 nan) (get_or (reals_of s) 2 nan)
  go (Point a b c) = unfold is_line reals_of in refl
  go (Line a b c) = unfold is_line reals_of in refl

-- ---- chains
path_by : (w : List ℕ) (l : ℕ) (is : List ℕ) → l ≡ first_link is → Pairs (λ (i j : ℕ). i ≡ j → ⊥) is → All (λ (i : ℕ). next_link w i ≡ link_after i is) is → Path w l is
unfolding Path link_after first_link
path_by w l [] h d a = h
path_by w l (i ∷ is) h d a = (
  h,
  path_by w (next_link w i) is (a.0 ∙ ap (λ (b : Bool). cond b (first_link is) (link_after i is)) (eq-eqb i i refl)) d.1
      (all_map2 {P = λ (k : ℕ). next_link w k ≡ cond (eqb k i) (first_link is) (link_after k is)} {Q = λ (k : ℕ). i ≡ k → ⊥} {R = λ (k : ℕ). next_link w k ≡ link_after k is}
      (λ k e n. e ∙ ap (λ (b : Bool). cond b (first_link is) (link_after k is)) (ne_eqb k i (λ z. n (sym z)))) is a.1 d.0),
)

nums_all : (P : ℕ → Type 0) (us : List Window) → All (λ (u : Window). P u.num) us → All P (nums us)
unfolding nums
nums_all P [] a = tt
nums_all P (u ∷ us) a = (a.0, nums_all P us a.1)

nums_differ : (us : List Window) → Pairs (λ (u v : Window). (u.num ≡ v.num) → ⊥) us → Pairs (λ (i j : ℕ). i ≡ j → ⊥) (nums us)
unfolding nums
nums_differ [] a = tt
nums_differ (u ∷ us) a = (nums_all (λ (j : ℕ). u.num ≡ j → ⊥) us a.0, nums_differ us a.1)

-- ---- a state whose windows are on record, in buffers that are long enough; edges past the slots have no windows
module _ (wins : List WindowRecord) (live : ℕ → List Window) (events : ℕ → ℕ) (on_record : (e : ℕ) → All (OnRecord wins events e) (live e))
    (complete : (d : WindowRecord) (i : ℕ) → i < length wins → (get_or wins i d).alive ≡ true → Among i (nums (live (get_or wins i d).edge.0)))
    (unlinked : (d : WindowRecord) (i : ℕ) → i < length wins → (get_or wins i d).link ≡ 0) (differ : (e : ℕ) → Pairs (λ (u v : Window). (u.num ≡ v.num) → ⊥) (live e))
    (n m : ℕ) (fits_words : words_per_window * length wins ≤ n) (fits_reals : reals_per_window * length wins ≤ m)
    (t : List ℕ) (outside : (e : ℕ) → length t ≤ words_per_edge * e + edge_head → live e ≡ []) where
  abbrev w : List ℕ
  w = words_of n wins live

  abbrev f : List Float
  f = reals_of_all m wins

  abbrev b : Links
  b = links (edges_with t live) w

  long : length w ≡ n
  long = omega (arith, length-append (words_from live 0 wins) (replicate (n - length (words_from live 0 wins)) 0), length_words live 0 wins, length-replicate {A = ℕ} (n - length (words_from live 0 wins)) 0, fits_words)

  module _ (i : ℕ) (l : i < length wins) (d : WindowRecord) where
    abbrev x : WindowRecord
    x = get_or wins i d

    word_at : (a : ℕ) → a < 4 → get_or w (4 * i + a) 0 ≡ get_or (four_words live i x) a 0
    word_at a h =
        get_or-append (words_from live 0 wins) (replicate (n - length (words_from live 0 wins)) 0) 0 (4 * i + a) (omega (arith, l, h, length_words live 0 wins))
        ∙ words_slot live 0 wins i d a l h
        ∙ (let e : 0 + i ≡ i = omega arith in ap (λ (j : ℕ). get_or (four_words live j x) a 0) e)

    real_at_lem : (a : ℕ) → a < 6 → get_or f (6 * i + a) nan ≡ get_or (six_reals x) a nan
    real_at_lem a h = get_or-append (reals_from wins) (replicate (m - length (reals_from wins)) zero64) nan (6 * i + a) (omega (arith, l, h, length_reals wins)) ∙ reals_slot wins i d a l h

    abbrev flags : ℕ
    flags = flags_of (is_line x.win.src) x.alive x.carried.queued

    flags_are : flags_at w i ≡ flags
    flags_are = word_at 2 (omega arith)

    win_is : win_at (has_flag (flags_at w i) line_flag) f i ≡ x.win
    unfolding win_at
    win_is =
        (λ k. record {
          b0 = real_at_lem 0 (omega arith) k;
          b1 = real_at_lem 1 (omega arith) k;
          low = real_at_lem 2 (omega arith) k;
          src = src_of ((ap (λ (z : ℕ). has_flag z line_flag) flags_are ∙ (decoded (is_line x.win.src) x.alive x.carried.queued).0) k) (real_at_lem 3 (omega arith) k) (real_at_lem 4 (omega arith) k) (real_at_lem 5 (omega arith) k);
        })
        ∙ sym (win_read x.win)

    window_is : window_at w f i ≡ stored live i x
    unfolding window_at relinked
    window_is = λ k. record {
      edge = record { 0 = word_at 0 (omega arith) k };
      carried = record { into = record { 0 = word_at 1 (omega arith) k }; queued = (ap (λ (z : ℕ). has_flag z queued_flag) flags_are ∙ (decoded (is_line x.win.src) x.alive x.carried.queued).1.1) k };
      alive = (ap (λ (z : ℕ). has_flag z alive_flag) flags_are ∙ (decoded (is_line x.win.src) x.alive x.carried.queued).1.0) k;
      link = word_at 3 (omega arith) k;
      win = win_is k;
    }

    bare_is : bare (window_at w f i) ≡ x
    unfolding bare relinked
    bare_is = ap (λ (z : WindowRecord). relinked z (cond z.alive 0 z.link)) window_is ∙ go x.alive where
      go : (a : Bool) → record { edge = x.edge; carried = x.carried; alive = x.alive; link = cond a 0 (cond a (link_after i (nums (live x.edge.0))) x.link); win = x.win } ≡ x
      go true = ap (λ (z : ℕ). record { edge = x.edge; carried = x.carried; alive = x.alive; link = z; win = x.win }) (sym (unlinked d i l))
      go false = refl

  -- ---- of a live window of edge e
  module _ (e : ℕ) where
    live_is : (u : Window) → OnRecord wins events e u → window_at w f u.num ≡ stored live u.num (record_of e u)
    live_is u k = window_is u.num k.made (record_of e u) ∙ ap (stored live u.num) (k.is (record_of e u))

    alive_is : (u : Window) → OnRecord wins events e u → Alive w f u
    unfolding relinked
    alive_is u k = record { alive = ap (λ (z : WindowRecord). z.alive) (live_is u k); same = ap (λ (z : WindowRecord). live_of z u.num) (live_is u k) }

    belongs : (u : Window) → OnRecord wins events e u → Belongs (length wins) w e u.num
    belongs u k = record { edge = word_at u.num k.made (record_of e u) 0 (omega arith) ∙ ap (λ (z : WindowRecord). z.edge.0) (k.is (record_of e u)); made = k.made; there = let h = k.made in omega (arith, h, long, fits_words) }

    next_is : (u : Window) → OnRecord wins events e u → next_link w u.num ≡ link_after u.num (nums (live e))
    next_is u k = word_at u.num k.made (record_of e u) 3 (omega arith) ∙ ap (λ (z : WindowRecord). cond z.alive (link_after u.num (nums (live z.edge.0))) z.link) (k.is (record_of e u))

    head_is : head_of (edges_with t live) e ≡ first_link (nums (live e))
    unfolding edge_word_with
    head_is = go (dec_le (length t) (words_per_edge * e + edge_head)) where
      p : ℕ
      p = words_per_edge * e + edge_head

      go : Dec (length t ≤ p) → get_or (edges_with t live) p 0 ≡ first_link (nums (live e))
      go (yes h) =
          get_or-eq_default (edges_with t live) 0 (subst (λ (z : ℕ). z ≤ p) (sym (length_list_of (length t) (edge_word_with t live))) h)
          ∙ sym (ap (λ (us : List Window). first_link (nums us)) (outside e h) ∙ unfold nums first_link in refl)
      go (no h) =
          let q : p % words_per_edge ≡ edge_head = omega arith in
          let r : p / words_per_edge ≡ e = omega arith in
          get_d_list_of (length t) (edge_word_with t live) p 0 (omega (arith, h))
          ∙ ap (λ (c : Bool). cond c (first_link (nums (live (p / words_per_edge)))) (get_or t p 0)) (eq-eqb (p % words_per_edge) edge_head q)
          ∙ ap (λ (z : ℕ). first_link (nums (live z))) r

    stands : Stands (length wins) b f e (live e)
    stands = record {
      chain = record {
        path = path_by w (head_of (edges_with t live) e) (nums (live e)) head_is (nums_differ (live e) (differ e)) (nums_all (λ (i : ℕ). next_link w i ≡ link_after i (nums (live e))) (live e) (all_map {P = OnRecord wins events e} {Q = λ (u : Window). next_link w u.num ≡ link_after u.num (nums (live e))} next_is (live e) (on_record e)));
        belong = nums_all (Belongs (length wins) w e) (live e) (all_map {P = OnRecord wins events e} {Q = λ (u : Window). Belongs (length wins) w e u.num} belongs (live e) (on_record e));
      };
      windows = all_map {P = OnRecord wins events e} {Q = Alive w f} alive_is (live e) (on_record e);
      complete = λ i l edge alive.
          let d = window_at w f i in
          let is = window_is i l d in
          unfold relinked in
          subst (λ (z : ℕ). Among i (nums (live z))) (sym (ap (λ (z : WindowRecord). z.edge.0) is) ∙ edge) (complete d i l (sym (ap (λ (z : WindowRecord). z.alive) is) ∙ alive));
    }

  all_are : wins_of (length wins) w f ≡ wins
  unfolding wins_of
  all_are =
      let d : WindowRecord = window_at w f 0 in
      ext_get_or d (list_of (length wins) (λ i. bare (window_at w f i))) wins (length_list_of (length wins) (λ i. bare (window_at w f i)))
      (λ i l. let k : i < length wins = subst (λ (z : ℕ). i < z) (length_list_of (length wins) (λ i. bare (window_at w f i))) l in get_d_list_of (length wins) (λ i. bare (window_at w f i)) i d k ∙ bare_is i k d)

  pub link_is : (i : ℕ) → i < length wins → (d : WindowRecord) → next_link w i ≡ cond (get_or wins i d).alive (link_after i (nums (live (get_or wins i d).edge.0))) (get_or wins i d).link
  link_is i l d = word_at i l d 3 (omega arith)

  pub contents_hold : HoldsWindows (length wins) wins b f live
  contents_hold = record {
    on_edge = stands;
    all = all_are;
    flags = λ i l. subst (λ (z : ℕ). z < 8) (sym (flags_are i l (window_at w f i))) (let x = get_or wins i (window_at w f i) in few_flags (is_line x.win.src) x.alive x.carried.queued);
  }
