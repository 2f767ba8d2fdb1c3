-- A window is taken out. Assumes nothing.
use Prim.Native.Nat.{ℕ, ◌+◌, ◌*◌, ◌≤◌, ◌<◌}
use native.Mathlib.Omega.{arith}
use mathlib.Core.Bool.{Bool, true, false}
use mathlib.Core.Path.{◌≡◌, sym, ap, subst, ◌∙◌}
use mathlib.Core.List.{List, [], ◌∷◌, ◌++◌}
use mathlib.Core.Logic.{◌≢◌}
use lib.ListN.{length, get_or, set, drop, length-set}
use lib.Seq.{drop-set-lt}
use lib.Ieee.{Float}
use Rattle.layout.specs.Layout.{words_per_edge, words_per_window, window_flags, window_link, queued_flag}
use Rattle.windows.specs.declared.WindowRecord.{WindowRecord}
use Rattle.windows.specs.Windows.{has_flag, window_at, flags_with, reflagged, relinked, dead, adjust}
use Rattle.windows.proofs.WindowList.{flags_same, flags_other, link_same, link_other}
use Rattle.chains.proofs.Turns.{link_in_lem}
use Rattle.nat_laws.proofs.Lists.{all_append}
use Rattle.chains.specs.Chains.{Links, link_in, links, head_of, next_link, with_link, Path, Out, Belongs, OnEdge}
use Rattle.chains.proofs.Paths.{path_first, path_set, path_drop}
use Rattle.chains.proofs.OnEdges.{only_with, head_with, all_set, set_frame, with_frame, flags_frame}
use Rattle.trim_model.specs.Windows.{Window}
use Rattle.live_windows.specs.Live.{nums, last_link, Complete, Stands, bare, wins_of, Kills}
use Rattle.live_windows.proofs.Few.{few_with, few_flags, few_zeroed}
use Rattle.live_windows.proofs.Places.{first_in, point, before_is}
use Rattle.live_windows.proofs.Stored.{Same, others, Behind, with_bare, wins_adjust}
use Rattle.live_windows.proofs.Standing.{Around, at_edge, stands_put, stands_both, around, not_there, behind_is, last_out, with_words, with_belongs, not_both, out_more, complete_but, complete_at}

-- ---- a window is taken out
module _ (n : ℕ) (b : Links) (e k i v : ℕ) (q : Bool) (p : words_per_window * i + words_per_window ≤ length b.words) (r : words_per_edge * e + words_per_edge ≤ length b.edges) (kn : k ≤ n) (il : i < n)
    (read : v ≡ link_in n (next_link b.words i)) (flag : q ≡ has_flag (get_or b.words (words_per_window * i + window_flags) 0) queued_flag) where
  abbrev kb : Links
  kb = with_link b e k v

  abbrev kw : List ℕ
  kw = set kb.words (words_per_window * i + window_link) 0

  abbrev kw2 : List ℕ
  kw2 = flags_with kw i false q

  abbrev kb2 : Links
  kb2 = links kb.edges kw2

  queued_is : (f : List Float) → q ≡ (window_at b.words f i).carried.queued
  unfolding window_at
  queued_is f = flag

  kill_bare : (z z1 : WindowRecord) → bare z1 ≡ bare z → q ≡ z.carried.queued → bare (reflagged (relinked z1 0) false q) ≡ dead (bare z)
  unfolding bare relinked reflagged
  kill_bare z z1 h g = ap (λ a. relinked (reflagged a false q) 0) h ∙ ap (λ a. relinked (reflagged (bare z) false a) 0) g

  length_kb : words_per_window * i + words_per_window ≤ length kb.words
  length_kb = rw (only_with b e k v).same_length p

  length_kw : words_per_window * i + words_per_window ≤ length kw
  length_kw = simp length-set length_kb

  module _ (f : List Float) (xs : List Window) (u : Window) (zs : List Window) (s : Stands n b f e (xs ++ u ∷ zs)) (kq : k ≡ last_link xs) (g : i ≡ u.num) where
    a : Around n b f e xs u zs
    a = around n b f e xs u zs s

    o : OnEdge n b e (nums xs ++ i ∷ nums zs)
    o = subst (λ j. OnEdge n b e (nums xs ++ j ∷ nums zs)) (sym g) a.chain

    rest_path : Path b.words (next_link b.words i) (nums zs)
    rest_path = path_drop b.words (head_of b.edges e) (nums xs) i (nums zs) o.path

    v_is : v ≡ next_link b.words i
    v_is = read ∙ link_in_lem n (next_link b.words i) (rw (path_first b.words (next_link b.words i) (nums zs) rest_path) (first_in n b.words e (nums zs) a.belong_rest))

    kill_apart : (front : List ℕ) (j : ℕ) → nums xs ≡ front ++ (j ∷ []) → Out j (nums zs)
    kill_apart front j d = (last_out n b e (nums xs) (i ∷ nums zs) front j o d).1.1

    k1 : OnEdge n kb e (nums xs ++ nums zs)
    k1 = point n b e k (nums xs) (i ∷ nums zs) (nums zs) v r kq o (subst (λ l. Path b.words l (nums zs)) (sym v_is) rest_path) a.belong_rest kill_apart

    i_out : Out i (nums xs ++ nums zs)
    i_out = subst (λ j. Out j (nums xs ++ nums zs)) (sym g) (all_append (λ j. u.num ≢ j) (nums xs) (nums zs) a.out_front a.out_rest)

    k2 : OnEdge n (links kb.edges kw) e (nums xs ++ nums zs)
    k2 = record {
      path = path_set kb.words (head_of kb.edges e) (nums xs ++ nums zs) i 0 i_out k1.path;
      belong = all_set n kb.words e (nums xs ++ nums zs) i 0 k1.belong;
    }

    kill_behind : Behind b.words f k
    kill_behind = behind_is n b.words f e k xs (i ∷ nums zs) kq o.belong a.front

    kill_link : (j : ℕ) → Same b.words f kb.words f j
    kill_link j = with_bare b f e k v j kill_behind

    kill_same : (j : ℕ) → i ≢ j → Same b.words f kw2 f j
    kill_same j ne = ap bare (flags_other kw f i false q j ne) ∙ ap bare (link_other kb.words f i 0 j ne) ∙ kill_link j

    kill_here : bare (window_at kw2 f i) ≡ dead (bare (window_at b.words f i))
    kill_here =
        ap bare (flags_same kw f i false q length_kw ∙ ap (λ z. reflagged z false q) (link_same kb.words f i 0 length_kb))
        ∙ kill_bare (window_at b.words f i) (window_at kb.words f i) (kill_link i) (queued_is f)

    kill_dead : (window_at kw2 f i).alive ≡ false
    unfolding bare relinked reflagged
    kill_dead = ap (λ x. x.alive) kill_here

    kill_complete : Complete n kw2 f e (nums xs ++ nums zs)
    kill_complete j l g' b' =
        let ne : i ≢ j = λ d. not_both (window_at kw2 f i).alive (subst (λ z. (window_at kw2 f z).alive ≡ true) (sym d) b') kill_dead in
        let c : Complete n b.words f e (nums xs ++ i ∷ nums zs) = subst (λ z. Complete n b.words f e (nums xs ++ z ∷ nums zs)) (sym g) a.complete in
        λ h. complete_but n b.words f kw2 f i e (nums xs ++ i ∷ nums zs) kill_same c j ne l g' b' (out_more j i (nums xs) (nums zs) (λ d. ne (sym d)) h)

    kill_stands : Stands n kb2 f e (xs ++ zs)
    kill_stands = stands_both n kb2 f e xs zs (flags_frame n (links kb.edges kw) i false q e (nums xs ++ nums zs) k2)
        (others b.words f kw2 f i xs (subst (λ j. Out j (nums xs)) (sym g) a.out_front) kill_same a.front)
        (others b.words f kw2 f i zs (subst (λ j. Out j (nums zs)) (sym g) a.out_rest) kill_same a.rest)
        kill_complete

    i_belongs : Belongs n b.words e i
    i_belongs = subst (Belongs n b.words e) (sym g) a.belongs

    kill_other : (z : ℕ) (us : List Window) → e ≢ z → Stands n b f z us → Stands n kb2 f z us
    kill_other z us ne t =
        let k3 : OnEdge n kb z (nums us) = with_frame n b e z ne (nums us) k v (before_is n b e k (nums xs) (i ∷ nums zs) kq o) t.chain in
        record {
          chain = flags_frame n (links kb.edges kw) i false q z (nums us) (set_frame n kb e z ne (nums us) i 0 (with_belongs n b e k v i i_belongs) k3);
          windows = others b.words f kw2 f i us (not_there n b f e z i us ne i_belongs t) kill_same t.windows;
          complete = complete_at n b.words f kw2 f i z (nums us) kill_same t.complete (λ l g' b'. absurd (not_both (window_at kw2 f i).alive b' kill_dead));
        }

    kill_wins : wins_of n kw2 f ≡ adjust i dead (wins_of n b.words f)
    kill_wins = wins_adjust n b.words f kw2 f i dead kill_same kill_here

  kill_words : drop (words_per_window * n) kw2 ≡ drop (words_per_window * n) b.words
  unfolding flags_with
  kill_words = drop-set-lt (words_per_window * n) kw (words_per_window * i + window_flags) _ (omega arith) ∙ drop-set-lt (words_per_window * n) kb.words (words_per_window * i + window_link) 0 (omega arith) ∙ with_words n b e k v kn

  kill_core : Kills n b kb2 e k i
  kill_core = record {
    outside = record { edges = (head_with b e k v).fields; words = kill_words };
    holds = λ wins f live xs u zs H d kq g. let s = at_edge n wins b f live e (xs ++ u ∷ zs) H d in record {
      on_edge = stands_put n kb2 f live e (xs ++ zs) (kill_stands f xs u zs s kq g) (λ z ne. kill_other f xs u zs s kq g z (live z) ne (H.on_edge z));
      all = kill_wins f xs u zs s kq g ∙ ap (adjust i dead) H.all;
      flags = few_flags n kw i false q length_kw (few_zeroed n kb.words i (few_with n b e k v H.flags));
    };
  }

  pub kill_done : (e1 w1 w2 w3 : List ℕ) → links e1 w1 ≡ kb → w2 ≡ set w1 (words_per_window * i + window_link) 0 → w3 ≡ flags_with w2 i false q → Kills n b (links e1 w3) e k i
  kill_done e1 w1 w2 w3 h1 h2 h3 =
      let d : links e1 w3 ≡ kb2 = ap (links e1) (h3 ∙ ap (λ w. flags_with w i false q) h2) ∙ ap (λ c. links c.edges (flags_with (set c.words (words_per_window * i + window_link) 0) i false q)) h1 in
      subst (λ c. Kills n b c e k i) (sym d) kill_core
