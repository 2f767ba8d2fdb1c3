-- A window is made. Assumes nothing.
use Prim.Native.Nat.{ℕ, suc, ◌+◌, ◌*◌, ◌≤◌}
use native.Mathlib.Omega.{arith}
use native.Mathlib.Decide.{ℕ_discrete}
use mathlib.Core.Path.{◌≡◌, refl, sym, ap, subst, ◌∙◌}
use mathlib.Core.List.{List, [], ◌∷◌, ◌++◌}
use mathlib.Core.Logic.{◌≢◌}
use lib.ListN.{length, drop}
use lib.Ieee.{Float}
use Rattle.layout.specs.Layout.{words_per_edge, words_per_window, reals_per_window}
use Rattle.buffers.specs.declared.EdgeId.{EdgeId}
use Rattle.source.specs.declared.Win.{Win}
use Rattle.windows.specs.declared.Carried.{Carried}
use Rattle.windows.specs.declared.WindowRecord.{WindowRecord}
use Rattle.windows.specs.Windows.{reals_of, window_at, words_with, reals_with, relinked}
use Rattle.windows.proofs.WindowList.{length_reals_of, link_is, load_same, load_other}
use Rattle.nat_laws.specs.Lists.{list_of}
use Rattle.nat_laws.proofs.Lists.{all_left, all_right}
use Rattle.chains.specs.Chains.{Links, link_in, links, head_of, next_link, link_at, with_link, Path, Out, Belongs, AllBelong, first_link, OnEdge}
use Rattle.chains.proofs.Paths.{path_after}
use Rattle.chains.proofs.OnEdges.{head_with, with_frame, store_frame, stored_belongs, new_out}
use Rattle.better.specs.Claim.{All}
use Rattle.trim_model.specs.Windows.{Window}
use Rattle.live_windows.specs.Live.{live_of, nums, last_link, Alive, Among, Complete, Stands, bare, wins_of, window_of, Makes}
use Rattle.live_windows.proofs.Places.{nums_append, nums_cons, next_is, point, before_is}
use Rattle.live_windows.proofs.Stored.{Same, others, Behind, with_bare, wins_same}
use Rattle.live_windows.proofs.Standing.{at_edge, stands_put, chain_both, stands_both, behind_is, last_out, with_words, out_less, in_it, complete_but}
use Rattle.live_windows.proofs.Few.{few_with, few_stored}
use Rattle.buffers.proofs.Strides.{fill_outside}

-- ---- a window is made
module _ (n : ℕ) (b : Links) (f : List Float) (e : EdgeId) (k v : ℕ) (carried : Carried) (win : Win)
    (p : words_per_window * n + words_per_window ≤ length b.words) (q : reals_per_window * n + reals_per_window ≤ length f) (r : words_per_edge * e.0 + words_per_edge ≤ length b.edges) (kn : k ≤ n) (read : v ≡ link_in n (link_at b e.0 k)) where
  abbrev x : WindowRecord
  x = window_of e carried v win

  abbrev y : WindowRecord
  y = window_of e carried 0 win

  abbrev mw : List ℕ
  mw = words_with b.words n x

  abbrev mf : List Float
  mf = reals_with f n win

  abbrev mb : Links
  mb = links b.edges mw

  abbrev mb2 : Links
  mb2 = with_link mb e.0 k (suc n)

  bare_new : bare x ≡ y
  unfolding bare relinked
  bare_new = refl

  make_others : (j : ℕ) → n ≢ j → Same b.words f mw mf j
  make_others j ne = ap bare (load_other b.words f n x j ne)

  next_new : next_link mw n ≡ v
  next_new = sym (link_is mw mf n) ∙ ap (λ z. z.link) (load_same b.words f n x p q)

  module _ (xs zs : List Window) (s : Stands n b f e.0 (xs ++ zs)) (kq : k ≡ last_link xs) where
    o : OnEdge n b e.0 (nums xs ++ nums zs)
    o = chain_both n b e.0 xs zs s.chain

    o1 : OnEdge (suc n) mb e.0 (nums xs ++ nums zs)
    o1 = store_frame n b x e.0 (nums xs ++ nums zs) o

    v_is : v ≡ first_link (nums zs)
    v_is = read ∙ next_is n b e.0 k (nums xs) (nums zs) kq o

    new_path : Path mw (suc n) (n ∷ nums zs)
    unfolding Path
    new_path = (refl, subst (λ l. Path mw l (nums zs)) (sym (next_new ∙ v_is)) (path_after mw (head_of b.edges e.0) (nums xs) (nums zs) o1.path))

    new_belong : AllBelong (suc n) mw e.0 (n ∷ nums zs)
    new_belong = (stored_belongs n b.words x p, all_right (Belongs (suc n) mw e.0) (nums xs) (nums zs) o1.belong)

    new_apart : (front : List ℕ) (i : ℕ) → nums xs ≡ front ++ (i ∷ []) → Out i (n ∷ nums zs)
    new_apart front i d =
        let h = last_out n b e.0 (nums xs) (nums zs) front i o d in
        let l = h.0.made in
        (λ z. omega (arith, z, l), h.1)

    made_chain : OnEdge (suc n) mb2 e.0 (nums xs ++ n ∷ nums zs)
    made_chain = point (suc n) mb e.0 k (nums xs) (nums zs) (n ∷ nums zs) (suc n) r kq o1 new_path new_belong new_apart

    made_front : All (Alive mw mf) (xs ++ zs)
    made_front = others b.words f mw mf n (xs ++ zs) (new_out n b.words e.0 (nums (xs ++ zs)) s.chain.belong) make_others s.windows

    made_behind : Behind mw mf k
    made_behind = behind_is (suc n) mw mf e.0 k xs (nums zs) kq o1.belong (all_left (Alive mw mf) xs zs made_front)

    made_link : (j : ℕ) → Same mw mf mb2.words mf j
    made_link j = with_bare mb mf e.0 k (suc n) j made_behind

    made_same : (j : ℕ) → n ≢ j → Same b.words f mb2.words mf j
    made_same j ne = made_link j ∙ make_others j ne

    made_new : bare (window_at mb2.words mf n) ≡ y
    made_new = made_link n ∙ ap bare (load_same b.words f n x p q) ∙ bare_new

    new_alive : Alive mb2.words mf (live_of y n)
    unfolding bare relinked
    new_alive = record { alive = ap (λ z. z.alive) made_new; same = ap (λ z. live_of z n) made_new }

    -- the new window is of edge e
    made_edge : (window_at mb2.words mf n).edge.0 ≡ e.0
    unfolding bare relinked
    made_edge = ap (λ z. z.edge.0) made_new

    -- the windows made before are on the lists as they were
    made_complete : (z : ℕ) (is : List ℕ) → Complete n b.words f z is → ((window_at mb2.words mf n).edge.0 ≡ z → Among n is) → Complete (suc n) mb2.words mf z is
    made_complete z is c h i l g a = go (ℕ_discrete n i) where
      go : Dec (n ≡ i) → Among i is
      go (yes d) = subst (λ j. (window_at mb2.words mf j).edge.0 ≡ z → Among j is) d h g
      go (no d) = complete_but n b.words f mb2.words mf n z is made_same c i d (omega (arith, d, l)) g a

    made_all : Complete (suc n) mb2.words mf e.0 (nums xs ++ n ∷ nums zs)
    made_all =
        let c : Complete n b.words f e.0 (nums xs ++ nums zs) = subst (Complete n b.words f e.0) (nums_append xs zs) s.complete in
        made_complete e.0 (nums xs ++ n ∷ nums zs) (λ i l g a o. c i l g a (out_less i n (nums xs) (nums zs) o)) (λ g. in_it n (nums xs) (nums zs))

    made_stands : Stands (suc n) mb2 mf e.0 (xs ++ live_of y n ∷ zs)
    made_stands =
        let w = mb2.words in
        let all : All (Alive w mf) (xs ++ zs) = others b.words f w mf n (xs ++ zs) (new_out n b.words e.0 (nums (xs ++ zs)) s.chain.belong) made_same s.windows in
        stands_both (suc n) mb2 mf e.0 xs (live_of y n ∷ zs) (subst (λ l. OnEdge (suc n) mb2 e.0 (nums xs ++ l)) (sym (nums_cons (live_of y n) zs)) made_chain)
        (all_left (Alive w mf) xs zs all) (new_alive, all_right (Alive w mf) xs zs all)
        (subst (λ l. Complete (suc n) w mf e.0 (nums xs ++ l)) (sym (nums_cons (live_of y n) zs)) made_all)

    made_other : (z : ℕ) (us : List Window) → e.0 ≢ z → Stands n b f z us → Stands (suc n) mb2 mf z us
    made_other z us ne t = record {
      chain = with_frame (suc n) mb e.0 z ne (nums us) k (suc n) (before_is (suc n) mb e.0 k (nums xs) (nums zs) kq o1) (store_frame n b x z (nums us) t.chain);
      windows = others b.words f mb2.words mf n us (new_out n b.words z (nums us) t.chain.belong) made_same t.windows;
      complete = made_complete z (nums us) t.complete (λ g. absurd (ne (sym made_edge ∙ g)));
    }

    made_wins : wins_of (suc n) mb2.words mf ≡ wins_of n b.words f ++ (y ∷ [])
    unfolding wins_of list_of
    made_wins =
        ap (λ l. l ++ (bare (window_at mb2.words mf n) ∷ [])) (wins_same n b.words f mb2.words mf (λ j l. made_same j (λ z. omega (arith, z, l))))
        ∙ ap (λ z. wins_of n b.words f ++ (z ∷ [])) made_new

  make_words : drop (words_per_window * suc n) mb2.words ≡ drop (words_per_window * suc n) b.words
  unfolding words_with
  make_words = with_words (suc n) mb e.0 k (suc n) (omega arith) ∙ fill_outside words_per_window (suc n) _ b.words n 0 (omega arith) (omega arith)

  make_reals : drop (reals_per_window * suc n) mf ≡ drop (reals_per_window * suc n) f
  unfolding reals_with
  make_reals = fill_outside reals_per_window (suc n) (win.b0 ∷ win.b1 ∷ win.low ∷ reals_of win.src) f n 0 (omega arith) (let h = length_reals_of win.src in omega arith)

  make_done : (b' : Links) (f' : List Float) → b' ≡ mb2 → f' ≡ mf → Makes n b b' f f' e.0 k y
  make_done b' f' hb hf =
      subst (λ c. Makes n b c f f' e.0 k y) (sym hb)
      (subst (λ g. Makes n b mb2 f g e.0 k y) (sym hf)
      (record {
        outside = record { edges = (head_with mb e.0 k (suc n)).fields; words = make_words };
        reals = make_reals;
        holds = λ wins live xs zs H d kq. let s = at_edge n wins b f live e.0 (xs ++ zs) H d in record {
          on_edge = stands_put (suc n) mb2 mf live e.0 (xs ++ live_of y n ∷ zs) (made_stands xs zs s kq) (λ z ne. made_other xs zs s kq z (live z) ne (H.on_edge z));
          all = made_wins xs zs s kq ∙ ap (λ l. l ++ (y ∷ [])) H.all;
          flags = few_with (suc n) mb e.0 k (suc n) (few_stored n b.words x p H.flags);
        };
      }))

  -- as the calls leave it
  pub make_after : (w1 : List ℕ) (v1 : ℕ) (b' : Links) (f' : List Float) → w1 ≡ mw → v1 ≡ suc n → b' ≡ with_link (links b.edges w1) e.0 k v1 → f' ≡ mf → Makes n b b' f f' e.0 k y
  make_after w1 v1 b' f' hw hv hb hf = make_done b' f' (hb ∙ ap (λ w. with_link (links b.edges w) e.0 k v1) hw ∙ ap (with_link mb e.0 k) hv) hf
