-- The live windows of edges: the parts of a list that stands, what stands behind a link, and what a link that is pointed elsewhere leaves. Assumes nothing.
use Prim.Native.Nat.{ℕ, zero, suc, ◌+◌, ◌*◌, ◌≤◌, ◌<◌}
use native.Mathlib.Omega.{arith}
use native.Mathlib.Decide.{ℕ_discrete}
use mathlib.Core.Bool.{Bool, true, false, cond}
use mathlib.Core.Path.{◌≡◌, refl, sym, ap, subst, ◌∙◌}
use mathlib.Core.List.{List, [], ◌∷◌, ◌++◌}
use mathlib.Core.Logic.{◌≢◌}
use borrow.Author.Tests.{eq-eqb, ne_eqb}
use lib.Dec.{T, eqb}
use lib.ListN.{drop}
use lib.Seq.{append_snoc, drop-set-lt}
use lib.Ieee.{Float}
use Rattle.layout.specs.Layout.{words_per_window, window_link}
use Rattle.nat_laws.proofs.Lists.{all_append, all_left, all_right}
use Rattle.nat_laws.specs.Lists.{list_of}
use Rattle.windows.specs.declared.WindowRecord.{WindowRecord}
use Rattle.windows.specs.Windows.{window_at, relinked}
use Rattle.chains.specs.Chains.{Links, head_of, with_link, Out, Belongs, AllBelong, OnEdge}
use Rattle.chains.proofs.Paths.{front_out}
use Rattle.chains.proofs.OnEdges.{all_set, elsewhere, no_windows_held}
use Rattle.better.specs.Claim.{All}
use Rattle.trim_model.specs.Windows.{Window}
use Rattle.trim_state.specs.State.{put}
use Rattle.live_windows.specs.Live.{nums, end_link, last_link, Alive, Among, Complete, Stands, HoldsWindows, bare, wins_of}
use Rattle.live_windows.proofs.Places.{nums_append, nums_cons}
use Rattle.live_windows.proofs.Stored.{Same, Behind}

-- ---- lists that stand
pub at_edge : (n : ℕ) (wins : List WindowRecord) (b : Links) (f : List Float) (live : ℕ → List Window) (e : ℕ) (us : List Window) → HoldsWindows n wins b f live → live e ≡ us → Stands n b f e us
at_edge n wins b f live e us H d = subst (Stands n b f e) d (H.on_edge e)

pub stands_put : (n : ℕ) (b : Links) (f : List Float) (live : ℕ → List Window) (e : ℕ) (us : List Window) → Stands n b f e us → ((x : ℕ) → e ≢ x → Stands n b f x (live x)) → (x : ℕ) → Stands n b f x (put e us live x)
stands_put n b f live e us s o x = go (ℕ_discrete x e) where
  go : Dec (x ≡ e) → Stands n b f x (cond (eqb x e) us (live x))
  go (yes d) = rw (eq-eqb x e d) (subst (λ y. Stands n b f y us) (sym d) s)
  go (no d) = rw (ne_eqb x e d) (o x (λ z. d (sym z)))

pub chain_both : (n : ℕ) (b : Links) (e : ℕ) (xs zs : List Window) → OnEdge n b e (nums (xs ++ zs)) → OnEdge n b e (nums xs ++ nums zs)
chain_both n b e xs zs = subst (OnEdge n b e) (nums_append xs zs)

pub stands_both : (n : ℕ) (b : Links) (f : List Float) (e : ℕ) (xs zs : List Window) → OnEdge n b e (nums xs ++ nums zs) → All (Alive b.words f) xs → All (Alive b.words f) zs → Complete n b.words f e (nums xs ++ nums zs) → Stands n b f e (xs ++ zs)
stands_both n b f e xs zs o p q c =
    let d : nums xs ++ nums zs ≡ nums (xs ++ zs) = sym (nums_append xs zs) in
    record { chain = subst (OnEdge n b e) d o; windows = all_append (Alive b.words f) xs zs p q; complete = subst (Complete n b.words f e) d c }

-- a list with one window in sight
pub record Around (n : ℕ) (b : Links) (f : List Float) (e : ℕ) (xs : List Window) (u : Window) (zs : List Window) : Type 0 where
  pub chain : OnEdge n b e (nums xs ++ u.num ∷ nums zs)
  pub front : All (Alive b.words f) xs
  pub here : Alive b.words f u
  pub rest : All (Alive b.words f) zs
  pub out_front : Out u.num (nums xs)
  pub out_rest : Out u.num (nums zs)
  pub belongs : Belongs n b.words e u.num
  pub belong_rest : AllBelong n b.words e (nums zs)
  pub complete : Complete n b.words f e (nums xs ++ u.num ∷ nums zs)

pub around : (n : ℕ) (b : Links) (f : List Float) (e : ℕ) (xs : List Window) (u : Window) (zs : List Window) → Stands n b f e (xs ++ u ∷ zs) → Around n b f e xs u zs
around n b f e xs u zs s =
    let d : nums (xs ++ u ∷ zs) ≡ nums xs ++ u.num ∷ nums zs = nums_append xs (u ∷ zs) ∙ ap (λ l. nums xs ++ l) (nums_cons u zs) in
    let o : OnEdge n b e (nums xs ++ u.num ∷ nums zs) = subst (OnEdge n b e) d s.chain in
    let r = all_right (Alive b.words f) xs (u ∷ zs) s.windows in
    let out = front_out b.words (head_of b.edges e) (nums xs) u.num (nums zs) o.path in
    let a = all_right (Belongs n b.words e) (nums xs) (u.num ∷ nums zs) o.belong in
    record {
      chain = o;
      front = all_left (Alive b.words f) xs (u ∷ zs) s.windows;
      here = r.0;
      rest = r.1;
      out_front = out.0;
      out_rest = out.1;
      belongs = a.0;
      belong_rest = a.1;
      complete = subst (Complete n b.words f e) d s.complete;
    }

-- a window of edge e is on no other chain
pub not_there : (n : ℕ) (b : Links) (f : List Float) (e x i : ℕ) (us : List Window) → e ≢ x → Belongs n b.words e i → Stands n b f x us → Out i (nums us)
not_there n b f e x i us ne h s = elsewhere n b.words x (nums us) i (λ z. ne (sym h.edge ∙ z)) s.chain.belong

-- the link behind which something stands is 0, or a live window's
behind_all : (n : ℕ) (w : List ℕ) (f : List Float) (e k : ℕ) (us : List Window) → AllBelong n w e (nums us) → All (Alive w f) us → Behind w f k → Behind w f (end_link k (nums us))
unfolding nums end_link Behind
behind_all n w f e k [] a h s = s
behind_all n w f e k (u ∷ us) a h s = behind_all n w f e (suc u.num) us a.1 h.1 (a.0.there, h.0.alive)

pub behind_is : (n : ℕ) (w : List ℕ) (f : List Float) (e k : ℕ) (xs : List Window) (zs : List ℕ) → k ≡ last_link xs → AllBelong n w e (nums xs ++ zs) → All (Alive w f) xs → Behind w f k
unfolding Behind
behind_is n w f e k xs zs q a h = subst (Behind w f) (sym q) (behind_all n w f e 0 xs (all_left (Belongs n w e) (nums xs) zs a) h tt)

-- the last window of a front is none of what follows
pub last_out : (n : ℕ) (b : Links) (e : ℕ) (is zs front : List ℕ) (i : ℕ) → OnEdge n b e (is ++ zs) → is ≡ front ++ (i ∷ []) → Belongs n b.words e i × Out i zs
last_out n b e is zs front i o d =
    let o' : OnEdge n b e (front ++ i ∷ zs) = subst (OnEdge n b e) (ap (λ l. l ++ zs) d ∙ append_snoc front i zs) o in
    ((all_right (Belongs n b.words e) front (i ∷ zs) o'.belong).0, (front_out b.words (head_of b.edges e) front i zs o'.path).1)

-- ---- all that are alive
pub not_both : (c : Bool) → c ≡ true → c ≡ false → ⊥
not_both c p q = subst T (sym p ∙ q) tt

-- a list with one number more
pub out_less : (i k : ℕ) (is js : List ℕ) → Out i (is ++ k ∷ js) → Out i (is ++ js)
out_less i k [] js o = o.1
out_less i k (j ∷ is) js o = (o.0, out_less i k is js o.1)

pub out_more : (i k : ℕ) (is js : List ℕ) → i ≢ k → Out i (is ++ js) → Out i (is ++ k ∷ js)
out_more i k [] js ne o = (ne, o)
out_more i k (j ∷ is) js ne o = (o.0, out_more i k is js ne o.1)

pub in_it : (k : ℕ) (is js : List ℕ) → Among k (is ++ k ∷ js)
in_it k [] js o = o.0 refl
in_it k (j ∷ is) js o = in_it k is js o.1

-- where nothing but window k changed, the list has all but k
module _ (n : ℕ) (w : List ℕ) (f : List Float) (w' : List ℕ) (f' : List Float) (k e : ℕ) (is : List ℕ) (same : (j : ℕ) → k ≢ j → Same w f w' f' j) (c : Complete n w f e is) where
  pub complete_but : (i : ℕ) → k ≢ i → i < n → (window_at w' f' i).edge.0 ≡ e → (window_at w' f' i).alive ≡ true → Among i is
  unfolding bare relinked
  complete_but i ne l g a = c i l (sym (ap (λ x. x.edge.0) (same i ne)) ∙ g) (sym (ap (λ x. x.alive) (same i ne)) ∙ a)

  -- and k where it is no more alive, of another edge, or was in it
  pub complete_at : (k < n → (window_at w' f' k).edge.0 ≡ e → (window_at w' f' k).alive ≡ true → Among k is) → Complete n w' f' e is
  complete_at h i l g a = go (ℕ_discrete k i) where
    go : Dec (k ≡ i) → Among i is
    go (yes d) = subst (λ j. j < n → (window_at w' f' j).edge.0 ≡ e → (window_at w' f' j).alive ≡ true → Among j is) d h l g a
    go (no d) = complete_but i d l g a

-- ---- what a link that is pointed elsewhere leaves
pub with_words : (n : ℕ) (b : Links) (e k v : ℕ) → k ≤ n → drop (words_per_window * n) (with_link b e k v).words ≡ drop (words_per_window * n) b.words
unfolding with_link
with_words n b e zero v h = refl
with_words n b e (suc k) v h = drop-set-lt (words_per_window * n) b.words (words_per_window * k + window_link) v (omega arith)

pub with_belongs : (n : ℕ) (b : Links) (e k v i : ℕ) → Belongs n b.words e i → Belongs n (with_link b e k v).words e i
unfolding with_link
with_belongs n b e zero v i h = h
with_belongs n b e (suc k) v i h = (all_set n b.words e (i ∷ []) k v (h, tt)).0

-- ---- at first there is none
pub no_live : (b : Links) (f : List Float) → ((e : ℕ) → head_of b.edges e ≡ 0) → HoldsWindows 0 [] b f (λ e. [])
unfolding nums wins_of list_of
no_live b f h = record {
  on_edge = λ e. record { chain = no_windows_held 0 (suc e) b (λ x l. h x) e (omega arith); windows = tt; complete = λ i k. absurd (omega arith) };
  all = refl;
  flags = λ i k. absurd (omega arith);
}
