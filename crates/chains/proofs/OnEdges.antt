-- What a change of a link, of flags and of a whole window does to chains. A chain is a path of links whose windows have that chain's edge, so a window of edge e
-- is on no other chain, and what is done to one chain leaves the others. `made` is the number of windows made.
use Prim.Native.Nat.{ℕ, zero, suc, ◌+◌, ◌*◌, ◌≤◌, ◌<◌}
use native.Mathlib.Omega.{arith}
use mathlib.Core.Bool.{Bool}
use mathlib.Core.Path.{◌≡◌, refl, sym, ap, ◌∙◌}
use mathlib.Core.List.{List, []}
use mathlib.Core.Logic.{◌≢◌}
use lib.ListN.{get_or, set, length, length-set}
use lib.Seq.{get_or-set_other}
use Rattle.layout.specs.Layout.{words_per_edge, edge_head, words_per_window, window_edge, window_flags, window_link, line_flag}
use Rattle.nat_laws.specs.Lists.{All}
use Rattle.nat_laws.proofs.Lists.{all_of, all_map, all_map2}
use Rattle.buffers.specs.Slots.{slot}
use Rattle.buffers.proofs.Strides.{slot_at, other_fields, other_slot}
use Rattle.windows.specs.declared.WindowRecord.{WindowRecord}
use Rattle.windows.specs.Windows.{link_with, flags_of, has_flag, words_with, flags_with, edge_stored}
use Rattle.windows.proofs.WindowList.{stored_edge, stored_other, length_stored}
use Rattle.chains.proofs.Paths.{path_same, path_set}
use Rattle.chains.specs.Chains.{Links, links, head_of, next_link, with_link, Path, Out, Belongs, AllBelong, Before, OnEdge, Chains}

-- ---- a store of a link changes nothing of the windows but links, and nothing of the edges but one head
pub record OnlyLinks (w w' : List ℕ) : Type 0 where
  pub same_length : length w' ≡ length w
  pub fields : (i a : ℕ) → a < window_link → get_or w' (words_per_window * i + a) 0 ≡ get_or w (words_per_window * i + a) 0

pub record OnlyHead (e : ℕ) (v v' : List ℕ) : Type 0 where
  pub same_length : length v' ≡ length v
  pub fields : (p : ℕ) → p ≢ words_per_edge * e + edge_head → get_or v' p 0 ≡ get_or v p 0

only_none : (w : List ℕ) → OnlyLinks w w
only_none w = record { same_length = refl; fields = λ i a h. refl }

only_set : (w : List ℕ) (k v : ℕ) → OnlyLinks w (link_with w k v)
only_set w k v = record { same_length = simp length-set; fields = λ i a h. other_fields words_per_window w k i window_link a v 0 (omega arith) (omega arith) (omega arith) }

pub only_with : (b : Links) (e k v : ℕ) → OnlyLinks b.words (with_link b e k v).words
unfolding with_link
only_with b e zero v = only_none b.words
only_with b e (suc k) v = only_set b.words k v

pub head_with : (b : Links) (e k v : ℕ) → OnlyHead e b.edges (with_link b e k v).edges
unfolding with_link
head_with b e zero v = record { same_length = simp length-set; fields = λ p ne. get_or-set_other b.edges (words_per_edge * e + edge_head) p v 0 ne }
head_with b e (suc k) v = record { same_length = refl; fields = λ p ne. refl }

-- ---- what chains see of a window
pub record Agrees (w w' : List ℕ) (i : ℕ) : Type 0 where
  pub edge : edge_stored w' i ≡ edge_stored w i
  pub next : next_link w' i ≡ next_link w i

slot_agrees : (w w' : List ℕ) (i : ℕ) → slot words_per_window w' i ≡ slot words_per_window w i → Agrees w w' i
slot_agrees w w' i h = record { edge = field window_edge (omega arith); next = field window_link (omega arith) } where
  field : (a : ℕ) → a < words_per_window → get_or w' (words_per_window * i + a) 0 ≡ get_or w (words_per_window * i + a) 0
  field a l = sym (slot_at words_per_window w' i a 0 l) ∙ ap (λ s. get_or s a 0) h ∙ slot_at words_per_window w i a 0 l

flags_agree : (w : List ℕ) (k : ℕ) (alive queued : Bool) (i : ℕ) → Agrees w (flags_with w k alive queued) i
unfolding flags_with
flags_agree w k alive queued i = record { edge = field window_edge (omega arith) (omega arith); next = field window_link (omega arith) (omega arith) } where
  field : (a : ℕ) → window_flags ≢ a → a < words_per_window → get_or (set w (words_per_window * k + window_flags) (flags_of (has_flag (get_or w (words_per_window * k + window_flags) 0) line_flag) alive queued)) (words_per_window * i + a) 0 ≡ get_or w (words_per_window * i + a) 0
  field a ne l = other_fields words_per_window w k i window_flags a (flags_of (has_flag (get_or w (words_per_window * k + window_flags) 0) line_flag) alive queued) 0 ne (omega arith) l

length_flags : (w : List ℕ) (k : ℕ) (alive queued : Bool) → length (flags_with w k alive queued) ≡ length w
unfolding flags_with
length_flags w k alive queued = simp length-set

module _ (made : ℕ) where
  -- ---- windows stay their edge's
  belongs_same : (w w' : List ℕ) (e i : ℕ) → length w' ≡ length w → edge_stored w' i ≡ edge_stored w i → Belongs made w e i → Belongs made w' e i
  belongs_same w w' e i n h g = record { edge = h ∙ g.edge; made = g.made; there = rw n g.there }

  -- whose a window is depends on nothing but its edge and the length
  pub all_same : (w w' : List ℕ) (e : ℕ) (is : List ℕ) → length w' ≡ length w → All (λ i. edge_stored w' i ≡ edge_stored w i) is → AllBelong made w e is → AllBelong made w' e is
  all_same w w' e is n =
      all_map2 {P = λ i. edge_stored w' i ≡ edge_stored w i} {Q = Belongs made w e} {R = Belongs made w' e} (λ i. belongs_same w w' e i n) is

  pub all_set : (w : List ℕ) (e : ℕ) (is : List ℕ) (k v : ℕ) → AllBelong made w e is → AllBelong made (link_with w k v) e is
  all_set w e is k v =
      all_same w (link_with w k v) e is (simp length-set)
      (all_of (λ i. edge_stored (link_with w k v) i ≡ edge_stored w i) is (λ i. other_fields words_per_window w k i window_link window_edge v 0 (λ z. omega (arith, z)) (omega arith) (omega arith)))

  -- a window of another edge is not among them, so chains never meet
  pub elsewhere : (w : List ℕ) (e : ℕ) (is : List ℕ) (k : ℕ) → edge_stored w k ≢ e → AllBelong made w e is → Out k is
  elsewhere w e is k d = all_map {P = Belongs made w e} {Q = λ i. k ≢ i} (λ i h z. d (ap (edge_stored w) z ∙ h.edge)) is

  -- ---- the other chains stay
  module _ (b : Links) (e e' : ℕ) (ne : e ≢ e') (is : List ℕ) where
    -- a window of edge e has its link changed
    pub set_frame : (k v : ℕ) → Belongs made b.words e k → OnEdge made b e' is → OnEdge made (links b.edges (link_with b.words k v)) e' is
    set_frame k v h o =
        let out : Out k is = elsewhere b.words e' is k (λ z. ne (sym h.edge ∙ z)) o.belong in
        record { path = path_set b.words (head_of b.edges e') is k v out o.path; belong = all_set b.words e' is k v o.belong }

    pub with_frame : (k v : ℕ) → Before made b.words e k → OnEdge made b e' is → OnEdge made (with_link b e k v) e' is
    unfolding with_link Before
    with_frame zero v h o =
        record { path = rw (other_slot words_per_edge b.edges e e' edge_head edge_head v 0 ne (omega arith) (omega arith)) o.path; belong = o.belong }
    with_frame (suc k) v h o = set_frame k v h o

  -- below the count every window made is counted
  pub all_counted : (count : ℕ) → made ≤ count → (w : List ℕ) (e : ℕ) (is : List ℕ) → AllBelong made w e is → All (λ i. i < count) is
  all_counted count c w e is = all_map {P = Belongs made w e} {Q = λ i. i < count} (λ i h. omega (arith, c, h.made)) is

  -- ---- at first there is no window
  pub no_windows_held : (m : ℕ) (b : Links) → ((e : ℕ) → e < m → head_of b.edges e ≡ 0) → Chains made m b (λ e. [])
  unfolding Path
  no_windows_held m b h e l = record { path = h e l; belong = tt }

  -- ---- a chain depends on nothing but its head, the edges and links of its windows, and the length
  pub chain_same : (b b' : Links) (e : ℕ) (is : List ℕ) → head_of b'.edges e ≡ head_of b.edges e → length b'.words ≡ length b.words
      → All (Agrees b.words b'.words) is → OnEdge made b e is → OnEdge made b' e is
  chain_same b b' e is h n a o =
      let w = b.words in
      let w' = b'.words in
      record {
        path = rw h (path_same w w' (head_of b.edges e) is (all_map {P = Agrees w w'} {Q = λ i. next_link w' i ≡ next_link w i} (λ i g. g.next) is a) o.path);
        belong = all_same w w' e is n (all_map {P = Agrees w w'} {Q = λ i. edge_stored w' i ≡ edge_stored w i} (λ i g. g.edge) is a) o.belong;
      }

  -- a store of flags; a store of a trimmed range leaves the words alone
  pub flags_frame : (b : Links) (k : ℕ) (alive queued : Bool) (e : ℕ) (is : List ℕ) → OnEdge made b e is → OnEdge made (links b.edges (flags_with b.words k alive queued)) e is
  flags_frame b k alive queued e is =
      let w = b.words in
      let w' = flags_with w k alive queued in
      chain_same b (links b.edges w') e is refl (length_flags w k alive queued) (all_of (Agrees w w') is (flags_agree w k alive queued))

  -- ---- a window is made: the next number is on no chain, so the chains stay, and the new window is its edge's
  pub new_out : (w : List ℕ) (e : ℕ) (is : List ℕ) → AllBelong made w e is → Out made is
  new_out w e is = all_map {P = Belongs made w e} {Q = λ i. made ≢ i} (λ i h z. omega (arith, z, h.made)) is

  pub all_grown : (w : List ℕ) (e : ℕ) (is : List ℕ) → AllBelong made w e is → AllBelong (suc made) w e is
  all_grown w e is =
      all_map {P = Belongs made w e} {Q = Belongs (suc made) w e} (λ i h. record { edge = h.edge; made = omega (arith, h.made); there = h.there }) is

  pub store_frame : (b : Links) (x : WindowRecord) (e : ℕ) (is : List ℕ) → OnEdge made b e is → OnEdge (suc made) (links b.edges (words_with b.words made x)) e is
  store_frame b x e is o =
      let w = b.words in
      let w' = words_with w made x in
      let other : (i : ℕ) → made ≢ i → Agrees w w' i = λ i ne. slot_agrees w w' i (stored_other w made x i ne) in
      let kept : OnEdge made (links b.edges w') e is = chain_same b (links b.edges w') e is refl (length_stored w made x) (all_map {P = λ i. made ≢ i} {Q = Agrees w w'} other is (new_out w e is o.belong)) o in
      record { path = kept.path; belong = all_grown w' e is kept.belong }

  pub stored_belongs : (w : List ℕ) (x : WindowRecord) → words_per_window * made + words_per_window ≤ length w → Belongs (suc made) (words_with w made x) x.edge.0 made
  stored_belongs w x h = record { edge = stored_edge w made x h; made = omega arith; there = rw (length_stored w made x) h }
