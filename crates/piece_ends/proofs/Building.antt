-- The table while ends are entered from the last to the first. Assumes nothing.
use Prim.Native.Nat.{ℕ, zero, suc, ◌+◌, ◌-◌, ◌*◌, ◌/◌, ◌%◌, ◌<◌, ◌≤◌}
use mathlib.Core.Path.{◌≡◌, refl, sym, ap, subst, ◌∙◌}
use mathlib.Core.Bool.{true, false, cond}
use mathlib.Core.List.{List}
use mathlib.Core.Logic.{⊎_elim, ◌≢◌}
use native.Mathlib.Decide.{ℕ_discrete, dec_le}
use native.Mathlib.Omega.{arith}
use borrow.Author.Tests.{eq-eqb, ne_eqb, le-ltb, le-leb, lt-leb}
use lib.Dec.{leb, leb-zero}
use lib.Ieee.{Float}
use lib.ListN.{length, get_or, set, replicate, length-set}
use Rattle.layout.specs.Layout.{words_per_piece, piece_head, piece_links}
use Rattle.vec3.specs.declared.Vec3.{Vec3}
use Rattle.buffers.proofs.Zeroing.{zero_at}
use Rattle.topology.proofs.Find.{either}
use Rattle.edge_table.specs.Sides.{HoldsWords}
use Rattle.edge_table.proofs.Buckets.{scaled_below}
use Rattle.edge_table.proofs.Holding.{holds_set, words_are}
use Rattle.piece_ends.specs.Ends.{passing, end_point, is_end}
use Rattle.piece_ends.specs.Table.{mixed, point_bucket, link_to, slot_word, bucket_at, in_bucket, bucket_from, head_link, next_end_link, piece_words_of, entered}
use Rattle.piece_ends.proofs.Passing.{link_none, link_one, pass_none, pass_here, pass_over}

pub bucket_below : (size : ℕ) (p : Vec3) → 0 < size → point_bucket size p < size
unfolding point_bucket mixed
bucket_below size p l = scaled_below _ size l

-- a link of a slot, as code writes its field
pub slot_link : (head link : ℕ → ℕ) (i w : ℕ) → slot_word head link i (piece_links + w) ≡ link (2 * i + w)
unfolding slot_word
slot_link head link i w = let e : piece_links + w ≡ suc w = omega arith in rw e refl

pub slot_end : (head link : ℕ → ℕ) (e : ℕ) → slot_word head link (e / 2) (piece_links + e % 2) ≡ link e
slot_end head link e = let q : 2 * (e / 2) + e % 2 ≡ e = omega arith in slot_link head link (e / 2) (e % 2) ∙ ap link q

-- words of slots whose heads and links agree
slot_same : (head head' link link' : ℕ → ℕ) (i a : ℕ) → head i ≡ head' i → ((w : ℕ) → a ≡ suc w → link (2 * i + w) ≡ link' (2 * i + w)) → slot_word head link i a ≡ slot_word head' link' i a
unfolding slot_word
slot_same head head' link link' i zero h l = h
slot_same head head' link link' i (suc w) h l = l w refl

module _ (kinds : List ℕ) (coords : List Float) where
  -- the heads, and the links, once the ends from number s on are entered
  abbrev pub head_from : ℕ → ℕ → ℕ
  head_from s b = link_to (bucket_from kinds coords b s)

  abbrev pub link_from : ℕ → ℕ → ℕ
  link_from s e = cond (leb s e) (next_end_link kinds coords e) 0

  abbrev pub Partial : ℕ → List ℕ → Type 0
  Partial s words = HoldsWords words_per_piece words (slot_word (head_from s) (link_from s))

  pub past_end : (e : ℕ) → 2 * length kinds ≤ e → is_end kinds e ≡ false
  unfolding is_end
  past_end e l = rw (le-ltb (e / 2) (length kinds) (omega arith)) refl

  pub no_link : (e : ℕ) → is_end kinds e ≡ false → next_end_link kinds coords e ≡ 0
  unfolding next_end_link
  no_link e h = rw h refl

  pub some_link : (e : ℕ) → is_end kinds e ≡ true → next_end_link kinds coords e ≡ link_to (bucket_from kinds coords (bucket_at kinds coords e) (suc e))
  unfolding next_end_link
  some_link e h = rw h refl

  pub entered_end : (e : ℕ) (words : List ℕ) → is_end kinds e ≡ true → entered kinds coords e words ≡ set (set words (words_per_piece * (e / 2) + (piece_links + e % 2)) (get_or words (words_per_piece * bucket_at kinds coords e + piece_head) 0)) (words_per_piece * bucket_at kinds coords e + piece_head) (e + 1)
  unfolding entered
  entered_end e words q = rw q refl

  pub entered_none : (e : ℕ) (words : List ℕ) → is_end kinds e ≡ false → entered kinds coords e words ≡ words
  unfolding entered
  entered_none e words q = rw q refl

  -- as code enters it
  pub enter_done : (words w₁ w₂ : List ℕ) (e b head : ℕ) (q : Vec3) → is_end kinds e ≡ true → q ≡ end_point coords e → b ≡ point_bucket (length kinds) q → head ≡ get_or words (words_per_piece * b + piece_head) 0 → w₁ ≡ set words (words_per_piece * (e / 2) + (piece_links + e % 2)) head → w₂ ≡ set w₁ (words_per_piece * b + piece_head) (e + 1) → w₂ ≡ entered kinds coords e words
  unfolding bucket_at
  enter_done words w₁ w₂ e b head q end is-q is_b is-head one two = two ∙ (rw (one, is-head, is_b, is-q) refl ∙ sym (entered_end e words end))

  -- nothing is entered yet
  none_head : (b : ℕ) → head_from (2 * length kinds) b ≡ 0
  unfolding bucket_from
  none_head b =
      let z : 2 * length kinds - 2 * length kinds ≡ 0 = omega arith in
      rw z (ap link_to (pass_none (in_bucket kinds coords b) (2 * length kinds)) ∙ link_none)

  none_link : (e : ℕ) → link_from (2 * length kinds) e ≡ 0
  none_link e = go (dec_le (2 * length kinds) e) where
    go : Dec (2 * length kinds ≤ e) → link_from (2 * length kinds) e ≡ 0
    go (yes l) = rw (le-leb (2 * length kinds) e l) (no_link e (past_end e l))
    go (no l) = rw (lt-leb (2 * length kinds) e (omega (arith, l))) refl

  none_slot : (i a : ℕ) → slot_word (head_from (2 * length kinds)) (link_from (2 * length kinds)) i a ≡ 0
  unfolding slot_word
  none_slot i zero = none_head i
  none_slot i (suc w) = none_link (2 * i + w)

  pub none_entered : (n : ℕ) → Partial (2 * length kinds) (replicate n 0)
  none_entered n i a l = zero_at 0 n (words_per_piece * i + a) ∙ sym (none_slot i a)

  -- all are
  pub all_entered_lem : (words : List ℕ) (n : ℕ) → length words ≡ n → Partial 0 words → words ≡ piece_words_of kinds coords n
  unfolding piece_words_of head_link
  all_entered_lem words n l part =
      words_are n words_per_piece (slot_word (head_link kinds coords) (next_end_link kinds coords)) words (omega arith) l (λ i a m.
      part i a m ∙ slot_same (head_from 0) (head_link kinds coords) (link_from 0) (next_end_link kinds coords) i a refl (λ w q. rw (leb-zero (2 * i + w)) refl))

  -- Number e is looked at next.
  module _ (e : ℕ) (there : e < 2 * length kinds) where
    left_is : 2 * length kinds - e ≡ suc (2 * length kinds - suc e)
    left_is = omega arith

    off_bucket : (b : ℕ) → in_bucket kinds coords b e ≡ false → head_from e b ≡ head_from (suc e) b
    unfolding bucket_from
    off_bucket b h = rw left_is (ap link_to (pass_over (in_bucket kinds coords b) (2 * length kinds - suc e) e h))

    on_bucket : (b : ℕ) → in_bucket kinds coords b e ≡ true → head_from e b ≡ suc e
    unfolding bucket_from
    on_bucket b h = rw left_is (ap link_to (pass_here (in_bucket kinds coords b) (2 * length kinds - suc e) e h) ∙ link_one e (passing (in_bucket kinds coords b) (2 * length kinds - suc e) (suc e)))

    other_link : (d : ℕ) → d ≢ e → link_from e d ≡ link_from (suc e) d
    other_link d ne = go (dec_le e d) where
      go : Dec (e ≤ d) → link_from e d ≡ link_from (suc e) d
      go (yes l) = rw (le-leb e d l, le-leb (suc e) d (omega (arith, ne))) refl
      go (no l) = rw (lt-leb e d (omega (arith, l)), lt-leb (suc e) d (omega (arith, l))) refl

    own_link : link_from e e ≡ next_end_link kinds coords e
    own_link = rw (le-leb e e (omega arith)) refl

    -- there is no such end
    module _ (none : is_end kinds e ≡ false) where
      not_in : (b : ℕ) → in_bucket kinds coords b e ≡ false
      unfolding in_bucket
      not_in b = rw none refl

      same_link : (d : ℕ) → link_from e d ≡ link_from (suc e) d
      same_link d = go (ℕ_discrete d e) where
        go : Dec (d ≡ e) → link_from e d ≡ link_from (suc e) d
        go (yes q) = rw q (own_link ∙ (no_link e none ∙ sym (rw (lt-leb (suc e) e (omega arith)) refl)))
        go (no q) = other_link d q

      pub passed_over : (words : List ℕ) → Partial (suc e) words → Partial e words
      passed_over words part i a l =
          part i a l ∙ sym (slot_same (head_from e) (head_from (suc e)) (link_from e) (link_from (suc e)) i a (off_bucket i (not_in i)) (λ w q. same_link (2 * i + w)))

    -- there is one
    module _ (end : is_end kinds e ≡ true) (words : List ℕ) (part : Partial (suc e) words) (room : words_per_piece * length kinds ≤ length words) where
      abbrev b : ℕ
      b = bucket_at kinds coords e

      b_below : b < length kinds
      unfolding bucket_at
      b_below = bucket_below (length kinds) (end_point coords e) (omega arith)

      in_own : in_bucket kinds coords b e ≡ true
      unfolding in_bucket
      in_own = rw (end, eq-eqb b b refl) refl

      in_other : (i : ℕ) → i ≢ b → in_bucket kinds coords i e ≡ false
      unfolding in_bucket
      in_other i ne = rw (end, ne_eqb b i (λ q. ne (sym q))) refl

      head_read : get_or words (words_per_piece * b + piece_head) 0 ≡ head_from (suc e) b
      unfolding slot_word
      head_read = part b 0 (omega arith)

      abbrev linked : List ℕ
      linked = set words (words_per_piece * (e / 2) + (piece_links + e % 2)) (get_or words (words_per_piece * b + piece_head) 0)

      halfway : HoldsWords words_per_piece linked (slot_word (head_from (suc e)) (link_from e))
      halfway =
          holds_set words_per_piece words (slot_word (head_from (suc e)) (link_from (suc e))) (slot_word (head_from (suc e)) (link_from e)) part (e / 2) (piece_links + e % 2) (get_or words (words_per_piece * b + piece_head) 0) (omega arith) (omega arith)
          (slot_end (head_from (suc e)) (link_from e) e ∙ (own_link ∙ (some_link e end ∙ sym head_read)))
          (λ j a m ne. slot_same (head_from (suc e)) (head_from (suc e)) (link_from e) (link_from (suc e)) j a refl (λ w q. other_link (2 * j + w) (λ z. ne (omega (arith, z, q, m)) (omega (arith, z, q, m)))))

      other_slot : (j a : ℕ) → (j ≡ b → a ≡ 0 → ⊥) → Dec (j ≡ b) → slot_word (head_from e) (link_from e) j a ≡ slot_word (head_from (suc e)) (link_from e) j a
      unfolding slot_word
      other_slot j zero ne (yes q) = absurd (ne q refl)
      other_slot j zero ne (no q) = off_bucket j (in_other j q)
      other_slot j (suc w) ne q = refl

      pub put_first : Partial e (set linked (words_per_piece * b + piece_head) (e + 1))
      unfolding slot_word
      put_first =
          holds_set words_per_piece linked (slot_word (head_from (suc e)) (link_from e)) (slot_word (head_from e) (link_from e)) halfway b piece_head (e + 1) (omega arith) (simp length-set (omega (arith, b_below)))
          (on_bucket b in_own ∙ omega arith)
          (λ j a m ne. other_slot j a ne (ℕ_discrete j b))

    -- either way
    pub enter_turn : (words words' : List ℕ) → words_per_piece * length kinds ≤ length words → Partial (suc e) words → words' ≡ entered kinds coords e words → Partial e words'
    enter_turn words words' room part is = ⊎_elim
        (λ q. subst (Partial e) (sym (is ∙ entered_end e words q)) (put_first q words part room))
        (λ q. subst (Partial e) (sym (is ∙ entered_none e words q)) (passed_over q words part))
        (either (is_end kinds e))
