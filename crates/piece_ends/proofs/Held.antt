-- What the readers find in words that hold the table: the ends of a point's bits, in the Rust's order, whatever the buckets are. Assumes nothing.
use Prim.Native.Nat.{ℕ, zero, suc, ◌+◌, ◌-◌, ◌*◌, ◌/◌, ◌%◌, ◌<◌, ◌≤◌}
use mathlib.Core.Path.{◌≡◌, refl, sym, ap, ◌∙◌}
use mathlib.Core.Bool.{Bool, true, false, not, ◌&&◌}
use mathlib.Core.List.{List}
use mathlib.Core.Logic.{⊎_elim}
use native.Mathlib.Decide.{dec_le}
use native.Mathlib.Omega.{arith}
use borrow.Author.Tests.{eq-eqb, ne_eqb, eqb-true, ltb-true}
use lib.Dec.{eqb, ltb}
use lib.Ieee.{Float, binary64, to_bits}
use lib.ListN.{length, get_or}
use Rattle.layout.specs.Layout.{words_per_piece, piece_head, piece_links}
use Rattle.vec3.specs.declared.Vec3.{Vec3}
use Rattle.job_checks.specs.Any.{any_below}
use Rattle.job_checks.proofs.Any.{none_below, none_all}
use Rattle.topology.proofs.Find.{either}
use Rattle.edge_table.proofs.Holding.{words_at, words_zero}
use Rattle.piece_ends.specs.Ends.{passing, end_point, is_end, same_bits, has_bits, ends_with_bits, first_of_bits}
use Rattle.piece_ends.specs.Table.{mixed, point_bucket, link_to, slot_word, bucket_at, in_bucket, bucket_from, head_link, next_end_link, piece_words_of}
use Rattle.piece_ends.specs.Walk.{end_link_at, stands_at, follow, find_along, first_link_at, next_link_at, leads_at, follows_at, is_first_at, HoldsTable}
use Rattle.piece_ends.proofs.Passing.{both, never, link_none, pass_none, pass_never, pass_same, link_first, first_link_lem}
use Rattle.piece_ends.proofs.Following.{search_no_steps, follow_left, search_left}
use Rattle.piece_ends.proofs.Building.{bucket_below, slot_end, past_end, no_link as no-next, some_link}

-- ---- bits
-- a point's bits by coordinate
pub record SameBits (p q : Vec3) : Type 0 where
  pub x_bits : to_bits binary64 p.x ≡ to_bits binary64 q.x
  pub y_bits : to_bits binary64 p.y ≡ to_bits binary64 q.y
  pub z_bits : to_bits binary64 p.z ≡ to_bits binary64 q.z

pub same_are : (p q : Vec3) → same_bits p q ≡ true → SameBits p q
unfolding same_bits
same_are p q h =
    let a = both (eqb (to_bits binary64 p.x) (to_bits binary64 q.x)) (eqb (to_bits binary64 p.y) (to_bits binary64 q.y) && eqb (to_bits binary64 p.z) (to_bits binary64 q.z)) h in
    let b = both (eqb (to_bits binary64 p.y) (to_bits binary64 q.y)) (eqb (to_bits binary64 p.z) (to_bits binary64 q.z)) a.1 in
    record { x_bits = eqb-true _ _ a.0; y_bits = eqb-true _ _ b.0; z_bits = eqb-true _ _ b.1 }

pub same_self : (p : Vec3) → same_bits p p ≡ true
unfolding same_bits
same_self p = rw (eq-eqb (to_bits binary64 p.x) (to_bits binary64 p.x) refl, eq-eqb (to_bits binary64 p.y) (to_bits binary64 p.y) refl, eq-eqb (to_bits binary64 p.z) (to_bits binary64 p.z) refl) refl

same_other : (r p q : Vec3) → SameBits p q → same_bits r p ≡ same_bits r q
unfolding same_bits
same_other r p q s = rw (s.x_bits, s.y_bits, s.z_bits) refl

-- the same bits are in the same bucket
same_bucket : (size : ℕ) (p q : Vec3) → SameBits p q → point_bucket size p ≡ point_bucket size q
unfolding point_bucket mixed
same_bucket size p q s = rw (s.x_bits, s.y_bits, s.z_bits) refl

-- ---- the table that `build` leaves
and_twice : (a b : Bool) → (a && (a && b)) ≡ (a && b)
and_twice true b = refl
and_twice false b = refl

module _ (kinds : List ℕ) (coords : List Float) where
  pub built_holds : (n : ℕ) → words_per_piece * length kinds ≤ n → HoldsTable kinds coords (piece_words_of kinds coords n)
  unfolding piece_words_of slot_word
  built_holds n room = record {
    heads = λ b l. words_at n words_per_piece (slot_word (head_link kinds coords) (next_end_link kinds coords)) b piece_head (omega arith) (omega arith);
    links = λ e l.
        words_at n words_per_piece (slot_word (head_link kinds coords) (next_end_link kinds coords)) (e / 2) (piece_links + e % 2) (omega arith) (omega arith)
        ∙ slot_end (head_link kinds coords) (next_end_link kinds coords) e;
  }

  bucket_all : (b : ℕ) → bucket_from kinds coords b 0 ≡ passing (in_bucket kinds coords b) (2 * length kinds) 0
  unfolding bucket_from
  bucket_all b = let z : 2 * length kinds - 0 ≡ 2 * length kinds = omega arith in rw z refl

  head_all : (b : ℕ) → head_link kinds coords b ≡ link_to (passing (in_bucket kinds coords b) (2 * length kinds) 0)
  unfolding head_link
  head_all b = ap link_to (bucket_all b)

  pub end_below : (e : ℕ) → is_end kinds e ≡ true → e < 2 * length kinds
  unfolding is_end
  end_below e h = omega (arith, ltb-true (e / 2) (length kinds) (both (ltb (e / 2) (length kinds)) _ h).0)

  module _ (p : Vec3) (e : ℕ) where
    pub has_end : has_bits kinds coords p e ≡ true → (is_end kinds e ≡ true) × (same_bits (end_point coords e) p ≡ true)
    unfolding has_bits
    has_end h = both (is_end kinds e) (same_bits (end_point coords e) p) h

    has_both : is_end kinds e ≡ true → same_bits (end_point coords e) p ≡ true → has_bits kinds coords p e ≡ true
    unfolding has_bits
    has_both a b = rw (a, b) refl

    has_stands : is_end kinds e ≡ true → has_bits kinds coords p e ≡ stands_at coords p e
    unfolding has_bits
    has_stands h = rw h refl

  in_end : (b e : ℕ) → in_bucket kinds coords b e ≡ true → (is_end kinds e ≡ true) × (bucket_at kinds coords e ≡ b)
  unfolding in_bucket
  in_end b e h =
      let a = both (is_end kinds e) (eqb (bucket_at kinds coords e) b) h in
      (a.0, eqb-true (bucket_at kinds coords e) b a.1)

  in_both : (b e : ℕ) → is_end kinds e ≡ true → bucket_at kinds coords e ≡ b → in_bucket kinds coords b e ≡ true
  unfolding in_bucket
  in_both b e h q = rw (h, eq-eqb (bucket_at kinds coords e) b q) refl

  -- an end of p's bits is in p's bucket
  not_in_bucket : (p : Vec3) (e : ℕ) → in_bucket kinds coords (point_bucket (length kinds) p) e ≡ false → has_bits kinds coords p e ≡ false
  unfolding bucket_at
  not_in_bucket p e h = ⊎_elim
      (λ q. let a = has_end p e q in absurd (never (in_both (point_bucket (length kinds) p) e a.0 (same_bucket (length kinds) (end_point coords e) p (same_are (end_point coords e) p a.1))) h))
      (λ q. q)
      (either (has_bits kinds coords p e))

  -- of an end in p's bucket, p's bits are all that is asked
  bucket_has : (p : Vec3) (e : ℕ) → (in_bucket kinds coords (point_bucket (length kinds) p) e && stands_at coords p e) ≡ has_bits kinds coords p e
  bucket_has p e = go (in_bucket kinds coords (point_bucket (length kinds) p) e) refl where
    go : (b : Bool) → in_bucket kinds coords (point_bucket (length kinds) p) e ≡ b → (in_bucket kinds coords (point_bucket (length kinds) p) e && stands_at coords p e) ≡ has_bits kinds coords p e
    go true h = rw h (sym (has_stands p e (in_end (point_bucket (length kinds) p) e h).0))
    go false h = rw h (sym (not_in_bucket p e h))

  -- the ends of the same bits are the same
  pub has_same : (p : Vec3) (e : ℕ) → has_bits kinds coords p e ≡ true → (d : ℕ) → has_bits kinds coords (end_point coords e) d ≡ has_bits kinds coords p d
  unfolding has_bits
  has_same p e h d = ap (λ (b : Bool). is_end kinds d && b) (same_other (end_point coords d) (end_point coords e) p (same_are (end_point coords e) p (both (is_end kinds e) (same_bits (end_point coords e) p) h).1))

  -- no end is in a bucket that there is not
  never_in : (b : ℕ) → length kinds ≤ b → (e : ℕ) → in_bucket kinds coords b e ≡ false
  unfolding bucket_at
  never_in b l e = ⊎_elim
      (λ q. let a = in_end b e q in
      let m : e < 2 * length kinds = end_below e a.0 in
      absurd (omega (arith, a.1, bucket_below (length kinds) (end_point coords e) (omega arith))))
      (λ q. q)
      (either (in_bucket kinds coords b e))

  slot_zero : (i a : ℕ) → length kinds ≤ i → slot_word (head_link kinds coords) (next_end_link kinds coords) i a ≡ 0
  unfolding slot_word
  slot_zero i zero l = head_all i ∙ (ap link_to (pass_never (in_bucket kinds coords i) (never_in i l) (2 * length kinds) 0) ∙ link_none)
  slot_zero i (suc w) l = no-next kinds coords (2 * i + w) (past_end kinds coords (2 * i + w) (omega arith))

  -- the slots behind the pieces are zero
  pub spare_zero : (n i a : ℕ) → length kinds ≤ i → a < words_per_piece → get_or (piece_words_of kinds coords n) (words_per_piece * i + a) 0 ≡ 0
  unfolding piece_words_of
  spare_zero n i a l m = words_zero n words_per_piece (slot_word (head_link kinds coords) (next_end_link kinds coords)) i a m (slot_zero i a l)

module _ (kinds : List ℕ) (coords : List Float) (words : List ℕ) (held : HoldsTable kinds coords words) where
  -- the link of an end leads to the next of its bucket
  bucket_leads : (b k e : ℕ) → suc e + k ≡ 2 * length kinds → in_bucket kinds coords b e ≡ true → end_link_at words e ≡ link_to (passing (in_bucket kinds coords b) k (suc e))
  unfolding bucket_from
  bucket_leads b k e s h =
      let a = in_end kinds coords b e h in
      let m : 2 * length kinds - suc e ≡ k = omega arith in
      held.links e (end_below kinds coords e a.0) ∙ (some_link kinds coords e a.0 ∙ rw (a.1, m) refl)

  -- A bucket's chain is exactly its ends, in order; no chain is longer than there are ends.
  pub chain_held : (b : ℕ) → b < length kinds → follow (end_link_at words) (2 * length kinds) (get_or words (words_per_piece * b + piece_head) 0) ≡ bucket_from kinds coords b 0
  chain_held b l =
      ap (follow (end_link_at words) (2 * length kinds)) (held.heads b l ∙ head_all kinds coords b)
      ∙ (follow_left (end_link_at words) (in_bucket kinds coords b) (2 * length kinds) (bucket_leads b) (2 * length kinds) 0 (2 * length kinds) (omega arith) (omega arith) ∙ sym (bucket_all kinds coords b))

  -- ---- the ends of p's bits
  -- found along the chain of p's bucket
  found_left : (p : Vec3) (k e : ℕ) → e + k ≡ 2 * length kinds → find_along (end_link_at words) (stands_at coords p) (2 * length kinds) (link_to (passing (in_bucket kinds coords (point_bucket (length kinds) p)) k e)) ≡ link_to (passing (has_bits kinds coords p) k e)
  found_left p k e s =
      search_left (end_link_at words) (in_bucket kinds coords (point_bucket (length kinds) p)) (2 * length kinds) (bucket_leads (point_bucket (length kinds) p)) (stands_at coords p) k e (2 * length kinds) s (omega arith)
      ∙ ap link_to (pass_same (λ (d : ℕ). in_bucket kinds coords (point_bucket (length kinds) p) d && stands_at coords p d) (has_bits kinds coords p) (bucket_has kinds coords p) k e)

  head_is : (p : Vec3) → 0 < length kinds → get_or words (words_per_piece * point_bucket (length kinds) p + piece_head) 0 ≡ link_to (passing (in_bucket kinds coords (point_bucket (length kinds) p)) (2 * length kinds) 0)
  head_is p l = held.heads (point_bucket (length kinds) p) (bucket_below (length kinds) p l) ∙ head_all kinds coords (point_bucket (length kinds) p)

  -- the first
  pub first_held : (p : Vec3) → first_link_at coords words (length kinds) p ≡ link_to (ends_with_bits kinds coords p)
  unfolding first_link_at ends_with_bits
  first_held p = elim (dec_le (length kinds) 0) [
    | yes z ↦
        let n : 2 * length kinds ≡ 0 = omega arith in
        ap (λ (k : ℕ). find_along (end_link_at words) (stands_at coords p) k (get_or words (words_per_piece * point_bucket (length kinds) p + piece_head) 0)) n
        ∙ (search_no_steps (end_link_at words) (stands_at coords p) (get_or words (words_per_piece * point_bucket (length kinds) p + piece_head) 0)
        ∙ sym (ap (λ (k : ℕ). link_to (passing (has_bits kinds coords p) k 0)) n ∙ (ap link_to (pass_none (has_bits kinds coords p) 0) ∙ link_none)))
    | no z ↦ ap (find_along (end_link_at words) (stands_at coords p) (2 * length kinds)) (head_is p (omega (arith, z))) ∙ found_left p (2 * length kinds) 0 (omega arith)
  ]

  -- the next of the bits of end e
  pub next_held : (e : ℕ) → is_end kinds e ≡ true → next_link_at coords words (length kinds) e ≡ link_to (passing (has_bits kinds coords (end_point coords e)) (2 * length kinds - suc e) (suc e))
  unfolding next_link_at bucket_at
  next_held e h =
      let l : e < 2 * length kinds = end_below kinds coords e h in
      ap (find_along (end_link_at words) (stands_at coords (end_point coords e)) (2 * length kinds)) (bucket_leads (point_bucket (length kinds) (end_point coords e)) (2 * length kinds - suc e) e (omega arith) (in_both kinds coords (point_bucket (length kinds) (end_point coords e)) e h refl))
      ∙ found_left (end_point coords e) (2 * length kinds - suc e) (suc e) (omega arith)

  -- so one of p's bits leads to the next of them
  pub bits_lead : (p : Vec3) (k e : ℕ) → suc e + k ≡ 2 * length kinds → has_bits kinds coords p e ≡ true → next_link_at coords words (length kinds) e ≡ link_to (passing (has_bits kinds coords p) k (suc e))
  bits_lead p k e s h =
      let m : 2 * length kinds - suc e ≡ k = omega arith in
      next_held e (has_end kinds coords p e h).0
      ∙ (ap link_to (pass_same (has_bits kinds coords (end_point coords e)) (has_bits kinds coords p) (has_same kinds coords p e h) (2 * length kinds - suc e) (suc e)) ∙ ap (λ (j : ℕ). link_to (passing (has_bits kinds coords p) j (suc e))) m)

  -- The walk from the first end of p's bits is all of them, in the Rust's order.
  pub walk_held : (p : Vec3) → follow (next_link_at coords words (length kinds)) (2 * length kinds) (first_link_at coords words (length kinds) p) ≡ ends_with_bits kinds coords p
  unfolding ends_with_bits
  walk_held p =
      ap (follow (next_link_at coords words (length kinds)) (2 * length kinds)) (first_held p)
      ∙ follow_left (next_link_at coords words (length kinds)) (has_bits kinds coords p) (2 * length kinds) (bits_lead p) (2 * length kinds) 0 (2 * length kinds) (omega arith) (omega arith)

  -- ---- the first of its bits
  module _ (e : ℕ) where
    abbrev met : ℕ → Bool
    met = has_bits kinds coords (end_point coords e)

    met_self : is_end kinds e ≡ true → met e ≡ true
    met_self h = has_both kinds coords (end_point coords e) e h (same_self (end_point coords e))

    is_first : is_end kinds e ≡ true → any_below met e ≡ false → link_to (ends_with_bits kinds coords (end_point coords e)) ≡ suc e
    unfolding ends_with_bits
    is_first h none =
        link_first met (2 * length kinds) 0 e (omega arith) (omega (arith, end_below kinds coords e h)) (met_self h) (λ j a b. none_below met e none j b)

    first_means : link_to (ends_with_bits kinds coords (end_point coords e)) ≡ suc e → (is_end kinds e ≡ true) × (any_below met e ≡ false)
    unfolding ends_with_bits
    first_means h =
        let f = first_link_lem met (2 * length kinds) 0 e h in
        ((has_end kinds coords (end_point coords e) e f.passes).0, none_all met e (λ j l. f.before j (omega arith) l))

    no_link : (link_to (ends_with_bits kinds coords (end_point coords e)) ≡ suc e → ⊥) → eqb (link_to (ends_with_bits kinds coords (end_point coords e))) (suc e) ≡ false
    no_link ne = ne_eqb _ _ ne

    decided : (a b : Bool) → is_end kinds e ≡ a → any_below met e ≡ b → eqb (link_to (ends_with_bits kinds coords (end_point coords e))) (suc e) ≡ (is_end kinds e && not (any_below met e))
    decided true false h n = rw (h, n) (eq-eqb _ _ (is_first h n))
    decided true true h n = rw (h, n) (no_link (λ z. never n (first_means z).1))
    decided false b h n = rw h (no_link (λ z. never (first_means z).0 h))

    leads_held : leads_at coords words (length kinds) e ≡ first_of_bits kinds coords e
    unfolding leads_at first_of_bits
    leads_held = ap (λ (k : ℕ). eqb k (suc e)) (first_held (end_point coords e)) ∙ decided (is_end kinds e) (any_below met e) refl refl

    -- the end before it has its bits, so it is not the first
    follows_below : follows_at kinds coords e ≡ true → any_below met e ≡ true
    unfolding follows_at
    follows_below h =
        let l = both (ltb 0 e) _ h in
        let b = both (is_end kinds (e - 1)) _ l.1 in
        go (any_below met e) refl (ltb-true 0 e l.0) (has_both kinds coords (end_point coords e) (e - 1) b.0 b.1)
      where
        go : (b : Bool) → any_below met e ≡ b → 0 < e → met (e - 1) ≡ true → b ≡ true
        go true n l m = refl
        go false n l m = absurd (never m (none_below met e n (e - 1) (omega arith)))

    -- `is_first` is the Rust's `points.insert(..)`
    pub is_first_held : is_first_at kinds coords words (length kinds) e ≡ first_of_bits kinds coords e
    unfolding is_first_at first_of_bits
    is_first_held = go (follows_at kinds coords e) refl where
      go : (b : Bool) → follows_at kinds coords e ≡ b → is_first_at kinds coords words (length kinds) e ≡ first_of_bits kinds coords e
      go true h = rw (h, follows_below h) refl
      go false h = rw h (ap (λ (b : Bool). is_end kinds e && b) leads_held ∙ and_twice (is_end kinds e) (not (any_below met e)))
