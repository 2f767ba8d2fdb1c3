-- Laws of buckets: a bucket is one of so many, and the last edge of a bucket among the first n. Assumes nothing.
use Prim.Native.Nat.{ℕ, zero, suc, ◌+◌, ◌-◌, ◌*◌, ◌%◌, ◌/◌, ◌<◌, ◌≤◌}
use mathlib.Core.Path.{◌≡◌, refl, sym, ap, ◌∙◌}
use mathlib.Core.List.{List, [], ◌∷◌, ◌++◌}
use mathlib.Core.Logic.{⊎_elim}
use native.Mathlib.Nat.{mod-lt, mul-add-mod_self_left, div-lt_iff_lt-mul, mul-lt-mul_of_pos_right, mul_comm, mul-le-mul_left}
use native.Mathlib.Omega.{arith}
use borrow.Author.Tests.{eq-eqb, ne_eqb}
use lib.Dec.{eqb}
use lib.ListN.{length, get_or, get_or-append}
use lib.Seq.{get_or-append_seam}
use Rattle.topology.specs.Edges.{EndPair, no_edge}
use Rattle.topology.proofs.Find.{either}
use Rattle.edge_table.specs.Words.{bucket_of, last_in}

pub scaled_below : (m size : ℕ) → 0 < size → m % 4294967296 * size / 4294967296 < size
scaled_below m size l =
    let p : m % 4294967296 * size < 4294967296 * size = mul-lt-mul_of_pos_right (mod-lt m (omega arith)) l in
    (div-lt_iff_lt-mul {k = 4294967296} {x = m % 4294967296 * size} {y = size} (omega arith)).1 (omega (arith, mul_comm size 4294967296))

pub scaled_fits : (m size : ℕ) → size ≤ 393210 → m % 4294967296 * size < 18446744073709551616
scaled_fits m size l =
    let p : m % 4294967296 * size ≤ m % 4294967296 * 393210 = mul-le-mul_left (m % 4294967296) l in
    omega (arith, mod-lt m {m = 4294967296} (omega arith))

pub sub_mod_self : (n size : ℕ) → size ≤ n → (n - size) % size ≡ n % size
sub_mod_self n size l =
    let e : size * 1 + (n - size) ≡ n = omega arith in
    sym (mul-add-mod_self_left size 1 (n - size)) ∙ ap (λ (k : ℕ). k % size) e

pub bucket_below : (size : ℕ) (x : EndPair) → 0 < size → bucket_of size x < size
unfolding bucket_of
bucket_below size x l = mod-lt (4 * x.low + (x.high - x.low) % 8 + (x.high - x.low) / 8 * 2654435761 % 4294967296 * size / 4294967296) l

module _ (size : ℕ) (es : List EndPair) (b : ℕ) where
  pub last_le : (n : ℕ) → last_in size es b n ≤ n
  unfolding last_in
  last_le zero = omega arith
  last_le (suc n) = ⊎_elim (λ q. rw q (omega arith)) (λ q. rw q (omega (arith, last_le n))) (either (eqb (bucket_of size (get_or es n no_edge)) b))

  -- edges that are entered later count for nothing
  pub last_append : (xs : List EndPair) (n : ℕ) → n ≤ length es → last_in size (es ++ xs) b n ≡ last_in size es b n
  unfolding last_in
  last_append xs zero l = refl
  last_append xs (suc n) l = rw (get_or-append es xs no_edge n (omega arith), last_append xs n (omega arith)) refl

  -- an edge that is entered in the bucket, or in another
  module _ (x : EndPair) where
    pub last_new : bucket_of size x ≡ b → last_in size (es ++ (x ∷ [])) b (suc (length es)) ≡ suc (length es)
    unfolding last_in
    last_new e = rw (get_or-append_seam es x [] no_edge, eq-eqb (bucket_of size x) b e) refl

    pub last_kept : (bucket_of size x ≡ b → ⊥) → last_in size (es ++ (x ∷ [])) b (suc (length es)) ≡ last_in size es b (length es)
    unfolding last_in
    last_kept e = rw (get_or-append_seam es x [] no_edge, ne_eqb (bucket_of size x) b e) (last_append (x ∷ []) (length es) (omega arith))
