-- The ways that the walk over a slip's pieces can go. Assumes nothing.
use Prim.Native.Nat.{ℕ, zero, suc, ◌+◌, ◌-◌, ◌≤◌, ◌<◌}
use native.Mathlib.Omega.{arith}
use mathlib.Core.Path.{◌≡◌, refl, sym, ◌∙◌}
use mathlib.Core.Bool.{Bool, true, false, cond, true≢false}
use mathlib.Core.List.{List}
use borrow.Author.Tests.{lt-ltb, le-ltb, ltb-false}
use lib.Dec.{eqb, ltb}
use lib.ListN.{length, get_or}
use Rattle.std.specs.Prelude.{Result, Err}
use Rattle.slip.specs.declared.SlipJob.{SlipJob}
use Rattle.slip.specs.declared.SlipRefusal.{SlipRefusal}
use Rattle.slip.specs.declared.SlipRefusal.TheVariants.{TooShort, UnknownKind}
use Rattle.slip.specs.Format.{is_job, piece_size, after_pieces}

pub size_bounds : (kind : ℕ) → (29 ≤ piece_size kind) × (piece_size kind ≤ 53)
unfolding piece_size
size_bounds kind = go (eqb kind 0) where
  go : (b : Bool) → (29 ≤ cond b 29 53) × (cond b 29 53 ≤ 53)
  go true = (omega arith, omega arith)
  go false = (omega arith, omega arith)

-- a refusal is no job
pub job_else : (b : Bool) (x y : Result SlipJob SlipRefusal) → is_job x ≡ false → is_job (cond b x y) ≡ true → (b ≡ false) × (is_job y ≡ true)
job_else true x y e h = absurd (true≢false (sym h ∙ e))
job_else false x y e h = (refl, h)

module _ (s : List ℕ) where
  pub no_kind : (n i : ℕ) → 0 < n → length s ≤ i → Err TooShort ≡ after_pieces s n i
  unfolding after_pieces
  no_kind zero i h l = absurd (omega arith)
  no_kind (suc n) i h l = rw (lt-ltb (length s) (i + 1) (omega arith))

  pub bad_kind : (n i : ℕ) → 0 < n → i < length s → 1 < get_or s i 0 → Err UnknownKind ≡ after_pieces s n i
  unfolding after_pieces
  bad_kind zero i h l k = absurd (omega arith)
  bad_kind (suc n) i h l k = rw (le-ltb (length s) (i + 1) (omega arith), lt-ltb 1 (get_or s i 0) k)

  pub short_piece : (n i : ℕ) → 0 < n → i < length s → get_or s i 0 ≤ 1 → length s < i + piece_size (get_or s i 0) → Err TooShort ≡ after_pieces s n i
  unfolding after_pieces
  short_piece zero i h l k e = absurd (omega arith)
  short_piece (suc n) i h l k e = rw (le-ltb (length s) (i + 1) (omega arith), le-ltb 1 (get_or s i 0) k, lt-ltb _ _ e)

  pub next_piece : (n i : ℕ) → 0 < n → i < length s → get_or s i 0 ≤ 1 → i + piece_size (get_or s i 0) ≤ length s
      → after_pieces s n i ≡ after_pieces s (n - 1) (i + piece_size (get_or s i 0))
  unfolding after_pieces
  next_piece zero i h l k e = absurd (omega arith)
  next_piece (suc n) i h l k e =
      let less : suc n - 1 ≡ n = omega arith in rw (less, le-ltb (length s) (i + 1) (omega arith), le-ltb 1 (get_or s i 0) k, le-ltb _ _ e)

  -- in the slip of a job a piece stands whole, and so do those behind it
  pub stands : (n i : ℕ) → 0 < n → is_job (after_pieces s n i) ≡ true
      → (i + piece_size (get_or s i 0) ≤ length s) × (is_job (after_pieces s (n - 1) (i + piece_size (get_or s i 0))) ≡ true)
  unfolding after_pieces
  stands zero i h j = absurd (omega arith)
  stands (suc n) i h j =
      let less : suc n - 1 ≡ n = omega arith in
      let kind = get_or s i 0 in
      let behind = after_pieces s n (i + piece_size kind) in
      let whole-piece = cond (ltb (length s) (i + piece_size kind)) (Err TooShort) behind in
      let known_kind = cond (ltb 1 kind) (Err UnknownKind) whole-piece in
      let known = job_else (ltb (length s) (i + 1)) (Err TooShort) known_kind refl j in
      let whole = job_else (ltb (length s) (i + piece_size kind)) (Err TooShort) behind refl (job_else (ltb 1 kind) (Err UnknownKind) whole-piece refl known.1).1 in
      (ltb-false _ _ whole.0, rw less whole.1)
