-- Element k of a row of windows that is answered is what the single query answers to question k, and slot k has its window. Assumes nothing.
--     stored_at (a slot that was put), stored_behind (one that was not), window_element
use Prim.Native.Nat.{ℕ, zero, suc, ◌≤◌, ◌<◌}
use mathlib.Core.Bool.{Bool, true, false, cond}
use mathlib.Core.List.{List}
use mathlib.Core.Logic.{◌≢◌}
use mathlib.Core.Path.{◌≡◌, refl, ap, ◌∙◌, subst}
use native.Mathlib.Decide.{ℕ_discrete}
use native.Mathlib.Omega.{arith}
use borrow.Author.Tests.{ltb-false}
use lib.Dec.{ltb}
use lib.Ieee.{Float}
use lib.ListN.{length, get_or}
use Rattle.windows.specs.declared.WindowRecord.{WindowRecord}
use Rattle.windows.specs.Windows.{capacity_of, window_at}
use Rattle.windows.proofs.WindowList.{counted, load_same, load_other}
use Rattle.computed.specs.declared.Computed.{Computed}
use Rattle.computed.specs.declared.Computed.TheVariants.{Refused, Field as isField}
use Rattle.computed.specs.declared.Field.{Field}
use Rattle.query_rows.specs.of_field_check.FieldCheck.{JobSlices, FieldSlices, field_unsound}
use Rattle.std.specs.declared.result.Result.{Result}
use Rattle.std.specs.declared.result.Result.TheVariants.{Ok, Err}
use Rattle.query_rows.specs.of_queries.declared.ListedWindow.{ListedWindow}
use Rattle.query_rows.specs.of_queries.declared.WindowRefusal.{WindowRefusal}
use Rattle.query_rows.specs.of_queries.Answers.{window_answer_number}
use Rattle.query_rows.specs.of_queries.Queries.{window_query}
use Rattle.query_rows.specs.declared.RowRefusal.TheVariants.{NoField, ShortRow}
use Rattle.query_rows.specs.Rows.{row_number, elements, short_for}
use Rattle.open_rows.specs.Written.{written_row}
use Rattle.query_rows.proofs.Elements.{both_long, behind_test}
use Rattle.open_rows.proofs.Written.{row_at}
use Rattle.window_rows.specs.WindowRows.{WindowResult, window_id, words_put, reals_put, stored_row, window_result, window_asked, window_numbers, window_ids, window_words_of, window_reals_of, window_row}
use Rattle.window_rows.proofs.Stored.{words_row, reals_row, still_there}

-- the window that a slot shows after an answer: the answer's, or the one that was there
abbrev pub shown : Result ListedWindow WindowRefusal → WindowRecord → WindowRecord
shown (Ok x) u = x.window
shown (Err r) u = u

put_same : (a : Result ListedWindow WindowRefusal) (w : List ℕ) (f : List Float) (k : ℕ) → k < capacity_of (length w) (length f) → window_at (words_put a k w) (reals_put a k f) k ≡ shown a (window_at w f k)
put_same (Err r) w f k h = refl
put_same (Ok x) w f k h = let c = counted k (length w) (length f) h in load_same w f k x.window c.0 c.1

put_other : (a : Result ListedWindow WindowRefusal) (w : List ℕ) (f : List Float) (k j : ℕ) → k ≢ j → window_at (words_put a k w) (reals_put a k f) j ≡ window_at w f j
put_other (Err r) w f k j h = refl
put_other (Ok x) w f k j h = load_other w f k x.window j h

module _ (n : Field) (b : FieldSlices) (edges places : List ℕ) (w : List ℕ) (f : List Float) where
  abbrev words : ℕ → List ℕ
  words m = stored_row (window_words_of n b edges places) m w

  abbrev reals : ℕ → List Float
  reals m = stored_row (window_reals_of n b edges places) m f

  pub stored_behind : (m k : ℕ) → m ≤ k → window_at (words m) (reals m) k ≡ window_at w f k
  unfolding stored_row
  stored_behind zero k h = refl
  stored_behind (suc m) k h = put_other (window_asked n b edges places m) (words m) (reals m) m k (λ e. omega (arith, h, e)) ∙ stored_behind m k (omega (arith, h))

  pub stored_at : (m k : ℕ) → k < m → m ≤ capacity_of (length w) (length f) → window_at (words m) (reals m) k ≡ shown (window_asked n b edges places k) (window_at w f k)
  unfolding stored_row
  stored_at zero k h c = absurd (omega (arith, h))
  stored_at (suc m) k h c = elim (ℕ_discrete m k) [
    | yes e ↦
        let there = still_there m (suc m) (length w) (length (words m)) (length f) (length (reals m)) (omega arith) c (words_row n b edges places m w (words m) refl) (reals_row n b edges places m f (reals m) refl) in
        subst (λ (i : ℕ). window_at (words (suc m)) (reals (suc m)) i ≡ shown (window_asked n b edges places i) (window_at w f i)) e
        (put_same (window_asked n b edges places m) (words m) (reals m) m there ∙ ap (shown (window_asked n b edges places m)) (stored_behind m m (omega arith)))
    | no e ↦ put_other (window_asked n b edges places m) (words m) (reals m) m k e ∙ stored_at m k (omega (arith, h, e)) (omega (arith, c))
  ]

-- ---- the row
module _ (numbers ids : List ℕ) (w : List ℕ) (f : List Float) (M I W : List ℕ) (R : List Float) where
  abbrev refusable : Bool → Bool → Bool → WindowResult
  refusable s t u = cond s (window_result (Err NoField) numbers ids w f) (cond t (window_result (Err ShortRow) numbers ids w f) (cond u (window_result (Err ShortRow) numbers ids w f) (window_result (Ok tt) M I W R)))

  whole : (s t u : Bool) → (refusable s t u).answer ≡ Ok tt → refusable s t u ≡ window_result (Ok tt) M I W R
  whole true t u a = absurd (omega (arith, ap row_number a))
  whole false true u a = absurd (omega (arith, ap row_number a))
  whole false false true a = absurd (omega (arith, ap row_number a))
  whole false false false a = refl

  passed : (s t u : Bool) → (refusable s t u).answer ≡ Ok tt → (s ≡ false) × ((t ≡ false) × (u ≡ false))
  passed true t u a = absurd (omega (arith, ap row_number a))
  passed false true u a = absurd (omega (arith, ap row_number a))
  passed false false true a = absurd (omega (arith, ap row_number a))
  passed false false false a = (refl, (refl, refl))

module _ (j : JobSlices) (b : FieldSlices) (numbers ids w : List ℕ) (f : List Float) where
  -- of question k: its number, its window's number, and the window in slot k
  pub window_element : (c : Computed) (edges places : List ℕ) → let r = window_row j b numbers ids w f c edges places in r.answer ≡ Ok tt → (k : ℕ) → k < elements edges
      → let a = window_query j b c (get_or edges k 0) (get_or places k 0) in
      (get_or r.numbers k 0 ≡ window_answer_number a) × ((get_or r.ids k 0 ≡ window_id a) × (window_at r.words r.reals k ≡ shown a (window_at w f k)))
  unfolding window_row window_query
  window_element (Refused m) edges places a k h = absurd (omega (arith, ap row_number a))
  window_element (isField n) edges places a k h =
      let q = elements edges in
      let s = field_unsound n j b in
      let t = short_for q (elements places) (elements numbers) (elements ids) in
      let u = ltb (capacity_of (length w) (length f)) q in
      let M = written_row (window_numbers n b edges places) q numbers in
      let I = written_row (window_ids n b edges places) q ids in
      let W = stored_row (window_words_of n b edges places) q w in
      let R = stored_row (window_reals_of n b edges places) q f in
      let p = passed numbers ids w f M I W R s t u a in
      let l = both_long q (elements places) (elements numbers) (elements ids) p.1.0 in
      let m = row_at (window_numbers n b edges places) numbers q k 0 h (omega (arith, l.0)) in
      let i = row_at (window_ids n b edges places) ids q k 0 h (omega (arith, l.1)) in
      let v = stored_at n b edges places w f q k h (ltb-false (capacity_of (length w) (length f)) q p.1.1) in
      let z = whole numbers ids w f M I W R s t u a in (
        ap (λ (r : WindowResult). get_or r.numbers k 0) z ∙ m ∙ behind_test window_answer_number s _ _ p.0,
        (
          ap (λ (r : WindowResult). get_or r.ids k 0) z ∙ i ∙ behind_test window_id s _ _ p.0,
          ap (λ (r : WindowResult). window_at r.words r.reals k) z ∙ v ∙ behind_test (λ (a : Result ListedWindow WindowRefusal). shown a (window_at w f k)) s _ _ p.0,
        ),
      )
