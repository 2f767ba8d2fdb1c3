-- The ways that reading the counts can go. Assumes nothing.
use Prim.Native.Nat.{ℕ, ◌<◌, ◌≤◌}
use native.Mathlib.Omega.{arith}
use mathlib.Core.Path.{◌≡◌, sym, ◌∙◌}
use mathlib.Core.List.{List}
use Rattle.std.specs.Prelude.{Result, Ok, Err}
use Rattle.groups.specs.declared.Form.{Form}
use Rattle.groups.specs.declared.NumberRefusal.{NumberRefusal}
use Rattle.groups.specs.Groups.{number_at, Found}
use Rattle.slip_moves.specs.declared.Refusal.{Refusal}
use Rattle.slip_moves.specs.declared.Counts.{Counts}
use Rattle.slip_moves.specs.Moves.{number_refusal, with_count, counted, SmallCounts}

pub refused_small : (why : Refusal) (far : ℕ) → SmallCounts (Err why) far
refused_small why far = record { small = λ c e. absurd (let z : ◌≡◌ {A = ℕ} 0 1 = cc e in omega arith) }

-- of two heads that are the same the counts are, and the places behind them
pub same_counts : {v t p i v' t' p' i' : ℕ} → counted v t p i ≡ counted v' t' p' i' → (v ≡ v') × ((t ≡ t') × ((p ≡ p') × (i ≡ i')))
same_counts {v} {t} {p} {i} {v'} {t'} {p'} {i'} e =
    let c : ◌≡◌ {A = Counts} (record { vertices = v; triangles = t; pieces = p; next = i }) (record { vertices = v'; triangles = t'; pieces = p'; next = i' }) = cc e in
    (λ k. (c k).vertices, (λ k. (c k).triangles, (λ k. (c k).pieces, λ k. (c k).next)))

pub counts_small : (v t p i far : ℕ) → v < 4_294_967_296 → t < 4_294_967_296 → p < 4_294_967_296 → i ≤ far → SmallCounts (counted v t p i) far
counts_small v t p i far hv ht hp hi = record {
  small = λ c e.
      let same = same_counts {v' = c.vertices} {t' = c.triangles} {p' = c.pieces} {i' = c.next} e in
      (omega (arith, same.0), (omega (arith, same.1.0), (omega (arith, same.1.1.0), omega (arith, same.1.1.1))));
}

module _ {form : Form} {s : List ℕ} {i : ℕ} {x : Result (ℕ × ℕ) NumberRefusal} (f : Found form s i x) (rest : ℕ → ℕ → Result Counts Refusal) where
  pub count_refused : (why : NumberRefusal) → x ≡ Err why → Err (number_refusal why) ≡ with_count (number_at form s i) rest
  unfolding with_count
  count_refused why e = rw (sym f.answer ∙ e)

  pub count_is : {n next : ℕ} → x ≡ Ok (n, next) → rest n next ≡ with_count (number_at form s i) rest
  unfolding with_count
  count_is e = rw (sym f.answer ∙ e)
