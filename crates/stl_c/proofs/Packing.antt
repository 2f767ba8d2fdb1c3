-- An answer that is packed, beside what the slices hold. Assumes nothing.
use Prim.Native.Nat.{ℕ}
use mathlib.Core.Path.{◌≡◌, ap, ◌∙◌}

pub packed_both : {A B : Type 0} (packed : B → ℕ) {n : ℕ} {x : B} {a : A} {p : B × A} → n ≡ packed x → ◌≡◌ {A = B × A} (x, a) p → ◌≡◌ {A = ℕ × A} (n, a) (packed p.0, p.1)
packed_both {A} {B} packed {n} {x} {a} {p} e f = ap (λ (m : ℕ). (m, a)) e ∙ ap (λ (q : B × A). (packed q.0, q.1)) f
