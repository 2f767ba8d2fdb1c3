-- Relative errors over whole numbers: x is at most y and k parts in N more. Two such add up, and each rounding of a large number is one. Assumes nothing.
--     Over N k x y, over_trans, over_times
--     of a result that is large, in units: rise (it is at most the exact number and a little), fall (the exact number is at most it and a little);
--     rise_sum, fall_sum of two results added
--     half, double: of any result, roughly
use Prim.Native.Nat.{ℕ, ◌+◌, ◌*◌, ◌≤◌, ◌<◌}
use mathlib.Core.Path.{◌≡◌, sym, ap, ◌∙◌, subst}
use native.Mathlib.Nat.{le_trans, le_of_eq, add-mul, mul-add, mul_assoc, mul_comm, mul_right_comm, mul-le-mul_left, mul-le-mul_right, le_of_mul-le-mul_right}
use native.Mathlib.Omega.{arith}
use Rattle.float_bounds.proofs.RoundingError.{NearFraction}

abbrev pub Over : ℕ → ℕ → ℕ → ℕ → Type 0
Over N k x y = x * N ≤ y * (N + k)

-- (N + k) (N + m) is at most N (N + (k + m + 1))
parts : (N k m : ℕ) → k * m ≤ N → (N + m) * (N + k) ≤ (N + (k + m + 1)) * N
parts N k m h =
    let a : (N + m) * (N + k) ≡ N * N + N * k + (m * N + m * k) = add-mul N m (N + k) ∙ ap (λ (x : ℕ). x + m * (N + k)) (mul-add N N k) ∙ ap (λ (x : ℕ). N * N + N * k + x) (mul-add m N k) in
    let b : (N + (k + m + 1)) * N ≡ N * N + (k * N + m * N + 1 * N) = add-mul N (k + m + 1) N ∙ ap (λ (x : ℕ). N * N + x) (add-mul (k + m) 1 N ∙ ap (λ (x : ℕ). x + 1 * N) (add-mul k m N)) in
    omega (arith, mul_comm N k, mul_comm m k)

pub over_trans : (N k m x y z : ℕ) → 0 < N → k * m ≤ N → Over N k x y → Over N m y z → Over N (k + m + 1) x z
over_trans N k m x y z P h a b =
    le_of_mul-le-mul_right
    (le_trans (mul-le-mul_right N a)
    (le_trans (le_of_eq (mul_right_comm y (N + k) N))
    (le_trans (mul-le-mul_right (N + k) b)
    (le_trans (le_of_eq (mul_assoc z (N + m) (N + k)))
    (le_trans (mul-le-mul_left z (parts N k m h)) (le_of_eq (sym (mul_assoc z (N + (k + m + 1)) N))))))))
    P

pub over_times : (N k x y c : ℕ) → Over N k x y → Over N k (x * c) (y * c)
over_times N k x y c h = le_trans (le_of_eq (mul_right_comm x c N)) (le_trans (mul-le-mul_right c h) (le_of_eq (mul_right_comm y (N + k) c)))

-- ---- roundings of doubles: P is 2 ^ 53, N is 2 * P - 3
abbrev pub P : ℕ
P = 0x20_0000_0000_0000

abbrev pub N : ℕ
N = 0x3f_ffff_ffff_fffd

-- an error of x / P and x / 2 / P at most: (2 * P - 1) x is at most (2 * P + 2) n, or (2 * P - 2) n at most (2 * P + 1) x
rise_from : (x n : ℕ) → 2 * (P * x) ≤ 2 * (P * n) + 2 * n + x → Over N 6 x n
rise_from x n h = omega arith

fall_from : (n x : ℕ) → 2 * (P * n) ≤ 2 * (P * x) + 2 * n + x → Over N 6 n x
fall_from n x h = omega arith

-- the half unit is at most x / 2 / P; for any P
grown : (P n x y u : ℕ) → 2 * (P * n) ≤ 2 * (P * x) + 2 * n + P * u → x ≤ y → P * u ≤ y → 2 * (P * n) ≤ 2 * (P * y) + 2 * n + y
grown P n x y u h i j = omega (arith, mul-le-mul_left P i)

-- two of them added; d and e are the numbers that the errors are parts of
added : (P x y n m d e u z : ℕ) → 2 * (P * x) ≤ 2 * (P * n) + 2 * d + P * u → 2 * (P * y) ≤ 2 * (P * m) + 2 * e + P * u → 2 * (P * u) ≤ z → 2 * (P * (x + y)) ≤ 2 * (P * (n + m)) + 2 * (d + e) + z
added P x y n m d e u z h i k = omega (arith, mul-add P x y, mul-add P n m)

raised : (a u y : ℕ) → u ≤ y → a + u ≤ a + y
raised a u y h = omega arith

half_from : (n x c : ℕ) → 2 * (P * n) ≤ 2 * (P * x) + 2 * n + P * c → n ≤ 2 * x + c
half_from n x c h = omega arith

double_from_lem : (x n c : ℕ) → 2 * (P * x) ≤ 2 * (P * n) + 2 * n + P * c → x ≤ 2 * n + c
double_from_lem x n c h = omega arith

module _ (n c g : ℕ) (h : NearFraction P n c g) where
  pub half : n ≤ 2 * (g * c) + c
  half = half_from n (g * c) c h.least

  pub double : g * c ≤ 2 * n + c
  double = double_from_lem (g * c) n c h.most

  pub rise : P ≤ g → Over N 6 (g * c) n
  rise l = rise_from (g * c) n (le_trans h.most (raised (2 * (P * n) + 2 * n) (P * c) (g * c) (mul-le-mul_right c l)))

  -- also of a larger number
  pub fall : (G : ℕ) → g ≤ G → P ≤ G → Over N 6 n (G * c)
  fall G k l = fall_from n (G * c) (grown P n (g * c) (G * c) c h.least (mul-le-mul_right c k) (mul-le-mul_right c l))

module _ (n m c g k : ℕ) (h : NearFraction P n c g) (i : NearFraction P m c k) (l : 2 * P ≤ g + k) where
  units : 2 * (P * c) ≤ (g + k) * c
  units = le_trans (le_of_eq (sym (mul_assoc 2 P c))) (mul-le-mul_right c l)

  pub rise_sum : Over N 6 ((g + k) * c) (n + m)
  rise_sum = rise_from ((g + k) * c) (n + m) (subst (λ (x : ℕ). 2 * (P * x) ≤ 2 * (P * (n + m)) + 2 * (n + m) + (g + k) * c) (sym (add-mul g k c)) (added P (g * c) (k * c) n m n m c ((g + k) * c) h.most i.most units))

  pub fall_sum : Over N 6 (n + m) ((g + k) * c)
  fall_sum = fall_from (n + m) ((g + k) * c) (subst (λ (x : ℕ). 2 * (P * (n + m)) ≤ 2 * (P * x) + 2 * (n + m) + (g + k) * c) (sym (add-mul g k c)) (added P n m (g * c) (k * c) n m c ((g + k) * c) h.least i.least units))
