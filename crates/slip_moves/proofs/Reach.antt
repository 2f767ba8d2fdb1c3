-- How far a part goes: at most so many bytes are read, and at most so many are written. Assumes nothing.
use Prim.Native.Nat.{ℕ, zero, suc, ◌+◌, ◌*◌, ◌≤◌}
use native.Mathlib.Omega.{arith}
use mathlib.Core.Path.{◌≡◌, refl, sym, ap, ◌∙◌}
use mathlib.Core.Bool.{Bool, true, false, cond}
use mathlib.Core.List.{List, [], ◌++◌}
use lib.Dec.{eqb, ltb}
use lib.ListN.{length, get_or, take, drop, length-append, length-take}
use Rattle.std.specs.Prelude.{Result, Ok, Err}
use Rattle.groups.specs.declared.Form.{Form}
use Rattle.groups.specs.declared.NumberRefusal.{NumberRefusal}
use Rattle.groups.specs.Groups.{number_at, number_of}
use Rattle.groups.proofs.Small.{number_near, number_length}
use Rattle.slip_moves.specs.declared.Refusal.{Refusal}
use Rattle.slip_moves.specs.Moves.{Part, put, stop, also, then, bytes_moved, number_written, ends_size, number_moved, numbers_moved, piece_of_kind, piece_moved, pieces_moved, mesh_moved, Moves}
use Rattle.slip_moves.proofs.Parts.{no_step, same_places}

-- from place i on
abbrev pub Reach : ℕ → ℕ → Part → Type 0
Reach i d x = (j : ℕ) (bs : List ℕ) → x ≡ put j bs → (j ≤ i + d) × (length bs ≤ d)

reach_stop : (i d : ℕ) (r : Refusal) → Reach i d (stop r)
reach_stop i d r j bs e = absurd (let z : ◌≡◌ {A = ℕ} 0 1 = cc e in omega arith)

reach_put : (i d j : ℕ) (bs : List ℕ) → j ≤ i + d → length bs ≤ d → Reach i d (put j bs)
reach_put i d j bs hj hb k cs e =
    let ej : j ≡ k = cc e in
    let eb : bs ≡ cs = cc e in
    (omega (arith, ej), omega (arith, ap length eb))

reach_cond : (i d : ℕ) (b : Bool) (x y : Part) → Reach i d x → Reach i d y → Reach i d (cond b x y)
reach_cond i d true x y hx hy = hx
reach_cond i d false x y hx hy = hy

pub reach_then : (i a b d : ℕ) (x : Part) (k : ℕ → Part) → a + b ≤ d → Reach i a x → ((j : ℕ) → Reach j b (k j)) → Reach i d (then x k)
unfolding then also
reach_then i a b d (stop r) k h hx hk = reach_stop i d r
reach_then i a b d (put j bs) k h hx hk = go (k j) (hk j)
  where
    go : (y : Part) → Reach j b y → Reach i d (also bs y)
    go (stop r) hy = reach_stop i d r
    go (put l cs) hy =
        let f = hx j bs refl in
        let g = hy l cs refl in
        reach_put i d l (bs ++ cs) (omega (arith, f.0, g.0)) (rw length-append (omega (arith, f.1, g.1)))

pub reach_bytes : (s : List ℕ) (n i : ℕ) → Reach i n (bytes_moved s n i)
unfolding bytes_moved
reach_bytes s n i =
    reach_cond i n (ltb (length s) (i + n)) (stop _) (put (i + n) (take n (drop i s))) (reach_stop i n _)
    (reach_put i n (i + n) (take n (drop i s)) (omega arith) (rw length-take (omega arith)))

module _ (from to : Form) (s : List ℕ) where
  pub reach_number : (i : ℕ) → Reach i 5 (number_moved from to s i)
  unfolding number_moved number_written
  reach_number i = go (number_at from s i) refl
    where
      go : (x : Result (ℕ × ℕ) NumberRefusal) → number_at from s i ≡ x → Reach i 5 (number_written to x)
      go (Err why) e = reach_stop i 5 _
      go (Ok (n, next)) e = reach_put i 5 next (number_of to n) (number_near from s i n next e) (number_length to n)

  pub reach_numbers : (n i : ℕ) → Reach i (5 * n) (numbers_moved from to s n i)
  unfolding numbers_moved
  reach_numbers zero i = reach_put i 0 i [] (omega arith) (omega arith)
  reach_numbers (suc n) i = reach_then i 5 (5 * n) (5 * suc n) (number_moved from to s i) (numbers_moved from to s n) (omega arith) (reach_number i) (λ j. reach_numbers n j)

  reach_ends : (kind i : ℕ) → Reach i 48 (bytes_moved s (ends_size kind) i)
  unfolding ends_size
  reach_ends kind i = go (eqb kind 0)
    where
      go : (b : Bool) → Reach i 48 (bytes_moved s (cond b 24 48) i)
      go true = λ j bs e. let h = reach_bytes s 24 i j bs e in (omega (arith, h.0), omega (arith, h.1))
      go false = reach_bytes s 48 i

  pub reach_kind : (kind i : ℕ) → Reach i 54 (piece_of_kind from to s kind i)
  unfolding piece_of_kind
  reach_kind kind i =
      reach_then i 1 53 54 (bytes_moved s 1 i) (λ j. then (number_moved from to s j) (bytes_moved s (ends_size kind))) (omega arith) (reach_bytes s 1 i)
      (λ j. reach_then j 5 48 53 (number_moved from to s j) (bytes_moved s (ends_size kind)) (omega arith) (reach_number j) (reach_ends kind))

  pub reach_piece : (i : ℕ) → Reach i 54 (piece_moved from to s i)
  unfolding piece_moved
  reach_piece i =
      reach_cond i 54 (ltb (length s) (i + 1)) (stop _) (cond (ltb 1 (get_or s i 0)) (stop _) (piece_of_kind from to s (get_or s i 0) i)) (reach_stop i 54 _)
      (reach_cond i 54 (ltb 1 (get_or s i 0)) (stop _) (piece_of_kind from to s (get_or s i 0) i) (reach_stop i 54 _) (reach_kind (get_or s i 0) i))

  pub reach_pieces : (n i : ℕ) → Reach i (54 * n) (pieces_moved from to s n i)
  unfolding pieces_moved
  reach_pieces zero i = reach_put i 0 i [] (omega arith) (omega arith)
  reach_pieces (suc n) i = reach_then i 54 (54 * n) (54 * suc n) (piece_moved from to s i) (pieces_moved from to s n) (omega arith) (reach_piece i) (λ j. reach_pieces n j)

  pub reach_mesh : (v t i : ℕ) → Reach i (25 * v + 15 * t) (mesh_moved from to s v t i)
  unfolding mesh_moved
  reach_mesh v t i =
      reach_then i (24 * v) (15 * t + v) (25 * v + 15 * t) (bytes_moved s (24 * v) i) (λ j. then (numbers_moved from to s (3 * t) j) (bytes_moved s v)) (omega arith) (reach_bytes s (24 * v) i)
      (λ j. reach_then j (5 * (3 * t)) v (15 * t + v) (numbers_moved from to s (3 * t) j) (bytes_moved s v) (omega arith) (reach_numbers (3 * t) j) (reach_bytes s v))

-- what a step then tells
pub stepped : {l m : List ℕ} {o a b : ℕ} {r : Result (ℕ × ℕ) Refusal} (i d : ℕ) (x : Part) → Reach i d x → Moves l o x m r → r ≡ Ok (a, b) → (a ≤ i + d) × (b ≤ o + d)
stepped {l} {m} {o} {a} {b} {r} i d (put j bs) f h e =
    let same = same_places (sym e ∙ (h.went j bs refl).0) in
    let g = f j bs refl in
    (omega (arith, g.0, same.0), omega (arith, g.1, same.1))
stepped i d (stop w) f h e = no_step (sym e ∙ h.stopped w refl)
