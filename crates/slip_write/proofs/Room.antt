-- What is put from the front on stands at the front; and lists that are not oversized. Assumes nothing.
use Prim.Native.Nat.{ℕ, ◌+◌, ◌≤◌, ◌<◌}
use native.Mathlib.Nat.{zero-add}
use native.Mathlib.Omega.{arith}
use mathlib.Core.Path.{◌≡◌, refl, ◌∙◌}
use mathlib.Core.Bool.{Bool, true, false, ◌||◌, true≢false}
use mathlib.Core.List.{List}
use borrow.Author.Tests.{ltb-false, lt-ltb, le-ltb}
use lib.Dec.{ltb}
use lib.ListN.{length}
use lib.Seq.{sets-eq}
use Rattle.little_endian.specs.Bytes.{put_in_front}
use Rattle.text_out.specs.Text.{Puts}
use Rattle.slip_write.specs.Write.{slip_of, oversized, writing}
use Rattle.job_checks.specs.Job.{Job}
use Rattle.std.specs.Prelude.{Some, None}

pub at_front : {l m : List ℕ} {j : ℕ} {x : List ℕ} → Puts l 0 x m j → length x ≤ length l → m ≡ put_in_front x l
unfolding put_in_front
at_front {l} {m} {j} {x} p h = p.holds ∙ sets-eq x l 0 (rw zero-add h) ∙ rw zero-add

or_false : (a b : Bool) → a || b ≡ false → (a ≡ false) × (b ≡ false)
or_false true b h = absurd (true≢false h)
or_false false b h = (refl, h)

pub in_bounds : (a b c d : ℕ) → oversized a b c d ≡ false → (a ≤ 72_057_594_037_927_936) × ((b ≤ 72_057_594_037_927_936) × ((c ≤ 72_057_594_037_927_936) × (d ≤ 72_057_594_037_927_936)))
unfolding oversized
in_bounds a b c d h =
    let three = or_false (ltb 72_057_594_037_927_936 a || ltb 72_057_594_037_927_936 b || ltb 72_057_594_037_927_936 c) (ltb 72_057_594_037_927_936 d) h in
    let two = or_false (ltb 72_057_594_037_927_936 a || ltb 72_057_594_037_927_936 b) (ltb 72_057_594_037_927_936 c) three.0 in
    let one = or_false (ltb 72_057_594_037_927_936 a) (ltb 72_057_594_037_927_936 b) two.0 in
    (ltb-false _ _ one.0, (ltb-false _ _ one.1, (ltb-false _ _ two.1, ltb-false _ _ three.1)))

-- ---- the three ways to answer
module _ (j : Job) (out : List ℕ) where
  pub has_oversized : oversized (length j.vertices) (length j.triangles) (length j.flags) (length j.kinds) ≡ true → (None, out) ≡ writing j out
  unfolding writing
  has_oversized h = rw h

  module _ (n : ℕ) (h : oversized (length j.vertices) (length j.triangles) (length j.flags) (length j.kinds) ≡ false) (e : n ≡ 0 + length (slip_of j)) where
    pub too_short : length out < n → (None, out) ≡ writing j out
    unfolding writing
    too_short l = rw (h, lt-ltb (length out) (length (slip_of j)) (omega (arith, e)))

    pub done : (m : List ℕ) (r : ℕ) → n ≤ length out → Puts out 0 (slip_of j) m r → (Some n, m) ≡ writing j out
    unfolding writing
    done m r l p = rw (h, le-ltb (length out) (length (slip_of j)) (omega (arith, e))) (λ i. (Some ((e ∙ zero-add (length (slip_of j))) i), at_front p (omega (arith, e)) i))
