-- The loop that writes groups. Assumes nothing.
use Prim.Native.Nat.{ℕ, zero, suc, ◌+◌, ◌*◌, ◌/◌, ◌%◌, ◌<◌, ◌≤◌}
use native.Mathlib.Omega.{arith}
use mathlib.Core.Path.{◌≡◌, refl, sym, ap, ◌∙◌}
use mathlib.Core.List.{List, [], ◌∷◌, ◌++◌, append_assoc}
use borrow.Author.Tests.{lt-ltb, le-ltb}
use lib.ListN.{length, length-append}
use Rattle.text_out.specs.Text.{Puts}
use Rattle.text_out.proofs.Puts.{puts_none, puts_then}
use Rattle.groups.specs.Groups.{groups_of}

-- the numbers that so many groups hold are below
unfoldable pub most : ℕ → ℕ
most zero = 128
most (suc k) = 128 * most k

pub one_group : (k n : ℕ) → n < 128 → groups_of k n ≡ n ∷ []
unfolding groups_of
one_group zero n h = refl
one_group (suc k) n h = rw (lt-ltb n 128 h)

pub more_groups : (k n : ℕ) → 128 ≤ n → groups_of (suc k) n ≡ (128 + n % 128) ∷ groups_of k (n / 128)
unfolding groups_of
more_groups k n h = rw (le-ltb n 128 h)

-- of n in groups from place i on, those of m are left to write, at place `at`
pub record Putting (n i : ℕ) (out₀ out : List ℕ) (at m : ℕ) : Type 0 where
  pub k : ℕ
  pub bytes : List ℕ
  pub holds : Puts out₀ i bytes out at
  pub rest : groups_of 4 n ≡ bytes ++ groups_of k m
  pub small : m < most k
  pub long : length bytes + k ≡ 4

pub none_put : (n i : ℕ) (out : List ℕ) → n < 4_294_967_296 → Putting n i out out i n
unfolding most
none_put n i out h = record { k = 4; bytes = []; holds = puts_none out i; rest = refl; small = omega arith; long = refl }

module _ {n i : ℕ} {out₀ out : List ℕ} {at m : ℕ} where
  pub one_put : {out' : List ℕ} {at' : ℕ} → Putting n i out₀ out at m → 128 ≤ m → Puts out at ((128 + m % 128) ∷ []) out' at' → Putting n i out₀ out' at' (m / 128)
  unfolding most
  one_put {out'} {at'} w h p = go w.k w.rest w.small w.long
    where
      go : (k : ℕ) → groups_of 4 n ≡ w.bytes ++ groups_of k m → m < most k → length w.bytes + k ≡ 4 → Putting n i out₀ out' at' (m / 128)
      go zero e s l = absurd (omega arith)
      go (suc k) e s l = record {
        k = k;
        bytes = w.bytes ++ ((128 + m % 128) ∷ []);
        holds = puts_then w.holds p;
        rest = e ∙ ap (λ t. w.bytes ++ t) (more_groups k m h) ∙ sym (append_assoc w.bytes ((128 + m % 128) ∷ []) (groups_of k (m / 128)));
        small = omega (arith, s);
        long = rw length-append (omega (arith, l));
      }

  pub all_put : {out' : List ℕ} {at' : ℕ} → Putting n i out₀ out at m → m < 128 → Puts out at (m ∷ []) out' at' → Puts out₀ i (groups_of 4 n) out' at'
  all_put w h p = rw (w.rest, one_group w.k m h) (puts_then w.holds p)

  pub still_near : Putting n i out₀ out at m → at ≤ i + 4
  still_near w = omega (arith, w.holds.ends, w.long)
