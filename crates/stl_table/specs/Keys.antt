-- The points of a file by their bits: what tells two apart, and the bucket that they are looked up in. Definitions only.
use Rattle.std.specs.Prelude.{ℕ, ◌+◌, ◌*◌, ◌/◌, ◌%◌, Bool, cond, ◌&&◌, List, eqb}
use Rattle.little_endian.specs.Bytes.{number_from}
use Rattle.stl_format.specs.Format.{point_from}
use Rattle.stl_table.specs.declared.PointKey.{PointKey}

-- a single's bits, minus zero's as zero's
unfoldable pub zero_unsigned : ℕ → ℕ
zero_unsigned b = cond (eqb b 2147483648) 0 b

unfoldable pub key_at : List ℕ → ℕ → PointKey
unfolding zero_unsigned
key_at s h = record {
  x = zero_unsigned (number_from s (point_from h));
  y = zero_unsigned (number_from s (point_from h + 4));
  z = zero_unsigned (number_from s (point_from h + 8));
}

unfoldable pub same_key : PointKey → PointKey → Bool
same_key a b = eqb a.x b.x && eqb a.y b.y && eqb a.z b.z

unfoldable pub same_at : List ℕ → ℕ → ℕ → Bool
unfolding key_at same_key
same_at s g h = same_key (key_at s g) (key_at s h)

-- the two halves of a product, added
unfoldable pub mixed_key : ℕ → ℕ → ℕ
mixed_key h x = let p = (h + x) % 4294967296 * 2654435769 in (p / 4294967296 + p % 4294967296) % 4294967296

-- one of 131,072 buckets
unfoldable pub key_bucket : PointKey → ℕ
unfolding mixed_key
key_bucket k = mixed_key (mixed_key (mixed_key 0 k.x) k.y) k.z / 32768

unfoldable pub key_bucket_at : List ℕ → ℕ → ℕ
unfolding key_at key_bucket
key_bucket_at s h = key_bucket (key_at s h)
