-- Sums byte by byte. Assumes nothing.
use Prim.Native.Nat.{ℕ, ◌+◌, ◌*◌, ◌%◌, ◌≤◌, ◌<◌}
use native.Mathlib.Nat.{mul-le-mul}
use native.Mathlib.Numerals.{add-one}
use native.Mathlib.Omega.{arith}
use mathlib.Core.Path.{◌≡◌}
use mathlib.Core.List.{List}
use lib.ListN.{length, get_or, drop, drop_of_length-le}
use lib.Seq.{drop-cons}
use Rattle.vectors.specs.Sums.{modulus, summed}

-- one byte more
pub sum_on : (f n : ℕ) (s : List ℕ) (i : ℕ) → i < length s → summed f ((n * f + get_or s i 0 + 1) % modulus) (drop (i + 1) s) ≡ summed f n (drop i s)
unfolding summed
sum_on f n s i h = rw (add-one i, drop-cons s i 0 h)

-- no byte is left
pub sum_end : (f n : ℕ) (s : List ℕ) (i : ℕ) → length s ≤ i → summed f n (drop i s) ≡ n
unfolding summed
sum_end f n s i h = rw (drop_of_length-le s {i = i} h)

-- a product leaves room for a byte
pub product_fits : {n f : ℕ} → n < modulus → f < 65536 → n * f ≤ 281474976710596 * 65535
product_fits hn hf = mul-le-mul {n₂ = 281474976710596} {m₂ = 65535} (omega arith) (omega arith)
