-- The sum of a list of bytes. Definitions alone.
use Rattle.std.specs.Prelude.{ℕ, ◌+◌, ◌*◌, ◌%◌, List, [], ◌∷◌}

-- 2^48 - 59, a prime
abbrev pub modulus : ℕ
modulus = 281474976710597

-- bytes that follow others, which have this sum: each makes factor times the sum, itself and 1, modulo the prime
unfoldable pub summed : ℕ → ℕ → List ℕ → ℕ
summed f n [] = n
summed f n (b ∷ s) = summed f ((n * f + b + 1) % modulus) s
