-- Where a stretch of a line ends. Definitions alone.
-- Throughout, p is the picture; the line starts at base, and n columns of it are looked at, from x on.
use Rattle.std.specs.Prelude.{ℕ, zero, suc, ◌+◌, List, true, false, get_or, eqb}

-- the first column that shows the byte f, the one after them all where none does
unfoldable pub past_others : List ℕ → ℕ → ℕ → ℕ → ℕ → ℕ
past_others p base f x zero = x
past_others p base f x (suc n) = elim (eqb (get_or p (base + x) 0) f) [ true ↦ x | false ↦ past_others p base f (suc x) n ]

-- the first that shows another byte
unfoldable pub past_run : List ℕ → ℕ → ℕ → ℕ → ℕ → ℕ
past_run p base f x zero = x
past_run p base f x (suc n) = elim (eqb (get_or p (base + x) 0) f) [ true ↦ past_run p base f (suc x) n | false ↦ x ]
