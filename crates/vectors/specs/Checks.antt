-- Answers compared with a recorded case. Definitions alone.
use Rattle.std.specs.Prelude.{ℕ, Bool, false, cond, ◌&&◌, List, eqb, ltb, length, get_or}
use Rattle.vectors.specs.Words.{word_at}
use Rattle.vectors.specs.Sums.{summed}
use Rattle.vectors.specs.declared.checks.Check.{Check}

-- the next word says this number, or the case differs; either way the comparison goes on behind it
unfoldable pub expected : List ℕ → Check → ℕ → Check
expected s c n = record { at = (word_at s c.at).next; same = cond (eqb (word_at s c.at).value n) c.same false }

-- the next two words say the sums of a picture, by two factors
unfoldable pub summed_up : List ℕ → List ℕ → Check → Check
summed_up s p c = expected s (expected s c (summed 65521 0 p)) (summed 64661 0 p)

-- all was the same, and a line feed stands here
unfoldable pub ended : List ℕ → Check → Bool
ended s c = c.same && (ltb c.at (length s) && eqb (get_or s c.at 0) 10)
