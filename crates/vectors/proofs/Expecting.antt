-- What a comparison of one word comes to. Assumes nothing.
use Prim.Native.Nat.{ℕ}
use mathlib.Core.Path.{◌≡◌}
use mathlib.Core.Bool.{false}
use mathlib.Core.List.{List}
use borrow.Author.Tests.{eq-eqb, ne_eqb}
use Rattle.vectors.specs.Words.{word_at}
use Rattle.vectors.specs.Checks.{expected}
use Rattle.vectors.specs.declared.checks.Check.{Check}
use Rattle.vectors.specs.declared.words.Word.{Word}

-- the word says the number
pub expect_same : (s : List ℕ) (c : Check) (w : Word) (n : ℕ) → w ≡ word_at s c.at → w.value ≡ n → record { at = w.next; same = c.same } ≡ expected s c n
unfolding expected
expect_same s c w n e same = rw (← e, eq-eqb w.value n same)

-- it says another
pub expect_other : (s : List ℕ) (c : Check) (w : Word) (n : ℕ) → w ≡ word_at s c.at → (w.value ≡ n → ⊥) → record { at = w.next; same = false } ≡ expected s c n
unfolding expected
expect_other s c w n e other = rw (← e, ne_eqb w.value n other)
