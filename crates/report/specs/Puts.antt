-- Text put into a buffer. Definitions alone.
use Rattle.std.specs.Prelude.{ℕ, ◌+◌, ◌≤◌, ◌≡◌, List, length}
use Rattle.std.proofs.lemmas.List.Edits.{sets}

-- the bytes of a text are stored from a place on, one after the other, and nothing else changes; what comes next goes to the place after them. The text has a longest length
pub record Puts (longest : ℕ) (text before : List ℕ) (at : ℕ) (after : List ℕ) (next : ℕ) : Type 0 where
  pub stored : after ≡ sets before at text
  pub place : next ≡ at + length text
  pub short : next ≤ at + longest
