-- `read_word` reads digit after digit: the digits that are left lead where the whole word leads. Assumes nothing.
use Prim.Native.Nat.{◌-◌}
use mathlib.Core.Path.{◌≡◌}
use Rattle.vectors.specs.Words.{read_on, word_at}
use Rattle.vectors.proofs.Digits.{Room}
use Rattle.vectors.proofs.words.read_word.Given as goal

abbrev pub invariant-loop-next : goal.invariant-loop-next
invariant-loop-next l = Room (l.end - l.next) l.value × (read_on (l.end - l.next) l.text l.value l.next ≡ word_at l.text l.at)
