-- `has_cut` asks a scan from the line's beginning whether it comes to a cut. Assumes nothing.
use mathlib.Core.Path.{◌∙◌}
use Rattle.scanner.proofs.Ahead.{begun_on}
use Rattle.scanner.proofs.NextLine.{comes_some}
use Rattle.scanner.proofs.lines.has_cut.Goals as goal

pub advance-requires : goal.advance-requires
advance-requires c = (rw c.new.ensures (begun_on _), c.requires.0, c.requires.1)

pub returns : goal.returns
returns c = c.is_some.ensures ∙ comes_some c.new.ensures c.advance.ensures
