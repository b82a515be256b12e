-- `new` is the scan that is to begin. Assumes nothing.
use mathlib.Core.Path.{refl}
use Rattle.scanner.specs.Scan.{begun}
use Rattle.scanner.proofs.LineScanner.new.Goals as goal

pub returns : goal.returns
unfolding begun
returns c = refl
