-- `run_end` follows the run of the first pixel's shade. Assumes nothing.
use Rattle.scanner.proofs.RunEnds.{is_light, is_dark}
use Rattle.scanner.proofs.run_end.Goals as goal

pub returns-then-pic-base-eq0 : goal.returns-then-pic-base-eq0
returns-then-pic-base-eq0 c =
    rw (is_light c.args.pic.now c.args.base c.args.x c.if-pic-base-eq0.true) c.end_of.ensures

pub returns : goal.returns
returns c =
    rw (is_dark c.args.pic.now c.args.base c.args.x c.if-pic-base-eq0.false) c.end_of-2.ensures
