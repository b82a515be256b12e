-- `keep` writes only among the pixels. Assumes nothing.
use mathlib.Core.Path.{sym, subst}
use Rattle.netpbm.specs.Machine.{kept, Bounded}
use Rattle.netpbm.proofs.Steps.{other_keeps}
use Rattle.netpbm.proofs.step.keep.Goals as goal

pub keep_in-requires : goal.keep_in-requires
keep_in-requires c = (subst Bounded c.in-Pixels.is c.requires.0, c.requires.1)

pub returns-in-Pixels : goal.returns-in-Pixels
unfolding kept
returns-in-Pixels c = rw c.in-Pixels.is c.keep_in.ensures

pub returns-in_default : goal.returns-in_default
returns-in_default c = sym (other_keeps c.args.reader _ _ c.in_default.not-Pixels)
