-- `finish` looks where the end leads. Assumes nothing.
use mathlib.Core.Path.{sym, ap, subst, ◌∙◌}
use Rattle.netpbm.specs.Machine.{ended_in, Bounded}
use Rattle.std.proofs.Common.{None}
use Rattle.netpbm.proofs.Steps.{stepped_bounded, other_ends}
use Rattle.netpbm.proofs.Told.{told}
use Rattle.netpbm.proofs.finish.Goals as goal

pub ended-requires : goal.ended-requires
ended-requires c = subst Bounded (sym c.step-end.ensures ∙ c.in-Pixels.is) (stepped_bounded _ _ c.requires)

pub returns-in-Pixels : goal.returns-in-Pixels
unfolding ended_in
returns-in-Pixels c file pixels R =
    told file pixels c.args.reader c.ended.result
    (ap ended_in (sym c.step-end.ensures ∙ c.in-Pixels.is) ∙ sym c.ended.ensures) R

pub returns-in_default : goal.returns-in_default
returns-in_default c file pixels R =
    told file pixels c.args.reader None (ap ended_in (sym c.step-end.ensures) ∙ other_ends c.step-end.result c.in_default.not-Pixels) R
