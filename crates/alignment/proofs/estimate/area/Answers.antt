-- `area` asks how far a lies beside the line from the seed to c. Assumes nothing.
use mathlib.Core.Path.{◌≡◌, sym, ap, ◌∙◌, subst}
use lib.IntN.{nat_abs}
use mir.Syntax.{w32}
use mir.Val.{to_z, of_z}
use borrow.Author.Rules.{rules}
use Rattle.sizes.proofs.Size.{read_back}
use Rattle.corners.specs.Scores.{Direction, line_from}
use Rattle.corners.proofs.Small.{way_direction}
use Rattle.groups.specs.Side.{side_of}
use Rattle.alignment.proofs.Areas.{area_is, area_low}
use Rattle.alignment.proofs.estimate.area.Goals as goal

pub side_of-requires : goal.side_of-requires
side_of-requires c =
    record { fact_1 = c.requires.fact_1; fact_2 = subst Direction (sym c.line_from-way.ensures) (way_direction c.requires.fact_1 c.requires.fact_3); fact_3 = search rules }

pub unsigned_abs-requires : goal.unsigned_abs-requires
unsigned_abs-requires c =
    let side : to_z w32 (of_z w32 c.side_of.result) ≡ side_of c.args.seed (line_from c.args.seed c.args.c) c.args.a = read_back c.side_of.result c.side_of.type_inv ∙ c.side_of.ensures ∙ ap (λ d. side_of c.args.seed d c.args.a) c.line_from-way.ensures in
    rw (side) (area_low _ _ _ c.requires.fact_1 c.requires.fact_2 c.requires.fact_3)

pub returns : goal.returns
returns c =
    let side : to_z w32 (of_z w32 c.side_of.result) ≡ side_of c.args.seed (line_from c.args.seed c.args.c) c.args.a = read_back c.side_of.result c.side_of.type_inv ∙ c.side_of.ensures ∙ ap (λ d. side_of c.args.seed d c.args.a) c.line_from-way.ensures in
    c.unsigned_abs.ensures ∙ ap nat_abs (side) ∙ area_is _ _ _
