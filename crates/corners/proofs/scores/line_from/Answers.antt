-- `line_from` computes two differences, which are small enough. Assumes nothing.
use borrow.Author.Rules.{rules}
use Rattle.corners.specs.Scores.{line_from}
use Rattle.corners.proofs.Signed.{is_back}
use Rattle.corners.proofs.Small.{is_way, way_fits}
use Rattle.corners.proofs.scores.line_from.Goals as goal

pub overflow_sub-result : goal.overflow_sub-result
overflow_sub-result c = search (rules, way_fits)

pub overflow_sub-result-2 : goal.overflow_sub-result-2
overflow_sub-result-2 c = search (rules, way_fits)

pub returns : goal.returns
unfolding line_from
returns c =
    rw (
      is_back (is_way c.args.q.x c.args.p.x c.requires.fact_2.x_low c.requires.fact_1.x_low),
      is_back (is_way c.args.q.y c.args.p.y c.requires.fact_2.y_low c.requires.fact_1.y_low),
    )
