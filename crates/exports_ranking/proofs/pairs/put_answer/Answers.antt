-- `put_answer` writes a count, or tells a refusal's number. Assumes nothing.
use borrow.Author.Rules.{rules}
use Rattle.exports_ranking.specs.Ranks.{status_of, count_put}
use Rattle.exports_ranking.proofs.pairs.put_answer.Goals as goal

pub returns-in-Ok : goal.returns-in-Ok
unfolding count_put status_of
returns-in-Ok c =
    rw c.in-Ok.is c.put_count.ensures

pub returns-in-Err : goal.returns-in-Err
unfolding count_put status_of
returns-in-Err c = search rules
