-- `rows` refuses what a claim refuses, and else lists. Assumes nothing.
use mathlib.Core.Path.{refl, sym, ap, ◌∙◌}
use Rattle.picture.specs.Verdict.{judged}
use Rattle.told_claims.specs.Rows.{refuses}
use Rattle.told.proofs.Tell.{tell_refused}
use Rattle.told_claims.proofs.rows.rows.Goals as goal

pub put_rows-requires : goal.put_rows-requires
put_rows-requires c = sym c.judge.ensures ∙ ap judged c.in-Ok.is

pub returns-in-Err : goal.returns-in-Err
returns-in-Err c =
    let refused = sym c.judge.ensures ∙ ap judged c.in-Err.is in
    rw c.from.ensures (refuses _ refused refl (tell_refused _ _) (tell_refused _ _))
