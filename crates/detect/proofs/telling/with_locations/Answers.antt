-- `with_locations` takes the bounds of what is located, where nothing is refused. Assumes nothing.
use Rattle.std.proofs.lemmas.Result.{err_from_is_err_and}
use mathlib.Core.Path.{ap}
use Rattle.laid.specs.Laid.{told}
use Rattle.detect.specs.Telling.{tells, tells_located}
use Rattle.detect.proofs.telling.with_locations.Goals as goal

pub returns-in_err-found : goal.returns-in_err-found
unfolding told tells_located
returns-in_err-found c =
    let p = err_from_is_err_and c.from_residual.result c.from_residual.ensures.1 in
    (rw (p.1, p.2, c.in_err-found.was), rw p.1 tt)

pub returns-in_err-bounded : goal.returns-in_err-bounded
unfolding told tells tells_located
returns-in_err-bounded c =
    let p = err_from_is_err_and c.from_residual-in_err-bounded.result c.from_residual-in_err-bounded.ensures.1 in
    (rw (p.1, p.2, c.in_ok-found.was) (ap (tells c.args.stones) c.in_err-bounded.ensures.0), rw p.1 tt)

pub returns : goal.returns
unfolding told tells tells_located
returns c = (rw c.in_ok-found.was (ap (tells c.args.stones) c.in_ok-bounded.ensures.0), c.in_ok-bounded.ensures.1)
