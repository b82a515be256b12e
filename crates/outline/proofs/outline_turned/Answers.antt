-- `outline_turned` goes by what the timing pattern tells. Assumes nothing.
use Rattle.std.proofs.lemmas.Result.{err_from_is_err_and}
use mathlib.Core.Path.{sym, ap, ◌∙◌}
use Rattle.timing.specs.Measure as timing
use Rattle.outline.specs.Outline.{measured_outline, sized_outline}
use Rattle.outline.proofs.outline_turned.Goals as goal

pub returns-in_err-size : goal.returns-in_err-size
unfolding sized_outline measured_outline
returns-in_err-size c =
    let at = sym c.measure_timing_pattern.ensures ∙ ap timing.meaning c.in_err-size.was in
    let p = err_from_is_err_and c.from_residual.result c.from_residual.ensures.1 in
    rw (p.1, p.2, at)

pub returns : goal.returns
unfolding sized_outline measured_outline
returns c =
    let at = sym c.measure_timing_pattern.ensures ∙ ap timing.meaning c.in_ok-size.was in
    rw at c.with_size.ensures
