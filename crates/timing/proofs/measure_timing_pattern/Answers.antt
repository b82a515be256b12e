-- `measure_timing_pattern` states the three ends, and measures between them; the first refusal stands. Assumes nothing.
use Rattle.std.proofs.lemmas.Result.{err_from_is_err_and}
use mathlib.Core.Path.{◌≡◌, sym, ap, ◌∙◌}
use lib.Ieee as Ieee
use lib.Ieee.{Float, of_bits}
use Rattle.std.specs.Prelude.{Result, Ok}
use Rattle.refusals.specs.declared.Refusal.{Refusal}
use Rattle.points.specs.Range.{Near}
use Rattle.points.specs.declared.Point.{Point}
use Rattle.geometry.specs.declared.Perspective.{Perspective}
use Rattle.refusals.specs.Finding.{found, refused_by}
use Rattle.stated.specs.Stated.{meaning, stated_at}
use Rattle.stated.proofs.Reach.{stated_near}
use Rattle.cells.specs.Cell.{middle}
use Rattle.timing.specs.Measure.{measured_between, measured_of}
use Rattle.timing.proofs.measure_timing_pattern.Goals as goal

-- a point that was stated is near
stated_is_near : (c : Perspective) (u v : Float) (r : Result Point Refusal) (p : Point) → r ≡ Ok p → meaning r ≡ stated_at c u v → Near p
stated_is_near c u v r p is at = (stated_near _ _ (sym at ∙ ap meaning is)).1

pub size_between-requires-clause-fact_2 : goal.size_between-requires-clause-fact_2
size_between-requires-clause-fact_2 c =
    let end0 = c.in_ok-p0.was in
    let end1 = c.in_ok-p1.was in
    let end2 = c.in_ok-p2.was in
    search stated_is_near

pub size_between-requires-clause-fact_3 : goal.size_between-requires-clause-fact_3
size_between-requires-clause-fact_3 c =
    let end0 = c.in_ok-p0.was in
    let end1 = c.in_ok-p1.was in
    let end2 = c.in_ok-p2.was in
    search stated_is_near

pub size_between-requires-clause-fact_4 : goal.size_between-requires-clause-fact_4
size_between-requires-clause-fact_4 c =
    let end0 = c.in_ok-p0.was in
    let end1 = c.in_ok-p1.was in
    let end2 = c.in_ok-p2.was in
    search stated_is_near

pub returns-in_err-p0 : goal.returns-in_err-p0
unfolding measured_of measured_between Ieee.add Ieee.of_int of_bits
returns-in_err-p0 c =
    let no0 : stated_at c.args.c0 (middle 6) (middle 0) ≡ refused_by c.in_err-p0.field-0.0 = sym c.state.ensures ∙ ap meaning c.in_err-p0.was in
    let p = err_from_is_err_and c.from_residual.result c.from_residual.ensures.1 in
    rw (p.1, p.2, no0)

pub returns-in_err-p1 : goal.returns-in_err-p1
unfolding measured_of measured_between Ieee.add Ieee.of_int of_bits
returns-in_err-p1 c =
    let at0 : stated_at c.args.c0 (middle 6) (middle 0) ≡ found c.in_ok-p0.p0 = sym c.state.ensures ∙ ap meaning c.in_ok-p0.was in
    let no1 : stated_at c.args.c1 (middle 6) (middle 6) ≡ refused_by c.in_err-p1.field-0.0 = sym c.state-2.ensures ∙ ap meaning c.in_err-p1.was in
    let p = err_from_is_err_and c.from_residual-in_err-p1.result c.from_residual-in_err-p1.ensures.1 in
    rw (p.1, p.2, at0, no1)

pub returns-in_err-p2 : goal.returns-in_err-p2
unfolding measured_of measured_between Ieee.add Ieee.of_int of_bits
returns-in_err-p2 c =
    let at0 : stated_at c.args.c0 (middle 6) (middle 0) ≡ found c.in_ok-p0.p0 = sym c.state.ensures ∙ ap meaning c.in_ok-p0.was in
    let at1 : stated_at c.args.c1 (middle 6) (middle 6) ≡ found c.in_ok-p1.p1 = sym c.state-2.ensures ∙ ap meaning c.in_ok-p1.was in
    let no2 : stated_at c.args.c2 (middle 0) (middle 6) ≡ refused_by c.in_err-p2.field-0.0 = sym c.state-3.ensures ∙ ap meaning c.in_err-p2.was in
    let p = err_from_is_err_and c.from_residual-in_err-p2.result c.from_residual-in_err-p2.ensures.1 in
    rw (p.1, p.2, at0, at1, no2)

pub returns : goal.returns
unfolding measured_of measured_between Ieee.add Ieee.of_int of_bits
returns c =
    let at0 : stated_at c.args.c0 (middle 6) (middle 0) ≡ found c.in_ok-p0.p0 = sym c.state.ensures ∙ ap meaning c.in_ok-p0.was in
    let at1 : stated_at c.args.c1 (middle 6) (middle 6) ≡ found c.in_ok-p1.p1 = sym c.state-2.ensures ∙ ap meaning c.in_ok-p1.was in
    let at2 : stated_at c.args.c2 (middle 0) (middle 6) ≡ found c.in_ok-p2.p2 = sym c.state-3.ensures ∙ ap meaning c.in_ok-p2.was in
    rw (at0, at1, at2) c.size_between.ensures
