-- `size_estimate` states the two corners, and estimates by them; the first refusal stands. Assumes nothing.
use Rattle.std.proofs.lemmas.Result.{err_from_is_err_and}
use mathlib.Core.Path.{◌≡◌, sym, ap, ◌∙◌}
use lib.Ieee.{of_bits}
use Rattle.refusals.specs.Finding.{found, refused_by}
use Rattle.stated.specs.Stated.{meaning}
use Rattle.stated.proofs.Reach.{stated_near}
use Rattle.alignment.specs.Estimate.{estimate_between, corner_down, corner_right, estimate_of}
use Rattle.alignment.proofs.estimate.size_estimate.Goals as goal

pub estimate_by-requires-clause-fact_2 : goal.estimate_by-requires-clause-fact_2
unfolding corner_down of_bits
estimate_by-requires-clause-fact_2 c =
    let down : meaning c.state.result ≡ corner_down c.args.c0 c.args.seed = rw (← c.unmap-p.ensures) c.state.ensures in
    let at_down : corner_down c.args.c0 c.args.seed ≡ found c.in_ok-a.a = sym (down) ∙ ap meaning c.in_ok-a.was in
    (stated_near _ _ (at_down)).1

pub estimate_by-requires-clause-fact_3 : goal.estimate_by-requires-clause-fact_3
unfolding corner_right of_bits
estimate_by-requires-clause-fact_3 c =
    let right : meaning c.state-2.result ≡ corner_right c.args.c2 c.args.seed = rw (← c.unmap-q.ensures) c.state-2.ensures in
    let at_right : corner_right c.args.c2 c.args.seed ≡ found c.in_ok-c.c = sym (right) ∙ ap meaning c.in_ok-c.was in
    (stated_near _ _ (at_right)).1

pub returns-in_err-a : goal.returns-in_err-a
unfolding estimate_of estimate_between corner_down of_bits
returns-in_err-a c =
    let down : meaning c.state.result ≡ corner_down c.args.c0 c.args.seed = rw (← c.unmap-p.ensures) c.state.ensures in
    let no_down : corner_down c.args.c0 c.args.seed ≡ refused_by c.in_err-a.field-0.0 = sym (down) ∙ ap meaning c.in_err-a.was in
    let p = err_from_is_err_and c.from_residual.result c.from_residual.ensures.1 in
    rw (p.1, p.2, no_down)

pub returns-in_err-c : goal.returns-in_err-c
unfolding estimate_of estimate_between corner_down corner_right of_bits
returns-in_err-c c =
    let down : meaning c.state.result ≡ corner_down c.args.c0 c.args.seed = rw (← c.unmap-p.ensures) c.state.ensures in
    let at_down : corner_down c.args.c0 c.args.seed ≡ found c.in_ok-a.a = sym (down) ∙ ap meaning c.in_ok-a.was in
    let right : meaning c.state-2.result ≡ corner_right c.args.c2 c.args.seed = rw (← c.unmap-q.ensures) c.state-2.ensures in
    let no_right : corner_right c.args.c2 c.args.seed ≡ refused_by c.in_err-c.field-0.0 = sym (right) ∙ ap meaning c.in_err-c.was in
    let p = err_from_is_err_and c.from_residual-in_err-c.result c.from_residual-in_err-c.ensures.1 in
    rw (p.1, p.2, at_down, no_right)

pub returns : goal.returns
unfolding estimate_of estimate_between corner_down corner_right of_bits
returns c =
    let down : meaning c.state.result ≡ corner_down c.args.c0 c.args.seed = rw (← c.unmap-p.ensures) c.state.ensures in
    let at_down : corner_down c.args.c0 c.args.seed ≡ found c.in_ok-a.a = sym (down) ∙ ap meaning c.in_ok-a.was in
    let right : meaning c.state-2.result ≡ corner_right c.args.c2 c.args.seed = rw (← c.unmap-q.ensures) c.state-2.ensures in
    let at_right : corner_right c.args.c2 c.args.seed ≡ found c.in_ok-c.c = sym (right) ∙ ap meaning c.in_ok-c.was in
    rw (at_down, at_right) c.estimate_by.ensures
