-- `judge` finds the corners flat by either test, and solves them otherwise. Assumes nothing.
use mathlib.Core.Path.{◌≡◌}
use mathlib.Core.Bool.{true, false}
use lib.Ieee.{lt, of_bits}
use Rattle.floats.specs.Float64.{epsilon}
use Rattle.geometry.specs.Create.{judged, width_den, height_den}
use Rattle.geometry.proofs.create.judge.Goals as goal

pub returns-then-wden : goal.returns-then-wden
unfolding judged of_bits
returns-then-wden c =
    let thin : lt (width_den c.args.c c.args.w) epsilon ≡ true = rw (← c.width_den-wden.ensures) c.if-wden.true in
    rw thin

pub returns-then-hden : goal.returns-then-hden
unfolding judged of_bits
returns-then-hden c =
    let wide : lt (width_den c.args.c c.args.w) epsilon ≡ false = rw (← c.width_den-wden.ensures) c.if-wden.false in
    let low : lt (height_den c.args.c c.args.h) epsilon ≡ true = rw (← c.height_den-hden.ensures) c.if-hden.true in
    rw (wide, low)

pub returns : goal.returns
unfolding judged of_bits
returns c =
    let wide : lt (width_den c.args.c c.args.w) epsilon ≡ false = rw (← c.width_den-wden.ensures) c.if-wden.false in
    let high : lt (height_den c.args.c c.args.h) epsilon ≡ false = rw (← c.height_den-hden.ensures) c.if-hden.false in
    rw (wide, high, c.solved.ensures, c.width_den-wden.ensures, c.height_den-hden.ensures)
