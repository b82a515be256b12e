-- `rotate_group` turns the three stones in their order, and refuses at the first that is flat. Assumes nothing.
use mathlib.Core.Path.{sym, ap, ◌∙◌}
use Rattle.groups.specs.Turn as turn
use Rattle.groups.specs.Rotate.{gathered, rotated_group}
use Rattle.groups.proofs.rotating.rotate_group.Goals as goal

pub returns-in_err-first : goal.returns-in_err-first
unfolding rotated_group gathered
returns-in_err-first c =
    let flat = sym c.rotate_capstone.ensures ∙ ap turn.meaning c.in_err-first.was in
    rw (c.from_residual.ensures, flat)

pub returns-in_err-second : goal.returns-in_err-second
unfolding rotated_group gathered
returns-in_err-second c =
    let first = sym c.rotate_capstone.ensures ∙ ap turn.meaning c.in_ok-first.was in
    let flat = sym c.rotate_capstone-2.ensures ∙ ap turn.meaning c.in_err-second.was in
    rw (c.from_residual-in_err-second.ensures, first, flat)

pub returns-in_err-third : goal.returns-in_err-third
unfolding rotated_group gathered
returns-in_err-third c =
    let first = sym c.rotate_capstone.ensures ∙ ap turn.meaning c.in_ok-first.was in
    let second = sym c.rotate_capstone-2.ensures ∙ ap turn.meaning c.in_ok-second.was in
    let flat = sym c.rotate_capstone-3.ensures ∙ ap turn.meaning c.in_err-third.was in
    rw (c.from_residual-in_err-third.ensures, first, second, flat)

pub returns : goal.returns
unfolding rotated_group gathered
returns c =
    let first = sym c.rotate_capstone.ensures ∙ ap turn.meaning c.in_ok-first.was in
    let second = sym c.rotate_capstone-2.ensures ∙ ap turn.meaning c.in_ok-second.was in
    let third = sym c.rotate_capstone-3.ensures ∙ ap turn.meaning c.in_ok-third.was in
    rw (first, second, third)
