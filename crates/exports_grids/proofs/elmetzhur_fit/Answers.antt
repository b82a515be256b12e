-- `elmetzhur_fit` fits once there are places for what it tells, and tells it. Assumes nothing.
use mathlib.Core.Path.{refl}
use mathlib.Core.Logic.{inl, inr}
use Rattle.exports_grids.specs.Tells.{short, told}
use Rattle.exports_grids.proofs.elmetzhur_fit.Goals as goal

pub returns-then-counts-lt1006 : goal.returns-then-counts-lt1006
returns-then-counts-lt1006 c = short (inl c.if-counts-lt1006.true) refl refl refl refl

pub returns-then-places-lt30 : goal.returns-then-places-lt30
returns-then-places-lt30 c = short (inr (inl c.if-places-lt30.true)) refl refl refl refl

pub returns-then-floats-lt8 : goal.returns-then-floats-lt8
returns-then-floats-lt8 c = short (inr (inr c.if-floats-lt8.true)) refl refl refl refl

pub returns : goal.returns
returns c =
    told
    c.if-counts-lt1006.false
    c.if-places-lt30.false
    c.if-floats-lt8.false
    c.fit_group-fitted.result.fit
    c.fit_group-fitted.result.table
    (rw (c.table_of-table.ensures, c.group_of-group.ensures) at c.fit_group-fitted.ensures)
    c.tell.ensures.1
    c.tell.ensures.2
    c.tell.ensures.0
