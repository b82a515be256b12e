-- `elmetzhur_detect` detects once there are places for what it tells, and tells it. Assumes nothing.
use mathlib.Core.Path.{refl}
use mathlib.Core.Logic.{inl, inr}
use Rattle.exports_detect.specs.Tells.{short, told}
use Rattle.exports_detect.proofs.elmetzhur_detect.Goals as goal

pub returns-then-counts-lt1007 : goal.returns-then-counts-lt1007
returns-then-counts-lt1007 c = short (inl c.if-counts-lt1007.true) refl refl refl refl refl

pub returns-then-places-lt279 : goal.returns-then-places-lt279
returns-then-places-lt279 c = short (inr (inl c.if-places-lt279.true)) refl refl refl refl refl

pub returns-then-floats-lt248 : goal.returns-then-floats-lt248
returns-then-floats-lt248 c = short (inr (inr c.if-floats-lt248.true)) refl refl refl refl refl

pub returns : goal.returns
returns c =
    told
    c.if-counts-lt1007.false
    c.if-places-lt279.false
    c.if-floats-lt248.false
    c.detect-done.result.findings
    c.detect-done.result.table
    (rw c.empty-table.ensures at c.detect-done.ensures.0)
    c.detect-done.ensures.1
    c.tell.ensures.1
    c.tell.ensures.2
    c.tell.ensures.3
    c.tell.ensures.0
