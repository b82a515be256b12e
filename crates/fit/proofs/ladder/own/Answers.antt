-- `own` tests the scratch, the table and the group. Assumes nothing.
use native.Mathlib.Nat.{mul-le-mul}
use native.Mathlib.Omega.{arith}
use mathlib.Core.Path.{sym, ◌∙◌}
use borrow.Author.Tests.{lt-ltb, le-ltb}
use Rattle.fit.proofs.ladder.own.Goals as goal

pub overflow_mul-width : goal.overflow_mul-width
overflow_mul-width c = omega (arith, mul-le-mul c.requires.0 c.requires.1)

pub returns-then-scratch-width : goal.returns-then-scratch-width
returns-then-scratch-width c = rw (lt-ltb _ _ c.if-scratch-width.true)

pub returns-then-not-is_sound : goal.returns-then-not-is_sound
returns-then-not-is_sound c = rw (le-ltb _ _ c.if-scratch-width.false, sym c.is_sound.ensures ∙ c.if-not-is_sound.true)

pub returns-then-not-is_taken_whole : goal.returns-then-not-is_taken_whole
returns-then-not-is_taken_whole c =
    rw (le-ltb _ _ c.if-scratch-width.false, sym c.is_sound.ensures ∙ c.if-not-is_sound.false, sym c.is_taken_whole.ensures ∙ c.if-not-is_taken_whole.true)

pub returns : goal.returns
returns c =
    rw (le-ltb _ _ c.if-scratch-width.false, sym c.is_sound.ensures ∙ c.if-not-is_sound.false, sym c.is_taken_whole.ensures ∙ c.if-not-is_taken_whole.false)
