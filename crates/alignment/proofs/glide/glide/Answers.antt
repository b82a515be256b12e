-- `glide` goes from pass to pass, until a glance does not settle one, or the leg is too long. Assumes nothing.
use native.Mathlib.Nat.{mul-le-mul}
use native.Mathlib.Omega.{arith}
use Rattle.alignment.proofs.Gliding.{way_begun, way_far, way_less, way_unsure, way_moves, way_stays}
use Rattle.alignment.proofs.glide.glide.Goals as goal

pub loop-pass-init : goal.loop-pass-init
loop-pass-init c = way_begun c.requires.3 c.requires.1 c.requires.2

pub overflow_mul-pass : goal.overflow_mul-pass
overflow_mul-pass c = omega (arith, mul-le-mul c.loop-pass.invariant.turning.step_low c.loop-pass.invariant.turning.step_low)

pub glance_at-requires : goal.glance_at-requires
glance_at-requires c = c.requires.0

pub moved-at-requires : goal.moved-at-requires
moved-at-requires c = (omega (arith, c.loop-pass.invariant.near.x_low), omega (arith, c.loop-pass.invariant.near.y_low))

pub next-pass-requires : goal.next-pass-requires
next-pass-requires c = c.loop-pass.invariant.turning

pub loop-pass-smaller-in-Moves : goal.loop-pass-smaller-in-Moves
loop-pass-smaller-in-Moves c = rw c.next-pass.ensures (way_less c.loop-pass.invariant c.loop-pass-test.true)

pub loop-pass-preserved-in-Moves : goal.loop-pass-preserved-in-Moves
loop-pass-preserved-in-Moves c =
    rw (c.next-pass.ensures, c.moved-at.ensures) (way_moves c.loop-pass.invariant c.loop-pass-test.true c.glance_at.ensures c.in-Moves.is)

pub next-pass-requires-in-Stays : goal.next-pass-requires-in-Stays
next-pass-requires-in-Stays c = c.loop-pass.invariant.turning

pub loop-pass-smaller : goal.loop-pass-smaller
loop-pass-smaller c = rw c.next-pass-in-Stays.ensures (way_less c.loop-pass.invariant c.loop-pass-test.true)

pub loop-pass-preserved : goal.loop-pass-preserved
loop-pass-preserved c =
    rw c.next-pass-in-Stays.ensures (way_stays c.loop-pass.invariant c.loop-pass-test.true c.glance_at.ensures c.in-Stays.is)

pub returns-in-Unsure : goal.returns-in-Unsure
returns-in-Unsure c =
    way_unsure c.loop-pass.invariant c.loop-pass-test.true c.glance_at.ensures c.in-Unsure.is

pub returns : goal.returns
returns c = way_far c.loop-pass.invariant c.loop-pass-test.false
