-- `own` gives the first that applies of 9, 6, 10. Assumes nothing.
use native.Mathlib.Omega.{arith}
use mathlib.Core.Path.{sym, ◌∙◌}
use borrow.Author.Tests.{eq-eqb, ne_eqb}
use Rattle.pieces.proofs.Index.{in_picture}
use Rattle.regions.proofs.ladder.own.Goals as goal

pub returns-then-not-is_sound : goal.returns-then-not-is_sound
returns-then-not-is_sound c = rw (sym c.is_sound.ensures ∙ c.if-not-is_sound.true)

pub overflow_mul-base : goal.overflow_mul-base
overflow_mul-base c =
    omega (arith, in_picture c.args.width c.args.height c.args.pic.now c.requires.0.whole c.args.x c.args.y c.requires.1 c.requires.2)

pub overflow_add-byte : goal.overflow_add-byte
overflow_add-byte c =
    omega (arith, in_picture c.args.width c.args.height c.args.pic.now c.requires.0.whole c.args.x c.args.y c.requires.1 c.requires.2)

pub bounds-pic-base : goal.bounds-pic-base
bounds-pic-base c =
    in_picture c.args.width c.args.height c.args.pic.now c.requires.0.whole c.args.x c.args.y c.requires.1 c.requires.2

pub returns-then-byte-eq0 : goal.returns-then-byte-eq0
returns-then-byte-eq0 c = rw (sym c.is_sound.ensures ∙ c.if-not-is_sound.false, eq-eqb _ 0 c.if-byte-eq0.true)

pub returns-then-is_unlisted : goal.returns-then-is_unlisted
returns-then-is_unlisted c =
    rw (
      sym c.is_sound.ensures ∙ c.if-not-is_sound.false,
      ne_eqb _ 0 c.if-byte-eq0.false,
      sym c.is_unlisted.ensures ∙ c.if-is_unlisted.true,
    )

pub returns : goal.returns
returns c =
    rw (
      sym c.is_sound.ensures ∙ c.if-not-is_sound.false,
      ne_eqb _ 0 c.if-byte-eq0.false,
      sym c.is_unlisted.ensures ∙ c.if-is_unlisted.false,
    )
