-- `read_word` reads digit after digit: the digits that are left lead where the whole word leads. Assumes nothing.
use Prim.Native.Nat.{◌+◌, ◌-◌}
use native.Mathlib.Omega.{arith}
use borrow.Author.Rules.{rules}
use mathlib.Core.Path.{◌≡◌, sym, ◌∙◌}
use lib.ListN.{length}
use borrow.Author.Tests.{le-leb, lt-leb}
use Rattle.vectors.specs.Words.{word_at}
use Rattle.vectors.proofs.Digits.{ends_at, ends_here, goes_on, room_now, room_on}
use Rattle.vectors.proofs.words.read_word.Goals as goal

pub returns-then-at-text : goal.returns-then-at-text
unfolding word_at
returns-then-at-text c = rw (le-leb (length c.args.text.now) c.args.at c.if-at-text.true)

pub loop-next-init : goal.loop-next-init
unfolding word_at
loop-next-init c =
    let sixteen : c.args.at + 17 - (c.args.at + 1) ≡ 16 = omega arith in
    rw sixteen (omega arith, rw (lt-leb (length c.args.text.now) c.args.at c.if-at-text.false))

pub returns-then-digit-gt15 : goal.returns-then-digit-gt15
returns-then-digit-gt15 c =
    sym (ends_at (c.args.at + 17 - c.loop-next.next) _ c.loop-next.value c.loop-next.next (rw (← c.digit_at-digit.ensures.0) c.if-digit-gt15.true)) ∙ c.loop-next.invariant.1

pub overflow_mul-value : goal.overflow_mul-value
overflow_mul-value c =
    let now = room_now (c.args.at + 17 - c.loop-next.next) c.loop-next.value (search rules) c.loop-next.invariant.0 in
    omega arith

pub overflow_add-value : goal.overflow_add-value
overflow_add-value c =
    let now = room_now (c.args.at + 17 - c.loop-next.next) c.loop-next.value (search rules) c.loop-next.invariant.0 in
    omega arith

pub loop-next-preserved : goal.loop-next-preserved
loop-next-preserved c =
    let one : c.args.at + 17 - (c.loop-next.next + 1) ≡ c.args.at + 17 - c.loop-next.next - 1 = omega arith in
    rw one (room_on (c.args.at + 17 - c.loop-next.next) c.loop-next.value c.digit_at-digit.result (search rules) (omega arith) c.loop-next.invariant.0, rw c.digit_at-digit.ensures.0 (sym (goes_on (c.args.at + 17 - c.loop-next.next) _ c.loop-next.value c.loop-next.next (search rules) (rw (← c.digit_at-digit.ensures.0) (omega arith))) ∙ c.loop-next.invariant.1))

pub returns : goal.returns
returns c =
    let all : c.loop-next.next ≡ c.args.at + 17 = omega arith in
    rw (← all) (sym (ends_here (c.args.at + 17 - c.loop-next.next) _ c.loop-next.value c.loop-next.next (omega arith)) ∙ c.loop-next.invariant.1)
