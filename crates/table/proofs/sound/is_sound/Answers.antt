-- `is_sound` is the test of refusal 9, a part after the other. Assumes nothing.
use Prim.Native.Nat.{◌≤◌}
use native.Mathlib.Omega.{arith}
use mathlib.Core.Path.{◌≡◌, sym, ◌∙◌}
use lib.ListN.{length}
use borrow.Author.Rules.{rules}
use borrow.Author.Tests.{le-leb, lt-leb}
use Rattle.table.specs.Sound.{sound_test}
use Rattle.table.proofs.sound.is_sound.Goals as goal

pub returns-then-n-gt251 : goal.returns-then-n-gt251
unfolding sound_test
returns-then-n-gt251 c = rw (lt-leb _ 251 c.if-n-gt251.true)

pub once_each-requires : goal.once_each-requires
once_each-requires c =
    let age : length c.args.t.age ≡ 251 = search rules in
    (omega arith, omega arith)

pub returns-then-not-once_each : goal.returns-then-not-once_each
unfolding sound_test
returns-then-not-once_each c =
    let few : c.args.t.n ≤ 251 = omega arith in
    rw (le-leb _ 251 few, sym c.once_each.ensures ∙ c.if-not-once_each.true)

pub returns : goal.returns
unfolding sound_test
returns c =
    let few : c.args.t.n ≤ 251 = omega arith in
    rw (le-leb _ 251 few, sym c.once_each.ensures ∙ c.if-not-once_each.false) c.all_inside.ensures
