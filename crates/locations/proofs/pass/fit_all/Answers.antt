-- `fit_all` goes from group to group, until they end or one is refused. Assumes nothing.
use native.Mathlib.Nat.{le_refl}
use native.Mathlib.Omega.{arith}
use mathlib.Core.Path.{◌≡◌, refl, sym, ◌∙◌}
use lib.ListN.{length}
use borrow.Author.Rules.{rules}
use Rattle.table.proofs.Exact.{sound_exact}
use Rattle.table.proofs.Kept.{Proper}
use Rattle.setups.proofs.Known.{remembers_after}
use Rattle.laid.specs.Laid.{told}
use Rattle.locations.proofs.Passing.{groups_begin, array_end, array_stop, array_next, next_workable}
use Rattle.locations.proofs.pass.fit_all.Goals as goal

pub loop-k-init : goal.loop-k-init
unfolding told
loop-k-init c =
    let entries : length c.args.table.entries ≡ 251 = c.well_formed.1.1.1.1.0.1.1.0.1.0.1 in
    let age : length c.args.table.age ≡ 251 = search rules in
    let proper : Proper c.args.table c.args.width c.args.height = record { entries = entries; age = age; sound = (sound_exact c.args.table c.args.width c.args.height (omega (arith, age))).0 c.requires.0.sound } in
    (groups_begin c.none-sofar.result (rw c.none-sofar.ensures.2 (proper)) c.none-sofar.ensures.0 c.none-sofar.ensures.1 refl, omega arith, refl, refl)

pub fit_one-sofar-requires : goal.fit_one-sofar-requires
fit_one-sofar-requires c =
    (next_workable c.requires.0 c.loop-k.invariant.0.kept (omega (arith, c.loop-k.invariant.3)), c.requires.2 c.loop-k.k c.loop-k-test.true, c.loop-k.invariant.0.held, omega (arith, c.loop-k.invariant.0.few, c.loop-k-test.true, c.requires.1), remembers_after _ _ c.loop-k.invariant.0.kept.white (c.requires.3 c.loop-k.k))

pub returns-then-not-is_sound : goal.returns-then-not-is_sound
returns-then-not-is_sound c =
    let long : length c.args.groups ≡ 31 = search rules in
    let stops = sym c.is_sound.ensures ∙ c.if-not-is_sound.true in
    let F = array_stop c.args.groups c.args.n (omega (arith, long, c.requires.1)) c.loop-k.invariant.0 c.loop-k-test.true c.fit_one-sofar.ensures stops in
    (rw c.none-sofar.ensures.2 at F, c.fit_one-sofar.ensures.laid)

pub loop-k-preserved : goal.loop-k-preserved
loop-k-preserved c =
    let long : length c.args.groups ≡ 31 = search rules in
    let goes = sym c.is_sound.ensures ∙ c.if-not-is_sound.false in
    let W = next_workable c.requires.0 c.loop-k.invariant.0.kept (le_refl _) in (
      array_next c.args.groups c.args.n (omega (arith, long, c.requires.1)) c.loop-k.invariant.0 c.loop-k-test.true c.fit_one-sofar.ensures W.roomy (c.requires.2 c.loop-k.k c.loop-k-test.true) goes,
      omega arith,
      omega (arith, c.loop-k.invariant.2, c.fit_one-sofar.auto.pic),
      omega (arith, c.loop-k.invariant.3, c.fit_one-sofar.auto.stack),
    )

pub returns : goal.returns
returns c =
    let long : length c.args.groups ≡ 31 = search rules in
    let F = array_end c.args.groups c.args.n (omega (arith, long, c.requires.1)) c.loop-k.invariant.0 (omega arith) in
    (rw c.none-sofar.ensures.2 at F, c.loop-k.invariant.0.held.laid)
