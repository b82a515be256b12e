-- `find_groupings` goes from centre to centre, until the stones end or one is refused. Assumes nothing.
use Prim.Native.Nat.{ℕ}
use native.Mathlib.Omega.{arith}
use mathlib.Core.Path.{◌≡◌, refl, sym, ◌∙◌, subst}
use lib.ListN.{length, take}
use lib.Seq.{length-take-le}
use borrow.Author.Rules.{rules}
use Rattle.laid.specs.Laid.{told}
use Rattle.setups.proofs.Known.{blanks_remember}
use Rattle.groupings.specs.Held.{groups_of, Counted}
use Rattle.groupings.proofs.Copy.{still_workable}
use Rattle.groupings.proofs.Going.{centres_begin, centres_end, centres_stop, centres_next}
use Rattle.groupings.proofs.centres.find_groupings.Goals as goal

pub loop-idx-init : goal.loop-idx-init
unfolding told
loop-idx-init c = (centres_begin c.none-sofar.result c.none-sofar.ensures.0 c.none-sofar.ensures.1, omega arith, refl, refl, blanks_remember 31 c.none-sofar.ensures.2)

pub try_centre-sofar-requires : goal.try_centre-sofar-requires
try_centre-sofar-requires c =
    let whole : length c.args.stones ≡ 64 = search rules in
    let long : length (take c.args.n c.args.stones) ≡ c.args.n = length-take-le c.args.n c.args.stones (omega (arith, whole, c.requires.2.few)) in
    (still_workable c.requires.0 c.loop-idx.invariant.2, omega (arith, c.requires.1, c.loop-idx.invariant.3), c.requires.2, c.loop-idx-test.true, c.loop-idx.invariant.0.holds, subst (λ (m : ℕ). Counted m (groups_of c.loop-idx.sofar)) (long) c.loop-idx.invariant.0.counted, c.loop-idx.invariant.4)

pub returns-then-not-is_sound : goal.returns-then-not-is_sound
returns-then-not-is_sound c =
    let whole : length c.args.stones ≡ 64 = search rules in
    let long : length (take c.args.n c.args.stones) ≡ c.args.n = length-take-le c.args.n c.args.stones (omega (arith, whole, c.requires.2.few)) in
    let stops = sym c.is_sound.ensures ∙ c.if-not-is_sound.true in
    (centres_stop c.loop-idx.invariant.0 (omega (arith, long, c.loop-idx-test.true)) c.try_centre-sofar.result c.try_centre-sofar.ensures.0 stops, c.try_centre-sofar.ensures.1, c.try_centre-sofar.ensures.2)

pub loop-idx-preserved : goal.loop-idx-preserved
loop-idx-preserved c =
    let whole : length c.args.stones ≡ 64 = search rules in
    let long : length (take c.args.n c.args.stones) ≡ c.args.n = length-take-le c.args.n c.args.stones (omega (arith, whole, c.requires.2.few)) in
    let goes = sym c.is_sound.ensures ∙ c.if-not-is_sound.false in (
      centres_next c.loop-idx.invariant.0 (omega (arith, long, c.loop-idx-test.true)) c.try_centre-sofar.result c.try_centre-sofar.ensures.0 c.try_centre-sofar.ensures.1 goes,
      omega arith,
      omega (arith, c.loop-idx.invariant.2, c.try_centre-sofar.auto.stack),
      omega (arith, c.loop-idx.invariant.3, c.try_centre-sofar.auto.scratch),
      c.try_centre-sofar.ensures.2,
    )

pub returns : goal.returns
returns c =
    let whole : length c.args.stones ≡ 64 = search rules in
    let long : length (take c.args.n c.args.stones) ≡ c.args.n = length-take-le c.args.n c.args.stones (omega (arith, whole, c.requires.2.few)) in
    (centres_end c.loop-idx.invariant.0 (omega (arith, long, c.loop-idx-test.false)), c.loop-idx.invariant.0.holds.laid, c.loop-idx.invariant.4)
