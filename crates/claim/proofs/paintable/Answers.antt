-- `paintable` answers the first of 8, 6 and 7 that applies. Assumes nothing.
use mathlib.Core.Path.{◌≡◌, sym, ◌∙◌}
use mathlib.Core.Bool.{true, false}
use borrow.Author.Tests.{eq-eqb, ne_eqb}
use Rattle.claim.specs.Tests.{claimable}
use Rattle.claim.proofs.paintable.Goals as goal

pub returns-then-not-known : goal.returns-then-not-known
returns-then-not-known c =
    let other : claimable c.args.target ≡ false = sym c.is_target-known.ensures ∙ c.if-not-known.true in
    rw (other)

pub returns-then-byte-eq0 : goal.returns-then-byte-eq0
returns-then-byte-eq0 c =
    let one : claimable c.args.target ≡ true = sym c.is_target-known.ensures ∙ c.if-not-known.false in
    rw (one, eq-eqb _ _ c.if-byte-eq0.true)

pub returns-then-byte-target : goal.returns-then-byte-target
returns-then-byte-target c =
    let one : claimable c.args.target ≡ true = sym c.is_target-known.ensures ∙ c.if-not-known.false in
    rw (one, ne_eqb _ _ c.if-byte-eq0.false, eq-eqb _ _ c.if-byte-target.true)

pub returns : goal.returns
returns c =
    let one : claimable c.args.target ≡ true = sym c.is_target-known.ensures ∙ c.if-not-known.false in
    rw (one, ne_eqb _ _ c.if-byte-eq0.false, ne_eqb _ _ c.if-byte-target.false)
