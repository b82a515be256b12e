-- `raised` keeps the point that is worth more, and of equals the first: by its one test. Assumes nothing.
use borrow.Author.Rules.{rules}
use mathlib.Core.Path.{◌≡◌}
use mathlib.Core.Bool.{true, false}
use lib.Signed.{lt_z}
use mir.Facts.{to_z-of_z}
use Rattle.corners.specs.Best.{raised}
use Rattle.corners.proofs.Signed.{back}
use Rattle.corners.proofs.places.Best.raised.Goals as goal

pub returns-then-self-worth : goal.returns-then-self-worth
unfolding raised
returns-then-self-worth c =
    let score : back c.args.self.score ≡ c.args.self.score = search rules in
    let worth : back c.args.worth ≡ c.args.worth = to_z-of_z c.ranges.worth in
    let more : lt_z c.args.self.score c.args.worth ≡ true = rw (score, worth) at c.if-self-worth.true in
    rw (worth, more)

pub returns : goal.returns
unfolding raised
returns c =
    let score : back c.args.self.score ≡ c.args.self.score = search rules in
    let worth : back c.args.worth ≡ c.args.worth = to_z-of_z c.ranges.worth in
    let less : lt_z c.args.self.score c.args.worth ≡ false = rw (score, worth) at c.if-self-worth.false in
    rw less
