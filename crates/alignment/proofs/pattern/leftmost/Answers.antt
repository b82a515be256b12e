-- `leftmost` fills the piece with 3, and takes what the finder found. Assumes nothing.
use mathlib.Core.Path.{◌≡◌, ap, ◌∙◌}
use lib.IntN.{nat_abs}
use mir.Syntax.{w32}
use mir.Val.{to_z, of_z}
use borrow.Author.Rules.{rules}
use Rattle.corners.proofs.Small.{left_most_ready}
use Rattle.alignment.proofs.Aligned.{inside_low, place_within, both_sides, claim_fills, claim_place}
use Rattle.alignment.proofs.pattern.leftmost.Goals as goal

pub unsigned_abs-x-requires : goal.unsigned_abs-x-requires
unsigned_abs-x-requires c = let W = place_within c.requires in search (rules, inside_low)

pub unsigned_abs-y-requires : goal.unsigned_abs-y-requires
unsigned_abs-y-requires c = let W = place_within c.requires in search (rules, inside_low)

pub new-finder-requires : goal.new-finder-requires
new-finder-requires c = record { fact_1 = c.requires.line; fact_2 = place_within c.requires }

pub fill_and_find-found-requires : goal.fill_and_find-found-requires
fill_and_find-found-requires c =
    let x : to_z w32 (of_z w32 c.args.at.x) ≡ c.args.at.x = search rules in
    let column : c.unsigned_abs-x.result ≡ nat_abs c.args.at.x = c.unsigned_abs-x.ensures ∙ ap nat_abs (x) in
    let y : to_z w32 (of_z w32 c.args.at.y) ≡ c.args.at.y = search rules in
    let line : c.unsigned_abs-y.result ≡ nat_abs c.args.at.y = c.unsigned_abs-y.ensures ∙ ap nat_abs (y) in
    record { fact_1 = rw (column, line) (claim_fills c.requires); fact_2 = both_sides c.requires; fact_3 = rw c.new-finder.ensures (left_most_ready _ c.requires.line) }

pub returns : goal.returns
returns c =
    let x : to_z w32 (of_z w32 c.args.at.x) ≡ c.args.at.x = search rules in
    let column : c.unsigned_abs-x.result ≡ nat_abs c.args.at.x = c.unsigned_abs-x.ensures ∙ ap nat_abs (x) in
    let y : to_z w32 (of_z w32 c.args.at.y) ≡ c.args.at.y = search rules in
    let line : c.unsigned_abs-y.result ≡ nat_abs c.args.at.y = c.unsigned_abs-y.ensures ∙ ap nat_abs (y) in
    record {
      x = c.unsigned_abs-x.result;
      y = c.unsigned_abs-y.result;
      place = rw (column, line) (claim_place c.requires);
      paint = c.fill_and_find-found.ensures.0;
      is = rw (c.fill_and_find-found.ensures.1, c.new-finder.ensures);
    }
