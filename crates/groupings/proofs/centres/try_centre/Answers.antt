-- `try_centre` passes over a used centre, and tries all pairs of any other. Assumes nothing.
use Prim.Native.Nat.{◌≤◌}
use native.Mathlib.Omega.{arith}
use mathlib.Core.Path.{◌≡◌, sym, ◌∙◌}
use lib.ListN.{length}
use borrow.Author.Rules.{rules}
use Rattle.groupings.specs.Groups.{used_before, with_pairs}
use Rattle.groupings.proofs.Few.{beside_unused}
use Rattle.groupings.proofs.Front.{triable, beside_wider}
use Rattle.groupings.proofs.Neighbours.{not_refused, count_few, each_proper, from_array}
use Rattle.groupings.proofs.centres.try_centre.Goals as goal

pub is_used-requires : goal.is_used-requires
is_used-requires c = c.requires.4.laid.few

pub returns-then-is_used : goal.returns-then-is_used
returns-then-is_used c =
    (used_before (sym c.is_used.ensures ∙ c.if-is_used.true) c.requires.4.going, c.requires.4.laid, c.requires.6)

pub try_pairs-requires : goal.try_pairs-requires
try_pairs-requires c =
    let long : length c.args.stones ≡ 64 = search rules in
    let whole : c.args.n ≤ length c.args.stones = omega (arith, long, c.requires.2.few) in
    let free = sym c.is_used.ensures ∙ c.if-is_used.false in (
      c.requires.0,
      c.requires.1,
      count_few c.args.stones c.args.n c.args.idx c.requires.2.few (whole) c.requires.3 c.find_and_rank_possible_neighbors-ranked.result c.find_and_rank_possible_neighbors-ranked.ensures _ c.in-Ok.is,
      (λ k low. triable c.args.stones c.requires.3 (each_proper c.args.stones c.args.n c.args.idx c.requires.2.few (whole) c.requires.3 c.find_and_rank_possible_neighbors-ranked.result c.find_and_rank_possible_neighbors-ranked.ensures _ c.in-Ok.is k low) c.requires.2),
      c.requires.4,
      beside_wider c.requires.2.few (beside_unused c.requires.5 free c.requires.3),
      c.requires.6,
    )

pub returns-in-Ok : goal.returns-in-Ok
returns-in-Ok c =
    let long : length c.args.stones ≡ 64 = search rules in
    let whole : c.args.n ≤ length c.args.stones = omega (arith, long, c.requires.2.few) in
    let free = sym c.is_used.ensures ∙ c.if-is_used.false in
    (with_pairs free (from_array c.args.stones c.args.n c.args.idx c.requires.2.few (whole) c.requires.3 c.find_and_rank_possible_neighbors-ranked.result c.find_and_rank_possible_neighbors-ranked.ensures _ c.in-Ok.is c.try_pairs.ensures.0), c.try_pairs.ensures.1, c.try_pairs.ensures.2)

pub returns-in-Err : goal.returns-in-Err
returns-in-Err c =
    let long : length c.args.stones ≡ 64 = search rules in
    let whole : c.args.n ≤ length c.args.stones = omega (arith, long, c.requires.2.few) in
    absurd (not_refused c.args.stones c.args.n c.args.idx c.requires.2.few (whole) c.requires.3 c.find_and_rank_possible_neighbors-ranked.result c.find_and_rank_possible_neighbors-ranked.ensures _ c.in-Err.is)
