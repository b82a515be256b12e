-- `find_alignment_pattern` glides from the seed, and searches from there. Assumes nothing.
use Prim.Native.Nat.{◌≤◌}
use native.Mathlib.Omega.{arith}
use mathlib.Core.Path.{◌≡◌}
use lib.ListN.{length}
use borrow.Author.Rules.{rules}
use Rattle.table.specs.Sound.{Ordered}
use Rattle.table.proofs.Exact.{test_ordered}
use Rattle.alignment.specs.Spiral.{first_pass}
use Rattle.alignment.specs.Glide.{passed_of, Glides}
use Rattle.alignment.proofs.Passes.{first_turning, first_near}
use Rattle.alignment.proofs.Gliding.{glide_spirals, glide_reaches}
use Rattle.alignment.proofs.search.find_alignment_pattern.Goals as goal

pub passed_by-passed-requires : goal.passed_by-passed-requires
passed_by-passed-requires c =
    let age_whole : 251 ≤ length c.args.table.age = let age : length c.args.table.age ≡ 251 = search rules in omega arith in
    let ordered : Ordered c.args.table = test_ordered c.args.table _ _ c.requires.1 age_whole in
    (ordered, c.requires.3)

pub glide-start-requires : goal.glide-start-requires
glide-start-requires c =
    (c.requires.0.sized, rw c.first_pass.ensures first_turning, rw c.first_pass.ensures (first_near c.requires.2), c.requires.3)

pub search_from-requires : goal.search_from-requires
search_from-requires c =
    let glided : Glides c.args.pic.now c.args.width c.args.height c.args.estimate (passed_of c.args.estimate c.args.table) first_pass c.args.seed c.glide-start.result.pass c.glide-start.result.at =
    rw (c.first_pass.ensures, c.passed_by-passed.ensures) at c.glide-start.ensures
    in
    let r = glide_reaches c.requires.3 first_turning (first_near c.requires.2) glided in
    (c.requires.0, c.requires.1, r.turning, r.near, c.requires.3)

pub returns : goal.returns
returns c =
    let glided : Glides c.args.pic.now c.args.width c.args.height c.args.estimate (passed_of c.args.estimate c.args.table) first_pass c.args.seed c.glide-start.result.pass c.glide-start.result.at =
    rw (c.first_pass.ensures, c.passed_by-passed.ensures) at c.glide-start.ensures
    in
    let age_whole : 251 ≤ length c.args.table.age = let age : length c.args.table.age ≡ 251 = search rules in omega arith in
    let ordered : Ordered c.args.table = test_ordered c.args.table _ _ c.requires.1 age_whole in
    glide_spirals (age_whole) (ordered) glided c.search_from.ensures
