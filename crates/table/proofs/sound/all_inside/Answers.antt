-- `all_inside` is the test of the seeds. Assumes nothing.
use native.Mathlib.Omega.{arith}
use mathlib.Core.Path.{◌≡◌, ◌∙◌}
use lib.ListN.{length, take}
use borrow.Author.Rules.{rules}
use Rattle.std.specs.List.{list_all}
use Rattle.std.proofs.lemmas.Iterator.{YieldsList-from_slice}
use Rattle.std.proofs.lemmas.Iterator.Search.{all_from_yields_List}
use borrow.Author.Tests.{tests}
use Rattle.table.specs.Sound.{inside}
use Rattle.table.proofs.Seeds.{seeds_tested}
use Rattle.table.proofs.sound.all_inside.Goals as goal

pub returns : goal.returns
returns c =
    let each : c.all.result ≡ list_all (λ e. inside e c.args.width c.args.height) (take c.args.n c.args.t.entries) =
    all_from_yields_List (λ e. inside e c.args.width c.args.height) _ _ c.all.result c.all.ensures.ran (YieldsList-from_slice (take c.args.n c.args.t.entries) cc) (λ x b q k. search (rules, tests)) in
    let whole : length c.args.t.entries ≡ 251 = search rules in
    each ∙ seeds_tested c.args.t.entries c.args.n c.args.width c.args.height (omega arith)
