-- `place_of` meets the number at its first place. Assumes nothing.
use Rattle.std.proofs.Common.{rules, ◌≡◌, nat_eq}
use Rattle.std.proofs.lemmas.Iterator.{YieldsList-from_slice}
use Rattle.std.proofs.lemmas.Iterator.Search.{position_from_yields_List}
use mathlib.Core.Path.{sym, ◌∙◌}
use Rattle.std.specs.List.{position}
use borrow.Author.Tests.{tests}
use Rattle.table.proofs.Sought.{first_met}
use Rattle.table.proofs.age.place_of.Goals as goal

pub returns : goal.returns
returns c =
    let met : c.position.result ≡ position (λ x. nat_eq x c.args.k) c.args.age.now =
    position_from_yields_List (λ x. nat_eq x c.args.k) _ _ c.position.result c.position.ensures.ran (YieldsList-from_slice c.args.age.now cc) (λ x b q k. search (rules, tests)) in
    first_met c.args.k c.args.age.now c.unwrap.result (sym met ∙ c.unwrap.ensures)
