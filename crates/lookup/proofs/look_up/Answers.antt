-- What a lookup leaves of the table differs from the table before in its newest entry alone, so that the stores make it. Assumes nothing.
use Rattle.std.proofs.Common.{◌≡◌, ◌<◌, length, List, set, ap, sym, subst, ◌∙◌, rules}
use Rattle.table.specs.Table.{entry_of}
use Rattle.table.specs.declared.Entry.{Entry}
use Rattle.table.specs.declared.Table.{Table}
use Rattle.regions.specs.Found.{meaning}
use Rattle.regions.specs.Lookup.{LookPost}
use Rattle.lookup.specs.Newest.{newest_of}
use Rattle.lookup.specs.declared.Numbered.{Numbered}
use Rattle.lookup.proofs.Left.{NewestAlone, newest_alone}
use Rattle.lookup.proofs.look_up.Goals as goal

-- what `newest` says of its answer
abbrev Tells : Table → Numbered → Type 0
Tells u z = (z.number ≡ newest_of u) × (z.number < 251) × (z.entry ≡ entry_of u z.number)

abbrev with_entries : Table → List Entry → Table
with_entries U l = record { entries = l; age = U.age; n = U.n }

-- the table that the stores leave, where its entries are T's but for the newest
stored : (T U : Table) (z : Numbered) → NewestAlone T U → Tells U z → U ≡ with_entries U (set T.entries z.number z.entry)
stored T U z alone m =
    let here : z.entry ≡ entry_of U (newest_of U) = m.2 ∙ ap (entry_of U) m.0 in
    let now : U.entries ≡ set T.entries z.number z.entry = alone ∙ sym (λ i. set T.entries (m.0 i) (here i)) in
    ap (with_entries U) now

pub returns : goal.returns
returns c =
    let whole : length c.args.table.now.entries ≡ 251 = search rules in
    let e = c.look_up-looked.ensures in
    let is = stored c.args.table.now c.look_up-looked.result.table c.newest-written.result (newest_alone whole e) c.newest-written.ensures in
    subst (λ (u : Table). LookPost c.args.pic.now c.args.width c.args.height (length c.args.stack.now) c.args.table.now c.args.x c.args.y
    (meaning c.look_up-looked.result.found) c.look_up-looked.new.pic u) is e
