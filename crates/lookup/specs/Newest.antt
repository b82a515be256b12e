-- The newest entry of a region table. Definitions alone.
use Rattle.std.specs.Prelude.{ℕ, cond, ltb, get_or}
use Rattle.table.specs.Table.{most}
use Rattle.table.specs.declared.Table.{Table}

-- the number at the front of the age order, and 0 where no entry can have that
unfoldable pub newest_of : Table → ℕ
newest_of T = cond (ltb (get_or T.age 0 0) most) (get_or T.age 0 0) 0
