-- `table_of` puts a table together. Assumes nothing.
use Rattle.told_places.specs.Lent.{table_of}
use Rattle.told_places.proofs.lent.table_of.Goals as goal

pub returns : goal.returns
unfolding table_of
returns c = rw (c.ages_of-ages.ensures, c.entries_of-entries.ensures)
