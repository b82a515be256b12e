-- `setup_perspective` tests the version, then the corners. Assumes nothing.
use borrow.Author.Tests.{le-leb, lt-leb}
use Rattle.version_db.specs.AnnexE.{version_of}
use Rattle.grids.specs.Grid.{seen_grid, set_up}
use Rattle.grids.proofs.setup_perspective.Goals as goal

pub returns-then-version_from_grid_size-ge41 : goal.returns-then-version_from_grid_size-ge41
unfolding set_up
returns-then-version_from_grid_size-ge41 c = rw (le-leb 41 _ (rw c.version_from_grid_size.ensures at c.if-version_from_grid_size-ge41.true))

pub returns-in-Made : goal.returns-in-Made
unfolding set_up seen_grid
returns-in-Made c =
    let few = lt-leb 41 (version_of _) (rw c.version_from_grid_size.ensures at c.if-version_from_grid_size-ge41.false) in
    rw (few, ← c.create.ensures, c.in-Made.is) c.refined.ensures

pub returns-in-Flat : goal.returns-in-Flat
unfolding set_up seen_grid
returns-in-Flat c =
    let few = lt-leb 41 (version_of _) (rw c.version_from_grid_size.ensures at c.if-version_from_grid_size-ge41.false) in
    rw (few, ← c.create.ensures, c.in-Flat.is)
