-- A pixel without its paint, for document 01, "A refused call leaves picture and table as at entry; fit and detect do so even late". Definitions alone.
use Rattle.std.specs.Prelude.{ℕ, cond, leb}

-- white and black stay, and any other colour becomes black: only what was black in the bitmap is painted
unfoldable pub unpainted : ℕ → ℕ
unpainted byte = cond (leb byte 1) byte 1
