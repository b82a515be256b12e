-- A trial that can be given up, and the scores of its grid's parts, added up in the order in which they are looked at. Definitions alone.
use Rattle.std.specs.Prelude.{ℕ, ◌-◌, ◌≡◌, true, List, ℤ}
use Rattle.refusals.specs.Finding.{Finding}
use Rattle.geometry.specs.declared.Perspective.{Perspective}
use Rattle.picture.specs.Sides.{Sized}
use Rattle.version_db.specs.AnnexE.{version_of}
use Rattle.cell_fitness.specs.Score.{◌⊞◌}
use Rattle.fitness.specs.Expected.{timing, mark, columns}
use Rattle.placed.specs.Tame.{tame}
use Rattle.fitness.specs.Fitness.{GridSize, score_of}

-- the bytes and the sides of a picture, a grid's size, and a perspective that places each of its cells
pub record Tamed (bytes width height size : ℕ) (c : Perspective) : Type 0 where
  pub picture : Sized width height bytes
  pub grid : GridSize size
  pub perspective : tame size c ≡ true

module _ (pic : List ℕ) (width height : ℕ) (c : Perspective) (size : ℕ) where
  -- the mark on the right, and the one below
  abbrev pub two_marks : Finding ℤ
  two_marks = score_of pic width height c (mark (size - 7) 0) ⊞ score_of pic width height c (mark 0 (size - 7))

  -- and the timing lines
  abbrev pub with_lines : Finding ℤ
  with_lines = two_marks ⊞ score_of pic width height c (timing size)

  -- and the alignment patterns that are not on the timing lines
  abbrev pub with_columns : Finding ℤ
  with_columns = with_lines ⊞ score_of pic width height c (columns (version_of size))
