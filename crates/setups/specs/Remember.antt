-- What is remembered of a setup, and when it is true. That a group is set up twice is taken from the Rust, `find_groupings` and `detect_grids`. Definitions alone.
use Rattle.std.specs.Prelude.{ℕ, ◌<◌, ◌≡◌, List, [], ◌∷◌, get_or}
use Rattle.refusals.specs.Finding.{found}
use Rattle.points.specs.declared.Point.{Point}
use Rattle.capstones.specs.Blank.{nowhere, no_sight}
use Rattle.grids.specs.Grid.{set_up}
use Rattle.setups.specs.declared.Setup.{Setup}

-- the blank setup, which stands in an array wherever nothing is remembered
abbrev pub no_setup : Setup
no_setup = record { p0 = nowhere; p1 = nowhere; p2 = nowhere; p3 = nowhere; size = 0; grid = record { size = 0; c = no_sight } }

-- a setup was made of these corners, with this size
pub record MadeOf (s : Setup) (a b c d : Point) (n : ℕ) : Type 0 where
  pub size : s.size ≡ n
  pub p0 : s.p0 ≡ a
  pub p1 : s.p1 ≡ b
  pub p2 : s.p2 ≡ c
  pub p3 : s.p3 ≡ d

-- a setup is remembered truly: on this picture its corners give its grid; a blank one says nothing
pub record Remembers (p : List ℕ) (w h : ℕ) (s : Setup) : Type 0 where
  pub is : 0 < s.size → set_up p w h s.size s.p0 s.p1 s.p2 s.p3 ≡ found (s.grid ∷ [])

-- so is each of an array, past whose end there are blanks
abbrev pub AllRemember : List ℕ → ℕ → ℕ → List Setup → Type 0
AllRemember p w h l = (k : ℕ) → Remembers p w h (get_or l k no_setup)
