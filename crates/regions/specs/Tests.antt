-- What a lookup refuses, in order: document 01, lookup 1, 2, 3, 5, 9, 6, 10. Definitions alone.
use Rattle.std.specs.Prelude.{ℕ, ◌+◌, ◌-◌, ◌<◌, ◌≡◌, Bool, true, not, ◌&&◌, List, [], ◌∷◌, ◌++◌, leb, length}
use Rattle.refusals.specs.First.{Test, ◌when◌}
use Rattle.refusals.specs.declared.Refusal.TheVariants as refusal
use Rattle.picture.specs.Sides.{seed_tests, white_test, Seeded}
use Rattle.pieces.specs.Picture.{px}
use Rattle.table.specs.Sound.{sound_test}
use Rattle.table.specs.declared.Table.{Table}

-- 9: the table is not sound
abbrev pub table_test : Table → ℕ → ℕ → Test
table_test T width height = refusal.Table when not (sound_test T width height)

-- 10: the pixel's byte is 5 or more, and no entry has its number
unfoldable pub unlisted : ℕ → ℕ → Bool
unlisted byte n = leb 5 byte && leb n (byte - 5)

abbrev pub number_test : ℕ → ℕ → Test
number_test byte n = refusal.Number when unlisted byte n

-- the tests of a lookup that are its own: 9, 6, 10
abbrev pub own_tests : List ℕ → ℕ → ℕ → Table → ℕ → ℕ → List Test
own_tests p w h T x y = table_test T w h ∷ white_test (px p w x y) ∷ number_test (px p w x y) T.n ∷ []

abbrev pub look_tests : List ℕ → ℕ → ℕ → ℕ → Table → ℕ → ℕ → List Test
look_tests p w h lent T x y = seed_tests w h (length p) lent x y ++ own_tests p w h T x y

-- a lookup that none of them refuses
pub record Lookable (p : List ℕ) (w h lent : ℕ) (T : Table) (x y : ℕ) : Type 0 where
  pub seeded : Seeded w h (length p) lent x y
  pub table : sound_test T w h ≡ true
  pub dark : px p w x y ≡ 0 → ⊥
  pub listed : (k : ℕ) → px p w x y ≡ 5 + k → k < T.n
