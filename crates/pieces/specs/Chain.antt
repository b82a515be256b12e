-- What a chain of pixels is (document 01, "What a finding commits to"). Definitions alone.
use Rattle.std.specs.Prelude.{ℕ, suc}

-- a chain of pixels of the set S leads from (x, y) to (a, b), each beside, above or below the one before
pub data Chain (S : ℕ → ℕ → Type 0) (x y : ℕ) : ℕ → ℕ → Type 0 where
  start : S x y → Chain S x y x y
  west : {a b : ℕ} → Chain S x y (suc a) b → S a b → Chain S x y a b
  east : {a b : ℕ} → Chain S x y a b → S (suc a) b → Chain S x y (suc a) b
  north : {a b : ℕ} → Chain S x y a (suc b) → S a b → Chain S x y a b
  south : {a b : ℕ} → Chain S x y a b → S a (suc b) → Chain S x y a (suc b)
