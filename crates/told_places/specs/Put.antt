-- Values put into the places of a lent slice. Assumes nothing.
use Rattle.std.specs.Prelude.{ℕ, zero, suc, ◌*◌, List, [], ◌∷◌, set}

-- values one behind the other, from a place on
unfoldable pub put_at : {A : Type 0} → List A → ℕ → List A → List A
put_at s at [] = s
put_at s at (v ∷ vs) = put_at (set s at v) (suc at) vs

-- the values of n things from the k-th on, each with `size` places of its own
unfoldable pub put_each : {A : Type 0} → (ℕ → List A) → ℕ → ℕ → ℕ → List A → List A
put_each values size zero k s = s
put_each values size (suc n) k s = put_each values size n (suc k) (put_at s (k * size) (values k))
