-- The edges of a line: the columns where it changes between white and not white, its first column and its end among them. Assumes nothing.
use Rattle.std.specs.Prelude.{ℕ, zero, suc, ◌+◌, ◌-◌, Bool, not, cond, List, [], ◌∷◌, eqb, ltb, get_or}
use Rattle.std.specs.Bool.{beq}

-- the pixel in column x of the line that starts at base is not white
abbrev pub dark : List ℕ → ℕ → ℕ → Bool
dark p base x = not (eqb (get_or p (base + x) 0) 0)

-- where a run ends that is dark, or light, and reaches to column x at least; n columns are left from there
unfoldable pub run_end : Bool → List ℕ → ℕ → ℕ → ℕ → ℕ
run_end shade p base zero x = x
run_end shade p base (suc n) x = cond (beq (dark p base x) shade) (run_end shade p base n (suc x)) x

-- the edges from column x on, after a pixel that is dark, or light: each change, and the end of the line
unfoldable pub edges_from : Bool → List ℕ → ℕ → ℕ → ℕ → List ℕ
edges_from shade p base zero x = x ∷ []
edges_from shade p base (suc n) x =
    cond (beq (dark p base x) shade) (edges_from shade p base n (suc x)) (x ∷ edges_from (not shade) p base n (suc x))

-- the edges after the edge e, on a line of w pixels
unfoldable pub edges_after : List ℕ → ℕ → ℕ → ℕ → List ℕ
edges_after p base w e = cond (ltb e w) (edges_from (dark p base e) p base (w - suc e) (suc e)) []
