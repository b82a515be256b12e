-- The machine values of an array when one element is set. Assumes nothing.
use mathlib.Core.Path.{◌≡◌, refl, ◌∙◌, ap, subst}
use Prim.Native.Nat.{ℕ, zero, suc}
use mathlib.Core.List.{List, [], ◌∷◌, map}
use lib.ListN.{set, length-set}
use mir.Val.{Val}
use base.Fml.{Fml}
use denote.RattleType.{RattleType}
use denote.Laws.{Is, Tells}
use denote.Shadow.{shadow}
use denote.Array.{Array, each, array_val, array_vals, Array-Tells}

pub map_set : {A B : Type 0} (f : A → B) (l : List A) (i : ℕ) (a : A) → map f (set l i a) ≡ set (map f l) i (f a)
map_set f [] i a = refl
map_set f (x ∷ l) zero a = refl
map_set f (x ∷ l) (suc i) a = ap (λ (m : List _). f x ∷ m) (map_set f l i a)

each_set : (d : Type 0) (f : d → List Val → Fml) (xs : List d) (us : List Val) (k : ℕ) (y : d) (v : Val) → shadow (each d f xs us) → shadow (f y (v ∷ [])) → shadow (each d f (set xs k y) (set us k v))
each_set d f [] [] k y v s t = s
each_set d f [] (u ∷ us) k y v s t = absurd s
each_set d f (x ∷ xs) [] k y v s t = absurd s
each_set d f (x ∷ xs) (u ∷ us) zero y v s t = (t, s.1)
each_set d f (x ∷ xs) (u ∷ us) (suc k) y v s t = (s.0, each_set d f xs us k y v s.1 t)

-- where an array has its machine values, and a value has its own, the array with the value at k has its machine values
pub is_set : (R : RattleType) (vals : R.Denot → List Val) → Tells R (Is R) vals → (n : ℕ) (xs : List R.Denot) (vs : List Val) (k : ℕ) (y : R.Denot) (v : Val)
    → Is (Array R n) xs vs → Is R y (v ∷ []) → Is (Array R n) (set xs k y) (array_vals vals (set xs k y))
is_set R vals tells n xs vs k y v p t =
    let q : Is (Array R n) (set xs k y) (array_val (set p.0 k v) ∷ []) = (set p.0 k v, ((refl, length-set xs k y ∙ p.1.0.1), each_set R.Denot R.own_val xs p.0 k y v p.1.1 t)) in
    subst (Is (Array R n) (set xs k y)) (Array-Tells R vals tells n (set xs k y) (array_val (set p.0 k v) ∷ []) q) q
