-- What the points of a scan are: a walk from one point to another, said without the scan's state. Assumes nothing.
use Rattle.std.specs.Prelude.{zero, suc, ◌+◌, ◌≤◌, ◌<◌, max, ◌≡◌, ◌⊎◌, List, [], ◌∷◌, ◌++◌, length, ℤ, pos, negsuc, nat_abs, ◌+ℤ◌, ◌-ℤ◌}
use Rattle.points.specs.declared.Point.{Point}

-- the sign of a number: 1, 0 or -1
abbrev pub sign_of : ℤ → ℤ
sign_of (pos zero) = pos 0
sign_of (pos (suc n)) = pos 1
sign_of (negsuc n) = negsuc 0

-- from a to b is one step towards z's side of 0
abbrev pub One : ℤ → ℤ → ℤ → Type 0
One z a b = b ≡ a +ℤ sign_of z

-- from a to b is such a step, or none
abbrev pub AtMostOne : ℤ → ℤ → ℤ → Type 0
AtMostOne z a b = (b ≡ a) ⊎ One z a b

-- from u to v on a walk from p to q: one step in the leading direction, which is the longer one, or y's where both are equal, and at most one in the other
pub record OneStep (p q u v : Point) : Type 0 where
  pub x_leads : nat_abs (q.y -ℤ p.y) < nat_abs (q.x -ℤ p.x) → One (q.x -ℤ p.x) u.x v.x × AtMostOne (q.y -ℤ p.y) u.y v.y
  pub y_leads : nat_abs (q.x -ℤ p.x) ≤ nat_abs (q.y -ℤ p.y) → One (q.y -ℤ p.y) u.y v.y × AtMostOne (q.x -ℤ p.x) u.x v.x

-- the points of a walk from p to q
pub record Walk (p q : Point) (us : List Point) : Type 0 where
  pub count : length us ≡ max (nat_abs (q.x -ℤ p.x)) (nat_abs (q.y -ℤ p.y)) + 1
  pub first : (rest : List Point) × (us ≡ p ∷ rest)
  pub last : (front : List Point) × (us ≡ front ++ (q ∷ []))
  pub steps : (front back : List Point) (u v : Point) → us ≡ front ++ (u ∷ v ∷ back) → OneStep p q u v
