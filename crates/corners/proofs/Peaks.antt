-- No point of a row lies farther than both of its ends: not in a direction, and not from a point. Assumes nothing.
use Prim.Native.Nat.{ℕ, zero, suc, ◌+◌, ◌*◌, ◌-◌, ◌≤◌, ◌<◌}
use native.Mathlib.Nat.{add-mul, mul-le-mul}
use native.Mathlib.Omega.{arith}
use mathlib.Core.Path.{◌≡◌, sym, ap, ◌∙◌, subst}
use mathlib.Core.Bool.{Bool, true, false, cond}
use mathlib.Core.Logic.{◌⊎◌, inl, inr, ⊎_elim}
use lib.Dec.{T, ltb, ltb→lt, le→leb}
use lib.IntN.{ℤ, pos, negsuc, nat_abs, neg_ℤ, ◌+ℤ◌, ◌-ℤ◌, ◌*ℤ◌, +ℤ_assoc, +ℤ_comm, +ℤ_idr, neg_ℤ-+ℤ, +ℤ-neg_ℤ_cancel, -ℤ-+ℤ_cancel}
use lib.Signed.{le_z, ◌≤ℤ◌}
use Rattle.points.specs.declared.Point.{Point}
use Rattle.corners.specs.Scores.{distance_of, along_of, across_of, behind_of, left_of}
use Rattle.corners.specs.Rows.{point_at}
use Rattle.corners.proofs.Order.{square}

-- no point between two others on a line scores more than both
pub record Peaked (score : Point → ℤ) : Type 0 where
  pub between : (l a r y : ℕ) → l ≤ a → a ≤ r → (score (point_at a y) ≤ℤ score (point_at l y)) ⊎ (score (point_at a y) ≤ℤ score (point_at r y))

-- x and n more is no less than x
up : (x : ℤ) (n : ℕ) → x ≤ℤ (x +ℤ pos n)
up (pos a) n = record { le = le→leb a (a + n) (omega arith) }
up (negsuc a) n = record { le = go (ltb n (suc a)) (ltb→lt n (suc a)) }
  where
    go : (t : Bool) → (T t → n < suc a) → T (le_z (negsuc a) (cond t (negsuc (suc a - suc n)) (pos (n - suc a))))
    go true f = le→leb (suc a - suc n) a (omega arith)
    go false f = tt

-- y is n more than x: so it is after c is added to both, and the other way round for their opposites
module _ (x y : ℤ) (n : ℕ) (e : y ≡ x +ℤ pos n) where
  more_by : x ≤ℤ y
  more_by = rw e (up x n)

  more_before : (c : ℤ) → c +ℤ y ≡ (c +ℤ x) +ℤ pos n
  more_before c = ap (λ (z : ℤ). c +ℤ z) e ∙ sym (+ℤ_assoc c x (pos n))

  more_after : (c : ℤ) → y +ℤ c ≡ (x +ℤ c) +ℤ pos n
  more_after c = +ℤ_comm y c ∙ more_before c ∙ ap (λ (z : ℤ). z +ℤ pos n) (+ℤ_comm c x)

  less_opposite : neg_ℤ x ≡ neg_ℤ y +ℤ pos n
  less_opposite = sym (ap (λ (z : ℤ). neg_ℤ z +ℤ pos n) e ∙ ap (λ (z : ℤ). z +ℤ pos n) (neg_ℤ-+ℤ x (pos n)) ∙ -ℤ-+ℤ_cancel (neg_ℤ x) (pos n))

-- f never falls, or never rises
Steady : (ℕ → ℤ) → Type 0
Steady f = ((a k : ℕ) → (n : ℕ) × (f (a + k) ≡ f a +ℤ pos n)) ⊎ ((a k : ℕ) → (n : ℕ) × (f a ≡ f (a + k) +ℤ pos n))

steady_times : (m : ℤ) → Steady (λ (a : ℕ). pos a *ℤ m)
unfolding Steady
steady_times (pos n) = inl (λ a k. (k * n, ap pos (add-mul a k n)))
steady_times (negsuc n) = inr (λ a k. (k * suc n, less_opposite (pos (a * suc n)) (pos ((a + k) * suc n)) (k * suc n) (ap pos (add-mul a k (suc n)))))

module _ (f : ℕ → ℤ) (s : Steady f) where
  steady_before : (c : ℤ) → Steady (λ (a : ℕ). c +ℤ f a)
  unfolding Steady
  steady_before c =
      ⊎_elim
      (λ g. inl (λ a k. ((g a k).0, more_before (f a) (f (a + k)) (g a k).0 (g a k).1 c)))
      (λ g. inr (λ a k. ((g a k).0, more_before (f (a + k)) (f a) (g a k).0 (g a k).1 c)))
      s

  steady_after : (c : ℤ) → Steady (λ (a : ℕ). f a +ℤ c)
  unfolding Steady
  steady_after c =
      ⊎_elim
      (λ g. inl (λ a k. ((g a k).0, more_after (f a) (f (a + k)) (g a k).0 (g a k).1 c)))
      (λ g. inr (λ a k. ((g a k).0, more_after (f (a + k)) (f a) (g a k).0 (g a k).1 c)))
      s

  steady_opposite : Steady (λ (a : ℕ). neg_ℤ (f a))
  unfolding Steady
  steady_opposite =
      ⊎_elim
      (λ g. inr (λ a k. ((g a k).0, less_opposite (f a) (f (a + k)) (g a k).0 (g a k).1)))
      (λ g. inl (λ a k. ((g a k).0, less_opposite (f (a + k)) (f a) (g a k).0 (g a k).1)))
      s

  steady_peak : (l a r : ℕ) → l ≤ a → a ≤ r → (f a ≤ℤ f l) ⊎ (f a ≤ℤ f r)
  unfolding Steady
  steady_peak l a r h k =
      ⊎_elim
      (λ g. let e : a + (r - a) ≡ r = omega arith in inr (subst (λ (b : ℕ). f a ≤ℤ f b) e (more_by (f a) (f (a + (r - a))) (g a (r - a)).0 (g a (r - a)).1)))
      (λ g. let e : l + (a - l) ≡ a = omega arith in inl (subst (λ (b : ℕ). f b ≤ℤ f l) e (more_by (f (l + (a - l))) (f l) (g l (a - l)).0 (g l (a - l)).1)))
      s

steady_peaked : (score : Point → ℤ) → ((y : ℕ) → Steady (λ (a : ℕ). score (point_at a y))) → Peaked score
steady_peaked score s = record { between = λ l a r y. steady_peak (λ (b : ℕ). score (point_at b y)) (s y) l a r }

module _ (d : Point) where
  along_steady : (y : ℕ) → Steady (λ (a : ℕ). along_of d (point_at a y))
  unfolding along_of
  along_steady y = steady_after (λ (a : ℕ). pos a *ℤ d.x) (steady_times d.x) (pos y *ℤ d.y)

  across_steady : (y : ℕ) → Steady (λ (a : ℕ). across_of d (point_at a y))
  unfolding across_of
  across_steady y = steady_before (λ (a : ℕ). neg_ℤ (pos a *ℤ d.y)) (steady_opposite (λ (a : ℕ). pos a *ℤ d.y) (steady_times d.y)) (pos y *ℤ d.x)

  pub along_peaked : Peaked (along_of d)
  along_peaked = steady_peaked (along_of d) along_steady

  pub across_peaked : Peaked (across_of d)
  across_peaked = steady_peaked (across_of d) across_steady

  pub behind_peaked : Peaked (behind_of d)
  unfolding behind_of
  behind_peaked = steady_peaked (behind_of d) (λ y. steady_opposite (λ (a : ℕ). along_of d (point_at a y)) (along_steady y))

  pub left_peaked : Peaked (left_of d)
  unfolding left_of
  left_peaked = steady_peaked (left_of d) (λ y. steady_opposite (λ (a : ℕ). across_of d (point_at a y)) (across_steady y))

-- a number that is not negative grows as more is added, and one that is negative grows as more is taken away
grown : (z w : ℤ) (k j : ℕ) (l : ℤ) → w ≡ z +ℤ pos k → z ≡ l +ℤ pos j → (nat_abs z ≤ nat_abs l) ⊎ (nat_abs z ≤ nat_abs w)
grown (pos m) w k j l e g = inr (rw e (omega arith))
grown (negsuc m) w k zero l e g = inl (let h : l ≡ negsuc m = sym (g ∙ +ℤ_idr l) in rw h (omega arith))
grown (negsuc m) w k (suc j) l e g =
    let h : l ≡ negsuc m +ℤ negsuc j = sym (+ℤ-neg_ℤ_cancel l (pos (suc j))) ∙ sym (ap (λ (z : ℤ). z -ℤ pos (suc j)) g) in
    inl (rw h (omega arith))

squares : (u v c : ℤ) → nat_abs u ≤ nat_abs v → (u *ℤ u +ℤ c *ℤ c) ≤ℤ (v *ℤ v +ℤ c *ℤ c)
squares u v c h =
    rw (square u, square v, square c)
    (record { le = le→leb (nat_abs u * nat_abs u + nat_abs c * nat_abs c) (nat_abs v * nat_abs v + nat_abs c * nat_abs c) (let k = mul-le-mul h h in omega arith) })

pub distance_peaked : (p : Point) → Peaked (distance_of p)
unfolding distance_of
distance_peaked p =
    record {
      between = λ l a r y h k.
          let from : ℕ → ℤ = λ b. pos b -ℤ p.x in
          let down = pos y -ℤ p.y in
          let e : pos a ≡ pos l +ℤ pos (a - l) = ap pos (omega arith) in
          let g : pos r ≡ pos a +ℤ pos (r - a) = ap pos (omega arith) in
          ⊎_elim
          (λ n. inl (squares (from a) (from l) down n))
          (λ n. inr (squares (from a) (from r) down n))
          (grown (from a) (from r) (r - a) (a - l) (from l) (more_after (pos a) (pos r) (r - a) g (neg_ℤ p.x)) (more_after (pos l) (pos a) (a - l) e (neg_ℤ p.x)));
    }
