-- The order of signed numbers, by its tests; and squares. Assumes nothing.
use Prim.Native.Nat.{◌*◌}
use native.Mathlib.Nat.{le_of_lt}
use mathlib.Core.Path.{◌≡◌, refl}
use mathlib.Core.Bool.{Bool, true, false, not}
use mathlib.Core.Logic.{◌⊎◌, inl, inr, ⊎_elim}
use lib.Dec.{T, ltb→lt, le→leb}
use lib.IntN.{ℤ, pos, negsuc, nat_abs, ◌*ℤ◌}
use lib.Signed.{lt_z, le_z, ◌<ℤ◌, ◌≤ℤ◌, lt_z_yes, lt_z_no, <ℤ-≤ℤ_trans, clash_ℤ}

tested : {A B : Type 0} (t : Bool) → (T t → A) → (T (not t) → B) → A ⊎ B
tested true f g = inl (f tt)
tested false f g = inr (g tt)

pub less_or_not : (a b : ℤ) → (a <ℤ b) ⊎ (b ≤ℤ a)
less_or_not a b = tested (lt_z a b) (λ t. lt_z_yes t) (λ t. lt_z_no t)

weaker : (a b : ℤ) → T (lt_z a b) → T (le_z a b)
weaker (pos a) (pos b) t = le→leb a b (le_of_lt (ltb→lt a b t))
weaker (pos a) (negsuc b) t = t
weaker (negsuc a) (pos b) t = tt
weaker (negsuc a) (negsuc b) t = le→leb b a (le_of_lt (ltb→lt b a t))

pub <ℤ-≤ℤ : {a b : ℤ} → a <ℤ b → a ≤ℤ b
<ℤ-≤ℤ {a} {b} h = record { le = weaker a b h.lt }

pub ≤ℤ-<ℤ-trans : {a b c : ℤ} → a ≤ℤ b → b <ℤ c → a <ℤ c
≤ℤ-<ℤ-trans {a} {b} {c} h k = ⊎_elim (λ l. l) (λ l. clash_ℤ (<ℤ-≤ℤ_trans k l) h) (less_or_not a c)

pub ≤ℤ-trans : {a b c : ℤ} → a ≤ℤ b → b ≤ℤ c → a ≤ℤ c
≤ℤ-trans {a} {b} {c} h k = ⊎_elim (λ l. clash_ℤ (<ℤ-≤ℤ_trans l h) k) (λ l. l) (less_or_not c a)

-- a square is no negative number
pub square : (z : ℤ) → z *ℤ z ≡ pos (nat_abs z * nat_abs z)
square (pos n) = refl
square (negsuc n) = refl
