-- What the stack holds after an entry was stored, and what is on top of it. Assumes nothing.
use Prim.Native.Nat.{ℕ, zero, suc, ◌+◌, ◌*◌, ◌/◌, ◌%◌, ◌<◌, ◌≤◌}
use native.Mathlib.Omega.{arith}
use mathlib.Core.Path.{◌≡◌, refl, ap, ◌∙◌}
use mathlib.Core.List.{List, [], ◌∷◌}
use lib.ListN.{get_or, set, length}
use lib.Seq.{get_or-set_same, get_or-set_other}
use Rattle.pieces.specs.Picture.{pixel}
use Rattle.fill.specs.Stack.{widest, entry_of, held}

pub held_none : (s : List ℕ) → held s 0 ≡ []
unfolding held
held_none s = refl

pub held_top : (s : List ℕ) (sp m : ℕ) → sp ≡ suc m → held s sp ≡ entry_of (get_or s m 0) ∷ held s m
unfolding held
held_top s sp m e = ap (held s) e

pub held_length : (s : List ℕ) (n : ℕ) → length (held s n) ≡ n
unfolding held
held_length s zero = refl
held_length s (suc n) = ap suc (held_length s n)

-- a store above them leaves n entries as they are
held_set : (s : List ℕ) (n m v : ℕ) → n ≤ m → held (set s m v) n ≡ held s n
unfolding held
held_set s zero m v l = refl
held_set s (suc n) m v l = λ i. entry_of (get_or-set_other s m n v 0 (λ e. omega arith) i) ∷ held_set s n m v (omega arith) i

pub entry_of_lem : (a b : ℕ) → a < widest → entry_of (b * widest + a) ≡ pixel a b
entry_of_lem a b l =
    let c : (b * widest + a) % widest ≡ a = omega arith in
    let d : (b * widest + a) / widest ≡ b = omega arith in
    λ i. record { col = c i; line = d i }

-- a push
pub held_push : (s : List ℕ) (n a b m : ℕ) → n < length s → a < widest → m ≡ suc n → held (set s n (b * widest + a)) m ≡ pixel a b ∷ held s n
unfolding held
held_push s n a b m l h e =
    ap (held (set s n (b * widest + a))) e
    ∙ (λ i. ((ap entry_of (get_or-set_same s n (b * widest + a) 0 l) ∙ entry_of_lem a b h) i) ∷ held_set s n n (b * widest + a) (omega arith) i)
