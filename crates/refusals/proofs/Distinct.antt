-- A number says which refusal it is: no two refusals share one. Assumes nothing.
use Prim.Native.Nat.{ℕ}
use mathlib.Core.Path.{◌≡◌, refl, ap, sym, ◌∙◌}
use mathlib.Core.Bool.{cond}
use lib.Dec.{eqb}
use Rattle.refusals.specs.Numbers.{number_of}
use Rattle.refusals.specs.Finding.{Finding, refused_by}
use Rattle.refusals.specs.declared.Refusal.{Refusal}
use Rattle.refusals.specs.declared.Refusal.TheVariants.{Size, Length, Room, Byte, Outside, White, Same, Target, Table, Number, Stones, Far, Unplaced, Timing, Turned, Index, File}

-- the refusal that has a number
named : ℕ → Refusal
named n =
    cond (eqb n 1) Size
    (cond (eqb n 2) Length
    (cond (eqb n 3) Room
    (cond (eqb n 4) Byte
    (cond (eqb n 5) Outside
    (cond (eqb n 6) White
    (cond (eqb n 7) Same
    (cond (eqb n 8) Target
    (cond (eqb n 9) Table
    (cond (eqb n 10) Number
    (cond (eqb n 11) Stones
    (cond (eqb n 12) Far
    (cond (eqb n 13) Unplaced
    (cond (eqb n 14) Timing
    (cond (eqb n 15) Turned
    (cond (eqb n 16) Index File)))))))))))))))

named_number : (r : Refusal) → named (number_of r) ≡ r
unfolding named
named_number Size = refl
named_number Length = refl
named_number Room = refl
named_number Byte = refl
named_number Outside = refl
named_number White = refl
named_number Same = refl
named_number Target = refl
named_number Table = refl
named_number Number = refl
named_number Stones = refl
named_number Far = refl
named_number Unplaced = refl
named_number Timing = refl
named_number Turned = refl
named_number Index = refl
named_number File = refl

pub number_only : {a b : Refusal} → number_of a ≡ number_of b → a ≡ b
number_only {a} {b} e = sym (named_number a) ∙ ap named e ∙ named_number b

-- two refusals that answer the same are the same
pub refusal_only : {A : Type 0} {a b : Refusal} → ◌≡◌ {A = Finding A} (refused_by a) (refused_by b) → a ≡ b
refusal_only e = number_only (cc)
