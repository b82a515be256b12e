-- Paint taken off byte by byte: after some bytes, and one byte more. Assumes nothing.
use Prim.Native.Nat.{ℕ, suc, ◌+◌, ◌≤◌, ◌<◌}
use mathlib.Core.Path.{◌≡◌, refl}
use mathlib.Core.List.{List, ◌++◌, map, append_assoc, append-nil}
use native.Mathlib.Omega.{arith}
use native.Mathlib.Numerals.{add-one}
use lib.ListN.{length, get_or, take, drop, set, drop_of_length-le}
use lib.Seq.{drop-cons, take-suc-set, drop-set-lt, take_all}
use Rattle.rollback.specs.Unpainted.{unpainted}

-- the bytes passed as they are, and those to come without their paint
pub passing : List ℕ → ℕ → List ℕ
passing p i = take i p ++ map unpainted (drop i p)

pub passing_starts : (p : List ℕ) → passing p 0 ≡ map unpainted p
unfolding passing
passing_starts p = refl

pub passing_goes_on : (p : List ℕ) (i v : ℕ) → i < length p → v ≡ unpainted (get_or p i 0) → passing p i ≡ passing (set p i v) (i + 1)
unfolding passing
passing_goes_on p i v h e = rw (add-one, take-suc-set p i v h, drop-set-lt (suc i) p i v (omega arith), drop-cons p i 0 h, append_assoc, e)

pub passing_ends : (p : List ℕ) (i : ℕ) → length p ≤ i → passing p i ≡ p
unfolding passing
passing_ends p i h = rw (take_all i p h, drop_of_length-le p {i = i} h, append-nil)
