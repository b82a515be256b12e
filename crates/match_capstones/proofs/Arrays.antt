-- An array that holds a list, and one element more. Assumes nothing.
use Prim.Native.Nat.{ℕ, suc, ◌+◌, ◌-◌, ◌≤◌, ◌<◌}
use native.Mathlib.Numerals.{add-one}
use native.Mathlib.Omega.{arith}
use mathlib.Core.Path.{◌≡◌, refl, sym, ap, ◌∙◌}
use mathlib.Core.List.{List, [], ◌∷◌, ◌++◌, append-nil, append_assoc}
use lib.ListN.{length, take, set, replicate, length-set, length-append, length-take}
use lib.Seq.{take-suc-set, length-take-le, set_at}
use Rattle.match_capstones.specs.Arrays.{Holds}

-- an array's first n places hold what stands there
pub holds_first : {A : Type 0} (room : ℕ) (all : List A) (n : ℕ) → length all ≡ room → n ≤ room → Holds room all n (take n all)
holds_first room all n e low = record { room_is = e; count = sym (length-take-le n all (omega arith)); first = refl }

module _ {A : Type 0} {room : ℕ} {all : List A} {n : ℕ} {list : List A} (h : Holds room all n list) where
  pub holds_low : n ≤ room
  holds_low = omega (arith, h.room_is, h.count, ap length h.first, length-take n all)

  pub holds_same : Holds room all n (list ++ [])
  holds_same = rw append-nil h

  pub holds_more : (x : A) → n < room → Holds room (set all n x) (n + 1) (list ++ (x ∷ []))
  holds_more x low = record {
    room_is = length-set all n x ∙ h.room_is;
    count = simp (length-append, ← h.count);
    first = rw (add-one, take-suc-set all n x (omega arith), h.first);
  }

-- an array that holds a list and blanks behind it: one element more takes the place of a blank
pub laid_more : {A : Type 0} (room : ℕ) (all list : List A) (x blank : A) (i : ℕ) → length list ≡ i → i < room
    → all ≡ list ++ replicate (room - i) blank → set all i x ≡ (list ++ (x ∷ [])) ++ replicate (room - (i + 1)) blank
laid_more room all list x blank i long low e =
    let one : room - i ≡ suc (room - (i + 1)) = omega arith in
    rw (e, one, append_assoc list (x ∷ []) (replicate (room - (i + 1)) blank)) (set_at list blank (replicate (room - (i + 1)) blank) x i long)
