-- What is kept in the scratch comes back as it was. Assumes nothing.
use Prim.Native.Nat.{ℕ, ◌-◌, ◌≤◌}
use native.Mathlib.Omega.{arith}
use mathlib.Core.Path.{◌≡◌, sym, ap, ◌∙◌}
use mathlib.Core.List.{List, ◌++◌}
use lib.ListN.{length, take, drop, take-append-drop}
use lib.Seq.{take-length, drop-length, length-take-le, take-append_seam}

-- a picture that is kept in front of other bytes
pub kept_front : (p q s l : List ℕ) → length q ≡ length p → l ≡ take (length p) p ++ drop (length p) s → take (length q) l ≡ p
kept_front p q s l e k = rw (e, k, take-length p) (take-append_seam p (drop (length p) s))

-- copying a list over one of its own length leaves nothing of that
over : (p l : List ℕ) → length l ≡ length p → take (length l) l ++ drop (length l) p ≡ l
over p l e = let none : drop (length l) p ≡ drop (length l) l = ap (λ (n : ℕ). drop n p) e ∙ drop-length p ∙ sym (drop-length l) in rw none (take-append-drop (length l) l)

-- copying the front of s over all of p
pub front_copied : (p s : List ℕ) → length p ≤ length s
    → take (length (take (length p - 0) s)) (take (length p - 0) s) ++ drop (length (take (length p - 0) s)) p ≡ take (length p) s
front_copied p s enough =
    let same : length p - 0 ≡ length p = omega arith in
    rw same (over p (take (length p) s) (length-take-le (length p) s enough))

-- a picture written over the front of s
pub front_written : (p s l : List ℕ) → l ≡ p → l ++ drop (length p - 0) s ≡ take (length p) p ++ drop (length p) s
front_written p s l e =
    let whole : length p - 0 ≡ length p = omega arith in
    rw (e, whole, take-length p)
