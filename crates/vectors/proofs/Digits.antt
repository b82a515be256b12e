-- Words digit by digit: what one more digit makes of a word, and that 16 digits fit. Assumes nothing.
use Prim.Native.Nat.{ℕ, zero, suc, ◌+◌, ◌-◌, ◌*◌, ◌^◌, ◌≤◌, ◌<◌}
use native.Mathlib.Nat.{mul_assoc, mul-le-mul_left, mul-le-mul_right, one-le-pow, pow-succ'}
use native.Mathlib.Omega.{arith}
use mathlib.Core.Path.{◌≡◌, refl}
use mathlib.Core.List.{List}
use borrow.Author.Tests.{le-leb, lt-leb}
use Rattle.vectors.specs.Words.{digit_at, read_on}

-- no digit stands at a place: the word ends there
pub ends_at : (k : ℕ) (s : List ℕ) (n at : ℕ) → 16 ≤ digit_at s at → read_on k s n at ≡ record { value = n; next = at }
unfolding read_on
ends_at zero s n at h = refl
ends_at (suc k) s n at h = rw (le-leb 16 (digit_at s at) h)

-- no digit is to be read any more
pub ends_here : (k : ℕ) (s : List ℕ) (n at : ℕ) → k ≤ 0 → read_on k s n at ≡ record { value = n; next = at }
unfolding read_on
ends_here zero s n at h = refl
ends_here (suc k) s n at h = absurd (omega arith)

-- a digit stands there: the word goes on behind it
pub goes_on : (k : ℕ) (s : List ℕ) (n at : ℕ) → 0 < k → digit_at s at < 16 → read_on k s n at ≡ read_on (k - 1) s (n * 16 + digit_at s at) (at + 1)
unfolding read_on
goes_on zero s n at p h = absurd (omega arith)
goes_on (suc k) s n at p h = let one : suc k - 1 ≡ k = omega arith in rw (lt-leb 16 (digit_at s at) h, one)

-- there is room for k digits more behind those that say n
abbrev pub Room : ℕ → ℕ → Type 0
Room k n = (n + 1) * 16 ^ k ≤ 2 ^ 64

-- one digit more fits
pub room_now : (k n : ℕ) → 0 < k → Room k n → (n + 1) * 16 ≤ 2 ^ 64
room_now zero n p r = absurd (omega arith)
room_now (suc k) n p r =
    let more : (n + 1) * 16 * 1 ≤ (n + 1) * 16 * 16 ^ k = mul-le-mul_left ((n + 1) * 16) (one-le-pow k 16 (omega arith)) in
    let same : (n + 1) * 16 ^ suc k ≡ (n + 1) * 16 * 16 ^ k = rw (pow-succ' 16 k, mul_assoc (n + 1) 16 (16 ^ k)) in
    omega arith

-- and leaves room for one less
pub room_on : (k n d : ℕ) → 0 < k → d < 16 → Room k n → Room (k - 1) (n * 16 + d)
room_on zero n d p h r = absurd (omega arith)
room_on (suc k) n d p h r =
    let one : suc k - 1 ≡ k = omega arith in
    let less : (n * 16 + d + 1) * 16 ^ k ≤ (n + 1) * 16 * 16 ^ k = mul-le-mul_right (16 ^ k) (omega arith) in
    let same : (n + 1) * 16 ^ suc k ≡ (n + 1) * 16 * 16 ^ k = rw (pow-succ' 16 k, mul_assoc (n + 1) 16 (16 ^ k)) in
    rw one (omega arith)
