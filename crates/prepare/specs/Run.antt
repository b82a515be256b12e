-- What a row is handed on its way through the threshold, and what it hands on. Assumes nothing.
use Rattle.std.specs.Prelude.{ℕ, ◌+◌, ◌*◌, ◌^◌, ◌≤◌, ◌<◌, ◌≡◌, List, reverse, length, get_or, take}
use Rattle.prepare.specs.Threshold.{after, along, from_right}
use Rattle.prepare.specs.declared.averages.Ends.{Ends}

-- a span and averages that a picture can have, an average being never above 255 x s, and room to keep a row's averages
pub record Ready (s left right : ℕ) (row lefts rights : List ℕ) : Type 0 where
  pub some : 1 ≤ s
  pub few : s ≤ 100
  pub left_low : left ≤ 255 * s
  pub right_low : right ≤ 255 * s
  pub left_room : length row ≤ length lefts
  pub right_room : length row ≤ length rights

-- the averages at the end of a row
abbrev pub ends_of : ℕ → ℕ → ℕ → List ℕ → Ends
ends_of s left right row = record { left = after s left row; right = after s right (reverse row) }

-- what is kept of a run along a row: both averages at each column
pub record Kept (s left right : ℕ) (row lefts rights : List ℕ) : Type 0 where
  pub from_left : take (length row) lefts ≡ along s left row
  pub from_the_right : take (length row) rights ≡ from_right s right row

-- two averages kept for each column of a row, whose sum fits 16 bits
pub record Columns (row lefts rights : List ℕ) : Type 0 where
  pub left_room : length row ≤ length lefts
  pub right_room : length row ≤ length rights
  pub low : (x : ℕ) → x < length row → get_or lefts x 0 + get_or rights x 0 < 2 ^ 16
