-- The Rust's loop over a line (detect.rs, `capstones_from_image`): at each position that its machine answers something is done, which may paint, and the next byte is read after that. Assumes nothing.
use Rattle.std.specs.Prelude.{ℕ, zero, suc, ◌-◌, List, [], ◌∷◌}
use Rattle.scanner.specs.Machine.{Machine, new, advanced, answered}
use Rattle.scanner.specs.declared.LinePosition.{LinePosition}

module _ {State : Type 0} (act : LinePosition → State → State) where
  -- what is done at positions, one after the other
  unfoldable pub done_at : List LinePosition → State → State
  done_at [] s = s
  done_at (at ∷ more) s = done_at more (act at s)

  module _ (byte : State → ℕ → ℕ) where
    -- n columns from x on, and the virtual white pixel; each byte is the one that stands when it is read
    unfoldable pub line_from : ℕ → ℕ → Machine → State → State
    line_from zero x m s = done_at (answered m 0) s
    line_from (suc n) x m s = line_from n (suc x) (advanced m (byte s x)) (done_at (answered m (byte s x)) s)

    -- a line of w pixels
    abbrev pub rust_line : ℕ → State → State
    rust_line w s = line_from (w - 1) 1 (new (byte s 0)) s
