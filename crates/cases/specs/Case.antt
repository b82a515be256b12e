-- What an example of document 01 is, and what it is that a table of them holds. Assumes nothing.
use Rattle.std.specs.Prelude.{◌≡◌, List, [], ◌∷◌}

-- an example: what is asked and what is to be answered, or a fact that it states
infix 4 ◌answers◌
pub data Case : Type 1 where
  ◌answers◌ : {A : Type 0} → A → A → Case
  states : Type 0 → Case

-- each example is so
unfoldable pub AllHold : List Case → Type 0
AllHold [] = Unit
AllHold ((asked answers answer) ∷ cases) = (asked ≡ answer) × AllHold cases
AllHold (states fact ∷ cases) = fact × AllHold cases
