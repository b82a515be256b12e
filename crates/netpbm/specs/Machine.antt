-- The reader as a machine that goes from state to state by bytes. `Reads` ties it to the form. Definitions alone.
use Rattle.std.specs.Prelude.{ℕ, zero, suc, ◌+◌, ◌-◌, ◌*◌, ◌≤◌, ◌<◌, Bool, cond, ◌&&◌, List, [], ◌∷◌, eqb, leb, ltb, set, Option, Some, None}
use Rattle.netpbm.specs.Form.{most_pixels, space, digit, bit}
use Rattle.netpbm.specs.declared.Number.{Number}
use Rattle.netpbm.specs.declared.Body.{Body}
use Rattle.netpbm.specs.declared.Sides.{Sides}
use Rattle.netpbm.specs.declared.Reader.{Reader}
use Rattle.netpbm.specs.declared.Reader.TheVariants.{Nothing, Letter, Magic, BeforeWidth, Width, BeforeHeight, Height, Pixels, Broken}

-- a number before its first digit
abbrev pub none : Number
none = record { digits = 0; value = 0 }

-- a byte can go on with a number: a digit, and the fifth at most
unfoldable pub takes : Number → ℕ → Bool
takes n b = ltb n.digits 5 && digit b

-- the number with one digit more
abbrev pub longer : Number → ℕ → Number
longer n b = record { digits = n.digits + 1; value = n.value * 10 + (b - 48) }

-- a byte where the width is read
unfoldable pub in_width : Number → ℕ → Reader
in_width n b = cond (takes n b) (Width (longer n b)) Broken

-- a byte where the height is read, after a width w
unfoldable pub in_height : ℕ → Number → ℕ → Reader
in_height w n b = cond (takes n b) (Height w (longer n b)) Broken

-- the header's end: the pixels come next, unless they are too many
unfoldable pub sized : ℕ → ℕ → Reader
sized w h = cond (leb (w * h) most_pixels) (Pixels (record { width = w; height = h; count = 0 })) Broken

-- a byte is the next pixel: 0 or 1, and there are pixels to come
unfoldable pub takes_pixel : Body → ℕ → Bool
takes_pixel p b = ltb p.count (p.width * p.height) && bit b

-- a byte among the pixels
unfoldable pub in_pixels : Body → ℕ → Reader
in_pixels p b = cond (takes_pixel p b) (Pixels (record { width = p.width; height = p.height; count = p.count + 1 })) Broken

-- the state after one more byte
unfoldable pub stepped : Reader → ℕ → Reader
stepped Nothing b = cond (eqb b 80) Letter Broken
stepped Letter b = cond (eqb b 49) Magic Broken
stepped Magic b = cond (space b) BeforeWidth Broken
stepped BeforeWidth b = cond (space b) BeforeWidth (in_width none b)
stepped (Width n) b = cond (space b) (BeforeHeight n.value) (in_width n b)
stepped (BeforeHeight w) b = cond (space b) (BeforeHeight w) (in_height w none b)
stepped (Height w n) b = cond (space b) (sized w n.value) (in_height w n b)
stepped (Pixels p) b = cond (space b) (Pixels p) (in_pixels p b)
stepped Broken b = Broken

-- what the lent pixels hold after a byte among the pixels: the next pixel goes to its place
unfoldable pub kept_in : Body → ℕ → List ℕ → List ℕ
kept_in p b pixels = cond (takes_pixel p b) (set pixels p.count (b - 48)) pixels

-- what they hold after any byte: elsewhere in the file nothing is stored
unfoldable pub kept : Reader → ℕ → List ℕ → List ℕ
kept Nothing b pixels = pixels
kept Letter b pixels = pixels
kept Magic b pixels = pixels
kept BeforeWidth b pixels = pixels
kept (Width n) b pixels = pixels
kept (BeforeHeight w) b pixels = pixels
kept (Height w n) b pixels = pixels
kept (Pixels p) b pixels = kept_in p b pixels
kept Broken b pixels = pixels

-- a reading: its state, and what the lent pixels hold
pub record Reading : Type 0 where
  pub reader : Reader
  pub pixels : List ℕ

-- the same, put together
abbrev pub reading : Reader → List ℕ → Reading
reading r pixels = record { reader = r; pixels = pixels }

-- the reading after one more byte
abbrev pub next : Reading → ℕ → Reading
next s b = reading (stepped s.reader b) (kept s.reader b s.pixels)

-- the reading after bytes in a row
unfoldable pub fed : Reading → List ℕ → Reading
fed s [] = s
fed s (b ∷ more) = fed (next s b) more

-- a bitmap with these sides
abbrev pub bitmap : ℕ → ℕ → Option Sides
bitmap w h = Some (record { width = w; height = h })

-- what a file is that ends among the pixels
unfoldable pub ended_at : Body → Option Sides
ended_at p = cond (eqb p.count (p.width * p.height)) (bitmap p.width p.height) None

-- what a file is that ends in a state: a bitmap only among the pixels
unfoldable pub ended_in : Reader → Option Sides
ended_in Nothing = None
ended_in Letter = None
ended_in Magic = None
ended_in BeforeWidth = None
ended_in (Width n) = None
ended_in (BeforeHeight w) = None
ended_in (Height w n) = None
ended_in (Pixels p) = ended_at p
ended_in Broken = None

-- ten to the power n
unfoldable pub decades : ℕ → ℕ
decades zero = 1
decades (suc n) = 10 * decades n

-- a number has five digits at most, and its digits can say it
pub record Below (n : Number) : Type 0 where
  pub few : n.digits ≤ 5
  pub low : n.value < decades n.digits

-- sides that make no more than the most pixels, and no more pixels read than they make
pub record Within (p : Body) : Type 0 where
  pub sides : p.width * p.height ≤ most_pixels
  pub part : p.count ≤ p.width * p.height

-- what holds of the numbers in a state, whatever was read
abbrev pub Bounded : Reader → Type 0
Bounded Nothing = Unit {0}
Bounded Letter = Unit {0}
Bounded Magic = Unit {0}
Bounded BeforeWidth = Unit {0}
Bounded (Width n) = Below n
Bounded (BeforeHeight w) = w < 100000
Bounded (Height w n) = (w < 100000) × Below n
Bounded (Pixels p) = Within p
Bounded Broken = Unit {0}
