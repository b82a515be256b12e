-- The form of a text bitmap: document 01, "Program `locate`". Definitions alone.
use Rattle.std.specs.Prelude.{ℕ, ◌+◌, ◌-◌, ◌*◌, ◌≤◌, ◌<◌, ◌≡◌, Bool, true, cond, ◌&&◌, ◌||◌, List, [], ◌∷◌, ◌++◌, eqb, leb, length}

-- no bitmap has more pixels
abbrev pub most_pixels : ℕ
most_pixels = 16384

-- white space: space, tab, carriage return, line feed
unfoldable pub space : ℕ → Bool
space b = eqb b 32 || eqb b 9 || eqb b 13 || eqb b 10

-- a decimal digit, 0 to 9
unfoldable pub digit : ℕ → Bool
digit b = leb 48 b && leb b 57

-- the digit 0 or the digit 1
unfoldable pub bit : ℕ → Bool
bit b = leb 48 b && leb b 49

-- each byte passes a test
unfoldable pub all : (ℕ → Bool) → List ℕ → Bool
all test [] = true
all test (b ∷ s) = test b && all test s

-- what decimal digits say that follow others, which say n: each digit makes ten times the number and itself
unfoldable pub said_after : ℕ → List ℕ → ℕ
said_after n [] = n
said_after n (b ∷ s) = said_after (n * 10 + (b - 48)) s

-- white space, one byte or more
pub record Gap (s : List ℕ) : Type 0 where
  pub white : all space s ≡ true
  pub some : 0 < length s

-- a header number: one to five decimal digits, which say n
pub record Numeral (s : List ℕ) (n : ℕ) : Type 0 where
  pub digits : all digit s ≡ true
  pub some : 0 < length s
  pub few : length s ≤ 5
  pub says : said_after 0 s ≡ n

-- what may follow the height: white space and the digits 0 and 1
abbrev pub white_or_bit : ℕ → Bool
white_or_bit b = space b || bit b

-- the pixels among white space, in their order: 0 for the digit 0, 1 for the digit 1
unfoldable pub pixels_in : List ℕ → List ℕ
pixels_in [] = []
pixels_in (b ∷ s) = cond (space b) (pixels_in s) ((b - 48) ∷ pixels_in s)

-- white space stands first
abbrev pub BeginsWhite : List ℕ → Type 0
BeginsWhite [] = ⊥
BeginsWhite (b ∷ s) = space b ≡ true

-- a bitmap: its sides, and its pixels line by line
pub record Picture : Type 0 where
  pub width : ℕ
  pub height : ℕ
  pub pixels : List ℕ

-- the file, byte by byte: `P1`, white space, the width, white space, the height, and a body that shows the pixels, no fewer and no more. Where there are pixels, white space stands before the first
pub record Form (file : List ℕ) (p : Picture) : Type 0 where
  pub gap : List ℕ
  pub first : List ℕ
  pub between : List ℕ
  pub second : List ℕ
  pub body : List ℕ
  pub whole : file ≡ 80 ∷ 49 ∷ (gap ++ (first ++ (between ++ (second ++ body))))
  pub after_magic : Gap gap
  pub says_width : Numeral first p.width
  pub after_width : Gap between
  pub says_height : Numeral second p.height
  pub few : p.width * p.height ≤ most_pixels
  pub parted : 0 < p.width * p.height → BeginsWhite body
  pub plain : all white_or_bit body ≡ true
  pub shows : pixels_in body ≡ p.pixels
  pub exact : length p.pixels ≡ p.width * p.height
