-- Which byte is passed by: that of the newest entry, whose lookup leaves the table as it is. Assumes nothing.
use Prim.Native.Nat.{ℕ, ◌+◌, ◌≤◌, ◌<◌}
use native.Mathlib.Decide.{dec_lt}
use native.Mathlib.Omega.{arith}
use mathlib.Core.Path.{◌≡◌, refl, sym}
use mathlib.Core.Bool.{Bool, true, false, cond}
use mathlib.Core.List.{List, [], ◌∷◌}
use mathlib.Core.Logic.{by_cases}
use lib.Dec.{eqb}
use lib.ListN.{length, get_or, take}
use lib.Seq.{length-take-le, get_or-take}
use borrow.Author.Tests.{eq-eqb, eqb-false}
use Rattle.table.specs.Age.{without}
use Rattle.table.specs.Table.{most, entry_of, newest}
use Rattle.table.specs.Sound.{Ordered}
use Rattle.table.specs.declared.Table.{Table}
use Rattle.table.proofs.Times.{stands_times}
use Rattle.alignment.specs.Visit.{size_like}
use Rattle.alignment.specs.Glide.{newest_of, passed_of}

-- what is at the front is brought there with no change
front_stays : (l : List ℕ) → 0 < length l → get_or l 0 0 ∷ without (get_or l 0 0) l ≡ l
unfolding without
front_stays [] h = absurd (omega arith)
front_stays (x ∷ l) h = rw (eq-eqb x x refl)

module _ {T : Table} (A : most ≤ length T.age) (O : Ordered T) (some : 0 < T.n) where
  -- what was looked up last is the number of an entry
  pub newest_below : newest_of T < T.n
  newest_below =
      let whole = length-take-le T.n T.age (omega (arith, O.few)) in
      let t = stands_times (newest_of T) (take T.n T.age) 0 (omega arith) (get_or-take T.n T.age 0 0 some) in
      by_cases (dec_lt (newest_of T) T.n) (λ l. l) (λ m. absurd (omega (arith, O.order.no_other (newest_of T) (omega arith))))

  -- the newest entry is made the newest with no change
  pub newest_same : T ≡ newest T (newest_of T)
  newest_same = let e = front_stays T.age (omega arith) in λ i. record { entries = T.entries; age = sym e i; n = T.n }

-- the byte is that of the newest entry, which is not of the estimate's size
pub record PassedBy (estimate : ℕ) (T : Table) (byte : ℕ) : Type 0 where
  pub some : 0 < T.n
  pub shows : byte ≡ 5 + newest_of T
  pub size : size_like estimate (entry_of T (newest_of T)).px ≡ false

-- a byte that is passed by and not white
pub passed_told : {estimate : ℕ} {T : Table} {byte : ℕ} → byte ≡ passed_of estimate T → (byte ≡ 0 → ⊥) → PassedBy estimate T byte
unfolding passed_of
passed_told {estimate} {T} {byte} e dark = go (eqb T.n 0) (size_like estimate (entry_of T (newest_of T)).px) refl refl e
  where
    go : (a b : Bool) → eqb T.n 0 ≡ a → size_like estimate (entry_of T (newest_of T)).px ≡ b → byte ≡ cond a 0 (cond b 0 (5 + newest_of T)) → PassedBy estimate T byte
    go true b i j g = absurd (dark g)
    go false true i j g = absurd (dark g)
    go false false i j g = let n = eqb-false T.n 0 i in record { some = omega arith; shows = g; size = j }
