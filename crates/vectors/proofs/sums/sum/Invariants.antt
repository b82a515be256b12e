-- `sum` takes byte after byte: the bytes that are left lead where the whole picture leads. Assumes nothing.
use Prim.Native.Nat.{◌<◌}
use mathlib.Core.Path.{◌≡◌}
use lib.ListN.{drop}
use Rattle.vectors.specs.Sums.{modulus, summed}
use Rattle.vectors.proofs.sums.sum.Given as goal

abbrev pub invariant-loop-byte : goal.invariant-loop-byte
invariant-loop-byte l = (l.total < modulus) × (summed l.factor l.total (drop l.byte-index l.pic) ≡ summed l.factor 0 l.pic)
