-- `possible_sets` holds the sets that the neighbours passed make. There is room for all: the lists have no more than 63 in all. Assumes nothing.
use mathlib.Core.List.{◌++◌}
use lib.ListN.{take}
use Rattle.match_capstones.specs.Arrays.{Holds}
use Rattle.match_capstones.specs.Scores.{sets_of, made}
use Rattle.match_capstones.proofs.sets.possible_sets.Given as goal

-- those of the neighbours passed of the first list with all of the second
abbrev pub invariant-loop-hn : goal.invariant-loop-hn
invariant-loop-hn l =
    Holds 992 l.all l.n (made (take l.hn-index l.hn-items) (take l.vns.n l.vns.all))

-- and those of the next one with the neighbours passed of the second
abbrev pub invariant-loop-vn : goal.invariant-loop-vn
invariant-loop-vn l =
    Holds 992 l.all l.n (made (take l.hn-index l.hn-items) l.vn-items ++ sets_of (take l.vn-index l.vn-items) l.hn)
