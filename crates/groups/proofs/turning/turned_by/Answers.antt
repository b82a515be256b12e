-- `turned_by` compares the stone with its three turns, one after the other. Assumes nothing.
use mathlib.Core.Path.{sym, subst}
use Rattle.groups.specs.Side.{side_of}
use Rattle.groups.specs.Group.{Framed}
use Rattle.groups.specs.Turn.{turned_by}
use Rattle.groups.proofs.Turns.{turn_framed, lefter_framed}
use Rattle.groups.proofs.turning.turned_by.Goals as goal

pub lefter-of_two-requires : goal.lefter-of_two-requires
lefter-of_two-requires c =
    let once : Framed c.turn-once.result = subst Framed (sym c.turn-once.ensures) (turn_framed c.requires.fact_1) in
    record { fact_1 = c.requires.fact_1; fact_2 = once; fact_3 = c.requires.fact_2; fact_4 = c.requires.fact_3 }

pub lefter-of_three-requires : goal.lefter-of_three-requires
lefter-of_three-requires c =
    let once : Framed c.turn-once.result = subst Framed (sym c.turn-once.ensures) (turn_framed c.requires.fact_1) in
    let of_two : Framed c.lefter-of_two.result = subst Framed (sym c.lefter-of_two.ensures) (lefter_framed (side_of c.args.h0 c.args.hd) c.requires.fact_1 (once)) in
    let twice : Framed c.turn-twice.result = subst Framed (sym c.turn-twice.ensures) (turn_framed (once)) in
    record { fact_1 = of_two; fact_2 = twice; fact_3 = c.requires.fact_2; fact_4 = c.requires.fact_3 }

pub lefter-requires : goal.lefter-requires
lefter-requires c =
    let once : Framed c.turn-once.result = subst Framed (sym c.turn-once.ensures) (turn_framed c.requires.fact_1) in
    let of_two : Framed c.lefter-of_two.result = subst Framed (sym c.lefter-of_two.ensures) (lefter_framed (side_of c.args.h0 c.args.hd) c.requires.fact_1 (once)) in
    let twice : Framed c.turn-twice.result = subst Framed (sym c.turn-twice.ensures) (turn_framed (once)) in
    let of_three : Framed c.lefter-of_three.result = subst Framed (sym c.lefter-of_three.ensures) (lefter_framed (side_of c.args.h0 c.args.hd) (of_two) (twice)) in
    let thrice : Framed c.turn.result = subst Framed (sym c.turn.ensures) (turn_framed (twice)) in
    record { fact_1 = of_three; fact_2 = thrice; fact_3 = c.requires.fact_2; fact_4 = c.requires.fact_3 }

pub returns : goal.returns
unfolding turned_by
returns c =
    rw (c.lefter.ensures, c.turn.ensures, c.lefter-of_three.ensures, c.lefter-of_two.ensures, c.turn-twice.ensures, c.turn-once.ensures)
