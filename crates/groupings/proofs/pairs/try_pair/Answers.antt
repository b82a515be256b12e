-- `try_pair` passes over a pair with a used stone, and puts any other on trial. Assumes nothing.
use mathlib.Core.Path.{sym, ◌∙◌, subst}
use Rattle.groups.specs.Group.{Centred, Cornered}
use Rattle.groups.specs.declared.CapStoneGroup.{CapStoneGroup}
use Rattle.groupings.specs.Groups.{passed_over, on_trial}
use Rattle.groupings.specs.Held.{groups_of}
use Rattle.groupings.proofs.Uses.{h_used, v_used, neither_used}
use Rattle.groupings.proofs.Copy.{on_group}
use Rattle.groupings.proofs.Going.{held_room}
use Rattle.groupings.proofs.pairs.try_pair.Goals as goal

pub is_used-requires : goal.is_used-requires
is_used-requires c = c.requires.3.laid.few

pub returns-then-is_used : goal.returns-then-is_used
returns-then-is_used c =
    (passed_over (h_used (groups_of c.args.held) c.args.pair (sym c.is_used.ensures ∙ c.if-is_used.true)) c.requires.3.going, c.requires.3.laid, c.requires.5)

pub is_used-requires-2 : goal.is_used-requires-2
is_used-requires-2 c = c.requires.3.laid.few

pub returns-then-is_used-2 : goal.returns-then-is_used-2
returns-then-is_used-2 c =
    (passed_over (v_used (groups_of c.args.held) c.args.pair (sym c.is_used-2.ensures ∙ c.if-is_used-2.true)) c.requires.3.going, c.requires.3.laid, c.requires.5)

pub group_of-group-requires : goal.group_of-group-requires
group_of-group-requires c =
    record { first = c.requires.2.proper.h_low; second = c.requires.4.centre_low; third = c.requires.2.proper.v_low }

pub trial-answer-requires : goal.trial-answer-requires
trial-answer-requires c =
    let is = sym c.group_of-group.ensures in
    (c.requires.0, c.requires.1, subst (λ (g : CapStoneGroup). Centred g) is c.requires.2.centred, subst (λ (g : CapStoneGroup). Cornered g) is c.requires.2.cornered)

pub taken-requires : goal.taken-requires
taken-requires c =
    let free = neither_used (groups_of c.args.held) c.args.pair (sym c.is_used.ensures ∙ c.if-is_used.false) (sym c.is_used-2.ensures ∙ c.if-is_used-2.false) in
    (c.requires.3, held_room c.args.held c.requires.3 c.requires.4 c.requires.2.proper free)

pub returns : goal.returns
returns c =
    let free = neither_used (groups_of c.args.held) c.args.pair (sym c.is_used.ensures ∙ c.if-is_used.false) (sym c.is_used-2.ensures ∙ c.if-is_used-2.false) in
    (on_trial free _ (on_group c.group_of-group.ensures c.trial-answer.ensures.0) c.taken.ensures.0, c.taken.ensures.1, c.taken.ensures.2 _ _ _ c.requires.5 c.trial-answer.ensures.1)
