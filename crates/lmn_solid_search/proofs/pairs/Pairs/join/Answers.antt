use Rattle.std.proofs.Common.{◌∙◌, ap, Some}
use Rattle.lmn_solid_search.proofs.PairingLemmas.{both_numbered, left_numbered, right_numbered, pair_added}
use Rattle.lmn_solid_search.proofs.pairs.Pairs.join.Goals as goal

pub returns-in-Some-at-clause-joined : goal.returns-in-Some-at-clause-joined
returns-in-Some-at-clause-joined c = both_numbered c.args.self.now c.args.left c.args.right c.in-Some.number c.in-Some-at.other
    (c.at.ensures ∙ ap Some c.in-Some.is) (c.at-in-Some.ensures ∙ ap Some c.in-Some-at.is)

pub returns-in-None-at-clause-joined : goal.returns-in-None-at-clause-joined
returns-in-None-at-clause-joined c = left_numbered c.args.self.now c.args.left c.args.right c.in-Some.number
    (c.at.ensures ∙ ap Some c.in-Some.is) (c.at-in-Some.ensures ∙ ap Some c.in-None-at.is)

pub returns-in-Some-at-2-clause-joined : goal.returns-in-Some-at-2-clause-joined
returns-in-Some-at-2-clause-joined c = right_numbered c.args.self.now c.args.left c.args.right c.in-Some-at-2.field-0
    (c.at.ensures ∙ ap Some c.in-None.is) (c.at-in-None.ensures ∙ ap Some c.in-Some-at-2.is)

pub returns-in_ok-add-in-None-at-2-clause-joined : goal.returns-in_ok-add-in-None-at-2-clause-joined
returns-in_ok-add-in-None-at-2-clause-joined c = pair_added c.args.self.now c.add.new.self c.args.left c.args.right
    (c.at.ensures ∙ ap Some c.in-None.is) (c.at-in-None.ensures ∙ ap Some c.in-None-at-2.is) c.in_ok-add-in-None-at-2.ensures.added
