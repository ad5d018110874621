use Rattle.lmn_app.proofs.OneBound.{Grounds, bound_not_refused, bound_or_refused, bound_where_lowered, one_bound, one_wrong_weights}
use Rattle.lmn_app.proofs.laws.weights_bound_or_are_refused.Goals as goal

pub returns : goal.returns
returns c =
    let read = c.weights_are_read_once.ensures in
    let grounds : Grounds = record {
      laws = c.accepted_texts.ensures;
      bounds = c.weights_bound_commits.ensures;
      telling = read.telling;
      right = read.right;
      line = read.line;
      told = c.weights_are_told_or_wrong.ensures;
      alike = c.plains_weigh_alike.ensures;
    } in
    record { one = one_bound grounds; apart = bound_not_refused grounds; refusal = one_wrong_weights grounds; either = bound_or_refused grounds; lowered = bound_where_lowered grounds }
