use Rattle.lmn_app.proofs.OneCheck.{Grounds, checked_not_wrong, neither_checked_nor_wrong, one_count, one_wrong_trace, runs_are_checked}
use Rattle.lmn_app.proofs.laws.traces_are_checked.Goals as goal

pub returns : goal.returns
returns c =
    let commits = c.chains_are_commits.ensures in
    let grounds : Grounds = record {
      laws = c.accepted_texts.ensures;
      printables = c.plains_are_printable.ensures;
      commits = commits.all;
      each = commits.each;
      chains = c.traces_are_chains.ensures;
      one_of = c.traces_are_one_of.ensures;
    } in
    record { one = one_count grounds; apart = checked_not_wrong grounds; neither = neither_checked_nor_wrong grounds c.no_trace_is_neither.ensures; refusal = one_wrong_trace grounds; runs = runs_are_checked grounds }
