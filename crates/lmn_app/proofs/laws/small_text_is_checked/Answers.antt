use Rattle.lmn_app.proofs.OneCheck.{Grounds}
use Rattle.lmn_app.proofs.SmallChecks.{nothing_is_wrong, small_text_is_checked, small_text_is_not_twice}
use Rattle.lmn_app.proofs.laws.small_text_is_checked.Goals as goal

pub returns : goal.returns
returns c =
    let commits = c.chains_are_commits.ensures in
    let grounds : Grounds = record {
      laws = c.accepted_texts.ensures;
      printables = c.plains_are_printable.ensures;
      commits = commits.all;
      each = commits.each;
      chains = c.traces_are_chains.ensures;
      one_of = c.traces_are_one_of.ensures;
    } in
    record { checked = small_text_is_checked grounds; only = small_text_is_not_twice grounds; wrong = nothing_is_wrong }
