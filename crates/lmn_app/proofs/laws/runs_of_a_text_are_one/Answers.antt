use Rattle.lmn_app.proofs.OneRun.{earlier_run_first, one_run, one_run_so_far}
use Rattle.lmn_app.proofs.laws.runs_of_a_text_are_one.Goals as goal

pub returns : goal.returns
returns c =
    let laws = c.accepted_texts.ensures in
    let printables = c.plains_are_printable.ensures in
    record { one = one_run laws printables; so_far = one_run_so_far laws printables; first = earlier_run_first laws printables }
