use Rattle.lmn_app.proofs.OneSessionText.{one_session_text, shown_reads_back}
use Rattle.lmn_app.proofs.laws.sessions_are_one.Goals as goal

pub returns : goal.returns
returns c = record {
  one = one_session_text c.accepted_texts.ensures c.plains_are_printable.ensures c.writing_is_one.ensures;
  shown = shown_reads_back c.accepted_texts.ensures c.plains_are_printable.ensures c.traces_are_runs.ensures;
}
