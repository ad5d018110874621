use Rattle.lmn_app.proofs.SmallFolded.{small_text_runs_folded}
use Rattle.lmn_app.proofs.laws.small_text_runs_folded.Goals as goal

pub returns : goal.returns
returns c = small_text_runs_folded (record { accepted = c.accepted_texts.ensures; printable = c.plains_are_printable.ensures; runs = c.traces_are_runs.ensures })
