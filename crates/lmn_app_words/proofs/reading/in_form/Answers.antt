use Rattle.lmn_app_words.proofs.ReadLemmas.{form_read}
use Rattle.lmn_app_words.proofs.reading.in_form.Goals as goal

pub returns : goal.returns
returns c = form_read c.args.words.now c.is_form.result c.is_form.ensures
