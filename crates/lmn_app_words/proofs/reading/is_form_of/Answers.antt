use Rattle.std.proofs.Common.{◌∙◌, ap, is_some, sym}
use Rattle.lmn_app_words.specs.Forms.{texts_of}
use Rattle.lmn_app_words.proofs.ReadLemmas.{other_read}
use Rattle.lmn_app_words.proofs.reading.is_form_of.Goals as goal

pub returns-in_default : goal.returns-in_default
returns-in_default c =
    c.is_pair_form.ensures
    ∙ sym (ap is_some (other_read c.args.first.now (texts_of c.args.rest.now) c.in_default.not-run c.in_default.not-compile c.in_default.not-demo))
