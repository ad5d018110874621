use Rattle.std.proofs.Common.{sym, ◌∙◌}
use Rattle.std.proofs.lemmas.Option.{same_Some}
use Rattle.lmn_app_words.specs.Forms.{texts_of}
use Rattle.lmn_app_words.proofs.ReadLemmas.{request_told, request_reads, form_reads, asks_form, in_ranges}
use Rattle.lmn_app_words.proofs.laws.asks_one.Goals as goal

pub returns-clause-some : goal.returns-clause-some
returns-clause-some c = λ words. (
  λ h. let r = form_reads (texts_of words) h in (r.0, request_told (texts_of words) r.0 r.1),
  λ h. asks_form (texts_of words) h.0 h.1,
)

pub returns-clause-one : goal.returns-clause-one
returns-clause-one c = λ words r h. (
  (r, h),
  λ other k. same_Some other r (sym (request_reads (texts_of words) other k) ∙ request_reads (texts_of words) r h),
)

pub returns-clause-ranges : goal.returns-clause-ranges
returns-clause-ranges c = λ words r h. in_ranges (texts_of words) r h
