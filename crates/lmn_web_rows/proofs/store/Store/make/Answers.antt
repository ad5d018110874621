use Rattle.std.proofs.Common.{◌∙◌}
use Rattle.std.proofs.lemmas.Result.{MatchResult-weaker}
use Rattle.lmn_web_rows.proofs.StoreLemmas.{made_after}
use Rattle.lmn_web_rows.proofs.store.Store.make.Goals as goal

pub returns-in-None : goal.returns-in-None
returns-in-None c = MatchResult-weaker c.make_anew.result c.make_anew.ensures (λ p h. (h.0, made_after _ _ _ _ _ c.in-None.ensures h.1)) (λ e h m. h m ∙ c.in-None.ensures m)
