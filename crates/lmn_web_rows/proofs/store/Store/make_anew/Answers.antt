use Rattle.lmn_web_rows.proofs.StoreLemmas.{made_after}
use Rattle.lmn_web_rows.proofs.store.Store.make_anew.Goals as goal

pub returns : goal.returns
returns c = (c.carve.ensures.0, made_after _ _ _ _ _ c.provide.ensures.rows c.carve.ensures.1)
