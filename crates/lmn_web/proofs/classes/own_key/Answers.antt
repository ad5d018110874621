use Rattle.std.proofs.Common.{◌∙◌}
use Rattle.lmn_web.proofs.Reclassing.{key_alone}
use Rattle.lmn_web.proofs.classes.own_key.Goals as goal

pub returns-clause-class : goal.returns-clause-class
returns-clause-class c =
    let k = key_alone c.all_small.result in let s = c.all_small.ensures in
    λ t. ((k.0 ∙ s.class) t, (k.1 ∙ s.arity) t)
