use Rattle.std.proofs.Common.{refl}
use Rattle.lmn_flatten_plain.specs.Keys.{IsKey}
use Rattle.lmn_flatten.proofs.BuiltLemmas.{levels_each}
use Rattle.lmn_flatten.proofs.part.Part.into_level.Goals as goal

pub returns : goal.returns
returns c = λ names keys p h.
    (_, refl, h.leaves, levels_each names (IsKey keys) p.membranes c.args.self.membranes h.membranes, h.contexts, h.rule_contexts, h.rules)
