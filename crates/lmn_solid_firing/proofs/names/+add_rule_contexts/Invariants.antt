use Rattle.std.proofs.Common.{◌≡◌, ◌+◌, ◌++◌, drop, map}
use Rattle.std.specs.Prelude.{sum}
use Rattle.lmn_solid_bodies.specs.Flattening.{names_below, numbering}
use Rattle.lmn_solid_firing.proofs.names.+add_rule_contexts.Given as goal

abbrev pub decreases-add_rule_contexts : goal.decreases-add_rule_contexts
decreases-add_rule_contexts l = goal.size-add_rule_contexts l

abbrev pub invariant-loop-membrane : goal.invariant-loop-membrane
invariant-loop-membrane l = record {
  names : l.names ++ names_below l.behind (map (numbering (λ l. l.rule_contexts)) (drop l.membrane-index l.membrane-items)) ≡ l.fn.names ++ (numbering (λ l. l.rule_contexts) l.level).names l.inside l.next;
  behind : l.behind + sum (map (λ m. 1 + m.size) (map (numbering (λ l. l.rule_contexts)) (drop l.membrane-index l.membrane-items))) ≡ l.next + (numbering (λ l. l.rule_contexts) l.level).size;
}
