-- The rules of a plain are a table.
use Rattle.std.proofs.Common.{◌<◌, length}
use Rattle.std.proofs.lemmas.List.Elements.{All-weaker}
use Rattle.lmn_base.specs.Levels.{rules_of}
use Rattle.lmn_adequacy_turns.specs.Commits.{PlainsAreTables}
use Rattle.lmn_base.proofs.Lists.{all_of_right}

-- the rules of a well made plain are a table, where each is one that a text may have
pub plains_are_tables : PlainsAreTables
plains_are_tables plain r made rules = record {
  rules = rules;
  inner = λ k rule e. All-weaker (λ j. (k < j) × (j < length plain.rules)) (λ j. j < length plain.rules) (λ j h. h.1) (rules_of rule.body)
      (all_of_right (λ j. (k < j) × (j < length plain.rules)) (rules_of rule.head) (rules_of rule.body) (made.rules_in_rules k rule e));
}
