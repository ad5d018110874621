-- A small plain, and what its solid is.
use Rattle.std.specs.Prelude.{ℕ, List, [], ◌∷◌}
use Rattle.lmn_base.specs.declared.functor.Label.TheVariants.{Name}
use Rattle.lmn_base.specs.declared.level.Leaf.TheVariants.{Atom}
use Rattle.lmn_base.specs.declared.level.Level.{Level}
use Rattle.lmn_base.specs.declared.level.Level.TheViews.{roll-Level}
use Rattle.lmn_base.specs.declared.rule.Plain.{Plain}
use Rattle.lmn_base.specs.declared.rule.RuleTree.{RuleTree}
use Rattle.lmn_base.specs.declared.solid.Region.TheViews.{roll-Region}
use Rattle.lmn_base.specs.declared.solid.Solid.{Solid}
use Rattle.lmn_congruence.specs.SolidsOfPlains.{IsSolidOf}
use Rattle.lmn_base.specs.SmallTexts.{somewhere}

-- a level of one atom without links, by the number of its name
abbrev pub one_atom : ℕ → Level
one_atom n = roll-Level (record { leaves = Atom (record { label = Name n; arity = 0 }) [] somewhere ∷ []; membranes = []; contexts = []; rule_contexts = []; rules = [] })

-- `a :- b`
abbrev pub a_makes_b : RuleTree
a_makes_b = record { head = one_atom 4; guard = []; body = one_atom 5; links = []; pos = somewhere }

-- the plain of `a :- b. a :- b.`
abbrev pub two_rules : Plain
two_rules = record {
  top = roll-Level (record { leaves = []; membranes = []; contexts = []; rule_contexts = []; rules = 0 ∷ 1 ∷ [] });
  links = [];
  rules = a_makes_b ∷ a_makes_b ∷ [];
}

-- a solid with these rules alone
abbrev pub solid_with_rules : List ℕ → Solid
solid_with_rules rules = record { root = roll-Region (record { atoms = []; membranes = []; rules = rules }) }

-- Its solid has the rules 0 and 1. One with the rule 1 twice is another, though both rules are the same tree.
abbrev pub RulesKeepTheirNumbers : Type 0
RulesKeepTheirNumbers = IsSolidOf two_rules (solid_with_rules (0 ∷ 1 ∷ [])) × (¬ (IsSolidOf two_rules (solid_with_rules (1 ∷ 1 ∷ []))))
