-- A plain that an accepted text may have, and one that none has.
use Rattle.std.specs.Prelude.{◌≡◌, List, [], ◌∷◌}
use Rattle.lmn_base.specs.declared.level.Level.TheViews.{roll-Level}
use Rattle.lmn_base.specs.declared.rule.Plain.{Plain}
use Rattle.lmn_base.specs.declared.rule.RuleTree.{RuleTree}
use Rattle.lmn_base.specs.Names.{IsNames}
use Rattle.lmn_congruence.specs.Rules.{Name}
use Rattle.lmn_weight.specs.Bounding.{IsAcceptedPlain}

-- nothing, and no rule
abbrev pub nothing_plain : Plain
nothing_plain = record { top = roll-Level (record { leaves = []; membranes = []; contexts = []; rule_contexts = []; rules = [] }); links = []; rules = [] }

-- it is as an accepted text has it, by every list of names
abbrev pub NothingIsAccepted : Type 0
NothingIsAccepted = (names : List Name) → IsNames names → IsAcceptedPlain names nothing_plain []

-- a rule without its plan isn't
abbrev pub UnplannedIsNot : Type 0
UnplannedIsNot = (names : List Name) (plain : Plain) (r : RuleTree) (rules : List RuleTree) → plain.rules ≡ r ∷ rules → ¬ (IsAcceptedPlain names plain [])
