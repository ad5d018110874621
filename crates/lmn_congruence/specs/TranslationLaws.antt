-- The laws of the translation from values to trees, regions and processes.
use Rattle.std.specs.Prelude.{ℕ, ◌≡◌, ◌↔◌, ◌==◌, List, ◌++◌, length, slice_get, Some, codes, count_by, All}
use Rattle.lmn_base.specs.declared.functor.Label.{Label}
use Rattle.lmn_base.specs.declared.level.Level.{Level}
use Rattle.lmn_base.specs.declared.rule.RuleTree.{RuleTree}
use Rattle.lmn_base.specs.declared.rule.Plain.{Plain}
use Rattle.lmn_base.specs.declared.solid.Solid.{Solid}
use Rattle.lmn_base.specs.Levels.{links_of}
use Rattle.lmn_base.specs.Solids.{atoms_of_region, item_count, links_of_region as solid_links, IsSolid}
use Rattle.lmn_base.specs.Names.{IsNames, HasNames, label_names, NamesSolid}
use Rattle.lmn_base.specs.Links.{EachTwice}
use Rattle.lmn_base.specs.WellMade.{IsWellMade, IsLinkedRule}
use Rattle.lmn_congruence.specs.Process.{occurrences, Closed}
use Rattle.lmn_congruence.specs.Rules.{Name, named, Rule}
use Rattle.lmn_congruence.specs.LinkedRules.{level_occurrences, LinkedRule}
use Rattle.lmn_congruence.specs.Regions.{item_count_of_region}
use Rattle.lmn_congruence.specs.Plains.{SolidOf}
use Rattle.lmn_congruence.specs.SolidsOfPlains.{IsSolidOf}
use Rattle.lmn_congruence.specs.Translation.{label_of, level_of, rule_tree, numbered_rule, plain_process, region_of, solid_process, top_of}

-- the rule with a number is the tree of its head, guard and body, in which each number again stands for its rule
abbrev pub NumbersStandForRules : Type 0
NumbersStandForRules = (names : List Name) (p : Plain) (n : ℕ) (r : RuleTree) →
    IsWellMade p → slice_get p.rules n ≡ Some r →
    numbered_rule names p.rules n ≡ rule_tree names (numbered_rule names p.rules) r

-- a link occurs in the tree of a level as often as in the level
abbrev pub LevelLinksKept : Type 0
LevelLinksKept = (names : List Name) (number : ℕ → Rule) (l : Level) (x : ℕ) →
    level_occurrences x (level_of names number l) ≡ count_by (λ y. x == y) (links_of l)

-- and in the process of a plain as often as at its top
abbrev pub TopLinksKept : Type 0
TopLinksKept = (names : List Name) (p : Plain) → IsWellMade p → (x : ℕ) →
    occurrences x (plain_process names p) ≡ count_by (λ y. x == y) (links_of p.top)

-- and in the process of a solid as often as in the solid
abbrev pub SolidLinksKept : Type 0
SolidLinksKept = (names : List Name) (table : List RuleTree) (s : Solid) (x : ℕ) →
    occurrences x (solid_process names table s) ≡ count_by (λ y. x == y) (solid_links s.root)

-- a solid has as many items as its region
abbrev pub ItemsKept : Type 0
ItemsKept = (names : List Name) (table : List RuleTree) (s : Solid) →
    item_count_of_region (region_of names table s) ≡ item_count s

-- a rule is linked exactly where its tree is
abbrev pub LinkedRulesKept : Type 0
LinkedRulesKept = (names : List Name) (number : ℕ → Rule) (r : RuleTree) →
    IsLinkedRule r ↔ LinkedRule (rule_tree names number r)

-- the process of a solid is closed
abbrev pub SolidsClosed : Type 0
SolidsClosed = (names : List Name) (table : List RuleTree) (s : Solid) →
    IsSolid s → Closed (solid_process names table s)

-- and that of a plain exactly where each link of its top stands there twice
abbrev pub PlainsClosed : Type 0
PlainsClosed = (names : List Name) (p : Plain) → IsWellMade p →
    EachTwice (links_of p.top) ↔ Closed (plain_process names p)

-- labels whose names the list has are one label where their trees are one
abbrev pub LabelsApart : Type 0
LabelsApart = (names : List Name) (k l : Label) → IsNames names → HasNames names (label_names k ++ label_names l) →
    label_of names k ≡ label_of names l → k ≡ l

-- no atom in the region of a solid is named `=` and has two links
abbrev pub NoSolidConnector : Type 0
NoSolidConnector = (names : List Name) (table : List RuleTree) (s : Solid) → NamesSolid names table s → IsSolid s →
    All (λ a. ¬ ((label_of names a.functor.label ≡ named (codes "=")) × (length a.links ≡ 2))) (atoms_of_region s.root)

-- the solid of a plain has the region of the plain's top, by whatever names
abbrev pub SolidsOfPlains : Type 0
SolidsOfPlains = (names : List Name) (p : Plain) (s : Solid) → IsWellMade p → IsSolidOf p s →
    SolidOf (top_of names p) (region_of names p.rules s)
