-- What every rule and every plain is like.
use Rattle.std.specs.Prelude.{ℕ, ◌≡◌, ◌<◌, [], ◌∷◌, ◌++◌, length, slice_get, Some, All}
use Rattle.lmn_base.specs.declared.level.Leaf.{Leaf}
use Rattle.lmn_base.specs.declared.level.Leaf.TheVariants.{Atom, Typed}
use Rattle.lmn_base.specs.declared.rule.RuleTree.{RuleTree}
use Rattle.lmn_base.specs.declared.rule.Plain.{Plain}
use Rattle.lmn_base.specs.Levels.{leaves_of, contexts_of, rule_contexts_of, rules_of, links_of}
use Rattle.lmn_base.specs.Links.{EachTwice}
use Rattle.lmn_base.specs.LinkUses.{IsTableOf}

-- an atom has as many links as its arity
abbrev pub FitsArity : Leaf → Type 0
FitsArity (Atom functor links pos) = length links ≡ functor.arity
FitsArity (Typed name link pos) = Unit {0}

-- a leaf that is an atom and no typed context
abbrev pub IsAtomLeaf : Leaf → Type 0
IsAtomLeaf (Atom functor links pos) = Unit {0}
IsAtomLeaf (Typed name link pos) = ⊥

-- Each atom has as many links as its arity, and `links` is the table of the links of head and body.
pub record IsWellMadeRule (r : RuleTree) : Type 0 where
  pub arities : All FitsArity (leaves_of r.head ++ leaves_of r.body)
  pub table : IsTableOf (r.head ∷ r.body ∷ []) r.links

-- The same of the top of a plain and of each of its rules. Each rule number that stands in it names a rule,
-- and a rule that stands in another one has a greater number. No context of any kind stands outside the rules.
pub record IsWellMade (p : Plain) : Type 0 where
  pub arities : All FitsArity (leaves_of p.top)
  pub table : IsTableOf (p.top ∷ []) p.links
  pub each_rule : All IsWellMadeRule p.rules
  pub rules_at_top : All (λ k. k < length p.rules) (rules_of p.top)
  pub rules_in_rules : (n : ℕ) (r : RuleTree) → slice_get p.rules n ≡ Some r →
      All (λ k. (n < k) × (k < length p.rules)) (rules_of r.head ++ rules_of r.body)
  pub only_atoms : All IsAtomLeaf (leaves_of p.top)
  pub no_context : contexts_of p.top ≡ []
  pub no_rule_context : rule_contexts_of p.top ≡ []

-- each link of a rule occurs exactly twice, in its head and body together
abbrev pub IsLinkedRule : RuleTree → Type 0
IsLinkedRule r = EachTwice (links_of r.head ++ links_of r.body)
