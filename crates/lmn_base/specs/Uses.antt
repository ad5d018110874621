-- Uses of contexts by name.
use Rattle.std.specs.Prelude.{ℕ, ◌==◌, Bool, true, false, List, [], ◌∷◌, flat_map, if◌then◌else◌}
use Rattle.lmn_base.specs.declared.item.FormedUse.{FormedUse}
use Rattle.lmn_base.specs.declared.item.Item.{Item}
use Rattle.lmn_base.specs.declared.item.Item.TheVariants.{Context, RuleContext}
use Rattle.lmn_base.specs.declared.level.CtxUse.{CtxUse}
use Rattle.lmn_base.specs.declared.refusal.Pos.{Pos}

-- there is a place in the list
abbrev pub is_some_place : List Pos → Bool
is_some_place [] = false
is_some_place (p ∷ ps) = true

-- the place of a use of a context that passes a test, and of one of a rule context
abbrev pub context_where : (FormedUse → Bool) → Item → List Pos
context_where test (Context u) = if test u then u.pos ∷ [] else []
context_where test item = []

abbrev pub rule_context_where : (CtxUse → Bool) → Item → List Pos
rule_context_where test (RuleContext u) = if test u then u.pos ∷ [] else []
rule_context_where test item = []

-- the place of a use of a context with a name
abbrev pub use_of : ℕ → Item → List Pos
use_of n = context_where (λ u. u.name == n)

-- one of the items is a use of a context with a name
abbrev pub has_use : ℕ → List Item → Bool
has_use n items = is_some_place (flat_map (use_of n) items)
