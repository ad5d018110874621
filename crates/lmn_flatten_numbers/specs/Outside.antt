-- Contexts that stand in a level.
use Rattle.std.specs.Prelude.{List, [], ◌∷◌, flat_map}
use Rattle.lmn_base.specs.declared.item.Item.{Item}
use Rattle.lmn_base.specs.declared.item.Item.TheVariants.{Context, RuleContext}
use Rattle.lmn_base.specs.declared.level.Level.{Level}
use Rattle.lmn_base.specs.declared.refusal.Pos.{Pos}
use Rattle.lmn_base.specs.Items.{items_of}

-- where a context of any kind stands: a typed context is an item of that kind too
abbrev pub context_place : Item → List Pos
context_place (Context u) = u.pos ∷ []
context_place (RuleContext u) = u.pos ∷ []
context_place item = []

-- the places of the typed contexts, contexts and rule contexts of a level, at every depth
abbrev pub context_places : Level → List Pos
context_places l = flat_map context_place (items_of l)
