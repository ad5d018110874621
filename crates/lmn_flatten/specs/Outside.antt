-- Contexts that stand outside every rule.
use Rattle.std.specs.List.{flat_map}
use Rattle.lmn_base.specs.declared.level.Level.{Level}
use Rattle.lmn_base.specs.Firsts.{Row}
use Rattle.lmn_base.specs.Items.{items_of}
use Rattle.lmn_flatten_numbers.specs.Outside.{context_place}

-- E39: a context or a rule context stands outside every rule
abbrev pub outside_rules : Level → Row
outside_rules top = record { code = 39; places = flat_map context_place (items_of top) }
