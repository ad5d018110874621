use Rattle.std.proofs.Common.{◌≡◌, drop}
use Rattle.lmn_solid_search.specs.Foretelling.{is_name}
use Rattle.lmn_solid_search.proofs.early.has_name.Given as goal

abbrev pub invariant-loop-item : goal.invariant-loop-item
invariant-loop-item l = is_name (drop l.item-index l.typed) l.name ≡ is_name l.typed l.name
