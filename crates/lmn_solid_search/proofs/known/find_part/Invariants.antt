use Rattle.std.proofs.Common.{◌≡◌, drop}
use Rattle.lmn_solid_search.specs.Knowing.{part_named}
use Rattle.lmn_solid_search.proofs.known.find_part.Given as goal

abbrev pub invariant-loop-part : goal.invariant-loop-part
invariant-loop-part l = part_named (drop l.part-index l.parts) l.name ≡ part_named l.parts l.name
