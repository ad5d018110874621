use Rattle.std.proofs.Common.{◌≡◌, ◌++◌, take}
use Rattle.std.specs.List.{flat_map}
use Rattle.lmn_verify_code.specs.Verified.{places}
use Rattle.lmn_verify_code.proofs.tables.add_all_places.Given as goal

abbrev pub invariant-loop-instr : goal.invariant-loop-instr
invariant-loop-instr l = l.stands ≡ l.fn.stands ++ flat_map places (take l.instr-index l.code)
