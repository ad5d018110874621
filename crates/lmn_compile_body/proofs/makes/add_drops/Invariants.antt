use Rattle.std.proofs.Common.{◌≡◌, ◌≤◌, ◌+◌, ◌++◌, drop}
use Rattle.lmn_solid_heads.specs.Heads.{membranes_of}
use Rattle.lmn_solid_bodies.specs.Code.{drops}
use Rattle.lmn_compile_body.proofs.makes.add_drops.Given as goal

abbrev pub invariant-loop-item : goal.invariant-loop-item
invariant-loop-item l = record {
  few : l.membrane ≤ l.item-index + 1;
  made : l.code ++ drops l.membrane (membranes_of (drop l.item-index l.items)) ≡ l.fn.code ++ drops 1 (membranes_of l.items);
}
