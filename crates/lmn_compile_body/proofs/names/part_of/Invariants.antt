use Rattle.std.proofs.Common.{◌≡◌, ◌≤◌, drop}
use Rattle.lmn_solid_heads.specs.Heads.{typed_contexts_of}
use Rattle.lmn_solid_heads.specs.Guards.{typed_number}
use Rattle.lmn_compile_body.proofs.names.part_of.Given as goal

abbrev pub invariant-loop-item : goal.invariant-loop-item
invariant-loop-item l = record {
  few : l.part ≤ l.item-index;
  same : typed_number (typed_contexts_of (drop l.item-index l.items)) l.part l.name ≡ typed_number (typed_contexts_of l.items) 0 l.name;
}
