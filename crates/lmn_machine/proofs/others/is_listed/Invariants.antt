use Rattle.std.proofs.Common.{ℕ, ◌≡◌, ◌≢◌, ◌<◌, Some}
use Rattle.std.specs.Prelude.{slice_get}
use Rattle.lmn_store_heap.specs.Heap.{port_id}
use Rattle.lmn_machine.proofs.others.is_listed.Given as goal

abbrev pub invariant-loop-j : goal.invariant-loop-j
invariant-loop-j g l = (j k : ℕ) (p : _) → j < l.j → slice_get l.listed j ≡ Some k → slice_get l.parts k ≡ Some p → port_id g.S.LinkStore.atom_id p ≢ port_id g.S.LinkStore.atom_id l.root
