use Rattle.std.proofs.Common.{ℕ, ◌≡◌, List}
use Rattle.std.specs.Prelude.{◌↔◌}
use Rattle.lmn_base.specs.Lists.{In}
use Rattle.lmn_ground.specs.Rests.{own_marked}
use Rattle.lmn_machine_commit.proofs.Inside.{IsFirstInside}
use Rattle.lmn_machine_commit.proofs.marking.mark_atoms.Given as goal

abbrev pub invariant-loop-i : goal.invariant-loop-i
invariant-loop-i g l =
    (all : List ℕ) × ((b : ℕ) → In b all ↔ IsFirstInside g.S.LinkStore.atom_id (g.S.LinkStore.heap l.fn.store) l.atoms (g.S.LinkStore.mem_id l.m) l.i b) × (g.S.LinkStore.heap l.store ≡ own_marked l.mark all (g.S.LinkStore.heap l.fn.store))
