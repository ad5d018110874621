use Rattle.std.proofs.Common.{◌≡◌, [], ◌∷◌, ◌++◌, ◌+◌, ◌-◌, ◌*◌, length, drop, Some}
use Rattle.std.specs.Prelude.{IfSome}
use Rattle.std.specs.Option.{option_map}
use Rattle.lmn_store_heap.specs.Lists.{from}
use Rattle.lmn_store_heap.specs.Heap.{functor_of, home_of, parent_of, atoms_in, mems_in}
use Rattle.lmn_store_heap.specs.Functors.{with_functor}
use Rattle.lmn_machine.specs.Asking.{HoldsUpTo}
use Rattle.lmn_machine.proofs.Stepping.{Passed}
use Rattle.lmn_machine.proofs.Choosing.{AtomsLeft, MembranesLeft}
use Rattle.lmn_machine.proofs.search.+search.Given as goal

abbrev pub decreases-search_atoms : goal.decreases-search_atoms
decreases-search_atoms g l = 6 * (length l.code.now - l.at)

abbrev pub decreases-search_home : goal.decreases-search_home
decreases-search_home g l = 6 * (length l.code.now - l.at)

abbrev pub decreases-search_membranes : goal.decreases-search_membranes
decreases-search_membranes g l = 6 * (length l.code.now - l.at)

abbrev pub decreases-choose_atom : goal.decreases-choose_atom
decreases-choose_atom g l = 6 * (length l.code.now - l.at) + 1

abbrev pub decreases-choose_membrane : goal.decreases-choose_membrane
decreases-choose_membrane g l = 6 * (length l.code.now - l.at) + 1

abbrev pub decreases-choose_atom_apart : goal.decreases-choose_atom_apart
decreases-choose_atom_apart g l = 6 * (length l.code.now - l.at) + 2

abbrev pub decreases-choose_membrane_apart : goal.decreases-choose_membrane_apart
decreases-choose_membrane_apart g l = 6 * (length l.code.now - l.at) + 2

abbrev pub decreases-search : goal.decreases-search
decreases-search g l = 6 * (length l.code.now - l.at) + 3

abbrev pub decreases-search_apart : goal.decreases-search_apart
decreases-search_apart g l = 6 * (length l.code.now - l.at) + 4

abbrev pub decreases-begin : goal.decreases-begin
decreases-begin g l = 6 * (length l.code.now - l.at) + 5

abbrev pub invariant-search-loop-i : goal.invariant-search-loop-i
invariant-search-loop-i g l = record {
  same : g.S.LinkStore.heap l.store ≡ g.S.LinkStore.heap l.fn.store;
  passed : Passed g.S.LinkStore.atom_id g.S.LinkStore.mem_id (g.S.LinkStore.heap l.fn.store) l.fn.set l.set (drop l.at l.code) (drop l.i l.code);
}

abbrev pub invariant-search_atoms-loop-candidate : goal.invariant-search_atoms-loop-candidate
invariant-search_atoms-loop-candidate g l = record {
  same : g.S.LinkStore.heap l.store ≡ g.S.LinkStore.heap l.fn.store;
  set : l.set ≡ l.fn.set;
  left : AtomsLeft g.S.LinkStore.atom_id g.S.LinkStore.mem_id (g.S.LinkStore.heap l.fn.store) l.fn.set (drop l.at l.code) l.fn.functor l.fn.place l.candidate;
  there : IfSome l.candidate (λ a. (functor_of (g.S.LinkStore.heap l.fn.store) (g.S.LinkStore.atom_id a) ≡ Some l.fn.functor) ×
      (home_of (g.S.LinkStore.heap l.fn.store) (g.S.LinkStore.atom_id a) ≡ Some (g.S.LinkStore.mem_id l.fn.place)));
  apart : IfSome l.candidate (λ a. HoldsUpTo g.S.LinkStore.atom_id (l.fn.set.atoms ++ a ∷ []) l.code (l.at + 1) l.start);
}

abbrev pub decreases-search_atoms-loop-candidate : goal.decreases-search_atoms-loop-candidate
decreases-search_atoms-loop-candidate g l =
    length (from (option_map g.S.LinkStore.atom_id l.candidate) (with_functor (g.S.LinkStore.heap l.fn.store) l.fn.functor (atoms_in (g.S.LinkStore.heap l.fn.store) (g.S.LinkStore.mem_id l.fn.place))))

abbrev pub invariant-search_membranes-loop-candidate : goal.invariant-search_membranes-loop-candidate
invariant-search_membranes-loop-candidate g l = record {
  same : g.S.LinkStore.heap l.store ≡ g.S.LinkStore.heap l.fn.store;
  set : l.set ≡ l.fn.set;
  left : MembranesLeft g.S.LinkStore.atom_id g.S.LinkStore.mem_id (g.S.LinkStore.heap l.fn.store) l.fn.set (drop l.at l.code) l.fn.place l.candidate;
  there : IfSome l.candidate (λ m. parent_of (g.S.LinkStore.heap l.fn.store) (g.S.LinkStore.mem_id m) ≡ Some (g.S.LinkStore.mem_id l.fn.place));
}

abbrev pub decreases-search_membranes-loop-candidate : goal.decreases-search_membranes-loop-candidate
decreases-search_membranes-loop-candidate g l =
    length (from (option_map g.S.LinkStore.mem_id l.candidate) (mems_in (g.S.LinkStore.heap l.fn.store) (g.S.LinkStore.mem_id l.fn.place)))
