use Rattle.std.proofs.Common.{◌≡◌, ◌++◌, drop, map}
use Rattle.lmn_solid_heads.specs.Heads.{atoms_of}
use Rattle.lmn_solid_search.specs.Taking.{kept_atom}
use Rattle.lmn_solid_search.proofs.head.atoms_in_head.Given as goal

abbrev pub invariant-loop-item : goal.invariant-loop-item
invariant-loop-item l = l.atoms ++ map kept_atom (atoms_of (drop l.item-index l.items)) ≡ map kept_atom (atoms_of l.items)
