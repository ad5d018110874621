use Rattle.std.proofs.Common.{◌≡◌, ◌++◌, drop, length}
use Rattle.lmn_solid_heads.specs.Heads.{atoms_of}
use Rattle.lmn_solid_firing.specs.Pieces.{images_from}
use Rattle.lmn_solid_firing.proofs.images.atom_images.Given as goal

abbrev pub invariant-loop-item : goal.invariant-loop-item
invariant-loop-item l = l.atoms ++ images_from l.images (length l.atoms) (atoms_of (drop l.item-index l.items)) ≡ images_from l.images 0 (atoms_of l.items)
