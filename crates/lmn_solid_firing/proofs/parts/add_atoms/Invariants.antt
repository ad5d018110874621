use Rattle.std.proofs.Common.{◌≡◌, ◌++◌, drop}
use Rattle.std.specs.Prelude.{flat_map}
use Rattle.lmn_solid_firing.proofs.parts.add_atoms.Given as goal

abbrev pub invariant-loop-part : goal.invariant-loop-part
invariant-loop-part l = l.atoms ++ flat_map (λ p. p.atoms) (drop l.part-index l.parts) ≡ l.fn.atoms ++ flat_map (λ p. p.atoms) l.parts
