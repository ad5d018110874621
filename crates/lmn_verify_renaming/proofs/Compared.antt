-- The examples of renamed heaps are met.
use Rattle.std.proofs.Common.{◌≡◌, ◌∙◌, ℕ, zero, suc, refl, sym, ap, arith}
use Rattle.std.specs.Option.{option_map}
use Rattle.lmn_verify_renaming.specs.Examples.{RenamingsCompare, exchanging, first, second}
use Rattle.lmn_verify_renaming.specs.Renamed.{renamed, with_room}

atoms_same : (a : ℕ) → second.atoms a ≡ (renamed exchanging first).atoms a
atoms_same zero = refl
atoms_same (suc zero) = refl
atoms_same (suc (suc n)) = refl

mems_same : (m : ℕ) → (spare mark : ℕ) × (second.mems m ≡ option_map (with_room spare mark) ((renamed exchanging first).mems m))
mems_same zero = (0, 0, refl)
mems_same (suc zero) = (3, 0, refl)
mems_same (suc (suc n)) = (0, 0, refl)

-- the heaps and numbers of the examples compare so
pub renamings_compare : RenamingsCompare
renamings_compare = record {
  exchanges = record { root = refl; atoms = atoms_same; mems = mems_same; new_atoms = refl; new_mems = refl };
  as_they_are = λ same. (let e : 1 ≡ 0 = same.root in absurd (omega (arith, e)));
  all_zero = λ n zeros. (let e : 0 ≡ 1 = sym (n.there 0) ∙ ap n.back (zeros 0 ∙ sym (zeros 1)) ∙ n.there 1 in absurd (omega (arith, e)));
}
