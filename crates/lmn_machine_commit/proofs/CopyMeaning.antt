-- A copy that is made goes into the next register, with the number of its atoms.
use Rattle.std.proofs.Common.{ℕ, ◌≡◌, List, [], ◌∷◌, ◌++◌, sym, subst, length, ◌∙◌}
use Rattle.lmn_store_heap.specs.Heap.{Heap, port_id}
use Rattle.lmn_ground.specs.Spread.{AreAtoms}
use Rattle.lmn_ground_parts.specs.Copies.{Copied}
use Rattle.lmn_ground.proofs.GroundLaws.{part_atoms}
use Rattle.lmn_machine_registers.specs.declared.registers.SetRegisters.{SetRegisters}
use Rattle.lmn_machine_commit.specs.Preparing.{CopyIsMade}

-- an instruction that copies a part has made it
pub copy_is_made : {A M : Type 0} (atom : A → ℕ) (s s1 t : Heap) (g k : SetRegisters A M) (root : ℕ × ℕ) (copy : A × ℕ) (n : ℕ) → s1 ≡ s → ((xs : List ℕ) → AreAtoms s root xs → n ≡ length xs) →
    Copied s1 t root (port_id atom copy) → k ≡ record g { copies = g.copies ++ (record { root = copy; atoms = n }) ∷ []; listed = k.listed } → CopyIsMade {A = A} {M = M} atom s t g k root
copy_is_made atom s s1 t g k root copy n e size copied is =
    let w : Copied s t root (port_id atom copy) = subst (λ z. Copied z t root (port_id atom copy)) e copied in
    (record { root = copy; atoms = n }, w, w.long ∙ sym (size w.atoms (part_atoms s root w.atoms w.part)), is)
