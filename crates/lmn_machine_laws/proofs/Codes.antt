-- What the whole code of a body adds and takes.
use Rattle.std.proofs.Common.{ℕ, ◌+◌, ◌≡◌, List, [], ◌∷◌, ◌++◌, map, length, refl, subst, arith, length-append}
use Rattle.std.proofs.lemmas.List.{length-map}
use Rattle.lmn_store_heap.specs.Heap.{Heap, rules_in}
use Rattle.lmn_solid_heads.specs.declared.items.HeadItem.{HeadItem}
use Rattle.lmn_solid_heads.specs.Heads.{atoms_of, typed_contexts_of, membranes_of}
use Rattle.lmn_congruence_splice.specs.Classes.{class_of, rising}
use Rattle.lmn_instr_code.specs.declared.instr.Instr.TheVariants.{RemoveAtom, RemovePart, RemoveMem, Proceed}
use Rattle.lmn_solid_bodies.specs.declared.items.BodyItem.{BodyItem}
use Rattle.lmn_solid_bodies.specs.Items.{new_ports, old_ports, connectors}
use Rattle.lmn_solid_bodies.specs.Code.{removals, making, drops, links_code, body_code}
use Rattle.lmn_solid_bodies.specs.Running.{Registers}
use Rattle.lmn_solid_bodies.specs.Fired.{images_of}
use Rattle.lmn_solid_bodies.specs.Within.{membrane_images, dropped_atoms, dropped_mems, removed_mems}
use Rattle.lmn_machine.specs.Costs.{AddsItems, TakesItems, InAll}
use Rattle.lmn_machine_laws.proofs.Totals.{total_mapped}
use Rattle.lmn_machine_laws.proofs.Sums.{both_sums, atoms_taken, mems_taken, atoms_add, parts_add, mems_add, drops_add, drops_take, ties_add, ties_take, making_takes}
use Rattle.lmn_base.proofs.Lists.{weigh as total, weigh_append}

-- what it adds is what its making part adds
pub code_adds : (h : Heap) (r : Registers) (head : List HeadItem) (body : List BodyItem) (n k : ℕ) → InAll (AddsItems h r) (making (length (atoms_of head)) (1 + length (membranes_of head)) 0 body) k
    → InAll (AddsItems h r) (body_code head body n) k
code_adds h r head body n k w =
    let N = length (atoms_of head) in
    let K = length (membranes_of head) in
    let P = AddsItems h r in
    let ra = rising 0 N in
    let rp = rising 0 (length (typed_contexts_of head)) in
    let rm = rising 1 K in
    let make = making N (1 + K) 0 body in
    let links_part = links_code (class_of (connectors body)) (new_ports N 0 body) (old_ports head) (rising 0 n) in
    let gone = both_sums P (map RemoveAtom ra) (map RemovePart rp ++ map RemoveMem rm) 0 0 (atoms_add h r ra) (both_sums P (map RemovePart rp) (map RemoveMem rm) 0 0 (parts_add h r rp) (mems_add h r rm)) in
    let last : InAll P (Proceed ∷ []) 0 = (0, 0, (refl, refl, refl)) in
    let tied = both_sums P links_part (Proceed ∷ []) 0 0 (ties_add h r (class_of (connectors body)) (new_ports N 0 body) (old_ports head) (rising 0 n)) last in
    let dropped = drops 1 (membranes_of head) in
    let out = both_sums P dropped (links_part ++ (Proceed ∷ [])) 0 0 (drops_add h r 1 (membranes_of head)) tied in
    let made = both_sums P make (dropped ++ (links_part ++ (Proceed ∷ []))) k 0 w out in
    let all = both_sums P (removals head) (make ++ (dropped ++ (links_part ++ (Proceed ∷ [])))) 0 (k + 0) gone made in
    let same : 0 + (k + 0) ≡ k = omega arith in
    subst (λ z. InAll P (body_code head body n) z) same all

-- what it takes is what its removals take, and what it drops
pub code_takes : (h : Heap) (r : Registers) (head : List HeadItem) (body : List BodyItem) (n : ℕ) (ps : List ℕ) → InAll (TakesItems h r) (map RemovePart (rising 0 (length (typed_contexts_of head)))) (length ps)
    → InAll (TakesItems h r) (body_code head body n) (length ((images_of r head ++ ps) ++ dropped_atoms r head) + total (λ k. 1 + length (rules_in h k)) (removed_mems r head))
code_takes h r head body n ps w =
    let N = length (atoms_of head) in
    let K = length (membranes_of head) in
    let P = TakesItems h r in
    let ra = rising 0 N in
    let rp = rising 0 (length (typed_contexts_of head)) in
    let rm = rising 1 K in
    let make = making N (1 + K) 0 body in
    let links_part = links_code (class_of (connectors body)) (new_ports N 0 body) (old_ports head) (rising 0 n) in
    let dropped = drops 1 (membranes_of head) in
    let items : ℕ → ℕ = λ k. 1 + length (rules_in h k) in
    let mems = total (λ k. 1 + length (rules_in h (r.head.images.membrane k))) rm in
    let drop = length (dropped_atoms r head) + total items (dropped_mems r head) in
    let gone = both_sums P (map RemoveAtom ra) (map RemovePart rp ++ map RemoveMem rm) (length ra) (length ps + mems) (atoms_taken h r ra)
    (both_sums P (map RemovePart rp) (map RemoveMem rm) (length ps) mems w (mems_taken h r rm)) in
    let last : InAll P (Proceed ∷ []) 0 = (0, 0, (refl, refl, refl)) in
    let tied = both_sums P links_part (Proceed ∷ []) 0 0 (ties_take h r (class_of (connectors body)) (new_ports N 0 body) (old_ports head) (rising 0 n)) last in
    let out = both_sums P dropped (links_part ++ (Proceed ∷ [])) drop 0 (drops_take h r 1 (membranes_of head)) tied in
    let made = both_sums P make (dropped ++ (links_part ++ (Proceed ∷ []))) 0 (drop + 0) (making_takes h r N (1 + K) 0 body) out in
    let all = both_sums P (removals head) (make ++ (dropped ++ (links_part ++ (Proceed ∷ [])))) (length ra + (length ps + mems)) (0 + (drop + 0)) gone made in
    subst (λ z. InAll P (body_code head body n) z)
    (sums (length ra) (length ps) mems (length (dropped_atoms r head)) (total items (dropped_mems r head)) (length (images_of r head)) (length (images_of r head ++ ps)) (length ((images_of r head ++ ps) ++ dropped_atoms r head)) (total items (membrane_images r head)) (total items (removed_mems r head))
    (length-map ra r.head.images.atom) (length-append (images_of r head) ps) (length-append (images_of r head ++ ps) (dropped_atoms r head)) (total_mapped items r.head.images.membrane rm) (weigh_append items (membrane_images r head) (dropped_mems r head))) all
  where
    sums : (a p m d e i ip ipd im all : ℕ) → i ≡ a → ip ≡ i + p → ipd ≡ ip + d → im ≡ m → all ≡ im + e → (a + (p + m)) + (0 + ((d + e) + 0)) ≡ ipd + all
    sums a p m d e i ip ipd im all e1 e2 e3 e4 e5 = omega arith
