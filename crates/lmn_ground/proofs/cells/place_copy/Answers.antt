use Rattle.std.proofs.Common.{◌≡◌, ◌∙◌, ap, length, sym}
use Rattle.lmn_store_heap.specs.Heap.{Heap, atoms_in, placed_mem, rules_copied}
use Rattle.lmn_ground_parts.specs.Rests.{atoms_placed}
use Rattle.lmn_ground.proofs.PlaceLaws.{atoms_same}
use Rattle.lmn_ground.proofs.cells.place_copy.Goals as goal

pub returns-clause-placed : goal.returns-clause-placed
returns-clause-placed g c = λ ys behind l e.
    let h = g.S.LinkStore.heap c.args.store.now in
    let t = g.S.LinkStore.heap c.copy_rules.new.self in
    let to = g.S.LinkStore.mem_id c.args.to in
    let y = g.S.LinkStore.mem_id c.args.of in
    let k = g.S.LinkStore.mem_id c.place_mem-copy.result in
    let is : t ≡ rules_copied (placed_mem h to k) y k = c.copy_rules.ensures ∙ ap (λ z. rules_copied z y k) c.place_mem-copy.ensures.placed in
    let atoms : atoms_in t y ≡ atoms_in h y = ap (λ z. atoms_in z y) is ∙ atoms_same h to y k y in
    c.place_atoms.ensures ys behind (l ∙ ap length (sym atoms)) (ap (λ (z : Heap). z.new_atoms) is ∙ e) ∙ ap (λ z. atoms_placed (λ a. a) z k ys) is

pub place_atoms-requires-clause-line : goal.place_atoms-requires-clause-line
place_atoms-requires-clause-line g c =
    let h = g.S.LinkStore.heap c.args.store.now in
    let to = g.S.LinkStore.mem_id c.args.to in
    let y = g.S.LinkStore.mem_id c.args.of in
    let k = g.S.LinkStore.mem_id c.place_mem-copy.result in
    let is = c.copy_rules.ensures ∙ ap (λ z. rules_copied z y k) c.place_mem-copy.ensures.placed in
    let atoms = ap (λ z. atoms_in z y) is ∙ atoms_same h to y k y in
    let w = c.requires.line in
    (w.0, w.1, w.2 ∙ ap length (sym atoms), ap (λ (z : Heap). z.new_atoms) is ∙ w.3)
