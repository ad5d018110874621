-- The items of the region of a heap are those of its membranes.
use Rattle.std.proofs.Common.{ℕ, ◌≡◌, ◌+◌, map, length, refl, sym, ap, subst, ◌∙◌, arith}
use Rattle.std.specs.Prelude.{sum}
use Rattle.std.proofs.lemmas.List.{length-map}
use Rattle.lmn_store_heap.specs.Heap.{Heap, atoms_in, rules_in}
use Rattle.lmn_store_heap.specs.Sound.{Forest, bare, mem, flat, item_count_in, Valid}
use Rattle.lmn_store_heap.proofs.Trees.{is_mem}
use Rattle.lmn_solid_bodies.specs.Running.{RunsBody}
use Rattle.lmn_congruence.specs.Regions.{item_count_of_regions, item_count_of_region}
use Rattle.lmn_adequacy_heaps.specs.HeapRegions.{HeapReading, atoms_at, regions_at}
use Rattle.lmn_adequacy_heaps.proofs.Counting.{list_atoms}
use Rattle.lmn_adequacy_heaps.proofs.Pieces.{atom_at, atoms_each}
use Rattle.lmn_machine.specs.Costs.{Leaves}
use Rattle.lmn_compile_body.specs.Accepted.{rule_body_code}
use Rattle.lmn_machine_laws.specs.Laws.{CostIsTold}
use Rattle.lmn_machine_laws.proofs.Totals.{total_is_sum}
use Rattle.lmn_adequacy_choices.specs.Laws.{CostsAreItems}
use Rattle.lmn_adequacy_choices.specs.Turns.{tree_over, heap_region}
use Rattle.lmn_adequacy_choices.proofs.Choices.{rule_of, code_of, first_of, inside, rests_held}
use Rattle.lmn_adequacy_choices.proofs.RestsHeld.{RestsOfRule}
use Rattle.lmn_base.proofs.Lists.{weigh as total, weigh_append}
use Rattle.lmn_store_heap.proofs.Common.{mem_stands as mem_in_place}

module _ (h : Heap) (v : Valid h) (r : HeapReading) where
  abbrev weight : ℕ → ℕ
  weight m = 1 + length (atoms_in h m) + length (rules_in h m)

  -- each atom of a membrane is one of its region
  many_atoms : (m : ℕ) → length (atoms_at h r (atoms_in h m)) ≡ length (atoms_in h m)
  many_atoms m = ap length (atoms_each h r (atoms_in h m) (list_atoms h v m)) ∙ length-map (atoms_in h m) (atom_at h r)

  items_total : (f : Forest) → item_count_of_regions (regions_at h r f) ≡ total weight (flat f)
  items_total bare = refl
  items_total (mem m i f) =
      let a = many_atoms m in
      let b : length (map r.rule (rules_in h m)) ≡ length (rules_in h m) = length-map (rules_in h m) r.rule in
      let c = items_total i in
      let d = items_total f in
      let e = weigh_append weight (flat i) (flat f) in
      omega arith

  -- the items of a heap, the root counted, are one more than those of its region
  pub items_read : (inner : Forest) → item_count_of_region (heap_region h r inner) + 1 ≡ item_count_in h (flat (tree_over h inner))
  items_read inner =
      let a = items_total (tree_over h inner) in
      let b : sum (map weight (flat (tree_over h inner))) ≡ total weight (flat (tree_over h inner)) = total_is_sum weight (flat (tree_over h inner)) in
      omega arith

-- the cost is the number of items of the region that is left
pub costs_are_items : CostIsTold → RestsOfRule → CostsAreItems
costs_are_items law rests table plans codes c h r inner w from code s ch h' runs r' inner' read tr k =
    let u = rule_of table plans codes c h r inner w from code s ch in
    let body : code.body ≡ rule_body_code u.rule u.plan = ap (λ z. z.body) (code_of table plans codes c h r inner w from code s ch) ∙ u.body in
    let m = ch.membrane in
    let there = is_mem h w.read.valid.sound (tree_over h inner) w.tree m (inside table plans codes c h r inner w from code s ch) in
    let told = law.told table u.rule u.plan h m s
    (record { whole = u.whole; valid = w.read.valid; placed = mem_in_place h w.read.valid m there; first = first_of table plans codes c h r inner w from code s ch; rests = rests_held table plans codes c h r inner w from code s ch rests }) h' (subst (λ z. RunsBody s z h h') body runs) (tree_over h' inner') tr k in
    let all = items_read h' read.valid r' inner' in (
      (λ l. let e : k + 1 ≡ item_count_in h' (flat (tree_over h' inner')) = told.0 (subst (λ z. Leaves h s z k) body l) in omega (arith, e, all)),
      (λ q. subst (λ z. Leaves h s z k) (sym body) (told.1 (let e : item_count_of_region (heap_region h' r' inner') ≡ k = q in omega (arith, e, all)))),
    )
