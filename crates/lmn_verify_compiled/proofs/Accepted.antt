-- What the code of each accepted rule is verified for.
use Rattle.std.proofs.Common.{◌≡◌, ◌≤◌, ◌+◌, ◌++◌, ℕ, true, List, length, refl, sym, ap, ◌∙◌, subst, arith}
use Rattle.std.specs.Prelude.{sum_by, drop, map, ◌<◌}
use Rattle.std.proofs.lemmas.List.{length-append, length-map}
use Rattle.std.specs.List.{list_all}
use Rattle.lmn_base_walks.specs.RuleCodes.{condition_tokens}
use Rattle.lmn_base.specs.declared.guard.Cond.{Cond}
use Rattle.lmn_solid_heads.specs.declared.items.HeadItem.{HeadItem}
use Rattle.lmn_solid_heads.specs.Heads.{atoms_of, typed_contexts_of, membranes_of}
use Rattle.lmn_instr_code.specs.declared.instr.Instr.{Instr}
use Rattle.lmn_instr_code.specs.HeadCode.{head_code}
use Rattle.lmn_instr_code.specs.Running.{atoms_set, membranes_set}
use Rattle.lmn_solid_bodies.specs.Code.{body_code}
use Rattle.lmn_solid_bodies.specs.declared.items.BodyItem.{BodyItem}
use Rattle.lmn_compile_head.specs.Heads.{IsHead, kind_in}
use Rattle.lmn_compile_head.specs.Accepted.{head_items, rule_head_code, AcceptedHeads}
use Rattle.lmn_compile_head.proofs.HeadLeaves.{items_few as head_items_few}
use Rattle.lmn_compile_body.specs.Accepted.{AcceptedNested, rule_body_names, rule_body_items}
use Rattle.lmn_compile_body.proofs.Accepted.{limits}
use Rattle.lmn_compile_body.proofs.BodyTrees.{items_few}
use Rattle.lmn_machine_commit.specs.Preparing.{BodyInOrder, atoms_made, membranes_made, copies_made}
use Rattle.lmn_machine.specs.Searching.{HeadInOrder, parts_set, integers_set}
use Rattle.lmn_machine_laws.specs.AcceptedCode.{AcceptedInOrder, AcceptedSetsItems}
use Rattle.lmn_machine_laws.proofs.Order.{few_of_each}
use Rattle.lmn_congruence_splice.specs.Classes.{rising}
use Rattle.lmn_schedule_strategy.specs.Turns.{BodiesAreReady}
use Rattle.lmn_schedule_strategy.proofs.BodyAll.{level_rules}
use Rattle.lmn_verify_code.specs.Verified.{in_order, at_first, atoms_found, membranes_found, parts_found, takes_out, registers_held, makes_and_ties, gets_integer}
use Rattle.lmn_instr_code.specs.declared.words.Operand.TheVariants as operand
use Rattle.lmn_verify_compiled.proofs.Clauses.{AcceptedIsVerifiedFor, AcceptedBodiesRest}
use Rattle.lmn_verify_compiled.proofs.BodyShapes.{removals_take, body_makes_few, atoms_amount, membranes_amount, copies_amount}
use Rattle.lmn_verify_compiled.proofs.Finding.{numbered_length, found_atom, found_membrane, head_finds, head_enters, head_looks, head_looks_at_all, found_parts}
use Rattle.lmn_guards.proofs.AcceptedLemmas.{in_order as rule_order}
use Rattle.lmn_verify_compiled.proofs.Integers.{head_gets, computes}
use Rattle.lmn_verify_compiled.proofs.GuardSizes.{head_computes_few}
use Rattle.lmn_verify_compiled.proofs.Resting.{body_rests}
use Rattle.lmn_verify_compiled.proofs.InOrder.{total, head_in_order, body_in_order}
use Rattle.lmn_verify_code.proofs.Deciding.{length_rising as rising_length}

atoms_counted : (items : List HeadItem) (guard : List Cond) → length (atoms_found (head_code items guard)) ≡ length (atoms_of items)
atoms_counted items guard = ap length (head_finds items guard) ∙ numbered_length found_atom 0 (atoms_of items)

membranes_counted : (items : List HeadItem) (guard : List Cond) → length (membranes_found (head_code items guard)) ≡ length (membranes_of items)
membranes_counted items guard = ap length (head_enters items guard) ∙ numbered_length found_membrane 0 (membranes_of items)

-- the body takes out what its head holds
head_is_taken : (items : List HeadItem) (guard : List Cond) (body : List BodyItem) (n : ℕ) → IsHead items
    → takes_out (registers_held (length (atoms_found (head_code items guard))) (length (parts_found (head_code items guard))) (length (membranes_found (head_code items guard)))) (body_code items body n) ≡ true
head_is_taken items guard body n head =
    (λ i. takes_out (registers_held (atoms_counted items guard i) (head_looks_at_all items guard head i) (membranes_counted items guard i)) (body_code items body n)) ∙ removals_take items _

-- code that sets its registers in order, where there are few
orders : (head body : List Instr) → HeadInOrder 0 1 0 0 head → BodyInOrder (atoms_set head) (1 + membranes_set head) (parts_set head) (integers_set head) 0 body
    → atoms_set head + total atoms_made body ≤ 1152 → (1 + membranes_set head) + total membranes_made body ≤ 1153 → total copies_made body ≤ 1024 → parts_set head ≤ 128 → integers_set head ≤ 512
    → in_order at_first (head ++ body) ≡ true
orders head body o b la lm lc lg lv =
    head_in_order head body 0 1 0 0 (atoms_set head) (1 + membranes_set head) (parts_set head) (integers_set head) o (omega arith) refl (omega arith) (omega arith)
    (omega (arith, la)) (omega (arith, lm)) lg lv
    (body_in_order body (atoms_set head) (1 + membranes_set head) (parts_set head) (integers_set head) 0 b la lm (omega (arith, lc)))

room : (a m g v ha hm hg k ba bm bc n t : ℕ) → a ≡ ha → m ≡ hm → g ≡ hg → ha + (hm + hg) ≤ k → k ≤ 128 → ba ≤ n → bm ≤ n → bc ≤ n → n ≤ 1024 → v ≤ t + t → t ≤ 256
    → (a + ba ≤ 1152) × ((1 + m) + bm ≤ 1153) × (bc ≤ 1024) × (g ≤ 128) × (v ≤ 512)
room a m g v ha hm hg k ba bm bc n t ea em eg few l1 fa fm fc l2 fv l3 = (omega arith, omega arith, omega arith, omega arith, omega arith)

pub accepted_is_verified_for : AcceptedHeads → AcceptedInOrder → AcceptedSetsItems → BodiesAreReady → AcceptedIsVerifiedFor
accepted_is_verified_for heads head_order sets bodies table r plan code whole compiled =
    let items = head_items r plan in
    let body = rule_body_items r plan in
    let n = length r.links in
    let l = limits table r plan whole in
    let l0 = l.0 in
    let l1 = l.1 in
    let few_head = head_items_few (kind_in plan.kinds) r.head in
    let few_body = items_few (rule_body_names r plan) (length (membranes_of items)) r.body in
    let each = few_of_each items in
    let set = sets code.head table r plan (record { ready = whole.ready; is = compiled.head }) in
    let ready = bodies table r plan whole code compiled in
    let most = sum_by condition_tokens r.guard + sum_by condition_tokens r.guard in
    let integers : integers_set code.head ≤ most = subst (λ t. integers_set t ≤ most) (sym compiled.head) (head_computes_few items r.guard) in
    let made_atoms : total atoms_made code.body ≤ length body = subst (λ t. total atoms_made t ≤ length body) (sym compiled.body) (body_makes_few atoms_made atoms_amount items body n) in
    let made_membranes : total membranes_made code.body ≤ length body = subst (λ t. total membranes_made t ≤ length body) (sym compiled.body) (body_makes_few membranes_made membranes_amount items body n) in
    let made_copies : total copies_made code.body ≤ length body = subst (λ t. total copies_made t ≤ length body) (sym compiled.body) (body_makes_few copies_made copies_amount items body n) in
    let k128 : length items ≤ 128 = omega (arith, few_head, l0) in
    let n1024 : length body ≤ 1024 = omega (arith, few_body, l1) in
    let fits = room _ _ _ _ _ _ _ _ _ _ _ _ _ set.atoms set.membranes set.parts each k128 made_atoms made_membranes made_copies n1024 integers (heads.room table r plan whole.ready).integers in
    let found = atoms_counted items r.guard in
    let entered = membranes_counted items r.guard in
    let few : length (atoms_found (rule_head_code r plan)) + length (membranes_found (rule_head_code r plan)) ≤ 128 = omega (arith, found, entered, each, k128) in
    let taken = head_is_taken items r.guard body n (heads.head table r plan whole.ready) in
    let got : list_all (gets_integer (parts_found (rule_head_code r plan))) (rule_head_code r plan) ≡ true =
    (λ i. list_all (gets_integer (head_looks items r.guard i)) (rule_head_code r plan))
    ∙ head_gets (found_parts items 0 (typed_contexts_of items)) items r.guard (computes table r plan (rule_order table r whole.ready.accepted) whole.ready.planned (heads.head table r plan whole.ready)) in
    record {
      order = orders code.head code.body (head_order code.head table r plan (record { ready = whole.ready; is = compiled.head })) ready.order fits.0 fits.1 fits.2 fits.3 fits.4;
      integers = subst (λ t. list_all (gets_integer (parts_found t)) t ≡ true) (sym compiled.head) got;
      few = subst (λ t. length (atoms_found t) + length (membranes_found t) ≤ 128) (sym compiled.head) few;
      taken =
          (λ i. takes_out (registers_held (length (atoms_found (compiled.head i))) (length (parts_found (compiled.head i))) (length (membranes_found (compiled.head i)))) (compiled.body i)) ∙ taken;
    }

-- ---- what a body does behind that

held_length : (a g m : ℕ) → length (registers_held a g m) ≡ a + (g + m)
held_length a g m =
    let e1 = length-append (map operand.Atom (rising 0 a)) (map operand.Part (rising 0 g) ++ map operand.Membrane (rising 1 m)) in
    let e2 = length-append (map operand.Part (rising 0 g)) (map operand.Membrane (rising 1 m)) in
    let e3 : length (map operand.Atom (rising 0 a)) ≡ a = length-map (rising 0 a) operand.Atom ∙ rising_length 0 a in
    let e4 : length (map operand.Part (rising 0 g)) ≡ g = length-map (rising 0 g) operand.Part ∙ rising_length 0 g in
    let e5 : length (map operand.Membrane (rising 1 m)) ≡ m = length-map (rising 1 m) operand.Membrane ∙ rising_length 1 m in
    omega (arith, e1, e2, e3, e4, e5)

pub accepted_bodies_rest : AcceptedHeads → AcceptedNested → AcceptedBodiesRest
accepted_bodies_rest heads nested table r plan code k whole compiled rules =
    let items = head_items r plan in
    let body = rule_body_items r plan in
    let n = length r.links in
    let is = heads.head table r plan whole.ready in
    let a = length (atoms_of items) in
    let g = length (typed_contexts_of items) in
    let m = length (membranes_of items) in
    let ea = atoms_counted items r.guard in
    let eg = head_looks_at_all items r.guard is in
    let em = membranes_counted items r.guard in
    let loads = level_rules (rule_body_names r plan) (λ j. j < k) m r.body rules in
    (λ i. makes_and_ties (1 + length (membranes_found (compiled.head i))) k (length (atoms_found (compiled.head i)))
    (drop (length (registers_held (length (atoms_found (compiled.head i))) (length (parts_found (compiled.head i))) (length (membranes_found (compiled.head i))))) (compiled.body i)))
    ∙ (λ i. makes_and_ties (1 + em i) k (ea i) (drop (length (registers_held (ea i) (eg i) (em i))) (body_code items body n)))
    ∙ ap (λ t. makes_and_ties (1 + m) k a (drop t (body_code items body n))) (held_length a g m)
    ∙ body_rests items body n k (nested table r plan whole) loads
