-- The body of an accepted rule can be prepared after its head has set its registers.
use Rattle.std.proofs.Common.{ℕ, ◌≡◌, ◌+◌, List, length, sym, subst, arith}
use Rattle.std.specs.List.{AllByRecursion}
use Rattle.lmn_guards.proofs.AcceptedLemmas.{in_order}
use Rattle.lmn_solid_heads.specs.Heads.{atoms_of, typed_contexts_of, membranes_of}
use Rattle.lmn_instr_code.specs.declared.instr.Code.{Code}
use Rattle.lmn_instr_code.specs.declared.instr.Instr.{Instr}
use Rattle.lmn_instr_code.specs.Running.{atoms_set, membranes_set}
use Rattle.lmn_compile_head.specs.Accepted.{head_items, rule_head_code, AcceptedHeads}
use Rattle.lmn_compile_head.specs.Heads.{kind_in}
use Rattle.lmn_compile_body.specs.Accepted.{AcceptedNested, rule_body_names, rule_body_items, rule_body_code}
use Rattle.lmn_compile_body.proofs.BodyTrees.{items_few}
use Rattle.lmn_machine_commit.specs.Orders.{BodiesAreInOrder}
use Rattle.lmn_machine_commit.specs.Preparing.{BodyInOrder}
use Rattle.lmn_machine.specs.Searching.{parts_set, integers_set}
use Rattle.lmn_machine.specs.Costs.{IsTold}
use Rattle.lmn_machine_laws.specs.AcceptedCode.{AcceptedSetsItems}
use Rattle.lmn_machine_laws.proofs.Order.{few_of_each}
use Rattle.lmn_schedule_strategy.specs.Turns.{IsReadyCode, BodiesAreReady}
use Rattle.lmn_schedule_strategy.proofs.BodyUses.{bound_or_head}
use Rattle.lmn_schedule_strategy.proofs.BodyAll.{level_below, made_few}
use Rattle.lmn_schedule_strategy.proofs.BodyInstructions.{code_told}
use Rattle.lmn_schedule_strategy.proofs.GuardIntegers.{bound_below}
use Rattle.lmn_compile_body.proofs.Accepted.{limits}
use Rattle.lmn_compile_head.proofs.HeadLeaves.{items_few as head_items_few}

-- so many registers are set by the head
with_counts : (code : Code) (head body : List Instr) (a m g : ℕ) → code.head ≡ head → code.body ≡ body → atoms_set code.head ≡ a → membranes_set code.head ≡ m → parts_set code.head ≡ g →
    BodyInOrder a (1 + m) g (integers_set head) 0 body → AllByRecursion (IsTold (1 + m) g) body → IsReadyCode code
with_counts code head body a m g h b ea em eg order told =
    let one : BodyInOrder (atoms_set code.head) (1 + m) g (integers_set head) 0 body = subst (λ x. BodyInOrder x (1 + m) g (integers_set head) 0 body) (sym ea) order in
    let two : BodyInOrder (atoms_set code.head) (1 + membranes_set code.head) g (integers_set head) 0 body = subst (λ x. BodyInOrder (atoms_set code.head) (1 + x) g (integers_set head) 0 body) (sym em) one in
    let three : BodyInOrder (atoms_set code.head) (1 + membranes_set code.head) (parts_set code.head) (integers_set head) 0 body = subst (λ x. BodyInOrder (atoms_set code.head) (1 + membranes_set code.head) x (integers_set head) 0 body) (sym eg) two in
    let four : BodyInOrder (atoms_set code.head) (1 + membranes_set code.head) (parts_set code.head) (integers_set code.head) 0 body =
    subst (λ is. BodyInOrder (atoms_set code.head) (1 + membranes_set code.head) (parts_set code.head) (integers_set is) 0 body) (sym h) three in
    let first : AllByRecursion (IsTold (1 + membranes_set code.head) g) body = subst (λ x. AllByRecursion (IsTold (1 + x) g) body) (sym em) told in
    let second : AllByRecursion (IsTold (1 + membranes_set code.head) (parts_set code.head)) body = subst (λ x. AllByRecursion (IsTold (1 + membranes_set code.head) x) body) (sym eg) first in
    record {
      order = subst (λ is. BodyInOrder (atoms_set code.head) (1 + membranes_set code.head) (parts_set code.head) (integers_set code.head) 0 is) (sym b) four;
      told = subst (λ is. AllByRecursion (IsTold (1 + membranes_set code.head) (parts_set code.head)) is) (sym b) second;
    }

-- the law, from those of heads and bodies
pub bodies_are_ready : AcceptedHeads → AcceptedSetsItems → AcceptedNested → BodiesAreInOrder → BodiesAreReady
bodies_are_ready heads sets nested bodies table r plan whole code compiled =
    let items = head_items r plan in
    let body = rule_body_items r plan in
    let n = length r.links in
    let k = length (membranes_of items) in
    let rule = nested table r plan whole in
    let set = sets code.head table r plan (record { ready = whole.ready; is = compiled.head }) in
    let order = in_order table r whole.ready.accepted in
    let guard = heads.guard table r plan whole.ready in
    let below = level_below (rule_body_names r plan) (integers_set (rule_head_code r plan)) k r.body
    (λ x o p c none. bound_below items r.guard x guard none (bound_or_head table r plan order x o p c none)) in
    let l = limits table r plan whole in
    let head_few = l.0 in
    let body_few = l.1 in
    let a = head_items_few (kind_in plan.kinds) r.head in
    let b = items_few (rule_body_names r plan) k r.body in
    let c = few_of_each items in
    let d = made_few body in
    with_counts code (rule_head_code r plan) (rule_body_code r plan) (length (atoms_of items)) k (length (typed_contexts_of items)) compiled.head compiled.body set.atoms set.membranes set.parts
    (bodies items body n (integers_set (rule_head_code r plan)) rule below (omega (arith, head_few, body_few, a, b, c, d)) (omega (arith, head_few, body_few, a, b, c, d)) (omega (arith, head_few, body_few, a, b, c, d)))
    (code_told items body n rule)
