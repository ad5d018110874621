-- In the code of each accepted rule each port of its atoms, and each copy, stands in exactly one place.
use Rattle.std.proofs.Common.{◌++◌, length, map, ◌∙◌}
use Rattle.std.specs.Prelude.{count_by}
use Rattle.std.specs.List.{flat_map}
use Rattle.lmn_congruence_splice.specs.Classes.{rising}
use Rattle.lmn_instr_code.specs.declared.instr.NewPort.TheVariants as new
use Rattle.lmn_compile_head.specs.Accepted.{head_items, rule_head_code, AcceptedHeads}
use Rattle.lmn_compile_body.specs.Accepted.{AcceptedNested, rule_body_items, rule_body_code}
use Rattle.lmn_verify_code.specs.Verified.{places, ports_of, stand_once, ports_of_registers, is_copy}
use Rattle.lmn_verify_compiled.proofs.Clauses.{AcceptedStandsOnce}
use Rattle.lmn_verify_compiled.proofs.Arities.{arities_are}
use Rattle.lmn_verify_compiled.proofs.StandOnce.{ports_stand_once}

pub accepted_stands_once : AcceptedHeads → AcceptedNested → AcceptedStandsOnce
accepted_stands_once heads nested table r plan code whole compiled =
    let items = head_items r plan in
    let body = rule_body_items r plan in
    let n = length r.links in
    (λ t. stand_once (flat_map places (compiled.head t ++ compiled.body t)) (ports_of (record { head = compiled.head t; body = compiled.body t })))
    ∙ (λ t. stand_once (flat_map places (rule_head_code r plan ++ rule_body_code r plan)) (ports_of_registers 0 (arities_are items r.guard body n t) ++ map new.Copy (rising 0 (count_by is_copy (rule_body_code r plan)))))
    ∙ ports_stand_once items r.guard body n (heads.head table r plan whole.ready) (nested table r plan whole)
