-- In the code of each accepted rule each port that is named is one of its atom.
use Rattle.std.proofs.Common.{◌++◌, length, ◌∙◌}
use Rattle.std.specs.List.{list_all}
use Rattle.lmn_compile_head.specs.Accepted.{head_items, rule_head_code}
use Rattle.lmn_compile_body.specs.Accepted.{AcceptedNested, rule_body_items, rule_body_code}
use Rattle.lmn_verify_code.specs.Verified.{named_ports, has_port, arities}
use Rattle.lmn_verify_compiled.proofs.Clauses.{AcceptedNamesPorts}
use Rattle.lmn_verify_compiled.proofs.Arities.{arities_are}
use Rattle.lmn_verify_compiled.proofs.PortsNamed.{ports_named}

pub accepted_names_ports : AcceptedNested → AcceptedNamesPorts
accepted_names_ports nested table r plan code whole compiled =
    let items = head_items r plan in
    let body = rule_body_items r plan in
    let n = length r.links in
    (λ t. list_all (λ i. list_all (has_port (arities (record { head = compiled.head t; body = compiled.body t }))) (named_ports i)) (compiled.head t ++ compiled.body t))
    ∙ (λ t. list_all (λ i. list_all (has_port (arities_are items r.guard body n t)) (named_ports i)) (rule_head_code r plan ++ rule_body_code r plan))
    ∙ ports_named items r.guard body n (nested table r plan whole)
