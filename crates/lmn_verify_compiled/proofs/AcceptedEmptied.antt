-- In the code of each accepted rule each membrane that is taken out is empty then.
use Rattle.std.proofs.Common.{length, refl, ◌∙◌}
use Rattle.std.specs.List.{list_all}
use Rattle.lmn_compile_head.specs.Heads.{kind_in}
use Rattle.lmn_compile_head.specs.Accepted.{head_items}
use Rattle.lmn_compile_body.specs.Accepted.{AcceptedNested, rule_body_items, rule_body_names}
use Rattle.lmn_solid_heads.specs.Heads.{membranes_of}
use Rattle.lmn_verify_code.specs.Verified.{is_emptied, membranes_found}
use Rattle.lmn_verify_compiled.proofs.Clauses.{AcceptedIsEmptied}
use Rattle.lmn_verify_compiled.proofs.HeadMembranes.{closed_has, rest_has}
use Rattle.lmn_verify_compiled.proofs.Emptied.{all_emptied}

pub accepted_is_emptied : AcceptedNested → AcceptedIsEmptied
accepted_is_emptied nested table r plan code whole compiled =
    let items = head_items r plan in
    let body = rule_body_items r plan in
    let kind = kind_in plan.kinds in
    (λ t. list_all (is_emptied (record { head = compiled.head t; body = compiled.body t })) (membranes_found (compiled.head t)))
    ∙ all_emptied items r.guard body (length r.links) (nested table r plan whole) (closed_has kind r.head) (λ k b i h. rest_has kind (rule_body_names r plan) (length (membranes_of items)) r.head r.body (λ x. refl) k b i h)
