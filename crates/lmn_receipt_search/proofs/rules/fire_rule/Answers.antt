use Rattle.std.proofs.Common.{subst, sym, ◌∙◌}
use Rattle.lmn_base.proofs.Lists.{holds_of_item}
use Rattle.lmn_solid_heads.specs.Embeddings.{Embeds, IsLeast}
use Rattle.lmn_compile_head.specs.Accepted.{head_items}
use Rattle.lmn_compile_head.specs.Heads.{IsHead}
use Rattle.lmn_solid_tables.specs.Flats.{heap_of}
use Rattle.lmn_solid_search.specs.Finding.{images}
use Rattle.lmn_solid_next.specs.Firing.{TellsIntegers}
use Rattle.lmn_receipt_search.proofs.Places.{known_as, least_as}
use Rattle.lmn_receipt_search.proofs.rules.fire_rule.Goals as goal

pub flatten-requires : goal.flatten-requires
flatten-requires c =
    let q = c.requires.asked in
    (c.asked_rules.ensures.searched q.0 q.1 q.2 q.3 c.args.flat.now c.args.membrane q.4 c.args.rule.now c.args.plan.now q.5).room

pub least-requires-clause-valid : goal.least-requires-clause-valid
least-requires-clause-valid c =
    let q = c.requires.asked in
    (c.asked_rules.ensures.searched q.0 q.1 q.2 q.3 c.args.flat.now c.args.membrane q.4 c.args.rule.now c.args.plan.now q.5).valid

pub least-requires-clause-membrane : goal.least-requires-clause-membrane
least-requires-clause-membrane c =
    let q = c.requires.asked in
    (c.asked_rules.ensures.searched q.0 q.1 q.2 q.3 c.args.flat.now c.args.membrane q.4 c.args.rule.now c.args.plan.now q.5).there

pub least-requires-clause-head : goal.least-requires-clause-head
least-requires-clause-head c =
    let q = c.requires.asked in
    subst IsHead (sym (c.as_slice.ensures ∙ c.in_ok-items.ensures)) (c.asked_rules.ensures.searched q.0 q.1 q.2 q.3 c.args.flat.now c.args.membrane q.4 c.args.rule.now c.args.plan.now q.5).head

pub fire_found-requires-clause-items : goal.fire_found-requires-clause-items
fire_found-requires-clause-items c = c.as_slice-in-Some.ensures ∙ c.in_ok-items.ensures

pub fire_found-requires-clause-least : goal.fire_found-requires-clause-least
fire_found-requires-clause-least c =
    least_as (heap_of c.args.flat.now) c.args.membrane c.as_slice.result.now (head_items c.args.rule.now c.args.plan.now) c.as_slice-2.result.now c.args.rule.now.guard c.in-Some.found (c.as_slice.ensures ∙ c.in_ok-items.ensures) c.as_slice-2.ensures
    (holds_of_item (λ z. IsLeast (heap_of c.args.flat.now) c.as_slice.result.now c.as_slice-2.result.now c.args.membrane (images c.args.membrane z)) c.in_ok-least.least c.in-Some.found c.in-Some.is c.in_ok-least.ensures.some)

pub fire_found-requires-clause-known : goal.fire_found-requires-clause-known
fire_found-requires-clause-known c =
    known_as (heap_of c.args.flat.now) c.args.membrane c.as_slice.result.now (head_items c.args.rule.now c.args.plan.now) c.as_slice-2.result.now c.args.rule.now.guard c.in-Some.found (c.as_slice.ensures ∙ c.in_ok-items.ensures) c.as_slice-2.ensures
    (holds_of_item (TellsIntegers (heap_of c.args.flat.now) c.as_slice.result.now c.as_slice-2.result.now c.args.membrane) c.in_ok-least.least c.in-Some.found c.in-Some.is c.in_ok-least.ensures.known)

pub returns-clause-some : goal.returns-clause-some
returns-clause-some c names plain plans s place a = c.in_ok-firing-in-Some.ensures names plain plans s place a

pub returns-clause-none : goal.returns-clause-none
returns-clause-none c e = absurd (cc)

pub returns-in-None-clause-none : goal.returns-in-None-clause-none
returns-in-None-clause-none c q f em =
    c.in_ok-least.ensures.none c.in-None.is f (subst (λ xs. Embeds (heap_of c.args.flat.now) xs c.as_slice-2.result.now c.args.membrane f) (sym (c.as_slice.ensures ∙ c.in_ok-items.ensures))
    (subst (λ gs. Embeds (heap_of c.args.flat.now) (head_items c.args.rule.now c.args.plan.now) gs c.args.membrane f) (sym c.as_slice-2.ensures) em))
