use Rattle.std.proofs.Common.{arith, subst, sym}
use Rattle.lmn_solid_heads.specs.Embeddings.{Lies}
use Rattle.lmn_compile_head.specs.Heads.{IsHead, kind_in}
use Rattle.lmn_solid_tables.specs.Flats.{heap_of}
use Rattle.lmn_store_heap.specs.Heap.{IsMem}
use Rattle.lmn_solid_search.specs.Finding.{images}
use Rattle.lmn_solid_firing.specs.Matched.{IsMatched}
use Rattle.lmn_solid_settle.specs.Raw.{CanSettle, IsSettled}
use Rattle.lmn_receipt_search.proofs.Fired.{settled_to}
use Rattle.lmn_receipt_search.proofs.rules.fire_found.Goals as goal

pub matched-requires-clause-valid : goal.matched-requires-clause-valid
matched-requires-clause-valid c =
    let q = c.requires.asked in
    (c.asked_rules.ensures.searched q.0 q.1 q.2 q.3 c.args.flat.now c.args.membrane q.4 c.args.rule.now c.args.plan.now q.5).valid

pub matched-requires-clause-membrane : goal.matched-requires-clause-membrane
matched-requires-clause-membrane c = c.requires.asked.5.there

pub matched-requires-clause-items : goal.matched-requires-clause-items
matched-requires-clause-items c = (kind_in c.args.plan.now.kinds, c.requires.items)

pub matched-requires-clause-head : goal.matched-requires-clause-head
matched-requires-clause-head c =
    let q = c.requires.asked in
    subst IsHead (sym c.requires.items) (c.asked_rules.ensures.searched q.0 q.1 q.2 q.3 c.args.flat.now c.args.membrane q.4 c.args.rule.now c.args.plan.now q.5).head

pub matched-requires-clause-lies : goal.matched-requires-clause-lies
matched-requires-clause-lies c = subst (λ xs. Lies (heap_of c.args.flat.now) xs c.args.membrane (images c.args.membrane c.args.found.now)) (sym c.requires.items) c.requires.least.embeds.lies

pub fire-requires-clause-valid : goal.fire-requires-clause-valid
fire-requires-clause-valid c =
    let q = c.requires.asked in
    (c.asked_rules.ensures.searched q.0 q.1 q.2 q.3 c.args.flat.now c.args.membrane q.4 c.args.rule.now c.args.plan.now q.5).valid

pub fire-requires-clause-home : goal.fire-requires-clause-home
fire-requires-clause-home c = subst (IsMem (heap_of c.args.flat.now)) (sym c.in_ok-taken.ensures.matched.home) c.requires.asked.5.there

pub settle-requires : goal.settle-requires
settle-requires c =
    let q = c.requires.asked in
    let u =
    settled_to c.asked_rules_fire.ensures q.0 q.1 q.2 q.3 c.args.flat.now c.args.membrane q.4 c.args.rule.now c.args.plan.now q.5 c.args.items.now c.requires.items c.args.found.now c.requires.least c.requires.known c.in_ok-taken.taken c.in_ok-taken.ensures.matched
    c.new-connectors.result c.matched.new.connectors c.new-connectors.ensures c.in_ok-taken.ensures.connectors c.in_ok-membranes.membranes.items c.fire.new.connectors c.in_ok-membranes.links c.len.result c.len.ensures
    (λ left forms inner whole. c.in_ok-membranes.ensures left forms inner whole) in
    (u.region, u.is_laid, subst (λ es. CanSettle u.region es c.in_ok-membranes.links) (sym c.as_slice.ensures) u.can_settle)

pub returns : goal.returns
returns c names plain plans s place a =
    let u =
    settled_to c.asked_rules_fire.ensures names plain plans s c.args.flat.now c.args.membrane place c.args.rule.now c.args.plan.now a c.args.items.now c.requires.items c.args.found.now c.requires.least c.requires.known c.in_ok-taken.taken c.in_ok-taken.ensures.matched
    c.new-connectors.result c.matched.new.connectors c.new-connectors.ensures c.in_ok-taken.ensures.connectors c.in_ok-membranes.membranes.items c.fire.new.connectors c.in_ok-membranes.links c.len.result c.len.ensures
    (λ left forms inner whole. c.in_ok-membranes.ensures left forms inner whole) in
    u.next c.in_ok-next.next (subst (λ es. IsSettled u.region es c.in_ok-next.next) c.as_slice.ensures
    (c.in_ok-next.ensures u.region u.is_laid (subst (λ es. CanSettle u.region es c.in_ok-membranes.links) (sym c.as_slice.ensures) u.can_settle)))

pub returns-then-are_beyond : goal.returns-then-are_beyond
returns-then-are_beyond c names plain plans s place a =
    let w =
    c.bodies_are_counted.ensures names plain plans s c.args.flat.now c.args.membrane place c.args.rule.now c.args.plan.now a c.args.found.now c.requires.least c.requires.known c.in_ok-taken.taken
    (subst (λ xs. IsMatched c.args.flat.now c.args.rule.now xs c.args.membrane c.args.found.now c.in_ok-taken.taken) c.requires.items c.in_ok-taken.ensures.matched) c.in_ok-taken.ensures.ready c.args.sizes.now.of.items c.requires.sizes in
    let many = c.are_beyond.ensures c.if-are_beyond.true in
    (w.0, w.1, record { many = omega (arith, w.2, many); quiet = w.3 })
