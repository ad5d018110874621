use Rattle.std.proofs.Common.{sym, subst}
use Rattle.lmn_solid_tables.specs.Flats.{heap_of}
use Rattle.lmn_solid_search.specs.Choosing.{Answers, Sits}
use Rattle.lmn_solid_search.specs.declared.placed.Placed.{Placed}
use Rattle.lmn_solid_search.proofs.AheadLemmas.{embeds_ahead}
use Rattle.lmn_solid_search.proofs.PairingLemmas.{port_differs}
use Rattle.lmn_solid_search.proofs.LeastLemmas.{integers, is_least, nothing, searchable, sits_first, started}
use Rattle.lmn_solid_search.proofs.embedding.least.Goals as goal

pub search-requires-clause-head : goal.search-requires-clause-head
search-requires-clause-head c = searchable c.args.items.now c.in_ok-head.head c.in_ok-head.ensures c.requires.head

pub search-requires-clause-sits : goal.search-requires-clause-sits
search-requires-clause-sits c = subst (λ (z : Placed). Sits (heap_of c.args.flat.now) c.in_ok-head.head c.args.items.now z) (sym (started c.args.membrane c.new.result c.new-2.result c.new.ensures c.new-2.ensures)) (sits_first c.args.items.now c.in_ok-head.head c.in_ok-head.ensures c.requires.head (heap_of c.args.flat.now) c.args.membrane c.requires.membrane)

pub returns-in-Found-clause-some : goal.returns-in-Found-clause-some
returns-in-Found-clause-some c =
    is_least (heap_of c.args.flat.now) c.requires.valid c.args.items.now c.in_ok-head.head c.in_ok-head.ensures c.requires.head c.args.guard.now c.args.membrane c.search.new.placed c.in_ok-fulfilled.field-0 c.in-Found.fulfilled c.in_ok-found-in-Found.found c.in-Found.is (subst (λ (z : Placed). Answers (heap_of c.args.flat.now) c.in_ok-head.head c.args.guard.now c.args.items.now z c.search.new.placed c.in_ok-fulfilled.field-0) (started c.args.membrane c.new.result c.new-2.result c.new.ensures c.new-2.ensures) c.in_ok-fulfilled.ensures.answers) c.in_ok-found-in-Found.ensures.atoms c.in_ok-found-in-Found.ensures.membranes c.in_ok-found-in-Found.ensures.parts

pub returns-in-Found-clause-none : goal.returns-in-Found-clause-none
returns-in-Found-clause-none c = λ e. absurd (cc)

pub returns-in-Found-clause-known : goal.returns-in-Found-clause-known
returns-in-Found-clause-known c =
    integers (heap_of c.args.flat.now) c.requires.valid c.args.items.now c.in_ok-head.head c.in_ok-head.ensures c.requires.head c.args.guard.now c.args.membrane c.search.new.placed c.in_ok-fulfilled.field-0 c.in-Found.fulfilled c.in_ok-found-in-Found.found c.in-Found.is (subst (λ (z : Placed). Answers (heap_of c.args.flat.now) c.in_ok-head.head c.args.guard.now c.args.items.now z c.search.new.placed c.in_ok-fulfilled.field-0) (started c.args.membrane c.new.result c.new-2.result c.new.ensures c.new-2.ensures) c.in_ok-fulfilled.ensures.answers) c.in_ok-found-in-Found.ensures.atoms c.in_ok-found-in-Found.ensures.membranes c.in_ok-found-in-Found.ensures.parts
    c.in_ok-found-in-Found.ensures.names c.in_ok-found-in-Found.ensures.values

pub returns-clause-none : goal.returns-clause-none
returns-clause-none c = λ e. nothing (heap_of c.args.flat.now) c.requires.valid c.args.items.now c.in_ok-head.head c.in_ok-head.ensures c.requires.head c.args.guard.now c.args.membrane c.search.new.placed c.in_ok-fulfilled.field-0 _ c.in-Failed.is (subst (λ (z : Placed). Answers (heap_of c.args.flat.now) c.in_ok-head.head c.args.guard.now c.args.items.now z c.search.new.placed c.in_ok-fulfilled.field-0) (started c.args.membrane c.new.result c.new-2.result c.new.ensures c.new-2.ensures) c.in_ok-fulfilled.ensures.answers)

pub returns-then-not-holds_functors-clause-none : goal.returns-then-not-holds_functors-clause-none
returns-then-not-holds_functors-clause-none c = λ e f g. port_differs c.holds_functors.ensures.1 c.if-not-holds_functors.true (embeds_ahead (heap_of c.args.flat.now) c.args.items.now c.args.guard.now c.args.membrane f g)
