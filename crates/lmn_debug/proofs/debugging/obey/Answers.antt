use Rattle.std.proofs.Common.{sym, subst}
use Rattle.lmn_store_web.specs.WebHeaps.{heap_of}
use Rattle.lmn_debug.specs.Obeying.{CarriesOut}
use Rattle.lmn_debug.proofs.debugging.obey.Goals as goal

pub returns-in-Step-clause-obeyed : goal.returns-in-Step-clause-obeyed
returns-in-Step-clause-obeyed g c =
    let now = c.args.session.now.engine in
    let then' = c.step.new.session.engine in
    let from = c.args.beginning.now in
    subst
    (λ order. CarriesOut (λ f t m r. g.F.Fn.post f (t, (m, tt)) r) from.choose c.args.names.now from.plain.now from.size order now.commits (heap_of now.machine.store) then'.commits (heap_of then'.machine.store)
    (g.O.Sink.told c.args.out.now) (g.O.Sink.told c.step.new.out) c.step.result)
    (sym c.in-Step.is) c.step.ensures.obeyed

pub returns-in-Back-clause-obeyed : goal.returns-in-Back-clause-obeyed
returns-in-Back-clause-obeyed g c =
    let now = c.args.session.now.engine in
    let then' = c.back.new.session.engine in
    let from = c.args.beginning.now in
    subst
    (λ order. CarriesOut (λ f t m r. g.F.Fn.post f (t, (m, tt)) r) from.choose c.args.names.now from.plain.now from.size order now.commits (heap_of now.machine.store) then'.commits (heap_of then'.machine.store)
    (g.O.Sink.told c.args.out.now) (g.O.Sink.told c.back.new.out) c.back.result)
    (sym c.in-Back.is) c.back.ensures.obeyed

pub returns-in-Until-clause-obeyed : goal.returns-in-Until-clause-obeyed
returns-in-Until-clause-obeyed g c =
    let now = c.args.session.now.engine in
    let then' = c.until.new.session.engine in
    let from = c.args.beginning.now in
    subst
    (λ order. CarriesOut (λ f t m r. g.F.Fn.post f (t, (m, tt)) r) from.choose c.args.names.now from.plain.now from.size order now.commits (heap_of now.machine.store) then'.commits (heap_of then'.machine.store)
    (g.O.Sink.told c.args.out.now) (g.O.Sink.told c.until.new.out) c.until.result)
    (sym c.in-Until.is) c.until.ensures.obeyed

pub returns-in-Show-clause-obeyed : goal.returns-in-Show-clause-obeyed
returns-in-Show-clause-obeyed g c =
    let now = c.args.session.now.engine in
    let then' = c.show.new.session.engine in
    let from = c.args.beginning.now in
    subst
    (λ order. CarriesOut (λ f t m r. g.F.Fn.post f (t, (m, tt)) r) from.choose c.args.names.now from.plain.now from.size order now.commits (heap_of now.machine.store) then'.commits (heap_of then'.machine.store)
    (g.O.Sink.told c.args.out.now) (g.O.Sink.told c.show.new.out) c.show.result)
    (sym c.in-Show.is) c.show.ensures.obeyed
