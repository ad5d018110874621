use Rattle.std.proofs.Common.{subst}
use Rattle.lmn_machine.specs.Asking.{HoldsAsked}
use Rattle.lmn_machine.proofs.Fitting.{none_first}
use Rattle.lmn_machine.proofs.ahead.holds.Goals as goal

pub returns-in-None-first_with : goal.returns-in-None-first_with
returns-in-None-first_with g c = λ r k. none_first (g.S.LinkStore.heap c.args.store.now) c.in-Some.functor (g.S.LinkStore.mem_id c.args.m) c.in-None-first_with.ensures.list
    (subst (λ o. HoldsAsked (g.S.LinkStore.heap c.args.store.now) o (g.S.LinkStore.mem_id c.args.m)) c.in-Some.is k)
