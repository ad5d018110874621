use Rattle.std.proofs.Common.{None, arith, drop, subst, sym}
use Rattle.lmn_machine.specs.Asking.{IsFitting}
use Rattle.lmn_machine.proofs.ahead.further_candidate.Goals as goal

pub returns-in-None-clause-fits : goal.returns-in-None-clause-fits
returns-in-None-clause-fits g c =
    subst (λ o. IsFitting g.S.LinkStore.atom_id g.S.LinkStore.mem_id (g.S.LinkStore.heap c.args.store.now) c.args.set.now (drop c.args.at c.args.code.now) c.args.functor (g.S.LinkStore.mem_id c.args.place) o None) (sym c.in-None.is)
    (record { functor = tt; home = tt; further = omega arith; left = λ b s k t i. i })
