use Rattle.std.proofs.Common.{refl, sym, ◌∙◌}
use Rattle.lmn_flatten.proofs.ScopeLemmas.{met_before, met_first}
use Rattle.lmn_flatten.proofs.scope.Scope.named.Goals as goal

pub returns-in-Some : goal.returns-in-Some
returns-in-Some c = λ r keys n names h g. met_before r keys c.args.self.now c.args.name c.in-Some.number n h g (sym c.number_of.ensures ∙ c.in-Some.is)

pub returns-in_ok-insert-in-None : goal.returns-in_ok-insert-in-None
returns-in_ok-insert-in-None c = λ r keys n names h g.
    met_first r keys c.args.self.now c.next.new.self (record { written = c.insert.new.self; count = c.next.new.self.count }) c.args.name c.in_ok-number-in-None.number n
    names h g (sym c.number_of.ensures ∙ c.in-None.is) c.in_ok-number-in-None.ensures.number c.in_ok-number-in-None.ensures.count c.in_ok-number-in-None.ensures.written refl
    c.in_ok-insert-in-None.ensures.updates
