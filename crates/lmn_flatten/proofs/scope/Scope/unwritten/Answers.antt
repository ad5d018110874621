use Rattle.std.proofs.Common.{refl}
use Rattle.lmn_flatten.proofs.ScopeLemmas.{next_made}
use Rattle.lmn_flatten.proofs.scope.Scope.unwritten.Goals as goal

pub returns : goal.returns
returns c = λ r keys way h absent.
    let found = next_made r keys c.args.self.now c.next.new.self way c.in_ok-link.link h absent c.in_ok-link.ensures.number c.in_ok-link.ensures.count c.in_ok-link.ensures.written in
    (found.0, (found.1, refl))
