use Rattle.lmn_flatten.proofs.CopyLemmas.{fresh_one, ok_both}
use Rattle.lmn_flatten.proofs.kept.fresh_or_same.Goals as goal

pub returns-then-count-eq2 : goal.returns-then-count-eq2
returns-then-count-eq2 c = ok_both c.next.result _ _ _
    (λ new number count r keys a h key absent. fresh_one r keys a c.args.count new c.args.scope.now c.next.new.self c.if-count-eq2.true h absent number count c.next.ensures.written)
    c.next.ensures.number c.next.ensures.count
