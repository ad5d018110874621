use Rattle.std.proofs.Common.{◌+◌}
use Rattle.std.proofs.lemmas.Result.{IfOk-weaker}
use Rattle.lmn_flatten.proofs.SmallParts.{rest_new, rest_end}
use Rattle.lmn_flatten.proofs.WalkSteps.{no_term_left, some_term_left}
use Rattle.lmn_flatten.proofs.walk.rest.Goals as goal

pub returns-then-i-elements : goal.returns-then-i-elements
returns-then-i-elements c = IfOk-weaker c.unwritten.result _ _
    (λ occ found r keys way last h absent is_use. rest_new r keys way last _ c.args.pos occ c.unwritten.new.self (some_term_left c.args.elements.now (c.args.i + 1) c.if-i-elements.true) (found r keys way h absent))
    c.unwritten.ensures

pub returns-else-i-elements : goal.returns-else-i-elements
returns-else-i-elements c = λ r keys way last h absent is_use. rest_end r keys way last _ c.args.pos c.args.end c.args.scope.now (no_term_left c.args.elements.now (c.args.i + 1) c.if-i-elements.false) h is_use
