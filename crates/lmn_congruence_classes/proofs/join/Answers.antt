use Rattle.std.proofs.Common.{arith, subst, sym}
use Rattle.lmn_congruence_splice.specs.Classes.{with_joined}
use Rattle.lmn_congruence_classes.specs.Tables.{Represents}
use Rattle.lmn_congruence_classes.proofs.ClassTables.{joined_less, joined_other}
use Rattle.lmn_congruence_classes.proofs.join.Goals as goal

pub returns-then-a-b-clause-class : goal.returns-then-a-b-clause-class
returns-then-a-b-clause-class c = λ m r.
    let a = c.find-a.ensures.class m r in let b = c.find-b.ensures.class m a.0 in
    let less = c.if-a-b.true in let k = c.find-b.ensures.below in let l = c.find-b.ensures.length in let n = c.find-a.ensures.length in let q = c.requires.right in
    subst (λ t. Represents t (with_joined m c.args.left c.args.right)) (sym c.set.ensures)
    (joined_less c.find-b.new.table m c.args.left c.args.right c.find-a.result c.find-b.result b.0 (omega (arith, less)) (omega (arith, k, l, n, q)) a.1 b.1 a.2 b.2)

pub returns-else-a-b-clause-class : goal.returns-else-a-b-clause-class
returns-else-a-b-clause-class c = λ m r.
    let a = c.find-a.ensures.class m r in let b = c.find-b.ensures.class m a.0 in
    let less = c.if-a-b.false in let k = c.find-a.ensures.below in let l = c.find-b.ensures.length in let n = c.find-a.ensures.length in let q = c.requires.left in
    subst (λ t. Represents t (with_joined m c.args.left c.args.right)) (sym c.set-else-a-b.ensures)
    (joined_other c.find-b.new.table m c.args.left c.args.right c.find-a.result c.find-b.result b.0 (omega (arith, less)) (omega (arith, k, l, n, q)) a.1 b.1 a.2 b.2)
