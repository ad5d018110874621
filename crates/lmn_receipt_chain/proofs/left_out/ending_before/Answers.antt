use Rattle.std.proofs.Common.{◌≡◌, ◌+◌, ◌-◌, ◌∙◌, arith, get_or, length, refl, subst}
use Rattle.std.proofs.lemmas.List.{length-set}
use Rattle.lmn_receipt_chain.proofs.LeftOutLemmas.{AreMarked, IsBehind, behind_more, marked_more, none_behind, none_marked}
use Rattle.lmn_receipt_chain.proofs.left_out.ending_before.Goals as goal

pub loop-membrane-init : goal.loop-membrane-init
loop-membrane-init c = record {
  many = c.in_ok-out.ensures;
  behind = none_behind c.args.depths.now c.args.closed (length c.args.depths.now);
  marks = none_marked c.args.depths.now c.args.closed (length c.args.depths.now) c.in_ok-out.out.items c.in_ok-out.ensures;
}

pub loop-membrane-preserved : goal.loop-membrane-preserved
loop-membrane-preserved c =
    let ds = c.args.depths.now in
    let closed = c.args.closed in
    let m = c.loop-membrane.membrane - 1 in
    let marks = c.loop-membrane.out.items in
    let behind = c.loop-membrane.behind in
    let many = c.loop-membrane.invariant.many in
    let test = c.loop-membrane-test.true in
    let auto = c.loop-membrane.auto.membrane in
    let next : c.loop-membrane.membrane ≡ m + 1 = omega (arith, test) in
    let known = subst (λ z. IsBehind ds closed z behind) next c.loop-membrane.invariant.behind in
    record {
      many = length-set marks m c.ends_before.result ∙ many;
      behind = behind_more ds closed m (get_or ds m 0) (length ds - m) behind c.least_behind-behind.result known refl (omega (arith, test, auto)) c.least_behind-behind.ensures;
      marks = marked_more ds closed m marks c.ends_before.result behind (omega (arith, many, test, auto)) known (subst (λ z. AreMarked ds closed z marks) next c.loop-membrane.invariant.marks) c.ends_before.ensures;
    }

pub returns : goal.returns
returns c = λ m. let past = c.loop-membrane-test.false in c.loop-membrane.invariant.marks m (omega (arith, past))
