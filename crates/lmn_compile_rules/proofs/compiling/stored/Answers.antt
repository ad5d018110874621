use Rattle.std.proofs.Common.{◌+◌, length, refl, arith, ◌∙◌, sym, subst}
use Rattle.std.proofs.lemmas.Option.{slice_get_read}
use Rattle.lmn_compile_rules.proofs.RuleCodes.{AreSoFar, none_yet, one_more}
use Rattle.lmn_compile_rules.proofs.compiling.stored.Goals as goal

pub loop-k-init : goal.loop-k-init
loop-k-init c = record { done = none_yet c.args.plain.now.rules c.args.plans.now c.new-codes.result c.new-codes.ensures }

pub rule_code-requires : goal.rule_code-requires
rule_code-requires c = c.accepted_bodies.ensures.room c.args.plain.now.rules c.at.result.now c.index-plans-k.result
    (c.requires.whole c.loop-k.k c.at.result.now c.index-plans-k.result c.at.ensures
    (slice_get_read c.args.plans.now (length c.args.plans.now) c.loop-k.k c.index-plans-k.result refl
    (let m = c.requires.many in let t = c.loop-k-test.true in let e = c.len-k-end.ensures in omega (arith, m, t, e)) c.index-plans-k.is))

pub loop-k-preserved : goal.loop-k-preserved
loop-k-preserved c = record {
  done = subst (AreSoFar c.args.plain.now.rules c.args.plans.now (c.loop-k.k + 1)) (sym c.in_ok-push.ensures.ok)
      (one_more c.args.plain.now.rules c.args.plans.now c.loop-k.k c.loop-k.codes c.at.result.now c.index-plans-k.result c.in_ok-rule_code.field-0 c.at.ensures
      (slice_get_read c.args.plans.now (length c.args.plans.now) c.loop-k.k c.index-plans-k.result refl
      (let m = c.requires.many in let t = c.loop-k-test.true in let e = c.len-k-end.ensures in omega (arith, m, t, e)) c.index-plans-k.is)
      c.in_ok-rule_code.ensures c.loop-k.invariant.done);
}

pub returns : goal.returns
returns c = record {
  many = c.loop-k.invariant.done.many ∙ (let f = c.loop-k-test.false in let k = c.loop-k.auto.k-end in let e = c.len-k-end.ensures in omega (arith, f, k, e));
  each = c.loop-k.invariant.done.each;
}
