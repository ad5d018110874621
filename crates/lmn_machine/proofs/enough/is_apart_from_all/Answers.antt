use Rattle.std.proofs.Common.{◌≡◌, inl, inr, arith, subst}
use Rattle.std.proofs.lemmas.Bool.{cases_lt}
use Rattle.lmn_machine.specs.Enough.{Takes}
use Rattle.lmn_machine.proofs.enough.is_apart_from_all.Goals as goal

pub loop-i-init : goal.loop-i-init
loop-i-init c = record { apart = λ k y l m e. absurd (omega (arith, l, m)) }

pub loop-i-preserved : goal.loop-i-preserved
loop-i-preserved c = record {
  apart = λ k y l m e. elim (cases_lt k c.loop-i.i) [
    | inl n ↦ c.loop-i.invariant.apart k y l n e
    | inr n ↦ (let is : k ≡ c.loop-i.i = omega (arith, m, n) in
        c.is_apart_at.ensures c.if-not-is_apart_at.false y (subst (λ j. Takes c.args.want.kind c.args.code.now j c.args.want.membrane c.args.want.functor y) is e))
  ];
}

pub returns : goal.returns
returns c = λ t k y l m e. c.loop-i.invariant.apart k y l (let past = c.loop-i-test.false in omega (arith, m, past)) e
