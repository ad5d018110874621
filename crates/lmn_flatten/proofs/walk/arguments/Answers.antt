use Rattle.std.proofs.Common.{ap, arith, length, [], ◌∷◌}
use Rattle.std.proofs.lemmas.List.{length-append}
use Rattle.lmn_flatten.proofs.WalkLemmas.{no_arguments}
use Rattle.lmn_flatten.proofs.WalkSteps.{all_arguments, arguments_more}
use Rattle.lmn_flatten.proofs.walk.arguments.Goals as goal

pub loop-term-init : goal.loop-term-init
loop-term-init c = (ap length c.new-links.ensures, λ r way keys ready. no_arguments r way keys c.args.pos c.new-links.result c.args.glossary.now c.args.scope.now c.new-links.ensures ready)

pub loop-term-preserved : goal.loop-term-preserved
loop-term-preserved c =
    let before = c.loop-term.invariant in (
      omega (arith, ap length c.in_ok-push.ensures.ok, length-append c.loop-term.links (c.in_ok-link.link ∷ []), before.0),
      λ r way keys ready.
          arguments_more r way keys c.args.pos c.args.terms.now c.loop-term.term-index _ c.term-item.result c.loop-term.links c.push.new.self c.in_ok-link.link c.args.glossary.now
          c.loop-term.scope c.argument.new.self c.loop-term-test.true c.term-item.is ready.glossary (before.1 r way keys ready)
          (λ ks w is i j. c.in_ok-link.ensures r ks w is i j) c.in_ok-push.ensures.ok,
    )

pub returns : goal.returns
returns c = let after = c.loop-term.invariant in record {
  length = omega (arith, after.0, c.loop-term-test.false, c.loop-term.auto.term-index-end);
  links = λ r way keys ready. all_arguments r way keys c.args.pos c.args.terms.now c.loop-term.term-index c.loop-term.links c.loop-term.scope c.loop-term-test.false (after.1 r way keys ready);
}
