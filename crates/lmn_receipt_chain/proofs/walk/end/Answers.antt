use Rattle.std.proofs.Common.{Bool, true, false}
use Rattle.std.specs.Prelude.{IsFalse, IsTrue}
use Rattle.lmn_receipt_chain.proofs.WalkLemmas.{other_done, other_wrong, stuck_done, stuck_wrong}
use Rattle.lmn_receipt_chain.proofs.walk.end.Goals as goal

-- a test has one answer
not_both : (b : Bool) → IsFalse b → IsTrue b → ⊥
not_both true f t = absurd (cc)
not_both false f t = absurd (cc)

pub returns-then-other : goal.returns-then-other
returns-then-other g c =
    other_done (g.N.NextSolids.region c.args.solids.now c.args.solid.now) c.args.rest.now c.args.commits
    (c.in_ok-embeds.ensures.some c.if-embeds.true) (c.in_ok-other.ensures.0 c.if-other.true)

pub returns-else-other : goal.returns-else-other
returns-else-other g c = (
  c.requires.there,
  other_wrong (g.N.NextSolids.region c.args.solids.now c.args.solid.now) c.args.rest.now c.args.commits (c.in_ok-embeds.ensures.some c.if-embeds.true)
      (λ is. not_both c.in_ok-other.other c.if-other.false (c.in_ok-other.ensures.1 is)),
)

pub returns-then-stuck : goal.returns-then-stuck
returns-then-stuck g c =
    stuck_done (g.N.NextSolids.region c.args.solids.now c.args.solid.now) c.args.rest.now c.args.commits
    (c.in_ok-embeds.ensures.none c.if-embeds.false) (c.in_ok-stuck.ensures.0 c.if-stuck.true)

pub returns-else-stuck : goal.returns-else-stuck
returns-else-stuck g c = (
  c.requires.there,
  stuck_wrong (g.N.NextSolids.region c.args.solids.now c.args.solid.now) c.args.rest.now c.args.commits (c.in_ok-embeds.ensures.none c.if-embeds.false)
      (λ is. not_both c.in_ok-stuck.stuck c.if-stuck.false (c.in_ok-stuck.ensures.1 is)),
)
