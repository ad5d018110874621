use Rattle.lmn_solid_tables.specs.Flats.{heap_of}
use Rattle.lmn_solid_next.specs.Choosing.{NoneOf}
use Rattle.lmn_receipt_search.proofs.Places.{asked_here, embeds_here, known_here, none_here, whole_front}
use Rattle.lmn_receipt_search.proofs.rules.embeds_in.Goals as goal

pub at-requires : goal.at-requires
at-requires c =
    let q = c.requires.searched in
    (known_here c.asked_rules.ensures q.0 c.args.plain.now c.args.plans.now q.1 c.args.flat.now c.args.membrane c.loop-turn.turn c.rules-rules.result.now q.2 c.rules-rules.ensures c.rule_at-number.result c.rule_at-number.ensures).0

pub bounds-plans-number : goal.bounds-plans-number
bounds-plans-number c =
    let q = c.requires.searched in
    (known_here c.asked_rules.ensures q.0 c.args.plain.now c.args.plans.now q.1 c.args.flat.now c.args.membrane c.loop-turn.turn c.rules-rules.result.now q.2 c.rules-rules.ensures c.rule_at-number.result c.rule_at-number.ensures).1

pub rule_embeds-requires-clause-asked : goal.rule_embeds-requires-clause-asked
rule_embeds-requires-clause-asked c =
    let q = c.requires.searched in
    (q.0, c.args.plain.now, c.args.plans.now, q.1, c.loop-turn.turn, asked_here c.asked_rules.ensures q.0 c.args.plain.now c.args.plans.now q.1 c.args.flat.now c.args.membrane c.loop-turn.turn c.rules-rules.result.now q.2 c.rules-rules.ensures c.rule_at-number.result c.rule_at-number.ensures c.at.result.now c.index-plans-number.result _ c.requires.there c.at.ensures c.index-plans-number.is)

pub returns-then-branch-clause-some : goal.returns-then-branch-clause-some
returns-then-branch-clause-some c names s w is =
    let a = asked_here c.asked_rules.ensures names c.args.plain.now c.args.plans.now s c.args.flat.now c.args.membrane c.loop-turn.turn c.rules-rules.result.now w c.rules-rules.ensures c.rule_at-number.result c.rule_at-number.ensures c.at.result.now c.index-plans-number.result _ c.requires.there c.at.ensures c.index-plans-number.is in
    embeds_here c.asked_rules.ensures names c.args.plain.now c.args.plans.now s c.args.flat.now c.args.membrane c.loop-turn.turn c.rules-rules.result.now w c.rules-rules.ensures c.rule_at-number.result c.rule_at-number.ensures c.at.result.now c.index-plans-number.result a c.loop-turn.invariant.none
    (c.in_ok-rule_embeds.ensures.some c.if-branch.true)

pub loop-turn-preserved : goal.loop-turn-preserved
loop-turn-preserved c =
    let q = c.requires.searched in
    record {
      room = c.in_ok-rule_embeds.ensures.room;
      none = none_here c.asked_rules.ensures q.0 c.args.plain.now c.args.plans.now q.1 c.args.flat.now c.args.membrane c.loop-turn.turn c.rules-rules.result.now q.2 c.rules-rules.ensures c.rule_at-number.result c.rule_at-number.ensures c.at.result.now c.index-plans-number.result _ c.at.ensures c.index-plans-number.is c.loop-turn.invariant.none
          (c.in_ok-rule_embeds.ensures.none c.if-branch.false);
    }

pub returns-clause-none : goal.returns-clause-none
returns-clause-none c is =
    whole_front (NoneOf c.args.plain.now.rules c.args.plans.now (heap_of c.args.flat.now) c.args.membrane) c.rules-rules.result.now _ c.loop-turn.turn c.rules-rules.ensures c.loop-turn-test.false c.loop-turn.invariant.none
