use Rattle.lmn_base.proofs.Lists.{weaker}
use Rattle.lmn_solid_tables.specs.Flats.{heap_of}
use Rattle.lmn_solid_next.specs.Choosing.{NoneOf}
use Rattle.lmn_receipt_search.specs.Turns.{FiresInWithin, FiresWithin}
use Rattle.lmn_receipt_search.proofs.Places.{asked_here, fires_here, known_here, none_here, nothing_by, whole_front}
use Rattle.lmn_receipt_search.proofs.rules.fire_in.Goals as goal

pub at-requires : goal.at-requires
at-requires c =
    let q = c.requires.searched in
    (known_here c.asked_rules.ensures q.0 c.args.plain.now c.args.plans.now q.1 c.args.flat.now c.args.membrane c.loop-place.place c.rules-rules.result.now q.2 c.rules-rules.ensures c.rule_at-number.result c.rule_at-number.ensures).0

pub bounds-plans-number : goal.bounds-plans-number
bounds-plans-number c =
    let q = c.requires.searched in
    (known_here c.asked_rules.ensures q.0 c.args.plain.now c.args.plans.now q.1 c.args.flat.now c.args.membrane c.loop-place.place c.rules-rules.result.now q.2 c.rules-rules.ensures c.rule_at-number.result c.rule_at-number.ensures).1

pub fire_rule-requires-clause-asked : goal.fire_rule-requires-clause-asked
fire_rule-requires-clause-asked c =
    let q = c.requires.searched in
    (q.0, c.args.plain.now, c.args.plans.now, q.1, c.loop-place.place, asked_here c.asked_rules.ensures q.0 c.args.plain.now c.args.plans.now q.1 c.args.flat.now c.args.membrane c.loop-place.place c.rules-rules.result.now q.2 c.rules-rules.ensures c.rule_at-number.result c.rule_at-number.ensures c.at.result.now c.index-plans-number.result _ c.requires.there c.at.ensures c.index-plans-number.is)

pub returns-then-is_some-clause-some : goal.returns-then-is_some-clause-some
returns-then-is_some-clause-some c names s w =
    let a = asked_here c.asked_rules.ensures names c.args.plain.now c.args.plans.now s c.args.flat.now c.args.membrane c.loop-place.place c.rules-rules.result.now w c.rules-rules.ensures c.rule_at-number.result c.rule_at-number.ensures c.at.result.now c.index-plans-number.result _ c.requires.there c.at.ensures c.index-plans-number.is in
    weaker c.in_ok-fired.fired (λ firing. FiresWithin names c.args.plain.now s c.args.flat.now c.args.membrane c.loop-place.place c.at.result.now c.index-plans-number.result c.args.limit firing.solid)
    (λ firing. FiresInWithin names c.args.plain.now c.args.plans.now s c.args.flat.now c.args.membrane c.args.limit firing.solid)
    (λ firing. fires_here c.asked_rules.ensures names c.args.plain.now c.args.plans.now s c.args.flat.now c.args.membrane c.loop-place.place c.rules-rules.result.now w c.rules-rules.ensures c.rule_at-number.result c.rule_at-number.ensures c.at.result.now c.index-plans-number.result a c.loop-place.invariant.none c.args.limit firing.solid)
    (c.in_ok-fired.ensures.some names c.args.plain.now c.args.plans.now s c.loop-place.place a)

pub loop-place-preserved : goal.loop-place-preserved
loop-place-preserved c =
    let q = c.requires.searched in
    record {
      room = c.in_ok-fired.ensures.room;
      none = none_here c.asked_rules.ensures q.0 c.args.plain.now c.args.plans.now q.1 c.args.flat.now c.args.membrane c.loop-place.place c.rules-rules.result.now q.2 c.rules-rules.ensures c.rule_at-number.result c.rule_at-number.ensures c.at.result.now c.index-plans-number.result _ c.at.ensures c.index-plans-number.is c.loop-place.invariant.none
          (c.in_ok-fired.ensures.none (nothing_by c.in_ok-fired.fired c.is_some.result c.is_some.ensures c.if-is_some.false));
    }

pub returns-clause-none : goal.returns-clause-none
returns-clause-none c e =
    whole_front (NoneOf c.args.plain.now.rules c.args.plans.now (heap_of c.args.flat.now) c.args.membrane) c.rules-rules.result.now _ c.loop-place.place c.rules-rules.ensures c.loop-place-test.false c.loop-place.invariant.none
