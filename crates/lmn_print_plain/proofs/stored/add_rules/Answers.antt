use Rattle.std.proofs.Common.{ℕ, arith}
use Rattle.lmn_congruence.specs.Translation.{numbered_rule}
use Rattle.lmn_store_heap.specs.Heap.{rules_in}
use Rattle.lmn_flatten_plain.specs.Words.{rule_pieces, text_of}
use Rattle.lmn_print_plain.proofs.DueLemmas.{due_first, place_step, places_end}
use Rattle.lmn_print_plain.proofs.stored.add_rules.Goals as goal

pub loop-i-init : goal.loop-i-init
loop-i-init g c = due_first _ _

pub loop-i-preserved : goal.loop-i-preserved
loop-i-preserved g c =
    place_step c.args.between.now c.loop-i.any (λ (k : ℕ). text_of (rule_pieces (numbered_rule c.args.names.now c.args.table.now k))) c.rule.result c.loop-i.i (rules_in (g.S.LinkStore.heap c.args.store.now) (g.S.LinkStore.mem_id c.args.mem)) _ _ _ _ _
    (let t = c.loop-i-test.true in let e = c.rules-i-end.ensures in omega (arith, t, e)) c.rule.ensures c.loop-i.invariant c.add_between.ensures c.add_rule.ensures

pub returns : goal.returns
returns g c =
    places_end c.args.between.now c.loop-i.any (λ (k : ℕ). text_of (rule_pieces (numbered_rule c.args.names.now c.args.table.now k))) c.loop-i.i (rules_in (g.S.LinkStore.heap c.args.store.now) (g.S.LinkStore.mem_id c.args.mem)) _ _ _
    (let t = c.loop-i-test.false in let e = c.rules-i-end.ensures in omega (arith, t, e)) c.loop-i.invariant
