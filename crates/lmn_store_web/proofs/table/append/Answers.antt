use Rattle.std.proofs.Common.{◌∙◌, sym, ap, subst, length, arith, IsSome, Option}
use Rattle.std.specs.Option.{option_map}
use Rattle.std.specs.Prelude.{slice_index_or}
use Rattle.lmn_store_heap.specs.Heap.{HeapMem, alter, rules_by, mem_with_rules}
use Rattle.lmn_store_counts.proofs.RuleLemmas.{rules_next, rules_same, rules_spare, take_all}
use Rattle.lmn_store_web.specs.Tables.{rows}
use Rattle.lmn_store_web.proofs.TableLemmas.{row_there, row_is}
use Rattle.lmn_store_web.proofs.table.append.Goals as goal

pub index-requires : goal.index-requires
index-requires c = sym (row_there c.args.table.now.slots c.args.from) ∙ c.requires.there

pub index-requires-in-loop-i : goal.index-requires-in-loop-i
index-requires-in-loop-i c =
    let count = c.len-count.ensures ∙ ap length (sym (ap rules_by (row_is c.args.table.now.slots c.args.from c.index.result.now c.index.ensures))) in
    let below = c.loop-i-test.true in
    let same = rules_same _ _ c.args.to c.args.from c.loop-i.i _ c.loop-i.invariant (omega (arith, count, below)) (λ e. c.requires.differ (sym e)) in
    sym (row_there c.loop-i.table.slots c.args.from) ∙ subst (λ (o : Option HeapMem). IsSome o) (sym same) c.requires.there

pub at-rule-requires : goal.at-rule-requires
at-rule-requires c =
    let count = c.len-count.ensures ∙ ap length (sym (ap rules_by (row_is c.args.table.now.slots c.args.from c.index.result.now c.index.ensures))) in
    let below = c.loop-i-test.true in
    let same = rules_same _ _ c.args.to c.args.from c.loop-i.i _ c.loop-i.invariant (omega (arith, count, below)) (λ e. c.requires.differ (sym e)) in
    let here = ap length (sym (ap rules_by same) ∙ ap rules_by (row_is c.loop-i.table.slots c.args.from c.index-in-loop-i.result.now c.index-in-loop-i.ensures)) in
    omega (arith, count, below, here)

pub push-requires : goal.push-requires
push-requires c x e =
    let count = c.len-count.ensures ∙ ap length (sym (ap rules_by (row_is c.args.table.now.slots c.args.from c.index.result.now c.index.ensures))) in
    let below = c.loop-i-test.true in
    rules_spare _ _ c.args.to c.args.from c.loop-i.i _ c.loop-i.invariant (omega (arith, count, below)) c.requires.spare x e

pub loop-i-preserved : goal.loop-i-preserved
loop-i-preserved c =
    let count = c.len-count.ensures ∙ ap length (sym (ap rules_by (row_is c.args.table.now.slots c.args.from c.index.result.now c.index.ensures))) in
    let below = c.loop-i-test.true in
    let same = rules_same _ _ c.args.to c.args.from c.loop-i.i _ c.loop-i.invariant (omega (arith, count, below)) (λ e. c.requires.differ (sym e)) in
    let here = sym (ap rules_by same) ∙ ap rules_by (row_is c.loop-i.table.slots c.args.from c.index-in-loop-i.result.now c.index-in-loop-i.ensures) in
    rules_next _ _ c.args.to c.args.from c.loop-i.i _ c.loop-i.invariant (omega (arith, count, below)) _ c.at-rule.result
    (ap (λ rs. slice_index_or rs c.loop-i.i 0) here ∙ c.at-rule.ensures) c.push.ensures

pub returns-clause-rows : goal.returns-clause-rows
returns-clause-rows c =
    let count = c.len-count.ensures ∙ ap length (sym (ap rules_by (row_is c.args.table.now.slots c.args.from c.index.result.now c.index.ensures))) in
    let past = c.loop-i-test.false in
    let end = c.loop-i.auto.i-end in
    c.loop-i.invariant ∙ ap (λ ks. alter (rows c.args.table.now.slots) c.args.to (option_map (mem_with_rules ks))) (take_all _ c.loop-i.i (omega (arith, count, past, end)))
