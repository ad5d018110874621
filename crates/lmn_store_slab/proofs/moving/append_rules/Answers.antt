use Rattle.std.proofs.Common.{◌∙◌, sym, ap, subst, length, arith, IsSome, Option}
use Rattle.std.specs.Option.{option_map}
use Rattle.std.specs.Prelude.{slice_index_or}
use Rattle.lmn_store_heap.specs.Heap.{HeapMem, alter, rules_by, mem_with_rules}
use Rattle.lmn_store_slab.specs.Cells.{mems_in_cells}
use Rattle.lmn_store_counts.proofs.RuleLemmas.{rules_next, rules_same, rules_spare, take_all}
use Rattle.lmn_store_slab.proofs.SeekLemmas.{mem_cell_is, rules_cell}
use Rattle.lmn_store_slab.proofs.moving.append_rules.Goals as goal

pub index-requires-in-loop-i : goal.index-requires-in-loop-i
index-requires-in-loop-i c =
    let count = c.len-count.ensures ∙ ap length (sym (rules_cell c.args.mems.now.slots c.args.m c.index.result.now c.index.ensures)) in
    let below = c.loop-i-test.true in
    let same = rules_same _ _ c.args.n c.args.m c.loop-i.i _ c.loop-i.invariant (omega (arith, count, below)) (λ e. c.requires.differ (sym e)) in
    mem_cell_is c.loop-i.mems.slots c.args.m (subst (λ (o : Option HeapMem). IsSome o) (sym same) c.requires.m)

pub at-k-requires : goal.at-k-requires
at-k-requires c =
    let count = c.len-count.ensures ∙ ap length (sym (rules_cell c.args.mems.now.slots c.args.m c.index.result.now c.index.ensures)) in
    let below = c.loop-i-test.true in
    let same = rules_same _ _ c.args.n c.args.m c.loop-i.i _ c.loop-i.invariant (omega (arith, count, below)) (λ e. c.requires.differ (sym e)) in
    let here = ap length (sym (ap rules_by same) ∙ rules_cell c.loop-i.mems.slots c.args.m c.index-in-loop-i.result.now c.index-in-loop-i.ensures) in
    omega (arith, count, below, here)

pub push_rule-requires : goal.push_rule-requires
push_rule-requires c x e =
    let count = c.len-count.ensures ∙ ap length (sym (rules_cell c.args.mems.now.slots c.args.m c.index.result.now c.index.ensures)) in
    let below = c.loop-i-test.true in
    rules_spare _ _ c.args.n c.args.m c.loop-i.i _ c.loop-i.invariant (omega (arith, count, below)) c.requires.spare x e

pub loop-i-preserved : goal.loop-i-preserved
loop-i-preserved c =
    let count = c.len-count.ensures ∙ ap length (sym (rules_cell c.args.mems.now.slots c.args.m c.index.result.now c.index.ensures)) in
    let below = c.loop-i-test.true in
    let same = rules_same _ _ c.args.n c.args.m c.loop-i.i _ c.loop-i.invariant (omega (arith, count, below)) (λ e. c.requires.differ (sym e)) in
    let here = sym (ap rules_by same) ∙ rules_cell c.loop-i.mems.slots c.args.m c.index-in-loop-i.result.now c.index-in-loop-i.ensures in
    rules_next _ _ c.args.n c.args.m c.loop-i.i _ c.loop-i.invariant (omega (arith, count, below)) _ c.at-k.result
    (ap (λ rs. slice_index_or rs c.loop-i.i 0) here ∙ c.at-k.ensures) c.push_rule.ensures

pub returns-clause-mems : goal.returns-clause-mems
returns-clause-mems c =
    let count = c.len-count.ensures ∙ ap length (sym (rules_cell c.args.mems.now.slots c.args.m c.index.result.now c.index.ensures)) in
    let past = c.loop-i-test.false in
    let end = c.loop-i.auto.i-end in
    c.loop-i.invariant ∙ ap (λ ks. alter (mems_in_cells c.args.mems.now.slots) c.args.n (option_map (mem_with_rules ks))) (take_all _ c.loop-i.i (omega (arith, count, past, end)))
