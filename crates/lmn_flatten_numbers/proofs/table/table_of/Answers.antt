use Rattle.std.proofs.Common.{Some, sym, ap, ◌∙◌}
use Rattle.lmn_flatten_numbers.proofs.Tables.{entries_none, entries_next, entries_all}
use Rattle.lmn_flatten_numbers.proofs.table.table_of.Goals as goal

pub loop-i-init : goal.loop-i-init
loop-i-init c = entries_none _ _ _ c.new-table.ensures

pub joined-requires : goal.joined-requires
joined-requires c = c.requires.occur c.loop-i.i c.tally.result c.tally-in-loop-i.result (c.at.ensures ∙ ap Some (sym c.tally.ensures)) (c.at-in-loop-i.ensures ∙ ap Some (sym c.tally-in-loop-i.ensures))

pub loop-i-preserved : goal.loop-i-preserved
loop-i-preserved c =
    entries_next c.args.head.now c.args.body.now c.loop-i.i c.loop-i.table c.push.new.self c.tally.result c.tally-in-loop-i.result c.in_ok-links.links c.loop-i.invariant (c.at.ensures ∙ ap Some (sym c.tally.ensures))
    (c.at-in-loop-i.ensures ∙ ap Some (sym c.tally-in-loop-i.ensures)) c.in_ok-links.ensures c.in_ok-push.ensures.ok

pub returns : goal.returns
returns c = entries_all _ _ _ _ _ c.loop-i.invariant c.loop-i-test.false c.loop-i.auto.i-end c.len-i-end.ensures
