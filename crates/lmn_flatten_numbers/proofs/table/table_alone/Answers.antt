use Rattle.std.proofs.Common.{Some, sym, ap, ◌∙◌}
use Rattle.lmn_flatten_numbers.proofs.Tables.{alone_none, alone_next, alone_all}
use Rattle.lmn_flatten_numbers.proofs.table.table_alone.Goals as goal

pub loop-i-init : goal.loop-i-init
loop-i-init c = alone_none c.args.tallies.now c.new-table.result c.new-table.ensures

pub alone-requires : goal.alone-requires
alone-requires c = c.requires c.loop-i.i c.tally.result (c.at.ensures ∙ ap Some (sym c.tally.ensures))

pub loop-i-preserved : goal.loop-i-preserved
loop-i-preserved c =
    alone_next c.args.tallies.now c.loop-i.i c.loop-i.table c.push.new.self c.tally.result c.alone.result c.loop-i.invariant (c.at.ensures ∙ ap Some (sym c.tally.ensures)) c.alone.ensures c.in_ok-push.ensures.ok

pub returns : goal.returns
returns c = alone_all c.args.tallies.now c.loop-i.table c.loop-i.i c.len-i-end.result c.loop-i.invariant c.loop-i-test.false c.loop-i.auto.i-end c.len-i-end.ensures
