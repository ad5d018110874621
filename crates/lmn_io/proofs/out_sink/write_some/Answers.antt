use Rattle.std.proofs.Common.{take}
use Rattle.lmn_io.proofs.HeldLemmas.{appends_nothing, holds, keeps_appends, keeps_both}
use Rattle.lmn_io.proofs.out_sink.write_some.Goals as goal

pub loop-init : goal.loop-init
loop-init g c = holds (g.W.Write.contents c.args.writer.now)

pub returns-in-Ok-clause-written : goal.returns-in-Ok-clause-written
returns-in-Ok-clause-written g c =
    keeps_appends (g.W.Write.contents c.args.writer.now) (g.W.Write.contents c.loop.writer) (g.W.Write.contents c.write.new.self) (take c.in-Ok.count c.args.rest.now)
    c.loop.invariant c.in-Ok.ensures.bytes

pub returns-in-Err-2-clause-written : goal.returns-in-Err-2-clause-written
returns-in-Err-2-clause-written g c =
    appends_nothing (g.W.Write.contents c.args.writer.now) (g.W.Write.contents c.write.new.self)
    (keeps_both (g.W.Write.contents c.args.writer.now) (g.W.Write.contents c.loop.writer) (g.W.Write.contents c.write.new.self) c.loop.invariant c.in-Err-2.ensures.bytes)

pub loop-preserved : goal.loop-preserved
loop-preserved g c =
    keeps_both (g.W.Write.contents c.args.writer.now) (g.W.Write.contents c.loop.writer) (g.W.Write.contents c.write.new.self) c.loop.invariant c.in-Err.ensures.bytes

pub returns-clause-written : goal.returns-clause-written
returns-clause-written g c = appends_nothing (g.W.Write.contents c.args.writer.now) (g.W.Write.contents c.loop.writer) c.loop.invariant
