use Rattle.lmn_app_words.specs.Forms.{pair_of}
use Rattle.lmn_app_single.specs.Seen.{shelf_seen, sink_seen}
use Rattle.lmn_app.specs.Calls.{single}
use Rattle.lmn_app.proofs.SingleLemmas.{pair_ends}
use Rattle.lmn_app.proofs.top.act.Goals as goal

pub returns-in-Ended : goal.returns-in-Ended
returns-in-Ended g c = single c.in-Ended.ensures

pub returns-in-Pair : goal.returns-in-Pair
returns-in-Pair g c =
    let acted = c.in-Pair.ensures in
    let seen = shelf_seen g.F.Shelf.told g.F.Shelf.asked g.F.Shelf.faults in
    let took = sink_seen g.O.Sink.told g.O.Sink.faults in
    pair_ends c.args.words.now (pair_of c.in-Pair.pair) acted.0 (seen c.args.shelf.now) (seen c.act_single.new.shelf) (seen c.perform_pair.new.shelf) acted.1
    c.perform_pair.result (took c.args.out.now) (took c.act_single.new.out) (took c.perform_pair.new.out) acted.2 c.perform_pair.ensures.asked c.perform_pair.ensures.ended
