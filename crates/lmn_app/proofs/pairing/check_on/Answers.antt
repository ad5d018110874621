use Rattle.std.proofs.Common.{◌∙◌, subst, sym}
use Rattle.lmn_io.specs.Texts.{IsMeasured}
use Rattle.lmn_io.specs.declared.shelf.Measured.TheVariants as measured
use Rattle.lmn_app_words.specs.Forms.{pair_of}
use Rattle.lmn_app.specs.SecondTexts.{second_bytes}
use Rattle.lmn_app.specs.Traces.{EndsChecked, IsTextUnder}
use Rattle.lmn_io.specs.Counts.{Rose}
use Rattle.lmn_app.proofs.PairLemmas.{fetched_behind, has_trace}
use Rattle.lmn_app.proofs.ReadTraces.{measured_ended, read_refuses_none}
use Rattle.lmn_app.proofs.pairing.check_on.Goals as goal

pub check_by-requires-clause-measured : goal.check_by-requires-clause-measured
check_by-requires-clause-measured g c =
    let pair = pair_of c.args.words in
    (second_bytes pair.kind, subst (λ texts. IsMeasured texts pair.second (second_bytes pair.kind) (measured.Length c.in-Ok.length)) (sym c.measure_second.ensures.same) c.in-Ok.ensures.measured)

pub returns-in-Ok-clause-ended : goal.returns-in-Ok-clause-ended
returns-in-Ok-clause-ended g c =
    let pair = pair_of c.args.words in
    let texts = g.F.Shelf.told c.args.shelf.now in
    let of = has_trace pair texts c.requires.accepted.0 c.requires.accepted.2 c.args.names.now c.args.accepted.now.plain c.args.accepted.now.plans c.requires.accepted.1 c.requires.kind in
    measured_ended pair texts (g.F.Shelf.told c.measure_second.new.shelf) c.measure_second.ensures.same of c.requires.kind c.in-Ok.length c.in-Ok.ensures.measured
    (g.F.Shelf.faults c.args.shelf.now) (g.F.Shelf.faults c.measure_second.new.shelf) (g.F.Shelf.faults c.check_by.new.shelf) c.measure_second.ensures.later _ _ _ _ c.check_by.result
    (c.check_by.ensures.ended c.requires.accepted.0 c.requires.accepted.1)

pub returns-in-Err-clause-ended : goal.returns-in-Err-clause-ended
returns-in-Err-clause-ended g c =
    let pair = pair_of c.args.words in
    c.in-Err.ensures.fault _ _ (has_trace pair (g.F.Shelf.told c.args.shelf.now) c.requires.accepted.0 c.requires.accepted.2 _ _ _ c.requires.accepted.1 c.requires.kind)

pub returns-in-Ok-clause-asked : goal.returns-in-Ok-clause-asked
returns-in-Ok-clause-asked g c =
    let pair = pair_of c.args.words in
    let texts = g.F.Shelf.told c.args.shelf.now in
    let of = has_trace pair texts c.requires.accepted.0 c.requires.accepted.2 c.args.names.now c.args.accepted.now.plain c.args.accepted.now.plans c.requires.accepted.1 c.requires.kind in
    let mid = g.F.Shelf.faults c.measure_second.new.shelf in
    let after = g.F.Shelf.faults c.check_by.new.shelf in
    let ends = subst
    (λ t. EndsChecked c.requires.accepted.0 (IsTextUnder t pair.second c.in-Ok.length) (Rose (mid pair.second) (after pair.second)) c.check_by.result (g.O.Sink.told c.args.out.now) (g.O.Sink.told c.check_by.new.out) (g.O.Sink.faults c.args.out.now) (g.O.Sink.faults c.check_by.new.out))
    c.measure_second.ensures.same
    (c.check_by.ensures.ended c.requires.accepted.0 c.requires.accepted.1) in
    fetched_behind pair texts of _ _ (c.check_by.ensures.asked ∙ c.measure_second.ensures.asked) c.check_by.result
    (read_refuses_none pair texts of c.requires.kind c.in-Ok.length c.in-Ok.ensures.measured.0 mid after _ _ _ _ c.check_by.result ends)

pub returns-in-Err-clause-asked : goal.returns-in-Err-clause-asked
returns-in-Err-clause-asked g c =
    let pair = pair_of c.args.words in
    c.in-Err.ensures.fetched (has_trace pair (g.F.Shelf.told c.args.shelf.now) c.requires.accepted.0 c.requires.accepted.2 _ _ _ c.requires.accepted.1 c.requires.kind)
