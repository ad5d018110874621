use Rattle.std.proofs.Common.{arith, ap, length}
use Rattle.lmn_app_single.proofs.ListLemmas.{read_accepts, read_refused}
use Rattle.lmn_app_single.proofs.OutcomeLemmas.{memory_ended}
use Rattle.lmn_app_single.proofs.single.perform_on.Goals as goal

pub read-requires : goal.read-requires
read-requires g c = record { room = omega (arith, ap length c.with_key-names.ensures, c.requires.short) }

pub perform_accepted-requires-clause-accepted : goal.perform_accepted-requires-clause-accepted
perform_accepted-requires-clause-accepted g c =
    (c.args.text.now, read_accepts c.args.text.now c.with_key-names.result c.read.new.names c.in-Ok.accepted.plain c.in-Ok.accepted.plans c.requires.short c.with_key-names.ensures c.in-Ok.ensures.names c.in-Ok.ensures.reads)

pub returns-in-Ok : goal.returns-in-Ok
returns-in-Ok g c = λ before after.
    let accepts = read_accepts c.args.text.now c.with_key-names.result c.read.new.names c.in-Ok.accepted.plain c.in-Ok.accepted.plans c.requires.short c.with_key-names.ensures c.in-Ok.ensures.names c.in-Ok.ensures.reads in
    c.perform_accepted.ensures c.args.text.now before after accepts

pub returns-in-Err-Refused : goal.returns-in-Err-Refused
returns-in-Err-Refused g c = λ before after.
    let named = rw c.in-Err-Refused.field-0-is at c.in-Err-Refused.ensures.names in
    let refused = rw c.in-Err-Refused.field-0-is at c.in-Err-Refused.ensures.reads in
    rw c.in-Err-Refused.field-0-is (read_refused c.args.task c.args.text.now c.with_key-names.result c.read.new.names c.in-Err-Refused.refusal (g.O.Sink.told c.args.out.now) (g.O.Sink.faults c.args.out.now) before after c.requires.short c.with_key-names.ensures named refused)

pub returns : goal.returns
returns g c = λ before after. memory_ended _ _ _ _ before after
