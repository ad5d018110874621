use Rattle.std.proofs.Common.{subst}
use Rattle.std.specs.List.{AllByRecursion}
use Rattle.lmn_verify_listing.specs.Listings.{AreListed, IsRefusedListing}
use Rattle.lmn_verify_code.specs.Verified.{IsVerified}
use Rattle.lmn_app.specs.Executions.{IsWrongListing, ReadsCodes}
use Rattle.lmn_app.proofs.ExecLemmas.{codes_can_turn, codes_ended, wrong_ended}
use Rattle.lmn_app.proofs.executing.exec_listing.Goals as goal

pub exec_codes-requires-clause-run : goal.exec_codes-requires-clause-run
exec_codes-requires-clause-run g c =
    let read = c.args.accepted.now in
    let a = c.requires.accepted.1 in
    let can = c.accepted_texts_can_be_loaded.ensures.loaded c.requires.accepted.0 c.args.names.now read.plain read.plans a.named a.accepted in
    let many = c.len-rules.ensures in
    codes_can_turn c.loading_settles.ensures.rules c.verified_is_runnable.ensures.all c.verified_is_quiet.ensures.all read.plain (g.S.LinkStore.heap c.args.store) can.made c.requires.loaded c.requires.awake c.read.new.names c.in-Ok.codes c.args.listing.now
    (subst (λ n. AreListed n c.read.new.names c.in-Ok.codes c.args.listing.now) many c.in-Ok.ensures.listed)
    (subst (λ n. AllByRecursion (λ code. IsVerified code n) c.in-Ok.codes) many c.in-Ok.ensures.verified)

pub returns-in-Ok : goal.returns-in-Ok
returns-in-Ok g c = λ program a.
    let read = c.args.accepted.now in
    let many = c.len-rules.ensures in
    let of : ReadsCodes program c.args.listing.now = record {
      names = c.args.names.now;
      plain = read.plain;
      plans = read.plans;
      accepted = a;
      later = c.read.new.names;
      adds = c.in-Ok.ensures.names;
      once = c.stand_once.ensures;
      codes = c.in-Ok.codes;
      order = c.in-Ok.ensures.order;
      are = subst (λ n. AreListed n c.read.new.names c.in-Ok.codes c.args.listing.now) many c.in-Ok.ensures.listed;
      verified = subst (λ n. AllByRecursion (λ code. IsVerified code n) c.in-Ok.codes) many c.in-Ok.ensures.verified;
    } in
    codes_ended program c.args.listing.now _ _ _ _ c.heaps_are_executed.ensures c.args.alloc of (g.S.LinkStore.heap c.args.store) c.requires.loaded c.requires.awake c.requires.fits c.exec_codes.result c.exec_codes.ensures

pub returns-in-Err-Refused : goal.returns-in-Err-Refused
returns-in-Err-Refused g c = λ program a.
    let read = c.args.accepted.now in
    let many = c.len-rules.ensures in
    let r = c.in-Err-Refused.refusal in
    let wrong = rw c.in-Err-Refused.field-0-is at c.in-Err-Refused.ensures.refused in
    let is : IsWrongListing program c.args.listing.now r = record {
      names = c.args.names.now;
      plain = read.plain;
      plans = read.plans;
      accepted = a;
      later = c.read.new.names;
      adds = c.in-Err-Refused.ensures.names;
      once = c.stand_once-in-Err-Refused.ensures;
      wrong = subst (λ n. IsRefusedListing n c.args.names.now c.read.new.names c.args.listing.now r.code r.pos.line) many wrong.0;
      first = wrong.1;
    } in
    rw c.in-Err-Refused.field-0-is (wrong_ended program c.args.listing.now r (g.O.Sink.told c.args.out.now) (g.O.Sink.faults c.args.out.now) is)
