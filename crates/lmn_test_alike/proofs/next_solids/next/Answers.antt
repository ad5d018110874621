use Rattle.std.specs.Prelude.{IfSome}
use Rattle.std.proofs.lemmas.Result.{IfOk-at_ok}
use Rattle.lmn_congruence.specs.Translation.{region_of}
use Rattle.lmn_solid_next.specs.Searching.{IsSolidBy}
use Rattle.lmn_receipt_chain.proofs.ChainLemmas.{some_membrane}
use Rattle.lmn_test_alike.proofs.next_solids.next.Goals as goal

pub next_of-requires : goal.next_of-requires
next_of-requires g c =
    let names = c.args.names.now in
    let plain = c.args.accepted.now.plain in
    (names, c.args.accepted.now.plans, c.requires.searched, c.requires.by, some_membrane (region_of names plain.rules c.args.solid.now))

pub returns : goal.returns
returns g c =
    let names = c.args.names.now in
    let plain = c.args.accepted.now.plain in
    IfOk-at_ok (λ o. IfSome o (IsSolidBy names plain)) c.expect.ensures (c.next_of.ensures.by names c.args.accepted.now.plans c.requires.searched c.requires.by)
