use Rattle.std.proofs.Common.{◌≤◌, ap, arith, length, subst}
use Rattle.std.proofs.lemmas.Result.{MatchResult-at_ok}
use Rattle.lmn_base.specs.Refusals.{IfRefused}
use Rattle.lmn_app_reading.specs.Texts.{IsAcceptedAs, IsRefusedAs, LeavesNames}
use Rattle.lmn_test_runs.proofs.reading.read_of.Goals as goal

pub read-requires : goal.read-requires
read-requires g c = record { room = let short : length c.args.text.now ≤ 4194304 = search in omega (arith, ap length c.requires, short) }

pub returns : goal.returns
returns g c =
    let text = c.args.text.now in
    let before = c.args.names.now in
    let after = c.read.new.names in
    let named = MatchResult-at_ok (λ a. LeavesNames text before after) (λ fault. IfRefused fault (λ refusal. LeavesNames text before after)) c.expect.result c.expect.ensures c.read.ensures.names in
    let accepted = MatchResult-at_ok (λ a. IsAcceptedAs text after a.plain a.plans) (λ fault. IfRefused fault (IsRefusedAs text after)) c.expect.result c.expect.ensures c.read.ensures.reads in
    c.accepted_texts_can_be_loaded.ensures.loaded text after c.expect.result.plain c.expect.result.plans
    (subst (λ names. LeavesNames text names after) c.requires named) accepted
