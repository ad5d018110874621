use Rattle.std.proofs.Common.{arith, ap, length, refl, ◌∙◌}
use Rattle.lmn_flatten.proofs.GlossaryLemmas.{grown_length, grows_less, grows_more, has_entries, names_done, nothing_so_far, so_far_next}
use Rattle.lmn_flatten.proofs.glossary.entries.Goals as goal

pub loop-token-init : goal.loop-token-init
loop-token-init c = nothing_so_far c.args.text.now c.args.names.now c.another-links.result c.args.tokens.now c.new-entries.result c.new-entries.ensures

pub spelled-requires-clause-room : goal.spelled-requires-clause-room
spelled-requires-clause-room c =
    omega (arith, c.requires.room, c.loop-token-test.true, grown_length c.args.names.now c.loop-token.names c.loop-token.invariant.names_grown)

pub spelled-requires-clause-links : goal.spelled-requires-clause-links
spelled-requires-clause-links c =
    omega (arith, c.requires.links, c.loop-token-test.true, ap length c.another-links.ensures, grown_length c.another-links.result c.loop-token.links c.loop-token.invariant.links_grown)

pub returns-in_err-meaning-clause-grows : goal.returns-in_err-meaning-clause-grows
returns-in_err-meaning-clause-grows c = grows_less c.args.names.now c.spelled.new.names (omega (arith, c.loop-token-test.true))
    (grows_more c.args.names.now c.loop-token.names c.spelled.new.names c.loop-token.invariant.names_grown c.spelled.ensures.grows)

pub returns-in_err-push-clause-grows : goal.returns-in_err-push-clause-grows
returns-in_err-push-clause-grows c = grows_less c.args.names.now c.spelled.new.names (omega (arith, c.loop-token-test.true))
    (grows_more c.args.names.now c.loop-token.names c.spelled.new.names c.loop-token.invariant.names_grown c.spelled.ensures.grows)

pub loop-token-preserved : goal.loop-token-preserved
loop-token-preserved c =
    so_far_next c.args.text.now c.args.names.now c.loop-token.names c.spelled.new.names c.another-links.result c.loop-token.links c.spelled.new.links
    c.loop-token.token-index c.args.tokens.now _ c.token-token.result c.loop-token.entries c.push.new.self c.in_ok-meaning.meaning _
    c.loop-token-test.true (c.token-token.ensures ∙ c.token-item.is) c.loop-token.invariant c.spelled.ensures.grows c.spelled.ensures.links c.in_ok-meaning.ensures.names c.in_ok-meaning.ensures.meaning refl c.in_ok-push.ensures.ok

pub returns-clause-grows : goal.returns-clause-grows
returns-clause-grows c = grows_less c.args.names.now c.loop-token.names c.loop-token.auto.token-index-end c.loop-token.invariant.names_grown

pub returns-clause-entries : goal.returns-clause-entries
returns-clause-entries c =
    has_entries c.args.text.now c.args.tokens.now c.args.names.now c.loop-token.names c.another-links.result c.loop-token.links c.loop-token.token-index c.loop-token.entries
    c.loop-token-test.false c.known.ensures c.known-2.ensures c.loop-token.invariant

pub returns-clause-names : goal.returns-clause-names
returns-clause-names c =
    names_done c.args.text.now c.args.tokens.now c.args.names.now c.loop-token.names c.another-links.result c.loop-token.links c.loop-token.token-index c.loop-token.entries
    c.loop-token-test.false c.loop-token.invariant
