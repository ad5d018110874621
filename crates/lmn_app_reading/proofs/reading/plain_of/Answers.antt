use Rattle.std.proofs.Common.{arith}
use Rattle.lmn_lexer.proofs.FewTokens.{few_tokens}
use Rattle.lmn_app_reading.proofs.Readings.{bytes_refused, none_by_bytes}
use Rattle.lmn_flatten.proofs.GlossaryLemmas.{grows_less}
use Rattle.lmn_app_reading.proofs.reading.plain_of.Goals as goal

pub returns-in-Err-clause-names : goal.returns-in-Err-clause-names
returns-in-Err-clause-names c = none_by_bytes c.args.text.now c.args.names.now _ c.in-Err.fault c.in-Err.ensures.refused

pub returns-in-Err-clause-reads : goal.returns-in-Err-clause-reads
returns-in-Err-clause-reads c = bytes_refused c.args.text.now _ c.in-Err.fault c.in-Err.ensures.refused

pub plain_of_tokens-requires-clause-room : goal.plain_of_tokens-requires-clause-room
plain_of_tokens-requires-clause-room c = omega (arith, c.requires.room, few_tokens c.args.text.now c.in-Ok.tokens c.in-Ok.ensures.cut)

pub returns-in-Ok-clause-grows : goal.returns-in-Ok-clause-grows
returns-in-Ok-clause-grows c =
    grows_less c.args.names.now c.plain_of_tokens.new.names (omega (arith, few_tokens c.args.text.now c.in-Ok.tokens c.in-Ok.ensures.cut)) c.plain_of_tokens.ensures.grows
