use Rattle.lmn_flatten.proofs.GlossaryLemmas.{quoted_meaning, quoted_put, quoted_short}
use Rattle.lmn_lexer.specs.Values.{bytes_of}
use Rattle.lmn_flatten.proofs.glossary.spelled.Goals as goal

pub named_by-requires-clause-short : goal.named_by-requires-clause-short
named_by-requires-clause-short c =
    quoted_short c.args.token.kind (bytes_of c.args.text.now c.args.token) c.bytes_of-bytes.result.now c.in_ok-name-in-Quoted.name c.as_slice.result.now
    c.in-Quoted.is c.requires.right.right c.bytes_of-bytes.ensures c.in_ok-name-in-Quoted.ensures c.as_slice.ensures

pub returns-in_ok-name-in-Quoted-clause-meaning : goal.returns-in_ok-name-in-Quoted-clause-meaning
returns-in_ok-name-in-Quoted-clause-meaning c =
    quoted_meaning c.named_by.result c.named_by.new.names c.args.links.now c.args.token.kind (bytes_of c.args.text.now c.args.token) c.bytes_of-bytes.result.now
    c.in_ok-name-in-Quoted.name c.as_slice.result.now c.in-Quoted.is c.bytes_of-bytes.ensures c.in_ok-name-in-Quoted.ensures c.as_slice.ensures
    c.named_by.ensures.meaning

pub returns-in_ok-name-in-Quoted-clause-names : goal.returns-in_ok-name-in-Quoted-clause-names
returns-in_ok-name-in-Quoted-clause-names c =
    quoted_put c.named_by.result c.args.names.now c.named_by.new.names c.args.token.kind (bytes_of c.args.text.now c.args.token) c.bytes_of-bytes.result.now
    c.in_ok-name-in-Quoted.name c.as_slice.result.now c.in-Quoted.is c.bytes_of-bytes.ensures c.in_ok-name-in-Quoted.ensures c.as_slice.ensures
    c.named_by.ensures.names
