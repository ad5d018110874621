use Rattle.std.proofs.Common.{List, subst, sym}
use Rattle.std.specs.List.{AllByRecursion}
use Rattle.lmn_lexer.specs.declared.token.Token.{Token}
use Rattle.lmn_flatten.specs.Glossaries.{HasEntries, IsRightToken}
use Rattle.lmn_flatten.proofs.GlossaryLemmas.{grows_four, names_chain, room_for_links, read_glossary, tokens_are_right}
use Rattle.lmn_flatten.proofs.glossary.Glossary.read.Goals as goal

pub entries-requires-clause-right : goal.entries-requires-clause-right
entries-requires-clause-right c =
    let P : List Token → Type 0 = AllByRecursion (IsRightToken c.args.text.now) in
    subst P (sym c.as_slice.ensures) (tokens_are_right c.args.text.now c.args.tokens.now c.requires.right c.requires.cut)

pub entries-requires-clause-links : goal.entries-requires-clause-links
entries-requires-clause-links c = room_for_links c.args.names.now c.args.tokens.now c.as_slice.result.now c.known.ensures c.as_slice.ensures c.requires.room

pub returns-in_err-entries-clause-grows : goal.returns-in_err-entries-clause-grows
returns-in_err-entries-clause-grows c =
    grows_four c.args.names.now c.put.new.names c.put-2.new.names c.put-3.new.names c.entries.new.names c.args.tokens.now c.as_slice.result.now c.as_slice.ensures
    c.put.ensures.grows c.put-2.ensures.grows c.put-3.ensures.grows c.entries.ensures.grows

pub returns-clause-grows : goal.returns-clause-grows
returns-clause-grows c =
    grows_four c.args.names.now c.put.new.names c.put-2.new.names c.put-3.new.names c.entries.new.names c.args.tokens.now c.as_slice.result.now c.as_slice.ensures
    c.put.ensures.grows c.put-2.ensures.grows c.put-3.ensures.grows c.entries.ensures.grows

pub returns-clause-glossary : goal.returns-clause-glossary
returns-clause-glossary c =
    let P : List Token → Type 0 = λ ts. HasEntries c.args.text.now ts c.entries.new.names c.in_ok-entries.entries in
    read_glossary c.args.text.now c.args.tokens.now c.put.new.names c.put-2.new.names c.put-3.new.names c.entries.new.names _
    (subst P c.as_slice.ensures c.in_ok-entries.ensures.entries) c.in_ok-cell.ensures.number c.in_ok-empty.ensures.number c.in_ok-plus.ensures.number
    c.put-2.ensures.grows c.put-3.ensures.grows c.entries.ensures.grows

pub returns-clause-names : goal.returns-clause-names
returns-clause-names c =
    names_chain c.args.names.now c.put.new.names c.put-2.new.names c.put-3.new.names c.entries.new.names c.args.text.now c.args.tokens.now c.as_slice.result.now c.as_slice.ensures
    c.in_ok-cell.ensures.names c.in_ok-empty.ensures.names c.in_ok-plus.ensures.names c.in_ok-entries.ensures.names
