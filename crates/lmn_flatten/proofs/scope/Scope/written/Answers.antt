use Rattle.lmn_flatten_plain.specs.Meanings.{word_at}
use Rattle.lmn_lexer.specs.Laying.{Word}
use Rattle.lmn_flatten.proofs.scope.Scope.written.Goals as goal

pub returns : goal.returns
returns c = λ r keys g h.
    let word : Word = word_at r.words r.places c.args.token in
    let found = c.in_ok-link.ensures r keys word.bytes g.links h (c.in_ok-name.ensures r g) in
    (found.0, (found.1, c.in_ok-pos.ensures r g))
