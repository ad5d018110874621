use Rattle.std.proofs.Common.{subst, List}
use Rattle.std.proofs.lemmas.Result.{IfOk-weaker}
use Rattle.lmn_parser.specs.declared.tree.Clause.{Clause}
use Rattle.lmn_parser.specs.Syntax.{clauses_of}
use Rattle.lmn_flatten_plain.specs.Plains.{IsPlainOf}
use Rattle.lmn_flatten.proofs.RuleLemmas.{top_below, top_parts, top_plain}
use Rattle.lmn_flatten.proofs.walk.expanded.Goals as goal

pub plain-requires : goal.plain-requires
plain-requires c = let r = c.requires.known.0 in
    top_below r (clauses_of c.as_slice.result.now) c.into_level-top.result c.add_clauses.new.table c.add_clauses.new.scope
    (top_parts r (clauses_of c.as_slice.result.now) c.args.glossary c.new-part.result c.new-rules.result c.new-scope.result c.add_clauses.new.part c.add_clauses.new.table c.add_clauses.new.scope
    c.into_level-top.result c.requires.known.1 c.new-part.ensures c.new-rules.ensures (c.new-scope.ensures r) (λ w ks k. c.in_ok-add_clauses.ensures r w ks k) (λ ks p h. c.into_level-top.ensures r.names ks p h))

pub returns : goal.returns
returns c = IfOk-weaker c.plain.result _ _
    (λ plain numbers r is.
    let P : List Clause → Type 0 = λ z. IsPlainOf r.words r.places r.names (clauses_of z) plain in
    subst P c.as_slice.ensures
    (top_plain r (clauses_of c.as_slice.result.now) c.into_level-top.result plain c.add_clauses.new.table c.add_clauses.new.scope
    (top_parts r (clauses_of c.as_slice.result.now) c.args.glossary c.new-part.result c.new-rules.result c.new-scope.result c.add_clauses.new.part c.add_clauses.new.table c.add_clauses.new.scope
    c.into_level-top.result is c.new-part.ensures c.new-rules.ensures (c.new-scope.ensures r) (λ w ks k. c.in_ok-add_clauses.ensures r w ks k) (λ ks p h. c.into_level-top.ensures r.names ks p h))
    numbers.0 numbers.1))
    c.plain.ensures
