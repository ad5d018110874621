use Rattle.std.proofs.Common.{arith, ◌≡◌, ◌<◌, [], ◌∷◌, length, ◌∙◌}
use Rattle.lmn_parser_grammar.specs.Grammar.{Tok}
use Rattle.lmn_lexer.specs.declared.token.Kind.TheVariants.{End}
use Rattle.lmn_parser_grammar.proofs.Clauses.{ends_text, program_parts}
use Rattle.lmn_parser_grammar.proofs.Stops.{stop_nothing}
use Rattle.lmn_parser.specs.Parsing.{kinds_of}
use Rattle.lmn_parser.proofs.Places.{before_last}
use Rattle.lmn_parser.proofs.Programs.{kinds_length, whole_refused, program_read}
use Rattle.lmn_parser.proofs.parsing.program.Goals as goal

pub returns-in_err-clauses-clause-reads : goal.returns-in_err-clauses-clause-reads
returns-in_err-clauses-clause-reads c = let ks = kinds_of c.args.tokens.now in
    whole_refused ks 0 _ _ _ (program_parts ks 0 []) (c.in_err-clauses.ensures.reads (Tok End ∷ []) (ends_text [])) c.from_residual.ensures.1

pub returns-in_err-after-clause-reads : goal.returns-in_err-after-clause-reads
returns-in_err-after-clause-reads c = let ks = kinds_of c.args.tokens.now in
    whole_refused ks _ _ _ _ (program_parts ks 0 [] ∙ c.in_ok-clauses.ensures.reads (Tok End ∷ []) (ends_text [])) (c.in_err-after.ensures.reads []) c.from_residual-in_err-after.ensures.1

pub returns-then-after-tokens-clause-reads : goal.returns-then-after-tokens-clause-reads
returns-then-after-tokens-clause-reads c =
    let ks = kinds_of c.args.tokens.now in
    let l = kinds_length c.args.tokens.now in
    let lt : c.in_ok-after.after < length ks = omega (arith, l, c.if-after-tokens.true) in
    (program_parts ks 0 [] ∙ c.in_ok-clauses.ensures.reads (Tok End ∷ []) (ends_text []) ∙ c.in_ok-after.ensures.reads [] ∙ stop_nothing ks c.in_ok-after.after, before_last ks c.in_ok-after.after lt)

pub returns-clause-reads : goal.returns-clause-reads
returns-clause-reads c =
    let ks = kinds_of c.args.tokens.now in
    let l = kinds_length c.args.tokens.now in
    let all : c.in_ok-after.after ≡ length ks = omega (arith, l, c.if-after-tokens.false, c.in_ok-after.ensures.forth.1) in
    program_parts ks 0 [] ∙ c.in_ok-clauses.ensures.reads (Tok End ∷ []) (ends_text []) ∙ c.in_ok-after.ensures.reads [] ∙ stop_nothing ks c.in_ok-after.after ∙ all

pub returns-clause-tree : goal.returns-clause-tree
returns-clause-tree c = program_read _ _ _ _ c.in_ok-clauses.ensures.tree c.in_ok-after.ensures.found c.if-after-tokens.false c.in_ok-after.ensures.forth.1
