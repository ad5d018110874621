use Rattle.std.proofs.Common.{◌≡◌, ◌+◌, ◌-◌, ◌≤◌, ◌<◌, length, [], ◌∷◌}
use Rattle.lmn_parser_grammar.specs.Grammar.{Opt, Tok, more_of}
use Rattle.lmn_parser_grammar.specs.Factored.{contexts}
use Rattle.lmn_parser_grammar.specs.Reading.{Owed, stop_at, next}
use Rattle.lmn_lexer.specs.declared.token.Kind.TheVariants as kind
use Rattle.lmn_parser.specs.Parsing.{kinds_of}
use Rattle.lmn_parser.specs.Outcomes.{reach}
use Rattle.lmn_parser.specs.Trees.{IsContexts}
use Rattle.lmn_parser.proofs.guard.contexts.Given as goal

abbrev pub decreases-more : goal.decreases-more
decreases-more l = length l.tokens - l.end

abbrev pub invariant-more : goal.invariant-more
invariant-more l = record {
  reads : (κ : Owed) → next κ kind.LParen ≡ [] → stop_at (kinds_of l.tokens) l.at ((Opt contexts ∷ κ) ∷ []) ≡ stop_at (kinds_of l.tokens) l.end ((more_of (Tok kind.Context) ∷ Tok kind.RParen ∷ κ) ∷ []);
  forth : (l.at < l.end) × (l.end ≤ reach (kinds_of l.tokens));
  tree : IsContexts l.tokens l.found (l.at + 1) l.end;
}
