use Rattle.std.proofs.Common.{◌≡◌, ◌-◌, ◌≤◌, ◌<◌, length, [], ◌∷◌}
use Rattle.lmn_parser_grammar.specs.Grammar.{Tok, more_of, cond}
use Rattle.lmn_parser_grammar.specs.Factored.{guard_bar}
use Rattle.lmn_parser_grammar.specs.Reading.{Owed, stop_at}
use Rattle.lmn_lexer.specs.declared.token.Kind.TheVariants as kind
use Rattle.lmn_parser.specs.Parsing.{kinds_of}
use Rattle.lmn_parser.specs.Outcomes.{reach}
use Rattle.lmn_parser.specs.Syntax.{conditions_of}
use Rattle.lmn_parser.specs.Trees.{IsWrittenGuard}
use Rattle.lmn_parser.proofs.guard.guard.Given as goal

abbrev pub decreases-more : goal.decreases-more
decreases-more l = length l.tokens - l.end

abbrev pub invariant-more : goal.invariant-more
invariant-more l = record {
  reads : (κ : Owed) → stop_at (kinds_of l.tokens) l.at ((guard_bar ∷ κ) ∷ []) ≡ stop_at (kinds_of l.tokens) l.end ((more_of cond ∷ Tok kind.Bar ∷ κ) ∷ []);
  forth : (l.at < l.end) × (l.end ≤ reach (kinds_of l.tokens));
  tree : IsWrittenGuard l.tokens (conditions_of l.conditions) l.at l.end;
}
