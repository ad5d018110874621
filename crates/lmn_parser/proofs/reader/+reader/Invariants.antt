use Rattle.std.proofs.Common.{◌≡◌, ◌+◌, ◌-◌, ◌*◌, ◌≤◌, ◌<◌, length, [], ◌∷◌}
use Rattle.lmn_parser_grammar.specs.Grammar.{Ref, TermPart, ClausesPart, some_of, more_of, item, list}
use Rattle.lmn_parser_grammar.specs.Factored.{more_clauses}
use Rattle.lmn_parser_grammar.specs.Reading.{Owed, stop_at, NoMore, EndsList, OnlyEnds}
use Rattle.lmn_parser.specs.Parsing.{kinds_of}
use Rattle.lmn_parser.specs.Outcomes.{reach}
use Rattle.lmn_parser.specs.Syntax.{terms_of, items_of_nodes}
use Rattle.lmn_parser.specs.Trees.{IsTerms, IsList}
use Rattle.lmn_parser.proofs.BuiltClauses.{Continues}
use Rattle.lmn_parser.proofs.reader.+reader.Given as goal

abbrev pub decreases-term : goal.decreases-term
decreases-term l = 10 * (length l.tokens.now - l.at) + 1

abbrev pub decreases-arguments : goal.decreases-arguments
decreases-arguments l = 10 * (length l.tokens.now - l.at)

abbrev pub decreases-equation : goal.decreases-equation
decreases-equation l = 10 * (length l.tokens.now - l.sign)

abbrev pub decreases-rule : goal.decreases-rule
decreases-rule l = 10 * (length l.tokens.now - l.at) + 1

abbrev pub decreases-headed_rule : goal.decreases-headed_rule
decreases-headed_rule l = 10 * (length l.tokens.now - l.at)

abbrev pub decreases-context : goal.decreases-context
decreases-context l = 10 * (length l.tokens.now - l.at)

abbrev pub decreases-membrane : goal.decreases-membrane
decreases-membrane l = 10 * (length l.tokens.now - l.at)

abbrev pub decreases-terms : goal.decreases-terms
decreases-terms l = 10 * (length l.tokens.now - l.at) + 2

abbrev pub decreases-term_list : goal.decreases-term_list
decreases-term_list l = 10 * (length l.tokens.now - l.at)

abbrev pub decreases-relation : goal.decreases-relation
decreases-relation l = 10 * (length l.tokens.now - l.at) + 2

abbrev pub decreases-item : goal.decreases-item
decreases-item l = 10 * (length l.tokens.now - l.at) + 3

abbrev pub decreases-list : goal.decreases-list
decreases-list l = 10 * (length l.tokens.now - l.at) + 4

abbrev pub decreases-items : goal.decreases-items
decreases-items l = 10 * (length l.tokens.now - l.at) + 5

abbrev pub decreases-clause : goal.decreases-clause
decreases-clause l = 10 * (length l.tokens.now - l.at) + 6

abbrev pub decreases-guarded_body : goal.decreases-guarded_body
decreases-guarded_body l = 10 * (length l.tokens.now - l.at) + 6

abbrev pub decreases-clauses : goal.decreases-clauses
decreases-clauses l = 10 * (length l.tokens.now - l.at) + 7

abbrev pub decreases-terms-more : goal.decreases-terms-more
decreases-terms-more l = length l.tokens - l.end

abbrev pub invariant-terms-more : goal.invariant-terms-more
invariant-terms-more l = record {
  reads : (κ : Owed) → NoMore κ → stop_at (kinds_of l.tokens) l.at ((some_of (Ref TermPart) ∷ κ) ∷ []) ≡ stop_at (kinds_of l.tokens) l.end ((more_of (Ref TermPart) ∷ κ) ∷ []);
  forth : (l.at < l.end) × (l.end ≤ reach (kinds_of l.tokens));
  tree : IsTerms l.tokens (terms_of l.terms) l.at l.end;
}

abbrev pub decreases-list-more : goal.decreases-list-more
decreases-list-more l = length l.tokens - l.end

abbrev pub invariant-list-more : goal.invariant-list-more
invariant-list-more l = record {
  reads : (κ : Owed) → EndsList κ → stop_at (kinds_of l.tokens) l.at ((list ∷ κ) ∷ []) ≡ stop_at (kinds_of l.tokens) l.end ((more_of item ∷ κ) ∷ []);
  forth : (l.at < l.end) × (l.end ≤ reach (kinds_of l.tokens));
  tree : IsList l.tokens (items_of_nodes l.items) l.at l.end;
}

abbrev pub decreases-clauses-more : goal.decreases-clauses-more
decreases-clauses-more l = length l.tokens - l.end

abbrev pub invariant-clauses-more : goal.invariant-clauses-more
invariant-clauses-more l = record {
  reads : (κ : Owed) → OnlyEnds κ → stop_at (kinds_of l.tokens) l.at ((Ref ClausesPart ∷ κ) ∷ []) ≡ stop_at (kinds_of l.tokens) l.end ((more_clauses ∷ κ) ∷ []);
  forth : (l.at < l.end) × (l.end ≤ reach (kinds_of l.tokens));
  tree : Continues l.tokens l.clauses l.at l.end;
}
