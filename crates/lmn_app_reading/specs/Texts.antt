-- What is read of a text, and why a text is refused.
use Rattle.std.specs.Prelude.{ℕ, ◌≡◌, List, [], ◌∷◌, ◌++◌, Result, MatchResult, flat_map}
use Rattle.std.specs.List.{AllByRecursion, AllZip}
use Rattle.lmn_base.specs.declared.refusal.Refusal.{Refusal}
use Rattle.lmn_base.specs.declared.refusal.TextFault.{TextFault}
use Rattle.lmn_base.specs.declared.rule.Plain.{Plain}
use Rattle.lmn_base.specs.declared.rule.RuleTree.{RuleTree}
use Rattle.lmn_base.specs.Firsts.{Row, NoneApplies, RefusedBy}
use Rattle.lmn_base_walks.specs.LinkCodes.{LinkFault, IsFirstFault}
use Rattle.lmn_base.specs.Refusals.{IfRefused}
use Rattle.lmn_base_walks.specs.RuleCodes.{rule_rows}
use Rattle.lmn_congruence.specs.Rules.{Name}
use Rattle.lmn_flatten.specs.NameLists.{names_read}
use Rattle.lmn_flatten.specs.Outside.{outside_rules}
use Rattle.lmn_parser_grammar.specs.Refusing.{IsWithin}
use Rattle.lmn_guards.specs.Accepted.{IsAcceptedRule}
use Rattle.lmn_guards.specs.GuardCodes.{guard_rows}
use Rattle.lmn_guards.specs.Plans.{IsPlan}
use Rattle.lmn_guards.specs.declared.plan.GuardPlan.{GuardPlan}
use Rattle.lmn_lexer.specs.Cutting.{Cuts}
use Rattle.lmn_lexer.specs.Faults.{IsLexicalFault, NothingWrong}
use Rattle.lmn_lexer.specs.Laying.{words_of}
use Rattle.lmn_lexer.specs.declared.token.Token.{Token}
use Rattle.lmn_parser.specs.Faults.{IsRefusalOf}
use Rattle.lmn_parser.specs.Parsing.{kinds_of}
use Rattle.lmn_parser.specs.Readings.{Reads}
use Rattle.lmn_parser.specs.Syntax.{Clauses}
use Rattle.lmn_flatten_plain.specs.Laws.{IsPlain}

-- Nothing is wrong in the text, it reads as a tree within the limits, and the plain is that of the tree, with the numbers of
-- a list of names.
pub record ReadsAs (text : List ℕ) (names : List Name) (plain : Plain) : Type 0 where
  pub tokens : List Token
  pub tree : Clauses
  pub right : NothingWrong text
  pub reads : Reads text tokens tree
  pub within : IsWithin (kinds_of tokens)
  pub is_plain : IsPlain text tokens tree names plain

-- The list of names once the text is read: behind the names before, those that abbreviations bring in and those of the text. Where
-- the text reads as no tree within the limits nothing is said.
abbrev pub LeavesNames : List ℕ → List Name → List Name → Type 0
LeavesNames text before after = (tokens : List Token) (tree : Clauses) → NothingWrong text → Reads text tokens tree → IsWithin (kinds_of tokens)
    → after ≡ names_read before (words_of text tokens)

-- the same with each answer but want of memory
abbrev pub LeavesNamesWith : {A : Type 0} → Result A TextFault → List ℕ → List Name → List Name → Type 0
LeavesNamesWith result text before after = MatchResult result (λ read. LeavesNames text before after) (λ fault. IfRefused fault (λ refusal. LeavesNames text before after))

-- what is asked of a rule, in order: first of its size, its head and its contexts, and then of its guard
abbrev pub rows_of_rule : List RuleTree → RuleTree → List Row
rows_of_rule table r = rule_rows table r ++ guard_rows r

-- what is asked of the rules, by rising place
abbrev pub rows_of_rules : Plain → List Row
rows_of_rules plain = flat_map (rows_of_rule plain.rules) plain.rules

-- The text is accepted. It reads as this plain, in which no context stands outside every rule and no link has a fault. Each
-- rule is accepted, and has its plan.
pub record IsAcceptedAs (text : List ℕ) (names : List Name) (plain : Plain) (plans : List GuardPlan) : Type 0 where
  pub reads : ReadsAs text names plain
  pub outside : NoneApplies (outside_rules plain.top ∷ [])
  pub links : (a : Refusal) → ¬ (LinkFault plain a)
  pub rules : AllByRecursion (IsAcceptedRule plain.rules) plain.rules
  pub planned : AllZip IsPlan plain.rules plans

-- The text is refused, by the first of these that applies:
--   by_bytes     its bytes are cut into no right tokens
--   by_tokens    its tokens are no program within the limits
--   by_contexts  a context stands outside every rule
--   by_links     a link occurs once or too often
--   by_rules     something that is asked of a rule applies
pub data IsRefusedAs (text : List ℕ) (names : List Name) (refusal : Refusal) : Type 0 where
  by_bytes : IsLexicalFault text refusal → IsRefusedAs text names refusal
  by_tokens : (tokens : List Token) → NothingWrong text → Cuts text tokens → IsRefusalOf tokens refusal → IsRefusedAs text names refusal
  by_contexts : (plain : Plain) → ReadsAs text names plain → RefusedBy (outside_rules plain.top ∷ []) refusal → IsRefusedAs text names refusal
  by_links : (plain : Plain) → ReadsAs text names plain → NoneApplies (outside_rules plain.top ∷ []) → IsFirstFault plain refusal
      → IsRefusedAs text names refusal
  by_rules : (plain : Plain) → ReadsAs text names plain → NoneApplies (outside_rules plain.top ∷ []) → ((a : Refusal) → ¬ (LinkFault plain a))
      → RefusedBy (rows_of_rules plain) refusal → IsRefusedAs text names refusal

-- The answer is a plain as which the text reads, and in which no context stands outside every rule, or the text is refused so.
abbrev pub IsPlainOrRefusal : Result Plain TextFault → List ℕ → List Name → Type 0
IsPlainOrRefusal result text names = MatchResult result (λ plain. ReadsAs text names plain × NoneApplies (outside_rules plain.top ∷ [])) (λ fault. IfRefused fault (IsRefusedAs text names))
