-- Each refusal has a code of the table.
use Rattle.std.proofs.Common.{ℕ, inl, inr, Bool, List, [], ◌∷◌, ◌++◌, refl, sym, subst}
use Rattle.std.specs.List.{All, flat_map}
use Rattle.std.proofs.lemmas.List.Elements.{All-append, All-from_recursion, All-head, All-nil, All-tail}
use Rattle.lmn_base.specs.declared.guard.Cond.{Cond}
use Rattle.lmn_base.specs.declared.level.Level.{Level}
use Rattle.lmn_base.specs.declared.refusal.Refusal.{Refusal}
use Rattle.lmn_base.specs.declared.rule.Plain.{Plain}
use Rattle.lmn_base.specs.declared.rule.RuleTree.{RuleTree}
use Rattle.lmn_base.specs.Codes.{IsTextCode}
use Rattle.lmn_base.specs.Firsts.{Row, RefusedBy, by_this, by_later}
use Rattle.lmn_base_walks.specs.LinkCodes.{LinkFault, once_in_process, too_often_in_process, once_in_rule, too_often_in_rule}
use Rattle.lmn_base_walks.specs.RuleCodes.{rule_rows}
use Rattle.lmn_flatten.specs.Outside.{outside_rules}
use Rattle.lmn_parser_grammar.specs.Refusing.{Refuses}
use Rattle.lmn_guards.specs.GuardCodes.{guard_rows, rows_of_condition, rows_of_conditions, rows_of_typed}
use Rattle.lmn_lexer.specs.declared.token.Kind.{Kind}
use Rattle.lmn_lexer.specs.Faults.{Wrong, bad_byte, bad_quoted_byte, open_quote, open_comment, wrong_token, string, inline_code, hyperlink, TokenFault, integer_out_of_range, long_name, floating_point}
use Rattle.lmn_app_reading.specs.Laws.{RefusalsHaveCodes}
use Rattle.lmn_app_reading.specs.Texts.{by_bytes, by_tokens, by_contexts, by_links, by_rules, rows_of_rule, rows_of_rules}
use Rattle.lmn_parser.specs.Faults.{AreKindsOfProgram}

abbrev HasCode : Row → Type 0
HasCode row = IsTextCode row.code

of_rows : (rows : List Row) (refusal : Refusal) → All HasCode rows → RefusedBy rows refusal → IsTextCode refusal.code
of_rows [] refusal h r = elim r [ ]
of_rows (row ∷ rows) refusal h (by_this f) = All-head HasCode row rows h
of_rows (row ∷ rows) refusal h (by_later r) = of_rows rows refusal (All-tail HasCode row rows h) r

of_rule : (table : List RuleTree) (r : RuleTree) → All HasCode (rule_rows table r)
of_rule table r = All-from_recursion HasCode (rule_rows table r) (refl, (refl, (refl, (refl, (refl, (refl, (refl, (refl, (refl, (refl, (refl, tt)))))))))))

of_condition : (head : Level) (before : List Cond) (c : Cond) → All HasCode (rows_of_condition head before c)
of_condition head before c = All-from_recursion HasCode (rows_of_condition head before c) (refl, (refl, (refl, tt)))

of_conditions : (head : Level) (before cs : List Cond) → All HasCode (rows_of_conditions head before cs)
of_conditions head before [] = All-nil HasCode
of_conditions head before (c ∷ cs) = All-append HasCode (rows_of_condition head before c) (rows_of_conditions head (before ++ c ∷ []) cs) (of_condition head before c) (of_conditions head (before ++ c ∷ []) cs)

of_guard : (r : RuleTree) → All HasCode (guard_rows r)
of_guard r =
    All-append HasCode (rows_of_conditions r.head [] r.guard) (rows_of_typed r) (of_conditions r.head [] r.guard) (All-from_recursion HasCode (rows_of_typed r) (refl, (refl, tt)))

of_rules : (table rules : List RuleTree) → All HasCode (flat_map (rows_of_rule table) rules)
of_rules table [] = All-nil HasCode
of_rules table (r ∷ rs) =
    All-append HasCode (rows_of_rule table r) (flat_map (rows_of_rule table) rs) (All-append HasCode (rule_rows table r) (guard_rows r) (of_rule table r) (of_guard r)) (of_rules table rs)

of_links : (p : Plain) (refusal : Refusal) → LinkFault p refusal → IsTextCode refusal.code
of_links p refusal (once_in_process f) = refl
of_links p refusal (too_often_in_process f) = refl
of_links p refusal (once_in_rule k r e f) = refl
of_links p refusal (too_often_in_rule k r e f) = refl

of_token_fault : (kind : Kind) (bytes after : List ℕ) (code : ℕ) → TokenFault kind bytes after code → IsTextCode code
of_token_fault kind bytes after _ (integer_out_of_range a b c) = refl
of_token_fault kind bytes after _ (long_name a) = refl
of_token_fault kind bytes after _ (floating_point a b) = refl

of_bytes : (minus : Bool) (text skipped : List ℕ) (code : ℕ) → Wrong minus text code skipped → IsTextCode code
of_bytes minus text _ _ (bad_byte a b c d e) = refl
of_bytes minus text _ _ (bad_quoted_byte a b c d e f g h i) = refl
of_bytes minus text _ _ (open_quote a b c d e f) = refl
of_bytes minus text _ _ (open_comment a b c) = refl
of_bytes minus text _ _ (wrong_token kind bytes after code b f) = of_token_fault kind bytes after code f
of_bytes minus text _ _ (string a b) = refl
of_bytes minus text _ _ (inline_code a b) = refl
of_bytes minus text _ _ (hyperlink a b) = refl

of_tokens : (code : ℕ) (before : List Kind) (token : Kind) → Refuses AreKindsOfProgram code before token → IsTextCode code
of_tokens code before token (inl (e, h)) = subst IsTextCode (sym e) refl
of_tokens code before token (inr (b, inl h)) = let e = h.0 in subst IsTextCode (sym e) refl
of_tokens code before token (inr (b, inr h)) = let e = h.0 in subst IsTextCode (sym e) refl

-- a text is refused by a code of the table
pub refusals_have_codes : RefusalsHaveCodes
refusals_have_codes text names refusal (by_bytes h) = of_bytes _ _ _ _ h.wrong
refusals_have_codes text names refusal (by_tokens tokens right cut h) = let r = h.refused in of_tokens _ _ _ r.refuses
refusals_have_codes text names refusal (by_contexts p r h) = of_rows (outside_rules p.top ∷ []) refusal (All-from_recursion HasCode (outside_rules p.top ∷ []) (refl, tt)) h
refusals_have_codes text names refusal (by_links p r outside h) = of_links p refusal h.applies
refusals_have_codes text names refusal (by_rules p r outside links h) = of_rows (rows_of_rules p) refusal (of_rules p.rules p.rules) h
