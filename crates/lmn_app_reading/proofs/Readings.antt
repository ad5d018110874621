-- What is read of a text, layer by layer.
use Rattle.std.proofs.Common.{◌≡◌, ℕ, List, [], ◌∷◌, map, Result, Ok, Err, MatchResult, sym, ap, ◌∙◌, subst}
use Rattle.std.proofs.lemmas.List.Elements.{All-head}
use Rattle.std.specs.List.{AllZip}
use Rattle.lmn_base.specs.declared.refusal.Refusal.{Refusal}
use Rattle.lmn_base.specs.declared.refusal.TextFault.{TextFault}
use Rattle.lmn_base.specs.declared.refusal.TextFault.TheVariants.{Refused, NoMemory}
use Rattle.lmn_base.specs.declared.rule.Plain.{Plain}
use Rattle.lmn_base.specs.Firsts.{Row, NoneApplies, RefusedBy}
use Rattle.lmn_base_walks.specs.LinkCodes.{AnswersLinks}
use Rattle.lmn_base.specs.Refusals.{IfRefused}
use Rattle.lmn_base.specs.WellMade.{IsWellMade}
use Rattle.lmn_congruence.specs.Rules.{Name}
use Rattle.lmn_flatten.specs.NameLists.{names_read}
use Rattle.lmn_flatten.specs.Outside.{outside_rules}
use Rattle.lmn_parser_grammar.specs.Refusing.{IsWithin, IsRefused as IsRefusedAt}
use Rattle.lmn_guards.specs.Plans.{IsPlan}
use Rattle.lmn_lexer.specs.Cutting.{Cuts}
use Rattle.lmn_lexer.specs.Faults.{IsLexicalFault, NothingWrong}
use Rattle.lmn_lexer.specs.Laying.{words_of}
use Rattle.lmn_lexer.specs.declared.token.Kind.{Kind}
use Rattle.lmn_lexer.specs.declared.token.Token.{Token}
use Rattle.lmn_lexer.proofs.OneCut.{one_cut, refused_is_wrong}
use Rattle.lmn_linkcheck.proofs.LinkedLemmas.{no_fault_is_linked}
use Rattle.lmn_parser.proofs.OneLanguage.{refused_no_tree}
use Rattle.lmn_parser.specs.Faults.{IsFaultOf, AreKindsOfProgram}
use Rattle.lmn_parser.specs.Parsing.{kinds_of}
use Rattle.lmn_parser.specs.Readings.{Reads}
use Rattle.lmn_parser.specs.Syntax.{Clauses}
use Rattle.lmn_flatten_plain.specs.Laws.{IsPlain}
use Rattle.lmn_flatten_plain.proofs.PrintedLines.{plains_are_well_made}
use Rattle.lmn_app_reading.specs.declared.reading.Accepted.{Accepted}
use Rattle.lmn_app_reading.specs.Texts.{IsAcceptedAs, IsPlainOrRefusal, IsRefusedAs, LeavesNames, LeavesNamesWith, ReadsAs, by_bytes, by_tokens, by_contexts, by_links, by_rules, rows_of_rules}
use Rattle.lmn_app_reading.proofs.Levels.{no_context}
use Rattle.lmn_app_reading.proofs.Rules.{rules_accepted}

-- What holds of the names holds with each answer.
pub with_each : {A : Type 0} (P : Type 0) (x : Result A TextFault) → P → MatchResult x (λ read. P) (λ fault. IfRefused fault (λ refusal. P))
with_each P (Ok a) p = p
with_each P (Err (Refused r)) p = p
with_each P (Err NoMemory) p = tt

module _ (text : List ℕ) (before after : List Name) where
  -- a text with a wrong byte reads as no tree
  pub none_by_bytes : (fault : TextFault) → IfRefused fault (λ refusal. IsLexicalFault text refusal) → IfRefused fault (λ refusal. LeavesNames text before after)
  none_by_bytes (Refused r) h = λ tokens tree right reads within. absurd (refused_is_wrong text r h right)
  none_by_bytes NoMemory h = tt

  -- nor does one whose tokens are no program within the limits
  pub none_by_tokens : (tokens : List Token) (fault : TextFault) → Cuts text tokens → IsFaultOf tokens fault → IfRefused fault (λ refusal. LeavesNames text before after)
  none_by_tokens ts (Refused r) cut h = λ tokens tree right reads within.
      let same = ap kinds_of (one_cut text ts tokens cut reads.cut) in
      let P : List Kind → Type 0 = λ k. IsRefusedAt AreKindsOfProgram k h.number r.code in
      absurd (refused_no_tree tokens tree h.number r.code (subst P same h.refused) reads.is_tree within)
  none_by_tokens ts NoMemory cut h = tt

  names_left : (ts : List Token) (tree : Clauses) → Reads text ts tree → after ≡ names_read before (words_of text ts) → LeavesNames text before after
  names_left ts tree reads h tokens other right also within =
      h ∙ ap (λ z. names_read before (words_of text z)) (one_cut text ts tokens reads.cut also.cut)

  pub names_with_each : {A : Type 0} (ts : List Token) (tree : Clauses) (x : Result A TextFault) → Reads text ts tree
      → MatchResult x (λ plain. after ≡ names_read before (words_of text ts)) (λ fault. IfRefused fault (λ refusal. after ≡ names_read before (words_of text ts)))
      → LeavesNamesWith x text before after
  names_with_each ts tree (Ok a) reads h = names_left ts tree reads h
  names_with_each ts tree (Err (Refused r)) reads h = names_left ts tree reads h
  names_with_each ts tree (Err NoMemory) reads h = tt

module _ (text : List ℕ) (names : List Name) where
  pub bytes_refused : (fault : TextFault) → IfRefused fault (λ refusal. IsLexicalFault text refusal) → IfRefused fault (IsRefusedAs text names)
  bytes_refused (Refused refusal) h = by_bytes h
  bytes_refused NoMemory h = tt

  pub tokens_refused : (tokens : List Token) (fault : TextFault) → NothingWrong text → Cuts text tokens → IsFaultOf tokens fault → IfRefused fault (IsRefusedAs text names)
  tokens_refused tokens (Refused refusal) right cut h = by_tokens tokens right cut h
  tokens_refused tokens NoMemory right cut h = tt

  pub plain_read : (tokens : List Token) (tree : Clauses) (x : Result Plain TextFault) → NothingWrong text → Reads text tokens tree → IsWithin (kinds_of tokens)
      → MatchResult x (λ plain. IsPlain text tokens tree names plain × NoneApplies (outside_rules plain.top ∷ []))
      (λ fault. IfRefused fault (λ refusal. (plain : Plain) × IsPlain text tokens tree names plain × RefusedBy (outside_rules plain.top ∷ []) refusal))
      → IsPlainOrRefusal x text names
  plain_read tokens tree (Ok plain) right reads within h =
      (record { tokens = tokens; tree = tree; right = right; reads = reads; within = within; is_plain = h.0 }, h.1)
  plain_read tokens tree (Err (Refused refusal)) right reads within h =
      by_contexts h.0 (record { tokens = tokens; tree = tree; right = right; reads = reads; within = within; is_plain = h.1 }) h.2
  plain_read tokens tree (Err NoMemory) right reads within h = tt

  -- the plain of a text is well made, where no context stands outside every rule
  pub well_made : (plain : Plain) → ReadsAs text names plain → NoneApplies (outside_rules plain.top ∷ []) → IsWellMade plain
  well_made plain r none =
      let P : Row → Type 0 = λ row. row.places ≡ [] in
      let n = no_context plain.top (All-head P (outside_rules plain.top) [] none) in
      plains_are_well_made (words_of text r.tokens) (map (λ t. t.pos) r.tokens) names r.tree plain r.is_plain n.only_atoms n.no_context n.no_rule_context

  pub links_refused : (plain : Plain) (x : Result (Unit {0}) Refusal) (refusal : Refusal) → ReadsAs text names plain → NoneApplies (outside_rules plain.top ∷ [])
      → x ≡ Err refusal → AnswersLinks plain x → IsRefusedAs text names refusal
  links_refused plain x refusal r none e h = let P : Result (Unit {0}) Refusal → Type 0 = AnswersLinks plain in by_links plain r none (subst P e h)

  pub all_read : (plain : Plain) (y : Result (Unit {0}) Refusal) (u : Unit {0}) (x : Result Accepted TextFault) → ReadsAs text names plain
      → NoneApplies (outside_rules plain.top ∷ []) → y ≡ Ok u → AnswersLinks plain y
      → MatchResult x (λ a. (a.plain ≡ plain) × NoneApplies (rows_of_rules plain) × AllZip IsPlan plain.rules a.plans) (λ fault. IfRefused fault (RefusedBy (rows_of_rules plain)))
      → MatchResult x (λ a. IsAcceptedAs text names a.plain a.plans) (λ fault. IfRefused fault (IsRefusedAs text names))
  all_read plain y u (Ok a) r none e h k =
      let P : Plain → Type 0 = λ p. IsAcceptedAs text names p a.plans in
      let Q : Result (Unit {0}) Refusal → Type 0 = AnswersLinks plain in
      let links = subst Q e h in
      let linked = no_fault_is_linked plain (well_made plain r none) in
      let is_linked = linked.0 links in
      subst P (sym k.0) (record { reads = r; outside = none; links = links; rules = rules_accepted plain.rules plain.rules is_linked.rules k.1; planned = k.2 })
  all_read plain y u (Err (Refused refusal)) r none e h k =
      let Q : Result (Unit {0}) Refusal → Type 0 = AnswersLinks plain in
      by_rules plain r none (subst Q e h) k
  all_read plain y u (Err NoMemory) r none e h k = tt
