-- A text is accepted or refused in one way.
use Rattle.std.proofs.Common.{◌≡◌, ℕ, zero, suc, true, nat_le, List, [], ◌∷◌, map, Some, slice_get, IsTrue, refl, sym, ap, subst, ◌∙◌, arith}
use Rattle.std.specs.List.{AllByRecursion, flat_map, AllZip}
use Rattle.std.proofs.lemmas.Bool.Decides.{nat_tests}
use Rattle.std.proofs.lemmas.List.Elements.{All-append}
use Rattle.std.proofs.lemmas.Option.{same_Some}
use Rattle.lmn_base.specs.declared.refusal.Refusal.{Refusal}
use Rattle.lmn_base.specs.declared.refusal.TextFault.TheVariants.{Refused}
use Rattle.lmn_base.specs.declared.rule.Plain.{Plain}
use Rattle.lmn_base.specs.declared.rule.RuleTree.{RuleTree}
use Rattle.lmn_base.specs.Firsts.{Row, NoneApplies, RefusedBy}
use Rattle.lmn_base_walks.specs.LinkCodes.{OccursOnce, OccursTooOften, LinkFault, once_in_process, too_often_in_process, once_in_rule, too_often_in_rule, IsFirstFault, not_behind}
use Rattle.lmn_base.specs.PlaceOrder.{not_after}
use Rattle.lmn_base_walks.specs.RuleCodes.{rule_rows}
use Rattle.lmn_base.proofs.FirstLemmas.{same_place}
use Rattle.lmn_base.proofs.RowLemmas.{no_rows, none_or_refused}
use Rattle.lmn_base.proofs.RowLemmas.{one_refusal as one_of_rows}
use Rattle.lmn_congruence.specs.Rules.{Name}
use Rattle.lmn_flatten.specs.Outside.{outside_rules}
use Rattle.lmn_parser_grammar.proofs.Refusals.{refused_once}
use Rattle.lmn_parser_grammar.specs.Refusing.{IsRefused}
use Rattle.lmn_guards.specs.Accepted.{IsAcceptedRule}
use Rattle.lmn_guards.specs.GuardCodes.{guard_rows}
use Rattle.lmn_guards.specs.declared.plan.GuardPlan.{GuardPlan}
use Rattle.lmn_lexer.proofs.OneCut.{one_cut, refused_is_wrong}
use Rattle.lmn_lexer.proofs.OneCut.{one_refusal as one_of_bytes}
use Rattle.lmn_lexer.specs.Cutting.{Cuts}
use Rattle.lmn_lexer.specs.Faults.{IsLexicalFault}
use Rattle.lmn_lexer.specs.Laying.{words_of}
use Rattle.lmn_lexer.specs.declared.token.Token.{Token}
use Rattle.lmn_parser.proofs.OneReading.{one_reading}
use Rattle.lmn_parser.proofs.OneLanguage.{refused_no_tree}
use Rattle.lmn_parser.specs.Faults.{IsFaultOf, AreKindsOfProgram}
use Rattle.lmn_parser.specs.Parsing.{kinds_of}
use Rattle.lmn_parser.specs.Syntax.{Clauses}
use Rattle.lmn_flatten_plain.proofs.OnePlain.{one_plain}
use Rattle.lmn_flatten_plain.specs.Laws.{IsPlain}
use Rattle.lmn_flatten_plain.specs.SamePlains.{SameRule, SamePlain}
use Rattle.lmn_app_reading.specs.Laws.{RefusedTextNotAccepted, ReadingRefusesOnce, OneAcceptance}
use Rattle.lmn_app_reading.specs.Texts.{ReadsAs, IsAcceptedAs, IsRefusedAs, by_bytes, by_tokens, by_contexts, by_links, by_rules, rows_of_rule, rows_of_rules}
use Rattle.lmn_app_reading.proofs.SameRules.{one_plans, same_plain_names, same_plain_rows, same_tops}
use Rattle.lmn_base.proofs.Truth.{guarded_first as place_first, guarded_then as code_then}

same_refusal : (a b : Refusal) → a.code ≡ b.code → a.pos ≡ b.pos → a ≡ b
same_refusal a b c p = λ i. record { code = c i; pos = p i }

-- ---- tokens

one_token_fault : (ts : List Token) (a b : Refusal) → IsFaultOf ts (Refused a) → IsFaultOf ts (Refused b) → a ≡ b
one_token_fault ts a b h k =
    let same = refused_once AreKindsOfProgram (kinds_of ts) h.number k.number a.code b.code h.refused k.refused in
    same_refusal a b same.1 (h.placed ∙ ap (λ z. z.pos) (same_Some h.token k.token (sym h.is_there ∙ ap (slice_get ts) same.0 ∙ k.is_there)) ∙ sym k.placed)

-- ---- links

same_at : (rs ss : List RuleTree) → AllZip SameRule rs ss → (k : ℕ) (r : RuleTree) → slice_get rs k ≡ Some r → (s : RuleTree) × (slice_get ss k ≡ Some s) × SameRule r s
same_at [] [] h zero r e = absurd (cc)
same_at [] [] h (suc k) r e = absurd (cc)
same_at [] (s ∷ ss) h k r e = absurd h
same_at (x ∷ rs) [] h k r e = absurd h
same_at (x ∷ rs) (s ∷ ss) h zero r e = let P : RuleTree → Type 0 = λ y. SameRule y s in (s, refl, subst P (same_Some x r e) h.0)
same_at (x ∷ rs) (s ∷ ss) h (suc k) r e = same_at rs ss h.1 k r e

same_fault : (p q : Plain) → SamePlain p q → (a : Refusal) → LinkFault p a → LinkFault q a
same_fault p q h a (once_in_process {pos = pos} f) = once_in_process (subst (λ l. OccursOnce (l ∷ []) pos) h.top f)
same_fault p q h a (too_often_in_process {pos = pos} f) = too_often_in_process (subst (λ l. OccursTooOften (l ∷ []) pos) h.top f)
same_fault p q h a (once_in_rule {pos = pos} k r e f) =
    let s = same_at p.rules q.rules h.rules k r e in
    let same = s.2 in
    once_in_rule k s.0 s.1 (subst (λ l. OccursOnce (s.0.head ∷ l ∷ []) pos) same.body (subst (λ l. OccursOnce (l ∷ r.body ∷ []) pos) same.head f))
same_fault p q h a (too_often_in_rule {pos = pos} k r e f) =
    let s = same_at p.rules q.rules h.rules k r e in
    let same = s.2 in
    too_often_in_rule k s.0 s.1 (subst (λ l. OccursTooOften (s.0.head ∷ l ∷ []) pos) same.body (subst (λ l. OccursTooOften (l ∷ r.body ∷ []) pos) same.head f))

both_ways : (m n : ℕ) → nat_le m n ≡ true → nat_le n m ≡ true → m ≡ n
both_ways m n g h = grind (arith, nat_tests)

neither_behind : (a b : Refusal) → IsTrue (not_behind a b) → IsTrue (not_behind b a) → a ≡ b
neither_behind a b h g =
    let ab = place_first (not_after a.pos b.pos) (not_after b.pos a.pos) (nat_le a.code b.code) h in
    let ba = place_first (not_after b.pos a.pos) (not_after a.pos b.pos) (nat_le b.code a.code) g in
    same_refusal a b
    (both_ways a.code b.code (code_then (not_after a.pos b.pos) (not_after b.pos a.pos) (nat_le a.code b.code) h ba) (code_then (not_after b.pos a.pos) (not_after a.pos b.pos) (nat_le b.code a.code) g ab))
    (same_place a.pos b.pos ab ba)

-- ---- rules

none_of_accepted : (table rules : List RuleTree) → AllByRecursion (IsAcceptedRule table) rules → NoneApplies (flat_map (rows_of_rule table) rules)
none_of_accepted table [] h = no_rows
none_of_accepted table (r ∷ rs) h =
    let P : Row → Type 0 = λ row. row.places ≡ [] in
    let one = h.0 in
    All-append P (rows_of_rule table r) (flat_map (rows_of_rule table) rs) (All-append P (rule_rows table r) (guard_rows r) one.contexts one.guard) (none_of_accepted table rs h.1)

module _ (text : List ℕ) (names : List Name) where
  -- a text reads as one plain, but for the addresses of boxes
  pub one_text_plain : (p q : Plain) → ReadsAs text names p → ReadsAs text names q → SamePlain p q
  one_text_plain p q h g =
      let same = one_reading text h.tokens g.tokens h.tree g.tree h.reads g.reads in
      let P : List Token → Type 0 = λ ts. IsPlain text ts h.tree names p in
      let Q : Clauses → Type 0 = λ t. IsPlain text g.tokens t names p in
      one_plain (words_of text g.tokens) (map (λ t. t.pos) g.tokens) names g.tree p q (subst Q same.1 (subst P same.0 h.is_plain)) g.is_plain

  -- a text that reads as a plain isn't refused by its bytes, nor by its tokens
  not_by_bytes : (a : Refusal) (p : Plain) → IsLexicalFault text a → ReadsAs text names p → ⊥
  not_by_bytes a p h r = refused_is_wrong text a h r.right

  not_by_tokens : (a : Refusal) (p : Plain) (ts : List Token) → Cuts text ts → IsFaultOf ts (Refused a) → ReadsAs text names p → ⊥
  not_by_tokens a p ts c h r =
      let same = ap kinds_of (one_cut text ts r.tokens c r.reads.cut) in
      let P : List _ → Type 0 = λ k. IsRefused AreKindsOfProgram k h.number a.code in
      refused_no_tree r.tokens r.tree h.number a.code (subst P same h.refused) r.reads.is_tree r.within

  -- nor by its contexts, where none stands outside every rule; and so on
  not_by_contexts : (a : Refusal) (p q : Plain) → ReadsAs text names p → ReadsAs text names q → RefusedBy (outside_rules p.top ∷ []) a → NoneApplies (outside_rules q.top ∷ []) → ⊥
  not_by_contexts a p q h g r none =
      let same = one_text_plain p q h g in
      none_or_refused (outside_rules q.top ∷ []) a none (subst (λ l. RefusedBy (outside_rules l ∷ []) a) same.top r)

  not_by_links : (a : Refusal) (p q : Plain) → ReadsAs text names p → ReadsAs text names q → IsFirstFault p a → ((b : Refusal) → ¬ (LinkFault q b)) → ⊥
  not_by_links a p q h g f none = none a (same_fault p q (one_text_plain p q h g) a f.applies)

  not_by_rules : (a : Refusal) (p q : Plain) → ReadsAs text names p → ReadsAs text names q → RefusedBy (rows_of_rules p) a → NoneApplies (rows_of_rules q) → ⊥
  not_by_rules a p q h g r none =
      none_or_refused (rows_of_rules q) a none (subst (λ rows. RefusedBy rows a) (same_plain_rows p q (one_text_plain p q h g)) r)

  first_fault_is_one : (a b : Refusal) (p q : Plain) → ReadsAs text names p → ReadsAs text names q → IsFirstFault p a → IsFirstFault q b → a ≡ b
  first_fault_is_one a b p q h g f k =
      neither_behind a b (f.none_before b (same_fault q p (one_text_plain q p g h) b k.applies)) (k.none_before a (same_fault p q (one_text_plain p q h g) a f.applies))

  one : (a b : Refusal) → IsRefusedAs text names a → IsRefusedAs text names b → a ≡ b
  one a b (by_bytes h) (by_bytes k) = one_of_bytes text a b h k
  one a b (by_bytes h) (by_tokens ts right cut k) = absurd (refused_is_wrong text a h right)
  one a b (by_bytes h) (by_contexts q g k) = absurd (not_by_bytes a q h g)
  one a b (by_bytes h) (by_links q g outside k) = absurd (not_by_bytes a q h g)
  one a b (by_bytes h) (by_rules q g outside links k) = absurd (not_by_bytes a q h g)
  one a b (by_tokens ts right cut h) (by_bytes k) = absurd (refused_is_wrong text b k right)
  one a b (by_tokens ts right cut h) (by_tokens us proper parts k) =
      let P : List Token → Type 0 = λ xs. IsFaultOf xs (Refused a) in one_token_fault us a b (subst P (one_cut text ts us cut parts) h) k
  one a b (by_tokens ts right cut h) (by_contexts q g k) = absurd (not_by_tokens a q ts cut h g)
  one a b (by_tokens ts right cut h) (by_links q g outside k) = absurd (not_by_tokens a q ts cut h g)
  one a b (by_tokens ts right cut h) (by_rules q g outside links k) = absurd (not_by_tokens a q ts cut h g)
  one a b (by_contexts p f h) (by_bytes k) = absurd (not_by_bytes b p k f)
  one a b (by_contexts p f h) (by_tokens us right cut k) = absurd (not_by_tokens b p us cut k f)
  one a b (by_contexts p f h) (by_contexts q g k) =
      let same = one_text_plain p q f g in one_of_rows (outside_rules q.top ∷ []) a b (subst (λ l. RefusedBy (outside_rules l ∷ []) a) same.top h) k
  one a b (by_contexts p f h) (by_links q g outside k) = absurd (not_by_contexts a p q f g h outside)
  one a b (by_contexts p f h) (by_rules q g outside links k) = absurd (not_by_contexts a p q f g h outside)
  one a b (by_links p f outside h) (by_bytes k) = absurd (not_by_bytes b p k f)
  one a b (by_links p f outside h) (by_tokens us right cut k) = absurd (not_by_tokens b p us cut k f)
  one a b (by_links p f outside h) (by_contexts q g k) = absurd (not_by_contexts b q p g f k outside)
  one a b (by_links p f outside h) (by_links q g none k) = first_fault_is_one a b p q f g h k
  one a b (by_links p f outside h) (by_rules q g none links k) = absurd (not_by_links a p q f g h links)
  one a b (by_rules p f outside links h) (by_bytes k) = absurd (not_by_bytes b p k f)
  one a b (by_rules p f outside links h) (by_tokens us right cut k) = absurd (not_by_tokens b p us cut k f)
  one a b (by_rules p f outside links h) (by_contexts q g k) = absurd (not_by_contexts b q p g f k outside)
  one a b (by_rules p f outside links h) (by_links q g none k) = absurd (not_by_links b q p g f k links)
  one a b (by_rules p f outside links h) (by_rules q g none fine k) =
      one_of_rows (rows_of_rules q) a b (subst (λ rows. RefusedBy rows a) (same_plain_rows p q (one_text_plain p q f g)) h) k

  not_both : (a : Refusal) (q : Plain) (plans : List GuardPlan) → IsRefusedAs text names a → IsAcceptedAs text names q plans → ⊥
  not_both a q plans (by_bytes h) k = not_by_bytes a q h k.reads
  not_both a q plans (by_tokens ts right cut h) k = not_by_tokens a q ts cut h k.reads
  not_both a q plans (by_contexts p f h) k = not_by_contexts a p q f k.reads h k.outside
  not_both a q plans (by_links p f outside h) k = not_by_links a p q f k.reads h k.links
  not_both a q plans (by_rules p f outside links h) k = not_by_rules a p q f k.reads h (none_of_accepted q.rules q.rules k.rules)

-- reading gives a text one refusal at most
pub one_refusal : ReadingRefusesOnce
one_refusal text names a b h k = one text names a b h k

-- and doesn't accept a text that it refuses
pub refused_not_accepted : RefusedTextNotAccepted
refused_not_accepted text names a h (q, plans, k) = not_both text names a q plans h k

-- a text is accepted in one way at most
pub one_acceptance : OneAcceptance
one_acceptance text names p q plans others h g =
    let same = one_text_plain text names p q h.reads g.reads in
    record {
      plain = same;
      rows = same_plain_rows p q same;
      names = same_plain_names p q same;
      tops = same_tops names p q same;
      plans = one_plans p.rules q.rules plans others same.rules h.planned g.planned;
    }
