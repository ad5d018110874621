-- Each text is accepted or refused.
use Rattle.std.proofs.Common.{◌≡◌, ℕ, ◌⊎◌, inl, inr, List, [], ◌∷◌, ◌++◌, map, length, Some, None, Option, slice_get, Contains, IsTrue, refl, sym, ap, subst, ◌∙◌}
use Rattle.std.specs.List.{flat_map, AllZip}
use Rattle.std.specs.declared.alloc.Global.{Global}
use Rattle.std.proofs.lemmas.List.Elements.{All-contains, All-cons}
use Rattle.lmn_base.specs.declared.refusal.Pos.{Pos}
use Rattle.lmn_base.specs.declared.refusal.Refusal.{Refusal}
use Rattle.lmn_base.specs.declared.rule.Plain.{Plain}
use Rattle.lmn_base.specs.declared.rule.RuleTree.{RuleTree}
use Rattle.lmn_base.specs.Firsts.{IsFirst, Row, NoneApplies, RefusedBy, by_this, by_later, earlier}
use Rattle.lmn_base_walks.specs.LinkCodes.{LinkFault, IsFirstFault, not_behind, told_of_plain}
use Rattle.lmn_base.specs.WellMade.{IsWellMade}
use Rattle.lmn_base.proofs.FirstLemmas.{first_of_both, first_of_one}
use Rattle.lmn_base.proofs.RowLemmas.{no_rows}
use Rattle.lmn_congruence.specs.Rules.{Name}
use Rattle.lmn_flatten.specs.Outside.{outside_rules}
use Rattle.lmn_parser_grammar.specs.Grammar.{Derives, program}
use Rattle.lmn_parser_grammar.specs.Refusing.{IsWithin, IsRefused}
use Rattle.lmn_parser_grammar.proofs.Ends.{derived_or_refused}
use Rattle.lmn_guards.specs.declared.plan.GuardPlan.{GuardPlan}
use Rattle.lmn_guards.specs.Plans.{IsPlan, binding, leaves_by_membrane, numbered_uses, typed_use}
use Rattle.lmn_lexer.proofs.CutOrRefused.{cut_or_refused}
use Rattle.lmn_lexer.specs.Cutting.{Cuts}
use Rattle.lmn_lexer.specs.Faults.{IsLexicalFault, NothingWrong}
use Rattle.lmn_lexer.specs.Laying.{words_of}
use Rattle.lmn_lexer.specs.declared.token.Kind.{Kind}
use Rattle.lmn_lexer.specs.declared.token.Token.{Token}
use Rattle.lmn_linkcheck.proofs.Firsts.{first_of_both as first_refusal_of_both, first_alone}
use Rattle.lmn_linkcheck.proofs.LinkedLemmas.{no_fault_is_linked}
use Rattle.lmn_linkcheck.proofs.Tables.{fault_is_told, told_is_fault}
use Rattle.lmn_linkcheck.specs.Least.{IsFirstRefusal, earlier_refusal}
use Rattle.lmn_parser.proofs.OneReading.{cut_ends}
use Rattle.lmn_parser.proofs.OneLanguage.{refused_by_trees}
use Rattle.lmn_parser.proofs.TreesExist.{trees_exist}
use Rattle.lmn_parser.specs.Faults.{IsRefusalOf}
use Rattle.lmn_parser.specs.Parsing.{kinds_of}
use Rattle.lmn_flatten_plain.proofs.SomePlain.{some_plain}
use Rattle.lmn_app_reading.specs.Laws.{IsAcceptedText, ReadingAcceptsOrRefuses}
use Rattle.lmn_app_reading.specs.Texts.{ReadsAs, IsRefusedAs, by_bytes, by_tokens, by_contexts, by_links, by_rules, rows_of_rules}
use Rattle.lmn_app_reading.proofs.Readings.{well_made}
use Rattle.lmn_app_reading.proofs.Rules.{rules_accepted}
use Rattle.lmn_base.proofs.Lists.{contains_none}

-- ---- rows

-- some places have a first, where there is one
some_first : (ps : List Pos) → (first : Option Pos) × IsFirst ps first
some_first [] = (None, refl)
some_first (p ∷ ps) = let rest = some_first ps in (earlier (Some p) rest.0, first_of_both (p ∷ []) ps (Some p) rest.0 (first_of_one p) rest.1)

decided : (rows : List Row) → NoneApplies rows ⊎ ((refusal : Refusal) × RefusedBy rows refusal)
decided [] = inl no_rows
decided (row ∷ rows) = let first = some_first row.places in by row.places refl first.0 first.1 (decided rows)
  where
    by : (ps : List Pos) → ps ≡ row.places → (first : Option Pos) → IsFirst ps first → NoneApplies rows ⊎ ((refusal : Refusal) × RefusedBy rows refusal)
        → NoneApplies (row ∷ rows) ⊎ ((refusal : Refusal) × RefusedBy (row ∷ rows) refusal)
    by ps e (Some p) h rest = inr (record { code = row.code; pos = p }, subst (λ qs. RefusedBy (record { code = row.code; places = qs } ∷ rows) (record { code = row.code; pos = p })) e (by_this h))
    by ps e None h (inl none) = let P : Row → Type 0 = λ row. row.places ≡ [] in inl (All-cons P row rows (sym e ∙ h) none)
    by ps e None h (inr (refusal, r)) = inr (refusal, subst (λ qs. RefusedBy (record { code = row.code; places = qs } ∷ rows) refusal) (sym h ∙ e) (by_later r))

-- ---- links

some_first_of : (refusals : List Refusal) → (first : Option Refusal) × IsFirstRefusal refusals first
some_first_of [] = (None, refl)
some_first_of (a ∷ refusals) =
    let rest = some_first_of refusals in
    (earlier_refusal (Some a) rest.0, first_refusal_of_both (a ∷ []) refusals (Some a) rest.0 (first_alone (Some a) (a ∷ []) refl) rest.1)

links_decided : (p : Plain) → IsWellMade p → ((a : Refusal) → ¬ (LinkFault p a)) ⊎ ((refusal : Refusal) × IsFirstFault p refusal)
links_decided p is = let first = some_first_of (told_of_plain p) in by first.0 first.1
  where
    by : (first : Option Refusal) → IsFirstRefusal (told_of_plain p) first → ((a : Refusal) → ¬ (LinkFault p a)) ⊎ ((refusal : Refusal) × IsFirstFault p refusal)
    by None h = inl (λ a f. contains_none a (subst (λ refusals. Contains refusals a) h (fault_is_told p is a f)))
    by (Some a) h = inr (
      a,
      record {
        applies = told_is_fault p is a h.one_of_them;
        none_before = λ other f. All-contains (λ b. IsTrue (not_behind a b)) (told_of_plain p) other h.none_before (fault_is_told p is other f);
      },
    )

-- ---- plans

plan_of : (r : RuleTree) → (plan : GuardPlan) × IsPlan r plan
plan_of r = (record { kinds = numbered_uses (typed_use r.head r.guard) 0 (leaves_by_membrane r.head); bound = flat_map (binding r.head) r.guard }, record { kinds = refl; bound = refl })

plans_of : (rs : List RuleTree) → (plans : List GuardPlan) × AllZip IsPlan rs plans
plans_of [] = ([], tt)
plans_of (r ∷ rs) = let one = plan_of r in let rest = plans_of rs in (one.0 ∷ rest.0, (one.1, rest.1))

-- ---- texts

token_there : (ts : List Token) (before rest : List Kind) (k : Kind) → kinds_of ts ≡ before ++ k ∷ rest → (t : Token) × (slice_get ts (length before) ≡ Some t)
token_there [] [] rest k e = absurd (cc)
token_there [] (b ∷ before) rest k e = absurd (cc)
token_there (t ∷ ts) [] rest k e = (t, refl)
token_there (t ∷ ts) (b ∷ before) rest k e = token_there ts before rest k (cc)

module _ (alloc : Global) (text : List ℕ) (names : List Name) where
  abbrev Decided : Type 0
  Decided = IsAcceptedText text names ⊎ ((refusal : Refusal) × IsRefusedAs text names refusal)

  by_the_rules : (plain : Plain) → ReadsAs text names plain → NoneApplies (outside_rules plain.top ∷ []) → ((a : Refusal) → ¬ (LinkFault plain a))
      → NoneApplies (rows_of_rules plain) ⊎ ((refusal : Refusal) × RefusedBy (rows_of_rules plain) refusal) → Decided
  by_the_rules plain reads outside links (inl none) =
      let linked = no_fault_is_linked plain (well_made text names plain reads outside) in
      let is_linked = linked.0 links in
      let plans = plans_of plain.rules in
      inl (plain, plans.0, record { reads = reads; outside = outside; links = links; rules = rules_accepted plain.rules plain.rules is_linked.rules none; planned = plans.1 })
  by_the_rules plain reads outside links (inr (refusal, h)) = inr (refusal, by_rules plain reads outside links h)

  by_the_links : (plain : Plain) → ReadsAs text names plain → NoneApplies (outside_rules plain.top ∷ [])
      → ((a : Refusal) → ¬ (LinkFault plain a)) ⊎ ((refusal : Refusal) × IsFirstFault plain refusal) → Decided
  by_the_links plain reads outside (inl links) = by_the_rules plain reads outside links (decided (rows_of_rules plain))
  by_the_links plain reads outside (inr (refusal, h)) = inr (refusal, by_links plain reads outside h)

  by_the_contexts : (plain : Plain) → ReadsAs text names plain
      → NoneApplies (outside_rules plain.top ∷ []) ⊎ ((refusal : Refusal) × RefusedBy (outside_rules plain.top ∷ []) refusal) → Decided
  by_the_contexts plain reads (inl outside) = by_the_links plain reads outside (links_decided plain (well_made text names plain reads outside))
  by_the_contexts plain reads (inr (refusal, h)) = inr (refusal, by_contexts plain reads h)

  by_the_tokens : (tokens : List Token) → Cuts text tokens → NothingWrong text
      → (Derives program (kinds_of tokens) × IsWithin (kinds_of tokens)) ⊎ ((p : ℕ) × (c : ℕ) × IsRefused (Derives program) (kinds_of tokens) p c) → Decided
  by_the_tokens tokens cut right (inl (derived, within)) =
      let tree = trees_exist tokens derived in
      let plain = some_plain alloc (words_of text tokens) (map (λ t. t.pos) tokens) names tree.0 in
      by_the_contexts plain.0
      (record { tokens = tokens; tree = tree.0; right = right; reads = record { cut = cut; is_tree = tree.1 }; within = within; is_plain = plain.1 })
      (decided (outside_rules plain.0.top ∷ []))
  by_the_tokens tokens cut right (inr (p, c, h)) =
      let there = token_there tokens h.before h.rest h.token h.split in
      let at = ap (slice_get tokens) h.is_there ∙ there.1 in
      let refusal : Refusal = record { code = c; pos = there.0.pos } in
      let is_refusal : IsRefusalOf tokens refusal = record { number = p; token = there.0; is_there = at; placed = refl; refused = refused_by_trees (kinds_of tokens) p c h } in
      inr (refusal, by_tokens tokens right cut is_refusal)

  by_the_bytes : ((tokens : List Token) × Cuts text tokens × NothingWrong text) ⊎ ((refusal : Refusal) × IsLexicalFault text refusal) → Decided
  by_the_bytes (inr (refusal, h)) = inr (refusal, by_bytes h)
  by_the_bytes (inl (tokens, cut, right)) =
      let end = cut_ends text tokens cut in
      let P : List Kind → Type 0 = λ ks. (Derives program ks × IsWithin ks) ⊎ ((p : ℕ) × (c : ℕ) × IsRefused (Derives program) ks p c) in
      by_the_tokens tokens cut right (subst P (sym end.1) (derived_or_refused end.0))

-- reading accepts a text, or it refuses it
pub accepted_or_refused : ReadingAcceptsOrRefuses
accepted_or_refused alloc text names = by_the_bytes alloc text names (cut_or_refused text)
