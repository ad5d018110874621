-- Which texts are accepted, and why others are refused.
use Rattle.std.proofs.Common.{◌≡◌, ℕ, ◌≤◌, List, length, ◌⊎◌, All, inl, inr, refl, sym, ap, ◌∙◌, subst, arith}
use Rattle.std.specs.Prelude.{Option, Some, None}
use Rattle.std.specs.declared.alloc.Global.{Global}
use Rattle.std.proofs.lemmas.Bool.{cases_lt}
use Rattle.lmn_base.specs.declared.level.Level.{Level}
use Rattle.lmn_base.specs.declared.refusal.Refusal.{Refusal}
use Rattle.lmn_base.specs.declared.rule.Plain.{Plain}
use Rattle.lmn_base.specs.declared.solid.Solid.{Solid}
use Rattle.lmn_base.specs.Levels.{leaves_of, links_of}
use Rattle.lmn_base.specs.Links.{EachTwice}
use Rattle.lmn_base.specs.Names.{first_names}
use Rattle.lmn_base.specs.Solids.{item_count}
use Rattle.lmn_base.specs.WellMade.{IsWellMade}
use Rattle.lmn_congruence.specs.Regions.{item_count_of_region}
use Rattle.lmn_congruence.specs.Rules.{Name}
use Rattle.lmn_congruence.specs.SolidsOfPlains.{IsSolidOf, JoinsLeaf, fused_region}
use Rattle.lmn_congruence.proofs.SolidsOfPlains.{solids_of_plains}
use Rattle.lmn_adequacy.proofs.PlainSolids.{solid_of_plain_is_one, solids_of_plains_exist}
use Rattle.lmn_flatten.specs.NameLists.{names_read}
use Rattle.lmn_parser_grammar.specs.Refusing.{IsRefused as IsRefusedAt}
use Rattle.lmn_guards.specs.declared.plan.GuardPlan.{GuardPlan}
use Rattle.lmn_lexer.specs.Laying.{words_of}
use Rattle.lmn_lexer.specs.declared.token.Kind.{Kind}
use Rattle.lmn_lexer.proofs.OneCut.{one_cut, refused_is_wrong}
use Rattle.lmn_linkcheck.proofs.LinkedLemmas.{no_fault_is_linked}
use Rattle.lmn_parser.specs.Parsing.{kinds_of}
use Rattle.lmn_parser.proofs.OneLanguage.{refused_no_tree}
use Rattle.lmn_parser.specs.Faults.{AreKindsOfProgram}
use Rattle.lmn_app_reading.specs.Laws.{IsAcceptedText}
use Rattle.lmn_app_reading.specs.Texts.{IsAcceptedAs, IsRefusedAs, LeavesNames, ReadsAs, by_bytes, by_contexts, by_links, by_rules, by_tokens}
use Rattle.lmn_app_reading.proofs.AcceptedOrRefused as reading
use Rattle.lmn_app_reading.proofs.OneRead as read
use Rattle.lmn_app_reading.proofs.Readings.{well_made}
use Rattle.lmn_app_runs.specs.Laws.{solid_of}
use Rattle.lmn_app_single.specs.Texts.{Accepts, AcceptedOrRefused, Fits, IsAccepted, IsRefusal, IsTooLarge, OneRefusal, RefusedNotAccepted, at_start, by_reading, text_bytes, too_large, too_long}
use Rattle.lmn_app_single.proofs.PlainRegions.{solid_with_items}

-- ---- the list of names

-- a text that reads has one list of names
pub one_list : (text : List ℕ) (names others : List Name) (p : Plain) → LeavesNames text first_names names → LeavesNames text first_names others → ReadsAs text names p → names ≡ others
one_list text names others p h k r = h r.tokens r.tree r.right r.reads r.within ∙ sym (k r.tokens r.tree r.right r.reads r.within)

at_names : (text : List ℕ) (names others : List Name) (r : Refusal) → LeavesNames text first_names names → LeavesNames text first_names others → IsRefusedAs text names r → IsRefusedAs text others r
at_names text names others r h k (by_bytes b) = by_bytes b
at_names text names others r h k (by_tokens ts right cut f) = by_tokens ts right cut f
at_names text names others r h k (by_contexts p reads f) =
    let P : List Name → Type 0 = λ ns. IsRefusedAs text ns r in subst P (one_list text names others p h k reads) (by_contexts p reads f)
at_names text names others r h k (by_links p reads n f) =
    let P : List Name → Type 0 = λ ns. IsRefusedAs text ns r in subst P (one_list text names others p h k reads) (by_links p reads n f)
at_names text names others r h k (by_rules p reads n l f) =
    let P : List Name → Type 0 = λ ns. IsRefusedAs text ns r in subst P (one_list text names others p h k reads) (by_rules p reads n l f)

-- and is accepted by it
pub accepted_at : (text : List ℕ) (names others : List Name) (p : Plain) (ps : List GuardPlan) → LeavesNames text first_names names → LeavesNames text first_names others → IsAcceptedAs text names p ps
    → IsAcceptedAs text others p ps
accepted_at text names others p ps h k a = let P : List Name → Type 0 = λ ns. IsAcceptedAs text ns p ps in subst P (one_list text names others p h k a.reads) a

-- ---- sizes

-- plains with one top have one solid
pub moved_solid : (p q : Plain) (s : Solid) → p.top ≡ q.top → IsSolidOf p s → IsSolidOf q s
moved_solid p q s e i =
    let P : Level → Type 0 = λ l. EachTwice (links_of l) in
    let Q : Level → Type 0 = λ l. All (JoinsLeaf i.to) (leaves_of l) in
    let R : Level → Type 0 = λ l. s.root ≡ fused_region i.to l in
    record { closed = subst P e i.closed; to = i.to; joins = subst Q e i.joins; is = subst R e i.is; is_solid = i.is_solid }

-- a plain that is too large doesn't fit, nor does one that is the same
fits_not : (size : Option ℕ) (names others : List Name) (p q : Plain) → IsWellMade p → IsWellMade q → p.top ≡ q.top → IsTooLarge size names p → Fits size others q → ⊥
fits_not None names others p q well also e large fits = large
fits_not (Some size) names others p q well also e (S, i, l) (T, j, m) =
    let s = solid_with_items names p well S i in
    let t = solid_with_items others q also T j in
    let same : s.0 ≡ t.0 = solid_of_plain_is_one q s.0 t.0 also (moved_solid p q s.0 e s.1) t.1 in
    let as_many : item_count s.0 ≡ item_count t.0 = ap item_count same in
    omega (arith, l, m, s.2, t.2, as_many)

-- and an accepted plain is well made
pub made : {text : List ℕ} {names : List Name} {p : Plain} {ps : List GuardPlan} → IsAcceptedAs text names p ps → IsWellMade p
made {text} {names} {p} a = well_made text names p a.reads a.outside

pub fits_or_not : (size : Option ℕ) (names : List Name) (p : Plain) → IsWellMade p → EachTwice (links_of p.top) → Fits size names p ⊎ IsTooLarge size names p
fits_or_not None names p well closed = inl tt
fits_or_not (Some size) names p well closed =
    let s = solids_of_plains_exist p well closed in
    let S = solid_of names p s.0 in
    let of = solids_of_plains names p s.0 well s.1 in
    elim (cases_lt size (item_count_of_region S)) [
      | inl more ↦ inr (S, of, more)
      | inr few ↦ inl (S, of, few)
    ]

-- ---- what is refused isn't accepted, and has one refusal

-- two acceptances of a text are of plains with one top
one_top : (text : List ℕ) (names others : List Name) (p q : Plain) (ps qs : List GuardPlan) → Accepts text names p ps → Accepts text others q qs → p.top ≡ q.top
one_top text names others p q ps qs a b =
    let one = read.one_acceptance text others p q ps qs (accepted_at text names others p ps a.named b.named a.accepted) b.accepted in
    let same = one.plain in
    same.top

-- a text that is refused isn't accepted
pub refused_not_accepted : RefusedNotAccepted
refused_not_accepted size text r (too_long long e) (names, plain, plans, a, fits) = omega (arith, long, a.short)
refused_not_accepted size text r (by_reading short others named h) (names, plain, plans, a, fits) =
    read.refused_not_accepted text names r (at_names text others names r named a.named h) (plain, plans, a.accepted)
refused_not_accepted size text r (too_large others p ps b l e) (names, plain, plans, a, fits) =
    fits_not size others names p plain (made b.accepted) (made a.accepted) (one_top text others names p plain ps plans b a) l fits

accepted_not_refused : (text : List ℕ) (names others : List Name) (p : Plain) (ps : List GuardPlan) (r : Refusal) → Accepts text names p ps → LeavesNames text first_names others → IsRefusedAs text others r → ⊥
accepted_not_refused text names others p ps r a named h = read.refused_not_accepted text names r (at_names text others names r named a.named h) (p, ps, a.accepted)

-- a text has one refusal at most
pub one_refusal : OneRefusal
one_refusal size text r q (too_long l e) (too_long m d) = e ∙ sym d
one_refusal size text r q (too_long l e) (by_reading short names k g) = absurd (omega (arith, l, short))
one_refusal size text r q (too_long l e) (too_large names p ps a m d) = absurd (omega (arith, l, a.short))
one_refusal size text r q (by_reading short names h f) (too_long m d) = absurd (omega (arith, m, short))
one_refusal size text r q (by_reading short names h f) (by_reading also others k g) = read.one_refusal text others r q (at_names text names others r h k f) g
one_refusal size text r q (by_reading short names h f) (too_large others p ps a m d) = absurd (accepted_not_refused text others names p ps r a h f)
one_refusal size text r q (too_large names p ps a l e) (too_long m d) = absurd (omega (arith, m, a.short))
one_refusal size text r q (too_large names p ps a l e) (by_reading short others k g) = absurd (accepted_not_refused text names others p ps q a k g)
one_refusal size text r q (too_large names p ps a l e) (too_large others o os b m d) = e ∙ sym d

-- ---- each text is accepted or refused

module _ (size : Option ℕ) where
  abbrev Answered : List ℕ → Type 0
  Answered text = IsAccepted size text ⊎ ((refusal : Refusal) × IsRefusal size text refusal)

  sized : (text : List ℕ) (names : List Name) (p : Plain) (ps : List GuardPlan) → Accepts text names p ps → Answered text
  sized text names p ps a =
      let r = a.accepted in
      let well = made r in
      let linked = (no_fault_is_linked p well).0 r.links in
      elim (fits_or_not size names p well linked.process) [
        | inl fits ↦ inl (names, p, ps, a, fits)
        | inr large ↦ inr (at_start 50, too_large names p ps a large refl)
      ]

  by_names : (text : List ℕ) (names : List Name) → length text ≤ text_bytes → LeavesNames text first_names names → IsAcceptedText text names ⊎ ((r : Refusal) × IsRefusedAs text names r) → Answered text
  by_names text names short named (inl (p, ps, a)) = sized text names p ps (record { short = short; named = named; accepted = a })
  by_names text names short named (inr (r, h)) = inr (r, by_reading short names named h)

  -- a text that reads has a list of names
  reads_so : (alloc : Global) (text : List ℕ) (names : List Name) (p : Plain) → length text ≤ text_bytes → ReadsAs text names p → Answered text
  reads_so alloc text names p short r =
      let list = names_read first_names (words_of text r.tokens) in
      let named : LeavesNames text first_names list = λ tokens tree right reads within. ap (λ ts. names_read first_names (words_of text ts)) (one_cut text r.tokens tokens r.reads.cut reads.cut) in
      by_names text list short named (reading.accepted_or_refused alloc text list)

  short_text : (alloc : Global) (text : List ℕ) → length text ≤ text_bytes → IsAcceptedText text first_names ⊎ ((r : Refusal) × IsRefusedAs text first_names r) → Answered text
  short_text alloc text short (inl (p, ps, a)) = reads_so alloc text first_names p short a.reads
  short_text alloc text short (inr (r, by_bytes h)) =
      inr (r, by_reading short first_names (λ tokens tree right reads within. absurd (refused_is_wrong text r h right)) (by_bytes h))
  short_text alloc text short (inr (r, by_tokens ts right cut h)) =
      let none : LeavesNames text first_names first_names = λ tokens tree right reads within.
      let same = ap kinds_of (one_cut text ts tokens cut reads.cut) in
      let P : List Kind → Type 0 = λ k. IsRefusedAt AreKindsOfProgram k h.number r.code in
      absurd (refused_no_tree tokens tree h.number r.code (subst P same h.refused) reads.is_tree within) in
      inr (r, by_reading short first_names none (by_tokens ts right cut h))
  short_text alloc text short (inr (r, by_contexts p reads f)) = reads_so alloc text first_names p short reads
  short_text alloc text short (inr (r, by_links p reads n f)) = reads_so alloc text first_names p short reads
  short_text alloc text short (inr (r, by_rules p reads n l f)) = reads_so alloc text first_names p short reads

-- a text is accepted, or it is refused
pub accepted_or_refused : AcceptedOrRefused
accepted_or_refused alloc size text = elim (cases_lt text_bytes (length text)) [
  | inl long ↦ inr (at_start 1, too_long long refl)
  | inr short ↦ short_text size alloc text short (reading.accepted_or_refused alloc text first_names)
]
