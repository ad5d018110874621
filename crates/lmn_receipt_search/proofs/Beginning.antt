-- What is asked of an accepted plain and of its solid before a trace is followed.
use Rattle.std.proofs.Common.{◌≡◌, ◌∙◌, ℕ, List, Ok, Err, sym, subst}
use Rattle.std.specs.Prelude.{IfErr, IfOk, MatchResult, Result}
use Rattle.lmn_base.specs.Names.{NamesPlain}
use Rattle.lmn_base.specs.WellMade.{IsWellMade}
use Rattle.lmn_base.specs.Refusals.{IfRefused}
use Rattle.lmn_base.specs.declared.refusal.TextFault.{TextFault}
use Rattle.lmn_base.specs.declared.refusal.TextFault.TheVariants as text
use Rattle.lmn_base.specs.declared.rule.Plain.{Plain}
use Rattle.lmn_base.specs.declared.solid.Solid.{Solid}
use Rattle.lmn_guards.specs.declared.plan.GuardPlan.{GuardPlan}
use Rattle.lmn_congruence.specs.Regions.{Region}
use Rattle.lmn_congruence.specs.Rules.{Name}
use Rattle.lmn_congruence.specs.SolidsOfPlains.{IsSolidOf}
use Rattle.lmn_congruence.specs.Translation.{region_of}
use Rattle.lmn_congruence.proofs.NumberedRules.{rule_has_number}
use Rattle.lmn_congruence.proofs.SolidsOfPlains.{solids_of_plains}
use Rattle.lmn_adequacy.specs.Accepted.{Accepted}
use Rattle.lmn_flatten_plain.proofs.SolidNumbers.{there}
use Rattle.lmn_solid_settle.proofs.PlainSolids.{solid_named}
use Rattle.lmn_app_runs.proofs.Tables.{solid_has_rules, solid_rules}
use Rattle.lmn_receipt_chain.specs.Chains.{IsChain, IsWrongTrace}
use Rattle.lmn_receipt_chain.specs.Faults.{IfTraceRefused}
use Rattle.lmn_receipt_chain.specs.declared.trace_fault.TraceFault.{TraceFault}
use Rattle.lmn_receipt_chain.specs.declared.trace_fault.TraceFault.TheVariants.{Refused, Failed, NoMemory}
use Rattle.lmn_receipt_chain.specs.Laws.{IsAcceptedSolid}
use Rattle.lmn_solid_next.specs.Searching.{CanSearch, IsSolidBy}

-- the solid of a plain has the plain's rules and names,
pub solid_fits : (names : List Name) (plain : Plain) → IsWellMade plain → NamesPlain names plain → (s : Solid) → IsSolidOf plain s → IsSolidBy names plain s
solid_fits names plain made named s is = record { solid = is.is_solid; each_rule = solid_has_rules plain s made is; named = solid_named names plain s named is }

-- and its rules are accepted;
pub solid_accepted : (names : List Name) (plain : Plain) (plans : List GuardPlan) → CanSearch names plain plans → (s : Solid) → IsSolidOf plain s → IsAcceptedSolid (region_of names plain.rules s)
solid_accepted names plain plans can s is = record {
  closed = (solids_of_plains names plain s can.made is).closed;
  accepted = solid_rules Accepted names plain can.made
      (λ k l. let t = there plain.rules k l in subst Accepted (sym (rule_has_number names plain k t.0 can.made t.1)) (can.allowed k t.0 t.1))
      s (solid_has_rules plain s can.made is);
}

-- and so it is for a search by equal names, rules and plans.
pub search_fits : (names ns : List Name) (plain p : Plain) (plans ps : List GuardPlan) (s : Solid) → ns ≡ names → p ≡ plain → ps ≡ plans →
    CanSearch names plain plans → IsSolidBy names plain s → CanSearch ns p ps × IsSolidBy ns p s
search_fits names ns plain p plans ps s e d f can is =
    subst (λ xs. CanSearch xs p ps × IsSolidBy xs p s) (sym e)
    (subst (λ q. CanSearch names q ps × IsSolidBy names q s) (sym d) (subst (λ xs. CanSearch names plain xs × IsSolidBy names plain s) (sym f) (can, is)))

-- By equal names and rules a solid is one region.
pub search_region : (names ns : List Name) (plain p : Plain) (s : Solid) → ns ≡ names → p ≡ plain → region_of ns p.rules s ≡ region_of names plain.rules s
search_region names ns plain p s e d = λ i. region_of (e i) (d i).rules s

-- What following a trace from the plain's solid on says of the trace beside the plain: where it is a chain,
pub followed : (names : List Name) (plain : Plain) (s : Solid) → IsSolidOf plain s → (S : Region) → S ≡ region_of names plain.rules s → (is_rest : List ℕ → Type 0) (result : Result ℕ TraceFault) →
    MatchResult result (λ n. (trace : List ℕ) × is_rest trace × IsChain S trace n) (λ fault. IfTraceRefused fault (λ refusal. (trace : List ℕ) × is_rest trace × IsWrongTrace S trace refusal)) →
    IfOk result (λ n. (trace : List ℕ) × (s : Solid) × is_rest trace × IsSolidOf plain s × IsChain (region_of names plain.rules s) trace n)
followed names plain s is S e is_rest (Ok n) h = (h.0, s, h.1, is, subst (λ R. IsChain R h.0 n) e h.2)
followed names plain s is S e is_rest (Err fault) h = tt

-- and where it is wrong
pub refused : (names : List Name) (plain : Plain) (s : Solid) → IsSolidOf plain s → (S : Region) → S ≡ region_of names plain.rules s → (is_rest : List ℕ → Type 0) (result : Result ℕ TraceFault) →
    MatchResult result (λ n. (trace : List ℕ) × is_rest trace × IsChain S trace n) (λ fault. IfTraceRefused fault (λ refusal. (trace : List ℕ) × is_rest trace × IsWrongTrace S trace refusal)) →
    IfErr result (λ fault. IfTraceRefused fault (λ refusal. (trace : List ℕ) × (s : Solid) × is_rest trace × IsSolidOf plain s × IsWrongTrace (region_of names plain.rules s) trace refusal))
refused names plain s is S e is_rest (Ok n) h = tt
refused names plain s is S e is_rest (Err (Refused refusal)) h = (h.0, s, h.1, is, subst (λ R. IsWrongTrace R h.0 refusal) e h.2)
refused names plain s is S e is_rest (Err Failed) h = tt
refused names plain s is S e is_rest (Err NoMemory) h = tt

-- ---- a trace that is at hand whole

-- it is the one that is left, so it is a chain,
pub followed_whole : (names : List Name) (plain : Plain) (trace left : List ℕ) → left ≡ trace → (n : ℕ) → (t : List ℕ) × (s : Solid) × (t ≡ left) × IsSolidOf plain s × IsChain (region_of names plain.rules s) t n →
    (s : Solid) × IsSolidOf plain s × IsChain (region_of names plain.rules s) trace n
followed_whole names plain trace left same n h = (h.1, h.3, subst (λ t. IsChain (region_of names plain.rules h.1) t n) (h.2 ∙ same) h.4)

-- or it is wrong
pub refused_whole : (names : List Name) (plain : Plain) (trace left : List ℕ) → left ≡ trace → (fault : TraceFault) (answer : TextFault) → IfRefused answer (λ refusal. fault ≡ Refused refusal) →
    IfTraceRefused fault (λ refusal. (t : List ℕ) × (s : Solid) × (t ≡ left) × IsSolidOf plain s × IsWrongTrace (region_of names plain.rules s) t refusal) →
    IfRefused answer (λ refusal. (s : Solid) × IsSolidOf plain s × IsWrongTrace (region_of names plain.rules s) trace refusal)
refused_whole names plain trace left same fault text.NoMemory is h = tt
refused_whole names plain trace left same fault (text.Refused refusal) is h =
    let k : (t : List ℕ) × (s : Solid) × (t ≡ left) × IsSolidOf plain s × IsWrongTrace (region_of names plain.rules s) t refusal =
    subst (λ f. IfTraceRefused f (λ r. (t : List ℕ) × (s : Solid) × (t ≡ left) × IsSolidOf plain s × IsWrongTrace (region_of names plain.rules s) t r)) is h in
    (k.1, k.3, subst (λ t. IsWrongTrace (region_of names plain.rules k.1) t refusal) (k.2 ∙ same) k.4)
