-- What is written of compiled rules is a listing that is read as their codes.
use Rattle.std.proofs.Common.{◌≡◌, ◌<◌, ◌+◌, ℕ, zero, suc, List, [], ◌∷◌, ◌++◌, length, refl, sym, ap, ◌∙◌, subst, arith}
use Rattle.std.specs.Prelude.{Some, slice_get, All}
use Rattle.std.specs.List.{AllByRecursion, flat_map}
use Rattle.std.proofs.lemmas.List.Elements.{recursion_from_All, All-weaker}
use Rattle.std.proofs.lemmas.Option.{same_Some}
use Rattle.lmn_base.proofs.Lists.{all_of_right, all_of_parts}
use Rattle.lmn_base.specs.Levels.{rules_of}
use Rattle.lmn_base.specs.Names.{HasNames, rule_names, level_names}
use Rattle.lmn_base.specs.declared.rule.Plain.{Plain}
use Rattle.lmn_base.specs.declared.rule.RuleTree.{RuleTree}
use Rattle.lmn_guards.specs.declared.plan.GuardPlan.{GuardPlan}
use Rattle.lmn_instr_code.specs.declared.instr.Code.{Code}
use Rattle.lmn_instr_code.specs.Listings.{code_listing, HasCode}
use Rattle.lmn_compile_listing.specs.Listings.{rule_code, rule_codes, code_listings, rule_listings, CodesHaveNames}
use Rattle.lmn_schedule_strategy.specs.Turns.{IsTableCode}
use Rattle.lmn_verify_listing.specs.Listings.{AreListed, listings_from}
use Rattle.lmn_verify_code.specs.Verified.{IsVerified}
use Rattle.lmn_verify_compiled.specs.AcceptedCodes.{TablesAreVerified}
use Rattle.lmn_verify_compiled.specs.CompiledListings.{CanBeListed, CompiledAreListed, CompiledAreRead, CompiledIsNotRefused}
use Rattle.lmn_verify_compiled.specs.ListedTables.{TablesAreListed}
use Rattle.lmn_verify_compiled.specs.OneReading.{ListedCodesAreRead, VerifiedIsNotRefused}

-- one way to list codes is the other
same_listings : (names : List (List ℕ)) (k : ℕ) (codes : List Code) → listings_from names k codes ≡ code_listings names k codes
same_listings names k [] = refl
same_listings names k (c ∷ cs) = ap (λ t. code_listing names c k ++ t) (same_listings names (k + 1) cs)

codes_many : (table : List RuleTree) (plans : List GuardPlan) → length plans ≡ length table → length (rule_codes table plans) ≡ length table
codes_many [] plans e = refl
codes_many (r ∷ rs) [] e = absurd (omega (arith, e))
codes_many (r ∷ rs) (plan ∷ plans) e = ap suc (codes_many rs plans (omega (arith, e)))

code_at : (table : List RuleTree) (plans : List GuardPlan) (k : ℕ) (r : RuleTree) (plan : GuardPlan) (code : Code) → slice_get table k ≡ Some r → slice_get plans k ≡ Some plan → slice_get (rule_codes table plans) k ≡ Some code → code ≡ rule_code r plan
code_at [] plans k r plan code e f g = absurd (cc)
code_at (s ∷ rs) [] k r plan code e f g = absurd (cc)
code_at (s ∷ rs) (q ∷ plans) zero r plan code e f g =
    let rule = same_Some s r e in
    let its = same_Some q plan f in
    sym (same_Some (rule_code s q) code g) ∙ (λ i. rule_code (rule i) (its i))
code_at (s ∷ rs) (q ∷ plans) (suc k) r plan code e f g = code_at rs plans k r plan code e f g

codes_named : CodesHaveNames → (names : List (List ℕ)) (table : List RuleTree) (plans : List GuardPlan) → AllByRecursion (λ r. HasNames names (rule_names r)) table → AllByRecursion (HasCode names) (rule_codes table plans)
codes_named have names [] plans h = tt
codes_named have names (r ∷ rs) [] h = tt
codes_named have names (r ∷ rs) (plan ∷ plans) h = (have names r plan h.0, codes_named have names rs plans h.1)

module _ (names : List (List ℕ)) (p : Plain) (plans : List GuardPlan) (can : CanBeListed names p plans) where
  many : length (rule_codes p.rules plans) ≡ length p.rules
  many = codes_many p.rules plans can.whole.many

  table_code : IsTableCode (rule_codes p.rules plans)
  table_code = record {
    table = p.rules;
    plans = plans;
    whole = can.whole;
    compiled = record {
      many = many;
      each = λ k r plan code e f g. let same = code_at p.rules plans k r plan code e f g in record { head = ap (λ (c : Code). c.head) same; body = ap (λ (c : Code). c.body) same };
    };
    inner = λ k r e. all_below k r (all_of_right (λ j. (k < j) × (j < length p.rules)) (rules_of r.head) (rules_of r.body) (can.made.rules_in_rules k r e));
  }
    where
      all_below : (k : ℕ) (r : RuleTree) → All (λ j. (k < j) × (j < length p.rules)) (rules_of r.body) → All (λ j. j < length p.rules) (rules_of r.body)
      all_below k r h = All-weaker (λ j. (k < j) × (j < length p.rules)) (λ j. j < length p.rules) (λ j w. w.1) (rules_of r.body) h

  their_names : AllByRecursion (λ r. HasNames names (rule_names r)) p.rules
  their_names = recursion_from_All (λ r. HasNames names (rule_names r)) p.rules
      (all_of_parts (λ n. n < length names) rule_names p.rules (all_of_right (λ n. n < length names) (level_names p.top) (flat_map rule_names p.rules) can.named))

  listed : CodesHaveNames → TablesAreListed → AreListed (length p.rules) names (rule_codes p.rules plans) (rule_listings names p.rules plans)
  listed have tables =
      let few = can.few in
      let at = tables names (rule_codes p.rules plans) table_code (omega (arith, few, many)) can.kept (codes_named have names p.rules plans their_names) can.short in
      subst (λ n. AreListed n names (rule_codes p.rules plans) (rule_listings names p.rules plans)) many
      (subst (AreListed (length (rule_codes p.rules plans)) names (rule_codes p.rules plans)) (same_listings names 0 (rule_codes p.rules plans)) at)

  verified : TablesAreVerified → AllByRecursion (λ c. IsVerified c (length p.rules)) (rule_codes p.rules plans)
  verified all = subst (λ n. AllByRecursion (λ c. IsVerified c n) (rule_codes p.rules plans)) many (all (rule_codes p.rules plans) table_code)

pub compiled_are_listed : CodesHaveNames → TablesAreListed → CompiledAreListed
compiled_are_listed have tables names p plans can = listed names p plans can have tables

pub compiled_are_read : CodesHaveNames → TablesAreListed → ListedCodesAreRead → CompiledAreRead
compiled_are_read have tables read names p plans k later codes can once puts h =
    read (length p.rules) k names later (rule_codes p.rules plans) codes (rule_listings names p.rules plans) can.few once puts (listed names p plans can have tables) h

pub compiled_is_not_refused : CodesHaveNames → TablesAreListed → TablesAreVerified → VerifiedIsNotRefused → CompiledIsNotRefused
compiled_is_not_refused have tables all refused names p plans k later code line can once puts h =
    refused (length p.rules) k names later (rule_codes p.rules plans) (rule_listings names p.rules plans) code line can.few once puts (listed names p plans can have tables) (verified names p plans can all) h
