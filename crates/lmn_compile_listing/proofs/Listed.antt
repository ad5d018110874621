-- One listing after the other.
use Rattle.std.proofs.Common.{ℕ, zero, suc, ◌≡◌, ◌<◌, ◌+◌, List, [], ◌∷◌, ◌++◌, length, take, Option, Some, refl, sym, ap, subst, ◌∙◌, append_assoc, append-nil, arith}
use Rattle.std.specs.Prelude.{slice_get, All, Result, Ok, Err}
use Rattle.std.specs.Result.{IsErrAnd}
use Rattle.std.specs.List.{flat_map, AllByRecursion}
use Rattle.std.proofs.lemmas.List.Elements.{All-from_recursion, recursion_from_All}
use Rattle.std.proofs.lemmas.Option.{same_Some}
use Rattle.lmn_base.specs.declared.rule.Plain.{Plain}
use Rattle.lmn_base.specs.declared.rule.RuleTree.{RuleTree}
use Rattle.lmn_base.specs.Names.{HasNames, level_names, rule_names, plain_names}
use Rattle.lmn_guards.specs.declared.plan.GuardPlan.{GuardPlan}
use Rattle.lmn_instr_code.specs.declared.instr.Code.{Code}
use Rattle.lmn_instr_code.specs.declared.instr.Instr.{Instr}
use Rattle.lmn_instr_code.specs.Listings.{code_listing, HasCode, HasInstr}
use Rattle.lmn_io.specs.Counts.{Faults}
use Rattle.lmn_io.specs.Writing.{WritesText}
use Rattle.lmn_io.proofs.WritingLemmas.{writes_both, writes_front}
use Rattle.lmn_compile_rules.specs.Compiled.{AreCompiled, IsCompiled}
use Rattle.lmn_compile_listing.specs.Listings.{rule_codes, code_listings, CodesHaveNames}
use Rattle.lmn_base.proofs.Lists.{all_left as all_front, all_right as all_back}

-- ---- the codes that are compiled

each_code : (table : List RuleTree) (plans : List GuardPlan) (codes : List Code) → length plans ≡ length table → length codes ≡ length table →
    ((k : ℕ) (r : RuleTree) (plan : GuardPlan) (code : Code) → slice_get table k ≡ Some r → slice_get plans k ≡ Some plan → slice_get codes k ≡ Some code → IsCompiled r plan code) →
    codes ≡ rule_codes table plans
each_code [] plans [] m n each = refl
each_code [] plans (c ∷ cs) m n each = absurd (omega (arith, n))
each_code (r ∷ rs) [] cs m n each = absurd (omega (arith, m))
each_code (r ∷ rs) (p ∷ ps) [] m n each = absurd (omega (arith, n))
each_code (r ∷ rs) (p ∷ ps) (c ∷ cs) m n each =
    let is = each 0 r p c refl refl refl in
    let rest = each_code rs ps cs (omega (arith, m)) (omega (arith, n)) (λ k. each (suc k)) in
    λ i. record { head = is.head i; body = is.body i } ∷ rest i

-- codes that are compiled are those of the rules
pub codes_are : (table : List RuleTree) (plans : List GuardPlan) (codes : List Code) → length plans ≡ length table → AreCompiled table plans codes → codes ≡ rule_codes table plans
codes_are table plans codes many are = each_code table plans codes many are.many are.each

table_held : (names : List (List ℕ)) → CodesHaveNames → (table : List RuleTree) (plans : List GuardPlan) →
    AllByRecursion (λ n. n < length names) (flat_map rule_names table) → AllByRecursion (HasCode names) (rule_codes table plans)
table_held names law [] plans h = tt
table_held names law (r ∷ rs) [] h = tt
table_held names law (r ∷ rs) (p ∷ ps) h =
    let P : ℕ → Type 0 = λ n. n < length names in (
      law names r p (All-from_recursion P (rule_names r) (all_front P (rule_names r) (flat_map rule_names rs) h)),
      table_held names law rs ps (all_back P (rule_names r) (flat_map rule_names rs) h),
    )

-- a list that has the names of a plain has those of the codes of its rules
pub codes_held : (names : List (List ℕ)) (p : Plain) (plans : List GuardPlan) → CodesHaveNames → HasNames names (plain_names p) → All (HasCode names) (rule_codes p.rules plans)
codes_held names p plans law known =
    let P : ℕ → Type 0 = λ n. n < length names in
    All-from_recursion (HasCode names) (rule_codes p.rules plans)
    (table_held names law p.rules plans (all_back P (level_names p.top) (flat_map rule_names p.rules) (recursion_from_All P (plain_names p) known)))

-- what a list of instructions names is had of each
pub has_at : (names : List (List ℕ)) (is : List Instr) (k : ℕ) (x : Instr) → slice_get is k ≡ Some x → AllByRecursion (HasInstr names) is → HasInstr names x
has_at names [] k x e h = absurd (cc)
has_at names (i ∷ is) zero x e h = subst (HasInstr names) (same_Some i x e) h.0
has_at names (i ∷ is) (suc k) x e h = has_at names is k x e h.1

-- ---- what is written

module _ (names : List (List ℕ)) where
  -- the next listing follows those of the codes before it
  next_from : (codes : List Code) (j k n : ℕ) (code : Code) → n ≡ j + k → slice_get codes k ≡ Some code →
      code_listings names j (take (suc k) codes) ≡ code_listings names j (take k codes) ++ code_listing names code n
  next_from [] j k n code m e = absurd (cc)
  next_from (x ∷ xs) j zero n code m e =
      let same : x ≡ code = same_Some x code e in
      let at : j ≡ n = omega (arith, m) in
      append-nil (code_listing names x j) ∙ (λ i. code_listing names (same i) (at i))
  next_from (x ∷ xs) j (suc k) n code m e =
      ap (λ t. code_listing names x j ++ t) (next_from xs (j + 1) k n code (omega (arith, m)) e)
      ∙ sym (append_assoc (code_listing names x j) (code_listings names (j + 1) (take k xs)) (code_listing names code n))

  front_from : (codes : List Code) (j k : ℕ) → (rest : List ℕ) × (code_listings names j codes ≡ code_listings names j (take k codes) ++ rest)
  front_from codes j zero = (code_listings names j codes, refl)
  front_from [] j (suc k) = ([], refl)
  front_from (x ∷ xs) j (suc k) =
      let r = front_from xs (j + 1) k in
      (r.0, ap (λ t. code_listing names x j ++ t) r.1 ∙ sym (append_assoc (code_listing names x j) (code_listings names (j + 1) (take k xs)) r.0))

  abbrev pub so_far : List Code → ℕ → List ℕ
  so_far codes k = code_listings names 0 (take k codes)

  next_is : (codes : List Code) (k : ℕ) (code : Code) → slice_get codes k ≡ Some code → so_far codes (k + 1) ≡ so_far codes k ++ code_listing names code k
  next_is codes k code e =
      subst (λ n. so_far codes n ≡ so_far codes k ++ code_listing names code k) (let s : suc k ≡ k + 1 = omega arith in s) (next_from codes 0 k k code (let z : k ≡ 0 + k = omega arith in z) e)

  -- the code at a place, as a list has it
  module _ (codes : List Code) (k : ℕ) (code : Code) (at : slice_get codes k ≡ Some code) where
    -- one listing more is written, or a part of it
    pub next_written : {A B D E : Type 0} (x : A) (r : Result B E) (old mid new : Option (List ℕ)) (f g n : Faults) →
        WritesText {A = A} {E = D} (so_far codes k) (Ok x) old f mid g → WritesText (code_listing names code k) r mid g new n → WritesText (so_far codes (k + 1)) r old f new n
    next_written x r old mid new f g n =
        writes_both (λ text. text ≡ so_far codes k) (λ text. text ≡ code_listing names code k) (λ text. text ≡ so_far codes (k + 1)) x r old mid new f g n
        (λ text is. (so_far codes k, code_listing names code k, refl, refl, is ∙ next_is codes k code at))

    -- a part of one listing more is a part of all
    pub part_written : {A B D E : Type 0} (S : E → Type 0) (x : A) (d : D) (r : Result B E) (old mid new : Option (List ℕ)) (f g n : Faults) → IsErrAnd r S →
        WritesText {A = A} {E = D} (so_far codes k) (Ok x) old f mid g → WritesText {A = B} {E = D} (code_listing names code k) (Err d) mid g new n → WritesText (code_listings names 0 codes) r old f new n
    part_written S x d r old mid new f g n failed first later =
        let rest = front_from codes 0 (k + 1) in
        writes_front (λ text. text ≡ so_far codes (k + 1)) (λ text. text ≡ code_listings names 0 codes) S d r old new f n failed
        (λ text is. (so_far codes (k + 1), rest.0, refl, is ∙ rest.1)) (next_written x (Err d) old mid new f g n first later)
