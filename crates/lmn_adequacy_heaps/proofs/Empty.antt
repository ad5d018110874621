-- What a membrane without a context leaves: nothing.
use Rattle.std.proofs.Common.{ℕ, ◌≡◌, ◌+◌, ◌⊎◌, List, [], ◌∷◌, map, length, refl, sym, ap, subst, ◌∙◌, arith}
use Rattle.lmn_congruence.specs.Process.{Closed, Process, nothing, occurrences, connector, atom, pair, membrane, rule, together}
use Rattle.lmn_congruence.specs.Regions.{SolidAtom, Regions, region, no_region, region_and, region_process, regions_processes, atom_process}
use Rattle.lmn_congruence.specs.Rules.{Context, closed_context, Level, Name, Rule, no_rule, rules_list, level}
use Rattle.lmn_congruence.specs.UpToOrder.{Reordered, r_unit, r_swap, r_regroup, r_beside, r_inside, r_same, r_back, r_chain}
use Rattle.lmn_reduction.specs.Assignments.{Assignment, NoRuleAtTop}
use Rattle.lmn_reduction.specs.Instances.{rules_of_contexts}
use Rattle.lmn_adequacy.specs.Accepted.{own_contexts, own_rule_contexts, own_rules}
use Rattle.lmn_adequacy.specs.Loose.{Plain}
use Rattle.lmn_adequacy.proofs.Images.{no_link_rule_contexts}
use Rattle.lmn_congruence.proofs.Reordered.{reordered_count}
use Rattle.lmn_congruence.proofs.TranslatedLinks.{no_link_in_rules}
use Rattle.lmn_adequacy_heaps.proofs.Lying.{fills}
use Rattle.std.proofs.lemmas.List.{nil_from_length}

-- how many atoms and membranes, and how many rules, stand outside membranes
abbrev things : Process → ℕ
things nothing = 0
things (connector x y) = 0
things (atom a xs) = 1
things (pair P Q) = things P + things Q
things (membrane P) = 1
things (rule r) = 0

abbrev rules_there : Process → ℕ
rules_there nothing = 0
rules_there (connector x y) = 0
rules_there (atom a xs) = 0
rules_there (pair P Q) = rules_there P + rules_there Q
rules_there (membrane P) = 0
rules_there (rule r) = 1

same_things : {P Q : Process} → Reordered P Q → things P ≡ things Q
same_things r_unit = omega arith
same_things r_swap = omega arith
same_things r_regroup = omega arith
same_things (r_beside d) = omega (arith, same_things d)
same_things (r_inside d) = refl
same_things (r_same e) = ap things e
same_things (r_back d) = sym (same_things d)
same_things (r_chain d e) = same_things d ∙ same_things e

same_rules : {P Q : Process} → Reordered P Q → rules_there P ≡ rules_there Q
same_rules r_unit = omega arith
same_rules r_swap = omega arith
same_rules r_regroup = omega arith
same_rules (r_beside d) = omega (arith, same_rules d)
same_rules (r_inside d) = refl
same_rules (r_same e) = ap rules_there e
same_rules (r_back d) = sym (same_rules d)
same_rules (r_chain d e) = same_rules d ∙ same_rules e

rules_no_thing : (rs : List Rule) → things (together (map rule rs)) ≡ 0
rules_no_thing [] = refl
rules_no_thing (r ∷ rs) = omega (arith, rules_no_thing rs)

contexts_no_thing : (t : Assignment) (qs : List Name) → things (together (rules_of_contexts t qs)) ≡ 0
contexts_no_thing t [] = refl
contexts_no_thing t (q ∷ qs) = omega (arith, rules_no_thing (t.rules_of q), contexts_no_thing t qs)

rules_counted : (rs : List Rule) → rules_there (together (map rule rs)) ≡ length rs
rules_counted [] = refl
rules_counted (r ∷ rs) = omega (arith, rules_counted rs)

atoms_no_rule : (xs : List SolidAtom) → rules_there (together (map atom_process xs)) ≡ 0
atoms_no_rule [] = refl
atoms_no_rule (x ∷ xs) = omega (arith, atoms_no_rule xs)

membranes_no_rule : (ms : Regions) → rules_there (together (regions_processes ms)) ≡ 0
membranes_no_rule no_region = refl
membranes_no_rule (region_and m ms) = omega (arith, membranes_no_rule ms)

atoms_counted : (xs : List SolidAtom) → things (together (map atom_process xs)) ≡ length xs
atoms_counted [] = refl
atoms_counted (x ∷ xs) = omega (arith, atoms_counted xs)

no_rule_there : (P : Process) → NoRuleAtTop P → rules_there P ≡ 0
no_rule_there nothing n = refl
no_rule_there (connector x y) n = refl
no_rule_there (atom a xs) n = refl
no_rule_there (pair P Q) n = omega (arith, no_rule_there P n.0, no_rule_there Q n.1)
no_rule_there (membrane P) n = refl
no_rule_there (rule r) n = absurd n

contexts_no_rule : (t : Assignment) → Plain t → (ps : List Context) → rules_there (together (map t.context_of ps)) ≡ 0
contexts_no_rule t p [] = refl
contexts_no_rule t p (x ∷ ps) = omega (arith, no_rule_there (t.context_of x) (p.no_rule x), contexts_no_rule t p ps)

-- a level with no untyped context leaves nothing
pub nothing_left : (t : Assignment) (l : Level) (xs : List SolidAtom) (ms : Regions) (rs : List Rule) → Reordered (fills t l) (region_process (region xs ms rs)) → own_contexts l ≡ [] → own_rules l ≡ no_rule →
    (xs ≡ []) × (ms ≡ no_region)
nothing_left t (level leaves membranes cs qs rules) xs ms rs d c n =
    let e = same_things d in
    let s : things (together (map t.context_of cs)) ≡ 0 = ap (λ z. things (together (map t.context_of z))) c in
    let y : things (together (map rule (rules_list rules))) ≡ 0 = ap (λ z. things (together (map rule (rules_list z)))) n in
    let u = contexts_no_thing t qs in
    let w = rules_no_thing rs in
    let a = atoms_counted xs in
    (nil_from_length xs (omega (arith, e, s, y, u, w, a)), by ms (omega (arith, e, s, y, u, w, a)))
  where
    by : (ms : Regions) → things (together (regions_processes ms)) ≡ 0 → ms ≡ no_region
    by no_region e = refl
    by (region_and m ms) e = absurd (omega (arith, e))

-- a level with no rule context leaves no rule
pub no_rule_left : (t : Assignment) → Plain t → (l : Level) (xs : List SolidAtom) (ms : Regions) (rs : List Rule) → Reordered (fills t l) (region_process (region xs ms rs)) → own_rule_contexts l ≡ [] → own_rules l ≡ no_rule → rs ≡ []
no_rule_left t p (level leaves membranes cs qs rules) xs ms rs d c n =
    let e = same_rules d in
    let s : rules_there (together (rules_of_contexts t qs)) ≡ 0 = ap (λ z. rules_there (together (rules_of_contexts t z))) c in
    let y : rules_there (together (map rule (rules_list rules))) ≡ 0 = ap (λ z. rules_there (together (map rule (rules_list z)))) n in
    let u = contexts_no_rule t p cs in
    let w = rules_counted rs in
    let a = atoms_no_rule xs in
    let b = membranes_no_rule ms in
    nil_from_length rs (omega (arith, e, s, y, u, w, a, b))

-- what a level with a closed context alone leaves is closed
pub closed_left : (t : Assignment) → Plain t → (l : Level) (xs : List SolidAtom) (ms : Regions) (rs : List Rule) → Reordered (fills t l) (region_process (region xs ms rs)) → (p : Name) → own_contexts l ≡ closed_context p ∷ [] →
    Closed (region_process (region xs ms []))
closed_left t plain (level leaves membranes cs qs rules) xs ms rs d p c z =
    let s : occurrences z (together (map t.context_of cs)) ≡ occurrences z (t.context_of (closed_context p)) + 0 = ap (λ k. occurrences z (together (map t.context_of k))) c in
    subst (λ k. (k ≡ 0) ⊎ (k ≡ 2)) (omega (arith, reordered_count d z, s, no_link_rule_contexts t z qs, no_link_in_rules z (rules_list rules), no_link_in_rules z rs)) (plain.closed p z)
