-- The processes of regions with other links, and that a process is that of one region at most.
use Rattle.std.proofs.Common.{◌≡◌, ℕ, List, [], ◌∷◌, map, refl, sym, ap, ◌∙◌}
use Rattle.lmn_congruence.specs.Process.{Process, nothing, atom, pair, membrane, rule, renamed, IsCopy, together}
use Rattle.lmn_congruence.specs.Regions.{SolidAtom, Region, region, Regions, no_region, region_and, atom_process, region_process, regions_processes}
use Rattle.lmn_congruence.specs.Rules.{Label, Rule}
use Rattle.lmn_congruence.specs.Same.{IsRenamed, renamed_atom, renamed_region, renamed_regions}

-- ---- the process of a renamed region

atoms_renamed : (f : ℕ → ℕ) (ks : List SolidAtom) → together (map atom_process (map (renamed_atom f) ks)) ≡ renamed f (together (map atom_process ks))
atoms_renamed f [] = refl
atoms_renamed f (a ∷ ks) = ap (pair (atom a.label (map f a.links))) (atoms_renamed f ks)

rules_renamed : (f : ℕ → ℕ) (rs : List Rule) → together (map rule rs) ≡ renamed f (together (map rule rs))
rules_renamed f [] = refl
rules_renamed f (r ∷ rs) = ap (pair (rule r)) (rules_renamed f rs)

-- the process of a region with other links
mutual
  pub region_renamed : (f : ℕ → ℕ) (S : Region) → region_process (renamed_region f S) ≡ renamed f (region_process S)
  region_renamed f (region atoms membranes rules) = cc (atoms_renamed f atoms, regions_renamed f membranes, rules_renamed f rules)

  regions_renamed : (f : ℕ → ℕ) (rs : Regions) → together (regions_processes (renamed_regions f rs)) ≡ renamed f (together (regions_processes rs))
  regions_renamed f no_region = refl
  regions_renamed f (region_and r rs) = cc (region_renamed f r, regions_renamed f rs)

-- ---- one region

first_of : (P Q R S : Process) → pair P Q ≡ pair R S → P ≡ R
first_of P Q R S e = cc

second_of : (P Q R S : Process) → pair P Q ≡ pair R S → Q ≡ S
second_of P Q R S e = cc

no_pair : (P Q : Process) → nothing ≡ pair P Q → ⊥
no_pair P Q e = cc

label_of : (l m : Label) (xs ys : List ℕ) → atom l xs ≡ atom m ys → l ≡ m
label_of l m xs ys e = cc

links_of : (l m : Label) (xs ys : List ℕ) → atom l xs ≡ atom m ys → xs ≡ ys
links_of l m xs ys e = cc

inside_of : (P Q : Process) → membrane P ≡ membrane Q → P ≡ Q
inside_of P Q e = cc

rule_in : (r s : Rule) → rule r ≡ rule s → r ≡ s
rule_in r s e = cc

atoms_with : (l m : Label) (vs ws : List ℕ) (xs ys : List SolidAtom) → l ≡ m → vs ≡ ws → xs ≡ ys
    → ◌≡◌ {A = List SolidAtom} (record { label = l; links = vs } ∷ xs) (record { label = m; links = ws } ∷ ys)
atoms_with l m vs ws xs ys d e f = cc

rules_with : (r s : Rule) (rs ss : List Rule) → r ≡ s → rs ≡ ss → r ∷ rs ≡ s ∷ ss
rules_with r s rs ss d e = cc

atoms_same : (xs ys : List SolidAtom) → together (map atom_process xs) ≡ together (map atom_process ys) → xs ≡ ys
atoms_same [] [] e = refl
atoms_same [] (y ∷ ys) e = absurd (no_pair _ _ e)
atoms_same (x ∷ xs) [] e = absurd (no_pair _ _ (sym e))
atoms_same (x ∷ xs) (y ∷ ys) e =
    let one = first_of _ _ _ _ e in
    atoms_with x.label y.label x.links y.links xs ys (label_of _ _ _ _ one) (links_of _ _ _ _ one) (atoms_same xs ys (second_of _ _ _ _ e))

rules_same : (rs ss : List Rule) → together (map rule rs) ≡ together (map rule ss) → rs ≡ ss
rules_same [] [] e = refl
rules_same [] (s ∷ ss) e = absurd (no_pair _ _ e)
rules_same (r ∷ rs) [] e = absurd (no_pair _ _ (sym e))
rules_same (r ∷ rs) (s ∷ ss) e = rules_with r s rs ss (rule_in r s (first_of _ _ _ _ e)) (rules_same rs ss (second_of _ _ _ _ e))

-- regions of the same parts are the same
pub region_with : {xs ys : List SolidAtom} {ms ns : Regions} {rs ss : List Rule} → xs ≡ ys → ms ≡ ns → rs ≡ ss → region xs ms rs ≡ region ys ns ss
region_with a b c = λ i. region (a i) (b i) (c i)

-- and so are lists of regions
pub regions_with : {m n : Region} {ms ns : Regions} → m ≡ n → ms ≡ ns → region_and m ms ≡ region_and n ns
regions_with a b = λ i. region_and (a i) (b i)

-- a process is that of one region at most
mutual
  pub one_region : (S T : Region) → region_process S ≡ region_process T → S ≡ T
  one_region (region xs ms rs) (region ys ns ss) e =
      let inside = second_of _ _ _ _ e in
      region_with (atoms_same xs ys (first_of _ _ _ _ e)) (regions_same ms ns (first_of _ _ _ _ inside)) (rules_same rs ss (second_of _ _ _ _ inside))

  regions_same : (ms ns : Regions) → together (regions_processes ms) ≡ together (regions_processes ns) → ms ≡ ns
  regions_same no_region no_region e = refl
  regions_same no_region (region_and n ns) e = absurd (no_pair _ _ e)
  regions_same (region_and m ms) no_region e = absurd (no_pair _ _ (sym e))
  regions_same (region_and m ms) (region_and n ns) e =
      regions_with (one_region m n (inside_of _ _ (first_of _ _ _ _ e))) (regions_same ms ns (second_of _ _ _ _ e))

-- where the process of one region is a copy of that of another one, the region is the other one with other links
pub region_of_copy : (S T : Region) → IsCopy (region_process S) (region_process T) → IsRenamed S T
region_of_copy S T c = record { to = c.to; one_to_one = c.one_to_one; is = one_region T (renamed_region c.to S) (c.is ∙ sym (region_renamed c.to S)) }
