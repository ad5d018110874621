-- A solid to which a raw region is settled has its rules, and its atoms with other links.
use Rattle.std.proofs.Common.{ℕ, ◌≡◌, ◌<◌, All, List, [], ◌∷◌, ◌++◌, length, map, refl, sym, ap, subst, ◌∙◌}
use Rattle.std.specs.List.{flat_map}
use Rattle.lmn_base.specs.Names.{HasNames, label_names}
use Rattle.lmn_base.specs.Solids.{atoms_of_region, rules_step}
use Rattle.lmn_base.specs.declared.solid.Region.TheFolds.{fold-Region, fold-roll-Region}
use Rattle.lmn_base.specs.declared.solid.SolidAtom.{SolidAtom}
use Rattle.lmn_solid_settle.specs.Raw.{RawRegion, RawRegions, no_raw, raw, raw_and, raw_atoms, settled, settled_all, settled_atom}
use Rattle.lmn_solid_firing.specs.Laws.{SettledSolidsKeep}
use Rattle.lmn_solid_firing.specs.Spelled.{raw_rules, raw_rules_in}
use Rattle.lmn_solid_settle.proofs.SettledLinks.{atoms_settled}

mutual
  rules_settled : (v : ℕ → ℕ) (r : RawRegion) → fold-Region (List ℕ) rules_step (settled v r) ≡ raw_rules r
  rules_settled v (raw xs ms rs) = fold-roll-Region (List ℕ) rules_step (record { atoms = map (settled_atom v) xs; membranes = settled_all v ms; rules = rs }) ∙ ap (λ z. rs ++ z) (rules_settled_in v ms)

  rules_settled_in : (v : ℕ → ℕ) (ms : RawRegions) → flat_map (λ inner. inner) (map (fold-Region (List ℕ) rules_step) (settled_all v ms)) ≡ raw_rules_in ms
  rules_settled_in v no_raw = refl
  rules_settled_in v (raw_and m ms) = λ i. rules_settled v m i ++ rules_settled_in v ms i

names_settled : (v : ℕ → ℕ) (xs : List SolidAtom) → flat_map (λ (a : SolidAtom). label_names a.functor.label) (map (settled_atom v) xs) ≡ flat_map (λ (a : SolidAtom). label_names a.functor.label) xs
names_settled v [] = refl
names_settled v (x ∷ xs) = ap (λ z. label_names x.functor.label ++ z) (names_settled v xs)

pub settled_solids_keep : SettledSolidsKeep
settled_solids_keep R cs s is = (
  λ table all. subst (All (λ k. k < length table)) (sym (ap (fold-Region (List ℕ) rules_step) is.is ∙ rules_settled is.to R)) all,
  λ names all. subst (HasNames names) (sym (ap (λ z. flat_map (λ (a : SolidAtom). label_names a.functor.label) (atoms_of_region z)) is.is ∙ ap (flat_map (λ (a : SolidAtom). label_names a.functor.label)) (atoms_settled is.to R) ∙ names_settled is.to (raw_atoms R))) all,
)
