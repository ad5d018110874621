-- Images of links.
use Rattle.std.proofs.Common.{ℕ, List, map, refl, sym, ap, arith, ◌≡◌, ◌≢◌, ◌≤◌, ◌⊎◌, [], ◌∷◌, ◌∙◌}
use Rattle.lmn_congruence.specs.Fused.{Joins, NoConnector, fused}
use Rattle.lmn_congruence.specs.Links.{places}
use Rattle.lmn_congruence.specs.Process.{Process, atom, connector, membrane, nothing, occurrences, pair, renamed, rule, together}
use Rattle.lmn_congruence.specs.Rules.{Name}
use Rattle.lmn_congruence.specs.UpToOrder.{Reordered, r_back, r_beside, r_chain, r_inside, r_regroup, r_same, r_swap, r_unit}
use Rattle.lmn_reduction.specs.Assignments.{Assignment}
use Rattle.lmn_reduction.specs.Instances.{rules_of_contexts}
use Rattle.lmn_reduction.specs.Parts.{OnlyAtoms}
use Rattle.lmn_congruence.proofs.Counts.{one_least}
use Rattle.lmn_reduction.proofs.Merges.{row}
use Rattle.lmn_congruence.proofs.TranslatedLinks.{no_link_in_rules as no_link_rules}
use Rattle.lmn_base.proofs.Lists.{map_twice}

-- a link has at most as many places as its image after a renaming
pub places_least : (f : ℕ → ℕ) (x : ℕ) (ys : List ℕ) → places x ys ≤ places (f x) (map f ys)
places_least f x [] = omega arith
places_least f x (y ∷ ys) = omega (arith, one_least f x y, places_least f x ys)

-- the image of a link occurs at least as often as the link
pub image_at_least : (f : ℕ → ℕ) (x : ℕ) (P : Process) → occurrences x P ≤ occurrences (f x) (renamed f P)
image_at_least f x nothing = omega arith
image_at_least f x (connector y z) = omega (arith, one_least f x y, one_least f x z)
image_at_least f x (atom a ys) = places_least f x ys
image_at_least f x (pair P Q) = omega (arith, image_at_least f x P, image_at_least f x Q)
image_at_least f x (membrane P) = image_at_least f x P
image_at_least f x (rule r) = omega arith

-- ---- one renaming after another

-- renamed twice is renamed by both maps
pub renamed_renamed : (f g : ℕ → ℕ) (P : Process) → renamed f (renamed g P) ≡ renamed (λ x. f (g x)) P
renamed_renamed f g nothing = refl
renamed_renamed f g (connector x y) = refl
renamed_renamed f g (atom a xs) = ap (atom a) (map_twice f g xs)
renamed_renamed f g (pair P Q) = cc (renamed_renamed f g P, renamed_renamed f g Q)
renamed_renamed f g (membrane P) = cc (renamed_renamed f g P)
renamed_renamed f g (rule r) = refl

-- to rename and then to fuse is to fuse by both maps
pub fused_renamed : (v f : ℕ → ℕ) (P : Process) → fused v (renamed f P) ≡ fused (λ x. v (f x)) P
fused_renamed v f nothing = refl
fused_renamed v f (connector x y) = refl
fused_renamed v f (atom a xs) = ap (atom a) (map_twice v f xs)
fused_renamed v f (pair P Q) = cc (fused_renamed v f P, fused_renamed v f Q)
fused_renamed v f (membrane P) = cc (fused_renamed v f P)
fused_renamed v f (rule r) = refl

-- renaming brings in no connector
pub no_connector_renamed : (f : ℕ → ℕ) (P : Process) → NoConnector P → NoConnector (renamed f P)
no_connector_renamed f nothing n = tt
no_connector_renamed f (connector x y) n = n
no_connector_renamed f (atom a xs) n = tt
no_connector_renamed f (pair P Q) n = (no_connector_renamed f P n.0, no_connector_renamed f Q n.1)
no_connector_renamed f (membrane P) n = no_connector_renamed f P n
no_connector_renamed f (rule r) n = tt

-- a map joins the connectors of a renamed process where it joined them before
pub joins_renamed : (v w f : ℕ → ℕ) → ((x : ℕ) → w (f x) ≡ v x) → (P : Process) → Joins v P → Joins w (renamed f P)
joins_renamed v w f e nothing j = tt
joins_renamed v w f e (connector x y) j = e x ∙ j ∙ sym (e y)
joins_renamed v w f e (atom a xs) j = tt
joins_renamed v w f e (pair P Q) j = (joins_renamed v w f e P j.0, joins_renamed v w f e Q j.1)
joins_renamed v w f e (membrane P) j = joins_renamed v w f e P j
joins_renamed v w f e (rule r) j = tt

-- what is reordered is so when it is fused
pub reordered_fused : (v : ℕ → ℕ) {P Q : Process} → Reordered P Q → Reordered (fused v P) (fused v Q)
reordered_fused v r_unit = r_unit
reordered_fused v r_swap = r_swap
reordered_fused v r_regroup = r_regroup
reordered_fused v (r_beside d) = r_beside (reordered_fused v d)
reordered_fused v (r_inside d) = r_inside (reordered_fused v d)
reordered_fused v (r_same e) = r_same (ap (fused v) e)
reordered_fused v (r_back d) = r_back (reordered_fused v d)
reordered_fused v (r_chain d e) = r_chain (reordered_fused v d) (reordered_fused v e)

-- ---- links that aren't there

-- what rule contexts stand for has no links
pub no_link_rule_contexts : (t : Assignment) (z : ℕ) (qs : List Name) → occurrences z (together (rules_of_contexts t qs)) ≡ 0
no_link_rule_contexts t z [] = refl
no_link_rule_contexts t z (q ∷ qs) = omega (arith, no_link_rules z (t.rules_of q), no_link_rule_contexts t z qs)

-- what is at least one is not zero
pub positive : (n : ℕ) → 1 ≤ n → n ≢ 0
positive n b = grind arith

-- what is one is neither zero nor two
pub not_one : (n : ℕ) → n ≡ 1 → ¬ ((n ≡ 0) ⊎ (n ≡ 2))
not_one n e s = grind arith

-- ---- processes of atoms

-- atoms alone have no connector
pub atoms_plain : (P : Process) → OnlyAtoms P → NoConnector P
atoms_plain nothing o = tt
atoms_plain (connector x y) o = o
atoms_plain (atom a xs) o = tt
atoms_plain (pair P Q) o = (atoms_plain P o.0, atoms_plain Q o.1)
atoms_plain (membrane P) o = absurd o
atoms_plain (rule r) o = tt

-- connectors of a row vanish
pub row_vanishes : (v : ℕ → ℕ) (ps : List (ℕ × ℕ)) → Reordered (fused v (row ps)) nothing
row_vanishes v [] = r_same refl
row_vanishes v (p ∷ ps) = r_chain r_unit (row_vanishes v ps)
