-- The solid of a small plain.
use Rattle.std.proofs.Common.{ℕ, ◌≡◌, ◌≢◌, List, [], ◌∷◌, ◌++◌, length, refl, sym, ◌∙◌, ap, inl, arith}
use Rattle.std.specs.List.{flat_map}
use Rattle.lmn_base.specs.declared.level.Leaf.{Leaf}
use Rattle.lmn_base.specs.declared.level.Level.TheFolds.{fold-roll-Level}
use Rattle.lmn_base.specs.declared.solid.Region.{Region}
use Rattle.lmn_base.specs.declared.solid.Region.TheFolds.{fold-Region, fold-roll-Region}
use Rattle.lmn_base.specs.declared.solid.SolidAtom.{SolidAtom}
use Rattle.lmn_base.specs.Levels.{leaves_of}
use Rattle.lmn_base.specs.Links.{no_more}
use Rattle.lmn_base.specs.Solids.{atoms_of_region, atoms_step, connector, rules_step}
use Rattle.lmn_congruence.specs.Examples.{RulesKeepTheirNumbers, two_rules, solid_with_rules}
use Rattle.lmn_congruence.specs.SolidsOfPlains.{IsSolidOf, JoinsLeaf, fused_region, fused_step}
use Rattle.std.proofs.lemmas.List.Elements.{All-nil}

no_leaves : leaves_of two_rules.top ≡ []
no_leaves = rw (fold-roll-Level (List Leaf) (λ l. l.leaves ++ flat_map (λ inner. inner) l.membranes) _) refl

no_atoms : (rules : List ℕ) → atoms_of_region (solid_with_rules rules).root ≡ []
no_atoms rules = rw (fold-roll-Region (List SolidAtom) atoms_step _) refl

fused_top : (v : ℕ → ℕ) → fused_region v two_rules.top ≡ (solid_with_rules (0 ∷ 1 ∷ [])).root
fused_top v = rw (fold-roll-Level Region (fused_step v) _) refl

has_both : IsSolidOf two_rules (solid_with_rules (0 ∷ 1 ∷ []))
has_both = record {
  closed = rw no_leaves (λ x. inl refl);
  to = λ x. x;
  joins = rw no_leaves (All-nil (JoinsLeaf (λ x. x)));
  is = sym (fused_top (λ x. x));
  is_solid = record {
    arities = rw (no_atoms (0 ∷ 1 ∷ [])) (All-nil (λ a. length a.links ≡ a.functor.arity));
    no_connector = rw (no_atoms (0 ∷ 1 ∷ [])) (All-nil (λ a. a.functor ≢ connector));
    closed = rw (no_atoms (0 ∷ 1 ∷ [])) (λ x. inl refl);
    numbered = rw (no_atoms (0 ∷ 1 ∷ [])) (0, no_more);
  };
}

-- the rules of a solid that has nothing else
rules_there : (rules : List ℕ) → fold-Region (List ℕ) rules_step (solid_with_rules rules).root ≡ rules ++ []
rules_there rules = fold-roll-Region (List ℕ) rules_step _

not_twice : ¬ (IsSolidOf two_rules (solid_with_rules (1 ∷ 1 ∷ [])))
not_twice i = one_not_zero (heads (sym (rules_there (1 ∷ 1 ∷ [])) ∙ ap (fold-Region (List ℕ) rules_step) (i.is ∙ fused_top i.to) ∙ rules_there (0 ∷ 1 ∷ [])))
  where
    one_not_zero : ◌≢◌ {A = ℕ} 1 0
    one_not_zero = omega arith

    heads : {x y : ℕ} {xs ys : List ℕ} → x ∷ xs ≡ y ∷ ys → x ≡ y
    heads e = cc e

-- a solid of the example has its rules by their numbers
pub rules_keep_their_numbers : RulesKeepTheirNumbers
rules_keep_their_numbers = (has_both, not_twice)
