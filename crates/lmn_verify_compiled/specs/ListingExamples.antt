-- Codes of which a listing keeps all numbers, names that stand in a line, and some that don't.
use Rattle.std.specs.Prelude.{ℕ, ◌≡◌, ◌^◌, List, [], ◌∷◌, codes}
use Rattle.lmn_base.specs.Names.{HasNames, plain_names}
use Rattle.lmn_base.specs.WellMade.{IsWellMade}
use Rattle.lmn_base.specs.declared.functor.Label.TheVariants.{Name}
use Rattle.lmn_base.specs.declared.rule.Plain.{Plain}
use Rattle.lmn_guards.specs.declared.plan.GuardPlan.{GuardPlan}
use Rattle.lmn_instr_code.specs.declared.instr.Code.{Code}
use Rattle.lmn_instr_code.specs.declared.instr.Instr.TheVariants.{FindAtom, NMems, Commit, RemoveAtom, Proceed}
use Rattle.lmn_verify_compiled.specs.CompiledListings.{CanBeListed}
use Rattle.lmn_verify_compiled.specs.Kept.{IsKeptCode}
use Rattle.lmn_verify_compiled.specs.ListedTables.{ArePlainNames}

-- `a :- .`, where the atom has so many ports
abbrev pub one_atom : ℕ → Code
one_atom n = record { head = FindAtom 0 0 (record { label = Name 4; arity = n }) ∷ (Commit ∷ []); body = RemoveAtom 0 ∷ (Proceed ∷ []) }

-- so many membranes are counted
abbrev pub counting : ℕ → Code
counting n = record { head = NMems 0 n ∷ (Commit ∷ []); body = Proceed ∷ [] }

pub record ListingExamples : Type 0 where
  pub kept : IsKeptCode (one_atom 255)
  pub wide : IsKeptCode (one_atom 256) → ⊥
  pub counted : IsKeptCode (counting 2)
  pub many : IsKeptCode (counting (2 ^ 64)) → ⊥
  pub plain : ArePlainNames (codes "a" ∷ (codes "It's" ∷ ([] ∷ [])))
  pub broken : ArePlainNames (codes "a" ∷ (codes "b\nc" ∷ [])) → ⊥
  -- a well-made plain without rules
  pub listed : (names : List (List ℕ)) (p : Plain) → IsWellMade p → p.rules ≡ [] → HasNames names (plain_names p) → ArePlainNames names → CanBeListed names p []
  -- whatever the plain
  pub not_listed : (p : Plain) (plans : List GuardPlan) → CanBeListed (codes "b\nc" ∷ []) p plans → ⊥
