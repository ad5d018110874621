-- Traces that are read in parts. Contracts of this crate's own functions alone cite these words.
use Rattle.std.specs.Prelude.{◌≡◌, ◌≤◌, ℕ, List, Option, Some, IfSome, length}
use Rattle.lmn_base.specs.declared.refusal.Refusal.{Refusal}
use Rattle.lmn_base.specs.declared.rule.Plain.{Plain}
use Rattle.lmn_base.specs.declared.solid.Solid.{Solid}
use Rattle.lmn_congruence.specs.Rules.{Name}
use Rattle.lmn_congruence.specs.SolidsOfPlains.{IsSolidOf}
use Rattle.lmn_congruence.specs.Translation.{region_of}
use Rattle.lmn_io.specs.Counts.{Faults, NoneFailed}
use Rattle.lmn_receipt_chain.specs.Chains.{IsChain, IsWrongTrace}
use Rattle.lmn_app_words.specs.declared.command.PairKind.TheVariants.{Check}
use Rattle.lmn_app_single.specs.declared.ending.Ending.{Ending}
use Rattle.lmn_app_single.specs.declared.ending.Ending.TheVariants.{NoMemory, ReadFault}
use Rattle.lmn_app.specs.Runnings.{EndsByLine}

-- A text of at most so many bytes is the one that is told under a name, if it is.
pub record IsTextUnder (texts : Option (List ℕ → Option (List ℕ))) (name : List ℕ) (most : ℕ) (text : List ℕ) : Type 0 where
  pub short : length text ≤ most
  pub is_told : IfSome texts (λ under. under name ≡ Some text)

-- it is a chain of so many commits from the solid of a plain on
abbrev pub HasChain : List Name → Plain → List ℕ → ℕ → Type 0
HasChain names plain text n = (s : Solid) × IsSolidOf plain s × IsChain (region_of names plain.rules s) text n

-- or it is wrong beside it
abbrev pub HasWrong : List Name → Plain → List ℕ → Refusal → Type 0
HasWrong names plain text refusal = (s : Solid) × IsSolidOf plain s × IsWrongTrace (region_of names plain.rules s) text refusal

-- A call that checks a trace which it reads in parts ends so: as one that has it whole, or a part couldn't be read, or memory was wanting.
-- `IsTrace` says which text it may be, and `Rises` that the count of the file rose.
abbrev pub EndsChecked : List ℕ → (IsTrace : List ℕ → Type 0) → (Rises : Type 0) → Ending → Option (List ℕ) → Option (List ℕ) → Faults → Faults → Type 0
EndsChecked program IsTrace Rises ReadFault old new before after = Rises × (new ≡ old) × NoneFailed before after
EndsChecked program IsTrace Rises NoMemory old new before after = (new ≡ old) × NoneFailed before after
EndsChecked program IsTrace Rises ending old new before after = (trace : List ℕ) × IsTrace trace × EndsByLine Check program trace ending old new before after
