-- Which texts are accepted, and why another is refused.
use Rattle.std.specs.Prelude.{◌≡◌, ◌<◌, ◌≤◌, ◌⊎◌, List, ℕ, Option, IfSome, IsSomeAnd, length}
use Rattle.std.specs.declared.alloc.Global.{Global}
use Rattle.lmn_base.specs.declared.refusal.Refusal.{Refusal}
use Rattle.lmn_base.specs.declared.rule.Plain.{Plain}
use Rattle.lmn_base.specs.Names.{first_names}
use Rattle.lmn_congruence.specs.Plains.{SolidOf}
use Rattle.lmn_congruence.specs.Regions.{Region, item_count_of_region}
use Rattle.lmn_congruence.specs.Rules.{Name}
use Rattle.lmn_congruence.specs.Translation.{top_of}
use Rattle.lmn_guards.specs.declared.plan.GuardPlan.{GuardPlan}
use Rattle.lmn_app_reading.specs.Texts.{IsAcceptedAs, IsRefusedAs, LeavesNames}

-- the most bytes of a text
abbrev pub text_bytes : ℕ
text_bytes = 4194304

-- The text is short enough and is accepted with this plain, by the numbers of its names: of the fixed ones, and of those of the text
-- behind them.
pub record Accepts (text : List ℕ) (names : List Name) (plain : Plain) (plans : List GuardPlan) : Type 0 where
  pub short : length text ≤ text_bytes
  pub named : LeavesNames text first_names names
  pub accepted : IsAcceptedAs text names plain plans

-- The solid of the plain has at most so many items, where a command asks for that; or it has more.
abbrev pub Fits : Option ℕ → List Name → Plain → Type 0
Fits size names plain = IfSome size (λ most. (S : Region) × SolidOf (top_of names plain) S × (item_count_of_region S ≤ most))

abbrev pub IsTooLarge : Option ℕ → List Name → Plain → Type 0
IsTooLarge size names plain = IsSomeAnd size (λ most. (S : Region) × SolidOf (top_of names plain) S × (most < item_count_of_region S))

-- the text is accepted, and its process fits
abbrev pub IsAccepted : Option ℕ → List ℕ → Type 0
IsAccepted size text = (names : List Name) × (plain : Plain) × (plans : List GuardPlan) × Accepts text names plain plans × Fits size names plain

-- a code at line 1, column 1
abbrev pub at_start : ℕ → Refusal
at_start code = record { code = code; pos = record { line = 1; column = 1 } }

-- The refusal of a text:
--   too_long    code 1 where it has too many bytes
--   by_reading  else the one that reading gives
--   too_large   else code 50 where its process has too many items
pub data IsRefusal (size : Option ℕ) (text : List ℕ) (refusal : Refusal) : Type 0 where
  too_long : text_bytes < length text → refusal ≡ at_start 1 → IsRefusal size text refusal
  by_reading : length text ≤ text_bytes → (names : List Name) → LeavesNames text first_names names → IsRefusedAs text names refusal → IsRefusal size text refusal
  too_large : (names : List Name) (plain : Plain) (plans : List GuardPlan) → Accepts text names plain plans → IsTooLarge size names plain
      → refusal ≡ at_start 50 → IsRefusal size text refusal

-- a text that is refused isn't accepted
abbrev pub RefusedNotAccepted : Type 0
RefusedNotAccepted = (size : Option ℕ) (text : List ℕ) (refusal : Refusal) → IsRefusal size text refusal → ¬ (IsAccepted size text)

-- a text has one refusal at most
abbrev pub OneRefusal : Type 0
OneRefusal = (size : Option ℕ) (text : List ℕ) (refusal other : Refusal) → IsRefusal size text refusal → IsRefusal size text other → refusal ≡ other

-- A text is accepted, or it is refused. A box in a condition belongs to an allocator, so one is given.
abbrev pub AcceptedOrRefused : Type 0
AcceptedOrRefused = (alloc : Global) (size : Option ℕ) (text : List ℕ) → IsAccepted size text ⊎ ((refusal : Refusal) × IsRefusal size text refusal)
