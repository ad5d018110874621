-- The laws of reading.
use Rattle.std.specs.Prelude.{ℕ, ◌≡◌, ◌⊎◌, List}
use Rattle.std.specs.declared.alloc.Global.{Global}
use Rattle.lmn_base.specs.declared.refusal.Refusal.{Refusal}
use Rattle.lmn_base.specs.declared.rule.Plain.{Plain}
use Rattle.lmn_base.specs.Codes.{IsTextCode}
use Rattle.lmn_base.specs.Names.{IsNames, NamesPlain, plain_names}
use Rattle.lmn_congruence.specs.Rules.{Name}
use Rattle.lmn_congruence.specs.Translation.{top_of}
use Rattle.lmn_guards.specs.declared.plan.GuardPlan.{GuardPlan}
use Rattle.lmn_flatten_plain.specs.SamePlains.{SamePlain}
use Rattle.lmn_app_reading.specs.Texts.{IsAcceptedAs, IsRefusedAs, LeavesNames, ReadsAs, rows_of_rules}

-- a text is accepted, with the numbers of a list of names
abbrev pub IsAcceptedText : List ℕ → List Name → Type 0
IsAcceptedText text names = (plain : Plain) × (plans : List GuardPlan) × IsAcceptedAs text names plain plans

-- Reading accepts a text, or it refuses it. A box in a condition belongs to an allocator, so one is given.
abbrev pub ReadingAcceptsOrRefuses : Type 0
ReadingAcceptsOrRefuses = (alloc : Global) (text : List ℕ) (names : List Name)
    → IsAcceptedText text names ⊎ ((refusal : Refusal) × IsRefusedAs text names refusal)

-- a text that reading refuses isn't accepted by it
abbrev pub RefusedTextNotAccepted : Type 0
RefusedTextNotAccepted = (text : List ℕ) (names : List Name) (refusal : Refusal) → IsRefusedAs text names refusal → ¬ (IsAcceptedText text names)

-- reading gives a text one refusal at most
abbrev pub ReadingRefusesOnce : Type 0
ReadingRefusesOnce = (text : List ℕ) (names : List Name) (refusal other : Refusal) → IsRefusedAs text names refusal → IsRefusedAs text names other
    → refusal ≡ other

-- Two plains that are the same but for the addresses of boxes in conditions, so that the same is asked of their rules, and
-- their names are one, and their tops are one as trees of names; and their plans are one.
pub record AreOne (table : List Name) (p q : Plain) (ps qs : List GuardPlan) : Type 0 where
  pub plain : SamePlain p q
  pub rows : rows_of_rules p ≡ rows_of_rules q
  pub names : plain_names p ≡ plain_names q
  pub tops : top_of table p ≡ top_of table q
  pub plans : ps ≡ qs

-- a text is accepted in one way at most
abbrev pub OneAcceptance : Type 0
OneAcceptance = (text : List ℕ) (names : List Name) (p q : Plain) (plans others : List GuardPlan) → IsAcceptedAs text names p plans
    → IsAcceptedAs text names q others → AreOne names p q plans others

-- a text is refused by a code of the table
abbrev pub RefusalsHaveCodes : Type 0
RefusalsHaveCodes = (text : List ℕ) (names : List Name) (refusal : Refusal) → IsRefusedAs text names refusal → IsTextCode refusal.code

-- The plain that is read of a text has only names of the list that reading leaves.
abbrev pub PlainsAreNamed : Type 0
PlainsAreNamed = (text : List ℕ) (before names : List Name) (plain : Plain) → IsNames before → LeavesNames text before names → ReadsAs text names plain
    → NamesPlain names plain
