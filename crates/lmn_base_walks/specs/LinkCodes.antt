-- Links that occur once or too often.
use Rattle.std.specs.Prelude.{ℕ, ◌≡◌, ◌==◌, List, [], ◌∷◌, ◌++◌, flat_map, nat_lt, nat_le, slice_get, Some, Bool, ◌&&◌, not, ◌||◌, IsTrue, Result, MatchResult, if◌then◌else◌}
use Rattle.lmn_base.specs.declared.level.Level.{Level}
use Rattle.lmn_base.specs.declared.refusal.Pos.{Pos}
use Rattle.lmn_base.specs.declared.refusal.Refusal.{Refusal}
use Rattle.lmn_base.specs.declared.rule.LinkUse.{LinkUse}
use Rattle.lmn_base.specs.declared.rule.Plain.{Plain}
use Rattle.lmn_base.specs.declared.rule.RuleTree.{RuleTree}
use Rattle.lmn_base.specs.LinkUses.{RisingPlaces}
use Rattle.lmn_base.specs.PlaceOrder.{not_after}

-- a link occurs once in some levels, at a place
abbrev pub OccursOnce : List Level → Pos → Type 0
OccursOnce levels p = (x : ℕ) × RisingPlaces x levels (p ∷ [])

-- a link occurs more than twice in some levels, the third time at a place; the places of each level come in rising order
abbrev pub OccursTooOften : List Level → Pos → Type 0
OccursTooOften levels p = (x : ℕ) × (ps : List Pos) × RisingPlaces x levels ps × (slice_get ps 2 ≡ Some p)

-- E20 to E23: a link occurs once, or too often, in the process or in a rule
pub data LinkFault (p : Plain) : Refusal → Type 0 where
  once_in_process : {pos : Pos} → OccursOnce (p.top ∷ []) pos → LinkFault p (record { code = 20; pos = pos })
  too_often_in_process : {pos : Pos} → OccursTooOften (p.top ∷ []) pos → LinkFault p (record { code = 21; pos = pos })
  once_in_rule : {pos : Pos} (k : ℕ) (r : RuleTree) → slice_get p.rules k ≡ Some r →
      OccursOnce (r.head ∷ r.body ∷ []) pos → LinkFault p (record { code = 22; pos = pos })
  too_often_in_rule : {pos : Pos} (k : ℕ) (r : RuleTree) → slice_get p.rules k ≡ Some r →
      OccursTooOften (r.head ∷ r.body ∷ []) pos → LinkFault p (record { code = 23; pos = pos })

-- one refusal isn't behind another: its place is before the other's, or is the same and its code isn't greater
abbrev pub not_behind : Refusal → Refusal → Bool
not_behind a b = not_after a.pos b.pos && (not (not_after b.pos a.pos) || nat_le a.code b.code)

-- the fault at the least place of all, and of those the one with the least code
pub record IsFirstFault (p : Plain) (refusal : Refusal) : Type 0 where
  pub applies : LinkFault p refusal
  pub none_before : (other : Refusal) → LinkFault p other → IsTrue (not_behind refusal other)

-- what is answered of the links of a plain
abbrev pub AnswersLinks : {A : Type 0} → Plain → Result A Refusal → Type 0
AnswersLinks p answer = MatchResult answer (λ accepted. (a : Refusal) → ¬ (LinkFault p a)) (IsFirstFault p)

-- ---- by the tables

-- what an entry tells of its link
abbrev pub told : ℕ → ℕ → LinkUse → List Refusal
told once too_often u =
    if u.count == 1 then record { code = once; pos = u.first } ∷ []
    else if nat_lt 2 u.count then record { code = too_often; pos = u.third } ∷ []
    else []

-- what the tables of a rule and of a plain tell
abbrev pub told_of_rule : RuleTree → List Refusal
told_of_rule r = flat_map (told 22 23) r.links

abbrev pub told_of_plain : Plain → List Refusal
told_of_plain p = flat_map (told 20 21) p.links ++ flat_map told_of_rule p.rules
