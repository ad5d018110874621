-- How far a search counts its attempts.
use Rattle.std.specs.Prelude.{ℕ, ◌<◌, ◌≤◌, ◌+◌, ◌==◌, if◌then◌else◌, List, [], ◌∷◌, length}
use Rattle.lmn_store_heap.specs.Heap.{Heap, mem_mark_of, rules_in}
use Rattle.lmn_store_heap.specs.Sound.{Forest, IsTree}
use Rattle.lmn_store_trait.specs.Awake.{awake_mark}
use Rattle.lmn_instr_code.specs.declared.instr.Code.{Code}
use Rattle.lmn_schedule_strategy.specs.Choosing.{IsFirstRule, NoneOf, asked}

-- how many rules stand in these membranes
abbrev pub rule_count : Heap → List ℕ → ℕ
rule_count h [] = 0
rule_count h (m ∷ ms) = length (rules_in h m) + rule_count h ms

-- Where membranes are asked in this order, and of each its rules in the order of their list, until the code of one succeeds, so many
-- rules are asked: all of the membranes before the one chosen, and of that those up to the one chosen.
pub data AsksRules (h : Heap) (codes : List Code) : List ℕ → ℕ → Type 0 where
  asks_none : AsksRules h codes [] 0
  asks_all : {m : ℕ} {ms : List ℕ} {n : ℕ} → NoneOf h codes m (rules_in h m) → AsksRules h codes ms n → AsksRules h codes (m ∷ ms) (length (rules_in h m) + n)
  asks_until : {m : ℕ} {ms : List ℕ} {place k : ℕ} → IsFirstRule h codes m place k → AsksRules h codes (m ∷ ms) (place + 1)

-- A count rises, by so much at most.
pub record RisesWithin (most old new : ℕ) : Type 0 where
  pub rises : old ≤ new
  pub within : new ≤ old + most

-- A count rises by so much at most, and by one at least where that isn't nothing.
pub record CountsUpTo (most old new : ℕ) : Type 0 where
  pub rises : old ≤ new
  pub within : new ≤ old + most
  pub some : 0 < most → old < new

-- A count of attempts rises by the rules that are asked of these membranes at most, and where one is asked, by one at least.
pub record CountsAmong (h : Heap) (codes : List Code) (ms : List ℕ) (old new : ℕ) : Type 0 where
  pub rules : ℕ
  pub asks : AsksRules h codes ms rules
  pub counts : CountsUpTo rules old new

-- those of these membranes that are awake
abbrev pub awake_of : Heap → List ℕ → List ℕ
awake_of h [] = []
awake_of h (m ∷ ms) = if mem_mark_of h m == awake_mark then m ∷ awake_of h ms else awake_of h ms

-- So it does where all membranes of a heap that are awake are asked, from the one with a number in preorder on.
abbrev pub CountsAsked : Heap → List Code → ℕ → ℕ → ℕ → Type 0
CountsAsked h codes from old new = (f : Forest) → IsTree h f → CountsAmong h codes (awake_of h (asked from f)) old new
