-- What is asked in a run, turn by turn.
use Rattle.std.proofs.Common.{ℕ, ◌≡◌, ◌+◌, List, inl, inr, refl, subst}
use Rattle.lmn_base.specs.declared.rule.RuleTree.{RuleTree}
use Rattle.lmn_store_heap.specs.Heap.{Heap}
use Rattle.lmn_store_heap.specs.Sound.{Valid}
use Rattle.lmn_instr_code.specs.declared.instr.Code.{Code}
use Rattle.lmn_schedule_strategy.proofs.Counts.{counts_rules, rises_both, rises_none}
use Rattle.lmn_schedule_strategy.specs.Counting.{CountsAsked, RisesWithin}
use Rattle.lmn_schedule_strategy.specs.declared.turning.Turn.{Turn}
use Rattle.lmn_schedule_strategy.specs.declared.turning.Turn.TheVariants.{Committed}
use Rattle.lmn_schedule.specs.Turning.{IsTurnedByAnswer, counted as commits_of}
use Rattle.lmn_app_drive.specs.Asking.{AsksFew, AwakeTurn, awake_rules, starts, turns_on}
use Rattle.lmn_app_drive.specs.AskingOn.{AskedSoFar}

-- what holds for a closure, some codes and a size holds for equal ones
pub carried_codes : {F C : Type 0} (P : F → C → ℕ → Type 0) {f f' : F} {c c' : C} {n n' : ℕ} → f ≡ f' → c ≡ c' → n ≡ n' → P f c n → P f' c' n'
carried_codes P {f} {f'} {c} {c'} {n} {n'} d e q p = subst (λ x. P x c' n') d (subst (λ x. P f x n') e (subst (λ k. P f c k) q p))

module _ (Answers : ℕ → ℕ → ℕ → Type 0) (table : List RuleTree) (codes : List Code) (size : ℕ) where
  -- One turn asks no more rules than stand in membranes that are awake.
  pub record AsksOnce (n : ℕ) (h : Heap) (answer : Turn) (h' : Heap) (old new : ℕ) : Type 0 where
    pub turn : AwakeTurn Answers table codes size n h answer h'
    pub few : CountsAsked h codes turn.from old new

  -- what the engine says of a turn
  pub asks_once : (n : ℕ) (h : Heap) (answer : Turn) (h' : Heap) (old new : ℕ) → IsTurnedByAnswer Answers table codes size n h answer h' old new → AsksOnce n h answer h' old new
  asks_once n h answer h' old new t = record { turn = record { from = t.from; may = λ names S held. (t.turned names S held).0; turned = t.flags }; few = t.counts }

  module _ (h0 : Heap) where
    -- before the first turn
    pub asked_none : (s : ℕ) → AskedSoFar Answers table codes size h0 0 h0 s s
    asked_none s = record { sum = 0; run = starts; rises = rises_none 0 s }

    module _ (n : ℕ) (h : Heap) (s t u : ℕ) (v : Valid h) (a : AskedSoFar Answers table codes size h0 n h s t) where
      abbrev here : ℕ
      here = awake_rules h v.tree.0

      -- a turn that commits
      pub asked_more : (h' : Heap) → AsksOnce n h Committed h' t u → AskedSoFar Answers table codes size h0 (n + 1) h' s u
      asked_more h' once = record {
        sum = a.sum + here;
        run = turns_on v.tree.0 a.run v.tree.1 once.turn;
        rises = rises_both a.sum here s t u a.rises (within once.turn.from once.few);
      }
        where
          within : (from : ℕ) → CountsAsked h codes from t u → RisesWithin here t u
          within from c = let up = counts_rules h codes from t u c v.tree.0 v.tree.1 in record { rises = up.rises; within = up.within }

      -- a turn after which nothing more is asked
      pub asked_last : (answer : Turn) (h' : Heap) → commits_of answer ≡ 0 → AsksOnce n h answer h' t u → AsksFew Answers table codes size h0 n h' s u
      asked_last answer h' none once =
          let up = counts_rules h codes once.turn.from t u once.few v.tree.0 v.tree.1 in
          record {
            last = h;
            forest = v.tree.0;
            sum = a.sum;
            run = a.run;
            tree = v.tree.1;
            ends = inr (answer, none, once.turn);
            rises = rises_both a.sum here s t u a.rises (record { rises = up.rises; within = up.within });
          }

      -- it is asked whether a rule has a match, and the heap stays
      pub asked_still : (h' : Heap) → h' ≡ h → CountsAsked h codes 0 t u → AsksFew Answers table codes size h0 n h' s u
      asked_still h' same few =
          let up = counts_rules h codes 0 t u few v.tree.0 v.tree.1 in
          record { last = h; forest = v.tree.0; sum = a.sum; run = a.run; tree = v.tree.1; ends = inl same; rises = rises_both a.sum here s t u a.rises (record { rises = up.rises; within = up.within }) }

    -- nothing more is asked, and the heap stays
    pub asked_all : (n : ℕ) (h : Heap) (s t : ℕ) → Valid h → AskedSoFar Answers table codes size h0 n h s t → AsksFew Answers table codes size h0 n h s t
    asked_all n h s t v a = record {
      last = h;
      forest = v.tree.0;
      sum = a.sum;
      run = a.run;
      tree = v.tree.1;
      ends = inl refl;
      rises = rises_both a.sum (awake_rules h v.tree.0) s t t a.rises (rises_none (awake_rules h v.tree.0) t);
    }
