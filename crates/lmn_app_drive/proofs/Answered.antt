-- A run by the answers of a closure: each exit of the code, for the list of answers so far.
use Rattle.std.proofs.Common.{ℕ, zero, suc, ◌≡◌, ◌<◌, ◌+◌, List, [], ◌∷◌, ◌++◌, length, Option, Some, refl, sym, ap, subst, ◌∙◌, arith}
use Rattle.std.specs.Prelude.{slice_get, slice_index_or}
use Rattle.std.proofs.lemmas.List.{length-append}
use Rattle.lmn_store_heap.specs.Heap.{Heap}
use Rattle.lmn_instr_code.specs.declared.instr.Code.{Code}
use Rattle.lmn_io.specs.Taking.{Takes, TakesPrefix}
use Rattle.lmn_base.specs.declared.rule.RuleTree.{RuleTree}
use Rattle.lmn_base.proofs.Lists.{get_front}
use Rattle.lmn_congruence.specs.Regions.{Region}
use Rattle.lmn_congruence.specs.Rules.{Name}
use Rattle.lmn_adequacy.specs.Choice.{NextFrom, asked_paths, paths}
use Rattle.lmn_adequacy.specs.Embedding.{HasEmbedding}
use Rattle.lmn_adequacy.specs.Runs.{Chooser, Turn as Chooses, Trace, loaded, turned}
use Rattle.lmn_schedule_strategy.proofs.Counts.{rises_both, rises_none}
use Rattle.lmn_schedule_strategy.specs.declared.turning.Turn.{Turn}
use Rattle.lmn_schedule_strategy.specs.declared.turning.Turn.TheVariants.{Committed, Irreducible, Full, NoMemory}
use Rattle.lmn_adequacy_choices.specs.Counting.{AsksRulesOf}
use Rattle.lmn_schedule.specs.Counting.{CountsAreAlike, CountsAskedOf}
use Rattle.lmn_schedule.specs.Held.{EngineCanTurn, HoldsRegion}
use Rattle.lmn_schedule.specs.Turning.{IsDone, IsTurned, IsTurnedByAnswer}
use Rattle.lmn_app_drive.specs.declared.driving.RunOptions.{RunOptions}
use Rattle.lmn_app_drive.specs.declared.driving.RunEnd.{RunEnd}
use Rattle.lmn_app_drive.specs.declared.driving.RunEnd.TheVariants.{Failed}
use Rattle.lmn_app_runs.specs.declared.stop.Stop.{Stop}
use Rattle.lmn_app_runs.specs.declared.stop.Stop.TheVariants as stop
use Rattle.lmn_app_drive.specs.Driving.{RunInput, Ran, Going, IsTracedLineOf, Stopped, Concludes, given_by_engine}
use Rattle.lmn_app_drive.specs.Answers.{AreAllowed, BrokeByAnswers, DroveByAnswers, GoingByAnswers, StoppedByAnswers, AsksSolids, CountsSolids, asks_next, asks_no_solid, in_turn, solids}
use Rattle.lmn_app_drive.proofs.Goings.{broke_first, broke_more, drove_broke, going_first, going_more, stops_budget, stops_done, stops_full, stops_irreducible, stops_no_memory}

-- what holds for a closure and a size holds for equal ones
pub carried : {F : Type 0} (P : F → ℕ → Type 0) {f f' : F} {n n' : ℕ} → f ≡ f' → n ≡ n' → P f n → P f' n'
carried P {f} {f'} {n} {n'} d e p = subst (λ x. P x n') d (subst (λ k. P f k) e p)

-- ---- lists with one more

read_front : (xs : List ℕ) (x n : ℕ) → n < length xs → slice_index_or (xs ++ x ∷ []) n 0 ≡ slice_index_or xs n 0
read_front [] x n l = absurd (omega (arith, l))
read_front (y ∷ xs) x zero l = refl
read_front (y ∷ xs) x (suc n) l = read_front xs x n (omega (arith, l))

read_behind : (xs : List ℕ) → slice_index_or xs (length xs) 0 ≡ 0
read_behind [] = refl
read_behind (y ∷ xs) = read_behind xs

read_last : (xs : List ℕ) (x : ℕ) → slice_index_or (xs ++ x ∷ []) (length xs) 0 ≡ x
read_last [] x = refl
read_last (y ∷ xs) x = read_last xs x

no_others : (Ss : List Region) → Ss ++ [] ≡ Ss
no_others [] = refl
no_others (S ∷ Ss) = ap (λ z. S ∷ z) (no_others Ss)

module _ (Answers : ℕ → ℕ → ℕ → Type 0) where
  -- what is allowed is allowed where there is one more solid,
  allowed_more : (Ss : List Region) (S : Region) (answers : List ℕ) → AreAllowed Answers Ss answers → AreAllowed Answers (Ss ++ S ∷ []) answers
  allowed_more Ss S answers allowed n from e = let a = allowed n from e in (a.0, get_front Ss (S ∷ []) n a.0 a.1, a.2)

  -- and an answer more that may be given at it
  allowed_next : (Ss : List Region) (S : Region) (answers : List ℕ) (from : ℕ) → length answers ≡ length Ss → AreAllowed Answers Ss answers → Answers (length Ss) (length (paths S)) from →
      AreAllowed Answers (Ss ++ S ∷ []) (answers ++ from ∷ [])
  allowed_next Ss S answers from many allowed may = by answers Ss many (λ n. n) (λ n r e. allowed n r e) may
    where
      by : (answers : List ℕ) (Ts : List Region) → length answers ≡ length Ts → (place : ℕ → ℕ) →
          ((n r : ℕ) → slice_get answers n ≡ Some r → (T : Region) × (slice_get Ts n ≡ Some T) × Answers (place n) (length (paths T)) r) → Answers (place (length Ts)) (length (paths S)) from →
          (n r : ℕ) → slice_get (answers ++ from ∷ []) n ≡ Some r → (T : Region) × (slice_get (Ts ++ S ∷ []) n ≡ Some T) × Answers (place n) (length (paths T)) r
      by [] [] m place all may zero r e = (S, refl, subst (Answers (place 0) (length (paths S))) (let u : Some from ≡ Some r = e in cc u) may)
      by [] [] m place all may (suc n) r e = absurd (cc e)
      by [] (T ∷ Ts) m place all may n r e = absurd (omega (arith, m))
      by (x ∷ xs) [] m place all may n r e = absurd (omega (arith, m))
      by (x ∷ xs) (T ∷ Ts) m place all may zero r e = all zero r e
      by (x ∷ xs) (T ∷ Ts) m place all may (suc n) r e = by xs Ts (omega (arith, m)) (λ k. place (suc k)) (λ k. all (suc k)) may n r e

-- ---- a chooser that answers alike

-- a trace asks its chooser at its commits alone
trace_by : (c d : Chooser) (budget size : ℕ) (first : Region) {before : List Region} {last : Region} → Trace c budget size first before last → ((n m : ℕ) → n < length before → c n m ≡ d n m) → Trace d budget size first before last
trace_by c d budget size first loaded alike = loaded
trace_by c d budget size first (turned {before = before} {S' = R} {S'' = T} t below turn fits) alike =
    let more = length-append before (R ∷ []) in
    turned (trace_by c d budget size first t (λ n m l. alike n m (omega (arith, l, more)))) below
    (record { next = subst (λ from. NextFrom from R T) (alike (length before) (length (paths R)) (omega (arith, more))) turn.next; numbered = turn.numbered }) fits

-- solids are asked as far by both
asks_by : (c d : Chooser) {Ss : List Region} {n : ℕ} → AsksSolids c Ss n → ((n m : ℕ) → n < length Ss → c n m ≡ d n m) → AsksSolids d Ss n
asks_by c d asks_no_solid alike = asks_no_solid
asks_by c d (asks_next {Ss = Ss} {S = S} {k = k} a asks) alike =
    let more = length-append Ss (S ∷ []) in
    asks_next (asks_by c d a (λ n m l. alike n m (omega (arith, l, more)))) (subst (λ from. AsksRulesOf S (asked_paths from S) k) (alike (length Ss) (length (paths S)) (omega (arith, more))) asks)

-- a turn asks it once
turned_by : (names : List Name) (table : List RuleTree) (c d : Chooser) (size n : ℕ) (S : Region) (a : Turn) (h' : Heap) → c n (length (paths S)) ≡ d n (length (paths S)) → IsTurned names table c size n S a h' → IsTurned names table d size n S a h'
turned_by names table c d size n S a h' e = by a
  where
    again : (S' : Region) → Chooses c n S S' → Chooses d n S S'
    again S' t = record { next = subst (λ from. NextFrom from S S') e t.next; numbered = t.numbered }

    by : (a : Turn) → IsTurned names table c size n S a h' → IsTurned names table d size n S a h'
    by Committed t = (t.0, record { turn = again t.0 t.1.turn; commit = t.1.commit }, t.2, t.3)
    by Irreducible t = t
    by Full t = ((t.0.0, again t.0.0 t.0.1, t.0.2), t.1)
    by NoMemory t = ((t.0.0, again t.0.0 t.0.1, t.0.2), t.1)

-- ---- the exits of the code

module _ (Answers : ℕ → ℕ → ℕ → Type 0) (names : List Name) (table : List RuleTree) (size : ℕ) (options : RunOptions) (first : Region) where
  abbrev input : Chooser → RunInput
  input c = given_by_engine names table size options c first

  -- the call that writes the line of a heap, with a trace alone, has written it, or a prefix of it
  abbrev TookLine : Heap → Option (List ℕ) → Option (List ℕ) → Type 0
  TookLine h old new = (bytes : List ℕ) → IsTracedLineOf options.trace options.folded names table h bytes → Takes bytes old new

  abbrev TookPartOfLine : Heap → Option (List ℕ) → Option (List ℕ) → Type 0
  TookPartOfLine h old new = (bytes : List ℕ) → IsTracedLineOf options.trace options.folded names table h bytes → TakesPrefix bytes old new

  -- before the first turn
  pub first_going : (n : ℕ) (h : Heap) (old new : Option (List ℕ)) (s : ℕ) → n ≡ 0 → HoldsRegion names table h first → TookLine h old new → GoingByAnswers Answers input n h old new s s
  first_going n h old new s none held took = record {
    answers = [];
    going = going_first (input (in_turn [])) n h old new none held took;
    allowed = λ k from e. absurd (cc e);
    many = sym none;
    steps = record { rules = 0; asks = asks_no_solid; rises = rises_none 0 s };
  }

  pub first_broke : (n : ℕ) (h : Heap) (old new : Option (List ℕ)) (s : ℕ) → n ≡ 0 → HoldsRegion names table h first → TookPartOfLine h old new → BrokeByAnswers Answers input n h old new s s
  first_broke n h old new s none held part = record {
    answers = [];
    is = broke_first (input (in_turn [])) n h old new none held part;
    allowed = λ k from e. absurd (cc e);
    enough = omega (arith, none);
    asked = [];
    others = first ∷ [];
    first = refl;
    steps = record { rules = 0; asks = asks_no_solid; rises = rises_none 0 s };
  }

  -- a run by one chooser is one by another that answers alike at its commits
  abbrev going_by : (c d : Chooser) (n : ℕ) (h : Heap) (old new : Option (List ℕ)) → ((k m : ℕ) → k < n → c k m ≡ d k m) → Going (input c) n h old new → Going (input d) n h old new
  going_by c d n h old new alike s = record {
    ran = record {
      before = s.ran.before;
      last = s.ran.last;
      trace = trace_by c d options.budget size first s.ran.trace (λ k m l. alike k m (subst (λ z. k < z) s.ran.count l));
      count = s.ran.count;
      holds = s.ran.holds;
      lines = s.ran.lines;
    };
    took = s.took;
  }

  module _ (n : ℕ) (h h' : Heap) (told old : Option (List ℕ)) (s t u : ℕ) (b : GoingByAnswers Answers input n h told old s t) where
    abbrev ran : Ran (input (in_turn b.answers)) n h
    ran = b.going.ran

    -- the steps that are counted where the last solid is asked too, from the number on that a chooser gives which answers so before
    counts_last : (c : Chooser) (from : ℕ) → ((k m : ℕ) → k < n → in_turn b.answers k m ≡ c k m) → from ≡ c n (length (paths ran.last)) → CountsAskedOf ran.last from t u → CountsSolids c (ran.before ++ ran.last ∷ []) s u
    counts_last c from alike e counts =
        let place : from ≡ c (length ran.before) (length (paths ran.last)) = e ∙ ap (λ k. c k (length (paths ran.last))) (sym ran.count) in
        let up = counts.counts in
        record {
          rules = b.steps.rules + counts.rules;
          asks = asks_next (asks_by (in_turn b.answers) c b.steps.asks (λ k m l. alike k m (subst (λ z. k < z) ran.count l)))
              (subst (λ z. AsksRulesOf ran.last (asked_paths z ran.last) counts.rules) place counts.asks);
          rises = rises_both b.steps.rules counts.rules s t u b.steps.rises (record { rises = up.rises; within = up.within });
        }

    -- behind the answers so far a chooser that gives them in turn gives 0
    no_more : 0 ≡ in_turn b.answers n (length (paths ran.last))
    no_more = sym (subst (λ k. slice_index_or b.answers k 0 ≡ 0) b.many (read_behind b.answers))

    -- it is asked whether a rule embeds, and no answer is given
    pub reducible_stops : CountsAskedOf ran.last 0 t u → h' ≡ h → n ≡ options.budget → HasEmbedding ran.last → StoppedByAnswers Answers input n h' stop.Budget told old s u
    reducible_stops counts same done some = record {
      answers = b.answers;
      is = stops_budget (input (in_turn b.answers)) n h h' told old b.going same done some;
      allowed = allowed_more Answers ran.before ran.last b.answers b.allowed;
      enough = let m = b.many in omega (arith, m);
      asked = ran.before ++ ran.last ∷ [];
      others = [];
      first = sym (no_others (ran.before ++ ran.last ∷ []));
      steps = counts_last (in_turn b.answers) 0 (λ k m l. refl) no_more counts;
    }

    pub irreducible_stops : CountsAskedOf ran.last 0 t u → h' ≡ h → IsDone ran.last → StoppedByAnswers Answers input n h' stop.Irreducible told old s u
    irreducible_stops counts same done = record {
      answers = b.answers;
      is = stops_done (input (in_turn b.answers)) n h h' told old b.going same done;
      allowed = allowed_more Answers ran.before ran.last b.answers b.allowed;
      enough = let m = b.many in omega (arith, m);
      asked = ran.before ++ ran.last ∷ [];
      others = [];
      first = sym (no_others (ran.before ++ ran.last ∷ []));
      steps = counts_last (in_turn b.answers) 0 (λ k m l. refl) no_more counts;
    }

    -- a turn, by one answer more
    abbrev TurnedBy : Turn → Type 0
    TurnedBy a = (from : ℕ) × Answers n (length (paths ran.last)) from × IsTurned names table (λ commits membranes. from) size n ran.last a h' × CountsAskedOf ran.last from t u

    -- what the engine says of a turn, by such an answer
    pub by_answer : CountsAreAlike → (codes : List Code) → EngineCanTurn h table codes size → (a : Turn) → IsTurnedByAnswer Answers table codes size n h a h' t u → TurnedBy a
    by_answer alike codes run a x =
        let d = x.turned names ran.last ran.holds in
        (x.from, d.0, d.1, alike names table h ran.last codes size ran.holds run x.from t u x.counts)

    module _ (a : Turn) (x : TurnedBy a) where
      abbrev more : List ℕ
      more = b.answers ++ x.0 ∷ []

      front : (k m : ℕ) → k < n → in_turn b.answers k m ≡ in_turn more k m
      front k m l = sym (read_front b.answers x.0 k (let e = b.many in omega (arith, l, e)))

      abbrev going_on : Going (input (in_turn more)) n h told old
      going_on = going_by (in_turn b.answers) (in_turn more) n h told old front b.going

      answered : IsTurned names table (in_turn more) size n ran.last a h'
      answered = turned_by names table (λ commits membranes. x.0) (in_turn more) size n ran.last a h' (sym (subst (λ k. slice_index_or more k 0 ≡ x.0) b.many (read_last b.answers x.0))) x.2

      is_allowed : AreAllowed Answers (ran.before ++ ran.last ∷ []) more
      is_allowed = allowed_next Answers ran.before ran.last b.answers x.0 (b.many ∙ sym ran.count) b.allowed (subst (λ k. Answers k (length (paths ran.last)) x.0) (sym ran.count) x.1)

      counts_more : CountsSolids (in_turn more) (ran.before ++ ran.last ∷ []) s u
      counts_more = counts_last (in_turn more) x.0 front (sym (subst (λ k. slice_index_or more k 0 ≡ x.0) b.many (read_last b.answers x.0))) x.3

      longer : length more ≡ n + 1
      longer = let l = length-append b.answers (x.0 ∷ []) in let m = b.many in omega (arith, l, m)

    -- it committed, and the line is written,
    pub commits_on : n < options.budget → (x : TurnedBy Committed) (new : Option (List ℕ)) → TookLine h' old new → GoingByAnswers Answers input (n + 1) h' told new s u
    commits_on below x new took = record {
      answers = more Committed x;
      going = going_more (input (in_turn (more Committed x))) n h h' told old (going_on Committed x) below (answered Committed x) new took;
      allowed = is_allowed Committed x;
      many = longer Committed x;
      steps = counts_more Committed x;
    }

    -- or a prefix of it
    pub commits_and_breaks : n < options.budget → (x : TurnedBy Committed) (new : Option (List ℕ)) → TookPartOfLine h' old new → BrokeByAnswers Answers input (n + 1) h' told new s u
    commits_and_breaks below x new part =
        let next = (answered Committed x).0 in
        record {
          answers = more Committed x;
          is = broke_more (input (in_turn (more Committed x))) n h h' told old (going_on Committed x) below (answered Committed x) new part;
          allowed = allowed_more Answers (ran.before ++ ran.last ∷ []) next (more Committed x) (is_allowed Committed x);
          enough = let l = longer Committed x in omega (arith, l);
          asked = ran.before ++ ran.last ∷ [];
          others = next ∷ [];
          first = refl;
          steps = counts_more Committed x;
        }

    -- it didn't commit
    pub irreducible_by : (x : TurnedBy Irreducible) → StoppedByAnswers Answers input n h' stop.Irreducible told old s u
    irreducible_by x = record {
      answers = more Irreducible x;
      is = stops_irreducible (input (in_turn (more Irreducible x))) n h h' told old (going_on Irreducible x) (answered Irreducible x);
      allowed = is_allowed Irreducible x;
      enough = let l = longer Irreducible x in omega (arith, l);
      asked = ran.before ++ ran.last ∷ [];
      others = [];
      first = sym (no_others (ran.before ++ ran.last ∷ []));
      steps = counts_more Irreducible x;
    }

    pub full_by : n < options.budget → (x : TurnedBy Full) → StoppedByAnswers Answers input n h' stop.Full told old s u
    full_by below x = record {
      answers = more Full x;
      is = stops_full (input (in_turn (more Full x))) n h h' told old (going_on Full x) below (answered Full x);
      allowed = is_allowed Full x;
      enough = let l = longer Full x in omega (arith, l);
      asked = ran.before ++ ran.last ∷ [];
      others = [];
      first = sym (no_others (ran.before ++ ran.last ∷ []));
      steps = counts_more Full x;
    }

    pub no_memory_by : n < options.budget → (x : TurnedBy NoMemory) → StoppedByAnswers Answers input n h' stop.NoMemory told old s u
    no_memory_by below x = record {
      answers = more NoMemory x;
      is = stops_no_memory (input (in_turn (more NoMemory x))) n h h' told old (going_on NoMemory x) below (answered NoMemory x);
      allowed = is_allowed NoMemory x;
      enough = let l = longer NoMemory x in omega (arith, l);
      asked = ran.before ++ ran.last ∷ [];
      others = [];
      first = sym (no_others (ran.before ++ ran.last ∷ []));
      steps = counts_more NoMemory x;
    }

  -- the rest of a run that stopped is written, or a prefix of it
  pub concluded_by : (n : ℕ) (h h' : Heap) (why : Stop) (end : RunEnd) (old mid new : Option (List ℕ)) (s u : ℕ) →
      ((c : Chooser) (x : Stopped (input c) n h why old mid) → Concludes x h' end new) → StoppedByAnswers Answers input n h why old mid s u → DroveByAnswers Answers input n h' end old new s u
  concluded_by n h h' why end old mid new s u concludes b =
      let e = concludes (in_turn b.answers) b.is in
      let same : solids b.is.going.ran ≡ solids e.drove.ran = λ i. (sym e.before) i ++ (sym e.last) i ∷ [] in
      record {
        answers = b.answers;
        is = e.drove;
        allowed = subst (λ Ss. AreAllowed Answers Ss b.answers) same b.allowed;
        enough = b.enough;
        asked = b.asked;
        others = b.others;
        first = subst (λ Ss. Ss ≡ b.asked ++ b.others) same b.first;
        steps = b.steps;
      }

  -- a run that failed while it went on
  pub broken_by : (n : ℕ) (h : Heap) (old new : Option (List ℕ)) (s u : ℕ) → BrokeByAnswers Answers input n h old new s u → DroveByAnswers Answers input n h Failed old new s u
  broken_by n h old new s u b = record { answers = b.answers; is = drove_broke (input (in_turn b.answers)) n h old new b.is; allowed = b.allowed; enough = b.enough; asked = b.asked; others = b.others; first = b.first; steps = b.steps }
