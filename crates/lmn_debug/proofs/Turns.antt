-- What turns do to a session. Each exit of the code is one of these.
use Rattle.std.proofs.Common.{ℕ, ◌≡◌, ◌<◌, ◌≤◌, ◌+◌, List, [], ◌∷◌, ◌++◌, length, Option, Some, None, refl, sym, ap, subst, ◌∙◌, arith}
use Rattle.std.specs.Prelude.{All, drop, Bool, true, false, IsTrue, IsFalse}
use Rattle.lmn_congruence.specs.Rules.{Name}
use Rattle.std.proofs.lemmas.List.{length-append, drop-append-le}
use Rattle.std.proofs.lemmas.List.Elements.{All-append, All-nil, All-cons}
use Rattle.lmn_base.specs.declared.rule.RuleTree.{RuleTree}
use Rattle.lmn_store_heap.specs.Heap.{Heap}
use Rattle.lmn_congruence.specs.Regions.{Region}
use Rattle.lmn_adequacy.specs.Runs.{Turn as Chooses, loaded, turned, nothing_embeds, too_many}
use Rattle.lmn_schedule_strategy.specs.declared.turning.Turn.{Turn}
use Rattle.lmn_schedule_strategy.specs.declared.turning.Turn.TheVariants as answer
use Rattle.lmn_schedule.specs.Held.{HoldsRegion}
use Rattle.lmn_schedule.specs.Turning.{IsTurned, counted as commits_of}
use Rattle.lmn_debug.specs.declared.session.Stop.{Stop}
use Rattle.lmn_debug.specs.declared.session.Stop.TheVariants as stop
use Rattle.lmn_debug.specs.Breaks.{StandsSo}
use Rattle.lmn_debug.specs.Counts.{IsCount}
use Rattle.lmn_debug.specs.Courses.{Course, StepsTo, WaitsTo, Wish, Meets, Within, most_commits, most_turns}
use Rattle.lmn_debug.specs.Sessions.{StandsAt, StandsStepped, StandsWaited}
use Rattle.lmn_debug.specs.Turning.{Refuses, TurnsTo, Waits, WaitsOn, counted}
use Rattle.lmn_debug.proofs.CountLemmas.{so_once}

-- what holds of a table and of a size holds of equal ones
pub moved_to : (P : List RuleTree → ℕ → Type 0) {T T' : List RuleTree} {z z' : ℕ} → T ≡ T' → z ≡ z' → P T z → P T' z'
moved_to P {T} {T'} {z} {z'} e d p = subst (λ k. P T' k) d (subst (λ U. P U z) e p)

-- a test has one answer
pub not_both : (b : Bool) → IsFalse b → IsTrue b → ⊥
not_both true f t = absurd (cc)
not_both false f t = absurd (cc)

-- where the count doesn't stand so, the solid doesn't meet the wish
pub unmet_in : (names : List Name) (S : Region) (w : Wish) (k : ℕ) → IsCount names w.functor S k → ¬ (StandsSo w.op k w.number) → ¬ (Meets names w S)
unmet_in names S w k c d m = d (subst (λ n. StandsSo w.op n w.number) (so_once m.1 c) m.2)

-- a session stands at the number 0 of what its heap holds
pub stands_first : (names : List Name) (table : List RuleTree) (g : Course) (h : Heap) → HoldsRegion names table h g.first → StandsAt names table g 0 h
stands_first names table g h o = record { solid = g.first; is = record { before = []; trace = loaded; count = refl }; holds = o }

-- what a turn answers, as the session tells it
abbrev pub stop_of : Turn → Option Stop
stop_of answer.Committed = None
stop_of answer.Irreducible = Some stop.Irreducible
stop_of answer.Full = Some stop.Full
stop_of answer.NoMemory = Some stop.NoMemory

module _ (names : List Name) (table : List RuleTree) (g : Course) where
  -- a turn of the engine is one of the session
  pub turn_to : (t : ℕ) (h h' : Heap) (s : StandsAt names table g t h) → t < most_commits → (a : Turn) → IsTurned names table g.chooser g.size t s.solid a h' → TurnsTo names table g s.solid s.is.before (stop_of a) (t + commits_of a) h'
  turn_to t h h' s below answer.Committed (S', next, few, held) =
      let count = s.is.count in
      let under : length s.is.before < most_commits = omega (arith, count, below) in
      let chosen : Chooses g.chooser (length s.is.before) s.solid S' = subst (λ k. Chooses g.chooser k s.solid S') (sym count) next.turn in
      let long : length (s.is.before ++ s.solid ∷ []) ≡ t + 1 = length-append s.is.before (s.solid ∷ []) ∙ ap (λ k. k + 1) count in
      (record { solid = S'; is = record { before = s.is.before ++ s.solid ∷ []; trace = turned s.is.trace under chosen few; count = long }; holds = held }, refl)
  turn_to t h h' s below answer.Irreducible (done, held) =
      let same : t + 0 ≡ t = omega arith in
      subst (λ k. TurnsTo names table g s.solid s.is.before (Some stop.Irreducible) k h') (sym same)
      (record { solid = s.solid; is = s.is; holds = held }, refl, refl, nothing_embeds done.nothing_embeds)
  turn_to t h h' s below answer.Full ((S', chosen, more), held) =
      let same : t + 0 ≡ t = omega arith in
      subst (λ k. TurnsTo names table g s.solid s.is.before (Some stop.Full) k h') (sym same)
      (record { solid = s.solid; is = s.is; holds = held }, refl, refl, too_many below chosen more)
  turn_to t h h' s below answer.NoMemory (on, held) =
      let same : t + 0 ≡ t = omega arith in
      subst (λ k. TurnsTo names table g s.solid s.is.before (Some stop.NoMemory) k h') (sym same)
      (record { solid = s.solid; is = s.is; holds = held }, refl, refl, on)

  -- `step` stops where a session stands
  pub stepped_by : (t n t' : ℕ) (h : Heap) (why : Stop) (s : StandsAt names table g t' h) → StepsTo g t n why t' s.solid → StandsStepped names table g t n why t' h
  stepped_by t n t' h why s to = record { stepped = record { solid = s.solid; is = s.is; stops = to }; holds = s.holds }

  -- and there the session stands
  pub stands_stepped : {t n t' : ℕ} {h : Heap} {why : Stop} → StandsStepped names table g t n why t' h → StandsAt names table g t' h
  stands_stepped s = record { solid = s.stepped.solid; is = s.stepped.is; holds = s.holds }

  -- `step` stops at a turn that doesn't commit
  pub step_stops : (t n t' : ℕ) (h : Heap) (S : Region) (before : List Region) → Within t n t' → (why : Stop) → TurnsTo names table g S before (Some why) t' h → StandsStepped names table g t n why t' h
  step_stops t n t' h S before w stop.Done (s, b, e, r) = absurd r
  step_stops t n t' h S before w stop.Irreducible (s, b, e, r) = stepped_by t n t' h stop.Irreducible s (w, r)
  step_stops t n t' h S before w stop.Full (s, b, e, r) = stepped_by t n t' h stop.Full s (w, r)
  step_stops t n t' h S before w stop.Met (s, b, e, r) = absurd r
  step_stops t n t' h S before w stop.Limit (s, b, e, r) = absurd r
  step_stops t n t' h S before w stop.NoMemory (s, b, e, r) = stepped_by t n t' h stop.NoMemory s (w, r)

  module _ (w : Wish) where
    -- `until` stops where a session stands
    waited_by : (t t' : ℕ) (h : Heap) (why : Stop) (s : StandsAt names table g t' h) → All (λ S. ¬ (Meets names w S)) (drop t s.is.before) → WaitsTo names g w t why t' s.solid → StandsWaited names table g w t why t' h
    waited_by t t' h why s none to = record { waited = record { solid = s.solid; is = s.is; none_before = none; stops = to }; holds = s.holds }

    -- at the start there is none
    pub waits_first : (t : ℕ) (h : Heap) → StandsAt names table g t h → Waits names table g w t t h
    waits_first t h s = record { stands = s; none_before = subst (All (λ S. ¬ (Meets names w S))) (sym (all_dropped s.is.before t s.is.count)) (All-nil (λ S. ¬ (Meets names w S))) }
      where
        all_dropped : (xs : List Region) (t : ℕ) → length xs ≡ t → drop t xs ≡ []
        all_dropped [] t e = subst (λ k. drop {A = Region} k [] ≡ []) e refl
        all_dropped (x ∷ xs) t e = subst (λ k. drop k (x ∷ xs) ≡ []) e (all_dropped xs (length xs) refl)

    -- a commit, where the solid doesn't meet it
    pub waits_on : (t t' k : ℕ) (h h' : Heap) (v : Waits names table g w t t' h) → t ≤ t' → ¬ (Meets names w v.stands.solid) → TurnsTo names table g v.stands.solid v.stands.is.before None k h' → Waits names table g w t k h'
    waits_on t t' k h h' v l unmet (s, b) =
        let P : Region → Type 0 = λ S. ¬ (Meets names w S) in
        let count = v.stands.is.count in
        let long : t ≤ length v.stands.is.before = omega (arith, count, l) in
        let dropped : drop t s.is.before ≡ drop t v.stands.is.before ++ v.stands.solid ∷ [] = ap (drop t) b ∙ drop-append-le t v.stands.is.before (v.stands.solid ∷ []) long in
        record { stands = s; none_before = subst (All P) (sym dropped) (All-append P (drop t v.stands.is.before) (v.stands.solid ∷ []) v.none_before (All-cons P v.stands.solid [] unmet (All-nil P))) }

    -- a turn that doesn't commit
    pub waits_stops : (t t' k : ℕ) (h h' : Heap) (v : Waits names table g w t t' h) → Within t most_turns k → ¬ (Meets names w v.stands.solid) → (why : Stop) → TurnsTo names table g v.stands.solid v.stands.is.before (Some why) k h' → StandsWaited names table g w t why k h'
    waits_stops t t' k h h' v within unmet why (s, b, e, r) =
        let not_here : ¬ (Meets names w s.solid) = subst (λ S. ¬ (Meets names w S)) (sym e) unmet in
        by why s (subst (λ xs. All (λ S. ¬ (Meets names w S)) (drop t xs)) (sym b) v.none_before) not_here r
      where
        by : (why : Stop) (s : StandsAt names table g k h') → All (λ S. ¬ (Meets names w S)) (drop t s.is.before) → ¬ (Meets names w s.solid) → Refuses g k s.solid why → StandsWaited names table g w t why k h'
        by stop.Done s none u r = absurd r
        by stop.Irreducible s none u r = waited_by t k h' stop.Irreducible s none (within, u, r)
        by stop.Full s none u r = waited_by t k h' stop.Full s none (within, u, r)
        by stop.Met s none u r = absurd r
        by stop.Limit s none u r = absurd r
        by stop.NoMemory s none u r = waited_by t k h' stop.NoMemory s none (within, u, r)

    -- the solid meets it
    pub waits_met : (t t' : ℕ) (h : Heap) (v : Waits names table g w t t' h) → t ≤ t' → t' ≤ t + most_turns → Meets names w v.stands.solid → StandsWaited names table g w t stop.Met t' h
    waits_met t t' h v l m meets = waited_by t t' h stop.Met v.stands v.none_before (l, m, meets)

    -- all turns are taken, and the solid doesn't meet it
    pub waits_limit : (t t' : ℕ) (h : Heap) (v : Waits names table g w t t' h) → t' ≡ t + most_turns → ¬ (Meets names w v.stands.solid) → StandsWaited names table g w t stop.Limit t' h
    waits_limit t t' h v e unmet = waited_by t t' h stop.Limit v.stands v.none_before (e, unmet)

    -- a turn where the solid doesn't meet it
    pub waits_one : (t t' k : ℕ) (h h' : Heap) (v : Waits names table g w t t' h) → t ≤ t' → t' < t + most_turns → ¬ (Meets names w v.stands.solid) → (o : Option Stop) → TurnsTo names table g v.stands.solid v.stands.is.before o k h' → k ≡ t' + counted o → WaitsOn names table g w t o k h'
    waits_one t t' k h h' v l m unmet None turn e = waits_on t t' k h h' v l unmet turn
    waits_one t t' k h h' v l m unmet (Some why) turn e = waits_stops t t' k h h' v (omega (arith, l, e), omega (arith, m, e)) unmet why turn
