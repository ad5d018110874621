-- What commands of a session answer is exact.
use Rattle.std.proofs.Common.{ℕ, zero, ◌≡◌, ◌≢◌, ◌<◌, ◌≤◌, ◌+◌, ◌⊎◌, List, ◌∷◌, ◌++◌, length, refl, sym, ap, subst, ◌∙◌, inl, inr, arith}
use Rattle.std.specs.Prelude.{All, drop}
use Rattle.std.proofs.lemmas.List.{drop-append-le}
use Rattle.lmn_base.proofs.Lists.{all_of_right}
use Rattle.lmn_congruence.specs.Process.{Closed}
use Rattle.lmn_congruence.specs.Regions.{Region, item_count_of_region, region_process}
use Rattle.lmn_congruence.specs.Rules.{Name}
use Rattle.lmn_adequacy.specs.Accepted.{Accepted, Throughout}
use Rattle.lmn_adequacy.specs.Choice.{paths}
use Rattle.lmn_adequacy.specs.Embedding.{AllRules}
use Rattle.lmn_adequacy.specs.Runs.{Turn, End, irreducible, budget_done, full, Ends, nothing_embeds, none_allowed, too_many}
use Rattle.lmn_adequacy.proofs.Heads.{all_rules_so}
use Rattle.lmn_adequacy.proofs.Numbering.{numbered_one}
use Rattle.lmn_adequacy.proofs.OneChoice.{next_from_one}
use Rattle.lmn_adequacy.proofs.Results.{throughout_itself}
use Rattle.lmn_adequacy.proofs.Runs.{embeds_in, trace_is_one, end_is_one, trace_commits}
use Rattle.lmn_debug.specs.Courses.{Course, EndsSo, GoesOn, IsAt, Meets, StepsTo, WaitsTo, Wish, Within, most_commits, most_turns}
use Rattle.lmn_debug.specs.Laws.{CoursesAreOne, SameOrLacking, StepsAreExact, WaitsAreExact}
use Rattle.lmn_debug.specs.declared.session.Stop.{Stop}
use Rattle.lmn_debug.specs.declared.session.Stop.TheVariants as stop
use Rattle.lmn_debug.proofs.Traces.{goes_on, passes}
use Rattle.lmn_base.proofs.Numbers.{in_order}

-- a course has one solid at each number
pub courses_are_one : CoursesAreOne
courses_are_one g t S S' closed accepted a b =
    let e = a.count in
    let d = b.count in
    (trace_is_one g.chooser most_commits g.size g.first a.before b.before S S' closed accepted a.trace b.trace (omega (arith, e, d))).1

-- the word of an end; that of the budget is none of a session's
abbrev word_of : End → Stop
word_of irreducible = stop.Irreducible
word_of full = stop.Full
word_of budget_done = stop.NoMemory

-- a trace ends at a number, not for its budget
record HasEnd (g : Course) (t : ℕ) (S : Region) (word : Stop) : Type 0 where
  pub end : End
  pub ends : EndsSo g t S end
  pub inside : ¬ (end ≡ budget_done)
  pub is : word ≡ word_of end

irreducible_end : {g : Course} {t : ℕ} {S : Region} → EndsSo g t S irreducible → HasEnd g t S stop.Irreducible
irreducible_end e = record { end = irreducible; ends = e; inside = λ d. absurd (cc d); is = refl }

full_end : {g : Course} {t : ℕ} {S : Region} → EndsSo g t S full → HasEnd g t S stop.Full
full_end e = record { end = full; ends = e; inside = λ d. absurd (cc d); is = refl }

module _ (g : Course) (closed : Closed (region_process g.first)) (accepted : AllRules (Throughout Accepted) g.first) where
  -- the next solid is one
  next_one : (t : ℕ) (S R R' : Region) → IsAt g t S → Turn g.chooser t S R → Turn g.chooser t S R' → R ≡ R'
  next_one t S R R' at a b =
      let held = trace_commits g.chooser most_commits g.size g.first at.before S closed accepted at.trace in
      numbered_one R R' (next_from_one (g.chooser t (length (paths S))) S R R' held.1 (all_rules_so throughout_itself S held.2) a.next b.next) a.numbered b.numbered

  -- what has ended doesn't go on
  not_on : (t : ℕ) (S : Region) (e : End) → IsAt g t S → EndsSo g t S e → ¬ (e ≡ budget_done) → ¬ (GoesOn g t S)
  not_on t S e at (nothing_embeds h) d on = h (embeds_in on.1.next)
  not_on t S e at (none_allowed h a) d on = d refl
  not_on t S e at (too_many {S' = R} l turn more) d on =
      let few = subst (λ w. item_count_of_region w ≤ g.size) (next_one t S on.0 R at on.1 turn) on.2 in
      absurd (omega (arith, few, more))

  -- where a trace ends there is no solid behind
  last : (t u : ℕ) (S S' : Region) (word : Stop) → IsAt g t S → HasEnd g t S word → IsAt g u S' → ¬ (t < u)
  last t u S S' word at e there l =
      let before = goes_on g u S' there t l in
      not_on t S e.end at e.ends e.inside (subst (GoesOn g t) (courses_are_one g t before.0 S closed accepted before.1 at) before.2)

  -- two ends are one
  ends_are_one : (t u : ℕ) (S S' : Region) (word word' : Stop) → IsAt g t S → HasEnd g t S word → IsAt g u S' → HasEnd g u S' word' → (word' ≡ word) × (u ≡ t)
  ends_are_one t u S S' word word' at e there d =
      let P : (k : ℕ) → Region → End → Type 0 = λ k R f. Ends g.chooser most_commits g.size k R f in
      let one = end_is_one g.chooser most_commits g.size g.first at.before there.before S S' e.end d.end closed accepted
      at.trace (subst (λ k. P k S e.end) (sym at.count) e.ends) there.trace (subst (λ k. P k S' d.end) (sym there.count) d.ends) in
      (d.is ∙ ap word_of (sym one.2) ∙ sym e.is, sym there.count ∙ ap length (sym one.0) ∙ at.count)

  -- where an end and want of memory are possible, that of memory is before
  lacking_before : (t u : ℕ) (S S' : Region) (word : Stop) → IsAt g t S → HasEnd g t S word → IsAt g u S' → GoesOn g u S' → u < t
  lacking_before t u S S' word at e there on = by (in_order u t)
    where
      by : (u ≡ t) ⊎ ((u < t) ⊎ (t < u)) → u < t
      by (inl same) =
          let here = subst (λ k. IsAt g k S') same there in
          let goes = subst (λ k. GoesOn g k S') same on in
          absurd (not_on t S e.end at e.ends e.inside (subst (GoesOn g t) (courses_are_one g t S' S closed accepted here at) goes))
      by (inr (inl l)) = l
      by (inr (inr l)) = absurd (last t u S S' word at e there l)

  -- ---- `step`

  -- how `step` stopped: all its turns are done, at an end, or for want of memory
  data Stops (t n t' : ℕ) (S : Region) : Stop → Type 0 where
    all_done : t' ≡ t + n → Stops t n t' S stop.Done
    at_end : {word : Stop} → Within t n t' → HasEnd g t' S word → Stops t n t' S word
    lacking : Within t n t' → GoesOn g t' S → Stops t n t' S stop.NoMemory

  view : (t n t' : ℕ) (S : Region) (why : Stop) → StepsTo g t n why t' S → Stops t n t' S why
  view t n t' S stop.Done to = all_done to
  view t n t' S stop.Irreducible to = at_end to.0 (irreducible_end to.1)
  view t n t' S stop.Full to = at_end to.0 (full_end to.1)
  view t n t' S stop.Met to = absurd to
  view t n t' S stop.Limit to = absurd to
  view t n t' S stop.NoMemory to = lacking to.0 to.1

  step_exact : (t n t' t'' : ℕ) (S S' : Region) (why why' : Stop) → IsAt g t' S → Stops t n t' S why → why ≢ stop.NoMemory → IsAt g t'' S' → Stops t n t'' S' why' → SameOrLacking why why' t' t''
  step_exact t n t' t'' S S' why why' at (all_done e) not there (all_done d) = inl (refl, omega (arith, e, d))
  step_exact t n t' t'' S S' why why' at (all_done e) not there (at_end w d) = let l = w.1 in absurd (last t'' t' S' S why' there d at (omega (arith, e, l)))
  step_exact t n t' t'' S S' why why' at (all_done e) not there (lacking w on) = let l = w.1 in inr (refl, omega (arith, e, l))
  step_exact t n t' t'' S S' why why' at (at_end w e) not there (all_done d) = let l = w.1 in absurd (last t' t'' S S' why at e there (omega (arith, d, l)))
  step_exact t n t' t'' S S' why why' at (at_end w e) not there (at_end v d) = inl (ends_are_one t' t'' S S' why why' at e there d)
  step_exact t n t' t'' S S' why why' at (at_end w e) not there (lacking v on) = inr (refl, lacking_before t' t'' S S' why at e there on)
  step_exact t n t' t'' S S' why why' at (lacking w on) not there d = absurd (not refl)

  -- ---- `until`

  module _ (names : List Name) (w : Wish) where
    -- how `until` stopped
    data Rests (t t' : ℕ) (S : Region) : Stop → Type 0 where
      met : t ≤ t' → t' ≤ t + most_turns → Meets names w S → Rests t t' S stop.Met
      limit : t' ≡ t + most_turns → ¬ (Meets names w S) → Rests t t' S stop.Limit
      rests_at_end : {word : Stop} → Within t most_turns t' → ¬ (Meets names w S) → HasEnd g t' S word → Rests t t' S word
      rests_lacking : Within t most_turns t' → ¬ (Meets names w S) → GoesOn g t' S → Rests t t' S stop.NoMemory

    rest : (t t' : ℕ) (S : Region) (why : Stop) → WaitsTo names g w t why t' S → Rests t t' S why
    rest t t' S stop.Done to = absurd to
    rest t t' S stop.Irreducible to = rests_at_end to.0 to.1 (irreducible_end to.2)
    rest t t' S stop.Full to = rests_at_end to.0 to.1 (full_end to.2)
    rest t t' S stop.Met to = met to.0 to.1 to.2
    rest t t' S stop.Limit to = limit to.0 to.1
    rest t t' S stop.NoMemory to = rests_lacking to.0 to.1 to.2

    abbrev None : ℕ → List Region → Type 0
    None t before = All (λ S. ¬ (Meets names w S)) (drop t before)

    -- a solid that was passed doesn't meet the wish
    passed : (t t' u : ℕ) (S S' : Region) (at : IsAt g t' S) (there : IsAt g u S') → t ≤ t' → t' < u → None t there.before → ¬ (Meets names w S)
    passed t t' u S S' at there l k none =
        let P : Region → Type 0 = λ R. ¬ (Meets names w R) in
        let count = there.count in
        let p = passes g there.trace t' (omega (arith, count, k)) in
        let number = p.number in
        let parts : drop t there.before ≡ drop t p.solids ++ p.solid ∷ p.others = ap (drop t) p.are ∙ drop-append-le t p.solids (p.solid ∷ p.others) (omega (arith, number, l)) in
        let rest = all_of_right P (drop t p.solids) (p.solid ∷ p.others) (subst (All P) parts none) in
        let one = courses_are_one g t' p.solid S closed accepted (record { before = p.solids; trace = p.trace; count = p.number }) at in
        subst P one (rest zero S (omega arith))

    -- a solid that meets the wish stands behind each place before which there is none that does, and that doesn't meet it
    meets_behind : (t t' u : ℕ) (S S' : Region) (at : IsAt g t' S) (there : IsAt g u S') → t ≤ t' → Meets names w S → None t there.before → ¬ (Meets names w S') → u < t'
    meets_behind t t' u S S' at there l m none unmet = by (in_order u t')
      where
        by : (u ≡ t') ⊎ ((u < t') ⊎ (t' < u)) → u < t'
        by (inl same) = absurd (unmet (subst (Meets names w) (courses_are_one g t' S S' closed accepted at (subst (λ k. IsAt g k S') same there)) m))
        by (inr (inl k)) = k
        by (inr (inr k)) = absurd (passed t t' u S S' at there l k none m)

    wait_exact : (t t' t'' : ℕ) (S S' : Region) (why why' : Stop) (at : IsAt g t' S) → None t at.before → Rests t t' S why → why ≢ stop.NoMemory →
        (there : IsAt g t'' S') → None t there.before → Rests t t'' S' why' → SameOrLacking why why' t' t''
    wait_exact t t' t'' S S' why why' at none (met l h m) not there none' (met k j n) = by (in_order t'' t')
      where
        by : (t'' ≡ t') ⊎ ((t'' < t') ⊎ (t' < t'')) → SameOrLacking stop.Met stop.Met t' t''
        by (inl same) = inl (refl, same)
        by (inr (inl before)) = absurd (passed t t'' t' S' S there at k before none n)
        by (inr (inr behind)) = absurd (passed t t' t'' S S' at there l behind none' m)
    wait_exact t t' t'' S S' why why' at none (met l h m) not there none' (limit e n) = let b = meets_behind t t' t'' S S' at there l m none' n in absurd (omega (arith, b, e, h))
    wait_exact t t' t'' S S' why why' at none (met l h m) not there none' (rests_at_end v n d) = absurd (last t'' t' S' S why' there d at (meets_behind t t' t'' S S' at there l m none' n))
    wait_exact t t' t'' S S' why why' at none (met l h m) not there none' (rests_lacking v n on) = inr (refl, meets_behind t t' t'' S S' at there l m none' n)
    wait_exact t t' t'' S S' why why' at none (limit e u) not there none' (met k j n) = let b = meets_behind t t'' t' S' S there at k n none u in absurd (omega (arith, b, e, j))
    wait_exact t t' t'' S S' why why' at none (limit e u) not there none' (limit d n) = inl (refl, omega (arith, e, d))
    wait_exact t t' t'' S S' why why' at none (limit e u) not there none' (rests_at_end v n d) = let k = v.1 in absurd (last t'' t' S' S why' there d at (omega (arith, e, k)))
    wait_exact t t' t'' S S' why why' at none (limit e u) not there none' (rests_lacking v n on) = let k = v.1 in inr (refl, omega (arith, e, k))
    wait_exact t t' t'' S S' why why' at none (rests_at_end v u e) not there none' (met k j n) = absurd (last t' t'' S S' why at e there (meets_behind t t'' t' S' S there at k n none u))
    wait_exact t t' t'' S S' why why' at none (rests_at_end v u e) not there none' (limit d n) = let k = v.1 in absurd (last t' t'' S S' why at e there (omega (arith, d, k)))
    wait_exact t t' t'' S S' why why' at none (rests_at_end v u e) not there none' (rests_at_end x n d) = inl (ends_are_one t' t'' S S' why why' at e there d)
    wait_exact t t' t'' S S' why why' at none (rests_at_end v u e) not there none' (rests_lacking x n on) = inr (refl, lacking_before t' t'' S S' why at e there on)
    wait_exact t t' t'' S S' why why' at none (rests_lacking v u on) not there none' r' = absurd (not refl)

-- what `step` answers is exact
pub steps_are_exact : StepsAreExact
steps_are_exact g t n t' t'' why why' closed accepted s not s' =
    step_exact g closed accepted t n t' t'' s.solid s'.solid why why' s.is (view g closed accepted t n t' s.solid why s.stops) not s'.is (view g closed accepted t n t'' s'.solid why' s'.stops)

-- and what `until` answers
pub waits_are_exact : WaitsAreExact
waits_are_exact names g w t t' t'' why why' closed accepted s not s' =
    wait_exact g closed accepted names w t t' t'' s.solid s'.solid why why' s.is s.none_before (rest g closed accepted names w t t' s.solid why s.stops) not s'.is s'.none_before (rest g closed accepted names w t t'' s'.solid why' s'.stops)
