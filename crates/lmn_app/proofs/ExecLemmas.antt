-- What runs a program by the codes of a listing.
use Rattle.std.proofs.Common.{◌≡◌, ◌≤◌, ◌<◌, ℕ, List, Option, length, refl, sym, subst, inl, inr, arith}
use Rattle.std.specs.List.{AllByRecursion}
use Rattle.std.specs.declared.alloc.Global.{Global}
use Rattle.lmn_app_accepted.proofs.PlanKinds.{at_index}
use Rattle.lmn_base.specs.declared.refusal.Refusal.{Refusal}
use Rattle.lmn_base.specs.declared.rule.Plain.{Plain}
use Rattle.lmn_base.specs.declared.solid.Solid.{Solid}
use Rattle.lmn_base.specs.Solids.{item_count}
use Rattle.lmn_base.specs.WellMade.{IsWellMade}
use Rattle.lmn_app_drive.specs.Driving.{stop_end}
use Rattle.lmn_verify_turns.specs.Laws.{AreVerified}
use Rattle.lmn_verify_coded.specs.Runs.{Executed}
use Rattle.lmn_verify_coded.specs.Turning.{CodedCanTurn}
use Rattle.lmn_verify_coded.proofs.Stops.{stop_no_failure}
use Rattle.lmn_congruence.specs.Regions.{item_count_of_region}
use Rattle.lmn_congruence.specs.Rules.{Name}
use Rattle.lmn_congruence.specs.SolidsOfPlains.{IsSolidOf}
use Rattle.lmn_congruence.proofs.SolidsOfPlains.{solids_of_plains}
use Rattle.lmn_congruence.proofs.TranslatedItems.{items_kept}
use Rattle.lmn_app_drive.specs.declared.driving.RunEnd.{RunEnd}
use Rattle.lmn_app_drive.specs.declared.driving.RunEnd.TheVariants as run
use Rattle.lmn_guards.specs.declared.plan.GuardPlan.{GuardPlan}
use Rattle.lmn_store_heap.specs.Heap.{Heap}
use Rattle.lmn_instr_code.specs.declared.instr.Code.{Code}
use Rattle.lmn_io.specs.Counts.{FailedLast, Faults, NoneFailed}
use Rattle.lmn_io.specs.Taking.{Takes, TakesPrefix}
use Rattle.lmn_io.proofs.TakingLemmas.{no_put}
use Rattle.lmn_schedule_loading.specs.Laws.{LoadedRules}
use Rattle.lmn_schedule_loading.specs.Loaded.{IsLoaded}
use Rattle.lmn_schedule_strategy.specs.Quieting.{AllAwake}
use Rattle.lmn_verify_laws.specs.Laws.{VerifiedAreQuiet, VerifiedAreRunnable}
use Rattle.lmn_app_runs.specs.Laws.{solid_of}
use Rattle.lmn_app_runs.specs.declared.stop.Stop.{Stop}
use Rattle.lmn_app_runs.specs.declared.stop.Stop.TheVariants as stop
use Rattle.lmn_verify_listing.specs.Listings.{AreListed, IsRefusedListing, not_a_listing, not_verified}
use Rattle.lmn_verify_code.specs.Verified.{IsVerified}
use Rattle.lmn_app_words.specs.declared.command.PairKind.TheVariants.{Exec}
use Rattle.lmn_app_words.specs.Forms.{Pair}
use Rattle.lmn_app_single.specs.declared.ending.Ending.{Ending}
use Rattle.lmn_app_single.specs.declared.ending.Ending.TheVariants.{SecondRefused, WriteFault}
use Rattle.lmn_app.specs.Executions.{IsExecuted, IsExecutedAs, IsWrongListing, ReadsCodes, executed_budget, executed_size}
use Rattle.lmn_app.specs.Pairs.{HasProgram}
use Rattle.lmn_app.specs.Runnings.{CodesRun, EndsExecuted, HasExecuted, HeapsAreExecuted, coded_input, not_begun, run_ended}
use Rattle.lmn_app_single.specs.Runnings.{ended_as}
use Rattle.lmn_app.specs.SecondTexts.{IsSecondCode}
use Rattle.lmn_app_single.specs.Texts.{Accepts}
use Rattle.lmn_app_single.specs.Writing.{IsToldAnd, told_under}
use Rattle.lmn_app.proofs.PairLemmas.{has_execution}

-- ---- the program

-- an accepted program of which a store holds the solid is that of `exec`
abbrev pub stored_program : (p : Pair) (texts : Option (List ℕ → Option (List ℕ))) (program : List ℕ) → IsToldAnd (told_under texts p.file) (λ found. found ≡ program)
    → (names : List Name) (plain : Plain) (plans : List GuardPlan) → Accepts program names plain plans → p.kind ≡ Exec → IsWellMade plain → (h : Heap) → IsLoaded plain h
    → ((s : Solid) → IsSolidOf plain s → item_count s ≤ executed_size) → HasProgram p texts
stored_program p texts program told names plain plans a kind made h l few =
    let s = l.solid in
    let fits : item_count_of_region (solid_of names plain s) ≤ executed_size = omega (arith, few s l.of_plain, items_kept names plain.rules s) in
    has_execution p texts program told names plain plans a kind (solid_of names plain s, solids_of_plains names plain s made l.of_plain, fits)

-- ---- turns by codes

-- each code of a listing is verified, of as many rules as they are
pub all_verified : (k : ℕ) (codes : List Code) → length codes ≡ k → AllByRecursion (λ code. IsVerified code k) codes → AreVerified codes
all_verified k codes many all n code is = subst (IsVerified code) (sym many) (at_index (λ c. IsVerified c k) codes n code all is)

-- verified codes of a listing can turn a store that is loaded
pub codes_can_turn : LoadedRules → VerifiedAreRunnable → VerifiedAreQuiet → (plain : Plain) (h : Heap) → IsWellMade plain → IsLoaded plain h → AllAwake h → (later : List Name) (codes : List Code) (listing : List ℕ)
    → AreListed (length plain.rules) later codes listing → AllByRecursion (λ code. IsVerified code (length plain.rules)) codes → CodedCanTurn h codes executed_size
codes_can_turn law runs quiet plain h made l awake later codes listing are verified = record {
  turn = record { valid = l.valid; unmarked = l.unmarked; of_table = λ m n i. subst (λ k. n < k) (sym are.many) (law plain h made l m n i) };
  sleeps = record { low = λ m. (let z = awake m in omega (arith, z)); none = λ m e. absurd (let z = awake m in omega (arith, z, e)) };
  runnable = runs codes (all_verified (length plain.rules) codes are.many verified);
  quiet = quiet codes (all_verified (length plain.rules) codes are.many verified);
  small = omega arith;
}

-- ---- how a call ends

-- what is executed is written with the ending of its stop
as_stopped : (program listing written : List ℕ) (why : Stop) → IsExecuted program listing why written → IsExecutedAs (ended_as (stop_end why)) program listing written
as_stopped program listing written stop.Irreducible x = x
as_stopped program listing written stop.Budget x = x
as_stopped program listing written stop.Full x = x
as_stopped program listing written stop.NoMemory x = x

module _ (program listing : List ℕ) (old new : Option (List ℕ)) where
  -- an execution that was written
  whole : (end : RunEnd) → HasExecuted program listing end old new → (end ≡ run.Failed → ⊥) → (written : List ℕ) × IsExecutedAs (ended_as end) program listing written × Takes written old new
  whole end x good = elim x.wrote [
    | inl w ↦ (x.written, subst (λ e. IsExecutedAs (ended_as e) program listing x.written) (sym w.0) (as_stopped program listing x.written x.why x.executed), w.1)
    | inr w ↦ absurd (good w.0)
  ]

  -- and one of which a part was
  part : HasExecuted program listing run.Failed old new → (written : List ℕ) × IsExecutedAs WriteFault program listing written × TakesPrefix written old new
  part x = elim x.wrote [
    | inl w ↦ absurd (stop_no_failure x.why (sym w.0))
    | inr w ↦ (x.written, (x.why, x.executed), w.1)
  ]

  module _ (before after : Faults) where
    ended_by : (end : RunEnd) → HasExecuted program listing end old new → ((end ≡ run.Failed → ⊥) → NoneFailed before after) → (end ≡ run.Failed → FailedLast before after)
        → EndsExecuted program listing (ended_as end) old new before after
    ended_by run.Irreducible x same rose = (whole run.Irreducible x (λ e. cc e), same (λ e. cc e))
    ended_by run.Budget x same rose = (whole run.Budget x (λ e. cc e), same (λ e. cc e))
    ended_by run.Full x same rose = (whole run.Full x (λ e. cc e), same (λ e. cc e))
    ended_by run.NoMemory x same rose = (inr (whole run.NoMemory x (λ e. cc e)), same (λ e. cc e))
    ended_by run.Failed x same rose = (part x, rose refl)

    -- the codes of the listing were run so
    pub codes_ended : HeapsAreExecuted → (alloc : Global) (of : ReadsCodes program listing) (first : Heap) → IsLoaded of.plain first → AllAwake first → ((s : Solid) → IsSolidOf of.plain s → item_count s ≤ executed_size)
        → (e : Ending) → CodesRun (coded_input of.later of.plain of.codes first) e old new before after → EndsExecuted program listing e old new before after
    codes_ended law alloc of first loaded awake few e (not_begun is same none) = subst (λ d. EndsExecuted program listing d old new before after) (sym is) (inl same, none)
    codes_ended law alloc of first loaded awake few e (run_ended end n last is valid x same rose) =
        subst (λ d. EndsExecuted program listing d old new before after) (sym is) (ended_by end (law alloc program listing of first loaded awake few n last end old new valid x) same rose)

-- a listing is refused by one of its codes
listing_code : (n : ℕ) (names later : List Name) (listing : List ℕ) (code line : ℕ) → IsRefusedListing n names later listing code line → IsSecondCode Exec code
listing_code n names later listing code line (not_a_listing w) = inr (inl refl)
listing_code n names later listing code line (not_verified codes are order w) = inr (inr refl)

-- something is wrong in the listing
pub wrong_ended : (program listing : List ℕ) (r : Refusal) (x : Option (List ℕ)) (count : Faults) → IsWrongListing program listing r → EndsExecuted program listing (SecondRefused Exec r) x x count count
wrong_ended program listing r x count w = let plain = w.plain in (w, listing_code (length plain.rules) w.names w.later listing r.code r.pos.line w.wrong, refl, no_put count)

-- a run of these codes over this store is one of what they are
pub ran_over : (names : List Name) (plain : Plain) (codes others : List Code) (first other : Heap) (size : ℕ) → other ≡ first → others ≡ codes → size ≡ executed_size
    → (n : ℕ) (last : Heap) (end : RunEnd) (old new : Option (List ℕ))
    → Executed (record { names = names; table = plain.rules; codes = others; budget = executed_budget; size = size; first = other }) n last end old new
    → Executed (coded_input names plain codes first) n last end old new
ran_over names plain codes others first other size store same small n last end old new x =
    subst (λ h. Executed (coded_input names plain codes h) n last end old new) store
    (subst (λ cs. Executed (coded_input names plain cs other) n last end old new) same
    (subst (λ k. Executed (record { names = names; table = plain.rules; codes = others; budget = executed_budget; size = k; first = other }) n last end old new) small x))
