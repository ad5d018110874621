-- What follows from what a command leaves behind.
use Rattle.std.specs.Prelude.{◌≡◌, ℕ, ◌⊎◌, List, Option, None, Some}
use Rattle.std.proofs.Common.{inl, inr, subst, sym}
use Rattle.lmn_base.specs.declared.refusal.Refusal.{Refusal}
use Rattle.lmn_io.specs.Counts.{FailedLast, Faults, Rose}
use Rattle.lmn_app_runs.specs.declared.stop.Stop.{Stop}
use Rattle.lmn_app_single.specs.declared.ending.Ending.{Ending}
use Rattle.lmn_app_single.specs.declared.ending.Ending.TheVariants.{Done, Budget, Refused, Words, ReadFault, WriteFault, NoMemory, Full, SecondRefused}
use Rattle.lmn_app_words.specs.declared.command.RunSettings.{RunSettings}
use Rattle.lmn_app_single.specs.declared.task.Task.{Task}
use Rattle.lmn_app_single.specs.declared.task.Task.TheVariants as task
use Rattle.lmn_app_single.specs.Endings.{Concludes}
use Rattle.lmn_app_single.specs.Outcomes.{Answers, Ended, RefusesText}
use Rattle.lmn_app_single.specs.Texts.{IsAccepted}
use Rattle.lmn_app_single.specs.Requests.{most_items}
use Rattle.lmn_app_single.specs.Writing.{IfTold, IsToldAnd, Lists, WritesRun}
use Rattle.lmn_app.proofs.TextLemmas.{refused_not_accepted}

-- ---- statuses

-- where it holds of each text it holds of the one that is told
pub when_told : (told : Option (Option (List ℕ))) (P : List ℕ → Type 0) → ((text : List ℕ) → P text) → IfTold told P
when_told None P h = tt
when_told (Some None) P h = tt
when_told (Some (Some text)) P h = h text

-- the text that is told is this one
pub told_is : (told : Option (Option (List ℕ))) (text : List ℕ) (P : List ℕ → Type 0) → IsToldAnd told (λ found. found ≡ text) → P text → IfTold told P
told_is None text P h p = tt
told_is (Some None) text P h p = tt
told_is (Some (Some found)) text P h p = subst P (sym h) p

-- a text that is told and is refused isn't accepted
pub refused_told : (size : Option ℕ) (told : Option (Option (List ℕ))) (r : Refusal) (A : Type 0) → RefusesText size told r → IfTold told (λ text. IsAccepted size text → A)
refused_told size told r A h = told_is told h.text (λ text. IsAccepted size text → A) h.is_told (λ a. absurd (refused_not_accepted size h.text r h.refused a))

-- where nothing fails, an accepted text is answered so
pub accepted_answered : (t : Task) (ending : Ending) (told : Option (Option (List ℕ))) (oo on : Option (List ℕ)) (ob oa : Faults) (rb ra status : ℕ) (eo en : Option (List ℕ)) (eb ea : Faults)
    → Ended t ending told oo on ob oa rb ra → Concludes ending status eo en eb ea → ¬ (Rose rb ra) → ¬ (FailedLast ob oa) → ¬ (FailedLast eb ea)
    → IfTold told (λ text. IsAccepted (most_items t) text → Answers t status)
accepted_answered t ending told oo on ob oa rb ra status eo en eb ea h (inr (s, p, rose, line)) read out err = absurd (err rose)
accepted_answered (task.Run s) Done told oo on ob oa rb ra status eo en eb ea h (inl k) read out err = when_told told _ (λ text a. inl k.0)
accepted_answered (task.Run s) Budget told oo on ob oa rb ra status eo en eb ea h (inl k) read out err = when_told told _ (λ text a. inr (inl k.0))
accepted_answered (task.Run s) Full told oo on ob oa rb ra status eo en eb ea h (inl k) read out err = when_told told _ (λ text a. inr (inr (inl k.0)))
accepted_answered (task.Run s) NoMemory told oo on ob oa rb ra status eo en eb ea h (inl k) read out err = when_told told _ (λ text a. inr (inr (inr k.0)))
accepted_answered task.List Done told oo on ob oa rb ra status eo en eb ea h (inl k) read out err = when_told told _ (λ text a. inl k.0)
accepted_answered task.List Budget told oo on ob oa rb ra status eo en eb ea h (inl k) read out err = absurd (h.output)
accepted_answered task.List Full told oo on ob oa rb ra status eo en eb ea h (inl k) read out err = absurd (h.output)
accepted_answered task.List NoMemory told oo on ob oa rb ra status eo en eb ea h (inl k) read out err = when_told told _ (λ text a. inr k.0)
accepted_answered t (Refused r) told oo on ob oa rb ra status eo en eb ea h (inl k) read out err = refused_told (most_items t) told r (Answers t status) h.cause
accepted_answered t Words told oo on ob oa rb ra status eo en eb ea h (inl k) read out err = absurd (h.cause)
accepted_answered t ReadFault told oo on ob oa rb ra status eo en eb ea h (inl k) read out err = absurd (read h.cause)
accepted_answered t WriteFault told oo on ob oa rb ra status eo en eb ea h (inl k) read out err = absurd (out h.counts)
accepted_answered t (SecondRefused kind r) told oo on ob oa rb ra status eo en eb ea h (inl k) read out err = absurd (h.cause)

-- a status of a task that is refused, or of which the file can't be read, or that has no memory
abbrev pub Refusing : ℕ → Type 0
Refusing status = (status ≡ 2) ⊎ (status ≡ 4) ⊎ (status ≡ 5) ⊎ (status ≡ 6)

-- a run of a text is one of an accepted text
run_accepted : (s : RunSettings) (told : Option (Option (List ℕ))) (why : Stop) (old new : Option (List ℕ)) (A : Type 0) → WritesRun s told why old new → IfTold told (λ text. ¬ (IsAccepted (Some s.size) text) → A)
run_accepted s told why old new A h =
    let t = h.trace in
    told_is told h.text (λ text. ¬ (IsAccepted (Some s.size) text) → A) h.is_told (λ none. absurd (none (t.names, t.plain, t.plans, t.accepted, (t.solid, t.of_plain, t.few))))

list_accepted : (told : Option (Option (List ℕ))) (Took : List ℕ → Type 0) (A : Type 0) → Lists told Took → IfTold told (λ text. ¬ (IsAccepted None text) → A)
list_accepted told Took A h =
    let l = h.of in
    told_is told h.text (λ text. ¬ (IsAccepted None text) → A) h.is_told (λ none. absurd (none (l.names, l.plain, l.plans, l.accepted, tt)))

-- a text that isn't accepted is answered by 2, 4, 5 or 6
pub unaccepted_answered : (t : Task) (ending : Ending) (told : Option (Option (List ℕ))) (oo on : Option (List ℕ)) (ob oa : Faults) (rb ra status : ℕ) (eo en : Option (List ℕ)) (eb ea : Faults)
    → Ended t ending told oo on ob oa rb ra → Concludes ending status eo en eb ea → IfTold told (λ text. ¬ (IsAccepted (most_items t) text) → Refusing status)
unaccepted_answered t ending told oo on ob oa rb ra status eo en eb ea h (inr (s, p, rose, line)) = when_told told _ (λ text n. inr (inr (inl s)))
unaccepted_answered (task.Run s) Done told oo on ob oa rb ra status eo en eb ea h (inl k) = run_accepted s told _ oo on (Refusing status) h.output
unaccepted_answered (task.Run s) Budget told oo on ob oa rb ra status eo en eb ea h (inl k) = run_accepted s told _ oo on (Refusing status) h.output
unaccepted_answered (task.Run s) Full told oo on ob oa rb ra status eo en eb ea h (inl k) = run_accepted s told _ oo on (Refusing status) h.output
unaccepted_answered task.List Done told oo on ob oa rb ra status eo en eb ea h (inl k) = list_accepted told _ (Refusing status) h.output
unaccepted_answered task.List Budget told oo on ob oa rb ra status eo en eb ea h (inl k) = absurd (h.output)
unaccepted_answered task.List Full told oo on ob oa rb ra status eo en eb ea h (inl k) = absurd (h.output)
unaccepted_answered t (Refused r) told oo on ob oa rb ra status eo en eb ea h (inl k) = when_told told _ (λ text n. inl k.0)
unaccepted_answered t Words told oo on ob oa rb ra status eo en eb ea h (inl k) = absurd (h.cause)
unaccepted_answered t ReadFault told oo on ob oa rb ra status eo en eb ea h (inl k) = when_told told _ (λ text n. inr (inl k.0))
unaccepted_answered t WriteFault told oo on ob oa rb ra status eo en eb ea h (inl k) = when_told told _ (λ text n. inr (inr (inl k.0)))
unaccepted_answered t NoMemory told oo on ob oa rb ra status eo en eb ea h (inl k) = when_told told _ (λ text n. inr (inr (inr k.0)))
unaccepted_answered t (SecondRefused kind r) told oo on ob oa rb ra status eo en eb ea h (inl k) = absurd (h.cause)
