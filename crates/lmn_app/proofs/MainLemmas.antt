-- What follows of how a call is answered, by its status.
use Rattle.std.proofs.Common.{◌≡◌, ◌≢◌, ◌≤◌, ℕ, List, [], Option, Some, None, ◌⊎◌, inl, inr, refl, sym, ap, ◌∙◌, subst, append-nil, arith}
use Rattle.std.specs.declared.string.String.{String}
use Rattle.std.specs.declared.alloc.Global.{Global}
use Rattle.lmn_base.specs.declared.refusal.Refusal.{Refusal}
use Rattle.lmn_io.specs.Counts.{FailedLast, Faults, NoneBehindFailed, NoneFailed}
use Rattle.lmn_io.specs.Taking.{Takes}
use Rattle.lmn_io.specs.Texts.{Fetch}
use Rattle.lmn_io.proofs.TakingLemmas.{no_put}
use Rattle.lmn_app_single.specs.declared.ending.Ending.{Ending}
use Rattle.lmn_app_single.specs.declared.ending.Ending.TheVariants.{Done, Budget, Refused, Words, ReadFault, WriteFault, NoMemory, Full, SecondRefused}
use Rattle.lmn_app_words.specs.Laws.{OneRequest}
use Rattle.lmn_app_words.specs.Forms.{InForm, Request}
use Rattle.lmn_app_words.specs.declared.command.PairKind.{PairKind}
use Rattle.lmn_app_words.specs.Forms.{Pair, to_run, to_compile, to_demo, to_pair}
use Rattle.lmn_app_single.specs.Endings.{Concludes, line_of_ending, refusal_line, status_of}
use Rattle.lmn_app_single.specs.Endings.{second_status}
use Rattle.lmn_app.specs.Promises.{ErrFailed, KeepsPromises, OutFailed}
use Rattle.lmn_app.specs.Outcomes.{AnswersOf, OutputOf, PairOutput, RefusesSecondOf, RequestEnded}
use Rattle.lmn_app_single.specs.Outcomes.{CountsFaults, Output, RefusesText}
use Rattle.lmn_app_single.specs.declared.task.Task.{Task}
use Rattle.lmn_app_single.specs.declared.task.Task.TheVariants as task
use Rattle.lmn_app_single.specs.Demos.{demo_text}
use Rattle.lmn_app_single.specs.Requests.{Asked, folded_run, settings_of}
use Rattle.lmn_app.specs.Requests.{Fetches, FetchesAll, ReadRose, most_items_of, told_of}
use Rattle.lmn_app_single.specs.Texts.{IsAccepted}
use Rattle.lmn_app_single.specs.Writing.{IfTold, told_under}
use Rattle.lmn_app.proofs.OutcomeLemmas.{Refusing}
use Rattle.lmn_app.proofs.RequestLemmas.{not_words, read_counted, refusal_of, request_answered, request_refused_so, second_high, second_of}

-- ---- each status is that of one ending

-- the status 0 is that of a task that is done
pub done_is : (e : Ending) → status_of e ≡ 0 → e ≡ Done
done_is Done h = refl
done_is Budget h = absurd (cc)
done_is (Refused r) h = absurd (cc)
done_is Words h = absurd (cc)
done_is ReadFault h = absurd (cc)
done_is WriteFault h = absurd (cc)
done_is NoMemory h = absurd (cc)
done_is Full h = absurd (cc)
done_is (SecondRefused kind r) h = let high = second_high kind in absurd (omega (arith, high.0, h))

-- the status 1 that of a budget that is done
pub budget_is : (e : Ending) → status_of e ≡ 1 → e ≡ Budget
budget_is Done h = absurd (cc)
budget_is Budget h = refl
budget_is (Refused r) h = absurd (cc)
budget_is Words h = absurd (cc)
budget_is ReadFault h = absurd (cc)
budget_is WriteFault h = absurd (cc)
budget_is NoMemory h = absurd (cc)
budget_is Full h = absurd (cc)
budget_is (SecondRefused kind r) h = let high = second_high kind in absurd (omega (arith, high.0, h))

-- the status 6 that of want of memory
pub memory_is : (e : Ending) → status_of e ≡ 6 → e ≡ NoMemory
memory_is Done h = absurd (cc)
memory_is Budget h = absurd (cc)
memory_is (Refused r) h = absurd (cc)
memory_is Words h = absurd (cc)
memory_is ReadFault h = absurd (cc)
memory_is WriteFault h = absurd (cc)
memory_is NoMemory h = refl
memory_is Full h = absurd (cc)
memory_is (SecondRefused kind r) h = let high = second_high kind in absurd (omega (arith, high.0, h))

-- the status 7 that of a size that is reached
pub full_is : (e : Ending) → status_of e ≡ 7 → e ≡ Full
full_is Done h = absurd (cc)
full_is Budget h = absurd (cc)
full_is (Refused r) h = absurd (cc)
full_is Words h = absurd (cc)
full_is ReadFault h = absurd (cc)
full_is WriteFault h = absurd (cc)
full_is NoMemory h = absurd (cc)
full_is Full h = refl
full_is (SecondRefused kind r) h = let high = second_high kind in absurd (omega (arith, high.0, h))

-- the status 3 that of words that ask for nothing
pub words_is : (e : Ending) → status_of e ≡ 3 → e ≡ Words
words_is Done h = absurd (cc)
words_is Budget h = absurd (cc)
words_is (Refused r) h = absurd (cc)
words_is Words h = refl
words_is ReadFault h = absurd (cc)
words_is WriteFault h = absurd (cc)
words_is NoMemory h = absurd (cc)
words_is Full h = absurd (cc)
words_is (SecondRefused kind r) h = let high = second_high kind in absurd (omega (arith, high.0, h))

-- the status 4 that of a file that can't be read
pub read_is : (e : Ending) → status_of e ≡ 4 → e ≡ ReadFault
read_is Done h = absurd (cc)
read_is Budget h = absurd (cc)
read_is (Refused r) h = absurd (cc)
read_is Words h = absurd (cc)
read_is ReadFault h = refl
read_is WriteFault h = absurd (cc)
read_is NoMemory h = absurd (cc)
read_is Full h = absurd (cc)
read_is (SecondRefused kind r) h = let high = second_high kind in absurd (omega (arith, high.0, h))

write_is : (e : Ending) → status_of e ≡ 5 → e ≡ WriteFault
write_is Done h = absurd (cc)
write_is Budget h = absurd (cc)
write_is (Refused r) h = absurd (cc)
write_is Words h = absurd (cc)
write_is ReadFault h = absurd (cc)
write_is WriteFault h = refl
write_is NoMemory h = absurd (cc)
write_is Full h = absurd (cc)
write_is (SecondRefused kind r) h = let high = second_high kind in absurd (omega (arith, high.0, h))

-- and none is above 11
pub status_most : (e : Ending) → status_of e ≤ 11
status_most Done = omega arith
status_most Budget = omega arith
status_most (Refused r) = omega arith
status_most Words = omega arith
status_most ReadFault = omega arith
status_most WriteFault = omega arith
status_most NoMemory = omega arith
status_most Full = omega arith
status_most (SecondRefused kind r) = let high = second_high kind in high.1

took_nothing : (old new : Option (List ℕ)) → Takes [] old new → new ≡ old
took_nothing None new h = h
took_nothing (Some old) new h = h ∙ ap Some (append-nil old)

-- What is done for the words: a command ended so, or there is none and nothing was done. `texts` is what the shelf tells, `read` and
-- `reads` are the counts of its files.
module _ (one : OneRequest) (words : List (String Global)) (texts : Option (List ℕ → Option (List ℕ))) (read reads : List ℕ → ℕ) (oo on eo en : Option (List ℕ)) (ob oa eb ea : Faults) (status : ℕ) where
  abbrev pub Acted : Ending → Type 0
  Acted e = Asked words (λ c. RequestEnded c e texts oo on ob oa read reads) ⊎ (¬ (InForm words) × (e ≡ Words) × (on ≡ oo) × (oa ≡ ob))

  abbrev pub Concluded : Ending → Type 0
  Concluded e = Concludes e status eo en eb ea

  -- the shelf was asked, or memory was wanting for the words
  pub asked_or_memory : {P Q : Type 0} (e : Ending) → P ⊎ (Q × (e ≡ NoMemory)) → Concluded e → P ⊎ (Q × ((status ≡ 6) ⊎ ((status ≡ 5) × FailedLast eb ea)))
  asked_or_memory e (inl p) k = inl p
  asked_or_memory e (inr (q, is)) (inl (s, t, stays)) = inr (q, inl (s ∙ ap status_of is))
  asked_or_memory e (inr (q, is)) (inr (s, p, rose, line)) = inr (q, inr (s, rose))

  -- what `out` took where the status is that of one ending
  pub out_taken : (e ending : Ending) → Acted e → Concluded e → (k : ℕ) → k ≢ 5 → ending ≢ Words → (status_of e ≡ k → e ≡ ending) → status ≡ k → Asked words (λ c. OutputOf c ending texts oo on)
  out_taken e ending (inl (c, asks, h)) (inl (s, t, q)) k five words is same =
      let here = is (sym s ∙ same) in
      (c, asks, subst (λ x. OutputOf c x texts oo on) here h.output)
  out_taken e ending (inr (none, w, o, f)) (inl (s, t, q)) k five words is same = absurd (words (sym (is (sym s ∙ same)) ∙ w))
  out_taken e ending a (inr (s, p, rose, line)) k five words is same = absurd (five (sym same ∙ s))

  -- the endings without output
  abbrev pub IsSilent : Ending → Type 0
  IsSilent Done = ⊥
  IsSilent Budget = ⊥
  IsSilent Full = ⊥
  IsSilent NoMemory = ⊥
  IsSilent WriteFault = ⊥
  IsSilent _ = Unit {0}

  silent : (e : Ending) → ((2 ≤ status_of e) × (status_of e ≤ 4)) ⊎ (8 ≤ status_of e) → IsSilent e
  silent Done (inl h) = absurd (omega (arith, h.0))
  silent Done (inr h) = absurd (omega (arith, h))
  silent Budget (inl h) = absurd (omega (arith, h.0))
  silent Budget (inr h) = absurd (omega (arith, h))
  silent Full (inl h) = absurd (omega (arith, h.1))
  silent Full (inr h) = absurd (omega (arith, h))
  silent NoMemory (inl h) = absurd (omega (arith, h.1))
  silent NoMemory (inr h) = absurd (omega (arith, h))
  silent WriteFault (inl h) = absurd (omega (arith, h.1))
  silent WriteFault (inr h) = absurd (omega (arith, h))
  silent (Refused r) h = tt
  silent Words h = tt
  silent ReadFault h = tt
  silent (SecondRefused kind r) h = tt

  none_taken : (t : Task) (e : Ending) (text : Option (Option (List ℕ))) → IsSilent e → Output t e text oo on → on ≡ oo
  none_taken (task.Run s) (Refused r) text k h = h
  none_taken (task.Run s) Words text k h = h
  none_taken (task.Run s) ReadFault text k h = h
  none_taken task.List (Refused r) text k h = h
  none_taken task.List Words text k h = h
  none_taken task.List ReadFault text k h = h
  none_taken (task.Run s) (SecondRefused kind r) text k h = h
  none_taken task.List (SecondRefused kind r) text k h = h
  none_taken t Done text k h = absurd k
  none_taken t Budget text k h = absurd k
  none_taken t WriteFault text k h = absurd k
  none_taken t NoMemory text k h = absurd k
  none_taken t Full text k h = absurd k

  none_taken_of_pair : (p : Pair) (e : Ending) → IsSilent e → PairOutput p e texts oo on → on ≡ oo
  none_taken_of_pair p (Refused r) k h = h
  none_taken_of_pair p Words k h = h
  none_taken_of_pair p ReadFault k h = h
  none_taken_of_pair p (SecondRefused kind r) k h = h
  none_taken_of_pair p Done k h = absurd k
  none_taken_of_pair p Budget k h = absurd k
  none_taken_of_pair p WriteFault k h = absurd k
  none_taken_of_pair p NoMemory k h = absurd k
  none_taken_of_pair p Full k h = absurd k

  -- nothing was taken where the ending has no output
  none_taken_of : (c : Request) (e : Ending) → IsSilent e → OutputOf c e texts oo on → on ≡ oo
  none_taken_of (to_run run) e k h = none_taken (task.Run (settings_of run)) e (told_under texts run.file) k h
  none_taken_of (to_compile file) e k h = none_taken task.List e (told_under texts file) k h
  none_taken_of (to_demo n) e k h = none_taken (task.Run folded_run) e (Some (Some (demo_text n))) k h
  none_taken_of (to_pair p) e k h = none_taken_of_pair p e k h

  -- the statuses with which `out` takes nothing
  abbrev pub Quiet : ℕ → Type 0
  Quiet s = (s ≡ 2) ⊎ (s ≡ 3) ⊎ (s ≡ 4) ⊎ (8 ≤ s)

  quiet_range : (s : ℕ) → Quiet s → ((2 ≤ s) × (s ≤ 4)) ⊎ (8 ≤ s)
  quiet_range s (inl h) = inl (omega (arith, h), omega (arith, h))
  quiet_range s (inr (inl h)) = inl (omega (arith, h), omega (arith, h))
  quiet_range s (inr (inr (inl h))) = inl (omega (arith, h), omega (arith, h))
  quiet_range s (inr (inr (inr h))) = inr h

  untouched_by : (e : Ending) → Acted e → Quiet (status_of e) → on ≡ oo
  untouched_by e (inl (c, asks, h)) k = none_taken_of c e (silent e (quiet_range (status_of e) k)) h.output
  untouched_by e (inr (none, w, o, f)) k = o

  not_five : (s : ℕ) → s ≡ 5 → ((2 ≤ s) × (s ≤ 4)) ⊎ (8 ≤ s) → ⊥
  not_five s is (inl h) = omega (arith, is, h.1)
  not_five s is (inr h) = omega (arith, is, h)

  pub untouched : (e : Ending) → Acted e → Concluded e → Quiet status → on ≡ oo
  untouched e a (inl (s, t, q)) k = untouched_by e a (subst Quiet s k)
  untouched e a (inr (s, p, rose, line)) k = absurd (not_five status s (quiet_range status k))

  -- status 3 only where the words aren't of the form, and there always, but for a failing `err`
  pub not_of_form : (e : Ending) → Acted e → Concluded e → status ≡ 3 → ¬ (InForm words)
  not_of_form e (inl (c, asks, h)) (inl (s, t, q)) k =
      let here = words_is e (sym s ∙ k) in
      absurd (let gone = subst (λ x. RequestEnded c x texts oo on ob oa read reads) here h in not_words texts read reads c gone.cause)
  not_of_form e (inr (none, w, o, f)) (inl (s, t, q)) k = none
  not_of_form e a (inr (s, p, rose, line)) k = absurd (omega (arith, s, k))

  pub form_answered : (e : Ending) → Acted e → Concluded e → ¬ (InForm words) → (status ≡ 3) ⊎ ((status ≡ 5) × FailedLast eb ea)
  form_answered e (inl (c, asks, h)) k none = absurd (none (one words c asks).0)
  form_answered e (inr (none, w, o, f)) (inl (s, t, q)) n = inl (subst (λ x. status ≡ status_of x) w s)
  form_answered e (inr (none, w, o, f)) (inr (s, p, rose, line)) n = inr (s, rose)

  pub read_rose : (e : Ending) → Acted e → Concluded e → status ≡ 4 → Asked words (λ c. ReadRose c read reads)
  read_rose e (inl (c, asks, h)) (inl (s, t, q)) k =
      let here = subst (λ x. RequestEnded c x texts oo on ob oa read reads) (read_is e (sym s ∙ k)) h in (c, asks, read_counted texts read reads c here.cause)
  read_rose e (inr (none, w, o, f)) (inl (s, t, q)) k = absurd (let three : status ≡ 3 = subst (λ x. status ≡ status_of x) w s in omega (arith, three, k))
  read_rose e a (inr (s, p, rose, line)) k = absurd (omega (arith, s, k))

  pub write_rose : (e : Ending) → Acted e → Concluded e → status ≡ 5 → FailedLast ob oa ⊎ FailedLast eb ea
  write_rose e (inl (c, asks, h)) (inl (s, t, q)) k = inl (let here = subst (λ x. RequestEnded c x texts oo on ob oa read reads) (write_is e (sym s ∙ k)) h in here.counts)
  write_rose e (inr (none, w, o, f)) (inl (s, t, q)) k = absurd (let three : status ≡ 3 = subst (λ x. status ≡ status_of x) w s in omega (arith, three, k))
  write_rose e a (inr (s, p, rose, line)) k = inr rose

  -- where nothing is counted none failed
  no_puts : oa ≡ ob → NoneFailed ob oa
  no_puts same = subst (NoneFailed ob) (sym same) (no_put ob)

  counts_stay : (e : Ending) → ¬ (status_of e ≡ 5) → CountsFaults e ob oa → NoneFailed ob oa
  counts_stay Done n h = h
  counts_stay Budget n h = h
  counts_stay (Refused r) n h = h
  counts_stay Words n h = h
  counts_stay ReadFault n h = h
  counts_stay WriteFault n h = absurd (n refl)
  counts_stay NoMemory n h = h
  counts_stay Full n h = h
  counts_stay (SecondRefused kind r) n h = h

  pub puts_stay : (e : Ending) → Acted e → Concluded e → ¬ (status ≡ 5) → NoneFailed ob oa × NoneFailed eb ea
  puts_stay e (inl (c, asks, h)) (inl (s, t, same)) n = (counts_stay e (λ k. n (s ∙ k)) h.counts, same)
  puts_stay e (inr (none, w, o, f)) (inl (s, t, same)) n = (no_puts f, same)
  puts_stay e a (inr (s, p, rose, line)) n = absurd (n s)

  counts_last : (e : Ending) → CountsFaults e ob oa → NoneBehindFailed ob oa
  counts_last Done h = inl h
  counts_last Budget h = inl h
  counts_last (Refused r) h = inl h
  counts_last Words h = inl h
  counts_last ReadFault h = inl h
  counts_last WriteFault h = inr h
  counts_last NoMemory h = inl h
  counts_last Full h = inl h
  counts_last (SecondRefused kind r) h = inl h

  out_last : (e : Ending) → Acted e → NoneBehindFailed ob oa
  out_last e (inl (c, asks, h)) = counts_last e h.counts
  out_last e (inr (none, w, o, f)) = inl (no_puts f)

  err_last : (e : Ending) → Concluded e → NoneBehindFailed eb ea
  err_last e (inl (s, t, same)) = inl same
  err_last e (inr (s, p, rose, line)) = inr rose

  -- behind a put that failed nothing more is put
  pub puts_end : (e : Ending) → Acted e → Concluded e → NoneBehindFailed ob oa × NoneBehindFailed eb ea
  puts_end e a k = (out_last e a, err_last e k)

  pub refusal_told : (e : Ending) → Acted e → Concluded e → status ≡ 2 →
      Asked words (λ c. (r : Refusal) × RefusesText (most_items_of c) (told_of c texts) r × Takes (refusal_line r) eo en)
  refusal_told (Refused r) (inl (c, asks, h)) (inl (s, t, same)) k = (c, asks, (r, refusal_of texts read reads c r h.cause, t))
  refusal_told Done (inl (c, asks, h)) (inl (s, t, q)) k = absurd (omega (arith, s, k))
  refusal_told Budget (inl (c, asks, h)) (inl (s, t, q)) k = absurd (omega (arith, s, k))
  refusal_told Words (inl (c, asks, h)) (inl (s, t, q)) k = absurd (omega (arith, s, k))
  refusal_told ReadFault (inl (c, asks, h)) (inl (s, t, q)) k = absurd (omega (arith, s, k))
  refusal_told WriteFault (inl (c, asks, h)) (inl (s, t, q)) k = absurd (omega (arith, s, k))
  refusal_told NoMemory (inl (c, asks, h)) (inl (s, t, q)) k = absurd (omega (arith, s, k))
  refusal_told Full (inl (c, asks, h)) (inl (s, t, q)) k = absurd (omega (arith, s, k))
  refusal_told (SecondRefused kind r) (inl (c, asks, h)) (inl (s, t, q)) k = let high = second_high kind in absurd (omega (arith, s, k, high.0))
  refusal_told e (inr (none, w, o, f)) (inl (s, t, q)) k = absurd (let three : status ≡ 3 = subst (λ x. status ≡ status_of x) w s in omega (arith, three, k))
  refusal_told e a (inr (s, p, rose, line)) k = absurd (omega (arith, s, k))

  -- a status above 7 is that of a second text that is refused
  pub second_told : (e : Ending) → Acted e → Concluded e → 8 ≤ status →
      Asked words (λ c. (kind : PairKind) × (r : Refusal) × (status ≡ second_status kind) × RefusesSecondOf c texts kind r × Takes (refusal_line r) eo en)
  second_told (SecondRefused kind r) (inl (c, asks, h)) (inl (s, t, same)) k = (c, asks, (kind, r, s, second_of texts read reads c kind r h.cause, t))
  second_told Done (inl (c, asks, h)) (inl (s, t, q)) k = absurd (omega (arith, s, k))
  second_told Budget (inl (c, asks, h)) (inl (s, t, q)) k = absurd (omega (arith, s, k))
  second_told (Refused r) (inl (c, asks, h)) (inl (s, t, q)) k = absurd (omega (arith, s, k))
  second_told Words (inl (c, asks, h)) (inl (s, t, q)) k = absurd (omega (arith, s, k))
  second_told ReadFault (inl (c, asks, h)) (inl (s, t, q)) k = absurd (omega (arith, s, k))
  second_told WriteFault (inl (c, asks, h)) (inl (s, t, q)) k = absurd (omega (arith, s, k))
  second_told NoMemory (inl (c, asks, h)) (inl (s, t, q)) k = absurd (omega (arith, s, k))
  second_told Full (inl (c, asks, h)) (inl (s, t, q)) k = absurd (omega (arith, s, k))
  second_told e (inr (none, w, o, f)) (inl (s, t, q)) k = absurd (let three : status ≡ 3 = subst (λ x. status ≡ status_of x) w s in omega (arith, three, k))
  second_told e a (inr (s, p, rose, line)) k = absurd (omega (arith, s, k))

  -- the line that `err` took, where the status is that of one ending
  pub line_taken : (e ending : Ending) → Concluded e → (k : ℕ) → k ≢ 5 → (status_of e ≡ k → e ≡ ending) → status ≡ k → Takes (line_of_ending ending) eo en
  line_taken e ending (inl (s, t, same)) k five is h = subst (λ x. Takes (line_of_ending x) eo en) (is (sym s ∙ h)) t
  line_taken e ending (inr (s, p, rose, line)) k five is h = absurd (five (sym h ∙ s))

  -- `err` took nothing where no line is due
  pub quiet : (e : Ending) → Concluded e → (status ≡ 0) ⊎ (status ≡ 1) ⊎ (status ≡ 7) → en ≡ eo
  quiet e k (inl h) = took_nothing eo en (line_taken e Done k 0 (omega arith) (done_is e) h)
  quiet e k (inr (inl h)) = took_nothing eo en (line_taken e Budget k 1 (omega arith) (budget_is e) h)
  quiet e k (inr (inr h)) = took_nothing eo en (line_taken e Full k 7 (omega arith) (full_is e) h)

  -- with 5 either `out` failed and `err` took its line, or `err` failed
  pub failed : (sb sa : Option (List Fetch)) (texts_after : Option (List ℕ → Option (List ℕ))) (e : Ending) → Acted e → Concluded e → status ≡ 5 →
      OutFailed words (record { told = texts; asked = sb; faults = read }) (record { told = oo; faults = ob }) (record { told = on; faults = oa }) (record { told = eo; faults = eb }) (record { told = en; faults = ea })
      ⊎ ErrFailed words (record { told = texts; asked = sb; faults = read }) (record { told = texts_after; asked = sa; faults = reads })
      (record { told = oo; faults = ob }) (record { told = on; faults = oa }) (record { told = eo; faults = eb }) (record { told = en; faults = ea })
  failed sb sa texts_after e (inl (c, asks, h)) (inl (s, t, same)) k =
      let is = write_is e (sym s ∙ k) in
      let here = subst (λ x. RequestEnded c x texts oo on ob oa read reads) is h in
      inl (record { output = (c, asks, here.output); failed = here.counts; line = subst (λ x. Takes (line_of_ending x) eo en) is t; whole = same })
  failed sb sa texts_after e (inr (none, w, o, f)) (inl (s, t, same)) k = absurd (let three : status ≡ 3 = subst (λ x. status ≡ status_of x) w s in omega (arith, three, k))
  failed sb sa texts_after e a (inr (s, p, rose, line)) k = inr (record { failed = rose; ending = e; has_line = line; took = p; ended = a })

  -- an accepted text is answered so where nothing fails, and one that isn't is refused
  pub answered : (e : Ending) → Acted e → Concluded e → InForm words → Asked words (λ c. ¬ (ReadRose c read reads) → ¬ (FailedLast ob oa) → ¬ (FailedLast eb ea) → IfTold (told_of c texts) (λ text. IsAccepted (most_items_of c) text → AnswersOf c status))
  answered e (inl (c, asks, h)) k form = (c, asks, λ r o x. request_answered texts oo on ob oa read reads status eo en eb ea c e h k r o x)
  answered e (inr (none, w, o, f)) k form = absurd (none form)

  pub refused_so : (e : Ending) → Acted e → Concluded e → InForm words → Asked words (λ c. IfTold (told_of c texts) (λ text. ¬ (IsAccepted (most_items_of c) text) → Refusing status))
  refused_so e (inl (c, asks, h)) k form = (c, asks, request_refused_so texts oo on ob oa read reads status eo en eb ea c e h k)
  refused_so e (inr (none, w, o, f)) k form = absurd (none form)

  -- no ending has a status above 11
  at_most : (e : Ending) → Concluded e → status ≤ 11
  at_most e (inl (s, t, q)) = let most = status_most e in omega (arith, s, most)
  at_most e (inr (s, p, rose, line)) = omega (arith, s)

  -- all that a call keeps: it asked its shelf so, acted so, and put the line of the ending into `err`
  pub keeps_promises : (sb sa : Option (List Fetch)) (texts_after : Option (List ℕ → Option (List ℕ))) (e : Ending)
      → (InForm words → Asked words (λ c. Fetches c texts sb sa read reads) ⊎ ((sa ≡ sb) × (e ≡ NoMemory))) → (¬ (InForm words) → sa ≡ sb)
      → (¬ (InForm words) → (name : List ℕ) → reads name ≡ read name)
      → ((status ≡ 0) ⊎ (status ≡ 1) ⊎ (status ≡ 7) ⊎ (8 ≤ status) → Asked words (λ c. FetchesAll c sb sa)) → Acted e → Concluded e
      → KeepsPromises words status (record { told = texts; asked = sb; faults = read }) (record { told = texts_after; asked = sa; faults = reads })
      (record { told = oo; faults = ob }) (record { told = on; faults = oa }) (record { told = eo; faults = eb }) (record { told = en; faults = ea })
  keeps_promises sb sa texts_after e shelf_asked none_asked none_counted all_asked a k = record {
    status = at_most e k;
    words = not_of_form e a k;
    form = form_answered e a k;
    asked = λ said. asked_or_memory e (shelf_asked said) k;
    not_asked = none_asked;
    unasked = none_counted;
    fetched = all_asked;
    read = read_rose e a k;
    write = write_rose e a k;
    puts = puts_stay e a k;
    last = puts_end e a k;
    refused = refusal_told e a k;
    not_accepted = refused_so e a k;
    second = second_told e a k;
    answers = answered e a k;
    out_done = out_taken e Done a k 0 (omega arith) (λ is. cc is) (done_is e);
    out_budget = out_taken e Budget a k 1 (omega arith) (λ is. cc is) (budget_is e);
    out_full = out_taken e Full a k 7 (omega arith) (λ is. cc is) (full_is e);
    out_memory = out_taken e NoMemory a k 6 (omega arith) (λ is. cc is) (memory_is e);
    out_untouched = untouched e a k;
    err_quiet = quiet e k;
    err_words = line_taken e Words k 3 (omega arith) (words_is e);
    err_read = line_taken e ReadFault k 4 (omega arith) (read_is e);
    err_memory = line_taken e NoMemory k 6 (omega arith) (memory_is e);
    part = failed sb sa texts_after e a k;
  }
