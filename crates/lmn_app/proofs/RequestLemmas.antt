-- What follows from how a request ended.
use Rattle.std.specs.Prelude.{◌≡◌, ◌<◌, ◌≤◌, ℕ, ◌⊎◌, List, Option, Some, IfSome, IsSomeAnd}
use Rattle.std.proofs.Common.{inl, inr, refl, subst, sym, ap, ◌∙◌, length, arith}
use Rattle.lmn_base.specs.declared.refusal.Refusal.{Refusal}
use Rattle.lmn_io.specs.Counts.{FailedLast, Faults, Rose}
use Rattle.lmn_io.proofs.TakingLemmas.{no_put}
use Rattle.lmn_io.specs.Texts.{Fetch}
use Rattle.lmn_app_words.specs.declared.command.PairKind.{PairKind}
use Rattle.lmn_app_words.specs.declared.command.PairKind.TheVariants.{Bound, Check, Debug, Exec}
use Rattle.lmn_app_words.specs.Forms.{Pair, Request, Run, to_run, to_compile, to_demo, to_pair}
use Rattle.lmn_app_single.specs.declared.ending.Ending.{Ending}
use Rattle.lmn_app_single.specs.declared.ending.Ending.TheVariants.{Done, Budget, Refused, Words, ReadFault, WriteFault, NoMemory, Full, SecondRefused}
use Rattle.lmn_app_words.specs.declared.command.RunSettings.{RunSettings}
use Rattle.lmn_app_single.specs.declared.task.Task.TheVariants as task
use Rattle.lmn_app_single.specs.Demos.{demo_text}
use Rattle.lmn_app_single.specs.Endings.{Concludes, status_of}
use Rattle.lmn_app.specs.Outcomes.{AnswersOf, CausesOf, PairCauses, RefusesSecondOf, RequestEnded}
use Rattle.lmn_app_single.specs.Outcomes.{Ended, RefusesText}
use Rattle.lmn_app.specs.Pairs.{HasProgram, IsWritten, PairAnswers, Writes, most_items_of_pair, second_long}
use Rattle.lmn_app.specs.Requests.{FetchesSecond, ReadRose, most_items_of, told_of}
use Rattle.lmn_app_single.specs.Requests.{asked_program, folded_run, settings_of}
use Rattle.lmn_app_single.specs.Runnings.{EndsUnread}
use Rattle.lmn_app.specs.SecondTexts.{IsSecondCode, long_code, second_bytes}
use Rattle.lmn_app_single.specs.Endings.{second_status}
use Rattle.lmn_app_single.specs.Texts.{IsAccepted, at_start}
use Rattle.lmn_app_single.specs.Writing.{IfTold, Told, told_under}
use Rattle.lmn_app.proofs.OutcomeLemmas.{Refusing, accepted_answered, refused_told, told_is, unaccepted_answered, when_told}
use Rattle.lmn_app_single.proofs.OutcomeLemmas.{long_told, longer, told_text, too_long_refused}

-- ---- counts

-- no count rises from 0 to 0
pub rose_nothing : Rose 0 0 → ⊥
rose_nothing h = omega (arith, h)

-- what rose since a later time rose since an earlier one
pub rose_earlier : (a b c : ℕ) → a ≤ b → Rose b c → Rose a c
rose_earlier a b c le h = omega (arith, le, h)

-- ---- statuses of second texts

-- each lies above those of the other endings
pub second_high : (kind : PairKind) → (8 ≤ second_status kind) × (second_status kind ≤ 11)
second_high Check = (omega arith, omega arith)
second_high Debug = (omega arith, omega arith)
second_high Exec = (omega arith, omega arith)
second_high Bound = (omega arith, omega arith)

-- ---- a task as a request

module _ (texts : Option (List ℕ → Option (List ℕ))) (oo on : Option (List ℕ)) (ob oa : Faults) (f g : List ℕ → ℕ) where
  -- a run of a file ended so
  pub run_ended : (run : Run) (s : RunSettings) (e : Ending) → s ≡ settings_of run → Ended (task.Run s) e (told_under texts run.file) oo on ob oa (f run.file) (g run.file)
      → RequestEnded (to_run run) e texts oo on ob oa f g
  run_ended run s e is h =
      let k = subst (λ (t : RunSettings). Ended (task.Run t) e (told_under texts run.file) oo on ob oa (f run.file) (g run.file)) is h in
      record { cause = k.cause; output = k.output; counts = k.counts }

  -- a listing
  pub list_ended : (file : List ℕ) (e : Ending) → Ended task.List e (told_under texts file) oo on ob oa (f file) (g file) → RequestEnded (to_compile file) e texts oo on ob oa f g
  list_ended file e h = record { cause = h.cause; output = h.output; counts = h.counts }

  -- and a run of the text that is made of a number
  pub demo_ended : (n : ℕ) (e : Ending) → Ended (task.Run folded_run) e (Some (Some (demo_text n))) oo on ob oa 0 0 → RequestEnded (to_demo n) e texts oo on ob oa f g
  demo_ended n e h = record { cause = h.cause; output = h.output; counts = h.counts }

  as_run : (run : Run) (e : Ending) → RequestEnded (to_run run) e texts oo on ob oa f g → Ended (task.Run (settings_of run)) e (told_under texts run.file) oo on ob oa (f run.file) (g run.file)
  as_run run e h = record { cause = h.cause; output = h.output; counts = h.counts }

  as_list : (file : List ℕ) (e : Ending) → RequestEnded (to_compile file) e texts oo on ob oa f g → Ended task.List e (told_under texts file) oo on ob oa (f file) (g file)
  as_list file e h = record { cause = h.cause; output = h.output; counts = h.counts }

  as_demo : (n : ℕ) (e : Ending) → RequestEnded (to_demo n) e texts oo on ob oa f g → Ended (task.Run folded_run) e (Some (Some (demo_text n))) oo on ob oa 0 0
  as_demo n e h = record { cause = h.cause; output = h.output; counts = h.counts }

  -- ---- answers

  -- what is written where a command ends so is among its statuses
  written_answers : (kind : PairKind) (e : Ending) (program second written : List ℕ) (status : ℕ) → (status ≡ 5 → ⊥) → status ≡ status_of e → IsWritten kind e program second written → PairAnswers kind status
  written_answers Debug Done program second written status five is h = inl is
  written_answers Debug NoMemory program second written status five is h = inr (inr is)
  written_answers Debug WriteFault program second written status five is h = absurd (five is)
  written_answers Debug Budget program second written status five is h = absurd h
  written_answers Debug (Refused r) program second written status five is h = absurd h
  written_answers Debug Words program second written status five is h = absurd h
  written_answers Debug ReadFault program second written status five is h = absurd h
  written_answers Debug Full program second written status five is h = absurd h
  written_answers Debug (SecondRefused k r) program second written status five is h = absurd h
  written_answers Check Done program second written status five is h = inl is
  written_answers Check WriteFault program second written status five is h = absurd (five is)
  written_answers Check Budget program second written status five is h = absurd h
  written_answers Check (Refused r) program second written status five is h = absurd h
  written_answers Check Words program second written status five is h = absurd h
  written_answers Check ReadFault program second written status five is h = absurd h
  written_answers Check NoMemory program second written status five is h = absurd h
  written_answers Check Full program second written status five is h = absurd h
  written_answers Check (SecondRefused k r) program second written status five is h = absurd h
  written_answers Exec Done program second written status five is h = inl is
  written_answers Exec Budget program second written status five is h = inr (inl is)
  written_answers Exec Full program second written status five is h = inr (inr (inl is))
  written_answers Exec NoMemory program second written status five is h = inr (inr (inr (inr is)))
  written_answers Exec WriteFault program second written status five is h = absurd (five is)
  written_answers Exec (Refused r) program second written status five is h = absurd h
  written_answers Exec Words program second written status five is h = absurd h
  written_answers Exec ReadFault program second written status five is h = absurd h
  written_answers Exec (SecondRefused k r) program second written status five is h = absurd h
  written_answers Bound Done program second written status five is h = inl is
  written_answers Bound WriteFault program second written status five is h = absurd (five is)
  written_answers Bound Budget program second written status five is h = absurd h
  written_answers Bound (Refused r) program second written status five is h = absurd h
  written_answers Bound Words program second written status five is h = absurd h
  written_answers Bound ReadFault program second written status five is h = absurd h
  written_answers Bound NoMemory program second written status five is h = absurd h
  written_answers Bound Full program second written status five is h = absurd h
  written_answers Bound (SecondRefused k r) program second written status five is h = absurd h

  memory_answers : (kind : PairKind) (status : ℕ) → status ≡ 6 → PairAnswers kind status
  memory_answers Check status is = inr (inr is)
  memory_answers Debug status is = inr (inr is)
  memory_answers Exec status is = inr (inr (inr (inr is)))
  memory_answers Bound status is = inr (inr is)

  second_answers : (kind : PairKind) (status : ℕ) → status ≡ second_status kind → PairAnswers kind status
  second_answers Check status is = inr (inl is)
  second_answers Debug status is = inr (inl is)
  second_answers Exec status is = inr (inr (inr (inl is)))
  second_answers Bound status is = inr (inl is)

  module _ (status : ℕ) (eo en : Option (List ℕ)) (eb ea : Faults) where
    writes_answers : {Took : List ℕ → Type 0} (p : Pair) (e : Ending) → (status_of e ≡ 5 → ⊥) → Writes p e texts Took → status ≡ status_of e → PairAnswers p.kind status
    writes_answers p e five w is = let of = w.of in written_answers p.kind e of.program w.second w.written status (λ s. five (sym is ∙ s)) is w.is

    pair_answered : (p : Pair) (e : Ending) → RequestEnded (to_pair p) e texts oo on ob oa f g → Concludes e status eo en eb ea → ¬ (ReadRose (to_pair p) f g) → ¬ (FailedLast ob oa) → ¬ (FailedLast eb ea)
        → IfTold (told_under texts p.file) (λ text. IsAccepted (most_items_of_pair p.kind) text → PairAnswers p.kind status)
    pair_answered p e h (inr (s, q, rose, line)) read out err = absurd (err rose)
    pair_answered p Done h (inl k) read out err = let o = h.output in when_told (told_under texts p.file) _ (λ text a. writes_answers p Done (λ s. omega (arith, s)) o k.0)
    pair_answered p Budget h (inl k) read out err = let o = h.output in when_told (told_under texts p.file) _ (λ text a. writes_answers p Budget (λ s. omega (arith, s)) o k.0)
    pair_answered p Full h (inl k) read out err = let o = h.output in when_told (told_under texts p.file) _ (λ text a. writes_answers p Full (λ s. omega (arith, s)) o k.0)
    pair_answered p NoMemory h (inl k) read out err = when_told (told_under texts p.file) _ (λ text a. memory_answers p.kind status k.0)
    pair_answered p (Refused r) h (inl k) read out err = refused_told (most_items_of_pair p.kind) (told_under texts p.file) r (PairAnswers p.kind status) h.cause
    pair_answered p (SecondRefused kind r) h (inl k) read out err = let c = h.cause in when_told (told_under texts p.file) _ (λ text a. second_answers p.kind status (k.0 ∙ ap second_status c.same))
    pair_answered p Words h (inl k) read out err = absurd (h.cause)
    pair_answered p ReadFault h (inl k) read out err = absurd (read h.cause)
    pair_answered p WriteFault h (inl k) read out err = absurd (out h.counts)

    program_accepted : (p : Pair) (A : Type 0) → HasProgram p texts → IfTold (told_under texts p.file) (λ text. ¬ (IsAccepted (most_items_of_pair p.kind) text) → A)
    program_accepted p A h =
        told_is (told_under texts p.file) h.program (λ text. ¬ (IsAccepted (most_items_of_pair p.kind) text) → A) h.is_told (λ none. absurd (none h.accepted))

    pair_refused_so : (p : Pair) (e : Ending) → RequestEnded (to_pair p) e texts oo on ob oa f g → Concludes e status eo en eb ea
        → IfTold (told_under texts p.file) (λ text. ¬ (IsAccepted (most_items_of_pair p.kind) text) → Refusing status)
    pair_refused_so p e h (inr (s, q, rose, line)) = when_told (told_under texts p.file) _ (λ text n. inr (inr (inl s)))
    pair_refused_so p Done h (inl k) = let o = h.output in program_accepted p (Refusing status) o.of
    pair_refused_so p Budget h (inl k) = let o = h.output in program_accepted p (Refusing status) o.of
    pair_refused_so p Full h (inl k) = let o = h.output in program_accepted p (Refusing status) o.of
    pair_refused_so p (Refused r) h (inl k) = when_told (told_under texts p.file) _ (λ text n. inl k.0)
    pair_refused_so p Words h (inl k) = absurd (h.cause)
    pair_refused_so p ReadFault h (inl k) = when_told (told_under texts p.file) _ (λ text n. inr (inl k.0))
    pair_refused_so p WriteFault h (inl k) = when_told (told_under texts p.file) _ (λ text n. inr (inr (inl k.0)))
    pair_refused_so p NoMemory h (inl k) = when_told (told_under texts p.file) _ (λ text n. inr (inr (inr k.0)))
    pair_refused_so p (SecondRefused kind r) h (inl k) = let c = h.cause in program_accepted p (Refusing status) c.of

    -- where nothing fails, an accepted program is answered so
    pub request_answered : (c : Request) (e : Ending) → RequestEnded c e texts oo on ob oa f g → Concludes e status eo en eb ea → ¬ (ReadRose c f g) → ¬ (FailedLast ob oa) → ¬ (FailedLast eb ea)
        → IfTold (told_of c texts) (λ text. IsAccepted (most_items_of c) text → AnswersOf c status)
    request_answered (to_run run) e h k read out err =
        accepted_answered (task.Run (settings_of run)) e (told_under texts run.file) oo on ob oa (f run.file) (g run.file) status eo en eb ea (as_run run e h) k read out err
    request_answered (to_compile file) e h k read out err =
        accepted_answered task.List e (told_under texts file) oo on ob oa (f file) (g file) status eo en eb ea (as_list file e h) k read out err
    request_answered (to_demo n) e h k read out err =
        accepted_answered (task.Run folded_run) e (Some (Some (demo_text n))) oo on ob oa 0 0 status eo en eb ea (as_demo n e h) k rose_nothing out err
    request_answered (to_pair p) e h k read out err = pair_answered p e h k read out err

    -- and one that isn't accepted is refused
    pub request_refused_so : (c : Request) (e : Ending) → RequestEnded c e texts oo on ob oa f g → Concludes e status eo en eb ea
        → IfTold (told_of c texts) (λ text. ¬ (IsAccepted (most_items_of c) text) → Refusing status)
    request_refused_so (to_run run) e h k =
        unaccepted_answered (task.Run (settings_of run)) e (told_under texts run.file) oo on ob oa (f run.file) (g run.file) status eo en eb ea (as_run run e h) k
    request_refused_so (to_compile file) e h k =
        unaccepted_answered task.List e (told_under texts file) oo on ob oa (f file) (g file) status eo en eb ea (as_list file e h) k
    request_refused_so (to_demo n) e h k =
        unaccepted_answered (task.Run folded_run) e (Some (Some (demo_text n))) oo on ob oa 0 0 status eo en eb ea (as_demo n e h) k
    request_refused_so (to_pair p) e h k = pair_refused_so p e h k

-- ---- causes

module _ (texts : Option (List ℕ → Option (List ℕ))) (f g : List ℕ → ℕ) where
  -- no request ends for its words
  pub not_words : (c : Request) → CausesOf c Words texts f g → ⊥
  not_words (to_run run) h = h
  not_words (to_compile file) h = h
  not_words (to_demo n) h = h
  not_words (to_pair p) h = h

  -- a file that can't be read was counted
  pub read_counted : (c : Request) → CausesOf c ReadFault texts f g → ReadRose c f g
  read_counted (to_run run) h = h
  read_counted (to_compile file) h = h
  read_counted (to_demo n) h = absurd (rose_nothing h)
  read_counted (to_pair p) h = h

  -- a refusal of a program is one of its text
  pub refusal_of : (c : Request) (r : Refusal) → CausesOf c (Refused r) texts f g → RefusesText (most_items_of c) (told_of c texts) r
  refusal_of (to_run run) r h = h
  refusal_of (to_compile file) r h = h
  refusal_of (to_demo n) r h = h
  refusal_of (to_pair p) r h = h

  -- and one of a second text one of that
  pub second_of : (c : Request) (kind : PairKind) (r : Refusal) → CausesOf c (SecondRefused kind r) texts f g → RefusesSecondOf c texts kind r
  second_of (to_run run) kind r h = absurd h
  second_of (to_compile file) kind r h = absurd h
  second_of (to_demo n) kind r h = absurd h
  second_of (to_pair p) kind r h = h

-- a request may end for want of memory, with its output as it was
pub request_memory : (c : Request) (texts : Option (List ℕ → Option (List ℕ))) (x : Option (List ℕ)) (n : Faults) (f g : List ℕ → ℕ) → RequestEnded c NoMemory texts x x n n f g
request_memory (to_run run) texts x n f g = record { cause = tt; output = inl refl; counts = no_put n }
request_memory (to_compile file) texts x n f g = record { cause = tt; output = refl; counts = no_put n }
request_memory (to_demo k) texts x n f g = record { cause = tt; output = inl refl; counts = no_put n }
request_memory (to_pair p) texts x n f g = record { cause = tt; output = inl refl; counts = no_put n }

-- ---- a program and a second text

-- the counts were taken later
pub since_earlier : (p : Pair) (e : Ending) (texts : Option (List ℕ → Option (List ℕ))) (oo on : Option (List ℕ)) (ob oa : Faults) (f m g : List ℕ → ℕ) → ((name : List ℕ) → f name ≤ m name)
    → RequestEnded (to_pair p) e texts oo on ob oa m g → RequestEnded (to_pair p) e texts oo on ob oa f g
since_earlier p e texts oo on ob oa f m g later h = record { cause = cause e h.cause; output = h.output; counts = h.counts }
  where
    cause : (e : Ending) → PairCauses p e texts m g → PairCauses p e texts f g
    cause Done c = c
    cause Budget c = c
    cause (Refused r) c = c
    cause Words c = c
    cause ReadFault (inl rose) = inl (rose_earlier (f p.file) (m p.file) (g p.file) (later p.file) rose)
    cause ReadFault (inr rose) = inr (rose_earlier (f p.second) (m p.second) (g p.second) (later p.second) rose)
    cause WriteFault c = c
    cause NoMemory c = c
    cause Full c = c
    cause (SecondRefused kind r) c = c

-- the program is refused
pub pair_refused : (p : Pair) (r : Refusal) (texts : Option (List ℕ → Option (List ℕ))) (x : Option (List ℕ)) (n : Faults) (f g : List ℕ → ℕ)
    → RefusesText (most_items_of_pair p.kind) (told_under texts p.file) r → RequestEnded (to_pair p) (Refused r) texts x x n n f g
pair_refused p r texts x n f g h = record { cause = h; output = refl; counts = no_put n }

-- a file can't be read
pub pair_faulty : (p : Pair) (texts : Option (List ℕ → Option (List ℕ))) (x : Option (List ℕ)) (n : Faults) (f g : List ℕ → ℕ) → ReadRose (to_pair p) f g → RequestEnded (to_pair p) ReadFault texts x x n n f g
pair_faulty p texts x n f g h = record { cause = h; output = refl; counts = no_put n }

-- there is no program
pub pair_unread : (p : Pair) (e : Ending) (texts : Option (List ℕ → Option (List ℕ))) (x : Option (List ℕ)) (n : Faults) (f g : List ℕ → ℕ)
    → EndsUnread e (told_under texts p.file) (f p.file) (g p.file) → RequestEnded (to_pair p) e texts x x n n f g
pair_unread p (Refused r) texts x n f g h = pair_refused p r texts x n f g (too_long_refused (most_items_of_pair p.kind) (told_under texts p.file) r h)
pair_unread p ReadFault texts x n f g h = pair_faulty p texts x n f g (inl h)
pair_unread p NoMemory texts x n f g h = request_memory (to_pair p) texts x n f g
pair_unread p Done texts x n f g h = absurd h
pair_unread p Budget texts x n f g h = absurd h
pair_unread p Words texts x n f g h = absurd h
pair_unread p WriteFault texts x n f g h = absurd h
pair_unread p Full texts x n f g h = absurd h
pair_unread p (SecondRefused kind r) texts x n f g h = absurd h

long_is_code : (kind : PairKind) → IsSecondCode kind (long_code kind)
long_is_code Check = inl refl
long_is_code Debug = inl refl
long_is_code Exec = inl refl
long_is_code Bound = inl refl

-- the second text is too long
pub second_too_long : (p : Pair) (kind : PairKind) (r : Refusal) (texts : Option (List ℕ → Option (List ℕ))) (x : Option (List ℕ)) (n : Faults) (f g : List ℕ → ℕ) → kind ≡ p.kind → r ≡ at_start (long_code p.kind)
    → IfSome texts (λ text. IsSomeAnd (text p.second) (λ bytes. second_bytes p.kind < length bytes)) → HasProgram p texts → RequestEnded (to_pair p) (SecondRefused kind r) texts x x n n f g
second_too_long p kind r texts x n f g same is h of =
    let some = longer (second_bytes p.kind) in
    let long = long_told (λ second. second_bytes p.kind < length second) texts p.second (second_bytes p.kind) h (λ bytes l. l) in
    let found = told_text (told_under texts p.second) (λ second. second_bytes p.kind < length second) long some.0 some.1 in
    record {
      cause = record { same = same; of = of; second = found.0; second_told = found.1; refused = second_long found.2 is; code = subst (λ (q : Refusal). IsSecondCode p.kind q.code) (sym is) (long_is_code p.kind) };
      output = refl;
      counts = no_put n;
    }

-- what was asked for behind the program, told before
pub fetched_from : (p : Pair) (e : Ending) (texts mid_texts : Option (List ℕ → Option (List ℕ))) (before mid after : Option (List Fetch)) → mid_texts ≡ texts → mid ≡ asked_program p.file before
    → FetchesSecond p e mid_texts mid after → FetchesSecond p e texts (asked_program p.file before) after
fetched_from p e texts mid_texts before mid after same first h =
    subst (λ t. FetchesSecond p e t (asked_program p.file before) after) same (subst (λ m. FetchesSecond p e mid_texts m after) first h)

-- nothing, where there is no program
pub fetched_unread : (p : Pair) (e : Ending) (texts : Option (List ℕ → Option (List ℕ))) (told : Told) (f g : ℕ) (before after : Option (List Fetch)) → EndsUnread e told f g → after ≡ before
    → FetchesSecond p e texts before after
fetched_unread p (Refused r) texts told f g before after h is = is
fetched_unread p ReadFault texts told f g before after h is = inl is
fetched_unread p NoMemory texts told f g before after h is = inl is
fetched_unread p Done texts told f g before after h is = absurd h
fetched_unread p Budget texts told f g before after h is = absurd h
fetched_unread p Words texts told f g before after h is = absurd h
fetched_unread p WriteFault texts told f g before after h is = absurd h
fetched_unread p Full texts told f g before after h is = absurd h
fetched_unread p (SecondRefused kind r) texts told f g before after h is = absurd h

-- what the shelf tells is what it told
pub request_texts : (c : Request) (e : Ending) (texts mid_texts : Option (List ℕ → Option (List ℕ))) (oo on : Option (List ℕ)) (ob oa : Faults) (f g : List ℕ → ℕ) → mid_texts ≡ texts
    → RequestEnded c e mid_texts oo on ob oa f g → RequestEnded c e texts oo on ob oa f g
request_texts c e texts mid_texts oo on ob oa f g is h = subst (λ t. RequestEnded c e t oo on ob oa f g) is h
