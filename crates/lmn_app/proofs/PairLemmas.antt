-- Commands with a program and a second text, as requests.
use Rattle.std.proofs.Common.{◌≡◌, ◌≤◌, ℕ, List, Option, Some, length, refl, sym, subst, inl, inr}
use Rattle.lmn_base.specs.declared.refusal.Refusal.{Refusal}
use Rattle.lmn_base.specs.declared.rule.Plain.{Plain}
use Rattle.lmn_congruence.specs.Rules.{Name}
use Rattle.lmn_guards.specs.declared.plan.GuardPlan.{GuardPlan}
use Rattle.lmn_io.specs.Counts.{Faults}
use Rattle.lmn_io.specs.Texts.{Fetch}
use Rattle.lmn_app_words.specs.declared.command.PairKind.{PairKind}
use Rattle.lmn_app_words.specs.declared.command.PairKind.TheVariants.{Bound, Check, Debug, Exec}
use Rattle.lmn_app_words.specs.Forms.{Pair, to_pair}
use Rattle.lmn_app_single.specs.declared.ending.Ending.{Ending}
use Rattle.lmn_app_single.specs.declared.ending.Ending.TheVariants.{Done, Budget, Refused, Words, ReadFault, WriteFault, NoMemory, Full, SecondRefused}
use Rattle.lmn_app.specs.Debugs.{session_size}
use Rattle.lmn_app.specs.Executions.{executed_size}
use Rattle.lmn_app.specs.Outcomes.{RequestEnded}
use Rattle.lmn_app.specs.Pairs.{HasProgram, IsWritten, Writes, most_items_of_pair, second_wrong}
use Rattle.lmn_app.specs.Requests.{FetchesSecond, asked_second}
use Rattle.lmn_app.specs.Runnings.{EndsByLine, EndsDebugged, EndsExecuted}
use Rattle.lmn_app.specs.SecondTexts.{second_bytes}
use Rattle.lmn_app_single.specs.Texts.{Accepts, Fits, IsAccepted}
use Rattle.lmn_app_single.specs.Writing.{IsToldAnd, told_under}

-- ---- the program

module _ (p : Pair) (texts : Option (List ℕ → Option (List ℕ))) (program : List ℕ) (told : IsToldAnd (told_under texts p.file) (λ found. found ≡ program)) (names : List Name) (plain : Plain) (plans : List GuardPlan)
    (a : Accepts program names plain plans) where
  abbrev accepted_for : (kind : PairKind) → p.kind ≡ kind → IsAccepted (most_items_of_pair kind) program → HasProgram p texts
  accepted_for kind is accepted = record { program = program; is_told = told; accepted = subst (λ k. IsAccepted (most_items_of_pair k) program) (sym is) accepted }

  -- an accepted program is that of `check`
  abbrev pub has_trace : p.kind ≡ Check → HasProgram p texts
  has_trace is = accepted_for Check is (names, plain, plans, a, tt)

  -- and of `bound`
  abbrev pub has_bound : p.kind ≡ Bound → HasProgram p texts
  has_bound is = accepted_for Bound is (names, plain, plans, a, tt)

  -- and of `debug`, where its process fits
  abbrev pub has_session : p.kind ≡ Debug → Fits (Some session_size) names plain → HasProgram p texts
  has_session is fits = accepted_for Debug is (names, plain, plans, a, fits)

  -- and of `exec`
  abbrev pub has_execution : p.kind ≡ Exec → Fits (Some executed_size) names plain → HasProgram p texts
  has_execution is fits = accepted_for Exec is (names, plain, plans, a, fits)

-- ---- how a call ends that has both texts

module _ (p : Pair) (texts : Option (List ℕ → Option (List ℕ))) (of : HasProgram p texts) (second : List ℕ) (told : IsToldAnd (told_under texts p.second) (λ found. found ≡ second))
    (short : length second ≤ second_bytes p.kind) where
  writes_so : {Took : List ℕ → Type 0} (e : Ending) (written : List ℕ) → IsWritten p.kind e of.program second written → Took written → Writes p e texts Took
  writes_so e written is took = record { of = of; second = second; second_told = told; short = short; written = written; is = is; took = took }

  module _ (f g : List ℕ → ℕ) (old new : Option (List ℕ)) (before after : Faults) where
    -- one that writes a line of both ended so
    pub line_ended : (e : Ending) → EndsByLine p.kind of.program second e old new before after → RequestEnded (to_pair p) e texts old new before after f g
    line_ended Done h = record { cause = tt; output = writes_so Done h.0.0 h.0.1 h.0.2; counts = h.1 }
    line_ended WriteFault h = record { cause = tt; output = writes_so WriteFault h.0.0 h.0.1 h.0.2; counts = h.1 }
    line_ended (SecondRefused kind r) h = record {
      cause = record {
        same = h.0;
        of = of;
        second = second;
        second_told = told;
        refused = second_wrong short h.1;
        code = h.2;
      };
      output = h.3;
      counts = h.4;
    }
    line_ended NoMemory h = record { cause = tt; output = inl h.0; counts = h.1 }
    line_ended Budget h = absurd h
    line_ended (Refused r) h = absurd h
    line_ended Words h = absurd h
    line_ended ReadFault h = absurd h
    line_ended Full h = absurd h

    -- and one that debugs the program
    pub debug_ended : p.kind ≡ Debug → (e : Ending) → EndsDebugged of.program second e old new before after → RequestEnded (to_pair p) e texts old new before after f g
    debug_ended kind Done h = record { cause = tt; output = writes_so Done h.0.0 (rw kind h.0.1) h.0.2; counts = h.1 }
    debug_ended kind WriteFault h = record { cause = tt; output = writes_so WriteFault h.0.0 (rw kind h.0.1) h.0.2; counts = h.1 }
    debug_ended kind (SecondRefused Debug r) h = record {
      cause = record {
        same = sym kind;
        of = of;
        second = second;
        second_told = told;
        refused = second_wrong short (rw kind h.0);
        code = rw kind h.1;
      };
      output = h.2;
      counts = h.3;
    }
    debug_ended kind (SecondRefused Check r) h = absurd h
    debug_ended kind (SecondRefused Exec r) h = absurd h
    debug_ended kind (SecondRefused Bound r) h = absurd h
    debug_ended kind NoMemory h =
        record { cause = tt; output = elim h.0 [ inl same ↦ inl same | inr some ↦ inr (writes_so NoMemory some.0 (rw kind some.1) some.2) ]; counts = h.1 }
    debug_ended kind Budget h = absurd h
    debug_ended kind (Refused r) h = absurd h
    debug_ended kind Words h = absurd h
    debug_ended kind ReadFault h = absurd h
    debug_ended kind Full h = absurd h

    -- and one that runs it by a listing
    pub exec_ended : p.kind ≡ Exec → (e : Ending) → EndsExecuted of.program second e old new before after → RequestEnded (to_pair p) e texts old new before after f g
    exec_ended kind Done h = record { cause = tt; output = writes_so Done h.0.0 (rw kind h.0.1) h.0.2; counts = h.1 }
    exec_ended kind Budget h = record { cause = tt; output = writes_so Budget h.0.0 (rw kind h.0.1) h.0.2; counts = h.1 }
    exec_ended kind Full h = record { cause = tt; output = writes_so Full h.0.0 (rw kind h.0.1) h.0.2; counts = h.1 }
    exec_ended kind WriteFault h = record { cause = tt; output = writes_so WriteFault h.0.0 (rw kind h.0.1) h.0.2; counts = h.1 }
    exec_ended kind NoMemory h =
        record { cause = tt; output = elim h.0 [ inl same ↦ inl same | inr some ↦ inr (writes_so NoMemory some.0 (rw kind some.1) some.2) ]; counts = h.1 }
    exec_ended kind (SecondRefused Exec r) h = record {
      cause = record {
        same = sym kind;
        of = of;
        second = second;
        second_told = told;
        refused = second_wrong short (rw kind h.0);
        code = rw kind h.1;
      };
      output = h.2;
      counts = h.3;
    }
    exec_ended kind (SecondRefused Check r) h = absurd h
    exec_ended kind (SecondRefused Debug r) h = absurd h
    exec_ended kind (SecondRefused Bound r) h = absurd h
    exec_ended kind (Refused r) h = absurd h
    exec_ended kind Words h = absurd h
    exec_ended kind ReadFault h = absurd h

-- ---- what is asked for behind the program

-- the second text, where the program is accepted and the call isn't refused by it
pub fetched_behind : (p : Pair) (texts : Option (List ℕ → Option (List ℕ))) → HasProgram p texts → (before after : Option (List Fetch)) → after ≡ asked_second p before
    → (e : Ending) → ((r : Refusal) → ¬ (e ≡ Refused r)) → FetchesSecond p e texts before after
fetched_behind p texts of before after is Done none = (is, of)
fetched_behind p texts of before after is Budget none = (is, of)
fetched_behind p texts of before after is (Refused r) none = absurd (none r refl)
fetched_behind p texts of before after is Words none = (is, of)
fetched_behind p texts of before after is ReadFault none = inr (is, of)
fetched_behind p texts of before after is WriteFault none = (is, of)
fetched_behind p texts of before after is NoMemory none = inr (is, of)
fetched_behind p texts of before after is Full none = (is, of)
fetched_behind p texts of before after is (SecondRefused kind r) none = (is, of)

module _ (program second : List ℕ) (e : Ending) (old new : Option (List ℕ)) (before after : Faults) where
  -- a call that writes a line of both isn't refused by the program
  pub line_refuses_none : (kind : PairKind) → EndsByLine kind program second e old new before after → (r : Refusal) → ¬ (e ≡ Refused r)
  line_refuses_none kind h r is = subst (λ x. EndsByLine kind program second x old new before after) is h

  -- nor is one that debugs it
  pub debugged_refuses_none : EndsDebugged program second e old new before after → (r : Refusal) → ¬ (e ≡ Refused r)
  debugged_refuses_none h r is = subst (λ x. EndsDebugged program second x old new before after) is h

  -- nor one that runs it by a listing
  pub executed_refuses_none : EndsExecuted program second e old new before after → (r : Refusal) → ¬ (e ≡ Refused r)
  executed_refuses_none h r is = subst (λ x. EndsExecuted program second x old new before after) is h
