-- What follows from what a command leaves behind.
use Rattle.std.specs.Prelude.{◌≡◌, ◌<◌, ℕ, ◌+◌, List, [], ◌∷◌, Option, None, Some, IfSome, IsSomeAnd}
use Rattle.std.proofs.Common.{zero, suc, ap, arith, inl, inr, refl, subst, sym, length}
use Rattle.lmn_base.specs.declared.refusal.Refusal.{Refusal}
use Rattle.lmn_io.specs.Counts.{Faults, Rose}
use Rattle.lmn_io.proofs.TakingLemmas.{no_put}
use Rattle.lmn_app_runs.specs.declared.stop.Stop.{Stop}
use Rattle.lmn_app_single.specs.declared.ending.Ending.{Ending}
use Rattle.lmn_app_single.specs.declared.ending.Ending.TheVariants.{Done, Budget, Refused, Words, ReadFault, WriteFault, NoMemory, Full, SecondRefused}
use Rattle.lmn_app_words.specs.declared.command.RunSettings.{RunSettings}
use Rattle.lmn_app_single.specs.declared.task.Task.{Task}
use Rattle.lmn_app_single.specs.declared.task.Task.TheVariants as task
use Rattle.lmn_base.specs.Codes.{IsTextCode}
use Rattle.lmn_app_single.specs.Outcomes.{Causes, Ended, Output, RefusesText}
use Rattle.lmn_app_single.specs.Texts.{at_start, text_bytes, too_long}
use Rattle.lmn_app_single.specs.Requests.{most_items}
use Rattle.lmn_app_single.specs.Runnings.{EndsUnread}
use Rattle.lmn_app_single.specs.Writing.{IsToldAnd, Lists, WritesRun, WritesPartOfRun, told_under}

-- ---- a text that is told

-- what is said of a text is said of what is told, if that is told at all
pub told_here : (P : List ℕ → Type 0) (told : Option (Option (List ℕ))) (bytes : List ℕ) → IfSome told (λ found. found ≡ Some bytes) → P bytes → IsToldAnd told P
told_here P None bytes e p = tt
told_here P (Some found) bytes e p = subst (λ o. IsSomeAnd o P) (sym e) p

-- what a map has under a name is what is told
pub under_told : (texts : Option (List ℕ → Option (List ℕ))) (name bytes : List ℕ) → IfSome texts (λ text. text name ≡ Some bytes) → IfSome (told_under texts name) (λ found. found ≡ Some bytes)
under_told None name bytes e = tt
under_told (Some texts) name bytes e = e

module _ (told : Option (Option (List ℕ))) (bytes : List ℕ) (e : IfSome told (λ found. found ≡ Some bytes)) where
  writes_told : (s : RunSettings) (why : Stop) (old new : Option (List ℕ)) → WritesRun s (Some (Some bytes)) why old new → WritesRun s told why old new
  writes_told s why old new h = record {
    text = h.text;
    is_told = told_here (λ found. found ≡ h.text) told bytes e h.is_told;
    lines = h.lines;
    commits = h.commits;
    run = h.run;
    trace = h.trace;
    stops = h.stops;
    took = h.took;
  }

  part_told : (s : RunSettings) (old new : Option (List ℕ)) → WritesPartOfRun s (Some (Some bytes)) old new → WritesPartOfRun s told old new
  part_told s old new h = record {
    text = h.text;
    is_told = told_here (λ found. found ≡ h.text) told bytes e h.is_told;
    lines = h.lines;
    commits = h.commits;
    trace = h.trace;
    run = h.run;
    took = h.took;
  }

  lists_told : (Took : List ℕ → Type 0) → Lists (Some (Some bytes)) Took → Lists told Took
  lists_told Took h = record { text = h.text; is_told = told_here (λ found. found ≡ h.text) told bytes e h.is_told; listing = h.listing; of = h.of; took = h.took }

  causes_told : (t : Task) (ending : Ending) (before after : ℕ) → Causes t ending (Some (Some bytes)) before after → Causes t ending told before after
  causes_told t Done before after h = h
  causes_told t Budget before after h = h
  causes_told t (Refused r) before after h = record { text = h.text; is_told = told_here (λ found. found ≡ h.text) told bytes e h.is_told; refused = h.refused; code = h.code }
  causes_told t Words before after h = h
  causes_told t ReadFault before after h = h
  causes_told t WriteFault before after h = h
  causes_told t NoMemory before after h = h
  causes_told t Full before after h = h
  causes_told t (SecondRefused kind r) before after h = h

  output_told : (t : Task) (ending : Ending) (old new : Option (List ℕ)) → Output t ending (Some (Some bytes)) old new → Output t ending told old new
  output_told (task.Run s) Done old new h = writes_told s _ old new h
  output_told (task.Run s) Budget old new h = writes_told s _ old new h
  output_told (task.Run s) Full old new h = writes_told s _ old new h
  output_told (task.Run s) NoMemory old new h = elim h [ inl same ↦ inl same | inr more ↦ inr (writes_told s _ old new more) ]
  output_told (task.Run s) WriteFault old new h = part_told s old new h
  output_told (task.Run s) (Refused r) old new h = h
  output_told (task.Run s) Words old new h = h
  output_told (task.Run s) ReadFault old new h = h
  output_told task.List Done old new h = lists_told _ h
  output_told task.List Budget old new h = h
  output_told task.List Full old new h = h
  output_told task.List NoMemory old new h = h
  output_told task.List WriteFault old new h = lists_told _ h
  output_told task.List (Refused r) old new h = h
  output_told task.List Words old new h = h
  output_told task.List ReadFault old new h = h
  output_told (task.Run s) (SecondRefused kind r) old new h = h
  output_told task.List (SecondRefused kind r) old new h = h

  pub ended_told : (t : Task) (ending : Ending) (old new : Option (List ℕ)) (before after : Faults) (read_before read_after : ℕ) → Ended t ending (Some (Some bytes)) old new before after read_before read_after
      → Ended t ending told old new before after read_before read_after
  ended_told t ending old new before after read_before read_after h =
      record { cause = causes_told t ending read_before read_after h.cause; output = output_told t ending old new h.output; counts = h.counts }

-- ---- endings at which nothing was taken

nothing_refused : (t : Task) (r : Refusal) (told : Option (Option (List ℕ))) (x : Option (List ℕ)) → Output t (Refused r) told x x
nothing_refused (task.Run s) r told x = refl
nothing_refused task.List r told x = refl

nothing_read : (t : Task) (told : Option (Option (List ℕ))) (x : Option (List ℕ)) → Output t ReadFault told x x
nothing_read (task.Run s) told x = refl
nothing_read task.List told x = refl

nothing_more : (t : Task) (told : Option (Option (List ℕ))) (x : Option (List ℕ)) → Output t NoMemory told x x
nothing_more (task.Run s) told x = inl refl
nothing_more task.List told x = refl

-- a task with a text that is refused ends so
pub refused_ended : (t : Task) (r : Refusal) (told : Option (Option (List ℕ))) (x : Option (List ℕ)) (n : Faults) (rb ra : ℕ) → RefusesText (most_items t) told r
    → Ended t (Refused r) told x x n n rb ra
refused_ended t r told x n rb ra h = record { cause = h; output = nothing_refused t r told x; counts = no_put n }

-- and one with a file that can't be read
pub fault_ended : (t : Task) (told : Option (Option (List ℕ))) (x : Option (List ℕ)) (n : Faults) (rb ra : ℕ) → Rose rb ra → Ended t ReadFault told x x n n rb ra
fault_ended t told x n rb ra h = record { cause = h; output = nothing_read t told x; counts = no_put n }

-- a task may end for want of memory, with its output as it was
pub memory_ended : (t : Task) (told : Option (Option (List ℕ))) (x : Option (List ℕ)) (n : Faults) (rb ra : ℕ) → Ended t NoMemory told x x n n rb ra
memory_ended t told x n rb ra = record { cause = tt; output = nothing_more t told x; counts = no_put n }

-- a text that is told and is too long
pub long_told : (P : List ℕ → Type 0) (told : Option (List ℕ → Option (List ℕ))) (name : List ℕ) (most : ℕ) → IfSome told (λ text. IsSomeAnd (text name) (λ bytes. most < length bytes))
    → ((bytes : List ℕ) → most < length bytes → P bytes) → IsToldAnd (told_under told name) P
long_told P None name most h f = tt
long_told P (Some text) name most h f = go (text name) h
  where
    go : (o : Option (List ℕ)) → IsSomeAnd o (λ bytes. most < length bytes) → IsSomeAnd o P
    go None k = k
    go (Some bytes) k = f bytes k

-- a text of which this holds: the one that is told, and where none is some text
pub told_text : (told : Option (Option (List ℕ))) (P : List ℕ → Type 0) → IsToldAnd told P → (some : List ℕ) → P some → (text : List ℕ) × IsToldAnd told (λ found. found ≡ text) × P text
told_text None P h some p = (some, tt, p)
told_text (Some None) P h some p = absurd h
told_text (Some (Some found)) P h some p = (found, refl, h)

zeros : ℕ → List ℕ
zeros zero = []
zeros (suc n) = 0 ∷ zeros n

zeros_long : (n : ℕ) → length (zeros n) ≡ n
unfolding zeros
zeros_long zero = refl
zeros_long (suc n) = ap suc (zeros_long n)

-- some text has more bytes
pub longer : (n : ℕ) → (text : List ℕ) × (n < length text)
longer n = let long = zeros_long (n + 1) in (zeros (n + 1), omega (arith, long))

-- a program that is too long is refused for that
pub too_long_refused : (size : Option ℕ) (told : Option (Option (List ℕ))) (r : Refusal) → (r ≡ at_start 1) × IsToldAnd told (λ bytes. text_bytes < length bytes)
    → RefusesText size told r
too_long_refused size told r h =
    let some = longer text_bytes in
    let found = told_text told (λ bytes. text_bytes < length bytes) h.1 some.0 some.1 in
    record { text = found.0; is_told = found.1; refused = too_long found.2 h.0; code = subst (λ (q : Refusal). IsTextCode q.code) (sym h.0) refl }

-- a task without a program ends so
pub unread_ended : (t : Task) (e : Ending) (told : Option (Option (List ℕ))) (x : Option (List ℕ)) (n : Faults) (rb ra : ℕ) → EndsUnread e told rb ra → Ended t e told x x n n rb ra
unread_ended t (Refused r) told x n rb ra h = refused_ended t r told x n rb ra (too_long_refused (most_items t) told r h)
unread_ended t ReadFault told x n rb ra h = fault_ended t told x n rb ra h
unread_ended t NoMemory told x n rb ra h = memory_ended t told x n rb ra
unread_ended t Done told x n rb ra h = absurd h
unread_ended t Budget told x n rb ra h = absurd h
unread_ended t Words told x n rb ra h = absurd h
unread_ended t WriteFault told x n rb ra h = absurd h
unread_ended t Full told x n rb ra h = absurd h
unread_ended t (SecondRefused kind r) told x n rb ra h = absurd h
