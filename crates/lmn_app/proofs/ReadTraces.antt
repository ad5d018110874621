-- Traces that are read in parts.
use Rattle.std.proofs.Common.{◌≡◌, ◌≤◌, ◌∙◌, ℕ, List, Option, arith, inl, inr, refl, subst, sym}
use Rattle.std.specs.Prelude.{IfErr, IfOk, Result, Ok, Err}
use Rattle.lmn_base.specs.declared.refusal.Refusal.{Refusal}
use Rattle.lmn_base.specs.declared.rule.Plain.{Plain}
use Rattle.lmn_base.specs.declared.solid.Solid.{Solid}
use Rattle.lmn_congruence.specs.Rules.{Name}
use Rattle.lmn_congruence.specs.SolidsOfPlains.{IsSolidOf}
use Rattle.lmn_congruence.specs.Translation.{region_of}
use Rattle.lmn_receipt_chain.specs.Chains.{IsChain, IsWrongTrace}
use Rattle.lmn_receipt_chain.specs.Faults.{IfTraceRefused}
use Rattle.lmn_receipt_chain.specs.declared.trace_fault.TraceFault.{TraceFault}
use Rattle.lmn_receipt_chain.specs.declared.trace_fault.TraceFault.TheVariants as fault
use Rattle.lmn_io.specs.Counts.{Faults, Rose}
use Rattle.lmn_io.specs.Texts.{Fetch, IsMeasured}
use Rattle.lmn_io.specs.declared.shelf.Measured.TheVariants as measured
use Rattle.lmn_reduction.specs.Chains.{Chain, no_step, step_after}
use Rattle.lmn_receipt_reading.specs.declared.shelf_lines.ShelfLines.{ShelfLines}
use Rattle.lmn_receipt_reading.specs.Readings.{IsOfSame, ReadFailed}
use Rattle.lmn_receipt_reading.specs.Seen.{seen}
use Rattle.lmn_receipt_reading.proofs.ReadingLemmas.{failed_behind, same_at_first, same_twice}
use Rattle.lmn_app_words.specs.declared.command.PairKind.TheVariants.{Check}
use Rattle.lmn_app_words.specs.Forms.{Pair, to_pair}
use Rattle.lmn_app_single.specs.declared.ending.Ending.{Ending}
use Rattle.lmn_app_single.specs.declared.ending.Ending.TheVariants.{Done, Budget, Refused, Words, ReadFault, WriteFault, NoMemory, Full, SecondRefused}
use Rattle.lmn_app_single.specs.Writing.{told_under}
use Rattle.lmn_app_single.proofs.OutcomeLemmas.{told_here, under_told}
use Rattle.lmn_app.specs.Outcomes.{RequestEnded}
use Rattle.lmn_app.specs.Pairs.{HasProgram}
use Rattle.lmn_app.specs.Runnings.{EndsByLine}
use Rattle.lmn_app.specs.SecondTexts.{second_bytes}
use Rattle.lmn_app.specs.Traces.{EndsChecked, HasChain, HasWrong, IsTextUnder}
use Rattle.lmn_app.proofs.PairLemmas.{line_ended}
use Rattle.lmn_app.proofs.RequestLemmas.{since_earlier}

-- ---- lines that are read one behind the other

module _ {F : Type 0} (told : F → Option (List ℕ → Option (List ℕ))) (asked : F → Option (List Fetch)) (faults : F → List ℕ → ℕ) where
  -- of one shelf, of which the same is told and asked, and no count falls
  abbrev pub Reads : ShelfLines F → ShelfLines F → Type 0
  Reads s t = (t.shelf.ghost_name ≡ s.shelf.ghost_name) × IsOfSame (seen told asked faults s) (seen told asked faults t)

  -- and so it is behind any number of them
  pub read_same : (s t : ShelfLines F) (n : ℕ) → Chain Reads s n t → Reads s t
  read_same s _ _ no_step = (refl, same_at_first (seen told asked faults s))
  read_same s t _ (step_after {n = n} {y = mid} before last) =
      let same = read_same s mid n before in
      (last.0 ∙ same.0, same_twice (seen told asked faults s) (seen told asked faults mid) (seen told asked faults t) same.1 last.1)

  -- where one couldn't be read the count rose
  pub read_failed : (s filled mid t : ShelfLines F) (n : ℕ) → IsOfSame (seen told asked faults s) (seen told asked faults filled) → Chain Reads filled n mid → ReadFailed (seen told asked faults mid) (seen told asked faults t)
      → ReadFailed (seen told asked faults s) (seen told asked faults t)
  read_failed s filled mid t n first chain failed =
      failed_behind (seen told asked faults s) (seen told asked faults mid) (seen told asked faults t)
      (same_twice (seen told asked faults s) (seen told asked faults filled) (seen told asked faults mid) first (read_same filled mid n chain).1) failed

-- ---- what a check of lines says of the text

module _ (names : List Name) (plain : Plain) (Rest Text : List ℕ → Type 0) (back : (text : List ℕ) → Rest text → Text text) where
  -- a chain of what may be left is one of what may be the text
  pub chain_read : {E : Type 0} (result : Result ℕ E) → IfOk result (λ n. (trace : List ℕ) × (s : Solid) × Rest trace × IsSolidOf plain s × IsChain (region_of names plain.rules s) trace n)
      → IfOk result (λ n. (text : List ℕ) × Text text × HasChain names plain text n)
  chain_read (Ok n) h = (h.0, back h.0 h.2, (h.1, h.3, h.4))
  chain_read (Err e) h = tt

  -- and so it is with what is wrong
  pub wrong_read : (result : Result ℕ TraceFault) → IfErr result (λ fault. IfTraceRefused fault (λ refusal. (trace : List ℕ) × (s : Solid) × Rest trace × IsSolidOf plain s × IsWrongTrace (region_of names plain.rules s) trace refusal))
      → IfErr result (λ fault. IfTraceRefused fault (λ refusal. (text : List ℕ) × Text text × HasWrong names plain text refusal))
  wrong_read (Ok n) h = tt
  wrong_read (Err (fault.Refused r)) h = (h.0, back h.0 h.2, (h.1, h.3, h.4))
  wrong_read (Err fault.Failed) h = tt
  wrong_read (Err fault.NoMemory) h = tt

-- ---- how a call ends that checks one

module _ (p : Pair) (texts : Option (List ℕ → Option (List ℕ))) (of : HasProgram p texts) (kind : p.kind ≡ Check) (count : ℕ) (few : count ≤ second_bytes p.kind) (f g : List ℕ → ℕ)
    (old new : Option (List ℕ)) (before after : Faults) where
  abbrev Ends : Ending → Type 0
  Ends e = EndsChecked of.program (IsTextUnder texts p.second count) (Rose (f p.second) (g p.second)) e old new before after

  by_text : (e : Ending) → (trace : List ℕ) × IsTextUnder texts p.second count trace × EndsByLine Check of.program trace e old new before after → RequestEnded (to_pair p) e texts old new before after f g
  by_text e h =
      let short = h.1.short in
      let told = told_here (λ found. found ≡ h.0) (told_under texts p.second) h.0 (under_told texts p.second h.0 h.1.is_told) refl in
      line_ended p texts of h.0 told (omega (arith, short, few)) f g old new before after e (subst (λ k. EndsByLine k of.program h.0 e old new before after) (sym kind) h.2)

  -- it ended so as a request
  pub read_ended : (e : Ending) → Ends e → RequestEnded (to_pair p) e texts old new before after f g
  read_ended ReadFault h = record { cause = inr h.0; output = h.1; counts = h.2 }
  read_ended NoMemory h = record { cause = tt; output = inl h.0; counts = h.1 }
  read_ended Done h = by_text Done h
  read_ended Budget h = by_text Budget h
  read_ended (Refused r) h = by_text (Refused r) h
  read_ended Words h = by_text Words h
  read_ended WriteFault h = by_text WriteFault h
  read_ended Full h = by_text Full h
  read_ended (SecondRefused k r) h = by_text (SecondRefused k r) h

  -- and it isn't refused by the program
  pub read_refuses_none : (e : Ending) → Ends e → (r : Refusal) → ¬ (e ≡ Refused r)
  read_refuses_none e h r is = (subst Ends is h).2

-- and so it is where the text was measured before
pub measured_ended : (p : Pair) (texts mid_texts : Option (List ℕ → Option (List ℕ))) → mid_texts ≡ texts → (of : HasProgram p texts) → p.kind ≡ Check → (count : ℕ) → IsMeasured texts p.second (second_bytes p.kind) (measured.Length count)
    → (f m g : List ℕ → ℕ) → ((name : List ℕ) → f name ≤ m name) → (old new : Option (List ℕ)) (before after : Faults) (e : Ending)
    → EndsChecked of.program (IsTextUnder mid_texts p.second count) (Rose (m p.second) (g p.second)) e old new before after → RequestEnded (to_pair p) e texts old new before after f g
measured_ended p texts mid_texts same of kind count is f m g later old new before after e h =
    since_earlier p e texts old new before after f m g later
    (read_ended p texts of kind count is.0 m g old new before after e (subst (λ t. EndsChecked of.program (IsTextUnder t p.second count) (Rose (m p.second) (g p.second)) e old new before after) same h))
