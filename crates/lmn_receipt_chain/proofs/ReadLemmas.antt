-- How a trace is gone through that is read line by line.
use Rattle.std.proofs.Common.{◌≡◌, ◌∙◌, ℕ, ◌+◌, List, [], ◌∷◌, ◌++◌, length, map, take, refl, sym, ap, subst, append_assoc, append-nil}
use Rattle.std.specs.List.{concat}
use Rattle.std.specs.declared.alloc.Global.{Global}
use Rattle.lmn_base.specs.Names.{IsNames}
use Rattle.lmn_base.specs.Refusals.{IfRefused}
use Rattle.lmn_base.specs.declared.refusal.Refusal.{Refusal}
use Rattle.lmn_base.specs.declared.refusal.TextFault.{TextFault}
use Rattle.lmn_base.specs.declared.refusal.TextFault.TheVariants as text
use Rattle.lmn_base.specs.declared.solid.Solid.{Solid}
use Rattle.lmn_congruence.specs.Regions.{Region}
use Rattle.lmn_congruence.specs.Rules.{Name}
use Rattle.lmn_app_runs.proofs.TraceRuns.{Fine, solid_fine}
use Rattle.lmn_app_runs.specs.Laws.{solid_of}
use Rattle.lmn_app_runs.specs.Runs.{end_line}
use Rattle.lmn_adequacy.proofs.Runs.{one_longer}
use Rattle.lmn_receipt_chain.specs.Chains.{Continued, IsChain, IsWrongTrace, at_line, begun, continued, line_of_solid, no_end_line, no_first_line, no_next_line}
use Rattle.lmn_receipt_chain.specs.Faults.{IfTraceRefused}
use Rattle.lmn_receipt_chain.specs.Laws.{IsAcceptedSolid}
use Rattle.lmn_receipt_chain.specs.OneFeed.{PrintableHaveOneFeed}
use Rattle.lmn_receipt_chain.specs.Steps.{BeginsWith, IsStep}
use Rattle.lmn_receipt_chain.specs.declared.trace_fault.TraceFault.{TraceFault}
use Rattle.lmn_receipt_chain.specs.declared.trace_fault.TraceFault.TheVariants.{Refused, Failed, NoMemory}
use Rattle.lmn_receipt_chain.specs.declared.walk.Step.TheVariants.{More, Done, WrongLine, WrongEnd}
use Rattle.lmn_receipt_chain.proofs.ChainLemmas.{sound_next}
use Rattle.lmn_receipt_chain.proofs.OneChain.{fine_next, no_feed}
use Rattle.lmn_receipt_chain.proofs.WalkLemmas.{first_part, lines_more}

-- ---- what is left of a trace

-- So far: the line of this solid was met last, which is what is asked, and n others before it; each text that may be left is left of one
-- that may be the trace.
pub record ReadTo (region : Solid → Region) (asked : Solid → Type 0) (first solid : Solid) (is_trace is_rest : List ℕ → Type 0) (last : List ℕ) (n : ℕ) : Type 0 where
  pub fits : asked solid
  pub sound : IsAcceptedSolid (region solid)
  pub own : last ≡ line_of_solid (region solid)
  pub before : List Region
  pub solids : Continued (region first) before (region solid)
  pub count : length before ≡ n
  pub left : (rest : List ℕ) → is_rest rest → is_trace (concat (map line_of_solid (before ++ region solid ∷ [])) ++ rest)

-- behind the first line
pub read_first : (region : Solid → Region) (asked : Solid → Type 0) (first : Solid) (is_trace is_rest : List ℕ → Type 0) (window last : List ℕ) (len : ℕ) → asked first → IsAcceptedSolid (region first)
    → BeginsWith (region first) window len → last ≡ take len window → ((rest : List ℕ) → is_rest rest → is_trace (take len window ++ rest)) → ReadTo region asked first first is_trace is_rest last 0
read_first region asked first is_trace is_rest window last len fits sound w met left =
    let own = first_part window (line_of_solid (region first)) len w.1 w.2 in
    record {
      fits = fits;
      sound = sound;
      own = met ∙ own;
      before = [];
      solids = begun;
      count = refl;
      left = λ rest is. subst (λ t. is_trace (t ++ rest)) (own ∙ sym (append-nil (line_of_solid (region first)))) (left rest is);
    }

-- and behind the line of a solid that continues it
pub read_more : (region : Solid → Region) (asked : Solid → Type 0) (first solid next : Solid) (is_trace is_rest is_left : List ℕ → Type 0) (window last met : List ℕ) (n m len : ℕ) → ReadTo region asked first solid is_trace is_rest last n
    → IsStep region asked (region solid) window m (More next len) → met ≡ take len window → ((rest : List ℕ) → is_left rest → is_rest (take len window ++ rest)) → ReadTo region asked first next is_trace is_left met (n + 1)
read_more region asked first solid next is_trace is_rest is_left window last met n m len r w own left =
    let before = r.before ++ region solid ∷ [] in
    let line = line_of_solid (region next) in
    let front = first_part window line len w.3 w.4 in
    record {
      fits = w.0;
      sound = sound_next r.sound w.1;
      own = own ∙ front;
      before = before;
      solids = continued r.solids w.1;
      count = one_longer r.before (region solid) ∙ ap (λ k. k + 1) r.count;
      left = λ rest is.
          subst is_trace (sym (append_assoc (concat (map line_of_solid before)) line rest) ∙ ap (λ t. t ++ rest) (sym (lines_more before (region next))))
          (r.left (line ++ rest) (subst (λ t. is_rest (t ++ rest)) front (left rest is)));
    }

-- ---- what a step is for the whole trace

module _ (region : Solid → Region) (asked : Solid → Type 0) (first solid : Solid) (is_trace is_rest : List ℕ → Type 0) (last : List ℕ) (n : ℕ) (r : ReadTo region asked first solid is_trace is_rest last n) where
  abbrev Begun : List ℕ → List ℕ
  Begun t = concat (map line_of_solid (r.before ++ region solid ∷ [])) ++ t

  -- the end line: it is a chain,
  pub read_done : (rest : List ℕ) × is_rest rest × IsStep region asked (region solid) rest n Done → (trace : List ℕ) × is_trace trace × IsChain (region first) trace n
  read_done h = (
    Begun h.0,
    r.left h.0 h.1,
    record { before = r.before; last = region solid; word = h.2.0; begins = record { solids = r.solids; is = ap Begun h.2.2 }; ends = h.2.1; count = r.count },
  )

  -- a line of no solid that continues the last one,
  pub read_wrong_line : (line : ℕ) → n + 2 ≡ line → (rest : List ℕ) × is_rest rest × IsStep region asked (region solid) rest n WrongLine → (trace : List ℕ) × is_trace trace × IsWrongTrace (region first) trace (at_line 61 line)
  read_wrong_line line same h = (
    Begun h.0,
    r.left h.0 h.1,
    no_next_line r.before (region solid) h.0 (record { solids = r.solids; is = refl }) h.2.0 h.2.1 (ap (at_line 61) (sym same ∙ ap (λ m. m + 2) (sym r.count))),
  )

  -- and an end that isn't the one that is due
  pub read_wrong_end : (line : ℕ) → n + 2 ≡ line → (rest : List ℕ) × is_rest rest × IsStep region asked (region solid) rest n WrongEnd → (trace : List ℕ) × is_trace trace × IsWrongTrace (region first) trace (at_line 62 line)
  read_wrong_end line same h = (
    Begun h.0,
    r.left h.0 h.1,
    no_end_line r.before (region solid) h.0 (record { solids = r.solids; is = refl }) h.2.0 (λ word ends e. h.2.1 word ends (e ∙ ap (end_line word) r.count)) (ap (at_line 62) (sym same ∙ ap (λ m. m + 2) (sym r.count))),
  )

-- a trace that doesn't begin with the line of the first solid is wrong
pub read_none : (S : Region) (is_trace : List ℕ → Type 0) → (rest : List ℕ) × is_trace rest × ((more : List ℕ) → rest ≡ line_of_solid S ++ more → ⊥) → (trace : List ℕ) × is_trace trace × IsWrongTrace S trace (at_line 61 1)
read_none S is_trace h = (h.0, h.1, no_first_line h.2 refl)

-- ---- results

-- where nothing is refused nothing is to be said
pub nothing_refused : (fault : TraceFault) (P : Refusal → Type 0) → IfTraceRefused fault (λ r. ⊥) → IfTraceRefused fault P
nothing_refused (Refused r) P h = absurd h
nothing_refused Failed P h = tt
nothing_refused NoMemory P h = tt

-- ---- a trace that is at hand whole

-- it is the one that is left, so it is a chain,
pub whole_chain : (S : Region) (trace left : List ℕ) → left ≡ trace → (n : ℕ) → (t : List ℕ) × (t ≡ left) × IsChain S t n → IsChain S trace n
whole_chain S trace left same n h = subst (λ t. IsChain S t n) (h.1 ∙ same) h.2

-- or it is wrong
pub whole_wrong : (S : Region) (trace left : List ℕ) → left ≡ trace → (fault : TraceFault) (answer : TextFault) → IfRefused answer (λ refusal. fault ≡ Refused refusal) →
    IfTraceRefused fault (λ refusal. (t : List ℕ) × (t ≡ left) × IsWrongTrace S t refusal) → IfRefused answer (IsWrongTrace S trace)
whole_wrong S trace left same fault text.NoMemory is h = tt
whole_wrong S trace left same fault (text.Refused refusal) is h =
    let k : (t : List ℕ) × (t ≡ left) × IsWrongTrace S t refusal = subst (λ f. IfTraceRefused f (λ r. (t : List ℕ) × (t ≡ left) × IsWrongTrace S t r)) is h in
    subst (λ t. IsWrongTrace S t refusal) (k.1 ∙ same) k.2

-- ---- solids of plains of which runs can be printed

module _ (alloc : Global) (names : List Name) (is : IsNames names) (S : Region) (start : Fine names S) where
  fine_last : {before : List Region} {last : Region} → Continued S before last → Fine names last
  fine_last begun = start
  fine_last (continued p c) = fine_next alloc names is (fine_last p) c

-- their lines have one line feed
pub printable_have_one_feed : PrintableHaveOneFeed
printable_have_one_feed alloc names plain s printable i before last c =
    let start = solid_fine names plain printable s i in
    no_feed alloc names printable.named.0 last (fine_last alloc names printable.named.0 (solid_of names plain s) start c)
