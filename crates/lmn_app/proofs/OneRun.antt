-- Two runs of one text that are given the same write one text.
use Rattle.std.proofs.Common.{◌≡◌, ◌∙◌, ◌+◌, ◌≤◌, ◌++◌, ◌⊎◌, inl, inr, ℕ, Bool, true, List, [], ◌∷◌, Option, Some, length, sym, ap, subst, append_assoc, arith}
use Rattle.std.proofs.lemmas.Option.{same_Some}
use Rattle.lmn_app_accepted.specs.Rules.{AcceptedTexts}
use Rattle.lmn_adequacy.specs.Runs.{Chooser, End, Ends, Trace, loaded, turned}
use Rattle.lmn_adequacy.proofs.Runs.{end_is_one, one_longer, trace_is_one}
use Rattle.lmn_base.proofs.Lists.{plus_nothing}
use Rattle.lmn_congruence.specs.Process.{Closed}
use Rattle.lmn_congruence.specs.Regions.{Region, region_process}
use Rattle.lmn_receipt_chain.specs.Laws.{IsAcceptedSolid}
use Rattle.lmn_app_runs.specs.Runs.{Given, LinesOf, PrintedLines, StopsSo, at_end, printed}
use Rattle.lmn_app_runs.specs.declared.stop.Stop.{Stop}
use Rattle.lmn_app_runs.specs.Texts.{PlainsArePrintable}
use Rattle.lmn_app_runs.proofs.TraceLines.{one_more_line, traces_have_lines}
use Rattle.lmn_app_runs.proofs.Stops.{ends_at_stop}
use Rattle.lmn_app_words.specs.declared.command.RunSettings.{RunSettings}
use Rattle.lmn_app.specs.Checks.{HasSolid}
use Rattle.lmn_app.specs.RunLaws.{EarlierRunFirst, OneRun, OneRunSoFar}
use Rattle.lmn_app_single.specs.Runs.{IsTraceOf}
use Rattle.lmn_app_single.specs.Writing.{WritesRun, given, run_text}
use Rattle.lmn_app.proofs.CheckLemmas.{accepted}
use Rattle.lmn_app.proofs.OneCheck.{one_solid}

-- a closed solid has one row of lines of each of its traces
one_row : (g : Given) (S : Region) (before : List Region) (last : Region) → Closed (region_process S) → Trace g.chooser g.budget g.size S before last →
    (lines others : List (List ℕ)) → PrintedLines g before last lines → PrintedLines g before last others → lines ≡ others
one_row g S before last closed p lines others h k = let x = traces_have_lines g S before last closed p in x.2 lines h ∙ sym (x.2 others k)

-- ---- a trace up to some solid of it

-- the trace up to its solid number n, and the lines that are printed of all its solids: those of the solids up to there, and the rest
record Earlier (chooser : Chooser) (budget size : ℕ) (S : Region) (folded : Bool) (n : ℕ) (lines : List (List ℕ)) : Type 0 where
  pub before : List Region
  pub last : Region
  pub trace : Trace chooser budget size S before last
  pub count : length before ≡ n
  pub first : List (List ℕ)
  pub are : LinesOf folded (before ++ last ∷ []) first
  pub rest : List (List ℕ)
  pub is : lines ≡ first ++ rest

module _ (chooser : Chooser) (budget size : ℕ) (S : Region) (folded : Bool) where
  abbrev IsEarlier : ℕ → List (List ℕ) → Type 0
  IsEarlier = Earlier chooser budget size S folded

  -- a line more behind it
  longer : (n : ℕ) (front lines : List (List ℕ)) (line : List ℕ) → lines ≡ front ++ line ∷ [] → IsEarlier n front → IsEarlier n lines
  longer n front lines line e x = record {
    before = x.before;
    last = x.last;
    trace = x.trace;
    count = x.count;
    first = x.first;
    are = x.are;
    rest = x.rest ++ line ∷ [];
    is = e ∙ ap (λ ls. ls ++ line ∷ []) x.is ∙ append_assoc x.first x.rest (line ∷ []);
  }

  earlier : {others : List Region} {T : Region} → Trace chooser budget size S others T → (lines : List (List ℕ)) → LinesOf folded (others ++ T ∷ []) lines → (n : ℕ) → n ≤ length others → IsEarlier n lines
  earlier loaded lines are n few = record { before = []; last = S; trace = loaded; count = omega (arith, few); first = lines; are = are; rest = []; is = sym (plus_nothing lines) }
  earlier (turned {before = before} {S' = R} {S'' = T} p l t i) lines are n few =
      by (at_or_below n (length before) (omega (arith, few, one_longer before R))) (λ most. (let cut = one_more_line folded (before ++ R ∷ []) T lines are in longer n cut.0 lines cut.1 cut.4 (earlier p cut.0 cut.2 n most)))
    where
      at_or_below : (n k : ℕ) → n ≤ k + 1 → (n ≤ k) ⊎ (k + 1 ≡ n)
      at_or_below n k h = grind arith

      by : (n ≤ length before) ⊎ (length before + 1 ≡ n) → (n ≤ length before → IsEarlier n lines) → IsEarlier n lines
      by (inl most) f = f most
      by (inr e) f = record { before = before ++ R ∷ []; last = T; trace = turned p l t i; count = one_longer before R ∙ e; first = lines; are = are; rest = []; is = sym (plus_nothing lines) }

-- ---- two traces of one text

-- the solid with which the trace of a text begins
abbrev first_of : {g : Given} {text : List ℕ} {lines : List (List ℕ)} {n : ℕ} → IsTraceOf g text lines n → HasSolid text
first_of t = record { names = t.names; plain = t.plain; plans = t.plans; accepted = t.accepted; solid = t.solid; of_plain = t.of_plain; numbered = t.numbered }

module _ (laws : AcceptedTexts) (printables : PlainsArePrintable) (g : Given) (text : List ℕ) where
  module _ (lines others : List (List ℕ)) (n k : ℕ) (t : IsTraceOf g text lines n) (u : IsTraceOf g text others k) where
    ok : IsAcceptedSolid t.solid
    ok = accepted laws printables text (first_of t)

    -- the second trace begins with the first solid of the first
    again : Trace g.chooser g.budget g.size t.solid u.before u.last
    again = subst (λ S. Trace g.chooser g.budget g.size S u.before u.last) (sym (one_solid text (first_of t) (first_of u))) u.trace

    -- traces with the same solids have the same lines
    same_lines : t.before ≡ u.before → t.last ≡ u.last → lines ≡ others
    same_lines b l =
        let k' = ok in
        one_row g t.solid t.before t.last k'.closed t.trace lines others t.are
        (subst (λ xs. PrintedLines g xs t.last others) (sym b) (subst (λ T. PrintedLines g u.before T others) (sym l) u.are))

    -- so have those with as many commits,
    as_many : n ≡ k → lines ≡ others
    as_many e =
        let k' = ok in
        let one = trace_is_one g.chooser g.budget g.size t.solid t.before u.before t.last u.last k'.closed k'.accepted t.trace again (t.count ∙ e ∙ sym u.count) in
        same_lines one.0 one.1

    -- and those that have come to their end, which is one
    ended : (e d : End) → Ends g.chooser g.budget g.size n t.last e → Ends g.chooser g.budget g.size k u.last d → (n ≡ k) × (e ≡ d) × (lines ≡ others)
    ended e d a b =
        let k' = ok in
        let one = end_is_one g.chooser g.budget g.size t.solid t.before u.before t.last u.last e d k'.closed k'.accepted
        t.trace (subst (λ m. Ends g.chooser g.budget g.size m t.last e) (sym t.count) a) again (subst (λ m. Ends g.chooser g.budget g.size m u.last d) (sym u.count) b) in
        (sym t.count ∙ ap length one.0 ∙ u.count, one.2, same_lines one.0 one.1)

    -- with a trace the lines of fewer commits stand first among those of more
    fewer_first : g.trace ≡ true → n ≤ k → (rest : List (List ℕ)) × (others ≡ lines ++ rest)
    fewer_first traced few =
        let k' = ok in
        let x = earlier g.chooser g.budget g.size t.solid g.folded again others (subst (λ b. LinesOf g.folded (printed b u.before u.last) others) traced u.are) n (omega (arith, few, u.count)) in
        let shown : PrintedLines g x.before x.last x.first = subst (λ b. LinesOf g.folded (printed b x.before x.last) x.first) (sym traced) x.are in
        let one = trace_is_one g.chooser g.budget g.size t.solid t.before x.before t.last x.last k'.closed k'.accepted t.trace x.trace (t.count ∙ sym x.count) in
        let same : lines ≡ x.first =
        one_row g t.solid t.before t.last k'.closed t.trace lines x.first t.are
        (subst (λ xs. PrintedLines g xs t.last x.first) (sym one.0) (subst (λ T. PrintedLines g x.before T x.first) (sym one.1) shown)) in
        (x.rest, x.is ∙ ap (λ ls. ls ++ x.rest) (sym same))

-- ---- the laws

-- a trace of the text that stops so
abbrev Stopped : Given → List ℕ → Stop → List (List ℕ) → ℕ → Type 0
Stopped g text why lines n = (t : IsTraceOf g text lines n) × StopsSo g n t.last why

-- of what is written of a text
trace_at : (s : RunSettings) (text : List ℕ) (why : Stop) (old new : Option (List ℕ)) (w : WritesRun s (Some (Some text)) why old new) → Stopped (given s) text why w.lines w.commits
trace_at s text why old new w = subst (λ xs. Stopped (given s) xs why w.lines w.commits) (sym w.is_told) (w.trace, w.stops)

module _ (laws : AcceptedTexts) (printables : PlainsArePrintable) where
  -- two runs of one text have one end and one output
  pub one_run : OneRun
  one_run s text e d out other w v =
      let t = trace_at s text (at_end e) (Some []) (Some out) w in
      let u = trace_at s text (at_end d) (Some []) (Some other) v in
      let one = ended laws printables (given s) text w.lines v.lines w.commits v.commits t.0 u.0 e d (ends_at_stop (given s) w.commits t.0.last e t.1) (ends_at_stop (given s) v.commits u.0.last d u.1) in (
        one.0,
        one.1,
        same_Some out (run_text w.lines (at_end e) w.commits) w.took
            ∙ (λ i. run_text (one.2 i) (at_end (one.1 i)) (one.0 i))
            ∙ sym (same_Some other (run_text v.lines (at_end d) v.commits) v.took),
      )

  -- after as many commits they have the same lines
  pub one_run_so_far : OneRunSoFar
  one_run_so_far s text why because old new older newer w v e =
      as_many laws printables (given s) text w.lines v.lines w.commits v.commits (trace_at s text why old new w).0 (trace_at s text because older newer v).0 e

  -- and the lines of fewer commits stand first
  pub earlier_run_first : EarlierRunFirst
  earlier_run_first s text why because old new older newer traced w v few =
      fewer_first laws printables (given s) text w.lines v.lines w.commits v.commits (trace_at s text why old new w).0 (trace_at s text because older newer v).0 traced few
