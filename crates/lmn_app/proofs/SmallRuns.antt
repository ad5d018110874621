-- The run and the trace of a small text.
use Rattle.std.proofs.Common.{◌≡◌, ℕ, suc, ◌≤◌, List, [], ◌∷◌, ◌++◌, length, slice_index_or, refl, sym, ap, ◌∙◌, subst, inl, arith}
use Rattle.std.specs.Prelude.{Bool, codes, true, false}
use Rattle.std.specs.declared.alloc.Global.{Global}
use Rattle.std.proofs.lemmas.List.{length-append}
use Rattle.std.proofs.lemmas.List.Elements.{Contains-append_right}
use Rattle.std.specs.List.{AllZip}
use Rattle.lmn_base.specs.declared.level.Level as base
use Rattle.lmn_base.specs.declared.level.Level.{map-Level}
use Rattle.lmn_base.specs.declared.level.Level.TheFolds.{fold-roll-Level}
use Rattle.lmn_base.specs.declared.level.Level.TheOpen.{Level-F}
use Rattle.lmn_base.specs.declared.level.Level.TheViews.{roll-Level}
use Rattle.lmn_base.specs.declared.rule.Plain.{Plain}
use Rattle.lmn_base.specs.Links.{no_more}
use Rattle.lmn_base.specs.Names.{IsNames, first_names}
use Rattle.lmn_base.proofs.Lists.{contains_first}
use Rattle.lmn_congruence.specs.Plains.{SolidOf}
use Rattle.lmn_congruence.specs.Process.{Process}
use Rattle.lmn_congruence.specs.Regions.{Region, region_process}
use Rattle.lmn_congruence.specs.Rules.{Level, Name, Rule, atom_leaf, level, no_level, no_rule, only_leaves, rule_and, rule_of}
use Rattle.lmn_congruence.specs.Translation.{level_of, level_step, no_such_rule, numbered_rule, plain_process, rules_from, top_of}
use Rattle.lmn_guards.specs.declared.plan.GuardPlan.{GuardPlan}
use Rattle.lmn_print_folded.specs.Lines.{IsLine}
use Rattle.lmn_flatten_plain.specs.SolidLines.{as_level}
use Rattle.lmn_flatten_plain.proofs.SolidLines.{own_solid}
use Rattle.lmn_app_reading.specs.Texts.{IsAcceptedAs}
use Rattle.lmn_app_reading.proofs.NamedPlains.{plains_are_named}
use Rattle.lmn_app_reading.proofs.OneRead.{one_acceptance}
use Rattle.lmn_reduction.specs.Commits.{Irreducible, Settles}
use Rattle.lmn_reduction.specs.Examples.{label_a, label_b}
use Rattle.lmn_reduction.proofs.Kept.{keeps_irreducible}
use Rattle.lmn_reduction.proofs.OneSolid.{solid_is_one}
use Rattle.lmn_reduction.proofs.Plains.{plain_settles}
use Rattle.lmn_reduction.proofs.SettledForms.{settles_once}
use Rattle.lmn_adequacy.specs.ChangeExamples.{a_makes_b, changing}
use Rattle.lmn_adequacy.specs.Embedding.{HasEmbedding}
use Rattle.lmn_adequacy.specs.Examples.{root_first}
use Rattle.lmn_adequacy.specs.Runs.{Chooser, Ends, Trace, irreducible, loaded, nothing_embeds, turned}
use Rattle.lmn_adequacy.proofs.ExampleChanges.{short_trace_ends}
use Rattle.lmn_adequacy.proofs.Numbering.{numbered_one}
use Rattle.lmn_app_runs.specs.Examples.{ShortRunPrints}
use Rattle.lmn_app_runs.specs.Runs.{CommitsOver, IsProcessLine, PrintedLines, Prints, at_end, commit_after, no_commit}
use Rattle.lmn_app_single.specs.Runs.{IsRun}
use Rattle.lmn_app.specs.TextExamples.{SmallTextHasItsTrace, SmallTextRuns, TraceEnds, no_plan, plainly, small_end, small_lines, small_names, small_plain, small_rule, small_text}
use Rattle.lmn_app_single.specs.Texts.{Accepts}
use Rattle.lmn_app_accepted.proofs.FirstNames.{first_are_names}
use Rattle.lmn_app.proofs.SmallTexts.{reads, small_text_is_accepted}
use Rattle.lmn_app_runs.proofs.ExampleLines.{many_lines}

-- the solids of its trace
abbrev pub first : Region
first = changing (label_a ∷ [])

abbrev pub last : Region
last = changing (label_b ∷ [])

-- ---- its solid

-- levels as trees
rolled : (rule : ℕ → Rule) (l : Level-F base.Level) → level_of small_names rule (roll-Level l) ≡ level_step small_names rule (map-Level base.Level Level (level_of small_names rule) l)
rolled rule l = fold-roll-Level Level (level_step small_names rule) l

-- its rules as those of the calculus
pub its_rules : rules_from small_names 0 (small_rule ∷ []) ≡ a_makes_b ∷ []
its_rules =
    let head : level_of small_names (λ n. no_such_rule) small_rule.head ≡ only_leaves (atom_leaf label_a [] ∷ []) = rolled (λ n. no_such_rule) _ in
    let body : level_of small_names (λ n. no_such_rule) small_rule.body ≡ only_leaves (atom_leaf label_b [] ∷ []) = rolled (λ n. no_such_rule) _ in
    λ i. rule_of (head i) [] (body i) ∷ []

-- its top is that of its solid
small_top : top_of small_names small_plain ≡ as_level first
small_top = rolled (numbered_rule small_names (small_rule ∷ [])) _ ∙ ap (λ rs. level (atom_leaf label_a [] ∷ []) no_level [] [] (rule_and (slice_index_or rs 0 no_such_rule) no_rule)) its_rules

-- it is that of its plain
pub small_solid : SolidOf (top_of small_names small_plain) first
small_solid = subst (λ l. SolidOf l first) (sym small_top) (own_solid first (λ x. inl refl))

-- each text of these bytes that is accepted has this top
same_top : (names : List Name) (plain : Plain) (plans : List GuardPlan) → Accepts small_text names plain plans → top_of names plain ≡ top_of small_names small_plain
same_top names plain plans a =
    let mine = small_text_is_accepted in
    let named : names ≡ small_names = a.named reads.tokens reads.tree reads.right reads.reads reads.within ∙ sym (mine.named reads.tokens reads.tree reads.right reads.reads reads.within) in
    let read = subst (λ ns. IsAcceptedAs small_text ns plain plans) named a.accepted in
    let one = one_acceptance small_text small_names plain small_plain plans (no_plan ∷ []) read mine.accepted in
    ap (λ ns. top_of ns plain) named ∙ one.tops

-- ---- its run

-- its names are names
pub small_named : IsNames small_names
small_named = (plains_are_named small_text first_names small_names small_plain first_are_names small_text_is_accepted.named reads).0

small_settles : Settles (plain_process small_names small_plain) (region_process first)
small_settles = plain_settles (top_of small_names small_plain) first small_solid

small_run : {trace : Bool} {lines : List (List ℕ)} {budget : ℕ} → 1 ≤ budget → Prints trace false small_names (region_process first) 1 (region_process last) lines
    → IsRun trace false budget small_names small_plain lines (at_end irreducible) 1
small_run room prints = record {
  first = region_process first;
  settles = small_settles;
  last = region_process last;
  prints = prints;
  stops = (room, short_trace_ends.2);
}

-- its two lines
both_lines : ShortRunPrints → Global → Prints true false small_names (region_process first) 1 (region_process last) small_lines
both_lines printed alloc =
    let before = first_names ++ (codes "." ∷ codes "[]" ∷ codes "+" ∷ []) in
    let has_a = Contains-append_right before (codes "a" ∷ codes "b" ∷ []) (codes "a") (contains_first (codes "a") (codes "b" ∷ [])) in
    let has_b = Contains-append_right (before ++ codes "a" ∷ []) (codes "b" ∷ []) (codes "b") (contains_first (codes "b") []) in
    (printed alloc small_names small_named has_a has_b).0

-- the last of all lines is that of the last process
abbrev last_line : List (List ℕ) → List ℕ
last_line [] = []
last_line (l ∷ []) = l
last_line (l ∷ m ∷ ls) = last_line (m ∷ ls)

of_last : (R : Process → List ℕ → Type 0) (Ps : List Process) (Q : Process) (lines : List (List ℕ)) → AllZip R (Ps ++ Q ∷ []) lines → R Q (last_line lines)
of_last R [] Q [] h = absurd h
of_last R [] Q (l ∷ []) h = h.0
of_last R [] Q (l ∷ m ∷ ls) h = absurd h.1
of_last R (P ∷ Ps) Q [] h = absurd h
of_last R (P ∷ []) Q (l ∷ []) h = absurd h.1
of_last R (P ∷ P' ∷ Ps) Q (l ∷ []) h = absurd h.1
of_last R (P ∷ Ps) Q (l ∷ m ∷ ls) h = of_last R Ps Q (m ∷ ls) h.1

end_alone : ShortRunPrints → Global → Prints false false small_names (region_process first) 1 (region_process last) (small_end ∷ [])
end_alone printed alloc =
    let all = both_lines printed alloc in
    let of = of_last (IsProcessLine false small_names) all.before (region_process last) small_lines all.are in
    record { before = all.before; commits = all.commits; count = all.count; are = (of, tt) }

-- without a commit the last process is the first
no_commits : {P Q : Process} {before : List Process} → CommitsOver P before Q → length before ≡ 0 → Q ≡ P
no_commits no_commit e = refl
no_commits (commit_after {before = before} {Q = R} t c) e = absurd (omega (arith, e, length-append before (R ∷ [])))

none_done : {folded : Bool} {names : List Name} {P Q : Process} {n : ℕ} {lines : List (List ℕ)} → Prints true folded names P n Q lines → n ≡ 0 → Q ≡ P
none_done h e = no_commits h.commits (h.count ∙ e)

-- its first process isn't irreducible
not_at_once : ¬ (Irreducible (region_process first))
not_at_once i = let commit = short_trace_ends.1 in i.0 commit.between commit.step

alone_no_run : (budget : ℕ) (line : List ℕ) (n : ℕ) → ¬ (IsRun true false budget small_names small_plain (line ∷ []) (at_end irreducible) n)
alone_no_run budget line n r =
    let none : n ≡ 0 = omega (arith, many_lines r.prints) in
    let still : Irreducible r.first = subst (λ P. Irreducible P) (none_done r.prints none) r.stops.1 in
    let same = settles_once (plain_process small_names small_plain) r.first (region_process first) small_solid.closed_top r.settles small_settles in
    not_at_once (keeps_irreducible r.first (region_process first) same still)

-- the two lines are those of a run of the text, and no line alone is
pub small_text_runs : ShortRunPrints → SmallTextRuns
small_text_runs printed alloc budget room = (small_run room (both_lines printed alloc), small_run room (end_alone printed alloc), alone_no_run budget)

-- ---- its trace

-- a trace is one under more commits and items
pub more_allowed : {chooser : Chooser} {budget more size larger : ℕ} {S last : Region} {before : List Region} → budget ≤ more → size ≤ larger
    → Trace chooser budget size S before last → Trace chooser more larger S before last
more_allowed b s loaded = loaded
more_allowed b s (turned t l turn few) = turned (more_allowed b s t) (omega (arith, b, l)) turn (omega (arith, s, few))

-- nothing embeds where it ends so
pub nothing_left : {chooser : Chooser} {budget size n : ℕ} {S : Region} → Ends chooser budget size n S irreducible → ¬ (HasEmbedding S)
nothing_left (nothing_embeds h) = h

small_trace : {trace : Bool} {lines : List (List ℕ)} {budget size : ℕ} (chooser : Chooser) → 1 ≤ budget → 2 ≤ size
    → PrintedLines (plainly trace budget size chooser) (first ∷ []) last lines → TraceEnds (plainly trace budget size chooser) lines 1
small_trace chooser room place are =
    let t = short_trace_ends.0 chooser in (
      record {
        names = small_names;
        plain = small_plain;
        plans = no_plan ∷ [];
        accepted = small_text_is_accepted;
        solid = first;
        of_plain = small_solid;
        numbered = (0, no_more);
        few = place;
        before = first ∷ [];
        last = last;
        trace = more_allowed room place t.0;
        count = refl;
        are = are;
      },
      nothing_embeds (nothing_left t.1),
    )

-- a trace of no commit ends where it begins
none_turned : {chooser : Chooser} {budget size : ℕ} {S last : Region} {before : List Region} → Trace chooser budget size S before last → length before ≡ 0 → S ≡ last
none_turned loaded e = refl
none_turned (turned {before = before} {S' = S'} t l turn few) e = absurd (omega (arith, e, length-append before (S' ∷ [])))

-- something embeds in its first solid
first_embeds : HasEmbedding first
first_embeds = of_trace (short_trace_ends.0 root_first).0 refl
  where
    of_trace : {before : List Region} {end : Region} → Trace root_first 1 2 first before end → length before ≡ 1 → HasEmbedding first
    of_trace loaded e = absurd (omega (arith, e))
    of_trace (turned {before = before} {S' = S'} t l turn few) e =
        let none : length before ≡ 0 = omega (arith, e, length-append before (S' ∷ [])) in
        let c = turn.next in
        subst (λ S. HasEmbedding S) (sym (none_turned t none)) (record { path = c.path; number = c.number; positions = c.positions; embeds = c.chosen.embeds })

-- each solid has a line
as_many : (xs : List Region) (ys : List (List ℕ)) → AllZip (IsLine false) xs ys → length xs ≡ length ys
as_many [] [] h = refl
as_many [] (y ∷ ys) h = absurd h
as_many (x ∷ xs) [] h = absurd h
as_many (x ∷ xs) (y ∷ ys) h = ap suc (as_many xs ys h.1)

alone_no_trace : (budget size : ℕ) (chooser : Chooser) (line : List ℕ) (n : ℕ) → ¬ (TraceEnds (plainly true budget size chooser) (line ∷ []) n)
alone_no_trace budget size chooser line n (t, ends) =
    let none : length t.before ≡ 0 = omega (arith, as_many (t.before ++ t.last ∷ []) (line ∷ []) t.are, length-append t.before (t.last ∷ [])) in
    let of = subst (λ l. SolidOf l t.solid) (same_top t.names t.plain t.plans t.accepted) t.of_plain in
    let same = numbered_one first t.solid (solid_is_one (top_of small_names small_plain) first t.solid small_solid of) (0, no_more) t.numbered in
    nothing_left ends (subst (λ S. HasEmbedding S) (same ∙ none_turned t.trace none) first_embeds)

-- they are the lines of its trace too, and no line alone is
pub small_text_has_its_trace : SmallTextHasItsTrace
small_text_has_its_trace budget size chooser room place = (small_trace chooser room place (refl, (refl, tt)), small_trace chooser room place (refl, tt), alone_no_trace budget size chooser)
