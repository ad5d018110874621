-- What checks a trace beside a program.
use Rattle.std.proofs.Common.{◌≡◌, ◌∙◌, ℕ, List, Option, Ok, Err, refl, sym, ap, subst, inl, inr}
use Rattle.std.specs.declared.alloc.Global.{Global}
use Rattle.lmn_app_accepted.specs.Rules.{AcceptedTexts}
use Rattle.lmn_app_accepted.proofs.Loadable.{loadable, well_named}
use Rattle.lmn_base.specs.declared.refusal.Refusal.{Refusal}
use Rattle.lmn_base.specs.declared.rule.Plain.{Plain}
use Rattle.lmn_base.specs.declared.solid.Solid.{Solid}
use Rattle.lmn_congruence.specs.Regions.{Region, region_process}
use Rattle.lmn_congruence.specs.Rules.{Name}
use Rattle.lmn_congruence.specs.SolidsOfPlains.{IsSolidOf}
use Rattle.lmn_congruence.specs.Translation.{top_of}
use Rattle.lmn_congruence.proofs.SolidsOfPlains.{solids_of_plains}
use Rattle.lmn_guards.specs.declared.plan.GuardPlan.{GuardPlan}
use Rattle.lmn_io.specs.Counts.{Faults}
use Rattle.lmn_io.specs.Writing.{WritesText}
use Rattle.lmn_io.proofs.TakingLemmas.{no_put}
use Rattle.lmn_solid_next.specs.Searching.{CanSearch}
use Rattle.lmn_receipt_search.proofs.Beginning.{solid_accepted}
use Rattle.lmn_receipt_chain.specs.Chains.{Continued, IsChain, IsWrongTrace, begun, continued, line_of_solid, no_end_line, no_first_line, no_next_line}
use Rattle.lmn_receipt_chain.specs.Laws.{ChainsAreCommits, ContinuesByCommit, IsAcceptedSolid}
use Rattle.lmn_reduction.proofs.Plains.{plain_settles}
use Rattle.lmn_app_accepted.proofs.ReadPlains.{plain_read}
use Rattle.lmn_app_runs.specs.Laws.{IsPrintable, solid_of}
use Rattle.lmn_app_runs.specs.Runs.{IsLineOf}
use Rattle.lmn_app_runs.specs.Texts.{PlainsArePrintable}
use Rattle.lmn_app_runs.proofs.TraceRuns.{Fine, next_fine, plain_fine, solid_fine}
use Rattle.lmn_app_words.specs.declared.command.PairKind.TheVariants.{Check}
use Rattle.lmn_app_single.specs.declared.ending.Ending.TheVariants.{Done, WriteFault, SecondRefused}
use Rattle.lmn_app.specs.Checks.{HasSolid, IsChecked, checked_line}
use Rattle.lmn_app.specs.Runnings.{EndsByLine}
use Rattle.lmn_app.specs.SecondTexts.{IsSecondCode}
use Rattle.lmn_app_single.specs.Texts.{Accepts}
use Rattle.lmn_app_single.proofs.PlainRegions.{region_is_numbered, solid_with_region}

-- ---- what is asked of an accepted program and its solid

-- its rules are such as a search for next solids asks
pub rules_fit : AcceptedTexts → (program : List ℕ) (names : List Name) (plain : Plain) (plans : List GuardPlan) → Accepts program names plain plans → CanSearch names plain plans
rules_fit laws program names plain plans a =
    let can = loadable laws program names plain plans a.named a.accepted in
    let known = well_named laws program names plain plans a.named a.accepted in
    record { made = can.made; whole = can.plans_are; allowed = λ k rule e. (let r = known.rules (λ n m. 0) k rule e in r.accepted) }

-- ---- a chain from it

module _ (laws : AcceptedTexts) (printables : PlainsArePrintable) (program : List ℕ) where
  -- runs of an accepted program can be printed
  pub printable_of : (names : List Name) (plain : Plain) (plans : List GuardPlan) → Accepts program names plain plans → IsPrintable names plain
  printable_of names plain plans a = printables program names plain (plain_read laws program names plain plans a.named a.accepted)

  -- the solid that the program's code makes
  pub solid_made : (names : List Name) (plain : Plain) (plans : List GuardPlan) → Accepts program names plain plans → (s : Solid) → IsSolidOf plain s
      → (of : HasSolid program) × (of.solid ≡ solid_of names plain s)
  solid_made names plain plans a s is =
      let printable = printable_of names plain plans a in (
        record {
          names = names;
          plain = plain;
          plans = plans;
          accepted = a;
          solid = solid_of names plain s;
          of_plain = solids_of_plains names plain s printable.made is;
          numbered = region_is_numbered names plain printable.made s is;
        },
        refl,
      )

  module _ (of : HasSolid program) where
    printable : IsPrintable of.names of.plain
    printable = printable_of of.names of.plain of.plans of.accepted

    -- it is that of a solid by numbers
    pub by_numbers : (s : Solid) × IsSolidOf of.plain s × (of.solid ≡ solid_of of.names of.plain s)
    by_numbers = let p = printable in solid_with_region of.names of.plain p.made of.solid of.of_plain of.numbered

    start : Fine of.names of.solid
    start = let s = by_numbers in subst (Fine of.names) (sym s.2) (solid_fine of.names of.plain printable s.0 s.1)

    pub accepted : IsAcceptedSolid of.solid
    accepted = let s = by_numbers in subst IsAcceptedSolid (sym s.2) (solid_accepted of.names of.plain of.plans (rules_fit laws program of.names of.plain of.plans of.accepted) s.0 s.1)

    module _ (alloc : Global) where
      fine_last : {before : List Region} {last : Region} → Continued of.solid before last → Fine of.names last
      fine_last begun = start
      fine_last (continued p c) =
          let p' = printable in
          next_fine of.names alloc p'.named.0 (λ n m. c.from) 0 0 of.solid start {n = 0} (fine_last p) (record { next = c.next; numbered = c.numbered })

      -- each line of a chain reads back
      line_last : (before : List Region) (last : Region) → Continued of.solid before last → IsLineOf of.names (region_process last) (line_of_solid last)
      line_last before last c = let p = printable in plain_fine of.names alloc p.named.0 last (fine_last c)

      -- so a trace that is a chain is checked
      pub chain_checked : ChainsAreCommits → ContinuesByCommit → (trace : List ℕ) (n : ℕ) → IsChain of.solid trace n → IsChecked program trace n
      chain_checked commits each trace n chain = record {
        of = of;
        chain = chain;
        settles = plain_settles (top_of of.names of.plain) of.solid of.of_plain;
        lines = line_last;
        each = λ before last next c k. each of.solid before last next accepted c k;
        commits = commits of.solid trace n accepted chain;
      }

-- ---- what a search for next solids says of it

-- what is wrong in a trace has a code
wrong_code : (S : Region) (trace : List ℕ) (r : Refusal) → IsWrongTrace S trace r → IsSecondCode Check r.code
wrong_code S trace r (no_first_line none is) = inr (inl (ap (λ (q : Refusal). q.code) is))
wrong_code S trace r (no_next_line before last rest b there none is) = inr (inl (ap (λ (q : Refusal). q.code) is))
wrong_code S trace r (no_end_line before last rest b there none is) = inr (inr (ap (λ (q : Refusal). q.code) is))

module _ (laws : AcceptedTexts) (printables : PlainsArePrintable) (program : List ℕ) (names : List Name) (plain : Plain) (plans : List GuardPlan) (a : Accepts program names plain plans)
    (s : Solid) (is : IsSolidOf plain s) (S : Region) (same : S ≡ solid_of names plain s) (trace : List ℕ) where
  abbrev made : (of : HasSolid program) × (of.solid ≡ solid_of names plain s)
  made = solid_made laws printables program names plain plans a s is

  -- a chain from it is checked
  pub chain_found : Global → ChainsAreCommits → ContinuesByCommit → (n : ℕ) → IsChain S trace n → IsChecked program trace n
  chain_found alloc commits each n chain =
      let m = made in
      chain_checked laws printables program m.0 alloc commits each trace n (subst (λ R. IsChain R trace n) (same ∙ sym m.1) chain)

  -- and what is wrong beside it is wrong beside the program
  pub wrong_found : (r : Refusal) (x : Option (List ℕ)) (count : Faults) → IsWrongTrace S trace r → EndsByLine Check program trace (SecondRefused Check r) x x count count
  wrong_found r x count wrong =
      let m = made in
      let there = subst (λ R. IsWrongTrace R trace r) (same ∙ sym m.1) wrong in
      (refl, record { of = m.0; wrong = there }, wrong_code S trace r wrong, refl, no_put count)

-- ---- how a check ends

module _ (program trace : List ℕ) (old new : Option (List ℕ)) (before after : Faults) where
  -- the line was written
  pub checked_ended : {A E : Type 0} (x : A) (n : ℕ) → IsChecked program trace n → WritesText {A = A} {E = E} (checked_line n) (Ok x) old before new after → EndsByLine Check program trace Done old new before after
  checked_ended x n checked written = ((checked_line n, (n, checked, refl), written.took _ refl), written.same)

  -- or a part of it
  pub checked_part : {A E : Type 0} (e : E) (n : ℕ) → IsChecked program trace n → WritesText {A = A} {E = E} (checked_line n) (Err e) old before new after → EndsByLine Check program trace WriteFault old new before after
  checked_part e n checked written = ((checked_line n, (n, checked, refl), written.prefix _ refl), written.rose)
