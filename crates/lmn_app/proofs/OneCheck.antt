-- A trace is one of a program in one way, or wrong beside it in one way; and what a run writes of its trace is one.
use Rattle.std.proofs.lemmas.Nat.{mod_below}
use Rattle.std.proofs.Common.{◌≡◌, ◌++◌, ℕ, List, [], ◌∷◌, true, false, map, refl, sym, ap, ◌∙◌, subst}
use Rattle.std.specs.List.{concat}
use Rattle.std.specs.declared.alloc.Global.{Global}
use Rattle.lmn_app_accepted.specs.Rules.{AcceptedTexts}
use Rattle.lmn_adequacy.proofs.Numbering.{numbered_one}
use Rattle.lmn_adequacy.proofs.PlainSolids.{solids_of_plains_exist}
use Rattle.lmn_base.specs.declared.rule.Plain.{Plain}
use Rattle.lmn_congruence.specs.Plains.{SolidOf}
use Rattle.lmn_congruence.specs.Regions.{Region}
use Rattle.lmn_congruence.specs.Rules.{Name}
use Rattle.lmn_congruence.specs.Translation.{top_of}
use Rattle.lmn_guards.specs.declared.plan.GuardPlan.{GuardPlan}
use Rattle.lmn_linkcheck.proofs.LinkedLemmas.{no_fault_is_linked}
use Rattle.lmn_order.specs.declared.order.Order.{Order}
use Rattle.lmn_order.specs.declared.order.Order.TheVariants.{First, Turn, Seed}
use Rattle.lmn_order.specs.Orders.{chosen}
use Rattle.lmn_app_reading.proofs.OneRead.{one_acceptance}
use Rattle.lmn_receipt_chain.specs.Chains.{IsChain, IsWrongTrace, line_of_solid}
use Rattle.lmn_receipt_chain.specs.Laws.{ChainsAreCommits, ChoosesBelow, ContinuesByCommit, IsOneOf, NoTraceIsNeither, TracesAreChains, TracesAreOneOf}
use Rattle.lmn_reduction.proofs.OneSolid.{solid_is_one}
use Rattle.lmn_app_runs.specs.Runs.{Given, LinesOf, StopsSo, end_line, printed, word_of_stop}
use Rattle.lmn_app_runs.specs.declared.stop.Stop.{Stop}
use Rattle.lmn_app_runs.specs.Texts.{PlainsArePrintable}
use Rattle.lmn_app.specs.CheckLaws.{CheckedNotWrong, NeitherCheckedNorWrong, OneCount, OneWrongTrace, RunsAreChecked}
use Rattle.lmn_app.specs.Checks.{HasSolid, IsChecked}
use Rattle.lmn_app_single.specs.Runs.{IsTraceOf}
use Rattle.lmn_app_single.specs.Writing.{given, run_text}
use Rattle.lmn_app_single.specs.Texts.{Accepts}
use Rattle.lmn_app.proofs.CheckLemmas.{by_numbers, chain_checked, printable_of, solid_made}
use Rattle.lmn_app.proofs.TextLemmas.{accepted_at, made, one_list}

-- ---- a program has one solid

pub one_solid : (program : List ℕ) (a b : HasSolid program) → a.solid ≡ b.solid
one_solid program a b =
    let names : a.names ≡ b.names = one_list program a.names b.names a.plain a.accepted.named b.accepted.named a.accepted.accepted.reads in
    let one = one_acceptance program b.names a.plain b.plain a.plans b.plans (accepted_at program a.names b.names a.plain a.plans a.accepted.named b.accepted.named a.accepted.accepted) b.accepted.accepted in
    let top : top_of a.names a.plain ≡ top_of b.names b.plain = ap (λ ns. top_of ns a.plain) names ∙ one.tops in
    numbered_one a.solid b.solid (solid_is_one (top_of b.names b.plain) a.solid b.solid (subst (λ t. SolidOf t a.solid) top a.of_plain) b.of_plain) a.numbered b.numbered

-- ---- orders choose below

chosen_below : (order : Order) → ChoosesBelow (chosen order)
chosen_below First n m some = some
chosen_below Turn n m some = mod_below n m some
chosen_below (Seed seed) n m some = mod_below _ m some

-- ---- the plain lines of solids

plain_lines : (solids : List Region) (lines : List (List ℕ)) → LinesOf false solids lines → lines ≡ map line_of_solid solids
plain_lines [] [] h = refl
plain_lines [] (line ∷ lines) h = absurd h
plain_lines (S ∷ solids) [] h = absurd h
plain_lines (S ∷ solids) (line ∷ lines) h = λ i. h.0 i ∷ plain_lines solids lines h.1 i

-- ---- the laws

-- what they stand on
pub record Grounds : Type 0 where
  pub laws : AcceptedTexts
  pub printables : PlainsArePrintable
  pub commits : ChainsAreCommits
  pub each : ContinuesByCommit
  pub chains : TracesAreChains
  pub one_of : TracesAreOneOf

module _ (on : Grounds) where
  is_one_of : Global → (program trace : List ℕ) (of : HasSolid program) → IsOneOf of.solid trace
  is_one_of alloc program trace of =
      let s = by_numbers on.laws on.printables program of in
      subst (λ S. IsOneOf S trace) (sym s.2) (on.one_of alloc of.names of.plain s.0 (printable_of on.laws on.printables program of.names of.plain of.plans of.accepted) s.1 trace)

  -- a trace is one of so many commits at most
  pub one_count : OneCount
  one_count alloc program trace n m f g =
      let one = is_one_of alloc program trace g.of in
      one.one_count n m (subst (λ S. IsChain S trace n) (one_solid program f.of g.of) f.chain) g.chain

  -- it isn't wrong too
  pub checked_not_wrong : CheckedNotWrong
  checked_not_wrong alloc program trace n refusal f w =
      let one = is_one_of alloc program trace w.of in
      one.not_both n refusal (subst (λ S. IsChain S trace n) (one_solid program f.of w.of) f.chain) w.wrong

  -- an accepted program has a solid
  some_solid : (program : List ℕ) (names : List Name) (plain : Plain) (plans : List GuardPlan) → Accepts program names plain plans → HasSolid program
  some_solid program names plain plans a =
      let read = a.accepted in
      let well = made read in
      let linked = (no_fault_is_linked plain well).0 read.links in
      let s = solids_of_plains_exist plain well linked.process in
      (solid_made on.laws on.printables program names plain plans a s.0 s.1).0

  -- no trace is neither
  pub neither_checked_nor_wrong : NoTraceIsNeither → NeitherCheckedNorWrong
  neither_checked_nor_wrong neither alloc program trace (names, plain, plans, a, fits) both =
      let of = some_solid program names plain plans a in
      neither of.solid trace (
        (λ n chain. both.0 n (chain_checked on.laws on.printables program of alloc on.commits on.each trace n chain)),
        (λ refusal wrong. both.1 refusal (record { of = of; wrong = wrong })),
      )

  -- and it is wrong in one way at most
  pub one_wrong_trace : OneWrongTrace
  one_wrong_trace alloc program trace refusal other v w =
      let one = is_one_of alloc program trace w.of in
      one.one_refusal refusal other (subst (λ S. IsWrongTrace S trace refusal) (one_solid program v.of w.of) v.wrong) w.wrong

  -- the plain lines of a trace that stops, and its end line, are a trace of the program
  pub trace_checked : Global → (g : Given) (text : List ℕ) (lines : List (List ℕ)) (n : ℕ) (t : IsTraceOf g text lines n) → ChoosesBelow g.chooser → g.trace ≡ true → g.folded ≡ false →
      (why : Stop) → StopsSo g n t.last why → IsChecked text (run_text lines why n) n
  trace_checked alloc g text lines n t below traced plain why stops =
      let solids = t.before ++ t.last ∷ [] in
      let word = word_of_stop why in
      let of : HasSolid text = record { names = t.names; plain = t.plain; plans = t.plans; accepted = t.accepted; solid = t.solid; of_plain = t.of_plain; numbered = t.numbered } in
      let are : lines ≡ map line_of_solid solids =
      plain_lines solids lines (subst (λ f. LinesOf f solids lines) plain (subst (λ b. LinesOf g.folded (printed b t.before t.last) lines) traced t.are)) in
      let chain = on.chains g t.solid t.before t.last why below t.trace (subst (λ k. StopsSo g k t.last why) (sym t.count) stops) in
      let counted = subst (λ k. IsChain t.solid (concat (map line_of_solid solids) ++ end_line word k) k) t.count chain in
      chain_checked on.laws on.printables text of alloc on.commits on.each (run_text lines why n) n (subst (λ ls. IsChain t.solid (concat ls ++ end_line word n) n) (sym are) counted)

  -- so is what a run writes of its trace
  pub runs_are_checked : RunsAreChecked
  runs_are_checked alloc s told why old new traced plain w = trace_checked alloc (given s) w.text w.lines w.commits w.trace (chosen_below s.order) traced plain why w.stops
