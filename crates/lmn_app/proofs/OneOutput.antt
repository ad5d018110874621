-- Two executions of one listing beside one program have one output.
use Rattle.std.proofs.Common.{◌≡◌, ◌∙◌, ◌+◌, ◌-◌, ◌*◌, ◌++◌, ℕ, suc, List, [], ◌∷◌, length, map, refl, sym, ap, subst, arith}
use Rattle.std.specs.Prelude.{slice_index_or}
use Rattle.std.specs.List.{flat_map, AllZip}
use Rattle.lmn_adequacy.proofs.PlainSolids.{solid_of_plain_is_one}
use Rattle.lmn_base.specs.declared.guard.Cond.{Cond}
use Rattle.lmn_base.specs.declared.guard.Expr.{Expr}
use Rattle.lmn_base.specs.declared.guard.Expr.TheFolds.{fold-roll-Expr}
use Rattle.lmn_base.specs.declared.guard.Expr.TheOpen as step
use Rattle.lmn_base.specs.declared.rule.RuleTree.{RuleTree}
use Rattle.lmn_verify_coded.specs.Laws.{SolidRunsAreOne}
use Rattle.lmn_verify_coded.specs.Solids.{RunStopped}
use Rattle.lmn_base.specs.declared.solid.Solid.{Solid}
use Rattle.lmn_flatten_plain.specs.SolidLines.{as_level}
use Rattle.lmn_flatten_plain.specs.Words.{line_of}
use Rattle.lmn_app_runs.specs.Runs.{end_line, word_of_stop}
use Rattle.lmn_app_runs.specs.declared.stop.Stop.{Stop}
use Rattle.lmn_congruence.specs.Rules as tree
use Rattle.lmn_congruence.specs.Rules.{Name}
use Rattle.lmn_congruence.specs.Translation as translated
use Rattle.lmn_congruence.specs.Translation.{condition_of, expression_of, level_of, name_of, no_such_rule, numbered_region, region_of, rules_from}
use Rattle.lmn_instr_code.specs.declared.instr.Code.{Code}
use Rattle.lmn_verify_compiled.specs.Laws.{AcceptedCanBeListed}
use Rattle.lmn_flatten_plain.specs.SamePlains.{SameCond, SameExpr, SameRule, same_comparison, same_condition, same_context, same_equation, same_integer, same_operation}
use Rattle.lmn_app_reading.proofs.OneRead.{one_acceptance}
use Rattle.lmn_instr_reading.specs.Reading.{AddsNames, NumbersNames}
use Rattle.lmn_verify_compiled.specs.OneReading.{ListedCodesAreOne, ListedNamesAreOne}
use Rattle.lmn_verify_listing.specs.Listings.{AreListed}
use Rattle.lmn_verify_code.specs.Operands.{code_names}
use Rattle.lmn_app.specs.ExecLaws.{OneOutput}
use Rattle.lmn_app.specs.Executions.{executed_budget, executed_size}
use Rattle.lmn_app.proofs.ExecLemmas.{all_verified}
use Rattle.lmn_app.proofs.TextLemmas.{accepted_at, made, moved_solid, one_list}

-- ---- rules that are the same but for addresses, as trees

same_expression : (names : List Name) {a b : Expr} → SameExpr a b → expression_of names a ≡ expression_of names b
same_expression names (same_integer z) = refl
same_expression names (same_context u) = refl
same_expression names (same_operation op a b c d h g) =
    fold-roll-Expr tree.Expression (translated.expression_step names) (step.Op op a b)
    ∙ ap (λ e. tree.operation op e (expression_of names b.value)) (same_expression names h)
    ∙ ap (λ e. tree.operation op (expression_of names c.value) e) (same_expression names g)
    ∙ sym (fold-roll-Expr tree.Expression (translated.expression_step names) (step.Op op c d))

same_tree : (names : List Name) (c d : Cond) → SameCond c d → condition_of names c ≡ condition_of names d
same_tree names c _ same_condition = refl
same_tree names _ _ (same_comparison {op = op} h g) = λ i. tree.compares op (same_expression names h i) (same_expression names g i)
same_tree names _ _ (same_equation {u = u} h) = λ i. tree.equates (name_of names u.name) (same_expression names h i)

same_conditions : (names : List Name) (cs ds : List Cond) → AllZip SameCond cs ds → map (condition_of names) cs ≡ map (condition_of names) ds
same_conditions names [] [] h = refl
same_conditions names [] (d ∷ ds) h = absurd h
same_conditions names (c ∷ cs) [] h = absurd h
same_conditions names (c ∷ cs) (d ∷ ds) h = λ i. same_tree names c d h.0 i ∷ same_conditions names cs ds h.1 i

-- the rules of two plains of one text are the same trees
pub same_rules : (names : List Name) (k : ℕ) (rs ss : List RuleTree) → AllZip SameRule rs ss → rules_from names k rs ≡ rules_from names k ss
same_rules names k [] [] h = refl
same_rules names k [] (s ∷ ss) h = absurd h
same_rules names k (r ∷ rs) [] h = absurd h
same_rules names k (r ∷ rs) (s ∷ ss) h =
    let one = h.0 in
    let rest = same_rules names (k + 1) rs ss h.1 in
    let conditions = same_conditions names r.guard s.guard one.guard in
    λ i. tree.rule_of (level_of names (λ n. slice_index_or (rest i) (n - (k + 1)) no_such_rule) (one.head i)) (conditions i)
    (level_of names (λ n. slice_index_or (rest i) (n - (k + 1)) no_such_rule) (one.body i)) ∷ rest i

pub as_many : (rs ss : List RuleTree) → AllZip SameRule rs ss → length rs ≡ length ss
as_many [] [] h = refl
as_many [] (s ∷ ss) h = absurd h
as_many (r ∷ rs) [] h = absurd h
as_many (r ∷ rs) (s ∷ ss) h = ap suc (as_many rs ss h.1)

-- so solids have the same region by both
same_region : (names : List Name) (rs ss : List RuleTree) → AllZip SameRule rs ss → (S : Solid) → region_of names rs S ≡ region_of names ss S
same_region names rs ss same S = λ i. numbered_region names (λ n. slice_index_or (same_rules names 0 rs ss same i) n no_such_rule) S.root

-- ---- one output

-- the laws that it takes
pub record Grounds : Type 0 where
  pub listed : AcceptedCanBeListed
  pub codes : ListedCodesAreOne
  pub names : ListedNamesAreOne
  pub runs : SolidRunsAreOne

-- what is written of a run with a last solid
abbrev text : List Name → List RuleTree → Solid → Stop → ℕ → List ℕ
text names table last why n = line_of (as_level (region_of names table last)) ++ end_line (word_of_stop why) n

-- a run by the same codes from the same solid is this one
moved_run : (codes others : List Code) → others ≡ codes → (S T : Solid) → T ≡ S → (n : ℕ) (why : Stop) (y : RunStopped others executed_budget executed_size T n why) →
    (z : RunStopped codes executed_budget executed_size S n why) × (z.last ≡ y.last)
moved_run codes others same S T solid n why y =
    subst (λ U. (z : RunStopped codes executed_budget executed_size U n why) × (z.last ≡ y.last)) solid (subst (λ cs. (z : RunStopped cs executed_budget executed_size T n why) × (z.last ≡ y.last)) same (y, refl))

-- two executions of one listing beside one program have one output
pub one_output : Grounds → OneOutput
one_output on program listing written other why last c d x y =
    let of = x.of in
    let also = y.of in
    let a = of.accepted in
    let b = also.accepted in
    let short = a.short in
    let once = of.once in
    let again = also.once in
    let are = of.are in
    let can = on.listed program of.names of.plain of.plans (omega (arith, short)) a.named a.accepted in
    let one = one_acceptance program also.names of.plain also.plain of.plans also.plans (accepted_at program of.names also.names of.plain of.plans a.named b.named a.accepted) b.accepted in
    let plain = one.plain in
    let many : length also.plain.rules ≡ length of.plain.rules = sym (as_many of.plain.rules also.plain.rules plain.rules) in
    let told : AreListed (length of.plain.rules) also.later also.codes listing = subst (λ k. AreListed k also.later also.codes listing) many also.are in
    let begun : also.names ≡ of.names = one_list program also.names of.names also.plain b.named a.named b.accepted.reads in
    let names : of.later ≡ also.later =
    on.names (length of.plain.rules) (3 * length listing) (3 * length listing) of.names of.later also.later of.codes also.codes listing can.few once.once again.once of.adds
    (subst (λ ns. AddsNames (3 * length listing) ns also.later) begun also.adds) of.order (subst (λ ns. NumbersNames ns (flat_map code_names also.codes) also.later) begun also.order) are told in
    let listed : AreListed (length of.plain.rules) of.later also.codes listing = subst (λ ns. AreListed (length of.plain.rules) ns also.codes listing) (sym names) told in
    let codes : also.codes ≡ of.codes = on.codes (length of.plain.rules) of.later also.codes of.codes listing can.few once.once listed are in
    let solid : y.first ≡ x.first = solid_of_plain_is_one of.plain y.first x.first (made a.accepted) (moved_solid also.plain of.plain y.first (sym plain.top) y.of_plain) x.of_plain in
    let ran = moved_run of.codes also.codes codes x.first y.first solid y.commits last y.ran in
    let result = on.runs of.codes (all_verified (length of.plain.rules) of.codes are.many of.verified) executed_budget executed_size x.first x.commits y.commits why last c d x.ran ran.0 in
    let same = result.2 ∙ ran.1 in
    let alike : text of.later of.plain.rules x.ran.last why x.commits ≡ text also.later also.plain.rules y.ran.last last y.commits =
    (λ i. text of.later of.plain.rules (same i) (result.1 i) (result.0 i))
    ∙ ap (λ R. line_of (as_level R) ++ end_line (word_of_stop last) y.commits) (same_region of.later of.plain.rules also.plain.rules plain.rules y.ran.last)
    ∙ ap (λ ns. text ns also.plain.rules y.ran.last last y.commits) names in
    (result.0, result.1, x.is ∙ alike ∙ sym y.is)
