-- The plain of nothing.
use Rattle.std.proofs.Common.{ℕ, ◌≡◌, ◌<◌, List, [], ◌++◌, All, length, map, sym, ap, subst}
use Rattle.std.specs.List.{flat_map, AllZip}
use Rattle.std.proofs.lemmas.List.Elements.{All-from_recursion}
use Rattle.lmn_base.specs.declared.level.CtxUse.{CtxUse}
use Rattle.lmn_base.specs.declared.level.Leaf.{Leaf}
use Rattle.lmn_base.specs.declared.level.Level.TheFolds.{fold-roll-Level}
use Rattle.lmn_base.specs.Levels.{contexts_of, leaves_of, links_of, occurrences_of_leaf, rule_contexts_of, rules_of}
use Rattle.lmn_base.specs.Links.{NumbersLinks, no_more}
use Rattle.lmn_base.specs.Names.{context_names, leaf_names}
use Rattle.lmn_base.specs.WellMade.{FitsArity, IsAtomLeaf, IsWellMade, IsWellMadeRule}
use Rattle.lmn_guards.specs.Plans.{IsPlan}
use Rattle.lmn_weight.specs.Examples.{NothingIsAccepted, UnplannedIsNot, nothing_plain}

none_holds : {A : Type 0} (P : A → Type 0) → All P []
none_holds P = All-from_recursion P [] tt

no_leaves : leaves_of nothing_plain.top ≡ []
no_leaves = fold-roll-Level (List Leaf) (λ l. l.leaves ++ flat_map (λ inner. inner) l.membranes) _

no_contexts : contexts_of nothing_plain.top ≡ []
no_contexts = fold-roll-Level (List CtxUse) (λ l. l.contexts ++ flat_map (λ inner. inner) l.membranes) _

no_rule_contexts : rule_contexts_of nothing_plain.top ≡ []
no_rule_contexts = fold-roll-Level (List CtxUse) (λ l. l.rule_contexts ++ flat_map (λ inner. inner) l.membranes) _

no_rules : rules_of nothing_plain.top ≡ []
no_rules = fold-roll-Level (List ℕ) (λ l. l.rules ++ flat_map (λ inner. inner) l.membranes) _

no_links : links_of nothing_plain.top ≡ []
no_links = ap (λ ls. map (λ o. o.link) (flat_map occurrences_of_leaf ls)) no_leaves

nothing_made : IsWellMade nothing_plain
nothing_made = record {
  arities = subst (All FitsArity) (sym no_leaves) (none_holds FitsArity);
  table = record { numbered = subst (λ ls. NumbersLinks (ls ++ []) 0) (sym no_links) no_more; tells = λ x u e. absurd (cc) };
  each_rule = none_holds IsWellMadeRule;
  rules_at_top = subst (All (λ k. k < 0)) (sym no_rules) (none_holds (λ k. k < 0));
  rules_in_rules = λ n r e. absurd (cc);
  only_atoms = subst (All IsAtomLeaf) (sym no_leaves) (none_holds IsAtomLeaf);
  no_context = no_contexts;
  no_rule_context = no_rule_contexts;
}

-- it is as an accepted text has it
pub nothing_is_accepted : NothingIsAccepted
nothing_is_accepted names is = record {
  made = nothing_made;
  named = (
    is,
    subst (All (λ n. n < length names))
        (λ i. (flat_map leaf_names (sym no_leaves i) ++ context_names (sym no_contexts i) ++ context_names (sym no_rule_contexts i)) ++ [])
        (none_holds (λ n. n < length names)),
  );
  rules = tt;
  planned = tt;
}

-- a rule without its plan isn't
pub unplanned_is_not : UnplannedIsNot
unplanned_is_not names plain r rules e a = subst (λ rs. AllZip IsPlan rs []) e a.planned
