-- Levels in which no context stands.
use Rattle.std.proofs.Common.{◌≡◌, List, [], ◌∷◌, ◌++◌, map, All, refl, sym, ap, subst, ◌∙◌}
use Rattle.std.specs.List.{flat_map}
use Rattle.std.proofs.lemmas.List.Concat.{flat_map-append}
use Rattle.std.proofs.lemmas.List.Elements.{All-append, All-cons, All-nil}
use Rattle.lmn_base.specs.declared.item.Item.{Item}
use Rattle.lmn_base.specs.declared.item.Item.TheVariants as item
use Rattle.lmn_base.specs.declared.level.CtxUse.{CtxUse}
use Rattle.lmn_base.specs.declared.level.Leaf.{Leaf}
use Rattle.lmn_base.specs.declared.level.Leaf.TheVariants.{Atom, Typed}
use Rattle.lmn_base.specs.declared.level.Level.{Level}
use Rattle.lmn_base.specs.declared.level.Level.TheFolds.{fold-roll-Level, ind-Level}
use Rattle.lmn_base.specs.Items.{items_of, leaf_item, own_items, untyped}
use Rattle.lmn_base.specs.Levels.{contexts_of, leaves_of, rule_contexts_of}
use Rattle.lmn_base.specs.WellMade.{IsAtomLeaf}
use Rattle.lmn_flatten_numbers.specs.Outside.{context_place, context_places}
use Rattle.lmn_flatten_plain.proofs.WellMadePlains.{NoContext}
use Rattle.lmn_base.proofs.Lists.{two_empty}

both_empty : {A : Type 0} (xs ys : List A) → xs ≡ [] → ys ≡ [] → xs ++ ys ≡ []
both_empty xs ys e f = ap (λ l. l ++ ys) e ∙ f

split : (xs ys : List Item) → flat_map context_place (xs ++ ys) ≡ [] → (flat_map context_place xs ≡ []) × (flat_map context_place ys ≡ [])
split xs ys e = two_empty (flat_map context_place xs) (flat_map context_place ys) (sym (flat_map-append context_place xs ys) ∙ e)

only_atoms : (ls : List Leaf) → flat_map context_place (map leaf_item ls) ≡ [] → All IsAtomLeaf ls
only_atoms [] e = All-nil IsAtomLeaf
only_atoms (Atom functor links pos ∷ ls) e = All-cons IsAtomLeaf (Atom functor links pos) ls tt (only_atoms ls e)
only_atoms (Typed name link pos ∷ ls) e = absurd (cc)

no_uses : (us : List CtxUse) → flat_map context_place (map untyped us) ≡ [] → us ≡ []
no_uses [] e = refl
no_uses (u ∷ us) e = absurd (cc)

no_rule_uses : (us : List CtxUse) → flat_map context_place (map item.RuleContext us) ≡ [] → us ≡ []
no_rule_uses [] e = refl
no_rule_uses (u ∷ us) e = absurd (cc)

abbrev NoneHere : Level → Type 0
NoneHere l = context_places l ≡ [] → NoContext l

record Below (ls : List Level) : Type 0 where
  leaves : All IsAtomLeaf (flat_map (λ inner. inner) (map leaves_of ls))
  contexts : flat_map (λ inner. inner) (map contexts_of ls) ≡ []
  rule_contexts : flat_map (λ inner. inner) (map rule_contexts_of ls) ≡ []

below : (ls : List ((l : Level) × NoneHere l)) → flat_map context_place (flat_map (λ inner. inner) (map items_of (map (λ e. e.0) ls))) ≡ []
    → Below (map (λ e. e.0) ls)
below [] h = record { leaves = All-nil IsAtomLeaf; contexts = refl; rule_contexts = refl }
below (e ∷ ls) h =
    let others = map (λ (e : (l : Level) × NoneHere l). e.0) ls in
    let a = split (items_of e.0) (flat_map (λ inner. inner) (map items_of others)) h in
    let here = e.1 a.0 in
    let rest = below ls a.1 in
    record {
      leaves = All-append IsAtomLeaf (leaves_of e.0) (flat_map (λ inner. inner) (map leaves_of others)) here.only_atoms rest.leaves;
      contexts = both_empty (contexts_of e.0) (flat_map (λ inner. inner) (map contexts_of others)) here.no_context rest.contexts;
      rule_contexts = both_empty (rule_contexts_of e.0) (flat_map (λ inner. inner) (map rule_contexts_of others)) here.no_rule_context rest.rule_contexts;
    }

-- a level in which no context has a place has none
pub no_context : (l : Level) → NoneHere l
no_context = ind-Level NoneHere (λ y z is h.
    let a = split (own_items y) (flat_map (λ inner. inner) (map items_of y.membranes))
    (ap (flat_map context_place) (sym (fold-roll-Level (List Item) (λ l. own_items l ++ flat_map (λ inner. inner) l.membranes) y)) ∙ h) in
    let inside = subst (λ l. flat_map context_place (flat_map (λ inner. inner) (map items_of l.membranes)) ≡ [] → Below l.membranes) is (below z.membranes) a.1 in
    let b = split (map leaf_item y.leaves) (map untyped y.contexts ++ (map item.RuleContext y.rule_contexts ++ map item.Rule y.rules)) a.0 in
    let c = split (map untyped y.contexts) (map item.RuleContext y.rule_contexts ++ map item.Rule y.rules) b.1 in
    let d = split (map item.RuleContext y.rule_contexts) (map item.Rule y.rules) c.1 in
    let P : List Leaf → Type 0 = All IsAtomLeaf in
    record {
      only_atoms = subst P (sym (fold-roll-Level (List Leaf) (λ l. l.leaves ++ flat_map (λ inner. inner) l.membranes) y))
          (All-append IsAtomLeaf y.leaves (flat_map (λ inner. inner) (map leaves_of y.membranes)) (only_atoms y.leaves b.0) inside.leaves);
      no_context = fold-roll-Level (List CtxUse) (λ l. l.contexts ++ flat_map (λ inner. inner) l.membranes) y
          ∙ both_empty y.contexts (flat_map (λ inner. inner) (map contexts_of y.membranes)) (no_uses y.contexts c.0) inside.contexts;
      no_rule_context = fold-roll-Level (List CtxUse) (λ l. l.rule_contexts ++ flat_map (λ inner. inner) l.membranes) y
          ∙ both_empty y.rule_contexts (flat_map (λ inner. inner) (map rule_contexts_of y.membranes)) (no_rule_uses y.rule_contexts d.0) inside.rule_contexts;
    })
