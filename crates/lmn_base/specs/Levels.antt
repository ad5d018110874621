-- What stands in a level, at every depth.
use Rattle.std.specs.Prelude.{ℕ, List, [], ◌∷◌, ◌++◌, map, flat_map}
use Rattle.lmn_base.specs.declared.level.Leaf.{Leaf}
use Rattle.lmn_base.specs.declared.level.Leaf.TheVariants.{Atom, Typed}
use Rattle.lmn_base.specs.declared.level.Level.{Level}
use Rattle.lmn_base.specs.declared.level.Level.TheOpen.{Level-F}
use Rattle.lmn_base.specs.declared.level.Level.TheFolds.{fold-Level}
use Rattle.lmn_base.specs.declared.level.Occ.{Occ}
use Rattle.lmn_base.specs.declared.level.CtxUse.{CtxUse}

-- What stands in a level itself, and then what stands in each of its membranes. Of leaves alone this is the
-- printed order, since the contexts and rules of a level are printed behind its membranes.
abbrev pub everywhere : {A : Type 0} → (Level-F (List A) → List A) → Level → List A
everywhere {A} here = fold-Level (List A) (λ l. here l ++ flat_map (λ inner. inner) l.membranes)

-- the leaves, contexts, rule contexts and rules of a level, at every depth
abbrev pub leaves_of : Level → List Leaf
leaves_of = everywhere (λ l. l.leaves)

abbrev pub contexts_of : Level → List CtxUse
contexts_of = everywhere (λ l. l.contexts)

abbrev pub rule_contexts_of : Level → List CtxUse
rule_contexts_of = everywhere (λ l. l.rule_contexts)

abbrev pub rules_of : Level → List ℕ
rules_of = everywhere (λ l. l.rules)

-- the occurrences of links at a leaf
abbrev pub occurrences_of_leaf : Leaf → List Occ
occurrences_of_leaf (Atom functor links pos) = links
occurrences_of_leaf (Typed name link pos) = link ∷ []

-- the occurrences of links in a level, in printed order
abbrev pub occurrences_of : Level → List Occ
occurrences_of l = flat_map occurrences_of_leaf (leaves_of l)

-- the same, each by the number of its link
abbrev pub links_of : Level → List ℕ
links_of l = map (λ o. o.link) (occurrences_of l)

-- the links of leaves, by their numbers
abbrev pub links_of_leaves : List Leaf → List ℕ
links_of_leaves ls = map (λ o. o.link) (flat_map occurrences_of_leaf ls)

-- the links of occurrences, by their numbers
abbrev pub link_numbers : List Occ → List ℕ
link_numbers os = map (λ o. o.link) os
