-- The links of a flattened body are those of its levels, and its atoms have as many as their arities.
use Rattle.std.proofs.Common.{ℕ, ◌+◌, ◌≡◌, ◌≢◌, ◌==◌, Bool, true, false, List, [], ◌∷◌, ◌++◌, map, flat_map, length, Option, Some, None, refl, sym, ap, subst, ◌∙◌, arith}
use Rattle.std.specs.Prelude.{All}
use Rattle.std.specs.List.{AllByRecursion}
use Rattle.std.proofs.lemmas.List.Elements.{recursion_from_All}
use Rattle.std.proofs.lemmas.Bool.{eqb-true, and_parts}
use Rattle.std.proofs.lemmas.List.{append_assoc, map-append}
use Rattle.std.proofs.lemmas.List.Concat.{flat_map-append}
use Rattle.lmn_base.specs.declared.functor.Functor.{Functor}
use Rattle.lmn_base.specs.declared.level.Leaf.{Leaf}
use Rattle.lmn_base.specs.declared.level.Leaf.TheVariants as leaf
use Rattle.lmn_base.specs.declared.level.Level.{Level}
use Rattle.lmn_base.specs.declared.level.Level.TheFolds.{fold-roll-Level, ind-Level}
use Rattle.lmn_base.specs.declared.level.Occ.{Occ}
use Rattle.lmn_base.specs.declared.level.CtxUse.{CtxUse}
use Rattle.lmn_base.specs.Levels.{leaves_of, occurrences_of_leaf, links_of, links_of_leaves as linked}
use Rattle.lmn_base.specs.WellMade.{FitsArity}
use Rattle.lmn_base.specs.Solids.{connector}
use Rattle.lmn_store_heap.specs.Functors.{same_label, same_functor}
use Rattle.lmn_solid_bodies.specs.declared.items.BodyItem.{BodyItem}
use Rattle.lmn_solid_bodies.specs.Items.{body_links, AllMade}
use Rattle.lmn_solid_bodies.specs.Laws.{FlattenedKeepLinks, FlattenedAreMade}
use Rattle.lmn_solid_bodies.specs.Flattening.{BodyNames, UnnumberedBody, atom_item, typed_item, body_leaf_items, body_membrane_items, context_items, body_rule_items, rule_context_items, flatten_body_step, body_items}
use Rattle.lmn_solid_bodies.proofs.Flattened.{flattened, regroup, nil_right}
use Rattle.lmn_base.proofs.Lists.{all_left, all_right}

-- the links of two lists of leaves are those of both
pub linked_append : (xs ys : List Leaf) → linked (xs ++ ys) ≡ linked xs ++ linked ys
linked_append xs ys = ap (map (λ (o : Occ). o.link)) (flat_map-append occurrences_of_leaf xs ys) ∙ map-append (λ (o : Occ). o.link) (flat_map occurrences_of_leaf xs) (flat_map occurrences_of_leaf ys)

module _ (s : BodyNames) (k : ℕ) where
  -- Links

  atom_links : (inside : ℕ) (b : Bool) (f : Functor) (xs : List ℕ) (rest : List BodyItem) → body_links (atom_item b f xs inside ∷ rest) ≡ xs ++ body_links rest
  atom_links inside true f [] rest = refl
  atom_links inside true f (x ∷ []) rest = refl
  atom_links inside true f (x ∷ y ∷ []) rest = refl
  atom_links inside true f (x ∷ y ∷ z ∷ xs) rest = refl
  atom_links inside false f xs rest = refl

  typed_links : (inside : ℕ) (o : Option ℕ) (v x : ℕ) (rest : List BodyItem) → body_links (typed_item o v x inside ∷ rest) ≡ x ∷ body_links rest
  typed_links inside None v x rest = refl
  typed_links inside (Some g) v x rest = refl

  leaf_links : (inside : ℕ) (ls : List Leaf) (rest : List BodyItem) → body_links (body_leaf_items s inside ls ++ rest) ≡ linked ls ++ body_links rest
  leaf_links inside [] rest = refl
  leaf_links inside (leaf.Atom f os p ∷ ls) rest =
      atom_links inside (same_functor f connector) f (map (λ o. o.link) os) (body_leaf_items s inside ls ++ rest)
      ∙ ap (λ ys. map (λ (o : Occ). o.link) os ++ ys) (leaf_links inside ls rest)
      ∙ sym (append_assoc (map (λ (o : Occ). o.link) os) (linked ls) (body_links rest))
      ∙ ap (λ ys. ys ++ body_links rest) (sym (map-append (λ (o : Occ). o.link) os (flat_map occurrences_of_leaf ls)))
  leaf_links inside (leaf.Typed n o p ∷ ls) rest =
      typed_links inside (s.part n) (s.integer n) o.link (body_leaf_items s inside ls ++ rest) ∙ ap (λ ys. o.link ∷ ys) (leaf_links inside ls rest)

  context_links : (inside : ℕ) (us : List CtxUse) (rest : List BodyItem) → body_links (context_items s inside us ++ rest) ≡ body_links rest
  context_links inside [] rest = refl
  context_links inside (u ∷ us) rest = context_links inside us rest

  rule_links : (inside : ℕ) (ks : List ℕ) (rest : List BodyItem) → body_links (body_rule_items inside ks ++ rest) ≡ body_links rest
  rule_links inside [] rest = refl
  rule_links inside (x ∷ xs) rest = rule_links inside xs rest

  rule_context_links : (inside : ℕ) (us : List CtxUse) (rest : List BodyItem) → body_links (rule_context_items s inside us ++ rest) ≡ body_links rest
  rule_context_links inside [] rest = refl
  rule_context_links inside (u ∷ us) rest = rule_context_links inside us rest

  abbrev LinksAre : Level → Type 0
  LinksAre l = (inside next : ℕ) (rest : List BodyItem) → body_links ((flattened s k l).items inside next ++ rest) ≡ linked (leaves_of l) ++ body_links rest

  abbrev InnerLinks : List Level → Type 0
  InnerLinks ls = (inside next : ℕ) (rest : List BodyItem) →
      body_links (body_membrane_items inside next (map (flattened s k) ls) ++ rest) ≡ linked (flat_map (λ inner. inner) (map leaves_of ls)) ++ body_links rest

  inner_links : (ls : List ((l : Level) × LinksAre l)) → InnerLinks (map (λ e. e.0) ls)
  inner_links [] inside next rest = refl
  inner_links (e ∷ ls) inside next rest =
      let size = (flattened s k e.0).size in
      let others = map (flattened s k) (map (λ (e : (l : Level) × LinksAre l). e.0) ls) in
      let more = flat_map (λ (inner : List Leaf). inner) (map leaves_of (map (λ (e : (l : Level) × LinksAre l). e.0) ls)) in
      ap body_links (append_assoc ((flattened s k e.0).items next (next + 1)) (body_membrane_items inside (next + 1 + size) others) rest)
      ∙ e.1 next (next + 1) (body_membrane_items inside (next + 1 + size) others ++ rest)
      ∙ ap (λ ys. linked (leaves_of e.0) ++ ys) (inner_links ls inside (next + 1 + size) rest)
      ∙ sym (append_assoc (linked (leaves_of e.0)) (linked more) (body_links rest))
      ∙ ap (λ ys. ys ++ body_links rest) (sym (linked_append (leaves_of e.0) more))

  level_links : (l : Level) → LinksAre l
  level_links = ind-Level LinksAre (λ y w is.
      let inner : InnerLinks y.membranes = subst (λ l. InnerLinks l.membranes) is (inner_links w.membranes) in
      rw (fold-roll-Level UnnumberedBody (flatten_body_step s) y, fold-roll-Level (List Leaf) (λ l. l.leaves ++ flat_map (λ inner. inner) l.membranes) y) (λ inside next rest.
      let more = flat_map (λ (inner : List Leaf). inner) (map leaves_of y.membranes) in
      ap body_links (sym (regroup s k (body_leaf_items s inside y.leaves) (body_membrane_items inside next (map (flattened s k) y.membranes)) (context_items s inside y.contexts) (body_rule_items inside y.rules) (rule_context_items s inside y.rule_contexts) rest))
      ∙ leaf_links inside y.leaves _
      ∙ ap (λ ys. linked y.leaves ++ ys) (inner inside next _
      ∙ ap (λ ys. linked more ++ ys) (context_links inside y.contexts _ ∙ rule_links inside y.rules _ ∙ rule_context_links inside y.rule_contexts rest))
      ∙ sym (append_assoc (linked y.leaves) (linked more) (body_links rest))
      ∙ ap (λ ys. ys ++ body_links rest) (sym (linked_append y.leaves more))))

  pub links_kept : (l : Level) → body_links (body_items s k l) ≡ links_of l
  links_kept l = ap body_links (sym (nil_right s k (body_items s k l))) ∙ level_links l 0 (1 + k) [] ∙ no_more (linked (leaves_of l))
    where
      no_more : (xs : List ℕ) → xs ++ [] ≡ xs
      no_more [] = refl
      no_more (x ∷ xs) = ap (λ ys. x ∷ ys) (no_more xs)

  -- Atoms

  two_links : (f : Functor) → same_functor f connector ≡ true → f.arity ≡ 2
  two_links f e = eqb-true (f.arity) 2 (and_parts (same_label f.label connector.label) (f.arity == 2) e).1

  no_connector : (f : Functor) → same_functor f connector ≡ false → f ≢ connector
  no_connector f e q = absurd (off (sym e ∙ ap (λ g. same_functor g connector) q))
    where
      off : ◌≡◌ {A = Bool} false true → ⊥
      off e = absurd (cc)

  atom_made : (inside : ℕ) (f : Functor) (xs : List ℕ) (rest : List BodyItem) → length xs ≡ f.arity → AllMade rest → AllMade (atom_item (same_functor f connector) f xs inside ∷ rest)
  atom_made inside f xs rest fits r = by (same_functor f connector) refl xs fits
    where
      by : (b : Bool) → same_functor f connector ≡ b → (xs : List ℕ) → length xs ≡ f.arity → AllMade (atom_item b f xs inside ∷ rest)
      by true e [] fits = (let t = two_links f e in absurd (omega arith))
      by true e (x ∷ []) fits = (let t = two_links f e in absurd (omega arith))
      by true e (x ∷ y ∷ []) fits = (tt, r)
      by true e (x ∷ y ∷ z ∷ xs) fits = (let t = two_links f e in absurd (omega arith))
      by false e xs fits = ((fits, no_connector f e), r)

  typed_made : (inside : ℕ) (o : Option ℕ) (v x : ℕ) (rest : List BodyItem) → AllMade rest → AllMade (typed_item o v x inside ∷ rest)
  typed_made inside None v x rest r = (tt, r)
  typed_made inside (Some g) v x rest r = (tt, r)

  leaves_made : (inside : ℕ) (ls : List Leaf) (rest : List BodyItem) → AllByRecursion FitsArity ls → AllMade rest → AllMade (body_leaf_items s inside ls ++ rest)
  leaves_made inside [] rest a r = r
  leaves_made inside (leaf.Atom f os p ∷ ls) rest a r = atom_made inside f (map (λ o. o.link) os) (body_leaf_items s inside ls ++ rest) (as_many os ∙ a.0) (leaves_made inside ls rest a.1 r)
    where
      as_many : (os : List Occ) → length (map (λ o. o.link) os) ≡ length os
      as_many [] = refl
      as_many (o ∷ os) = let e = as_many os in omega arith
  leaves_made inside (leaf.Typed n o p ∷ ls) rest a r = typed_made inside (s.part n) (s.integer n) o.link (body_leaf_items s inside ls ++ rest) (leaves_made inside ls rest a.1 r)

  contexts_made : (inside : ℕ) (us : List CtxUse) (rest : List BodyItem) → AllMade rest → AllMade (context_items s inside us ++ rest)
  contexts_made inside [] rest r = r
  contexts_made inside (u ∷ us) rest r = (tt, contexts_made inside us rest r)

  rules_made : (inside : ℕ) (ks : List ℕ) (rest : List BodyItem) → AllMade rest → AllMade (body_rule_items inside ks ++ rest)
  rules_made inside [] rest r = r
  rules_made inside (x ∷ xs) rest r = (tt, rules_made inside xs rest r)

  rule_contexts_made : (inside : ℕ) (us : List CtxUse) (rest : List BodyItem) → AllMade rest → AllMade (rule_context_items s inside us ++ rest)
  rule_contexts_made inside [] rest r = r
  rule_contexts_made inside (u ∷ us) rest r = (tt, rule_contexts_made inside us rest r)

  abbrev MadeAll : Level → Type 0
  MadeAll l = (inside next : ℕ) (rest : List BodyItem) → AllByRecursion FitsArity (leaves_of l) → AllMade rest → AllMade ((flattened s k l).items inside next ++ rest)

  abbrev InnerMade : List Level → Type 0
  InnerMade ls = (inside next : ℕ) (rest : List BodyItem) → AllByRecursion FitsArity (flat_map (λ inner. inner) (map leaves_of ls)) → AllMade rest → AllMade (body_membrane_items inside next (map (flattened s k) ls) ++ rest)

  inner_made : (ls : List ((l : Level) × MadeAll l)) → InnerMade (map (λ e. e.0) ls)
  inner_made [] inside next rest a r = r
  inner_made (e ∷ ls) inside next rest a r =
      let size = (flattened s k e.0).size in
      let others = map (flattened s k) (map (λ (e : (l : Level) × MadeAll l). e.0) ls) in
      let more = flat_map (λ (inner : List Leaf). inner) (map leaves_of (map (λ (e : (l : Level) × MadeAll l). e.0) ls)) in (
        tt,
        subst AllMade (sym (append_assoc ((flattened s k e.0).items next (next + 1)) (body_membrane_items inside (next + 1 + size) others) rest))
            (e.1 next (next + 1) (body_membrane_items inside (next + 1 + size) others ++ rest) (all_left FitsArity (leaves_of e.0) more a)
            (inner_made ls inside (next + 1 + size) rest (all_right FitsArity (leaves_of e.0) more a) r)),
      )

  level_made : (l : Level) → MadeAll l
  level_made = ind-Level MadeAll (λ y w is.
      let inner : InnerMade y.membranes = subst (λ l. InnerMade l.membranes) is (inner_made w.membranes) in
      rw (fold-roll-Level UnnumberedBody (flatten_body_step s) y, fold-roll-Level (List Leaf) (λ l. l.leaves ++ flat_map (λ inner. inner) l.membranes) y) (λ inside next rest a r.
      let more = flat_map (λ (inner : List Leaf). inner) (map leaves_of y.membranes) in
      subst AllMade (regroup s k (body_leaf_items s inside y.leaves) (body_membrane_items inside next (map (flattened s k) y.membranes)) (context_items s inside y.contexts) (body_rule_items inside y.rules) (rule_context_items s inside y.rule_contexts) rest)
      (leaves_made inside y.leaves _ (all_left FitsArity y.leaves more a)
      (inner inside next _ (all_right FitsArity y.leaves more a)
      (contexts_made inside y.contexts _ (rules_made inside y.rules _ (rule_contexts_made inside y.rule_contexts rest r)))))))

  pub all_made : (l : Level) → All FitsArity (leaves_of l) → AllMade (body_items s k l)
  all_made l a = subst AllMade (nil_right s k (body_items s k l)) (level_made l 0 (1 + k) [] (recursion_from_All FitsArity (leaves_of l) a) tt)

-- a flattened body has the links of its level
pub flattened_keep_links : FlattenedKeepLinks
flattened_keep_links s k l = links_kept s k l

-- and its atoms fit their arities
pub flattened_are_made : FlattenedAreMade
flattened_are_made s k l a = all_made s k l a
