-- The copies of a flattened body are of the typed contexts that its names stand for.
use Rattle.std.proofs.Common.{ℕ, ◌+◌, ◌≡◌, Bool, true, false, List, [], ◌∷◌, ◌++◌, map, Option, Some, None, refl, sym, subst, inl, inr}
use Rattle.std.proofs.lemmas.List.{append_assoc}
use Rattle.lmn_base.specs.declared.functor.Functor.{Functor}
use Rattle.lmn_base.specs.declared.level.Leaf.{Leaf}
use Rattle.lmn_base.specs.declared.level.Leaf.TheVariants as leaf
use Rattle.lmn_base.specs.declared.level.Level.{Level}
use Rattle.lmn_base.specs.declared.level.Level.TheFolds.{fold-roll-Level, ind-Level}
use Rattle.lmn_base.specs.declared.level.CtxUse.{CtxUse}
use Rattle.lmn_base.specs.Solids.{connector}
use Rattle.lmn_store_heap.specs.Functors.{same_functor}
use Rattle.lmn_congruence_splice.specs.Splice.{IsOneOf}
use Rattle.lmn_solid_bodies.specs.declared.items.BodyItem.{BodyItem}
use Rattle.lmn_solid_bodies.specs.declared.items.BodyItem.TheVariants.{Atom, Connector, Copy, Bound, Membrane, Rest, Rule, Rules}
use Rattle.lmn_solid_bodies.specs.Flattening.{BodyNames, UnnumberedBody, atom_item, typed_item, body_leaf_items, body_membrane_items, context_items, body_rule_items, rule_context_items, flatten_body_step, body_items}
use Rattle.lmn_solid_bodies.specs.Made.{copies_of}
use Rattle.lmn_solid_bodies.proofs.Flattened.{flattened, regroup, nil_right}

-- each copy is of a context with a property
abbrev Parts : (ℕ → Type 0) → List BodyItem → Type 0
Parts P [] = Unit {0}
Parts P (Atom functor links inside ∷ xs) = Parts P xs
Parts P (Connector left right ∷ xs) = Parts P xs
Parts P (Copy part link inside ∷ xs) = P part × Parts P xs
Parts P (Bound integer link inside ∷ xs) = Parts P xs
Parts P (Membrane inside ∷ xs) = Parts P xs
Parts P (Rest of closed inside ∷ xs) = Parts P xs
Parts P (Rule rule inside ∷ xs) = Parts P xs
Parts P (Rules of inside ∷ xs) = Parts P xs

each_part : (P : ℕ → Type 0) (c : ℕ) (body : List BodyItem) → Parts P body → (e : ℕ × ℕ) → IsOneOf e (copies_of c body) → P e.1
each_part P c [] w e i = absurd i
each_part P c (Atom functor links inside ∷ xs) w e i = each_part P c xs w e i
each_part P c (Connector left right ∷ xs) w e i = each_part P c xs w e i
each_part P c (Copy part link inside ∷ xs) w e (inl q) = subst (λ (z : ℕ × ℕ). P z.1) q w.0
each_part P c (Copy part link inside ∷ xs) w e (inr i) = each_part P (c + 1) xs w.1 e i
each_part P c (Bound integer link inside ∷ xs) w e i = each_part P c xs w e i
each_part P c (Membrane inside ∷ xs) w e i = each_part P c xs w e i
each_part P c (Rest of closed inside ∷ xs) w e i = each_part P c xs w e i
each_part P c (Rule rule inside ∷ xs) w e i = each_part P c xs w e i
each_part P c (Rules of inside ∷ xs) w e i = each_part P c xs w e i

module _ (s : BodyNames) (k : ℕ) (P : ℕ → Type 0) (named : (x g : ℕ) → s.part x ≡ Some g → P g) where
  atom_parts : (b : Bool) (f : Functor) (xs : List ℕ) (inside : ℕ) (rest : List BodyItem) → Parts P rest → Parts P (atom_item b f xs inside ∷ rest)
  atom_parts true f [] inside rest w = w
  atom_parts true f (x ∷ []) inside rest w = w
  atom_parts true f (x ∷ y ∷ []) inside rest w = w
  atom_parts true f (x ∷ y ∷ z ∷ xs) inside rest w = w
  atom_parts false f xs inside rest w = w

  typed_parts : (x : ℕ) (o : Option ℕ) → s.part x ≡ o → (v l inside : ℕ) (rest : List BodyItem) → Parts P rest → Parts P (typed_item o v l inside ∷ rest)
  typed_parts x None e v l inside rest w = w
  typed_parts x (Some g) e v l inside rest w = (named x g e, w)

  leaf_parts : (inside : ℕ) (ls : List Leaf) (rest : List BodyItem) → Parts P rest → Parts P (body_leaf_items s inside ls ++ rest)
  leaf_parts inside [] rest w = w
  leaf_parts inside (leaf.Atom f os p ∷ ls) rest w = atom_parts (same_functor f connector) f (map (λ o. o.link) os) inside (body_leaf_items s inside ls ++ rest) (leaf_parts inside ls rest w)
  leaf_parts inside (leaf.Typed n o p ∷ ls) rest w = typed_parts n (s.part n) refl (s.integer n) o.link inside (body_leaf_items s inside ls ++ rest) (leaf_parts inside ls rest w)

  context_parts : (inside : ℕ) (us : List CtxUse) (rest : List BodyItem) → Parts P rest → Parts P (context_items s inside us ++ rest)
  context_parts inside [] rest w = w
  context_parts inside (u ∷ us) rest w = context_parts inside us rest w

  rule_parts : (inside : ℕ) (ks : List ℕ) (rest : List BodyItem) → Parts P rest → Parts P (body_rule_items inside ks ++ rest)
  rule_parts inside [] rest w = w
  rule_parts inside (x ∷ xs) rest w = rule_parts inside xs rest w

  rule_context_parts : (inside : ℕ) (us : List CtxUse) (rest : List BodyItem) → Parts P rest → Parts P (rule_context_items s inside us ++ rest)
  rule_context_parts inside [] rest w = w
  rule_context_parts inside (u ∷ us) rest w = rule_context_parts inside us rest w

  abbrev PartsAre : Level → Type 0
  PartsAre l = (inside next : ℕ) (rest : List BodyItem) → Parts P rest → Parts P ((flattened s k l).items inside next ++ rest)

  abbrev InnerParts : List Level → Type 0
  InnerParts ls = (inside next : ℕ) (rest : List BodyItem) → Parts P rest → Parts P (body_membrane_items inside next (map (flattened s k) ls) ++ rest)

  inner_parts : (ls : List ((l : Level) × PartsAre l)) → InnerParts (map (λ e. e.0) ls)
  inner_parts [] inside next rest w = w
  inner_parts (e ∷ ls) inside next rest w =
      let size = (flattened s k e.0).size in
      let others = map (flattened s k) (map (λ (e : (l : Level) × PartsAre l). e.0) ls) in
      subst (Parts P) (sym (append_assoc ((flattened s k e.0).items next (next + 1)) (body_membrane_items inside (next + 1 + size) others) rest))
      (e.1 next (next + 1) (body_membrane_items inside (next + 1 + size) others ++ rest) (inner_parts ls inside (next + 1 + size) rest w))

  level_parts : (l : Level) → PartsAre l
  level_parts = ind-Level PartsAre (λ y w is.
      let inner : InnerParts y.membranes = subst (λ l. InnerParts l.membranes) is (inner_parts w.membranes) in
      rw (fold-roll-Level UnnumberedBody (flatten_body_step s) y) (λ inside next rest r.
      subst (Parts P) (regroup s k (body_leaf_items s inside y.leaves) (body_membrane_items inside next (map (flattened s k) y.membranes)) (context_items s inside y.contexts) (body_rule_items inside y.rules) (rule_context_items s inside y.rule_contexts) rest)
      (leaf_parts inside y.leaves _ (inner inside next _ (context_parts inside y.contexts _ (rule_parts inside y.rules _ (rule_context_parts inside y.rule_contexts rest r)))))))

  -- the context of each copy is one that a name stands for
  pub copies_named : (l : Level) (e : ℕ × ℕ) → IsOneOf e (copies_of 0 (body_items s k l)) → P e.1
  copies_named l e i = each_part P 0 (body_items s k l) (subst (Parts P) (nil_right s k (body_items s k l)) (level_parts l 0 (1 + k) [] tt)) e i
