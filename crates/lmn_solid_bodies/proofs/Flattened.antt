-- The items of a flattened body are well placed.
use Rattle.std.proofs.Common.{ℕ, ◌+◌, ◌<◌, ◌≡◌, Bool, true, false, List, [], ◌∷◌, ◌++◌, map, sum, Option, Some, None, refl, sym, ap, subst, ◌∙◌, inl, inr, arith}
use Rattle.std.proofs.lemmas.List.{append_assoc}
use Rattle.std.proofs.lemmas.List.Sums.{sum_by-cons}
use Rattle.lmn_base.specs.declared.functor.Functor.{Functor}
use Rattle.lmn_base.specs.declared.level.Leaf.{Leaf}
use Rattle.lmn_base.specs.declared.level.Leaf.TheVariants as leaf
use Rattle.lmn_base.specs.declared.level.Level.{Level}
use Rattle.lmn_base.specs.declared.level.Level.TheFolds.{fold-Level, fold-roll-Level, ind-Level}
use Rattle.lmn_base.specs.declared.level.CtxUse.{CtxUse}
use Rattle.lmn_base.specs.Solids.{connector}
use Rattle.lmn_store_heap.specs.Functors.{same_functor}
use Rattle.lmn_congruence_splice.specs.Splice.{NoneTwice}
use Rattle.lmn_solid_bodies.specs.declared.items.BodyItem.{BodyItem}
use Rattle.lmn_solid_bodies.specs.declared.items.BodyItem.TheVariants.{Atom, Connector, Copy, Bound, Membrane, Rest, Rule, Rules}
use Rattle.lmn_solid_bodies.specs.Rules.{StandsIn, rests, WellPlaced, AllStandIn, HeadContexts}
use Rattle.lmn_solid_bodies.specs.Flattening.{BodyNames, UnnumberedBody, atom_item, typed_item, body_leaf_items, body_membrane_items, context_items, body_rule_items, rule_context_items, flatten_body_step, body_items}

-- where items stand, whose contexts they are, and that each open context stands once, are all that is asked
pub well_placed : (k m : ℕ) (items : List BodyItem) → AllStandIn k m items → HeadContexts k items → NoneTwice (rests items) → WellPlaced k m items
well_placed k m [] s h d = tt
well_placed k m (Atom functor links inside ∷ xs) s h d = (s.0, well_placed k m xs s.1 h d)
well_placed k m (Connector left right ∷ xs) s h d = well_placed k m xs s h d
well_placed k m (Copy part link inside ∷ xs) s h d = (s.0, well_placed k m xs s.1 h d)
well_placed k m (Bound integer link inside ∷ xs) s h d = (s.0, well_placed k m xs s.1 h d)
well_placed k m (Membrane inside ∷ xs) s h d = (s.0, well_placed k (m + 1) xs s.1 h d)
well_placed k m (Rest of false inside ∷ xs) s h d = (h.0, d.0, s.0, well_placed k m xs s.1 h.1 d.1)
well_placed k m (Rest of true inside ∷ xs) s h d = (h.0, s.0, well_placed k m xs s.1 h.1 d)
well_placed k m (Rule rule inside ∷ xs) s h d = (s.0, well_placed k m xs s.1 h d)
well_placed k m (Rules of inside ∷ xs) s h d = (h.0, s.0, well_placed k m xs s.1 h.1 d)

stands_later : (k m n inside : ℕ) → StandsIn k m inside → StandsIn k (m + n) inside
stands_later k m n inside (inl e) = inl e
stands_later k m n inside (inr w) = inr (w.0, let l = w.1 in omega arith)

module _ (s : BodyNames) (k : ℕ) where
  atom_stands : (m inside : ℕ) (b : Bool) (f : Functor) (xs : List ℕ) (rest : List BodyItem) → StandsIn k m inside → AllStandIn k m rest → AllStandIn k m (atom_item b f xs inside ∷ rest)
  atom_stands m inside true f [] rest w r = (w, r)
  atom_stands m inside true f (x ∷ []) rest w r = (w, r)
  atom_stands m inside true f (x ∷ y ∷ []) rest w r = r
  atom_stands m inside true f (x ∷ y ∷ z ∷ xs) rest w r = (w, r)
  atom_stands m inside false f xs rest w r = (w, r)

  typed_stands : (m inside : ℕ) (o : Option ℕ) (v x : ℕ) (rest : List BodyItem) → StandsIn k m inside → AllStandIn k m rest → AllStandIn k m (typed_item o v x inside ∷ rest)
  typed_stands m inside None v x rest w r = (w, r)
  typed_stands m inside (Some g) v x rest w r = (w, r)

  leaves_stand : (m inside : ℕ) (ls : List Leaf) (rest : List BodyItem) → StandsIn k m inside → AllStandIn k m rest → AllStandIn k m (body_leaf_items s inside ls ++ rest)
  leaves_stand m inside [] rest w r = r
  leaves_stand m inside (leaf.Atom f os p ∷ ls) rest w r = atom_stands m inside (same_functor f connector) f (map (λ o. o.link) os) (body_leaf_items s inside ls ++ rest) w (leaves_stand m inside ls rest w r)
  leaves_stand m inside (leaf.Typed n o p ∷ ls) rest w r = typed_stands m inside (s.part n) (s.integer n) o.link (body_leaf_items s inside ls ++ rest) w (leaves_stand m inside ls rest w r)

  contexts_stand : (m inside : ℕ) (us : List CtxUse) (rest : List BodyItem) → StandsIn k m inside → AllStandIn k m rest → AllStandIn k m (context_items s inside us ++ rest)
  contexts_stand m inside [] rest w r = r
  contexts_stand m inside (u ∷ us) rest w r = (w, contexts_stand m inside us rest w r)

  rules_stand : (m inside : ℕ) (ks : List ℕ) (rest : List BodyItem) → StandsIn k m inside → AllStandIn k m rest → AllStandIn k m (body_rule_items inside ks ++ rest)
  rules_stand m inside [] rest w r = r
  rules_stand m inside (x ∷ xs) rest w r = (w, rules_stand m inside xs rest w r)

  rule_contexts_stand : (m inside : ℕ) (us : List CtxUse) (rest : List BodyItem) → StandsIn k m inside → AllStandIn k m rest → AllStandIn k m (rule_context_items s inside us ++ rest)
  rule_contexts_stand m inside [] rest w r = r
  rule_contexts_stand m inside (u ∷ us) rest w r = (w, rule_contexts_stand m inside us rest w r)

  abbrev pub flattened : Level → UnnumberedBody
  flattened = fold-Level UnnumberedBody (flatten_body_step s)

  -- the items of a level stand where they should, before others that do
  abbrev StandsAll : Level → Type 0
  StandsAll l = (inside next : ℕ) (rest : List BodyItem) → StandsIn k next inside → k < next → AllStandIn k (next + (flattened l).size) rest → AllStandIn k next ((flattened l).items inside next ++ rest)

  abbrev InnerStand : List Level → Type 0
  InnerStand ls = (inside next : ℕ) (rest : List BodyItem) → StandsIn k next inside → k < next
      → AllStandIn k (next + sum (map (λ m. 1 + m.size) (map flattened ls))) rest → AllStandIn k next (body_membrane_items inside next (map flattened ls) ++ rest)

  inner_stand : (ls : List ((l : Level) × StandsAll l)) → InnerStand (map (λ e. e.0) ls)
  inner_stand [] inside next rest w low r = subst (λ m. AllStandIn k m rest) (plus next) r
    where
      plus : (m : ℕ) → m + 0 ≡ m
      plus m = omega arith
  inner_stand (e ∷ ls) inside next rest w low r =
      let size = (flattened e.0).size in
      let others = map flattened (map (λ (e : (l : Level) × StandsAll l). e.0) ls) in (
        w,
        subst (AllStandIn k (next + 1)) (sym (append_assoc ((flattened e.0).items next (next + 1)) (body_membrane_items inside (next + 1 + size) others) rest))
            (e.1 next (next + 1) (body_membrane_items inside (next + 1 + size) others ++ rest) (inr (low, omega arith)) (omega arith)
            (inner_stand ls inside (next + 1 + size) rest (subst (λ m. StandsIn k m inside) (shift next size) (stands_later k next (1 + size) inside w)) (omega arith)
            (subst (λ m. AllStandIn k m rest) (total next size (sum (map (λ m. 1 + m.size) others)) _ (sum_by-cons (λ (x : ℕ). x) (1 + size) (map (λ m. 1 + m.size) others))) r))),
      )
    where
      shift : (a b : ℕ) → a + (1 + b) ≡ a + 1 + b
      shift a b = omega arith

      total : (a b d c : ℕ) → c ≡ 1 + b + d → a + c ≡ a + 1 + b + d
      total a b d c e = omega arith

  pub regroup : (a b c d e rest : List BodyItem) → a ++ (b ++ (c ++ (d ++ (e ++ rest)))) ≡ (a ++ (b ++ (c ++ (d ++ e)))) ++ rest
  regroup a b c d e rest = sym (append_assoc a (b ++ (c ++ (d ++ e))) rest ∙ ap (λ z. a ++ z) (append_assoc b (c ++ (d ++ e)) rest ∙ ap (λ z. b ++ z) (append_assoc c (d ++ e) rest ∙ ap (λ z. c ++ z) (append_assoc d e rest))))

  level_stands : (l : Level) → StandsAll l
  level_stands = ind-Level StandsAll (λ y z is.
      let inner : InnerStand y.membranes = subst (λ l. InnerStand l.membranes) is (inner_stand z.membranes) in
      rw (fold-roll-Level UnnumberedBody (flatten_body_step s) y) (λ inside next rest w low r.
      let m = next + sum (map (λ m. 1 + m.size) (map flattened y.membranes)) in
      let later = stands_later k next (sum (map (λ m. 1 + m.size) (map flattened y.membranes))) inside w in
      subst (AllStandIn k next) (regroup (body_leaf_items s inside y.leaves) (body_membrane_items inside next (map flattened y.membranes)) (context_items s inside y.contexts) (body_rule_items inside y.rules) (rule_context_items s inside y.rule_contexts) rest)
      (leaves_stand next inside y.leaves _ w
      (inner inside next _ w low (contexts_stand m inside y.contexts _ later (rules_stand m inside y.rules _ later (rule_contexts_stand m inside y.rule_contexts rest later r)))))))

  pub nil_right : (xs : List BodyItem) → xs ++ [] ≡ xs
  nil_right [] = refl
  nil_right (x ∷ xs) = ap (λ ys. x ∷ ys) (nil_right xs)

  -- Each item of a flattened body stands in the membrane of the rule or in one that is made before it.
  pub body_stands : (l : Level) → AllStandIn k (1 + k) (body_items s k l)
  body_stands l = subst (AllStandIn k (1 + k)) (nil_right (body_items s k l)) (level_stands l 0 (1 + k) [] (inl refl) (omega arith) tt)
