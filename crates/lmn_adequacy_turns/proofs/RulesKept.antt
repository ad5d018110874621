-- After a firing each rule of a membrane stood in one before, or stands in the body.
use Rattle.std.proofs.Common.{ℕ, ◌+◌, ◌⊎◌, Bool, true, false, List, [], ◌∷◌, ◌++◌, map, Option, Some, None, IsSome, refl, subst, inl, inr}
use Rattle.std.specs.Prelude.{Contains}
use Rattle.std.proofs.lemmas.List.Elements.{Contains-append_left, Contains-append_right}
use Rattle.lmn_base.specs.declared.functor.Functor.{Functor}
use Rattle.lmn_base.specs.declared.level.CtxUse.{CtxUse}
use Rattle.lmn_base.specs.declared.level.Leaf.{Leaf}
use Rattle.lmn_base.specs.Solids.{connector}
use Rattle.lmn_store_heap.specs.Functors.{same_functor}
use Rattle.lmn_store_heap.specs.Heap.{Heap, HeapMem, IsMem, rules_in, rules_by}
use Rattle.lmn_store_heap.specs.Sound.{Forest, IsTree, Valid}
use Rattle.lmn_solid_heads.specs.declared.items.HeadItem.{HeadItem}
use Rattle.lmn_solid_heads.proofs.HeadTrees.{Head, Heads, head, no_head, head_and, size, head_rules, heads_rules}
use Rattle.lmn_solid_bodies.specs.declared.items.BodyItem.{BodyItem}
use Rattle.lmn_solid_bodies.specs.declared.items.BodyItem.TheVariants.{Atom, Connector, Copy, Bound, Membrane, Rest, Rule, Rules}
use Rattle.lmn_solid_bodies.specs.Added.{if_inside, added_rules}
use Rattle.lmn_solid_bodies.specs.Fired.{images_of}
use Rattle.lmn_solid_bodies.specs.RestCopies.{RestCopies, later, copied_into, given}
use Rattle.lmn_solid_bodies.specs.Flattening.{atom_item, typed_item, body_leaf_items, context_items, body_rule_items, rule_context_items, BodyNames}
use Rattle.lmn_solid_bodies.specs.Running.{Registers}
use Rattle.lmn_solid_bodies.specs.Within.{removed_mems, FiresWithin}
use Rattle.lmn_compile_body.proofs.BodyTrees.{flat_body, flat_bodies}
use Rattle.lmn_adequacy_turns.proofs.Adders.{at}
use Rattle.lmn_adequacy_turns.proofs.NamesKept.{none_removed}
use Rattle.lmn_base.specs.Graphs.{Port}
use Rattle.lmn_base.proofs.Lists.{contains_behind as later_is, contains_first as first_is, in_either}
use Rattle.lmn_solid_bodies.proofs.AddedLemmas.{in_if}
use Rattle.lmn_solid_bodies.proofs.Held.{Held}
use Rattle.lmn_solid_bodies.proofs.RestGrowing.{in_given}
use Rattle.lmn_base.specs.declared.level.Leaf.TheVariants as leaf
use Rattle.lmn_base.specs.Lists.{In}

module _ (P : ℕ → Type 0) where
  -- so is each rule that is written
  abbrev Written : BodyItem → Type 0
  Written (Atom functor links inside) = Unit {0}
  Written (Connector left right) = Unit {0}
  Written (Copy part link inside) = Unit {0}
  Written (Bound integer link inside) = Unit {0}
  Written (Membrane inside) = Unit {0}
  Written (Rest of closed inside) = Unit {0}
  Written (Rule k inside) = P k
  Written (Rules of inside) = Unit {0}

  abbrev pub AllWritten : List BodyItem → Type 0
  AllWritten [] = Unit {0}
  AllWritten (x ∷ xs) = Written x × AllWritten xs

  written_both : (xs ys : List BodyItem) → AllWritten xs → AllWritten ys → AllWritten (xs ++ ys)
  written_both [] ys a b = b
  written_both (x ∷ xs) ys a b = (a.0, written_both xs ys a.1 b)

  module _ (bn : BodyNames) where
    atom_written : (t : Bool) (f : Functor) (ys : List ℕ) (inside : ℕ) → Written (atom_item t f ys inside)
    atom_written true f [] inside = tt
    atom_written true f (a ∷ []) inside = tt
    atom_written true f (a ∷ (b ∷ [])) inside = tt
    atom_written true f (a ∷ (b ∷ (c ∷ ys))) inside = tt
    atom_written false f ys inside = tt

    typed_written : (o : Option ℕ) (i x inside : ℕ) → Written (typed_item o i x inside)
    typed_written (Some g) i x inside = tt
    typed_written None i x inside = tt

    leaves_written : (inside : ℕ) (ls : List Leaf) → AllWritten (body_leaf_items bn inside ls)
    leaves_written inside [] = tt
    leaves_written inside (leaf.Atom f os p ∷ ls) = (atom_written (same_functor f connector) f (map (λ o. o.link) os) inside, leaves_written inside ls)
    leaves_written inside (leaf.Typed m o p ∷ ls) = (typed_written (bn.part m) (bn.integer m) o.link inside, leaves_written inside ls)

    contexts_written : (inside : ℕ) (us : List CtxUse) → AllWritten (context_items bn inside us)
    contexts_written inside [] = tt
    contexts_written inside (u ∷ us) = (tt, contexts_written inside us)

    rules_written : (inside : ℕ) (ks : List ℕ) → ((k : ℕ) → Contains ks k → P k) → AllWritten (body_rule_items inside ks)
    rules_written inside [] p = tt
    rules_written inside (k ∷ ks) p = (p k (first_is k ks), rules_written inside ks (λ j w. p j (later_is k ks j w)))

    rule_contexts_written : (inside : ℕ) (us : List CtxUse) → AllWritten (rule_context_items bn inside us)
    rule_contexts_written inside [] = tt
    rule_contexts_written inside (u ∷ us) = (tt, rule_contexts_written inside us)

    mutual
      -- what holds of the rules of a body holds of those that are written
      pub body_written : (inside next : ℕ) (hd : Head) → ((k : ℕ) → Contains (head_rules hd) k → P k) → AllWritten (flat_body bn inside next hd)
      body_written inside next (head leaves hs cs rcs rs) p =
          written_both (body_leaf_items bn inside leaves) (flat_bodies bn inside next hs ++ (context_items bn inside cs ++ (body_rule_items inside rs ++ rule_context_items bn inside rcs))) (leaves_written inside leaves)
          (written_both (flat_bodies bn inside next hs) (context_items bn inside cs ++ (body_rule_items inside rs ++ rule_context_items bn inside rcs)) (bodies_written inside next hs (λ k w. p k (Contains-append_right rs (heads_rules hs) k w)))
          (written_both (context_items bn inside cs) (body_rule_items inside rs ++ rule_context_items bn inside rcs) (contexts_written inside cs)
          (written_both (body_rule_items inside rs) (rule_context_items bn inside rcs) (rules_written inside rs (λ k w. p k (Contains-append_left rs (heads_rules hs) k w))) (rule_contexts_written inside rcs))))

      bodies_written : (inside next : ℕ) (hs : Heads) → ((k : ℕ) → Contains (heads_rules hs) k → P k) → AllWritten (flat_bodies bn inside next hs)
      bodies_written inside next no_head p = tt
      bodies_written inside next (head_and h hs) p = (
        tt,
        written_both (flat_body bn next (next + 1) h) (flat_bodies bn inside (next + 1 + size h) hs) (body_written next (next + 1) h (λ k w. p k (Contains-append_left (head_rules h) (heads_rules hs) k w)))
            (bodies_written inside (next + 1 + size h) hs (λ k w. p k (Contains-append_right (head_rules h) (heads_rules hs) k w))),
      )

  -- a rule that is added is written, or stood in a membrane
  rule_from : (s : Registers) (q : RestCopies) (rules : ℕ → List ℕ) (xs : List BodyItem) (x k : ℕ) → AllWritten xs → In k (added_rules s q rules xs x) → ((y : ℕ) × In k (rules y)) ⊎ P k
  rule_from s q rules [] x k w i = absurd i
  rule_from s q rules (Atom functor links inside ∷ xs) x k w i = rule_from s q rules xs x k w.1 i
  rule_from s q rules (Connector l l' ∷ xs) x k w i = rule_from s q rules xs x k w.1 i
  rule_from s q rules (Copy part link inside ∷ xs) x k w i = rule_from s q rules xs x k w.1 i
  rule_from s q rules (Bound integer link inside ∷ xs) x k w i = rule_from s q rules xs x k w.1 i
  rule_from s q rules (Membrane inside ∷ xs) x k w i = rule_from s q rules xs x k w.1 i
  rule_from s q rules (Rest of false inside ∷ xs) x k w i = rule_from s q rules xs x k w.1 i
  rule_from s q rules (Rest of true inside ∷ xs) x k w i = elim (in_either k (given rules (copied_into s of inside (q 0)) (s.left_membranes of) x) (added_rules s (later q) rules xs x) i) [
    | inl a ↦ (let u = in_given rules (copied_into s of inside (q 0)) (s.left_membranes of) x k a in inl (u.0, u.3))
    | inr a ↦ rule_from s (later q) rules xs x k w.1 a
  ]
  rule_from s q rules (Rule j inside ∷ xs) x k w i = elim (in_either k (if_inside s x inside (j ∷ [])) (added_rules s q rules xs x) i) [
    | inl a ↦ elim (in_if s x inside (j ∷ []) k a) [ inl e ↦ inr (subst P e w.0) | inr b ↦ absurd b ]
    | inr a ↦ rule_from s q rules xs x k w.1 a
  ]
  rule_from s q rules (Rules of inside ∷ xs) x k w i = elim (in_either k (if_inside s x inside (rules (at s of))) (added_rules s q rules xs x) i) [
    | inl a ↦ inl (at s of, in_if s x inside (rules (at s of)) k a)
    | inr a ↦ rule_from s q rules xs x k w.1 a
  ]

-- ---- after a firing

ruled_mem : (h : Heap) (x k : ℕ) → In k (rules_in h x) → IsMem h x
ruled_mem h x k i = by (h.mems x) i
  where
    by : (o : Option HeapMem) → In k (rules_by o) → IsSome o
    by None i = absurd i
    by (Some y) i = refl

module _ (h h' : Heap) (v : Valid h) (v' : Valid h') (c : Port → ℕ) (s : Registers) (items : List HeadItem) (body : List BodyItem) (m : ℕ) (parts : List ℕ) (hs : Held h v items body m s parts) (f : FiresWithin h c s items body (images_of s items ++ parts) h') where
  -- each rule of a membrane stood in one before, or is written in the body
  pub rules_kept : (P : ℕ → Type 0) → AllWritten P body → (t : Forest) → IsTree h' t → (In h'.root (removed_mems s items) → ⊥) → (x k : ℕ) → In k (rules_in h' x) → ((y : ℕ) × In k (rules_in h y)) ⊎ P k
  rules_kept P w t tr o x k i =
      let outside = none_removed h h' v v' c s items body m parts hs f t (h'.root ∷ []) tr.forms (λ z j. elim j [ inl q ↦ subst (λ w. In w (removed_mems s items) → ⊥) q o | inr w ↦ absurd w ]) x (tr.all x (ruled_mem h' x k i)) in
      elim (in_either k (rules_in h x) (added_rules s f.rests (rules_in h) body x) (subst (In k) (f.rules x outside) i)) [
        | inl a ↦ inl (x, a)
        | inr a ↦ rule_from P s f.rests (rules_in h) body x k w a
      ]
