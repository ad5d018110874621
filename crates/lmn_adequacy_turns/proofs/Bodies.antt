-- What a level of a body makes of its membrane is what the calculus says.
use Rattle.std.proofs.Common.{ℕ, ℤ, zero, suc, ◌≡◌, ◌≢◌, ◌⊎◌, ◌==◌, ◌+◌, inl, inr, Bool, true, false, List, [], ◌∷◌, ◌++◌, map, length, Option, Some, None, refl, sym, ap, subst, ◌∙◌, arith}
use Rattle.std.proofs.lemmas.List.{map-append, length-map}
use Rattle.lmn_base.specs.declared.functor.Functor.{Functor}
use Rattle.lmn_base.specs.declared.functor.Label.{Label}
use Rattle.lmn_base.specs.declared.functor.Label.TheVariants as label
use Rattle.lmn_base.specs.declared.level.CtxUse.{CtxUse}
use Rattle.lmn_base.specs.declared.level.Leaf.{Leaf}
use Rattle.lmn_base.specs.declared.level.Leaf.TheVariants as leaf
use Rattle.lmn_base.specs.declared.solid.SolidAtom.{SolidAtom}
use Rattle.lmn_base.specs.Solids.{connector}
use Rattle.lmn_store_heap.specs.Functors.{same_functor}
use Rattle.lmn_store_heap.specs.Heap.{Heap, rules_in}
use Rattle.lmn_congruence.specs.Orders.{Among, at_head, further, none, more, here}
use Rattle.lmn_congruence.specs.Plains.{fused_leaves, fused_levels}
use Rattle.lmn_congruence.specs.Regions as region
use Rattle.lmn_congruence.specs.Rules as tree
use Rattle.lmn_congruence.specs.Same.{renamed_atom, renamed_regions}
use Rattle.lmn_congruence.specs.Translation.{context_tree, context_with, name_of, names_of, atom_or_connector, label_of, leaf_of, levels, solid_atom_of}
use Rattle.lmn_reduction.specs.Parts.{Rooted, IsInteger, an_integer}
use Rattle.lmn_adequacy.specs.Embedding.{IsPart, Contents}
use Rattle.lmn_adequacy.specs.Next.{DepthFirst, reaches_listed, reaches_new, reaches_none, part_leaves, kept_atoms, kept_membranes, context_rules, links_at}
use Rattle.lmn_congruence.specs.Links.{places}
use Rattle.lmn_congruence.proofs.Counts.{none_if_apart, one_if_equal}
use Rattle.lmn_solid_heads.proofs.HeadTrees.{Head, Heads, head, no_head, head_and, size}
use Rattle.lmn_adequacy_heaps.specs.HeapRegions.{HeapReading}
use Rattle.lmn_solid_bodies.specs.declared.items.BodyItem.{BodyItem}
use Rattle.lmn_solid_bodies.specs.declared.items.BodyItem.TheVariants.{Atom, Connector, Rest}
use Rattle.lmn_solid_bodies.specs.Flattening.{BodyNames, atom_item, typed_item, body_leaf_items, context_items, body_rule_items, rule_context_items}
use Rattle.lmn_solid_bodies.specs.Running.{Registers, integer_functor}
use Rattle.lmn_solid_bodies.specs.RestCopies.{RestCopy, RestCopies}
use Rattle.std.specs.Prelude.{◌&&◌}
use Rattle.lmn_adequacy_turns.specs.Standing.{StandAs, none_stands}
use Rattle.lmn_adequacy_turns.proofs.Standings.{stand_both}
use Rattle.lmn_adequacy_turns.proofs.Adders.{at, here_is, rest_copy, rest_mems, rest_rules, solid_adds, mems_adds, rules_adds}
use Rattle.lmn_adequacy_turns.proofs.CopyLinks.{Block, code, code_apart}
use Rattle.lmn_adequacy_turns.proofs.OwnLinks.{OwnContexts, own_no_context, own_open, own_closed, OwnLeaves, own_none, own_atom, own_connector, own_integer, own_copy}
use Rattle.lmn_adequacy_turns.proofs.Locals.{next_copy, after_leaves, after_level, next_closed, closed_after, closed_after_levels, closed_after_level}
use Rattle.lmn_congruence_splice.specs.Splice.{of_rule, of_solid}
use Rattle.lmn_base.proofs.Lists.{map_twice}
use Rattle.lmn_base.proofs.Numbers.{not_equal as not_eq, same_or_not}

-- ---- lists of leaves

-- leaves of two lists are fused one list after the other
pub fused_both : (to : ℕ → ℕ) (xs ys : List tree.Leaf) → fused_leaves to (xs ++ ys) ≡ fused_leaves to xs ++ fused_leaves to ys
fused_both to [] ys = refl
fused_both to (tree.atom_leaf a zs ∷ xs) ys = ap (λ l. record { label = a; links = map to zs } ∷ l) (fused_both to xs ys)
fused_both to (tree.connector_leaf a b ∷ xs) ys = fused_both to xs ys
fused_both to (tree.typed_leaf p x ∷ xs) ys = fused_both to xs ys

-- atoms that stay are fused to those of the solid
pub fused_kept : (to : ℕ → ℕ) (xs : List region.SolidAtom) → fused_leaves to (kept_atoms xs) ≡ map (renamed_atom (λ z. to (of_solid z))) xs
fused_kept to [] = refl
fused_kept to (x ∷ xs) = λ i. record { label = x.label; links = map_twice to of_solid x.links i } ∷ fused_kept to xs i

-- an atom of a body is read as it is made: as a connector or as an atom
pub leaf_cases : (names : List tree.Name) (f : Functor) (ys : List ℕ) (inside : ℕ) → length ys ≡ f.arity →
    ((x : ℕ) × (y : ℕ) × (atom_or_connector names f.label ys ≡ tree.connector_leaf x y) × (atom_item (same_functor f connector) f ys inside ≡ Connector x y))
    ⊎ ((atom_or_connector names f.label ys ≡ tree.atom_leaf (label_of names f.label) ys) × (atom_item (same_functor f connector) f ys inside ≡ Atom f ys inside))
leaf_cases names f ys inside e = by f.label f.arity ys e
  where
    short : (b : Bool) (g : Functor) (zs : List ℕ) → length zs ≢ 2 → atom_item b g zs inside ≡ Atom g zs inside
    short true g [] d = refl
    short true g (a ∷ []) d = refl
    short true g (a ∷ (b ∷ [])) d = absurd (d refl)
    short true g (a ∷ (b ∷ (c ∷ zs))) d = refl
    short false g zs d = refl

    by : (l : Label) (n : ℕ) (ys : List ℕ) → length ys ≡ n →
        ((x : ℕ) × (y : ℕ) × (atom_or_connector names l ys ≡ tree.connector_leaf x y) × (atom_item (same_functor (record { label = l; arity = n }) connector) (record { label = l; arity = n }) ys inside ≡ Connector x y))
        ⊎ ((atom_or_connector names l ys ≡ tree.atom_leaf (label_of names l) ys) × (atom_item (same_functor (record { label = l; arity = n }) connector) (record { label = l; arity = n }) ys inside ≡ Atom (record { label = l; arity = n }) ys inside))
    by (label.Name zero) n [] e = inr (refl, short _ _ [] (λ q. omega (arith, q)))
    by (label.Name zero) n (a ∷ []) e = inr (refl, short _ _ (a ∷ []) (λ q. omega (arith, q)))
    by (label.Name zero) n (a ∷ (b ∷ [])) e = inl (a, b, refl, subst (λ k. atom_item (same_functor (record { label = label.Name 0; arity = k }) connector) (record { label = label.Name 0; arity = k }) (a ∷ (b ∷ [])) inside ≡ Connector a b) e refl)
    by (label.Name zero) n (a ∷ (b ∷ (c ∷ ys))) e = inr (refl, short _ _ (a ∷ (b ∷ (c ∷ ys))) (λ q. omega (arith, q)))
    by (label.Name (suc k)) n ys e = inr (refl, ap (λ b. atom_item (b && (n == 2)) (record { label = label.Name (suc k); arity = n }) ys inside) (not_eq (suc k) 0 (λ q. omega (arith, q))))
    by (label.Int z) n ys e = inr (refl, refl)

-- leaves of a part are fused to its atoms
pub fused_made : (to : ℕ → ℕ) (xs : List region.SolidAtom) → fused_leaves to (part_leaves xs) ≡ map (renamed_atom to) xs
fused_made to [] = refl
fused_made to (x ∷ xs) = ap (λ ys. renamed_atom to x ∷ ys) (fused_made to xs)

-- a leaf of a body that is no typed context, with its links in a raw level
abbrev pub placed_leaf : tree.Leaf → tree.Leaf
placed_leaf (tree.atom_leaf a ys) = tree.atom_leaf a (map of_rule ys)
placed_leaf (tree.connector_leaf x y) = tree.connector_leaf (of_rule x) (of_rule y)
placed_leaf (tree.typed_leaf p x) = tree.typed_leaf p x

-- the part that an integer stands for is one atom
abbrev pub integer_atom : ℤ → ℕ → region.SolidAtom
integer_atom z x = record { label = tree.integer z; links = of_rule x ∷ [] }

-- an integer atom is the part of its context
pub integer_part : (z : ℤ) (g : Rooted) (x : ℕ) → IsInteger z g → IsPart g (of_rule x) (integer_atom z x ∷ [])
integer_part z g x (an_integer {x = y}) = record {
  only_atoms = tt;
  to = λ u. of_rule x;
  one_to_one = λ a b d e q. one a d ∙ sym (one b e);
  root = refl;
  atoms = more refl none here;
}
  where
    one : (a : ℕ) → places a (y ∷ []) ≢ 0 → a ≡ y
    one a d = elim (same_or_not a y) [
      | inl e ↦ e
      | inr n ↦ absurd (d (omega (arith, none_if_apart a y n)))
    ]

among_one : {x y : ℕ} → Among y (x ∷ []) → y ≡ x
among_one at_head = refl
among_one (further w) = elim w [ ]

-- and listed depth first
pub integer_first : (z : ℤ) (x : ℕ) → DepthFirst (of_rule x) (integer_atom z x ∷ [])
integer_first z x =
    let one = one_if_equal (of_rule x) (of_rule x) refl in
    reaches_new {bs = []} {cs = []} (omega (arith, one)) at_head (reaches_listed (omega (arith, one)) reaches_none) reaches_none

module _ (h h' : Heap) (r r' : HeapReading) (s : Registers) (bn : BodyNames) (c : Contents) (left : ℕ → List SolidAtom) (left_mems : ℕ → List ℕ) (to : ℕ → ℕ) (limit : ℕ) (copy : ℕ → List SolidAtom) (part : ℕ → ℕ → List region.SolidAtom) (q : RestCopies) (rest : ℕ → ℕ → RestCopy → ℕ → List SolidAtom) where
  abbrev names : List tree.Name
  names = r.names

  -- the atoms that items add, the next copies with their numbers
  abbrev solid : ℕ → ℕ → List BodyItem → ℕ → List region.SolidAtom
  solid count k xs x = map (solid_atom_of r.names) (solid_adds s q left copy rest (λ z. to (of_rule z)) count k xs x)

  -- ---- what is asked of the contents

  -- Raw atoms stand for copy number k of what a name stands for, at a link x of the rule.
  --   is, order   they are such a part, depth first
  --   own         their links are that of the rule, and links of this copy alone
  --   atoms       and with each link at its image they are the atoms of the copy
  pub record CopyAgrees (k n x : ℕ) : Type 0 where
    pub is : IsPart (c.typed_of (name_of r.names n)) (of_rule x) (part k x)
    pub order : DepthFirst (of_rule x) (part k x)
    pub own : (z : ℕ) → Among z (links_at (part k x)) → (z ≡ of_rule x) ⊎ ((L : ℕ) × (z ≡ of_solid L) × Block limit (of_rule k) L)
    pub atoms : map (renamed_atom to) (part k x) ≡ map (solid_atom_of r.names) (copy k)

  -- a typed context of the head is copied; a name that the guard binds stands for its integer
  abbrev pub TypedAgrees : Option ℕ → ℕ → ℕ → ℕ → Type 0
  TypedAgrees (Some g) k n x = CopyAgrees k n x
  TypedAgrees None k n x = IsInteger (s.head.integer (bn.integer n)) (c.typed_of (name_of r.names n))

  -- and an atom fits its arity
  abbrev pub LeavesAgree : ℕ → List Leaf → Type 0
  LeavesAgree k [] = Unit {0}
  LeavesAgree k (leaf.Atom f os p ∷ ls) = (length os ≡ f.arity) × LeavesAgree k ls
  LeavesAgree k (leaf.Typed n o p ∷ ls) = TypedAgrees (bn.part n) k n o.link × LeavesAgree (next_copy (bn.part n) k) ls

  -- an open context stands for what is left of its membrane
  pub record ContextAgrees (u : CtxUse) : Type 0 where
    pub atoms : map (renamed_atom (λ z. to (of_solid z))) (c.atoms_of (tree.open_context (name_of r.names u.name))) ≡ map (solid_atom_of r.names) (left (at s (bn.context u.name)))
    pub membranes : StandAs h' r' (left_mems (at s (bn.context u.name))) (fused_levels to (levels (kept_membranes (c.membranes_of (tree.open_context (name_of r.names u.name))))))

  -- Copy number `count` of what a closed context stands for, which goes to the membrane of a register, is with each link at its image what
  -- the body adds there: atoms, membranes with what stands in them, and no rule.
  pub record CopiedAgrees (count inside : ℕ) (u : CtxUse) : Type 0 where
    pub atoms : map (renamed_atom (λ z. to (of_solid z))) (map (renamed_atom (λ y. limit + code (of_solid count) y)) (c.atoms_of (tree.closed_context (name_of r.names u.name))))
        ≡ map (solid_atom_of r.names) (rest (bn.context u.name) inside (rest_copy q count) (at s inside))
    pub membranes : StandAs h' r' (rest_mems s left_mems (bn.context u.name) inside (rest_copy q count) (at s inside))
        (fused_levels to (levels (kept_membranes (renamed_regions (λ y. limit + code (of_solid count) y) (c.membranes_of (tree.closed_context (name_of r.names u.name)))))))
    pub rules : rest_rules s (rules_in h) (bn.context u.name) inside (rest_copy q count) (at s inside) ≡ []

  -- an untyped context, by its form
  abbrev pub AgreesAs : Bool → ℕ → ℕ → CtxUse → Type 0
  AgreesAs true count inside u = CopiedAgrees count inside u
  AgreesAs false count inside u = ContextAgrees u

  abbrev pub ContextsAgree : ℕ → ℕ → List CtxUse → Type 0
  ContextsAgree count inside [] = Unit {0}
  ContextsAgree count inside (u ∷ us) = AgreesAs u.closed count inside u × ContextsAgree (next_closed u.closed count) inside us

  abbrev pub RuleContextsAgree : List CtxUse → Type 0
  RuleContextsAgree [] = Unit {0}
  RuleContextsAgree (u ∷ us) = (c.rules_of (name_of r.names u.name) ≡ map r.rule (rules_in h (at s (bn.rule_context u.name)))) × RuleContextsAgree us

  -- a level, the next copies with their numbers, of the first membrane in it the register `next`
  abbrev mutual
    pub BodyAgrees : ℕ → ℕ → ℕ → ℕ → Head → Type 0
    BodyAgrees inside next k count (head leaves hs cs rcs rs) = LeavesAgree k leaves × ContextsAgree (closed_after_levels count hs) inside cs × RuleContextsAgree rcs × BodiesAgree next (after_leaves bn k leaves) count hs

    pub BodiesAgree : ℕ → ℕ → ℕ → Heads → Type 0
    BodiesAgree next k count no_head = Unit {0}
    BodiesAgree next k count (head_and h hs) = BodyAgrees next (next + 1) k count h × BodiesAgree (next + 1 + size h) (after_level bn k h) (closed_after_level count h) hs

  -- ---- leaves

  -- what a typed context makes, and what leaves make
  abbrev pub typed_made : Option ℕ → ℕ → ℕ → ℕ → List tree.Leaf
  typed_made (Some g) k i x = part_leaves (part k x)
  typed_made None k i x = part_leaves (integer_atom (s.head.integer i) x ∷ [])

  abbrev pub leaves_made : ℕ → List Leaf → List tree.Leaf
  leaves_made k [] = []
  leaves_made k (leaf.Atom f os p ∷ ls) = placed_leaf (leaf_of r.names (leaf.Atom f os p)) ∷ leaves_made k ls
  leaves_made k (leaf.Typed n o p ∷ ls) = typed_made (bn.part n) k (bn.integer n) o.link ++ leaves_made (next_copy (bn.part n) k) ls

  -- it is what the calculus says
  typed_makes : (o : Option ℕ) (k j n x : ℕ) {ls outs : List tree.Leaf} → TypedAgrees o k n x → OwnLeaves c (Block limit) (next_copy o k) j ls outs →
      OwnLeaves c (Block limit) k j (tree.typed_leaf (name_of r.names n) x ∷ ls) (typed_made o k (bn.integer n) x ++ outs)
  typed_makes (Some g) k j n x a d = own_copy a.is a.order a.own d
  typed_makes None k j n x a d =
      let z = s.head.integer (bn.integer n) in
      own_integer {part = integer_atom z x ∷ []} (integer_part z (c.typed_of (name_of r.names n)) x a) (integer_first z x) (λ y w. among_one w) d

  pub leaves_make : (inside k : ℕ) (ls : List Leaf) → LeavesAgree k ls → OwnLeaves c (Block limit) k (after_leaves bn k ls) (map (leaf_of r.names) ls) (leaves_made k ls)
  leaves_make inside k [] a = own_none
  leaves_make inside k (leaf.Atom f os p ∷ ls) a =
      let rest = leaves_make inside k ls a.1 in
      elim (leaf_cases r.names f (map (λ o. o.link) os) inside (length-map os (λ o. o.link) ∙ a.0)) [
        | inl e ↦ subst (λ l. OwnLeaves c (Block limit) k (after_leaves bn k ls) (l ∷ map (leaf_of r.names) ls) (placed_leaf l ∷ leaves_made k ls)) (sym e.2) (own_connector rest)
        | inr e ↦ subst (λ l. OwnLeaves c (Block limit) k (after_leaves bn k ls) (l ∷ map (leaf_of r.names) ls) (placed_leaf l ∷ leaves_made k ls)) (sym e.0) (own_atom rest)
      ]
  leaves_make inside k (leaf.Typed n o p ∷ ls) a = typed_makes (bn.part n) k (after_leaves bn (next_copy (bn.part n) k) ls) n o.link a.0 (leaves_make inside (next_copy (bn.part n) k) ls a.1)

  -- and what the items add
  typed_atoms : (count inside : ℕ) (o : Option ℕ) (k n x : ℕ) (xs : List BodyItem) → TypedAgrees o k n x →
      fused_leaves to (typed_made o k (bn.integer n) x) ++ map (solid_atom_of r.names) (solid_adds s q left copy rest (λ z. to (of_rule z)) count (next_copy o k) xs (at s inside))
      ≡ map (solid_atom_of r.names) (solid_adds s q left copy rest (λ z. to (of_rule z)) count k (typed_item o (bn.integer n) x inside ∷ xs) (at s inside))
  typed_atoms count inside (Some g) k n x xs a =
      let rest = solid_adds s q left copy rest (λ z. to (of_rule z)) count (k + 1) xs (at s inside) in
      ap (λ ys. ys ++ map (solid_atom_of r.names) rest) (fused_made to (part k x) ∙ a.atoms)
      ∙ sym (map-append (solid_atom_of r.names) (copy k) rest)
      ∙ ap (map (solid_atom_of r.names)) (sym (here_is (at s inside) (copy k) rest))
  typed_atoms count inside None k n x xs a =
      let atom : SolidAtom = record { functor = integer_functor (s.head.integer (bn.integer n)); links = to (of_rule x) ∷ [] } in
      ap (map (solid_atom_of r.names)) (sym (here_is (at s inside) (atom ∷ []) (solid_adds s q left copy rest (λ z. to (of_rule z)) count k xs (at s inside))))

  pub leaf_atoms : (count inside k : ℕ) (ls : List Leaf) → LeavesAgree k ls →
      fused_leaves to (leaves_made k ls) ≡ map (solid_atom_of r.names) (solid_adds s q left copy rest (λ z. to (of_rule z)) count k (body_leaf_items bn inside ls) (at s inside))
  leaf_atoms count inside k [] a = refl
  leaf_atoms count inside k (leaf.Atom f os p ∷ ls) a = elim (leaf_cases r.names f (map (λ o. o.link) os) inside (length-map os (λ o. o.link) ∙ a.0)) [
    | inl e ↦ ap (λ l. fused_leaves to (placed_leaf l ∷ leaves_made k ls)) e.2 ∙ leaf_atoms count inside k ls a.1 ∙ ap (λ (i : BodyItem). solid count k (i ∷ body_leaf_items bn inside ls) (at s inside)) (sym e.3)
    | inr e ↦ (let ys = map (λ o. o.link) os in
        let one : record { label = label_of r.names f.label; links = map to (map of_rule ys) } ≡ solid_atom_of r.names (record { functor = f; links = map (λ z. to (of_rule z)) ys }) =
        λ i. record { label = label_of r.names f.label; links = map_twice to of_rule ys i } in
        ap (λ l. fused_leaves to (placed_leaf l ∷ leaves_made k ls)) e.0 ∙ (λ i. one i ∷ leaf_atoms count inside k ls a.1 i)
        ∙ ap (map (solid_atom_of r.names)) (sym (here_is (at s inside) ((record { functor = f; links = map (λ z. to (of_rule z)) ys }) ∷ []) (solid_adds s q left copy rest (λ z. to (of_rule z)) count k (body_leaf_items bn inside ls) (at s inside))))
        ∙ ap (λ (i : BodyItem). solid count k (i ∷ body_leaf_items bn inside ls) (at s inside)) (sym e.1))
  ]
  leaf_atoms count inside k (leaf.Typed n o p ∷ ls) a =
      fused_both to (typed_made (bn.part n) k (bn.integer n) o.link) (leaves_made (next_copy (bn.part n) k) ls)
      ∙ ap (λ ys. fused_leaves to (typed_made (bn.part n) k (bn.integer n) o.link) ++ ys) (leaf_atoms count inside (next_copy (bn.part n) k) ls a.1)
      ∙ typed_atoms count inside (bn.part n) k n o.link (body_leaf_items bn inside ls) a.0

  -- leaves add no membranes and no rules
  atom_item_adds : (count : ℕ) (b : Bool) (f : Functor) (ys : List ℕ) (inside n x : ℕ) (xs : List BodyItem) →
      (mems_adds s q left_mems count n (atom_item b f ys inside ∷ xs) x ≡ mems_adds s q left_mems count n xs x) × (rules_adds s q (rules_in h) count (atom_item b f ys inside ∷ xs) x ≡ rules_adds s q (rules_in h) count xs x)
  atom_item_adds count true f [] inside n x xs = (refl, refl)
  atom_item_adds count true f (a ∷ []) inside n x xs = (refl, refl)
  atom_item_adds count true f (a ∷ (b ∷ [])) inside n x xs = (refl, refl)
  atom_item_adds count true f (a ∷ (b ∷ (c ∷ ys))) inside n x xs = (refl, refl)
  atom_item_adds count false f ys inside n x xs = (refl, refl)

  typed_item_adds : (count : ℕ) (o : Option ℕ) (i y inside n x : ℕ) (xs : List BodyItem) →
      (mems_adds s q left_mems count n (typed_item o i y inside ∷ xs) x ≡ mems_adds s q left_mems count n xs x) × (rules_adds s q (rules_in h) count (typed_item o i y inside ∷ xs) x ≡ rules_adds s q (rules_in h) count xs x)
  typed_item_adds count (Some g) i y inside n x xs = (refl, refl)
  typed_item_adds count None i y inside n x xs = (refl, refl)

  pub leaf_adds : (count inside n x : ℕ) (ls : List Leaf) → (mems_adds s q left_mems count n (body_leaf_items bn inside ls) x ≡ []) × (rules_adds s q (rules_in h) count (body_leaf_items bn inside ls) x ≡ [])
  leaf_adds count inside n x [] = (refl, refl)
  leaf_adds count inside n x (leaf.Atom f os p ∷ ls) =
      let a = atom_item_adds count (same_functor f connector) f (map (λ o. o.link) os) inside n x (body_leaf_items bn inside ls) in
      let b = leaf_adds count inside n x ls in
      (a.0 ∙ b.0, a.1 ∙ b.1)
  leaf_adds count inside n x (leaf.Typed m o p ∷ ls) =
      let a = typed_item_adds count (bn.part m) (bn.integer m) o.link inside n x (body_leaf_items bn inside ls) in
      let b = leaf_adds count inside n x ls in
      (a.0 ∙ b.0, a.1 ∙ b.1)

  -- ---- contexts and rules

  -- what an untyped context makes, by its form, and what contexts make
  abbrev pub context_atoms : Bool → ℕ → tree.Name → List region.SolidAtom
  context_atoms true count p = map (renamed_atom (λ y. limit + code (of_solid count) y)) (c.atoms_of (tree.closed_context p))
  context_atoms false count p = c.atoms_of (tree.open_context p)

  abbrev pub contexts_atoms : ℕ → List CtxUse → List region.SolidAtom
  contexts_atoms count [] = []
  contexts_atoms count (u ∷ us) = context_atoms u.closed count (name_of r.names u.name) ++ contexts_atoms (next_closed u.closed count) us

  abbrev pub context_regions : Bool → ℕ → tree.Name → region.Regions
  context_regions true count p = renamed_regions (λ y. limit + code (of_solid count) y) (c.membranes_of (tree.closed_context p))
  context_regions false count p = c.membranes_of (tree.open_context p)

  abbrev pub contexts_membranes : ℕ → List CtxUse → List tree.Level
  contexts_membranes count [] = []
  contexts_membranes count (u ∷ us) = kept_membranes (context_regions u.closed count (name_of r.names u.name)) ++ contexts_membranes (next_closed u.closed count) us

  -- it is what the calculus says
  pub contexts_make : (count : ℕ) (us : List CtxUse) → OwnContexts c (Block limit) count (closed_after count us) (map (context_tree r.names) us) (contexts_atoms count us) (contexts_membranes count us)
  contexts_make count [] = own_no_context
  contexts_make count (u ∷ us) = by u.closed (contexts_make (next_closed u.closed count) us)
    where
      p : tree.Name
      p = name_of r.names u.name

      by : (b : Bool) → OwnContexts c (Block limit) (next_closed b count) (closed_after (next_closed b count) us) (map (context_tree r.names) us) (contexts_atoms (next_closed b count) us) (contexts_membranes (next_closed b count) us)
          → OwnContexts c (Block limit) count (closed_after (next_closed b count) us) (context_with b (name_of r.names u.name) ∷ map (context_tree r.names) us) (context_atoms b count (name_of r.names u.name) ++ contexts_atoms (next_closed b count) us) (kept_membranes (context_regions b count (name_of r.names u.name)) ++ contexts_membranes (next_closed b count) us)
      by true w = own_closed (λ y. limit + code (of_solid count) y) (λ y z e. (code_apart (of_solid count) y (of_solid count) z (omega (arith, e))).1) (λ y. (y, refl)) w
      by false w = own_open w

  -- and what the items add: the atoms of a context
  context_adds : (b : Bool) (count inside k : ℕ) (u : CtxUse) (xs : List BodyItem) → AgreesAs b count inside u →
      map (renamed_atom (λ z. to (of_solid z))) (context_atoms b count (name_of r.names u.name)) ++ map (solid_atom_of r.names) (solid_adds s q left copy rest (λ z. to (of_rule z)) (next_closed b count) k xs (at s inside))
      ≡ map (solid_atom_of r.names) (solid_adds s q left copy rest (λ z. to (of_rule z)) count k (Rest (bn.context u.name) b inside ∷ xs) (at s inside))
  context_adds true count inside k u xs a =
      let mine = rest (bn.context u.name) inside (rest_copy q count) (at s inside) in
      let others = solid_adds s q left copy rest (λ z. to (of_rule z)) (suc count) k xs (at s inside) in
      ap (λ ys. ys ++ map (solid_atom_of r.names) others) a.atoms ∙ sym (map-append (solid_atom_of r.names) mine others)
  context_adds false count inside k u xs a =
      let mine = left (at s (bn.context u.name)) in
      let others = solid_adds s q left copy rest (λ z. to (of_rule z)) count k xs (at s inside) in
      ap (λ ys. ys ++ map (solid_atom_of r.names) others) a.atoms ∙ sym (map-append (solid_atom_of r.names) mine others) ∙ ap (map (solid_atom_of r.names)) (sym (here_is (at s inside) mine others))

  pub context_atoms_are : (inside k count : ℕ) (us : List CtxUse) → ContextsAgree count inside us →
      fused_leaves to (kept_atoms (contexts_atoms count us)) ≡ map (solid_atom_of r.names) (solid_adds s q left copy rest (λ z. to (of_rule z)) count k (context_items bn inside us) (at s inside))
  context_atoms_are inside k count us a = fused_kept to (contexts_atoms count us) ∙ by count us a
    where
      by : (count : ℕ) (us : List CtxUse) → ContextsAgree count inside us → map (renamed_atom (λ z. to (of_solid z))) (contexts_atoms count us) ≡ map (solid_atom_of r.names) (solid_adds s q left copy rest (λ z. to (of_rule z)) count k (context_items bn inside us) (at s inside))
      by count [] a = refl
      by count (u ∷ us) a =
          let f = renamed_atom (λ z. to (of_solid z)) in
          map-append f (context_atoms u.closed count (name_of r.names u.name)) (contexts_atoms (next_closed u.closed count) us)
          ∙ ap (λ ys. map f (context_atoms u.closed count (name_of r.names u.name)) ++ ys) (by (next_closed u.closed count) us a.1)
          ∙ context_adds u.closed count inside k u (context_items bn inside us) a.0

  -- its membranes
  context_stands : (b : Bool) (count inside n : ℕ) (u : CtxUse) (xs : List BodyItem) (others : List tree.Level) → AgreesAs b count inside u →
      StandAs h' r' (mems_adds s q left_mems (next_closed b count) n xs (at s inside)) (fused_levels to (levels others)) →
      StandAs h' r' (mems_adds s q left_mems count n (Rest (bn.context u.name) b inside ∷ xs) (at s inside)) (fused_levels to (levels (kept_membranes (context_regions b count (name_of r.names u.name)) ++ others)))
  context_stands true count inside n u xs others a t =
      stand_both h' r' to (rest_mems s left_mems (bn.context u.name) inside (rest_copy q count) (at s inside)) (mems_adds s q left_mems (suc count) n xs (at s inside)) (kept_membranes (context_regions true count (name_of r.names u.name))) others a.membranes t
  context_stands false count inside n u xs others a t =
      let mine = left_mems (at s (bn.context u.name)) in
      let behind = mems_adds s q left_mems count n xs (at s inside) in
      let p = name_of r.names u.name in
      subst (λ xs. StandAs h' r' xs (fused_levels to (levels (kept_membranes (c.membranes_of (tree.open_context p)) ++ others)))) (sym (here_is (at s inside) mine behind))
      (stand_both h' r' to mine behind (kept_membranes (c.membranes_of (tree.open_context p))) others a.membranes t)

  pub context_membranes_stand : (inside n count : ℕ) (us : List CtxUse) → ContextsAgree count inside us → StandAs h' r' (mems_adds s q left_mems count n (context_items bn inside us) (at s inside)) (fused_levels to (levels (contexts_membranes count us)))
  context_membranes_stand inside n count [] a = none_stands
  context_membranes_stand inside n count (u ∷ us) a =
      context_stands u.closed count inside n u (context_items bn inside us) (contexts_membranes (next_closed u.closed count) us) a.0 (context_membranes_stand inside n (next_closed u.closed count) us a.1)

  -- and no rule
  context_no_rule : (b : Bool) (count inside : ℕ) (u : CtxUse) (xs : List BodyItem) → AgreesAs b count inside u →
      rules_adds s q (rules_in h) count (Rest (bn.context u.name) b inside ∷ xs) (at s inside) ≡ rules_adds s q (rules_in h) (next_closed b count) xs (at s inside)
  context_no_rule true count inside u xs a = ap (λ z. z ++ rules_adds s q (rules_in h) (suc count) xs (at s inside)) a.rules
  context_no_rule false count inside u xs a = refl

  pub contexts_no_rules : (inside count : ℕ) (us : List CtxUse) → ContextsAgree count inside us → rules_adds s q (rules_in h) count (context_items bn inside us) (at s inside) ≡ []
  contexts_no_rules inside count [] a = refl
  contexts_no_rules inside count (u ∷ us) a = context_no_rule u.closed count inside u (context_items bn inside us) a.0 ∙ contexts_no_rules inside (next_closed u.closed count) us a.1

  pub rules_alone : (count inside n k x : ℕ) (ks : List ℕ) → (solid_adds s q left copy rest (λ z. to (of_rule z)) count k (body_rule_items inside ks) x ≡ []) × (mems_adds s q left_mems count n (body_rule_items inside ks) x ≡ [])
  rules_alone count inside n k x [] = (refl, refl)
  rules_alone count inside n k x (j ∷ ks) = rules_alone count inside n k x ks

  pub rule_contexts_alone : (count inside n k x : ℕ) (us : List CtxUse) → (solid_adds s q left copy rest (λ z. to (of_rule z)) count k (rule_context_items bn inside us) x ≡ []) × (mems_adds s q left_mems count n (rule_context_items bn inside us) x ≡ [])
  rule_contexts_alone count inside n k x [] = (refl, refl)
  rule_contexts_alone count inside n k x (u ∷ us) = rule_contexts_alone count inside n k x us

  pub rules_are : (count inside : ℕ) (ks : List ℕ) → map r.rule ks ≡ map r.rule (rules_adds s q (rules_in h) count (body_rule_items inside ks) (at s inside))
  rules_are count inside [] = refl
  rules_are count inside (k ∷ ks) =
      ap (λ z. r.rule k ∷ z) (rules_are count inside ks) ∙ ap (map r.rule) (sym (here_is (at s inside) (k ∷ []) (rules_adds s q (rules_in h) count (body_rule_items inside ks) (at s inside))))

  pub rule_contexts_are : (count inside : ℕ) (us : List CtxUse) → RuleContextsAgree us → context_rules c (names_of r.names us) ≡ map r.rule (rules_adds s q (rules_in h) count (rule_context_items bn inside us) (at s inside))
  rule_contexts_are count inside [] a = refl
  rule_contexts_are count inside (u ∷ us) a =
      let mine = rules_in h (at s (bn.rule_context u.name)) in
      let rest = rules_adds s q (rules_in h) count (rule_context_items bn inside us) (at s inside) in
      (λ i. a.0 i ++ rule_contexts_are count inside us a.1 i) ∙ sym (map-append r.rule mine rest) ∙ ap (map r.rule) (sym (here_is (at s inside) mine rest))
