-- The names in the code of a head are those of its atoms.
use Rattle.std.proofs.Common.{ℕ, ◌+◌, List, [], ◌∷◌, ◌++◌, take, Option, Some, None}
use Rattle.std.specs.Prelude.{Bool, true, false, ◌==◌, ◌&&◌, if◌then◌else◌}
use Rattle.std.specs.List.{AllByRecursion}
use Rattle.lmn_base.specs.declared.guard.Arith.{Arith}
use Rattle.lmn_base.specs.declared.guard.Arith.TheVariants as op
use Rattle.lmn_base.specs.declared.guard.Cmp.{Cmp}
use Rattle.lmn_base.specs.declared.guard.Cmp.TheVariants as cmp
use Rattle.lmn_base.specs.declared.guard.Expr.{Expr}
use Rattle.lmn_base.specs.declared.guard.Expr.TheVariants as expr
use Rattle.lmn_base.specs.declared.guard.Cond.{Cond}
use Rattle.lmn_base.specs.declared.guard.Cond.TheVariants.{Kind, Compare, Equal, Differ}
use Rattle.lmn_store_heap.specs.Functors.{same_functor}
use Rattle.lmn_guards.specs.declared.plan.TypeKind.{TypeKind}
use Rattle.lmn_guards.specs.declared.plan.TypeKind.TheVariants as kind
use Rattle.lmn_solid_heads.specs.declared.items.HeadItem.{HeadItem}
use Rattle.lmn_solid_heads.specs.declared.items.HeadItem.TheVariants.{Atom, Typed, Membrane}
use Rattle.lmn_solid_heads.specs.Heads.{HeadAtom, HeadTyped, HeadMembrane, atoms_of, typed_contexts_of, membranes_of, at_atoms, links_of_head, times, outermost}
use Rattle.lmn_solid_heads.specs.Guards.{typed_number, context_alone}
use Rattle.lmn_instr_code.specs.declared.instr.AtomPort.{AtomPort}
use Rattle.lmn_instr_code.specs.declared.instr.Instr.{Instr}
use Rattle.lmn_instr_code.specs.declared.instr.Instr.TheVariants.{NeqAtom, NotIn, NeqMem, NAtoms, NMems, NoRules, IsClosed, Commit}
use Rattle.lmn_instr_code.specs.Labels.{HasLabel}
use Rattle.lmn_instr_code.specs.Listings.{HasInstr}
use Rattle.lmn_instr_code.specs.HeadCode.{items_code, atom_code, found_code, Entry, entry, differ_code, ports_code, port_code, joined_code, open_code, find_port, occurrences_before, is_entry, membrane_code, differ_membrane_code, parts_code, part_code, test_of, filled_code, all_filled_code, number_inside, parts_inside, head_code, operand, operator_instruction, comparison, named_code, value_code, equal_code, part_named, differ_parts_code, bind_register, guard_code}
use Rattle.lmn_base.specs.Graphs.{Port}
use Rattle.lmn_instr_code.proofs.ListingLemmas.{parts_named}

module _ (names : List (List ℕ)) where
  -- the list has the names of these instructions
  abbrev pub HasInstrs : List Instr → Type 0
  HasInstrs = AllByRecursion (HasInstr names)

  -- of two lists in one
  pub both : (xs ys : List Instr) → HasInstrs xs → HasInstrs ys → HasInstrs (xs ++ ys)
  both [] ys p q = q
  both (x ∷ xs) ys p q = (p.0, both xs ys p.1 q)

  -- and of a list that stands or doesn't
  pub if_has : (b : Bool) (xs : List Instr) → HasInstrs xs → HasInstrs (if b then xs else [])
  if_has true xs p = p
  if_has false xs p = tt

  unless_has : (b : Bool) (xs : List Instr) → HasInstrs xs → HasInstrs (if b then [] else xs)
  unless_has true xs p = tt
  unless_has false xs p = p

  -- ---- atoms

  found_has : (n : ℕ) (a : HeadAtom) (e : Option Entry) → HasLabel names a.functor.label → HasInstrs (found_code n a e)
  found_has n a None h = ((tt, (tt, (h, tt))), tt)
  found_has n a (Some e) h = ((tt, (tt, (tt, tt))), ((tt, (h, tt)), ((tt, (tt, tt)), tt)))

  differ_has : (n : ℕ) (a : HeadAtom) (k : ℕ) (bs : List HeadAtom) → HasInstrs (differ_code n a k bs)
  differ_has n a k [] = tt
  differ_has n a k (b ∷ bs) =
      let t = (b.inside == a.inside) && same_functor b.functor a.functor in
      both (if t then NeqAtom n k ∷ [] else []) (differ_code n a (k + 1) bs) (if_has t (NeqAtom n k ∷ []) ((tt, (tt, tt)), tt)) (differ_has n a (k + 1) bs)

  open_has : (items : List HeadItem) (n : ℕ) (a : HeadAtom) (i x : ℕ) → HasInstrs (open_code items n a i x)
  open_has items n a i x =
      let is = NotIn (operand (n, i)) (outermost (membranes_of items) a.inside) ∷ [] in
      unless_has (a.inside == 0) (if times x (links_of_head items) == 1 then is else []) (if_has (times x (links_of_head items) == 1) is ((tt, (tt, tt)), tt))

  joined_has : (items : List HeadItem) (n : ℕ) (a : HeadAtom) (i x : ℕ) (p : Option Port) → HasInstrs (joined_code items n a i x p)
  joined_has items n a i x None = open_has items n a i x
  joined_has items n a i x (Some p) = ((tt, (tt, tt)), tt)

  ports_has : (items : List HeadItem) (n : ℕ) (a : HeadAtom) (i : ℕ) (xs : List ℕ) → HasInstrs (ports_code items n a i xs)
  ports_has items n a i [] = tt
  ports_has items n a i (x ∷ xs) =
      let p = find_port x (occurrences_before items n a i) in
      both (port_code items n a i x) (ports_code items n a (i + 1) xs)
      (unless_has (is_entry i (entry items n a)) (joined_code items n a i x p) (joined_has items n a i x p)) (ports_has items n a (i + 1) xs)

  atom_has : (items : List HeadItem) (n : ℕ) (a : HeadAtom) → HasLabel names a.functor.label → HasInstrs (atom_code items n a)
  atom_has items n a h =
      let earlier = take n (atoms_of items) in
      both (found_code n a (entry items n a)) (differ_code n a 0 earlier ++ ports_code items n a 0 a.links) (found_has n a (entry items n a) h)
      (both (differ_code n a 0 earlier) (ports_code items n a 0 a.links) (differ_has n a 0 earlier) (ports_has items n a 0 a.links))

  -- ---- membranes

  differ_membranes_has : (k : ℕ) (b : HeadMembrane) (j : ℕ) (ds : List HeadMembrane) → HasInstrs (differ_membrane_code k b j ds)
  differ_membranes_has k b j [] = tt
  differ_membranes_has k b j (d ∷ ds) =
      let t = d.inside == b.inside in
      both (if t then NeqMem k j ∷ [] else []) (differ_membrane_code k b (j + 1) ds) (if_has t (NeqMem k j ∷ []) ((tt, (tt, tt)), tt)) (differ_membranes_has k b (j + 1) ds)

  atoms_counted : (k n : ℕ) (gs : List ℕ) → HasInstr names (NAtoms k n gs)
  atoms_counted k n [] = (tt, (tt, tt))
  atoms_counted k n (g ∷ gs) = let h = atoms_counted k n gs in (tt, (tt, (tt, h.1.1)))

  filled_has : (items : List HeadItem) (k : ℕ) (b : HeadMembrane) → HasInstrs (filled_code items k b)
  filled_has items k b =
      let gs = parts_inside k 0 (typed_contexts_of items) in
      let many = number_inside (λ a. a.inside) k (atoms_of items) in
      let is = NAtoms k many gs ∷ (NMems k (number_inside (λ b. b.inside) k (membranes_of items)) ∷ []) in
      let closed = IsClosed k gs ∷ [] in
      both (if b.has_context then [] else is) ((if b.has_rule_context then [] else NoRules k ∷ []) ++ (if b.has_closed_context then closed else []))
      (unless_has b.has_context is (atoms_counted k many gs, ((tt, (tt, tt)), tt)))
      (both (if b.has_rule_context then [] else NoRules k ∷ []) (if b.has_closed_context then closed else [])
      (unless_has b.has_rule_context (NoRules k ∷ []) ((tt, tt), tt)) (if_has b.has_closed_context closed (parts_named names k gs, tt)))

  all_filled_has : (items : List HeadItem) (k : ℕ) (bs : List HeadMembrane) → HasInstrs (all_filled_code items k bs)
  all_filled_has items k [] = tt
  all_filled_has items k (b ∷ bs) = both (filled_code items k b) (all_filled_code items (k + 1) bs) (filled_has items k b) (all_filled_has items (k + 1) bs)

  -- ---- typed contexts

  test_has : (k : TypeKind) (g : ℕ) (p : AtomPort) (m : ℕ) → HasInstr names (test_of k g p m)
  test_has kind.Int g p m = (tt, (tt, (tt, tt)))
  test_has kind.Unary g p m = (tt, (tt, (tt, tt)))
  test_has kind.Ground g p m = (tt, (tt, (tt, tt)))

  part_has : (g : ℕ) (t : HeadTyped) (p : Option Port) → HasInstrs (part_code g t p)
  part_has g t None = tt
  part_has g t (Some p) = (test_has t.kind g (operand p) t.inside, tt)

  parts_has : (items : List HeadItem) (g : ℕ) (ts : List HeadTyped) → HasInstrs (parts_code items g ts)
  parts_has items g [] = tt
  parts_has items g (t ∷ ts) =
      let p = find_port t.link (at_atoms 0 (atoms_of items)) in
      both (part_code g t p) (parts_code items (g + 1) ts) (part_has g t p) (parts_has items (g + 1) ts)

  -- ---- the guard

  operation_has : (o : Arith) (v w x : ℕ) → HasInstr names (operator_instruction o v w x)
  operation_has op.Add v w x = (tt, (tt, (tt, tt)))
  operation_has op.Sub v w x = (tt, (tt, (tt, tt)))
  operation_has op.Mul v w x = (tt, (tt, (tt, tt)))
  operation_has op.Div v w x = (tt, (tt, (tt, tt)))
  operation_has op.Mod v w x = (tt, (tt, (tt, tt)))

  comparison_has : (c : Cmp) (v w : ℕ) → HasInstr names (comparison c v w)
  comparison_has cmp.Lt v w = (tt, (tt, tt))
  comparison_has cmp.Le v w = (tt, (tt, tt))
  comparison_has cmp.Gt v w = (tt, (tt, tt))
  comparison_has cmp.Ge v w = (tt, (tt, tt))
  comparison_has cmp.Eq v w = (tt, (tt, tt))
  comparison_has cmp.Ne v w = (tt, (tt, tt))

  named_has : (g : Option ℕ) (bound v : ℕ) → HasInstrs (named_code g bound v).code
  named_has None bound v = tt
  named_has (Some g) bound v = ((tt, (tt, tt)), tt)

  value_has : (part : ℕ → Option ℕ) (bound : ℕ → ℕ) (e : Expr) (v : ℕ) → HasInstrs (value_code part bound e v).code
  value_has part bound (expr.Int z) v = ((tt, (tt, tt)), tt)
  value_has part bound (expr.Ctx u) v = named_has (part u.name) (bound u.name) v
  value_has part bound (expr.Op' o p left q right) v =
      let a = value_code part bound left v in
      let b = value_code part bound right a.next in
      both a.code (b.code ++ (operator_instruction o b.next a.at b.at ∷ [])) (value_has part bound left v)
      (both b.code (operator_instruction o b.next a.at b.at ∷ []) (value_has part bound right a.next) (operation_has o b.next a.at b.at, tt))

  equal_has : (left right : Option ℕ) (part : ℕ → Option ℕ) (bound : ℕ → ℕ) (e : Expr) (v : ℕ) (bs cs : List Instr) → HasInstrs bs → HasInstrs cs →
      HasInstrs (equal_code left right (value_code part bound e v) bs cs)
  equal_has None right part bound e v bs cs p q = both (value_code part bound e v).code bs (value_has part bound e v) p
  equal_has (Some g) None part bound e v bs cs p q = q
  equal_has (Some g) (Some k) part bound e v bs cs p q = ((tt, (tt, tt)), q)

  differ_parts_has : (left right : Option ℕ) → HasInstrs (differ_parts_code left right)
  differ_parts_has None right = tt
  differ_parts_has (Some g) None = tt
  differ_parts_has (Some g) (Some k) = ((tt, (tt, tt)), tt)

  guard_has : (part : ℕ → Option ℕ) (bound : ℕ → ℕ) (v : ℕ) (cs : List Cond) → HasInstrs (guard_code part bound v cs)
  guard_has part bound v [] = tt
  guard_has part bound v (Kind n args pos ∷ cs) = guard_has part bound v cs
  guard_has part bound v (Compare o left right pos ∷ cs) =
      let a = value_code part bound left v in
      let b = value_code part bound right a.next in
      let rest = comparison o a.at b.at ∷ guard_code part bound b.next cs in
      both a.code (b.code ++ rest) (value_has part bound left v)
      (both b.code rest (value_has part bound right a.next) (comparison_has o a.at b.at, guard_has part bound b.next cs))
  guard_has part bound v (Equal left right pos ∷ cs) =
      let c = value_code part bound right v in
      let later = bind_register bound left.name c.at in
      equal_has (part left.name) (part_named part (context_alone right)) part bound right v (guard_code part later c.next cs) (guard_code part bound v cs)
      (guard_has part later c.next cs) (guard_has part bound v cs)
  guard_has part bound v (Differ left right pos ∷ cs) =
      both (differ_parts_code (part left.name) (part right.name)) (guard_code part bound v cs) (differ_parts_has (part left.name) (part right.name)) (guard_has part bound v cs)

  -- ---- the whole head

  -- the list has the name of an item, if it is an atom
  abbrev pub HasItem : HeadItem → Type 0
  HasItem (Atom functor links inside) = HasLabel names functor.label
  HasItem (Typed name kind link inside) = Unit {0}
  HasItem (Membrane inside has_context has_closed_context has_rule_context) = Unit {0}

  items_have : (items : List HeadItem) (n i : ℕ) (xs : List HeadItem) → AllByRecursion HasItem xs → HasInstrs (items_code items n i xs)
  items_have items n i [] h = tt
  items_have items n i (Atom f ls m ∷ xs) h =
      let a : HeadAtom = record { functor = f; links = ls; inside = m } in
      both (atom_code items n a) (items_code items (n + 1) i xs) (atom_has items n a h.0) (items_have items (n + 1) i xs h.1)
  items_have items n i (Typed p k l m ∷ xs) h = items_have items n i xs h.1
  items_have items n i (Membrane m c1 cl c2 ∷ xs) h =
      let b : HeadMembrane = record { inside = m; has_context = c1; has_closed_context = cl; has_rule_context = c2 } in
      both (membrane_code items i b) (items_code items n (i + 1) xs) ((tt, (tt, tt)), differ_membranes_has (i + 1) b 1 (take i (membranes_of items))) (items_have items n (i + 1) xs h.1)

  -- a list that has the names of the atoms has those of the code
  pub head_has : (items : List HeadItem) (guard : List Cond) → AllByRecursion HasItem items → HasInstrs (head_code items guard)
  head_has items guard h =
      let ps = parts_code items 0 (typed_contexts_of items) in
      let fs = all_filled_code items 1 (membranes_of items) in
      let part = typed_number (typed_contexts_of items) 0 in
      let gs = guard_code part (λ x. 0) 0 guard in
      let last : HasInstrs (Commit ∷ []) = (tt, tt) in
      both (items_code items 0 0 items) (ps ++ (fs ++ (gs ++ (Commit ∷ [])))) (items_have items 0 0 items h)
      (both ps (fs ++ (gs ++ (Commit ∷ []))) (parts_has items 0 (typed_contexts_of items))
      (both fs (gs ++ (Commit ∷ [])) (all_filled_has items 1 (membranes_of items))
      (both gs (Commit ∷ []) (guard_has part (λ x. 0) 0 guard) last)))
