-- The code of a head sets its registers in order.
use Rattle.std.proofs.Common.{ℕ, zero, suc, ◌≡◌, ◌<◌, ◌≤◌, ◌+◌, inl, inr, List, [], ◌∷◌, ◌++◌, Option, Some, None, refl, arith, ap, subst, length, take, append_assoc, ◌∙◌}
use Rattle.std.specs.Prelude.{slice_get, Bool, true, false, ◌==◌, ◌&&◌, if◌then◌else◌}
use Rattle.std.specs.Prelude.{sum_by}
use Rattle.std.specs.List.{AllByRecursion}
use Rattle.std.proofs.lemmas.Option.{slice_get_within}
use Rattle.lmn_base.specs.declared.guard.Cond.{Cond}
use Rattle.lmn_base_walks.specs.RuleCodes.{condition_tokens}
use Rattle.lmn_store_heap.specs.Functors.{same_functor}
use Rattle.lmn_guards.specs.declared.plan.TypeKind.{TypeKind}
use Rattle.lmn_guards.specs.declared.plan.TypeKind.TheVariants as kind
use Rattle.lmn_solid_heads.specs.Embeddings.{HasLink}
use Rattle.lmn_solid_heads.specs.Guards.{typed_number}
use Rattle.lmn_instr_code.specs.declared.instr.AtomPort.{AtomPort}
use Rattle.lmn_instr_code.specs.Running.{atoms_set, membranes_set}
use Rattle.lmn_compile_head.proofs.Counting.{parts_none, guard_none}
use Rattle.lmn_machine_laws.proofs.GuardOrder.{guard_order}
use Rattle.lmn_solid_heads.specs.declared.items.HeadItem.{HeadItem}
use Rattle.lmn_solid_heads.specs.declared.items.HeadItem.TheVariants.{Atom, Typed, Membrane}
use Rattle.lmn_solid_heads.specs.Heads.{HeadAtom, HeadTyped, HeadMembrane, atoms_of, typed_contexts_of, membranes_of, at_atoms, at_ports, links_of_head, times, outermost}
use Rattle.lmn_instr_code.specs.declared.instr.Instr.{Instr}
use Rattle.lmn_instr_code.specs.declared.instr.Instr.TheVariants.{FindAtom, Deref, AnyMem, NeqAtom, NeqMem, NotIn, IsInt, IsUnary, IsGround, NAtoms, NMems, NoRules, IsClosed, EqGround, NeqGround, GetInt, Const, Add, Sub, Mul, Div, Mod, Commit}
use Rattle.lmn_instr_code.specs.HeadCode.{items_code, atom_code, found_code, differ_code, differ_membrane_code, ports_code, port_code, joined_code, find_port, occurrences_before, Entry, entry, is_entry, operand, filled_code, all_filled_code, parts_inside, number_inside, head_code, parts_code, part_code, test_of, guard_code}
use Rattle.lmn_compile_head.specs.Heads.{IsHead, IsGuard, EachInside}
use Rattle.lmn_compile_head.proofs.Places.{occurs, has_either, atoms_have, ports_have, find_found, find_missed, stands_at, entry_stands}
use Rattle.lmn_compile_head.proofs.Nesting.{membranes_nested}
use Rattle.lmn_machine_registers.specs.declared.stack.TheConstants.{ROOM}
use Rattle.lmn_machine.specs.Searching.{TestsSetRegisters, HeadInOrder}
use Rattle.lmn_base.specs.Graphs.{Port}
use Rattle.lmn_base.proofs.Lists.{get_taken}
use Rattle.lmn_compile_head.proofs.Common.{outer_less, typed_inside as typed_nested}

-- Code before any typed context is set.

-- registers of atoms and membranes are set in order
abbrev pub PlainOrder : ℕ → ℕ → List Instr → Type 0
PlainOrder a m is = HeadInOrder a m 0 0 is

-- tests, with g typed contexts and no integer set

-- an instruction reads such as are set
abbrev pub PlainReads : ℕ → ℕ → ℕ → Instr → Type 0
PlainReads a m g (NAtoms x n gs) = (x < m) × AllByRecursion (λ k. k < g) gs
PlainReads a m g i = TestsSetRegisters a m 0 i

-- and so do several
abbrev pub ReadAll : ℕ → ℕ → ℕ → List Instr → Type 0
ReadAll a m g [] = Unit {0}
ReadAll a m g (i ∷ is) = PlainReads a m g i × ReadAll a m g is

one_read : (a m g : ℕ) (i : Instr) (is : List Instr) → PlainReads a m g i → HeadInOrder a m g 0 is → HeadInOrder a m g 0 (i ∷ is)
one_read a m g (FindAtom x y f) is r o = absurd r
one_read a m g (Deref x p k) is r o = absurd r
one_read a m g (AnyMem x y) is r o = absurd r
one_read a m g (IsInt x p y) is r o = absurd r
one_read a m g (IsUnary x p y) is r o = absurd r
one_read a m g (IsGround x p y) is r o = absurd r
one_read a m g (IsClosed x gs) is r o = absurd r
one_read a m g (EqGround x y) is r o = absurd r
one_read a m g (NeqGround x y) is r o = absurd r
one_read a m g (GetInt x y) is r o = absurd r
one_read a m g (Const x y) is r o = absurd r
one_read a m g (Add x y z) is r o = absurd r
one_read a m g (Sub x y z) is r o = absurd r
one_read a m g (Mul x y z) is r o = absurd r
one_read a m g (Div x y z) is r o = absurd r
one_read a m g (Mod x y z) is r o = absurd r
one_read a m g _ is r o = (r, o)

-- code that only reads, before code that sets in order, is in order
pub read_then : (a m g : ℕ) (xs ys : List Instr) → ReadAll a m g xs → HeadInOrder a m g 0 ys → HeadInOrder a m g 0 (xs ++ ys)
read_then a m g [] ys r o = o
read_then a m g (x ∷ xs) ys r o = one_read a m g x (xs ++ ys) r.0 (read_then a m g xs ys r.1 o)

-- what a membrane holds is tested when all atoms and membranes are set

-- an instruction that tests it reads such registers as are set
abbrev pub FilledReads : ℕ → ℕ → ℕ → Instr → Type 0
FilledReads a m g (IsClosed x gs) = (x < m) × AllByRecursion (λ k. k < g) gs
FilledReads a m g i = PlainReads a m g i

-- and so do several
abbrev pub FilledAll : ℕ → ℕ → ℕ → List Instr → Type 0
FilledAll a m g [] = Unit {0}
FilledAll a m g (i ∷ is) = FilledReads a m g i × FilledAll a m g is

-- code that sets neither atoms nor membranes
abbrev pub SetsNone : List Instr → Type 0
SetsNone is = (atoms_set is ≡ 0) × (membranes_set is ≡ 0)

one_filled : (a m g : ℕ) (i : Instr) (is : List Instr) → FilledReads a m g i → SetsNone is → HeadInOrder a m g 0 is → HeadInOrder a m g 0 (i ∷ is) × SetsNone (i ∷ is)
one_filled a m g (FindAtom x y f) is r n o = absurd r
one_filled a m g (Deref x p k) is r n o = absurd r
one_filled a m g (AnyMem x y) is r n o = absurd r
one_filled a m g (IsClosed x gs) is r n o = (((r.0, r.1, n.0, n.1), o), n)
one_filled a m g i is r n o = (one_read a m g i is r o, n)

-- code that tests it, before code that sets neither and is in order, is in order
pub filled_then : (a m g : ℕ) (xs ys : List Instr) → FilledAll a m g xs → SetsNone ys → HeadInOrder a m g 0 ys → HeadInOrder a m g 0 (xs ++ ys) × SetsNone (xs ++ ys)
filled_then a m g [] ys r n o = (o, n)
filled_then a m g (x ∷ xs) ys r n o = let t = filled_then a m g xs ys r.1 n o in one_filled a m g x (xs ++ ys) r.0 t.1 t.0

filled_append : (a m g : ℕ) (xs ys : List Instr) → FilledAll a m g xs → FilledAll a m g ys → FilledAll a m g (xs ++ ys)
filled_append a m g [] ys r s = s
filled_append a m g (x ∷ xs) ys r s = (r.0, filled_append a m g xs ys r.1 s)

filled_if : (a m g : ℕ) (b : Bool) (xs : List Instr) → FilledAll a m g xs → FilledAll a m g (if b then xs else [])
filled_if a m g true xs r = r
filled_if a m g false xs r = tt

filled_unless : (a m g : ℕ) (b : Bool) (xs : List Instr) → FilledAll a m g xs → FilledAll a m g (if b then [] else xs)
filled_unless a m g true xs r = tt
filled_unless a m g false xs r = r

reads_append : (a m g : ℕ) (xs ys : List Instr) → ReadAll a m g xs → ReadAll a m g ys → ReadAll a m g (xs ++ ys)
reads_append a m g [] ys r s = s
reads_append a m g (x ∷ xs) ys r s = (r.0, reads_append a m g xs ys r.1 s)

reads_if : (a m g : ℕ) (b : Bool) (xs : List Instr) → ReadAll a m g xs → ReadAll a m g (if b then xs else [])
reads_if a m g true xs r = r
reads_if a m g false xs r = tt

reads_unless : (a m g : ℕ) (b : Bool) (xs : List Instr) → ReadAll a m g xs → ReadAll a m g (if b then [] else xs)
reads_unless a m g true xs r = tt
reads_unless a m g false xs r = r

-- the membranes round a membrane have lesser numbers

-- the typed contexts that are written in a membrane have numbers below that of all
inside_if : (b : Bool) (n g : ℕ) (gs : List ℕ) → n < g → AllByRecursion (λ j. j < g) gs → AllByRecursion (λ j. j < g) ((if b then n ∷ [] else []) ++ gs)
inside_if true n g gs l a = (l, a)
inside_if false n g gs l a = a

inside_below : (k g n : ℕ) (ts : List HeadTyped) → n + length ts ≤ g → AllByRecursion (λ j. j < g) (parts_inside k n ts)
inside_below k g n [] l = tt
inside_below k g n (t ∷ ts) l = inside_if (t.inside == k) n g (parts_inside k (n + 1) ts) (omega (arith, l)) (inside_below k g (n + 1) ts (omega (arith, l)))

module _ (items : List HeadItem) (head : IsHead items) where
  -- a port that is found is one of this atom or of an earlier one
  port_found : (n i x : ℕ) (a : HeadAtom) (q : Port) → find_port x (occurrences_before items n a i) ≡ Some q → q.0 ≤ n
  port_found n i x a q e =
      elim (has_either (occurs x q) (at_atoms 0 (take n (atoms_of items))) (at_ports n 0 (take i a.links)) (find_found x (occurrences_before items n a i) q e)) [
        | inl t ↦ (let r = atoms_have 0 (take n (atoms_of items)) (occurs x q) t in let l = (get_taken n (atoms_of items) r.0 r.2 r.3).0 in
            let s : q.0 ≡ 0 + r.0 = ap (λ w. w.0) r.5 in omega arith)
        | inr t ↦ (let r = ports_have n 0 (take i a.links) (occurs x q) t in let s : q.0 ≡ n = ap (λ w. w.0) r.2 in omega arith)
      ]

  entry_found : (n : ℕ) (a : HeadAtom) (e : Entry) → entry items n a ≡ Some e → e.1.0 < n
  entry_found n a e t =
      let k = entry_stands (at_atoms 0 (take n (atoms_of items))) 0 a.links e t in
      let v = atoms_have 0 (take n (atoms_of items)) (occurs k.1 e.1) (find_found k.1 (at_atoms 0 (take n (atoms_of items))) e.1 k.4) in
      let l = (get_taken n (atoms_of items) v.0 v.2 v.3).0 in
      let same : e.1.0 ≡ 0 + v.0 = ap (λ w. w.0) v.5 in omega arith

  found_order : (n m : ℕ) (a : HeadAtom) (e : Option Entry) (ys : List Instr) → entry items n a ≡ e → a.inside < m → n < ROOM → PlainOrder (n + 1) m ys → PlainOrder n m (found_code n a e ++ ys)
  found_order n m a None ys t l r o = ((refl, l, r, refl), o)
  found_order n m a (Some e) ys t l r o = ((refl, entry_found n a e t, r, refl), (omega arith, ((omega arith, l), o)))

  pub differ_reads : (n m : ℕ) (a : HeadAtom) (k : ℕ) (bs : List HeadAtom) → k + length bs ≤ n → ReadAll (n + 1) m 0 (differ_code n a k bs)
  differ_reads n m a k [] l = tt
  differ_reads n m a k (b ∷ bs) l =
      reads_append (n + 1) m 0 _ (differ_code n a (k + 1) bs)
      (reads_if (n + 1) m 0 ((b.inside == a.inside) && same_functor b.functor a.functor) (NeqAtom n k ∷ []) ((omega arith, omega arith), tt)) (differ_reads n m a (k + 1) bs (omega arith))

  joined_reads : (n m i x : ℕ) (a : HeadAtom) (p : Option Port) → find_port x (occurrences_before items n a i) ≡ p → a.inside < m → ReadAll (n + 1) m 0 (joined_code items n a i x p)
  joined_reads n m i x a None e l =
      reads_unless (n + 1) m 0 (a.inside == 0) _ (reads_if (n + 1) m 0 (times x (links_of_head items) == 1) (NotIn (operand (n, i)) (outermost (membranes_of items) a.inside) ∷ [])
      ((omega arith, (let o = outer_less (length (membranes_of items)) (membranes_of items) a.inside (membranes_nested items head.inside) in omega (arith, o))), tt))
  joined_reads n m i x a (Some q) e l = ((omega arith, (let k = port_found n i x a q e in omega arith)), tt)

  pub ports_read : (n m : ℕ) (a : HeadAtom) (i : ℕ) (xs : List ℕ) → a.inside < m → ReadAll (n + 1) m 0 (ports_code items n a i xs)
  ports_read n m a i [] l = tt
  ports_read n m a i (x ∷ xs) l =
      reads_append (n + 1) m 0 (port_code items n a i x) (ports_code items n a (i + 1) xs)
      (reads_unless (n + 1) m 0 (is_entry i (entry items n a)) (joined_code items n a i x (find_port x (occurrences_before items n a i))) (joined_reads n m i x a (find_port x (occurrences_before items n a i)) refl l))
      (ports_read n m a (i + 1) xs l)

  pub take_short : {A : Type 0} (n : ℕ) (xs : List A) → length (take n xs) ≤ n
  take_short zero xs = omega arith
  take_short (suc n) [] = omega arith
  take_short (suc n) (x ∷ xs) = let k = take_short n xs in omega (arith, k)

  atom_order : (n m : ℕ) (a : HeadAtom) (ys : List Instr) → a.inside < m → n < ROOM → PlainOrder (n + 1) m ys → PlainOrder n m (atom_code items n a ++ ys)
  atom_order n m a ys l r o =
      let ds = differ_code n a 0 (take n (atoms_of items)) in
      let ps = ports_code items n a 0 a.links in
      let k = take_short n (atoms_of items) in
      rw append_assoc (found_order n m a (entry items n a) ((ds ++ ps) ++ ys) refl l r
      (read_then (n + 1) m 0 (ds ++ ps) ys (reads_append (n + 1) m 0 ds ps (differ_reads n m a 0 (take n (atoms_of items)) (omega (arith, k))) (ports_read n m a 0 a.links l)) o))

  pub differ_membranes_read : (a k m : ℕ) (b : HeadMembrane) (j : ℕ) (ds : List HeadMembrane) → k < m → j + length ds ≤ m → ReadAll a m 0 (differ_membrane_code k b j ds)
  differ_membranes_read a k m b j [] u l = tt
  differ_membranes_read a k m b j (d ∷ ds) u l =
      reads_append a m 0 _ (differ_membrane_code k b (j + 1) ds) (reads_if a m 0 (d.inside == b.inside) (NeqMem k j ∷ []) ((u, omega arith), tt)) (differ_membranes_read a k m b (j + 1) ds u (omega arith))

  pub items_order : (n i : ℕ) (xs : List HeadItem) (ys : List Instr) → EachInside i xs → n + length (atoms_of xs) ≤ ROOM → (i + 1) + length (membranes_of xs) ≤ ROOM →
      PlainOrder (n + length (atoms_of xs)) ((i + 1) + length (membranes_of xs)) ys → PlainOrder n (i + 1) (items_code items n i xs ++ ys)
  items_order n i [] ys w l k o = let z : n + 0 ≡ n = omega arith in let y : (i + 1) + 0 ≡ i + 1 = omega arith in subst (λ u. PlainOrder u (i + 1) ys) z (subst (λ u. PlainOrder (n + 0) u ys) y o)
  items_order n i (Atom f ls m ∷ xs) ys w l k o =
      let a : HeadAtom = record { functor = f; links = ls; inside = m } in
      let inside : m ≤ i = w.0 in
      let z : n + suc (length (atoms_of xs)) ≡ (n + 1) + length (atoms_of xs) = omega arith in
      rw append_assoc (atom_order n (i + 1) a (items_code items (n + 1) i xs ++ ys) (omega arith) (omega arith)
      (items_order (n + 1) i xs ys w.1 (omega arith) k (subst (λ u. PlainOrder u ((i + 1) + length (membranes_of xs)) ys) z o)))
  items_order n i (Typed p k' t m ∷ xs) ys w l k o = items_order n i xs ys w.1 l k o
  items_order n i (Membrane m c1 cl c2 ∷ xs) ys w l k o =
      let b : HeadMembrane = record { inside = m; has_context = c1; has_closed_context = cl; has_rule_context = c2 } in
      let inside : m ≤ i = w.0 in
      let short = take_short i (membranes_of items) in
      let z : (i + 1) + suc (length (membranes_of xs)) ≡ ((i + 1) + 1) + length (membranes_of xs) = omega arith in
      let later = items_order n (i + 1) xs ys w.1 l (omega arith) (subst (λ u. PlainOrder (n + length (atoms_of xs)) u ys) z o) in
      let differ = differ_membrane_code (i + 1) b 1 (take i (membranes_of items)) in (
        (refl, omega arith, omega arith),
        rw (append_assoc differ (items_code items n (i + 1) xs) ys) (read_then n ((i + 1) + 1) 0 differ (items_code items n (i + 1) xs ++ ys) (differ_membranes_read n (i + 1) ((i + 1) + 1) b 1 (take i (membranes_of items)) (omega arith) (omega (arith, short))) later),
      )

  filled_reads : (a m g k : ℕ) (b : HeadMembrane) → length (typed_contexts_of items) ≤ g → k < m → FilledAll a m g (filled_code items k b)
  filled_reads a m g k b few l =
      filled_append a m g _ ((if b.has_rule_context then [] else NoRules k ∷ []) ++ (if b.has_closed_context then IsClosed k (parts_inside k 0 (typed_contexts_of items)) ∷ [] else []))
      (filled_unless a m g b.has_context (NAtoms k (number_inside (λ a. a.inside) k (atoms_of items)) (parts_inside k 0 (typed_contexts_of items)) ∷ (NMems k (number_inside (λ b. b.inside) k (membranes_of items)) ∷ []))
      ((l, inside_below k g 0 (typed_contexts_of items) (omega (arith, few))), (l, tt)))
      (filled_append a m g (if b.has_rule_context then [] else NoRules k ∷ []) (if b.has_closed_context then IsClosed k (parts_inside k 0 (typed_contexts_of items)) ∷ [] else [])
      (filled_unless a m g b.has_rule_context (NoRules k ∷ []) (l, tt))
      (filled_if a m g b.has_closed_context (IsClosed k (parts_inside k 0 (typed_contexts_of items)) ∷ []) ((l, inside_below k g 0 (typed_contexts_of items) (omega (arith, few))), tt)))

  pub all_filled_reads : (a m g k : ℕ) (bs : List HeadMembrane) → length (typed_contexts_of items) ≤ g → k + length bs ≤ m → FilledAll a m g (all_filled_code items k bs)
  all_filled_reads a m g k [] few l = tt
  all_filled_reads a m g k (b ∷ bs) few l = filled_append a m g (filled_code items k b) (all_filled_code items (k + 1) bs) (filled_reads a m g k b few (omega arith)) (all_filled_reads a m g (k + 1) bs few (omega arith))

  -- Typed contexts, each of which stands in a membrane that is set and is held by an atom.
  abbrev pub AreSet : ℕ → List HeadTyped → Type 0
  AreSet m ts = (n : ℕ) (t : HeadTyped) → slice_get ts n ≡ Some t → (t.inside < m) × ((p : Port) × HasLink items t.link p)

  test_order : (a m g : ℕ) (k : TypeKind) (p : AtomPort) (y : ℕ) (ys : List Instr) → p.atom < a → y < m → g < ROOM → atoms_set ys ≡ 0 → HeadInOrder a m (g + 1) 0 ys → HeadInOrder a m g 0 (test_of k g p y ∷ ys)
  test_order a m g kind.Int p y ys l r s none o = ((((refl, s), l, r), none), o)
  test_order a m g kind.Unary p y ys l r s none o = ((((refl, s), l, r), none), o)
  test_order a m g kind.Ground p y ys l r s none o = ((((refl, s), l, r), none), o)

  part_order : (a m g : ℕ) (t : HeadTyped) (p : Port) (ys : List Instr) (fp : Option Port) → find_port t.link (at_atoms 0 (atoms_of items)) ≡ fp → length (atoms_of items) ≤ a → t.inside < m → HasLink items t.link p → g < ROOM →
      atoms_set ys ≡ 0 → HeadInOrder a m (g + 1) 0 ys → HeadInOrder a m g 0 (part_code g t fp ++ ys)
  part_order a m g t p ys None e long l has room none o = absurd (find_missed t.link (at_atoms 0 (atoms_of items)) p e (stands_at items t.link p has))
  part_order a m g t p ys (Some q) e long l has room none o =
      let r = atoms_have 0 (atoms_of items) (occurs t.link q) (find_found t.link (at_atoms 0 (atoms_of items)) q e) in
      let w = slice_get_within (atoms_of items) r.0 r.2 r.3 in
      let s : q.0 ≡ 0 + r.0 = ap (λ v. v.0) r.5 in
      test_order a m g t.kind (operand q) t.inside ys (omega (arith, w, s, long)) l room none o

  parts_order : (a m g : ℕ) (ts : List HeadTyped) (ys : List Instr) → length (atoms_of items) ≤ a → AreSet m ts → g + length ts ≤ ROOM → atoms_set ys ≡ 0 → HeadInOrder a m (g + length ts) 0 ys → HeadInOrder a m g 0 (parts_code items g ts ++ ys)
  parts_order a m g [] ys long set room none o = let z : g + 0 ≡ g = omega arith in subst (λ k. HeadInOrder a m k 0 ys) z o
  parts_order a m g (t ∷ ts) ys long set room none o =
      let here = set 0 t refl in
      let z : g + suc (length ts) ≡ (g + 1) + length ts = omega arith in
      let later = parts_order a m (g + 1) ts ys long (λ n u e. set (suc n) u e) (omega (arith, room)) none (subst (λ k. HeadInOrder a m k 0 ys) z o) in
      rw append_assoc (part_order a m g t here.1.0 (parts_code items (g + 1) ts ++ ys) (find_port t.link (at_atoms 0 (atoms_of items))) refl long here.0 here.1.1 (omega (arith, room))
      ((parts_none items (g + 1) ts).none ys ∙ none) later)

  pub all_set : AreSet (1 + length (membranes_of items)) (typed_contexts_of items)
  all_set n t e = (let l = typed_nested 0 items head.inside n t e in omega (arith, l), head.held n t e)

  -- the code of a head with a guard
  pub head_order : (guard : List Cond) → IsGuard (typed_contexts_of items) [] guard → length (atoms_of items) ≤ ROOM → 1 + length (membranes_of items) ≤ ROOM → length (typed_contexts_of items) ≤ ROOM →
      sum_by condition_tokens guard + sum_by condition_tokens guard ≤ ROOM → PlainOrder 0 1 (head_code items guard)
  head_order guard allowed l k few short =
      let a = 0 + length (atoms_of items) in
      let m = (0 + 1) + length (membranes_of items) in
      let ts = typed_contexts_of items in
      let fs = all_filled_code items 1 (membranes_of items) in
      let gs = guard_code (typed_number ts 0) (λ x. 0) 0 guard in
      let tests = guard_none (typed_number ts 0) (λ x. 0) 0 guard in
      let rest = filled_then a m (0 + length ts) fs (gs ++ (Commit ∷ [])) (all_filled_reads a m (0 + length ts) 1 (membranes_of items) (omega arith) (omega arith))
      (tests.none (Commit ∷ []), tests.keeps (Commit ∷ []))
      (guard_order a m (0 + length ts) ts (omega arith) guard 0 [] (λ x. 0) (Commit ∷ []) allowed (λ x s. absurd s) (omega (arith, short)) (λ w. (tt, tt))) in
      items_order 0 0 items (parts_code items 0 ts ++ (fs ++ (gs ++ (Commit ∷ [])))) head.inside (omega arith) k
      (parts_order a m 0 ts (fs ++ (gs ++ (Commit ∷ []))) (omega arith) all_set (omega (arith, few)) rest.1.0 rest.0)

-- how many of the items are of each kind
pub few_of_each : (items : List HeadItem) → length (atoms_of items) + (length (membranes_of items) + length (typed_contexts_of items)) ≤ length items
few_of_each [] = omega arith
few_of_each (Atom f ls m ∷ xs) = let k = few_of_each xs in omega (arith, k)
few_of_each (Typed p k' t m ∷ xs) = let k = few_of_each xs in omega (arith, k)
few_of_each (Membrane m c1 cl c2 ∷ xs) = let k = few_of_each xs in omega (arith, k)
