-- A commit adds at most as many items for each instruction of its body as there are.
use Rattle.std.proofs.Common.{ℕ, suc, ◌≡◌, ◌≢◌, ◌<◌, ◌≤◌, ◌+◌, ◌-◌, ◌*◌, ◌^◌, Bool, true, false, List, [], ◌∷◌, ◌++◌, length, map, Option, Some, None, IsSome, refl, sym, ap, subst, inl, inr, arith, length-append, if◌then◌else◌}
use Rattle.std.specs.Prelude.{sum, min, ◌↔◌}
use Rattle.std.specs.List.{AllByRecursion}
use Rattle.std.proofs.Math.Nat.{min-le_left, le-min}
use Rattle.lmn_base.specs.Graphs.{Reached, at_root, across}
use Rattle.lmn_base.specs.Lists.{In}
use Rattle.lmn_base.proofs.Lists.{sum_cons, get_there as there}
use Rattle.lmn_store_heap.specs.Heap.{Heap, HeapMem, IsMem, IsAtom, atoms_by, atoms_in, rules_by, rules_in, home_of}
use Rattle.lmn_store_heap.specs.Sound.{Forest, bare, mem, flat, Forms, IsTree, Valid, item_count_in}
use Rattle.lmn_store_heap.specs.Graphs.{atom_map}
use Rattle.lmn_store_heap.proofs.ListLemmas.{each_of}
use Rattle.lmn_store_heap.proofs.Listing.{home_is}
use Rattle.lmn_store_heap.proofs.Pigeonholes.{not_longer}
use Rattle.lmn_store_heap.proofs.Replacing.{port_within}
use Rattle.lmn_ground_parts.specs.Rests.{IsRest, atoms_of_all, keep}
use Rattle.lmn_ground.proofs.MeasureLaws.{not_heavier}
use Rattle.lmn_ground.proofs.PaintLaws.{with_port}
use Rattle.lmn_instr_code.specs.declared.instr.Instr.{Instr}
use Rattle.lmn_instr_code.specs.declared.instr.Instr.TheVariants.{NewAtom, NewInt, NewMem, CopyGround, CopyCells, LoadRule, CopyRules}
use Rattle.lmn_machine_registers.specs.declared.registers.SetRegisters.{SetRegisters}
use Rattle.lmn_solid_bodies.specs.Running.{Registers}
use Rattle.lmn_solid_bodies.proofs.Dropping.{of_atoms}
use Rattle.lmn_machine_commit.specs.Registers.{AreMembraneHandles, HasRests}
use Rattle.lmn_machine_commit.proofs.Later.{rest_mem}
use Rattle.lmn_schedule_strategy.proofs.Firing.{le_or_less}
use Rattle.lmn_machine.specs.Costs.{AddsItems, InAll, IsSize, IsTold, Leaves}

-- ---- lists

keep_short : (test : ℕ → Bool) (xs : List ℕ) → length (keep test xs) ≤ length xs
keep_short test [] = omega arith
keep_short test (x ∷ xs) = by (test x) (keep_short test xs)
  where
    by : (t : Bool) → length (keep test xs) ≤ length xs → length (if t then x ∷ keep test xs else keep test xs) ≤ suc (length xs)
    by true l = omega (arith, l)
    by false l = omega (arith, l)

-- the weight of a member is in the sum
in_sum : (f : ℕ → ℕ) (x : ℕ) (xs : List ℕ) → In x xs → f x ≤ sum (map f xs)
in_sum f x [] i = absurd i
in_sum f x (y ∷ xs) (inl e) = let s = sum_cons f y xs in let u : f y ≡ f x = ap f e in omega (arith, s, u)
in_sum f x (y ∷ xs) (inr i) = let s = sum_cons f y xs in let l = in_sum f x xs i in omega (arith, s, l)

-- what a membrane is and holds
abbrev weight : Heap → ℕ → ℕ
weight h m = 1 + length (atoms_in h m) + length (rules_in h m)

-- the atoms, and the membranes with their rules, are all items
items_split : (h : Heap) (ms : List ℕ) → length (atoms_of_all h ms) + sum (map (λ k. 1 + length (rules_in h k)) ms) ≡ item_count_in h ms
items_split h [] = refl
items_split h (m ∷ ms) =
    let a = length-append (atoms_in h m) (atoms_of_all h ms) in
    let b = sum_cons (λ k. 1 + length (rules_in h k)) m ms in
    let c = sum_cons (weight h) m ms in
    let d = items_split h ms in
    omega (arith, a, b, c, d)

-- ---- the items of a valid heap

module _ (h : Heap) (valid : Valid h) (f : Forest) (tree : IsTree h f) where
  -- how many there are, with the root
  abbrev all_items : ℕ
  all_items = item_count_in h (flat f)

  some_item : 1 ≤ sum (map (λ k. 1 + length (rules_in h k)) (flat f))
  some_item = by f tree.forms
    where
      by : (g : Forest) → Forms h g (h.root ∷ []) → 1 ≤ sum (map (λ k. 1 + length (rules_in h k)) (flat g))
      by bare e = absurd (cc)
      by (mem m inner rest) e = let s = sum_cons (λ k. 1 + length (rules_in h k)) m (flat inner ++ flat rest) in omega (arith, s)

  one_item : 1 ≤ all_items
  one_item = let a = some_item in let b = items_split h (flat f) in omega (arith, a, b)

  in_tree : (m a : ℕ) → In a (atoms_in h m) → In m (flat f)
  in_tree m a i = tree.all m (by (h.mems m) i)
    where
      by : (o : Option HeapMem) → In a (atoms_by o) → IsSome o
      by None j = absurd j
      by (Some y) j = refl

  -- each atom stands in some membrane
  of_tree : (a : ℕ) → IsAtom h a → In a (atoms_of_all h (flat f))
  of_tree a is = by (home_of h a) refl (valid.settled.atoms a is)
    where
      by : (o : Option ℕ) → home_of h a ≡ o → IsSome o → In a (atoms_of_all h (flat f))
      by None e s = absurd (cc)
      by (Some m) e s = let i = (valid.sound.listed.atoms m a).1 (home_is h a m e) in of_atoms h (flat f) m a (in_tree m a i) i

  of_part : (root : ℕ × ℕ) (a : ℕ) → Reached (atom_map h) root a → In a (root.0 ∷ atoms_of_all h (flat f))
  of_part root a at_root = inl refl
  of_part root b (across {a = a} {i = i} {j = j} r d e) =
      inr (of_tree b (with_port h b (let l = port_within h b j (a, i) (valid.sound.paired.back a i b j e) in omega (arith, l))))

  part_few : (root : ℕ × ℕ) (n : ℕ) → IsSize h root n → n ≤ all_items
  part_few root n (xs, a, e) =
      let l = not_longer xs (root.0 ∷ atoms_of_all h (flat f)) a.0 (λ x i. of_part root x ((a.1 x).0 i)) in
      let s = items_split h (flat f) in
      let o = some_item in
      omega (arith, l, s, o, e)

  rules_few : (m : ℕ) → length (rules_in h m) ≤ all_items
  rules_few m = by (h.mems m) refl
    where
      by : (o : Option HeapMem) → h.mems m ≡ o → length (rules_in h m) ≤ all_items
      by None e = let z = ap (λ p. length (rules_by p)) e in let o = one_item in omega (arith, z)
      by (Some y) e = let l = in_sum (weight h) m (flat f) (tree.all m (subst IsSome (sym e) refl)) in omega (arith, l)

  rest_few : (m : ℕ) (left_atom left_membrane : ℕ → Bool) (atoms ms : List ℕ) → IsMem h m → IsRest h m left_atom left_membrane atoms ms → length atoms + sum (map (λ k. 1 + length (rules_in h k)) ms) ≤ all_items
  rest_few m left_atom left_membrane atoms ms is r =
      let w = not_heavier (weight h) (m ∷ ms) (flat f) (each_of (λ x. m ≢ x) ms (λ x i e. r.outside (subst (λ z. In z ms) (sym e) i)), r.once) below in
      let c = sum_cons (weight h) m ms in
      let s = items_split h ms in
      let a = ap length r.in_order in
      let b = length-append (keep left_atom (atoms_in h m)) (atoms_of_all h ms) in
      let k = keep_short left_atom (atoms_in h m) in
      omega (arith, w, c, s, a, b, k)
    where
      below : (x : ℕ) → In x (m ∷ ms) → In x (flat f)
      below x (inl e) = tree.all x (subst (λ z. IsMem h z) e is)
      below x (inr i) = tree.all x (rest_mem h valid.sound.listed m left_atom left_membrane atoms ms r x i)

  -- ---- what instructions add

  module _ {A M : Type 0} (atom : A → ℕ) (membrane : M → ℕ) (g : SetRegisters A M) (handles : AreMembraneHandles membrane h g.membranes) (r : Registers) (rests : HasRests atom membrane h g r) where
    adds_few : (i : Instr) (n : ℕ) → IsTold (length g.membranes) (length g.parts) i → AddsItems h r i n → n ≤ all_items
    adds_few (NewAtom a m x) n t e = let o = one_item in omega (arith, e, o)
    adds_few (NewInt a m v) n t e = let o = one_item in omega (arith, e, o)
    adds_few (NewMem m k) n t e = let o = one_item in omega (arith, e, o)
    adds_few (CopyGround c m p) n t e = part_few (r.head.images.part p) n e
    adds_few (CopyCells k to) n t e =
        let w = there g.membranes k t in
        let rest = rests k w.0 w.1 in
        let l = rest_few (membrane w.0) rest.0 _ (r.left_atoms k) (r.left_membranes k) (handles k w.0 w.1) rest.2 in
        omega (arith, e, l)
    adds_few (LoadRule m k) n t e = let o = one_item in omega (arith, e, o)
    adds_few (CopyRules m k) n t e = let l = rules_few (r.head.images.membrane m) in omega (arith, e, l)
    adds_few _ n t e = omega (arith, e)

    all_few : (body : List Instr) (n : ℕ) → AllByRecursion (IsTold (length g.membranes) (length g.parts)) body → InAll (AddsItems h r) body n → n ≤ length body * all_items
    all_few [] n t e = omega (arith, e)
    all_few (i ∷ body) n t (a, b, (p, q, e)) = let k = adds_few i a t.0 p in let l = all_few body b t.1 q in more (length body) all_items a b n e k l
      where
        more : (k m a b n : ℕ) → n ≡ a + b → a ≤ m → b ≤ k * m → n ≤ suc k * m
        more k m a b n e l w = omega (arith, e, l, w)

    -- the items that are left, by those that there are and the length of the body
    pub leaves_few : (body : List Instr) (items n : ℕ) → items + 1 ≡ all_items → AllByRecursion (IsTold (length g.membranes) (length g.parts)) body → Leaves h r body n → n ≤ items + length body * (items + 1)
    leaves_few body items n e t l =
        let c = l.count f tree in
        let a = subst (λ z. l.added ≤ length body * z) (sym e) (all_few body l.added t l.adds) in
        omega (arith, c, e, a)

-- ---- numbers that fit

-- a number that isn't above another is the smaller one
least : (a m : ℕ) → a ≤ m → min a m ≡ a
least a m l = let u : a ≤ min a m = le-min (omega arith) l in let v = min-le_left a m in omega (arith, u, v)

-- the smaller one that is below the second is the first
first_least : (a m : ℕ) → min a m < m → min a m ≡ a
first_least a m l = elim (le_or_less a m) [
  | inl w ↦ least a m w
  | inr w ↦ (let u : m ≤ min a m = le-min (omega (arith, w)) (omega arith) in absurd (omega (arith, u, l)))
]

-- a number and the smaller one of it and the largest number are both below a smaller bound, or neither is
pub few_both : (n cost size : ℕ) → size < 2 ^ 64 - 1 → cost ≡ min n (2 ^ 64 - 1) → (cost ≤ size) ↔ (n ≤ size)
few_both n cost size small e = (
  λ l. (let z = first_least n (2 ^ 64 - 1) (omega (arith, l, small, e)) in omega (arith, l, z, e)),
  λ l. (let z = min-le_left n (2 ^ 64 - 1) in omega (arith, l, z, e)),
)
