-- In the code of a head two atoms of one functor in one membrane are told apart, and two membranes in one.
use Rattle.std.proofs.Common.{◌≡◌, ◌<◌, ◌+◌, ◌==◌, ◌&&◌, ◌||◌, not, ℕ, suc, zero, Bool, true, false, if◌then◌else◌, List, [], ◌∷◌, ◌++◌, refl, sym, ap, ◌∙◌, subst, arith}
use Rattle.std.specs.Prelude.{Some, take, slice_get}
use Rattle.std.specs.List.{list_any}
use Rattle.std.proofs.lemmas.Bool.{and_parts}
use Rattle.std.proofs.lemmas.List.Folds.{list_any-append}
use Rattle.lmn_base.proofs.Numbers.{equal_itself}
use Rattle.lmn_store_heap.specs.Functors.{same_functor}
use Rattle.lmn_solid_heads.specs.declared.items.HeadItem.{HeadItem}
use Rattle.lmn_solid_heads.specs.declared.items.HeadItem.TheVariants.{Atom, Typed, Membrane}
use Rattle.lmn_solid_heads.specs.Heads.{HeadAtom, HeadMembrane, atoms_of, membranes_of}
use Rattle.lmn_instr_code.specs.declared.instr.Instr.{Instr}
use Rattle.lmn_instr_code.specs.declared.instr.Instr.TheVariants.{AnyMem, NeqAtom, NeqMem}
use Rattle.lmn_instr_code.specs.HeadCode.{entry, found_code, differ_code, ports_code, atom_code, membrane_code, differ_membrane_code, items_code, head_code}
use Rattle.lmn_verify_code.specs.Verified.{is_neq_atom, is_neq_membrane, are_apart, are_apart_membranes, each_two}
use Rattle.lmn_verify_compiled.specs.HeadCodes.{HeadCodeTellsApart, HeadCodeTellsMembranesApart}
use Rattle.lmn_verify_compiled.proofs.Finding.{each_two_numbered, found_atom, found_membrane, head_finds, head_enters}
use Rattle.lmn_base.proofs.Lists.{take_slice}

-- a test that passes in a part of code passes in the whole
pub any_front : (test : Instr → Bool) (xs ys : List Instr) → list_any test xs ≡ true → list_any test (xs ++ ys) ≡ true
any_front test xs ys h = list_any-append test xs ys ∙ ap (λ b. b || list_any test ys) h

pub any_back : (test : Instr → Bool) (xs ys : List Instr) → list_any test ys ≡ true → list_any test (xs ++ ys) ≡ true
any_back test xs ys h = list_any-append test xs ys ∙ ap (λ b. list_any test xs || b) h ∙ last (list_any test xs)
  where
    last : (b : Bool) → (b || true) ≡ true
    last true = refl
    last false = refl

-- where a premise fails nothing is asked
implied : (a b : Bool) → (a ≡ true → b ≡ true) → (not a || b) ≡ true
implied true b h = h refl
implied false b h = refl

-- ---- atoms

neq_atom : (j n : ℕ) → is_neq_atom j n (NeqAtom n j) ≡ true
neq_atom j n = (λ i. ((n == j) && (j == n)) || (equal_itself n i && equal_itself j i)) ∙ last ((n == j) && (j == n))
  where
    last : (b : Bool) → (b || true) ≡ true
    last true = refl
    last false = refl

differ_tells : (n : ℕ) (a : HeadAtom) (k j : ℕ) (b : HeadAtom) (bs : List HeadAtom) → slice_get bs j ≡ Some b → ((b.inside == a.inside) && same_functor b.functor a.functor) ≡ true
    → list_any (is_neq_atom (k + j) n) (differ_code n a k bs) ≡ true
differ_tells n a k j b [] e h = absurd (cc)
differ_tells n a k zero b (c ∷ bs) e h =
    let same : c ≡ b = cc in
    let start : k + 0 ≡ k = omega arith in
    let here : ((c.inside == a.inside) && same_functor c.functor a.functor) ≡ true = subst (λ d. ((d.inside == a.inside) && same_functor d.functor a.functor) ≡ true) (sym same) h in
    subst (λ m. list_any (is_neq_atom m n) (differ_code n a k (c ∷ bs)) ≡ true) (sym start)
    (any_front (is_neq_atom k n) (if (c.inside == a.inside) && same_functor c.functor a.functor then NeqAtom n k ∷ [] else []) (differ_code n a (k + 1) bs)
    (ap (λ t. list_any (is_neq_atom k n) (if t then NeqAtom n k ∷ [] else [])) here ∙ ap (λ t. t || false) (neq_atom k n)))
differ_tells n a k (suc j) b (c ∷ bs) e h =
    let next : (k + 1) + j ≡ k + suc j = omega arith in
    subst (λ m. list_any (is_neq_atom m n) (differ_code n a k (c ∷ bs)) ≡ true) next
    (any_back (is_neq_atom ((k + 1) + j) n) (if (c.inside == a.inside) && same_functor c.functor a.functor then NeqAtom n k ∷ [] else []) (differ_code n a (k + 1) bs)
    (differ_tells n a (k + 1) j b bs e h))

atom_tells : (items : List HeadItem) (j n : ℕ) (b a : HeadAtom) → j < n → slice_get (atoms_of items) j ≡ Some b → ((b.inside == a.inside) && same_functor b.functor a.functor) ≡ true
    → list_any (is_neq_atom j n) (atom_code items n a) ≡ true
atom_tells items j n b a l e h =
    let number : 0 + j ≡ j = omega arith in
    any_back (is_neq_atom j n) (found_code n a (entry items n a)) _
    (any_front (is_neq_atom j n) (differ_code n a 0 (take n (atoms_of items))) (ports_code items n a 0 a.links)
    (subst (λ m. list_any (is_neq_atom m n) (differ_code n a 0 (take n (atoms_of items))) ≡ true) number (differ_tells n a 0 j b (take n (atoms_of items)) (take_slice n (atoms_of items) j b l e) h)))

items_tell : (items : List HeadItem) (n i : ℕ) (xs : List HeadItem) (j k : ℕ) (b a : HeadAtom) → j < n + k → slice_get (atoms_of items) j ≡ Some b → slice_get (atoms_of xs) k ≡ Some a
    → ((b.inside == a.inside) && same_functor b.functor a.functor) ≡ true → list_any (is_neq_atom j (n + k)) (items_code items n i xs) ≡ true
items_tell items n i [] j k b a l e g h = absurd (cc)
items_tell items n i (Atom f ls m ∷ xs) j zero b a l e g h =
    let c : HeadAtom = record { functor = f; links = ls; inside = m } in
    let same : a ≡ c = cc in
    let start : n + 0 ≡ n = omega arith in
    let told : ((b.inside == c.inside) && same_functor b.functor c.functor) ≡ true = subst (λ d. ((b.inside == d.inside) && same_functor b.functor d.functor) ≡ true) same h in
    subst (λ q. list_any (is_neq_atom j q) (items_code items n i (Atom f ls m ∷ xs)) ≡ true) (sym start)
    (any_front (is_neq_atom j n) (atom_code items n c) (items_code items (n + 1) i xs) (atom_tells items j n b c (omega arith) e told))
items_tell items n i (Atom f ls m ∷ xs) j (suc k) b a l e g h =
    let c : HeadAtom = record { functor = f; links = ls; inside = m } in
    let next : (n + 1) + k ≡ n + suc k = omega arith in
    subst (λ q. list_any (is_neq_atom j q) (items_code items n i (Atom f ls m ∷ xs)) ≡ true) next
    (any_back (is_neq_atom j ((n + 1) + k)) (atom_code items n c) (items_code items (n + 1) i xs) (items_tell items (n + 1) i xs j k b a (omega arith) e g h))
items_tell items n i (Typed p q r m ∷ xs) j k b a l e g h = items_tell items n i xs j k b a l e g h
items_tell items n i (Membrane m c d r ∷ xs) j k b a l e g h =
    any_back (is_neq_atom j (n + k)) (membrane_code items i (record { inside = m; has_context = c; has_closed_context = d; has_rule_context = r })) (items_code items n (i + 1) xs) (items_tell items n (i + 1) xs j k b a l e g h)

pub head_code_tells_apart : HeadCodeTellsApart
head_code_tells_apart items guard =
    subst (λ t. each_two (are_apart (head_code items guard)) t ≡ true) (sym (head_finds items guard))
    (each_two_numbered found_atom (are_apart (head_code items guard)) 0 (atoms_of items)
    (λ j k b a l e g. let number : 0 + j ≡ j = omega arith in
    subst (λ q. are_apart (head_code items guard) (found_atom q b) (found_atom (0 + k) a) ≡ true) (sym number)
    (implied (same_functor b.functor a.functor && (b.inside == a.inside)) _
    (λ h. let p = and_parts (same_functor b.functor a.functor) (b.inside == a.inside) h in
    any_front (is_neq_atom j (0 + k)) (items_code items 0 0 items) _ (items_tell items 0 0 items j k b a (omega (arith, l)) e g (λ i. p.1 i && p.0 i))))))

-- ---- membranes

neq_membrane : (j n : ℕ) → is_neq_membrane j n (NeqMem n j) ≡ true
neq_membrane j n = (λ i. ((n == j) && (j == n)) || (equal_itself n i && equal_itself j i)) ∙ last ((n == j) && (j == n))
  where
    last : (b : Bool) → (b || true) ≡ true
    last true = refl
    last false = refl

differ_tells_membrane : (n : ℕ) (a : HeadMembrane) (k j : ℕ) (b : HeadMembrane) (bs : List HeadMembrane) → slice_get bs j ≡ Some b → (b.inside == a.inside) ≡ true
    → list_any (is_neq_membrane (k + j) n) (differ_membrane_code n a k bs) ≡ true
differ_tells_membrane n a k j b [] e h = absurd (cc)
differ_tells_membrane n a k zero b (c ∷ bs) e h =
    let same : c ≡ b = cc in
    let start : k + 0 ≡ k = omega arith in
    let here : (c.inside == a.inside) ≡ true = subst (λ d. (d.inside == a.inside) ≡ true) (sym same) h in
    subst (λ m. list_any (is_neq_membrane m n) (differ_membrane_code n a k (c ∷ bs)) ≡ true) (sym start)
    (any_front (is_neq_membrane k n) (if c.inside == a.inside then NeqMem n k ∷ [] else []) (differ_membrane_code n a (k + 1) bs)
    (ap (λ t. list_any (is_neq_membrane k n) (if t then NeqMem n k ∷ [] else [])) here ∙ ap (λ t. t || false) (neq_membrane k n)))
differ_tells_membrane n a k (suc j) b (c ∷ bs) e h =
    let next : (k + 1) + j ≡ k + suc j = omega arith in
    subst (λ m. list_any (is_neq_membrane m n) (differ_membrane_code n a k (c ∷ bs)) ≡ true) next
    (any_back (is_neq_membrane ((k + 1) + j) n) (if c.inside == a.inside then NeqMem n k ∷ [] else []) (differ_membrane_code n a (k + 1) bs)
    (differ_tells_membrane n a (k + 1) j b bs e h))

membrane_tells : (items : List HeadItem) (j i : ℕ) (b a : HeadMembrane) → j < i → slice_get (membranes_of items) j ≡ Some b → (b.inside == a.inside) ≡ true
    → list_any (is_neq_membrane (j + 1) (i + 1)) (membrane_code items i a) ≡ true
membrane_tells items j i b a l e h =
    let number : 1 + j ≡ j + 1 = omega arith in
    any_back (is_neq_membrane (j + 1) (i + 1)) (AnyMem (i + 1) a.inside ∷ []) (differ_membrane_code (i + 1) a 1 (take i (membranes_of items)))
    (subst (λ m. list_any (is_neq_membrane m (i + 1)) (differ_membrane_code (i + 1) a 1 (take i (membranes_of items))) ≡ true) number
    (differ_tells_membrane (i + 1) a 1 j b (take i (membranes_of items)) (take_slice i (membranes_of items) j b l e) h))

items_tell_membranes : (items : List HeadItem) (n i : ℕ) (xs : List HeadItem) (j k : ℕ) (b a : HeadMembrane) → j < i + k → slice_get (membranes_of items) j ≡ Some b → slice_get (membranes_of xs) k ≡ Some a
    → (b.inside == a.inside) ≡ true → list_any (is_neq_membrane (j + 1) ((i + k) + 1)) (items_code items n i xs) ≡ true
items_tell_membranes items n i [] j k b a l e g h = absurd (cc)
items_tell_membranes items n i (Atom f ls m ∷ xs) j k b a l e g h =
    any_back (is_neq_membrane (j + 1) ((i + k) + 1)) (atom_code items n (record { functor = f; links = ls; inside = m })) (items_code items (n + 1) i xs) (items_tell_membranes items (n + 1) i xs j k b a l e g h)
items_tell_membranes items n i (Typed p q r m ∷ xs) j k b a l e g h = items_tell_membranes items n i xs j k b a l e g h
items_tell_membranes items n i (Membrane m c d r ∷ xs) j zero b a l e g h =
    let x : HeadMembrane = record { inside = m; has_context = c; has_closed_context = d; has_rule_context = r } in
    let same : a ≡ x = cc in
    let start : i + 0 ≡ i = omega arith in
    let told : (b.inside == x.inside) ≡ true = subst (λ y. (b.inside == y.inside) ≡ true) same h in
    subst (λ q. list_any (is_neq_membrane (j + 1) (q + 1)) (items_code items n i (Membrane m c d r ∷ xs)) ≡ true) (sym start)
    (any_front (is_neq_membrane (j + 1) (i + 1)) (membrane_code items i x) (items_code items n (i + 1) xs) (membrane_tells items j i b x (omega arith) e told))
items_tell_membranes items n i (Membrane m c d r ∷ xs) j (suc k) b a l e g h =
    let x : HeadMembrane = record { inside = m; has_context = c; has_closed_context = d; has_rule_context = r } in
    let next : (i + 1) + k ≡ i + suc k = omega arith in
    subst (λ q. list_any (is_neq_membrane (j + 1) (q + 1)) (items_code items n i (Membrane m c d r ∷ xs)) ≡ true) next
    (any_back (is_neq_membrane (j + 1) (((i + 1) + k) + 1)) (membrane_code items i x) (items_code items n (i + 1) xs) (items_tell_membranes items n (i + 1) xs j k b a (omega arith) e g h))

pub head_code_tells_membranes_apart : HeadCodeTellsMembranesApart
head_code_tells_membranes_apart items guard =
    subst (λ t. each_two (are_apart_membranes (head_code items guard)) t ≡ true) (sym (head_enters items guard))
    (each_two_numbered found_membrane (are_apart_membranes (head_code items guard)) 0 (membranes_of items)
    (λ j k b a l e g. let number : 0 + j ≡ j = omega arith in
    subst (λ q. are_apart_membranes (head_code items guard) (found_membrane q b) (found_membrane (0 + k) a) ≡ true) (sym number)
    (implied (b.inside == a.inside) _
    (λ h. any_front (is_neq_membrane (j + 1) ((0 + k) + 1)) (items_code items 0 0 items) _ (items_tell_membranes items 0 0 items j k b a (omega (arith, l)) e g h)))))
