-- What the code of a head finds: its atoms and its membranes, in their order.
use Rattle.std.proofs.Common.{◌≡◌, ◌+◌, ℕ, suc, ◌<◌, ◌&&◌, Bool, true, List, [], ◌∷◌, ◌++◌, refl, sym, ap, ◌∙◌, subst, arith, true≢false}
use Rattle.std.specs.Prelude.{Option, Some, None, take, slice_get, length}
use Rattle.std.proofs.lemmas.List.{append_assoc, length-append}
use Rattle.lmn_base.proofs.Lists.{plus_nothing}
use Rattle.lmn_base.specs.declared.guard.Cond.{Cond}
use Rattle.lmn_solid_heads.specs.declared.items.HeadItem.{HeadItem}
use Rattle.lmn_solid_heads.specs.declared.items.HeadItem.TheVariants.{Atom, Typed, Membrane}
use Rattle.lmn_base.specs.Graphs.{Port}
use Rattle.lmn_guards.specs.declared.plan.TypeKind.{TypeKind}
use Rattle.lmn_guards.specs.declared.plan.TypeKind.TheVariants as kind
use Rattle.lmn_compile_head.specs.Heads.{IsHead}
use Rattle.lmn_compile_head.proofs.Places.{find_missed, stands_at}
use Rattle.lmn_instr_code.specs.declared.instr.AtomPort.{AtomPort}
use Rattle.lmn_solid_heads.specs.Heads.{HeadAtom, HeadTyped, HeadMembrane, at_atoms, atoms_of, typed_contexts_of, membranes_of}
use Rattle.lmn_solid_heads.specs.Guards.{typed_number}
use Rattle.lmn_instr_code.specs.declared.instr.Instr.{Instr}
use Rattle.lmn_instr_code.specs.declared.instr.Instr.TheVariants.{FindAtom, Deref, AnyMem, IsInt, IsUnary, IsGround, Commit}
use Rattle.lmn_instr_code.specs.HeadCode.{Entry, entry, find_port, operand, test_of, part_code, found_code, differ_code, ports_code, atom_code, membrane_code, items_code, parts_code, all_filled_code, guard_code, head_code}
use Rattle.lmn_verify_code.specs.declared.found.FoundAtom.{FoundAtom}
use Rattle.lmn_verify_code.specs.declared.found.FoundMembrane.{FoundMembrane}
use Rattle.lmn_verify_code.specs.declared.found.FoundPart.{FoundPart}
use Rattle.lmn_verify_code.specs.Verified.{atoms_found, membranes_found, parts_found, each_two}
use Rattle.std.specs.List.{list_all}
use Rattle.lmn_verify_compiled.proofs.HeadShapes.{compares, is_test, differ, ports, differ_membrane, parts, all_filled, guards, all_items, is_check, asks_membrane, is_of_guard, part_is_test, membrane_is_test, guard_is_test}

-- ---- lists with numbers

-- what f gives of each item of a list and its number, of which the first is n
abbrev pub numbered : {A B : Type 0} → (ℕ → A → B) → ℕ → List A → List B
numbered f n [] = []
numbered f n (x ∷ xs) = f n x ∷ numbered f (n + 1) xs

-- a test passes of each item where it passes by its number
pub all_numbered : {A B : Type 0} (f : ℕ → A → B) (test : B → Bool) (n : ℕ) (xs : List A) → ((k : ℕ) (x : A) → slice_get xs k ≡ Some x → test (f (n + k) x) ≡ true) → list_all test (numbered f n xs) ≡ true
all_numbered f test n [] h = refl
all_numbered f test n (x ∷ xs) h =
    let start : n + 0 ≡ n = omega arith in
    let here : test (f n x) ≡ true = subst (λ m. test (f m x) ≡ true) start (h 0 x refl) in
    let later = all_numbered f test (n + 1) xs (λ k y e. let next : n + suc k ≡ (n + 1) + k = omega arith in subst (λ m. test (f m y) ≡ true) next (h (suc k) y e)) in
    λ j. here j && later j

-- and of each two where it passes of an earlier and a later one
pub each_two_numbered : {A B : Type 0} (f : ℕ → A → B) (test : B → B → Bool) (n : ℕ) (xs : List A)
    → ((j k : ℕ) (x y : A) → j < k → slice_get xs j ≡ Some x → slice_get xs k ≡ Some y → test (f (n + j) x) (f (n + k) y) ≡ true) → each_two test (numbered f n xs) ≡ true
each_two_numbered f test n [] h = refl
each_two_numbered f test n (x ∷ xs) h =
    let start : n + 0 ≡ n = omega arith in
    let here = all_numbered f (test (f n x)) (n + 1) xs
    (λ k y e. let next : n + suc k ≡ (n + 1) + k = omega arith in subst (λ m. test (f m x) (f ((n + 1) + k) y) ≡ true) start (subst (λ m. test (f (n + 0) x) (f m y) ≡ true) next (h 0 (suc k) x y (omega arith) refl e))) in
    let later = each_two_numbered f test (n + 1) xs
    (λ j k y z l e g. let a : n + suc j ≡ (n + 1) + j = omega arith in let b : n + suc k ≡ (n + 1) + k = omega arith in
    subst (λ m. test (f m y) (f ((n + 1) + k) z) ≡ true) a (subst (λ m. test (f (n + suc j) y) (f m z) ≡ true) b (h (suc j) (suc k) y z (omega arith) e g))) in
    λ i. here i && later i

-- ---- atoms

-- an atom of a head as it is found
abbrev pub found_atom : ℕ → HeadAtom → FoundAtom
found_atom n a = record { atom = n; functor = a.functor; membrane = a.inside }

-- code in which no atom is found
abbrev NoAtom : List Instr → Type 0
NoAtom xs = (ys : List Instr) → atoms_found (xs ++ ys) ≡ atoms_found ys

no_atom_both : (xs ys : List Instr) → NoAtom xs → NoAtom ys → NoAtom (xs ++ ys)
no_atom_both xs ys h g zs = ap atoms_found (append_assoc xs ys zs) ∙ h (ys ++ zs) ∙ g zs

no_atom_compared : (i : Instr) → compares i ≡ true → NoAtom (i ∷ [])
no_atom_compared (FindAtom _ _ _) h ys = absurd (true≢false (sym h))
no_atom_compared (Deref _ _ _) h ys = absurd (true≢false (sym h))
no_atom_compared _ h ys = refl

no_atom_test : (i : Instr) → is_test i ≡ true → NoAtom (i ∷ [])
no_atom_test (FindAtom _ _ _) h ys = absurd (true≢false (sym h))
no_atom_test (Deref _ _ _) h ys = absurd (true≢false (sym h))
no_atom_test _ h ys = refl

found_here : (n : ℕ) (a : HeadAtom) (e : Option Entry) (ys : List Instr) → atoms_found (found_code n a e ++ ys) ≡ found_atom n a ∷ atoms_found ys
found_here n a None ys = refl
found_here n a (Some e) ys = refl

atom_found : (items : List HeadItem) (n : ℕ) (a : HeadAtom) (ys : List Instr) → atoms_found (atom_code items n a ++ ys) ≡ found_atom n a ∷ atoms_found ys
atom_found items n a ys =
    let ds = differ_code n a 0 (take n (atoms_of items)) in
    let ps = ports_code items n a 0 a.links in
    let none = no_atom_both ds ps (differ NoAtom (λ zs. refl) no_atom_both no_atom_compared n a 0 (take n (atoms_of items))) (ports NoAtom (λ zs. refl) no_atom_both no_atom_compared items n a 0 a.links) in
    ap atoms_found (append_assoc (found_code n a (entry items n a)) (ds ++ ps) ys) ∙ found_here n a (entry items n a) ((ds ++ ps) ++ ys) ∙ ap (λ t. found_atom n a ∷ t) (none ys)

items_find : (items : List HeadItem) (n i : ℕ) (xs : List HeadItem) (ys : List Instr) → atoms_found (items_code items n i xs ++ ys) ≡ numbered found_atom n (atoms_of xs) ++ atoms_found ys
items_find items n i [] ys = refl
items_find items n i (Atom f ls m ∷ xs) ys =
    let a : HeadAtom = record { functor = f; links = ls; inside = m } in
    ap atoms_found (append_assoc (atom_code items n a) (items_code items (n + 1) i xs) ys) ∙ atom_found items n a (items_code items (n + 1) i xs ++ ys) ∙ ap (λ t. found_atom n a ∷ t) (items_find items (n + 1) i xs ys)
items_find items n i (Typed p k l m ∷ xs) ys = items_find items n i xs ys
items_find items n i (Membrane m c d r ∷ xs) ys =
    let b : HeadMembrane = record { inside = m; has_context = c; has_closed_context = d; has_rule_context = r } in
    let none = differ_membrane NoAtom (λ zs. refl) no_atom_both no_atom_compared (i + 1) b 1 (take i (membranes_of items)) in
    ap atoms_found (append_assoc (membrane_code items i b) (items_code items n (i + 1) xs) ys) ∙ none (items_code items n (i + 1) xs ++ ys) ∙ items_find items n (i + 1) xs ys

-- The code of a head finds the atoms of the head.
pub head_finds : (items : List HeadItem) (guard : List Cond) → atoms_found (head_code items guard) ≡ numbered found_atom 0 (atoms_of items)
head_finds items guard =
    let ps = parts_code items 0 (typed_contexts_of items) in
    let fs = all_filled_code items 1 (membranes_of items) in
    let gs = guard_code (typed_number (typed_contexts_of items) 0) (λ x. 0) 0 guard in
    let all = numbered found_atom 0 (atoms_of items) in
    items_find items 0 0 items (ps ++ (fs ++ (gs ++ (Commit ∷ []))))
    ∙ ap (λ t. all ++ t) (parts NoAtom (λ zs. refl) no_atom_both (λ i h. no_atom_test i (part_is_test i h)) items 0 (typed_contexts_of items) (fs ++ (gs ++ (Commit ∷ [])))
    ∙ all_filled NoAtom (λ zs. refl) no_atom_both (λ i h. no_atom_test i (membrane_is_test i h)) items 1 (membranes_of items) (gs ++ (Commit ∷ []))
    ∙ guards NoAtom (λ zs. refl) no_atom_both (λ i h. no_atom_test i (guard_is_test i h)) (typed_number (typed_contexts_of items) 0) (λ x. 0) 0 guard (Commit ∷ []))
    ∙ plus_nothing all

-- ---- membranes

-- a membrane of a head as it is found, by its index
abbrev pub found_membrane : ℕ → HeadMembrane → FoundMembrane
found_membrane i b = record { membrane = i + 1; inside = b.inside }

-- code in which no membrane is found
abbrev NoMembrane : List Instr → Type 0
NoMembrane xs = (ys : List Instr) → membranes_found (xs ++ ys) ≡ membranes_found ys

no_membrane_both : (xs ys : List Instr) → NoMembrane xs → NoMembrane ys → NoMembrane (xs ++ ys)
no_membrane_both xs ys h g zs = ap membranes_found (append_assoc xs ys zs) ∙ h (ys ++ zs) ∙ g zs

no_membrane_test : (i : Instr) → is_test i ≡ true → NoMembrane (i ∷ [])
no_membrane_test (AnyMem _ _) h ys = absurd (true≢false (sym h))
no_membrane_test _ h ys = refl

no_membrane_compared : (i : Instr) → compares i ≡ true → NoMembrane (i ∷ [])
no_membrane_compared (AnyMem _ _) h ys = absurd (true≢false (sym h))
no_membrane_compared _ h ys = refl

found_no_membrane : (n : ℕ) (a : HeadAtom) (e : Option Entry) → NoMembrane (found_code n a e)
found_no_membrane n a None ys = refl
found_no_membrane n a (Some e) ys = refl

atom_no_membrane : (items : List HeadItem) (n : ℕ) (a : HeadAtom) → NoMembrane (atom_code items n a)
atom_no_membrane items n a =
    let ds = differ_code n a 0 (take n (atoms_of items)) in
    let ps = ports_code items n a 0 a.links in
    no_membrane_both (found_code n a (entry items n a)) (ds ++ ps) (found_no_membrane n a (entry items n a))
    (no_membrane_both ds ps (differ NoMembrane (λ zs. refl) no_membrane_both no_membrane_compared n a 0 (take n (atoms_of items))) (ports NoMembrane (λ zs. refl) no_membrane_both no_membrane_compared items n a 0 a.links))

items_enter : (items : List HeadItem) (n i : ℕ) (xs : List HeadItem) (ys : List Instr) → membranes_found (items_code items n i xs ++ ys) ≡ numbered found_membrane i (membranes_of xs) ++ membranes_found ys
items_enter items n i [] ys = refl
items_enter items n i (Atom f ls m ∷ xs) ys =
    let a : HeadAtom = record { functor = f; links = ls; inside = m } in
    ap membranes_found (append_assoc (atom_code items n a) (items_code items (n + 1) i xs) ys) ∙ atom_no_membrane items n a (items_code items (n + 1) i xs ++ ys) ∙ items_enter items (n + 1) i xs ys
items_enter items n i (Typed p k l m ∷ xs) ys = items_enter items n i xs ys
items_enter items n i (Membrane m c d r ∷ xs) ys =
    let b : HeadMembrane = record { inside = m; has_context = c; has_closed_context = d; has_rule_context = r } in
    let none = differ_membrane NoMembrane (λ zs. refl) no_membrane_both no_membrane_compared (i + 1) b 1 (take i (membranes_of items)) in
    ap membranes_found (append_assoc (membrane_code items i b) (items_code items n (i + 1) xs) ys)
    ∙ ap (λ t. found_membrane i b ∷ t) (none (items_code items n (i + 1) xs ++ ys) ∙ items_enter items n (i + 1) xs ys)

-- The code of a head finds the membranes of the head.
pub head_enters : (items : List HeadItem) (guard : List Cond) → membranes_found (head_code items guard) ≡ numbered found_membrane 0 (membranes_of items)
head_enters items guard =
    let ps = parts_code items 0 (typed_contexts_of items) in
    let fs = all_filled_code items 1 (membranes_of items) in
    let gs = guard_code (typed_number (typed_contexts_of items) 0) (λ x. 0) 0 guard in
    let all = numbered found_membrane 0 (membranes_of items) in
    items_enter items 0 0 items (ps ++ (fs ++ (gs ++ (Commit ∷ []))))
    ∙ ap (λ t. all ++ t) (parts NoMembrane (λ zs. refl) no_membrane_both (λ i h. no_membrane_test i (part_is_test i h)) items 0 (typed_contexts_of items) (fs ++ (gs ++ (Commit ∷ [])))
    ∙ all_filled NoMembrane (λ zs. refl) no_membrane_both (λ i h. no_membrane_test i (membrane_is_test i h)) items 1 (membranes_of items) (gs ++ (Commit ∷ []))
    ∙ guards NoMembrane (λ zs. refl) no_membrane_both (λ i h. no_membrane_test i (guard_is_test i h)) (typed_number (typed_contexts_of items) 0) (λ x. 0) 0 guard (Commit ∷ []))
    ∙ plus_nothing all

-- ---- typed contexts

-- a typed context of a head as it is found at the place of its link
abbrev pub found_part : ℕ → HeadTyped → Option Port → List FoundPart
found_part g t None = []
found_part g t (Some p) = record { part = g; kind = t.kind; port = operand p; membrane = t.inside } ∷ []

-- several, of which the first has the number g
abbrev pub found_parts : List HeadItem → ℕ → List HeadTyped → List FoundPart
found_parts items g [] = []
found_parts items g (t ∷ ts) = found_part g t (find_port t.link (at_atoms 0 (atoms_of items))) ++ found_parts items (g + 1) ts

-- code in which none is found
abbrev NoPart : List Instr → Type 0
NoPart xs = (ys : List Instr) → parts_found (xs ++ ys) ≡ parts_found ys

no_part_both : (xs ys : List Instr) → NoPart xs → NoPart ys → NoPart (xs ++ ys)
no_part_both xs ys h g zs = ap parts_found (append_assoc xs ys zs) ∙ h (ys ++ zs) ∙ g zs

no_part_checked : (i : Instr) → is_check i ≡ true → NoPart (i ∷ [])
no_part_checked (IsInt _ _ _) h ys = absurd (true≢false (sym h))
no_part_checked (IsUnary _ _ _) h ys = absurd (true≢false (sym h))
no_part_checked (IsGround _ _ _) h ys = absurd (true≢false (sym h))
no_part_checked _ h ys = refl

no_part_filled : (i : Instr) → asks_membrane i ≡ true → NoPart (i ∷ [])
no_part_filled (IsInt _ _ _) h ys = absurd (true≢false (sym h))
no_part_filled (IsUnary _ _ _) h ys = absurd (true≢false (sym h))
no_part_filled (IsGround _ _ _) h ys = absurd (true≢false (sym h))
no_part_filled _ h ys = refl

no_part_guarded : (i : Instr) → is_of_guard i ≡ true → NoPart (i ∷ [])
no_part_guarded (IsInt _ _ _) h ys = absurd (true≢false (sym h))
no_part_guarded (IsUnary _ _ _) h ys = absurd (true≢false (sym h))
no_part_guarded (IsGround _ _ _) h ys = absurd (true≢false (sym h))
no_part_guarded _ h ys = refl

found_no_part : (n : ℕ) (a : HeadAtom) (e : Option Entry) → NoPart (found_code n a e)
found_no_part n a None ys = refl
found_no_part n a (Some e) ys = refl

test_finds : (k : TypeKind) (g : ℕ) (p : AtomPort) (m : ℕ) (ys : List Instr) → parts_found (test_of k g p m ∷ ys) ≡ (record { part = g; kind = k; port = p; membrane = m }) ∷ parts_found ys
test_finds kind.Int g p m ys = refl
test_finds kind.Unary g p m ys = refl
test_finds kind.Ground g p m ys = refl

part_finds : (g : ℕ) (t : HeadTyped) (p : Option Port) (ys : List Instr) → parts_found (part_code g t p ++ ys) ≡ found_part g t p ++ parts_found ys
part_finds g t None ys = refl
part_finds g t (Some p) ys = test_finds t.kind g (operand p) t.inside ys

parts_find : (items : List HeadItem) (g : ℕ) (ts : List HeadTyped) (ys : List Instr) → parts_found (parts_code items g ts ++ ys) ≡ found_parts items g ts ++ parts_found ys
parts_find items g [] ys = refl
parts_find items g (t ∷ ts) ys =
    let p = find_port t.link (at_atoms 0 (atoms_of items)) in
    ap parts_found (append_assoc (part_code g t p) (parts_code items (g + 1) ts) ys) ∙ part_finds g t p (parts_code items (g + 1) ts ++ ys)
    ∙ ap (λ zs. found_part g t p ++ zs) (parts_find items (g + 1) ts ys) ∙ sym (append_assoc (found_part g t p) (found_parts items (g + 1) ts) (parts_found ys))

-- The code of a head finds its typed contexts, each at the place of its link.
pub head_looks : (items : List HeadItem) (guard : List Cond) → parts_found (head_code items guard) ≡ found_parts items 0 (typed_contexts_of items)
head_looks items guard =
    let ps = parts_code items 0 (typed_contexts_of items) in
    let fs = all_filled_code items 1 (membranes_of items) in
    let gs = guard_code (typed_number (typed_contexts_of items) 0) (λ x. 0) 0 guard in
    let all = found_parts items 0 (typed_contexts_of items) in
    all_items NoPart (λ zs. refl) no_part_both found_no_part no_part_checked items 0 0 items (ps ++ (fs ++ (gs ++ (Commit ∷ []))))
    ∙ parts_find items 0 (typed_contexts_of items) (fs ++ (gs ++ (Commit ∷ [])))
    ∙ ap (λ t. all ++ t) (all_filled NoPart (λ zs. refl) no_part_both no_part_filled items 1 (membranes_of items) (gs ++ (Commit ∷ []))
    ∙ guards NoPart (λ zs. refl) no_part_both no_part_guarded (typed_number (typed_contexts_of items) 0) (λ x. 0) 0 guard (Commit ∷ []))
    ∙ plus_nothing all

-- ---- how many

pub numbered_length : {A B : Type 0} (f : ℕ → A → B) (n : ℕ) (xs : List A) → length (numbered f n xs) ≡ length xs
numbered_length f n [] = refl
numbered_length f n (x ∷ xs) = ap (λ k. suc k) (numbered_length f (n + 1) xs)

found_once : (items : List HeadItem) (g : ℕ) (t : HeadTyped) (p : Option Port) → (p ≡ None → ⊥) → length (found_part g t p) ≡ 1
found_once items g t None h = absurd (h refl)
found_once items g t (Some p) h = refl

found_parts_length : (items : List HeadItem) (g : ℕ) (ts : List HeadTyped) → ((k : ℕ) (t : HeadTyped) → slice_get ts k ≡ Some t → find_port t.link (at_atoms 0 (atoms_of items)) ≡ None → ⊥) → length (found_parts items g ts) ≡ length ts
found_parts_length items g [] h = refl
found_parts_length items g (t ∷ ts) h =
    let p = find_port t.link (at_atoms 0 (atoms_of items)) in
    let here = found_once items g t p (h 0 t refl) in
    let later = found_parts_length items (g + 1) ts (λ k u e. h (suc k) u e) in
    let all = length-append (found_part g t p) (found_parts items (g + 1) ts) in
    omega (arith, here, later, all)

pub head_looks_at_all : (items : List HeadItem) (guard : List Cond) → IsHead items → length (parts_found (head_code items guard)) ≡ length (typed_contexts_of items)
head_looks_at_all items guard head =
    ap length (head_looks items guard)
    ∙ found_parts_length items 0 (typed_contexts_of items) (λ k t e none. let w = head.held k t e in find_missed t.link (at_atoms 0 (atoms_of items)) w.0 none (stands_at items t.link w.0 w.1))
