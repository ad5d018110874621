-- The body of verified code: what it takes out, what it makes, what it drops, what it ties, and PROCEED.
use Rattle.std.proofs.Common.{◌≡◌, ◌+◌, ◌&&◌, ◌∙◌, ℕ, Bool, true, false, List, [], ◌∷◌, ◌++◌, map, length, drop, Option, Some, None, refl, sym, ap, arith, true≢false}
use Rattle.std.specs.Prelude.{if◌then◌else◌}
use Rattle.std.specs.List.{cons_option, filter_map, list_all}
use Rattle.std.proofs.lemmas.Bool.{eqb-true}
use Rattle.std.proofs.lemmas.List.{map-append}
use Rattle.lmn_base.proofs.Truth.{and_true}
use Rattle.lmn_congruence_splice.specs.Classes.{rising}
use Rattle.lmn_solid_bodies.specs.declared.items.BodyItem.{BodyItem}
use Rattle.lmn_solid_bodies.specs.Code.{making}
use Rattle.lmn_machine_commit.specs.Preparing.{BodyInOrder}
use Rattle.lmn_instr_code.specs.declared.instr.Code.{Code}
use Rattle.lmn_instr_code.specs.declared.instr.Instr.{Instr}
use Rattle.lmn_instr_code.specs.declared.instr.Instr.TheVariants.{RemoveAtom, RemovePart, RemoveMem, NewAtom, NewInt, NewMem, CopyGround, MoveCells, CopyCells, LoadRule, CopyRules, DropCells, NewLink, Relink, Unify, Proceed}
use Rattle.lmn_instr_code.specs.declared.words.Operand.{Operand}
use Rattle.lmn_instr_code.specs.declared.words.Operand.TheVariants.{Atom, Membrane, Part, Integer, Copy, Port, Functor as Of, Number, Constant}
use Rattle.lmn_verify_code.specs.Verified.{drops, drops_and_ties, is_empty, is_proceed, makes, makes_and_ties, registers_held, removes, takes_out, ties, ties_and_ends}
use Rattle.lmn_verify_laws.specs.Flat.{connected, made_item}
use Rattle.lmn_verify_laws.proofs.InOrder.{as_many}
use Rattle.lmn_verify_code.proofs.Common.{proceed_is}

-- ---- what is taken out

-- the instruction that takes out what a register holds
abbrev pub removal : Operand → Instr
removal (Atom a) = RemoveAtom a
removal (Part g) = RemovePart g
removal (Membrane m) = RemoveMem m
removal _ = Proceed

removal_is : (i : Instr) (o : Operand) → removes i o ≡ true → i ≡ removal o
removal_is (RemoveAtom a) (Atom b) e = ap RemoveAtom (eqb-true a b e)
removal_is (RemoveAtom a) (Membrane _) e = absurd (true≢false (sym e))
removal_is (RemoveAtom a) (Part _) e = absurd (true≢false (sym e))
removal_is (RemoveAtom a) (Integer _) e = absurd (true≢false (sym e))
removal_is (RemoveAtom a) (Copy _) e = absurd (true≢false (sym e))
removal_is (RemoveAtom a) (Port _) e = absurd (true≢false (sym e))
removal_is (RemoveAtom a) (Of _) e = absurd (true≢false (sym e))
removal_is (RemoveAtom a) (Number _) e = absurd (true≢false (sym e))
removal_is (RemoveAtom a) (Constant _) e = absurd (true≢false (sym e))
removal_is (RemovePart a) (Part b) e = ap RemovePart (eqb-true a b e)
removal_is (RemovePart a) (Atom _) e = absurd (true≢false (sym e))
removal_is (RemovePart a) (Membrane _) e = absurd (true≢false (sym e))
removal_is (RemovePart a) (Integer _) e = absurd (true≢false (sym e))
removal_is (RemovePart a) (Copy _) e = absurd (true≢false (sym e))
removal_is (RemovePart a) (Port _) e = absurd (true≢false (sym e))
removal_is (RemovePart a) (Of _) e = absurd (true≢false (sym e))
removal_is (RemovePart a) (Number _) e = absurd (true≢false (sym e))
removal_is (RemovePart a) (Constant _) e = absurd (true≢false (sym e))
removal_is (RemoveMem a) (Membrane b) e = ap RemoveMem (eqb-true a b e)
removal_is (RemoveMem a) (Atom _) e = absurd (true≢false (sym e))
removal_is (RemoveMem a) (Part _) e = absurd (true≢false (sym e))
removal_is (RemoveMem a) (Integer _) e = absurd (true≢false (sym e))
removal_is (RemoveMem a) (Copy _) e = absurd (true≢false (sym e))
removal_is (RemoveMem a) (Port _) e = absurd (true≢false (sym e))
removal_is (RemoveMem a) (Of _) e = absurd (true≢false (sym e))
removal_is (RemoveMem a) (Number _) e = absurd (true≢false (sym e))
removal_is (RemoveMem a) (Constant _) e = absurd (true≢false (sym e))
removal_is _ o e = absurd (true≢false (sym e))

pub taken_first : (os : List Operand) (is : List Instr) → takes_out os is ≡ true → is ≡ map removal os ++ drop (length os) is
taken_first [] is e = refl
taken_first (o ∷ os) [] e = absurd (true≢false (sym e))
taken_first (o ∷ os) (i ∷ is) e = let t = and_true (removes i o) (takes_out os is) e in λ j. removal_is i o t.0 j ∷ taken_first os is t.1 j

removal_atoms : (xs : List ℕ) → map removal (map Atom xs) ≡ map RemoveAtom xs
removal_atoms [] = refl
removal_atoms (x ∷ xs) = ap (λ l. RemoveAtom x ∷ l) (removal_atoms xs)

removal_parts : (xs : List ℕ) → map removal (map Part xs) ≡ map RemovePart xs
removal_parts [] = refl
removal_parts (x ∷ xs) = ap (λ l. RemovePart x ∷ l) (removal_parts xs)

removal_membranes : (xs : List ℕ) → map removal (map Membrane xs) ≡ map RemoveMem xs
removal_membranes [] = refl
removal_membranes (x ∷ xs) = ap (λ l. RemoveMem x ∷ l) (removal_membranes xs)

-- the instructions that take out what a head holds, by the numbers of its items
pub removals_are : (a g m : ℕ) → map removal (registers_held a g m) ≡ map RemoveAtom (rising 0 a) ++ (map RemovePart (rising 0 g) ++ map RemoveMem (rising 1 m))
removals_are a g m =
    map-append removal (map Atom (rising 0 a)) (map Part (rising 0 g) ++ map Membrane (rising 1 m))
    ∙ (λ i. removal_atoms (rising 0 a) i ++ (map-append removal (map Part (rising 0 g)) (map Membrane (rising 1 m)) ∙ (λ j. removal_parts (rising 0 g) j ++ removal_membranes (rising 1 m) j)) i)

-- ---- its sections

-- The rest of a body: what it makes, drops and ties.
pub record Sections (h k n : ℕ) (is : List Instr) : Type 0 where
  pub made : List Instr
  pub dropped : List Instr
  pub tied : List Instr
  pub whole : is ≡ made ++ (dropped ++ (tied ++ (Proceed ∷ [])))
  pub makes_all : list_all (makes h k) made ≡ true
  pub drops_all : list_all (drops h) dropped ≡ true
  pub ties_all : list_all (ties n) tied ≡ true

nothing_is : (is : List Instr) → is_empty is ≡ true → is ≡ []
nothing_is [] e = refl
nothing_is (i ∷ is) e = absurd (true≢false (sym e))

only_tied : (n : ℕ) (is : List Instr) → ties_and_ends n is ≡ true → (ts : List Instr) × (is ≡ ts ++ (Proceed ∷ [])) × (list_all (ties n) ts ≡ true)
only_tied n [] e = absurd (true≢false (sym e))
only_tied n (i ∷ is) e = by (is_proceed i) refl e (only_tied n is)
  where
    by : (b : Bool) → is_proceed i ≡ b → (if b then is_empty is else (ties n i && ties_and_ends n is)) ≡ true → (ties_and_ends n is ≡ true → (ts : List Instr) × (is ≡ ts ++ (Proceed ∷ [])) × (list_all (ties n) ts ≡ true)) →
        (ts : List Instr) × (i ∷ is ≡ ts ++ (Proceed ∷ [])) × (list_all (ties n) ts ≡ true)
    by true p e more = ([], (λ j. proceed_is i p j ∷ nothing_is is e j), refl)
    by false p e more = let t = and_true (ties n i) (ties_and_ends n is) e in let s = more t.1 in (i ∷ s.0, ap (λ l. i ∷ l) s.1, (λ j. t.0 j && s.2 j))

dropped_and_tied : (h n : ℕ) (is : List Instr) → drops_and_ties h n is ≡ true → (ds ts : List Instr) × (is ≡ ds ++ (ts ++ (Proceed ∷ []))) × (list_all (drops h) ds ≡ true) × (list_all (ties n) ts ≡ true)
dropped_and_tied h n [] e = absurd (true≢false (sym e))
dropped_and_tied h n (i ∷ is) e = by (drops h i) refl e (dropped_and_tied h n is)
  where
    by : (b : Bool) → drops h i ≡ b → (if b then drops_and_ties h n is else ties_and_ends n (i ∷ is)) ≡ true
        → (drops_and_ties h n is ≡ true → (ds ts : List Instr) × (is ≡ ds ++ (ts ++ (Proceed ∷ []))) × (list_all (drops h) ds ≡ true) × (list_all (ties n) ts ≡ true)) →
        (ds ts : List Instr) × (i ∷ is ≡ ds ++ (ts ++ (Proceed ∷ []))) × (list_all (drops h) ds ≡ true) × (list_all (ties n) ts ≡ true)
    by true p e more = let s = more e in (i ∷ s.0, s.1, ap (λ l. i ∷ l) s.2, (λ j. p j && s.3 j), s.4)
    by false p e more = let s = only_tied n (i ∷ is) e in ([], s.0, s.1, refl, s.2)

-- The rest of a verified body has these sections.
pub sections : (h k n : ℕ) (is : List Instr) → makes_and_ties h k n is ≡ true → Sections h k n is
sections h k n [] e = absurd (true≢false (sym e))
sections h k n (i ∷ is) e = by (makes h k i) refl e (sections h k n is)
  where
    by : (b : Bool) → makes h k i ≡ b → (if b then makes_and_ties h k n is else drops_and_ties h n (i ∷ is)) ≡ true → (makes_and_ties h k n is ≡ true → Sections h k n is) → Sections h k n (i ∷ is)
    by true p e more =
        let s = more e in
        record { made = i ∷ s.made; dropped = s.dropped; tied = s.tied; whole = ap (λ l. i ∷ l) s.whole; makes_all = λ j. p j && s.makes_all j; drops_all = s.drops_all; ties_all = s.ties_all }
    by false p e more =
        let s = dropped_and_tied h n (i ∷ is) e in
        record { made = []; dropped = s.0; tied = s.1; whole = s.2; makes_all = refl; drops_all = s.3; ties_all = s.4 }

-- ---- what it makes

no_making : (a m c j : ℕ) (is : List Instr) → making a m c (connected j is) ≡ []
no_making a m c j [] = refl
no_making a m c j (Unify p q ∷ is) = no_making a m c (j + 2) is
no_making a m c j (_ ∷ is) = no_making a m c (j + 2) is

-- what makes in order is what is made of its items
pub making_is : (code : Code) (h k j : ℕ) (js : List Instr) (a m g v c : ℕ) (is rest : List Instr) → list_all (makes h k) is ≡ true → BodyInOrder a m g v c (is ++ rest) → making a m c (filter_map (made_item code) is ++ connected j js) ≡ is
making_is code h k j js a m g v c [] rest e o = no_making a m c j js
making_is code h k j js a m g v c (NewAtom x y f ∷ is) rest e o =
    let t = and_true (makes h k (NewAtom x y f)) (list_all (makes h k) is) e in
    let w = as_many (is ++ rest) (a + 1) (a + 1) (m + 0) m (c + 0) c g v refl (omega arith) (omega arith) o.1 in
    let r = making_is code h k j js (a + 1) m g v c is rest t.1 w in
    (λ l. (NewAtom (sym o.0.0.0 l) y f) ∷ r l)
making_is code h k j js a m g v c (NewInt x y u ∷ is) rest e o =
    let t = and_true (makes h k (NewInt x y u)) (list_all (makes h k) is) e in
    let w = as_many (is ++ rest) (a + 1) (a + 1) (m + 0) m (c + 0) c g v refl (omega arith) (omega arith) o.1 in
    let r = making_is code h k j js (a + 1) m g v c is rest t.1 w in
    (λ l. (NewInt (sym o.0.0.0 l) y u) ∷ r l)
making_is code h k j js a m g v c (NewMem x y ∷ is) rest e o =
    let t = and_true (makes h k (NewMem x y)) (list_all (makes h k) is) e in
    let w = as_many (is ++ rest) (a + 0) a (m + 1) (m + 1) (c + 0) c g v (omega arith) refl (omega arith) o.1 in
    let r = making_is code h k j js a (m + 1) g v c is rest t.1 w in
    (λ l. (NewMem (sym o.0.0.0 l) y) ∷ r l)
making_is code h k j js a m g v c (CopyGround x y u ∷ is) rest e o =
    let t = and_true (makes h k (CopyGround x y u)) (list_all (makes h k) is) e in
    let w = as_many (is ++ rest) (a + 0) a (m + 0) m (c + 1) (c + 1) g v (omega arith) (omega arith) refl o.1 in
    let r = making_is code h k j js a m g v (c + 1) is rest t.1 w in
    (λ l. (CopyGround (sym o.0.0.0 l) y u) ∷ r l)
making_is code h k j js a m g v c (MoveCells x y ∷ is) rest e o =
    let t = and_true (makes h k (MoveCells x y)) (list_all (makes h k) is) e in
    let w = as_many (is ++ rest) (a + 0) a (m + 0) m (c + 0) c g v (omega arith) (omega arith) (omega arith) o.1 in
    let r = making_is code h k j js a m g v c is rest t.1 w in
    ap (λ l. (MoveCells x y) ∷ l) r
making_is code h k j js a m g v c (CopyCells x y ∷ is) rest e o =
    let t = and_true (makes h k (CopyCells x y)) (list_all (makes h k) is) e in
    let w = as_many (is ++ rest) (a + 0) a (m + 0) m (c + 0) c g v (omega arith) (omega arith) (omega arith) o.1 in
    let r = making_is code h k j js a m g v c is rest t.1 w in
    ap (λ l. (CopyCells x y) ∷ l) r
making_is code h k j js a m g v c (LoadRule x y ∷ is) rest e o =
    let t = and_true (makes h k (LoadRule x y)) (list_all (makes h k) is) e in
    let w = as_many (is ++ rest) (a + 0) a (m + 0) m (c + 0) c g v (omega arith) (omega arith) (omega arith) o.1 in
    let r = making_is code h k j js a m g v c is rest t.1 w in
    ap (λ l. (LoadRule x y) ∷ l) r
making_is code h k j js a m g v c (CopyRules x y ∷ is) rest e o =
    let t = and_true (makes h k (CopyRules x y)) (list_all (makes h k) is) e in
    let w = as_many (is ++ rest) (a + 0) a (m + 0) m (c + 0) c g v (omega arith) (omega arith) (omega arith) o.1 in
    let r = making_is code h k j js a m g v c is rest t.1 w in
    ap (λ l. (CopyRules x y) ∷ l) r
making_is code h k j js a m g v c (_ ∷ is) rest e o = absurd (true≢false (sym e))

-- what else a body does makes nothing
pub nothing_made : (code : Code) (test : Instr → Bool) → ((i : Instr) → test i ≡ true → made_item code i ≡ None) → (is ys : List Instr) → list_all test is ≡ true → filter_map (made_item code) (is ++ ys) ≡ filter_map (made_item code) ys
nothing_made code test f [] ys e = refl
nothing_made code test f (i ∷ is) ys e =
    let t = and_true (test i) (list_all test is) e in
    (λ l. cons_option (f i t.0 l) (filter_map (made_item code) (is ++ ys))) ∙ nothing_made code test f is ys t.1

-- DROPCELLS makes no item
pub no_item_dropped : (code : Code) (h : ℕ) (i : Instr) → drops h i ≡ true → made_item code i ≡ None
no_item_dropped code h (DropCells m) e = refl
no_item_dropped code h _ e = absurd (true≢false (sym e))

-- nor does what ties
pub no_item_tied : (code : Code) (n : ℕ) (i : Instr) → ties n i ≡ true → made_item code i ≡ None
no_item_tied code n (NewLink p q) e = refl
no_item_tied code n (Relink p q) e = refl
no_item_tied code n (Unify p q) e = refl
no_item_tied code n _ e = absurd (true≢false (sym e))

no_item_removed : (code : Code) (o : Operand) → made_item code (removal o) ≡ None
no_item_removed code (Atom _) = refl
no_item_removed code (Part _) = refl
no_item_removed code (Membrane _) = refl
no_item_removed code (Integer _) = refl
no_item_removed code (Copy _) = refl
no_item_removed code (Port _) = refl
no_item_removed code (Of _) = refl
no_item_removed code (Number _) = refl
no_item_removed code (Constant _) = refl

-- and what takes out adds none
pub nothing_removed : (code : Code) (os : List Operand) (ys : List Instr) → filter_map (made_item code) (map removal os ++ ys) ≡ filter_map (made_item code) ys
nothing_removed code [] ys = refl
nothing_removed code (o ∷ os) ys = (λ l. cons_option (no_item_removed code o l) (filter_map (made_item code) (map removal os ++ ys))) ∙ nothing_removed code os ys

-- the items of two codes, one behind the other, are those of both
pub items_append : (code : Code) (xs ys : List Instr) → filter_map (made_item code) (xs ++ ys) ≡ filter_map (made_item code) xs ++ filter_map (made_item code) ys
items_append code [] ys = refl
items_append code (x ∷ xs) ys = by (made_item code x) (items_append code xs ys)
  where
    by : (o : Option BodyItem) → filter_map (made_item code) (xs ++ ys) ≡ filter_map (made_item code) xs ++ filter_map (made_item code) ys
        → cons_option o (filter_map (made_item code) (xs ++ ys)) ≡ cons_option o (filter_map (made_item code) xs) ++ filter_map (made_item code) ys
    by None e = e
    by (Some y) e = ap (λ l. y ∷ l) e
