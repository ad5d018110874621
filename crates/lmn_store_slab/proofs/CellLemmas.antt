-- A change of one cell is a change of one atom.
use Rattle.std.proofs.Common.{◌≡◌, ℕ, zero, suc, ◌+◌, ◌<◌, ◌≤◌, List, [], ◌∷◌, ◌++◌, length, get_or, Option, Some, None, refl, sym, ap, ◌∙◌, inl, inr, arith}
use Rattle.std.proofs.lemmas.Bool.{cases_eq, eq-eqb}
use Rattle.std.proofs.lemmas.List.{get_or-set_same, get_or-set_other}
use Rattle.std.specs.Prelude.{slice_set, slice_get, replicate}
use Rattle.std.specs.Option.{option_map}
use Rattle.lmn_base.specs.declared.functor.Functor.{Functor}
use Rattle.lmn_store_heap.specs.Heap.{HeapAtom, alter, linked, with_mark, with_link, new_atom}
use Rattle.lmn_store_slab.specs.declared.cell.Port.{Port}
use Rattle.lmn_store_slab.specs.declared.cell.AtomCell.{AtomCell}
use Rattle.lmn_store_slab.specs.Cells.{port_partners, port_marks, atom_in_cell, atoms_in_cells, place_by}
use Rattle.lmn_base.proofs.Numbers.{not_equal as apart_test}

-- what is there stands below the length
pub within_some : {X : Type 0} (xs : List (Option X)) (a : ℕ) (x : X) → get_or xs a None ≡ Some x → a < length xs
within_some [] a x e = absurd (cc)
within_some (y ∷ xs) zero x e = omega arith
within_some (y ∷ xs) (suc a) x e = let r = within_some xs a x e in omega arith

-- any reading of cells
pub put : {X Y : Type 0} (slots : List (Option X)) (a : ℕ) (v : X → Y) (g : Y → Y) (old new : X) → get_or slots a None ≡ Some old → v new ≡ g (v old)
    → (λ k. option_map v (get_or (slice_set slots a (Some new)) k None)) ≡ alter (λ k. option_map v (get_or slots k None)) a (option_map g)
put {X} {Y} slots a v g old new at same = λ j k. by k j
  where
    by : (k : ℕ) → option_map v (get_or (slice_set slots a (Some new)) k None) ≡ alter (λ k. option_map v (get_or slots k None)) a (option_map g) k
    by k = elim (cases_eq k a) [
      | inl e ↦ rw (e, eq-eqb a a refl, get_or-set_same slots a (Some new) None (within_some slots a old at), at) (ap (λ (z : Y). Some z) same)
      | inr d ↦ rw (apart_test k a d, get_or-set_other slots a k (Some new) None d) refl
    ]

-- a cell that is changed changes its atom
pub put_atom : (slots : List (Option AtomCell)) (a : ℕ) (g : HeapAtom → HeapAtom) (old new : AtomCell) → get_or slots a None ≡ Some old → atom_in_cell new ≡ g (atom_in_cell old)
    → atoms_in_cells (slice_set slots a (Some new)) ≡ alter (atoms_in_cells slots) a (option_map g)
put_atom slots a g old new at same = put slots a atom_in_cell g old new at same

-- nothing is set behind the end
pub set_past : {A : Type 0} (xs : List A) (i : ℕ) (x : A) → length xs ≤ i → slice_set xs i x ≡ xs
set_past [] i x h = refl
set_past (y ∷ ys) zero x h = absurd (omega arith)
set_past (y ∷ ys) (suc i) x h = ap (λ zs. y ∷ zs) (set_past ys i x (omega arith))

-- as many partners as ports
pub length-partners : (ps : List Port) → length (port_partners ps) ≡ length ps
length-partners [] = refl
length-partners (p ∷ ps) = ap suc (length-partners ps)

partners-set : (ps : List Port) (i : ℕ) (p : Port) → port_partners (slice_set ps i p) ≡ slice_set (port_partners ps) i p.partner
partners-set [] i p = refl
partners-set (q ∷ ps) zero p = refl
partners-set (q ∷ ps) (suc i) p = ap (λ xs. q.partner ∷ xs) (partners-set ps i p)

partners-same : (ps : List Port) (i : ℕ) (p q : Port) → slice_get ps i ≡ Some q → p.partner ≡ q.partner → port_partners (slice_set ps i p) ≡ port_partners ps
partners-same [] i p q at e = refl
partners-same (r ∷ ps) zero p q at e = let w : r ≡ q = (cc) in ap (λ x. x ∷ port_partners ps) (e ∙ ap (λ (z : Port). z.partner) (sym w))
partners-same (r ∷ ps) (suc i) p q at e = ap (λ xs. r.partner ∷ xs) (partners-same ps i p q at e)

marks-same : (ps : List Port) (i : ℕ) (p q : Port) → slice_get ps i ≡ Some q → p.mark ≡ q.mark → port_marks (slice_set ps i p) ≡ port_marks ps
marks-same [] i p q at e = refl
marks-same (r ∷ ps) zero p q at e = let w : r ≡ q = (cc) in ap (λ x. x ∷ port_marks ps) (e ∙ ap (λ (z : Port). z.mark) (sym w))
marks-same (r ∷ ps) (suc i) p q at e = ap (λ xs. r.mark ∷ xs) (marks-same ps i p q at e)

marks-set : (ps : List Port) (i : ℕ) (p q : Port) (own : ℕ) → slice_get ps i ≡ Some q → port_marks (slice_set ps i p) ++ own ∷ [] ≡ slice_set (port_marks ps ++ own ∷ []) i p.mark
marks-set [] i p q own at = absurd (cc)
marks-set (r ∷ ps) zero p q own at = refl
marks-set (r ∷ ps) (suc i) p q own at = ap (λ xs. r.mark ∷ xs) (marks-set ps i p q own at)

own-set : (ps : List Port) (i own v : ℕ) → i ≡ length ps → port_marks ps ++ v ∷ [] ≡ slice_set (port_marks ps ++ own ∷ []) i v
own-set [] i own v e = rw e refl
own-set (r ∷ ps) i own v e = rw e (ap (λ xs. r.mark ∷ xs) (own-set ps (length ps) own v refl))

marks-past : (ps : List Port) (i own v : ℕ) → length ps < i → port_marks ps ++ own ∷ [] ≡ slice_set (port_marks ps ++ own ∷ []) i v
marks-past [] zero own v h = absurd (omega arith)
marks-past [] (suc i) own v h = refl
marks-past (r ∷ ps) zero own v h = absurd (omega arith)
marks-past (r ∷ ps) (suc i) own v h = ap (λ xs. r.mark ∷ xs) (marks-past ps i own v (omega arith))

-- The calls of `set_link` and `set_mark`, over plain values.
module _ (slots : List (Option AtomCell)) (a i : ℕ) (c : AtomCell) (at : get_or slots a None ≡ Some c) where
  pub link_set : (p : Option (ℕ × ℕ)) (q : Port) (ports : List Port) → slice_get c.ports i ≡ Some q → ports ≡ slice_set c.ports i (record { partner = p; mark = q.mark })
      → atoms_in_cells (slice_set slots a (Some (record { functor = c.functor; ports = ports; mark = c.mark; list = c.list }))) ≡ linked (atoms_in_cells slots) a i p
  link_set p q ports r e = put_atom slots a (with_link i p) c (record { functor = c.functor; ports = ports; mark = c.mark; list = c.list }) at (λ j. record {
    functor = c.functor;
    links = (ap port_partners e ∙ partners-set c.ports i (record { partner = p; mark = q.mark })) j;
    marks = (ap port_marks e ∙ marks-same c.ports i (record { partner = p; mark = q.mark }) q r refl) j ++ c.mark ∷ [];
    place = place_by c.list;
  })

  pub link_past : (p : Option (ℕ × ℕ)) → length c.ports ≤ i → atoms_in_cells (slice_set slots a (Some c)) ≡ linked (atoms_in_cells slots) a i p
  link_past p h = put_atom slots a (with_link i p) c c at (λ j. record {
    functor = c.functor;
    links = sym (set_past (port_partners c.ports) i p (rw (length-partners c.ports) h)) j;
    marks = port_marks c.ports ++ c.mark ∷ [];
    place = place_by c.list;
  })

  pub mark_set : (v : ℕ) (q : Port) (ports : List Port) → slice_get c.ports i ≡ Some q → ports ≡ slice_set c.ports i (record { partner = q.partner; mark = v })
      → atoms_in_cells (slice_set slots a (Some (record { functor = c.functor; ports = ports; mark = c.mark; list = c.list }))) ≡ alter (atoms_in_cells slots) a (option_map (with_mark i v))
  mark_set v q ports r e = put_atom slots a (with_mark i v) c (record { functor = c.functor; ports = ports; mark = c.mark; list = c.list }) at (λ j. record {
    functor = c.functor;
    links = (ap port_partners e ∙ partners-same c.ports i (record { partner = q.partner; mark = v }) q r refl) j;
    marks = (ap (λ ps. port_marks ps ++ c.mark ∷ []) e ∙ marks-set c.ports i (record { partner = q.partner; mark = v }) q c.mark r) j;
    place = place_by c.list;
  })

  pub own_set : (v : ℕ) → i ≡ length c.ports
      → atoms_in_cells (slice_set slots a (Some (record { functor = c.functor; ports = c.ports; mark = v; list = c.list }))) ≡ alter (atoms_in_cells slots) a (option_map (with_mark i v))
  own_set v e = put_atom slots a (with_mark i v) c (record { functor = c.functor; ports = c.ports; mark = v; list = c.list }) at (λ j. record {
    functor = c.functor;
    links = port_partners c.ports;
    marks = own-set c.ports i c.mark v e j;
    place = place_by c.list;
  })

  pub mark_past : (v : ℕ) → length c.ports < i → atoms_in_cells (slice_set slots a (Some c)) ≡ alter (atoms_in_cells slots) a (option_map (with_mark i v))
  mark_past v h = put_atom slots a (with_mark i v) c c at (λ j. record {
    functor = c.functor;
    links = port_partners c.ports;
    marks = marks-past c.ports i c.mark v h j;
    place = place_by c.list;
  })

-- a new atom
pub blank_is : (f : Functor) (ps : List Port) → ps ≡ replicate f.arity (record { partner = None; mark = 0 }) → atom_in_cell (record { functor = f; ports = ps; mark = 0; list = 0 }) ≡ new_atom f
blank_is f ps e = λ j. record {
  functor = f;
  links = (ap port_partners e ∙ none f.arity) j;
  marks = (ap (λ xs. port_marks xs ++ 0 ∷ []) e ∙ zeros f.arity) j;
  place = place_by 0;
}
  where
    none : (n : ℕ) → port_partners (replicate n (record { partner = None; mark = 0 })) ≡ replicate n None
    none zero = refl
    none (suc n) = ap (λ (xs : List (Option (ℕ × ℕ))). None ∷ xs) (none n)

    zeros : (n : ℕ) → port_marks (replicate n (record { partner = None; mark = 0 })) ++ 0 ∷ [] ≡ replicate (n + 1) 0
    zeros zero = refl
    zeros (suc n) = ap (λ xs. 0 ∷ xs) (zeros n) ∙ ap (λ k. replicate k 0) (let e : suc (n + 1) ≡ suc n + 1 = omega arith in e)
