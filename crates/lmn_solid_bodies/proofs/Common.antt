-- Lemmas that several crates above cite.
use Rattle.lmn_base.proofs.Common.{of_map}
use Rattle.lmn_base.proofs.Lists.{in_either}
use Rattle.lmn_base.specs.Graphs.{Port}
use Rattle.lmn_base.specs.Lists.{In}
use Rattle.lmn_congruence_splice.specs.Ties.{Tie, newlink, relink, unify}
use Rattle.lmn_ground_parts.proofs.AnswerLaws.{answer_in}
use Rattle.lmn_ground_parts.proofs.Common.{copies_root, mems_taken_root}
use Rattle.lmn_ground_parts.specs.Copies.{answer}
use Rattle.lmn_ground_parts.specs.Rests.{copy_round, membrane_placed, membranes_placed, atoms_placed, rest_placed}
use Rattle.lmn_instr_code.specs.declared.instr.Instr.{Instr}
use Rattle.lmn_instr_code.specs.declared.instr.Instr.TheVariants.{CopyCells, CopyGround, CopyRules, DropCells, LoadRule, MoveCells, NewAtom, NewInt, NewLink, NewMem, Proceed, Relink, RemoveAtom, RemoveMem, RemovePart, Unify}
use Rattle.lmn_solid_bodies.proofs.AddedLemmas.{AreWholeRests, in_if, long_enough}
use Rattle.lmn_solid_bodies.proofs.RestGrowing.{in_given}
use Rattle.lmn_solid_bodies.specs.Added.{added_mems, if_inside, made_mems, moved_mems}
use Rattle.lmn_solid_bodies.specs.RestCopies.{AreAsLong, RestCopies, copied_into, copied_membrane, given, later, rest_membranes}
use Rattle.lmn_solid_bodies.specs.Running.{all_placed, Does, Registers, new_port, old_port, DoesAll}
use Rattle.lmn_solid_bodies.specs.Tied.{tied}
use Rattle.lmn_solid_bodies.specs.declared.items.BodyItem.{BodyItem}
use Rattle.lmn_solid_bodies.specs.declared.items.BodyItem.TheVariants.{Atom, Bound, Connector, Copy, Membrane, Rest, Rule, Rules}
use Rattle.lmn_store_heap.proofs.Common.{taken_root}
use Rattle.lmn_store_heap.proofs.ListLemmas.{in_left, in_right}
use Rattle.lmn_store_heap.specs.Heap.{Heap, joined, link_of, placed, atoms_in, parent_of, placed_mem, rules_copied, taken_all}
use Rattle.lmn_store_heap.specs.Splice.{joined_both, joined_to}
use Rattle.std.proofs.Common.{Bool, None, Option, Some, cond, false, refl, true, ℕ, ◌&&◌, ◌==◌, ◌≡◌, List, [], ◌∷◌, ◌∙◌, ap, map, inl, inr, subst, ◌+◌, ◌⊎◌}

pub tied_root : (t : Tie Port) (s : Heap) → (tied s t).root ≡ s.root
tied_root (newlink p q) s = refl
tied_root (relink p o) s = by (link_of s o.0 o.1)
  where
    by : (x : Option (ℕ × ℕ)) → (joined_to s p.0 p.1 x).root ≡ s.root
    by None = refl
    by (Some c) = refl
tied_root (unify g o) s = by (link_of s g.0 g.1) (link_of s o.0 o.1)
  where
    cut : (t : Bool) (c d : ℕ × ℕ) → (cond t s (joined s c.0 c.1 d.0 d.1)).root ≡ s.root
    cut true c d = refl
    cut false c d = refl

    by : (x y : Option (ℕ × ℕ)) → (joined_both s o.0 o.1 x y).root ≡ s.root
    by None y = refl
    by (Some c) None = refl
    by (Some c) (Some d) = cut ((c.0 == o.0) && (c.1 == o.1)) c d

pub placed_root : (es : List (ℕ × ℕ)) (s : Heap) → (all_placed s es).root ≡ s.root
placed_root [] s = refl
placed_root (e ∷ es) s = placed_root es (placed s e.0 e.1)

pub membranes_root : (copy_mem copy : ℕ → ℕ) (ms : List ℕ) (s : Heap) → (membranes_placed copy_mem copy s ms).root ≡ s.root
membranes_root copy_mem copy [] s = refl
membranes_root copy_mem copy (m ∷ ms) s =
    membranes_root copy_mem copy ms (membrane_placed copy_mem copy s m)
    ∙ copies_root copy (copy_mem m) (atoms_in s m) (rules_copied (placed_mem s (copy_round copy_mem (parent_of s m)) (copy_mem m)) m (copy_mem m))

pub rest_placed_root : (s : Heap) (m n : ℕ) (atoms ms copies new_ms : List ℕ) → (rest_placed s m n atoms ms copies new_ms).root ≡ s.root
rest_placed_root s m n atoms ms copies new_ms =
    membranes_root (answer (m ∷ ms) (n ∷ new_ms)) (answer atoms copies) ms (atoms_placed (answer atoms copies) s n (atoms_in s m)) ∙ copies_root (answer atoms copies) n (atoms_in s m) s

pub does_root : (r : Registers) (i : Instr) (s t : Heap) → Does r i s t → t.root ≡ s.root
does_root r (RemoveAtom a) s t w = ap (λ z. z.root) w
does_root r (RemovePart g) s t w = ap (λ z. z.root) w.3 ∙ taken_root w.0 s
does_root r (RemoveMem m) s t w = ap (λ z. z.root) w
does_root r (NewAtom a m f) s t w = ap (λ z. z.root) w.1
does_root r (NewInt a m v) s t w = ap (λ z. z.root) w.1
does_root r (NewMem m n) s t w = ap (λ z. z.root) w.1
does_root r (CopyGround c m g) s t w = ap (λ z. z.root) w.2 ∙ placed_root (map (λ a. (r.head.images.membrane m, a)) (r.copied c)) s
does_root r (MoveCells m n) s t w = ap (λ z. z.root) w
does_root r (CopyCells m n) s t w = ap (λ z. z.root) w.3 ∙ rest_placed_root s (r.head.images.membrane m) (r.head.images.membrane n) (r.left_atoms m) (r.left_membranes m) w.0 w.1
does_root r (DropCells m) s t w = ap (λ z. z.root) w.1 ∙ (mems_taken_root (r.left_membranes m) (taken_all s (r.left_atoms m)) ∙ taken_root (r.left_atoms m) s)
does_root r (LoadRule m k) s t w = ap (λ z. z.root) w
does_root r (CopyRules m n) s t w = ap (λ z. z.root) w
does_root r (NewLink p q) s t w = ap (λ z. z.root) w
does_root r (Relink p h) s t w = ap (λ z. z.root) w ∙ tied_root (relink (new_port r p) (old_port r h)) s
does_root r (Unify g h) s t w = ap (λ z. z.root) w ∙ tied_root (unify (old_port r g) (old_port r h)) s
does_root r Proceed s t w = ap (λ z. z.root) w
does_root r _ s t w = absurd w

pub commits_root : (r : Registers) (is : List Instr) (s t : Heap) → DoesAll r is s t → t.root ≡ s.root
commits_root r [] s t w = ap (λ z. z.root) w
commits_root r (i ∷ is) s t w = commits_root r is w.0 t w.2 ∙ does_root r i s w.0 w.1

-- an added membrane is made, or was left of one that moves
pub mems_moved : (r : Registers) (qs : RestCopies) (left left_mems : ℕ → List ℕ) (m : ℕ) (body : List BodyItem) → AreAsLong r qs body → AreWholeRests r left left_mems body → (x b : ℕ) → In b (added_mems r qs left_mems m body x) → In b (made_mems r qs m body) ⊎ ((k : ℕ) × In k (moved_mems r body) × In b (left_mems k))
mems_moved r qs left left_mems m [] lo wh x b i = absurd i
mems_moved r qs left left_mems m (Atom functor links inside ∷ xs) lo wh x b i = mems_moved r qs left left_mems m xs lo wh x b i
mems_moved r qs left left_mems m (Connector l l' ∷ xs) lo wh x b i = mems_moved r qs left left_mems m xs lo wh x b i
mems_moved r qs left left_mems m (Copy part link inside ∷ xs) lo wh x b i = mems_moved r qs left left_mems m xs lo wh x b i
mems_moved r qs left left_mems m (Bound integer link inside ∷ xs) lo wh x b i = mems_moved r qs left left_mems m xs lo wh x b i
mems_moved r qs left left_mems m (Membrane inside ∷ xs) lo wh x b i = elim (in_either b (if_inside r x inside (r.head.images.membrane m ∷ [])) (added_mems r qs left_mems (m + 1) xs x) i) [
  | inl j ↦ elim (in_if r x inside (r.head.images.membrane m ∷ []) b j) [ inl e ↦ inl (inl e) | inr v ↦ absurd v ]
  | inr j ↦ elim (mems_moved r qs left left_mems (m + 1) xs lo wh x b j) [ inl v ↦ inl (inr v) | inr v ↦ inr v ]
]
mems_moved r qs left left_mems m (Rest of false inside ∷ xs) lo wh x b i = elim (in_either b (if_inside r x inside (left_mems (r.head.images.membrane of))) (added_mems r qs left_mems m xs x) i) [
  | inl j ↦ inr (r.head.images.membrane of, inl refl, in_if r x inside (left_mems (r.head.images.membrane of)) b j)
  | inr j ↦ elim (mems_moved r qs left left_mems m xs lo wh x b j) [ inl v ↦ inl v | inr v ↦ inr (v.0, inr v.1, v.2) ]
]
mems_moved r qs left left_mems m (Rest of true inside ∷ xs) lo wh x b i =
    let p = qs 0 in
    let G = given (λ k. map (copied_membrane r of p) (left_mems k)) (copied_into r of inside p) (rest_membranes r of) x in
    elim (in_either b G (added_mems r (later qs) left_mems m xs x) i) [
      | inl j ↦ (let w = in_given (λ k. map (copied_membrane r of p) (left_mems k)) (copied_into r of inside p) (rest_membranes r of) x b j in
          let v = of_map (copied_membrane r of p) b (left_mems w.0) w.3 in
          inl (in_left b p.membranes (made_mems r (later qs) m xs) (subst (λ z. In z p.membranes) v.2 (answer_in (r.left_membranes of) p.membranes v.0 (long_enough lo.0.1) ((wh of (inl refl)).into_mems w.0 v.0 w.1 v.1)))))
      | inr j ↦ elim (mems_moved r (later qs) left left_mems m xs lo.1 (λ o m. wh o (inr m)) x b j) [ inl v ↦ inl (in_right b p.membranes (made_mems r (later qs) m xs) v) | inr v ↦ inr v ]
    ]
mems_moved r qs left left_mems m (Rule rule inside ∷ xs) lo wh x b i = mems_moved r qs left left_mems m xs lo wh x b i
mems_moved r qs left left_mems m (Rules of inside ∷ xs) lo wh x b i = mems_moved r qs left left_mems m xs lo wh x b i
