-- The marks of membranes while a body is prepared and committed.
use Rattle.std.proofs.Common.{ℕ, ◌≡◌, ◌==◌, ◌&&◌, ◌⊎◌, inl, inr, Bool, true, false, cond, List, [], ◌∷◌, ◌++◌, map, Option, Some, None, IsSome, refl, sym, subst, ◌∙◌}
use Rattle.std.specs.Option.{option_map, option_and_then}
use Rattle.lmn_base.specs.Graphs.{Port}
use Rattle.lmn_store_heap.specs.Heap as heap
use Rattle.lmn_store_heap.specs.Heap.{Heap, HeapMem, Place, top, within, waiting, gone, alter, atoms_in, mems_in, rules_in, home_of, parent_of, link_of, mem_mark_by, mem_with_place, mem_with_atoms, mem_with_mems, mem_with_spare, mem_with_rules, new_mem, mem_unless_gone, placed, atom_out, mem_out, taken, mem_sent, emptied, filled, joined, without, taken_all}
use Rattle.lmn_ground_parts.specs.Copies.{answer, made_like, ports_of}
use Rattle.lmn_ground_parts.specs.Rests.{made_roomy, rest_copied, atoms_placed, membrane_placed, membranes_placed, copy_round, rest_placed, all_mems_taken, rest_taken}
use Rattle.lmn_store_heap.specs.Splice.{joined_to, joined_both}
use Rattle.lmn_congruence_splice.specs.Ties.{Tie, newlink, relink, unify}
use Rattle.lmn_instr_code.specs.declared.instr.Instr.{Instr}
use Rattle.lmn_instr_code.specs.declared.instr.Instr.TheVariants.{RemoveAtom, RemovePart, RemoveMem, NewAtom, NewInt, NewMem, CopyGround, MoveCells, CopyCells, LoadRule, CopyRules, DropCells, NewLink, Relink, Unify, Proceed}
use Rattle.lmn_solid_bodies.specs.Running.{Registers, Prepares, DoesAll, Makes, Does, all_placed, new_port, old_port}
use Rattle.lmn_solid_bodies.specs.Tied.{tied}
use Rattle.lmn_solid_bodies.proofs.RestsMade.{joined_lines}
use Rattle.lmn_solid_bodies.proofs.RestMems.{like_mems}

-- each membrane that is there was there, with the same mark
abbrev pub Kept : (ℕ → Option HeapMem) → (ℕ → Option HeapMem) → Type 0
Kept f g = (m : ℕ) → IsSome (g m) → IsSome (f m) × (mem_mark_by (g m) ≡ mem_mark_by (f m))

-- or it is new, and its mark is 0
abbrev pub Marked : (ℕ → Option HeapMem) → (ℕ → Option HeapMem) → Type 0
Marked f g = (m : ℕ) → IsSome (g m) → (IsSome (f m) × (mem_mark_by (g m) ≡ mem_mark_by (f m))) ⊎ (mem_mark_by (g m) ≡ 0)

pub kept_same : (f : ℕ → Option HeapMem) → Kept f f
kept_same f m i = (i, refl)

pub kept_on : (f g k : ℕ → Option HeapMem) → Kept f g → Kept g k → Kept f k
kept_on f g k a b m i = let y = b m i in let x = a m y.0 in (x.0, y.1 ∙ x.1)

marked_on : (f g k : ℕ → Option HeapMem) → Marked f g → Marked g k → Marked f k
marked_on f g k a b m i = elim (b m i) [ inl y ↦ elim (a m y.0) [ inl x ↦ inl (x.0, y.1 ∙ x.1) | inr z ↦ inr (y.1 ∙ z) ] | inr z ↦ inr z ]

kept_marked : (f g : ℕ → Option HeapMem) → Kept f g → Marked f g
kept_marked f g a m i = inl (a m i)

mapped : (f : HeapMem → HeapMem) → ((x : HeapMem) → (f x).mark ≡ x.mark) → (o : Option HeapMem) → IsSome (option_map f o) → IsSome o × (mem_mark_by (option_map f o) ≡ mem_mark_by o)
mapped f same None i = absurd (cc)
mapped f same (Some x) i = (refl, same x)

altered : (mems : ℕ → Option HeapMem) (k : ℕ) (f : HeapMem → HeapMem) → ((x : HeapMem) → (f x).mark ≡ x.mark) → Kept mems (alter mems k (option_map f))
altered mems k f same m i = by (m == k) i
  where
    by : (b : Bool) → IsSome (cond b (option_map f (mems m)) (mems m)) → IsSome (mems m) × (mem_mark_by (cond b (option_map f (mems m)) (mems m)) ≡ mem_mark_by (mems m))
    by true i = mapped f same (mems m) i
    by false i = (i, refl)

atom_leaves : (mems : ℕ → Option HeapMem) (o : Option ℕ) (a : ℕ) → Kept mems (atom_out mems o a)
atom_leaves mems None a = kept_same mems
atom_leaves mems (Some m) a = altered mems m (mem_with_atoms (without a)) (λ x. refl)

mem_leaves : (mems : ℕ → Option HeapMem) (o : Option ℕ) (n : ℕ) → Kept mems (mem_out mems o n)
mem_leaves mems None n = kept_same mems
mem_leaves mems (Some m) n = altered mems m (mem_with_mems (without n)) (λ x. refl)

atoms_leave : (ns : List ℕ) (s : Heap) → Kept s.mems (taken_all s ns).mems
atoms_leave [] s = kept_same s.mems
atoms_leave (a ∷ ns) s = kept_on s.mems (taken s a).mems (taken_all (taken s a) ns).mems (atom_leaves s.mems (home_of s a) a) (atoms_leave ns (taken s a))

atom_comes : (s : Heap) (m a : ℕ) → Kept s.mems (placed s m a).mems
atom_comes s m a = altered s.mems m (mem_with_atoms (λ xs. xs ++ a ∷ [])) (λ x. refl)

atoms_come : (es : List (ℕ × ℕ)) (s : Heap) → Kept s.mems (all_placed s es).mems
atoms_come [] s = kept_same s.mems
atoms_come (e ∷ es) s = kept_on s.mems (placed s e.0 e.1).mems (all_placed (placed s e.0 e.1) es).mems (atom_comes s e.0 e.1) (atoms_come es (placed s e.0 e.1))

moved : (s : Heap) (m n : ℕ) → Kept s.mems (heap.moved_all s m n).mems
moved s m n =
    let one = alter s.mems m (option_map emptied) in
    let two = alter one n (option_map (filled (atoms_in s m) (mems_in s m))) in
    kept_on s.mems one (heap.moved_all s m n).mems (altered s.mems m emptied (λ x. refl))
    (kept_on one two (heap.moved_all s m n).mems (altered one n (filled (atoms_in s m) (mems_in s m)) (λ x. refl)) (λ k i. mapped (mem_sent m n) (λ x. refl) (two k) i))

freed : (s : Heap) → Kept s.mems (heap.finished s).mems
freed s m i = by (s.mems m) i
  where
    at : (y : HeapMem) (p : Place) → IsSome (elim p as (λ p. Option HeapMem) [ top ↦ Some y | within m ↦ Some y | waiting ↦ Some y | gone ↦ None ])
        → mem_mark_by (elim p as (λ p. Option HeapMem) [ top ↦ Some y | within m ↦ Some y | waiting ↦ Some y | gone ↦ None ]) ≡ y.mark
    at y top i = refl
    at y (within m) i = refl
    at y waiting i = refl
    at y gone i = absurd (cc)

    by : (o : Option HeapMem) → IsSome (option_and_then mem_unless_gone o) → IsSome o × (mem_mark_by (option_and_then mem_unless_gone o) ≡ mem_mark_by o)
    by None i = absurd (cc)
    by (Some y) i = (refl, at y y.place i)

to_mems : (s : Heap) (a i : ℕ) (o : Option (ℕ × ℕ)) → (joined_to s a i o).mems ≡ s.mems
to_mems s a i None = refl
to_mems s a i (Some c) = refl

both_mems : (s : Heap) (b j : ℕ) (o u : Option (ℕ × ℕ)) → (joined_both s b j o u).mems ≡ s.mems
both_mems s b j None u = refl
both_mems s b j (Some c) None = refl
both_mems s b j (Some c) (Some d) = by ((c.0 == b) && (c.1 == j))
  where
    by : (t : Bool) → (cond t s (joined s c.0 c.1 d.0 d.1)).mems ≡ s.mems
    by true = refl
    by false = refl

tied_mems : (t : Tie Port) (s : Heap) → (tied s t).mems ≡ s.mems
tied_mems (newlink p q) s = refl
tied_mems (relink p o) s = to_mems s p.0 p.1 (link_of s o.0 o.1)
tied_mems (unify g o) s = both_mems s o.0 o.1 (link_of s g.0 g.1) (link_of s o.0 o.1)

-- ---- rests

mem_comes : (s : Heap) (y x : ℕ) → Kept s.mems (heap.placed_mem s y x).mems
mem_comes s y x =
    kept_on s.mems (alter s.mems x (option_map (mem_with_place (within y)))) _ (altered s.mems x (mem_with_place (within y)) (λ z. refl))
    (altered (alter s.mems x (option_map (mem_with_place (within y)))) y (mem_with_mems (λ xs. xs ++ x ∷ [])) (λ z. refl))

copies_come : (copy : ℕ → ℕ) (n : ℕ) (xs : List ℕ) (s : Heap) → Kept s.mems (atoms_placed copy s n xs).mems
copies_come copy n [] s = kept_same s.mems
copies_come copy n (a ∷ xs) s = kept_on s.mems (placed s n (copy a)).mems (atoms_placed copy (placed s n (copy a)) n xs).mems (atom_comes s n (copy a)) (copies_come copy n xs (placed s n (copy a)))

membrane_comes : (copy_mem copy : ℕ → ℕ) (s : Heap) (m : ℕ) → Kept s.mems (membrane_placed copy_mem copy s m).mems
membrane_comes copy_mem copy s m =
    let n = copy_mem m in
    let t = heap.placed_mem s (copy_round copy_mem (parent_of s m)) n in
    kept_on s.mems t.mems (membrane_placed copy_mem copy s m).mems (mem_comes s (copy_round copy_mem (parent_of s m)) n)
    (kept_on t.mems (heap.rules_copied t m n).mems (membrane_placed copy_mem copy s m).mems (altered t.mems n (mem_with_rules (rules_in t m)) (λ x. refl)) (copies_come copy n (atoms_in s m) (heap.rules_copied t m n)))

membranes_come : (copy_mem copy : ℕ → ℕ) (ms : List ℕ) (s : Heap) → Kept s.mems (membranes_placed copy_mem copy s ms).mems
membranes_come copy_mem copy [] s = kept_same s.mems
membranes_come copy_mem copy (m ∷ ms) s =
    kept_on s.mems (membrane_placed copy_mem copy s m).mems (membranes_placed copy_mem copy (membrane_placed copy_mem copy s m) ms).mems (membrane_comes copy_mem copy s m) (membranes_come copy_mem copy ms (membrane_placed copy_mem copy s m))

rest_comes : (s : Heap) (m n : ℕ) (atoms ms copies new_ms : List ℕ) → Kept s.mems (rest_placed s m n atoms ms copies new_ms).mems
rest_comes s m n atoms ms copies new_ms =
    let t = atoms_placed (answer atoms copies) s n (atoms_in s m) in
    kept_on s.mems t.mems (rest_placed s m n atoms ms copies new_ms).mems (copies_come (answer atoms copies) n (atoms_in s m) s) (membranes_come (answer (m ∷ ms) (n ∷ new_ms)) (answer atoms copies) ms t)

mem_goes : (s : Heap) (n : ℕ) → Kept s.mems (heap.taken_mem s n).mems
mem_goes s n =
    kept_on s.mems (mem_out s.mems (parent_of s n) n) _ (mem_leaves s.mems (parent_of s n) n) (altered (mem_out s.mems (parent_of s n) n) n (mem_with_place gone) (λ x. refl))

mems_go : (ms : List ℕ) (s : Heap) → Kept s.mems (all_mems_taken s ms).mems
mems_go [] s = kept_same s.mems
mems_go (m ∷ ms) s = kept_on s.mems (heap.taken_mem s m).mems (all_mems_taken (heap.taken_mem s m) ms).mems (mem_goes s m) (mems_go ms (heap.taken_mem s m))

rest_goes : (s : Heap) (atoms ms : List ℕ) → Kept s.mems (rest_taken s atoms ms).mems
rest_goes s atoms ms = kept_on s.mems (taken_all s atoms).mems (rest_taken s atoms ms).mems (atoms_leave atoms s) (mems_go ms (taken_all s atoms))

at : (s u t : Heap) → t ≡ u → Kept s.mems u.mems → Kept s.mems t.mems
at s u t e k = subst (λ (z : Heap). Kept s.mems z.mems) (sym e) k

tie : (t : Tie Port) (s u : Heap) → u ≡ tied s t → Kept s.mems u.mems
tie t s u e = at s (tied s t) u e (subst (λ z. Kept s.mems z) (sym (tied_mems t s)) (kept_same s.mems))

does : (r : Registers) (i : Instr) (s t : Heap) → Does r i s t → Kept s.mems t.mems
does r (RemoveAtom a) s t w = at s _ t w (atom_leaves s.mems (home_of s (r.head.images.atom a)) (r.head.images.atom a))
does r (RemovePart g) s t w = at s _ t w.3 (atoms_leave w.0 s)
does r (RemoveMem m) s t w = at s _ t w (mem_goes s (r.head.images.membrane m))
does r (NewAtom a m f) s t w = at s _ t w.1 (atom_comes s (r.head.images.membrane m) (r.head.images.atom a))
does r (NewInt a m v) s t w = at s _ t w.1 (atom_comes s (r.head.images.membrane m) (r.head.images.atom a))
does r (NewMem m n) s t w = at s _ t w.1 (mem_comes s (r.head.images.membrane n) (r.head.images.membrane m))
does r (CopyGround c m g) s t w = at s _ t w.2 (atoms_come (map (λ a. (r.head.images.membrane m, a)) (r.copied c)) s)
does r (MoveCells m n) s t w = at s _ t w (moved s (r.head.images.membrane m) (r.head.images.membrane n))
does r (CopyCells m n) s t w = at s _ t w.3 (rest_comes s (r.head.images.membrane m) (r.head.images.membrane n) (r.left_atoms m) (r.left_membranes m) w.0 w.1)
does r (DropCells m) s t w = at s _ t w.1 (rest_goes s (r.left_atoms m) (r.left_membranes m))
does r (LoadRule m k) s t w = at s _ t w (altered s.mems (r.head.images.membrane m) (mem_with_rules (k ∷ [])) (λ x. refl))
does r (CopyRules m n) s t w = at s _ t w (altered s.mems (r.head.images.membrane n) (mem_with_rules (rules_in s (r.head.images.membrane m))) (λ x. refl))
does r (NewLink p q) s t w = tie (newlink (new_port r p) (new_port r q)) s t w
does r (Relink p h) s t w = tie (relink (new_port r p) (old_port r h)) s t w
does r (Unify g h) s t w = tie (unify (old_port r g) (old_port r h)) s t w
does r Proceed s t w = at s _ t w (freed s)
does r _ s t w = absurd w

-- what code does leaves the marks of membranes
pub marks_stay : (r : Registers) (is : List Instr) (s t : Heap) → DoesAll r is s t → Kept s.mems t.mems
marks_stay r [] s t w = at s s t w (kept_same s.mems)
marks_stay r (i ∷ is) s t w = kept_on s.mems w.0.mems t.mems (does r i s w.0 w.1) (marks_stay r is w.0 t w.2)

made : (s : Heap) (m : ℕ) → Marked s.mems (alter s.mems m (λ _. Some new_mem))
made s m k i = by (k == m) i
  where
    by : (b : Bool) → IsSome (cond b (Some new_mem) (s.mems k)) → (IsSome (s.mems k) × (mem_mark_by (cond b (Some new_mem) (s.mems k)) ≡ mem_mark_by (s.mems k))) ⊎ (mem_mark_by (cond b (Some new_mem) (s.mems k)) ≡ 0)
    by true i = inr refl
    by false i = inl (i, refl)

marked_at : (s u t : Heap) → t ≡ u → Marked s.mems u.mems → Marked s.mems t.mems
marked_at s u t e k = subst (λ (z : Heap). Marked s.mems z.mems) (sym e) k

roomy : (es : List (ℕ × ℕ)) (s : Heap) → Marked s.mems (made_roomy s es).mems
roomy [] s = kept_marked s.mems s.mems (kept_same s.mems)
roomy (e ∷ es) s =
    let t = heap.made_mem s e.0 in
    let u = heap.reserved t e.0 e.1 in
    marked_on s.mems t.mems (made_roomy u es).mems (made s e.0) (marked_on t.mems u.mems (made_roomy u es).mems (kept_marked t.mems u.mems (altered t.mems e.0 (mem_with_spare e.1) (λ x. refl))) (roomy es u))

rest_made : (s : Heap) (xs ys : List ℕ) (rooms : List (ℕ × ℕ)) → Marked s.mems (rest_copied s xs rooms ys).mems
rest_made s xs ys rooms =
    let t = made_roomy s rooms in
    let like = made_like t xs ys in
    subst (λ z. Marked s.mems z) (sym ((joined_lines (answer xs ys) like (ports_of like xs)).1 ∙ (like_mems xs ys t).0)) (roomy rooms s)

makes : (r : Registers) (i : Instr) (s t : Heap) → Makes r i s t → Marked s.mems t.mems
makes r (RemoveAtom a) s t w = marked_at s s t w (kept_marked s.mems s.mems (kept_same s.mems))
makes r (RemovePart g) s t w = marked_at s s t w (kept_marked s.mems s.mems (kept_same s.mems))
makes r (RemoveMem m) s t w = marked_at s s t w (kept_marked s.mems s.mems (kept_same s.mems))
makes r (NewAtom a m f) s t w = marked_at s _ t w.1 (kept_marked s.mems s.mems (kept_same s.mems))
makes r (NewInt a m v) s t w = marked_at s _ t w.1 (kept_marked s.mems s.mems (kept_same s.mems))
makes r (NewMem m n) s t w = marked_at s _ t w.1 (made s (r.head.images.membrane m))
makes r (CopyGround c m g) s t w = subst (λ z. Marked s.mems z) (sym w.0.beside.mems) (kept_marked s.mems s.mems (kept_same s.mems))
makes r (MoveCells m n) s t w = marked_at s s t w (kept_marked s.mems s.mems (kept_same s.mems))
makes r (CopyCells m n) s t w = marked_at s _ t w.2.is (rest_made s (r.left_atoms m) w.0 w.1)
makes r (DropCells m) s t w = marked_at s s t w (kept_marked s.mems s.mems (kept_same s.mems))
makes r (LoadRule m k) s t w = marked_at s _ t w.1 (kept_marked s.mems _ (altered s.mems (r.head.images.membrane m) (mem_with_spare w.0) (λ x. refl)))
makes r (CopyRules m n) s t w = marked_at s _ t w.1 (kept_marked s.mems _ (altered s.mems (r.head.images.membrane n) (mem_with_spare w.0) (λ x. refl)))
makes r (NewLink p q) s t w = marked_at s s t w (kept_marked s.mems s.mems (kept_same s.mems))
makes r (Relink p h) s t w = marked_at s s t w (kept_marked s.mems s.mems (kept_same s.mems))
makes r (Unify g h) s t w = marked_at s s t w (kept_marked s.mems s.mems (kept_same s.mems))
makes r Proceed s t w = marked_at s s t w (kept_marked s.mems s.mems (kept_same s.mems))
makes r _ s t w = absurd w

-- what is made is awake, and all else has its mark
pub made_awake : (r : Registers) (is : List Instr) (s t : Heap) → Prepares r is s t → Marked s.mems t.mems
made_awake r [] s t w = marked_at s s t w (kept_marked s.mems s.mems (kept_same s.mems))
made_awake r (i ∷ is) s t w = marked_on s.mems w.0.mems t.mems (makes r i s w.0 w.1) (made_awake r is w.0 t w.2)

-- ---- the root stays
