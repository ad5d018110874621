-- The rules in membranes after the code of a body: each stood in a membrane before, or is loaded by the code.
use Rattle.std.proofs.Common.{ℕ, ◌≡◌, Bool, true, false, cond, List, [], ◌∷◌, ◌++◌, map, Option, Some, None, inl, inr, refl, sym, subst, ◌∙◌}
use Rattle.std.specs.Prelude.{◌==◌, ◌&&◌}
use Rattle.std.specs.Option.{option_map, option_and_then}
use Rattle.std.specs.List.{AllByRecursion}
use Rattle.lmn_store_heap.specs.Heap as heap
use Rattle.lmn_store_heap.specs.Heap.{Heap, HeapMem, Place, top, within, waiting, gone, alter, rules_by, rules_in, atoms_in, mems_in, home_of, parent_of, link_of, mem_with_place, mem_with_atoms, mem_with_mems, mem_with_spare, mem_with_rules, new_mem, mem_unless_gone, placed, atom_out, mem_out, taken, mem_sent, emptied, filled, joined, without, taken_all}
use Rattle.lmn_store_heap.specs.Splice.{joined_to, joined_both}
use Rattle.lmn_ground_parts.specs.Copies.{answer, made_like, ports_of}
use Rattle.lmn_ground_parts.specs.Rests.{made_roomy, rest_copied, atoms_placed, membrane_placed, membranes_placed, copy_round, rest_placed, all_mems_taken, rest_taken}
use Rattle.lmn_solid_bodies.proofs.RestMems.{like_mems}
use Rattle.lmn_solid_bodies.proofs.RestsMade.{joined_lines}
use Rattle.lmn_congruence_splice.specs.Ties.{Tie, newlink, relink, unify}
use Rattle.lmn_instr_code.specs.declared.instr.Instr.{Instr}
use Rattle.lmn_instr_code.specs.declared.instr.Instr.TheVariants.{RemoveAtom, RemovePart, RemoveMem, NewAtom, NewInt, NewMem, CopyGround, MoveCells, CopyCells, LoadRule, CopyRules, DropCells, NewLink, Relink, Unify, Proceed}
use Rattle.lmn_solid_bodies.specs.Running.{Registers, Prepares, DoesAll, RunsBody, Makes, Does, all_placed, new_port, old_port}
use Rattle.lmn_solid_bodies.specs.Tied.{tied}
use Rattle.lmn_schedule_strategy.specs.Turns.{Loads}
use Rattle.lmn_base.specs.Graphs.{Port}
use Rattle.lmn_base.specs.Lists.{In}
use Rattle.lmn_base.proofs.Lists.{in_either}

module _ (P : ℕ → Type 0) where
  -- each rule of each membrane is one of these
  abbrev pub AllRules : (ℕ → Option HeapMem) → Type 0
  AllRules mems = (m k : ℕ) → In k (rules_by (mems m)) → P k

  -- a change of membranes leaves such rules
  abbrev Keeps : (HeapMem → HeapMem) → Type 0
  Keeps f = (y : HeapMem) → ((k : ℕ) → In k y.rules → P k) → (k : ℕ) → In k (f y).rules → P k

  mapped : (f : HeapMem → HeapMem) → Keeps f → (o : Option HeapMem) → ((k : ℕ) → In k (rules_by o) → P k) → (k : ℕ) → In k (rules_by (option_map f o)) → P k
  mapped f keep None all k i = absurd i
  mapped f keep (Some y) all k i = keep y all k i

  altered : (mems : ℕ → Option HeapMem) (m : ℕ) (f : HeapMem → HeapMem) → Keeps f → AllRules mems → AllRules (alter mems m (option_map f))
  altered mems m f keep all x k i = by (x == m) i
    where
      by : (b : Bool) → In k (rules_by (cond b (option_map f (mems x)) (mems x))) → P k
      by true i = mapped f keep (mems x) (all x) k i
      by false i = all x k i

  atom_leaves : (mems : ℕ → Option HeapMem) (o : Option ℕ) (a : ℕ) → AllRules mems → AllRules (atom_out mems o a)
  atom_leaves mems None a all = all
  atom_leaves mems (Some m) a all = altered mems m (mem_with_atoms (without a)) (λ y r. r) all

  mem_leaves : (mems : ℕ → Option HeapMem) (o : Option ℕ) (n : ℕ) → AllRules mems → AllRules (mem_out mems o n)
  mem_leaves mems None n all = all
  mem_leaves mems (Some m) n all = altered mems m (mem_with_mems (without n)) (λ y r. r) all

  atoms_leave : (ns : List ℕ) (s : Heap) → AllRules s.mems → AllRules (taken_all s ns).mems
  atoms_leave [] s all = all
  atoms_leave (a ∷ ns) s all = atoms_leave ns (taken s a) (atom_leaves s.mems (home_of s a) a all)

  atom_comes : (s : Heap) (m a : ℕ) → AllRules s.mems → AllRules (placed s m a).mems
  atom_comes s m a all = altered s.mems m (mem_with_atoms (λ xs. xs ++ a ∷ [])) (λ y r. r) all

  atoms_come : (es : List (ℕ × ℕ)) (s : Heap) → AllRules s.mems → AllRules (all_placed s es).mems
  atoms_come [] s all = all
  atoms_come (e ∷ es) s all = atoms_come es (placed s e.0 e.1) (atom_comes s e.0 e.1 all)

  rules_come : (s : Heap) (m : ℕ) (ks : List ℕ) → ((k : ℕ) → In k ks → P k) → AllRules s.mems → AllRules (alter s.mems m (option_map (mem_with_rules ks)))
  rules_come s m ks new all = altered s.mems m (mem_with_rules ks) (λ y r k i. elim (in_either k y.rules ks i) [ inl j ↦ r k j | inr j ↦ new k j ]) all

  made : (s : Heap) (m : ℕ) → AllRules s.mems → AllRules (alter s.mems m (λ _. Some new_mem))
  made s m all x k i = by (x == m) i
    where
      by : (b : Bool) → In k (rules_by (cond b (Some new_mem) (s.mems x))) → P k
      by true i = absurd i
      by false i = all x k i

  -- a rest is copied: new membranes have no rules
  roomy : (es : List (ℕ × ℕ)) (s : Heap) → AllRules s.mems → AllRules (made_roomy s es).mems
  roomy [] s all = all
  roomy (e ∷ es) s all = roomy es (heap.reserved (heap.made_mem s e.0) e.0 e.1) (altered (heap.made_mem s e.0).mems e.0 (mem_with_spare e.1) (λ y q. q) (made s e.0 all))

  rest_made : (s : Heap) (xs ys : List ℕ) (rooms : List (ℕ × ℕ)) → AllRules s.mems → AllRules (rest_copied s xs rooms ys).mems
  rest_made s xs ys rooms all =
      let t = made_roomy s rooms in
      let like = made_like t xs ys in
      subst (λ z. AllRules z) (sym ((joined_lines (answer xs ys) like (ports_of like xs)).1 ∙ (like_mems xs ys t).0)) (roomy rooms s all)

  mem_comes : (s : Heap) (y x : ℕ) → AllRules s.mems → AllRules (heap.placed_mem s y x).mems
  mem_comes s y x all =
      altered (alter s.mems x (option_map (mem_with_place (within y)))) y (mem_with_mems (λ xs. xs ++ x ∷ [])) (λ z q. q) (altered s.mems x (mem_with_place (within y)) (λ z q. q) all)

  copies_come : (copy : ℕ → ℕ) (n : ℕ) (xs : List ℕ) (s : Heap) → AllRules s.mems → AllRules (atoms_placed copy s n xs).mems
  copies_come copy n [] s all = all
  copies_come copy n (a ∷ xs) s all = copies_come copy n xs (placed s n (copy a)) (atom_comes s n (copy a) all)

  -- and each copy of a membrane gets the rules of its original
  membrane_comes : (copy_mem copy : ℕ → ℕ) (s : Heap) (m : ℕ) → AllRules s.mems → AllRules (membrane_placed copy_mem copy s m).mems
  membrane_comes copy_mem copy s m all =
      let n = copy_mem m in
      let t = heap.placed_mem s (copy_round copy_mem (parent_of s m)) n in
      let here = mem_comes s (copy_round copy_mem (parent_of s m)) n all in
      copies_come copy n (atoms_in s m) (heap.rules_copied t m n) (rules_come t n (rules_in t m) (here m) here)

  membranes_come : (copy_mem copy : ℕ → ℕ) (ms : List ℕ) (s : Heap) → AllRules s.mems → AllRules (membranes_placed copy_mem copy s ms).mems
  membranes_come copy_mem copy [] s all = all
  membranes_come copy_mem copy (m ∷ ms) s all = membranes_come copy_mem copy ms (membrane_placed copy_mem copy s m) (membrane_comes copy_mem copy s m all)

  rest_comes : (s : Heap) (m n : ℕ) (atoms ms copies new_ms : List ℕ) → AllRules s.mems → AllRules (rest_placed s m n atoms ms copies new_ms).mems
  rest_comes s m n atoms ms copies new_ms all =
      membranes_come (answer (m ∷ ms) (n ∷ new_ms)) (answer atoms copies) ms (atoms_placed (answer atoms copies) s n (atoms_in s m)) (copies_come (answer atoms copies) n (atoms_in s m) s all)

  mem_goes : (s : Heap) (n : ℕ) → AllRules s.mems → AllRules (heap.taken_mem s n).mems
  mem_goes s n all = altered (mem_out s.mems (parent_of s n) n) n (mem_with_place gone) (λ y q. q) (mem_leaves s.mems (parent_of s n) n all)

  mems_go : (ms : List ℕ) (s : Heap) → AllRules s.mems → AllRules (all_mems_taken s ms).mems
  mems_go [] s all = all
  mems_go (m ∷ ms) s all = mems_go ms (heap.taken_mem s m) (mem_goes s m all)

  rest_goes : (s : Heap) (atoms ms : List ℕ) → AllRules s.mems → AllRules (rest_taken s atoms ms).mems
  rest_goes s atoms ms all = mems_go ms (taken_all s atoms) (atoms_leave atoms s all)

  moved : (s : Heap) (m n : ℕ) → AllRules s.mems → AllRules (heap.moved_all s m n).mems
  moved s m n all x k i =
      let first = altered s.mems m emptied (λ y r. r) all in
      let second = altered (alter s.mems m (option_map emptied)) n (filled (atoms_in s m) (mems_in s m)) (λ y r. r) first in
      mapped (mem_sent m n) (λ y r. r) (alter (alter s.mems m (option_map emptied)) n (option_map (filled (atoms_in s m) (mems_in s m))) x) (second x) k i

  freed : (s : Heap) → AllRules s.mems → AllRules (heap.finished s).mems
  freed s all x k i = by (s.mems x) (all x k) i
    where
      kept : (y : HeapMem) (p : Place) → In k (rules_by (elim p as (λ p. Option HeapMem) [ top ↦ Some y | within m ↦ Some y | waiting ↦ Some y | gone ↦ None ])) → In k y.rules
      kept y top i = i
      kept y (within m) i = i
      kept y waiting i = i
      kept y gone i = absurd i

      by : (o : Option HeapMem) → (In k (rules_by o) → P k) → In k (rules_by (option_and_then mem_unless_gone o)) → P k
      by None r i = absurd i
      by (Some y) r i = r (kept y y.place i)

  -- ties change no membrane
  to_mems : (s : Heap) (a i : ℕ) (o : Option (ℕ × ℕ)) → (joined_to s a i o).mems ≡ s.mems
  to_mems s a i None = refl
  to_mems s a i (Some c) = refl

  both_mems : (s : Heap) (b j : ℕ) (o u : Option (ℕ × ℕ)) → (joined_both s b j o u).mems ≡ s.mems
  both_mems s b j None u = refl
  both_mems s b j (Some c) None = refl
  both_mems s b j (Some c) (Some d) = by ((c.0 == b) && (c.1 == j))
    where
      by : (t : Bool) → (cond t s (joined s c.0 c.1 d.0 d.1)).mems ≡ s.mems
      by true = refl
      by false = refl

  tied_mems : (t : Tie Port) (s : Heap) → (tied s t).mems ≡ s.mems
  tied_mems (newlink p q) s = refl
  tied_mems (relink p o) s = to_mems s p.0 p.1 (link_of s o.0 o.1)
  tied_mems (unify g o) s = both_mems s o.0 o.1 (link_of s g.0 g.1) (link_of s o.0 o.1)

  at : (s t : Heap) → t ≡ s → AllRules s.mems → AllRules t.mems
  at s t e all = subst (λ (z : Heap). AllRules z.mems) (sym e) all

  tie : (t : Tie Port) (s u : Heap) → u ≡ tied s t → AllRules s.mems → AllRules u.mems
  tie t s u e all = at (tied s t) u e (subst (λ z. AllRules z) (sym (tied_mems t s)) all)

  makes : (r : Registers) (i : Instr) (s t : Heap) → Makes r i s t → AllRules s.mems → AllRules t.mems
  makes r (RemoveAtom a) s t w all = at s t w all
  makes r (RemovePart g) s t w all = at s t w all
  makes r (RemoveMem m) s t w all = at s t w all
  makes r (NewAtom a m f) s t w all = at _ t w.1 all
  makes r (NewInt a m v) s t w all = at _ t w.1 all
  makes r (NewMem m n) s t w all = at _ t w.1 (made s (r.head.images.membrane m) all)
  makes r (CopyGround c m g) s t w all = subst (λ z. AllRules z) (sym w.0.beside.mems) all
  makes r (MoveCells m n) s t w all = at s t w all
  makes r (CopyCells m n) s t w all = at _ t w.2.is (rest_made s (r.left_atoms m) w.0 w.1 all)
  makes r (DropCells m) s t w all = at s t w all
  makes r (LoadRule m k) s t w all = at _ t w.1 (altered s.mems (r.head.images.membrane m) (mem_with_spare w.0) (λ y q. q) all)
  makes r (CopyRules m n) s t w all = at _ t w.1 (altered s.mems (r.head.images.membrane n) (mem_with_spare w.0) (λ y q. q) all)
  makes r (NewLink p q) s t w all = at s t w all
  makes r (Relink p h) s t w all = at s t w all
  makes r (Unify g h) s t w all = at s t w all
  makes r Proceed s t w all = at s t w all
  makes r _ s t w all = absurd w

  does : (r : Registers) (i : Instr) (s t : Heap) → Loads P i → Does r i s t → AllRules s.mems → AllRules t.mems
  does r (RemoveAtom a) s t l w all = at _ t w (atom_leaves s.mems (home_of s (r.head.images.atom a)) (r.head.images.atom a) all)
  does r (RemovePart g) s t l w all = at _ t w.3 (atoms_leave w.0 s all)
  does r (RemoveMem m) s t l w all =
      let n = r.head.images.membrane m in
      at _ t w (altered (mem_out s.mems (parent_of s n) n) n (mem_with_place gone) (λ y q. q) (mem_leaves s.mems (parent_of s n) n all))
  does r (NewAtom a m f) s t l w all = at _ t w.1 (atom_comes s (r.head.images.membrane m) (r.head.images.atom a) all)
  does r (NewInt a m v) s t l w all = at _ t w.1 (atom_comes s (r.head.images.membrane m) (r.head.images.atom a) all)
  does r (NewMem m n) s t l w all =
      let x = r.head.images.membrane m in
      let y = r.head.images.membrane n in
      at _ t w.1 (altered (alter s.mems x (option_map (mem_with_place (within y)))) y (mem_with_mems (λ xs. xs ++ x ∷ [])) (λ z q. q) (altered s.mems x (mem_with_place (within y)) (λ z q. q) all))
  does r (CopyGround c m g) s t l w all = at _ t w.2 (atoms_come (map (λ a. (r.head.images.membrane m, a)) (r.copied c)) s all)
  does r (MoveCells m n) s t l w all = at _ t w (moved s (r.head.images.membrane m) (r.head.images.membrane n) all)
  does r (CopyCells m n) s t l w all = at _ t w.3 (rest_comes s (r.head.images.membrane m) (r.head.images.membrane n) (r.left_atoms m) (r.left_membranes m) w.0 w.1 all)
  does r (DropCells m) s t l w all = at _ t w.1 (rest_goes s (r.left_atoms m) (r.left_membranes m) all)
  does r (LoadRule m k) s t l w all = at _ t w (rules_come s (r.head.images.membrane m) (k ∷ []) (λ j i. elim i [ inl e ↦ subst P e l | inr v ↦ absurd v ]) all)
  does r (CopyRules m n) s t l w all = at _ t w (rules_come s (r.head.images.membrane n) (rules_in s (r.head.images.membrane m)) (all (r.head.images.membrane m)) all)
  does r (NewLink p q) s t l w all = tie (newlink (new_port r p) (new_port r q)) s t w all
  does r (Relink p h) s t l w all = tie (relink (new_port r p) (old_port r h)) s t w all
  does r (Unify g h) s t l w all = tie (unify (old_port r g) (old_port r h)) s t w all
  does r Proceed s t l w all = at _ t w (freed s all)
  does r _ s t l w all = absurd w

  prepares : (r : Registers) (is : List Instr) (s t : Heap) → Prepares r is s t → AllRules s.mems → AllRules t.mems
  prepares r [] s t w all = at s t w all
  prepares r (i ∷ is) s t w all = prepares r is w.0 t w.2 (makes r i s w.0 w.1 all)

  commits : (r : Registers) (is : List Instr) (s t : Heap) → AllByRecursion (Loads P) is → DoesAll r is s t → AllRules s.mems → AllRules t.mems
  commits r [] s t l w all = at s t w all
  commits r (i ∷ is) s t l w all = commits r is w.0 t l.1 w.2 (does r i s w.0 l.0 w.1 all)

  -- where the code loads such rules, and such stood in membranes before, such do after it
  pub rules_kept : (r : Registers) (code : List Instr) (h h' : Heap) → AllByRecursion (Loads P) code → RunsBody r code h h' → AllRules h.mems → AllRules h'.mems
  rules_kept r code h h' l w all = commits r code w.0 h' l w.2 (prepares r code h w.0 w.1 all)
