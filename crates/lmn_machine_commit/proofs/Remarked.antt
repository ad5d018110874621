-- What the instructions of a body do where membranes have other marks.
use Rattle.std.proofs.Common.{ℕ, zero, suc, ◌≡◌, ◌==◌, ◌&&◌, ◌≤◌, Bool, true, false, cond, List, [], ◌∷◌, ◌++◌, map, Option, Some, None, IsSome, refl, sym, ap, subst, ◌∙◌, length}
use Rattle.std.specs.Option.{option_map, option_and_then}
use Rattle.lmn_base.specs.Graphs.{Port}
use Rattle.lmn_store_heap.specs.Heap.{Heap, HeapMem, Place, top, within, waiting, gone, alter, IsMem, IsMemInPlace, IsTopOrWithin, home_by, home_of, parent_of, mem_place_of, rules_by, rules_in, spare_by, spare_of, atoms_by, atoms_in, mems_by, mems_in, link_of, mem_with_mark, mem_with_place, mem_with_atoms, mem_with_mems, mem_with_rules, emptied, filled, mem_sent, mem_unless_gone, without, atom_out, mem_out, taken, taken_mem, taken_all, placed, placed_mem, moved_all, rule_added, rules_copied, finished, joined}
use Rattle.lmn_store_heap.specs.Conditions.{Above, Ready}
use Rattle.lmn_solid_bodies.proofs.Contents.{content_on}
use Rattle.lmn_ground_parts.specs.Copies.{answer}
use Rattle.lmn_ground_parts.specs.Rests.{CopyWaits, IsContent, atoms_placed, membrane_placed, membranes_placed, copy_round, rest_placed, all_mems_taken, rest_taken}
use Rattle.lmn_store_heap.specs.Splice.{joined_to, joined_both}
use Rattle.lmn_congruence_splice.specs.Ties.{Tie, newlink, relink, unify}
use Rattle.lmn_instr_code.specs.declared.instr.Instr.{Instr}
use Rattle.lmn_instr_code.specs.declared.instr.Instr.TheVariants.{RemoveAtom, RemovePart, RemoveMem, NewAtom, NewInt, NewMem, CopyGround, MoveCells, CopyCells, LoadRule, CopyRules, DropCells, NewLink, Relink, Unify, Proceed}
use Rattle.lmn_solid_bodies.specs.Tied.{tied}
use Rattle.lmn_solid_bodies.specs.Running.{Registers, Does, DoesAll, all_placed, old_port, new_port}
use Rattle.lmn_solid_bodies.specs.Conditions.{Can}
use Rattle.lmn_machine_commit.specs.Committing.{Runs, Stands}

-- ---- rests on heaps with the same lists

module _ (s t : Heap) (lists : (m : ℕ) → atoms_in t m ≡ atoms_in s m) (inner : (m : ℕ) → mems_in t m ≡ mems_in s m) where
  content_there : (m : ℕ) (atoms membranes : List ℕ) → IsContent s m atoms membranes → IsContent t m atoms membranes
  content_there m atoms membranes w = content_on s t m atoms membranes (λ q i. (lists q, inner q)) w

  waits_on : ((m : ℕ) → rules_in t m ≡ rules_in s m) → ((m : ℕ) → spare_of t m ≡ spare_of s m) → t.new_atoms ≡ s.new_atoms → t.new_mems ≡ s.new_mems →
      (m n : ℕ) (atoms membranes copies new_membranes : List ℕ) → CopyWaits s m n atoms membranes copies new_membranes → CopyWaits t m n atoms membranes copies new_membranes
  waits_on rules spares line line_of_mems m n atoms membranes copies new_membranes w = record {
    content = content_there m atoms membranes w.content;
    outside = w.outside;
    long = w.long;
    line = (w.line.0, line ∙ w.line.1);
    long_membranes = w.long_membranes;
    line_of_membranes = (w.line_of_membranes.0, line_of_mems ∙ w.line_of_membranes.1);
    roomy = λ k x y e f. subst (λ ks. length ks ≤ spare_of t y) (sym (rules x)) (subst (λ n. length (rules_in s x) ≤ n) (sym (spares y)) (w.roomy k x y e f));
  }

module _ (v : ℕ → ℕ) where
  -- each membrane with its mark by v
  abbrev pub with_marks : (ℕ → Option HeapMem) → ℕ → Option HeapMem
  with_marks mems m = option_map (mem_with_mark (v m)) (mems m)

  abbrev pub remarked : Heap → Heap
  remarked s = record s { mems = with_marks s.mems }

  altered : (mems : ℕ → Option HeapMem) (k : ℕ) (f : HeapMem → HeapMem) → ((n : ℕ) (x : HeapMem) → f (mem_with_mark n x) ≡ mem_with_mark n (f x)) → alter (with_marks mems) k (option_map f) ≡ with_marks (alter mems k (option_map f))
  altered mems k f commute = λ i m. at m (m == k) (mems m) i
    where
      at : (m : ℕ) (b : Bool) (o : Option HeapMem) →
          cond b (option_map f (option_map (mem_with_mark (v m)) o)) (option_map (mem_with_mark (v m)) o) ≡ option_map (mem_with_mark (v m)) (cond b (option_map f o) o)
      at m true None = refl
      at m true (Some x) = ap (λ y. Some y) (commute (v m) x)
      at m false o = refl

  atom_leaves : (mems : ℕ → Option HeapMem) (o : Option ℕ) (a : ℕ) → atom_out (with_marks mems) o a ≡ with_marks (atom_out mems o a)
  atom_leaves mems None a = refl
  atom_leaves mems (Some m) a = altered mems m (mem_with_atoms (without a)) (λ n x. refl)

  mem_leaves : (mems : ℕ → Option HeapMem) (o : Option ℕ) (n : ℕ) → mem_out (with_marks mems) o n ≡ with_marks (mem_out mems o n)
  mem_leaves mems None n = refl
  mem_leaves mems (Some m) n = altered mems m (mem_with_mems (without n)) (λ k x. refl)

  taken_so : (s : Heap) (a : ℕ) → taken (remarked s) a ≡ remarked (taken s a)
  taken_so s a = ap (λ (mems : ℕ → Option HeapMem). let u : Heap = record (taken s a) { mems = mems } in u) (atom_leaves s.mems (home_of s a) a)

  all_taken_so : (ns : List ℕ) (s : Heap) → taken_all (remarked s) ns ≡ remarked (taken_all s ns)
  all_taken_so [] s = refl
  all_taken_so (a ∷ ns) s = ap (λ (u : Heap). taken_all u ns) (taken_so s a) ∙ all_taken_so ns (taken s a)

  place_so : (o : Option HeapMem) (n : ℕ) → option_map (λ x. x.place) (option_map (mem_with_mark n) o) ≡ option_map (λ x. x.place) o
  place_so None n = refl
  place_so (Some x) n = refl

  home_so : (o : Option HeapMem) (n : ℕ) → option_and_then (λ x. home_by x.place) (option_map (mem_with_mark n) o) ≡ option_and_then (λ x. home_by x.place) o
  home_so None n = refl
  home_so (Some x) n = refl

  parents : (s : Heap) (m : ℕ) → parent_of (remarked s) m ≡ parent_of s m
  parents s m = home_so (s.mems m) (v m)

  places : (s : Heap) (m : ℕ) → mem_place_of (remarked s) m ≡ mem_place_of s m
  places s m = place_so (s.mems m) (v m)

  rules_so : (o : Option HeapMem) (n : ℕ) → rules_by (option_map (mem_with_mark n) o) ≡ rules_by o
  rules_so None n = refl
  rules_so (Some x) n = refl

  spare_so : (o : Option HeapMem) (n : ℕ) → spare_by (option_map (mem_with_mark n) o) ≡ spare_by o
  spare_so None n = refl
  spare_so (Some x) n = refl

  atoms_so : (o : Option HeapMem) (n : ℕ) → atoms_by (option_map (mem_with_mark n) o) ≡ atoms_by o
  atoms_so None n = refl
  atoms_so (Some x) n = refl

  mems_so : (o : Option HeapMem) (n : ℕ) → mems_by (option_map (mem_with_mark n) o) ≡ mems_by o
  mems_so None n = refl
  mems_so (Some x) n = refl

  there_so : (o : Option HeapMem) (n : ℕ) → IsSome o → IsSome (option_map (mem_with_mark n) o)
  there_so None n i = i
  there_so (Some x) n i = refl

  taken_mem_so : (s : Heap) (n : ℕ) → taken_mem (remarked s) n ≡ remarked (taken_mem s n)
  taken_mem_so s n =
      let out : mem_out (with_marks s.mems) (parent_of (remarked s) n) n ≡ with_marks (mem_out s.mems (parent_of s n) n) =
      ap (λ o. mem_out (with_marks s.mems) o n) (parents s n) ∙ mem_leaves s.mems (parent_of s n) n in
      ap (λ (mems : ℕ → Option HeapMem). let u : Heap = record s { mems = mems } in u)
      (ap (λ (mems : ℕ → Option HeapMem). alter mems n (option_map (mem_with_place gone))) out ∙ altered (mem_out s.mems (parent_of s n) n) n (mem_with_place gone) (λ k x. refl))

  placed_so : (s : Heap) (m a : ℕ) → placed (remarked s) m a ≡ remarked (placed s m a)
  placed_so s m a = ap (λ (mems : ℕ → Option HeapMem). let u : Heap = record (placed s m a) { mems = mems } in u) (altered s.mems m (mem_with_atoms (λ xs. xs ++ a ∷ [])) (λ k x. refl))

  all_placed_so : (es : List (ℕ × ℕ)) (s : Heap) → all_placed (remarked s) es ≡ remarked (all_placed s es)
  all_placed_so [] s = refl
  all_placed_so (e ∷ es) s = ap (λ (u : Heap). all_placed u es) (placed_so s e.0 e.1) ∙ all_placed_so es (placed s e.0 e.1)

  placed_mem_so : (s : Heap) (m n : ℕ) → placed_mem (remarked s) m n ≡ remarked (placed_mem s m n)
  placed_mem_so s m n =
      ap (λ (mems : ℕ → Option HeapMem). let u : Heap = record (placed_mem s m n) { mems = mems } in u)
      (ap (λ (mems : ℕ → Option HeapMem). alter mems m (option_map (mem_with_mems (λ xs. xs ++ n ∷ [])))) (altered s.mems n (mem_with_place (within m)) (λ k x. refl))
      ∙ altered (alter s.mems n (option_map (mem_with_place (within m)))) m (mem_with_mems (λ xs. xs ++ n ∷ [])) (λ k x. refl))

  sent_so : (m n k : ℕ) (o : Option HeapMem) → option_map (mem_sent m n) (option_map (mem_with_mark k) o) ≡ option_map (mem_with_mark k) (option_map (mem_sent m n) o)
  sent_so m n k None = refl
  sent_so m n k (Some x) = refl

  moved_so : (s : Heap) (m n : ℕ) → moved_all (remarked s) m n ≡ remarked (moved_all s m n)
  moved_so s m n =
      let one : alter (with_marks s.mems) m (option_map emptied) ≡ with_marks (alter s.mems m (option_map emptied)) = altered s.mems m emptied (λ k x. refl) in
      let as' : atoms_in (remarked s) m ≡ atoms_in s m = atoms_so (s.mems m) (v m) in
      let ms : mems_in (remarked s) m ≡ mems_in s m = mems_so (s.mems m) (v m) in
      let two : alter (alter (with_marks s.mems) m (option_map emptied)) n (option_map (filled (atoms_in (remarked s) m) (mems_in (remarked s) m))) ≡ with_marks (alter (alter s.mems m (option_map emptied)) n (option_map (filled (atoms_in s m) (mems_in s m)))) =
      (λ i. alter (one i) n (option_map (filled (as' i) (ms i)))) ∙ altered (alter s.mems m (option_map emptied)) n (filled (atoms_in s m) (mems_in s m)) (λ k x. refl) in
      let three : (λ k. option_map (mem_sent m n) (alter (alter (with_marks s.mems) m (option_map emptied)) n (option_map (filled (atoms_in (remarked s) m) (mems_in (remarked s) m))) k)) ≡ with_marks (moved_all s m n).mems =
      ap (λ (mems : ℕ → Option HeapMem). λ k. option_map (mem_sent m n) (mems k)) two ∙ (λ i k. sent_so m n (v k) (alter (alter s.mems m (option_map emptied)) n (option_map (filled (atoms_in s m) (mems_in s m))) k) i) in
      ap (λ (mems : ℕ → Option HeapMem). let u : Heap = record (moved_all s m n) { mems = mems } in u) three

  added_so : (s : Heap) (m : ℕ) (ks : List ℕ) → alter (with_marks s.mems) m (option_map (mem_with_rules ks)) ≡ with_marks (alter s.mems m (option_map (mem_with_rules ks)))
  added_so s m ks = altered s.mems m (mem_with_rules ks) (λ k x. refl)

  rule_added_so : (s : Heap) (m k : ℕ) → rule_added (remarked s) m k ≡ remarked (rule_added s m k)
  rule_added_so s m k = ap (λ (mems : ℕ → Option HeapMem). let u : Heap = record s { mems = mems } in u) (added_so s m (k ∷ []))

  rules_copied_so : (s : Heap) (m n : ℕ) → rules_copied (remarked s) m n ≡ remarked (rules_copied s m n)
  rules_copied_so s m n =
      ap (λ (mems : ℕ → Option HeapMem). let u : Heap = record s { mems = mems } in u)
      (ap (λ ks. alter (with_marks s.mems) n (option_map (mem_with_rules ks))) (rules_so (s.mems m) (v m)) ∙ added_so s n (rules_in s m))

  joined_to_so : (s : Heap) (a i : ℕ) (o : Option (ℕ × ℕ)) → joined_to (remarked s) a i o ≡ remarked (joined_to s a i o)
  joined_to_so s a i None = refl
  joined_to_so s a i (Some c) = refl

  joined_both_so : (s : Heap) (b j : ℕ) (o p : Option (ℕ × ℕ)) → joined_both (remarked s) b j o p ≡ remarked (joined_both s b j o p)
  joined_both_so s b j None p = refl
  joined_both_so s b j (Some c) None = refl
  joined_both_so s b j (Some c) (Some d) = by ((c.0 == b) && (c.1 == j))
    where
      by : (t : Bool) → cond t (remarked s) (joined (remarked s) c.0 c.1 d.0 d.1) ≡ remarked (cond t s (joined s c.0 c.1 d.0 d.1))
      by true = refl
      by false = refl

  tied_so : (t : Tie Port) (s : Heap) → tied (remarked s) t ≡ remarked (tied s t)
  tied_so (newlink p q) s = refl
  tied_so (relink p o) s = joined_to_so s p.0 p.1 (link_of s o.0 o.1)
  tied_so (unify p o) s = joined_both_so s o.0 o.1 (link_of s p.0 p.1) (link_of s o.0 o.1)

  finished_so : (s : Heap) → finished (remarked s) ≡ remarked (finished s)
  finished_so s = ap (λ (mems : ℕ → Option HeapMem). let u : Heap = record (finished s) { mems = mems } in u) (λ i m. at (v m) (s.mems m) i)
    where
      placed_at : (n : ℕ) (x : HeapMem) (p : Place) →
          elim p as (λ p. Option HeapMem) [ top ↦ Some (mem_with_mark n x) | within m ↦ Some (mem_with_mark n x) | waiting ↦ Some (mem_with_mark n x) | gone ↦ None ]
          ≡ option_map (mem_with_mark n) (elim p as (λ p. Option HeapMem) [ top ↦ Some x | within m ↦ Some x | waiting ↦ Some x | gone ↦ None ])
      placed_at n x top = refl
      placed_at n x (within m) = refl
      placed_at n x waiting = refl
      placed_at n x gone = refl

      at : (n : ℕ) (o : Option HeapMem) → option_and_then mem_unless_gone (option_map (mem_with_mark n) o) ≡ option_map (mem_with_mark n) (option_and_then mem_unless_gone o)
      at n None = refl
      at n (Some x) = placed_at n x x.place

  lists_so : (s : Heap) (m : ℕ) → atoms_in (remarked s) m ≡ atoms_in s m
  lists_so s m = atoms_so (s.mems m) (v m)

  inner_so : (s : Heap) (m : ℕ) → mems_in (remarked s) m ≡ mems_in s m
  inner_so s m = mems_so (s.mems m) (v m)

  copies_placed_so : (copy : ℕ → ℕ) (n : ℕ) (xs : List ℕ) (s : Heap) → atoms_placed copy (remarked s) n xs ≡ remarked (atoms_placed copy s n xs)
  copies_placed_so copy n [] s = refl
  copies_placed_so copy n (a ∷ xs) s = ap (λ (u : Heap). atoms_placed copy u n xs) (placed_so s n (copy a)) ∙ copies_placed_so copy n xs (placed s n (copy a))

  membrane_placed_so : (copy_mem copy : ℕ → ℕ) (s : Heap) (m : ℕ) → membrane_placed copy_mem copy (remarked s) m ≡ remarked (membrane_placed copy_mem copy s m)
  membrane_placed_so copy_mem copy s m =
      let n = copy_mem m in
      let up = parents s m in
      let here = lists_so s m in
      let p = copy_round copy_mem (parent_of s m) in
      let first : membrane_placed copy_mem copy (remarked s) m ≡ atoms_placed copy (rules_copied (placed_mem (remarked s) p n) m n) n (atoms_in s m) =
      (λ i. atoms_placed copy (rules_copied (placed_mem (remarked s) (copy_round copy_mem (up i)) n) m n) n (here i)) in
      first ∙ ap (λ (u : Heap). atoms_placed copy (rules_copied u m n) n (atoms_in s m)) (placed_mem_so s p n)
      ∙ ap (λ (u : Heap). atoms_placed copy u n (atoms_in s m)) (rules_copied_so (placed_mem s p n) m n)
      ∙ copies_placed_so copy n (atoms_in s m) (rules_copied (placed_mem s p n) m n)

  membranes_placed_so : (copy_mem copy : ℕ → ℕ) (ms : List ℕ) (s : Heap) → membranes_placed copy_mem copy (remarked s) ms ≡ remarked (membranes_placed copy_mem copy s ms)
  membranes_placed_so copy_mem copy [] s = refl
  membranes_placed_so copy_mem copy (m ∷ ms) s = ap (λ (u : Heap). membranes_placed copy_mem copy u ms) (membrane_placed_so copy_mem copy s m) ∙ membranes_placed_so copy_mem copy ms (membrane_placed copy_mem copy s m)

  rest_placed_so : (s : Heap) (m n : ℕ) (atoms ms copies new_ms : List ℕ) → rest_placed (remarked s) m n atoms ms copies new_ms ≡ remarked (rest_placed s m n atoms ms copies new_ms)
  rest_placed_so s m n atoms ms copies new_ms =
      let copy_mem = answer (m ∷ ms) (n ∷ new_ms) in
      let copy = answer atoms copies in
      let here = lists_so s m in
      let first : rest_placed (remarked s) m n atoms ms copies new_ms ≡ membranes_placed copy_mem copy (atoms_placed copy (remarked s) n (atoms_in s m)) ms =
      (λ i. membranes_placed copy_mem copy (atoms_placed copy (remarked s) n (here i)) ms) in
      first ∙ ap (λ (u : Heap). membranes_placed copy_mem copy u ms) (copies_placed_so copy n (atoms_in s m) s) ∙ membranes_placed_so copy_mem copy ms (atoms_placed copy s n (atoms_in s m))

  mems_taken_so : (ms : List ℕ) (s : Heap) → all_mems_taken (remarked s) ms ≡ remarked (all_mems_taken s ms)
  mems_taken_so [] s = refl
  mems_taken_so (m ∷ ms) s = ap (λ (u : Heap). all_mems_taken u ms) (taken_mem_so s m) ∙ mems_taken_so ms (taken_mem s m)

  rest_taken_so : (s : Heap) (atoms ms : List ℕ) → rest_taken (remarked s) atoms ms ≡ remarked (rest_taken s atoms ms)
  rest_taken_so s atoms ms = ap (λ (u : Heap). all_mems_taken u ms) (all_taken_so atoms s) ∙ mems_taken_so ms (taken_all s atoms)

  -- what stands in a membrane, and a copy that waits, with other marks and without
  content_so : (s : Heap) (m : ℕ) (atoms membranes : List ℕ) → IsContent s m atoms membranes → IsContent (remarked s) m atoms membranes
  content_so s m atoms membranes w = content_there s (remarked s) (lists_so s) (inner_so s) m atoms membranes w

  content_was : (s : Heap) (m : ℕ) (atoms membranes : List ℕ) → IsContent (remarked s) m atoms membranes → IsContent s m atoms membranes
  content_was s m atoms membranes w = content_there (remarked s) s (λ n. sym (lists_so s n)) (λ n. sym (inner_so s n)) m atoms membranes w

  waits_so : (s : Heap) (m n : ℕ) (atoms membranes copies new_membranes : List ℕ) → CopyWaits s m n atoms membranes copies new_membranes → CopyWaits (remarked s) m n atoms membranes copies new_membranes
  waits_so s m n atoms membranes copies new_membranes w =
      waits_on s (remarked s) (lists_so s) (inner_so s) (λ x. rules_so (s.mems x) (v x)) (λ x. spare_so (s.mems x) (v x)) refl refl m n atoms membranes copies new_membranes w

  waits_was : (s : Heap) (m n : ℕ) (atoms membranes copies new_membranes : List ℕ) → CopyWaits (remarked s) m n atoms membranes copies new_membranes → CopyWaits s m n atoms membranes copies new_membranes
  waits_was s m n atoms membranes copies new_membranes w =
      waits_on (remarked s) s (λ x. sym (lists_so s x)) (λ x. sym (inner_so s x)) (λ x. sym (rules_so (s.mems x) (v x))) (λ x. sym (spare_so (s.mems x) (v x))) refl refl m n atoms membranes copies new_membranes w

  -- what an instruction does with other marks it does without, and the marks are as they were
  does_so : (r : Registers) (i : Instr) (s u : Heap) → Does r i (remarked s) u → (t : Heap) × Does r i s t × (u ≡ remarked t)
  does_so r (RemoveAtom a) s u d = (taken s (r.head.images.atom a), refl, d ∙ taken_so s (r.head.images.atom a))
  does_so r (RemovePart g) s u d = (taken_all s d.0, (d.0, d.1, d.2, refl), d.3 ∙ all_taken_so d.0 s)
  does_so r (RemoveMem m) s u d = (taken_mem s (r.head.images.membrane m), refl, d ∙ taken_mem_so s (r.head.images.membrane m))
  does_so r (NewAtom a m f) s u d = (placed s (r.head.images.membrane m) (r.head.images.atom a), (d.0, refl), d.1 ∙ placed_so s (r.head.images.membrane m) (r.head.images.atom a))
  does_so r (NewInt a m z) s u d = (placed s (r.head.images.membrane m) (r.head.images.atom a), (d.0, refl), d.1 ∙ placed_so s (r.head.images.membrane m) (r.head.images.atom a))
  does_so r (NewMem m n) s u d = (placed_mem s (r.head.images.membrane n) (r.head.images.membrane m), (d.0, refl), d.1 ∙ placed_mem_so s (r.head.images.membrane n) (r.head.images.membrane m))
  does_so r (CopyGround c m g) s u d =
      let es = map (λ a. (r.head.images.membrane m, a)) (r.copied c) in (all_placed s es, (d.0, d.1, refl), d.2 ∙ all_placed_so es s)
  does_so r (MoveCells m n) s u d = (moved_all s (r.head.images.membrane m) (r.head.images.membrane n), refl, d ∙ moved_so s (r.head.images.membrane m) (r.head.images.membrane n))
  does_so r (CopyCells m n) s u d =
      let x = r.head.images.membrane m in
      let y = r.head.images.membrane n in
      let as' = r.left_atoms m in
      let ms = r.left_membranes m in
      (rest_placed s x y as' ms d.0 d.1, (d.0, d.1, waits_was s x y as' ms d.0 d.1 d.2, refl), d.3 ∙ rest_placed_so s x y as' ms d.0 d.1)
  does_so r (DropCells m) s u d =
      let x = r.head.images.membrane m in
      let as' = r.left_atoms m in
      let ms = r.left_membranes m in
      (rest_taken s as' ms, (content_was s x as' ms d.0, refl), d.1 ∙ rest_taken_so s as' ms)
  does_so r (LoadRule m k) s u d = (rule_added s (r.head.images.membrane m) k, refl, d ∙ rule_added_so s (r.head.images.membrane m) k)
  does_so r (CopyRules m n) s u d = (rules_copied s (r.head.images.membrane m) (r.head.images.membrane n), refl, d ∙ rules_copied_so s (r.head.images.membrane m) (r.head.images.membrane n))
  does_so r (NewLink p q) s u d = (tied s (newlink (new_port r p) (new_port r q)), refl, d ∙ tied_so (newlink (new_port r p) (new_port r q)) s)
  does_so r (Relink p h) s u d = (tied s (relink (new_port r p) (old_port r h)), refl, d ∙ tied_so (relink (new_port r p) (old_port r h)) s)
  does_so r (Unify g h) s u d = (tied s (unify (old_port r g) (old_port r h)), refl, d ∙ tied_so (unify (old_port r g) (old_port r h)) s)
  does_so r Proceed s u d = (finished s, refl, d ∙ finished_so s)
  does_so r _ s u d = absurd d

  -- ---- conditions

  in_place_so : (s : Heap) (m : ℕ) → IsMemInPlace s m → IsMemInPlace (remarked s) m
  in_place_so s m i = subst IsTopOrWithin (sym (places s m)) i

  mem_so : (s : Heap) (m : ℕ) → IsMem s m → IsMem (remarked s) m
  mem_so s m i = there_so (s.mems m) (v m) i

  above_so : (s : Heap) (k m n : ℕ) → Above (remarked s) k m n → Above s k m n
  above_so s zero m n a = a
  above_so s (suc k) m n a = (a.0, sym (parents s n) ∙ a.1, above_so s k m a.0 a.2)

  ready_so : (s : Heap) → Ready s → Ready (remarked s)
  ready_so s w = record {
    empty = λ m e. (let q = w.empty m (sym (places s m) ∙ e) in (atoms_so (s.mems m) (v m) ∙ q.0, mems_so (s.mems m) (v m) ∙ q.1));
    full = w.full;
    kept = w.kept;
    no_atoms = w.no_atoms;
    no_mems = w.no_mems;
  }

  can_so : (r : Registers) (i : Instr) (s : Heap) → Can r i s → Can r i (remarked s)
  can_so r (RemoveAtom a) s w = w
  can_so r (RemovePart g) s w = w
  can_so r (RemoveMem m) s w = subst (λ (o : Option ℕ). IsSome o) (sym (parents s (r.head.images.membrane m))) w
  can_so r (NewAtom a m f) s w = (in_place_so s (r.head.images.membrane m) w.0, w.1)
  can_so r (NewInt a m z) s w = (in_place_so s (r.head.images.membrane m) w.0, w.1)
  can_so r (NewMem m n) s w = (in_place_so s (r.head.images.membrane n) w.0, w.1)
  can_so r (CopyGround c m g) s w = (in_place_so s (r.head.images.membrane m) w.0, w.1)
  can_so r (MoveCells m n) s w = (places s (r.head.images.membrane m) ∙ w.0, in_place_so s (r.head.images.membrane n) w.1, λ k a. w.2 k (above_so s k (r.head.images.membrane m) (r.head.images.membrane n) a))
  can_so r (CopyCells m n) s w =
      let x = r.head.images.membrane m in
      let y = r.head.images.membrane n in
      (mem_so s x w.0, in_place_so s y w.1, (w.2.0, w.2.1, waits_so s x y (r.left_atoms m) (r.left_membranes m) w.2.0 w.2.1 w.2.2))
  can_so r (DropCells m) s w = (places s (r.head.images.membrane m) ∙ w.0, content_so s (r.head.images.membrane m) (r.left_atoms m) (r.left_membranes m) w.1)
  can_so r (LoadRule m k) s w = (mem_so s (r.head.images.membrane m) w.0, subst (λ n. 1 ≤ n) (sym (spare_so (s.mems (r.head.images.membrane m)) (v (r.head.images.membrane m)))) w.1)
  can_so r (CopyRules m n) s w =
      let x = r.head.images.membrane m in
      let y = r.head.images.membrane n in
      (mem_so s x w.0, mem_so s y w.1, w.2, subst (λ ks. length ks ≤ spare_of (remarked s) y) (sym (rules_so (s.mems x) (v x))) (subst (λ k. length (rules_in s x) ≤ k) (sym (spare_so (s.mems y) (v y))) w.3))
  can_so r (NewLink p q) s w = w
  can_so r (Relink p h) s w = w
  can_so r (Unify g h) s w = w
  can_so r Proceed s w = ready_so s w
  can_so r _ s w = absurd w

  stands_so : (r : Registers) (i : Instr) (s : Heap) → Stands r i s → Stands r i (remarked s)
  stands_so r (RemovePart g) s w = (w.0, record { atoms = w.1.atoms; ends = w.1.ends })
  stands_so r _ s w = tt

  -- code that can be committed can be with other marks,
  pub runs_so : (r : Registers) (is : List Instr) (s : Heap) → Runs r is s → Runs r is (remarked s)
  runs_so r [] s w = tt
  runs_so r (i ∷ is) s w = (
    can_so r i s w.0,
    stands_so r i s w.1,
    λ u d. (let q = does_so r i s u d in subst (Runs r is) (sym q.2) (runs_so r is q.0 (w.2 q.0 q.1))),
  )

  -- and does what it does without
  pub does_all_so : (r : Registers) (is : List Instr) (s u : Heap) → DoesAll r is (remarked s) u → (t : Heap) × DoesAll r is s t × (u ≡ remarked t)
  does_all_so r [] s u d = (s, refl, d)
  does_all_so r (i ∷ is) s u d =
      let one = does_so r i s d.0 d.1 in
      let rest = does_all_so r is one.0 u (subst (λ w. DoesAll r is w u) one.2 d.2) in
      (rest.0, (one.0, one.1, rest.1), rest.2)
