-- What the calls on membranes do to lists of membranes.
use Rattle.std.proofs.Common.{ℕ, ◌≡◌, ◌≢◌, List, [], ◌∷◌, ◌++◌, Option, Some, None, IsSome, is_some, refl, sym, ap, ◌∙◌}
use Rattle.std.specs.Option.{option_map}
use Rattle.lmn_store_heap.specs.Heap.{Heap, HeapMem, within, gone, alter, mem_with_place, mem_with_mems, mem_with_atoms, mem_with_spare, mem_with_mark, mem_marked, mem_with_rules, atom_out, home_of, placed, taken, reserved, emptied, filled, mem_out, parent_of, atoms_in, mems_in, mems_by, mem_mark_of, mem_mark_by, IsMem, without, taken_mem, placed_mem, moved_all}
use Rattle.lmn_store_heap.proofs.ListOps.{change_at, change_away, change_keeps, sent_keeps}

-- what an index of membranes sees of one: what stands in it, and its mark
pub record Seen : Type 0 where
  pub mems : List ℕ
  pub mark : ℕ

abbrev pub seen : HeapMem → Seen
seen x = record { mems = x.mems; mark = x.mark }

abbrev pub seen_by : Option HeapMem → Option Seen
seen_by o = option_map seen o

abbrev marked_by : Option HeapMem → Option ℕ
marked_by o = option_map (λ (x : HeapMem). x.mark) o

-- The heap t has the membranes of h, with their marks.
pub record SameMarks (h t : Heap) : Type 0 where
  pub there : (y : ℕ) → IsMem h y → IsMem t y
  pub back : (y : ℕ) → IsMem t y → IsMem h y
  pub marks : (y : ℕ) → mem_mark_of t y ≡ mem_mark_of h y

marked_there : (o q : Option HeapMem) → marked_by o ≡ marked_by q → IsSome o → IsSome q
marked_there None q e s = absurd (cc)
marked_there (Some x) None e s = absurd (cc)
marked_there (Some x) (Some y) e s = refl

mark_same : (o q : Option HeapMem) → marked_by o ≡ marked_by q → mem_mark_by o ≡ mem_mark_by q
mark_same None None e = refl
mark_same None (Some y) e = absurd (cc)
mark_same (Some x) None e = absurd (cc)
mark_same (Some x) (Some y) e = let s : x.mark ≡ y.mark = (cc) in s

same_marks : (h t : Heap) → ((y : ℕ) → marked_by (t.mems y) ≡ marked_by (h.mems y)) → SameMarks h t
same_marks h t e = record {
  there = λ y i. marked_there (h.mems y) (t.mems y) (sym (e y)) i;
  back = λ y i. marked_there (t.mems y) (h.mems y) (e y) i;
  marks = λ y. mark_same (t.mems y) (h.mems y) (e y);
}

-- `set_mem_mark`

-- a membrane with another mark is there, and all others are
pub mark_there : (s : Heap) (m v y : ℕ) → is_some ((mem_marked s m v).mems y) ≡ is_some (s.mems y)
mark_there s m v = change_keeps (λ (o : Option HeapMem). is_some o) s.mems m (mem_with_mark v) (λ x. refl)

-- `take_mem`

-- a membrane that is taken stands in no list any more
pub out_at : (s : Heap) (n p : ℕ) → parent_of s n ≡ Some p → IsSome (s.mems p) → mems_in (taken_mem s n) p ≡ without n (mems_in s p)
out_at s n p e is = change_keeps mems_by (mem_out s.mems (parent_of s n) n) n (mem_with_place gone) (λ x. refl) p ∙ ap (λ (o : Option ℕ). mems_by (mem_out s.mems o n p)) e ∙ change_at mems_by s.mems p (mem_with_mems (without n)) (without n) (λ x. refl) is

-- all other lists are as they were
pub out_away : (s : Heap) (n p : ℕ) → parent_of s n ≡ Some p → (y : ℕ) → y ≢ p → mems_in (taken_mem s n) y ≡ mems_in s y
out_away s n p e y d = change_keeps mems_by (mem_out s.mems (parent_of s n) n) n (mem_with_place gone) (λ x. refl) y ∙ ap (λ (o : Option ℕ). mems_by (mem_out s.mems o n y)) e ∙ change_away mems_by s.mems p (mem_with_mems (without n)) y d

pub out_marks : (s : Heap) (n : ℕ) → SameMarks s (taken_mem s n)
out_marks s n = same_marks s (taken_mem s n) (λ y. change_keeps marked_by (mem_out s.mems (parent_of s n) n) n (mem_with_place gone) (λ x. refl) y ∙ by (parent_of s n) y)
  where
    by : (o : Option ℕ) (y : ℕ) → marked_by (mem_out s.mems o n y) ≡ marked_by (s.mems y)
    by None y = refl
    by (Some q) y = change_keeps marked_by s.mems q (mem_with_mems (without n)) (λ x. refl) y

-- `place_mem`

module _ (s : Heap) (m n : ℕ) where
  abbrev f1 : ℕ → Option HeapMem
  f1 = alter s.mems n (option_map (mem_with_place (within m)))

  pub in_marks : SameMarks s (placed_mem s m n)
  in_marks = same_marks s (placed_mem s m n) (λ y. change_keeps marked_by f1 m (mem_with_mems (λ xs. xs ++ n ∷ [])) (λ x. refl) y ∙ change_keeps marked_by s.mems n (mem_with_place (within m)) (λ x. refl) y)

-- `move_all`

module _ (s : Heap) (m n : ℕ) where
  abbrev g1 : ℕ → Option HeapMem
  g1 = alter s.mems m (option_map emptied)

  abbrev g2 : ℕ → Option HeapMem
  g2 = alter g1 n (option_map (filled (atoms_in s m) (mems_in s m)))

  pub move_marks : SameMarks s (moved_all s m n)
  move_marks = same_marks s (moved_all s m n) (λ y. sent_keeps m n marked_by (λ x p. refl) (g2 y) ∙ change_keeps marked_by g1 n (filled (atoms_in s m) (mems_in s m)) (λ x. refl) y ∙ change_keeps marked_by s.mems m emptied (λ x. refl) y)

-- Calls that change neither what stands in a membrane nor its mark

pub seen_placed : (s : Heap) (m a y : ℕ) → seen_by ((placed s m a).mems y) ≡ seen_by (s.mems y)
seen_placed s m a = change_keeps seen_by s.mems m (mem_with_atoms (λ xs. xs ++ a ∷ [])) (λ x. refl)

pub seen_taken : (s : Heap) (a y : ℕ) → seen_by ((taken s a).mems y) ≡ seen_by (s.mems y)
seen_taken s a y = by (home_of s a)
  where
    by : (o : Option ℕ) → seen_by (atom_out s.mems o a y) ≡ seen_by (s.mems y)
    by None = refl
    by (Some m) = change_keeps seen_by s.mems m (mem_with_atoms (without a)) (λ x. refl) y

pub seen_reserved : (s : Heap) (m n y : ℕ) → seen_by ((reserved s m n).mems y) ≡ seen_by (s.mems y)
seen_reserved s m n = change_keeps seen_by s.mems m (mem_with_spare n) (λ x. refl)

pub seen_rules : (s : Heap) (m : ℕ) (ks : List ℕ) (y : ℕ) → seen_by (alter s.mems m (option_map (mem_with_rules ks)) y) ≡ seen_by (s.mems y)
seen_rules s m ks = change_keeps seen_by s.mems m (mem_with_rules ks) (λ x. refl)
