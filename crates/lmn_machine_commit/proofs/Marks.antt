-- What the instructions of a body do leaves every mark of an atom 0.
use Rattle.std.proofs.Common.{ℕ, zero, suc, ◌≡◌, ◌==◌, ◌&&◌, Bool, true, false, cond, List, [], ◌∷◌, map, Option, Some, None, refl, sym, ap, subst, ◌∙◌}
use Rattle.std.specs.Option.{option_map, option_and_then}
use Rattle.std.specs.Prelude.{slice_index_or}
use Rattle.lmn_store_heap.specs.Heap.{Heap, HeapAtom, Place, top, within, waiting, gone, marks_of, link_of, parent_of, atoms_in, with_place, atom_sent, unless_gone, linked, cleared, taken, placed, joined, moved_all, finished, taken_mem, placed_mem, rule_added, rules_copied, taken_all, Unmarked}
use Rattle.lmn_store_heap.specs.Splice.{joined_to, joined_both}
use Rattle.lmn_store_heap.proofs.Listing.{alter_keeps}
use Rattle.lmn_ground_parts.specs.Copies.{answer}
use Rattle.lmn_ground_parts.specs.Rests.{atoms_placed, membrane_placed, membranes_placed, copy_round, rest_placed, all_mems_taken, rest_taken}
use Rattle.lmn_congruence_splice.specs.Ties.{Tie, newlink, relink, unify}
use Rattle.lmn_instr_code.specs.declared.instr.Instr.{Instr}
use Rattle.lmn_instr_code.specs.declared.instr.Instr.TheVariants.{RemoveAtom, RemovePart, RemoveMem, NewAtom, NewInt, NewMem, CopyGround, MoveCells, CopyCells, LoadRule, CopyRules, DropCells, NewLink, Relink, Unify, Proceed}
use Rattle.lmn_solid_bodies.specs.Tied.{tied}
use Rattle.lmn_solid_bodies.specs.Running.{Registers, Does, all_placed, old_port, new_port}
use Rattle.lmn_base.specs.Graphs.{Port}
use Rattle.lmn_store_heap.proofs.Common.{linked_marks, cleared_marks}

on_place : (p : Place) (o : Option HeapAtom) → marks_of (option_map (with_place p) o) ≡ marks_of o
on_place p None = refl
on_place p (Some x) = refl

on_sent : (m n : ℕ) (o : Option HeapAtom) → marks_of (option_map (atom_sent m n) o) ≡ marks_of o
on_sent m n None = refl
on_sent m n (Some x) = refl

-- the marks of atoms are those that they had
abbrev Same : Heap → Heap → Type 0
Same s t = (a : ℕ) → marks_of (t.atoms a) ≡ marks_of (s.atoms a)

still : (s t : Heap) → Same s t → Unmarked s → Unmarked t
still s t e u a i = ap (λ (ms : List ℕ). slice_index_or ms i 0) (e a) ∙ u a i

taken_same : (s : Heap) (a : ℕ) → Same s (taken s a)
taken_same s a x = alter_keeps s.atoms a (option_map (with_place gone)) marks_of (on_place gone) x

placed_same : (s : Heap) (m a : ℕ) → Same s (placed s m a)
placed_same s m a x = alter_keeps s.atoms a (option_map (with_place (within m))) marks_of (on_place (within m)) x

joined_same : (s : Heap) (a i b j : ℕ) → Same s (joined s a i b j)
joined_same s a i b j x =
    linked_marks (linked (cleared (cleared s.atoms (link_of s a i)) (link_of s b j)) a i (Some (b, j))) b j (Some (a, i)) x
    ∙ (linked_marks (cleared (cleared s.atoms (link_of s a i)) (link_of s b j)) a i (Some (b, j)) x
    ∙ (cleared_marks (cleared s.atoms (link_of s a i)) (link_of s b j) x ∙ cleared_marks s.atoms (link_of s a i) x))

joined_to_same : (s : Heap) (a i : ℕ) (o : Option (ℕ × ℕ)) → Same s (joined_to s a i o)
joined_to_same s a i None x = refl
joined_to_same s a i (Some c) x = joined_same s a i c.0 c.1 x

joined_both_same : (s : Heap) (b j : ℕ) (o p : Option (ℕ × ℕ)) → Same s (joined_both s b j o p)
joined_both_same s b j None p x = refl
joined_both_same s b j (Some c) None x = refl
joined_both_same s b j (Some c) (Some d) x = by ((c.0 == b) && (c.1 == j))
  where
    by : (t : Bool) → marks_of ((cond t s (joined s c.0 c.1 d.0 d.1)).atoms x) ≡ marks_of (s.atoms x)
    by true = refl
    by false = joined_same s c.0 c.1 d.0 d.1 x

tied_same : (s : Heap) (t : Tie Port) → Same s (tied s t)
tied_same s (newlink p q) x = joined_same s p.0 p.1 q.0 q.1 x
tied_same s (relink p o) x = joined_to_same s p.0 p.1 (link_of s o.0 o.1) x
tied_same s (unify p o) x = joined_both_same s o.0 o.1 (link_of s p.0 p.1) (link_of s o.0 o.1) x

all_taken_same : (ns : List ℕ) (s : Heap) → Same s (taken_all s ns)
all_taken_same [] s x = refl
all_taken_same (n ∷ ns) s x = all_taken_same ns (taken s n) x ∙ taken_same s n x

all_placed_same : (es : List (ℕ × ℕ)) (s : Heap) → Same s (all_placed s es)
all_placed_same [] s x = refl
all_placed_same (e ∷ es) s x = all_placed_same es (placed s e.0 e.1) x ∙ placed_same s e.0 e.1 x

atoms_placed_same : (copy : ℕ → ℕ) (n : ℕ) (xs : List ℕ) (s : Heap) → Same s (atoms_placed copy s n xs)
atoms_placed_same copy n [] s x = refl
atoms_placed_same copy n (a ∷ xs) s x = atoms_placed_same copy n xs (placed s n (copy a)) x ∙ placed_same s n (copy a) x

membranes_placed_same : (copy_mem copy : ℕ → ℕ) (ms : List ℕ) (s : Heap) → Same s (membranes_placed copy_mem copy s ms)
membranes_placed_same copy_mem copy [] s x = refl
membranes_placed_same copy_mem copy (m ∷ ms) s x =
    membranes_placed_same copy_mem copy ms (membrane_placed copy_mem copy s m) x
    ∙ atoms_placed_same copy (copy_mem m) (atoms_in s m) (rules_copied (placed_mem s (copy_round copy_mem (parent_of s m)) (copy_mem m)) m (copy_mem m)) x

rest_placed_same : (s : Heap) (m n : ℕ) (atoms ms copies new_ms : List ℕ) → Same s (rest_placed s m n atoms ms copies new_ms)
rest_placed_same s m n atoms ms copies new_ms x =
    membranes_placed_same (answer (m ∷ ms) (n ∷ new_ms)) (answer atoms copies) ms (atoms_placed (answer atoms copies) s n (atoms_in s m)) x
    ∙ atoms_placed_same (answer atoms copies) n (atoms_in s m) s x

all_mems_taken_same : (ms : List ℕ) (s : Heap) → Same s (all_mems_taken s ms)
all_mems_taken_same [] s x = refl
all_mems_taken_same (m ∷ ms) s x = all_mems_taken_same ms (taken_mem s m) x

rest_taken_same : (s : Heap) (atoms ms : List ℕ) → Same s (rest_taken s atoms ms)
rest_taken_same s atoms ms x = all_mems_taken_same ms (taken_all s atoms) x ∙ all_taken_same atoms s x

finished_unmarked : (s : Heap) → Unmarked s → Unmarked (finished s)
finished_unmarked s u a i = by (s.atoms a) (u a i)
  where
    nothing : (k : ℕ) → slice_index_or (marks_of None) k 0 ≡ 0
    nothing zero = refl
    nothing (suc k) = refl

    by : (o : Option HeapAtom) → slice_index_or (marks_of o) i 0 ≡ 0 → slice_index_or (marks_of (option_and_then unless_gone o)) i 0 ≡ 0
    by None e = e
    by (Some x) e = at x.place refl
      where
        at : (p : Place) → x.place ≡ p → slice_index_or (marks_of (unless_gone x)) i 0 ≡ 0
        at top q = rw q e
        at (within m) q = rw q e
        at waiting q = rw q e
        at gone q = rw q (nothing i)

on : (s t u : Heap) → t ≡ u → Same s u → Unmarked s → Unmarked t
on s t u e h m = subst Unmarked (sym e) (still s u h m)

-- no mark comes when an instruction runs
pub does_unmarked : (r : Registers) (i : Instr) (s t : Heap) → Does r i s t → Unmarked s → Unmarked t
does_unmarked r (RemoveAtom a) s t d u = on s t (taken s (r.head.images.atom a)) d (taken_same s (r.head.images.atom a)) u
does_unmarked r (RemovePart g) s t d u = on s t (taken_all s d.0) d.3 (all_taken_same d.0 s) u
does_unmarked r (RemoveMem m) s t d u = on s t (taken_mem s (r.head.images.membrane m)) d (λ x. refl) u
does_unmarked r (NewAtom a m f) s t d u = on s t (placed s (r.head.images.membrane m) (r.head.images.atom a)) d.1 (placed_same s (r.head.images.membrane m) (r.head.images.atom a)) u
does_unmarked r (NewInt a m v) s t d u = on s t (placed s (r.head.images.membrane m) (r.head.images.atom a)) d.1 (placed_same s (r.head.images.membrane m) (r.head.images.atom a)) u
does_unmarked r (NewMem m n) s t d u = on s t (placed_mem s (r.head.images.membrane n) (r.head.images.membrane m)) d.1 (λ x. refl) u
does_unmarked r (CopyGround c m g) s t d u = on s t (all_placed s (map (λ a. (r.head.images.membrane m, a)) (r.copied c))) d.2 (all_placed_same (map (λ a. (r.head.images.membrane m, a)) (r.copied c)) s) u
does_unmarked r (MoveCells m n) s t d u = on s t (moved_all s (r.head.images.membrane m) (r.head.images.membrane n)) d (λ x. on_sent (r.head.images.membrane m) (r.head.images.membrane n) (s.atoms x)) u
does_unmarked r (CopyCells m n) s t d u = on s t _ d.3 (rest_placed_same s (r.head.images.membrane m) (r.head.images.membrane n) (r.left_atoms m) (r.left_membranes m) d.0 d.1) u
does_unmarked r (DropCells m) s t d u = on s t _ d.1 (rest_taken_same s (r.left_atoms m) (r.left_membranes m)) u
does_unmarked r (LoadRule m k) s t d u = on s t (rule_added s (r.head.images.membrane m) k) d (λ x. refl) u
does_unmarked r (CopyRules m n) s t d u = on s t (rules_copied s (r.head.images.membrane m) (r.head.images.membrane n)) d (λ x. refl) u
does_unmarked r (NewLink p q) s t d u = on s t (tied s (newlink (new_port r p) (new_port r q))) d (tied_same s (newlink (new_port r p) (new_port r q))) u
does_unmarked r (Relink p h) s t d u = on s t (tied s (relink (new_port r p) (old_port r h))) d (tied_same s (relink (new_port r p) (old_port r h))) u
does_unmarked r (Unify g h) s t d u = on s t (tied s (unify (old_port r g) (old_port r h))) d (tied_same s (unify (old_port r g) (old_port r h))) u
does_unmarked r Proceed s t d u = subst Unmarked (sym d) (finished_unmarked s u)
does_unmarked r _ s t d u = absurd d
