-- Code that can run has a run.
use Rattle.std.proofs.Common.{ℕ, ◌≡◌, ◌==◌, Bool, true, false, cond, List, [], ◌∷◌, map, Option, Some, None, IsSome, refl, sym, subst}
use Rattle.std.specs.Prelude.{◌&&◌}
use Rattle.std.specs.Option.{option_map, option_and_then}
use Rattle.std.proofs.lemmas.Bool.{eq-eqb}
use Rattle.lmn_store_heap.specs.Heap.{Heap, HeapAtom, IsAtom, alter, after, atom_sent, atoms_in, cleared, finished, from, gone, joined, link_of, linked, moved_all, parent_of, placed, placed_mem, rule_added, rules_copied, taken, taken_mem, unless_gone, with_link, with_place, within, taken_all}
use Rattle.lmn_store_heap.specs.Splice.{joined_both, joined_to}
use Rattle.lmn_ground_parts.specs.Copies.{answer}
use Rattle.lmn_ground_parts.specs.Rests.{all_mems_taken, atoms_placed, copy_round, membrane_placed, membranes_placed, rest_placed, rest_taken}
use Rattle.lmn_congruence_splice.specs.Ties.{Tie, newlink, relink, unify}
use Rattle.lmn_instr_code.specs.declared.instr.Instr.{Instr}
use Rattle.lmn_instr_code.specs.declared.instr.Instr.TheVariants.{RemoveAtom, RemovePart, RemoveMem, NewAtom, NewInt, NewMem, CopyGround, MoveCells, CopyCells, LoadRule, CopyRules, DropCells, NewLink, Relink, Unify, Proceed}
use Rattle.lmn_solid_bodies.specs.Conditions.{Can, CanRun, IsFirstOf}
use Rattle.lmn_solid_bodies.specs.Running.{Registers, Does, DoesAll, all_placed, new_port, old_port}
use Rattle.lmn_solid_bodies.specs.Tied.{tied}
use Rattle.lmn_machine_laws.proofs.Finite.{part_listed}
use Rattle.lmn_base.specs.Graphs.{Port}
use Rattle.lmn_store_heap.proofs.Common.{in_place_atom}
use Rattle.lmn_base.specs.Lists.{In}

-- ---- no atom comes in

-- what is an atom by one map is one by another
abbrev pub Fewer : (ℕ → Option HeapAtom) → (ℕ → Option HeapAtom) → Type 0
Fewer f g = (a : ℕ) → IsSome (f a) → IsSome (g a)

map_some : (o : Option HeapAtom) (u : HeapAtom → HeapAtom) → IsSome (option_map u o) → IsSome o
map_some None u i = absurd (cc)
map_some (Some x) u i = refl

then_some : (o : Option HeapAtom) (u : HeapAtom → Option HeapAtom) → IsSome (option_and_then u o) → IsSome o
then_some None u i = absurd (cc)
then_some (Some x) u i = refl

altered : (f : ℕ → Option HeapAtom) (k : ℕ) (u : HeapAtom → HeapAtom) → Fewer (alter f k (option_map u)) f
altered f k u a i = by (a == k) i
  where
    by : (t : Bool) → IsSome (cond t (option_map u (f a)) (f a)) → IsSome (f a)
    by true i = map_some (f a) u i
    by false i = i

cleared_fewer : (f : ℕ → Option HeapAtom) (o : Option Port) → Fewer (cleared f o) f
cleared_fewer f None a i = i
cleared_fewer f (Some p) a i = altered f p.0 (with_link p.1 None) a i

joined_fewer : (s : Heap) (a i b j : ℕ) → Fewer (joined s a i b j).atoms s.atoms
joined_fewer s a i b j x q =
    let f1 = cleared s.atoms (link_of s a i) in
    let f2 = cleared f1 (link_of s b j) in
    let f3 = linked f2 a i (Some (b, j)) in
    cleared_fewer s.atoms (link_of s a i) x (cleared_fewer f1 (link_of s b j) x (altered f2 a (with_link i (Some (b, j))) x (altered f3 b (with_link j (Some (a, i))) x q)))

to_fewer : (s : Heap) (a i : ℕ) (o : Option Port) → Fewer (joined_to s a i o).atoms s.atoms
to_fewer s a i None x q = q
to_fewer s a i (Some c) x q = joined_fewer s a i c.0 c.1 x q

both_fewer : (s : Heap) (b j : ℕ) (o p : Option Port) → Fewer (joined_both s b j o p).atoms s.atoms
both_fewer s b j None p x q = q
both_fewer s b j (Some c) None x q = q
both_fewer s b j (Some c) (Some d) x q = by ((c.0 == b) && (c.1 == j)) q
  where
    by : (t : Bool) → IsSome ((cond t s (joined s c.0 c.1 d.0 d.1)).atoms x) → IsSome (s.atoms x)
    by true q = q
    by false q = joined_fewer s c.0 c.1 d.0 d.1 x q

tied_fewer : (s : Heap) (t : Tie Port) → Fewer (tied s t).atoms s.atoms
tied_fewer s (newlink p q) = joined_fewer s p.0 p.1 q.0 q.1
tied_fewer s (relink p o) = to_fewer s p.0 p.1 (link_of s o.0 o.1)
tied_fewer s (unify g o) = both_fewer s o.0 o.1 (link_of s g.0 g.1) (link_of s o.0 o.1)

all_taken_fewer : (ns : List ℕ) (s : Heap) → Fewer (taken_all s ns).atoms s.atoms
all_taken_fewer [] s a i = i
all_taken_fewer (n ∷ ns) s a i = altered s.atoms n (with_place gone) a (all_taken_fewer ns (taken s n) a i)

all_placed_fewer : (es : List (ℕ × ℕ)) (s : Heap) → Fewer (all_placed s es).atoms s.atoms
all_placed_fewer [] s a i = i
all_placed_fewer (e ∷ es) s a i = altered s.atoms e.1 (with_place (within e.0)) a (all_placed_fewer es (placed s e.0 e.1) a i)

copies_fewer : (copy : ℕ → ℕ) (n : ℕ) (xs : List ℕ) (s : Heap) → Fewer (atoms_placed copy s n xs).atoms s.atoms
copies_fewer copy n [] s a i = i
copies_fewer copy n (x ∷ xs) s a i = altered s.atoms (copy x) (with_place (within n)) a (copies_fewer copy n xs (placed s n (copy x)) a i)

membranes_fewer : (copy_mem copy : ℕ → ℕ) (ms : List ℕ) (s : Heap) → Fewer (membranes_placed copy_mem copy s ms).atoms s.atoms
membranes_fewer copy_mem copy [] s a i = i
membranes_fewer copy_mem copy (m ∷ ms) s a i =
    let n = copy_mem m in
    copies_fewer copy n (atoms_in s m) (rules_copied (placed_mem s (copy_round copy_mem (parent_of s m)) n) m n) a (membranes_fewer copy_mem copy ms (membrane_placed copy_mem copy s m) a i)

rest_fewer : (s : Heap) (m n : ℕ) (atoms membranes copies new_membranes : List ℕ) → Fewer (rest_placed s m n atoms membranes copies new_membranes).atoms s.atoms
rest_fewer s m n atoms membranes copies new_membranes a i =
    let copy = answer atoms copies in
    copies_fewer copy n (atoms_in s m) s a (membranes_fewer (answer (m ∷ membranes) (n ∷ new_membranes)) copy membranes (atoms_placed copy s n (atoms_in s m)) a i)

mems_taken_fewer : (ms : List ℕ) (s : Heap) → Fewer (all_mems_taken s ms).atoms s.atoms
mems_taken_fewer [] s a i = i
mems_taken_fewer (m ∷ ms) s a i = mems_taken_fewer ms (taken_mem s m) a i

-- ---- one instruction

-- the atoms of a heap stand in a list
abbrev pub Bounded : Heap → List ℕ → Type 0
Bounded s xs = (a : ℕ) → IsAtom s a → In a xs

-- the first of a line is where the line begins
begins_with : (a : ℕ) (xs : List ℕ) → IsFirstOf a xs → from (Some a) xs ≡ xs
begins_with a xs f = subst (λ z. from (Some a) z ≡ z) (sym f.1) (by (a == a) (eq-eqb a a refl))
  where
    by : (t : Bool) → t ≡ true → ◌≡◌ {A = List ℕ} (a ∷ cond t f.0 (after a f.0)) (a ∷ f.0)
    by true e = refl
    by false e = absurd (cc)

-- what an instruction does
record Done (r : Registers) (i : Instr) (s : Heap) : Type 0 where
  pub heap : Heap
  pub does : Does r i s heap
  pub fewer : Fewer heap.atoms s.atoms

can_do : (r : Registers) (i : Instr) (s : Heap) (xs : List ℕ) → Bounded s xs → Can r i s → Done r i s
can_do r (RemoveAtom a) s xs b c = let n = r.head.images.atom a in record { heap = taken s n; does = refl; fewer = altered s.atoms n (with_place gone) }
can_do r (RemovePart g) s xs b c =
    let p = part_listed s (r.head.images.part g) xs (λ a q. b a (in_place_atom s a (c a q))) in
    record { heap = taken_all s p.0; does = (p.0, p.1.0, p.1.1, refl); fewer = all_taken_fewer p.0 s }
can_do r (RemoveMem m) s xs b c = record { heap = taken_mem s (r.head.images.membrane m); does = refl; fewer = λ a i. i }
can_do r (NewAtom a m f) s xs b c =
    let n = r.head.images.atom a in let k = r.head.images.membrane m in
    record { heap = placed s k n; does = (begins_with n s.new_atoms c.1, refl); fewer = altered s.atoms n (with_place (within k)) }
can_do r (NewInt a m v) s xs b c =
    let n = r.head.images.atom a in let k = r.head.images.membrane m in
    record { heap = placed s k n; does = (begins_with n s.new_atoms c.1, refl); fewer = altered s.atoms n (with_place (within k)) }
can_do r (NewMem m n) s xs b c = record { heap = placed_mem s (r.head.images.membrane n) (r.head.images.membrane m); does = (begins_with (r.head.images.membrane m) s.new_mems c.1, refl); fewer = λ a i. i }
can_do r (CopyGround k m g) s xs b c =
    let es = map (λ a. (r.head.images.membrane m, a)) (r.copied k) in
    record { heap = all_placed s es; does = (c.1.0, c.1.1, refl); fewer = all_placed_fewer es s }
can_do r (MoveCells m n) s xs b c = record { heap = moved_all s (r.head.images.membrane m) (r.head.images.membrane n); does = refl; fewer = λ a i. map_some (s.atoms a) (atom_sent (r.head.images.membrane m) (r.head.images.membrane n)) i }
can_do r (CopyCells m n) s xs b c =
    let to = r.head.images.membrane n in
    let home = r.head.images.membrane m in
    record {
      heap = rest_placed s home to (r.left_atoms m) (r.left_membranes m) c.2.0 c.2.1;
      does = (c.2.0, c.2.1, c.2.2, refl);
      fewer = rest_fewer s home to (r.left_atoms m) (r.left_membranes m) c.2.0 c.2.1;
    }
can_do r (LoadRule m k) s xs b c = record { heap = rule_added s (r.head.images.membrane m) k; does = refl; fewer = λ a i. i }
can_do r (CopyRules m n) s xs b c = record { heap = rules_copied s (r.head.images.membrane m) (r.head.images.membrane n); does = refl; fewer = λ a i. i }
can_do r (DropCells m) s xs b c = record {
  heap = rest_taken s (r.left_atoms m) (r.left_membranes m);
  does = (c.1, refl);
  fewer = λ a i. all_taken_fewer (r.left_atoms m) s a (mems_taken_fewer (r.left_membranes m) (taken_all s (r.left_atoms m)) a i);
}
can_do r (NewLink p q) s xs b c = record { heap = tied s (newlink (new_port r p) (new_port r q)); does = refl; fewer = tied_fewer s (newlink (new_port r p) (new_port r q)) }
can_do r (Relink p h) s xs b c = record { heap = tied s (relink (new_port r p) (old_port r h)); does = refl; fewer = tied_fewer s (relink (new_port r p) (old_port r h)) }
can_do r (Unify g h) s xs b c = record { heap = tied s (unify (old_port r g) (old_port r h)); does = refl; fewer = tied_fewer s (unify (old_port r g) (old_port r h)) }
can_do r Proceed s xs b c = record { heap = finished s; does = refl; fewer = λ a i. then_some (s.atoms a) unless_gone i }
can_do r i s xs b c = absurd c

-- ---- all of them

-- code that can run has a run
pub commits_exist : (r : Registers) (is : List Instr) (s : Heap) (xs : List ℕ) → Bounded s xs → CanRun r is s → (t : Heap) × DoesAll r is s t
commits_exist r [] s xs b c = (s, refl)
commits_exist r (i ∷ is) s xs b c =
    let u = can_do r i s xs b c.0 in
    let w = commits_exist r is u.heap xs (λ a k. b a (u.fewer a k)) (c.1 u.heap u.does) in
    (w.0, (u.heap, u.does, w.1))
