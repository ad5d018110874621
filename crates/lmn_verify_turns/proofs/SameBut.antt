-- What is read of a heap that is another one with other numbers, but for room for rules and marks of membranes.
use Rattle.std.proofs.Common.{◌≡◌, ◌∙◌, ℕ, List, [], ◌∷◌, ◌++◌, Option, Some, None, IsSome, map, refl, sym, ap, subst}
use Rattle.std.specs.Option.{option_map}
use Rattle.lmn_base.specs.Graphs.{Port, Reached}
use Rattle.lmn_base.specs.declared.solid.Region.TheViews.{roll-Region}
use Rattle.lmn_base.specs.declared.solid.Solid.{Solid}
use Rattle.lmn_store_heap.specs.Graphs.{atom_map}
use Rattle.lmn_store_heap.specs.Heap.{Heap, HeapMem, IsMem, atoms_by, atoms_in, mem_with_mark, mems_by, mems_in, rules_by, rules_in}
use Rattle.lmn_store_heap.specs.Solid.{HasSolid, IsNaming, regions_of, solid_atom_at, solid_atoms_at}
use Rattle.lmn_store_heap.specs.Sound.{Forest, Forms, IsTree, bare, mem}
use Rattle.lmn_schedule_sleep.specs.Quiet.{SameButMarks}
use Rattle.lmn_verify_renaming.specs.Renamed.{Renaming, SameButRoom, renamed, renamed_atom, renamed_mem, renamed_port, with_room}
use Rattle.lmn_verify_renaming.proofs.Parts.{reached_back, reached_there}
use Rattle.lmn_verify_renaming.proofs.Reading.{atoms_there, mems_there, rules_there}
use Rattle.lmn_verify_renaming.proofs.Solids.{solids_are_renamed}

-- ---- but for room and marks

room_back : (o p : Option HeapMem) (a b : ℕ) → p ≡ option_map (with_room a b) o → (spare : ℕ) × (mark : ℕ) × (o ≡ option_map (with_room spare mark) p)
room_back None p a b e = (0, 0, sym (ap (option_map (with_room 0 0)) e))
room_back (Some x) p a b e = (x.spare, x.mark, sym (ap (option_map (with_room x.spare x.mark)) e))

-- the other way round
pub same_back : (s t : Heap) → SameButRoom s t → SameButRoom t s
same_back s t h = record {
  root = sym h.root;
  atoms = λ a. sym (h.atoms a);
  mems = λ m. (let w = h.mems m in room_back (s.mems m) (t.mems m) w.0 w.1 w.2);
  new_atoms = sym h.new_atoms;
  new_mems = sym h.new_mems;
}

room_twice : (o : Option HeapMem) (a b c d : ℕ) → option_map (with_room c d) (option_map (with_room a b) o) ≡ option_map (with_room c d) o
room_twice None a b c d = refl
room_twice (Some x) a b c d = refl

-- one after the other
pub same_then : (s t u : Heap) → SameButRoom s t → SameButRoom t u → SameButRoom s u
same_then s t u h g = record {
  root = g.root ∙ h.root;
  atoms = λ a. g.atoms a ∙ h.atoms a;
  mems = λ m. (let v = h.mems m in let w = g.mems m in (w.0, w.1, w.2 ∙ ap (option_map (with_room w.0 w.1)) v.2 ∙ room_twice (s.mems m) v.0 v.1 w.0 w.1));
  new_atoms = g.new_atoms ∙ h.new_atoms;
  new_mems = g.new_mems ∙ h.new_mems;
}

-- and with other numbers
pub same_renamed : (q : Renaming) (s t : Heap) → SameButRoom s t → SameButRoom (renamed q s) (renamed q t)
same_renamed q s t h = record {
  root = ap q.mems.to h.root;
  atoms = λ a. ap (option_map (renamed_atom q.atoms.to q.mems.to)) (h.atoms (q.atoms.back a));
  mems = λ m. (let w = h.mems (q.mems.back m) in (w.0, w.1, ap (option_map (renamed_mem q.atoms.to q.mems.to)) w.2 ∙ by (s.mems (q.mems.back m)) w.0 w.1));
  new_atoms = ap (map q.atoms.to) h.new_atoms;
  new_mems = ap (map q.mems.to) h.new_mems;
}
  where
    by : (o : Option HeapMem) (a b : ℕ) → option_map (renamed_mem q.atoms.to q.mems.to) (option_map (with_room a b) o) ≡ option_map (with_room a b) (option_map (renamed_mem q.atoms.to q.mems.to) o)
    by None a b = refl
    by (Some x) a b = refl

-- a heap that is the same but for marks
pub marks_apart : (s t : Heap) → SameButMarks s t → SameButRoom s t
marks_apart s t h = record { root = h.root; atoms = h.atoms; mems = λ m. (let w = h.mems m in by (s.mems m) (t.mems m) w.0 w.1); new_atoms = h.new_atoms; new_mems = h.new_mems }
  where
    by : (o p : Option HeapMem) (v : ℕ) → p ≡ option_map (mem_with_mark v) o → (spare : ℕ) × (mark : ℕ) × (p ≡ option_map (with_room spare mark) o)
    by None p v e = (0, v, e)
    by (Some x) p v e = (x.spare, v, e)

-- heaps that are one with other numbers are so with other marks too
pub but_for_marks : (t u h k : Heap) → SameButMarks t h → SameButMarks u k → (p : Renaming) → SameButRoom (renamed p t) u → SameButRoom (renamed p h) k
but_for_marks t u h k a b p w =
    let first = same_renamed p h t (same_back t h (marks_apart t h a)) in
    let last = marks_apart u k b in
    same_then (renamed p h) u k (same_then (renamed p h) (renamed p t) u first w) last

module _ (s t : Heap) (same : SameButRoom s t) where
  by_room : {X : Type 0} (read : Option HeapMem → X) → ((o : Option HeapMem) (a b : ℕ) → read (option_map (with_room a b) o) ≡ read o) → (m : ℕ) → read (t.mems m) ≡ read (s.mems m)
  by_room read alike m = let w = same.mems m in ap read w.2 ∙ alike (s.mems m) w.0 w.1

  atoms_same : (m : ℕ) → atoms_in t m ≡ atoms_in s m
  atoms_same m = by_room atoms_by by m
    where
      by : (o : Option HeapMem) (a b : ℕ) → atoms_by (option_map (with_room a b) o) ≡ atoms_by o
      by None a b = refl
      by (Some x) a b = refl

  mems_same : (m : ℕ) → mems_in t m ≡ mems_in s m
  mems_same m = by_room mems_by by m
    where
      by : (o : Option HeapMem) (a b : ℕ) → mems_by (option_map (with_room a b) o) ≡ mems_by o
      by None a b = refl
      by (Some x) a b = refl

  rules_same : (m : ℕ) → rules_in t m ≡ rules_in s m
  rules_same m = by_room rules_by by m
    where
      by : (o : Option HeapMem) (a b : ℕ) → rules_by (option_map (with_room a b) o) ≡ rules_by o
      by None a b = refl
      by (Some x) a b = refl

  stands_same : (m : ℕ) → IsMem t m → IsMem s m
  stands_same m i = let w = same.mems m in by (s.mems m) w.0 w.1 (subst (λ (o : Option HeapMem). IsSome o) w.2 i)
    where
      by : (o : Option HeapMem) (a b : ℕ) → IsSome (option_map (with_room a b) o) → IsSome o
      by None a b j = absurd (cc j)
      by (Some x) a b j = refl

  -- the heap that has the membranes of t and all else of s
  same_heap : record s { mems = t.mems } ≡ t
  same_heap = λ i. record { root = sym same.root i; atoms = λ a. sym (same.atoms a) i; mems = t.mems; new_atoms = sym same.new_atoms i; new_mems = sym same.new_mems i }

  reached_same : (p : Port) (b : ℕ) → Reached (atom_map s) p b → Reached (atom_map t) p b
  reached_same p b r = subst (λ z. Reached (atom_map z) p b) same_heap r

  -- ---- solids

  solid_atoms_same : (name : ℕ → ℕ → ℕ) (xs : List ℕ) → solid_atoms_at t name xs ≡ solid_atoms_at s name xs
  solid_atoms_same name [] = refl
  solid_atoms_same name (x ∷ xs) = let a : solid_atom_at name x (t.atoms x) ≡ solid_atom_at name x (s.atoms x) = ap (solid_atom_at name x) (same.atoms x) in let b = solid_atoms_same name xs in λ i. a i ++ b i

  regions_same : (name : ℕ → ℕ → ℕ) (f : Forest) → regions_of t name f ≡ regions_of s name f
  regions_same name bare = refl
  regions_same name (mem m i f) =
      let a : solid_atoms_at t name (atoms_in t m) ≡ solid_atoms_at s name (atoms_in s m) = ap (solid_atoms_at t name) (atoms_same m) ∙ solid_atoms_same name (atoms_in s m) in
      let b = regions_same name i in
      let c = rules_same m in
      let d = regions_same name f in
      λ j. roll-Region (record { atoms = a j; membranes = b j; rules = c j }) ∷ d j

  forms_same : (f : Forest) (ms : List ℕ) → Forms s f ms → Forms t f ms
  forms_same bare ms e = e
  forms_same (mem m inner rest) ms w = (w.0, w.1, subst (Forms t inner) (sym (mems_same m)) (forms_same inner (mems_in s m) w.2), forms_same rest w.0 w.3)

  tree_same : (f : Forest) → IsTree s f → IsTree t f
  tree_same f tree = record { forms = subst (λ z. Forms t f (z ∷ [])) (sym same.root) (forms_same f (s.root ∷ []) tree.forms); once = tree.once; all = λ m i. tree.all m (stands_same m i) }

  -- a heap that is the same but for room and marks has the same solids
  pub solid_same : (x : Solid) → HasSolid s x → HasSolid t x
  solid_same x has = record {
    forest = has.forest;
    tree = tree_same has.forest has.tree;
    name = has.name;
    naming = subst (λ z. IsNaming z has.name) same_heap (record { joined = has.naming.joined; apart = has.naming.apart });
    root = regions_same has.name has.forest ∙ has.root;
    count = has.count;
    numbers = has.numbers;
  }

-- ---- with other numbers

-- What is read of k is what is read of h, with other numbers: its root, the lists of its membranes, and its parts.
pub record Reads (q : Renaming) (h k : Heap) : Type 0 where
  pub root : k.root ≡ q.mems.to h.root
  pub atoms : (m : ℕ) → atoms_in k (q.mems.to m) ≡ map q.atoms.to (atoms_in h m)
  pub mems : (m : ℕ) → mems_in k (q.mems.to m) ≡ map q.mems.to (mems_in h m)
  pub rules : (m : ℕ) → rules_in k (q.mems.to m) ≡ rules_in h m
  pub stood : (m : ℕ) → IsMem k m → IsMem h (q.mems.back m)
  pub reached : (p : Port) (b : ℕ) → Reached (atom_map h) p b → Reached (atom_map k) (renamed_port q.atoms.to p) (q.atoms.to b)
  pub reached_back : (p : Port) (b : ℕ) → Reached (atom_map k) (renamed_port q.atoms.to p) b → Reached (atom_map h) p (q.atoms.back b)

-- so it is where k is h with other numbers, but for room and marks
pub reads : (q : Renaming) (h k : Heap) → SameButRoom (renamed q h) k → Reads q h k
reads q h k same = record {
  root = same.root;
  atoms = λ m. atoms_same (renamed q h) k same (q.mems.to m) ∙ atoms_there q h m;
  mems = λ m. mems_same (renamed q h) k same (q.mems.to m) ∙ mems_there q h m;
  rules = λ m. rules_same (renamed q h) k same (q.mems.to m) ∙ rules_there q h m;
  stood = λ m i. stood (h.mems (q.mems.back m)) (stands_same (renamed q h) k same m i);
  reached = λ p b r. reached_same (renamed q h) k same (renamed_port q.atoms.to p) (q.atoms.to b) (reached_there q h p b r);
  reached_back = λ p b r. reached_back q h p b (reached_same k (renamed q h) (same_back (renamed q h) k same) (renamed_port q.atoms.to p) b r);
}
  where
    stood : (o : Option HeapMem) → IsSome (option_map (renamed_mem q.atoms.to q.mems.to) o) → IsSome o
    stood None i = absurd (cc i)
    stood (Some x) i = refl

-- It has the solids of h.
pub solid_there : (q : Renaming) (h k : Heap) → SameButRoom (renamed q h) k → (x : Solid) → HasSolid h x → HasSolid k x
solid_there q h k same x has = solid_same (renamed q h) k same x (solids_are_renamed q h x has)
