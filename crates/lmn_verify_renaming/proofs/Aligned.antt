-- Two heaps between commits of which all lists, functors and links are one with other numbers are one with other numbers.
use Rattle.std.proofs.Common.{◌≡◌, ◌∙◌, ◌+◌, ◌<◌, ℕ, List, [], ◌∷◌, Option, Some, None, IsSome, length, map, refl, sym, ap, subst, inl, inr}
use Rattle.std.specs.Prelude.{slice_index_or}
use Rattle.std.specs.Option.{option_map}
use Rattle.std.proofs.Math.ListN.{get_or-map}
use Rattle.std.proofs.lemmas.List.{length-map}
use Rattle.std.proofs.lemmas.Option.{same_Some}
use Rattle.lmn_base.specs.declared.functor.Functor.{Functor}
use Rattle.lmn_base.specs.Lists.{In}
use Rattle.lmn_base.proofs.Lists.{none_is_not, some_is}
use Rattle.lmn_store_heap.specs.Heap.{Heap, HeapAtom, HeapMem, IsAtom, IsMem, Place, Unmarked, arity_of, atoms_by, atoms_in, functor_of, link_of, marks_of, mem_place_of, mems_by, mems_in, partners_of, rules_by, rules_in, within}
use Rattle.lmn_store_heap.specs.Sound.{Forest, Forms, IsTree, Listed, Valid, flat}
use Rattle.lmn_store_heap.proofs.Common.{holds_mem}
use Rattle.lmn_store_heap.proofs.Items.{place_some}
use Rattle.lmn_store_heap.proofs.Trees.{is_mem}
use Rattle.lmn_verify_renaming.specs.Renamed.{Renaming, SameButRoom, renamed, renamed_atom, renamed_mem, renamed_place, renamed_port, with_room}
use Rattle.lmn_verify_renaming.proofs.Alike.{mem_settled, none_new, none_new_mems, place_of_atom}
use Rattle.lmn_verify_renaming.proofs.Lists.{same_list}
use Rattle.lmn_verify_renaming.proofs.Numbers.{in_back, in_there}
use Rattle.lmn_verify_renaming.proofs.Mapped.{flats_there}

-- ---- a heap between commits

module _ (s : Heap) (v : Valid s) where
  -- the membrane in which an atom stands
  stands_in : (a : ℕ) (x : HeapAtom) → s.atoms a ≡ Some x → (m : ℕ) × (x.place ≡ within m) × IsMem s m × In a (atoms_in s m)
  stands_in a x e =
      let w = place_of_atom s v a x e in
      let sound = v.sound in
      let listed = sound.listed in
      let there = (listed.atoms w.0 a).1 (ap (option_map (λ (y : HeapAtom). y.place)) e ∙ ap (λ q. Some q) w.1) in
      (w.0, w.1, holds_mem (s.mems w.0) a there, there)

-- What is asked: the root, and of each membrane and atom of the first heap what the second has at the other number.
pub record Aligned (p : Renaming) (h k : Heap) : Type 0 where
  pub root : k.root ≡ p.mems.to h.root
  pub atoms : (m : ℕ) → IsMem h m → atoms_in k (p.mems.to m) ≡ map p.atoms.to (atoms_in h m)
  pub mems : (m : ℕ) → IsMem h m → mems_in k (p.mems.to m) ≡ map p.mems.to (mems_in h m)
  pub rules : (m : ℕ) → IsMem h m → rules_in k (p.mems.to m) ≡ rules_in h m
  pub functors : (a : ℕ) → IsAtom h a → functor_of k (p.atoms.to a) ≡ functor_of h a
  pub links : (a i b j : ℕ) → link_of h a i ≡ Some (b, j) → link_of k (p.atoms.to a) i ≡ Some (p.atoms.to b, j)

module _ (p : Renaming) (h k : Heap) (vh : Valid h) (vk : Valid k) (uh : Unmarked h) (uk : Unmarked k) (al : Aligned p h k) where
  abbrev A : ℕ → ℕ
  A = p.atoms.to

  abbrev M : ℕ → ℕ
  M = p.mems.to

  abbrev lh : Listed h
  lh = vh.sound.listed

  abbrev lk : Listed k
  lk = vk.sound.listed

  abbrev F : Forest
  F = vh.tree.0

  abbrev G : Forest
  G = vk.tree.0

  tree_h : IsTree h F
  tree_h = vh.tree.1

  tree_k : IsTree k G
  tree_k = vk.tree.1

  is_of_h : (m : ℕ) → In m (flat F) → IsMem h m
  is_of_h m i = is_mem h vh.sound F tree_h m i

  flats : flat G ≡ map M (flat F)
  flats =
      let one = tree_h in
      let two = tree_k in
      flats_there p.mems h k F G (h.root ∷ []) (λ m i. al.mems m (is_of_h m i)) one.forms (subst (λ z. Forms k G (z ∷ [])) al.root two.forms)

  mem_there : (m : ℕ) → IsMem h m → IsMem k (M m)
  mem_there m i = (let one = tree_h in is_mem k vk.sound G tree_k (M m) (subst (In (M m)) (sym flats) (in_there p.mems m (flat F) (one.all m i))))

  mem_back : (m : ℕ) → IsMem k (M m) → IsMem h m
  mem_back m i = (let two = tree_k in is_of_h m (subst (λ z. In z (flat F)) (p.mems.there m) (in_back p.mems (M m) (flat F) (subst (In (M m)) flats (two.all (M m) i)))))

  has_mems : (o : Option HeapMem) (m : ℕ) → In m (mems_by o) → IsSome o
  has_mems None m i = absurd i
  has_mems (Some y) m i = refl

  place_there : (m : ℕ) (q : Place) → IsMem h m → mem_place_of h m ≡ Some q → mem_place_of k (M m) ≡ Some (renamed_place M q)
  place_there m q i e = elim (mem_settled h vh m q i e) [
    | inl t ↦ (let root = (lh.root m).0 (e ∙ ap (λ z. Some z) t) in (lk.root (M m)).1 (ap M root ∙ sym al.root) ∙ ap (λ z. Some (renamed_place M z)) (sym t))
    | inr w ↦ (
        let inside = (lh.mems w.0 m).1 (e ∙ ap (λ z. Some z) w.1) in
        (lk.mems (M w.0) (M m)).0 (subst (In (M m)) (sym (al.mems w.0 (has_mems (h.mems w.0) m inside))) (in_there p.mems m (mems_in h w.0) inside)) ∙ ap (λ z. Some (renamed_place M z)) (sym w.1))
  ]

  -- a membrane and the one with the other number
  mem_same : (m : ℕ) (y z : HeapMem) → h.mems m ≡ Some y → k.mems (M m) ≡ Some z → ◌≡◌ {A = Option HeapMem} (Some z) (Some (with_room z.spare z.mark (renamed_mem A M y)))
  mem_same m y z e f =
      let stands : IsMem h m = subst (λ (o : Option HeapMem). IsSome o) (sym e) refl in
      let atoms : z.atoms ≡ map A y.atoms = sym (ap atoms_by f) ∙ al.atoms m stands ∙ ap (λ o. map A (atoms_by o)) e in
      let mems : z.mems ≡ map M y.mems = sym (ap mems_by f) ∙ al.mems m stands ∙ ap (λ o. map M (mems_by o)) e in
      let rules : z.rules ≡ y.rules = sym (ap rules_by f) ∙ al.rules m stands ∙ ap rules_by e in
      let place : z.place ≡ renamed_place M y.place = same_Some z.place (renamed_place M y.place) (sym (ap (option_map (λ (q : HeapMem). q.place)) f) ∙ place_there m y.place stands (ap (option_map (λ (q : HeapMem). q.place)) e)) in
      λ i. Some (record { atoms = atoms i; mems = mems i; rules = rules i; spare = z.spare; mark = z.mark; place = place i })

  mem_is : (m : ℕ) (o : Option HeapMem) → h.mems m ≡ o → (spare : ℕ) × (mark : ℕ) × (k.mems (M m) ≡ option_map (with_room spare mark) (option_map (renamed_mem A M) o))
  mem_is m None e = (0, 0, none (k.mems (M m)) refl)
    where
      none : (o : Option HeapMem) → k.mems (M m) ≡ o → k.mems (M m) ≡ None
      none None f = f
      none (Some y) f = absurd (none_is_not (h.mems m) e (mem_back m (subst (λ (o : Option HeapMem). IsSome o) (sym f) refl)))
  mem_is m (Some y) e =
      let w = some_is (k.mems (M m)) (mem_there m (subst (λ (o : Option HeapMem). IsSome o) (sym e) refl)) in
      (w.0.spare, w.0.mark, w.1 ∙ mem_same m y w.0 e w.1)

  -- ---- atoms

  -- an atom of the second heap is one of the first with its other number
  atom_back : (a : ℕ) (y : HeapAtom) → k.atoms (A a) ≡ Some y → IsAtom h a
  atom_back a y e =
      let w = stands_in k vk (A a) y e in
      let m = p.mems.back w.0 in
      let same : M m ≡ w.0 = p.mems.again w.0 in
      let there : IsMem h m = mem_back m (subst (IsMem k) (sym same) w.2) in
      let in_k : In (A a) (map A (atoms_in h m)) = subst (In (A a)) (ap (atoms_in k) (sym same) ∙ al.atoms m there) w.3 in
      let in_h : In a (atoms_in h m) = subst (λ z. In z (atoms_in h m)) (p.atoms.there a) (in_back p.atoms (A a) (atoms_in h m) in_k) in
      place_some (h.atoms a) (within m) ((lh.atoms m a).0 in_h)

  links_alike : (ls zs : List (Option (ℕ × ℕ))) → length zs ≡ length ls → ((i : ℕ) → i < length zs → slice_index_or zs i None ≡ option_map (renamed_port A) (slice_index_or ls i None)) → zs ≡ map (option_map (renamed_port A)) ls
  links_alike ls zs long each = same_list None zs (map (option_map (renamed_port A)) ls) (long ∙ sym (length-map ls (option_map (renamed_port A)))) (λ i l. each i l ∙ sym (get_or-map (option_map (renamed_port A)) ls i None))

  with_functor : {f : Functor} (o : Option HeapAtom) → option_map (λ (x : HeapAtom). x.functor) o ≡ Some f → IsSome o
  with_functor None e = absurd (cc e)
  with_functor (Some y) e = refl

  functor_there : (a : ℕ) (y : HeapAtom) → h.atoms a ≡ Some y → functor_of k (A a) ≡ Some y.functor
  functor_there a y e = al.functors a (subst (λ (o : Option HeapAtom). IsSome o) (sym e) refl) ∙ ap (option_map (λ (x : HeapAtom). x.functor)) e

  -- an atom and the one with the other number
  atom_same : (a : ℕ) (y z : HeapAtom) → h.atoms a ≡ Some y → k.atoms (A a) ≡ Some z → ◌≡◌ {A = Option HeapAtom} (Some z) (Some (renamed_atom A M y))
  atom_same a y z e f =
      let stands : IsAtom h a = subst (λ (o : Option HeapAtom). IsSome o) (sym e) refl in
      let is_atom : IsAtom k (A a) = subst (λ (o : Option HeapAtom). IsSome o) (sym f) refl in
      let one = vh.sound.shaped in
      let other = vk.sound.shaped in
      let fk = functor_there a y e in
      let functor : z.functor ≡ y.functor = same_Some z.functor y.functor (sym (ap (option_map (λ (x : HeapAtom). x.functor)) f) ∙ fk) in
      let arity_h : arity_of h a ≡ length y.links = ap (λ o. length (partners_of o)) e in
      let arity_k : arity_of k (A a) ≡ length z.links = ap (λ o. length (partners_of o)) f in
      let same_arity : arity_of k (A a) ≡ arity_of h a = other.ports (A a) y.functor fk ∙ sym (one.ports a y.functor (ap (option_map (λ (x : HeapAtom). x.functor)) e)) in
      let long : length z.links ≡ length y.links = sym arity_k ∙ same_arity ∙ arity_h in
      let each : (i : ℕ) → i < length z.links → slice_index_or z.links i None ≡ option_map (renamed_port A) (slice_index_or y.links i None) =
      λ i l. (let q = some_is (link_of h a i) (vh.full a i (subst (λ n. i < n) (long ∙ sym arity_h) l)) in
      sym (ap (λ o. slice_index_or (partners_of o) i None) f) ∙ al.links a i q.0.0 q.0.1 q.1 ∙ ap (option_map (renamed_port A)) (sym q.1 ∙ ap (λ o. slice_index_or (partners_of o) i None) e)) in
      let links : z.links ≡ map (option_map (renamed_port A)) y.links = links_alike y.links z.links long each in
      let marks_long : length z.marks ≡ length y.marks =
      sym (ap (λ o. length (marks_of o)) f) ∙ other.marks (A a) is_atom ∙ ap (λ n. n + 1) same_arity ∙ sym (one.marks a stands) ∙ ap (λ o. length (marks_of o)) e in
      let marks : z.marks ≡ y.marks = same_list 0 z.marks y.marks marks_long (λ i l. sym (ap (λ o. slice_index_or (marks_of o) i 0) f) ∙ uk (A a) i ∙ sym (uh a i) ∙ ap (λ o. slice_index_or (marks_of o) i 0) e) in
      let s = stands_in h vh a y e in
      let there = (lk.atoms (M s.0) (A a)).0 (subst (In (A a)) (sym (al.atoms s.0 s.2)) (in_there p.atoms a (atoms_in h s.0) s.3)) in
      let place : z.place ≡ renamed_place M y.place = same_Some z.place (within (M s.0)) (sym (ap (option_map (λ (q : HeapAtom). q.place)) f) ∙ there) ∙ ap (renamed_place M) (sym s.1) in
      λ i. Some (record { functor = functor i; links = links i; marks = marks i; place = place i })

  atom_is : (a : ℕ) (o : Option HeapAtom) → h.atoms a ≡ o → k.atoms (A a) ≡ option_map (renamed_atom A M) o
  atom_is a None e = none (k.atoms (A a)) refl
    where
      none : (o : Option HeapAtom) → k.atoms (A a) ≡ o → k.atoms (A a) ≡ None
      none None f = f
      none (Some y) f = absurd (none_is_not (h.atoms a) e (atom_back a y f))
  atom_is a (Some y) e = (let w = some_is (k.atoms (A a)) (with_functor (k.atoms (A a)) (functor_there a y e)) in w.1 ∙ atom_same a y w.0 e w.1)

  -- they are one with other numbers
  pub aligned : SameButRoom (renamed p h) k
  aligned = record {
    root = al.root;
    atoms = λ a. ap k.atoms (sym (p.atoms.again a)) ∙ atom_is (p.atoms.back a) (h.atoms (p.atoms.back a)) refl;
    mems = λ m. (let w = mem_is (p.mems.back m) (h.mems (p.mems.back m)) refl in (w.0, w.1, ap k.mems (sym (p.mems.again m)) ∙ w.2));
    new_atoms = none_new k vk ∙ sym (ap (map A) (none_new h vh));
    new_mems = none_new_mems k vk ∙ sym (ap (map M) (none_new_mems h vh));
  }
