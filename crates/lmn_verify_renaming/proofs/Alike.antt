-- Two heaps that have one solid are one with other numbers.
use Rattle.std.proofs.Common.{◌≡◌, ◌⊎◌, ◌∙◌, ◌+◌, ◌<◌, ℕ, zero, suc, List, [], ◌∷◌, Option, Some, None, IsSome, length, map, refl, sym, ap, subst, inl, inr, arith}
use Rattle.std.specs.Prelude.{slice_index_or}
use Rattle.std.specs.Option.{option_and_then, option_map}
use Rattle.std.proofs.Math.ListN.{get_or-map}
use Rattle.std.proofs.lemmas.List.{length-map}
use Rattle.std.proofs.lemmas.Option.{same_Some}
use Rattle.lmn_base.specs.declared.solid.Solid.{Solid}
use Rattle.lmn_base.specs.Lists.{In}
use Rattle.lmn_base.proofs.Lists.{head_is, link_within, some_is}
use Rattle.lmn_store_heap.specs.Heap.{Heap, HeapAtom, HeapMem, IsAtom, IsMem, Place, Unmarked, arity_of, atoms_by, atoms_in, gone, home_by, link_of, marks_of, mem_place_of, mems_by, mems_in, partners_of, place_of, rules_by, top, waiting, within}
use Rattle.lmn_store_heap.specs.Solid.{HasSolid, links_from}
use Rattle.lmn_store_heap.specs.Sound.{Forest, IsTree, Listed, Valid, flat}
use Rattle.lmn_store_heap.proofs.Common.{is_atom_at, listed_atom, nothing_in}
use Rattle.lmn_store_heap.proofs.Items.{place_some}
use Rattle.lmn_store_heap.proofs.ListLemmas.{each_of}
use Rattle.lmn_store_heap.proofs.Trees.{is_mem, parent_by}
use Rattle.lmn_verify_renaming.specs.Laws.{OneSolidIsRenamed}
use Rattle.lmn_verify_renaming.specs.Renamed.{Numbering, Renaming, SameButRoom, renamed, renamed_atom, renamed_mem, renamed_place, renamed_port, with_room}
use Rattle.lmn_verify_renaming.proofs.Lists.{Two, numbering_of, same_list, two_at, two_long}
use Rattle.lmn_verify_renaming.proofs.Matching.{Same, SameAtom, SameMem, atoms_of, atoms_once, atoms_two, each_mem, flats_long, of_atoms, same_of}
use Rattle.lmn_verify_renaming.proofs.Numbers.{in_back, in_there}

-- ---- a valid heap

module _ (s : Heap) (v : Valid s) where
  -- an atom stands in a membrane
  pub place_of_atom : (a : ℕ) (x : HeapAtom) → s.atoms a ≡ Some x → (m : ℕ) × (x.place ≡ within m)
  place_of_atom a x e =
      let settled = v.settled in
      by x.place (subst (λ (o : Option HeapAtom). IsSome (option_and_then (λ (y : HeapAtom). home_by y.place) o)) e (settled.atoms a (subst (λ (o : Option HeapAtom). IsSome o) (sym e) refl)))
    where
      by : (p : Place) → IsSome (home_by p) → (m : ℕ) × (p ≡ within m)
      by top i = absurd (cc i)
      by (within m) i = (m, refl)
      by waiting i = absurd (cc i)
      by gone i = absurd (cc i)

  -- an atom stands in a membrane of the tree
  standing : (f : Forest) → IsTree s f → (a : ℕ) → IsAtom s a → (m : ℕ) × In m (flat f) × In a (atoms_in s m)
  standing f t a i =
      let w = some_is (s.atoms a) i in
      let p = place_of_atom a w.0 w.1 in
      let sound = v.sound in
      let listed = sound.listed in
      let e : place_of s a ≡ Some (within p.0) = ap (option_map (λ (y : HeapAtom). y.place)) w.1 ∙ ap (λ q. Some q) p.1 in
      let there = (listed.atoms p.0 a).1 e in
      (p.0, t.all p.0 (has_atoms (s.mems p.0) there), there)
    where
      has_atoms : (o : Option HeapMem) → In a (atoms_by o) → IsSome o
      has_atoms None i = absurd i
      has_atoms (Some x) i = refl

  -- no atom is new
  pub none_new : s.new_atoms ≡ []
  none_new = nothing_in s.new_atoms (λ b i. (let sound = v.sound in let listed = sound.listed in by b ((listed.new_atoms b).0 i)))
    where
      by : (b : ℕ) → place_of s b ≡ Some waiting → ⊥
      by b e =
          let w = some_is (s.atoms b) (place_some (s.atoms b) waiting e) in
          let p = place_of_atom b w.0 w.1 in
          let same : within p.0 ≡ waiting = same_Some (within p.0) waiting (sym (ap (option_map (λ (y : HeapAtom). y.place)) w.1 ∙ ap (λ q. Some q) p.1) ∙ e) in
          cc same

  -- a membrane is the root, or stands in one
  pub mem_settled : (m : ℕ) (p : Place) → IsMem s m → mem_place_of s m ≡ Some p → (p ≡ top) ⊎ ((q : ℕ) × (p ≡ within q))
  mem_settled m p i e = (let settled = v.settled in elim (settled.mems m i) [
    | inl t ↦ inl (same_Some p top (sym e ∙ t))
    | inr h ↦ inr (by p (subst (λ (o : Option ℕ). IsSome o) (parent_by s m p e) h))
  ])
    where
      by : (p : Place) → IsSome (home_by p) → (q : ℕ) × (p ≡ within q)
      by top i = absurd (cc i)
      by (within m) i = (m, refl)
      by waiting i = absurd (cc i)
      by gone i = absurd (cc i)

  -- no membrane is new
  pub none_new_mems : s.new_mems ≡ []
  none_new_mems = nothing_in s.new_mems (λ m i. (let sound = v.sound in let listed = sound.listed in by m ((listed.new_mems m).0 i)))
    where
      is_some : (o : Option HeapMem) → option_map (λ (y : HeapMem). y.place) o ≡ Some waiting → IsSome o
      is_some None e = absurd (cc e)
      is_some (Some y) e = refl

      by : (m : ℕ) → mem_place_of s m ≡ Some waiting → ⊥
      by m e = elim (mem_settled m waiting (is_some (s.mems m) e) e) [ inl x ↦ cc x | inr x ↦ (let y = x.1 in cc y) ]

-- the number at a place of a list of links
links_at : (u v : ℕ → ℕ → ℕ) (a b j n m : ℕ) → links_from u a j n ≡ links_from v b j m → (i : ℕ) → i < n → u a (j + i) ≡ v b (j + i)
links_at u v a b j zero m e i l = absurd (omega (arith, l))
links_at u v a b j (suc n) zero e i l = absurd (cc e)
links_at u v a b j (suc n) (suc m) e zero l = (let z : j + 0 ≡ j = omega arith in subst (λ y. u a y ≡ v b y) (sym z) (head_is e))
links_at u v a b j (suc n) (suc m) e (suc i) l =
    let z : j + 1 + i ≡ j + suc i = omega arith in
    subst (λ y. u a y ≡ v b y) z (links_at u v a b (j + 1) n m (tail_of e) i (omega (arith, l)))
  where
    tail_of : {x y : ℕ} {xs ys : List ℕ} → x ∷ xs ≡ y ∷ ys → xs ≡ ys
    tail_of e = ap (λ (zs : List ℕ). elim zs as (λ zs. List ℕ) [ [] ↦ [] | z ∷ zs ↦ zs ]) e

-- ---- two that have one solid

module _ (h k : Heap) (x : Solid) (vh : Valid h) (vk : Valid k) (uh : Unmarked h) (uk : Unmarked k) (sh : HasSolid h x) (sk : HasSolid k x) where
  abbrev Match : ℕ → ℕ → Type 0
  Match = SameAtom h k sh.name sk.name

  same : Same h k sh.name sk.name sh.forest sk.forest
  same = same_of h k sh.name sk.name sh.forest sk.forest (λ m i. each_of (IsAtom h) (atoms_in h m) (listed_atom h vh.sound.listed m)) (λ m i. each_of (IsAtom k) (atoms_in k m) (listed_atom k vk.sound.listed m)) (sh.root ∙ sym sk.root)

  two : Two Match (atoms_of h sh.forest) (atoms_of k sk.forest)
  two = atoms_two h k sh.name sk.name sh.forest sk.forest same

  by_atoms : (n : Numbering) × (map n.to (atoms_of h sh.forest) ≡ atoms_of k sk.forest)
  by_atoms =
      let one = vh.sound in
      let other = vk.sound in
      let tree = sh.tree in
      let others = sk.tree in
      numbering_of (atoms_of h sh.forest) (atoms_of k sk.forest) (atoms_once h one.listed sh.forest tree.once) (atoms_once k other.listed sk.forest others.once)
      (two_long Match (atoms_of h sh.forest) (atoms_of k sk.forest) two)

  by_mems : (n : Numbering) × (map n.to (flat sh.forest) ≡ flat sk.forest)
  by_mems = (let tree = sh.tree in let others = sk.tree in
      numbering_of (flat sh.forest) (flat sk.forest) tree.once others.once (flats_long h k sh.name sk.name sh.forest sk.forest same))

  module _ (na nm : Numbering) (atoms_are : map na.to (atoms_of h sh.forest) ≡ atoms_of k sk.forest) (mems_are : map nm.to (flat sh.forest) ≡ flat sk.forest) where
    abbrev r : Renaming
    r = record { atoms = na; mems = nm }

    abbrev A : ℕ → ℕ
    A = na.to

    abbrev M : ℕ → ℕ
    M = nm.to

    each : (k.root ∷ [] ≡ map M (h.root ∷ [])) × ((m : ℕ) → In m (flat sh.forest) → SameMem h k sh.name sk.name A M m)
    each = (let tree = sh.tree in let others = sk.tree in
        each_mem h k sh.name sk.name A M sh.forest sk.forest (h.root ∷ []) (k.root ∷ []) same atoms_are mems_are tree.forms others.forms)

    -- ---- membranes

    mem_there : (m : ℕ) → IsMem h m → IsMem k (M m)
    mem_there m i = (let tree = sh.tree in let sound = vk.sound in
        is_mem k sound sk.forest sk.tree (M m) (subst (In (M m)) mems_are (in_there nm m (flat sh.forest) (tree.all m i))))

    mem_back : (m : ℕ) → IsMem k m → IsMem h (nm.back m)
    mem_back m i = (let tree = sk.tree in let sound = vh.sound in
        is_mem h sound sh.forest sh.tree (nm.back m) (in_back nm m (flat sh.forest) (subst (In m) (sym mems_are) (tree.all m i))))

    has_mems : (o : Option HeapMem) (m : ℕ) → In m (mems_by o) → IsSome o
    has_mems None m i = absurd i
    has_mems (Some y) m i = refl

    abbrev lh : Listed h
    lh = vh.sound.listed

    abbrev lk : Listed k
    lk = vk.sound.listed

    place_there : (m : ℕ) (p : Place) → IsMem h m → mem_place_of h m ≡ Some p → mem_place_of k (M m) ≡ Some (renamed_place M p)
    place_there m p i e = elim (mem_settled h vh m p i e) [
      | inl t ↦ (let root = (lh.root m).0 (e ∙ ap (λ q. Some q) t) in (lk.root (M m)).1 (ap M root ∙ sym (head_is each.0)) ∙ ap (λ q. Some (renamed_place M q)) (sym t))
      | inr w ↦ (
          let inside = (lh.mems w.0 m).1 (e ∙ ap (λ q. Some q) w.1) in
          let tree = sh.tree in
          let is = each.1 w.0 (tree.all w.0 (has_mems (h.mems w.0) m inside)) in
          (lk.mems (M w.0) (M m)).0 (subst (In (M m)) (sym is.mems) (in_there nm m (mems_in h w.0) inside)) ∙ ap (λ q. Some (renamed_place M q)) (sym w.1))
    ]

    mem_is : (m : ℕ) (o : Option HeapMem) → h.mems m ≡ o → (spare : ℕ) × (mark : ℕ) × (k.mems (M m) ≡ option_map (with_room spare mark) (option_map (renamed_mem A M) o))
    mem_is m None e = (0, 0, none (k.mems (M m)) refl)
      where
        none : (o : Option HeapMem) → k.mems (M m) ≡ o → k.mems (M m) ≡ None
        none None f = f
        none (Some y) f =
            let there : IsMem h m = subst (IsMem h) (nm.there m) (mem_back (M m) (subst (λ (o : Option HeapMem). IsSome o) (sym f) refl)) in
            let no : IsSome {T = HeapMem} None = subst (λ (o : Option HeapMem). IsSome o) e there in
            absurd (cc no)
    mem_is m (Some y) e =
        let stands : IsMem h m = subst (λ (o : Option HeapMem). IsSome o) (sym e) refl in
        let w = some_is (k.mems (M m)) (mem_there m stands) in
        let z = w.0 in
        let tree = sh.tree in
        let is = each.1 m (tree.all m stands) in
        let atoms : z.atoms ≡ map A y.atoms = sym (ap atoms_by w.1) ∙ is.atoms ∙ ap (λ o. map A (atoms_by o)) e in
        let mems : z.mems ≡ map M y.mems = sym (ap mems_by w.1) ∙ is.mems ∙ ap (λ o. map M (mems_by o)) e in
        let rules : z.rules ≡ y.rules = sym (ap rules_by w.1) ∙ is.rules ∙ ap rules_by e in
        let place : z.place ≡ renamed_place M y.place = same_Some z.place (renamed_place M y.place) (sym (ap (option_map (λ (q : HeapMem). q.place)) w.1) ∙ place_there m y.place stands (ap (option_map (λ (q : HeapMem). q.place)) e)) in
        (z.spare, z.mark, w.1 ∙ (λ i. Some (record { atoms = atoms i; mems = mems i; rules = rules i; spare = z.spare; mark = z.mark; place = place i })))

    -- ---- atoms

    atom_listed : (a : ℕ) → IsAtom h a → In a (atoms_of h sh.forest)
    atom_listed a i = let w = standing h vh sh.forest sh.tree a i in of_atoms h sh.forest w.0 a w.1 w.2

    atom_back : (a : ℕ) → IsAtom k a → In (na.back a) (atoms_of h sh.forest)
    atom_back a i = let w = standing k vk sk.forest sk.tree a i in in_back na a (atoms_of h sh.forest) (subst (In a) (sym atoms_are) (of_atoms k sk.forest w.0 a w.1 w.2))

    match : (a : ℕ) → In a (atoms_of h sh.forest) → Match a (A a)
    match a i = two_at Match A (atoms_of h sh.forest) (atoms_of k sk.forest) two atoms_are a i

    arity_left : (a : ℕ) (y : HeapAtom) → h.atoms a ≡ Some y → arity_of h a ≡ y.functor.arity
    arity_left a y e = (let sound = vh.sound in let shaped = sound.shaped in shaped.ports a y.functor (ap (option_map (λ (q : HeapAtom). q.functor)) e))

    arity_right : (a : ℕ) (y : HeapAtom) → k.atoms a ≡ Some y → arity_of k a ≡ y.functor.arity
    arity_right a y e = (let sound = vk.sound in let shaped = sound.shaped in shaped.ports a y.functor (ap (option_map (λ (q : HeapAtom). q.functor)) e))

    same_arity : (a : ℕ) → Match a (A a) → arity_of k (A a) ≡ arity_of h a
    same_arity a m = arity_right (A a) m.right m.is_right ∙ ap (λ f. f.arity) (sym m.functor) ∙ sym (arity_left a m.left m.is_left)

    same_name : (a i : ℕ) → Match a (A a) → i < arity_of h a → sh.name a i ≡ sk.name (A a) i
    same_name a i m l =
        let plain : 0 + i ≡ i = omega arith in
        subst (λ z. sh.name a z ≡ sk.name (A a) z) plain (links_at sh.name sk.name a (A a) 0 m.left.functor.arity m.right.functor.arity m.links i (subst (λ n. i < n) (arity_left a m.left m.is_left) l))

    link_is : (a i : ℕ) → In a (atoms_of h sh.forest) → i < arity_of h a → link_of k (A a) i ≡ option_map (renamed_port A) (link_of h a i)
    link_is a i inside l =
        let m = match a inside in
        let p = some_is (link_of h a i) (vh.full a i l) in
        let q = some_is (link_of k (A a) i) (vk.full (A a) i (subst (λ n. i < n) (sym (same_arity a m)) l)) in
        let b = p.0.0 in
        let j = p.0.1 in
        let c = q.0.0 in
        let e = q.0.1 in
        let ph = vh.sound.paired in
        let pk = vk.sound.paired in
        let back = ph.back a i b j p.1 in
        let back_k = pk.back (A a) i c e q.1 in
        let below_j = link_within (partners_of (h.atoms b)) j (a, i) back in
        let below_e = link_within (partners_of (k.atoms c)) e (A a, i) back_k in
        let there = atom_back c (is_atom_at k c e below_e) in
        let again = na.again c in
        let mc = match (na.back c) there in
        let arity = subst (λ z. arity_of k z ≡ arity_of h (na.back c)) again (same_arity (na.back c) mc) in
        let below : e < arity_of h (na.back c) = subst (λ n. e < n) arity below_e in
        let named : sh.name b j ≡ sh.name (na.back c) e =
        sym (sh.naming.joined a i b j p.1) ∙ same_name a i m l ∙ sk.naming.joined (A a) i c e q.1 ∙ sym (subst (λ z. sh.name (na.back c) e ≡ sk.name z e) again (same_name (na.back c) e mc below)) in
        let are : (c ≡ A b) × (e ≡ j) = elim (sh.naming.apart b j (na.back c) e below_j below named) [
          | inl w ↦ (sym again ∙ ap A (sym w.0), sym w.1)
          | inr f ↦ (
              let one : ◌≡◌ {A = ℕ × ℕ} (na.back c, e) (a, i) = same_Some (na.back c, e) (a, i) (sym f ∙ back) in
              let at : c ≡ A a = sym again ∙ ap (λ (z : ℕ × ℕ). A z.0) one in
              let port : e ≡ i = ap (λ (z : ℕ × ℕ). z.1) one in
              absurd (pk.apart (A a) i (q.1 ∙ (λ z. Some (at z, port z)))))
        ] in
        q.1 ∙ (λ z. Some (are.0 z, are.1 z)) ∙ sym (ap (option_map (renamed_port A)) p.1)

    atom_is : (a : ℕ) (o : Option HeapAtom) → h.atoms a ≡ o → k.atoms (A a) ≡ option_map (renamed_atom A M) o
    atom_is a None e = none (k.atoms (A a)) refl
      where
        none : (o : Option HeapAtom) → k.atoms (A a) ≡ o → k.atoms (A a) ≡ None
        none None f = f
        none (Some y) f =
            let there = subst (λ z. In z (atoms_of h sh.forest)) (na.there a) (atom_back (A a) (subst (λ (o : Option HeapAtom). IsSome o) (sym f) refl)) in
            let m = match a there in
            let no : ◌≡◌ {A = Option HeapAtom} None (Some m.left) = sym e ∙ m.is_left in
            absurd (cc no)
    atom_is a (Some y) e =
        let stands : IsAtom h a = subst (λ (o : Option HeapAtom). IsSome o) (sym e) refl in
        let inside = atom_listed a stands in
        let m = match a inside in
        let z = m.right in
        let left : m.left ≡ y = same_Some m.left y (sym m.is_left ∙ e) in
        let functor : z.functor ≡ y.functor = sym m.functor ∙ ap (λ (q : HeapAtom). q.functor) left in
        let many : length z.links ≡ length y.links = sym (ap (λ o. length (partners_of o)) m.is_right) ∙ same_arity a m ∙ ap (λ o. length (partners_of o)) e in
        let links : z.links ≡ map (option_map (renamed_port A)) y.links =
        same_list None z.links (map (option_map (renamed_port A)) y.links) (many ∙ sym (length-map y.links (option_map (renamed_port A))))
        (λ i l. sym (ap (λ o. slice_index_or (partners_of o) i None) m.is_right) ∙ link_is a i inside (subst (λ n. i < n) (many ∙ sym (ap (λ o. length (partners_of o)) e)) l)
        ∙ ap (λ o. option_map (renamed_port A) (slice_index_or (partners_of o) i None)) e ∙ sym (get_or-map (option_map (renamed_port A)) y.links i None)) in
        let one = vh.sound.shaped in
        let other = vk.sound.shaped in
        let marks_long : length z.marks ≡ length y.marks =
        sym (ap (λ o. length (marks_of o)) m.is_right) ∙ other.marks (A a) (subst (λ (o : Option HeapAtom). IsSome o) (sym m.is_right) refl) ∙ ap (λ n. n + 1) (same_arity a m)
        ∙ sym (one.marks a stands) ∙ ap (λ o. length (marks_of o)) e in
        let marks : z.marks ≡ y.marks = same_list 0 z.marks y.marks marks_long (λ i l. sym (ap (λ o. slice_index_or (marks_of o) i 0) m.is_right) ∙ uk (A a) i ∙ sym (uh a i) ∙ ap (λ o. slice_index_or (marks_of o) i 0) e) in
        let w = standing h vh sh.forest sh.tree a stands in
        let is = each.1 w.0 w.1 in
        let home : y.place ≡ within w.0 = same_Some y.place (within w.0) (sym (ap (option_map (λ (q : HeapAtom). q.place)) e) ∙ (lh.atoms w.0 a).0 w.2) in
        let there = (lk.atoms (M w.0) (A a)).0 (subst (In (A a)) (sym is.atoms) (in_there na a (atoms_in h w.0) w.2)) in
        let place : z.place ≡ renamed_place M y.place = same_Some z.place (within (M w.0)) (sym (ap (option_map (λ (q : HeapAtom). q.place)) m.is_right) ∙ there) ∙ ap (renamed_place M) (sym home) in
        m.is_right ∙ (λ i. Some (record { functor = functor i; links = links i; marks = marks i; place = place i }))

    alike : SameButRoom (renamed r h) k
    alike = record {
      root = head_is each.0;
      atoms = λ a. ap k.atoms (sym (na.again a)) ∙ atom_is (na.back a) (h.atoms (na.back a)) refl;
      mems = λ m. (let w = mem_is (nm.back m) (h.mems (nm.back m)) refl in (w.0, w.1, ap k.mems (sym (nm.again m)) ∙ w.2));
      new_atoms = none_new k vk ∙ sym (ap (map A) (none_new h vh));
      new_mems = none_new_mems k vk ∙ sym (ap (map M) (none_new_mems h vh));
    }

-- two heaps that have one solid are one with other numbers
pub one_solid_is_renamed : OneSolidIsRenamed
one_solid_is_renamed h k x vh vk uh uk sh sk =
    let wa = by_atoms h k x vh vk uh uk sh sk in
    let wm = by_mems h k x vh vk uh uk sh sk in
    (record { atoms = wa.0; mems = wm.0 }, alike h k x vh vk uh uk sh sk wa.0 wm.0 wa.1 wm.1)
