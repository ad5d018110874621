-- What is chosen for the items of a head lies in the heap as the head says.
use Rattle.std.proofs.Common.{◌≡◌, ◌≢◌, ◌∙◌, ℕ, zero, suc, ◌+◌, ◌<◌, ◌≤◌, List, [], ◌∷◌, ◌++◌, length, map, slice_get, slice_index_or, Option, Some, None, refl, sym, ap, subst, arith}
use Rattle.std.specs.Option.{option_map}
use Rattle.std.proofs.lemmas.List.{length_push}
use Rattle.std.proofs.lemmas.Option.{same_Some, slice_get-map}
use Rattle.lmn_base.specs.Lists.{In}
use Rattle.lmn_base.specs.Graphs.{Port}
use Rattle.lmn_base.proofs.Lists.{get_front, get_last, get_index, read_or}
use Rattle.lmn_store_heap.specs.Heap.{Heap, functor_of, link_of, atoms_in, mems_in}
use Rattle.lmn_solid_heads.specs.declared.items.HeadItem.{HeadItem}
use Rattle.lmn_solid_heads.specs.declared.items.HeadItem.TheVariants.{Atom, Typed, Membrane}
use Rattle.lmn_solid_heads.specs.Heads.{HeadAtom, HeadMembrane, atoms_of, membranes_of}
use Rattle.lmn_solid_heads.specs.Embeddings.{Images, index_of, positions}
use Rattle.lmn_compile_head.specs.Heads.{EachInside}
use Rattle.lmn_solid_search.specs.Choosing.{Chooses, places, with_atom, with_membrane}
use Rattle.lmn_solid_search.specs.Placing.{membrane_at}
use Rattle.lmn_solid_search.specs.Taking.{LinksFit, StandsAt}
use Rattle.lmn_solid_search.specs.declared.head.Head.{Head}
use Rattle.lmn_solid_search.specs.declared.placed.Placed.{Placed}
use Rattle.lmn_adequacy_heaps.proofs.OutOf.{index_in as item_in}

-- where the items lie, by a placement and the entries of its parts
abbrev pub images_by : Placed → (ℕ → Port) → Images
images_by q part = record { atom = λ n. slice_index_or q.atoms n 0; membrane = membrane_at q.home q.membranes; part = part }

-- ---- lists

-- what is read from a mapped list
pub mapped : {A B : Type 0} (f : A → B) (xs : List A) (ys : List B) (n : ℕ) (x : A) → ys ≡ map f xs → slice_get xs n ≡ Some x → slice_get ys n ≡ Some (f x)
mapped f xs ys n x e g = ap (λ zs. slice_get zs n) e ∙ slice_get-map f xs n ∙ ap (option_map f) g

pub unmapped : {A B : Type 0} (f : A → B) (xs : List A) (ys : List B) (n : ℕ) (y : B) → ys ≡ map f xs → slice_get ys n ≡ Some y → (x : A) × (slice_get xs n ≡ Some x) × (f x ≡ y)
unmapped {A} {B} f xs ys n y e g = by (slice_get xs n) refl (sym (slice_get-map f xs n) ∙ ap (λ zs. slice_get zs n) (sym e) ∙ g)
  where
    by : (o : Option A) → slice_get xs n ≡ o → option_map f o ≡ Some y → (x : A) × (slice_get xs n ≡ Some x) × (f x ≡ y)
    by None at h = absurd (cc)
    by (Some x) at h = (x, at, same_Some _ _ h)

-- ---- a placement that goes on from another one

pub record Keeps (p q : Placed) : Type 0 where
  pub home : q.home ≡ p.home
  pub atoms : (n a : ℕ) → slice_get p.atoms n ≡ Some a → slice_get q.atoms n ≡ Some a
  pub membranes : (n a : ℕ) → slice_get p.membranes n ≡ Some a → slice_get q.membranes n ≡ Some a

pub keeps_on : (h : Heap) (head : Head) (xs : List HeadItem) (p q : Placed) → Chooses h head xs p q → Keeps p q
keeps_on h head [] p q c = record {
  home = ap (λ (z : Placed). z.home) c;
  atoms = λ n a e. subst (λ (z : Placed). slice_get z.atoms n ≡ Some a) (sym c) e;
  membranes = λ n a e. subst (λ (z : Placed). slice_get z.membranes n ≡ Some a) (sym c) e;
}
keeps_on h head (Atom functor links inside ∷ xs) p q c =
    let r = keeps_on h head xs (with_atom p c.0) q c.3 in record { home = r.home; atoms = λ n a e. r.atoms n a (get_front p.atoms (c.0 ∷ []) n a e); membranes = r.membranes }
keeps_on h head (Typed name kind link inside ∷ xs) p q c = keeps_on h head xs p q c
keeps_on h head (Membrane inside has_context has_closed_context has_rule_context ∷ xs) p q c =
    let r = keeps_on h head xs (with_membrane p c.0) q c.3 in record { home = r.home; atoms = r.atoms; membranes = λ n a e. r.membranes n a (get_front p.membranes (c.0 ∷ []) n a e) }

pub same_atom : (p q : Placed) → Keeps p q → (n : ℕ) → n < length p.atoms → slice_index_or q.atoms n 0 ≡ slice_index_or p.atoms n 0
same_atom p q k n l = read_or q.atoms n _ (k.atoms n (slice_index_or p.atoms n 0) (get_index p.atoms n l))

pub same_membrane : (p q : Placed) → Keeps p q → (n : ℕ) → n < length p.membranes → slice_index_or q.membranes n 0 ≡ slice_index_or p.membranes n 0
same_membrane p q k n l = read_or q.membranes n _ (k.membranes n (slice_index_or p.membranes n 0) (get_index p.membranes n l))

pub same_image : (p q : Placed) → Keeps p q → (k : ℕ) → k ≤ length p.membranes → membrane_at q.home q.membranes k ≡ membrane_at p.home p.membranes k
same_image p q keep zero l = keep.home
same_image p q keep (suc k) l = same_membrane p q keep k (omega (arith, l))

-- all items have images then
pub atoms_long : (h : Heap) (head : Head) (xs : List HeadItem) (p q : Placed) → Chooses h head xs p q → length q.atoms ≡ length p.atoms + length (atoms_of xs)
atoms_long h head [] p q c = let e = ap (λ (z : Placed). length z.atoms) c in omega (arith, e)
atoms_long h head (Atom functor links inside ∷ xs) p q c = let r = atoms_long h head xs (with_atom p c.0) q c.3 in let l = length_push p.atoms c.0 in omega (arith, r, l)
atoms_long h head (Typed name kind link inside ∷ xs) p q c = atoms_long h head xs p q c
atoms_long h head (Membrane inside has_context has_closed_context has_rule_context ∷ xs) p q c = atoms_long h head xs (with_membrane p c.0) q c.3

pub membranes_long : (h : Heap) (head : Head) (xs : List HeadItem) (p q : Placed) → Chooses h head xs p q → length q.membranes ≡ length p.membranes + length (membranes_of xs)
membranes_long h head [] p q c = let e = ap (λ (z : Placed). length z.membranes) c in omega (arith, e)
membranes_long h head (Atom functor links inside ∷ xs) p q c = membranes_long h head xs (with_atom p c.0) q c.3
membranes_long h head (Typed name kind link inside ∷ xs) p q c = membranes_long h head xs p q c
membranes_long h head (Membrane inside has_context has_closed_context has_rule_context ∷ xs) p q c =
    let r = membranes_long h head xs (with_membrane p c.0) q c.3 in let l = length_push p.membranes c.0 in omega (arith, r, l)

-- ---- what is chosen for one atom, and for one membrane

pub record AtomChosen (h : Heap) (head : Head) (q : Placed) (n : ℕ) (a : HeadAtom) : Type 0 where
  pub functor : functor_of h (slice_index_or q.atoms n 0) ≡ Some a.functor
  pub placed : In (slice_index_or q.atoms n 0) (atoms_in h (membrane_at q.home q.membranes a.inside))
  pub new : (k : ℕ) → k < n → slice_index_or q.atoms k 0 ≡ slice_index_or q.atoms n 0 → ⊥
  pub fits : (i x : ℕ) (p : Port) → StandsAt head.atoms x (n, i) → StandsAt head.atoms x p → p.0 ≤ n → p ≢ (n, i) → link_of h (slice_index_or q.atoms n 0) i ≡ Some (slice_index_or q.atoms p.0 0, p.1)

pub record MembraneChosen (h : Heap) (q : Placed) (k : ℕ) (b : HeadMembrane) : Type 0 where
  pub placed : In (slice_index_or q.membranes k 0) (mems_in h (membrane_at q.home q.membranes b.inside))
  pub new : (j : ℕ) → j < k → slice_index_or q.membranes j 0 ≡ slice_index_or q.membranes k 0 → ⊥

module _ (h : Heap) (head : Head) where
  -- the first of the items is an atom
  first_atom : (p q : Placed) (b : ℕ) (a : HeadAtom) → Keeps (with_atom p b) q → a.inside ≤ length p.membranes → In b (atoms_in h (membrane_at p.home p.membranes a.inside)) → functor_of h b ≡ Some a.functor
      → (In b p.atoms → ⊥) → LinksFit h head.atoms (p.atoms ++ b ∷ []) (length p.atoms) → AtomChosen h head q (length p.atoms) a
  first_atom p q b a keep low there functor new fit = record {
    functor = subst (λ z. functor_of h z ≡ Some a.functor) (sym image) functor;
    placed = subst (λ z. In z (atoms_in h (membrane_at q.home q.membranes a.inside))) (sym image) (subst (λ z. In b (atoms_in h z)) (sym (same_image (with_atom p b) q keep a.inside low)) there);
    new = λ k l e. new (subst (λ z. In z p.atoms) (sym (before k l) ∙ e ∙ image) (item_in p.atoms k l));
    fits = λ i x o at other l apart.
        (let below : o.0 < length (p.atoms ++ b ∷ []) = (let s = length_push p.atoms b in omega (arith, l, s)) in
        subst (λ z. link_of h z i ≡ Some (slice_index_or q.atoms o.0 0, o.1)) (sym (same_atom (with_atom p b) q keep (length p.atoms) (let s = length_push p.atoms b in omega (arith, s))))
        (subst (λ z. link_of h (slice_index_or (p.atoms ++ b ∷ []) (length p.atoms) 0) i ≡ Some (z, o.1)) (sym (same_atom (with_atom p b) q keep o.0 below)) (fit i x at o below other apart)));
  }
    where
      image : slice_index_or q.atoms (length p.atoms) 0 ≡ b
      image = read_or q.atoms (length p.atoms) b (keep.atoms (length p.atoms) b (get_last p.atoms b))

      before : (k : ℕ) → k < length p.atoms → slice_index_or q.atoms k 0 ≡ slice_index_or p.atoms k 0
      before k l = read_or q.atoms k _ (keep.atoms k (slice_index_or p.atoms k 0) (get_front p.atoms (b ∷ []) k _ (get_index p.atoms k l)))

  first_membrane : (p q : Placed) (m : ℕ) (b : HeadMembrane) → Keeps (with_membrane p m) q → b.inside ≤ length p.membranes → In m (mems_in h (membrane_at p.home p.membranes b.inside)) → (In m p.membranes → ⊥) → MembraneChosen h q (length p.membranes) b
  first_membrane p q m b keep low there new = record {
    placed = subst (λ z. In z (mems_in h (membrane_at q.home q.membranes b.inside))) (sym image) (subst (λ z. In m (mems_in h z)) (sym (around b.inside low)) there);
    new = λ k l e. new (subst (λ z. In z p.membranes) (sym (before k l) ∙ e ∙ image) (item_in p.membranes k l));
  }
    where
      image : slice_index_or q.membranes (length p.membranes) 0 ≡ m
      image = read_or q.membranes (length p.membranes) m (keep.membranes (length p.membranes) m (get_last p.membranes m))

      before : (k : ℕ) → k < length p.membranes → slice_index_or q.membranes k 0 ≡ slice_index_or p.membranes k 0
      before k l = read_or q.membranes k _ (keep.membranes k (slice_index_or p.membranes k 0) (get_front p.membranes (m ∷ []) k _ (get_index p.membranes k l)))

      around : (k : ℕ) → k ≤ length p.membranes → membrane_at q.home q.membranes k ≡ membrane_at p.home p.membranes k
      around zero l = keep.home
      around (suc k) l = before k (omega (arith, l))

  pub atom_chosen : (xs : List HeadItem) (p q : Placed) → EachInside (length p.membranes) xs → Chooses h head xs p q → (j n : ℕ) (a : HeadAtom) → slice_get (atoms_of xs) j ≡ Some a → n ≡ length p.atoms + j → AtomChosen h head q n a
  atom_chosen [] p q in' c j n a e is = absurd (cc)
  atom_chosen (Atom functor links inside ∷ xs) p q in' c zero n a e is =
      let here : n ≡ length p.atoms = omega (arith, is) in
      subst (λ k. AtomChosen h head q k a) (sym here) (subst (AtomChosen h head q (length p.atoms)) (same_Some _ _ e)
      (first_atom p q c.0 (record { functor = functor; links = links; inside = inside }) (keeps_on h head xs (with_atom p c.0) q c.3) in'.0 c.1 c.2.0 c.2.1 c.2.2))
  atom_chosen (Atom functor links inside ∷ xs) p q in' c (suc j) n a e is =
      atom_chosen xs (with_atom p c.0) q in'.1 c.3 j n a e (let l = length_push p.atoms c.0 in omega (arith, l, is))
  atom_chosen (Typed name kind link inside ∷ xs) p q in' c j n a e is = atom_chosen xs p q in'.1 c j n a e is
  atom_chosen (Membrane inside has_context has_closed_context has_rule_context ∷ xs) p q in' c j n a e is =
      atom_chosen xs (with_membrane p c.0) q (subst (λ k. EachInside k xs) (sym (length_push p.membranes c.0)) in'.1) c.3 j n a e is

  pub membrane_chosen : (xs : List HeadItem) (p q : Placed) → EachInside (length p.membranes) xs → Chooses h head xs p q → (j n : ℕ) (b : HeadMembrane) → slice_get (membranes_of xs) j ≡ Some b → n ≡ length p.membranes + j → MembraneChosen h q n b
  membrane_chosen [] p q in' c j n b e is = absurd (cc)
  membrane_chosen (Atom functor links inside ∷ xs) p q in' c j n b e is = membrane_chosen xs (with_atom p c.0) q in'.1 c.3 j n b e is
  membrane_chosen (Typed name kind link inside ∷ xs) p q in' c j n b e is = membrane_chosen xs p q in'.1 c j n b e is
  membrane_chosen (Membrane inside has_context has_closed_context has_rule_context ∷ xs) p q in' c zero n b e is =
      let here : n ≡ length p.membranes = omega (arith, is) in
      subst (λ k. MembraneChosen h q k b) (sym here) (subst (MembraneChosen h q (length p.membranes)) (same_Some _ _ e)
      (first_membrane p q c.0 (record { inside = inside; has_context = has_context; has_closed_context = has_closed_context; has_rule_context = has_rule_context }) (keeps_on h head xs (with_membrane p c.0) q c.3) in'.0 c.1 c.2))
  membrane_chosen (Membrane inside has_context has_closed_context has_rule_context ∷ xs) p q in' c (suc j) n b e is =
      membrane_chosen xs (with_membrane p c.0) q (subst (λ k. EachInside k xs) (sym (length_push p.membranes c.0)) in'.1) c.3 j n b e (let l = length_push p.membranes c.0 in omega (arith, l, is))

  -- the positions of what is chosen are those of the images
  pub places_are : (part : ℕ → Port) (xs : List HeadItem) (p q : Placed) → EachInside (length p.membranes) xs → (c : Chooses h head xs p q) → (n k : ℕ) → n ≡ length p.atoms → k ≡ suc (length p.membranes) → places h head xs p q c ≡ positions h (images_by q part) n k xs
  places_are part [] p q in' c n k e g = refl
  places_are part (Atom functor links inside ∷ xs) p q in' c n k e g =
      let keep = keeps_on h head xs (with_atom p c.0) q c.3 in
      let image : slice_index_or q.atoms n 0 ≡ c.0 = read_or q.atoms n c.0 (subst (λ z. slice_get q.atoms z ≡ Some c.0) (sym e) (keep.atoms (length p.atoms) c.0 (get_last p.atoms c.0))) in
      let around = same_image (with_atom p c.0) q keep inside in'.0 in
      let rest = places_are part xs (with_atom p c.0) q in'.1 c.3 (n + 1) k (let l = length_push p.atoms c.0 in omega (arith, l, e)) g in
      λ i. index_of (sym image i) (atoms_in h (sym around i)) ∷ rest i
  places_are part (Typed name kind link inside ∷ xs) p q in' c n k e g = places_are part xs p q in'.1 c n k e g
  places_are part (Membrane inside has_context has_closed_context has_rule_context ∷ xs) p q in' c n k e g =
      let keep = keeps_on h head xs (with_membrane p c.0) q c.3 in
      let at : slice_index_or q.membranes (length p.membranes) 0 ≡ c.0 = read_or q.membranes (length p.membranes) c.0 (keep.membranes (length p.membranes) c.0 (get_last p.membranes c.0)) in
      let image : membrane_at q.home q.membranes k ≡ c.0 = ap (membrane_at q.home q.membranes) g ∙ at in
      let around = same_image (with_membrane p c.0) q keep inside (let l = length_push p.membranes c.0 in let m = in'.0 in omega (arith, l, m)) in
      let before : membrane_at p.home (p.membranes ++ c.0 ∷ []) inside ≡ membrane_at p.home p.membranes inside = within p.home p.membranes c.0 inside in'.0 in
      let rest = places_are part xs (with_membrane p c.0) q (subst (λ z. EachInside z xs) (sym (length_push p.membranes c.0)) in'.1) c.3 n (k + 1) e (let l = length_push p.membranes c.0 in omega (arith, l, g)) in
      λ i. index_of (sym image i) (mems_in h (sym (around ∙ before) i)) ∷ rest i
    where
      within : (home : ℕ) (ms : List ℕ) (m k : ℕ) → k ≤ length ms → membrane_at home (ms ++ m ∷ []) k ≡ membrane_at home ms k
      within home ms m zero l = refl
      within home ms m (suc k) l = read_or (ms ++ m ∷ []) k _ (get_front ms (m ∷ []) k _ (get_index ms k (omega (arith, l))))
