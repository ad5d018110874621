-- A placement that is chosen and is one of the rule embeds.
use Rattle.std.proofs.Common.{◌≡◌, ◌≢◌, ◌∙◌, ◌⊎◌, ◌==◌, ℕ, zero, suc, ◌+◌, ◌<◌, ◌≤◌, Bool, true, false, if◌then◌else◌, List, [], ◌∷◌, ◌++◌, length, map, slice_get, slice_index_or, Some, None, refl, sym, ap, subst, inl, inr, arith}
use Rattle.std.specs.Option.{option_map}
use Rattle.lmn_base.specs.declared.guard.Cond.{Cond}
use Rattle.lmn_base.specs.Lists.{In}
use Rattle.lmn_base.specs.Graphs.{Port, Reached}
use Rattle.lmn_base.proofs.Lists.{get_below, get_there, map_append}
use Rattle.lmn_store_heap.specs.Heap.{Heap, mems_in}
use Rattle.lmn_store_heap.specs.Sound.{Valid}
use Rattle.lmn_store_heap.specs.Graphs.{atom_map}
use Rattle.lmn_solid_heads.specs.declared.items.HeadItem.{HeadItem}
use Rattle.lmn_solid_heads.specs.Heads.{HeadAtom, HeadTyped, HeadMembrane, atoms_of, at_atoms, at_ports, inside_of, links_of_head, membranes_of, outermost, outermost_by, times, typed_contexts_of}
use Rattle.lmn_solid_heads.specs.Embeddings.{Embeds, Images, HasAtom, HasLink, HasMembrane, HasTyped, IsAtomImage, IsInPart, IsInRest, IsMembraneImage, Lies, StandsWithin, meaning, partner, port_image}
use Rattle.lmn_solid_heads.specs.Guards.{HoldsOnHeap, Meaning, typed_number}
use Rattle.lmn_solid_heads.proofs.Common.{port_links}
use Rattle.lmn_solid_tables.specs.Flats.{port_by}
use Rattle.lmn_compile_head.specs.Heads.{IsHead}
use Rattle.lmn_solid_search.specs.Choosing.{Chooses, at_home}
use Rattle.lmn_solid_search.specs.Holding.{Holds, IsRestBy}
use Rattle.lmn_solid_search.specs.Meeting.{Meets, named_meaning}
use Rattle.lmn_solid_search.specs.Parting.{AreTaken, IsMine, IsPart, first_named}
use Rattle.lmn_solid_search.specs.Placing.{inside_in, links_in, membrane_at, outermost_from, outermost_in, times_in}
use Rattle.lmn_solid_search.specs.Taking.{IsTakenApart, StandsAt, kept_atom, kept_membrane, kept_typed}
use Rattle.lmn_solid_search.specs.declared.head.Head.{Head}
use Rattle.lmn_solid_search.specs.declared.head.MembraneItem.{MembraneItem}
use Rattle.lmn_solid_search.specs.declared.head.TypedItem.{TypedItem}
use Rattle.lmn_solid_search.specs.declared.parts.Part.{Part}
use Rattle.lmn_solid_search.specs.declared.placed.Placed.{Placed}
use Rattle.lmn_solid_search.proofs.EmbeddingLemmas.{AtomChosen, MembraneChosen, atom_chosen, atoms_long, images_by, keeps_on, mapped, membrane_chosen, membranes_long, unmapped}
use Rattle.lmn_solid_search.proofs.FulfillingLemmas.{entries, entry_is, taken_parts}
use Rattle.lmn_base.proofs.Numbers.{three_ways as order_of}
use Rattle.lmn_adequacy_heaps.proofs.OutOf.{in_index as in_at, index_in as item_in}

-- ---- lists

-- ---- words of a head and of its items kept by their sorts

links_same : (n : ℕ) (as' : List HeadAtom) → map (λ o. o.link) (at_atoms n as') ≡ links_in (map kept_atom as')
links_same n [] = refl
links_same n (a ∷ as') = map_append (λ o. o.link) (at_ports n 0 a.links) (at_atoms (n + 1) as') ∙ (λ i. port_links n 0 a.links i ++ links_same (n + 1) as' i)

typed_same : (ts : List HeadTyped) → map (λ t. t.link) ts ≡ map (λ t. t.link) (map kept_typed ts)
typed_same [] = refl
typed_same (t ∷ ts) = λ i. t.link ∷ typed_same ts i

pub times_same : (x : ℕ) (items : List HeadItem) (head : Head) → IsTakenApart items head → times x (links_of_head items) ≡ times_in x head
times_same x items head kept = λ i. times x (atoms i ++ typed i)
  where
    atoms : map (λ o. o.link) (at_atoms 0 (atoms_of items)) ≡ links_in head.atoms
    atoms = links_same 0 (atoms_of items) ∙ ap links_in (sym kept.atoms)

    typed : map (λ t. t.link) (typed_contexts_of items) ≡ map (λ (t : TypedItem). t.link) head.typed
    typed = typed_same (typed_contexts_of items) ∙ ap (λ (ts : List TypedItem). map (λ t. t.link) ts) (sym kept.typed)

insides_same : (ms : List HeadMembrane) → map (λ m. m.inside) (map kept_membrane ms) ≡ map (λ m. m.inside) ms
insides_same [] = refl
insides_same (m ∷ ms) = λ i. m.inside ∷ insides_same ms i

inside_same : (ms : List HeadMembrane) (k : ℕ) → inside_in (map kept_membrane ms) k ≡ inside_of ms k
inside_same ms zero = refl
inside_same ms (suc k) = ap (λ xs. slice_index_or xs k 0) (insides_same ms)

outer_same : (fuel : ℕ) (ms : List HeadMembrane) (k : ℕ) → outermost_from fuel (map kept_membrane ms) k ≡ outermost_by fuel ms k
outer_same zero ms k = refl
outer_same (suc fuel) ms k =
    ap (λ j. if j == 0 then k else outermost_from fuel (map kept_membrane ms) j) (inside_same ms k)
    ∙ (λ i. if inside_of ms k == 0 then k else outer_same fuel ms (inside_of ms k) i)

kept_long : (ms : List HeadMembrane) → length (map kept_membrane ms) ≡ length ms
kept_long [] = refl
kept_long (m ∷ ms) = ap suc (kept_long ms)

pub outermost_same : (items : List HeadItem) (head : Head) (k : ℕ) → IsTakenApart items head → outermost_in head.membranes k ≡ outermost (membranes_of items) k
outermost_same items head k kept =
    ap (λ (ms : List MembraneItem). outermost_in ms k) kept.membranes
    ∙ ap (λ n. outermost_from n (map kept_membrane (membranes_of items)) k) (kept_long (membranes_of items))
    ∙ outer_same (length (membranes_of items)) (membranes_of items) k

-- the first part of a name
pub named_same : (entry : ℕ → Port) (ts : List HeadTyped) (parts : List Part) (g x : ℕ) → length parts ≡ length ts → ((n : ℕ) (q : Part) → slice_get parts n ≡ Some q → entry (g + n) ≡ port_by q.entry)
    → first_named (map kept_typed ts) parts x ≡ option_map entry (typed_number ts g x)
named_same entry [] parts g x l e = refl
named_same entry (t ∷ ts) [] g x l e = absurd (omega (arith, l))
named_same entry (t ∷ ts) (q ∷ parts) g x l e =
    by (t.name == x) ((let z : g ≡ g + 0 = omega arith in ap entry z) ∙ e 0 q refl)
    (named_same entry ts parts (g + 1) x (omega (arith, l)) (λ n r s. (let z : (g + 1) + n ≡ g + suc n = omega arith in ap entry z) ∙ e (suc n) r s))
  where
    by : (v : Bool) → entry g ≡ port_by q.entry → first_named (map kept_typed ts) parts x ≡ option_map entry (typed_number ts (g + 1) x)
        → (if v then Some (port_by q.entry) else first_named (map kept_typed ts) parts x) ≡ option_map entry (if v then Some g else typed_number ts (g + 1) x)
    by true first rest = ap Some (sym first)
    by false first rest = rest

module _ (h : Heap) (v : Valid h) (items : List HeadItem) (head : Head) (kept : IsTakenApart items head) (is : IsHead items) (guard : List Cond) (m : ℕ) (q : Placed) (c : Chooses h head items (at_home m) q)
    (parts : List Part) (taken : AreTaken h head.atoms q head.typed parts (length head.typed)) (meets : Meets h head guard q parts) where
  abbrev f : Images
  f = images_by q (entries parts)

  long : length q.atoms ≡ length (atoms_of items)
  long = let l = atoms_long h head items (at_home m) q c in omega (arith, l)

  membranes_all : length q.membranes ≡ length (membranes_of items)
  membranes_all = let l = membranes_long h head items (at_home m) q c in omega (arith, l)

  atom : (n : ℕ) (a : HeadAtom) → HasAtom items n a → AtomChosen h head q n a
  atom n a at = atom_chosen h head items (at_home m) q is.inside c n n a at (omega arith)

  membrane : (n : ℕ) (b : HeadMembrane) → slice_get (membranes_of items) n ≡ Some b → MembraneChosen h q n b
  membrane n b at = membrane_chosen h head items (at_home m) q is.inside c n n b at (omega arith)

  stands : (x : ℕ) (p : Port) → HasLink items x p → StandsAt head.atoms x p
  stands x p (a, at, link) = (kept_atom a, mapped kept_atom (atoms_of items) head.atoms p.0 a kept.atoms at, link)

  -- images
  image_in : (b : ℕ) → In b q.atoms → IsAtomImage items f b
  image_in b i = let r = in_at q.atoms b i in let l = r.1 in let k = long in (r.0, omega (arith, l, k), r.2)

  in_image : (b : ℕ) → IsAtomImage items f b → In b q.atoms
  in_image b (n, l, e) = let k = long in subst (λ z. In z q.atoms) e (item_in q.atoms n (omega (arith, l, k)))

  membrane_in : (b : ℕ) → In b q.membranes → IsMembraneImage items f b
  membrane_in b i = let r = in_at q.membranes b i in let l = r.1 in let k = membranes_all in (r.0, omega (arith, l, k), r.2)

  in_membrane : (b : ℕ) → IsMembraneImage items f b → In b q.membranes
  in_membrane b (n, l, e) = let k = membranes_all in subst (λ z. In z q.membranes) e (item_in q.membranes n (omega (arith, l, k)))

  -- what is mine
  mine_is : (k b : ℕ) → IsMine q.atoms head.typed parts k (length head.typed) b → IsAtomImage items f b ⊎ IsInPart h items f k b
  mine_is k b (inl i) = inl (image_in b i)
  mine_is k b (inr (n, t, part, e, g, l, s, j)) =
      let u = unmapped kept_typed (typed_contexts_of items) head.typed n t kept.typed e in
      inr (n, u.0, u.1, ap (λ (z : TypedItem). z.inside) u.2 ∙ s, subst (λ z. Reached (atom_map h) z b) (sym (entry_is parts n part g)) (((taken.each n t part e g).1 b).0 j))

  is_mine : (k b : ℕ) → IsAtomImage items f b ⊎ IsInPart h items f k b → IsMine q.atoms head.typed parts k (length head.typed) b
  is_mine k b (inl i) = inl (in_image b i)
  is_mine k b (inr (n, t, at, s, r)) =
      let e = mapped kept_typed (typed_contexts_of items) head.typed n t kept.typed at in
      let l = get_below head.typed n (kept_typed t) e in
      let w = taken.long in
      let part = get_there parts n (omega (arith, l, w)) in
      inr (n, kept_typed t, part.0, e, part.1, l, s, ((taken.each n (kept_typed t) part.0 e part.1).1 b).1 (subst (λ z. Reached (atom_map h) z b) (entry_is parts n part.0 part.1) r))

  from_rest : (k b : ℕ) → IsInRest h items f k b → IsRestBy h (f.membrane k) q.membranes (IsMine q.atoms head.typed parts k (length head.typed)) b
  from_rest k b (inl (i, d, g)) = inl (i, λ mine. elim (mine_is k b mine) [ inl x ↦ d x | inr y ↦ g y ])
  from_rest k b (inr (x, i, d, s)) = inr (x, i, (λ j. d (membrane_in x j)), s)

  to_rest : (k b : ℕ) → IsRestBy h (f.membrane k) q.membranes (IsMine q.atoms head.typed parts k (length head.typed)) b → IsInRest h items f k b
  to_rest k b (inl (i, d)) = inl (i, (λ x. d (is_mine k b (inl x))), λ y. d (is_mine k b (inr y)))
  to_rest k b (inr (x, i, d, s)) = inr (x, i, (λ j. d (in_membrane x j)), s)

  holds_at : (k : ℕ) (n : HeadMembrane) → HasMembrane items k n → Holds h (kept_membrane n) q.membranes (IsMine q.atoms head.typed parts k (length head.typed)) (f.membrane k)
  holds_at k n (i, e, at) =
      let one : i + 1 ≡ suc i = omega arith in
      subst (λ z. Holds h (kept_membrane n) q.membranes (IsMine q.atoms head.typed parts z (length head.typed)) (membrane_at q.home q.membranes z)) (sym e)
      (subst (λ z. Holds h (kept_membrane n) q.membranes (IsMine q.atoms head.typed parts z (length head.typed)) (slice_index_or q.membranes i 0)) one
      (meets.1 i (kept_membrane n) (mapped kept_membrane (membranes_of items) head.membranes i n kept.membranes at)))

  part_of : (n : ℕ) (t : HeadTyped) → HasTyped items n t → IsPart h head.atoms q (kept_typed t) (entries parts n)
  part_of n t at = taken_parts h head q parts taken n (kept_typed t) (mapped kept_typed (typed_contexts_of items) head.typed n t kept.typed at)

  -- a link that joins two ports, of which the second has an earlier atom
  down : (x : ℕ) (p r : Port) → HasLink items x p → HasLink items x r → r.0 ≤ p.0 → r ≢ p → partner h (port_image f p) ≡ Some (port_image f r)
  down x p r s t l apart = (atom p.0 s.0 s.1).fits p.1 x r (stands x p s) (stands x r t) l apart

  both : (x : ℕ) (p r : Port) → HasLink items x p → HasLink items x r → p ≢ r → (p.0 < r.0) ⊎ ((p.0 ≡ r.0) ⊎ (r.0 < p.0)) → partner h (port_image f p) ≡ Some (port_image f r)
  both x p r s t apart (inl l) = v.sound.paired.back (f.atom r.0) r.1 (f.atom p.0) p.1 (down x r p t s (omega (arith, l)) apart)
  both x p r s t apart (inr (inl e)) = down x p r s t (omega (arith, e)) (λ z. apart (sym z))
  both x p r s t apart (inr (inr l)) = down x p r s t (omega (arith, l)) (λ z. apart (sym z))

  differ : (n k : ℕ) → n < length (atoms_of items) → k < length (atoms_of items) → f.atom n ≡ f.atom k → (n < k) ⊎ ((n ≡ k) ⊎ (k < n)) → n ≡ k
  differ n k ln lk e (inl l) = let a = get_there (atoms_of items) k lk in absurd ((atom k a.0 a.1).new n l e)
  differ n k ln lk e (inr (inl same)) = same
  differ n k ln lk e (inr (inr l)) = let a = get_there (atoms_of items) n ln in absurd ((atom n a.0 a.1).new k l (sym e))

  differ_too : (n k : ℕ) → n < length (membranes_of items) → k < length (membranes_of items) → f.membrane (suc n) ≡ f.membrane (suc k) → (n < k) ⊎ ((n ≡ k) ⊎ (k < n)) → n ≡ k
  differ_too n k ln lk e (inl l) = let b = get_there (membranes_of items) k lk in absurd ((membrane k b.0 b.1).new n l e)
  differ_too n k ln lk e (inr (inl same)) = same
  differ_too n k ln lk e (inr (inr l)) = let b = get_there (membranes_of items) n ln in absurd ((membrane n b.0 b.1).new k l (sym e))

  pub lies : Lies h items m (images_by q (entries parts))
  lies = record {
    here = (keeps_on h head items (at_home m) q c).home;
    atoms_differ = λ n k ln lk e. differ n k ln lk e (order_of n k);
    membranes_differ = λ n k ln lk e. differ_too n k ln lk e (order_of n k);
    functors = λ n a at. (atom n a at).functor;
    atoms_placed = λ n a at. (atom n a at).placed;
    membranes_placed = λ k n at. subst (λ z. In (membrane_at q.home q.membranes z) (mems_in h (f.membrane n.inside))) (sym at.1) (membrane at.0 n at.2).placed;
    joined = λ x p r s t apart. both x p r s t apart (order_of p.0 r.0);
    no_other_atom = λ k n b at bare i. mine_is k b ((holds_at k n at).atoms bare b i);
    no_other_membrane = λ k n b at bare i. membrane_in b ((holds_at k n at).inner bare b i);
    no_rule = λ k n at bare. (holds_at k n at).rules bare;
    closed = λ k n b i p at shut rest link. to_rest k p.0 ((holds_at k n at).closed shut b i p (from_rest k b rest) link);
    parts = λ n t at. (let w = part_of n t at in record {
      held = λ p s. w.0.0 p.0 (kept_atom s.0) (mapped kept_atom (atoms_of items) head.atoms p.0 s.0 kept.atoms s.1) p.1 t.link s.2 refl;
      of_kind = w.0.1;
      whole = w.1.0;
      apart = λ b r i. w.1.1 b r (in_image b i);
    });
  }

  kept_typed_long : (ts : List HeadTyped) → length (map kept_typed ts) ≡ length ts
  kept_typed_long [] = refl
  kept_typed_long (t ∷ ts) = ap suc (kept_typed_long ts)

  first_is : (x : ℕ) → first_named head.typed parts x ≡ option_map f.part (typed_number (typed_contexts_of items) 0 x)
  first_is x = ap (λ (ts : List TypedItem). first_named ts parts x) kept.typed
      ∙ named_same (entries parts) (typed_contexts_of items) parts 0 x (taken.long ∙ ap (λ (ts : List TypedItem). length ts) kept.typed ∙ kept_typed_long (typed_contexts_of items))
      (λ n r e. (let z : 0 + n ≡ n = omega arith in ap (entries parts) z) ∙ entry_is parts n r e)

  -- names stand for the same
  pub meaning_same : named_meaning head.typed parts ≡ meaning items (images_by q (entries parts))
  meaning_same = λ i. record { part_of = λ x. first_is x i; bound_to = λ x. None }

  pub embeds : Embeds h items guard m (images_by q (entries parts))
  embeds = record {
    lies = lies;
    outside = λ n i x a p at link once inner step below. meets.0 n (kept_atom a) (mapped kept_atom (atoms_of items) head.atoms n a kept.atoms at) inner i x link (sym (times_same x items head kept) ∙ once) p step
        (subst (λ k. StandsWithin h p.0 (f.membrane k)) (sym (outermost_same items head a.inside kept)) below);
    holds = subst (λ (s : Meaning). HoldsOnHeap h s guard) meaning_same meets.2;
  }
