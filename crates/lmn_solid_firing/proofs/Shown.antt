-- What holds of the examples.
use Rattle.std.proofs.Common.{ℕ, zero, suc, ◌≡◌, ◌+◌, inl, inr, List, [], ◌∷◌, length, refl, sym, ap, subst, ◌∙◌, arith}
use Rattle.std.specs.Prelude.{Some, cond, ◌==◌, pos, slice_get, slice_index_or}
use Rattle.std.proofs.lemmas.Option.{same_Some}
use Rattle.lmn_base.specs.Graphs.{Port, Reached, at_root}
use Rattle.lmn_base.specs.Lists.{In}
use Rattle.lmn_congruence.specs.Rules.{atom_leaf, level, no_level, no_rule}
use Rattle.lmn_guards.specs.Values.{value_beside}
use Rattle.lmn_store_heap.specs.Graphs.{atom_map}
use Rattle.lmn_store_heap.specs.Heap.{arity_of}
use Rattle.lmn_ground_parts.specs.Walks.{ends, port_range}
use Rattle.lmn_ground_parts.proofs.WalkLaws.{determined}
use Rattle.lmn_solid_heads.specs.Embeddings.{HasLink, Images}
use Rattle.lmn_solid_heads.specs.Heads.{HeadAtom, typed_contexts_of}
use Rattle.lmn_solid_heads.proofs.Common.{times_places}
use Rattle.lmn_solid_bodies.specs.Flattening.{membrane_named}
use Rattle.lmn_solid_tables.specs.Examples.{a_in, b_in}
use Rattle.lmn_solid_tables.specs.Flats.{heap_of, link_at}
use Rattle.lmn_solid_tables.specs.Tables.{link_in, links_by}
use Rattle.lmn_solid_tables.specs.declared.flat.Flat.{Flat}
use Rattle.lmn_solid_tables.proofs.Partners.{atom_ports}
use Rattle.lmn_solid_search.specs.Finding.{images, port_at}
use Rattle.lmn_solid_firing.specs.Matched.{IsPartAt, names_of}
use Rattle.lmn_solid_firing.specs.Pieces.{WalkIn}
use Rattle.lmn_solid_firing.specs.Examples.{AcrossIsMatched, AcrossTables, ImagesAloneAreNone, MoreAtomsAreNone, NoneIsTooFew, OneAtomIsAPart, OneWireIsAdded, OtherLinkIsNone, TwoPlacesAddNone, a_part, b_alone, b_with_part}
use Rattle.lmn_solid_firing.proofs.Telling.{named_image, named_integer, named_part, taken_are}
use Rattle.lmn_solid_firing.proofs.Walking.{walk_root}

-- each link has the number 0
all_zero : (a i : ℕ) → link_in (b_in 0 ∷ a_in 1 ∷ []) a i ≡ 0
all_zero zero zero = refl
all_zero zero (suc i) = refl
all_zero (suc zero) zero = refl
all_zero (suc zero) (suc i) = refl
all_zero (suc (suc a)) i = refl

link_zero : (flat : Flat) → AcrossTables flat → (a i : ℕ) → link_at flat a i ≡ 0
link_zero flat t a i = ap (λ xs. link_in xs a i) t.0 ∙ all_zero a i

one_port : (flat : Flat) → AcrossTables flat → arity_of (heap_of flat) 1 ≡ 1
one_port flat t = atom_ports flat.ports.items 1 (slice_get flat.atoms.items 1) ∙ ap (λ xs. length (links_by (slice_get xs 1))) t.0

a_walk : (flat : Flat) → AcrossTables flat → WalkIn (heap_of flat) (1, 0) (1 ∷ []) (port_range 1 0 (arity_of (heap_of flat) 1)) (1 ∷ [])
a_walk flat t = subst (λ n. WalkIn (heap_of flat) (1, 0) (1 ∷ []) (port_range 1 0 n) (1 ∷ [])) (sym (one_port flat t)) (walk_root (heap_of flat) (1, 0) (1, 0) (1 ∷ []) [] (1 ∷ []) refl ends)

pub one_atom : OneAtomIsAPart
one_atom flat t = record { link = sym (link_zero flat t 1 0); in_depth = a_walk flat t }

pub other_link : OtherLinkIsNone
other_link flat t p = let e = p.link in let z = link_zero flat t 1 0 in absurd (omega (arith, e, z))

pub more_atoms : MoreAtomsAreNone
more_atoms flat t p =
    let e = ap length (determined (arity_of (heap_of flat)) _ (a_walk flat t) p.in_depth) in
    let d : 1 ≡ 2 = e in
    absurd (omega (arith, d))

pub across : AcrossIsMatched
across flat t rule has found is =
    let f = images 0 found in
    let root : f.part 0 ≡ (1, 0) = ap (λ ps. port_at ps 0) is.parts in
    let here : IsPartAt flat (f.part 0) a_part = subst (λ p. IsPartAt flat p a_part) (sym root) (one_atom flat t) in
    let es : List (ℕ × ℕ) = (4, 0) ∷ [] in
    record {
      home = refl;
      links = λ a i. (let z = link_zero flat t a i in omega (arith, z));
      atoms = taken_are flat b_with_part f found.atoms (a_part ∷ []) (0 ∷ 1 ∷ []) (λ n. refl) (refl, here, tt) (ap (λ xs. slice_index_or xs 0 0 ∷ 1 ∷ []) (sym is.atoms));
      membranes = λ c. ((λ i. absurd i), λ w. (let l = w.1 in absurd (omega (arith, l))));
      parts = named_part flat f 0 (typed_contexts_of b_with_part) (a_part ∷ []) (refl, here, tt);
      integers = λ x. named_integer (7 ∷ []) (pos 3 ∷ []) x ∙ (λ i. value_beside (sym is.names i) (sym is.values i) x);
      contexts = λ x i. subst (λ ns. In x (names_of ns) → membrane_named es x ≡ f.membrane (membrane_named ns x)) (sym has.0) (named_image f.membrane es es x) i;
      rule_contexts = λ x i. absurd (subst (λ ns. In x (names_of ns)) has.1 i);
    }

pub images_alone : ImagesAloneAreNone
images_alone flat rule found is m =
    let root : (1, 0) ≡ (images 0 found).part 0 = sym (ap (λ ps. port_at ps 0) is.parts) in
    let r = subst (λ (p : Port). Reached (atom_map (heap_of flat)) p 1) root at_root in
    none ((m.atoms 1).1 (inr (0, _, refl, r)))
  where
    none : In 1 (0 ∷ []) → ⊥
    none (inl e) = absurd (omega (arith, e))
    none (inr i) = i

pub one_wire : OneWireIsAdded
one_wire flat t f at link_of l linked occurs =
    let e : link_of 0 ≡ 0 = linked 0 (0, 0) (_, refl, refl) ∙ link_zero flat t (f.atom 0) 0 in
    sym (ap (λ k. cond (k == 1) ((1 + 0, link_of 0) ∷ []) []) (sym (occurs 0)) ∙ ap (λ y. (1, y) ∷ []) e)

pub two_places : TwoPlacesAddNone
two_places flat f link_of l linked occurs = ap (λ k. cond (k == 1) ((1 + 0, link_of 0) ∷ []) []) (occurs 0)

at_first : (flat : Flat) (f : Images) (x n i : ℕ) → HasLink b_alone x (n, i) → link_at flat (f.atom 0) 0 ≡ link_at flat (f.atom n) i
at_first flat f x zero zero h = refl
at_first flat f x zero (suc i) (a, e, d) = let g = subst (λ (b : HeadAtom). slice_get b.links (suc i) ≡ Some x) (sym (same_Some _ a e)) d in absurd (cc)
at_first flat f x (suc n) i (a, e, d) = absurd (cc)

pub none_too_few : NoneIsTooFew
none_too_few flat f a adds =
    let l = level (atom_leaf a (0 ∷ []) ∷ []) no_level [] [] no_rule in
    let e = ap length (adds (λ x. link_at flat (f.atom 0) 0) l (λ x p h. at_first flat f x p.0 p.1 h) (λ x. (let g = times_places x (0 ∷ []) in omega (arith, g)))) in
    let d : 0 ≡ 1 = e in
    absurd (omega (arith, d))
