-- Each valid heap has a solid, and one only.
use Rattle.std.proofs.Common.{◌≡◌, ℕ, ◌<◌, List, [], ◌∷◌, ◌++◌, Option, Some, None, refl, sym, ap, ◌∙◌, subst, arith}
use Rattle.std.specs.Option.{option_map}
use Rattle.lmn_base.specs.Links.{Numbers}
use Rattle.lmn_base.specs.declared.solid.Region.{Region}
use Rattle.lmn_base.specs.declared.solid.Region.TheViews.{roll-Region}
use Rattle.lmn_base.specs.declared.solid.Solid.{Solid}
use Rattle.lmn_store_heap.specs.Heap.{Heap, HeapAtom, arity_of, atoms_in, rules_in}
use Rattle.lmn_store_heap.specs.Solid.{solid_atom_at, solid_atoms_at, regions_of}
use Rattle.lmn_store_heap.specs.Sound.{Forest, bare, mem, flat, Forms, Sound}
use Rattle.lmn_store_heap.proofs.Calls.{one_tree}
use Rattle.lmn_store_heap.proofs.SolidLemmas.{regions_frame}
use Rattle.lmn_print_plain.specs.HeapLaws.{HeapsHaveSolids, OneSolid}
use Rattle.lmn_print_plain.specs.Numbers.{printed_atoms, links_on}
use Rattle.lmn_print_plain.proofs.FirstNames.{names_on, has_on, are_on, first_naming, names_alike}
use Rattle.lmn_ground_parts.specs.Copies.{ports_of}
use Rattle.lmn_print_plain.proofs.OrderLemmas.{printed_all}
use Rattle.lmn_print_plain.proofs.ToldLemmas.{numbered_alike, solid_atom}
use Rattle.lmn_print_plain.proofs.SolidLinks.{solid_links, in_links, numbers_below}
use Rattle.lmn_store_heap.proofs.Common.{is_atom_at as port_there}

-- the tree of the root is one region
one_region : (s : Heap) (name : ℕ → ℕ → ℕ) (f : Forest) → Forms s f (s.root ∷ []) → (r : Region) × (regions_of s name f ≡ r ∷ [])
one_region s name bare F = absurd (cc F)
one_region s name (mem m i r) F =
    let w : s.root ∷ [] ≡ m ∷ F.0 = F.1 in
    let none : F.0 ≡ [] = cc w in
    let here : Region = roll-Region (record { atoms = solid_atoms_at s name (atoms_in s m); membranes = regions_of s name i; rules = rules_in s m }) in
    (here, ap (λ g. here ∷ regions_of s name g) (nothing r (subst (Forms s r) none F.3)))
  where
    nothing : (g : Forest) → Forms s g [] → g ≡ bare
    nothing bare F = refl
    nothing (mem k i b) F = absurd (let w : [] ≡ k ∷ F.0 = F.1 in cc w)

-- each valid heap has a solid
pub heaps_have_solids : HeapsHaveSolids
heaps_have_solids s valid =
    let f = valid.tree.0 in
    let tree = valid.tree.1 in
    let xs = printed_atoms s (flat f) in
    let first = first_naming s valid.sound.paired (ports_of s xs) (λ a i l. has_on s xs a i (printed_all s valid f tree a (port_there s a i l)) l) in
    let region = one_region s first.name f tree.forms in
    let x : Solid = record { root = region.0 } in (
      x,
      record {
        forest = f;
        tree = tree;
        name = first.name;
        naming = first.naming;
        root = region.1;
        count = first.count;
        numbers = subst (λ ls. Numbers 0 ls first.count) (names_on s first.name xs ∙ sym (solid_links s valid.sound first.name f region.0 region.1)) first.numbers;
      },
    )

-- names that say the same of each port make the same regions

module _ (s : Heap) (sound : Sound s) (u v : ℕ → ℕ → ℕ) (same : (a i : ℕ) → i < arity_of s a → u a i ≡ v a i) where
  atom_alike : (a : ℕ) (o : Option HeapAtom) → s.atoms a ≡ o → solid_atom_at u a o ≡ solid_atom_at v a o
  atom_alike a None e = refl
  atom_alike a (Some x) e =
      let arity : arity_of s a ≡ x.functor.arity = sound.shaped.ports a x.functor (ap (option_map (λ (y : HeapAtom). y.functor)) e) in
      ap (λ ls. solid_atom x.functor ls ∷ []) (numbered_alike u v a 0 x.functor.arity (λ j l. same a j (omega (arith, l, arity))))

  atoms_alike : (xs : List ℕ) → solid_atoms_at s u xs ≡ solid_atoms_at s v xs
  atoms_alike [] = refl
  atoms_alike (a ∷ xs) = ap (λ ys. ys ++ solid_atoms_at s u xs) (atom_alike a (s.atoms a) refl) ∙ ap (λ ys. solid_atom_at v a (s.atoms a) ++ ys) (atoms_alike xs)

  regions_alike : (f : Forest) → regions_of s u f ≡ regions_of s v f
  regions_alike f = regions_frame s s u v f (λ m i. (atoms_alike (atoms_in s m), refl))

-- a valid heap has one solid at most
pub one_solid : OneSolid
one_solid s x y valid p q =
    let forests : q.forest ≡ p.forest = one_tree s q.forest p.forest q.tree p.tree in
    let xs = printed_atoms s (flat p.forest) in
    let other : regions_of s q.name p.forest ≡ y.root ∷ [] = subst (λ f. regions_of s q.name f ≡ y.root ∷ []) forests q.root in
    let links = solid_links s valid.sound p.name p.forest x.root p.root in
    let others = solid_links s valid.sound q.name p.forest y.root other in
    let nx = subst (λ ls. Numbers 0 ls p.count) (links ∙ sym (names_on s p.name xs)) p.numbers in
    let ny = subst (λ ls. Numbers 0 ls q.count) (others ∙ sym (names_on s q.name xs)) q.numbers in
    let below : (a i : ℕ) → i < arity_of s a → p.name a i < p.count = λ a i l.
    numbers_below 0 p.count (links_on s xs p.name) (p.name a i) (subst (λ ls. Numbers 0 ls p.count) links p.numbers) (in_links s valid.sound p.name xs a i (printed_all s valid p.forest p.tree a (port_there s a i l)) l) in
    let same : (a i : ℕ) → i < arity_of s a → q.name a i ≡ p.name a i = λ a i l.
    names_alike s p.name q.name p.naming q.naming (ports_of s xs) p.count q.count (are_on s xs) nx ny a i l (below a i l) in
    let whole : y.root ∷ [] ≡ x.root ∷ [] = sym other ∙ regions_alike s valid.sound q.name p.name same p.forest ∙ p.root in
    let root : x.root ≡ y.root = (cc whole) in
    λ i. record { root = root i }
