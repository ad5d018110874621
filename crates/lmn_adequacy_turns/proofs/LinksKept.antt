-- What is left of a membrane depends on the images of the links of the heap alone.
use Rattle.std.proofs.Common.{ℕ, ◌≡◌, ◌<◌, List, [], ◌∷◌, ◌++◌, map, Option, Some, None, IsSome, refl, sym, ap, subst, ◌∙◌, inl, inr}
use Rattle.lmn_store_heap.specs.Heap.{Heap, HeapAtom, HeapMem, IsMem, atoms_by, atoms_in}
use Rattle.lmn_store_heap.specs.Lists.{without_all}
use Rattle.lmn_store_heap.specs.Solid.{solid_atom_at, solid_atoms_at, links_from}
use Rattle.lmn_congruence.specs.Orders.{Among}
use Rattle.lmn_congruence.specs.Translation.{solid_atom_of}
use Rattle.lmn_adequacy.specs.Next.{links_at}
use Rattle.lmn_solid_bodies.specs.Fired.{linked_by}
use Rattle.lmn_solid_bodies.specs.Within.{left_solid}
use Rattle.lmn_adequacy_heaps.specs.HeapRegions.{HeapReading, atoms_at}
use Rattle.lmn_adequacy_turns.proofs.LinksBelow.{links_below, links_limit}
use Rattle.lmn_store_heap.proofs.ListLemmas.{withouts_nothing as no_atoms}
use Rattle.lmn_congruence.proofs.Common.{among_left, among_right, map_known}
use Rattle.lmn_base.specs.Lists.{In}
use Rattle.lmn_solid_bodies.proofs.Drops.{in_less}

module _ (h : Heap) (r : HeapReading) where
  -- a link of an atom of a list is one of the list's atoms
  link_there : (ys : List ℕ) (a : ℕ) (v : HeapAtom) (y : ℕ) → In a ys → h.atoms a ≡ Some v → Among y (links_from r.name a 0 v.functor.arity) → Among y (links_at (atoms_at h r ys))
  link_there [] a v y k e l = absurd k
  link_there (b ∷ ys) a v y (inl q) e l =
      let w : h.atoms b ≡ Some v = ap h.atoms q ∙ e in
      let m : Among y (links_from r.name b 0 v.functor.arity) = subst (λ z. Among y (links_from r.name z 0 v.functor.arity)) (sym q) l in
      subst (λ o. Among y (links_at (map (solid_atom_of r.names) (solid_atom_at r.name b o ++ solid_atoms_at h r.name ys)))) (sym w) (among_left (links_at (atoms_at h r ys)) m)
  link_there (b ∷ ys) a v y (inr k) e l = by (h.atoms b) (link_there ys a v y k e l)
    where
      by : (o : Option HeapAtom) → Among y (links_at (atoms_at h r ys)) → Among y (links_at (map (solid_atom_of r.names) (solid_atom_at r.name b o ++ solid_atoms_at h r.name ys)))
      by None m = m
      by (Some u) m = among_right (links_from r.name b 0 u.functor.arity) m

  -- atoms of a list, where two maps agree on the links of the list's atoms
  linked_alike : (f g : ℕ → ℕ) (ys : List ℕ) → ((y : ℕ) → Among y (links_at (atoms_at h r ys)) → f y ≡ g y) → (xs : List ℕ) → ((a : ℕ) → In a xs → In a ys) →
      map (linked_by f) (solid_atoms_at h r.name xs) ≡ map (linked_by g) (solid_atoms_at h r.name xs)
  linked_alike f g ys e [] sub = refl
  linked_alike f g ys e (a ∷ xs) sub = by (h.atoms a) refl (linked_alike f g ys e xs (λ b k. sub b (inr k)))
    where
      by : (o : Option HeapAtom) → h.atoms a ≡ o → map (linked_by f) (solid_atoms_at h r.name xs) ≡ map (linked_by g) (solid_atoms_at h r.name xs) →
          map (linked_by f) (solid_atom_at r.name a o ++ solid_atoms_at h r.name xs) ≡ map (linked_by g) (solid_atom_at r.name a o ++ solid_atoms_at h r.name xs)
      by None q rest = rest
      by (Some v) q rest =
          let own = map_known {f = f} {g = g} (links_from r.name a 0 v.functor.arity) (λ y k. e y (link_there ys a v y (sub a (inl refl)) q k)) in
          λ i. (record { functor = v.functor; links = own i }) ∷ rest i

-- Two maps that agree on the links below the limit of a heap leave the same of each membrane.
pub left_same : (h : Heap) (r : HeapReading) (ms : List ℕ) → ((x : ℕ) → IsMem h x → In x ms) → (taken : List ℕ) (f g : ℕ → ℕ) → ((y : ℕ) → y < links_limit h r ms → f y ≡ g y) →
    (x : ℕ) → left_solid h (λ p. r.name p.0 p.1) taken f x ≡ left_solid h (λ p. r.name p.0 p.1) taken g x
left_same h r ms all taken f g same x = by (h.mems x) refl
  where
    nothing : (xs : List ℕ) → xs ≡ [] → map (linked_by f) (solid_atoms_at h r.name (without_all taken xs)) ≡ map (linked_by g) (solid_atoms_at h r.name (without_all taken xs))
    nothing xs e = subst (λ z. map (linked_by f) (solid_atoms_at h r.name z) ≡ map (linked_by g) (solid_atoms_at h r.name z)) (sym (ap (without_all taken) e ∙ no_atoms taken)) refl

    by : (o : Option HeapMem) → h.mems x ≡ o → left_solid h (λ p. r.name p.0 p.1) taken f x ≡ left_solid h (λ p. r.name p.0 p.1) taken g x
    by None e = nothing (atoms_in h x) (ap atoms_by e)
    by (Some m) e =
        let there : In x ms = all x (subst (λ (o : Option HeapMem). IsSome o) (sym e) refl) in
        linked_alike h r f g (atoms_in h x) (λ y k. same y (links_below h r ms x there y k)) (without_all taken (atoms_in h x)) (λ a k. in_less taken (atoms_in h x) a k)
