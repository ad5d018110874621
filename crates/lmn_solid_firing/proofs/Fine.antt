-- Atoms that a firing makes have as many links as their arities, are no connectors, and have links below a number.
use Rattle.std.proofs.Common.{ℕ, zero, suc, ◌≡◌, ◌≢◌, ◌+◌, ◌<◌, List, [], ◌∷◌, ◌++◌, length, map, Option, Some, None, refl, sym, ap, subst, ◌∙◌}
use Rattle.std.specs.Prelude.{IsSome}
use Rattle.std.specs.List.{AllByRecursion}
use Rattle.std.specs.Option.{option_map}
use Rattle.std.proofs.lemmas.List.{length-map}
use Rattle.lmn_base.proofs.Lists.{all_append, all_left, all_right, map_append}
use Rattle.lmn_base.specs.Solids.{connector}
use Rattle.lmn_base.specs.declared.solid.SolidAtom.{SolidAtom}
use Rattle.lmn_store_heap.specs.Heap.{HeapAtom, IsAtom, atoms_in}
use Rattle.lmn_store_heap.specs.Solid.{links_from, solid_atom_at, solid_atoms_at}
use Rattle.lmn_store_heap.specs.Sound.{Forest, bare, mem, Valid}
use Rattle.lmn_solid_settle.specs.Raw.{RawRegions, no_raw, raw_and, raw_atoms, raw_atoms_in, settled_atom}
use Rattle.lmn_solid_tables.specs.Flats.{heap_of, link_at}
use Rattle.lmn_solid_tables.specs.declared.flat.Flat.{Flat}
use Rattle.lmn_solid_firing.specs.declared.writing.Writing.{Writing}
use Rattle.lmn_solid_firing.specs.Making.{raws_append, raws_at, written, written_atoms}

-- an atom is fine
abbrev pub Fine : ℕ → SolidAtom → Type 0
Fine n a = (length a.links ≡ a.functor.arity) × (a.functor ≢ connector) × AllByRecursion (λ x. x < n) a.links

pub append_fine : (n : ℕ) (ms ns : RawRegions) → AllByRecursion (Fine n) (raw_atoms_in ms) → AllByRecursion (Fine n) (raw_atoms_in ns) → AllByRecursion (Fine n) (raw_atoms_in (raws_append ms ns))
append_fine n no_raw ns f g = g
append_fine n (raw_and m ms) ns f g = all_append (Fine n) (raw_atoms m) (raw_atoms_in (raws_append ms ns)) (all_left (Fine n) (raw_atoms m) (raw_atoms_in ms) f) (append_fine n ms ns (all_right (Fine n) (raw_atoms m) (raw_atoms_in ms) f) g)

module _ (flat : Flat) (v : Valid (heap_of flat)) (limit n : ℕ) (below : (a i : ℕ) → link_at flat a i < limit) (w : Writing) (low : (y : ℕ) → y < limit → written w y < n) where
  from_low : (a i k : ℕ) → AllByRecursion (λ x. x < n) (map (written w) (links_from (link_at flat) a i k))
  from_low a i zero = tt
  from_low a i (suc k) = (low (link_at flat a i) (below a i), from_low a (i + 1) k)

  from_long : (a i k : ℕ) → length (links_from (link_at flat) a i k) ≡ k
  from_long a i zero = refl
  from_long a i (suc k) = ap suc (from_long a (i + 1) k)

  atom_fine : (a : ℕ) (o : Option HeapAtom) → (heap_of flat).atoms a ≡ o → AllByRecursion (Fine n) (map (settled_atom (written w)) (solid_atom_at (link_at flat) a o))
  atom_fine a None e = tt
  atom_fine a (Some x) e = ((length-map (links_from (link_at flat) a 0 x.functor.arity) (written w) ∙ from_long a 0 x.functor.arity, other, from_low a 0 x.functor.arity), tt)
    where
      there : IsAtom (heap_of flat) a
      there = subst IsSome (sym e) refl

      other : x.functor ≢ connector
      other q = v.no_connector a (v.settled.atoms a there) (ap (option_map (λ z. z.functor)) e ∙ ap Some q)

  -- atoms of the solid
  pub atoms_fine : (as' : List ℕ) → AllByRecursion (Fine n) (written_atoms flat w as')
  atoms_fine [] = tt
  atoms_fine (a ∷ as') =
      let here = solid_atom_at (link_at flat) a ((heap_of flat).atoms a) in
      let rest = solid_atoms_at (heap_of flat) (link_at flat) as' in
      subst (AllByRecursion (Fine n)) (sym (map_append (settled_atom (written w)) here rest))
      (all_append (Fine n) (map (settled_atom (written w)) here) (map (settled_atom (written w)) rest) (atom_fine a ((heap_of flat).atoms a) refl) (atoms_fine as'))

  -- the membranes of a forest
  pub forest_fine : (f : Forest) → AllByRecursion (Fine n) (raw_atoms_in (raws_at flat w f))
  forest_fine bare = tt
  forest_fine (mem m inner f) =
      all_append (Fine n) (written_atoms flat w (atoms_in (heap_of flat) m) ++ raw_atoms_in (raws_at flat w inner)) (raw_atoms_in (raws_at flat w f))
      (all_append (Fine n) (written_atoms flat w (atoms_in (heap_of flat) m)) (raw_atoms_in (raws_at flat w inner)) (atoms_fine (atoms_in (heap_of flat) m)) (forest_fine inner)) (forest_fine f)
