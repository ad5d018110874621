-- Where all links of a heap are below a number, those of its regions are.
use Rattle.std.proofs.Common.{ℕ, zero, suc, ◌≡◌, ◌≢◌, ◌+◌, ◌<◌, ◌≤◌, Option, Some, None, List, [], ◌∷◌, ◌++◌, map, refl, inl, inr, arith}
use Rattle.lmn_base.proofs.Numbers.{below_or_from}
use Rattle.lmn_congruence.specs.Links.{places}
use Rattle.lmn_congruence.specs.Orders.{Among, at_head, further}
use Rattle.lmn_congruence.specs.Process.{occurrences, together}
use Rattle.lmn_congruence.specs.Regions.{SolidAtom, atom_process, region, region_process, regions_processes}
use Rattle.lmn_congruence.specs.Rules.{Rule}
use Rattle.lmn_congruence.specs.Translation.{solid_atom_of}
use Rattle.lmn_congruence.proofs.Common.{among_apart, places_among}
use Rattle.lmn_congruence.proofs.TranslatedLinks.{no_link_in_rules}
use Rattle.lmn_adequacy.specs.Next.{links_at}
use Rattle.lmn_base.proofs.Numbers.{same_or_not}
use Rattle.lmn_store_heap.specs.Heap.{Heap, HeapAtom, atoms_in, rules_in}
use Rattle.lmn_store_heap.specs.Solid.{links_from, solid_atom_at, solid_atoms_at}
use Rattle.lmn_store_heap.specs.Sound.{Forest, bare, mem}
use Rattle.lmn_adequacy_heaps.specs.HeapRegions.{HeapReading, atoms_at, regions_at}

-- a link of renamed atoms is the image of one
pub renamed_among : (f : ℕ → ℕ) (z : ℕ) (ys : List ℕ) → Among z (map f ys) → (y : ℕ) × Among y ys × (z ≡ f y)
renamed_among f z [] k = elim k [ ]
renamed_among f z (y ∷ ys) at_head = (y, at_head, refl)
renamed_among f z (y ∷ ys) (further k) = let w = renamed_among f z ys k in (w.0, further w.1, w.2)

module _ (h : Heap) (r : HeapReading) (F : ℕ) (below : (a i : ℕ) → r.name a i < F) where
  from_under : (a i n z : ℕ) → Among z (links_from r.name a i n) → z < F
  from_under a i zero z k = elim k [ ]
  from_under a i (suc n) z at_head = below a i
  from_under a i (suc n) z (further k) = from_under a (i + 1) n z k

  -- the links of atoms
  pub atoms_under : (xs : List ℕ) (z : ℕ) → Among z (links_at (atoms_at h r xs)) → z < F
  atoms_under [] z k = elim k [ ]
  atoms_under (a ∷ xs) z k = by (h.atoms a) (λ k. atoms_under xs z k) k
    where
      by : (o : Option HeapAtom) → (Among z (links_at (atoms_at h r xs)) → z < F) → Among z (links_at (map (solid_atom_of r.names) (solid_atom_at r.name a o ++ solid_atoms_at h r.name xs))) → z < F
      by None f k = f k
      by (Some x) f k = elim (among_apart (links_from r.name a 0 x.functor.arity) (links_at (atoms_at h r xs)) k) [
        | inl i ↦ from_under a 0 x.functor.arity z i
        | inr j ↦ f j
      ]

  module _ (z : ℕ) (m : F ≤ z) where
    none_among : (ys : List ℕ) → ((y : ℕ) → Among y ys → y < F) → places z ys ≡ 0
    none_among ys l = elim (same_or_not (places z ys) 0) [
      | inl e ↦ e
      | inr d ↦ absurd (let k = l z (places_among z ys d) in omega (arith, k, m))
    ]

    none_of : (xs : List SolidAtom) → ((y : ℕ) → Among y (links_at xs) → y < F) → occurrences z (together (map atom_process xs)) ≡ 0
    none_of xs l = let e : occurrences z (together (map atom_process xs)) ≡ places z (links_at xs) = together_places xs in omega (arith, e, none_among (links_at xs) l)
      where
        both : (as' bs : List ℕ) → places z (as' ++ bs) ≡ places z as' + places z bs
        both [] bs = omega arith
        both (a ∷ as') bs = omega (arith, both as' bs)

        together_places : (xs : List SolidAtom) → occurrences z (together (map atom_process xs)) ≡ places z (links_at xs)
        together_places [] = refl
        together_places (x ∷ xs) = omega (arith, both x.links (links_at xs), together_places xs)

    forest_none : (f : Forest) → occurrences z (together (regions_processes (regions_at h r f))) ≡ 0
    forest_none bare = refl
    forest_none (mem x i f) =
        omega (arith, none_of (atoms_at h r (atoms_in h x)) (λ y k. atoms_under (atoms_in h x) y k), forest_none i, no_link_in_rules z (map r.rule (rules_in h x)), forest_none f)

    -- a region has no link from the number on
    pub region_none : (xs : List ℕ) (f : Forest) (rs : List Rule) → occurrences z (region_process (region (atoms_at h r xs) (regions_at h r f) rs)) ≡ 0
    region_none xs f rs = omega (arith, none_of (atoms_at h r xs) (λ y k. atoms_under xs y k), forest_none f, no_link_in_rules z rs)

  -- a link that stands in a region is below
  pub region_under : (xs : List ℕ) (f : Forest) (z : ℕ) → occurrences z (region_process (region (atoms_at h r xs) (regions_at h r f) [])) ≢ 0 → z < F
  region_under xs f z o = elim (below_or_from z F) [
    | inl l ↦ l
    | inr m ↦ absurd (o (region_none z m xs f []))
  ]
