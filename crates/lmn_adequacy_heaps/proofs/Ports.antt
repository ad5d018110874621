-- Links at the ports of atoms, and the outermost membrane round an item.
use Rattle.std.proofs.Common.{ℕ, zero, suc, ◌≡◌, ◌≢◌, ◌+◌, ◌≤◌, ◌<◌, List, [], ◌∷◌, length, Option, Some, None, refl, sym, ap, inl, inr, arith}
use Rattle.std.specs.Prelude.{slice_get}
use Rattle.std.proofs.lemmas.Bool.{cases_eq, eq-eqb}
use Rattle.std.proofs.lemmas.Option.{same_Some}
use Rattle.lmn_store_heap.specs.Heap.{Heap, HeapAtom, functor_of, arity_of}
use Rattle.lmn_store_heap.specs.Sound.{Valid}
use Rattle.lmn_store_heap.specs.Solid.{links_from}
use Rattle.lmn_solid_heads.specs.Heads.{HeadMembrane, inside_of, outermost, outermost_by}
use Rattle.lmn_congruence.specs.Links.{places}
use Rattle.lmn_adequacy_heaps.specs.HeapRegions.{HeapReading}
use Rattle.lmn_adequacy_heaps.proofs.Pieces.{atom_at, atom_by}
use Rattle.lmn_base.proofs.Numbers.{not_equal as apart_test}
use Rattle.lmn_congruence.proofs.Counts.{none_if_apart as apart_none}
use Rattle.lmn_store_heap.proofs.Common.{numbered_get}

-- a link with a place stands at an index
pub find_place : (x : ℕ) (ys : List ℕ) → places x ys ≢ 0 → (i : ℕ) × (slice_get ys i ≡ Some x)
find_place x [] d = absurd (d refl)
find_place x (y ∷ ys) d = elim (cases_eq x y) [
  | inl e ↦ (0, ap Some (sym e))
  | inr k ↦ (let u = find_place x ys (λ z. d (omega (arith, z, apart_none x y k))) in (suc u.0, u.1))
]

-- a link of an atom has the number of its port
pub get_numbered : (name : ℕ → ℕ → ℕ) (a k n i x : ℕ) → slice_get (links_from name a k n) i ≡ Some x → (name a (k + i) ≡ x) × (i < n)
get_numbered name a k zero i x e = absurd (cc)
get_numbered name a k (suc n) zero x e = let z : k + 0 ≡ k = omega arith in (rw z (same_Some (name a k) x e), omega arith)
get_numbered name a k (suc n) (suc i) x e =
    let u = get_numbered name a (k + 1) n i x e in
    let z : k + suc i ≡ (k + 1) + i = omega arith in
    (rw z u.0, omega (arith, u.1))

-- a port of an atom, by its links in the solid
pub port_named : (h : Heap) (v : Valid h) (r : HeapReading) (b : ℕ) (i x : ℕ) → slice_get (atom_at h r b).links i ≡ Some x → (r.name b i ≡ x) × (i < arity_of h b)
port_named h v r b i x e = by (h.atoms b) refl e
  where
    by : (o : Option HeapAtom) → h.atoms b ≡ o → slice_get (atom_by r b o).links i ≡ Some x → (r.name b i ≡ x) × (i < arity_of h b)
    by None q e = absurd (cc)
    by (Some y) q e =
        let u = get_numbered r.name b 0 y.functor.arity i x e in
        let z : 0 + i ≡ i = omega arith in
        let f : functor_of h b ≡ Some y.functor = rw q refl in
        let n : arity_of h b ≡ y.functor.arity = v.sound.shaped.ports b y.functor f in
        (rw z at u.0, omega (arith, u.1, n))

-- a port of an atom has its link in the region
pub named_port : (h : Heap) (v : Valid h) (r : HeapReading) (b i : ℕ) → i < arity_of h b → slice_get (atom_at h r b).links i ≡ Some (r.name b i)
named_port h v r b i l = by (h.atoms b) refl
  where
    by : (o : Option HeapAtom) → h.atoms b ≡ o → slice_get (atom_by r b o).links i ≡ Some (r.name b i)
    by None q = let n : arity_of h b ≡ 0 = rw q refl in absurd (omega (arith, n, l))
    by (Some y) q =
        let f : functor_of h b ≡ Some y.functor = rw q refl in
        let n : arity_of h b ≡ y.functor.arity = v.sound.shaped.ports b y.functor f in
        let z : 0 + i ≡ i = omega arith in
        rw z at (numbered_get r.name b 0 y.functor.arity i (omega (arith, n, l)))

-- ---- the outermost membrane

-- d steps lead from a membrane of the head to the outermost one round it
pub data Outer (ms : List HeadMembrane) : ℕ → ℕ → ℕ → Type 0 where
  outer_top : {k : ℕ} → inside_of ms k ≡ 0 → Outer ms k 0 k
  outer_in : {k d top : ℕ} → inside_of ms k ≢ 0 → Outer ms (inside_of ms k) d top → Outer ms k (suc d) top

outermost_steps : (ms : List HeadMembrane) {k d top : ℕ} → Outer ms k d top → (fuel : ℕ) → d ≤ fuel → outermost_by fuel ms k ≡ top
outermost_steps ms (outer_top e) zero l = refl
outermost_steps ms (outer_top {k = k} e) (suc fuel) l = rw (eq-eqb (inside_of ms k) 0 e) refl
outermost_steps ms (outer_in n o) zero l = absurd (omega (arith, l))
outermost_steps ms (outer_in {k = k} n o) (suc fuel) l = rw (apart_test (inside_of ms k) 0 n) (outermost_steps ms o fuel (omega (arith, l)))

-- a way up ends at the outermost membrane
pub outermost_is : (ms : List HeadMembrane) {k d top : ℕ} → Outer ms k d top → d ≤ length ms → outermost ms k ≡ top
outermost_is ms o l = outermost_steps ms o (length ms) l
