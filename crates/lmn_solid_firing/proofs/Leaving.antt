-- What a match leaves of a membrane is what is left of it when the same atoms and membranes are taken.
use Rattle.std.proofs.Common.{ℕ, ◌≡◌, Bool, true, false, not, cond, List, [], ◌∷◌, map, Option, Some, None, inl, inr, refl, sym, ap, subst, ◌∙◌}
use Rattle.std.specs.Prelude.{IsSome, ◌↔◌}
use Rattle.lmn_base.specs.Lists.{In}
use Rattle.lmn_base.proofs.Lists.{in_either, none_is_not}
use Rattle.lmn_solid_bodies.proofs.Contents.{keep_without}
use Rattle.lmn_solid_bodies.proofs.Dropping.{not_in, out_of}
use Rattle.lmn_congruence.specs.Regions.{Region, region}
use Rattle.lmn_store_heap.specs.Heap.{Heap, HeapMem, IsMem, atoms_in, mems_in, rules_in}
use Rattle.lmn_store_heap.specs.Lists.{Distinct, without_all}
use Rattle.lmn_store_heap.specs.Sound.{Forest, bare, mem, flat as members, Forms}
use Rattle.lmn_store_heap.proofs.Groves.{forms_one}
use Rattle.lmn_ground_parts.specs.Rests.{keep}
use Rattle.lmn_ground_parts.specs.Walks.{is_in}
use Rattle.lmn_adequacy_heaps.specs.HeapRegions.{atoms_at, regions_at}
use Rattle.lmn_solid_tables.specs.Flats.{heap_of}
use Rattle.lmn_adequacy_turns.specs.Turning.{IsLeft}
use Rattle.lmn_solid_firing.specs.Laws.{HeadsLeave}
use Rattle.lmn_solid_firing.specs.Making.{left_of}

-- what is left is kept
left_kept : (ns xs : List ℕ) → left_of ns xs ≡ keep (λ x. not (is_in ns x)) xs
left_kept ns [] = refl
left_kept ns (x ∷ xs) = by (is_in ns x) (left_kept ns xs)
  where
    by : (b : Bool) → left_of ns xs ≡ keep (λ x. not (is_in ns x)) xs → cond b (left_of ns xs) (x ∷ left_of ns xs) ≡ cond (not b) (x ∷ keep (λ x. not (is_in ns x)) xs) (keep (λ x. not (is_in ns x)) xs)
    by true e = e
    by false e = ap (λ z. x ∷ z) e

-- where two lists have the same elements, what one leaves is a list without those of the other
pub left_without : (ns ms xs : List ℕ) → ((x : ℕ) → In x ns ↔ In x ms) → Distinct xs → without_all ms xs ≡ left_of ns xs
left_without ns ms xs same d =
    keep_without (λ x. not (is_in ns x)) ms xs d (λ x i. ((λ e k. not_in ns x e ((same x).1 k)), (λ o. out_of ns x (λ k. o ((same x).0 k)))))
    ∙ sym (left_kept ns xs)

-- what is left of the membranes of a forest forms one
some_left : (h : Heap) (ns : List ℕ) (f : Forest) (ms : List ℕ) → Forms h f ms → (g : Forest) × Forms h g (left_of ns ms)
some_left h ns bare ms e = (bare, ap (left_of ns) e)
some_left h ns (mem m i f) ms F =
    let w = some_left h ns f F.0 F.3 in
    let u = by (is_in ns m) w in
    (u.0, subst (λ z. Forms h u.0 (left_of ns z)) (sym F.1) u.1)
  where
    by : (b : Bool) → ((g : Forest) × Forms h g (left_of ns F.0)) → (g : Forest) × Forms h g (cond b (left_of ns F.0) (m ∷ left_of ns F.0))
    by true w = w
    by false w = (mem m i w.0, (left_of ns F.0, refl, F.2, w.1))

-- a membrane of a forest has one in it
forms_inside : (h : Heap) (x : ℕ) (f : Forest) (ms : List ℕ) → Forms h f ms → In x (members f) → (i : Forest) × Forms h i (mems_in h x)
forms_inside h x bare ms F p = absurd p
forms_inside h x (mem k i f) ms F (inl e) = (i, subst (λ z. Forms h i (mems_in h z)) e F.2)
forms_inside h x (mem k i f) ms F (inr p) = elim (in_either x (members i) (members f) p) [
  | inl a ↦ forms_inside h x i (mems_in h k) F.2 a
  | inr b ↦ forms_inside h x f F.0 F.3 b
]

pub heads_leave : HeadsLeave
heads_leave flat v r t atoms membranes same_atoms same_membranes = (λ x. (each x).0, λ x i. (each x).1 i, λ x i S w. is x i S w)
  where
    h : Heap
    h = heap_of flat

    each : (x : ℕ) → (g : Forest) × (IsMem (heap_of flat) x → Forms (heap_of flat) g (left_of t.membranes (mems_in (heap_of flat) x)))
    each x = by ((heap_of flat).mems x) refl
      where
        by : (o : Option HeapMem) → (heap_of flat).mems x ≡ o → (g : Forest) × (IsMem (heap_of flat) x → Forms (heap_of flat) g (left_of t.membranes (mems_in (heap_of flat) x)))
        by None e = (bare, λ i. absurd (none_is_not ((heap_of flat).mems x) e i))
        by (Some y) e =
            let there : IsMem (heap_of flat) x = subst IsSome (sym e) refl in
            let u = forms_inside (heap_of flat) x v.tree.0 ((heap_of flat).root ∷ []) v.tree.1.forms (v.tree.1.all x there) in
            let w = some_left (heap_of flat) t.membranes u.0 (mems_in (heap_of flat) x) u.1 in
            (w.0, λ i. w.1)

    is : (x : ℕ) (i : IsMem (heap_of flat) x) (S : Region) → IsLeft (heap_of flat) r atoms membranes x S →
        S ≡ region (atoms_at (heap_of flat) r (left_of t.atoms (atoms_in (heap_of flat) x))) (regions_at (heap_of flat) r (each x).0) (map r.rule (rules_in (heap_of flat) x))
    is x i S w =
        let ms = mems_in (heap_of flat) x in
        let as' = left_without t.atoms atoms (atoms_in (heap_of flat) x) same_atoms (v.sound.listed.atoms_once x) in
        let forms = subst (Forms (heap_of flat) w.forest) (left_without t.membranes membranes ms same_membranes (v.sound.listed.mems_once x)) w.forms in
        let one = forms_one (heap_of flat) w.forest (each x).0 (left_of t.membranes ms) forms ((each x).1 i) in
        w.is ∙ (λ j. region (atoms_at (heap_of flat) r (as' j)) (regions_at (heap_of flat) r (one j)) (map r.rule (rules_in (heap_of flat) x)))
