-- The rules in the membranes of a solid's tables are rules of the solid.
use Rattle.std.proofs.Common.{ℕ, ◌≡◌, ◌<◌, List, [], ◌++◌, length, map, Option, Some, None, inl, inr, refl, sym, subst}
use Rattle.std.specs.Prelude.{IsSome}
use Rattle.std.specs.List.{AllByRecursion, flat_map}
use Rattle.std.proofs.lemmas.List.Elements.{recursion_from_All}
use Rattle.lmn_base.proofs.Lists.{all_append, all_left, all_right, in_either}
use Rattle.lmn_base.specs.Lists.{In}
use Rattle.lmn_base.specs.Solids.{rules_step}
use Rattle.lmn_base.specs.declared.solid.Region.TheFolds.{fold-Region, fold-roll-Region}
use Rattle.lmn_store_heap.specs.Heap.{Heap, HeapMem, IsMem, atoms_in, rules_by, rules_in}
use Rattle.lmn_store_heap.specs.Solid.{regions_of, solid_atoms_at}
use Rattle.lmn_store_heap.specs.Sound.{Forest, bare, mem, flat as members}
use Rattle.lmn_solid_tables.specs.Flats.{heap_of, link_at}
use Rattle.lmn_solid_next.specs.Settling.{FlatsHaveRules}
use Rattle.lmn_store_heap.proofs.ListLemmas.{each_in}

-- what holds of the rules of a forest holds of those of each of its membranes
rules_there : (P : ℕ → Type 0) (h : Heap) (name : ℕ → ℕ → ℕ) (f : Forest) → AllByRecursion P (flat_map (λ inner. inner) (map (fold-Region (List ℕ) rules_step) (regions_of h name f))) → (m : ℕ) → In m (members f) → AllByRecursion P (rules_in h m)
rules_there P h name bare a m i = absurd i
rules_there P h name (mem x inner f) a m i =
    let here = fold-roll-Region (List ℕ) rules_step (record { atoms = solid_atoms_at h name (atoms_in h x); membranes = regions_of h name inner; rules = rules_in h x }) in
    let own = rules_in h x in
    let inside = flat_map (λ inner. inner) (map (fold-Region (List ℕ) rules_step) (regions_of h name inner)) in
    let rest = flat_map (λ inner. inner) (map (fold-Region (List ℕ) rules_step) (regions_of h name f)) in
    let b : AllByRecursion P ((own ++ inside) ++ rest) = subst (λ z. AllByRecursion P (z ++ rest)) here a in
    let c = all_left P (own ++ inside) rest b in
    elim i [
      | inl e ↦ subst (λ z. AllByRecursion P (rules_in h z)) e (all_left P own inside c)
      | inr j ↦ elim (in_either m (members inner) (members f) j) [
        | inl l ↦ rules_there P h name inner (all_right P own inside c) m l
        | inr r ↦ rules_there P h name f (all_right P (own ++ inside) rest b) m r
      ]
    ]

pub flats_have_rules : FlatsHaveRules
flats_have_rules table s flat is has m k i = by ((heap_of flat).mems m) refl
  where
    all : AllByRecursion (λ k. k < length table) (fold-Region (List ℕ) rules_step s.root ++ [])
    all = all_append (λ k. k < length table) (fold-Region (List ℕ) rules_step s.root) [] (recursion_from_All (λ k. k < length table) (fold-Region (List ℕ) rules_step s.root) has) tt

    by : (o : Option HeapMem) → (heap_of flat).mems m ≡ o → k < length table
    by None e = absurd (subst (λ o. In k (rules_by o)) e i)
    by (Some x) e =
        let there : IsMem (heap_of flat) m = subst IsSome (sym e) refl in
        let whole = subst (λ z. AllByRecursion (λ k. k < length table) (flat_map (λ inner. inner) (map (fold-Region (List ℕ) rules_step) z))) (sym is.root) all in
        each_in (λ k. k < length table) (rules_in (heap_of flat) m) k (rules_there (λ k. k < length table) (heap_of flat) (link_at flat) (mem 0 is.inner bare) whole m (is.tree.all m there)) i
