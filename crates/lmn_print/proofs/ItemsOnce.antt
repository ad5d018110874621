-- No item stands twice in printed order.
use Rattle.std.proofs.Common.{◌≡◌, ◌≢◌, ℕ, ◌==◌, inl, inr, List, [], ◌∷◌, Option, Some, None, IsSome, refl, arith}
use Rattle.std.specs.Option.{option_map}
use Rattle.std.proofs.lemmas.Bool.{eqb-true}
use Rattle.lmn_store_heap.specs.Heap.{Heap, HeapAtom, IsAtom, atoms_in, within, own_mark}
use Rattle.lmn_store_heap.specs.Lists.{Distinct}
use Rattle.lmn_store_heap.specs.Sound.{Sound}
use Rattle.lmn_store_heap.proofs.Depths.{both_distinct}
use Rattle.lmn_store_heap.proofs.ListLemmas.{each_in}
use Rattle.lmn_print_folding.specs.Chosen.{marked_in, items_in}
use Rattle.lmn_print.specs.Walked.{printed_items}
use Rattle.lmn_base.specs.Lists.{In}
use Rattle.lmn_base.proofs.Lists.{in_either}
use Rattle.lmn_store_heap.proofs.Filters.{in_filter, distinct_filter}

-- an item is an atom of its membrane
pub item_in : (s : Heap) (m a : ℕ) → In a (items_in s m) → In a (atoms_in s m)
item_in s m a i = elim (in_either a (marked_in s 1 m) (marked_in s 2 m) i) [
  | inl j ↦ (in_filter (λ b. own_mark s b == 1) a (atoms_in s m) j).0
  | inr j ↦ (in_filter (λ b. own_mark s b == 2) a (atoms_in s m) j).0
]

items_once : (s : Heap) → Sound s → (m : ℕ) → Distinct (items_in s m)
items_once s sound m =
    both_distinct (marked_in s 1 m) (marked_in s 2 m) (distinct_filter (λ b. own_mark s b == 1) (atoms_in s m) (sound.listed.atoms_once m))
    (distinct_filter (λ b. own_mark s b == 2) (atoms_in s m) (sound.listed.atoms_once m)) (λ a i j.
    let one = eqb-true (own_mark s a) 1 (in_filter (λ b. own_mark s b == 1) a (atoms_in s m) i).1 in
    let two = eqb-true (own_mark s a) 2 (in_filter (λ b. own_mark s b == 2) a (atoms_in s m) j).1 in
    absurd (omega (arith, one, two)))

-- an item of some membranes is in one of them
pub item_from : (s : Heap) (ms : List ℕ) (a : ℕ) → In a (printed_items s ms) → (m : ℕ) × In m ms × In a (atoms_in s m)
item_from s [] a i = absurd i
item_from s (m ∷ ms) a i = elim (in_either a (items_in s m) (printed_items s ms) i) [
  | inl j ↦ (m, inl refl, item_in s m a j)
  | inr j ↦ (let r = item_from s ms a j in (r.0, inr r.1, r.2))
]

-- no item is printed twice
pub printed_items_once : (s : Heap) → Sound s → (ms : List ℕ) → Distinct ms → Distinct (printed_items s ms)
printed_items_once s sound [] d = tt
printed_items_once s sound (m ∷ ms) d =
    both_distinct (items_in s m) (printed_items s ms) (items_once s sound m) (printed_items_once s sound ms d.1) (λ a i j.
    let r = item_from s ms a j in
    let here = (sound.listed.atoms m a).0 (item_in s m a i) in
    let there = (sound.listed.atoms r.0 a).0 r.2 in
    let same : m ≡ r.0 = cc in
    each_in (λ n. m ≢ n) ms r.0 d.0 r.1 same)

-- each is an atom
pub items_atoms : (s : Heap) → Sound s → (ms : List ℕ) (a : ℕ) → In a (printed_items s ms) → IsAtom s a
items_atoms s sound ms a i = let r = item_from s ms a i in by (s.atoms a) r.0 ((sound.listed.atoms r.0 a).0 r.2)
  where
    by : (o : Option HeapAtom) (m : ℕ) → option_map (λ x. x.place) o ≡ Some (within m) → IsSome o
    by None m e = absurd (cc e)
    by (Some x) m e = refl
