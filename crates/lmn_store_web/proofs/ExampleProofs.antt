-- What the heap of a small web has.
use Rattle.std.proofs.Common.{◌≡◌, ◌==◌, true, false, List, [], ◌∷◌, ℕ, Option, Some, None, IsSome, ap, map, inl, inr, refl, sym, subst, ◌∙◌, arith}
use Rattle.std.proofs.lemmas.Bool.{cases_eq}
use Rattle.lmn_store_heap.specs.Heap.{Heap, HeapMem, IsMem, top, mems_in, mem_mark_of, mem_with_place, new_mem}
use Rattle.lmn_store_heap.proofs.Listing.{alter_away}
use Rattle.lmn_store_web_preorder.specs.Nests.{Nest, with_awake}
use Rattle.lmn_store_web.specs.Examples.{AtomStands, AtomWaits, PostIsNoMembrane, WaitingIsNotAlone, RootIsAlone, LabelsAreRead, IntegerIsNoName, IntegersAreTogether, ValuesAreApart, one_key, RootIsKey, KeyIsAwake, SleeperIsNoKey, two_keys, two_mems, key_of_two, RootIsIndexed, OtherIsNotIndexed}
use Rattle.lmn_store_web.specs.Indexes.{IsNestOf}
use Rattle.lmn_store_web.specs.WebHeaps.{alone}
use Rattle.lmn_store_web.proofs.IndexLemmas.{index_alone}

pub atom_stands : AtomStands
atom_stands = (refl, refl)

pub atom_waits : AtomWaits
atom_waits = (refl, refl)

pub post_is_no_membrane : PostIsNoMembrane
post_is_no_membrane = refl

pub waiting_is_not_alone : WaitingIsNotAlone
waiting_is_not_alone e = let u : ◌≡◌ {A = List ℕ} (4 ∷ []) [] = ap (λ (h : Heap). h.new_atoms) e in absurd (cc)

pub root_is_alone : RootIsAlone
root_is_alone = (refl, refl)

pub labels_are_read : LabelsAreRead
labels_are_read = (refl, refl, refl, refl, refl)

pub integer_is_no_name : IntegerIsNoName
integer_is_no_name e = absurd (cc)

pub values_are_apart : ValuesAreApart
values_are_apart = (λ e. omega (arith, e), λ e. omega (arith, e))

pub integers_are_together : IntegersAreTogether
integers_are_together = refl

pub root_is_indexed : RootIsIndexed
root_is_indexed = index_alone (λ (n : Nest). n ≡ with_awake 0 false one_key) (λ _. 0) 5 false refl refl

pub root_is_key : RootIsKey
root_is_key b = let x = index_alone (λ (n : Nest). n ≡ with_awake 0 b one_key) (λ _. 0) 5 b refl refl in subst (λ (n : Nest). IsNestOf (λ _. 0) (alone 5) n) x.nested x.agrees

pub key_is_awake : KeyIsAwake
key_is_awake = record {
  inside = λ m i. both m i (λ z. two_keys.inside (key_of_two z) ≡ map key_of_two (mems_in two_mems z)) refl refl;
  awake = λ m i d. both m i (λ z. two_keys.awake (key_of_two z) ≡ (mem_mark_of two_mems z == 0)) refl refl;
  others = λ k f. refl;
}
  where
    both : (m : ℕ) → IsMem two_mems m → (P : ℕ → Type 0) → P 6 → P 5 → P m
    both m i P new old = elim (cases_eq m 6) [
      | inl e ↦ subst P (sym e) new
      | inr d ↦ elim (cases_eq m 5) [
        | inl e ↦ subst P (sym e) old
        | inr g ↦ absurd (let u : IsSome {T = HeapMem} None = subst (λ (o : Option HeapMem). IsSome o) (alter_away (alone 5).mems 6 (λ _. Some new_mem) m d ∙ alter_away (λ _. None) 5 (λ _. Some (mem_with_place top new_mem)) m g) i in cc)
      ]
    ]

pub sleeper_is_no_key : SleeperIsNoKey
sleeper_is_no_key x = let u : false ≡ true = x.awake 6 refl (λ e. let z : ◌≡◌ {A = ℕ} 6 5 = e in omega (arith, z)) in absurd (cc)

pub other_is_not_indexed : OtherIsNotIndexed
other_is_not_indexed x =
    let u : ◌≡◌ {A = Option ℕ} (Some 6) (Some 5) = x.cells 5 refl in
    let e : ◌≡◌ {A = ℕ} 6 5 = ap number u in absurd (omega (arith, e))
  where
    number : Option ℕ → ℕ
    number None = 0
    number (Some n) = n
