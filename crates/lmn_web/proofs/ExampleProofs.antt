-- What holds of the examples.
use Rattle.std.proofs.Common.{◌≡◌, ◌≢◌, ◌/◌, ◌^◌, ℕ, zero, suc, [], ◌∷◌, slice_index_or, Option, Some, None, refl, sym, subst, inl, inr, arith}
use Rattle.std.proofs.lemmas.Bool.{cases_eq}
use Rattle.std.proofs.lemmas.Option.{same_Some}
use Rattle.lmn_base.specs.Lists.{In}
use Rattle.lmn_base.proofs.Numbers.{not_equal}
use Rattle.lmn_store_heap.specs.Lists.{Distinct}
use Rattle.lmn_web_cells.specs.Cells.{numbers_of}
use Rattle.lmn_web_cells.specs.Numbers.{INDEX}
use Rattle.lmn_web.specs.declared.kind.CellKind.{CellKind}
use Rattle.lmn_web.specs.declared.kind.CellKind.TheVariants.{Atom, Membrane}
use Rattle.lmn_web.specs.Webs.{WebCell, home_of, web_kind, cells_of, home_at, kind_at, cells_in, label_class, partner_at, unlinked}
use Rattle.lmn_web.specs.Examples.{two_listed, emptied, SecondIsLast, SecondIsFirst, FirstIsGone, BothAreListed, LostAreNotListed, GoneIsLoose, ListedIsNotLoose, BothAreGone, StillThereIsNotGone, OneHasLabel, NoneHasTwoPorts, BothAreOfOneClass, FarFilesNone, NearFiles, NoneIsOfAnotherClass, ringed, ThreeAreARing, TwoAreNoRing, SevenIsNew, FiveIsNotNew}

-- a cell that was added last stands at the end
pub second_is_last : SecondIsLast
second_is_last = refl

-- one that was added before another stands there
pub second_is_first : SecondIsFirst
second_is_first = refl

-- one that left isn't there
pub first_is_gone : FirstIsGone
first_is_gone = (refl, refl)

-- P of the three cells and of none
each : (P : ℕ → Option WebCell → Type 0) → P 0 (two_listed 0) → P 1 (two_listed 1) → P 2 (two_listed 2) → ((m : ℕ) → P m None) → (m : ℕ) → P m (two_listed m)
each P a b c d m = elim (cases_eq m 0) [
  | inl e ↦ subst (λ z. P z (two_listed z)) (sym e) a
  | inr x ↦ elim (cases_eq m 1) [
    | inl e ↦ subst (λ z. P z (two_listed z)) (sym e) b
    | inr y ↦ elim (cases_eq m 2) [
      | inl e ↦ subst (λ z. P z (two_listed z)) (sym e) c
      | inr z ↦ rw (not_equal m 0 x, not_equal m 1 y, not_equal m 2 z) (d m)
    ]
  ]
]

-- two atoms in a membrane are listed
pub both_are_listed : BothAreListed
both_are_listed = record {
  once = each (λ m o. (k : CellKind) → Distinct (cells_of o k)) two none none (λ m k. tt);
  homes = λ m x k. each (λ m o. (k : CellKind) → In x (cells_of o k) → (home_at two_listed x ≡ Some m) × (kind_at two_listed x ≡ k) × (x ≢ m)) (inside x) (nothing x 1) (nothing x 2) (λ m k i. absurd i) m k;
  listed = λ m x. each (λ x o. home_of o ≡ Some m → In x (cells_in two_listed m (web_kind o))) (λ e. absurd cc) (λ e. subst (λ n. In 1 (cells_in two_listed n Atom)) (same m e) (inl refl)) (λ e. subst (λ n. In 2 (cells_in two_listed n Atom)) (same m e) (inr (inl refl))) (λ x e. absurd cc) x;
  bare = λ m k. each (λ m o. (k : CellKind) → web_kind o ≡ Atom → cells_of o k ≡ []) (λ k e. absurd (other e)) (λ k e. empty k) (λ k e. empty k) (λ m k e. refl) m k;
}
  where
    two : (k : CellKind) → Distinct (cells_of (two_listed 0) k)
    two Atom = (((λ e. absurd (omega (arith, e))), tt), (tt, tt))
    two Membrane = tt

    none : (k : CellKind) → Distinct (cells_of (two_listed 1) k)
    none Atom = tt
    none Membrane = tt

    inside : (x : ℕ) (k : CellKind) → In x (cells_of (two_listed 0) k) → (home_at two_listed x ≡ Some 0) × (kind_at two_listed x ≡ k) × (x ≢ 0)
    inside x Atom (inl e) = subst (λ z. (home_at two_listed z ≡ Some 0) × (kind_at two_listed z ≡ Atom) × (z ≢ 0)) e (refl, refl, λ s. absurd (omega (arith, s)))
    inside x Atom (inr (inl e)) = subst (λ z. (home_at two_listed z ≡ Some 0) × (kind_at two_listed z ≡ Atom) × (z ≢ 0)) e (refl, refl, λ s. absurd (omega (arith, s)))
    inside x Atom (inr (inr i)) = absurd i
    inside x Membrane i = absurd i

    nothing : (x m : ℕ) (k : CellKind) → In x (cells_of (two_listed 1) k) → (home_at two_listed x ≡ Some m) × (kind_at two_listed x ≡ k) × (x ≢ m)
    nothing x m Atom i = absurd i
    nothing x m Membrane i = absurd i

    same : (m : ℕ) → ◌≡◌ {A = Option ℕ} (Some 0) (Some m) → 0 ≡ m
    same m e = cc

    other : Membrane ≡ Atom → ⊥
    other e = absurd cc

    empty : (k : CellKind) → cells_of (two_listed 1) k ≡ []
    empty Atom = refl
    empty Membrane = refl

-- with an empty list they aren't
pub lost_are_not_listed : LostAreNotListed
lost_are_not_listed l = l.listed 0 1 refl

-- an atom that left its list may be freed
pub gone_is_loose : GoneIsLoose
gone_is_loose = record { there = refl; alone = alone; homeless = refl; empty = empty }
  where
    alone : (i : ℕ) → partner_at (unlinked two_listed 0 1) 1 i ≡ None
    alone zero = refl
    alone (suc i) = refl

    empty : (k : CellKind) → cells_in (unlinked two_listed 0 1) 1 k ≡ []
    empty Atom = refl
    empty Membrane = refl

-- one that is in a list may not
pub listed_is_not_loose : ListedIsNotLoose
listed_is_not_loose l = let e : ◌≡◌ {A = Option ℕ} (Some 0) None = l.homeless in absurd cc

-- both atoms of the membrane are freed
pub both_are_gone : BothAreGone
both_are_gone = record { gone = gone; others = others; home = refl }
  where
    gone : (a : ℕ) → In a (cells_in two_listed 0 Atom) → emptied a ≡ None
    gone a (inl e) = subst (λ z. emptied z ≡ None) e refl
    gone a (inr (inl e)) = subst (λ z. emptied z ≡ None) e refl
    gone a (inr (inr i)) = absurd i

    others : (b : ℕ) → (In b (cells_in two_listed 0 Atom) → ⊥) → b ≢ 0 → emptied b ≡ two_listed b
    others b n d = rw (not_equal b 0 d, not_equal b 1 (λ e. n (inl (sym e))), not_equal b 2 (λ e. n (inr (inl (sym e))))) refl

-- where nothing changes they are there
pub still_there_is_not_gone : StillThereIsNotGone
still_there_is_not_gone w = let e = w.gone 1 (inl refl) in absurd cc

-- one of two atoms has a label
pub one_has_label : OneHasLabel
one_has_label = refl

-- none has it with another number of ports
pub none_has_two_ports : NoneHasTwoPorts
none_has_two_ports = refl

-- labels with one upper half are of one class
pub both_are_of_one_class : BothAreOfOneClass
both_are_of_one_class = refl

-- with another one there is none
pub none_is_of_another_class : NoneIsOfAnotherClass
none_is_of_another_class = refl

-- a membrane whose label has another class than 0 files no atoms
pub far_files_none : FarFilesNone
far_files_none l e z = let q = same_Some (2 ^ 64) l e in far (subst (λ n. label_class n ≡ 0) (sym q) z)
  where
    far : 2 ^ 64 / 2 ^ 64 ≡ 0 → ⊥
    far z = absurd (omega (arith, z))

-- one whose label has the class 0 files them
pub near_files : NearFiles
near_files f = f 0 refl refl

-- each of three atoms leads to the next, and the last one to the first
pub three_are_a_ring : ThreeAreARing
three_are_a_ring = ((refl, refl, (refl, refl, (refl, refl, tt))), 1 ∷ 2 ∷ [], refl)

-- the third doesn't lead to the second
pub two_are_no_ring : TwoAreNoRing
two_are_no_ring r = absurd (omega (arith, same_Some 1 2 r.0.0))

-- none has the index 7
pub seven_is_new : SevenIsNew
seven_is_new a there = elim (cases_eq a 1) [
  | inl e ↦ subst (λ z. slice_index_or (numbers_of (ringed z)) INDEX 0 ≢ 7) (sym e) (λ s. absurd (omega (arith, s)))
  | inr x ↦ elim (cases_eq a 2) [
    | inl e ↦ subst (λ z. slice_index_or (numbers_of (ringed z)) INDEX 0 ≢ 7) (sym e) (λ s. absurd (omega (arith, s)))
    | inr y ↦ elim (cases_eq a 3) [
      | inl e ↦ subst (λ z. slice_index_or (numbers_of (ringed z)) INDEX 0 ≢ 7) (sym e) (λ s. absurd (omega (arith, s)))
      | inr z ↦ rw (not_equal a 1 x, not_equal a 2 y, not_equal a 3 z) (λ s. absurd (omega (arith, s)))
    ]
  ]
]

-- the second has the index 5
pub five_is_not_new : FiveIsNotNew
five_is_not_new new = new 2 refl refl
