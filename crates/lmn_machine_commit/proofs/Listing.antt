-- What the list of a part's atoms is worth when more is made, and when something is taken.
use Rattle.std.proofs.Common.{◌≡◌, ℕ, List, [], ◌∷◌, Option, Some, None, IsSome, inl, inr, refl, sym, subst}
use Rattle.std.proofs.lemmas.Bool.{cases_eq}
use Rattle.std.specs.Option.{option_map}
use Rattle.lmn_store_heap.specs.Heap.{Heap, HeapAtom, IsAtom, gone, partners_of, taken, taken_all, with_place}
use Rattle.lmn_store_heap.proofs.Listing.{alter_away, alter_keeps}
use Rattle.lmn_ground.specs.Listed.{IsListed}
use Rattle.lmn_ground.specs.declared.listing.PartList.{PartList}
use Rattle.lmn_ground.proofs.ListedLaws.{listed_kept, listed_on}
use Rattle.lmn_ground.proofs.TakeLaws.{there_taken}
use Rattle.lmn_machine_commit.specs.Preparing.{OnlyMakes}

module _ {A : Type 0} (atom : A → ℕ) (list : PartList A) where
  -- a list stays right when more is made
  pub listed_made : (s t : Heap) → OnlyMakes s t → IsListed atom s list → IsListed atom t list
  listed_made s t makes listed = listed_kept atom s list t makes.kept listed

  -- and when an atom is taken
  pub listed_taken : (s t : Heap) (a : ℕ) → t ≡ taken s a → IsListed atom s list → IsListed atom t list
  listed_taken s t a e listed = subst (λ h. IsListed atom h list) (sym e) (listed_on atom s list (taken s a) (λ b i. (there b i, alter_keeps s.atoms a (option_map (with_place gone)) partners_of joined b)) listed)
    where
      joined : (o : Option HeapAtom) → partners_of (option_map (with_place gone) o) ≡ partners_of o
      joined None = refl
      joined (Some x) = refl

      there : (b : ℕ) → IsAtom s b → IsAtom (taken s a) b
      there b i = elim (cases_eq b a) [
        | inl e ↦ subst (IsAtom (taken s a)) (sym e) (there_taken s (taken s a) a refl (subst (IsAtom s) e i))
        | inr n ↦ subst (λ (o : Option HeapAtom). IsSome o) (sym (alter_away s.atoms a (option_map (with_place gone)) b n)) i
      ]

  -- so when some are
  pub listed_taken_all : (xs : List ℕ) (s t : Heap) → t ≡ taken_all s xs → IsListed atom s list → IsListed atom t list
  listed_taken_all [] s t e listed = subst (λ h. IsListed atom h list) (sym e) listed
  listed_taken_all (a ∷ xs) s t e listed = listed_taken_all xs (taken s a) t e (listed_taken s (taken s a) a refl listed)
