-- What is in a list is freed, one by one.
use Rattle.std.proofs.Common.{◌≡◌, ◌≢◌, ℕ, ◌<◌, List, ◌∷◌, length, Option, Some, None, refl, sym, ap, subst, ◌∙◌, inl, inr, arith}
use Rattle.std.proofs.lemmas.Bool.{cases_eq, eq-eqb}
use Rattle.std.specs.Option.{option_map, option_and_then}
use Rattle.lmn_store_heap.specs.Lists.{after, without, from}
use Rattle.lmn_store_heap.specs.Heap.{Place, alter}
use Rattle.lmn_store_heap.proofs.Listing.{alter_at, alter_away}
use Rattle.lmn_store_slab.specs.Cells.{place_by}
use Rattle.lmn_store_slab.specs.Kept.{Filed}
use Rattle.lmn_store_counts.specs.Counts.{Removes}
use Rattle.lmn_store_slab.proofs.Files.{drop_filed}
use Rattle.lmn_base.specs.Lists.{In}

-- where each stands
abbrev pub places : {X : Type 0} → (X → Place) → (ℕ → Option X) → ℕ → Option Place
places place f a = option_map place (f a)

-- from f and L, some items of the list have been freed
pub record Freeing {X : Type 0} (place : X → Place) (f : ℕ → Option X) (L : ℕ → List ℕ) (list : ℕ) (g : ℕ → Option X) (N : ℕ → List ℕ) : Type 0 where
  pub files : Filed N (places place g)
  pub freed : (u : X → Option X) → Removes place u (place_by list) → (a : ℕ) → option_and_then u (g a) ≡ option_and_then u (f a)
  pub others : (k : ℕ) → k ≢ list → N k ≡ L k

module _ {X : Type 0} (place : X → Place) (f : ℕ → Option X) (L : ℕ → List ℕ) (list : ℕ) where
  module _ (g : ℕ → Option X) (N : ℕ → List ℕ) (s : Freeing place f L list g N) where
    module _ (a : ℕ) (first : from (Some a) (N list) ≡ N list) where
      pub first_in : In a (N list)
      first_in = subst (In a) first (inl refl)

      at_place : places place g a ≡ Some (place_by list)
      at_place = (s.files.filed list a).0 first_in

      pub item : (x : X) × (g a ≡ Some x) × (place x ≡ place_by list)
      item = by (g a) at_place
        where
          by : (o : Option X) → option_map place o ≡ Some (place_by list) → (x : X) × (o ≡ Some x) × (place x ≡ place_by list)
          by None e = absurd (cc)
          by (Some x) e = (x, refl, cc)

      pub freeing_one : (g1 : ℕ → Option X) (N1 : ℕ → List ℕ) → N1 ≡ alter N list (without a) → g1 ≡ alter g a (λ _. None) → Freeing place f L list g1 N1
      freeing_one g1 N1 e h = subst (λ z. Freeing place f L list z N1) (sym h) (subst (Freeing place f L list (alter g a (λ _. None))) (sym e) (record {
        files = drop_filed N (places place g) (places place (alter g a (λ _. None))) s.files a
            (λ y d. ap (option_map place) (alter_away g a (λ _. None) y d)) list at_place (ap (option_map place) (alter_at g a (λ _. None)));
        freed = λ u r y. elim (cases_eq y a) [
          | inl same ↦ subst (λ z. option_and_then u (alter g a (λ _. None) z) ≡ option_and_then u (f z)) (sym same)
              (ap (option_and_then u) (alter_at g a (λ _. None)) ∙ sym (ap (option_and_then u) item.1 ∙ (r item.0).0 item.2) ∙ s.freed u r a)
          | inr d ↦ ap (option_and_then u) (alter_away g a (λ _. None) y d) ∙ s.freed u r y
        ];
        others = λ k d. alter_away N list (without a) k d ∙ s.others k d;
      }))

      pub fewer : (N1 : ℕ → List ℕ) → N1 ≡ alter N list (without a) → length (N1 list) < length (N list)
      fewer N1 e =
          let here : N1 list ≡ without a (N list) = ap (λ (h : ℕ → List ℕ). h list) e ∙ alter_at N list (without a) in
          let n = ap length here in
          let w = shorter (N list) (after a (N list)) first in
          omega arith
        where
          shorter : (xs rest : List ℕ) → a ∷ rest ≡ xs → length (without a xs) < length xs
          shorter xs rest e = subst (λ ys. length (without a ys) < length ys) e (rw (eq-eqb a a refl) (omega arith))

    -- at the end
    module _ (none : from None (N list) ≡ N list) where
      pub freed_all : (u : X → Option X) → Removes place u (place_by list) → g ≡ (λ a. option_and_then u (f a))
      freed_all u r = λ j a. (keeps a ∙ s.freed u r a) j
        where
          by : (o : Option X) → (option_map place o ≡ Some (place_by list) → ⊥) → o ≡ option_and_then u o
          by None d = refl
          by (Some x) d = sym ((r x).1 (λ e. d (ap (λ z. Some z) e)))

          keeps : (a : ℕ) → g a ≡ option_and_then u (g a)
          keeps a = by (g a) (λ e. subst (In a) (sym none) ((s.files.filed list a).1 e))
