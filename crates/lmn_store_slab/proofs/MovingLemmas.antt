-- What stands in one membrane goes to the end of another's, one by one.
use Rattle.std.proofs.Common.{◌≡◌, ◌≢◌, ℕ, ◌+◌, ◌<◌, List, [], ◌∷◌, ◌++◌, length, Option, Some, None, IsSome, refl, sym, ap, subst, ◌∙◌, inl, inr, arith}
use Rattle.std.proofs.lemmas.Bool.{cases_eq, eq-eqb}
use Rattle.std.proofs.lemmas.List.{append_assoc}
use Rattle.std.specs.Option.{option_map}
use Rattle.lmn_store_heap.specs.Lists.{after, without, from}
use Rattle.lmn_store_heap.specs.Heap.{Place, within, alter, HeapAtom, HeapMem, atom_sent, mem_sent, sent, with_place, mem_with_place}
use Rattle.lmn_store_heap.proofs.Listing.{alter_at, alter_away}
use Rattle.lmn_store_counts.proofs.PlaceLemmas.{sent_keeps}
use Rattle.lmn_store_slab.specs.Cells.{place_by}
use Rattle.lmn_store_slab.specs.Kept.{Filed}
use Rattle.lmn_store_slab.proofs.Files.{move_filed, only_list, place_mem}
use Rattle.lmn_store_slab.proofs.FreeingLemmas.{places}
use Rattle.lmn_base.proofs.Numbers.{not_equal as apart_test}
use Rattle.lmn_base.specs.Lists.{In}

-- how items are sent from m to n
pub record Sends {X : Type 0} (place : X → Place) (put : Place → X → X) (send : X → X) (m n : ℕ) : Type 0 where
  pub keeps : (x : X) → (place x ≡ within m → ⊥) → send x ≡ x
  pub moves : (x : X) → place x ≡ within m → send (put (within n) x) ≡ send x
  pub puts : (P : Place) (x : X) → place (put P x) ≡ P

-- from f and L, some items of m have been sent to n
pub record Moving {X : Type 0} (place : X → Place) (send : X → X) (m n : ℕ) (f : ℕ → Option X) (L : ℕ → List ℕ) (g : ℕ → Option X) (N : ℕ → List ℕ) : Type 0 where
  pub files : Filed N (places place g)
  pub sends : (a : ℕ) → option_map send (g a) ≡ option_map send (f a)
  pub lists : N (n + 2) ++ N (m + 2) ≡ L (n + 2) ++ L (m + 2)
  pub others : (k : ℕ) → k ≢ m + 2 → k ≢ n + 2 → N k ≡ L k
  pub there : (a : ℕ) → IsSome (g a) → IsSome (f a)

module _ {X : Type 0} (place : X → Place) (put : Place → X → X) (send : X → X) (m n : ℕ) (differ : m ≢ n) (law : Sends place put send m n) (f : ℕ → Option X) (L : ℕ → List ℕ) where
  apart_lists : m + 2 ≢ n + 2
  apart_lists e = differ (omega arith)

  module _ (g : ℕ → Option X) (N : ℕ → List ℕ) (s : Moving place send m n f L g N) where
    module _ (a : ℕ) (first : from (Some a) (N (m + 2)) ≡ N (m + 2)) where
      pub first_there : In a (N (m + 2))
      first_there = subst (In a) first (inl refl)

      at_place : places place g a ≡ Some (place_by (m + 2))
      at_place = (s.files.filed (m + 2) a).0 first_there

      pub first_item : (x : X) × (g a ≡ Some x) × (place x ≡ within m)
      first_item = by (g a) at_place
        where
          by : (o : Option X) → option_map place o ≡ Some (place_by (m + 2)) → (x : X) × (o ≡ Some x) × (place x ≡ within m)
          by None e = absurd (cc)
          by (Some x) e = let w : place x ≡ place_by (m + 2) = (cc) in (x, refl, w ∙ place_mem m)

      pub first_is : IsSome (g a)
      first_is = subst (λ (o : Option X). IsSome o) (sym first_item.1) refl

      pub first_only : (k : ℕ) → In a (N k) → k ≡ m + 2
      first_only = only_list N (places place g) s.files a (m + 2) at_place

      pub moving_one : (g1 : ℕ → Option X) (N1 : ℕ → List ℕ) → N1 ≡ alter (alter N (m + 2) (without a)) (n + 2) (λ xs. xs ++ a ∷ [])
          → g1 ≡ alter g a (option_map (put (place_by (n + 2)))) → Moving place send m n f L g1 N1
      moving_one g1 N1 e h = subst (λ z. Moving place send m n f L z N1) (sym h) (subst (Moving place send m n f L G) (sym e) (record {
        files = move_filed N (places place g) (places place G) s.files a (m + 2) (n + 2) at_place
            (ap (option_map place) (alter_at g a (option_map (put (place_by (n + 2))))) ∙ here_place (g a) at_place)
            (λ y d. ap (option_map place) (alter_away g a (option_map (put (place_by (n + 2)))) y d));
        sends = λ y. elim (cases_eq y a) [
          | inl same ↦ subst (λ z. option_map send (G z) ≡ option_map send (f z)) (sym same)
              (ap (option_map send) (alter_at g a (option_map (put (place_by (n + 2)))) ∙ ap (option_map (put (place_by (n + 2)))) first_item.1)
              ∙ ap (λ z. Some (send (put z first_item.0))) (place_mem n) ∙ ap (λ z. Some z) (law.moves first_item.0 first_item.2)
              ∙ sym (ap (option_map send) first_item.1) ∙ s.sends a)
          | inr d ↦ ap (option_map send) (alter_away g a (option_map (put (place_by (n + 2)))) y d) ∙ s.sends y
        ];
        lists =
            let from_m : N2 (m + 2) ≡ after a (N (m + 2)) = alter_away N0 (n + 2) more (m + 2) apart_lists ∙ alter_at N (m + 2) (without a) ∙ without_is (N (m + 2)) (after a (N (m + 2))) first in
            let to_n : N2 (n + 2) ≡ N (n + 2) ++ a ∷ [] = alter_at N0 (n + 2) more ∙ ap more (alter_away N (m + 2) (without a) (n + 2) (λ z. apart_lists (sym z))) in
            (λ i. to_n i ++ from_m i) ∙ append_assoc (N (n + 2)) (a ∷ []) (after a (N (m + 2))) ∙ ap (λ xs. N (n + 2) ++ xs) first ∙ s.lists;
        others = λ k d c. alter_away N0 (n + 2) more k c ∙ alter_away N (m + 2) (without a) k d ∙ s.others k d c;
        there = λ y i. elim (cases_eq y a) [
          | inl same ↦ subst (λ z. IsSome (f z)) (sym same) (s.there a first_is)
          | inr d ↦ s.there y (subst (λ (o : Option X). IsSome o) (alter_away g a (option_map (put (place_by (n + 2)))) y d) i)
        ];
      }))
        where
          G : ℕ → Option X
          G = alter g a (option_map (put (place_by (n + 2))))

          more : List ℕ → List ℕ
          more xs = xs ++ a ∷ []

          N0 : ℕ → List ℕ
          N0 = alter N (m + 2) (without a)

          N2 : ℕ → List ℕ
          N2 = alter N0 (n + 2) more

          without_is : (xs rest : List ℕ) → a ∷ rest ≡ xs → without a xs ≡ rest
          without_is xs rest e = subst (λ ys. without a ys ≡ rest) e (rw (eq-eqb a a refl) refl)

          here_place : (o : Option X) → option_map place o ≡ Some (place_by (m + 2)) → option_map place (option_map (put (place_by (n + 2))) o) ≡ Some (place_by (n + 2))
          here_place None e = absurd (cc)
          here_place (Some x) e = ap (λ z. Some z) (law.puts (place_by (n + 2)) x)

      pub moves_fewer : (N1 : ℕ → List ℕ) → N1 ≡ alter (alter N (m + 2) (without a)) (n + 2) (λ xs. xs ++ a ∷ []) → length (N1 (m + 2)) < length (N (m + 2))
      moves_fewer N1 e =
          let here : N1 (m + 2) ≡ without a (N (m + 2)) = ap (λ (h : ℕ → List ℕ). h (m + 2)) e
          ∙ alter_away (alter N (m + 2) (without a)) (n + 2) (λ xs. xs ++ a ∷ []) (m + 2) apart_lists ∙ alter_at N (m + 2) (without a) in
          let k = ap length here in
          let w = shorter (N (m + 2)) (after a (N (m + 2))) first in
          omega arith
        where
          shorter : (xs rest : List ℕ) → a ∷ rest ≡ xs → length (without a xs) < length xs
          shorter xs rest e = subst (λ ys. length (without a ys) < length ys) e (rw (eq-eqb a a refl) (omega arith))

    -- at the end
    module _ (none : from None (N (m + 2)) ≡ N (m + 2)) where
      pub moved_all_items : g ≡ (λ a. option_map send (f a))
      moved_all_items = λ j a. (keeps a ∙ s.sends a) j
        where
          by : (o : Option X) → (option_map place o ≡ Some (place_by (m + 2)) → ⊥) → o ≡ option_map send o
          by None d = refl
          by (Some x) d = ap (λ z. Some z) (sym (law.keeps x (λ e. d (ap (λ z. Some z) (e ∙ sym (place_mem m))))))

          keeps : (a : ℕ) → g a ≡ option_map send (g a)
          keeps a = by (g a) (λ e. subst (In a) (sym none) ((s.files.filed (m + 2) a).1 e))

sent_moves : (m n : ℕ) → m ≢ n → (P : Place) → P ≡ within m → sent m n (within n) ≡ sent m n P
sent_moves m n d P e = rw (e, apart_test n m (λ z. d (sym z)), eq-eqb m m refl) refl

-- atoms of one membrane are sent to another
pub atom_sends : (m n : ℕ) → m ≢ n → Sends (λ (x : HeapAtom). x.place) with_place (atom_sent m n) m n
atom_sends m n d = record {
  keeps = λ x e. ap (λ P. with_place P x) (sent_keeps m n x.place e);
  moves = λ x e. ap (λ P. with_place P x) (sent_moves m n d x.place e);
  puts = λ P x. refl;
}

-- and membranes
pub mem_sends : (m n : ℕ) → m ≢ n → Sends (λ (x : HeapMem). x.place) mem_with_place (mem_sent m n) m n
mem_sends m n d = record {
  keeps = λ x e. ap (λ P. mem_with_place P x) (sent_keeps m n x.place e);
  moves = λ x e. ap (λ P. mem_with_place P x) (sent_moves m n d x.place e);
  puts = λ P x. refl;
}
