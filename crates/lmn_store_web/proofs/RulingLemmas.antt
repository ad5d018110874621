-- Rules and room for rules: what is read of the table, and what a call changes.
use Rattle.std.proofs.Common.{◌≡◌, ℕ, ◌+◌, ◌-◌, ◌≤◌, List, length, Option, Some, None, refl, sym, ap, subst, ◌∙◌, inl, inr, arith}
use Rattle.std.proofs.lemmas.Bool.{cases_eq}
use Rattle.std.specs.Prelude.{slice_index_or}
use Rattle.std.specs.Option.{option_map}
use Rattle.lmn_base.proofs.Lists.{some_is}
use Rattle.lmn_store_heap.specs.Heap.{Heap, HeapMem, alter, rules_by, spare_by, rules_in, spare_of, mem_with_rules, mem_with_spare, reserved, IsMem}
use Rattle.lmn_store_heap.proofs.Listing.{alter_at, alter_away}
use Rattle.lmn_store_counts.specs.RuleLists.{RuleList}
use Rattle.lmn_store_counts.specs.Counts.{HasCounts, BOUND}
use Rattle.lmn_store_counts.proofs.RuleCounts.{rule_counts, spare_counts, spare_less}
use Rattle.lmn_web.specs.Webs.{WebCell}
use Rattle.lmn_store_web.specs.Tables.{rows}
use Rattle.lmn_store_web.specs.WebHeaps.{Posts, atoms_of, mems_of, heap_by}
use Rattle.lmn_store_web.specs.WebStores.{IsStored, HasRules}
use Rattle.lmn_store_web.proofs.TableLemmas.{row_is, rules_are, spare_is, row_stored, row_mems}

module _ (p : Posts) (t : List (Option RuleList)) (w : ℕ → Option WebCell) (k : IsStored p t w) (m l : ℕ) (s : IsMem (heap_by p t w) m) (h : HasRules t w m l) where
  -- the rules and the room of a membrane are those of the row of its label
  pub numbers_are : (r : RuleList) → slice_index_or t l None ≡ Some r → rules_in (heap_by p t w) m ≡ r.numbers
  numbers_are r at = rules_are p t w k m l s h.0 ∙ ap rules_by (row_is t l r at)

  pub room_is : (r : RuleList) → slice_index_or t l None ≡ Some r → spare_of (heap_by p t w) m ≡ r.spare
  room_is r at = spare_is p t w k m l s h.0 ∙ ap spare_by (row_is t l r at)

  -- a row has room where its membrane has
  pub row_room : (n : ℕ) → n ≤ spare_of (heap_by p t w) m → (x : HeapMem) → rows t l ≡ Some x → n ≤ x.spare
  row_room n room x e = subst (λ j. n ≤ j) (spare_is p t w k m l s h.0 ∙ ap spare_by e) room

  module _ (n y z : ℕ) (c : HasCounts (atoms_of p w) (mems_of p t w) n y z) where
    -- as many rules as there is room for are no more than the room of all
    pub fewer : (j : ℕ) → j ≤ spare_of (heap_by p t w) m → j ≤ z
    fewer j room =
        let x = some_is (mems_of p t w m) s in
        let less = spare_less (atoms_of p w) (mems_of p t w) n y z m x.0 x.1 c in
        let is = ap spare_by x.1 in omega (arith, room, less, is)

    module _ (t1 : List (Option RuleList)) where
      module _ (ks : List ℕ) (same : rows t1 ≡ alter (rows t) l (option_map (mem_with_rules ks))) where
        pub more_stored : IsStored p t1 w
        more_stored = row_stored p t w k t1 m l s h.0 (mem_with_rules ks) same

        more_mems : mems_of p t1 w ≡ alter (mems_of p t w) m (option_map (mem_with_rules ks))
        more_mems = row_mems p t w k t1 m l s h.0 (mem_with_rules ks) same (λ c x. refl)

        pub more_heap : heap_by p t1 w ≡ record (heap_by p t w) { mems = alter (mems_of p t w) m (option_map (mem_with_rules ks)) }
        more_heap = λ j. record (heap_by p t w) { mems = more_mems j }

        pub more_counts : length ks ≤ spare_of (heap_by p t w) m → HasCounts (atoms_of p w) (mems_of p t1 w) n (y + length ks) (z - length ks)
        more_counts room =
            let x = some_is (mems_of p t w m) s in
            let is = ap spare_by x.1 in
            subst (λ f. HasCounts (atoms_of p w) f n (y + length ks) (z - length ks)) (sym more_mems) (rule_counts (atoms_of p w) (mems_of p t w) n y z m x.0 x.1 c ks (omega (arith, room, is)))

      module _ (j : ℕ) (same : rows t1 ≡ alter (rows t) l (option_map (mem_with_spare j))) where
        pub room_stored : IsStored p t1 w
        room_stored = row_stored p t w k t1 m l s h.0 (mem_with_spare j) same

        room_mems : mems_of p t1 w ≡ alter (mems_of p t w) m (option_map (mem_with_spare j))
        room_mems = row_mems p t w k t1 m l s h.0 (mem_with_spare j) same (λ c x. refl)

        pub room_heap : heap_by p t1 w ≡ reserved (heap_by p t w) m j
        room_heap = λ i. record (heap_by p t w) { mems = room_mems i }

        pub room_now : spare_of (heap_by p t1 w) m ≡ j
        room_now =
            let x = some_is (mems_of p t w m) s in
            ap spare_by ((λ i. room_mems i m) ∙ alter_at (mems_of p t w) m (option_map (mem_with_spare j)) ∙ ap (option_map (mem_with_spare j)) x.1)

        pub room_counts : (old : ℕ) → spare_of (heap_by p t w) m ≡ old → old ≤ j → n + y + z + (j - old) ≤ BOUND → HasCounts (atoms_of p w) (mems_of p t1 w) n y (z + (j - old))
        room_counts old is more low =
            let x = some_is (mems_of p t w m) s in
            let e : x.0.spare ≡ old = sym (ap spare_by x.1) ∙ is in
            subst (λ f. HasCounts (atoms_of p w) f n y (z + (j - old))) (sym room_mems)
            (subst (λ u. HasCounts (atoms_of p w) (alter (mems_of p t w) m (option_map (mem_with_spare j))) n y (z + (j - u))) e
            (spare_counts (atoms_of p w) (mems_of p t w) n y z m x.0 x.1 c j (omega (arith, more, e)) (omega (arith, low, e))))

-- room for as many rules as there is room for changes nothing
pub room_kept : (h : Heap) (m : ℕ) → h ≡ reserved h m (spare_of h m)
room_kept h m = λ j. record h { mems = λ x. each x j }
  where
    g : HeapMem → HeapMem
    g = mem_with_spare (spare_of h m)

    at : (o : Option HeapMem) → o ≡ option_map (mem_with_spare (spare_by o)) o
    at None = refl
    at (Some x) = refl

    each : (x : ℕ) → h.mems x ≡ alter h.mems m (option_map g) x
    each x = elim (cases_eq x m) [
      | inl e ↦ subst (λ z. h.mems z ≡ alter h.mems m (option_map g) z) (sym e) (at (h.mems m) ∙ sym (alter_at h.mems m (option_map g)))
      | inr d ↦ sym (alter_away h.mems m (option_map g) x d)
    ]
