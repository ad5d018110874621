-- The counts after a change of the rules or of the spare of one membrane.
use Rattle.std.proofs.Common.{◌≡◌, ℕ, ◌+◌, ◌-◌, ◌≤◌, List, length, Option, Some, subst, arith, length-append}
use Rattle.std.specs.Option.{option_map}
use Rattle.lmn_store_heap.specs.Heap.{HeapAtom, HeapMem, alter, mem_with_spare, mem_with_rules}
use Rattle.lmn_store_counts.specs.Census.{Census}
use Rattle.lmn_store_counts.specs.Counts.{HasCounts, BOUND, with_rules}
use Rattle.lmn_store_counts.proofs.CensusLemmas.{census_set, census_less}

module _ (A : ℕ → Option HeapAtom) (B : ℕ → Option HeapMem) (n m s t : ℕ) (x : HeapMem) (at : B t ≡ Some x) (c : HasCounts A B n m s) where
  -- the spare of a membrane is counted
  pub spare_less : x.spare ≤ s
  spare_less = census_less (λ (y : HeapMem). y.spare) B s t x at c.spare_census

  -- rules go to the end of a membrane's
  pub rule_counts : (ks : List ℕ) → length ks ≤ x.spare → HasCounts A (alter B t (option_map (mem_with_rules ks))) n (m + length ks) (s - length ks)
  rule_counts ks room =
      let less = census_less with_rules B m t x at c.mem_census in
      let spare = spare_less in
      let more = length-append x.rules ks in
      let low = c.bound in
      record {
        atom_census = c.atom_census;
        mem_census = subst (Census with_rules (alter B t (option_map (mem_with_rules ks))))
            (let e : m - with_rules x + with_rules (mem_with_rules ks x) ≡ m + length ks = omega (arith, less, more) in e) (census_set with_rules B m t x (mem_with_rules ks) at c.mem_census);
        spare_census = subst (Census (λ (y : HeapMem). y.spare) (alter B t (option_map (mem_with_rules ks))))
            (let e : s - x.spare + (x.spare - length ks) ≡ s - length ks = omega (arith, spare, room) in e) (census_set (λ (y : HeapMem). y.spare) B s t x (mem_with_rules ks) at c.spare_census);
        bound = omega (arith, low, spare, room);
      }

  -- a membrane gets more spare
  pub spare_counts : (j : ℕ) → x.spare ≤ j → n + m + s + (j - x.spare) ≤ BOUND → HasCounts A (alter B t (option_map (mem_with_spare j))) n m (s + (j - x.spare))
  spare_counts j more low =
      let less = census_less with_rules B m t x at c.mem_census in
      let spare = spare_less in
      record {
        atom_census = c.atom_census;
        mem_census = subst (Census with_rules (alter B t (option_map (mem_with_spare j))))
            (let e : m - with_rules x + with_rules x ≡ m = omega (arith, less) in e) (census_set with_rules B m t x (mem_with_spare j) at c.mem_census);
        spare_census = subst (Census (λ (y : HeapMem). y.spare) (alter B t (option_map (mem_with_spare j))))
            (let e : s - x.spare + j ≡ s + (j - x.spare) = omega (arith, spare, more) in e) (census_set (λ (y : HeapMem). y.spare) B s t x (mem_with_spare j) at c.spare_census);
        bound = omega (arith, low);
      }
