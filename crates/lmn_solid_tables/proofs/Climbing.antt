-- The way from a membrane to those round it.
use Rattle.std.proofs.Common.{ℕ, zero, suc, ◌≡◌, ◌<◌, ◌≤◌, ◌≢◌, ◌↔◌, length, refl, sym, ap, subst, ◌∙◌, arith}
use Rattle.std.proofs.lemmas.Option.{slice_get-get_or}
use Rattle.std.specs.Prelude.{Option, Some, None, IsSome, slice_get, slice_index_or}
use Rattle.std.specs.Option.{option_and_then, option_map}
use Rattle.lmn_base.proofs.Lists.{get_below}
use Rattle.lmn_store_heap.specs.Heap.{HeapMem, IsMem, home_by, parent_of}
use Rattle.lmn_store_heap.specs.Conditions.{Above}
use Rattle.lmn_solid_tables.specs.declared.flat.Flat.{Flat}
use Rattle.lmn_solid_tables.specs.declared.tables.FlatMembrane.{FlatMembrane}
use Rattle.lmn_solid_tables.specs.Flats.{IsWithin, heap_membrane, heap_of}
use Rattle.lmn_base.proofs.Numbers.{split_at}

table_parent : (o : Option FlatMembrane) (m p : ℕ) → option_and_then (λ (x : HeapMem). home_by x.place) (option_map (heap_membrane m) o) ≡ Some p → (k : ℕ) × (m ≡ suc k) × (x : FlatMembrane) × (o ≡ Some x) × (x.parent ≡ p)
table_parent None m p e = absurd (cc e)
table_parent (Some x) zero p e = absurd (cc e)
table_parent (Some x) (suc k) p e = (k, refl, x, refl, cc e)

in_table : (o : Option FlatMembrane) (m : ℕ) → IsSome (option_map (heap_membrane m) o) → (x : FlatMembrane) × (o ≡ Some x)
in_table None m i = absurd (cc i)
in_table (Some x) m i = (x, refl)

module _ (flat : Flat) where
  -- a membrane stands in one with a smaller number
  pub parent_less : (m p : ℕ) → parent_of (heap_of flat) m ≡ Some p → p < m
  parent_less m p e =
      let r = table_parent (slice_get flat.membranes.items m) m p e in
      let l = flat.rises r.0 r.2 (ap (slice_get flat.membranes.items) (sym r.1) ∙ r.3) in
      omega (arith, l, r.1, r.4)

  -- the membrane round one by the table
  pub parent_read : (k : ℕ) (x : FlatMembrane) → slice_get flat.membranes.items (suc k) ≡ Some x → parent_of (heap_of flat) (suc k) ≡ Some x.parent
  parent_read k x e = ap (λ o. option_and_then (λ (x : HeapMem). home_by x.place) (option_map (heap_membrane (suc k)) o)) e

  -- what stands round a membrane has no greater number
  pub above_at_most : (k m n : ℕ) → Above (heap_of flat) k m n → m ≤ n
  above_at_most zero m n a = omega (arith, a)
  above_at_most (suc k) m n a =
      let l = parent_less n a.0 a.1 in
      let b = above_at_most k m a.0 a.2 in
      omega (arith, l, b)

  -- a membrane of the heap stands in the table
  pub mem_in_table : (m : ℕ) → IsMem (heap_of flat) m → m < length flat.membranes.items
  mem_in_table m i = let r = in_table (slice_get flat.membranes.items m) m i in get_below flat.membranes.items m r.0 r.1

  -- one that stands in another by way of the membrane round it
  pub within_next : (outer n p : ℕ) → outer ≢ n → parent_of (heap_of flat) n ≡ Some p → IsWithin (heap_of flat) n outer ↔ IsWithin (heap_of flat) p outer
  within_next outer n p d e = (
    (λ w. forth w.0 w.1),
    (λ w. (suc w.0, (p, e, w.1))),
  )
    where
      forth : (k : ℕ) → Above (heap_of flat) k outer n → IsWithin (heap_of flat) p outer
      forth zero a = absurd (d (sym a))
      forth (suc k) a = let same : a.0 ≡ p = cc (a.1, e) in (k, subst (Above (heap_of flat) k outer) same a.2)

  module _ (outer at : ℕ) (x : FlatMembrane) (past : outer < at) (below : at < length flat.membranes.items) (is : x ≡ slice_index_or flat.membranes.items at x) where
    climbs : (n : ℕ) → at ≡ suc n → parent_of (heap_of flat) at ≡ Some x.parent
    climbs n e = subst (λ m. parent_of (heap_of flat) m ≡ Some x.parent) (sym e) (parent_read n x (ap (slice_get flat.membranes.items) (sym e) ∙ slice_get-get_or flat.membranes.items at x below ∙ ap Some (sym is)))

    -- the membrane round one that isn't the outermost
    pub round_it : parent_of (heap_of flat) at ≡ Some x.parent
    round_it = let s = split_at 1 at (omega (arith, past)) in climbs s.0 (omega (arith, s.1))

    -- a step to the membrane round one
    pub climb_less : x.parent < at
    climb_less = parent_less at x.parent round_it

    pub climb : (start : ℕ) → IsWithin (heap_of flat) start outer ↔ IsWithin (heap_of flat) at outer → IsWithin (heap_of flat) start outer ↔ IsWithin (heap_of flat) x.parent outer
    climb start w =
        let n = within_next outer at x.parent (λ e. omega (arith, e, past)) round_it in
        ((λ a. n.0 (w.0 a)), (λ a. w.1 (n.1 a)))
