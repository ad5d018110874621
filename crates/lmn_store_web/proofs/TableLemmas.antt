-- The table of rules: what the membranes of a heap read of it, and what a change of it changes.
use Rattle.std.proofs.Common.{◌≡◌, ◌≢◌, ℕ, ◌<◌, ◌==◌, Bool, true, false, cond, zero, suc, List, [], ◌∷◌, length, map, Option, Some, None, IsSome, is_some, refl, sym, ap, subst, ◌∙◌, inl, inr, arith}
use Rattle.std.specs.Prelude.{◌||◌, slice_index_or, unwrap_or, count_by}
use Rattle.std.specs.Option.{option_map, option_and_then}
use Rattle.std.proofs.lemmas.Bool.{cases_eq, eq-eqb}
use Rattle.lmn_store_heap.specs.Heap.{HeapMem, alter, rules_by, spare_by, rules_in, spare_of, IsMem}
use Rattle.lmn_base.specs.Lists.{In}
use Rattle.lmn_base.proofs.Common.{of_map}
use Rattle.lmn_base.proofs.Lists.{some_is, length_mapped}
use Rattle.lmn_store_heap.specs.Sound.{Sound, Forest, IsTree, flat}
use Rattle.lmn_store_heap.proofs.Common.{in_map}
use Rattle.lmn_store_heap.proofs.Listing.{alter_at, alter_away}
use Rattle.lmn_store_heap.proofs.Trees.{is_mem}
use Rattle.lmn_store_counts.proofs.SlotLemmas.{slots_taken}
use Rattle.lmn_store_counts.specs.RuleLists.{RuleList}
use Rattle.lmn_web.specs.declared.kind.CellKind.{CellKind}
use Rattle.lmn_web.specs.declared.kind.CellKind.TheVariants.{Atom, Membrane}
use Rattle.lmn_web.specs.Webs.{WebCell, web_kind, kind_at, web_label}
use Rattle.lmn_store_web.specs.WebHeaps.{Posts, no_rules, rules_at, place_at, atom_by, if_atom, if_membrane, atoms_of, mem_by, is_post, mems_of, heap_by}
use Rattle.lmn_store_web.specs.WebStores.{IsStored, HasRules}
use Rattle.lmn_store_web.specs.Tables.{rows, with_these}
use Rattle.lmn_store_web.proofs.ReadLemmas.{mem_there, mem_is, mems_are}
use Rattle.lmn_web.proofs.RelistLemmas.{distinct_map}

-- What is there, and what isn't

-- what has a label is there
pub labelled_there : (o : Option WebCell) (i : ℕ) → option_map (λ (d : WebCell). d.label) o ≡ Some i → IsSome o
labelled_there None i e = absurd (cc)
labelled_there (Some d) i e = refl

-- a membrane is no atom
pub atoms_none : (p : Posts) (w : ℕ → Option WebCell) (x : ℕ) → kind_at w x ≡ Membrane → atoms_of p w x ≡ None
atoms_none p w x e = by (w x) e
  where
    by : (o : Option WebCell) → web_kind o ≡ Membrane → option_and_then (λ (c : WebCell). if_atom c.kind (atom_by p c)) o ≡ None
    by None e = refl
    by (Some c) e = ap (λ k. if_atom k (atom_by p c)) e

-- an atom is no membrane
pub mems_none : (p : Posts) (t : List (Option RuleList)) (w : ℕ → Option WebCell) (x : ℕ) → kind_at w x ≡ Atom → mems_of p t w x ≡ None
mems_none p t w x e = post (is_post p x)
  where
    by : (o : Option WebCell) → web_kind o ≡ Atom → option_and_then (λ (c : WebCell). if_membrane c.kind (mem_by p t c)) o ≡ None
    by None e = refl
    by (Some c) e = ap (λ k. if_membrane k (mem_by p t c)) e

    post : (b : Bool) → cond b None (option_and_then (λ (c : WebCell). if_membrane c.kind (mem_by p t c)) (w x)) ≡ None
    post true = refl
    post false = by (w x) e

-- what holds what waits or is gone is no membrane of the heap
pub mems_post : (p : Posts) (t : List (Option RuleList)) (w : ℕ → Option WebCell) (x : ℕ) → is_post p x ≡ true → mems_of p t w x ≡ None
mems_post p t w x e = ap (λ b. cond b None (option_and_then (λ (c : WebCell). if_membrane c.kind (mem_by p t c)) (w x))) e

-- in the lists of posts stands what waits,
pub post_waits : (p : Posts) (x : ℕ) → x ≡ p.waiting → is_post p x ≡ true
post_waits p x e = rw (eq-eqb x p.waiting e) refl

-- and what is gone
pub post_goes : (p : Posts) (x : ℕ) → x ≡ p.gone → is_post p x ≡ true
post_goes p x e = by (x == p.waiting)
  where
    by : (b : Bool) → (b || (x == p.gone)) ≡ true
    by true = refl
    by false = eq-eqb x p.gone e

-- a membrane with the same rules is the same
pub mems_with : (p : Posts) (t t1 : List (Option RuleList)) (w : ℕ → Option WebCell) (x : ℕ) → ((c : WebCell) → w x ≡ Some c → IsSome (mems_of p t w x) → rules_at t1 c.label ≡ rules_at t c.label)
    → mems_of p t1 w x ≡ mems_of p t w x
mems_with p t t1 w x h = post (is_post p x) refl
  where
    kinds : (k : CellKind) (c : WebCell) → (IsSome (if_membrane k (mem_by p t c)) → rules_at t1 c.label ≡ rules_at t c.label) → if_membrane k (mem_by p t1 c) ≡ if_membrane k (mem_by p t c)
    kinds Atom c e = refl
    kinds Membrane c e = ap (λ (r : RuleList). Some (record (mem_by p t c) { rules = r.numbers; spare = r.spare })) (e refl)

    by : (o : Option WebCell) → w x ≡ o → (IsSome (option_and_then (λ (c : WebCell). if_membrane c.kind (mem_by p t c)) o) → IsSome (mems_of p t w x))
        → option_and_then (λ (c : WebCell). if_membrane c.kind (mem_by p t1 c)) o ≡ option_and_then (λ (c : WebCell). if_membrane c.kind (mem_by p t c)) o
    by None e s = refl
    by (Some c) e s = kinds c.kind c (λ i. h c e (s i))

    post : (b : Bool) → is_post p x ≡ b → cond b None (option_and_then (λ (c : WebCell). if_membrane c.kind (mem_by p t1 c)) (w x)) ≡ cond b None (option_and_then (λ (c : WebCell). if_membrane c.kind (mem_by p t c)) (w x))
    post true e = refl
    post false e = by (w x) refl (λ s. subst (λ (o : Option HeapMem). IsSome o) (sym (ap (λ b. cond b None (option_and_then (λ (c : WebCell). if_membrane c.kind (mem_by p t c)) (w x))) e)) s)

-- Rows

-- rules are those of their row
row_rules : (t : List (Option RuleList)) (i : ℕ) → (rules_at t i).numbers ≡ rules_by (rows t i)
row_rules t i = by (slice_index_or t i None)
  where
    by : (o : Option RuleList) → (unwrap_or o no_rules).numbers ≡ rules_by (option_map with_these o)
    by None = refl
    by (Some r) = refl

row_spare : (t : List (Option RuleList)) (i : ℕ) → (rules_at t i).spare ≡ spare_by (rows t i)
row_spare t i = by (slice_index_or t i None)
  where
    by : (o : Option RuleList) → (unwrap_or o no_rules).spare ≡ spare_by (option_map with_these o)
    by None = refl
    by (Some r) = refl

-- there is a row where there are rules
pub row_there : (t : List (Option RuleList)) (i : ℕ) → is_some (rows t i) ≡ is_some (slice_index_or t i None)
row_there t i = by (slice_index_or t i None)
  where
    by : (o : Option RuleList) → is_some (option_map with_these o) ≡ is_some o
    by None = refl
    by (Some r) = refl

-- the row of rules
pub row_is : (t : List (Option RuleList)) (i : ℕ) (r : RuleList) → slice_index_or t i None ≡ Some r → rows t i ≡ Some (with_these r)
row_is t i r e = ap (λ (o : Option RuleList). option_map with_these o) e

-- equal rows are of equal rules
rules_of_rows : (t t1 : List (Option RuleList)) (i : ℕ) → rows t1 i ≡ rows t i → rules_at t1 i ≡ rules_at t i
rules_of_rows t t1 i e = λ j. record { numbers = (row_rules t1 i ∙ ap rules_by e ∙ sym (row_rules t i)) j; spare = (row_spare t1 i ∙ ap spare_by e ∙ sym (row_spare t i)) j }

-- a place at which there are rules is one of the table
pub row_below : (t : List (Option RuleList)) (i : ℕ) → IsSome (slice_index_or t i None) → i < length t
row_below [] i s = absurd (cc)
row_below (x ∷ xs) zero s = omega arith
row_below (x ∷ xs) (suc i) s = let r = row_below xs i s in omega (arith, r)

-- a cell of a membrane with the rules of x
abbrev pub in_cell : Posts → WebCell → HeapMem → HeapMem
in_cell p c x = record { atoms = c.atoms; mems = c.membranes; rules = x.rules; spare = x.spare; mark = slice_index_or c.marks 0 0; place = place_at p c.home }

by_row : (p : Posts) (t : List (Option RuleList)) (c : WebCell) (x : HeapMem) → rows t c.label ≡ Some x → mem_by p t c ≡ in_cell p c x
by_row p t c x e = λ j. record (in_cell p c x) { rules = (row_rules t c.label ∙ ap rules_by e) j; spare = (row_spare t c.label ∙ ap spare_by e) j }

module _ (p : Posts) (t : List (Option RuleList)) (w : ℕ → Option WebCell) (k : IsStored p t w) where
  -- a membrane of the heap has the rules of its label
  pub has_rules : (m l : ℕ) → IsMem (heap_by p t w) m → web_label w m ≡ Some l → HasRules t w m l
  has_rules m l s e =
      let i = mem_there p t w m s in
      let r = k.rules m i.1 i.2 i.3 in
      let same : Some r.0 ≡ Some l = sym r.1.0 ∙ e in
      let j : r.0 ≡ l = (cc) in
      (e, subst (λ z. IsSome (slice_index_or t z None)) j r.1.1)

  module _ (m l : ℕ) (s : IsMem (heap_by p t w) m) (e : web_label w m ≡ Some l) where
    pub rules_are : rules_in (heap_by p t w) m ≡ rules_by (rows t l)
    rules_are = let i = mem_there p t w m s in ap (λ (o : Option HeapMem). rules_by o) (mems_are p t w m i.1 i.2 i.3) ∙ by (w m) e i.0
      where
        by : (o : Option WebCell) → option_map (λ c. c.label) o ≡ Some l → IsSome o → rules_by (option_map (mem_by p t) o) ≡ rules_by (rows t l)
        by None e s = absurd (cc)
        by (Some c) e s = let j : c.label ≡ l = (cc) in row_rules t c.label ∙ ap (λ z. rules_by (rows t z)) j

    pub spare_is : spare_of (heap_by p t w) m ≡ spare_by (rows t l)
    spare_is = let i = mem_there p t w m s in ap (λ (o : Option HeapMem). spare_by o) (mems_are p t w m i.1 i.2 i.3) ∙ by (w m) e i.0
      where
        by : (o : Option WebCell) → option_map (λ c. c.label) o ≡ Some l → IsSome o → spare_by (option_map (mem_by p t) o) ≡ spare_by (rows t l)
        by None e s = absurd (cc)
        by (Some c) e s = let j : c.label ≡ l = (cc) in row_spare t c.label ∙ ap (λ z. spare_by (rows t z)) j

  -- Rows that stay, and none that come
  pub stored_table : (t1 : List (Option RuleList)) → ((i : ℕ) → is_some (slice_index_or t1 i None) ≡ is_some (slice_index_or t i None)) → IsStored p t1 w
  stored_table t1 same = record {
    root = k.root;
    waiting = k.waiting;
    gone = k.gone;
    root_waits = k.root_waits;
    root_goes = k.root_goes;
    apart = k.apart;
    homeless = k.homeless;
    portless = k.portless;
    labels = k.labels;
    rules = λ m e d g. let r = k.rules m e d g in (r.0, (r.1.0, same r.0 ∙ r.1.1));
    own_rules = λ m n i s u e f. k.own_rules m n i (mem_was m s) (mem_was n u) e f;
    used = λ i s. let u = k.used i (sym (same i) ∙ s) in (u.0, mem_stays u.0 u.1, u.2);
    files = k.files;
    bare = k.bare;
    plain = k.plain;
    lent = k.lent;
  }
    where
      mem_was : (m : ℕ) → IsSome (mems_of p t1 w m) → IsSome (mems_of p t w m)
      mem_was m s = let i = mem_there p t1 w m s in mem_is p t w m i.1 i.2 i.3 i.0

      mem_stays : (m : ℕ) → IsSome (mems_of p t w m) → IsSome (mems_of p t1 w m)
      mem_stays m s = let i = mem_there p t w m s in mem_is p t1 w m i.1 i.2 i.3 i.0

  -- One row changes

  module _ (t1 : List (Option RuleList)) (m l : ℕ) (s : IsMem (heap_by p t w) m) (e : web_label w m ≡ Some l) (g : HeapMem → HeapMem) (same : rows t1 ≡ alter (rows t) l (option_map g)) where
    row_at : rows t1 l ≡ option_map g (rows t l)
    row_at = (λ j. same j l) ∙ alter_at (rows t) l (option_map g)

    row_away : (i : ℕ) → i ≢ l → rows t1 i ≡ rows t i
    row_away i d = (λ j. same j i) ∙ alter_away (rows t) l (option_map g) i d

    pub row_stored : IsStored p t1 w
    row_stored = stored_table t1 (λ i. sym (row_there t1 i) ∙ there i ∙ row_there t i)
      where
        some_map : (o : Option HeapMem) → is_some (option_map g o) ≡ is_some o
        some_map None = refl
        some_map (Some x) = refl

        there : (i : ℕ) → is_some (rows t1 i) ≡ is_some (rows t i)
        there i = elim (cases_eq i l) [
          | inl q ↦ subst (λ z. is_some (rows t1 z) ≡ is_some (rows t z)) (sym q) (ap (λ (o : Option HeapMem). is_some o) row_at ∙ some_map (rows t l))
          | inr d ↦ ap (λ (o : Option HeapMem). is_some o) (row_away i d)
        ]

    pub row_mems : ((c : WebCell) (x : HeapMem) → in_cell p c (g x) ≡ g (in_cell p c x)) → mems_of p t1 w ≡ alter (mems_of p t w) m (option_map g)
    row_mems fits = λ j x. each x j
      where
        row : (x : HeapMem) × (rows t l ≡ Some x)
        row = some_is (rows t l) (row_there t l ∙ (has_rules m l s e).1)

        at : (o : Option WebCell) → option_map (λ c. c.label) o ≡ Some l → option_map (mem_by p t1) o ≡ option_map g (option_map (mem_by p t) o)
        at None e = refl
        at (Some c) e = let j : c.label ≡ l = (cc) in
            ap Some (by_row p t1 c (g row.0) (ap (rows t1) j ∙ row_at ∙ ap (option_map g) row.1) ∙ fits c row.0 ∙ ap g (sym (by_row p t c row.0 (ap (rows t) j ∙ row.1))))

        each : (x : ℕ) → mems_of p t1 w x ≡ alter (mems_of p t w) m (option_map g) x
        each x = elim (cases_eq x m) [
          | inl q ↦ (let i = mem_there p t w m s in subst (λ z. mems_of p t1 w z ≡ alter (mems_of p t w) m (option_map g) z) (sym q)
              (mems_are p t1 w m i.1 i.2 i.3 ∙ at (w m) e ∙ sym (ap (option_map g) (mems_are p t w m i.1 i.2 i.3)) ∙ sym (alter_at (mems_of p t w) m (option_map g))))
          | inr d ↦ mems_with p t t1 w x (λ c f u. rules_of_rows t t1 c.label (row_away c.label (λ q. d (k.own_rules x m l u s (ap (λ (o : Option WebCell). option_map (λ c. c.label) o) f ∙ ap Some q) e))))
              ∙ sym (alter_away (mems_of p t w) m (option_map g) x d)
        ]

  -- The membranes of the tree are as many as there are rows.
  pub mems_counted : Sound (heap_by p t w) → (f : Forest) → IsTree (heap_by p t w) f → count_by is_some t ≡ length (flat f)
  mems_counted sound f r = slots_taken t (map label (flat f)) (distinct_map label (flat f) r.once apart) (λ n. (in_row n, row_in n)) ∙ length_mapped label (flat f)
    where
      label : ℕ → ℕ
      label m = unwrap_or (web_label w m) 0

      label_is : (m l : ℕ) → web_label w m ≡ Some l → label m ≡ l
      label_is m l e = ap (λ (o : Option ℕ). unwrap_or o 0) e

      of_mem : (m : ℕ) → In m (flat f) → HasRules t w m (label m)
      of_mem m i =
          let s = is_mem (heap_by p t w) sound f r m i in
          let j = mem_there p t w m s in
          let h = k.rules m j.1 j.2 j.3 in
          subst (λ l. HasRules t w m l) (sym (label_is m h.0 h.1.0)) h.1

      apart : (a b : ℕ) → In a (flat f) → In b (flat f) → label a ≡ label b → a ≡ b
      apart a b i j e = k.own_rules a b (label b) (is_mem (heap_by p t w) sound f r a i) (is_mem (heap_by p t w) sound f r b j) ((of_mem a i).0 ∙ ap Some e) (of_mem b j).0

      in_row : (n : ℕ) → In n (map label (flat f)) → IsSome (slice_index_or t n None)
      in_row n i = let u = of_map label n (flat f) i in subst (λ l. IsSome (slice_index_or t l None)) u.2 (of_mem u.0 u.1).1

      row_in : (n : ℕ) → IsSome (slice_index_or t n None) → In n (map label (flat f))
      row_in n s = let u = k.used n s in subst (λ l. In l (map label (flat f))) (label_is u.0 n u.2) (in_map label u.0 (flat f) (r.all u.0 u.1))
