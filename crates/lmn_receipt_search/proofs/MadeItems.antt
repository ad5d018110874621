-- What a firing leaves has at least as many items as are counted of its solid and its body.
use Rattle.std.proofs.Common.{ℕ, suc, ◌≡◌, ◌∙◌, ◌+◌, ◌==◌, ◌≤◌, ◌⊎◌, inl, inr, Bool, true, false, if◌then◌else◌, List, [], ◌∷◌, ◌++◌, Option, Some, None, IsSome, length, map, refl, sym, ap, subst, arith, length-append}
use Rattle.std.proofs.lemmas.Bool.{eqb-true}
use Rattle.std.proofs.lemmas.List.{length-map}
use Rattle.std.specs.List.{AllByRecursion}
use Rattle.lmn_base.specs.Lists.{In}
use Rattle.lmn_base.proofs.Lists.{in_either}
use Rattle.lmn_base.proofs.Numbers.{unequal_when}
use Rattle.lmn_base.specs.declared.level.CtxUse.{CtxUse}
use Rattle.lmn_base.specs.declared.level.Leaf.{Leaf}
use Rattle.lmn_base.specs.declared.level.Leaf.TheVariants as leaf
use Rattle.lmn_base.specs.declared.level.Level.{Level}
use Rattle.lmn_base.specs.declared.level.Level.TheFolds.{fold-roll-Level, ind-Level}
use Rattle.lmn_store_heap.specs.Heap.{Heap, HeapAtom, IsAtom, IsMem, atoms_in, mems_in, rules_in}
use Rattle.lmn_store_heap.specs.Solid.{solid_atom_at, solid_atoms_at}
use Rattle.lmn_store_heap.specs.Sound.{Forest, Forms, Valid, bare, mem, flat as members, item_count_in}
use Rattle.lmn_store_heap.specs.Lists.{Distinct}
use Rattle.lmn_store_heap.proofs.ListLemmas.{apart, distinct_left, distinct_right, in_left, in_right}
use Rattle.lmn_ground_parts.specs.Walks.{is_in}
use Rattle.lmn_solid_bodies.specs.Flattening.{membrane_named}
use Rattle.lmn_solid_settle.specs.Raw.{RawRegion, RawRegions, laid, laid_in, no_raw, raw, raw_and, settled_atom, size}
use Rattle.lmn_solid_settle.specs.declared.settling.RawMembrane.{RawMembrane}
use Rattle.lmn_solid_tables.specs.Flats.{heap_of, link_at}
use Rattle.lmn_solid_tables.specs.declared.flat.Flat.{Flat}
use Rattle.lmn_solid_firing.specs.Making.{HasAtoms, IsReadyFor, LeftForms, LevelMade, context_atoms, context_membranes, context_next, context_writing, contexts_next, fired_region, fired_regions, home_region, leaf_atoms, leaf_next, leaves_atoms, leaves_next, left_of, level_made, level_step, made_membranes, after_membranes, raws_append, raws_at, rules_named, typed_atoms, written, written_atoms}
use Rattle.lmn_solid_firing.specs.declared.match_.Match.{Match}
use Rattle.lmn_solid_firing.specs.declared.match_.Part.{Part}
use Rattle.lmn_solid_firing.proofs.Laying.{in_left_of, named_there}
use Rattle.lmn_solid_firing.proofs.Wholes.{atoms_there}
use Rattle.lmn_receipt_search.proofs.Sizing.{all_taken, children, formed, in_forest, items_append, one_more}
use Rattle.lmn_receipt_search.specs.Items.{AreSizes, body_size, context_size, contexts_size, kept_size, leaf_size, leaves_size, left_size, part_size, rules_size, size_at, size_step, total}

-- ---- items of a raw region

-- its atoms, membranes and rules, at every depth
abbrev mutual
  pub raw_items : RawRegion → ℕ
  raw_items (raw xs ms rs) = length xs + raw_items_in ms + length rs

  pub raw_items_in : RawRegions → ℕ
  raw_items_in no_raw = 0
  raw_items_in (raw_and m ms) = 1 + raw_items m + raw_items_in ms

append_items : (ms ns : RawRegions) → raw_items_in (raws_append ms ns) ≡ raw_items_in ms + raw_items_in ns
append_items no_raw ns = omega arith
append_items (raw_and m ms) ns = omega (arith, append_items ms ns)

-- those of the rows of a table, each row counted too
abbrev row_items : List RawMembrane → ℕ
row_items [] = 0
row_items (r ∷ rs) = 1 + length r.atoms + length r.rules + row_items rs

rows_append : (xs ys : List RawMembrane) → row_items (xs ++ ys) ≡ row_items xs + row_items ys
rows_append [] ys = omega arith
rows_append (x ∷ xs) ys = omega (arith, rows_append xs ys)

mutual
  laid_items : (around n : ℕ) (r : RawRegion) → row_items (laid around n r) ≡ 1 + raw_items r
  laid_items around n (raw xs ms rs) = omega (arith, laid_items_in n (suc n) ms)

  laid_items_in : (around n : ℕ) (ms : RawRegions) → row_items (laid_in around n ms) ≡ raw_items_in ms
  laid_items_in around n no_raw = refl
  laid_items_in around n (raw_and m ms) = omega (arith, laid_items around n m, laid_items_in around (n + size m) ms, rows_append (laid around n m) (laid_in around (n + size m) ms))

-- regions with one table have as many items
pub as_many_items : (r q : RawRegion) → laid 0 0 r ≡ laid 0 0 q → raw_items r ≡ raw_items q
as_many_items r q e = let a = laid_items 0 0 r in let b = laid_items 0 0 q in let c : row_items (laid 0 0 r) ≡ row_items (laid 0 0 q) = ap row_items e in omega (arith, a, b, c)

-- ---- what is left

-- a test that takes away
left_numbers : (taken xs : List ℕ) → left_size (λ a. 1) taken xs ≡ length (left_of taken xs)
left_numbers taken [] = refl
left_numbers taken (x ∷ xs) = by (is_in taken x) (left_numbers taken xs)
  where
    by : (b : Bool) → left_size (λ a. 1) taken xs ≡ length (left_of taken xs) → (if b then 0 else 1) + left_size (λ a. 1) taken xs ≡ length (if b then left_of taken xs else (x ∷ left_of taken xs))
    by true e = omega (arith, e)
    by false e = omega (arith, e)

module _ (flat : Flat) (valid : Valid (heap_of flat)) where
  abbrev h : Heap
  h = heap_of flat

  -- atoms that are there, written
  written_many : (f : ℕ → ℕ) (xs : List ℕ) → ((a : ℕ) → In a xs → IsAtom h a) → length (map (settled_atom f) (solid_atoms_at h (link_at flat) xs)) ≡ length xs
  written_many f xs there = length-map (solid_atoms_at h (link_at flat) xs) (settled_atom f) ∙ all_there xs there
    where
      one : (x : ℕ) (o : Option HeapAtom) → IsSome o → length (solid_atom_at (link_at flat) x o) ≡ 1
      one x None i = absurd (cc)
      one x (Some y) i = refl

      all_there : (xs : List ℕ) → ((a : ℕ) → In a xs → IsAtom h a) → length (solid_atoms_at h (link_at flat) xs) ≡ length xs
      all_there [] t = refl
      all_there (x ∷ xs) t =
          let a = length-append (solid_atom_at (link_at flat) x (h.atoms x)) (solid_atoms_at h (link_at flat) xs) in
          let r = all_there xs (λ b i. t b (inr i)) in
          let o = one x (h.atoms x) (t x (inl refl)) in
          omega (arith, a, r, o)

  -- ---- membranes with what stands in them

  forest_items : (b : Bool) (n : ℕ) (f : Forest) → raw_items_in (raws_at flat (context_writing b n) f) ≡ item_count_in h (members f)
  forest_items b n bare = refl
  forest_items b n (mem m inner rest) = omega (
    arith,
    one_more h m (members inner ++ members rest),
    items_append h (members inner) (members rest),
    forest_items b n inner,
    forest_items b n rest,
    written_many (written (context_writing b n)) (atoms_in h m) (λ a i. atoms_there h valid m a i),
  )

  module _ (t : Match) (left : ℕ → Forest) (forms : LeftForms flat t left) (ready : IsReadyFor flat t) (root : IsMem h 0) (sizes : List ℕ) (are : AreSizes h sizes) where
    context_made : (closed : Bool) (n x : ℕ) → IsMem h x → context_size h sizes t x ≤ length (written_atoms flat (context_writing closed n) (left_of t.atoms (atoms_in h x))) + raw_items_in (raws_at flat (context_writing closed n) (left x))
    context_made closed n x there =
        let a = left_numbers t.atoms (atoms_in h x) in
        let b = written_many (written (context_writing closed n)) (left_of t.atoms (atoms_in h x)) (λ a i. atoms_there h valid x a (in_left_of t.atoms (atoms_in h x) a i)) in
        let c = formed h sizes are t.membranes (mems_in h x) (left x) (λ c i. let u = children flat valid x c i in u.there) (forms x there) in
        let d = forest_items closed n (left x) in
        omega (arith, a, b, c, d)

    contexts_made : (us : List CtxUse) (next start : ℕ) → contexts_size h sizes t us ≤ length (context_atoms flat t next us) + raw_items_in (context_membranes flat t left start us)
    contexts_made [] next start = omega arith
    contexts_made (u ∷ us) next start =
        let x = membrane_named t.contexts u.name in
        let v = context_writing u.closed next in
        let w = context_writing u.closed start in
        let there = named_there h root t.contexts ready.contexts u.name in
        let a = context_made u.closed next x there in
        let rest = contexts_made us (context_next t.links u.closed next) (context_next t.links u.closed start) in
        let atoms = length-append (written_atoms flat v (left_of t.atoms (atoms_in h x))) (context_atoms flat t (context_next t.links u.closed next) us) in
        let membranes = append_items (raws_at flat w (left x)) (context_membranes flat t left (context_next t.links u.closed start) us) in
        omega (arith, a, rest, atoms, membranes, forest_items u.closed next (left x), forest_items u.closed start (left x))

    rules_made : (us : List CtxUse) → rules_size h t us ≡ length (rules_named flat t us)
    rules_made [] = refl
    rules_made (u ∷ us) = omega (arith, rules_made us, length-append (rules_in h (membrane_named t.rule_contexts u.name)) (rules_named flat t us))

    part_made : (ps : List Part) → AllByRecursion (HasAtoms h) ps → (name link next : ℕ) → part_size ps name ≤ length (typed_atoms flat ps t.integers name link next)
    part_made [] there name link next = omega arith
    part_made (p ∷ ps) there name link next = by (p.name == name) (part_made ps there.1 name link next)
      where
        by : (b : Bool) → part_size ps name ≤ length (typed_atoms flat ps t.integers name link next)
            → (if b then length p.atoms else part_size ps name) ≤ length (if b then map (settled_atom (λ y. if y == p.link then link else next + y)) (solid_atoms_at h (link_at flat) p.atoms) else typed_atoms flat ps t.integers name link next)
        by true e = let many = written_many (λ y. if y == p.link then link else next + y) p.atoms there.0 in omega (arith, many)
        by false e = e

    leaves_made : (ls : List Leaf) (next : ℕ) → leaves_size t ls ≤ length (leaves_atoms flat t next ls)
    leaves_made [] next = omega arith
    leaves_made (x ∷ xs) next = omega (arith, one x, leaves_made xs (leaf_next t x next), length-append (leaf_atoms flat t next x) (leaves_atoms flat t (leaf_next t x next) xs))
      where
        one : (x : Leaf) → leaf_size t x ≤ length (leaf_atoms flat t next x)
        one (leaf.Atom functor links pos) = omega arith
        one (leaf.Typed name o pos) = part_made t.parts ready.parts name (t.links + o.link) next

    -- ---- levels

    pub record LevelCounted (b : LevelMade) (k : ℕ) : Type 0 where
      pub all : (next : ℕ) → k ≤ length (b.atoms next) + raw_items_in (b.membranes (b.start next) (b.own next)) + length b.rules

    record MembranesCounted (bs : List LevelMade) (k : ℕ) : Type 0 where
      pub all : (next : ℕ) → k ≤ raw_items_in (made_membranes next bs)

    membrane_more : (b : LevelMade) (bs : List LevelMade) (k n : ℕ) → LevelCounted b k → MembranesCounted bs n → MembranesCounted (b ∷ bs) (k + n)
    membrane_more b bs k n u w = record { all = λ next. omega (arith, u.all next, w.all (b.after (b.own next))) }

    level_counted : (leaves : List Leaf) (cs us : List CtxUse) (bs : List LevelMade) (rs : List ℕ) (n : ℕ) → MembranesCounted bs n → LevelCounted (record {
      atoms = λ next. leaves_atoms flat t next leaves ++ context_atoms flat t (leaves_next t leaves next) cs;
      start = λ next. leaves_next t leaves next;
      own = λ next. contexts_next t.links cs (leaves_next t leaves next);
      rules = rs ++ rules_named flat t us;
      membranes = λ start next. raws_append (made_membranes next bs) (context_membranes flat t left start cs);
      after = λ next. after_membranes next bs;
    }) (leaves_size t leaves + contexts_size h sizes t cs + rules_size h t us + n)
    level_counted leaves cs us bs rs n w = record {
      all = λ next.
          let start = leaves_next t leaves next in
          omega (
            arith,
            leaves_made leaves next,
            contexts_made cs start start,
            rules_made us,
            w.all (contexts_next t.links cs start),
            length-append (leaves_atoms flat t next leaves) (context_atoms flat t start cs),
            length-append rs (rules_named flat t us),
            append_items (made_membranes (contexts_next t.links cs start) bs) (context_membranes flat t left start cs),
          );
    }

    abbrev One : Level → Type 0
    One l = LevelCounted (level_made flat t left l) (body_size h sizes t l)

    inside : (ls : List ((l : Level) × One l)) → let ms = map (λ e. e.0) ls in MembranesCounted (map (level_made flat t left) ms) (total (map (body_size h sizes t) ms))
    inside [] = record { all = λ next. omega arith }
    inside (e ∷ ls) =
        let ms = map (λ e. e.0) ls in
        membrane_more (level_made flat t left e.0) (map (level_made flat t left) ms) (body_size h sizes t e.0) (total (map (body_size h sizes t) ms)) e.1 (inside ls)

    pub body_counted : (l : Level) → One l
    body_counted = ind-Level One (λ y z is.
        let inner = subst (λ l. MembranesCounted (map (level_made flat t left) l.membranes) (total (map (body_size h sizes t) l.membranes))) is (inside z.membranes) in
        let bs = map (level_made flat t left) y.membranes in
        rw (fold-roll-Level LevelMade (level_step flat t left) y, fold-roll-Level ℕ (size_step h sizes t) y)
        (level_counted y.leaves y.contexts y.rule_contexts bs y.rules (total (map (body_size h sizes t) y.membranes)) inner))

    -- ---- the whole region

    abbrev home : (b : LevelMade) (next : ℕ) → RawRegion
    home b next = home_region flat t left b next

    home_made : (b : LevelMade) (next k : ℕ) → LevelCounted b k → k ≤ raw_items (home b next)
    home_made b next k u =
        let kept = written_atoms flat (context_writing false 0) (left_of t.atoms (atoms_in h t.home)) in
        omega (
          arith,
          u.all next,
          length-append kept (b.atoms next),
          length-append (rules_in h t.home) b.rules,
          append_items (raws_at flat (context_writing false 0) (left t.home)) (b.membranes (b.start next) (b.own next)),
        )

    one_fired : (made : RawRegion) (m : ℕ) (inner : Forest) → In t.home (m ∷ members inner) → (In t.home (members inner) → raw_items made ≤ raw_items_in (fired_regions flat t.home made inner))
        → raw_items made ≤ raw_items (fired_region flat t.home made m inner)
    one_fired made m inner i in_it = by (m == t.home) refl (λ e. elim i [ inl here ↦ absurd (unequal_when m t.home e here) | inr within ↦ in_it within ])
      where
        by : (b : Bool) → (m == t.home) ≡ b → ((m == t.home) ≡ false → raw_items made ≤ raw_items_in (fired_regions flat t.home made inner))
            → raw_items made ≤ raw_items (if b then made else raw (written_atoms flat (context_writing false 0) (atoms_in h m)) (fired_regions flat t.home made inner) (rules_in h m))
        by true e f = omega arith
        by false e f = omega (arith, f e)

    fired_counted_in : (made : RawRegion) (f : Forest) → In t.home (members f) → raw_items made ≤ raw_items_in (fired_regions flat t.home made f)
    fired_counted_in made bare i = absurd i
    fired_counted_in made (mem m inner rest) i = elim (in_either t.home (m ∷ members inner) (members rest) i) [
      | inl here ↦ omega (arith, one_fired made m inner here (λ j. fired_counted_in made inner j))
      | inr behind ↦ omega (arith, fired_counted_in made rest behind)
    ]

    fired_counted : (made : RawRegion) (m : ℕ) (inner : Forest) → In t.home (m ∷ members inner) → raw_items made ≤ raw_items (fired_region flat t.home made m inner)
    fired_counted made m inner i = one_fired made m inner i (λ j. fired_counted_in made inner j)

    -- ---- the whole solid

    ones : (xs : List ℕ) → total (map (λ a. 1) xs) ≡ length xs
    ones [] = refl
    ones (x ∷ xs) = let r = ones xs in omega (arith, r)

    -- what the head takes of the solid at most
    abbrev gone : ℕ
    gone = 1 + length t.atoms + total (map (size_at sizes) t.membranes)

    module _ (there : IsMem h t.home) where
      -- the membrane in which it fires has what the head leaves there, and what the body makes
      home_counted : (b : LevelMade) (next k : ℕ) (inner : Forest) → Forms h inner (mems_in h t.home) → LevelCounted b k → size_at sizes t.home + k ≤ raw_items (home b next) + gone
      home_counted b next k inner F u =
          let kept = written_atoms flat (context_writing false 0) (left_of t.atoms (atoms_in h t.home)) in
          let rest = context_made false 0 t.home there in
          let exact = are t.home inner there F in
          let whole = one_more h t.home (members inner) in
          let inside = in_forest h sizes are inner (mems_in h t.home) (λ c i. let v = children flat valid t.home c i in v.there) F in
          let atoms = all_taken (λ a. 1) t.atoms (atoms_in h t.home) (valid.sound.listed.atoms_once t.home) in
          let membranes = all_taken (size_at sizes) t.membranes (mems_in h t.home) (valid.sound.listed.mems_once t.home) in
          omega (
            arith,
            u.all next,
            rest,
            exact,
            whole,
            inside,
            atoms,
            membranes,
            ones (atoms_in h t.home),
            ones t.atoms,
            length-append kept (b.atoms next),
            length-append (rules_in h t.home) b.rules,
            append_items (raws_at flat (context_writing false 0) (left t.home)) (b.membranes (b.start next) (b.own next)),
          )

      abbrev Unfired : RawRegion → Forest → Type 0
      Unfired made f = raw_items_in (fired_regions flat t.home made f) ≡ item_count_in h (members f)

      -- where the membrane doesn't stand nothing changes
      unfired : (made : RawRegion) (f : Forest) → (In t.home (members f) → ⊥) → Unfired made f
      unfired made bare out = refl
      unfired made (mem m inner rest) out =
          by (m == t.home) refl (unfired made inner (λ i. out (inr (in_left t.home (members inner) (members rest) i)))) (unfired made rest (λ i. out (inr (in_right t.home (members inner) (members rest) i))))
        where
          by : (b : Bool) → (m == t.home) ≡ b → Unfired made inner → Unfired made rest
              → 1 + raw_items (if b then made else raw (written_atoms flat (context_writing false 0) (atoms_in h m)) (fired_regions flat t.home made inner) (rules_in h m)) + raw_items_in (fired_regions flat t.home made rest)
              ≡ item_count_in h (members (mem m inner rest))
          by true e p q = absurd (out (inl (eqb-true m t.home e)))
          by false e p q = omega (
            arith,
            p,
            q,
            one_more h m (members inner ++ members rest),
            items_append h (members inner) (members rest),
            written_many (written (context_writing false 0)) (atoms_in h m) (λ a i. atoms_there h valid m a i),
          )

      abbrev Fired : RawRegion → Forest → Type 0
      Fired made f = raw_items_in (fired_regions flat t.home made f) + size_at sizes t.home ≡ item_count_in h (members f) + 1 + raw_items made

      -- where it stands once, what is made stands in its place
      fired : (made : RawRegion) (f : Forest) (ms : List ℕ) → Forms h f ms → Distinct (members f) → In t.home (members f) → Fired made f
      fired made bare ms F d i = absurd i
      fired made (mem m inner rest) ms (others, e, F, G) d i =
          by (m == t.home) refl (λ j. fired made inner (mems_in h m) F (distinct_left (members inner) (members rest) d.1) j) (λ j. fired made rest others G (distinct_right (members inner) (members rest) d.1) j)
          (in_either t.home (m ∷ members inner) (members rest) i)
        where
          by : (b : Bool) → (m == t.home) ≡ b → (In t.home (members inner) → Fired made inner) → (In t.home (members rest) → Fired made rest) → In t.home (m ∷ members inner) ⊎ In t.home (members rest)
              → 1 + raw_items (if b then made else raw (written_atoms flat (context_writing false 0) (atoms_in h m)) (fired_regions flat t.home made inner) (rules_in h m)) + raw_items_in (fired_regions flat t.home made rest) + size_at sizes t.home
              ≡ item_count_in h (members (mem m inner rest)) + 1 + raw_items made
          by true e p q s =
              let same : m ≡ t.home = eqb-true m t.home e in
              let exact = are m inner (subst (IsMem h) (sym same) there) F in
              let here : size_at sizes m ≡ size_at sizes t.home = ap (size_at sizes) same in
              let others = unfired made rest (λ j. apart (m ∷ members inner) (members rest) m t.home d (inl refl) j same) in
              omega (arith, exact, here, others, items_append h (m ∷ members inner) (members rest))
          by false e p q (inl (inl here)) = absurd (unequal_when m t.home e here)
          by false e p q (inl (inr within)) = omega (
            arith,
            p within,
            unfired made rest (λ j. apart (members inner) (members rest) t.home t.home d.1 within j refl),
            one_more h m (members inner ++ members rest),
            items_append h (members inner) (members rest),
            written_many (written (context_writing false 0)) (atoms_in h m) (λ a i. atoms_there h valid m a i),
          )
          by false e p q (inr behind) = omega (
            arith,
            q behind,
            unfired made inner (λ j. apart (members inner) (members rest) t.home t.home d.1 j behind refl),
            one_more h m (members inner ++ members rest),
            items_append h (members inner) (members rest),
            written_many (written (context_writing false 0)) (atoms_in h m) (λ a i. atoms_there h valid m a i),
          )

      fired_whole : (made : RawRegion) (inner : Forest) → Forms h inner (mems_in h 0) → Distinct (0 ∷ members inner) → In t.home (0 ∷ members inner)
          → raw_items (fired_region flat t.home made 0 inner) + size_at sizes t.home ≡ size_at sizes 0 + raw_items made
      fired_whole made inner F d i = by (0 == t.home) refl (λ j. fired made inner (mems_in h 0) F d.1 j) i
        where
          by : (b : Bool) → (0 == t.home) ≡ b → (In t.home (members inner) → Fired made inner) → In t.home (0 ∷ members inner)
              → raw_items (if b then made else raw (written_atoms flat (context_writing false 0) (atoms_in h 0)) (fired_regions flat t.home made inner) (rules_in h 0)) + size_at sizes t.home ≡ size_at sizes 0 + raw_items made
          by true e p i = let same : size_at sizes 0 ≡ size_at sizes t.home = ap (size_at sizes) (eqb-true 0 t.home e) in omega (arith, same)
          by false e p (inl here) = absurd (unequal_when 0 t.home e here)
          by false e p (inr within) = omega (
            arith,
            p within,
            are 0 inner root F,
            one_more h 0 (members inner),
            written_many (written (context_writing false 0)) (atoms_in h 0) (λ a i. atoms_there h valid 0 a i),
          )

      -- what a firing leaves has as many items as are counted of the solid and the body
      pub firing_counted : (b : LevelMade) (next k : ℕ) (inside inner : Forest) → Forms h inside (mems_in h t.home) → Forms h inner (mems_in h 0) → Distinct (0 ∷ members inner) → In t.home (0 ∷ members inner) → LevelCounted b k
          → kept_size sizes t + k ≤ raw_items (fired_region flat t.home (home b next) 0 inner)
      firing_counted b next k inside inner F G d i u =
          let made = home b next in
          let least = home_made b next k u in
          let at_home = home_counted b next k inside F u in
          let within = fired_counted made 0 inner i in
          let whole = fired_whole made inner G d i in
          omega (arith, least, at_home, within, whole)
