-- What holds of each rule and of the functor of each atom of the solid and of a body holds of those that a firing makes.
use Rattle.std.proofs.Common.{ℕ, ℤ, ◌≡◌, ◌+◌, Bool, true, false, cond, List, [], ◌∷◌, ◌++◌, map, Option, Some, None, inl, inr, refl, sym, subst}
use Rattle.std.specs.Prelude.{◌==◌}
use Rattle.std.specs.List.{AllByRecursion, flat_map}
use Rattle.lmn_base.proofs.Lists.{all_append, all_left, all_right, map_append}
use Rattle.lmn_base.specs.Levels.{leaves_of, rules_of}
use Rattle.lmn_base.specs.Lists.{In}
use Rattle.lmn_base.specs.Names.{label_names, leaf_names}
use Rattle.lmn_base.specs.Solids.{connector}
use Rattle.lmn_base.specs.declared.functor.Functor.{Functor}
use Rattle.lmn_base.specs.declared.level.CtxUse.{CtxUse}
use Rattle.lmn_base.specs.declared.level.Leaf.{Leaf}
use Rattle.lmn_base.specs.declared.level.Leaf.TheVariants as leaf
use Rattle.lmn_base.specs.declared.level.Level.{Level}
use Rattle.lmn_base.specs.declared.level.Level.TheFolds.{fold-roll-Level, ind-Level}
use Rattle.lmn_base.specs.declared.solid.SolidAtom.{SolidAtom}
use Rattle.lmn_solid_bodies.specs.Flattening.{membrane_named}
use Rattle.lmn_solid_bodies.specs.Running.{integer_functor}
use Rattle.lmn_store_heap.specs.Functors.{same_functor}
use Rattle.lmn_store_heap.specs.Heap.{HeapAtom, atoms_in, rules_in}
use Rattle.lmn_store_heap.specs.Solid.{solid_atom_at, solid_atoms_at}
use Rattle.lmn_store_heap.specs.Sound.{Forest, bare, mem}
use Rattle.lmn_solid_settle.specs.Raw.{RawRegion, RawRegions, no_raw, raw, raw_and, raw_atoms, raw_atoms_in, settled_atom}
use Rattle.lmn_solid_tables.specs.Flats.{heap_of, link_at}
use Rattle.lmn_solid_tables.specs.declared.flat.Flat.{Flat}
use Rattle.lmn_solid_firing.specs.declared.match_.Match.{Match}
use Rattle.lmn_solid_firing.specs.declared.match_.Part.{Part}
use Rattle.lmn_solid_firing.specs.declared.writing.Writing.{Writing}
use Rattle.lmn_solid_firing.specs.declared.writing.Writing.TheVariants.{Rooted as Root, Shifted}
use Rattle.lmn_solid_firing.specs.Making.{LevelMade, body_atom, context_atoms, context_membranes, context_next, context_writing, contexts_next, fired_region, fired_regions, home_region, integer_atoms, leaf_next, left_of, leaves_atoms, leaves_next, level_made, level_step, made_membranes, after_membranes, raws_append, raws_at, rules_named, typed_atoms, written, written_atoms}
use Rattle.lmn_solid_firing.specs.Spelled.{raw_rules, raw_rules_in}

-- a leaf of a body with such a functor
abbrev pub LeafKnown : (Functor → Type 0) → Leaf → Type 0
LeafKnown Q (leaf.Atom functor links pos) = Q functor
LeafKnown Q (leaf.Typed name o pos) = Unit {0}

-- the names of leaves are known where all their names are
pub leaves_named : (N : ℕ → Type 0) (ls : List Leaf) → AllByRecursion N (flat_map leaf_names ls) → AllByRecursion (LeafKnown (λ g. AllByRecursion N (label_names g.label))) ls
leaves_named N [] f = tt
leaves_named N (leaf.Atom g os pos ∷ ls) f = (all_left N (label_names g.label) (flat_map leaf_names ls) f, leaves_named N ls (all_right N (label_names g.label) (flat_map leaf_names ls) f))
leaves_named N (leaf.Typed name o pos ∷ ls) f = (tt, leaves_named N ls f.1)

pub atoms_named : (N : ℕ → Type 0) (xs : List SolidAtom) → AllByRecursion (λ (a : SolidAtom). AllByRecursion N (label_names a.functor.label)) xs → AllByRecursion N (flat_map (λ a. label_names a.functor.label) xs)
atoms_named N [] f = tt
atoms_named N (x ∷ xs) f = all_append N (label_names x.functor.label) (flat_map (λ a. label_names a.functor.label) xs) f.0 (atoms_named N xs f.1)

module _ (P : ℕ → Type 0) (Q : Functor → Type 0) (flat : Flat) (t : Match) (left : ℕ → Forest) (rules : (m k : ℕ) → In k (rules_in (heap_of flat) m) → P k)
    (atoms : (a : ℕ) (x : HeapAtom) → (heap_of flat).atoms a ≡ Some x → Q x.functor) (integer : (z : ℤ) → Q (integer_functor z)) where
  abbrev Of : SolidAtom → Type 0
  Of a = Q a.functor

  abbrev pub Known : RawRegion → Type 0
  Known r = AllByRecursion (λ (a : SolidAtom). Q a.functor) (raw_atoms r) × AllByRecursion P (raw_rules r)

  abbrev pub KnownIn : RawRegions → Type 0
  KnownIn ms = AllByRecursion (λ (a : SolidAtom). Q a.functor) (raw_atoms_in ms) × AllByRecursion P (raw_rules_in ms)

  -- ---- parts of regions

  region_known : (xs : List SolidAtom) (ms : RawRegions) (rs : List ℕ) → AllByRecursion Of xs → KnownIn ms → AllByRecursion P rs → Known (raw xs ms rs)
  region_known xs ms rs a m r = (all_append Of xs (raw_atoms_in ms) a m.0, all_append P rs (raw_rules_in ms) r m.1)

  and_known : (m : RawRegion) (ms : RawRegions) → Known m → KnownIn ms → KnownIn (raw_and m ms)
  and_known m ms a b = (all_append Of (raw_atoms m) (raw_atoms_in ms) a.0 b.0, all_append P (raw_rules m) (raw_rules_in ms) a.1 b.1)

  append_known : (ms ns : RawRegions) → KnownIn ms → KnownIn ns → KnownIn (raws_append ms ns)
  append_known no_raw ns f g = g
  append_known (raw_and m ms) ns f g =
      and_known m (raws_append ms ns) (all_left Of (raw_atoms m) (raw_atoms_in ms) f.0, all_left P (raw_rules m) (raw_rules_in ms) f.1)
      (append_known ms ns (all_right Of (raw_atoms m) (raw_atoms_in ms) f.0, all_right P (raw_rules m) (raw_rules_in ms) f.1) g)

  -- ---- what stands in the solid

  each : (ks : List ℕ) → ((k : ℕ) → In k ks → P k) → AllByRecursion P ks
  each [] f = tt
  each (k ∷ ks) f = (f k (inl refl), each ks (λ j i. f j (inr i)))

  rules_known : (m : ℕ) → AllByRecursion P (rules_in (heap_of flat) m)
  rules_known m = each (rules_in (heap_of flat) m) (rules m)

  one_known : (w : Writing) (a : ℕ) (o : Option HeapAtom) → (heap_of flat).atoms a ≡ o → AllByRecursion Of (map (settled_atom (written w)) (solid_atom_at (link_at flat) a o))
  one_known w a None e = tt
  one_known w a (Some x) e = (atoms a x e, tt)

  written_known : (w : Writing) (xs : List ℕ) → AllByRecursion Of (written_atoms flat w xs)
  written_known w [] = tt
  written_known w (a ∷ xs) =
      let here = solid_atom_at (link_at flat) a ((heap_of flat).atoms a) in
      let rest = solid_atoms_at (heap_of flat) (link_at flat) xs in
      subst (AllByRecursion Of) (sym (map_append (settled_atom (written w)) here rest))
      (all_append Of (map (settled_atom (written w)) here) (map (settled_atom (written w)) rest) (one_known w a ((heap_of flat).atoms a) refl) (written_known w xs))

  forest_known : (w : Writing) (f : Forest) → KnownIn (raws_at flat w f)
  forest_known w bare = (tt, tt)
  forest_known w (mem m inner f) =
      let xs = written_atoms flat w (atoms_in (heap_of flat) m) in
      let ms = raws_at flat w inner in
      let rs = rules_in (heap_of flat) m in
      and_known (raw xs ms rs) (raws_at flat w f) (region_known xs ms rs (written_known w (atoms_in (heap_of flat) m)) (forest_known w inner) (rules_known m)) (forest_known w f)

  -- ---- leaves

  atom_known : (b : Bool) (g : Functor) (zs : List ℕ) → Q g → AllByRecursion Of (body_atom b g zs)
  atom_known true g [] q = (q, tt)
  atom_known true g (x ∷ []) q = (q, tt)
  atom_known true g (x ∷ (y ∷ [])) q = tt
  atom_known true g (x ∷ (y ∷ (z ∷ zs))) q = (q, tt)
  atom_known false g zs q = (q, tt)

  integer_known : (es : List (ℕ × ℤ)) (name x : ℕ) → AllByRecursion Of (integer_atoms es name x)
  integer_known [] name x = tt
  integer_known (e ∷ es) name x = by (e.0 == name) (integer_known es name x)
    where
      by : (b : Bool) → AllByRecursion Of (integer_atoms es name x) → AllByRecursion Of (cond b ((record { functor = integer_functor e.1; links = x ∷ [] }) ∷ []) (integer_atoms es name x))
      by true f = (integer e.1, tt)
      by false f = f

  typed_known : (ps : List Part) (name x next : ℕ) → AllByRecursion Of (typed_atoms flat ps t.integers name x next)
  typed_known [] name x next = integer_known t.integers name x
  typed_known (p ∷ ps) name x next = by (p.name == name) (typed_known ps name x next) (written_known (Root p.link x next) p.atoms)
    where
      by : (b : Bool) → AllByRecursion Of (typed_atoms flat ps t.integers name x next) → AllByRecursion Of (written_atoms flat (Root p.link x next) p.atoms) →
          AllByRecursion Of (cond b (written_atoms flat (Root p.link x next) p.atoms) (typed_atoms flat ps t.integers name x next))
      by true f g = g
      by false f g = f

  leaves_known : (ls : List Leaf) (next : ℕ) → AllByRecursion (LeafKnown Q) ls → AllByRecursion Of (leaves_atoms flat t next ls)
  leaves_known [] next f = tt
  leaves_known (leaf.Atom g os pos ∷ ls) next f =
      let zs = map (λ o. t.links + o.link) os in
      all_append Of (body_atom (same_functor g connector) g zs) (leaves_atoms flat t next ls) (atom_known (same_functor g connector) g zs f.0) (leaves_known ls next f.1)
  leaves_known (leaf.Typed name o pos ∷ ls) next f =
      let after = leaf_next t (leaf.Typed name o pos) next in
      all_append Of (typed_atoms flat t.parts t.integers name (t.links + o.link) next) (leaves_atoms flat t after ls) (typed_known t.parts name (t.links + o.link) next) (leaves_known ls after f.1)

  -- ---- contexts

  contexts_known : (us : List CtxUse) (next : ℕ) → AllByRecursion Of (context_atoms flat t next us) × KnownIn (context_membranes flat t left next us)
  contexts_known [] next = (tt, (tt, tt))
  contexts_known (u ∷ us) next =
      let w = context_writing u.closed next in
      let x = membrane_named t.contexts u.name in
      let after = context_next t.links u.closed next in
      let rest = contexts_known us after in (
        all_append Of (written_atoms flat w (left_of t.atoms (atoms_in (heap_of flat) x))) (context_atoms flat t after us) (written_known w (left_of t.atoms (atoms_in (heap_of flat) x))) rest.0,
        append_known (raws_at flat w (left x)) (context_membranes flat t left after us) (forest_known w (left x)) rest.1,
      )

  named_known : (us : List CtxUse) → AllByRecursion P (rules_named flat t us)
  named_known [] = tt
  named_known (u ∷ us) = let x = membrane_named t.rule_contexts u.name in all_append P (rules_in (heap_of flat) x) (rules_named flat t us) (rules_known x) (named_known us)

  -- ---- levels

  pub record LevelKnown (b : LevelMade) : Type 0 where
    pub atoms_are : (next : ℕ) → AllByRecursion (λ (a : SolidAtom). Q a.functor) (b.atoms next)
    pub membranes_are : (start next : ℕ) → KnownIn (b.membranes start next)
    pub rules_are : AllByRecursion P b.rules

  level_known : (leaves : List Leaf) (cs rcs : List CtxUse) (rs : List ℕ) (bs : List LevelMade) → AllByRecursion (LeafKnown Q) leaves → AllByRecursion P rs → ((next : ℕ) → KnownIn (made_membranes next bs)) → LevelKnown (record {
    atoms = λ next. leaves_atoms flat t next leaves ++ context_atoms flat t (leaves_next t leaves next) cs;
    start = λ next. leaves_next t leaves next;
    own = λ next. contexts_next t.links cs (leaves_next t leaves next);
    rules = rs ++ rules_named flat t rcs;
    membranes = λ start next. raws_append (made_membranes next bs) (context_membranes flat t left start cs);
    after = λ next. after_membranes next bs;
  })
  level_known leaves cs rcs rs bs lf rf w = record {
    atoms_are = λ next.
        let start = leaves_next t leaves next in
        all_append Of (leaves_atoms flat t next leaves) (context_atoms flat t start cs) (leaves_known leaves next lf) (contexts_known cs start).0;
    membranes_are = λ start next. append_known (made_membranes next bs) (context_membranes flat t left start cs) (w next) (contexts_known cs start).1;
    rules_are = all_append P rs (rules_named flat t rcs) rf (named_known rcs);
  }

  abbrev One : Level → Type 0
  One l = AllByRecursion (LeafKnown Q) (leaves_of l) → AllByRecursion P (rules_of l) → LevelKnown (level_made flat t left l)

  abbrev all_in : {A : Type 0} → (Level → List A) → List Level → List A
  all_in f ls = flat_map (λ inner. inner) (map f ls)

  inside : (ls : List ((l : Level) × One l)) → let ms = map (λ e. e.0) ls in AllByRecursion (LeafKnown Q) (all_in leaves_of ms) → AllByRecursion P (all_in rules_of ms) →
      (next : ℕ) → KnownIn (made_membranes next (map (level_made flat t left) ms))
  inside [] f g next = (tt, tt)
  inside (e ∷ ls) f g next =
      let ms = map (λ e. e.0) ls in
      let b = level_made flat t left e.0 in
      let after = b.after (b.own next) in
      let w = e.1 (all_left (LeafKnown Q) (leaves_of e.0) (all_in leaves_of ms) f) (all_left P (rules_of e.0) (all_in rules_of ms) g) in
      and_known (raw (b.atoms next) (b.membranes (b.start next) (b.own next)) b.rules) (made_membranes after (map (level_made flat t left) ms))
      (region_known (b.atoms next) (b.membranes (b.start next) (b.own next)) b.rules (w.atoms_are next) (w.membranes_are (b.start next) (b.own next)) w.rules_are)
      (inside ls (all_right (LeafKnown Q) (leaves_of e.0) (all_in leaves_of ms) f) (all_right P (rules_of e.0) (all_in rules_of ms) g) after)

  pub body_known : (l : Level) → One l
  body_known = ind-Level One (λ y z is f g.
      let inner = subst (λ l. AllByRecursion (LeafKnown Q) (all_in leaves_of l.membranes) → AllByRecursion P (all_in rules_of l.membranes) → (next : ℕ) → KnownIn (made_membranes next (map (level_made flat t left) l.membranes))) is (inside z.membranes) in
      let lf = subst (AllByRecursion (LeafKnown Q)) (fold-roll-Level (List Leaf) (λ l. l.leaves ++ flat_map (λ inner. inner) l.membranes) y) f in
      let rf = subst (AllByRecursion P) (fold-roll-Level (List ℕ) (λ l. l.rules ++ flat_map (λ inner. inner) l.membranes) y) g in
      let bs = map (level_made flat t left) y.membranes in
      subst LevelKnown (sym (fold-roll-Level LevelMade (level_step flat t left) y))
      (level_known y.leaves y.contexts y.rule_contexts y.rules bs (all_left (LeafKnown Q) y.leaves (all_in leaves_of y.membranes) lf) (all_left P y.rules (all_in rules_of y.membranes) rf)
      (inner (all_right (LeafKnown Q) y.leaves (all_in leaves_of y.membranes) lf) (all_right P y.rules (all_in rules_of y.membranes) rf))))

  -- ---- the whole region

  pub home_known : (b : LevelMade) (next : ℕ) → LevelKnown b → Known (home_region flat t left b next)
  home_known b next u =
      let here = left_of t.atoms (atoms_in (heap_of flat) t.home) in
      let kept = raws_at flat (Shifted 0) (left t.home) in
      let inner = b.membranes (b.start next) (b.own next) in
      region_known (written_atoms flat (Shifted 0) here ++ b.atoms next) (raws_append kept inner) (rules_in (heap_of flat) t.home ++ b.rules)
      (all_append Of (written_atoms flat (Shifted 0) here) (b.atoms next) (written_known (Shifted 0) here) (u.atoms_are next))
      (append_known kept inner (forest_known (Shifted 0) (left t.home)) (u.membranes_are (b.start next) (b.own next)))
      (all_append P (rules_in (heap_of flat) t.home) b.rules (rules_known t.home) u.rules_are)

  pick_known : (b : Bool) (made other : RawRegion) → Known made → Known other → Known (cond b made other)
  pick_known true made other f g = f
  pick_known false made other f g = g

  fired_known : (home : ℕ) (made : RawRegion) → Known made → (f : Forest) → KnownIn (fired_regions flat home made f)
  fired_known home made d bare = (tt, tt)
  fired_known home made d (mem m i f) =
      let xs = written_atoms flat (Shifted 0) (atoms_in (heap_of flat) m) in
      let ms = fired_regions flat home made i in
      let other = raw xs ms (rules_in (heap_of flat) m) in
      and_known (cond (m == home) made other) (fired_regions flat home made f)
      (pick_known (m == home) made other d (region_known xs ms (rules_in (heap_of flat) m) (written_known (Shifted 0) (atoms_in (heap_of flat) m)) (fired_known home made d i) (rules_known m)))
      (fired_known home made d f)

  pub whole_known : (home : ℕ) (made : RawRegion) → Known made → (m : ℕ) (i : Forest) → Known (fired_region flat home made m i)
  whole_known home made d m i =
      let xs = written_atoms flat (Shifted 0) (atoms_in (heap_of flat) m) in
      let ms = fired_regions flat home made i in
      let other = raw xs ms (rules_in (heap_of flat) m) in
      pick_known (m == home) made other d (region_known xs ms (rules_in (heap_of flat) m) (written_known (Shifted 0) (atoms_in (heap_of flat) m)) (fired_known home made d i) (rules_known m))
