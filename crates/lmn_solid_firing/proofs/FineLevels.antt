-- What a body makes is fine: each atom has as many links as its arity, is no connector, and has links below a number.
use Rattle.std.proofs.Common.{ℕ, zero, suc, ℤ, ◌≡◌, ◌≢◌, ◌+◌, ◌<◌, ◌≤◌, Bool, true, false, cond, List, [], ◌∷◌, ◌++◌, length, map, inl, inr, refl, sym, ap, subst, ◌∙◌, arith}
use Rattle.std.specs.Prelude.{◌==◌}
use Rattle.std.specs.List.{AllByRecursion, flat_map}
use Rattle.std.proofs.lemmas.List.{length-map}
use Rattle.lmn_base.proofs.Lists.{all_append, all_left, all_right}
use Rattle.lmn_base.specs.Levels.{leaves_of}
use Rattle.lmn_base.specs.Solids.{connector}
use Rattle.lmn_base.specs.declared.functor.Functor.{Functor}
use Rattle.lmn_base.specs.declared.level.CtxUse.{CtxUse}
use Rattle.lmn_base.specs.declared.level.Leaf.{Leaf}
use Rattle.lmn_base.specs.declared.level.Leaf.TheVariants as leaf
use Rattle.lmn_base.specs.declared.level.Level.{Level}
use Rattle.lmn_base.specs.declared.level.Level.TheFolds.{fold-roll-Level, ind-Level}
use Rattle.lmn_base.specs.declared.level.Occ.{Occ}
use Rattle.lmn_base.specs.declared.solid.SolidAtom.{SolidAtom}
use Rattle.lmn_solid_bodies.specs.Flattening.{membrane_named}
use Rattle.lmn_solid_bodies.specs.Running.{integer_functor}
use Rattle.lmn_store_heap.specs.Functors.{same_functor}
use Rattle.lmn_base.proofs.Numbers.{not_equal, same_or_not}
use Rattle.lmn_congruence_classes.specs.Tables.{PairsBelow}
use Rattle.lmn_congruence.specs.LinkedRules.{level_occurrences}
use Rattle.lmn_congruence.specs.Rules as tree
use Rattle.lmn_store_heap.specs.Heap.{atoms_in, rules_in}
use Rattle.lmn_store_heap.specs.Sound.{Forest, bare, mem, Valid}
use Rattle.lmn_solid_settle.specs.Raw.{RawRegion, raw, raw_atoms, raw_atoms_in}
use Rattle.lmn_solid_firing.specs.Meant.{wire_pairs}
use Rattle.lmn_solid_tables.specs.Flats.{heap_of, link_at}
use Rattle.lmn_solid_tables.specs.declared.flat.Flat.{Flat}
use Rattle.lmn_solid_firing.specs.declared.match_.Match.{Match}
use Rattle.lmn_solid_firing.specs.declared.match_.Part.{Part}
use Rattle.lmn_solid_firing.specs.declared.writing.Writing.TheVariants.{Rooted as Root, Shifted}
use Rattle.lmn_solid_firing.specs.Making.{LevelMade, after_membranes, body_atom, context_atoms, context_membranes, context_next, context_writing, contexts_next, fired_region, fired_regions, home_region, integer_atoms, leaf_next, left_of, leaves_atoms, leaves_next, level_made, level_pairs, level_step, made_membranes, pair_of, pairs_of, raws_append, raws_at, rules_named, typed_atoms, typed_next, written, written_atoms}
use Rattle.lmn_solid_firing.proofs.Fine.{Fine, append_fine, atoms_fine, forest_fine}
use Rattle.lmn_solid_firing.proofs.MadeLeaves.{IsMadeAs, made_as}

-- an atom of a body has as many links as its functor says, and they are links of the rule
abbrev pub HasLinks : ℕ → Leaf → Type 0
HasLinks R (leaf.Atom functor links pos) = (length links ≡ functor.arity) × AllByRecursion (λ o. o.link < R) links
HasLinks R (leaf.Typed name o pos) = o.link < R

none_made : (f : Functor) (k : Bool) → k ≡ true → (zs : List ℕ) → length zs ≡ 2 → body_atom k f zs ≡ []
none_made f k e [] n = absurd (omega (arith, n))
none_made f k e (a ∷ []) n = absurd (omega (arith, n))
none_made f k e (a ∷ (b ∷ [])) n = ap (λ z. body_atom z f (a ∷ (b ∷ []))) e
none_made f k e (a ∷ (b ∷ (c ∷ zs))) n = absurd (omega (arith, n))

one_not_none : (a : SolidAtom) → a ∷ [] ≡ [] → ⊥
one_not_none a e = absurd (let z = ap length e in omega (arith, z))

module _ (flat : Flat) (v : Valid (heap_of flat)) (t : Match) (left : ℕ → Forest) (R n : ℕ) (below : (a i : ℕ) → link_at flat a i < t.links) (enough : t.links + R ≤ n) where
  own_low : (os : List Occ) → AllByRecursion (λ o. o.link < R) os → AllByRecursion (λ x. x < n) (map (λ o. t.links + o.link) os)
  own_low [] b = tt
  own_low (o ∷ os) b = ((let l = b.0 in omega (arith, l, enough)), own_low os b.1)

  body_fine : (f : Functor) (os : List Occ) → length os ≡ f.arity → AllByRecursion (λ o. o.link < R) os → AllByRecursion (Fine n) (body_atom (same_functor f connector) f (map (λ o. t.links + o.link) os))
  body_fine f os long b = by (made_as [] f ys (length-map os (λ o. o.link) ∙ long))
    where
      ys : List ℕ
      ys = map (λ o. o.link) os

      zs : List ℕ
      zs = map (λ o. t.links + o.link) os

      as_long : length zs ≡ length ys
      as_long = length-map os (λ o. t.links + o.link) ∙ sym (length-map os (λ o. o.link))

      as_arity : length zs ≡ f.arity
      as_arity = length-map os (λ o. t.links + o.link) ∙ long

      by : IsMadeAs [] f ys → AllByRecursion (Fine n) (body_atom (same_functor f connector) f zs)
      by (inl (x, y, is, tl, s)) = subst (AllByRecursion (Fine n)) (sym (none_made f (same_functor f connector) s zs (as_long ∙ ap length is))) tt
      by (inr (tl, w)) = subst (AllByRecursion (Fine n)) (sym (w zs as_long).0) ((as_arity, other, own_low os b), tt)
        where
          other : f ≢ connector
          other q =
              let s : same_functor f connector ≡ true = subst (λ g. same_functor g connector ≡ true) (sym q) refl in
              one_not_none (record { functor = f; links = zs }) (sym (w zs as_long).0 ∙ none_made f (same_functor f connector) s zs (as_arity ∙ ap (λ (g : Functor). g.arity) q))

  integer_fine : (es : List (ℕ × ℤ)) (name x : ℕ) → x < n → AllByRecursion (Fine n) (integer_atoms es name x)
  integer_fine [] name x l = tt
  integer_fine (e ∷ es) name x l = by (e.0 == name) (integer_fine es name x l)
    where
      other : integer_functor e.1 ≢ connector
      other q = let z = ap (λ (g : Functor). g.label) q in absurd (cc)

      by : (b : Bool) → AllByRecursion (Fine n) (integer_atoms es name x) → AllByRecursion (Fine n) (cond b ((record { functor = integer_functor e.1; links = x ∷ [] }) ∷ []) (integer_atoms es name x))
      by true f = ((refl, other, (l, tt)), tt)
      by false f = f

  typed_fine : (ps : List Part) (name x next : ℕ) → x < n → typed_next t.links ps name next ≤ n → AllByRecursion (Fine n) (typed_atoms flat ps t.integers name x next)
  typed_fine [] name x next l m = integer_fine t.integers name x l
  typed_fine (p ∷ ps) name x next l m = by (p.name == name) m (λ k. typed_fine ps name x next l k)
    where
      by : (b : Bool) → cond b (next + t.links) (typed_next t.links ps name next) ≤ n → (typed_next t.links ps name next ≤ n → AllByRecursion (Fine n) (typed_atoms flat ps t.integers name x next)) →
          AllByRecursion (Fine n) (cond b (written_atoms flat (Root p.link x next) p.atoms) (typed_atoms flat ps t.integers name x next))
      by true k f = atoms_fine flat v t.links n below (Root p.link x next) (λ y u. low y u (y == p.link)) p.atoms
        where
          low : (y : ℕ) → y < t.links → (b : Bool) → cond b x (next + y) < n
          low y u true = l
          low y u false = omega (arith, u, k)
      by false k f = f k

  typed_up : (ps : List Part) (name next : ℕ) → next ≤ typed_next t.links ps name next
  typed_up [] name next = omega arith
  typed_up (p ∷ ps) name next = by (p.name == name) (typed_up ps name next)
    where
      by : (b : Bool) → next ≤ typed_next t.links ps name next → next ≤ cond b (next + t.links) (typed_next t.links ps name next)
      by true e = omega arith
      by false e = e

  leaf_up : (l : Leaf) (next : ℕ) → next ≤ leaf_next t l next
  leaf_up (leaf.Atom f os pos) next = omega arith
  leaf_up (leaf.Typed name o pos) next = typed_up t.parts name next

  leaves_up : (ls : List Leaf) (next : ℕ) → next ≤ leaves_next t ls next
  leaves_up [] next = omega arith
  leaves_up (l ∷ ls) next = let a = leaf_up l next in let b = leaves_up ls (leaf_next t l next) in omega (arith, a, b)

  leaves_fine : (ls : List Leaf) (next : ℕ) → leaves_next t ls next ≤ n → AllByRecursion (HasLinks R) ls → AllByRecursion (Fine n) (leaves_atoms flat t next ls)
  leaves_fine [] next m f = tt
  leaves_fine (leaf.Atom g os pos ∷ ls) next m f =
      all_append (Fine n) (body_atom (same_functor g connector) g (map (λ o. t.links + o.link) os)) (leaves_atoms flat t next ls) (body_fine g os f.0.0 f.0.1) (leaves_fine ls next m f.1)
  leaves_fine (leaf.Typed name o pos ∷ ls) next m f =
      let l = f.0 in
      let k = leaves_up ls (typed_next t.links t.parts name next) in
      all_append (Fine n) (typed_atoms flat t.parts t.integers name (t.links + o.link) next) (leaves_atoms flat t (typed_next t.links t.parts name next) ls)
      (typed_fine t.parts name (t.links + o.link) next (omega (arith, l, enough)) (omega (arith, k, m))) (leaves_fine ls (typed_next t.links t.parts name next) m f.1)

  next_up : (b : Bool) (next : ℕ) → next ≤ context_next t.links b next
  next_up true next = omega arith
  next_up false next = omega arith

  contexts_up : (us : List CtxUse) (next : ℕ) → next ≤ contexts_next t.links us next
  contexts_up [] next = omega arith
  contexts_up (u ∷ us) next = let a = next_up u.closed next in let b = contexts_up us (context_next t.links u.closed next) in omega (arith, a, b)

  context_low : (b : Bool) (next : ℕ) → context_next t.links b next ≤ n → (y : ℕ) → y < t.links → written (context_writing b next) y < n
  context_low true next m y l = omega (arith, m, l)
  context_low false next m y l = omega (arith, l, enough)

  contexts_fine : (us : List CtxUse) (next : ℕ) → contexts_next t.links us next ≤ n → AllByRecursion (Fine n) (context_atoms flat t next us) × AllByRecursion (Fine n) (raw_atoms_in (context_membranes flat t left next us))
  contexts_fine [] next m = (tt, tt)
  contexts_fine (u ∷ us) next m =
      let k = contexts_up us (context_next t.links u.closed next) in
      let w = context_writing u.closed next in
      let x = membrane_named t.contexts u.name in
      let low = context_low u.closed next (omega (arith, k, m)) in
      let rest = contexts_fine us (context_next t.links u.closed next) m in (
        all_append (Fine n) (written_atoms flat w (left_of t.atoms (atoms_in (heap_of flat) x))) (context_atoms flat t (context_next t.links u.closed next) us) (atoms_fine flat v t.links n below w low (left_of t.atoms (atoms_in (heap_of flat) x))) rest.0,
        append_fine n (raws_at flat w (left x)) (context_membranes flat t left (context_next t.links u.closed next) us) (forest_fine flat v t.links n below w low (left x)) rest.1,
      )

  -- ---- levels

  pub record LevelFine (b : LevelMade) : Type 0 where
    pub atoms : (next : ℕ) → b.after (b.own next) ≤ n → AllByRecursion (Fine n) (b.atoms next)
    pub membranes : (next : ℕ) → b.after (b.own next) ≤ n → AllByRecursion (Fine n) (raw_atoms_in (b.membranes (b.start next) (b.own next)))
    pub up : (next : ℕ) → next ≤ b.after (b.own next)

  record MembranesFine (bs : List LevelMade) : Type 0 where
    pub all : (next : ℕ) → after_membranes next bs ≤ n → AllByRecursion (Fine n) (raw_atoms_in (made_membranes next bs))
    pub up : (next : ℕ) → next ≤ after_membranes next bs

  membrane_more : (b : LevelMade) (bs : List LevelMade) → LevelFine b → MembranesFine bs → MembranesFine (b ∷ bs)
  membrane_more b bs u w = record {
    all = λ next m.
        let k = w.up (b.after (b.own next)) in
        all_append (Fine n) (b.atoms next ++ raw_atoms_in (b.membranes (b.start next) (b.own next))) (raw_atoms_in (made_membranes (b.after (b.own next)) bs))
        (all_append (Fine n) (b.atoms next) (raw_atoms_in (b.membranes (b.start next) (b.own next))) (u.atoms next (omega (arith, k, m))) (u.membranes next (omega (arith, k, m)))) (w.all (b.after (b.own next)) m);
    up = λ next. let k = u.up next in let j = w.up (b.after (b.own next)) in omega (arith, k, j);
  }

  level_fine : (leaves : List Leaf) (cs : List CtxUse) (bs : List LevelMade) (rs : List ℕ) → AllByRecursion (HasLinks R) leaves → MembranesFine bs → LevelFine (record {
    atoms = λ next. leaves_atoms flat t next leaves ++ context_atoms flat t (leaves_next t leaves next) cs;
    start = λ next. leaves_next t leaves next;
    own = λ next. contexts_next t.links cs (leaves_next t leaves next);
    rules = rs;
    membranes = λ start next. raws_append (made_membranes next bs) (context_membranes flat t left start cs);
    after = λ next. after_membranes next bs;
  })
  level_fine leaves cs bs rs lf w = record {
    atoms = λ next m.
        let start = leaves_next t leaves next in
        let k = contexts_up cs start in
        let j = w.up (contexts_next t.links cs start) in
        all_append (Fine n) (leaves_atoms flat t next leaves) (context_atoms flat t start cs) (leaves_fine leaves next (omega (arith, m, k, j)) lf) (contexts_fine cs start (omega (arith, m, j))).0;
    membranes = λ next m.
        let start = leaves_next t leaves next in
        let j = w.up (contexts_next t.links cs start) in
        append_fine n (made_membranes (contexts_next t.links cs start) bs) (context_membranes flat t left start cs) (w.all (contexts_next t.links cs start) m) (contexts_fine cs start (omega (arith, m, j))).1;
    up = λ next.
        let k = leaves_up leaves next in
        let i = contexts_up cs (leaves_next t leaves next) in
        let j = w.up (contexts_next t.links cs (leaves_next t leaves next)) in
        omega (arith, k, i, j);
  }

  abbrev One : Level → Type 0
  One l = AllByRecursion (HasLinks R) (leaves_of l) → LevelFine (level_made flat t left l)

  abbrev all_in : {A : Type 0} → (Level → List A) → List Level → List A
  all_in f ls = flat_map (λ inner. inner) (map f ls)

  inside : (ls : List ((l : Level) × One l)) → let ms = map (λ e. e.0) ls in AllByRecursion (HasLinks R) (all_in leaves_of ms) → MembranesFine (map (level_made flat t left) ms)
  inside [] f = record { all = λ next m. tt; up = λ next. omega arith }
  inside (e ∷ ls) f =
      let ms = map (λ e. e.0) ls in
      membrane_more (level_made flat t left e.0) (map (level_made flat t left) ms) (e.1 (all_left (HasLinks R) (leaves_of e.0) (all_in leaves_of ms) f)) (inside ls (all_right (HasLinks R) (leaves_of e.0) (all_in leaves_of ms) f))

  pub body_is_fine : (l : Level) → One l
  body_is_fine = ind-Level One (λ y z is f.
      let inner = subst (λ l. AllByRecursion (HasLinks R) (all_in leaves_of l.membranes) → MembranesFine (map (level_made flat t left) l.membranes)) is (inside z.membranes) in
      let g = subst (AllByRecursion (HasLinks R)) (fold-roll-Level (List Leaf) (λ l. l.leaves ++ flat_map (λ inner. inner) l.membranes) y) f in
      let bs = map (level_made flat t left) y.membranes in
      let w = inner (all_right (HasLinks R) y.leaves (all_in leaves_of y.membranes) g) in
      let lf = all_left (HasLinks R) y.leaves (all_in leaves_of y.membranes) g in
      subst LevelFine (sym (fold-roll-Level LevelMade (level_step flat t left) y)) (level_fine y.leaves y.contexts bs (y.rules ++ rules_named flat t y.rule_contexts) lf w))

  -- ---- connectors

  pub pairs_both : (xs ys : List (ℕ × ℕ)) → PairsBelow n xs → PairsBelow n ys → PairsBelow n (xs ++ ys)
  pairs_both [] ys p q = q
  pairs_both (x ∷ xs) ys p q = (p.0, p.1, pairs_both xs ys p.2 q)

  pair_low : (k : Bool) (zs : List ℕ) → AllByRecursion (λ x. x < n) zs → PairsBelow n (pair_of k zs)
  pair_low true [] f = tt
  pair_low true (a ∷ []) f = tt
  pair_low true (a ∷ (b ∷ [])) f = (f.0, f.1.0, tt)
  pair_low true (a ∷ (b ∷ (c ∷ zs))) f = tt
  pair_low false zs f = tt

  pairs_low : (ls : List Leaf) → AllByRecursion (HasLinks R) ls → PairsBelow n (pairs_of t ls)
  pairs_low [] f = tt
  pairs_low (leaf.Atom g os pos ∷ ls) f =
      let zs = map (λ o. t.links + o.link) os in
      pairs_both (pair_of (same_functor g connector) zs) (pairs_of t ls) (pair_low (same_functor g connector) zs (own_low os f.0.1)) (pairs_low ls f.1)
  pairs_low (leaf.Typed name o pos ∷ ls) f = pairs_low ls f.1

  abbrev OnePaired : Level → Type 0
  OnePaired l = AllByRecursion (HasLinks R) (leaves_of l) → PairsBelow n (level_pairs t l)

  inside_paired : (ls : List ((l : Level) × OnePaired l)) → let ms = map (λ e. e.0) ls in AllByRecursion (HasLinks R) (all_in leaves_of ms) → PairsBelow n (all_in (level_pairs t) ms)
  inside_paired [] f = tt
  inside_paired (e ∷ ls) f =
      let ms = map (λ e. e.0) ls in
      pairs_both (level_pairs t e.0) (all_in (level_pairs t) ms) (e.1 (all_left (HasLinks R) (leaves_of e.0) (all_in leaves_of ms) f)) (inside_paired ls (all_right (HasLinks R) (leaves_of e.0) (all_in leaves_of ms) f))

  pub body_is_paired : (l : Level) → OnePaired l
  body_is_paired = ind-Level OnePaired (λ y z is f.
      let inner = subst (λ l. AllByRecursion (HasLinks R) (all_in leaves_of l.membranes) → PairsBelow n (all_in (level_pairs t) l.membranes)) is (inside_paired z.membranes) in
      let g = subst (AllByRecursion (HasLinks R)) (fold-roll-Level (List Leaf) (λ l. l.leaves ++ flat_map (λ inner. inner) l.membranes) y) f in
      subst (PairsBelow n) (sym (fold-roll-Level (List (ℕ × ℕ)) (λ l. pairs_of t l.leaves ++ flat_map (λ inner. inner) l.membranes) y))
      (pairs_both (pairs_of t y.leaves) (all_in (level_pairs t) y.membranes) (pairs_low y.leaves (all_left (HasLinks R) y.leaves (all_in leaves_of y.membranes) g)) (inner (all_right (HasLinks R) y.leaves (all_in leaves_of y.membranes) g))))

  -- ---- the whole region

  kept_low : (y : ℕ) → y < t.links → written (Shifted 0) y < n
  kept_low y l = omega (arith, l, enough)

  pub home_fine : (b : LevelMade) (next : ℕ) → LevelFine b → b.after (b.own next) ≤ n → AllByRecursion (Fine n) (raw_atoms (home_region flat t left b next))
  home_fine b next u m =
      let here = left_of t.atoms (atoms_in (heap_of flat) t.home) in
      let kept = raws_at flat (Shifted 0) (left t.home) in
      let inner = b.membranes (b.start next) (b.own next) in
      all_append (Fine n) (written_atoms flat (Shifted 0) here ++ b.atoms next) (raw_atoms_in (raws_append kept inner))
      (all_append (Fine n) (written_atoms flat (Shifted 0) here) (b.atoms next) (atoms_fine flat v t.links n below (Shifted 0) kept_low here) (u.atoms next m))
      (append_fine n kept inner (forest_fine flat v t.links n below (Shifted 0) kept_low (left t.home)) (u.membranes next m))

  pick_fine : (b : Bool) (made other : RawRegion) → AllByRecursion (Fine n) (raw_atoms made) → AllByRecursion (Fine n) (raw_atoms other) → AllByRecursion (Fine n) (raw_atoms (cond b made other))
  pick_fine true made other f g = f
  pick_fine false made other f g = g

  fired_fine : (home : ℕ) (made : RawRegion) → AllByRecursion (Fine n) (raw_atoms made) → (f : Forest) → AllByRecursion (Fine n) (raw_atoms_in (fired_regions flat home made f))
  fired_fine home made d bare = tt
  fired_fine home made d (mem m i f) =
      let other = raw (written_atoms flat (Shifted 0) (atoms_in (heap_of flat) m)) (fired_regions flat home made i) (rules_in (heap_of flat) m) in
      all_append (Fine n) (raw_atoms (cond (m == home) made other)) (raw_atoms_in (fired_regions flat home made f))
      (pick_fine (m == home) made other d (all_append (Fine n) (written_atoms flat (Shifted 0) (atoms_in (heap_of flat) m)) (raw_atoms_in (fired_regions flat home made i))
      (atoms_fine flat v t.links n below (Shifted 0) kept_low (atoms_in (heap_of flat) m)) (fired_fine home made d i))) (fired_fine home made d f)

  pub region_fine : (home : ℕ) (made : RawRegion) → AllByRecursion (Fine n) (raw_atoms made) → (m : ℕ) (i : Forest) → AllByRecursion (Fine n) (raw_atoms (fired_region flat home made m i))
  region_fine home made d m i =
      let other = raw (written_atoms flat (Shifted 0) (atoms_in (heap_of flat) m)) (fired_regions flat home made i) (rules_in (heap_of flat) m) in
      pick_fine (m == home) made other d (all_append (Fine n) (written_atoms flat (Shifted 0) (atoms_in (heap_of flat) m)) (raw_atoms_in (fired_regions flat home made i))
      (atoms_fine flat v t.links n below (Shifted 0) kept_low (atoms_in (heap_of flat) m)) (fired_fine home made d i))

-- the connectors of the head
pub wires_low : (F R n : ℕ) (f : ℕ → ℕ) (l : tree.Level) → F + R ≤ n → ((x : ℕ) → level_occurrences x l ≡ 1 → f x < F) → (k : ℕ) → k ≤ R → PairsBelow n (wire_pairs F f l k)
wires_low F R n f l enough low zero m = tt
wires_low F R n f l enough low (suc k) m = by (level_occurrences k l == 1) (one (level_occurrences k l)) (wires_low F R n f l enough low k (omega (arith, m)))
  where
    one : (j : ℕ) → (j == 1) ≡ true → j ≡ 1
    one j e = elim (same_or_not j 1) [ inl s ↦ s | inr d ↦ absurd (let z : true ≡ false = sym e ∙ not_equal j 1 d in cc) ]

    by : (b : Bool) → (b ≡ true → level_occurrences k l ≡ 1) → PairsBelow n (wire_pairs F f l k) → PairsBelow n (cond b ((F + k, f k) ∷ wire_pairs F f l k) (wire_pairs F f l k))
    by true o p = (omega (arith, m, enough), (let z = low k (o refl) in omega (arith, z, enough)), p)
    by false o p = p

-- what a fine list says
pub fine_long : (n : ℕ) (xs : List SolidAtom) → AllByRecursion (Fine n) xs → AllByRecursion (λ a. length a.links ≡ a.functor.arity) xs
fine_long n [] f = tt
fine_long n (x ∷ xs) f = (f.0.0, fine_long n xs f.1)

pub fine_other : (n : ℕ) (xs : List SolidAtom) → AllByRecursion (Fine n) xs → AllByRecursion (λ a. a.functor ≢ connector) xs
fine_other n [] f = tt
fine_other n (x ∷ xs) f = (f.0.1, fine_other n xs f.1)

pub fine_low : (n : ℕ) (xs : List SolidAtom) → AllByRecursion (Fine n) xs → AllByRecursion (λ x. x < n) (flat_map (λ a. a.links) xs)
fine_low n [] f = tt
fine_low n (x ∷ xs) f = all_append (λ y. y < n) x.links (flat_map (λ a. a.links) xs) f.0.2 (fine_low n xs f.1)
