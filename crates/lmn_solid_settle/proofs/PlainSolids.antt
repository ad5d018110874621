-- The solid of a plain: its top in a table, and what settling makes of it.
use Rattle.std.specs.Prelude.{◌==◌, ◌&&◌}
use Rattle.std.proofs.Common.{ℕ, suc, ◌≡◌, ◌≢◌, ◌+◌, ◌<◌, ◌≤◌, ◌⊎◌, Bool, true, false, cond, inl, inr, List, [], ◌∷◌, ◌++◌, All, map, take, get_or, length, refl, sym, ap, ◌∙◌, subst, arith, append_assoc, append-nil}
use Rattle.std.proofs.lemmas.Grind.{flat_map-append}
use Rattle.std.proofs.lemmas.List.Folds.{flat_map-map}
use Rattle.std.proofs.lemmas.List.{length-append, length-map, map-append, take_all}
use Rattle.std.proofs.lemmas.List.Elements.{All-append, All-cons, All-head, All-nil, All-tail}
use Rattle.std.specs.List.{flat_map}
use Rattle.lmn_base.proofs.Common.{inner_leaves}
use Rattle.lmn_base.proofs.FirstLemmas.{next_piece}
use Rattle.lmn_base.proofs.Lists.{all_of_left, all_of_right, joined_alike as both, map_itself as map_same, one_more}
use Rattle.lmn_base.specs.Levels.{contexts_of, leaves_of, links_of, rule_contexts_of}
use Rattle.lmn_base.specs.Links.{EachTwice}
use Rattle.lmn_base.specs.Names.{HasNames, NamesPlain, NamesSolid, context_names, label_names, leaf_names, level_names, rule_names}
use Rattle.lmn_base.specs.Solids.{atoms_of_region, connector, links_of_region, is_connector}
use Rattle.lmn_base.specs.WellMade.{FitsArity, IsWellMade}
use Rattle.lmn_base.specs.declared.functor.Functor.{Functor}
use Rattle.lmn_base.specs.declared.level.Leaf.{Leaf}
use Rattle.lmn_base.specs.declared.level.Leaf.TheVariants.{Atom, Typed}
use Rattle.lmn_base.specs.declared.level.Level.{Level, out-Level}
use Rattle.lmn_base.specs.declared.level.Level.TheFolds.{fold_out-Level, fold-roll-Level, ind-Level}
use Rattle.lmn_base.specs.declared.level.Level.TheOpen.{Level-F}
use Rattle.lmn_base.specs.declared.level.Occ.{Occ}
use Rattle.lmn_base.specs.declared.refusal.Pos.{Pos}
use Rattle.lmn_base.specs.declared.rule.Plain.{Plain}
use Rattle.lmn_base.specs.declared.solid.Region.{Region}
use Rattle.lmn_base.specs.declared.solid.Region.TheViews.{roll-Region}
use Rattle.lmn_base.specs.declared.solid.Solid.{Solid}
use Rattle.lmn_base.specs.declared.solid.SolidAtom.{SolidAtom}
use Rattle.lmn_congruence.proofs.SolidsOfPlains.{twice_mapped}
use Rattle.lmn_congruence.proofs.TranslatedLinks.{counted, places_append}
use Rattle.lmn_congruence.specs.Links.{places}
use Rattle.lmn_congruence.specs.Rules.{Name}
use Rattle.lmn_congruence.specs.SolidsOfPlains.{IsSolidOf, JoinsLeaf, fused_leaf, fused_region, fused_step}
use Rattle.lmn_schedule_loading.proofs.PlainLinks.{all_links, in_often, numbers_below, often_in, region_links}
use Rattle.lmn_schedule_loading.specs.Adding.{atom_links}
use Rattle.lmn_schedule_loading.specs.Joining.{connectors_of_leaves, leaf_pairs}
use Rattle.lmn_solid_settle.specs.declared.settling.RawMembrane.{RawMembrane}
use Rattle.lmn_solid_settle.specs.Levels.{raw_of_level, raw_step, raws}
use Rattle.lmn_solid_settle.specs.Raw.{CanSettle, IsSettled, RawRegion, laid, laid_in, raw_atoms, raw_atoms_in, raw_links, settled, settled_all, settled_atom, size, size_in}
use Rattle.lmn_solid_settle.proofs.LaidParts.{laid_in_size}
use Rattle.lmn_solid_settle.proofs.SettledLinks.{atoms_settled, links_settled}
use Rattle.lmn_congruence_splice.proofs.Common.{in_back, in_front}
use Rattle.lmn_congruence_splice.specs.Splice.{IsOneOf, both_links}
use Rattle.lmn_schedule_loading.proofs.Whole.{all_pairs}

-- the membrane of a level by itself, and behind it those of some of its membranes
abbrev pub laid_so_far : (around n : ℕ) → Level-F Level → List Level → List RawMembrane
laid_so_far around n l done = record { around = around; atoms = flat_map (fused_leaf (λ x. x)) l.leaves; rules = l.rules } ∷ laid_in n (suc n) (raws (map raw_of_level done))

-- ---- collecting

-- one more behind some
laid_one_more : (a n : ℕ) (rs : List RawRegion) (r : RawRegion) → laid_in a n (raws (rs ++ r ∷ [])) ≡ laid_in a n (raws rs) ++ laid a (n + size_in (raws rs)) r
laid_one_more a n [] r = append-nil (laid a n r) ∙ (let e : n ≡ n + 0 = omega arith in ap (λ k. laid a k r) e)
laid_one_more a n (x ∷ rs) r =
    let e : (n + size x) + size_in (raws rs) ≡ n + (size x + size_in (raws rs)) = omega arith in
    ap (λ xs. laid a n x ++ xs) (laid_one_more a (n + size x) rs r)
    ∙ sym (append_assoc (laid a n x) (laid_in a (n + size x) (raws rs)) (laid a ((n + size x) + size_in (raws rs)) r))
    ∙ ap (λ k. (laid a n x ++ laid_in a (n + size x) (raws rs)) ++ laid a k r) e

-- the membranes of a level so far, and one more
pub laid_next : (a number : ℕ) (l : Level-F Level) (start now next : List RawMembrane) (xs : List Level) (i : ℕ) (x : Level) → i < length xs → x ≡ get_or xs i x → number ≡ length start
    → now ≡ start ++ laid_so_far a (length start) l (take i xs) → next ≡ now ++ laid number (length now) (raw_of_level x) → next ≡ start ++ laid_so_far a (length start) l (take (i + 1) xs)
laid_next a number l start now next xs i x within read is e d =
    let n = length start in
    let done = map raw_of_level (take i xs) in
    let r = raw_of_level x in
    let p : RawMembrane = record { around = a; atoms = flat_map (fused_leaf (λ x. x)) l.leaves; rules = l.rules } in
    let so_far = laid_in n (suc n) (raws done) in
    let long : length now ≡ suc n + size_in (raws done) =
    ap length e ∙ length-append start (p ∷ so_far) ∙ ap (λ k. n + suc k) (laid_in_size n (suc n) (raws done)) ∙ (let f : n + suc (size_in (raws done)) ≡ suc n + size_in (raws done) = omega arith in f) in
    d ∙ ap (λ k. now ++ laid k (length now) r) is ∙ ap (λ k. now ++ laid n k r) long ∙ ap (λ ys. ys ++ laid n (suc n + size_in (raws done)) r) e
    ∙ append_assoc start (p ∷ so_far) (laid n (suc n + size_in (raws done)) r)
    ∙ ap (λ ys. start ++ p ∷ ys) (sym (laid_one_more n (suc n) done r))
    ∙ ap (λ rs. start ++ p ∷ laid_in n (suc n) (raws rs)) (sym (map-append raw_of_level (take i xs) (x ∷ [])))
    ∙ ap (λ ys. start ++ p ∷ laid_in n (suc n) (raws (map raw_of_level ys))) (one_more xs i x within read)

-- all of them are the level
pub laid_whole : (a : ℕ) (l : Level) (start now : List RawMembrane) (xs : List Level) (i : ℕ) → xs ≡ (out-Level l).membranes → length xs ≤ i
    → now ≡ start ++ laid_so_far a (length start) (out-Level l) (take i xs) → now ≡ start ++ laid a (length start) (raw_of_level l)
laid_whole a l start now xs i are end e =
    e ∙ ap (λ ys. start ++ laid_so_far a (length start) (out-Level l) ys) (take_all i xs end ∙ are)
    ∙ ap (λ r. start ++ laid a (length start) r) (sym (fold_out-Level RawRegion raw_step l))

-- what leaves give so far, and one more
pub pieces_next : {X A : Type 0} (f : X → List A) (start now next : List A) (xs : List X) (i : ℕ) (x : X) → i < length xs → x ≡ get_or xs i x
    → now ≡ start ++ flat_map f (take i xs) → next ≡ now ++ f x → next ≡ start ++ flat_map f (take (i + 1) xs)
pieces_next f start now next xs i x within read e d =
    d ∙ ap (λ ys. ys ++ f x) e ∙ append_assoc start (flat_map f (take i xs)) (f x)
    ∙ ap (λ ys. start ++ ys) (ap (λ y. flat_map f (take i xs) ++ f y) read ∙ sym (next_piece f xs i x within))

-- the connectors so far, and those in one more membrane
pub connectors_next : (start now next : List (ℕ × ℕ)) (ls : List Leaf) (xs : List Level) (i : ℕ) (x : Level) → i < length xs → x ≡ get_or xs i x
    → now ≡ start ++ connectors_of_leaves (ls ++ flat_map leaves_of (take i xs)) → next ≡ now ++ connectors_of_leaves (leaves_of x)
    → next ≡ start ++ connectors_of_leaves (ls ++ flat_map leaves_of (take (i + 1) xs))
connectors_next start now next ls xs i x within read e d =
    let before = flat_map leaves_of (take i xs) in
    d ∙ ap (λ ys. ys ++ connectors_of_leaves (leaves_of x)) e ∙ append_assoc start (connectors_of_leaves (ls ++ before)) (connectors_of_leaves (leaves_of x))
    ∙ ap (λ ys. start ++ ys) (sym (flat_map-append leaf_pairs (ls ++ before) (leaves_of x)))
    ∙ ap (λ ys. start ++ connectors_of_leaves ys) (append_assoc ls before (leaves_of x) ∙ ap (λ ys. ls ++ ys) (ap (λ y. before ++ leaves_of y) read ∙ sym (next_piece leaves_of xs i x within)))

-- ---- settling a level

settled_leaf : (v : ℕ → ℕ) (l : Leaf) → map (settled_atom v) (fused_leaf (λ x. x) l) ≡ fused_leaf v l
settled_leaf v (Typed n o p) = refl
settled_leaf v (Atom f os p) = by (is_connector f)
  where
    by : (b : Bool) → map (settled_atom v) (cond b [] (record { functor = f; links = map (λ o. o.link) os } ∷ [])) ≡ cond b [] (record { functor = f; links = map (λ o. v o.link) os } ∷ [])
    by true = refl
    by false = λ i. record { functor = f; links = sym (twice_mapped v os) i } ∷ []

settled_leaves : (v : ℕ → ℕ) (ls : List Leaf) → map (settled_atom v) (flat_map (fused_leaf (λ x. x)) ls) ≡ flat_map (fused_leaf v) ls
settled_leaves v [] = refl
settled_leaves v (l ∷ ls) = map-append (settled_atom v) (fused_leaf (λ x. x) l) (flat_map (fused_leaf (λ x. x)) ls) ∙ both (settled_leaf v l) (settled_leaves v ls)

module _ (v : ℕ → ℕ) where
  abbrev IsFused : Level → Type 0
  IsFused l = settled v (raw_of_level l) ≡ fused_region v l

  inner_fused : (ls : List ((l : Level) × IsFused l)) → settled_all v (raws (map raw_of_level (map (λ e. e.0) ls))) ≡ map (fused_region v) (map (λ e. e.0) ls)
  inner_fused [] = refl
  inner_fused (e ∷ ls) = λ i. e.1 i ∷ inner_fused ls i

  -- settling fuses the level
  pub settled_is_fused : (l : Level) → IsFused l
  settled_is_fused = ind-Level IsFused (λ y z is.
      let inside = subst (λ l. settled_all v (raws (map raw_of_level l.membranes)) ≡ map (fused_region v) l.membranes) is (inner_fused z.membranes) in
      rw (fold-roll-Level RawRegion raw_step y, fold-roll-Level Region (fused_step v) y)
      (λ i. roll-Region (record { atoms = settled_leaves v y.leaves i; membranes = inside i; rules = y.rules })))

-- the atoms of a level that are no connectors
abbrev bare_atoms : List Leaf → List SolidAtom
bare_atoms ls = flat_map (fused_leaf (λ x. x)) ls

abbrev HasAtoms : Level → Type 0
HasAtoms l = raw_atoms (raw_of_level l) ≡ bare_atoms (leaves_of l)

inner_have_atoms : (ls : List ((l : Level) × HasAtoms l)) → raw_atoms_in (raws (map raw_of_level (map (λ e. e.0) ls))) ≡ bare_atoms (inner_leaves (map (λ e. e.0) ls))
inner_have_atoms [] = refl
inner_have_atoms (e ∷ ls) = both e.1 (inner_have_atoms ls) ∙ sym (flat_map-append (fused_leaf (λ x. x)) (leaves_of e.0) (inner_leaves (map (λ e. e.0) ls)))

has_atoms : (l : Level) → HasAtoms l
has_atoms = ind-Level HasAtoms (λ y z is.
    let inside = subst (λ l. raw_atoms_in (raws (map raw_of_level l.membranes)) ≡ bare_atoms (inner_leaves l.membranes)) is (inner_have_atoms z.membranes) in
    rw (fold-roll-Level RawRegion raw_step y, fold-roll-Level (List Leaf) (λ l. l.leaves ++ flat_map (λ inner. inner) l.membranes) y)
    (ap (λ xs. bare_atoms y.leaves ++ xs) inside ∙ sym (flat_map-append (fused_leaf (λ x. x)) y.leaves (inner_leaves y.membranes))))

-- the links at them
has_links : (l : Level) → raw_links (raw_of_level l) ≡ atom_links (leaves_of l)
has_links l =
    sym (map_same (raw_links (raw_of_level l))) ∙ sym (links_settled (λ x. x) (raw_of_level l)) ∙ ap links_of_region (settled_is_fused (λ x. x) l)
    ∙ region_links (λ x. x) l ∙ map_same (atom_links (leaves_of l))

-- ---- a level can be settled

-- what holds of the atom of each leaf that is no connector
all_bare : (Q : Leaf → Type 0) (P : SolidAtom → Type 0) → ((f : Functor) (os : List Occ) (p : Pos) → Q (Atom f os p) → is_connector f ≡ false → P (record { functor = f; links = map (λ o. o.link) os }))
    → (ls : List Leaf) → All Q ls → All P (bare_atoms ls)
all_bare Q P one [] h = All-nil P
all_bare Q P one (Typed n o p ∷ ls) h = all_bare Q P one ls (All-tail Q (Typed n o p) ls h)
all_bare Q P one (Atom f os p ∷ ls) h =
    All-append P (fused_leaf (λ x. x) (Atom f os p)) (bare_atoms ls) (by (is_connector f) refl) (all_bare Q P one ls (All-tail Q (Atom f os p) ls h))
  where
    by : (b : Bool) → is_connector f ≡ b → All P (cond b [] (record { functor = f; links = map (λ o. o.link) os } ∷ []))
    by true e = All-nil P
    by false e = All-cons P _ [] (one f os p (All-head Q (Atom f os p) ls h) e) (All-nil P)

all_below : (n : ℕ) (xs : List ℕ) → ((z : ℕ) → IsOneOf z xs → z < n) → All (λ x. x < n) xs
all_below n [] h = All-nil (λ x. x < n)
all_below n (x ∷ xs) h = All-cons (λ x. x < n) x xs (h x (inl refl)) (all_below n xs (λ z i. h z (inr i)))

module _ (p : Plain) (made : IsWellMade p) (closed : EachTwice (links_of p.top)) where
  abbrev ls : List Leaf
  ls = leaves_of p.top

  abbrev es : List (ℕ × ℕ)
  es = connectors_of_leaves ls

  abbrev r : RawRegion
  r = raw_of_level p.top

  -- each link stands at connectors and atoms as often as in the top
  often : (z : ℕ) → places z (both_links es ++ raw_links r) ≡ places z (links_of p.top)
  often z =
      places_append z (both_links es) (raw_links r) ∙ ap (λ xs. places z (both_links es) + places z xs) (has_links p.top) ∙ sym (all_links z ls made.arities made.only_atoms)

  below : (z : ℕ) → IsOneOf z (both_links es ++ raw_links r) → z < length p.links
  below z i =
      (numbers_below made.table.numbered).1 z
      (in_front z (links_of p.top) [] (often_in z (links_of p.top) (λ e. in_often z (both_links es ++ raw_links r) i (often z ∙ e))))

  no_connector : (f : Functor) → is_connector f ≡ false → f ≢ connector
  no_connector f e d = let w : is_connector connector ≡ false = subst (λ g. is_connector g ≡ false) d e in absurd (cc)

  -- the top of a plain can be settled,
  pub can_settle : (n : ℕ) → n ≡ length p.links → CanSettle r es n
  can_settle n is = record {
    arities = subst (All (λ a. length a.links ≡ a.functor.arity)) (sym (has_atoms p.top))
        (all_bare FitsArity (λ a. length a.links ≡ a.functor.arity) (λ f os p h e. length-map os (λ (o : Occ). o.link) ∙ h) ls made.arities);
    no_connector = subst (All (λ a. a.functor ≢ connector)) (sym (has_atoms p.top)) (all_bare FitsArity (λ a. a.functor ≢ connector) (λ f os p h e. no_connector f e) ls made.arities);
    twice = λ z. subst (λ k. (k ≡ 0) ⊎ (k ≡ 2)) (counted z (links_of p.top) ∙ sym (often z)) (closed z);
    links_below = all_below n (raw_links r) (λ z i. subst (λ k. z < k) (sym is) (below z (in_back z (both_links es) (raw_links r) i)));
    pairs_below = all_pairs n es (λ z i. subst (λ k. z < k) (sym is) (below z (in_front z (both_links es) (raw_links r) i)));
  }

-- ---- and what is settled is the solid

leaf_joins : (v : ℕ → ℕ) (l : Leaf) → FitsArity l → ((e : ℕ × ℕ) → IsOneOf e (leaf_pairs l) → v e.0 ≡ v e.1) → JoinsLeaf v l
leaf_joins v (Typed n o p) h j = tt
leaf_joins v (Atom f [] p) h j = tt
leaf_joins v (Atom f (a ∷ []) p) h j = tt
leaf_joins v (Atom f (a ∷ b ∷ []) p) h j = λ named.
    let is : is_connector f ≡ true = λ i. named i && (sym h i == 2) in
    j (a.link, b.link) (subst (λ t. IsOneOf {A = ℕ × ℕ} (a.link, b.link) (cond t ((a.link, b.link) ∷ []) [])) (sym is) (inl refl))
leaf_joins v (Atom f (a ∷ b ∷ c ∷ os) p) h j = tt

leaves_join : (v : ℕ → ℕ) (ls : List Leaf) → All FitsArity ls → ((e : ℕ × ℕ) → IsOneOf e (connectors_of_leaves ls) → v e.0 ≡ v e.1) → All (JoinsLeaf v) ls
leaves_join v [] h j = All-nil (JoinsLeaf v)
leaves_join v (l ∷ ls) h j =
    All-cons (JoinsLeaf v) l ls (leaf_joins v l (All-head FitsArity l ls h) (λ e i. j e (in_front e (leaf_pairs l) (connectors_of_leaves ls) i)))
    (leaves_join v ls (All-tail FitsArity l ls h) (λ e i. j e (in_back e (leaf_pairs l) (connectors_of_leaves ls) i)))

pub is_solid_of : (p : Plain) → IsWellMade p → EachTwice (links_of p.top) → (s : Solid) → IsSettled (raw_of_level p.top) (connectors_of_leaves (leaves_of p.top)) s → IsSolidOf p s
is_solid_of p made closed s is = record {
  closed = closed;
  to = is.to;
  joins = leaves_join is.to (leaves_of p.top) made.arities is.joins;
  is = is.is ∙ settled_is_fused is.to p.top;
  is_solid = is.is_solid;
}

-- ---- the names of a solid

abbrev atom_names : SolidAtom → List ℕ
atom_names a = label_names a.functor.label

bare_named : (names : List Name) (ls : List Leaf) → HasNames names (flat_map leaf_names ls) → HasNames names (flat_map atom_names (bare_atoms ls))
bare_named names [] h = h
bare_named names (Typed n o p ∷ ls) h = bare_named names ls (all_of_right (λ k. k < length names) (leaf_names (Typed n o p)) (flat_map leaf_names ls) h)
bare_named names (Atom f os p ∷ ls) h =
    subst (HasNames names) (sym (flat_map-append atom_names (fused_leaf (λ x. x) (Atom f os p)) (bare_atoms ls)))
    (All-append (λ k. k < length names) (flat_map atom_names (fused_leaf (λ x. x) (Atom f os p))) (flat_map atom_names (bare_atoms ls)) (by (is_connector f))
    (bare_named names ls (all_of_right (λ k. k < length names) (label_names f.label) (flat_map leaf_names ls) h)))
  where
    by : (b : Bool) → All (λ k. k < length names) (flat_map atom_names (cond b [] (record { functor = f; links = map (λ o. o.link) os } ∷ [])))
    by true = All-nil (λ k. k < length names)
    by false = subst (All (λ k. k < length names)) (sym (append-nil (label_names f.label))) (all_of_left (λ k. k < length names) (label_names f.label) (flat_map leaf_names ls) h)

-- the names of a solid of a plain are among those of the plain
pub solid_named : (names : List Name) (p : Plain) (s : Solid) → NamesPlain names p → IsSolidOf p s → NamesSolid names p.rules s
solid_named names p s named is =
    let P : ℕ → Type 0 = λ k. k < length names in
    let ls = leaves_of p.top in
    let atoms : atoms_of_region s.root ≡ map (settled_atom is.to) (bare_atoms ls) =
    ap atoms_of_region (is.is ∙ sym (settled_is_fused is.to p.top)) ∙ atoms_settled is.to (raw_of_level p.top) ∙ ap (map (settled_atom is.to)) (has_atoms p.top) in
    let top = all_of_left P (level_names p.top) (flat_map rule_names p.rules) named.1 in
    let leaves = all_of_left P (flat_map leaf_names ls) (context_names (contexts_of p.top)) (all_of_left P (flat_map leaf_names ls ++ context_names (contexts_of p.top)) (context_names (rule_contexts_of p.top)) top) in (
      named.0,
      all_of_right P (level_names p.top) (flat_map rule_names p.rules) named.1,
      subst (HasNames names) (sym (ap (flat_map atom_names) atoms ∙ flat_map-map atom_names (settled_atom is.to) (bare_atoms ls))) (bare_named names ls leaves),
    )
