-- What lies in lists and in a forest weighs no more than they do, together with what is left of them.
use Rattle.std.proofs.Common.{ℕ, ◌≡◌, ◌+◌, ◌≤◌, ◌==◌, Bool, true, false, cond, List, [], ◌∷◌, ◌++◌, map, refl, sym, ap, subst, ◌∙◌, inl, inr, arith}
use Rattle.std.proofs.lemmas.Bool.{cases_eq, eq-eqb, eqb-true}
use Rattle.lmn_store_heap.specs.Heap.{Heap, atoms_in}
use Rattle.lmn_store_heap.specs.Lists.{Distinct, without, without_all}
use Rattle.lmn_store_heap.specs.Sound.{Forest, mem, flat}
use Rattle.lmn_congruence.specs.Links.{one_if_same, places}
use Rattle.lmn_congruence.specs.LinkedRules.{leaves_occurrences, level_occurrences, levels_occurrences}
use Rattle.lmn_congruence.specs.Rules.{Label, Leaf, Level, Levels, Name}
use Rattle.lmn_reduction.specs.Parts.{Rooted, IsGround}
use Rattle.lmn_adequacy_heaps.specs.HeapRegions.{HeapReading}
use Rattle.lmn_adequacy_heaps.proofs.Pieces.{atom_at}
use Rattle.lmn_adequacy_heaps.proofs.Counting.{forest_atoms, times_at}
use Rattle.lmn_adequacy_heaps.proofs.Forests.{Grown, tops, taken_before, taken_grown}
use Rattle.lmn_adequacy_heaps.proofs.PartsOut.{PartsOut, parts_none, parts_atom, parts_typed, flattened, parts_weigh, parts_both}
use Rattle.lmn_adequacy_heaps.proofs.SameParts.{count, counted}
use Rattle.lmn_congruence.specs.Orders.{Put, there, Shuffle, none, more, here}
use Rattle.lmn_congruence.specs.Regions.{SolidAtom}
use Rattle.lmn_adequacy.specs.Embedding.{IsPart}
use Rattle.lmn_adequacy_heaps.proofs.Lying.{FitLeaves, fit_none, fit_atom, fit_typed, TakenTree, tree_first, tree_later, Lies, lies, LiesIn, lies_none, lies_and, each_without}
use Rattle.lmn_base.proofs.Lists.{weigh, weigh_append}
use Rattle.lmn_adequacy.proofs.Images.{places_least as places_map}
use Rattle.lmn_base.proofs.Numbers.{not_equal as apart_test}
use Rattle.lmn_congruence.proofs.Counts.{one_if_equal as same_one}
use Rattle.lmn_base.specs.Lists.{In}
use Rattle.std.specs.List.{AllByRecursion}

-- one and the others weigh what there was
pub weigh_without : (w : ℕ → ℕ) (b : ℕ) (xs : List ℕ) → In b xs → w b + weigh w (without b xs) ≡ weigh w xs
weigh_without w b [] i = absurd i
weigh_without w b (x ∷ xs) i = by (x == b) refl i (weigh_without w b xs)
  where
    by : (t : Bool) → (x == b) ≡ t → In b (x ∷ xs) → (In b xs → w b + weigh w (without b xs) ≡ weigh w xs) → w b + weigh w (cond t xs (x ∷ without b xs)) ≡ w x + weigh w xs
    by true e j later = ap (λ z. w z + weigh w xs) (sym (eqb-true x b e))
    by false e (inl same) later = absurd (let v : true ≡ false = sym (eq-eqb x b same) ∙ e in cc)
    by false e (inr j) later = omega (arith, later j)

-- some and what is left weigh what there was
pub weigh_left : (w : ℕ → ℕ) (bs xs : List ℕ) → Distinct bs → AllByRecursion (λ b. In b xs) bs → weigh w bs + weigh w (without_all bs xs) ≡ weigh w xs
weigh_left w [] xs d e = omega arith
weigh_left w (b ∷ bs) xs d e = omega (arith, weigh_left w bs (without b xs) d.1 (each_without b xs bs d.0 e.1), weigh_without w b xs e.0)

-- images, parts and what is left of a list
pub weigh_out : (w : ℕ → ℕ) {g : ℕ → SolidAtom} {link_of : ℕ → ℕ} {typed_of : Name → Rooted} {ls : List Leaf} {parts : List (List ℕ)} (bs xs : List ℕ) {rest : List ℕ} → Distinct bs → AllByRecursion (λ b. In b xs) bs →
    PartsOut g link_of typed_of ls parts (without_all bs xs) rest → (weigh w bs + weigh w (flattened parts)) + weigh w rest ≡ weigh w xs
weigh_out w bs xs d e out = omega (arith, weigh_left w bs xs d e, parts_weigh w out)

module _ (h : Heap) (wa wm : ℕ → ℕ) where
  -- atoms and membranes of a forest
  abbrev pub heavy : Forest → ℕ
  heavy f = weigh wa (forest_atoms h f) + weigh wm (flat f)

  -- the weight of a tree and a forest
  pub heavy_mem : (m : ℕ) (i f : Forest) → heavy (mem m i f) ≡ ((weigh wa (atoms_in h m) + heavy i) + wm m) + heavy f
  heavy_mem m i f = omega (
    arith,
    weigh_append wa (atoms_in h m ++ forest_atoms h i) (forest_atoms h f),
    weigh_append wa (atoms_in h m) (forest_atoms h i),
    weigh_append wm (flat i) (flat f),
  )

  pub heavy_taken : {n m : ℕ} {i f f' : Forest} → TakenTree n m i f f' → heavy f ≡ ((weigh wa (atoms_in h m) + heavy i) + wm m) + heavy f'
  heavy_taken (tree_first {m = m} {i = i} {f = f}) = heavy_mem m i f
  heavy_taken (tree_later {k = k} {j = j} {f = f} {f' = f'} t) = omega (arith, heavy_taken t, heavy_mem k j f, heavy_mem k j f')

  mutual
    -- images, parts and what is left weigh no more than what there was
    pub level_weighs : {r : HeapReading} {link_of : ℕ → ℕ} {typed_of : Name → Rooted} {Q : Level → ℕ → List ℕ → Forest → Forest → Type 0} {l : Level} {bs ms ns xs rest : List ℕ} {ps : List (List ℕ)} {f f' : Forest}
        → Lies h r link_of typed_of Q l bs ps ms ns xs rest f f' → (((weigh wa bs + weigh wa (flattened ps)) + weigh wm ms) + weigh wa rest) + heavy f' ≤ weigh wa xs + heavy f
    level_weighs (lies {bs = bs} {as' = as'} {xs = xs} {parts = parts} {ps = ps} fit d e out k) =
        omega (arith, weigh_append wa bs as', parts_both wa parts ps, weigh_out wa bs xs d e out, membranes_weigh k)

    -- and so for membranes
    pub membranes_weigh : {r : HeapReading} {link_of : ℕ → ℕ} {typed_of : Name → Rooted} {Q : Level → ℕ → List ℕ → Forest → Forest → Type 0} {ls : Levels} {bs ms ns : List ℕ} {ps : List (List ℕ)} {f f' : Forest}
        → LiesIn h r link_of typed_of Q ls bs ps ms ns f f' → ((weigh wa bs + weigh wa (flattened ps)) + weigh wm ms) + heavy f' ≤ heavy f
    membranes_weigh lies_none = omega arith
    membranes_weigh (lies_and {as' = as'} {ps = ps} {ms = ms} {bs = bs} {qs = qs} {ks = ks} k d q later) =
        omega (arith, weigh_append wa as' bs, parts_both wa ps qs, weigh_append wm ms ks, heavy_taken k, level_weighs d, membranes_weigh later)

-- what is left of the atoms weighs no more
pub rest_weighs : (w : ℕ → ℕ) {h : Heap} {r : HeapReading} {link_of : ℕ → ℕ} {typed_of : Name → Rooted} {Q : Level → ℕ → List ℕ → Forest → Forest → Type 0} {l : Level} {bs ms ns xs rest : List ℕ} {ps : List (List ℕ)} {f f' : Forest}
    → Lies h r link_of typed_of Q l bs ps ms ns xs rest f f' → weigh w rest ≤ weigh w xs
rest_weighs w (lies {bs = bs} {xs = xs} fit d e out k) = omega (arith, weigh_out w bs xs d e out)

-- what is left of a forest was there
pub tops_left : (b : ℕ) {h : Heap} {r : HeapReading} {link_of : ℕ → ℕ} {typed_of : Name → Rooted} {Q : Level → ℕ → List ℕ → Forest → Forest → Type 0} {ls : Levels} {bs ms ns : List ℕ} {ps : List (List ℕ)} {f f' : Forest}
    → LiesIn h r link_of typed_of Q ls bs ps ms ns f f' → In b (tops f') → In b (tops f)
tops_left b lies_none p = p
tops_left b (lies_and k d q later) p = taken_before k b (tops_left b later p)

-- a membrane that is left was there
pub rest_tops : (b : ℕ) {h : Heap} {r : HeapReading} {link_of : ℕ → ℕ} {typed_of : Name → Rooted} {Q : Level → ℕ → List ℕ → Forest → Forest → Type 0} {l : Level} {bs ms ns xs rest : List ℕ} {ps : List (List ℕ)} {f f' : Forest}
    → Lies h r link_of typed_of Q l bs ps ms ns xs rest f f' → In b (tops f') → In b (tops f)
rest_tops b (lies fit d e out k) p = tops_left b k p

-- what is left of a grown forest is grown
pub forest_left_grown : {h : Heap} {r : HeapReading} {link_of : ℕ → ℕ} {typed_of : Name → Rooted} {Q : Level → ℕ → List ℕ → Forest → Forest → Type 0} {ls : Levels} {bs ms ns : List ℕ} {ps : List (List ℕ)} {f f' : Forest}
    → LiesIn h r link_of typed_of Q ls bs ps ms ns f f' → Grown h f → Grown h f'
forest_left_grown lies_none g = g
forest_left_grown {h} (lies_and k d q later) g = forest_left_grown later (taken_grown h k g).1

-- and so it is where a level lies
pub left_grown : {h : Heap} {r : HeapReading} {link_of : ℕ → ℕ} {typed_of : Name → Rooted} {Q : Level → ℕ → List ℕ → Forest → Forest → Type 0} {l : Level} {bs ms ns xs rest : List ℕ} {ps : List (List ℕ)} {f f' : Forest}
    → Lies h r link_of typed_of Q l bs ps ms ns xs rest f f' → Grown h f → Grown h f'
left_grown (lies fit d e out k) g = forest_left_grown k g

-- nothing weighs nothing
pub weigh_nothing : (xs : List ℕ) → weigh (λ b. 0) xs ≡ 0
weigh_nothing [] = refl
weigh_nothing (x ∷ xs) = omega (arith, weigh_nothing xs)

-- ---- links

-- how often a link stands in some atoms
abbrev links_in : ℕ → List SolidAtom → ℕ
links_in y [] = 0
links_in y (b ∷ bs) = places y b.links + links_in y bs

links_read : (h : Heap) (r : HeapReading) (y : ℕ) (part : List ℕ) → links_in y (map (atom_at h r) part) ≡ weigh (times_at h r y) part
links_read h r y [] = refl
links_read h r y (b ∷ bs) = omega (arith, links_read h r y bs)

links_put : (y : ℕ) {b : SolidAtom} {bs cs : List SolidAtom} → Put b bs cs → links_in y cs ≡ places y b.links + links_in y bs
links_put y here = refl
links_put y (there p) = omega (arith, links_put y p)

links_shuffled : (f : ℕ → ℕ) (z : ℕ) {as' : List (Label × List ℕ)} {bs : List SolidAtom} → Shuffle (λ a b. record { label = a.0; links = map f a.1 } ≡ b) as' bs → count z as' ≤ links_in (f z) bs
links_shuffled f z none = omega arith
links_shuffled f z (more {x = a} {y = b} e s p) =
    let q : places (f z) b.links ≡ places (f z) (map f a.1) = ap (λ c. places (f z) c.links) (sym e) in
    omega (arith, links_put (f z) p, links_shuffled f z s, places_map f z a.1, q)

-- a part has the link that holds it
part_link : (h : Heap) (r : HeapReading) (G : Rooted) (y : ℕ) (part : List ℕ) → IsGround G → IsPart G y (map (atom_at h r) part) → 1 ≤ weigh (times_at h r y) part
part_link h r G y part ground is =
    let root : ℕ = G.root in
    let some = links_shuffled is.to root is.atoms in
    let at : links_in (is.to root) (map (atom_at h r) part) ≡ weigh (times_at h r y) part = ap (λ z. links_in z (map (atom_at h r) part)) is.root ∙ links_read h r y part in
    let c = counted root G.process ground.only_atoms in
    let one = ground.root_is_free in
    omega (arith, some, at, c, one)

-- images and parts of leaves have a link as often as the leaves
pub leaves_links : (h : Heap) (r : HeapReading) (x : ℕ) {link_of : ℕ → ℕ} {typed_of : Name → Rooted} {ls : List Leaf} {bs : List ℕ} {parts : List (List ℕ)} {xs rest : List ℕ} → FitLeaves (atom_at h r) link_of ls bs → PartsOut (atom_at h r) link_of typed_of ls parts xs rest
    → leaves_occurrences x ls ≤ weigh (times_at h r (link_of x)) bs + weigh (times_at h r (link_of x)) (flattened parts)
leaves_links h r x fit_none parts_none = omega arith
leaves_links h r x {link_of} (fit_atom {ys = ys} {b = b} is f) (parts_atom g) =
    let e : times_at h r (link_of x) b ≡ places (link_of x) (map link_of ys) = ap (λ a. places (link_of x) a.links) is in
    omega (arith, e, places_map link_of x ys, leaves_links h r x f g)
leaves_links h r x {link_of} {typed_of} (fit_typed f) (parts_typed {p = p} {x = y} {parts = parts} {part = part} ground is m g) = elim (cases_eq x y) [
  | inl e ↦ (let k = part_link h r (typed_of p) (link_of x) part ground (subst (λ z. IsPart (typed_of p) (link_of z) (map (atom_at h r) part)) (sym e) is) in
      omega (arith, same_one x y e, k, weigh_append (times_at h r (link_of x)) part (flattened parts), leaves_links h r x f g))
  | inr d ↦ (let u : one_if_same x y ≡ 0 = rw (apart_test x y d) refl in
      omega (arith, u, weigh_append (times_at h r (link_of x)) part (flattened parts), leaves_links h r x f g))
]

module _ (h : Heap) (r : HeapReading) (x : ℕ) where
  mutual
    -- the images of a level's atoms and its parts have a link as often as the level
    pub level_links : {link_of : ℕ → ℕ} {typed_of : Name → Rooted} {Q : Level → ℕ → List ℕ → Forest → Forest → Type 0} {l : Level} {bs ms ns xs rest : List ℕ} {ps : List (List ℕ)} {f f' : Forest}
        → Lies h r link_of typed_of Q l bs ps ms ns xs rest f f' → level_occurrences x l ≤ weigh (times_at h r (link_of x)) bs + weigh (times_at h r (link_of x)) (flattened ps)
    level_links {link_of} (lies {bs = bs} {as' = as'} {parts = parts} {ps = ps} fit d e out k) =
        omega (arith, weigh_append (times_at h r (link_of x)) bs as', parts_both (times_at h r (link_of x)) parts ps, leaves_links h r x fit out, membranes_links k)

    -- and so for membranes
    pub membranes_links : {link_of : ℕ → ℕ} {typed_of : Name → Rooted} {Q : Level → ℕ → List ℕ → Forest → Forest → Type 0} {ls : Levels} {bs ms ns : List ℕ} {ps : List (List ℕ)} {f f' : Forest}
        → LiesIn h r link_of typed_of Q ls bs ps ms ns f f' → levels_occurrences x ls ≤ weigh (times_at h r (link_of x)) bs + weigh (times_at h r (link_of x)) (flattened ps)
    membranes_links lies_none = omega arith
    membranes_links {link_of} (lies_and {as' = as'} {ps = ps} {bs = bs} {qs = qs} k d q later) =
        omega (arith, weigh_append (times_at h r (link_of x)) as' bs, parts_both (times_at h r (link_of x)) ps qs, level_links d, membranes_links later)
