-- The body of a rule as a tree, whose levels hold levels. What is shown of the tree by recursion holds of the body.
use Rattle.std.proofs.Common.{ℕ, ◌≡◌, ◌≤◌, ◌+◌, ◌*◌, Bool, true, false, List, [], ◌∷◌, ◌++◌, Option, Some, None, length, map, sum, refl, ap, sym, subst, ◌∙◌, arith}
use Rattle.std.specs.List.{flat_map, AllByRecursion}
use Rattle.std.proofs.lemmas.List.{length-append, map-append}
use Rattle.std.proofs.lemmas.List.Sums.{sum_by-cons}
use Rattle.lmn_base.specs.declared.functor.Functor.{Functor}
use Rattle.lmn_base.specs.declared.level.CtxUse.{CtxUse}
use Rattle.lmn_base.specs.declared.level.Leaf.{Leaf}
use Rattle.lmn_base.specs.declared.level.Leaf.TheVariants as leaf
use Rattle.lmn_base.specs.declared.level.Level.{Level}
use Rattle.lmn_base.specs.declared.level.Level.TheFolds.{fold-roll-Level, ind-Level}
use Rattle.lmn_base.specs.declared.level.Occ.{Occ}
use Rattle.lmn_base.specs.Items.{number_of_items}
use Rattle.lmn_base.specs.Levels.{leaves_of, occurrences_of_leaf, links_of}
use Rattle.lmn_base.specs.Limits.{most_links}
use Rattle.lmn_base.specs.Links.{Numbers, no_more, known, new, NumbersLinks}
use Rattle.lmn_base.specs.Solids.{connector}
use Rattle.lmn_store_heap.specs.Functors.{same_functor}
use Rattle.lmn_solid_heads.proofs.HeadTrees.{Head, Heads, head, no_head, head_and, heads, head_at, head_step, size, sizes, head_leaves, heads_leaves, same_leaves, head_number, heads_number, heads_length, same_number}
use Rattle.lmn_compile_head.specs.Tables.{AllBelow, HasFewLinks}
use Rattle.lmn_solid_bodies.specs.declared.items.BodyItem.{BodyItem}
use Rattle.lmn_solid_bodies.specs.declared.items.BodyItem.TheVariants.{Atom, Connector, Copy, Bound, Membrane, Rest, Rule, Rules}
use Rattle.lmn_solid_bodies.specs.Items.{body_links}
use Rattle.lmn_solid_bodies.specs.Flattening.{BodyNames, UnnumberedBody, atom_item, typed_item, body_leaf_items, body_membrane_items, context_items, body_rule_items, rule_context_items, flatten_body_step, body_items}
use Rattle.lmn_solid_bodies.proofs.BodyLinks.{links_kept}
use Rattle.lmn_compile_body.specs.Naming.{unnumbered_body}
use Rattle.lmn_compile_body.specs.Tables.{BodyFits, AllFew}
use Rattle.lmn_base.proofs.Lists.{all_left as all_front, all_right as all_back}
use Rattle.lmn_compile_head.proofs.HeadLeaves.{below_back, below_front}

abbrev mutual
  pub flat_body : BodyNames → ℕ → ℕ → Head → List BodyItem
  flat_body s inside next (head leaves hs cs rcs rs) =
      body_leaf_items s inside leaves ++ (flat_bodies s inside next hs ++ (context_items s inside cs ++ (body_rule_items inside rs ++ rule_context_items s inside rcs)))

  pub flat_bodies : BodyNames → ℕ → ℕ → Heads → List BodyItem
  flat_bodies s inside next no_head = []
  flat_bodies s inside next (head_and h hs) = Membrane inside ∷ flat_body s next (next + 1) h ++ flat_bodies s inside (next + 1 + size h) hs

abbrev flattened : BodyNames → Head → UnnumberedBody
flattened s h = record { items = λ inside next. flat_body s inside next h; size = size h }

module _ (s : BodyNames) where
  abbrev AsFlat : Level → Type 0
  AsFlat l = unnumbered_body s l ≡ flattened s (head_at l)

  flat_all : (ls : List ((l : Level) × AsFlat l)) → map (unnumbered_body s) (map (λ e. e.0) ls) ≡ map (flattened s) (map head_at (map (λ e. e.0) ls))
  flat_all [] = refl
  flat_all (e ∷ ls) = λ i. e.1 i ∷ flat_all ls i

  sized : (hs : List Head) → sum (map (λ m. 1 + m.size) (map (flattened s) hs)) ≡ sizes (heads hs)
  sized [] = refl
  sized (h ∷ hs) = sum_by-cons (λ n. n) (1 + size h) (map (λ m. 1 + m.size) (map (flattened s) hs)) ∙ ap (λ n. (1 + size h) + n) (sized hs)

  flat_in : (inside next : ℕ) (hs : List Head) → body_membrane_items inside next (map (flattened s) hs) ≡ flat_bodies s inside next (heads hs)
  flat_in inside next [] = refl
  flat_in inside next (h ∷ hs) = ap (λ ys. Membrane inside ∷ flat_body s next (next + 1) h ++ ys) (flat_in inside (next + 1 + size h) hs)

  level_flat : (l : Level) → AsFlat l
  level_flat = ind-Level AsFlat (λ y z is.
      let inside = subst (λ l. map (unnumbered_body s) l.membranes ≡ map (flattened s) (map head_at l.membranes)) is (flat_all z.membranes) in
      rw (fold-roll-Level UnnumberedBody (flatten_body_step s) y, fold-roll-Level Head head_step y, inside)
      (λ i. record {
        items = λ n k. body_leaf_items s n y.leaves ++ (flat_in n k (map head_at y.membranes) i ++ (context_items s n y.contexts ++ (body_rule_items n y.rules ++ rule_context_items s n y.rule_contexts)));
        size = sized (map head_at y.membranes) i;
      }))

  -- the items of a body are those of its tree
  pub items_flat : (k : ℕ) (l : Level) → body_items s k l ≡ flat_body s 0 (1 + k) (head_at l)
  items_flat k l = ap (λ u. u.items 0 (1 + k)) (level_flat l)

  -- and so many membranes stand in both
  pub same_size : (l : Level) → (unnumbered_body s l).size ≡ size (head_at l)
  same_size l = ap (λ u. u.size) (level_flat l)

  -- ---- how many there are

  many_leaves : (inside : ℕ) (ls : List Leaf) → length (body_leaf_items s inside ls) ≡ length ls
  many_leaves inside [] = refl
  many_leaves inside (l ∷ ls) = let e = many_leaves inside ls in omega (arith, e)

  many_contexts : (inside : ℕ) (us : List CtxUse) → length (context_items s inside us) ≡ length us
  many_contexts inside [] = refl
  many_contexts inside (u ∷ us) = let e = many_contexts inside us in omega (arith, e)

  many_rules : (inside : ℕ) (ks : List ℕ) → length (body_rule_items inside ks) ≡ length ks
  many_rules inside [] = refl
  many_rules inside (k ∷ ks) = let e = many_rules inside ks in omega (arith, e)

  many_rule_contexts : (inside : ℕ) (us : List CtxUse) → length (rule_context_items s inside us) ≡ length us
  many_rule_contexts inside [] = refl
  many_rule_contexts inside (u ∷ us) = let e = many_rule_contexts inside us in omega (arith, e)

  mutual
    many_items : (inside next : ℕ) (h : Head) → length (flat_body s inside next h) ≤ head_number h
    many_items inside next (head leaves hs cs rcs rs) =
        let r = rule_context_items s inside rcs in
        let q = body_rule_items inside rs ++ r in
        let p = context_items s inside cs ++ q in
        let a = length-append (body_leaf_items s inside leaves) (flat_bodies s inside next hs ++ p) in
        let b = length-append (flat_bodies s inside next hs) p in
        let c = length-append (context_items s inside cs) q in
        let d = length-append (body_rule_items inside rs) r in
        let e = many_leaves inside leaves in
        let f = many_contexts inside cs in
        let g = many_rules inside rs in
        let k = many_rule_contexts inside rcs in
        let m = many_bodies inside next hs in
        omega (arith, a, b, c, d, e, f, g, k, m)

    many_bodies : (inside next : ℕ) (hs : Heads) → length (flat_bodies s inside next hs) ≤ heads_length hs + heads_number hs
    many_bodies inside next no_head = omega arith
    many_bodies inside next (head_and h hs) =
        let a = length-append (flat_body s next (next + 1) h) (flat_bodies s inside (next + 1 + size h) hs) in
        let b = many_items next (next + 1) h in
        let c = many_bodies inside (next + 1 + size h) hs in
        omega (arith, a, b, c)

  -- a flat body has no more items than the body
  pub items_few : (k : ℕ) (l : Level) → length (body_items s k l) ≤ number_of_items l
  items_few k l = let a = ap length (items_flat k l) in let b = many_items 0 (1 + k) (head_at l) in let c = same_number l in omega (arith, a, b, c)

  -- ---- atoms have few links

  atom_few : (inside : ℕ) (b : Bool) (f : Functor) (xs : List ℕ) (rest : List BodyItem) → length xs ≤ most_links → AllFew rest → AllFew (atom_item b f xs inside ∷ rest)
  atom_few inside true f [] rest few r = (few, r)
  atom_few inside true f (x ∷ []) rest few r = (few, r)
  atom_few inside true f (x ∷ y ∷ []) rest few r = r
  atom_few inside true f (x ∷ y ∷ z ∷ xs) rest few r = (few, r)
  atom_few inside false f xs rest few r = (few, r)

  typed_few : (inside : ℕ) (o : Option ℕ) (v x : ℕ) (rest : List BodyItem) → AllFew rest → AllFew (typed_item o v x inside ∷ rest)
  typed_few inside None v x rest r = r
  typed_few inside (Some g) v x rest r = r

  leaves_few : (inside : ℕ) (ls : List Leaf) (rest : List BodyItem) → AllByRecursion HasFewLinks ls → AllFew rest → AllFew (body_leaf_items s inside ls ++ rest)
  leaves_few inside [] rest few r = r
  leaves_few inside (leaf.Atom f os p ∷ ls) rest few r =
      atom_few inside (same_functor f connector) f (map (λ o. o.link) os) (body_leaf_items s inside ls ++ rest) (let e = as_many os in let k = few.0 in omega (arith, e, k)) (leaves_few inside ls rest few.1 r)
    where
      as_many : (os : List Occ) → length (map (λ o. o.link) os) ≡ length os
      as_many [] = refl
      as_many (o ∷ os) = let e = as_many os in omega (arith, e)
  leaves_few inside (leaf.Typed n o p ∷ ls) rest few r = typed_few inside (s.part n) (s.integer n) o.link (body_leaf_items s inside ls ++ rest) (leaves_few inside ls rest few.1 r)

  contexts_few : (inside : ℕ) (us : List CtxUse) (rest : List BodyItem) → AllFew rest → AllFew (context_items s inside us ++ rest)
  contexts_few inside [] rest r = r
  contexts_few inside (u ∷ us) rest r = contexts_few inside us rest r

  rules_few : (inside : ℕ) (ks : List ℕ) (rest : List BodyItem) → AllFew rest → AllFew (body_rule_items inside ks ++ rest)
  rules_few inside [] rest r = r
  rules_few inside (k ∷ ks) rest r = rules_few inside ks rest r

  rule_contexts_few : (inside : ℕ) (us : List CtxUse) → AllFew (rule_context_items s inside us)
  rule_contexts_few inside [] = tt
  rule_contexts_few inside (u ∷ us) = rule_contexts_few inside us

few_append : (xs ys : List BodyItem) → AllFew xs → AllFew ys → AllFew (xs ++ ys)
few_append [] ys h g = g
few_append (Atom functor links inside ∷ xs) ys h g = (h.0, few_append xs ys h.1 g)
few_append (Connector left right ∷ xs) ys h g = few_append xs ys h g
few_append (Copy part link inside ∷ xs) ys h g = few_append xs ys h g
few_append (Bound integer link inside ∷ xs) ys h g = few_append xs ys h g
few_append (Membrane inside ∷ xs) ys h g = few_append xs ys h g
few_append (Rest of closed inside ∷ xs) ys h g = few_append xs ys h g
few_append (Rule rule inside ∷ xs) ys h g = few_append xs ys h g
few_append (Rules of inside ∷ xs) ys h g = few_append xs ys h g

module _ (s : BodyNames) where
  mutual
    body_few : (inside next : ℕ) (h : Head) → AllByRecursion HasFewLinks (head_leaves h) → AllFew (flat_body s inside next h)
    body_few inside next (head leaves hs cs rcs rs) few =
        leaves_few s inside leaves _ (all_front HasFewLinks leaves (heads_leaves hs) few)
        (few_append (flat_bodies s inside next hs) _ (bodies_few inside next hs (all_back HasFewLinks leaves (heads_leaves hs) few))
        (contexts_few s inside cs _ (rules_few s inside rs _ (rule_contexts_few s inside rcs))))

    bodies_few : (inside next : ℕ) (hs : Heads) → AllByRecursion HasFewLinks (heads_leaves hs) → AllFew (flat_bodies s inside next hs)
    bodies_few inside next no_head few = tt
    bodies_few inside next (head_and h hs) few =
        few_append (flat_body s next (next + 1) h) _ (body_few next (next + 1) h (all_front HasFewLinks (head_leaves h) (heads_leaves hs) few))
        (bodies_few inside (next + 1 + size h) hs (all_back HasFewLinks (head_leaves h) (heads_leaves hs) few))

  -- the atoms of a flat body have as few links as those of the body
  pub all_few : (k : ℕ) (l : Level) → AllByRecursion HasFewLinks (leaves_of l) → AllFew (body_items s k l)
  all_few k l few = subst AllFew (sym (items_flat s k l)) (body_few 0 (1 + k) (head_at l) (subst (AllByRecursion HasFewLinks) (same_leaves l) few))

-- ---- links have numbers

-- items whose atoms have few links, and whose links are below a number
body_fits : (n : ℕ) (xs : List BodyItem) → AllFew xs → AllBelow n (body_links xs) → BodyFits n xs
body_fits n [] few low = tt
body_fits n (Atom functor links inside ∷ xs) few low = (few.0, below_front n links (body_links xs) low, body_fits n xs few.1 (below_back n links (body_links xs) low))
body_fits n (Connector left right ∷ xs) few low = (low.0, low.1.0, body_fits n xs few low.1.1)
body_fits n (Copy part link inside ∷ xs) few low = (low.0, body_fits n xs few low.1)
body_fits n (Bound integer link inside ∷ xs) few low = (low.0, body_fits n xs few low.1)
body_fits n (Membrane inside ∷ xs) few low = body_fits n xs few low
body_fits n (Rest of closed inside ∷ xs) few low = body_fits n xs few low
body_fits n (Rule rule inside ∷ xs) few low = body_fits n xs few low
body_fits n (Rules of inside ∷ xs) few low = body_fits n xs few low

-- links that are numbered by first occurrence are below their number, which isn't greater than how many occurrences there are
pub numbers_below : (n m : ℕ) (xs : List ℕ) → Numbers n xs m → (n ≤ m) × (m ≤ n + length xs) × AllBelow m xs
numbers_below n m xs no_more = (omega arith, omega arith, tt)
numbers_below n m xs (known l rest) = let r = numbers_below _ _ _ rest in let a = r.0 in let b = r.1 in (a, omega (arith, b), (omega (arith, l, a), r.2))
numbers_below n m xs (new rest) = let r = numbers_below _ _ _ rest in let a = r.0 in let b = r.1 in (omega (arith, a), omega (arith, b), (omega (arith, a), r.2))

-- the links of a body are below the length of its rule's table
pub links_fit : (s : BodyNames) (k : ℕ) (top body : Level) (n : ℕ) → AllByRecursion HasFewLinks (leaves_of body) → NumbersLinks (flat_map links_of (top ∷ (body ∷ []))) n → BodyFits n (body_items s k body)
links_fit s k top body n few numbers =
    body_fits n (body_items s k body) (all_few s k body few)
    (subst (AllBelow n) (sym (links_kept s k body)) (below_front n (links_of body) [] (below_back n (links_of top) (links_of body ++ []) (numbers_below 0 n _ numbers).2)))

occurrences_few : (ls : List Leaf) → AllByRecursion HasFewLinks ls → length (map (λ o. o.link) (flat_map occurrences_of_leaf ls)) ≤ most_links * length ls
occurrences_few [] few = omega arith
occurrences_few (leaf.Atom f os p ∷ ls) few =
    let a = ap length (map-append (λ (o : Occ). o.link) os (flat_map occurrences_of_leaf ls)) in
    let b = length-append (map (λ (o : Occ). o.link) os) (map (λ (o : Occ). o.link) (flat_map occurrences_of_leaf ls)) in
    let c = as_many os in
    let d = few.0 in
    let e = occurrences_few ls few.1 in
    omega (arith, a, b, c, d, e)
  where
    as_many : (os : List Occ) → length (map (λ o. o.link) os) ≡ length os
    as_many [] = refl
    as_many (o ∷ os) = let e = as_many os in omega (arith, e)
occurrences_few (leaf.Typed n o p ∷ ls) few = let e = occurrences_few ls few.1 in omega (arith, e)

mutual
  leaves_many : (h : Head) → length (head_leaves h) ≤ head_number h
  leaves_many (head leaves hs cs rcs rs) = let a = length-append leaves (heads_leaves hs) in let b = all_leaves_many hs in omega (arith, a, b)

  all_leaves_many : (hs : Heads) → length (heads_leaves hs) ≤ heads_number hs
  all_leaves_many no_head = omega arith
  all_leaves_many (head_and h hs) = let a = length-append (head_leaves h) (heads_leaves hs) in let b = leaves_many h in let c = all_leaves_many hs in omega (arith, a, b, c)

-- a level has no more occurrences of links than its items may have
pub links_many : (l : Level) → AllByRecursion HasFewLinks (leaves_of l) → length (links_of l) ≤ most_links * number_of_items l
links_many l few =
    let a = occurrences_few (leaves_of l) few in
    let b = ap length (same_leaves l) in
    let c = leaves_many (head_at l) in
    let d = same_number l in
    omega (arith, a, b, c, d)

mutual
  size_many : (h : Head) → size h ≤ head_number h
  size_many (head leaves hs cs rcs rs) = let a = sizes_many hs in omega (arith, a)

  sizes_many : (hs : Heads) → sizes hs ≤ heads_length hs + heads_number hs
  sizes_many no_head = omega arith
  sizes_many (head_and h hs) = let a = size_many h in let b = sizes_many hs in omega (arith, a, b)

-- a level has no more membranes than items
pub size_few : (s : BodyNames) (l : Level) → (unnumbered_body s l).size ≤ number_of_items l
size_few s l = let a = same_size s l in let b = size_many (head_at l) in let c = same_number l in omega (arith, a, b, c)

-- a rule has no more links than occurrences of links
pub links_counted : (top body : Level) (n : ℕ) → NumbersLinks (flat_map links_of (top ∷ (body ∷ []))) n → n ≤ length (links_of top) + length (links_of body)
links_counted top body n numbers =
    let a = (numbers_below 0 n _ numbers).1 in
    let b = length-append (links_of top) (links_of body ++ []) in
    let c = length-append (links_of body) [] in
    omega (arith, a, b, c)
