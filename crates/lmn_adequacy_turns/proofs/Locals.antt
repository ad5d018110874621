-- What a body adds to the membrane of a level is what the items of the level add to it.
use Rattle.std.proofs.Common.{ℕ, ◌+◌, ◌<◌, ◌≤◌, ◌≡◌, ◌≢◌, ◌⊎◌, inl, inr, suc, Bool, true, false, List, [], ◌∷◌, ◌++◌, map, Option, Some, None, refl, ap, subst, ◌∙◌, arith}
use Rattle.lmn_base.specs.declared.functor.Functor.{Functor}
use Rattle.lmn_base.specs.declared.level.CtxUse.{CtxUse}
use Rattle.lmn_base.specs.declared.level.Leaf.{Leaf}
use Rattle.lmn_base.specs.declared.level.Leaf.TheVariants as leaf
use Rattle.lmn_base.specs.Solids.{connector}
use Rattle.lmn_store_heap.specs.Functors.{same_functor}
use Rattle.std.proofs.lemmas.List.{append-nil}
use Rattle.lmn_solid_heads.proofs.HeadTrees.{Head, Heads, head, no_head, head_and, size, sizes}
use Rattle.lmn_solid_bodies.specs.declared.items.BodyItem.{BodyItem}
use Rattle.lmn_solid_bodies.specs.declared.items.BodyItem.TheVariants.{Membrane, Rest}
use Rattle.lmn_solid_bodies.specs.Flattening.{BodyNames, atom_item, typed_item, body_leaf_items, context_items, body_rule_items, rule_context_items}
use Rattle.lmn_compile_body.proofs.BodyTrees.{flat_body, flat_bodies}
use Rattle.lmn_adequacy_turns.proofs.Adders.{at, many, many_both, past, past_both, closed_past, closed_both, Elsewhere, Misses, misses_both, EachRest, rests_in_row, each_rest, Away, Adder}
use Rattle.lmn_solid_bodies.specs.RestCopies.{RestCopies}
use Rattle.lmn_solid_bodies.specs.Running.{Registers}

-- ---- the numbers of copies

-- the number of the next copy behind a typed context
abbrev pub next_copy : Option ℕ → ℕ → ℕ
next_copy (Some g) k = k + 1
next_copy None k = k

-- and behind leaves
abbrev pub after_leaves : BodyNames → ℕ → List Leaf → ℕ
after_leaves bn k [] = k
after_leaves bn k (leaf.Atom f os p ∷ ls) = after_leaves bn k ls
after_leaves bn k (leaf.Typed n o p ∷ ls) = after_leaves bn (next_copy (bn.part n) k) ls

-- and behind a level
abbrev mutual
  pub after_level : BodyNames → ℕ → Head → ℕ
  after_level bn k (head leaves hs cs rcs rs) = after_levels bn (after_leaves bn k leaves) hs

  pub after_levels : BodyNames → ℕ → Heads → ℕ
  after_levels bn k no_head = k
  after_levels bn k (head_and h hs) = after_levels bn (after_level bn k h) hs

atom_past : (b : Bool) (f : Functor) (ys : List ℕ) (inside k : ℕ) (xs : List BodyItem) → past k (atom_item b f ys inside ∷ xs) ≡ past k xs
atom_past true f [] inside k xs = refl
atom_past true f (a ∷ []) inside k xs = refl
atom_past true f (a ∷ (b ∷ [])) inside k xs = refl
atom_past true f (a ∷ (b ∷ (c ∷ ys))) inside k xs = refl
atom_past false f ys inside k xs = refl

typed_past : (o : Option ℕ) (i x inside k : ℕ) (xs : List BodyItem) → past k (typed_item o i x inside ∷ xs) ≡ past (next_copy o k) xs
typed_past (Some g) i x inside k xs = refl
typed_past None i x inside k xs = refl

module _ (bn : BodyNames) where
  pub leaves_past : (inside k : ℕ) (ls : List Leaf) → past k (body_leaf_items bn inside ls) ≡ after_leaves bn k ls
  leaves_past inside k [] = refl
  leaves_past inside k (leaf.Atom f os p ∷ ls) = atom_past (same_functor f connector) f (map (λ o. o.link) os) inside k (body_leaf_items bn inside ls) ∙ leaves_past inside k ls
  leaves_past inside k (leaf.Typed n o p ∷ ls) = typed_past (bn.part n) (bn.integer n) o.link inside k (body_leaf_items bn inside ls) ∙ leaves_past inside (next_copy (bn.part n) k) ls

  pub contexts_past : (inside k : ℕ) (us : List CtxUse) → past k (context_items bn inside us) ≡ k
  contexts_past inside k [] = refl
  contexts_past inside k (u ∷ us) = contexts_past inside k us

  rules_past : (inside k : ℕ) (ks : List ℕ) → past k (body_rule_items inside ks) ≡ k
  rules_past inside k [] = refl
  rules_past inside k (j ∷ ks) = rules_past inside k ks

  rule_contexts_past : (inside k : ℕ) (us : List CtxUse) → past k (rule_context_items bn inside us) ≡ k
  rule_contexts_past inside k [] = refl
  rule_contexts_past inside k (u ∷ us) = rule_contexts_past inside k us

  mutual
    -- the items of a level make as many copies as the level
    pub level_past : (inside next k : ℕ) (h : Head) → past k (flat_body bn inside next h) ≡ after_level bn k h
    level_past inside next k (head leaves hs cs rcs rs) =
        let n = after_levels bn (after_leaves bn k leaves) hs in
        past_both k (body_leaf_items bn inside leaves) (flat_bodies bn inside next hs ++ (context_items bn inside cs ++ (body_rule_items inside rs ++ rule_context_items bn inside rcs)))
        ∙ ap (λ z. past z (flat_bodies bn inside next hs ++ (context_items bn inside cs ++ (body_rule_items inside rs ++ rule_context_items bn inside rcs)))) (leaves_past inside k leaves)
        ∙ past_both (after_leaves bn k leaves) (flat_bodies bn inside next hs) (context_items bn inside cs ++ (body_rule_items inside rs ++ rule_context_items bn inside rcs))
        ∙ ap (λ z. past z (context_items bn inside cs ++ (body_rule_items inside rs ++ rule_context_items bn inside rcs))) (levels_past inside next (after_leaves bn k leaves) hs)
        ∙ past_both n (context_items bn inside cs) (body_rule_items inside rs ++ rule_context_items bn inside rcs)
        ∙ ap (λ z. past z (body_rule_items inside rs ++ rule_context_items bn inside rcs)) (contexts_past inside n cs)
        ∙ past_both n (body_rule_items inside rs) (rule_context_items bn inside rcs)
        ∙ ap (λ z. past z (rule_context_items bn inside rcs)) (rules_past inside n rs)
        ∙ rule_contexts_past inside n rcs

    pub levels_past : (inside next k : ℕ) (hs : Heads) → past k (flat_bodies bn inside next hs) ≡ after_levels bn k hs
    levels_past inside next k no_head = refl
    levels_past inside next k (head_and h hs) =
        past_both k (flat_body bn next (next + 1) h) (flat_bodies bn inside (next + 1 + size h) hs)
        ∙ ap (λ z. past z (flat_bodies bn inside (next + 1 + size h) hs)) (level_past next (next + 1) k h)
        ∙ levels_past inside (next + 1 + size h) (after_level bn k h) hs

-- ---- the numbers of copies of rests

-- the number of the next copy behind a context
abbrev pub next_closed : Bool → ℕ → ℕ
next_closed true t = suc t
next_closed false t = t

-- behind contexts
abbrev pub closed_after : ℕ → List CtxUse → ℕ
closed_after t [] = t
closed_after t (u ∷ us) = closed_after (next_closed u.closed t) us

-- and behind a level
abbrev mutual
  pub closed_after_level : ℕ → Head → ℕ
  closed_after_level t (head leaves hs cs rcs rs) = closed_after (closed_after_levels t hs) cs

  pub closed_after_levels : ℕ → Heads → ℕ
  closed_after_levels t no_head = t
  closed_after_levels t (head_and h hs) = closed_after_levels (closed_after_level t h) hs

atom_closed : (b : Bool) (f : Functor) (ys : List ℕ) (inside t : ℕ) (xs : List BodyItem) → closed_past t (atom_item b f ys inside ∷ xs) ≡ closed_past t xs
atom_closed true f [] inside t xs = refl
atom_closed true f (a ∷ []) inside t xs = refl
atom_closed true f (a ∷ (b ∷ [])) inside t xs = refl
atom_closed true f (a ∷ (b ∷ (c ∷ ys))) inside t xs = refl
atom_closed false f ys inside t xs = refl

typed_closed : (o : Option ℕ) (i x inside t : ℕ) (xs : List BodyItem) → closed_past t (typed_item o i x inside ∷ xs) ≡ closed_past t xs
typed_closed (Some g) i x inside t xs = refl
typed_closed None i x inside t xs = refl

rest_closed : (b : Bool) (of inside t : ℕ) (xs : List BodyItem) → closed_past t (Rest of b inside ∷ xs) ≡ closed_past (next_closed b t) xs
rest_closed true of inside t xs = refl
rest_closed false of inside t xs = refl

module _ (bn : BodyNames) where
  pub leaves_closed : (inside t : ℕ) (ls : List Leaf) → closed_past t (body_leaf_items bn inside ls) ≡ t
  leaves_closed inside t [] = refl
  leaves_closed inside t (leaf.Atom f os p ∷ ls) = atom_closed (same_functor f connector) f (map (λ o. o.link) os) inside t (body_leaf_items bn inside ls) ∙ leaves_closed inside t ls
  leaves_closed inside t (leaf.Typed n o p ∷ ls) = typed_closed (bn.part n) (bn.integer n) o.link inside t (body_leaf_items bn inside ls) ∙ leaves_closed inside t ls

  pub contexts_closed : (inside t : ℕ) (us : List CtxUse) → closed_past t (context_items bn inside us) ≡ closed_after t us
  contexts_closed inside t [] = refl
  contexts_closed inside t (u ∷ us) = rest_closed u.closed (bn.context u.name) inside t (context_items bn inside us) ∙ contexts_closed inside (next_closed u.closed t) us

  rules_closed : (inside t : ℕ) (ks : List ℕ) → closed_past t (body_rule_items inside ks) ≡ t
  rules_closed inside t [] = refl
  rules_closed inside t (j ∷ ks) = rules_closed inside t ks

  rule_contexts_closed : (inside t : ℕ) (us : List CtxUse) → closed_past t (rule_context_items bn inside us) ≡ t
  rule_contexts_closed inside t [] = refl
  rule_contexts_closed inside t (u ∷ us) = rule_contexts_closed inside t us

  mutual
    -- the items of a level copy as many rests as the level
    pub level_closed : (inside next t : ℕ) (h : Head) → closed_past t (flat_body bn inside next h) ≡ closed_after_level t h
    level_closed inside next t (head leaves hs cs rcs rs) =
        let L = body_leaf_items bn inside leaves in
        let D = flat_bodies bn inside next hs in
        let C = context_items bn inside cs in
        let K = body_rule_items inside rs in
        let Q = rule_context_items bn inside rcs in
        let n = closed_after_levels t hs in
        let m = closed_after n cs in
        closed_both t L (D ++ (C ++ (K ++ Q))) ∙ ap (λ z. closed_past z (D ++ (C ++ (K ++ Q)))) (leaves_closed inside t leaves)
        ∙ closed_both t D (C ++ (K ++ Q)) ∙ ap (λ z. closed_past z (C ++ (K ++ Q))) (levels_closed inside next t hs)
        ∙ closed_both n C (K ++ Q) ∙ ap (λ z. closed_past z (K ++ Q)) (contexts_closed inside n cs)
        ∙ closed_both m K Q ∙ ap (λ z. closed_past z Q) (rules_closed inside m rs)
        ∙ rule_contexts_closed inside m rcs

    pub levels_closed : (inside next t : ℕ) (hs : Heads) → closed_past t (flat_bodies bn inside next hs) ≡ closed_after_levels t hs
    levels_closed inside next t no_head = refl
    levels_closed inside next t (head_and h hs) =
        closed_both t (flat_body bn next (next + 1) h) (flat_bodies bn inside (next + 1 + size h) hs)
        ∙ ap (λ z. closed_past z (flat_bodies bn inside (next + 1 + size h) hs)) (level_closed next (next + 1) t h)
        ∙ levels_closed inside (next + 1 + size h) (closed_after_level t h) hs

-- ---- how many membranes

leaf_makes_none : (b : Bool) (f : Functor) (ys : List ℕ) (inside : ℕ) (xs : List BodyItem) → many (atom_item b f ys inside ∷ xs) ≡ many xs
leaf_makes_none true f [] inside xs = refl
leaf_makes_none true f (a ∷ []) inside xs = refl
leaf_makes_none true f (a ∷ (b ∷ [])) inside xs = refl
leaf_makes_none true f (a ∷ (b ∷ (c ∷ ys))) inside xs = refl
leaf_makes_none false f ys inside xs = refl

typed_makes_none : (o : Option ℕ) (i x inside : ℕ) (xs : List BodyItem) → many (typed_item o i x inside ∷ xs) ≡ many xs
typed_makes_none (Some g) i x inside xs = refl
typed_makes_none None i x inside xs = refl

module _ (bn : BodyNames) where
  pub no_leaf_membrane : (inside : ℕ) (ls : List Leaf) → many (body_leaf_items bn inside ls) ≡ 0
  no_leaf_membrane inside [] = refl
  no_leaf_membrane inside (leaf.Atom f os p ∷ ls) = leaf_makes_none (same_functor f connector) f (map (λ o. o.link) os) inside (body_leaf_items bn inside ls) ∙ no_leaf_membrane inside ls
  no_leaf_membrane inside (leaf.Typed n o p ∷ ls) = typed_makes_none (bn.part n) (bn.integer n) o.link inside (body_leaf_items bn inside ls) ∙ no_leaf_membrane inside ls

  no_context_membrane : (inside : ℕ) (us : List CtxUse) → many (context_items bn inside us) ≡ 0
  no_context_membrane inside [] = refl
  no_context_membrane inside (u ∷ us) = no_context_membrane inside us

  no_rule_membrane : (inside : ℕ) (ks : List ℕ) → many (body_rule_items inside ks) ≡ 0
  no_rule_membrane inside [] = refl
  no_rule_membrane inside (k ∷ ks) = no_rule_membrane inside ks

  no_rule_context_membrane : (inside : ℕ) (us : List CtxUse) → many (rule_context_items bn inside us) ≡ 0
  no_rule_context_membrane inside [] = refl
  no_rule_context_membrane inside (u ∷ us) = no_rule_context_membrane inside us

  mutual
    -- a level makes as many membranes as it has
    pub many_flat : (inside next : ℕ) (h : Head) → many (flat_body bn inside next h) ≡ size h
    many_flat inside next (head leaves hs cs rcs rs) =
        let a = many_both (body_leaf_items bn inside leaves) (flat_bodies bn inside next hs ++ (context_items bn inside cs ++ (body_rule_items inside rs ++ rule_context_items bn inside rcs))) in
        let b = many_both (flat_bodies bn inside next hs) (context_items bn inside cs ++ (body_rule_items inside rs ++ rule_context_items bn inside rcs)) in
        let c = many_both (context_items bn inside cs) (body_rule_items inside rs ++ rule_context_items bn inside rcs) in
        let d = many_both (body_rule_items inside rs) (rule_context_items bn inside rcs) in
        omega (arith, a, b, c, d, no_leaf_membrane inside leaves, many_inside inside next hs, no_context_membrane inside cs, no_rule_membrane inside rs, no_rule_context_membrane inside rcs)

    many_inside : (inside next : ℕ) (hs : Heads) → many (flat_bodies bn inside next hs) ≡ sizes hs
    many_inside inside next no_head = refl
    many_inside inside next (head_and h hs) =
        let a = many_both (flat_body bn next (next + 1) h) (flat_bodies bn inside (next + 1 + size h) hs) in
        omega (arith, a, many_flat next (next + 1) h, many_inside inside (next + 1 + size h) hs)

  -- ---- where items are written

  module _ (s : Registers) where
    atom_elsewhere : (x : ℕ) (b : Bool) (f : Functor) (ys : List ℕ) (inside : ℕ) → at s inside ≢ x → Elsewhere s x (atom_item b f ys inside)
    atom_elsewhere x true f [] inside d = d
    atom_elsewhere x true f (a ∷ []) inside d = d
    atom_elsewhere x true f (a ∷ (b ∷ [])) inside d = tt
    atom_elsewhere x true f (a ∷ (b ∷ (c ∷ ys))) inside d = d
    atom_elsewhere x false f ys inside d = d

    typed_elsewhere : (x : ℕ) (o : Option ℕ) (i y inside : ℕ) → at s inside ≢ x → Elsewhere s x (typed_item o i y inside)
    typed_elsewhere x (Some g) i y inside d = d
    typed_elsewhere x None i y inside d = d

    pub leaves_miss : (x inside : ℕ) → at s inside ≢ x → (ls : List Leaf) → Misses s x (body_leaf_items bn inside ls)
    leaves_miss x inside d [] = tt
    leaves_miss x inside d (leaf.Atom f os p ∷ ls) = (atom_elsewhere x (same_functor f connector) f (map (λ o. o.link) os) inside d, leaves_miss x inside d ls)
    leaves_miss x inside d (leaf.Typed n o p ∷ ls) = (typed_elsewhere x (bn.part n) (bn.integer n) o.link inside d, leaves_miss x inside d ls)

    contexts_miss : (x inside : ℕ) → at s inside ≢ x → (us : List CtxUse) → Misses s x (context_items bn inside us)
    contexts_miss x inside d [] = tt
    contexts_miss x inside d (u ∷ us) = (d, contexts_miss x inside d us)

    rules_miss : (x inside : ℕ) → at s inside ≢ x → (ks : List ℕ) → Misses s x (body_rule_items inside ks)
    rules_miss x inside d [] = tt
    rules_miss x inside d (k ∷ ks) = (d, rules_miss x inside d ks)

    rule_contexts_miss : (x inside : ℕ) → at s inside ≢ x → (us : List CtxUse) → Misses s x (rule_context_items bn inside us)
    rule_contexts_miss x inside d [] = tt
    rule_contexts_miss x inside d (u ∷ us) = (d, rule_contexts_miss x inside d us)

    behind_miss : (x inside : ℕ) → at s inside ≢ x → (cs rcs : List CtxUse) (rs : List ℕ) → Misses s x (context_items bn inside cs ++ (body_rule_items inside rs ++ rule_context_items bn inside rcs))
    behind_miss x inside d cs rcs rs =
        misses_both s x (context_items bn inside cs) (body_rule_items inside rs ++ rule_context_items bn inside rcs) (contexts_miss x inside d cs)
        (misses_both s x (body_rule_items inside rs) (rule_context_items bn inside rcs) (rules_miss x inside d rs) (rule_contexts_miss x inside d rcs))

    mutual
      -- a level adds nothing elsewhere
      pub body_misses : (x inside next : ℕ) (h : Head) → at s inside ≢ x → ((j : ℕ) → next ≤ j → j < next + size h → at s j ≢ x) → Misses s x (flat_body bn inside next h)
      body_misses x inside next (head leaves hs cs rcs rs) d o =
          misses_both s x (body_leaf_items bn inside leaves) (flat_bodies bn inside next hs ++ (context_items bn inside cs ++ (body_rule_items inside rs ++ rule_context_items bn inside rcs))) (leaves_miss x inside d leaves)
          (misses_both s x (flat_bodies bn inside next hs) (context_items bn inside cs ++ (body_rule_items inside rs ++ rule_context_items bn inside rcs)) (bodies_miss x inside next hs d o) (behind_miss x inside d cs rcs rs))

      bodies_miss : (x inside next : ℕ) (hs : Heads) → at s inside ≢ x → ((j : ℕ) → next ≤ j → j < next + sizes hs → at s j ≢ x) → Misses s x (flat_bodies bn inside next hs)
      bodies_miss x inside next no_head d o = tt
      bodies_miss x inside next (head_and h hs) d o = (
        d,
        misses_both s x (flat_body bn next (next + 1) h) (flat_bodies bn inside (next + 1 + size h) hs)
            (body_misses x next (next + 1) h (o next (omega arith) (omega arith)) (λ j l k. o j (omega (arith, l)) (omega (arith, k))))
            (bodies_miss x inside (next + 1 + size h) hs d (λ j l k. o j (omega (arith, l)) (omega (arith, k)))),
      )

    -- ---- what is local

    -- OK t of inside: what is known of each copy of a rest, and with it that no copied membrane is that of the rule or one that is written
    module _ {X : Type 0} (q : RestCopies) (A : Adder s q X) (first : ℕ) (B : List BodyItem) (low high : ℕ) (apart : (j k : ℕ) → (j ≡ 0) ⊎ ((low ≤ j) × (j < high)) → (k ≡ 0) ⊎ ((low ≤ k) × (k < high)) → at s j ≡ at s k → j ≡ k)
        (OK : ℕ → ℕ → ℕ → Type 0) (away : (j : ℕ) → (j ≡ 0) ⊎ ((low ≤ j) × (j < high)) → (t of inside : ℕ) → OK t of inside → Away s q (at s j) t of inside) where
      -- a register of the rule's membrane, or of one that is made
      abbrev Used : ℕ → Type 0
      Used j = (j ≡ 0) ⊎ ((low ≤ j) × (j < high))

      -- the body adds to the membranes of a level what the level adds
      abbrev pub Local : Head → ℕ → ℕ → ℕ → ℕ → Type 0
      Local h inside next c t = (j : ℕ) → (j ≡ inside) ⊎ ((next ≤ j) × (j < next + size h)) → A.adds 0 first 0 B (at s j) ≡ A.adds t next c (flat_body bn inside next h) (at s j)

      -- and so for levels side by side
      abbrev pub LocalIn : Heads → ℕ → ℕ → ℕ → ℕ → Type 0
      LocalIn hs inside next c t = (j : ℕ) → next ≤ j → j < next + sizes hs → A.adds 0 first 0 B (at s j) ≡ A.adds t next c (flat_bodies bn inside next hs) (at s j)

      differ : (j k : ℕ) → Used j → Used k → j ≢ k → at s j ≢ at s k
      differ j k u w d e = d (apart j k u w e)

      all_away : (j : ℕ) → Used j → (t : ℕ) (xs : List BodyItem) → EachRest OK t xs → EachRest (Away s q (at s j)) t xs
      all_away j u t xs r = each_rest OK (Away s q (at s j)) (away j u) t xs r

      skip : (n k c d t e : ℕ) (xs ys : List BodyItem) (x : ℕ) → Misses s x xs → EachRest (Away s q x) t xs → many xs ≡ k → past c xs ≡ d → closed_past t xs ≡ e → A.adds t n c (xs ++ ys) x ≡ A.adds e (n + k) d ys x
      skip n k c d t e xs ys x m r same_many same_past same_closed =
          A.both t n c xs ys x ∙ ap (λ z. z ++ A.adds (closed_past t xs) (n + many xs) (past c xs) ys x) (A.missed t n c xs x m r) ∙ ap (λ z. A.adds (closed_past t xs) (n + z) (past c xs) ys x) same_many
          ∙ ap (λ z. A.adds (closed_past t xs) (n + k) z ys x) same_past ∙ ap (λ z. A.adds z (n + k) d ys x) same_closed

      front : (n c t : ℕ) (xs ys : List BodyItem) (x : ℕ) → Misses s x ys → EachRest (Away s q x) (closed_past t xs) ys → A.adds t n c (xs ++ ys) x ≡ A.adds t n c xs x
      front n c t xs ys x m r = A.both t n c xs ys x ∙ ap (λ z. A.adds t n c xs x ++ z) (A.missed (closed_past t xs) (n + many xs) (past c xs) ys x m r) ∙ append-nil (A.adds t n c xs x)

      pub local_inside : (inside next c t : ℕ) (leaves : List Leaf) (hs : Heads) (cs rcs : List CtxUse) (rs : List ℕ) → EachRest OK t (flat_body bn inside next (head leaves hs cs rcs rs)) → Used inside → low ≤ next → inside < next → next + sizes hs ≤ high →
          Local (head leaves hs cs rcs rs) inside next c t → LocalIn hs inside next (after_leaves bn c leaves) t
      local_inside inside next c t leaves hs cs rcs rs R u l i top L j a b =
          let used : Used j = inr (omega (arith, l, a), omega (arith, b, top)) in
          let d = differ inside j u used (λ e. omega (arith, e, i, a)) in
          let z : next + 0 ≡ next = omega arith in
          let c' = after_leaves bn c leaves in
          let E = body_leaf_items bn inside leaves in
          let D = flat_bodies bn inside next hs in
          let T = context_items bn inside cs ++ (body_rule_items inside rs ++ rule_context_items bn inside rcs) in
          let closed = leaves_closed bn inside t leaves in
          let r = rests_in_row OK t E (D ++ T) R in
          let v = rests_in_row OK t D T (subst (λ z. EachRest OK z (D ++ T)) closed r.1) in
          L j (inr (a, b))
          ∙ skip next 0 c c' t t E (D ++ T) (at s j) (leaves_miss (at s j) inside d leaves) (all_away j used t E r.0) (no_leaf_membrane inside leaves) (leaves_past bn inside c leaves) closed
          ∙ ap (λ n. A.adds t n c' (D ++ T) (at s j)) z
          ∙ front next c' t D T (at s j) (behind_miss (at s j) inside d cs rcs rs) (all_away j used (closed_past t D) T v.1)

      pub local_first : (inside next c t : ℕ) (h : Head) (hs : Heads) → EachRest OK t (flat_bodies bn inside next (head_and h hs)) → Used inside → low ≤ next → inside < next → next + sizes (head_and h hs) ≤ high →
          LocalIn (head_and h hs) inside next c t → Local h next (next + 1) c t
      local_first inside next c t h hs R u l i top L j w =
          let within : (next ≤ j) × (j < next + 1 + size h) = elim w [ inl e ↦ (omega (arith, e), omega (arith, e)) | inr p ↦ (let a = p.0 in omega (arith, a), p.1) ] in
          let a = within.0 in
          let b = within.1 in
          let used : Used j = inr (omega (arith, l, a), omega (arith, b, top)) in
          let d = differ inside j u used (λ e. omega (arith, e, i, a)) in
          let others = bodies_miss (at s j) inside (next + 1 + size h) hs d (λ k x e. differ k j (inr (omega (arith, l, x), omega (arith, e, top))) used (λ q. omega (arith, q, x, b))) in
          let inner = flat_body bn next (next + 1) h in
          let behind = flat_bodies bn inside (next + 1 + size h) hs in
          let r = rests_in_row OK t inner behind R in
          L j a (omega (arith, b))
          ∙ skip next 1 c c t t (Membrane inside ∷ []) (inner ++ behind) (at s j) (d, tt) tt refl refl refl
          ∙ front (next + 1) c t inner behind (at s j) others (all_away j used (closed_past t inner) behind r.1)

      pub local_rest : (inside next c t : ℕ) (h : Head) (hs : Heads) → EachRest OK t (flat_bodies bn inside next (head_and h hs)) → Used inside → low ≤ next → inside < next → next + sizes (head_and h hs) ≤ high →
          LocalIn (head_and h hs) inside next c t → LocalIn hs inside (next + 1 + size h) (after_level bn c h) (closed_after_level t h)
      local_rest inside next c t h hs R u l i top L j a b =
          let used : Used j = inr (omega (arith, l, a), omega (arith, b, top)) in
          let d = differ inside j u used (λ e. omega (arith, e, i, a)) in
          let mine = body_misses (at s j) next (next + 1) h (differ next j (inr (l, omega (arith, top))) used (λ e. omega (arith, e, a))) (λ k x e. differ k j (inr (omega (arith, l, x), omega (arith, e, top))) used (λ q. omega (arith, q, e, a))) in
          let inner = flat_body bn next (next + 1) h in
          let behind = flat_bodies bn inside (next + 1 + size h) hs in
          let r = rests_in_row OK t inner behind R in
          L j (omega (arith, a)) (omega (arith, b))
          ∙ skip next 1 c c t t (Membrane inside ∷ []) (inner ++ behind) (at s j) (d, tt) tt refl refl refl
          ∙ skip (next + 1) (size h) c (after_level bn c h) t (closed_after_level t h) inner behind (at s j) mine (all_away j used t inner r.0) (many_flat next (next + 1) h) (level_past bn next (next + 1) c h) (level_closed bn next (next + 1) t h)
