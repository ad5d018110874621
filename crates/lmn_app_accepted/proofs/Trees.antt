-- Levels as trees of the calculus: the contexts, links and rules that stand in them, by the items of the level.
use Rattle.std.proofs.Common.{ℕ, zero, suc, ◌≡◌, Bool, true, false, cond, List, [], ◌∷◌, ◌++◌, map, length, refl, sym, ap, ◌∙◌}
use Rattle.std.specs.List.{AllByRecursion, flat_map}
use Rattle.std.proofs.lemmas.List.{length-map, map-append}
use Rattle.std.proofs.lemmas.List.Concat.{flat_map-append}
use Rattle.lmn_base.specs.declared.functor.Functor.{Functor}
use Rattle.lmn_base.specs.declared.functor.Label.{Label}
use Rattle.lmn_base.specs.declared.functor.Label.TheVariants.{Name, Int}
use Rattle.lmn_base.specs.declared.level.CtxUse.{CtxUse}
use Rattle.lmn_base.specs.declared.level.Leaf.{Leaf}
use Rattle.lmn_base.specs.declared.level.Leaf.TheVariants as leaf
use Rattle.lmn_base.specs.declared.level.Level.{Level}
use Rattle.lmn_base.specs.Items.{leaf_item}
use Rattle.lmn_base_walks.specs.RuleCodes.{behind_the_first}
use Rattle.lmn_base.specs.Solids.{connector}
use Rattle.lmn_adequacy.specs.Accepted.{EachLevel, EachOf, NoConnectorLeaf, AtMostOne, own_leaves, own_contexts, own_rule_contexts, own_rules, all_contexts, contexts_in, open_names, closed_names, all_rule_contexts, rule_contexts_in, typed_links_of, typed_links, typed_links_in, port_links_of, port_links, port_links_in}
use Rattle.lmn_congruence.specs.Rules as tree
use Rattle.lmn_congruence.specs.Translation.{atom_or_connector, leaf_of, name_of, names_of, context_with, context_tree, rules}
use Rattle.lmn_reduction.specs.Firing.{typed_leaves, typed_contexts, typed_contexts_in}
use Rattle.lmn_solid_heads.proofs.HeadTrees.{Head, Heads, head, no_head, head_and, head_leaves, heads_leaves, head_uses, heads_uses}
use Rattle.lmn_app_accepted.proofs.Listed.{N}
use Rattle.lmn_app_accepted.proofs.Items.{untyped_name, bare_name, closed_name, typed_name, rule_context_name, rule_number, open_use, closed_use, gathered, gathered_in, own_seconds, untyped_own, bare_own, closed_own, rule_context_own, typed_own, rule_own}
use Rattle.lmn_base.proofs.Lists.{all_left as all_front, all_right as all_back, two_empty}
use Rattle.lmn_adequacy_heaps.proofs.HeadTrees.{tree_of, trees_of}

-- ---- the names of contexts

-- the name of a context, open or closed
abbrev pub name_in : tree.Context → tree.Name
name_in (tree.open_context p) = p
name_in (tree.closed_context p) = p

open_names_append : (ps qs : List tree.Context) → open_names (ps ++ qs) ≡ open_names ps ++ open_names qs
open_names_append [] qs = refl
open_names_append (tree.open_context p ∷ ps) qs = ap (λ ns. p ∷ ns) (open_names_append ps qs)
open_names_append (tree.closed_context p ∷ ps) qs = open_names_append ps qs

closed_names_append : (ps qs : List tree.Context) → closed_names (ps ++ qs) ≡ closed_names ps ++ closed_names qs
closed_names_append [] qs = refl
closed_names_append (tree.open_context p ∷ ps) qs = closed_names_append ps qs
closed_names_append (tree.closed_context p ∷ ps) qs = ap (λ ns. p ∷ ns) (closed_names_append ps qs)

-- ---- of the tree

module _ (names : List tree.Name) (rule : ℕ → tree.Rule) where
  named : (us : List CtxUse) → map (N names) (map (λ u. u.name) us) ≡ names_of names us
  named [] = refl
  named (u ∷ us) = ap (λ ns. N names u.name ∷ ns) (named us)

  -- contexts by their uses

  names_of_uses : (us : List CtxUse) → map name_in (map (context_tree names) us) ≡ map (N names) (map (λ u. u.name) us)
  names_of_uses [] = refl
  names_of_uses (u ∷ us) = λ i. one u.closed i ∷ names_of_uses us i
    where
      one : (closed : Bool) → name_in (context_with closed (N names u.name)) ≡ N names u.name
      one true = refl
      one false = refl

  open_of_uses : (us : List CtxUse) → open_names (map (context_tree names) us) ≡ map (N names) (flat_map open_use us)
  open_of_uses [] = refl
  open_of_uses (u ∷ us) = one u.closed ∙ ap (λ ns. map (N names) (open_use u) ++ ns) (open_of_uses us) ∙ sym (map-append (N names) (open_use u) (flat_map open_use us))
    where
      one : (closed : Bool) → open_names (context_with closed (N names u.name) ∷ map (context_tree names) us) ≡ map (N names) (cond closed [] (u.name ∷ [])) ++ open_names (map (context_tree names) us)
      one true = refl
      one false = refl

  closed_of_uses : (us : List CtxUse) → closed_names (map (context_tree names) us) ≡ map (N names) (flat_map closed_use us)
  closed_of_uses [] = refl
  closed_of_uses (u ∷ us) = one u.closed ∙ ap (λ ns. map (N names) (closed_use u) ++ ns) (closed_of_uses us) ∙ sym (map-append (N names) (closed_use u) (flat_map closed_use us))
    where
      one : (closed : Bool) → closed_names (context_with closed (N names u.name) ∷ map (context_tree names) us) ≡ map (N names) (cond closed (u.name ∷ []) []) ++ closed_names (map (context_tree names) us)
      one true = refl
      one false = refl

  mutual
    pub contexts_named : (h : Head) → map name_in (all_contexts (tree_of names rule h)) ≡ map (N names) (flat_map untyped_name (head_uses h))
    contexts_named (head ls hs cs os rs) =
        map-append name_in (map (context_tree names) cs) (contexts_in (trees_of names rule hs))
        ∙ (λ i. names_of_uses cs i ++ all_contexts_named hs i) ∙ sym (map-append (N names) (map (λ u. u.name) cs) (flat_map untyped_name (heads_uses hs)))
        ∙ sym (ap (map (N names)) (untyped_own ls cs os rs (heads_uses hs)))

    all_contexts_named : (hs : Heads) → map name_in (contexts_in (trees_of names rule hs)) ≡ map (N names) (flat_map untyped_name (heads_uses hs))
    all_contexts_named no_head = refl
    all_contexts_named (head_and h hs) =
        map-append name_in (all_contexts (tree_of names rule h)) (contexts_in (trees_of names rule hs))
        ∙ (λ i. contexts_named h i ++ all_contexts_named hs i) ∙ sym (map-append (N names) (flat_map untyped_name (head_uses h)) (flat_map untyped_name (heads_uses hs)))
        ∙ sym (ap (map (N names)) (flat_map-append untyped_name (head_uses h) (heads_uses hs)))

  mutual
    pub open_named : (h : Head) → open_names (all_contexts (tree_of names rule h)) ≡ map (N names) (flat_map bare_name (head_uses h))
    open_named (head ls hs cs os rs) =
        open_names_append (map (context_tree names) cs) (contexts_in (trees_of names rule hs))
        ∙ (λ i. open_of_uses cs i ++ all_open_named hs i) ∙ sym (map-append (N names) (flat_map open_use cs) (flat_map bare_name (heads_uses hs)))
        ∙ sym (ap (map (N names)) (bare_own ls cs os rs (heads_uses hs)))

    all_open_named : (hs : Heads) → open_names (contexts_in (trees_of names rule hs)) ≡ map (N names) (flat_map bare_name (heads_uses hs))
    all_open_named no_head = refl
    all_open_named (head_and h hs) =
        open_names_append (all_contexts (tree_of names rule h)) (contexts_in (trees_of names rule hs))
        ∙ (λ i. open_named h i ++ all_open_named hs i) ∙ sym (map-append (N names) (flat_map bare_name (head_uses h)) (flat_map bare_name (heads_uses hs)))
        ∙ sym (ap (map (N names)) (flat_map-append bare_name (head_uses h) (heads_uses hs)))

  mutual
    pub closed_named : (h : Head) → closed_names (all_contexts (tree_of names rule h)) ≡ map (N names) (flat_map closed_name (head_uses h))
    closed_named (head ls hs cs os rs) =
        closed_names_append (map (context_tree names) cs) (contexts_in (trees_of names rule hs))
        ∙ (λ i. closed_of_uses cs i ++ all_closed_named hs i) ∙ sym (map-append (N names) (flat_map closed_use cs) (flat_map closed_name (heads_uses hs)))
        ∙ sym (ap (map (N names)) (closed_own ls cs os rs (heads_uses hs)))

    all_closed_named : (hs : Heads) → closed_names (contexts_in (trees_of names rule hs)) ≡ map (N names) (flat_map closed_name (heads_uses hs))
    all_closed_named no_head = refl
    all_closed_named (head_and h hs) =
        closed_names_append (all_contexts (tree_of names rule h)) (contexts_in (trees_of names rule hs))
        ∙ (λ i. closed_named h i ++ all_closed_named hs i) ∙ sym (map-append (N names) (flat_map closed_name (head_uses h)) (flat_map closed_name (heads_uses hs)))
        ∙ sym (ap (map (N names)) (flat_map-append closed_name (head_uses h) (heads_uses hs)))

  mutual
    pub rule_contexts_named : (h : Head) → all_rule_contexts (tree_of names rule h) ≡ map (N names) (flat_map rule_context_name (head_uses h))
    rule_contexts_named (head ls hs cs os rs) =
        (λ i. sym (named os) i ++ all_rule_contexts_named hs i) ∙ sym (map-append (N names) (map (λ u. u.name) os) (flat_map rule_context_name (heads_uses hs)))
        ∙ sym (ap (map (N names)) (rule_context_own ls cs os rs (heads_uses hs)))

    all_rule_contexts_named : (hs : Heads) → rule_contexts_in (trees_of names rule hs) ≡ map (N names) (flat_map rule_context_name (heads_uses hs))
    all_rule_contexts_named no_head = refl
    all_rule_contexts_named (head_and h hs) =
        (λ i. rule_contexts_named h i ++ all_rule_contexts_named hs i) ∙ sym (map-append (N names) (flat_map rule_context_name (head_uses h)) (flat_map rule_context_name (heads_uses hs)))
        ∙ sym (ap (map (N names)) (flat_map-append rule_context_name (head_uses h) (heads_uses hs)))

  atom_skipped : (l : Label) (xs : List ℕ) (ls : List tree.Leaf) → typed_leaves (atom_or_connector names l xs ∷ ls) ≡ typed_leaves ls
  atom_skipped (Name zero) [] ls = refl
  atom_skipped (Name zero) (x ∷ []) ls = refl
  atom_skipped (Name zero) (x ∷ (y ∷ [])) ls = refl
  atom_skipped (Name zero) (x ∷ (y ∷ (z ∷ xs))) ls = refl
  atom_skipped (Name (suc n)) xs ls = refl
  atom_skipped (Int z) xs ls = refl

  leaves_named : (ls : List Leaf) → typed_leaves (map (leaf_of names) ls) ≡ map (N names) (flat_map typed_name (map leaf_item ls))
  leaves_named [] = refl
  leaves_named (leaf.Atom f os p ∷ ls) = atom_skipped f.label (map (λ o. o.link) os) (map (leaf_of names) ls) ∙ leaves_named ls
  leaves_named (leaf.Typed n o p ∷ ls) = ap (λ ns. N names n ∷ ns) (leaves_named ls)

  mutual
    pub typed_named : (h : Head) → typed_contexts (tree_of names rule h) ≡ map (N names) (flat_map typed_name (head_uses h))
    typed_named (head ls hs cs os rs) =
        (λ i. leaves_named ls i ++ all_typed_named hs i) ∙ sym (map-append (N names) (flat_map typed_name (map leaf_item ls)) (flat_map typed_name (heads_uses hs)))
        ∙ sym (ap (map (N names)) (typed_own ls cs os rs (heads_uses hs)))

    all_typed_named : (hs : Heads) → typed_contexts_in (trees_of names rule hs) ≡ map (N names) (flat_map typed_name (heads_uses hs))
    all_typed_named no_head = refl
    all_typed_named (head_and h hs) =
        (λ i. typed_named h i ++ all_typed_named hs i) ∙ sym (map-append (N names) (flat_map typed_name (head_uses h)) (flat_map typed_name (heads_uses hs)))
        ∙ sym (ap (map (N names)) (flat_map-append typed_name (head_uses h) (heads_uses hs)))

  -- ---- rules

  no_rules_here : (rs : List ℕ) → rs ≡ [] → rules (map rule rs) ≡ tree.no_rule
  no_rules_here rs e = ap (λ ks. rules (map rule ks)) e

  mutual
    pub no_rules_stand : (h : Head) → flat_map rule_number (head_uses h) ≡ [] → EachLevel (λ l. own_rules l ≡ tree.no_rule) (tree_of names rule h)
    no_rules_stand (head ls hs cs os rs) e =
        let apart = two_empty rs (flat_map rule_number (heads_uses hs)) (sym (rule_own ls cs os rs (heads_uses hs)) ∙ e) in
        (no_rules_here rs apart.0, no_rules_in hs apart.1)

    no_rules_in : (hs : Heads) → flat_map rule_number (heads_uses hs) ≡ [] → EachOf (λ l. own_rules l ≡ tree.no_rule) (trees_of names rule hs)
    no_rules_in no_head e = tt
    no_rules_in (head_and h hs) e =
        let apart = two_empty (flat_map rule_number (head_uses h)) (flat_map rule_number (heads_uses hs)) (sym (flat_map-append rule_number (head_uses h) (heads_uses hs)) ∙ e) in
        (no_rules_stand h apart.0, no_rules_in hs apart.1)

  -- ---- connectors

  -- an atom with as many links as its arity, and no connector
  abbrev pub IsPlainLeaf : Leaf → Type 0
  IsPlainLeaf (leaf.Atom f os p) = (length os ≡ f.arity) × (¬ (f ≡ connector))
  IsPlainLeaf (leaf.Typed n o p) = Unit {0}

  -- such an atom is no connector of the calculus
  plain_atom : (f : Functor) (xs : List ℕ) (ls : List tree.Leaf) → length xs ≡ f.arity → ¬ (f ≡ connector)
      → (NoConnectorLeaf ls → NoConnectorLeaf (atom_or_connector names f.label xs ∷ ls)) × (port_links_of (atom_or_connector names f.label xs ∷ ls) ≡ xs ++ port_links_of ls) × (typed_links_of (atom_or_connector names f.label xs ∷ ls) ≡ typed_links_of ls)
  plain_atom f xs ls e other = by f.label refl xs e
    where
      by : (l : Label) → f.label ≡ l → (ys : List ℕ) → length ys ≡ f.arity
          → (NoConnectorLeaf ls → NoConnectorLeaf (atom_or_connector names l ys ∷ ls)) × (port_links_of (atom_or_connector names l ys ∷ ls) ≡ ys ++ port_links_of ls) × (typed_links_of (atom_or_connector names l ys ∷ ls) ≡ typed_links_of ls)
      by (Name zero) q [] e = (λ k. k, refl, refl)
      by (Name zero) q (x ∷ []) e = (λ k. k, refl, refl)
      by (Name zero) q (x ∷ (y ∷ [])) e = absurd (other (λ i. record { label = q i; arity = sym e i }))
      by (Name zero) q (x ∷ (y ∷ (z ∷ ys))) e = (λ k. k, refl, refl)
      by (Name (suc n)) q ys e = (λ k. k, refl, refl)
      by (Int z) q ys e = (λ k. k, refl, refl)

  -- the links of typed contexts, and of atoms
  abbrev pub typed_link : Leaf → List ℕ
  typed_link (leaf.Atom f os p) = []
  typed_link (leaf.Typed n o p) = o.link ∷ []

  abbrev pub atom_links : Leaf → List ℕ
  atom_links (leaf.Atom f os p) = map (λ o. o.link) os
  atom_links (leaf.Typed n o p) = []

  record LeavesAre (ls : List Leaf) : Type 0 where
    no_connector : NoConnectorLeaf (map (leaf_of names) ls)
    typed : typed_links_of (map (leaf_of names) ls) ≡ flat_map typed_link ls
    ports : port_links_of (map (leaf_of names) ls) ≡ flat_map atom_links ls

  leaves_are : (ls : List Leaf) → AllByRecursion IsPlainLeaf ls → LeavesAre ls
  leaves_are [] h = record { no_connector = tt; typed = refl; ports = refl }
  leaves_are (leaf.Atom f os p ∷ ls) h =
      let links = map (λ o. o.link) os in
      let one = plain_atom f links (map (leaf_of names) ls) (length-map os (λ o. o.link) ∙ h.0.0) h.0.1 in
      let rest = leaves_are ls h.1 in
      record { no_connector = one.0 rest.no_connector; typed = one.2 ∙ rest.typed; ports = one.1 ∙ ap (λ xs. links ++ xs) rest.ports }
  leaves_are (leaf.Typed n o p ∷ ls) h =
      let rest = leaves_are ls h.1 in
      record { no_connector = rest.no_connector; typed = ap (λ xs. o.link ∷ xs) rest.typed; ports = rest.ports }

  pub record LevelIs (h : Head) : Type 0 where
    pub no_connectors : EachLevel (λ l. NoConnectorLeaf (own_leaves l)) (tree_of names rule h)
    pub typed : typed_links (tree_of names rule h) ≡ flat_map typed_link (head_leaves h)
    pub ports : port_links (tree_of names rule h) ≡ flat_map atom_links (head_leaves h)

  record LevelsAre (hs : Heads) : Type 0 where
    no_connectors : EachOf (λ l. NoConnectorLeaf (own_leaves l)) (trees_of names rule hs)
    typed : typed_links_in (trees_of names rule hs) ≡ flat_map typed_link (heads_leaves hs)
    ports : port_links_in (trees_of names rule hs) ≡ flat_map atom_links (heads_leaves hs)

  mutual
    pub level_is : (h : Head) → AllByRecursion IsPlainLeaf (head_leaves h) → LevelIs h
    level_is (head ls hs cs os rs) k =
        let here = leaves_are ls (all_front IsPlainLeaf ls (heads_leaves hs) k) in
        let below = levels_are hs (all_back IsPlainLeaf ls (heads_leaves hs) k) in
        record {
          no_connectors = (here.no_connector, below.no_connectors);
          typed = (λ i. here.typed i ++ below.typed i) ∙ sym (flat_map-append typed_link ls (heads_leaves hs));
          ports = (λ i. here.ports i ++ below.ports i) ∙ sym (flat_map-append atom_links ls (heads_leaves hs));
        }

    levels_are : (hs : Heads) → AllByRecursion IsPlainLeaf (heads_leaves hs) → LevelsAre hs
    levels_are no_head k = record { no_connectors = tt; typed = refl; ports = refl }
    levels_are (head_and h hs) k =
        let one = level_is h (all_front IsPlainLeaf (head_leaves h) (heads_leaves hs) k) in
        let rest = levels_are hs (all_back IsPlainLeaf (head_leaves h) (heads_leaves hs) k) in
        record {
          no_connectors = (one.no_connectors, rest.no_connectors);
          typed = (λ i. one.typed i ++ rest.typed i) ∙ sym (flat_map-append typed_link (head_leaves h) (heads_leaves hs));
          ports = (λ i. one.ports i ++ rest.ports i) ∙ sym (flat_map-append atom_links (head_leaves h) (heads_leaves hs));
        }

  -- ---- contexts of one membrane

  abbrev pub Few : tree.Level → Type 0
  Few l = AtMostOne (own_contexts l) × AtMostOne (own_rule_contexts l)

  at_most_one : {X : Type 0} (f : CtxUse → X) (us : List CtxUse) → behind_the_first us ≡ [] → AtMostOne (map f us)
  at_most_one f [] e = tt
  at_most_one f (u ∷ []) e = tt
  at_most_one f (u ∷ (v ∷ us)) e = absurd (cc)

  mutual
    few_here : (h : Head) → AllByRecursion (λ ps. ps ≡ []) (gathered own_seconds h) → EachLevel Few (tree_of names rule h)
    few_here (head ls hs cs os rs) k =
        let apart = two_empty (behind_the_first cs) (behind_the_first os) k.0 in
        ((at_most_one (context_tree names) cs apart.0, at_most_one (λ u. name_of names u.name) os apart.1), few_in hs k.1)

    pub few_in : (hs : Heads) → AllByRecursion (λ ps. ps ≡ []) (gathered_in own_seconds hs) → EachOf Few (trees_of names rule hs)
    few_in no_head k = tt
    few_in (head_and h hs) k = (
      few_here h (all_front (λ ps. ps ≡ []) (gathered own_seconds h) (gathered_in own_seconds hs) k),
      few_in hs (all_back (λ ps. ps ≡ []) (gathered own_seconds h) (gathered_in own_seconds hs) k),
    )
