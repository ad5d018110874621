-- What each part of a tree adds.
use Rattle.std.proofs.Common.{◌≡◌, ℕ, zero, suc, ◌+◌, ◌⊎◌, inl, inr, true, List, [], ◌∷◌, ◌++◌, length, Option, Some, slice_get, refl, sym, ap, ◌∙◌, subst, arith}
use Rattle.std.specs.Prelude.{codes, option_to_list}
use Rattle.std.proofs.lemmas.List.{append_assoc, append-nil, length-append}
use Rattle.std.proofs.lemmas.Option.{same_Some, slice_get_within}
use Rattle.std.specs.List.{AllZip}
use Rattle.lmn_base.specs.declared.level.Level as base_level
use Rattle.lmn_base.specs.declared.level.Occ.{Occ}
use Rattle.lmn_base.specs.declared.refusal.Pos.{Pos}
use Rattle.lmn_base.specs.declared.rule.RuleTree.{RuleTree}
use Rattle.lmn_congruence.specs.Rules.{named}
use Rattle.lmn_parser.specs.Syntax.{Term, Terms, Item, Clause, Clauses, link, atom, list, list_onto, context, membrane, no_term, term_and, as_terms, as_items, as_clauses}
use Rattle.lmn_flatten_plain.specs.Expanded.{ExpandedLeaf, atom_leaf, ExpandedRule}
use Rattle.lmn_flatten_plain.specs.Expansion as expansion
use Rattle.lmn_flatten_plain.specs.Expansion.{argument, expanded_arguments}
use Rattle.lmn_flatten_plain.specs.Keys.{IsLinkIn, IsKey}
use Rattle.lmn_flatten_plain.specs.Links.{Link, Use, made}
use Rattle.lmn_flatten_plain.specs.Meanings.{label_at, place_at}
use Rattle.lmn_flatten_plain.specs.Parts.{Parts, NumberedParts, nothing, joined_parts, ◌⊕◌, one_leaf, one_membrane, level_from_parts}
use Rattle.lmn_flatten_plain.specs.Plains.{IsRuleOf}
use Rattle.lmn_flatten.specs.Built.{IsUse, IsLevel, IsPartOfLevel, AddsLeaf, no_items, with_items}
use Rattle.lmn_flatten.specs.Glossaries.{Reading, IsGlossary}
use Rattle.lmn_flatten.specs.Growing.{MayGrow, GrowsPart, Within, within_first, within_later, Argument, first_argument, later_argument, atom_with, HasNoRules, some_term}
use Rattle.lmn_flatten.specs.Scopes.{IsScope, Clear, Meets, Below, Under, NoWay}
use Rattle.lmn_flatten.specs.declared.glossary.Glossary.{Glossary}
use Rattle.lmn_flatten.specs.declared.part.Part.{Part}
use Rattle.lmn_flatten.specs.declared.scope.Scope.{Scope}
use Rattle.lmn_flatten.proofs.EachLemmas.{each_append}
use Rattle.lmn_flatten.proofs.BuiltLemmas.{uses_by}
use Rattle.lmn_flatten.proofs.GrowingLemmas.{key_more, clear_after, clear_less, part_by, part_joined, part_is, items_behind, grows_after, grows_as, grows_both, grows_leaf, grows_more, grows_nothing, meets_both, meets_nothing}
use Rattle.lmn_flatten.proofs.WayLemmas.{below_apart, under_apart, under_below, under_step, no_step_under, step_under, argument_under, argument_apart, within_under}

-- ---- sums of parts

part_parts : (p q : Parts) → p.leaves ≡ q.leaves → p.membranes ≡ q.membranes → p.contexts ≡ q.contexts → p.rule_contexts ≡ q.rule_contexts → p.rules ≡ q.rules
    → p.table ≡ q.table → p ≡ q
part_parts p q a b c d e f =
    ap (λ x. record { leaves = x; membranes = p.membranes; contexts = p.contexts; rule_contexts = p.rule_contexts; rules = p.rules; table = p.table }) a
    ∙ ap (λ x. record { leaves = q.leaves; membranes = x; contexts = p.contexts; rule_contexts = p.rule_contexts; rules = p.rules; table = p.table }) b
    ∙ ap (λ x. record { leaves = q.leaves; membranes = q.membranes; contexts = x; rule_contexts = p.rule_contexts; rules = p.rules; table = p.table }) c
    ∙ ap (λ x. record { leaves = q.leaves; membranes = q.membranes; contexts = q.contexts; rule_contexts = x; rules = p.rules; table = p.table }) d
    ∙ ap (λ x. record { leaves = q.leaves; membranes = q.membranes; contexts = q.contexts; rule_contexts = q.rule_contexts; rules = x; table = p.table }) e
    ∙ ap (λ x. record { leaves = q.leaves; membranes = q.membranes; contexts = q.contexts; rule_contexts = q.rule_contexts; rules = q.rules; table = x }) f

joined_behind : (p q s : Parts) → joined_parts p (joined_parts q s) ≡ joined_parts (joined_parts p q) s
joined_behind p q s = part_parts _ _ (sym (append_assoc p.leaves q.leaves s.leaves)) (sym (append_assoc p.membranes q.membranes s.membranes))
    (sym (append_assoc p.contexts q.contexts s.contexts)) (sym (append_assoc p.rule_contexts q.rule_contexts s.rule_contexts))
    (sym (append_assoc p.rules q.rules s.rules)) (sym (append_assoc p.table q.table s.table))

-- parts of three, joined either way
pub sum_behind : (f g h : NumberedParts) (k : ℕ) → (f ⊕ (g ⊕ h)) k ≡ ((f ⊕ g) ⊕ h) k
sum_behind f g h k =
    let p = f k in
    let q = g (k + length p.table) in
    let e : k + length p.table + length q.table ≡ k + length (p.table ++ q.table) = omega (arith, length-append p.table q.table) in
    joined_behind p q (h (k + length p.table + length q.table)) ∙ ap (λ n. joined_parts (joined_parts p q) (h n)) e

-- parts and nothing are these parts
pub sum_nothing : (f : NumberedParts) (k : ℕ) → f k ≡ (f ⊕ nothing) k
sum_nothing f k =
    let p = f k in
    part_parts _ _ (sym (append-nil p.leaves)) (sym (append-nil p.membranes)) (sym (append-nil p.contexts)) (sym (append-nil p.rule_contexts)) (sym (append-nil p.rules)) (sym (append-nil p.table))

-- nothing and parts are these parts
pub nothing_sum : (f : NumberedParts) (k : ℕ) → (nothing ⊕ f) k ≡ f k
nothing_sum f k = let e : k + 0 ≡ k = omega arith in part_parts _ _ refl refl refl refl refl refl ∙ ap f e

-- ---- ways of the parts of lists

-- a way with so many steps along a list
abbrev pub ones : ℕ → List ℕ → List ℕ
ones zero way = way
ones (suc n) way = ones n (1 ∷ way)

-- one more step, counted last
pub ones_last : (n : ℕ) (way : List ℕ) → ones (suc n) way ≡ 1 ∷ ones n way
ones_last zero way = refl
ones_last (suc n) way = ones_last n (1 ∷ way)

-- or first
pub ones_next : (n : ℕ) (way : List ℕ) → ones (n + 1) way ≡ 1 ∷ ones n way
ones_next n way = let e : n + 1 ≡ suc n = omega arith in ap (λ m. ones m way) e ∙ ones_last n way

-- kinds of ways that belong to the parts of a list
pub record Kind (Z : List ℕ → List ℕ → Type 0) : Type 0 where
  pub first : (w v : List ℕ) → Under (0 ∷ w) v → Z w v
  pub later : (w v : List ℕ) → Z (1 ∷ w) v → Z w v
  pub below : (w v : List ℕ) → Z (1 ∷ w) v → Below (1 ∷ w) v

-- the ways under a way are of a kind
pub under_kind : Kind Under
under_kind = record { first = λ w v u. under_step w v 0 u; later = λ w v u. under_step w v 1 u; below = λ w v u. under_below (1 ∷ w) v u }

-- and those within it
pub within_kind : Kind Within
within_kind = record { first = λ w v u. within_first u; later = λ w v u. within_later u; below = λ w v u. under_below (1 ∷ w) v (within_under u) }

module _ (Z : List ℕ → List ℕ → Type 0) (kind : Kind Z) where
  pub at_ones : (n : ℕ) (way v : List ℕ) → Z (ones n way) v → Z way v
  at_ones zero way v h = h
  at_ones (suc n) way v h = kind.later way v (at_ones n (1 ∷ way) v h)

  pub element : (n : ℕ) (way v : List ℕ) → Under (0 ∷ ones n way) v → Z way v
  element n way v h = at_ones n way v (kind.first (ones n way) v h)

-- where an element of a list stands
pub argument_at : (n : ℕ) (way : List ℕ) → Argument way (0 ∷ ones n way)
argument_at zero way = first_argument
argument_at (suc n) way = later_argument (argument_at n (1 ∷ way))

module _ (r : Reading) where
  -- ---- what is known once more links are met

  pub ready_after : (Z Y X : List ℕ → Type 0) (keys : List Link) (g : Glossary) (s t : Scope) → ((v : List ℕ) → X v → Z v) → ((v : List ℕ) → Y v → X v → ⊥)
      → MayGrow r Z keys g s → (m : Meets r Y keys t) → MayGrow r X (keys ++ m.more) g t
  ready_after Z Y X keys g s t sub apart ready m =
      record { glossary = ready.glossary; scope = m.scope; clear = clear_after r Z Y X keys t sub apart ready.clear m }

  pub ready_less : (Z Y : List ℕ → Type 0) (keys : List Link) (g : Glossary) (s : Scope) → ((v : List ℕ) → Y v → Z v) → MayGrow r Z keys g s → MayGrow r Y keys g s
  ready_less Z Y keys g s f ready = record { glossary = ready.glossary; scope = ready.scope; clear = clear_less Z Y keys f ready.clear }

  pub use_more : (keys more : List Link) (u : Use) (o : Occ) → IsUse r.names (IsKey keys) u o → IsUse r.names (IsKey (keys ++ more)) u o
  use_more keys more u o h = (key_more keys more u.link o.link h.0, h.1)

  pub uses_more : (keys more : List Link) (us : List Use) (os : List Occ) → AllZip (IsUse r.names (IsKey keys)) us os → AllZip (IsUse r.names (IsKey (keys ++ more))) us os
  uses_more keys more us os h = uses_by r.names (IsKey keys) (IsKey (keys ++ more)) (λ a x k. key_more keys more a x k) us os h

  -- a leaf, and then something else
  pub leaf_then : (Z : List ℕ → Type 0) (keys : List Link) (l : ExpandedLeaf) (g : NumberedParts) (part : Part) (table : List RuleTree) (part1 part2 : Part) (table2 : List RuleTree)
      (t : Scope) → AddsLeaf r.names (IsKey keys) l part part1 → GrowsPart r Z keys g part1 table part2 table2 t → GrowsPart r Z keys (one_leaf l ⊕ g) part table part2 table2 t
  leaf_then Z keys l g part table part1 part2 table2 t h k =
      let m = k.meets in
      let K = keys ++ m.more in
      let here : Part = record { leaves = h.leaf ∷ []; membranes = []; contexts = []; rule_contexts = []; rules = [] } in
      let p = one_leaf l (length table) in
      let e : length table ≡ length table + 0 = omega arith in
      let is : IsPartOfLevel r.names (IsKey keys) p here = record { leaves = (h.is_leaf, tt); membranes = tt; contexts = refl; rule_contexts = refl; rules = refl } in
      let P : ℕ → Type 0 = λ n. IsPartOfLevel r.names (IsKey K) (g n) k.items in
      let T : ℕ → Type 0 = λ n. let q = g n in AllZip (IsRuleOf r.words r.places r.names) q.table k.rules in
      let grown : part1 ≡ with_items part here = part_is _ _ h.leaves (h.membranes ∙ sym (append-nil part.membranes)) (h.contexts ∙ sym (append-nil part.contexts))
      (h.rule_contexts ∙ sym (append-nil part.rule_contexts)) (h.rules ∙ sym (append-nil part.rules)) in
      record {
        meets = m;
        items = with_items here k.items;
        rules = k.rules;
        are_items = part_joined r.names (IsKey K) p (g (length table + 0)) here k.items
            (part_by r.names (IsKey keys) (IsKey K) (λ a x i. key_more keys m.more a x i) p here is) (subst P e k.are_items);
        are_rules = subst T e k.are_rules;
        part_grown = k.part_grown ∙ ap (λ x. with_items x k.items) grown ∙ items_behind part here k.items;
        table_grown = k.table_grown;
      }

  -- something, and then a leaf
  pub then_leaf : (Z : List ℕ → Type 0) (keys : List Link) (f : NumberedParts) (l : ExpandedLeaf) (part : Part) (table : List RuleTree) (part1 : Part) (table1 : List RuleTree)
      (s : Scope) (part2 : Part) → (h : GrowsPart r Z keys f part table part1 table1 s) → (let m = h.meets in AddsLeaf r.names (IsKey (keys ++ m.more)) l part1 part2)
      → GrowsPart r Z keys (f ⊕ one_leaf l) part table part2 table1 s
  then_leaf Z keys f l part table part1 table1 s part2 h adds =
      let m = h.meets in
      grows_both r Z NoWay Z keys f (one_leaf l) part table part1 table1 s part2 table1 s (λ v z. z) (λ v n. absurd n) h
      (grows_leaf r NoWay (keys ++ m.more) l part1 table1 part2 s m.scope adds)

  -- ---- terms by their own links

  own_link : (pos : Pos) (w : List ℕ) (t : Term) → expansion.expanded_term r.words r.places pos w (argument r.words r.places pos w t).link t ≡ expansion.expanded_term r.words r.places pos w (made w) t
  own_link pos w (link p) = refl
  own_link pos w (atom n ts) = refl
  own_link pos w (list ts) = refl
  own_link pos w (list_onto ts t) = refl
  own_link pos w (context p) = refl
  own_link pos w (membrane cs) = refl

  pub term_own : (Z : List ℕ → Type 0) (keys : List Link) (pos : Pos) (w : List ℕ) (t : Term) (part : Part) (table : List RuleTree) (part1 : Part)
      (table1 : List RuleTree) (s : Scope) → GrowsPart r Z keys (expansion.expanded_term r.words r.places pos w (argument r.words r.places pos w t).link t) part table part1 table1 s
      → GrowsPart r Z keys (expansion.expanded_term r.words r.places pos w (made w) t) part table part1 table1 s
  term_own Z keys pos w t part table part1 table1 s h = grows_as r Z keys _ _ part table part1 table1 s (ap (λ f. f (length table)) (own_link pos w t)) h

  -- ---- lists of parts

  -- what is added by the first parts of a list, where the links of the others haven't been met
  pub record GrowsSoFar (Z : List ℕ → List ℕ → Type 0) (way : List ℕ) (keys : List Link) (f : NumberedParts) (n : ℕ) (part : Part) (table : List RuleTree)
      (part1 : Part) (table1 : List RuleTree) (s : Scope) : Type 0 where
    pub grows : GrowsPart r (Z way) keys f part table part1 table1 s
    pub later : (let m = grows.meets in Clear (Z (ones n way)) (keys ++ m.more))

  pub so_far_none : (Z : List ℕ → List ℕ → Type 0) (way : List ℕ) (keys : List Link) (g : Glossary) (part : Part) (table : List RuleTree) (s : Scope)
      → MayGrow r (Z way) keys g s → GrowsSoFar Z way keys nothing 0 part table part table s
  so_far_none Z way keys g part table s ready = record {
    grows = record {
      meets = record { more = []; scope = (let P : List Link → Type 0 = λ ks. IsScope r ks s in subst P (sym (append-nil keys)) ready.scope); only = λ a i. absurd i };
      items = no_items;
      rules = [];
      are_items = record { leaves = tt; membranes = tt; contexts = refl; rule_contexts = refl; rules = refl };
      are_rules = tt;
      part_grown = part_is _ _ (sym (append-nil part.leaves)) (sym (append-nil part.membranes)) (sym (append-nil part.contexts)) (sym (append-nil part.rule_contexts)) (sym (append-nil part.rules));
      table_grown = sym (append-nil table);
    };
    later = let P : List Link → Type 0 = λ ks. Clear (Z way) ks in subst P (sym (append-nil keys)) ready.clear;
  }

  -- the part at a place is ready once those before it were added
  pub element_ready : (Z : List ℕ → List ℕ → Type 0) (kind : Kind Z) (way : List ℕ) (keys : List Link) (f : NumberedParts) (n : ℕ) (g : Glossary) (part : Part)
      (table : List RuleTree) (part1 : Part) (table1 : List RuleTree) (s : Scope) → IsGlossary r g → (h : GrowsSoFar Z way keys f n part table part1 table1 s)
      → (let m = h.grows.meets in MayGrow r (Under (0 ∷ ones n way)) (keys ++ m.more) g s)
  element_ready Z kind way keys f n g part table part1 table1 s is h =
      let m = h.grows.meets in
      record { glossary = is; scope = m.scope; clear = clear_less (Z (ones n way)) (Under (0 ∷ ones n way)) (keys ++ m.more) (λ v u. kind.first (ones n way) v u) h.later }

  pub so_far_more : (Z : List ℕ → List ℕ → Type 0) (kind : Kind Z) (way : List ℕ) (keys : List Link) (f one all : NumberedParts) (n : ℕ) (part : Part)
      (table : List RuleTree) (part1 : Part) (table1 : List RuleTree) (s : Scope) (part2 : Part) (table2 : List RuleTree) (t : Scope)
      → (h : GrowsSoFar Z way keys f n part table part1 table1 s)
      → (let m = h.grows.meets in GrowsPart r (Under (0 ∷ ones n way)) (keys ++ m.more) one part1 table1 part2 table2 t)
      → (f ⊕ one) (length table) ≡ all (length table)
      → GrowsSoFar Z way keys all (n + 1) part table part2 table2 t
  so_far_more Z kind way keys f one all n part table part1 table1 s part2 table2 t h k e =
      let m = h.grows.meets in
      let o = k.meets in
      let w = ones n way in
      let clear : Clear (Z (1 ∷ w)) ((keys ++ m.more) ++ o.more) = clear_after r (Z w) (Under (0 ∷ w)) (Z (1 ∷ w)) (keys ++ m.more) t (λ v z. kind.later w v z)
      (λ v u z. below_apart w v 0 1 (λ d. cc) (under_below (0 ∷ w) v u) (kind.below w v z)) h.later o in
      let P : List Link → Type 0 = λ ks. Clear (Z (1 ∷ w)) ks in
      let Q : List ℕ → Type 0 = λ x. Clear (Z x) (keys ++ (m.more ++ o.more)) in
      record {
        grows = grows_as r (Z way) keys (f ⊕ one) all part table part2 table2 t e
            (grows_both r (Z way) (Under (0 ∷ w)) (Z way) keys f one part table part1 table1 s part2 table2 t (λ v z. z) (λ v u. element Z kind n way v u) h.grows k);
        later = subst Q (sym (ones_next n way)) (subst P (append_assoc keys m.more o.more) clear);
      }

  -- ---- atoms with arguments

  pub atom_grows : (way : List ℕ) (keys : List Link) (n : ℕ) (ts : Terms) (own : List Use) (g : Glossary) (part : Part) (table : List RuleTree) (s : Scope)
      (links all : List Occ) (more : Option Occ) (pos : Pos) (s1 : Scope) (part1 part2 : Part) (table2 : List RuleTree) (s2 : Scope)
      → MayGrow r (Under way) keys g s → AllZip (IsUse r.names (IsKey keys)) own (option_to_list more)
      → pos ≡ place_at r.words r.places n → all ≡ links ++ option_to_list more
      → ((way : List ℕ) (keys : List Link) → MayGrow r (Argument way) keys g s
      → (m : Meets r (Argument way) keys s1) × AllZip (IsUse r.names (IsKey (keys ++ m.more))) (expanded_arguments r.words r.places pos way ts) links)
      → ((keys : List Link) (us : List Use) → AllZip (IsUse r.names (IsKey keys)) us all → AddsLeaf r.names (IsKey keys) (atom_leaf (label_at r.words r.places n) us pos) part part1)
      → ((way : List ℕ) (keys : List Link) → MayGrow r (Within way) keys g s1 → AllZip (IsUse r.names (IsKey keys)) (expanded_arguments r.words r.places pos way ts) links
      → GrowsPart r (Within way) keys (expansion.expanded_terms r.words r.places pos way ts) part1 table part2 table2 s2)
      → GrowsPart r (Under way) keys (atom_with r.words r.places way n ts own) part table part2 table2 s2
  atom_grows way keys n ts own g part table s links all more pos s1 part1 part2 table2 s2 ready owns place whole args adds inside =
      let first = args way keys (ready_less (Under way) (Argument way) keys g s (λ v a. argument_under a) ready) in
      let m = first.0 in
      let K = keys ++ m.more in
      let us = expanded_arguments r.words r.places pos way ts in
      let P : List Occ → Type 0 = AllZip (IsUse r.names (IsKey K)) (us ++ own) in
      let uses = subst P (sym whole) (each_append (IsUse r.names (IsKey K)) us own links (option_to_list more) first.1 (uses_more keys m.more own (option_to_list more) owns)) in
      let ready1 = ready_after (Under way) (Argument way) (Within way) keys g s s1 (λ v w. within_under w) (λ v a w. argument_apart a w) ready m in
      let then = grows_more r (Within way) (Under way) K _ part1 table part2 table2 s2 (λ v w. within_under w) (inside way K ready1 first.1) in
      let Q : Pos → Type 0 = λ q. GrowsPart r (Under way) keys (one_leaf (atom_leaf (label_at r.words r.places n) (expanded_arguments r.words r.places q way ts ++ own) q)
      ⊕ expansion.expanded_terms r.words r.places q way ts) part table part2 table2 s2 in
      subst Q place
      (grows_after r (Argument way) (Under way) (Under way) keys _ part table s1 part2 table2 s2 (λ v a. argument_under a) (λ v u. u) m
      (leaf_then (Under way) K (atom_leaf (label_at r.words r.places n) (us ++ own) pos) (expansion.expanded_terms r.words r.places pos way ts) part table part1 part2 table2 s2
      (adds K (us ++ own) uses) then))

  -- ---- equations

  pub equation_grows : (way : List ℕ) (keys : List Link) (token : ℕ) (l t : Term) (g : Glossary) (part : Part) (table : List RuleTree) (s s1 s2 s3 s4 : Scope)
      (one other : Occ) (pos : Pos) (part1 part2 part3 : Part) (table2 table3 : List RuleTree) → MayGrow r (Under way) keys g s
      → pos ≡ place_at r.words r.places token
      → ((keys : List Link) (way : List ℕ) → IsScope r keys s → (IsLinkIn (made way) keys → ⊥)
      → (m : Meets r (λ v. v ≡ way) keys s1) × IsUse r.names (IsKey (keys ++ m.more)) (argument r.words r.places pos way l) one)
      → ((keys : List Link) (way : List ℕ) → IsScope r keys s1 → (IsLinkIn (made way) keys → ⊥)
      → (m : Meets r (λ v. v ≡ way) keys s2) × IsUse r.names (IsKey (keys ++ m.more)) (argument r.words r.places pos way t) other)
      → ((keys : List Link) (a b : Use) → IsUse r.names (IsKey keys) a one → IsUse r.names (IsKey keys) b other
      → AddsLeaf r.names (IsKey keys) (atom_leaf (named (codes "=")) (a ∷ b ∷ []) pos) part part1)
      → ((way : List ℕ) (keys : List Link) (x : Link) → MayGrow r (Under way) keys g s2 → IsKey keys x one.link
      → GrowsPart r (Under way) keys (expansion.expanded_term r.words r.places pos way x l) part1 table part2 table2 s3)
      → ((way : List ℕ) (keys : List Link) (x : Link) → MayGrow r (Under way) keys g s3 → IsKey keys x other.link
      → GrowsPart r (Under way) keys (expansion.expanded_term r.words r.places pos way x t) part2 table2 part3 table3 s4)
      → GrowsPart r (Under way) keys (one_leaf (atom_leaf (named (codes "=")) (argument r.words r.places (place_at r.words r.places token) (0 ∷ way) l
      ∷ argument r.words r.places (place_at r.words r.places token) (1 ∷ way) t ∷ []) (place_at r.words r.places token))
      ⊕ expansion.expanded_term r.words r.places (place_at r.words r.places token) (0 ∷ way) (made (0 ∷ way)) l
      ⊕ expansion.expanded_term r.words r.places (place_at r.words r.places token) (1 ∷ way) (made (1 ∷ way)) t) part table part3 table3 s4
  equation_grows way keys token l t g part table s s1 s2 s3 s4 one other pos part1 part2 part3 table2 table3 ready place args1 args2 adds inside1 inside2 =
      let first = args1 keys (0 ∷ way) ready.scope (λ i. ready.clear (0 ∷ way) i (step_under way 0)) in
      let m = first.0 in
      let K1 = keys ++ m.more in
      let clear1 : Clear (λ v. v ≡ 1 ∷ way) K1 = clear_after r (Under way) (λ v. v ≡ 0 ∷ way) (λ v. v ≡ 1 ∷ way) keys s1
      (λ v e. (let P : List ℕ → Type 0 = Under way in subst P (sym e) (step_under way 1))) (λ v e f. steps_apart way v e f) ready.clear m in
      let second = args2 K1 (1 ∷ way) m.scope (λ i. clear1 (1 ∷ way) i refl) in
      let n = second.0 in
      let K2 = K1 ++ n.more in
      let a = argument r.words r.places pos (0 ∷ way) l in
      let b = argument r.words r.places pos (1 ∷ way) t in
      let use1 = use_more K1 n.more a one first.1 in
      let clear2 : Clear (λ v. Under (0 ∷ way) v ⊎ Under (1 ∷ way) v) K2 = λ v i z. both_clear (keys) m n ready.clear v i z in
      let ready2 : MayGrow r (Under (0 ∷ way)) K2 g s2 = record { glossary = ready.glossary; scope = n.scope; clear = λ v i u. clear2 v i (inl u) } in
      let grown1 = term_own (Under (0 ∷ way)) K2 pos (0 ∷ way) l part1 table part2 table2 s3 (inside1 (0 ∷ way) K2 a.link ready2 use1.0) in
      let o = grown1.meets in
      let clear3 : Clear (Under (1 ∷ way)) (K2 ++ o.more) = clear_after r (λ v. Under (0 ∷ way) v ⊎ Under (1 ∷ way) v) (Under (0 ∷ way)) (Under (1 ∷ way)) K2 s3
      (λ v u. inr u) (λ v u w. under_apart way v 0 1 (λ d. cc) u w) clear2 o in
      let ready3 : MayGrow r (Under (1 ∷ way)) (K2 ++ o.more) g s3 = record { glossary = ready.glossary; scope = o.scope; clear = clear3 } in
      let use2 = use_more K2 o.more b other second.1 in
      let grown2 = term_own (Under (1 ∷ way)) (K2 ++ o.more) pos (1 ∷ way) t part2 table2 part3 table3 s4 (inside2 (1 ∷ way) (K2 ++ o.more) b.link ready3 use2.0) in
      let Q : Pos → Type 0 = λ q. GrowsPart r (Under way) keys (one_leaf (atom_leaf (named (codes "=")) (argument r.words r.places q (0 ∷ way) l
      ∷ argument r.words r.places q (1 ∷ way) t ∷ []) q)
      ⊕ expansion.expanded_term r.words r.places q (0 ∷ way) (made (0 ∷ way)) l ⊕ expansion.expanded_term r.words r.places q (1 ∷ way) (made (1 ∷ way)) t) part table part3 table3 s4 in
      subst Q place
      (grows_after r (λ v. v ≡ 0 ∷ way) (Under way) (Under way) keys _ part table s1 part3 table3 s4 (λ v e. step_is way v 0 e) (λ v u. u) m
      (grows_after r (λ v. v ≡ 1 ∷ way) (Under way) (Under way) K1 _ part table s2 part3 table3 s4 (λ v e. step_is way v 1 e) (λ v u. u) n
      (leaf_then (Under way) K2 (atom_leaf (named (codes "=")) (a ∷ b ∷ []) pos) _ part table part1 part3 table3 s4 (adds K2 a b use1 second.1)
      (grows_both r (Under (0 ∷ way)) (Under (1 ∷ way)) (Under way) K2 _ _ part1 table part2 table2 s3 part3 table3 s4 (λ v u. under_step way v 0 u) (λ v u. under_step way v 1 u)
      grown1 grown2))))
    where
      step_is : (way v : List ℕ) (k : ℕ) → v ≡ k ∷ way → Under way v
      step_is way v k e = let P : List ℕ → Type 0 = Under way in subst P (sym e) (step_under way k)

      steps_apart : (way v : List ℕ) → v ≡ 0 ∷ way → v ≡ 1 ∷ way → ⊥
      steps_apart way v e f = below_apart way v 0 1 (λ d. cc) ([], e) ([], f)

      either : (v : List ℕ) → Under (0 ∷ way) v ⊎ Under (1 ∷ way) v → Under way v
      either v (inl u) = under_step way v 0 u
      either v (inr u) = under_step way v 1 u

      no_step : (v : List ℕ) (k : ℕ) → v ≡ k ∷ way → Under (0 ∷ way) v ⊎ Under (1 ∷ way) v → ⊥
      no_step v k e (inl u) = no_step_under way v k 0 e u
      no_step v k e (inr u) = no_step_under way v k 1 e u

      both_clear : (keys : List Link) (m : Meets r (λ v. v ≡ 0 ∷ way) keys s1) (n : Meets r (λ v. v ≡ 1 ∷ way) (keys ++ m.more) s2) → Clear (Under way) keys
          → Clear (λ v. Under (0 ∷ way) v ⊎ Under (1 ∷ way) v) ((keys ++ m.more) ++ n.more)
      both_clear keys m n clear =
          let Z : List ℕ → Type 0 = λ v. Under (0 ∷ way) v ⊎ Under (1 ∷ way) v in
          let c1 : Clear Z (keys ++ m.more) = clear_after r (Under way) (λ v. v ≡ 0 ∷ way) Z keys s1 (λ v z. either v z) (λ v e z. no_step v 0 e z) clear m in
          clear_after r Z (λ v. v ≡ 1 ∷ way) Z (keys ++ m.more) s2 (λ v z. z) (λ v e z. no_step v 1 e z) c1 n

  -- ---- lists

  step_is : (way v : List ℕ) (k : ℕ) → v ≡ k ∷ way → Under way v
  step_is way v k e = let P : List ℕ → Type 0 = Under way in subst P (sym e) (step_under way k)

  -- what was met for the end of a list leaves the ways of its cells and of its end alone
  end_clear : (way : List ℕ) (keys : List Link) (s1 : Scope) (k : ℕ) → Clear (Under way) keys → (m : Meets r (λ v. v ≡ 1 ∷ way) keys s1)
      → Clear (Under (k ∷ way)) (keys ++ m.more)
  end_clear way keys s1 k clear m =
      clear_after r (Under way) (λ v. v ≡ 1 ∷ way) (Under (k ∷ way)) keys s1 (λ v u. under_step way v k u) (λ v e u. no_step_under way v 1 k e u) clear m

  pub list_grows : (way : List ℕ) (keys : List Link) (x : Link) (pos : Pos) (ts : Terms) (g : Glossary) (part : Part) (table : List RuleTree) (s s1 s2 : Scope)
      (end : Occ) (own : ℕ) (part1 part2 : Part) (table1 : List RuleTree) → true ≡ some_term ts → MayGrow r (Under way) keys g s → IsKey keys x own
      → ((keys : List Link) (way : List ℕ) → IsScope r keys s → (IsLinkIn (made way) keys → ⊥)
      → (m : Meets r (λ v. v ≡ way) keys s1) × IsUse r.names (IsKey (keys ++ m.more)) (record { link = made way; pos = pos }) end)
      → ((way : List ℕ) (keys : List Link) (x : Link) (last : Use) → MayGrow r (Under way) keys g s1 → IsKey keys x own → IsUse r.names (IsKey keys) last end
      → GrowsPart r (Under way) keys (expansion.cells r.words r.places pos way last x ts) part table part1 table1 s2)
      → ((keys : List Link) (u : Use) → IsUse r.names (IsKey keys) u end → AddsLeaf r.names (IsKey keys) (atom_leaf (named (codes "[]")) (u ∷ []) pos) part1 part2)
      → GrowsPart r (Under way) keys (expansion.expanded_term r.words r.places pos way x (list ts)) part table part2 table1 s2
  list_grows way keys x pos no_term g part table s s1 s2 end own part1 part2 table1 some ready key new cells adds = absurd (cc)
  list_grows way keys x pos (term_and t ts) g part table s s1 s2 end own part1 part2 table1 some ready key new cells adds =
      let first = new keys (1 ∷ way) ready.scope (λ i. ready.clear (1 ∷ way) i (step_under way 1)) in
      let m = first.0 in
      let K = keys ++ m.more in
      let ready1 : MayGrow r (Under (0 ∷ way)) K g s1 = record { glossary = ready.glossary; scope = m.scope; clear = end_clear way keys s1 0 ready.clear m } in
      let last : Use = record { link = made (1 ∷ way); pos = pos } in
      let grown = cells (0 ∷ way) K x last ready1 (key_more keys m.more x own key) first.1 in
      let o = grown.meets in
      grows_after r (λ v. v ≡ 1 ∷ way) (Under way) (Under way) keys _ part table s1 part2 table1 s2 (λ v e. step_is way v 1 e) (λ v u. u) m
      (then_leaf (Under way) K (expansion.cells r.words r.places pos (0 ∷ way) last x (term_and t ts)) (atom_leaf (named (codes "[]")) (last ∷ []) pos) part table part1 table1 s2 part2
      (grows_more r (Under (0 ∷ way)) (Under way) K _ part table part1 table1 s2 (λ v u. under_step way v 0 u) grown)
      (adds (K ++ o.more) last (use_more K o.more last end first.1)))

  pub empty_list_grows : (way : List ℕ) (keys : List Link) (x : Link) (pos : Pos) (ts : Terms) (g : Glossary) (part : Part) (table : List RuleTree) (s : Scope)
      (part1 : Part) → ts ≡ no_term → MayGrow r (Under way) keys g s
      → AddsLeaf r.names (IsKey keys) (atom_leaf (named (codes "[]")) (record { link = x; pos = pos } ∷ []) pos) part part1
      → GrowsPart r (Under way) keys (expansion.expanded_term r.words r.places pos way x (list ts)) part table part1 table s
  empty_list_grows way keys x pos ts g part table s part1 e ready adds =
      let P : Terms → Type 0 = λ z. GrowsPart r (Under way) keys (expansion.expanded_term r.words r.places pos way x (list z)) part table part1 table s in
      subst P (sym e) (grows_as r (Under way) keys (one_leaf (atom_leaf (named (codes "[]")) (record { link = x; pos = pos } ∷ []) pos)) _ part table part1 table s refl
      (grows_leaf r (Under way) keys (atom_leaf (named (codes "[]")) (record { link = x; pos = pos } ∷ []) pos) part table part1 s ready.scope adds))

  pub open_list_grows : (way : List ℕ) (keys : List Link) (x : Link) (pos : Pos) (ts : Terms) (t : Term) (g : Glossary) (part : Part) (table : List RuleTree) (s s1 s2 s3 : Scope)
      (end : Occ) (own : ℕ) (part1 part2 : Part) (table1 table2 : List RuleTree) → MayGrow r (Under way) keys g s → IsKey keys x own
      → ((keys : List Link) (way : List ℕ) → IsScope r keys s → (IsLinkIn (made way) keys → ⊥)
      → (m : Meets r (λ v. v ≡ way) keys s1) × IsUse r.names (IsKey (keys ++ m.more)) (argument r.words r.places pos way t) end)
      → ((way : List ℕ) (keys : List Link) (x : Link) (last : Use) → MayGrow r (Under way) keys g s1 → IsKey keys x own → IsUse r.names (IsKey keys) last end
      → GrowsPart r (Under way) keys (expansion.cells r.words r.places pos way last x ts) part table part1 table1 s2)
      → ((way : List ℕ) (keys : List Link) (x : Link) → MayGrow r (Under way) keys g s2 → IsKey keys x end.link
      → GrowsPart r (Under way) keys (expansion.expanded_term r.words r.places pos way x t) part1 table1 part2 table2 s3)
      → GrowsPart r (Under way) keys (expansion.expanded_term r.words r.places pos way x (list_onto ts t)) part table part2 table2 s3
  open_list_grows way keys x pos ts t g part table s s1 s2 s3 end own part1 part2 table1 table2 ready key args cells inside =
      let first = args keys (1 ∷ way) ready.scope (λ i. ready.clear (1 ∷ way) i (step_under way 1)) in
      let m = first.0 in
      let K = keys ++ m.more in
      let ready1 : MayGrow r (Under (0 ∷ way)) K g s1 = record { glossary = ready.glossary; scope = m.scope; clear = end_clear way keys s1 0 ready.clear m } in
      let last = argument r.words r.places pos (1 ∷ way) t in
      let grown = cells (0 ∷ way) K x last ready1 (key_more keys m.more x own key) first.1 in
      let o = grown.meets in
      let clear1 : Clear (λ v. Under (0 ∷ way) v ⊎ Under (1 ∷ way) v) K = λ v i z. by m v i z in
      let clear2 : Clear (Under (1 ∷ way)) (K ++ o.more) = clear_after r (λ v. Under (0 ∷ way) v ⊎ Under (1 ∷ way) v) (Under (0 ∷ way)) (Under (1 ∷ way)) K s2
      (λ v u. inr u) (λ v u w. under_apart way v 0 1 (λ d. cc) u w) clear1 o in
      let ready2 : MayGrow r (Under (1 ∷ way)) (K ++ o.more) g s2 = record { glossary = ready.glossary; scope = o.scope; clear = clear2 } in
      let key2 = use_more K o.more last end first.1 in
      let grown2 = term_own (Under (1 ∷ way)) (K ++ o.more) pos (1 ∷ way) t part1 table1 part2 table2 s3 (inside (1 ∷ way) (K ++ o.more) last.link ready2 key2.0) in
      grows_after r (λ v. v ≡ 1 ∷ way) (Under way) (Under way) keys _ part table s1 part2 table2 s3 (λ v e. step_is way v 1 e) (λ v u. u) m
      (grows_both r (Under (0 ∷ way)) (Under (1 ∷ way)) (Under way) K _ _ part table part1 table1 s2 part2 table2 s3 (λ v u. under_step way v 0 u) (λ v u. under_step way v 1 u)
      grown grown2)
    where
      by : (m : Meets r (λ v. v ≡ 1 ∷ way) keys s1) → Clear (λ v. Under (0 ∷ way) v ⊎ Under (1 ∷ way) v) (keys ++ m.more)
      by m v i (inl u) = end_clear way keys s1 0 ready.clear m v i u
      by m v i (inr u) = end_clear way keys s1 1 ready.clear m v i u

  -- ---- the cells of a list

  -- It is enough to add the cells of the elements that are left.
  pub record CellsLeft (way : List ℕ) (keys : List Link) (x : Link) (last : Use) (pos : Pos) (ts rest : Terms) (n : ℕ) (end : Occ) (own : ℕ)
      (part : Part) (table : List RuleTree) (part1 : Part) (table1 : List RuleTree) (s1 : Scope) : Type 0 where
    pub meets : Meets r (Under way) keys s1
    pub clear : Clear (Under (ones n way)) (keys ++ meets.more)
    pub y : Link
    pub key : IsKey (keys ++ meets.more) y own
    pub ends : IsUse r.names (IsKey (keys ++ meets.more)) last end
    pub finish : (part2 : Part) (table2 : List RuleTree) (s2 : Scope)
        → GrowsPart r (Under way) (keys ++ meets.more) (expansion.cells r.words r.places pos (ones n way) last y rest) part1 table1 part2 table2 s2
        → GrowsPart r (Under way) keys (expansion.cells r.words r.places pos way last x ts) part table part2 table2 s2

  pub all_cells_left : (way : List ℕ) (keys : List Link) (x : Link) (last : Use) (pos : Pos) (ts : Terms) (g : Glossary) (end : Occ) (own : ℕ)
      (part : Part) (table : List RuleTree) (s : Scope) → MayGrow r (Under way) keys g s → IsKey keys x own → IsUse r.names (IsKey keys) last end
      → CellsLeft way keys x last pos ts ts 0 end own part table part table s
  all_cells_left way keys x last pos ts g end own part table s ready key ends = record {
    meets = meets_nothing r (Under way) keys s ready.scope;
    clear = let P : List Link → Type 0 = λ ks. Clear (Under way) ks in subst P (sym (append-nil keys)) ready.clear;
    y = x;
    key = key_more keys [] x own key;
    ends = use_more keys [] last end ends;
    finish = λ part2 table2 s2 h.
        let P : List Link → Type 0 = λ ks. GrowsPart r (Under way) ks (expansion.cells r.words r.places pos way last x ts) part table part2 table2 s2 in
        subst P (append-nil keys) h;
  }

  pub cells_done : (way : List ℕ) (keys : List Link) (x : Link) (last : Use) (pos : Pos) (ts rest : Terms) (n : ℕ) (end : Occ) (own : ℕ)
      (part : Part) (table : List RuleTree) (part1 : Part) (table1 : List RuleTree) (s1 : Scope) → rest ≡ no_term
      → CellsLeft way keys x last pos ts rest n end own part table part1 table1 s1
      → GrowsPart r (Under way) keys (expansion.cells r.words r.places pos way last x ts) part table part1 table1 s1
  cells_done way keys x last pos ts rest n end own part table part1 table1 s1 e h =
      let m = h.meets in
      let P : Terms → Type 0 = λ z. GrowsPart r (Under way) (keys ++ m.more) (expansion.cells r.words r.places pos (ones n way) last h.y z) part1 table1 part1 table1 s1 in
      h.finish part1 table1 s1 (subst P (sym e) (grows_nothing r (Under way) (keys ++ m.more) part1 table1 s1 m.scope))

  rest_own : (pos : Pos) (w : List ℕ) (last : Use) (ts : Terms) → expansion.cells r.words r.places pos w last (expansion.rest r.words r.places pos w last ts).link ts
      ≡ expansion.cells r.words r.places pos w last (made w) ts
  rest_own pos w last no_term = refl
  rest_own pos w last (term_and t ts) = refl

  ones_under : (n : ℕ) (way v : List ℕ) → Under (ones n way) v → Under way v
  ones_under n way v u = at_ones Under under_kind n way v u

  -- one cell more
  pub cell_added : (way : List ℕ) (keys : List Link) (x : Link) (last : Use) (pos : Pos) (ts : Terms) (t : Term) (rest : Terms) (n : ℕ) (end : Occ) (own : ℕ) (g : Glossary)
      (part : Part) (table : List RuleTree) (part1 : Part) (table1 : List RuleTree) (s1 s2 s3 s4 : Scope) (element next : Occ) (part2 part3 : Part) (table3 : List RuleTree)
      → IsGlossary r g → CellsLeft way keys x last pos ts (term_and t rest) n end own part table part1 table1 s1
      → ((keys : List Link) (way : List ℕ) → IsScope r keys s1 → (IsLinkIn (made way) keys → ⊥)
      → (m : Meets r (λ v. v ≡ way) keys s2) × IsUse r.names (IsKey (keys ++ m.more)) (argument r.words r.places pos way t) element)
      → ((keys : List Link) (way : List ℕ) (last : Use) → IsScope r keys s2 → (IsLinkIn (made way) keys → ⊥) → IsUse r.names (IsKey keys) last end
      → (m : Meets r (λ v. v ≡ way) keys s3) × IsUse r.names (IsKey (keys ++ m.more)) (expansion.rest r.words r.places pos way last rest) next)
      → ((keys : List Link) (a b c : Use) → IsUse r.names (IsKey keys) a element → IsUse r.names (IsKey keys) b next → IsUse r.names (IsKey keys) c (record { link = own; pos = pos })
      → AddsLeaf r.names (IsKey keys) (atom_leaf (named (codes ".")) (a ∷ b ∷ c ∷ []) pos) part1 part2)
      → ((way : List ℕ) (keys : List Link) (x : Link) → MayGrow r (Under way) keys g s3 → IsKey keys x element.link
      → GrowsPart r (Under way) keys (expansion.expanded_term r.words r.places pos way x t) part2 table1 part3 table3 s4)
      → CellsLeft way keys x last pos ts rest (n + 1) end next.link part table part3 table3 s4
  cell_added way keys x last pos ts t rest n end own g part table part1 table1 s1 s2 s3 s4 element next part2 part3 table3 is h args rests adds inside =
      let w = ones n way in
      let m0 = h.meets in
      let K0 = keys ++ m0.more in
      let first = args K0 (0 ∷ w) m0.scope (λ i. h.clear (0 ∷ w) i (step_under w 0)) in
      let m1 = first.0 in
      let K1 = K0 ++ m1.more in
      let absent : IsLinkIn (made (1 ∷ w)) K1 → ⊥ = λ i. clear_after r (Under w) (λ v. v ≡ 0 ∷ w) (λ v. v ≡ 1 ∷ w) K0 s2 (λ v e. step_is w v 1 e) (λ v e f. below_apart w v 0 1 (λ d. cc) ([], e) ([], f))
      h.clear m1 (1 ∷ w) i refl in
      let ends1 = use_more K0 m1.more last end h.ends in
      let second = rests K1 (1 ∷ w) last m1.scope absent ends1 in
      let m2 = second.0 in
      let K2 = K1 ++ m2.more in
      let Z : List ℕ → Type 0 = λ v. Under (0 ∷ w) v ⊎ Under (1 ∷ w) v in
      let c1 : Clear Z K1 = clear_after r (Under w) (λ v. v ≡ 0 ∷ w) Z K0 s2 (λ v z. either w v z) (λ v e z. no_step w v 0 e z) h.clear m1 in
      let c2 : Clear Z K2 = clear_after r Z (λ v. v ≡ 1 ∷ w) Z K1 s3 (λ v z. z) (λ v e z. no_step w v 1 e z) c1 m2 in
      let a = argument r.words r.places pos (0 ∷ w) t in
      let b = expansion.rest r.words r.places pos (1 ∷ w) last rest in
      let c : Use = record { link = h.y; pos = pos } in
      let use_a = use_more K1 m2.more a element first.1 in
      let key_c : IsKey K2 h.y own = key_more K1 m2.more h.y own (key_more K0 m1.more h.y own h.key) in
      let leaf = adds K2 a b c use_a second.1 (key_c, refl) in
      let ready2 : MayGrow r (Under (0 ∷ w)) K2 g s3 = record { glossary = is; scope = m2.scope; clear = λ v i u. c2 v i (inl u) } in
      let grown = term_own (Under (0 ∷ w)) K2 pos (0 ∷ w) t part2 table1 part3 table3 s4 (inside (0 ∷ w) K2 a.link ready2 use_a.0) in
      let m3 = grown.meets in
      let K3 = K2 ++ m3.more in
      let c3 : Clear (Under (1 ∷ w)) K3 = clear_after r Z (Under (0 ∷ w)) (Under (1 ∷ w)) K2 s4 (λ v u. inr u) (λ v u u'. under_apart w v 0 1 (λ d. cc) u u') c2 m3 in
      let up : (k : ℕ) (v : List ℕ) → v ≡ k ∷ w → Under way v = λ k v e. ones_under n way v (step_is w v k e) in
      let all : Meets r (Under way) keys s4 = meets_both r (Under way) (Under way) (Under way) keys s1 s4 (λ v u. u) (λ v u. u) m0
      (meets_both r (λ v. v ≡ 0 ∷ w) (Under way) (Under way) K0 s2 s4 (λ v e. up 0 v e) (λ v u. u) m1
      (meets_both r (λ v. v ≡ 1 ∷ w) (Under (0 ∷ w)) (Under way) K1 s3 s4 (λ v e. up 1 v e) (λ v u. ones_under n way v (under_step w v 0 u)) m2 m3)) in
      let same : K3 ≡ keys ++ all.more = append_assoc K1 m2.more m3.more ∙ append_assoc K0 m1.more (m2.more ++ m3.more) ∙ append_assoc keys m0.more (m1.more ++ (m2.more ++ m3.more)) in
      let C : List Link → Type 0 = λ ks. Clear (Under (1 ∷ w)) ks in
      let W : List ℕ → Type 0 = λ z. Clear (Under z) (keys ++ all.more) in
      let N : List Link → Type 0 = λ ks. IsKey ks b.link next.link in
      let E : List Link → Type 0 = λ ks. IsUse r.names (IsKey ks) last end in
      let use_b = use_more K2 m3.more b next second.1 in
      record {
        meets = all;
        clear = subst W (sym (ones_next n way)) (subst C same c3);
        y = b.link;
        key = subst N same use_b.0;
        ends = subst E same (use_more K2 m3.more last end (use_more K1 m2.more last end ends1));
        finish = λ part4 table4 s5 k.
            let G : List Link → Type 0 = λ ks. GrowsPart r (Under way) ks (expansion.cells r.words r.places pos (ones (n + 1) way) last b.link rest) part3 table3 part4 table4 s5 in
            let V : List ℕ → Type 0 = λ z. GrowsPart r (Under way) K3 (expansion.cells r.words r.places pos z last b.link rest) part3 table3 part4 table4 s5 in
            let k1 = subst V (ones_next n way) (subst G (sym same) k) in
            let k2 = grows_as r (Under way) K3 _ (expansion.cells r.words r.places pos (1 ∷ w) last (made (1 ∷ w)) rest) part3 table3 part4 table4 s5
            (ap (λ f. f (length table3)) (rest_own pos (1 ∷ w) last rest)) k1 in
            h.finish part4 table4 s5
            (grows_after r (λ v. v ≡ 0 ∷ w) (Under way) (Under way) K0 _ part1 table1 s2 part4 table4 s5 (λ v e. up 0 v e) (λ v u. u) m1
            (grows_after r (λ v. v ≡ 1 ∷ w) (Under way) (Under way) K1 _ part1 table1 s3 part4 table4 s5 (λ v e. up 1 v e) (λ v u. u) m2
            (leaf_then (Under way) K2 (atom_leaf (named (codes ".")) (a ∷ b ∷ c ∷ []) pos) _ part1 table1 part2 part4 table4 s5 leaf
            (grows_both r (Under (0 ∷ w)) (Under way) (Under way) K2 _ _ part2 table1 part3 table3 s4 part4 table4 s5 (λ v u. ones_under n way v (under_step w v 0 u)) (λ v u. u)
            grown k2))));
      }
    where
      either : (w v : List ℕ) → Under (0 ∷ w) v ⊎ Under (1 ∷ w) v → Under w v
      either w v (inl u) = under_step w v 0 u
      either w v (inr u) = under_step w v 1 u

      no_step : (w v : List ℕ) (k : ℕ) → v ≡ k ∷ w → Under (0 ∷ w) v ⊎ Under (1 ∷ w) v → ⊥
      no_step w v k e (inl u) = no_step_under w v k 0 e u
      no_step w v k e (inr u) = no_step_under w v k 1 e u

  -- ---- arguments

  pub record ArgumentsSoFar (way : List ℕ) (keys : List Link) (pos : Pos) (ts : Terms) (n : ℕ) (links : List Occ) (s : Scope) : Type 0 where
    pub meets : Meets r (Argument way) keys s
    pub uses : AllZip (IsUse r.names (IsKey (keys ++ meets.more))) (expanded_arguments r.words r.places pos way ts) links
    pub later : Clear (Argument (ones n way)) (keys ++ meets.more)

  pub no_arguments : (way : List ℕ) (keys : List Link) (pos : Pos) (links : List Occ) (g : Glossary) (s : Scope) → links ≡ [] → MayGrow r (Argument way) keys g s
      → ArgumentsSoFar way keys pos no_term 0 links s
  no_arguments way keys pos links g s e ready = record {
    meets = meets_nothing r (Argument way) keys s ready.scope;
    uses = let P : List Occ → Type 0 = λ os. AllZip (IsUse r.names (IsKey (keys ++ []))) [] os in subst P (sym e) tt;
    later = let P : List Link → Type 0 = λ ks. Clear (Argument way) ks in subst P (sym (append-nil keys)) ready.clear;
  }

  pub argument_more : (way : List ℕ) (keys : List Link) (pos : Pos) (ts : Terms) (t : Term) (all : Terms) (n : ℕ) (links links1 : List Occ) (o : Occ) (s s1 : Scope)
      → ArgumentsSoFar way keys pos ts n links s
      → ((keys : List Link) (way : List ℕ) → IsScope r keys s → (IsLinkIn (made way) keys → ⊥)
      → (m : Meets r (λ v. v ≡ way) keys s1) × IsUse r.names (IsKey (keys ++ m.more)) (argument r.words r.places pos way t) o)
      → links1 ≡ links ++ o ∷ []
      → expanded_arguments r.words r.places pos way ts ++ argument r.words r.places pos (0 ∷ ones n way) t ∷ [] ≡ expanded_arguments r.words r.places pos way all
      → ArgumentsSoFar way keys pos all (n + 1) links1 s1
  argument_more way keys pos ts t all n links links1 o s s1 h args e f =
      let w = ones n way in
      let m = h.meets in
      let K = keys ++ m.more in
      let next = args K (0 ∷ w) m.scope (λ i. h.later (0 ∷ w) i first_argument) in
      let k = next.0 in
      let clear : Clear (Argument (1 ∷ w)) (K ++ k.more) = clear_after r (Argument w) (λ v. v ≡ 0 ∷ w) (Argument (1 ∷ w)) K s1 (λ v a. later_argument a)
      (λ v d a. below_apart w v 0 1 (λ z. cc) ([], d) (under_below (1 ∷ w) v (argument_under a))) h.later k in
      let more = k.more in
      let same = append_assoc keys m.more more in
      let U : List Link → Type 0 = λ ks. AllZip (IsUse r.names (IsKey ks)) (expanded_arguments r.words r.places pos way ts ++ argument r.words r.places pos (0 ∷ w) t ∷ []) (links ++ o ∷ []) in
      let V : List Occ → Type 0 = λ os. AllZip (IsUse r.names (IsKey (keys ++ (m.more ++ more)))) (expanded_arguments r.words r.places pos way ts ++ argument r.words r.places pos (0 ∷ w) t ∷ []) os in
      let W : List Use → Type 0 = λ us. AllZip (IsUse r.names (IsKey (keys ++ (m.more ++ more)))) us links1 in
      let C : List Link → Type 0 = λ ks. Clear (Argument (1 ∷ w)) ks in
      let D : List ℕ → Type 0 = λ z. Clear (Argument z) (keys ++ (m.more ++ more)) in
      record {
        meets = meets_both r (Argument way) (λ v. v ≡ 0 ∷ w) (Argument way) keys s s1 (λ v a. a) (λ v d. (let P : List ℕ → Type 0 = Argument way in subst P (sym d) (argument_at n way))) m k;
        uses = subst W f (subst V (sym e) (subst U same
            (each_append (IsUse r.names (IsKey (K ++ more))) (expanded_arguments r.words r.places pos way ts) (argument r.words r.places pos (0 ∷ w) t ∷ []) links (o ∷ [])
            (uses_more K more (expanded_arguments r.words r.places pos way ts) links h.uses) (next.1, tt))));
        later = subst D (sym (ones_next n way)) (subst C same clear);
      }

  -- ---- membranes

  pub membrane_grows : (way : List ℕ) (keys : List Link) (f : NumberedParts) (cs : Clauses) (g : Glossary) (part : Part) (table : List RuleTree) (s : Scope)
      (inside inside1 part1 : Part) (table1 : List RuleTree) (s1 : Scope) (l : base_level.Level) → IsPartOfLevel r.names (IsKey keys) (f (length table)) inside → HasNoRules f
      → GrowsPart r (Under way) keys (expansion.expanded_clauses r.words r.places way cs) inside table inside1 table1 s1
      → ((keys : List Link) (p : Parts) → IsPartOfLevel r.names (IsKey keys) p inside1 → IsLevel r.names (IsKey keys) (level_from_parts p) l)
      → part1.leaves ≡ part.leaves → part1.membranes ≡ part.membranes ++ l ∷ [] → part1.contexts ≡ part.contexts → part1.rule_contexts ≡ part.rule_contexts → part1.rules ≡ part.rules
      → GrowsPart r (Under way) keys (one_membrane (f ⊕ expansion.expanded_clauses r.words r.places way cs)) part table part1 table1 s1
  membrane_grows way keys f cs g part table s inside inside1 part1 table1 s1 l is none h level a b c d e =
      let m = h.meets in
      let K = keys ++ m.more in
      let p = f (length table) in
      let q = expansion.expanded_clauses r.words r.places way cs in
      let no : p.table ≡ [] = none (length table) in
      let same : length table ≡ length table + length p.table = omega (arith, ap length no) in
      let P : ℕ → Type 0 = λ n. IsPartOfLevel r.names (IsKey K) (q n) h.items in
      let whole : IsPartOfLevel r.names (IsKey K) (joined_parts p (q (length table + length p.table))) (with_items inside h.items) =
      part_joined r.names (IsKey K) p (q (length table + length p.table)) inside h.items
      (part_by r.names (IsKey keys) (IsKey K) (λ x y i. key_more keys m.more x y i) p inside is) (subst P same h.are_items) in
      let Q : Part → Type 0 = λ x. IsPartOfLevel r.names (IsKey K) (joined_parts p (q (length table + length p.table))) x in
      let made_level = level K (joined_parts p (q (length table + length p.table))) (subst Q (sym h.part_grown) whole) in
      let x = q (length table + length p.table) in
      let T : ℕ → Type 0 = λ n. let y = q n in AllZip (IsRuleOf r.words r.places r.names) y.table h.rules in
      let S : List ExpandedRule → Type 0 = λ t. AllZip (IsRuleOf r.words r.places r.names) (t ++ x.table) h.rules in
      record {
        meets = m;
        items = record { leaves = []; membranes = l ∷ []; contexts = []; rule_contexts = []; rules = [] };
        rules = h.rules;
        are_items = record { leaves = tt; membranes = (made_level, tt); contexts = refl; rule_contexts = refl; rules = refl };
        are_rules = subst S (sym no) (subst T same h.are_rules);
        part_grown = part_is _ _ (a ∙ sym (append-nil part.leaves)) b (c ∙ sym (append-nil part.contexts)) (d ∙ sym (append-nil part.rule_contexts)) (e ∙ sym (append-nil part.rules));
        table_grown = h.table_grown;
      }

  -- ---- lists of nodes

  pub items_last : (n : ℕ) (way : List ℕ) (xs : List Item) (x : Item) (k : ℕ) → length xs ≡ n
      → (expansion.expanded_items r.words r.places way (as_items xs) ⊕ expansion.expanded_item r.words r.places (0 ∷ ones n way) x) k ≡ expansion.expanded_items r.words r.places way (as_items (xs ++ x ∷ [])) k
  items_last n way [] x k e =
      let z : 0 ≡ n = e in
      nothing_sum (expansion.expanded_item r.words r.places (0 ∷ ones n way) x) k ∙ ap (λ m. expansion.expanded_item r.words r.places (0 ∷ ones m way) x k) (sym z)
      ∙ sum_nothing (expansion.expanded_item r.words r.places (0 ∷ way) x) k
  items_last n way (y ∷ xs) x k e =
      let p = expansion.expanded_item r.words r.places (0 ∷ way) y k in
      let m = length xs in
      sym (sum_behind (expansion.expanded_item r.words r.places (0 ∷ way) y) (expansion.expanded_items r.words r.places (1 ∷ way) (as_items xs)) (expansion.expanded_item r.words r.places (0 ∷ ones n way) x) k)
      ∙ ap (λ z. (expansion.expanded_item r.words r.places (0 ∷ way) y ⊕ (expansion.expanded_items r.words r.places (1 ∷ way) (as_items xs) ⊕ expansion.expanded_item r.words r.places (0 ∷ ones z way) x)) k) (sym e)
      ∙ ap (λ q. joined_parts p q) (items_last m (1 ∷ way) xs x (k + length p.table) refl)

  pub clauses_last : (n : ℕ) (way : List ℕ) (xs : List Clause) (x : Clause) (k : ℕ) → length xs ≡ n
      → (expansion.expanded_clauses r.words r.places way (as_clauses xs) ⊕ expansion.expanded_clause r.words r.places (0 ∷ ones n way) x) k
      ≡ expansion.expanded_clauses r.words r.places way (as_clauses (xs ++ x ∷ [])) k
  clauses_last n way [] x k e =
      let z : 0 ≡ n = e in
      nothing_sum (expansion.expanded_clause r.words r.places (0 ∷ ones n way) x) k ∙ ap (λ m. expansion.expanded_clause r.words r.places (0 ∷ ones m way) x k) (sym z)
      ∙ sum_nothing (expansion.expanded_clause r.words r.places (0 ∷ way) x) k
  clauses_last n way (y ∷ xs) x k e =
      let p = expansion.expanded_clause r.words r.places (0 ∷ way) y k in
      let m = length xs in
      sym (sum_behind (expansion.expanded_clause r.words r.places (0 ∷ way) y) (expansion.expanded_clauses r.words r.places (1 ∷ way) (as_clauses xs)) (expansion.expanded_clause r.words r.places (0 ∷ ones n way) x) k)
      ∙ ap (λ z. (expansion.expanded_clause r.words r.places (0 ∷ way) y ⊕ (expansion.expanded_clauses r.words r.places (1 ∷ way) (as_clauses xs) ⊕ expansion.expanded_clause r.words r.places (0 ∷ ones z way) x)) k) (sym e)
      ∙ ap (λ q. joined_parts p q) (clauses_last m (1 ∷ way) xs x (k + length p.table) refl)

  pub terms_last : (n : ℕ) (way : List ℕ) (pos : Pos) (xs : List Term) (x : Term) (k : ℕ) → length xs ≡ n
      → (expansion.expanded_terms r.words r.places pos way (as_terms xs) ⊕ expansion.expanded_term r.words r.places pos (0 ∷ ones n way) (made (0 ∷ ones n way)) x) k
      ≡ expansion.expanded_terms r.words r.places pos way (as_terms (xs ++ x ∷ [])) k
  terms_last n way pos [] x k e =
      let z : 0 ≡ n = e in
      nothing_sum (expansion.expanded_term r.words r.places pos (0 ∷ ones n way) (made (0 ∷ ones n way)) x) k
      ∙ ap (λ m. expansion.expanded_term r.words r.places pos (0 ∷ ones m way) (made (0 ∷ ones m way)) x k) (sym z)
      ∙ sum_nothing (expansion.expanded_term r.words r.places pos (0 ∷ way) (made (0 ∷ way)) x) k
  terms_last n way pos (y ∷ xs) x k e =
      let p = expansion.expanded_term r.words r.places pos (0 ∷ way) (made (0 ∷ way)) y k in
      let m = length xs in
      sym (sum_behind (expansion.expanded_term r.words r.places pos (0 ∷ way) (made (0 ∷ way)) y) (expansion.expanded_terms r.words r.places pos (1 ∷ way) (as_terms xs))
      (expansion.expanded_term r.words r.places pos (0 ∷ ones n way) (made (0 ∷ ones n way)) x) k)
      ∙ ap (λ z. (expansion.expanded_term r.words r.places pos (0 ∷ way) (made (0 ∷ way)) y ⊕ (expansion.expanded_terms r.words r.places pos (1 ∷ way) (as_terms xs)
      ⊕ expansion.expanded_term r.words r.places pos (0 ∷ ones z way) (made (0 ∷ ones z way)) x)) k) (sym e)
      ∙ ap (λ q. joined_parts p q) (terms_last m (1 ∷ way) pos xs x (k + length p.table) refl)

  pub arguments_last : (n : ℕ) (way : List ℕ) (pos : Pos) (xs : List Term) (x : Term) → length xs ≡ n
      → expanded_arguments r.words r.places pos way (as_terms xs) ++ argument r.words r.places pos (0 ∷ ones n way) x ∷ [] ≡ expanded_arguments r.words r.places pos way (as_terms (xs ++ x ∷ []))
  arguments_last n way pos [] x e = ap (λ m. argument r.words r.places pos (0 ∷ ones m way) x ∷ []) (sym e)
  arguments_last n way pos (y ∷ xs) x e =
      let m = length xs in
      ap (λ z. argument r.words r.places pos (0 ∷ way) y ∷ (expanded_arguments r.words r.places pos (1 ∷ way) (as_terms xs) ++ argument r.words r.places pos (0 ∷ ones z way) x ∷ [])) (sym e)
      ∙ ap (λ us. argument r.words r.places pos (0 ∷ way) y ∷ us) (arguments_last m (1 ∷ way) pos xs x refl)

  pub argument_there : (i : ℕ) (way : List ℕ) (pos : Pos) (xs : List Term) (x : Term) (us : List Occ) (o : Occ) (keys : List Link)
      → slice_get xs i ≡ Some x → slice_get us i ≡ Some o → AllZip (IsUse r.names (IsKey keys)) (expanded_arguments r.words r.places pos way (as_terms xs)) us
      → IsUse r.names (IsKey keys) (argument r.words r.places pos (0 ∷ ones i way) x) o
  argument_there i way pos [] x us o keys e f h = absurd (let l = slice_get_within [] i x e in omega arith)
  argument_there i way pos (y ∷ xs) x [] o keys e f h = absurd h
  argument_there zero way pos (y ∷ xs) x (u ∷ us) o keys e f h =
      let P : Term → Type 0 = λ z. IsUse r.names (IsKey keys) (argument r.words r.places pos (0 ∷ way) z) o in
      let Q : Occ → Type 0 = λ z. IsUse r.names (IsKey keys) (argument r.words r.places pos (0 ∷ way) y) z in
      subst P (same_Some y x e) (subst Q (same_Some u o f) h.0)
  argument_there (suc i) way pos (y ∷ xs) x (u ∷ us) o keys e f h = argument_there i (1 ∷ way) pos xs x us o keys e f h.1
