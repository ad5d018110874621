-- What is added by parts of a tree, one behind the other.
use Rattle.std.proofs.Common.{◌≡◌, ℕ, ◌+◌, ◌⊎◌, inl, inr, List, [], ◌∷◌, ◌++◌, length, refl, sym, ap, ◌∙◌, subst}
use Rattle.std.proofs.lemmas.List.{append_assoc, append-nil, length-append, map-append}
use Rattle.std.specs.List.{AllZip}
use Rattle.lmn_base.specs.declared.level.CtxUse.{CtxUse}
use Rattle.lmn_base.specs.declared.level.Leaf as base
use Rattle.lmn_base.specs.declared.level.Level as base_level
use Rattle.lmn_base.specs.declared.rule.RuleTree.{RuleTree}
use Rattle.lmn_congruence.specs.Rules as tree
use Rattle.lmn_flatten_plain.specs.Keys.{IsLinkIn, IsKey}
use Rattle.lmn_flatten_plain.specs.Links.{Link, written, made, fresh}
use Rattle.lmn_flatten_plain.specs.Expanded.{ExpandedLeaf, ExpandedRule}
use Rattle.lmn_flatten_plain.specs.Parts.{Parts, NumberedParts, joined_parts, ◌⊕◌, one_leaf}
use Rattle.lmn_flatten_plain.specs.Plains.{IsRuleOf, numbered_context}
use Rattle.lmn_flatten_plain.proofs.SomeNumbers.{in_front, index_front}
use Rattle.lmn_flatten.specs.Built.{IsLeaf, IsLevel, IsPartOfLevel, AddsLeaf, no_items, with_items}
use Rattle.lmn_flatten.specs.Glossaries.{Reading}
use Rattle.lmn_flatten.specs.Growing.{GrowsPart}
use Rattle.lmn_flatten.specs.Scopes.{IsScope, IsWrittenOrMade, Clear, Meets}
use Rattle.lmn_flatten.specs.declared.part.Part.{Part}
use Rattle.lmn_flatten.specs.declared.scope.Scope.{Scope}
use Rattle.lmn_flatten.proofs.EachLemmas.{each_append, each_by, each_length}
use Rattle.lmn_flatten.proofs.BuiltLemmas.{leaves_by, level_by}
use Rattle.lmn_base.proofs.Lists.{joined_alike}

-- ---- keys

-- a link keeps its key when more links are met
pub key_more : (keys more : List Link) (a : Link) (x : ℕ) → IsKey keys a x → IsKey (keys ++ more) a x
key_more keys more a x h = (in_front a keys more h.0, index_front a keys more h.0 ∙ h.1)

-- a link of two lists joined stands in one of them
pub in_either : (a : Link) (xs ys : List Link) → IsLinkIn a (xs ++ ys) → IsLinkIn a xs ⊎ IsLinkIn a ys
in_either a [] ys h = inr h
in_either a (x ∷ xs) ys (inl e) = inl (inl e)
in_either a (x ∷ xs) ys (inr h) = elim (in_either a xs ys h) [
  | inl i ↦ inl (inr i)
  | inr i ↦ inr i
]

-- what is written or made in one way is so in a wider one
pub of_more : (Z Y : List ℕ → Type 0) → ((v : List ℕ) → Z v → Y v) → (a : Link) → IsWrittenOrMade Z a → IsWrittenOrMade Y a
of_more Z Y f (written n) h = tt
of_more Z Y f (made v) h = f v h
of_more Z Y f (fresh a) h = h

-- ---- links that are met

-- where nothing is read no link is met
abbrev pub meets_nothing : (r : Reading) (Z : List ℕ → Type 0) (keys : List Link) (s : Scope) → IsScope r keys s → Meets r Z keys s
meets_nothing r Z keys s h = record {
  more = [];
  scope = let P : List Link → Type 0 = λ ks. IsScope r ks s in subst P (sym (append-nil keys)) h;
  only = λ a i. absurd i;
}

-- links that are met in one way are met in a wider one
abbrev pub meets_more : (r : Reading) (Z Y : List ℕ → Type 0) (keys : List Link) (s : Scope) → ((v : List ℕ) → Z v → Y v) → Meets r Z keys s → Meets r Y keys s
meets_more r Z Y keys s f m = record { more = m.more; scope = m.scope; only = λ a i. of_more Z Y f a (m.only a i) }

-- and of those that are met one after the other
abbrev pub meets_both : (r : Reading) (Z Y X : List ℕ → Type 0) (keys : List Link) (s t : Scope) → ((v : List ℕ) → Z v → X v) → ((v : List ℕ) → Y v → X v)
    → (m : Meets r Z keys s) → Meets r Y (keys ++ m.more) t → Meets r X keys t
meets_both r Z Y X keys s t f g m n = record {
  more = m.more ++ n.more;
  scope = let P : List Link → Type 0 = λ ks. IsScope r ks t in subst P (append_assoc keys m.more n.more) n.scope;
  only = λ a i. elim (in_either a m.more n.more i) [
    | inl j ↦ of_more Z X f a (m.only a j)
    | inr j ↦ of_more Y X g a (n.only a j)
  ];
}

-- keys that are clear of some ways are so of fewer
pub clear_less : (Z Y : List ℕ → Type 0) (keys : List Link) → ((v : List ℕ) → Y v → Z v) → Clear Z keys → Clear Y keys
clear_less Z Y keys f c v i y = c v i (f v y)

-- and of others after more links were met
pub clear_after : (r : Reading) (Z Y X : List ℕ → Type 0) (keys : List Link) (s : Scope) → ((v : List ℕ) → X v → Z v) → ((v : List ℕ) → Y v → X v → ⊥)
    → Clear Z keys → (m : Meets r Y keys s) → Clear X (keys ++ m.more)
clear_after r Z Y X keys s f apart c m v i x = elim (in_either (made v) keys m.more i) [
  | inl j ↦ c v j (f v x)
  | inr j ↦ apart v (m.only (made v) j) x
]

-- ---- items

-- a part by one relation is one by a wider one
pub part_by : (names : List tree.Name) (R S : Link → ℕ → Type 0) → ((a : Link) (x : ℕ) → R a x → S a x) → (p : Parts) (x : Part)
    → IsPartOfLevel names R p x → IsPartOfLevel names S p x
part_by names R S more p x h = record {
  leaves = leaves_by names R S more p.leaves x.leaves h.leaves;
  membranes = each_by (IsLevel names R) (IsLevel names S) (level_by names R S more) p.membranes x.membranes h.membranes;
  contexts = h.contexts;
  rule_contexts = h.rule_contexts;
  rules = h.rules;
}

-- parts of two are a part of both joined
pub part_joined : (names : List tree.Name) (R : Link → ℕ → Type 0) (p q : Parts) (x y : Part) → IsPartOfLevel names R p x → IsPartOfLevel names R q y
    → IsPartOfLevel names R (joined_parts p q) (with_items x y)
part_joined names R p q x y h g = record {
  leaves = each_append (IsLeaf names R) p.leaves q.leaves x.leaves y.leaves h.leaves g.leaves;
  membranes = each_append (IsLevel names R) p.membranes q.membranes x.membranes y.membranes h.membranes g.membranes;
  contexts = joined_alike h.contexts g.contexts ∙ sym (map-append (numbered_context names (λ a. 0)) p.contexts q.contexts);
  rule_contexts = joined_alike h.rule_contexts g.rule_contexts ∙ sym (map-append (numbered_context names (λ a. 0)) p.rule_contexts q.rule_contexts);
  rules = joined_alike h.rules g.rules;
}

abbrev items_as : List base.Leaf → List base_level.Level → List CtxUse → List CtxUse → List ℕ → Part
items_as ls ms cs rs ns = record { leaves = ls; membranes = ms; contexts = cs; rule_contexts = rs; rules = ns }

-- parts are the same where each of their lists is
pub part_is : (x y : Part) → x.leaves ≡ y.leaves → x.membranes ≡ y.membranes → x.contexts ≡ y.contexts → x.rule_contexts ≡ y.rule_contexts → x.rules ≡ y.rules → x ≡ y
part_is x y a b c d e = layer x.leaves y.leaves x.membranes y.membranes x.contexts y.contexts x.rule_contexts y.rule_contexts x.rules y.rules a b c d e
  where
    layer : (vs bs : List base.Leaf) (cs ds : List base_level.Level) (es fs gs hs : List CtxUse) (is js : List ℕ) → vs ≡ bs → cs ≡ ds → es ≡ fs → gs ≡ hs → is ≡ js
        → items_as vs cs es gs is ≡ items_as bs ds fs hs js
    layer vs bs cs ds es fs gs hs is js a b c d e =
        ap (λ x. items_as x cs es gs is) a ∙ ap (λ x. items_as bs x es gs is) b ∙ ap (λ x. items_as bs ds x gs is) c ∙ ap (λ x. items_as bs ds fs x is) d
        ∙ ap (λ x. items_as bs ds fs hs x) e

-- items of three parts, joined either way
pub items_behind : (x y z : Part) → with_items (with_items x y) z ≡ with_items x (with_items y z)
items_behind x y z = part_is _ _ (append_assoc x.leaves y.leaves z.leaves) (append_assoc x.membranes y.membranes z.membranes)
    (append_assoc x.contexts y.contexts z.contexts) (append_assoc x.rule_contexts y.rule_contexts z.rule_contexts) (append_assoc x.rules y.rules z.rules)

-- a part with no more items is itself
pub no_more_items : (x : Part) → x ≡ with_items x no_items
no_more_items x = part_is _ _ (sym (append-nil x.leaves)) (sym (append-nil x.membranes)) (sym (append-nil x.contexts)) (sym (append-nil x.rule_contexts)) (sym (append-nil x.rules))

-- ---- growing

module _ (r : Reading) where
  abbrev pub grows_more : (Z Y : List ℕ → Type 0) (keys : List Link) (f : NumberedParts) (part : Part) (table : List RuleTree) (part1 : Part) (table1 : List RuleTree) (s : Scope)
      → ((v : List ℕ) → Z v → Y v) → GrowsPart r Z keys f part table part1 table1 s → GrowsPart r Y keys f part table part1 table1 s
  grows_more Z Y keys f part table part1 table1 s h g = record {
    meets = meets_more r Z Y keys s h g.meets;
    items = g.items;
    rules = g.rules;
    are_items = g.are_items;
    are_rules = g.are_rules;
    part_grown = g.part_grown;
    table_grown = g.table_grown;
  }

  -- another form of the parts
  abbrev pub grows_as : (Z : List ℕ → Type 0) (keys : List Link) (f g : NumberedParts) (part : Part) (table : List RuleTree) (part1 : Part) (table1 : List RuleTree) (s : Scope)
      → f (length table) ≡ g (length table) → GrowsPart r Z keys f part table part1 table1 s → GrowsPart r Z keys g part table part1 table1 s
  grows_as Z keys f g part table part1 table1 s e h = record {
    meets = h.meets;
    items = h.items;
    rules = h.rules;
    are_items = let P : Parts → Type 0 = λ p. IsPartOfLevel r.names (IsKey (keys ++ h.meets.more)) p h.items in subst P e h.are_items;
    are_rules = let P : Parts → Type 0 = λ p. AllZip (IsRuleOf r.words r.places r.names) p.table h.rules in subst P e h.are_rules;
    part_grown = h.part_grown;
    table_grown = h.table_grown;
  }

  -- items alone, whose links are known
  pub grows_items : (Z : List ℕ → Type 0) (keys : List Link) (f : NumberedParts) (part : Part) (table : List RuleTree) (part1 : Part) (s : Scope) (items : Part)
      → IsScope r keys s → IsPartOfLevel r.names (IsKey keys) (f (length table)) items → (let p = f (length table) in p.table ≡ []) → part1 ≡ with_items part items
      → GrowsPart r Z keys f part table part1 table s
  grows_items Z keys f part table part1 s items scope are none grown = record {
    meets = meets_nothing r Z keys s scope;
    items = items;
    rules = [];
    are_items = let P : List Link → Type 0 = λ ks. IsPartOfLevel r.names (IsKey ks) (f (length table)) items in subst P (sym (append-nil keys)) are;
    are_rules = let P : List ExpandedRule → Type 0 = λ t. AllZip (IsRuleOf r.words r.places r.names) t [] in subst P (sym none) tt;
    part_grown = grown;
    table_grown = sym (append-nil table);
  }

  pub grows_nothing : (Z : List ℕ → Type 0) (keys : List Link) (part : Part) (table : List RuleTree) (s : Scope) → IsScope r keys s
      → GrowsPart r Z keys (λ k. record { leaves = []; membranes = []; contexts = []; rule_contexts = []; rules = []; table = [] }) part table part table s
  grows_nothing Z keys part table s scope =
      grows_items Z keys _ part table part s no_items scope (record { leaves = tt; membranes = tt; contexts = refl; rule_contexts = refl; rules = refl }) refl
      (no_more_items part)

  pub grows_leaf : (Z : List ℕ → Type 0) (keys : List Link) (l : ExpandedLeaf) (part : Part) (table : List RuleTree) (part1 : Part) (s : Scope)
      → IsScope r keys s → AddsLeaf r.names (IsKey keys) l part part1 → GrowsPart r Z keys (one_leaf l) part table part1 table s
  grows_leaf Z keys l part table part1 s scope h =
      grows_items Z keys (one_leaf l) part table part1 s (record { leaves = h.leaf ∷ []; membranes = []; contexts = []; rule_contexts = []; rules = [] }) scope
      (record { leaves = (h.is_leaf, tt); membranes = tt; contexts = refl; rule_contexts = refl; rules = refl }) refl
      (part_is _ _ h.leaves (h.membranes ∙ sym (append-nil part.membranes)) (h.contexts ∙ sym (append-nil part.contexts))
      (h.rule_contexts ∙ sym (append-nil part.rule_contexts)) (h.rules ∙ sym (append-nil part.rules)))

  -- the part of the table that is added has as many rules as the tree has there
  pub table_length : (Z : List ℕ → Type 0) (keys : List Link) (f : NumberedParts) (part : Part) (table : List RuleTree) (part1 : Part) (table1 : List RuleTree) (s : Scope)
      → GrowsPart r Z keys f part table part1 table1 s → (let p = f (length table) in length table1 ≡ length table + length p.table)
  table_length Z keys f part table part1 table1 s h =
      let p = f (length table) in
      ap length h.table_grown ∙ length-append table h.rules ∙ ap (λ n. length table + n) (each_length (IsRuleOf r.words r.places r.names) p.table h.rules h.are_rules)

  -- one part and then another
  abbrev pub grows_both : (Z Y X : List ℕ → Type 0) (keys : List Link) (f g : NumberedParts) (part : Part) (table : List RuleTree) (part1 : Part) (table1 : List RuleTree) (s : Scope)
      (part2 : Part) (table2 : List RuleTree) (t : Scope) → ((v : List ℕ) → Z v → X v) → ((v : List ℕ) → Y v → X v)
      → (h : GrowsPart r Z keys f part table part1 table1 s) → (let m = h.meets in GrowsPart r Y (keys ++ m.more) g part1 table1 part2 table2 t)
      → GrowsPart r X keys (f ⊕ g) part table part2 table2 t
  grows_both Z Y X keys f g part table part1 table1 s part2 table2 t zs ys h k =
      let m = h.meets in
      let n = k.meets in
      let p = f (length table) in
      let more : (a : Link) (x : ℕ) → IsKey (keys ++ m.more) a x → IsKey ((keys ++ m.more) ++ n.more) a x = λ a x i. key_more (keys ++ m.more) n.more a x i in
      let e = table_length Z keys f part table part1 table1 s h in
      let P : ℕ → Type 0 = λ i. IsPartOfLevel r.names (IsKey ((keys ++ m.more) ++ n.more)) (g i) k.items in
      let Q : List Link → Type 0 = λ ks. IsPartOfLevel r.names (IsKey ks) (joined_parts p (g (length table + length p.table))) (with_items h.items k.items) in
      let T : ℕ → Type 0 = λ i. let q = g i in AllZip (IsRuleOf r.words r.places r.names) q.table k.rules in
      let q = g (length table + length p.table) in
      record {
        meets = meets_both r Z Y X keys s t zs ys m n;
        items = with_items h.items k.items;
        rules = h.rules ++ k.rules;
        are_items = subst Q (append_assoc keys m.more n.more)
            (part_joined r.names (IsKey ((keys ++ m.more) ++ n.more)) p q h.items k.items
            (part_by r.names (IsKey (keys ++ m.more)) (IsKey ((keys ++ m.more) ++ n.more)) more p h.items h.are_items) (subst P e k.are_items));
        are_rules = each_append (IsRuleOf r.words r.places r.names) p.table q.table h.rules k.rules h.are_rules (subst T e k.are_rules);
        part_grown = k.part_grown ∙ ap (λ x. with_items x k.items) h.part_grown ∙ items_behind part h.items k.items;
        table_grown = k.table_grown ∙ ap (λ x. x ++ k.rules) h.table_grown ∙ append_assoc table h.rules k.rules;
      }

  -- what is added once more links are met
  pub grows_after : (Z Y X : List ℕ → Type 0) (keys : List Link) (f : NumberedParts) (part : Part) (table : List RuleTree) (s : Scope)
      (part2 : Part) (table2 : List RuleTree) (t : Scope) → ((v : List ℕ) → Z v → X v) → ((v : List ℕ) → Y v → X v)
      → (m : Meets r Z keys s) → GrowsPart r Y (keys ++ m.more) f part table part2 table2 t
      → GrowsPart r X keys f part table part2 table2 t
  grows_after Z Y X keys f part table s part2 table2 t zs ys m k =
      let n = k.meets in
      let Q : List Link → Type 0 = λ ks. IsPartOfLevel r.names (IsKey ks) (f (length table)) k.items in
      record {
        meets = meets_both r Z Y X keys s t zs ys m n;
        items = k.items;
        rules = k.rules;
        are_items = subst Q (append_assoc keys m.more n.more) k.are_items;
        are_rules = k.are_rules;
        part_grown = k.part_grown;
        table_grown = k.table_grown;
      }
