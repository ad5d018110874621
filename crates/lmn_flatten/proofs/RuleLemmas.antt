-- Rules, and the process outside them, once their links have numbers.
use Rattle.std.proofs.Common.{◌≡◌, ℕ, zero, suc, ◌+◌, ◌<◌, ◌⊎◌, inl, inr, List, [], ◌∷◌, ◌++◌, length, slice_index_or, slice_set, All, Contains, refl, sym, ap, ◌∙◌, subst, arith}
use Rattle.std.proofs.lemmas.List.{append_assoc, append-nil, length-append}
use Rattle.std.specs.List.{AllZip}
use Rattle.lmn_base.specs.declared.level.Level as base_level
use Rattle.lmn_base.specs.declared.refusal.Pos.{Pos}
use Rattle.lmn_base.specs.declared.rule.Plain.{Plain}
use Rattle.lmn_base.specs.declared.rule.RuleTree.{RuleTree}
use Rattle.lmn_base.specs.Levels.{links_of}
use Rattle.lmn_congruence.specs.Rules as tree
use Rattle.lmn_flatten_numbers.specs.Renumbered.{renumbered}
use Rattle.lmn_flatten_numbers.specs.Scopes.{NumbersLevel, NumbersRule}
use Rattle.lmn_parser.specs.declared.tree.CondNode.{CondNode}
use Rattle.lmn_parser.specs.declared.tree.Item.{Item as ItemNode}
use Rattle.lmn_parser.specs.Syntax.{Items, WrittenCondition, Clauses, conditions_of, items_of_nodes, rule as rule_clause}
use Rattle.lmn_flatten_plain.specs.Expanded as expanded
use Rattle.lmn_flatten_plain.specs.Expanded.{ExpandedLevel}
use Rattle.lmn_flatten_plain.specs.Expansion as expansion
use Rattle.lmn_flatten_plain.specs.Expansion.{parts_of}
use Rattle.lmn_flatten_plain.specs.Keys.{IsLinkIn, link_index, IsKey}
use Rattle.lmn_flatten_plain.specs.Links.{Link, made, fresh}
use Rattle.lmn_flatten_plain.specs.Parts.{Parts, joined_parts, fresh_copy, level_from_parts, rule_of_parts}
use Rattle.lmn_flatten_plain.specs.Plains.{OneToOne, IsCond, IsRuleOf, IsPlainOf, numbered}
use Rattle.lmn_flatten_plain.proofs.SomeNumbers.{index_below, index_one}
use Rattle.lmn_flatten.specs.Built.{IsLevel, IsPartOfLevel, no_items, with_items}
use Rattle.lmn_flatten.specs.Copies.{Copies, NoneFresh}
use Rattle.lmn_flatten.specs.Glossaries.{Reading, IsGlossary}
use Rattle.lmn_flatten.specs.Growing.{MayGrow, GrowsPart, ReadsRule}
use Rattle.lmn_flatten.specs.Scopes.{IsScope, IsWrittenOrMade, Clear, Under}
use Rattle.lmn_flatten.specs.declared.glossary.Glossary.{Glossary}
use Rattle.lmn_flatten.specs.declared.part.Part.{Part}
use Rattle.lmn_flatten.specs.declared.scope.Scope.{Scope}
use Rattle.lmn_flatten.proofs.EachLemmas.{each_append}
use Rattle.lmn_flatten.proofs.BuiltLemmas.{level_is, links_by, renumbered_by}
use Rattle.lmn_flatten.proofs.GrowingLemmas.{in_either, key_more, part_by, part_joined, meets_nothing, part_is, table_length}
use Rattle.lmn_flatten.proofs.WayLemmas.{under_apart}

-- ---- keys of lists of links

module _ (keys : List Link) where
  key_there : (xs : List Link) (ys : List ℕ) → AllZip (IsKey keys) xs ys → (a : Link) (k : ℕ) → k < length xs → slice_index_or xs k a ≡ a
      → Contains ys (link_index a keys) × IsLinkIn a keys
  key_there [] ys h a k l e = absurd (omega (arith, l))
  key_there (x ∷ xs) [] h a k l e = absurd h
  key_there (x ∷ xs) (y ∷ ys) h a zero l e =
      let P : Link → Type 0 = λ b. IsKey keys b y in
      let key = subst P e h.0 in
      ((0, omega arith, sym key.1), key.0)
  key_there (x ∷ xs) (y ∷ ys) h a (suc k) l e =
      let found = key_there xs ys h.1 a k (omega (arith, l)) e in
      let c = found.0 in
      ((suc c.0, omega (arith, c.1), c.2), found.1)

  pub keys_below : (xs : List Link) (ys : List ℕ) (n : ℕ) → n ≡ length keys → AllZip (IsKey keys) xs ys → All (λ y. y < n) ys
  keys_below [] [] n e h k d l = absurd (omega (arith, l))
  keys_below [] (y ∷ ys) n e h k d l = absurd h
  keys_below (x ∷ xs) [] n e h k d l = absurd h
  keys_below (x ∷ xs) (y ∷ ys) n e h zero d l = let key = h.0 in omega (arith, index_below x keys key.0, key.1, e)
  keys_below (x ∷ xs) (y ∷ ys) n e h (suc k) d l = keys_below xs ys n e h.1 k d (omega (arith, l))

  pub number : (ℕ → ℕ) → Link → ℕ
  number to a = to (link_index a keys)

  pub one_to_one : (to : ℕ → ℕ) (xs : List Link) (ys : List ℕ) → AllZip (IsKey keys) xs ys
      → ((a b : ℕ) → Contains ys a → Contains ys b → to a ≡ to b → a ≡ b) → OneToOne (λ a. to (link_index a keys)) xs
  one_to_one to xs ys h apart a b i j e =
      let f = key_there xs ys h a i.0 i.1 i.2 in
      let g = key_there xs ys h b j.0 j.1 j.2 in
      index_one a b keys f.1 g.1 (apart (link_index a keys) (link_index b keys) f.0 g.0 e)

  pub numbered_level : (names : List tree.Name) (to : ℕ → ℕ) (l : ExpandedLevel) (x y : base_level.Level) → IsLevel names (IsKey keys) l x → y ≡ renumbered to x
      → y ≡ numbered names (λ a. to (link_index a keys)) l
  numbered_level names to l x y h e =
      e ∙ level_is names (λ a. to (link_index a keys)) l (renumbered to x)
      (renumbered_by names (IsKey keys) (λ a z. to (link_index a keys) ≡ z) to (λ a z k. ap to k.1) l x h)

-- ---- the process outside every rule

-- the parts of a text, with its links and its rules
pub record TopParts (r : Reading) (tree : Clauses) (top : base_level.Level) (table : List RuleTree) (s : Scope) : Type 0 where
  pub keys : List Link
  pub scope : IsScope r keys s
  pub level : IsLevel r.names (IsKey keys) (level_from_parts (parts_of r.words r.places tree)) top
  pub rules : (let p = parts_of r.words r.places tree in AllZip (IsRuleOf r.words r.places r.names) p.table table)

module _ (r : Reading) where
  nothing_before : (part items : Part) → part ≡ no_items → with_items part items ≡ items
  nothing_before part items e = ap (λ x. with_items x items) e ∙ part_is _ _ refl refl refl refl refl

  pub top_parts : (cs : Clauses) (g : Glossary) (part : Part) (table : List RuleTree) (s : Scope) (part1 : Part) (table1 : List RuleTree) (s1 : Scope) (top : base_level.Level)
      → IsGlossary r g → part ≡ no_items → table ≡ [] → IsScope r [] s
      → ((way : List ℕ) (keys : List Link) → MayGrow r (Under way) keys g s → GrowsPart r (Under way) keys (expansion.expanded_clauses r.words r.places way cs) part table part1 table1 s1)
      → ((keys : List Link) (p : Parts) → IsPartOfLevel r.names (IsKey keys) p part1 → IsLevel r.names (IsKey keys) (level_from_parts p) top)
      → TopParts r cs top table1 s1
  top_parts cs g part table s part1 table1 s1 top is e f scope grow level =
      let h = grow [] [] (record { glossary = is; scope = scope; clear = λ v i. absurd i }) in
      let m = h.meets in
      let p = expansion.expanded_clauses r.words r.places [] cs in
      let n : length table ≡ 0 = ap length f in
      let P : ℕ → Type 0 = λ k. IsPartOfLevel r.names (IsKey m.more) (p k) h.items in
      let Q : Part → Type 0 = λ x. IsPartOfLevel r.names (IsKey m.more) (p 0) x in
      let T : ℕ → Type 0 = λ k. let x = p k in AllZip (IsRuleOf r.words r.places r.names) x.table h.rules in
      let U : List RuleTree → Type 0 = λ ts. let x = p 0 in AllZip (IsRuleOf r.words r.places r.names) x.table ts in
      record {
        keys = m.more;
        scope = m.scope;
        level = level m.more (p 0) (subst Q (sym (h.part_grown ∙ nothing_before part h.items e)) (subst P n h.are_items));
        rules = subst U (sym (h.table_grown ∙ ap (λ ts. ts ++ h.rules) f)) (subst T n h.are_rules);
      }

  pub top_below : (cs : Clauses) (top : base_level.Level) (table : List RuleTree) (s : Scope) → TopParts r cs top table s → All (λ k. k < s.count) (links_of top)
  top_below cs top table s h =
      let l = level_from_parts (parts_of r.words r.places cs) in
      let keys = h.scope in
      keys_below h.keys (expanded.expanded_links l) (links_of top) s.count keys.count (links_by r.names (IsKey h.keys) l top h.level)

  pub top_plain : (cs : Clauses) (old : base_level.Level) (plain : Plain) (table : List RuleTree) (s : Scope) → TopParts r cs old table s
      → NumbersLevel old plain.top plain.links → plain.rules ≡ table → IsPlainOf r.words r.places r.names cs plain
  top_plain cs old plain table s h n e =
      let l = level_from_parts (parts_of r.words r.places cs) in
      let P : List RuleTree → Type 0 = λ ts. let p = parts_of r.words r.places cs in AllZip (IsRuleOf r.words r.places r.names) p.table ts in
      record {
        number = λ a. n.to (link_index a h.keys);
        apart = one_to_one h.keys n.to (expanded.expanded_links l) (links_of old) (links_by r.names (IsKey h.keys) l old h.level) n.apart;
        top = numbered_level h.keys r.names n.to l old plain.top h.level n.level;
        table = n.table;
        rules = subst P (sym e) h.rules;
      }

  -- ---- rules

  pub record RuleParts (way : List ℕ) (kept taken body : Items) (head_level body_level : base_level.Level) (table table1 : List RuleTree) (s : Scope) : Type 0 where
    pub keys : List Link
    pub scope : IsScope r keys s
    pub rules : List RuleTree
    pub grown : table1 ≡ table ++ rules
    pub parts : (
        let p = expansion.expanded_items r.words r.places (0 ∷ way) kept (length table) in
        let q = expansion.expanded_items r.words r.places (1 ∷ way) taken (length table + length p.table) in
        let b = expansion.expanded_items r.words r.places (2 ∷ way) body (length table + length p.table + length q.table) in
        IsLevel r.names (IsKey keys) (level_from_parts (joined_parts p q)) head_level × IsLevel r.names (IsKey keys) (level_from_parts (joined_parts (fresh_copy p) b)) body_level
        × AllZip (IsRuleOf r.words r.places r.names) (p.table ++ (q.table ++ b.table)) rules)

  pub rule_parts : (way : List ℕ) (kept taken body : Items) (g : Glossary) (head0 head1 head2 body0 body1 : Part) (t0 t1 t2 t3 : List RuleTree) (s0 s1 s2 s3 s4 : Scope)
      (head_level body_level : base_level.Level) → IsGlossary r g → IsScope r [] s0 → head0 ≡ no_items
      → ((way : List ℕ) (keys : List Link) → MayGrow r (Under way) keys g s0 → GrowsPart r (Under way) keys (expansion.expanded_items r.words r.places way kept) head0 t0 head1 t1 s1)
      → ((keys : List Link) (p : Parts) → IsScope r keys s1 → NoneFresh keys → IsPartOfLevel r.names (IsKey keys) p head1 → Copies r keys p body0 s2)
      → ((way : List ℕ) (keys : List Link) → MayGrow r (Under way) keys g s2 → GrowsPart r (Under way) keys (expansion.expanded_items r.words r.places way taken) head1 t1 head2 t2 s3)
      → ((way : List ℕ) (keys : List Link) → MayGrow r (Under way) keys g s3 → GrowsPart r (Under way) keys (expansion.expanded_items r.words r.places way body) body0 t2 body1 t3 s4)
      → ((keys : List Link) (p : Parts) → IsPartOfLevel r.names (IsKey keys) p head2 → IsLevel r.names (IsKey keys) (level_from_parts p) head_level)
      → ((keys : List Link) (p : Parts) → IsPartOfLevel r.names (IsKey keys) p body1 → IsLevel r.names (IsKey keys) (level_from_parts p) body_level)
      → RuleParts way kept taken body head_level body_level t0 t3 s4
  rule_parts way kept taken body g head0 head1 head2 body0 body1 t0 t1 t2 t3 s0 s1 s2 s3 s4 head_level body_level is scope e keep copy take make level_head level_body =
      let h1 = keep (0 ∷ way) [] (record { glossary = is; scope = scope; clear = λ v i. absurd i }) in
      let m1 = h1.meets in
      let K1 = m1.more in
      let p = expansion.expanded_items r.words r.places (0 ∷ way) kept (length t0) in
      let head1_is : head1 ≡ h1.items = h1.part_grown ∙ nothing_before head0 h1.items e in
      let H : Part → Type 0 = λ x. IsPartOfLevel r.names (IsKey K1) p x in
      let part1 = subst H (sym head1_is) h1.are_items in
      let c = copy K1 p m1.scope (λ a i. m1.only (fresh a) i) part1 in
      let K2 = K1 ++ c.more in
      let clear2 : (k : ℕ) → (0 ≡ k → ⊥) → Clear (Under (k ∷ way)) K2 = λ k d v i u. clear_of K1 c.more m1.only c.only k d v (in_either (made v) K1 c.more i) u in
      let h2 = take (1 ∷ way) K2 (record { glossary = is; scope = c.scope; clear = clear2 1 (λ d. cc) }) in
      let m2 = h2.meets in
      let K3 = K2 ++ m2.more in
      let clear3 : Clear (Under (2 ∷ way)) K3 = λ v i u. elim (in_either (made v) K2 m2.more i) [
        | inl j ↦ clear2 2 (λ d. cc) v j u
        | inr j ↦ under_apart way v 1 2 (λ d. cc) (m2.only (made v) j) u
      ] in
      let h3 = make (2 ∷ way) K3 (record { glossary = is; scope = m2.scope; clear = clear3 }) in
      let m3 = h3.meets in
      let K = K3 ++ m3.more in
      let n1 = table_length r (Under (0 ∷ way)) [] (expansion.expanded_items r.words r.places (0 ∷ way) kept) head0 t0 head1 t1 s1 h1 in
      let q = expansion.expanded_items r.words r.places (1 ∷ way) taken (length t0 + length p.table) in
      let q0 = expansion.expanded_items r.words r.places (1 ∷ way) taken (length t1) in
      let n2 : length t2 ≡ length t1 + length q0.table = table_length r (Under (1 ∷ way)) K2 (expansion.expanded_items r.words r.places (1 ∷ way) taken) head1 t1 head2 t2 s3 h2 in
      let n3 : length t2 ≡ length t0 + length p.table + length q.table = n2 ∙ ap (λ k. let x = expansion.expanded_items r.words r.places (1 ∷ way) taken k in k + length x.table) n1 in
      let b = expansion.expanded_items r.words r.places (2 ∷ way) body (length t0 + length p.table + length q.table) in
      let P2 : ℕ → Type 0 = λ k. IsPartOfLevel r.names (IsKey K3) (expansion.expanded_items r.words r.places (1 ∷ way) taken k) h2.items in
      let P3 : ℕ → Type 0 = λ k. IsPartOfLevel r.names (IsKey K) (expansion.expanded_items r.words r.places (2 ∷ way) body k) h3.items in
      let T2 : ℕ → Type 0 = λ k. let x = expansion.expanded_items r.words r.places (1 ∷ way) taken k in AllZip (IsRuleOf r.words r.places r.names) x.table h2.rules in
      let T3 : ℕ → Type 0 = λ k. let x = expansion.expanded_items r.words r.places (2 ∷ way) body k in AllZip (IsRuleOf r.words r.places r.names) x.table h3.rules in
      let up3 : (a : Link) (x : ℕ) → IsKey K3 a x → IsKey K a x = λ a x k. key_more K3 m3.more a x k in
      let up2 : (a : Link) (x : ℕ) → IsKey K2 a x → IsKey K a x = λ a x k. up3 a x (key_more K2 m2.more a x k) in
      let up1 : (a : Link) (x : ℕ) → IsKey K1 a x → IsKey K a x = λ a x k. up2 a x (key_more K1 c.more a x k) in
      let head : IsPartOfLevel r.names (IsKey K) (joined_parts p q) (with_items head1 h2.items) = part_joined r.names (IsKey K) p q head1 h2.items
      (part_by r.names (IsKey K1) (IsKey K) up1 p head1 part1) (part_by r.names (IsKey K3) (IsKey K) up3 q h2.items (subst P2 n1 h2.are_items)) in
      let whole : IsPartOfLevel r.names (IsKey K) (joined_parts (fresh_copy p) b) (with_items body0 h3.items) = part_joined r.names (IsKey K) (fresh_copy p) b body0 h3.items
      (part_by r.names (IsKey K2) (IsKey K) up2 (fresh_copy p) body0 c.is_copy) (subst P3 n3 h3.are_items) in
      let X : Part → Type 0 = λ x. IsPartOfLevel r.names (IsKey K) (joined_parts p q) x in
      let Y : Part → Type 0 = λ x. IsPartOfLevel r.names (IsKey K) (joined_parts (fresh_copy p) b) x in
      record {
        keys = K;
        scope = m3.scope;
        rules = h1.rules ++ (h2.rules ++ h3.rules);
        grown = h3.table_grown ∙ ap (λ x. x ++ h3.rules) (h2.table_grown ∙ ap (λ x. x ++ h2.rules) h1.table_grown)
            ∙ ap (λ x. x ++ h3.rules) (append_assoc t0 h1.rules h2.rules) ∙ append_assoc t0 (h1.rules ++ h2.rules) h3.rules ∙ ap (λ x. t0 ++ x) (append_assoc h1.rules h2.rules h3.rules);
        parts = (
          level_head K (joined_parts p q) (subst X (sym h2.part_grown) head),
          level_body K (joined_parts (fresh_copy p) b) (subst Y (sym h3.part_grown) whole),
          each_append (IsRuleOf r.words r.places r.names) p.table (q.table ++ b.table) h1.rules (h2.rules ++ h3.rules) h1.are_rules
              (each_append (IsRuleOf r.words r.places r.names) q.table b.table h2.rules h3.rules (subst T2 n1 h2.are_rules) (subst T3 n3 h3.are_rules)),
        );
      }
    where
      clear_of : (K1 more : List Link) → ((a : Link) → IsLinkIn a K1 → IsWrittenOrMade (Under (0 ∷ way)) a) → ((a : Link) → IsLinkIn a more → (b : Link) × (a ≡ fresh b)) → (k : ℕ) → (0 ≡ k → ⊥)
          → (v : List ℕ) → IsLinkIn (made v) K1 ⊎ IsLinkIn (made v) more → Under (k ∷ way) v → ⊥
      clear_of K1 more only other k d v (inl i) u = under_apart way v 0 k d (only (made v) i) u
      clear_of K1 more only other k d v (inr i) u = let f = other (made v) i in not_fresh v f.0 f.1
        where
          not_fresh : (v : List ℕ) (b : Link) → made v ≡ fresh b → ⊥
          not_fresh v b e = absurd (cc)

  pub rule_below : (way : List ℕ) (kept taken body : Items) (head_level body_level : base_level.Level) (table table1 : List RuleTree) (s : Scope)
      → RuleParts way kept taken body head_level body_level table table1 s → All (λ k. k < s.count) (links_of head_level ++ links_of body_level)
  rule_below way kept taken body head_level body_level table table1 s h =
      let p = expansion.expanded_items r.words r.places (0 ∷ way) kept (length table) in
      let q = expansion.expanded_items r.words r.places (1 ∷ way) taken (length table + length p.table) in
      let b = expansion.expanded_items r.words r.places (2 ∷ way) body (length table + length p.table + length q.table) in
      let x = level_from_parts (joined_parts p q) in
      let y = level_from_parts (joined_parts (fresh_copy p) b) in
      let f = h.parts in
      let is = h.scope in
      keys_below h.keys (expanded.expanded_links x ++ expanded.expanded_links y) (links_of head_level ++ links_of body_level) s.count is.count
      (each_append (IsKey h.keys) (expanded.expanded_links x) (expanded.expanded_links y) (links_of head_level) (links_of body_level)
      (links_by r.names (IsKey h.keys) x head_level f.0) (links_by r.names (IsKey h.keys) y body_level f.1))

  pub rule_read : (way : List ℕ) (kept taken body : Items) (conditions : List WrittenCondition) (pos : Pos) (old_head old_body : base_level.Level) (rule : RuleTree) (table table1 : List RuleTree) (s : Scope)
      → RuleParts way kept taken body old_head old_body table table1 s → NumbersRule old_head old_body rule.head rule.body rule.links → rule.pos ≡ pos
      → AllZip (IsCond r.words r.places r.names) conditions rule.guard → ReadsRule r way kept taken conditions body pos table rule table1
  rule_read way kept taken body conditions pos old_head old_body rule table table1 s h n place conds =
      let p = expansion.expanded_items r.words r.places (0 ∷ way) kept (length table) in
      let q = expansion.expanded_items r.words r.places (1 ∷ way) taken (length table + length p.table) in
      let b = expansion.expanded_items r.words r.places (2 ∷ way) body (length table + length p.table + length q.table) in
      let x = level_from_parts (joined_parts p q) in
      let y = level_from_parts (joined_parts (fresh_copy p) b) in
      let f = h.parts in
      record {
        rules = h.rules;
        grown = h.grown;
        is_rule = (
          record {
            number = λ a. n.to (link_index a h.keys);
            apart = one_to_one h.keys n.to (expanded.expanded_links x ++ expanded.expanded_links y) (links_of old_head ++ links_of old_body)
                (each_append (IsKey h.keys) (expanded.expanded_links x) (expanded.expanded_links y) (links_of old_head) (links_of old_body)
                (links_by r.names (IsKey h.keys) x old_head f.0) (links_by r.names (IsKey h.keys) y old_body f.1)) n.apart;
            head = numbered_level h.keys r.names n.to x old_head rule.head f.0 n.head;
            guard = conds;
            body = numbered_level h.keys r.names n.to y old_body rule.body f.1 n.body;
            pos = place;
            table = n.table;
          },
          f.2,
        );
      }

-- ---- a rule in the table

set_there : (xs : List RuleTree) (x y : RuleTree) (zs : List RuleTree) → slice_set (xs ++ x ∷ zs) (length xs) y ≡ xs ++ y ∷ zs
set_there [] x y zs = refl
set_there (w ∷ xs) x y zs = ap (λ t. w ∷ t) (set_there xs x y zs)

-- a rule has its place in the table before it is read
pub room_for_rule : (r : Reading) (way : List ℕ) (kept taken : Items) (conditions : List WrittenCondition) (body : Items) (pos : Pos) (table pushed read : List RuleTree) (x rule : RuleTree) (place : ℕ)
    → place ≡ length table → pushed ≡ table ++ x ∷ [] → ReadsRule r way kept taken conditions body pos pushed rule read → place < length read
room_for_rule r way kept taken conditions body pos table pushed read x rule place e p h =
    omega (arith, e, ap length h.grown, length-append pushed h.rules, ap length p, length-append table (x ∷ []))

-- and is set there afterwards
pub rule_grows : (r : Reading) (Z : List ℕ → Type 0) (way : List ℕ) (keys : List Link) (kept taken : Items) (conditions : List WrittenCondition) (body : Items) (pos : Pos)
    (part : Part) (table pushed read set : List RuleTree) (s : Scope) (x rule : RuleTree) (place number : ℕ) (rules : List ℕ)
    → IsScope r keys s → place ≡ length table → number ≡ place → pushed ≡ table ++ x ∷ [] → ReadsRule r way kept taken conditions body pos pushed rule read
    → set ≡ slice_set read place rule → rules ≡ part.rules ++ number ∷ []
    → GrowsPart r Z keys (expansion.expanded_clause r.words r.places way (rule_clause kept taken conditions body pos)) part table
    (record { leaves = part.leaves; membranes = part.membranes; contexts = part.contexts; rule_contexts = part.rule_contexts; rules = rules }) set s
rule_grows r Z way keys kept taken conditions body pos part table pushed read set s x rule place number rules scope e f p h g i =
    let size : length pushed ≡ suc (length table) = omega (arith, ap length p, length-append table (x ∷ [])) in
    let P : ℕ → Type 0 = λ n.
    let p = expansion.expanded_items r.words r.places (0 ∷ way) kept n in
    let q = expansion.expanded_items r.words r.places (1 ∷ way) taken (n + length p.table) in
    let b = expansion.expanded_items r.words r.places (2 ∷ way) body (n + length p.table + length q.table) in
    IsRuleOf r.words r.places r.names (rule_of_parts p q conditions b pos) rule × AllZip (IsRuleOf r.words r.places r.names) (p.table ++ (q.table ++ b.table)) h.rules in
    let is = subst P size h.is_rule in
    let whole : read ≡ table ++ x ∷ h.rules = h.grown ∙ ap (λ t. t ++ h.rules) p ∙ append_assoc table (x ∷ []) h.rules in
    record {
      meets = meets_nothing r Z keys s scope;
      items = record { leaves = []; membranes = []; contexts = []; rule_contexts = []; rules = number ∷ [] };
      rules = rule ∷ h.rules;
      are_items = record { leaves = tt; membranes = tt; contexts = refl; rule_contexts = refl; rules = ap (λ n. n ∷ []) (f ∙ e) };
      are_rules = (is.0, is.1);
      part_grown = part_is _ _ (sym (append-nil part.leaves)) (sym (append-nil part.membranes)) (sym (append-nil part.contexts)) (sym (append-nil part.rule_contexts)) i;
      table_grown = g ∙ ap (λ t. slice_set t place rule) whole ∙ ap (λ n. slice_set (table ++ x ∷ h.rules) n rule) e ∙ set_there table x rule h.rules;
    }

-- the same parts are read as the same rule
pub reads_as : (r : Reading) (way : List ℕ) (ks ks1 ts ts1 bs bs1 : List ItemNode) (cs cs1 : List CondNode) (pos : Pos) (table : List RuleTree) (rule : RuleTree) (table1 : List RuleTree)
    → ks ≡ ks1 → ts ≡ ts1 → bs ≡ bs1 → cs ≡ cs1 → ReadsRule r way (items_of_nodes ks) (items_of_nodes ts) (conditions_of cs) (items_of_nodes bs) pos table rule table1
    → ReadsRule r way (items_of_nodes ks1) (items_of_nodes ts1) (conditions_of cs1) (items_of_nodes bs1) pos table rule table1
reads_as r way ks ks1 ts ts1 bs bs1 cs cs1 pos table rule table1 a b c d h =
    let A : List ItemNode → Type 0 = λ z. ReadsRule r way (items_of_nodes z) (items_of_nodes ts1) (conditions_of cs1) (items_of_nodes bs1) pos table rule table1 in
    let B : List ItemNode → Type 0 = λ z. ReadsRule r way (items_of_nodes ks) (items_of_nodes z) (conditions_of cs1) (items_of_nodes bs1) pos table rule table1 in
    let C : List ItemNode → Type 0 = λ z. ReadsRule r way (items_of_nodes ks) (items_of_nodes ts) (conditions_of cs1) (items_of_nodes z) pos table rule table1 in
    let D : List CondNode → Type 0 = λ z. ReadsRule r way (items_of_nodes ks) (items_of_nodes ts) (conditions_of z) (items_of_nodes bs) pos table rule table1 in
    subst A a (subst B b (subst C c (subst D d h)))
