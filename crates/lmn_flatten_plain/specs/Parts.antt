-- What a part of a tree gives to the level in which it stands.
use Rattle.std.specs.Prelude.{ℕ, suc, ◌+◌, List, [], ◌∷◌, ◌++◌, map, length}
use Rattle.lmn_base.specs.declared.refusal.Pos.{Pos}
use Rattle.lmn_parser.specs.Syntax.{WrittenCondition}
use Rattle.lmn_flatten_plain.specs.Links.{freshened}
use Rattle.lmn_flatten_plain.specs.Expanded.{ExpandedLeaf, Context, ExpandedLevel, level, expanded_levels, ExpandedRule, expanded_links, renamed_leaf, renamed_level}

-- Items of a level, and all rules that stand in the part, nested ones too, in the order of the text.
pub record Parts : Type 0 where
  pub leaves : List ExpandedLeaf
  pub membranes : List ExpandedLevel
  pub contexts : List Context
  pub rule_contexts : List Context
  pub rules : List ℕ
  pub table : List ExpandedRule

-- the level that has these items
abbrev pub level_from_parts : Parts → ExpandedLevel
level_from_parts p = level p.leaves (expanded_levels p.membranes) p.contexts p.rule_contexts p.rules

-- nothing is given
abbrev pub no_parts : Parts
no_parts = record { leaves = []; membranes = []; contexts = []; rule_contexts = []; rules = []; table = [] }

-- each list of one before that of the other
abbrev pub joined_parts : Parts → Parts → Parts
joined_parts p q = record {
  leaves = p.leaves ++ q.leaves;
  membranes = p.membranes ++ q.membranes;
  contexts = p.contexts ++ q.contexts;
  rule_contexts = p.rule_contexts ++ q.rule_contexts;
  rules = p.rules ++ q.rules;
  table = p.table ++ q.table;
}

-- Parts whose first rule has a given number. The rules behind it have the next ones.
abbrev pub NumberedParts : Type 0
NumberedParts = ℕ → Parts

abbrev pub nothing : NumberedParts
nothing k = no_parts

-- one part and then another
infixr 40 ◌⊕◌
abbrev pub ◌⊕◌ : NumberedParts → NumberedParts → NumberedParts
(f ⊕ g) k = let p = f k in joined_parts p (g (k + length p.table))

-- one item: a leaf, a context, a rule context
abbrev pub one_leaf : ExpandedLeaf → NumberedParts
one_leaf l k = record no_parts { leaves = l ∷ [] }

abbrev pub one_context : Context → NumberedParts
one_context c k = record no_parts { contexts = c ∷ [] }

abbrev pub one_rule_context : Context → NumberedParts
one_rule_context c k = record no_parts { rule_contexts = c ∷ [] }

-- a membrane that holds the parts
abbrev pub one_membrane : NumberedParts → NumberedParts
one_membrane f k = let p = f k in record no_parts { membranes = level_from_parts p ∷ []; table = p.table }

-- `H1 \ H2 :- G | B` is `H1, H2 :- G | H1', B`, where H1' is H1 in which each link that occurs twice in H1 is made fresh.

-- the parts with fresh links for those that occur twice in them
abbrev pub fresh_copy : Parts → Parts
fresh_copy p = let f = freshened (expanded_links (level_from_parts p)) in record p {
  leaves = map (renamed_leaf f) p.leaves;
  membranes = map (renamed_level f) p.membranes;
}

-- the rule that keeps one part of its head and takes the other
abbrev pub rule_of_parts : Parts → Parts → List WrittenCondition → Parts → Pos → ExpandedRule
rule_of_parts kept taken guard made pos = record {
  head = level_from_parts (joined_parts kept taken);
  guard = guard;
  body = level_from_parts (joined_parts (fresh_copy kept) made);
  pos = pos;
}

-- A rule has the first number, and the rules in it the next ones.
abbrev pub one_rule : NumberedParts → NumberedParts → List WrittenCondition → NumberedParts → Pos → NumberedParts
one_rule kept taken guard made pos k =
    let p = kept (suc k) in
    let q = taken (suc k + length p.table) in
    let r = made (suc k + length p.table + length q.table) in
    record no_parts { rules = k ∷ []; table = rule_of_parts p q guard r pos ∷ (p.table ++ (q.table ++ r.table)) }
