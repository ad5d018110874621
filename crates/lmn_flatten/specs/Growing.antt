-- What the walk over a tree adds.
use Rattle.std.specs.Prelude.{ℕ, ◌≡◌, ◌+◌, Bool, true, false, List, [], ◌∷◌, ◌++◌, length}
use Rattle.std.specs.List.{AllZip}
use Rattle.lmn_base.specs.declared.refusal.Pos.{Pos}
use Rattle.lmn_base.specs.declared.rule.RuleTree.{RuleTree}
use Rattle.lmn_parser.specs.Syntax.{Terms, term_and, no_term, Items, WrittenCondition}
use Rattle.lmn_flatten_plain.specs.Keys.{IsKey}
use Rattle.lmn_flatten_plain.specs.Links.{Link, Use}
use Rattle.lmn_flatten_plain.specs.Parts.{NumberedParts, ◌⊕◌, rule_of_parts}
use Rattle.lmn_flatten_plain.specs.Expansion.{expanded_items, expanded_terms, expanded_arguments, an_atom}
use Rattle.lmn_flatten_plain.specs.Meanings.{label_at, place_at}
use Rattle.lmn_flatten_plain.specs.Plains.{IsRuleOf}
use Rattle.lmn_lexer.specs.Laying.{Word}
use Rattle.lmn_flatten.specs.Built.{IsPartOfLevel, with_items}
use Rattle.lmn_flatten.specs.Glossaries.{Reading, IsGlossary}
use Rattle.lmn_flatten.specs.Scopes.{IsScope, Clear, Meets, Under}
use Rattle.lmn_flatten.specs.declared.glossary.Glossary.{Glossary}
use Rattle.lmn_flatten.specs.declared.part.Part.{Part}
use Rattle.lmn_flatten.specs.declared.scope.Scope.{Scope}

-- The glossary is that of the reading, the scope has these links, and none of them is made at a way of this kind.
pub record MayGrow (r : Reading) (Z : List ℕ → Type 0) (keys : List Link) (g : Glossary) (s : Scope) : Type 0 where
  pub glossary : IsGlossary r g
  pub scope : IsScope r keys s
  pub clear : Clear Z keys

-- Items are added to a level and rules to the table, those of a part of the tree, and the links of the items are met.
pub record GrowsPart (r : Reading) (Z : List ℕ → Type 0) (keys : List Link) (f : NumberedParts) (part : Part) (table : List RuleTree)
    (new_part : Part) (new_table : List RuleTree) (s : Scope) : Type 0 where
  pub meets : Meets r Z keys s
  pub items : Part
  pub rules : List RuleTree
  pub are_items : IsPartOfLevel r.names (IsKey (keys ++ meets.more)) (f (length table)) items
  pub are_rules : (let p = f (length table) in AllZip (IsRuleOf r.words r.places r.names) p.table rules)
  pub part_grown : new_part ≡ with_items part items
  pub table_grown : new_table ≡ table ++ rules

-- a way leads on from an argument of this list of arguments
pub data Within : List ℕ → List ℕ → Type 0 where
  within_first : {way v : List ℕ} → Under (0 ∷ way) v → Within way v
  within_later : {way v : List ℕ} → Within (1 ∷ way) v → Within way v

-- a way leads to an argument of this list
pub data Argument : List ℕ → List ℕ → Type 0 where
  first_argument : {way : List ℕ} → Argument way (0 ∷ way)
  later_argument : {way v : List ℕ} → Argument (1 ∷ way) v → Argument way v

-- The rule is that of the tree, and the rules in it are added to the table.
pub record ReadsRule (r : Reading) (way : List ℕ) (kept taken : Items) (guard : List WrittenCondition) (body : Items) (pos : Pos)
    (table : List RuleTree) (rule : RuleTree) (new_table : List RuleTree) : Type 0 where
  pub rules : List RuleTree
  pub grown : new_table ≡ table ++ rules
  pub is_rule : (
      let p = expanded_items r.words r.places (0 ∷ way) kept (length table) in
      let q = expanded_items r.words r.places (1 ∷ way) taken (length table + length p.table) in
      let b = expanded_items r.words r.places (2 ∷ way) body (length table + length p.table + length q.table) in
      IsRuleOf r.words r.places r.names (rule_of_parts p q guard b pos) rule × AllZip (IsRuleOf r.words r.places r.names) (p.table ++ (q.table ++ b.table)) rules)

-- an atom with these arguments, with these occurrences behind them, and what the arguments make
abbrev pub atom_with : List Word → List Pos → List ℕ → ℕ → Terms → List Use → NumberedParts
atom_with words places way n ts own =
    an_atom words places (label_at words places n) (expanded_arguments words places (place_at words places n) way ts ++ own) (place_at words places n)
    ⊕ expanded_terms words places (place_at words places n) way ts

-- there is a term
abbrev pub some_term : Terms → Bool
some_term no_term = false
some_term (term_and t ts) = true

-- no rule stands in the part
abbrev pub HasNoRules : NumberedParts → Type 0
HasNoRules f = (k : ℕ) → let p = f k in p.table ≡ []
