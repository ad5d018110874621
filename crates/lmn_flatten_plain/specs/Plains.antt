-- The plain of a tree.
use Rattle.std.specs.declared.alloc.Global.{Global}
use Rattle.std.specs.Prelude.{Box, ℕ, suc, ◌≡◌, false, if◌then◌else◌, List, [], ◌∷◌, ◌++◌, map, length, bytes_eq, Contains}
use Rattle.std.specs.List.{AllZip}
use Rattle.lmn_base.specs.declared.refusal.Pos.{Pos}
use Rattle.lmn_base.specs.declared.functor.Label.{Label}
use Rattle.lmn_base.specs.declared.functor.Label.TheVariants.{Name, Int}
use Rattle.lmn_base.specs.declared.guard.Expr.{Expr}
use Rattle.lmn_base.specs.declared.guard.Expr.TheOpen as expr
use Rattle.lmn_base.specs.declared.guard.Expr.TheViews.{roll-Expr}
use Rattle.lmn_base.specs.declared.guard.Cond.{Cond}
use Rattle.lmn_base.specs.declared.guard.Cond.TheVariants as cond
use Rattle.lmn_base.specs.declared.level.CtxUse.{CtxUse}
use Rattle.lmn_base.specs.declared.level.Leaf as base
use Rattle.lmn_base.specs.declared.level.Leaf.TheVariants.{Atom, Typed}
use Rattle.lmn_base.specs.declared.level.Level as base_level
use Rattle.lmn_base.specs.declared.level.Level.TheViews.{roll-Level}
use Rattle.lmn_base.specs.declared.level.Occ.{Occ}
use Rattle.lmn_base.specs.declared.rule.Plain.{Plain}
use Rattle.lmn_base.specs.declared.rule.RuleTree.{RuleTree}
use Rattle.lmn_base.specs.LinkUses.{IsTableOf}
use Rattle.lmn_congruence.specs.Rules as tree
use Rattle.lmn_lexer.specs.Laying.{Word}
use Rattle.lmn_lexer.specs.Values.{integer_of}
use Rattle.lmn_parser.specs.Syntax as syntax
use Rattle.lmn_parser.specs.Syntax.{Clauses}
use Rattle.lmn_flatten_plain.specs.Links.{Link, Use}
use Rattle.lmn_flatten_plain.specs.Expanded.{ExpandedLeaf, atom_leaf, typed_leaf, Context, ExpandedLevel, level, ExpandedLevels, no_level, level_and, ExpandedRule, expanded_links}
use Rattle.lmn_flatten_plain.specs.Parts.{level_from_parts}
use Rattle.lmn_flatten_plain.specs.Meanings.{word_at, place_at, name_at}
use Rattle.lmn_flatten_plain.specs.Expansion.{parts_of}

-- the number of a name in a list, which is that of its first place; the length of the list where it isn't there
abbrev pub number_of : List tree.Name → tree.Name → ℕ
number_of [] name = 0
number_of (n ∷ ns) name = if bytes_eq n name then 0 else suc (number_of ns name)

-- Levels with numbers for names and links.
module _ (names : List tree.Name) (number : Link → ℕ) where
  abbrev pub numbered_label : tree.Label → Label
  numbered_label (tree.named n) = Name (number_of names n)
  numbered_label (tree.integer z) = Int z

  abbrev pub numbered_leaf : ExpandedLeaf → base.Leaf
  numbered_leaf (atom_leaf l us pos) = Atom (record { label = numbered_label l; arity = length us }) (map (λ (u : Use). record { link = number u.link; pos = u.pos }) us) pos
  numbered_leaf (typed_leaf n u pos) = Typed (number_of names n) (record { link = number u.link; pos = u.pos }) pos

  abbrev pub numbered_context : Context → CtxUse
  numbered_context c = record { name = number_of names c.name; closed = c.closed; pos = c.pos }

  abbrev mutual
    pub numbered : ExpandedLevel → base_level.Level
    numbered (level leaves membranes contexts rule_contexts rules) = roll-Level (record {
      leaves = map numbered_leaf leaves;
      membranes = all_numbered membranes;
      contexts = map numbered_context contexts;
      rule_contexts = map numbered_context rule_contexts;
      rules = rules;
    })

    pub all_numbered : ExpandedLevels → List base_level.Level
    all_numbered no_level = []
    all_numbered (level_and l ls) = numbered l ∷ all_numbered ls

  -- an occurrence of a link, as lemmas tell it
  abbrev pub numbered_use : Use → Occ
  numbered_use u = record { link = number u.link; pos = u.pos }

-- different links of the list have different numbers
abbrev pub OneToOne : (Link → ℕ) → List Link → Type 0
OneToOne number links = (a b : Link) → Contains links a → Contains links b → number a ≡ number b → a ≡ b

-- What a tree is by the words of its tokens and their places, and a list of names.
module _ (words : List Word) (places : List Pos) (names : List tree.Name) where
  -- the context with the number of its token
  abbrev pub context_use : ℕ → CtxUse
  context_use p = record { name = number_of names (name_at words places p); closed = false; pos = place_at words places p }

  -- A box is known with its address, so what a condition or an expression is, is said and not computed.
  abbrev pub IsExpr : syntax.Expr → Expr → Type 0
  IsExpr (syntax.integer p) e = let w = word_at words places p in e ≡ roll-Expr (expr.Int (integer_of w.bytes))
  IsExpr (syntax.value p) e = e ≡ roll-Expr (expr.Ctx (context_use p))
  IsExpr (syntax.operation op l r) e =
      (left : Box Expr Global) × (right : Box Expr Global) × (e ≡ roll-Expr (expr.Op op left right)) × IsExpr l left.value × IsExpr r right.value

  -- the place of a condition is that of its name, or of its sign
  abbrev pub IsCond : syntax.WrittenCondition → Cond → Type 0
  IsCond (syntax.called p ps) c = c ≡ cond.Kind (number_of names (name_at words places p)) (map context_use ps) (place_at words places p)
  IsCond (syntax.compared op l r s) c =
      (left : Expr) × (right : Expr) × (c ≡ cond.Compare op left right (place_at words places s)) × IsExpr l left × IsExpr r right
  IsCond (syntax.equal p r s) c = (right : Expr) × (c ≡ cond.Equal (context_use p) right (place_at words places s)) × IsExpr r right
  IsCond (syntax.different p q s) c = c ≡ cond.Differ (context_use p) (context_use q) (place_at words places s)

  -- The rule has numbers for its own links, one for each, by first occurrence in head and body.
  pub record IsRuleOf (r : ExpandedRule) (t : RuleTree) : Type 0 where
    pub number : Link → ℕ
    pub apart : OneToOne number (expanded_links r.head ++ expanded_links r.body)
    pub head : t.head ≡ numbered names number r.head
    pub guard : AllZip IsCond r.guard t.guard
    pub body : t.body ≡ numbered names number r.body
    pub pos : t.pos ≡ r.pos
    pub table : IsTableOf (t.head ∷ t.body ∷ []) t.links

  -- The plain of a tree: its top, with numbers for the links outside all rules, and its rules in the order of the text.
  pub record IsPlainOf (tree : Clauses) (p : Plain) : Type 0 where
    pub number : Link → ℕ
    pub apart : OneToOne number (expanded_links (level_from_parts (parts_of words places tree)))
    pub top : p.top ≡ numbered names number (level_from_parts (parts_of words places tree))
    pub table : IsTableOf (p.top ∷ []) p.links
    pub rules : (let parts = parts_of words places tree in AllZip IsRuleOf parts.table p.rules)
