-- The trees of rules. A rule that stands in another one is written out. Links are numbers, by their first
-- occurrence in the rule, so equal rules are equal trees. Where a rule stood in a text is left out.
--
-- The types also hold trees that are of no accepted rule: a context, a connector or a rule where none may
-- stand, a context that doesn't occur as often as it must, a context of the guard or the body that the head
-- lacks and the guard doesn't bind, a guard that binds a name twice or uses it before, links that don't occur
-- twice or are numbered otherwise, names with bytes above 255, integers of more than 64 bits. A text with such
-- a rule is refused, so no process that runs has one. The laws hold of them too.
use Rattle.std.specs.Prelude.{ℕ, ℤ, List, [], ◌∷◌}
use Rattle.lmn_base.specs.declared.guard.Arith.{Arith}
use Rattle.lmn_base.specs.declared.guard.Cmp.{Cmp}

-- a name by its bytes
abbrev pub Name : Type 0
Name = List ℕ

-- What an atom is called: a name or an integer. Two atoms are of one functor where the labels and the numbers
-- of links agree.
pub data Label : Type 0 where
  named : Name → Label
  integer : ℤ → Label

-- an atom `p(X1,..,Xm)`, a connector `X=Y`, or a typed context `$x[X]`
pub data Leaf : Type 0 where
  atom_leaf : Label → List ℕ → Leaf
  connector_leaf : ℕ → ℕ → Leaf
  typed_leaf : Name → ℕ → Leaf

-- an expression of a guard
pub data Expression : Type 0 where
  number : ℤ → Expression
  value_of : Name → Expression
  operation : Arith → Expression → Expression → Expression

-- `int`, `unary` and `ground`
pub data Kind : Type 0 where
  int unary grounded : Kind

-- `int($x)` and its like, `E < F` and its like, `$x = E`, and `$x \= $y`. A condition with another name or another
-- number of contexts is kept as it is written, so that rules that differ in it differ. It never holds.
pub data Condition : Type 0 where
  is_kind : Kind → Name → Condition
  compares : Cmp → Expression → Expression → Condition
  equates : Name → Expression → Condition
  differs : Name → Name → Condition
  unknown : Name → List Name → Condition

-- an untyped context: open, `$p`, or closed, `$p[]`
pub data Context : Type 0 where
  open_context : Name → Context
  closed_context : Name → Context

-- A level of a rule: leaves, membranes, untyped contexts, rule contexts `@r` and rules.
-- A rule has a head, a guard and a body.
mutual
  pub data Level : Type 0 where
    level : List Leaf → Levels → List Context → List Name → Rules → Level

  pub data Levels : Type 0 where
    no_level : Levels
    level_and : Level → Levels → Levels

  pub data Rule : Type 0 where
    rule_of : Level → List Condition → Level → Rule

  pub data Rules : Type 0 where
    no_rule : Rules
    rule_and : Rule → Rules → Rules

-- the parts of a rule
abbrev pub head_of : Rule → Level
head_of (rule_of head guard body) = head

abbrev pub guard_of : Rule → List Condition
guard_of (rule_of head guard body) = guard

abbrev pub body_of : Rule → Level
body_of (rule_of head guard body) = body

-- rules as a list
abbrev pub rules_list : Rules → List Rule
rules_list no_rule = []
rules_list (rule_and r rs) = r ∷ rules_list rs

-- a level of atoms, connectors and typed contexts alone
abbrev pub only_leaves : List Leaf → Level
only_leaves ls = level ls no_level [] [] no_rule
