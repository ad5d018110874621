-- When the conditions of a guard hold.
use Rattle.std.specs.Prelude.{ℤ, List, [], ◌∷◌}
use Rattle.lmn_base.specs.declared.guard.Cmp.{Cmp}
use Rattle.lmn_congruence.specs.Orders.{Among}
use Rattle.lmn_congruence.specs.Rules.{Name, Expression, value_of, Kind, int, unary, grounded, Condition, is_kind, compares, equates, differs}
use Rattle.lmn_guards.specs.Values.{Ordered}
use Rattle.lmn_reduction.specs.Parts.{Rooted, IsInteger, IsUnary, IsGround, EqualParts}
use Rattle.lmn_reduction.specs.Assignments.{Assignment}
use Rattle.lmn_reduction.specs.Values.{Value}

-- a part is of the kind that a condition names
abbrev pub IsOfKind : Kind → Rooted → Type 0
IsOfKind int g = (n : ℤ) × IsInteger n g
IsOfKind unary g = IsUnary g
IsOfKind grounded g = IsGround g

-- A condition holds. The list `heads` has the typed contexts of the rule's head. `$z = E` binds `$z` where it isn't
-- there; a second `$z = F` only compares the two values. `$x = $y` compares two parts where both are there. By our
-- profile two parts that are compared are ground: where one is not, neither `=` nor `\=` holds. A condition that is
-- none of the language never holds. A context of the guard that isn't in the head and isn't bound stands for any
-- value: a text with such a rule is refused.
pub data Holds (heads : List Name) (t : Assignment) : Condition → Type 0 where
  of_kind : {k : Kind} {p : Name} → IsOfKind k (t.typed_of p) → Holds heads t (is_kind k p)
  in_order : {c : Cmp} {e f : Expression} {m n : ℤ} →
      Value t e m → Value t f n → Ordered c m n → Holds heads t (compares c e f)
  binds : {p : Name} {e : Expression} {n : ℤ} →
      ¬ (Among p heads) → Value t e n → IsInteger n (t.typed_of p) → Holds heads t (equates p e)
  alike : {p q : Name} → Among p heads → Among q heads → IsGround (t.typed_of p) → IsGround (t.typed_of q) →
      EqualParts (t.typed_of p) (t.typed_of q) → Holds heads t (equates p (value_of q))
  unlike : {p q : Name} → Among p heads → Among q heads → IsGround (t.typed_of p) → IsGround (t.typed_of q) →
      ¬ (EqualParts (t.typed_of p) (t.typed_of q)) → Holds heads t (differs p q)

-- every condition of a guard holds
pub data GuardHolds (heads : List Name) (t : Assignment) : List Condition → Type 0 where
  no_condition : GuardHolds heads t []
  condition_and : {c : Condition} {cs : List Condition} →
      Holds heads t c → GuardHolds heads t cs → GuardHolds heads t (c ∷ cs)
