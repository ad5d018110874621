-- What it is to number the links of a level or of a rule.
use Rattle.std.specs.Prelude.{ℕ, ◌≡◌, List, [], ◌∷◌, ◌++◌, Contains}
use Rattle.lmn_base.specs.declared.level.Level.{Level}
use Rattle.lmn_base.specs.declared.rule.LinkUse.{LinkUse}
use Rattle.lmn_base.specs.Levels.{links_of}
use Rattle.lmn_base.specs.LinkUses.{IsTableOf}
use Rattle.lmn_flatten_numbers.specs.Renumbered.{renumbered}

-- different links of the list have different numbers
abbrev pub KeepsApart : (ℕ → ℕ) → List ℕ → Type 0
KeepsApart to links = (a b : ℕ) → Contains links a → Contains links b → to a ≡ to b → a ≡ b

-- `new` is `old` but for its links, which have got numbers by first occurrence, and `uses` is the table of them.
pub record NumbersLevel (old new : Level) (uses : List LinkUse) : Type 0 where
  pub to : ℕ → ℕ
  pub apart : KeepsApart to (links_of old)
  pub level : new ≡ renumbered to old
  pub table : IsTableOf (new ∷ []) uses

-- The same of a rule's head and body.
pub record NumbersRule (old_head old_body new_head new_body : Level) (uses : List LinkUse) : Type 0 where
  pub to : ℕ → ℕ
  pub apart : KeepsApart to (links_of old_head ++ links_of old_body)
  pub head : new_head ≡ renumbered to old_head
  pub body : new_body ≡ renumbered to old_body
  pub table : IsTableOf (new_head ∷ new_body ∷ []) uses
