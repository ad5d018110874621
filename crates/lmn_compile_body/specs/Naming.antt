-- What the names of a body stand for, by what its head and guard say; and levels whose membranes aren't numbered yet.
use Rattle.std.specs.Prelude.{ℕ, ◌==◌, if◌then◌else◌, List, [], ◌∷◌, ◌++◌, Option, Some, None}
use Rattle.lmn_base.specs.declared.guard.Cond.{Cond}
use Rattle.lmn_base.specs.declared.guard.Cond.TheVariants.{Kind, Compare, Equal, Differ}
use Rattle.lmn_base.specs.declared.level.Level.{Level}
use Rattle.lmn_base.specs.declared.level.Level.TheFolds.{fold-Level}
use Rattle.lmn_instr_code.specs.HeadCode.{value_code, bind_register}
use Rattle.lmn_solid_heads.specs.declared.items.HeadItem.{HeadItem}
use Rattle.lmn_solid_bodies.specs.declared.items.BodyItem.{BodyItem}
use Rattle.lmn_solid_bodies.specs.Flattening.{BodyNames, UnnumberedBody, NumberedContexts, numbering, flatten_body_step, context_items, body_rule_items, rule_context_items, membrane_named, context_membrane, rule_context_membrane}
use Rattle.lmn_compile_head.specs.Bindings.{part_numbers}

-- the register of a name: that of its last binding in a list of names with their registers, or else `before`
abbrev pub last_register : List (ℕ × ℕ) → ℕ → ℕ → ℕ
last_register [] before x = before
last_register (e ∷ es) before x = last_register es (if x == e.0 then e.1 else before) x

abbrev pub registers_by : List (ℕ × ℕ) → ℕ → ℕ
registers_by es x = last_register es 0 x

-- which of two maps of registers holds behind `=`: one with its left side, where that is no typed context of the head
abbrev pub equal_registers : Option ℕ → (ℕ → ℕ) → (ℕ → ℕ) → ℕ → ℕ
equal_registers None bound compared = bound
equal_registers (Some g) bound compared = compared

-- The registers of the names that a guard binds, as its code sets them: the conditions from left to right, where v is the
-- next integer register, and `bound` has the names that are bound before.
abbrev pub guard_registers : (ℕ → Option ℕ) → (ℕ → ℕ) → ℕ → List Cond → ℕ → ℕ
guard_registers part bound v [] = bound
guard_registers part bound v (Kind n args pos ∷ cs) = guard_registers part bound v cs
guard_registers part bound v (Compare op left right pos ∷ cs) =
    guard_registers part bound (value_code part bound right (value_code part bound left v).next).next cs
guard_registers part bound v (Equal left right pos ∷ cs) =
    let c = value_code part bound right v in
    equal_registers (part left.name) (guard_registers part (bind_register bound left.name c.at) c.next cs) (guard_registers part bound v cs)
guard_registers part bound v (Differ left right pos ∷ cs) = guard_registers part bound v cs

-- the names by lists of them with their numbers
abbrev pub names_by : List HeadItem → List (ℕ × ℕ) → List (ℕ × ℕ) → List (ℕ × ℕ) → BodyNames
names_by head integers contexts rule_contexts = record {
  part = part_numbers head;
  integer = registers_by integers;
  context = membrane_named contexts;
  rule_context = membrane_named rule_contexts;
}

-- a level whose membranes aren't numbered yet
abbrev pub unnumbered_body : BodyNames → Level → UnnumberedBody
unnumbered_body s = fold-Level UnnumberedBody (flatten_body_step s)

-- the names of a body beside a head that has these items and is this level, and beside this guard
abbrev pub body_names : List HeadItem → List Cond → Level → BodyNames
body_names head guard level = record {
  part = part_numbers head;
  integer = guard_registers (part_numbers head) (λ x. 0) 0 guard;
  context = context_membrane level;
  rule_context = rule_context_membrane level;
}

-- the contexts of a level with the numbers of their membranes
abbrev pub numbered_contexts : Level → NumberedContexts
numbered_contexts = numbering (λ l. l.contexts)

-- and its rule contexts
abbrev pub numbered_rule_contexts : Level → NumberedContexts
numbered_rule_contexts = numbering (λ l. l.rule_contexts)

-- what comes behind the membranes of a level
abbrev pub tail_items : BodyNames → ℕ → Level → List BodyItem
tail_items s inside = fold-Level (List BodyItem) (λ l. context_items s inside l.contexts ++ (body_rule_items inside l.rules ++ rule_context_items s inside l.rule_contexts))
