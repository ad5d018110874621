-- The body of a rule as one flat list of items.
use Rattle.std.specs.Prelude.{ℕ, ◌+◌, ◌==◌, Bool, true, if◌then◌else◌, List, [], ◌∷◌, ◌++◌, map, sum, Option, Some, None}
use Rattle.lmn_base.specs.declared.functor.Functor.{Functor}
use Rattle.lmn_base.specs.declared.level.Leaf.{Leaf}
use Rattle.lmn_base.specs.declared.level.Leaf.TheVariants as leaf
use Rattle.lmn_base.specs.declared.level.Level.{Level}
use Rattle.lmn_base.specs.declared.level.Level.TheOpen.{Level-F}
use Rattle.lmn_base.specs.declared.level.Level.TheFolds.{fold-Level}
use Rattle.lmn_base.specs.declared.level.CtxUse.{CtxUse}
use Rattle.lmn_base.specs.Solids.{connector}
use Rattle.lmn_store_heap.specs.Functors.{same_functor}
use Rattle.lmn_solid_bodies.specs.declared.items.BodyItem.{BodyItem}
use Rattle.lmn_solid_bodies.specs.declared.items.BodyItem.TheVariants.{Atom, Connector, Copy, Bound, Membrane, Rest, Rule, Rules}

-- Contexts with the numbers of the membranes in which they stand.

-- the contexts of a level, given its own number and that of its first membrane; and how many membranes it has
pub record NumberedContexts : Type 0 where
  pub names : ℕ → ℕ → List (ℕ × ℕ)
  pub size : ℕ

-- the contexts of a level itself, and those of the membranes in it, with their numbers
abbrev pub names_inside : ℕ → List CtxUse → List (ℕ × ℕ)
names_inside inside [] = []
names_inside inside (u ∷ us) = (u.name, inside) ∷ names_inside inside us

abbrev pub names_below : ℕ → List NumberedContexts → List (ℕ × ℕ)
names_below next [] = []
names_below next (l ∷ ls) = l.names next (next + 1) ++ names_below (next + 1 + l.size) ls

-- the contexts of one sort in a level, at every depth
abbrev pub numbering : (Level-F NumberedContexts → List CtxUse) → Level → NumberedContexts
numbering uses = fold-Level NumberedContexts (λ l. record {
  names = λ inside next. names_inside inside (uses l) ++ names_below next l.membranes;
  size = sum (map (λ m. 1 + m.size) l.membranes);
})

-- the membrane of the first context with a name
abbrev pub membrane_named : List (ℕ × ℕ) → ℕ → ℕ
membrane_named [] x = 0
membrane_named (e ∷ es) x = if e.0 == x then e.1 else membrane_named es x

-- the number of the head membrane in which an untyped context, or a rule context, of this name stands
abbrev pub context_membrane : Level → ℕ → ℕ
context_membrane head = membrane_named ((numbering (λ l. l.contexts) head).names 0 1)

abbrev pub rule_context_membrane : Level → ℕ → ℕ
rule_context_membrane head = membrane_named ((numbering (λ l. l.rule_contexts) head).names 0 1)

-- What the names of a body stand for, by number.
--   part      the typed context of the head, or nothing where the guard binds the name
--   integer   the register of the integer to which the guard binds the name
--   context, rule_context   the membrane of the head
pub record BodyNames : Type 0 where
  pub part : ℕ → Option ℕ
  pub integer : ℕ → ℕ
  pub context : ℕ → ℕ
  pub rule_context : ℕ → ℕ

-- a connector has two links
abbrev pub atom_item : Bool → Functor → List ℕ → ℕ → BodyItem
atom_item true functor (x ∷ y ∷ []) inside = Connector x y
atom_item _ functor links inside = Atom functor links inside

-- a typed leaf is a copy of a part of the head, or an integer that the guard binds
abbrev pub typed_item : Option ℕ → ℕ → ℕ → ℕ → BodyItem
typed_item (Some g) integer link inside = Copy g link inside
typed_item None integer link inside = Bound integer link inside

-- a leaf as an item, in the membrane with this number
abbrev pub body_leaf_item : BodyNames → ℕ → Leaf → BodyItem
body_leaf_item s inside (leaf.Atom functor links pos) = atom_item (same_functor functor connector) functor (map (λ o. o.link) links) inside
body_leaf_item s inside (leaf.Typed name link pos) = typed_item (s.part name) (s.integer name) link.link inside

abbrev pub body_leaf_items : BodyNames → ℕ → List Leaf → List BodyItem
body_leaf_items s inside [] = []
body_leaf_items s inside (x ∷ xs) = body_leaf_item s inside x ∷ body_leaf_items s inside xs

-- a level whose membranes aren't numbered yet
pub record UnnumberedBody : Type 0 where
  pub items : ℕ → ℕ → List BodyItem
  pub size : ℕ

-- membranes with their items, the first having the number `next`
abbrev pub body_membrane_items : ℕ → ℕ → List UnnumberedBody → List BodyItem
body_membrane_items inside next [] = []
body_membrane_items inside next (l ∷ ls) = Membrane inside ∷ l.items next (next + 1) ++ body_membrane_items inside (next + 1 + l.size) ls

-- the open ones of some uses of contexts
abbrev pub open_uses : List CtxUse → List CtxUse
open_uses [] = []
open_uses (u ∷ us) = if u.closed then open_uses us else (u ∷ open_uses us)

-- what contexts, rules and rule contexts stand for, in the membrane with this number
abbrev pub context_items : BodyNames → ℕ → List CtxUse → List BodyItem
context_items s inside [] = []
context_items s inside (u ∷ us) = Rest (s.context u.name) u.closed inside ∷ context_items s inside us

abbrev pub body_rule_items : ℕ → List ℕ → List BodyItem
body_rule_items inside [] = []
body_rule_items inside (k ∷ ks) = Rule k inside ∷ body_rule_items inside ks

abbrev pub rule_context_items : BodyNames → ℕ → List CtxUse → List BodyItem
rule_context_items s inside [] = []
rule_context_items s inside (u ∷ us) = Rules (s.rule_context u.name) inside ∷ rule_context_items s inside us

-- of a level: its leaves, each membrane with its own items, its untyped contexts, its rules, its rule contexts
abbrev pub flatten_body_step : BodyNames → Level-F UnnumberedBody → UnnumberedBody
flatten_body_step s l = record {
  items = λ inside next.
      body_leaf_items s inside l.leaves
      ++ (body_membrane_items inside next l.membranes
      ++ (context_items s inside l.contexts
      ++ (body_rule_items inside l.rules
      ++ rule_context_items s inside l.rule_contexts)));
  size = sum (map (λ m. 1 + m.size) l.membranes);
}

-- The items of a body, beside a head with k membranes.
abbrev pub body_items : BodyNames → ℕ → Level → List BodyItem
body_items s k l = (fold-Level UnnumberedBody (flatten_body_step s) l).items 0 (1 + k)
