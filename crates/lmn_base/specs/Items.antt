-- What stands in a rule at every depth, as one list.
use Rattle.std.specs.Prelude.{ℕ, ◌+◌, Bool, if◌then◌else◌, List, [], ◌∷◌, ◌++◌, map, flat_map, length, sum}
use Rattle.lmn_base.specs.declared.guard.Expr.{Expr}
use Rattle.lmn_base.specs.declared.guard.Expr.TheOpen.{Expr-F, Int as Integer, Ctx, Op}
use Rattle.lmn_base.specs.declared.guard.Expr.TheFolds.{fold-Expr}
use Rattle.lmn_base.specs.declared.guard.Cond.{Cond}
use Rattle.lmn_base.specs.declared.guard.Cond.TheVariants.{Kind, Compare, Equal, Differ}
use Rattle.lmn_base.specs.declared.item.Form.{Form}
use Rattle.lmn_base.specs.declared.item.Form.TheVariants as form
use Rattle.lmn_base.specs.declared.item.Item.{Item}
use Rattle.lmn_base.specs.declared.item.Item.TheVariants as item
use Rattle.lmn_base.specs.declared.level.CtxUse.{CtxUse}
use Rattle.lmn_base.specs.declared.level.Leaf.{Leaf}
use Rattle.lmn_base.specs.declared.level.Leaf.TheVariants.{Atom, Typed}
use Rattle.lmn_base.specs.declared.level.Level.{Level}
use Rattle.lmn_base.specs.declared.level.Level.TheOpen.{Level-F}
use Rattle.lmn_base.specs.declared.level.Level.TheFolds.{fold-Level}
use Rattle.lmn_base.specs.declared.rule.RuleTree.{RuleTree}
use Rattle.lmn_base.specs.Levels.{everywhere}

-- a use of a context in a form
abbrev pub used : Form → CtxUse → Item
used form u = item.Context (record { name = u.name; form = form; pos = u.pos })

-- a use of an untyped context, which is written closed or not
abbrev pub untyped : CtxUse → Item
untyped u = used (if u.closed then form.Closed else form.Bare) u

-- a leaf as an item: an atom, or a use of a typed context
abbrev pub leaf_item : Leaf → Item
leaf_item (Atom functor links pos) = item.Atom functor pos
leaf_item (Typed name link pos) = item.Context (record { name = name; form = form.Typed; pos = pos })

-- what stands in a level itself, but for its membranes
abbrev pub own_items : {A : Type 0} → Level-F A → List Item
own_items l = map leaf_item l.leaves ++ (map untyped l.contexts ++ (map item.RuleContext l.rule_contexts ++ map item.Rule l.rules))

-- what stands in it at every depth
abbrev pub items_of : Level → List Item
items_of = everywhere own_items

-- the contexts of an expression, from left to right
abbrev pub expression_items_step : Expr-F (List Item) → List Item
expression_items_step (Integer z) = []
expression_items_step (Ctx u) = used form.Typed u ∷ []
expression_items_step (Op op left right) = left.value ++ right.value

abbrev pub expression_items : Expr → List Item
expression_items = fold-Expr (List Item) expression_items_step

-- the contexts of a condition, and what stands in a whole rule
abbrev pub condition_items : Cond → List Item
condition_items (Kind name args pos) = map (used form.Typed) args
condition_items (Compare op left right pos) = expression_items left ++ expression_items right
condition_items (Equal left right pos) = used form.Typed left ∷ expression_items right
condition_items (Differ left right pos) = used form.Typed left ∷ used form.Typed right ∷ []

abbrev pub rule_items : RuleTree → List Item
rule_items r = items_of r.head ++ (flat_map condition_items r.guard ++ items_of r.body)

-- how many items stand in a level, its membranes too, at every depth; a rule is one item
abbrev pub number_of_items : Level → ℕ
number_of_items = fold-Level ℕ (λ l. length l.leaves + (length l.membranes + (length l.contexts + (length l.rule_contexts + (length l.rules + sum l.membranes)))))

-- ---- parts of these, as laws and contracts of private functions tell them

-- how an untyped context is written: closed or not
abbrev pub untyped_form : Bool → Form
untyped_form closed = if closed then form.Closed else form.Bare

-- the items of a level, of whose membranes the numbers of items are known
abbrev pub number_step : Level-F ℕ → ℕ
number_step l = length l.leaves + (length l.membranes + (length l.contexts + (length l.rule_contexts + (length l.rules + sum l.membranes))))

-- the contexts of a guard
abbrev pub guard_items : List Cond → List Item
guard_items = flat_map condition_items
