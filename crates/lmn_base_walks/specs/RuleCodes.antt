-- What is wrong with the contexts of a rule, row by row.
use Rattle.std.specs.Prelude.{ℕ, ◌+◌, ◌==◌, ◌&&◌, ◌||◌, not, Bool, true, false, List, [], ◌∷◌, ◌++◌, flat_map, drop, length, sum_by, nat_lt, slice_get, option_map, option_to_list, if◌then◌else◌}
use Rattle.std.specs.List.{list_any}
use Rattle.lmn_base.specs.declared.functor.Label.{Label}
use Rattle.lmn_base.specs.declared.functor.Label.TheVariants as label
use Rattle.lmn_base.specs.declared.functor.TheConstants.{CONNECTOR_NAME}
use Rattle.lmn_base.specs.declared.guard.Cond.{Cond}
use Rattle.lmn_base.specs.declared.guard.Cond.TheVariants.{Kind, Compare, Equal, Differ}
use Rattle.lmn_base.specs.declared.guard.Expr.{Expr}
use Rattle.lmn_base.specs.declared.guard.Expr.TheVariants.{Int as Integer, Ctx, Op'}
use Rattle.lmn_base.specs.declared.item.Form.{Form}
use Rattle.lmn_base.specs.declared.item.Form.TheVariants.{Bare, Closed, Typed}
use Rattle.lmn_base.specs.declared.item.FormedUse.{FormedUse}
use Rattle.lmn_base.specs.declared.item.Item.{Item}
use Rattle.lmn_base.specs.declared.item.Item.TheVariants.{Atom, Context, RuleContext, Rule}
use Rattle.lmn_base.specs.declared.level.CtxUse.{CtxUse}
use Rattle.lmn_base.specs.declared.level.Level.{Level, out-Level}
use Rattle.lmn_base.specs.declared.level.Level.TheOpen.{Level-F}
use Rattle.lmn_base.specs.declared.refusal.Pos.{Pos}
use Rattle.lmn_base.specs.declared.rule.RuleTree.{RuleTree}
use Rattle.lmn_base.specs.Firsts.{Row}
use Rattle.lmn_base.specs.Items.{own_items, items_of, rule_items, number_of_items}
use Rattle.lmn_base.specs.Levels.{everywhere}
use Rattle.lmn_base.specs.Limits.{most_head_items, most_body_items, most_conditions, most_guard_tokens}
use Rattle.lmn_base.specs.PlaceOrder.{not_after}
use Rattle.lmn_base.specs.Uses.{is_some_place, context_where, rule_context_where, has_use}

-- ---- E44: beyond a limit

-- the integers and contexts of an expression
abbrev pub expression_tokens : Expr → ℕ
expression_tokens (Integer z) = 1
expression_tokens (Ctx u) = 1
expression_tokens (Op' op p left q right) = expression_tokens left + expression_tokens right

abbrev pub condition_tokens : Cond → ℕ
condition_tokens (Kind name args pos) = length args
condition_tokens (Compare op left right pos) = expression_tokens left + expression_tokens right
condition_tokens (Equal left right pos) = 1 + expression_tokens right
condition_tokens (Differ left right pos) = 2

-- too many items in the head or in the body, conditions, or integers and contexts in the guard
abbrev pub is_too_large : RuleTree → Bool
is_too_large r = nat_lt most_head_items (number_of_items r.head) || (nat_lt most_body_items (number_of_items r.body)
    || (nat_lt most_conditions (length r.guard) || nat_lt most_guard_tokens (sum_by condition_tokens r.guard)))

-- ---- E36: a rule stands in the head, at the place of the inner rule

-- a number that the table lacks has no place; in a well made plain there is none
abbrev pub inner_rule : List RuleTree → Item → List Pos
inner_rule table (Rule k) = option_to_list (option_map (λ r. r.pos) (slice_get table k))
inner_rule table item = []

-- ---- E37: a connector stands in the head

abbrev pub is_connector_label : Label → Bool
is_connector_label (label.Name n) = n == CONNECTOR_NAME
is_connector_label (label.Int z) = false

abbrev pub connector_place : Item → List Pos
connector_place (Atom functor pos) = if is_connector_label functor.label && (functor.arity == 2) then pos ∷ [] else []
connector_place item = []

-- ---- E30, E35: an untyped context, open or closed, or a rule context, stands at the head's top; an untyped one is in another form than
-- the typed one

abbrev pub same_form : Form → Form → Bool
same_form Bare Bare = true
same_form Closed Closed = true
same_form Typed Typed = true
same_form f g = false

-- ---- E31: a head membrane has two untyped contexts, open or closed, or two rule contexts, at the second of the first such pair

-- the places of all but the first
abbrev pub behind_the_first : List CtxUse → List Pos
behind_the_first us = flat_map (λ u. u.pos ∷ []) (drop 1 us)

-- membrane by membrane, an outer one before those in it
abbrev pub seconds_by_membrane : Level → List (List Pos)
seconds_by_membrane = everywhere (λ l. (behind_the_first l.contexts ++ behind_the_first l.rule_contexts) ∷ [])

-- the first of some lists that has a place
abbrev pub first_with_some : List (List Pos) → List Pos
first_with_some [] = []
first_with_some (ps ∷ more) = if is_some_place ps then ps else first_with_some more

-- ---- E32: a context, or a rule context, occurs twice in the head, at its second place

-- it isn't the first use: up to its place there is more than one. Of two at one place, which no text has, both count.
abbrev pub used_again : List Item → Item → List Pos
used_again items (Context u) = if nat_lt 1 (length (flat_map (context_where (λ v. (v.name == u.name) && not_after v.pos u.pos)) items)) then u.pos ∷ [] else []
used_again items (RuleContext u) = if nat_lt 1 (length (flat_map (rule_context_where (λ v. (v.name == u.name) && not_after v.pos u.pos)) items)) then u.pos ∷ [] else []
used_again items item = []

-- ---- E33: an open context of the head occurs not exactly once in the body, bare

abbrev pub is_bare : Form → Bool
is_bare = same_form Bare

abbrev pub bare_use : ℕ → Item → List Pos
bare_use n = context_where (λ u. (u.name == n) && is_bare u.form)

-- its place in the head, if it has none in the body
abbrev pub missing : List Item → Item → List Pos
missing body = context_where (λ u. is_bare u.form && not (is_some_place (flat_map (bare_use u.name) body)))

-- a bare place in the body of an open context of the head, which isn't the first
abbrev pub bare_again : List Item → List Item → Item → List Pos
bare_again head body = context_where (λ u.
    is_bare u.form && (is_some_place (flat_map (bare_use u.name) head)
    && nat_lt 1 (length (flat_map (context_where (λ v. (v.name == u.name) && (is_bare v.form && not_after v.pos u.pos))) body))))

-- ---- E34: a context of the body is neither in the head nor bound in the guard, or a rule context of the body isn't in
-- the head

abbrev pub is_left_of : ℕ → Cond → Bool
is_left_of n (Equal left right pos) = left.name == n
is_left_of n condition = false

abbrev pub rule_use : ℕ → Item → List Pos
rule_use n = rule_context_where (λ u. u.name == n)

abbrev pub from_nowhere : List Item → List Cond → Item → List Pos
from_nowhere head guard (Context u) = if has_use u.name head || list_any (is_left_of u.name) guard then [] else u.pos ∷ []
from_nowhere head guard (RuleContext u) = if is_some_place (flat_map (rule_use u.name) head) then [] else u.pos ∷ []
from_nowhere head guard item = []

-- ---- E45: two places of one context in the rule differ in form. There are three forms: bare, closed, and typed. A place in
-- argument form, in the form `$x[X]` or in the guard is of the typed form.

-- A use before which the context stands in another form. The first such use is the first whose form isn't that of the
-- context's first place.
abbrev pub in_other_form : List Item → Item → List Pos
in_other_form items = context_where (λ u.
    is_some_place (flat_map (context_where (λ v. (v.name == u.name) && (not (same_form v.form u.form) && not_after v.pos u.pos))) items))

-- ---- all of them, in their order; E38 is that the head holds nothing

abbrev pub rule_rows : List RuleTree → RuleTree → List Row
rule_rows table r =
    record { code = 44; places = if is_too_large r then r.pos ∷ [] else [] }
    ∷ record { code = 38; places = if number_of_items r.head == 0 then r.pos ∷ [] else [] }
    ∷ record { code = 36; places = flat_map (inner_rule table) (items_of r.head) }
    ∷ record { code = 37; places = flat_map connector_place (items_of r.head) }
    ∷ record { code = 30; places = flat_map (context_where (λ u. not (same_form Typed u.form))) (own_items (out-Level r.head)) }
    ∷ record { code = 35; places = flat_map (rule_context_where (λ u. true)) (own_items (out-Level r.head)) }
    ∷ record { code = 31; places = first_with_some (flat_map seconds_by_membrane (out-Level r.head).membranes) }
    ∷ record { code = 32; places = flat_map (used_again (items_of r.head)) (items_of r.head) }
    ∷ record { code = 33; places = flat_map (missing (items_of r.body)) (items_of r.head) ++ flat_map (bare_again (items_of r.head) (items_of r.body)) (items_of r.body) }
    ∷ record { code = 34; places = flat_map (from_nowhere (items_of r.head) r.guard) (items_of r.body) }
    ∷ record { code = 45; places = flat_map (in_other_form (rule_items r)) (rule_items r) }
    ∷ []

-- ---- parts of the rows, as the contracts of private functions and examples tell them

-- each of the rows
abbrev pub too_large : RuleTree → Row
too_large r = record { code = 44; places = if is_too_large r then r.pos ∷ [] else [] }

abbrev pub empty_head : RuleTree → Row
empty_head r = record { code = 38; places = if number_of_items r.head == 0 then r.pos ∷ [] else [] }

abbrev pub rule_in_head : List RuleTree → RuleTree → Row
rule_in_head table r = record { code = 36; places = flat_map (inner_rule table) (items_of r.head) }

abbrev pub connector_in_head : RuleTree → Row
connector_in_head r = record { code = 37; places = flat_map connector_place (items_of r.head) }

abbrev pub context_at_top : RuleTree → Row
context_at_top r = record { code = 30; places = flat_map (context_where (λ u. not (same_form Typed u.form))) (own_items (out-Level r.head)) }

abbrev pub rule_context_at_top : RuleTree → Row
rule_context_at_top r = record { code = 35; places = flat_map (rule_context_where (λ u. true)) (own_items (out-Level r.head)) }

abbrev pub two_in_membrane : RuleTree → Row
two_in_membrane r = record { code = 31; places = first_with_some (flat_map seconds_by_membrane (out-Level r.head).membranes) }

abbrev pub twice_in_head : RuleTree → Row
twice_in_head r = record { code = 32; places = flat_map (used_again (items_of r.head)) (items_of r.head) }

abbrev pub not_once_in_body : RuleTree → Row
not_once_in_body r = record {
  code = 33;
  places = flat_map (missing (items_of r.body)) (items_of r.head) ++ flat_map (bare_again (items_of r.head) (items_of r.body)) (items_of r.body);
}

abbrev pub not_in_head : RuleTree → Row
not_in_head r = record { code = 34; places = flat_map (from_nowhere (items_of r.head) r.guard) (items_of r.body) }

abbrev pub in_two_forms : RuleTree → Row
in_two_forms r = record { code = 45; places = flat_map (in_other_form (rule_items r)) (rule_items r) }

-- the rows on the size and the head's emptiness, on the head, and on the uses of contexts
abbrev pub size_rows : RuleTree → List Row
size_rows r = too_large r ∷ empty_head r ∷ []

abbrev pub head_rows : List RuleTree → RuleTree → List Row
head_rows table r = rule_in_head table r ∷ connector_in_head r ∷ context_at_top r ∷ rule_context_at_top r ∷ two_in_membrane r ∷ []

abbrev pub use_rows : RuleTree → List Row
use_rows r = twice_in_head r ∷ not_once_in_body r ∷ not_in_head r ∷ in_two_forms r ∷ []

-- the place of an untyped context, and of a rule context
abbrev pub is_untyped : Form → Bool
is_untyped form = not (same_form Typed form)

abbrev pub untyped_place : Item → List Pos
untyped_place = context_where (λ u. is_untyped u.form)

abbrev pub rule_context_place : Item → List Pos
rule_context_place = rule_context_where (λ u. true)

-- the places of all but the first of each kind
abbrev pub seconds : {A : Type 0} → Level-F A → List Pos
seconds l = behind_the_first l.contexts ++ behind_the_first l.rule_contexts

-- the place of a use with a name, up to a place
abbrev pub use_up_to : ℕ → Pos → Item → List Pos
use_up_to n p = context_where (λ u. (u.name == n) && not_after u.pos p)

abbrev pub rule_use_up_to : ℕ → Pos → Item → List Pos
rule_use_up_to n p = rule_context_where (λ u. (u.name == n) && not_after u.pos p)

abbrev pub bare_use_up_to : ℕ → Pos → Item → List Pos
bare_use_up_to n p = context_where (λ u. (u.name == n) && (is_bare u.form && not_after u.pos p))

-- the place of a use of the same context in another form, up to its place
abbrev pub other_form_up_to : FormedUse → Item → List Pos
other_form_up_to v = context_where (λ u. (u.name == v.name) && (not (same_form u.form v.form) && not_after u.pos v.pos))
