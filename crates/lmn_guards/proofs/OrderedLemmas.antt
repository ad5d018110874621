-- Rules in order are accepted.
use Rattle.std.proofs.Common.{ℕ, zero, suc, ◌≡◌, ◌==◌, ◌≤◌, ◌||◌, ◌&&◌, not, List, [], ◌∷◌, ◌++◌, length, slice_get, Bool, true, false, cond, is_some, option_map, option_to_list, Contains, refl, sym, ap, subst, ◌∙◌, arith, nat_lt}
use Rattle.std.specs.List.{flat_map, list_any}
use Rattle.std.proofs.lemmas.List.{length-append}
use Rattle.std.proofs.lemmas.List.Elements.{All-cons, All-append}
use Rattle.std.proofs.lemmas.Bool.Decides.{nat_tests}
use Rattle.lmn_base.specs.declared.functor.Functor.{Functor}
use Rattle.lmn_base.specs.declared.functor.Label.{Label}
use Rattle.lmn_base.specs.declared.functor.Label.TheVariants as label
use Rattle.lmn_base.specs.declared.functor.TheConstants.{CONNECTOR_NAME}
use Rattle.lmn_base.specs.declared.item.Form.{Form}
use Rattle.lmn_base.specs.declared.item.Form.TheVariants.{Bare, Closed, Typed}
use Rattle.lmn_base.specs.declared.item.FormedUse.{FormedUse}
use Rattle.lmn_base.specs.declared.item.Item.{Item}
use Rattle.lmn_base.specs.declared.item.Item.TheVariants.{Atom, Context, RuleContext, Rule}
use Rattle.lmn_base.specs.declared.level.Leaf.{Leaf}
use Rattle.lmn_base.specs.declared.level.Leaf.TheVariants as leaf
use Rattle.lmn_base.specs.declared.level.Level.{out-Level}
use Rattle.lmn_base.specs.declared.refusal.Pos.{Pos}
use Rattle.lmn_base.specs.declared.rule.RuleTree.{RuleTree}
use Rattle.lmn_base.specs.Firsts.{Row, NoneApplies}
use Rattle.lmn_base.specs.Items.{own_items, items_of, rule_items, number_of_items}
use Rattle.lmn_base.specs.Levels.{leaves_of}
use Rattle.lmn_base.specs.PlaceOrder.{not_after}
use Rattle.lmn_base_walks.specs.RuleCodes.{rule_rows, size_rows, head_rows, use_rows, is_too_large, too_large, empty_head, rule_in_head, connector_in_head, context_at_top, rule_context_at_top, two_in_membrane, twice_in_head, not_once_in_body, not_in_head, in_two_forms, inner_rule, is_connector_label, connector_place, is_bare, is_untyped, untyped_place, rule_context_place, seconds_by_membrane, first_with_some, use_up_to, rule_use_up_to, used_again, bare_use, bare_use_up_to, missing, bare_again, rule_use, from_nowhere, is_left_of, same_form, other_form_up_to, in_other_form}
use Rattle.lmn_base.specs.Solids.{connector}
use Rattle.lmn_base.specs.Uses.{use_of, has_use, is_some_place}
use Rattle.lmn_base.specs.WellMade.{IsLinkedRule}
use Rattle.lmn_base.proofs.Lists.{contains_first, contains_behind}
use Rattle.lmn_base.proofs.Numbers.{equal_when, not_equal}
use Rattle.lmn_base.proofs.RowLemmas.{Nowhere, no_rows}
use Rattle.lmn_base.proofs.Truth.{and_true, never}
use Rattle.lmn_guards.specs.Accepted.{IsAcceptedRule, IsInOrder}
use Rattle.lmn_guards.specs.GuardCodes.{rows_of_conditions, rows_of_typed, type_of, untyped, unheld, holds}

-- ---- lists

-- where of no item that stands there a place offends, none does
pub all_none : {X : Type 0} (f : X → List Pos) (xs : List X) → ((x : X) → Contains xs x → f x ≡ []) → flat_map f xs ≡ []
all_none f [] h = refl
all_none f (x ∷ xs) h =
    let here = h x (contains_first x xs) in
    let rest = all_none f xs (λ y w. h y (contains_behind x xs y w)) in
    λ i. here i ++ rest i

none_beyond : {X : Type 0} (g : X → Pos) (xs : List X) (k : ℕ) → length xs ≤ k → option_to_list (option_map g (slice_get xs k)) ≡ []
none_beyond g [] k l = refl
none_beyond g (x ∷ xs) zero l = absurd (omega (arith, l))
none_beyond g (x ∷ xs) (suc k) l = none_beyond g xs k (omega (arith, l))

all_without : (lists : List (List Pos)) → ((ps : List Pos) → Contains lists ps → ps ≡ []) → first_with_some lists ≡ []
all_without [] h = refl
all_without ([] ∷ lists) h = all_without lists (λ ps w. h ps (contains_behind [] lists ps w))
all_without ((p ∷ ps) ∷ lists) h = let e = h (p ∷ ps) (contains_first (p ∷ ps) lists) in absurd (cc)

-- where some place is there, an item has it
pub some_of : {X : Type 0} (f : X → List Pos) (xs : List X) → is_some_place (flat_map f xs) ≡ true → (x : X) × Contains xs x × (is_some_place (f x) ≡ true)
some_of f [] e = absurd (cc)
some_of f (x ∷ xs) e = by (f x) refl (some_of f xs)
  where
    by : (ps : List Pos) → f x ≡ ps → (is_some_place (flat_map f xs) ≡ true → (y : _) × Contains xs y × (is_some_place (f y) ≡ true)) → (y : _) × Contains (x ∷ xs) y × (is_some_place (f y) ≡ true)
    by (p ∷ ps) g later = (x, contains_first x xs, ap is_some_place g)
    by [] g later =
        let r = later (ap (λ ps. is_some_place (ps ++ flat_map f xs)) (sym g) ∙ e) in
        (r.0, contains_behind x xs r.0 r.1, r.2)

-- fewer places are chosen where of each item fewer are
fewer : {X : Type 0} (f g : X → List Pos) (xs : List X) → ((x : X) → length (f x) ≤ length (g x)) → length (flat_map f xs) ≤ length (flat_map g xs)
fewer f g [] h = omega arith
fewer f g (x ∷ xs) h =
    let here = h x in
    let rest = fewer f g xs h in
    let one = length-append (f x) (flat_map f xs) in
    let other = length-append (g x) (flat_map g xs) in
    omega (arith, here, rest, one, other)

not_above_one : (n m : ℕ) → n ≤ m → m ≤ 1 → nat_lt 1 n ≡ false
not_above_one n m h k = let l : n ≤ 1 = omega (arith, h, k) in grind (arith, nat_tests)

-- ---- tests that don't hold

pub nowhere_if : (b : Bool) (p : Pos) → b ≡ false → cond b (p ∷ []) [] ≡ []
nowhere_if b p e = ap (λ t. cond t (p ∷ []) []) e

pub nowhere_unless : (b : Bool) (p : Pos) → b ≡ true → cond b [] (p ∷ []) ≡ []
nowhere_unless b p e = ap (λ t. cond t [] (p ∷ [])) e

not_both : (a b : Bool) → (a ≡ true → b ≡ false) → (a && b) ≡ false
not_both true b h = h refl
not_both false b h = refl

bare_is : (f : Form) → is_bare f ≡ true → f ≡ Bare
bare_is Bare e = refl
bare_is Closed e = absurd (cc)
bare_is Typed e = absurd (cc)

same_itself : (f g : Form) → f ≡ g → same_form f g ≡ true
same_itself f g e = subst (λ h. same_form f h ≡ true) e (by f)
  where
    by : (f : Form) → same_form f f ≡ true
    by Bare = refl
    by Closed = refl
    by Typed = refl

-- ---- fewer uses up to a place

fewer_uses : (n : ℕ) (p : Pos) (x : Item) → length (use_up_to n p x) ≤ length (use_of n x)
fewer_uses n p (Atom f q) = omega arith
fewer_uses n p (Context u) = by (u.name == n) (not_after u.pos p)
  where
    by : (a b : Bool) → length (cond (a && b) (u.pos ∷ []) []) ≤ length (cond a (u.pos ∷ []) [])
    by true true = omega arith
    by true false = omega arith
    by false b = omega arith
fewer_uses n p (RuleContext u) = omega arith
fewer_uses n p (Rule k) = omega arith

fewer_rule_uses : (n : ℕ) (p : Pos) (x : Item) → length (rule_use_up_to n p x) ≤ length (rule_use n x)
fewer_rule_uses n p (Atom f q) = omega arith
fewer_rule_uses n p (Context u) = omega arith
fewer_rule_uses n p (RuleContext u) = by (u.name == n) (not_after u.pos p)
  where
    by : (a b : Bool) → length (cond (a && b) (u.pos ∷ []) []) ≤ length (cond a (u.pos ∷ []) [])
    by true true = omega arith
    by true false = omega arith
    by false b = omega arith
fewer_rule_uses n p (Rule k) = omega arith

fewer_bare_uses : (n : ℕ) (p : Pos) (x : Item) → length (bare_use_up_to n p x) ≤ length (bare_use n x)
fewer_bare_uses n p (Atom f q) = omega arith
fewer_bare_uses n p (Context u) = by (u.name == n) (is_bare u.form) (not_after u.pos p)
  where
    by : (a b c : Bool) → length (cond (a && (b && c)) (u.pos ∷ []) []) ≤ length (cond (a && b) (u.pos ∷ []) [])
    by true true true = omega arith
    by true true false = omega arith
    by true false c = omega arith
    by false b c = omega arith
fewer_bare_uses n p (RuleContext u) = omega arith
fewer_bare_uses n p (Rule k) = omega arith

-- ---- each row

is_connector : (f : Functor) → (is_connector_label f.label && (f.arity == 2)) ≡ true → f ≡ connector
is_connector f e = by f.label f.arity refl refl e
  where
    by : (l : Label) (a : ℕ) → f.label ≡ l → f.arity ≡ a → (is_connector_label l && (a == 2)) ≡ true → f ≡ connector
    by (label.Name n) a g h e =
        let both = and_true (n == CONNECTOR_NAME) (a == 2) e in
        let l : f.label ≡ label.Name CONNECTOR_NAME = g ∙ ap label.Name (equal_when n CONNECTOR_NAME both.0) in
        let k : f.arity ≡ 2 = h ∙ equal_when a 2 both.1 in
        λ i. record { label = l i; arity = k i }
    by (label.Int z) a g h e = absurd (cc)

module _ (table : List RuleTree) (r : RuleTree) (o : IsInOrder table r) where
  abbrev head : List Item
  head = items_of r.head

  abbrev body : List Item
  body = items_of r.body

  empty_is_not : (number_of_items r.head == 0) ≡ false
  empty_is_not = not_equal (number_of_items r.head) 0 o.holds_something

  no_rule_there : (x : Item) → Contains head x → inner_rule table x ≡ []
  no_rule_there (Atom f p) w = refl
  no_rule_there (Context u) w = refl
  no_rule_there (RuleContext u) w = refl
  no_rule_there (Rule k) w = none_beyond (λ x. x.pos) table k (o.no_rule k w)

  no_connector_there : (x : Item) → Contains head x → connector_place x ≡ []
  no_connector_there (Atom f p) w =
      nowhere_if (is_connector_label f.label && (f.arity == 2)) p
      (never (is_connector_label f.label && (f.arity == 2)) (λ e. o.no_connector p (subst (λ g. Contains head (Atom g p)) (is_connector f e) w)))
  no_connector_there (Context u) w = refl
  no_connector_there (RuleContext u) w = refl
  no_connector_there (Rule k) w = refl

  none_untyped : (x : Item) → Contains (own_items (out-Level r.head)) x → untyped_place x ≡ []
  none_untyped (Atom f p) w = refl
  none_untyped (Context u) w = nowhere_if (is_untyped u.form) u.pos (ap is_untyped (o.no_context_at_top u w))
  none_untyped (RuleContext u) w = refl
  none_untyped (Rule k) w = refl

  none_of_rules : (x : Item) → Contains (own_items (out-Level r.head)) x → rule_context_place x ≡ []
  none_of_rules (Atom f p) w = refl
  none_of_rules (Context u) w = refl
  none_of_rules (RuleContext u) w = absurd (o.no_rule_context_at_top u w)
  none_of_rules (Rule k) w = refl

  not_again : (x : Item) → Contains head x → used_again head x ≡ []
  not_again (Atom f p) w = refl
  not_again (Context u) w =
      nowhere_if (nat_lt 1 (length (flat_map (use_up_to u.name u.pos) head))) u.pos
      (not_above_one (length (flat_map (use_up_to u.name u.pos) head)) (length (flat_map (use_of u.name) head)) (fewer (use_up_to u.name u.pos) (use_of u.name) head (fewer_uses u.name u.pos)) (o.once_in_head u.name))
  not_again (RuleContext u) w =
      nowhere_if (nat_lt 1 (length (flat_map (rule_use_up_to u.name u.pos) head))) u.pos
      (not_above_one (length (flat_map (rule_use_up_to u.name u.pos) head)) (length (flat_map (rule_use u.name) head)) (fewer (rule_use_up_to u.name u.pos) (rule_use u.name) head (fewer_rule_uses u.name u.pos)) (o.rule_context_once_in_head u.name))
  not_again (Rule k) w = refl

  -- a context that is bare in the head has one bare place in the body
  one_there : (n : ℕ) → is_some_place (flat_map (bare_use n) head) ≡ true → length (flat_map (bare_use n) body) ≡ 1
  one_there n e = let f = some_of (bare_use n) head e in by f.0 f.1 f.2
    where
      by : (x : Item) → Contains head x → is_some_place (bare_use n x) ≡ true → length (flat_map (bare_use n) body) ≡ 1
      by (Atom g p) w t = absurd (cc)
      by (Context u) w t = both (u.name == n) refl (is_bare u.form) refl t
        where
          both : (a : Bool) → (u.name == n) ≡ a → (b : Bool) → is_bare u.form ≡ b → is_some_place (cond (a && b) (u.pos ∷ []) []) ≡ true → length (flat_map (bare_use n) body) ≡ 1
          both true g true h t = subst (λ m. length (flat_map (bare_use m) body) ≡ 1) (equal_when u.name n g) (o.once_in_body u w (bare_is u.form h))
          both true g false h t = absurd (cc)
          both false g b h t = absurd (cc)
      by (RuleContext u) w t = absurd (cc)
      by (Rule k) w t = absurd (cc)

  place_there : (ps : List Pos) → length ps ≡ 1 → not (is_some_place ps) ≡ false
  place_there [] e = absurd (omega (arith, e))
  place_there (p ∷ ps) e = refl

  none_missing : (x : Item) → Contains head x → missing body x ≡ []
  none_missing (Atom f p) w = refl
  none_missing (Context u) w =
      nowhere_if (is_bare u.form && not (is_some_place (flat_map (bare_use u.name) body))) u.pos
      (not_both (is_bare u.form) (not (is_some_place (flat_map (bare_use u.name) body))) (λ b. place_there (flat_map (bare_use u.name) body) (o.once_in_body u w (bare_is u.form b))))
  none_missing (RuleContext u) w = refl
  none_missing (Rule k) w = refl

  at_most : (n m : ℕ) → n ≤ m → m ≡ 1 → nat_lt 1 n ≡ false
  at_most n m h e = not_above_one n m h (omega (arith, e))

  bare_not_again : (x : Item) → Contains body x → bare_again head body x ≡ []
  bare_not_again (Atom f p) w = refl
  bare_not_again (Context u) w =
      let n = length (flat_map (bare_use_up_to u.name u.pos) body) in
      nowhere_if (is_bare u.form && (is_some_place (flat_map (bare_use u.name) head) && nat_lt 1 n)) u.pos
      (not_both (is_bare u.form) (is_some_place (flat_map (bare_use u.name) head) && nat_lt 1 n)
      (λ b. not_both (is_some_place (flat_map (bare_use u.name) head)) (nat_lt 1 n)
      (λ e. at_most n (length (flat_map (bare_use u.name) body)) (fewer (bare_use_up_to u.name u.pos) (bare_use u.name) body (fewer_bare_uses u.name u.pos)) (one_there u.name e))))
  bare_not_again (RuleContext u) w = refl
  bare_not_again (Rule k) w = refl

  from_somewhere : (x : Item) → Contains body x → from_nowhere head r.guard x ≡ []
  from_somewhere (Atom f p) w = refl
  from_somewhere (Context u) w = nowhere_unless (has_use u.name head || list_any (is_left_of u.name) r.guard) u.pos (o.of_the_head u w)
  from_somewhere (RuleContext u) w = nowhere_unless (is_some_place (flat_map (rule_use u.name) head)) u.pos (o.rule_context_of_the_head u w)
  from_somewhere (Rule k) w = refl

  no_other_form : (v : FormedUse) → Contains (rule_items r) (Context v) → (x : Item) → Contains (rule_items r) x → other_form_up_to v x ≡ []
  no_other_form v w (Atom f p) c = refl
  no_other_form v w (Context u) c =
      nowhere_if ((u.name == v.name) && (not (same_form u.form v.form) && not_after u.pos v.pos)) u.pos
      (not_both (u.name == v.name) (not (same_form u.form v.form) && not_after u.pos v.pos)
      (λ e. ap (λ b. not b && not_after u.pos v.pos) (same_itself u.form v.form (o.one_form u v c w (equal_when u.name v.name e)))))
  no_other_form v w (RuleContext u) c = refl
  no_other_form v w (Rule k) c = refl

  one_form_each : (x : Item) → Contains (rule_items r) x → in_other_form (rule_items r) x ≡ []
  one_form_each (Atom f p) w = refl
  one_form_each (Context v) w =
      nowhere_if (is_some_place (flat_map (other_form_up_to v) (rule_items r))) v.pos (ap is_some_place (all_none (other_form_up_to v) (rule_items r) (no_other_form v w)))
  one_form_each (RuleContext u) w = refl
  one_form_each (Rule k) w = refl

  each_typed : (x : Leaf) → Contains (leaves_of r.head) x → untyped r.head r.guard x ≡ []
  each_typed (leaf.Atom f ls p) w = refl
  each_typed (leaf.Typed n l p) w = nowhere_unless (is_some (type_of r.head r.guard n)) p (o.has_type n l p w)

  each_held : (x : Leaf) → Contains (leaves_of r.head) x → unheld r.head x ≡ []
  each_held (leaf.Atom f ls p) w = refl
  each_held (leaf.Typed n l p) w = nowhere_unless (is_some_place (flat_map (holds l.link) (leaves_of r.head))) p (o.is_held n l p w)

  both_none : (ps qs : List Pos) → ps ≡ [] → qs ≡ [] → ps ++ qs ≡ []
  both_none ps qs e f = λ i. e i ++ f i

  none_more : (row : Row) (rows : List Row) → row.places ≡ [] → NoneApplies rows → NoneApplies (row ∷ rows)
  none_more row rows e h = All-cons Nowhere row rows e h

  -- The rows of a rule in order, within the limits.

  use_rows_none : NoneApplies (use_rows r)
  use_rows_none =
      none_more (twice_in_head r) (not_once_in_body r ∷ not_in_head r ∷ in_two_forms r ∷ []) (all_none (used_again head) head not_again) (
      none_more (not_once_in_body r) (not_in_head r ∷ in_two_forms r ∷ []) (both_none (flat_map (missing body) head) (flat_map (bare_again head body) body) (all_none (missing body) head none_missing) (all_none (bare_again head body) body bare_not_again)) (
      none_more (not_in_head r) (in_two_forms r ∷ []) (all_none (from_nowhere head r.guard) body from_somewhere) (
      none_more (in_two_forms r) ([]) (all_none (in_other_form (rule_items r)) (rule_items r) one_form_each) (no_rows))))

  head_rows_none : NoneApplies (head_rows table r)
  head_rows_none =
      none_more (rule_in_head table r) (connector_in_head r ∷ context_at_top r ∷ rule_context_at_top r ∷ two_in_membrane r ∷ []) (all_none (inner_rule table) head no_rule_there) (
      none_more (connector_in_head r) (context_at_top r ∷ rule_context_at_top r ∷ two_in_membrane r ∷ []) (all_none connector_place head no_connector_there) (
      none_more (context_at_top r) (rule_context_at_top r ∷ two_in_membrane r ∷ []) (all_none untyped_place (own_items (out-Level r.head)) none_untyped) (
      none_more (rule_context_at_top r) (two_in_membrane r ∷ []) (all_none rule_context_place (own_items (out-Level r.head)) none_of_rules) (
      none_more (two_in_membrane r) ([]) (all_without (flat_map seconds_by_membrane (out-Level r.head).membranes) o.one_in_membrane) (no_rows)))))

  size_rows_none : is_too_large r ≡ false → NoneApplies (size_rows r)
  size_rows_none small =
      none_more (too_large r) (empty_head r ∷ []) (nowhere_if (is_too_large r) r.pos small) (
      none_more (empty_head r) ([]) (nowhere_if (number_of_items r.head == 0) r.pos empty_is_not) (no_rows))

  rows : is_too_large r ≡ false → NoneApplies (rule_rows table r)
  rows small = All-append Nowhere (size_rows r) (head_rows table r ++ use_rows r) (size_rows_none small) (All-append Nowhere (head_rows table r) (use_rows r) head_rows_none use_rows_none)

  typed_rows : NoneApplies (rows_of_typed r)
  typed_rows =
      let last : Row = record { code = 46; places = flat_map (unheld r.head) (leaves_of r.head) } in
      let first : Row = record { code = 40; places = flat_map (untyped r.head r.guard) (leaves_of r.head) } in
      All-cons Nowhere first (last ∷ []) (all_none (untyped r.head r.guard) (leaves_of r.head) each_typed)
      (All-cons Nowhere last [] (all_none (unheld r.head) (leaves_of r.head) each_held) no_rows)

-- a linked rule within the limits that is in order, and of whose conditions none is refused, is accepted
pub accepted : (table : List RuleTree) (r : RuleTree) → IsLinkedRule r → is_too_large r ≡ false → IsInOrder table r
    → NoneApplies (rows_of_conditions r.head [] r.guard) → IsAcceptedRule table r
accepted table r linked small order conditions = record {
  linked = linked;
  contexts = rows table r order small;
  guard = All-append Nowhere (rows_of_conditions r.head [] r.guard) (rows_of_typed r) conditions (typed_rows table r order);
}
