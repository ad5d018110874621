-- Where the rows apply to the rules of small texts, by computation.
use Rattle.std.proofs.Common.{ℕ, ◌≡◌, ◌==◌, List, [], ◌∷◌, ◌++◌, refl, ap, ◌∙◌}
use Rattle.std.specs.Prelude.{nat_lt, ◌||◌, if◌then◌else◌}
use Rattle.std.specs.List.{flat_map}
use Rattle.std.proofs.lemmas.List.Elements.{All-from_recursion}
use Rattle.std.proofs.lemmas.List.Folds.{flat_map-map}
use Rattle.lmn_base.specs.declared.guard.Cond.TheVariants.{Kind}
use Rattle.lmn_base.specs.declared.item.Item.{Item}
use Rattle.lmn_base.specs.declared.level.CtxUse.{CtxUse}
use Rattle.lmn_base.specs.declared.level.Leaf.{Leaf}
use Rattle.lmn_base.specs.declared.level.Leaf.TheVariants.{Atom, Typed}
use Rattle.lmn_base.specs.declared.level.Level.{Level, out-Level, map-Level}
use Rattle.lmn_base.specs.declared.level.Level.TheOpen.{Level-F}
use Rattle.lmn_base.specs.declared.level.Level.TheViews.{roll-Level, out-roll-Level}
use Rattle.lmn_base.specs.declared.level.Level.TheFolds.{fold-roll-Level}
use Rattle.lmn_base.specs.declared.functor.Label.TheVariants.{Name}
use Rattle.lmn_base.specs.declared.refusal.Pos.{Pos}
use Rattle.lmn_base.specs.declared.rule.RuleTree.{RuleTree}
use Rattle.lmn_base.specs.Firsts.{NoneApplies}
use Rattle.lmn_base.specs.Items.{items_of, own_items, leaf_item, untyped, guard_items, number_of_items, number_step}
use Rattle.lmn_base_walks.specs.RuleCodes.{rule_rows, untyped_place, rule_context_place, connector_place, inner_rule, seconds, seconds_by_membrane, first_with_some, used_again, in_other_form, missing, bare_again, from_nowhere}
use Rattle.lmn_base.specs.Limits.{most_head_items, most_body_items, most_conditions, most_guard_tokens}
use Rattle.lmn_base_walks.proofs.ItemLemmas.{listed_items as listed}
use Rattle.lmn_contexts.specs.Examples.{name_r, context_x, alone, holding, empty, membrane_with_contexts, without_guard, EmptyHead, RuleInHead, ConnectorInHead, ContextAtTop, RuleContextAtTop, TwoInMembrane, OuterPairFirst, TwiceInHead, TwiceInTwoForms, NotInBody, TwiceInBody, NotInHead, RuleContextNotInHead, InTwoForms, closed_at, ClosedAtTop, ClosedCopied, OpenAndClosed, LargestHead, LargestBody, NothingOffends, ClosedStands, many}
use Rattle.lmn_base.specs.SmallTexts.{at_column, name_a, name_b, name_p, use_at}
use Rattle.lmn_base.proofs.RowLemmas.{Nowhere}

-- how many there are
pub counted : (l : Level-F Level) → number_of_items (roll-Level l) ≡ number_step (map-Level Level ℕ number_of_items l)
counted l = fold-roll-Level ℕ number_step l

-- a head that holds nothing is refused
pub empty_head : EmptyHead
empty_head = ap (λ n. if n == 0 then at_column 1 ∷ [] else []) (counted _)

-- and one with a connector
pub connector_in_head : ConnectorInHead
connector_in_head = ap (flat_map connector_place) (listed _)

-- and one with a context at its top
pub context_at_top : ContextAtTop
context_at_top = ap (λ o. flat_map untyped_place (own_items o)) (out-roll-Level _)

-- or a rule context
pub rule_context_at_top : RuleContextAtTop
rule_context_at_top = ap (λ o. flat_map rule_context_place (own_items o)) (out-roll-Level _)

-- a level of one membrane
in_one : (leaves : List Leaf) (inner : Level) (contexts : List CtxUse) (is : List Item) → items_of inner ≡ is →
    items_of (holding leaves (inner ∷ []) contexts []) ≡ own_items (record { leaves = leaves; membranes = inner ∷ []; contexts = contexts; rule_contexts = []; rules = [] }) ++ (is ++ [])
in_one leaves inner contexts is e = listed _ ∙ ap (λ js. own_items (record { leaves = leaves; membranes = inner ∷ []; contexts = contexts; rule_contexts = []; rules = [] }) ++ (js ++ [])) e

-- no item
none : items_of empty ≡ []
none = listed _

-- ---- a rule in the head

abbrev outer : Level-F Level
outer = record { leaves = []; membranes = []; contexts = []; rule_contexts = []; rules = 1 ∷ [] }

-- a head with a rule in it is refused
pub rule_in_head : RuleInHead
rule_in_head =
    let inner : RuleTree = record { head = holding (alone name_a 2 ∷ []) [] [] []; guard = []; body = holding (alone name_b 7 ∷ []) [] [] []; links = []; pos = at_column 2 } in
    ap (flat_map (inner_rule (without_guard (roll-Level outer) empty ∷ inner ∷ []))) (listed outer)

-- ---- two contexts in one membrane

membranes_of_rolled : (l : Level-F Level) → flat_map seconds_by_membrane (out-Level (roll-Level l)).membranes ≡ flat_map seconds_by_membrane l.membranes
membranes_of_rolled l = ap (λ o. flat_map seconds_by_membrane o.membranes) (out-roll-Level l)

seconds_listed : (l : Level-F Level) → seconds_by_membrane (roll-Level l) ≡ seconds l ∷ flat_map seconds_by_membrane l.membranes
seconds_listed l = fold-roll-Level (List (List Pos)) (λ l. (seconds l ∷ []) ++ flat_map (λ inner. inner) l.membranes) l ∙ ap (λ ps. seconds l ∷ ps) (flat_map-map (λ inner. inner) seconds_by_membrane l.membranes)

-- two contexts in one membrane of a head are refused
pub two_in_membrane : TwoInMembrane
two_in_membrane =
    ap first_with_some (membranes_of_rolled _ ∙ ap (λ ps. ps ++ []) (seconds_listed _))

-- those of an outer membrane come first
pub outer_pair_first : OuterPairFirst
outer_pair_first =
    ap first_with_some (membranes_of_rolled _ ∙ ap (λ ps. ps ++ []) (seconds_listed _ ∙ ap (λ ps. (at_column 16 ∷ []) ∷ (ps ++ [])) (seconds_listed _)))

-- ---- uses in the head

-- a context that stands twice in the head is refused
pub twice_in_head : TwiceInHead
twice_in_head =
    let first : items_of (holding [] [] (use_at name_p 2 ∷ []) []) ≡ _ = listed _ in
    let second : items_of (holding [] [] (use_at name_p 8 ∷ []) []) ≡ _ = listed _ in
    let head : items_of (holding [] (holding [] [] (use_at name_p 2 ∷ []) [] ∷ holding [] [] (use_at name_p 8 ∷ []) [] ∷ []) [] []) ≡ _ = listed _ ∙ (λ i. first i ++ (second i ++ [])) in
    λ i. flat_map (used_again (head i)) (head i)

abbrev two_forms : List Item → List Pos
two_forms items = flat_map (in_other_form items) items

-- also in two forms
pub twice_in_two_forms : TwiceInTwoForms
twice_in_two_forms =
    let atom = Atom (record { label = Name name_p; arity = 1 }) (record { link = 0; pos = at_column 7 } ∷ []) (at_column 7) in
    let typed = Typed context_x (record { link = 0; pos = at_column 7 }) (at_column 9) in
    let head : items_of (holding (atom ∷ typed ∷ []) (holding [] [] (use_at context_x 2 ∷ []) [] ∷ []) [] []) ≡ _ = in_one _ _ [] _ (listed _) in
    ((λ i. flat_map (used_again (head i)) (head i)), (λ i. two_forms (head i ++ none i)))

-- and so is one in two forms in the rule
pub in_two_forms : InTwoForms
in_two_forms =
    let head : items_of (holding [] (holding (alone name_a 2 ∷ []) [] (use_at name_p 5 ∷ []) [] ∷ []) [] []) ≡ _ = in_one [] _ [] _ (listed _) in
    let body : items_of (holding [] [] (use_at name_p 22 ∷ []) []) ≡ _ = listed _ in
    λ i. two_forms (head i ++ (guard_items (Kind 1 (use_at name_p 16 ∷ []) (at_column 12) ∷ []) ++ body i))

-- ---- uses in the body

abbrev once : List Item → List Item → List Pos
once head body = flat_map (missing body) head ++ flat_map (bare_again head body) body

-- a context of the head that isn't in the body is refused
pub not_in_body : NotInBody
not_in_body =
    let head : items_of (membrane_with_contexts (use_at name_p 2 ∷ [])) ≡ _ = in_one [] _ [] _ (listed _) in
    λ i. once (head i) (none i)

-- or stands twice there
pub twice_in_body : TwiceInBody
twice_in_body =
    let head : items_of (holding (alone name_b 8 ∷ []) (holding [] [] (use_at name_p 2 ∷ []) [] ∷ []) [] []) ≡ _ = in_one _ _ [] _ (listed _) in
    let body : items_of (holding [] (holding [] [] (use_at name_p 2 ∷ []) [] ∷ []) (use_at name_p 13 ∷ []) []) ≡ _ = in_one _ _ _ _ (listed _) in
    λ i. once (head i) (body i)

-- ---- closed contexts

-- a closed context at the head's top is refused
pub closed_at_top : ClosedAtTop
closed_at_top = ap (λ o. flat_map untyped_place (own_items o)) (out-roll-Level _)

closed_head : items_of (membrane_with_contexts (closed_at name_p 2 ∷ [])) ≡ untyped (closed_at name_p 2) ∷ []
closed_head = in_one [] _ [] _ (listed _)

-- one that stands twice in the body, or not at all, isn't
pub closed_copied : ClosedCopied
closed_copied =
    let body : items_of (holding [] (holding [] [] (closed_at name_p 17 ∷ []) [] ∷ []) (closed_at name_p 10 ∷ []) []) ≡ _ = in_one _ _ _ _ (listed _) in
    ((λ i. once (closed_head i) (body i)), (λ i. once (closed_head i) (none i)))

-- but one that is open there
pub open_and_closed : OpenAndClosed
open_and_closed =
    let body : items_of (holding [] [] (use_at name_p 10 ∷ []) []) ≡ _ = listed _ in
    λ i. two_forms (closed_head i ++ body i)

b_alone : items_of (holding (alone name_b 1 ∷ []) [] [] []) ≡ leaf_item (alone name_b 1) ∷ []
b_alone = listed _

-- and one of the body that isn't in the head
pub not_in_head : NotInHead
not_in_head =
    let body : items_of (holding [] [] (use_at name_p 6 ∷ []) []) ≡ _ = listed _ in
    λ i. flat_map (from_nowhere (b_alone i) []) (body i)

-- and so a rule context
pub rule_context_not_in_head : RuleContextNotInHead
rule_context_not_in_head =
    let body : items_of (holding [] [] [] (use_at name_r 6 ∷ [])) ≡ _ = listed _ in
    λ i. flat_map (from_nowhere (b_alone i) []) (body i)

-- ---- limits

size_of_empty : number_of_items empty ≡ 0
size_of_empty = counted _

abbrev too_many : ℕ → ℕ → List Pos
too_many head body = if nat_lt most_head_items head || (nat_lt most_body_items body || (nat_lt most_conditions 0 || nat_lt most_guard_tokens 0)) then at_column 1 ∷ [] else []

-- the size of leaves and one membrane
sized : (leaves : List Leaf) (inner : Level) (n : ℕ) → number_of_items inner ≡ n →
    number_of_items (holding leaves (inner ∷ []) [] []) ≡ number_step (record { leaves = leaves; membranes = n ∷ []; contexts = []; rule_contexts = []; rules = [] })
sized leaves inner n e = counted _ ∙ ap (λ k. number_step (record { leaves = leaves; membranes = k ∷ []; contexts = []; rule_contexts = []; rules = [] })) e

-- a head of 128 items is within the limits
pub largest_head : LargestHead
largest_head =
    let within : number_of_items (holding (many 127 (alone name_a 1)) (holding [] [] [] [] ∷ []) [] []) ≡ 128 = sized _ _ 0 (counted _) in
    let beyond : number_of_items (holding (many 127 (alone name_a 1)) (holding [] [] (use_at name_p 9 ∷ []) [] ∷ []) [] []) ≡ 129 = sized _ _ 1 (counted _) in
    ((λ i. too_many (within i) (size_of_empty i)), (λ i. too_many (beyond i) (size_of_empty i)))

-- and a body of as many as it may have
pub largest_body : LargestBody
largest_body =
    let within : number_of_items (holding (many 1024 (alone name_a 1)) [] [] []) ≡ 1024 = counted _ in
    let beyond : number_of_items (holding (many 1025 (alone name_a 1)) [] [] []) ≡ 1025 = counted _ in
    ((λ i. too_many (size_of_empty i) (within i)), (λ i. too_many (size_of_empty i) (beyond i)))

-- ---- a rule that may stand

-- a rule in order is not refused
pub nothing_offends : NothingOffends
nothing_offends =
    let inner : Level = holding (alone name_a 2 ∷ []) [] (use_at name_p 5 ∷ []) (use_at name_r 9 ∷ []) in
    let rolled : Level-F Level = record { leaves = []; membranes = inner ∷ []; contexts = []; rule_contexts = []; rules = [] } in
    let made : Level = holding [] [] (use_at name_p 17 ∷ []) (use_at name_r 21 ∷ use_at name_r 25 ∷ []) in
    let head : items_of (holding [] (inner ∷ []) [] []) ≡ _ = in_one [] inner [] _ (listed _) in
    let body : items_of (holding [] (made ∷ []) [] []) ≡ _ = in_one [] made [] _ (listed _) in
    let few : number_of_items inner ≡ 3 = counted _ in
    let head_size : number_of_items (holding [] (inner ∷ []) [] []) ≡ 4 = sized [] inner 3 few in
    let made_size : number_of_items made ≡ 3 = counted _ in
    let body_size : number_of_items (holding [] (made ∷ []) [] []) ≡ 4 = sized [] made 3 made_size in
    let top : own_items (out-Level (holding [] (inner ∷ []) [] [])) ≡ [] = ap own_items (out-roll-Level _) in
    All-from_recursion Nowhere (rule_rows [] (without_guard (holding [] (inner ∷ []) [] []) (holding [] (made ∷ []) [] []))) (
      (λ i. too_many (head_size i) (body_size i)),
      (
        (λ i. if head_size i == 0 then at_column 1 ∷ [] else []),
        (
          ap (flat_map (inner_rule [])) head,
          (
            ap (flat_map connector_place) head,
            (
              ap (flat_map untyped_place) top,
              (
                ap (flat_map rule_context_place) top,
                (
                  ap first_with_some (membranes_of_rolled rolled ∙ ap (λ ps. ps ++ []) (seconds_listed _)),
                  (
                    (λ i. flat_map (used_again (head i)) (head i)),
                    (
                      (λ i. once (head i) (body i)),
                      (
                        (λ i. flat_map (from_nowhere (head i) []) (body i)),
                        ((λ i. two_forms (head i ++ body i)), tt),
                      ),
                    ),
                  ),
                ),
              ),
            ),
          ),
        ),
      ),
    )

-- the rows of a rule with one membrane of closed contexts in its head, none of which applies: what has to be shown of its body
module _ (body : Level) (items : List Item) (size : ℕ) (listed_body : items_of body ≡ items) (size_of_body : number_of_items body ≡ size) where
  closed_rows : (λ (is : List Item). once (untyped (closed_at name_p 2) ∷ []) is) items ≡ [] → flat_map (from_nowhere (untyped (closed_at name_p 2) ∷ []) []) items ≡ [] →
      two_forms ((untyped (closed_at name_p 2) ∷ []) ++ items) ≡ [] → too_many 2 size ≡ [] → NoneApplies (rule_rows [] (without_guard (membrane_with_contexts (closed_at name_p 2 ∷ [])) body))
  closed_rows not_twice somewhere alike few =
      let inner : Level = holding [] [] (closed_at name_p 2 ∷ []) [] in
      let rolled : Level-F Level = record { leaves = []; membranes = inner ∷ []; contexts = []; rule_contexts = []; rules = [] } in
      let head_size : number_of_items (membrane_with_contexts (closed_at name_p 2 ∷ [])) ≡ 2 = sized [] inner 1 (counted _) in
      let top : own_items (out-Level (membrane_with_contexts (closed_at name_p 2 ∷ []))) ≡ [] = ap own_items (out-roll-Level _) in
      All-from_recursion Nowhere (rule_rows [] (without_guard (membrane_with_contexts (closed_at name_p 2 ∷ [])) body)) (
        (λ i. too_many (head_size i) (size_of_body i)) ∙ few,
        (
          (λ i. if head_size i == 0 then at_column 1 ∷ [] else []),
          (
            ap (flat_map (inner_rule [])) closed_head,
            (
              ap (flat_map connector_place) closed_head,
              (
                ap (flat_map untyped_place) top,
                (
                  ap (flat_map rule_context_place) top,
                  (
                    ap first_with_some (membranes_of_rolled rolled ∙ ap (λ ps. ps ++ []) (seconds_listed _)),
                    (
                      (λ i. flat_map (used_again (closed_head i)) (closed_head i)),
                      (
                        (λ i. once (closed_head i) (listed_body i)) ∙ not_twice,
                        (
                          (λ i. flat_map (from_nowhere (closed_head i) []) (listed_body i)) ∙ somewhere,
                          ((λ i. two_forms (closed_head i ++ listed_body i)) ∙ alike, tt),
                        ),
                      ),
                    ),
                  ),
                ),
              ),
            ),
          ),
        ),
      )

-- a closed context may be copied, and dropped
pub closed_stands : ClosedStands
closed_stands =
    let made : Level = holding [] [] (closed_at name_p 12 ∷ closed_at name_p 18 ∷ []) [] in
    let body : items_of (membrane_with_contexts (closed_at name_p 12 ∷ closed_at name_p 18 ∷ [])) ≡ _ = in_one [] made [] _ (listed _) in
    (closed_rows _ _ 3 body (sized [] made 2 (counted _)) refl refl refl refl, closed_rows empty [] 0 none size_of_empty refl refl refl refl)
