-- Small rules that are accepted.
use Rattle.std.proofs.Common.{ℕ, List, refl, inl, inr, arith, ◌≡◌, ◌+◌, ◌⊎◌, [], ◌∷◌}
use Rattle.lmn_base.specs.declared.guard.Arith.TheVariants.{Add}
use Rattle.lmn_congruence.specs.LinkedRules.{LinkedRule}
use Rattle.lmn_congruence.specs.Links.{one_if_same}
use Rattle.lmn_congruence.specs.Orders.{Among, at_head, further, here, more, none}
use Rattle.lmn_congruence.specs.Rules.{Level, Levels, Name, equates, level, level_and, no_level, no_rule, operation, value_of}
use Rattle.lmn_reduction.specs.Examples.{add_up, double_rules, letter_x, letter_y, letter_z}
use Rattle.lmn_adequacy.specs.Accepted.{Accepted, GivesType, UsedIn, all_asked, binding_in_turn, by_value, here_used, left_used, right_used}
use Rattle.lmn_adequacy.specs.Examples.{TheseAreAccepted, open_membrane}
use Rattle.lmn_congruence.proofs.Common.{nothing_among}

-- ---- `{a, $p, @r} :- {$p, @r, @r}` and `{a, $p} :- $p, a`

not_empty_with : (l : Level) (ls : Levels) → ¬ (level [] (level_and l ls) [] [] no_rule ≡ level [] no_level [] [] no_rule)
not_empty_with l ls e = absurd (cc e)

double_accepted : Accepted double_rules
double_accepted = record {
  linked = λ letter_x. inl refl;
  not_empty = not_empty_with _ _;
  no_connectors = (tt, ((tt, tt), tt));
  no_rules = (refl, ((refl, tt), tt));
  top_contexts = refl;
  top_rule_contexts = refl;
  few = (((tt, tt), tt), tt);
  once = (((λ k. nothing_among k), tt), ((λ k. nothing_among k), tt), tt);
  kept = more refl none here;
  known_closed = λ p k. absurd (nothing_among k);
  known_rules = λ p k. one_name p k;
  known = λ p k. absurd (nothing_among k);
  in_turn = all_asked;
  typed = λ p k. absurd (nothing_among k);
  held = λ letter_x k. absurd (nothing_among k);
}
  where
    one_name : (p : Name) → Among p ((114 ∷ []) ∷ (114 ∷ []) ∷ []) → Among p ((114 ∷ []) ∷ [])
    one_name p at_head = at_head
    one_name p (further at_head) = at_head
    one_name p (further (further k)) = elim k [ ]

open_accepted : Accepted open_membrane
open_accepted = record {
  linked = λ letter_x. inl refl;
  not_empty = not_empty_with _ _;
  no_connectors = (tt, ((tt, tt), tt));
  no_rules = (refl, ((refl, tt), tt));
  top_contexts = refl;
  top_rule_contexts = refl;
  few = (((tt, tt), tt), tt);
  once = (((λ k. nothing_among k), tt), tt, tt);
  kept = more refl none here;
  known_closed = λ p k. absurd (nothing_among k);
  known_rules = λ p k. absurd (nothing_among k);
  known = λ p k. absurd (nothing_among k);
  in_turn = all_asked;
  typed = λ p k. absurd (nothing_among k);
  held = λ letter_x k. absurd (nothing_among k);
}

-- ---- `p($x), p($y) :- $z = $x + $y | p($z)`

add_linked : LinkedRule add_up
add_linked letter_x = go letter_x
  where
    go : (letter_x : ℕ) → ((one_if_same letter_x 0 + 0) + (one_if_same letter_x 0 + ((one_if_same letter_x 1 + 0) + (one_if_same letter_x 1 + 0))) + 0 + ((one_if_same letter_x 2 + 0) + (one_if_same letter_x 2 + 0) + 0) ≡ 0) ⊎ ((one_if_same letter_x 0 + 0) + (one_if_same letter_x 0 + ((one_if_same letter_x 1 + 0) + (one_if_same letter_x 1 + 0))) + 0 + ((one_if_same letter_x 2 + 0) + (one_if_same letter_x 2 + 0) + 0) ≡ 2)
    go letter_x = grind arith

letter : Name → ℕ
letter [] = 0
letter (letter_x ∷ xs) = letter_x

add_accepted : Accepted add_up
unfolding letter
add_accepted = record {
  linked = add_linked;
  not_empty = λ e. absurd (cc e);
  no_connectors = (tt, tt);
  no_rules = (refl, tt);
  top_contexts = refl;
  top_rule_contexts = refl;
  few = tt;
  once = (tt, tt, ((λ k. x_not_y k), ((λ k. nothing_among k), tt)));
  kept = none;
  known_closed = λ p k. absurd (nothing_among k);
  known_rules = λ p k. absurd (nothing_among k);
  known = λ p k. bound_name p k;
  in_turn = binding_in_turn not_in_head nothing_among used all_asked;
  typed = λ p k. (_, at_head, typed_by p k);
  held = λ letter_x k. held_by letter_x k;
}
  where
    x_y : ¬ (◌≡◌ {A = ℕ} 120 121)
    x_y = omega arith

    z_x : ¬ (◌≡◌ {A = ℕ} 122 120)
    z_x = omega arith

    z_y : ¬ (◌≡◌ {A = ℕ} 122 121)
    z_y = omega arith

    apart : {p q : Name} {qs : List Name} → ¬ (letter p ≡ letter q) → ¬ (Among p qs) → ¬ (Among p (q ∷ qs))
    apart d n at_head = absurd (d refl)
    apart d n (further k) = n k

    x_not_y : ¬ (Among letter_x (letter_y ∷ []))
    x_not_y = apart x_y nothing_among

    not_in_head : ¬ (Among letter_z (letter_x ∷ letter_y ∷ []))
    not_in_head = apart z_x (apart z_y nothing_among)

    used : (q : Name) → UsedIn q (operation Add (value_of letter_x) (value_of letter_y)) → Among q (letter_x ∷ letter_y ∷ []) ⊎ Among q []
    used q (left_used here_used) = inl at_head
    used q (right_used here_used) = inl (further at_head)

    bound_name : (p : Name) → Among p (letter_z ∷ []) → Among p (letter_x ∷ letter_y ∷ []) ⊎ Among p (letter_z ∷ [])
    bound_name p k = inr k

    typed_by : (p : Name) → Among p (letter_x ∷ letter_y ∷ []) → GivesType p (equates letter_z (operation Add (value_of letter_x) (value_of letter_y)))
    typed_by p at_head = by_value (left_used here_used)
    typed_by p (further at_head) = by_value (right_used here_used)
    typed_by p (further (further k)) = elim k [ ]

    held_by : (letter_x : ℕ) → Among letter_x (0 ∷ 1 ∷ []) → Among letter_x (0 ∷ 1 ∷ [])
    held_by letter_x k = k

-- the rules of the example are accepted
pub these_are_accepted : TheseAreAccepted
these_are_accepted = (add_accepted, double_accepted, open_accepted)
