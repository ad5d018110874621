-- Small texts as processes, and what they do.
use Rattle.std.specs.Prelude.{ℕ, ℤ, ◌≡◌, ◌-◌, ◌^◌, pos, negsuc, [], ◌∷◌}
use Rattle.lmn_base.specs.declared.guard.Arith.TheVariants.{Add, Div, Mod}
use Rattle.lmn_congruence.specs.Rules.{Name, Context, open_context, closed_context, Label, named, integer, atom_leaf, connector_leaf, typed_leaf, Level, level, no_level, level_and, Rule, rule_of, no_rule, Expression, number, operation, value_of, equates, is_kind, grounded, only_leaves}
use Rattle.lmn_congruence.specs.Process.{nothing, connector, atom, pair, membrane, rule, together}
use Rattle.lmn_reduction.specs.Assignments.{Assignment}
use Rattle.lmn_guards.specs.Values.{computed}
use Rattle.lmn_reduction.specs.Values.{Value}
use Rattle.lmn_reduction.specs.Parts.{Rooted, IsGround, EqualParts}
use Rattle.lmn_reduction.specs.Commits.{Settles, Commit, Irreducible}

abbrev pub label_a : Label
label_a = named (97 ∷ [])

abbrev pub label_b : Label
label_b = named (98 ∷ [])

abbrev pub label_c : Label
label_c = named (99 ∷ [])

abbrev pub label_p : Label
label_p = named (112 ∷ [])

-- an integer that isn't negative
abbrev pub int : ℕ → Label
int n = integer (pos n)

-- a level of one membrane
abbrev pub one_membrane_level : Level → Level
one_membrane_level l = level [] (level_and l no_level) [] [] no_rule

-- `a, a :- b`
abbrev pub two_make_b : Rule
two_make_b = rule_of (only_leaves (atom_leaf label_a [] ∷ atom_leaf label_a [] ∷ [])) [] (only_leaves (atom_leaf label_b [] ∷ []))

-- `a. a. a, a :- b.` commits to `b. a, a :- b.`
abbrev pub TwoMakeOne : Type 0
TwoMakeOne =
    Commit (together (atom label_a [] ∷ atom label_a [] ∷ rule two_make_b ∷ []))
    (together (atom label_b [] ∷ rule two_make_b ∷ []))

-- `a(X), b(Y) :- c(X,Y)`
abbrev pub join_in_c : Rule
join_in_c = rule_of
    (only_leaves (atom_leaf label_a (0 ∷ []) ∷ atom_leaf label_b (1 ∷ []) ∷ [])) []
    (only_leaves (atom_leaf label_c (0 ∷ 1 ∷ []) ∷ []))

-- Two links of the head may be one link of the process, by a connector between them:
-- `a(X), b(X). a(X), b(Y) :- c(X,Y).` commits to `c(X,X). a(X), b(Y) :- c(X,Y).`
abbrev pub LinkMeetsItself : Type 0
LinkMeetsItself =
    Commit (together (atom label_a (0 ∷ []) ∷ atom label_b (0 ∷ []) ∷ rule join_in_c ∷ []))
    (together (atom label_c (0 ∷ 0 ∷ []) ∷ rule join_in_c ∷ []))

-- A connector leaves a membrane: `{X=Y}, a(X), b(Y)` settles to `a(X), b(X), {}`
abbrev pub ConnectorLeaves : Type 0
ConnectorLeaves =
    Settles (together (membrane (connector 0 1) ∷ atom label_a (0 ∷ []) ∷ atom label_b (1 ∷ []) ∷ []))
    (together (atom label_a (0 ∷ []) ∷ atom label_b (0 ∷ []) ∷ membrane nothing ∷ []))

-- A connector enters a membrane, and a loop vanishes: `X=Y, {X=Y}` settles to `{}`
abbrev pub LoopVanishes : Type 0
LoopVanishes = Settles (pair (connector 0 1) (membrane (connector 0 1))) (membrane nothing)

-- `{a(X), b(Y)} :- c(X,Y)`
abbrev pub join_from_membrane : Rule
join_from_membrane = rule_of
    (one_membrane_level (only_leaves (atom_leaf label_a (0 ∷ []) ∷ atom_leaf label_b (1 ∷ []) ∷ []))) []
    (only_leaves (atom_leaf label_c (0 ∷ 1 ∷ []) ∷ []))

-- But a link that stays inside a membrane doesn't match two that leave it: nothing can happen in
-- `{a(X), b(X)}. {a(X), b(Y)} :- c(X,Y).`, from no congruent process
abbrev pub InnerLinkStays : Type 0
InnerLinkStays =
    Irreducible
    (together (membrane (together (atom label_a (0 ∷ []) ∷ atom label_b (0 ∷ []) ∷ [])) ∷ rule join_from_membrane ∷ []))

-- the names of three typed contexts, by their bytes
abbrev pub letter_x : Name
letter_x = 120 ∷ []

abbrev pub letter_y : Name
letter_y = 121 ∷ []

abbrev pub letter_z : Name
letter_z = 122 ∷ []

-- `p($x), p($y) :- $z = $x + $y | p($z)`
abbrev pub add_up : Rule
add_up = rule_of
    (only_leaves (atom_leaf label_p (0 ∷ []) ∷ typed_leaf letter_x 0 ∷ atom_leaf label_p (1 ∷ []) ∷ typed_leaf letter_y 1 ∷ []))
    (equates letter_z (operation Add (value_of letter_x) (value_of letter_y)) ∷ [])
    (only_leaves (atom_leaf label_p (2 ∷ []) ∷ typed_leaf letter_z 2 ∷ []))

-- `p(3), p(4).` beside this rule commits to `p(7).` beside it
abbrev pub SumIsBound : Type 0
SumIsBound =
    Commit
    (together (atom label_p (0 ∷ []) ∷ atom (int 3) (0 ∷ []) ∷ atom label_p (1 ∷ []) ∷ atom (int 4) (1 ∷ []) ∷
    rule add_up ∷ []))
    (together (atom label_p (0 ∷ []) ∷ atom (int 7) (0 ∷ []) ∷ rule add_up ∷ []))

-- `/` goes toward zero, and `mod` has the sign of its left side
-- (`negsuc n` is -1 - n)
abbrev pub QuotientsAndRemainders : Type 0
QuotientsAndRemainders =
    (computed Div (negsuc 6) (pos 2) ≡ negsuc 2) × (computed Div (pos 7) (negsuc 1) ≡ negsuc 2)
    × (computed Mod (negsuc 6) (pos 2) ≡ negsuc 0) × (computed Mod (pos 7) (negsuc 1) ≡ pos 1)

-- -2^63
abbrev pub least : Expression
least = number (negsuc (2 ^ 63 - 1))

-- `-2^63 / -1` has no value, since it would be 2^63, and `-2^63 mod -1` is 0
abbrev pub LeastByMinusOne : Type 0
LeastByMinusOne = (t : Assignment) →
    ((n : ℤ) → ¬ (Value t (operation Div least (number (negsuc 0))) n))
    × Value t (operation Mod least (number (negsuc 0))) (pos 0)

-- by zero there is no quotient and no remainder
abbrev pub NothingByZero : Type 0
NothingByZero = (t : Assignment) (e : Expression) (n : ℤ) →
    (¬ (Value t (operation Div e (number (pos 0))) n))
    × (¬ (Value t (operation Mod e (number (pos 0))) n))

-- `a(X,Y) :- X=Y`
abbrev pub tie_ends : Rule
tie_ends = rule_of
    (only_leaves (atom_leaf label_a (0 ∷ 1 ∷ []) ∷ [])) []
    (only_leaves (connector_leaf 0 1 ∷ []))

-- The two links of the head are one link of the process, and the body's connector makes it a loop, which
-- vanishes: `a(X,X).` beside this rule commits to the rule alone
abbrev pub LoopIsLeft : Type 0
LoopIsLeft = Commit (together (atom label_a (0 ∷ 0 ∷ []) ∷ rule tie_ends ∷ [])) (together (rule tie_ends ∷ []))

-- `b :- c`, and `{a, $p, @r} :- {$p, @r, @r}`
abbrev pub b_makes_c : Rule
b_makes_c = rule_of (only_leaves (atom_leaf label_b [] ∷ [])) [] (only_leaves (atom_leaf label_c [] ∷ []))

abbrev pub double_rules : Rule
double_rules =
    let rest : Context = open_context (112 ∷ []) in
    let rules : Name = 114 ∷ [] in
    rule_of (one_membrane_level (level (atom_leaf label_a [] ∷ []) no_level (rest ∷ []) (rules ∷ []) no_rule)) []
    (one_membrane_level (level [] no_level (rest ∷ []) (rules ∷ rules ∷ []) no_rule))

-- `{a. b. b :- c.}.` beside this rule commits to `{b. b :- c. b :- c.}.` beside it
abbrev pub RulesAreCopied : Type 0
RulesAreCopied =
    Commit
    (together (membrane (together (atom label_a [] ∷ atom label_b [] ∷ rule b_makes_c ∷ [])) ∷ rule double_rules ∷ []))
    (together (membrane (together (atom label_b [] ∷ rule b_makes_c ∷ rule b_makes_c ∷ [])) ∷ rule double_rules ∷ []))

-- `{{$p}, $q} :- $p, $q`
abbrev pub open_both : Rule
open_both =
    let label_p : Context = open_context (112 ∷ []) in
    let q : Context = open_context (113 ∷ []) in
    rule_of (one_membrane_level (level [] (level_and (level [] no_level (label_p ∷ []) [] no_rule) no_level) (q ∷ []) [] no_rule)) []
    (level [] no_level (label_p ∷ q ∷ []) [] no_rule)

-- Two contexts may share a link: `{{a(X)}, b(X)}.` beside this rule commits to `a(X). b(X).` beside it
abbrev pub LinkIsShared : Type 0
LinkIsShared =
    Commit
    (together (membrane (together (membrane (atom label_a (0 ∷ [])) ∷ atom label_b (0 ∷ []) ∷ [])) ∷ rule open_both ∷ []))
    (together (atom label_a (0 ∷ []) ∷ atom label_b (0 ∷ []) ∷ rule open_both ∷ []))

-- `c, {$p[]} :- {$p[]}, {$p[]}`
abbrev pub double_rest : Rule
double_rest =
    let rest : Level = level [] no_level (closed_context (112 ∷ []) ∷ []) [] no_rule in
    rule_of (level (atom_leaf label_c [] ∷ []) (level_and rest no_level) [] [] no_rule) [] (level [] (level_and rest (level_and rest no_level)) [] [] no_rule)

-- The copies of the rest have new links, each its own: `c. {a(X), b(X)}.` beside this rule commits to
-- `{a(X), b(X)}. {a(Y), b(Y)}.` beside it
abbrev pub RestIsCopied : Type 0
RestIsCopied =
    Commit
    (together (atom label_c [] ∷ membrane (together (atom label_a (0 ∷ []) ∷ atom label_b (0 ∷ []) ∷ [])) ∷ rule double_rest ∷ []))
    (together (membrane (together (atom label_a (0 ∷ []) ∷ atom label_b (0 ∷ []) ∷ [])) ∷
    membrane (together (atom label_a (1 ∷ []) ∷ atom label_b (1 ∷ []) ∷ [])) ∷ rule double_rest ∷ []))

-- `{$p[]} :- c`
abbrev pub drop_rest : Rule
drop_rest = rule_of (one_membrane_level (level [] no_level (closed_context (112 ∷ []) ∷ []) [] no_rule)) [] (only_leaves (atom_leaf label_c [] ∷ []))

-- A rest that doesn't stand in the body is dropped: `{a(X), b(X)}.` beside this rule commits to `c.` beside it
abbrev pub RestIsDropped : Type 0
RestIsDropped =
    Commit
    (together (membrane (together (atom label_a (0 ∷ []) ∷ atom label_b (0 ∷ []) ∷ [])) ∷ rule drop_rest ∷ []))
    (together (atom label_c [] ∷ rule drop_rest ∷ []))

-- `a($x) :- ground($x) | a($x,$x)`
abbrev pub double_part : Rule
double_part = rule_of
    (only_leaves (atom_leaf label_a (0 ∷ []) ∷ typed_leaf letter_x 0 ∷ []))
    (is_kind grounded letter_x ∷ [])
    (only_leaves (atom_leaf label_a (1 ∷ 2 ∷ []) ∷ typed_leaf letter_x 1 ∷ typed_leaf letter_x 2 ∷ []))

-- The copies of a ground part have new links, each its own: `a(X), b(X,Y,Y).` beside this rule commits to
-- `a(X,Z), b(X,Y,Y), b(Z,W,W).` beside it
abbrev pub PartIsCopied : Type 0
PartIsCopied =
    Commit
    (together (atom label_a (0 ∷ []) ∷ atom label_b (0 ∷ 1 ∷ 1 ∷ []) ∷ rule double_part ∷ []))
    (together (atom label_a (1 ∷ 2 ∷ []) ∷ atom label_b (1 ∷ 3 ∷ 3 ∷ []) ∷ atom label_b (2 ∷ 4 ∷ 4 ∷ []) ∷ rule double_part ∷ []))

-- `a(R,X,Y), b(X,Y)`, `b(Z,W), a(R,Z,W)` and `a(R,X,Y), b(Y,X)`, each from the link R on
abbrev pub straight : Rooted
straight = record { process = pair (atom label_a (0 ∷ 1 ∷ 2 ∷ [])) (atom label_b (1 ∷ 2 ∷ [])); root = 0 }

abbrev pub turned_round : Rooted
turned_round = record { process = pair (atom label_b (4 ∷ 5 ∷ [])) (atom label_a (0 ∷ 4 ∷ 5 ∷ [])); root = 0 }

abbrev pub crossed : Rooted
crossed = record { process = pair (atom label_a (0 ∷ 1 ∷ 2 ∷ [])) (atom label_b (2 ∷ 1 ∷ [])); root = 0 }

-- The first is a ground part. It is the second as a rooted graph, and not the third, which joins other ports.
abbrev pub PortsAreTold : Type 0
PortsAreTold = IsGround straight × EqualParts straight turned_round × (¬ (EqualParts straight crossed))

-- `a(R,X,Y), b(X)` isn't ground: its link Y is free, and isn't the root
abbrev pub open_part : Rooted
open_part = record { process = pair (atom label_a (0 ∷ 1 ∷ 2 ∷ [])) (atom label_b (1 ∷ [])); root = 0 }

-- `a(R), b(X,X)` isn't ground: `label_b` isn't reached from the root
abbrev pub two_parts : Rooted
two_parts = record { process = pair (atom label_a (0 ∷ [])) (atom label_b (1 ∷ 1 ∷ [])); root = 0 }

abbrev pub NotGround : Type 0
NotGround = (¬ (IsGround open_part)) × (¬ (IsGround two_parts))
