-- The derivations of the examples.
use Rattle.std.proofs.Common.{ℕ, suc, ◌≡◌, ◌≢◌, ◌+◌, ◌^◌, ◌<ℤ◌, ℤ, Bool, true, false, cond, eqb, inl, List, [], ◌∷◌, map, refl, sym, ◌∙◌, ap, arith, pos, negsuc}
use Rattle.lmn_base.specs.declared.guard.Arith.TheVariants.{Div, Mod}
use Rattle.lmn_congruence.specs.Orders.{Among, at_head, further, here, there, Shuffle, none, more, OneByOne, no_pairs, pair_and}
use Rattle.lmn_congruence.specs.Process.{Process, nothing, connector, atom, pair, membrane, rule, Linked, Free, OneToOneOn, occurrences, together, IsCopy}
use Rattle.lmn_congruence.specs.Congruence.{swap, same, back}
use Rattle.lmn_congruence.specs.Rules.{Name, Context, open_context, closed_context, Label, named, integer, Rule, head_of, Expression, number, operation}
use Rattle.lmn_reduction.specs.Parts.{Rooted, IsGround, EqualParts, ReachesLink, the_root, across, an_integer, atoms_at_top}
use Rattle.lmn_reduction.specs.Assignments.{Assignment, NoRuleAtTop}
use Rattle.lmn_reduction.specs.Instances.{instance, of_open, of_closed, of_atom, of_connector, no_membrane, membrane_and, ContextInstance}
use Rattle.lmn_reduction.proofs.Copies.{IsRootedCopy, typed_by}
use Rattle.lmn_guards.specs.Values.{of_number, of_context, of_operation, InRange}
use Rattle.lmn_reduction.specs.Values.{Value}
use Rattle.lmn_reduction.specs.Guards.{no_condition, condition_and, binds, of_kind}
use Rattle.lmn_reduction.specs.Firing.{Fires, fires, typed_contexts}
use Rattle.lmn_reduction.specs.Steps.{Step, SettlingStep, leaf, beside as derived_beside, up_to, out, into}
use Rattle.lmn_reduction.specs.Commits.{Commit, already, step_and}
use Rattle.lmn_congruence.specs.Fused.{NoConnector}
use Rattle.lmn_reduction.specs.Examples.{label_a, label_b, label_c, label_p, int, letter_z, two_make_b, TwoMakeOne, join_in_c, LinkMeetsItself, ConnectorLeaves, LoopVanishes, QuotientsAndRemainders, add_up, SumIsBound, b_makes_c, double_rules, RulesAreCopied, least, LeastByMinusOne, NothingByZero, tie_ends, LoopIsLeft, open_both, LinkIsShared, double_part, PartIsCopied, double_rest, RestIsCopied, drop_rest, RestIsDropped, straight, turned_round, crossed, PortsAreTold, two_parts, NotGround}
use Rattle.lmn_congruence.proofs.Common.{nothing_among}
use Rattle.lmn_reduction.proofs.SettledProcesses.{no_connector_settled}
use Rattle.lmn_reduction.proofs.Derivations.{zero_not_one, linked_by, closed_by, regrouped, by_one_link}

-- a step to a process without connectors is a commit
commits : {P Q : Process} → NoConnector Q → Linked Q → Step P Q → Commit P Q
commits {Q = Q} n l s = record { between = Q; step = s; settles = record { settled = no_connector_settled Q n; towards = already (same l) } }

-- an assignment of links, one context and one rule context
abbrev assigned : (ℕ → ℕ) → Process → List Rule → Assignment
assigned f P rs = record { link_of = f; context_of = λ q. P; rules_of = λ q. rs; typed_of = λ q. record { process = atom label_a (0 ∷ []); root = 0 } }

-- one open context
abbrev one_open : {t : Assignment} {p : Name} → OneByOne (ContextInstance t) (open_context p ∷ []) (t.context_of (open_context p) ∷ [])
one_open = pair_and of_open no_pairs

-- an instance of a level of leaves has nothing else
abbrev only : Process → Process
only P = pair P (pair nothing (pair nothing (pair nothing nothing)))

-- ---- `a. a. a, a :- b.`

two_fire : Fires two_make_b (only (together (atom label_a [] ∷ atom label_a [] ∷ []))) (only (together (atom label_b [] ∷ [])))
two_fire = record {
  matches = record {
    assignment = assigned (λ n. n) nothing [];
    proper = record { links_differ = λ m n e. e; no_rule = λ q. tt; links_apart = λ q n. zero_not_one; closed = λ q x. inl refl; root_is_free = λ q. refl };
    guard = no_condition;
    head = instance (pair_and of_atom (pair_and of_atom no_pairs)) no_membrane no_pairs;
  };
  body = instance (pair_and of_atom no_pairs) no_membrane no_pairs;
}

-- two equal atoms make one of another name
pub two_make_one : TwoMakeOne
two_make_one = commits (tt, (tt, tt)) (linked_by refl) (up_to (regrouped refl (linked_by refl)) (leaf (fires two_fire) (linked_by refl) (linked_by refl)) (regrouped refl (linked_by refl)))

-- ---- `a(X), b(X). a(X), b(Y) :- c(X,Y).`

join_fires : Fires join_in_c (only (together (atom label_a (0 ∷ []) ∷ atom label_b (1 ∷ []) ∷ []))) (only (together (atom label_c (0 ∷ 1 ∷ []) ∷ [])))
join_fires = record {
  matches = record {
    assignment = assigned (λ n. n) nothing [];
    proper = record { links_differ = λ m n e. e; no_rule = λ q. tt; links_apart = λ q n. zero_not_one; closed = λ q x. inl refl; root_is_free = λ q. refl };
    guard = no_condition;
    head = instance (pair_and of_atom (pair_and of_atom no_pairs)) no_membrane no_pairs;
  };
  body = instance (pair_and of_atom no_pairs) no_membrane no_pairs;
}

-- `a(X), b(Y)` or `c(X,Y)` beside the rule, and `X=Y`
abbrev with_connector : Process → Process
with_connector P = pair (pair (only P) (rule join_in_c)) (connector 0 1)

abbrev apart : Process
apart = with_connector (together (atom label_a (0 ∷ []) ∷ atom label_b (1 ∷ []) ∷ []))

abbrev joined : Process
joined = with_connector (together (atom label_c (0 ∷ 1 ∷ []) ∷ []))

join_step : Step apart joined
join_step = derived_beside (leaf (fires join_fires) (linked_by refl) (linked_by refl)) (linked_by refl) (linked_by refl)

-- two links of a head may be one link of the process
pub link_meets_itself : LinkMeetsItself
link_meets_itself =
    commits (tt, (tt, tt)) (linked_by refl)
    (up_to (back (by_one_link (closed_by apart refl) (linked_by refl) refl refl)) join_step
    (by_one_link (closed_by joined refl) (linked_by refl) refl refl))

-- ---- `{X=Y}, a(X), b(Y)`

abbrev inside_it : Process
inside_it = membrane (pair (connector 0 1) nothing)

abbrev outside_it : Process
outside_it = pair (connector 0 1) (membrane nothing)

abbrev atoms : Process
atoms = pair (atom label_a (0 ∷ [])) (atom label_b (1 ∷ []))

goes_out : SettlingStep (pair inside_it atoms) (pair outside_it atoms)
goes_out = derived_beside (leaf (out 0 1 zero_not_one refl refl) (linked_by refl) (linked_by refl)) (linked_by refl) (linked_by refl)

-- a connector leaves a membrane
pub connector_leaves : ConnectorLeaves
connector_leaves = record {
  settled = no_connector_settled (together (atom label_a (0 ∷ []) ∷ atom label_b (0 ∷ []) ∷ membrane nothing ∷ [])) (tt, (tt, (tt, tt)));
  towards = step_and
      (up_to (regrouped refl (linked_by refl)) goes_out (swap (linked_by refl)))
      (already (by_one_link (closed_by (pair atoms outside_it) refl) (linked_by refl) refl refl));
}

-- ---- `X=Y, {X=Y}`

goes_in : SettlingStep (pair (connector 0 1) (membrane (connector 0 1))) (membrane (pair (connector 0 1) (connector 0 1)))
goes_in = leaf (into 0 1 zero_not_one refl refl) (linked_by refl) (linked_by refl)

-- a connector enters a membrane and is a loop there, which vanishes
pub loop_vanishes : LoopVanishes
loop_vanishes = record {
  settled = no_connector_settled (membrane nothing) tt;
  towards = step_and goes_in (already (by_one_link (closed_by (membrane (pair (connector 0 1) (connector 0 1))) refl) (linked_by refl) refl refl));
}

-- ---- `p(3), p(4). p($x), p($y) :- $z = $x + $y | p($z).`

abbrev seven_apart : Process
seven_apart = pair (only (together (atom label_p (2 ∷ []) ∷ atom (int 7) (2 ∷ []) ∷ []))) (rule add_up)

abbrev number_part : ℕ → Rooted
number_part n = record { process = atom (int n) (0 ∷ []); root = 0 }

abbrev first_byte : Name → ℕ
first_byte [] = 0
first_byte (k ∷ ks) = k

abbrev sums : Assignment
sums = record {
  link_of = λ n. n;
  context_of = λ q. nothing;
  rules_of = λ q. [];
  typed_of = λ q. number_part (cond (eqb (first_byte q) 120) 3 (cond (eqb (first_byte q) 121) 4 7));
}

copied : (n k : ℕ) → IsRootedCopy (number_part n) k (atom (int n) (k ∷ []))
copied n k = record { to = λ m. k; one_to_one = λ i j o o' e. only_root i j o o'; root = refl; is = refl }
  where
    only_root : (i j : ℕ) → cond (eqb i 0) 1 0 + 0 ≢ 0 → cond (eqb j 0) 1 0 + 0 ≢ 0 → i ≡ j
    only_root i j o o' = grind arith

member_of_two : {A : Type 0} {n m k : A} → n ≢ m → n ≢ k → ¬ (Among n (m ∷ k ∷ []))
member_of_two e f at_head = e refl
member_of_two e f (further at_head) = f refl
member_of_two e f (further (further m)) = nothing_among m

names_differ : (i j : ℕ) → i ≢ j → ¬ (◌≡◌ {A = Name} (i ∷ []) (j ∷ []))
names_differ i j d e = d (ap first_byte e)

z_is_bound : ¬ (Among letter_z (typed_contexts (head_of add_up)))
z_is_bound = member_of_two (names_differ 122 120 (omega arith)) (names_differ 122 121 (omega arith))

seven : InRange (pos 7)
seven = (grind arith, grind arith)

sum_fires : Fires add_up (only (together (atom label_p (0 ∷ []) ∷ atom (int 3) (0 ∷ []) ∷ atom label_p (1 ∷ []) ∷ atom (int 4) (1 ∷ []) ∷ []))) (only (together (atom label_p (2 ∷ []) ∷ atom (int 7) (2 ∷ []) ∷ [])))
sum_fires = record {
  matches = record {
    assignment = sums;
    proper = record { links_differ = λ m n e. e; no_rule = λ q. tt; links_apart = λ q n. zero_not_one; closed = λ q x. inl refl; root_is_free = λ q. refl };
    guard = condition_and (binds z_is_bound (of_operation (of_context an_integer) (of_context an_integer) tt seven) an_integer) no_condition;
    head = instance (pair_and of_atom (pair_and (typed_by (copied 3 0)) (pair_and of_atom (pair_and (typed_by (copied 4 1)) no_pairs)))) no_membrane no_pairs;
  };
  body = instance (pair_and of_atom (pair_and (typed_by (copied 7 2)) no_pairs)) no_membrane no_pairs;
}

-- a guard binds the sum of two integers
pub sum_is_bound : SumIsBound
sum_is_bound =
    commits (tt, (tt, (tt, tt))) (linked_by refl)
    (up_to (regrouped refl (linked_by refl)) (leaf (fires sum_fires) (linked_by refl) (linked_by refl)) (by_one_link (closed_by seven_apart refl) (linked_by refl) refl refl))

-- ---- `{a. b. b :- c.}. {a, $p, @r} :- {$p, @r, @r}.`

abbrev one_inside : Process → List Process → Process
one_inside P rules =
    let content : Process = pair P (pair nothing (pair (together (atom label_b [] ∷ [])) (pair (together rules) nothing))) in
    pair nothing (pair (together (membrane content ∷ [])) (pair nothing (pair nothing nothing)))

abbrev its_rules : Process
its_rules = together (rule b_makes_c ∷ [])

double_fires : Fires double_rules (one_inside (together (atom label_a [] ∷ [])) (its_rules ∷ [])) (one_inside nothing (its_rules ∷ its_rules ∷ []))
double_fires = record {
  matches = record {
    assignment = assigned (λ n. n) (atom label_b []) (b_makes_c ∷ []);
    proper = record { links_differ = λ m n e. e; no_rule = λ q. tt; links_apart = λ q n. zero_not_one; closed = λ q x. inl refl; root_is_free = λ q. refl };
    guard = no_condition;
    head = instance no_pairs (membrane_and (instance (pair_and of_atom no_pairs) no_membrane one_open) no_membrane) no_pairs;
  };
  body = instance no_pairs (membrane_and (instance no_pairs no_membrane one_open) no_membrane) no_pairs;
}

-- a rule context that stands twice in the body is copied
pub rules_are_copied : RulesAreCopied
rules_are_copied =
    commits ((tt, (tt, (tt, tt))), (tt, tt)) (linked_by refl)
    (up_to (regrouped refl (linked_by refl)) (leaf (fires double_fires) (linked_by refl) (linked_by refl)) (regrouped refl (linked_by refl)))

-- quotients go toward zero, and remainders have the sign of the left side
pub quotients_and_remainders : QuotientsAndRemainders
quotients_and_remainders = (refl, refl, refl, refl)

-- ---- missing values

too_great : (n : ℕ) → ¬ (pos n <ℤ pos n)
too_great n = grind arith

no_least_quotient : (t : Assignment) (n : ℤ) → ¬ (Value t (operation Div least (number (negsuc 0))) n)
no_least_quotient t n (of_operation of_number of_number d r) = too_great (2 ^ 63) r.1

minus_one : negsuc 0 ≢ pos 0
minus_one = grind arith

-- the least integer by -1 has no quotient, and the remainder 0
pub least_by_minus_one : LeastByMinusOne
least_by_minus_one t = (no_least_quotient t, of_operation of_number of_number minus_one (grind arith, grind arith))

no_quotient : (t : Assignment) (e : Expression) (n : ℤ) → ¬ (Value t (operation Div e (number (pos 0))) n)
no_quotient t e n (of_operation v of_number d r) = d refl

no_remainder : (t : Assignment) (e : Expression) (n : ℤ) → ¬ (Value t (operation Mod e (number (pos 0))) n)
no_remainder t e n (of_operation v of_number d r) = d refl

-- by zero there is neither
pub nothing_by_zero : NothingByZero
nothing_by_zero t e n = (no_quotient t e n, no_remainder t e n)

-- ---- `a(X,X). a(X,Y) :- X=Y.`

tie_fires : Fires tie_ends (only (together (atom label_a (0 ∷ 1 ∷ []) ∷ []))) (only (together (connector 0 1 ∷ [])))
tie_fires = record {
  matches = record {
    assignment = assigned (λ n. n) nothing [];
    proper = record { links_differ = λ m n e. e; no_rule = λ q. tt; links_apart = λ q n. zero_not_one; closed = λ q x. inl refl; root_is_free = λ q. refl };
    guard = no_condition;
    head = instance (pair_and of_atom no_pairs) no_membrane no_pairs;
  };
  body = instance (pair_and of_connector no_pairs) no_membrane no_pairs;
}

-- `a(X,Y)` or `X=Y` beside the rule, and `X=Y`
abbrev tied : Process → Process
tied P = pair (pair (only (together (P ∷ []))) (rule tie_ends)) (connector 0 1)

tie_step : Step (tied (atom label_a (0 ∷ 1 ∷ []))) (tied (connector 0 1))
tie_step = derived_beside (leaf (fires tie_fires) (linked_by refl) (linked_by refl)) (linked_by refl) (linked_by refl)

-- a connector of the body that makes a loop leaves nothing
pub loop_is_left : LoopIsLeft
loop_is_left =
    commits (tt, tt) (linked_by refl)
    (up_to (back (by_one_link (closed_by (tied (atom label_a (0 ∷ 1 ∷ []))) refl) (linked_by refl) refl refl)) tie_step
    (by_one_link (closed_by (tied (connector 0 1)) refl) (linked_by refl) refl refl))

-- ---- `{{a(X)}, b(X)}. {{$p}, $q} :- $p, $q.`

abbrev shared_context : Context → Process
shared_context (open_context q) = cond (eqb (first_byte q) 112) (atom label_a (0 ∷ [])) (cond (eqb (first_byte q) 113) (atom label_b (0 ∷ [])) nothing)
shared_context (closed_context q) = nothing

shared : Assignment
shared = record {
  link_of = λ n. suc n;
  context_of = shared_context;
  rules_of = λ q. [];
  typed_of = λ q. record { process = atom label_a (0 ∷ []); root = 0 };
}

open_fires : Fires open_both
    (pair nothing (pair (together (membrane (pair nothing (pair (together (membrane (pair nothing (pair nothing (pair (together (atom label_a (0 ∷ []) ∷ [])) (pair nothing nothing)))) ∷ [])) (pair (together (atom label_b (0 ∷ []) ∷ [])) (pair nothing nothing)))) ∷ [])) (pair nothing (pair nothing nothing))))
    (pair nothing (pair nothing (pair (together (atom label_a (0 ∷ []) ∷ atom label_b (0 ∷ []) ∷ [])) (pair nothing nothing))))
unfolding shared
open_fires = record {
  matches = record {
    assignment = shared;
    proper = record { links_differ = λ m n e. omega (arith, e); no_rule = no_rule_at; links_apart = λ q n. not_free (eqb (first_byte q) 112) (eqb (first_byte q) 113) n; closed = λ q x. inl refl; root_is_free = λ q. refl };
    guard = no_condition;
    head = instance no_pairs (membrane_and (instance no_pairs (membrane_and (instance no_pairs no_membrane one_open) no_membrane) one_open) no_membrane) no_pairs;
  };
  body = instance no_pairs no_membrane (pair_and of_open one_open);
}
  where
    no_rule_in : (i j : Bool) → NoRuleAtTop (cond i (atom label_a (0 ∷ [])) (cond j (atom label_b (0 ∷ [])) nothing))
    no_rule_in true j = tt
    no_rule_in false true = tt
    no_rule_in false false = tt

    no_rule_at : (q : Context) → NoRuleAtTop (shared_context q)
    no_rule_at (open_context q) = no_rule_in (eqb (first_byte q) 112) (eqb (first_byte q) 113)
    no_rule_at (closed_context q) = tt

    not_free : (i j : Bool) (n : ℕ) → ¬ (Free (suc n) (cond i (atom label_a (0 ∷ [])) (cond j (atom label_b (0 ∷ [])) nothing)))
    not_free true j n e = grind (arith, e)
    not_free false true n e = grind (arith, e)
    not_free false false n e = zero_not_one e

-- two contexts may share a link
pub link_is_shared : LinkIsShared
link_is_shared =
    commits (tt, (tt, (tt, tt))) (linked_by refl)
    (up_to (regrouped refl (linked_by refl)) (leaf (fires open_fires) (linked_by refl) (linked_by refl)) (regrouped refl (linked_by refl)))

-- ---- `a(X), b(X,Y,Y). a($x) :- ground($x) | a($x,$x).`

-- `b(X,Y,Y)` from the link X on
abbrev pub looped : Rooted
looped = record { process = atom label_b (0 ∷ 9 ∷ 9 ∷ []); root = 0 }

-- the example is ground
pub looped_ground : IsGround looped
looped_ground = record { only_atoms = tt; root_is_free = refl; nothing_else_free = once; connected = joined_to }
  where
    once : (x : ℕ) → Free x looped.process → x ≡ 0
    once x h = grind (arith, h)

    joined_to : {l : Label} {xs : List ℕ} → Among {A = Label × List ℕ} (l, xs) ((label_b, 0 ∷ 9 ∷ 9 ∷ []) ∷ []) → (x : ℕ) × (Among x xs) × ReachesLink looped x
    joined_to at_head = (0, at_head, the_root)
    joined_to (further m) = elim m [ ]

looped_copy : (x y : ℕ) → x ≢ y → IsRootedCopy looped x (atom label_b (x ∷ y ∷ y ∷ []))
looped_copy x y d = record { to = λ n. cond (eqb n 0) x y; one_to_one = differ; root = refl; is = refl }
  where
    differ : OneToOneOn (λ n. cond (eqb n 0) x y) looped.process
    differ i j o label_p e = grind (arith, o, label_p, e, d)

double_part_fires : Fires double_part (only (together (atom label_a (0 ∷ []) ∷ atom label_b (0 ∷ 1 ∷ 1 ∷ []) ∷ []))) (only (together (atom label_a (1 ∷ 2 ∷ []) ∷ atom label_b (1 ∷ 3 ∷ 3 ∷ []) ∷ atom label_b (2 ∷ 4 ∷ 4 ∷ []) ∷ [])))
double_part_fires = record {
  matches = record {
    assignment = record { link_of = λ n. n; context_of = λ q. nothing; rules_of = λ q. []; typed_of = λ q. looped };
    proper = record { links_differ = λ m n e. e; no_rule = λ q. tt; links_apart = λ q n. zero_not_one; closed = λ q x. inl refl; root_is_free = λ q. refl };
    guard = condition_and (of_kind looped_ground) no_condition;
    head = instance (pair_and of_atom (pair_and (typed_by (looped_copy 0 1 (omega arith))) no_pairs)) no_membrane no_pairs;
  };
  body = instance (pair_and of_atom (pair_and (typed_by (looped_copy 1 3 (omega arith))) (pair_and (typed_by (looped_copy 2 4 (omega arith))) no_pairs))) no_membrane no_pairs;
}

-- the copies of a ground part have links of their own
pub part_is_copied : PartIsCopied
part_is_copied =
    commits (tt, (tt, (tt, (tt, tt)))) (linked_by refl)
    (up_to (regrouped refl (linked_by refl)) (leaf (fires double_part_fires) (linked_by refl) (linked_by refl)) (regrouped refl (linked_by refl)))

-- ---- `c. {a(X), b(X)}. c, {$p[]} :- {$p[]}, {$p[]}.`

-- `a(X), b(X)`
abbrev joined_pair : ℕ → Process
joined_pair x = together (atom label_a (x ∷ []) ∷ atom label_b (x ∷ []) ∷ [])

abbrev rest_context : Context → Process
rest_context (open_context q) = nothing
rest_context (closed_context q) = joined_pair 0

abbrev rest_assignment : Assignment
rest_assignment = record { link_of = λ n. n; context_of = rest_context; rules_of = λ q. []; typed_of = λ q. record { process = atom label_a (0 ∷ []); root = 0 } }

rest_no_rule : (q : Context) → NoRuleAtTop (rest_context q)
rest_no_rule (open_context q) = tt
rest_no_rule (closed_context q) = (tt, (tt, tt))

-- a copy of the pair with another link
pair_copy : (x : ℕ) → IsCopy (joined_pair 0) (joined_pair x)
pair_copy x = record { to = λ n. x; one_to_one = λ i j o o' e. only_link i j o o'; is = refl }
  where
    only_link : (i j : ℕ) → occurrences i (joined_pair 0) ≢ 0 → occurrences j (joined_pair 0) ≢ 0 → i ≡ j
    only_link i j o o' = grind (arith, o, o')

abbrev rest_at : ℕ → Process
rest_at x = pair nothing (pair nothing (pair (together (joined_pair x ∷ [])) (pair nothing nothing)))

abbrev side_by_side : Process → List Process → Process
side_by_side P Ps = pair P (pair (together Ps) (pair nothing (pair nothing nothing)))

double_rest_fires : Fires double_rest (side_by_side (together (atom label_c [] ∷ [])) (membrane (rest_at 0) ∷ [])) (side_by_side nothing (membrane (rest_at 0) ∷ membrane (rest_at 1) ∷ []))
double_rest_fires = record {
  matches = record {
    assignment = rest_assignment;
    proper = record { links_differ = λ m n e. e; no_rule = rest_no_rule; links_apart = λ q n. zero_not_one; closed = λ q. closed_by (joined_pair 0) refl; root_is_free = λ q. refl };
    guard = no_condition;
    head = instance (pair_and of_atom no_pairs) (membrane_and (instance no_pairs no_membrane (pair_and (of_closed (pair_copy 0)) no_pairs)) no_membrane) no_pairs;
  };
  body = instance no_pairs (membrane_and (instance no_pairs no_membrane (pair_and (of_closed (pair_copy 0)) no_pairs))
      (membrane_and (instance no_pairs no_membrane (pair_and (of_closed (pair_copy 1)) no_pairs)) no_membrane)) no_pairs;
}

-- the copies of the rest of a membrane have links of their own
pub rest_is_copied : RestIsCopied
rest_is_copied =
    commits ((tt, (tt, tt)), ((tt, (tt, tt)), (tt, tt))) (linked_by refl)
    (up_to (regrouped refl (linked_by refl)) (leaf (fires double_rest_fires) (linked_by refl) (linked_by refl)) (regrouped refl (linked_by refl)))

drop_rest_fires : Fires drop_rest (side_by_side nothing (membrane (rest_at 0) ∷ [])) (only (together (atom label_c [] ∷ [])))
drop_rest_fires = record {
  matches = record {
    assignment = rest_assignment;
    proper = record { links_differ = λ m n e. e; no_rule = rest_no_rule; links_apart = λ q n. zero_not_one; closed = λ q. closed_by (joined_pair 0) refl; root_is_free = λ q. refl };
    guard = no_condition;
    head = instance no_pairs (membrane_and (instance no_pairs no_membrane (pair_and (of_closed (pair_copy 0)) no_pairs)) no_membrane) no_pairs;
  };
  body = instance (pair_and of_atom no_pairs) no_membrane no_pairs;
}

-- and the rest that isn't copied is gone
pub rest_is_dropped : RestIsDropped
rest_is_dropped =
    commits (tt, (tt, tt)) (linked_by refl)
    (up_to (regrouped refl (linked_by refl)) (leaf (fires drop_rest_fires) (linked_by refl) (linked_by refl)) (regrouped refl (linked_by refl)))

-- ---- rooted graphs

abbrev labelled : Label → List ℕ → Label × List ℕ
labelled l xs = (l, xs)

letter : Label → ℕ
letter (named (n ∷ ns)) = n
letter (named []) = 0
letter (integer letter_z) = 0

a_not_b : label_a ≢ label_b
unfolding letter
a_not_b e = 97_not_98 (ap letter e)
  where
    97_not_98 : ◌≢◌ {A = ℕ} 97 98
    97_not_98 = omega arith

same_links : (l m : Label) (xs ys : List ℕ) → labelled l xs ≡ labelled m ys → xs ≡ ys
same_links l m xs ys e = ap (λ t. t.1) e

same_label : (l m : Label) (xs ys : List ℕ) → labelled l xs ≡ labelled m ys → l ≡ m
same_label l m xs ys e = ap (λ t. t.0) e

straight_ground : IsGround straight
straight_ground = record { only_atoms = (tt, tt); root_is_free = refl; nothing_else_free = root_alone; connected = joined_to }
  where
    root_alone : (x : ℕ) → Free x straight.process → x ≡ 0
    root_alone x h = grind (arith, h)

    joined_to : {l : Label} {xs : List ℕ} → Among (labelled l xs) (atoms_at_top straight.process) → (x : ℕ) × (Among x xs) × ReachesLink straight x
    joined_to at_head = (0, at_head, the_root)
    joined_to (further at_head) = (1, at_head, across at_head at_head (further at_head) the_root)
    joined_to (further (further m)) = elim m [ ]

straight_is_turned : EqualParts straight turned_round
straight_is_turned = record { to = λ n. cond (eqb n 0) 0 (3 + n); one_to_one = differ; roots = refl; atoms = more refl (more refl none here) (there here) }
  where
    differ : OneToOneOn (λ n. cond (eqb n 0) 0 (3 + n)) straight.process
    differ i j o label_p e = grind (arith, e)

straight_not_crossed : ¬ (EqualParts straight crossed)
straight_not_crossed s = go s.to s.atoms
  where
    heads : {A : Type 0} {x y : A} {xs ys : List A} → x ∷ xs ≡ y ∷ ys → x ≡ y
    heads e = cc e

    tails : {A : Type 0} {x y : A} {xs ys : List A} → x ∷ xs ≡ y ∷ ys → xs ≡ ys
    tails e = cc e

    one_not_two : ◌≢◌ {A = ℕ} 1 2
    one_not_two e = cc e

    go : (to : ℕ → ℕ) → Shuffle (λ s t. labelled s.0 (map to s.1) ≡ t) (atoms_at_top straight.process) (atoms_at_top crossed.process) → ⊥
    go to (more e (more d none here) here) =
        one_not_two (sym (heads (tails (same_links label_a label_a (to 0 ∷ to 1 ∷ to 2 ∷ []) (0 ∷ 1 ∷ 2 ∷ []) e))) ∙ heads (same_links label_b label_b (to 1 ∷ to 2 ∷ []) (2 ∷ 1 ∷ []) d))
    go to (more e (more d none here) (there here)) = a_not_b (same_label label_a label_b (to 0 ∷ to 1 ∷ to 2 ∷ []) (2 ∷ 1 ∷ []) e)

-- parts that join other ports aren't equal
pub ports_are_told : PortsAreTold
ports_are_told = (straight_ground, straight_is_turned, straight_not_crossed)

-- a part with a free link that isn't its root isn't ground, nor one that isn't all reached
pub not_ground : NotGround
not_ground = (
  (λ g. two_not_zero (g.nothing_else_free 2 refl)),
  (λ g. let u = g.connected (further at_head) in not_reached u.2 (of_loop u.1)),
)
  where
    two_not_zero : ◌≢◌ {A = ℕ} 2 0
    two_not_zero = omega arith

    one_not_zero : ◌≢◌ {A = ℕ} 1 0
    one_not_zero = omega arith

    of_loop : {x : ℕ} → Among x (1 ∷ 1 ∷ []) → x ≡ 1
    of_loop at_head = refl
    of_loop (further at_head) = refl
    of_loop (further (further m)) = elim m [ ]

    root_atom : {x : ℕ} → Among x (0 ∷ []) → x ≡ 0
    root_atom at_head = refl
    root_atom (further m) = elim m [ ]

    -- from the root nothing but the root is reached
    not_reached : {x : ℕ} → ReachesLink two_parts x → ¬ (x ≡ 1)
    not_reached the_root e = one_not_zero (sym e)
    not_reached (across at_head i j r) e = one_not_zero (sym e ∙ root_atom j)
    not_reached (across (further at_head) i j r) e = not_reached r (of_loop i)
    not_reached (across (further (further m)) i j r) e = elim m [ ]
