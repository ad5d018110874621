-- What the laws ask of rules follows from their acceptance.
use Rattle.std.proofs.Common.{ℕ, ℤ, List, arith, ◌≡◌, ◌+◌, [], ◌∷◌}
use Rattle.lmn_congruence.specs.Links.{one_if_same}
use Rattle.lmn_congruence.specs.Orders.{Among, at_head, further}
use Rattle.lmn_congruence.specs.Process.{atom}
use Rattle.lmn_congruence.specs.Rules.{Condition, Expression, Kind, Label, Leaf, Level, Levels, Name, Rule, atom_leaf, connector_leaf, grounded, guard_of, head_of, int, integer, level, level_and, no_level, no_rule, typed_leaf, unary}
use Rattle.lmn_reduction.specs.Assignments.{Assignment}
use Rattle.lmn_reduction.specs.Firing.{typed_contexts, typed_contexts_in, typed_leaves}
use Rattle.lmn_reduction.specs.Guards.{GuardHolds, Holds, IsOfKind, alike, binds, condition_and, in_order, of_kind, unlike}
use Rattle.lmn_reduction.specs.Parts.{IsGround, IsInteger, IsUnary, ReachesLink, Rooted, an_integer, one_atom, the_root}
use Rattle.lmn_guards.specs.Values.{of_context, of_operation}
use Rattle.lmn_reduction.specs.Values.{Value}
use Rattle.lmn_adequacy.specs.Accepted.{Accepted, EachLevel, EachOf, GivesType, NoConnectorLeaf, UsedIn, by_difference_left, by_difference_right, by_equality, by_kind, by_left, by_right, by_value, here_used, own_leaves, left_used, own_membranes, own_contexts, own_rule_contexts, own_rules, right_used}
use Rattle.lmn_adequacy.proofs.Heads.{Bare, HeadAllowed, HeadLeaves, HeadLevel, HeadLevels}
use Rattle.lmn_congruence.proofs.Common.{among_left, among_right}

-- ---- a context whose type the guard gives stands for a ground process

abbrev atom_at : Label → ℕ → Rooted
atom_at a x = record { process = atom a (x ∷ []); root = x }

one_atom_ground : (a : Label) (x : ℕ) → IsGround (atom_at a x)
one_atom_ground a x = record {
  only_atoms = tt;
  root_is_free = once x;
  nothing_else_free = λ y f. same_link y x f;
  connected = λ k. at_it k;
}
  where
    once : (x : ℕ) → one_if_same x x + 0 ≡ 1
    once x = grind arith

    same_link : (y x : ℕ) → one_if_same y x + 0 ≡ 1 → y ≡ x
    same_link y x f = grind arith

    at_it : {b : Label} {xs : List ℕ} → Among {A = Label × List ℕ} (b, xs) ((a, x ∷ []) ∷ []) → (y : ℕ) × (Among y xs) × ReachesLink (atom_at a x) y
    at_it at_head = (x, at_head, the_root)
    at_it (further k) = elim k [ ]

-- what is an integer is ground
pub integer_ground : (n : ℤ) (g : Rooted) → IsInteger n g → IsGround g
integer_ground n g (an_integer {x = x}) = one_atom_ground (integer n) x

unary_ground : (g : Rooted) → IsUnary g → IsGround g
unary_ground g (one_atom {a = a} {x = x}) = one_atom_ground a x

kind_ground : (k : Kind) (g : Rooted) → IsOfKind k g → IsGround g
kind_ground int g i = integer_ground i.0 g i.1
kind_ground unary g i = unary_ground g i
kind_ground grounded g i = i

value_ground : (t : Assignment) {p : Name} {e : Expression} {n : ℤ} → UsedIn p e → Value t e n → IsGround (t.typed_of p)
value_ground t {p} here_used (of_context {n = n} i) = integer_ground n (t.typed_of p) i
value_ground t (left_used u) (of_operation v w d r) = value_ground t u v
value_ground t (right_used u) (of_operation v w d r) = value_ground t u w

type_ground : (heads : List Name) (t : Assignment) {p : Name} {c : Condition} → Among p heads → GivesType p c → Holds heads t c → IsGround (t.typed_of p)
type_ground heads t {p} a by_kind (of_kind {k = k} i) = kind_ground k (t.typed_of p) i
type_ground heads t a (by_left u) (in_order v w s) = value_ground t u v
type_ground heads t a (by_right u) (in_order v w s) = value_ground t u w
type_ground heads t a (by_value u) (binds n v i) = value_ground t u v
type_ground heads t a (by_value here_used) (alike h h' g g' s) = g'
type_ground heads t a by_equality (binds n v i) = absurd (n a)
type_ground heads t a by_equality (alike h h' g g' s) = g
type_ground heads t a by_difference_left (unlike h h' g g' s) = g
type_ground heads t a by_difference_right (unlike h h' g g' s) = g'

-- where a guard holds each of its conditions does
pub condition_there : (heads : List Name) (t : Assignment) {c : Condition} {cs : List Condition} → Among c cs → GuardHolds heads t cs → Holds heads t c
condition_there heads t at_head (condition_and h k) = h
condition_there heads t (further a) (condition_and h k) = condition_there heads t a k

-- where the guard of an accepted rule holds each typed context of its head stands for a ground part
pub typed_ground : {r : Rule} → Accepted r → (t : Assignment) → GuardHolds (typed_contexts (head_of r)) t (guard_of r) → (p : Name) → Among p (typed_contexts (head_of r)) → IsGround (t.typed_of p)
typed_ground {r} a t g p k = let c = a.typed p k in type_ground (typed_contexts (head_of r)) t k c.2 (condition_there (typed_contexts (head_of r)) t c.1 g)

-- ---- heads

head_leaves : (t : Assignment) (ls : List Leaf) → NoConnectorLeaf ls → ((p : Name) → Among p (typed_leaves ls) → IsGround (t.typed_of p)) → HeadLeaves t ls
head_leaves t [] n g = tt
head_leaves t (atom_leaf a xs ∷ ls) n g = head_leaves t ls n g
head_leaves t (connector_leaf x y ∷ ls) n g = n
head_leaves t (typed_leaf p x ∷ ls) n g = (g p at_head, head_leaves t ls n (λ q a. g q (further a)))

mutual
  head_level : (t : Assignment) (l : Level) → EachLevel (λ l. NoConnectorLeaf (own_leaves l)) l → ((p : Name) → Among p (typed_contexts l) → IsGround (t.typed_of p)) → HeadLevel t l
  head_level t (level leaves membranes contexts rule_contexts rules) n g =
      (head_leaves t leaves n.0 (λ p a. g p (among_left (typed_contexts_in membranes) a)), head_levels t membranes n.1 (λ p a. g p (among_right (typed_leaves leaves) a)))

  head_levels : (t : Assignment) (ls : Levels) → EachOf (λ l. NoConnectorLeaf (own_leaves l)) ls → ((p : Name) → Among p (typed_contexts_in ls) → IsGround (t.typed_of p)) → HeadLevels t ls
  head_levels t no_level n g = tt
  head_levels t (level_and l ls) n g = (head_level t l n.0 (λ p a. g p (among_left (typed_contexts_in ls) a)), head_levels t ls n.1 (λ p a. g p (among_right (typed_contexts l) a)))

-- an accepted rule has a head that is allowed
pub accepted_head : (r : Rule) → Accepted r → HeadAllowed r
accepted_head r a = (a.once.0, λ t g. head_level t (head_of r) a.no_connectors (λ p k. typed_ground a t g p k))

bare_level : (l : Level) → own_contexts l ≡ [] → own_rule_contexts l ≡ [] → own_rules l ≡ no_rule → l ≡ level (own_leaves l) (own_membranes l) [] [] no_rule
bare_level (level leaves membranes contexts rule_contexts rules) c d e = cc (c, d, e)

first_rules : (l : Level) → EachLevel (λ l. own_rules l ≡ no_rule) l → own_rules l ≡ no_rule
first_rules (level leaves membranes contexts rule_contexts rules) e = e.0

-- an accepted rule has no context and no rule at the top of its head
pub accepted_bare : (r : Rule) → Accepted r → Bare r
accepted_bare r a = record {
  leaves = own_leaves (head_of r);
  membranes = own_membranes (head_of r);
  is = bare_level (head_of r) a.top_contexts a.top_rule_contexts (first_rules (head_of r) a.no_rules);
}
