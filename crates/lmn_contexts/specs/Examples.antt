-- Rules of small texts, and where the rows of the table of refusals apply to them.
use Rattle.std.specs.Prelude.{ℕ, zero, suc, ◌≡◌, true, List, [], ◌∷◌}
use Rattle.lmn_base.specs.declared.functor.Label.TheVariants.{Name}
use Rattle.lmn_base.specs.declared.guard.Cond.TheVariants.{Kind}
use Rattle.lmn_base.specs.declared.level.CtxUse.{CtxUse}
use Rattle.lmn_base.specs.declared.level.Leaf.{Leaf}
use Rattle.lmn_base.specs.declared.level.Leaf.TheVariants.{Atom, Typed}
use Rattle.lmn_base.specs.declared.level.Level.{Level}
use Rattle.lmn_base.specs.declared.level.Level.TheViews.{roll-Level}
use Rattle.lmn_base.specs.declared.refusal.Pos.{Pos}
use Rattle.lmn_base.specs.declared.rule.RuleTree.{RuleTree}
use Rattle.lmn_base.specs.Firsts.{Row, NoneApplies}
use Rattle.lmn_base_walks.specs.RuleCodes.{too_large, empty_head, rule_in_head, connector_in_head, context_at_top, rule_context_at_top, two_in_membrane, twice_in_head, not_once_in_body, not_in_head, in_two_forms, rule_rows}
use Rattle.lmn_base.specs.SmallTexts.{name_b, name_a, at_column, name_p, name_q, use_at}

-- The names `a`, `b`, `p`, `q`, `r` and `x` have the numbers 4 to 9.
abbrev pub name_r : ℕ
name_r = 8

abbrev pub context_x : ℕ
context_x = 9

-- an atom without arguments
abbrev pub alone : ℕ → ℕ → Leaf
alone name n = Atom (record { label = Name name; arity = 0 }) [] (at_column n)

-- leaves, membranes, contexts and rule contexts
abbrev pub holding : List Leaf → List Level → List CtxUse → List CtxUse → Level
holding leaves membranes contexts rule_contexts = roll-Level (record { leaves = leaves; membranes = membranes; contexts = contexts; rule_contexts = rule_contexts; rules = [] })

abbrev pub empty : Level
empty = holding [] [] [] []

-- a membrane alone, that holds contexts
abbrev pub membrane_with_contexts : List CtxUse → Level
membrane_with_contexts contexts = holding [] (holding [] [] contexts [] ∷ []) [] []

-- a rule without conditions that begins its text
abbrev pub without_guard : Level → Level → RuleTree
without_guard head body = record { head = head; guard = []; body = body; links = []; pos = at_column 1 }

-- a row applies at these places
abbrev pub AppliesAt : Row → List Pos → Type 0
AppliesAt row places = row.places ≡ places

-- `:- a.`: the head holds nothing.
abbrev pub EmptyHead : Type 0
EmptyHead = AppliesAt (empty_head (without_guard empty (holding (alone name_a 4 ∷ []) [] [] []))) (at_column 1 ∷ [])

-- `(a :- b) :- c.`: a rule stands in the head, at the place of the inner rule.
abbrev pub RuleInHead : Type 0
RuleInHead =
    let inner : RuleTree = record { head = holding (alone name_a 2 ∷ []) [] [] []; guard = []; body = holding (alone name_b 7 ∷ []) [] [] []; links = []; pos = at_column 2 } in
    let outer = without_guard (roll-Level (record { leaves = []; membranes = []; contexts = []; rule_contexts = []; rules = 1 ∷ [] })) empty in
    AppliesAt (rule_in_head (outer ∷ inner ∷ []) outer) (at_column 2 ∷ [])

-- `X=Y, a(X,Y) :- .`: a connector stands in the head, and an atom of the same arity doesn't offend.
abbrev pub ConnectorInHead : Type 0
ConnectorInHead =
    let connector = Atom (record { label = Name 0; arity = 2 }) (record { link = 0; pos = at_column 1 } ∷ record { link = 1; pos = at_column 3 } ∷ []) (at_column 2) in
    let other = Atom (record { label = Name name_a; arity = 2 }) (record { link = 0; pos = at_column 8 } ∷ record { link = 1; pos = at_column 10 } ∷ []) (at_column 6) in
    AppliesAt (connector_in_head (without_guard (holding (connector ∷ other ∷ []) [] [] []) empty)) (at_column 2 ∷ [])

-- `$p :- .`, and `@r :- .`: what stands at the head's top
abbrev pub ContextAtTop : Type 0
ContextAtTop = AppliesAt (context_at_top (without_guard (holding [] [] (use_at name_p 1 ∷ []) []) empty)) (at_column 1 ∷ [])

abbrev pub RuleContextAtTop : Type 0
RuleContextAtTop = AppliesAt (rule_context_at_top (without_guard (holding [] [] [] (use_at name_r 1 ∷ [])) empty)) (at_column 1 ∷ [])

-- `{$p, $q} :- $p, $q.`: the second of two contexts in one membrane
abbrev pub TwoInMembrane : Type 0
TwoInMembrane = AppliesAt (two_in_membrane (without_guard (membrane_with_contexts (use_at name_p 2 ∷ use_at name_q 6 ∷ [])) (holding [] [] (use_at name_p 13 ∷ use_at name_q 17 ∷ []) []))) (at_column 6 ∷ [])

-- `{{$a, $b}, $p, $q} :- .`: an outer membrane comes before one in it, also where the pair of the inner one stands first in
-- the text.
abbrev pub OuterPairFirst : Type 0
OuterPairFirst =
    let inner = holding [] [] (use_at name_a 3 ∷ use_at name_b 7 ∷ []) [] in
    let outer = holding [] (inner ∷ []) (use_at name_p 12 ∷ use_at name_q 16 ∷ []) [] in
    AppliesAt (two_in_membrane (without_guard (holding [] (outer ∷ []) [] []) empty)) (at_column 16 ∷ [])

-- `{$p}, {$p} :- $p.`: the second place of a context in the head
abbrev pub TwiceInHead : Type 0
TwiceInHead =
    let head = holding [] (holding [] [] (use_at name_p 2 ∷ []) [] ∷ holding [] [] (use_at name_p 8 ∷ []) [] ∷ []) [] [] in
    AppliesAt (twice_in_head (without_guard head (holding [] [] (use_at name_p 15 ∷ []) []))) (at_column 8 ∷ [])

-- `{$x}, p($x) :- .`: a context in two forms stands twice in the head, and this code comes before that of two forms.
abbrev pub TwiceInTwoForms : Type 0
TwiceInTwoForms =
    let atom = Atom (record { label = Name name_p; arity = 1 }) (record { link = 0; pos = at_column 7 } ∷ []) (at_column 7) in
    let typed = Typed context_x (record { link = 0; pos = at_column 7 }) (at_column 9) in
    let rule = without_guard (holding (atom ∷ typed ∷ []) (holding [] [] (use_at context_x 2 ∷ []) [] ∷ []) [] []) empty in
    AppliesAt (twice_in_head rule) (at_column 9 ∷ []) × AppliesAt (in_two_forms rule) (at_column 9 ∷ [])

-- `{$p} :- .`: a context of the head that the body hasn't
abbrev pub NotInBody : Type 0
NotInBody = AppliesAt (not_once_in_body (without_guard (membrane_with_contexts (use_at name_p 2 ∷ [])) empty)) (at_column 2 ∷ [])

-- `{$p} \ b :- $p.`: its copy, at the place of the original, is the first place in the body, so the second offends.
abbrev pub TwiceInBody : Type 0
TwiceInBody =
    let membrane = holding [] [] (use_at name_p 2 ∷ []) [] in
    AppliesAt (not_once_in_body (without_guard (holding (alone name_b 8 ∷ []) (membrane ∷ []) [] []) (holding [] (membrane ∷ []) (use_at name_p 13 ∷ []) []))) (at_column 13 ∷ [])

-- `b :- $p.`, and `b :- @r.`: a context of the body that is from nowhere
abbrev pub NotInHead : Type 0
NotInHead = AppliesAt (not_in_head (without_guard (holding (alone name_b 1 ∷ []) [] [] []) (holding [] [] (use_at name_p 6 ∷ []) []))) (at_column 6 ∷ [])

abbrev pub RuleContextNotInHead : Type 0
RuleContextNotInHead = AppliesAt (not_in_head (without_guard (holding (alone name_b 1 ∷ []) [] [] []) (holding [] [] [] (use_at name_r 6 ∷ [])))) (at_column 6 ∷ [])

-- `{a, $p} :- int($p) | $p.`: two places stand behind one of another form; at the first of them, in the guard, the rule is
-- refused
abbrev pub InTwoForms : Type 0
InTwoForms =
    let head = holding [] (holding (alone name_a 2 ∷ []) [] (use_at name_p 5 ∷ []) [] ∷ []) [] [] in
    let guard = Kind 1 (use_at name_p 16 ∷ []) (at_column 12) ∷ [] in
    AppliesAt (in_two_forms (record { head = head; guard = guard; body = holding [] [] (use_at name_p 22 ∷ []) []; links = []; pos = at_column 1 })) (at_column 16 ∷ at_column 22 ∷ [])

-- a use of a closed context
abbrev pub closed_at : ℕ → ℕ → CtxUse
closed_at name n = record { name = name; closed = true; pos = at_column n }

-- `$p[] :- .`: neither may a closed context stand at the head's top.
abbrev pub ClosedAtTop : Type 0
ClosedAtTop = AppliesAt (context_at_top (without_guard (holding [] [] (closed_at name_p 1 ∷ []) []) empty)) (at_column 1 ∷ [])

-- `{$p[]} :- $p[], {$p[]}.` and `{$p[]} :- .`: a closed context of the head is copied or dropped.
abbrev pub ClosedCopied : Type 0
ClosedCopied =
    let head = membrane_with_contexts (closed_at name_p 2 ∷ []) in
    let body = holding [] (holding [] [] (closed_at name_p 17 ∷ []) [] ∷ []) (closed_at name_p 10 ∷ []) [] in
    AppliesAt (not_once_in_body (without_guard head body)) [] × AppliesAt (not_once_in_body (without_guard head empty)) []

-- `{$p[]} :- $p.`: open and closed are two forms.
abbrev pub OpenAndClosed : Type 0
OpenAndClosed = AppliesAt (in_two_forms (without_guard (membrane_with_contexts (closed_at name_p 2 ∷ [])) (holding [] [] (use_at name_p 10 ∷ []) []))) (at_column 10 ∷ [])

-- so many leaves
abbrev pub many : ℕ → Leaf → List Leaf
many zero leaf = []
many (suc n) leaf = leaf ∷ many n leaf

-- A head of 128 items is within the limits, and one of 129 isn't: 127 atoms, a membrane and, in the second, a context in it.
abbrev pub LargestHead : Type 0
LargestHead =
    let head : List CtxUse → Level = λ contexts. holding (many 127 (alone name_a 1)) (holding [] [] contexts [] ∷ []) [] [] in
    AppliesAt (too_large (without_guard (head []) empty)) [] × AppliesAt (too_large (without_guard (head (use_at name_p 9 ∷ [])) empty)) (at_column 1 ∷ [])

-- A body of 1,024 items is within the limits, and one of 1,025 isn't.
abbrev pub LargestBody : Type 0
LargestBody =
    let body : ℕ → Level = λ n. holding (many n (alone name_a 1)) [] [] [] in
    AppliesAt (too_large (without_guard empty (body 1024))) [] × AppliesAt (too_large (without_guard empty (body 1025))) (at_column 1 ∷ [])

-- `{a, $p, @r} :- {$p, @r, @r}.`: no row applies.
abbrev pub NothingOffends : Type 0
NothingOffends =
    let head = holding [] (holding (alone name_a 2 ∷ []) [] (use_at name_p 5 ∷ []) (use_at name_r 9 ∷ []) ∷ []) [] [] in
    let body = holding [] (holding [] [] (use_at name_p 17 ∷ []) (use_at name_r 21 ∷ use_at name_r 25 ∷ []) ∷ []) [] [] in
    NoneApplies (rule_rows [] (without_guard head body))

-- `{$p[]} :- {$p[], $p[]}.` and `{$p[]} :- .`: no row applies to a closed context that is copied, or dropped.
abbrev pub ClosedStands : Type 0
ClosedStands =
    let head = membrane_with_contexts (closed_at name_p 2 ∷ []) in
    let body = membrane_with_contexts (closed_at name_p 12 ∷ closed_at name_p 18 ∷ []) in
    NoneApplies (rule_rows [] (without_guard head body)) × NoneApplies (rule_rows [] (without_guard head empty))
