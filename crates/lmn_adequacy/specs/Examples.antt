-- Small solids, and their next ones.
use Rattle.std.specs.Prelude.{List, [], ◌∷◌}
use Rattle.lmn_congruence.specs.Rules.{Context, open_context, Label, named, atom_leaf, level, no_level, Rule, rule_of, no_rule, only_leaves}
use Rattle.lmn_congruence.specs.Regions.{SolidAtom, Region, region, no_region, region_and, solid_atom_with}
use Rattle.lmn_reduction.specs.Examples.{label_a, label_b, label_c, int, one_membrane_level, join_in_c, join_from_membrane, add_up, double_rules, tie_ends, double_part}
use Rattle.lmn_adequacy.specs.Accepted.{Accepted}
use Rattle.lmn_adequacy.specs.Embedding.{HasEmbedding}
use Rattle.lmn_adequacy.specs.Next.{Next, DepthFirst}
use Rattle.lmn_adequacy.specs.Runs.{Chooser, Trace, Ends, irreducible, budget_done, full}

-- `a(X), b(X). a(X), b(Y) :- c(X,Y).` goes to `c(X,X). a(X), b(Y) :- c(X,Y).`
abbrev pub EndsMeetInOneAtom : Type 0
EndsMeetInOneAtom =
    Next (region (solid_atom_with label_a (0 ∷ []) ∷ solid_atom_with label_b (0 ∷ []) ∷ []) no_region (join_in_c ∷ []))
    (region (solid_atom_with label_c (0 ∷ 0 ∷ []) ∷ []) no_region (join_in_c ∷ []))

-- In `{a(X), b(X)}. {a(X), b(Y)} :- c(X,Y).` nothing embeds: the link stays inside the membrane.
abbrev pub InnerLinkDoesNotEmbed : Type 0
InnerLinkDoesNotEmbed =
    ¬ (HasEmbedding (region [] (region_and (region (solid_atom_with label_a (0 ∷ []) ∷ solid_atom_with label_b (0 ∷ []) ∷ []) no_region []) no_region)
    (join_from_membrane ∷ [])))

-- `{a, $p} :- $p, a`
abbrev pub open_membrane : Rule
open_membrane =
    let p : Context = open_context (112 ∷ []) in
    rule_of (one_membrane_level (level (atom_leaf label_a [] ∷ []) no_level (p ∷ []) [] no_rule)) []
    (level (atom_leaf label_a [] ∷ []) no_level (p ∷ []) [] no_rule)

-- `c. {b. a. c. {b}}. {}. {a, $p} :- $p, a.` goes to `c. a. b. c. {}. {b}. {a, $p} :- $p, a.`: what stays comes first,
-- then the leaves as written, then what the context stands for.
abbrev pub MembraneOpens : Type 0
MembraneOpens =
    let empty : Region = region [] no_region [] in
    let inner : Region = region (solid_atom_with label_b [] ∷ []) no_region [] in
    Next
    (region (solid_atom_with label_c [] ∷ [])
    (region_and (region (solid_atom_with label_b [] ∷ solid_atom_with label_a [] ∷ solid_atom_with label_c [] ∷ []) (region_and inner no_region) []) (region_and empty no_region))
    (open_membrane ∷ []))
    (region (solid_atom_with label_c [] ∷ solid_atom_with label_a [] ∷ solid_atom_with label_b [] ∷ solid_atom_with label_c [] ∷ []) (region_and empty (region_and inner no_region))
    (open_membrane ∷ []))

-- the list `[1, 2]` from its link on: each cell, then its element, then what follows
abbrev pub ListDepthFirst : Type 0
ListDepthFirst =
    let dot : Label = named (46 ∷ []) in
    let nil : Label = named (91 ∷ 93 ∷ []) in
    DepthFirst 0
    (solid_atom_with dot (1 ∷ 2 ∷ 0 ∷ []) ∷ solid_atom_with (int 1) (1 ∷ []) ∷ solid_atom_with dot (3 ∷ 4 ∷ 2 ∷ []) ∷ solid_atom_with (int 2) (3 ∷ []) ∷ solid_atom_with nil (4 ∷ []) ∷ [])

-- `p($x), p($y) :- $z = $x + $y | p($z)`, `{a, $p, @r} :- {$p, @r, @r}` and `{a, $p} :- $p, a` are accepted.
abbrev pub TheseAreAccepted : Type 0
TheseAreAccepted = Accepted add_up × Accepted double_rules × Accepted open_membrane

-- `a(X,X). a(X,Y) :- X=Y.` goes to the rule alone: the connector and the link of the atom are a loop, which vanishes.
abbrev pub NextHasNoLoop : Type 0
NextHasNoLoop = Next (region (solid_atom_with label_a (0 ∷ 0 ∷ []) ∷ []) no_region (tie_ends ∷ [])) (region [] no_region (tie_ends ∷ []))

-- `a(X), b(X,Y,Y). a($x) :- ground($x) | a($x,$x).` goes to `a(X,Z), b(X,Y,Y), b(Z,W,W)` beside its rule: each copy has links
-- of its own, and stands where it is written.
abbrev pub CopiesStandAsWritten : Type 0
CopiesStandAsWritten =
    Next (region (solid_atom_with label_a (0 ∷ []) ∷ solid_atom_with label_b (0 ∷ 1 ∷ 1 ∷ []) ∷ []) no_region (double_part ∷ []))
    (region (solid_atom_with label_a (0 ∷ 1 ∷ []) ∷ solid_atom_with label_b (0 ∷ 2 ∷ 2 ∷ []) ∷ solid_atom_with label_b (1 ∷ 3 ∷ 3 ∷ []) ∷ []) no_region (double_part ∷ []))

-- `a :- a, a`, and atoms beside it
abbrev pub grow : Rule
grow = rule_of (only_leaves (atom_leaf label_a [] ∷ [])) [] (only_leaves (atom_leaf label_a [] ∷ atom_leaf label_a [] ∷ []))

abbrev pub growing : List SolidAtom → Region
growing xs = region xs no_region (grow ∷ [])

-- the root is asked first
abbrev pub root_first : Chooser
root_first n m = 0

-- `a. a :- a, a.` with the size 3 is full after one commit, since the next one would leave four items. With the budget 1
-- the budget is done there first. Without the atom the trace ends at once, also with the budget 0.
abbrev pub TracesEnd : Type 0
TracesEnd =
    let one : Region = growing (solid_atom_with label_a [] ∷ []) in
    let two : Region = growing (solid_atom_with label_a [] ∷ solid_atom_with label_a [] ∷ []) in
    (Trace root_first 5 3 one (one ∷ []) two × Ends root_first 5 3 1 two full)
    × (Trace root_first 1 3 one (one ∷ []) two × Ends root_first 1 3 1 two budget_done)
    × (Trace root_first 0 3 (growing []) [] (growing []) × Ends root_first 0 3 0 (growing []) irreducible)
