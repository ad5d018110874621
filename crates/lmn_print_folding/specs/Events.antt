-- What is written at each event of a walk.
use Rattle.std.specs.Prelude.{ℕ, ◌-◌, ◌==◌, ◌&&◌, not, Bool, true, false, if◌then◌else◌, List, [], ◌∷◌, ◌++◌, codes, Option, Some, None}
use Rattle.lmn_base.specs.declared.functor.Functor.{Functor}
use Rattle.lmn_congruence.specs.Rules.{Name}
use Rattle.lmn_congruence.specs.Translation.{label_of}
use Rattle.lmn_print_folded.specs.Words.{is_named}
use Rattle.lmn_store_heap.specs.Heap.{Heap, arity_of, functor_of, link_of}
use Rattle.lmn_flatten_plain.specs.Words.{link_name}
use Rattle.lmn_flatten_plain.specs.Labels.{label_text}
use Rattle.lmn_print_folding.specs.Marks.{is_item, argument_count, term_at, Event, meets_link, meets_term, leaves}

-- whether the name of a functor is this one
abbrev pub is_functor_named : List Name → List ℕ → Option Functor → Bool
is_functor_named names name None = false
is_functor_named names name (Some f) = is_named name (label_of names f.label)

-- whether an atom is printed as a term and is a list cell, or the empty list
abbrev pub prints_as_cell : List Name → Heap → ℕ → Bool
prints_as_cell names s a = not (is_item s a) && ((arity_of s a == 3) && is_functor_named names (codes ".") (functor_of s a))

abbrev pub is_nil : List Name → Heap → ℕ → Bool
is_nil names s a = not (is_item s a) && ((arity_of s a == 1) && is_functor_named names (codes "[]") (functor_of s a))

abbrev pub is_rest_port : List Name → Heap → Option (ℕ × ℕ) → Bool
is_rest_port names s None = false
is_rest_port names s (Some p) = (p.1 == 1) && prints_as_cell names s p.0

-- whether a term stands as the rest of a cell that is printed as a term
abbrev pub is_rest : List Name → Heap → ℕ → Bool
is_rest names s a = is_rest_port names s (link_of s a (arity_of s a - 1))

-- whether a list goes on, or ends, with a term
abbrev pub is_listed : List Name → Heap → Option ℕ → Bool
is_listed names s None = false
is_listed names s (Some c) = if prints_as_cell names s c then true else is_nil names s c

abbrev pub functor_label_text : List Name → Option Functor → List ℕ
functor_label_text names None = []
functor_label_text names (Some f) = label_text (label_of names f.label)

-- what stands before the arguments of an atom and is no bracket
abbrev pub opening : List Name → Heap → ℕ → List ℕ
opening names s a =
    if prints_as_cell names s a then []
    else if is_nil names s a then (if is_rest names s a then [] else codes "[]")
    else functor_label_text names (functor_of s a)

-- what stands before an argument
abbrev pub before_argument : List Name → Heap → ℕ → ℕ → List ℕ
before_argument names s a i =
    if prints_as_cell names s a then
    (if i == 0 then (if is_rest names s a then codes ", " else codes "[")
    else if is_listed names s (term_at s a i) then [] else codes " | ")
    else if i == 0 then codes "(" else codes ", "

-- what stands behind the arguments of an atom
abbrev pub behind_arguments : List Name → Heap → ℕ → List ℕ
behind_arguments names s a =
    if prints_as_cell names s a then (if is_rest names s a then [] else codes "]")
    else if argument_count s a == 0 then [] else codes ")"

-- by the numbers of links
abbrev pub event_text : List Name → Heap → (ℕ → ℕ → ℕ) → Event → List ℕ
event_text names s number (meets_link a i) = before_argument names s a i ++ link_name (number a i)
event_text names s number (meets_term a i c) = before_argument names s a i ++ opening names s c
event_text names s number (leaves a) = behind_arguments names s a

abbrev pub events_text : List Name → Heap → (ℕ → ℕ → ℕ) → List Event → List ℕ
events_text names s number [] = []
events_text names s number (e ∷ es) = event_text names s number e ++ events_text names s number es
