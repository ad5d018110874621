-- What is written of an atom and of a membrane in a store, where the marks of ports tell the numbers of links.
use Rattle.std.specs.Prelude.{ℕ, ◌≡◌, ◌<◌, ◌+◌, ◌-◌, List, [], map, Option, Some, None}
use Rattle.lmn_base.specs.declared.rule.RuleTree.{RuleTree}
use Rattle.lmn_base.specs.declared.solid.SolidAtom.{SolidAtom}
use Rattle.lmn_congruence.specs.Rules.{Name}
use Rattle.lmn_congruence.specs.Translation.{numbered_rule, solid_atom_of}
use Rattle.lmn_store_heap.specs.Heap.{Heap, HeapAtom, arity_of, mark_of, atoms_in, rules_in}
use Rattle.lmn_store_heap.specs.Solid.{links_from}
use Rattle.lmn_flatten_plain.specs.SolidLines.{atom_as_leaf}
use Rattle.lmn_flatten_plain.specs.Words.{text_of, leaf_pieces, rule_pieces}

-- the number of the link at a port: its mark is greater by one
abbrev pub number_by_mark : Heap → ℕ → ℕ → ℕ
number_by_mark s a i = mark_of s a i - 1

-- an atom of a solid
abbrev pub solid_atom_text : List Name → SolidAtom → List ℕ
solid_atom_text names a = text_of (leaf_pieces (atom_as_leaf (solid_atom_of names a)))

abbrev pub stored_text : List Name → (ℕ → ℕ → ℕ) → ℕ → Option HeapAtom → List ℕ
stored_text names number a None = []
stored_text names number a (Some x) = solid_atom_text names (record { functor = x.functor; links = links_from number a 0 x.functor.arity })

-- the atom of a number, its links by the marks of its ports
abbrev pub atom_text : List Name → Heap → ℕ → List ℕ
atom_text names s a = stored_text names (number_by_mark s) a (s.atoms a)

-- the atoms of a membrane, and its rules
abbrev pub atom_texts : List Name → Heap → ℕ → List (List ℕ)
atom_texts names s m = map (atom_text names s) (atoms_in s m)

abbrev pub rule_texts : List Name → List RuleTree → Heap → ℕ → List (List ℕ)
rule_texts names table s m = map (λ k. text_of (rule_pieces (numbered_rule names table k))) (rules_in s m)

-- the marks of all ports tell the numbers of their links
abbrev pub TellsNumbers : Heap → (ℕ → ℕ → ℕ) → Type 0
TellsNumbers s name = (a i : ℕ) → i < arity_of s a → mark_of s a i ≡ name a i + 1
