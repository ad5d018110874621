-- What a short text reads as.
use Rattle.std.specs.Prelude.{◌≡◌, List, [], ◌∷◌, Contains, codes}
use Rattle.std.specs.declared.alloc.Global.{Global}
use Rattle.lmn_base.specs.declared.rule.Plain.{Plain}
use Rattle.lmn_congruence.specs.Rules.{Leaf, Name, atom_leaf, level, named, no_level, no_rule, only_leaves, rule_and, rule_of}
use Rattle.lmn_congruence.specs.Translation.{top_of}
use Rattle.lmn_flatten_plain.specs.Texts.{IsPlainOfText}

-- an atom without links
abbrev pub alone : Name → List Leaf
alone name = atom_leaf (named name) [] ∷ []

-- `a. a :- b.` has a plain, whose top is the atom `a` beside the rule, by each list of names that has both letters.
abbrev pub ShortTextReads : Type 0
ShortTextReads = (alloc : Global) (names : List Name) → Contains names (codes "a") → Contains names (codes "b") →
    (p : Plain) × IsPlainOfText (codes "a. a :- b.") names p
    × (top_of names p ≡ level (alone (codes "a")) no_level [] [] (rule_and (rule_of (only_leaves (alone (codes "a"))) [] (only_leaves (alone (codes "b")))) no_rule))
