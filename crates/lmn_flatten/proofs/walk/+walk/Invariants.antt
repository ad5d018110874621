use Rattle.std.proofs.Common.{List, ℕ, take, drop}
use Rattle.std.specs.List.{AllZip}
use Rattle.lmn_parser.specs.Syntax.{clauses_of, items_of_nodes, terms_of}
use Rattle.lmn_flatten_plain.specs.Expansion as expansion
use Rattle.lmn_flatten_plain.specs.Keys.{IsKey}
use Rattle.lmn_flatten_plain.specs.Links.{Link, Use}
use Rattle.lmn_flatten.specs.Built.{IsUse}
use Rattle.lmn_flatten.specs.Glossaries.{Reading}
use Rattle.lmn_flatten.specs.Growing.{MayGrow, Within}
use Rattle.lmn_flatten.specs.Scopes.{Under}
use Rattle.lmn_flatten.proofs.WalkLemmas.{CellsLeft, GrowsSoFar}
use Rattle.lmn_flatten.proofs.walk.+walk.Given as goal

abbrev pub invariant-add_cells-loop-i : goal.invariant-add_cells-loop-i
invariant-add_cells-loop-i l = (r : Reading) (way : List ℕ) (keys : List Link) (x : Link) (last : Use) → MayGrow r (Under way) keys l.glossary l.initial.scope
    → IsKey keys x l.initial.own → IsUse r.names (IsKey keys) last l.end
    → CellsLeft r way keys x last l.pos (terms_of l.elements) (terms_of (drop l.i l.elements)) l.i l.end l.own l.initial.part l.initial.table l.part l.table l.scope

abbrev pub invariant-add_clauses-loop-clause : goal.invariant-add_clauses-loop-clause
invariant-add_clauses-loop-clause l = (r : Reading) (way : List ℕ) (keys : List Link) → MayGrow r (Under way) keys l.glossary l.initial.scope
    → GrowsSoFar r Under way keys (expansion.expanded_clauses r.words r.places way (clauses_of (take l.clause-index l.clauses))) l.clause-index l.initial.part l.initial.table l.part l.table
    l.scope

abbrev pub invariant-add_items-loop-item : goal.invariant-add_items-loop-item
invariant-add_items-loop-item l = (r : Reading) (way : List ℕ) (keys : List Link) → MayGrow r (Under way) keys l.glossary l.initial.scope
    → GrowsSoFar r Under way keys (expansion.expanded_items r.words r.places way (items_of_nodes (take l.item-index l.items))) l.item-index l.initial.part l.initial.table l.part l.table l.scope

abbrev pub invariant-add_terms-loop-i : goal.invariant-add_terms-loop-i
invariant-add_terms-loop-i l = (r : Reading) (way : List ℕ) (keys : List Link) → MayGrow r (Within way) keys l.glossary l.initial.scope
    → AllZip (IsUse r.names (IsKey keys)) (expansion.expanded_arguments r.words r.places l.pos way (terms_of l.terms)) l.links
    → GrowsSoFar r Within way keys (expansion.expanded_terms r.words r.places l.pos way (terms_of (take l.i l.terms))) l.i l.initial.part l.initial.table l.part l.table l.scope
