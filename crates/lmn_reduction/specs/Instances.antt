-- The process that a level stands for.
use Rattle.std.specs.Prelude.{ℕ, ◌≡◌, List, [], ◌∷◌, map}
use Rattle.lmn_congruence.specs.Orders.{OneByOne}
use Rattle.lmn_congruence.specs.Process.{Process, connector, atom, pair, membrane, rule, IsCopy, together}
use Rattle.lmn_congruence.specs.Rules.{Name, Context, open_context, closed_context, Label, Leaf, atom_leaf, connector_leaf, typed_leaf, Level, level, Levels, no_level, level_and, Rules, rules_list}
use Rattle.lmn_reduction.specs.Assignments.{Assignment}

-- What stands for a leaf. A typed context stands for a copy of its process, with the root at its link. A copy belongs to the
-- place where it is written: two places have two copies.
pub data LeafInstance (t : Assignment) : Leaf → Process → Type 0 where
  of_atom : {a : Label} {xs : List ℕ} → LeafInstance t (atom_leaf a xs) (atom a (map t.link_of xs))
  of_connector : {x y : ℕ} → LeafInstance t (connector_leaf x y) (connector (t.link_of x) (t.link_of y))
  of_typed : {p : Name} {x : ℕ} {P : Process} (c : IsCopy (t.typed_of p).process P) →
      c.to (t.typed_of p).root ≡ t.link_of x → LeafInstance t (typed_leaf p x) P

-- What stands for an untyped context: for an open one its process, and for a closed one a copy of its process at each
-- place where it is written, in the head too.
pub data ContextInstance (t : Assignment) : Context → Process → Type 0 where
  of_open : {p : Name} → ContextInstance t (open_context p) (t.context_of (open_context p))
  of_closed : {p : Name} {P : Process} →
      IsCopy (t.context_of (closed_context p)) P → ContextInstance t (closed_context p) P

-- P is an instance of a level: the parallel pair, in this order, of what stands for its leaves, its membranes,
-- its untyped contexts, its rule contexts and its rules. A membrane holds an instance of its level, and a
-- nested rule is itself.
mutual
  pub data Instance (t : Assignment) : Level → Process → Type 0 where
    instance : {leaves : List Leaf} {membranes : Levels} {contexts : List Context} {rule_contexts : List Name}
        {rules : Rules} {Ps Qs Cs : List Process} →
        OneByOne (LeafInstance t) leaves Ps → MembraneInstances t membranes Qs → OneByOne (ContextInstance t) contexts Cs →
        Instance t (level leaves membranes contexts rule_contexts rules)
        (pair (together Ps) (pair (together Qs) (pair (together Cs)
        (pair (together (map (λ r. together (map rule (t.rules_of r))) rule_contexts)) (together (map rule (rules_list rules)))))))

  pub data MembraneInstances (t : Assignment) : Levels → List Process → Type 0 where
    no_membrane : MembraneInstances t no_level []
    membrane_and : {l : Level} {ls : Levels} {P : Process} {Ps : List Process} →
        Instance t l P → MembraneInstances t ls Ps → MembraneInstances t (level_and l ls) (membrane P ∷ Ps)

-- the rules of each rule context, in order, as lemmas tell them
abbrev pub rules_of_contexts : Assignment → List Name → List Process
rules_of_contexts t rs = map (λ r. together (map rule (t.rules_of r))) rs
