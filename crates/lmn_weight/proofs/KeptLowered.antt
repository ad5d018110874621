-- A firing keeps what holds of each rule, and of those in rules.
use Rattle.std.proofs.Common.{ℕ, ℤ, sym, List, map, subst, inl, inr, ◌⊎◌, [], ◌∷◌, ◌++◌}
use Rattle.lmn_congruence.proofs.Common.{among_apart, among_left, among_right}
use Rattle.lmn_congruence.proofs.KeptRules.{AllRules}
use Rattle.lmn_congruence.specs.Orders.{Among, at_head, further, OneByOne, no_pairs, pair_and}
use Rattle.lmn_congruence.specs.Process.{Process, nothing, connector, atom, pair, membrane, renamed, rule, together}
use Rattle.lmn_congruence.specs.Rules.{Context, Leaf, Level, Levels, Name, Rule, Rules, closed_context, head_of, guard_of, no_rule, rule_and, rule_of, rules_list}
use Rattle.lmn_reduction.specs.Assignments.{Assignment}
use Rattle.lmn_reduction.specs.Firing.{Fires, typed_contexts, typed_contexts_in, typed_leaves}
use Rattle.lmn_reduction.specs.Instances.{ContextInstance, Instance, MembraneInstances, instance, membrane_and, no_membrane, of_atom, of_closed, of_connector, of_open, of_typed, rules_of_contexts, LeafInstance}
use Rattle.lmn_adequacy.proofs.OneNext.{of_the_head}
use Rattle.lmn_adequacy.specs.Accepted.{Accepted, Throughout, ThroughoutLevel, ThroughoutLevels, ThroughoutRules, all_contexts, all_rule_contexts, contexts_in, left_sides, rule_contexts_in}
use Rattle.lmn_reduction.specs.Parts.{IsInteger, Rooted, an_integer}
use Rattle.lmn_weight.proofs.FiredWeight.{guard_integer, left_side}
use Rattle.lmn_weight.specs.Lowered.{StandsForInt}
use Rattle.lmn_adequacy.proofs.RulesStay.{body_rules}

-- a renaming keeps all rules
renamed_rules : (H : Rule → Type 0) (f : ℕ → ℕ) (P : Process) → (AllRules H P → AllRules H (renamed f P)) × (AllRules H (renamed f P) → AllRules H P)
renamed_rules H f nothing = ((λ h. h), (λ h. h))
renamed_rules H f (connector x y) = ((λ h. h), (λ h. h))
renamed_rules H f (atom a xs) = ((λ h. h), (λ h. h))
renamed_rules H f (pair P Q) =
    let i = renamed_rules H f P in
    let j = renamed_rules H f Q in
    ((λ h. (i.0 h.0, j.0 h.1)), (λ h. (i.1 h.0, j.1 h.1)))
renamed_rules H f (membrane P) = renamed_rules H f P
renamed_rules H f (rule r) = ((λ h. h), (λ h. h))

module _ (K : Rule → Type 0) (t : Assignment) where
  -- what holds of each rule in what contexts stand for
  pub record ContextRules (typed : List Name) (untyped : List Context) (rule_contexts : List Name) : Type 0 where
    pub of_typed : (p : Name) → Among p typed → AllRules K (t.typed_of p).process
    pub of_untyped : (p : Context) → Among p untyped → AllRules K (t.context_of p)
    pub of_rules : (q : Name) → Among q rule_contexts → AllRules K (together (map rule (t.rules_of q)))

  -- ---- from an instance to what contexts stand for

  leaf_there : {ls : List Leaf} {Ps : List Process} → OneByOne (LeafInstance t) ls Ps → AllRules K (together Ps) → (p : Name) → Among p (typed_leaves ls) → AllRules K (t.typed_of p).process
  leaf_there no_pairs h p k = elim k [ ]
  leaf_there (pair_and of_atom is) h p k = leaf_there is h.1 p k
  leaf_there (pair_and of_connector is) h p k = leaf_there is h.1 p k
  leaf_there (pair_and (of_typed {p = q} c root) is) h p at_head = (renamed_rules K c.to (t.typed_of q).process).1 (subst (AllRules K) c.is h.0)
  leaf_there (pair_and (of_typed {p = q} c root) is) h p (further k) = leaf_there is h.1 p k

  -- an instance of an untyped context has the rules of what it stands for
  one_context : {p : Context} {P : Process} → ContextInstance t p P → (AllRules K P → AllRules K (t.context_of p)) × (AllRules K (t.context_of p) → AllRules K P)
  one_context of_open = ((λ h. h), (λ h. h))
  one_context (of_closed {p = p} c) =
      let i = renamed_rules K c.to (t.context_of (closed_context p)) in
      ((λ h. i.1 (subst (AllRules K) c.is h)), (λ h. subst (AllRules K) (sym c.is) (i.0 h)))

  context_there : {ps : List Context} {Ps : List Process} → OneByOne (ContextInstance t) ps Ps → AllRules K (together Ps) → (p : Context) → Among p ps → AllRules K (t.context_of p)
  context_there no_pairs h p k = elim k [ ]
  context_there (pair_and i is) h p at_head = (one_context i).0 h.0
  context_there (pair_and i is) h p (further k) = context_there is h.1 p k

  rules_there : (qs : List Name) → AllRules K (together (rules_of_contexts t qs)) → (q : Name) → Among q qs → AllRules K (together (map rule (t.rules_of q)))
  rules_there [] h q k = elim k [ ]
  rules_there (r ∷ rs) h q at_head = h.0
  rules_there (r ∷ rs) h q (further k) = rules_there rs h.1 q k

  -- what holds of the elements of two lists holds of both joined
  of_either : {A : Type 0} {P : A → Type 0} (ps qs : List A) → ((p : A) → Among p ps → P p) → ((p : A) → Among p qs → P p) → (p : A) → Among p (ps ++ qs) → P p
  of_either {A} {P} ps qs h k p a = go (among_apart ps qs a)
    where
      go : Among p ps ⊎ Among p qs → P p
      go (inl i) = h p i
      go (inr i) = k p i

  mutual
    pub level_there : {l : Level} {P : Process} → Instance t l P → AllRules K P → ContextRules (typed_contexts l) (all_contexts l) (all_rule_contexts l)
    level_there (instance {leaves = leaves} {membranes = membranes} {contexts = contexts} {rule_contexts = rule_contexts} i j c) h =
        let m = membranes_there j h.1.0 in record {
          of_typed = of_either {P = λ p. AllRules K (t.typed_of p).process} (typed_leaves leaves) (typed_contexts_in membranes) (leaf_there i h.0) m.of_typed;
          of_untyped = of_either {P = λ p. AllRules K (t.context_of p)} contexts (contexts_in membranes) (context_there c h.1.1.0) m.of_untyped;
          of_rules = of_either {P = λ q. AllRules K (together (map rule (t.rules_of q)))} rule_contexts (rule_contexts_in membranes) (rules_there rule_contexts h.1.1.1.0) m.of_rules;
        }

    membranes_there : {ls : Levels} {Ps : List Process} → MembraneInstances t ls Ps → AllRules K (together Ps) → ContextRules (typed_contexts_in ls) (contexts_in ls) (rule_contexts_in ls)
    membranes_there no_membrane h = record { of_typed = λ p k. elim k [ ]; of_untyped = λ p k. elim k [ ]; of_rules = λ p k. elim k [ ] }
    membranes_there (membrane_and {l = l} {ls = ls} i is) h =
        let u = level_there i h.0 in
        let v = membranes_there is h.1 in record {
          of_typed = of_either {P = λ p. AllRules K (t.typed_of p).process} (typed_contexts l) (typed_contexts_in ls) u.of_typed v.of_typed;
          of_untyped = of_either {P = λ p. AllRules K (t.context_of p)} (all_contexts l) (contexts_in ls) u.of_untyped v.of_untyped;
          of_rules = of_either {P = λ q. AllRules K (together (map rule (t.rules_of q)))} (all_rule_contexts l) (rule_contexts_in ls) u.of_rules v.of_rules;
        }

  -- ---- and back to an instance

  leaves_made : {ls : List Leaf} {Ps : List Process} → OneByOne (LeafInstance t) ls Ps → ((p : Name) → Among p (typed_leaves ls) → AllRules K (t.typed_of p).process) → AllRules K (together Ps)
  leaves_made no_pairs h = tt
  leaves_made (pair_and of_atom is) h = (tt, leaves_made is h)
  leaves_made (pair_and of_connector is) h = (tt, leaves_made is h)
  leaves_made (pair_and (of_typed {p = q} c root) is) h = (subst (AllRules K) (sym c.is) ((renamed_rules K c.to (t.typed_of q).process).0 (h q at_head)), leaves_made is (λ p k. h p (further k)))

  contexts_made : {ps : List Context} {Ps : List Process} → OneByOne (ContextInstance t) ps Ps → ((p : Context) → Among p ps → AllRules K (t.context_of p)) → AllRules K (together Ps)
  contexts_made no_pairs h = tt
  contexts_made (pair_and {x = p} i is) h = ((one_context i).1 (h p at_head), contexts_made is (λ q k. h q (further k)))

  rule_contexts_made : (qs : List Name) → ((q : Name) → Among q qs → AllRules K (together (map rule (t.rules_of q)))) → AllRules K (together (rules_of_contexts t qs))
  rule_contexts_made [] h = tt
  rule_contexts_made (q ∷ qs) h = (h q at_head, rule_contexts_made qs (λ p k. h p (further k)))

module _ (H : Rule → Type 0) where
  abbrev pub K : Rule → Type 0
  K = Throughout H

  -- the rules of a level, side by side
  pub rules_made : (rs : Rules) → ThroughoutRules H rs → AllRules K (together (map rule (rules_list rs)))
  rules_made no_rule h = tt
  rules_made (rule_and r rs) h = (h.0, rules_made rs h.1)

  mutual
    pub level_made : (t : Assignment) {l : Level} {P : Process} → Instance t l P → ThroughoutLevel H l → ContextRules K t (typed_contexts l) (all_contexts l) (all_rule_contexts l) → AllRules K P
    level_made t (instance {leaves = leaves} {membranes = membranes} {contexts = contexts} {rule_contexts = rule_contexts} {rules = rules} i j cs) h c = (
      leaves_made K t i (λ p k. c.of_typed p (among_left (typed_contexts_in membranes) k)),
      (
        membranes_made t j h.0 (record {
          of_typed = λ p k. c.of_typed p (among_right (typed_leaves leaves) k);
          of_untyped = λ p k. c.of_untyped p (among_right contexts k);
          of_rules = λ p k. c.of_rules p (among_right rule_contexts k);
        }),
        (
          contexts_made K t cs (λ p k. c.of_untyped p (among_left (contexts_in membranes) k)),
          (rule_contexts_made K t rule_contexts (λ p k. c.of_rules p (among_left (rule_contexts_in membranes) k)), rules_made rules h.1),
        ),
      ),
    )

    membranes_made : (t : Assignment) {ls : Levels} {Ps : List Process} → MembraneInstances t ls Ps → ThroughoutLevels H ls → ContextRules K t (typed_contexts_in ls) (contexts_in ls) (rule_contexts_in ls) → AllRules K (together Ps)
    membranes_made t no_membrane h c = tt
    membranes_made t (membrane_and {l = l} {ls = ls} i is) h c = (
      level_made t i h.0 (record {
        of_typed = λ p k. c.of_typed p (among_left (typed_contexts_in ls) k);
        of_untyped = λ p k. c.of_untyped p (among_left (contexts_in ls) k);
        of_rules = λ p k. c.of_rules p (among_left (rule_contexts_in ls) k);
      }),
      membranes_made t is h.1 (record {
        of_typed = λ p k. c.of_typed p (among_right (typed_contexts l) k);
        of_untyped = λ p k. c.of_untyped p (among_right (all_contexts l) k);
        of_rules = λ p k. c.of_rules p (among_right (all_rule_contexts l) k);
      }),
    )

  pub own : (r : Rule) → Throughout H r → H r
  own (rule_of head guard body) h = h.0

  -- What holds throughout a rule that fires, and throughout each rule of what it takes, holds throughout each rule of
  -- what it makes.
  pub fired_rules : {r : Rule} {A B : Process} → Accepted r → Throughout H r → Fires r A B → AllRules K A → AllRules K B
  fired_rules {r} a h f g =
      let t = f.matches.assignment in
      let u = level_there K t f.matches.head g in
      level_made t f.body (body_rules H r h) (record {
        of_typed = λ p k. typed p (a.known p k) u;
        of_untyped = λ p k. u.of_untyped p (of_the_head a p k);
        of_rules = λ q k. u.of_rules q (a.known_rules q k);
      })
    where
      typed : (p : Name) → Among p (typed_contexts (head_of r)) ⊎ Among p (left_sides (guard_of r)) → ContextRules K f.matches.assignment (typed_contexts (head_of r)) (all_contexts (head_of r)) (all_rule_contexts (head_of r)) → AllRules K (f.matches.assignment.typed_of p).process
      typed p (inl k) u = u.of_typed p k
      typed p (inr k) u = bound (left_side (typed_contexts (head_of r)) a.in_turn k)
        where
          integer_rules : {m : ℤ} {x : Rooted} → IsInteger m x → AllRules K x.process
          integer_rules an_integer = tt

          bound : Among p (typed_contexts (head_of r)) ⊎ StandsForInt r p → AllRules K (f.matches.assignment.typed_of p).process
          bound (inl k) = u.of_typed p k
          bound (inr s) = integer_rules (guard_integer (typed_contexts (head_of r)) f.matches.assignment s.1 s.2 f.matches.guard).1
