-- An instance of a head in which each context stands once is one in which each closed context stands for the very process
-- that is there, and for no copy of it.
use Rattle.std.proofs.Common.{ℕ, List, cond, eqb, map, refl, sym, ap, subst, inl, arith, ◌≤◌, ◌≡◌, ◌⊎◌, [], ◌∷◌, ◌++◌, ◌∙◌}
use Rattle.lmn_base.proofs.Lists.{map_append}
use Rattle.lmn_congruence.specs.Fused.{Joins, fused}
use Rattle.lmn_congruence.specs.Orders.{Among, EachOnce, at_head, further, OneByOne, no_pairs, pair_and}
use Rattle.lmn_congruence.specs.Process.{Closed, Free, Linked, OneToOneOn, Process, atom, connector, membrane, nothing, occurrences, pair, renamed, rule, together, IsCopy}
use Rattle.lmn_congruence.specs.Rules.{Context, Leaf, Level, Levels, Name, Rules, closed_context, level, level_and, no_level, open_context, rules_list}
use Rattle.lmn_reduction.specs.Assignments.{Assignment, NoRuleAtTop, Proper}
use Rattle.lmn_reduction.specs.Instances.{Instance, MembraneInstances, instance, membrane_and, no_membrane, of_atom, of_closed, of_connector, of_open, of_typed, rules_of_contexts, LeafInstance, ContextInstance}
use Rattle.lmn_congruence.proofs.Common.{among_apart as among_append, among_left, among_right}
use Rattle.lmn_congruence.proofs.Counts.{linked_inside, linked_left, linked_right}
use Rattle.lmn_congruence.proofs.FewestCrossings.{free_image, with_image}
use Rattle.lmn_congruence.proofs.LinkMaps.{closed_linked}
use Rattle.lmn_congruence.proofs.Renaming.{occurrences_image, occurrences_none, renamed_id}
use Rattle.lmn_congruence.proofs.Totals.{total_zero}
use Rattle.lmn_congruence.specs.FreeLinks.{link_bound, one_if_free, one_if_once}
use Rattle.lmn_adequacy.specs.Accepted.{all_contexts, contexts_in}
use Rattle.lmn_adequacy.specs.Loose.{filling}
use Rattle.lmn_adequacy.proofs.Exposing.{Source, found, missing, source}
use Rattle.lmn_adequacy.proofs.Lookups.{context_or_not, look, look_found, look_holds}
use Rattle.lmn_adequacy.proofs.Orders.{either}

mutual
  pub data HeadInstance (t : Assignment) : Level → Process → Type 0 where
    head_instance : {leaves : List Leaf} {membranes : Levels} {contexts : List Context} {rule_contexts : List Name} {rules : Rules} {Ps Qs : List Process} →
        OneByOne (LeafInstance t) leaves Ps → HeadInstances t membranes Qs →
        HeadInstance t (level leaves membranes contexts rule_contexts rules) (pair (together Ps) (pair (together Qs) (filling t contexts rule_contexts rules)))

  pub data HeadInstances (t : Assignment) : Levels → List Process → Type 0 where
    no_head : HeadInstances t no_level []
    head_and : {l : Level} {ls : Levels} {P : Process} {Ps : List Process} →
        HeadInstance t l P → HeadInstances t ls Ps → HeadInstances t (level_and l ls) (membrane P ∷ Ps)

-- ---- it is an instance

module _ (t : Assignment) where
  itself_copied : (Q : Process) → IsCopy Q Q
  itself_copied Q = record { to = λ x. x; one_to_one = λ x y o o' e. e; is = sym (renamed_id Q) }

  itself_instances : (ps : List Context) → OneByOne (ContextInstance t) ps (map t.context_of ps)
  itself_instances [] = no_pairs
  itself_instances (open_context p ∷ ps) = pair_and of_open (itself_instances ps)
  itself_instances (closed_context p ∷ ps) = pair_and (of_closed (itself_copied (t.context_of (closed_context p)))) (itself_instances ps)

  mutual
    pub as_instance : {l : Level} {C : Process} → HeadInstance t l C → Instance t l C
    as_instance (head_instance {contexts = ps} i j) = instance i (as_instances j) (itself_instances ps)

    pub as_instances : {ls : Levels} {Cs : List Process} → HeadInstances t ls Cs → MembraneInstances t ls Cs
    as_instances no_head = no_membrane
    as_instances (head_and i j) = membrane_and (as_instance i) (as_instances j)

-- ---- and an instance is one, for an assignment that gives each closed context its copy

-- the same with other processes for untyped contexts
abbrev pub standing : Assignment → (Context → Process) → Assignment
standing t f = record { link_of = t.link_of; context_of = f; rules_of = t.rules_of; typed_of = t.typed_of }

-- a closed process renamed one to one is closed
pub closed_image : (f : ℕ → ℕ) (P : Process) → OneToOneOn f P → Closed P → Closed (renamed f P)
closed_image f P one c z = go (source f P z)
  where
    go : Source f P z → (occurrences z (renamed f P) ≡ 0) ⊎ (occurrences z (renamed f P) ≡ 2)
    go (found x o e) = subst (λ k. (k ≡ 0) ⊎ (k ≡ 2)) (sym (occurrences_image f x P (λ y o' q. one y x o' o q)) ∙ ap (λ w. occurrences w (renamed f P)) e) (c x)
    go (missing h) = inl (occurrences_none f z P h)

-- a closed process read by a map is closed, where it is linked
closed_fused : (v : ℕ → ℕ) (P : Process) → Joins v P → Closed P → Linked (fused v P) → Closed (fused v P)
closed_fused v P j c l z = even (occurrences z (fused v P)) (l.at_most_twice z) (omega (arith, free_image v z P j (closed_linked c), total_zero (link_bound P) (with_image v z (one_if_free P)) (λ y. none (v y) z (occurrences y P) (c y))))
  where
    none : (m z n : ℕ) → (n ≡ 0) ⊎ (n ≡ 2) → cond (eqb m z) (one_if_once n) 0 ≡ 0
    none m z n e = grind arith

    even : (n : ℕ) → n ≤ 2 → one_if_once n ≤ 0 → (n ≡ 0) ⊎ (n ≡ 2)
    even n b e = grind arith

no_rule_image : (f : ℕ → ℕ) (P : Process) → NoRuleAtTop P → NoRuleAtTop (renamed f P)
no_rule_image f nothing n = tt
no_rule_image f (connector x y) n = tt
no_rule_image f (atom a xs) n = tt
no_rule_image f (pair P Q) n = (no_rule_image f P n.0, no_rule_image f Q n.1)
no_rule_image f (membrane P) n = tt
no_rule_image f (rule r) n = n

-- what a context may stand for, where a map reads its process
abbrev pub MayStand : Assignment → (ℕ → ℕ) → Context → Process → Type 0
MayStand t v (open_context p) P = NoRuleAtTop P × ((x : ℕ) → ¬ (Free (t.link_of x) P))
MayStand t v (closed_context p) P = NoRuleAtTop P × Closed P × Closed (fused v P)

module _ (t : Assignment) where
  -- what the contexts of an instance stand for
  entries : {ps : List Context} {Ps : List Process} → OneByOne (ContextInstance t) ps Ps → List (Context × Process)
  entries no_pairs = []
  entries (pair_and {x = p} {y = P} i j) = (p, P) ∷ entries j

  mutual
    level_entries : {l : Level} {C : Process} → Instance t l C → List (Context × Process)
    level_entries (instance i j k) = entries k ++ levels_entries j

    levels_entries : {ls : Levels} {Cs : List Process} → MembraneInstances t ls Cs → List (Context × Process)
    levels_entries no_membrane = []
    levels_entries (membrane_and i j) = level_entries i ++ levels_entries j

  entries_named : {ps : List Context} {Ps : List Process} (k : OneByOne (ContextInstance t) ps Ps) → map (λ e. e.0) (entries k) ≡ ps
  unfolding entries
  entries_named no_pairs = refl
  entries_named (pair_and {x = p} i j) = ap (λ w. p ∷ w) (entries_named j)

  mutual
    unfolding level_entries

    level_named : {l : Level} {C : Process} (i : Instance t l C) → map (λ e. e.0) (level_entries i) ≡ all_contexts l
    level_named (instance i j k) = map_append (λ e. e.0) (entries k) (levels_entries j) ∙ cc (entries_named k, levels_named j)

    levels_named : {ls : Levels} {Cs : List Process} (j : MembraneInstances t ls Cs) → map (λ e. e.0) (levels_entries j) ≡ contexts_in ls
    levels_named no_membrane = refl
    levels_named (membrane_and i j) = map_append (λ e. e.0) (level_entries i) (levels_entries j) ∙ cc (level_named i, levels_named j)

  -- an assignment that gives each context what stands there
  abbrev Agrees : (Context → Process) → List (Context × Process) → Type 0
  Agrees f es = (e : Context × Process) → Among e es → f e.0 ≡ e.1

  module _ (f : Context → Process) where
    leaves_standing : {ls : List Leaf} {Ps : List Process} → OneByOne (LeafInstance t) ls Ps → OneByOne (LeafInstance (standing t f)) ls Ps
    leaves_standing no_pairs = no_pairs
    leaves_standing (pair_and of_atom j) = pair_and of_atom (leaves_standing j)
    leaves_standing (pair_and of_connector j) = pair_and of_connector (leaves_standing j)
    leaves_standing (pair_and (of_typed c root) j) = pair_and (of_typed c root) (leaves_standing j)

    contexts_standing : {ps : List Context} {Ps : List Process} (k : OneByOne (ContextInstance t) ps Ps) → Agrees f (entries k) → map f ps ≡ Ps
    unfolding entries
    contexts_standing no_pairs a = refl
    contexts_standing (pair_and {x = p} {y = P} i j) a = cc (a (p, P) at_head, contexts_standing j (λ e k. a e (further k)))

    rules_standing : (qs : List Name) → rules_of_contexts (standing t f) qs ≡ rules_of_contexts t qs
    rules_standing [] = refl
    rules_standing (q ∷ qs) = ap (λ k. together (map rule (t.rules_of q)) ∷ k) (rules_standing qs)

    left_entries : (es fs : List (Context × Process)) → Agrees f (es ++ fs) → Agrees f es
    left_entries es fs a e k = a e (among_left fs k)

    right_entries : (es fs : List (Context × Process)) → Agrees f (es ++ fs) → Agrees f fs
    right_entries es fs a e k = a e (among_right es k)

    mutual
      unfolding level_entries

      literal_level : {l : Level} {C : Process} (i : Instance t l C) → Agrees f (level_entries i) → HeadInstance (standing t f) l C
      literal_level (instance {leaves = leaves} {membranes = membranes} {contexts = ps} {rule_contexts = qs} {rules = rules} {Ps = Ps} {Qs = Qs} i j k) a =
          let h = head_instance {rules = rules} (leaves_standing i) (literal_levels j (right_entries (entries k) (levels_entries j) a)) in
          let e : filling (standing t f) ps qs rules ≡ pair (together _) (pair (together (rules_of_contexts t qs)) (together (map rule (rules_list rules)))) = cc (contexts_standing k (left_entries (entries k) (levels_entries j) a), rules_standing qs) in
          subst (λ F. HeadInstance (standing t f) (level leaves membranes ps qs rules) (pair (together Ps) (pair (together Qs) F))) e h

      literal_levels : {ls : Levels} {Cs : List Process} (j : MembraneInstances t ls Cs) → Agrees f (levels_entries j) → HeadInstances (standing t f) ls Cs
      literal_levels no_membrane a = no_head
      literal_levels (membrane_and i j) a = head_and (literal_level i (left_entries (level_entries i) (levels_entries j) a)) (literal_levels j (right_entries (level_entries i) (levels_entries j) a))

  -- what stands for a context may do so
  module _ (p : Proper t) (v : ℕ → ℕ) where
    abbrev All : List (Context × Process) → Type 0
    All es = (e : Context × Process) → Among e es → MayStand t v e.0 e.1

    both_may : (es fs : List (Context × Process)) → All es → All fs → All (es ++ fs)
    both_may es fs h k e i = either (among_append es fs i) (h e) (k e)

    nothing_may : All []
    nothing_may e i = elim i [ ]

    first_may : {q : Context} {Q : Process} {es : List (Context × Process)} → MayStand t v q Q → All es → All ((q, Q) ∷ es)
    first_may {q} {Q} {es} h k e i = go e i
      where
        go : (e : Context × Process) → Among e ((q, Q) ∷ es) → MayStand t v e.0 e.1
        go e at_head = h
        go e (further i) = k e i

    copy_may : (Q P : Process) → NoRuleAtTop Q → Closed Q → IsCopy Q P → Linked (fused v P) → Joins v P → NoRuleAtTop P × Closed P × Closed (fused v P)
    copy_may Q P n c k l j =
        let d : Closed P = subst Closed (sym k.is) (closed_image k.to Q k.one_to_one c) in
        (subst NoRuleAtTop (sym k.is) (no_rule_image k.to Q n), d, closed_fused v P j d l)

    contexts_may : {ps : List Context} {Ps : List Process} (k : OneByOne (ContextInstance t) ps Ps) → Linked (fused v (together Ps)) → Joins v (together Ps) → All (entries k)
    unfolding entries
    contexts_may no_pairs l j = nothing_may
    contexts_may (pair_and (of_open {p = q}) k) l j = first_may (p.no_rule (open_context q), p.links_apart q) (contexts_may k (linked_right l) j.1)
    contexts_may (pair_and (of_closed {p = q} {P = P} c) k) l j = first_may (copy_may (t.context_of (closed_context q)) P (p.no_rule (closed_context q)) (p.closed q) c (linked_left l) j.0) (contexts_may k (linked_right l) j.1)

    mutual
      unfolding level_entries

      level_may : {l : Level} {C : Process} (i : Instance t l C) → Linked (fused v C) → Joins v C → All (level_entries i)
      level_may (instance i j k) l s = both_may (entries k) (levels_entries j) (contexts_may k (linked_left (linked_right (linked_right l))) s.1.1.0) (levels_may j (linked_left (linked_right l)) s.1.0)

      levels_may : {ls : Levels} {Cs : List Process} (j : MembraneInstances t ls Cs) → Linked (fused v (together Cs)) → Joins v (together Cs) → All (levels_entries j)
      levels_may no_membrane l s = nothing_may
      levels_may (membrane_and i j) l s = both_may (level_entries i) (levels_entries j) (level_may i (linked_inside (linked_left l)) s.0) (levels_may j (linked_right l) s.1)

    -- for a context that isn't there
    other_process : Context → Process
    other_process (open_context q) = t.context_of (open_context q)
    other_process (closed_context q) = nothing

    other_may : (q : Context) → MayStand t v q (other_process q)
    unfolding other_process
    other_may (open_context q) = (p.no_rule (open_context q), p.links_apart q)
    other_may (closed_context q) = (tt, (λ x. inl refl), (λ x. inl refl))

    pub record Literal (l : Level) (C : Process) : Type 0 where
      pub stands : Context → Process
      pub may : (q : Context) → MayStand t v q (stands q)
      pub is : HeadInstance (standing t stands) l C

    pub literal : {l : Level} {C : Process} → Instance t l C → EachOnce (all_contexts l) → Linked (fused v C) → Joins v C → Literal l C
    literal i o l j =
        let es = level_entries i in
        record {
          stands = λ q. look context_or_not q es (other_process q);
          may = λ q. look_holds context_or_not (MayStand t v) q es (other_process q) (level_may i l j) (other_may q);
          is = literal_level (λ q. look context_or_not q es (other_process q)) i (λ e k. look_found context_or_not es e (other_process e.0) (subst EachOnce (sym (level_named i)) o) k);
        }

-- such an assignment is proper where the first is
pub standing_proper : (t : Assignment) (p : Proper t) (v : ℕ → ℕ) (f : Context → Process) → ((q : Context) → MayStand t v q (f q)) → Proper (standing t f)
standing_proper t p v f h = record { links_differ = p.links_differ; no_rule = no_rule; links_apart = λ q. (h (open_context q)).1; closed = λ q. (h (closed_context q)).1; root_is_free = p.root_is_free }
  where
    no_rule : (q : Context) → NoRuleAtTop (f q)
    no_rule (open_context q) = (h (open_context q)).0
    no_rule (closed_context q) = (h (closed_context q)).0
