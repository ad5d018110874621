-- A step shows a rule beside an instance of its head, in a congruent process.
use Rattle.std.proofs.Common.{ℕ, ◌≡◌, ◌≢◌, ◌+◌, ◌≤◌, ◌<◌, ◌⊎◌, List, [], ◌∷◌, map, refl, sym, ◌∙◌, ap, subst, inl, inr, arith, ℤ}
use Rattle.lmn_congruence.specs.Orders.{OneByOne, no_pairs, pair_and}
use Rattle.lmn_congruence.specs.Process.{Process, nothing, connector, atom, pair, membrane, rule, occurrences, Linked, renamed, together, IsCopy}
use Rattle.lmn_congruence.specs.Congruence.{Congruent, regroup, beside, inside, back, chain}
use Rattle.lmn_congruence.specs.Rules.{Name, Context, open_context, closed_context, Leaf, atom_leaf, Level, level, Levels, Rule, head_of, Rules, rules_list, Condition, Expression}
use Rattle.lmn_reduction.specs.Firing.{typed_contexts, Matches, fires}
use Rattle.lmn_reduction.specs.Redexes.{HasRedex, at_top, in_membrane, ShowsRedex}
use Rattle.lmn_congruence.specs.FreeLinks.{link_bound}
use Rattle.lmn_reduction.specs.Assignments.{NoRuleAtTop, Assignment, Proper}
use Rattle.lmn_reduction.specs.Parts.{Rooted}
use Rattle.lmn_reduction.specs.Guards.{GuardHolds, no_condition, condition_and, Holds, of_kind, in_order, binds, alike, unlike}
use Rattle.lmn_guards.specs.Values.{of_number, of_context, of_operation}
use Rattle.lmn_reduction.specs.Values.{Value}
use Rattle.lmn_reduction.specs.Instances.{LeafInstance, of_atom, of_connector, of_typed, ContextInstance, of_open, of_closed, Instance, instance, MembraneInstances, no_membrane, membrane_and, rules_of_contexts}
use Rattle.lmn_reduction.proofs.Copies.{IsRootedCopy, rooted, typed_by}
use Rattle.lmn_reduction.specs.Steps.{leaf, beside as derived_beside, inside as derived_inside, up_to, Step}
use Rattle.lmn_congruence.proofs.Counts.{same_free, linked_both, map_after}
use Rattle.lmn_reduction.proofs.Derivations.{no_right}
use Rattle.lmn_congruence.proofs.Crossings.{occurs_below, occurrences_above}
use Rattle.lmn_congruence.proofs.Renaming.{moved_away, away_free, away_local, away_apart, rename_all, occurrences_image, occurrences_none}
use Rattle.lmn_base.proofs.Numbers.{same_or_not, below_or_from, below_not_above}

-- ---- an instance after a one to one renaming of links

module _ (f : ℕ → ℕ) (one : (x y : ℕ) → f x ≡ f y → x ≡ y) where
  -- what a closed context stands for needn't be renamed, since each place has a copy
  abbrev pub moved_context : Assignment → Context → Process
  moved_context t (open_context p) = renamed f (t.context_of (open_context p))
  moved_context t (closed_context p) = t.context_of (closed_context p)

  abbrev pub moved_assignment : Assignment → Assignment
  moved_assignment t = record { link_of = λ x. f (t.link_of x); context_of = moved_context t; rules_of = t.rules_of; typed_of = t.typed_of }

  pub no_rule_renamed : (P : Process) → NoRuleAtTop P → NoRuleAtTop (renamed f P)
  no_rule_renamed nothing n = tt
  no_rule_renamed (connector x y) n = tt
  no_rule_renamed (atom a xs) n = tt
  no_rule_renamed (pair P Q) n = (no_rule_renamed P n.0, no_rule_renamed Q n.1)
  no_rule_renamed (membrane P) n = tt
  no_rule_renamed (rule r) n = n

  no_rule_moved : (t : Assignment) → Proper t → (q : Context) → NoRuleAtTop (moved_context t q)
  no_rule_moved t p (open_context q) = no_rule_renamed (t.context_of (open_context q)) (p.no_rule (open_context q))
  no_rule_moved t p (closed_context q) = p.no_rule (closed_context q)

  pub moved_proper : (t : Assignment) → Proper t → Proper (moved_assignment t)
  moved_proper t p = record {
    links_differ = λ x y e. p.links_differ x y (one (t.link_of x) (t.link_of y) e);
    no_rule = no_rule_moved t p;
    links_apart = λ q x e. p.links_apart q x (sym (occurrences_image f (t.link_of x) (t.context_of (open_context q)) (λ z o. one z (t.link_of x))) ∙ e);
    closed = p.closed;
    root_is_free = p.root_is_free;
  }

  moved_value : (t : Assignment) {e : Expression} {n : ℤ} → Value t e n → Value (moved_assignment t) e n
  moved_value t of_number = of_number
  moved_value t (of_context i) = of_context i
  moved_value t (of_operation a b d r) = of_operation (moved_value t a) (moved_value t b) d r

  moved_holds : (hs : List Name) (t : Assignment) {c : Condition} → Holds hs t c → Holds hs (moved_assignment t) c
  moved_holds hs t (of_kind k) = of_kind k
  moved_holds hs t (in_order a b s) = in_order (moved_value t a) (moved_value t b) s
  moved_holds hs t (binds n a i) = binds n (moved_value t a) i
  moved_holds hs t (alike a b g h s) = alike a b g h s
  moved_holds hs t (unlike a b g h s) = unlike a b g h s

  pub moved_guard : (hs : List Name) (t : Assignment) {cs : List Condition} → GuardHolds hs t cs → GuardHolds hs (moved_assignment t) cs
  moved_guard hs t no_condition = no_condition
  moved_guard hs t (condition_and h k) = condition_and (moved_holds hs t h) (moved_guard hs t k)

  map_twice : (g : ℕ → ℕ) (xs : List ℕ) → map (λ x. f (g x)) xs ≡ map f (map g xs)
  map_twice g xs = sym (map_after f g (λ x. f (g x)) xs (λ x n. refl))

  renamed_twice : (g : ℕ → ℕ) (P : Process) → renamed f (renamed g P) ≡ renamed (λ x. f (g x)) P
  renamed_twice g nothing = refl
  renamed_twice g (connector x y) = refl
  renamed_twice g (atom a xs) = ap (atom a) (sym (map_twice g xs))
  renamed_twice g (pair P Q) = cc (renamed_twice g P, renamed_twice g Q)
  renamed_twice g (membrane P) = cc (renamed_twice g P)
  renamed_twice g (rule r) = refl

  moved_copy : (g : Rooted) (x : ℕ) (P : Process) → IsRootedCopy g x P → IsRootedCopy g (f x) (renamed f P)
  moved_copy g x P c = record {
    to = λ y. f (c.to y);
    one_to_one = λ y z o o' e. c.one_to_one y z o o' (one (c.to y) (c.to z) e);
    root = ap f c.root;
    is = ap (renamed f) c.is ∙ renamed_twice c.to g.process;
  }

  moved_leaf : (t : Assignment) {l : Leaf} {P : Process} → LeafInstance t l P → LeafInstance (moved_assignment t) l (renamed f P)
  moved_leaf t (of_atom {a = a} {xs = xs}) = let e : atom a (map (λ x. f (t.link_of x)) xs) ≡ atom a (map f (map t.link_of xs)) = ap (atom a) (map_twice t.link_of xs) in
      subst (λ k. LeafInstance (moved_assignment t) (atom_leaf a xs) k) e of_atom
  moved_leaf t of_connector = of_connector
  moved_leaf t (of_typed {p = p} {x = x} {P = P} c root) = typed_by (moved_copy (t.typed_of p) (t.link_of x) P (rooted (t.typed_of p) (t.link_of x) P c root))

  moved_leaves : (t : Assignment) {ls : List Leaf} {Ps : List Process} → OneByOne (LeafInstance t) ls Ps → OneByOne (LeafInstance (moved_assignment t)) ls (map (renamed f) Ps)
  moved_leaves t no_pairs = no_pairs
  moved_leaves t (pair_and i j) = pair_and (moved_leaf t i) (moved_leaves t j)

  moved_closed : (Q P : Process) → IsCopy Q P → IsCopy Q (renamed f P)
  moved_closed Q P c = record {
    to = λ y. f (c.to y);
    one_to_one = λ y z o o' e. c.one_to_one y z o o' (one (c.to y) (c.to z) e);
    is = ap (renamed f) c.is ∙ renamed_twice c.to Q;
  }

  moved_one : (t : Assignment) {p : Context} {P : Process} → ContextInstance t p P → ContextInstance (moved_assignment t) p (renamed f P)
  moved_one t of_open = of_open
  moved_one t (of_closed {p = p} {P = P} c) = of_closed (moved_closed (t.context_of (closed_context p)) P c)

  moved_contexts : (t : Assignment) {ps : List Context} {Ps : List Process} → OneByOne (ContextInstance t) ps Ps → OneByOne (ContextInstance (moved_assignment t)) ps (map (renamed f) Ps)
  moved_contexts t no_pairs = no_pairs
  moved_contexts t (pair_and i j) = pair_and (moved_one t i) (moved_contexts t j)

  renamed_together : (Ps : List (Process)) → together (map (renamed f) Ps) ≡ renamed f (together Ps)
  renamed_together [] = refl
  renamed_together (P ∷ Ps) = ap (pair (renamed f P)) (renamed_together Ps)

  renamed_rules : (rs : List Rule) → together (map rule rs) ≡ renamed f (together (map rule rs))
  renamed_rules [] = refl
  renamed_rules (r ∷ rs) = ap (pair (rule r)) (renamed_rules rs)

  renamed_rule_contexts : (t : Assignment) (rs : List Name) → together (rules_of_contexts t rs) ≡ renamed f (together (rules_of_contexts t rs))
  renamed_rule_contexts t [] = refl
  renamed_rule_contexts t (r ∷ rs) = cc (renamed_rules (t.rules_of r), renamed_rule_contexts t rs)

  rebuilt : (t : Assignment) (leaves : List Leaf) (membranes : Levels) (contexts : List Context) (rule_contexts : List Name) (rules : Rules) (Ps Qs Cs : List Process)
      → OneByOne (LeafInstance (moved_assignment t)) leaves (map (renamed f) Ps) → MembraneInstances (moved_assignment t) membranes (map (renamed f) Qs) → OneByOne (ContextInstance (moved_assignment t)) contexts (map (renamed f) Cs)
      → Instance (moved_assignment t) (level leaves membranes contexts rule_contexts rules)
      (pair (renamed f (together Ps)) (pair (renamed f (together Qs)) (pair (renamed f (together Cs)) (pair (renamed f (together (rules_of_contexts t rule_contexts))) (renamed f (together (map rule (rules_list rules))))))))
  rebuilt t leaves membranes contexts rule_contexts rules Ps Qs Cs i j k =
      rw (← renamed_together Ps, ← renamed_together Qs, ← renamed_together Cs, ← renamed_rule_contexts t rule_contexts, ← renamed_rules (rules_list rules)) (instance i j k)

  mutual
    pub moved_instance : (t : Assignment) {l : Level} {P : Process} → Instance t l P → Instance (moved_assignment t) l (renamed f P)
    moved_instance t (instance {leaves = leaves} {membranes = membranes} {contexts = contexts} {rule_contexts = rule_contexts} {rules = rules} {Ps = Ps} {Qs = Qs} {Cs = Cs} i j k) =
        rebuilt t leaves membranes contexts rule_contexts rules Ps Qs Cs (moved_leaves t i) (moved_membranes t j) (moved_contexts t k)

    moved_membranes : (t : Assignment) {ls : Levels} {Ps : List Process} → MembraneInstances t ls Ps → MembraneInstances (moved_assignment t) ls (map (renamed f) Ps)
    moved_membranes t no_membrane = no_membrane
    moved_membranes t (membrane_and i j) = membrane_and (moved_instance t i) (moved_membranes t j)

  pub moved_matches : (r : Rule) (A : Process) → Matches r A → Matches r (renamed f A)
  moved_matches r A m = record {
    assignment = moved_assignment m.assignment;
    proper = moved_proper m.assignment m.proper;
    guard = moved_guard (typed_contexts (head_of r)) m.assignment m.guard;
    head = moved_instance m.assignment m.head;
  }

  pub moved_redex : {P : Process} → HasRedex P → HasRedex (renamed f P)
  moved_redex (at_top {r = r} {A = A} m) = at_top (moved_matches r A m)
  moved_redex (in_membrane d) = in_membrane (moved_redex d)

-- ---- what a step shows

linked_beside : (P P₀ P₁ Q : Process) (K : ℕ) → Congruent P P₀ → Congruent P₀ P₁ → Linked (pair P Q) → ((x : ℕ) → K ≤ x → occurrences x Q ≡ 0) → ((z : ℕ) → z < K → occurrences z P₀ ≢ 1 → occurrences z P₁ ≡ 0) → Linked (pair P₁ Q)
linked_beside P P₀ P₁ Q K c d l high low = record { at_most_twice = λ z. go z (below_or_from z K) (same_or_not (occurrences z P₀) 1) }
  where
    go : (z : ℕ) → (z < K) ⊎ (K ≤ z) → (occurrences z P₀ ≡ 1) ⊎ (occurrences z P₀ ≢ 1) → occurrences z P₁ + occurrences z Q ≤ 2
    go z (inr b) k = omega (arith, high z b, (linked_both d).1.at_most_twice z)
    go z (inl b) (inl f) = omega (arith, (same_free c z).back_again f, (same_free d z).there f, l.at_most_twice z)
    go z (inl b) (inr f) = omega (arith, low z b f, l.at_most_twice z)

-- a redex beside another process
redex_beside : {P Q : Process} → HasRedex P → Linked (pair P Q) → ShowsRedex (pair P Q)
redex_beside {Q = Q} (at_top {r = r} {A = A} {P = P} m) l =
    record { process = pair (pair A (rule r)) (pair P Q); congruent = back (regroup (record { at_most_twice = λ z. omega (arith, l.at_most_twice z) })); redex = at_top m }
redex_beside {Q = S} (in_membrane {P = P} {Q = Q} d) l =
    record { process = pair (membrane P) (pair Q S); congruent = back (regroup (record { at_most_twice = λ z. omega (arith, l.at_most_twice z) })); redex = in_membrane d }

shown_beside : {P Q : Process} → ShowsRedex P → Linked (pair P Q) → ShowsRedex (pair P Q)
shown_beside {P = P} {Q = Q} s l =
    let P₀ = s.process in
    let K : ℕ = link_bound P₀ + link_bound Q in
    let f = moved_away K P₀ in
    let one = away_apart K P₀ (λ x o. omega (arith, occurs_below P₀ x o)) in
    let d = rename_all f P₀ (linked_both s.congruent).1 (λ x y o o' e. one x y e) (λ x e. away_free K x P₀ e) in
    let m : Linked (pair (renamed f P₀) Q) = linked_beside P P₀ (renamed f P₀) Q K s.congruent d l (λ x b. occurrences_above x Q (omega arith)) (λ z b e. occurrences_none f z P₀ (λ x o. away_not K x z P₀ b e)) in
    let t = redex_beside (moved_redex f one s.redex) m in
    record { process = t.process; congruent = chain (beside (chain s.congruent d) l m) t.congruent; redex = t.redex }
  where
    away_not : (K x z : ℕ) (P : Process) → z < K → occurrences z P ≢ 1 → moved_away K P x ≢ z
    away_not K x z P b e = go (same_or_not (occurrences x P) 1)
      where
        go : (occurrences x P ≡ 1) ⊎ (occurrences x P ≢ 1) → moved_away K P x ≢ z
        go (inl f) = λ q. e (ap (λ k. occurrences k P) (sym q ∙ away_free K x P f) ∙ f)
        go (inr f) = λ q. below_not_above K z x b (sym q ∙ away_local K x P f)

shown_inside : {P : Process} → ShowsRedex P → ShowsRedex (membrane P)
shown_inside {P = P} s =
    let here : Process = membrane s.process in let l : Linked here = record { at_most_twice = (linked_both s.congruent).1.at_most_twice } in
    record { process = pair (membrane s.process) nothing; congruent = chain (inside s.congruent) (back (no_right l)); redex = in_membrane s.redex }

-- Where a step is possible, some congruent process has, at its top or in one of its membranes,
-- a rule beside an instance of its head, for one assignment for which the guard holds.
pub step_shows : {P Q : Process} → Step P Q → ShowsRedex P
step_shows (leaf (fires {r = r} {A = A} f) l l') = record { process = pair (pair A (rule r)) nothing; congruent = back (no_right l); redex = at_top f.matches }
step_shows (derived_beside d l l') = shown_beside (step_shows d) l
step_shows (derived_inside d) = shown_inside (step_shows d)
step_shows (up_to c d e) = let s = step_shows d in record { process = s.process; congruent = chain c s.congruent; redex = s.redex }
