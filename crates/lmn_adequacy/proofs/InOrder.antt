-- The next solid with its lists in order is one up to order.
use Rattle.std.proofs.Common.{ℕ, zero, suc, cond, eqb, Bool, true, false, List, map, refl, sym, ap, subst, ◌≡◌, [], ◌∷◌, ◌++◌, ◌∙◌}
use Rattle.lmn_congruence.specs.Fused.{Joins, fused}
use Rattle.lmn_congruence.specs.LinkedRules.{level_occurrences}
use Rattle.lmn_congruence.specs.Orders.{Put, here, there, OneByOne, no_pairs, pair_and}
use Rattle.lmn_congruence.specs.Plains.{leaf_process, level_process, levels_processes}
use Rattle.lmn_congruence.specs.Process.{Closed, Free, OneToOneOn, Process, atom, connector, membrane, pair, renamed, rule, together, IsCopy}
use Rattle.lmn_congruence.specs.Regions.{Region, Regions, SolidAtom, atom_process, no_region, region, region_and, region_process, regions_processes}
use Rattle.lmn_congruence.specs.Rules.{Context, Leaf, Level, Levels, Name, Rule, Rules, atom_leaf, closed_context, connector_leaf, head_of, level, no_rule, open_context, rules_list}
use Rattle.lmn_congruence.specs.Translation.{levels, rules as listed_rules}
use Rattle.lmn_congruence.specs.UpToOrder.{Reordered, r_back, r_beside, r_chain, r_inside, r_regroup, r_same, r_swap, r_unit}
use Rattle.lmn_reduction.specs.Assignments.{Assignment, NoRuleAtTop}
use Rattle.lmn_reduction.specs.Instances.{ContextInstance, Instance, MembraneInstances, instance, membrane_and, no_membrane, of_closed, of_open, of_atom, of_connector, rules_of_contexts, LeafInstance}
use Rattle.lmn_reduction.proofs.Copies.{IsRootedCopy, typed_by}
use Rattle.lmn_reduction.proofs.Plains.{level_reordered}
use Rattle.lmn_congruence.proofs.Reordered.{r_right, reordered_count}
use Rattle.lmn_congruence.proofs.Solids.{put_together, region_plain}
use Rattle.lmn_adequacy.specs.Embedding.{EmbedsAt, TakenRegion, region_first, region_later, Contents, LeftToContext, LeftToRuleContext, assignment_of, no_context, no_rule_context, one_context, one_rule_context, LevelLies, MembranesLie, level_lies, membrane_lies, no_membrane_lies, LeftTo, region_of}
use Rattle.lmn_adequacy.specs.Loose.{Plain, filling, EachLeft, EachLeftIn, EmbedsLoosely, LevelImages, MembraneImages, level_images, membrane_image_and, no_membrane_image}
use Rattle.lmn_adequacy.specs.Next.{MadeLeaves, MadeLevel, MadeMembranes, NextAt, RawAt, context_rules, fires_below, fires_here, kept_atoms, kept_level, kept_membranes, made_atom, part_leaves, made_connector, made_copy, made_level, made_membrane, no_made_leaf, no_made_membrane, raw_level, replaced, wire_leaves, MadeContext, MadeContexts, made_closed, made_context, made_open, no_made_context}
use Rattle.lmn_adequacy.proofs.Commits.{closed_as}
use Rattle.lmn_adequacy.proofs.Embedding.{part_order}
use Rattle.lmn_adequacy.proofs.Exposing.{Source, found, missing, source}
use Rattle.lmn_adequacy.proofs.Images.{renamed_renamed, reordered_fused}
use Rattle.lmn_adequacy.proofs.Orders.{r_both, r_exchange, r_over, taken_put}
use Rattle.lmn_adequacy.proofs.RawProcesses.{NextUpToOrder, Raw, head_wires, made, raw_below, raw_here}
use Rattle.lmn_adequacy.proofs.Skeleton.{at_odd, by_parity}
use Rattle.lmn_congruence.proofs.Renaming.{occurrences_none, renamed_agree}
use Rattle.lmn_congruence_splice.proofs.Fusions.{solid_once as odd_differs}
use Rattle.lmn_congruence_splice.specs.Splice.{of_rule, of_solid}
use Rattle.lmn_congruence.proofs.Common.{rules_listed}
use Rattle.lmn_reduction.proofs.Derivations.{alone as r_alone}

-- ---- processes of levels in lists

-- a level as a membrane
abbrev pub held : Level → Process
held l = membrane (level_process l)

-- the processes of some levels, each in its membrane
pub levels_listed : (ls : List Level) → levels_processes (levels ls) ≡ map held ls
levels_listed [] = refl
levels_listed (l ∷ ls) = ap (λ k. held l ∷ k) (levels_listed ls)

-- the process of lists of leaves, membranes and rules
abbrev pub listed : List Leaf → List Level → List Rule → Process
listed leaves ms rs = pair (together (map leaf_process leaves)) (pair (together (map held ms)) (together (map rule rs)))

-- a level of lists has the process of these lists
pub level_listed : (leaves : List Leaf) (ms : List Level) (rs : List Rule) → level_process (level leaves (levels ms) [] [] (listed_rules rs)) ≡ listed leaves ms rs
level_listed leaves ms rs = cc (levels_listed ms, rules_listed rs)

-- what two lists give is what both give side by side, up to grouping
pub together_both : {A : Type 0} (g : A → Process) (xs ys : List A) → Reordered (together (map g (xs ++ ys))) (pair (together (map g xs)) (together (map g ys)))
together_both g [] ys = r_back r_unit
together_both g (x ∷ xs) ys = r_chain (r_right (together_both g xs ys)) r_regroup

-- the process of lists joined is that of both side by side, up to order
pub listed_both : (ls ls' : List Leaf) (ms ms' : List Level) (rs rs' : List Rule) → Reordered (listed (ls ++ ls') (ms ++ ms') (rs ++ rs')) (pair (listed ls ms rs) (listed ls' ms' rs'))
listed_both ls ls' ms ms' rs rs' =
    r_chain (r_both (together_both leaf_process ls ls') (r_chain (r_both (together_both held ms ms') (together_both rule rs rs')) r_exchange)) r_exchange

-- ---- what stays

kept_atoms_process : (xs : List SolidAtom) → together (map leaf_process (kept_atoms xs)) ≡ renamed of_solid (together (map atom_process xs))
kept_atoms_process [] = refl
kept_atoms_process (x ∷ xs) = ap (pair (atom x.label (map of_solid x.links))) (kept_atoms_process xs)

rules_stay : (rs : List Rule) → together (map rule rs) ≡ renamed of_solid (together (map rule rs))
rules_stay [] = refl
rules_stay (r ∷ rs) = ap (pair (rule r)) (rules_stay rs)

kept_listed_from : (xs : List SolidAtom) (ms : Regions) (rs : List Rule) → together (map held (kept_membranes ms)) ≡ renamed of_solid (together (regions_processes ms)) → listed (kept_atoms xs) (kept_membranes ms) rs ≡ renamed of_solid (region_process (region xs ms rs))
kept_listed_from xs ms rs e = cc (kept_atoms_process xs, e, rules_stay rs)

mutual
  -- a level that stays has the process of its region
  pub kept_level_process : (m : Region) → level_process (kept_level m) ≡ renamed of_solid (region_process m)
  kept_level_process (region xs ms rs) = level_listed (kept_atoms xs) (kept_membranes ms) rs ∙ kept_listed_from xs ms rs (kept_membranes_process ms)

  kept_membranes_process : (ms : Regions) → together (map held (kept_membranes ms)) ≡ renamed of_solid (together (regions_processes ms))
  kept_membranes_process no_region = refl
  kept_membranes_process (region_and m ms) = cc (kept_level_process m, kept_membranes_process ms)

-- what stays of a region is the process of the region, with the links of the solid
pub kept_listed : (xs : List SolidAtom) (ms : Regions) (rs : List Rule) → listed (kept_atoms xs) (kept_membranes ms) rs ≡ renamed of_solid (region_process (region xs ms rs))
kept_listed xs ms rs = kept_listed_from xs ms rs (kept_membranes_process ms)

-- ---- what the body makes

made_atoms_process : (xs : List SolidAtom) → together (map leaf_process (part_leaves xs)) ≡ together (map atom_process xs)
made_atoms_process [] = refl
made_atoms_process (x ∷ xs) = ap (pair (atom_process x)) (made_atoms_process xs)

wires_process : (t : Assignment) (l : Level) (n : ℕ) → together (map leaf_process (wire_leaves t.link_of l n)) ≡ head_wires t l n
wires_process t l zero = refl
wires_process t l (suc n) = go (eqb (level_occurrences n l) 1) (wires_process t l n)
  where
    go : (b : Bool) → together (map leaf_process (wire_leaves t.link_of l n)) ≡ head_wires t l n
        → together (map leaf_process (cond b (connector_leaf (of_rule n) (of_solid (t.link_of n)) ∷ wire_leaves t.link_of l n) (wire_leaves t.link_of l n))) ≡ cond b (pair (connector (of_rule n) (of_solid (t.link_of n))) (head_wires t l n)) (head_wires t l n)
    go true e = ap (pair (connector (of_rule n) (of_solid (t.link_of n)))) e
    go false e = e

module _ (c : Contents) where
  abbrev t : Assignment
  t = assignment_of c

  record LeavesProcess (ls : List Leaf) (P : Process) : Type 0 where
    pub processes : List Process
    pub instances : OneByOne (LeafInstance (made t)) ls processes
    pub order : Reordered P (together processes)

  leaves_process : {ls outs : List Leaf} → MadeLeaves c ls outs → LeavesProcess ls (together (map leaf_process outs))
  leaves_process no_made_leaf = record { processes = []; instances = no_pairs; order = r_same refl }
  leaves_process (made_atom {a = a} {xs = xs} d) = let u = leaves_process d in record { processes = atom a (map of_rule xs) ∷ u.processes; instances = pair_and of_atom u.instances; order = r_right u.order }
  leaves_process (made_connector {x = x} {y = y} d) = let u = leaves_process d in record { processes = connector (of_rule x) (of_rule y) ∷ u.processes; instances = pair_and of_connector u.instances; order = r_right u.order }
  leaves_process (made_copy {p = p} {x = x} {part = part} {outs = outs} i o d) =
      let u = leaves_process d in
      let g = c.typed_of p in
      let k : IsRootedCopy g (of_rule x) (renamed i.to g.process) = record { to = i.to; one_to_one = i.one_to_one; root = i.root; is = refl } in
      record {
        processes = renamed i.to g.process ∷ u.processes;
        instances = pair_and (typed_by k) u.instances;
        order = r_chain (together_both leaf_process (part_leaves part) outs) (r_both (r_chain (r_same (made_atoms_process part)) (r_back (part_order i.to g.process part i.only_atoms i.atoms))) u.order);
      }

  -- what untyped contexts, rule contexts and rules stand for

  -- where one process is a copy of another one, it is so beside the links of the rule
  region_copied : (R m : Region) → IsCopy (region_process R) (region_process m) → IsCopy (renamed of_solid (region_process R)) (renamed of_solid (region_process m))
  region_copied R m i = record { to = by_parity of_rule (λ y. of_solid (i.to y)); one_to_one = one; is = same }
    where
      moves : (x : ℕ) → by_parity of_rule (λ y. of_solid (i.to y)) (of_solid x) ≡ of_solid (i.to x)
      moves x = at_odd of_rule (λ y. of_solid (i.to y)) x

      same : renamed of_solid (region_process m) ≡ renamed (by_parity of_rule (λ y. of_solid (i.to y))) (renamed of_solid (region_process R))
      same =
          ap (renamed of_solid) i.is ∙ renamed_renamed of_solid i.to (region_process R)
          ∙ renamed_agree (λ x. of_solid (i.to x)) (λ x. by_parity of_rule (λ y. of_solid (i.to y)) (of_solid x)) (region_process R) (λ x o. sym (moves x))
          ∙ sym (renamed_renamed (by_parity of_rule (λ y. of_solid (i.to y))) of_solid (region_process R))

      one : OneToOneOn (by_parity of_rule (λ y. of_solid (i.to y))) (renamed of_solid (region_process R))
      one x y o o' e = go (source of_solid (region_process R) x) (source of_solid (region_process R) y)
        where
          go : Source of_solid (region_process R) x → Source of_solid (region_process R) y → x ≡ y
          go (missing h) v = absurd (o (occurrences_none of_solid x (region_process R) h))
          go u (missing h) = absurd (o' (occurrences_none of_solid y (region_process R) h))
          go (found a p q) (found b p' q') =
              let d : of_solid (i.to a) ≡ of_solid (i.to b) = sym (moves a) ∙ ap (by_parity of_rule (λ y. of_solid (i.to y))) q ∙ e ∙ sym (ap (by_parity of_rule (λ y. of_solid (i.to y))) q') ∙ moves b in
              sym q ∙ ap of_solid (i.one_to_one a b p p' (odd_differs (i.to a) (i.to b) d)) ∙ q'

  context_process : {p : Context} {m : Region} → MadeContext c p m → (Q : Process) × ContextInstance (made t) p Q × (Q ≡ renamed of_solid (region_process m))
  context_process (made_open {p = p}) = (renamed of_solid (t.context_of (open_context p)), of_open, refl)
  context_process (made_closed {p = p} {m = m} i) = (renamed of_solid (region_process m), of_closed (region_copied (region_of c (closed_context p)) m i), refl)

  kept_append : (xs ys : List SolidAtom) → kept_atoms (xs ++ ys) ≡ kept_atoms xs ++ kept_atoms ys
  kept_append [] ys = refl
  kept_append (x ∷ xs) ys = ap (λ k. atom_leaf x.label (map of_solid x.links) ∷ k) (kept_append xs ys)

  -- the items of two contexts side by side
  pub contexts_both : (xs ys : List SolidAtom) (ms : Regions) (ks : List Level) → Reordered (listed (kept_atoms (xs ++ ys)) (kept_membranes ms ++ ks) []) (pair (renamed of_solid (region_process (region xs ms []))) (listed (kept_atoms ys) ks []))
  contexts_both xs ys ms ks =
      r_chain (r_same (ap (λ k. listed k (kept_membranes ms ++ ks) []) (kept_append xs ys)))
      (r_chain (listed_both (kept_atoms xs) (kept_atoms ys) (kept_membranes ms) ks [] []) (r_beside (r_same (kept_listed xs ms []))))

  pub record ContextsProcess (ps : List Context) (P : Process) : Type 0 where
    pub processes : List Process
    pub instances : OneByOne (ContextInstance (made t)) ps processes
    pub order : Reordered P (together processes)

  contexts_process : {ps : List Context} {xs : List SolidAtom} {ks : List Level} → MadeContexts c ps xs ks → ContextsProcess ps (listed (kept_atoms xs) ks [])
  contexts_process no_made_context = record { processes = []; instances = no_pairs; order = r_chain r_unit r_unit }
  contexts_process (made_context {xs = xs} {ys = ys} {ms = ms} {ks = ks} i j) =
      let u = context_process i in
      let v = contexts_process j in
      record { processes = u.0 ∷ v.processes; instances = pair_and u.1 v.instances; order = r_chain (contexts_both xs ys ms ks) (r_both (r_same (sym u.2)) v.order) }

  rules_together : (ps : List Name) → Reordered (together (map rule (context_rules c ps))) (together (rules_of_contexts (made t) ps))
  rules_together [] = r_same refl
  rules_together (p ∷ ps) = r_chain (together_both rule (c.rules_of p) (context_rules c ps)) (r_right (rules_together ps))

  pub record LevelProcess (l : Level) (P : Process) : Type 0 where
    pub process : Process
    pub is : Instance (made t) l process
    pub order : Reordered P process

  pub record MembranesProcess (ls : Levels) (P : Process) : Type 0 where
    pub processes : List Process
    pub instances : MembraneInstances (made t) ls processes
    pub order : Reordered P (together processes)

  level_joined : (leaves outs : List Leaf) (membranes : Levels) (made_ms ks : List Level) (ps : List Context) (qs : List Name) (rules : Rules) (xs : List SolidAtom) → LeavesProcess leaves (together (map leaf_process outs)) → MembranesProcess membranes (together (map held made_ms))
      → ContextsProcess ps (listed (kept_atoms xs) ks []) → LevelProcess (level leaves membranes ps qs rules) (listed (outs ++ kept_atoms xs) (made_ms ++ ks) (rules_list rules ++ context_rules c qs))
  level_joined leaves outs membranes made_ms ks ps qs rules xs u v w =
      let A = together u.processes in
      let M = together v.processes in
      let C = together w.processes in
      let Q = together (rules_of_contexts (made t) qs) in
      let R = together (map rule (rules_list rules)) in
      let L = listed outs made_ms (rules_list rules) in
      let X = together (map leaf_process (kept_atoms xs)) in
      let Y = together (map held ks) in
      let Z = together (map rule (context_rules c qs)) in
      let d : Reordered (listed (outs ++ kept_atoms xs) (made_ms ++ ks) (rules_list rules ++ context_rules c qs)) (pair L (pair X (pair Y Z))) =
      listed_both outs (kept_atoms xs) made_ms ks (rules_list rules) (context_rules c qs) in
      let e : Reordered L (pair A (pair M R)) = r_both u.order (r_beside v.order) in
      let f : Reordered (pair X (pair Y Z)) (pair C Q) = r_chain r_regroup (r_chain (r_beside (r_right r_alone)) (r_both w.order (rules_together qs))) in
      record { process = pair A (pair M (pair C (pair Q R))); is = instance u.instances v.instances w.instances; order = r_chain d (r_chain (r_both e f) (r_chain (r_back r_regroup) (r_right (r_chain (r_back r_regroup) (r_right (r_chain r_swap (r_back r_regroup))))))) }

  mutual
    pub made_process : {l : Level} {outs : List Leaf} {made_ms : List Level} {rs : List Rule} → MadeLevel c l outs made_ms rs → LevelProcess l (listed outs made_ms rs)
    made_process (made_level {leaves = leaves} {outs = outs} {membranes = membranes} {made = made_ms} {ks = ks} {contexts = ps} {rule_contexts = qs} {rules = rules} {xs = xs} i j k) =
        level_joined leaves outs membranes made_ms ks ps qs rules xs (leaves_process i) (membranes_process j) (contexts_process k)

    membranes_process : {ls : Levels} {made_ms : List Level} → MadeMembranes c ls made_ms → MembranesProcess ls (together (map held made_ms))
    membranes_process no_made_membrane = record { processes = []; instances = no_membrane; order = r_same refl }
    membranes_process (made_membrane {outs = outs} {inner = inner} {rs = rs} i j) =
        let u = made_process i in
        let v = membranes_process j in
        record { processes = membrane u.process ∷ v.processes; instances = membrane_and u.is v.instances; order = r_both (r_inside (r_chain (r_same (level_listed outs inner rs)) u.order)) v.order }

-- the filling of a membrane whose rest is left to its contexts
pub literal_filling : (c : Contents) {ps : List Context} {qs : List Name} {xs : List SolidAtom} {ms : Regions} {rs : List Rule} → LeftToContext c ps xs ms → LeftToRuleContext c qs rs → Reordered (filling (assignment_of c) ps qs no_rule) (region_process (region xs ms rs))
literal_filling c no_context no_rule_context = r_same refl
literal_filling c one_context no_rule_context = r_chain (r_both (r_back r_alone) r_unit) (r_back r_alone)
literal_filling c no_context one_rule_context = r_right (r_chain (r_back r_alone) (r_chain (r_back r_alone) (r_back r_unit)))
literal_filling c one_context one_rule_context = r_chain (r_both (r_back r_alone) (r_chain (r_back r_alone) (r_back r_alone))) (r_chain (r_back r_regroup) (r_right (r_chain (r_back r_regroup) (r_right r_unit))))

-- the same of a region that is left
pub left_filling : (c : Contents) (ps : List Context) (qs : List Name) (rest : Region) → LeftTo c ps qs rest → Reordered (filling (assignment_of c) ps qs no_rule) (region_process rest)
left_filling c ps qs (region xs ms rs) u = literal_filling c u.0 u.1

-- ---- the raw process of a raw level

atoms_no_rule : (xs : List SolidAtom) → NoRuleAtTop (together (map atom_process xs))
atoms_no_rule [] = tt
atoms_no_rule (x ∷ xs) = (tt, atoms_no_rule xs)

membranes_no_rule : (ms : Regions) → NoRuleAtTop (together (regions_processes ms))
membranes_no_rule no_region = tt
membranes_no_rule (region_and m ms) = (tt, membranes_no_rule ms)

-- contents that are closed where they must be, and whose roots are free, are a plain assignment
pub contents_plain : (c : Contents) → ((p : Name) → Closed (region_process (region_of c (closed_context p)))) → ((p : Name) → Free (c.typed_of p).root (c.typed_of p).process) → Plain (assignment_of c)
contents_plain c k f = record {
  closed = k;
  no_connector = λ p. region_plain (region (c.atoms_of p) (c.membranes_of p) []);
  no_rule = λ p. (atoms_no_rule (c.atoms_of p), (membranes_no_rule (c.membranes_of p), tt));
  root_is_free = f;
}

-- what lies in a region has images there, up to order, each with what its contexts stand for
abbrev mutual
  pub level_images_of : {c : Contents} {l : Level} {ns : List ℕ} {m rest : Region} → LevelLies c l ns m rest → LevelImages (assignment_of c) l ns m rest
  level_images_of (level_lies i j k) = level_images i j (membrane_images_of k)

  pub membrane_images_of : {c : Contents} {ls : Levels} {ns : List ℕ} {ms rest : Regions} → MembranesLie c ls ns ms rest → MembraneImages (assignment_of c) ls ns ms rest
  membrane_images_of no_membrane_lies = no_membrane_image
  membrane_images_of {c} (membrane_lies {contexts = ps} {rule_contexts = qs} {rest_membranes = rest_membranes} {rest_atoms = rest_atoms} {rest_rules = rest_rules} k i a u q) =
      membrane_image_and k (level_images_of i) a (left_filling c ps qs (region rest_atoms rest_membranes rest_rules) u) (membrane_images_of q)

mutual
  pub each_left_of : {c : Contents} {l : Level} {ns : List ℕ} {m rest : Region} (i : LevelLies c l ns m rest) → EachLeft c (level_images_of i)
  each_left_of (level_lies i j k) = each_left_in k

  each_left_in : {c : Contents} {ls : Levels} {ns : List ℕ} {ms rest : Regions} (k : MembranesLie c ls ns ms rest) → EachLeftIn c (membrane_images_of k)
  each_left_in no_membrane_lies = tt
  each_left_in (membrane_lies k i a u q) = (u, each_left_of i, each_left_in q)

-- an embedding is one up to order
abbrev pub embeds_loosely : {r : Rule} {f : List ℕ} {m : Region} → EmbedsAt r f m → EmbedsLoosely r f m
embeds_loosely e = record { assignment = assignment_of e.contents; rest = e.rest; plain = contents_plain e.contents e.closed e.root_is_free; images = level_images_of e.lies; guard = e.guard }

-- a level has the raw process of a firing, up to order
pub record RawProcess (S : Region) (L : Level) : Type 0 where
  pub process : Process
  pub raw : Raw S process
  pub order : Reordered (level_process L) process

-- a region with what the body makes beside it is what the firing leaves, up to order
pub raw_joined : (t : Assignment) (l : Level) (n : ℕ) (B : Process) (rest : Region) (outs : List Leaf) (made_ms : List Level) (rs : List Rule) → Reordered (listed outs made_ms rs) B
    → Reordered (level_process (raw_level rest (wire_leaves t.link_of l n) outs made_ms rs)) (pair B (pair (head_wires t l n) (renamed of_solid (region_process rest))))
raw_joined t l n B (region xs ms rs') outs made_ms rs o =
    let W = wire_leaves t.link_of l n in
    let K = listed (kept_atoms xs) (kept_membranes ms) rs' in
    let d : Reordered (listed (W ++ outs) made_ms rs) (pair (head_wires t l n) B) = r_chain (r_beside (r_chain (together_both leaf_process W outs) (r_beside (r_same (wires_process t l n))))) (r_chain (r_back r_regroup) (r_right o)) in
    r_chain (r_same (level_listed (kept_atoms xs ++ (W ++ outs)) (kept_membranes ms ++ made_ms) (rs' ++ rs)))
    (r_chain (listed_both (kept_atoms xs) (W ++ outs) (kept_membranes ms) made_ms rs' rs)
    (r_chain (r_both (r_same (kept_listed xs ms rs')) d) (r_chain r_swap (r_chain (r_beside r_swap) (r_back r_regroup)))))

-- a level put in the place of a membrane stands among the membranes that are kept
pub replaced_put : {n : ℕ} {m : Region} {ms ms' : Regions} (L : Level) → TakenRegion n m ms ms' → Put (held L) (map held (kept_membranes ms')) (map held (replaced n L (kept_membranes ms)))
replaced_put L region_first = here
replaced_put L (region_later k) = there (replaced_put L k)

-- the level that a firing leaves is one of its raw processes
pub raw_process : {path : List ℕ} {k : ℕ} {f : List ℕ} {S : Region} {L : Level} → RawAt path k f S L → RawProcess S L
raw_process (fires_here {r = r} {f = f} {xs = xs} {ms = ms} {rs = rs} {L = L} stands F) =
    let c = F.at.contents in
    let t = assignment_of c in
    let b = made_process c F.makes in
    record {
      process = pair b.process (pair (head_wires t (head_of r) F.bound) (renamed of_solid (region_process F.at.rest)));
      raw = raw_here (record { at = embeds_loosely F.at; body = b.process; is_body = b.is; bound = F.bound; bounded = F.bounded; is = refl }) (taken_put stands);
      order = r_chain (r_same (ap level_process F.is)) (raw_joined t (head_of r) F.bound b.process F.at.rest F.outs F.made_membranes F.made_rules b.order);
    }
raw_process (fires_below {n = n} {xs = xs} {ms = ms} {ms' = ms'} {rs = rs} {L = L} taken R) =
    let u = raw_process R in
    let Q = region xs ms' rs in
    record {
      process = pair (membrane u.process) (renamed of_solid (region_process Q));
      raw = raw_below taken u.raw;
      order =
          r_chain (r_same (level_listed (kept_atoms xs) (replaced n L (kept_membranes ms)) rs))
          (r_chain (r_right (r_chain (r_beside (r_back (put_together (replaced_put L taken)))) (r_back r_regroup)))
          (r_chain r_over (r_both (r_inside u.order) (r_same (kept_listed xs ms' rs)))));
    }

-- ---- the law

joins_reordered : (v : ℕ → ℕ) {P Q : Process} → Reordered P Q → (Joins v P → Joins v Q) × (Joins v Q → Joins v P)
joins_reordered v r_unit = ((λ j. j.1), (λ j. (tt, j)))
joins_reordered v r_swap = ((λ j. (j.1, j.0)), (λ j. (j.1, j.0)))
joins_reordered v r_regroup = ((λ j. ((j.0, j.1.0), j.1.1)), (λ j. (j.0.0, (j.0.1, j.1))))
joins_reordered v (r_beside d) = let i = joins_reordered v d in ((λ j. (i.0 j.0, j.1)), (λ j. (i.1 j.0, j.1)))
joins_reordered v (r_inside d) = joins_reordered v d
joins_reordered v (r_same e) = (subst (Joins v) e, subst (Joins v) (sym e))
joins_reordered v (r_back d) = let i = joins_reordered v d in (i.1, i.0)
joins_reordered v (r_chain d e) = let i = joins_reordered v d in let k = joins_reordered v e in ((λ j. k.0 (i.0 j)), (λ j. i.1 (k.1 j)))

-- a next solid in order is one up to order
pub next_up_to_order : {path : List ℕ} {k : ℕ} {f : List ℕ} {S S' : Region} → NextAt path k f S S' → NextUpToOrder S S'
next_up_to_order {S' = S'} n =
    let u = raw_process n.fires in
    let s = n.fuses in
    let o : Reordered (fused s.to (level_process n.raw)) (region_process S') = r_chain (level_reordered s.to n.raw) (r_same (ap region_process (sym s.is))) in
    record {
      raw = u.process;
      fires = u.raw;
      closed = closed_as (level_process n.raw) u.process (λ z. reordered_count u.order z) s.closed_top;
      fuses = record { to = s.to; joins = (joins_reordered s.to u.order).0 s.joins; order = r_chain (r_back (reordered_fused s.to u.order)) o; closed = s.closed };
    }
