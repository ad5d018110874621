-- What holds of each rule of a solid, at any depth, holds of those of the next solid.
use Rattle.std.proofs.Common.{ℕ, zero, suc, List, sym, ap, subst, [], ◌∷◌, ◌++◌, ◌∙◌}
use Rattle.lmn_congruence.specs.Orders.{Among, at_head, further}
use Rattle.lmn_congruence.specs.Plains.{fused_level, fused_levels}
use Rattle.lmn_congruence.specs.Regions.{Region, Regions, SolidAtom, no_region, region, region_and}
use Rattle.lmn_congruence.specs.Rules.{Context, Leaf, Level, Levels, Name, Rule, Rules, body_of, closed_context, head_of, level, level_and, no_level, no_rule, rule_and, rule_of, rules_list}
use Rattle.lmn_congruence.specs.Same.{renamed_region, renamed_regions}
use Rattle.lmn_congruence.specs.Translation.{levels, rules as listed_rules}
use Rattle.lmn_reduction.specs.Assignments.{Assignment}
use Rattle.lmn_congruence.proofs.RenamedRegions.{region_of_copy}
use Rattle.lmn_adequacy.specs.Accepted.{Accepted, Throughout, ThroughoutLevel, ThroughoutLevels, ThroughoutRules, all_contexts, all_rule_contexts, contexts_in, own_membranes, rule_contexts_in}
use Rattle.lmn_adequacy.specs.Embedding.{AllRules, AllRulesIn, EachRule, TakenRegion, region_first, region_later, Contents, LeftTo, LeftToContext, LeftToRuleContext, no_context, no_rule_context, one_context, one_rule_context, region_of}
use Rattle.lmn_adequacy.specs.Loose.{LevelImages, MembraneImages, level_images, membrane_image_and, no_membrane_image, EachLeft, EachLeftIn}
use Rattle.lmn_adequacy.specs.Next.{FiresInOrder, MadeLevel, MadeMembranes, NextAt, RawAt, context_rules, fires_below, fires_here, kept_atoms, kept_level, kept_membranes, made_level, made_membrane, no_made_membrane, raw_level, replaced, wire_leaves, MadeContext, MadeContexts, made_closed, made_context, made_open, no_made_context}
use Rattle.lmn_adequacy.proofs.Heads.{region_there, rule_there}
use Rattle.lmn_adequacy.proofs.InOrder.{each_left_of, level_images_of}
use Rattle.lmn_adequacy.proofs.OneNext.{names_split, of_the_head}
use Rattle.lmn_adequacy.proofs.Orders.{either, taken_put}
use Rattle.lmn_congruence.proofs.Common.{among_apart as among_append, rules_listed, among_left, among_right}

each_append : (K : Rule → Type 0) (rs ss : List Rule) → EachRule K rs → EachRule K ss → EachRule K (rs ++ ss)
each_append K [] ss h k = k
each_append K (r ∷ rs) ss h k = (h.0, each_append K rs ss h.1 k)

-- what holds throughout a rule holds throughout the level that its body is
pub body_rules : (H : Rule → Type 0) (r : Rule) → Throughout H r → ThroughoutLevel H (body_of r)
body_rules H (rule_of head guard body) h = h.1

module _ (H : Rule → Type 0) where
  abbrev K : Rule → Type 0
  K = Throughout H

  -- ---- raw levels

  abbrev mutual
    LevelRules : Level → Type 0
    LevelRules (level leaves membranes contexts rule_contexts rules) = EachRule K (rules_list rules) × LevelsRules membranes

    LevelsRules : Levels → Type 0
    LevelsRules no_level = Unit {0}
    LevelsRules (level_and l ls) = LevelRules l × LevelsRules ls

  abbrev ListRules : List Level → Type 0
  ListRules [] = Unit {0}
  ListRules (l ∷ ls) = LevelRules l × ListRules ls

  list_levels : (ls : List Level) → ListRules ls → LevelsRules (levels ls)
  list_levels [] h = tt
  list_levels (l ∷ ls) h = (h.0, list_levels ls h.1)

  list_append : (ls ms : List Level) → ListRules ls → ListRules ms → ListRules (ls ++ ms)
  list_append [] ms h k = k
  list_append (l ∷ ls) ms h k = (h.0, list_append ls ms h.1 k)

  from_lists : (leaves : List Leaf) (ms : List Level) (rs : List Rule) → ListRules ms → EachRule K rs → LevelRules (level leaves (levels ms) [] [] (listed_rules rs))
  from_lists leaves ms rs h k = (subst (EachRule K) (sym (rules_listed rs)) k, list_levels ms h)

  mutual
    kept_rules : (m : Region) → AllRules K m → LevelRules (kept_level m)
    kept_rules (region xs ms rs) h = from_lists (kept_atoms xs) (kept_membranes ms) rs (kept_list ms h.1) h.0

    kept_list : (ms : Regions) → AllRulesIn K ms → ListRules (kept_membranes ms)
    kept_list no_region h = tt
    kept_list (region_and m ms) h = (kept_rules m h.0, kept_list ms h.1)

  throughout_rules : (rs : Rules) → ThroughoutRules H rs → EachRule K (rules_list rs)
  throughout_rules no_rule h = tt
  throughout_rules (rule_and r rs) h = (h.0, throughout_rules rs h.1)

  mutual
    fused_rules_of : (v : ℕ → ℕ) (l : Level) → LevelRules l → AllRules K (fused_level v l)
    fused_rules_of v (level leaves membranes contexts rule_contexts rules) h = (h.0, fused_rules_in v membranes h.1)

    fused_rules_in : (v : ℕ → ℕ) (ls : Levels) → LevelsRules ls → AllRulesIn K (fused_levels v ls)
    fused_rules_in v no_level h = tt
    fused_rules_in v (level_and l ls) h = (fused_rules_of v l h.0, fused_rules_in v ls h.1)

  -- ---- embeddings

  taken_rules : {n : ℕ} {m : Region} {ms ms' : Regions} → TakenRegion n m ms ms' → AllRulesIn K ms → AllRules K m × AllRulesIn K ms'
  taken_rules region_first h = h
  taken_rules (region_later k) h = let u = taken_rules k h.1 in (u.0, (h.0, u.1))

  abbrev ContextRules : Contents → List Context → List Name → Type 0
  ContextRules c ps qs = ((p : Context) → Among p ps → AllRulesIn K (c.membranes_of p)) × ((q : Name) → Among q qs → EachRule K (c.rules_of q))

  left_rules : (c : Contents) (ps : List Context) (qs : List Name) (m : Region) → LeftTo c ps qs m → AllRules K m → ContextRules c ps qs
  left_rules c ps qs (region xs ms rs) u h = ((λ p k. of_context u.0 k h.1), (λ q k. of_rule_context u.1 k h.0))
    where
      of_context : {c : Contents} {ps : List Context} {xs : List SolidAtom} {ms : Regions} {p : Context} → LeftToContext c ps xs ms → Among p ps → AllRulesIn K ms → AllRulesIn K (c.membranes_of p)
      of_context no_context k h = elim k [ ]
      of_context one_context at_head h = h
      of_context one_context (further k) h = elim k [ ]

      of_rule_context : {c : Contents} {qs : List Name} {rs : List Rule} {q : Name} → LeftToRuleContext c qs rs → Among q qs → EachRule K rs → EachRule K (c.rules_of q)
      of_rule_context no_rule_context k h = elim k [ ]
      of_rule_context one_rule_context at_head h = h
      of_rule_context one_rule_context (further k) h = elim k [ ]

  both_contexts : (c : Contents) (ps ps' : List Context) (qs qs' : List Name) → ContextRules c ps qs → ContextRules c ps' qs' → ContextRules c (ps ++ ps') (qs ++ qs')
  both_contexts c ps ps' qs qs' h k = ((λ p i. either (among_append ps ps' i) (h.0 p) (k.0 p)), (λ q i. either (among_append qs qs' i) (h.1 q) (k.1 q)))

  mutual
    images_rules : (c : Contents) {t : Assignment} {l : Level} {ns : List ℕ} {m rest : Region} (i : LevelImages t l ns m rest) → EachLeft c i → AllRules K m → AllRules K rest × ContextRules c (contexts_in (own_membranes l)) (rule_contexts_in (own_membranes l))
    images_rules c (level_images i j k) e h = let u = membranes_rules c k e h.1 in ((h.0, u.0), u.1)

    membranes_rules : (c : Contents) {t : Assignment} {ls : Levels} {ns : List ℕ} {ms rest : Regions} (i : MembraneImages t ls ns ms rest) → EachLeftIn c i → AllRulesIn K ms → AllRulesIn K rest × ContextRules c (contexts_in ls) (rule_contexts_in ls)
    membranes_rules c no_membrane_image e h = (h, ((λ p k. elim k [ ]), (λ q k. elim k [ ])))
    membranes_rules c (membrane_image_and {membranes = membranes} {ls = ls} {contexts = ps} {rule_contexts = qs} {rest = rest} k i a b q) e h =
        let u = taken_rules k h in
        let v = images_rules c i e.1 u.0 in
        let w = membranes_rules c q e.2 u.1 in
        (w.0, both_contexts c (ps ++ contexts_in membranes) (contexts_in ls) (qs ++ rule_contexts_in membranes) (rule_contexts_in ls) (both_contexts c ps (contexts_in membranes) qs (rule_contexts_in membranes) (left_rules c ps qs rest e.0 v.0) v.1) w.1)

  -- ---- bodies

  mutual
    renamed_rules : (f : ℕ → ℕ) (m : Region) → AllRules K m → AllRules K (renamed_region f m)
    renamed_rules f (region xs ms rs) h = (h.0, renamed_rules_in f ms h.1)

    renamed_rules_in : (f : ℕ → ℕ) (ms : Regions) → AllRulesIn K ms → AllRulesIn K (renamed_regions f ms)
    renamed_rules_in f no_region h = tt
    renamed_rules_in f (region_and m ms) h = (renamed_rules f m h.0, renamed_rules_in f ms h.1)

  -- what a context of the body makes has the rules of what it stands for
  made_context_rules : (c : Contents) {p : Context} {m : Region} → MadeContext c p m → AllRulesIn K (c.membranes_of p) → AllRules K m
  made_context_rules c made_open h = (tt, h)
  made_context_rules c (made_closed {p = p} {m = m} i) h =
      let r = region_of_copy (region_of c (closed_context p)) m i in
      subst (AllRules K) (sym r.is) (renamed_rules r.to (region_of c (closed_context p)) (tt, h))

  context_list : (c : Contents) {ps : List Context} {xs : List SolidAtom} {ks : List Level} → MadeContexts c ps xs ks → ((p : Context) → Among p ps → AllRulesIn K (c.membranes_of p)) → ListRules ks
  context_list c no_made_context h = tt
  context_list c (made_context {p = p} {ms = ms} {ks = ks} i j) h = list_append (kept_membranes ms) ks (kept_list ms (made_context_rules c i (h p at_head)).1) (context_list c j (λ q k. h q (further k)))

  context_rule_list : (c : Contents) (qs : List Name) → ((q : Name) → Among q qs → EachRule K (c.rules_of q)) → EachRule K (context_rules c qs)
  context_rule_list c [] h = tt
  context_rule_list c (q ∷ qs) h = each_append K (c.rules_of q) (context_rules c qs) (h q at_head) (context_rule_list c qs (λ p k. h p (further k)))

  mutual
    made_rules_of : (c : Contents) {l : Level} {outs : List Leaf} {ms : List Level} {rs : List Rule} → MadeLevel c l outs ms rs → ThroughoutLevel H l → ContextRules c (all_contexts l) (all_rule_contexts l) → ListRules ms × EachRule K rs
    made_rules_of c (made_level {membranes = membranes} {made = ms} {ks = ks} {contexts = ps} {rule_contexts = qs} {rules = rules} u v w) h k = (
      list_append ms ks (made_list c v h.0 ((λ p i. k.0 p (among_right ps i)), (λ q i. k.1 q (among_right qs i)))) (context_list c w (λ p i. k.0 p (among_left (contexts_in membranes) i))),
      each_append K (rules_list rules) (context_rules c qs) (throughout_rules rules h.1) (context_rule_list c qs (λ q i. k.1 q (among_left (rule_contexts_in membranes) i))),
    )

    made_list : (c : Contents) {ls : Levels} {ms : List Level} → MadeMembranes c ls ms → ThroughoutLevels H ls → ContextRules c (contexts_in ls) (rule_contexts_in ls) → ListRules ms
    made_list c no_made_membrane h k = tt
    made_list c (made_membrane {l = l} {ls = ls} {outs = outs} {inner = inner} {rs = rs} u v) h k =
        let w = made_rules_of c u h.0 ((λ p i. k.0 p (among_left (contexts_in ls) i)), (λ q i. k.1 q (among_left (rule_contexts_in ls) i))) in
        (from_lists outs inner rs w.0 w.1, made_list c v h.1 ((λ p i. k.0 p (among_right (all_contexts l) i)), (λ q i. k.1 q (among_right (all_rule_contexts l) i))))

  raw_level_rules : (m : Region) (W outs : List Leaf) (ms : List Level) (rs : List Rule) → AllRules K m → ListRules ms → EachRule K rs → LevelRules (raw_level m W outs ms rs)
  raw_level_rules (region xs us ts) W outs ms rs h k k' = from_lists (kept_atoms xs ++ (W ++ outs)) (kept_membranes us ++ ms) (ts ++ rs) (list_append (kept_membranes us) ms (kept_list us h.1) k) (each_append K ts rs h.0 k')

  fires_rules : {r : Rule} {f : List ℕ} {m : Region} {L : Level} → Accepted r → Throughout H r → FiresInOrder r f m L → AllRules K m → LevelRules L
  fires_rules {r} a g F h =
      let e = F.at in
      let c = e.contents in
      let u = images_rules c (level_images_of e.lies) (each_left_of e.lies) h in
      let n = names_split (head_of r) in
      let k : ContextRules c (all_contexts (body_of r)) (all_rule_contexts (body_of r)) = (
        (λ p i. u.1.0 p (subst (Among p) (n.0 ∙ ap (λ w. w ++ contexts_in (own_membranes (head_of r))) a.top_contexts) (of_the_head a p i))),
        (λ q i. u.1.1 q (subst (Among q) (n.1 ∙ ap (λ w. w ++ rule_contexts_in (own_membranes (head_of r))) a.top_rule_contexts) (a.known_rules q i))),
      ) in
      let v = made_rules_of c F.makes (body_rules H r g) k in
      subst LevelRules (sym F.is) (raw_level_rules e.rest (wire_leaves c.link_of (head_of r) F.bound) F.outs F.made_membranes F.made_rules u.0 v.0 v.1)

  replaced_rules : (n : ℕ) (L : Level) (ks : List Level) → LevelRules L → ListRules ks → ListRules (replaced n L ks)
  replaced_rules n L [] h k = tt
  replaced_rules zero L (l ∷ ks) h k = (h, k.1)
  replaced_rules (suc n) L (l ∷ ks) h k = (k.0, replaced_rules n L ks h k.1)

  raw_rules : {path : List ℕ} {k : ℕ} {f : List ℕ} {S : Region} {L : Level} → RawAt path k f S L → AllRules Accepted S → AllRules K S → LevelRules L
  raw_rules (fires_here k F) a h = fires_rules (rule_there Accepted a.0 (taken_put k)) (rule_there K h.0 (taken_put k)) F h
  raw_rules (fires_below {n = n} {xs = xs} {ms = ms} {rs = rs} {L = L} k R) a h =
      from_lists (kept_atoms xs) (replaced n L (kept_membranes ms)) rs (replaced_rules n L (kept_membranes ms) (raw_rules R (region_there Accepted a.1 k) (region_there K h.1 k)) (kept_list ms h.1)) h.0

  pub next_rules : {path : List ℕ} {k : ℕ} {f : List ℕ} {S S' : Region} → NextAt path k f S S' → AllRules Accepted S → AllRules K S → AllRules K S'
  next_rules n a h = subst (AllRules K) (sym n.fuses.is) (fused_rules_of n.fuses.to n.raw (raw_rules n.fires a h))
