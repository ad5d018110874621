-- As many rules are asked by code as in the region.
use Rattle.std.proofs.Common.{ℕ, ◌≡◌, ◌+◌, List, [], ◌∷◌, length, Some, refl, sym, ap, subst, ◌∙◌}
use Rattle.std.specs.Prelude.{slice_get}
use Rattle.std.proofs.lemmas.List.{length-map}
use Rattle.std.proofs.lemmas.Option.{same_Some}
use Rattle.lmn_base.specs.declared.rule.RuleTree.{RuleTree}
use Rattle.lmn_guards.specs.declared.plan.GuardPlan.{GuardPlan}
use Rattle.lmn_store_heap.specs.Heap.{Heap, mems_in, rules_in}
use Rattle.lmn_store_heap.specs.Sound.{Forest}
use Rattle.lmn_store_heap.proofs.Common.{in_at as got_in}
use Rattle.lmn_instr_code.specs.declared.instr.Code.{Code}
use Rattle.lmn_instr_code.specs.Running.{Succeeds}
use Rattle.lmn_compile_head.specs.Accepted.{AcceptedHeads, head_items, rule_head_code}
use Rattle.lmn_compile_head.specs.Heads.{kind_in}
use Rattle.lmn_compile_head.specs.Laws.{CodeOfEmbeddings}
use Rattle.lmn_congruence.specs.Regions.{Region, Regions}
use Rattle.lmn_adequacy.specs.Embedding.{EmbedsAt, EmbedsIn, TakenRegion, region_first, region_later}
use Rattle.lmn_adequacy_heaps.specs.HeapRegions.{HeapReading, region_at}
use Rattle.lmn_adequacy_heaps.specs.Laws.{EmbedsAlike}
use Rattle.lmn_adequacy_heaps.specs.Numbers.{numbers_left}
use Rattle.lmn_adequacy_heaps.specs.Premises.{HasForest}
use Rattle.lmn_adequacy_heaps.proofs.Lying.{taken_region}
use Rattle.lmn_adequacy_heaps.proofs.Results.{root_forest}
use Rattle.lmn_schedule_strategy.specs.Choosing.{CodeSucceeds}
use Rattle.lmn_schedule_strategy.specs.Counting.{AsksRules, asks_all as code_all, asks_none as code_none, asks_until as code_until}
use Rattle.lmn_adequacy_turns.specs.Turning.{Leads, enters, stays}
use Rattle.lmn_adequacy_turns.proofs.PlanTypes.{plan_types}
use Rattle.lmn_adequacy_choices.specs.Counting.{AsksRulesOf, asks_all, asks_none, asks_until, rule_count_at, rule_count_below}
use Rattle.lmn_adequacy_choices.specs.Laws.{EachWith, NothingEmbedsThere, RulesAreAskedAlike, each_and, each_none}
use Rattle.lmn_adequacy_choices.specs.Turns.{HaveCodes, IsReadWith, heap_region}
use Rattle.lmn_adequacy_choices.proofs.Codes.{coded, embedded_succeeds}
use Rattle.lmn_adequacy_choices.proofs.Lists.{got_front}
use Rattle.lmn_adequacy_choices.proofs.Numbers.{numbered_alike}
use Rattle.lmn_adequacy_choices.proofs.Paths.{child, leads_to_one}
use Rattle.lmn_adequacy_choices.proofs.Placed.{at_end, at_path}

-- the rules at the end of a path that goes on in a membrane are those at the end of the rest
count_taken : {n : ℕ} {m : Region} {ms others : Regions} (path : List ℕ) → TakenRegion n m ms others → rule_count_below n path ms ≡ rule_count_at path m
count_taken path region_first = refl
count_taken path (region_later t) = count_taken path t

-- the membrane to which a path leads has as many rules as stand at its end,
count_at : {h : Heap} (r : HeapReading) {m x : ℕ} {path : List ℕ} → Leads h m path x → (i : Forest) → HasForest h x i → rule_count_at path (region_at h r x i) ≡ length (rules_in h m)
count_at {h} r {m} stays i H = length-map (rules_in h m) r.rule
count_at {h} r {m} {x} (enters {n = n} {y = y} {path = path} p l) i H =
    let c = child h i (mems_in h x) H.forms H.once.1 n y p in
    count_taken path (taken_region h r c.taken) ∙ count_at r l c.inner c.has

-- and a forest
forest_at : {h : Heap} {m x : ℕ} {path : List ℕ} → Leads h m path x → (i : Forest) → HasForest h x i → (mi : Forest) × HasForest h m mi
forest_at stays i H = (i, H)
forest_at {h} {m} {x} (enters {n = n} {y = y} {path = path} p l) i H =
    let c = child h i (mems_in h x) H.forms H.once.1 n y p in
    forest_at l c.inner c.has

module _ (heads : AcceptedHeads) (embeddings : CodeOfEmbeddings) (alike : EmbedsAlike) (table : List RuleTree) (plans : List GuardPlan) (codes : List Code) (c : HaveCodes table plans codes)
    (h : Heap) (r : HeapReading) (inner : Forest) (w : IsReadWith h r inner table) where
  abbrev S : Region
  S = heap_region h r inner

  root : HasForest h h.root inner
  root = root_forest h inner w.tree

  -- what embeds at the end of a path has a code that succeeds
  succeeds_there : {path : List ℕ} {m j : ℕ} {g : List ℕ} → Leads h m path h.root → EmbedsIn path j g S → (n : ℕ) × (slice_get (rules_in h m) j ≡ Some n) × CodeSucceeds h codes m n
  succeeds_there {path} {m} {j} {g} l e =
      let z = at_end h r e h.root inner root refl in
      let one : z.membrane ≡ m = leads_to_one z.leads l in
      let s = embedded_succeeds heads embeddings alike h r table plans codes c w.read w.rules z.membrane z.forest z.has z.number (got_in (rules_in h z.membrane) j z.number z.stands) g z.embeds in
      (z.number, subst (λ y. slice_get (rules_in h y) j ≡ Some z.number) one z.stands, subst (λ y. CodeSucceeds h codes y z.number) one s)

  -- and a rule whose code succeeds embeds
  embeds_there : {path : List ℕ} {m place k : ℕ} → Leads h m path h.root → slice_get (rules_in h m) place ≡ Some k → CodeSucceeds h codes m k → (f : List ℕ) × EmbedsIn path place f S
  embeds_there {path} {m} {place} {k} l stands s =
      let mi = forest_at l inner root in
      let u = coded h r table plans codes c w.rules m k (got_in (rules_in h m) place k stands) in
      let ready = u.whole.ready in
      let items = head_items u.rule u.plan in
      let same : s.code ≡ u.code = same_Some s.code u.code (sym s.is ∙ u.code_is) in
      let run : Succeeds h (rule_head_code u.rule u.plan) m s.registers = subst (λ z. Succeeds h z m s.registers) (ap (λ z. z.head) same ∙ u.head) s.succeeds in
      let on = embeddings.embeds h items u.rule.guard m s.registers (record { valid = w.read.valid; head = heads.head table u.rule u.plan ready; allowed = heads.guard table u.rule u.plan ready }) run in
      let f = numbers_left h s.registers.images 0 1 [] [] items in
      let at = (alike h r m mi.0 (kind_in u.plan.kinds) u.rule w.read mi.1 u.allowed (plan_types table u.rule u.plan ready) f).0 (s.registers.images, on, refl) in
      (f, at_path h r place k f l inner mi.0 root mi.1 stands (subst (λ z. EmbedsAt z f (region_at h r m mi.0)) (sym u.read) at))

  -- so where membranes are asked by paths that lead to them, as many rules are asked
  asks_alike : {ps : List (List ℕ)} {ms : List ℕ} {n : ℕ} → EachWith (λ path m. Leads h m path h.root) ps ms → AsksRules h codes ms n → AsksRulesOf S ps n
  asks_alike each_none code_none = asks_none
  asks_alike (each_and {x = path} {y = m} {xs = ps} l more) (code_all {n = n} none rest) =
      subst (λ k. AsksRulesOf S (path ∷ ps) (k + n)) (count_at r l inner root)
      (asks_all (λ k f e. let z = succeeds_there l e in none z.0 (got_in (rules_in h m) k z.0 z.1) z.2) (asks_alike more rest))
  asks_alike (each_and {x = path} {y = m} l more) (code_until {place = place} {k = k} first) =
      let e = embeds_there l first.stands first.succeeds in
      asks_until e.1 (λ j below g e. let z = succeeds_there l e in first.earlier z.0 (got_front (rules_in h m) place j z.0 below z.1) z.2)

-- as many rules are asked by code, until one succeeds, as are asked in the region, until one embeds
pub rules_are_asked_alike : AcceptedHeads → CodeOfEmbeddings → EmbedsAlike → RulesAreAskedAlike
rules_are_asked_alike heads embeddings alike table plans codes c h r inner w from n asks =
    asks_alike heads embeddings alike table plans codes c h r inner w ((numbered_alike h r inner w.tree).asked from) asks

-- no rule embeds in a membrane of which no rule has a code that succeeds
pub nothing_embeds_there : AcceptedHeads → CodeOfEmbeddings → EmbedsAlike → NothingEmbedsThere
nothing_embeds_there heads embeddings alike table plans codes c h r inner w m path leads none k f e =
    let z = succeeds_there heads embeddings alike table plans codes c h r inner w leads e in
    none z.0 (got_in (rules_in h m) k z.0 z.1) z.2
