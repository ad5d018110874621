-- What an engine holds when it is loaded.
use Rattle.std.proofs.Common.{ℕ, ◌≡◌, ◌<◌, ◌-◌, ◌^◌, List, map, length, slice_get, Some, refl, sym, ap, subst, ◌∙◌, arith}
use Rattle.std.proofs.lemmas.List.Elements.{All-weaker}
use Rattle.lmn_base.specs.declared.rule.Plain.{Plain}
use Rattle.lmn_base.specs.declared.rule.RuleTree.{RuleTree}
use Rattle.lmn_base.specs.declared.solid.Region.TheFolds.{fold-Region}
use Rattle.lmn_base.specs.Levels.{rules_of}
use Rattle.lmn_base.specs.Links.{NumbersLinks}
use Rattle.lmn_base.specs.WellMade.{IsWellMade}
use Rattle.lmn_guards.specs.declared.plan.GuardPlan.{GuardPlan}
use Rattle.lmn_store_heap.specs.Heap.{Heap}
use Rattle.lmn_store_heap.specs.Sound.{bare, mem, IsTree}
use Rattle.lmn_instr_code.specs.declared.instr.Code.{Code}
use Rattle.lmn_congruence.specs.Rules.{Name}
use Rattle.lmn_congruence.specs.Translation.{numbered_rule, region_of, region_step, regions}
use Rattle.lmn_congruence.proofs.NumberedRules.{rule_has_number}
use Rattle.lmn_congruence.proofs.SolidsOfPlains.{solids_of_plains}
use Rattle.lmn_adequacy_heaps.specs.HeapRegions.{region_at, regions_at}
use Rattle.lmn_adequacy_heaps.specs.Laws.{SolidsAreRegions}
use Rattle.lmn_adequacy_heaps.specs.Premises.{IsRule}
use Rattle.lmn_schedule_loading.specs.Loaded.{IsLoaded}
use Rattle.lmn_schedule_loading.specs.Laws.{LoadedRules, LoadingSettles}
use Rattle.lmn_adequacy_turns.specs.Commits.{PlainsAreTables}
use Rattle.lmn_compile_rules.specs.Compiled.{AreWhole, AreCompiled}
use Rattle.lmn_schedule_strategy.specs.Quieting.{AllAwake}
use Rattle.lmn_schedule.specs.Held.{AreNames, EngineCanTurn, HoldsSolid, reading_by}
use Rattle.lmn_schedule.proofs.Named.{loaded_named}
use Rattle.lmn_base.proofs.Lists.{get_there as get_some, all_of_right}
use Rattle.lmn_adequacy_turns.proofs.Leavings.{root_tree}
use Rattle.lmn_adequacy.proofs.PlainSolids.{printed}
use Rattle.lmn_congruence.specs.Regions as solid

-- an engine over a store that is loaded can turn
pub can_run : LoadedRules → (p : Plain) (plans : List GuardPlan) (codes : List Code) (h : Heap) (size : ℕ) → IsWellMade p → AreWhole p.rules plans → IsLoaded p h → AreCompiled p.rules plans codes → size < 2 ^ 64 - 1 → AllAwake h →
    EngineCanTurn h p.rules codes size
can_run law p plans codes h size well whole l compiled small awake = record {
  turn = record {
    valid = l.valid;
    unmarked = l.unmarked;
    of_table = λ m n i. subst (λ k. n < k) (sym compiled.many) (law p h well l m n i);
  };
  sleeps = record { low = λ m. (let z = awake m in omega (arith, z)); none = λ m e. absurd (let z = awake m in omega (arith, z, e)) };
  plans = plans;
  whole = whole;
  compiled = compiled;
  inner = λ k rule e. All-weaker (λ j. (k < j) × (j < length p.rules)) (λ j. j < length p.rules) (λ j h. h.1) (rules_of rule.body)
      (all_of_right (λ j. (k < j) × (j < length p.rules)) (rules_of rule.head) (rules_of rule.body) (well.rules_in_rules k rule e));
  small = small;
}

-- the first of some regions, or another where there is none
abbrev pub first_of : solid.Regions → solid.Region → solid.Region
first_of solid.no_region d = d
first_of (solid.region_and m ms) d = m

-- a store that is loaded holds the solid of its plain
pub holds_solid : LoadingSettles → LoadedRules → PlainsAreTables → SolidsAreRegions → (names : List Name) (p : Plain) (h : Heap) → IsWellMade p → IsLoaded p h → AreNames names p → HoldsSolid names p h
holds_solid settles law tables alike names p h well l ns =
    let name = l.of_heap.name in
    let r = reading_by names p.rules name in
    let root = root_tree h l.of_heap.forest l.of_heap.tree in
    let S = region_of names p.rules l.solid in
    let whole : solid.region_and S solid.no_region ≡ regions_at h r (mem h.root root.0 bare) =
    ap (λ rs. regions (map (fold-Region solid.Region (region_step names (numbered_rule names p.rules))) rs)) (sym l.of_heap.root) ∙ alike h r l.of_heap.forest ∙ ap (regions_at h r) root.1 in
    let is : S ≡ region_at h r h.root root.0 = ap (λ rs. first_of rs S) whole in
    record {
      solid = S;
      holds = record {
        number = name;
        inner = root.0;
        read = record { valid = l.valid; naming = l.of_heap.naming; names = ns.begins; known = loaded_named names p h l ns.known };
        tree = subst (IsTree h) root.1 l.of_heap.tree;
        rules = record {
          known = λ m k i. known k (law p h well l m k i);
          read = λ k rule e. rule_has_number names p k rule well e;
        };
        keeps = tables p r well (ns.rules name);
        is = is;
        numbered = (l.of_heap.count, subst (λ ls. NumbersLinks ls l.of_heap.count) (sym (printed names (numbered_rule names p.rules) l.solid.root)) l.of_heap.numbers);
      };
      from = (l.solid, l.of_plain, refl);
      of_plain = solids_of_plains names p l.solid well l.of_plain;
      settles = settles names p h well l;
    }
  where
    known : (k : ℕ) → k < length p.rules → (rule : RuleTree) × (slice_get p.rules k ≡ Some rule) × IsRule (reading_by names p.rules l.of_heap.name) rule
    known k b = let t = get_some p.rules k b in (t.0, t.1, ns.rules l.of_heap.name k t.0 t.1)
