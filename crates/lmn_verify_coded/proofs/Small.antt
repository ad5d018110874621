-- The runs of the examples.
use Rattle.std.specs.Prelude.{pos}
use Rattle.std.specs.Option.{option_and_then, option_map}
use Rattle.std.proofs.Common.{ℕ, List, length, ◌≡◌, ◌≢◌, ◌≤◌, ◌⊎◌, ◌+◌, [], ◌∷◌, Option, Some, None, IsSome, false, refl, sym, ap, subst, ◌∙◌, inl, inr, arith}
use Rattle.std.specs.Fmt.{digits}
use Rattle.std.proofs.lemmas.Bool.{cases_eq}
use Rattle.lmn_base.specs.Lists.{In}
use Rattle.lmn_base.proofs.Lists.{none_is_not}
use Rattle.lmn_base.proofs.Numbers.{not_equal}
use Rattle.lmn_store_heap.specs.Heap.{Heap, HeapMem, IsInPlace, IsMem, discarded, finished, gone, lone_root, mem_mark_by, mem_mark_of, mem_marked, mem_place_of, mem_unless_gone, mem_unless_waiting, mem_with_mark, mem_with_spare, rules_by, rules_in, top}
use Rattle.lmn_store_heap.specs.Examples.{across, across_solid}
use Rattle.lmn_store_heap.specs.Sound.{IsTree, Valid, bare, mem, flat, item_count_in}
use Rattle.lmn_store_heap.proofs.Calls.{finished_is_valid, keeps_sound, one_tree}
use Rattle.lmn_store_heap.proofs.Lone.{is_root, lone_valid}
use Rattle.lmn_store_heap.proofs.ExampleProofs.{across_has_its_solid, across_is_valid}
use Rattle.lmn_reduction.specs.Chains.{no_step}
use Rattle.lmn_verify_solids.specs.Heaps.{graph_of}
use Rattle.lmn_verify_solids.specs.Laws.{HeapsAreGraphs}
use Rattle.lmn_instr_code.specs.Running.{IsFirstSuccess, Succeeds}
use Rattle.lmn_solid_bodies.specs.Running.{Registers}
use Rattle.lmn_machine_commit.specs.Waking.{Commits}
use Rattle.lmn_machine_commit.proofs.Rousing.{mark_one, marked_away, marked_there, no_marks}
use Rattle.lmn_schedule_sleep.specs.Quiet.{SameButMarks}
use Rattle.lmn_schedule_sleep.proofs.Marks.{read_alike}
use Rattle.lmn_schedule_strategy.proofs.Lulling.{tree_alike}
use Rattle.lmn_schedule.proofs.AllWake.{valid_on}
use Rattle.lmn_machine.specs.Costs.{Leaves}
use Rattle.lmn_schedule_strategy.specs.Choosing.{CodeSucceeds, IsFirstIn, asked}
use Rattle.lmn_schedule_strategy.specs.Quieting.{AllAwake}
use Rattle.lmn_schedule_strategy.specs.Turns.{Chooses, HoldsRestsOf, IsAnswer}
use Rattle.lmn_schedule_strategy.specs.declared.turning.Turn.{Turn}
use Rattle.lmn_schedule_strategy.specs.declared.turning.Turn.TheVariants.{Committed, Full}
use Rattle.lmn_app_drive.specs.declared.driving.RunEnd.TheVariants as end
use Rattle.lmn_app_runs.specs.declared.stop.Stop.{Stop}
use Rattle.lmn_app_runs.specs.declared.stop.Stop.TheVariants as stop
use Rattle.lmn_schedule_strategy.specs.Counting.{AsksRules, asks_all, asks_none, asks_until}
use Rattle.lmn_app_drive.specs.Driving.{stop_end}
use Rattle.lmn_verify_coded.specs.Counting.{RunAsks, more_asked, none_asked}
use Rattle.lmn_verify_coded.specs.Runs.{CodedRun, CodesStopBy, begun, turned}
use Rattle.lmn_verify_coded.specs.Examples.{IdleCodeCommits, IdleCodeKeepsAwake, IdleCodeSucceeds, NoCodesAreExecuted, NoCodesCanTurn, NoCodesStopAtOnce, NoRuleIsAsked, idle, ruled}

-- ---- without codes

-- nothing succeeds,
nothing_at : (h : Heap) (m k : ℕ) → CodeSucceeds h [] m k → ⊥
nothing_at h m k s = let e = s.is in absurd (cc e)

-- and no turn commits
no_run : (size : ℕ) (h : Heap) (n : ℕ) (h' : Heap) → CodedRun [] size h n h' → n ≡ 0
no_run size h n h' begun = refl
no_run size h n h' (turned run t v) = absurd (let e = t.turn.is in cc e)

none_there : (m : ℕ) → m ≢ 0 → lone_root.mems m ≡ None
none_there m d = rw (not_equal m 0 d) refl

no_rule : (m k : ℕ) → In k (rules_in lone_root m) → ⊥
no_rule m k i = elim (cases_eq m 0) [
  | inl e ↦ subst (λ z. In k (rules_in lone_root z)) e i
  | inr d ↦ subst (λ z. In k (rules_by z)) (none_there m d) i
]

lone_awake : AllAwake lone_root
lone_awake m = elim (cases_eq m 0) [
  | inl e ↦ ap (mem_mark_of lone_root) e
  | inr d ↦ ap mem_mark_by (none_there m d)
]

-- the root alone, asleep
abbrev sleeping : Heap
sleeping = mem_marked lone_root 0 1

sleeping_alike : SameButMarks lone_root sleeping
sleeping_alike = mark_one lone_root sleeping 0 1 refl

sleeping_low : (m : ℕ) → mem_mark_of sleeping m ≤ 1
sleeping_low m = elim (cases_eq m 0) [
  | inl e ↦ (let z : mem_mark_of sleeping m ≡ 1 = subst (λ y. mem_mark_of sleeping y ≡ 1) (sym e) (marked_there lone_root 0 1 refl) in omega (arith, z))
  | inr d ↦ (let z = marked_away lone_root 0 1 m d in let a = lone_awake m in omega (arith, z, a))
]

pub no_codes_can_turn : NoCodesCanTurn
no_codes_can_turn = (
  record {
    turn = record { valid = lone_valid; unmarked = λ a i. refl; of_table = λ m k i. absurd (no_rule m k i) };
    sleeps = record { low = λ m. (let e = lone_awake m in omega (arith, e)); none = λ m e n i s. nothing_at lone_root m n s };
    runnable = λ n code e. absurd (cc e);
    quiet = λ n code e. absurd (cc e);
    small = omega arith;
  },
  record {
    turn = record {
      valid = valid_on lone_root sleeping sleeping_alike lone_valid;
      unmarked = λ a i. refl;
      of_table = λ m k i. absurd (no_rule m k (subst (In k) ((read_alike lone_root sleeping sleeping_alike).rules m) i));
    };
    sleeps = record { low = sleeping_low; none = λ m e n i s. nothing_at sleeping m n s };
    runnable = λ n code e. absurd (cc e);
    quiet = λ n code e. absurd (cc e);
    small = omega arith;
  },
  (λ c. let below = c.turn.of_table 0 0 (inl refl) in omega (arith, below)),
)

-- no rule is asked of the root alone
none_by_root : (ms : List ℕ) (n : ℕ) → AsksRules lone_root [] ms n → n ≡ 0
none_by_root [] n asks_none = refl
none_by_root (m ∷ ms) k (asks_all {n = n} none rest) =
    let others = none_by_root ms n rest in
    let here : rules_in lone_root m ≡ [] = elim (cases_eq m 0) [ inl e ↦ ap (rules_in lone_root) e | inr d ↦ ap rules_by (none_there m d) ] in
    let few : length (rules_in lone_root m) ≡ 0 = ap length here in
    omega (arith, others, few)
none_by_root (m ∷ ms) k (asks_until f) = absurd (nothing_at lone_root m _ f.succeeds)

none_in_run : (size : ℕ) (h : Heap) (n : ℕ) (h' : Heap) (k : ℕ) → RunAsks [] size h n h' k → (h' ≡ h) × (k ≡ 0)
none_in_run size h n h' k none_asked = (refl, refl)
none_in_run size h n h' k (more_asked run t asks) = absurd (let e = t.turn.is in cc e)

pub no_rule_is_asked : NoRuleIsAsked
no_rule_is_asked = (
  record {
    last = lone_root;
    before = 0;
    asks = none_asked;
    tree = mem 0 bare bare;
    is_tree = record { forms = ([], refl, refl, refl); once = (tt, tt); all = λ m i. inl (sym (is_root m i)) };
    at_last = 0;
    asks_last = asks_all {n = 0} (λ k i s. nothing_at lone_root 0 k s) asks_none;
    rises = record { rises = omega arith; within = omega arith };
  },
  (λ c. (let run = none_in_run 0 lone_root 0 c.last c.before c.asks in
      let before = run.1 in
      let last = none_by_root (asked 0 c.tree) c.at_last (subst (λ z. AsksRules z [] (asked 0 c.tree) c.at_last) run.0 c.asks_last) in
      let within = c.rises.within in
      omega (arith, before, last, within))),
)

pub no_codes_are_executed : NoCodesAreExecuted
unfolding digits
no_codes_are_executed names budget line is_line = (
  record {
    why = stop.Irreducible;
    stopped = record {
      last = across;
      run = begun;
      stops = (omega arith, record { tree = across_is_valid.tree.0; is_tree = across_is_valid.tree.1; lulled = across; alike = no_marks across; turn = ((λ m i k j s. nothing_at across m k s), refl) });
    };
    line = line;
    is_line = is_line;
    wrote = inl (refl, refl);
  },
  (λ n h old new x. elim x.wrote [
    | inl w ↦ by_budget n x.stopped.last h x.why w.0 x.stopped.stops
    | inr w ↦ absurd (cc w.0)
  ]),
)
  where
    by_budget : (n : ℕ) (last h : Heap) (why : Stop) → end.Budget ≡ stop_end why → CodesStopBy [] budget 3 n last why h → ⊥
    by_budget n last h stop.Irreducible e w = absurd (cc e)
    by_budget n last h stop.Budget e w = nothing_at last w.1.some.membrane w.1.some.rule w.1.some.succeeds
    by_budget n last h stop.Full e w = absurd (cc e)
    by_budget n last h stop.NoMemory e w = absurd (cc e)

-- ---- with code that changes nothing

ruled_tree : IsTree ruled (mem 0 bare bare)
ruled_tree = record { forms = ([], refl, refl, refl); once = (tt, tt); all = λ m i. root m i }
  where
    root : (m : ℕ) → IsMem ruled m → In m (0 ∷ [])
    root m i = elim (cases_eq m 0) [
      | inl e ↦ inl (sym e)
      | inr d ↦ absurd (none_is_not (ruled.mems m) (rw (not_equal m 0 d) refl) i)
    ]

the_cases : (m : ℕ) → (m ≡ 0) ⊎ (ruled.mems m ≡ None)
the_cases m = elim (cases_eq m 0) [ inl e ↦ inl e | inr d ↦ inr (rw (not_equal m 0 d) refl) ]

no_gone : (m : ℕ) → mem_place_of ruled m ≡ Some gone → ⊥
no_gone m e = elim (the_cases m) [
  | inl z ↦ (let u : Some top ≡ Some gone = subst (λ k. mem_place_of ruled k ≡ Some gone) z e in absurd (cc u))
  | inr z ↦ (let u : None ≡ Some gone = sym (ap (λ (o : Option HeapMem). option_map (λ x. x.place) o) z) ∙ e in absurd (cc u))
]

no_atom : (a : ℕ) → IsInPlace ruled a → ⊥
no_atom a i = let u : IsSome {T = ℕ} None = i in absurd (cc u)

-- the heap after is valid
finished_valid : Valid (finished ruled)
finished_valid = finished_is_valid ruled (mem 0 bare bare) ((keeps_sound lone_root lone_valid.sound).add_rule 0 0)
    (record { empty = λ m e. absurd (no_gone m e); full = λ a i p l. absurd (no_atom a p); kept = λ a i b j p e d. no_atom a p; no_atoms = refl; no_mems = refl })
    ruled_tree.forms (λ m i d. ruled_tree.all m i) (λ a i e. no_atom a i)

abbrev registers : Registers
registers = record {
  head = record { images = record { atom = λ k. 0; membrane = λ k. 0; part = λ k. (0, 0) }; integer = λ k. pos 0 };
  copy = λ k. (0, 0);
  copied = λ k. [];
  left_atoms = λ m. [];
  left_membranes = λ m. [];
}

succeeds : Succeeds ruled idle.head 0 registers.head
succeeds = record { here = refl; all = (tt, tt) }

idle_succeeds : CodeSucceeds ruled (idle ∷ []) 0 0
idle_succeeds = record { code = idle; is = refl; registers = registers.head; succeeds = succeeds }

first : IsFirstSuccess ruled idle.head 0 registers.head
first = record { succeeds = succeeds; first = λ s w. tt }

rests : HoldsRestsOf ruled idle.head registers
rests m l = (
  (λ a. false),
  (λ a i. absurd i),
  record { forest = bare; forms = refl; preorder = refl; once = tt; outside = λ i. absurd i; in_order = refl },
)

leaves : Leaves ruled registers idle.body 1
leaves = record {
  added = 0;
  taken = 0;
  adds = (0, 0, (refl, refl, refl));
  takes = (0, 0, (refl, refl, refl));
  count = λ f t. subst (λ z. 1 + 0 + 1 ≡ item_count_in ruled (flat z) + 0) (one_tree ruled (mem 0 bare bare) f ruled_tree t) refl;
}

chosen : IsFirstIn ruled (idle ∷ []) (asked 0 (mem 0 bare bare)) 0 0 0
chosen = record {
  earlier = [];
  later = [];
  order = refl;
  none = λ m i. absurd i;
  rule = record { stands = refl; succeeds = idle_succeeds; earlier = λ k i. absurd i };
}

chooses : (size : ℕ) (answer : Turn) (h' : Heap) → IsAnswer ruled registers idle.body 1 size answer h' → Chooses ruled (idle ∷ []) (asked 0 (mem 0 bare bare)) size answer h'
chooses size answer h' answered = record {
  membrane = 0;
  place = 0;
  rule = 0;
  chosen = chosen;
  code = idle;
  is = refl;
  registers = registers;
  first = first;
  rests = rests;
  left = 1;
  leaves = leaves;
  answered = answered;
}

-- no membrane of it sleeps, before and after
ruled_awake : AllAwake ruled
ruled_awake m = elim (the_cases m) [ inl e ↦ ap (mem_mark_of ruled) e | inr e ↦ ap mem_mark_by e ]

finished_awake : AllAwake (finished ruled)
finished_awake m = elim (the_cases m) [
  | inl e ↦ ap (mem_mark_of (finished ruled)) e
  | inr e ↦ ap (λ o. mem_mark_by (option_and_then mem_unless_gone o)) e
]

-- its code is committed
commits : Commits ruled registers idle.body (finished ruled)
commits = record {
  prepared = ruled;
  prepares = (ruled, refl, refl);
  makes = record { root = refl; atoms = λ a. refl; mems = same; new_atoms = refl; new_mems = refl };
  after = finished ruled;
  does = (finished ruled, refl, refl);
  alike = no_marks (finished ruled);
  wakes = record {
    stood = λ x i. stood x i;
    woken = λ x y j r a. finished_awake x;
    others = λ x i. inl (finished_awake x ∙ sym (ruled_awake x));
  };
}
  where
    same : (m : ℕ) → (k : ℕ) × ((discarded ruled).mems m ≡ option_map (mem_with_spare k) (ruled.mems m))
    same m = elim (the_cases m) [
      | inl e ↦ (0, subst (λ z. (discarded ruled).mems z ≡ option_map (mem_with_spare 0) (ruled.mems z)) (sym e) refl)
      | inr e ↦ (0, ap (λ o. option_and_then mem_unless_waiting o) e ∙ sym (ap (option_map (mem_with_spare 0)) e))
    ]

    stood : (x : ℕ) → IsMem (finished ruled) x → IsMem ruled x
    stood x i = elim (the_cases x) [
      | inl e ↦ subst (IsMem ruled) (sym e) refl
      | inr e ↦ absurd (none_is_not ((finished ruled).mems x) (ap (option_and_then mem_unless_gone) e) i)
    ]

-- the root asleep with its rule, and awake again
abbrev slept : Heap
slept = mem_marked ruled 0 1

woken : SameButMarks slept ruled
woken = record { root = refl; atoms = λ a. refl; mems = same; new_atoms = refl; new_mems = refl }
  where
    same : (m : ℕ) → (v : ℕ) × (ruled.mems m ≡ option_map (mem_with_mark v) (slept.mems m))
    same m = elim (cases_eq m 0) [
      | inl e ↦ (0, subst (λ z. ruled.mems z ≡ option_map (mem_with_mark 0) (slept.mems z)) (sym e) refl)
      | inr d ↦ (0, rw (not_equal m 0 d) refl)
    ]

pub idle_code_keeps_awake : IdleCodeKeepsAwake
idle_code_keeps_awake size c = c.sleeps.none 0 (marked_there ruled 0 1 refl) 0 (inl refl) (record { code = idle; is = refl; registers = registers.head; succeeds = record { here = refl; all = (tt, tt) } })

pub idle_code_commits : IdleCodeCommits
idle_code_commits = (
  turned {n = 0} begun (record { tree = mem 0 bare bare; is_tree = ruled_tree; lulled = ruled; alike = no_marks ruled; turn = chooses 1 Committed (finished ruled) (omega arith, commits) }) finished_valid,
  record { tree = mem 0 bare bare; is_tree = ruled_tree; lulled = ruled; alike = no_marks ruled; turn = chooses 0 Full ruled (omega arith, refl) },
  record { tree = mem 0 bare bare; is_tree = tree_alike ruled slept (mark_one ruled slept 0 1 refl) (mem 0 bare bare) ruled_tree; lulled = ruled; alike = woken; turn = chooses 0 Full ruled (omega arith, refl) },
  (λ size n h h' run. let e = no_run size h (n + 1) h' run in omega (arith, e)),
)

pub idle_code_succeeds : IdleCodeSucceeds
idle_code_succeeds = (
  record { tree = mem 0 bare bare; is_tree = ruled_tree; some = record { membrane = 0; among = inl refl; rule = 0; stands = inl refl; succeeds = idle_succeeds } },
  (λ r. nothing_at ruled r.some.membrane r.some.rule r.some.succeeds),
)

-- By solids such a run stops at once.
pub no_codes_stop_at_once : HeapsAreGraphs → NoCodesStopAtOnce
no_codes_stop_at_once graphs budget = (
  record {
    last = across_solid;
    run = no_step;
    stops = (omega arith, (graph_of across, graphs across across_solid across_is_valid across_has_its_solid, (λ m i k j code r e s. absurd (cc e))));
  },
  (λ n. ((λ x. (let some = x.stops.1 in let e = some.is in absurd (cc e))), (λ x. (let c = x.stops.1 in let e = c.chosen.is in absurd (cc e))))),
)
