-- Listings beside a small text, and a run by one.
use Rattle.std.proofs.Common.{◌≡◌, ◌≢◌, ◌⊎◌, ◌+◌, ◌<◌, ◌≤◌, ◌*◌, ◌∙◌, ℕ, zero, suc, true, false, List, [], ◌∷◌, ◌++◌, Option, Some, None, IsSome, length, flat_map, refl, sym, ap, subst, inl, inr, arith, true≢false, All}
use Rattle.std.specs.Prelude.{codes, pos, slice_index_or}
use Rattle.std.specs.Fmt.{digits}
use Rattle.std.specs.List.{AllByRecursion}
use Rattle.std.specs.Option.{option_and_then, option_map}
use Rattle.std.proofs.lemmas.Bool.{cases_eq}
use Rattle.std.proofs.lemmas.List.Elements.{All-from_recursion}
use Rattle.std.proofs.lemmas.Option.{same_Some}
use Rattle.lmn_base.specs.declared.functor.Functor.{Functor}
use Rattle.lmn_base.specs.declared.functor.Label.TheVariants.{Name as NameLabel}
use Rattle.lmn_base.specs.declared.level.Level.TheFolds.{fold-roll-Level}
use Rattle.lmn_base.specs.declared.refusal.Refusal.{Refusal}
use Rattle.lmn_base.specs.declared.rule.Plain.{Plain}
use Rattle.lmn_base.specs.declared.solid.Region.{Region, out-Region}
use Rattle.lmn_base.specs.declared.solid.Region.TheFolds.{fold-roll-Region}
use Rattle.lmn_base.specs.declared.solid.Region.TheOpen.{Region-F}
use Rattle.lmn_base.specs.declared.solid.Region.TheViews.{out-roll-Region, roll-Region}
use Rattle.lmn_base.specs.declared.solid.Solid.{Solid}
use Rattle.lmn_base.specs.declared.solid.SolidAtom.{SolidAtom}
use Rattle.lmn_base.specs.Levels.{leaves_of}
use Rattle.lmn_base.specs.Links.{EachTwice, NumbersLinks, known, no_more}
use Rattle.lmn_base.specs.Lists.{In}
use Rattle.lmn_base.specs.Solids.{atoms_of_region, atoms_step, connector, item_count, items_step, links_of_region}
use Rattle.lmn_base.proofs.Lists.{head_is}
use Rattle.lmn_base.proofs.Numbers.{not_equal}
use Rattle.lmn_congruence.specs.Regions as calculus
use Rattle.lmn_congruence.specs.Rules.{Name}
use Rattle.lmn_congruence.specs.SolidsOfPlains.{IsSolidOf, JoinsLeaf, fused_region, fused_step}
use Rattle.lmn_congruence.specs.Translation.{no_such_rule, numbered_rule, region_of, region_step}
use Rattle.lmn_adequacy.specs.ChangeExamples.{changing}
use Rattle.lmn_print_folded.specs.Lines.{IsLine}
use Rattle.lmn_print.specs.Lines.{IsHeapLine}
use Rattle.lmn_guards.specs.declared.plan.GuardPlan.{GuardPlan}
use Rattle.lmn_store_heap.specs.Heap.{Heap, HeapAtom, HeapMem, IsMem, atoms_by, atoms_in, finished, functor_of, gone, home_by, lone_root, made_atom, marks_of, mem_mark_by, mem_unless_waiting, mem_with_spare, partners_of, placed, rule_added, rules_in, taken, top, unless_waiting}
use Rattle.lmn_store_heap.specs.Solid.{HasSolid, regions_of, solid_atom_at, solid_atoms_at}
use Rattle.lmn_store_heap.specs.Sound.{Forest, IsTree, Sound, Valid, bare, flat, item_count_in, mem}
use Rattle.lmn_store_heap.proofs.Calls.{finished_is_valid, keeps_sound, one_tree}
use Rattle.lmn_store_heap.proofs.Lone.{lone_valid}
use Rattle.lmn_instr_code.specs.declared.instr.Code.{Code}
use Rattle.lmn_instr_code.specs.declared.instr.Instr.{Instr}
use Rattle.lmn_instr_code.specs.declared.instr.Instr.TheVariants.{Commit, FindAtom, Proceed, RemoveAtom}
use Rattle.lmn_instr_code.specs.Running.{HeadRegisters, Succeeds}
use Rattle.lmn_solid_bodies.specs.Running.{Registers}
use Rattle.lmn_machine_commit.specs.Waking.{Commits}
use Rattle.lmn_machine_commit.proofs.Rousing.{no_marks}
use Rattle.lmn_schedule_loading.specs.Loaded.{IsLoaded}
use Rattle.lmn_machine.specs.Costs.{Leaves}
use Rattle.lmn_flatten_plain.specs.SamePlains.{SamePlain}
use Rattle.lmn_app_reading.specs.Texts.{IsAcceptedAs}
use Rattle.lmn_app_reading.proofs.OneRead.{one_acceptance}
use Rattle.lmn_schedule_strategy.specs.Choosing.{CodeSucceeds}
use Rattle.lmn_schedule_strategy.specs.Quieting.{AllAwake}
use Rattle.lmn_schedule_strategy.specs.Turns.{HoldsRestsOf}
use Rattle.lmn_schedule_strategy.specs.declared.turning.Turn.TheVariants as turn
use Rattle.lmn_reduction.specs.Chains.{Chain, no_step, step_after}
use Rattle.lmn_app_drive.specs.declared.driving.RunEnd.TheVariants as run
use Rattle.lmn_app_runs.specs.Runs.{end_line, word_of_stop}
use Rattle.lmn_app_runs.specs.declared.stop.Stop.TheVariants as stop
use Rattle.lmn_verify_turns.specs.Laws.{AreVerified}
use Rattle.lmn_verify_coded.specs.Runs.{CodedTurn, Executed, begun, turned}
use Rattle.lmn_verify_coded.specs.Laws.{HeapsRunAsSolids}
use Rattle.lmn_verify_solids.specs.Graphs.{IsGraphOf}
use Rattle.lmn_verify_solids.specs.Heads.{NoneIn}
use Rattle.lmn_verify_solids.specs.Heaps.{graph_of}
use Rattle.lmn_verify_solids.specs.Laws.{GraphsHaveHeaps, HeadsAreAlike, OnePreorder}
use Rattle.lmn_verify_solids.specs.Turns.{CodeNext, NoneSucceeds}
use Rattle.lmn_instr_code.specs.declared.words.Operand.{Operand}
use Rattle.lmn_instr_code.specs.declared.words.Operand.TheVariants as operand
use Rattle.lmn_verify_listing.specs.Lines.{FitsInstr, IsWrongLine, rule}
use Rattle.lmn_verify_listing.specs.ListingLaws.{ListedLinesStand}
use Rattle.lmn_verify_listing.specs.Listings.{AreListed, HasPlainLine, IsBlock, IsRefusedListing, not_a_listing, not_verified}
use Rattle.lmn_verify_code.specs.Verified.{IsVerified}
use Rattle.lmn_verify_listing.proofs.Places.{has_no_by_test}
use Rattle.lmn_verify_compiled.specs.OneReading.{ListedCodesAreRead, VerifiedIsNotRefused}
use Rattle.lmn_app.specs.ExecExamples.{SmallListingIsRead, SmallListingIsWrong, SmallTextIsExecuted, SmallTextIsNotExecutedSo, leaving, taking}
use Rattle.lmn_app.specs.Executions.{IsWrongListing, ReadsCodes, executed_size}
use Rattle.lmn_app.specs.ListingExamples.{small_listing}
use Rattle.lmn_app.specs.Runnings.{coded_input}
use Rattle.lmn_app.specs.TextExamples.{no_plan, one_leaf, small_names, small_plain, small_rule, small_text}
use Rattle.lmn_app_single.specs.Texts.{Accepts, at_start}
use Rattle.lmn_app_single.specs.Writing.{IsListing}
use Rattle.lmn_app.proofs.OneListing.{one_listing}
use Rattle.lmn_app.proofs.SmallListings.{small_text_is_listed}
use Rattle.lmn_app.proofs.SmallRuns.{its_rules, small_named}
use Rattle.lmn_app.proofs.SmallTexts.{leaves_listed, no_links, reads, small_text_is_accepted}
use Rattle.lmn_app.proofs.OneOutput.{as_many as same_length}

-- ---- the codes

abbrev an_a : Functor
an_a = record { label = NameLabel 7; arity = 0 }

abbrev finding : List Instr
finding = FindAtom 0 0 an_a ∷ (Commit ∷ [])

abbrev taking_code : Code
taking_code = record { head = finding; body = RemoveAtom 0 ∷ (Proceed ∷ []) }

abbrev leaving_code : Code
leaving_code = record { head = finding; body = Proceed ∷ [] }

taking_verified : IsVerified taking_code 1
taking_verified = record {
  order = refl;
  looked_at = refl;
  first = refl;
  integers = refl;
  few = omega arith;
  ports = refl;
  head = refl;
  apart = refl;
  apart_membranes = refl;
  taken = refl;
  rest = refl;
  emptied = refl;
  once = refl;
}

leaving_not_verified : IsVerified leaving_code 1 → ⊥
leaving_not_verified v = true≢false (sym v.taken)

-- ---- their listings

abbrev no_operand : Operand
no_operand = operand.Number 0

find_fits : FitsInstr (FindAtom 0 0 an_a)
find_fits = record {
  first = operand.Atom 0;
  second = operand.Membrane 0;
  third = operand.Functor an_a;
  parts = [];
  fits = record { first = omega arith; second = omega arith; third = (omega arith, omega arith); few = λ e. refl; parts = tt };
  are = refl;
}

remove_fits : FitsInstr (RemoveAtom 0)
remove_fits = record {
  first = operand.Atom 0;
  second = no_operand;
  third = no_operand;
  parts = [];
  fits = record { first = omega arith; second = tt; third = tt; few = λ e. refl; parts = tt };
  are = refl;
}

find_whole : IsBlock true Commit finding
find_whole = record { front = FindAtom 0 0 an_a ∷ []; are = refl; of = ((refl, find_fits), tt); others = ((λ e. cc e), tt) }

take_whole : IsBlock false Proceed taking_code.body
take_whole = record { front = RemoveAtom 0 ∷ []; are = refl; of = ((refl, remove_fits), tt); others = ((λ e. cc e), tt) }

leave_whole : IsBlock false Proceed leaving_code.body
leave_whole = record { front = []; are = refl; of = tt; others = tt }

find_line : HasPlainLine small_names (FindAtom 0 0 an_a)
unfolding digits
find_line = ((tt, (tt, ((let one : 1 ≤ 255 = omega arith in one), tt))), (codes "  FINDATOM A0 M0 a/0", has_no_by_test 10 (codes "  FINDATOM A0 M0 a/0") refl, refl))

commit_line : HasPlainLine small_names Commit
commit_line = (tt, (codes "  COMMIT", has_no_by_test 10 (codes "  COMMIT") refl, refl))

remove_line : HasPlainLine small_names (RemoveAtom 0)
unfolding digits
remove_line = ((tt, tt), (codes "  REMOVEATOM A0", has_no_by_test 10 (codes "  REMOVEATOM A0") refl, refl))

proceed_line : HasPlainLine small_names Proceed
proceed_line = (tt, (codes "  PROCEED", has_no_by_test 10 (codes "  PROCEED") refl, refl))

taking_listed : AreListed 1 small_names (taking_code ∷ []) taking
unfolding digits
taking_listed = record {
  many = refl;
  whole = ((find_whole, take_whole), tt);
  named = ((((tt, (tt, ((let there : 7 < 9 = omega arith in there), tt))), (tt, tt)), ((tt, tt), (tt, tt))), tt);
  plain = (((find_line, (commit_line, tt)), (remove_line, (proceed_line, tt))), tt);
  are = refl;
}

leaving_listed : AreListed 1 small_names (leaving_code ∷ []) leaving
unfolding digits
leaving_listed = record {
  many = refl;
  whole = ((find_whole, leave_whole), tt);
  named = ((((tt, (tt, ((let there : 7 < 9 = omega arith in there), tt))), (tt, tt)), (tt, tt)), tt);
  plain = (((find_line, (commit_line, tt)), (proceed_line, tt)), tt);
  are = refl;
}

-- ---- the text, in whatever way it is accepted

module _ (names : List Name) (plain : Plain) (plans : List GuardPlan) (a : Accepts small_text names plain plans) where
  names_are : names ≡ small_names
  names_are =
      let mine = small_text_is_accepted in
      a.named reads.tokens reads.tree reads.right reads.reads reads.within ∙ sym (mine.named reads.tokens reads.tree reads.right reads.reads reads.within)

  same_plain : SamePlain plain small_plain
  same_plain =
      let mine = small_text_is_accepted in
      let one = one_acceptance small_text small_names plain small_plain plans (no_plan ∷ []) (subst (λ ns. IsAcceptedAs small_text ns plain plans) names_are a.accepted) mine.accepted in
      one.plain

  one_rule : length plain.rules ≡ 1
  one_rule = same_length plain.rules (small_rule ∷ []) same_plain.rules

-- ---- what is read

abbrev taking_read : ReadsCodes small_text taking
taking_read = record {
  names = small_names;
  plain = small_plain;
  plans = no_plan ∷ [];
  accepted = small_text_is_accepted;
  later = small_names;
  adds = record { more = []; are = refl; few = omega arith };
  once = small_named;
  codes = taking_code ∷ [];
  order = known (omega arith) no_more;
  are = taking_listed;
  verified = (taking_verified, tt);
}

-- a code that is listed is the one that is read
one_code : ListedCodesAreRead → (c : Code) (listing : List ℕ) → AreListed 1 small_names (c ∷ []) listing → (r : ReadsCodes small_text listing) → c ∷ [] ≡ r.codes
one_code read c listing are r =
    let names = names_are r.names r.plain r.plans r.accepted in
    let one = one_rule r.names r.plain r.plans r.accepted in
    let once = r.once in
    read 1 (3 * length listing) r.names r.later (c ∷ []) r.codes listing (omega arith) once.once r.adds
    (subst (λ ns. AreListed 1 ns (c ∷ []) listing) (sym names) are)
    (subst (λ n. AreListed n r.later r.codes listing) one r.are)

leaving_not_read : ListedCodesAreRead → ¬ (ReadsCodes small_text leaving)
leaving_not_read read r =
    let verified = subst (λ n. AllByRecursion (λ c. IsVerified c n) r.codes) (one_rule r.names r.plain r.plans r.accepted) r.verified in
    let mine : AllByRecursion (λ c. IsVerified c 1) (leaving_code ∷ []) = subst (AllByRecursion (λ c. IsVerified c 1)) (sym (one_code read leaving_code leaving leaving_listed r)) verified in
    leaving_not_verified mine.0

-- nothing at all is the listing of no code
none_listed : (n : ℕ) (names : List Name) (cs : List Code) → AreListed n names cs [] → n ≡ 1 → ⊥
none_listed n names [] l e = (let many = l.many in omega (arith, many, e))
none_listed n names (c ∷ cs) l e = (let is = l.are in cc is)

nothing_not_read : ¬ (ReadsCodes small_text [])
nothing_not_read r = none_listed (length r.plain.rules) r.later r.codes r.are (one_rule r.names r.plain r.plans r.accepted)

-- a code is read of the first listing alone
pub small_listing_is_read : ListedCodesAreRead → SmallListingIsRead
small_listing_is_read read = (taking_read, leaving_not_read read, nothing_not_read)

-- ---- what is wrong

leaving_wrong : IsWrongListing small_text leaving (at_start 82)
leaving_wrong = record {
  names = small_names;
  plain = small_plain;
  plans = no_plan ∷ [];
  accepted = small_text_is_accepted;
  later = small_names;
  adds = record { more = []; are = refl; few = omega arith };
  once = small_named;
  wrong = not_verified (leaving_code ∷ []) leaving_listed (known (omega arith) no_more) (record { rule = 0; code = leaving_code; is = refl; unverified = leaving_not_verified; earlier = tt; number = refl });
  first = refl;
}

-- a listing that is refused by 81 has a wrong line
by_line : {n code line : ℕ} {names later : List Name} {listing : List ℕ} → IsRefusedListing n names later listing code line → code ≡ 81 → IsWrongLine n listing line
by_line (not_a_listing w) e = w
by_line (not_verified cs l o f) e = absurd (omega (arith, e))

leaving_stands : ListedLinesStand → ¬ (IsWrongListing small_text leaving (at_start 81))
leaving_stands stand x =
    let w : IsWrongLine (length x.plain.rules) leaving 1 = by_line x.wrong refl in
    stand 1 small_names (leaving_code ∷ []) leaving 1 (omega arith) leaving_listed (subst (λ n. IsWrongLine n leaving 1) (one_rule x.names x.plain x.plans x.accepted) w)

nothing_wrong : IsWrongListing small_text [] (at_start 81)
nothing_wrong = record {
  names = small_names;
  plain = small_plain;
  plans = no_plan ∷ [];
  accepted = small_text_is_accepted;
  later = small_names;
  adds = record { more = []; are = refl; few = omega arith };
  once = small_named;
  wrong = not_a_listing (record { before = []; whole = tt; due = rule 0; stand = refl; rest = []; cut = refl; wrong = λ e. cc e; more = λ e. absurd (cc e); number = refl });
  first = refl;
}

taking_not_wrong : VerifiedIsNotRefused → (refusal : Refusal) → ¬ (IsWrongListing small_text taking refusal)
taking_not_wrong refused refusal x =
    let names = names_are x.names x.plain x.plans x.accepted in
    let once = x.once in
    refused 1 (3 * length taking) x.names x.later (taking_code ∷ []) taking refusal.code refusal.pos.line (omega arith) once.once x.adds
    (subst (λ ns. AreListed 1 ns (taking_code ∷ []) taking) (sym names) taking_listed) (taking_verified, tt)
    (subst (λ n. IsRefusedListing n x.names x.later taking refusal.code refusal.pos.line) (one_rule x.names x.plain x.plans x.accepted) x.wrong)

-- the others are wrong, and the first isn't
pub small_listing_is_wrong : VerifiedIsNotRefused → ListedLinesStand → SmallListingIsWrong
small_listing_is_wrong refused stand = (leaving_wrong, leaving_stands stand, nothing_wrong, taking_not_wrong refused)

-- ---- its heap

abbrev made : Heap
made = made_atom lone_root 0 an_a

abbrev with_a : Heap
with_a = placed made 0 0

-- an `a` in the root, and the rule
abbrev first : Heap
first = rule_added with_a 0 0

-- the `a` is taken,
abbrev without_a : Heap
without_a = taken first 0

-- and freed
abbrev last : Heap
last = finished without_a

first_sound : Sound first
first_sound =
    let one = (keeps_sound lone_root lone_valid.sound).make_atom 0 an_a refl in
    let two = (keeps_sound made one).place_atom 0 0 tt refl in
    (keeps_sound with_a two).add_rule 0 0

-- what holds of the number 0, and of what names nothing, holds of all
module _ (h : Heap) (atoms : (x : ℕ) → x ≢ 0 → h.atoms x ≡ None) (mems : (m : ℕ) → m ≢ 0 → h.mems m ≡ None) where
  each_atom : (P : Option HeapAtom → Type 0) → P (h.atoms 0) → P None → (x : ℕ) → P (h.atoms x)
  each_atom P p n x = elim (cases_eq x 0) [ inl e ↦ subst (λ y. P (h.atoms y)) (sym e) p | inr d ↦ subst P (sym (atoms x d)) n ]

  each_mem : (P : ℕ → Option HeapMem → Type 0) → P 0 (h.mems 0) → ((m : ℕ) → P m None) → (m : ℕ) → P m (h.mems m)
  each_mem P p n m = elim (cases_eq m 0) [ inl e ↦ subst (λ y. P y (h.mems y)) (sym e) p | inr d ↦ subst (P m) (sym (mems m d)) (n m) ]

first_atoms : (x : ℕ) → x ≢ 0 → first.atoms x ≡ None
first_atoms x d = rw (not_equal x 0 d) refl

first_mems : (m : ℕ) → m ≢ 0 → first.mems m ≡ None
first_mems m d = rw (not_equal m 0 d) refl

taken_atoms : (x : ℕ) → x ≢ 0 → without_a.atoms x ≡ None
taken_atoms x d = rw (not_equal x 0 d) refl

taken_mems : (m : ℕ) → m ≢ 0 → without_a.mems m ≡ None
taken_mems m d = rw (not_equal m 0 d) refl

last_mems : (m : ℕ) → m ≢ 0 → last.mems m ≡ None
last_mems m d = rw (not_equal m 0 d) refl

last_atoms : (x : ℕ) → last.atoms x ≡ None
last_atoms x = elim (cases_eq x 0) [ inl e ↦ ap last.atoms e | inr d ↦ (rw (not_equal x 0 d) refl) ]

first_tree : IsTree first (mem 0 bare bare)
first_tree = record {
  forms = ([], refl, refl, refl);
  once = (tt, tt);
  all = each_mem first first_atoms first_mems (λ m o. IsSome o → In m (0 ∷ [])) (λ i. inl refl) (λ m i. absurd (cc));
}

last_tree : IsTree last (mem 0 bare bare)
last_tree = record {
  forms = ([], refl, refl, refl);
  once = (tt, tt);
  all = each_mem last (λ x d. last_atoms x) last_mems (λ m o. IsSome o → In m (0 ∷ [])) (λ i. inl refl) (λ m i. absurd (cc));
}

a_no_connector : Some an_a ≡ Some connector → ⊥
a_no_connector e = let n = ap (λ (z : Functor). z.arity) (same_Some an_a connector e) in omega (arith, n)

first_valid : Valid first
first_valid = record {
  sound = first_sound;
  settled = record {
    atoms = each_atom first first_atoms first_mems (λ o. IsSome o → IsSome (option_and_then (λ x. home_by x.place) o)) (λ i. refl) (λ i. absurd (cc));
    mems = each_mem first first_atoms first_mems (λ m o. IsSome o → (option_map (λ x. x.place) o ≡ Some top) ⊎ IsSome (option_and_then (λ x. home_by x.place) o)) (λ i. inl refl) (λ m i. absurd (cc));
  };
  full = each_atom first first_atoms first_mems (λ o. (i : ℕ) → i < length (partners_of o) → IsSome (slice_index_or (partners_of o) i None))
      (λ i h. absurd (let l : i < 0 = h in omega arith)) (λ i h. absurd (let l : i < 0 = h in omega arith));
  no_connector = λ x i e. each_atom first first_atoms first_mems (λ o. option_map (λ y. y.functor) o ≡ Some connector → ⊥) a_no_connector (λ e. absurd (cc)) x e;
  tree = (mem 0 bare bare, first_tree);
}

-- once the `a` is taken no atom is in place
none_in_place : (x : ℕ) → IsSome (option_and_then (λ (y : HeapAtom). home_by y.place) (without_a.atoms x)) → ⊥
none_in_place = each_atom without_a taken_atoms taken_mems (λ o. IsSome (option_and_then (λ (y : HeapAtom). home_by y.place) o) → ⊥) (λ i. absurd (cc)) (λ i. absurd (cc))

none_gone : (m : ℕ) → option_map (λ (y : HeapMem). y.place) (without_a.mems m) ≡ Some gone → ⊥
none_gone = each_mem without_a taken_atoms taken_mems (λ m o. option_map (λ y. y.place) o ≡ Some gone → ⊥) (λ e. absurd (cc)) (λ m e. absurd (cc))

last_valid : Valid last
last_valid = finished_is_valid without_a (mem 0 bare bare) ((keeps_sound first first_sound).take_atom 0 refl)
    (record {
      empty = λ m e. absurd (none_gone m e);
      full = λ a i p l. absurd (none_in_place a p);
      kept = λ a i b j p e. absurd (none_in_place a p);
      no_atoms = refl;
      no_mems = refl;
    })
    ([], refl, refl, refl)
    (λ m i d. each_mem without_a taken_atoms taken_mems (λ m o. IsSome o → In m (0 ∷ [])) (λ i. inl refl) (λ m i. absurd (cc)) m i)
    (λ a p. absurd (none_in_place a p))

first_awake : AllAwake first
first_awake = each_mem first first_atoms first_mems (λ m o. mem_mark_by o ≡ 0) refl (λ m. refl)

last_awake : AllAwake last
last_awake = each_mem last (λ x d. last_atoms x) last_mems (λ m o. mem_mark_by o ≡ 0) refl (λ m. refl)

-- ---- its solids

abbrev root_with : List SolidAtom → Region-F Region
root_with atoms = record { atoms = atoms; membranes = []; rules = 0 ∷ [] }

abbrev solid_with : List SolidAtom → Solid
solid_with atoms = record { root = roll-Region (root_with atoms) }

abbrev solid_a : SolidAtom
solid_a = record { functor = an_a; links = [] }

its_atoms : (atoms : List SolidAtom) → atoms_of_region (roll-Region (root_with atoms)) ≡ atoms ++ []
its_atoms atoms = fold-roll-Region (List SolidAtom) atoms_step (root_with atoms)

first_links : links_of_region (roll-Region (root_with (solid_a ∷ []))) ≡ []
first_links = ap (flat_map (λ x. x.links)) (its_atoms (solid_a ∷ []))

last_links : links_of_region (roll-Region (root_with [])) ≡ []
last_links = ap (flat_map (λ x. x.links)) (its_atoms [])

first_has : HasSolid first (solid_with (solid_a ∷ []))
first_has = record {
  forest = mem 0 bare bare;
  tree = first_tree;
  name = λ x i. 0;
  naming = record {
    joined = λ x i y j e. refl;
    apart = λ x i y j h k e. absurd (each_atom first first_atoms first_mems (λ o. i < length (partners_of o) → ⊥) (λ l. (let z : i < 0 = l in omega arith)) (λ l. (let z : i < 0 = l in omega arith)) x h);
  };
  root = refl;
  count = 0;
  numbers = subst (λ ls. NumbersLinks ls 0) (sym first_links) no_more;
}

last_has : HasSolid last (solid_with [])
last_has = record {
  forest = mem 0 bare bare;
  tree = last_tree;
  name = λ x i. 0;
  naming = record {
    joined = λ x i y j e. refl;
    apart = λ x i y j h k e. absurd (subst (λ o. i < length (partners_of o) → ⊥) (sym (last_atoms x)) (λ l. (let z : i < 0 = l in omega arith)) h);
  };
  root = refl;
  count = 0;
  numbers = subst (λ ls. NumbersLinks ls 0) (sym last_links) no_more;
}

-- a level with these leaves and rules, fused
fused : (s : Solid) → IsSolidOf small_plain s → s.root ≡ roll-Region (root_with (solid_a ∷ []))
fused s of = of.is ∙ fold-roll-Level Region (fused_step of.to) _

first_of_plain : IsSolidOf small_plain (solid_with (solid_a ∷ []))
first_of_plain =
    let leaves : leaves_of small_plain.top ≡ one_leaf 7 1 ∷ [] = leaves_listed _ in
    let atoms = its_atoms (solid_a ∷ []) in
    record {
      closed = subst EachTwice (sym (no_links 7 1 (0 ∷ []))) (λ x. inl refl);
      to = λ x. x;
      joins = subst (All (JoinsLeaf (λ x. x))) (sym leaves) (All-from_recursion (JoinsLeaf (λ x. x)) (one_leaf 7 1 ∷ []) (tt, tt));
      is = sym (fold-roll-Level Region (fused_step (λ x. x)) _);
      is_solid = record {
        arities = subst (All (λ (a : SolidAtom). length a.links ≡ a.functor.arity)) (sym atoms) (All-from_recursion (λ (a : SolidAtom). length a.links ≡ a.functor.arity) (solid_a ∷ []) (refl, tt));
        no_connector = subst (All (λ (a : SolidAtom). a.functor ≢ connector)) (sym atoms) (All-from_recursion (λ (a : SolidAtom). a.functor ≢ connector) (solid_a ∷ []) ((λ e. a_no_connector (ap (λ f. Some f) e)), tt));
        closed = subst EachTwice (sym first_links) (λ x. inl refl);
        numbered = (0, subst (λ ls. NumbersLinks ls 0) (sym first_links) no_more);
      };
    }

-- an atom and a rule
two_items : (s : Solid) → IsSolidOf small_plain s → item_count s ≤ executed_size
two_items s of =
    let two : item_count s ≡ 2 = ap (λ r. item_count (record { root = r })) (fused s of) ∙ fold-roll-Region ℕ items_step (root_with (solid_a ∷ [])) in
    omega (arith, two)

no_mark : (i : ℕ) → ◌≡◌ {A = ℕ} (slice_index_or (0 ∷ []) i 0) 0
no_mark zero = refl
no_mark (suc i) = refl

first_loaded : IsLoaded small_plain first
first_loaded = record {
  valid = first_valid;
  unmarked = λ a i. each_atom first first_atoms first_mems (λ o. slice_index_or (marks_of o) i 0 ≡ 0) (no_mark i) refl a;
  solid = solid_with (solid_a ∷ []);
  of_heap = first_has;
  of_plain = first_of_plain;
}

-- ---- its turns

abbrev registers : Registers
registers = record {
  head = record { images = record { atom = λ k. 0; membrane = λ k. 0; part = λ k. (0, 0) }; integer = λ k. pos 0 };
  copy = λ k. (0, 0);
  copied = λ k. [];
  left_atoms = λ m. [];
  left_membranes = λ m. [];
}

succeeds : Succeeds first finding 0 registers.head
succeeds = record { here = refl; all = ((inl refl, refl), (tt, tt)) }

least : (n : ℕ) → (0 < n) ⊎ ((0 ≡ n) × Unit {0})
least zero = inr (refl, tt)
least (suc n) = inl (omega arith)

rests : HoldsRestsOf first finding registers
rests m l = (
  (λ a. false),
  (λ a i. ((λ e. absurd (true≢false (sym e))), (λ b. absurd (elim i [ inl e ↦ b.no_atom 0 (omega arith) e | inr e ↦ absurd e ])))),
  record { forest = bare; forms = refl; preorder = refl; once = tt; outside = λ i. absurd i; in_order = refl },
)

leaves_one : Leaves first registers taking_code.body 1
leaves_one = record {
  added = 0;
  taken = 1;
  adds = (0, 0, (refl, (0, 0, (refl, refl, refl)), refl));
  takes = (1, 0, (refl, (0, 0, (refl, refl, refl)), refl));
  count = λ f t. subst (λ z. 1 + 1 + 1 ≡ item_count_in first (flat z) + 0) (one_tree first (mem 0 bare bare) f first_tree t) refl;
}

commits : Commits first registers taking_code.body last
commits = record {
  prepared = first;
  prepares = (first, refl, (first, refl, refl));
  makes = record {
    root = refl;
    atoms = each_atom first first_atoms first_mems (λ o. option_and_then unless_waiting o ≡ o) refl refl;
    mems = each_mem first first_atoms first_mems (λ m o. (k : ℕ) × (option_and_then mem_unless_waiting o ≡ option_map (mem_with_spare k) o)) (0, refl) (λ m. (0, refl));
    new_atoms = refl;
    new_mems = refl;
  };
  after = last;
  does = (without_a, refl, (last, refl, refl));
  alike = no_marks last;
  wakes = record {
    stood = λ x i. each_mem last (λ y d. last_atoms y) last_mems (λ m o. IsSome o → IsMem first m) (λ i. refl) (λ m i. absurd (cc)) x i;
    woken = λ x y j r a. last_awake x;
    others = λ x i. inl (last_awake x ∙ sym (first_awake x));
  };
}

one_turn : CodedTurn (taking_code ∷ []) executed_size first turn.Committed last
one_turn = record {
  tree = mem 0 bare bare;
  is_tree = first_tree;
  lulled = first;
  alike = no_marks first;
  turn = record {
    membrane = 0;
    place = 0;
    rule = 0;
    chosen = record {
      earlier = [];
      later = [];
      order = refl;
      none = λ m i. absurd i;
      rule = record { stands = refl; succeeds = record { code = taking_code; is = refl; registers = registers.head; succeeds = succeeds }; earlier = λ k i. absurd i };
    };
    code = taking_code;
    is = refl;
    registers = registers;
    first = record { succeeds = succeeds; first = λ s w. least _ };
    rests = rests;
    left = 1;
    leaves = leaves_one;
    answered = (omega arith, commits);
  };
}

-- no atom is left
nothing_in : (m a : ℕ) → In a (atoms_in last m) → ⊥
nothing_in m a i = each_mem last (λ y d. last_atoms y) last_mems (λ k o. In a (atoms_by o) → ⊥) (λ j. absurd j) (λ k j. absurd j) m i

no_success : (m n : ℕ) → CodeSucceeds last (taking_code ∷ []) m n → ⊥
no_success m zero s =
    let is : taking_code ≡ s.code = same_Some taking_code s.code s.is in
    let w = subst (λ (c : Code). Succeeds last c.head m s.registers) (sym is) s.succeeds in
    nothing_in (s.registers.images.membrane 0) (s.registers.images.atom 0) w.all.0.0
no_success m (suc n) s = absurd (let e = s.is in cc e)

no_turn : CodedTurn (taking_code ∷ []) executed_size last turn.Irreducible last
no_turn = record { tree = mem 0 bare bare; is_tree = last_tree; lulled = last; alike = no_marks last; turn = ((λ m i n j s. no_success m n s), refl) }

its_line : IsHeapLine false small_names (small_rule ∷ []) last (codes "(a :- b).\n")
its_line =
    let region : region_of small_names (small_rule ∷ []) (solid_with []) ≡ changing [] =
    fold-roll-Region calculus.Region (region_step small_names (numbered_rule small_names (small_rule ∷ []))) (root_with [])
    ∙ ap (λ rs. calculus.region [] calculus.no_region (slice_index_or rs 0 no_such_rule ∷ [])) its_rules in
    (solid_with [], last_has, subst (λ S. IsLine false S (codes "(a :- b).\n")) (sym region) refl)

-- the run by it, over its heap
abbrev over_heap : Executed (coded_input small_names small_plain (taking_code ∷ []) first) 1 last run.Irreducible (Some []) (Some (codes "(a :- b).\n" ++ end_line (word_of_stop stop.Irreducible) 1))
over_heap = record {
  why = stop.Irreducible;
  stopped = record { last = last; run = turned {n = 0} begun one_turn last_valid; stops = (omega arith, no_turn) };
  line = codes "(a :- b).\n";
  is_line = its_line;
  wrote = inl (refl, refl);
}

all_taking : AreVerified (taking_code ∷ [])
all_taking zero code is = subst (λ c. IsVerified c 1) (same_Some taking_code code is) taking_verified
all_taking (suc n) code is = absurd (cc is)

-- its listing isn't that of the text
not_its_listing : IsListing small_text taking → ⊥
not_its_listing is = let e : 63 ≡ 83 = ap length (one_listing small_text taking small_listing is small_text_is_listed.0) in absurd (omega (arith, e))

-- and the run by it, from its solid on
pub small_execution : HeapsRunAsSolids → SmallTextIsExecuted
unfolding digits
small_execution law =
    let loaded = first_loaded in
    let x = law (coded_input small_names small_plain (taking_code ∷ []) first) all_taking loaded.solid (record { valid = loaded.valid; unmarked = loaded.unmarked; solid = loaded.of_heap }) 1 last run.Irreducible (Some []) _ over_heap in
    record {
      of = taking_read;
      first = loaded.solid;
      of_plain = loaded.of_plain;
      few = two_items loaded.solid loaded.of_plain;
      commits = 1;
      ran = x.0;
      is = ap (λ l. l ++ end_line (word_of_stop stop.Irreducible) 1) x.1;
      as_run = λ is. absurd (not_its_listing is);
    }

-- ---- no run ends at once

-- in a list of atoms of which the solid has an `a` alone one is that
some_a : (h : Heap) (name : ℕ → ℕ → ℕ) (xs : List ℕ) → solid_atoms_at h name xs ≡ solid_a ∷ [] → (x : ℕ) × In x xs × (functor_of h x ≡ Some an_a)
some_a h name [] e = absurd (cc e)
some_a h name (x ∷ xs) e = by_atom (h.atoms x) refl (some_a h name xs)
  where
    by_atom : (o : Option HeapAtom) → h.atoms x ≡ o → (solid_atoms_at h name xs ≡ solid_a ∷ [] → (y : ℕ) × In y xs × (functor_of h y ≡ Some an_a)) → (y : ℕ) × In y (x ∷ xs) × (functor_of h y ≡ Some an_a)
    by_atom None n others = let w = others (sym (ap (λ o. solid_atom_at name x o ++ solid_atoms_at h name xs) n) ∙ e) in (w.0, inr w.1, w.2)
    by_atom (Some y) n others =
        let same = head_is (sym (ap (λ o. solid_atom_at name x o ++ solid_atoms_at h name xs) n) ∙ e) in
        (x, inl refl, ap (option_map (λ (z : HeapAtom). z.functor)) n ∙ ap (λ (z : SolidAtom). Some z.functor) same)

-- where the solid is that of the text, some membrane of the tree has the rule, which succeeds there
some_success : (h : Heap) (name : ℕ → ℕ → ℕ) (f : Forest) → regions_of h name f ≡ roll-Region (root_with (solid_a ∷ [])) ∷ [] → (m : ℕ) × In m (flat f) × In 0 (rules_in h m) × CodeSucceeds h (taking_code ∷ []) m 0
some_success h name bare e = absurd (cc e)
some_success h name (mem m inner rest) e =
    let here = ap out-Region (head_is e) in
    let is = sym (out-roll-Region _) ∙ here ∙ out-roll-Region (root_with (solid_a ∷ [])) in
    let w = some_a h name (atoms_in h m) (ap (λ (r : Region-F Region). r.atoms) is) in
    let rules : rules_in h m ≡ 0 ∷ [] = ap (λ (r : Region-F Region). r.rules) is in
    let found : HeadRegisters = record { images = record { atom = λ k. w.0; membrane = λ k. m; part = λ k. (0, 0) }; integer = λ k. pos 0 } in (
      m,
      inl refl,
      subst (In 0) (sym rules) (inl refl),
      record { code = taking_code; is = refl; registers = found; succeeds = record { here = refl; all = ((w.1, w.2), (tt, tt)) } },
    )

-- a run without commits is where it began
at_once : {codes : List Code} {size n : ℕ} {S T : Solid} → Chain (CodeNext codes size) S n T → n ≡ 0 → T ≡ S
at_once no_step e = refl
at_once (step_after {n = n} c r) e = absurd (omega (arith, e))

-- so each run by it that ends as irreducible has a commit
pub no_run_at_once : ListedCodesAreRead → GraphsHaveHeaps → OnePreorder → HeadsAreAlike → SmallTextIsNotExecutedSo
no_run_at_once read heaps order alike written x none =
    let of = x.of in
    let ran = x.ran in
    let stops : NoneSucceeds of.codes x.first = subst (NoneSucceeds of.codes) (at_once ran.run none) ran.stops.1 in
    let k = heaps stops.0 x.first stops.1 in
    let h = k.heap in
    let has = k.solid in
    let on : (is : IsGraphOf (graph_of h) x.first) × NoneIn (graph_of h) of.codes is.all =
    subst (λ g. (is : IsGraphOf g x.first) × NoneIn g of.codes is.all) (sym k.is) (stops.1, stops.2) in
    let top : of.plain.top ≡ small_plain.top = (same_plain of.names of.plain of.plans of.accepted).top in
    let of_plain = x.of_plain in
    let root = of_plain.is ∙ ap (fused_region of_plain.to) top ∙ fold-roll-Level Region (fused_step of_plain.to) _ in
    let w = some_success h has.name has.forest (has.root ∙ ap (λ r. r ∷ []) root) in
    let one = one_code read taking_code taking taking_listed of in
    let s = subst (λ cs. CodeSucceeds h cs w.0 0) one w.3 in
    on.1 w.0 (subst (In w.0) (sym (order h x.first on.0 has.forest has.tree)) w.1) 0 w.2 s.code s.registers s.is ((alike h s.code.head w.0 s.registers).0.0 s.succeeds)
