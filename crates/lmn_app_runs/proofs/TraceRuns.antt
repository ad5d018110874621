-- What is printed of a trace is a run.
use Rattle.std.proofs.Common.{◌≡◌, ℕ, ◌+◌, ◌<◌, ◌≤◌, ◌⊎◌, ◌↔◌, inl, inr, Bool, true, false, List, [], ◌∷◌, ◌++◌, map, length, get_or, All, refl, sym, ap, ◌∙◌, subst, arith}
use Rattle.std.specs.List.{AllByRecursion, flat_map, AllZip}
use Rattle.std.proofs.lemmas.List.Elements.{All-from_recursion}
use Rattle.std.proofs.lemmas.List.{length-append, length-map, map-append}
use Rattle.lmn_base.specs.declared.rule.Plain.{Plain}
use Rattle.lmn_base.specs.declared.solid.Solid.{Solid}
use Rattle.lmn_base.specs.declared.solid.SolidAtom as base_atom
use Rattle.lmn_base.specs.declared.solid.Region as base_region
use Rattle.lmn_base.specs.declared.solid.Region.TheFolds.{fold-roll-Region}
use Rattle.lmn_base.specs.declared.solid.Region.TheViews.{roll-Region}
use Rattle.lmn_base.specs.Levels.{contexts_of, leaves_of, rule_contexts_of, rules_of}
use Rattle.lmn_base.specs.Links.{NumbersLinks}
use Rattle.lmn_base.specs.Names.{HasNames, NamesSolid, context_names, label_names, leaf_names, level_names, rule_names, IsNames}
use Rattle.lmn_base.specs.Solids.{HasEachRule, atoms_step, rules_step}
use Rattle.lmn_congruence.specs.Orders.{at_head, further}
use Rattle.lmn_congruence.specs.Plains.{level_process}
use Rattle.lmn_congruence.specs.Process.{Closed}
use Rattle.lmn_congruence.specs.Regions.{Region, Regions, SolidAtom, no_region, region, region_and, region_process}
use Rattle.lmn_congruence.specs.Rules as tree
use Rattle.lmn_congruence.specs.Rules.{Name, Rule, atom_leaf, named, integer}
use Rattle.lmn_congruence.specs.SolidsOfPlains.{IsSolidOf}
use Rattle.lmn_congruence.specs.Translation.{numbered_rule, region_of, region_step, top_of, rules as as_rules}
use Rattle.lmn_congruence.proofs.SolidsOfPlains.{solids_of_plains}
use Rattle.lmn_flatten_plain.specs.LinkNumbers.{AllRulesNumbered, EachNumbered, RuleNumbered, RulesNumbered, leaves_links, level_links, levels_links}
use Rattle.lmn_flatten_plain.specs.NamesHeld.{LeafHeld, LevelHeld, LevelsHeld, RuleHeld, RulesHeld}
use Rattle.lmn_flatten_plain.specs.SolidLines.{as_level, as_levels, atom_as_leaf}
use Rattle.lmn_flatten_plain.specs.Spelled.{LeafSpelled, LevelSpelled, LevelsSpelled, RuleSpelled, RulesSpelled}
use Rattle.lmn_flatten_plain.specs.Words.{line_of}
use Rattle.lmn_flatten_plain.proofs.HeldSolids.{level_held}
use Rattle.lmn_flatten_plain.proofs.SolidLines.{no_contexts, same_process}
use Rattle.lmn_flatten_plain.proofs.SolidNames.{solid_held}
use Rattle.lmn_flatten_plain.proofs.SolidNumbers.{solid_numbers, solid_rules_numbered}
use Rattle.lmn_flatten_plain.proofs.TextPlains.{lines_read_back}
use Rattle.lmn_print_folded.specs.Lines.{IsFoldedLine, IsLine}
use Rattle.lmn_print_folded_laws.specs.ReadBack.{IsFoldedLineOf}
use Rattle.lmn_print_folded_laws.proofs.ReadBack.{folded_lines_read_back}
use Rattle.lmn_adequacy.specs.Accepted.{Accepted, Throughout}
use Rattle.lmn_adequacy.specs.Embedding.{AllRules, AllRulesIn, EachRule, HasEmbedding}
use Rattle.lmn_adequacy.specs.Next.{links_at}
use Rattle.lmn_adequacy.specs.Numbered.{IsNumbered, printed_links, printed_links_in}
use Rattle.lmn_adequacy.specs.Runs.{End, Ends, Trace, Turn, budget_done, full, irreducible, loaded, none_allowed, nothing_embeds, too_many, turned, Chooser}
use Rattle.lmn_adequacy.proofs.Heads.{all_rules_so}
use Rattle.lmn_adequacy.proofs.Results.{firings_commit, irreducible_exactly}
use Rattle.lmn_adequacy.proofs.RulesStay.{next_rules}
use Rattle.lmn_reduction.specs.Commits.{Commit, Irreducible}
use Rattle.lmn_app_runs.specs.Laws.{IsPrintable, TracesAreRuns, solid_of}
use Rattle.lmn_app_runs.specs.Runs.{CommitsOver, IsLineOf, IsProcessLine, LinesOf, Prints, StopsBy, StopsSo, at_end, commit_after, no_commit, printed}
use Rattle.lmn_app_runs.specs.declared.stop.Stop.{Stop}
use Rattle.lmn_app_runs.specs.declared.stop.Stop.TheVariants as stop
use Rattle.lmn_app_runs.proofs.GoodLevels.{Good, GoodRule, LabelHeld, good_integer, integer_good, level_good, not_connector, rule_good}
use Rattle.lmn_app_runs.proofs.LabelsStay.{AllAtoms, AllAtomsIn, Atoms, fused_good, next_atoms}
use Rattle.lmn_app_runs.proofs.Tables.{solid_has_rules, solid_rules}
use Rattle.std.specs.declared.alloc.Global.{Global}
use Rattle.lmn_base.proofs.Lists.{all_append, all_of_left, all_of_right}

-- ---- the links of a line

atoms_links : (xs : List SolidAtom) → leaves_links (map atom_as_leaf xs) ≡ links_at xs
atoms_links [] = refl
atoms_links (a ∷ xs) = ap (λ ys. a.links ++ ys) (atoms_links xs)

mutual
  region_links : (r : Region) → level_links (as_level r) ≡ printed_links r
  region_links (region xs ms rs) = ap (λ ys. ys ++ levels_links (as_levels ms)) (atoms_links xs) ∙ ap (λ ys. links_at xs ++ ys) (regions_links ms)

  regions_links : (ms : Regions) → levels_links (as_levels ms) ≡ printed_links_in ms
  regions_links no_region = refl
  regions_links (region_and m ms) = ap (λ ys. ys ++ levels_links (as_levels ms)) (region_links m) ∙ ap (λ ys. printed_links m ++ ys) (regions_links ms)

module _ (names : List Name) where
  abbrev AtomsGood : List SolidAtom → Type 0
  AtomsGood = Atoms (Good names) (good_integer names) (integer_good names)

  abbrev RegionGood : Region → Type 0
  RegionGood = AllAtoms (Good names) (good_integer names) (integer_good names)

  abbrev RegionsGood : Regions → Type 0
  RegionsGood = AllAtomsIn (Good names) (good_integer names) (integer_good names)

  -- ---- what a text can spell, and what the list holds

  -- what is asked of each rule
  pub record RuleFine (r : Rule) : Type 0 where
    pub accepted : Accepted r
    pub held : RuleHeld names r
    pub numbered : RuleNumbered r
    pub spelled : RuleSpelled r
    pub good : GoodRule names r

  rules_held : (rs : List Rule) → EachRule RuleFine rs → RulesHeld names (as_rules rs)
  rules_held [] h = tt
  rules_held (r ∷ rs) h = let f = h.0 in (f.held, rules_held rs h.1)

  rules_numbered : (rs : List Rule) → EachRule RuleFine rs → EachNumbered (as_rules rs)
  rules_numbered [] h = tt
  rules_numbered (r ∷ rs) h = let f = h.0 in (f.numbered, rules_numbered rs h.1)

  rules_spelled : (rs : List Rule) → EachRule RuleFine rs → RulesSpelled (as_rules rs)
  rules_spelled [] h = tt
  rules_spelled (r ∷ rs) h = let f = h.0 in (f.spelled, rules_spelled rs h.1)

  label_leaf : (l : tree.Label) (xs : List ℕ) → LabelHeld names l → LeafHeld names (atom_leaf l xs)
  label_leaf (named n) xs h = h
  label_leaf (integer z) xs h = tt

  leaf_held : (a : SolidAtom) → Good names a.label (length a.links) → LeafHeld names (atom_as_leaf a)
  leaf_held a g = label_leaf a.label a.links g.held

  atoms_held : (xs : List SolidAtom) → AtomsGood xs → AllByRecursion (LeafHeld names) (map atom_as_leaf xs)
  atoms_held [] h = tt
  atoms_held (a ∷ xs) h = (leaf_held a (h a at_head), atoms_held xs (λ b i. h b (further i)))

  atoms_spelled : (xs : List SolidAtom) → AtomsGood xs → AllByRecursion LeafSpelled (map atom_as_leaf xs)
  atoms_spelled [] h = tt
  atoms_spelled (a ∷ xs) h =
      let g = h a at_head in ((g.spelled, not_connector names a.label a.links g.no_connector), atoms_spelled xs (λ c i. h c (further i)))

  mutual
    pub region_held : (r : Region) → RegionGood r → AllRules RuleFine r → LevelHeld names (as_level r)
    region_held (region xs ms rs) h k = (atoms_held xs h.0, regions_held ms h.1 k.1, tt, tt, rules_held rs k.0)

    regions_held : (ms : Regions) → RegionsGood ms → AllRulesIn RuleFine ms → LevelsHeld names (as_levels ms)
    regions_held no_region h k = tt
    regions_held (region_and m ms) h k = (region_held m h.0 k.0, regions_held ms h.1 k.1)

  mutual
    pub region_numbered : (r : Region) → AllRules RuleFine r → RulesNumbered (as_level r)
    region_numbered (region xs ms rs) k = (regions_numbered ms k.1, rules_numbered rs k.0)

    regions_numbered : (ms : Regions) → AllRulesIn RuleFine ms → AllRulesNumbered (as_levels ms)
    regions_numbered no_region k = tt
    regions_numbered (region_and m ms) k = (region_numbered m k.0, regions_numbered ms k.1)

  mutual
    region_spelled : (r : Region) → RegionGood r → AllRules RuleFine r → LevelSpelled (as_level r)
    region_spelled (region xs ms rs) h k = (atoms_spelled xs h.0, regions_spelled ms h.1 k.1, tt, tt, rules_spelled rs k.0)

    regions_spelled : (ms : Regions) → RegionsGood ms → AllRulesIn RuleFine ms → LevelsSpelled (as_levels ms)
    regions_spelled no_region h k = tt
    regions_spelled (region_and m ms) h k = (region_spelled m h.0 k.0, regions_spelled ms h.1 k.1)

  -- ---- the line of a solid

  -- what each solid of a trace is like
  pub record Fine (S : Region) : Type 0 where
    pub closed : Closed (region_process S)
    pub rules : AllRules (Throughout RuleFine) S
    pub atoms : RegionGood S
    pub numbered : IsNumbered S

  itself : (r : Rule) → Throughout RuleFine r → RuleFine r
  itself (tree.rule_of head guard body) h = h.0

  accepted_rule : (r : Rule) → Throughout RuleFine r → Accepted r
  accepted_rule r h = let f = itself r h in f.accepted

  good_rule : (r : Rule) → Throughout RuleFine r → GoodRule names r
  good_rule r h = let f = itself r h in f.good

  module _ (alloc : Global) (is : IsNames names) where
    pub rules_fine : (S : Region) → Fine S → AllRules RuleFine S
    rules_fine S f = all_rules_so itself S f.rules

    pub spelled_fine : (S : Region) → Fine S → LevelSpelled (as_level S)
    spelled_fine S f = region_spelled S f.atoms (rules_fine S f)

    pub numbers_fine : (S : Region) (f : Fine S) → NumbersLinks (level_links (as_level S)) f.numbered.0
    numbers_fine S f = subst (λ xs. NumbersLinks xs f.numbered.0) (sym (region_links S)) f.numbered.1

    -- the plain line of such a solid is that of its process,
    pub plain_fine : (S : Region) → Fine S → IsLineOf names (region_process S) (line_of (as_level S))
    plain_fine S f =
        let fine = rules_fine S f in
        let back = lines_read_back alloc names (as_level S) f.numbered.0 is (region_held S f.atoms fine) (spelled_fine S f) (numbers_fine S f) (region_numbered S fine) (no_contexts S) in
        record {
          plain = back.0;
          reads = back.1;
          process = sym (same_process S) ∙ ap level_process (sym back.2);
          closed = f.closed;
        }

    -- and so is its folded line
    folded_fine : (S : Region) (line : List ℕ) → Fine S → IsFoldedLine S line → IsFoldedLineOf names (region_process S) line
    folded_fine S line f h =
        let fine = rules_fine S f in
        folded_lines_read_back alloc names S line is (region_held S f.atoms fine) (spelled_fine S f) (region_numbered S fine) f.closed h

    line_fine : (folded : Bool) (S : Region) (line : List ℕ) → Fine S → IsLine folded S line → IsProcessLine folded names (region_process S) line
    line_fine true S line f h = folded_fine S line f h
    line_fine false S line f h = subst (IsLineOf names (region_process S)) (sym h) (plain_fine S f)

    -- ---- traces

    module _ (chooser : Chooser) (budget size : ℕ) (S : Region) (start : Fine S) where
      abbrev IsTrace : List Region → Region → Type 0
      IsTrace = Trace chooser budget size S

      -- what comes next is such a solid too
      pub next_fine : {n : ℕ} {R T : Region} → Fine R → Turn chooser n R T → Fine T
      next_fine {n} {R} {T} f t =
          let next = t.next.next in
          let accepted = all_rules_so accepted_rule R f.rules in
          record {
            closed = next.fuses.closed;
            rules = next_rules RuleFine next accepted f.rules;
            atoms = next_atoms (Good names) (good_integer names) (integer_good names) next accepted (all_rules_so good_rule R f.rules) f.atoms;
            numbered = t.numbered;
          }

      fine : {before : List Region} {R : Region} → IsTrace before R → Fine R
      fine loaded = start
      fine (turned p l t few) = next_fine (fine p) t

      one_commit : {n : ℕ} {R T : Region} → Fine R → Turn chooser n R T → Commit (region_process R) (region_process T)
      one_commit {n} {R} {T} f t =
          let from = t.next in
          firings_commit R T f.closed (all_rules_so accepted_rule R f.rules) (record { path = from.path; number = from.number; positions = from.positions; next = from.next })

      one_longer : (before : List Region) (R : Region) → length (before ++ R ∷ []) ≡ length before + 1
      one_longer before R = length-append before (R ∷ [])

      comes : {before : List Region} {R : Region} → IsTrace before R → CommitsOver (region_process S) (map region_process before) (region_process R)
      comes loaded = no_commit
      comes (turned {before = before} {S' = R} {S'' = T} p l t few) =
          subst (λ Ps. CommitsOver (region_process S) Ps (region_process T)) (sym (map-append region_process before (R ∷ []))) (commit_after (comes p) (one_commit (fine p) t))

      fines : {before : List Region} {R : Region} → IsTrace before R → AllByRecursion Fine (before ++ R ∷ [])
      fines loaded = (start, tt)
      fines (turned {before = before} {S' = R} {S'' = T} p l t few) = all_append Fine (before ++ R ∷ []) (T ∷ []) (fines p) (next_fine (fine p) t, tt)

      each_line : (folded : Bool) (Ss : List Region) (lines : List (List ℕ)) → AllByRecursion Fine Ss → LinesOf folded Ss lines →
          AllZip (IsProcessLine folded names) (map region_process Ss) lines
      each_line folded [] [] f h = tt
      each_line folded [] (line ∷ lines) f h = absurd h
      each_line folded (R ∷ Rs) [] f h = absurd h
      each_line folded (R ∷ Rs) (line ∷ lines) f h = (line_fine folded R line f.0 h.0, each_line folded Rs lines f.1 h.1)

      are_lines : (trace folded : Bool) {before : List Region} {R : Region} → IsTrace before R → (lines : List (List ℕ)) → LinesOf folded (printed trace before R) lines →
          AllZip (IsProcessLine folded names) (printed trace (map region_process before) (region_process R)) lines
      are_lines true folded {before} {R} p lines h =
          subst (λ Ps. AllZip (IsProcessLine folded names) Ps lines) (map-append region_process before (R ∷ [])) (each_line folded (before ++ R ∷ []) lines (fines p) h)
      are_lines false folded {before} {R} p lines h = each_line folded (R ∷ []) lines (fine p, tt) h

      prints : (trace folded : Bool) {before : List Region} {R : Region} → IsTrace before R → (lines : List (List ℕ)) → LinesOf folded (printed trace before R) lines →
          Prints trace folded names (region_process S) (length before) (region_process R) lines
      prints trace folded {before} p lines h = record {
        before = map region_process before;
        commits = comes p;
        count = length-map before region_process;
        are = are_lines trace folded p lines h;
      }

      at_most : {before : List Region} {R : Region} → IsTrace before R → length before ≤ budget
      at_most loaded = omega arith
      at_most (turned {before = before} {S' = R} p l t few) = omega (arith, l, one_longer before R)

      -- how it stops
      stops : (trace folded : Bool) {before : List Region} {R : Region} → IsTrace before R → (why : Stop) →
          StopsSo (record { trace = trace; folded = folded; budget = budget; size = size; chooser = chooser }) (length before) R why → StopsBy budget why (length before) (region_process R)
      stops trace folded {before} {R} p = go
        where
          f : Fine R
          f = fine p

          stuck : Irreducible (region_process R) ↔ (¬ (HasEmbedding R))
          stuck = irreducible_exactly R f.closed (all_rules_so accepted_rule R f.rules)

          most : length before ≤ budget
          most = at_most p

          ends : (e : End) → Ends chooser budget size (length before) R e → StopsBy budget (at_end e) (length before) (region_process R)
          ends irreducible (nothing_embeds h) = (most, stuck.1 h)
          ends budget_done (none_allowed m q) = (q, λ i. stuck.0 i m)
          ends full (too_many l t m) = (l, λ i. stuck.0 i (embeds_in t))
            where
              embeds_in : {T : Region} → Turn chooser (length before) R T → HasEmbedding R
              embeds_in t = let n = t.next in record { path = n.path; number = n.number; positions = n.positions; embeds = n.chosen.embeds }

          below : (n k : ℕ) → n ≤ k → (n < k) ⊎ (n ≡ k)
          below n k h = grind arith

          go : (why : Stop) → StopsSo (record { trace = trace; folded = folded; budget = budget; size = size; chooser = chooser }) (length before) R why → StopsBy budget why (length before) (region_process R)
          go stop.Irreducible h = ends irreducible h
          go stop.Budget h = ends budget_done h
          go stop.Full h = ends full h
          go stop.NoMemory h = (
            elim (below (length before) budget most) [
              | inl l ↦ l
              | inr q ↦ absurd (h irreducible (nothing_embeds (λ m. h budget_done (none_allowed m q))))
            ],
            λ i. h irreducible (nothing_embeds (stuck.0 i)),
          )

-- ---- the solid of a plain

module _ (names : List Name) (p : Plain) (printable : IsPrintable names p) where
  abbrev ρ : ℕ → Rule
  ρ = numbered_rule names p.rules

  -- the solid of one rule alone
  abbrev lone_root : ℕ → base_region.Region
  lone_root k = roll-Region (record { atoms = []; membranes = []; rules = k ∷ [] })

  abbrev lone : ℕ → Solid
  lone k = record { root = lone_root k }

  lone_region : (k : ℕ) → region_of names p.rules (lone k) ≡ region [] no_region (ρ k ∷ [])
  lone_region k = fold-roll-Region Region (region_step names ρ) _

  lone_has : (k : ℕ) → k < length p.rules → HasEachRule p.rules (lone k)
  lone_has k l =
      let P : List ℕ → Type 0 = All (λ j. j < length p.rules) in
      subst P (sym (fold-roll-Region (List ℕ) rules_step _)) (All-from_recursion (λ j. j < length p.rules) (k ∷ []) (l, tt))

  names_of_rules : All (λ n. n < length names) (flat_map rule_names p.rules)
  names_of_rules = all_of_right (λ n. n < length names) (level_names p.top) (flat_map rule_names p.rules) printable.named.1

  names_of_top : All (λ n. n < length names) (level_names p.top)
  names_of_top = all_of_left (λ n. n < length names) (level_names p.top) (flat_map rule_names p.rules) printable.named.1

  lone_named : (k : ℕ) → NamesSolid names p.rules (lone k)
  lone_named k =
      let P : List base_atom.SolidAtom → Type 0 = λ xs. HasNames names (flat_map (λ a. label_names a.functor.label) xs) in
      (printable.named.0, names_of_rules, subst P (sym (fold-roll-Region (List base_atom.SolidAtom) atoms_step _)) (λ i d l. absurd (omega (arith, l))))

  rule_held : (k : ℕ) → k < length p.rules → RuleHeld names (ρ k)
  rule_held k l =
      let P : Region → Type 0 = λ r. LevelHeld names (as_level r) in
      (subst P (lone_region k) (solid_held names p (lone k) printable.made (lone_has k l) (lone_named k))).4.0

  rule_numbered : (k : ℕ) → k < length p.rules → RuleNumbered (ρ k)
  rule_numbered k l =
      let P : Region → Type 0 = λ r. RulesNumbered (as_level r) in
      (subst P (lone_region k) (solid_rules_numbered names p (lone k) printable.made (lone_has k l))).1.0

  rule_fine : (k : ℕ) → k < length p.rules → RuleFine names (ρ k)
  rule_fine k l =
      let r = printable.rules k l in
      record {
        accepted = r.1;
        held = rule_held k l;
        numbered = rule_numbered k l;
        spelled = r.0;
        good = rule_good names (ρ k) r.0 (rule_held k l);
      }

  top_held : LevelHeld names (top_of names p)
  top_held =
      let ls = flat_map leaf_names (leaves_of p.top) in
      let cs = context_names (contexts_of p.top) in
      let os = context_names (rule_contexts_of p.top) in
      let front = all_of_left (λ n. n < length names) (ls ++ cs) os names_of_top in
      level_held names ρ p.top (record {
        leaves = all_of_left (λ n. n < length names) ls cs front;
        contexts = all_of_right (λ n. n < length names) ls cs front;
        rule_contexts = all_of_right (λ n. n < length names) (ls ++ cs) os names_of_top;
        rule_numbers = λ i d l. rule_held (get_or (rules_of p.top) i d) (printable.made.rules_at_top i d l);
      })

  -- the solid of such a plain is one
  pub solid_fine : (s : Solid) → IsSolidOf p s → Fine names (solid_of names p s)
  solid_fine s i =
      let S = solid_of names p s in
      let so = solids_of_plains names p s printable.made i in
      let good = fused_good (Good names) (good_integer names) (integer_good names) so.to (top_of names p) (level_good names (top_of names p) printable.top top_held) in
      let n = solid_numbers names p s i.is_solid in
      let P : Region → Type 0 = RegionGood names in
      record {
        closed = so.closed;
        rules = solid_rules (RuleFine names) names p printable.made rule_fine s (solid_has_rules p s printable.made i);
        atoms = subst P (sym so.is) good;
        numbered = (n.0, subst (λ xs. NumbersLinks xs n.0) (region_links S) n.1);
      }

-- a trace with its lines is a run
pub traces_are_runs : TracesAreRuns
traces_are_runs alloc g names p s printable i before last trace =
    let start = solid_fine names p printable s i in
    record {
      prints = λ lines. prints names alloc printable.named.0 g.chooser g.budget g.size (solid_of names p s) start g.trace g.folded trace lines;
      stops = stops names alloc printable.named.0 g.chooser g.budget g.size (solid_of names p s) start g.trace g.folded trace;
    }
