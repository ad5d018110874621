-- What a match leaves in its membranes, and what its commit costs, with other numbers.
use Rattle.std.proofs.Common.{◌≡◌, ◌∙◌, ◌+◌, ℕ, Bool, not, List, [], ◌∷◌, ◌++◌, length, map, refl, sym, ap, subst}
use Rattle.std.specs.Prelude.{sum}
use Rattle.std.proofs.lemmas.List.{length-map, map-append}
use Rattle.lmn_base.specs.Graphs.{Port, Reached}
use Rattle.lmn_base.specs.Lists.{In}
use Rattle.lmn_base.proofs.Lists.{map_twice}
use Rattle.lmn_store_heap.specs.Graphs.{atom_map}
use Rattle.lmn_store_heap.specs.Heap.{Distinct, Heap, atoms_in, mems_in, rules_in}
use Rattle.lmn_store_heap.specs.Sound.{Forest, Forms, IsTree, bare, flat, item_count_in, mem}
use Rattle.lmn_store_heap.proofs.Calls.{one_tree}
use Rattle.lmn_ground_parts.specs.Rests.{IsRest, atoms_of_all, keep}
use Rattle.lmn_ground_parts.specs.Walks.{is_in}
use Rattle.lmn_congruence_splice.specs.Classes.{rising}
use Rattle.lmn_instr_code.specs.declared.instr.Instr.{Instr}
use Rattle.lmn_instr_code.specs.declared.instr.Instr.TheVariants.{RemovePart, RemoveMem, CopyGround, CopyCells, CopyRules, DropCells}
use Rattle.lmn_instr_code.specs.Running.{HeadRegisters, membranes_set}
use Rattle.lmn_solid_bodies.specs.Running.{Registers}
use Rattle.lmn_machine.specs.Costs.{AddsItems, InAll, IsRestSize, IsSize, Leaves, TakesItems}
use Rattle.lmn_schedule_strategy.specs.Turns.{HoldsRestsOf, IsBesideCode, IsRestOf}
use Rattle.lmn_verify_renaming.specs.Registers.{renamed_head}
use Rattle.lmn_verify_renaming.specs.Renamed.{Renaming, renamed_port}
use Rattle.lmn_verify_renaming.proofs.Numbers.{distinct_there, in_back, in_there}
use Rattle.lmn_verify_renaming.proofs.Solids.{flat_there, renamed_forest}
use Rattle.lmn_verify_renaming.proofs.Mapped.{is_in_there, keep_there}
use Rattle.lmn_verify_turns.proofs.SameBut.{Reads}

-- the registers with the other numbers, and the rests
abbrev pub renamed_registers : Renaming → Registers → Registers
renamed_registers q r = record r {
  head = renamed_head q r.head;
  left_atoms = λ m. map q.atoms.to (r.left_atoms m);
  left_membranes = λ m. map q.mems.to (r.left_membranes m);
}

module _ (q : Renaming) (h k : Heap) (x : Reads q h k) where
  abbrev A : ℕ → ℕ
  A = q.atoms.to

  abbrev B : ℕ → ℕ
  B = q.atoms.back

  abbrev M : ℕ → ℕ
  M = q.mems.to

  -- ---- trees

  forms_there : (f : Forest) (ms : List ℕ) → Forms h f ms → Forms k (renamed_forest M f) (map M ms)
  forms_there bare ms e = ap (map M) e
  forms_there (mem m inner rest) ms w = (
    map M w.0,
    ap (map M) w.1,
    subst (Forms k (renamed_forest M inner)) (sym (x.mems m)) (forms_there inner (mems_in h m) w.2),
    forms_there rest w.0 w.3,
  )

  pub tree_there : (f : Forest) → IsTree h f → IsTree k (renamed_forest M f)
  tree_there f t = record {
    forms = subst (λ z. Forms k (renamed_forest M f) (z ∷ [])) (sym x.root) (forms_there f (h.root ∷ []) t.forms);
    once = subst Distinct (sym (flat_there M f)) (distinct_there q.mems (flat f) t.once);
    all = λ m i. subst (In m) (sym (flat_there M f)) (subst (λ z. In z (map M (flat f))) (q.mems.again m) (in_there q.mems (q.mems.back m) (flat f) (t.all (q.mems.back m) (x.stood m i))));
  }

  -- the same number of items
  items_there : (ms : List ℕ) → item_count_in k (map M ms) ≡ item_count_in h ms
  items_there ms =
      let each : (m : ℕ) → 1 + length (atoms_in k (M m)) + length (rules_in k (M m)) ≡ 1 + length (atoms_in h m) + length (rules_in h m) =
      λ m i. 1 + (ap (λ ls. length ls) (x.atoms m) ∙ length-map (atoms_in h m) A) i + length (x.rules m i) in
      ap (λ ns. sum ns) (map_twice (λ m. 1 + length (atoms_in k m) + length (rules_in k m)) M ms) ∙ (λ i. sum (map (λ m. each m i) ms))

  -- ---- rests

  atoms_there : (ms : List ℕ) → atoms_of_all k (map M ms) ≡ map A (atoms_of_all h ms)
  atoms_there [] = refl
  atoms_there (m ∷ ms) = (λ i. x.atoms m i ++ atoms_there ms i) ∙ sym (map-append A (atoms_in h m) (atoms_of_all h ms))

  module _ (code : List Instr) (s : HeadRegisters) where
    abbrev S : HeadRegisters
    S = renamed_head q s

    beside_there : (a : ℕ) → IsBesideCode h code s (B a) → IsBesideCode k code S a
    beside_there a b = record {
      no_atom = λ j l e. b.no_atom j l (sym (q.atoms.there (s.images.atom j)) ∙ ap B e);
      no_part = λ j l r. b.no_part j l (x.reached_back (s.images.part j) a r);
    }

    beside_back : (a : ℕ) → IsBesideCode k code S a → IsBesideCode h code s (B a)
    beside_back a b = record {
      no_atom = λ j l e. b.no_atom j l (ap A e ∙ q.atoms.again a);
      no_part = λ j l r. b.no_part j l (subst (Reached (atom_map k) (renamed_port A (s.images.part j))) (q.atoms.again a) (x.reached (s.images.part j) (B a) r));
    }

    -- the rest of a membrane has the other numbers
    pub rest_there : (m : ℕ) (atoms membranes : List ℕ) → IsRestOf h code s m atoms membranes → IsRestOf k code S m (map A atoms) (map M membranes)
    rest_there m atoms membranes u =
        let at = s.images.membrane m in
        let ms = rising 0 (1 + membranes_set code) in
        let left = u.0 in
        let out : ℕ → Bool = λ z. not (is_in (map s.images.membrane ms) z) in
        let other : ℕ → Bool = λ z. not (is_in (map S.images.membrane ms) z) in
        let rest : IsRest h at left out atoms membranes = u.2 in
        let same : (z : ℕ) → other (M z) ≡ out z =
        λ z. ap (λ ls. not (is_in ls (M z))) (sym (map_twice M s.images.membrane ms)) ∙ ap not (is_in_there q.mems (map s.images.membrane ms) z) in
        let kept : keep other (mems_in k (M at)) ≡ map M (keep out (mems_in h at)) = ap (keep other) (x.mems at) ∙ keep_there q.mems out other (mems_in h at) (λ z i. same z) in
        let own : keep (λ z. left (B z)) (atoms_in k (M at)) ≡ map A (keep left (atoms_in h at)) =
        ap (keep (λ z. left (B z))) (x.atoms at) ∙ keep_there q.atoms left (λ z. left (B z)) (atoms_in h at) (λ z i. ap left (q.atoms.there z)) in (
          λ z. left (B z),
          λ a i. (let w = u.1 (B a) (in_back q.atoms a (atoms_in h at) (subst (In a) (x.atoms at) i)) in ((λ e. beside_there a (w.0 e)), (λ b. w.1 (beside_back a b)))),
          record {
            forest = renamed_forest M rest.forest;
            forms = subst (Forms k (renamed_forest M rest.forest)) (sym kept) (forms_there rest.forest (keep out (mems_in h at)) rest.forms);
            preorder = ap (map M) rest.preorder ∙ sym (flat_there M rest.forest);
            once = distinct_there q.mems membranes rest.once;
            outside = λ i. rest.outside (subst (λ z. In z membranes) (q.mems.there at) (in_back q.mems (M at) membranes i));
            in_order = ap (map A) rest.in_order ∙ map-append A (keep left (atoms_in h at)) (atoms_of_all h membranes) ∙ (λ i. sym own i ++ sym (atoms_there membranes) i);
          },
        )

  -- and so have all rests
  pub rests_there : (code : List Instr) (r : Registers) → HoldsRestsOf h code r → HoldsRestsOf k code (renamed_registers q r)
  rests_there code r w = λ m l. rest_there code r.head m (r.left_atoms m) (r.left_membranes m) (w m l)

  -- ---- costs

  size_there : (p : Port) (n : ℕ) → IsSize h p n → IsSize k (renamed_port A p) n
  size_there p n w = (
    map A w.0,
    (
      distinct_there q.atoms w.0 w.1.0,
      λ b. (
        (λ i. subst (Reached (atom_map k) (renamed_port A p)) (q.atoms.again b) (x.reached p (B b) ((w.1.1 (B b)).0 (in_back q.atoms b w.0 i)))),
        (λ r. subst (λ z. In z (map A w.0)) (q.atoms.again b) (in_there q.atoms (B b) w.0 ((w.1.1 (B b)).1 (x.reached_back p b r)))),
      ),
    ),
    w.2 ∙ sym (length-map w.0 A),
  )

  module _ (r : Registers) where
    abbrev R : Registers
    R = renamed_registers q r

    rest_size_there : (m n : ℕ) → IsRestSize h r m n → IsRestSize k R m n
    rest_size_there m n w =
        let atoms : length (map A (r.left_atoms m)) ≡ length (r.left_atoms m) = length-map (r.left_atoms m) A in
        let each : (b : ℕ) → 1 + length (rules_in k (M b)) ≡ 1 + length (rules_in h b) = λ b i. 1 + length (x.rules b i) in
        let mems : sum (map (λ b. 1 + length (rules_in k b)) (map M (r.left_membranes m))) ≡ sum (map (λ b. 1 + length (rules_in h b)) (r.left_membranes m)) =
        ap (λ ns. sum ns) (map_twice (λ b. 1 + length (rules_in k b)) M (r.left_membranes m)) ∙ (λ i. sum (map (λ b. each b i) (r.left_membranes m))) in
        w ∙ (λ i. sym atoms i + sym mems i)

    adds_there : (i : Instr) (n : ℕ) → AddsItems h r i n → AddsItems k R i n
    adds_there (CopyGround c m g) n w = size_there (r.head.images.part g) n w
    adds_there (CopyCells m j) n w = rest_size_there m n w
    adds_there (CopyRules m j) n w = w ∙ sym (ap (λ ls. length ls) (x.rules (r.head.images.membrane m)))
    adds_there _ n w = w

    takes_there : (i : Instr) (n : ℕ) → TakesItems h r i n → TakesItems k R i n
    takes_there (RemovePart g) n w = size_there (r.head.images.part g) n w
    takes_there (RemoveMem m) n w = w ∙ sym (ap (λ ls. 1 + length ls) (x.rules (r.head.images.membrane m)))
    takes_there (DropCells m) n w = rest_size_there m n w
    takes_there _ n w = w

    all_there : (P Q : Instr → ℕ → Type 0) → ((i : Instr) (n : ℕ) → P i n → Q i n) → (is : List Instr) (n : ℕ) → InAll P is n → InAll Q is n
    all_there P Q one [] n w = w
    all_there P Q one (i ∷ is) n w = (w.0, w.1, (one i w.0 w.2.0, all_there P Q one is w.1 w.2.1, w.2.2))

    -- a commit leaves the same number of items
    pub leaves_there : (body : List Instr) (n : ℕ) (f : Forest) → IsTree h f → Leaves h r body n → Leaves k R body n
    leaves_there body n f tree w = record {
      added = w.added;
      taken = w.taken;
      adds = all_there (AddsItems h r) (AddsItems k R) adds_there body w.added w.adds;
      takes = all_there (TakesItems h r) (TakesItems k R) takes_there body w.taken w.takes;
      count = λ g t.
          (let same : item_count_in k (flat g) ≡ item_count_in h (flat f) =
          ap (λ z. item_count_in k (flat z)) (one_tree k g (renamed_forest M f) t (tree_there f tree)) ∙ ap (item_count_in k) (flat_there M f) ∙ items_there (flat f) in
          w.count f tree ∙ ap (λ c. c + w.added) (sym same));
    }
