-- What a match leaves in its membranes, and what its commit costs, is told by the registers that head code sets.
use Rattle.std.proofs.Common.{ℕ, refl, ◌≡◌, ◌<◌, ◌+◌, Bool, not, List, [], ◌∷◌, ◌++◌, length, map, sym, ap, subst, ◌∙◌, arith}
use Rattle.std.specs.List.{AllByRecursion}
use Rattle.std.specs.Prelude.{sum}
use Rattle.lmn_base.specs.Graphs.{Port, Reached}
use Rattle.lmn_base.specs.Lists.{In}
use Rattle.lmn_base.proofs.Truth.{test_same}
use Rattle.lmn_store_heap.specs.Heap.{Heap, atoms_in, mems_in, rules_in}
use Rattle.lmn_store_heap.specs.Graphs.{atom_map}
use Rattle.lmn_store_heap.specs.Sound.{Forest, IsTree, flat}
use Rattle.lmn_store_heap.proofs.Groves.{forms_one}
use Rattle.lmn_store_heap.proofs.Pigeonholes.{not_longer}
use Rattle.lmn_ground_parts.specs.Rests.{IsRest, atoms_of_all, keep}
use Rattle.lmn_ground_parts.specs.Walks.{is_in}
use Rattle.lmn_congruence_splice.specs.Classes.{rising}
use Rattle.lmn_congruence_splice.proofs.EndLemmas.{mapped_alike}
use Rattle.lmn_instr_code.specs.declared.instr.Instr.{Instr}
use Rattle.lmn_instr_code.specs.declared.instr.Instr.TheVariants.{RemovePart, RemoveMem, CopyGround, CopyCells, CopyRules, DropCells}
use Rattle.lmn_instr_code.specs.Running.{HeadRegisters, atoms_set, membranes_set}
use Rattle.lmn_solid_bodies.specs.Running.{Registers}
use Rattle.lmn_machine.specs.Costs.{AddsItems, InAll, IsRestSize, IsSize, IsTold, Leaves, TakesItems}
use Rattle.lmn_machine.specs.Searching.{parts_set}
use Rattle.lmn_schedule_strategy.specs.Turns.{HoldsRestsOf, IsBesideCode, IsRestOf}
use Rattle.lmn_verify_turns.proofs.Matches.{Alike}
use Rattle.lmn_machine_commit.proofs.Owning.{keep_same as keep_alike}

-- ---- lists

-- a part has one size
size_one : (h : Heap) (p : Port) (n k : ℕ) → IsSize h p n → IsSize h p k → n ≡ k
size_one h p n k u w =
    let up = not_longer u.0 w.0 u.1.0 (λ b i. (w.1.1 b).1 ((u.1.1 b).0 i)) in
    let down = not_longer w.0 u.0 w.1.0 (λ b i. (u.1.1 b).1 ((w.1.1 b).0 i)) in
    let e = u.2 in
    let d = w.2 in
    omega (arith, up, down, e, d)

-- ---- rests

module _ (h : Heap) (code : List Instr) (r s : HeadRegisters) (k : Alike r s (atoms_set code) (1 + membranes_set code) (parts_set code)) where
  beside_on : (a : ℕ) → IsBesideCode h code r a → IsBesideCode h code s a
  beside_on a b = record {
    no_atom = λ j l e. b.no_atom j l (k.atoms j l ∙ e);
    no_part = λ j l e. b.no_part j l (subst (λ (p : Port). Reached (atom_map h) p a) (sym (k.parts j l)) e);
  }

  beside_back : (a : ℕ) → IsBesideCode h code s a → IsBesideCode h code r a
  beside_back a b = record {
    no_atom = λ j l e. b.no_atom j l (sym (k.atoms j l) ∙ e);
    no_part = λ j l e. b.no_part j l (subst (λ (p : Port). Reached (atom_map h) p a) (k.parts j l) e);
  }

  -- the same is left
  pub rest_one : (m : ℕ) → m < 1 + membranes_set code → (xs ms ys ns : List ℕ) → IsRestOf h code r m xs ms → IsRestOf h code s m ys ns → (xs ≡ ys) × (ms ≡ ns)
  rest_one m l xs ms ys ns u w =
      let at = s.images.membrane m in
      let out : ℕ → Bool = λ x. not (is_in (map s.images.membrane (rising 0 (1 + membranes_set code))) x) in
      let same = k.membranes m l in
      let all = mapped_alike r.images.membrane s.images.membrane 0 (1 + membranes_set code) (λ j o. k.membranes j (omega (arith, o))) in
      let v : IsRest h at u.0 out xs ms =
      subst (λ z. IsRest h z u.0 out xs ms) same (subst (λ zs. IsRest h (r.images.membrane m) u.0 (λ x. not (is_in zs x)) xs ms) all u.2) in
      let left = keep_alike u.0 w.0 (atoms_in h at) (λ a i. (let first = u.1 a (subst (λ z. In a (atoms_in h z)) (sym same) i) in
      let second = w.1 a i in
      test_same (u.0 a) (w.0 a) (λ e. second.1 (beside_on a (first.0 e))) (λ e. first.1 (beside_back a (second.0 e))))) in
      let forest = forms_one h v.forest w.2.forest (keep out (mems_in h at)) v.forms w.2.forms in
      let membranes : ms ≡ ns = v.preorder ∙ ap flat forest ∙ sym w.2.preorder in
      (v.in_order ∙ (λ i. left i ++ atoms_of_all h (membranes i)) ∙ sym w.2.in_order, membranes)

-- ---- costs

module _ (h : Heap) (head : List Instr) (r s : Registers) (k : Alike r.head s.head (atoms_set head) (1 + membranes_set head) (parts_set head)) (rests : HoldsRestsOf h head r) (others : HoldsRestsOf h head s) where
  rest_size_one : (m n n' : ℕ) → m < 1 + membranes_set head → IsRestSize h r m n → IsRestSize h s m n' → n ≡ n'
  rest_size_one m n n' l u w =
      let same = rest_one h head r.head s.head k m l (r.left_atoms m) (r.left_membranes m) (s.left_atoms m) (s.left_membranes m) (rests m l) (others m l) in
      u ∙ (λ i. length (same.0 i) + sum (map (λ b. 1 + length (rules_in h b)) (same.1 i))) ∙ sym w

  part_size_one : (g n n' : ℕ) → g < parts_set head → IsSize h (r.head.images.part g) n → IsSize h (s.head.images.part g) n' → n ≡ n'
  part_size_one g n n' l u w = size_one h (s.head.images.part g) n n' (subst (λ p. IsSize h p n) (k.parts g l) u) w

  adds_one : (i : Instr) (n n' : ℕ) → IsTold (1 + membranes_set head) (parts_set head) i → AddsItems h r i n → AddsItems h s i n' → n ≡ n'
  adds_one (CopyGround c m g) n n' l u w = part_size_one g n n' l u w
  adds_one (CopyCells m j) n n' l u w = rest_size_one m n n' l u w
  adds_one (CopyRules m j) n n' l u w = u ∙ ap (λ z. length (rules_in h z)) (k.membranes m l) ∙ sym w
  adds_one _ n n' l u w = u ∙ sym w

  takes_one : (i : Instr) (n n' : ℕ) → IsTold (1 + membranes_set head) (parts_set head) i → TakesItems h r i n → TakesItems h s i n' → n ≡ n'
  takes_one (RemovePart g) n n' l u w = part_size_one g n n' l u w
  takes_one (RemoveMem m) n n' l u w = u ∙ ap (λ z. 1 + length (rules_in h z)) (k.membranes m l) ∙ sym w
  takes_one (DropCells m) n n' l u w = rest_size_one m n n' l u w
  takes_one _ n n' l u w = u ∙ sym w

  sum_one : (P Q : Instr → ℕ → Type 0) (T : Instr → Type 0) → ((i : Instr) (n n' : ℕ) → T i → P i n → Q i n' → n ≡ n') → (is : List Instr) (n n' : ℕ) → AllByRecursion T is → InAll P is n → InAll Q is n' → n ≡ n'
  sum_one P Q T one [] n n' t u w = u ∙ sym w
  sum_one P Q T one (i ∷ is) n n' t u w =
      let here = one i u.0 w.0 t.0 u.2.0 w.2.0 in
      let rest = sum_one P Q T one is u.1 w.1 t.1 u.2.1 w.2.1 in
      u.2.2 ∙ (λ j. here j + rest j) ∙ sym w.2.2

  -- a commit leaves one number of items
  pub leaves_one : (body : List Instr) (n n' : ℕ) → AllByRecursion (IsTold (1 + membranes_set head) (parts_set head)) body → (f : Forest) → IsTree h f → Leaves h r body n → Leaves h s body n' → n ≡ n'
  leaves_one body n n' told f tree u w =
      let added = sum_one (AddsItems h r) (AddsItems h s) (IsTold (1 + membranes_set head) (parts_set head)) adds_one body u.added w.added told u.adds w.adds in
      let taken = sum_one (TakesItems h r) (TakesItems h s) (IsTold (1 + membranes_set head) (parts_set head)) takes_one body u.taken w.taken told u.takes w.takes in
      let count = u.count f tree in
      let counted = w.count f tree in
      omega (arith, added, taken, count, counted)
