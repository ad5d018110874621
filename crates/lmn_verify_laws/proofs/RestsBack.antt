-- Registers that hold what a head leaves in a graph hold the rests of the heap.
use Rattle.std.proofs.Common.{ℕ, suc, ◌≡◌, ◌≢◌, ◌∙◌, ◌<◌, ◌+◌, Bool, true, List, [], ◌∷◌, ◌++◌, map, refl, sym, ap, subst, inl, inr, arith}
use Rattle.std.specs.Prelude.{flat_map, not}
use Rattle.lmn_base.specs.declared.solid.Region.{Region}
use Rattle.lmn_store_heap.specs.Heap.{Heap, atoms_in, mems_in}
use Rattle.lmn_store_heap.specs.Lists.{without_all}
use Rattle.lmn_store_heap.specs.Sound.{Forest, Forms, Valid, bare, flat, mem}
use Rattle.lmn_store_heap.proofs.ListLemmas.{each_in}
use Rattle.lmn_ground_parts.specs.Rests.{atoms_of_all, keep}
use Rattle.lmn_ground_parts.specs.Walks.{is_in}
use Rattle.lmn_congruence_splice.specs.Classes.{rising}
use Rattle.lmn_instr_code.specs.declared.instr.Instr.{Instr}
use Rattle.lmn_instr_code.specs.declared.instr.Instr.TheVariants.{IsInt, IsUnary, IsGround}
use Rattle.lmn_instr_code.specs.Running.{membranes_set}
use Rattle.lmn_machine.specs.Searching as machine
use Rattle.lmn_schedule_strategy.specs.Turns.{IsBesideCode, IsRestOf}
use Rattle.lmn_solid_bodies.specs.Running.{Registers}
use Rattle.lmn_solid_bodies.proofs.Contents.{keep_without}
use Rattle.lmn_solid_bodies.proofs.Dropping.{not_in, out_of}
use Rattle.lmn_verify_solids.specs.Firing.{LeavesRests, found}
use Rattle.lmn_verify_solids.specs.Graphs.{Stand, none_stands, one_stands}
use Rattle.lmn_verify_solids.specs.Heads.{parts_set}
use Rattle.lmn_verify_solids.specs.Heaps.{graph_of}
use Rattle.lmn_verify_laws.specs.Laws.{RestsBack}

-- one count of registers is the other
pub parts_same : (is : List Instr) → parts_set is ≡ machine.parts_set is
parts_same [] = refl
parts_same (IsInt x p m ∷ is) = ap (λ n. 1 + n) (parts_same is)
parts_same (IsUnary x p m ∷ is) = ap (λ n. 1 + n) (parts_same is)
parts_same (IsGround x p m ∷ is) = ap (λ n. 1 + n) (parts_same is)
parts_same (_ ∷ is) = parts_same is

module _ (h : Heap) where
  -- the forest of membranes that stand in a heap
  stand_forest : {link : ℕ → ℕ → ℕ} {ms all : List ℕ} {rs : List Region} → Stand (graph_of h) link ms all rs → (f : Forest) × Forms h f ms × (flat f ≡ all)
  stand_forest none_stands = (bare, refl, refl)
  stand_forest (one_stands {m = m} {ms = ms} s t) =
      let u = stand_forest s in
      let w = stand_forest t in
      (mem m u.0 w.0, (ms, refl, u.1, w.1), (λ i. m ∷ u.2 i ++ w.2 i))

  pub all_atoms : (ms : List ℕ) → flat_map (λ m. atoms_in h m) ms ≡ atoms_of_all h ms
  all_atoms [] = refl
  all_atoms (m ∷ ms) = ap (λ xs. atoms_in h m ++ xs) (all_atoms ms)

module _ (h : Heap) (v : Valid h) (head : List Instr) (r : Registers) (taken : List ℕ) (w : LeavesRests (graph_of h) head r taken) where
  abbrev images : List ℕ
  images = map r.head.images.membrane (rising 0 (1 + membranes_set head))

  images_are : images ≡ r.head.images.membrane 0 ∷ found head r
  images_are = let z : 1 + membranes_set head ≡ suc (membranes_set head) = omega arith in ap (λ n. map r.head.images.membrane (rising 0 n)) z

  abbrev left : ℕ → Bool
  left a = not (is_in taken a)

  abbrev other : ℕ → Bool
  other x = not (is_in images x)

  others : (x : ℕ) → without_all (r.head.images.membrane 0 ∷ found head r) (mems_in h x) ≡ keep other (mems_in h x)
  others x = let sound = v.sound in let listed = sound.listed in
      ap (λ ns. without_all ns (mems_in h x)) (sym images_are) ∙ keep_without other images (mems_in h x) (listed.mems_once x) (λ y i. (not_in images y, out_of images y))

  lefts : (x : ℕ) → without_all taken (atoms_in h x) ≡ keep left (atoms_in h x)
  lefts x = let sound = v.sound in let listed = sound.listed in keep_without left taken (atoms_in h x) (listed.atoms_once x) (λ y i. (not_in taken y, out_of taken y))

  beside : (a : ℕ) → left a ≡ true → IsBesideCode h head r.head a
  beside a e = record {
    no_atom = λ k l s. not_in taken a e ((w.takes a).1 (inl (k, l, s)));
    no_part = λ k l s. not_in taken a e ((w.takes a).1 (inr (k, (let n = parts_same head in omega (arith, l, n)), s)));
  }

  is_left : (a : ℕ) → IsBesideCode h head r.head a → left a ≡ true
  is_left a u = out_of taken a (λ i. elim ((w.takes a).0 i) [
    | inl s ↦ u.no_atom s.0 s.1 s.2
    | inr s ↦ u.no_part s.0 (let n = parts_same head in let l = s.1 in omega (arith, l, n)) s.2
  ])

  rest_of : (m : ℕ) → m < 1 + membranes_set head → IsRestOf h head r.head m (r.left_atoms m) (r.left_membranes m)
  rest_of m l =
      let x = r.head.images.membrane m in
      let stands = w.membranes m l in
      let f = stand_forest h stands.1 in
      let once = w.once m l in (
        left,
        (λ a i. (beside a, is_left a)),
        record {
          forest = f.0;
          forms = subst (Forms h f.0) (others x) f.1;
          preorder = sym f.2;
          once = once.1;
          outside = λ i. each_in (λ y. x ≢ y) (r.left_membranes m) x once.0 i refl;
          in_order = w.atoms m l ∙ (λ i. lefts x i ++ all_atoms h (r.left_membranes m) i);
        },
      )

-- registers that hold what a head leaves in a graph hold the rests of the heap
pub rests_back : RestsBack
rests_back h v head r taken w m l = rest_of h v head r taken w m l
