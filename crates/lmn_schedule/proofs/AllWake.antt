-- Membranes that are woken in preorder, and that a loaded store stays loaded.
use Rattle.std.proofs.Common.{ℕ, suc, ◌≡◌, ◌+◌, [], ◌∷◌, ◌++◌, Option, Some, None, IsSome, inl, inr, refl, sym, ap, subst, ◌∙◌, length, arith}
use Rattle.std.specs.Prelude.{take}
use Rattle.std.proofs.lemmas.Bool.{cases_eq}
use Rattle.lmn_base.specs.Lists.{In}
use Rattle.lmn_base.proofs.Lists.{in_either}
use Rattle.lmn_base.specs.declared.rule.Plain.{Plain}
use Rattle.lmn_base.specs.declared.solid.Region.TheViews.{roll-Region}
use Rattle.lmn_store_heap.specs.Heap.{Heap, HeapMem, IsMem, atoms_in, mem_mark_by, mem_mark_of, mem_marked, from, after}
use Rattle.lmn_store_heap.specs.Sound.{Forest, bare, mem, IsTree, Valid, flat}
use Rattle.lmn_store_heap.specs.Solid.{solid_atoms_at, regions_of}
use Rattle.lmn_schedule_loading.specs.Loaded.{IsLoaded}
use Rattle.lmn_schedule_sleep.specs.Quiet.{SameButMarks}
use Rattle.lmn_schedule_sleep.proofs.Marks.{ReadAlike, read_alike}
use Rattle.lmn_machine_commit.proofs.Rousing.{no_marks, marks_on, mark_one, marked_away, marked_there}
use Rattle.lmn_machine_commit.proofs.Woken.{valid_but_marks, marks_unmarked}
use Rattle.lmn_adequacy_choices.proofs.MarkedHeaps.{sound_but_marks}
use Rattle.lmn_adequacy_choices.proofs.Spares.{atoms_of_same, naming_same}
use Rattle.lmn_schedule_strategy.proofs.Lulling.{tree_alike}
use Rattle.lmn_store_trait.proofs.Numbers.{HasNumber, root_number, number_next, number_mem, last_number}
use Rattle.lmn_schedule_strategy.proofs.Numbers.{take_one_more, take_whole}
use Rattle.lmn_schedule_strategy.specs.Quieting.{AllAwake}

-- Of the membranes in preorder the first ones are awake; the next is `at`.
pub record Rousing (h k : Heap) (counted at : ℕ) : Type 0 where
  pub alike : SameButMarks h k
  pub number : HasNumber h counted at
  pub zeros : (f : Forest) → IsTree h f → (m : ℕ) → In m (take counted (flat f)) → mem_mark_of k m ≡ 0

-- none is woken yet
pub rouse_begins : (h : Heap) (at : ℕ) → at ≡ h.root → Rousing h h 0 at
rouse_begins h at e = record { alike = no_marks h; number = root_number h at e; zeros = λ f t m i. absurd i }

-- a heap with other marks of membranes is valid where the first one is
pub valid_on : (h k : Heap) → SameButMarks h k → Valid h → Valid k
valid_on h k e v = valid_but_marks h k e v (sound_but_marks h k e v.sound)

module _ (h k l : Heap) (valid : Valid h) (counted at : ℕ) (r : Rousing h k counted at) (is : l ≡ mem_marked k at 0) where
  -- one more is woken: the marks of membranes alone are others,
  pub rouse_alike : SameButMarks h l
  rouse_alike = marks_on h k l r.alike (mark_one k l at 0 is)

  there : IsMem k at
  there = (read_alike h k r.alike).stays at (number_mem h counted at valid r.number)

  zeros_more : (f : Forest) → IsTree h f → (m : ℕ) → In m (take (counted + 1) (flat f)) → mem_mark_of l m ≡ 0
  zeros_more f t m i = elim (cases_eq m at) [
    | inl e ↦ ap (λ z. mem_mark_of z m) is ∙ subst (λ y. mem_mark_of (mem_marked k at 0) y ≡ 0) (sym e) (marked_there k at 0 there)
    | inr d ↦ elim (in_either m (take counted (flat f)) (at ∷ []) (subst (In m) one i)) [
      | inl j ↦ ap (λ z. mem_mark_of z m) is ∙ marked_away k at 0 m d ∙ r.zeros f t m j
      | inr j ↦ elim j [ inl e ↦ absurd (d (sym e)) | inr v ↦ absurd v ]
    ]
  ]
    where
      one : take (counted + 1) (flat f) ≡ take counted (flat f) ++ at ∷ []
      one = ap (λ z. take z (flat f)) (let z : counted + 1 ≡ suc counted = omega arith in z) ∙ take_one_more (flat f) counted at (r.number f t)

  -- the next one is behind it,
  pub rouse_goes : (n : ℕ) → ((f : Forest) → IsTree l f → from (Some n) (flat f) ≡ after at (flat f)) → Rousing h l (counted + 1) n
  rouse_goes n e = record {
    alike = rouse_alike;
    number = number_next h counted at (Some n) r.number (λ f t. e f (tree_alike h l rouse_alike f t));
    zeros = zeros_more;
  }

  -- or it was the last, and all are awake
  pub rouse_ends : ((f : Forest) → IsTree l f → from None (flat f) ≡ after at (flat f)) → AllAwake l
  rouse_ends e m = by (l.mems m) refl
    where
      f : Forest
      f = valid.tree.0

      all : counted + 1 ≡ length (flat valid.tree.0)
      all = last_number h counted at r.number valid.tree.0 valid.tree.1 (number_next h counted at None r.number (λ d u. e d (tree_alike h l rouse_alike d u)) valid.tree.0 valid.tree.1)

      by : (o : Option HeapMem) → l.mems m ≡ o → mem_mark_of l m ≡ 0
      by None q = ap mem_mark_by q
      by (Some x) q =
          let is_mem = (read_alike h l rouse_alike).there m (subst (λ (o : Option HeapMem). IsSome o) (sym q) refl) in
          zeros_more valid.tree.0 valid.tree.1 m (subst (In m) (sym (take_whole (flat valid.tree.0) (counted + 1) (let z = all in omega (arith, z)))) (valid.tree.1.all m is_mem))

-- ---- a loaded store

module _ (h k : Heap) (e : SameButMarks h k) where
  abbrev same : ReadAlike h k
  same = read_alike h k e

  regions_same : (name : ℕ → ℕ → ℕ) (f : Forest) → regions_of k name f ≡ regions_of h name f
  regions_same name bare = refl
  regions_same name (mem m inner rest) =
      let a : solid_atoms_at k name (atoms_in k m) ≡ solid_atoms_at h name (atoms_in h m) = ap (solid_atoms_at k name) ((same).lists m) ∙ atoms_of_same h k (same) name (atoms_in h m) in
      let b = regions_same name inner in
      let c = (same).rules m in
      let d = regions_same name rest in
      λ i. roll-Region (record { atoms = a i; membranes = b i; rules = c i }) ∷ d i

  -- a store that is loaded is loaded with other marks of its membranes too
  pub loaded_on : (p : Plain) → IsLoaded p h → IsLoaded p k
  loaded_on p l = record {
    valid = valid_on h k e l.valid;
    unmarked = marks_unmarked h k e l.unmarked;
    solid = l.solid;
    of_heap = record {
      forest = l.of_heap.forest;
      tree = tree_alike h k e l.of_heap.forest l.of_heap.tree;
      name = l.of_heap.name;
      naming = naming_same h k (same) l.of_heap.name l.of_heap.naming;
      root = regions_same l.of_heap.name l.of_heap.forest ∙ l.of_heap.root;
      count = l.of_heap.count;
      numbers = l.of_heap.numbers;
    };
    of_plain = l.of_plain;
  }
