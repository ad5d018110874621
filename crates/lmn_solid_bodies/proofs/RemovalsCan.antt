-- Code in two parts can run; and the removals of a body can.
use Rattle.std.proofs.Common.{ℕ, ◌≡◌, ◌≢◌, List, [], ◌∷◌, ◌++◌, map, Option, Some, IsSome, refl, sym, ap, subst, ◌∙◌, inl, inr}
use Rattle.lmn_base.specs.Graphs.{Reached, Port}
use Rattle.lmn_store_heap.specs.Heap.{Heap, parent_of, IsAtom, IsInPlace, Distinct, taken, taken_mem, taken_all}
use Rattle.lmn_store_heap.specs.Graphs.{atom_map}
use Rattle.lmn_store_heap.proofs.ListLemmas.{each_in}
use Rattle.lmn_instr_code.specs.declared.instr.Instr.{Instr}
use Rattle.lmn_instr_code.specs.declared.instr.Instr.TheVariants.{RemoveAtom, RemovePart, RemoveMem}
use Rattle.lmn_solid_bodies.specs.Tied.{partners}
use Rattle.lmn_solid_bodies.specs.Running.{Registers, DoesAll}
use Rattle.lmn_solid_bodies.specs.Conditions.{CanRun}
use Rattle.lmn_solid_bodies.proofs.Phases.{taken_place_away}
use Rattle.lmn_solid_bodies.proofs.Finishing.{within_of, in_place_within}
use Rattle.lmn_solid_bodies.proofs.Removing.{place_parent}
use Rattle.lmn_store_heap.proofs.ListOps.{out_place}
use Rattle.lmn_solid_bodies.proofs.Brought.{reached_into}
use Rattle.lmn_store_heap.specs.Sound.{Paired}
use Rattle.lmn_solid_bodies.proofs.Parts.{taken_links}
use Rattle.lmn_store_heap.proofs.Heights.{parent_place}
use Rattle.lmn_base.specs.Lists.{In}

-- code can run where its first part can, and then the second
pub can_append : (r : Registers) (xs ys : List Instr) (s : Heap) → CanRun r xs s → ((t : Heap) → DoesAll r xs s t → CanRun r ys t) → CanRun r (xs ++ ys) s
can_append r [] ys s c next = next s refl
can_append r (x ∷ xs) ys s c next = (c.0, λ t d. can_append r xs ys t (c.1 t d) (λ u w. next u (t, d, w)))

-- an atom that isn't taken stays in place
pub stays_in_place : (s : Heap) (a b : ℕ) → b ≢ a → IsInPlace s b → IsInPlace (taken s a) b
stays_in_place s a b d i = let w = within_of s b i in in_place_within (taken s a) b w.0 (taken_place_away s a b d ∙ w.1)

-- other atoms stay in place when some are taken
pub all_stay_in_place : (ns : List ℕ) (s : Heap) (b : ℕ) → (In b ns → ⊥) → IsInPlace s b → IsInPlace (taken_all s ns) b
all_stay_in_place [] s b o i = i
all_stay_in_place (n ∷ ns) s b o i = all_stay_in_place ns (taken s n) b (λ j. o (inr j)) (stays_in_place s n b (λ e. o (inl (sym e))) i)

-- atoms in place can be removed
pub atoms_can : (r : Registers) (ns : List ℕ) (s : Heap) → Distinct (map r.head.images.atom ns) → ((n : ℕ) → In n ns → IsInPlace s (r.head.images.atom n)) → CanRun r (map RemoveAtom ns) s
atoms_can r [] s d i = tt
atoms_can r (n ∷ ns) s d i = (
  i n (inl refl),
  λ t e. subst (CanRun r (map RemoveAtom ns)) (sym e) (atoms_can r ns (taken s (r.head.images.atom n)) d.1
      (λ k j. stays_in_place s (r.head.images.atom n) (r.head.images.atom k) (λ q. each_in (λ z. r.head.images.atom n ≢ z) (map r.head.images.atom ns) (r.head.images.atom k) d.0 (mapped ns k j) (sym q)) (i k (inr j)))),
)
  where
    mapped : (xs : List ℕ) (k : ℕ) → In k xs → In (r.head.images.atom k) (map r.head.images.atom xs)
    mapped [] k i = i
    mapped (x ∷ xs) k (inl e) = inl (ap r.head.images.atom e)
    mapped (x ∷ xs) k (inr i) = inr (mapped xs k i)

-- parts, by what is reached in the heap h whose partners the heap s has
pub parts_can : (r : Registers) (h : Heap) (gs : List ℕ) → Distinct gs → (s : Heap) → Paired h → ((g : ℕ) → In g gs → IsAtom h (r.head.images.part g).0) → ((p : Port) → IsAtom h p.0 → partners s p ≡ partners h p)
    → ((g k a : ℕ) → In g gs → In k gs → g ≢ k → Reached (atom_map h) (r.head.images.part g) a → Reached (atom_map h) (r.head.images.part k) a → ⊥)
    → ((g a : ℕ) → In g gs → Reached (atom_map h) (r.head.images.part g) a → IsInPlace s a) → CanRun r (map RemovePart gs) s
parts_can r h [] d s p at e apart i = tt
parts_can r h (g ∷ gs) d s pr at e apart i = (
  (λ b w. i g b (inl refl) (reached_into h s (r.head.images.part g) pr (at g (inl refl)) e b w).1),
  λ t w. subst (CanRun r (map RemovePart gs)) (sym w.3) (parts_can r h gs d.1 (taken_all s w.0) pr (λ k j. at k (inr j)) (λ p is. taken_links w.0 s p.0 p.1 ∙ e p is) (λ j k a x y. apart j k a (inr x) (inr y))
      (λ k a x y. all_stay_in_place w.0 s a
      (λ z. apart g k a (inl refl) (inr x) (λ q. each_in (λ u. g ≢ u) gs k d.0 x q) (reached_into h s (r.head.images.part g) pr (at g (inl refl)) e a ((w.2 a).0 z)).1 y) (i k a (inr x) y))),
)

-- membranes that stand in others can be removed
pub mems_can : (r : Registers) (ns : List ℕ) (s : Heap) → Distinct (map r.head.images.membrane ns) → ((n : ℕ) → In n ns → (p : ℕ) × (parent_of s (r.head.images.membrane n) ≡ Some p)) → CanRun r (map RemoveMem ns) s
mems_can r [] s d i = tt
mems_can r (n ∷ ns) s d i = (
  subst (λ (o : Option ℕ). IsSome o) (sym (i n (inl refl)).1) refl,
  λ t e. subst (CanRun r (map RemoveMem ns)) (sym e) (mems_can r ns (taken_mem s (r.head.images.membrane n)) d.1
      (λ k j. let w = i k (inr j) in (
        w.0,
        place_parent (taken_mem s (r.head.images.membrane n)) (r.head.images.membrane k) w.0
            (out_place s (r.head.images.membrane n) (r.head.images.membrane k) (λ q. each_in (λ z. r.head.images.membrane n ≢ z) (map r.head.images.membrane ns) (r.head.images.membrane k) d.0 (mapped ns k j) (sym q))
            ∙ parent_place s (r.head.images.membrane k) w.0 w.1),
      ))),
)
  where
    mapped : (xs : List ℕ) (k : ℕ) → In k xs → In (r.head.images.membrane k) (map r.head.images.membrane xs)
    mapped [] k i = i
    mapped (x ∷ xs) k (inl e) = inl (ap r.head.images.membrane e)
    mapped (x ∷ xs) k (inr i) = inr (mapped xs k i)
