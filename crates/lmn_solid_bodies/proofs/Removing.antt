-- What is removed leaves its lists: atoms, then membranes.
use Rattle.std.proofs.Common.{ℕ, ◌≡◌, ◌≢◌, ◌⊎◌, List, [], ◌∷◌, map, Option, Some, None, IsSome, refl, sym, ap, subst, ◌∙◌, inl, inr}
use Rattle.std.proofs.lemmas.Bool.{cases_eq}
use Rattle.std.specs.Option.{option_map, option_and_then}
use Rattle.lmn_store_heap.specs.Heap.{Heap, HeapMem, within, waiting, gone, alter, home_by, mem_with_atoms, mem_with_place, with_place, atom_out, mem_out, mem_place_of, home_of, parent_of, atoms_in, mems_in, rules_in, atoms_by, Distinct, without, taken, taken_mem, taken_all}
use Rattle.lmn_store_heap.proofs.ListLemmas.{each_in}
use Rattle.lmn_store_heap.proofs.Listing.{alter_at, alter_away, atoms_at, atoms_away, place_away, home_is}
use Rattle.lmn_store_heap.proofs.Groves.{without_absent}
use Rattle.lmn_instr_code.specs.declared.instr.Instr.TheVariants.{RemoveMem}
use Rattle.lmn_solid_bodies.specs.Running.{Registers, DoesAll, Prepares}
use Rattle.lmn_solid_bodies.proofs.Phases.{taken_stays}
use Rattle.lmn_store_heap.proofs.ListOps.{change_keeps, place_by, there_by, out_mem, out_atoms, out_rules, out_there, out_place}
use Rattle.lmn_solid_bodies.proofs.Growing.{SameAtoms, same_atoms, same_atoms_after, some_there}
use Rattle.lmn_store_heap.specs.Lists.{without_all}
use Rattle.lmn_store_heap.proofs.Common.{place_home, in_of_without}
use Rattle.lmn_store_heap.proofs.Heights.{parent_place}
use Rattle.lmn_base.specs.Lists.{In}

-- these membranes are taken, one after the other
abbrev pub all_taken_mems : Heap → List ℕ → Heap
all_taken_mems s [] = s
all_taken_mems s (k ∷ ks) = all_taken_mems (taken_mem s k) ks

-- instructions that remove membranes take them from the heap, one by one
pub commits_taken_mems : (r : Registers) (ns : List ℕ) (s t : Heap) → DoesAll r (map RemoveMem ns) s t → t ≡ all_taken_mems s (map r.head.images.membrane ns)
commits_taken_mems r [] s t w = w
commits_taken_mems r (n ∷ ns) s t w = commits_taken_mems r ns w.0 t w.2 ∙ ap (λ z. all_taken_mems z (map r.head.images.membrane ns)) w.1

-- and make nothing
pub prepares_taken_mems : (r : Registers) (ns : List ℕ) (s t : Heap) → Prepares r (map RemoveMem ns) s t → t ≡ s
prepares_taken_mems r [] s t w = w
prepares_taken_mems r (n ∷ ns) s t w = prepares_taken_mems r ns w.0 t w.2 ∙ w.1

-- From s to t these atoms and these membranes leave their lists.
pub record Shrunk (s t : Heap) (ns ks : List ℕ) : Type 0 where
  pub same : SameAtoms s t
  pub atoms : (x : ℕ) → atoms_in t x ≡ without_all ns (atoms_in s x)
  pub mems : (x : ℕ) → mems_in t x ≡ without_all ks (mems_in s x)
  pub rules : (x : ℕ) → rules_in t x ≡ rules_in s x
  pub there : (x : ℕ) → there_by (t.mems x) ≡ there_by (s.mems x)
  pub gone_before : (x : ℕ) → mem_place_of t x ≡ Some gone → In x ks ⊎ (mem_place_of s x ≡ Some gone)
  pub homes : (a : ℕ) → (In a ns → ⊥) → home_of t a ≡ home_of s a
  pub places : (x : ℕ) → (In x ks → ⊥) → mem_place_of t x ≡ mem_place_of s x
  pub line : t.new_atoms ≡ s.new_atoms
  pub mem_line : t.new_mems ≡ s.new_mems

-- each atom stands in one list
abbrev pub InOneList : Heap → List ℕ → Type 0
InOneList s ns = (a : ℕ) → In a ns → (m : ℕ) × (home_of s a ≡ Some m) × ((y : ℕ) → In a (atoms_in s y) → y ≡ m) × IsSome (s.mems m)

-- each membrane stands in one list
abbrev pub MemInOneList : Heap → List ℕ → Type 0
MemInOneList s ks = (k : ℕ) → In k ks → (p : ℕ) × (parent_of s k ≡ Some p) × ((y : ℕ) → In k (mems_in s y) → y ≡ p) × IsSome (s.mems p)

taken_there : (s : Heap) (a x : ℕ) → there_by ((taken s a).mems x) ≡ there_by (s.mems x)
taken_there s a x = by (home_of s a)
  where
    by : (o : Option ℕ) → there_by (atom_out s.mems o a x) ≡ there_by (s.mems x)
    by None = refl
    by (Some m) = change_keeps there_by s.mems m (mem_with_atoms (without a)) (λ y. refl) x

taken_one : (s : Heap) (a m : ℕ) → home_of s a ≡ Some m → ((y : ℕ) → In a (atoms_in s y) → y ≡ m) → IsSome (s.mems m) → (x : ℕ) → atoms_in (taken s a) x ≡ without a (atoms_in s x)
taken_one s a m home once is x = ap (λ (o : Option ℕ). atoms_by (atom_out s.mems o a x)) home ∙ elim (cases_eq x m) [
  | inl e ↦ subst (λ z. atoms_by (alter s.mems m (option_map (mem_with_atoms (without a))) z) ≡ without a (atoms_by (s.mems z))) (sym e) (atoms_at s.mems m (without a) is)
  | inr d ↦ atoms_away s.mems m (without a) x d ∙ sym (without_absent a (atoms_in s x) (λ i. d (once x i)))
]

-- a heap has shrunk by the atoms that are taken
pub shrunk_atoms : (ns : List ℕ) (s : Heap) → Distinct ns → InOneList s ns → Shrunk s (taken_all s ns) ns []
shrunk_atoms [] s d w = record { same = same_atoms s; atoms = λ x. refl; mems = λ x. refl; rules = λ x. refl; there = λ x. refl; gone_before = λ x e. inr e; homes = λ a o. refl; places = λ x o. refl; line = refl; mem_line = refl }
shrunk_atoms (a ∷ ns) s d w =
    let v = w a (inl refl) in
    let t = taken s a in
    let st = taken_stays s a in
    let on = shrunk_atoms ns t d.1 (λ b i.
    let u = w b (inr i) in
    let apart : b ≢ a = λ e. each_in (λ z. a ≢ z) ns b d.0 i (sym e) in (
      u.0,
      place_home t b u.0 (place_away s.atoms a gone b apart ∙ home_is s b u.0 u.1),
      (λ y j. u.2 y (in_of_without a b (atoms_in s y) (subst (In b) (taken_one s a v.0 v.1 v.2 v.3 y) j))),
      some_there (s.mems u.0) (t.mems u.0) (taken_there s a u.0) u.3,
    )) in
    record {
      same = same_atoms_after s t (taken_all t ns) (record { functors = st.functors; arities = st.arities; marks = st.marks; links = st.links; root = refl }) on.same;
      atoms = λ x. on.atoms x ∙ ap (without_all ns) (taken_one s a v.0 v.1 v.2 v.3 x);
      mems = λ x. on.mems x ∙ st.inner x;
      rules = λ x. on.rules x ∙ st.rules x;
      there = λ x. on.there x ∙ taken_there s a x;
      gone_before = λ x e. elim (on.gone_before x e) [ inl i ↦ absurd i | inr f ↦ inr (sym (st.mem_places x) ∙ f) ];
      homes = λ b o. on.homes b (λ i. o (inr i)) ∙ ap (option_and_then (λ x. home_by x.place)) (alter_away s.atoms a (option_map (with_place gone)) b (λ e. o (inl (sym e))));
      places = λ x o. on.places x o ∙ st.mem_places x;
      line = on.line;
      mem_line = on.mem_line;
    }

-- a membrane that stands in another has that for its parent
pub place_parent : (s : Heap) (k p : ℕ) → mem_place_of s k ≡ Some (within p) → parent_of s k ≡ Some p
place_parent s k p e = by (s.mems k) e
  where
    by : (o : Option HeapMem) → option_map (λ x. x.place) o ≡ Some (within p) → option_and_then (λ x. home_by x.place) o ≡ Some p
    by None e = absurd (cc)
    by (Some x) e = let g : x.place ≡ within p = (cc) in ap home_by g

-- a heap has shrunk by the membranes that are taken
pub shrunk_mems : (ks : List ℕ) (s : Heap) → Distinct ks → MemInOneList s ks → Shrunk s (all_taken_mems s ks) [] ks
shrunk_mems [] s d w = record { same = same_atoms s; atoms = λ x. refl; mems = λ x. refl; rules = λ x. refl; there = λ x. refl; gone_before = λ x e. inr e; homes = λ a o. refl; places = λ x o. refl; line = refl; mem_line = refl }
shrunk_mems (k ∷ ks) s d w =
    let v = w k (inl refl) in
    let t = taken_mem s k in
    let lists = out_mem s k v.0 v.1 v.2 v.3 in
    let on = shrunk_mems ks t d.1 (λ b i.
    let u = w b (inr i) in
    let apart : b ≢ k = λ e. each_in (λ z. k ≢ z) ks b d.0 i (sym e) in (
      u.0,
      place_parent t b u.0 (out_place s k b apart ∙ parent_place s b u.0 u.1),
      (λ y j. u.2 y (in_of_without k b (mems_in s y) (subst (In b) (lists y) j))),
      some_there (s.mems u.0) (t.mems u.0) (out_there s k u.0) u.3,
    )) in
    record {
      same = same_atoms_after s t (all_taken_mems t ks) (record { functors = λ a. refl; arities = λ a. refl; marks = λ a. refl; links = λ a i. refl; root = refl }) on.same;
      atoms = λ x. on.atoms x ∙ out_atoms s k x;
      mems = λ x. on.mems x ∙ ap (without_all ks) (lists x);
      rules = λ x. on.rules x ∙ out_rules s k x;
      there = λ x. on.there x ∙ out_there s k x;
      gone_before = λ x e. elim (on.gone_before x e) [
        | inl i ↦ inl (inr i)
        | inr f ↦ elim (cases_eq x k) [ inl q ↦ inl (inl (sym q)) | inr q ↦ inr (sym (out_place s k x q) ∙ f) ]
      ];
      homes = λ b o. on.homes b o;
      places = λ x o. on.places x (λ i. o (inr i)) ∙ out_place s k x (λ e. o (inl (sym e)));
      line = on.line;
      mem_line = on.mem_line;
    }

-- atoms, and then membranes
pub shrunk_after : (s t u : Heap) (ns ks : List ℕ) → Shrunk s t ns [] → Shrunk t u [] ks → Shrunk s u ns ks
shrunk_after s t u ns ks g h = record {
  same = same_atoms_after s t u g.same h.same;
  atoms = λ x. h.atoms x ∙ g.atoms x;
  mems = λ x. h.mems x ∙ ap (without_all ks) (g.mems x);
  rules = λ x. h.rules x ∙ g.rules x;
  there = λ x. h.there x ∙ g.there x;
  gone_before = λ x e. elim (h.gone_before x e) [ inl i ↦ inl i | inr f ↦ elim (g.gone_before x f) [ inl i ↦ absurd i | inr q ↦ inr q ] ];
  homes = λ a o. h.homes a (λ i. i) ∙ g.homes a o;
  places = λ x o. h.places x o ∙ g.places x (λ i. i);
  line = h.line ∙ g.line;
  mem_line = h.mem_line ∙ g.mem_line;
}

-- membranes stay in their places when atoms are taken
pub taken_places : (ns : List ℕ) (s : Heap) (x : ℕ) → mem_place_of (taken_all s ns) x ≡ mem_place_of s x
taken_places [] s x = refl
taken_places (a ∷ ns) s x = taken_places ns (taken s a) x ∙ (taken_stays s a).mem_places x

gone_place : (o : Option HeapMem) → place_by (option_map (mem_with_place gone) o) ≡ Some waiting → ⊥
gone_place None e = absurd (cc)
gone_place (Some x) e = absurd (cc)

-- taking membranes makes none wait
pub taken_mems_wait : (ks : List ℕ) (s : Heap) (x : ℕ) → mem_place_of (all_taken_mems s ks) x ≡ Some waiting → mem_place_of s x ≡ Some waiting
taken_mems_wait [] s x e = e
taken_mems_wait (k ∷ ks) s x e =
    let before = taken_mems_wait ks (taken_mem s k) x e in
    elim (cases_eq x k) [
      | inl q ↦ absurd (gone_place (mem_out s.mems (parent_of s k) k k)
          (sym (ap place_by (alter_at (mem_out s.mems (parent_of s k) k) k (option_map (mem_with_place gone)))) ∙ ap (mem_place_of (taken_mem s k)) (sym q) ∙ before))
      | inr d ↦ sym (out_place s k x d) ∙ before
    ]
