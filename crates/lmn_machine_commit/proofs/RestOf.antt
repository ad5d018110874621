-- A membrane of a valid heap has a rest, whatever is set apart of its atoms and membranes.
use Rattle.std.proofs.Common.{◌≡◌, ℕ, zero, suc, Bool, true, false, List, [], ◌∷◌, ◌++◌, map, Option, Some, None, IsSome, refl, sym, ap, subst, inl, inr}
use Rattle.std.specs.Prelude.{if◌then◌else◌, not}
use Rattle.lmn_store_heap.specs.Heap.{Heap, HeapMem, Distinct, IsMem, atoms_by, mems_by, atoms_in, mems_in}
use Rattle.lmn_store_heap.specs.Conditions.{Above}
use Rattle.lmn_store_heap.specs.Sound.{Forest, bare, mem, flat, Forms, Listed, Valid}
use Rattle.lmn_store_heap.proofs.Depths.{both_distinct}
use Rattle.lmn_store_heap.proofs.ListLemmas.{each_in, each_of, in_left, in_right, apart, distinct_left, distinct_right}
use Rattle.lmn_store_heap.proofs.Heights.{parent_is, parent_place, above_more}
use Rattle.lmn_store_heap.proofs.Trees.{split_at, find_at, around}
use Rattle.lmn_store_heap.proofs.Groves.{child_inside}
use Rattle.lmn_base.proofs.Lists.{in_either}
use Rattle.lmn_base.specs.Lists.{In}
use Rattle.lmn_ground_parts.specs.Rests.{keep, atoms_of_all, IsRest}
use Rattle.lmn_ground_parts.specs.Walks.{is_in}
use Rattle.lmn_ground.proofs.DropLaws.{is_out, out_is}
use Rattle.lmn_ground.proofs.RestLaws.{keep_here, keep_past}
use Rattle.lmn_machine_registers.specs.declared.registers.SetRegisters.{SetRegisters}
use Rattle.lmn_machine_commit.specs.Registers.{IsRestBeside}
use Rattle.lmn_machine_commit.proofs.PartLists.{parts_told}
use Rattle.lmn_base.proofs.Truth.{not_true}

-- a tree and those beside it, or these alone
abbrev chosen : Bool → ℕ → Forest → Forest → Forest
chosen true m i r = mem m i r
chosen false m i r = r

-- the trees of a forest whose first membrane is kept
abbrev kept_trees : (ℕ → Bool) → Forest → Forest
kept_trees p bare = bare
kept_trees p (mem m i r) = chosen (p m) m i (kept_trees p r)

forms_kept : (s : Heap) (p : ℕ → Bool) (f : Forest) (ms : List ℕ) → Forms s f ms → Forms s (kept_trees p f) (keep p ms)
forms_kept s p bare ms F = ap (keep p) F
forms_kept s p (mem m i r) ms F =
    subst (λ zs. Forms s (chosen (p m) m i (kept_trees p r)) (keep p zs)) (sym F.1) (by (p m) refl (forms_kept s p r F.0 F.3))
  where
    by : (t : Bool) → p m ≡ t → Forms s (kept_trees p r) (keep p F.0) → Forms s (chosen (p m) m i (kept_trees p r)) (keep p (m ∷ F.0))
    by true e k = subst (λ b. Forms s (chosen b m i (kept_trees p r)) (keep p (m ∷ F.0))) (sym e) (keep p F.0, keep_here p m F.0 e, F.2, k)
    by false e k = subst (λ b. Forms s (chosen b m i (kept_trees p r)) (keep p (m ∷ F.0))) (sym e) (subst (λ zs. Forms s (kept_trees p r) zs) (sym (keep_past p m F.0 e)) k)

in_kept : (p : ℕ → Bool) (f : Forest) (x : ℕ) → In x (flat (kept_trees p f)) → In x (flat f)
in_kept p bare x k = absurd k
in_kept p (mem m i r) x k = by (p m) (in_kept p r x) k
  where
    by : (t : Bool) → (In x (flat (kept_trees p r)) → In x (flat r)) → In x (flat (chosen t m i (kept_trees p r))) → In x (flat (mem m i r))
    by true on (inl e) = inl e
    by true on (inr j) = inr (elim (in_either x (flat i) (flat (kept_trees p r)) j) [ inl a ↦ in_left x (flat i) (flat r) a | inr b ↦ in_right x (flat i) (flat r) (on b) ])
    by false on j = inr (in_right x (flat i) (flat r) (on j))

once_kept : (p : ℕ → Bool) (f : Forest) → Distinct (flat f) → Distinct (flat (kept_trees p f))
once_kept p bare d = tt
once_kept p (mem m i r) d = by (p m) (once_kept p r (distinct_right (flat i) (flat r) d.1))
  where
    by : (t : Bool) → Distinct (flat (kept_trees p r)) → Distinct (flat (chosen t m i (kept_trees p r)))
    by true k = (
      each_of (λ y. m ≡ y → ⊥) (flat i ++ flat (kept_trees p r)) (λ x j. elim (in_either x (flat i) (flat (kept_trees p r)) j) [
        | inl a ↦ each_in (λ y. m ≡ y → ⊥) (flat i ++ flat r) x d.0 (in_left x (flat i) (flat r) a)
        | inr b ↦ each_in (λ y. m ≡ y → ⊥) (flat i ++ flat r) x d.0 (in_right x (flat i) (flat r) (in_kept p r x b))
      ]),
      both_distinct (flat i) (flat (kept_trees p r)) (distinct_left (flat i) (flat r) d.1) k (λ a j l. apart (flat i) (flat r) a a d.1 j (in_kept p r a l) refl),
    )
    by false k = k

-- There is a rest of each membrane.
pub rest_of : (h : Heap) → Valid h → (m : ℕ) → IsMem h m → (left_atom left_membrane : ℕ → Bool) → (atoms membranes : List ℕ) × IsRest h m left_atom left_membrane atoms membranes
rest_of h valid m there left_atom left_membrane =
    let f = valid.tree.0 in
    let t = valid.tree.1 in
    let a = find_at f m (t.all m there) in
    let w = around h f (h.root ∷ []) m a.0 a.1 a.2 t.forms a.3 in
    let u = split_at f m a.0 a.1 a.2 a.3 in
    let once : Distinct (u.0 ++ (m ∷ (flat a.0 ++ (flat a.1 ++ a.2)))) = subst Distinct u.1 t.once in
    let behind = distinct_right u.0 (m ∷ (flat a.0 ++ (flat a.1 ++ a.2))) once in
    let g = kept_trees left_membrane a.0 in (
      keep left_atom (atoms_in h m) ++ atoms_of_all h (flat g),
      flat g,
      record {
        forest = g;
        forms = forms_kept h left_membrane a.0 (mems_in h m) w.inner;
        preorder = refl;
        once = once_kept left_membrane a.0 (distinct_left (flat a.0) (flat a.1 ++ a.2) behind.1);
        outside = λ i. each_in (λ y. m ≡ y → ⊥) (flat a.0 ++ (flat a.1 ++ a.2)) m behind.0 (in_left m (flat a.0) (flat a.1 ++ a.2) (in_kept left_membrane a.0 m i)) refl;
        in_order = refl;
      },
    )

-- what is kept has the test
pub kept_has : (p : ℕ → Bool) (xs : List ℕ) (x : ℕ) → In x (keep p xs) → p x ≡ true
kept_has p [] x i = absurd i
kept_has p (y ∷ ys) x i = by (p y) refl (kept_has p ys x) i
  where
    by : (t : Bool) → p y ≡ t → (In x (keep p ys) → p x ≡ true) → In x (if t then y ∷ keep p ys else keep p ys) → p x ≡ true
    by true e on (inl q) = subst (λ z. p z ≡ true) q e
    by true e on (inr q) = on q
    by false e on q = on q

-- and what has it is kept
pub has_kept : (p : ℕ → Bool) (xs : List ℕ) (x : ℕ) → In x xs → p x ≡ true → In x (keep p xs)
has_kept p [] x i e = absurd i
has_kept p (y ∷ ys) x (inl q) e = subst (λ zs. In x zs) (sym (keep_here p y ys (subst (λ z. p z ≡ true) (sym q) e))) (inl q)
has_kept p (y ∷ ys) x (inr i) e = by (p y) refl (has_kept p ys x i e)
  where
    by : (t : Bool) → p y ≡ t → In x (keep p ys) → In x (keep p (y ∷ ys))
    by true f k = subst (λ zs. In x zs) (sym (keep_here p y ys f)) (inr k)
    by false f k = subst (λ zs. In x zs) (sym (keep_past p y ys f)) k

-- a membrane of a forest is one of its list or stands in one, at some depth
pub root_over : (s : Heap) → Listed s → (f : Forest) (roots : List ℕ) (q : ℕ) → Forms s f roots → In q (flat f) → (c : ℕ) × In c roots × (d : ℕ) × Above s d c q
root_over s listed bare roots q forms i = absurd i
root_over s listed (mem k inner rest) roots q forms (inl e) = (k, subst (λ zs. In k zs) (sym forms.1) (inl refl), 0, sym e)
root_over s listed (mem k inner rest) roots q forms (inr i) = elim (in_either q (flat inner) (flat rest) i) [
  | inl l ↦ (let w = root_over s listed inner (mems_in s k) q forms.2 l in (k, subst (λ zs. In k zs) (sym forms.1) (inl refl), suc w.2, above_more s w.2 k w.0 q (parent_is s listed w.0 k w.1) w.3))
  | inr l ↦ (let w = root_over s listed rest forms.0 q forms.3 l in (w.0, subst (λ zs. In w.0 zs) (sym forms.1) (inr w.1), w.2, w.3))
]

-- and what stands in a membrane of a forest, at any depth, is of it
pub within_forest : (s : Heap) → Listed s → (f : Forest) (roots : List ℕ) (c : ℕ) → Forms s f roots → In c (flat f) → (d q : ℕ) → Above s d c q → In q (flat f)
within_forest s listed f roots c forms i zero q e = subst (λ z. In z (flat f)) (sym e) i
within_forest s listed f roots c forms i (suc d) q (p, e, w) = child_inside s f roots forms p q (within_forest s listed f roots c forms i d p w) ((listed.mems p q).1 (parent_place s q p e))

-- Every number has a rest besides registers, that of no membrane is empty.

empty_rest : (h : Heap) (m : ℕ) (left_atom left_membrane : ℕ → Bool) → h.mems m ≡ None → IsRest h m left_atom left_membrane [] []
empty_rest h m left_atom left_membrane e = record {
  forest = bare;
  forms = ap (λ (o : Option HeapMem). keep left_membrane (mems_by o)) e;
  preorder = refl;
  once = tt;
  outside = λ i. absurd i;
  in_order = sym (ap (λ (o : Option HeapMem). keep left_atom (atoms_by o) ++ []) e);
}

any_rest : (h : Heap) → Valid h → (m : ℕ) (left_atom left_membrane : ℕ → Bool) → (atoms membranes : List ℕ) × IsRest h m left_atom left_membrane atoms membranes
any_rest h valid m left_atom left_membrane = by (h.mems m) refl
  where
    by : (o : Option HeapMem) → h.mems m ≡ o → (atoms membranes : List ℕ) × IsRest h m left_atom left_membrane atoms membranes
    by None e = ([], [], empty_rest h m left_atom left_membrane e)
    by (Some x) e = rest_of h valid m (subst (λ (o : Option HeapMem). IsSome o) (sym e) refl) left_atom left_membrane

-- There is a rest of each membrane besides registers.
pub rest_beside : {A M : Type 0} (atom : A → ℕ) (membrane : M → ℕ) (h : Heap) → Valid h → (g : SetRegisters A M) (m : ℕ) → (atoms membranes : List ℕ) × IsRestBeside atom membrane h g m atoms membranes
rest_beside atom membrane h valid g m =
    let told = parts_told atom h valid g.parts in
    let taken = map atom g.atoms ++ told.0 in
    let left : ℕ → Bool = λ a. not (is_in taken a) in
    let r = any_rest h valid m left (λ x. not (is_in (map membrane g.membranes) x)) in (
      r.0,
      r.1,
      (
        left,
        λ a i. (
          λ e. (let off = out_is a taken (not_true (is_in taken a) e) in record {
            no_atom = λ k. off (in_left a (map atom g.atoms) told.0 k);
            no_part = λ w. off (in_right a (map atom g.atoms) told.0 ((told.1 a).1 w));
          }),
          λ b. ap (λ t. not t) (is_out a taken (λ k. elim (in_either a (map atom g.atoms) told.0 k) [ inl j ↦ b.no_atom j | inr j ↦ b.no_part ((told.1 a).0 j) ])),
        ),
        r.2,
      ),
    )
