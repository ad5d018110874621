-- Paths to membranes: one leads to each, and each leads to one.
use Rattle.std.proofs.Common.{ℕ, zero, suc, ◌≡◌, ◌≢◌, ◌⊎◌, List, [], ◌∷◌, ◌++◌, Some, refl, sym, ap, subst, ◌∙◌, inl, inr}
use Rattle.std.specs.Prelude.{slice_get}
use Rattle.std.proofs.lemmas.Option.{same_Some}
use Rattle.lmn_store_heap.specs.Heap.{Heap, mems_in}
use Rattle.lmn_store_heap.specs.Lists.{Distinct}
use Rattle.lmn_store_heap.specs.Sound.{Forest, bare, mem, flat, Forms}
use Rattle.lmn_store_heap.proofs.Groves.{forms_one}
use Rattle.lmn_store_heap.proofs.ListLemmas.{each_in, in_left, in_right, apart, distinct_left, distinct_right}
use Rattle.lmn_adequacy_heaps.specs.Premises.{HasForest}
use Rattle.lmn_adequacy_heaps.proofs.Lying.{TakenTree, tree_first, tree_later}
use Rattle.lmn_adequacy_heaps.proofs.Wholes.{taken_forest}
use Rattle.lmn_adequacy_turns.specs.Turning.{Leads, stays, enters}
use Rattle.lmn_base.specs.Lists.{In}
use Rattle.lmn_base.proofs.Lists.{in_either}

-- how a path begins
abbrev Begins : Heap → ℕ → List ℕ → ℕ → Type 0
Begins h m path x = ((path ≡ []) × (x ≡ m)) ⊎ ((n : ℕ) × (y : ℕ) × (rest : List ℕ) × (path ≡ n ∷ rest) × (slice_get (mems_in h x) n ≡ Some y) × Leads h m rest y)

begins : {h : Heap} {m x : ℕ} {path : List ℕ} → Leads h m path x → Begins h m path x
begins stays = inl (refl, refl)
begins (enters {n = n} {y = y} {path = path} q l) = inr (n, y, path, refl, q, l)

-- a path leads to one membrane
pub leads_to_one : {h : Heap} {m n x : ℕ} {path : List ℕ} → Leads h m path x → Leads h n path x → m ≡ n
leads_to_one {h} {m} {n} {x} stays k = elim (begins k) [ inl b ↦ b.1 | inr b ↦ absurd (let e = b.3 in cc) ]
leads_to_one {h} {m} {n} {x} (enters {n = i} {y = y} {path = path} q l) k = elim (begins k) [
  | inl b ↦ absurd (let e = b.0 in cc)
  | inr b ↦ (let e = b.3 in
      let number : i ≡ b.0 = cc in
      let rest : path ≡ b.2 = cc in
      let same : y ≡ b.1 = same_Some y b.1 (sym q ∙ ap (slice_get (mems_in h x)) number ∙ b.4) in
      leads_to_one l (subst (λ p. Leads h n p y) (sym rest) (subst (Leads h n b.2) (sym same) b.5)))
]

-- each membrane of a forest has its own
pub forest_there : (h : Heap) (f : Forest) (ms : List ℕ) → Forms h f ms → Distinct (flat f) → (m : ℕ) → In m (flat f) → (mi : Forest) × HasForest h m mi
forest_there h bare ms F d m p = absurd p
forest_there h (mem k i f) ms F d m (inl e) = (i, subst (λ z. HasForest h z i) e (taken_forest h ms (tree_first {m = k} {i = i} {f = f}) F d))
forest_there h (mem k i f) ms F d m (inr p) = elim (in_either m (flat i) (flat f) p) [
  | inl q ↦ forest_there h i (mems_in h k) F.2 (distinct_left (flat i) (flat f) d.1) m q
  | inr q ↦ forest_there h f F.0 F.3 (distinct_right (flat i) (flat f) d.1) m q
]

-- The membrane with a number in the list of a forest, with its own forest.
pub record Child (h : Heap) (f : Forest) (n y : ℕ) : Type 0 where
  pub inner : Forest
  pub others : Forest
  pub taken : TakenTree n y inner f others
  pub has : HasForest h y inner
  pub inside : (z : ℕ) → In z (y ∷ flat inner) → In z (flat f)

-- a membrane of a list is a child with its number
pub child : (h : Heap) (f : Forest) (ms : List ℕ) → Forms h f ms → Distinct (flat f) → (n y : ℕ) → slice_get ms n ≡ Some y → Child h f n y
child h bare ms F d n y e = absurd (let g : slice_get [] n ≡ Some y = subst (λ z. slice_get z n ≡ Some y) F e in cc)
child h (mem k i f) ms F d zero y e =
    let same = same_Some k y (subst (λ z. slice_get z 0 ≡ Some y) F.1 e) in
    let own = taken_forest h ms (tree_first {m = k} {i = i} {f = f}) F d in
    subst (Child h (mem k i f) 0) same
    (record { inner = i; others = f; taken = tree_first; has = own; inside = λ z p. elim p [ inl q ↦ inl q | inr q ↦ inr (in_left z (flat i) (flat f) q) ] })
child h (mem k i f) ms F d (suc n) y e =
    let u = child h f F.0 F.3 (distinct_right (flat i) (flat f) d.1) n y (subst (λ z. slice_get z (suc n) ≡ Some y) F.1 e) in
    record { inner = u.inner; others = mem k i u.others; taken = tree_later u.taken; has = u.has; inside = λ z p. inr (in_right z (flat i) (flat f) (u.inside z p)) }

-- a path stays in the membrane in which it begins
pub leads_inside : {h : Heap} {m x : ℕ} {path : List ℕ} → Leads h m path x → (i : Forest) → HasForest h x i → In m (x ∷ flat i)
leads_inside stays i H = inl refl
leads_inside {h} {m} {x} (enters {n = n} {y = y} q l) i H =
    let c = child h i (mems_in h x) H.forms H.once.1 n y q in
    inr (c.inside m (leads_inside l c.inner c.has))

-- nothing is in the first tree of a forest and in another
not_both : (k : ℕ) (i f : Forest) (z : ℕ) → Distinct (k ∷ (flat i ++ flat f)) → In z (k ∷ flat i) → In z (flat f) → ⊥
not_both k i f z d (inl e) p = each_in (λ v. k ≢ v) (flat i ++ flat f) z d.0 (in_right z (flat i) (flat f) p) e
not_both k i f z d (inr q) p = apart (flat i) (flat f) z z d.1 q p refl

-- the first tree is that of the first membrane
first_inside : (h : Heap) (k : ℕ) (i f : Forest) (ms : List ℕ) (y : ℕ) (j : Forest) → Forms h (mem k i f) ms → slice_get ms 0 ≡ Some y → HasForest h y j → (z : ℕ) → In z (y ∷ flat j) → In z (k ∷ flat i)
first_inside h k i f ms y j F e H z p =
    let same = same_Some k y (subst (λ w. slice_get w 0 ≡ Some y) F.1 e) in
    let one = forms_one h i j (mems_in h y) (subst (λ w. Forms h i (mems_in h w)) same F.2) H.forms in
    subst (λ w. In z (w ∷ flat i)) (sym same) (subst (λ w. In z (y ∷ flat w)) (sym one) p)

-- what stands within two membranes of one list shows that they are one
one_child : (h : Heap) (f : Forest) (ms : List ℕ) → Forms h f ms → Distinct (flat f) → (n k y x : ℕ) (i j : Forest) → slice_get ms n ≡ Some y → slice_get ms k ≡ Some x → HasForest h y i → HasForest h x j →
    (z : ℕ) → In z (y ∷ flat i) → In z (x ∷ flat j) → n ≡ k
one_child h bare ms F d n k y x i j e g H K z p q = absurd (let w : slice_get [] n ≡ Some y = subst (λ v. slice_get v n ≡ Some y) F e in cc)
one_child h (mem m a f) ms F d zero zero y x i j e g H K z p q = refl
one_child h (mem m a f) ms F d zero (suc k) y x i j e g H K z p q =
    let c = child h f F.0 F.3 (distinct_right (flat a) (flat f) d.1) k x (subst (λ w. slice_get w (suc k) ≡ Some x) F.1 g) in
    let one = forms_one h j c.inner (mems_in h x) K.forms c.has.forms in
    absurd (not_both m a f z d (first_inside h m a f ms y i F e H z p) (c.inside z (subst (λ w. In z (x ∷ flat w)) one q)))
one_child h (mem m a f) ms F d (suc n) zero y x i j e g H K z p q =
    let c = child h f F.0 F.3 (distinct_right (flat a) (flat f) d.1) n y (subst (λ w. slice_get w (suc n) ≡ Some y) F.1 e) in
    let one = forms_one h i c.inner (mems_in h y) H.forms c.has.forms in
    absurd (not_both m a f z d (first_inside h m a f ms x j F g K z q) (c.inside z (subst (λ w. In z (y ∷ flat w)) one p)))
one_child h (mem m a f) ms F d (suc n) (suc k) y x i j e g H K z p q =
    ap suc (one_child h f F.0 F.3 (distinct_right (flat a) (flat f) d.1) n k y x i j (subst (λ w. slice_get w (suc n) ≡ Some y) F.1 e) (subst (λ w. slice_get w (suc k) ≡ Some x) F.1 g) H K z p q)

-- one path leads to each membrane
pub one_path : {h : Heap} {m x : ℕ} {path other : List ℕ} → Leads h m path x → Leads h m other x → (i : Forest) → HasForest h x i → path ≡ other
one_path {h} {m} stays k i H = elim (begins k) [
  | inl b ↦ sym b.0
  | inr b ↦ (let c = child h i (mems_in h m) H.forms H.once.1 b.0 b.1 b.4 in
      absurd (each_in (λ v. m ≢ v) (flat i) m H.once.0 (c.inside m (leads_inside b.5 c.inner c.has)) refl))
]
one_path {h} {m} {x} (enters {n = n} {y = y} {path = path} q l) k i H = elim (begins k) [
  | inl b ↦ (let c = child h i (mems_in h x) H.forms H.once.1 n y q in
      absurd (each_in (λ v. x ≢ v) (flat i) m H.once.0 (c.inside m (leads_inside l c.inner c.has)) b.1))
  | inr b ↦ (let c = child h i (mems_in h x) H.forms H.once.1 n y q in
      let d = child h i (mems_in h x) H.forms H.once.1 b.0 b.1 b.4 in
      let number = one_child h i (mems_in h x) H.forms H.once.1 n b.0 y b.1 c.inner d.inner q b.4 c.has d.has m (leads_inside l c.inner c.has) (leads_inside b.5 d.inner d.has) in
      let same : b.1 ≡ y = same_Some b.1 y (sym b.4 ∙ sym (ap (slice_get (mems_in h x)) number) ∙ q) in
      let rest = one_path l (subst (Leads h m b.2) same b.5) c.inner c.has in
      (λ t. number t ∷ rest t) ∙ sym b.3)
]
