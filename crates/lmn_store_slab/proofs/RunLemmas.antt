-- What holds of runs of linked numbers.
use Rattle.std.proofs.Common.{◌≡◌, ◌≢◌, ℕ, ◌<◌, List, [], ◌∷◌, ◌++◌, length, Option, Some, None, refl, sym, ap, subst, ◌∙◌, inl, inr}
use Rattle.std.proofs.lemmas.List.{get_or-set_same, get_or-set_other}
use Rattle.lmn_store_slab.specs.declared.node.Node.{Node}
use Rattle.lmn_store_slab.specs.Lines.{free_node, node, with_next, with_prev, RunsThrough}
use Rattle.lmn_store_heap.specs.Lists.{Distinct}
use Rattle.lmn_store_heap.proofs.ListLemmas.{each_in}
use Rattle.lmn_base.specs.Lists.{In}
use Rattle.std.specs.List.{AllByRecursion}

-- a run stays one where its nodes stay as they are
pub frame : (f g : ℕ → Node) (b first : Option ℕ) (xs : List ℕ) (last end : Option ℕ) → AllByRecursion (λ y. g y ≡ f y) xs → RunsThrough f b first xs last end → RunsThrough g b first xs last end
frame f g b first [] last end same r = r
frame f g b first (x ∷ xs) last end same r =
    (r.0, ap (λ n. n.prev) same.0 ∙ r.1, frame f g (Some x) (g x).next xs last end same.1 (subst (λ o. RunsThrough f (Some x) o xs last end) (ap (λ n. n.next) (sym same.0)) r.2))

-- two runs one behind the other are one
pub join : (f : ℕ → Node) (b first : Option ℕ) (xs : List ℕ) (p m : Option ℕ) (ys : List ℕ) (last end : Option ℕ) → RunsThrough f b first xs p m → RunsThrough f p m ys last end → RunsThrough f b first (xs ++ ys) last end
join f b first [] p m ys last end r s = subst (λ o. RunsThrough f b o ys last end) (sym r.0) (subst (λ o. RunsThrough f o m ys last end) r.1 s)
join f b first (x ∷ xs) p m ys last end r s = (r.0, r.1, join f (Some x) (f x).next xs p m ys last end r.2 s)

-- and a run can be cut in two
pub split : (f : ℕ → Node) (b first : Option ℕ) (xs ys : List ℕ) (last end : Option ℕ) → RunsThrough f b first (xs ++ ys) last end → (p : Option ℕ) × (m : Option ℕ) × RunsThrough f b first xs p m × RunsThrough f p m ys last end
split f b first [] ys last end r = (b, first, (refl, refl), r)
split f b first (x ∷ xs) ys last end r = let s = split f (Some x) (f x).next xs ys last end r.2 in (s.0, s.1, (r.0, r.1, s.2), s.3)

-- the last node of a run is in it
pub last_in : (f : ℕ → Node) (b first : Option ℕ) (y : ℕ) (ys : List ℕ) (p e : Option ℕ) → RunsThrough f b first (y ∷ ys) p e → (q : ℕ) × (p ≡ Some q) × In q (y ∷ ys)
last_in f b first y [] p e r = (y, r.2.1, inl refl)
last_in f b first y (z ∷ ys) p e r = let s = last_in f (Some y) (f y).next z ys p e r.2 in (s.0, s.1, inr s.2)

-- the last one is followed by something else
pub relink_end : (f g : ℕ → Node) (b first : Option ℕ) (y : ℕ) (ys : List ℕ) (p e new : Option ℕ) → RunsThrough f b first (y ∷ ys) p e → Distinct (y ∷ ys)
    → ((q : ℕ) → p ≡ Some q → g q ≡ record (f q) { next = new }) → ((z : ℕ) → In z (y ∷ ys) → p ≢ Some z → g z ≡ f z) → RunsThrough g b first (y ∷ ys) p new
relink_end f g b first y [] p e new r d at other =
    (r.0, ap (λ n. n.prev) (at y r.2.1) ∙ r.1, (ap (λ n. n.next) (at y r.2.1), r.2.1))
relink_end f g b first y (z ∷ ys) p e new r d at other =
    let s = last_in f (Some y) (f y).next z ys p e r.2 in
    let differs : p ≢ Some y = λ same. each_in (λ w. y ≢ w) (z ∷ ys) s.0 d.0 s.2 (let h : Some y ≡ Some s.0 = sym same ∙ s.1 in cc) in
    let same : g y ≡ f y = other y (inl refl) differs in (
      r.0,
      ap (λ n. n.prev) same ∙ r.1,
      relink_end f g (Some y) (g y).next z ys p e new (subst (λ o. RunsThrough f (Some y) o (z ∷ ys) p e) (ap (λ n. n.next) (sym same)) r.2) d.1 at (λ w i. other w (inr i)),
    )

-- the first one is preceded by something else
pub relink_start : (f g : ℕ → Node) (b first : Option ℕ) (y : ℕ) (ys : List ℕ) (last e new : Option ℕ) → RunsThrough f b first (y ∷ ys) last e
    → g y ≡ record (f y) { prev = new } → AllByRecursion (λ z. g z ≡ f z) ys → RunsThrough g new first (y ∷ ys) last e
relink_start f g b first y ys last e new r at other =
    (r.0, ap (λ n. n.prev) at, frame f g (Some y) (g y).next ys last e other (subst (λ o. RunsThrough f (Some y) o ys last e) (ap (λ n. n.next) (sym at)) r.2))

-- what is read after a write
pub next_at : (ns : List Node) (p n : Option ℕ) (q : ℕ) → p ≡ Some q → q < length ns → node (with_next ns p n) q ≡ record (node ns q) { next = n }
next_at ns p n q e within = rw e (get_or-set_same ns q (record (node ns q) { next = n }) free_node within)

-- another next node is that of one alone
pub next_other : (ns : List Node) (p n : Option ℕ) (z : ℕ) → p ≢ Some z → node (with_next ns p n) z ≡ node ns z
next_other ns None n z differs = refl
next_other ns (Some q) n z differs = get_or-set_other ns q z (record (node ns q) { next = n }) free_node (λ e. differs (ap Some (sym e)))

-- the node before is changed where it is asked
pub prev_at : (ns : List Node) (n p : Option ℕ) (q : ℕ) → n ≡ Some q → q < length ns → node (with_prev ns n p) q ≡ record (node ns q) { prev = p }
prev_at ns n p q e within = rw e (get_or-set_same ns q (record (node ns q) { prev = p }) free_node within)

-- and nowhere else
pub prev_other : (ns : List Node) (n p : Option ℕ) (z : ℕ) → n ≢ Some z → node (with_prev ns n p) z ≡ node ns z
prev_other ns None p z differs = refl
prev_other ns (Some q) p z differs = get_or-set_other ns q z (record (node ns q) { prev = p }) free_node (λ e. differs (ap Some (sym e)))
