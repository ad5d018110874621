-- What holds of cells that are linked one behind the other.
use Rattle.std.proofs.Common.{◌≡◌, ◌≢◌, ℕ, List, [], ◌∷◌, ◌++◌, Option, Some, None, refl, sym, ap, subst, ◌∙◌, inl, inr}
use Rattle.std.specs.List.{AllByRecursion}
use Rattle.lmn_base.specs.Lists.{In}
use Rattle.lmn_store_heap.specs.Lists.{Distinct}
use Rattle.lmn_store_heap.proofs.ListLemmas.{each_in, each_of, apart, in_left, in_right, distinct_left, distinct_right}
use Rattle.lmn_web_cells.specs.Runs.{Node, RunsThrough}
use Rattle.lmn_base.proofs.Lists.{some_in}

-- a run stays one where its nodes stay as they are
pub frame : (f g : ℕ → Node) (b first : Option ℕ) (xs : List ℕ) (last end : Option ℕ) → AllByRecursion (λ y. g y ≡ f y) xs → RunsThrough f b first xs last end → RunsThrough g b first xs last end
frame f g b first [] last end same r = r
frame f g b first (x ∷ xs) last end same r =
    (r.0, ap (λ n. n.prev) same.0 ∙ r.1, frame f g (Some x) (g x).next xs last end same.1 (subst (λ o. RunsThrough f (Some x) o xs last end) (ap (λ n. n.next) (sym same.0)) r.2))

-- two runs one behind the other are one
pub join : (f : ℕ → Node) (b first : Option ℕ) (xs : List ℕ) (p m : Option ℕ) (ys : List ℕ) (last end : Option ℕ) → RunsThrough f b first xs p m → RunsThrough f p m ys last end → RunsThrough f b first (xs ++ ys) last end
join f b first [] p m ys last end r s = subst (λ o. RunsThrough f b o ys last end) (sym r.0) (subst (λ o. RunsThrough f o m ys last end) r.1 s)
join f b first (x ∷ xs) p m ys last end r s = (r.0, r.1, join f (Some x) (f x).next xs p m ys last end r.2 s)

-- and a run can be cut in two
pub split : (f : ℕ → Node) (b first : Option ℕ) (xs ys : List ℕ) (last end : Option ℕ) → RunsThrough f b first (xs ++ ys) last end → (p : Option ℕ) × (m : Option ℕ) × RunsThrough f b first xs p m × RunsThrough f p m ys last end
split f b first [] ys last end r = (b, first, (refl, refl), r)
split f b first (x ∷ xs) ys last end r = let s = split f (Some x) (f x).next xs ys last end r.2 in (s.0, s.1, (r.0, r.1, s.2), s.3)

-- the last node of a run is in it
pub last_in : (f : ℕ → Node) (b first : Option ℕ) (y : ℕ) (ys : List ℕ) (p e : Option ℕ) → RunsThrough f b first (y ∷ ys) p e → (q : ℕ) × (p ≡ Some q) × In q (y ∷ ys)
last_in f b first y [] p e r = (y, r.2.1, inl refl)
last_in f b first y (z ∷ ys) p e r = let s = last_in f (Some y) (f y).next z ys p e r.2 in (s.0, s.1, inr s.2)

-- and it is followed by what ends the run
pub last_next : (f : ℕ → Node) (b first : Option ℕ) (y : ℕ) (ys : List ℕ) (p e : Option ℕ) (q : ℕ) → RunsThrough f b first (y ∷ ys) p e → p ≡ Some q → (f q).next ≡ e
last_next f b first y [] p e q r at = ap (λ z. (f z).next) (let h : ◌≡◌ {A = Option ℕ} (Some q) (Some y) = sym at ∙ r.2.1 in let s : q ≡ y = cc in s) ∙ r.2.0
last_next f b first y (z ∷ ys) p e q r at = last_next f (Some y) (f y).next z ys p e q r.2 at

-- what precedes the rest of a run is in its front
pub before_behind : (f : ℕ → Node) (b first : Option ℕ) (y : ℕ) (ys : List ℕ) (p m : Option ℕ) (q : ℕ) → RunsThrough f b first (y ∷ ys) p m → p ≡ Some q → In q (y ∷ ys)
before_behind f b first y ys p m q r at = let s = last_in f b first y ys p m r in subst (λ u. In u (y ∷ ys)) (let h : Some s.0 ≡ Some q = sym s.1 ∙ at in cc) s.2

-- the last one is followed by something else
pub relink_end : (f g : ℕ → Node) (b first : Option ℕ) (y : ℕ) (ys : List ℕ) (p e new : Option ℕ) → RunsThrough f b first (y ∷ ys) p e → Distinct (y ∷ ys)
    → ((q : ℕ) → p ≡ Some q → g q ≡ record (f q) { next = new }) → ((z : ℕ) → In z (y ∷ ys) → p ≢ Some z → g z ≡ f z) → RunsThrough g b first (y ∷ ys) p new
relink_end f g b first y [] p e new r d at other =
    (r.0, ap (λ n. n.prev) (at y r.2.1) ∙ r.1, (ap (λ n. n.next) (at y r.2.1), r.2.1))
relink_end f g b first y (z ∷ ys) p e new r d at other =
    let s = last_in f (Some y) (f y).next z ys p e r.2 in
    let differs : p ≢ Some y = λ same. each_in (λ w. y ≢ w) (z ∷ ys) s.0 d.0 s.2 (let h : Some y ≡ Some s.0 = sym same ∙ s.1 in cc) in
    let same : g y ≡ f y = other y (inl refl) differs in (
      r.0,
      ap (λ n. n.prev) same ∙ r.1,
      relink_end f g (Some y) (g y).next z ys p e new (subst (λ o. RunsThrough f (Some y) o (z ∷ ys) p e) (ap (λ n. n.next) (sym same)) r.2) d.1 at (λ w i. other w (inr i)),
    )

-- the first one is preceded by something else
pub relink_start : (f g : ℕ → Node) (b first : Option ℕ) (y : ℕ) (ys : List ℕ) (last e new : Option ℕ) → RunsThrough f b first (y ∷ ys) last e
    → g y ≡ record (f y) { prev = new } → AllByRecursion (λ z. g z ≡ f z) ys → RunsThrough g new first (y ∷ ys) last e
relink_start f g b first y ys last e new r at other =
    (r.0, ap (λ n. n.prev) at, frame f g (Some y) (g y).next ys last e other (subst (λ o. RunsThrough f (Some y) o ys last e) (ap (λ n. n.next) (sym at)) r.2))

-- what begins a list, where the cell before is none or another
abbrev pub begins : Option ℕ → Option ℕ → Option ℕ → Option ℕ
begins first None n = n
begins first (Some q) n = first

-- where a run ends when a cell, or none, is put at its end
abbrev pub ends : Option ℕ → Option ℕ → Option ℕ → Option ℕ
ends last None p = p
ends last (Some q) p = last

-- g is f where x, behind p and before n, has left
pub record Left (f g : ℕ → Node) (x : ℕ) (p n : Option ℕ) : Type 0 where
  pub other : (z : ℕ) → z ≢ x → p ≢ Some z → n ≢ Some z → g z ≡ f z
  pub before : (q : ℕ) → q ≢ x → p ≡ Some q → n ≢ Some q → g q ≡ record (f q) { next = n }
  pub behind : (q : ℕ) → q ≢ x → p ≢ Some q → n ≡ Some q → g q ≡ record (f q) { prev = p }

module _ (f g : ℕ → Node) (x : ℕ) (p n : Option ℕ) (h : Left f g x p n) where
  -- the part before it, where it isn't the first
  front_left : (b first : Option ℕ) (y : ℕ) (ys zs : List ℕ) → Distinct ((y ∷ ys) ++ (x ∷ zs)) → ((r : ℕ) → n ≡ Some r → In r zs)
      → RunsThrough f b first (y ∷ ys) p (Some x) → RunsThrough g b first (y ∷ ys) p n
  front_left b first y ys zs d next r =
      let s = last_in f b first y ys p (Some x) r in
      let no_x : (z : ℕ) → In z (y ∷ ys) → z ≢ x = λ z i. apart (y ∷ ys) (x ∷ zs) z x d i (inl refl) in
      let no_next : (z : ℕ) → In z (y ∷ ys) → n ≢ Some z = λ z i same. apart (y ∷ ys) (x ∷ zs) z z d i (inr (next z same)) refl in
      relink_end f g b first y ys p (Some x) n r (distinct_left (y ∷ ys) (x ∷ zs) d)
      (λ q at. let i : In q (y ∷ ys) = subst (λ u. In u (y ∷ ys)) (let e : Some s.0 ≡ Some q = sym s.1 ∙ at in cc) s.2 in h.before q (no_x q i) at (no_next q i))
      (λ z i away. h.other z (no_x z i) away (no_next z i))

  -- the part before it
  left_part : (ys zs : List ℕ) (first : Option ℕ) → Distinct (ys ++ (x ∷ zs)) → ((r : ℕ) → n ≡ Some r → In r zs)
      → RunsThrough f None first ys p (Some x) → RunsThrough g None (begins first p n) ys p n
  left_part [] zs first d next r = (ap (λ o. begins first o n) r.1, r.1)
  left_part (y ∷ ys) zs first d next r =
      let s = last_in f None first y ys p (Some x) r in
      let keeps : begins first p n ≡ first = ap (λ o. begins first o n) s.1 in
      subst (λ o. RunsThrough g None o (y ∷ ys) p n) (sym keeps) (front_left None first y ys zs d next r)

  -- the part after it
  right_part : (ys zs : List ℕ) (last : Option ℕ) → Distinct (ys ++ (x ∷ zs)) → ((q : ℕ) → p ≡ Some q → In q ys)
      → RunsThrough f (Some x) n zs last None → RunsThrough g p n zs (ends last n p) None
  right_part ys [] last d before r = (r.0, ap (λ o. ends last o p) r.0)
  right_part ys (z ∷ zs) last d before r =
      let keeps : ends last n p ≡ last = ap (λ o. ends last o p) r.0 in
      let own : Distinct (x ∷ z ∷ zs) = distinct_right ys (x ∷ z ∷ zs) d in
      let no_x : (u : ℕ) → In u (z ∷ zs) → u ≢ x = λ u i same. each_in (λ v. x ≢ v) (z ∷ zs) u own.0 i (sym same) in
      let no_before : (u : ℕ) → In u (z ∷ zs) → p ≢ Some u = λ u i same. apart ys (x ∷ z ∷ zs) u u d (before u same) (inr i) refl in
      subst (λ o. RunsThrough g p n (z ∷ zs) o None) (sym keeps)
      (relink_start f g (Some x) n z zs last None p r
      (h.behind z (no_x z (inl refl)) (no_before z (inl refl)) r.0)
      (each_of _ zs (λ u i. h.other u (no_x u (inr i)) (no_before u (inr i)) (some_in n z u r.0 (λ same. each_in (λ v. z ≢ v) zs u own.1.0 i (sym same))))))

-- what precedes the rest of a run is in it
pub before_in : (f : ℕ → Node) (first : Option ℕ) (ys : List ℕ) (p m : Option ℕ) (q : ℕ) → RunsThrough f None first ys p m → p ≡ Some q → In q ys
before_in f first [] p m q r at = absurd (let h : Some q ≡ None = sym at ∙ r.1 in cc)
before_in f first (y ∷ ys) p m q r at = before_behind f None first y ys p m q r at

-- what begins a run is in it
pub after_in : (f : ℕ → Node) (b n : Option ℕ) (zs : List ℕ) (last : Option ℕ) (q : ℕ) → RunsThrough f b n zs last None → n ≡ Some q → In q zs
after_in f b n [] last q r at = absurd (let h : Some q ≡ None = sym at ∙ r.0 in cc)
after_in f b n (z ∷ zs) last q r at = inl (let h : Some z ≡ Some q = sym r.0 ∙ at in cc)

-- a run without one of its cells
pub leaves : (f g : ℕ → Node) (first last : Option ℕ) (ys : List ℕ) (x : ℕ) (zs : List ℕ) → Left f g x (f x).prev (f x).next → Distinct (ys ++ (x ∷ zs))
    → RunsThrough f None first (ys ++ (x ∷ zs)) last None → RunsThrough g None (begins first (f x).prev (f x).next) (ys ++ zs) (ends last (f x).next (f x).prev) None
leaves f g first last ys x zs h d r =
    let p = (f x).prev in let n = (f x).next in
    let s = split f None first ys (x ∷ zs) last None r in
    let one : RunsThrough f None first ys p (Some x) = subst (λ o. RunsThrough f None first ys p o) s.3.0 (subst (λ o. RunsThrough f None first ys o s.1) (sym s.3.1) s.2) in
    let two : RunsThrough f (Some x) n zs last None = s.3.2 in
    join g None (begins first p n) ys p n zs (ends last n p) None
    (left_part f g x p n h ys zs first d (λ q at. after_in f (Some x) n zs last q two at) one)
    (right_part f g x p n h ys zs last d (λ q at. before_in f first ys p (Some x) q one at) two)

-- g is f where x stands behind p, at the end
pub record Joined (f g : ℕ → Node) (x : ℕ) (p : Option ℕ) : Type 0 where
  pub here : g x ≡ record { prev = p; next = None }
  pub before : (q : ℕ) → q ≢ x → p ≡ Some q → g q ≡ record (f q) { next = Some x }
  pub other : (z : ℕ) → z ≢ x → p ≢ Some z → g z ≡ f z

-- a run that has cells, with one more at its end
pub joins_behind : (f g : ℕ → Node) (b first last : Option ℕ) (y : ℕ) (xs : List ℕ) (x : ℕ) → Joined f g x last → Distinct (y ∷ xs) → (In x (y ∷ xs) → ⊥)
    → RunsThrough f b first (y ∷ xs) last None → RunsThrough g b first (y ∷ (xs ++ x ∷ [])) (Some x) None
joins_behind f g b first last y xs x h d fresh r =
    let s = last_in f b first y xs last None r in
    let not_x : (z : ℕ) → In z (y ∷ xs) → z ≢ x = λ z i same. fresh (subst (λ u. In u (y ∷ xs)) same i) in
    let front : RunsThrough g b first (y ∷ xs) last (Some x) = relink_end f g b first y xs last None (Some x) r d
    (λ q same. let i : In q (y ∷ xs) = subst (λ u. In u (y ∷ xs)) (let e : Some s.0 ≡ Some q = sym s.1 ∙ same in cc) s.2 in h.before q (not_x q i) same)
    (λ z i away. h.other z (not_x z i) away) in
    let end : RunsThrough g last (Some x) (x ∷ []) (Some x) None = (refl, ap (λ u. u.prev) h.here, (ap (λ u. u.next) h.here, refl)) in
    join g b first (y ∷ xs) last (Some x) (x ∷ []) (Some x) None front end

-- a run with one more cell at its end
pub joins : (f g : ℕ → Node) (first last : Option ℕ) (xs : List ℕ) (x : ℕ) → Joined f g x last → Distinct xs → (In x xs → ⊥)
    → RunsThrough f None first xs last None → RunsThrough g None (begins first last (Some x)) (xs ++ x ∷ []) (Some x) None
joins f g first last [] x h d fresh r =
    (ap (λ o. begins first o (Some x)) r.1, ap (λ u. u.prev) h.here ∙ r.1, (ap (λ u. u.next) h.here, refl))
joins f g first last (y ∷ xs) x h d fresh r =
    let s = last_in f None first y xs last None r in
    let keeps : begins first last (Some x) ≡ first = ap (λ o. begins first o (Some x)) s.1 in
    subst (λ o. RunsThrough g None o (y ∷ (xs ++ x ∷ [])) (Some x) None) (sym keeps) (joins_behind f g None first last y xs x h d fresh r)

-- g is f where x stands behind p and before a
pub record Between (f g : ℕ → Node) (x : ℕ) (p : Option ℕ) (a : ℕ) : Type 0 where
  pub here : g x ≡ record { prev = p; next = Some a }
  pub before : (q : ℕ) → q ≢ x → p ≡ Some q → g q ≡ record (f q) { next = Some x }
  pub behind : g a ≡ record (f a) { prev = Some x }
  pub other : (z : ℕ) → z ≢ x → p ≢ Some z → z ≢ a → g z ≡ f z

module _ (f g : ℕ → Node) (x : ℕ) (p : Option ℕ) (a : ℕ) (h : Between f g x p a) where
  -- the part before it, where there is one
  front_before : (b first : Option ℕ) (y : ℕ) (ys zs : List ℕ) → Distinct ((y ∷ ys) ++ (a ∷ zs)) → (In x ((y ∷ ys) ++ (a ∷ zs)) → ⊥) → RunsThrough f b first (y ∷ ys) p (Some a) → RunsThrough g b first (y ∷ ys) p (Some x)
  front_before b first y ys zs d fresh r =
      let s = last_in f b first y ys p (Some a) r in
      let not_x : (z : ℕ) → In z (y ∷ ys) → z ≢ x = λ z i same. fresh (subst (λ u. In u ((y ∷ ys) ++ (a ∷ zs))) same (in_left z (y ∷ ys) (a ∷ zs) i)) in
      let not_a : (z : ℕ) → In z (y ∷ ys) → z ≢ a = λ z i. apart (y ∷ ys) (a ∷ zs) z a d i (inl refl) in
      relink_end f g b first y ys p (Some a) (Some x) r (distinct_left (y ∷ ys) (a ∷ zs) d)
      (λ q at. let i : In q (y ∷ ys) = subst (λ u. In u (y ∷ ys)) (let e : Some s.0 ≡ Some q = sym s.1 ∙ at in cc) s.2 in h.before q (not_x q i) at)
      (λ z i away. h.other z (not_x z i) away (not_a z i))

  -- the part before it
  front_part : (ys zs : List ℕ) (first : Option ℕ) → Distinct (ys ++ (a ∷ zs)) → (In x (ys ++ (a ∷ zs)) → ⊥) → RunsThrough f None first ys p (Some a) → RunsThrough g None (begins first p (Some x)) ys p (Some x)
  front_part [] zs first d fresh r = (ap (λ o. begins first o (Some x)) r.1, r.1)
  front_part (y ∷ ys) zs first d fresh r =
      let s = last_in f None first y ys p (Some a) r in
      let keeps : begins first p (Some x) ≡ first = ap (λ o. begins first o (Some x)) s.1 in
      subst (λ o. RunsThrough g None o (y ∷ ys) p (Some x)) (sym keeps) (front_before None first y ys zs d fresh r)

  -- the part from it on
  back_part : (ys zs : List ℕ) (last : Option ℕ) → Distinct (ys ++ (a ∷ zs)) → (In x (ys ++ (a ∷ zs)) → ⊥) → ((q : ℕ) → p ≡ Some q → In q ys) → RunsThrough f p (Some a) (a ∷ zs) last None → RunsThrough g p (Some x) (x ∷ a ∷ zs) last None
  back_part ys zs last d fresh before two =
      let own : Distinct (a ∷ zs) = distinct_right ys (a ∷ zs) d in
      let not_x : (z : ℕ) → In z zs → z ≢ x = λ z i same. fresh (subst (λ u. In u (ys ++ (a ∷ zs))) same (in_right z ys (a ∷ zs) (inr i))) in
      let not_a : (z : ℕ) → In z zs → z ≢ a = λ z i same. each_in (λ v. a ≢ v) zs z own.0 i (sym same) in
      let not_p : (z : ℕ) → In z zs → p ≢ Some z = λ z i same. apart ys (a ∷ zs) z z d (before z same) (inr i) refl in
      let rest : RunsThrough g (Some x) (Some a) (a ∷ zs) last None = relink_start f g p (Some a) a zs last None (Some x) two h.behind (each_of _ zs (λ z i. h.other z (not_x z i) (not_p z i) (not_a z i))) in
      (refl, ap (λ u. u.prev) h.here, subst (λ o. RunsThrough g (Some x) o (a ∷ zs) last None) (sym (ap (λ u. u.next) h.here)) rest)

-- a run with one more cell before one of its own
pub inserts : (f g : ℕ → Node) (first last : Option ℕ) (ys : List ℕ) (x a : ℕ) (zs : List ℕ) → Between f g x (f a).prev a → Distinct (ys ++ (a ∷ zs)) → (In x (ys ++ (a ∷ zs)) → ⊥)
    → RunsThrough f None first (ys ++ (a ∷ zs)) last None → RunsThrough g None (begins first (f a).prev (Some x)) (ys ++ (x ∷ a ∷ zs)) last None
inserts f g first last ys x a zs h d fresh r =
    let p = (f a).prev in
    let s = split f None first ys (a ∷ zs) last None r in
    let one : RunsThrough f None first ys p (Some a) = subst (λ o. RunsThrough f None first ys p o) s.3.0 (subst (λ o. RunsThrough f None first ys o s.1) (sym s.3.1) s.2) in
    join g None (begins first p (Some x)) ys p (Some x) (x ∷ a ∷ zs) last None (front_part f g x p a h ys zs first d fresh one)
    (back_part f g x p a h ys zs last d fresh (λ q at. before_in f first ys p (Some a) q one at) (refl, refl, s.3.2))
