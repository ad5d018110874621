-- A number leaves its run, or goes to the end of one.
use Rattle.std.proofs.Common.{◌≡◌, ◌≢◌, ℕ, ◌<◌, List, [], ◌∷◌, ◌++◌, length, Option, Some, None, refl, sym, ap, subst, ◌∙◌, inl, inr}
use Rattle.std.proofs.lemmas.List.{get_or-set_same, get_or-set_other, length-set}
use Rattle.std.specs.Prelude.{slice_set}
use Rattle.lmn_store_slab.specs.declared.node.Node.{Node}
use Rattle.lmn_store_slab.specs.declared.node.Ends.{Ends}
use Rattle.lmn_store_slab.specs.Lines.{free_node, node, with_next, with_prev, with_first, with_last, RunsThrough}
use Rattle.lmn_store_slab.proofs.RunLemmas.{join, split, last_in, relink_end, relink_start, next_at, next_other, prev_at, prev_other}
use Rattle.lmn_store_heap.specs.Lists.{Distinct}
use Rattle.lmn_store_heap.proofs.ListLemmas.{each_in, each_of, in_left, in_right, apart, distinct_left, distinct_right}
use Rattle.lmn_base.specs.Lists.{In}
use Rattle.std.specs.List.{AllByRecursion}
use Rattle.lmn_base.proofs.Lists.{some_in}

-- another last node leaves the first
pub with_last_first : (e : Ends) (n p : Option ℕ) → (with_last e n p).first ≡ e.first
with_last_first e None p = refl
with_last_first e (Some q) p = refl

-- and another first one the last
pub with_first_last : (e : Ends) (p n : Option ℕ) → (with_first e p n).last ≡ e.last
with_first_last e None n = refl
with_first_last e (Some q) n = refl

-- another next node leaves as many
pub length-with_next : (ns : List Node) (p n : Option ℕ) → length (with_next ns p n) ≡ length ns
length-with_next ns None n = refl
length-with_next ns (Some q) n = length-set ns q _

-- and so does another one before
pub length-with_prev : (ns : List Node) (p n : Option ℕ) → length (with_prev ns p n) ≡ length ns
length-with_prev ns None n = refl
length-with_prev ns (Some q) n = length-set ns q _

-- after a number has left: what its neighbours, and what all others are
module _ (ns : List Node) (x : ℕ) (p n : Option ℕ) where
  abbrev pub left : ℕ → Node
  left = node (slice_set (with_prev (with_next ns p n) n p) x free_node)

  pub left_other : (z : ℕ) → z ≢ x → p ≢ Some z → n ≢ Some z → left z ≡ node ns z
  left_other z a b c =
      get_or-set_other (with_prev (with_next ns p n) n p) x z free_node free_node a ∙ prev_other (with_next ns p n) n p z c ∙ next_other ns p n z b

  pub left_before : (q : ℕ) → q < length ns → q ≢ x → p ≡ Some q → n ≢ Some q → left q ≡ record (node ns q) { next = n }
  left_before q within a b c =
      get_or-set_other (with_prev (with_next ns p n) n p) x q free_node free_node a ∙ prev_other (with_next ns p n) n p q c ∙ next_at ns p n q b within

  pub left_after : (q : ℕ) → q < length ns → q ≢ x → p ≢ Some q → n ≡ Some q → left q ≡ record (node ns q) { prev = p }
  left_after q within a b c =
      get_or-set_other (with_prev (with_next ns p n) n p) x q free_node free_node a
      ∙ prev_at (with_next ns p n) n p q c (rw (length-with_next ns p n) within)
      ∙ (let f : Node → Node = λ w. record w { prev = p } in ap f (next_other ns p n q b))

-- each number names a node
abbrev pub Within : List Node → List ℕ → Type 0
Within ns xs = AllByRecursion (λ y. y < length ns) xs

module _ (ns : List Node) (x : ℕ) (p n : Option ℕ) where
  -- the part before it
  pub left_part : (ys zs : List ℕ) (e : Ends) → Distinct (ys ++ (x ∷ zs)) → Within ns (ys ++ (x ∷ zs)) → ((r : ℕ) → n ≡ Some r → In r zs)
      → RunsThrough (node ns) None e.first ys p (Some x) → RunsThrough (left ns x p n) None (with_first e p n).first ys p n
  left_part [] zs e d w next r = (ap (λ o. (with_first e o n).first) r.1, r.1)
  left_part (y ∷ ys) zs e d w next r =
      let s = last_in (node ns) None e.first y ys p (Some x) r in
      let keeps : (with_first e p n).first ≡ e.first = ap (λ o. (with_first e o n).first) s.1 in
      let no_x : (z : ℕ) → In z (y ∷ ys) → z ≢ x = λ z i. apart (y ∷ ys) (x ∷ zs) z x d i (inl refl) in
      let no_next : (z : ℕ) → In z (y ∷ ys) → n ≢ Some z = λ z i same. apart (y ∷ ys) (x ∷ zs) z z d i (inr (next z same)) refl in
      let inside : (z : ℕ) → In z (y ∷ ys) → z < length ns = λ z i. each_in (λ u. u < length ns) ((y ∷ ys) ++ (x ∷ zs)) z w (in_left z (y ∷ ys) (x ∷ zs) i) in
      subst (λ o. RunsThrough (left ns x p n) None o (y ∷ ys) p n) (sym keeps)
      (relink_end (node ns) (left ns x p n) None e.first y ys p (Some x) n r (distinct_left (y ∷ ys) (x ∷ zs) d)
      (λ q at. let i : In q (y ∷ ys) = subst (λ u. In u (y ∷ ys)) (let h : Some s.0 ≡ Some q = sym s.1 ∙ at in cc) s.2 in
      left_before ns x p n q (inside q i) (no_x q i) at (no_next q i))
      (λ z i other. left_other ns x p n z (no_x z i) other (no_next z i)))

  -- the part after it
  pub right_part : (ys zs : List ℕ) (e : Ends) → Distinct (ys ++ (x ∷ zs)) → Within ns (ys ++ (x ∷ zs)) → ((q : ℕ) → p ≡ Some q → In q ys)
      → RunsThrough (node ns) (Some x) n zs e.last None → RunsThrough (left ns x p n) p n zs (with_last e n p).last None
  right_part ys [] e d w before r = (r.0, ap (λ o. (with_last e o p).last) r.0)
  right_part ys (z ∷ zs) e d w before r =
      let keeps : (with_last e n p).last ≡ e.last = ap (λ o. (with_last e o p).last) r.0 in
      let own : Distinct (x ∷ z ∷ zs) = distinct_right ys (x ∷ z ∷ zs) d in
      let no_x : (u : ℕ) → In u (z ∷ zs) → u ≢ x = λ u i same. each_in (λ v. x ≢ v) (z ∷ zs) u own.0 i (sym same) in
      let no_before : (u : ℕ) → In u (z ∷ zs) → p ≢ Some u = λ u i same. apart ys (x ∷ z ∷ zs) u u d (before u same) (inr i) refl in
      let inside : z < length ns = each_in (λ u. u < length ns) (ys ++ (x ∷ z ∷ zs)) z w (in_right z ys (x ∷ z ∷ zs) (inr (inl refl))) in
      subst (λ o. RunsThrough (left ns x p n) p n (z ∷ zs) o None) (sym keeps)
      (relink_start (node ns) (left ns x p n) (Some x) n z zs e.last None p r
      (left_after ns x p n z inside (no_x z (inl refl)) (no_before z (inl refl)) r.0)
      (each_of _ zs (λ u i. left_other ns x p n u (no_x u (inr i)) (no_before u (inr i))
      (some_in n z u r.0 (λ same. each_in (λ v. z ≢ v) zs u own.1.0 i (sym same))))))

before_in : (f : ℕ → Node) (first : Option ℕ) (ys : List ℕ) (p m : Option ℕ) (q : ℕ) → RunsThrough f None first ys p m → p ≡ Some q → In q ys
before_in f first [] p m q r at = absurd (let h : Some q ≡ None = sym at ∙ r.1 in cc)
before_in f first (y ∷ ys) p m q r at =
    let s = last_in f None first y ys p m r in subst (λ u. In u (y ∷ ys)) (let h : Some s.0 ≡ Some q = sym s.1 ∙ at in cc) s.2

after_in : (f : ℕ → Node) (b n : Option ℕ) (zs : List ℕ) (last : Option ℕ) (q : ℕ) → RunsThrough f b n zs last None → n ≡ Some q → In q zs
after_in f b n [] last q r at = absurd (let h : Some q ≡ None = sym at ∙ r.0 in cc)
after_in f b n (z ∷ zs) last q r at = inl (let h : Some z ≡ Some q = sym r.0 ∙ at in cc)

-- a run without one of its numbers
pub leaves : (ns : List Node) (e : Ends) (ys : List ℕ) (x : ℕ) (zs : List ℕ) → Distinct (ys ++ (x ∷ zs)) → Within ns (ys ++ (x ∷ zs))
    → RunsThrough (node ns) None e.first (ys ++ (x ∷ zs)) e.last None
    → let p = (node ns x).prev in let n = (node ns x).next in
    RunsThrough (left ns x p n) None (with_last (with_first e p n) n p).first (ys ++ zs) (with_last (with_first e p n) n p).last None
leaves ns e ys x zs d w r =
    let f = node ns in
    let p = (f x).prev in
    let n = (f x).next in
    let s = split f None e.first ys (x ∷ zs) e.last None r in
    let first : RunsThrough f None e.first ys p (Some x) = subst (λ o. RunsThrough f None e.first ys p o) s.3.0 (subst (λ o. RunsThrough f None e.first ys o s.1) (sym s.3.1) s.2) in
    let second : RunsThrough f (Some x) n zs e.last None = s.3.2 in
    let e1 = with_first e p n in
    let a : RunsThrough (left ns x p n) None e1.first ys p n = left_part ns x p n ys zs e d w (λ q at. after_in f (Some x) n zs e.last q second at) first in
    let second1 : RunsThrough f (Some x) n zs e1.last None = subst (λ o. RunsThrough f (Some x) n zs o None) (sym (with_first_last e p n)) second in
    let b : RunsThrough (left ns x p n) p n zs (with_last e1 n p).last None = right_part ns x p n ys zs e1 d w (λ q at. before_in f e.first ys p (Some x) q first at) second1 in
    join (left ns x p n) None (with_last e1 n p).first ys p n zs (with_last e1 n p).last None
    (subst (λ o. RunsThrough (left ns x p n) None o ys p n) (sym (with_last_first e1 n p)) a) b

-- after a number has joined at the end
abbrev pub with_end : List Node → ℕ → ℕ → Option ℕ → List Node
with_end ns l x p = with_next (slice_set ns x (record { prev = p; next = None; home = Some l })) p (Some x)

-- a run with one more number at its end
pub joins : (ns : List Node) (e : Ends) (xs : List ℕ) (l x : ℕ) → Distinct xs → Within ns xs → x < length ns → (In x xs → ⊥)
    → RunsThrough (node ns) None e.first xs e.last None
    → RunsThrough (node (with_end ns l x e.last)) None (with_first e e.last (Some x)).first (xs ++ x ∷ []) (Some x) None
joins ns e [] l x d w within fresh r =
    let home : Node = record { prev = None; next = None; home = Some l } in
    rw r.1 (refl, ap (λ u. u.prev) (get_or-set_same ns x home free_node within), (ap (λ u. u.next) (get_or-set_same ns x home free_node within), refl))
joins ns e (y ∷ xs) l x d w within fresh r =
    let f = node ns in
    let p = e.last in
    let s = last_in f None e.first y xs p None r in
    let ns1 : List Node = slice_set ns x (record { prev = p; next = None; home = Some l }) in
    let g = node (with_next ns1 p (Some x)) in
    let not_x : (z : ℕ) → In z (y ∷ xs) → z ≢ x = λ z i same. fresh (subst (λ u. In u (y ∷ xs)) same i) in
    let was : (z : ℕ) → z ≢ x → node ns1 z ≡ f z = λ z differs. get_or-set_other ns x z (record { prev = p; next = None; home = Some l }) free_node differs in
    let step : Node → Node = λ u. record u { next = Some x } in
    let at : (q : ℕ) → p ≡ Some q → g q ≡ record (f q) { next = Some x } = λ q same.
    let i : In q (y ∷ xs) = subst (λ u. In u (y ∷ xs)) (let h : Some s.0 ≡ Some q = sym s.1 ∙ same in cc) s.2 in
    next_at ns1 p (Some x) q same (rw (length-set ns x) (each_in (λ u. u < length ns) (y ∷ xs) q w i)) ∙ ap step (was q (not_x q i)) in
    let other : (z : ℕ) → In z (y ∷ xs) → p ≢ Some z → g z ≡ f z = λ z i differs. next_other ns1 p (Some x) z differs ∙ was z (not_x z i) in
    let a : RunsThrough g None e.first (y ∷ xs) p (Some x) = relink_end f g None e.first y xs p None (Some x) r d at other in
    let here : g x ≡ record { prev = p; next = None; home = Some l } =
    next_other ns1 p (Some x) x (λ same. not_x s.0 s.2 (let h : Some s.0 ≡ Some x = sym s.1 ∙ same in cc))
    ∙ get_or-set_same ns x (record { prev = p; next = None; home = Some l }) free_node within in
    let b : RunsThrough g p (Some x) (x ∷ []) (Some x) None = (refl, ap (λ u. u.prev) here, (ap (λ u. u.next) here, refl)) in
    let keeps : (with_first e e.last (Some x)).first ≡ e.first = ap (λ o. (with_first e o (Some x)).first) s.1 in
    subst (λ o. RunsThrough g None o (y ∷ (xs ++ x ∷ [])) (Some x) None) (sym keeps) (join g None e.first (y ∷ xs) p (Some x) (x ∷ []) (Some x) None a b)
