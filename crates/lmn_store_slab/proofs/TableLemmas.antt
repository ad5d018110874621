-- What the fields of a table say of its lists.
use Rattle.std.proofs.Common.{◌≡◌, ◌≢◌, ◌⊎◌, ℕ, ◌<◌, List, [], ◌∷◌, ◌++◌, length, get_or, Option, Some, None, IfSome, refl, sym, ap, subst, ◌∙◌, inl, inr, arith}
use Rattle.std.proofs.lemmas.List.{get_or-map, length-set}
use Rattle.std.proofs.lemmas.List.{length-map, get_or-set_same}
use Rattle.std.proofs.lemmas.Bool.{eq-eqb}
use Rattle.std.specs.Prelude.{slice_set}
use Rattle.lmn_store_slab.specs.declared.node.Node.{Node}
use Rattle.lmn_store_slab.specs.declared.node.Ends.{Ends}
use Rattle.lmn_store_slab.specs.Lines.{free_node, no_ends, node, ends_of_list, RunsThrough, numbers_of_list, WellLinked, HeldLists, list_at, view_of, with_next, with_prev, IsFree, with_first, with_last}
use Rattle.lmn_store_slab.proofs.Moves.{length-with_next, length-with_prev}
use Rattle.lmn_store_slab.proofs.SoundLemmas.{mates, sound_left, lists_left, length_left, sound_in, lists_in, length_in, last_mine, not_it}
use Rattle.lmn_store_heap.specs.Lists.{Distinct, after, from, without}
use Rattle.lmn_store_heap.proofs.ListLemmas.{each_in, in_split, without_at}
use Rattle.lmn_base.proofs.Numbers.{not_equal as apart_test}
use Rattle.lmn_base.specs.Lists.{In}
use Rattle.std.specs.List.{AllByRecursion}
use Rattle.lmn_base.proofs.Lists.{read_as}
use Rattle.lmn_store_heap.proofs.Common.{in_after}

module _ (ns : List Node) (es : List Ends) (h : HeldLists) (v : view_of ns es ≡ h) (l : ℕ) (there : l < length h.lists) where
  pub list_within : l < length es
  list_within = let e : length h.lists ≡ length es = ap (λ (u : HeldLists). length u.lists) (sym v) ∙ length-map es (numbers_of_list ns) in omega arith

  pub list_is : list_at h l ≡ numbers_of_list ns (ends_of_list es l)
  list_is = ap (λ (u : HeldLists). list_at u l) (sym v) ∙ get_or-map (numbers_of_list ns) es l no_ends [] list_within

  pub number_within : (x : ℕ) → WellLinked ns es → In x (list_at h l) → x < length ns
  number_within x s i = (each_in (λ u. (u < length ns) × ((node ns u).home ≡ Some l)) (numbers_of_list ns (ends_of_list es l)) x (s.line l list_within).each (rw list_is at i)).0

-- a list from its first on is all of it
pub from_first : (f : ℕ → Node) (b first : Option ℕ) (xs : List ℕ) (last : Option ℕ) → RunsThrough f b first xs last None → from first xs ≡ xs
from_first f b first [] last r = rw r.0 refl
from_first f b first (x ∷ xs) last r = rw (r.0, eq-eqb x x refl) refl

-- past a number that it doesn't have
from_past : (o : Option ℕ) (y : ℕ) (ys : List ℕ) → IfSome o (λ w. y ≢ w) → from o (y ∷ ys) ≡ from o ys
from_past None y ys h = refl
from_past (Some w) y ys h = rw (apart_test y w h) refl

from_in : (o : Option ℕ) (y : ℕ) (ys zs : List ℕ) → from o ys ≡ zs → AllByRecursion (λ w. y ≢ w) ys → ((w : ℕ) → In w zs → In w ys) → IfSome o (λ w. y ≢ w)
from_in None y ys zs e d sub = tt
from_in (Some w) y ys zs e d sub = each_in (λ u. y ≢ u) ys w d (sub w (subst (In w) e (inl refl)))

-- a list from the next of a number on is what stands behind it
pub from_next : (f : ℕ → Node) (b first : Option ℕ) (xs : List ℕ) (last : Option ℕ) (x : ℕ) → RunsThrough f b first xs last None → Distinct xs → In x xs → from (f x).next xs ≡ after x xs
from_next f b first [] last x r d i = absurd i
from_next f b first (y ∷ ys) last x r d (inl same) =
    let rest = from_first f (Some y) (f y).next ys last r.2 in
    rw (← same, eq-eqb y y refl) (from_past (f y).next y ys (from_in (f y).next y ys ys rest d.0 (λ w j. j)) ∙ rest)
from_next f b first (y ∷ ys) last x r d (inr i) =
    let rest = from_next f (Some y) (f y).next ys last x r.2 d.1 i in
    rw (apart_test y x (each_in (λ u. y ≢ u) ys x d.0 i))
    (from_past (f x).next y ys (from_in (f x).next y ys (after x ys) rest d.0 (λ w j. in_after x w ys j)) ∙ rest)

if_some : (o : Option ℕ) (P : ℕ → Type 0) → ((q : ℕ) → o ≡ Some q → P q) → IfSome o P
if_some None P h = tt
if_some (Some q) P h = h q refl

-- the neighbours of a number of a list are in the table
module _ (ns : List Node) (es : List Ends) (l x : ℕ) (s : WellLinked ns es) (lt : l < length es) (there : In x (numbers_of_list ns (ends_of_list es l))) where
  near : (q : ℕ) → ((node ns x).prev ≡ Some q) ⊎ ((node ns x).next ≡ Some q) → q < length ns
  near q h =
      let home = mates ns es l x s lt there q h in
      (each_in (λ u. (u < length ns) × ((node ns u).home ≡ Some l)) (numbers_of_list ns (ends_of_list es l)) q (s.line l lt).each (s.homes q l home).1).0

  pub prev_within : IfSome (node ns x).prev (λ q. q < length ns)
  prev_within = if_some (node ns x).prev (λ q. q < length ns) (λ q e. near q (inl e))

  pub next_within : IfSome (node ns x).next (λ q. q < length ns)
  next_within = if_some (node ns x).next (λ q. q < length ns) (λ q e. near q (inr e))

-- The calls of `unlink`, over plain values.
module _ (ns : List Node) (es : List Ends) (h : HeldLists) (l x : ℕ) (s : WellLinked ns es) (v : view_of ns es ≡ h) (hl : l < length h.lists) (there : In x (list_at h l))
    (n : Node) (rn : n ≡ get_or ns x n) where
  abbrev lt : l < length es
  lt = list_within ns es h v l hl

  abbrev here : In x (numbers_of_list ns (ends_of_list es l))
  here = subst (In x) (list_is ns es h v l hl) there

  node_is : n ≡ node ns x
  node_is = rn ∙ read_as ns x n free_node (number_within ns es h v l hl x s there)

  pub unlink_next : IfSome n.prev (λ q. q < length ns)
  unlink_next = rw node_is (prev_within ns es l x s lt here)

  pub unlink_prev : (ns1 : List Node) → ns1 ≡ with_next ns n.prev n.next → IfSome n.next (λ q. q < length ns1)
  unlink_prev ns1 a1 = rw (a1, length-with_next ns n.prev n.next, node_is) (next_within ns es l x s lt here)

  pub unlink_free : (ns1 ns2 : List Node) → ns1 ≡ with_next ns n.prev n.next → ns2 ≡ with_prev ns1 n.next n.prev → x < length ns2
  unlink_free ns1 ns2 a1 a2 = rw (a2, length-with_prev ns1 n.next n.prev, a1, length-with_next ns n.prev n.next) (number_within ns es h v l hl x s there)

  module _ (e : Ends) (re : e ≡ get_or es l e) (ns1 ns2 : List Node) (e1 e2 : Ends) (a1 : ns1 ≡ with_next ns n.prev n.next) (b1 : e1 ≡ with_first e n.prev n.next)
      (a2 : ns2 ≡ with_prev ns1 n.next n.prev) (b2 : e2 ≡ with_last e1 n.next n.prev) where
    end_is : e ≡ ends_of_list es l
    end_is = re ∙ read_as es l e no_ends lt

    pub unlink_sound : WellLinked (slice_set ns2 x free_node) (slice_set es l e2)
    unlink_sound = rw (a2, b2, a1, b1, node_is, end_is) (sound_left ns es l x s lt here)

    pub unlink_view : view_of (slice_set ns2 x free_node) (slice_set es l e2) ≡ record h { lists = slice_set h.lists l (without x (list_at h l)) }
    unlink_view = rw (a2, b2, a1, b1, node_is, end_is) (λ i. record {
      lists = (lists_left ns es l x s lt here ∙ (λ j. slice_set (v j).lists l (without x (sym (list_is ns es h v l hl) j)))) i;
      size = (length_left ns es l x s lt here ∙ ap (λ (u : HeldLists). u.size) v) i;
    })

-- The calls of `push_last`, over plain values.
module _ (ns : List Node) (es : List Ends) (h : HeldLists) (l x : ℕ) (s : WellLinked ns es) (v : view_of ns es ≡ h) (hl : l < length h.lists) (hx : x < h.size) (free : IsFree h x) where
  abbrev lt_in : l < length es
  lt_in = list_within ns es h v l hl

  x_in : x < length ns
  x_in = subst (λ k. x < k) (ap (λ (u : HeldLists). u.size) (sym v)) hx

  no_home : (node ns x).home ≡ None
  no_home = by (node ns x).home refl
    where
      by : (o : Option ℕ) → (node ns x).home ≡ o → o ≡ None
      by None e = refl
      by (Some k) e =
          let was = s.homes x k e in
          let size : length h.lists ≡ length es = ap (λ (u : HeldLists). length u.lists) (sym v) ∙ length-map es (numbers_of_list ns) in
          let w : k < length h.lists = (let a = was.0 in omega arith) in
          absurd (free k w (subst (In x) (sym (list_is ns es h v k w)) was.1))

  module _ (e : Ends) (re : e ≡ get_or es l e) (ns1 ns2 : List Node) (e1 : Ends)
      (a1 : ns1 ≡ slice_set ns x (record { prev = e.last; next = None; home = Some l })) (a2 : ns2 ≡ with_next ns1 e.last (Some x)) (b2 : e1 ≡ with_first e e.last (Some x)) where
    end_was : e ≡ ends_of_list es l
    end_was = re ∙ read_as es l e no_ends lt_in

    pub push_sound : WellLinked ns2 (slice_set es l (record e1 { last = Some x }))
    push_sound = rw (a2, b2, a1, end_was) (sound_in ns es l x s lt_in x_in no_home)

    pub push_view : view_of ns2 (slice_set es l (record e1 { last = Some x })) ≡ record h { lists = slice_set h.lists l (list_at h l ++ x ∷ []) }
    push_view = rw (a2, b2, a1, end_was) (λ i. record {
      lists = (lists_in ns es l x s lt_in x_in no_home ∙ (λ j. slice_set (v j).lists l (sym (list_is ns es h v l hl) j ++ x ∷ []))) i;
      size = (length_in ns es l x s lt_in x_in no_home ∙ ap (λ (u : HeldLists). u.size) v) i;
    })

  pub push_next : (e : Ends) → e ≡ get_or es l e → (v1 : Node) → IfSome e.last (λ q. q < length (slice_set ns x v1))
  push_next e re v1 = if_some e.last (λ q. q < length (slice_set ns x v1)) (λ q at.
      let last : (ends_of_list es l).last ≡ Some q = ap (λ (u : Ends). u.last) (sym (re ∙ read_as es l e no_ends lt_in)) ∙ at in
      rw (length-set ns x) (each_in (λ u. (u < length ns) × ((node ns u).home ≡ Some l)) (numbers_of_list ns (ends_of_list es l)) q (s.line l lt_in).each
      (last_mine ns es l x s lt_in x_in no_home (numbers_of_list ns (ends_of_list es l)) (ends_of_list es l).first (ends_of_list es l).last q (s.line l lt_in).runs last)).0)

-- what has left isn't there
pub not_there : (x : ℕ) (xs : List ℕ) → Distinct xs → In x xs → In x (without x xs) → ⊥
not_there x xs d i j =
    let cut = in_split x xs i in
    let d' : Distinct (cut.0 ++ (x ∷ cut.1)) = subst Distinct cut.2 d in
    not_it cut.0 x cut.1 x d' (subst (In x) (ap (without x) cut.2 ∙ without_at cut.0 x cut.1 d') j) refl

-- what is taken out of a list isn't in it
pub unlink_gone : (ns : List Node) (es : List Ends) (h new : HeldLists) (l x : ℕ) → WellLinked ns es → view_of ns es ≡ h → l < length h.lists → In x (list_at h l)
    → new ≡ record h { lists = slice_set h.lists l (without x (list_at h l)) } → In x (list_at new l) → ⊥
unlink_gone ns es h new l x s v hl there e i =
    let lt : l < length es = list_within ns es h v l hl in
    let is : list_at h l ≡ numbers_of_list ns (ends_of_list es l) = list_is ns es h v l hl in
    let at : list_at new l ≡ without x (list_at h l) = ap (λ (u : HeldLists). list_at u l) e ∙ get_or-set_same h.lists l (without x (list_at h l)) [] hl in
    not_there x (list_at h l) (subst Distinct (sym is) (s.line l lt).distinct) there (subst (In x) at i)
