-- What a body adds to a membrane comes from the items that are written in it.
use Rattle.std.proofs.Common.{ℕ, zero, suc, inl, inr, ◌+◌, ◌≡◌, ◌≢◌, ◌==◌, Bool, true, false, cond, List, [], ◌∷◌, ◌++◌, refl, sym, ap, subst, map, ◌∙◌, arith, append_assoc}
use Rattle.std.proofs.lemmas.Bool.{cases_eq, eq-eqb}
use Rattle.std.proofs.lemmas.List.{append-nil}
use Rattle.lmn_base.specs.declared.solid.SolidAtom.{SolidAtom}
use Rattle.lmn_solid_bodies.specs.declared.items.BodyItem.{BodyItem}
use Rattle.lmn_solid_bodies.specs.declared.items.BodyItem.TheVariants.{Atom, Connector, Copy, Bound, Membrane, Rest, Rule, Rules}
use Rattle.lmn_solid_bodies.specs.Running.{Registers}
use Rattle.lmn_solid_bodies.specs.Added.{added_mems, added_rules}
use Rattle.lmn_solid_bodies.specs.RestCopies.{RestCopy, RestCopies, later, rest_membranes, copied_membrane, copied_into, given, IsAsLong}
use Rattle.lmn_solid_bodies.specs.Within.{added_with_copies}
use Rattle.lmn_base.specs.Lists.{In}
use Rattle.lmn_base.proofs.Numbers.{not_equal as not_eq}
use Rattle.lmn_store_heap.specs.Lists.{Distinct}
use Rattle.lmn_store_heap.proofs.ListLemmas.{each_in}
use Rattle.lmn_ground_parts.proofs.AnswerLaws.{answer_here, answer_in, answer_on, answer_one}
use Rattle.lmn_solid_bodies.proofs.AddedLemmas.{long_enough}
use Rattle.lmn_solid_bodies.proofs.RestGrowing.{given_none}

-- the membrane of a register
abbrev pub at : Registers → ℕ → ℕ
at s j = s.head.images.membrane j

-- how many membranes items make
abbrev pub many : List BodyItem → ℕ
many [] = 0
many (Atom functor links inside ∷ xs) = many xs
many (Connector left right ∷ xs) = many xs
many (Copy part link inside ∷ xs) = many xs
many (Bound integer link inside ∷ xs) = many xs
many (Membrane inside ∷ xs) = suc (many xs)
many (Rest of closed inside ∷ xs) = many xs
many (Rule rule inside ∷ xs) = many xs
many (Rules of inside ∷ xs) = many xs

-- two bodies make as many membranes as both
pub many_both : (xs ys : List BodyItem) → many (xs ++ ys) ≡ many xs + many ys
many_both [] ys = omega arith
many_both (Atom functor links inside ∷ xs) ys = many_both xs ys
many_both (Connector left right ∷ xs) ys = many_both xs ys
many_both (Copy part link inside ∷ xs) ys = many_both xs ys
many_both (Bound integer link inside ∷ xs) ys = many_both xs ys
many_both (Membrane inside ∷ xs) ys = omega (arith, many_both xs ys)
many_both (Rest of closed inside ∷ xs) ys = many_both xs ys
many_both (Rule rule inside ∷ xs) ys = many_both xs ys
many_both (Rules of inside ∷ xs) ys = many_both xs ys

-- the number of the next copy behind items, the first of them that makes one making number k
abbrev pub past : ℕ → List BodyItem → ℕ
past k [] = k
past k (Atom functor links inside ∷ xs) = past k xs
past k (Connector left right ∷ xs) = past k xs
past k (Copy part link inside ∷ xs) = past (k + 1) xs
past k (Bound integer link inside ∷ xs) = past k xs
past k (Membrane inside ∷ xs) = past k xs
past k (Rest of closed inside ∷ xs) = past k xs
past k (Rule rule inside ∷ xs) = past k xs
past k (Rules of inside ∷ xs) = past k xs

-- the numbers behind two bodies
pub past_both : (k : ℕ) (xs ys : List BodyItem) → past k (xs ++ ys) ≡ past (past k xs) ys
past_both k [] ys = refl
past_both k (Atom functor links inside ∷ xs) ys = past_both k xs ys
past_both k (Connector left right ∷ xs) ys = past_both k xs ys
past_both k (Copy part link inside ∷ xs) ys = past_both (k + 1) xs ys
past_both k (Bound integer link inside ∷ xs) ys = past_both k xs ys
past_both k (Membrane inside ∷ xs) ys = past_both k xs ys
past_both k (Rest of closed inside ∷ xs) ys = past_both k xs ys
past_both k (Rule rule inside ∷ xs) ys = past_both k xs ys
past_both k (Rules of inside ∷ xs) ys = past_both k xs ys

-- ---- copies of rests by their numbers

-- those from number d on
abbrev pub from_copy : RestCopies → ℕ → RestCopies
from_copy q zero = q
from_copy q (suc d) = later (from_copy q d)

-- copy number d
abbrev pub rest_copy : RestCopies → ℕ → RestCopy
rest_copy q d = from_copy q d 0

-- the number of the next copy of a rest behind items
abbrev pub closed_past : ℕ → List BodyItem → ℕ
closed_past d [] = d
closed_past d (Atom functor links inside ∷ xs) = closed_past d xs
closed_past d (Connector left right ∷ xs) = closed_past d xs
closed_past d (Copy part link inside ∷ xs) = closed_past d xs
closed_past d (Bound integer link inside ∷ xs) = closed_past d xs
closed_past d (Membrane inside ∷ xs) = closed_past d xs
closed_past d (Rest of false inside ∷ xs) = closed_past d xs
closed_past d (Rest of true inside ∷ xs) = closed_past (suc d) xs
closed_past d (Rule rule inside ∷ xs) = closed_past d xs
closed_past d (Rules of inside ∷ xs) = closed_past d xs

-- the numbers behind two bodies
pub closed_both : (d : ℕ) (xs ys : List BodyItem) → closed_past d (xs ++ ys) ≡ closed_past (closed_past d xs) ys
closed_both d [] ys = refl
closed_both d (Atom functor links inside ∷ xs) ys = closed_both d xs ys
closed_both d (Connector left right ∷ xs) ys = closed_both d xs ys
closed_both d (Copy part link inside ∷ xs) ys = closed_both d xs ys
closed_both d (Bound integer link inside ∷ xs) ys = closed_both d xs ys
closed_both d (Membrane inside ∷ xs) ys = closed_both d xs ys
closed_both d (Rest of false inside ∷ xs) ys = closed_both d xs ys
closed_both d (Rest of true inside ∷ xs) ys = closed_both (suc d) xs ys
closed_both d (Rule rule inside ∷ xs) ys = closed_both d xs ys
closed_both d (Rules of inside ∷ xs) ys = closed_both d xs ys

-- what holds of each copy of a rest that items make, by its number, that of its membrane in the head, and that of the membrane to
-- which it goes; the next copy has number d
abbrev pub EachRest : (ℕ → ℕ → ℕ → Type 0) → ℕ → List BodyItem → Type 0
EachRest P d [] = Unit {0}
EachRest P d (Atom functor links inside ∷ xs) = EachRest P d xs
EachRest P d (Connector left right ∷ xs) = EachRest P d xs
EachRest P d (Copy part link inside ∷ xs) = EachRest P d xs
EachRest P d (Bound integer link inside ∷ xs) = EachRest P d xs
EachRest P d (Membrane inside ∷ xs) = EachRest P d xs
EachRest P d (Rest of false inside ∷ xs) = EachRest P d xs
EachRest P d (Rest of true inside ∷ xs) = P d of inside × EachRest P (suc d) xs
EachRest P d (Rule rule inside ∷ xs) = EachRest P d xs
EachRest P d (Rules of inside ∷ xs) = EachRest P d xs

-- of items in a row
pub rests_in_row : (P : ℕ → ℕ → ℕ → Type 0) (d : ℕ) (xs ys : List BodyItem) → EachRest P d (xs ++ ys) → EachRest P d xs × EachRest P (closed_past d xs) ys
rests_in_row P d [] ys e = (tt, e)
rests_in_row P d (Atom functor links inside ∷ xs) ys e = rests_in_row P d xs ys e
rests_in_row P d (Connector left right ∷ xs) ys e = rests_in_row P d xs ys e
rests_in_row P d (Copy part link inside ∷ xs) ys e = rests_in_row P d xs ys e
rests_in_row P d (Bound integer link inside ∷ xs) ys e = rests_in_row P d xs ys e
rests_in_row P d (Membrane inside ∷ xs) ys e = rests_in_row P d xs ys e
rests_in_row P d (Rest of false inside ∷ xs) ys e = rests_in_row P d xs ys e
rests_in_row P d (Rest of true inside ∷ xs) ys e = let u = rests_in_row P (suc d) xs ys e.1 in ((e.0, u.0), u.1)
rests_in_row P d (Rule rule inside ∷ xs) ys e = rests_in_row P d xs ys e
rests_in_row P d (Rules of inside ∷ xs) ys e = rests_in_row P d xs ys e

-- of each what follows
pub each_rest : (P Q : ℕ → ℕ → ℕ → Type 0) → ((d of inside : ℕ) → P d of inside → Q d of inside) → (d : ℕ) (xs : List BodyItem) → EachRest P d xs → EachRest Q d xs
each_rest P Q f d [] e = tt
each_rest P Q f d (Atom functor links inside ∷ xs) e = each_rest P Q f d xs e
each_rest P Q f d (Connector left right ∷ xs) e = each_rest P Q f d xs e
each_rest P Q f d (Copy part link inside ∷ xs) e = each_rest P Q f d xs e
each_rest P Q f d (Bound integer link inside ∷ xs) e = each_rest P Q f d xs e
each_rest P Q f d (Membrane inside ∷ xs) e = each_rest P Q f d xs e
each_rest P Q f d (Rest of false inside ∷ xs) e = each_rest P Q f d xs e
each_rest P Q f d (Rest of true inside ∷ xs) e = (f d of inside e.0, each_rest P Q f (suc d) xs e.1)
each_rest P Q f d (Rule rule inside ∷ xs) e = each_rest P Q f d xs e
each_rest P Q f d (Rules of inside ∷ xs) e = each_rest P Q f d xs e

-- of each what follows from two facts
pub each_rest_of : (P Q R : ℕ → ℕ → ℕ → Type 0) → ((d of inside : ℕ) → P d of inside → Q d of inside → R d of inside) → (d : ℕ) (xs : List BodyItem) → EachRest P d xs → EachRest Q d xs → EachRest R d xs
each_rest_of P Q R f d [] a b = tt
each_rest_of P Q R f d (Atom functor links inside ∷ xs) a b = each_rest_of P Q R f d xs a b
each_rest_of P Q R f d (Connector left right ∷ xs) a b = each_rest_of P Q R f d xs a b
each_rest_of P Q R f d (Copy part link inside ∷ xs) a b = each_rest_of P Q R f d xs a b
each_rest_of P Q R f d (Bound integer link inside ∷ xs) a b = each_rest_of P Q R f d xs a b
each_rest_of P Q R f d (Membrane inside ∷ xs) a b = each_rest_of P Q R f d xs a b
each_rest_of P Q R f d (Rest of false inside ∷ xs) a b = each_rest_of P Q R f d xs a b
each_rest_of P Q R f d (Rest of true inside ∷ xs) a b = (f d of inside a.0 b.0, each_rest_of P Q R f (suc d) xs a.1 b.1)
each_rest_of P Q R f d (Rule rule inside ∷ xs) a b = each_rest_of P Q R f d xs a b
each_rest_of P Q R f d (Rules of inside ∷ xs) a b = each_rest_of P Q R f d xs a b

-- ---- where items are written

-- the membrane in which an item is written isn't this one
abbrev pub Elsewhere : Registers → ℕ → BodyItem → Type 0
Elsewhere s x (Atom functor links inside) = at s inside ≢ x
Elsewhere s x (Connector left right) = Unit {0}
Elsewhere s x (Copy part link inside) = at s inside ≢ x
Elsewhere s x (Bound integer link inside) = at s inside ≢ x
Elsewhere s x (Membrane inside) = at s inside ≢ x
Elsewhere s x (Rest of closed inside) = at s inside ≢ x
Elsewhere s x (Rule rule inside) = at s inside ≢ x
Elsewhere s x (Rules of inside) = at s inside ≢ x

-- nothing of this is written in the membrane
abbrev pub Misses : Registers → ℕ → List BodyItem → Type 0
Misses s x [] = Unit {0}
Misses s x (i ∷ is) = Elsewhere s x i × Misses s x is

-- a membrane that two bodies miss is missed by both
pub misses_both : (s : Registers) (x : ℕ) (xs ys : List BodyItem) → Misses s x xs → Misses s x ys → Misses s x (xs ++ ys)
misses_both s x [] ys a b = b
misses_both s x (i ∷ is) ys a b = (a.0, misses_both s x is ys a.1 b)

-- the membrane is none of the copy, which is as long as its rest
abbrev pub Away : Registers → RestCopies → ℕ → ℕ → ℕ → ℕ → Type 0
Away s q x d of inside = IsAsLong s of (rest_copy q d) × (In x (rest_copy q d).membranes → ⊥)

-- What items add to a membrane, where the next copy of a rest has a number, the next membrane a register and the next copy of a part a
-- number: it comes from the items one after another, and items that are written elsewhere add nothing.
--   rest     what a copy of a rest adds
pub record Adder (s : Registers) (q : RestCopies) (X : Type 0) : Type 0 where
  pub adds : ℕ → ℕ → ℕ → List BodyItem → ℕ → List X
  pub rest : ℕ → ℕ → RestCopy → ℕ → List X
  pub both : (d n k : ℕ) (xs ys : List BodyItem) (x : ℕ) → adds d n k (xs ++ ys) x ≡ adds d n k xs x ++ adds (closed_past d xs) (n + many xs) (past k xs) ys x
  pub missed : (d n k : ℕ) (xs : List BodyItem) (x : ℕ) → Misses s x xs → EachRest (Away s q x) d xs → adds d n k xs x ≡ []
  pub rest_first : (d n k of inside : ℕ) (xs : List BodyItem) (x : ℕ) → adds d n k (Rest of true inside ∷ xs) x ≡ rest of inside (rest_copy q d) x ++ adds (suc d) n k xs x
  pub rest_missed : (d of inside x : ℕ) → at s inside ≢ x → Away s q x d of inside → rest of inside (rest_copy q d) x ≡ []

-- one choice more
more : {X : Type 0} (b : Bool) (as' bs cs ds : List X) → bs ≡ cs ++ ds → cond b as' [] ++ bs ≡ (cond b as' [] ++ cs) ++ ds
more true as' bs cs ds e = ap (λ z. as' ++ z) e ∙ sym (append_assoc as' cs ds)
more false as' bs cs ds e = e

-- a choice that isn't taken
missing : {X : Type 0} (a x : ℕ) (as' bs : List X) → a ≢ x → bs ≡ [] → cond (a == x) as' [] ++ bs ≡ []
missing a x as' bs d e = rw (not_eq a x d) e

-- a choice that is
pub here_is : {X : Type 0} (x : ℕ) (as' bs : List X) → cond (x == x) as' [] ++ bs ≡ as' ++ bs
here_is x as' bs = rw (eq-eqb x x refl) refl

-- ---- what copies of rests give

-- the list of one, where this one alone gives to the membrane
pub given_one : (list : ℕ → List ℕ) (to : ℕ → ℕ) (ks : List ℕ) (x k0 : ℕ) → Distinct ks → In k0 ks → to k0 ≡ x → ((k : ℕ) → In k ks → to k ≡ x → k ≡ k0) → given list to ks x ≡ list k0
given_one list to [] x k0 d i e one = absurd i
given_one list to (k ∷ ks) x k0 d (inl g) e one =
    let others = given_none list to ks x (λ j i f. each_in (λ y. k ≢ y) ks j d.0 i (g ∙ sym (one j (inr i) f))) in
    ap (λ z. cond (to k == x) (list k) [] ++ z) others ∙ rw (eq-eqb (to k) x (ap to g ∙ e)) (append-nil (list k) ∙ ap list g)
given_one list to (k ∷ ks) x k0 d (inr i) e one =
    let off : to k ≢ x = λ f. each_in (λ y. k ≢ y) ks k0 d.0 i (one k (inl refl) f) in
    rw (not_eq (to k) x off) (given_one list to ks x k0 d.1 i e (λ j l f. one j (inr l) f))

module _ (s : Registers) (of inside : ℕ) (p : RestCopy) (long : IsAsLong s of p) where
  abbrev into : ℕ → ℕ
  into = copied_into s of inside p

  -- a membrane of the rest is copied to a new one
  pub into_inner : (k : ℕ) → In k (s.left_membranes of) → (In (at s of) (s.left_membranes of) → ⊥) → into k ≡ copied_membrane s of p k
  into_inner k i outside = answer_on (at s of) (at s inside) (s.left_membranes of) p.membranes k (λ e. outside (subst (λ z. In z (s.left_membranes of)) (sym e) i))

  -- that of the context to the one in which the copy is written
  pub into_own : into (at s of) ≡ at s inside
  into_own = answer_here (at s of) (at s inside) (s.left_membranes of) p.membranes (at s of) refl

  pub copy_in : (k : ℕ) → In k (s.left_membranes of) → In (copied_membrane s of p k) p.membranes
  copy_in k i = answer_in (s.left_membranes of) p.membranes k (long_enough long.1) i

  into_new : (x k : ℕ) → at s inside ≢ x → (In x p.membranes → ⊥) → In k (s.left_membranes of) → into k ≢ x
  into_new x k d o i e = elim (cases_eq (at s of) k) [
    | inl g ↦ d (sym (answer_here (at s of) (at s inside) (s.left_membranes of) p.membranes k g) ∙ e)
    | inr g ↦ o (subst (λ z. In z p.membranes) (sym (answer_on (at s of) (at s inside) (s.left_membranes of) p.membranes k g) ∙ e) (copy_in k i))
  ]

  -- elsewhere a copy gives nothing
  pub gives_none : (list : ℕ → List ℕ) (x : ℕ) → at s inside ≢ x → (In x p.membranes → ⊥) → given list into (rest_membranes s of) x ≡ []
  gives_none list x d o = given_none list into (rest_membranes s of) x (λ k i. elim i [ inl g ↦ (λ e. d (sym (answer_here (at s of) (at s inside) (s.left_membranes of) p.membranes k g) ∙ e)) | inr j ↦ into_new x k d o j ])

  -- and no rules, since those of the membrane of the context stay
  pub gives_none_inner : (list : ℕ → List ℕ) (x : ℕ) → at s inside ≢ x → (In x p.membranes → ⊥) → given list into (s.left_membranes of) x ≡ []
  gives_none_inner list x d o = given_none list into (s.left_membranes of) x (λ k j. into_new x k d o j)

  module _ (outside : In (at s of) (s.left_membranes of) → ⊥) (apart : In (at s inside) p.membranes → ⊥) where
    -- and from the membranes of the rest nothing
    pub gives_own_inner : (list : ℕ → List ℕ) → given list into (s.left_membranes of) (at s inside) ≡ []
    gives_own_inner list = given_none list into (s.left_membranes of) (at s inside) (λ k i e. apart (subst (λ z. In z p.membranes) (sym (into_inner k i outside) ∙ e) (copy_in k i)))

    -- where it is written it gives what stands in the membrane of the context
    pub gives_own : (list : ℕ → List ℕ) → given list into (rest_membranes s of) (at s inside) ≡ list (at s of)
    gives_own list = ap (λ z. cond (into (at s of) == at s inside) (list (at s of)) [] ++ z) (gives_own_inner list) ∙ rw (eq-eqb (into (at s of)) (at s inside) into_own) (append-nil (list (at s of)))

    module _ (once : Distinct (s.left_membranes of)) (made_once : Distinct p.membranes) (k : ℕ) (i : In k (s.left_membranes of)) where
      abbrev y : ℕ
      y = copied_membrane s of p k

      only : (j : ℕ) → In j (s.left_membranes of) → into j ≡ copied_membrane s of p k → j ≡ k
      only j l e = answer_one (s.left_membranes of) p.membranes j k (long_enough long.1) made_once l i (sym (into_inner j l outside) ∙ e)

      -- and a copied membrane gets what stands in its original
      pub gives_inner : (list : ℕ → List ℕ) → given list into (s.left_membranes of) (copied_membrane s of p k) ≡ list k
      gives_inner list = given_one list into (s.left_membranes of) y k once i (into_inner k i outside) only

      pub gives_copied : (list : ℕ → List ℕ) → given list into (rest_membranes s of) (copied_membrane s of p k) ≡ list k
      gives_copied list =
          let off : into (at s of) ≢ y = λ e. apart (subst (λ z. In z p.membranes) (sym e ∙ into_own) (copy_in k i)) in
          rw (not_eq (into (at s of)) y off) (gives_inner list)

-- ---- atoms of the solid, membranes and rules

-- what items add to a membrane, the next copies with their numbers: to its atoms in the solid,
abbrev pub solid_adds : Registers → RestCopies → (ℕ → List SolidAtom) → (ℕ → List SolidAtom) → (ℕ → ℕ → RestCopy → ℕ → List SolidAtom) → (ℕ → ℕ) → ℕ → ℕ → List BodyItem → ℕ → List SolidAtom
solid_adds s q left copy rest g d k xs x = added_with_copies s (from_copy q d) left copy rest g k xs x

-- to its membranes,
abbrev pub mems_adds : Registers → RestCopies → (ℕ → List ℕ) → ℕ → ℕ → List BodyItem → ℕ → List ℕ
mems_adds s q left d n xs x = added_mems s (from_copy q d) left n xs x

-- and to its rules
abbrev pub rules_adds : Registers → RestCopies → (ℕ → List ℕ) → ℕ → List BodyItem → ℕ → List ℕ
rules_adds s q rules d xs x = added_rules s (from_copy q d) rules xs x

-- the copied membranes that a copy of a rest gives to a membrane
abbrev pub rest_mems : Registers → (ℕ → List ℕ) → ℕ → ℕ → RestCopy → ℕ → List ℕ
rest_mems s left of inside p x = given (λ k. map (copied_membrane s of p) (left k)) (copied_into s of inside p) (rest_membranes s of) x

-- and the rules
abbrev pub rest_rules : Registers → (ℕ → List ℕ) → ℕ → ℕ → RestCopy → ℕ → List ℕ
rest_rules s rules of inside p x = given rules (copied_into s of inside p) (s.left_membranes of) x

module _ (s : Registers) (q : RestCopies) (left copy : ℕ → List SolidAtom) (rest : ℕ → ℕ → RestCopy → ℕ → List SolidAtom) (g : ℕ → ℕ)
    (rest_none : (d of inside x : ℕ) → at s inside ≢ x → Away s q x d of inside → rest of inside (rest_copy q d) x ≡ []) where
  pub solid_both : (d k : ℕ) (xs ys : List BodyItem) (x : ℕ) → solid_adds s q left copy rest g d k (xs ++ ys) x ≡ solid_adds s q left copy rest g d k xs x ++ solid_adds s q left copy rest g (closed_past d xs) (past k xs) ys x
  solid_both d k [] ys x = refl
  solid_both d k (Atom functor links inside ∷ xs) ys x = more (at s inside == x) _ _ _ _ (solid_both d k xs ys x)
  solid_both d k (Connector left right ∷ xs) ys x = solid_both d k xs ys x
  solid_both d k (Copy part link inside ∷ xs) ys x = more (at s inside == x) _ _ _ _ (solid_both d (k + 1) xs ys x)
  solid_both d k (Bound integer link inside ∷ xs) ys x = more (at s inside == x) _ _ _ _ (solid_both d k xs ys x)
  solid_both d k (Membrane inside ∷ xs) ys x = solid_both d k xs ys x
  solid_both d k (Rest of false inside ∷ xs) ys x = more (at s inside == x) _ _ _ _ (solid_both d k xs ys x)
  solid_both d k (Rest of true inside ∷ xs) ys x = more true (rest of inside (rest_copy q d) x) _ _ _ (solid_both (suc d) k xs ys x)
  solid_both d k (Rule rule inside ∷ xs) ys x = solid_both d k xs ys x
  solid_both d k (Rules of inside ∷ xs) ys x = solid_both d k xs ys x

  pub solid_missed : (d k : ℕ) (xs : List BodyItem) (x : ℕ) → Misses s x xs → EachRest (Away s q x) d xs → solid_adds s q left copy rest g d k xs x ≡ []
  solid_missed d k [] x m a = refl
  solid_missed d k (Atom functor links inside ∷ xs) x m a = missing (at s inside) x _ _ m.0 (solid_missed d k xs x m.1 a)
  solid_missed d k (Connector left right ∷ xs) x m a = solid_missed d k xs x m.1 a
  solid_missed d k (Copy part link inside ∷ xs) x m a = missing (at s inside) x _ _ m.0 (solid_missed d (k + 1) xs x m.1 a)
  solid_missed d k (Bound integer link inside ∷ xs) x m a = missing (at s inside) x _ _ m.0 (solid_missed d k xs x m.1 a)
  solid_missed d k (Membrane inside ∷ xs) x m a = solid_missed d k xs x m.1 a
  solid_missed d k (Rest of false inside ∷ xs) x m a = missing (at s inside) x _ _ m.0 (solid_missed d k xs x m.1 a)
  solid_missed d k (Rest of true inside ∷ xs) x m a = ap (λ z. z ++ solid_adds s q left copy rest g (suc d) k xs x) (rest_none d of inside x m.0 a.0) ∙ solid_missed (suc d) k xs x m.1 a.1
  solid_missed d k (Rule rule inside ∷ xs) x m a = solid_missed d k xs x m.1 a
  solid_missed d k (Rules of inside ∷ xs) x m a = solid_missed d k xs x m.1 a

  -- the atoms of the solid
  abbrev pub atoms_adder : Adder s q SolidAtom
  atoms_adder = record {
    adds = λ d n k xs x. solid_adds s q left copy rest g d k xs x;
    rest = rest;
    both = λ d n k xs ys x. solid_both d k xs ys x;
    missed = λ d n k xs x m a. solid_missed d k xs x m a;
    rest_first = λ d n k of inside xs x. refl;
    rest_missed = rest_none;
  }

module _ (s : Registers) (q : RestCopies) (left : ℕ → List ℕ) where
  pub mems_both : (d n : ℕ) (xs ys : List BodyItem) (x : ℕ) → mems_adds s q left d n (xs ++ ys) x ≡ mems_adds s q left d n xs x ++ mems_adds s q left (closed_past d xs) (n + many xs) ys x
  mems_both d n [] ys x = subst (λ z. mems_adds s q left d n ys x ≡ mems_adds s q left d z ys x) (omega arith) refl
  mems_both d n (Atom functor links inside ∷ xs) ys x = mems_both d n xs ys x
  mems_both d n (Connector left right ∷ xs) ys x = mems_both d n xs ys x
  mems_both d n (Copy part link inside ∷ xs) ys x = mems_both d n xs ys x
  mems_both d n (Bound integer link inside ∷ xs) ys x = mems_both d n xs ys x
  mems_both d n (Membrane inside ∷ xs) ys x =
      let z : (n + 1) + many xs ≡ n + suc (many xs) = omega arith in
      more (at s inside == x) _ _ _ _ (mems_both d (n + 1) xs ys x ∙ ap (λ k. mems_adds s q left d (n + 1) xs x ++ mems_adds s q left (closed_past d xs) k ys x) z)
  mems_both d n (Rest of false inside ∷ xs) ys x = more (at s inside == x) _ _ _ _ (mems_both d n xs ys x)
  mems_both d n (Rest of true inside ∷ xs) ys x = more true (rest_mems s left of inside (rest_copy q d) x) _ _ _ (mems_both (suc d) n xs ys x)
  mems_both d n (Rule rule inside ∷ xs) ys x = mems_both d n xs ys x
  mems_both d n (Rules of inside ∷ xs) ys x = mems_both d n xs ys x

  pub mems_rest_none : (d of inside x : ℕ) → at s inside ≢ x → Away s q x d of inside → rest_mems s left of inside (rest_copy q d) x ≡ []
  mems_rest_none d of inside x m a = gives_none s of inside (rest_copy q d) a.0 (λ k. map (copied_membrane s of (rest_copy q d)) (left k)) x m a.1

  pub mems_missed : (d n : ℕ) (xs : List BodyItem) (x : ℕ) → Misses s x xs → EachRest (Away s q x) d xs → mems_adds s q left d n xs x ≡ []
  mems_missed d n [] x m a = refl
  mems_missed d n (Atom functor links inside ∷ xs) x m a = mems_missed d n xs x m.1 a
  mems_missed d n (Connector left right ∷ xs) x m a = mems_missed d n xs x m.1 a
  mems_missed d n (Copy part link inside ∷ xs) x m a = mems_missed d n xs x m.1 a
  mems_missed d n (Bound integer link inside ∷ xs) x m a = mems_missed d n xs x m.1 a
  mems_missed d n (Membrane inside ∷ xs) x m a = missing (at s inside) x _ _ m.0 (mems_missed d (n + 1) xs x m.1 a)
  mems_missed d n (Rest of false inside ∷ xs) x m a = missing (at s inside) x _ _ m.0 (mems_missed d n xs x m.1 a)
  mems_missed d n (Rest of true inside ∷ xs) x m a = ap (λ z. z ++ mems_adds s q left (suc d) n xs x) (mems_rest_none d of inside x m.0 a.0) ∙ mems_missed (suc d) n xs x m.1 a.1
  mems_missed d n (Rule rule inside ∷ xs) x m a = mems_missed d n xs x m.1 a
  mems_missed d n (Rules of inside ∷ xs) x m a = mems_missed d n xs x m.1 a

  -- the membranes
  abbrev pub mems_adder : Adder s q ℕ
  mems_adder = record {
    adds = λ d n k xs x. mems_adds s q left d n xs x;
    rest = λ of inside p x. rest_mems s left of inside p x;
    both = λ d n k xs ys x. mems_both d n xs ys x;
    missed = λ d n k xs x m a. mems_missed d n xs x m a;
    rest_first = λ d n k of inside xs x. refl;
    rest_missed = mems_rest_none;
  }

module _ (s : Registers) (q : RestCopies) (rules : ℕ → List ℕ) where
  pub rules_both : (d : ℕ) (xs ys : List BodyItem) (x : ℕ) → rules_adds s q rules d (xs ++ ys) x ≡ rules_adds s q rules d xs x ++ rules_adds s q rules (closed_past d xs) ys x
  rules_both d [] ys x = refl
  rules_both d (Atom functor links inside ∷ xs) ys x = rules_both d xs ys x
  rules_both d (Connector left right ∷ xs) ys x = rules_both d xs ys x
  rules_both d (Copy part link inside ∷ xs) ys x = rules_both d xs ys x
  rules_both d (Bound integer link inside ∷ xs) ys x = rules_both d xs ys x
  rules_both d (Membrane inside ∷ xs) ys x = rules_both d xs ys x
  rules_both d (Rest of false inside ∷ xs) ys x = rules_both d xs ys x
  rules_both d (Rest of true inside ∷ xs) ys x = more true (rest_rules s rules of inside (rest_copy q d) x) _ _ _ (rules_both (suc d) xs ys x)
  rules_both d (Rule rule inside ∷ xs) ys x = more (at s inside == x) _ _ _ _ (rules_both d xs ys x)
  rules_both d (Rules of inside ∷ xs) ys x = more (at s inside == x) _ _ _ _ (rules_both d xs ys x)

  pub rules_rest_none : (d of inside x : ℕ) → at s inside ≢ x → Away s q x d of inside → rest_rules s rules of inside (rest_copy q d) x ≡ []
  rules_rest_none d of inside x m a = gives_none_inner s of inside (rest_copy q d) a.0 rules x m a.1

  pub rules_missed : (d : ℕ) (xs : List BodyItem) (x : ℕ) → Misses s x xs → EachRest (Away s q x) d xs → rules_adds s q rules d xs x ≡ []
  rules_missed d [] x m a = refl
  rules_missed d (Atom functor links inside ∷ xs) x m a = rules_missed d xs x m.1 a
  rules_missed d (Connector left right ∷ xs) x m a = rules_missed d xs x m.1 a
  rules_missed d (Copy part link inside ∷ xs) x m a = rules_missed d xs x m.1 a
  rules_missed d (Bound integer link inside ∷ xs) x m a = rules_missed d xs x m.1 a
  rules_missed d (Membrane inside ∷ xs) x m a = rules_missed d xs x m.1 a
  rules_missed d (Rest of false inside ∷ xs) x m a = rules_missed d xs x m.1 a
  rules_missed d (Rest of true inside ∷ xs) x m a = ap (λ z. z ++ rules_adds s q rules (suc d) xs x) (rules_rest_none d of inside x m.0 a.0) ∙ rules_missed (suc d) xs x m.1 a.1
  rules_missed d (Rule rule inside ∷ xs) x m a = missing (at s inside) x _ _ m.0 (rules_missed d xs x m.1 a)
  rules_missed d (Rules of inside ∷ xs) x m a = missing (at s inside) x _ _ m.0 (rules_missed d xs x m.1 a)

  -- the rules
  abbrev pub rules_adder : Adder s q ℕ
  rules_adder = record {
    adds = λ d n k xs x. rules_adds s q rules d xs x;
    rest = λ of inside p x. rest_rules s rules of inside p x;
    both = λ d n k xs ys x. rules_both d xs ys x;
    missed = λ d n k xs x m a. rules_missed d xs x m a;
    rest_first = λ d n k of inside xs x. refl;
    rest_missed = rules_rest_none;
  }
