-- Registers and copies of rests that agree on the items of a body, but for numbers, and what a body then adds.
use Rattle.std.proofs.Common.{◌≡◌, ◌∙◌, ◌+◌, ◌<◌, ◌==◌, ℕ, suc, Bool, true, false, if◌then◌else◌, List, [], ◌∷◌, ◌++◌, length, map, refl, sym, ap, subst, inl, inr, arith, length-append}
use Rattle.lmn_base.specs.Lists.{In}
use Rattle.lmn_base.proofs.Lists.{head_is, join_maps, length_mapped, map_append, map_itself, tail_is}
use Rattle.lmn_base.proofs.Numbers.{below_next2}
use Rattle.lmn_congruence_splice.specs.Splice.{IsOneOf}
use Rattle.lmn_ground_parts.specs.Copies.{answer}
use Rattle.lmn_solid_bodies.specs.declared.items.BodyItem.{BodyItem}
use Rattle.lmn_solid_bodies.specs.declared.items.BodyItem.TheVariants.{Atom, Bound, Connector, Copy, Membrane, Rest, Rule, Rules}
use Rattle.lmn_solid_bodies.specs.Added.{added_atoms, added_mems, added_rules, if_inside, made_mems}
use Rattle.lmn_solid_bodies.specs.Made.{copies_of, new_atoms}
use Rattle.lmn_solid_bodies.specs.RestCopies.{AreAsLong, IsAsLong, RestCopies, RestCopy, copied_atom, copied_into, copied_membrane, given, later, rest_membranes}
use Rattle.lmn_solid_bodies.specs.Rules.{IsHeadMembrane, StandsIn, WellPlaced, closed_rests}
use Rattle.lmn_solid_bodies.specs.Running.{Registers}
use Rattle.lmn_solid_bodies.proofs.AddedLemmas.{AreWholeRests, long_enough}
use Rattle.lmn_verify_renaming.specs.Renamed.{Renaming}
use Rattle.lmn_lexer.proofs.Determined.{same_front}
use Rattle.lmn_verify_renaming.proofs.Numbers.{kept_test}
use Rattle.lmn_verify_renaming.proofs.Mapped.{answer_there, given_there}

-- ---- lengths

-- bodies make as many atoms, and as many membranes, where their copies are as long
pub long_atoms : (r s : Registers) (q t : RestCopies) (a c : ℕ) (body : List BodyItem) → ((e : ℕ × ℕ) → IsOneOf e (copies_of c body) → length (s.copied e.0) ≡ length (r.copied e.0))
    → ((of : ℕ) → IsOneOf of (closed_rests body) → length (s.left_atoms of) ≡ length (r.left_atoms of)) → AreAsLong r q body → AreAsLong s t body
    → length (new_atoms r q a c body) ≡ length (new_atoms s t a c body)
long_atoms r s q t a c [] copies left lr ls = refl
long_atoms r s q t a c (Atom functor links inside ∷ xs) copies left lr ls = ap suc (long_atoms r s q t (a + 1) c xs copies left lr ls)
long_atoms r s q t a c (Bound integer link inside ∷ xs) copies left lr ls = ap suc (long_atoms r s q t (a + 1) c xs copies left lr ls)
long_atoms r s q t a c (Connector l l' ∷ xs) copies left lr ls = long_atoms r s q t a c xs copies left lr ls
long_atoms r s q t a c (Copy part link inside ∷ xs) copies left lr ls =
    length-append (r.copied c) (new_atoms r q a (c + 1) xs)
    ∙ (λ i. sym (copies (c, part) (inl refl)) i + long_atoms r s q t a (c + 1) xs (λ e j. copies e (inr j)) left lr ls i)
    ∙ sym (length-append (s.copied c) (new_atoms s t a (c + 1) xs))
long_atoms r s q t a c (Membrane inside ∷ xs) copies left lr ls = long_atoms r s q t a c xs copies left lr ls
long_atoms r s q t a c (Rest of false inside ∷ xs) copies left lr ls = long_atoms r s q t a c xs copies left lr ls
long_atoms r s q t a c (Rest of true inside ∷ xs) copies left lr ls =
    length-append (q 0).atoms (new_atoms r (later q) a c xs)
    ∙ (λ i. (lr.0.0 ∙ sym (left of (inl refl)) ∙ sym ls.0.0) i + long_atoms r s (later q) (later t) a c xs copies (λ o j. left o (inr j)) lr.1 ls.1 i)
    ∙ sym (length-append (t 0).atoms (new_atoms s (later t) a c xs))
long_atoms r s q t a c (Rule rule inside ∷ xs) copies left lr ls = long_atoms r s q t a c xs copies left lr ls
long_atoms r s q t a c (Rules of inside ∷ xs) copies left lr ls = long_atoms r s q t a c xs copies left lr ls

pub long_mems : (r s : Registers) (q t : RestCopies) (m : ℕ) (body : List BodyItem) → ((of : ℕ) → IsOneOf of (closed_rests body) → length (s.left_membranes of) ≡ length (r.left_membranes of))
    → AreAsLong r q body → AreAsLong s t body → length (made_mems r q m body) ≡ length (made_mems s t m body)
long_mems r s q t m [] left lr ls = refl
long_mems r s q t m (Atom functor links inside ∷ xs) left lr ls = long_mems r s q t m xs left lr ls
long_mems r s q t m (Bound integer link inside ∷ xs) left lr ls = long_mems r s q t m xs left lr ls
long_mems r s q t m (Connector l l' ∷ xs) left lr ls = long_mems r s q t m xs left lr ls
long_mems r s q t m (Copy part link inside ∷ xs) left lr ls = long_mems r s q t m xs left lr ls
long_mems r s q t m (Membrane inside ∷ xs) left lr ls = ap suc (long_mems r s q t (m + 1) xs left lr ls)
long_mems r s q t m (Rest of false inside ∷ xs) left lr ls = long_mems r s q t m xs left lr ls
long_mems r s q t m (Rest of true inside ∷ xs) left lr ls =
    length-append (q 0).membranes (made_mems r (later q) m xs)
    ∙ (λ i. (lr.0.1 ∙ sym (left of (inl refl)) ∙ sym ls.0.1) i + long_mems r s (later q) (later t) m xs (λ o j. left o (inr j)) lr.1 ls.1 i)
    ∙ sym (length-append (t 0).membranes (made_mems s (later t) m xs))
long_mems r s q t m (Rule rule inside ∷ xs) left lr ls = long_mems r s q t m xs left lr ls
long_mems r s q t m (Rules of inside ∷ xs) left lr ls = long_mems r s q t m xs left lr ls

-- ---- what agrees

module _ (p : Renaming) (r s : Registers) where
  abbrev A : ℕ → ℕ
  A = p.atoms.to

  abbrev M : ℕ → ℕ
  M = p.mems.to

  -- a register of membranes
  abbrev pub At : ℕ → Type 0
  At j = s.head.images.membrane j ≡ M (r.head.images.membrane j)

  -- a rest and its copy
  pub record RestAgrees (of : ℕ) (u v : RestCopy) : Type 0 where
    pub left_atoms : s.left_atoms of ≡ map A (r.left_atoms of)
    pub left_membranes : s.left_membranes of ≡ map M (r.left_membranes of)
    pub atoms : v.atoms ≡ map A u.atoms
    pub membranes : v.membranes ≡ map M u.membranes
    pub long : IsAsLong r of u

  -- The next atom has the register a, the next copy c, the next membrane m; q and t are the copies of rests.
  abbrev pub Agree : RestCopies → RestCopies → ℕ → ℕ → ℕ → List BodyItem → Type 0
  Agree q t a c m [] = Unit {0}
  Agree q t a c m (Atom functor links inside ∷ xs) = (s.head.images.atom a ≡ A (r.head.images.atom a)) × At inside × Agree q t (a + 1) c m xs
  Agree q t a c m (Bound integer link inside ∷ xs) = (s.head.images.atom a ≡ A (r.head.images.atom a)) × At inside × Agree q t (a + 1) c m xs
  Agree q t a c m (Connector l l' ∷ xs) = Agree q t a c m xs
  Agree q t a c m (Copy part link inside ∷ xs) = (s.copied c ≡ map A (r.copied c)) × At inside × Agree q t a (c + 1) m xs
  Agree q t a c m (Membrane inside ∷ xs) = At m × At inside × Agree q t a c (m + 1) xs
  Agree q t a c m (Rest of false inside ∷ xs) = At of × At inside × Agree q t a c m xs
  Agree q t a c m (Rest of true inside ∷ xs) = At of × At inside × RestAgrees of (q 0) (t 0) × Agree (later q) (later t) a c m xs
  Agree q t a c m (Rule rule inside ∷ xs) = At inside × Agree q t a c m xs
  Agree q t a c m (Rules of inside ∷ xs) = At of × At inside × Agree q t a c m xs

  -- What is made agrees where the lists of all that is made do.
  pub agree : (q t : RestCopies) (a c k m : ℕ) (body : List BodyItem) → map A (new_atoms r q a c body) ≡ new_atoms s t a c body → map M (made_mems r q m body) ≡ made_mems s t m body
      → ((e : ℕ × ℕ) → IsOneOf e (copies_of c body) → length (s.copied e.0) ≡ length (r.copied e.0)) → AreAsLong r q body → AreAsLong s t body
      → ((of : ℕ) → IsOneOf of (closed_rests body) → (s.left_atoms of ≡ map A (r.left_atoms of)) × (s.left_membranes of ≡ map M (r.left_membranes of)))
      → ((j : ℕ) → StandsIn k m j → At j) → ((j : ℕ) → IsHeadMembrane k j → At j) → k < m → WellPlaced k m body → Agree q t a c m body
  agree q t a c k m [] ea em copies lr ls left at old below w = tt
  agree q t a c k m (Atom functor links inside ∷ xs) ea em copies lr ls left at old below w =
      (sym (head_is ea), at inside w.0, agree q t (a + 1) c k m xs (tail_is ea) em copies lr ls left at old below w.1)
  agree q t a c k m (Bound integer link inside ∷ xs) ea em copies lr ls left at old below w =
      (sym (head_is ea), at inside w.0, agree q t (a + 1) c k m xs (tail_is ea) em copies lr ls left at old below w.1)
  agree q t a c k m (Connector l l' ∷ xs) ea em copies lr ls left at old below w = agree q t a c k m xs ea em copies lr ls left at old below w
  agree q t a c k m (Copy part link inside ∷ xs) ea em copies lr ls left at old below w =
      let e = same_front {xs = map A (r.copied c)} {ys = map A (new_atoms r q a (c + 1) xs)} {us = s.copied c} {vs = new_atoms s t a (c + 1) xs} (sym (map_append A (r.copied c) (new_atoms r q a (c + 1) xs)) ∙ ea) (length_mapped A (r.copied c) ∙ sym (copies (c, part) (inl refl))) in
      (sym e.0, at inside w.0, agree q t a (c + 1) k m xs e.1 em (λ x j. copies x (inr j)) lr ls left at old below w.1)
  agree q t a c k m (Membrane inside ∷ xs) ea em copies lr ls left at old below w =
      let here : At m = sym (head_is em) in
      let more : (j : ℕ) → StandsIn k (m + 1) j → At j = λ j i. elim i [
        | inl e ↦ at j (inl e)
        | inr l ↦ elim (below_next2 j m l.1) [ inl b ↦ at j (inr (l.0, b)) | inr e ↦ subst At (sym e) here ]
      ] in
      (here, at inside w.0, agree q t a c k (m + 1) xs ea (tail_is em) copies lr ls left more old (omega (arith, below)) w.1)
  agree q t a c k m (Rest of false inside ∷ xs) ea em copies lr ls left at old below w =
      (old of w.0, at inside w.2, agree q t a c k m xs ea em copies lr ls left at old below w.3)
  agree q t a c k m (Rest of true inside ∷ xs) ea em copies lr ls left at old below w =
      let l = left of (inl refl) in
      let ia = same_front {xs = map A (q 0).atoms} {ys = map A (new_atoms r (later q) a c xs)} {us = (t 0).atoms} {vs = new_atoms s (later t) a c xs} (sym (map_append A (q 0).atoms (new_atoms r (later q) a c xs)) ∙ ea) (length_mapped A (q 0).atoms ∙ lr.0.0 ∙ sym (ls.0.0 ∙ ap (λ zs. length zs) l.0 ∙ length_mapped A (r.left_atoms of))) in
      let im = same_front {xs = map M (q 0).membranes} {ys = map M (made_mems r (later q) m xs)} {us = (t 0).membranes} {vs = made_mems s (later t) m xs} (sym (map_append M (q 0).membranes (made_mems r (later q) m xs)) ∙ em) (length_mapped M (q 0).membranes ∙ lr.0.1 ∙ sym (ls.0.1 ∙ ap (λ zs. length zs) l.1 ∙ length_mapped M (r.left_membranes of))) in (
        old of w.0,
        at inside w.1,
        record { left_atoms = l.0; left_membranes = l.1; atoms = sym ia.0; membranes = sym im.0; long = lr.0 },
        agree (later q) (later t) a c k m xs ia.1 im.1 copies lr.1 ls.1 (λ o j. left o (inr j)) at old below w.2,
      )
  agree q t a c k m (Rule rule inside ∷ xs) ea em copies lr ls left at old below w = (at inside w.0, agree q t a c k m xs ea em copies lr ls left at old below w.1)
  agree q t a c k m (Rules of inside ∷ xs) ea em copies lr ls left at old below w = (old of w.0, at inside w.1, agree q t a c k m xs ea em copies lr ls left at old below w.2)

  -- the copies of parts agree
  pub copied_agrees : (q t : RestCopies) (a c m : ℕ) (body : List BodyItem) → Agree q t a c m body → (e : ℕ × ℕ) → IsOneOf e (copies_of c body) → s.copied e.0 ≡ map A (r.copied e.0)
  copied_agrees q t a c m [] w e i = absurd i
  copied_agrees q t a c m (Atom functor links inside ∷ xs) w e i = copied_agrees q t (a + 1) c m xs w.2 e i
  copied_agrees q t a c m (Bound integer link inside ∷ xs) w e i = copied_agrees q t (a + 1) c m xs w.2 e i
  copied_agrees q t a c m (Connector l l' ∷ xs) w e i = copied_agrees q t a c m xs w e i
  copied_agrees q t a c m (Copy part link inside ∷ xs) w e (inl u) = subst (λ (z : ℕ × ℕ). s.copied z.0 ≡ map A (r.copied z.0)) u w.0
  copied_agrees q t a c m (Copy part link inside ∷ xs) w e (inr j) = copied_agrees q t a (c + 1) m xs w.2 e j
  copied_agrees q t a c m (Membrane inside ∷ xs) w e i = copied_agrees q t a c (m + 1) xs w.2 e i
  copied_agrees q t a c m (Rest of false inside ∷ xs) w e i = copied_agrees q t a c m xs w.2 e i
  copied_agrees q t a c m (Rest of true inside ∷ xs) w e i = copied_agrees (later q) (later t) a c m xs w.3 e i
  copied_agrees q t a c m (Rule rule inside ∷ xs) w e i = copied_agrees q t a c m xs w.1 e i
  copied_agrees q t a c m (Rules of inside ∷ xs) w e i = copied_agrees q t a c m xs w.2 e i

  -- ---- what goes to a membrane

  inside_there : (f : ℕ → ℕ) (x inside : ℕ) (ns ms : List ℕ) → At inside → ms ≡ map f ns → if_inside s (M x) inside ms ≡ map f (if_inside r x inside ns)
  inside_there f x inside ns ms e same =
      let test : (s.head.images.membrane inside == M x) ≡ (r.head.images.membrane inside == x) = ap (λ z. z == M x) e ∙ sym (kept_test p.mems (r.head.images.membrane inside) x) in
      (λ i. if test i then same i else []) ∙ by (r.head.images.membrane inside == x)
    where
      by : (b : Bool) → (if b then map f ns else []) ≡ map f (if b then ns else [])
      by true = refl
      by false = refl

  -- what the copy of a rest gives to a membrane
  module _ (of inside : ℕ) (u v : RestCopy) (of_at : At of) (in_at : At inside) (ra : RestAgrees of u v) where
    into_there : (j : ℕ) → In j (rest_membranes r of) → copied_into s of inside v (M j) ≡ M (copied_into r of inside u j)
    into_there j i =
        (λ z. answer (of_at z ∷ ra.left_membranes z) (in_at z ∷ ra.membranes z) (M j))
        ∙ answer_there p.mems M (rest_membranes r of) (r.head.images.membrane inside ∷ u.membranes) j (let l = ra.long in let e = l.1 in omega (arith, e)) i

    keys : rest_membranes s of ≡ map M (rest_membranes r of)
    keys = λ z. of_at z ∷ ra.left_membranes z

    atom_there : (a : ℕ) → In a (r.left_atoms of) → copied_atom s of v (A a) ≡ A (copied_atom r of u a)
    atom_there a i = (λ z. answer (ra.left_atoms z) (ra.atoms z) (A a)) ∙ answer_there p.atoms A (r.left_atoms of) u.atoms a (let l = ra.long in long_enough l.0) i

    membrane_there : (a : ℕ) → In a (r.left_membranes of) → copied_membrane s of v (M a) ≡ M (copied_membrane r of u a)
    membrane_there a i = (λ z. answer (ra.left_membranes z) (ra.membranes z) (M a)) ∙ answer_there p.mems M (r.left_membranes of) u.membranes a (let l = ra.long in long_enough l.1) i

    answers_there : (f g : ℕ → ℕ) (to : ℕ → ℕ) (xs : List ℕ) → ((a : ℕ) → In a xs → g (to a) ≡ to (f a)) → map g (map to xs) ≡ map to (map f xs)
    answers_there f g to [] same = refl
    answers_there f g to (x ∷ xs) same = (let rest = answers_there f g to xs (λ a i. same a (inr i)) in λ z. same x (inl refl) z ∷ rest z)

    -- atoms
    rest_atoms_there : (left left' : ℕ → List ℕ) → ((x : ℕ) → left' (M x) ≡ map A (left x)) → ((j a : ℕ) → In j (rest_membranes r of) → In a (left j) → In a (r.left_atoms of)) → (x : ℕ)
        → given (λ j. map (copied_atom s of v) (left' j)) (copied_into s of inside v) (rest_membranes s of) (M x) ≡ map A (given (λ j. map (copied_atom r of u) (left j)) (copied_into r of inside u) (rest_membranes r of) x)
    rest_atoms_there left left' same into x =
        ap (λ ks. given (λ j. map (copied_atom s of v) (left' j)) (copied_into s of inside v) ks (M x)) keys
        ∙ given_there p.mems A (λ j. map (copied_atom r of u) (left j)) (λ j. map (copied_atom s of v) (left' j)) (copied_into r of inside u) (copied_into s of inside v) (rest_membranes r of) x
        (λ j i. ap (map (copied_atom s of v)) (same j) ∙ answers_there (copied_atom r of u) (copied_atom s of v) A (left j) (λ a l. atom_there a (into j a i l))) into_there

    -- membranes
    rest_mems_there : (left left' : ℕ → List ℕ) → ((x : ℕ) → left' (M x) ≡ map M (left x)) → ((j a : ℕ) → In j (rest_membranes r of) → In a (left j) → In a (r.left_membranes of)) → (x : ℕ)
        → given (λ j. map (copied_membrane s of v) (left' j)) (copied_into s of inside v) (rest_membranes s of) (M x) ≡ map M (given (λ j. map (copied_membrane r of u) (left j)) (copied_into r of inside u) (rest_membranes r of) x)
    rest_mems_there left left' same into x =
        ap (λ ks. given (λ j. map (copied_membrane s of v) (left' j)) (copied_into s of inside v) ks (M x)) keys
        ∙ given_there p.mems M (λ j. map (copied_membrane r of u) (left j)) (λ j. map (copied_membrane s of v) (left' j)) (copied_into r of inside u) (copied_into s of inside v) (rest_membranes r of) x
        (λ j i. ap (map (copied_membrane s of v)) (same j) ∙ answers_there (copied_membrane r of u) (copied_membrane s of v) M (left j) (λ a l. membrane_there a (into j a i l))) into_there

    -- rules
    rest_rules_there : (rules rules' : ℕ → List ℕ) → ((x : ℕ) → rules' (M x) ≡ rules x) → (x : ℕ)
        → given rules' (copied_into s of inside v) (s.left_membranes of) (M x) ≡ given rules (copied_into r of inside u) (r.left_membranes of) x
    rest_rules_there rules rules' same x =
        ap (λ ks. given rules' (copied_into s of inside v) ks (M x)) ra.left_membranes
        ∙ given_there p.mems (λ z. z) rules rules' (copied_into r of inside u) (copied_into s of inside v) (r.left_membranes of) x (λ j i. same j ∙ sym (map_itself (rules j))) (λ j i. into_there j (inr i))
        ∙ map_itself (given rules (copied_into r of inside u) (r.left_membranes of) x)

  -- ---- what a body adds

  pub added_atoms_there : (left left' left_mems : ℕ → List ℕ) → ((x : ℕ) → left' (M x) ≡ map A (left x)) → (q t : RestCopies) (a c m : ℕ) (body : List BodyItem) → AreWholeRests r left left_mems body → Agree q t a c m body
      → (x : ℕ) → added_atoms s t left' a c body (M x) ≡ map A (added_atoms r q left a c body x)
  added_atoms_there left left' lm same q t a c m [] wh w x = refl
  added_atoms_there left left' lm same q t a c m (Atom functor links inside ∷ xs) wh w x =
      join_maps A (if_inside r x inside (r.head.images.atom a ∷ [])) (added_atoms r q left (a + 1) c xs x) (inside_there A x inside (r.head.images.atom a ∷ []) (s.head.images.atom a ∷ []) w.1 (λ i. w.0 i ∷ []))
      (added_atoms_there left left' lm same q t (a + 1) c m xs wh w.2 x)
  added_atoms_there left left' lm same q t a c m (Bound integer link inside ∷ xs) wh w x =
      join_maps A (if_inside r x inside (r.head.images.atom a ∷ [])) (added_atoms r q left (a + 1) c xs x) (inside_there A x inside (r.head.images.atom a ∷ []) (s.head.images.atom a ∷ []) w.1 (λ i. w.0 i ∷ []))
      (added_atoms_there left left' lm same q t (a + 1) c m xs wh w.2 x)
  added_atoms_there left left' lm same q t a c m (Connector l l' ∷ xs) wh w x = added_atoms_there left left' lm same q t a c m xs wh w x
  added_atoms_there left left' lm same q t a c m (Copy part link inside ∷ xs) wh w x =
      join_maps A (if_inside r x inside (r.copied c)) (added_atoms r q left a (c + 1) xs x) (inside_there A x inside (r.copied c) (s.copied c) w.1 w.0) (added_atoms_there left left' lm same q t a (c + 1) m xs wh w.2 x)
  added_atoms_there left left' lm same q t a c m (Membrane inside ∷ xs) wh w x = added_atoms_there left left' lm same q t a c (m + 1) xs wh w.2 x
  added_atoms_there left left' lm same q t a c m (Rest of false inside ∷ xs) wh w x =
      join_maps A (if_inside r x inside (left (r.head.images.membrane of))) (added_atoms r q left a c xs x)
      (inside_there A x inside (left (r.head.images.membrane of)) (left' (s.head.images.membrane of)) w.1 (ap left' w.0 ∙ same (r.head.images.membrane of))) (added_atoms_there left left' lm same q t a c m xs wh w.2 x)
  added_atoms_there left left' lm same q t a c m (Rest of true inside ∷ xs) wh w x =
      let whole = wh of (inl refl) in
      join_maps A (given (λ j. map (copied_atom r of (q 0)) (left j)) (copied_into r of inside (q 0)) (rest_membranes r of) x) (added_atoms r (later q) left a c xs x)
      (rest_atoms_there of inside (q 0) (t 0) w.0 w.1 w.2 left left' same whole.into x) (added_atoms_there left left' lm same (later q) (later t) a c m xs (λ o j. wh o (inr j)) w.3 x)
  added_atoms_there left left' lm same q t a c m (Rule rule inside ∷ xs) wh w x = added_atoms_there left left' lm same q t a c m xs wh w.1 x
  added_atoms_there left left' lm same q t a c m (Rules of inside ∷ xs) wh w x = added_atoms_there left left' lm same q t a c m xs wh w.2 x

  pub added_mems_there : (left_atoms left left' : ℕ → List ℕ) → ((x : ℕ) → left' (M x) ≡ map M (left x)) → (q t : RestCopies) (a c m : ℕ) (body : List BodyItem) → AreWholeRests r left_atoms left body → Agree q t a c m body
      → (x : ℕ) → added_mems s t left' m body (M x) ≡ map M (added_mems r q left m body x)
  added_mems_there la left left' same q t a c m [] wh w x = refl
  added_mems_there la left left' same q t a c m (Atom functor links inside ∷ xs) wh w x = added_mems_there la left left' same q t (a + 1) c m xs wh w.2 x
  added_mems_there la left left' same q t a c m (Bound integer link inside ∷ xs) wh w x = added_mems_there la left left' same q t (a + 1) c m xs wh w.2 x
  added_mems_there la left left' same q t a c m (Connector l l' ∷ xs) wh w x = added_mems_there la left left' same q t a c m xs wh w x
  added_mems_there la left left' same q t a c m (Copy part link inside ∷ xs) wh w x = added_mems_there la left left' same q t a (c + 1) m xs wh w.2 x
  added_mems_there la left left' same q t a c m (Membrane inside ∷ xs) wh w x =
      join_maps M (if_inside r x inside (r.head.images.membrane m ∷ [])) (added_mems r q left (m + 1) xs x)
      (inside_there M x inside (r.head.images.membrane m ∷ []) (s.head.images.membrane m ∷ []) w.1 (λ i. w.0 i ∷ [])) (added_mems_there la left left' same q t a c (m + 1) xs wh w.2 x)
  added_mems_there la left left' same q t a c m (Rest of false inside ∷ xs) wh w x =
      join_maps M (if_inside r x inside (left (r.head.images.membrane of))) (added_mems r q left m xs x)
      (inside_there M x inside (left (r.head.images.membrane of)) (left' (s.head.images.membrane of)) w.1 (ap left' w.0 ∙ same (r.head.images.membrane of))) (added_mems_there la left left' same q t a c m xs wh w.2 x)
  added_mems_there la left left' same q t a c m (Rest of true inside ∷ xs) wh w x =
      let whole = wh of (inl refl) in
      join_maps M (given (λ j. map (copied_membrane r of (q 0)) (left j)) (copied_into r of inside (q 0)) (rest_membranes r of) x) (added_mems r (later q) left m xs x)
      (rest_mems_there of inside (q 0) (t 0) w.0 w.1 w.2 left left' same whole.into_mems x) (added_mems_there la left left' same (later q) (later t) a c m xs (λ o j. wh o (inr j)) w.3 x)
  added_mems_there la left left' same q t a c m (Rule rule inside ∷ xs) wh w x = added_mems_there la left left' same q t a c m xs wh w.1 x
  added_mems_there la left left' same q t a c m (Rules of inside ∷ xs) wh w x = added_mems_there la left left' same q t a c m xs wh w.2 x

  rules_inside : (x inside : ℕ) (ns ms : List ℕ) → At inside → ms ≡ ns → if_inside s (M x) inside ms ≡ if_inside r x inside ns
  rules_inside x inside ns ms e same = inside_there (λ z. z) x inside ns ms e (same ∙ sym (map_itself ns)) ∙ map_itself (if_inside r x inside ns)

  pub added_rules_there : (rules rules' : ℕ → List ℕ) → ((x : ℕ) → rules' (M x) ≡ rules x) → (q t : RestCopies) (a c m : ℕ) (body : List BodyItem) → Agree q t a c m body
      → (x : ℕ) → added_rules s t rules' body (M x) ≡ added_rules r q rules body x
  added_rules_there rules rules' same q t a c m [] w x = refl
  added_rules_there rules rules' same q t a c m (Atom functor links inside ∷ xs) w x = added_rules_there rules rules' same q t (a + 1) c m xs w.2 x
  added_rules_there rules rules' same q t a c m (Bound integer link inside ∷ xs) w x = added_rules_there rules rules' same q t (a + 1) c m xs w.2 x
  added_rules_there rules rules' same q t a c m (Connector l l' ∷ xs) w x = added_rules_there rules rules' same q t a c m xs w x
  added_rules_there rules rules' same q t a c m (Copy part link inside ∷ xs) w x = added_rules_there rules rules' same q t a (c + 1) m xs w.2 x
  added_rules_there rules rules' same q t a c m (Membrane inside ∷ xs) w x = added_rules_there rules rules' same q t a c (m + 1) xs w.2 x
  added_rules_there rules rules' same q t a c m (Rest of false inside ∷ xs) w x = added_rules_there rules rules' same q t a c m xs w.2 x
  added_rules_there rules rules' same q t a c m (Rest of true inside ∷ xs) w x =
      (let here = rest_rules_there of inside (q 0) (t 0) w.0 w.1 w.2 rules rules' same x in
      let rest = added_rules_there rules rules' same (later q) (later t) a c m xs w.3 x in
      λ i. here i ++ rest i)
  added_rules_there rules rules' same q t a c m (Rule rule inside ∷ xs) w x =
      (let here = rules_inside x inside (rule ∷ []) (rule ∷ []) w.0 refl in let rest = added_rules_there rules rules' same q t a c m xs w.1 x in λ i. here i ++ rest i)
  added_rules_there rules rules' same q t a c m (Rules of inside ∷ xs) w x =
      (let here = rules_inside x inside (rules (r.head.images.membrane of)) (rules' (s.head.images.membrane of)) w.1 (ap rules' w.0 ∙ same (r.head.images.membrane of)) in
      let rest = added_rules_there rules rules' same q t a c m xs w.2 x in
      λ i. here i ++ rest i)
