-- The ports of a head and their links.
use Rattle.std.proofs.Common.{ℕ, zero, suc, ◌+◌, ◌≤◌, ◌≡◌, ◌≢◌, ◌==◌, Bool, true, false, cond, List, [], ◌∷◌, ◌++◌, map, Some, refl, sym, ap, subst, ◌∙◌, inl, inr, arith}
use Rattle.std.proofs.lemmas.Bool.{cases_eq, eq-eqb, eqb-true}
use Rattle.std.specs.Prelude.{slice_get}
use Rattle.lmn_solid_heads.specs.Heads.{HeadAtom, Occurrence, at_ports, at_atoms, times}
use Rattle.lmn_congruence_splice.specs.Splice.{IsOneOf, NoneTwice}
use Rattle.lmn_instr_code.specs.declared.instr.AtomPort.{AtomPort}
use Rattle.lmn_solid_bodies.specs.Items.{port_at, once_in}
use Rattle.lmn_base.specs.Graphs.{Port}
use Rattle.lmn_congruence.specs.Links.{one_if_same}
use Rattle.lmn_congruence.proofs.Counts.{none_if_apart as one_other, one_if_equal as one_same}
use Rattle.lmn_congruence_splice.proofs.Common.{in_append, in_back, in_front, distinct_append}

-- Lists

-- the image of one of a list is one of the images
pub in_map : {A B : Type 0} (f : A → B) (x : A) (xs : List A) → IsOneOf x xs → IsOneOf (f x) (map f xs)
in_map f x [] i = absurd i
in_map f x (y ∷ xs) (inl e) = inl (ap f e)
in_map f x (y ∷ xs) (inr i) = inr (in_map f x xs i)

-- and each of the images is that of one
pub of_map : {A B : Type 0} (f : A → B) (y : B) (xs : List A) → IsOneOf y (map f xs) → (x : A) × IsOneOf x xs × (f x ≡ y)
of_map f y [] i = absurd i
of_map f y (x ∷ xs) (inl e) = (x, inl refl, e)
of_map f y (x ∷ xs) (inr i) = let w = of_map f y xs i in (w.0, inr w.1, w.2)

-- Counts

-- one comparison of links
pub times_one : (x y : ℕ) → cond (y == x) 1 0 ≡ one_if_same x y
times_one x y = elim (cases_eq y x) [
  | inl e ↦ rw (eq-eqb y x e) (sym (one_same x y (sym e)))
  | inr d ↦ rw (no y x d) (sym (one_other x y (λ e. d (sym e))))
]
  where
    no : (y x : ℕ) → y ≢ x → (y == x) ≡ false
    no y x d = by (y == x) refl
      where
        by : (t : Bool) → (y == x) ≡ t → t ≡ false
        by true e = absurd (d (eqb-true y x e))
        by false e = refl

-- Ports of a head

-- each listed port of an atom has its link
pub at_ports_in : (n i : ℕ) (xs : List ℕ) (o : Occurrence) → IsOneOf o (at_ports n i xs) → (o.port.0 ≡ n) × ((j : ℕ) × (o.port.1 ≡ i + j) × (slice_get xs j ≡ Some o.link))
at_ports_in n i [] o w = absurd w
at_ports_in n i (x ∷ xs) o (inl e) = (sym (ap (λ (q : Occurrence). q.port.0) e), (0, sym (ap (λ (q : Occurrence). q.port.1) e) ∙ plus, ap (λ (q : Occurrence). Some q.link) e))
  where
    plus : i ≡ i + 0
    plus = omega arith
at_ports_in n i (x ∷ xs) o (inr w) = let v = at_ports_in n (i + 1) xs o w in (v.0, (suc v.1.0, v.1.1 ∙ plus v.1.0, v.1.2))
  where
    plus : (j : ℕ) → i + 1 + j ≡ i + suc j
    plus j = omega arith

-- and each link of an atom is listed at its port
pub in_at_ports : (n i : ℕ) (xs : List ℕ) (j x : ℕ) → slice_get xs j ≡ Some x → IsOneOf {A = Occurrence} (record { link = x; port = (n, i + j) }) (at_ports n i xs)
in_at_ports n i [] j x e = absurd (cc)
in_at_ports n i (y ∷ xs) zero x e = inl (let f : y ≡ x = (cc) in let g : i ≡ i + 0 = omega arith in λ t. record { link = f t; port = (n, g t) })
in_at_ports n i (y ∷ xs) (suc j) x e = inr (subst (λ k. IsOneOf {A = Occurrence} (record { link = x; port = (n, k) }) (at_ports n (i + 1) xs)) (plus i j) (in_at_ports n (i + 1) xs j x e))
  where
    plus : (i j : ℕ) → i + 1 + j ≡ i + suc j
    plus i j = omega arith

-- no port of an atom is listed twice
pub at_ports_once : (n i : ℕ) (xs : List ℕ) → NoneTwice (map (λ (o : Occurrence). o.port) (at_ports n i xs))
at_ports_once n i [] = tt
at_ports_once n i (x ∷ xs) = (
  (λ w. let v = of_map (λ (o : Occurrence). o.port) (n, i) (at_ports n (i + 1) xs) w in let u = at_ports_in n (i + 1) xs v.0 v.1 in off u.1.0 (sym (ap (λ (q : Port). q.1) v.2) ∙ u.1.1)),
  at_ports_once n (i + 1) xs,
)
  where
    off : (j : ℕ) → i ≡ i + 1 + j → ⊥
    off j e = omega arith

-- an occurrence in atoms: which atom and which port
pub record AtHead (n : ℕ) (as' : List HeadAtom) (o : Occurrence) : Type 0 where
  pub k : ℕ
  pub number : o.port.0 ≡ n + k
  pub atom : HeadAtom
  pub is : slice_get as' k ≡ Some atom
  pub link : slice_get atom.links o.port.1 ≡ Some o.link

-- each listed occurrence is at a port of an atom
pub at_atoms_in : (n : ℕ) (as' : List HeadAtom) (o : Occurrence) → IsOneOf o (at_atoms n as') → AtHead n as' o
at_atoms_in n [] o w = absurd w
at_atoms_in n (a ∷ as') o w = elim (in_append o (at_ports n 0 a.links) (at_atoms (n + 1) as') w) [
  | inl i ↦ (let v = at_ports_in n 0 a.links o i in let z : o.port.1 ≡ v.1.0 = v.1.1 ∙ plus v.1.0 in record { k = 0; number = v.0 ∙ add; atom = a; is = refl; link = rw z v.1.2 })
  | inr i ↦ (let v = at_atoms_in (n + 1) as' o i in record { k = suc v.k; number = v.number ∙ next v.k; atom = v.atom; is = v.is; link = v.link })
]
  where
    plus : (j : ℕ) → 0 + j ≡ j
    plus j = omega arith

    add : n ≡ n + 0
    add = omega arith

    next : (k : ℕ) → n + 1 + k ≡ n + suc k
    next k = omega arith

-- and each port of an atom is listed
pub in_at_atoms : (n : ℕ) (as' : List HeadAtom) (k j x : ℕ) (a : HeadAtom) → slice_get as' k ≡ Some a → slice_get a.links j ≡ Some x → IsOneOf {A = Occurrence} (record { link = x; port = (n + k, j) }) (at_atoms n as')
in_at_atoms n [] k j x a e f = absurd (cc)
in_at_atoms n (b ∷ as') zero j x a e f =
    let same : b ≡ a = (cc) in
    in_front _ (at_ports n 0 b.links) (at_atoms (n + 1) as')
    (subst (λ (p : Port). IsOneOf {A = Occurrence} (record { link = x; port = p }) (at_ports n 0 b.links)) (λ t. (add n t, none j t)) (in_at_ports n 0 b.links j x (subst (λ (c : HeadAtom). slice_get c.links j ≡ Some x) (sym same) f)))
  where
    add : (n : ℕ) → n ≡ n + 0
    add n = omega arith

    none : (j : ℕ) → 0 + j ≡ j
    none j = omega arith
in_at_atoms n (b ∷ as') (suc k) j x a e f =
    in_back _ (at_ports n 0 b.links) (at_atoms (n + 1) as') (subst (λ z. IsOneOf {A = Occurrence} (record { link = x; port = (z, j) }) (at_atoms (n + 1) as')) (next n k) (in_at_atoms (n + 1) as' k j x a e f))
  where
    next : (n k : ℕ) → n + 1 + k ≡ n + suc k
    next n k = omega arith

-- no port of some atoms is listed twice
pub at_atoms_once : (n : ℕ) (as' : List HeadAtom) → NoneTwice (map (λ (o : Occurrence). o.port) (at_atoms n as'))
at_atoms_once n [] = tt
at_atoms_once n (a ∷ as') = subst NoneTwice (sym (map_append (at_ports n 0 a.links) (at_atoms (n + 1) as')))
    (distinct_append (map (λ (o : Occurrence). o.port) (at_ports n 0 a.links)) (map (λ (o : Occurrence). o.port) (at_atoms (n + 1) as')) (at_ports_once n 0 a.links) (at_atoms_once (n + 1) as')
    (λ p i j. let v = of_map (λ (o : Occurrence). o.port) p (at_ports n 0 a.links) i in let w = of_map (λ (o : Occurrence). o.port) p (at_atoms (n + 1) as') j in
    let x = at_ports_in n 0 a.links v.0 v.1 in let y = at_atoms_in (n + 1) as' w.0 w.1 in
    off y.k (sym x.0 ∙ ap (λ (q : Port). q.0) (v.2 ∙ sym w.2) ∙ y.number)))
  where
    off : (k : ℕ) → n ≡ n + 1 + k → ⊥
    off k e = omega arith

    map_append : (xs ys : List Occurrence) → map (λ (o : Occurrence). o.port) (xs ++ ys) ≡ map (λ (o : Occurrence). o.port) xs ++ map (λ (o : Occurrence). o.port) ys
    map_append [] ys = refl
    map_append (x ∷ xs) ys = ap (λ zs. x.port ∷ zs) (map_append xs ys)

-- a link that stands at a port, and more than once, stands at another port too
pub other_port : (os : List Occurrence) → NoneTwice (map (λ (o : Occurrence). o.port) os) → (o : Occurrence) → IsOneOf o os → 2 ≤ times o.link (map (λ (q : Occurrence). q.link) os)
    → (q : Occurrence) × IsOneOf q os × (q.link ≡ o.link) × (q.port ≢ o.port)
other_port [] d o i h = absurd i
other_port (p ∷ os) d o (inl e) h =
    let w = some_port os (less (times_same o p e) h) in
    (w.0, inr w.1, w.2, λ f. d.0 (subst (λ z. IsOneOf z (map (λ (o : Occurrence). o.port) os)) (f ∙ sym (ap (λ (q : Occurrence). q.port) e)) (in_map (λ (o : Occurrence). o.port) w.0 os w.1)))
  where
    times_same : (o p : Occurrence) → p ≡ o → cond (p.link == o.link) 1 0 ≡ one_if_same o.link p.link
    times_same o p e = times_one o.link p.link

    some_port : (os : List Occurrence) → 1 ≤ times o.link (map (λ (q : Occurrence). q.link) os) → (q : Occurrence) × IsOneOf q os × (q.link ≡ o.link)
    some_port [] h = absurd (off h)
      where
        off : 1 ≤ 0 → ⊥
        off h = omega arith
    some_port (q ∷ os) h = elim (cases_eq q.link o.link) [
      | inl f ↦ (q, inl refl, f)
      | inr g ↦ (let w = some_port os (rest (cond (q.link == o.link) 1 0) (times o.link (map (λ (x : Occurrence). x.link) os)) (times_one o.link q.link ∙ one_other o.link q.link (λ f. g (sym f))) h) in (w.0, inr w.1, w.2))
    ]
      where
        rest : (x n : ℕ) → x ≡ 0 → 1 ≤ x + n → 1 ≤ n
        rest x n e h = omega arith

    less : cond (p.link == o.link) 1 0 ≡ one_if_same o.link p.link → 2 ≤ cond (p.link == o.link) 1 0 + times o.link (map (λ (q : Occurrence). q.link) os) → 1 ≤ times o.link (map (λ (q : Occurrence). q.link) os)
    less f h = by (cond (p.link == o.link) 1 0) (times o.link (map (λ (q : Occurrence). q.link) os)) (f ∙ one_same o.link p.link (sym (ap (λ (q : Occurrence). q.link) e))) h
      where
        by : (x n : ℕ) → x ≡ 1 → 2 ≤ x + n → 1 ≤ n
        by x n e h = omega arith
other_port (p ∷ os) d o (inr i) h = elim (cases_eq p.link o.link) [
  | inl e ↦ (p, inl refl, e, λ f. d.0 (subst (λ z. IsOneOf z (map (λ (o : Occurrence). o.port) os)) (sym f) (in_map (λ (o : Occurrence). o.port) o os i)))
  | inr g ↦ (let w = other_port os d.1 o i (rest (cond (p.link == o.link) 1 0) (times o.link (map (λ (x : Occurrence). x.link) os)) (times_one o.link p.link ∙ one_other o.link p.link (λ f. g (sym f))) h) in (w.0, inr w.1, w.2, w.3))
]
  where
    rest : (x n : ℕ) → x ≡ 0 → 2 ≤ x + n → 2 ≤ n
    rest x n e h = omega arith

-- Links that occur once

abbrev entry : Occurrence → AtomPort × ℕ
entry o = (port_at o.port.0 o.port.1, o.link)

-- what is listed as occurring once does
pub once_in_of : (xs : List ℕ) (os : List Occurrence) (e : AtomPort × ℕ) → IsOneOf e (once_in xs os) → (o : Occurrence) × IsOneOf o os × (times o.link xs ≡ 1) × (◌≡◌ {A = AtomPort × ℕ} (port_at o.port.0 o.port.1, o.link) e)
once_in_of xs [] e i = absurd i
once_in_of xs (o ∷ os) e i = by (times o.link xs == 1) refl i (λ j. let w = once_in_of xs os e j in (w.0, inr w.1, w.2, w.3))
  where
    by : (t : Bool) → (times o.link xs == 1) ≡ t → IsOneOf e (cond t (entry o ∷ once_in xs os) (once_in xs os))
        → (IsOneOf e (once_in xs os) → (q : Occurrence) × IsOneOf q (o ∷ os) × (times q.link xs ≡ 1) × (◌≡◌ {A = AtomPort × ℕ} (port_at q.port.0 q.port.1, q.link) e))
        → (q : Occurrence) × IsOneOf q (o ∷ os) × (times q.link xs ≡ 1) × (◌≡◌ {A = AtomPort × ℕ} (port_at q.port.0 q.port.1, q.link) e)
    by true h (inl f) rest = (o, inl refl, eqb-true (times o.link xs) 1 h, f)
    by true h (inr j) rest = rest j
    by false h j rest = rest j

-- an occurrence of a link that occurs once is listed with its port
pub of_once_in : (xs : List ℕ) (os : List Occurrence) (o : Occurrence) → IsOneOf o os → times o.link xs ≡ 1 → IsOneOf {A = AtomPort × ℕ} (port_at o.port.0 o.port.1, o.link) (once_in xs os)
of_once_in xs [] o i h = absurd i
of_once_in xs (q ∷ os) o (inl e) h = subst (λ (z : Occurrence). IsOneOf {A = AtomPort × ℕ} (port_at z.port.0 z.port.1, z.link) (once_in xs (q ∷ os))) e
    (rw (eq-eqb (times q.link xs) 1 (ap (λ (z : Occurrence). times z.link xs) e ∙ h)) (inl refl))
of_once_in xs (q ∷ os) o (inr i) h = by (times q.link xs == 1) (of_once_in xs os o i h)
  where
    by : (t : Bool) → IsOneOf (entry o) (once_in xs os) → IsOneOf (entry o) (cond t (entry q ∷ once_in xs os) (once_in xs os))
    by true j = inr j
    by false j = j
