-- Equality of rooted parts in the calculus: it goes back and on, and keeps what is ground.
use Rattle.std.proofs.Common.{ℕ, ◌≡◌, ◌≢◌, ◌≤◌, ◌+◌, ◌⊎◌, ◌==◌, cond, List, [], ◌∷◌, ◌++◌, map, refl, sym, ap, subst, ◌∙◌, inl, inr, arith}
use Rattle.std.proofs.lemmas.Bool.{cases_eq, eq-eqb}
use Rattle.lmn_congruence.specs.Links.{places}
use Rattle.lmn_congruence.specs.Orders.{Among, at_head, further, Put, here, there, Shuffle, none, more}
use Rattle.lmn_congruence.specs.Process.{Process, nothing, connector, atom, pair, membrane, rule, occurrences, Free}
use Rattle.lmn_congruence.specs.Rules.{Label}
use Rattle.lmn_reduction.specs.Parts.{Rooted, OnlyAtoms, IsGround, ReachesLink, the_root, across, atoms_at_top, EqualParts}
use Rattle.lmn_congruence.proofs.Shuffles.{shuffle_flip, shuffle_chain}
use Rattle.lmn_base.proofs.Numbers.{not_equal as apart_test}
use Rattle.lmn_congruence.proofs.Counts.{none_if_apart as apart_none, one_if_equal as same_one}
use Rattle.lmn_congruence.proofs.TranslatedLinks.{places_append as places_apart}
use Rattle.lmn_base.proofs.Lists.{map_twice}

abbrev Piece : Type 0
Piece = Label × List ℕ

-- an atom with its links renamed
abbrev pub Renames : (ℕ → ℕ) → Label × List ℕ → Label × List ℕ → Type 0
Renames f a b = ◌≡◌ {A = Label × List ℕ} (a.0, map f a.1) b

-- how often a link stands at atoms
abbrev pub count : ℕ → List (Label × List ℕ) → ℕ
count y [] = 0
count y (a ∷ as') = places y a.1 + count y as'

count_both : (y : ℕ) (as' bs : List Piece) → count y (as' ++ bs) ≡ count y as' + count y bs
count_both y [] bs = omega arith
count_both y (a ∷ as') bs = omega (arith, count_both y as' bs)

-- a link occurs in a part as often as in its atoms
pub counted : (y : ℕ) (P : Process) → OnlyAtoms P → occurrences y P ≡ count y (atoms_at_top P)
counted y nothing o = absurd o
counted y (connector a b) o = absurd o
counted y (atom a ys) o = omega arith
counted y (pair P Q) o = omega (arith, counted y P o.0, counted y Q o.1, count_both y (atoms_at_top P) (atoms_at_top Q))
counted y (membrane P) o = absurd o
counted y (rule r) o = absurd o

count_put : (y : ℕ) {b : Piece} {ys zs : List Piece} → Put b ys zs → count y zs ≡ places y b.1 + count y ys
count_put y here = refl
count_put y (there p) = omega (arith, count_put y p)

places_renamed : (f : ℕ → ℕ) (y : ℕ) (xs : List ℕ) → ((x : ℕ) → 1 ≤ places x xs → f x ≡ f y → x ≡ y) → places (f y) (map f xs) ≡ places y xs
places_renamed f y [] one = refl
places_renamed f y (x ∷ xs) one =
    let rest = places_renamed f y xs (λ z l. one z (omega (arith, l))) in
    elim (cases_eq y x) [
      | inl e ↦ omega (arith, same_one y x e, same_one (f y) (f x) (ap f e), rest)
      | inr d ↦ omega (arith, apart_none y x d, apart_none (f y) (f x) (λ q. d (sym (one x (omega (arith, same_one x x refl)) (sym q)))), rest)
    ]

places_from : (f : ℕ → ℕ) (y : ℕ) (xs : List ℕ) → 1 ≤ places y (map f xs) → (x : ℕ) × (1 ≤ places x xs) × (f x ≡ y)
places_from f y [] l = absurd (omega (arith, l))
places_from f y (x ∷ xs) l = elim (cases_eq y (f x)) [
  | inl e ↦ (x, omega (arith, same_one x x refl), sym e)
  | inr d ↦ let u = places_from f y xs (omega (arith, l, apart_none y (f x) d)) in (u.0, omega (arith, u.1), u.2)
]

-- an image that comes from one link counts as often
pub count_renamed : (f : ℕ → ℕ) (y : ℕ) {as' bs : List Piece} → Shuffle (Renames f) as' bs → ((x : ℕ) → 1 ≤ count x as' → f x ≡ f y → x ≡ y) → count (f y) bs ≡ count y as'
count_renamed f y none one = refl
count_renamed f y (more {x = a} {y = b} {xs = as'} {ys = ys} e s p) one =
    let rest = count_renamed f y s (λ x l. one x (omega (arith, l))) in
    let first = places_renamed f y a.1 (λ x l. one x (omega (arith, l))) in
    let is : places (f y) (map f a.1) ≡ places (f y) b.1 = ap (λ q. places (f y) q.1) e in
    omega (arith, rest, first, is, count_put (f y) p)

-- an image that counts comes from a link that does
pub count_from : (f : ℕ → ℕ) (y : ℕ) {as' bs : List Piece} → Shuffle (Renames f) as' bs → 1 ≤ count y bs → (x : ℕ) × (1 ≤ count x as') × (f x ≡ y)
count_from f y none l = absurd (omega (arith, l))
count_from f y (more {x = a} {y = b} {xs = as'} {ys = ys} e s p) l =
    let is : places y (map f a.1) ≡ places y b.1 = ap (λ q. places y q.1) e in
    let total = count_put y p in
    elim (cases_eq (places y b.1) 0) [
      | inl z ↦ let u = count_from f y s (omega (arith, l, total, z)) in (u.0, omega (arith, u.1), u.2)
      | inr d ↦ let u = places_from f y a.1 (omega (arith, d, is)) in (u.0, omega (arith, u.1), u.2)
    ]

-- what stands in a list with one more element is that one, or stood there
pub put_among : {A : Type 0} {y b : A} {ys zs : List A} → Put y ys zs → Among b zs → (y ≡ b) ⊎ Among b ys
put_among here at_head = inl refl
put_among here (further k) = inr k
put_among (there p) at_head = inr at_head
put_among (there p) (further k) = elim (put_among p k) [ inl e ↦ inl e | inr m ↦ inr (further m) ]

-- what is among the right list has its match in the left
pub among_shuffled : {A B : Type 0} {R : A → B → Type 0} {as' : List A} {bs : List B} → Shuffle R as' bs → {b : B} → Among b bs → (a : A) × Among a as' × R a b
among_shuffled none {b} k = elim k [ ]
among_shuffled {R = R} (more {x = a} e s p) {b} k = elim (put_among p k) [
  | inl q ↦ (a, at_head, subst (R a) q e)
  | inr m ↦ let u = among_shuffled s m in (u.0, further u.1, u.2)
]

-- a match by what holds of the elements of the left list
pub shuffle_within : {A B : Type 0} {R S : A → B → Type 0} {as' : List A} {bs : List B} → Shuffle R as' bs → ((a : A) (b : B) → Among a as' → R a b → S a b) → Shuffle S as' bs
shuffle_within none h = none
shuffle_within (more {x = a} {y = b} e s p) h = more (h a b at_head e) (shuffle_within s (λ c d k. h c d (further k))) p

among_links : (f : ℕ → ℕ) (x : ℕ) (xs : List ℕ) → Among x xs → Among (f x) (map f xs)
among_links f x [] k = elim k [ ]
among_links f x (y ∷ xs) at_head = at_head
among_links f x (y ∷ xs) (further k) = further (among_links f x xs k)

-- the links that stand at atoms
abbrev all_links : List (Label × List ℕ) → List ℕ
all_links [] = []
all_links (a ∷ as') = a.1 ++ all_links as'

count_links : (x : ℕ) (as' : List Piece) → places x (all_links as') ≡ count x as'
count_links x [] = refl
count_links x (a ∷ as') = omega (arith, places_apart x a.1 (all_links as'), count_links x as')

-- what a map takes to y
abbrev back : (ℕ → ℕ) → List ℕ → ℕ → ℕ
back f [] y = y
back f (x ∷ xs) y = cond (f x == y) x (back f xs y)

back_is : (f : ℕ → ℕ) (xs : List ℕ) (x : ℕ) → 1 ≤ places x xs → ((a b : ℕ) → 1 ≤ places a xs → 1 ≤ places b xs → f a ≡ f b → a ≡ b) → back f xs (f x) ≡ x
back_is f [] x l one = absurd (omega (arith, l))
back_is f (y ∷ xs) x l one = elim (cases_eq (f y) (f x)) [
  | inl e ↦ rw (eq-eqb (f y) (f x) e) (one y x (omega (arith, same_one y y refl)) l e)
  | inr d ↦ rw (apart_test (f y) (f x) d) (back_is f xs x (omega (arith, l, apart_none x y (λ q. d (ap f (sym q))))) (λ a b j k. one a b (omega (arith, j)) (omega (arith, k))))
]

places_there : (y : ℕ) (as' : List Piece) (a : Piece) → Among a as' → places y a.1 ≤ count y as'
places_there y [] a k = elim k [ ]
places_there y (b ∷ as') a at_head = omega arith
places_there y (b ∷ as') a (further k) = omega (arith, places_there y as' a k)

mapped_back : (f g : ℕ → ℕ) (xs : List ℕ) → ((x : ℕ) → 1 ≤ places x xs → g (f x) ≡ x) → map g (map f xs) ≡ xs
mapped_back f g [] h = refl
mapped_back f g (x ∷ xs) h = λ i. h x (omega (arith, same_one x x refl)) i ∷ mapped_back f g xs (λ y l. h y (omega (arith, l))) i

module _ (g k : Rooted) (o : OnlyAtoms g.process) (s : EqualParts g k) where
  one_on : (x y : ℕ) → 1 ≤ count x (atoms_at_top g.process) → 1 ≤ count y (atoms_at_top g.process) → s.to x ≡ s.to y → x ≡ y
  one_on x y l m e = s.one_to_one x y (λ z. let w = counted x g.process o in omega (arith, w, z, l)) (λ z. let w = counted y g.process o in omega (arith, w, z, m)) e

  pub same_count : (y : ℕ) → 1 ≤ count y (atoms_at_top g.process) → count (s.to y) (atoms_at_top k.process) ≡ count y (atoms_at_top g.process)
  same_count y l = count_renamed s.to y s.atoms (λ x m e. one_on x y m l e)

  abbrev inverse : ℕ → ℕ
  inverse = back s.to (all_links (atoms_at_top g.process))

  inverse_is : (x : ℕ) → 1 ≤ count x (atoms_at_top g.process) → inverse (s.to x) ≡ x
  inverse_is x l =
      back_is s.to (all_links (atoms_at_top g.process)) x (omega (arith, l, count_links x (atoms_at_top g.process)))
      (λ a b m n e. one_on a b (omega (arith, m, count_links a (atoms_at_top g.process))) (omega (arith, n, count_links b (atoms_at_top g.process))) e)

  -- equality goes back
  pub same_flipped : OnlyAtoms k.process → Free g.root g.process → EqualParts k g
  same_flipped o' free = record {
    to = inverse;
    one_to_one = λ x y m n e.
        let a = count_from s.to x s.atoms (let w = counted x k.process o' in elim (cases_eq (count x (atoms_at_top k.process)) 0) [ inl z ↦ absurd (m (omega (arith, w, z))) | inr d ↦ omega (arith, d) ]) in
        let b = count_from s.to y s.atoms (let w = counted y k.process o' in elim (cases_eq (count y (atoms_at_top k.process)) 0) [ inl z ↦ absurd (n (omega (arith, w, z))) | inr d ↦ omega (arith, d) ]) in
        let p : inverse x ≡ a.0 = ap inverse (sym a.2) ∙ inverse_is a.0 a.1 in
        let q : inverse y ≡ b.0 = ap inverse (sym b.2) ∙ inverse_is b.0 b.1 in
        sym a.2 ∙ ap s.to (sym p ∙ e ∙ q) ∙ b.2;
    roots = ap inverse (sym s.roots) ∙ inverse_is g.root (omega (arith, counted g.root g.process o, free));
    atoms = shuffle_flip (shuffle_within s.atoms (λ a b m e.
        let is : b.1 ≡ map s.to a.1 = ap (λ q. q.1) (sym e) in
        let links : map inverse b.1 ≡ a.1 = ap (map inverse) is ∙ mapped_back s.to inverse a.1 (λ x l. inverse_is x (omega (arith, l, places_there x (atoms_at_top g.process) a m))) in
        (λ i. ((sym e i).0, links i))));
  }

  -- a link that is reached is taken to one that is
  reached_to : {y : ℕ} → ReachesLink g y → ReachesLink k (s.to y)
  reached_to the_root = subst (ReachesLink k) (sym s.roots) the_root
  reached_to (across {a = a} {xs = xs} {x = x} {y = y} among first second w) =
      let u = among_shuffled (shuffle_flip s.atoms) among in
      let is : map s.to xs ≡ u.0.1 = ap (λ q. q.1) u.2 in
      across u.1 (subst (Among (s.to x)) is (among_links s.to x xs first)) (subst (Among (s.to y)) is (among_links s.to y xs second)) (reached_to w)

  pub same_ground : OnlyAtoms k.process → IsGround g → IsGround k
  same_ground o' ground =
      let root_there : count g.root (atoms_at_top g.process) ≡ 1 = sym (counted g.root g.process o) ∙ ground.root_is_free in
      record {
        only_atoms = o';
        root_is_free = counted k.root k.process o' ∙ ap (λ z. count z (atoms_at_top k.process)) (sym s.roots) ∙ same_count g.root (omega (arith, root_there)) ∙ root_there;
        nothing_else_free = λ y e.
            let c : count y (atoms_at_top k.process) ≡ 1 = sym (counted y k.process o') ∙ e in
            let a = count_from s.to y s.atoms (omega (arith, c)) in
            let f : count a.0 (atoms_at_top g.process) ≡ 1 = sym (same_count a.0 a.1) ∙ ap (λ z. count z (atoms_at_top k.process)) a.2 ∙ c in
            sym a.2 ∙ ap s.to (ground.nothing_else_free a.0 (counted a.0 g.process o ∙ f)) ∙ s.roots;
        connected = connected ground;
      }
    where
      connected : IsGround g → {a : Label} {xs : List ℕ} → Among (a, xs) (atoms_at_top k.process) → (x : ℕ) × (Among x xs) × ReachesLink k x
      connected ground {a} {xs} m =
          let u = among_shuffled s.atoms m in
          let w = ground.connected {a = u.0.0} {xs = u.0.1} u.1 in
          (s.to w.0, subst (Among (s.to w.0)) (ap (λ q. q.1) u.2) (among_links s.to w.0 u.0.1 w.1), reached_to w.2)

-- equality goes on
pub same_chained : (g k l : Rooted) → OnlyAtoms g.process → OnlyAtoms k.process → EqualParts g k → EqualParts k l → EqualParts g l
same_chained g k l o o' s t = record {
  to = λ x. t.to (s.to x);
  one_to_one = λ x y m n e. s.one_to_one x y m n (t.one_to_one (s.to x) (s.to y) (there_too x m) (there_too y n) e);
  roots = ap t.to s.roots ∙ t.roots;
  atoms = shuffle_chain (λ a b c e f. (λ i. (a.0, sym (map_twice t.to s.to a.1) i)) ∙ ap (λ q. (q.0, map t.to q.1)) e ∙ f) s.atoms (atoms_at_top l.process) t.atoms;
}
  where
    there_too : (x : ℕ) → occurrences x g.process ≢ 0 → occurrences (s.to x) k.process ≢ 0
    there_too x m z =
        let c = counted x g.process o in
        elim (cases_eq (count x (atoms_at_top g.process)) 0) [
          | inl q ↦ m (omega (arith, c, q))
          | inr d ↦ let w = same_count g k o s x (omega (arith, d)) in let u = counted (s.to x) k.process o' in omega (arith, w, u, z, d)
        ]
