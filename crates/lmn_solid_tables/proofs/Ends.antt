-- The table of ports has the two ports of each link.
use Rattle.std.proofs.Common.{ℕ, zero, suc, Bool, true, false, cond, ◌≡◌, ◌≢◌, ◌+◌, ◌*◌, ◌<◌, ◌≤◌, ◌⊎◌, inl, inr, List, [], ◌∷◌, ◌++◌, length, refl, sym, ap, subst, ◌∙◌, arith}
use Rattle.std.specs.Prelude.{Some, ◌==◌, if◌then◌else◌, count_by, slice_get, slice_set}
use Rattle.std.proofs.lemmas.List.{append_assoc, length-append, length-set}
use Rattle.std.proofs.lemmas.List.Recursion.{is_count_by}
use Rattle.lmn_base.specs.Links.{EachTwice, Numbers}
use Rattle.lmn_base.proofs.Common.{numbers_head, all_met}
use Rattle.lmn_base.proofs.Lists.{get_front, plus_nothing, get_set, get_set_away}
use Rattle.lmn_base.proofs.Numbers.{below_or_from, equal_itself, equal_when, same_or_not, unequal, three_ways}
use Rattle.lmn_solid_tables.specs.declared.tables.FlatAtom.{FlatAtom}
use Rattle.lmn_solid_tables.specs.declared.tables.Port.{Port}
use Rattle.lmn_solid_tables.specs.Tables.{no_port}
use Rattle.lmn_solid_tables.specs.Building.{all_ports_added, links_of_atoms, port_added, ports_added}
use Rattle.lmn_solid_tables.proofs.Preorder.{get_behind}
use Rattle.lmn_solid_tables.proofs.Steps.{length_two}

-- ---- links with their ports, in order

abbrev pub Entry : Type 0
Entry = ℕ × Port

abbrev pub port_at : ℕ → ℕ → Port
port_at a i = record { atom = a; index = i }

abbrev pub entries : ℕ → ℕ → List ℕ → List Entry
entries a i [] = []
entries a i (x ∷ xs) = (x, port_at a i) ∷ entries a (suc i) xs

abbrev pub all_entries : ℕ → List FlatAtom → List Entry
all_entries a [] = []
all_entries a (y ∷ ys) = entries a 0 y.links ++ all_entries (suc a) ys

abbrev pub entered_all : List Port → List Entry → List Port
entered_all ps [] = ps
entered_all ps (e ∷ es) = entered_all (port_added ps e.0 e.1) es

abbrev pub links_in : List Entry → List ℕ
links_in [] = []
links_in (e ∷ es) = e.0 ∷ links_in es

-- the ports of a link, in order
abbrev pub places : ℕ → List Entry → List Port
places x [] = []
places x (e ∷ es) = (if x == e.0 then e.1 ∷ [] else []) ++ places x es

entered_ports : (ps : List Port) (a i : ℕ) (xs : List ℕ) (es : List Entry) → entered_all ps (entries a i xs ++ es) ≡ entered_all (ports_added ps a i xs) es
entered_ports ps a i [] es = refl
entered_ports ps a i (x ∷ xs) es = entered_ports (port_added ps x (port_at a i)) a (suc i) xs es

pub entered_atoms : (ps : List Port) (a : ℕ) (ys : List FlatAtom) → entered_all ps (all_entries a ys) ≡ all_ports_added ps a ys
entered_atoms ps a [] = refl
entered_atoms ps a (y ∷ ys) = entered_ports ps a 0 y.links (all_entries (suc a) ys) ∙ entered_atoms (ports_added ps a 0 y.links) (suc a) ys

links_of_entries : (a i : ℕ) (xs : List ℕ) (es : List Entry) → links_in (entries a i xs ++ es) ≡ xs ++ links_in es
links_of_entries a i [] es = refl
links_of_entries a i (x ∷ xs) es = ap (λ l. x ∷ l) (links_of_entries a (suc i) xs es)

pub links_of_all : (a : ℕ) (ys : List FlatAtom) → links_in (all_entries a ys) ≡ links_of_atoms ys
links_of_all a [] = refl
links_of_all a (y ∷ ys) = links_of_entries a 0 y.links (all_entries (suc a) ys) ∙ ap (λ l. y.links ++ l) (links_of_all (suc a) ys)

-- ---- the table so far

-- what the table has of a link with these ports
abbrev pub HasEnds : List Port → ℕ → List Port → Type 0
HasEnds ps x [] = ⊥
HasEnds ps x (p ∷ []) = slice_get ps (2 * x) ≡ Some p
HasEnds ps x (p ∷ q ∷ []) = (slice_get ps (2 * x) ≡ Some p) × (slice_get ps (2 * x + 1) ≡ Some q)
HasEnds ps x (p ∷ q ∷ r ∷ rs) = ⊥

-- n links have occurred, with these ports
pub record Told (n : ℕ) (ps : List Port) (done : ℕ → List Port) : Type 0 where
  pub even : length ps ≡ 2 * n
  pub later : (x : ℕ) → n ≤ x → done x ≡ []
  pub ends : (x : ℕ) → x < n → HasEnds ps x (done x)

-- with a port more
abbrev pub one_more : (ℕ → List Port) → Entry → ℕ → List Port
one_more done e x = done x ++ (if x == e.0 then e.1 ∷ [] else [])

ends_alike : (ps qs : List Port) (x : ℕ) (ds : List Port) → ((k : ℕ) (p : Port) → (k ≡ 2 * x) ⊎ (k ≡ 2 * x + 1) → slice_get ps k ≡ Some p → slice_get qs k ≡ Some p) → HasEnds ps x ds → HasEnds qs x ds
ends_alike ps qs x [] f h = h
ends_alike ps qs x (p ∷ []) f h = f (2 * x) p (inl refl) h
ends_alike ps qs x (p ∷ q ∷ []) f h = (f (2 * x) p (inl refl) h.0, f (2 * x + 1) q (inr refl) h.1)
ends_alike ps qs x (p ∷ q ∷ r ∷ rs) f h = h

module _ (n : ℕ) (ps : List Port) (done : ℕ → List Port) (told : Told n ps done) (x : ℕ) (p : Port) where
  more_elsewhere : (y : ℕ) → y ≢ x → one_more done (x, p) y ≡ done y
  more_elsewhere y d = ap (λ b. done y ++ (if b then p ∷ [] else [])) (unequal y x d) ∙ plus_nothing (done y)

  more_here : one_more done (x, p) x ≡ done x ++ p ∷ []
  more_here = ap (λ b. done x ++ (if b then p ∷ [] else [])) (equal_itself x)

  -- a link that has occurred once
  told_known : x < n → length (done x ++ p ∷ []) ≤ 2 → Told n (port_added ps x p) (one_more done (x, p))
  told_known l few =
      let e : port_added ps x p ≡ slice_set ps (2 * x + 1) p = ap (λ b. if b then ps ++ p ∷ no_port ∷ [] else slice_set ps (2 * x + 1) p) (unequal (2 * x) (length ps) (λ d. omega (arith, d, l, told.even))) in
      subst (λ qs. Told n qs (one_more done (x, p))) (sym e) (record {
        even = length-set ps (2 * x + 1) p ∙ told.even;
        later = λ y m. more_elsewhere y (λ d. omega (arith, d, l, m)) ∙ told.later y m;
        ends = λ y m. at_link y m (same_or_not y x);
      })
    where
      second : (ds : List Port) → HasEnds ps x ds → length (ds ++ p ∷ []) ≤ 2 → HasEnds (slice_set ps (2 * x + 1) p) x (ds ++ p ∷ [])
      second [] h f = absurd h
      second (q ∷ []) h f = (get_set_away ps (2 * x + 1) p (2 * x) (λ d. omega (arith, d)) ∙ h, get_set ps (2 * x + 1) p (omega (arith, told.even, l)))
      second (q ∷ r ∷ []) h f = absurd (omega (arith, f))
      second (q ∷ r ∷ s ∷ ds) h f = absurd h

      at_link : (y : ℕ) → y < n → (y ≡ x) ⊎ (y ≢ x) → HasEnds (slice_set ps (2 * x + 1) p) y (one_more done (x, p) y)
      at_link y m (inl d) = subst (λ z. HasEnds (slice_set ps (2 * x + 1) p) z (one_more done (x, p) z)) (sym d) (subst (HasEnds (slice_set ps (2 * x + 1) p) x) (sym more_here) (second (done x) (told.ends x l) few))
      at_link y m (inr d) =
          subst (HasEnds (slice_set ps (2 * x + 1) p) y) (sym (more_elsewhere y d)) (ends_alike ps (slice_set ps (2 * x + 1) p) y (done y) (λ k q o g. get_set_away ps (2 * x + 1) p k (elsewhere y d k o) ∙ g) (told.ends y m))
        where
          elsewhere : (y : ℕ) → y ≢ x → (k : ℕ) → (k ≡ 2 * y) ⊎ (k ≡ 2 * y + 1) → k ≢ 2 * x + 1
          elsewhere y d k (inl e) f = omega (arith, e, f)
          elsewhere y d k (inr e) f = d (omega (arith, e, f))

  -- a new link
  told_new : x ≡ n → Told (suc n) (port_added ps x p) (one_more done (x, p))
  told_new e =
      let t : 2 * x ≡ length ps = omega (arith, e, told.even) in
      let g : port_added ps x p ≡ ps ++ p ∷ no_port ∷ [] = ap (λ b. if b then ps ++ p ∷ no_port ∷ [] else slice_set ps (2 * x + 1) p) (ap (λ k. k == length ps) t ∙ equal_itself (length ps)) in
      subst (λ qs. Told (suc n) qs (one_more done (x, p))) (sym g) (record {
        even = length_two ps p no_port ∙ omega (arith, told.even);
        later = λ y m. more_elsewhere y (λ d. omega (arith, d, e, m)) ∙ told.later y (omega (arith, m));
        ends = λ y m. at_link t y m (same_or_not y x);
      })
    where
      first : 2 * x ≡ length ps → slice_get (ps ++ p ∷ no_port ∷ []) (2 * x) ≡ Some p
      first t = let z : 2 * x ≡ length ps + 0 = omega (arith, t) in ap (slice_get (ps ++ p ∷ no_port ∷ [])) z ∙ get_behind ps (p ∷ no_port ∷ []) 0

      at_link : 2 * x ≡ length ps → (y : ℕ) → y < suc n → (y ≡ x) ⊎ (y ≢ x) → HasEnds (ps ++ p ∷ no_port ∷ []) y (one_more done (x, p) y)
      at_link t y m (inl d) =
          let here : one_more done (x, p) x ≡ p ∷ [] = more_here ∙ ap (λ ds. ds ++ p ∷ []) (told.later x (omega (arith, e))) in
          subst (λ z. HasEnds (ps ++ p ∷ no_port ∷ []) z (one_more done (x, p) z)) (sym d) (subst (HasEnds (ps ++ p ∷ no_port ∷ []) x) (sym here) (first t))
      at_link t y m (inr d) =
          subst (HasEnds (ps ++ p ∷ no_port ∷ []) y) (sym (more_elsewhere y d)) (ends_alike ps (ps ++ p ∷ no_port ∷ []) y (done y) (λ k q o g. get_front ps (p ∷ no_port ∷ []) k q g) (told.ends y (omega_below y n x d e m)))
        where
          omega_below : (y n x : ℕ) → y ≢ x → x ≡ n → y < suc n → y < n
          omega_below y n x d e m = by_order (three_ways y n)
            where
              by_order : (y < n) ⊎ ((y ≡ n) ⊎ (n < y)) → y < n
              by_order (inl l) = l
              by_order (inr (inl l)) = absurd (d (l ∙ sym e))
              by_order (inr (inr l)) = absurd (omega (arith, l, m))

told_alike : (n : ℕ) (ps : List Port) (f g : ℕ → List Port) → ((x : ℕ) → f x ≡ g x) → Told n ps f → Told n ps g
told_alike n ps f g e t = record {
  even = t.even;
  later = λ x l. sym (e x) ∙ t.later x l;
  ends = λ x l. subst (HasEnds ps x) (e x) (t.ends x l);
}

shorter : {A : Type 0} (xs ys : List A) → length (xs ++ ys) ≤ 2 → length xs ≤ 2
shorter xs ys l = omega (arith, l, length-append xs ys)

-- the table once all ports are entered, where no link stands more than twice
pub told_all : (es : List Entry) (n m : ℕ) (ps : List Port) (done : ℕ → List Port) → Numbers n (links_in es) m → Told n ps done → ((x : ℕ) → length (done x ++ places x es) ≤ 2) → Told m (entered_all ps es) (λ x. done x ++ places x es)
told_all [] n m ps done h t few = told_alike m ps done (λ x. done x ++ []) (λ x. sym (plus_nothing (done x))) (subst (λ k. Told k ps done) (all_met h) t)
told_all (e ∷ es) n m ps done h t few =
    by_head (numbers_head h) (λ k qs g u. told_all es k m qs (one_more done e) g u (λ x. subst (λ ds. length ds ≤ 2) (sym (behind x)) (few x)))
  where
    behind : (x : ℕ) → one_more done e x ++ places x es ≡ done x ++ places x (e ∷ es)
    behind x = append_assoc (done x) (if x == e.0 then e.1 ∷ [] else []) (places x es)

    here : length (done e.0 ++ e.1 ∷ []) ≤ 2
    here = subst (λ ds. length ds ≤ 2) (more_here n ps done t e.0 e.1) (shorter (one_more done e e.0) (places e.0 es) (subst (λ ds. length ds ≤ 2) (sym (behind e.0)) (few e.0)))

    by_head : ((e.0 < n) × Numbers n (links_in es) m) ⊎ ((e.0 ≡ n) × Numbers (suc n) (links_in es) m)
        → ((k : ℕ) (qs : List Port) → Numbers k (links_in es) m → Told k qs (one_more done e) → Told m (entered_all qs es) (λ x. one_more done e x ++ places x es))
        → Told m (entered_all (port_added ps e.0 e.1) es) (λ x. done x ++ places x (e ∷ es))
    by_head (inl g) f = told_alike m (entered_all (port_added ps e.0 e.1) es) (λ x. one_more done e x ++ places x es) (λ x. done x ++ places x (e ∷ es)) behind (f n (port_added ps e.0 e.1) g.1 (told_known n ps done t e.0 e.1 g.0 here))
    by_head (inr g) f = told_alike m (entered_all (port_added ps e.0 e.1) es) (λ x. one_more done e x ++ places x es) (λ x. done x ++ places x (e ∷ es)) behind (f (suc n) (port_added ps e.0 e.1) g.1 (told_new n ps done t e.0 e.1 g.0))

told_nothing : Told 0 [] (λ x. [])
told_nothing = record { even = refl; later = λ x l. refl; ends = λ x l. absurd (omega (arith, l)) }

-- ---- which ports

-- the port is one of them
abbrev pub OneOf : Port → List Port → Type 0
OneOf q [] = ⊥
OneOf q (p ∷ ps) = (p ≡ q) ⊎ OneOf q ps

one_either : (q : Port) (us vs : List Port) → OneOf q (us ++ vs) → OneOf q us ⊎ OneOf q vs
one_either q [] vs h = inr h
one_either q (u ∷ us) vs (inl e) = inl (inl e)
one_either q (u ∷ us) vs (inr h) = by_part (one_either q us vs h)
  where
    by_part : OneOf q us ⊎ OneOf q vs → OneOf q (u ∷ us) ⊎ OneOf q vs
    by_part (inl i) = inl (inr i)
    by_part (inr i) = inr i

one_left : (q : Port) (us vs : List Port) → OneOf q us → OneOf q (us ++ vs)
one_left q [] vs h = absurd h
one_left q (u ∷ us) vs (inl e) = inl e
one_left q (u ∷ us) vs (inr h) = inr (one_left q us vs h)

one_right : (q : Port) (us vs : List Port) → OneOf q vs → OneOf q (us ++ vs)
one_right q [] vs h = h
one_right q (u ∷ us) vs h = inr (one_right q us vs h)

places_both : (x : ℕ) (es fs : List Entry) → places x (es ++ fs) ≡ places x es ++ places x fs
places_both x [] fs = refl
places_both x (e ∷ es) fs = ap (λ ps. (if x == e.0 then e.1 ∷ [] else []) ++ ps) (places_both x es fs) ∙ sym (append_assoc (if x == e.0 then e.1 ∷ [] else []) (places x es) (places x fs))

one_if : (q p : Port) (x y : ℕ) → OneOf q (if x == y then p ∷ [] else []) → (x ≡ y) × (p ≡ q)
one_if q p x y h = by_test (x == y) refl h
  where
    by_test : (b : Bool) → (x == y) ≡ b → OneOf q (if b then p ∷ [] else []) → (x ≡ y) × (p ≡ q)
    by_test true e (inl d) = (equal_when x y e, d)
    by_test true e (inr d) = absurd d
    by_test false e d = absurd d

-- a port of an atom with its link
entry_there : (x a i : ℕ) (xs : List ℕ) (k : ℕ) → slice_get xs k ≡ Some x → OneOf (port_at a (i + k)) (places x (entries a i xs))
entry_there x a i [] k e = absurd (cc e)
entry_there x a i (y ∷ xs) zero e =
    let d : y ≡ x = cc e in
    let z : i ≡ i + 0 = omega arith in
    one_left (port_at a (i + 0)) (if x == y then port_at a i ∷ [] else []) (places x (entries a (suc i) xs))
    (subst (λ b. OneOf (port_at a (i + 0)) (if b then port_at a i ∷ [] else [])) (sym (ap (λ w. x == w) d ∙ equal_itself x)) (inl (ap (port_at a) z)))
entry_there x a i (y ∷ xs) (suc k) e =
    let z : suc i + k ≡ i + suc k = omega arith in
    one_right (port_at a (i + suc k)) (if x == y then port_at a i ∷ [] else []) (places x (entries a (suc i) xs))
    (subst (λ j. OneOf (port_at a j) (places x (entries a (suc i) xs))) z (entry_there x a (suc i) xs k e))

pub port_there : (x a : ℕ) (ys : List FlatAtom) (k i : ℕ) (y : FlatAtom) → slice_get ys k ≡ Some y → slice_get y.links i ≡ Some x → OneOf (port_at (a + k) i) (places x (all_entries a ys))
port_there x a [] k i y e d = absurd (cc e)
port_there x a (z ∷ ys) zero i y e d =
    let w : a ≡ a + 0 = omega arith in
    let v : 0 + i ≡ i = omega arith in
    let s : z ≡ y = cc e in
    subst (OneOf (port_at (a + 0) i)) (sym (places_both x (entries a 0 z.links) (all_entries (suc a) ys)))
    (one_left (port_at (a + 0) i) (places x (entries a 0 z.links)) (places x (all_entries (suc a) ys))
    (subst (λ b. OneOf (port_at b i) (places x (entries a 0 z.links))) w (subst (λ j. OneOf (port_at a j) (places x (entries a 0 z.links))) v (entry_there x a 0 z.links i (ap (λ (t : FlatAtom). slice_get t.links i) s ∙ d)))))
port_there x a (z ∷ ys) (suc k) i y e d =
    let w : suc a + k ≡ a + suc k = omega arith in
    subst (OneOf (port_at (a + suc k) i)) (sym (places_both x (entries a 0 z.links) (all_entries (suc a) ys)))
    (one_right (port_at (a + suc k) i) (places x (entries a 0 z.links)) (places x (all_entries (suc a) ys))
    (subst (λ b. OneOf (port_at b i) (places x (all_entries (suc a) ys))) w (port_there x (suc a) ys k i y e d)))

-- where a port of a link stands
entry_from : (x a i : ℕ) (xs : List ℕ) (q : Port) → OneOf q (places x (entries a i xs)) → (k : ℕ) × (q ≡ port_at a (i + k)) × (slice_get xs k ≡ Some x)
entry_from x a i [] q h = absurd h
entry_from x a i (y ∷ xs) q h = by_part (one_either q (if x == y then port_at a i ∷ [] else []) (places x (entries a (suc i) xs)) h) (λ g. entry_from x a (suc i) xs q g)
  where
    by_part : OneOf q (if x == y then port_at a i ∷ [] else []) ⊎ OneOf q (places x (entries a (suc i) xs)) → (OneOf q (places x (entries a (suc i) xs)) → (k : ℕ) × (q ≡ port_at a (suc i + k)) × (slice_get xs k ≡ Some x))
        → (k : ℕ) × (q ≡ port_at a (i + k)) × (slice_get (y ∷ xs) k ≡ Some x)
    by_part (inl g) f = let r = one_if q (port_at a i) x y g in let z : i ≡ i + 0 = omega arith in (0, sym r.1 ∙ ap (port_at a) z, ap Some (sym r.0))
    by_part (inr g) f = let r = f g in let z : suc i + r.0 ≡ i + suc r.0 = omega arith in (suc r.0, r.1 ∙ ap (port_at a) z, r.2)

-- the port has the link
pub record HasLink (a : ℕ) (ys : List FlatAtom) (x : ℕ) (q : Port) : Type 0 where
  pub place : ℕ
  pub is : q.atom ≡ a + place
  pub atom : FlatAtom
  pub there : slice_get ys place ≡ Some atom
  pub link : slice_get atom.links q.index ≡ Some x

pub port_from : (x a : ℕ) (ys : List FlatAtom) (q : Port) → OneOf q (places x (all_entries a ys)) → HasLink a ys x q
port_from x a [] q h = absurd h
port_from x a (y ∷ ys) q h = by_part (one_either q (places x (entries a 0 y.links)) (places x (all_entries (suc a) ys)) (subst (OneOf q) (places_both x (entries a 0 y.links) (all_entries (suc a) ys)) h)) (λ g. port_from x (suc a) ys q g)
  where
    by_part : OneOf q (places x (entries a 0 y.links)) ⊎ OneOf q (places x (all_entries (suc a) ys)) → (OneOf q (places x (all_entries (suc a) ys)) → HasLink (suc a) ys x q) → HasLink a (y ∷ ys) x q
    by_part (inl g) f =
        let r = entry_from x a 0 y.links q g in
        let d : r.0 ≡ 0 + r.0 = omega arith in
        record { place = 0; is = ap (λ (p : Port). p.atom) r.1 ∙ omega arith; atom = y; there = refl; link = ap (slice_get y.links) (ap (λ (p : Port). p.index) r.1 ∙ sym d) ∙ r.2 }
    by_part (inr g) f = let r = f g in record { place = suc r.place; is = omega (arith, r.is); atom = r.atom; there = r.there; link = r.link }

-- no port stands twice
abbrev pub Lone : List Port → Type 0
Lone [] = Unit {0}
Lone (p ∷ ps) = ((q : Port) → OneOf q ps → p ≢ q) × Lone ps

lone_both : (us vs : List Port) → Lone us → Lone vs → ((p q : Port) → OneOf p us → OneOf q vs → p ≢ q) → Lone (us ++ vs)
lone_both [] vs l m f = m
lone_both (u ∷ us) vs l m f = ((λ q h. apart q (one_either q us vs h)), lone_both us vs l.1 m (λ p q i j. f p q (inr i) j))
  where
    apart : (q : Port) → OneOf q us ⊎ OneOf q vs → u ≢ q
    apart q (inl i) = l.0 q i
    apart q (inr i) = f u q (inl refl) i

lone_if : (b : Bool) (p : Port) → Lone (if b then p ∷ [] else [])
lone_if true p = ((λ q h. absurd h), tt)
lone_if false p = tt

lone_entries : (x a i : ℕ) (xs : List ℕ) → Lone (places x (entries a i xs))
lone_entries x a i [] = tt
lone_entries x a i (y ∷ xs) = lone_both (if x == y then port_at a i ∷ [] else []) (places x (entries a (suc i) xs)) (lone_if (x == y) (port_at a i)) (lone_entries x a (suc i) xs) (λ p q g h e.
    let r = (one_if p (port_at a i) x y g).1 in
    let s = entry_from x a (suc i) xs q h in
    let d : i ≡ suc i + s.0 = ap (λ (t : Port). t.index) (r ∙ e ∙ s.1) in
    omega (arith, d))

pub lone_all : (x a : ℕ) (ys : List FlatAtom) → Lone (places x (all_entries a ys))
lone_all x a [] = tt
lone_all x a (y ∷ ys) = subst Lone (sym (places_both x (entries a 0 y.links) (all_entries (suc a) ys)))
    (lone_both (places x (entries a 0 y.links)) (places x (all_entries (suc a) ys)) (lone_entries x a 0 y.links) (lone_all x (suc a) ys) (λ p q g h e.
    let r = ap (λ (t : Port). t.atom) (entry_from x a 0 y.links p g).1 in
    let s = (port_from x (suc a) ys q h).is in
    let d : p.atom ≡ q.atom = ap (λ (t : Port). t.atom) e in
    omega (arith, r, s, d)))

-- ---- each link twice

-- how often a number stands in a list, one after another
abbrev pub counted : ℕ → List ℕ → ℕ
counted x [] = 0
counted x (y ∷ ys) = cond (x == y) (1 + counted x ys) (counted x ys)

counted_more : (b : Bool) (p : Port) (ps : List Port) (n : ℕ) → length ps ≡ n → length ((if b then p ∷ [] else []) ++ ps) ≡ cond b (1 + n) n
counted_more true p ps n e = omega (arith, e)
counted_more false p ps n e = e

places_counted : (x : ℕ) (es : List Entry) → length (places x es) ≡ counted x (links_in es)
places_counted x [] = refl
places_counted x (e ∷ es) = counted_more (x == e.0) e.1 (places x es) (counted x (links_in es)) (places_counted x es)

places_twice : (ys : List FlatAtom) → EachTwice (links_of_atoms ys) → (x : ℕ) → (length (places x (all_entries 0 ys)) ≡ 0) ⊎ (length (places x (all_entries 0 ys)) ≡ 2)
places_twice ys twice x =
    let e = places_counted x (all_entries 0 ys) ∙ ap (counted x) (links_of_all 0 ys) ∙ is_count_by (counted x) (λ y. x == y) refl (λ y zs. refl) (links_of_atoms ys) in
    by_count e (twice x)
  where
    by_count : length (places x (all_entries 0 ys)) ≡ count_by (λ y. x == y) (links_of_atoms ys) → (count_by (λ y. x == y) (links_of_atoms ys) ≡ 0) ⊎ (count_by (λ y. x == y) (links_of_atoms ys) ≡ 2)
        → (length (places x (all_entries 0 ys)) ≡ 0) ⊎ (length (places x (all_entries 0 ys)) ≡ 2)
    by_count e (inl d) = inl (e ∙ d)
    by_count e (inr d) = inr (e ∙ d)

-- a link at a port has two ports, which the table has
pub record Joined (ports : List Port) (ys : List FlatAtom) (x : ℕ) : Type 0 where
  pub first : Port
  pub second : Port
  pub at_first : slice_get ports (2 * x) ≡ Some first
  pub at_second : slice_get ports (2 * x + 1) ≡ Some second
  pub apart : first ≢ second
  pub first_has : HasLink 0 ys x first
  pub second_has : HasLink 0 ys x second
  pub no_other : (q : Port) → HasLink 0 ys x q → (q ≡ first) ⊎ (q ≡ second)

module _ (ys : List FlatAtom) (ports : List Port) (m : ℕ) (is : ports ≡ all_ports_added [] 0 ys) (numbered : Numbers 0 (links_of_atoms ys) m) (twice : EachTwice (links_of_atoms ys)) where
  ports_told : Told m ports (λ x. places x (all_entries 0 ys))
  ports_told =
      subst (λ ps. Told m ps (λ x. places x (all_entries 0 ys))) (entered_atoms [] 0 ys ∙ sym is)
      (told_all (all_entries 0 ys) 0 m [] (λ x. []) (subst (λ ls. Numbers 0 ls m) (sym (links_of_all 0 ys)) numbered) told_nothing (λ x. few x (places_twice ys twice x)))
    where
      few : (x : ℕ) → (length (places x (all_entries 0 ys)) ≡ 0) ⊎ (length (places x (all_entries 0 ys)) ≡ 2) → length (places x (all_entries 0 ys)) ≤ 2
      few x (inl e) = omega (arith, e)
      few x (inr e) = omega (arith, e)

  stands_there : (x : ℕ) (q : Port) → HasLink 0 ys x q → OneOf q (places x (all_entries 0 ys))
  stands_there x q h =
      subst (λ a. OneOf (port_at a q.index) (places x (all_entries 0 ys))) (sym h.is) (port_there x 0 ys h.place q.index h.atom h.there h.link)

  -- a link that stands at a port has two ports, and the table has them
  pub joined_at : (x : ℕ) (q : Port) → HasLink 0 ys x q → Joined ports ys x
  joined_at x q h = by_list (places x (all_entries 0 ys)) refl (places_twice ys twice x) (below_or_from x m)
    where
      by_list : (ds : List Port) → places x (all_entries 0 ys) ≡ ds → (length (places x (all_entries 0 ys)) ≡ 0) ⊎ (length (places x (all_entries 0 ys)) ≡ 2) → (x < m) ⊎ (m ≤ x) → Joined ports ys x
      by_list ds e t (inr l) = absurd (subst (OneOf q) (ports_told.later x l) (stands_there x q h))
      by_list [] e t (inl l) = absurd (subst (OneOf q) e (stands_there x q h))
      by_list (p ∷ []) e (inl d) (inl l) = absurd (omega (arith, d, ap length e))
      by_list (p ∷ []) e (inr d) (inl l) = absurd (omega (arith, d, ap length e))
      by_list (p ∷ r ∷ []) e t (inl l) =
          let ends = subst (HasEnds ports x) e (ports_told.ends x l) in
          let lone = subst Lone e (lone_all x 0 ys) in
          record {
            first = p;
            second = r;
            at_first = ends.0;
            at_second = ends.1;
            apart = lone.0 r (inl refl);
            first_has = port_from x 0 ys p (subst (OneOf p) (sym e) (inl refl));
            second_has = port_from x 0 ys r (subst (OneOf r) (sym e) (inr (inl refl)));
            no_other = λ s g. one_of_two s (subst (OneOf s) e (stands_there x s g));
          }
        where
          one_of_two : (s : Port) → OneOf s (p ∷ r ∷ []) → (s ≡ p) ⊎ (s ≡ r)
          one_of_two s (inl d) = inl (sym d)
          one_of_two s (inr (inl d)) = inr (sym d)
          one_of_two s (inr (inr d)) = absurd d
      by_list (p ∷ r ∷ s ∷ ds) e (inl d) (inl l) = absurd (omega (arith, d, ap length e))
      by_list (p ∷ r ∷ s ∷ ds) e (inr d) (inl l) = absurd (omega (arith, d, ap length e))
