-- Membranes that were laid in a table are put together as they were.
use Rattle.std.specs.Prelude.{◌==◌}
use Rattle.std.proofs.Common.{ℕ, zero, suc, false, ◌≡◌, ◌+◌, ◌<◌, List, [], ◌∷◌, ◌++◌, map, length, reverse, set, get_or, take, Option, Some, refl, sym, ap, ◌∙◌, subst, arith, append_assoc, append-nil}
use Rattle.std.proofs.lemmas.List.{length-append, map-append, length-map, reverse-append, reverse-reverse, take-append-le, take_all}
use Rattle.std.proofs.lemmas.Option.{same_Some}
use Rattle.lmn_base.specs.declared.solid.Region.{Region}
use Rattle.lmn_base.specs.declared.solid.Region.TheViews.{roll-Region}
use Rattle.lmn_base.specs.declared.solid.SolidAtom.{SolidAtom}
use Rattle.lmn_solid_settle.specs.declared.assembling.Part.{Part}
use Rattle.lmn_solid_settle.specs.Raw.{RawRegion, RawRegions, laid, laid_in, no_raw, raw, raw_and, settled, settled_all, settled_atom, size, size_in}
use Rattle.lmn_solid_settle.specs.Tables.{assembled, empty_part, given, no_part, whole}
use Rattle.lmn_base.proofs.Lists.{map_itself as links_same}

-- ---- each part lies in an earlier one

-- each of some parts, of which the first has the number n, lies in one with a lesser number
abbrev pub Below : ℕ → List Part → Type 0
Below n [] = Unit {0}
Below n (p ∷ ps) = (p.around < n) × Below (suc n) ps

-- so it is with all but the first of a table
abbrev pub AreBelow : List Part → Type 0
AreBelow [] = Unit {0}
AreBelow (p ∷ ps) = Below 1 ps

below_both : (n : ℕ) (ps qs : List Part) → Below n ps → Below (n + length ps) qs → Below n (ps ++ qs)
below_both n [] qs h k = let e : n + 0 ≡ n = omega arith in subst (λ m. Below m qs) e k
below_both n (p ∷ ps) qs h k = let e : n + suc (length ps) ≡ suc n + length ps = omega arith in (h.0, below_both (suc n) ps qs h.1 (subst (λ m. Below m qs) e k))

below_front : (n : ℕ) (ps qs : List Part) → Below n (ps ++ qs) → Below n ps
below_front n [] qs h = tt
below_front n (p ∷ ps) qs h = (h.0, below_front (suc n) ps qs h.1)

below_last : (n : ℕ) (ps : List Part) (p : Part) → Below n (ps ++ p ∷ []) → p.around < n + length ps
below_last n [] p h = let l = h.0 in omega (arith, l)
below_last n (q ∷ ps) p h = let l = below_last (suc n) ps p h.1 in omega (arith, l)

below_given : (n : ℕ) (ps : List Part) (k : ℕ) (r : Region) → Below n ps → Below n (given ps k r)
below_given n [] k r h = tt
below_given n (p ∷ ps) zero r h = h
below_given n (p ∷ ps) (suc k) r h = (h.0, below_given (suc n) ps k r h.1)

-- the last of some parts lies in an earlier one,
pub last_below : (ps : List Part) (p : Part) → 0 < length ps → AreBelow (ps ++ p ∷ []) → p.around < length ps
last_below [] p some h = absurd (omega (arith, some))
last_below (q ∷ ps) p some h = let l = below_last 1 ps p h in omega (arith, l)

-- and they do so when it is given away
pub are_below_given : (ps : List Part) (p : Part) (k : ℕ) (r : Region) → AreBelow (ps ++ p ∷ []) → AreBelow (given ps k r)
are_below_given [] p k r h = tt
are_below_given (q ∷ ps) p zero r h = below_front 1 ps (p ∷ []) h
are_below_given (q ∷ ps) p (suc k) r h = below_given 1 ps k r (below_front 1 ps (p ∷ []) h)

mutual
  pub laid_size : (a n : ℕ) (m : RawRegion) → length (laid a n m) ≡ size m
  laid_size a n (raw xs ms rs) = ap suc (laid_in_size n (suc n) ms)

  pub laid_in_size : (a n : ℕ) (ms : RawRegions) → length (laid_in a n ms) ≡ size_in ms
  laid_in_size a n no_raw = refl
  laid_in_size a n (raw_and m ms) =
      length-append (laid a n m) (laid_in a (n + size m) ms) ∙ ap (λ k. k + length (laid_in a (n + size m) ms)) (laid_size a n m)
      ∙ ap (λ k. size m + k) (laid_in_size a (n + size m) ms)

-- how many parts there are
parts_size : (a n : ℕ) (m : RawRegion) → length (map empty_part (laid a n m)) ≡ size m
parts_size a n m = length-map (laid a n m) empty_part ∙ laid_size a n m

mutual
  below_laid : (a n : ℕ) (m : RawRegion) → a < n → Below n (map empty_part (laid a n m))
  below_laid a n (raw xs ms rs) l = (l, below_laid_in n (suc n) ms (omega arith))

  below_laid_in : (a n : ℕ) (ms : RawRegions) → a < n → Below n (map empty_part (laid_in a n ms))
  below_laid_in a n no_raw l = tt
  below_laid_in a n (raw_and m ms) l =
      let front = map empty_part (laid a n m) in
      let behind = map empty_part (laid_in a (n + size m) ms) in
      subst (Below n) (sym (map-append empty_part (laid a n m) (laid_in a (n + size m) ms)))
      (below_both n front behind (below_laid a n m l) (subst (λ k. Below k behind) (ap (λ k. n + k) (sym (parts_size a n m))) (below_laid_in a (n + size m) ms (omega (arith, l)))))

-- the membranes of a process lie in earlier ones
pub laid_below : (r : RawRegion) → AreBelow (map empty_part (laid 0 0 r))
laid_below (raw xs ms rs) = below_laid_in 0 1 ms (omega arith)

-- ---- what parts are put together to

-- the region of all of some parts
abbrev pub put_together : List Part → Option Region
put_together ps = assembled (length ps) ps

get_last : (ps : List Part) (p : Part) → get_or (ps ++ p ∷ []) (length ps) no_part ≡ p
get_last [] p = refl
get_last (q ∷ ps) p = get_last ps p

take_front : (ps : List Part) (p : Part) → take (length ps) (ps ++ p ∷ []) ≡ ps
take_front ps p = take-append-le (length ps) ps (p ∷ []) (omega arith) ∙ take_all (length ps) ps (omega arith)

given_length : (ps : List Part) (k : ℕ) (r : Region) → length (given ps k r) ≡ length ps
given_length [] k r = refl
given_length (p ∷ ps) zero r = refl
given_length (p ∷ ps) (suc k) r = ap suc (given_length ps k r)

-- one part alone is whole,
pub one_is_whole : (p : Part) → put_together (p ∷ []) ≡ Some (whole p)
one_is_whole p = refl

-- and else the last goes into the one around it
pub last_is_given : (ps : List Part) (p : Part) → 0 < length ps → put_together (ps ++ p ∷ []) ≡ put_together (given ps p.around (whole p))
last_is_given [] p some = absurd (omega (arith, some))
last_is_given (q ∷ ps) p some =
    ap (λ n. assembled n ((q ∷ ps) ++ p ∷ [])) size
    ∙ (λ i. assembled (suc (length ps)) (given (take_front (q ∷ ps) p i) (get_last (q ∷ ps) p i).around (whole (get_last (q ∷ ps) p i))))
    ∙ ap (λ n. assembled n (given (q ∷ ps) p.around (whole p))) (sym (given_length (q ∷ ps) p.around (whole p)))
  where
    size : length ((q ∷ ps) ++ p ∷ []) ≡ suc (suc (length ps))
    size = let n = length-append (q ∷ ps) (p ∷ []) in omega (arith, n)

-- ---- laid parts

reverse_more : (x : Region) (xs : List Region) → reverse xs ++ x ∷ [] ≡ reverse (x ∷ xs)
reverse_more x xs = sym (reverse-append (x ∷ []) xs)

-- a part gets some membranes, one after the other
abbrev given_all : List Part → ℕ → List Region → List Part
given_all ps k [] = ps
given_all ps k (r ∷ rs) = given_all (given ps k r) k rs

given_all_length : (ps : List Part) (k : ℕ) (rs : List Region) → length (given_all ps k rs) ≡ length ps
given_all_length ps k [] = refl
given_all_length ps k (r ∷ rs) = given_all_length (given ps k r) k rs ∙ given_length ps k r

given_both : (ps qs : List Part) (k : ℕ) (r : Region) → k < length ps → given (ps ++ qs) k r ≡ given ps k r ++ qs
given_both [] qs k r l = absurd (omega (arith, l))
given_both (p ∷ ps) qs zero r l = refl
given_both (p ∷ ps) qs (suc k) r l = ap (λ xs. p ∷ xs) (given_both ps qs k r (omega (arith, l)))

given_all_both : (ps qs : List Part) (k : ℕ) (rs : List Region) → k < length ps → given_all (ps ++ qs) k rs ≡ given_all ps k rs ++ qs
given_all_both ps qs k [] l = refl
given_all_both ps qs k (r ∷ rs) l =
    let n = given_length ps k r in
    ap (λ xs. given_all xs k rs) (given_both ps qs k r l) ∙ given_all_both (given ps k r) qs k rs (omega (arith, l, n))

given_one_more : (ps : List Part) (k : ℕ) (rs : List Region) (r : Region) → given_all ps k (rs ++ r ∷ []) ≡ given (given_all ps k rs) k r
given_one_more ps k [] r = refl
given_one_more ps k (x ∷ rs) r = given_one_more (given ps k x) k rs r

-- the last part gets some
abbrev with_inner : Part → List Region → Part
with_inner p rs = record { around = p.around; atoms = p.atoms; membranes = rs; rules = p.rules }

given_to_last : (ps : List Part) (p : Part) (r : Region) → given (ps ++ p ∷ []) (length ps) r ≡ ps ++ with_inner p (p.membranes ++ r ∷ []) ∷ []
given_to_last [] p r = refl
given_to_last (q ∷ ps) p r = ap (λ xs. q ∷ xs) (given_to_last ps p r)

given_all_to_last : (ps : List Part) (p : Part) (rs : List Region) → given_all (ps ++ p ∷ []) (length ps) rs ≡ ps ++ with_inner p (p.membranes ++ rs) ∷ []
given_all_to_last ps p [] = ap (λ xs. ps ++ with_inner p xs ∷ []) (sym (append-nil p.membranes))
given_all_to_last ps p (r ∷ rs) =
    ap (λ xs. given_all xs (length ps) rs) (given_to_last ps p r) ∙ given_all_to_last ps (with_inner p (p.membranes ++ r ∷ [])) rs
    ∙ ap (λ xs. ps ++ with_inner p xs ∷ []) (append_assoc p.membranes (r ∷ []) rs)

-- atoms with each link at itself
pub atoms_same : (xs : List SolidAtom) → map (settled_atom (λ x. x)) xs ≡ xs
atoms_same [] = refl
atoms_same (a ∷ xs) = λ i. record { functor = a.functor; links = links_same a.links i } ∷ atoms_same xs i

-- a part that has got its membranes is the region
made_whole : (a : ℕ) (xs : List SolidAtom) (ms : RawRegions) (rs : List ℕ) →
    whole (with_inner (empty_part (record { around = a; atoms = xs; rules = rs })) (reverse (settled_all (λ x. x) ms))) ≡ settled (λ x. x) (raw xs ms rs)
made_whole a xs ms rs = λ i. roll-Region (record { atoms = sym (atoms_same xs) i; membranes = reverse-reverse (settled_all (λ x. x) ms) i; rules = rs })

mutual
  region_given : (qs : List Part) (a : ℕ) (m : RawRegion) → a < length qs → put_together (qs ++ map empty_part (laid a (length qs) m)) ≡ put_together (given qs a (settled (λ x. x) m))
  region_given qs a (raw xs ms rs) l =
      let p = empty_part (record { around = a; atoms = xs; rules = rs }) in
      let behind = map empty_part (laid_in (length qs) (suc (length qs)) ms) in
      let size : length (qs ++ p ∷ []) ≡ suc (length qs) = (let n = length-append qs (p ∷ []) in omega (arith, n)) in
      let inner = reverse (settled_all (λ x. x) ms) in
      ap put_together (sym (append_assoc qs (p ∷ []) behind))
      ∙ ap (λ n. put_together ((qs ++ p ∷ []) ++ map empty_part (laid_in (length qs) n ms))) (sym size)
      ∙ forest_given (qs ++ p ∷ []) (length qs) ms (omega (arith, size))
      ∙ ap put_together (given_all_to_last qs p inner)
      ∙ last_is_given qs (with_inner p inner) (omega (arith, l))
      ∙ ap (λ r. put_together (given qs a r)) (made_whole a xs ms rs)

  forest_given : (qs : List Part) (a : ℕ) (ms : RawRegions) → a < length qs → put_together (qs ++ map empty_part (laid_in a (length qs) ms)) ≡ put_together (given_all qs a (reverse (settled_all (λ x. x) ms)))
  forest_given qs a no_raw l = ap put_together (append-nil qs)
  forest_given qs a (raw_and m ms) l =
      let here = map empty_part (laid a (length qs) m) in
      let inner = reverse (settled_all (λ x. x) ms) in
      let n = parts_size a (length qs) m in
      let both = length-append qs here in
      let long : length (qs ++ here) ≡ length qs + size m = omega (arith, n, both) in
      let same = given_all_length qs a inner in
      ap (λ xs. put_together (qs ++ xs)) (map-append empty_part (laid a (length qs) m) (laid_in a (length qs + size m) ms))
      ∙ ap put_together (sym (append_assoc qs here (map empty_part (laid_in a (length qs + size m) ms))))
      ∙ ap (λ k. put_together ((qs ++ here) ++ map empty_part (laid_in a k ms))) (sym long)
      ∙ forest_given (qs ++ here) a ms (omega (arith, long, l))
      ∙ ap put_together (given_all_both qs here a inner l)
      ∙ ap (λ k. put_together (given_all qs a inner ++ map empty_part (laid a k m))) (sym same)
      ∙ region_given (given_all qs a inner) a m (omega (arith, same, l))
      ∙ ap put_together (sym (given_one_more qs a inner (settled (λ x. x) m)))
      ∙ ap (λ xs. put_together (given_all qs a xs)) (reverse_more (settled (λ x. x) m) (settled_all (λ x. x) ms))

-- a table of the membranes of a process is put together to its region
pub laid_is_put_together : (r : RawRegion) → put_together (map empty_part (laid 0 0 r)) ≡ Some (settled (λ x. x) r)
laid_is_put_together (raw xs ms rs) =
    let p = empty_part (record { around = 0; atoms = xs; rules = rs }) in
    forest_given (p ∷ []) 0 ms (omega arith) ∙ ap put_together (given_all_to_last [] p (reverse (settled_all (λ x. x) ms)))
    ∙ ap Some (made_whole 0 xs ms rs)

-- ---- steps of the code

-- a part that is written back with one membrane more
given_is_set : (ps : List Part) (k : ℕ) (was : Part) (inner : List Region) (r : Region) → k < length ps → was ≡ get_or ps k was → inner ≡ was.membranes ++ r ∷ []
    → given ps k r ≡ set ps k (record { around = was.around; atoms = was.atoms; membranes = inner; rules = was.rules })
given_is_set [] k was inner r l e i = absurd (omega (arith, l))
given_is_set (p ∷ ps) zero was inner r l e i =
    let same : p ≡ was = sym e in
    (λ j. record { around = (same j).around; atoms = (same j).atoms; membranes = (ap (λ (q : Part). q.membranes ++ r ∷ []) same ∙ sym i) j; rules = (same j).rules } ∷ ps)
given_is_set (p ∷ ps) (suc k) was inner r l e i = ap (λ xs. p ∷ xs) (given_is_set ps k was inner r (omega (arith, l)) e i)

-- the parts that are left, where the last was given away
pub step_together : (ps left : List Part) (p was : Part) (inner : List Region) (r : Region) (R : Option Region) → ps ≡ left ++ p ∷ [] → p.around < length left → r ≡ whole p → was ≡ get_or left p.around was
    → inner ≡ was.membranes ++ r ∷ [] → put_together ps ≡ R → put_together (set left p.around (record { around = was.around; atoms = was.atoms; membranes = inner; rules = was.rules })) ≡ R
step_together ps left p was inner r R e l w g i h =
    ap put_together (sym (given_is_set left p.around was inner r l g i)) ∙ ap (λ x. put_together (given left p.around x)) w
    ∙ sym (last_is_given left p (omega (arith, l))) ∙ ap put_together (sym e) ∙ h

-- they lie in earlier ones
pub step_below : (ps left : List Part) (p was : Part) (inner : List Region) (r : Region) → ps ≡ left ++ p ∷ [] → p.around < length left → was ≡ get_or left p.around was
    → inner ≡ was.membranes ++ r ∷ [] → AreBelow ps → AreBelow (set left p.around (record { around = was.around; atoms = was.atoms; membranes = inner; rules = was.rules }))
step_below ps left p was inner r e l g i h =
    subst AreBelow (given_is_set left p.around was inner r l g i) (are_below_given left p p.around r (subst AreBelow e h))

-- the last part alone is what all were to be put together to
pub step_last : (ps left : List Part) (p : Part) (R : Region) → ps ≡ left ++ p ∷ [] → left ≡ [] → put_together ps ≡ Some R → whole p ≡ R
step_last ps left p R e none h = same_Some (whole p) R (sym (one_is_whole p) ∙ ap (λ xs. put_together (xs ++ p ∷ [])) (sym none) ∙ ap put_together (sym e) ∙ h)

-- a number that isn't 0
pub not_none : (n : ℕ) → false ≡ (n == 0) → 0 < n
not_none zero e = absurd (cc)
not_none (suc n) e = omega arith
