-- Lists of positions in which each stands once.
use Rattle.std.proofs.Common.{◌≡◌, ◌≢◌, ℕ, suc, zero, ◌+◌, ◌≤◌, List, [], ◌∷◌, ◌++◌, length, slice_get, Some, refl, sym, ap, ◌∙◌, subst, arith}
use Rattle.std.specs.List.{range_with_len}
use Rattle.std.proofs.lemmas.List.{length-append, map-id}
use Rattle.std.proofs.lemmas.Option.{same_Some}
use Rattle.lmn_congruence.specs.Orders.{Among, at_head, further, Put, here, there, Shuffle, none, more, EachOnce}
use Rattle.lmn_congruence.specs.Regions.{SolidAtom}
use Rattle.lmn_congruence.specs.Same.{renamed_atom}

-- a list is another one with one element put in
put_in : (x : ℕ) (ys : List ℕ) → Among x ys → (zs : List ℕ) × Put x zs ys
put_in x (y ∷ ys) at_head = (ys, here)
put_in x (y ∷ ys) (further h) = let more = put_in x ys h in (y ∷ more.0, there more.1)
put_in x [] h = elim h [ ]

from_put : {x : ℕ} {zs ys : List ℕ} → Put x zs ys → (v : ℕ) → Among v zs → Among v ys
from_put here v h = further h
from_put (there p) v at_head = at_head
from_put (there p) v (further h) = further (from_put p v h)

into_put : {x : ℕ} {zs ys : List ℕ} → Put x zs ys → (v : ℕ) → v ≢ x → Among v ys → Among v zs
into_put here v d at_head = absurd (d refl)
into_put here v d (further h) = h
into_put (there p) v d at_head = at_head
into_put (there p) v d (further h) = further (into_put p v d h)

it_stands : {x : ℕ} {zs ys : List ℕ} → Put x zs ys → Among x ys
it_stands here = at_head
it_stands (there p) = further (it_stands p)

put_once : {x : ℕ} {zs ys : List ℕ} → Put x zs ys → EachOnce ys → (¬ (Among x zs)) × EachOnce zs
put_once here h = (h.0, h.1)
put_once {x} (there {z = z} {ys = zs} p) h =
    let more = put_once p h.1 in
    (λ i. go x more.0 p h.0 i, ((λ i. h.0 (from_put p z i)), more.1))
  where
    go : (x : ℕ) → ¬ (Among x zs) → {ws : List ℕ} → Put x zs ws → ¬ (Among z ws) → Among x (z ∷ zs) → ⊥
    go x n p m at_head = m (it_stands p)
    go x n p m (further i) = n i

-- Two lists with the same elements, each once, are one up to their order.
pub same_elements : (xs ys : List ℕ) → EachOnce xs → EachOnce ys → ((v : ℕ) → Among v xs → Among v ys) → ((v : ℕ) → Among v ys → Among v xs) → Shuffle (λ a b. a ≡ b) xs ys
same_elements [] [] h k f g = none
same_elements [] (y ∷ ys) h k f g = elim (g y at_head) [ ]
same_elements (x ∷ xs) ys h k f g =
    let p = put_in x ys (f x at_head) in
    let once = put_once p.1 k in
    more refl (same_elements xs p.0 h.1 once.1 (λ v i. into_put p.1 v (apart v i) (f v (further i))) (λ v i. back v (other p.0 v once.0 i) (g v (from_put p.1 v i)))) p.1
  where
    apart : (v : ℕ) → Among v xs → v ≢ x
    apart v i e = let P : ℕ → Type 0 = λ z. Among z xs in h.0 (subst P e i)

    other : (zs : List ℕ) (v : ℕ) → ¬ (Among x zs) → Among v zs → v ≢ x
    other zs v n i e = let P : ℕ → Type 0 = λ z. Among z zs in n (subst P e i)

    back : (v : ℕ) → v ≢ x → Among v (x ∷ xs) → Among v xs
    back v d h = by v x d h
      where
        by : (v x : ℕ) → v ≢ x → {xs : List ℕ} → Among v (x ∷ xs) → Among v xs
        by v x d at_head = absurd (d refl)
        by v x d (further i) = i

range_from : (k n v : ℕ) → Among v (range_with_len k n) → k ≤ v
range_from k zero v h = elim h [ ]
range_from k (suc n) v at_head = omega arith
range_from k (suc n) v (further h) = let l = range_from (k + 1) n v h in omega (arith, l)

-- a range has no number twice
pub range_once : (k n : ℕ) → EachOnce (range_with_len k n)
range_once k zero = tt
range_once k (suc n) = (λ h. let l = range_from (k + 1) n k h in omega (arith, l), range_once (k + 1) n)

-- The atoms at positions.
abbrev pub AtomsAt : List SolidAtom → List ℕ → List SolidAtom → Type 0
AtomsAt atoms [] [] = Unit {0}
AtomsAt atoms [] (a ∷ bs) = ⊥
AtomsAt atoms (q ∷ qs) [] = ⊥
AtomsAt atoms (q ∷ qs) (a ∷ bs) = (slice_get atoms q ≡ Some a) × AtomsAt atoms qs bs

-- atoms at two lists of positions are those at both
pub atoms_append : (atoms : List SolidAtom) (ps qs : List ℕ) (xs ys : List SolidAtom) → AtomsAt atoms ps xs → AtomsAt atoms qs ys → AtomsAt atoms (ps ++ qs) (xs ++ ys)
atoms_append atoms [] qs [] ys h k = k
atoms_append atoms [] qs (x ∷ xs) ys h k = absurd h
atoms_append atoms (p ∷ ps) qs [] ys h k = absurd h
atoms_append atoms (p ∷ ps) qs (x ∷ xs) ys h k = (h.0, atoms_append atoms ps qs xs ys h.1 k)

slice_behind : (front back : List SolidAtom) (a : SolidAtom) → slice_get (front ++ a ∷ back) (length front) ≡ Some a
slice_behind [] back a = refl
slice_behind (b ∷ front) back a = slice_behind front back a

append_one : (front back : List SolidAtom) (a : SolidAtom) → (front ++ a ∷ []) ++ back ≡ front ++ a ∷ back
append_one [] back a = refl
append_one (b ∷ front) back a = ap (λ xs. b ∷ xs) (append_one front back a)

all_positions : (front back : List SolidAtom) → AtomsAt (front ++ back) (range_with_len (length front) (length back)) back
all_positions front [] = tt
all_positions front (a ∷ back) =
    let P : List SolidAtom → Type 0 = λ as'. AtomsAt as' (range_with_len (length (front ++ a ∷ [])) (length back)) back in
    let Q : ℕ → Type 0 = λ k. AtomsAt (front ++ a ∷ back) (range_with_len k (length back)) back in
    let size = length-append front (a ∷ []) in
    (slice_behind front back a, subst Q size (subst P (append_one front back a) (all_positions (front ++ a ∷ []) back)))

-- all positions have all atoms
pub positions_at : (atoms : List SolidAtom) → AtomsAt atoms (range_with_len 0 (length atoms)) atoms
positions_at atoms = all_positions [] atoms

same_atom : (a b : SolidAtom) → a ≡ b → renamed_atom (λ x. x) a ≡ b
same_atom a b e = ap (λ ls. record { label = a.label; links = ls }) (map-id a.links) ∙ e

put_atoms : (atoms : List SolidAtom) {q : ℕ} {qs rs : List ℕ} (ys : List SolidAtom) → Put q qs rs → AtomsAt atoms rs ys
    → (a : SolidAtom) × (zs : List SolidAtom) × (slice_get atoms q ≡ Some a) × AtomsAt atoms qs zs × Put a zs ys
put_atoms atoms [] here h = absurd h
put_atoms atoms (y ∷ ys) here h = (y, ys, h.0, h.1, here)
put_atoms atoms [] (there p) h = absurd h
put_atoms atoms (y ∷ ys) (there p) h = let more = put_atoms atoms ys p h.1 in (more.0, y ∷ more.1, more.2, (h.0, more.3), there more.4)

-- the same positions in another order have the same atoms
pub same_atoms : (atoms : List SolidAtom) {ps qs : List ℕ} (xs ys : List SolidAtom) → Shuffle (λ a b. a ≡ b) ps qs → AtomsAt atoms ps xs → AtomsAt atoms qs ys
    → Shuffle (λ a b. renamed_atom (λ x. x) a ≡ b) xs ys
same_atoms atoms [] [] none h k = none
same_atoms atoms [] (y ∷ ys) none h k = absurd k
same_atoms atoms (x ∷ xs) ys none h k = absurd h
same_atoms atoms [] ys (more e s p) h k = absurd h
same_atoms atoms (x ∷ xs) ys (more {x = p} {y = q} e s put) h k =
    let there_is = put_atoms atoms ys put k in
    let same = same_Some x there_is.0 (sym h.0 ∙ ap (slice_get atoms) e ∙ there_is.2) in
    more (same_atom x there_is.0 same) (same_atoms atoms xs there_is.1 s h.1 there_is.3) there_is.4
