-- A link that stands at most twice has no third place. So an atom is a child at one port at most, and at a port there is one
-- child at most.
use Rattle.std.proofs.Common.{ℕ, zero, suc, ◌≡◌, ◌≢◌, ◌+◌, ◌≤◌, ◌⊎◌, List, [], ◌∷◌, map, length, slice_get, Some, refl, sym, ap, ◌∙◌, subst, inl, inr, arith}
use Rattle.std.proofs.lemmas.Option.{same_Some}
use Rattle.lmn_congruence.specs.Links.{places}
use Rattle.lmn_congruence.specs.Process.{occurrences, together}
use Rattle.lmn_congruence.specs.Regions.{SolidAtom, atom_process}
use Rattle.lmn_congruence.proofs.Counts.{one_if_equal, none_if_apart}
use Rattle.lmn_print_folded.specs.Folding.{IsChild}
use Rattle.lmn_base.proofs.Lists.{ends_in_one_way, get_end as last_here}
use Rattle.lmn_base.proofs.Numbers.{same_or_not as same_or_apart}

-- how often a link stands at atoms
abbrev pub count : ℕ → List SolidAtom → ℕ
count x atoms = occurrences x (together (map atom_process atoms))

-- no link stands in more than two places of some atoms
abbrev pub AtMostTwice : List SolidAtom → Type 0
AtMostTwice atoms = (x : ℕ) → count x atoms ≤ 2

-- a list with another number at a place
abbrev replaced : List ℕ → ℕ → ℕ → List ℕ
replaced [] k z = []
replaced (y ∷ ys) zero z = z ∷ ys
replaced (y ∷ ys) (suc k) z = y ∷ replaced ys k z

one_less : (x z : ℕ) (ys : List ℕ) (k : ℕ) → z ≢ x → slice_get ys k ≡ Some x → places x (replaced ys k z) + 1 ≡ places x ys
one_less x z [] k d e = absurd (cc)
one_less x z (y ∷ ys) zero d e =
    let a = one_if_equal x y (sym (same_Some _ _ e)) in
    let b = none_if_apart x z (λ f. d (sym f)) in omega (arith, a, b)
one_less x z (y ∷ ys) (suc k) d e = let more = one_less x z ys k d e in omega (arith, more)

others_stay : (w z : ℕ) (ys : List ℕ) (j k : ℕ) → j ≢ k → slice_get ys j ≡ Some w → slice_get (replaced ys k z) j ≡ Some w
others_stay w z [] j k d e = absurd (cc)
others_stay w z (y ∷ ys) zero zero d e = absurd (d refl)
others_stay w z (y ∷ ys) zero (suc k) d e = e
others_stay w z (y ∷ ys) (suc j) zero d e = e
others_stay w z (y ∷ ys) (suc j) (suc k) d e = others_stay w z ys j k (λ f. d (ap suc f)) e

abbrev with_other : ℕ → ℕ → SolidAtom → SolidAtom
with_other k z a = record { label = a.label; links = replaced a.links k z }

abbrev all_but : List SolidAtom → ℕ → ℕ → ℕ → List SolidAtom
all_but [] p k z = []
all_but (a ∷ bs) zero k z = with_other k z a ∷ bs
all_but (a ∷ bs) (suc p) k z = a ∷ all_but bs p k z

-- the link x stands at port k of the atom p
pub record Place (atoms : List SolidAtom) (p k x : ℕ) : Type 0 where
  pub atom : SolidAtom
  pub stands : slice_get atoms p ≡ Some atom
  pub port : slice_get atom.links k ≡ Some x

fewer : (x : ℕ) (atoms : List SolidAtom) (p k : ℕ) → Place atoms p k x → count x (all_but atoms p k (suc x)) + 1 ≡ count x atoms
fewer x [] p k h = absurd (let e = h.stands in cc)
fewer x (a ∷ bs) zero k h =
    let e = one_less x (suc x) h.atom.links k (omega arith) h.port in
    let same = ap (λ (b : SolidAtom). places x (replaced b.links k (suc x)) + 1) (same_Some _ _ h.stands) in
    let links = ap (λ (b : SolidAtom). places x b.links) (same_Some _ _ h.stands) in
    omega (arith, e, same, links)
fewer x (a ∷ bs) (suc p) k h = let more = fewer x bs p k (record { atom = h.atom; stands = h.stands; port = h.port }) in omega (arith, more)

place_stays : (x z : ℕ) (atoms : List SolidAtom) (q j p k : ℕ) → (q ≢ p) ⊎ (j ≢ k) → Place atoms q j x → Place (all_but atoms p k z) q j x
place_stays x z [] q j p k d h = absurd (let e = h.stands in cc)
place_stays x z (a ∷ bs) zero j zero k (inl d) h = absurd (d refl)
place_stays x z (a ∷ bs) zero j zero k (inr d) h =
    record {
      atom = with_other k z h.atom;
      stands = ap (λ b. Some (with_other k z b)) (same_Some _ _ h.stands);
      port = others_stay x z h.atom.links j k d h.port;
    }
place_stays x z (a ∷ bs) zero j (suc p) k d h = record { atom = h.atom; stands = h.stands; port = h.port }
place_stays x z (a ∷ bs) (suc q) j zero k d h = record { atom = h.atom; stands = h.stands; port = h.port }
place_stays x z (a ∷ bs) (suc q) j (suc p) k d h =
    let more = place_stays x z bs q j p k (lower d) (record { atom = h.atom; stands = h.stands; port = h.port }) in
    record { atom = more.atom; stands = more.stands; port = more.port }
  where
    lower : (suc q ≢ suc p) ⊎ (j ≢ k) → (q ≢ p) ⊎ (j ≢ k)
    lower (inl d) = inl (λ e. d (ap suc e))
    lower (inr d) = inr d

-- no three places
pub three_places : (atoms : List SolidAtom) (x p k q j r i : ℕ) → AtMostTwice atoms → Place atoms p k x → Place atoms q j x → Place atoms r i x
    → (p ≢ q) ⊎ (k ≢ j) → (p ≢ r) ⊎ (k ≢ i) → (q ≢ r) ⊎ (j ≢ i) → ⊥
three_places atoms x p k q j r i few a b c d e f =
    let one = all_but atoms p k (suc x) in
    let two = all_but one q j (suc x) in
    let b' = place_stays x (suc x) atoms q j p k (other d) b in
    let c' = place_stays x (suc x) one r i q j (other f) (place_stays x (suc x) atoms r i p k (other e) c) in
    let s = fewer x atoms p k a in
    let t = fewer x one q j b' in
    let u = fewer x two r i c' in
    let most = few x in
    omega (arith, s, t, u, most)
  where
    other : {m n s t : ℕ} → (m ≢ n) ⊎ (s ≢ t) → (n ≢ m) ⊎ (t ≢ s)
    other (inl d) = inl (λ e. d (sym e))
    other (inr d) = inr (λ e. d (sym e))

-- the last link of a child stands at its last port
pub last_place : {atoms : List SolidAtom} {q p k : ℕ} (c : IsChild atoms q p k) → Place atoms q (length c.first_links) c.last_link
last_place c = record {
  atom = c.child;
  stands = c.child_at;
  port = ap (λ ls. slice_get ls (length c.first_links)) c.links ∙ last_here c.first_links c.last_link;
}

-- and at the port of its parent
pub parent_place : {atoms : List SolidAtom} {q p k : ℕ} (c : IsChild atoms q p k) → Place atoms p k c.last_link
parent_place c = record { atom = c.parent; stands = c.parent_at; port = c.joined }

place_of : {atoms : List SolidAtom} {p k x y : ℕ} → x ≡ y → Place atoms p k x → Place atoms p k y
place_of {atoms} {p} {k} e h = let P : ℕ → Type 0 = λ z. Place atoms p k z in subst P e h

-- one link at a port
pub one_link : {atoms : List SolidAtom} {p k x y : ℕ} → Place atoms p k x → Place atoms p k y → x ≡ y
one_link {atoms} {p} {k} a b =
    let same = same_Some _ _ (sym a.stands ∙ b.stands) in
    same_Some _ _ (sym a.port ∙ ap (λ (c : SolidAtom). slice_get c.links k) same ∙ b.port)

-- At a port stands one child at most.
pub one_child : (atoms : List SolidAtom) (q r p k : ℕ) → AtMostTwice atoms → IsChild atoms q p k → IsChild atoms r p k → q ≡ r
one_child atoms q r p k few c d = go (same_or_apart q r)
  where
    go : (q ≡ r) ⊎ (q ≢ r) → q ≡ r
    go (inl e) = e
    go (inr n) =
        let same = one_link (parent_place d) (parent_place c) in
        absurd (three_places atoms c.last_link q _ r _ p k few (last_place c) (place_of same (last_place d)) (parent_place c) (inl n) (inl c.other) (inl d.other))

-- an atom is one, with its links but the last and its last link
pub one_atom : {atoms : List SolidAtom} {q p r k j : ℕ} (c : IsChild atoms q p k) (d : IsChild atoms q r j) → c.child ≡ d.child
one_atom c d = same_Some _ _ (sym c.child_at ∙ d.child_at)

-- a child has one last link
pub one_ending : {atoms : List SolidAtom} {q p r k j : ℕ} (c : IsChild atoms q p k) (d : IsChild atoms q r j)
    → (c.first_links ≡ d.first_links) × (c.last_link ≡ d.last_link)
one_ending c d = ends_in_one_way _ _ _ _ (sym c.links ∙ ap (λ (a : SolidAtom). a.links) (one_atom c d) ∙ d.links)

-- An atom is a child at one port at most.
pub one_parent : (atoms : List SolidAtom) (q p k r j : ℕ) → AtMostTwice atoms → IsChild atoms q p k → IsChild atoms q r j → (p ≡ r) × (k ≡ j)
one_parent atoms q p k r j few c d = go (same_or_apart p r) (same_or_apart k j)
  where
    same : d.last_link ≡ c.last_link
    same = sym (one_ending c d).1

    no : (p ≢ r) ⊎ (k ≢ j) → ⊥
    no n = three_places atoms c.last_link q _ p k r j few (last_place c) (parent_place c) (place_of same (parent_place d)) (inl c.other) (inl d.other) n

    go : (p ≡ r) ⊎ (p ≢ r) → (k ≡ j) ⊎ (k ≢ j) → (p ≡ r) × (k ≡ j)
    go (inl e) (inl f) = (e, f)
    go (inr n) f = absurd (no (inl n))
    go (inl e) (inr n) = absurd (no (inr n))
