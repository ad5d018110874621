-- Atoms of the line that are placed in a membrane, one after the other.
use Rattle.std.proofs.Common.{ℕ, zero, suc, ◌≡◌, ◌<◌, ◌+◌, List, [], ◌∷◌, ◌++◌, map, Some, refl, arith, ap, sym, length, drop, ◌∙◌}
use Rattle.std.proofs.lemmas.Bool.{eq-eqb}
use Rattle.lmn_store_heap.specs.Heap.{Heap, from, after, placed}
use Rattle.lmn_solid_bodies.specs.Running.{all_placed}
use Rattle.lmn_base.proofs.Lists.{head_is}

after_first : (a : ℕ) (xs ys : List ℕ) → xs ≡ a ∷ ys → after a xs ≡ ys
after_first a xs ys e = ap (after a) e ∙ rw (eq-eqb a a refl) refl

-- some atoms with the membrane to which they go
abbrev pub pairs : ℕ → List ℕ → List (ℕ × ℕ)
pairs m xs = map (λ a. (m, a)) xs

ahead_of : (xs : List ℕ) (i : ℕ) → i < length xs → (x : ℕ) × (drop i xs ≡ x ∷ drop (i + 1) xs)
ahead_of [] i l = absurd (omega arith)
ahead_of (x ∷ xs) zero l = (x, refl)
ahead_of (x ∷ xs) (suc i) l =
    let w = ahead_of xs i (omega arith) in
    let t : suc (i + 1) ≡ suc i + 1 = omega arith in
    (w.0, w.1 ∙ ap (λ n. w.0 ∷ drop n (x ∷ xs)) t)

cons_is_some : (x : ℕ) (xs ys : List ℕ) → ys ≡ x ∷ xs → ys ≡ [] → ⊥
cons_is_some x xs ys e f = let z : x ∷ xs ≡ [] = sym e ∙ f in absurd (cc)

-- one of them waits
pub one_waits : (s : Heap) (i : ℕ) (atoms rest : List ℕ) → i < length atoms → s.new_atoms ≡ drop i atoms ++ rest → s.new_atoms ≡ [] → ⊥
one_waits s i atoms rest l e =
    let w = ahead_of atoms i l in
    cons_is_some w.0 (drop (i + 1) atoms ++ rest) s.new_atoms (e ∙ ap (λ xs. xs ++ rest) w.1)

-- one atom more is placed
pub place_step : (m a : ℕ) (h s t : Heap) (i : ℕ) (atoms rest : List ℕ) → i < length atoms → s.new_atoms ≡ drop i atoms ++ rest → from (Some a) s.new_atoms ≡ s.new_atoms → t ≡ placed s m a →
    all_placed s (pairs m (drop i atoms)) ≡ all_placed h (pairs m atoms) → (t.new_atoms ≡ drop (i + 1) atoms ++ rest) × (all_placed t (pairs m (drop (i + 1) atoms)) ≡ all_placed h (pairs m atoms))
place_step m a h s t i atoms rest l e first is done =
    let w = ahead_of atoms i l in
    let left : s.new_atoms ≡ w.0 ∷ (drop (i + 1) atoms ++ rest) = e ∙ ap (λ xs. xs ++ rest) w.1 in
    let same : a ≡ w.0 = head_is (first ∙ left) in
    let now : t ≡ placed s m w.0 = is ∙ ap (placed s m) same in (
      ap (λ (u : Heap). u.new_atoms) now ∙ after_first w.0 s.new_atoms (drop (i + 1) atoms ++ rest) left,
      ap (λ u. all_placed u (pairs m (drop (i + 1) atoms))) now ∙ (sym (ap (λ xs. all_placed s (pairs m xs)) w.1) ∙ done),
    )
