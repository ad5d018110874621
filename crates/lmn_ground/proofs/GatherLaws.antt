-- The walk that lists the atoms of a part.
use Rattle.std.proofs.Common.{◌≡◌, ℕ, ◌+◌, ◌*◌, ◌/◌, ◌<◌, ◌≤◌, false, List, [], ◌∷◌, ◌++◌, map, Some, None, refl, sym, ap, subst, ◌∙◌, arith}
use Rattle.lmn_store_heap.specs.Heap.{Heap, marked, arity_of, link_of}
use Rattle.lmn_store_heap.specs.Sound.{Sound}
use Rattle.lmn_ground_parts.specs.Walks.{is_port}
use Rattle.lmn_ground.specs.Marks.{first_place, first_marks}
use Rattle.lmn_ground.specs.Spread.{CleanPart, IsWhole, Spreading}
use Rattle.lmn_ground.specs.Copies.{NumbersAtoms, Gathered}
use Rattle.lmn_ground.proofs.PaintLaws.{with_port}
use Rattle.lmn_ground.proofs.PaintedAt.{painted_none}
use Rattle.lmn_ground.proofs.SpreadLaws.{spreading_first, entered, whole_part, unjoined}
use Rattle.lmn_ground.proofs.CopyLaws.{map_snoc}

-- at first nothing is gathered
pub gather_none : {A : Type 0} (id : A → ℕ) (s : Heap) (xs : List A) → xs ≡ [] → (ys : List A) → ys ≡ xs → NumbersAtoms s s (map id ys)
gather_none {A = A} id s xs e ys h = subst (λ (zs : List A). NumbersAtoms s s (map id zs)) (sym (h ∙ e)) (record {
  marks = λ _. 0;
  is = sym (painted_none first_place s (λ _. 0) (λ a. refl));
  outside = λ x d. refl;
  clean = λ x i. absurd i;
  there = λ x i. absurd i;
})

-- then the root
pub gather_first : {A : Type 0} (id : A → ℕ) (s now : Heap) (a : A) (i m : ℕ) (xs ys : List A) → xs ≡ [] → ys ≡ xs ++ a ∷ [] → now ≡ marked s (id a) 0 m → m ≡ 512 + i → i < 256
    → Sound s → CleanPart s (id a, i) → i < arity_of s (id a) → Spreading s now (id a, i) None (map id ys) 0 (id a) 0 1
gather_first {A = A} id s now a i m xs ys e h made is small sound clean port =
    let two : m / 256 ≡ 2 = omega (arith, is, small) in
    let high : 512 ≤ m = omega (arith, is) in
    subst (λ (t : Heap). Spreading s t (id a, i) None (map id ys) 0 (id a) 0 1) (sym made)
    (subst (λ (zs : List A). Spreading s (marked s (id a) 0 m) (id a, i) None (map id zs) 0 (id a) 0 1) (sym (h ∙ ap (λ (zs : List A). zs ++ a ∷ []) e))
    (spreading_first s (id a, i) None m sound clean port tt high two))

-- then each atom that is entered
pub gather_next : {A : Type 0} (id : A → ℕ) (s now to : Heap) (root : ℕ × ℕ) (xs ys : List A) (depth a i : ℕ) (b : A) (j count : ℕ) → ys ≡ xs ++ b ∷ []
    → to ≡ marked now (id b) 0 (512 + 256 * count + j) → Spreading s now root None (map id xs) depth a i count → Sound now → CleanPart s root
    → i < arity_of now a → link_of now a i ≡ Some (id b, j) → link_of now (id b) j ≡ Some (a, i) → j < arity_of now (id b) → j < 256
    → is_port (a, i) root ≡ false → first_marks now (id b) ≡ 0
    → Spreading s to root None (map id ys) (depth + 1) (id b) 0 (count + 1)
gather_next id s now to root xs ys depth a i b j count h made t sound clean low link back port small other fresh =
    subst (λ (zs : List ℕ). Spreading s to root None zs (depth + 1) (id b) 0 (count + 1)) (sym (ap (map id) h ∙ map_snoc id xs b))
    (entered s now to root None (map id xs) depth a i (id b) j count made t sound clean low link back port small other fresh tt)

-- what was gathered is numbered in the order of the walk
pub gather_some : (s now : Heap) (root : ℕ × ℕ) (seen : List ℕ) (depth a i count : ℕ) → Spreading s now root None seen depth a i count → NumbersAtoms s now seen
gather_some s now root seen depth a i count t = record {
  marks = t.marks;
  is = t.is;
  outside = t.outside;
  clean = t.clean;
  there = λ x k. with_port s x (t.ports x k);
}

-- and is the part at its end
pub gather_all : (s now : Heap) (root : ℕ × ℕ) (seen : List ℕ) (depth a i count : ℕ) → Spreading s now root None seen depth a i count → depth ≡ 0 → i ≡ arity_of now a → Gathered s now root seen
gather_all s now root seen depth a i count t d e = record { part = whole_part s root None now seen depth a i count t d e; numbers = t.numbers }

-- a port without a partner is not met in a whole part
pub gather_joined : (s now : Heap) (root : ℕ × ℕ) (seen : List ℕ) (depth a i count : ℕ) → Spreading s now root None seen depth a i count
    → link_of now a i ≡ None → i < arity_of now a → is_port (a, i) root ≡ false → IsWhole s root None → ⊥
gather_joined s now root seen depth a i count t none low other full = unjoined s now root None seen depth a i count t none low other full
