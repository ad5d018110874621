-- Calls that leave every mark of a port 0, and what is known of parts that are ground in a membrane.
use Rattle.std.proofs.Common.{◌≡◌, ◌≢◌, ℕ, ◌<◌, List, [], ◌∷◌, length, Option, Some, None, IsSome, Result, Ok, Err, refl, sym, ap, subst, ◌∙◌, inl, inr, arith}
use Rattle.std.proofs.lemmas.Bool.{cases_eq}
use Rattle.std.proofs.lemmas.List.{get_or-set_other}
use Rattle.std.specs.Option.{option_map}
use Rattle.std.specs.Result.{IfOk, OnErr}
use Rattle.std.specs.Prelude.{slice_index_or}
use Rattle.lmn_base.specs.Graphs.{Reached}
use Rattle.lmn_store_heap.specs.Heap.{Heap, HeapAtom, within, gone, IsInPlace, alter, with_mark, with_place, partners_of, marks_of, arity_of, mark_of, home_of, marked, placed, taken, PortsUnmarked, taken_all}
use Rattle.lmn_store_heap.specs.Graphs.{atom_map}
use Rattle.lmn_store_heap.proofs.Listing.{alter_at, alter_away}
use Rattle.lmn_ground.specs.Spread.{IsGroundIn}
use Rattle.lmn_ground.specs.Copies.{Remains}
use Rattle.lmn_ground_parts.specs.Copies.{Copied, Beside}
use Rattle.lmn_store_heap.proofs.Common.{decide_in as in_or_not}

clean_by : (s t : Heap) → ((a : ℕ) → arity_of t a ≡ arity_of s a) → ((a i : ℕ) → mark_of t a i ≡ mark_of s a i) → PortsUnmarked s → PortsUnmarked t
clean_by s t e f c a i l = f a i ∙ c a i (let h = e a in omega (arith, h, l))

-- a heap that stays as it is stays unmarked
pub clean_same : (s t : Heap) → t ≡ s → PortsUnmarked s → PortsUnmarked t
clean_same s t e c = subst PortsUnmarked (sym e) c

-- a change of atoms one by one, which leaves their ports and marks
views : (f : ℕ → Option HeapAtom) (b : ℕ) (h : HeapAtom → HeapAtom) {X : Type 0} (view : Option HeapAtom → X) → ((o : Option HeapAtom) → view (option_map h o) ≡ view o) → (a : ℕ) → view (alter f b (option_map h) a) ≡ view (f a)
views f b h view k a = elim (cases_eq a b) [
  | inl e ↦ subst (λ (z : ℕ). view (alter f b (option_map h) z) ≡ view (f z)) (sym e) (ap view (alter_at f b (option_map h)) ∙ k (f b))
  | inr d ↦ ap view (alter_away f b (option_map h) a d)
]

-- no mark comes when an atom is placed
pub clean_placed : (s t : Heap) (m b : ℕ) → t ≡ placed s m b → PortsUnmarked s → PortsUnmarked t
clean_placed s t m b e c = clean_same (placed s m b) t e (clean_by s (placed s m b)
    (λ a. views s.atoms b (with_place (within m)) (λ (o : Option HeapAtom). length (partners_of o)) links a)
    (λ a i. ap (λ (xs : List ℕ). slice_index_or xs i 0) (views s.atoms b (with_place (within m)) marks_of marks a)) c)
  where
    links : (o : Option HeapAtom) → length (partners_of (option_map (with_place (within m)) o)) ≡ length (partners_of o)
    links None = refl
    links (Some x) = refl

    marks : (o : Option HeapAtom) → marks_of (option_map (with_place (within m)) o) ≡ marks_of o
    marks None = refl
    marks (Some x) = refl

clean_taken : (s : Heap) (b : ℕ) → PortsUnmarked s → PortsUnmarked (taken s b)
clean_taken s b c = clean_by s (taken s b)
    (λ a. views s.atoms b (with_place gone) (λ (o : Option HeapAtom). length (partners_of o)) links a)
    (λ a i. ap (λ (xs : List ℕ). slice_index_or xs i 0) (views s.atoms b (with_place gone) marks_of marks a)) c
  where
    links : (o : Option HeapAtom) → length (partners_of (option_map (with_place gone) o)) ≡ length (partners_of o)
    links None = refl
    links (Some x) = refl

    marks : (o : Option HeapAtom) → marks_of (option_map (with_place gone) o) ≡ marks_of o
    marks None = refl
    marks (Some x) = refl

all_clean : (s : Heap) (xs : List ℕ) → PortsUnmarked s → PortsUnmarked (taken_all s xs)
all_clean s [] c = c
all_clean s (x ∷ xs) c = all_clean (taken s x) xs (clean_taken s x c)

-- nor when atoms are taken
pub clean_all_taken : (s t : Heap) (xs : List ℕ) → t ≡ taken_all s xs → PortsUnmarked s → PortsUnmarked t
clean_all_taken s t xs e c = clean_same (taken_all s xs) t e (all_clean s xs c)

-- the own mark is no port's
pub clean_own : (s t : Heap) (b k v : ℕ) → t ≡ marked s b k v → k ≡ arity_of s b → PortsUnmarked s → PortsUnmarked t
clean_own s t b k v e own c = clean_same (marked s b k v) t e (λ a i l. elim (cases_eq a b) [
  | inl h ↦ subst (λ (z : ℕ). mark_of (marked s b k v) z i ≡ 0) (sym h) (
      let m : i < arity_of (marked s b k v) b = subst (λ (z : ℕ). i < arity_of (marked s b k v) z) h l in
      let n = views s.atoms b (with_mark k v) (λ (o : Option HeapAtom). length (partners_of o)) links b in
      let low : i < arity_of s b = omega (arith, m, n) in
      ap (λ (o : Option HeapAtom). slice_index_or (marks_of o) i 0) (alter_at s.atoms b (option_map (with_mark k v))) ∙ other i (s.atoms b) (λ (q : i ≡ k). absurd (omega (arith, q, own, low))) ∙ c b i low)
  | inr d ↦ ap (λ (o : Option HeapAtom). slice_index_or (marks_of o) i 0) (alter_away s.atoms b (option_map (with_mark k v)) a d)
      ∙ c a i (let h = ap (λ (o : Option HeapAtom). length (partners_of o)) (alter_away s.atoms b (option_map (with_mark k v)) a d) in omega (arith, h, l))
])
  where
    links : (o : Option HeapAtom) → length (partners_of (option_map (with_mark k v) o)) ≡ length (partners_of o)
    links None = refl
    links (Some x) = refl

    other : (i : ℕ) (o : Option HeapAtom) → (i ≡ k → ⊥) → slice_index_or (marks_of (option_map (with_mark k v) o)) i 0 ≡ slice_index_or (marks_of o) i 0
    other i None d = refl
    other i (Some x) d = get_or-set_other x.marks k i v 0 d

clean_beside : (s t : Heap) (ys : List ℕ) → Beside s t ys → PortsUnmarked s → PortsUnmarked t
clean_beside s t ys b c a i l = elim (in_or_not a ys) [
  | inl k ↦ b.marks a i k
  | inr d ↦
      let h = ap (λ (o : Option HeapAtom). length (partners_of o)) (b.kept a d) in
      ap (λ (o : Option HeapAtom). slice_index_or (marks_of o) i 0) (b.kept a d) ∙ c a i (omega (arith, h, l))
]

-- no mark comes when a part is copied
clean_copied : (s t : Heap) (x y : ℕ × ℕ) → Copied s t x y → PortsUnmarked s → PortsUnmarked t
clean_copied s t x y h c = clean_beside s t h.copies h.beside c

-- nor where a heap remains
clean_remains : (s t : Heap) → Remains s t → PortsUnmarked s → PortsUnmarked t
clean_remains s t h c = clean_beside s t h.copies h.beside c

-- what is ground in a membrane

-- each atom of a ground part is in place
pub ground_placed : (s t : Heap) (root : ℕ × ℕ) (home : ℕ) → IsGroundIn s root home → t ≡ s → (a : ℕ) → Reached (atom_map t) root a → IsInPlace t a
ground_placed s t root home g e = subst (λ (h : Heap). (a : ℕ) → Reached (atom_map h) root a → IsInPlace h a) (sym e) (λ a r. by (home_of s a) (g.whole.at_home a r))
  where
    by : (o : Option ℕ) → o ≡ Some home → IsSome o
    by None q = absurd (cc)
    by (Some m) q = refl

-- ground parts in different membranes share no atom
pub ground_apart : (s t : Heap) (x y : ℕ × ℕ) (m n : ℕ) → IsGroundIn s x m → IsGroundIn s y n → m ≢ n → t ≡ s → (a : ℕ) → Reached (atom_map t) x a → Reached (atom_map t) y a → ⊥
ground_apart s t x y m n g h d e = subst (λ (k : Heap). (a : ℕ) → Reached (atom_map k) x a → Reached (atom_map k) y a → ⊥) (sym e) (λ a p q.
    let f : ◌≡◌ {A = Option ℕ} (Some m) (Some n) = sym (g.whole.at_home a p) ∙ h.whole.at_home a q in
    let f' : m ≡ n = (cc) in
    d f')

-- no mark stays whether a copy was made or not
pub clean_answer : {A E : Type 0} (s t : Heap) (r : Result A E) (x : ℕ × ℕ) (y : A → ℕ × ℕ) → IfOk r (λ c. Copied s t x (y c)) → OnErr r (Remains s t) → PortsUnmarked s → PortsUnmarked t
clean_answer s t (Ok c) x y h e k = clean_copied s t x (y c) h k
clean_answer s t (Err n) x y h e k = clean_remains s t e k

-- a port without a partner has none
pub no_partner : (o : Option (ℕ × ℕ)) (b j : ℕ) → o ≡ None → o ≡ Some (b, j) → ⊥
no_partner o b j n e = let g : ◌≡◌ {A = Option (ℕ × ℕ)} None (Some (b, j)) = sym n ∙ e in absurd (cc)
