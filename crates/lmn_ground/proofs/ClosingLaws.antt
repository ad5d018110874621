-- First marks of the atoms of a rest, and whether a link leaves it.
use Rattle.std.proofs.Common.{◌≡◌, ◌≢◌, ◌⊎◌, ◌↔◌, ℕ, zero, suc, ◌<◌, ◌^◌, ◌==◌, not, List, [], ◌∷◌, ◌++◌, length, Option, Some, None, IsSome, refl, sym, ap, subst, ◌∙◌, inl, inr, arith}
use Rattle.std.proofs.lemmas.Bool.{cases_eq}
use Rattle.std.specs.Option.{option_map}
use Rattle.std.specs.Prelude.{slice_index_or, slice_set}
use Rattle.lmn_store_heap.specs.Heap.{Heap, HeapAtom, HeapMem, IsAtom, IsMem, PortsUnmarked, alter, arity_of, atoms_by, atoms_in, home_of, link_of, mark_of, marked, marks_of, mems_by, mems_in, own_mark, partners_of, with_mark, from, after}
use Rattle.lmn_store_heap.specs.Sound.{Sound, AtMost, Forms}
use Rattle.lmn_store_heap.proofs.Groves.{forms_frame}
use Rattle.lmn_store_heap.proofs.Listing.{alter_at, alter_away}
use Rattle.lmn_store_heap.proofs.Replacing.{port_within}
use Rattle.lmn_store_heap.proofs.Common.{decide_in}
use Rattle.lmn_base.specs.Lists.{In}
use Rattle.lmn_ground_parts.specs.Rests.{NoneLeaves, atoms_of_all, keep}
use Rattle.lmn_ground_parts.specs.Walks.{Net, is_in, net}
use Rattle.lmn_ground.specs.Marks.{first_marks, first_place, paint, painted}
use Rattle.lmn_ground.specs.Rests.{AreMembranes, IsLeft, port_marked, ports_marked}
use Rattle.lmn_ground.proofs.PaintLaws.{net_marked, net_painted, painted_cleared, painted_marked}
use Rattle.lmn_ground.proofs.PaintedAt.{painted_none}
use Rattle.lmn_ground.proofs.TakeLaws.{home_marked}
use Rattle.lmn_ground.proofs.RestLaws.{rest_found, rest_is}

-- Two heaps differ in the marks of ports alone, as far as a rest is concerned.
pub record PortMarks (s t : Heap) : Type 0 where
  pub mems : t.mems ≡ s.mems
  pub own : (a : ℕ) → own_mark t a ≡ own_mark s a
  pub home : (a : ℕ) → home_of t a ≡ home_of s a
  pub arity : (a : ℕ) → arity_of t a ≡ arity_of s a

pub marks_same : (s : Heap) → PortMarks s s
marks_same s = record { mems = refl; own = λ a. refl; home = λ a. refl; arity = λ a. refl }

pub marks_back : (s t : Heap) → PortMarks s t → PortMarks t s
marks_back s t p = record { mems = sym p.mems; own = λ a. sym (p.own a); home = λ a. sym (p.home a); arity = λ a. sym (p.arity a) }

marks_more : (s t u : Heap) → PortMarks s t → PortMarks t u → PortMarks s u
marks_more s t u p q = record { mems = q.mems ∙ p.mems; own = λ a. q.own a ∙ p.own a; home = λ a. q.home a ∙ p.home a; arity = λ a. q.arity a ∙ p.arity a }

other_mark : (xs : List ℕ) (n v : ℕ) → slice_index_or (slice_set xs 0 v) (suc n) 0 ≡ slice_index_or xs (suc n) 0
other_mark [] n v = refl
other_mark (x ∷ xs) n v = refl

arity_marked : (s : Heap) (a v b : ℕ) → arity_of (marked s a 0 v) b ≡ arity_of s b
arity_marked s a v b = ap (λ (n : Net). n.arity b) (net_marked s a 0 v)

own_kept : (s : Heap) (a v b n : ℕ) → arity_of s a ≡ suc n → own_mark (marked s a 0 v) b ≡ own_mark s b
own_kept s a v b n e = ap (λ k. mark_of (marked s a 0 v) b k) (arity_marked s a v b) ∙ elim (cases_eq b a) [
  | inl same ↦ subst (λ z. mark_of (marked s a 0 v) z (arity_of s z) ≡ mark_of s z (arity_of s z)) (sym same)
      (ap (λ o. slice_index_or (marks_of o) (arity_of s a) 0) (alter_at s.atoms a (option_map (with_mark 0 v)))
      ∙ subst (λ k. slice_index_or (marks_of (option_map (with_mark 0 v) (s.atoms a))) k 0 ≡ slice_index_or (marks_of (s.atoms a)) k 0) (sym e) (by (s.atoms a)))
  | inr d ↦ ap (λ o. slice_index_or (marks_of o) (arity_of s b) 0) (alter_away s.atoms a (option_map (with_mark 0 v)) b d)
]
  where
    by : (o : Option HeapAtom) → slice_index_or (marks_of (option_map (with_mark 0 v) o)) (suc n) 0 ≡ slice_index_or (marks_of o) (suc n) 0
    by None = refl
    by (Some x) = other_mark x.marks n v

-- one port is marked
one_marked : (s : Heap) (n a v : ℕ) → arity_of s a ≡ n → PortMarks s (port_marked n v a s)
one_marked s zero a v e = marks_same s
one_marked s (suc n) a v e = record { mems = refl; own = λ b. own_kept s a v b n e; home = λ b. home_marked s a 0 v b; arity = λ b. arity_marked s a v b }

pub marks_step : (s t u : Heap) (a v : ℕ) → PortMarks s t → u ≡ port_marked (arity_of t a) v a t → PortMarks s u
marks_step s t u a v p e = marks_more s t u p (subst (PortMarks t) (sym e) (one_marked t (arity_of t a) a v refl))

pub marks_all : (v : ℕ) (xs : List ℕ) (s : Heap) → PortMarks s (ports_marked v xs s)
marks_all v [] s = marks_same s
marks_all v (x ∷ xs) s =
    let t = port_marked (arity_of s x) v x s in
    marks_more s t (ports_marked v xs t) (one_marked s (arity_of s x) x v refl) (marks_all v xs t)

pub marks_made : (v : ℕ) (xs : List ℕ) (s t : Heap) → t ≡ ports_marked v xs s → PortMarks s t
marks_made v xs s t e = subst (PortMarks s) (sym e) (marks_all v xs s)

-- what a rest is doesn't hang on marks of ports
pub left_there : (s t : Heap) (m : ℕ) (out atoms ms : List ℕ) → PortMarks s t → IsLeft s m out atoms ms → IsLeft t m out atoms ms
left_there s t m out atoms ms p r = record {
  forest = r.forest;
  forms = subst (λ zs. Forms t r.forest (keep (λ n. not (is_in out n)) zs)) (sym (mems_same m)) (forms_frame s t r.forest (keep (λ n. not (is_in out n)) (mems_in s m)) (λ k i. mems_same k) r.forms);
  preorder = r.preorder;
  once = r.once;
  outside = r.outside;
  in_order = r.in_order ∙ (λ i. keep (λ a. sym (p.own a) i == 0) (sym (atoms_same m) i) ++ sym (all_same ms) i);
}
  where
    mems_same : (k : ℕ) → mems_in t k ≡ mems_in s k
    mems_same k = ap (λ (f : ℕ → Option HeapMem). mems_by (f k)) p.mems

    atoms_same : (k : ℕ) → atoms_in t k ≡ atoms_in s k
    atoms_same k = ap (λ (f : ℕ → Option HeapMem). atoms_by (f k)) p.mems

    all_same : (ks : List ℕ) → atoms_of_all t ks ≡ atoms_of_all s ks
    all_same [] = refl
    all_same (k ∷ ks) = λ i. atoms_same k i ++ all_same ks i

pub membrane_there : (s t : Heap) (m : ℕ) → PortMarks s t → IsMem s m → IsMem t m
membrane_there s t m p i = subst (λ (f : ℕ → Option HeapMem). IsSome (f m)) (sym p.mems) i

pub membranes_there : (s t : Heap) (ms : List ℕ) → PortMarks s t → AreMembranes s ms → AreMembranes t ms
membranes_there s t [] p i = tt
membranes_there s t (m ∷ ms) p i = (membrane_there s t m p i.0, membranes_there s t ms p i.1)

pub place_there : (s t : Heap) (a : ℕ) → PortMarks s t → IsSome (home_of s a) → IsSome (home_of t a)
place_there s t a p i = subst (λ (o : Option ℕ). IsSome o) (sym (p.home a)) i

-- the atoms of a rest, as a function of the heap
pub rest_atoms : Heap → ℕ → List ℕ → List ℕ
rest_atoms s m out = keep (λ a. own_mark s a == 0) (atoms_in s m) ++ atoms_of_all s (rest_found s m out)

pub rest_atoms_are : (s : Heap) → Sound s → AtMost (2 ^ 48) s → (m : ℕ) (out atoms ms : List ℕ) → IsLeft s m out atoms ms → rest_atoms s m out ≡ atoms
unfolding rest_atoms
rest_atoms_are s sound few m out atoms ms r = ap (λ zs. keep (λ a. own_mark s a == 0) (atoms_in s m) ++ atoms_of_all s zs) (rest_is s sound few m out atoms ms r) ∙ sym r.in_order

-- The loop that marks: one step, and its end.
pub marks_next : (v : ℕ) (s t u : Heap) (o o' : Option ℕ) (a : ℕ) (atoms : List ℕ) → o ≡ Some a → ports_marked v (from o atoms) t ≡ ports_marked v atoms s
    → u ≡ port_marked (arity_of t a) v a t → from o' atoms ≡ after a atoms → ports_marked v (from o' atoms) u ≡ ports_marked v atoms s
marks_next v s t u o o' a atoms e h made next =
    (λ i. ports_marked v (next i) (made i)) ∙ ap (λ z. ports_marked v (from z atoms) t) (sym e) ∙ h

pub marks_end : (v : ℕ) (s t : Heap) (o : Option ℕ) (atoms : List ℕ) → o ≡ None → ports_marked v (from o atoms) t ≡ ports_marked v atoms s → t ≡ ports_marked v atoms s
marks_end v s t o atoms e h = ap (λ z. ports_marked v (from z atoms) t) (sym e) ∙ h

-- Marks as a function: those that are set, and those that are taken back.
abbrev one_more : ℕ → ℕ → ℕ → (ℕ → ℕ) → ℕ → ℕ
one_more zero v a f = f
one_more (suc n) v a f = alter f a (λ _. v)

abbrev all_more : Heap → ℕ → List ℕ → (ℕ → ℕ) → ℕ → ℕ
all_more s v [] f = f
all_more s v (x ∷ xs) f = all_more s v xs (one_more (arity_of s x) v x f)

arity_painted : (s : Heap) (f : ℕ → ℕ) (x : ℕ) → arity_of (painted s f) x ≡ arity_of s x
arity_painted s f x = ap (λ (n : Net). n.arity x) (net_painted s f)

raises : (s : Heap) (xs : List ℕ) (f : ℕ → ℕ) → ports_marked 1 xs (painted s f) ≡ painted s (all_more s 1 xs f)
raises s [] f = refl
raises s (x ∷ xs) f =
    ap (λ h. ports_marked 1 xs h) (ap (λ n. port_marked n 1 x (painted s f)) (arity_painted s f x) ∙ by (arity_of s x)) ∙ raises s xs (one_more (arity_of s x) 1 x f)
  where
    by : (n : ℕ) → port_marked n 1 x (painted s f) ≡ painted s (one_more n 1 x f)
    by zero = refl
    by (suc n) = painted_marked s f x 1 (omega arith)

lowers : (s : Heap) → ((x : ℕ) → 0 < arity_of s x → first_marks s x ≡ 0) → (xs : List ℕ) (f : ℕ → ℕ) → ports_marked 0 xs (painted s f) ≡ painted s (all_more s 0 xs f)
lowers s clean [] f = refl
lowers s clean (x ∷ xs) f =
    ap (λ h. ports_marked 0 xs h) (ap (λ n. port_marked n 0 x (painted s f)) (arity_painted s f x) ∙ by (arity_of s x) refl) ∙ lowers s clean xs (one_more (arity_of s x) 0 x f)
  where
    by : (n : ℕ) → arity_of s x ≡ n → port_marked n 0 x (painted s f) ≡ painted s (one_more n 0 x f)
    by zero e = refl
    by (suc n) e = painted_cleared s f x (clean x (omega (arith, e)))

one_away : (n v x a : ℕ) (f : ℕ → ℕ) → a ≢ x → one_more n v x f a ≡ f a
one_away zero v x a f d = refl
one_away (suc n) v x a f d = alter_away f x (λ _. v) a d

one_keeps : (n v x a : ℕ) (f : ℕ → ℕ) → f a ≡ v → one_more n v x f a ≡ v
one_keeps zero v x a f e = e
one_keeps (suc n) v x a f e = elim (cases_eq a x) [
  | inl same ↦ subst (λ z. alter f x (λ _. v) z ≡ v) (sym same) (alter_at f x (λ _. v))
  | inr d ↦ alter_away f x (λ _. v) a d ∙ e
]

all_keep : (s : Heap) (v : ℕ) (xs : List ℕ) (a : ℕ) (f : ℕ → ℕ) → f a ≡ v → all_more s v xs f a ≡ v
all_keep s v [] a f e = e
all_keep s v (x ∷ xs) a f e = all_keep s v xs a (one_more (arity_of s x) v x f) (one_keeps (arity_of s x) v x a f e)

all_out : (s : Heap) (v : ℕ) (xs : List ℕ) (a : ℕ) (f : ℕ → ℕ) → (In a xs → ⊥) → all_more s v xs f a ≡ f a
all_out s v [] a f d = refl
all_out s v (x ∷ xs) a f d = all_out s v xs a (one_more (arity_of s x) v x f) (λ i. d (inr i)) ∙ one_away (arity_of s x) v x a f (λ e. d (inl (sym e)))

all_in_list : (s : Heap) (v : ℕ) (xs : List ℕ) (a : ℕ) (f : ℕ → ℕ) → In a xs → 0 < arity_of s a → all_more s v xs f a ≡ v
all_in_list s v [] a f i p = absurd i
all_in_list s v (x ∷ xs) a f (inl e) p = all_keep s v xs a (one_more (arity_of s x) v x f) (subst (λ z. one_more (arity_of s x) v x f z ≡ v) e (by (arity_of s x) (subst (λ z. 0 < arity_of s z) (sym e) p)))
  where
    by : (n : ℕ) → 0 < n → one_more n v x f x ≡ v
    by zero l = absurd (omega arith)
    by (suc n) l = alter_at f x (λ _. v)
all_in_list s v (x ∷ xs) a f (inr i) p = all_in_list s v xs a (one_more (arity_of s x) v x f) i p

no_port : (s : Heap) (v : ℕ) (xs : List ℕ) (a : ℕ) (f : ℕ → ℕ) → arity_of s a ≡ 0 → all_more s v xs f a ≡ f a
no_port s v [] a f e = refl
no_port s v (x ∷ xs) a f e = no_port s v xs a (one_more (arity_of s x) v x f) e ∙ elim (cases_eq a x) [
  | inl same ↦ subst (λ n. one_more n v x f a ≡ f a) (sym (ap (arity_of s) (sym same) ∙ e)) nothing
  | inr d ↦ one_away (arity_of s x) v x a f d
]
  where
    nothing : one_more 0 v x f a ≡ f a
    nothing = refl

module _ (s : Heap) (sound : Sound s) (clean : PortsUnmarked s) (atoms : List ℕ) where
  abbrev marks : ℕ → ℕ
  marks = all_more s 1 atoms (λ _. 0)

  firsts : (x : ℕ) → 0 < arity_of s x → first_marks s x ≡ 0
  firsts x l = clean x 0 l

  is_marked : (t : Heap) → t ≡ ports_marked 1 atoms s → t ≡ painted s marks
  is_marked t e = e ∙ ap (ports_marked 1 atoms) (sym (painted_none first_place s (λ _. 0) (λ a. refl))) ∙ raises s atoms (λ _. 0)

  -- all marks are taken back
  pub taken_back : (t u : Heap) → t ≡ ports_marked 1 atoms s → u ≡ ports_marked 0 atoms t → u ≡ s
  taken_back t u e f =
      f ∙ ap (ports_marked 0 atoms) (is_marked t e) ∙ lowers s firsts atoms marks ∙ painted_none first_place s (all_more s 0 atoms marks) (λ a. elim (decide_in a atoms) [
        | inl i ↦ by a i (arity_of s a) refl
        | inr d ↦ all_out s 0 atoms a marks d ∙ all_out s 1 atoms a (λ _. 0) d
      ])
    where
      by : (a : ℕ) → In a atoms → (n : ℕ) → arity_of s a ≡ n → all_more s 0 atoms marks a ≡ 0
      by a i zero e = no_port s 0 atoms a marks e ∙ no_port s 1 atoms a (λ _. 0) e
      by a i (suc n) e = all_in_list s 0 atoms a marks i (omega (arith, e))

  link_same : (t : Heap) → t ≡ ports_marked 1 atoms s → (a i : ℕ) → link_of t a i ≡ link_of s a i
  link_same t e a i = ap (λ (n : Net). n.link a i) (ap net (is_marked t e) ∙ net_painted s marks)

  painted_first : (w : ℕ) (o : Option HeapAtom) → w ≡ 1 → 0 < length (marks_of o) → slice_index_or (marks_of (paint w o)) 0 0 ≡ 1
  painted_first w o e l = subst (λ z. slice_index_or (marks_of (paint z o)) 0 0 ≡ 1) (sym e) (by o l)
    where
      by : (o : Option HeapAtom) → 0 < length (marks_of o) → slice_index_or (marks_of (paint 1 o)) 0 0 ≡ 1
      by None l = absurd (omega arith)
      by (Some x) l = set x.marks l
        where
          set : (xs : List ℕ) → 0 < length xs → slice_index_or (slice_set xs 0 1) 0 0 ≡ 1
          set [] l = absurd (omega arith)
          set (y ∷ ys) l = refl

  -- exactly the atoms of the list that have a port have a first mark
  first_in : (t : Heap) → t ≡ ports_marked 1 atoms s → (b : ℕ) → IsAtom s b → In b atoms → 0 < arity_of s b → first_marks t b ≡ 1
  first_in t e b there i l =
      let m = sound.shaped.marks b there in
      ap (λ (h : Heap). first_marks h b) (is_marked t e) ∙ painted_first (marks b) (s.atoms b) (all_in_list s 1 atoms b (λ _. 0) i l) (omega (arith, m))

  first_out : (t : Heap) → t ≡ ports_marked 1 atoms s → (b : ℕ) → (In b atoms → ⊥) → 0 < arity_of s b → first_marks t b ≡ 0
  first_out t e b d l =
      ap (λ (h : Heap). first_marks h b) (is_marked t e) ∙ ap (λ w. slice_index_or (marks_of (paint w (s.atoms b))) 0 0) (all_out s 1 atoms b (λ _. 0) d) ∙ firsts b l

  with_link : (o : Option HeapAtom) (j : ℕ) → j < length (partners_of o) → IsSome o
  with_link None j l = absurd (omega arith)
  with_link (Some x) j l = refl

  -- so all stay exactly where no link leaves
  pub stay_or_leave : (t : Heap) → t ≡ ports_marked 1 atoms s → ((a i b j : ℕ) → In a atoms → link_of t a i ≡ Some (b, j) → first_marks t b ≢ 0) ↔ NoneLeaves s atoms
  stay_or_leave t e = (
    λ stays a i b j k link. elim (decide_in b atoms) [
      | inl there ↦ there
      | inr d ↦ absurd (stays a i b j k (link_same t e a i ∙ link) (first_out t e b d (let w = port_within s b j (a, i) (sound.paired.back a i b j link) in omega (arith, w))))
    ],
    λ none a i b j k link zero_mark.
        let own = sym (link_same t e a i) ∙ link in
        let w = port_within s b j (a, i) (sound.paired.back a i b j own) in
        let one = first_in t e b (with_link (s.atoms b) j w) (none a i b j k own) (omega (arith, w)) in
        let bad : 0 ≡ 1 = sym zero_mark ∙ one in absurd (omega (arith, bad)),
  )

-- The loop that asks each atom: one step, and its end.
pub stays_next : (s : Heap) (o o' : Option ℕ) (a : ℕ) (atoms : List ℕ) → o ≡ Some a → from o' atoms ≡ after a atoms
    → ((c : ℕ) → In c atoms → In c (from o atoms) ⊎ ((i b j : ℕ) → link_of s c i ≡ Some (b, j) → first_marks s b ≢ 0))
    → ((i b j : ℕ) → link_of s a i ≡ Some (b, j) → first_marks s b ≢ 0)
    → (c : ℕ) → In c atoms → In c (from o' atoms) ⊎ ((i b j : ℕ) → link_of s c i ≡ Some (b, j) → first_marks s b ≢ 0)
stays_next s o o' a atoms e next so_far here c i = elim (so_far c i) [
  | inl q ↦ step (subst (λ z. In c (from z atoms)) e q)
  | inr q ↦ inr q
]
  where
    step : In c (a ∷ after a atoms) → In c (from o' atoms) ⊎ ((i b j : ℕ) → link_of s c i ≡ Some (b, j) → first_marks s b ≢ 0)
    step (inl q) = inr (subst (λ z. (i b j : ℕ) → link_of s z i ≡ Some (b, j) → first_marks s b ≢ 0) q here)
    step (inr q) = inl (subst (In c) (sym next) q)

pub all_stayed : (s : Heap) (o : Option ℕ) (atoms : List ℕ) → o ≡ None
    → ((c : ℕ) → In c atoms → In c (from o atoms) ⊎ ((i b j : ℕ) → link_of s c i ≡ Some (b, j) → first_marks s b ≢ 0))
    → (a i b j : ℕ) → In a atoms → link_of s a i ≡ Some (b, j) → first_marks s b ≢ 0
all_stayed s o atoms e so_far a i b j k = elim (so_far a k) [
  | inl q ↦ absurd (subst (λ z. In a (from z atoms)) e q)
  | inr q ↦ q i b j
]
