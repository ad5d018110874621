-- Steps of copying: listing, making and joining.
use Rattle.std.proofs.Common.{◌≡◌, ◌≢◌, ℕ, zero, suc, ◌+◌, ◌-◌, ◌/◌, ◌<◌, ◌≤◌, Bool, true, false, List, [], ◌∷◌, ◌++◌, length, map, drop, Option, Some, None, IsSome, refl, sym, ap, subst, ◌∙◌, inl, inr, arith, add-one, length-append}
use Rattle.std.proofs.lemmas.Bool.{cases_eq}
use Rattle.std.proofs.lemmas.Option.{slice_get-map, slice_get_within}
use Rattle.std.specs.Option.{option_map}
use Rattle.std.specs.Prelude.{slice_get}
use Rattle.lmn_base.specs.declared.functor.Functor.{Functor}
use Rattle.lmn_store_heap.specs.Heap.{Heap, HeapAtom, Distinct, IsAtom, alter, with_mark, new_atom, functor_of, link_of, arity_of, joined, made_atom, marked}
use Rattle.lmn_store_heap.proofs.ListLemmas.{each_in}
use Rattle.lmn_store_heap.proofs.Listing.{alter_at, alter_away, distinct_snoc}
use Rattle.lmn_ground.specs.Marks.{first_marks}
use Rattle.lmn_ground.specs.Spread.{Numbered}
use Rattle.lmn_ground.specs.Copies.{unmarked_all, Made, Copying}
use Rattle.lmn_ground_parts.specs.Copies.{made_as, made_like, joined_like, all_joined, ports_of, AreNew, AllAtoms, answer}
use Rattle.lmn_ground_parts.proofs.AnswerLaws.{answer_here, answer_on}
use Rattle.lmn_ground.proofs.NumberLaws.{numbered_low, rest_in}
use Rattle.lmn_ground.proofs.JoinLaws.{like_some, like_copying, like_numbers, like_arity, all_append, all_copying, all_numbers, all_arity, copies_differ}
use Rattle.lmn_ground.proofs.SoughtLaws.{same_port}
use Rattle.lmn_ground_parts.specs.Walks.{port_range, is_port}
use Rattle.lmn_store_heap.proofs.Common.{in_at, has_functor, is_atom_at}
use Rattle.lmn_base.specs.Lists.{In}
use Rattle.lmn_base.proofs.Lists.{in_snoc}
use Rattle.lmn_ground_parts.proofs.Common.{as_here, ports_in, made_away, not_again, one_new as as_new, one_there as as_there}

-- lists

drop_get : (xs : List ℕ) (k x : ℕ) → slice_get xs k ≡ Some x → drop k xs ≡ x ∷ drop (suc k) xs
drop_get [] k x e = absurd (cc)
drop_get (y ∷ xs) zero x e = let h : y ≡ x = (cc) in ap (λ z. z ∷ xs) h
drop_get (y ∷ xs) (suc k) x e = drop_get xs k x e

get_map : {A : Type 0} (id : A → ℕ) (xs : List A) (k : ℕ) (a : A) → slice_get xs k ≡ Some a → slice_get (map id xs) k ≡ Some (id a)
get_map id xs k a e = slice_get-map id xs k ∙ ap (option_map id) e

-- what stands in a list has its number among the numbers
pub member : {A : Type 0} (id : A → ℕ) (xs : List A) (k : ℕ) (a : A) → slice_get xs k ≡ Some a → In (id a) (map id xs)
member id xs k a e = in_at (map id xs) k (id a) (get_map id xs k a e)

-- the numbers from a place on begin with that of what stands there
pub drop_map : {A : Type 0} (id : A → ℕ) (xs : List A) (k : ℕ) (a : A) → slice_get xs k ≡ Some a → drop k (map id xs) ≡ id a ∷ drop (k + 1) (map id xs)
drop_map id xs k a e = drop_get (map id xs) k (id a) (get_map id xs k a e) ∙ ap (λ (n : ℕ). id a ∷ drop n (map id xs)) (sym (add-one k))

-- as many numbers as handles
pub length_map : {A : Type 0} (id : A → ℕ) (xs : List A) → length (map id xs) ≡ length xs
length_map id [] = refl
length_map id (x ∷ xs) = ap suc (length_map id xs)

-- a handle behind has its number behind
pub map_snoc : {A : Type 0} (id : A → ℕ) (xs : List A) (a : A) → map id (xs ++ a ∷ []) ≡ map id xs ++ id a ∷ []
map_snoc id [] a = refl
map_snoc id (x ∷ xs) a = ap (λ ys. id x ∷ ys) (map_snoc id xs a)

-- lists of handles that are as long have as many numbers
pub map_long : {A : Type 0} (id : A → ℕ) (xs ys : List A) → length xs ≡ length ys → length (map id xs) ≡ length (map id ys)
map_long id xs ys e = length_map id xs ∙ e ∙ sym (length_map id ys)

-- nothing has the length 0
pub none_long : {A : Type 0} (xs : List A) → xs ≡ [] → length xs ≡ 0
none_long xs e = ap (λ ys. length ys) e

-- one more is one longer
pub one_longer : {A : Type 0} (xs : List A) (a : A) (ys : List A) (k : ℕ) → length xs ≡ k → ys ≡ xs ++ a ∷ [] → length ys ≡ k + 1
one_longer xs a ys k h e = let l = length-append xs (a ∷ []) in let g = ap (λ zs. length zs) e in omega (arith, h, l, g)

-- the copy with the number of an atom

-- the mark of an atom names its copy
pub answer_at : {A : Type 0} (id : A → ℕ) (v : ℕ → ℕ) (k : ℕ) (xs : List ℕ) (ys : List A) (b : ℕ) (y : A) → Numbered v k xs → In b xs
    → slice_get ys (v b / 256 - k) ≡ Some y → id y ≡ answer xs (map id ys) b
answer_at id v k [] ys b y n i e = absurd i
answer_at id v k (x ∷ xs) [] b y n i e = absurd (cc)
answer_at id v k (x ∷ xs) (z ∷ ys) b y n i e = elim (cases_eq x b) [
  | inl h ↦
      let none : v b / 256 - k ≡ 0 = (let m = ap (λ (w : ℕ). v w / 256) (sym h) ∙ n.0 in omega (arith, m)) in
      let g : slice_get (z ∷ ys) 0 ≡ Some y = subst (λ (m : ℕ). slice_get (z ∷ ys) m ≡ Some y) none e in
      let g' : z ≡ y = (cc) in
      ap id (sym g') ∙ sym (answer_here x (id z) xs (map id ys) b h)
  | inr d ↦
      let low = numbered_low v (suc k) b xs n.1 (rest_in x b xs i d) in
      let some : v b / 256 - k ≡ suc (v b / 256 - suc k) = omega (arith, low) in
      let g : slice_get (z ∷ ys) (suc (v b / 256 - suc k)) ≡ Some y = subst (λ (m : ℕ). slice_get (z ∷ ys) m ≡ Some y) some e in
      answer_at id v (suc k) xs ys b y n.1 (rest_in x b xs i d) g ∙ sym (answer_on x (id z) xs (map id ys) b d)
]

-- the copy of an atom stands where the atom stands
pub copy_at : {A : Type 0} (id : A → ℕ) (xs ys : List A) (k : ℕ) (x y : A) → Distinct (map id xs) → slice_get xs k ≡ Some x → slice_get ys k ≡ Some y → id y ≡ answer (map id xs) (map id ys) (id x)
copy_at id [] ys k x y d e f = absurd (cc)
copy_at id (a ∷ xs) [] k x y d e f = absurd (cc)
copy_at id (a ∷ xs) (b ∷ ys) zero x y d e f = let g : a ≡ x = (cc) in let h : b ≡ y = (cc) in ap id (sym h) ∙ sym (answer_here (id a) (id b) (map id xs) (map id ys) (id x) (ap id g))
copy_at id (a ∷ xs) (b ∷ ys) (suc k) x y d e f =
    copy_at id xs ys k x y d.1 e f ∙ sym (answer_on (id a) (id b) (map id xs) (map id ys) (id x) (each_in (λ z. id a ≢ z) (map id xs) (id x) d.0 (member id xs k x e)))

number_high : (v : ℕ → ℕ) (k b : ℕ) (xs : List ℕ) → Numbered v k xs → In b xs → v b / 256 - k < length xs
number_high v k b [] n i = absurd i
number_high v k b (x ∷ xs) n (inl e) = let m : v b / 256 ≡ k = ap (λ (w : ℕ). v w / 256) (sym e) ∙ n.0 in omega (arith, m)
number_high v k b (x ∷ xs) n (inr i) = let h = number_high v (suc k) b xs n.1 i in omega (arith, h)

-- and is below the number of copies
pub number_below : {A : Type 0} (id : A → ℕ) (v : ℕ → ℕ) (k b : ℕ) (xs ys : List A) → Numbered v k (map id xs) → In b (map id xs) → length ys ≡ length xs → v b / 256 - k < length ys
number_below id v k b xs ys n i e = let h = number_high v k b (map id xs) n i in let l = length_map id xs in omega (arith, h, e, l)

-- marks are taken back

-- atoms stay when one is marked
pub marked_there : (s : Heap) (b k m : ℕ) (xs : List ℕ) → AllAtoms s xs → AllAtoms (marked s b k m) xs
marked_there s b k m xs h x i = elim (cases_eq x b) [
  | inl e ↦ subst (λ (z : ℕ). IsSome (alter s.atoms b (option_map (with_mark k m)) z)) (sym e)
      (subst (λ (o : Option HeapAtom). IsSome o) (sym (alter_at s.atoms b (option_map (with_mark k m)))) (by (s.atoms b) (subst (λ (z : ℕ). IsAtom s z) e (h x i))))
  | inr d ↦ subst (λ (o : Option HeapAtom). IsSome o) (sym (alter_away s.atoms b (option_map (with_mark k m)) x d)) (h x i)
]
  where
    by : (o : Option HeapAtom) → IsSome o → IsSome (option_map (with_mark k m) o)
    by None i = absurd (cc)
    by (Some z) i = refl

-- atoms are made

-- no copies are made at first
pub made_nil : (s : Heap) (xs : List ℕ) → s ≡ made_like s xs []
made_nil s [] = refl
made_nil s (x ∷ xs) = refl

-- each of the numbers names a new atom
pub made_new : (s : Heap) (xs ys : List ℕ) (y : ℕ) → AllAtoms s xs → AreNew s ys → length ys ≤ length xs → In y ys → (f : Functor) × ((made_like s xs ys).atoms y ≡ Some (new_atom f))
made_new s [] [] y h n l i = absurd i
made_new s [] (z ∷ ys) y h n l i = absurd (omega arith)
made_new s (x ∷ xs) [] y h n l i = absurd i
made_new s (x ∷ xs) (z ∷ ys) y h n l (inl e) =
    let f = has_functor s x (h x (inl refl)) in (
      f.0,
      subst (λ (w : ℕ). (made_like (made_as s z (functor_of s x)) xs ys).atoms w ≡ Some (new_atom f.0)) e
          (made_away (made_as s z (functor_of s x)) xs ys z (not_again z ys n.0) ∙ as_here s z f.0 (functor_of s x) f.1),
    )
made_new s (x ∷ xs) (z ∷ ys) y h n l (inr i) =
    made_new (made_as s z (functor_of s x)) xs ys y (as_there s z (functor_of s x) xs (λ w k. h w (inr k)) (n.1 z (inl refl))) (as_new s z (functor_of s x) ys n) (omega (arith, l)) i

made_snoc : (s : Heap) (xs ys : List ℕ) (x b : ℕ) (f : Functor) → slice_get xs (length ys) ≡ Some x → functor_of (made_like s xs ys) x ≡ Some f
    → made_atom (made_like s xs ys) b f ≡ made_like s xs (ys ++ b ∷ [])
made_snoc s [] ys x b f e g = absurd (cc)
made_snoc s (z ∷ xs) [] x b f e g =
    let h : z ≡ x = (cc) in
    ap (made_as s b) (sym (ap (functor_of s) h ∙ g)) ∙ made_nil (made_as s b (functor_of s z)) xs
made_snoc s (z ∷ xs) (y ∷ ys) x b f e g = made_snoc (made_as s y (functor_of s z)) xs ys x b f e g

-- nothing is made at first
pub made_first : {A : Type 0} (id : A → ℕ) (s : Heap) (xs : List ℕ) (ys : List A) → ys ≡ [] → Made s s xs (map id ys)
made_first {A = A} id s xs ys e = subst (λ (zs : List A). Made s s xs (map id zs)) (sym e) (record { fresh = (tt, λ y i. absurd i); is = made_nil s xs; short = omega arith })

module _ {A : Type 0} (id : A → ℕ) (s now : Heap) (xs ys : List A) (made : Made s now (map id xs) (map id ys)) (there : AllAtoms s (map id xs)) (k : ℕ) (a b : A) (f : Functor)
    (get : slice_get xs k ≡ Some a) (long : length ys ≡ k) (functor : functor_of now (id a) ≡ Some f) (free : now.atoms (id b) ≡ None) where
  new_is : In (id b) (map id ys) → ⊥
  new_is i =
      let h = made_new s (map id xs) (map id ys) (id b) there made.fresh made.short i in
      let g : ◌≡◌ {A = Option HeapAtom} None (Some (new_atom h.0)) = sym free ∙ ap (λ (t : Heap). t.atoms (id b)) made.is ∙ h.1 in
      absurd (cc)

  pub made_more : (to : Heap) → to ≡ made_atom now (id b) f → Made s to (map id xs) (map id ys ++ id b ∷ [])
  made_more to e = record {
    fresh = (
      distinct_snoc (id b) (map id ys) made.fresh.0 new_is,
      λ y i. elim (in_snoc y (id b) (map id ys) i) [
        | inl old ↦ made.fresh.1 y old
        | inr same ↦ subst (λ (z : ℕ). s.atoms z ≡ None) (sym same) (sym (made_away s (map id xs) (map id ys) (id b) new_is) ∙ sym (ap (λ (t : Heap). t.atoms (id b)) made.is) ∙ free)
      ],
    );
    is = e ∙ ap (λ (t : Heap). made_atom t (id b) f) made.is
        ∙ made_snoc s (map id xs) (map id ys) (id a) (id b) f (subst (λ (n : ℕ). slice_get (map id xs) n ≡ Some (id a)) (sym (length_map id ys ∙ long)) (get_map id xs k a get))
        (subst (λ (t : Heap). functor_of t (id a) ≡ Some f) made.is functor);
    short = (let l = length-append (map id ys) (id b ∷ []) in let m = length_map id ys in let n = length_map id xs in let p = slice_get_within xs k a get in omega (arith, l, m, n, p, long));
  }

  pub made_next : (to : Heap) → to ≡ made_atom now (id b) f → (zs : List A) → zs ≡ ys ++ b ∷ [] → Made s to (map id xs) (map id zs)
  made_next to e zs g = subst (λ (ws : List ℕ). Made s to (map id xs) ws) (sym (ap (map id) g ∙ map_snoc id ys b)) (made_more to e)

-- atoms stay when one is made
pub made_keeps : (s to : Heap) (b : ℕ) (f : Functor) (xs : List ℕ) → to ≡ made_atom s b f → s.atoms b ≡ None → AllAtoms s xs → AllAtoms to xs
made_keeps s to b f xs e none h = subst (λ (t : Heap). AllAtoms t xs) (sym e) (as_there s b (Some f) xs h none)

-- ports are joined

-- a port that isn't the root doesn't pass the test
pub other_port : (a i : ℕ) (root : ℕ × ℕ) → ((a ≡ root.0) × (i ≡ root.1) → ⊥) → is_port (a, i) root ≡ false
other_port a i root d = by (is_port (a, i) root) refl
  where
    by : (t : Bool) → is_port (a, i) root ≡ t → is_port (a, i) root ≡ false
    by true e = let g = same_port a i root e in absurd (d (ap (λ (p : ℕ × ℕ). p.0) g, ap (λ (p : ℕ × ℕ). p.1) g))
    by false e = e

-- an atom that is another one with a port has it
pub has_port_as : (s : Heap) (d x j : ℕ) → d ≡ x → j < arity_of s x → IsAtom s d × (j < arity_of s d)
has_port_as s d x j e l = let there : j < arity_of s d = subst (λ y. j < arity_of s y) (sym e) l in (is_atom_at s d j there, there)

-- the copies of two joined ports differ
pub port_differs : (s : Heap) (root : ℕ × ℕ) (xs ys : List ℕ) (a i b j c d : ℕ) → Copying s root xs ys → In a xs → is_port (a, i) root ≡ false → link_of s a i ≡ Some (b, j)
    → c ≡ answer xs ys a → d ≡ answer xs ys b → ◌≢◌ {A = ℕ × ℕ} (c, i) (d, j)
port_differs s root xs ys a i b j c d t a_in other link e f same =
    copies_differ s root xs ys t a i a_in b j other link (λ k. let p : ℕ × ℕ = ((sym e ∙ ap (λ (p : ℕ × ℕ). p.0) same ∙ f) k, (ap (λ (p : ℕ × ℕ). p.1) same) k) in p)

-- they are joined as the two ports are
pub port_is_joined : (s to : Heap) (root : ℕ × ℕ) (f : ℕ → ℕ) (a i b j c d : ℕ) → to ≡ joined s c i d j → is_port (a, i) root ≡ false → link_of s a i ≡ Some (b, j)
    → c ≡ f a → d ≡ f b → to ≡ joined_like f root s (a, i)
port_is_joined s to root f a i b j c d made other link e g =
    made ∙ ap (λ (x : ℕ). joined s x i d j) e ∙ ap (λ (x : ℕ). joined s (f a) i x j) g ∙ sym (like_some f root s a i b j other link)

-- the ports of an atom from one on begin with it
pub ports_first : (a i n : ℕ) → i < n → port_range a i (n - i) ≡ (a, i) ∷ port_range a (i + 1) (n - (i + 1))
ports_first a i n l = ap (port_range a i) (let e : n - i ≡ suc (n - (i + 1)) = omega (arith, l) in e)

module _ (root : ℕ × ℕ) (xs ys : List ℕ) (s to : Heap) (a : ℕ) (t : Copying s root xs ys) (a_in : In a xs) where
  pub port_copying : (i : ℕ) → to ≡ joined_like (answer xs ys) root s (a, i) → Copying to root xs ys
  port_copying i e = subst (λ (h : Heap). Copying h root xs ys) (sym e) (like_copying s root xs ys t a i a_in)

  pub ports_copying : (n : ℕ) → to ≡ all_joined (answer xs ys) root s (port_range a 0 n) → Copying to root xs ys
  ports_copying n e = subst (λ (h : Heap). Copying h root xs ys) (sym e) (all_copying root xs ys s (port_range a 0 n) t (ports_in xs a 0 n a_in))

module _ (root : ℕ × ℕ) (f : ℕ → ℕ) (s to : Heap) where
  pub port_numbers : (p : ℕ × ℕ) (xs : List ℕ) → to ≡ joined_like f root s p → Numbered (first_marks s) 2 xs → Numbered (first_marks to) 2 xs
  port_numbers p xs e n = subst (λ (h : Heap). Numbered (first_marks h) 2 xs) (sym e) (like_numbers f root s p 2 xs n)

  pub ports_numbers : (ps : List (ℕ × ℕ)) (xs : List ℕ) → to ≡ all_joined f root s ps → Numbered (first_marks s) 2 xs → Numbered (first_marks to) 2 xs
  ports_numbers ps xs e n = subst (λ (h : Heap). Numbered (first_marks h) 2 xs) (sym e) (all_numbers f root s ps 2 xs n)

  pub port_arity : (p : ℕ × ℕ) (c : ℕ) → to ≡ joined_like f root s p → arity_of to c ≡ arity_of s c
  port_arity p c e = ap (λ (h : Heap). arity_of h c) e ∙ like_arity f root s p c

  pub ports_arity : (ps : List (ℕ × ℕ)) (c : ℕ) → to ≡ all_joined f root s ps → arity_of to c ≡ arity_of s c
  ports_arity ps c e = ap (λ (h : Heap). arity_of h c) e ∙ all_arity f root s ps c

  pub port_done : (goal : Heap) (a i n : ℕ) → i < n → to ≡ joined_like f root s (a, i) → all_joined f root s (port_range a i (n - i)) ≡ goal → all_joined f root to (port_range a (i + 1) (n - (i + 1))) ≡ goal
  port_done goal a i n l e h = ap (λ (t : Heap). all_joined f root t (port_range a (i + 1) (n - (i + 1)))) e ∙ sym (ap (all_joined f root s) (ports_first a i n l)) ∙ h

  pub ports_done : {A : Type 0} (id : A → ℕ) (start goal : Heap) (xs : List A) (k : ℕ) (a : A) → slice_get xs k ≡ Some a
      → to ≡ all_joined f root s (port_range (id a) 0 (arity_of s (id a))) → arity_of s (id a) ≡ arity_of start (id a)
      → all_joined f root s (ports_of start (drop k (map id xs))) ≡ goal → all_joined f root to (ports_of start (drop (k + 1) (map id xs))) ≡ goal
  ports_done id start goal xs k a get e g h =
      ap (λ (t : Heap). all_joined f root t (ports_of start (drop (k + 1) (map id xs)))) (e ∙ ap (λ (n : ℕ). all_joined f root s (port_range (id a) 0 n)) g)
      ∙ sym (all_append f root s (port_range (id a) 0 (arity_of start (id a))) (ports_of start (drop (k + 1) (map id xs))))
      ∙ sym (ap (λ (zs : List ℕ). all_joined f root s (ports_of start zs)) (drop_map id xs k a get)) ∙ h

-- one mark less is left to be cleared
pub clear_done : {A : Type 0} (id : A → ℕ) (s to goal : Heap) (xs : List A) (k : ℕ) (a : A) → slice_get xs k ≡ Some a → to ≡ marked s (id a) 0 0
    → unmarked_all s (drop k (map id xs)) ≡ goal → unmarked_all to (drop (k + 1) (map id xs)) ≡ goal
clear_done id s to goal xs k a get e h = ap (λ (t : Heap). unmarked_all t (drop (k + 1) (map id xs))) e ∙ sym (ap (unmarked_all s) (drop_map id xs k a get)) ∙ h

-- atoms stay when a mark is cleared
pub clear_there : (s to : Heap) (b : ℕ) (xs : List ℕ) → to ≡ marked s b 0 0 → AllAtoms s xs → AllAtoms to xs
clear_there s to b xs e h = subst (λ (t : Heap). AllAtoms t xs) (sym e) (marked_there s b 0 0 xs h)
