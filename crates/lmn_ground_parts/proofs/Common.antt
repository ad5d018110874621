-- Lemmas that several crates above cite.
use Rattle.lmn_base.specs.Lists.{In}
use Rattle.lmn_base.specs.declared.functor.Functor.{Functor}
use Rattle.lmn_ground_parts.proofs.AnswerLaws.{answer_here, answer_on}
use Rattle.lmn_ground_parts.proofs.WalkLaws.{holds_left, holds_port, holds_right}
use Rattle.lmn_ground_parts.specs.Copies.{made_as, AllAtoms, AreNew, made_like, answer, ports_of}
use Rattle.lmn_ground_parts.specs.Rests.{keep, all_mems_taken, atoms_placed}
use Rattle.lmn_ground_parts.specs.Walks.{HasPort, port_range}
use Rattle.lmn_store_heap.proofs.Common.{is_not, has_functor}
use Rattle.lmn_store_heap.proofs.Heights.{mem_of_list, parent_place}
use Rattle.lmn_store_heap.proofs.ListLemmas.{each_in}
use Rattle.lmn_store_heap.proofs.Listing.{alter_at, alter_away}
use Rattle.lmn_store_heap.proofs.Ports.{linked_away}
use Rattle.lmn_store_heap.specs.Heap.{Heap, new_atom, placed, Distinct, HeapAtom, functor_of, cleared, joined, link_of, linked, arity_of, IsMem, parent_of}
use Rattle.lmn_store_heap.specs.Sound.{Sound}
use Rattle.std.proofs.Common.{Option, Some, subst, sym, ℕ, ◌≡◌, None, refl, ◌≢◌, List, inl, inr, suc, zero, ◌+◌, [], ap, true, ◌∷◌, ◌++◌, ◌⊎◌, IsSome, ◌∙◌, arith, length, ◌<◌}
use Rattle.std.proofs.lemmas.Bool.{cases_eq}
use Rattle.std.specs.Option.{option_map}
use Rattle.lmn_store_heap.specs.Heap as heap

pub as_here : (s : Heap) (y : ℕ) (f : Functor) (o : Option Functor) → o ≡ Some f → (made_as s y o).atoms y ≡ Some (new_atom f)
as_here s y f o e = subst (λ (q : Option Functor). (made_as s y q).atoms y ≡ Some (new_atom f)) (sym e) (alter_at s.atoms y (λ _. Some (new_atom f)))

pub as_away : (s : Heap) (b c : ℕ) (o : Option Functor) → c ≢ b → (made_as s b o).atoms c ≡ s.atoms c
as_away s b c None d = refl
as_away s b c (Some f) d = alter_away s.atoms b (λ _. Some (new_atom f)) c d

pub ports_in : (xs : List ℕ) (a i n : ℕ) → In a xs → (p : ℕ × ℕ) → HasPort p (port_range a i n) → In p.0 xs
ports_in xs a i zero a_in p k = absurd k
ports_in xs a i (suc n) a_in p (inl e) = subst (λ (q : ℕ × ℕ). In q.0 xs) e a_in
ports_in xs a i (suc n) a_in p (inr k) = ports_in xs a (i + 1) n a_in p k

pub keep_all : (xs : List ℕ) → keep (λ _. true) xs ≡ xs
keep_all [] = refl
keep_all (x ∷ xs) = ap (λ ys. x ∷ ys) (keep_all xs)

pub either_port : (a i n : ℕ) (ps : List (ℕ × ℕ)) (p : ℕ × ℕ) → HasPort p (port_range a i n ++ ps) → HasPort p (port_range a i n) ⊎ HasPort p ps
either_port a i zero ps p h = inr h
either_port a i (suc n) ps p (inl e) = inl (inl e)
either_port a i (suc n) ps p (inr h) = elim (either_port a (i + 1) n ps p h) [ inl k ↦ inl (inr k) | inr k ↦ inr k ]

pub mems_taken_root : (ms : List ℕ) (s : Heap) → (all_mems_taken s ms).root ≡ s.root
mems_taken_root [] s = refl
mems_taken_root (m ∷ ms) s = mems_taken_root ms (heap.taken_mem s m)

pub copies_root : (copy : ℕ → ℕ) (n : ℕ) (xs : List ℕ) (s : Heap) → (atoms_placed copy s n xs).root ≡ s.root
copies_root copy n [] s = refl
copies_root copy n (a ∷ xs) s = copies_root copy n xs (placed s n (copy a))

pub not_again : (y : ℕ) (ys : List ℕ) → Distinct (y ∷ ys) → In y ys → ⊥
not_again y ys d i = each_in (λ (w : ℕ). y ≢ w) ys y d.0 i refl

pub one_there : (s : Heap) (y : ℕ) (o : Option Functor) (xs : List ℕ) → AllAtoms s xs → s.atoms y ≡ None → AllAtoms (made_as s y o) xs
one_there s y o xs h none x i = subst (λ (q : Option HeapAtom). IsSome q) (sym (as_away s y x o (is_not s x y (h x i) none))) (h x i)

pub one_new : (s : Heap) (y : ℕ) (o : Option Functor) (ys : List ℕ) → AreNew s (y ∷ ys) → AreNew (made_as s y o) ys
one_new s y o ys h = (h.0.1, λ z i. as_away s y z o (λ e. each_in (λ (w : ℕ). y ≢ w) ys z h.0.0 i (sym e)) ∙ h.1 z (inr i))

-- other atoms stay when copies are made
pub made_away : (s : Heap) (xs ys : List ℕ) (c : ℕ) → (In c ys → ⊥) → (made_like s xs ys).atoms c ≡ s.atoms c
made_away s [] ys c n = refl
made_away s (x ∷ xs) [] c n = refl
made_away s (x ∷ xs) (y ∷ ys) c n = made_away (made_as s y (functor_of s x)) xs ys c (λ k. n (inr k)) ∙ as_away s y c (functor_of s x) (λ e. n (inl (sym e)))

-- the copy of an atom is a new atom with its functor
pub made_at : (s : Heap) (xs ys : List ℕ) (a : ℕ) → AllAtoms s xs → AreNew s ys → Distinct xs → length ys ≡ length xs → In a xs → (made_like s xs ys).atoms (answer xs ys a) ≡ option_map new_atom (functor_of s a)
made_at s [] ys a h n d l i = absurd i
made_at s (x ∷ xs) [] a h n d l i = absurd (omega arith)
made_at s (x ∷ xs) (y ∷ ys) a h n d l i = elim (cases_eq x a) [
  | inl e ↦
      let f = has_functor s x (h x (inl refl)) in
      subst (λ (w : ℕ). (made_like (made_as s y (functor_of s x)) xs ys).atoms w ≡ option_map new_atom (functor_of s a)) (sym (answer_here x y xs ys a e))
      (made_away (made_as s y (functor_of s x)) xs ys y (not_again y ys n.0) ∙ as_here s y f.0 (functor_of s x) f.1 ∙ ap (option_map new_atom) (sym f.1 ∙ ap (functor_of s) e))
  | inr p ↦
      let a_in : In a xs = rest i p in
      subst (λ (w : ℕ). (made_like (made_as s y (functor_of s x)) xs ys).atoms w ≡ option_map new_atom (functor_of s a)) (sym (answer_on x y xs ys a p))
      (made_at (made_as s y (functor_of s x)) xs ys a (one_there s y (functor_of s x) xs (λ w k. h w (inr k)) (n.1 y (inl refl))) (one_new s y (functor_of s x) ys n) d.1 (omega (arith, l)) a_in
      ∙ ap (λ (o : Option HeapAtom). option_map new_atom (option_map (λ (t : HeapAtom). t.functor) o)) (as_away s y a (functor_of s x) (is_not s a y (h a i) (n.1 y (inl refl)))))
]
  where
    rest : In a (x ∷ xs) → (x ≡ a → ⊥) → In a xs
    rest (inl e) d = absurd (d e)
    rest (inr k) d = k

pub cleared_away : (f : ℕ → Option HeapAtom) (q : Option (ℕ × ℕ)) (c : ℕ) → ((p : ℕ × ℕ) → q ≡ Some p → c ≢ p.0) → cleared f q c ≡ f c
cleared_away f None c h = refl
cleared_away f (Some q) c h = linked_away f q.0 q.1 None c (h q refl)

pub joined_away : (s : Heap) (a i b j c : ℕ) → c ≢ a → c ≢ b → ((p : ℕ × ℕ) → link_of s a i ≡ Some p → c ≢ p.0) → ((p : ℕ × ℕ) → link_of s b j ≡ Some p → c ≢ p.0)
    → (joined s a i b j).atoms c ≡ s.atoms c
joined_away s a i b j c na nb ha hb =
    linked_away (linked (cleared (cleared s.atoms (link_of s a i)) (link_of s b j)) a i (Some (b, j))) b j (Some (a, i)) c nb
    ∙ linked_away (cleared (cleared s.atoms (link_of s a i)) (link_of s b j)) a i (Some (b, j)) c na
    ∙ cleared_away (cleared s.atoms (link_of s a i)) (link_of s b j) c hb ∙ cleared_away s.atoms (link_of s a i) c ha

-- all ports of these atoms
pub port_in : (s : Heap) (xs : List ℕ) (a i : ℕ) → In a xs → i < arity_of s a → HasPort (a, i) (ports_of s xs)
port_in s [] a i k l = absurd k
port_in s (x ∷ xs) a i (inl e) l = holds_left (a, i) (port_range x 0 (arity_of s x)) (ports_of s xs)
    (subst (λ (z : ℕ). HasPort (z, i) (port_range x 0 (arity_of s x))) e (holds_port x 0 (arity_of s x) i (omega arith) (let m : i < arity_of s x = subst (λ (z : ℕ). i < arity_of s z) (sym e) l in omega (arith, m))))
port_in s (x ∷ xs) a i (inr k) l = holds_right (a, i) (port_range x 0 (arity_of s x)) (ports_of s xs) (port_in s xs a i k l)

pub parent_mem : (h : Heap) → Sound h → (n p : ℕ) → parent_of h n ≡ Some p → IsMem h p
parent_mem h s n p e = mem_of_list h p n ((s.listed.mems p n).1 (parent_place h n p e))
