-- Copies of atoms that no link leaves.
use Rattle.std.proofs.Common.{◌≡◌, ℕ, zero, suc, ◌+◌, ◌<◌, false, List, [], ◌∷◌, length, Option, Some, None, IsSome, refl, sym, ap, subst, ◌∙◌, inl, inr, arith}
use Rattle.std.specs.Option.{option_map}
use Rattle.std.specs.Prelude.{slice_index_or, OnOk, OnErr, Result, Ok, Err}
use Rattle.std.proofs.lemmas.List.{length-replicate}
use Rattle.lmn_store_heap.specs.Heap.{Heap, HeapAtom, Distinct, IsAtom, arity_of, link_of, marks_of, new_atom, partners_of}
use Rattle.lmn_store_heap.specs.Sound.{Paired, Sound}
use Rattle.lmn_store_heap.proofs.Replacing.{port_within}
use Rattle.lmn_base.specs.Lists.{In}
use Rattle.lmn_ground_parts.specs.Walks.{HasPort, Net, is_port, net, port_range}
use Rattle.lmn_ground_parts.specs.Copies.{AllAtoms, AreNew, all_joined, answer, joined_like, made_like, ports_of}
use Rattle.lmn_ground_parts.specs.Rests.{NoneLeaves, all_joined_as, joined_as, joined_copies}
use Rattle.lmn_ground_parts.proofs.AnswerLaws.{answer_in}
use Rattle.lmn_ground.specs.Copies.{Copying, Made, NumbersAtoms, unmarked_all}
use Rattle.lmn_ground.specs.Marks.{first_marks, painted}
use Rattle.lmn_ground.specs.Spread.{Numbered}
use Rattle.lmn_ground.proofs.CopyLaws.{made_new, other_port}
use Rattle.lmn_ground.proofs.CopiedLaws.{link_at, made_is, numbers_net, old_marks, ports_of_in}
use Rattle.lmn_ground.proofs.JoinLaws.{all_copying, all_marks}
use Rattle.lmn_ground.proofs.NumberLaws.{numbered_same}
use Rattle.lmn_ground.proofs.PaintedLaws.{all_painted, ports_painted, unmarked_painted}
use Rattle.lmn_ground.proofs.PaintLaws.{net_painted}
use Rattle.lmn_store_heap.proofs.Common.{has_functor, is_not}
use Rattle.lmn_ground_parts.proofs.Common.{either_port, made_at, made_away}

-- Joining with a root that is no port is joining without one.

range_small : (a i n : ℕ) (p : ℕ × ℕ) → HasPort p (port_range a i n) → (p.0 ≡ a) × (p.1 < i + n)
range_small a i zero p h = absurd h
range_small a i (suc n) p (inl e) = (sym (ap (λ (q : ℕ × ℕ). q.0) e), subst (λ z. z < i + suc n) (ap (λ (q : ℕ × ℕ). q.1) e) (omega arith))
range_small a i (suc n) p (inr h) = let w = range_small a (i + 1) n p h in let l = w.1 in (w.0, omega (arith, l))

ports_small : (s : Heap) (xs : List ℕ) (p : ℕ × ℕ) → HasPort p (ports_of s xs) → p.1 < arity_of s p.0
ports_small s [] p h = absurd h
ports_small s (x ∷ xs) p h = elim (either_port x 0 (arity_of s x) (ports_of s xs) p h) [
  | inl k ↦ (let w = range_small x 0 (arity_of s x) p k in let l = w.1 in subst (λ z. p.1 < arity_of s z) (sym w.0) (omega (arith, l)))
  | inr k ↦ ports_small s xs p k
]

like_as : (f : ℕ → ℕ) (root : ℕ × ℕ) (s : Heap) (p : ℕ × ℕ) → is_port p root ≡ false → joined_like f root s p ≡ joined_as f s p
like_as f root s p e = rw e refl

joins_all : (f : ℕ → ℕ) (root : ℕ × ℕ) (s : Heap) (ps : List (ℕ × ℕ)) → ((p : ℕ × ℕ) → HasPort p ps → is_port p root ≡ false) → all_joined f root s ps ≡ all_joined_as f s ps
joins_all f root s [] h = refl
joins_all f root s (p ∷ ps) h = ap (λ t. all_joined f root t ps) (like_as f root s p (h p (inl refl))) ∙ joins_all f root (joined_as f s p) ps (λ q k. h q (inr k))

pub joins_without_root : (f : ℕ → ℕ) (root : ℕ × ℕ) (s : Heap) (xs : List ℕ) → root.1 ≡ arity_of s root.0 → all_joined f root s (ports_of s xs) ≡ all_joined_as f s (ports_of s xs)
joins_without_root f root s xs off = joins_all f root s (ports_of s xs) (λ p k. other_port p.0 p.1 root (λ e.
    let l = ports_small s xs p k in
    let m : arity_of s p.0 ≡ arity_of s root.0 = ap (arity_of s) e.0 in
    let n = e.1 in
    absurd (omega (arith, l, m, n, off))))

-- The copies are made, and may be joined.
module _ (s : Heap) (root : ℕ × ℕ) (xs ys : List ℕ) (sound : Sound s) (there : AllAtoms s xs) (fresh : AreNew s ys) (long : length ys ≡ length xs)
    (once : Distinct xs) (first : In root.0 xs) (stays : NoneLeaves s xs) (off : root.1 ≡ arity_of s root.0) where
  abbrev made : Heap
  made = made_like s xs ys

  not_new : (x : ℕ) → In x xs → In x ys → ⊥
  not_new x i j = is_not s x x (there x i) (fresh.1 x j) refl

  made_kept : (c : ℕ) → (In c ys → ⊥) → made.atoms c ≡ s.atoms c
  made_kept c d = made_away s xs ys c d

  link_made : (c k : ℕ) → (In c ys → ⊥) → link_of made c k ≡ link_of s c k
  link_made c k d = ap (λ (o : Option HeapAtom). slice_index_or (partners_of o) k None) (made_kept c d)

  link_new : (y k : ℕ) → In y ys → link_of made y k ≡ None
  link_new y k i = let m = made_new s xs ys y there fresh (omega (arith, long)) i in link_at made y k m.0 m.1

  linked_old : (a i b j : ℕ) → link_of made a i ≡ Some (b, j) → (In a ys → ⊥)
  linked_old a i b j e k = let g : ◌≡◌ {A = Option (ℕ × ℕ)} None (Some (b, j)) = sym (link_new a i k) ∙ e in absurd (cc)

  partner_old : (b j a i : ℕ) → link_of s b j ≡ Some (a, i) → (In b ys → ⊥)
  partner_old b j a i f k =
      let g : ◌≡◌ {A = Option (ℕ × ℕ)} None (Some (a, i)) = sym (ap (λ (o : Option HeapAtom). slice_index_or (partners_of o) j None) (fresh.1 b k)) ∙ f in absurd (cc)

  made_paired : Paired made
  made_paired = record {
    back = λ a i b j e. (
        let old : link_of s a i ≡ Some (b, j) = sym (link_made a i (linked_old a i b j e)) ∙ e in
        let back = sound.paired.back a i b j old in
        link_made b j (partner_old b j a i back) ∙ back);
    apart = λ a i e. sound.paired.apart a i (sym (link_made a i (linked_old a i a i e)) ∙ e);
  }

  arity_kept : (a : ℕ) → In a xs → arity_of made a ≡ arity_of s a
  arity_kept a i = ap (λ (o : Option HeapAtom). length (partners_of o)) (made_kept a (not_new a i))

  arity_new : (a : ℕ) → In a xs → arity_of made (answer xs ys a) ≡ arity_of made a
  arity_new a i =
      let f = has_functor s a (there a i) in
      ap (λ (o : Option HeapAtom). length (partners_of o)) (made_at s xs ys a there fresh once long i ∙ ap (option_map new_atom) f.1)
      ∙ length-replicate f.0.arity None
      ∙ sym (arity_kept a i ∙ sound.shaped.ports a f.0 f.1)

  pub rest_copying : Copying made root xs ys
  rest_copying = record {
    there = λ x k. subst (λ (o : Option HeapAtom). IsSome o) (sym (made_kept x (not_new x k))) (there x k);
    first = first;
    paired = made_paired;
    once = once;
    copies_once = fresh.0;
    long = long;
    apart = not_new;
    arities = arity_new;
    closed = λ a i b j k d e. (
        let old : link_of s a i ≡ Some (b, j) = sym (link_made a i (not_new a k)) ∙ e in (
          stays a i b j k old,
          λ same. (
              let w = port_within s b j (a, i) (sound.paired.back a i b j old) in
              let m : arity_of s b ≡ arity_of s root.0 = ap (λ (p : ℕ × ℕ). arity_of s p.0) same in
              let n : j ≡ root.1 = ap (λ (p : ℕ × ℕ). p.1) same in
              omega (arith, w, m, n, off)),
        ));
    joined = λ a i k. inl (link_new (answer xs ys a) i (answer_in xs ys a (omega (arith, long)) k));
  }

  pub rest_numbered : Numbered (first_marks s) 2 xs → Numbered (first_marks made) 2 xs
  rest_numbered h = numbered_same (first_marks s) (first_marks made) 2 xs h (λ z i. ap (λ (o : Option HeapAtom). slice_index_or (marks_of o) 0 0) (made_kept z (not_new z i)))

  pub rest_joined : (end : Heap) → end ≡ all_joined (answer xs ys) root made (ports_of made xs) → end ≡ joined_copies s xs ys
  rest_joined end e = e ∙ joins_without_root (answer xs ys) root made xs (off ∙ sym (arity_kept root.0 first))

  pub rest_there : (end : Heap) → end ≡ all_joined (answer xs ys) root made (ports_of made xs) → AllAtoms end xs
  rest_there end e x k = subst (λ (h : Heap). IsAtom h x) (sym e) ((all_copying root xs ys made (ports_of made xs) rest_copying (λ p i. ports_of_in made xs xs (λ z m. m) p i)).there x k)

-- The numbers are taken back.
module _ (s now : Heap) (xs : List ℕ) (marks : NumbersAtoms s now xs) where
  pub unmarked_made : (to : Heap) (ys : List ℕ) → Made now to xs ys → unmarked_all to xs ≡ made_like s xs ys
  unmarked_made to ys m =
      ap (λ (h : Heap). unmarked_all h xs) (made_is s now xs marks to ys m) ∙ unmarked_painted (made_like s xs ys) marks.marks xs (old_marks s now xs marks ys m.fresh) marks.outside

  pub unmarked_joined : (end : Heap) (ys : List ℕ) (first : ℕ) → Made now (made_like now xs ys) xs ys → end ≡ joined_copies now xs ys → unmarked_all end xs ≡ joined_copies s xs ys
  unmarked_joined end ys first m e =
      let f = answer xs ys in
      let t = made_like s xs ys in
      let u = made_like now xs ys in
      let root : ℕ × ℕ = (first, arity_of t first) in
      let same : u ≡ painted t marks.marks = made_is s now xs marks u ys m in
      let nets : net u ≡ net t = ap net same ∙ net_painted t marks.marks in
      let joined : end ≡ painted (all_joined f root t (ports_of t xs)) marks.marks =
      e ∙ sym (joins_without_root f root u xs (sym (ap (λ (n : Net). n.arity first) nets)))
      ∙ ap (λ (h : Heap). all_joined f root h (ports_of h xs)) same
      ∙ ap (all_joined f root (painted t marks.marks)) (ports_painted t marks.marks xs)
      ∙ all_painted f root t marks.marks (ports_of t xs) in
      ap (λ (h : Heap). unmarked_all h xs) joined
      ∙ unmarked_painted (all_joined f root t (ports_of t xs)) marks.marks xs
      (λ x k. all_marks f root t (ports_of t xs) x 0 ∙ old_marks s now xs marks ys m.fresh x k) marks.outside
      ∙ joins_without_root f root t xs refl

-- What was there before copies were made is there, with as many ports.
pub made_all_there : (s to : Heap) (xs ys : List ℕ) → Made s to xs ys → AllAtoms s xs → AllAtoms to xs
made_all_there s to xs ys m there x k =
    subst (λ (h : Heap). IsAtom h x) (sym m.is) (subst (λ (o : Option HeapAtom). IsSome o) (sym (made_away s xs ys x (λ i. is_not s x x (there x k) (m.fresh.1 x i) refl))) (there x k))

pub made_arity : (s : Heap) (xs ys : List ℕ) (a : ℕ) → AllAtoms s xs → AreNew s ys → In a xs → arity_of (made_like s xs ys) a ≡ arity_of s a
made_arity s xs ys a there fresh k = ap (λ (o : Option HeapAtom). length (partners_of o)) (made_away s xs ys a (λ i. is_not s a a (there a k) (fresh.1 a i) refl))

-- no link leaves them either when they are numbered
pub stays_numbered : (s now : Heap) (xs : List ℕ) → NumbersAtoms s now xs → NoneLeaves s xs → NoneLeaves now xs
stays_numbered s now xs marks stays a i b j k link = stays a i b j k (ap (λ (n : Net). n.link a i) (sym (numbers_net s now xs marks)) ∙ link)

-- what holds of an answer that is Ok, and of one that is Err
pub on_ok : {A E : Type 0} (r : Result A E) (P Q : Type 0) → (P → Q) → OnOk r P → OnOk r Q
on_ok (Ok x) P Q f h = f h
on_ok (Err e) P Q f h = tt

pub on_error : {A E : Type 0} (r : Result A E) (P Q : Type 0) → (P → Q) → OnErr r P → OnErr r Q
on_error (Ok x) P Q f h = tt
on_error (Err e) P Q f h = f h
