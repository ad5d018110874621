-- The lengths of lists.
use Rattle.std.proofs.Common.{◌≡◌, ℕ, zero, suc, ◌+◌, ◌-◌, ◌<◌, ◌≤◌, ◌^◌, List, [], ◌∷◌, ◌++◌, length, get_or, refl, sym, ap, subst, ◌∙◌, inl, inr, arith, length-append}
use Rattle.std.specs.Prelude.{slice_set, slice_index_or}
use Rattle.std.proofs.lemmas.Bool.{cases_eq}
use Rattle.std.proofs.lemmas.List.{length-set, get_or-set_same}
use Rattle.lmn_store_heap.specs.Lists.{Distinct, without}
use Rattle.lmn_store_heap.specs.Heap.{alter}
use Rattle.lmn_store_heap.proofs.ListLemmas.{short}
use Rattle.lmn_store_heap.proofs.Pigeonholes.{length_without}
use Rattle.lmn_store_heap.proofs.Listing.{alter_at, alter_away}
use Rattle.lmn_store_slab.specs.declared.node.Node.{Node}
use Rattle.lmn_store_slab.specs.declared.node.Ends.{Ends}
use Rattle.lmn_store_slab.specs.Lines.{HeldLists, list_at, lengths, WellLinked, view_of}
use Rattle.lmn_store_slab.proofs.GrowthLemmas.{read_more}
use Rattle.lmn_store_slab.proofs.SoundLemmas.{within}
use Rattle.lmn_store_slab.proofs.TableLemmas.{list_is, list_within, not_there}
use Rattle.lmn_base.specs.Lists.{In}

-- there are as many lengths as lists
pub length-lengths : (ls : List (List ℕ)) → length (lengths ls) ≡ length ls
length-lengths [] = refl
length-lengths (xs ∷ ls) = ap suc (length-lengths ls)

-- the length of each list
pub lengths-at : (ls : List (List ℕ)) (i d : ℕ) → i < length ls → get_or (lengths ls) i d ≡ length (slice_index_or ls i [])
lengths-at [] i d h = absurd (omega arith)
lengths-at (xs ∷ ls) zero d h = refl
lengths-at (xs ∷ ls) (suc i) d h = lengths-at ls i d (omega arith)

-- a list that is changed has another length, and the others have theirs
pub lengths-set : (ls : List (List ℕ)) (i : ℕ) (xs : List ℕ) → lengths (slice_set ls i xs) ≡ slice_set (lengths ls) i (length xs)
lengths-set [] i xs = refl
lengths-set (ys ∷ ls) zero xs = refl
lengths-set (ys ∷ ls) (suc i) xs = ap (λ ns. length ys ∷ ns) (lengths-set ls i xs)

-- a new list has the length 0
pub lengths-more : (ls : List (List ℕ)) → lengths (ls ++ [] ∷ []) ≡ lengths ls ++ 0 ∷ []
lengths-more [] = refl
lengths-more (ys ∷ ls) = ap (λ ns. length ys ∷ ns) (lengths-more ls)

-- a new list leaves the others
pub list_more : (t h new : HeldLists) → t ≡ h → new ≡ record t { lists = t.lists ++ [] ∷ [] } → list_at new ≡ list_at h
list_more t h new v e = λ j i. (ap (λ (u : HeldLists). list_at u i) e ∙ read_more t.lists [] i ∙ ap (λ (u : HeldLists). list_at u i) v) j

-- no list is longer than there are nodes
pub list_short : (ns : List Node) (es : List Ends) (h : HeldLists) → view_of ns es ≡ h → WellLinked ns es → (l : ℕ) → l < length h.lists → length (list_at h l) ≤ length ns
list_short ns es h v s l there =
    let lt = list_within ns es h v l there in
    let line = s.line l lt in
    rw (list_is ns es h v l there) (short (length ns) _ line.distinct (within ns l _ line.each))

-- and none that is changed
pub put_short : (ns : List Node) (es : List Ends) (h new : HeldLists) (l : ℕ) (ys : List ℕ) → view_of ns es ≡ new → WellLinked ns es → new ≡ record h { lists = slice_set h.lists l ys }
    → l < length h.lists → length (list_at new l) ≤ length ns
put_short ns es h new l ys v s e there = list_short ns es new v s l (subst (λ n. l < n) (sym (ap (λ (u : HeldLists). length u.lists) e ∙ length-set h.lists l ys)) there)

-- The counts of a table's lists, over plain values.
module _ (t h : HeldLists) (cs : List ℕ) (v : t ≡ h) (i : cs ≡ lengths t.lists) (l : ℕ) (there : l < length h.lists) where
  is_lengths : cs ≡ lengths h.lists
  is_lengths = i ∙ ap (λ (u : HeldLists). lengths u.lists) v

  pub count_within : l < length cs
  count_within = rw (is_lengths, length-lengths h.lists) there

  module _ (n : ℕ) (r : n ≡ get_or cs l n) where
    count_is : n ≡ length (list_at h l)
    count_is = r ∙ ap (λ ns. get_or ns l n) is_lengths ∙ lengths-at h.lists l n there

    module _ (new : HeldLists) (x : ℕ) (et : new ≡ record t { lists = slice_set t.lists l (list_at t l ++ x ∷ []) }) where
      e : new ≡ record h { lists = slice_set h.lists l (list_at h l ++ x ∷ []) }
      e = et ∙ ap (λ (u : HeldLists). record u { lists = slice_set u.lists l (list_at u l ++ x ∷ []) }) v

      new_list : length (list_at new l) ≡ n + 1
      new_list = ap (λ (u : HeldLists). length (list_at u l)) e ∙ ap length (get_or-set_same h.lists l (list_at h l ++ x ∷ []) [] there) ∙ length-append (list_at h l) (x ∷ []) ∙ ap (λ k. k + 1) (sym count_is)

      pub push_small : length (list_at new l) < 2 ^ 64 → n + 1 < 2 ^ 64
      push_small f = subst (λ k. k < 2 ^ 64) new_list f

      pub push_counts : slice_set cs l (n + 1) ≡ lengths new.lists
      push_counts =
          ap (λ ns. slice_set ns l (n + 1)) is_lengths
          ∙ ap (slice_set (lengths h.lists) l) (ap (λ k. k + 1) count_is ∙ sym (length-append (list_at h l) (x ∷ [])))
          ∙ sym (lengths-set h.lists l (list_at h l ++ x ∷ [])) ∙ ap (λ (u : HeldLists). lengths u.lists) (sym e)

    module _ (x : ℕ) (inside : In x (list_at h l)) where
      pub unlink_one : 1 ≤ n
      unlink_one = let k = length_without x (list_at h l) inside in let m = count_is in omega arith

      pub unlink_counts : (new : HeldLists) → new ≡ record t { lists = slice_set t.lists l (without x (list_at t l)) } → slice_set cs l (n - 1) ≡ lengths new.lists
      unlink_counts new et =
          let e : new ≡ record h { lists = slice_set h.lists l (without x (list_at h l)) } = et ∙ ap (λ (u : HeldLists). record u { lists = slice_set u.lists l (without x (list_at u l)) }) v in
          let k = length_without x (list_at h l) inside in
          let m = count_is in
          let less : n - 1 ≡ length (without x (list_at h l)) = omega arith in
          ap (λ ns. slice_set ns l (n - 1)) is_lengths ∙ ap (slice_set (lengths h.lists) l) less
          ∙ sym (lengths-set h.lists l (without x (list_at h l))) ∙ ap (λ (u : HeldLists). lengths u.lists) (sym e)

-- the counts stay right with a new list
pub more_counts : (t : HeldLists) (cs : List ℕ) → cs ≡ lengths t.lists → (new : HeldLists) → new ≡ record t { lists = t.lists ++ [] ∷ [] } → cs ++ 0 ∷ [] ≡ lengths new.lists
more_counts t cs i new e = ap (λ ns. ns ++ 0 ∷ []) i ∙ sym (lengths-more t.lists) ∙ ap (λ (u : HeldLists). lengths u.lists) (sym e)

-- a number that was once in one list alone is in none when it has left
pub left_free : (before now : ℕ → List ℕ) (from x : ℕ) → now ≡ alter before from (without x) → Distinct (before from) → ((l : ℕ) → In x (before l) → l ≡ from)
    → In x (before from) → (l : ℕ) → In x (now l) → ⊥
left_free before now from x e once only inside l i =
    elim (cases_eq l from) [
      | inl same ↦ not_there x (before from) once inside
          (subst (In x) (ap (λ (f : ℕ → List ℕ). f l) e ∙ ap (alter before from (without x)) same ∙ alter_at before from (without x)) i)
      | inr other ↦ other (only l (subst (In x) (ap (λ (f : ℕ → List ℕ). f l) e ∙ alter_away before from (without x) l other) i))
    ]
