-- What each call leaves of a heap that is made by hand, and that such a heap is valid once nothing is open.
use Rattle.std.proofs.Common.{ℕ, ◌≡◌, ◌≢◌, ◌⊎◌, ◌+◌, ◌<◌, ◌≤◌, ◌^◌, List, [], ◌∷◌, ◌++◌, Option, Some, None, IsSome, refl, sym, ap, subst, ◌∙◌, inl, inr, arith}
use Rattle.std.specs.Prelude.{slice_index_or}
use Rattle.std.specs.Option.{option_map, option_and_then}
use Rattle.std.proofs.lemmas.Bool.{cases_eq}
use Rattle.lmn_base.specs.declared.functor.Functor.{Functor}
use Rattle.lmn_base.specs.Solids.{connector}
use Rattle.lmn_store_heap.specs.Heap.{Heap, HeapAtom, HeapMem, Place, top, within, gone, alter, with_place, mem_with_place, mem_with_atoms, mem_with_mems, mem_with_spare, mem_with_rules, new_atom, new_mem, home_by, marks_of, link_of, functor_of, mems_by, mems_in, mem_place_of, IsMem, linked, cleared, made_atom, made_mem, placed, placed_mem, reserved, rule_added, joined, lone_root}
use Rattle.lmn_store_heap.specs.Sound.{Sound, AllInPlace, AtMost, Valid, Forest}
use Rattle.lmn_store_heap.specs.Conditions.{Ready}
use Rattle.lmn_store_heap.proofs.Listing.{alter_at, alter_away, alter_keeps}
use Rattle.lmn_store_heap.proofs.Heights.{mem_of_place}
use Rattle.lmn_store_heap.proofs.Replacing.{joined_functor}
use Rattle.lmn_store_heap.proofs.Ranks.{tree, tree_forms, tree_once, tree_all}
use Rattle.lmn_test_rows.specs.Made.{IsMadeByHand}
use Rattle.lmn_base.proofs.Numbers.{zeros_at as no_marks}
use Rattle.lmn_store_heap.proofs.Common.{atom_with_links as has_links, linked_marks, cleared_marks}
use Rattle.lmn_base.specs.Lists.{In}
use Rattle.lmn_base.proofs.Lists.{in_either}

-- Changes of one item

-- what holds of every item, and of the changed one, holds of every item after the change
alter_all : {X : Type 0} (P : ℕ → X → Type 0) (f : ℕ → X) (k : ℕ) (g : X → X) → (P k (f k) → P k (g (f k))) → ((j : ℕ) → P j (f j)) → (j : ℕ) → P j (alter f k g j)
alter_all {X} P f k g h all j = elim (cases_eq j k) [
  | inl e ↦ subst (λ z. P z (alter f k g z)) (sym e) (subst (P k) (sym (alter_at f k g)) (h (all k)))
  | inr d ↦ subst (P j) (sym (alter_away f k g j d)) (all j)
]

-- what stands in the lists of membranes has greater numbers
abbrev Rises : ℕ → Option HeapMem → Type 0
Rises m o = (n : ℕ) → In n (mems_by o) → m < n

abbrev NoConnector : ℕ → Option HeapAtom → Type 0
NoConnector a o = option_map (λ x. x.functor) o ≢ Some connector

abbrev NoMark : ℕ → Option HeapAtom → Type 0
NoMark a o = (i : ℕ) → ◌≡◌ {A = ℕ} (slice_index_or (marks_of o) i 0) 0

-- a heap that stays as it is stays as made by hand
pub made_same : (s t : Heap) → t ≡ s → IsMadeByHand s → IsMadeByHand t
made_same s t e h = subst IsMadeByHand (sym e) h

-- heaps with the same functors, marks and lists of membranes
kept : (s t : Heap) → ((a : ℕ) → functor_of t a ≡ functor_of s a) → ((a : ℕ) → marks_of (t.atoms a) ≡ marks_of (s.atoms a)) → ((m : ℕ) → mems_in t m ≡ mems_in s m) → IsMadeByHand s → IsMadeByHand t
kept s t f k l h = record {
  no_connector = λ a e. h.no_connector a (sym (f a) ∙ e);
  unmarked = λ a i. ap (λ xs. slice_index_or xs i 0) (k a) ∙ h.unmarked a i;
  rising = λ m n i. h.rising m n (subst (In n) (l m) i);
}

-- The calls

-- a lone root is made by hand
pub lone_made : IsMadeByHand lone_root
lone_made = record {
  no_connector = λ a e. absurd (cc);
  unmarked = λ a i. refl;
  rising = alter_all Rises (λ _. None) 0 (λ _. Some (mem_with_place top new_mem)) (λ all n i. absurd i) (λ m n i. absurd i);
}

some_is : (x y : Functor) → Some x ≡ Some y → x ≡ y
some_is x y e = (cc)

-- and so is a heap with one atom more that is no connector
pub atom_made : (s : Heap) (a : ℕ) (f : Functor) → f ≢ connector → IsMadeByHand s → IsMadeByHand (made_atom s a f)
atom_made s a f d h = record {
  no_connector = alter_all NoConnector s.atoms a (λ _. Some (new_atom f)) (λ was e. d (some_is f connector e)) h.no_connector;
  unmarked = alter_all NoMark s.atoms a (λ _. Some (new_atom f)) (λ was i. no_marks (f.arity + 1) i) h.unmarked;
  rising = h.rising;
}

-- or one membrane more
pub mem_made : (s : Heap) (m : ℕ) → IsMadeByHand s → IsMadeByHand (made_mem s m)
mem_made s m h = record {
  no_connector = h.no_connector;
  unmarked = h.unmarked;
  rising = alter_all Rises s.mems m (λ _. Some new_mem) (λ was n i. absurd i) h.rising;
}

-- or an atom placed
pub atom_placed : (s : Heap) (m a : ℕ) → IsMadeByHand s → IsMadeByHand (placed s m a)
atom_placed s m a h = kept s (placed s m a)
    (alter_keeps s.atoms a (option_map (with_place (within m))) (λ o. option_map (λ x. x.functor) o) functor)
    (alter_keeps s.atoms a (option_map (with_place (within m))) marks_of marks)
    (alter_keeps s.mems m (option_map (mem_with_atoms (λ xs. xs ++ a ∷ []))) mems_by mems) h
  where
    functor : (o : Option HeapAtom) → option_map (λ x. x.functor) (option_map (with_place (within m)) o) ≡ option_map (λ x. x.functor) o
    functor None = refl
    functor (Some x) = refl

    marks : (o : Option HeapAtom) → marks_of (option_map (with_place (within m)) o) ≡ marks_of o
    marks None = refl
    marks (Some x) = refl

    mems : (o : Option HeapMem) → mems_by (option_map (mem_with_atoms (λ xs. xs ++ a ∷ [])) o) ≡ mems_by o
    mems None = refl
    mems (Some x) = refl

-- or a membrane placed in an earlier one
pub mem_placed : (s : Heap) (m n : ℕ) → m < n → IsMadeByHand s → IsMadeByHand (placed_mem s m n)
mem_placed s m n less h = record {
  no_connector = h.no_connector;
  unmarked = h.unmarked;
  rising = alter_all Rises (alter s.mems n (option_map (mem_with_place (within m)))) m (option_map (mem_with_mems (λ xs. xs ++ n ∷ []))) (grown (alter s.mems n (option_map (mem_with_place (within m))) m)) (λ k. subst (λ xs. (j : ℕ) → In j xs → k < j) (sym (alter_keeps s.mems n (option_map (mem_with_place (within m))) mems_by placed_same k)) (h.rising k));
}
  where
    placed_same : (o : Option HeapMem) → mems_by (option_map (mem_with_place (within m)) o) ≡ mems_by o
    placed_same None = refl
    placed_same (Some x) = refl

    grown : (o : Option HeapMem) → Rises m o → Rises m (option_map (mem_with_mems (λ xs. xs ++ n ∷ [])) o)
    grown None r j i = absurd i
    grown (Some x) r j i = elim (in_either j x.mems (n ∷ []) i) [
      | inl w ↦ r j w
      | inr w ↦ elim w [ inl e ↦ subst (λ z. m < z) e less | inr w ↦ absurd w ]
    ]

-- or room for rules
pub room_made : (s : Heap) (m n : ℕ) → IsMadeByHand s → IsMadeByHand (reserved s m n)
room_made s m n h = kept s (reserved s m n) (λ a. refl) (λ a. refl) (alter_keeps s.mems m (option_map (mem_with_spare n)) mems_by mems) h
  where
    mems : (o : Option HeapMem) → mems_by (option_map (mem_with_spare n) o) ≡ mems_by o
    mems None = refl
    mems (Some x) = refl

-- or one rule more
pub rule_made : (s : Heap) (m k : ℕ) → IsMadeByHand s → IsMadeByHand (rule_added s m k)
rule_made s m k h = kept s (rule_added s m k) (λ a. refl) (λ a. refl) (alter_keeps s.mems m (option_map (mem_with_rules (k ∷ []))) mems_by mems) h
  where
    mems : (o : Option HeapMem) → mems_by (option_map (mem_with_rules (k ∷ [])) o) ≡ mems_by o
    mems None = refl
    mems (Some x) = refl

-- or two ports joined
pub ports_joined : (s : Heap) (a i b j : ℕ) → IsMadeByHand s → IsMadeByHand (joined s a i b j)
ports_joined s a i b j h = kept s (joined s a i b j) (joined_functor s a i b j) marks (λ m. refl) h
  where
    marks : (c : ℕ) → marks_of ((joined s a i b j).atoms c) ≡ marks_of (s.atoms c)
    marks c =
        linked_marks (linked (cleared (cleared s.atoms (link_of s a i)) (link_of s b j)) a i (Some (b, j))) b j (Some (a, i)) c
        ∙ linked_marks (cleared (cleared s.atoms (link_of s a i)) (link_of s b j)) a i (Some (b, j)) c
        ∙ cleared_marks (cleared s.atoms (link_of s a i)) (link_of s b j) c
        ∙ cleared_marks s.atoms (link_of s a i) c

-- Nothing is open

-- the sum of a list, which is as great as each number in it
abbrev sum_of : List ℕ → ℕ
sum_of [] = 0
sum_of (x ∷ xs) = x + sum_of xs

below_sum : (x : ℕ) (xs : List ℕ) → In x xs → x ≤ sum_of xs
below_sum x [] i = absurd i
below_sum x (y ∷ xs) (inl e) = omega (arith, e)
below_sum x (y ∷ xs) (inr i) = let l = below_sum x xs i in omega (arith, l)

not_gone : (o : Option HeapMem) → (option_map (λ x. x.place) o ≡ Some top) ⊎ IsSome (option_and_then (λ x. home_by x.place) o) → option_map (λ x. x.place) o ≡ Some gone → ⊥
not_gone o (inl e) f = absurd (let w : Some top ≡ Some gone = sym e ∙ f in cc)
not_gone None (inr i) f = absurd (cc)
not_gone (Some x) (inr i) f =
    let w : x.place ≡ gone = (cc) in
    let n : IsSome {T = ℕ} None = subst (λ (p : Place). IsSome (home_by p)) w i in absurd (cc)

module _ (s : Heap) (sound : Sound s) (few : AtMost (2 ^ 48) s) (settled : AllInPlace s) (ready : Ready s) (made : IsMadeByHand s) where
  bound : (m : ℕ) → IsMem s m → m ≤ sum_of few.mems
  bound m i = below_sum m few.mems (few.all_mems m i)

  here : IsMem s s.root
  here = mem_of_place s s.root top ((sound.listed.root s.root).1 refl)

  empty : (m : ℕ) → mem_place_of s m ≡ Some gone → mems_in s m ≡ []
  empty m e = (ready.empty m e).1

  abbrev all : Forest
  all = tree s sound.listed (λ m. m) (sum_of few.mems) bound made.rising here empty ready.no_mems

  pub made_valid : Valid s
  made_valid = record {
    sound = sound;
    settled = settled;
    full = λ a i l. ready.full a i (settled.atoms a (has_links (s.atoms a) i l)) l;
    no_connector = λ a i. made.no_connector a;
    tree = (
      all,
      record {
        forms = tree_forms s sound.listed (λ m. m) (sum_of few.mems) bound made.rising here empty ready.no_mems;
        once = tree_once s sound.listed (λ m. m) (sum_of few.mems) bound made.rising here empty ready.no_mems;
        all = λ m i. tree_all s sound.listed (λ m. m) (sum_of few.mems) bound made.rising here empty ready.no_mems m i (not_gone (s.mems m) (settled.mems m i));
      },
    );
  }
