-- The loops that list what is in a rest, number its atoms and make membranes for its own.
use Rattle.std.proofs.Common.{◌≡◌, ◌≢◌, ℕ, zero, suc, ◌+◌, ◌*◌, ◌<◌, ◌≤◌, ◌^◌, ◌==◌, not, List, [], ◌∷◌, ◌++◌, length, map, take, Option, Some, None, IsSome, refl, sym, ap, subst, ◌∙◌, inl, inr, arith, slice_get}
use Rattle.std.proofs.lemmas.Bool.{cases_eq}
use Rattle.std.proofs.lemmas.List.{append_assoc}
use Rattle.std.specs.Option.{option_map}
use Rattle.lmn_store_heap.specs.Heap.{Heap, HeapAtom, HeapMem, Distinct, IsAtom, IsMem, PortsUnmarked, alter, after, arity_of, atoms_in, from, made_mem, mark_of, marked, marks_of, mem_with_spare, mems_in, new_mem, own_mark, reserved, rules_by, rules_in, within}
use Rattle.lmn_store_heap.specs.Sound.{AtMost, Sound}
use Rattle.lmn_store_heap.proofs.Trees.{around, find_at, in_here, mem_by}
use Rattle.lmn_store_heap.proofs.Depths.{both_distinct}
use Rattle.lmn_store_heap.proofs.ListLemmas.{each_in, in_left, in_right}
use Rattle.lmn_store_heap.proofs.Listing.{alter_at, alter_away}
use Rattle.lmn_store_heap.proofs.Pigeonholes.{not_longer}
use Rattle.lmn_base.specs.Lists.{In}
use Rattle.lmn_base.proofs.Lists.{in_either, plus_nothing}
use Rattle.lmn_ground_parts.specs.Copies.{AllAtoms, AreNew, made_like}
use Rattle.lmn_ground_parts.specs.Rests.{AreNewMembranes, AreRoomsFor, RestCopied, RestRemains, atoms_of_all, joined_copies, keep, made_roomy}
use Rattle.lmn_ground_parts.specs.Walks.{is_in}
use Rattle.lmn_ground.specs.Copies.{NumbersAtoms}
use Rattle.lmn_ground.specs.Marks.{first_marks, first_place, paint}
use Rattle.lmn_ground.specs.Spread.{Numbered}
use Rattle.lmn_ground.specs.Rests.{AreMembranes, IsLeft}
use Rattle.lmn_ground.proofs.RestLaws.{all_in, keep_in}
use Rattle.lmn_ground.proofs.CopyLaws.{length_map, made_nil, map_snoc, member}
use Rattle.lmn_ground.proofs.PaintedAt.{painted_none}
use Rattle.lmn_ground.proofs.PaintLaws.{mark_away, mark_here, painted_marked}
use Rattle.lmn_ground.proofs.SpreadLaws.{numbered_snoc}

-- what was listed, and what is still to come
pub listed_none : {A : Type 0} (id : A → ℕ) (xs : List A) (o : Option ℕ) (all : List ℕ) → xs ≡ [] → from o all ≡ all → map id xs ++ from o all ≡ all
listed_none id xs o all e h = ap (λ zs. map id zs ++ from o all) e ∙ h

pub listed_more : {A : Type 0} (id : A → ℕ) (xs ys : List A) (a : A) (o o' : Option ℕ) (all : List ℕ) → ys ≡ xs ++ a ∷ [] → o ≡ Some (id a) → map id xs ++ from o all ≡ all → from o' all ≡ after (id a) all
    → map id ys ++ from o' all ≡ all
listed_more id xs ys a o o' all e f h n =
    (λ i. map id (e i) ++ n i) ∙ ap (λ zs. zs ++ after (id a) all) (map_snoc id xs a) ∙ append_assoc (map id xs) (id a ∷ []) (after (id a) all)
    ∙ ap (λ z. map id xs ++ from z all) (sym f) ∙ h

pub listed_all : {A : Type 0} (id : A → ℕ) (xs : List A) (o : Option ℕ) (all : List ℕ) → o ≡ None → map id xs ++ from o all ≡ all → map id xs ≡ all
listed_all id xs o all e h = sym (plus_nothing (map id xs)) ∙ ap (λ z. map id xs ++ from z all) (sym e) ∙ h

-- one more of a list
pub take_next : {A : Type 0} (id : A → ℕ) (xs : List A) (k : ℕ) (x : A) → slice_get xs k ≡ Some x → map id (take (k + 1) xs) ≡ map id (take k xs) ++ id x ∷ []
take_next id [] k x e = absurd (cc)
take_next id (y ∷ ys) zero x e = ap (λ (z : _). id z ∷ []) (let f : y ≡ x = cc in f)
take_next id (y ∷ ys) (suc k) x e = let t : suc k + 1 ≡ suc (k + 1) = omega arith in ap (λ j. map id (take j (y ∷ ys))) t ∙ ap (λ zs. id y ∷ zs) (take_next id ys k x e)

pub take_long : {A : Type 0} (xs : List A) (k : ℕ) (x : A) → slice_get xs k ≡ Some x → length (take k xs) ≡ k
take_long [] k x e = absurd (cc)
take_long (y ∷ ys) zero x e = refl
take_long (y ∷ ys) (suc k) x e = ap suc (take_long ys k x e)

pub take_past : {A : Type 0} (xs : List A) (k : ℕ) → length xs ≤ k → take k xs ≡ xs
take_past [] zero l = refl
take_past [] (suc k) l = refl
take_past (x ∷ xs) zero l = absurd (omega arith)
take_past (x ∷ xs) (suc k) l = ap (λ zs. x ∷ zs) (take_past xs k (omega arith))

-- Atoms get their numbers.

-- the first of these atoms have their numbers in their marks
pub record Numbering (s now : Heap) (xs : List ℕ) : Type 0 where
  pub marked : NumbersAtoms s now xs
  pub numbers : Numbered (first_marks now) 2 xs

pub numbering_none : (s : Heap) → Numbering s s []
numbering_none s = record {
  marked = record { marks = λ _. 0; is = sym (painted_none first_place s (λ _. 0) (λ a. refl)); outside = λ x d. refl; clean = λ x i. absurd i; there = λ x i. absurd i };
  numbers = tt;
}

pub numbering_next : (s now to : Heap) (xs : List ℕ) (b k : ℕ) → Numbering s now xs → (In b xs → ⊥) → to ≡ marked now b 0 (512 + 256 * k) → k ≡ length xs
    → first_marks s b ≡ 0 → IsAtom s b → 0 < length (marks_of (s.atoms b)) → Numbering s to (xs ++ b ∷ [])
numbering_next s now to xs b k t new made e clean there ports =
    let m = 512 + 256 * k in
    let v = t.marked.marks in
    let away : (x : ℕ) → (In x (xs ++ b ∷ []) → ⊥) → x ≢ b = λ x d same. d (subst (λ z. In z (xs ++ b ∷ [])) (sym same) (in_right b xs (b ∷ []) (inl refl))) in
    let place : now.atoms b ≡ s.atoms b = ap (λ (h : Heap). h.atoms b) t.marked.is ∙ ap (λ w. paint w (s.atoms b)) (t.marked.outside b new) in
    record {
      marked = record {
        marks = alter v b (λ _. m);
        is = made ∙ ap (λ (h : Heap). marked h b 0 m) t.marked.is ∙ painted_marked s v b m (omega arith);
        outside = λ x d. alter_away v b (λ _. m) x (away x d) ∙ t.marked.outside x (λ i. d (in_left x xs (b ∷ []) i));
        clean = λ x i. elim (in_either x xs (b ∷ []) i) [ inl j ↦ t.marked.clean x j | inr j ↦ one x j (λ z. first_marks s z ≡ 0) clean ];
        there = λ x i. elim (in_either x xs (b ∷ []) i) [ inl j ↦ t.marked.there x j | inr j ↦ one x j (IsAtom s) there ];
      };
      numbers = numbered_snoc (first_marks now) (first_marks to) 2 b xs t.numbers
          (λ x i. ap (λ (h : Heap). first_marks h x) made ∙ mark_away now b m x (λ same. new (subst (λ z. In z xs) same i)))
          (let f : first_marks to b ≡ m = ap (λ (h : Heap). first_marks h b) made ∙ mark_here now b m (subst (λ (o : Option HeapAtom). 0 < length (marks_of o)) (sym place) ports) in omega (arith, f, e));
    }
  where
    one : (x : ℕ) → In x (b ∷ []) → (P : ℕ → Type 0) → P b → P x
    one x (inl same) P p = subst P same p
    one x (inr j) P p = absurd j

-- an atom that comes later in a list without repeats isn't among the first
pub not_before : {A : Type 0} (id : A → ℕ) (xs : List A) (k : ℕ) (x : A) → slice_get xs k ≡ Some x → Distinct (map id xs) → In (id x) (map id (take k xs)) → ⊥
not_before id [] k x e d i = absurd (cc)
not_before id (y ∷ ys) zero x e d i = absurd i
not_before id (y ∷ ys) (suc k) x e d (inl same) = each_in (λ z. id y ≢ z) (map id ys) (id x) d.0 (member id ys k x e) same
not_before id (y ∷ ys) (suc k) x e d (inr i) = not_before id ys k x e d.1 i

-- numbers are small
pub few_atoms : {A : Type 0} (id : A → ℕ) (s : Heap) (xs : List A) → AtMost (2 ^ 48) s → Distinct (map id xs) → AllAtoms s (map id xs) → length xs ≤ 2 ^ 48
few_atoms id s xs few d there =
    let l = not_longer (map id xs) few.atoms d (λ b i. few.all_atoms b (there b i)) in
    let m = length_map id xs in
    let all = few.few in
    omega (arith, l, m, all)

-- Membranes with room.

roomy_away : (s : Heap) (rooms : List (ℕ × ℕ)) (x : ℕ) → (In x (map (λ e. e.0) rooms) → ⊥) → (made_roomy s rooms).mems x ≡ s.mems x
roomy_away s [] x d = refl
roomy_away s (e ∷ es) x d =
    let one = made_mem s e.0 in
    let other : x ≢ e.0 = λ same. d (inl (sym same)) in
    roomy_away (reserved one e.0 e.1) es x (λ i. d (inr i))
    ∙ alter_away one.mems e.0 (option_map (mem_with_spare e.1)) x other
    ∙ alter_away s.mems e.0 (λ _. Some new_mem) x other

roomy_there : (s : Heap) (rooms : List (ℕ × ℕ)) → Distinct (map (λ e. e.0) rooms) → (x : ℕ) → In x (map (λ e. e.0) rooms) → IsSome ((made_roomy s rooms).mems x)
roomy_there s [] d x i = absurd i
roomy_there s (e ∷ es) d x (inl same) =
    let one = made_mem s e.0 in
    subst (λ z. IsSome ((made_roomy (reserved one e.0 e.1) es).mems z)) same
    (subst (λ (o : Option HeapMem). IsSome o) (sym (roomy_away (reserved one e.0 e.1) es e.0 (λ i. each_in (λ z. e.0 ≢ z) (map (λ e. e.0) es) e.0 d.0 i refl)
    ∙ alter_at one.mems e.0 (option_map (mem_with_spare e.1)) ∙ ap (option_map (mem_with_spare e.1)) (alter_at s.mems e.0 (λ _. Some new_mem)))) refl)
roomy_there s (e ∷ es) d x (inr i) = roomy_there (reserved (made_mem s e.0) e.0 e.1) es d.1 x i

pub roomy_atoms : (s : Heap) (rooms : List (ℕ × ℕ)) → (made_roomy s rooms).atoms ≡ s.atoms
roomy_atoms s [] = refl
roomy_atoms s (e ∷ es) = roomy_atoms (reserved (made_mem s e.0) e.0 e.1) es

roomy_snoc : (s : Heap) (rooms : List (ℕ × ℕ)) (n k : ℕ) → made_roomy s (rooms ++ (n, k) ∷ []) ≡ reserved (made_mem (made_roomy s rooms) n) n k
roomy_snoc s [] n k = refl
roomy_snoc s (e ∷ es) n k = roomy_snoc (reserved (made_mem s e.0) e.0 e.1) es n k

no_room : (s : Heap) (n : ℕ) → reserved (made_mem s n) n 0 ≡ made_mem s n
no_room s n = λ i. record (made_mem s n) { mems = λ x. at x i }
  where
    at : (x : ℕ) → alter (made_mem s n).mems n (option_map (mem_with_spare 0)) x ≡ (made_mem s n).mems x
    at x = elim (cases_eq x n) [
      | inl e ↦ subst (λ z. alter (made_mem s n).mems n (option_map (mem_with_spare 0)) z ≡ (made_mem s n).mems z) (sym e)
          (alter_at (made_mem s n).mems n (option_map (mem_with_spare 0)) ∙ ap (option_map (mem_with_spare 0)) (alter_at s.mems n (λ _. Some new_mem)) ∙ sym (alter_at s.mems n (λ _. Some new_mem)))
      | inr d ↦ alter_away (made_mem s n).mems n (option_map (mem_with_spare 0)) x d
    ]

-- So many membranes are made, each with room for the rules of its own.
pub record Rooms (s now : Heap) (xs : List ℕ) : Type 0 where
  pub rooms : List (ℕ × ℕ)
  pub new : AreNewMembranes s (map (λ e. e.0) rooms)
  pub roomy : AreRoomsFor s xs rooms
  pub is : now ≡ made_roomy s rooms

pub rooms_none : (s : Heap) → Rooms s s []
rooms_none s = record { rooms = []; new = (tt, λ n i. absurd i); roomy = refl; is = refl }

-- what was there has its rules
pub rules_kept : (s now : Heap) (xs : List ℕ) (x : ℕ) → Rooms s now xs → IsSome (s.mems x) → now.mems x ≡ s.mems x
rules_kept s now xs x t there =
    ap (λ (h : Heap). h.mems x) t.is ∙ roomy_away s t.rooms x (λ i. let none = t.new.1 x i in let bad = subst (λ (o : Option HeapMem). IsSome o) none there in cc)

new_more : (s now : Heap) (xs : List ℕ) (n k : ℕ) (t : Rooms s now xs) → now.mems n ≡ None → AreNewMembranes s (map (λ e. e.0) (t.rooms ++ (n, k) ∷ []))
new_more s now xs n k t fresh =
    let ns = map (λ (e : ℕ × ℕ). e.0) t.rooms in
    let not_in : In n ns → ⊥ = λ i. let some = roomy_there s t.rooms t.new.0 n i in let none = ap (λ (h : Heap). h.mems n) (sym t.is) ∙ fresh in let bad = subst (λ (o : Option HeapMem). IsSome o) none some in cc in
    let before : s.mems n ≡ None = sym (roomy_away s t.rooms n not_in) ∙ ap (λ (h : Heap). h.mems n) (sym t.is) ∙ fresh in
    subst (AreNewMembranes s) (sym (map_snoc (λ (e : ℕ × ℕ). e.0) t.rooms (n, k))) (
      both_distinct ns (n ∷ []) t.new.0 (tt, tt) (λ a i j. elim j [ inl same ↦ not_in (subst (λ z. In z ns) (sym same) i) | inr bad ↦ absurd bad ]),
      λ x i. elim (in_either x ns (n ∷ []) i) [ inl j ↦ t.new.1 x j | inr j ↦ elim j [ inl same ↦ subst (λ z. s.mems z ≡ None) same before | inr bad ↦ absurd bad ] ],
    )

rooms_snoc : (s : Heap) (xs : List ℕ) (rooms : List (ℕ × ℕ)) (x n k : ℕ) → AreRoomsFor s xs rooms → length (rules_in s x) ≤ k → AreRoomsFor s (xs ++ x ∷ []) (rooms ++ (n, k) ∷ [])
rooms_snoc s [] rooms x n k h l = subst (λ zs. AreRoomsFor s (x ∷ []) (zs ++ (n, k) ∷ [])) (sym h) (l, refl)
rooms_snoc s (y ∷ ys) [] x n k h l = absurd h
rooms_snoc s (y ∷ ys) (e ∷ es) x n k h l = (h.0, rooms_snoc s ys es x n k h.1 l)

-- one more is made, with room
pub rooms_next : (s now one to : Heap) (xs : List ℕ) (x n k : ℕ) → Rooms s now xs → now.mems n ≡ None → one ≡ made_mem now n → to ≡ reserved one n k → length (rules_in s x) ≤ k → Rooms s to (xs ++ x ∷ [])
rooms_next s now one to xs x n k t fresh made room l = record {
  rooms = t.rooms ++ (n, k) ∷ [];
  new = new_more s now xs n k t fresh;
  roomy = rooms_snoc s xs t.rooms x n k t.roomy l;
  is = room ∙ ap (λ (h : Heap). reserved h n k) made ∙ ap (λ (h : Heap). reserved (made_mem h n) n k) t.is ∙ sym (roomy_snoc s t.rooms n k);
}

-- or without
pub rooms_broken : (s now one : Heap) (xs : List ℕ) (n : ℕ) → Rooms s now xs → now.mems n ≡ None → one ≡ made_mem now n → (rooms : List (ℕ × ℕ)) × AreNewMembranes s (map (λ e. e.0) rooms) × (one ≡ made_roomy s rooms)
rooms_broken s now one xs n t fresh made = (
  t.rooms ++ (n, 0) ∷ [],
  new_more s now xs n 0 t fresh,
  made ∙ ap (λ (h : Heap). made_mem h n) t.is ∙ sym (no_room (made_roomy s t.rooms) n) ∙ sym (roomy_snoc s t.rooms n 0),
)

pub some_rooms : (s now to : Heap) (xs : List ℕ) → Rooms s now xs → to ≡ now → (rooms : List (ℕ × ℕ)) × AreNewMembranes s (map (λ e. e.0) rooms) × (to ≡ made_roomy s rooms)
some_rooms s now to xs t e = (t.rooms, t.new, e ∙ t.is)

pub are_member : {A : Type 0} (id : A → ℕ) (s : Heap) (xs : List A) (k : ℕ) (x : A) → AreMembranes s (map id xs) → slice_get xs k ≡ Some x → IsMem s (id x)
are_member id s [] k x h e = absurd (cc)
are_member id s (y ∷ ys) zero x h e = subst (λ z. IsMem s (id z)) (let f : y ≡ x = cc in f) h.0
are_member id s (y ∷ ys) (suc k) x h e = are_member id s ys k x h.1 e

pub there_still : (s now : Heap) (xs : List ℕ) (x : ℕ) → Rooms s now xs → IsMem s x → IsMem now x
there_still s now xs x t there = subst (λ (o : Option HeapMem). IsSome o) (sym (rules_kept s now xs x t there)) there

pub kept_rules : (s now : Heap) (xs : List ℕ) (x n k : ℕ) → Rooms s now xs → IsMem s x → n ≡ length (rules_in now x) → n ≤ k → length (rules_in s x) ≤ k
kept_rules s now xs x n k t there e l =
    let same : length (rules_in now x) ≡ length (rules_in s x) = ap (λ (o : Option HeapMem). length (rules_by o)) (rules_kept s now xs x t there) in omega (arith, e, l, same)

-- What is in a rest is there.

pub rest_member : (s : Heap) → Sound s → (m : ℕ) (out atoms ms : List ℕ) → IsLeft s m out atoms ms → (x : ℕ) → In x ms → IsMem s x
rest_member s sound m out atoms ms r x i =
    let w = find_at r.forest x (subst (In x) r.preorder i) in
    let q = around s r.forest (keep (λ n. not (is_in out n)) (mems_in s m)) x w.0 w.1 w.2 r.forms w.3 in
    elim q.case [
      | inl c ↦ mem_by s x (within m) ((sound.listed.mems m x).0 (keep_in (λ n. not (is_in out n)) (mems_in s m) x (subst (In x) (sym c.1.1) (in_here x c.1.0 q.ls))))
      | inr c ↦ mem_by s x (within c.p) ((sound.listed.mems c.p x).0 (subst (In x) (sym c.list) (in_here x c.before q.ls)))
    ]

pub are_members : (s : Heap) (ms : List ℕ) → ((x : ℕ) → In x ms → IsMem s x) → AreMembranes s ms
are_members s [] h = tt
are_members s (m ∷ ms) h = (h m (inl refl), are_members s ms (λ x i. h x (inr i)))

pub rest_atom : (s : Heap) → Sound s → (m : ℕ) (out atoms ms : List ℕ) → IsLeft s m out atoms ms → (a : ℕ) → In a atoms → IsAtom s a
rest_atom s sound m out atoms ms r a i = elim (in_either a (keep (λ a. own_mark s a == 0) (atoms_in s m)) (atoms_of_all s ms) (subst (In a) r.in_order i)) [
  | inl j ↦ placed m (keep_in (λ a. own_mark s a == 0) (atoms_in s m) a j)
  | inr j ↦ (let w = all_in s ms a j in placed w.0 w.2)
]
  where
    by : (o : Option HeapAtom) (n : ℕ) → option_map (λ x. x.place) o ≡ Some (within n) → IsSome o
    by None n e = absurd (cc)
    by (Some x) n e = refl

    placed : (n : ℕ) → In a (atoms_in s n) → IsAtom s a
    placed n j = by (s.atoms a) n ((sound.listed.atoms n a).0 j)

-- their first marks are 0, where those of ports are, and own marks
pub rest_clean : (s : Heap) → PortsUnmarked s → (a : ℕ) → own_mark s a ≡ 0 → first_marks s a ≡ 0
rest_clean s clean a own = by (arity_of s a) refl
  where
    by : (n : ℕ) → arity_of s a ≡ n → first_marks s a ≡ 0
    by zero e = ap (mark_of s a) (sym e) ∙ own
    by (suc n) e = clean a 0 (omega (arith, e))

-- What is left at want of memory.
pub remains_only : (s to : Heap) (atoms : List ℕ) (rooms : List (ℕ × ℕ)) → AreNewMembranes s (map (λ e. e.0) rooms) → to ≡ made_roomy s rooms → RestRemains s to atoms
remains_only s to atoms rooms new e = record { copies = []; rooms = rooms; new_atoms = (tt, λ y i. absurd i); new_membranes = new; is = e ∙ made_nil (made_roomy s rooms) atoms }

pub remains_nothing : (s : Heap) (atoms : List ℕ) → RestRemains s s atoms
remains_nothing s atoms = remains_only s s atoms [] (tt, λ y i. absurd i) refl

-- new beside membranes is new
pub new_beside : (s now : Heap) (ys : List ℕ) → now.atoms ≡ s.atoms → AreNew now ys → AreNew s ys
new_beside s now ys e n = (n.0, λ y i. ap (λ (f : ℕ → Option HeapAtom). f y) (sym e) ∙ n.1 y i)

-- The rest is copied, without atoms or with them.
pub copied_bare : (s to : Heap) (atoms ms : List ℕ) (rooms : List (ℕ × ℕ)) → atoms ≡ [] → AreNewMembranes s (map (λ e. e.0) rooms) → AreRoomsFor s ms rooms → to ≡ made_roomy s rooms → RestCopied s to atoms ms [] rooms
copied_bare s to atoms ms rooms none new roomy e =
    subst (λ xs. RestCopied s to xs ms [] rooms) (sym none) (record { new_atoms = (tt, λ y i. absurd i); new_membranes = new; long = refl; roomy = roomy; is = e })

pub copied_whole : (s now to : Heap) (atoms ms ys : List ℕ) (rooms : List (ℕ × ℕ)) → AreNewMembranes s (map (λ e. e.0) rooms) → AreRoomsFor s ms rooms → now ≡ made_roomy s rooms
    → AreNew now ys → length ys ≡ length atoms → to ≡ joined_copies now atoms ys → RestCopied s to atoms ms ys rooms
copied_whole s now to atoms ms ys rooms new roomy e fresh long is = record {
  new_atoms = new_beside s now ys (ap (λ (h : Heap). h.atoms) e ∙ roomy_atoms s rooms) fresh;
  new_membranes = new;
  long = long;
  roomy = roomy;
  is = is ∙ ap (λ (h : Heap). joined_copies h atoms ys) e;
}

pub remains_whole : (s now to : Heap) (atoms ys : List ℕ) (rooms : List (ℕ × ℕ)) → AreNewMembranes s (map (λ e. e.0) rooms) → now ≡ made_roomy s rooms → AreNew now ys → to ≡ made_like now atoms ys → RestRemains s to atoms
remains_whole s now to atoms ys rooms new e fresh is = record {
  copies = ys;
  rooms = rooms;
  new_atoms = new_beside s now ys (ap (λ (h : Heap). h.atoms) e ∙ roomy_atoms s rooms) fresh;
  new_membranes = new;
  is = is ∙ ap (λ (h : Heap). made_like h atoms ys) e;
}

pub no_rows : {A : Type 0} (id : A → ℕ) (xs : List A) (ys : List ℕ) → map id xs ≡ ys → length xs ≡ 0 → ys ≡ []
no_rows id [] ys e l = sym e
no_rows id (x ∷ xs) ys e l = absurd (omega (arith, l))
