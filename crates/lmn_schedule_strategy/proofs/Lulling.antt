-- Membranes that fall asleep.
use Rattle.std.proofs.Common.{ℕ, ◌≡◌, Bool, true, false, List, [], ◌∷◌, ◌++◌, Option, Some, None, inl, inr, refl, sym, ap, subst, ◌∙◌, arith}
use Rattle.std.specs.Prelude.{slice_get, take, drop, MatchOption}
use Rattle.std.proofs.lemmas.Bool.{cases_eq}
use Rattle.std.proofs.lemmas.List.{append_assoc, take-append-drop}
use Rattle.lmn_base.specs.Lists.{In}
use Rattle.lmn_base.proofs.Lists.{in_either}
use Rattle.lmn_store_heap.specs.Heap.{Heap, IsMem, rules_in, mem_mark_of, mem_marked}
use Rattle.lmn_store_heap.specs.Sound.{Forest, flat, Forms, IsTree, Sound}
use Rattle.lmn_store_heap.proofs.Calls.{keeps_sound}
use Rattle.lmn_store_heap.proofs.Common.{decide_in}
use Rattle.lmn_store_heap.proofs.ListLemmas.{in_left, in_right}
use Rattle.lmn_store_heap.proofs.Groves.{forms_frame}
use Rattle.lmn_instr_code.specs.declared.instr.Code.{Code}
use Rattle.lmn_schedule_sleep.specs.Quiet.{SameButMarks}
use Rattle.lmn_schedule_sleep.proofs.Marks.{ReadAlike, read_alike, alike_back, succeeds_alike}
use Rattle.lmn_machine_commit.proofs.Rousing.{no_marks, marks_on, mark_one, marked_away, marked_there}
use Rattle.lmn_machine_commit.proofs.Woken.{valid_but_marks, marks_unmarked}
use Rattle.lmn_schedule_strategy.specs.Choosing.{CanTurn, CodeSucceeds, NoneOf, NoneIn, IsFirstRule, IsFirstIn, FallAsleep, Lulls, Lulled, asked}
use Rattle.lmn_schedule_strategy.specs.Quieting.{SleepsRightly}

-- ---- heaps that are read alike

module _ (h k : Heap) (codes : List Code) (same : ReadAlike h k) where
  -- what succeeds in one succeeds in the other
  code_alike : (m n : ℕ) → CodeSucceeds h codes m n → CodeSucceeds k codes m n
  code_alike m n c = record { code = c.code; is = c.is; registers = c.registers; succeeds = succeeds_alike h k same c.code.head m c.registers c.succeeds }

  -- where none of some rules succeeds in the other none does in the first
  pub none_of_back : (m : ℕ) (ns : List ℕ) → NoneOf k codes m ns → NoneOf h codes m ns
  none_of_back m ns none n i c = none n i (code_alike m n c)

  -- nor does any rule of a membrane
  pub none_here_back : (m : ℕ) → NoneOf k codes m (rules_in k m) → NoneOf h codes m (rules_in h m)
  none_here_back m none = none_of_back m (rules_in h m) (subst (NoneOf k codes m) (same.rules m) none)

  -- nor of some membranes
  pub none_in_back : (ms : List ℕ) → NoneIn k codes ms → NoneIn h codes ms
  none_in_back ms none m i = none_here_back m (none m i)

  -- the first rule of a membrane that succeeds is the same
  pub first_rule_alike : (m place n : ℕ) → ((ns : List ℕ) → NoneOf h codes m ns → NoneOf k codes m ns) → IsFirstRule h codes m place n → IsFirstRule k codes m place n
  first_rule_alike m place n keep f = record {
    stands = ap (λ ns. slice_get ns place) (same.rules m) ∙ f.stands;
    succeeds = code_alike m n f.succeeds;
    earlier = subst (λ ns. NoneOf k codes m (take place ns)) (sym (same.rules m)) (keep (take place (rules_in h m)) f.earlier);
  }

-- the first of some membranes of which a rule succeeds is the same
abbrev pub first_in_alike : (h k : Heap) (codes : List Code) → ReadAlike h k → (ms : List ℕ) (m place n : ℕ) → IsFirstIn h codes ms m place n → IsFirstIn k codes ms m place n
first_in_alike h k codes same ms m place n i = record {
  earlier = i.earlier;
  later = i.later;
  order = i.order;
  none = none_in_back k h codes (alike_back h k same) i.earlier i.none;
  rule = first_rule_alike h k codes same m place n (λ ns. none_of_back k h codes (alike_back h k same) m ns) i.rule;
}

-- marks are no part of a tree
pub tree_alike : (h k : Heap) → SameButMarks h k → (f : Forest) → IsTree h f → IsTree k f
tree_alike h k e f t =
    let same = read_alike h k e in
    record {
      forms = subst (λ n. Forms k f (n ∷ [])) (sym e.root) (forms_frame h k f (h.root ∷ []) (λ m p. same.inner m) t.forms);
      once = t.once;
      all = λ m i. t.all m (same.there m i);
    }

-- ---- falling asleep

-- none falls asleep
falls_none : (h : Heap) → FallAsleep h h []
falls_none h = record { alike = no_marks h; asleep = λ m i. absurd i; others = λ m o. refl }

-- some fall asleep, and then others
falls_on : (h k l : Heap) (xs ys : List ℕ) → FallAsleep h k xs → FallAsleep k l ys → FallAsleep h l (xs ++ ys)
falls_on h k l xs ys a b = record {
  alike = marks_on h k l a.alike b.alike;
  asleep = λ m i. elim (decide_in m ys) [
    | inl j ↦ b.asleep m j
    | inr o ↦ elim (in_either m xs ys i) [ inl j ↦ b.others m o ∙ a.asleep m j | inr j ↦ absurd (o j) ]
  ];
  others = λ m o. b.others m (λ i. o (in_right m xs ys i)) ∙ a.others m (λ i. o (in_left m xs ys i));
}

-- the order and number of those that fall asleep doesn't matter
falls_as : (h k : Heap) (xs ys : List ℕ) → ((m : ℕ) → In m xs → In m ys) → ((m : ℕ) → In m ys → In m xs) → FallAsleep h k xs → FallAsleep h k ys
falls_as h k xs ys to back w = record { alike = w.alike; asleep = λ m i. w.asleep m (back m i); others = λ m o. w.others m (λ i. o (to m i)) }

-- so it is where they fall asleep if they may: none,
pub lulls_none : (b : Bool) (h : Heap) → Lulls b h h []
lulls_none true h = falls_none h
lulls_none false h = refl

-- some and then others,
pub lulls_on : (b : Bool) (h k l : Heap) (xs ys : List ℕ) → Lulls b h k xs → Lulls b k l ys → Lulls b h l (xs ++ ys)
lulls_on true h k l xs ys a c = falls_on h k l xs ys a c
lulls_on false h k l xs ys a c = c ∙ a

-- in any order,
lulls_as : (b : Bool) (h k : Heap) (xs ys : List ℕ) → ((m : ℕ) → In m xs → In m ys) → ((m : ℕ) → In m ys → In m xs) → Lulls b h k xs → Lulls b h k ys
lulls_as true h k xs ys to back w = falls_as h k xs ys to back w
lulls_as false h k xs ys to back w = w

-- and all but marks is as it was
pub lulls_alike : (b : Bool) (h k : Heap) (ms : List ℕ) → Lulls b h k ms → SameButMarks h k
lulls_alike true h k ms w = w.alike
lulls_alike false h k ms w = subst (SameButMarks h) (sym w) (no_marks h)

-- a membrane of which no code succeeds falls asleep
pub falls_one : (h : Heap) (m : ℕ) → IsMem h m → FallAsleep h (mem_marked h m 1) (m ∷ [])
falls_one h m i = record {
  alike = mark_one h (mem_marked h m 1) m 1 refl;
  asleep = λ x j. elim j [ inl e ↦ subst (λ z. mem_mark_of (mem_marked h m 1) z ≡ 1) e (marked_there h m 1 i) | inr v ↦ absurd v ];
  others = λ x o. marked_away h m 1 x (λ e. o (inl (sym e)));
}

-- one that falls asleep if it may is one of one
pub lulled_one : (b : Bool) (h k : Heap) (m : ℕ) → IsMem h m → Lulled b h k m → Lulls b h k (m ∷ [])
lulled_one true h k m i e = subst (λ z. FallAsleep h z (m ∷ [])) (sym e) (falls_one h m i)
lulled_one false h k m i e = e

can_turn_alike : (h k : Heap) (n : ℕ) → SameButMarks h k → Sound k → CanTurn h n → CanTurn k n
can_turn_alike h k n e sound can =
    let same = read_alike h k e in
    record { valid = valid_but_marks h k e can.valid sound; unmarked = marks_unmarked h k e can.unmarked; of_table = λ x j i. can.of_table x j (subst (In j) (same.rules x) i) }

-- a turn can be made after it
pub lulled_turn : (b : Bool) (h k : Heap) (m n : ℕ) → Lulled b h k m → CanTurn h n → CanTurn k n
lulled_turn true h k m n e can = can_turn_alike h k n (mark_one h k m 1 e) (subst Sound (sym e) ((keeps_sound h can.valid.sound).set_mem_mark m 1)) can
lulled_turn false h k m n e can = subst (λ z. CanTurn z n) (sym e) can

falls_rightly : (h k : Heap) (codes : List Code) (m : ℕ) → FallAsleep h k (m ∷ []) → NoneOf h codes m (rules_in h m) → SleepsRightly h codes → SleepsRightly k codes
falls_rightly h k codes m w none s = record {
  low = λ x. elim (cases_eq m x) [ inl e ↦ (let z = w.asleep x (inl e) in omega (arith, z)) | inr d ↦ (let z = w.others x (λ i. elim i [ inl e ↦ d e | inr v ↦ v ]) in let l = s.low x in omega (arith, z, l)) ];
  none = λ x q. none_here_back k h codes (alike_back h k (read_alike h k w.alike)) x (elim (cases_eq m x) [
    | inl e ↦ subst (λ z. NoneOf h codes z (rules_in h z)) e none
    | inr d ↦ s.none x (sym (w.others x (λ i. elim i [ inl e ↦ d e | inr v ↦ v ])) ∙ q)
  ]);
}

-- and where none of its rules succeeds no membrane sleeps in which one does
pub lulled_rightly : (b : Bool) (h k : Heap) (codes : List Code) (m : ℕ) → IsMem h m → Lulled b h k m → NoneOf h codes m (rules_in h m) → SleepsRightly h codes → SleepsRightly k codes
lulled_rightly true h k codes m i e none s = falls_rightly h k codes m (lulled_one true h k m i e) none s
lulled_rightly false h k codes m i e none s = subst (λ z. SleepsRightly z codes) (sym e) s

-- ---- both parts of what is asked

-- what is in a list that is cut in two is in the list
pub in_drop_take : (xs : List ℕ) (i m : ℕ) → In m (drop i xs ++ take i xs) → In m xs
in_drop_take xs i m j = subst (In m) (take-append-drop i xs) (elim (in_either m (drop i xs) (take i xs) j) [ inl q ↦ in_right m (take i xs) (drop i xs) q | inr q ↦ in_left m (take i xs) (drop i xs) q ])

in_take_drop : (xs : List ℕ) (i m : ℕ) → In m xs → In m (drop i xs ++ take i xs)
in_take_drop xs i m j = elim (in_either m (take i xs) (drop i xs) (subst (In m) (sym (take-append-drop i xs)) j)) [ inl q ↦ in_right m (drop i xs) (take i xs) q | inr q ↦ in_left m (drop i xs) (take i xs) q ]

-- what is the first of the first part is the first of all that are asked
pub first_so : (h k : Heap) (codes : List Code) (b : Bool) (f : Forest) (i : ℕ) (xs : List ℕ) (m place n : ℕ) → xs ≡ drop i (flat f) → (q : IsFirstIn h codes xs m place n) × Lulls b h k q.earlier →
    (q : IsFirstIn h codes (asked i f) m place n) × Lulls b h k q.earlier
first_so h k codes b f i xs m place n e w = (
  record {
    earlier = w.0.earlier;
    later = w.0.later ++ take i (flat f);
    order = ap (λ z. z ++ take i (flat f)) (sym e ∙ w.0.order) ∙ append_assoc w.0.earlier (m ∷ w.0.later) (take i (flat f));
    none = w.0.none;
    rule = w.0.rule;
  },
  w.1,
)

-- where there is none in the first part, the others are asked
pub first_then : {C : Type 0} (id place n : C → ℕ) (h k l : Heap) (codes : List Code) (b : Bool) (f : Forest) (i : ℕ) (r : Option C) → NoneIn h codes (drop i (flat f)) → Lulls b h k (drop i (flat f)) →
    MatchOption r (NoneIn k codes (take i (flat f)) × Lulls b k l (take i (flat f))) (λ c. (q : IsFirstIn k codes (take i (flat f)) (id c) (place c) (n c)) × Lulls b k l q.earlier) →
    MatchOption r (NoneIn h codes (flat f) × Lulls b h l (flat f)) (λ c. (q : IsFirstIn h codes (asked i f) (id c) (place c) (n c)) × Lulls b h l q.earlier)
first_then id place n h k l codes b f i None none lulls rest =
    let same = read_alike h k (lulls_alike b h k (drop i (flat f)) lulls) in
    let before = none_in_back h k codes same (take i (flat f)) rest.0 in (
      λ m j. elim (in_either m (drop i (flat f)) (take i (flat f)) (in_take_drop (flat f) i m j)) [ inl q ↦ none m q | inr q ↦ before m q ],
      lulls_as b h l (drop i (flat f) ++ take i (flat f)) (flat f) (in_drop_take (flat f) i) (in_take_drop (flat f) i) (lulls_on b h k l (drop i (flat f)) (take i (flat f)) lulls rest.1),
    )
first_then id place n h k l codes b f i (Some c) none lulls rest =
    let same = read_alike h k (lulls_alike b h k (drop i (flat f)) lulls) in
    let q = first_in_alike k h codes (alike_back h k same) (take i (flat f)) (id c) (place c) (n c) rest.0 in (
      record {
        earlier = drop i (flat f) ++ rest.0.earlier;
        later = rest.0.later;
        order = ap (λ z. drop i (flat f) ++ z) rest.0.order ∙ sym (append_assoc (drop i (flat f)) rest.0.earlier (id c ∷ rest.0.later));
        none = λ m j. elim (in_either m (drop i (flat f)) rest.0.earlier j) [ inl u ↦ none m u | inr u ↦ q.none m u ];
        rule = q.rule;
      },
      lulls_on b h k l (drop i (flat f)) rest.0.earlier lulls rest.1,
    )
