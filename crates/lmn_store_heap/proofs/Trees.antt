-- Where a membrane stands in a forest, and what follows it.
use Rattle.std.proofs.Common.{◌≡◌, ◌⊎◌, ℕ, ◌<◌, ◌+◌, ◌-◌, ◌==◌, List, [], ◌∷◌, ◌++◌, length, cond, true, false, Bool, Option, Some, None, IsSome, refl, sym, ap, subst, ◌∙◌, inl, inr, arith}
use Rattle.std.proofs.lemmas.Bool.{eq-eqb}
use Rattle.std.proofs.lemmas.List.{append_assoc, length-append}
use Rattle.std.specs.Option.{option_map, option_and_then}
use Rattle.lmn_store_heap.specs.Heap.{Heap, HeapMem, Place, top, within, home_by, parent_of, mem_place_of, mems_in, IsMem, Distinct, from, after}
use Rattle.lmn_store_heap.specs.Sound.{Forest, bare, mem, flat, Forms, IsTree, Sound}
use Rattle.lmn_store_heap.proofs.ListLemmas.{apart}
use Rattle.lmn_base.proofs.Numbers.{not_equal as apart_test}
use Rattle.lmn_base.specs.Lists.{In}
use Rattle.lmn_base.proofs.Lists.{in_either, plus_nothing}

-- an element between two lists
pub in_here : (a : ℕ) (xs ys : List ℕ) → In a (xs ++ (a ∷ ys))
in_here a [] ys = inl refl
in_here a (x ∷ xs) ys = inr (in_here a xs ys)

-- m stands in f, with this forest inside it, this one beside it, and these further out
abbrev pub At : Forest → ℕ → Forest → Forest → List ℕ → Type 0
At bare m inner beside out = ⊥
At (mem k i r) m inner beside out =
    ((k ≡ m) × (i ≡ inner) × (r ≡ beside) × (out ≡ []))
    ⊎ (((more : List ℕ) × At i m inner beside more × (out ≡ more ++ flat r))
    ⊎ At r m inner beside out)

regroup : (m : ℕ) (xs ys zs us vs : List ℕ) → (xs ++ (m ∷ (ys ++ (zs ++ us)))) ++ vs ≡ xs ++ (m ∷ (ys ++ (zs ++ (us ++ vs))))
regroup m [] ys zs us vs = ap (λ ws. m ∷ ws) (append_assoc ys (zs ++ us) vs ∙ ap (λ ws. ys ++ ws) (append_assoc zs us vs))
regroup m (x ∷ xs) ys zs us vs = ap (λ ws. x ∷ ws) (regroup m xs ys zs us vs)

-- a forest in preorder, split at a membrane
pub split_at : (f : Forest) (m : ℕ) (i b : Forest) (out : List ℕ) → At f m i b out → (before : List ℕ) × (flat f ≡ before ++ (m ∷ (flat i ++ (flat b ++ out))))
split_at bare m i b out a = absurd a
split_at (mem k fi fr) m i b out (inl e) = ([], rw (e.0, e.1, e.2, e.3, plus_nothing (flat b)) refl)
split_at (mem k fi fr) m i b out (inr (inl q)) =
    let s = split_at fi m i b q.0 q.1 in (
      k ∷ s.0,
      ap (λ ws. k ∷ ws) (ap (λ ws. ws ++ flat fr) s.1 ∙ regroup m s.0 (flat i) (flat b) q.0 (flat fr)
          ∙ ap (λ ws. s.0 ++ (m ∷ (flat i ++ (flat b ++ ws)))) (sym q.2)),
    )
split_at (mem k fi fr) m i b out (inr (inr q)) =
    let s = split_at fr m i b out q in
    (k ∷ (flat fi ++ s.0), ap (λ ws. k ∷ ws) (ap (λ ws. flat fi ++ ws) s.1 ∙ sym (append_assoc (flat fi) s.0 (m ∷ (flat i ++ (flat b ++ out))))))

-- a membrane of a forest stands somewhere in it
pub find_at : (f : Forest) (m : ℕ) → In m (flat f) → (i : Forest) × (b : Forest) × (out : List ℕ) × At f m i b out
find_at bare m p = absurd p
find_at (mem k i r) m (inl e) = (i, r, [], inl (e, refl, refl, refl))
find_at (mem k i r) m (inr p) =
    elim (in_either m (flat i) (flat r) p) [
      | inl q ↦ let w = find_at i m q in (w.0, w.1, w.2 ++ flat r, inr (inl (w.2, w.3, refl)))
      | inr q ↦ let w = find_at r m q in (w.0, w.1, w.2, inr (inr w.3))
    ]

-- what is behind an element where it stands
pub after_split : (m : ℕ) (xs rest : List ℕ) → Distinct (xs ++ (m ∷ rest)) → after m (xs ++ (m ∷ rest)) ≡ rest
after_split m [] rest d = rw (eq-eqb m m refl) refl
after_split m (x ∷ xs) rest d = rw (apart_test x m (apart (x ∷ xs) (m ∷ rest) x m d (inl refl) (inl refl))) (after_split m xs rest d.1)

-- what follows a membrane: what is in it, beside it, further out
pub after_at : (f : Forest) (m : ℕ) (i b : Forest) (out : List ℕ) → Distinct (flat f) → At f m i b out → after m (flat f) ≡ flat i ++ (flat b ++ out)
after_at f m i b out d a =
    let s = split_at f m i b out a in
    rw s.1 (after_split m s.0 (flat i ++ (flat b ++ out)) (subst Distinct s.1 d))

-- what follows an element is an end of the list
pub tail_of : (m : ℕ) (xs : List ℕ) → (before : List ℕ) × (xs ≡ before ++ after m xs)
tail_of m [] = ([], refl)
tail_of m (x ∷ xs) = by (x == m) (tail_of m xs)
  where
    by : (t : Bool) → ((before : List ℕ) × (xs ≡ before ++ after m xs)) → (before : List ℕ) × ((x ∷ xs) ≡ before ++ cond t xs (after m xs))
    by true r = (x ∷ [], refl)
    by false r = (x ∷ r.0, ap (λ ys. x ∷ ys) r.1)

-- a list from the next number on is what stands behind this one
pub from_next : (m n : ℕ) (xs zs : List ℕ) → Distinct xs → after m xs ≡ n ∷ zs → from (Some n) xs ≡ after m xs
from_next m n xs zs d e =
    let t = tail_of m xs in
    let w : xs ≡ t.0 ++ (n ∷ zs) = t.1 ∙ ap (λ ys. t.0 ++ ys) e in
    let a : after n xs ≡ zs = ap (after n) w ∙ after_split n t.0 zs (subst Distinct w d) in
    ap (λ ys. n ∷ ys) a ∙ sym e

-- what is round m in a forest: those that follow it in its list, and the membrane that it is in
pub record Inside (s : Heap) (f : Forest) (m : ℕ) (ls : List ℕ) (i b : Forest) (out : List ℕ) : Type 0 where
  pub p : ℕ
  pub inner : Forest
  pub beside : Forest
  pub further : List ℕ
  pub before : List ℕ
  pub at : At f p inner beside further
  pub list : mems_in s p ≡ before ++ (m ∷ ls)
  pub past : out ≡ flat beside ++ further
  pub less : length (flat i) + length (flat b) < length (flat inner)

-- What is round a membrane in its forest: its list, and the membrane in which it stands.
pub record Round (s : Heap) (f : Forest) (ms : List ℕ) (m : ℕ) (i b : Forest) (out : List ℕ) : Type 0 where
  pub ls : List ℕ
  pub inner : Forms s i (mems_in s m)
  pub beside : Forms s b ls
  pub case : ((out ≡ []) × ((before : List ℕ) × (ms ≡ before ++ (m ∷ ls)))) ⊎ Inside s f m ls i b out

smaller : (f : Forest) (m : ℕ) (i b : Forest) (out : List ℕ) → At f m i b out → length (flat i) + length (flat b) < length (flat f)
smaller f m i b out a =
    let s = split_at f m i b out a in
    let e : length (flat f) ≡ length s.0 + length (m ∷ (flat i ++ (flat b ++ out))) = ap length s.1 ∙ length-append s.0 (m ∷ (flat i ++ (flat b ++ out))) in
    let u = length-append (flat i) (flat b ++ out) in
    let v = length-append (flat b) out in
    omega arith

-- a membrane of a forest has something round it
pub around : (s : Heap) (f : Forest) (ms : List ℕ) (m : ℕ) (i b : Forest) (out : List ℕ) → Forms s f ms → At f m i b out → Round s f ms m i b out
around s bare ms m i b out F a = absurd a
around s (mem k fi fr) ms m i b out F (inl e) = record {
  ls = F.0;
  inner = subst (λ z. Forms s i (mems_in s z)) e.0 (subst (λ z. Forms s z (mems_in s k)) e.1 F.2);
  beside = subst (λ z. Forms s z F.0) e.2 F.3;
  case = inl (e.3, ([], F.1 ∙ ap (λ z. z ∷ F.0) e.0));
}
around s (mem k fi fr) ms m i b out F (inr (inl q)) =
    let r = around s fi (mems_in s k) m i b q.0 F.2 q.1 in
    let list : (q.0 ≡ []) × ((before : List ℕ) × (mems_in s k ≡ before ++ (m ∷ r.ls))) → Inside s (mem k fi fr) m r.ls i b out = λ c. record {
      p = k;
      inner = fi;
      beside = fr;
      further = [];
      before = c.1.0;
      at = inl (refl, refl, refl, refl);
      list = c.1.1;
      past = q.2 ∙ ap (λ ws. ws ++ flat fr) c.0 ∙ sym (plus_nothing (flat fr));
      less = smaller fi m i b q.0 q.1;
    } in
    let deep : Inside s fi m r.ls i b q.0 → Inside s (mem k fi fr) m r.ls i b out = λ c. record {
      p = c.p;
      inner = c.inner;
      beside = c.beside;
      further = c.further ++ flat fr;
      before = c.before;
      at = inr (inl (c.further, c.at, refl));
      list = c.list;
      past = q.2 ∙ ap (λ ws. ws ++ flat fr) c.past ∙ append_assoc (flat c.beside) c.further (flat fr);
      less = c.less;
    } in
    record { ls = r.ls; inner = r.inner; beside = r.beside; case = elim r.case [ inl c ↦ inr (list c) | inr c ↦ inr (deep c) ] }
around s (mem k fi fr) ms m i b out F (inr (inr q)) =
    let r = around s fr F.0 m i b out F.3 q in
    let deep : Inside s fr m r.ls i b out → Inside s (mem k fi fr) m r.ls i b out = λ c. record {
      p = c.p;
      inner = c.inner;
      beside = c.beside;
      further = c.further;
      before = c.before;
      at = inr (inr c.at);
      list = c.list;
      past = c.past;
      less = c.less;
    } in
    record { ls = r.ls; inner = r.inner; beside = r.beside; case = elim r.case [ inl c ↦ inl (c.0, (k ∷ c.1.0, F.1 ∙ ap (λ z. k ∷ z) c.1.1)) | inr c ↦ inr (deep c) ] }

-- the parent that a place names
pub parent_by : (s : Heap) (m : ℕ) (P : Place) → mem_place_of s m ≡ Some P → parent_of s m ≡ home_by P
parent_by s m P e = by (s.mems m) e
  where
    by : (x : Option HeapMem) → option_map (λ y. y.place) x ≡ Some P → option_and_then (λ y. home_by y.place) x ≡ home_by P
    by None e = absurd (cc)
    by (Some y) e = let h : y.place ≡ P = (cc) in ap home_by h

-- what has a place among membranes is one
pub mem_by : (s : Heap) (m : ℕ) (P : Place) → mem_place_of s m ≡ Some P → IsSome (s.mems m)
mem_by s m P e = by (s.mems m) e
  where
    by : (x : Option HeapMem) → option_map (λ y. y.place) x ≡ Some P → IsSome x
    by None e = absurd (cc)
    by (Some y) e = refl

one_of : (a m : ℕ) (before ls : List ℕ) → (a ∷ []) ≡ before ++ (m ∷ ls) → (a ≡ m) × (ls ≡ [])
one_of a m [] ls e = (cc, cc)
one_of a m (x ∷ []) ls e = absurd (cc)
one_of a m (x ∷ y ∷ xs) ls e = absurd (cc)

-- what is left of a walk that began at m and has done all that is in `at`
pub record Left (f : Forest) (m at : ℕ) : Type 0 where
  pub inner : Forest
  pub beside : Forest
  pub out : List ℕ
  pub here : At f at inner beside out
  pub left : after m (flat f) ≡ flat beside ++ out

module _ (s : Heap) (sound : Sound s) (f : Forest) (t : IsTree s f) where
  place_at : (m : ℕ) (i b : Forest) (out : List ℕ) → At f m i b out → (P : Place) × (mem_place_of s m ≡ Some P)
  place_at m i b out a =
      let r = around s f (s.root ∷ []) m i b out t.forms a in
      elim r.case [
        | inl c ↦ (top, (sound.listed.root m).1 (sym ((one_of s.root m c.1.0 r.ls c.1.1).0)))
        | inr c ↦ (within c.p, (sound.listed.mems c.p m).0 (subst (In m) (sym c.list) (in_here m c.before r.ls)))
      ]

  pub is_mem : (m : ℕ) → In m (flat f) → IsMem s m
  is_mem m p = let w = find_at f m p in let q = place_at m w.0 w.1 w.2 w.3 in mem_by s m q.0 q.1

  pub left_mem : (m at : ℕ) → Left f m at → IsMem s at
  left_mem m at l = let q = place_at at l.inner l.beside l.out l.here in mem_by s at q.0 q.1

  -- there is nothing in m
  pub begins : (m : ℕ) → In m (flat f) → mems_in s m ≡ [] → Left f m m
  begins m p e =
      let w = find_at f m p in
      let r = around s f (s.root ∷ []) m w.0 w.1 w.2 t.forms w.3 in
      let none : w.0 ≡ bare = empty w.0 (subst (Forms s w.0) e r.inner) in
      record { inner = w.0; beside = w.1; out = w.2; here = w.3; left = after_at f m w.0 w.1 w.2 t.once w.3 ∙ ap (λ z. flat z ++ (flat w.1 ++ w.2)) none }
    where
      empty : (g : Forest) → Forms s g [] → g ≡ bare
      empty bare F = refl
      empty (mem k i b) F = absurd (cc)

  -- `beside` is what stands after `at` in its list
  module _ (m at : ℕ) (l : Left f m at) where
    pub whole : Round s f (s.root ∷ []) at l.inner l.beside l.out
    whole = around s f (s.root ∷ []) at l.inner l.beside l.out t.forms l.here

    at_root : (before : List ℕ) → (s.root ∷ []) ≡ before ++ (at ∷ whole.ls) → parent_of s at ≡ None
    at_root before e = parent_by s at top ((sound.listed.root at).1 (sym ((one_of s.root at before whole.ls e).0)))

    in_inside : (c : Inside s f at whole.ls l.inner l.beside l.out) → parent_of s at ≡ Some c.p
    in_inside c = parent_by s at (within c.p) ((sound.listed.mems c.p at).0 (subst (In at) (sym c.list) (in_here at c.before whole.ls)))

    -- the membrane round `at`
    pub round : (p : ℕ) → parent_of s at ≡ Some p → (c : Inside s f at whole.ls l.inner l.beside l.out) × (c.p ≡ p)
    round p e = elim whole.case [
      | inl c ↦ absurd (let g : Some p ≡ None = sym e ∙ at_root c.1.0 c.1.1 in cc)
      | inr c ↦ (c, let g : Some c.p ≡ Some p = sym (in_inside c) ∙ e in cc)
    ]

    rest_of : (c : Inside s f at whole.ls l.inner l.beside l.out) → after at (mems_in s c.p) ≡ whole.ls
    rest_of c = ap (after at) c.list ∙ after_split at c.before whole.ls (subst Distinct c.list (sound.listed.mems_once c.p))

    bare_of : (g : Forest) (ls : List ℕ) → Forms s g ls → ls ≡ [] → g ≡ bare
    bare_of bare ls F e = refl
    bare_of (mem k i b) ls F e = absurd (let h : k ∷ F.0 ≡ [] = sym F.1 ∙ e in cc)

    first_of_forest : (g : Forest) (ls : List ℕ) (n : ℕ) (zs : List ℕ) → Forms s g ls → ls ≡ n ∷ zs → (ws : List ℕ) × (flat g ≡ n ∷ ws)
    first_of_forest bare ls n zs F e = absurd (let h : [] ≡ n ∷ zs = sym F ∙ e in cc)
    first_of_forest (mem k i b) ls n zs F e = let h : k ∷ F.0 ≡ n ∷ zs = sym F.1 ∙ e in let same : k ≡ n = (cc) in (flat i ++ flat b, ap (λ z. z ∷ (flat i ++ flat b)) same)

    pub climbs : (p : ℕ) → parent_of s at ≡ Some p → from None (mems_in s p) ≡ after at (mems_in s p) → Left f m p
    climbs p e none =
        let w = round p e in
        let c = w.0 in
        let no : whole.ls ≡ [] = sym (rest_of c) ∙ ap (λ z. after at (mems_in s z)) w.1 ∙ sym none in
        let is_bare : l.beside ≡ bare = bare_of l.beside whole.ls whole.beside no in
        record {
          inner = c.inner;
          beside = c.beside;
          out = c.further;
          here = subst (λ z. At f z c.inner c.beside c.further) w.1 c.at;
          left = l.left ∙ ap (λ z. flat z ++ l.out) is_bare ∙ c.past;
        }

    pub found : (p n : ℕ) → parent_of s at ≡ Some p → from (Some n) (mems_in s p) ≡ after at (mems_in s p) → from (Some n) (flat f) ≡ after m (flat f)
    found p n e some =
        let w = round p e in
        let c = w.0 in
        let list : whole.ls ≡ n ∷ after n (mems_in s p) = sym (rest_of c) ∙ ap (λ z. after at (mems_in s z)) w.1 ∙ sym some in
        let g = first_of_forest l.beside whole.ls n (after n (mems_in s p)) whole.beside list in
        from_next m n (flat f) (g.0 ++ l.out) t.once (l.left ∙ ap (λ z. z ++ l.out) g.1)

    pub ends : parent_of s at ≡ None → from None (flat f) ≡ after m (flat f)
    ends e = elim whole.case [
      | inl c ↦ (let last = one_of s.root at c.1.0 whole.ls c.1.1 in
          let is_bare : l.beside ≡ bare = bare_of l.beside whole.ls whole.beside last.1 in
          sym (l.left ∙ ap (λ z. flat z ++ l.out) is_bare ∙ c.0))
      | inr c ↦ absurd (let g : Some c.p ≡ None = sym (in_inside c) ∙ e in cc)
    ]

    pub lower : (p : ℕ) → parent_of s at ≡ Some p → length (flat f) - length (after p (flat f)) < length (flat f) - length (after at (flat f))
    lower p e =
        let w = round p e in
        let c = w.0 in
        let here = ap length (after_at f at l.inner l.beside l.out t.once l.here) in
        let up = ap length (after_at f c.p c.inner c.beside c.further t.once c.at) in
        let same = ap (λ z. length (after z (flat f))) w.1 in
        let past = ap length c.past in
        let a1 = length-append (flat l.inner) (flat l.beside ++ l.out) in
        let a2 = length-append (flat l.beside) l.out in
        let a3 = length-append (flat c.inner) (flat c.beside ++ c.further) in
        let u = tail_of p (flat f) in
        let a4 = ap length u.1 ∙ length-append u.0 (after p (flat f)) in
        let less = c.less in
        omega arith

  -- the first membrane in m
  pub enters : (m n : ℕ) → In m (flat f) → from (Some n) (mems_in s m) ≡ mems_in s m → from (Some n) (flat f) ≡ after m (flat f)
  enters m n p e =
      let w = find_at f m p in
      let r = around s f (s.root ∷ []) m w.0 w.1 w.2 t.forms w.3 in
      let g = first w.0 (mems_in s m) n (after n (mems_in s m)) r.inner (sym e) in
      from_next m n (flat f) (g.0 ++ (flat w.1 ++ w.2)) t.once (after_at f m w.0 w.1 w.2 t.once w.3 ∙ ap (λ z. z ++ (flat w.1 ++ w.2)) g.1)
    where
      first : (g : Forest) (ls : List ℕ) (n : ℕ) (zs : List ℕ) → Forms s g ls → ls ≡ n ∷ zs → (ws : List ℕ) × (flat g ≡ n ∷ ws)
      first bare ls n zs F e = absurd (let h : [] ≡ n ∷ zs = sym F ∙ e in cc)
      first (mem k i b) ls n zs F e = let h : k ∷ F.0 ≡ n ∷ zs = sym F.1 ∙ e in let same : k ≡ n = (cc) in (flat i ++ flat b, ap (λ z. z ∷ (flat i ++ flat b)) same)

-- the tree begins with the root
pub root_first : (s : Heap) (f : Forest) → IsTree s f → In s.root (flat f) × (from (Some s.root) (flat f) ≡ flat f)
root_first s f t = by f t.forms
  where
    by : (f : Forest) → Forms s f (s.root ∷ []) → In s.root (flat f) × (from (Some s.root) (flat f) ≡ flat f)
    by bare F = absurd (cc)
    by (mem k i r) F = let e : k ≡ s.root = (let w : s.root ∷ [] ≡ k ∷ F.0 = F.1 in cc) in
        subst (λ z. In s.root (z ∷ (flat i ++ flat r)) × (from (Some s.root) (z ∷ (flat i ++ flat r)) ≡ z ∷ (flat i ++ flat r))) (sym e)
        (inl refl, rw (eq-eqb s.root s.root refl) refl)

-- what comes next is there
pub next_in : (m n : ℕ) (xs : List ℕ) → from (Some n) xs ≡ after m xs → In n xs
next_in m n xs e = let t = tail_of m xs in subst (In n) (sym (t.1 ∙ ap (λ ys. t.0 ++ ys) (sym e))) (in_here n t.0 (after n xs))
