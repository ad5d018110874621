-- Links get their numbers, port by port.
use Rattle.std.proofs.Common.{◌≡◌, ◌≢◌, ℕ, suc, ◌+◌, ◌<◌, ◌≤◌, ◌⊎◌, inl, inr, Bool, true, false, List, [], ◌∷◌, ◌++◌, length, Option, Some, None, IsSome, refl, sym, ap, ◌∙◌, subst, arith}
use Rattle.std.specs.Prelude.{nat_lt}
use Rattle.std.proofs.lemmas.Bool.Decides.{nat_tests}
use Rattle.std.proofs.lemmas.List.{append_assoc}
use Rattle.lmn_base.specs.Links.{Numbers, known, new}
use Rattle.lmn_store_heap.specs.Heap.{Heap, IsAtom, marked, partners_of, marks_of, arity_of, link_of, mark_of}
use Rattle.lmn_store_heap.specs.Solid.{IsNaming}
use Rattle.lmn_store_heap.specs.Sound.{Sound}
use Rattle.lmn_store_heap.proofs.Ports.{SamePort, same_port}
use Rattle.lmn_print_plain.specs.Numbers.{Remarks, mark_when, TellsFirst, GoOn}
use Rattle.lmn_print_plain.proofs.MarkLemmas.{arity_same, mark_at, mark_off, marks_length, naming_same, remarks_more, remarks_mark}
use Rattle.lmn_store_heap.proofs.Common.{same_port as same_ports}

-- the mark for a link by its number

-- a link that has its number is marked by the next one
pub mark_low : (n x : ℕ) → x < n → mark_when n x ≡ x + 1
mark_low n x l = grind (arith, nat_tests, l)

-- a link that has none yet is not marked
pub mark_high : (n x : ℕ) → n ≤ x → mark_when n x ≡ 0
mark_high n x l = grind (arith, nat_tests, l)

mark_else : (n x : ℕ) → x ≢ n → mark_when n x ≡ mark_when (n + 1) x
mark_else n x d = by (nat_lt x n) refl
  where
    by : (b : Bool) → nat_lt x n ≡ b → mark_when n x ≡ mark_when (n + 1) x
    by true e = let l : x < n = grind (arith, nat_tests, e) in mark_low n x l ∙ sym (mark_low (n + 1) x (omega (arith, l)))
    by false e = let l : n ≤ x = grind (arith, nat_tests, e) in mark_high n x l ∙ sym (mark_high (n + 1) x (omega (arith, l, d)))

-- a link has its number or gets the next one
next_link : (n x : ℕ) (left : List ℕ) (all : ℕ) → Numbers n (x ∷ left) all → ((x < n) × Numbers n left all) ⊎ ((x ≡ n) × Numbers (n + 1) left all)
next_link n x left all (known l k) = inl (l, k)
next_link n x left all (new k) = inr (refl, let e : suc n ≡ n + 1 = omega arith in subst (λ m. Numbers m left all) e k)

-- Chains.

-- where no link is passed the numbers stay
pub go_none : (s : Heap) (n : ℕ) → GoOn s s n n (λ name. [])
go_none s n = λ name naming left all nums told. (nums, told)

-- and two stretches of links go on one after the other
pub go_more : (s t u : Heap) (n m k : ℕ) (ls ks : (ℕ → ℕ → ℕ) → List ℕ) → Remarks s t → GoOn s t n m ls → GoOn t u m k ks → GoOn s u n k (λ name. ls name ++ ks name)
go_more s t u n m k ls ks r g h = λ name naming left all nums told.
    let first = g name naming (ks name ++ left) all (subst (λ xs. Numbers n xs all) (append_assoc (ls name) (ks name) left) nums) told in
    h name (naming_same s t r name naming) left all first.0 first.1

-- the same links in other words
pub go_as : (s t : Heap) (n m : ℕ) (ls ks : (ℕ → ℕ → ℕ) → List ℕ) → ((name : ℕ → ℕ → ℕ) → ls name ≡ ks name) → GoOn s t n m ls → GoOn s t n m ks
go_as s t n m ls ks e g = λ name naming left all nums told. g name naming left all (subst (λ xs. Numbers n (xs ++ left) all) (sym (e name)) nums) told

-- A port.

-- its link has its number
pub go_known : (s : Heap) (a i n : ℕ) → i < arity_of s a → 0 < mark_of s a i → GoOn s s n n (λ name. name a i ∷ [])
go_known s a i n l p = λ name naming left all nums told. (
  elim (next_link n (name a i) left all nums) [
    | inl e ↦ e.1
    | inr e ↦ (let high = mark_high n (name a i) (let f = e.0 in omega (arith, f)) in let at = told a i l in absurd (omega (arith, p, high, at)))
  ],
  told,
)

-- a port is joined to another, or it is not
pub joined_or_not : (o : Option (ℕ × ℕ)) (c k : ℕ) → (o ≡ Some (c, k)) ⊎ (o ≡ Some (c, k) → ⊥)
joined_or_not None c k = inr (λ e. absurd (cc e))
joined_or_not (Some p) c k = elim (same_port p.0 p.1 c k) [
  | inl f ↦ inl (λ z. Some (f.0 z, f.1 z))
  | inr d ↦ inr (λ e. d (same_ports e))
]

mark_second : (s : Heap) (a i v b j : ℕ) → j < length (marks_of (s.atoms b)) → mark_of (marked (marked s a i v) b j v) b j ≡ v
mark_second s a i v b j l = mark_at (marked s a i v) b j v (subst (λ m. j < m) (sym (marks_length s a i v b)) l)

-- its link has none yet: both its ports get the next one
module _ (s : Heap) (sound : Sound s) (a i n : ℕ) (l : i < arity_of s a) (z : mark_of s a i ≡ 0) where
  marks_are : (b j : ℕ) → j < arity_of s b → length (marks_of (s.atoms b)) ≡ arity_of s b + 1
  marks_are b j k = sound.shaped.marks b (there b j k)
    where
      there : (b j : ℕ) → j < arity_of s b → IsAtom s b
      there b j k = by (s.atoms b) k
        where
          by : (o : Option _) → j < length (partners_of o) → IsSome o
          by None k = absurd (omega (arith, k))
          by (Some x) k = refl

  -- the link is the next one
  is_next : (name : ℕ → ℕ → ℕ) (left : List ℕ) (all : ℕ) → Numbers n (name a i ∷ left) all → TellsFirst s name n → (name a i ≡ n) × Numbers (n + 1) left all
  is_next name left all nums told = elim (next_link n (name a i) left all nums) [
    | inl e ↦ (let low = mark_low n (name a i) e.0 in let at = told a i l in absurd (omega (arith, z, low, at)))
    | inr e ↦ e
  ]

  -- ports of the link have the next mark, and the others keep theirs
  told_next : (t : Heap) (o : Option (ℕ × ℕ)) → link_of s a i ≡ o → Remarks s t
      → mark_of t a i ≡ n + 1 → ((b j : ℕ) → o ≡ Some (b, j) → mark_of t b j ≡ n + 1)
      → ((c k : ℕ) → (SamePort c k a i → ⊥) → (o ≡ Some (c, k) → ⊥) → mark_of t c k ≡ mark_of s c k) → GoOn s t n (n + 1) (λ name. name a i ∷ [])
  told_next t o link r here there away = λ name naming left all nums told.
      let nx = is_next name left all nums told in
      (nx.1, λ c k low. at name naming nx.0 told c k (subst (λ m. k < m) (arity_same s t r c) low))
    where
      at : (name : ℕ → ℕ → ℕ) → IsNaming s name → name a i ≡ n → TellsFirst s name n → (c k : ℕ) → k < arity_of s c → mark_of t c k ≡ mark_when (n + 1) (name c k)
      at name naming is told c k low = elim (same_port c k a i) [
        | inl f ↦ (let e : name c k ≡ n = ap (λ x. name x k) f.0 ∙ ap (name a) f.1 ∙ is in
            ap (λ x. mark_of t x k) f.0 ∙ ap (mark_of t a) f.1 ∙ here ∙ ap (λ x. x + 1) (sym e) ∙ sym (mark_low (n + 1) (name c k) (omega (arith, e))))
        | inr d ↦ elim (joined_or_not o c k) [
          | inl e ↦ (let f : name c k ≡ n = sym (naming.joined a i c k (link ∙ e)) ∙ is in
              there c k e ∙ ap (λ x. x + 1) (sym f) ∙ sym (mark_low (n + 1) (name c k) (omega (arith, f))))
          | inr w ↦ away c k d w ∙ told c k low ∙ mark_else n (name c k) (λ e. elim (naming.apart a i c k l low (is ∙ sym e)) [
            | inl q ↦ d (sym q.0, sym q.1)
            | inr q ↦ w (sym link ∙ q)
          ])
        ]
      ]

  -- where it has no partner
  pub number_alone : (t : Heap) → t ≡ marked s a i (n + 1) → link_of s a i ≡ None → Remarks s t × GoOn s t n (n + 1) (λ name. name a i ∷ [])
  number_alone t e link =
      let u = marked s a i (n + 1) in
      let r = remarks_mark s a i (n + 1) l in
      let length_is = marks_are a i l in
      let g = told_next u None link r (mark_at s a i (n + 1) (omega (arith, l, length_is))) (λ b j f. absurd (cc f)) (λ c k d w. mark_off s a i (n + 1) c k d) in
      subst (λ (h : Heap). Remarks s h × GoOn s h n (n + 1) (λ name. name a i ∷ [])) (sym e) (r, g)

  -- with its partner, whose port is marked first
  pub number_both : (b j : ℕ) → j < arity_of s b → link_of s a i ≡ Some (b, j) → (t u : Heap) → t ≡ marked s b j (n + 1) → u ≡ marked t a i (n + 1) → Remarks s u × GoOn s u n (n + 1) (λ name. name a i ∷ [])
  number_both b j k link t u e f =
      let v = marked s b j (n + 1) in
      let w = marked v a i (n + 1) in
      let first = remarks_mark s b j (n + 1) k in
      let r = remarks_more s v w first (remarks_mark v a i (n + 1) (subst (λ m. i < m) (sym (arity_same s v first a)) l)) in
      let length_a = marks_are a i l in
      let length_b = marks_are b j k in
      let here : mark_of w a i ≡ n + 1 = mark_second s b j (n + 1) a i (omega (arith, l, length_a)) in
      let there : mark_of w b j ≡ n + 1 = elim (same_port b j a i) [
        | inl p ↦ ap (λ x. mark_of w x j) p.0 ∙ ap (mark_of w a) p.1 ∙ here
        | inr d ↦ mark_off v a i (n + 1) b j d ∙ mark_at s b j (n + 1) (omega (arith, k, length_b))
      ] in
      let g = told_next w (Some (b, j)) link r here
      (λ c m p. let q : (b ≡ c) × (j ≡ m) = same_ports p in ap (λ x. mark_of w x m) (sym q.0) ∙ ap (mark_of w b) (sym q.1) ∙ there)
      (λ c m d p. mark_off v a i (n + 1) c m d ∙ mark_off s b j (n + 1) c m (λ q. p (λ z. Some (sym q.0 z, sym q.1 z)))) in
      subst (λ (h : Heap). Remarks s h × GoOn s h n (n + 1) (λ name. name a i ∷ [])) (sym (f ∙ ap (λ (h : Heap). marked h a i (n + 1)) e)) (r, g)
