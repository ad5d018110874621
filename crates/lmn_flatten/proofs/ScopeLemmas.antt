-- Scopes that meet one more link.
use Rattle.std.proofs.Common.{◌≡◌, ◌≢◌, ℕ, zero, suc, ◌+◌, ◌<◌, ◌⊎◌, inl, inr, false, List, [], ◌∷◌, ◌++◌, length, slice_get, slice_index_or, Some, None, Option, refl, sym, ap, ◌∙◌, subst, arith}
use Rattle.std.specs.BTreeMap.{BTreeMap, get, Updates}
use Rattle.std.specs.Ordering.{nat_cmp, is_eq}
use Rattle.std.specs.declared.cmp.Ordering.{Ordering}
use Rattle.std.specs.declared.cmp.Ordering.TheVariants.{Less, Equal, Greater}
use Rattle.std.proofs.lemmas.Bool.{cases_lt, cases_order}
use Rattle.std.proofs.lemmas.List.{length-append}
use Rattle.std.proofs.lemmas.Map.Lookups.{exact_unsigned}
use Rattle.std.proofs.lemmas.Option.{same_Some, slice_get_within, get_or_from_slice_get}
use Rattle.lmn_base.specs.Names.{IsNames}
use Rattle.lmn_congruence.specs.Rules.{Name}
use Rattle.lmn_flatten_plain.specs.Keys.{IsLinkIn, IsKey}
use Rattle.lmn_flatten_plain.specs.Links.{Link, written, made}
use Rattle.lmn_flatten_plain.proofs.SomeNumbers.{in_last, index_last}
use Rattle.lmn_flatten.specs.Glossaries.{Reading}
use Rattle.lmn_flatten.specs.Scopes.{IsScope, IsWrittenOrMade, Meets, NoWay}
use Rattle.lmn_flatten.specs.declared.scope.Scope.{Scope}
use Rattle.lmn_flatten.proofs.GrowingLemmas.{key_more, in_either, meets_nothing}
use Rattle.lmn_flatten_plain.proofs.ReadBack.{written_same}

-- what stands in a list with one more link
at_end : (keys : List Link) (a b : Link) (x : ℕ) → slice_get (keys ++ a ∷ []) x ≡ Some b → (slice_get keys x ≡ Some b) ⊎ ((x ≡ length keys) × (a ≡ b))
at_end [] a b zero h = inr (refl, same_Some a b h)
at_end [] a b (suc x) h = absurd (let l = slice_get_within (a ∷ []) (suc x) b h in omega arith)
at_end (k ∷ keys) a b zero h = inl h
at_end (k ∷ keys) a b (suc x) h = elim (at_end keys a b x h) [
  | inl g ↦ inl g
  | inr g ↦ inr (ap suc g.0, g.1)
]

-- a new link has the next key
pub key_new : (keys : List Link) (a : Link) → (IsLinkIn a keys → ⊥) → IsKey (keys ++ a ∷ []) a (length keys)
key_new keys a h = (in_last a keys [], index_last a keys [] h)

-- one more link, which isn't written
pub scope_new : (r : Reading) (keys : List Link) (s t : Scope) (a : Link) → IsScope r keys s → (IsLinkIn a keys → ⊥) → ((n : Name) → a ≡ written n → ⊥)
    → t.count ≡ s.count + 1 → t.written ≡ s.written → IsScope r (keys ++ a ∷ []) t
scope_new r keys s t a h absent other count same = record {
  count = omega (arith, count, h.count, length-append keys (a ∷ []));
  apart = λ x b g. elim (at_end keys a b x g) [
    | inl i ↦ key_more keys (a ∷ []) b x (h.apart x b i)
    | inr i ↦ let P : Link → Type 0 = λ c. IsKey (keys ++ a ∷ []) c x in
        let Q : ℕ → Type 0 = λ y. IsKey (keys ++ a ∷ []) a y in
        subst P i.1 (subst Q (sym i.0) (key_new keys a absent))
  ];
  found = λ k x n g i. key_more keys (a ∷ []) (written n) x (h.found k x n (let P : BTreeMap ℕ ℕ → Type 0 = λ m. get nat_cmp m k ≡ Some x in subst P same g) i);
  absent = λ k n g i j. elim (in_either (written n) keys (a ∷ []) j) [
    | inl l ↦ h.absent k n (let P : BTreeMap ℕ ℕ → Type 0 = λ m. get nat_cmp m k ≡ None in subst P same g) i l
    | inr (inl e) ↦ other n (sym e)
    | inr (inr e) ↦ e
  ];
}

-- the next number is that of a link which is made at a way
pub next_made : (r : Reading) (keys : List Link) (s t : Scope) (way : List ℕ) (x : ℕ) → IsScope r keys s → (IsLinkIn (made way) keys → ⊥)
    → x ≡ s.count → t.count ≡ s.count + 1 → t.written ≡ s.written
    → (m : Meets r (λ v. v ≡ way) keys t) × IsKey (keys ++ m.more) (made way) x
next_made r keys s t way x h absent number count same = (
  record {
    more = made way ∷ [];
    scope = scope_new r keys s t (made way) h absent (λ n e. not_written way n e) count same;
    only = λ a i. is_made a i;
  },
  (let Q : ℕ → Type 0 = λ y. IsKey (keys ++ made way ∷ []) (made way) y in subst Q (sym (number ∙ h.count)) (key_new keys (made way) absent)),
)
  where
    not_written : (v : List ℕ) (n : Name) → made v ≡ written n → ⊥
    not_written v n e = absurd (cc)

    is_made : (a : Link) → IsLinkIn a (made way ∷ []) → IsWrittenOrMade (λ v. v ≡ way) a
    is_made a (inl e) = let P : Link → Type 0 = IsWrittenOrMade (λ v. v ≡ way) in subst P (sym e) refl
    is_made a (inr e) = absurd e

-- a link that was met before
pub met_before : (r : Reading) (keys : List Link) (s : Scope) (k x : ℕ) (n : Name) → IsScope r keys s → slice_get r.links k ≡ Some n
    → get nat_cmp s.written k ≡ Some x → (m : Meets r NoWay keys s) × IsKey (keys ++ m.more) (written n) x
met_before r keys s k x n h g e = (meets_nothing r NoWay keys s h, key_more keys [] (written n) x (h.found k x n e g))

-- a name has one place
pub one_place : (ns : List Name) → IsNames ns → (i j : ℕ) (n : Name) → slice_get ns i ≡ Some n → slice_get ns j ≡ Some n → i ≡ j
one_place ns is i j n g h = elim (cases_lt i j) [
  | inl l ↦ absurd (is.once i j n l (slice_get_within ns j n h) (at ns i n g ∙ sym (at ns j n h)))
  | inr l ↦ elim (cases_lt j i) [
    | inl l' ↦ absurd (is.once j i n l' (slice_get_within ns i n g) (at ns j n h ∙ sym (at ns i n g)))
    | inr l' ↦ omega (arith, l, l')
  ]
]
  where
    at : (ns : List Name) (i : ℕ) (n : Name) → slice_get ns i ≡ Some n → slice_index_or ns i n ≡ n
    at ns i n h = get_or_from_slice_get ns i n n h

at_key : (k j : ℕ) (o : Ordering) → nat_cmp k j ≡ o → k ≢ j → is_eq o ≡ false
at_key k j Equal e f = absurd (f (exact_unsigned k j e))
at_key k j Less e f = refl
at_key k j Greater e f = refl

-- what a map has once it has a number for a key
updated : (m n : BTreeMap ℕ ℕ) (k x j : ℕ) → Updates nat_cmp m n k (Some x)
    → ((k ≡ j) × (get nat_cmp n j ≡ Some x)) ⊎ ((k ≢ j) × (get nat_cmp n j ≡ get nat_cmp m j))
updated m n k x j up = elim (cases_order k j) [
  | inl e ↦ inl (e, (let P : ℕ → Type 0 = λ i. get nat_cmp n i ≡ Some x in subst P e up.1))
  | inr d ↦ inr (unequal d, up.2 j (at_key k j (nat_cmp k j) refl (unequal d)))
]
  where
    unequal : (k < j) ⊎ (j < k) → k ≢ j
    unequal (inl l) e = omega arith
    unequal (inr l) e = omega arith

-- a link with a name that wasn't met before
pub met_first : (r : Reading) (keys : List Link) (s t u : Scope) (k x : ℕ) (n : Name) → IsNames r.links → IsScope r keys s → slice_get r.links k ≡ Some n
    → get nat_cmp s.written k ≡ None → x ≡ s.count → t.count ≡ s.count + 1 → t.written ≡ s.written → u.count ≡ t.count
    → Updates nat_cmp t.written u.written k (Some x)
    → (m : Meets r NoWay keys u) × IsKey (keys ++ m.more) (written n) x
met_first r keys s t u k x n names h g none number count same same_count up =
    let absent = h.absent k n none g in
    let new = key_here absent in (
      record {
        more = written n ∷ [];
        scope = record {
          count = omega (arith, same_count, count, h.count, length-append keys (written n ∷ []));
          apart = λ y b e. elim (at_end keys (written n) b y e) [
            | inl i ↦ key_more keys (written n ∷ []) b y (h.apart y b i)
            | inr i ↦ let P : Link → Type 0 = λ c. IsKey (keys ++ written n ∷ []) c y in
                let Q : ℕ → Type 0 = λ z. IsKey (keys ++ written n ∷ []) (written n) z in
                subst P i.1 (subst Q (number ∙ h.count ∙ sym i.0) new)
          ];
          found = λ j y o e i. found new j y o e i;
          absent = λ j o e i l. none_there j o e i l;
        };
        only = λ a i. is_written a i;
      },
      new,
    )
  where
    key_here : (IsLinkIn (written n) keys → ⊥) → IsKey (keys ++ written n ∷ []) (written n) x
    key_here absent = let Q : ℕ → Type 0 = λ y. IsKey (keys ++ written n ∷ []) (written n) y in
        subst Q (sym (number ∙ h.count)) (key_new keys (written n) absent)

    before : (j : ℕ) (o : Option ℕ) → get nat_cmp u.written j ≡ get nat_cmp t.written j → get nat_cmp u.written j ≡ o → get nat_cmp s.written j ≡ o
    before j o e f = ap (λ (m : BTreeMap ℕ ℕ). get nat_cmp m j) (sym same) ∙ sym e ∙ f

    found : IsKey (keys ++ written n ∷ []) (written n) x → (j y : ℕ) (o : Name) → get nat_cmp u.written j ≡ Some y → slice_get r.links j ≡ Some o
        → IsKey (keys ++ written n ∷ []) (written o) y
    found new j y o e i = elim (updated t.written u.written k x j up) [
      | inl f ↦
          let P : Name → Type 0 = λ z. IsKey (keys ++ written n ∷ []) (written z) y in
          let Q : ℕ → Type 0 = λ z. IsKey (keys ++ written n ∷ []) (written n) z in
          let at : slice_get r.links j ≡ Some n = (let R : ℕ → Type 0 = λ z. slice_get r.links z ≡ Some n in subst R f.0 g) in
          subst P (same_Some n o (sym at ∙ i)) (subst Q (same_Some x y (sym f.1 ∙ e)) new)
      | inr f ↦ key_more keys (written n ∷ []) (written o) y (h.found j y o (before j (Some y) f.1 e) i)
    ]

    none_there : (j : ℕ) (o : Name) → get nat_cmp u.written j ≡ None → slice_get r.links j ≡ Some o → IsLinkIn (written o) (keys ++ written n ∷ []) → ⊥
    none_there j o e i l = elim (updated t.written u.written k x j up) [
      | inl f ↦ some_none (sym f.1 ∙ e)
      | inr f ↦ elim (in_either (written o) keys (written n ∷ []) l) [
        | inl w ↦ h.absent j o (before j None f.1 e) i w
        | inr (inl w) ↦
            let at : slice_get r.links j ≡ Some n = i ∙ ap Some (written_same o n w) in
            f.0 (one_place r.links names k j n g at)
        | inr (inr w) ↦ w
      ]
    ]
      where
        some_none : Some x ≡ None → ⊥
        some_none z = absurd (cc)

    is_written : (a : Link) → IsLinkIn a (written n ∷ []) → IsWrittenOrMade NoWay a
    is_written a (inl e) = let P : Link → Type 0 = IsWrittenOrMade NoWay in subst P (sym e) tt
    is_written a (inr e) = absurd e
