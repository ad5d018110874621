-- What a typed context is by the plan of its rule.
use Rattle.std.proofs.Common.{ℕ, zero, suc, ◌≡◌, ◌+◌, inl, inr, List, [], ◌∷◌, ◌++◌, length, refl, sym, ap, subst, ◌∙◌, arith}
use Rattle.std.specs.Prelude.{Option, Some, None, Bool, true, false, ◌==◌, if◌then◌else◌, Contains}
use Rattle.std.specs.List.{flat_map, list_any}
use Rattle.std.proofs.lemmas.Bool.Decides.{Decides-eqb}
use Rattle.std.proofs.lemmas.List.Elements.{Contains-append_left, Contains-append_right, Contains-append_cases}
use Rattle.lmn_base.specs.declared.guard.Cond.{Cond}
use Rattle.lmn_base.specs.declared.level.Leaf.{Leaf}
use Rattle.lmn_base.specs.declared.level.Leaf.TheVariants as leaf
use Rattle.lmn_base.specs.declared.level.Level.{Level}
use Rattle.lmn_base.specs.declared.level.Occ.{Occ}
use Rattle.lmn_base.specs.declared.refusal.Pos.{Pos}
use Rattle.lmn_base.specs.Levels.{leaves_of}
use Rattle.lmn_guards.specs.declared.plan.TypeKind.{TypeKind}
use Rattle.lmn_guards.specs.declared.plan.TypeKind.TheVariants as kind
use Rattle.lmn_guards.specs.declared.plan.TypedUse.{TypedUse}
use Rattle.lmn_guards.specs.GuardCodes.{asks, type_of}
use Rattle.lmn_guards.specs.Plans.{with_type, typed_use, leaves_by_membrane, numbered_uses}
use Rattle.lmn_guards.proofs.PlanLemmas.{numbered_both}
use Rattle.lmn_solid_heads.proofs.HeadTrees.{Head, Heads, head, no_head, head_and, head_at, head_leaves, heads_leaves, same_leaves, head_membranes, heads_membranes, same_membranes}
use Rattle.lmn_compile_head.specs.Heads.{kind_in, IsNarrower}

-- all uses of a name have a kind, and there is one
pub record Tells (n : ℕ) (k : TypeKind) (ts : List TypedUse) : Type 0 where
  pub all : (t : TypedUse) → Contains ts t → t.name ≡ n → t.kind ≡ k
  pub one : (t : TypedUse) × Contains ts t × (t.name ≡ n)

later_one : (n : ℕ) (t : TypedUse) (ts : List TypedUse) → (t.name == n) ≡ false → ((u : TypedUse) × Contains (t ∷ ts) u × (u.name ≡ n)) → (u : TypedUse) × Contains ts u × (u.name ≡ n)
later_one n t ts e (u, (zero, within, is), named) =
    let same : t.name ≡ n = ap (λ (v : TypedUse). v.name) is ∙ named in
    let f = (Decides-eqb t.name n).1 same in
    absurd (cc)
later_one n t ts e (u, (suc j, within, is), named) = (u, (j, omega (arith, within), is), named)

told : (n : ℕ) (k : TypeKind) (ts : List TypedUse) → Tells n k ts → kind_in ts n ≡ k
told n k [] h = let within = h.one.1.1 in absurd (omega (arith, within))
told n k (t ∷ ts) h = by (t.name == n) refl (told n k ts)
  where
    by : (b : Bool) → (t.name == n) ≡ b → (Tells n k ts → kind_in ts n ≡ k) → (if b then t.kind else kind_in ts n) ≡ k
    by true e later = h.all t (0, omega arith, refl) ((Decides-eqb t.name n).0 e)
    by false e later = later (record {
      all = λ u c. h.all u (suc c.0, (let w = c.1 in omega (arith, w)), c.2);
      one = later_one n t ts e h.one;
    })

module _ (top : Level) (guard : List Cond) (n : ℕ) (k : TypeKind) (type : type_of top guard n ≡ Some k) where
  abbrev Right : List TypedUse → Type 0
  Right ts = (t : TypedUse) → Contains ts t → t.name ≡ n → t.kind ≡ k

  abbrev HasOne : List TypedUse → Type 0
  HasOne ts = (t : TypedUse) × Contains ts t × (t.name ≡ n)

  right_append : (ts us : List TypedUse) → Right ts → Right us → Right (ts ++ us)
  right_append ts us a b t c named = elim (Contains-append_cases ts us t c) [ inl d ↦ a t d named | inr d ↦ b t d named ]

  one_left : (ts us : List TypedUse) → HasOne ts → HasOne (ts ++ us)
  one_left ts us h = (h.0, Contains-append_left ts us h.0 h.1, h.2)

  one_right : (ts us : List TypedUse) → HasOne us → HasOne (ts ++ us)
  one_right ts us h = (h.0, Contains-append_right ts us h.0 h.1, h.2)

  same_kind : (o : Option TypeKind) (k' : TypeKind) → o ≡ Some k' → o ≡ Some k → k' ≡ k
  same_kind o k' a b = cc

  with_right : (m number : ℕ) (o : Option TypeKind) → o ≡ type_of top guard m → Right (with_type m number o)
  with_right m number None e t (j, within, is) named = absurd (omega (arith, within))
  with_right m number (Some k') e t (suc j, within, is) named = absurd (omega (arith, within))
  with_right m number (Some k') e t (zero, within, is) named =
      let same : (record { name = m; kind = k'; depth = number }) ≡ t = cc in
      let name : m ≡ n = ap (λ (u : TypedUse). u.name) same ∙ named in
      let kinds : k' ≡ t.kind = ap (λ (u : TypedUse). u.kind) same in
      sym kinds ∙ same_kind (Some k') k' refl (e ∙ (ap (type_of top guard) name ∙ type))

  own_right : (number : ℕ) (ls : List Leaf) → Right (flat_map (typed_use top guard number) ls)
  own_right number [] t (j, within, is) named = absurd (omega (arith, within))
  own_right number (leaf.Atom f os p ∷ ls) t c named = own_right number ls t c named
  own_right number (leaf.Typed m o p ∷ ls) t c named =
      right_append (with_type m number (type_of top guard m)) (flat_map (typed_use top guard number) ls) (with_right m number (type_of top guard m) refl) (own_right number ls) t c named

  all_right : (number : ℕ) (lss : List (List Leaf)) → Right (numbered_uses (typed_use top guard) number lss)
  all_right number [] t (j, within, is) named = absurd (omega (arith, within))
  all_right number (ls ∷ lss) t c named =
      right_append (flat_map (typed_use top guard number) ls) (numbered_uses (typed_use top guard) (number + 1) lss) (own_right number ls) (all_right (number + 1) lss) t c named

  with_one : (number : ℕ) (o : Option TypeKind) → o ≡ Some k → HasOne (with_type n number o)
  with_one number None e = absurd (cc)
  with_one number (Some k') e = (record { name = n; kind = k'; depth = number }, (0, omega arith, refl), refl)

  own_one : (number : ℕ) (ls : List Leaf) (o : Occ) (p : Pos) → Contains ls (leaf.Typed n o p) → HasOne (flat_map (typed_use top guard number) ls)
  own_one number [] o p (j, within, is) = absurd (omega (arith, within))
  own_one number (l ∷ ls) o p (zero, within, is) =
      one_left (typed_use top guard number l) (flat_map (typed_use top guard number) ls) (subst (λ m. HasOne (typed_use top guard number m)) (sym is) (with_one number (type_of top guard n) type))
  own_one number (l ∷ ls) o p (suc j, within, is) =
      one_right (typed_use top guard number l) (flat_map (typed_use top guard number) ls) (own_one number ls o p (j, omega (arith, within), is))

  abbrev uses : ℕ → List (List Leaf) → List TypedUse
  uses number lss = numbered_uses (typed_use top guard) number lss

  both_left : (number : ℕ) (a b : List (List Leaf)) → HasOne (uses number a) → HasOne (uses number (a ++ b))
  both_left number a b h = subst HasOne (sym (numbered_both (typed_use top guard) number a b)) (one_left (uses number a) (uses (number + length a) b) h)

  both_right : (number : ℕ) (a b : List (List Leaf)) → HasOne (uses (number + length a) b) → HasOne (uses number (a ++ b))
  both_right number a b h = subst HasOne (sym (numbered_both (typed_use top guard) number a b)) (one_right (uses number a) (uses (number + length a) b) h)

  mutual
    head_one : (number : ℕ) (h : Head) (o : Occ) (p : Pos) → Contains (head_leaves h) (leaf.Typed n o p) → HasOne (uses number (head_membranes h))
    head_one number (head leaves hs cs rcs rs) o p c =
        elim (Contains-append_cases leaves (heads_leaves hs) (leaf.Typed n o p) c) [
          | inl a ↦ one_left (flat_map (typed_use top guard number) leaves) (uses (number + 1) (heads_membranes hs)) (own_one number leaves o p a)
          | inr b ↦ one_right (flat_map (typed_use top guard number) leaves) (uses (number + 1) (heads_membranes hs)) (heads_one (number + 1) hs o p b)
        ]

    heads_one : (number : ℕ) (hs : Heads) (o : Occ) (p : Pos) → Contains (heads_leaves hs) (leaf.Typed n o p) → HasOne (uses number (heads_membranes hs))
    heads_one number no_head o p (j, within, is) = absurd (omega (arith, within))
    heads_one number (head_and h hs) o p c =
        elim (Contains-append_cases (head_leaves h) (heads_leaves hs) (leaf.Typed n o p) c) [
          | inl a ↦ both_left number (head_membranes h) (heads_membranes hs) (head_one number h o p a)
          | inr b ↦ both_right number (head_membranes h) (heads_membranes hs) (heads_one (number + length (head_membranes h)) hs o p b)
        ]

  -- a typed leaf is what the guard asks
  pub kind_of_leaf : (o : Occ) (p : Pos) → Contains (leaves_of top) (leaf.Typed n o p) → kind_in (numbered_uses (typed_use top guard) 0 (leaves_by_membrane top)) n ≡ k
  kind_of_leaf o p c =
      ap (λ lss. kind_in (uses 0 lss) n) (same_membranes top) ∙ told n k (uses 0 (head_membranes (head_at top)))
      (record { all = all_right 0 (head_membranes (head_at top)); one = head_one 0 (head_at top) o p (subst (λ ls. Contains ls (leaf.Typed n o p)) (same_leaves top) c) })

-- the narrowest type is narrower than one that a condition asks
pub narrower : (top : Level) (guard : List Cond) (n : ℕ) (k t : TypeKind) → list_any (asks top k n) guard ≡ true → type_of top guard n ≡ Some t → IsNarrower t k
narrower top guard n k t asked type = by k asked (list_any (asks top kind.Int n) guard) (list_any (asks top kind.Unary n) guard) (list_any (asks top kind.Ground n) guard) refl refl type
  where
    by : (k : TypeKind) → list_any (asks top k n) guard ≡ true → (a b c : Bool) → list_any (asks top kind.Int n) guard ≡ a → list_any (asks top kind.Unary n) guard ≡ b
        → (if a then Some kind.Int else if b then Some kind.Unary else if c then Some kind.Ground else None) ≡ Some t → IsNarrower t k
    by k e true b c f g h = let s : kind.Int ≡ t = cc in subst (λ t. IsNarrower t k) s tt
    by kind.Int e false b c f g h = let clash : true ≡ false = sym e ∙ f in absurd (cc)
    by kind.Unary e false true c f g h = let s : kind.Unary ≡ t = cc in subst (λ t. IsNarrower t kind.Unary) s tt
    by kind.Unary e false false c f g h = let clash : true ≡ false = sym e ∙ g in absurd (cc)
    by kind.Ground e false true c f g h = let s : kind.Unary ≡ t = cc in subst (λ t. IsNarrower t kind.Ground) s tt
    by kind.Ground e false false true f g h = let s : kind.Ground ≡ t = cc in subst (λ t. IsNarrower t kind.Ground) s tt
    by kind.Ground e false false false f g h = absurd (cc)
