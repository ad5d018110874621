-- The contexts of a rule, by the tree of its head and that of its body: in which membranes they stand, and how often.
use Rattle.std.proofs.Common.{ℕ, zero, suc, ◌≡◌, ◌≢◌, ◌≤◌, ◌<◌, ◌+◌, ◌⊎◌, Bool, true, false, List, [], ◌∷◌, ◌++◌, Some, length, map, sum, refl, ap, sym, subst, ◌∙◌, inl, inr, arith}
use Rattle.std.specs.Prelude.{◌==◌, ◌||◌, ◌&&◌, if◌then◌else◌, Contains, slice_get}
use Rattle.std.specs.List.{flat_map, list_any}
use Rattle.std.proofs.lemmas.Bool.{cases_eq}
use Rattle.std.proofs.lemmas.Bool.Decides.{Decides-eqb}
use Rattle.std.proofs.lemmas.List.{append_assoc, length-append, map-append}
use Rattle.std.proofs.lemmas.List.Sums.{sum_by-cons}
use Rattle.lmn_base.specs.declared.item.Form.TheVariants.{Typed}
use Rattle.lmn_base.specs.declared.item.FormedUse.{FormedUse}
use Rattle.lmn_base.specs.declared.item.Item.{Item}
use Rattle.lmn_base.specs.declared.item.Item.TheVariants as item
use Rattle.lmn_base.specs.declared.level.CtxUse.{CtxUse}
use Rattle.lmn_base.specs.declared.level.Leaf.{Leaf}
use Rattle.lmn_base.specs.declared.level.Leaf.TheVariants as leaf
use Rattle.lmn_base.specs.declared.level.Level.{Level, out-Level}
use Rattle.lmn_base.specs.declared.level.Level.TheFolds.{fold-Level, fold-roll-Level, ind-Level, fold_out-Level}
use Rattle.lmn_base.specs.declared.refusal.Pos.{Pos}
use Rattle.lmn_base.specs.Items.{untyped_form, untyped as written, leaf_item}
use Rattle.lmn_base_walks.specs.RuleCodes.{bare_use, seconds, behind_the_first, seconds_by_membrane}
use Rattle.lmn_base.specs.Uses.{use_of}
use Rattle.lmn_guards.specs.declared.plan.TypeKind.{TypeKind}
use Rattle.lmn_solid_heads.specs.Heads.{HeadMembrane, membrane_of, membranes_of}
use Rattle.lmn_solid_heads.specs.Flattening.{leaf_items, has_some}
use Rattle.lmn_solid_heads.specs.declared.items.HeadItem.{HeadItem}
use Rattle.lmn_solid_heads.proofs.HeadTrees.{Head, Heads, head, no_head, head_and, heads, head_at, head_step, size, sizes, flat_membranes, head_uses, heads_uses}
use Rattle.lmn_congruence_splice.specs.Splice.{IsOneOf, NoneTwice}
use Rattle.lmn_solid_bodies.proofs.Firing.{in_often}
use Rattle.lmn_solid_bodies.proofs.HeadPorts.{in_map, of_map as from_map}
use Rattle.lmn_solid_bodies.specs.Flattening.{NumberedContexts, names_inside, names_below, numbering, membrane_named, open_uses}
use Rattle.lmn_congruence.specs.Links.{places, one_if_same}
use Rattle.lmn_congruence.proofs.Counts.{one_if_equal as one_same}
use Rattle.lmn_congruence.proofs.TranslatedLinks.{places_append as often_append}
use Rattle.lmn_congruence_splice.proofs.Common.{in_append, in_back, in_front}
use Rattle.lmn_solid_bodies.proofs.Numbered.{leaves_none}
use Rattle.lmn_compile_head.proofs.HeadLeaves.{all_membranes}
use Rattle.lmn_base.specs.Names.{context_names}

-- ---- lists

-- what is one of a list is contained in it
pub contained : {X : Type 0} (x : X) (xs : List X) → IsOneOf x xs → Contains xs x
contained x [] i = absurd i
contained x (y ∷ xs) (inl e) = (0, omega arith, e)
contained x (y ∷ xs) (inr i) = let r = contained x xs i in let w = r.1 in (suc r.0, omega (arith, w), r.2)

-- what a list contains is one of it
pub is_in : {X : Type 0} (x : X) (xs : List X) → Contains xs x → IsOneOf x xs
is_in x [] (k, within, e) = absurd (omega (arith, within))
is_in x (y ∷ xs) (zero, within, e) = inl e
is_in x (y ∷ xs) (suc k, within, e) = inr (is_in x xs (k, omega (arith, within), e))

-- images that differ where their numbers do stand once each
pub distinct_map : (f : ℕ → ℕ) (xs : List ℕ) → NoneTwice xs → ((x y : ℕ) → IsOneOf x xs → IsOneOf y xs → f x ≡ f y → x ≡ y) → NoneTwice (map f xs)
distinct_map f [] d one = tt
distinct_map f (x ∷ xs) d one = (
  λ i. (let r = from_map f (f x) xs i in d.0 (subst (λ z. IsOneOf z xs) (one r.0 x (inr r.1) (inl refl) r.2) r.1)),
  distinct_map f xs d.1 (λ y z i j. one y z (inr i) (inr j)),
)

-- ---- the membranes of contexts, by the tree; `pick` takes the untyped contexts or the rule contexts

module _ (pick : List CtxUse → List CtxUse → List CtxUse) where
  abbrev mutual
    pub head_names : ℕ → ℕ → Head → List (ℕ × ℕ)
    head_names inside next (head leaves hs cs rcs rs) = names_inside inside (pick cs rcs) ++ heads_names next hs

    pub heads_names : ℕ → Heads → List (ℕ × ℕ)
    heads_names next no_head = []
    heads_names next (head_and h hs) = head_names next (next + 1) h ++ heads_names (next + 1 + size h) hs

  abbrev named : Level → NumberedContexts
  named = numbering (λ l. pick l.contexts l.rule_contexts)

  abbrev by_tree : Head → NumberedContexts
  by_tree h = record { names = λ inside next. head_names inside next h; size = size h }

  abbrev AsNamed : Level → Type 0
  AsNamed l = named l ≡ by_tree (head_at l)

  named_all : (ls : List ((l : Level) × AsNamed l)) → map named (map (λ e. e.0) ls) ≡ map by_tree (map head_at (map (λ e. e.0) ls))
  named_all [] = refl
  named_all (e ∷ ls) = λ i. e.1 i ∷ named_all ls i

  sized : (hs : List Head) → sum (map (λ m. 1 + m.size) (map by_tree hs)) ≡ sizes (heads hs)
  sized [] = refl
  sized (h ∷ hs) = sum_by-cons (λ n. n) (1 + size h) (map (λ m. 1 + m.size) (map by_tree hs)) ∙ ap (λ n. (1 + size h) + n) (sized hs)

  named_in : (next : ℕ) (hs : List Head) → names_below next (map by_tree hs) ≡ heads_names next (heads hs)
  named_in next [] = refl
  named_in next (h ∷ hs) = ap (λ ys. head_names next (next + 1) h ++ ys) (named_in (next + 1 + size h) hs)

  as_named : (l : Level) → AsNamed l
  as_named = ind-Level AsNamed (λ y z is.
      let inside = subst (λ l. map named l.membranes ≡ map by_tree (map head_at l.membranes)) is (named_all z.membranes) in
      rw (
        fold-roll-Level NumberedContexts (λ l. record {
          names = λ inside next. names_inside inside (pick l.contexts l.rule_contexts) ++ names_below next l.membranes;
          size = sum (map (λ m. 1 + m.size) l.membranes);
        }) y,
        fold-roll-Level Head head_step y,
        inside,
      )
      (λ i. record {
        names = λ n k. names_inside n (pick y.contexts y.rule_contexts) ++ named_in k (map head_at y.membranes) i;
        size = sized (map head_at y.membranes) i;
      }))

  -- the names with their membranes are those of the tree
  pub names_are : (l : Level) → (named l).names 0 1 ≡ head_names 0 1 (head_at l)
  names_are l = ap (λ (n : NumberedContexts). n.names 0 1) (as_named l)

  own_number : (inside : ℕ) (us : List CtxUse) (e : ℕ × ℕ) → IsOneOf e (names_inside inside us) → e.1 ≡ inside
  own_number inside [] e i = absurd i
  own_number inside (u ∷ us) e (inl q) = sym (ap (λ (p : ℕ × ℕ). p.1) q)
  own_number inside (u ∷ us) e (inr i) = own_number inside us e i

  -- the numbers of the membranes in a level
  pub in_range : (next : ℕ) (hs : Heads) (e : ℕ × ℕ) → IsOneOf e (heads_names next hs) → (next ≤ e.1) × (e.1 < next + sizes hs)
  in_range next no_head e i = absurd i
  in_range next (head_and (head leaves hs cs rcs rs) more) e i = elim (in_append e (names_inside next (pick cs rcs) ++ heads_names (next + 1) hs) (heads_names (next + 1 + sizes hs) more) i) [
    | inl j ↦ elim (in_append e (names_inside next (pick cs rcs)) (heads_names (next + 1) hs) j) [
      | inl k ↦ (let q = own_number next (pick cs rcs) e k in (omega (arith, q), omega (arith, q)))
      | inr k ↦ (let r = in_range (next + 1) hs e k in let a = r.0 in let b = r.1 in (omega (arith, a), omega (arith, b)))
    ]
    | inr j ↦ (let r = in_range (next + 1 + sizes hs) more e j in let a = r.0 in let b = r.1 in (omega (arith, a), omega (arith, b)))
  ]

  -- each membrane in a level has at most one of these contexts
  abbrev pub AtMostOne : Heads → Type 0
  AtMostOne no_head = Unit {0}
  AtMostOne (head_and (head leaves hs cs rcs rs) more) = (length (pick cs rcs) ≤ 1) × AtMostOne hs × AtMostOne more

  one_own : (inside : ℕ) (us : List CtxUse) (e f : ℕ × ℕ) → length us ≤ 1 → IsOneOf e (names_inside inside us) → IsOneOf f (names_inside inside us) → e ≡ f
  one_own inside [] e f few i j = absurd i
  one_own inside (u ∷ []) e f few (inl p) (inl q) = sym p ∙ q
  one_own inside (u ∷ []) e f few (inl p) (inr j) = absurd j
  one_own inside (u ∷ []) e f few (inr i) j = absurd i
  one_own inside (u ∷ (v ∷ us)) e f few i j = absurd (omega (arith, few))

  abbrev Place : ℕ → List CtxUse → Heads → Heads → ℕ × ℕ → Type 0
  Place next us hs more g = IsOneOf g (names_inside next us) ⊎ (IsOneOf g (heads_names (next + 1) hs) ⊎ IsOneOf g (heads_names (next + 1 + sizes hs) more))

  -- so one membrane has one name
  pub one_each : (next : ℕ) (hs : Heads) (e f : ℕ × ℕ) → AtMostOne hs → IsOneOf e (heads_names next hs) → IsOneOf f (heads_names next hs) → e.1 ≡ f.1 → e ≡ f
  one_each next no_head e f few i j q = absurd i
  one_each next (head_and (head leaves hs cs rcs rs) more) e f few i j q =
      by (one_each (next + 1) hs e f few.1) (one_each (next + 1 + sizes hs) more e f few.2) (place e i) (place f j)
    where
      place : (g : ℕ × ℕ) → IsOneOf g ((names_inside next (pick cs rcs) ++ heads_names (next + 1) hs) ++ heads_names (next + 1 + sizes hs) more) → Place next (pick cs rcs) hs more g
      place g i = elim (in_append g (names_inside next (pick cs rcs) ++ heads_names (next + 1) hs) (heads_names (next + 1 + sizes hs) more) i) [
        | inl j ↦ elim (in_append g (names_inside next (pick cs rcs)) (heads_names (next + 1) hs) j) [ inl k ↦ inl k | inr k ↦ inr (inl k) ]
        | inr j ↦ inr (inr j)
      ]

      by : (IsOneOf e (heads_names (next + 1) hs) → IsOneOf f (heads_names (next + 1) hs) → e.1 ≡ f.1 → e ≡ f) →
          (IsOneOf e (heads_names (next + 1 + sizes hs) more) → IsOneOf f (heads_names (next + 1 + sizes hs) more) → e.1 ≡ f.1 → e ≡ f) → Place next (pick cs rcs) hs more e → Place next (pick cs rcs) hs more f → e ≡ f
      by inside behind (inl a) (inl b) = one_own next (pick cs rcs) e f few.0 a b
      by inside behind (inl a) (inr (inl b)) = let x = own_number next (pick cs rcs) e a in let y = (in_range (next + 1) hs f b).0 in absurd (omega (arith, x, y, q))
      by inside behind (inl a) (inr (inr b)) = let x = own_number next (pick cs rcs) e a in let y = (in_range (next + 1 + sizes hs) more f b).0 in absurd (omega (arith, x, y, q))
      by inside behind (inr (inl a)) (inl b) = let x = own_number next (pick cs rcs) f b in let y = (in_range (next + 1) hs e a).0 in absurd (omega (arith, x, y, q))
      by inside behind (inr (inl a)) (inr (inl b)) = inside a b q
      by inside behind (inr (inl a)) (inr (inr b)) = let x = (in_range (next + 1) hs e a).1 in let y = (in_range (next + 1 + sizes hs) more f b).0 in absurd (omega (arith, x, y, q))
      by inside behind (inr (inr a)) (inl b) = let x = own_number next (pick cs rcs) f b in let y = (in_range (next + 1 + sizes hs) more e a).0 in absurd (omega (arith, x, y, q))
      by inside behind (inr (inr a)) (inr (inl b)) = let x = (in_range (next + 1) hs f b).1 in let y = (in_range (next + 1 + sizes hs) more e a).0 in absurd (omega (arith, x, y, q))
      by inside behind (inr (inr a)) (inr (inr b)) = behind a b q

-- a name of a list is found in it
pub named_there : (es : List (ℕ × ℕ)) (x : ℕ) → IsOneOf x (map (λ e. e.0) es) → IsOneOf (x, membrane_named es x) es
named_there [] x i = absurd i
named_there (e ∷ es) x i = elim (cases_eq e.0 x) [
  | inl q ↦ inl ((λ i. (q i, e.1)) ∙ ap (λ b. (x, if b then e.1 else membrane_named es x)) (sym ((Decides-eqb e.0 x).1 q)))
  | inr d ↦ inr (subst (λ b. IsOneOf (x, if b then e.1 else membrane_named es x) es) (sym (off e.0 x d)) (named_there es x (elim i [ inl q ↦ absurd (d q) | inr j ↦ j ])))
]
  where
    off : (a b : ℕ) → a ≢ b → (a == b) ≡ false
    off a b d = by (a == b) refl
      where
        by : (t : Bool) → (a == b) ≡ t → (a == b) ≡ false
        by true e = absurd (d ((Decides-eqb a b).0 e))
        by false e = e

-- a name that stands once has one entry
pub one_entry : (es : List (ℕ × ℕ)) (x m n : ℕ) → places x (map (λ e. e.0) es) ≤ 1 → IsOneOf (x, m) es → IsOneOf (x, n) es → m ≡ n
one_entry [] x m n few i j = absurd i
one_entry (e ∷ es) x m n few (inl p) (inl q) = ap (λ (k : ℕ × ℕ). k.1) (sym p ∙ q)
one_entry (e ∷ es) x m n few (inl p) (inr j) =
    let a = one_same x e.0 (sym (ap (λ (k : ℕ × ℕ). k.0) p)) in let b = in_often x (map (λ (k : ℕ × ℕ). k.0) es) (in_map (λ (k : ℕ × ℕ). k.0) (x, n) es j) in absurd (omega (arith, a, b, few))
one_entry (e ∷ es) x m n few (inr i) (inl q) =
    let a = one_same x e.0 (sym (ap (λ (k : ℕ × ℕ). k.0) q)) in let b = in_often x (map (λ (k : ℕ × ℕ). k.0) es) (in_map (λ (k : ℕ × ℕ). k.0) (x, m) es i) in absurd (omega (arith, a, b, few))
one_entry (e ∷ es) x m n few (inr i) (inr j) = one_entry es x m n (omega (arith, few)) i j

-- ---- the uses of contexts in a level and their names

-- of the contexts and rule contexts of a head the contexts
abbrev pub untyped : List CtxUse → List CtxUse → List CtxUse
untyped cs rcs = cs

-- of the contexts and rule contexts of a head the rule contexts
abbrev pub of_rules : List CtxUse → List CtxUse → List CtxUse
of_rules cs rcs = rcs

-- the first numbers of pairs
abbrev pub firsts : List (ℕ × ℕ) → List ℕ
firsts es = map (λ e. e.0) es

abbrev own_uses : List Leaf → List CtxUse → List CtxUse → List ℕ → List Item
own_uses leaves cs rcs rs = map leaf_item leaves ++ (map written cs ++ (map item.RuleContext rcs ++ map item.Rule rs))

leaf_typed : (l : Leaf) (u : FormedUse) → leaf_item l ≡ item.Context u → u.form ≡ Typed
leaf_typed (leaf.Atom f os p) u e = absurd (cc)
leaf_typed (leaf.Typed x o p) u e = let same : (record { name = x; form = Typed; pos = p }) ≡ u = cc in sym (ap (λ (v : FormedUse). v.form) same)

leaf_rule : (l : Leaf) (u : CtxUse) → leaf_item l ≡ item.RuleContext u → ⊥
leaf_rule (leaf.Atom f os p) u e = absurd (cc)
leaf_rule (leaf.Typed x o p) u e = absurd (cc)

-- a use isn't typed and untyped
pub not_both : (b : Bool) → Typed ≡ untyped_form b → ⊥
not_both true e = absurd (cc)
not_both false e = absurd (cc)

own_bare : (leaves : List Leaf) (cs rcs : List CtxUse) (rs : List ℕ) (u : FormedUse) → IsOneOf (item.Context u) (own_uses leaves cs rcs rs) → (u.form ≡ Typed → ⊥) → IsOneOf u.name (context_names cs)
own_bare leaves cs rcs rs u i bare = elim (in_append (item.Context u) (map leaf_item leaves) (map written cs ++ (map item.RuleContext rcs ++ map item.Rule rs)) i) [
  | inl j ↦ (let r = from_map leaf_item (item.Context u) leaves j in absurd (bare (leaf_typed r.0 u r.2)))
  | inr j ↦ elim (in_append (item.Context u) (map written cs) (map item.RuleContext rcs ++ map item.Rule rs) j) [
    | inl k ↦ (let r = from_map written (item.Context u) cs k in subst (λ x. IsOneOf x (context_names cs)) (named r.0 r.2) (in_map (λ (c : CtxUse). c.name) r.0 cs r.1))
    | inr k ↦ elim (in_append (item.Context u) (map item.RuleContext rcs) (map item.Rule rs) k) [
      | inl l ↦ (let r = from_map item.RuleContext (item.Context u) rcs l in absurd (rule_context r.0 r.2))
      | inr l ↦ (let r = from_map item.Rule (item.Context u) rs l in absurd (rule r.0 r.2))
    ]
  ]
]
  where
    named : (c : CtxUse) → written c ≡ item.Context u → c.name ≡ u.name
    named c e = let same : (record { name = c.name; form = untyped_form c.closed; pos = c.pos }) ≡ u = cc in ap (λ (v : FormedUse). v.name) same

    rule_context : (c : CtxUse) → item.RuleContext c ≡ item.Context u → ⊥
    rule_context c e = absurd (cc)

    rule : (k : ℕ) → item.Rule k ≡ item.Context u → ⊥
    rule k e = absurd (cc)

own_of_rules : (leaves : List Leaf) (cs rcs : List CtxUse) (rs : List ℕ) (u : CtxUse) → IsOneOf (item.RuleContext u) (own_uses leaves cs rcs rs) → IsOneOf u.name (context_names rcs)
own_of_rules leaves cs rcs rs u i = elim (in_append (item.RuleContext u) (map leaf_item leaves) (map written cs ++ (map item.RuleContext rcs ++ map item.Rule rs)) i) [
  | inl j ↦ (let r = from_map leaf_item (item.RuleContext u) leaves j in absurd (leaf_rule r.0 u r.2))
  | inr j ↦ elim (in_append (item.RuleContext u) (map written cs) (map item.RuleContext rcs ++ map item.Rule rs) j) [
    | inl k ↦ (let r = from_map written (item.RuleContext u) cs k in absurd (context r.0 r.2))
    | inr k ↦ elim (in_append (item.RuleContext u) (map item.RuleContext rcs) (map item.Rule rs) k) [
      | inl l ↦ (let r = from_map item.RuleContext (item.RuleContext u) rcs l in subst (λ x. IsOneOf x (context_names rcs)) (named r.0 r.2) (in_map (λ (c : CtxUse). c.name) r.0 rcs r.1))
      | inr l ↦ (let r = from_map item.Rule (item.RuleContext u) rs l in absurd (rule r.0 r.2))
    ]
  ]
]
  where
    context : (c : CtxUse) → written c ≡ item.RuleContext u → ⊥
    context c e = absurd (cc)

    named : (c : CtxUse) → item.RuleContext c ≡ item.RuleContext u → c.name ≡ u.name
    named c e = let same : c ≡ u = cc in ap (λ (v : CtxUse). v.name) same

    rule : (k : ℕ) → item.Rule k ≡ item.RuleContext u → ⊥
    rule k e = absurd (cc)

-- a name that stands in a part of a list of entries stands in the list
front_name : (x : ℕ) (es fs : List (ℕ × ℕ)) → IsOneOf x (firsts es) → IsOneOf x (firsts (es ++ fs))
front_name x es fs i = subst (IsOneOf x) (sym (map-append (λ (e : ℕ × ℕ). e.0) es fs)) (in_front x (firsts es) (firsts fs) i)

back_name : (x : ℕ) (es fs : List (ℕ × ℕ)) → IsOneOf x (firsts fs) → IsOneOf x (firsts (es ++ fs))
back_name x es fs i = subst (IsOneOf x) (sym (map-append (λ (e : ℕ × ℕ). e.0) es fs)) (in_back x (firsts es) (firsts fs) i)

own_names : (inside : ℕ) (us : List CtxUse) → map (λ e. e.0) (names_inside inside us) ≡ map (λ u. u.name) us
own_names inside [] = refl
own_names inside (u ∷ us) = ap (λ xs. u.name ∷ xs) (own_names inside us)

mutual
  -- an untyped context that is used in a head has a membrane there
  pub has_name : (inside next : ℕ) (h : Head) (u : FormedUse) → IsOneOf (item.Context u) (head_uses h) → (u.form ≡ Typed → ⊥) → IsOneOf u.name (firsts (head_names untyped inside next h))
  has_name inside next (head leaves hs cs rcs rs) u i bare = elim (in_append (item.Context u) (own_uses leaves cs rcs rs) (heads_uses hs) i) [
    | inl j ↦ front_name u.name (names_inside inside cs) (heads_names untyped next hs) (subst (IsOneOf u.name) (sym (own_names inside cs)) (own_bare leaves cs rcs rs u j bare))
    | inr j ↦ back_name u.name (names_inside inside cs) (heads_names untyped next hs) (have_name next hs u j bare)
  ]

  have_name : (next : ℕ) (hs : Heads) (u : FormedUse) → IsOneOf (item.Context u) (heads_uses hs) → (u.form ≡ Typed → ⊥) → IsOneOf u.name (firsts (heads_names untyped next hs))
  have_name next no_head u i bare = absurd i
  have_name next (head_and h hs) u i bare = elim (in_append (item.Context u) (head_uses h) (heads_uses hs) i) [
    | inl j ↦ front_name u.name (head_names untyped next (next + 1) h) (heads_names untyped (next + 1 + size h) hs) (has_name next (next + 1) h u j bare)
    | inr j ↦ back_name u.name (head_names untyped next (next + 1) h) (heads_names untyped (next + 1 + size h) hs) (have_name (next + 1 + size h) hs u j bare)
  ]

mutual
  -- and so has a rule context
  pub has_rule_name : (inside next : ℕ) (h : Head) (u : CtxUse) → IsOneOf (item.RuleContext u) (head_uses h) → IsOneOf u.name (firsts (head_names of_rules inside next h))
  has_rule_name inside next (head leaves hs cs rcs rs) u i = elim (in_append (item.RuleContext u) (own_uses leaves cs rcs rs) (heads_uses hs) i) [
    | inl j ↦ front_name u.name (names_inside inside rcs) (heads_names of_rules next hs) (subst (IsOneOf u.name) (sym (own_names inside rcs)) (own_of_rules leaves cs rcs rs u j))
    | inr j ↦ back_name u.name (names_inside inside rcs) (heads_names of_rules next hs) (have_rule_name next hs u j)
  ]

  have_rule_name : (next : ℕ) (hs : Heads) (u : CtxUse) → IsOneOf (item.RuleContext u) (heads_uses hs) → IsOneOf u.name (firsts (heads_names of_rules next hs))
  have_rule_name next no_head u i = absurd i
  have_rule_name next (head_and h hs) u i = elim (in_append (item.RuleContext u) (head_uses h) (heads_uses hs) i) [
    | inl j ↦ front_name u.name (head_names of_rules next (next + 1) h) (heads_names of_rules (next + 1 + size h) hs) (has_rule_name next (next + 1) h u j)
    | inr j ↦ back_name u.name (head_names of_rules next (next + 1) h) (heads_names of_rules (next + 1 + size h) hs) (have_rule_name (next + 1 + size h) hs u j)
  ]

-- ---- the contexts of a level, by its tree

module _ (pick : List CtxUse → List CtxUse → List CtxUse) where
  abbrev mutual
    pub head_contexts : Head → List CtxUse
    head_contexts (head leaves hs cs rcs rs) = pick cs rcs ++ heads_contexts hs

    pub heads_contexts : Heads → List CtxUse
    heads_contexts no_head = []
    heads_contexts (head_and h hs) = head_contexts h ++ heads_contexts hs

  abbrev all_contexts : Level → List CtxUse
  all_contexts = fold-Level (List CtxUse) (λ l. pick l.contexts l.rule_contexts ++ flat_map (λ inner. inner) l.membranes)

  abbrev SameContexts : Level → Type 0
  SameContexts l = all_contexts l ≡ head_contexts (head_at l)

  inside_contexts : (ls : List ((l : Level) × SameContexts l)) → flat_map (λ inner. inner) (map all_contexts (map (λ e. e.0) ls)) ≡ heads_contexts (heads (map head_at (map (λ e. e.0) ls)))
  inside_contexts [] = refl
  inside_contexts (e ∷ ls) = λ i. e.1 i ++ inside_contexts ls i

  pub same_contexts : (l : Level) → all_contexts l ≡ head_contexts (head_at l)
  same_contexts = ind-Level SameContexts (λ y z is.
      let inside = subst (λ l. flat_map (λ inner. inner) (map all_contexts l.membranes) ≡ heads_contexts (heads (map head_at l.membranes))) is (inside_contexts z.membranes) in
      rw (fold-roll-Level (List CtxUse) (λ l. pick l.contexts l.rule_contexts ++ flat_map (λ inner. inner) l.membranes) y, fold-roll-Level Head head_step y, inside) refl)

  -- each is used there, by its item
  module _ (as_item : CtxUse → Item) (own : (leaves : List Leaf) (cs rcs : List CtxUse) (rs : List ℕ) (u : CtxUse) → IsOneOf u (pick cs rcs) → IsOneOf (as_item u) (own_uses leaves cs rcs rs)) where
    mutual
      pub is_used : (h : Head) (u : CtxUse) → IsOneOf u (head_contexts h) → IsOneOf (as_item u) (head_uses h)
      is_used (head leaves hs cs rcs rs) u i = elim (in_append u (pick cs rcs) (heads_contexts hs) i) [
        | inl j ↦ in_front (as_item u) (own_uses leaves cs rcs rs) (heads_uses hs) (own leaves cs rcs rs u j)
        | inr j ↦ in_back (as_item u) (own_uses leaves cs rcs rs) (heads_uses hs) (are_used hs u j)
      ]

      are_used : (hs : Heads) (u : CtxUse) → IsOneOf u (heads_contexts hs) → IsOneOf (as_item u) (heads_uses hs)
      are_used no_head u i = absurd i
      are_used (head_and h hs) u i = elim (in_append u (head_contexts h) (heads_contexts hs) i) [
        | inl j ↦ in_front (as_item u) (head_uses h) (heads_uses hs) (is_used h u j)
        | inr j ↦ in_back (as_item u) (head_uses h) (heads_uses hs) (are_used hs u j)
      ]

-- a context of a head is used there, as it is written
pub context_used : (h : Head) (u : CtxUse) → IsOneOf u (head_contexts untyped h) → IsOneOf (written u) (head_uses h)
context_used = is_used untyped written (λ leaves cs rcs rs u i.
    in_back (written u) (map leaf_item leaves) (map written cs ++ (map item.RuleContext rcs ++ map item.Rule rs))
    (in_front (written u) (map written cs) (map item.RuleContext rcs ++ map item.Rule rs) (in_map written u cs i)))

-- and a rule context as such
pub rule_context_used : (h : Head) (u : CtxUse) → IsOneOf u (head_contexts of_rules h) → IsOneOf (item.RuleContext u) (head_uses h)
rule_context_used = is_used of_rules item.RuleContext (λ leaves cs rcs rs u i.
    in_back (item.RuleContext u) (map leaf_item leaves) (map written cs ++ (map item.RuleContext rcs ++ map item.Rule rs))
    (in_back (item.RuleContext u) (map written cs) (map item.RuleContext rcs ++ map item.Rule rs)
    (in_front (item.RuleContext u) (map item.RuleContext rcs) (map item.Rule rs) (in_map item.RuleContext u rcs i))))

-- ---- how often names are used

many_append : {X : Type 0} (f : X → List Pos) (xs ys : List X) → length (flat_map f (xs ++ ys)) ≡ length (flat_map f xs) + length (flat_map f ys)
many_append f [] ys = zero_left (length (flat_map f ys))
  where
    zero_left : (n : ℕ) → n ≡ 0 + n
    zero_left n = omega arith
many_append f (x ∷ xs) ys =
    let a = length-append (f x) (flat_map f (xs ++ ys)) in
    let b = length-append (f x) (flat_map f xs) in
    let c = many_append f xs ys in
    omega (arith, a, b, c)

none_of : {X : Type 0} (f : X → List Pos) (xs : List X) → ((x : X) → length (f x) ≡ 0) → length (flat_map f xs) ≡ 0
none_of f [] none = refl
none_of f (x ∷ xs) none = let a = length-append (f x) (flat_map f xs) in let b = none x in let c = none_of f xs none in omega (arith, a, b, c)

mapped : {X Y : Type 0} (f : X → Y) (g : Y → List Pos) (xs : List X) → flat_map g (map f xs) ≡ flat_map (λ x. g (f x)) xs
mapped f g [] = refl
mapped f g (x ∷ xs) = ap (λ ps. g (f x) ++ ps) (mapped f g xs)

one_place : (x y : ℕ) (p : Pos) → length (if y == x then p ∷ [] else []) ≡ one_if_same x y
one_place x y p = by (x == y) (y == x) refl refl
  where
    by : (a b : Bool) → (x == y) ≡ a → (y == x) ≡ b → length (if b then p ∷ [] else []) ≡ (if a then 1 else 0)
    by true true e f = refl
    by false false e f = refl
    by true false e f = let q = (Decides-eqb x y).0 e in absurd (off (sym f ∙ (Decides-eqb y x).1 (sym q)))
      where
        off : false ≡ true → ⊥
        off e = absurd (cc)
    by false true e f = let q = (Decides-eqb y x).0 f in absurd (off (sym e ∙ (Decides-eqb x y).1 (sym q)))
      where
        off : false ≡ true → ⊥
        off e = absurd (cc)

-- the open ones of two lists
open_append : (cs ds : List CtxUse) → open_uses (cs ++ ds) ≡ open_uses cs ++ open_uses ds
open_append [] ds = refl
open_append (c ∷ cs) ds = by c.closed (open_append cs ds)
  where
    by : (k : Bool) → open_uses (cs ++ ds) ≡ open_uses cs ++ open_uses ds → (if k then open_uses (cs ++ ds) else c ∷ open_uses (cs ++ ds)) ≡ (if k then open_uses cs else c ∷ open_uses cs) ++ open_uses ds
    by true e = e
    by false e = ap (λ zs. c ∷ zs) e

module _ (x : ℕ) where
  names_used : (cs : List CtxUse) → length (flat_map (use_of x) (map written cs)) ≡ places x (context_names cs)
  names_used [] = refl
  names_used (c ∷ cs) =
      let a = length-append (use_of x (written c)) (flat_map (use_of x) (map written cs)) in
      let b = one_place x c.name c.pos in
      let d = names_used cs in
      omega (arith, a, b, d)

  own_used : (leaves : List Leaf) (cs rcs : List CtxUse) (rs : List ℕ) → places x (context_names cs) ≤ length (flat_map (use_of x) (own_uses leaves cs rcs rs))
  own_used leaves cs rcs rs =
      let a = many_append (use_of x) (map leaf_item leaves) (map written cs ++ (map item.RuleContext rcs ++ map item.Rule rs)) in
      let b = many_append (use_of x) (map written cs) (map item.RuleContext rcs ++ map item.Rule rs) in
      let c = names_used cs in
      omega (arith, a, b, c)

  mutual
    -- a name has no more membranes than uses
    pub names_few : (inside next : ℕ) (h : Head) → places x (firsts (head_names untyped inside next h)) ≤ length (flat_map (use_of x) (head_uses h))
    names_few inside next (head leaves hs cs rcs rs) =
        let a = ap (places x) (map-append (λ (e : ℕ × ℕ). e.0) (names_inside inside cs) (heads_names untyped next hs)) in
        let b = often_append x (firsts (names_inside inside cs)) (firsts (heads_names untyped next hs)) in
        let c = ap (places x) (own_names inside cs) in
        let d = own_used leaves cs rcs rs in
        let e = many_append (use_of x) (own_uses leaves cs rcs rs) (heads_uses hs) in
        let f = all_names_few next hs in
        omega (arith, a, b, c, d, e, f)

    all_names_few : (next : ℕ) (hs : Heads) → places x (firsts (heads_names untyped next hs)) ≤ length (flat_map (use_of x) (heads_uses hs))
    all_names_few next no_head = omega arith
    all_names_few next (head_and h hs) =
        let a = ap (places x) (map-append (λ (e : ℕ × ℕ). e.0) (head_names untyped next (next + 1) h) (heads_names untyped (next + 1 + size h) hs)) in
        let b = often_append x (firsts (head_names untyped next (next + 1) h)) (firsts (heads_names untyped (next + 1 + size h) hs)) in
        let c = names_few next (next + 1) h in
        let d = all_names_few (next + 1 + size h) hs in
        let e = many_append (use_of x) (head_uses h) (heads_uses hs) in
        omega (arith, a, b, c, d, e)

  bare_leaf : (l : Leaf) → length (bare_use x (leaf_item l)) ≡ 0
  bare_leaf (leaf.Atom f os p) = refl
  bare_leaf (leaf.Typed y o p) = by (y == x)
    where
      by : (b : Bool) → length (if b && false then p ∷ [] else []) ≡ 0
      by true = refl
      by false = refl

  bare_names : (cs : List CtxUse) → length (flat_map (bare_use x) (map written cs)) ≡ places x (context_names (open_uses cs))
  bare_names [] = refl
  bare_names (c ∷ cs) = by c.closed (bare_names cs)
    where
      open_one : (b : Bool) → length (if b && true then c.pos ∷ [] else []) ≡ length (if b then c.pos ∷ [] else [])
      open_one true = refl
      open_one false = refl

      closed_one : (b : Bool) → length (if b && false then c.pos ∷ [] else []) ≡ 0
      closed_one true = refl
      closed_one false = refl

      by : (k : Bool) → length (flat_map (bare_use x) (map written cs)) ≡ places x (context_names (open_uses cs))
          → length (bare_use x (item.Context (record { name = c.name; form = untyped_form k; pos = c.pos })) ++ flat_map (bare_use x) (map written cs)) ≡ places x (context_names (if k then open_uses cs else c ∷ open_uses cs))
      by true d =
          let a = length-append (bare_use x (item.Context (record { name = c.name; form = untyped_form true; pos = c.pos }))) (flat_map (bare_use x) (map written cs)) in
          let b = closed_one (c.name == x) in
          omega (arith, a, b, d)
      by false d =
          let a = length-append (bare_use x (item.Context (record { name = c.name; form = untyped_form false; pos = c.pos }))) (flat_map (bare_use x) (map written cs)) in
          let b = open_one (c.name == x) ∙ one_place x c.name c.pos in
          omega (arith, a, b, d)

  own_bares : (leaves : List Leaf) (cs rcs : List CtxUse) (rs : List ℕ) → length (flat_map (bare_use x) (own_uses leaves cs rcs rs)) ≡ places x (context_names (open_uses cs))
  own_bares leaves cs rcs rs =
      let a = many_append (bare_use x) (map leaf_item leaves) (map written cs ++ (map item.RuleContext rcs ++ map item.Rule rs)) in
      let b = many_append (bare_use x) (map written cs) (map item.RuleContext rcs ++ map item.Rule rs) in
      let c = many_append (bare_use x) (map item.RuleContext rcs) (map item.Rule rs) in
      let d = ap length (mapped leaf_item (bare_use x) leaves) ∙ none_of (λ l. bare_use x (leaf_item l)) leaves bare_leaf in
      let e = ap length (mapped item.RuleContext (bare_use x) rcs) ∙ none_of (λ u. bare_use x (item.RuleContext u)) rcs (λ u. refl) in
      let f = ap length (mapped item.Rule (bare_use x) rs) ∙ none_of (λ k. bare_use x (item.Rule k)) rs (λ k. refl) in
      let g = bare_names cs in
      omega (arith, a, b, c, d, e, f, g)

  mutual
    -- a name stands as often among the open contexts of a level as it is used bare
    pub bare_often : (h : Head) → places x (context_names (open_uses (head_contexts untyped h))) ≡ length (flat_map (bare_use x) (head_uses h))
    bare_often (head leaves hs cs rcs rs) =
        let a = ap (λ us. places x (context_names us)) (open_append cs (heads_contexts untyped hs)) ∙ ap (places x) (map-append (λ (u : CtxUse). u.name) (open_uses cs) (open_uses (heads_contexts untyped hs))) in
        let b = often_append x (context_names (open_uses cs)) (context_names (open_uses (heads_contexts untyped hs))) in
        let c = own_bares leaves cs rcs rs in
        let d = many_append (bare_use x) (own_uses leaves cs rcs rs) (heads_uses hs) in
        let e = all_bare_often hs in
        omega (arith, a, b, c, d, e)

    all_bare_often : (hs : Heads) → places x (context_names (open_uses (heads_contexts untyped hs))) ≡ length (flat_map (bare_use x) (heads_uses hs))
    all_bare_often no_head = refl
    all_bare_often (head_and h hs) =
        let a = ap (λ us. places x (context_names us)) (open_append (head_contexts untyped h) (heads_contexts untyped hs)) ∙ ap (places x) (map-append (λ (u : CtxUse). u.name) (open_uses (head_contexts untyped h)) (open_uses (heads_contexts untyped hs))) in
        let b = often_append x (context_names (open_uses (head_contexts untyped h))) (context_names (open_uses (heads_contexts untyped hs))) in
        let c = bare_often h in
        let d = many_append (bare_use x) (head_uses h) (heads_uses hs) in
        let e = all_bare_often hs in
        omega (arith, a, b, c, d, e)

-- ---- one context in each membrane of a head

abbrev mutual
  head_seconds : Head → List (List Pos)
  head_seconds (head leaves hs cs rcs rs) = (behind_the_first cs ++ behind_the_first rcs) ∷ heads_seconds hs

  heads_seconds : Heads → List (List Pos)
  heads_seconds no_head = []
  heads_seconds (head_and h hs) = head_seconds h ++ heads_seconds hs

abbrev SameSeconds : Level → Type 0
SameSeconds l = seconds_by_membrane l ≡ head_seconds (head_at l)

inside_seconds : (ls : List ((l : Level) × SameSeconds l)) → flat_map (λ inner. inner) (map seconds_by_membrane (map (λ e. e.0) ls)) ≡ heads_seconds (heads (map head_at (map (λ e. e.0) ls)))
inside_seconds [] = refl
inside_seconds (e ∷ ls) = λ i. e.1 i ++ inside_seconds ls i

same_seconds : (l : Level) → SameSeconds l
same_seconds = ind-Level SameSeconds (λ y z is.
    let inside = subst (λ l. flat_map (λ inner. inner) (map seconds_by_membrane l.membranes) ≡ heads_seconds (heads (map head_at l.membranes))) is (inside_seconds z.membranes) in
    rw (fold-roll-Level (List (List Pos)) (λ l. (seconds l ∷ []) ++ flat_map (λ inner. inner) l.membranes) y, fold-roll-Level Head head_step y, inside) refl)

seconds_within : (ls : List Level) → flat_map seconds_by_membrane ls ≡ heads_seconds (heads (map head_at ls))
seconds_within [] = refl
seconds_within (l ∷ ls) = λ i. same_seconds l i ++ seconds_within ls i

few_seconds : (cs : List CtxUse) (qs : List Pos) → behind_the_first cs ++ qs ≡ [] → length cs ≤ 1
few_seconds [] qs e = omega arith
few_seconds (c ∷ []) qs e = omega arith
few_seconds (c ∷ (d ∷ cs)) qs e = absurd (cc)

at_most_one : (hs : Heads) → ((ps : List Pos) → IsOneOf ps (heads_seconds hs) → ps ≡ []) → AtMostOne untyped hs
at_most_one no_head none = tt
at_most_one (head_and (head leaves hs cs rcs rs) more) none = (
  few_seconds cs (behind_the_first rcs) (none (behind_the_first cs ++ behind_the_first rcs) (inl refl)),
  at_most_one hs (λ ps i. none ps (inr (in_front ps (heads_seconds hs) (heads_seconds more) i))),
  at_most_one more (λ ps i. none ps (in_back ps ((behind_the_first cs ++ behind_the_first rcs) ∷ heads_seconds hs) (heads_seconds more) i)),
)

-- the tree of a level, of what the level itself holds
abbrev pub inner_of : Level → Heads
inner_of l = heads (map head_at (out-Level l).membranes)

-- the head of a level, by its parts
pub head_out : (l : Level) → head_at l ≡ head (out-Level l).leaves (inner_of l) (out-Level l).contexts (out-Level l).rule_contexts (out-Level l).rules
head_out l = fold_out-Level Head head_step l

-- each membrane of a head has at most one untyped context
pub one_context : (l : Level) → ((ps : List Pos) → Contains (flat_map seconds_by_membrane (out-Level l).membranes) ps → ps ≡ []) → AtMostOne untyped (inner_of l)
one_context l none = at_most_one (inner_of l) (λ ps i. none ps (contained ps (flat_map seconds_by_membrane (out-Level l).membranes) (subst (IsOneOf ps) (sym (seconds_within (out-Level l).membranes)) i)))

-- where none stands at the top, those of a head are those of its membranes
pub names_inner : (pick : List CtxUse → List CtxUse → List CtxUse) (l : Level) → pick (out-Level l).contexts (out-Level l).rule_contexts ≡ [] → head_names pick 0 1 (head_at l) ≡ heads_names pick 1 (inner_of l)
names_inner pick l none = ap (head_names pick 0 1) (head_out l) ∙ ap (λ us. names_inside 0 us ++ heads_names pick 1 (inner_of l)) none

-- ---- the membranes that have contexts

pub membranes_append : (is ks : List HeadItem) → membranes_of (is ++ ks) ≡ membranes_of is ++ membranes_of ks
membranes_append [] ks = refl
membranes_append (i ∷ is) ks = ap (λ ms. membrane_of i ++ ms) (membranes_append is ks) ∙ sym (append_assoc (membrane_of i) (membranes_of is) (membranes_of ks))

get_front : (xs ys : List HeadMembrane) (j : ℕ) (b : HeadMembrane) → j < length xs → slice_get (xs ++ ys) j ≡ Some b → slice_get xs j ≡ Some b
get_front [] ys j b l e = absurd (omega (arith, l))
get_front (x ∷ xs) ys zero b l e = e
get_front (x ∷ xs) ys (suc j) b l e = get_front xs ys j b (omega (arith, l)) e

get_back : (xs ys : List HeadMembrane) (j k : ℕ) (b : HeadMembrane) → j ≡ length xs + k → slice_get (xs ++ ys) j ≡ Some b → slice_get ys k ≡ Some b
get_back [] ys j k b q e = let same : j ≡ k = omega (arith, q) in subst (λ n. slice_get ys n ≡ Some b) same e
get_back (x ∷ xs) ys zero k b q e = absurd (omega (arith, q))
get_back (x ∷ xs) ys (suc j) k b q e = get_back xs ys j k b (omega (arith, q)) e

module _ (kind : ℕ → TypeKind) where
  -- its first context, which is open where none is closed
  own_context : (next : ℕ) (cs : List CtxUse) → has_some cs ≡ true → (c : CtxUse) × IsOneOf c cs × IsOneOf (c.name, next) (names_inside next cs) × (list_any (λ u. u.closed) cs ≡ false → c.closed ≡ false)
  own_context next [] e = absurd (cc)
  own_context next (c ∷ cs) e = (c, inl refl, inl refl, λ f. by c.closed f)
    where
      by : (t : Bool) → (t || list_any (λ u. u.closed) cs) ≡ false → t ≡ false
      by true f = absurd (cc)
      by false f = refl

  -- a membrane of a head that has an untyped context is that of a name
  pub held_at : (inside next : ℕ) (hs : Heads) (j : ℕ) (b : HeadMembrane) → slice_get (membranes_of (flat_membranes kind inside next hs)) j ≡ Some b → b.has_context ≡ true
      → (c : CtxUse) × IsOneOf c (heads_contexts untyped hs) × IsOneOf (c.name, next + j) (heads_names untyped next hs) × (b.has_closed_context ≡ false → c.closed ≡ false)
  held_at inside next no_head j b e c = absurd (cc)
  held_at inside next (head_and (head leaves hs cs rcs rs) more) zero b e c =
      let same : (record { inside = inside; has_context = has_some cs; has_closed_context = list_any (λ u. u.closed) cs; has_rule_context = has_some rcs }) ≡ b = cc in
      let r = own_context next cs (ap (λ (m : HeadMembrane). m.has_context) same ∙ c) in
      let plus : next ≡ next + 0 = omega arith in (
        r.0,
        in_front r.0 (cs ++ heads_contexts untyped hs) (heads_contexts untyped more) (in_front r.0 cs (heads_contexts untyped hs) r.1),
        in_front _ (names_inside next cs ++ heads_names untyped (next + 1) hs) (heads_names untyped (next + 1 + sizes hs) more)
            (in_front _ (names_inside next cs) (heads_names untyped (next + 1) hs) (subst (λ n. IsOneOf (r.0.name, n) (names_inside next cs)) plus r.2)),
        (λ f. r.3 (ap (λ (m : HeadMembrane). m.has_closed_context) same ∙ f)),
      )
  held_at inside next (head_and (head leaves hs cs rcs rs) more) (suc j) b e c =
      let first = leaf_items kind next leaves ++ flat_membranes kind next (next + 1) hs in
      let rest = flat_membranes kind inside (next + 1 + sizes hs) more in
      let here = ap (λ ms. slice_get ms j) (sym (membranes_append first rest)) ∙ e in
      let many : length (membranes_of first) ≡ sizes hs = ap length (leaves_none kind next leaves (flat_membranes kind next (next + 1) hs)) ∙ all_membranes kind next (next + 1) hs in
      by (at j (sizes hs)) here many (λ e'. held_at next (next + 1) hs j b e' c) (λ k e'. held_at inside (next + 1 + sizes hs) more k b e' c)
    where
      at : (a n : ℕ) → (a < n) ⊎ ((k : ℕ) × (a ≡ n + k))
      at a zero = inr (a, omega arith)
      at zero (suc n) = inl (omega arith)
      at (suc a) (suc n) = elim (at a n) [ inl l ↦ inl (omega (arith, l)) | inr r ↦ (let q = r.1 in inr (r.0, omega (arith, q))) ]

      by : (j < sizes hs) ⊎ ((k : ℕ) × (j ≡ sizes hs + k)) →
          slice_get (membranes_of (leaf_items kind next leaves ++ flat_membranes kind next (next + 1) hs) ++ membranes_of (flat_membranes kind inside (next + 1 + sizes hs) more)) j ≡ Some b →
          length (membranes_of (leaf_items kind next leaves ++ flat_membranes kind next (next + 1) hs)) ≡ sizes hs →
          (slice_get (membranes_of (flat_membranes kind next (next + 1) hs)) j ≡ Some b → (c : CtxUse) × IsOneOf c (heads_contexts untyped hs) × IsOneOf (c.name, next + 1 + j) (heads_names untyped (next + 1) hs) × (b.has_closed_context ≡ false → c.closed ≡ false)) →
          ((k : ℕ) → slice_get (membranes_of (flat_membranes kind inside (next + 1 + sizes hs) more)) k ≡ Some b → (c : CtxUse) × IsOneOf c (heads_contexts untyped more) × IsOneOf (c.name, next + 1 + sizes hs + k) (heads_names untyped (next + 1 + sizes hs) more) × (b.has_closed_context ≡ false → c.closed ≡ false)) →
          (c : CtxUse) × IsOneOf c ((cs ++ heads_contexts untyped hs) ++ heads_contexts untyped more) × IsOneOf (c.name, next + suc j) ((names_inside next cs ++ heads_names untyped (next + 1) hs) ++ heads_names untyped (next + 1 + sizes hs) more)
          × (b.has_closed_context ≡ false → c.closed ≡ false)
      by (inl l) e many inner later =
          let f = get_front (membranes_of (leaf_items kind next leaves ++ flat_membranes kind next (next + 1) hs)) (membranes_of (flat_membranes kind inside (next + 1 + sizes hs) more)) j b (omega (arith, l, many)) e in
          let r = inner (ap (λ ms. slice_get ms j) (sym (leaves_none kind next leaves (flat_membranes kind next (next + 1) hs))) ∙ f) in
          let q : next + 1 + j ≡ next + suc j = omega arith in (
            r.0,
            in_front r.0 (cs ++ heads_contexts untyped hs) (heads_contexts untyped more) (in_back r.0 cs (heads_contexts untyped hs) r.1),
            in_front _ (names_inside next cs ++ heads_names untyped (next + 1) hs) (heads_names untyped (next + 1 + sizes hs) more)
                (in_back _ (names_inside next cs) (heads_names untyped (next + 1) hs) (subst (λ n. IsOneOf (r.0.name, n) (heads_names untyped (next + 1) hs)) q r.2)),
            r.3,
          )
      by (inr (k, w)) e many inner later =
          let f = get_back (membranes_of (leaf_items kind next leaves ++ flat_membranes kind next (next + 1) hs)) (membranes_of (flat_membranes kind inside (next + 1 + sizes hs) more)) j k b (omega (arith, w, many)) e in
          let r = later k f in
          let q : next + 1 + sizes hs + k ≡ next + suc j = omega (arith, w) in (
            r.0,
            in_back r.0 (cs ++ heads_contexts untyped hs) (heads_contexts untyped more) r.1,
            in_back _ (names_inside next cs ++ heads_names untyped (next + 1) hs) (heads_names untyped (next + 1 + sizes hs) more)
                (subst (λ n. IsOneOf (r.0.name, n) (heads_names untyped (next + 1 + sizes hs) more)) q r.2),
            r.3,
          )

  -- a context of a membrane
  of_inside : (next : ℕ) (cs : List CtxUse) (x n : ℕ) → IsOneOf (x, n) (names_inside next cs) → (c : CtxUse) × IsOneOf c cs × (c.name ≡ x) × (n ≡ next)
  of_inside next [] x n i = absurd i
  of_inside next (c ∷ cs) x n (inl e) = (c, inl refl, ap (λ (e' : ℕ × ℕ). e'.0) e, sym (ap (λ (e' : ℕ × ℕ). e'.1) e))
  of_inside next (c ∷ cs) x n (inr i) = let w = of_inside next cs x n i in (w.0, inr w.1, w.2, w.3)

  -- is closed where one of them is, if there is but one
  one_closed : (cs : List CtxUse) (c : CtxUse) → length cs ≤ 1 → IsOneOf c cs → list_any (λ u. u.closed) cs ≡ c.closed
  one_closed [] c l i = absurd i
  one_closed (d ∷ []) c l (inl e) = by d.closed ∙ ap (λ (u : CtxUse). u.closed) e
    where
      by : (t : Bool) → (t || false) ≡ t
      by true = refl
      by false = refl
  one_closed (d ∷ []) c l (inr i) = absurd i
  one_closed (d ∷ (e ∷ cs)) c l i = absurd (omega (arith, l))

  in_front_get : (xs ys : List HeadMembrane) (j : ℕ) (b : HeadMembrane) → slice_get xs j ≡ Some b → slice_get (xs ++ ys) j ≡ Some b
  in_front_get [] ys j b e = absurd (cc)
  in_front_get (x ∷ xs) ys zero b e = e
  in_front_get (x ∷ xs) ys (suc j) b e = in_front_get xs ys j b e

  in_back_get : (xs ys : List HeadMembrane) (j k : ℕ) (b : HeadMembrane) → j ≡ length xs + k → slice_get ys k ≡ Some b → slice_get (xs ++ ys) j ≡ Some b
  in_back_get [] ys j k b q e = let same : k ≡ j = omega (arith, q) in subst (λ n. slice_get ys n ≡ Some b) same e
  in_back_get (x ∷ xs) ys zero k b q e = absurd (omega (arith, q))
  in_back_get (x ∷ xs) ys (suc j) k b q e = in_back_get xs ys j k b (omega (arith, q)) e

  -- The membrane of a name has a closed context where the context of that name is closed.
  pub name_at : (inside next : ℕ) (hs : Heads) → AtMostOne untyped hs → (x n : ℕ) → IsOneOf (x, n) (heads_names untyped next hs)
      → (c : CtxUse) × IsOneOf c (heads_contexts untyped hs) × (c.name ≡ x) × ((j : ℕ) × (n ≡ next + j) × ((b : HeadMembrane) × (slice_get (membranes_of (flat_membranes kind inside next hs)) j ≡ Some b) × (b.has_closed_context ≡ c.closed)))
  name_at inside next no_head one x n i = absurd i
  name_at inside next (head_and (head leaves hs cs rcs rs) more) one x n i =
      let first = leaf_items kind next leaves ++ flat_membranes kind next (next + 1) hs in
      let rest = flat_membranes kind inside (next + 1 + sizes hs) more in
      let many : length (membranes_of first) ≡ sizes hs = ap length (leaves_none kind next leaves (flat_membranes kind next (next + 1) hs)) ∙ all_membranes kind next (next + 1) hs in
      elim (in_append (x, n) (names_inside next cs ++ heads_names untyped (next + 1) hs) (heads_names untyped (next + 1 + sizes hs) more) i) [
        | inl j ↦ elim (in_append (x, n) (names_inside next cs) (heads_names untyped (next + 1) hs) j) [
          | inl k ↦ (let w = of_inside next cs x n k in
              let at : n ≡ next + 0 = (let q = w.3 in omega (arith, q)) in (
                w.0,
                in_front w.0 (cs ++ heads_contexts untyped hs) (heads_contexts untyped more) (in_front w.0 cs (heads_contexts untyped hs) w.1),
                w.2,
                (0, at, (record { inside = inside; has_context = has_some cs; has_closed_context = list_any (λ u. u.closed) cs; has_rule_context = has_some rcs }, refl, one_closed cs w.0 one.0 w.1)),
              ))
          | inr k ↦ (let w = name_at next (next + 1) hs one.1 x n k in
              let v = w.3 in
              let at : n ≡ next + suc v.0 = (let q = v.1 in omega (arith, q)) in
              let got = ap (λ ms. slice_get ms v.0) (leaves_none kind next leaves (flat_membranes kind next (next + 1) hs)) ∙ v.2.1 in (
                w.0,
                in_front w.0 (cs ++ heads_contexts untyped hs) (heads_contexts untyped more) (in_back w.0 cs (heads_contexts untyped hs) w.1),
                w.2,
                (suc v.0, at, (v.2.0, ap (λ ms. slice_get ms v.0) (membranes_append first rest) ∙ in_front_get (membranes_of first) (membranes_of rest) v.0 v.2.0 got, v.2.2)),
              ))
        ]
        | inr j ↦ (let w = name_at inside (next + 1 + sizes hs) more one.2 x n j in
            let v = w.3 in
            let at : n ≡ next + suc (sizes hs + v.0) = (let q = v.1 in omega (arith, q)) in
            let plus : sizes hs + v.0 ≡ length (membranes_of first) + v.0 = omega (arith, many) in (
              w.0,
              in_back w.0 (cs ++ heads_contexts untyped hs) (heads_contexts untyped more) w.1,
              w.2,
              (suc (sizes hs + v.0), at, (v.2.0, ap (λ ms. slice_get ms (sizes hs + v.0)) (membranes_append first rest) ∙ in_back_get (membranes_of first) (membranes_of rest) (sizes hs + v.0) v.0 v.2.0 plus v.2.1, v.2.2)),
            ))
      ]
