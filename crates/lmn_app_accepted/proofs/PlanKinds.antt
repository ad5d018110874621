-- The kinds of a plan are those that the guard gives.
use Rattle.std.proofs.Common.{ℕ, zero, suc, ◌≡◌, ◌≤◌, ◌+◌, ◌==◌, List, [], ◌∷◌, ◌++◌, Option, Some, None, IsSome, Bool, true, false, cond, Contains, refl, sym, ap, subst, ◌∙◌, arith}
use Rattle.std.specs.Prelude.{slice_get, if◌then◌else◌}
use Rattle.std.specs.List.{flat_map, AllByRecursion}
use Rattle.std.proofs.lemmas.Bool.{eqb-true}
use Rattle.std.proofs.lemmas.List.Concat.{flat_map-append}
use Rattle.std.proofs.lemmas.Option.{same_Some}
use Rattle.lmn_base.specs.declared.guard.Cond.{Cond}
use Rattle.lmn_base.specs.declared.level.Leaf.{Leaf}
use Rattle.lmn_base.specs.declared.level.Leaf.TheVariants as leaf
use Rattle.lmn_base.specs.declared.level.Level.{Level}
use Rattle.lmn_base.specs.declared.level.Occ.{Occ}
use Rattle.lmn_base.specs.declared.refusal.Pos.{Pos}
use Rattle.lmn_base.specs.declared.rule.RuleTree.{RuleTree}
use Rattle.lmn_base.specs.Levels.{leaves_of}
use Rattle.lmn_adequacy_heaps.specs.Premises.{HasTypes}
use Rattle.lmn_compile_head.specs.Heads.{kind_in}
use Rattle.lmn_guards.specs.declared.plan.GuardPlan.{GuardPlan}
use Rattle.lmn_guards.specs.declared.plan.TypeKind.{TypeKind}
use Rattle.lmn_guards.specs.declared.plan.TypedUse.{TypedUse}
use Rattle.lmn_guards.specs.GuardCodes.{type_of}
use Rattle.lmn_guards.specs.Plans.{IsPlan, with_type, typed_use, numbered_uses}
use Rattle.lmn_solid_heads.specs.declared.items.HeadItem.{HeadItem}
use Rattle.lmn_solid_heads.specs.Flattening.{leaf_items}
use Rattle.lmn_solid_heads.specs.Heads.{HeadTyped, typed_contexts_of}
use Rattle.lmn_solid_heads.proofs.HeadTrees.{Head, Heads, head, no_head, head_and, head_at, size, flat_items, flat_membranes, items_flat, head_leaves, heads_leaves, same_leaves, head_membranes, heads_membranes, same_membranes}
use Rattle.lmn_app_accepted.proofs.Listed.{all_so, each_so, how_often_here, how_often_later}
use Rattle.lmn_linkcheck.proofs.LinkedLemmas.{how_often}
use Rattle.lmn_base.proofs.Lists.{all_append, all_left as all_front, all_right as all_back}
use Rattle.lmn_adequacy_heaps.proofs.TypeConditions.{typed_more}

-- the name of a typed leaf
abbrev pub leaf_name : Leaf → List ℕ
leaf_name (leaf.Atom f os p) = []
leaf_name (leaf.Typed n o p) = n ∷ []

-- the names of typed contexts, membrane by membrane
abbrev pub names_in : List (List Leaf) → List ℕ
names_in lss = flat_map (λ ls. flat_map leaf_name ls) lss

-- ---- the uses of a plan

module _ (top : Level) (guard : List Cond) where
  abbrev Right : TypedUse → Type 0
  Right t = type_of top guard t.name ≡ Some t.kind

  abbrev HasType : Leaf → Type 0
  HasType (leaf.Atom f os p) = Unit {0}
  HasType (leaf.Typed n o p) = IsSome (type_of top guard n)

  abbrev use_name : TypedUse → List ℕ
  use_name t = t.name ∷ []

  with_right : (n number : ℕ) (o : Option TypeKind) → type_of top guard n ≡ o → AllByRecursion Right (with_type n number o)
  with_right n number None e = tt
  with_right n number (Some k) e = (e, tt)

  leaves_right : (number : ℕ) (ls : List Leaf) → AllByRecursion Right (flat_map (typed_use top guard number) ls)
  leaves_right number [] = tt
  leaves_right number (leaf.Atom f os p ∷ ls) = leaves_right number ls
  leaves_right number (leaf.Typed n o p ∷ ls) =
      all_append Right (with_type n number (type_of top guard n)) (flat_map (typed_use top guard number) ls) (with_right n number (type_of top guard n) refl) (leaves_right number ls)

  uses_right : (number : ℕ) (lss : List (List Leaf)) → AllByRecursion Right (numbered_uses (typed_use top guard) number lss)
  uses_right number [] = tt
  uses_right number (ls ∷ lss) =
      all_append Right (flat_map (typed_use top guard number) ls) (numbered_uses (typed_use top guard) (number + 1) lss) (leaves_right number ls) (uses_right (number + 1) lss)

  with_name : (n number : ℕ) (o : Option TypeKind) → IsSome o → flat_map use_name (with_type n number o) ≡ n ∷ []
  with_name n number None s = absurd (cc)
  with_name n number (Some k) s = refl

  leaves_named : (number : ℕ) (ls : List Leaf) → AllByRecursion HasType ls → flat_map use_name (flat_map (typed_use top guard number) ls) ≡ flat_map leaf_name ls
  leaves_named number [] h = refl
  leaves_named number (leaf.Atom f os p ∷ ls) h = leaves_named number ls h.1
  leaves_named number (leaf.Typed n o p ∷ ls) h =
      flat_map-append use_name (with_type n number (type_of top guard n)) (flat_map (typed_use top guard number) ls)
      ∙ (λ i. with_name n number (type_of top guard n) h.0 i ++ leaves_named number ls h.1 i)

  uses_named : (number : ℕ) (lss : List (List Leaf)) → AllByRecursion (AllByRecursion HasType) lss → flat_map use_name (numbered_uses (typed_use top guard) number lss) ≡ names_in lss
  uses_named number [] h = refl
  uses_named number (ls ∷ lss) h =
      flat_map-append use_name (flat_map (typed_use top guard number) ls) (numbered_uses (typed_use top guard) (number + 1) lss)
      ∙ (λ i. leaves_named number ls h.0 i ++ uses_named (number + 1) lss h.1 i)

  told : (n : ℕ) (ts : List TypedUse) → AllByRecursion Right ts → 1 ≤ how_often n (flat_map use_name ts) → type_of top guard n ≡ Some (kind_in ts n)
  told n [] h l = absurd (omega (arith, l))
  told n (t ∷ ts) h l = by (t.name == n) refl l (told n ts h.1)
    where
      by : (b : Bool) → (t.name == n) ≡ b → 1 ≤ cond b (suc (how_often n (flat_map use_name ts))) (how_often n (flat_map use_name ts))
          → (1 ≤ how_often n (flat_map use_name ts) → type_of top guard n ≡ Some (kind_in ts n)) → type_of top guard n ≡ Some (if b then t.kind else kind_in ts n)
      by true e l rest = ap (type_of top guard) (sym (eqb-true t.name n e)) ∙ h.0
      by false e l rest = rest l

  mutual
    in_membranes : (h : Head) → AllByRecursion HasType (head_leaves h) → AllByRecursion (AllByRecursion HasType) (head_membranes h)
    in_membranes (head leaves hs cs rcs rs) k = (all_front HasType leaves (heads_leaves hs) k, in_all hs (all_back HasType leaves (heads_leaves hs) k))

    in_all : (hs : Heads) → AllByRecursion HasType (heads_leaves hs) → AllByRecursion (AllByRecursion HasType) (heads_membranes hs)
    in_all no_head k = tt
    in_all (head_and h hs) k =
        all_append (AllByRecursion HasType) (head_membranes h) (heads_membranes hs) (in_membranes h (all_front HasType (head_leaves h) (heads_leaves hs) k))
        (in_all hs (all_back HasType (head_leaves h) (heads_leaves hs) k))

mutual
  -- the names of the typed contexts of a head, membrane by membrane
  pub membranes_named : (h : Head) → names_in (head_membranes h) ≡ flat_map leaf_name (head_leaves h)
  membranes_named (head leaves hs cs rcs rs) = ap (λ ns. flat_map leaf_name leaves ++ ns) (all_named hs) ∙ sym (flat_map-append leaf_name leaves (heads_leaves hs))

  -- and of several heads
  pub all_named : (hs : Heads) → names_in (heads_membranes hs) ≡ flat_map leaf_name (heads_leaves hs)
  all_named no_head = refl
  all_named (head_and h hs) =
      flat_map-append (λ ls. flat_map leaf_name ls) (head_membranes h) (heads_membranes hs) ∙ (λ i. membranes_named h i ++ all_named hs i)
      ∙ sym (flat_map-append leaf_name (head_leaves h) (heads_leaves hs))

-- ---- the typed contexts among the items

module _ (kind : ℕ → TypeKind) (names : List ℕ) where
  -- it is of its kind, and its name is one of these
  abbrev IsOne : HeadTyped → Type 0
  IsOne u = (u.kind ≡ kind u.name) × (1 ≤ how_often u.name names)

  abbrev Named : List ℕ → Type 0
  Named ns = AllByRecursion (λ n. 1 ≤ how_often n names) ns

  leaves_one : (inside : ℕ) (ls : List Leaf) → Named (flat_map leaf_name ls) → AllByRecursion IsOne (typed_contexts_of (leaf_items kind inside ls))
  leaves_one inside [] h = tt
  leaves_one inside (leaf.Atom f os p ∷ ls) h = leaves_one inside ls h
  leaves_one inside (leaf.Typed n o p ∷ ls) h = ((refl, h.0), leaves_one inside ls h.1)

  joined_one : (xs ys : List HeadItem) → AllByRecursion IsOne (typed_contexts_of xs) → AllByRecursion IsOne (typed_contexts_of ys) → AllByRecursion IsOne (typed_contexts_of (xs ++ ys))
  joined_one xs ys h k =
      let P : List HeadTyped → Type 0 = AllByRecursion IsOne in subst P (sym (typed_more xs ys)) (all_append IsOne (typed_contexts_of xs) (typed_contexts_of ys) h k)

  front : (ls ms : List Leaf) → Named (flat_map leaf_name (ls ++ ms)) → Named (flat_map leaf_name ls)
  front ls ms h = let P : List ℕ → Type 0 = Named in all_front (λ n. 1 ≤ how_often n names) (flat_map leaf_name ls) (flat_map leaf_name ms) (subst P (flat_map-append leaf_name ls ms) h)

  back : (ls ms : List Leaf) → Named (flat_map leaf_name (ls ++ ms)) → Named (flat_map leaf_name ms)
  back ls ms h = let P : List ℕ → Type 0 = Named in all_back (λ n. 1 ≤ how_often n names) (flat_map leaf_name ls) (flat_map leaf_name ms) (subst P (flat_map-append leaf_name ls ms) h)

  mutual
    level_one : (inside next : ℕ) (h : Head) → Named (flat_map leaf_name (head_leaves h)) → AllByRecursion IsOne (typed_contexts_of (flat_items kind inside next h))
    level_one inside next (head leaves hs cs rcs rs) k =
        joined_one (leaf_items kind inside leaves) (flat_membranes kind inside next hs) (leaves_one inside leaves (front leaves (heads_leaves hs) k))
        (levels_one inside next hs (back leaves (heads_leaves hs) k))

    levels_one : (inside next : ℕ) (hs : Heads) → Named (flat_map leaf_name (heads_leaves hs)) → AllByRecursion IsOne (typed_contexts_of (flat_membranes kind inside next hs))
    levels_one inside next no_head k = tt
    levels_one inside next (head_and h hs) k =
        joined_one (flat_items kind next (next + 1) h) (flat_membranes kind inside (next + 1 + size h) hs) (level_one next (next + 1) h (front (head_leaves h) (heads_leaves hs) k))
        (levels_one inside (next + 1 + size h) hs (back (head_leaves h) (heads_leaves hs) k))

all_times : (ns : List ℕ) → AllByRecursion (λ n. 1 ≤ how_often n ns) ns
all_times [] = tt
all_times (n ∷ ns) = (
  (let e = how_often_here n ns in omega (arith, e)),
  all_so (λ m h. let l = how_often_later m n ns in omega (arith, h, l)) ns (all_times ns),
)

-- what holds of all holds of one
pub at_index : {A : Type 0} (P : A → Type 0) (xs : List A) (i : ℕ) (x : A) → AllByRecursion P xs → slice_get xs i ≡ Some x → P x
at_index P [] zero x h e = absurd (cc)
at_index P [] (suc i) x h e = absurd (cc)
at_index P (y ∷ xs) zero x h e = subst P (same_Some y x e) h.0
at_index P (y ∷ xs) (suc i) x h e = at_index P xs i x h.1 e

-- each typed context of a head has the kind that the plan gives it
pub plan_types : (r : RuleTree) (plan : GuardPlan) → IsPlan r plan
    → ((n : ℕ) (o : Occ) (p : Pos) → Contains (leaves_of r.head) (leaf.Typed n o p) → IsSome (type_of r.head r.guard n)) → HasTypes (kind_in plan.kinds) r
plan_types r plan is typed n u e =
    let kind = kind_in plan.kinds in
    let hd = head_at r.head in
    let names = flat_map leaf_name (head_leaves hd) in
    let P : List HeadItem → Type 0 = λ xs. slice_get (typed_contexts_of xs) n ≡ Some u in
    let one = at_index (λ u. (u.kind ≡ kind u.name) × (1 ≤ how_often u.name names)) (typed_contexts_of (flat_items kind 0 1 hd)) n u
    (level_one kind names 0 1 hd (all_times names)) (subst P (items_flat kind r.head) e) in
    let Q : List Leaf → Type 0 = AllByRecursion (HasType r.head r.guard) in
    let all_typed = subst Q (same_leaves r.head) (each_so (HasType r.head r.guard) (leaves_of r.head) (has_type r.head r.guard typed)) in
    let right = uses_right r.head r.guard 0 (head_membranes hd) in
    let named = uses_named r.head r.guard 0 (head_membranes hd) (in_membranes r.head r.guard hd all_typed) ∙ membranes_named hd in
    let known = told r.head r.guard u.name (numbered_uses (typed_use r.head r.guard) 0 (head_membranes hd)) right (subst (λ ns. 1 ≤ how_often u.name ns) (sym named) one.1) in
    let kinds = ap (numbered_uses (typed_use r.head r.guard) 0) (sym (same_membranes r.head)) ∙ sym is.kinds in
    known ∙ ap (λ ts. Some (kind_in ts u.name)) kinds ∙ ap Some (sym one.0)
  where
    has_type : (top : Level) (guard : List Cond) → ((n : ℕ) (o : Occ) (p : Pos) → Contains (leaves_of top) (leaf.Typed n o p) → IsSome (type_of top guard n))
        → (l : Leaf) → Contains (leaves_of top) l → HasType top guard l
    has_type top guard h (leaf.Atom f os p) c = tt
    has_type top guard h (leaf.Typed n o p) c = h n o p c
