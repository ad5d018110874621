-- The head of a rule as a tree, whose levels hold levels. What is shown of the tree by recursion holds of the level.
use Rattle.std.proofs.Common.{ℕ, ◌≡◌, ◌+◌, Bool, List, [], ◌∷◌, ◌++◌, length, map, sum, refl, ap, arith, subst, ◌∙◌}
use Rattle.std.specs.List.{flat_map, list_any}
use Rattle.std.proofs.lemmas.List.Sums.{sum_by-cons}
use Rattle.lmn_base.specs.declared.item.Item.{Item}
use Rattle.lmn_base.specs.declared.item.Item.TheVariants as item
use Rattle.lmn_base.specs.declared.level.CtxUse.{CtxUse}
use Rattle.lmn_base.specs.declared.level.Leaf.{Leaf}
use Rattle.lmn_base.specs.declared.level.Level.{Level}
use Rattle.lmn_base.specs.declared.level.Level.TheOpen.{Level-F}
use Rattle.lmn_base.specs.declared.level.Level.TheFolds.{fold-Level, fold-roll-Level, ind-Level}
use Rattle.lmn_base.specs.Items as base
use Rattle.lmn_base.specs.Items.{own_items, number_step, number_of_items}
use Rattle.lmn_base.specs.Levels.{leaves_of, rules_of}
use Rattle.lmn_guards.specs.declared.plan.TypeKind.{TypeKind}
use Rattle.lmn_guards.specs.Plans.{leaves_by_membrane}
use Rattle.lmn_solid_heads.specs.declared.items.HeadItem.{HeadItem}
use Rattle.lmn_solid_heads.specs.declared.items.HeadItem.TheVariants.{Membrane}
use Rattle.lmn_solid_heads.specs.Flattening.{Unnumbered, has_some, leaf_items, head_membrane_items, flatten_step, unnumbered, items_of_head}

mutual
  pub data Head : Type 0 where
    head : List Leaf → Heads → List CtxUse → List CtxUse → List ℕ → Head

  pub data Heads : Type 0 where
    no_head : Heads
    head_and : Head → Heads → Heads

-- some heads as a tree
abbrev pub heads : List Head → Heads
heads [] = no_head
heads (h ∷ hs) = head_and h (heads hs)

-- the head of a level whose membranes are heads
abbrev pub head_step : Level-F Head → Head
head_step l = head l.leaves (heads l.membranes) l.contexts l.rule_contexts l.rules

-- a level as a head
abbrev pub head_at : Level → Head
head_at = fold-Level Head head_step

-- ---- as a flat list

-- it has a process context
abbrev pub has_context : Head → Bool
has_context (head leaves membranes contexts rule_contexts rs) = has_some contexts

-- it has a closed one
abbrev pub has_closed_context : Head → Bool
has_closed_context (head leaves membranes contexts rule_contexts rs) = list_any (λ u. u.closed) contexts

-- it has a rule context
abbrev pub has_rule_context : Head → Bool
has_rule_context (head leaves membranes contexts rule_contexts rs) = has_some rule_contexts

-- how many membranes stand in a head, at every depth
abbrev mutual
  pub size : Head → ℕ
  size (head leaves membranes contexts rule_contexts rs) = sizes membranes

  pub sizes : Heads → ℕ
  sizes no_head = 0
  sizes (head_and h hs) = (1 + size h) + sizes hs

abbrev mutual
  pub flat_items : (ℕ → TypeKind) → ℕ → ℕ → Head → List HeadItem
  flat_items kind inside next (head leaves membranes contexts rule_contexts rs) =
      leaf_items kind inside leaves ++ flat_membranes kind inside next membranes

  pub flat_membranes : (ℕ → TypeKind) → ℕ → ℕ → Heads → List HeadItem
  flat_membranes kind inside next no_head = []
  flat_membranes kind inside next (head_and h hs) =
      Membrane inside (has_context h) (has_closed_context h) (has_rule_context h) ∷ flat_items kind next (next + 1) h ++ flat_membranes kind inside (next + 1 + size h) hs

abbrev flattened : (ℕ → TypeKind) → Head → Unnumbered
flattened kind h = record {
  items = λ inside next. flat_items kind inside next h;
  size = size h;
  has_context = has_context h;
  has_closed_context = has_closed_context h;
  has_rule_context = has_rule_context h;
}

module _ (kind : ℕ → TypeKind) where
  abbrev AsFlat : Level → Type 0
  AsFlat l = unnumbered kind l ≡ flattened kind (head_at l)

  flat_all : (ls : List ((l : Level) × AsFlat l)) → map (unnumbered kind) (map (λ e. e.0) ls) ≡ map (flattened kind) (map head_at (map (λ e. e.0) ls))
  flat_all [] = refl
  flat_all (e ∷ ls) = λ i. e.1 i ∷ flat_all ls i

  sized : (hs : List Head) → sum (map (λ m. 1 + m.size) (map (flattened kind) hs)) ≡ sizes (heads hs)
  sized [] = refl
  sized (h ∷ hs) = sum_by-cons (λ n. n) (1 + size h) (map (λ m. 1 + m.size) (map (flattened kind) hs)) ∙ ap (λ n. (1 + size h) + n) (sized hs)

  flat_in : (inside next : ℕ) (hs : List Head) → head_membrane_items inside next (map (flattened kind) hs) ≡ flat_membranes kind inside next (heads hs)
  flat_in inside next [] = refl
  flat_in inside next (h ∷ hs) =
      ap (λ ys. Membrane inside (has_context h) (has_closed_context h) (has_rule_context h) ∷ flat_items kind next (next + 1) h ++ ys) (flat_in inside (next + 1 + size h) hs)

  level_flat : (l : Level) → AsFlat l
  level_flat = ind-Level AsFlat (λ y z is.
      let inside = subst (λ l. map (unnumbered kind) l.membranes ≡ map (flattened kind) (map head_at l.membranes)) is (flat_all z.membranes) in
      rw (fold-roll-Level Unnumbered (flatten_step kind) y, fold-roll-Level Head head_step y, inside)
      (λ i. record {
        items = λ n k. leaf_items kind n y.leaves ++ flat_in n k (map head_at y.membranes) i;
        size = sized (map head_at y.membranes) i;
        has_context = has_some y.contexts;
        has_closed_context = list_any (λ u. u.closed) y.contexts;
        has_rule_context = has_some y.rule_contexts;
      }))

  -- the items of a level are those of its tree
  pub items_flat : (l : Level) → items_of_head kind l ≡ flat_items kind 0 1 (head_at l)
  items_flat l = ap (λ u. u.items 0 1) (level_flat l)

  -- and so many membranes stand in both
  pub same_size : (l : Level) → (unnumbered kind l).size ≡ size (head_at l)
  same_size l = ap (λ u. u.size) (level_flat l)

-- ---- what stands in it at every depth

abbrev mutual
  pub head_leaves : Head → List Leaf
  head_leaves (head leaves hs cs rcs rs) = leaves ++ heads_leaves hs

  pub heads_leaves : Heads → List Leaf
  heads_leaves no_head = []
  heads_leaves (head_and h hs) = head_leaves h ++ heads_leaves hs

abbrev SameLeaves : Level → Type 0
SameLeaves l = leaves_of l ≡ head_leaves (head_at l)

inside_leaves : (ls : List ((l : Level) × SameLeaves l)) → flat_map (λ inner. inner) (map leaves_of (map (λ e. e.0) ls)) ≡ heads_leaves (heads (map head_at (map (λ e. e.0) ls)))
inside_leaves [] = refl
inside_leaves (e ∷ ls) = λ i. e.1 i ++ inside_leaves ls i

-- the leaves of a level are those of its tree
pub same_leaves : (l : Level) → leaves_of l ≡ head_leaves (head_at l)
same_leaves = ind-Level SameLeaves (λ y z is.
    let inside = subst (λ l. flat_map (λ inner. inner) (map leaves_of l.membranes) ≡ heads_leaves (heads (map head_at l.membranes))) is (inside_leaves z.membranes) in
    rw (fold-roll-Level (List Leaf) (λ l. l.leaves ++ flat_map (λ inner. inner) l.membranes) y, fold-roll-Level Head head_step y, inside) refl)

-- the leaves of each membrane
abbrev mutual
  pub head_membranes : Head → List (List Leaf)
  head_membranes (head leaves hs cs rcs rs) = leaves ∷ heads_membranes hs

  pub heads_membranes : Heads → List (List Leaf)
  heads_membranes no_head = []
  heads_membranes (head_and h hs) = head_membranes h ++ heads_membranes hs

abbrev SameMembranes : Level → Type 0
SameMembranes l = leaves_by_membrane l ≡ head_membranes (head_at l)

inside_membranes : (ls : List ((l : Level) × SameMembranes l)) → flat_map (λ inner. inner) (map leaves_by_membrane (map (λ e. e.0) ls)) ≡ heads_membranes (heads (map head_at (map (λ e. e.0) ls)))
inside_membranes [] = refl
inside_membranes (e ∷ ls) = λ i. e.1 i ++ inside_membranes ls i

-- the leaves of a level, membrane by membrane, are those of its tree
pub same_membranes : (l : Level) → leaves_by_membrane l ≡ head_membranes (head_at l)
same_membranes = ind-Level SameMembranes (λ y z is.
    let inside = subst (λ l. flat_map (λ inner. inner) (map leaves_by_membrane l.membranes) ≡ heads_membranes (heads (map head_at l.membranes))) is (inside_membranes z.membranes) in
    rw (fold-roll-Level (List (List Leaf)) (λ l. (l.leaves ∷ []) ++ flat_map (λ inner. inner) l.membranes) y, fold-roll-Level Head head_step y, inside) refl)

abbrev mutual
  pub head_uses : Head → List Item
  head_uses (head leaves hs cs rcs rs) = (map base.leaf_item leaves ++ (map base.untyped cs ++ (map item.RuleContext rcs ++ map item.Rule rs))) ++ heads_uses hs

  pub heads_uses : Heads → List Item
  heads_uses no_head = []
  heads_uses (head_and h hs) = head_uses h ++ heads_uses hs

abbrev SameUses : Level → Type 0
SameUses l = base.items_of l ≡ head_uses (head_at l)

inside_uses : (ls : List ((l : Level) × SameUses l)) → flat_map (λ inner. inner) (map base.items_of (map (λ e. e.0) ls)) ≡ heads_uses (heads (map head_at (map (λ e. e.0) ls)))
inside_uses [] = refl
inside_uses (e ∷ ls) = λ i. e.1 i ++ inside_uses ls i

-- what stands in a level at every depth stands in its tree
pub same_uses : (l : Level) → base.items_of l ≡ head_uses (head_at l)
same_uses = ind-Level SameUses (λ y z is.
    let inside = subst (λ l. flat_map (λ inner. inner) (map base.items_of l.membranes) ≡ heads_uses (heads (map head_at l.membranes))) is (inside_uses z.membranes) in
    rw (fold-roll-Level (List Item) (λ l. own_items l ++ flat_map (λ inner. inner) l.membranes) y, fold-roll-Level Head head_step y, inside) refl)

-- the rules that stand in it
abbrev mutual
  pub head_rules : Head → List ℕ
  head_rules (head leaves hs cs rcs rs) = rs ++ heads_rules hs

  pub heads_rules : Heads → List ℕ
  heads_rules no_head = []
  heads_rules (head_and h hs) = head_rules h ++ heads_rules hs

abbrev SameRules : Level → Type 0
SameRules l = rules_of l ≡ head_rules (head_at l)

inside_rules : (ls : List ((l : Level) × SameRules l)) → flat_map (λ inner. inner) (map rules_of (map (λ e. e.0) ls)) ≡ heads_rules (heads (map head_at (map (λ e. e.0) ls)))
inside_rules [] = refl
inside_rules (e ∷ ls) = λ i. e.1 i ++ inside_rules ls i

-- the rules of a level are those of its head
pub same_rules : (l : Level) → rules_of l ≡ head_rules (head_at l)
same_rules = ind-Level SameRules (λ y z is.
    let inside = subst (λ l. flat_map (λ inner. inner) (map rules_of l.membranes) ≡ heads_rules (heads (map head_at l.membranes))) is (inside_rules z.membranes) in
    rw (fold-roll-Level (List ℕ) (λ l. l.rules ++ flat_map (λ inner. inner) l.membranes) y, fold-roll-Level Head head_step y, inside) refl)

-- how many items stand in it
abbrev mutual
  pub head_number : Head → ℕ
  head_number (head leaves hs cs rcs rs) = length leaves + (heads_length hs + (length cs + (length rcs + (length rs + heads_number hs))))

  pub heads_number : Heads → ℕ
  heads_number no_head = 0
  heads_number (head_and h hs) = head_number h + heads_number hs

  pub heads_length : Heads → ℕ
  heads_length no_head = 0
  heads_length (head_and h hs) = 1 + heads_length hs

abbrev SameNumber : Level → Type 0
SameNumber l = number_of_items l ≡ head_number (head_at l)

inside_numbers : (ls : List ((l : Level) × SameNumber l)) → sum (map number_of_items (map (λ e. e.0) ls)) ≡ heads_number (heads (map head_at (map (λ e. e.0) ls)))
inside_numbers [] = refl
inside_numbers (e ∷ ls) =
    let inner = map (λ (e : (l : Level) × SameNumber l). e.0) ls in
    sum_by-cons (λ (n : ℕ). n) (number_of_items e.0) (map number_of_items inner) ∙ (λ i. e.1 i + inside_numbers ls i)

inside_length : (ls : List Level) → length (map number_of_items ls) ≡ heads_length (heads (map head_at ls))
inside_length [] = refl
inside_length (l ∷ ls) = let h = inside_length ls in omega (arith, h)

-- a level has as many items as its tree
pub same_number : (l : Level) → number_of_items l ≡ head_number (head_at l)
same_number = ind-Level SameNumber (λ y z is.
    let inside = subst (λ l. sum (map number_of_items l.membranes) ≡ heads_number (heads (map head_at l.membranes))) is (inside_numbers z.membranes) in
    rw (fold-roll-Level ℕ number_step y, fold-roll-Level Head head_step y, inside, inside_length y.membranes) refl)
