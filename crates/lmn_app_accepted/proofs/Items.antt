-- The names and numbers that the items of a level use, one list of each kind.
use Rattle.std.proofs.Common.{ℕ, ◌≡◌, Bool, true, false, List, [], ◌∷◌, ◌++◌, map, cond, refl, sym, ap, subst, ◌∙◌}
use Rattle.std.specs.List.{flat_map}
use Rattle.std.proofs.lemmas.List.{append-nil, map-append}
use Rattle.std.proofs.lemmas.List.Concat.{flat_map-append}
use Rattle.lmn_base.specs.declared.item.Form.{Form}
use Rattle.lmn_base.specs.declared.item.Form.TheVariants as form
use Rattle.lmn_base.specs.declared.item.Item.{Item}
use Rattle.lmn_base.specs.declared.item.Item.TheVariants as item
use Rattle.lmn_base.specs.declared.level.CtxUse.{CtxUse}
use Rattle.lmn_base.specs.declared.level.Leaf.{Leaf}
use Rattle.lmn_base.specs.declared.level.Leaf.TheVariants as leaf
use Rattle.lmn_base.specs.declared.level.Level.{Level}
use Rattle.lmn_base.specs.declared.level.Level.TheFolds.{fold-roll-Level, ind-Level}
use Rattle.lmn_base.specs.declared.refusal.Pos.{Pos}
use Rattle.lmn_base.specs.Items.{leaf_item, untyped_form, untyped}
use Rattle.lmn_base.specs.Levels as base
use Rattle.lmn_base.specs.Levels.{everywhere, rules_of, contexts_of, rule_contexts_of}
use Rattle.lmn_base_walks.specs.RuleCodes.{behind_the_first, is_bare, is_untyped, seconds, seconds_by_membrane}
use Rattle.lmn_solid_heads.proofs.HeadTrees.{Head, Heads, head, no_head, head_and, heads, head_step, head_at, head_leaves, heads_leaves, same_leaves, head_uses, heads_uses}
use Rattle.lmn_app_accepted.proofs.PlanKinds.{leaf_name}
use Rattle.lmn_base.specs.declared.level.Level.TheOpen.{Level-F}

-- ---- the names of contexts, by their form, and of rule contexts; the numbers of rules

-- the name of an untyped context, where the item is one
abbrev pub untyped_name : Item → List ℕ
untyped_name (item.Atom f p) = []
untyped_name (item.Context u) = cond (is_untyped u.form) (u.name ∷ []) []
untyped_name (item.RuleContext u) = []
untyped_name (item.Rule k) = []

abbrev pub is_closed : Form → Bool
is_closed form.Bare = false
is_closed form.Closed = true
is_closed form.Typed = false

-- the name of a closed context, where the item is one
abbrev pub closed_name : Item → List ℕ
closed_name (item.Atom f p) = []
closed_name (item.Context u) = cond (is_closed u.form) (u.name ∷ []) []
closed_name (item.RuleContext u) = []
closed_name (item.Rule k) = []

-- the name of an open context, where the item is one
abbrev pub bare_name : Item → List ℕ
bare_name (item.Atom f p) = []
bare_name (item.Context u) = cond (is_bare u.form) (u.name ∷ []) []
bare_name (item.RuleContext u) = []
bare_name (item.Rule k) = []

-- the name of a typed context, where the item is one
abbrev pub typed_name : Item → List ℕ
typed_name (item.Atom f p) = []
typed_name (item.Context u) = cond (is_untyped u.form) [] (u.name ∷ [])
typed_name (item.RuleContext u) = []
typed_name (item.Rule k) = []

-- the name of a rule context, where the item is one
abbrev pub rule_context_name : Item → List ℕ
rule_context_name (item.Atom f p) = []
rule_context_name (item.Context u) = []
rule_context_name (item.RuleContext u) = u.name ∷ []
rule_context_name (item.Rule k) = []

-- the number of a rule, where the item is one
abbrev pub rule_number : Item → List ℕ
rule_number (item.Atom f p) = []
rule_number (item.Context u) = []
rule_number (item.RuleContext u) = []
rule_number (item.Rule k) = k ∷ []

-- a question about items, of those of a level and of its membranes
module _ (f : Item → List ℕ) where
  none_of : {B : Type 0} (g : B → Item) → ((y : B) → f (g y) ≡ []) → (ys : List B) → flat_map f (map g ys) ≡ []
  none_of g h [] = refl
  none_of g h (y ∷ ys) = λ i. h y i ++ none_of g h ys i

  one_of_each : {B : Type 0} (g : B → Item) (name : B → ℕ) → ((y : B) → f (g y) ≡ name y ∷ []) → (ys : List B) → flat_map f (map g ys) ≡ map name ys
  one_of_each g name h [] = refl
  one_of_each g name h (y ∷ ys) = λ i. h y i ++ one_of_each g name h ys i

  each_of : {B : Type 0} (g : B → Item) (k : B → List ℕ) → ((y : B) → f (g y) ≡ k y) → (ys : List B) → flat_map f (map g ys) ≡ flat_map k ys
  each_of g k h [] = refl
  each_of g k h (y ∷ ys) = λ i. h y i ++ each_of g k h ys i

  sections : (a b c d rest : List Item) → flat_map f ((a ++ (b ++ (c ++ d))) ++ rest) ≡ (flat_map f a ++ (flat_map f b ++ (flat_map f c ++ flat_map f d))) ++ flat_map f rest
  sections a b c d rest =
      flat_map-append f (a ++ (b ++ (c ++ d))) rest
      ∙ ap (λ xs. xs ++ flat_map f rest) (flat_map-append f a (b ++ (c ++ d)) ∙ ap (λ xs. flat_map f a ++ xs) (flat_map-append f b (c ++ d) ∙ ap (λ xs. flat_map f b ++ xs) (flat_map-append f c d)))

-- the name of a use of an open context, and of a closed one
abbrev pub open_use : CtxUse → List ℕ
open_use u = cond u.closed [] (u.name ∷ [])

abbrev pub closed_use : CtxUse → List ℕ
closed_use u = cond u.closed (u.name ∷ []) []

untyped_here : (u : CtxUse) → untyped_name (untyped u) ≡ u.name ∷ []
untyped_here u = by u.closed
  where
    by : (closed : Bool) → cond (is_untyped (untyped_form closed)) (u.name ∷ []) [] ≡ u.name ∷ []
    by true = refl
    by false = refl

open_here : (u : CtxUse) → bare_name (untyped u) ≡ open_use u
open_here u = by u.closed
  where
    by : (closed : Bool) → cond (is_bare (untyped_form closed)) (u.name ∷ []) [] ≡ cond closed [] (u.name ∷ [])
    by true = refl
    by false = refl

closed_here : (u : CtxUse) → closed_name (untyped u) ≡ closed_use u
closed_here u = by u.closed
  where
    by : (closed : Bool) → cond (is_closed (untyped_form closed)) (u.name ∷ []) [] ≡ cond closed (u.name ∷ []) []
    by true = refl
    by false = refl

typed_nowhere : (u : CtxUse) → typed_name (untyped u) ≡ []
typed_nowhere u = by u.closed
  where
    by : (closed : Bool) → cond (is_untyped (untyped_form closed)) [] (u.name ∷ []) ≡ []
    by true = refl
    by false = refl

-- the untyped contexts among the items of a level
pub untyped_own : (ls : List Leaf) (cs os : List CtxUse) (rs : List ℕ) (rest : List Item)
    → flat_map untyped_name ((map leaf_item ls ++ (map untyped cs ++ (map item.RuleContext os ++ map item.Rule rs))) ++ rest) ≡ map (λ u. u.name) cs ++ flat_map untyped_name rest
untyped_own ls cs os rs rest =
    sections untyped_name (map leaf_item ls) (map untyped cs) (map item.RuleContext os) (map item.Rule rs) rest
    ∙ (λ i. (none_of untyped_name leaf_item leaf_none ls i ++ (one_of_each untyped_name untyped (λ u. u.name) untyped_here cs i
    ++ (none_of untyped_name item.RuleContext (λ u. refl) os i ++ none_of untyped_name item.Rule (λ k. refl) rs i))) ++ flat_map untyped_name rest)
    ∙ ap (λ xs. xs ++ flat_map untyped_name rest) (append-nil (map (λ u. u.name) cs))
  where
    leaf_none : (l : Leaf) → untyped_name (leaf_item l) ≡ []
    leaf_none (leaf.Atom f os p) = refl
    leaf_none (leaf.Typed n o p) = refl

-- the open ones
pub bare_own : (ls : List Leaf) (cs os : List CtxUse) (rs : List ℕ) (rest : List Item)
    → flat_map bare_name ((map leaf_item ls ++ (map untyped cs ++ (map item.RuleContext os ++ map item.Rule rs))) ++ rest) ≡ flat_map open_use cs ++ flat_map bare_name rest
bare_own ls cs os rs rest =
    sections bare_name (map leaf_item ls) (map untyped cs) (map item.RuleContext os) (map item.Rule rs) rest
    ∙ (λ i. (none_of bare_name leaf_item leaf_none ls i ++ (each_of bare_name untyped open_use open_here cs i
    ++ (none_of bare_name item.RuleContext (λ u. refl) os i ++ none_of bare_name item.Rule (λ k. refl) rs i))) ++ flat_map bare_name rest)
    ∙ ap (λ xs. xs ++ flat_map bare_name rest) (append-nil (flat_map open_use cs))
  where
    leaf_none : (l : Leaf) → bare_name (leaf_item l) ≡ []
    leaf_none (leaf.Atom f os p) = refl
    leaf_none (leaf.Typed n o p) = refl

-- the closed ones
pub closed_own : (ls : List Leaf) (cs os : List CtxUse) (rs : List ℕ) (rest : List Item)
    → flat_map closed_name ((map leaf_item ls ++ (map untyped cs ++ (map item.RuleContext os ++ map item.Rule rs))) ++ rest) ≡ flat_map closed_use cs ++ flat_map closed_name rest
closed_own ls cs os rs rest =
    sections closed_name (map leaf_item ls) (map untyped cs) (map item.RuleContext os) (map item.Rule rs) rest
    ∙ (λ i. (none_of closed_name leaf_item leaf_none ls i ++ (each_of closed_name untyped closed_use closed_here cs i
    ++ (none_of closed_name item.RuleContext (λ u. refl) os i ++ none_of closed_name item.Rule (λ k. refl) rs i))) ++ flat_map closed_name rest)
    ∙ ap (λ xs. xs ++ flat_map closed_name rest) (append-nil (flat_map closed_use cs))
  where
    leaf_none : (l : Leaf) → closed_name (leaf_item l) ≡ []
    leaf_none (leaf.Atom f os p) = refl
    leaf_none (leaf.Typed n o p) = refl

-- and its rule contexts
pub rule_context_own : (ls : List Leaf) (cs os : List CtxUse) (rs : List ℕ) (rest : List Item)
    → flat_map rule_context_name ((map leaf_item ls ++ (map untyped cs ++ (map item.RuleContext os ++ map item.Rule rs))) ++ rest) ≡ map (λ u. u.name) os ++ flat_map rule_context_name rest
rule_context_own ls cs os rs rest =
    sections rule_context_name (map leaf_item ls) (map untyped cs) (map item.RuleContext os) (map item.Rule rs) rest
    ∙ (λ i. (none_of rule_context_name leaf_item leaf_none ls i ++ (none_of rule_context_name untyped (λ u. refl) cs i
    ++ (one_of_each rule_context_name item.RuleContext (λ u. u.name) (λ u. refl) os i ++ none_of rule_context_name item.Rule (λ k. refl) rs i))) ++ flat_map rule_context_name rest)
    ∙ ap (λ xs. xs ++ flat_map rule_context_name rest) (append-nil (map (λ u. u.name) os))
  where
    leaf_none : (l : Leaf) → rule_context_name (leaf_item l) ≡ []
    leaf_none (leaf.Atom f os p) = refl
    leaf_none (leaf.Typed n o p) = refl

-- and its typed contexts
pub typed_own : (ls : List Leaf) (cs os : List CtxUse) (rs : List ℕ) (rest : List Item)
    → flat_map typed_name ((map leaf_item ls ++ (map untyped cs ++ (map item.RuleContext os ++ map item.Rule rs))) ++ rest) ≡ flat_map typed_name (map leaf_item ls) ++ flat_map typed_name rest
typed_own ls cs os rs rest =
    sections typed_name (map leaf_item ls) (map untyped cs) (map item.RuleContext os) (map item.Rule rs) rest
    ∙ (λ i. (flat_map typed_name (map leaf_item ls) ++ (none_of typed_name untyped typed_nowhere cs i
    ++ (none_of typed_name item.RuleContext (λ u. refl) os i ++ none_of typed_name item.Rule (λ k. refl) rs i))) ++ flat_map typed_name rest)
    ∙ ap (λ xs. xs ++ flat_map typed_name rest) (append-nil (flat_map typed_name (map leaf_item ls)))

-- and its rules
pub rule_own : (ls : List Leaf) (cs os : List CtxUse) (rs : List ℕ) (rest : List Item)
    → flat_map rule_number ((map leaf_item ls ++ (map untyped cs ++ (map item.RuleContext os ++ map item.Rule rs))) ++ rest) ≡ rs ++ flat_map rule_number rest
rule_own ls cs os rs rest =
    sections rule_number (map leaf_item ls) (map untyped cs) (map item.RuleContext os) (map item.Rule rs) rest
    ∙ (λ i. (none_of rule_number leaf_item leaf_none ls i ++ (none_of rule_number untyped (λ u. refl) cs i
    ++ (none_of rule_number item.RuleContext (λ u. refl) os i ++ numbers rs i))) ++ flat_map rule_number rest)
  where
    leaf_none : (l : Leaf) → rule_number (leaf_item l) ≡ []
    leaf_none (leaf.Atom f os p) = refl
    leaf_none (leaf.Typed n o p) = refl

    numbers : (ks : List ℕ) → flat_map rule_number (map item.Rule ks) ≡ ks
    numbers [] = refl
    numbers (k ∷ ks) = ap (λ ns. k ∷ ns) (numbers ks)

-- ---- what is gathered of a level and of its membranes

module _ {X : Type 0} (own : List Leaf → List CtxUse → List CtxUse → List ℕ → List X) where
  abbrev mutual
    pub gathered : Head → List X
    gathered (head ls hs cs os rs) = own ls cs os rs ++ gathered_in hs

    pub gathered_in : Heads → List X
    gathered_in no_head = []
    gathered_in (head_and h hs) = gathered h ++ gathered_in hs

  module _ (here : Level-F (List X) → List X) (is : (l : Level-F (List X)) → here l ≡ own l.leaves l.contexts l.rule_contexts l.rules) where
    abbrev SameGathered : Level → Type 0
    SameGathered l = everywhere here l ≡ gathered (head_at l)

    inside_gathered : (ls : List ((l : Level) × SameGathered l))
        → flat_map (λ inner. inner) (map (everywhere here) (map (λ e. e.0) ls)) ≡ gathered_in (heads (map head_at (map (λ e. e.0) ls)))
    inside_gathered [] = refl
    inside_gathered (e ∷ ls) = λ i. e.1 i ++ inside_gathered ls i

    pub same_gathered : (l : Level) → SameGathered l
    same_gathered = ind-Level SameGathered (λ y z is_z.
        let inside = subst (λ l. flat_map (λ inner. inner) (map (everywhere here) l.membranes) ≡ gathered_in (heads (map head_at l.membranes))) is_z (inside_gathered z.membranes) in
        rw (fold-roll-Level (List X) (λ l. here l ++ flat_map (λ inner. inner) l.membranes) y, fold-roll-Level Head head_step y, inside)
        (ap (λ xs. xs ++ gathered_in (heads (map head_at y.membranes))) (is _)))

    pub all_gathered : (ls : List Level) → flat_map (everywhere here) ls ≡ gathered_in (heads (map head_at ls))
    all_gathered [] = refl
    all_gathered (l ∷ ls) = λ i. same_gathered l i ++ all_gathered ls i

-- the second contexts of a level itself
abbrev pub own_seconds : List Leaf → List CtxUse → List CtxUse → List ℕ → List (List Pos)
own_seconds ls cs os rs = (behind_the_first cs ++ behind_the_first os) ∷ []

-- the places of all but the first contexts of one kind, membrane by membrane
pub all_seconds : (ls : List Level) → flat_map seconds_by_membrane ls ≡ gathered_in own_seconds (heads (map head_at ls))
all_seconds = all_gathered own_seconds (λ l. seconds l ∷ []) (λ l. refl)

abbrev the_contexts : List Leaf → List CtxUse → List CtxUse → List ℕ → List CtxUse
the_contexts ls cs os rs = cs

abbrev the_rule_contexts : List Leaf → List CtxUse → List CtxUse → List ℕ → List CtxUse
the_rule_contexts ls cs os rs = os

abbrev the_rules : List Leaf → List CtxUse → List CtxUse → List ℕ → List ℕ
the_rules ls cs os rs = rs

mutual
  untyped_used : (h : Head) → flat_map untyped_name (head_uses h) ≡ map (λ u. u.name) (gathered the_contexts h)
  untyped_used (head ls hs cs os rs) = untyped_own ls cs os rs (heads_uses hs) ∙ ap (λ ns. map (λ u. u.name) cs ++ ns) (all_untyped_used hs) ∙ sym (map-append (λ u. u.name) cs (gathered_in the_contexts hs))

  all_untyped_used : (hs : Heads) → flat_map untyped_name (heads_uses hs) ≡ map (λ u. u.name) (gathered_in the_contexts hs)
  all_untyped_used no_head = refl
  all_untyped_used (head_and h hs) =
      flat_map-append untyped_name (head_uses h) (heads_uses hs) ∙ (λ i. untyped_used h i ++ all_untyped_used hs i) ∙ sym (map-append (λ u. u.name) (gathered the_contexts h) (gathered_in the_contexts hs))

mutual
  rule_contexts_used : (h : Head) → flat_map rule_context_name (head_uses h) ≡ map (λ u. u.name) (gathered the_rule_contexts h)
  rule_contexts_used (head ls hs cs os rs) =
      rule_context_own ls cs os rs (heads_uses hs) ∙ ap (λ ns. map (λ u. u.name) os ++ ns) (all_rule_contexts_used hs) ∙ sym (map-append (λ u. u.name) os (gathered_in the_rule_contexts hs))

  all_rule_contexts_used : (hs : Heads) → flat_map rule_context_name (heads_uses hs) ≡ map (λ u. u.name) (gathered_in the_rule_contexts hs)
  all_rule_contexts_used no_head = refl
  all_rule_contexts_used (head_and h hs) =
      flat_map-append rule_context_name (head_uses h) (heads_uses hs) ∙ (λ i. rule_contexts_used h i ++ all_rule_contexts_used hs i)
      ∙ sym (map-append (λ u. u.name) (gathered the_rule_contexts h) (gathered_in the_rule_contexts hs))

mutual
  rules_used : (h : Head) → flat_map rule_number (head_uses h) ≡ gathered the_rules h
  rules_used (head ls hs cs os rs) = rule_own ls cs os rs (heads_uses hs) ∙ ap (λ ks. rs ++ ks) (all_rules_used hs)

  all_rules_used : (hs : Heads) → flat_map rule_number (heads_uses hs) ≡ gathered_in the_rules hs
  all_rules_used no_head = refl
  all_rules_used (head_and h hs) = flat_map-append rule_number (head_uses h) (heads_uses hs) ∙ (λ i. rules_used h i ++ all_rules_used hs i)

leaf_typed : (ls : List Leaf) → flat_map typed_name (map leaf_item ls) ≡ flat_map leaf_name ls
leaf_typed [] = refl
leaf_typed (leaf.Atom f os p ∷ ls) = leaf_typed ls
leaf_typed (leaf.Typed n o p ∷ ls) = ap (λ ns. n ∷ ns) (leaf_typed ls)

mutual
  typed_used : (h : Head) → flat_map typed_name (head_uses h) ≡ flat_map leaf_name (head_leaves h)
  typed_used (head ls hs cs os rs) = typed_own ls cs os rs (heads_uses hs) ∙ (λ i. leaf_typed ls i ++ all_typed_used hs i) ∙ sym (flat_map-append leaf_name ls (heads_leaves hs))

  all_typed_used : (hs : Heads) → flat_map typed_name (heads_uses hs) ≡ flat_map leaf_name (heads_leaves hs)
  all_typed_used no_head = refl
  all_typed_used (head_and h hs) =
      flat_map-append typed_name (head_uses h) (heads_uses hs) ∙ (λ i. typed_used h i ++ all_typed_used hs i) ∙ sym (flat_map-append leaf_name (head_leaves h) (heads_leaves hs))

-- the rules, the contexts and the typed contexts of a level are those among its items
pub rules_are : (l : Level) → rules_of l ≡ flat_map rule_number (head_uses (head_at l))
rules_are l = same_gathered the_rules (λ l. l.rules) (λ l. refl) l ∙ sym (rules_used (head_at l))

-- the contexts of a level are the untyped ones of its head
pub contexts_are : (l : Level) → map (λ u. u.name) (contexts_of l) ≡ flat_map untyped_name (head_uses (head_at l))
contexts_are l = ap (map (λ u. u.name)) (same_gathered the_contexts (λ l. l.contexts) (λ l. refl) l) ∙ sym (untyped_used (head_at l))

-- and so are its rule contexts
pub rule_contexts_are : (l : Level) → map (λ u. u.name) (rule_contexts_of l) ≡ flat_map rule_context_name (head_uses (head_at l))
rule_contexts_are l = ap (map (λ u. u.name)) (same_gathered the_rule_contexts (λ l. l.rule_contexts) (λ l. refl) l) ∙ sym (rule_contexts_used (head_at l))

-- and its typed contexts
pub typed_are : (l : Level) → flat_map leaf_name (base.leaves_of l) ≡ flat_map typed_name (head_uses (head_at l))
typed_are l = ap (flat_map leaf_name) (same_leaves l) ∙ sym (typed_used (head_at l))
