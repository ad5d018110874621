-- Contents that are those of the heap are what the levels of a body ask.
use Rattle.std.proofs.Common.{ℕ, ◌≡◌, ◌+◌, List, [], ◌∷◌, ◌++◌, map, length, Option, Some, None, refl, subst}
use Rattle.std.specs.Prelude.{Bool, true, false, Contains}
use Rattle.std.specs.List.{flat_map}
use Rattle.std.proofs.lemmas.List.Elements.{Contains-append_left, Contains-append_right}
use Rattle.lmn_base.specs.declared.functor.Functor.{Functor}
use Rattle.lmn_base.specs.declared.level.CtxUse.{CtxUse}
use Rattle.lmn_base.specs.declared.level.Leaf.{Leaf}
use Rattle.lmn_base.specs.declared.level.Leaf.TheVariants as leaf
use Rattle.lmn_base.specs.declared.level.Level.{Level}
use Rattle.lmn_base.specs.declared.level.Level.TheFolds.{fold-roll-Level, ind-Level}
use Rattle.lmn_base.specs.Levels.{contexts_of, rule_contexts_of}
use Rattle.lmn_base.specs.Solids.{connector}
use Rattle.lmn_store_heap.specs.Functors.{same_functor}
use Rattle.lmn_store_heap.specs.Heap.{Heap, rules_in}
use Rattle.lmn_base.specs.declared.level.Occ.{Occ}
use Rattle.lmn_base.specs.declared.refusal.Pos.{Pos}
use Rattle.lmn_congruence.specs.Translation.{name_of}
use Rattle.lmn_adequacy_turns.proofs.Adders.{at, past, EachRest, rests_in_row}
use Rattle.lmn_solid_bodies.specs.RestCopies.{RestCopy, RestCopies}
use Rattle.lmn_adequacy_turns.proofs.EachCopy.{EachCopy, each_both}
use Rattle.lmn_adequacy_turns.proofs.Locals.{after_leaves, after_level, leaves_past, level_past, next_copy, next_closed, closed_after_level, closed_after_levels, leaves_closed, level_closed, levels_closed}
use Rattle.lmn_congruence.specs.Regions as region
use Rattle.lmn_reduction.specs.Parts.{IsInteger}
use Rattle.lmn_base.specs.declared.solid.SolidAtom.{SolidAtom}
use Rattle.lmn_adequacy.specs.Embedding.{Contents}
use Rattle.lmn_solid_heads.proofs.HeadTrees.{Head, Heads, head, no_head, head_and, heads, head_step, head_at, head_leaves, heads_leaves, size}
use Rattle.lmn_solid_bodies.specs.declared.items.BodyItem.{BodyItem}
use Rattle.lmn_solid_bodies.specs.declared.items.BodyItem.TheVariants.{Rest}
use Rattle.lmn_solid_bodies.specs.Flattening.{BodyNames, atom_item, typed_item, body_leaf_items, context_items, body_rule_items, rule_context_items}
use Rattle.lmn_solid_bodies.specs.Running.{Registers}
use Rattle.lmn_adequacy_heaps.specs.HeapRegions.{HeapReading}
use Rattle.lmn_compile_body.proofs.BodyTrees.{flat_body, flat_bodies}
use Rattle.lmn_adequacy_turns.proofs.Bodies.{AgreesAs, CopiedAgrees, CopyAgrees, TypedAgrees, LeavesAgree, ContextAgrees, ContextsAgree, RuleContextsAgree, BodyAgrees, BodiesAgree}
use Rattle.lmn_adequacy_turns.proofs.Connectors.{Fit, AllFit, AllFitIn}
use Rattle.lmn_base.proofs.Lists.{contains_behind as later_is, contains_first as first_is}

-- ---- the contexts of a level, at every depth

abbrev mutual
  pub head_contexts : Head → List CtxUse
  head_contexts (head leaves hs cs rcs rs) = cs ++ heads_contexts hs

  pub heads_contexts : Heads → List CtxUse
  heads_contexts no_head = []
  heads_contexts (head_and h hs) = head_contexts h ++ heads_contexts hs

abbrev mutual
  pub head_rule_contexts : Head → List CtxUse
  head_rule_contexts (head leaves hs cs rcs rs) = rcs ++ heads_rule_contexts hs

  pub heads_rule_contexts : Heads → List CtxUse
  heads_rule_contexts no_head = []
  heads_rule_contexts (head_and h hs) = head_rule_contexts h ++ heads_rule_contexts hs

abbrev SameContexts : Level → Type 0
SameContexts l = contexts_of l ≡ head_contexts (head_at l)

inside_contexts : (ls : List ((l : Level) × SameContexts l)) → flat_map (λ inner. inner) (map contexts_of (map (λ e. e.0) ls)) ≡ heads_contexts (heads (map head_at (map (λ e. e.0) ls)))
inside_contexts [] = refl
inside_contexts (e ∷ ls) = λ i. e.1 i ++ inside_contexts ls i

-- the contexts of a level are those of its head
pub same_contexts : (l : Level) → contexts_of l ≡ head_contexts (head_at l)
same_contexts = ind-Level SameContexts (λ y z is.
    let inside = subst (λ l. flat_map (λ inner. inner) (map contexts_of l.membranes) ≡ heads_contexts (heads (map head_at l.membranes))) is (inside_contexts z.membranes) in
    rw (fold-roll-Level (List CtxUse) (λ l. l.contexts ++ flat_map (λ inner. inner) l.membranes) y, fold-roll-Level Head head_step y, inside) refl)

abbrev SameRuleContexts : Level → Type 0
SameRuleContexts l = rule_contexts_of l ≡ head_rule_contexts (head_at l)

inside_rule_contexts : (ls : List ((l : Level) × SameRuleContexts l)) → flat_map (λ inner. inner) (map rule_contexts_of (map (λ e. e.0) ls)) ≡ heads_rule_contexts (heads (map head_at (map (λ e. e.0) ls)))
inside_rule_contexts [] = refl
inside_rule_contexts (e ∷ ls) = λ i. e.1 i ++ inside_rule_contexts ls i

-- and so are its rule contexts
pub same_rule_contexts : (l : Level) → rule_contexts_of l ≡ head_rule_contexts (head_at l)
same_rule_contexts = ind-Level SameRuleContexts (λ y z is.
    let inside = subst (λ l. flat_map (λ inner. inner) (map rule_contexts_of l.membranes) ≡ heads_rule_contexts (heads (map head_at l.membranes))) is (inside_rule_contexts z.membranes) in
    rw (fold-roll-Level (List CtxUse) (λ l. l.rule_contexts ++ flat_map (λ inner. inner) l.membranes) y, fold-roll-Level Head head_step y, inside) refl)

-- ---- what holds of each element

module _ (h h' : Heap) (r r' : HeapReading) (s : Registers) (bn : BodyNames) (c : Contents) (left : ℕ → List SolidAtom) (left_mems : ℕ → List ℕ) (to : ℕ → ℕ) (limit : ℕ) (copy : ℕ → List SolidAtom) (part : ℕ → ℕ → List region.SolidAtom) (q : RestCopies) (rest : ℕ → ℕ → RestCopy → ℕ → List SolidAtom) where
  abbrev OfRules : CtxUse → Type 0
  OfRules u = c.rules_of (name_of r.names u.name) ≡ map r.rule (rules_in h (at s (bn.rule_context u.name)))

  rule_contexts_agree : (us : List CtxUse) → ((u : CtxUse) → Contains us u → OfRules u) → RuleContextsAgree h h' r r' s bn c left left_mems to limit copy part q rest us
  rule_contexts_agree [] a = tt
  rule_contexts_agree (u ∷ us) a = (a u (first_is u us), rule_contexts_agree us (λ k w. a k (later_is u us k w)))

  module _ (P C : ℕ → ℕ → ℕ → Type 0) where
    -- An atom fits its arity. A name that the guard binds stands for its integer. For one of the head, what is known of a copy says
    -- that the raw atoms agree.
    abbrev pub LeafFits : Leaf → Type 0
    LeafFits (leaf.Atom f os p) = length os ≡ f.arity
    LeafFits (leaf.Typed n o p) =
        (bn.part n ≡ None → IsInteger (s.head.integer (bn.integer n)) (c.typed_of (name_of r.names n)))
        × ((k g x : ℕ) → bn.part n ≡ Some g → P k g x → CopyAgrees h h' r r' s bn c left left_mems to limit copy part q rest k n x)

    atom_each : (b : Bool) (f : Functor) (ys : List ℕ) (inside k : ℕ) (xs : List BodyItem) → EachCopy P k (atom_item b f ys inside ∷ xs) → EachCopy P k xs
    atom_each true f [] inside k xs e = e
    atom_each true f (a ∷ []) inside k xs e = e
    atom_each true f (a ∷ (b ∷ [])) inside k xs e = e
    atom_each true f (a ∷ (b ∷ (d ∷ ys))) inside k xs e = e
    atom_each false f ys inside k xs e = e

    typed_each : (o : Option ℕ) (n x : ℕ) (occ : Occ) (p : Pos) (inside k : ℕ) (xs : List BodyItem) → bn.part n ≡ o → LeafFits (leaf.Typed n occ p) → EachCopy P k (typed_item o (bn.integer n) x inside ∷ xs) →
        TypedAgrees h h' r r' s bn c left left_mems to limit copy part q rest o k n x × EachCopy P (next_copy o k) xs
    typed_each (Some g) n x occ p inside k xs i fits e = (fits.1 k g x i e.0, e.1)
    typed_each None n x occ p inside k xs i fits e = (fits.0 i, e)

    leaves_agree : (inside k : ℕ) (ls : List Leaf) → ((l : Leaf) → Contains ls l → LeafFits l) → EachCopy P k (body_leaf_items bn inside ls) → LeavesAgree h h' r r' s bn c left left_mems to limit copy part q rest k ls
    leaves_agree inside k [] a e = tt
    leaves_agree inside k (leaf.Atom f os p ∷ ls) a e = (
      a (leaf.Atom f os p) (first_is (leaf.Atom f os p) ls),
      leaves_agree inside k ls (λ l w. a l (later_is (leaf.Atom f os p) ls l w)) (atom_each (same_functor f connector) f (map (λ o. o.link) os) inside k (body_leaf_items bn inside ls) e),
    )
    leaves_agree inside k (leaf.Typed n o p ∷ ls) a e =
        let u = typed_each (bn.part n) n o.link o p inside k (body_leaf_items bn inside ls) refl (a (leaf.Typed n o p) (first_is (leaf.Typed n o p) ls)) e in
        (u.0, leaves_agree inside (next_copy (bn.part n) k) ls (λ l w. a l (later_is (leaf.Typed n o p) ls l w)) u.1)

    -- An open context stands for what is left of its membrane. For a closed one, what is known of a copy of its rest says that the copy
    -- agrees.
    pub record ContextFits (u : CtxUse) : Type 0 where
      pub as_open : u.closed ≡ false → ContextAgrees h h' r r' s bn c left left_mems to limit copy part q rest u
      pub as_closed : u.closed ≡ true → (count inside : ℕ) → C count (bn.context u.name) inside → CopiedAgrees h h' r r' s bn c left left_mems to limit copy part q rest count inside u

    context_each : (b : Bool) (count inside : ℕ) (u : CtxUse) (xs : List BodyItem) → u.closed ≡ b → ContextFits u → EachRest C count (Rest (bn.context u.name) b inside ∷ xs) →
        AgreesAs h h' r r' s bn c left left_mems to limit copy part q rest b count inside u × EachRest C (next_closed b count) xs
    context_each true count inside u xs i fits e = (fits.as_closed i count inside e.0, e.1)
    context_each false count inside u xs i fits e = (fits.as_open i, e)

    contexts_agree : (count inside : ℕ) (us : List CtxUse) → ((u : CtxUse) → Contains us u → ContextFits u) → EachRest C count (context_items bn inside us) → ContextsAgree h h' r r' s bn c left left_mems to limit copy part q rest count inside us
    contexts_agree count inside [] a e = tt
    contexts_agree count inside (u ∷ us) a e =
        let w = context_each u.closed count inside u (context_items bn inside us) refl (a u (first_is u us)) e in
        (w.0, contexts_agree (next_closed u.closed count) inside us (λ k v. a k (later_is u us k v)) w.1)

    mutual
      -- so it is at every depth
      pub body_agrees : (inside next k count : ℕ) (hd : Head) → ((l : Leaf) → Contains (head_leaves hd) l → LeafFits l) → ((u : CtxUse) → Contains (head_contexts hd) u → ContextFits u) →
          ((u : CtxUse) → Contains (head_rule_contexts hd) u → c.rules_of (name_of r.names u.name) ≡ map r.rule (rules_in h (at s (bn.rule_context u.name)))) →
          EachCopy P k (flat_body bn inside next hd) → EachRest C count (flat_body bn inside next hd) → BodyAgrees h h' r r' s bn c left left_mems to limit copy part q rest inside next k count hd
      body_agrees inside next k count (head leaves hs cs rcs rs) a b d e g =
          let L = body_leaf_items bn inside leaves in
          let D = flat_bodies bn inside next hs in
          let V = context_items bn inside cs in
          let W = body_rule_items inside rs ++ rule_context_items bn inside rcs in
          let u = each_both P k L (D ++ (V ++ W)) e in
          let v = each_both P (past k L) D (V ++ W) u.1 in
          let x = rests_in_row C count D (V ++ W) (subst (λ z. EachRest C z (D ++ (V ++ W))) (leaves_closed bn inside count leaves) (rests_in_row C count L (D ++ (V ++ W)) g).1) in
          let y = rests_in_row C (closed_after_levels count hs) V W (subst (λ z. EachRest C z (V ++ W)) (levels_closed bn inside next count hs) x.1) in (
            leaves_agree inside k leaves (λ l w. a l (Contains-append_left leaves (heads_leaves hs) l w)) u.0,
            contexts_agree (closed_after_levels count hs) inside cs (λ u w. b u (Contains-append_left cs (heads_contexts hs) u w)) y.0,
            rule_contexts_agree rcs (λ u w. d u (Contains-append_left rcs (heads_rule_contexts hs) u w)),
            bodies_agree inside next (after_leaves bn k leaves) count hs (λ l w. a l (Contains-append_right leaves (heads_leaves hs) l w)) (λ u w. b u (Contains-append_right cs (heads_contexts hs) u w))
                (λ u w. d u (Contains-append_right rcs (heads_rule_contexts hs) u w)) (subst (λ z. EachCopy P z D) (leaves_past bn inside k leaves) v.0) x.0,
          )

      bodies_agree : (inside next k count : ℕ) (hs : Heads) → ((l : Leaf) → Contains (heads_leaves hs) l → LeafFits l) → ((u : CtxUse) → Contains (heads_contexts hs) u → ContextFits u) →
          ((u : CtxUse) → Contains (heads_rule_contexts hs) u → c.rules_of (name_of r.names u.name) ≡ map r.rule (rules_in h (at s (bn.rule_context u.name)))) →
          EachCopy P k (flat_bodies bn inside next hs) → EachRest C count (flat_bodies bn inside next hs) → BodiesAgree h h' r r' s bn c left left_mems to limit copy part q rest next k count hs
      bodies_agree inside next k count no_head a b d e g = tt
      bodies_agree inside next k count (head_and hd hs) a b d e g =
          let inner = flat_body bn next (next + 1) hd in
          let behind = flat_bodies bn inside (next + 1 + size hd) hs in
          let x = rests_in_row C count inner behind g in
          let u = each_both P k inner behind e in (
            body_agrees next (next + 1) k count hd (λ l w. a l (Contains-append_left (head_leaves hd) (heads_leaves hs) l w)) (λ u w. b u (Contains-append_left (head_contexts hd) (heads_contexts hs) u w))
                (λ u w. d u (Contains-append_left (head_rule_contexts hd) (heads_rule_contexts hs) u w)) u.0 x.0,
            bodies_agree inside (next + 1 + size hd) (after_level bn k hd) (closed_after_level count hd) hs (λ l w. a l (Contains-append_right (head_leaves hd) (heads_leaves hs) l w))
                (λ u w. b u (Contains-append_right (head_contexts hd) (heads_contexts hs) u w)) (λ u w. d u (Contains-append_right (head_rule_contexts hd) (heads_rule_contexts hs) u w))
                (subst (λ z. EachCopy P z behind) (level_past bn next (next + 1) k hd) u.1) (subst (λ z. EachRest C z behind) (level_closed bn next (next + 1) count hd) x.1),
          )

  fit_leaves : (k : ℕ) (ls : List Leaf) → LeavesAgree h h' r r' s bn c left left_mems to limit copy part q rest k ls → Fit r.names r.rule bn c to ls
  fit_leaves k [] a = tt
  fit_leaves k (leaf.Atom f os p ∷ ls) a = (a.0, fit_leaves k ls a.1)
  fit_leaves k (leaf.Typed n o p ∷ ls) a = fit_leaves (next_copy (bn.part n) k) ls a.1

  mutual
    pub all_fit : (inside next k count : ℕ) (hd : Head) → BodyAgrees h h' r r' s bn c left left_mems to limit copy part q rest inside next k count hd → AllFit r.names r.rule bn c to hd
    all_fit inside next k count (head leaves hs cs rcs rs) a = (fit_leaves k leaves a.0, all_fit_in next (after_leaves bn k leaves) count hs a.3)

    all_fit_in : (next k count : ℕ) (hs : Heads) → BodiesAgree h h' r r' s bn c left left_mems to limit copy part q rest next k count hs → AllFitIn r.names r.rule bn c to hs
    all_fit_in next k count no_head a = tt
    all_fit_in next k count (head_and hd hs) a = (all_fit next (next + 1) k count hd a.0, all_fit_in (next + 1 + size hd) (after_level bn k hd) (closed_after_level count hd) hs a.1)
