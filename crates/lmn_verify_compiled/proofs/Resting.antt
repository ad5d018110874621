-- Behind what it takes out, the code of a body makes, then drops, then ties, and then ends.
use Rattle.std.proofs.Common.{◌≡◌, ◌<◌, ◌≤◌, ◌+◌, ◌==◌, ◌&&◌, ◌||◌, not, ℕ, Bool, true, false, if◌then◌else◌, List, [], ◌∷◌, ◌++◌, length, map, drop, inl, inr, refl, sym, ap, ◌∙◌, arith, true≢false}
use Rattle.std.specs.Prelude.{nat_lt}
use Rattle.std.specs.List.{AllByRecursion}
use Rattle.std.proofs.lemmas.Bool.{lt-ltb, le-leb}
use Rattle.std.proofs.lemmas.List.{append_assoc, length-append, length-map}
use Rattle.std.proofs.Math.Seq.{drop-append_seam}
use Rattle.lmn_base.specs.Solids.{connector}
use Rattle.lmn_base.proofs.Lists.{get_below}
use Rattle.lmn_store_heap.specs.Functors.{same_functor}
use Rattle.lmn_store_heap.proofs.WithFunctor.{functor_is}
use Rattle.lmn_solid_heads.specs.declared.items.HeadItem.{HeadItem}
use Rattle.lmn_solid_heads.specs.Heads.{HeadMembrane, atoms_of, typed_contexts_of, membranes_of, at_atoms, links_of_head}
use Rattle.lmn_congruence_splice.specs.Classes.{class_of, ends_of_class, rising}
use Rattle.lmn_congruence_splice.specs.Splice.{IsOneOf}
use Rattle.lmn_instr_code.specs.declared.instr.AtomPort.{AtomPort}
use Rattle.lmn_instr_code.specs.declared.instr.NewPort.{NewPort}
use Rattle.lmn_instr_code.specs.declared.instr.Instr.{Instr}
use Rattle.lmn_instr_code.specs.declared.instr.Instr.TheVariants.{RemoveAtom, RemovePart, RemoveMem, NewAtom, NewInt, NewMem, CopyGround, MoveCells, CopyCells, LoadRule, CopyRules, DropCells, NewLink, Relink, Unify, Proceed}
use Rattle.lmn_solid_bodies.specs.declared.items.BodyItem.{BodyItem}
use Rattle.lmn_solid_bodies.specs.declared.items.BodyItem.TheVariants.{Atom, Connector, Copy, Bound, Membrane, Rest, Rule, Rules}
use Rattle.lmn_solid_bodies.specs.Code.{removals, making, drops, link_code, links_code, body_code}
use Rattle.lmn_solid_bodies.specs.Items.{new_ports, new_ports_from, old_ports, connectors, AllMade}
use Rattle.lmn_solid_bodies.specs.Rules.{NestedRule, WellPlaced, StandsIn, IsHeadMembrane}
use Rattle.lmn_solid_bodies.proofs.HeadPorts.{once_in_of, at_atoms_in}
use Rattle.lmn_schedule_strategy.proofs.BodyInstructions.{HasRules}
use Rattle.lmn_verify_code.specs.Verified.{is_open, is_removed, is_made, makes, makes_and_ties, drops_and_ties, ties_and_ends}
use Rattle.lmn_verify_code.specs.Verified as verified
use Rattle.lmn_verify_compiled.proofs.BodyShapes.{makes_none, dropped, tied}
use Rattle.lmn_verify_code.proofs.Deciding.{length_rising as rising_length}

-- ---- what is made

open_place : (k m inside : ℕ) → StandsIn k m inside → is_open (1 + k) inside ≡ true
open_place k m inside (inl e) = ap (λ x. is_open (1 + k) x) e
open_place k m inside (inr w) = let b = w.0 in ap (λ t. (inside == 0) || t) (le-leb (1 + k) inside (omega (arith, b))) ∙ either_true (inside == 0)
  where
    either_true : (b : Bool) → (b || true) ≡ true
    either_true true = refl
    either_true false = refl

removed_place : (k of : ℕ) → IsHeadMembrane k of → is_removed (1 + k) of ≡ true
removed_place k of w = let e = w.1 in let b = w.2 in λ i. lt-ltb 0 of (omega (arith, e)) i && lt-ltb of (1 + k) (omega (arith, e, b)) i

no_connector : (b : Bool) → (b ≡ true → ⊥) → not b ≡ true
no_connector true h = absurd (h refl)
no_connector false h = refl

makes_more : (h k a : ℕ) (i : Instr) (is : List Instr) → makes h k i ≡ true → makes_and_ties h k a is ≡ true → makes_and_ties h k a (i ∷ is) ≡ true
makes_more h k a i is e r = ap (λ b. if b then makes_and_ties h k a is else drops_and_ties h a (i ∷ is)) e ∙ r

-- what the items of a body make goes into membranes that stay and out of such that are taken out
making_makes : (n k a0 a m c : ℕ) (body : List BodyItem) (ys : List Instr) → WellPlaced n m body → AllMade body → HasRules (λ j. j < k) body → makes_and_ties (1 + n) k a0 ys ≡ true
    → makes_and_ties (1 + n) k a0 (making a m c body ++ ys) ≡ true
making_makes n k a0 a m c [] ys p w r h = h
making_makes n k a0 a m c (Atom functor links inside ∷ xs) ys p w r h =
    let told = no_connector (same_functor functor connector) (λ e. w.0.1 (functor_is functor connector e)) in
    makes_more (1 + n) k a0 (NewAtom a inside functor) (making (a + 1) m c xs ++ ys) (λ i. open_place n m inside p.0 i && told i) (making_makes n k a0 (a + 1) m c xs ys p.1 w.1 r h)
making_makes n k a0 a m c (Connector left right ∷ xs) ys p w r h = making_makes n k a0 a m c xs ys p w.1 r h
making_makes n k a0 a m c (Copy part link inside ∷ xs) ys p w r h = makes_more (1 + n) k a0 (CopyGround c inside part) (making a m (c + 1) xs ++ ys) (open_place n m inside p.0) (making_makes n k a0 a m (c + 1) xs ys p.1 w.1 r h)
making_makes n k a0 a m c (Bound integer link inside ∷ xs) ys p w r h = makes_more (1 + n) k a0 (NewInt a inside integer) (making (a + 1) m c xs ++ ys) (open_place n m inside p.0) (making_makes n k a0 (a + 1) m c xs ys p.1 w.1 r h)
making_makes n k a0 a m c (Membrane inside ∷ xs) ys p w r h = makes_more (1 + n) k a0 (NewMem m inside) (making a (m + 1) c xs ++ ys) (open_place n m inside p.0) (making_makes n k a0 a (m + 1) c xs ys p.1 w.1 r h)
making_makes n k a0 a m c (Rest of false inside ∷ xs) ys p w r h =
    makes_more (1 + n) k a0 (MoveCells of inside) (making a m c xs ++ ys) (λ i. removed_place n of p.0 i && open_place n m inside p.2 i) (making_makes n k a0 a m c xs ys p.3 w.1 r h)
making_makes n k a0 a m c (Rest of true inside ∷ xs) ys p w r h =
    makes_more (1 + n) k a0 (CopyCells of inside) (making a m c xs ++ ys) (λ i. removed_place n of p.0 i && open_place n m inside p.1 i) (making_makes n k a0 a m c xs ys p.2 w.1 r h)
making_makes n k a0 a m c (Rule rule inside ∷ xs) ys p w r h =
    makes_more (1 + n) k a0 (LoadRule inside rule) (making a m c xs ++ ys) (λ i. open_place n m inside p.0 i && lt-ltb rule k r.0 i) (making_makes n k a0 a m c xs ys p.1 w.1 r.1 h)
making_makes n k a0 a m c (Rules of inside ∷ xs) ys p w r h =
    makes_more (1 + n) k a0 (CopyRules of inside) (making a m c xs ++ ys) (λ i. removed_place n of p.0 i && open_place n m inside p.1 i) (making_makes n k a0 a m c xs ys p.2 w.1 r h)

-- ---- what is dropped, and what is tied

not_making : (h k : ℕ) (i : Instr) → makes_none i ≡ true → makes h k i ≡ false
not_making h k (RemoveAtom _) e = refl
not_making h k (RemovePart _) e = refl
not_making h k (RemoveMem _) e = refl
not_making h k (DropCells _) e = refl
not_making h k (NewLink _ _) e = refl
not_making h k (Relink _ _) e = refl
not_making h k (Unify _ _) e = refl
not_making h k Proceed e = refl
not_making h k _ e = absurd (true≢false (sym e))

-- code of which no instruction makes anything
abbrev MakesNone : List Instr → Type 0
MakesNone xs = AllByRecursion (λ i. makes_none i ≡ true) xs

none_both : (xs ys : List Instr) → MakesNone xs → MakesNone ys → MakesNone (xs ++ ys)
none_both [] ys h g = g
none_both (x ∷ xs) ys h g = (h.0, none_both xs ys h.1 g)

-- where nothing is made what drops and ties does so behind it
past_making : (h k a : ℕ) (ys : List Instr) → MakesNone ys → drops_and_ties h a ys ≡ true → makes_and_ties h k a ys ≡ true
past_making h k a [] n e = e
past_making h k a (y ∷ ys) n e = ap (λ b. if b then makes_and_ties h k a ys else drops_and_ties h a (y ∷ ys)) (not_making h k y n.0) ∙ e

drops_more : (h a : ℕ) (b : Bool) (k : ℕ) (ys : List Instr) → is_removed h k ≡ true → drops_and_ties h a ys ≡ true → drops_and_ties h a ((if b then DropCells k ∷ [] else []) ++ ys) ≡ true
drops_more h a true k ys r e = ap (λ t. if t then drops_and_ties h a ys else ties_and_ends a (DropCells k ∷ ys)) r ∙ e
drops_more h a false k ys r e = e

drops_first : (n a k : ℕ) (bs : List HeadMembrane) (ys : List Instr) → k + length bs ≤ 1 + n → 1 ≤ k → drops_and_ties (1 + n) a ys ≡ true → drops_and_ties (1 + n) a (drops k bs ++ ys) ≡ true
drops_first n a k [] ys l o e = e
drops_first n a k (b ∷ bs) ys l o e =
    ap (drops_and_ties (1 + n) a) (append_assoc (if b.has_closed_context then DropCells k ∷ [] else []) (drops (k + 1) bs) ys)
    ∙ drops_more (1 + n) a b.has_closed_context k (drops (k + 1) bs ++ ys) (λ i. lt-ltb 0 k (omega (arith, o)) i && lt-ltb k (1 + n) (omega (arith, l)) i)
    (drops_first n a (k + 1) bs ys (omega (arith, l)) (omega (arith, o)) e)

-- ports that are made, and ports of the head
abbrev AllNew : ℕ → List (NewPort × ℕ) → Type 0
AllNew a es = AllByRecursion (λ (e : NewPort × ℕ). is_made a e.0 ≡ true) es

abbrev AllOld : ℕ → List (AtomPort × ℕ) → Type 0
AllOld a es = AllByRecursion (λ (e : AtomPort × ℕ). nat_lt e.0.atom a ≡ true) es

-- what holds of all holds of the ends of a class
pub ends_all : {P : Type 0} (Q : P → Type 0) (m : ℕ → ℕ) (z : ℕ) (es : List (P × ℕ)) → AllByRecursion (λ (e : P × ℕ). Q e.0) es → AllByRecursion Q (ends_of_class m z es)
ends_all Q m z [] h = tt
ends_all Q m z (e ∷ es) h = by (m e.1 == z) (ends_all Q m z es h.1)
  where
    by : (b : Bool) → AllByRecursion Q (ends_of_class m z es) → AllByRecursion Q (if b then e.0 ∷ ends_of_class m z es else ends_of_class m z es)
    by true more = (h.0, more)
    by false more = more

-- code behind which PROCEED may follow
tie_ties : (a : ℕ) (ps : List NewPort) (hs : List AtomPort) (ys : List Instr) → AllByRecursion (λ p. is_made a p ≡ true) ps → AllByRecursion (λ (h : AtomPort). nat_lt h.atom a ≡ true) hs
    → ties_and_ends a ys ≡ true → ties_and_ends a (link_code ps hs ++ ys) ≡ true
tie_ties a [] [] ys p h e = e
tie_ties a [] (x ∷ []) ys p h e = e
tie_ties a [] (x ∷ y ∷ []) ys p h e = λ i. (h.0 i && h.1.0 i) && e i
tie_ties a [] (x ∷ y ∷ z ∷ hs) ys p h e = e
tie_ties a (x ∷ []) [] ys p h e = e
tie_ties a (x ∷ []) (y ∷ []) ys p h e = λ i. (p.0 i && h.0 i) && e i
tie_ties a (x ∷ []) (y ∷ z ∷ hs) ys p h e = e
tie_ties a (x ∷ y ∷ []) [] ys p h e = λ i. (p.0 i && p.1.0 i) && e i
tie_ties a (x ∷ y ∷ []) (z ∷ hs) ys p h e = e
tie_ties a (x ∷ y ∷ z ∷ ps) hs ys p h e = e

links_tie : (a : ℕ) (m : ℕ → ℕ) (news : List (NewPort × ℕ)) (olds : List (AtomPort × ℕ)) (zs : List ℕ) → AllNew a news → AllOld a olds → ties_and_ends a (links_code m news olds zs ++ (Proceed ∷ [])) ≡ true
links_tie a m news olds [] n o = refl
links_tie a m news olds (z ∷ zs) n o =
    ap (ties_and_ends a) (append_assoc (link_code (ends_of_class m z news) (ends_of_class m z olds)) (links_code m news olds zs) (Proceed ∷ []))
    ∙ tie_ties a (ends_of_class m z news) (ends_of_class m z olds) (links_code m news olds zs ++ (Proceed ∷ [])) (ends_all (λ p. is_made a p ≡ true) m z news n) (ends_all (λ (h : AtomPort). nat_lt h.atom a ≡ true) m z olds o)
    (links_tie a m news olds zs n o)

-- no instruction that ties drops
past_drops : (h a : ℕ) (ys : List Instr) → ties_and_ends a ys ≡ true → drops_and_ties h a ys ≡ true
past_drops h a [] e = e
past_drops h a (y ∷ ys) e = ap (λ b. if b then drops_and_ties h a ys else ties_and_ends a (y ∷ ys)) (no_drop h a y ys e) ∙ e
  where
    no_drop : (h a : ℕ) (y : Instr) (ys : List Instr) → ties_and_ends a (y ∷ ys) ≡ true → verified.drops h y ≡ false
    no_drop h a (DropCells m) ys e = absurd (true≢false (sym e))
    no_drop h a _ ys e = refl

-- ---- the ports of a body

ports_made : (a0 a i : ℕ) (links : List ℕ) (es : List (NewPort × ℕ)) → a0 ≤ a → AllNew a0 es → AllNew a0 (new_ports_from a i links ++ es)
ports_made a0 a i [] es l h = h
ports_made a0 a i (x ∷ xs) es l h = (le-leb a0 a l, ports_made a0 a (i + 1) xs es l h)

all_new : (a0 a c : ℕ) (body : List BodyItem) → a0 ≤ a → AllNew a0 (new_ports a c body)
all_new a0 a c [] l = tt
all_new a0 a c (Atom functor links inside ∷ xs) l = ports_made a0 a 0 links (new_ports (a + 1) c xs) l (all_new a0 (a + 1) c xs (omega (arith, l)))
all_new a0 a c (Connector left right ∷ xs) l = all_new a0 a c xs l
all_new a0 a c (Copy part link inside ∷ xs) l = (refl, all_new a0 a (c + 1) xs l)
all_new a0 a c (Bound integer link inside ∷ xs) l = (le-leb a0 a l, all_new a0 (a + 1) c xs (omega (arith, l)))
all_new a0 a c (Membrane inside ∷ xs) l = all_new a0 a c xs l
all_new a0 a c (Rest of closed inside ∷ xs) l = all_new a0 a c xs l
all_new a0 a c (Rule rule inside ∷ xs) l = all_new a0 a c xs l
all_new a0 a c (Rules of inside ∷ xs) l = all_new a0 a c xs l

-- what holds of each holds of all
pub all_from_each : {A : Type 0} (Q : A → Type 0) (xs : List A) → ((x : A) → IsOneOf x xs → Q x) → AllByRecursion Q xs
all_from_each Q [] h = tt
all_from_each Q (x ∷ xs) h = (h x (inl refl), all_from_each Q xs (λ y i. h y (inr i)))

all_old : (items : List HeadItem) → AllOld (length (atoms_of items)) (old_ports items)
all_old items = all_from_each (λ (e : AtomPort × ℕ). nat_lt e.0.atom (length (atoms_of items)) ≡ true) (old_ports items) (λ e i.
    let w = once_in_of (links_of_head items) (at_atoms 0 (atoms_of items)) e i in
    let at = at_atoms_in 0 (atoms_of items) w.0 w.1 in
    let l = get_below (atoms_of items) at.k at.atom at.is in
    let number = at.number in
    let same : w.0.port.0 ≡ e.0.atom = ap (λ (q : AtomPort × ℕ). q.0.atom) w.3 in
    lt-ltb e.0.atom (length (atoms_of items)) (omega (arith, l, number, same)))

-- ---- the whole

mapped_length : (f : ℕ → Instr) (x n : ℕ) → length (map f (rising x n)) ≡ n
mapped_length f x n = length-map (rising x n) f ∙ rising_length x n

removals_length : (items : List HeadItem) → length (removals items) ≡ length (atoms_of items) + (length (typed_contexts_of items) + length (membranes_of items))
removals_length items =
    let as' = map RemoveAtom (rising 0 (length (atoms_of items))) in
    let gs = map RemovePart (rising 0 (length (typed_contexts_of items))) in
    let ms = map RemoveMem (rising 1 (length (membranes_of items))) in
    let e1 = length-append as' (gs ++ ms) in
    let e2 = length-append gs ms in
    let e3 = mapped_length RemoveAtom 0 (length (atoms_of items)) in
    let e4 = mapped_length RemovePart 0 (length (typed_contexts_of items)) in
    let e5 = mapped_length RemoveMem 1 (length (membranes_of items)) in
    omega (arith, e1, e2, e3, e4, e5)

-- Behind what it takes out, the code of a body is as verified code is.
pub body_rests : (head : List HeadItem) (body : List BodyItem) (n k : ℕ) → NestedRule head body n → HasRules (λ j. j < k) body
    → makes_and_ties (1 + length (membranes_of head)) k (length (atoms_of head)) (drop (length (atoms_of head) + (length (typed_contexts_of head) + length (membranes_of head))) (body_code head body n)) ≡ true
body_rests head body n k rule rules =
    let a = length (atoms_of head) in
    let b = length (membranes_of head) in
    let made = making a (1 + b) 0 body in
    let ds = drops 1 (membranes_of head) in
    let ls = links_code (class_of (connectors body)) (new_ports a 0 body) (old_ports head) (rising 0 n) in
    let tail = made ++ (ds ++ (ls ++ (Proceed ∷ []))) in
    let ties_it = links_tie a (class_of (connectors body)) (new_ports a 0 body) (old_ports head) (rising 0 n) (all_new a a 0 body (omega arith)) (all_old head) in
    let drops_it = drops_first b a 1 (membranes_of head) (ls ++ (Proceed ∷ [])) (omega arith) (omega arith) (past_drops (1 + b) a (ls ++ (Proceed ∷ [])) ties_it) in
    let last : MakesNone (Proceed ∷ []) = (refl, tt) in
    let none = none_both ds (ls ++ (Proceed ∷ [])) (dropped MakesNone tt none_both (λ i h. (h, tt)) 1 (membranes_of head))
    (none_both ls (Proceed ∷ []) (tied MakesNone tt none_both (λ i h. (h, tt)) (class_of (connectors body)) (new_ports a 0 body) (old_ports head) (rising 0 n)) last) in
    ap (λ t. makes_and_ties (1 + b) k a (drop t (removals head ++ tail))) (sym (removals_length head))
    ∙ ap (makes_and_ties (1 + b) k a) (drop-append_seam (removals head) tail)
    ∙ making_makes b k a a (1 + b) 0 body (ds ++ (ls ++ (Proceed ∷ []))) rule.placed rule.atoms.made rules (past_making (1 + b) k a (ds ++ (ls ++ (Proceed ∷ []))) none drops_it)
