-- What holds of each instruction of the code of a body.
use Rattle.std.proofs.Common.{ℕ, zero, suc, ◌≡◌, ◌<◌, ◌≤◌, ◌+◌, inl, inr, Bool, true, false, cond, List, [], ◌∷◌, ◌++◌, map, length, Some, refl, subst, arith}
use Rattle.std.specs.Prelude.{slice_get}
use Rattle.std.specs.List.{AllByRecursion}
use Rattle.lmn_solid_heads.specs.declared.items.HeadItem.{HeadItem}
use Rattle.lmn_solid_heads.specs.Heads.{HeadMembrane, atoms_of, typed_contexts_of, membranes_of}
use Rattle.lmn_congruence_splice.specs.Classes.{class_of, ends_of_class, rising}
use Rattle.lmn_congruence_splice.specs.Splice as splice
use Rattle.lmn_instr_code.specs.declared.instr.AtomPort.{AtomPort}
use Rattle.lmn_instr_code.specs.declared.instr.NewPort.{NewPort}
use Rattle.lmn_instr_code.specs.declared.instr.Instr.{Instr}
use Rattle.lmn_instr_code.specs.declared.instr.Instr.TheVariants.{RemoveAtom, RemovePart, RemoveMem, CopyCells, DropCells, NewLink, Relink, Unify, Proceed}
use Rattle.lmn_solid_bodies.specs.declared.items.BodyItem.{BodyItem}
use Rattle.lmn_solid_bodies.specs.declared.items.BodyItem.TheVariants.{Atom, Connector, Copy, Bound, Membrane, Rest, Rule, Rules}
use Rattle.lmn_solid_bodies.specs.Code.{removals, making, drops, link_code, links_code, body_code}
use Rattle.lmn_solid_bodies.specs.Items.{new_ports, old_ports, connectors}
use Rattle.lmn_solid_bodies.specs.Made.{copies_of}
use Rattle.lmn_solid_bodies.specs.Rules.{NestedRule, WellPlaced, IsHeadMembrane, closed_rests}
use Rattle.lmn_solid_bodies.proofs.Firing.{rising_below}
use Rattle.lmn_machine.specs.Costs.{IsTold}
use Rattle.lmn_schedule_strategy.specs.Turns.{Loads}
use Rattle.lmn_base.proofs.Lists.{get_below}
use Rattle.lmn_base.specs.Lists.{In}

all_both : (Q : Instr → Type 0) (xs ys : List Instr) → AllByRecursion Q xs → AllByRecursion Q ys → AllByRecursion Q (xs ++ ys)
all_both Q [] ys a b = b
all_both Q (x ∷ xs) ys a b = (a.0, all_both Q xs ys a.1 b)

all_map : (Q : Instr → Type 0) (f : ℕ → Instr) (ns : List ℕ) → ((n : ℕ) → In n ns → Q (f n)) → AllByRecursion Q (map f ns)
all_map Q f [] q = tt
all_map Q f (n ∷ ns) q = (q n (inl refl), all_map Q f ns (λ k i. q k (inr i)))

-- what holds of each instruction holds of the one at a place
pub each_at : (Q : Instr → Type 0) (is : List Instr) (at : ℕ) (i : Instr) → AllByRecursion Q is → slice_get is at ≡ Some i → Q i
each_at Q [] at i a e = absurd (cc)
each_at Q (x ∷ is) zero i a e = let same : x ≡ i = cc in subst Q same a.0
each_at Q (x ∷ is) (suc at) i a e = each_at Q is at i a.1 e

-- the registers whose rests are dropped are those of membranes of the head
all_drops : (Q : Instr → Type 0) (most k : ℕ) (bs : List HeadMembrane) → k + length bs ≤ most → ((j : ℕ) → j < most → Q (DropCells j)) → AllByRecursion Q (drops k bs)
all_drops Q most k [] l q = tt
all_drops Q most k (b ∷ bs) l q = all_both Q (cond b.has_closed_context (DropCells k ∷ []) []) (drops (k + 1) bs) (by b.has_closed_context) (all_drops Q most (k + 1) bs (omega (arith, l)) q)
  where
    by : (t : Bool) → AllByRecursion Q (cond t (DropCells k ∷ []) [])
    by true = (q k (omega (arith, l)), tt)
    by false = tt

-- What holds of removals, drops and ties holds of the whole code, where it holds of what the body makes.
module _ (Q : Instr → Type 0) (head : List HeadItem) (body : List BodyItem) (n : ℕ)
    (atom : (k : ℕ) → Q (RemoveAtom k)) (part : (k : ℕ) → k < length (typed_contexts_of head) → Q (RemovePart k))
    (mem : (k : ℕ) → k < 1 + length (membranes_of head) → Q (RemoveMem k)) (drop : (k : ℕ) → k < 1 + length (membranes_of head) → Q (DropCells k))
    (both : (p q : NewPort) → Q (NewLink p q)) (one : (p : NewPort) (h : AtomPort) → Q (Relink p h)) (old : (g h : AtomPort) → Q (Unify g h)) (end : Q Proceed) where
  tie : (ps : List NewPort) (hs : List AtomPort) → AllByRecursion Q (link_code ps hs)
  tie [] [] = tt
  tie [] (a ∷ []) = tt
  tie [] (a ∷ b ∷ []) = (old a b, tt)
  tie [] (a ∷ b ∷ c ∷ hs) = tt
  tie (p ∷ []) [] = tt
  tie (p ∷ []) (a ∷ []) = (one p a, tt)
  tie (p ∷ []) (a ∷ b ∷ hs) = tt
  tie (p ∷ q ∷ []) [] = (both p q, tt)
  tie (p ∷ q ∷ []) (a ∷ hs) = tt
  tie (p ∷ q ∷ s ∷ ps) hs = tt

  ties : (m : ℕ → ℕ) (news : List (NewPort × ℕ)) (olds : List (AtomPort × ℕ)) (zs : List ℕ) → AllByRecursion Q (links_code m news olds zs)
  ties m news olds [] = tt
  ties m news olds (z ∷ zs) = all_both Q (link_code (ends_of_class m z news) (ends_of_class m z olds)) (links_code m news olds zs) (tie (ends_of_class m z news) (ends_of_class m z olds)) (ties m news olds zs)

  whole_code : AllByRecursion Q (making (length (atoms_of head)) (1 + length (membranes_of head)) 0 body) → AllByRecursion Q (body_code head body n)
  whole_code makes =
      let a = length (atoms_of head) in
      let g = length (typed_contexts_of head) in
      let k = length (membranes_of head) in
      let os = map RemoveAtom (rising 0 a) in
      let gs = map RemovePart (rising 0 g) in
      let ms = map RemoveMem (rising 1 k) in
      let made = making a (1 + k) 0 body in
      let ds = drops 1 (membranes_of head) in
      let ls = links_code (class_of (connectors body)) (new_ports a 0 body) (old_ports head) (rising 0 n) in
      let last : AllByRecursion Q (Proceed ∷ []) = (end, tt) in
      all_both Q (removals head) (made ++ (ds ++ (ls ++ (Proceed ∷ []))))
      (all_both Q os (gs ++ ms) (all_map Q RemoveAtom (rising 0 a) (λ x i. atom x))
      (all_both Q gs ms (all_map Q RemovePart (rising 0 g) (λ x i. part x (let b = (rising_below g 0 x i).1 in omega (arith, b))))
      (all_map Q RemoveMem (rising 1 k) (λ x i. mem x (let b = (rising_below k 1 x i).1 in omega (arith, b))))))
      (all_both Q made (ds ++ (ls ++ (Proceed ∷ []))) makes
      (all_both Q ds (ls ++ (Proceed ∷ [])) (all_drops Q (1 + k) 1 (membranes_of head) (omega arith) drop)
      (all_both Q ls (Proceed ∷ []) (ties (class_of (connectors body)) (new_ports a 0 body) (old_ports head) (rising 0 n)) last)))

-- ---- what is read to tell the cost is set

head_below : (k of : ℕ) → IsHeadMembrane k of → of < 1 + k
head_below k of w = let e = w.1 in let b = w.2 in omega (arith, e, b)

making_told : (k g a m c : ℕ) (body : List BodyItem) → WellPlaced k m body → ((e : ℕ × ℕ) → splice.IsOneOf e (copies_of c body) → e.1 < g) → AllByRecursion (IsTold (1 + k) g) (making a m c body)
making_told k g a m c [] w l = tt
making_told k g a m c (Atom functor links inside ∷ xs) w l = (tt, making_told k g (a + 1) m c xs w.1 l)
making_told k g a m c (Connector left right ∷ xs) w l = making_told k g a m c xs w l
making_told k g a m c (Copy part link inside ∷ xs) w l = (l (c, part) (inl refl), making_told k g a m (c + 1) xs w.1 (λ e i. l e (inr i)))
making_told k g a m c (Bound integer link inside ∷ xs) w l = (tt, making_told k g (a + 1) m c xs w.1 l)
making_told k g a m c (Membrane inside ∷ xs) w l = (tt, making_told k g a (m + 1) c xs w.1 l)
making_told k g a m c (Rest of false inside ∷ xs) w l = (tt, making_told k g a m c xs w.3 l)
making_told k g a m c (Rest of true inside ∷ xs) w l = (head_below k of w.0, making_told k g a m c xs w.2 l)
making_told k g a m c (Rule rule inside ∷ xs) w l = (tt, making_told k g a m c xs w.1 l)
making_told k g a m c (Rules of inside ∷ xs) w l = (head_below k of w.0, making_told k g a m c xs w.2 l)

-- the instructions of a body read registers that its head sets
pub code_told : (head : List HeadItem) (body : List BodyItem) (n : ℕ) → NestedRule head body n → AllByRecursion (IsTold (1 + length (membranes_of head)) (length (typed_contexts_of head))) (body_code head body n)
code_told head body n rule =
    let k = length (membranes_of head) in
    let g = length (typed_contexts_of head) in
    whole_code (IsTold (1 + k) g) head body n (λ x. tt) (λ x l. l) (λ x l. l) (λ x l. l) (λ p q. tt) (λ p h. tt) (λ p h. tt) tt
    (making_told k g (length (atoms_of head)) (1 + k) 0 body rule.placed (λ e i. (let w = rule.atoms.copied e i in get_below (typed_contexts_of head) e.1 w.0 w.1)))

-- ---- the rules that are loaded are written in the body

module _ (P : ℕ → Type 0) where
  -- each rule that a body has is one of these
  abbrev pub HasRules : List BodyItem → Type 0
  HasRules [] = Unit {0}
  HasRules (Atom functor links inside ∷ xs) = HasRules xs
  HasRules (Connector left right ∷ xs) = HasRules xs
  HasRules (Copy part link inside ∷ xs) = HasRules xs
  HasRules (Bound integer link inside ∷ xs) = HasRules xs
  HasRules (Membrane inside ∷ xs) = HasRules xs
  HasRules (Rest of closed inside ∷ xs) = HasRules xs
  HasRules (Rule rule inside ∷ xs) = P rule × HasRules xs
  HasRules (Rules of inside ∷ xs) = HasRules xs

  making_loads : (a m c : ℕ) (body : List BodyItem) → HasRules body → AllByRecursion (Loads P) (making a m c body)
  making_loads a m c [] r = tt
  making_loads a m c (Atom functor links inside ∷ xs) r = (tt, making_loads (a + 1) m c xs r)
  making_loads a m c (Connector left right ∷ xs) r = making_loads a m c xs r
  making_loads a m c (Copy part link inside ∷ xs) r = (tt, making_loads a m (c + 1) xs r)
  making_loads a m c (Bound integer link inside ∷ xs) r = (tt, making_loads (a + 1) m c xs r)
  making_loads a m c (Membrane inside ∷ xs) r = (tt, making_loads a (m + 1) c xs r)
  making_loads a m c (Rest of false inside ∷ xs) r = (tt, making_loads a m c xs r)
  making_loads a m c (Rest of true inside ∷ xs) r = (tt, making_loads a m c xs r)
  making_loads a m c (Rule rule inside ∷ xs) r = (r.0, making_loads a m c xs r.1)
  making_loads a m c (Rules of inside ∷ xs) r = (tt, making_loads a m c xs r)

  -- the code of a body loads the rules that it has as items
  pub code_loads : (head : List HeadItem) (body : List BodyItem) (n : ℕ) → HasRules body → AllByRecursion (Loads P) (body_code head body n)
  code_loads head body n r =
      whole_code (Loads P) head body n (λ x. tt) (λ x l. tt) (λ x l. tt) (λ x l. tt) (λ p q. tt) (λ p h. tt) (λ p h. tt) tt
      (making_loads (length (atoms_of head)) (1 + length (membranes_of head)) 0 body r)

-- ---- the rests that are copied are those of closed contexts

-- where an instruction copies a rest, it is that of one of these membranes
abbrev pub Copies : List ℕ → Instr → Type 0
Copies ks (CopyCells m n) = splice.IsOneOf m ks
Copies ks _ = Unit {0}

making_copies : (ks : List ℕ) (a m c : ℕ) (body : List BodyItem) → ((k : ℕ) → splice.IsOneOf k (closed_rests body) → splice.IsOneOf k ks) → AllByRecursion (Copies ks) (making a m c body)
making_copies ks a m c [] r = tt
making_copies ks a m c (Atom functor links inside ∷ xs) r = (tt, making_copies ks (a + 1) m c xs r)
making_copies ks a m c (Connector left right ∷ xs) r = making_copies ks a m c xs r
making_copies ks a m c (Copy part link inside ∷ xs) r = (tt, making_copies ks a m (c + 1) xs r)
making_copies ks a m c (Bound integer link inside ∷ xs) r = (tt, making_copies ks (a + 1) m c xs r)
making_copies ks a m c (Membrane inside ∷ xs) r = (tt, making_copies ks a (m + 1) c xs r)
making_copies ks a m c (Rest of false inside ∷ xs) r = (tt, making_copies ks a m c xs r)
making_copies ks a m c (Rest of true inside ∷ xs) r = (r of (inl refl), making_copies ks a m c xs (λ k i. r k (inr i)))
making_copies ks a m c (Rule rule inside ∷ xs) r = (tt, making_copies ks a m c xs r)
making_copies ks a m c (Rules of inside ∷ xs) r = (tt, making_copies ks a m c xs r)

-- the code of a body copies the rests of the closed contexts that it has as items
pub code_copies : (head : List HeadItem) (body : List BodyItem) (n : ℕ) → AllByRecursion (Copies (closed_rests body)) (body_code head body n)
code_copies head body n =
    whole_code (Copies (closed_rests body)) head body n (λ x. tt) (λ x l. tt) (λ x l. tt) (λ x l. tt) (λ p q. tt) (λ p h. tt) (λ p h. tt) tt
    (making_copies (closed_rests body) (length (atoms_of head)) (1 + length (membranes_of head)) 0 body (λ k i. i))
