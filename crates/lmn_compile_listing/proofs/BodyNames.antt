-- The names in the code of a body are those of its atoms.
use Rattle.std.proofs.Common.{ℕ, ◌+◌, true, false, List, [], ◌∷◌, ◌++◌, map, length}
use Rattle.std.specs.List.{AllByRecursion}
use Rattle.lmn_solid_heads.specs.declared.items.HeadItem.{HeadItem}
use Rattle.lmn_solid_heads.specs.Heads.{HeadMembrane, atoms_of, typed_contexts_of, membranes_of}
use Rattle.lmn_congruence_splice.specs.Classes.{class_of, ends_of_class, rising}
use Rattle.lmn_instr_code.specs.declared.instr.AtomPort.{AtomPort}
use Rattle.lmn_instr_code.specs.declared.instr.NewPort.{NewPort}
use Rattle.lmn_instr_code.specs.declared.instr.NewPort.TheVariants as new
use Rattle.lmn_instr_code.specs.declared.instr.Instr.{Instr}
use Rattle.lmn_instr_code.specs.declared.instr.Instr.TheVariants.{RemoveAtom, RemovePart, RemoveMem, DropCells, NewLink, Relink, Proceed}
use Rattle.lmn_instr_code.specs.Labels.{HasLabel}
use Rattle.lmn_instr_code.specs.Listings.{HasInstr}
use Rattle.lmn_solid_bodies.specs.declared.items.BodyItem.{BodyItem}
use Rattle.lmn_solid_bodies.specs.declared.items.BodyItem.TheVariants.{Atom, Connector, Copy, Bound, Membrane, Rest, Rule, Rules}
use Rattle.lmn_solid_bodies.specs.Code.{removals, making, drops, link_code, links_code, body_code}
use Rattle.lmn_solid_bodies.specs.Items.{new_ports, old_ports, connectors}
use Rattle.lmn_compile_listing.proofs.HeadNames.{HasInstrs, both, if_has}

module _ (names : List (List ℕ)) where
  -- the list has the name of an item, if it is an atom
  abbrev pub HasItem : BodyItem → Type 0
  HasItem (Atom functor links inside) = HasLabel names functor.label
  HasItem (Connector left right) = Unit {0}
  HasItem (Copy part link inside) = Unit {0}
  HasItem (Bound integer link inside) = Unit {0}
  HasItem (Membrane inside) = Unit {0}
  HasItem (Rest of closed inside) = Unit {0}
  HasItem (Rule rule inside) = Unit {0}
  HasItem (Rules of inside) = Unit {0}

  each_has : (f : ℕ → Instr) (ns : List ℕ) → ((n : ℕ) → HasInstr names (f n)) → HasInstrs names (map f ns)
  each_has f [] q = tt
  each_has f (n ∷ ns) q = (q n, each_has f ns q)

  removals_have : (head : List HeadItem) → HasInstrs names (removals head)
  removals_have head =
      let as' = rising 0 (length (atoms_of head)) in
      let gs = rising 0 (length (typed_contexts_of head)) in
      let ms = rising 1 (length (membranes_of head)) in
      both names (map RemoveAtom as') (map RemovePart gs ++ map RemoveMem ms) (each_has RemoveAtom as' (λ n. (tt, tt)))
      (both names (map RemovePart gs) (map RemoveMem ms) (each_has RemovePart gs (λ n. (tt, tt))) (each_has RemoveMem ms (λ n. (tt, tt))))

  making_has : (a m c : ℕ) (xs : List BodyItem) → AllByRecursion HasItem xs → HasInstrs names (making a m c xs)
  making_has a m c [] h = tt
  making_has a m c (Atom functor links inside ∷ xs) h = ((tt, (tt, (h.0, tt))), making_has (a + 1) m c xs h.1)
  making_has a m c (Connector left right ∷ xs) h = making_has a m c xs h.1
  making_has a m c (Copy part link inside ∷ xs) h = ((tt, (tt, (tt, tt))), making_has a m (c + 1) xs h.1)
  making_has a m c (Bound integer link inside ∷ xs) h = ((tt, (tt, (tt, tt))), making_has (a + 1) m c xs h.1)
  making_has a m c (Membrane inside ∷ xs) h = ((tt, (tt, tt)), making_has a (m + 1) c xs h.1)
  making_has a m c (Rest of true inside ∷ xs) h = ((tt, (tt, tt)), making_has a m c xs h.1)
  making_has a m c (Rest of false inside ∷ xs) h = ((tt, (tt, tt)), making_has a m c xs h.1)
  making_has a m c (Rule rule inside ∷ xs) h = ((tt, (tt, tt)), making_has a m c xs h.1)
  making_has a m c (Rules of inside ∷ xs) h = ((tt, (tt, tt)), making_has a m c xs h.1)

  drops_have : (k : ℕ) (bs : List HeadMembrane) → HasInstrs names (drops k bs)
  drops_have k [] = tt
  drops_have k (b ∷ bs) = both names _ (drops (k + 1) bs) (if_has names b.has_closed_context (DropCells k ∷ []) ((tt, tt), tt)) (drops_have (k + 1) bs)

  new_link_has : (p q : NewPort) → HasInstr names (NewLink p q)
  new_link_has (new.Atom p) (new.Atom q) = (tt, (tt, tt))
  new_link_has (new.Atom p) (new.Copy c) = (tt, (tt, tt))
  new_link_has (new.Copy c) (new.Atom q) = (tt, (tt, tt))
  new_link_has (new.Copy c) (new.Copy d) = (tt, (tt, tt))

  relink_has : (p : NewPort) (h : AtomPort) → HasInstr names (Relink p h)
  relink_has (new.Atom p) h = (tt, (tt, tt))
  relink_has (new.Copy c) h = (tt, (tt, tt))

  tie_has : (ps : List NewPort) (hs : List AtomPort) → HasInstrs names (link_code ps hs)
  tie_has [] [] = tt
  tie_has [] (a ∷ []) = tt
  tie_has [] (a ∷ b ∷ []) = ((tt, (tt, tt)), tt)
  tie_has [] (a ∷ b ∷ c ∷ hs) = tt
  tie_has (p ∷ []) [] = tt
  tie_has (p ∷ []) (a ∷ []) = (relink_has p a, tt)
  tie_has (p ∷ []) (a ∷ b ∷ hs) = tt
  tie_has (p ∷ q ∷ []) [] = (new_link_has p q, tt)
  tie_has (p ∷ q ∷ []) (a ∷ hs) = tt
  tie_has (p ∷ q ∷ s ∷ ps) hs = tt

  ties_have : (m : ℕ → ℕ) (news : List (NewPort × ℕ)) (olds : List (AtomPort × ℕ)) (zs : List ℕ) → HasInstrs names (links_code m news olds zs)
  ties_have m news olds [] = tt
  ties_have m news olds (z ∷ zs) =
      both names (link_code (ends_of_class m z news) (ends_of_class m z olds)) (links_code m news olds zs) (tie_has (ends_of_class m z news) (ends_of_class m z olds)) (ties_have m news olds zs)

  -- a list that has the names of the atoms has those of the code
  pub body_has : (head : List HeadItem) (body : List BodyItem) (n : ℕ) → AllByRecursion HasItem body → HasInstrs names (body_code head body n)
  body_has head body n h =
      let a = length (atoms_of head) in
      let k = 1 + length (membranes_of head) in
      let made = making a k 0 body in
      let m = class_of (connectors body) in
      let ls = links_code m (new_ports a 0 body) (old_ports head) (rising 0 n) in
      let last : HasInstrs names (Proceed ∷ []) = (tt, tt) in
      let ds = drops 1 (membranes_of head) in
      both names (removals head) (made ++ (ds ++ (ls ++ (Proceed ∷ [])))) (removals_have head)
      (both names made (ds ++ (ls ++ (Proceed ∷ []))) (making_has a k 0 body h)
      (both names ds (ls ++ (Proceed ∷ [])) (drops_have 1 (membranes_of head))
      (both names ls (Proceed ∷ []) (ties_have m (new_ports a 0 body) (old_ports head) (rising 0 n)) last)))
