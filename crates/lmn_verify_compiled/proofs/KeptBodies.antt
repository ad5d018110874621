-- A listing keeps all numbers of the code of a body, where it keeps those of its atoms and of its rules.
use Rattle.std.proofs.Common.{ℕ, ◌+◌, ◌<◌, ◌^◌, true, false, List, [], ◌∷◌, ◌++◌, map, length}
use Rattle.std.specs.List.{AllByRecursion}
use Rattle.lmn_solid_heads.specs.declared.items.HeadItem.{HeadItem}
use Rattle.lmn_solid_heads.specs.Heads.{HeadMembrane, atoms_of, typed_contexts_of, membranes_of}
use Rattle.lmn_congruence_splice.specs.Classes.{class_of, ends_of_class, rising}
use Rattle.lmn_instr_code.specs.declared.instr.AtomPort.{AtomPort}
use Rattle.lmn_instr_code.specs.declared.instr.NewPort.{NewPort}
use Rattle.lmn_instr_code.specs.declared.instr.NewPort.TheVariants as new
use Rattle.lmn_instr_code.specs.declared.instr.Instr.{Instr}
use Rattle.lmn_instr_code.specs.declared.instr.Instr.TheVariants.{RemoveAtom, RemovePart, RemoveMem, DropCells, NewLink, Relink, Proceed}
use Rattle.lmn_solid_bodies.specs.declared.items.BodyItem.{BodyItem}
use Rattle.lmn_solid_bodies.specs.declared.items.BodyItem.TheVariants.{Atom, Connector, Copy, Bound, Membrane, Rest, Rule, Rules}
use Rattle.lmn_solid_bodies.specs.Code.{removals, making, drops, link_code, links_code, body_code}
use Rattle.lmn_solid_bodies.specs.Items.{new_ports, old_ports, connectors}
use Rattle.lmn_schedule_strategy.proofs.BodyInstructions.{HasRules}
use Rattle.lmn_instr_code.specs.declared.words.Operand.TheVariants as operand_of
use Rattle.lmn_verify_compiled.specs.Kept.{IsKept, AreKept}
use Rattle.lmn_verify_compiled.proofs.KeptHeads.{KeptInstr, both, if_kept}

-- a listing keeps the functor of an item, if it is an atom
abbrev pub KeptItem : BodyItem → Type 0
KeptItem (Atom functor links inside) = IsKept (operand_of.Functor functor)
KeptItem (Connector left right) = Unit {0}
KeptItem (Copy part link inside) = Unit {0}
KeptItem (Bound integer link inside) = Unit {0}
KeptItem (Membrane inside) = Unit {0}
KeptItem (Rest of closed inside) = Unit {0}
KeptItem (Rule rule inside) = Unit {0}
KeptItem (Rules of inside) = Unit {0}

each_kept : (f : ℕ → Instr) (ns : List ℕ) → ((n : ℕ) → KeptInstr (f n)) → AreKept (map f ns)
each_kept f [] q = tt
each_kept f (n ∷ ns) q = (q n, each_kept f ns q)

removals_kept : (head : List HeadItem) → AreKept (removals head)
removals_kept head =
    let as' = rising 0 (length (atoms_of head)) in
    let gs = rising 0 (length (typed_contexts_of head)) in
    let ms = rising 1 (length (membranes_of head)) in
    both (map RemoveAtom as') (map RemovePart gs ++ map RemoveMem ms) (each_kept RemoveAtom as' (λ n. (tt, tt)))
    (both (map RemovePart gs) (map RemoveMem ms) (each_kept RemovePart gs (λ n. (tt, tt))) (each_kept RemoveMem ms (λ n. (tt, tt))))

making_kept : (a m c : ℕ) (xs : List BodyItem) → AllByRecursion KeptItem xs → HasRules (λ k. k < 2 ^ 64) xs → AreKept (making a m c xs)
making_kept a m c [] h r = tt
making_kept a m c (Atom functor links inside ∷ xs) h r = ((tt, (tt, (h.0, tt))), making_kept (a + 1) m c xs h.1 r)
making_kept a m c (Connector left right ∷ xs) h r = making_kept a m c xs h.1 r
making_kept a m c (Copy part link inside ∷ xs) h r = ((tt, (tt, (tt, tt))), making_kept a m (c + 1) xs h.1 r)
making_kept a m c (Bound integer link inside ∷ xs) h r = ((tt, (tt, (tt, tt))), making_kept (a + 1) m c xs h.1 r)
making_kept a m c (Membrane inside ∷ xs) h r = ((tt, (tt, tt)), making_kept a (m + 1) c xs h.1 r)
making_kept a m c (Rest of true inside ∷ xs) h r = ((tt, (tt, tt)), making_kept a m c xs h.1 r)
making_kept a m c (Rest of false inside ∷ xs) h r = ((tt, (tt, tt)), making_kept a m c xs h.1 r)
making_kept a m c (Rule rule inside ∷ xs) h r = ((tt, (r.0, tt)), making_kept a m c xs h.1 r.1)
making_kept a m c (Rules of inside ∷ xs) h r = ((tt, (tt, tt)), making_kept a m c xs h.1 r)

drops_kept : (k : ℕ) (bs : List HeadMembrane) → AreKept (drops k bs)
drops_kept k [] = tt
drops_kept k (b ∷ bs) = both _ (drops (k + 1) bs) (if_kept b.has_closed_context (DropCells k ∷ []) ((tt, tt), tt)) (drops_kept (k + 1) bs)

new_link_kept : (p q : NewPort) → KeptInstr (NewLink p q)
new_link_kept (new.Atom p) (new.Atom q) = (tt, (tt, tt))
new_link_kept (new.Atom p) (new.Copy c) = (tt, (tt, tt))
new_link_kept (new.Copy c) (new.Atom q) = (tt, (tt, tt))
new_link_kept (new.Copy c) (new.Copy d) = (tt, (tt, tt))

relink_kept : (p : NewPort) (h : AtomPort) → KeptInstr (Relink p h)
relink_kept (new.Atom p) h = (tt, (tt, tt))
relink_kept (new.Copy c) h = (tt, (tt, tt))

tie_kept : (ps : List NewPort) (hs : List AtomPort) → AreKept (link_code ps hs)
tie_kept [] [] = tt
tie_kept [] (a ∷ []) = tt
tie_kept [] (a ∷ b ∷ []) = ((tt, (tt, tt)), tt)
tie_kept [] (a ∷ b ∷ c ∷ hs) = tt
tie_kept (p ∷ []) [] = tt
tie_kept (p ∷ []) (a ∷ []) = (relink_kept p a, tt)
tie_kept (p ∷ []) (a ∷ b ∷ hs) = tt
tie_kept (p ∷ q ∷ []) [] = (new_link_kept p q, tt)
tie_kept (p ∷ q ∷ []) (a ∷ hs) = tt
tie_kept (p ∷ q ∷ s ∷ ps) hs = tt

ties_kept : (m : ℕ → ℕ) (news : List (NewPort × ℕ)) (olds : List (AtomPort × ℕ)) (zs : List ℕ) → AreKept (links_code m news olds zs)
ties_kept m news olds [] = tt
ties_kept m news olds (z ∷ zs) =
    both (link_code (ends_of_class m z news) (ends_of_class m z olds)) (links_code m news olds zs) (tie_kept (ends_of_class m z news) (ends_of_class m z olds)) (ties_kept m news olds zs)

-- so it keeps the code
pub body_kept : (head : List HeadItem) (body : List BodyItem) (n : ℕ) → AllByRecursion KeptItem body → HasRules (λ k. k < 2 ^ 64) body → AreKept (body_code head body n)
body_kept head body n h r =
    let a = length (atoms_of head) in
    let k = 1 + length (membranes_of head) in
    let made = making a k 0 body in
    let m = class_of (connectors body) in
    let ls = links_code m (new_ports a 0 body) (old_ports head) (rising 0 n) in
    let last : AreKept (Proceed ∷ []) = (tt, tt) in
    let ds = drops 1 (membranes_of head) in
    both (removals head) (made ++ (ds ++ (ls ++ (Proceed ∷ [])))) (removals_kept head)
    (both made (ds ++ (ls ++ (Proceed ∷ []))) (making_kept a k 0 body h r)
    (both ds (ls ++ (Proceed ∷ [])) (drops_kept 1 (membranes_of head))
    (both ls (Proceed ∷ []) (ties_kept m (new_ports a 0 body) (old_ports head) (rising 0 n)) last)))
