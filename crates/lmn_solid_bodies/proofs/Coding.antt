-- What the code of a body without membranes comes to.
use Rattle.std.proofs.Common.{ℕ, ◌+◌, ◌≡◌, ◌==◌, Bool, true, false, cond, List, [], ◌∷◌, ◌++◌, map, refl, sym, ap, subst, ◌∙◌}
use Rattle.lmn_base.specs.declared.functor.Functor.{Functor}
use Rattle.lmn_store_heap.specs.Heap.{Heap, made_atom, taken_all}
use Rattle.lmn_congruence_splice.specs.Ties.{Tie}
use Rattle.lmn_congruence_splice.specs.Classes.{ends_of_class, tie_of, ties_of}
use Rattle.lmn_instr_code.specs.declared.instr.AtomPort.{AtomPort}
use Rattle.lmn_instr_code.specs.declared.instr.NewPort.{NewPort}
use Rattle.lmn_instr_code.specs.declared.instr.Instr.{Instr}
use Rattle.lmn_instr_code.specs.declared.instr.Instr.TheVariants.{RemoveAtom}
use Rattle.lmn_solid_bodies.specs.declared.items.BodyItem.{BodyItem}
use Rattle.lmn_solid_bodies.specs.declared.items.BodyItem.TheVariants.{Atom, Connector, Copy, Bound, Membrane, Rest, Rule, Rules}
use Rattle.lmn_solid_bodies.specs.Tied.{tied, all_tied}
use Rattle.lmn_solid_bodies.specs.Items.{Simple}
use Rattle.lmn_solid_bodies.specs.Code.{making, link_code, links_code}
use Rattle.lmn_solid_bodies.specs.Made.{made_of, places_of}
use Rattle.lmn_solid_bodies.specs.Running.{Registers, old_port, new_port, integer_functor, all_placed, Prepares, DoesAll}
use Rattle.lmn_solid_bodies.proofs.Making.{all_made, AllFree}
use Rattle.lmn_base.specs.Graphs.{Port}

-- Code in two parts

-- what code does is what its first part does, and then the second
pub commits_append : (r : Registers) (xs ys : List Instr) (s u : Heap) → DoesAll r (xs ++ ys) s u → (t : Heap) × DoesAll r xs s t × DoesAll r ys t u
commits_append r [] ys s u w = (s, refl, w)
commits_append r (x ∷ xs) ys s u w = let v = commits_append r xs ys w.0 u w.2 in (v.0, (w.0, w.1, v.1), v.2)

-- and what it makes too
pub prepares_append : (r : Registers) (xs ys : List Instr) (s u : Heap) → Prepares r (xs ++ ys) s u → (t : Heap) × Prepares r xs s t × Prepares r ys t u
prepares_append r [] ys s u w = (s, refl, w)
prepares_append r (x ∷ xs) ys s u w = let v = prepares_append r xs ys w.0 u w.2 in (v.0, (w.0, w.1, v.1), v.2)

-- what one part of code makes, and then the other, all of it makes
pub prepares_join : (r : Registers) (xs ys : List Instr) (s t u : Heap) → Prepares r xs s t → Prepares r ys t u → Prepares r (xs ++ ys) s u
prepares_join r [] ys s t u p q = subst (λ z. Prepares r ys z u) p q
prepares_join r (i ∷ xs) ys s t u p q = (p.0, p.1, prepares_join r xs ys p.0 t u p.2 q)

-- Removals

-- instructions that remove atoms take them from the heap, one by one
pub commits_taken : (r : Registers) (ns : List ℕ) (s t : Heap) → DoesAll r (map RemoveAtom ns) s t → t ≡ taken_all s (map r.head.images.atom ns)
commits_taken r [] s t w = w
commits_taken r (n ∷ ns) s t w = commits_taken r ns w.0 t w.2 ∙ ap (λ z. taken_all z (map r.head.images.atom ns)) w.1

-- and make nothing
pub prepares_taken : (r : Registers) (ns : List ℕ) (s t : Heap) → Prepares r (map RemoveAtom ns) s t → t ≡ s
prepares_taken r [] s t w = w
prepares_taken r (n ∷ ns) s t w = prepares_taken r ns w.0 t w.2 ∙ w.1

-- What is made

-- the making part of code places each atom in its membrane
pub commits_placed : (r : Registers) (a m c : ℕ) (body : List BodyItem) → Simple body → (s t : Heap) → DoesAll r (making a m c body) s t → t ≡ all_placed s (places_of r a c body)
commits_placed r a m c [] p s t w = w
commits_placed r a m c (Atom functor links inside ∷ xs) p s t w = commits_placed r (a + 1) m c xs p.1 w.0 t w.2 ∙ ap (λ z. all_placed z (places_of r (a + 1) c xs)) w.1.1
commits_placed r a m c (Bound integer link inside ∷ xs) p s t w = commits_placed r (a + 1) m c xs p.1 w.0 t w.2 ∙ ap (λ z. all_placed z (places_of r (a + 1) c xs)) w.1.1
commits_placed r a m c (Connector left right ∷ xs) p s t w = commits_placed r a m c xs p.1 s t w
commits_placed r a m c (Copy part link inside ∷ xs) p s t w = absurd p.0
commits_placed r a m c (Membrane inside ∷ xs) p s t w = absurd p.0
commits_placed r a m c (Rest of closed inside ∷ xs) p s t w = absurd p.0
commits_placed r a m c (Rule rule inside ∷ xs) p s t w = absurd p.0
commits_placed r a m c (Rules of inside ∷ xs) p s t w = absurd p.0

free_on : (s t : Heap) (es : List (ℕ × Functor)) → t ≡ s → AllFree t es → AllFree s es
free_on s t es e w = subst (λ z. AllFree z es) e w

-- and has made each before
pub prepares_made : (r : Registers) (a m c : ℕ) (body : List BodyItem) → Simple body → (s t : Heap) → Prepares r (making a m c body) s t
    → AllFree s (made_of r a body) × (t ≡ all_made s (made_of r a body))
prepares_made r a m c [] p s t w = (tt, w)
prepares_made r a m c (Atom functor links inside ∷ xs) p s t w =
    let v = prepares_made r (a + 1) m c xs p.1 w.0 t w.2 in
    ((w.1.0, free_on (made_atom s (r.head.images.atom a) functor) w.0 (made_of r (a + 1) xs) w.1.1 v.0), v.1 ∙ ap (λ z. all_made z (made_of r (a + 1) xs)) w.1.1)
prepares_made r a m c (Bound integer link inside ∷ xs) p s t w =
    let v = prepares_made r (a + 1) m c xs p.1 w.0 t w.2 in
    ((w.1.0, free_on (made_atom s (r.head.images.atom a) (integer_functor (r.head.integer integer))) w.0 (made_of r (a + 1) xs) w.1.1 v.0), v.1 ∙ ap (λ z. all_made z (made_of r (a + 1) xs)) w.1.1)
prepares_made r a m c (Connector left right ∷ xs) p s t w = prepares_made r a m c xs p.1 s t w
prepares_made r a m c (Copy part link inside ∷ xs) p s t w = absurd p.0
prepares_made r a m c (Membrane inside ∷ xs) p s t w = absurd p.0
prepares_made r a m c (Rest of closed inside ∷ xs) p s t w = absurd p.0
prepares_made r a m c (Rule rule inside ∷ xs) p s t w = absurd p.0
prepares_made r a m c (Rules of inside ∷ xs) p s t w = absurd p.0

-- Links

-- ports of the heap for ports of registers
abbrev pub at_heap : {P : Type 0} → (P → Port) → List (P × ℕ) → List (Port × ℕ)
at_heap f [] = []
at_heap f (e ∷ es) = (f e.0, e.1) ∷ at_heap f es

-- the ends of a class on the heap are those of the registers
pub ends_map : {P : Type 0} (f : P → Port) (m : ℕ → ℕ) (z : ℕ) (es : List (P × ℕ)) → ends_of_class m z (at_heap f es) ≡ map f (ends_of_class m z es)
ends_map f m z [] = refl
ends_map f m z (e ∷ es) = by (m e.1 == z) (ends_map f m z es)
  where
    by : (t : Bool) → ends_of_class m z (at_heap f es) ≡ map f (ends_of_class m z es) → cond t (f e.0 ∷ ends_of_class m z (at_heap f es)) (ends_of_class m z (at_heap f es)) ≡ map f (cond t (e.0 ∷ ends_of_class m z es) (ends_of_class m z es))
    by true h = ap (λ xs. f e.0 ∷ xs) h
    by false h = h

-- the instructions of a class tie its ends
pub class_commits : (r : Registers) (ps : List NewPort) (hs : List AtomPort) (s t : Heap) → DoesAll r (link_code ps hs) s t → t ≡ all_tied s (tie_of (map (new_port r) ps) (map (old_port r) hs))
class_commits r [] [] s t w = w
class_commits r [] (g ∷ []) s t w = w
class_commits r [] (g ∷ h ∷ []) s t w = w.2 ∙ w.1
class_commits r [] (g ∷ h ∷ i ∷ hs) s t w = w
class_commits r (p ∷ []) [] s t w = w
class_commits r (p ∷ []) (h ∷ []) s t w = w.2 ∙ w.1
class_commits r (p ∷ []) (g ∷ h ∷ hs) s t w = w
class_commits r (p ∷ q ∷ []) [] s t w = w.2 ∙ w.1
class_commits r (p ∷ q ∷ []) (h ∷ hs) s t w = w
class_commits r (p ∷ q ∷ x ∷ ps) hs s t w = w

class_prepares : (r : Registers) (ps : List NewPort) (hs : List AtomPort) (s t : Heap) → Prepares r (link_code ps hs) s t → t ≡ s
class_prepares r [] [] s t w = w
class_prepares r [] (g ∷ []) s t w = w
class_prepares r [] (g ∷ h ∷ []) s t w = w.2 ∙ w.1
class_prepares r [] (g ∷ h ∷ i ∷ hs) s t w = w
class_prepares r (p ∷ []) [] s t w = w
class_prepares r (p ∷ []) (h ∷ []) s t w = w.2 ∙ w.1
class_prepares r (p ∷ []) (g ∷ h ∷ hs) s t w = w
class_prepares r (p ∷ q ∷ []) [] s t w = w.2 ∙ w.1
class_prepares r (p ∷ q ∷ []) (h ∷ hs) s t w = w
class_prepares r (p ∷ q ∷ x ∷ ps) hs s t w = w

tied_append : (s : Heap) (ts us : List (Tie Port)) → all_tied s (ts ++ us) ≡ all_tied (all_tied s ts) us
tied_append s [] us = refl
tied_append s (t ∷ ts) us = tied_append (tied s t) ts us

-- instructions that link the ports of a body tie them, class by class
pub commits_tied : (r : Registers) (m : ℕ → ℕ) (news : List (NewPort × ℕ)) (olds : List (AtomPort × ℕ)) (zs : List ℕ) (s t : Heap) → DoesAll r (links_code m news olds zs) s t
    → t ≡ all_tied s (ties_of m (at_heap (new_port r) news) (at_heap (old_port r) olds) zs)
commits_tied r m news olds [] s t w = w
commits_tied r m news olds (z ∷ zs) s t w =
    let v = commits_append r (link_code (ends_of_class m z news) (ends_of_class m z olds)) (links_code m news olds zs) s t w in
    let here : v.0 ≡ all_tied s (tie_of (ends_of_class m z (at_heap (new_port r) news)) (ends_of_class m z (at_heap (old_port r) olds))) =
    rw (ends_map (new_port r) m z news, ends_map (old_port r) m z olds) (class_commits r (ends_of_class m z news) (ends_of_class m z olds) s v.0 v.1) in
    commits_tied r m news olds zs v.0 t v.2 ∙ ap (λ x. all_tied x (ties_of m (at_heap (new_port r) news) (at_heap (old_port r) olds) zs)) here
    ∙ sym (tied_append s (tie_of (ends_of_class m z (at_heap (new_port r) news)) (ends_of_class m z (at_heap (old_port r) olds))) (ties_of m (at_heap (new_port r) news) (at_heap (old_port r) olds) zs))

-- and make nothing
pub prepares_tied : (r : Registers) (m : ℕ → ℕ) (news : List (NewPort × ℕ)) (olds : List (AtomPort × ℕ)) (zs : List ℕ) (s t : Heap) → Prepares r (links_code m news olds zs) s t → t ≡ s
prepares_tied r m news olds [] s t w = w
prepares_tied r m news olds (z ∷ zs) s t w =
    let v = prepares_append r (link_code (ends_of_class m z news) (ends_of_class m z olds)) (links_code m news olds zs) s t w in
    prepares_tied r m news olds zs v.0 t v.2 ∙ class_prepares r (ends_of_class m z news) (ends_of_class m z olds) s v.0 v.1
