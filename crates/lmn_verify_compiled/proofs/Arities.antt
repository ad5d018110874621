-- How many ports the atoms have that code finds and makes.
use Rattle.std.proofs.Common.{◌≡◌, ◌<◌, ◌+◌, ℕ, zero, suc, true, false, List, [], ◌∷◌, ◌++◌, length, map, refl, sym, ap, ◌∙◌, arith, true≢false}
use Rattle.std.specs.Prelude.{Some, slice_get, slice_index_or, nat_lt, filter_map}
use Rattle.std.proofs.lemmas.Bool.{lt-ltb}
use Rattle.std.proofs.lemmas.List.{append_assoc}
use Rattle.lmn_base.proofs.Lists.{plus_nothing, get_front, read_or as index_is}
use Rattle.lmn_base.specs.declared.guard.Cond.{Cond}
use Rattle.lmn_solid_heads.specs.declared.items.HeadItem.{HeadItem}
use Rattle.lmn_solid_heads.specs.Heads.{HeadAtom, atoms_of, membranes_of}
use Rattle.lmn_congruence_splice.specs.Classes.{class_of, rising}
use Rattle.lmn_instr_code.specs.declared.instr.Instr.{Instr}
use Rattle.lmn_instr_code.specs.declared.instr.Instr.TheVariants.{NewAtom, NewInt, Proceed}
use Rattle.lmn_instr_code.specs.HeadCode.{head_code}
use Rattle.lmn_solid_bodies.specs.declared.items.BodyItem.{BodyItem}
use Rattle.lmn_solid_bodies.specs.declared.items.BodyItem.TheVariants.{Atom, Connector, Copy, Bound, Membrane, Rest, Rule, Rules}
use Rattle.lmn_solid_bodies.specs.Code.{making, drops, links_code, body_code}
use Rattle.lmn_solid_bodies.specs.Items.{new_ports, old_ports, connectors}
use Rattle.lmn_verify_code.specs.Verified.{arity_made, arities}
use Rattle.lmn_verify_compiled.proofs.Finding.{numbered, found_atom, head_finds}
use Rattle.lmn_verify_compiled.proofs.BodyShapes.{makes_none, removed, dropped, tied}

-- how many ports the atoms of a body have
abbrev pub made_arities : List BodyItem → List ℕ
made_arities [] = []
made_arities (Atom functor links inside ∷ xs) = functor.arity ∷ made_arities xs
made_arities (Connector left right ∷ xs) = made_arities xs
made_arities (Copy part link inside ∷ xs) = made_arities xs
made_arities (Bound integer link inside ∷ xs) = 1 ∷ made_arities xs
made_arities (Membrane inside ∷ xs) = made_arities xs
made_arities (Rest of closed inside ∷ xs) = made_arities xs
made_arities (Rule rule inside ∷ xs) = made_arities xs
made_arities (Rules of inside ∷ xs) = made_arities xs

-- and those of a head and then those of a body
abbrev pub all_arities : List HeadItem → List BodyItem → List ℕ
all_arities head body = map (λ (a : HeadAtom). a.functor.arity) (atoms_of head) ++ made_arities body

-- code in which no atom is made
abbrev MakesNoAtom : List Instr → Type 0
MakesNoAtom xs = (ys : List Instr) → filter_map arity_made (xs ++ ys) ≡ filter_map arity_made ys

none_both : (xs ys : List Instr) → MakesNoAtom xs → MakesNoAtom ys → MakesNoAtom (xs ++ ys)
none_both xs ys h g zs = ap (filter_map arity_made) (append_assoc xs ys zs) ∙ h (ys ++ zs) ∙ g zs

none_one : (i : Instr) → makes_none i ≡ true → MakesNoAtom (i ∷ [])
none_one (NewAtom _ _ _) h ys = absurd (true≢false (sym h))
none_one (NewInt _ _ _) h ys = absurd (true≢false (sym h))
none_one _ h ys = refl

making_makes : (a m c : ℕ) (body : List BodyItem) (ys : List Instr) → filter_map arity_made (making a m c body ++ ys) ≡ made_arities body ++ filter_map arity_made ys
making_makes a m c [] ys = refl
making_makes a m c (Atom functor links inside ∷ xs) ys = ap (λ t. functor.arity ∷ t) (making_makes (a + 1) m c xs ys)
making_makes a m c (Connector left right ∷ xs) ys = making_makes a m c xs ys
making_makes a m c (Copy part link inside ∷ xs) ys = making_makes a m (c + 1) xs ys
making_makes a m c (Bound integer link inside ∷ xs) ys = ap (λ t. 1 ∷ t) (making_makes (a + 1) m c xs ys)
making_makes a m c (Membrane inside ∷ xs) ys = making_makes a (m + 1) c xs ys
making_makes a m c (Rest of true inside ∷ xs) ys = making_makes a m c xs ys
making_makes a m c (Rest of false inside ∷ xs) ys = making_makes a m c xs ys
making_makes a m c (Rule rule inside ∷ xs) ys = making_makes a m c xs ys
making_makes a m c (Rules of inside ∷ xs) ys = making_makes a m c xs ys

body_makes : (head : List HeadItem) (body : List BodyItem) (n : ℕ) → filter_map arity_made (body_code head body n) ≡ made_arities body
body_makes head body n =
    let a = length (atoms_of head) in
    let made = making a (1 + length (membranes_of head)) 0 body in
    let ds = drops 1 (membranes_of head) in
    let ls = links_code (class_of (connectors body)) (new_ports a 0 body) (old_ports head) (rising 0 n) in
    removed MakesNoAtom (λ zs. refl) none_both none_one head (made ++ (ds ++ (ls ++ (Proceed ∷ []))))
    ∙ making_makes a (1 + length (membranes_of head)) 0 body (ds ++ (ls ++ (Proceed ∷ [])))
    ∙ ap (λ t. made_arities body ++ t) (dropped MakesNoAtom (λ zs. refl) none_both none_one 1 (membranes_of head) (ls ++ (Proceed ∷ []))
    ∙ tied MakesNoAtom (λ zs. refl) none_both none_one (class_of (connectors body)) (new_ports a 0 body) (old_ports head) (rising 0 n) (Proceed ∷ []))
    ∙ plus_nothing (made_arities body)

found_arities : (n : ℕ) (as' : List HeadAtom) → map (λ a. a.functor.arity) (numbered found_atom n as') ≡ map (λ (a : HeadAtom). a.functor.arity) as'
found_arities n [] = refl
found_arities n (a ∷ as') = ap (λ t. a.functor.arity ∷ t) (found_arities (n + 1) as')

-- The atoms of the code of a rule have as many ports as those of its items.
pub arities_are : (head : List HeadItem) (guard : List Cond) (body : List BodyItem) (n : ℕ) → arities (record { head = head_code head guard; body = body_code head body n }) ≡ all_arities head body
arities_are head guard body n =
    (λ i. map (λ a. a.functor.arity) (head_finds head guard i) ++ body_makes head body n i)
    ∙ ap (λ t. t ++ made_arities body) (found_arities 0 (atoms_of head))

-- ---- which ports an atom has

-- the port i is one of the atom in register a, by how many ports atoms have
abbrev pub IsPortOf : List ℕ → ℕ → ℕ → Type 0
IsPortOf ns a i = nat_lt i (slice_index_or ns a 0) ≡ true

pub port_of : (ns : List ℕ) (a i v : ℕ) → slice_get ns a ≡ Some v → i < v → IsPortOf ns a i
port_of ns a i v e l = let same = index_is ns a v e in lt-ltb i (slice_index_or ns a 0) (omega (arith, same, l))

get_arity : (as' : List HeadAtom) (k : ℕ) (a : HeadAtom) → slice_get as' k ≡ Some a → slice_get (map (λ (b : HeadAtom). b.functor.arity) as') k ≡ Some a.functor.arity
get_arity [] k a e = absurd (cc)
get_arity (b ∷ as') zero a e = cc
get_arity (b ∷ as') (suc k) a e = get_arity as' k a e

-- an atom of the head has its arity
pub head_arity : (head : List HeadItem) (body : List BodyItem) (k : ℕ) (a : HeadAtom) → slice_get (atoms_of head) k ≡ Some a → slice_get (all_arities head body) k ≡ Some a.functor.arity
head_arity head body k a e = get_front (map (λ (b : HeadAtom). b.functor.arity) (atoms_of head)) (made_arities body) k a.functor.arity (get_arity (atoms_of head) k a e)

get_behind : (xs : List HeadAtom) (ys : List ℕ) (k : ℕ) → slice_get (map (λ (b : HeadAtom). b.functor.arity) xs ++ ys) (length xs + k) ≡ slice_get ys k
get_behind [] ys k = let e : 0 + k ≡ k = omega arith in ap (slice_get ys) e
get_behind (x ∷ xs) ys k =
    let next : suc (length xs + k) ≡ suc (length xs) + k = omega arith in
    ap (slice_get (x.functor.arity ∷ (map (λ (b : HeadAtom). b.functor.arity) xs ++ ys))) (sym next) ∙ get_behind xs ys k

-- and one that the body makes
pub body_arity : (head : List HeadItem) (body : List BodyItem) (k : ℕ) → slice_get (all_arities head body) (length (atoms_of head) + k) ≡ slice_get (made_arities body) k
body_arity head body k = get_behind (atoms_of head) (made_arities body) k
