-- The flat head of verified code: its items are what the head finds.
use Rattle.std.proofs.Common.{◌≡◌, ◌≢◌, ◌<◌, ◌+◌, ◌∙◌, inl, ℕ, zero, suc, true, not, List, [], ◌∷◌, ◌++◌, map, length, length-append, Option, Some, None, refl, sym, ap, subst, arith, true≢false}
use Rattle.std.specs.Prelude.{slice_get, slice_index_or}
use Rattle.std.specs.List.{filter_map, list_all}
use Rattle.std.proofs.lemmas.Bool.{ltb-true}
use Rattle.std.proofs.lemmas.Option.{get_or_from_slice_get}
use Rattle.std.proofs.lemmas.List.{length-map}
use Rattle.lmn_base.specs.Graphs.{Port}
use Rattle.lmn_base.proofs.Lists.{get_front, get_there}
use Rattle.lmn_base.proofs.Truth.{and_true}
use Rattle.lmn_congruence_splice.specs.Classes.{rising}
use Rattle.lmn_congruence_splice.specs.Splice.{IsOneOf}
use Rattle.lmn_congruence_splice.proofs.Common.{in_front}
use Rattle.lmn_solid_heads.specs.Heads.{HeadAtom, HeadTyped, HeadMembrane, atoms_of, typed_contexts_of, membranes_of}
use Rattle.lmn_solid_heads.specs.Embeddings.{HasAtom, HasTyped, HasLink}
use Rattle.lmn_compile_head.proofs.Holding.{each_at, each_at_first}
use Rattle.lmn_instr_code.specs.declared.instr.NewPort.{NewPort}
use Rattle.lmn_instr_code.specs.declared.instr.NewPort.TheVariants as new
use Rattle.lmn_instr_code.specs.declared.instr.Code.{Code}
use Rattle.lmn_instr_code.specs.declared.instr.Instr.{Instr}
use Rattle.lmn_instr_code.specs.declared.instr.Instr.TheVariants.{FindAtom, Deref, Func, InMem, IsInt, IsUnary, IsGround}
use Rattle.lmn_instr_code.specs.Running.{atoms_set, membranes_set}
use Rattle.lmn_machine.specs.Searching.{parts_set}
use Rattle.lmn_verify_code.specs.declared.found.FoundAtom.{FoundAtom}
use Rattle.lmn_verify_code.specs.declared.found.FoundMembrane.{FoundMembrane}
use Rattle.lmn_verify_code.specs.declared.found.FoundPart.{FoundPart}
use Rattle.lmn_verify_code.specs.Verified.{IsVerified, all_looked_at, arities, arity_made, atoms_found, found_behind, has_port, looks_at, membranes_found, named_ports, nothing_left, part_found, parts_found, port_of_register, ports_of, ports_of_registers, rest_dropped}
use Rattle.lmn_verify_laws.specs.Flat.{atom_item, membrane_item, typed_item, flat_head, link_in, linked_by, links_in}
use Rattle.lmn_verify_laws.proofs.Finds.{Found, IsAtomAt, IsMembraneAt, IsPartAt, found}
use Rattle.lmn_verify_laws.proofs.Links.{in_registers, link_is, part_place, part_ports, port_or}
use Rattle.lmn_verify_laws.proofs.Listed.{all_is, get_image, get_mapped, get_one}
use Rattle.lmn_verify_laws.proofs.Ready.{verified_is_in_order}

-- ---- items as lists

-- an atom, a typed context and a membrane of the flat head
abbrev pub head_atom : Code → FoundAtom → HeadAtom
head_atom code a = record { functor = a.functor; links = links_in code a.atom a.functor.arity; inside = a.membrane }

-- the typed context of the flat head that is found so
abbrev pub head_typed : Code → FoundPart → HeadTyped
head_typed code p = record { name = p.part; kind = p.kind; link = link_in code (new.Atom p.port); inside = p.membrane }

-- the membrane of the flat head that is found so
abbrev pub head_membrane : Code → FoundMembrane → HeadMembrane
head_membrane code m = record { inside = m.inside; has_context = not (nothing_left code m.membrane); has_closed_context = rest_dropped code m.membrane; has_rule_context = true }

atoms_listed : (code : Code) (ms : List FoundMembrane) (as' : List FoundAtom) (ps : List FoundPart) →
    atoms_of (map (membrane_item code) ms ++ (map (atom_item code) as' ++ map (typed_item code) ps)) ≡ map (head_atom code) as'
atoms_listed code [] [] [] = refl
atoms_listed code [] [] (p ∷ ps) = atoms_listed code [] [] ps
atoms_listed code [] (a ∷ as') ps = ap (λ l. head_atom code a ∷ l) (atoms_listed code [] as' ps)
atoms_listed code (m ∷ ms) as' ps = atoms_listed code ms as' ps

typed_listed : (code : Code) (ms : List FoundMembrane) (as' : List FoundAtom) (ps : List FoundPart) →
    typed_contexts_of (map (membrane_item code) ms ++ (map (atom_item code) as' ++ map (typed_item code) ps)) ≡ map (head_typed code) ps
typed_listed code [] [] [] = refl
typed_listed code [] [] (p ∷ ps) = ap (λ l. head_typed code p ∷ l) (typed_listed code [] [] ps)
typed_listed code [] (a ∷ as') ps = typed_listed code [] as' ps
typed_listed code (m ∷ ms) as' ps = typed_listed code ms as' ps

membranes_listed : (code : Code) (ms : List FoundMembrane) (as' : List FoundAtom) (ps : List FoundPart) →
    membranes_of (map (membrane_item code) ms ++ (map (atom_item code) as' ++ map (typed_item code) ps)) ≡ map (head_membrane code) ms
membranes_listed code [] [] [] = refl
membranes_listed code [] [] (p ∷ ps) = membranes_listed code [] [] ps
membranes_listed code [] (a ∷ as') ps = membranes_listed code [] as' ps
membranes_listed code (m ∷ ms) as' ps = ap (λ l. head_membrane code m ∷ l) (membranes_listed code ms as' ps)

-- the atoms, typed contexts and membranes of the flat head
pub atoms_are : (code : Code) → atoms_of (flat_head code) ≡ map (head_atom code) (atoms_found code.head)
atoms_are code = atoms_listed code (membranes_found code.head) (atoms_found code.head) (parts_found code.head)

-- the typed contexts of the flat head are those that are found
pub typed_are : (code : Code) → typed_contexts_of (flat_head code) ≡ map (head_typed code) (parts_found code.head)
typed_are code = typed_listed code (membranes_found code.head) (atoms_found code.head) (parts_found code.head)

-- and its membranes
pub membranes_are : (code : Code) → membranes_of (flat_head code) ≡ map (head_membrane code) (membranes_found code.head)
membranes_are code = membranes_listed code (membranes_found code.head) (atoms_found code.head) (parts_found code.head)

-- as many as are found
pub atom_count : (code : Code) → length (atoms_of (flat_head code)) ≡ length (atoms_found code.head)
atom_count code = ap length (atoms_are code) ∙ length-map (atoms_found code.head) (head_atom code)

-- so many typed contexts are found
pub typed_count : (code : Code) → length (typed_contexts_of (flat_head code)) ≡ length (parts_found code.head)
typed_count code = ap length (typed_are code) ∙ length-map (parts_found code.head) (head_typed code)

-- and so many membranes
pub membrane_count : (code : Code) → length (membranes_of (flat_head code)) ≡ length (membranes_found code.head)
membrane_count code = ap length (membranes_are code) ∙ length-map (membranes_found code.head) (head_membrane code)

-- ---- numbers of a list

-- so many numbers on from one have it at their places
pub rising_get : (b n i j : ℕ) → slice_get (rising b n) i ≡ Some j → (j ≡ b + i) × (i < n)
rising_get b zero i j e = absurd (cc)
rising_get b (suc n) zero j e = (let s : Some b ≡ Some j = e in let t : b ≡ j = cc in omega (arith, t), omega arith)
rising_get b (suc n) (suc i) j e = let w = rising_get (suc b) n i j e in (let s = w.0 in omega (arith, s), let s = w.1 in omega (arith, s))

-- and each place has its number
pub get_rising : (b n i : ℕ) → i < n → slice_get (rising b n) i ≡ Some (b + i)
get_rising b zero i l = absurd (omega (arith, l))
get_rising b (suc n) zero l = let z : b ≡ b + 0 = omega arith in ap Some z
get_rising b (suc n) (suc i) l = let z : suc b + i ≡ b + suc i = omega arith in get_rising (suc b) n i (omega (arith, l)) ∙ ap Some z

-- ---- counts

behind_one : (x : ℕ) (is : List Instr) → looks_at x is ≡ true → length (found_behind x is) ≡ 1
behind_one x [] e = absurd (true≢false (sym e))
behind_one x (Func b f ∷ []) e = absurd (true≢false (sym e))
behind_one x (Func b f ∷ (InMem d w ∷ is)) e = refl
behind_one x (Func b f ∷ (_ ∷ is)) e = absurd (true≢false (sym e))
behind_one x (_ ∷ is) e = absurd (true≢false (sym e))

-- a head finds as many atoms as it sets registers
pub atoms_counted : (is : List Instr) → all_looked_at is ≡ true → length (atoms_found is) ≡ atoms_set is
atoms_counted [] l = refl
atoms_counted (FindAtom x y f ∷ is) l = let r = atoms_counted is l in let s : suc (length (atoms_found is)) ≡ 1 + atoms_set is = omega (arith, r) in s
atoms_counted (Deref x p k ∷ is) l =
    let s = and_true (looks_at x is) (all_looked_at is) l in
    let r = atoms_counted is s.1 in
    let b = behind_one x is s.0 in
    let a = length-append (found_behind x is) (atoms_found is) in
    let t : length (found_behind x is ++ atoms_found is) ≡ 1 + atoms_set is = omega (arith, r, b, a) in t
atoms_counted (_ ∷ is) l = atoms_counted is l

-- and as many typed contexts
pub parts_counted : (is : List Instr) → length (parts_found is) ≡ parts_set is
parts_counted [] = refl
parts_counted (IsInt g p m ∷ is) = let r = parts_counted is in let s : suc (length (parts_found is)) ≡ 1 + parts_set is = omega (arith, r) in s
parts_counted (IsUnary g p m ∷ is) = let r = parts_counted is in let s : suc (length (parts_found is)) ≡ 1 + parts_set is = omega (arith, r) in s
parts_counted (IsGround g p m ∷ is) = let r = parts_counted is in let s : suc (length (parts_found is)) ≡ 1 + parts_set is = omega (arith, r) in s
parts_counted (_ ∷ is) = parts_counted is

-- ---- the ports before typed contexts

part_has_port : (ns : List ℕ) (i : Instr) (x : FoundPart) → part_found i ≡ Some x → list_all (has_port ns) (named_ports i) ≡ true → has_port ns (new.Atom x.port) ≡ true
part_has_port ns (IsInt g p m) x e t = ap (λ o. has_port ns (new.Atom (port_or p o))) (sym e) ∙ (and_true (has_port ns (new.Atom p)) true t).0
part_has_port ns (IsUnary g p m) x e t = ap (λ o. has_port ns (new.Atom (port_or p o))) (sym e) ∙ (and_true (has_port ns (new.Atom p)) true t).0
part_has_port ns (IsGround g p m) x e t = ap (λ o. has_port ns (new.Atom (port_or p o))) (sym e) ∙ (and_true (has_port ns (new.Atom p)) true t).0
part_has_port ns _ x e t = absurd (cc)

-- the typed context that an instruction finds, and its number
abbrev found_or : Option Instr → Option FoundPart
found_or None = None
found_or (Some i) = part_found i

abbrev number_or : Option FoundPart → ℕ
number_or None = 0
number_or (Some p) = p.part

-- ---- verified code

module _ (code : Code) (k : ℕ) (v : IsVerified code k) where
  -- all that the head finds, by its numbers
  pub all_found : Found (atoms_set code.head) (1 + membranes_set code.head) (parts_set code.head) 0 1 0 code.head
  all_found =
      let za : 0 + atoms_set code.head ≡ atoms_set code.head = omega arith in
      let zg : 0 + parts_set code.head ≡ parts_set code.head = omega arith in
      found (atoms_set code.head) (1 + membranes_set code.head) (parts_set code.head) code.head 0 1 0 0 (verified_is_in_order code k v).head v.looked_at za refl zg

  -- an atom of the flat head, with what is found
  pub atom_found : (n : ℕ) (x : HeadAtom) → HasAtom (flat_head code) n x → (a : FoundAtom) × (slice_get (atoms_found code.head) n ≡ Some a) × (head_atom code a ≡ x) × (a.atom ≡ n) × (a.membrane < 1 + membranes_set code.head)
  atom_found n x e =
      let w = get_mapped (head_atom code) (atoms_found code.head) n x (subst (λ l. slice_get l n ≡ Some x) (atoms_are code) e) in
      let u = each_at_first (IsAtomAt (atoms_set code.head) (1 + membranes_set code.head) (parts_set code.head)) (atoms_found code.head) n w.0 all_found.atoms w.1 in
      (w.0, w.1, w.2, u.0, u.1)

  -- a membrane, by its index
  pub membrane_found_at : (i : ℕ) (b : HeadMembrane) → slice_get (membranes_of (flat_head code)) i ≡ Some b → (m : FoundMembrane) × (slice_get (membranes_found code.head) i ≡ Some m) × (head_membrane code m ≡ b) × (m.membrane ≡ suc i) × (m.inside < suc i)
  membrane_found_at i b e =
      let w = get_mapped (head_membrane code) (membranes_found code.head) i b (subst (λ l. slice_get l i ≡ Some b) (membranes_are code) e) in
      let u = each_at (IsMembraneAt (atoms_set code.head) (1 + membranes_set code.head) (parts_set code.head)) 1 (membranes_found code.head) i w.0 all_found.membranes w.1 in
      (w.0, w.1, w.2, (let s = u.0 in omega (arith, s)), (let s = u.1 in omega (arith, s)))

  -- a typed context
  pub typed_found : (g : ℕ) (t : HeadTyped) → HasTyped (flat_head code) g t → (p : FoundPart) × (slice_get (parts_found code.head) g ≡ Some p) × (head_typed code p ≡ t) × (p.part ≡ g) × (p.membrane < 1 + membranes_set code.head) × (p.port.atom < atoms_set code.head)
  typed_found g t e =
      let w = get_mapped (head_typed code) (parts_found code.head) g t (subst (λ l. slice_get l g ≡ Some t) (typed_are code) e) in
      let u = each_at_first (IsPartAt (atoms_set code.head) (1 + membranes_set code.head) (parts_set code.head)) (parts_found code.head) g w.0 all_found.parts w.1 in
      (w.0, w.1, w.2, u.0, u.1, u.2)

  -- A port of a head atom is one of those that stand once.
  pub head_port : (n i : ℕ) (a : FoundAtom) → slice_get (atoms_found code.head) n ≡ Some a → i < a.functor.arity → IsOneOf (new.Atom (port_of_register n i)) (ports_of code)
  head_port n i a e l =
      let ns = map (λ (x : FoundAtom). x.functor.arity) (atoms_found code.head) in
      let s = get_front ns (filter_map arity_made code.body) n a.functor.arity (get_image (λ (x : FoundAtom). x.functor.arity) (atoms_found code.head) n a e) in
      let z : 0 + n ≡ n = omega arith in
      in_front (new.Atom (port_of_register n i)) (ports_of_registers 0 (arities code)) _
      (subst (λ b. IsOneOf (new.Atom (port_of_register b i)) (ports_of_registers 0 (arities code))) z (in_registers 0 (arities code) n i a.functor.arity s l))

  -- A link of the flat head is that at a port of an atom that is found.
  pub link_found : (x : ℕ) (p : Port) → HasLink (flat_head code) x p → (a : FoundAtom) × (slice_get (atoms_found code.head) p.0 ≡ Some a) × (p.1 < a.functor.arity) × (link_in code (new.Atom (port_of_register p.0 p.1)) ≡ x)
  link_found x p w =
      let u = atom_found p.0 w.0 w.1 in
      let l : slice_get (links_in code u.0.atom u.0.functor.arity) p.1 ≡ Some x = subst (λ (y : HeadAtom). slice_get y.links p.1 ≡ Some x) (sym u.2) w.2 in
      let s = get_mapped (λ i. link_in code (new.Atom (port_of_register u.0.atom i))) (rising 0 u.0.functor.arity) p.1 x l in
      let t = rising_get 0 u.0.functor.arity p.1 s.0 s.1 in
      let z : s.0 ≡ p.1 = (let y = t.0 in omega (arith, y)) in
      (u.0, u.1, t.1, (λ j. link_in code (new.Atom (port_of_register (sym u.3 j) (sym z j)))) ∙ s.2)

  -- The port before a typed context is one of its atom.
  pub part_port : (i : Instr) (x : FoundPart) → IsOneOf i code.head → part_found i ≡ Some x → x.port.atom < atoms_set code.head → (a : FoundAtom) × (slice_get (atoms_found code.head) x.port.atom ≡ Some a) × (x.port.port < a.functor.arity)
  part_port i x o e l =
      let n = atoms_counted code.head v.looked_at in
      let a = get_there (atoms_found code.head) x.port.atom (omega (arith, l, n)) in
      let named = all_is (λ i. list_all (has_port (arities code)) (named_ports i)) (code.head ++ code.body) i v.ports (in_front i code.head code.body o) in
      let has = part_has_port (arities code) i x e named in
      let get : slice_get (arities code) x.port.atom ≡ Some a.0.functor.arity =
      get_front (map (λ (y : FoundAtom). y.functor.arity) (atoms_found code.head)) (filter_map arity_made code.body) x.port.atom a.0.functor.arity (get_image (λ (y : FoundAtom). y.functor.arity) (atoms_found code.head) x.port.atom a.0 a.1) in
      let less = ltb-true x.port.port (slice_index_or (arities code) x.port.atom 0) has in
      (a.0, a.1, subst (λ z. x.port.port < z) (get_or_from_slice_get (arities code) x.port.atom a.0.functor.arity 0 get) less)

  -- A typed context is found by one instruction, whose place gives the number of its link.
  pub typed_link : (g : ℕ) (t : HeadTyped) → HasTyped (flat_head code) g t → (x : FoundPart) × (at : ℕ) × (i : Instr) × (slice_get (parts_found code.head) g ≡ Some x) × (slice_get code.head at ≡ Some i) × (part_found i ≡ Some x) × (x.part ≡ g) × (head_typed code x ≡ t) × (t.link ≡ at + at)
  typed_link g t e =
      let w = typed_found g t e in
      let at = part_place code.head g w.0 w.1 in
      let is = code.head ++ code.body in
      let P : NewPort = new.Atom w.0.port in
      let get = get_front code.head code.body at.0 at.1 at.2 in
      let a = part_port at.1 w.0 (get_one code.head at.0 at.1 at.2) at.3 w.5 in
      let one = head_port w.0.port.atom w.0.port.port a.0 a.1 a.2 in
      let here : IsOneOf (P, at.0 + at.0) (linked_by (at.0 + at.0) at.1) = subst (λ l. IsOneOf {A = NewPort × ℕ} (P, at.0 + at.0) l) (sym (part_ports (at.0 + at.0) at.1 w.0 at.3)) (inl refl) in
      let link : link_in code P ≡ at.0 + at.0 = link_is is (ports_of code) P at.0 (at.0 + at.0) at.1 v.once one get here in
      (w.0, at.0, at.1, w.1, at.2, at.3, w.3, w.2, sym (ap (λ (z : HeadTyped). z.link) w.2) ∙ link)

  -- The link of a typed context stands at an atom.
  pub typed_held : (g : ℕ) (t : HeadTyped) → HasTyped (flat_head code) g t → (p : Port) × HasLink (flat_head code) t.link p
  typed_held g t e =
      let w = typed_found g t e in
      let at = part_place code.head g w.0 w.1 in
      let a = part_port at.1 w.0 (get_one code.head at.0 at.1 at.2) at.3 w.5 in
      let i = w.0.port.port in
      let here : HasAtom (flat_head code) w.0.port.atom (head_atom code a.0) = subst (λ l. slice_get l w.0.port.atom ≡ Some (head_atom code a.0)) (sym (atoms_are code)) (get_image (head_atom code) (atoms_found code.head) w.0.port.atom a.0 a.1) in
      let number : a.0.atom ≡ w.0.port.atom = (each_at_first (IsAtomAt (atoms_set code.head) (1 + membranes_set code.head) (parts_set code.head)) (atoms_found code.head) w.0.port.atom a.0 all_found.atoms a.1).0 in
      let z : 0 + i ≡ i = omega arith in
      let get : slice_get (links_in code a.0.atom a.0.functor.arity) i ≡ Some (link_in code (new.Atom (port_of_register a.0.atom (0 + i)))) =
      get_image (λ i. link_in code (new.Atom (port_of_register a.0.atom i))) (rising 0 a.0.functor.arity) i (0 + i) (get_rising 0 a.0.functor.arity i a.2) in
      let same : link_in code (new.Atom (port_of_register a.0.atom (0 + i))) ≡ t.link = (λ j. link_in code (new.Atom (port_of_register (number j) (z j)))) ∙ ap (λ (y : HeadTyped). y.link) w.2 in
      ((w.0.port.atom, i), (head_atom code a.0, here, get ∙ ap Some same))

  -- Different typed contexts have different links.
  pub typed_once : (g j : ℕ) (t u : HeadTyped) → HasTyped (flat_head code) g t → HasTyped (flat_head code) j u → g ≢ j → t.link ≢ u.link
  typed_once g j t u e f d s =
      let x = typed_link g t e in
      let y = typed_link j u f in
      let same : x.1 ≡ y.1 = (let a = x.8 in let b = y.8 in omega (arith, a, b, s)) in
      let instr : Some x.2 ≡ Some y.2 = sym x.4 ∙ ap (slice_get code.head) same ∙ y.4 in
      let part : Some x.0 ≡ Some y.0 = sym x.5 ∙ ap found_or instr ∙ y.5 in
      d (sym x.6 ∙ ap number_or part ∙ y.6)
