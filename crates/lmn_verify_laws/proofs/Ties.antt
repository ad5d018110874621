-- What ties in the body of verified code is what ties the links of its flat rule, but for the order of two operands.
use Rattle.std.proofs.Common.{◌≡◌, ◌<◌, ◌≤◌, ◌+◌, ◌⊎◌, ◌∙◌, inl, inr, ℕ, zero, suc, List, [], ◌∷◌, ◌++◌, map, length, Some, refl, sym, ap, subst, arith}
use Rattle.std.specs.Prelude.{slice_get}
use Rattle.std.specs.List.{filter_map}
use Rattle.std.proofs.lemmas.List.{map-append}
use Rattle.lmn_congruence_splice.specs.Classes.{rising}
use Rattle.lmn_congruence_splice.specs.Splice.{IsOneOf}
use Rattle.lmn_congruence_splice.proofs.Common.{in_append, in_front, in_back}
use Rattle.lmn_solid_bodies.specs.declared.items.BodyItem.{BodyItem}
use Rattle.lmn_solid_bodies.specs.Items.{connectors, new_ports, new_ports_from}
use Rattle.lmn_machine_commit.specs.Preparing.{BodyInOrder, membranes_made}
use Rattle.lmn_machine.specs.Searching.{HeadInOrder}
use Rattle.lmn_instr_code.specs.declared.instr.AtomPort.{AtomPort}
use Rattle.lmn_instr_code.specs.declared.instr.NewPort.{NewPort}
use Rattle.lmn_instr_code.specs.declared.instr.NewPort.TheVariants as new
use Rattle.lmn_instr_code.specs.declared.instr.Code.{Code}
use Rattle.lmn_instr_code.specs.declared.instr.Instr.{Instr}
use Rattle.lmn_instr_code.specs.declared.instr.Instr.TheVariants.{FindAtom, Deref, AnyMem, Joined, IsInt, IsUnary, IsGround, GetInt, Const, Add, Sub, Mul, Div, Mod, NewAtom, NewInt, NewMem, CopyGround, MoveCells, CopyCells, LoadRule, CopyRules, NewLink, Relink, Unify}
use Rattle.lmn_instr_code.specs.Running.{atoms_set}
use Rattle.lmn_verify_code.specs.Verified.{arity_made, is_copy, places, port_of_register, ports_of_registers}
use Rattle.lmn_verify_laws.specs.Flat.{connected, link_in, linked_by, made_item}
use Rattle.lmn_verify_laws.proofs.Classes.{JoinsNext}
use Rattle.lmn_verify_laws.proofs.Links.{atom_port_is, mapped_number}
use Rattle.lmn_verify_laws.proofs.Listed.{passing}

-- ---- wires

-- what a body makes has no connectors
pub no_wires : (code : Code) (k : ℕ) (js is : List Instr) → connectors (filter_map (made_item code) is ++ connected k js) ≡ connectors (connected k js)
no_wires code k js [] = refl
no_wires code k js (NewAtom _ _ _ ∷ is) = no_wires code k js is
no_wires code k js (NewInt _ _ _ ∷ is) = no_wires code k js is
no_wires code k js (NewMem _ _ ∷ is) = no_wires code k js is
no_wires code k js (CopyGround _ _ _ ∷ is) = no_wires code k js is
no_wires code k js (MoveCells _ _ ∷ is) = no_wires code k js is
no_wires code k js (CopyCells _ _ ∷ is) = no_wires code k js is
no_wires code k js (LoadRule _ _ ∷ is) = no_wires code k js is
no_wires code k js (CopyRules _ _ ∷ is) = no_wires code k js is
no_wires code k js (_ ∷ is) = no_wires code k js is

-- each connector joins the two numbers of an instruction
pub wires_next : (j : ℕ) (js : List Instr) → JoinsNext (connectors (connected (j + j) js))
wires_next j [] e i = absurd i
wires_next j (Unify p q ∷ js) e (inl s) = (j, sym s)
wires_next j (Unify p q ∷ js) e (inr i) = let z : (j + j) + 2 ≡ (j + 1) + (j + 1) = omega arith in wires_next (j + 1) js e (subst (λ n. IsOneOf e (connectors (connected n js))) z i)
wires_next j (_ ∷ js) e i = let z : (j + j) + 2 ≡ (j + 1) + (j + 1) = omega arith in wires_next (j + 1) js e (subst (λ n. IsOneOf e (connectors (connected n js))) z i)

-- the two numbers of the instruction at a place
abbrev pub wire : ℕ → ℕ × ℕ
wire t = (t + t, (t + t) + 1)

-- they are joined where it is UNIFY
pub wire_here : (j t : ℕ) (js : List Instr) (p q : AtomPort) → slice_get js t ≡ Some (Unify p q) → IsOneOf (wire (j + t)) (connectors (connected (j + j) js))
wire_here j t [] p q e = absurd (cc)
wire_here j zero (i ∷ js) p q e =
    let same : Unify p q ≡ i = (let s : Some i ≡ Some (Unify p q) = e in cc) in
    let z : j ≡ j + 0 = omega arith in
    subst (λ x. IsOneOf (wire (j + 0)) (connectors (connected (j + j) (x ∷ js)))) same (inl (ap wire z))
wire_here j (suc t) (i ∷ js) p q e =
    let z : (j + 1) + (j + 1) ≡ (j + j) + 2 = omega arith in
    let y : (j + 1) + t ≡ j + suc t = omega arith in
    more i (subst (λ n. IsOneOf (wire n) (connectors (connected ((j + j) + 2) js))) y (subst (λ n. IsOneOf (wire ((j + 1) + t)) (connectors (connected n js))) z (wire_here (j + 1) t js p q e)))
  where
    more : (i : Instr) → IsOneOf (wire (j + suc t)) (connectors (connected ((j + j) + 2) js)) → IsOneOf (wire (j + suc t)) (connectors (connected (j + j) (i ∷ js)))
    more (Unify _ _) o = inr o
    more _ o = o

-- ---- numbers

-- an instruction has its first number at its ports, but at the second one of UNIFY
pub number_kind : (k : ℕ) (i : Instr) (e : NewPort × ℕ) → IsOneOf e (linked_by k i) → (e.1 ≡ k) ⊎ ((e.1 ≡ k + 1) × ((p : AtomPort) × (q : AtomPort) × (i ≡ Unify p q)))
number_kind k (Unify p q) e (inl s) = inl (λ j. (sym s j).1)
number_kind k (Unify p q) e (inr (inl s)) = inr ((λ j. (sym s j).1), (p, q, refl))
number_kind k (Unify p q) e (inr (inr i)) = absurd i
number_kind k i e o = inl (mapped_number k (places i) e o).0

-- what is at a number of an instruction is one of its places
pub place_of : (k : ℕ) (i : Instr) (e : NewPort × ℕ) → IsOneOf e (linked_by k i) → IsOneOf e.0 (places i)
place_of k (Unify p q) e (inl s) = inl (λ j. (s j).0)
place_of k (Unify p q) e (inr (inl s)) = inr (inl (λ j. (s j).0))
place_of k (Unify p q) e (inr (inr i)) = absurd i
place_of k i e o = (mapped_number k (places i) e o).1

-- ---- new ports

-- the ports that a body makes, in order
abbrev pub new_list : ℕ → ℕ → List Instr → List NewPort
new_list a c [] = []
new_list a c (NewAtom y n f ∷ js) = map (λ i. new.Atom (port_of_register a i)) (rising 0 f.arity) ++ new_list (a + 1) c js
new_list a c (NewInt y n u ∷ js) = new.Atom (port_of_register a 0) ∷ new_list (a + 1) c js
new_list a c (CopyGround y n u ∷ js) = new.Copy c ∷ new_list a (c + 1) js
new_list a c (_ ∷ js) = new_list a c js

-- a port that a body makes is one of its registers, or a copy
pub of_new : (a c : ℕ) (js : List Instr) (p : NewPort) → IsOneOf p (new_list a c js) → IsOneOf p (ports_of_registers a (filter_map arity_made js)) ⊎ IsOneOf p (map new.Copy (rising c (passing is_copy js)))
of_new a c [] p i = absurd i
of_new a c (NewAtom y n f ∷ js) p i = elim (in_append p (map (λ i. new.Atom (port_of_register a i)) (rising 0 f.arity)) (new_list (a + 1) c js) i) [
  | inl o ↦ inl (in_front p (map (λ i. new.Atom (port_of_register a i)) (rising 0 f.arity)) (ports_of_registers (a + 1) (filter_map arity_made js)) o)
  | inr o ↦ elim (of_new (a + 1) c js p o) [ inl w ↦ inl (in_back p (map (λ i. new.Atom (port_of_register a i)) (rising 0 f.arity)) (ports_of_registers (a + 1) (filter_map arity_made js)) w) | inr w ↦ inr w ]
]
of_new a c (NewInt y n u ∷ js) p (inl e) = inl (inl e)
of_new a c (NewInt y n u ∷ js) p (inr o) = elim (of_new (a + 1) c js p o) [ inl w ↦ inl (inr w) | inr w ↦ inr w ]
of_new a c (CopyGround y n u ∷ js) p (inl e) = inr (copies_first c (passing is_copy js) p (inl e))
  where
    copies_first : (c n : ℕ) (p : NewPort) → IsOneOf p (new.Copy c ∷ map new.Copy (rising (suc c) n)) → IsOneOf p (map new.Copy (rising c (1 + n)))
    copies_first c n p o = let z : suc n ≡ 1 + n = omega arith in subst (λ m. IsOneOf p (map new.Copy (rising c m))) z o
of_new a c (CopyGround y n u ∷ js) p (inr o) = elim (of_new a (c + 1) js p o) [ inl w ↦ inl w | inr w ↦ inr (copies_later c (passing is_copy js) p w) ]
  where
    copies_later : (c n : ℕ) (p : NewPort) → IsOneOf p (map new.Copy (rising (c + 1) n)) → IsOneOf p (map new.Copy (rising c (1 + n)))
    copies_later c n p o =
        let z : suc n ≡ 1 + n = omega arith in
        let y : c + 1 ≡ suc c = omega arith in
        subst (λ m. IsOneOf p (map new.Copy (rising c m))) z (inr (subst (λ m. IsOneOf p (map new.Copy (rising m n))) y o))
of_new a c (_ ∷ js) p i = of_new a c js p i

-- and each of these is made
pub in_new : (a c : ℕ) (js : List Instr) (p : NewPort) → IsOneOf p (ports_of_registers a (filter_map arity_made js)) ⊎ IsOneOf p (map new.Copy (rising c (passing is_copy js))) → IsOneOf p (new_list a c js)
in_new a c [] p (inl i) = i
in_new a c [] p (inr i) = i
in_new a c (NewAtom y n f ∷ js) p (inl i) = elim (in_append p (map (λ i. new.Atom (port_of_register a i)) (rising 0 f.arity)) (ports_of_registers (a + 1) (filter_map arity_made js)) i) [
  | inl o ↦ in_front p (map (λ i. new.Atom (port_of_register a i)) (rising 0 f.arity)) (new_list (a + 1) c js) o
  | inr o ↦ in_back p (map (λ i. new.Atom (port_of_register a i)) (rising 0 f.arity)) (new_list (a + 1) c js) (in_new (a + 1) c js p (inl o))
]
in_new a c (NewAtom y n f ∷ js) p (inr i) = in_back p (map (λ i. new.Atom (port_of_register a i)) (rising 0 f.arity)) (new_list (a + 1) c js) (in_new (a + 1) c js p (inr i))
in_new a c (NewInt y n u ∷ js) p (inl (inl e)) = inl e
in_new a c (NewInt y n u ∷ js) p (inl (inr o)) = inr (in_new (a + 1) c js p (inl o))
in_new a c (NewInt y n u ∷ js) p (inr o) = inr (in_new (a + 1) c js p (inr o))
in_new a c (CopyGround y n u ∷ js) p (inl o) = inr (in_new a (c + 1) js p (inl o))
in_new a c (CopyGround y n u ∷ js) p (inr o) = by (copies_are c (passing is_copy js) p o) (λ w. in_new a (c + 1) js p (inr w))
  where
    copies_are : (c n : ℕ) (p : NewPort) → IsOneOf p (map new.Copy (rising c (1 + n))) → (new.Copy c ≡ p) ⊎ IsOneOf p (map new.Copy (rising (c + 1) n))
    copies_are c n p o =
        let z : 1 + n ≡ suc n = omega arith in
        let y : suc c ≡ c + 1 = omega arith in
        elim (subst (λ m. IsOneOf p (map new.Copy (rising c m))) z o) [ inl e ↦ inl e | inr w ↦ inr (subst (λ m. IsOneOf p (map new.Copy (rising m n))) y w) ]

    by : (new.Copy c ≡ p) ⊎ IsOneOf p (map new.Copy (rising (c + 1) (passing is_copy js))) → (IsOneOf p (map new.Copy (rising (c + 1) (passing is_copy js))) → IsOneOf p (new_list a (c + 1) js)) → IsOneOf p (new.Copy c ∷ new_list a (c + 1) js)
    by (inl e) more = inl e
    by (inr w) more = inr (more w)
in_new a c (_ ∷ js) p i = in_new a c js p i

-- the registers whose ports these are
pub registers_range : (a : ℕ) (ns : List ℕ) (p : NewPort) → IsOneOf p (ports_of_registers a ns) → (q : AtomPort) × (p ≡ new.Atom q) × (a ≤ q.atom) × (q.atom < a + length ns)
registers_range a [] p i = absurd i
registers_range a (n ∷ ns) p i = elim (in_append p (map (λ i. new.Atom (port_of_register a i)) (rising 0 n)) (ports_of_registers (a + 1) ns) i) [
  | inl o ↦ (let w = one_register a (rising 0 n) p o in (port_of_register a w.0, w.1, omega arith, omega arith))
  | inr o ↦ (let w = registers_range (a + 1) ns p o in (w.0, w.1, (let l = w.2 in omega (arith, l)), (let l = w.3 in omega (arith, l))))
]
  where
    one_register : (a : ℕ) (xs : List ℕ) (p : NewPort) → IsOneOf p (map (λ i. new.Atom (port_of_register a i)) xs) → (j : ℕ) × (p ≡ new.Atom (port_of_register a j))
    one_register a [] p i = absurd i
    one_register a (x ∷ xs) p (inl e) = (x, sym e)
    one_register a (x ∷ xs) p (inr i) = one_register a xs p i

-- what is listed as a copy is one
pub copies_range : (b n : ℕ) (p : NewPort) → IsOneOf p (map new.Copy (rising b n)) → (c : ℕ) × (p ≡ new.Copy c)
copies_range b zero p i = absurd i
copies_range b (suc n) p (inl e) = (b, sym e)
copies_range b (suc n) p (inr i) = copies_range (suc b) n p i

module _ (code : Code) where
  abbrev pub with_link : NewPort → NewPort × ℕ
  with_link p = (p, link_in code p)

  from_links : (a y b n : ℕ) → y ≡ a → new_ports_from a b (map (λ i. link_in code (new.Atom (port_of_register y i))) (rising b n)) ≡ map with_link (map (λ i. new.Atom (port_of_register a i)) (rising b n))
  from_links a y b zero e = refl
  from_links a y b (suc n) e =
      let z : b + 1 ≡ suc b = omega arith in
      let rest = ap (λ m. new_ports_from a m (map (λ i. link_in code (new.Atom (port_of_register y i))) (rising (suc b) n))) z ∙ from_links a y (suc b) n e in
      λ j. (new.Atom (port_of_register a b), link_in code (new.Atom (port_of_register (e j) b))) ∷ rest j

  no_news : (a c k : ℕ) (js : List Instr) → new_ports a c (connected k js) ≡ []
  no_news a c k [] = refl
  no_news a c k (Unify p q ∷ js) = no_news a c (k + 2) js
  no_news a c k (_ ∷ js) = no_news a c (k + 2) js

  news_cast : (a b c d : ℕ) (bs : List BodyItem) (js : List Instr) → a ≡ b → c ≡ d → new_ports a c bs ≡ map with_link (new_list a c js) → new_ports b d bs ≡ map with_link (new_list b d js)
  news_cast a b c d bs js e f h = subst (λ z. new_ports b z bs ≡ map with_link (new_list b z js)) f (subst (λ z. new_ports z c bs ≡ map with_link (new_list z c js)) e h)

  -- The new ports of the flat body are those that the body makes, with their links.
  pub news_are : (k : ℕ) (ks : List Instr) (a m g w c : ℕ) (js : List Instr) → BodyInOrder a m g w c js → new_ports a c (filter_map (made_item code) js ++ connected k ks) ≡ map with_link (new_list a c js)
  news_are k ks a m g w c [] o = no_news a c k ks
  news_are k ks a m g w c (NewAtom y n f ∷ js) o =
      let z : c + 0 ≡ c = omega arith in
      let rest = news_cast (a + 1) (a + 1) (c + 0) c (filter_map (made_item code) js ++ connected k ks) js refl z (news_are k ks (a + 1) (m + 0) g w (c + 0) js o.1) in
      (λ j. from_links a y 0 f.arity o.0.0.0 j ++ rest j) ∙ sym (map-append with_link (map (λ i. new.Atom (port_of_register a i)) (rising 0 f.arity)) (new_list (a + 1) c js))
  news_are k ks a m g w c (NewInt y n u ∷ js) o =
      let z : c + 0 ≡ c = omega arith in
      let rest = news_cast (a + 1) (a + 1) (c + 0) c (filter_map (made_item code) js ++ connected k ks) js refl z (news_are k ks (a + 1) (m + 0) g w (c + 0) js o.1) in
      λ j. (new.Atom (port_of_register a 0), link_in code (new.Atom (port_of_register (o.0.0.0 j) 0))) ∷ rest j
  news_are k ks a m g w c (CopyGround y n u ∷ js) o =
      let z : a + 0 ≡ a = omega arith in
      let rest = news_cast (a + 0) a (c + 1) (c + 1) (filter_map (made_item code) js ++ connected k ks) js z refl (news_are k ks (a + 0) (m + 0) g w (c + 1) js o.1) in
      λ j. (new.Copy c, link_in code (new.Copy (o.0.0.0 j))) ∷ rest j
  news_are k ks a m g w c (q ∷ js) o = news_cast (a + 0) a (c + 0) c (filter_map (made_item code) js ++ connected k ks) js (omega arith) (omega arith) (news_are k ks (a + 0) (m + membranes_made q) g w (c + 0) js o.1)

-- ---- ports of the head

port_below : (p q : AtomPort) (n : ℕ) → new.Atom q ≡ new.Atom p → q.atom < n → p.atom < n
port_below p q n e l = subst (λ (o : AtomPort). o.atom < n) (atom_port_is q p e) l

-- a port that an instruction of a head names is one of an atom that is set
pub ports_set : (is : List Instr) (a m g v : ℕ) (i : Instr) (p : AtomPort) → HeadInOrder a m g v is → IsOneOf i is → IsOneOf (new.Atom p) (places i) → p.atom < a + atoms_set is
ports_set [] a m g v i p o s t = absurd s
ports_set (Deref x q k ∷ is) a m g v i p o (inl e) t = by (subst (λ z. IsOneOf (new.Atom p) (places z)) (sym e) t)
  where
    by : IsOneOf (new.Atom p) (new.Atom q ∷ (new.Atom (port_of_register x k) ∷ [])) → p.atom < a + (1 + atoms_set is)
    by (inl s) = port_below p q (a + (1 + atoms_set is)) s (let l = o.0.1 in omega (arith, l))
    by (inr (inl s)) = port_below p (port_of_register x k) (a + (1 + atoms_set is)) s (let l = o.0.0 in omega (arith, l))
    by (inr (inr s)) = absurd s
ports_set (Deref x q k ∷ is) a m g v i p o (inr s) t = let l = ports_set is (a + 1) m g v i p o.1 s t in let r : p.atom < a + (1 + atoms_set is) = omega (arith, l) in r
ports_set (FindAtom x y f ∷ is) a m g v i p o (inl e) t = absurd (subst (λ z. IsOneOf (new.Atom p) (places z)) (sym e) t)
ports_set (FindAtom x y f ∷ is) a m g v i p o (inr s) t = let l = ports_set is (a + 1) m g v i p o.1 s t in let r : p.atom < a + (1 + atoms_set is) = omega (arith, l) in r
ports_set (Joined q r ∷ is) a m g v i p o (inl e) t = by (subst (λ z. IsOneOf (new.Atom p) (places z)) (sym e) t)
  where
    by : IsOneOf (new.Atom p) (new.Atom q ∷ (new.Atom r ∷ [])) → p.atom < a + atoms_set is
    by (inl s) = port_below p q (a + atoms_set is) s (let l = o.0.0 in omega (arith, l))
    by (inr (inl s)) = port_below p r (a + atoms_set is) s (let l = o.0.1 in omega (arith, l))
    by (inr (inr s)) = absurd s
ports_set (Joined q r ∷ is) a m g v i p o (inr s) t = ports_set is a m g v i p o.1 s t
ports_set (IsInt x q y ∷ is) a m g v i p o (inl e) t = by (subst (λ z. IsOneOf (new.Atom p) (places z)) (sym e) t)
  where
    by : IsOneOf (new.Atom p) (new.Atom q ∷ []) → p.atom < a + atoms_set is
    by (inl s) = port_below p q (a + atoms_set is) s (let l = o.0.0.1 in omega (arith, l))
    by (inr s) = absurd s
ports_set (IsInt x q y ∷ is) a m g v i p o (inr s) t = ports_set is a m (g + 1) v i p o.1 s t
ports_set (IsUnary x q y ∷ is) a m g v i p o (inl e) t = by (subst (λ z. IsOneOf (new.Atom p) (places z)) (sym e) t)
  where
    by : IsOneOf (new.Atom p) (new.Atom q ∷ []) → p.atom < a + atoms_set is
    by (inl s) = port_below p q (a + atoms_set is) s (let l = o.0.0.1 in omega (arith, l))
    by (inr s) = absurd s
ports_set (IsUnary x q y ∷ is) a m g v i p o (inr s) t = ports_set is a m (g + 1) v i p o.1 s t
ports_set (IsGround x q y ∷ is) a m g v i p o (inl e) t = by (subst (λ z. IsOneOf (new.Atom p) (places z)) (sym e) t)
  where
    by : IsOneOf (new.Atom p) (new.Atom q ∷ []) → p.atom < a + atoms_set is
    by (inl s) = port_below p q (a + atoms_set is) s (let l = o.0.0.1 in omega (arith, l))
    by (inr s) = absurd s
ports_set (IsGround x q y ∷ is) a m g v i p o (inr s) t = ports_set is a m (g + 1) v i p o.1 s t
ports_set (AnyMem x y ∷ is) a m g v i p o (inl e) t = absurd (subst (λ z. IsOneOf (new.Atom p) (places z)) (sym e) t)
ports_set (AnyMem x y ∷ is) a m g v i p o (inr s) t = ports_set is a (m + 1) g v i p o.1 s t
ports_set (GetInt x y ∷ is) a m g v i p o (inl e) t = absurd (subst (λ w. IsOneOf (new.Atom p) (places w)) (sym e) t)
ports_set (GetInt x y ∷ is) a m g v i p o (inr s) t = ports_set is a m g (v + 1) i p o.1 s t
ports_set (Const x z ∷ is) a m g v i p o (inl e) t = absurd (subst (λ w. IsOneOf (new.Atom p) (places w)) (sym e) t)
ports_set (Const x z ∷ is) a m g v i p o (inr s) t = ports_set is a m g (v + 1) i p o.1 s t
ports_set (Add x y z ∷ is) a m g v i p o (inl e) t = absurd (subst (λ w. IsOneOf (new.Atom p) (places w)) (sym e) t)
ports_set (Add x y z ∷ is) a m g v i p o (inr s) t = ports_set is a m g (v + 1) i p o.1 s t
ports_set (Sub x y z ∷ is) a m g v i p o (inl e) t = absurd (subst (λ w. IsOneOf (new.Atom p) (places w)) (sym e) t)
ports_set (Sub x y z ∷ is) a m g v i p o (inr s) t = ports_set is a m g (v + 1) i p o.1 s t
ports_set (Mul x y z ∷ is) a m g v i p o (inl e) t = absurd (subst (λ w. IsOneOf (new.Atom p) (places w)) (sym e) t)
ports_set (Mul x y z ∷ is) a m g v i p o (inr s) t = ports_set is a m g (v + 1) i p o.1 s t
ports_set (Div x y z ∷ is) a m g v i p o (inl e) t = absurd (subst (λ w. IsOneOf (new.Atom p) (places w)) (sym e) t)
ports_set (Div x y z ∷ is) a m g v i p o (inr s) t = ports_set is a m g (v + 1) i p o.1 s t
ports_set (Mod x y z ∷ is) a m g v i p o (inl e) t = absurd (subst (λ w. IsOneOf (new.Atom p) (places w)) (sym e) t)
ports_set (Mod x y z ∷ is) a m g v i p o (inr s) t = ports_set is a m g (v + 1) i p o.1 s t
ports_set (NewLink q r ∷ is) a m g v i p o s t = absurd o.0
ports_set (Relink q r ∷ is) a m g v i p o s t = absurd o.0
ports_set (Unify q r ∷ is) a m g v i p o s t = absurd o.0
ports_set (j ∷ is) a m g v i p o (inl e) t = absurd (subst (λ z. IsOneOf (new.Atom p) (places z)) (sym e) t)
ports_set (_ ∷ is) a m g v i p o (inr s) t = ports_set is a m g v i p o.1 s t
