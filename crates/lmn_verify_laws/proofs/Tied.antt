-- The ties of verified code are those of its flat rule, but for the order of two operands.
use Rattle.std.proofs.Common.{◌≡◌, ◌≢◌, ◌<◌, ◌+◌, ◌==◌, ◌⊎◌, ◌∙◌, inl, inr, ℕ, zero, suc, Bool, true, false, cond, List, [], ◌∷◌, ◌++◌, map, length, Some, refl, sym, ap, subst, arith, true≢false, pos}
use Rattle.std.specs.Prelude.{slice_get, if◌then◌else◌}
use Rattle.std.specs.List.{filter_map}
use Rattle.std.proofs.lemmas.Bool.{cases_eq, eqb-true, eq-eqb, leb-true, le-leb}
use Rattle.std.proofs.lemmas.List.{map-append}
use Rattle.lmn_base.specs.Graphs.{Port}
use Rattle.lmn_base.proofs.Lists.{get_below, map_itself}
use Rattle.lmn_base.proofs.Numbers.{not_equal}
use Rattle.lmn_congruence.specs.Links.{places as often}
use Rattle.lmn_congruence.proofs.TranslatedLinks.{places_append}
use Rattle.lmn_congruence_splice.specs.Classes.{class_of, ends_of_class, rising}
use Rattle.lmn_congruence_splice.specs.Splice.{IsOneOf, TwiceOrNever, both_links, links}
use Rattle.lmn_congruence_splice.proofs.ClassLemmas.{classes_twice, ends_length}
use Rattle.lmn_congruence_splice.proofs.Common.{in_append, in_front, in_back}
use Rattle.lmn_solid_heads.specs.Heads.{HeadTyped, Occurrence, atoms_of, at_atoms, links_of_head, times, typed_contexts_of}
use Rattle.lmn_solid_heads.specs.Embeddings.{HasAtom, HasLink}
use Rattle.lmn_solid_heads.proofs.Common.{times_append, times_places}
use Rattle.lmn_solid_bodies.specs.Items.{body_links, connectors, new_ports, old_ports}
use Rattle.lmn_solid_bodies.specs.Running.{Registers, new_port, old_port}
use Rattle.lmn_solid_bodies.proofs.BodyPorts.{body_count, once_count}
use Rattle.lmn_solid_bodies.proofs.Coding.{at_heap}
use Rattle.lmn_solid_bodies.proofs.HeadPorts.{at_atoms_in, in_at_atoms, in_map, of_map, of_once_in, once_in_of}
use Rattle.lmn_instr_code.specs.declared.instr.AtomPort.{AtomPort}
use Rattle.lmn_instr_code.specs.declared.instr.NewPort.{NewPort}
use Rattle.lmn_instr_code.specs.declared.instr.NewPort.TheVariants as new
use Rattle.lmn_instr_code.specs.declared.instr.Code.{Code}
use Rattle.lmn_instr_code.specs.declared.instr.Instr.{Instr}
use Rattle.lmn_instr_code.specs.Running.{atoms_set}
use Rattle.lmn_verify_code.specs.declared.found.FoundAtom.{FoundAtom}
use Rattle.lmn_verify_code.specs.Verified.{IsVerified, arity_made, atoms_found, is_copy, is_made, places, port_of_register, ports_of, ports_of_registers}
use Rattle.lmn_verify_laws.specs.Flat.{connected, flat_body, flat_head, link_in, linked_by}
use Rattle.lmn_verify_laws.proofs.Classes.{JoinsNext, class_even, class_odd, of_ends, to_ends}
use Rattle.lmn_verify_laws.proofs.Items.{atom_found, atoms_are, atoms_counted, head_atom, head_port, link_found, rising_get, get_rising, typed_held}
use Rattle.lmn_verify_laws.proofs.Links.{atom_port_is, link_is, stands_at}
use Rattle.lmn_verify_laws.proofs.Linking.{arities_long, head_arities, head_times, is_atom_port, is_nested, place_is_port, ports_split, times_one, to_code}
use Rattle.lmn_verify_laws.proofs.Listed.{get_image, get_mapped, get_one, passing}
use Rattle.lmn_verify_laws.proofs.Ready.{verified_is_in_order}
use Rattle.lmn_verify_laws.proofs.Ties.{in_new, new_list, news_are, no_wires, number_kind, of_new, place_of, copies_range, registers_range, with_link, wire, wire_here, wires_next}

-- ---- two ends or none

-- registers of which nothing is asked
any_registers : Registers
any_registers = record { head = record { images = record { atom = λ a. 0; membrane = λ m. 0; part = λ g. (0, 0) }; integer = λ v. pos 0 }; copy = λ c. (0, 0); copied = λ c. []; left_atoms = λ m. []; left_membranes = λ m. [] }

heap_links : {P : Type 0} (f : P → Port) (es : List (P × ℕ)) → links (at_heap f es) ≡ map (λ (e : P × ℕ). e.1) es
heap_links f [] = refl
heap_links f (e ∷ es) = ap (λ l. e.1 ∷ l) (heap_links f es)

-- what is once in a head is once in its body, and what isn't is twice or never in its body
two_in_all : (w n o h b a : ℕ) (t : Bool) → w + n ≡ b → o ≡ cond t a 0 → (h ≡ 1 → a ≡ 1) → (t ≡ true → h ≡ 1) → (t ≡ false → h ≢ 1) → (h + b ≡ 0) ⊎ (h + b ≡ 2) → (w + (n + o) ≡ 0) ⊎ (w + (n + o) ≡ 2)
two_in_all w n o h b a true e f g y z (inl s) = let u = y refl in absurd (omega (arith, u, s))
two_in_all w n o h b a true e f g y z (inr s) = let u = y refl in let q = g u in inr (omega (arith, u, q, e, f, s))
two_in_all w n o h b a false e f g y z (inl s) = inl (omega (arith, e, f, s))
two_in_all w n o zero b a false e f g y z (inr s) = inr (omega (arith, e, f, s))
two_in_all w n o (suc zero) b a false e f g y z (inr s) = absurd (z refl refl)
two_in_all w n o (suc (suc h)) b a false e f g y z (inr s) = inl (omega (arith, e, f, s))

module _ (code : Code) (k : ℕ) (v : IsVerified code k) where
  abbrev pub is : List Instr
  is = code.head ++ code.body

  abbrev pub A : ℕ
  A = atoms_set code.head

  abbrev pub ports : List NewPort
  ports = ports_of code

  abbrev pub news : List (NewPort × ℕ)
  news = new_ports A 0 (flat_body code)

  abbrev pub olds : List (AtomPort × ℕ)
  olds = old_ports (flat_head code)

  abbrev pub wires : List (ℕ × ℕ)
  wires = connectors (flat_body code)

  abbrev pub m : ℕ → ℕ
  m = class_of wires

  abbrev at_links : List ℕ
  at_links = map (λ (o : Occurrence). o.link) (at_atoms 0 (atoms_of (flat_head code)))

  abbrev typed_links : List ℕ
  typed_links = map (λ (t : HeadTyped). t.link) (typed_contexts_of (flat_head code))

  pub linked : (x : ℕ) → (times x (links_of_head (flat_head code)) + times x (body_links (flat_body code)) ≡ 0) ⊎ (times x (links_of_head (flat_head code)) + times x (body_links (flat_body code)) ≡ 2)
  linked = (is_nested code k v).atoms.linked

  -- a link that is once in the head is at a port
  once_at : (x : ℕ) → times x (links_of_head (flat_head code)) ≡ 1 → often x at_links ≡ 1
  once_at x e = sym (times_places x at_links) ∙ by (cases_eq (times x typed_links) 0)
    where
      sum : times x (links_of_head (flat_head code)) ≡ times x at_links + times x typed_links
      sum = times_append x at_links typed_links

      stands : (xs : List ℕ) → times x xs ≢ 0 → IsOneOf x xs
      stands [] d = absurd (d refl)
      stands (y ∷ ys) d = elim (cases_eq y x) [ inl s ↦ inl s | inr n ↦ inr (stands ys (λ z. d (let h : ◌≡◌ {A = ℕ} (if y == x then 1 else 0) 0 = ap (λ (b : Bool). cond b 1 0) (not_equal y x n) in omega (arith, h, z)))) ]

      get_of : (ts : List HeadTyped) (t : HeadTyped) → IsOneOf t ts → (g : ℕ) × (slice_get ts g ≡ Some t)
      get_of [] t i = absurd i
      get_of (s ∷ ts) t (inl e) = (0, ap Some e)
      get_of (s ∷ ts) t (inr i) = let w = get_of ts t i in (suc w.0, w.1)

      at_port : times x typed_links ≢ 0 → times x at_links ≢ 0
      at_port d =
          let t = of_map (λ (t : HeadTyped). t.link) x (typed_contexts_of (flat_head code)) (stands typed_links d) in
          let g = get_of (typed_contexts_of (flat_head code)) t.0 t.1 in
          let p = typed_held code k v g.0 t.0 g.1 in
          let o : Occurrence = record { link = t.0.link; port = (0 + p.0.0, p.0.1) } in
          times_one x at_links (subst (λ z. IsOneOf z at_links) t.2 (in_map (λ (o : Occurrence). o.link) o (at_atoms 0 (atoms_of (flat_head code))) (in_at_atoms 0 (atoms_of (flat_head code)) p.0.0 p.0.1 t.0.link p.1.0 p.1.1 p.1.2)))

      by : (times x typed_links ≡ 0) ⊎ (times x typed_links ≢ 0) → times x at_links ≡ 1
      by (inl z) = let s = sum in omega (arith, z, s, e)
      by (inr d) = absurd (let s = sum in two_more (times x at_links) (times x typed_links) (at_port d) d (sym s ∙ e))
        where
          two_more : (a b : ℕ) → a ≢ 0 → b ≢ 0 → a + b ≡ 1 → ⊥
          two_more zero b c d e = c refl
          two_more (suc a) zero c d e = d refl
          two_more (suc a) (suc b) c d e = omega (arith, e)

  all_twice : TwiceOrNever (both_links wires ++ (map (λ (e : NewPort × ℕ). e.1) news ++ map (λ (e : AtomPort × ℕ). e.1) olds))
  all_twice z =
      let n = map (λ (e : NewPort × ℕ). e.1) news in
      let o = map (λ (e : AtomPort × ℕ). e.1) olds in
      let heads = times z (links_of_head (flat_head code)) in
      let sums = places_append z (both_links wires) (n ++ o) ∙ ap (λ q. often z (both_links wires) + q) (places_append z n o) in
      let made = ap (λ l. often z (both_links wires) + often z l) (sym (heap_links (new_port any_registers) news)) ∙ body_count any_registers A 0 z (flat_body code) in
      let old : often z o ≡ cond (heads == 1) (often z at_links) 0 = ap (often z) (sym (heap_links (old_port any_registers) olds)) ∙ once_count any_registers z (links_of_head (flat_head code)) (at_atoms 0 (atoms_of (flat_head code))) in
      let t = times_places z (body_links (flat_body code)) in
      elim (two_in_all (often z (both_links wires)) (often z n) (often z o) heads (often z (body_links (flat_body code))) (often z at_links) (heads == 1) made old (once_at z) (eqb-true heads 1)
      (λ e f. true≢false (sym (eq-eqb heads 1 f) ∙ e)) (elim (linked z) [ inl e ↦ inl (ap (λ q. heads + q) (sym t) ∙ e) | inr e ↦ inr (ap (λ q. heads + q) (sym t) ∙ e) ])) [
        | inl e ↦ inl (sums ∙ e)
        | inr e ↦ inr (sums ∙ e)
      ]

  -- a link of a connector, or at a new port, is one of the body
  pub wire_times : (x : ℕ) → IsOneOf x (both_links wires) → times x (body_links (flat_body code)) ≢ 0
  wire_times x i z =
      let c = body_count any_registers A 0 x (flat_body code) in
      let t = times_places x (body_links (flat_body code)) in
      let w = times_places x (both_links wires) in
      times_one x (both_links wires) i (omega (arith, c, t, w, z))

  pub new_times : (x : ℕ) → IsOneOf x (map (λ (e : NewPort × ℕ). e.1) news) → times x (body_links (flat_body code)) ≢ 0
  new_times x i z =
      let c = body_count any_registers A 0 x (flat_body code) in
      let t = times_places x (body_links (flat_body code)) in
      let n = map (λ (e : NewPort × ℕ). e.1) news in
      let w = times_places x n ∙ ap (often x) (sym (heap_links (new_port any_registers) news)) in
      times_one x n i (omega (arith, c, t, w, z))

  -- Each class has two ends or none.
  pub two_or_none : (z : ℕ) → (length (ends_of_class m z news) + length (ends_of_class m z olds) ≡ 0) ⊎ (length (ends_of_class m z news) + length (ends_of_class m z olds) ≡ 2)
  two_or_none z =
      let n = map (λ (e : NewPort × ℕ). e.1) news in
      let o = map (λ (e : AtomPort × ℕ). e.1) olds in
      let whole = both_links wires ++ (n ++ o) in
      let t = classes_twice (λ z. z) wires (n ++ o) (subst TwiceOrNever (sym (map_itself whole)) all_twice) z in
      let sums : length (ends_of_class m z news) + length (ends_of_class m z olds) ≡ often z (map m (n ++ o)) =
      (λ i. ends_length m z news i + ends_length m z olds i) ∙ sym (ap (often z) (map-append m n o) ∙ places_append z (map m n) (map m o)) in
      elim t [ inl e ↦ inl (sums ∙ e) | inr e ↦ inr (sums ∙ e) ]

  -- ---- the class of a number

  joins : JoinsNext wires
  joins = subst JoinsNext (sym (no_wires code 0 is code.body)) (wires_next 0 is)

  pub value : (t : ℕ) (i : Instr) (p : NewPort) (x : ℕ) → slice_get is t ≡ Some i → IsOneOf {A = NewPort × ℕ} (p, x) (linked_by (t + t) i) → m x ≡ t + t
  value t i p x e o = elim (number_kind (t + t) i (p, x) o) [
    | inl s ↦ ap m s ∙ class_even wires joins t
    | inr s ↦ (let z : 0 + t ≡ t = omega arith in
        let there = wire_here 0 t is s.1.0 s.1.1 (e ∙ ap Some s.1.2) in
        ap m s.0 ∙ class_odd wires joins t (subst (λ l. IsOneOf {A = ℕ × ℕ} (t + t, (t + t) + 1) l) (sym (no_wires code 0 is code.body)) (subst (λ n. IsOneOf (wire n) (connectors (connected 0 is))) z there)))
  ]

  -- ---- which ports these are

  news_eq : news ≡ map (with_link code) (new_list A 0 code.body)
  news_eq = news_are code 0 is A _ _ _ 0 code.body (verified_is_in_order code k v).ready.order

  pub news_of : (p : NewPort) (x : ℕ) → IsOneOf {A = NewPort × ℕ} (p, x) news → IsOneOf p ports × (is_made A p ≡ true) × (link_in code p ≡ x)
  news_of p x i =
      let w = of_map (with_link code) (p, x) (new_list A 0 code.body) (subst (λ l. IsOneOf {A = NewPort × ℕ} (p, x) l) news_eq i) in
      let same : w.0 ≡ p = (λ j. (w.2 j).0) in
      let in_ports : IsOneOf w.0 ((ports_of_registers 0 (head_arities code k v) ++ ports_of_registers A (filter_map arity_made code.body)) ++ map new.Copy (rising 0 (passing is_copy code.body))) × (is_made A w.0 ≡ true) = elim (of_new A 0 code.body w.0 w.1) [
        | inl o ↦ (let r = registers_range A (filter_map arity_made code.body) w.0 o in (
          (in_front w.0 (ports_of_registers 0 (head_arities code k v) ++ ports_of_registers A (filter_map arity_made code.body)) (map new.Copy (rising 0 (passing is_copy code.body))) (in_back w.0 (ports_of_registers 0 (head_arities code k v)) (ports_of_registers A (filter_map arity_made code.body)) o)),
          subst (λ q. is_made A q ≡ true) (sym r.1) (le-leb A r.0.atom r.2),
        ))
        | inr o ↦ (let r = copies_range 0 (passing is_copy code.body) w.0 o in (
          (in_back w.0 (ports_of_registers 0 (head_arities code k v) ++ ports_of_registers A (filter_map arity_made code.body)) (map new.Copy (rising 0 (passing is_copy code.body))) o),
          subst (λ q. is_made A q ≡ true) (sym r.1) refl,
        ))
      ] in
      (subst (λ q. IsOneOf q ports) same (subst (λ l. IsOneOf w.0 l) (sym (ports_split code k v)) in_ports.0), subst (λ q. is_made A q ≡ true) same in_ports.1, ap (link_in code) (sym same) ∙ (λ j. (w.2 j).1))

  pub news_to : (p : NewPort) → IsOneOf p ports → is_made A p ≡ true → IsOneOf {A = NewPort × ℕ} (p, link_in code p) news
  news_to p o e =
      let regs = ports_of_registers 0 (head_arities code k v) in
      let made = ports_of_registers A (filter_map arity_made code.body) in
      let copies = map new.Copy (rising 0 (passing is_copy code.body)) in
      let split = subst (λ l. IsOneOf p l) (ports_split code k v) o in
      let there : IsOneOf p (new_list A 0 code.body) = elim (in_append p (regs ++ made) copies split) [
        | inl w ↦ elim (in_append p regs made w) [
          | inl u ↦ (let r = registers_range 0 (head_arities code k v) p u in
              let l = leb-true A r.0.atom (subst (λ q. is_made A q ≡ true) r.1 e) in
              let n = arities_long code k v in
              let b = r.3 in
              absurd (omega (arith, l, n, b)))
          | inr u ↦ in_new A 0 code.body p (inl u)
        ]
        | inr w ↦ in_new A 0 code.body p (inr w)
      ] in
      subst (λ l. IsOneOf {A = NewPort × ℕ} (p, link_in code p) l) (sym news_eq) (in_map (with_link code) p (new_list A 0 code.body) there)

  pub atoms_same : A ≡ length (atoms_found code.head)
  atoms_same = sym (atoms_counted code.head v.looked_at)

  pub olds_of : (p : AtomPort) (x : ℕ) → IsOneOf {A = AtomPort × ℕ} (p, x) olds → (p.atom < A) × IsOneOf (new.Atom p) ports × (link_in code (new.Atom p) ≡ x) × (times x (links_of_head (flat_head code)) ≡ 1)
  olds_of p x i =
      let w = once_in_of (links_of_head (flat_head code)) (at_atoms 0 (atoms_of (flat_head code))) (p, x) i in
      let o = w.0 in
      let h = at_atoms_in 0 (atoms_of (flat_head code)) o w.1 in
      let z : h.k ≡ o.port.0 = (let n = h.number in omega (arith, n)) in
      let has : HasLink (flat_head code) o.link o.port = (h.atom, subst (λ n. slice_get (atoms_of (flat_head code)) n ≡ Some h.atom) z h.is, h.link) in
      let a = link_found code k v o.link o.port has in
      let port : port_of_register o.port.0 o.port.1 ≡ p = (λ j. (w.3 j).0) in
      let number : o.link ≡ x = (λ j. (w.3 j).1) in
      let below : o.port.0 < A = (let l = get_below (atoms_found code.head) o.port.0 a.0 a.1 in let n = atoms_same in omega (arith, l, n)) in (
        subst (λ (q : AtomPort). q.atom < A) port below,
        subst (λ q. IsOneOf (new.Atom q) ports) port (head_port code k v o.port.0 o.port.1 a.0 a.1 a.2),
        ap (λ q. link_in code (new.Atom q)) (sym port) ∙ a.3 ∙ number,
        subst (λ n. times n (links_of_head (flat_head code)) ≡ 1) number w.2,
      )

  register_port : (a : ℕ) (ns : List ℕ) (q : AtomPort) → IsOneOf (new.Atom q) (ports_of_registers a ns) → (j : ℕ) × (n : ℕ) × (q.atom ≡ a + j) × (slice_get ns j ≡ Some n) × (q.port < n)
  register_port a [] q i = absurd i
  register_port a (n ∷ ns) q i = elim (in_append (new.Atom q) (map (λ i. new.Atom (port_of_register a i)) (rising 0 n)) (ports_of_registers (a + 1) ns) i) [
    | inl o ↦ (let w = of_map (λ i. new.Atom (port_of_register a i)) (new.Atom q) (rising 0 n) o in
        let e = atom_port_is (port_of_register a w.0) q w.2 in
        let g = get_of (rising 0 n) w.0 w.1 in
        let r = rising_get 0 n g.0 w.0 g.1 in
        (0, n, (let y = ap (λ (o : AtomPort). o.atom) e in let z : a ≡ a + 0 = omega arith in sym y ∙ z), refl, (let y = ap (λ (o : AtomPort). o.port) e in let u = r.0 in let l = r.1 in omega (arith, y, u, l))))
    | inr o ↦ (let w = register_port (a + 1) ns q o in (suc w.0, w.1, (let e = w.2 in omega (arith, e)), w.3, w.4))
  ]
    where
      get_of : (xs : List ℕ) (x : ℕ) → IsOneOf x xs → (g : ℕ) × (slice_get xs g ≡ Some x)
      get_of [] x i = absurd i
      get_of (y ∷ xs) x (inl e) = (0, ap Some e)
      get_of (y ∷ xs) x (inr i) = let w = get_of xs x i in (suc w.0, w.1)

  -- a port of the head is an atom's, and its link stands there
  pub head_registers : (p : AtomPort) → p.atom < A → IsOneOf (new.Atom p) ports → IsOneOf (new.Atom p) (ports_of_registers 0 (head_arities code k v))
  head_registers p l o =
      let regs = ports_of_registers 0 (head_arities code k v) in
      let made = ports_of_registers A (filter_map arity_made code.body) in
      let copies = map new.Copy (rising 0 (passing is_copy code.body)) in
      elim (in_append (new.Atom p) (regs ++ made) copies (subst (λ q. IsOneOf (new.Atom p) q) (ports_split code k v) o)) [
        | inl w ↦ elim (in_append (new.Atom p) regs made w) [
          | inl u ↦ u
          | inr u ↦ (let r = registers_range A (filter_map arity_made code.body) (new.Atom p) u in let e = ap (λ (q : AtomPort). q.atom) (atom_port_is p r.0 r.1) in let b = r.2 in absurd (omega (arith, e, b, l)))
        ]
        | inr w ↦ (let r = copies_range 0 (passing is_copy code.body) (new.Atom p) w in absurd (true≢false (ap is_atom_port r.1)))
      ]

  pub head_link : (p : AtomPort) → p.atom < A → IsOneOf (new.Atom p) ports → HasLink (flat_head code) (link_in code (new.Atom p)) (p.atom, p.port)
  head_link p l o =
      let r = register_port 0 (head_arities code k v) p (head_registers p l o) in
      let number : r.0 ≡ p.atom = (let e = r.2 in omega (arith, e)) in
      let a = get_mapped (λ (a : FoundAtom). a.functor.arity) (atoms_found code.head) r.0 r.1 r.3 in
      let found : slice_get (atoms_found code.head) p.atom ≡ Some a.0 = subst (λ n. slice_get (atoms_found code.head) n ≡ Some a.0) number a.1 in
      let has : HasAtom (flat_head code) p.atom (head_atom code a.0) = subst (λ q. slice_get q p.atom ≡ Some (head_atom code a.0)) (sym (atoms_are code)) (get_image (head_atom code) (atoms_found code.head) p.atom a.0 found) in
      let u = atom_found code k v p.atom (head_atom code a.0) has in
      let same : a.0 ≡ u.0 = (let s : Some a.0 ≡ Some u.0 = sym found ∙ u.1 in cc) in
      let register : a.0.atom ≡ p.atom = ap (λ (z : FoundAtom). z.atom) same ∙ u.3 in
      let z : 0 + p.port ≡ p.port = omega arith in
      let get = get_image (λ i. link_in code (new.Atom (port_of_register a.0.atom i))) (rising 0 a.0.functor.arity) p.port (0 + p.port) (get_rising 0 a.0.functor.arity p.port (let e = a.2 in let b = r.4 in omega (arith, e, b))) in
      (head_atom code a.0, has, get ∙ ap Some (λ j. link_in code (new.Atom (port_of_register (register j) (z j)))))

  pub olds_to : (p : AtomPort) → p.atom < A → IsOneOf (new.Atom p) ports → times (link_in code (new.Atom p)) (links_of_head (flat_head code)) ≡ 1 → IsOneOf {A = AtomPort × ℕ} (p, link_in code (new.Atom p)) olds
  olds_to p l o e =
      let w = head_link p l o in
      let z : 0 + p.atom ≡ p.atom = omega arith in
      let x = link_in code (new.Atom p) in
      let i = in_at_atoms 0 (atoms_of (flat_head code)) p.atom p.port x w.0 w.1 w.2 in
      let at : Occurrence = record { link = x; port = (p.atom, p.port) } in
      let here : IsOneOf at (at_atoms 0 (atoms_of (flat_head code))) = subst (λ n. IsOneOf {A = Occurrence} (record { link = x; port = (n, p.port) }) (at_atoms 0 (atoms_of (flat_head code)))) z i in
      of_once_in (links_of_head (flat_head code)) (at_atoms 0 (atoms_of (flat_head code))) at here e

  -- ---- ends at an instruction

  pub ends_news : (z : ℕ) (p : NewPort) → IsOneOf p (ends_of_class m z news) → (t : ℕ) × (i : Instr) × (slice_get is t ≡ Some i) × (z ≡ t + t) × IsOneOf p (places i) × (is_made A p ≡ true)
  ends_news z p o =
      let w = of_ends m z news p o in
      let u = news_of p w.0 w.1 in
      let a = stands_at is ports p v.once u.0 in
      let at = value a.0 a.1 p (link_in code p) a.2 a.3 in
      (a.0, a.1, a.2, sym w.2 ∙ ap m (sym u.2) ∙ at, place_of (a.0 + a.0) a.1 (p, link_in code p) a.3, u.1)

  pub ends_olds : (z : ℕ) (p : AtomPort) → IsOneOf p (ends_of_class m z olds) → (t : ℕ) × (i : Instr) × (slice_get is t ≡ Some i) × (z ≡ t + t) × IsOneOf (new.Atom p) (places i) × (p.atom < A) × IsOneOf (new.Atom p) ports
      × (times (link_in code (new.Atom p)) (links_of_head (flat_head code)) ≡ 1)
  ends_olds z p o =
      let w = of_ends m z olds p o in
      let u = olds_of p w.0 w.1 in
      let a = stands_at is ports (new.Atom p) v.once u.1 in
      let at = value a.0 a.1 (new.Atom p) (link_in code (new.Atom p)) a.2 a.3 in
      (a.0, a.1, a.2, sym w.2 ∙ ap m (sym u.2) ∙ at, place_of (a.0 + a.0) a.1 (new.Atom p, link_in code (new.Atom p)) a.3, u.0, u.1, subst (λ n. times n (links_of_head (flat_head code)) ≡ 1) (sym u.2) u.3)

  -- a made port of an instruction is an end of its class
  pub new_end : (t : ℕ) (i : Instr) (p : NewPort) (x : ℕ) → slice_get is t ≡ Some i → IsOneOf {A = NewPort × ℕ} (p, x) (linked_by (t + t) i) → is_made A p ≡ true → IsOneOf p (ends_of_class m (t + t) news)
  new_end t i p x e o made =
      let port = place_is_port code k v p (to_code is i p (get_one is t i e) (place_of (t + t) i (p, x) o)) in
      let number = link_is is ports p t x i v.once port e o in
      to_ends m (t + t) news p (link_in code p) (news_to p port made) (ap m number ∙ value t i p x e o)

  -- and so is a port of the head whose link is once in the head
  pub old_end : (t : ℕ) (i : Instr) (p : AtomPort) (x : ℕ) → slice_get is t ≡ Some i → IsOneOf {A = NewPort × ℕ} (new.Atom p, x) (linked_by (t + t) i) → p.atom < A → times x (links_of_head (flat_head code)) ≡ 1 → IsOneOf p (ends_of_class m (t + t) olds)
  old_end t i p x e o l once =
      let port = place_is_port code k v (new.Atom p) (to_code is i (new.Atom p) (get_one is t i e) (place_of (t + t) i (new.Atom p, x) o)) in
      let number = link_is is ports (new.Atom p) t x i v.once port e o in
      to_ends m (t + t) olds p (link_in code (new.Atom p)) (olds_to p l port (ap (λ n. times n (links_of_head (flat_head code))) number ∙ once)) (ap m number ∙ value t i (new.Atom p) x e o)

  -- a link at a port of the head and at one that is made, or at a connector, is once in the head
  pub once_in_head : (p : AtomPort) (x : ℕ) → p.atom < A → IsOneOf (new.Atom p) ports → link_in code (new.Atom p) ≡ x → times x (body_links (flat_body code)) ≢ 0 → times x (links_of_head (flat_head code)) ≡ 1
  once_in_head p x l o e d =
      let regs = ports_of_registers 0 (head_arities code k v) in
      let h = head_times code k v x in
      let one = times_one x (map (link_in code) regs) (subst (λ n. IsOneOf n (map (link_in code) regs)) e (in_map (link_in code) (new.Atom p) regs (head_registers p l o))) in
      at_one (times x (map (link_in code) regs)) _ _ _ one d h (linked x)
    where
      at_one : (a b h c : ℕ) → a ≢ 0 → c ≢ 0 → h ≡ a + b → (h + c ≡ 0) ⊎ (h + c ≡ 2) → h ≡ 1
      at_one zero b h c d f e s = absurd (d refl)
      at_one (suc a) b h zero d f e s = absurd (f refl)
      at_one (suc a) b h (suc c) d f e (inl s) = absurd (omega (arith, e, s))
      at_one (suc a) b h (suc c) d f e (inr s) = omega (arith, e, s)
