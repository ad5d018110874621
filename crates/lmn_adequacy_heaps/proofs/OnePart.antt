-- Ground parts of one atom of arity 1.
use Rattle.std.specs.Prelude.{ℤ, Option, None, ◌==◌, Bool, true, false, cond}
use Rattle.std.proofs.Common.{ℕ, ◌≡◌, ◌≤◌, ◌+◌, List, [], ◌∷◌, ◌++◌, map, length, Some, refl, sym, ap, subst, ◌∙◌, inl, inr, arith}
use Rattle.std.proofs.lemmas.Bool.{cases_eq, eqb-true}
use Rattle.std.proofs.lemmas.List.{length-append}
use Rattle.std.proofs.lemmas.Option.{same_Some}
use Rattle.lmn_base.specs.declared.functor.Functor.{Functor}
use Rattle.lmn_base.specs.declared.functor.Label.{Label as HeapLabel}
use Rattle.lmn_base.specs.declared.functor.Label.TheVariants.{Name as ByName, Int as ByInt}
use Rattle.lmn_base.specs.Graphs.{Reached, at_root, Port}
use Rattle.lmn_store_heap.specs.Heap.{Heap, arity_of, functor_of}
use Rattle.lmn_store_heap.specs.Graphs.{atom_map}
use Rattle.lmn_store_heap.specs.Lists.{Distinct}
use Rattle.lmn_store_heap.proofs.ListLemmas.{each_in}
use Rattle.lmn_solid_heads.specs.Guards.{integer_by, integer_of_functor}
use Rattle.lmn_congruence.specs.Links.{one_if_same}
use Rattle.lmn_congruence.specs.Orders.{Put, here, there, Shuffle, none, more}
use Rattle.lmn_congruence.specs.Process.{Process, nothing, connector, atom, pair, membrane, rule, occurrences}
use Rattle.lmn_congruence.specs.Rules.{Label, Name, integer}
use Rattle.lmn_congruence.specs.Translation.{label_of}
use Rattle.lmn_reduction.specs.Parts.{Rooted, OnlyAtoms, atoms_at_top, IsUnary, one_atom, IsInteger, an_integer}
use Rattle.lmn_adequacy_heaps.specs.HeapRegions.{HeapReading}
use Rattle.lmn_adequacy_heaps.specs.Premises.{IsRead}
use Rattle.lmn_adequacy_heaps.specs.Parts.{IsGroundPart, IntegerPartsAlike, UnaryPartsAlike}
use Rattle.lmn_store_heap.proofs.PartLists.{reached_one}
use Rattle.lmn_adequacy_heaps.proofs.PartLaws.{graph_of_part, reached_there, each_atom, some_atom, none_left}
use Rattle.lmn_adequacy_heaps.proofs.SameWholes.{atom_is, links_length, pieces_are, piece}
use Rattle.lmn_base.proofs.Lists.{length_mapped}
use Rattle.lmn_congruence.proofs.Counts.{none_if_apart as apart_none}
use Rattle.lmn_store_heap.proofs.Replacing.{port_within}
use Rattle.lmn_base.specs.Lists.{In}

one_left : {A B : Type 0} {R : A → B → Type 0} {as' : List A} {bs : List B} (b : B) → Shuffle R as' bs → bs ≡ b ∷ [] → (a : A) × (as' ≡ a ∷ []) × R a b
one_left b none e = absurd (cc)
one_left {R = R} b (more {x = a} {y = y} {xs = as'} {ys = ys} w s p) e =
    let u = put_one p e in
    (a, ap (λ z. a ∷ z) (none_left s u.1), subst (R a) u.0 w)
  where
    put_one : {C : Type 0} {y b : C} {ys zs : List C} → Put y ys zs → zs ≡ b ∷ [] → (y ≡ b) × (ys ≡ [])
    put_one (here {y = y} {ys = ys}) e = (cc, cc)
    put_one (there p) e = absurd (no p (cc))
      where
        no : {C : Type 0} {y : C} {ys zs : List C} → Put y ys zs → zs ≡ [] → ⊥
        no here e = cc
        no (there p) e = cc

none_right : {A B : Type 0} {R : A → B → Type 0} {as' : List A} {bs : List B} → Shuffle R as' bs → as' ≡ [] → bs ≡ []
none_right none e = refl
none_right (more w s p) e = absurd (cc)

one_right : {A B : Type 0} {R : A → B → Type 0} {as' : List A} {bs : List B} (a : A) → Shuffle R as' bs → as' ≡ a ∷ [] → (b : B) × (bs ≡ b ∷ []) × R a b
one_right a none e = absurd (cc)
one_right {R = R} a (more {x = x} {y = y} {xs = as'} {ys = ys} w s p) e =
    let q : x ≡ a = cc in
    let n : as' ≡ [] = cc in
    (y, put_none p (none_right s n), subst (λ z. R z y) q w)
  where
    put_none : {C : Type 0} {y : C} {ys zs : List C} → Put y ys zs → ys ≡ [] → zs ≡ y ∷ []
    put_none (here {y = y}) e = ap (λ z. y ∷ z) e
    put_none (there p) e = absurd (cc)

some_of_process : (P : Process) → OnlyAtoms P → 1 ≤ length (atoms_at_top P)
some_of_process nothing o = absurd o
some_of_process (connector x y) o = absurd o
some_of_process (atom a ys) o = omega arith
some_of_process (pair P Q) o = omega (arith, some_of_process P o.0, length-append (atoms_at_top P) (atoms_at_top Q))
some_of_process (membrane P) o = absurd o
some_of_process (rule r) o = absurd o

one_process : (P : Process) (a : Label × List ℕ) → OnlyAtoms P → atoms_at_top P ≡ a ∷ [] → P ≡ atom a.0 a.1
one_process nothing a o e = absurd o
one_process (connector x y) a o e = absurd o
one_process (atom l ys) a o e = let q : ◌≡◌ {A = Label × List ℕ} (l, ys) a = cc in ap (λ z. atom z.0 z.1) q
one_process (pair P Q) a o e =
    let n : length (atoms_at_top P ++ atoms_at_top Q) ≡ 1 = ap length e in
    absurd (omega (arith, some_of_process P o.0, some_of_process Q o.1, length-append (atoms_at_top P) (atoms_at_top Q), n))
one_process (membrane P) a o e = absurd o
one_process (rule r) a o e = absurd o

only_link : (ys : List ℕ) → length ys ≡ 1 → (y : ℕ) × (ys ≡ y ∷ [])
only_link [] e = absurd (omega (arith, e))
only_link (y ∷ []) e = (y, refl)
only_link (y ∷ (z ∷ ys)) e = absurd (omega (arith, e))

module _ (h : Heap) (r : HeapReading) (read : IsRead h r) (m : ℕ) (root : Port) where
  -- from the heap: the part is this atom
  pub one_into : (part : List ℕ) (g : Rooted) → IsGroundPart h r m root part g → (f : Functor) → functor_of h root.0 ≡ Some f → f.arity ≡ 1 → g ≡ record { process = atom (label_of r.names f.label) (g.root ∷ []); root = g.root }
  one_into [] g p f e one = absurd (some_atom h r read m root g p)
  one_into (x ∷ xs) g p f e one =
      let n : arity_of h root.0 ≡ 1 = read.valid.sound.shaped.ports root.0 f e ∙ one in
      let zero_port : root.1 ≡ 0 = (let l = port_within h root.0 root.1 _ p.link in omega (arith, l, n)) in
      let alone : (b : ℕ) → In b (x ∷ xs) → b ≡ root.0 = λ b k. reached_one h read.valid root.0 n b (subst (λ z. Reached (atom_map h) (root.0, z) b) zero_port ((reached_there h r read m root x xs g p b).0 k)) in
      let s = graph_of_part h r read m root x xs g p in
      let u = by xs p.once alone in
      let w = one_left (piece h r read.valid root.0) s.atoms (pieces_are h r read.valid x xs ∙ (λ i. map (piece h r read.valid) (alone x (inl refl) i ∷ u i))) in
      let a = w.0 in
      let c = atom_is h r read.valid root.0 (each_in _ (x ∷ xs) root.0 (each_atom h r read m root x xs g p) ((reached_there h r read m root x xs g p root.0).1 at_root)) in
      let same : c.functor ≡ f = same_Some c.functor f (sym c.is ∙ e) in
      let label : a.0 ≡ label_of r.names f.label = ap (λ z. z.0) w.2 ∙ ap (λ z. z.label) c.read ∙ ap (λ z. label_of r.names z.label) same in
      let len : length a.1 ≡ 1 = sym (length_mapped s.to a.1) ∙ ap (λ z. length z.1) w.2 ∙ links_length h r read.valid root.0 (each_in _ (x ∷ xs) root.0 (each_atom h r read m root x xs g p) ((reached_there h r read m root x xs g p root.0).1 at_root)) ∙ n in
      let y = only_link a.1 len in
      let process : g.process ≡ atom (label_of r.names f.label) (y.0 ∷ []) = one_process g.process a p.ground.only_atoms w.1 ∙ (λ i. atom (label i) (y.1 i)) in
      let free : one_if_same g.root y.0 + 0 ≡ 1 = sym (ap (occurrences g.root) process) ∙ p.ground.root_is_free in
      let is : y.0 ≡ g.root = elim (cases_eq g.root y.0) [ inl q ↦ sym q | inr d ↦ absurd (omega (arith, free, apart_none g.root y.0 d)) ] in
      λ i. record { process = (process ∙ (λ j. atom (label_of r.names f.label) (is j ∷ []))) i; root = g.root }
    where
      by : (xs : List ℕ) → Distinct (x ∷ xs) → ((b : ℕ) → In b (x ∷ xs) → b ≡ root.0) → xs ≡ []
      by [] d k = refl
      by (y ∷ ys) d k = absurd (d.0.0 (k x (inl refl) ∙ sym (k y (inr (inl refl)))))

  -- from the calculus: the atom of the root has this label and arity 1
  pub one_back : (part : List ℕ) (g : Rooted) → IsGroundPart h r m root part g → (a : Label) (y : ℕ) → g.process ≡ atom a (y ∷ []) → (f : Functor) × (functor_of h root.0 ≡ Some f) × (f.arity ≡ 1) × (label_of r.names f.label ≡ a)
  one_back [] g p a y e = absurd (some_atom h r read m root g p)
  one_back (x ∷ xs) g p a y e =
      let s = graph_of_part h r read m root x xs g p in
      let w = one_right (a, y ∷ []) s.atoms (ap atoms_at_top e) in
      let pieces : map (piece h r read.valid) (x ∷ xs) ≡ w.0 ∷ [] = sym (pieces_are h r read.valid x xs) ∙ w.1 in
      let first : piece h r read.valid x ≡ w.0 = cc in
      let k = (reached_there h r read m root x xs g p root.0).1 at_root in
      let is : x ≡ root.0 = by xs (ap length pieces) k in
      let c = atom_is h r read.valid x (each_atom h r read m root x xs g p).0 in
      let len : arity_of h x ≡ 1 = sym (links_length h r read.valid x (each_atom h r read m root x xs g p).0) ∙ ap (λ z. length z.1) (first ∙ sym w.2) in
      (c.functor, ap (functor_of h) (sym is) ∙ c.is, sym c.ports ∙ len, sym (ap (λ z. z.label) c.read) ∙ ap (λ z. z.0) (first ∙ sym w.2))
    where
      by : (xs : List ℕ) → length (map (piece h r read.valid) (x ∷ xs)) ≡ 1 → In root.0 (x ∷ xs) → x ≡ root.0
      by [] l (inl q) = q
      by [] l (inr k) = absurd k
      by (z ∷ xs) l k = absurd (omega (arith, l))

-- a part is one atom of arity 1 on both sides or on neither
pub unary_parts_alike : UnaryPartsAlike
unary_parts_alike h r m root part g read p = (
  (λ u. subst IsUnary (sym (one_into h r read m root part g p u.0 u.1 u.2)) one_atom),
  (λ u. let w = unary_is u in let k = one_back h r read m root part g p w.0 w.1 w.2 in (k.0, k.1, k.2)),
)
  where
    unary_is : {g : Rooted} → IsUnary g → (a : Label) × (y : ℕ) × (g.process ≡ atom a (y ∷ []))
    unary_is (one_atom {a = a} {x = x}) = (a, x, refl)

integer_functor : (o : Option Functor) (z : ℤ) → integer_of_functor o ≡ Some z → (f : Functor) × (o ≡ Some f) × (f.arity ≡ 1) × (f.label ≡ ByInt z)
integer_functor None z e = absurd (cc)
integer_functor (Some f) z e = let u = by f.label f.arity e in (f, refl, u.0, u.1)
  where
    by : (l : HeapLabel) (n : ℕ) → integer_by l n ≡ Some z → (n ≡ 1) × (l ≡ ByInt z)
    by (ByName k) n e = absurd (cc)
    by (ByInt w) n e = one (n == 1) refl e
      where
        one : (b : Bool) → (n == 1) ≡ b → cond b (Some w) None ≡ Some z → (n ≡ 1) × (ByInt w ≡ ByInt z)
        one true q e = (eqb-true n 1 q, ap ByInt (same_Some w z e))
        one false q e = absurd (cc)

integer_label : (names : List Name) (l : HeapLabel) (z : ℤ) → label_of names l ≡ integer z → l ≡ ByInt z
integer_label names (ByName k) z e = absurd (cc)
integer_label names (ByInt w) z e = let q : w ≡ z = cc in ap ByInt q

functor_integer : (o : Option Functor) (f : Functor) (z : ℤ) → o ≡ Some f → f.arity ≡ 1 → f.label ≡ ByInt z → integer_of_functor o ≡ Some z
functor_integer o f z e n l = ap integer_of_functor e ∙ (λ i. integer_by (l i) (n i))

-- and so for an integer
pub integer_parts_alike : IntegerPartsAlike
integer_parts_alike h r m root part g z read p = (
  (λ e. let u = integer_functor (functor_of h root.0) z e in
      let w = one_into h r read m root part g p u.0 u.1 u.2 in
      subst (IsInteger z) (sym (w ∙ (λ i. record { process = atom (label_of r.names (u.3 i)) (g.root ∷ []); root = g.root }))) an_integer),
  (λ u. let w = integer_is u in let k = one_back h r read m root part g p (integer z) w.0 w.1 in
      functor_integer (functor_of h root.0) k.0 z k.1 k.2 (integer_label r.names k.0.label z k.3)),
)
  where
    integer_is : {z : ℤ} {g : Rooted} → IsInteger z g → (y : ℕ) × (g.process ≡ atom (integer z) (y ∷ []))
    integer_is (an_integer {x = x}) = (x, refl)
