-- The code of the body of a rule that is matched and prepared can be committed.
use Rattle.std.proofs.Common.{ℕ, zero, suc, ◌≡◌, ◌≢◌, ◌<◌, ◌≤◌, ◌+◌, ◌==◌, ◌⊎◌, inl, inr, Bool, true, false, cond, List, [], ◌∷◌, ◌++◌, map, Option, Some, None, IsSome, refl, arith, ap, sym, subst, length, ◌∙◌}
use Rattle.std.specs.Option.{option_map, option_and_then}
use Rattle.std.specs.Prelude.{slice_get, slice_index_or, pos}
use Rattle.lmn_store_heap.specs.Heap.{Heap, HeapAtom, Place, top, within, waiting, gone, IsInPlace, home_by, partners_of, marks_of, arity_of, link_of, rules_in, spare_of, IsMemInPlace, unless_waiting, discarded, taken, with_place, taken_all, Unmarked}
use Rattle.lmn_store_heap.specs.Sound.{Sound, Valid, Forest, bare, mem, Forms}
use Rattle.lmn_store_heap.specs.Heap.{HeapMem, mems_in, mems_by, mem_with_spare}
use Rattle.lmn_base.specs.Solids.{connector}
use Rattle.lmn_store_heap.proofs.Replacing.{port_within}
use Rattle.lmn_store_heap.specs.Conditions.{Alone}
use Rattle.lmn_solid_heads.specs.declared.items.HeadItem.{HeadItem}
use Rattle.lmn_solid_heads.specs.Heads.{HeadMembrane, HeadTyped, typed_contexts_of, atoms_of, membranes_of}
use Rattle.lmn_solid_heads.specs.Embeddings.{Lies}
use Rattle.lmn_congruence_splice.specs.Classes.{class_of, ends_of_class, rising}
use Rattle.lmn_instr_code.specs.declared.instr.AtomPort.{AtomPort}
use Rattle.lmn_instr_code.specs.declared.instr.NewPort.{NewPort}
use Rattle.lmn_instr_code.specs.declared.instr.Instr.{Instr}
use Rattle.lmn_instr_code.specs.declared.instr.Instr.TheVariants.{RemoveAtom, RemovePart, RemoveMem, LoadRule, CopyRules, DropCells, Proceed}
use Rattle.lmn_solid_bodies.specs.declared.items.BodyItem.{BodyItem}
use Rattle.lmn_solid_bodies.specs.declared.items.BodyItem.TheVariants.{Atom, Connector, Copy, Bound, Membrane, Rest, Rule, Rules}
use Rattle.lmn_solid_bodies.specs.Added.{named_rules, if_inside}
use Rattle.lmn_solid_bodies.specs.Code.{body_code, removals, making, drops, link_code, links_code}
use Rattle.lmn_solid_bodies.specs.Rules.{NestedRule}
use Rattle.lmn_solid_bodies.specs.Items.{new_ports, old_ports, connectors}
use Rattle.lmn_solid_bodies.specs.Running.{Registers, Prepares, DoesAll}
use Rattle.lmn_solid_bodies.specs.Conditions.{Can, CanRun}
use Rattle.lmn_solid_bodies.specs.Stopping.{SameButSpares}
use Rattle.lmn_solid_bodies.specs.Within.{HoldsRests}
use Rattle.lmn_solid_bodies.proofs.Stops.{prepare_stops}
use Rattle.lmn_solid_bodies.proofs.Parts.{taken_links}
use Rattle.lmn_solid_bodies.proofs.Firing.{rising_below}
use Rattle.lmn_machine_registers.specs.declared.registers.SetRegisters.{SetRegisters}
use Rattle.lmn_machine_commit.specs.Registers.{AgreesWithCopies, HasCopies, HasRests}
use Rattle.lmn_machine_commit.specs.Preparing.{needed, needed_by}
use Rattle.lmn_machine_commit.specs.Committing.{Runs, Stands}
use Rattle.lmn_machine_commit.specs.Matched.{IsPrepared, BodiesCanBeCommitted}
use Rattle.lmn_solid_bodies.proofs.Numbering.{links_have_numbers}
use Rattle.lmn_solid_bodies.proofs.Laws.{body_can_run, body_fires_within}
use Rattle.lmn_machine_commit.proofs.Making.{agrees_before}
use Rattle.std.proofs.lemmas.List.{append_assoc}
use Rattle.lmn_base.specs.Lists.{In}

-- Instructions of a list, each with a property

abbrev AllAre : (Instr → Type 0) → List Instr → Type 0
AllAre P [] = Unit {0}
AllAre P (i ∷ is) = P i × AllAre P is

-- it adds no rule and takes no part
abbrev IsPlain : Instr → Type 0
IsPlain (RemovePart g) = ⊥
IsPlain (LoadRule m k) = ⊥
IsPlain (CopyRules m n) = ⊥
IsPlain _ = Unit {0}

-- it takes no part
abbrev TakesNone : Instr → Type 0
TakesNone (RemovePart g) = ⊥
TakesNone _ = Unit {0}

plain_takes_none : (i : Instr) → IsPlain i → TakesNone i
plain_takes_none (RemovePart g) p = p
plain_takes_none (LoadRule m k) p = absurd p
plain_takes_none (CopyRules m n) p = absurd p
plain_takes_none _ p = tt

plain_adds_none : (r : Registers) (rules : ℕ → List ℕ) (x : ℕ) (i : Instr) → IsPlain i → needed_by r rules i x ≡ 0
plain_adds_none r rules x (RemovePart g) p = refl
plain_adds_none r rules x (LoadRule m k) p = absurd p
plain_adds_none r rules x (CopyRules m n) p = absurd p
plain_adds_none r rules x _ p = refl

all_append : (P : Instr → Type 0) (xs ys : List Instr) → AllAre P xs → AllAre P ys → AllAre P (xs ++ ys)
all_append P [] ys p q = q
all_append P (x ∷ xs) ys p q = (p.0, all_append P xs ys p.1 q)

all_plain : (is : List Instr) → AllAre IsPlain is → AllAre TakesNone is
all_plain [] p = tt
all_plain (i ∷ is) p = (plain_takes_none i p.0, all_plain is p.1)

atoms_plain : (ns : List ℕ) → AllAre IsPlain (map RemoveAtom ns)
atoms_plain [] = tt
atoms_plain (n ∷ ns) = (tt, atoms_plain ns)

mems_plain : (ns : List ℕ) → AllAre IsPlain (map RemoveMem ns)
mems_plain [] = tt
mems_plain (n ∷ ns) = (tt, mems_plain ns)

drops_plain : (k : ℕ) (bs : List HeadMembrane) → AllAre IsPlain (drops k bs)
drops_plain k [] = tt
drops_plain k (b ∷ bs) = by b.has_closed_context (drops_plain (k + 1) bs)
  where
    by : (t : Bool) → AllAre IsPlain (drops (k + 1) bs) → AllAre IsPlain (cond t (DropCells k ∷ []) [] ++ drops (k + 1) bs)
    by true p = (tt, p)
    by false p = p

making_takes_none : (a m c : ℕ) (body : List BodyItem) → AllAre TakesNone (making a m c body)
making_takes_none a m c [] = tt
making_takes_none a m c (Atom functor links inside ∷ xs) = (tt, making_takes_none (a + 1) m c xs)
making_takes_none a m c (Connector left right ∷ xs) = making_takes_none a m c xs
making_takes_none a m c (Copy part link inside ∷ xs) = (tt, making_takes_none a m (c + 1) xs)
making_takes_none a m c (Bound integer link inside ∷ xs) = (tt, making_takes_none (a + 1) m c xs)
making_takes_none a m c (Membrane inside ∷ xs) = (tt, making_takes_none a (m + 1) c xs)
making_takes_none a m c (Rest of true inside ∷ xs) = (tt, making_takes_none a m c xs)
making_takes_none a m c (Rest of false inside ∷ xs) = (tt, making_takes_none a m c xs)
making_takes_none a m c (Rule rule inside ∷ xs) = (tt, making_takes_none a m c xs)
making_takes_none a m c (Rules of inside ∷ xs) = (tt, making_takes_none a m c xs)

link_plain : (ps : List NewPort) (hs : List AtomPort) → AllAre IsPlain (link_code ps hs)
link_plain [] [] = tt
link_plain [] (g ∷ []) = tt
link_plain [] (g ∷ h ∷ []) = (tt, tt)
link_plain [] (g ∷ h ∷ k ∷ hs) = tt
link_plain (p ∷ []) [] = tt
link_plain (p ∷ []) (h ∷ []) = (tt, tt)
link_plain (p ∷ []) (g ∷ h ∷ hs) = tt
link_plain (p ∷ q ∷ []) [] = (tt, tt)
link_plain (p ∷ q ∷ []) (h ∷ hs) = tt
link_plain (p ∷ q ∷ o ∷ ps) hs = tt

links_plain : (m : ℕ → ℕ) (news : List (NewPort × ℕ)) (olds : List (AtomPort × ℕ)) (zs : List ℕ) → AllAre IsPlain (links_code m news olds zs)
links_plain m news olds [] = tt
links_plain m news olds (z ∷ zs) = all_append IsPlain (link_code (ends_of_class m z news) (ends_of_class m z olds)) (links_code m news olds zs) (link_plain (ends_of_class m z news) (ends_of_class m z olds)) (links_plain m news olds zs)

-- Room for rules

needed_append : (r : Registers) (rules : ℕ → List ℕ) (xs ys : List Instr) (x : ℕ) → needed r rules (xs ++ ys) x ≡ needed r rules xs x + needed r rules ys x
needed_append r rules [] ys x = omega arith
needed_append r rules (i ∷ xs) ys x = let t = needed_append r rules xs ys x in omega (arith, t)

plain_needs_none : (r : Registers) (rules : ℕ → List ℕ) (is : List Instr) (x : ℕ) → AllAre IsPlain is → needed r rules is x ≡ 0
plain_needs_none r rules [] x p = refl
plain_needs_none r rules (i ∷ is) x p = let t = plain_needs_none r rules is x p.1 in let u = plain_adds_none r rules x i p.0 in omega (arith, t, u)

parts_need_none : (r : Registers) (rules : ℕ → List ℕ) (gs : List ℕ) (x : ℕ) → needed r rules (map RemovePart gs) x ≡ 0
parts_need_none r rules [] x = refl
parts_need_none r rules (g ∷ gs) x = let t = parts_need_none r rules gs x in omega (arith, t)

length_append : {A : Type 0} (xs ys : List A) → length (xs ++ ys) ≡ length xs + length ys
length_append [] ys = omega arith
length_append (x ∷ xs) ys = let t = length_append xs ys in omega (arith, t)

if_length : (r : Registers) (x inside : ℕ) (ns : List ℕ) → length (if_inside r x inside ns) ≡ cond (r.head.images.membrane inside == x) (length ns) 0
if_length r x inside ns = by (r.head.images.membrane inside == x)
  where
    by : (t : Bool) → length (cond t ns []) ≡ cond t (length ns) 0
    by true = refl
    by false = refl

zero_first : {m n : ℕ} → m ≡ n → 0 + m ≡ n
zero_first {m} {n} e = omega (arith, e)

making_needs : (r : Registers) (rules : ℕ → List ℕ) (a m c : ℕ) (body : List BodyItem) (x : ℕ) → needed r rules (making a m c body) x ≡ length (named_rules r rules body x)
making_needs r rules a m c [] x = refl
making_needs r rules a m c (Atom functor links inside ∷ xs) x = zero_first (making_needs r rules (a + 1) m c xs x)
making_needs r rules a m c (Connector left right ∷ xs) x = making_needs r rules a m c xs x
making_needs r rules a m c (Copy part link inside ∷ xs) x = zero_first (making_needs r rules a m (c + 1) xs x)
making_needs r rules a m c (Bound integer link inside ∷ xs) x = zero_first (making_needs r rules (a + 1) m c xs x)
making_needs r rules a m c (Membrane inside ∷ xs) x = zero_first (making_needs r rules a (m + 1) c xs x)
making_needs r rules a m c (Rest of true inside ∷ xs) x = zero_first (making_needs r rules a m c xs x)
making_needs r rules a m c (Rest of false inside ∷ xs) x = zero_first (making_needs r rules a m c xs x)
making_needs r rules a m c (Rule rule inside ∷ xs) x =
    let t = making_needs r rules a m c xs x in
    let u = length_append (if_inside r x inside (rule ∷ [])) (named_rules r rules xs x) in
    let v = if_length r x inside (rule ∷ []) in
    ap (λ n. needed_by r rules (LoadRule inside rule) x + n) t ∙ sym (u ∙ ap (λ n. n + length (named_rules r rules xs x)) v)
making_needs r rules a m c (Rules of inside ∷ xs) x =
    let t = making_needs r rules a m c xs x in
    let u = length_append (if_inside r x inside (rules (r.head.images.membrane of))) (named_rules r rules xs x) in
    let v = if_length r x inside (rules (r.head.images.membrane of)) in
    ap (λ n. needed_by r rules (CopyRules of inside) x + n) t ∙ sym (u ∙ ap (λ n. n + length (named_rules r rules xs x)) v)

code_needs : (r : Registers) (rules : ℕ → List ℕ) (head : List HeadItem) (body : List BodyItem) (n x : ℕ) → needed r rules (body_code head body n) x ≡ length (named_rules r rules body x)
code_needs r rules head body n x =
    let os = map RemoveAtom (rising 0 (length (atoms_of head))) in
    let gs = map RemovePart (rising 0 (length (typed_contexts_of head))) in
    let ms = map RemoveMem (rising 1 (length (membranes_of head))) in
    let made = making (length (atoms_of head)) (1 + length (membranes_of head)) 0 body in
    let ls = links_code (class_of (connectors body)) (new_ports (length (atoms_of head)) 0 body) (old_ports head) (rising 0 n) in
    let ds = drops 1 (membranes_of head) in
    let e1 = needed_append r rules (removals head) (made ++ (ds ++ (ls ++ (Proceed ∷ [])))) x in
    let e2 = needed_append r rules os (gs ++ ms) x in
    let e3 = needed_append r rules gs ms x in
    let e4 = needed_append r rules made (ds ++ (ls ++ (Proceed ∷ []))) x in
    let e6 = needed_append r rules ds (ls ++ (Proceed ∷ [])) x in
    let z5 = plain_needs_none r rules ds x (drops_plain 1 (membranes_of head)) in
    let e5 = needed_append r rules ls (Proceed ∷ []) x in
    let z1 = plain_needs_none r rules os x (atoms_plain (rising 0 (length (atoms_of head)))) in
    let z2 = parts_need_none r rules (rising 0 (length (typed_contexts_of head))) x in
    let z3 = plain_needs_none r rules ms x (mems_plain (rising 1 (length (membranes_of head)))) in
    let z4 = plain_needs_none r rules ls x (links_plain (class_of (connectors body)) (new_ports (length (atoms_of head)) 0 body) (old_ports head) (rising 0 n)) in
    let k = making_needs r rules (length (atoms_of head)) (1 + length (membranes_of head)) 0 body x in
    omega (arith, e1, e2, e3, e4, e5, e6, z1, z2, z3, z4, z5, k)

-- Parts stand whole until they are taken

-- What is in place has all its ports joined, and so are the roots of these parts.
record Joined (r : Registers) (gs : List ℕ) (s : Heap) : Type 0 where
  pub full : (a i : ℕ) → IsInPlace s a → i < arity_of s a → IsSome (link_of s a i)
  pub roots : (g : ℕ) → In g gs → IsSome (link_of s (r.head.images.part g).0 (r.head.images.part g).1)

-- after a change that keeps links and puts nothing in place
joined_on : (r : Registers) (gs : List ℕ) (s t : Heap) → ((a i : ℕ) → link_of t a i ≡ link_of s a i) → ((a : ℕ) → arity_of t a ≡ arity_of s a) → ((a : ℕ) → IsInPlace t a → IsInPlace s a) → Joined r gs s → Joined r gs t
joined_on r gs s t links arities places j = record {
  full = λ a i p l. subst (λ (o : Option (ℕ × ℕ)). IsSome o) (sym (links a i)) (j.full a i (places a p) (subst (λ n. i < n) (arities a) l));
  roots = λ g i. subst (λ (o : Option (ℕ × ℕ)). IsSome o) (sym (links (r.head.images.part g).0 (r.head.images.part g).1)) (j.roots g i);
}

taken_arity : (s : Heap) (n a : ℕ) → arity_of (taken s n) a ≡ arity_of s a
taken_arity s n a = ap length (by (a == n) (s.atoms a))
  where
    by : (t : Bool) (o : Option HeapAtom) → partners_of (cond t (option_map (with_place gone) o) o) ≡ partners_of o
    by false o = refl
    by true None = refl
    by true (Some x) = refl

taken_in : (s : Heap) (n a : ℕ) → IsInPlace (taken s n) a → IsInPlace s a
taken_in s n a = by (a == n) (s.atoms a)
  where
    by : (t : Bool) (o : Option HeapAtom) → IsSome (option_and_then (λ x. home_by x.place) (cond t (option_map (with_place gone) o) o)) → IsSome (option_and_then (λ x. home_by x.place) o)
    by false o e = e
    by true None e = e
    by true (Some x) e = absurd (let z : IsSome (home_by gone) = e in cc)

all_taken_arity : (ns : List ℕ) (s : Heap) (a : ℕ) → arity_of (taken_all s ns) a ≡ arity_of s a
all_taken_arity [] s a = refl
all_taken_arity (n ∷ ns) s a = all_taken_arity ns (taken s n) a ∙ taken_arity s n a

all_taken_in : (ns : List ℕ) (s : Heap) (a : ℕ) → IsInPlace (taken_all s ns) a → IsInPlace s a
all_taken_in [] s a p = p
all_taken_in (n ∷ ns) s a p = taken_in s n a (all_taken_in ns (taken s n) a p)

joined_taken : (r : Registers) (gs ns : List ℕ) (s : Heap) → Joined r gs s → Joined r gs (taken_all s ns)
joined_taken r gs ns s j = joined_on r gs s (taken_all s ns) (λ a i. taken_links ns s a i) (λ a. all_taken_arity ns s a) (λ a p. all_taken_in ns s a p) j

part_stands : (r : Registers) (g : ℕ) (s : Heap) → Joined r (g ∷ []) s → Can r (RemovePart g) s → Stands r (RemovePart g) s
part_stands r g s j can = (
  (is_atom (s.atoms (r.head.images.part g).0) (j.roots g (inl refl)), within_root (link_of s (r.head.images.part g).0 (r.head.images.part g).1) refl (j.roots g (inl refl))),
  record { atoms = λ a q. tt; ends = λ a i q l d. j.full a i (can a q) l },
)
  where
    is_atom : (o : Option HeapAtom) → IsSome (slice_index_or (partners_of o) (r.head.images.part g).1 None) → IsSome o
    is_atom None e = absurd (none (r.head.images.part g).1 e)
      where
        none : (k : ℕ) → IsSome (slice_index_or (partners_of None) k None) → ⊥
        none zero q = cc
        none (suc k) q = cc
    is_atom (Some x) e = refl

    within_root : (o : Option (ℕ × ℕ)) → link_of s (r.head.images.part g).0 (r.head.images.part g).1 ≡ o → IsSome o → (r.head.images.part g).1 < arity_of s (r.head.images.part g).0
    within_root None q e = absurd (cc)
    within_root (Some p) q e = port_within s (r.head.images.part g).0 (r.head.images.part g).1 p q

stands_none : (r : Registers) (i : Instr) (s : Heap) → TakesNone i → Stands r i s
stands_none r (RemovePart g) s n = absurd n
stands_none r _ s n = tt

rest_runs : (r : Registers) (is : List Instr) (s : Heap) → AllAre TakesNone is → CanRun r is s → Runs r is s
rest_runs r [] s n c = tt
rest_runs r (i ∷ is) s n c = (c.0, stands_none r i s n.0, λ t d. rest_runs r is t n.1 (c.1 t d))

parts_run : (r : Registers) (gs : List ℕ) (rest : List Instr) (s : Heap) → Joined r gs s → AllAre TakesNone rest → CanRun r (map RemovePart gs ++ rest) s → Runs r (map RemovePart gs ++ rest) s
parts_run r [] rest s j n c = rest_runs r rest s n c
parts_run r (g ∷ gs) rest s j n c = (
  c.0,
  part_stands r g s (record { full = j.full; roots = λ k i. j.roots k (first k i) }) c.0,
  λ t d. parts_run r gs rest t (subst (Joined r gs) (sym d.3) (joined_taken r gs d.0 s (record { full = j.full; roots = λ k i. j.roots k (inr i) }))) n (c.1 t d),
)
  where
    first : (k : ℕ) → In k (g ∷ []) → In k (g ∷ gs)
    first k (inl e) = inl e
    first k (inr e) = absurd e

atoms_run : (r : Registers) (ns gs : List ℕ) (rest : List Instr) (s : Heap) → Joined r gs s → AllAre TakesNone rest → CanRun r (map RemoveAtom ns ++ (map RemovePart gs ++ rest)) s → Runs r (map RemoveAtom ns ++ (map RemovePart gs ++ rest)) s
atoms_run r [] gs rest s j n c = parts_run r gs rest s j n c
atoms_run r (a ∷ ns) gs rest s j n c = (c.0, tt, λ t d. atoms_run r ns gs rest t (subst (Joined r gs) (sym d) (joined_taken r gs (r.head.images.atom a ∷ []) s j)) n (c.1 t d))

-- A prepared heap

-- a valid heap, in which nothing is made
pub itself : (h : Heap) → Valid h → Alone h × SameButSpares h (discarded h)
itself h v = prepare_stops (record { head = record { images = record { atom = λ k. 0; membrane = λ k. 0; part = λ k. (0, 0) }; integer = λ k. pos 0 }; copy = λ k. (0, 0); copied = λ k. []; left_atoms = λ k. []; left_membranes = λ k. [] }) [] tt h v h refl

not_gone : (p : Place) → IsSome (home_by p) → (x : HeapAtom) → x.place ≡ p → unless_waiting x ≡ Some x
not_gone top e x q = rw q refl
not_gone (within m) e x q = rw q refl
not_gone waiting e x q = absurd (cc)
not_gone gone e x q = rw q refl

-- an atom in place stood there before
stood : (h s : Heap) → SameButSpares h (discarded s) → (a : ℕ) → IsInPlace s a → s.atoms a ≡ h.atoms a
stood h s e a p = by (s.atoms a) p (e.atoms a)
  where
    by : (o : Option HeapAtom) → IsSome (option_and_then (λ x. home_by x.place) o) → option_and_then unless_waiting o ≡ h.atoms a → o ≡ h.atoms a
    by None q f = f
    by (Some x) q f = sym (not_gone x.place q x refl) ∙ f

-- an atom that stood before is there
pub stays_there : (h s : Heap) → SameButSpares h (discarded s) → (a : ℕ) → IsSome (h.atoms a) → s.atoms a ≡ h.atoms a
stays_there h s e a p = by (s.atoms a) (e.atoms a)
  where
    kept : (x : HeapAtom) (q : Place) → x.place ≡ q → unless_waiting x ≡ h.atoms a → Some x ≡ h.atoms a
    kept x top w f = sym (rw w refl) ∙ f
    kept x (within m) w f = sym (rw w refl) ∙ f
    kept x waiting w f = absurd (let z : unless_waiting x ≡ None = rw w refl in let y : IsSome {T = HeapAtom} None = subst (λ (o : Option HeapAtom). IsSome o) (sym f ∙ z) p in cc)
    kept x gone w f = sym (rw w refl) ∙ f

    by : (o : Option HeapAtom) → option_and_then unless_waiting o ≡ h.atoms a → o ≡ h.atoms a
    by None f = f
    by (Some x) f = kept x x.place refl f

atom_of_link : (h : Heap) (a i : ℕ) → IsSome (link_of h a i) → IsSome (h.atoms a)
atom_of_link h a i e = by (h.atoms a) e
  where
    none : (k : ℕ) → IsSome (slice_index_or (partners_of None) k None) → ⊥
    none zero q = cc
    none (suc k) q = cc

    by : (o : Option HeapAtom) → IsSome (slice_index_or (partners_of o) i None) → IsSome o
    by None q = absurd (none i q)
    by (Some x) q = refl

get_typed : (xs : List HeadTyped) (k : ℕ) → k < length xs → (t : HeadTyped) × (slice_get xs k ≡ Some t)
get_typed [] k l = absurd (omega arith)
get_typed (x ∷ xs) zero l = (x, refl)
get_typed (x ∷ xs) (suc k) l = get_typed xs k (omega arith)

module _ (head : List HeadItem) (body : List BodyItem) (n : ℕ) (rule : NestedRule head body n) (h : Heap) (valid : Valid h) (m : ℕ) (in_place : IsMemInPlace h m) (r : Registers) (lies : Lies h head m r.head.images) (rests : HoldsRests h r head)
    (s : Heap) (prepares : Prepares r (body_code head body n) h s) (same : SameButSpares h (discarded s)) (room : (x : ℕ) → needed r (rules_in h) (body_code head body n) x ≤ spare_of s x) where
  root_joined : (g : ℕ) → g < length (typed_contexts_of head) → IsSome (link_of h (r.head.images.part g).0 (r.head.images.part g).1)
  root_joined g l =
      let t = get_typed (typed_contexts_of head) g l in
      let held = rule.atoms.held g t.0 t.1 in
      let e = valid.sound.paired.back (r.head.images.atom held.0.0) held.0.1 (r.head.images.part g).0 (r.head.images.part g).1 ((lies.parts g t.0 t.1).held held.0 held.1) in
      subst (λ (o : Option (ℕ × ℕ)). IsSome o) (sym e) refl

  joined_now : Joined r (rising 0 (length (typed_contexts_of head))) s
  joined_now = record {
    full = λ a i q l. (let e = stood h s same a q in
        let links : link_of h a i ≡ link_of s a i = ap (λ (o : Option HeapAtom). slice_index_or (partners_of o) i None) (sym e) in
        let arity : arity_of s a ≡ arity_of h a = ap (λ (o : Option HeapAtom). length (partners_of o)) e in
        subst (λ (o : Option (ℕ × ℕ)). IsSome o) links (valid.full a i (omega (arith, arity, l))));
    roots = λ g i. (let b = (rising_below (length (typed_contexts_of head)) 0 g i).1 in
        let w = root_joined g (omega (arith, b)) in
        let e = stays_there h s same (r.head.images.part g).0 (atom_of_link h (r.head.images.part g).0 (r.head.images.part g).1 w) in
        let links : link_of h (r.head.images.part g).0 (r.head.images.part g).1 ≡ link_of s (r.head.images.part g).0 (r.head.images.part g).1 = ap (λ (o : Option HeapAtom). slice_index_or (partners_of o) (r.head.images.part g).1 None) (sym e) in
        subst (λ (o : Option (ℕ × ℕ)). IsSome o) links w);
  }

  can_run : CanRun r (body_code head body n) s
  can_run =
      let c = links_have_numbers h valid in
      body_can_run head body n rule r h valid m lies rests in_place c.0 c.1 s prepares (λ x. subst (λ k. k ≤ spare_of s x) (code_needs r (rules_in h) head body n x) (room x))

  -- a body that is prepared can be committed,
  body_runs : Runs r (body_code head body n) s
  body_runs =
      let made = making (length (atoms_of head)) (1 + length (membranes_of head)) 0 body in
      let ls = links_code (class_of (connectors body)) (new_ports (length (atoms_of head)) 0 body) (old_ports head) (rising 0 n) in
      let os = map RemoveAtom (rising 0 (length (atoms_of head))) in
      let gs = map RemovePart (rising 0 (length (typed_contexts_of head))) in
      let ms = map RemoveMem (rising 1 (length (membranes_of head))) in
      let ds = drops 1 (membranes_of head) in
      let rest = ms ++ (made ++ (ds ++ (ls ++ (Proceed ∷ [])))) in
      let none : AllAre TakesNone rest =
      all_append TakesNone ms (made ++ (ds ++ (ls ++ (Proceed ∷ [])))) (all_plain ms (mems_plain (rising 1 (length (membranes_of head)))))
      (all_append TakesNone made (ds ++ (ls ++ (Proceed ∷ []))) (making_takes_none (length (atoms_of head)) (1 + length (membranes_of head)) 0 body)
      (all_append TakesNone ds (ls ++ (Proceed ∷ [])) (all_plain ds (drops_plain 1 (membranes_of head)))
      (all_append TakesNone ls (Proceed ∷ []) (all_plain ls (links_plain (class_of (connectors body)) (new_ports (length (atoms_of head)) 0 body) (old_ports head) (rising 0 n))) (tt, tt)))) in
      let parts : body_code head body n ≡ os ++ (gs ++ rest) = append_assoc os (gs ++ ms) (made ++ (ds ++ (ls ++ (Proceed ∷ [])))) ∙ ap (λ is. os ++ is) (append_assoc gs ms (made ++ (ds ++ (ls ++ (Proceed ∷ []))))) in
      subst (λ is. Runs r is s) (sym parts)
      (atoms_run r (rising 0 (length (atoms_of head))) (rising 0 (length (typed_contexts_of head))) rest s joined_now none (subst (λ is. CanRun r is s) parts can_run))

  -- and what it leaves is valid
  body_leaves_valid : (t : Heap) → DoesAll r (body_code head body n) s t → Valid t
  body_leaves_valid t w =
      let c = links_have_numbers h valid in
      (body_fires_within head body n rule r h valid m lies rests in_place c.0 c.1 t (s, prepares, w)).2

-- the code of the body of a rule can be committed wherever its head lies
pub bodies_can_be_committed : BodiesCanBeCommitted
bodies_can_be_committed head body n rule h valid m in_place r lies rests s prepares same room =
    (body_runs head body n rule h valid m in_place r lies rests s prepares same room, body_leaves_valid head body n rule h valid m in_place r lies rests s prepares same room)

module _ {A M : Type 0} (atom : A → ℕ) (membrane : M → ℕ) (s : Heap) (k : SetRegisters A M) (code : List Instr) (p : IsPrepared atom membrane s k code) (r : Registers) (u : AgreesWithCopies atom membrane k r) (has : HasCopies r p.prepared.copied)
    (rests : HasRests atom membrane p.before p.matched_by r) where
  pub prepares : Prepares r code p.before s
  prepares = p.prepared.prepares r u has rests

  committed : Runs r code s × ((t : Heap) → DoesAll r code s t → Valid t)
  committed =
      p.matched.commits r (agrees_before atom membrane p.matched_by k r p.prepared.grows u) rests s prepares (p.prepared.makes.rest p.before (itself p.before p.matched.valid).1) (p.prepared.spares r u)

  -- what is prepared can be committed,
  pub prepared_runs : Runs r code s
  prepared_runs = committed.0

  -- and what it leaves is valid
  pub fires_valid : (t : Heap) → DoesAll r code s t → Valid t
  fires_valid = committed.1

-- A heap that differs from a valid one in spares alone has no marks and is valid.

-- what differs in spares alone has no marks either
pub stops_unmarked : (h t : Heap) → SameButSpares h t → Unmarked h → Unmarked t
stops_unmarked h t e u a i = ap (λ (o : Option HeapAtom). slice_index_or (marks_of o) i 0) (e.atoms a) ∙ u a i

forms_on : (h t : Heap) → ((m : ℕ) → mems_in t m ≡ mems_in h m) → (f : Forest) (ms : List ℕ) → Forms h f ms → Forms t f ms
forms_on h t e bare ms w = w
forms_on h t e (mem m inner rest) ms w = (w.0, w.1, subst (Forms t inner) (sym (e m)) (forms_on h t e inner (mems_in h m) w.2), forms_on h t e rest w.0 w.3)

-- and is valid where it is sound
pub valid_but_spares : (h t : Heap) → SameButSpares h t → Valid h → Sound t → Valid t
valid_but_spares h t e v sound = record {
  sound = sound;
  settled = record {
    atoms = λ a i. subst (λ (o : Option HeapAtom). IsSome (option_and_then (λ x. home_by x.place) o)) (sym (e.atoms a)) (v.settled.atoms a (subst (λ (o : Option HeapAtom). IsSome o) (e.atoms a) i));
    mems = λ m i. (let q = e.mems m in
        subst (λ (o : Option HeapMem). (option_map (λ x. x.place) o ≡ Some top) ⊎ IsSome (option_and_then (λ x. home_by x.place) o)) (sym q.1)
        (placed_with q.0 (h.mems m) (v.settled.mems m (some_before q.0 (h.mems m) (subst (λ (o : Option HeapMem). IsSome o) q.1 i)))));
  };
  full = λ a i. subst (λ (o : Option HeapAtom). i < length (partners_of o) → IsSome (slice_index_or (partners_of o) i None)) (sym (e.atoms a)) (v.full a i);
  no_connector = λ a. subst (λ (o : Option HeapAtom). IsSome (option_and_then (λ x. home_by x.place) o) → option_map (λ x. x.functor) o ≢ Some connector) (sym (e.atoms a)) (v.no_connector a);
  tree = (
    v.tree.0,
    record {
      forms = subst (λ n. Forms t v.tree.0 (n ∷ [])) (sym e.root) (forms_on h t same_inner v.tree.0 (h.root ∷ []) v.tree.1.forms);
      once = v.tree.1.once;
      all = λ m i. v.tree.1.all m (some_before (e.mems m).0 (h.mems m) (subst (λ (o : Option HeapMem). IsSome o) (e.mems m).1 i));
    },
  );
}
  where
    some_before : (k : ℕ) (o : Option HeapMem) → IsSome (option_map (mem_with_spare k) o) → IsSome o
    some_before k None i = i
    some_before k (Some x) i = refl

    placed_with : (k : ℕ) (o : Option HeapMem) → (option_map (λ x. x.place) o ≡ Some top) ⊎ IsSome (option_and_then (λ x. home_by x.place) o) →
        (option_map (λ x. x.place) (option_map (mem_with_spare k) o) ≡ Some top) ⊎ IsSome (option_and_then (λ x. home_by x.place) (option_map (mem_with_spare k) o))
    placed_with k None w = w
    placed_with k (Some x) w = w

    inner_of : (k : ℕ) (o : Option HeapMem) → mems_by (option_map (mem_with_spare k) o) ≡ mems_by o
    inner_of k None = refl
    inner_of k (Some x) = refl

    same_inner : (m : ℕ) → mems_in t m ≡ mems_in h m
    same_inner m = ap mems_by (e.mems m).1 ∙ inner_of (e.mems m).0 (h.mems m)
