-- Where the code of a flat rule is committed from graph to graph, the rule fires from heap to heap.
use Rattle.std.proofs.Common.{ℕ, zero, suc, ◌≡◌, ◌≢◌, ◌∙◌, ◌<◌, ◌+◌, ◌==◌, ◌⊎◌, Bool, true, false, List, [], ◌∷◌, ◌++◌, Option, Some, None, IsSome, length, map, refl, sym, ap, subst, inl, inr, arith}
use Rattle.std.specs.Prelude.{if◌then◌else◌, slice_get}
use Rattle.std.specs.List.{AllByRecursion}
use Rattle.std.specs.Option.{option_map}
use Rattle.std.proofs.lemmas.Bool.{eq-eqb, eqb-true}
use Rattle.std.proofs.lemmas.Option.{same_Some}
use Rattle.lmn_base.specs.declared.functor.Functor.{Functor}
use Rattle.lmn_base.specs.Graphs.{Port}
use Rattle.lmn_base.specs.Lists.{In}
use Rattle.lmn_base.proofs.Lists.{all_right, in_either}
use Rattle.lmn_store_heap.specs.Heap.{Heap, HeapAtom, HeapMem, IsInPlace, arity_of, atoms_in, functor_of, link_of, mems_in, parent_of, rules_in}
use Rattle.lmn_store_heap.specs.Lists.{Distinct, without_all}
use Rattle.lmn_store_heap.specs.Sound.{Valid}
use Rattle.lmn_store_heap.proofs.Common.{in_place_atom, linked_atom}
use Rattle.lmn_store_heap.proofs.ListLemmas.{in_left, in_right}
use Rattle.lmn_store_heap.proofs.Replacing.{port_within}
use Rattle.lmn_ground_parts.specs.Walks.{FoundInside, Net}
use Rattle.lmn_congruence_splice.specs.Classes.{rising}
use Rattle.lmn_congruence_splice.specs.Splice.{IsOneOf, of_rule, of_solid}
use Rattle.lmn_congruence_splice.proofs.Common.{in_append, in_front, in_back, each_is}
use Rattle.lmn_solid_heads.specs.declared.items.HeadItem.{HeadItem}
use Rattle.lmn_solid_heads.specs.Heads.{HeadMembrane, atoms_of, membranes_of}
use Rattle.lmn_instr_code.specs.declared.instr.AtomPort.{AtomPort}
use Rattle.lmn_instr_code.specs.declared.instr.Code.{Code}
use Rattle.lmn_instr_code.specs.declared.instr.NewPort.{NewPort}
use Rattle.lmn_instr_code.specs.declared.instr.Instr.{Instr}
use Rattle.lmn_instr_code.specs.declared.instr.Instr.TheVariants.{RemoveAtom, RemovePart, RemoveMem, DropCells, NewLink, Relink, Unify}
use Rattle.lmn_solid_bodies.specs.declared.items.BodyItem.{BodyItem}
use Rattle.lmn_solid_bodies.specs.declared.items.BodyItem.TheVariants.{Atom, Connector, Copy, Bound, Membrane, Rest, Rule, Rules}
use Rattle.lmn_solid_bodies.specs.Added as flat
use Rattle.lmn_solid_bodies.specs.Code.{making}
use Rattle.lmn_solid_bodies.specs.Fired.{images_of}
use Rattle.lmn_solid_bodies.specs.Items.{new_ports, old_ports}
use Rattle.lmn_solid_bodies.specs.Made.{copies_of, made_of}
use Rattle.lmn_solid_bodies.specs.Names.{Names}
use Rattle.lmn_solid_bodies.specs.RestCopies.{AreAsLong, AreRestsCopied, RestCopies, RestCopy, later}
use Rattle.lmn_solid_bodies.specs.Rules.{PartAtoms}
use Rattle.lmn_solid_bodies.specs.Running.{Registers, new_port, old_port}
use Rattle.lmn_solid_bodies.specs.Within.{FiresFlat, FiresWithin, IsCopyIn, dropped_mems, left_of_closed}
use Rattle.lmn_solid_bodies.proofs.HeadPorts.{in_map, of_map}
use Rattle.lmn_solid_bodies.proofs.Numbering.{links_have_numbers}
use Rattle.lmn_verify_solids.specs.Graphs.{IsPort}
use Rattle.lmn_verify_solids.specs.Heaps.{graph_of}
use Rattle.lmn_verify_solids.specs.Firing.{AreCopied, EachRest, Fires, IsPartCopied, Makes, dropped, found, removed}
use Rattle.lmn_verify_solids.specs.Flats.{HasEachTie, IsFlatCode, IsRemoval}
use Rattle.lmn_verify_solids.proofs.Fired.{atom_list, mem_list, net_same, new_list, room_list, rule_list}
use Rattle.lmn_congruence_splice.proofs.Fusions.{Half, even, odd, half, half_rule, half_solid}

-- ---- numbers

-- two numbers as one, of which the first is read back
abbrev both_as : ℕ → ℕ → ℕ
both_as zero y = of_rule y
both_as (suc k) y = of_solid (both_as k y)

abbrev count_odd : (ℕ → ℕ) → Half → ℕ
count_odd f (even x) = 0
count_odd f (odd x) = suc (f x)

abbrev first_by : ℕ → ℕ → ℕ
first_by zero n = 0
first_by (suc s) n = count_odd (λ x. first_by s x) (half n)

first_is : (s k y : ℕ) → k < s → first_by s (both_as k y) ≡ k
first_is zero k y l = absurd (omega (arith, l))
first_is (suc s) zero y l = ap (count_odd (λ x. first_by s x)) (half_rule y)
first_is (suc s) (suc k) y l = ap (count_odd (λ x. first_by s x)) (half_solid (both_as k y)) ∙ ap suc (first_is s k y (omega (arith, l)))

no_less : (k y : ℕ) → k < suc (both_as k y)
no_less zero y = omega arith
no_less (suc k) y = let l = no_less k y in omega (arith, l)

second_is : (k y j z : ℕ) → both_as k y ≡ both_as j z → y ≡ z
second_is zero y zero z e = omega (arith, e)
second_is zero y (suc j) z e = absurd (omega (arith, e))
second_is (suc k) y zero z e = absurd (omega (arith, e))
second_is (suc k) y (suc j) z e = second_is k y j z (omega (arith, e))

-- ---- lists

-- what stands beside a number first
abbrev lookup : ℕ → List (ℕ × ℕ) → ℕ
lookup z [] = 0
lookup z (e ∷ es) = if e.0 == z then e.1 else lookup z es

lookup_is : (z n : ℕ) (es : List (ℕ × ℕ)) → IsOneOf (z, n) es → ((m : ℕ) → IsOneOf (z, m) es → m ≡ n) → lookup z es ≡ n
lookup_is z n [] i one = absurd i
lookup_is z n (e ∷ es) i one = by (e.0 == z) refl i (λ j. lookup_is z n es j (λ m k. one m (inr k)))
  where
    by : (t : Bool) → (e.0 == z) ≡ t → IsOneOf (z, n) (e ∷ es) → (IsOneOf (z, n) es → lookup z es ≡ n) → (if t then e.1 else lookup z es) ≡ n
    by true q i rest = one e.1 (inl (let same = eqb-true e.0 z q in λ k. (same k, e.1)))
    by false q (inl s) rest = absurd (let t : (e.0 == z) ≡ true = eq-eqb e.0 z (ap (λ (x : ℕ × ℕ). x.0) s) in cc (q, t))
    by false q (inr j) rest = rest j

module _ (head : List HeadItem) (body : List BodyItem) (code : Code) (is : IsFlatCode head body code) (ties : HasEachTie head body code) (h t : Heap) (v : Valid h) (u : Valid t) (r : Registers)
    (ps : List ℕ) (are : PartAtoms h head r.head.images ps) (f : Fires code (graph_of h) r (images_of r head ++ ps) (graph_of t)) where
  abbrev heads : ℕ
  heads = length (atoms_of head)

  abbrev rooms : ℕ
  rooms = 1 + length (membranes_of head)

  abbrev at : Port → ℕ
  at = (f).number

  abbrev Kept : Instr → Type 0
  Kept i = Makes (graph_of h) (graph_of t) r at i

  all_kept : AllByRecursion Kept (making heads rooms 0 body ++ is.behind)
  all_kept = all_right Kept is.taking (making heads rooms 0 body ++ is.behind) (subst (AllByRecursion Kept) is.whole (f).each)

  tied : (i : Instr) → IsOneOf i code.body → Kept i
  tied i w = each_is Kept code.body i (f).each w

  -- ---- links

  abbrev numbered : (c : Port → ℕ) × Names h c
  numbered = links_have_numbers h v

  abbrev name : Port → ℕ
  name p = both_as (at p) ((numbered).0 p)

  named : Names h name
  named = (let names = (numbered).1 in record {
    partner = λ p l. (let w = names.partner p l in (w.0, w.1, w.2, w.3, (let same = (f).old p w.0 w.2 in λ i. both_as (sym same i) (w.4 i))));
    only = λ p q l k e. names.only p q l k (second_is (at p) ((numbered).0 p) (at q) ((numbered).0 q) e);
  })

  abbrev new_end : NewPort × ℕ → ℕ × ℕ
  new_end e = (e.1, at (new_port r e.0))

  abbrev old_end : AtomPort × ℕ → ℕ × ℕ
  old_end e = (e.1, at (old_port r e.0))

  abbrev news : List (NewPort × ℕ)
  news = new_ports heads 0 body

  abbrev ends : List (ℕ × ℕ)
  ends = map new_end news ++ map old_end (old_ports head)

  end_of : (z m : ℕ) → IsOneOf (z, m) ends → ((p : NewPort) × IsOneOf (p, z) news × (at (new_port r p) ≡ m)) ⊎ ((g : AtomPort) × IsOneOf (g, z) (old_ports head) × (at (old_port r g) ≡ m))
  end_of z m i = elim (in_append (z, m) (map new_end news) (map old_end (old_ports head)) i) [
    | inl j ↦ (let w = of_map new_end (z, m) news j in let e = w.2 in inl (w.0.0, subst (λ k. IsOneOf (w.0.0, k) news) (ap (λ (x : ℕ × ℕ). x.0) e) w.1, ap (λ (x : ℕ × ℕ). x.1) e))
    | inr j ↦ (let w = of_map old_end (z, m) (old_ports head) j in let e = w.2 in inr (w.0.0, subst (λ k. IsOneOf (w.0.0, k) (old_ports head)) (ap (λ (x : ℕ × ℕ). x.0) e) w.1, ap (λ (x : ℕ × ℕ). x.1) e))
  ]

  abbrev value : ℕ → ℕ
  value z = lookup z ends

  new_value : (p : NewPort) (z : ℕ) → IsOneOf (p, z) news → value z ≡ at (new_port r p)
  new_value p z i = lookup_is z (at (new_port r p)) ends (in_front (z, at (new_port r p)) (map new_end news) (map old_end (old_ports head)) (in_map new_end (p, z) news i)) one
    where
      one : (m : ℕ) → IsOneOf (z, m) ends → m ≡ at (new_port r p)
      one m j = elim (end_of z m j) [
        | inl w ↦ sym w.2 ∙ elim (ties.both_new z p w.0 i w.1) [
          | inl e ↦ ap (λ x. at (new_port r x)) (sym e)
          | inr o ↦ elim o [ inl e ↦ sym (tied (NewLink p w.0) e) | inr e ↦ tied (NewLink w.0 p) e ]
        ]
        | inr w ↦ sym w.2 ∙ sym (tied (Relink p w.0) (ties.new_old z p w.0 i w.1))
      ]

  old_value : (g : AtomPort) (z : ℕ) → IsOneOf (g, z) (old_ports head) → value z ≡ at (old_port r g)
  old_value g z i = lookup_is z (at (old_port r g)) ends (in_back (z, at (old_port r g)) (map new_end news) (map old_end (old_ports head)) (in_map old_end (g, z) (old_ports head) i)) one
    where
      one : (m : ℕ) → IsOneOf (z, m) ends → m ≡ at (old_port r g)
      one m j = elim (end_of z m j) [
        | inl w ↦ sym w.2 ∙ tied (Relink w.0 g) (ties.new_old z w.0 g w.1 i)
        | inr w ↦ sym w.2 ∙ ap (λ x. at (old_port r x)) (ties.both_old z w.0 g w.1 i)
      ]

  abbrev by_half : Half → ℕ
  by_half (even x) = value x
  by_half (odd x) = first_by (suc x) x

  abbrev image : ℕ → ℕ
  image z = by_half (half z)

  image_rule : (z : ℕ) → image (of_rule z) ≡ value z
  image_rule z = ap (λ x. by_half x) (half_rule z)

  image_solid : (p : Port) → image (of_solid (name p)) ≡ at p
  image_solid p = ap (λ x. by_half x) (half_solid (name p)) ∙ first_is (suc (name p)) (at p) ((numbered).0 p) (no_less (at p) ((numbered).0 p))

  after_named : Names t at
  after_named = record {
    partner = λ p l. (let w = some (link_of t p.0 p.1) (u.full p.0 p.1 l.1) in let settled = u.settled in
        let sound = u.sound in let paired = sound.paired in let q = w.0 in
        let back : link_of t q.0 q.1 ≡ Some p = paired.back p.0 p.1 q.0 q.1 w.1 in (
          q,
          (settled.atoms q.0 (linked_atom t q.0 q.1 back), port_within t q.0 q.1 p back),
          w.1,
          (λ e. paired.apart p.0 p.1 (w.1 ∙ ap (λ (x : Port). Some x) e)),
          sym ((f).new p q w.1),
        ));
    only = λ p q l k e. (f).apart p q (port_at p l) (port_at q k) e;
  }
    where
      some : (o : Option Port) → IsSome o → (q : Port) × (o ≡ Some q)
      some None s = absurd (cc s)
      some (Some q) s = (q, refl)

      port_at : (p : Port) → IsInPlace t p.0 × (p.1 < arity_of t p.0) → IsPort (graph_of t) p
      port_at p l = by (t.atoms p.0) refl (in_place_atom t p.0 l.0)
        where
          by : (o : Option HeapAtom) → t.atoms p.0 ≡ o → IsSome o → IsPort (graph_of t) p
          by None e s = absurd (cc s)
          by (Some x) e s = (let sound = u.sound in let shaped = sound.shaped in
              let g : functor_of t p.0 ≡ Some x.functor = ap (λ (o : Option HeapAtom). option_map (λ (y : HeapAtom). y.functor) o) e in
              let n = shaped.ports p.0 x.functor g in let k = l.1 in (x.functor, g, omega (arith, k, n)))

  -- ---- what is made

  functors_back : (bs : List Instr) (a m c : ℕ) (items : List BodyItem) → AllByRecursion Kept (making a m c items ++ bs) → (e : ℕ × Functor) → IsOneOf e (made_of r a items) → functor_of t e.0 ≡ Some e.1
  functors_back bs a m c [] w e i = absurd i
  functors_back bs a m c (Atom g ls k ∷ xs) w e (inl s) = subst (λ (z : ℕ × Functor). functor_of t z.0 ≡ Some z.1) s w.0
  functors_back bs a m c (Atom g ls k ∷ xs) w e (inr i) = functors_back bs (a + 1) m c xs w.1 e i
  functors_back bs a m c (Connector l l' ∷ xs) w e i = functors_back bs a m c xs w e i
  functors_back bs a m c (Copy p l k ∷ xs) w e i = functors_back bs a m (c + 1) xs w.1 e i
  functors_back bs a m c (Bound n l k ∷ xs) w e (inl s) = subst (λ (z : ℕ × Functor). functor_of t z.0 ≡ Some z.1) s w.0
  functors_back bs a m c (Bound n l k ∷ xs) w e (inr i) = functors_back bs (a + 1) m c xs w.1 e i
  functors_back bs a m c (Membrane k ∷ xs) w e i = functors_back bs a (m + 1) c xs w.1 e i
  functors_back bs a m c (Rest of false k ∷ xs) w e i = functors_back bs a m c xs w.1 e i
  functors_back bs a m c (Rest of true k ∷ xs) w e i = functors_back bs a m c xs w.1 e i
  functors_back bs a m c (Rule n k ∷ xs) w e i = functors_back bs a m c xs w.1 e i
  functors_back bs a m c (Rules of k ∷ xs) w e i = functors_back bs a m c xs w.1 e i

  part_back : (root copy : Port) (copied : List ℕ) → IsPartCopied (graph_of h) (graph_of t) root copy copied → IsCopyIn h t root copy copied
  part_back root copy copied w = (let z = w.2 in record {
    atoms = w.0;
    part = subst (λ (n : Net). FoundInside n root (λ _. true) w.0) (net_same h v) w.1;
    long = z.long;
    entered = w.3;
    functors = z.functors;
    inner = λ a i b j k d e. z.inner (a, i) (b, j) k d e;
  })

  copies_back : (bs : List Instr) (a m c : ℕ) (items : List BodyItem) → AllByRecursion Kept (making a m c items ++ bs) → (e : ℕ × ℕ) → IsOneOf e (copies_of c items) → IsCopyIn h t (r.head.images.part e.1) (r.copy e.0) (r.copied e.0)
  copies_back bs a m c [] w e i = absurd i
  copies_back bs a m c (Atom g ls k ∷ xs) w e i = copies_back bs (a + 1) m c xs w.1 e i
  copies_back bs a m c (Connector l l' ∷ xs) w e i = copies_back bs a m c xs w e i
  copies_back bs a m c (Copy p l k ∷ xs) w e (inl s) =
      subst (λ (z : ℕ × ℕ). IsCopyIn h t (r.head.images.part z.1) (r.copy z.0) (r.copied z.0)) s (part_back (r.head.images.part p) (r.copy c) (r.copied c) w.0)
  copies_back bs a m c (Copy p l k ∷ xs) w e (inr i) = copies_back bs a m (c + 1) xs w.1 e i
  copies_back bs a m c (Bound n l k ∷ xs) w e i = copies_back bs (a + 1) m c xs w.1 e i
  copies_back bs a m c (Membrane k ∷ xs) w e i = copies_back bs a (m + 1) c xs w.1 e i
  copies_back bs a m c (Rest of false k ∷ xs) w e i = copies_back bs a m c xs w.1 e i
  copies_back bs a m c (Rest of true k ∷ xs) w e i = copies_back bs a m c xs w.1 e i
  copies_back bs a m c (Rule n k ∷ xs) w e i = copies_back bs a m c xs w.1 e i
  copies_back bs a m c (Rules of k ∷ xs) w e i = copies_back bs a m c xs w.1 e i

  abbrev RestKept : ℕ → RestCopy → Type 0
  RestKept m p = AreCopied (graph_of h) (graph_of t) (λ _. ⊥) (r.left_atoms m) p.atoms × (length p.membranes ≡ length (r.left_membranes m))

  rests_back : (bs : List Instr) (q : RestCopies) (a m c : ℕ) (items : List BodyItem) → EachRest RestKept q (making a m c items ++ bs) → AreAsLong r q items × AreRestsCopied h t r q items
  rests_back bs q a m c [] w = (tt, tt)
  rests_back bs q a m c (Atom g ls k ∷ xs) w = rests_back bs q (a + 1) m c xs w
  rests_back bs q a m c (Connector l l' ∷ xs) w = rests_back bs q a m c xs w
  rests_back bs q a m c (Copy p l k ∷ xs) w = rests_back bs q a m (c + 1) xs w
  rests_back bs q a m c (Bound n l k ∷ xs) w = rests_back bs q (a + 1) m c xs w
  rests_back bs q a m c (Membrane k ∷ xs) w = rests_back bs q a (m + 1) c xs w
  rests_back bs q a m c (Rest of false k ∷ xs) w = rests_back bs q a m c xs w
  rests_back bs q a m c (Rest of true k ∷ xs) w =
      let z = w.0.0 in
      let more = rests_back bs (later q) a m c xs w.1 in
      (((z.long, w.0.1), more.0), (record { long = z.long; functors = z.functors; inner = λ x i y j k e. z.inner (x, i) (y, j) k (λ n. n) e }, more.1))
  rests_back bs q a m c (Rule n k ∷ xs) w = rests_back bs q a m c xs w
  rests_back bs q a m c (Rules of k ∷ xs) w = rests_back bs q a m c xs w

  rests_kept : AreAsLong r (f).copies body × AreRestsCopied h t r (f).copies body
  rests_kept = rests_back is.behind (f).copies heads rooms 0 body (unskip_rests RestKept (f).copies is.taking (making heads rooms 0 body ++ is.behind) is.takes (subst (EachRest RestKept (f).copies) is.whole (f).rests))
    where
      unskip_rests : (P : ℕ → RestCopy → Type 0) (q : RestCopies) (xs ys : List Instr) → AllByRecursion IsRemoval xs → EachRest P q (xs ++ ys) → EachRest P q ys
      unskip_rests P q [] ys w e = e
      unskip_rests P q (RemoveAtom a ∷ xs) ys w e = unskip_rests P q xs ys w.1 e
      unskip_rests P q (RemovePart a ∷ xs) ys w e = unskip_rests P q xs ys w.1 e
      unskip_rests P q (RemoveMem a ∷ xs) ys w e = unskip_rests P q xs ys w.1 e
      unskip_rests P q (_ ∷ xs) ys w e = absurd w.0

  -- ---- what is dropped

  drop_of : (left : ℕ → List ℕ) (a : ℕ) (xs : List Instr) → In a (dropped left xs) → (k : ℕ) × IsOneOf (DropCells k) xs × In a (left k)
  drop_of left a [] i = absurd i
  drop_of left a (DropCells m ∷ xs) i = elim (in_either a (left m) (dropped left xs) i) [ inl j ↦ (m, inl refl, j) | inr j ↦ (let w = drop_of left a xs j in (w.0, inr w.1, w.2)) ]
  drop_of left a (_ ∷ xs) i = let w = drop_of left a xs i in (w.0, inr w.1, w.2)

  closed_in : (left : ℕ → List ℕ) (a k i : ℕ) (bs : List HeadMembrane) (b : HeadMembrane) → slice_get bs i ≡ Some b → b.has_closed_context ≡ true → In a (left (k + i)) → In a (left_of_closed left k bs)
  closed_in left a k i [] b e c w = absurd (cc e)
  closed_in left a k zero (d ∷ bs) b e c w =
      let z : k + 0 ≡ k = omega arith in
      let same : d ≡ b = same_Some d b e in
      subst (λ x. In a ((if x then left k else []) ++ left_of_closed left (k + 1) bs)) (sym (ap (λ (y : HeadMembrane). y.has_closed_context) same ∙ c))
      (in_left a (left k) (left_of_closed left (k + 1) bs) (subst (λ n. In a (left n)) z w))
  closed_in left a k (suc i) (d ∷ bs) b e c w =
      let z : k + suc i ≡ (k + 1) + i = omega arith in
      in_right a (if d.has_closed_context then left k else []) (left_of_closed left (k + 1) bs) (closed_in left a (k + 1) i bs b e c (subst (λ n. In a (left n)) z w))

  dropped_only : (left : ℕ → List ℕ) (a : ℕ) → In a (dropped left code.body) → In a (left_of_closed left 1 (membranes_of head))
  dropped_only left a i =
      let w = drop_of left a code.body i in
      let c = ties.closed w.0 w.1 in
      let b = c.1 in
      let k : w.0 ≡ 1 + b.0 = (let e = b.1 in omega (arith, e)) in
      closed_in left a 1 b.0 (membranes_of head) c.0 b.2 c.2 (subst (λ n. In a (left n)) k w.2)

  abbrev images : List ℕ
  images = map r.head.images.membrane (rising 1 (length (membranes_of head)))

  images_are : found code.head r ≡ images
  images_are = ap (λ n. map r.head.images.membrane (rising 1 n)) is.membranes

  stays_there : (x : ℕ) → (In x (images ++ dropped_mems r head) → ⊥) → In x (removed code r) → ⊥
  stays_there x out i = out (elim (in_either x (found code.head r) (dropped r.left_membranes code.body) i) [
    | inl j ↦ in_left x images (dropped_mems r head) (subst (In x) images_are j)
    | inr j ↦ in_right x images (dropped_mems r head) (dropped_only r.left_membranes x j)
  ])

  -- ---- what is new

  no_atom_there : (a : ℕ) → functor_of h a ≡ None → h.atoms a ≡ None
  no_atom_there a e = by (h.atoms a) e
    where
      by : (o : Option HeapAtom) → option_map (λ (x : HeapAtom). x.functor) o ≡ None → o ≡ None
      by None e = refl
      by (Some x) e = absurd (cc e)

  no_mem_there : (x : ℕ) → parent_of h x ≡ None → x ≢ h.root → h.mems x ≡ None
  no_mem_there x e d = by (h.mems x) refl
    where
      by : (o : Option HeapMem) → h.mems x ≡ o → o ≡ None
      by None g = refl
      by (Some y) g = (let sound = v.sound in let listed = sound.listed in let settled = v.settled in
          elim (settled.mems x (subst (λ (o : Option HeapMem). IsSome o) (sym g) refl)) [
            | inl top ↦ absurd (d ((listed.root x).0 top))
            | inr s ↦ absurd (cc (e, s))
          ])

  -- ---- the flat rule fires

  abbrev gone_atoms : List ℕ
  gone_atoms = images_of r head ++ ps

  within : FiresWithin h name r head body gone_atoms t
  within = record {
    to = image;
    connectors_fused = λ e i. (let w = ties.wires e i in image_rule e.0 ∙ old_value w.0 e.0 w.2 ∙ tied (Unify w.0 w.1) w.4 ∙ sym (old_value w.1 e.1 w.3) ∙ sym (image_rule e.1));
    heads_fused = λ e i. image_rule e.1 ∙ old_value e.0 e.1 i ∙ sym (image_solid (old_port r e.0));
    number = at;
    named = after_named;
    kept_links = λ p i. sym (image_solid p);
    made_links = λ e i. sym (new_value e.0 e.1 i) ∙ sym (image_rule e.1);
    kept_functors = λ a i o d. (f).functors a i o (λ j. d (dropped_only r.left_atoms a j));
    made_functors = λ e i. functors_back is.behind heads rooms 0 body all_kept e i;
    rests = (f).copies;
    rests_long = (rests_kept).0;
    rests_copied = (rests_kept).1;
    new_once = subst Distinct (new_list head body code is r (f).copies) (f).atoms_once;
    new_fresh = λ y i. no_atom_there y ((f).atoms_new y (subst (In y) (sym (new_list head body code is r (f).copies)) i)).0;
    new_placed = λ y i. ((f).atoms_new y (subst (In y) (sym (new_list head body code is r (f).copies)) i)).1;
    made_once = subst Distinct (room_list head body code is r (f).copies) (f).membranes_once;
    made_fresh = λ x i. (let w = (f).membranes_new x (subst (In x) (sym (room_list head body code is r (f).copies)) i) in no_mem_there x w.0 w.1);
    copies = λ e i. copies_back is.behind heads rooms 0 body all_kept e i;
    atoms = λ x o. (f).atoms x (stays_there x o) ∙ ap (λ zs. without_all gone_atoms (atoms_in h x) ++ zs) (atom_list head body code is r (λ k. without_all gone_atoms (atoms_in h k)) x (f).copies);
    mems = λ x o. (f).membranes x (stays_there x o) ∙ ap (λ zs. without_all (found code.head r) (mems_in h x) ++ zs) (mem_list head body code is r (λ k. without_all (found code.head r) (mems_in h k)) x (f).copies)
        ∙ (λ i. without_all (images_are i) (mems_in h x) ++ flat.added_mems r (f).copies (λ k. without_all (images_are i) (mems_in h k)) rooms body x);
    rules = λ x o. (f).rules x (stays_there x o) ∙ ap (λ zs. rules_in h x ++ zs) (rule_list head body code is r (λ m. rules_in h m) x (f).copies);
  }

  pub flat_fired : FiresFlat head body r h t
  flat_fired = record { name = name; named = named; parts = ps; are = are; fires = within; root = (f).root }
