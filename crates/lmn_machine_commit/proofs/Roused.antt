-- The code of a rule rouses what the rule touches.
use Rattle.std.proofs.Common.{ℕ, zero, suc, ◌≡◌, ◌<◌, ◌≤◌, ◌+◌, ◌⊎◌, inl, inr, Bool, true, false, cond, List, [], ◌∷◌, ◌++◌, map, Option, Some, None, IsSome, refl, arith, ap, sym, subst, length, ◌∙◌}
use Rattle.std.specs.Option.{option_map, option_and_then}
use Rattle.std.specs.Prelude.{slice_index_or}
use Rattle.std.proofs.lemmas.Bool.{cases_eq}
use Rattle.lmn_base.specs.Graphs.{Port}
use Rattle.lmn_base.specs.Lists.{In}
use Rattle.lmn_base.proofs.Lists.{get_there}
use Rattle.lmn_store_heap.specs.Heap.{Heap, HeapAtom, IsMem, IsAtom, IsMemInPlace, home_by, home_of, link_of, partners_of, mem_mark_of}
use Rattle.lmn_store_heap.specs.Sound.{Valid}
use Rattle.lmn_store_heap.specs.Conditions.{Above}
use Rattle.lmn_store_heap.proofs.Common.{home_placed, linked_atom, in_place_atom, in_map as to_image}
use Rattle.lmn_solid_heads.specs.declared.items.HeadItem.{HeadItem}
use Rattle.lmn_solid_heads.specs.Heads.{HeadMembrane, atoms_of, membranes_of, typed_contexts_of}
use Rattle.lmn_solid_heads.specs.Embeddings.{Lies}
use Rattle.lmn_congruence_splice.specs.Classes.{class_of, ends_of_class, rising}
use Rattle.lmn_instr_code.specs.declared.instr.AtomPort.{AtomPort}
use Rattle.lmn_instr_code.specs.declared.instr.NewPort.{NewPort}
use Rattle.lmn_instr_code.specs.declared.instr.Instr.{Instr}
use Rattle.lmn_instr_code.specs.declared.instr.Instr.TheVariants.{RemoveAtom, RemovePart, RemoveMem, DropCells, Proceed}
use Rattle.lmn_solid_bodies.specs.declared.items.BodyItem.{BodyItem}
use Rattle.lmn_solid_bodies.specs.declared.items.BodyItem.TheVariants.{Atom, Connector, Copy, Bound, Membrane, Rest, Rule, Rules}
use Rattle.lmn_solid_bodies.specs.Code.{body_code, removals, making, drops, link_code, links_code}
use Rattle.lmn_solid_bodies.specs.Items.{new_ports, old_ports, connectors}
use Rattle.lmn_solid_bodies.specs.Names.{Names}
use Rattle.lmn_solid_bodies.specs.Running.{Registers}
use Rattle.lmn_solid_bodies.specs.Fired.{images_of}
use Rattle.lmn_solid_bodies.specs.Rules.{NestedRule, PartAtoms}
use Rattle.lmn_solid_bodies.specs.Within.{FiresWithin, HoldsRests, membrane_images, dropped_mems}
use Rattle.lmn_solid_bodies.proofs.Held.{Held, held}
use Rattle.lmn_solid_bodies.proofs.Laws.{body_fires_within}
use Rattle.lmn_solid_bodies.proofs.Numbering.{links_have_numbers}
use Rattle.lmn_store_heap.proofs.ListLemmas.{in_left}
use Rattle.lmn_machine_commit.specs.Touching.{RulesWakeTouched}
use Rattle.lmn_machine_commit.specs.Waking.{Commits, IsRoused, SomeRouses, Rouses}
use Rattle.lmn_machine_commit.proofs.Frames.{made_awake}
use Rattle.lmn_machine_commit.proofs.Rousing.{above_prepared, above_before, same_mark, home_mem}
use Rattle.lmn_machine_commit.proofs.Rules.{stays_there}
use Rattle.lmn_machine_commit.proofs.Touched.{IsRoot, of_rule, of_mem, of_atom, of_partner, is_quiet, none_touched}
use Rattle.lmn_schedule_sleep.specs.Quiet.{IsQuiet, Wakes}
use Rattle.lmn_schedule_sleep.proofs.Marks.{ReadAlike, read_alike, alike_back}
use Rattle.lmn_base.proofs.Common.{of_map as of_image}
use Rattle.lmn_solid_bodies.proofs.Common.{commits_root as root_stays}

-- ---- what code rouses

rouses_in_both : (s : Heap) (r : Registers) (xs ys : List Instr) (y : ℕ) → SomeRouses s r (xs ++ ys) y → SomeRouses s r xs y ⊎ SomeRouses s r ys y
rouses_in_both s r [] ys y w = inr w
rouses_in_both s r (x ∷ xs) ys y (inl w) = inl (inl w)
rouses_in_both s r (x ∷ xs) ys y (inr w) = elim (rouses_in_both s r xs ys y w) [ inl q ↦ inl (inr q) | inr q ↦ inr q ]

rouses_left : (s : Heap) (r : Registers) (xs ys : List Instr) (y : ℕ) → SomeRouses s r xs y → SomeRouses s r (xs ++ ys) y
rouses_left s r [] ys y w = absurd w
rouses_left s r (x ∷ xs) ys y (inl w) = inl w
rouses_left s r (x ∷ xs) ys y (inr w) = inr (rouses_left s r xs ys y w)

rouses_right : (s : Heap) (r : Registers) (xs ys : List Instr) (y : ℕ) → SomeRouses s r ys y → SomeRouses s r (xs ++ ys) y
rouses_right s r [] ys y w = w
rouses_right s r (x ∷ xs) ys y w = inr (rouses_right s r xs ys y w)

rouses_one : (s : Heap) (r : Registers) (i : ℕ → Instr) (ns : List ℕ) (n y : ℕ) → In n ns → Rouses s r (i n) y → SomeRouses s r (map i ns) y
rouses_one s r i [] n y j w = absurd j
rouses_one s r i (m ∷ ns) n y (inl e) w = inl (subst (λ k. Rouses s r (i k) y) (sym e) w)
rouses_one s r i (m ∷ ns) n y (inr j) w = inr (rouses_one s r i ns n y j w)

rouses_of : (s : Heap) (r : Registers) (i : ℕ → Instr) (ns : List ℕ) (y : ℕ) → SomeRouses s r (map i ns) y → (n : ℕ) × In n ns × Rouses s r (i n) y
rouses_of s r i [] y w = absurd w
rouses_of s r i (n ∷ ns) y (inl w) = (n, inl refl, w)
rouses_of s r i (n ∷ ns) y (inr w) = let q = rouses_of s r i ns y w in (q.0, inr q.1, q.2)

parts_rouse_none : (s : Heap) (r : Registers) (ns : List ℕ) (y : ℕ) → SomeRouses s r (map RemovePart ns) y → ⊥
parts_rouse_none s r [] y w = w
parts_rouse_none s r (n ∷ ns) y (inl w) = w
parts_rouse_none s r (n ∷ ns) y (inr w) = parts_rouse_none s r ns y w

making_rouses_none : (s : Heap) (r : Registers) (a m c : ℕ) (body : List BodyItem) (y : ℕ) → SomeRouses s r (making a m c body) y → ⊥
making_rouses_none s r a m c [] y w = w
making_rouses_none s r a m c (Atom functor links inside ∷ xs) y (inl w) = w
making_rouses_none s r a m c (Atom functor links inside ∷ xs) y (inr w) = making_rouses_none s r (a + 1) m c xs y w
making_rouses_none s r a m c (Connector left right ∷ xs) y w = making_rouses_none s r a m c xs y w
making_rouses_none s r a m c (Copy part link inside ∷ xs) y (inl w) = w
making_rouses_none s r a m c (Copy part link inside ∷ xs) y (inr w) = making_rouses_none s r a m (c + 1) xs y w
making_rouses_none s r a m c (Bound integer link inside ∷ xs) y (inl w) = w
making_rouses_none s r a m c (Bound integer link inside ∷ xs) y (inr w) = making_rouses_none s r (a + 1) m c xs y w
making_rouses_none s r a m c (Membrane inside ∷ xs) y (inl w) = w
making_rouses_none s r a m c (Membrane inside ∷ xs) y (inr w) = making_rouses_none s r a (m + 1) c xs y w
making_rouses_none s r a m c (Rest of false inside ∷ xs) y (inl w) = w
making_rouses_none s r a m c (Rest of false inside ∷ xs) y (inr w) = making_rouses_none s r a m c xs y w
making_rouses_none s r a m c (Rest of true inside ∷ xs) y (inl w) = w
making_rouses_none s r a m c (Rest of true inside ∷ xs) y (inr w) = making_rouses_none s r a m c xs y w
making_rouses_none s r a m c (Rule rule inside ∷ xs) y (inl w) = w
making_rouses_none s r a m c (Rule rule inside ∷ xs) y (inr w) = making_rouses_none s r a m c xs y w
making_rouses_none s r a m c (Rules of inside ∷ xs) y (inl w) = w
making_rouses_none s r a m c (Rules of inside ∷ xs) y (inr w) = making_rouses_none s r a m c xs y w

drops_rouse_none : (s : Heap) (r : Registers) (k : ℕ) (bs : List HeadMembrane) (y : ℕ) → SomeRouses s r (drops k bs) y → ⊥
drops_rouse_none s r k [] y w = w
drops_rouse_none s r k (b ∷ bs) y w = by b.has_closed_context (drops_rouse_none s r (k + 1) bs y) w
  where
    by : (t : Bool) → (SomeRouses s r (drops (k + 1) bs) y → ⊥) → SomeRouses s r (cond t (DropCells k ∷ []) [] ++ drops (k + 1) bs) y → ⊥
    by true none (inl q) = q
    by true none (inr q) = none q
    by false none q = none q

link_rouses_none : (s : Heap) (r : Registers) (ps : List NewPort) (hs : List AtomPort) (y : ℕ) → SomeRouses s r (link_code ps hs) y → ⊥
link_rouses_none s r [] [] y w = w
link_rouses_none s r [] (g ∷ []) y w = w
link_rouses_none s r [] (g ∷ h ∷ []) y w = elim w [ inl q ↦ q | inr q ↦ q ]
link_rouses_none s r [] (g ∷ h ∷ k ∷ hs) y w = w
link_rouses_none s r (p ∷ []) [] y w = w
link_rouses_none s r (p ∷ []) (h ∷ []) y w = elim w [ inl q ↦ q | inr q ↦ q ]
link_rouses_none s r (p ∷ []) (g ∷ h ∷ hs) y w = w
link_rouses_none s r (p ∷ q ∷ []) [] y w = elim w [ inl q ↦ q | inr q ↦ q ]
link_rouses_none s r (p ∷ q ∷ []) (h ∷ hs) y w = w
link_rouses_none s r (p ∷ q ∷ o ∷ ps) hs y w = w

links_rouse_none : (s : Heap) (r : Registers) (m : ℕ → ℕ) (news : List (NewPort × ℕ)) (olds : List (AtomPort × ℕ)) (zs : List ℕ) (y : ℕ) → SomeRouses s r (links_code m news olds zs) y → ⊥
links_rouse_none s r m news olds [] y w = w
links_rouse_none s r m news olds (z ∷ zs) y w =
    elim (rouses_in_both s r (link_code (ends_of_class m z news) (ends_of_class m z olds)) (links_code m news olds zs) y w) [
      | inl q ↦ link_rouses_none s r (ends_of_class m z news) (ends_of_class m z olds) y q
      | inr q ↦ links_rouse_none s r m news olds zs y q
    ]

-- ---- lists of images

in_rising_from : (n a k : ℕ) → a ≤ k → k < a + n → In k (rising a n)
in_rising_from zero a k l u = absurd (omega (arith, l, u))
in_rising_from (suc n) a k l u = elim (cases_eq a k) [ inl e ↦ inl e | inr d ↦ inr (in_rising_from n (suc a) k (next d) (omega (arith, u))) ]
  where
    next : (a ≡ k → ⊥) → suc a ≤ k
    next d = grind (arith, d, l)

below_rising : (n a k : ℕ) → In k (rising a n) → k < a + n
below_rising zero a k i = absurd i
below_rising (suc n) a k (inl e) = omega (arith, e)
below_rising (suc n) a k (inr i) = let l = below_rising n (suc a) k i in omega (arith, l)

-- what is quiet in a heap is so in one that differs in marks
quiet_on : (h t u : Heap) → ReadAlike t u → (m : ℕ) → IsQuiet h t m → IsQuiet h u m
quiet_on h t u same m q = record {
  stood = q.stood;
  untouched = λ n k a. (let w = q.untouched n k a in record {
    atoms = same.lists n ∙ w.atoms;
    mems = same.inner n ∙ w.mems;
    rules = same.rules n ∙ w.rules;
    functors = λ a i. ap (λ (o : Option HeapAtom). option_map (λ x. x.functor) o) (same.atoms a) ∙ w.functors a i;
    links = λ a i j. ap (λ (o : Option HeapAtom). slice_index_or (partners_of o) i None) (same.atoms a) ∙ w.links a i j;
  });
}

module _ (head : List HeadItem) (body : List BodyItem) (links : ℕ) (rule : NestedRule head body links) (h : Heap) (v : Valid h) (m : ℕ) (in_place : IsMemInPlace h m) (r : Registers) (em : Lies h head m r.head.images) (rests : HoldsRests h r head)
    (z : Heap) (done : Commits h r (body_code head body links) z) where
  abbrev s : Heap
  s = done.prepared

  abbrev t : Heap
  t = done.after

  abbrev code : List Instr
  code = body_code head body links

  -- what stood before stands in the prepared heap
  atom_same : (a : ℕ) → IsAtom h a → s.atoms a ≡ h.atoms a
  atom_same a i = stays_there h s done.makes a i

  home_same : (a : ℕ) → IsAtom h a → home_of s a ≡ home_of h a
  home_same a i = ap (λ (o : Option HeapAtom). option_and_then (λ x. home_by x.place) o) (atom_same a i)

  link_same : (a i : ℕ) → IsAtom h a → link_of s a i ≡ link_of h a i
  link_same a i j = ap (λ (o : Option HeapAtom). slice_index_or (partners_of o) i None) (atom_same a j)

  partner_atom : (a i : ℕ) (c : Port) → link_of h a i ≡ Some c → IsAtom h c.0
  partner_atom a i c e = linked_atom h c.0 c.1 (v.sound.paired.back a i c.0 c.1 e)

  abbrev N : ℕ
  N = length (atoms_of head)

  abbrev K : ℕ
  K = length (membranes_of head)

  head_atom_stood : (n : ℕ) → n < N → IsAtom h (r.head.images.atom n)
  head_atom_stood n l =
      let a = get_there (atoms_of head) n l in
      let e = home_placed (h.atoms (r.head.images.atom n)) (r.head.images.membrane a.0.inside) ((v.sound.listed.atoms (r.head.images.membrane a.0.inside) (r.head.images.atom n)).0 (em.atoms_placed n a.0 a.1)) in
      in_place_atom h (r.head.images.atom n) (subst (λ (o : Option ℕ). IsSome o) (sym e) refl)

  abbrev atoms_part : List Instr
  atoms_part = map RemoveAtom (rising 0 N)

  abbrev parts_part : List Instr
  parts_part = map RemovePart (rising 0 (length (typed_contexts_of head)))

  abbrev mems_part : List Instr
  mems_part = map RemoveMem (rising 1 K)

  abbrev making_part : List Instr
  making_part = making N (1 + K) 0 body

  abbrev drops_part : List Instr
  drops_part = drops 1 (membranes_of head)

  abbrev links_part : List Instr
  links_part = links_code (class_of (connectors body)) (new_ports N 0 body) (old_ports head) (rising 0 links)

  -- what is touched is roused by the code
  rouses_root : (y : ℕ) → IsRoot h r head m y → IsRoused s r code y
  rouses_root y (of_rule e) = inl (sym e ∙ sym em.here)
  rouses_root y (of_mem i) = inr (rouses_left s r (removals head) _ y (rouses_right s r atoms_part _ y (rouses_right s r parts_part _ y
      (let q = of_image r.head.images.membrane y (rising 1 K) i in rouses_one s r RemoveMem (rising 1 K) q.0 y q.1 (sym q.2)))))
  rouses_root y (of_atom n l e) = inr (rouses_left s r (removals head) _ y (rouses_left s r atoms_part _ y
      (rouses_one s r RemoveAtom (rising 0 N) n y (in_rising_from N 0 n (omega arith) (omega (arith, l))) (inl (home_same (r.head.images.atom n) (head_atom_stood n l) ∙ e)))))
  rouses_root y (of_partner n i c l e f) = inr (rouses_left s r (removals head) _ y (rouses_left s r atoms_part _ y
      (rouses_one s r RemoveAtom (rising 0 N) n y (in_rising_from N 0 n (omega arith) (omega (arith, l)))
      (inr (i, (c, link_same (r.head.images.atom n) i (head_atom_stood n l) ∙ e, home_same c.0 (partner_atom (r.head.images.atom n) i c e) ∙ f))))))

  -- and what the code rouses is touched
  atom_rouses : (n y : ℕ) → n < N → Rouses s r (RemoveAtom n) y → IsRoot h r head m y
  atom_rouses n y l (inl e) = of_atom n l (sym (home_same (r.head.images.atom n) (head_atom_stood n l)) ∙ e)
  atom_rouses n y l (inr q) =
      let e : link_of h (r.head.images.atom n) q.0 ≡ Some q.1.0 = sym (link_same (r.head.images.atom n) q.0 (head_atom_stood n l)) ∙ q.1.1 in
      of_partner n q.0 q.1.0 l e (sym (home_same q.1.0.0 (partner_atom (r.head.images.atom n) q.0 q.1.0 e)) ∙ q.1.2)

  behind_none : (y : ℕ) → SomeRouses s r (making_part ++ (drops_part ++ (links_part ++ (Proceed ∷ [])))) y → ⊥
  behind_none y a = elim (rouses_in_both s r making_part (drops_part ++ (links_part ++ (Proceed ∷ []))) y a) [
    | inl b ↦ making_rouses_none s r N (1 + K) 0 body y b
    | inr b ↦ elim (rouses_in_both s r drops_part (links_part ++ (Proceed ∷ [])) y b) [
      | inl c ↦ drops_rouse_none s r 1 (membranes_of head) y c
      | inr c ↦ elim (rouses_in_both s r links_part (Proceed ∷ []) y c) [
        | inl d ↦ links_rouse_none s r (class_of (connectors body)) (new_ports N 0 body) (old_ports head) (rising 0 links) y d
        | inr d ↦ elim d [ inl q ↦ q | inr q ↦ q ]
      ]
    ]
  ]

  root_roused : (y : ℕ) → IsRoused s r code y → IsRoot h r head m y
  root_roused y (inl e) = of_rule (sym (e ∙ em.here))
  root_roused y (inr w) =
      elim (rouses_in_both s r (removals head) (making_part ++ (drops_part ++ (links_part ++ (Proceed ∷ [])))) y w) [
        | inl a ↦ elim (rouses_in_both s r atoms_part (parts_part ++ mems_part) y a) [
          | inl b ↦ (let q = rouses_of s r RemoveAtom (rising 0 N) y b in atom_rouses q.0 y (let l = below_rising N 0 q.0 q.1 in omega (arith, l)) q.2)
          | inr b ↦ elim (rouses_in_both s r parts_part mems_part y b) [
            | inl c ↦ absurd (parts_rouse_none s r (rising 0 (length (typed_contexts_of head))) y c)
            | inr c ↦ (let q = rouses_of s r RemoveMem (rising 1 K) y c in of_mem (subst (λ z. In z (membrane_images r head)) (sym q.2) (to_image r.head.images.membrane q.0 (rising 1 K) q.1)))
          ]
        ]
        | inr a ↦ absurd (behind_none y a)
      ]

  module _ (c : Port → ℕ) (names : Names h c) where
    fired : (ps : List ℕ) × PartAtoms h head r.head.images ps × Valid t × FiresWithin h c r head body (images_of r head ++ ps) t
    fired = body_fires_within head body links rule r h v m em rests in_place c names t (s, done.prepares, done.does)

    hs : Held h v head body m r fired.0
    hs = held h v head body links m r rule em in_place rests fired.0 fired.1 c names

    root_same : t.root ≡ h.root
    root_same = root_stays r code s t done.does ∙ done.makes.root

    root_there : (y : ℕ) → IsRoot h r head m y → IsMem h y
    root_there y (of_rule e) = subst (IsMem h) e hs.home_mem
    root_there y (of_mem i) = hs.removed_mem y (in_left y (membrane_images r head) (dropped_mems r head) i)
    root_there y (of_atom n l e) = home_mem h v.sound (r.head.images.atom n) y e
    root_there y (of_partner n i q l e f) = home_mem h v.sound q.0 y f

    quiet_below : (x : ℕ) → IsMem h x → IsMem t x → ((y j : ℕ) → IsRoot h r head m y → Above h j x y → ⊥) → IsQuiet h t x
    quiet_below x there stands none = is_quiet h t v fired.2 head body links rule r m em c names fired.0 fired.1 fired.3 hs root_same x there stands none

    nothing_below : (x : ℕ) → IsMem t x → IsQuiet h t x → (y j : ℕ) → IsRoot h r head m y → (m ≡ y → ⊥) → Above h j x y → ⊥
    nothing_below x i q y j root o a = none_touched h t v fired.2 head body links rule r m em c names fired.0 fired.1 fired.3 hs root_same x i q y j root o a

    alike : ReadAlike t z
    alike = read_alike t z done.alike

    from_before : (x : ℕ) → IsMem s x → (IsMem h x × (mem_mark_of s x ≡ mem_mark_of h x)) ⊎ (mem_mark_of s x ≡ 0)
    from_before x i = made_awake r code h s done.prepares x i

    -- nothing that is touched lies below a membrane that is asleep
    none_below : (x : ℕ) → (mem_mark_of z x ≡ 0 → ⊥) → (y j : ℕ) → IsRoot h r head m y → Above h j x y → ⊥
    none_below x d y j q a = d (done.wakes.woken x y j (rouses_root y q) (above_prepared h s v done.makes j x y a))

    pub wakes_so : Wakes h z m
    wakes_so = record {
      touched = λ x i none.
          elim (from_before x (done.wakes.stood x i)) [
            | inl b ↦ elim (cases_eq (mem_mark_of z x) 0) [
              | inl e ↦ e
              | inr d ↦ absurd (none (quiet_on h t z alike x (quiet_below x b.0 (alike.there x i) (none_below x d))))
            ]
            | inr b ↦ elim (done.wakes.others x i) [ inl e ↦ e ∙ b | inr e ↦ e.0 ]
          ];
      round = λ x j a. done.wakes.woken x m j (inl (sym em.here)) (above_prepared h s v done.makes j x m a);
      others = λ x i q out.
          (let before = quiet_on h z t (alike_back t z alike) x q in
          elim (done.wakes.others x i) [
            | inl e ↦ e ∙ same_mark h s v done.makes x q.stood
            | inr e ↦ (let y = e.1.0 in
                let root = root_roused y e.1.2 in
                let up = above_before h s v done.makes e.1.1 x y (root_there y root) e.1.3 in
                absurd (nothing_below x (alike.there x i) before y e.1.1 root (λ same. out e.1.1 (subst (Above h e.1.1 x) (sym same) up)) up))
          ]);
    }

pub rules_wake_touched : RulesWakeTouched
rules_wake_touched head body links rule h v m in_place r em rests z done =
    let c = links_have_numbers h v in
    wakes_so head body links rule h v m in_place r em rests z done c.0 c.1
