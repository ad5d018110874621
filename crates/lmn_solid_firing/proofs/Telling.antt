-- What a match tells, from the lists of which it is made.
use Rattle.std.proofs.Common.{ℕ, zero, suc, ℤ, ◌≡◌, ◌+◌, ◌<◌, ◌≤◌, ◌⊎◌, ◌↔◌, inl, inr, Bool, true, false, List, [], ◌∷◌, ◌++◌, drop, length, map, refl, sym, ap, subst, ◌∙◌, arith}
use Rattle.std.specs.Prelude.{IsSome, max, Option, Some, None, cond, ◌==◌, nat_lt, not, position, flat_map, if◌then◌else◌, slice_get, slice_index_or}
use Rattle.std.specs.Option.{option_and_then, option_map}
use Rattle.std.specs.List.{AllByRecursion, prefix_len, zip}
use Rattle.std.proofs.lemmas.Bool.{cases_lt, eqb-true}
use Rattle.std.proofs.lemmas.Bool.Decides.{nat_tests}
use Rattle.std.proofs.lemmas.List.{append-nil, append_assoc, drop_all, get_or_past}
use Rattle.std.proofs.Math.Nat.{le-max_left, le-max_right}
use Rattle.lmn_base.specs.Graphs.{Port, Reached}
use Rattle.lmn_base.specs.Lists.{In}
use Rattle.lmn_base.proofs.Lists.{get_there, in_either}
use Rattle.lmn_base.proofs.Numbers.{equal_itself}
use Rattle.lmn_store_heap.proofs.ListLemmas.{in_left, in_right}
use Rattle.lmn_store_heap.specs.Graphs.{atom_map}
use Rattle.lmn_store_heap.specs.Heap.{Heap, IsAtom, IsMem, arity_of}
use Rattle.lmn_store_heap.specs.Sound.{Valid}
use Rattle.lmn_store_heap.proofs.Replacing.{port_within}
use Rattle.lmn_ground.proofs.GroundLaws.{part_atoms}
use Rattle.lmn_guards.specs.Values.{value_beside}
use Rattle.lmn_guards.specs.declared.plan.TypeKind.{TypeKind}
use Rattle.lmn_base.specs.declared.functor.Functor.{Functor}
use Rattle.lmn_base.specs.declared.level.Level.{Level}
use Rattle.lmn_base.specs.declared.level.Level.TheOpen.{Level-F}
use Rattle.lmn_base.specs.declared.level.CtxUse.{CtxUse}
use Rattle.lmn_store_heap.specs.Heap.{HeapAtom}
use Rattle.lmn_solid_heads.specs.declared.items.HeadItem.{HeadItem}
use Rattle.lmn_solid_heads.specs.Embeddings.{Images, Lies}
use Rattle.lmn_solid_heads.specs.Flattening.{items_of_head}
use Rattle.lmn_solid_heads.specs.Guards.{typed_number}
use Rattle.lmn_solid_heads.specs.Heads.{HeadTyped, atoms_of, membranes_of, typed_contexts_of}
use Rattle.lmn_compile_head.specs.Heads.{IsHead}
use Rattle.lmn_solid_bodies.specs.Flattening.{NumberedContexts, membrane_named, numbering}
use Rattle.lmn_solid_bodies.specs.Rules.{IsHeadMembrane}
use Rattle.lmn_solid_bodies.specs.Within.{IsTakenAtom}
use Rattle.lmn_solid_bodies.proofs.Numbered.{in_head}
use Rattle.lmn_adequacy_turns.proofs.Leavings.{listed_there}
use Rattle.lmn_solid_tables.specs.Flats.{heap_of, link_at, port_by}
use Rattle.lmn_solid_tables.specs.Tables.{links_by}
use Rattle.lmn_solid_tables.specs.declared.tables.Port.{Port as Place}
use Rattle.lmn_solid_tables.proofs.Partners.{atom_ports}
use Rattle.lmn_solid_search.specs.Finding.{port_at}
use Rattle.lmn_solid_tables.specs.declared.flat.Flat.{Flat}
use Rattle.lmn_solid_firing.specs.Making.{AreThere, HasAtoms}
use Rattle.lmn_solid_firing.specs.Meant.{integer_named, part_named}
use Rattle.lmn_solid_firing.specs.declared.match_.Part.{Part}
use Rattle.lmn_store_heap.proofs.Common.{is_atom_at}
use Rattle.lmn_solid_firing.specs.Matched.{IsPartAt, IsPartOfName, names_of}
use Rattle.lmn_solid_firing.specs.Pieces.{AreParts, imaged, images_from}
use Rattle.lmn_solid_search.proofs.WalkingLemmas.{reached_atom}

-- ---- images

images_in : {A : Type 0} (images : List ℕ) (n : ℕ) (xs : List A) (a : ℕ) → In a (images_from images n xs) → (k : ℕ) × (k < length xs) × (slice_index_or images (n + k) 0 ≡ a)
images_in images n [] a i = absurd i
images_in images n (x ∷ xs) a (inl e) = let z : n ≡ n + 0 = omega arith in (0, omega arith, ap (λ k. slice_index_or images k 0) (sym z) ∙ e)
images_in images n (x ∷ xs) a (inr i) =
    let w = images_in images (suc n) xs a i in let l = w.1 in let z : suc n + w.0 ≡ n + suc w.0 = omega arith in
    (suc w.0, omega (arith, l), ap (λ k. slice_index_or images k 0) (sym z) ∙ w.2)

in_images : {A : Type 0} (images : List ℕ) (n : ℕ) (xs : List A) (a k : ℕ) → k < length xs → slice_index_or images (n + k) 0 ≡ a → In a (images_from images n xs)
in_images images n [] a k l e = absurd (omega (arith, l))
in_images images n (x ∷ xs) a zero l e = let z : n ≡ n + 0 = omega arith in inl (ap (λ k. slice_index_or images k 0) z ∙ e)
in_images images n (x ∷ xs) a (suc k) l e = let z : suc n + k ≡ n + suc k = omega arith in inr (in_images images (suc n) xs a k (omega (arith, l)) (ap (λ k. slice_index_or images k 0) z ∙ e))

-- the images of items, of which the first has the number 0
pub images_are : {A : Type 0} (images : List ℕ) (xs : List A) (a : ℕ) → In a (images_from images 0 xs) ↔ ((k : ℕ) × (k < length xs) × (slice_index_or images k 0 ≡ a))
images_are images xs a = (
  (λ i. (let w = images_in images 0 xs a i in let z : 0 + w.0 ≡ w.0 = omega arith in (w.0, w.1, ap (λ k. slice_index_or images k 0) (sym z) ∙ w.2))),
  λ w. (let z : 0 + w.0 ≡ w.0 = omega arith in in_images images 0 xs a w.0 w.1 (ap (λ k. slice_index_or images k 0) z ∙ w.2)),
)

-- the port with a number
pub port_read : (ps : List Place) (n : ℕ) → port_by (slice_index_or ps n (record { atom = 0; index = 0 })) ≡ port_at ps n
port_read [] n = refl
port_read (p ∷ ps) zero = refl
port_read (p ∷ ps) (suc n) = port_read ps n

-- none where there are fewer
pub port_past : (ps : List Place) (n : ℕ) → length ps ≤ n → port_by (record { atom = 0; index = 0 }) ≡ port_at ps n
port_past ps n l = sym (ap port_by (get_or_past ps n (record { atom = 0; index = 0 }) l)) ∙ port_read ps n

-- ---- links

-- a port that isn't there has the link 0
pub link_past : (flat : Flat) (a i : ℕ) → arity_of (heap_of flat) a ≤ i → link_at flat a i ≡ 0
link_past flat a i l = get_or_past (links_by (slice_get flat.atoms.items a)) i 0 (subst (λ n. n ≤ i) (atom_ports flat.ports.items a (slice_get flat.atoms.items a)) l)

-- a number above all links of the solid is above what stands for others too
pub links_below : (flat : Flat) (n top : ℕ) → ((a i : ℕ) → i < arity_of (heap_of flat) a → link_at flat a i < n) → top ≡ max n 1 → (a i : ℕ) → link_at flat a i < top
links_below flat n top all e a i =
    let x = le-max_left n 1 in let y = le-max_right n 1 in
    elim (cases_lt i (arity_of (heap_of flat) a)) [
      | inl l ↦ (let b = all a i l in omega (arith, b, x, e))
      | inr l ↦ (let b = link_past flat a i l in omega (arith, b, y, e))
    ]

-- ---- parts

-- a part more
pub part_added : (flat : Flat) (at : ℕ → Port) (g : ℕ) (names more left : List ℕ) (parts parts' : List Part) (part : Part) (x : ℕ) → parts' ≡ parts ++ part ∷ [] → more ≡ x ∷ left → part.name ≡ x → IsPartAt flat (at g) part →
    ((rest : List Part) → AreParts flat at g more rest → AreParts flat at 0 names (parts ++ rest)) →
    (rest : List Part) → AreParts flat at (g + 1) left rest → AreParts flat at 0 names (parts' ++ rest)
part_added flat at g names more left parts parts' part x is d name here gives rest are =
    subst (λ (ps : List Part). AreParts flat at 0 names (ps ++ rest)) (sym is)
    (subst (AreParts flat at 0 names) (sym (append_assoc parts (part ∷ []) rest)) (gives (part ∷ rest) (subst (λ (xs : List ℕ). AreParts flat at g xs (part ∷ rest)) (sym d) (name, here, are))))

-- all parts
pub parts_ended : (flat : Flat) (at : ℕ → Port) (g : ℕ) (names more : List ℕ) (parts : List Part) → more ≡ [] →
    ((rest : List Part) → AreParts flat at g more rest → AreParts flat at 0 names (parts ++ rest)) → AreParts flat at 0 names parts
parts_ended flat at g names more parts e gives = subst (AreParts flat at 0 names) (append-nil parts) (gives [] (subst (λ (xs : List ℕ). AreParts flat at g xs []) (sym e) tt))

-- each atom of the parts is reached from the port of a typed context
parts_reached : (flat : Flat) (at : ℕ → Port) (g : ℕ) (ts : List HeadTyped) (ps : List Part) → AreParts flat at g (map (λ t. t.name) ts) ps → (a : ℕ) → In a (flat_map (λ p. p.atoms) ps) →
    (k : ℕ) × (t : HeadTyped) × (slice_get ts k ≡ Some t) × Reached (atom_map (heap_of flat)) (at (g + k)) a
parts_reached flat at g [] [] are a i = absurd i
parts_reached flat at g [] (p ∷ ps) are a i = absurd are
parts_reached flat at g (t ∷ ts) [] are a i = absurd are
parts_reached flat at g (t ∷ ts) (p ∷ ps) are a i = elim (in_either a p.atoms (flat_map (λ p. p.atoms) ps) i) [
  | inl j ↦ (let z : g ≡ g + 0 = omega arith in (0, t, refl, subst (λ k. Reached (atom_map (heap_of flat)) (at k) a) z (((part_atoms (heap_of flat) (at g) p.atoms are.1.in_depth).1 a).0 j)))
  | inr j ↦ (
      let w = parts_reached flat at (g + 1) ts ps are.2 a j in
      let z : g + 1 + w.0 ≡ g + suc w.0 = omega arith in
      (suc w.0, w.1, w.2, subst (λ k. Reached (atom_map (heap_of flat)) (at k) a) z w.3))
]

-- and each of those is an atom of the parts
reached_parts : (flat : Flat) (at : ℕ → Port) (g : ℕ) (ts : List HeadTyped) (ps : List Part) → AreParts flat at g (map (λ t. t.name) ts) ps → (a k : ℕ) (t : HeadTyped) → slice_get ts k ≡ Some t →
    Reached (atom_map (heap_of flat)) (at (g + k)) a → In a (flat_map (λ p. p.atoms) ps)
reached_parts flat at g [] ps are a k t e r = absurd (cc)
reached_parts flat at g (u ∷ ts) [] are a k t e r = absurd are
reached_parts flat at g (u ∷ ts) (p ∷ ps) are a zero t e r =
    let z : g + 0 ≡ g = omega arith in
    in_left a p.atoms (flat_map (λ p. p.atoms) ps) (((part_atoms (heap_of flat) (at g) p.atoms are.1.in_depth).1 a).1 (subst (λ k. Reached (atom_map (heap_of flat)) (at k) a) z r))
reached_parts flat at g (u ∷ ts) (p ∷ ps) are a (suc k) t e r =
    let z : g + suc k ≡ g + 1 + k = omega arith in
    in_right a p.atoms (flat_map (λ p. p.atoms) ps) (reached_parts flat at (g + 1) ts ps are.2 a k t e (subst (λ k. Reached (atom_map (heap_of flat)) (at k) a) z r))

-- the part of a name
pub named_part : (flat : Flat) (f : Images) (g : ℕ) (ts : List HeadTyped) (ps : List Part) → AreParts flat f.part g (map (λ t. t.name) ts) ps → (x : ℕ) → IsPartOfName flat f (typed_number ts g x) (part_named ps x)
named_part flat f g [] [] are x = tt
named_part flat f g [] (p ∷ ps) are x = absurd are
named_part flat f g (t ∷ ts) [] are x = absurd are
named_part flat f g (t ∷ ts) (p ∷ ps) are x =
    subst (λ (n : ℕ). IsPartOfName flat f (if t.name == x then Some g else typed_number ts (g + 1) x) (if n == x then Some p else part_named ps x)) (sym are.0) (by (t.name == x) (named_part flat f (g + 1) ts ps are.2 x))
  where
    by : (b : Bool) → IsPartOfName flat f (typed_number ts (g + 1) x) (part_named ps x) → IsPartOfName flat f (if b then Some g else typed_number ts (g + 1) x) (if b then Some p else part_named ps x)
    by true rest = are.1
    by false rest = rest

-- parts have atoms of the solid alone
pub parts_there : (flat : Flat) → Valid (heap_of flat) → (at : ℕ → Port) (g : ℕ) (ts : List HeadTyped) (ps : List Part) → AreParts flat at g (map (λ t. t.name) ts) ps →
    ((k : ℕ) → k < length ts → (at (g + k)).1 < arity_of (heap_of flat) (at (g + k)).0) → AllByRecursion (HasAtoms (heap_of flat)) ps
parts_there flat v at g [] [] are entered = tt
parts_there flat v at g [] (p ∷ ps) are entered = absurd are
parts_there flat v at g (t ∷ ts) [] are entered = absurd are
parts_there flat v at g (t ∷ ts) (p ∷ ps) are entered =
    let z : g + 0 ≡ g = omega arith in
    let here = subst (λ k. (at k).1 < arity_of (heap_of flat) (at k).0) z (entered 0 (omega arith)) in (
      (λ a i. reached_atom (heap_of flat) (at g) a v (is_atom_at (heap_of flat) (at g).0 (at g).1 here) (((part_atoms (heap_of flat) (at g) p.atoms are.1.in_depth).1 a).0 i)),
      parts_there flat v at (g + 1) ts ps are.2 (λ k l. (let y : g + suc k ≡ g + 1 + k = omega arith in subst (λ n. (at n).1 < arity_of (heap_of flat) (at n).0) y (entered (suc k) (omega (arith, l))))),
    )

-- ---- integers

abbrev nothing : List ℤ
nothing = []

none_of : (o : Option ℕ) → option_and_then (slice_get nothing) o ≡ None
none_of None = refl
none_of (Some k) = refl

next_less : (p l : ℕ) → nat_lt (suc p) (suc l) ≡ nat_lt p l
next_less p l = grind (arith, nat_tests)

first_less : (l : ℕ) → nat_lt 0 (suc l) ≡ true
first_less l = grind (arith, nat_tests)

-- a name stands for the integer beside it
pub named_integer : (ns : List ℕ) (zs : List ℤ) (x : ℕ) → integer_named (zip ns zs) x ≡ value_beside ns zs x
named_integer [] zs x = refl
named_integer (n ∷ ns) [] x = sym (none_of (position (λ m. m == x) (n ∷ ns)))
named_integer (n ∷ ns) (z ∷ zs) x = by (n == x) (named_integer ns zs x)
  where
    shift : (p : ℕ) (b : Bool) → option_and_then (slice_get zs) (cond b (Some p) None) ≡ option_and_then (slice_get (z ∷ zs)) (cond b (Some (suc p)) None)
    shift p true = refl
    shift p false = refl

    by : (t : Bool) → integer_named (zip ns zs) x ≡ value_beside ns zs x → cond t (Some z) (integer_named (zip ns zs) x) ≡
        option_and_then (slice_get (z ∷ zs)) (cond (nat_lt (cond (not t) (1 + prefix_len (λ m. not (m == x)) ns) 0) (suc (length ns))) (Some (cond (not t) (1 + prefix_len (λ m. not (m == x)) ns) 0)) None)
    by true rest = sym (ap (λ b. option_and_then (slice_get (z ∷ zs)) (cond b (Some 0) None)) (first_less (length ns)))
    by false rest =
        let e : 1 + prefix_len (λ m. not (m == x)) ns ≡ suc (prefix_len (λ m. not (m == x)) ns) = omega arith in
        rest ∙ shift (prefix_len (λ m. not (m == x)) ns) (nat_lt (prefix_len (λ m. not (m == x)) ns) (length ns))
        ∙ ap (λ b. option_and_then (slice_get (z ∷ zs)) (cond b (Some (suc (prefix_len (λ m. not (m == x)) ns))) None)) (sym (next_less (prefix_len (λ m. not (m == x)) ns) (length ns)))
        ∙ ap (λ k. option_and_then (slice_get (z ∷ zs)) (cond (nat_lt k (suc (length ns))) (Some k) None)) (sym e)

-- names behind the last integer stand for none
pub zip_past : (ns : List ℕ) (zs : List ℤ) (i : ℕ) → length zs ≤ i → zip (drop i ns) (drop i zs) ≡ []
zip_past ns zs i l = ap (zip (drop i ns)) (drop_all i zs l) ∙ by (drop i ns)
  where
    by : (ms : List ℕ) → zip ms nothing ≡ []
    by [] = refl
    by (m ∷ ms) = refl

-- ---- contexts

-- a name stands for the image of its membrane
pub named_image : (f : ℕ → ℕ) (names es : List (ℕ × ℕ)) (x : ℕ) → In x (names_of es) → membrane_named (imaged f names es) x ≡ f (membrane_named names x)
named_image f names [] x i = absurd i
named_image f names (e ∷ es) x i = by (e.0 == x) refl i (named_image f names es x)
  where
    by : (t : Bool) → (e.0 == x) ≡ t → (e.0 ≡ x) ⊎ In x (names_of es) → (In x (names_of es) → membrane_named (imaged f names es) x ≡ f (membrane_named names x)) → membrane_named (imaged f names (e ∷ es)) x ≡ f (membrane_named names x)
    by true d i more = ap (λ s. cond s (f (membrane_named names e.0)) (membrane_named (imaged f names es) x)) d ∙ ap (λ n. f (membrane_named names n)) (eqb-true e.0 x d)
    by false d (inl same) more = let g : (x == x) ≡ false = subst (λ (w : ℕ). (w == x) ≡ false) same d in let k = equal_itself x in absurd (cc)
    by false d (inr j) more = ap (λ s. cond s (f (membrane_named names e.0)) (membrane_named (imaged f names es) x)) d ∙ more j

all_imaged : (P : ℕ → Type 0) (f : ℕ → ℕ) (names es : List (ℕ × ℕ)) → ((x : ℕ) → P (f (membrane_named names x))) → AllByRecursion (λ e. P e.1) (imaged f names es)
all_imaged P f names [] all = tt
all_imaged P f names (e ∷ es) all = (all e.0, all_imaged P f names es all)

-- ---- what lies is there

module _ (h : Heap) (v : Valid h) (items : List HeadItem) (m : ℕ) (f : Images) (lies : Lies h items m f) where
  -- the images of atoms are atoms
  pub atom_there : (n : ℕ) → n < length (atoms_of items) → IsAtom h (f.atom n)
  atom_there n l = let a = get_there (atoms_of items) n l in of (h.atoms (f.atom n)) (lies.functors n a.0 a.1)
    where
      of : {x : Functor} (o : Option HeapAtom) → option_map (λ (y : HeapAtom). y.functor) o ≡ Some x → IsSome o
      of None e = absurd (cc)
      of (Some y) e = refl

  -- the images of membranes are membranes
  pub membrane_there : IsMem h m → (k : ℕ) → (k ≡ 0) ⊎ IsHeadMembrane (length (membranes_of items)) k → IsMem h (f.membrane k)
  membrane_there is k (inl e) = subst (λ n. IsMem h (f.membrane n)) (sym e) (subst (IsMem h) (sym lies.here) is)
  membrane_there is k (inr w) =
      let n = get_there (membranes_of items) w.0 w.2 in
      let i = lies.membranes_placed k n.0 (w.0, w.1, n.1) in
      listed_there h v (f.membrane k) (f.membrane n.0.inside) i

  -- parts are entered at ports
  pub entry_there : IsHead items → (g : ℕ) → g < length (typed_contexts_of items) → (f.part g).1 < arity_of h (f.part g).0
  entry_there is g l =
      let t = get_there (typed_contexts_of items) g l in
      let p = is.held g t.0 t.1 in
      let e = (lies.parts g t.0 t.1).held p.0 p.1 in
      port_within h (f.part g).0 (f.part g).1 (f.atom p.0.0, p.0.1) (v.sound.paired.back (f.atom p.0.0) p.0.1 (f.part g).0 (f.part g).1 e)

  -- contexts stand in membranes that are there
  pub contexts_there : IsMem h m → (uses : Level-F NumberedContexts → List CtxUse) (kind : ℕ → TypeKind) (l : Level) → items ≡ items_of_head kind l → (es : List (ℕ × ℕ)) → AreThere h (imaged f.membrane ((numbering uses l).names 0 1) es)
  contexts_there is uses kind l e es = all_imaged (IsMem h) f.membrane ((numbering uses l).names 0 1) es (λ x. membrane_there is (membrane_named ((numbering uses l).names 0 1) x)
      (subst (λ (xs : List HeadItem). (membrane_named ((numbering uses l).names 0 1) x ≡ 0) ⊎ IsHeadMembrane (length (membranes_of xs)) (membrane_named ((numbering uses l).names 0 1) x)) (sym e) (in_head uses kind l x)))

-- what the head takes: the images of atoms and the atoms of parts
pub taken_are : (flat : Flat) (items : List HeadItem) (f : Images) (images : List ℕ) (ps : List Part) (atoms : List ℕ) → ((n : ℕ) → f.atom n ≡ slice_index_or images n 0) →
    AreParts flat f.part 0 (map (λ t. t.name) (typed_contexts_of items)) ps → atoms ≡ images_from images 0 (atoms_of items) ++ flat_map (λ p. p.atoms) ps →
    (a : ℕ) → In a atoms ↔ IsTakenAtom (heap_of flat) items f a
taken_are flat items f images ps atoms read are e a = (
  (λ i. elim (in_either a (images_from images 0 (atoms_of items)) (flat_map (λ p. p.atoms) ps) (subst (In a) e i)) [
    | inl j ↦ (let w = (images_are images (atoms_of items) a).0 j in inl (w.0, w.1, read w.0 ∙ w.2))
    | inr j ↦ (let w = parts_reached flat f.part 0 (typed_contexts_of items) ps are a j in let z : 0 + w.0 ≡ w.0 = omega arith in
        inr (w.0, w.1, w.2, subst (λ k. Reached (atom_map (heap_of flat)) (f.part k) a) z w.3))
  ]),
  λ t. subst (In a) (sym e) (elim t [
    | inl w ↦ in_left a (images_from images 0 (atoms_of items)) (flat_map (λ p. p.atoms) ps) ((images_are images (atoms_of items) a).1 (w.0, w.1, sym (read w.0) ∙ w.2))
    | inr w ↦ (let z : w.0 ≡ 0 + w.0 = omega arith in in_right a (images_from images 0 (atoms_of items)) (flat_map (λ p. p.atoms) ps)
        (reached_parts flat f.part 0 (typed_contexts_of items) ps are a w.0 w.1 w.2 (subst (λ k. Reached (atom_map (heap_of flat)) (f.part k) a) z w.3)))
  ]),
)
