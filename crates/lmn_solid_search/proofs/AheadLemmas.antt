-- A membrane that has fewer atoms with a functor than a head asks of it is no image.
use Rattle.std.proofs.Common.{◌≡◌, ◌≢◌, ◌∙◌, ◌↔◌, ◌==◌, ◌&&◌, ℕ, zero, suc, ◌+◌, ◌<◌, ◌≤◌, Bool, true, false, if◌then◌else◌, IsTrue, List, [], ◌∷◌, ◌++◌, length, drop, slice_get, slice_index_or, get_or, Some, refl, sym, ap, subst, inl, inr, arith}
use Rattle.std.proofs.lemmas.List.{drop_all, length_push}
use Rattle.std.proofs.lemmas.Bool.{eq-eqb, eqb-true}
use Rattle.std.proofs.lemmas.Option.{same_Some, slice_get-get_or}
use Rattle.lmn_base.specs.declared.functor.Functor.{Functor}
use Rattle.lmn_base.specs.declared.guard.Cond.{Cond}
use Rattle.lmn_base.specs.Lists.{In}
use Rattle.lmn_base.proofs.Lists.{drop_get, get_below, get_index, get_last, get_there, read_or}
use Rattle.lmn_base.proofs.Numbers.{three_ways as order_of}
use Rattle.lmn_base.proofs.Truth.{and_true}
use Rattle.lmn_store_heap.specs.Heap.{Heap, IsMem, atoms_in, functor_of}
use Rattle.lmn_store_heap.specs.Lists.{Distinct}
use Rattle.lmn_store_heap.specs.Functors.{same_functor, with_functor}
use Rattle.lmn_store_heap.proofs.ListLemmas.{each_of}
use Rattle.lmn_store_heap.proofs.Pigeonholes.{not_longer}
use Rattle.lmn_store_heap.proofs.WithFunctor.{functor_is, with_here, with_past, with_functor_in}
use Rattle.lmn_solid_heads.specs.declared.items.HeadItem.{HeadItem}
use Rattle.lmn_solid_heads.specs.declared.items.HeadItem.TheVariants.{Atom, Typed, Membrane}
use Rattle.lmn_solid_heads.specs.Heads.{HeadAtom, atom_of, atoms_of}
use Rattle.lmn_solid_heads.specs.Embeddings.{Embeds, Images}
use Rattle.lmn_solid_search.specs.Ahead.{HoldsEnough, HoldsFunctors, HoldsItem, asked_in}
use Rattle.lmn_compile_head.specs.Heads.{EachInside}
use Rattle.lmn_solid_search.specs.Choosing.{AnswersWith, Chooses, IsNew, RefusesMembrane, Sits, with_membrane}
use Rattle.lmn_solid_search.specs.Placing.{membrane_at}
use Rattle.lmn_solid_search.specs.Reasoning.{IsAmong, SameImages}
use Rattle.lmn_solid_search.specs.declared.head.Head.{Head}
use Rattle.lmn_solid_search.specs.declared.numbers.Numbers.{Numbers}
use Rattle.lmn_solid_search.specs.declared.placed.Placed.{Placed}
use Rattle.lmn_solid_search.specs.declared.reasons.Reasons.{Reasons}
use Rattle.lmn_solid_search.specs.declared.search.Sought.TheVariants.{Failed}
use Rattle.lmn_solid_search.proofs.EmbeddingLemmas.{AtomChosen, atom_chosen, keeps_on}
use Rattle.lmn_solid_search.proofs.ReasoningLemmas.{kept_in, last_same}

-- ---- counting items

-- what a test adds
added : (b : Bool) (n : ℕ) → (if b then suc n else n) ≡ (if b then 1 else 0) + n
added true n = omega arith
added false n = omega arith

-- what the first item adds
pub asked_first : (k : ℕ) (functor : Functor) (x : HeadItem) (xs : List HeadItem) → asked_in k functor (atoms_of (x ∷ xs)) ≡ asked_in k functor (atom_of x) + asked_in k functor (atoms_of xs)
asked_first k functor (Atom g links inside) xs = added ((inside == k) && same_functor g functor) (asked_in k functor (atoms_of xs))
asked_first k functor (Typed name kind link inside) xs = omega arith
asked_first k functor (Membrane inside has_context has_closed_context has_rule_context) xs = omega arith

-- one item further
pub asked_on : (k : ℕ) (functor : Functor) (items : List HeadItem) (n count one : ℕ) (x : HeadItem) → n < length items → x ≡ get_or items n x → asked_in k functor (atom_of x) ≡ one
    → count + asked_in k functor (atoms_of (drop n items)) ≡ asked_in k functor (atoms_of items) → count + one + asked_in k functor (atoms_of (drop (n + 1) items)) ≡ asked_in k functor (atoms_of items)
asked_on k functor items n count one x l is e before =
    let first : asked_in k functor (atoms_of (drop n items)) ≡ asked_in k functor (atom_of x) + asked_in k functor (atoms_of (drop (n + 1) items)) =
    ap (λ ys. asked_in k functor (atoms_of ys)) (drop_get n items x (slice_get-get_or items n x l ∙ ap Some (sym is))) ∙ asked_first k functor x (drop (n + 1) items) in
    omega (arith, e, before, first)

-- behind the last
pub asked_whole : (k : ℕ) (functor : Functor) (items : List HeadItem) (n count : ℕ) → length items ≤ n → count + asked_in k functor (atoms_of (drop n items)) ≡ asked_in k functor (atoms_of items) → count ≡ asked_in k functor (atoms_of items)
asked_whole k functor items n count l e =
    let none : asked_in k functor (atoms_of (drop n items)) ≡ 0 = ap (λ ys. asked_in k functor (atoms_of ys)) (drop_all n items l) in
    omega (arith, e, none)

-- ---- counting atoms of a list

-- one atom further, with the functor or without
pub found_one : (h : Heap) (functor : Functor) (xs : List ℕ) (n missing left count a : ℕ) → n < length xs → a ≡ slice_index_or xs n 0 → functor_of h a ≡ Some functor → missing ≡ left + 1
    → missing + length (with_functor h functor xs) ≡ count + length (with_functor h functor (drop n xs)) → left + length (with_functor h functor xs) ≡ count + length (with_functor h functor (drop (n + 1) xs))
found_one h functor xs n missing left count a l is e less before =
    let first : length (with_functor h functor (drop n xs)) ≡ suc (length (with_functor h functor (drop (n + 1) xs))) =
    ap (λ ys. length (with_functor h functor ys)) (drop_get n xs a (get_index xs n l ∙ ap Some (sym is))) ∙ ap (λ ys. length ys) (with_here h functor a (drop (n + 1) xs) e) in
    omega (arith, less, before, first)

pub found_none : (h : Heap) (functor : Functor) (xs : List ℕ) (n missing count a : ℕ) → n < length xs → a ≡ slice_index_or xs n 0 → (functor_of h a ≡ Some functor → ⊥)
    → missing + length (with_functor h functor xs) ≡ count + length (with_functor h functor (drop n xs)) → missing + length (with_functor h functor xs) ≡ count + length (with_functor h functor (drop (n + 1) xs))
found_none h functor xs n missing count a l is other before =
    let first : length (with_functor h functor (drop n xs)) ≡ length (with_functor h functor (drop (n + 1) xs)) =
    ap (λ ys. length (with_functor h functor ys)) (drop_get n xs a (get_index xs n l ∙ ap Some (sym is))) ∙ ap (λ ys. length ys) (with_past h functor a (drop (n + 1) xs) other) in
    omega (arith, before, first)

-- behind the last
pub found_whole : (h : Heap) (functor : Functor) (xs : List ℕ) (n missing count : ℕ) → length xs ≤ n → missing + length (with_functor h functor xs) ≡ count + length (with_functor h functor (drop n xs)) → missing + length (with_functor h functor xs) ≡ count
found_whole h functor xs n missing count l e =
    let none : length (with_functor h functor (drop n xs)) ≡ 0 = ap (λ ys. length (with_functor h functor ys)) (drop_all n xs l) in
    omega (arith, e, none)

-- what is still missing tells whether there are enough
pub none_missing : (missing count all : ℕ) → missing + all ≡ count → IsTrue (missing == 0) ↔ (count ≤ all)
none_missing missing count all e = ((λ t. let z = eqb-true missing 0 t in omega (arith, e, z)), λ l. eq-eqb missing 0 (omega (arith, e, l)))

-- ---- one item

-- an atom that stands in the membrane asks for its functor
pub asks_for : (h : Heap) (k m : ℕ) (items : List HeadItem) (functor : Functor) (links : List ℕ) (inside : ℕ) (item : HeadItem) (b : Bool) (count : ℕ) (xs : List ℕ) → item ≡ Atom functor links inside → inside ≡ k → xs ≡ atoms_in h m → count ≡ asked_in k functor (atoms_of items)
    → (IsTrue b ↔ (count ≤ length (with_functor h functor xs))) → IsTrue b ↔ HoldsItem h k m items item
asks_for h k m items functor links inside item b count xs is same all long enough = (
  λ z a e g. subst (HoldsEnough h k m items) (ap functor_or (ap atom_of (sym is) ∙ e)) (subst (λ n. n ≤ length (with_functor h functor (atoms_in h m))) long (subst (λ ys. count ≤ length (with_functor h functor ys)) all (enough.0 z))),
  λ holds. enough.1 (subst (λ ys. count ≤ length (with_functor h functor ys)) (sym all) (subst (λ n. n ≤ length (with_functor h functor (atoms_in h m))) (sym long) (holds (record { functor = functor; links = links; inside = inside }) (ap atom_of is) same))),
)
  where
    functor_or : List HeadAtom → Functor
    functor_or [] = functor
    functor_or (c ∷ cs) = c.functor

-- ---- all items

-- what holds of the functor of an item, and of those of all items, where they are atoms that stand in membrane number k
AskedOf : (Functor → Type 0) → ℕ → HeadItem → Type 0
AskedOf E k item = (a : HeadAtom) → atom_of item ≡ a ∷ [] → a.inside ≡ k → E a.functor

AskedOfAll : (Functor → Type 0) → ℕ → List HeadItem → Type 0
AskedOfAll E k items = (n : ℕ) (a : HeadAtom) → slice_get (atoms_of items) n ≡ Some a → a.inside ≡ k → E a.functor

-- what holds of each holds of all
of_each : (E : Functor → Type 0) (k : ℕ) (items : List HeadItem) → ((i : ℕ) (x : HeadItem) → slice_get items i ≡ Some x → AskedOf E k x) → AskedOfAll E k items
unfolding AskedOf AskedOfAll
of_each E k [] each n a at same = absurd (cc)
of_each E k (Atom functor links inside ∷ xs) each zero a at same = each 0 (Atom functor links inside) refl a (ap (λ z. z ∷ []) (same_Some _ _ at)) same
of_each E k (Atom functor links inside ∷ xs) each (suc n) a at same = of_each E k xs (λ i x. each (suc i) x) n a at same
of_each E k (Typed name kind link inside ∷ xs) each n a at same = of_each E k xs (λ i x. each (suc i) x) n a at same
of_each E k (Membrane inside has_context has_closed_context has_rule_context ∷ xs) each n a at same = of_each E k xs (λ i x. each (suc i) x) n a at same

-- what holds of all holds of each
of_one : (E : Functor → Type 0) (k : ℕ) (items : List HeadItem) → AskedOfAll E k items → (i : ℕ) (x : HeadItem) → slice_get items i ≡ Some x → AskedOf E k x
unfolding AskedOf AskedOfAll
of_one E k [] all i x at = absurd (cc)
of_one E k (y ∷ xs) all zero x at = subst (AskedOf E k) (same_Some _ _ at) (first y all)
  where
    first : (z : HeadItem) → AskedOfAll E k (z ∷ xs) → AskedOf E k z
    first (Atom functor links inside) given a e same = subst E (ap functor_or e) (given 0 (record { functor = functor; links = links; inside = inside }) refl (ap inside_or e ∙ same))
      where
        inside_or : List HeadAtom → ℕ
        inside_or [] = inside
        inside_or (b ∷ bs) = b.inside

        functor_or : List HeadAtom → Functor
        functor_or [] = functor
        functor_or (b ∷ bs) = b.functor
    first (Typed name kind link inside) given a e same = absurd (cc)
    first (Membrane inside has_context has_closed_context has_rule_context) given a e same = absurd (cc)
of_one E k (Atom functor links inside ∷ xs) all (suc i) x at = of_one E k xs (λ n. all (suc n)) i x at
of_one E k (Typed name kind link inside ∷ xs) all (suc i) x at = of_one E k xs all i x at
of_one E k (Membrane inside has_context has_closed_context has_rule_context ∷ xs) all (suc i) x at = of_one E k xs all i x at

-- one item more
pub items_so_far : (h : Heap) (k m : ℕ) (items : List HeadItem) (n : ℕ) (y : HeadItem) → n < length items → y ≡ get_or items n y → HoldsItem h k m items y → ((i : ℕ) (x : HeadItem) → i < n → slice_get items i ≡ Some x → HoldsItem h k m items x)
    → (i : ℕ) (x : HeadItem) → i < n + 1 → slice_get items i ≡ Some x → HoldsItem h k m items x
items_so_far h k m items n y l is holds before i x low at = elim (order_of i n) [
  | inl less ↦ before i x less at
  | inr (inl same) ↦ subst (HoldsItem h k m items) (same_Some _ _ (sym (slice_get-get_or items n y l ∙ ap Some (sym is)) ∙ ap (slice_get items) (sym same) ∙ at)) holds
  | inr (inr more) ↦ absurd (omega (arith, low, more))
]

-- the items before the end are all
pub all_items : (h : Heap) (k m : ℕ) (items : List HeadItem) (n : ℕ) → length items ≤ n → ((i : ℕ) (x : HeadItem) → i < n → slice_get items i ≡ Some x → HoldsItem h k m items x) → HoldsFunctors h k m items
unfolding AskedOf AskedOfAll
all_items h k m items n low all = of_each (HoldsEnough h k m items) k items (λ i x at. all i x (let l = get_below items i x at in omega (arith, l, low)) at)

-- one item for which too few stand there
pub one_lacks : (h : Heap) (k m : ℕ) (items : List HeadItem) (n : ℕ) (y : HeadItem) → n < length items → y ≡ get_or items n y → (HoldsItem h k m items y → ⊥) → HoldsFunctors h k m items → ⊥
unfolding AskedOf AskedOfAll
one_lacks h k m items n y l is lacks all = lacks (of_one (HoldsEnough h k m items) k items all n y (slice_get-get_or items n y l ∙ ap Some (sym is)))

-- ---- images are counted

-- the images of the atoms with a functor in membrane number k, the first of which has number n
module _ (k : ℕ) (functor : Functor) (image : ℕ → ℕ) where
  imaged : ℕ → List HeadAtom → List ℕ
  imaged n [] = []
  imaged n (a ∷ xs) = if (a.inside == k) && same_functor a.functor functor then image n ∷ imaged (suc n) xs else imaged (suc n) xs

  imaged_long : (n : ℕ) (xs : List HeadAtom) → length (imaged n xs) ≡ asked_in k functor xs
  unfolding imaged
  imaged_long n [] = refl
  imaged_long n (a ∷ xs) = by ((a.inside == k) && same_functor a.functor functor) (imaged_long (suc n) xs)
    where
      by : (b : Bool) → length (imaged (suc n) xs) ≡ asked_in k functor xs → length (if b then image n ∷ imaged (suc n) xs else imaged (suc n) xs) ≡ (if b then suc (asked_in k functor xs) else asked_in k functor xs)
      by true rest = ap suc rest
      by false rest = rest

  each_imaged : (n : ℕ) (xs : List HeadAtom) (b : ℕ) → In b (imaged n xs) → (j : ℕ) × (a : HeadAtom) × (slice_get xs j ≡ Some a) × (a.inside ≡ k) × (a.functor ≡ functor) × (image (n + j) ≡ b)
  unfolding imaged
  each_imaged n [] b i = absurd i
  each_imaged n (a ∷ xs) b i = by ((a.inside == k) && same_functor a.functor functor) refl (later (each_imaged (suc n) xs b)) i
    where
      later : (In b (imaged (suc n) xs) → (j : ℕ) × (c : HeadAtom) × (slice_get xs j ≡ Some c) × (c.inside ≡ k) × (c.functor ≡ functor) × (image (suc n + j) ≡ b))
          → In b (imaged (suc n) xs) → (j : ℕ) × (c : HeadAtom) × (slice_get (a ∷ xs) j ≡ Some c) × (c.inside ≡ k) × (c.functor ≡ functor) × (image (n + j) ≡ b)
      later each s = let r = each s in (suc r.0, r.1, r.2, r.3, r.4, let t : n + suc r.0 ≡ suc n + r.0 = omega arith in ap image t ∙ r.5)

      by : (t : Bool) → ((a.inside == k) && same_functor a.functor functor) ≡ t → (In b (imaged (suc n) xs) → (j : ℕ) × (c : HeadAtom) × (slice_get (a ∷ xs) j ≡ Some c) × (c.inside ≡ k) × (c.functor ≡ functor) × (image (n + j) ≡ b))
          → In b (if t then image n ∷ imaged (suc n) xs else imaged (suc n) xs) → (j : ℕ) × (c : HeadAtom) × (slice_get (a ∷ xs) j ≡ Some c) × (c.inside ≡ k) × (c.functor ≡ functor) × (image (n + j) ≡ b)
      by true e rest (inl s) = let w = and_true (a.inside == k) (same_functor a.functor functor) e in
          (0, a, refl, eqb-true a.inside k w.0, functor_is a.functor functor w.1, let t : n + 0 ≡ n = omega arith in ap image t ∙ s)
      by true e rest (inr s) = rest s
      by false e rest s = rest s

  imaged_apart : (n : ℕ) (xs : List HeadAtom) → ((i j : ℕ) → i < j → j < length xs → image (n + i) ≢ image (n + j)) → Distinct (imaged n xs)
  unfolding imaged
  imaged_apart n [] apart = tt
  imaged_apart n (a ∷ xs) apart =
      by ((a.inside == k) && same_functor a.functor functor)
      (imaged_apart (suc n) xs (λ i j l m e. apart (suc i) (suc j) (omega (arith, l)) (omega (arith, m)) (let s : n + suc i ≡ suc n + i = omega arith in let t : n + suc j ≡ suc n + j = omega arith in ap image s ∙ e ∙ ap image (sym t))))
    where
      by : (t : Bool) → Distinct (imaged (suc n) xs) → Distinct (if t then image n ∷ imaged (suc n) xs else imaged (suc n) xs)
      by true rest = (
        each_of (λ y. image n ≢ y) (imaged (suc n) xs) (λ b i e. (let r = each_imaged (suc n) xs b i in let l = get_below xs r.0 r.1 r.2 in
            apart 0 (suc r.0) (omega arith) (omega (arith, l)) (let s : n + 0 ≡ n = omega arith in let t : n + suc r.0 ≡ suc n + r.0 = omega arith in ap image s ∙ e ∙ sym r.5 ∙ ap image (sym t)))),
        rest,
      )
      by false rest = rest

-- where different atoms of a membrane are the images, and have the functors, there are enough
images_enough : (h : Heap) (k m : ℕ) (items : List HeadItem) (image : ℕ → ℕ) → ((i j : ℕ) → i < j → j < length (atoms_of items) → image i ≢ image j)
    → ((n : ℕ) (a : HeadAtom) → slice_get (atoms_of items) n ≡ Some a → functor_of h (image n) ≡ Some a.functor) → ((n : ℕ) (a : HeadAtom) → slice_get (atoms_of items) n ≡ Some a → a.inside ≡ k → In (image n) (atoms_in h m)) → HoldsFunctors h k m items
images_enough h k m items image apart functors there n a at same =
    subst (λ z. z ≤ length (with_functor h a.functor (atoms_in h m))) (imaged_long k a.functor image 0 (atoms_of items))
    (not_longer (imaged k a.functor image 0 (atoms_of items)) (with_functor h a.functor (atoms_in h m)) (imaged_apart k a.functor image 0 (atoms_of items) (λ i j l o e. apart i j l o (let s : 0 + i ≡ i = omega arith in let t : 0 + j ≡ j = omega arith in sym (ap image s) ∙ e ∙ ap image t)))
    (λ b i. (let r = each_imaged k a.functor image 0 (atoms_of items) b i in
    let s : 0 + r.0 ≡ r.0 = omega arith in
    subst (λ z. In z (with_functor h a.functor (atoms_in h m))) (sym (ap image s) ∙ r.5) (with_functor_in h a.functor (image r.0) (atoms_in h m) (functors r.0 r.1 r.2 ∙ ap Some r.4) (there r.0 r.1 r.2 r.3)))))

-- ---- what embeds, and what is chosen

-- where a head embeds, the membrane has enough of its functors
pub embeds_ahead : (h : Heap) (items : List HeadItem) (guard : List Cond) (m : ℕ) (f : Images) → Embeds h items guard m f → HoldsFunctors h 0 m items
embeds_ahead h items guard m f e = images_enough h 0 m items f.atom
    (λ i j l k same. (let one = e.lies.atoms_differ i j (omega (arith, l, k)) k same in omega (arith, one, l)))
    (λ n a at. e.lies.functors n a at)
    (λ n a at same. subst (λ z. In (f.atom n) (atoms_in h z)) (ap f.membrane same ∙ e.lies.here) (e.lies.atoms_placed n a at))

-- what is chosen behind a membrane has it hold enough of the functors of its items
pub chosen_ahead : (h : Heap) (head : Head) (xs : List HeadItem) (p q : Placed) (m : ℕ) → EachInside (length (p.membranes ++ m ∷ [])) xs → Chooses h head xs (with_membrane p m) q → HoldsFunctors h (length p.membranes + 1) m xs
chosen_ahead h head xs p q m inside c = images_enough h (length p.membranes + 1) m xs image
    (λ i j l k same. (let there = get_there (atoms_of xs) j k in (atom_chosen h head xs (with_membrane p m) q inside c j (length p.atoms + j) there.0 there.1 refl).new (length p.atoms + i) (omega (arith, l)) same))
    (λ n a at. (chosen n a at).functor)
    (λ n a at same. subst (λ z. In (image n) (atoms_in h z)) (around a same) (chosen n a at).placed)
  where
    image : ℕ → ℕ
    image n = slice_index_or q.atoms (length p.atoms + n) 0

    chosen : (n : ℕ) (a : HeadAtom) → slice_get (atoms_of xs) n ≡ Some a → AtomChosen h head q (length p.atoms + n) a
    chosen n a at = atom_chosen h head xs (with_membrane p m) q inside c n (length p.atoms + n) a at refl

    around : (a : HeadAtom) → a.inside ≡ length p.membranes + 1 → membrane_at q.home q.membranes a.inside ≡ m
    around a same = ap (membrane_at q.home q.membranes) (let number : a.inside ≡ suc (length p.membranes) = omega (arith, same) in number)
        ∙ read_or q.membranes (length p.membranes) m ((keeps_on h head xs (with_membrane p m) q c).membranes (length p.membranes) m (get_last p.membranes m))

-- one that lacks a functor is refused
pub lacks_functor : (h : Heap) (xs : List HeadItem) (p : Placed) (m k : ℕ) (e : Numbers) → k ≡ length p.membranes → IsAmong k e → (HoldsFunctors h (k + 1) m xs → ⊥) → RefusesMembrane h xs p m e
lacks_functor h xs p m k e is among lacks q b long same new holds =
    let equal = last_same e p.membranes q.membranes m b long (subst (λ n. IsAmong n e) is among) same in
    lacks (subst (λ n. HoldsFunctors h (n + 1) m xs) (sym is) (subst (λ z. HoldsFunctors h (length p.membranes + 1) z xs) equal holds))

-- and one that is an image already
pub placed_already : (h : Heap) (xs : List HeadItem) (p : Placed) (m k n : ℕ) (e : Numbers) → k ≡ length p.membranes → slice_get p.membranes n ≡ Some m → IsAmong k e → IsAmong n e → RefusesMembrane h xs p m e
placed_already h xs p m k n e is at among among' q b long same new holds =
    let equal = last_same e p.membranes q.membranes m b long (subst (λ n. IsAmong n e) is among) same in
    new (subst (λ z. In z q.membranes) (sym equal) (kept_in e p.membranes q.membranes m b m n long at among' same))

-- so it leads to nothing
pub refused_membrane : (h : Heap) (head : Head) (guard : List Cond) (xs : List HeadItem) (p q : Placed) (m : ℕ) (e : Reasons) (numbers : Numbers) → Sits h head xs (with_membrane p m) → q ≡ p → e.membranes ≡ numbers → RefusesMembrane h xs p m numbers
    → AnswersWith h head guard xs IsNew with_membrane p m q (Failed e)
refused_membrane h head guard xs p q m e numbers sits same is refuses = (
  same,
  λ z b r agrees new c can. (
      let long : length z.membranes ≡ length p.membranes = (let l = length_push p.membranes m in let k = length_push z.membranes b in let n = agrees.membranes_long in omega (arith, l, k, n)) in
      refuses z b long (subst (λ d. SameImages d (p.membranes ++ m ∷ []) (z.membranes ++ b ∷ [])) is agrees.membranes) new
      (subst (λ n. HoldsFunctors h (n + 1) b xs) long (chosen_ahead h head xs z r b (subst (λ n. EachInside n xs) (sym agrees.membranes_long) sits.inside) c))),
)

-- a membrane that is placed is one
pub home_there : (h : Heap) (head : Head) (xs : List HeadItem) (p : Placed) (m : ℕ) → Sits h head xs (with_membrane p m) → IsMem h m
home_there h head xs p m sits = sits.placed.membranes m (last_in p.membranes)
  where
    last_in : (ms : List ℕ) → In m (ms ++ m ∷ [])
    last_in [] = inl refl
    last_in (y ∷ ys) = inr (last_in ys)
