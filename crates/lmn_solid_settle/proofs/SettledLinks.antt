-- What a process is settled to is its solid.
use Rattle.std.proofs.Common.{ℕ, suc, ◌≡◌, ◌≢◌, ◌+◌, ◌<◌, ◌⊎◌, inl, inr, List, [], ◌∷◌, ◌++◌, map, length, take, drop, slice_get, All, Option, Some, None, refl, sym, ap, ◌∙◌, subst, arith}
use Rattle.std.specs.Prelude.{Result, Ok, Err, IfOk}
use Rattle.std.specs.List.{flat_map}
use Rattle.std.proofs.lemmas.Bool.{cases_eq}
use Rattle.std.proofs.lemmas.List.{append-nil, drop_all, length-map, map-append, take_all}
use Rattle.std.proofs.lemmas.List.Concat.{flat_map-append}
use Rattle.std.proofs.lemmas.List.Elements.{All-cons, All-head, All-nil, All-tail}
use Rattle.lmn_base.specs.declared.memory.NoMemory.{NoMemory}
use Rattle.lmn_base.specs.declared.solid.Region.{Region}
use Rattle.lmn_base.specs.declared.solid.Region.TheFolds.{fold-roll-Region}
use Rattle.lmn_base.specs.declared.solid.Region.TheViews.{roll-Region}
use Rattle.lmn_base.specs.declared.solid.Solid.{Solid}
use Rattle.lmn_base.specs.declared.solid.SolidAtom.{SolidAtom}
use Rattle.lmn_base.specs.Links.{EachTwice, NumbersLinks, Numbers as Gets}
use Rattle.lmn_base.specs.Solids.{atoms_of_region, atoms_step, connector, links_of_region}
use Rattle.lmn_congruence_classes.specs.Tables.{PairsBelow}
use Rattle.lmn_congruence.proofs.Counts.{none_if_apart, one_if_equal}
use Rattle.lmn_congruence.proofs.TranslatedLinks.{counted}
use Rattle.lmn_congruence.specs.Links.{places}
use Rattle.lmn_solid_settle.proofs.LaidParts.{atoms_same}
use Rattle.lmn_solid_settle.specs.declared.numbers.Numbers.{Numbers}
use Rattle.lmn_solid_settle.specs.declared.settling.RawMembrane.{RawMembrane}
use Rattle.lmn_solid_settle.specs.Raw.{CanSettle, IsSettled, RawRegion, RawRegions, laid, laid_in, no_raw, raw, raw_and, raw_atoms, raw_atoms_in, raw_links, settled, settled_all, settled_atom, size, size_in}
use Rattle.lmn_solid_settle.specs.Tables.{AreClasses, Follows, Gives, HaveKeys, IsNew, atom_keys, class_in, membrane_keys, numbered_link, numbered_membrane}
use Rattle.lmn_congruence_splice.proofs.ClassLemmas.{class_least, classes_twice, connected}
use Rattle.lmn_congruence_splice.specs.Classes.{class_of}
use Rattle.lmn_congruence_splice.specs.Splice.{IsOneOf, TwiceOrNever, both_links}
use Rattle.lmn_base.proofs.Lists.{map_itself as map_same}

-- ---- links with other numbers

-- the region with each link at its image
abbrev mutual
  pub renamed : (ℕ → ℕ) → RawRegion → RawRegion
  renamed v (raw xs ms rs) = raw (map (settled_atom v) xs) (renamed_all v ms) rs

  pub renamed_all : (ℕ → ℕ) → RawRegions → RawRegions
  renamed_all v no_raw = no_raw
  renamed_all v (raw_and m ms) = raw_and (renamed v m) (renamed_all v ms)

mutual
  renamed_size : (v : ℕ → ℕ) (m : RawRegion) → size (renamed v m) ≡ size m
  renamed_size v (raw xs ms rs) = ap suc (renamed_size_in v ms)

  renamed_size_in : (v : ℕ → ℕ) (ms : RawRegions) → size_in (renamed_all v ms) ≡ size_in ms
  renamed_size_in v no_raw = refl
  renamed_size_in v (raw_and m ms) = λ i. renamed_size v m i + renamed_size_in v ms i

-- the region is that
mutual
  settled_same : (v : ℕ → ℕ) (m : RawRegion) → settled (λ x. x) (renamed v m) ≡ settled v m
  settled_same v (raw xs ms rs) = λ i. roll-Region (record { atoms = atoms_same (map (settled_atom v) xs) i; membranes = all_settled_same v ms i; rules = rs })

  all_settled_same : (v : ℕ → ℕ) (ms : RawRegions) → settled_all (λ x. x) (renamed_all v ms) ≡ settled_all v ms
  all_settled_same v no_raw = refl
  all_settled_same v (raw_and m ms) = λ i. settled_same v m i ∷ all_settled_same v ms i

-- and so is its table
module _ (classes : List ℕ) (to : ℕ → ℕ) where
  abbrev v : ℕ → ℕ
  v = numbered_link classes to

  mutual
    laid_renamed : (a n : ℕ) (m : RawRegion) → map (numbered_membrane classes to) (laid a n m) ≡ laid a n (renamed v m)
    laid_renamed a n (raw xs ms rs) = ap (λ ys. record { around = a; atoms = map (settled_atom v) xs; rules = rs } ∷ ys) (laid_in_renamed n (suc n) ms)

    laid_in_renamed : (a n : ℕ) (ms : RawRegions) → map (numbered_membrane classes to) (laid_in a n ms) ≡ laid_in a n (renamed_all v ms)
    laid_in_renamed a n no_raw = refl
    laid_in_renamed a n (raw_and m ms) =
        map-append (numbered_membrane classes to) (laid a n m) (laid_in a (n + size m) ms)
        ∙ (λ i. laid_renamed a n m i ++ laid_in_renamed a (n + size m) ms i)
        ∙ ap (λ k. laid a n (renamed v m) ++ laid_in a (n + k) (renamed_all v ms)) (sym (renamed_size v m))

-- ---- the links of a table

-- what a table lists of its membranes
module _ (g : SolidAtom → List ℕ) where
  mutual
    laid_lists : (a n : ℕ) (m : RawRegion) → flat_map (λ (w : RawMembrane). flat_map g w.atoms) (laid a n m) ≡ flat_map g (raw_atoms m)
    laid_lists a n (raw xs ms rs) = ap (λ ys. flat_map g xs ++ ys) (laid_in_lists n (suc n) ms) ∙ sym (flat_map-append g xs (raw_atoms_in ms))

    laid_in_lists : (a n : ℕ) (ms : RawRegions) → flat_map (λ (w : RawMembrane). flat_map g w.atoms) (laid_in a n ms) ≡ flat_map g (raw_atoms_in ms)
    laid_in_lists a n no_raw = refl
    laid_in_lists a n (raw_and m ms) =
        flat_map-append (λ (w : RawMembrane). flat_map g w.atoms) (laid a n m) (laid_in a (n + size m) ms)
        ∙ (λ i. laid_lists a n m i ++ laid_in_lists a (n + size m) ms i) ∙ sym (flat_map-append g (raw_atoms m) (raw_atoms_in ms))

-- the classes at atoms are those of their links
keys_of_links : (classes : List ℕ) (xs : List SolidAtom) → flat_map (atom_keys classes) xs ≡ map (class_in classes) (flat_map (λ a. a.links) xs)
keys_of_links classes [] = refl
keys_of_links classes (a ∷ xs) =
    ap (λ ys. map (class_in classes) a.links ++ ys) (keys_of_links classes xs) ∙ sym (map-append (class_in classes) a.links (flat_map (λ a. a.links) xs))

-- ---- the atoms of a region

mutual
  pub atoms_settled : (v : ℕ → ℕ) (m : RawRegion) → atoms_of_region (settled v m) ≡ map (settled_atom v) (raw_atoms m)
  atoms_settled v (raw xs ms rs) =
      fold-roll-Region (List SolidAtom) atoms_step _
      ∙ ap (λ ys. map (settled_atom v) xs ++ ys) (inner_settled v ms) ∙ sym (map-append (settled_atom v) xs (raw_atoms_in ms))

  inner_settled : (v : ℕ → ℕ) (ms : RawRegions) → flat_map (λ ys. ys) (map atoms_of_region (settled_all v ms)) ≡ map (settled_atom v) (raw_atoms_in ms)
  inner_settled v no_raw = refl
  inner_settled v (raw_and m ms) = (λ i. atoms_settled v m i ++ inner_settled v ms i) ∙ sym (map-append (settled_atom v) (raw_atoms m) (raw_atoms_in ms))

links_renamed : (v : ℕ → ℕ) (xs : List SolidAtom) → flat_map (λ a. a.links) (map (settled_atom v) xs) ≡ map v (flat_map (λ a. a.links) xs)
links_renamed v [] = refl
links_renamed v (a ∷ xs) = ap (λ ys. map v a.links ++ ys) (links_renamed v xs) ∙ sym (map-append v a.links (flat_map (λ a. a.links) xs))

-- its links are the images of those before
pub links_settled : (v : ℕ → ℕ) (m : RawRegion) → links_of_region (settled v m) ≡ map v (raw_links m)
links_settled v m = ap (flat_map (λ a. a.links)) (atoms_settled v m) ∙ links_renamed v (raw_atoms m)

-- ---- images of links

-- a link's image stands as often as the link, where no other has it
pub places_renamed : (f : ℕ → ℕ) (y : ℕ) (xs : List ℕ) → ((x : ℕ) → IsOneOf x xs → f x ≡ f y → x ≡ y) → places (f y) (map f xs) ≡ places y xs
places_renamed f y [] one = refl
places_renamed f y (x ∷ xs) one =
    let rest = places_renamed f y xs (λ z o. one z (inr o)) in
    elim (cases_eq y x) [
      | inl e ↦ omega (arith, one_if_equal y x e, one_if_equal (f y) (f x) (ap f e), rest)
      | inr d ↦ omega (arith, none_if_apart y x d, none_if_apart (f y) (f x) (λ q. d (sym (one x (inl refl) (sym q)))), rest)
    ]

-- what stands among images is the image of one
image_of : (f : ℕ → ℕ) (z : ℕ) (xs : List ℕ) → ((x : ℕ) × IsOneOf x xs × (f x ≡ z)) ⊎ (places z (map f xs) ≡ 0)
image_of f z [] = inr refl
image_of f z (x ∷ xs) = elim (cases_eq z (f x)) [
  | inl e ↦ inl (x, inl refl, sym e)
  | inr d ↦ elim (image_of f z xs) [
    | inl h ↦ inl (h.0, inr h.1, h.2)
    | inr h ↦ inr (omega (arith, h, none_if_apart z (f x) d))
  ]
]

-- so the images of links that stand twice stand twice, where the map is one to one
images_twice : (f : ℕ → ℕ) (xs : List ℕ) → ((x y : ℕ) → IsOneOf x xs → IsOneOf y xs → f x ≡ f y → x ≡ y) → TwiceOrNever xs → TwiceOrNever (map f xs)
images_twice f xs one twice z = elim (image_of f z xs) [
  | inl h ↦
      (let same = places_renamed f h.0 xs (λ x o e. one x h.0 o h.1 e) in
      subst (λ w. (places w (map f xs) ≡ 0) ⊎ (places w (map f xs) ≡ 2)) h.2 (subst (λ n. (n ≡ 0) ⊎ (n ≡ 2)) (sym same) (twice h.0)))
  | inr h ↦ inl h
]

-- ---- the tables at the start

all_of : {A : Type 0} (P : A → Type 0) (xs : List A) → All P xs → (x : A) → IsOneOf x xs → P x
all_of P [] h x o = absurd o
all_of P (y ∷ xs) h x (inl e) = subst P e (All-head P y xs h)
all_of P (y ∷ xs) h x (inr o) = all_of P xs (All-tail P y xs h) x o

pair_below : (n : ℕ) (es : List (ℕ × ℕ)) → PairsBelow n es → (e : ℕ × ℕ) → IsOneOf e es → (e.0 < n) × (e.1 < n)
pair_below n [] h e o = absurd o
pair_below n (d ∷ es) h e (inl i) = subst (λ (x : ℕ × ℕ). (x.0 < n) × (x.1 < n)) i (h.0, h.1)
pair_below n (d ∷ es) h e (inr o) = pair_below n es h.2 e o

-- each class is a key
pub classes_are_keys : (connectors : List (ℕ × ℕ)) (n : ℕ) (t : Numbers) → AreClasses connectors n t.classes → IsNew n t → HaveKeys t
classes_are_keys connectors n t c new x l =
    let many = c.many in
    let keys = new.keys in
    let is = c.are x (omega (arith, l, many)) in
    let least = class_least (λ z. z) connectors x in
    omega (arith, l, many, keys, is, least)

-- and each link of the table has one
pub links_have_classes : (connectors : List (ℕ × ℕ)) (n : ℕ) (classes : List ℕ) (r : RawRegion) (items : List RawMembrane) → AreClasses connectors n classes → items ≡ laid 0 0 r → CanSettle r connectors n
    → All (λ x. x < length classes) (flat_map (λ (m : RawMembrane). flat_map (λ a. a.links) m.atoms) items)
links_have_classes connectors n classes r items c e can =
    let P : List ℕ → Type 0 = λ xs. All (λ x. x < length classes) xs in
    subst P (sym (laid_lists (λ a. a.links) 0 0 r) ∙ ap (flat_map (λ (m : RawMembrane). flat_map (λ a. a.links) m.atoms)) (sym e))
    (subst (λ k. All (λ x. x < k) (raw_links r)) (sym c.many) can.links_below)

-- ---- the tables at the end

-- the number of a class, by the table
abbrev number_by : Option (Option ℕ) → ℕ
number_by None = 0
number_by (Some None) = 0
number_by (Some (Some n)) = n

abbrev pub number_in : Numbers → ℕ → ℕ
number_in t k = number_by (slice_get t.numbers k)

pub follows_itself : (t : Numbers) → Follows (number_in t) t
follows_itself t key n h = ap number_by h

-- the region that is put together
abbrev pub renumbered_region : List ℕ → Numbers → RawRegion → RawRegion
renumbered_region classes t r = renamed (numbered_link classes (number_in t)) r

pub table_is_laid : (classes : List ℕ) (t : Numbers) (r : RawRegion) (items numbered : List RawMembrane) → items ≡ laid 0 0 r → numbered ≡ map (numbered_membrane classes (number_in t)) items → numbered ≡ laid 0 0 (renumbered_region classes t r)
table_is_laid classes t r items numbered e d = d ∙ ap (map (numbered_membrane classes (number_in t))) e ∙ laid_renamed classes (number_in t) 0 0 r

map_both : (f g : ℕ → ℕ) (xs : List ℕ) → map (λ x. f (g x)) xs ≡ map f (map g xs)
map_both f g [] = refl
map_both f g (x ∷ xs) = ap (λ ys. f (g x) ∷ ys) (map_both f g xs)

map_agrees : (f g : ℕ → ℕ) (xs : List ℕ) → ((x : ℕ) → IsOneOf x xs → f x ≡ g x) → map f xs ≡ map g xs
map_agrees f g [] h = refl
map_agrees f g (x ∷ xs) h = λ i. h x (inl refl) i ∷ map_agrees f g xs (λ y o. h y (inr o)) i

-- what holds of atoms holds of them with other links
all_settled : (v : ℕ → ℕ) (P : SolidAtom → Type 0) → ((a : SolidAtom) → P a → P (settled_atom v a)) → (xs : List SolidAtom) → All P xs → All P (map (settled_atom v) xs)
all_settled v P keeps [] h = All-nil P
all_settled v P keeps (a ∷ xs) h = All-cons P (settled_atom v a) (map (settled_atom v) xs) (keeps a (All-head P a xs h)) (all_settled v P keeps xs (All-tail P a xs h))

module _ (connectors : List (ℕ × ℕ)) (n : ℕ) (r : RawRegion) (can : CanSettle r connectors n) (old now : Numbers) (c : AreClasses connectors n old.classes) (new : IsNew n old)
    (gives : Gives (flat_map (membrane_keys old.classes) (laid 0 0 r)) old now) where
  abbrev to : ℕ → ℕ
  to = numbered_link old.classes (number_in now)

  abbrev class : ℕ → ℕ
  class = class_in old.classes

  abbrev keys : List ℕ
  keys = map class (raw_links r)

  given : Gives keys old now
  given = subst (λ ks. Gives ks old now) (laid_lists (atom_keys old.classes) 0 0 r ∙ keys_of_links old.classes (raw_atoms r)) gives

  -- classes that occur have different numbers
  apart : (x y : ℕ) → IsOneOf x keys → IsOneOf y keys → number_in now x ≡ number_in now y → x ≡ y
  apart x y o p e =
      let a = all_of (λ key. (k : ℕ) × (slice_get now.numbers key ≡ Some (Some k))) keys given.numbered x o in
      let b = all_of (λ key. (k : ℕ) × (slice_get now.numbers key ≡ Some (Some k))) keys given.numbered y p in
      let same : b.0 ≡ a.0 = sym (follows_itself now y b.0 b.1) ∙ sym e ∙ follows_itself now x a.0 a.1 in
      given.valid.apart x y a.0 a.1 (b.1 ∙ ap (λ k. Some (Some k)) same)

  link_below : (x : ℕ) → IsOneOf x (raw_links r) → x < n
  link_below x o = all_of (λ y. y < n) (raw_links r) can.links_below x o

  twice : TwiceOrNever (map to (raw_links r))
  twice =
      subst TwiceOrNever (sym (map_both (number_in now) class (raw_links r)))
      (images_twice (number_in now) keys apart
      (subst TwiceOrNever (sym (map_agrees class (class_of connectors) (raw_links r) (λ x o. c.are x (link_below x o))))
      (classes_twice (λ z. z) connectors (raw_links r) (subst TwiceOrNever (sym (map_same (both_links connectors ++ raw_links r))) can.twice))))

  closed : EachTwice (links_of_region (settled to r))
  closed x =
      subst (λ k. (k ≡ 0) ⊎ (k ≡ 2)) (sym (counted x (links_of_region (settled to r)) ∙ ap (places x) (links_settled to r))) (twice x)

  numbers : NumbersLinks (links_of_region (settled to r)) now.count
  numbers =
      subst (λ xs. Gets 0 xs now.count) (sym (links_settled to r ∙ map_both (number_in now) class (raw_links r)))
      (subst (λ k. Gets k (map (number_in now) keys) now.count) new.none (given.order (number_in now) (follows_itself now)))

  joins : (e : ℕ × ℕ) → IsOneOf e connectors → to e.0 ≡ to e.1
  joins e o =
      let l = pair_below n connectors can.pairs_below e o in
      ap (number_in now) (c.are e.0 l.0 ∙ connected (λ z. z) connectors e o ∙ sym (c.are e.1 l.1))

  -- what is put together is the solid
  pub is_settled : (s : Solid) → s.root ≡ settled (λ x. x) (renumbered_region old.classes now r) → IsSettled r connectors s
  is_settled s e =
      let is : s.root ≡ settled to r = e ∙ settled_same to r in
      let atoms : atoms_of_region s.root ≡ map (settled_atom to) (raw_atoms r) = ap atoms_of_region is ∙ atoms_settled to r in
      record {
        to = to;
        joins = joins;
        is = is;
        is_solid = record {
          arities = subst (All (λ a. length a.links ≡ a.functor.arity)) (sym atoms)
              (all_settled to (λ a. length a.links ≡ a.functor.arity) (λ a h. length-map a.links to ∙ h) (raw_atoms r) can.arities);
          no_connector = subst (All (λ a. a.functor ≢ connector)) (sym atoms) (all_settled to (λ a. a.functor ≢ connector) (λ a h. h) (raw_atoms r) can.no_connector);
          closed = subst (λ (q : Region). EachTwice (links_of_region q)) (sym is) closed;
          numbered = (now.count, subst (λ (q : Region). NumbersLinks (links_of_region q) now.count) (sym is) numbers);
        };
      }

  -- and so is an answer
  pub settles_if : (answer : Result Solid NoMemory) → IfOk answer (λ s. s.root ≡ settled (λ x. x) (renumbered_region old.classes now r)) → IfOk answer (IsSettled r connectors)
  settles_if (Ok s) h = is_settled s h
  settles_if (Err e) h = h

-- ---- what the code has

-- a whole slice that was written back
pub written_back : {A : Type 0} (f : A → A) (old new : List A) (n : ℕ) → n ≡ length old → new ≡ map f old → take n (new ++ drop (length new) old) ≡ new
written_back f old new n size is =
    let long : length new ≡ length old = ap length is ∙ length-map old f in
    ap (λ xs. take n (new ++ xs)) (drop_all (length new) old (omega (arith, long))) ∙ ap (take n) (append-nil new) ∙ take_all n new (omega (arith, size, long))
