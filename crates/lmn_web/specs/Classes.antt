-- Words of private functions: the atoms of a membrane that files them and that have one class, which is the high half of their labels and how many ports they have, are linked in a ring, and the last one of each class hangs in a tree.
use Rattle.std.specs.Prelude.{◌≡◌, ◌≢◌, ◌==◌, ◌&&◌, ◌<◌, ◌/◌, ◌%◌, ◌++◌, Bool, true, false, ℕ, zero, suc, List, [], ◌∷◌, length, filter, Option, Some, None, IsSome, is_some, if◌then◌else◌}
use Rattle.lmn_base.specs.Lists.{In}
use Rattle.lmn_store_heap.specs.Lists.{Distinct, without}
use Rattle.std.specs.Option.{option_map}
use Rattle.lmn_store_heap.specs.Heap.{alter}
use Rattle.lmn_web_cells.specs.Cells.{HeldPort, HeldCell, links_of, numbers_of, ports_of, with_link}
use Rattle.lmn_web_cells.specs.Runs.{Node, link_in, put_before}
use Rattle.lmn_web_cells.specs.Links.{CLASS_NEXT, CLASS_PREV, EVEN, ODD, LEADERS}
use Rattle.lmn_web.specs.Webs.{number_in}
use Rattle.lmn_web_cells.specs.Numbers.{ARITY, HIGH, KIND}
use Rattle.lmn_web.specs.declared.kind.CellKind.{CellKind}
use Rattle.lmn_web.specs.declared.kind.CellKind.TheVariants.{Atom, Membrane}
use Rattle.lmn_web.specs.Kinds.{kind_by, FILED}

abbrev pub class_node : (ℕ → Option HeldCell) → ℕ → Node
class_node f a = record { prev = link_in f a CLASS_PREV; next = link_in f a CLASS_NEXT }

-- what comes into the list of a kind of a membrane is filed by class
abbrev pub files : (ℕ → Option HeldCell) → ℕ → CellKind → Bool
files f m Atom = number_in f m KIND == FILED
files f m Membrane = false

-- the class of an atom
abbrev pub key_in : (ℕ → Option HeldCell) → ℕ → ℕ × ℕ
key_in f a = (number_in f a HIGH, number_in f a ARITY)

-- the class that is told by one number
abbrev pub key_by : ℕ → ℕ × ℕ
key_by n = (n / 65536, n / 256 % 256)

-- these are atoms
abbrev pub AreAtoms : (ℕ → Option HeldCell) → List ℕ → Type 0
AreAtoms f xs = (x : ℕ) → In x xs → kind_by (number_in f x KIND) ≡ Atom

abbrev pub is_key : ℕ × ℕ → ℕ × ℕ → Bool
is_key p q = (p.0 == q.0) && (p.1 == q.1)

-- those of a list that have this class
abbrev pub of_class : (ℕ → Option HeldCell) → ℕ × ℕ → List ℕ → List ℕ
of_class f p xs = filter (λ a. is_key (key_in f a) p) xs

-- The tree of the last atoms of the classes

-- a last atom, with those below it on its even and on its odd side, or none
pub data ClassTree : Type 0 where
  Bare : ClassTree
  Fork : ℕ → ClassTree → ClassTree → ClassTree

abbrev pub lasts : ClassTree → List ℕ
lasts Bare = []
lasts (Fork l a b) = l ∷ (lasts a ++ lasts b)

abbrev pub top : ClassTree → Option ℕ
top Bare = None
top (Fork l a b) = Some l

-- the cells of a tree, each linked to the ones below it
abbrev pub IsTree : (ℕ → Option HeldCell) → Option ℕ → ClassTree → Type 0
IsTree f first Bare = first ≡ None
IsTree f first (Fork l a b) = (first ≡ Some l) × IsSome (f l) × IsTree f (link_in f l EVEN) a × IsTree f (link_in f l ODD) b

-- what of a number is left at a depth
abbrev pub rest_at : ℕ → ℕ → ℕ
rest_at n zero = n
rest_at n (suc d) = rest_at n d / 2

-- the side to which it goes from there
abbrev pub is_odd : ℕ → Bool
is_odd n = n % 2 == 1

-- at a depth these have another class than l, and the upper half of their labels goes to this side
abbrev pub AreBeside : (ℕ → Option HeldCell) → ℕ → ℕ → Bool → List ℕ → Type 0
AreBeside f l d odd ks = (k : ℕ) → In k ks → (is_key (key_in f k) (key_in f l) ≡ false) × (is_odd (rest_at (key_in f k).0 d) ≡ odd)

-- no class stands twice in a tree, and each on the sides to which it goes
abbrev pub IsSorted : (ℕ → Option HeldCell) → ℕ → ClassTree → Type 0
IsSorted f d Bare = Unit {0}
IsSorted f d (Fork l a b) = AreBeside f l d false (lasts a) × AreBeside f l d true (lasts b) × IsSorted f (suc d) a × IsSorted f (suc d) b

-- each of zs is linked both ways with the one before it, and the first one with l
abbrev pub Linked : (ℕ → Node) → ℕ → List ℕ → Type 0
Linked h l [] = Unit {0}
Linked h l (z ∷ zs) = ((h l).next ≡ Some z) × ((h z).prev ≡ Some l) × Linked h z zs

-- zs is a ring, and l is its last one
abbrev pub IsRing : (ℕ → Option HeldCell) → ℕ → List ℕ → Type 0
IsRing f l zs = Linked (class_node f) l zs × (ys : List ℕ) × (zs ≡ ys ++ l ∷ [])

-- t has the last atoms of the classes of m, whose atoms are xs; by the link of its even side each other atom leads to m
pub record AreClassed (f : ℕ → Option HeldCell) (m : ℕ) (xs : List ℕ) (t : ClassTree) : Type 0 where
  pub tree : IsTree f (link_in f m LEADERS) t
  pub sorted : IsSorted f 0 t
  pub inside : (l : ℕ) → In l (lasts t) → In l xs
  pub every : (x : ℕ) → In x xs → (l : ℕ) × In l (lasts t) × (key_in f l ≡ key_in f x)
  pub rings : (l : ℕ) → In l (lasts t) → IsRing f l (of_class f (key_in f l) xs)
  pub inner : (x : ℕ) → In x xs → (In x (lasts t) → ⊥) → link_in f x EVEN ≡ Some m

-- where a class stands or is missing: the cell and the link at which it hangs, the depth, and the tree from there on
pub record ClassPlace : Type 0 where
  pub holder : ℕ
  pub link : ℕ
  pub depth : ℕ
  pub tree : ClassTree

-- where a class is looked for in a tree at a link of a cell
abbrev pub class_place : (ℕ → Option HeldCell) → ℕ × ℕ → ℕ → ℕ → ℕ → ClassTree → ClassPlace
class_place f p h k d Bare = record { holder = h; link = k; depth = d; tree = Bare }
class_place f p h k d (Fork l a b) =
    if is_key (key_in f l) p then record { holder = h; link = k; depth = d; tree = Fork l a b } else if is_odd (rest_at p.0 d) then class_place f p l ODD (suc d) b else class_place f p l EVEN (suc d) a

-- in a membrane
abbrev pub place_in : (ℕ → Option HeldCell) → ℕ × ℕ → ℕ → ClassTree → ClassPlace
place_in f p m t = class_place f p m LEADERS 0 t

-- a last atom, and where it hangs
pub record Hung : Type 0 where
  pub holder : ℕ
  pub link : ℕ
  pub last : Option ℕ

-- one of a tree with none below it
abbrev pub lowest : ℕ → ℕ → ClassTree → Hung
lowest h k Bare = record { holder = h; link = k; last = None }
lowest h k (Fork l Bare Bare) = record { holder = h; link = k; last = Some l }
lowest h k (Fork l Bare (Fork r x y)) = lowest l ODD (Fork r x y)
lowest h k (Fork l (Fork r x y) b) = lowest l EVEN (Fork r x y)

-- one of the two trees below c, if there is one
abbrev pub lowest_below : ℕ → ClassTree → ClassTree → Hung
lowest_below c Bare b = lowest c ODD b
lowest_below c (Fork r x y) b = lowest c EVEN (Fork r x y)

-- What is written

-- one link of a cell is another
abbrev pub link_written : (ℕ → Option HeldCell) → ℕ → ℕ → Option ℕ → ℕ → Option HeldCell
link_written f a k v = alter f a (option_map (with_link k v))

-- n hangs at link k of h, with what hung below c
abbrev pub taken_over : (ℕ → Option HeldCell) → ℕ → ℕ → ℕ → ℕ → ℕ → Option HeldCell
taken_over f h k c n = link_written (link_written (link_written f n EVEN (link_in f c EVEN)) n ODD (link_in f c ODD)) h k (Some n)

-- c begins a class of its own, at link k of h
abbrev pub begun : (ℕ → Option HeldCell) → ℕ → ℕ → ℕ → ℕ → Option HeldCell
begun f h k c = link_written (link_written (link_written (link_written (link_written f c CLASS_NEXT (Some c)) c CLASS_PREV (Some c)) c EVEN None) c ODD None) h k (Some c)

-- c stands between p and d
abbrev pub put_between : (ℕ → Option HeldCell) → ℕ → ℕ → ℕ → ℕ → Option HeldCell
put_between f p d c = link_written (link_written (link_written (link_written f c CLASS_NEXT (Some d)) c CLASS_PREV (Some p)) p CLASS_NEXT (Some c)) d CLASS_PREV (Some c)

-- c stands between p and d of m, and isn't the last one
abbrev pub put_inside : (ℕ → Option HeldCell) → ℕ → ℕ → ℕ → ℕ → ℕ → Option HeldCell
put_inside f m p d c = link_written (put_between f p d c) c EVEN (Some m)

-- c is the last one of a class of m, in the place of l, and stands between it and the first one, d
abbrev pub lengthened : (ℕ → Option HeldCell) → ℕ → ℕ → ℕ → ℕ → ℕ → ℕ → ℕ → Option HeldCell
lengthened f m h k l d c = link_written (taken_over (put_between f l d c) h k l c) l EVEN (Some m)

-- what stood between p and n has left
abbrev pub closed : (ℕ → Option HeldCell) → ℕ → ℕ → ℕ → Option HeldCell
closed f p n = link_written (link_written f p CLASS_NEXT (Some n)) n CLASS_PREV (Some p)

-- p is the last one in the place of c, which stood between it and the first one, n
abbrev pub shortened : (ℕ → Option HeldCell) → ℕ → ℕ → ℕ → ℕ → ℕ → ℕ → Option HeldCell
shortened f h k c p n = taken_over (closed f p n) h k c p

-- the class of c is gone, and a last one that hung at link j of a, if there is one, hangs in its place
abbrev pub dropped : (ℕ → Option HeldCell) → ℕ → ℕ → ℕ → ℕ → ℕ → Option ℕ → ℕ → Option HeldCell
dropped f h k c a j None = link_written f h k None
dropped f h k c a j (Some l) = taken_over (link_written f a j None) h k c l

-- What the three calls ask and leave

-- what of a cell its links leave
pub record AllButLinks : Type 0 where
  pub there : Bool
  pub numbers : List ℕ
  pub ports : List HeldPort

abbrev pub all_but_links : Option HeldCell → AllButLinks
all_but_links o = record { there = is_some o; numbers = numbers_of o; ports = ports_of o }

-- xs are the atoms of m, and t has the last ones of their classes; c is an atom
pub record MayFile (f : ℕ → Option HeldCell) (m c : ℕ) (xs : List ℕ) (t : ClassTree) : Type 0 where
  pub classed : AreClassed f m xs t
  pub once : Distinct xs
  pub alive : (z : ℕ) → In z xs → IsSome (f z)
  pub there_m : IsSome (f m)
  pub membrane : length (numbers_of (f m)) ≡ 8
  pub there_c : IsSome (f c)
  pub no_m : In m xs → ⊥
  pub not_m : c ≢ m
  pub kinds : (z : ℕ) → In z xs → kind_by (number_in f z KIND) ≡ Atom
  pub home : kind_by (number_in f m KIND) ≡ Membrane

-- What writes to classes leave: p is the class, and xs has all cells that are written but m.
pub record Touches (f g : ℕ → Option HeldCell) (m : ℕ) (xs : List ℕ) (p : ℕ × ℕ) : Type 0 where
  pub rests : (b : ℕ) → all_but_links (g b) ≡ all_but_links (f b)
  pub lengths : (b : ℕ) → length (links_of (g b)) ≡ length (links_of (f b))
  pub links : (b j : ℕ) → j < 3 → link_in g b j ≡ link_in f b j
  pub away : (b j : ℕ) → (In b xs → ⊥) → (b ≡ m → j ≢ LEADERS) → link_in g b j ≡ link_in f b j
  pub nodes : (z : ℕ) → is_key (key_in f z) p ≡ false → class_node g z ≡ class_node f z

-- of one class the list is zs then, and of all others it is as it was
pub record ClassBecomes (f : ℕ → Option HeldCell) (p : ℕ × ℕ) (xs zs xs' : List ℕ) : Type 0 where
  pub others : (q : ℕ × ℕ) → is_key q p ≡ false → of_class f q xs' ≡ of_class f q xs
  pub own : of_class f p xs' ≡ zs

-- the classes are those of a list xs' then
pub record Refiled (f g : ℕ → Option HeldCell) (m : ℕ) (xs : List ℕ) (p : ℕ × ℕ) (xs' : List ℕ) : Type 0 where
  pub touches : Touches f g m xs p
  pub tree : ClassTree
  pub classed : AreClassed g m xs' tree

-- an atom, or none
abbrev pub is_no_membrane : (ℕ → Option HeldCell) → Option ℕ → Bool
is_no_membrane f None = true
is_no_membrane f (Some d) = number_in f d KIND == 0

-- c, which is filed, is the last one of its class: by the link of its even side it leads to no membrane
abbrev pub ends_class : (ℕ → Option HeldCell) → ℕ → Bool
ends_class f c = is_no_membrane f (link_in f c EVEN)

-- c is filed in m as one of its class
abbrev pub IsInItsClass : (ℕ → Option HeldCell) → ℕ → ℕ → Type 0
IsInItsClass f m c = (xs : List ℕ) × (t : ClassTree) × MayFile f m c xs t × In c xs

-- Whatever the atoms xs of m are, c comes among them as the last one of its class.
abbrev pub IsFiledLast : (ℕ → Option HeldCell) → (ℕ → Option HeldCell) → ℕ → ℕ → Type 0
IsFiledLast f g m c = (xs : List ℕ) (t : ClassTree) (xs' : List ℕ) → MayFile f m c xs t → (In c xs → ⊥)
    → ClassBecomes f (key_in f c) xs (of_class f (key_in f c) xs ++ c ∷ []) xs' → Refiled f g m (c ∷ xs) (key_in f c) xs'

-- c comes among them directly before d in its class.
abbrev pub IsFiledBefore : (ℕ → Option HeldCell) → (ℕ → Option HeldCell) → ℕ → ℕ → ℕ → Type 0
IsFiledBefore f g m d c = (xs : List ℕ) (t : ClassTree) (xs' : List ℕ) → MayFile f m c xs t → (In c xs → ⊥) → In d xs
    → ClassBecomes f (key_in f c) xs (put_before c d (of_class f (key_in f c) xs)) xs' → Refiled f g m (c ∷ xs) (key_in f c) xs'

-- c, one of them, leaves its class.
abbrev pub IsUnfiled : (ℕ → Option HeldCell) → (ℕ → Option HeldCell) → ℕ → ℕ → Type 0
IsUnfiled f g m c = (xs : List ℕ) (t : ClassTree) (xs' : List ℕ) → MayFile f m c xs t → In c xs
    → ClassBecomes f (key_in f c) xs (without c (of_class f (key_in f c) xs)) xs' → Refiled f g m xs (key_in f c) xs'

-- a list with c directly before a cell of it, or at its end
abbrev pub put_at : ℕ → Option ℕ → List ℕ → List ℕ
put_at c None xs = xs ++ c ∷ []
put_at c (Some d) xs = put_before c d xs

-- c, which isn't filed, may come before a cell of its class, or to the end of it, so that the atoms of m are xs'
pub record MayEnter (f : ℕ → Option HeldCell) (m c : ℕ) (place : Option ℕ) (xs : List ℕ) (t : ClassTree) (xs' : List ℕ) : Type 0 where
  pub may : MayFile f m c xs t
  pub fresh : In c xs → ⊥
  pub inside : (d : ℕ) → place ≡ Some d → In d xs × (key_in f d ≡ key_in f c)
  pub one : ClassBecomes f (key_in f c) xs (put_at c place (of_class f (key_in f c) xs)) xs'

-- c, which is filed, may leave its class, so that the atoms of m are xs'
pub record MayLeave (f : ℕ → Option HeldCell) (m c : ℕ) (xs : List ℕ) (t : ClassTree) (xs' : List ℕ) : Type 0 where
  pub may : MayFile f m c xs t
  pub inside : In c xs
  pub one : ClassBecomes f (key_in f c) xs (without c (of_class f (key_in f c) xs)) xs'

-- the cells after filing, or without it
abbrev pub FiledAs : Bool → (ℕ → Option HeldCell) → (ℕ → Option HeldCell) → ℕ → List ℕ → ℕ × ℕ → List ℕ → Type 0
FiledAs true f g m xs p xs' = Refiled f g m xs p xs'
FiledAs false f g m xs p xs' = g ≡ f
