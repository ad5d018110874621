-- The code of a body sets its registers in order.
use Rattle.std.proofs.Common.{ℕ, ◌≡◌, ◌<◌, ◌≤◌, ◌+◌, ◌==◌, inl, inr, Bool, true, false, cond, List, [], ◌∷◌, ◌++◌, map, refl, arith, ap, sym, subst, length, ◌∙◌}
use Rattle.std.proofs.lemmas.List.{append_assoc}
use Rattle.lmn_solid_heads.specs.Heads.{Occurrence, HeadAtom, HeadMembrane, at_ports, at_atoms, atoms_of, typed_contexts_of, membranes_of, links_of_head, times}
use Rattle.lmn_congruence_splice.specs.Classes.{class_of, ends_of_class, rising}
use Rattle.lmn_instr_code.specs.declared.instr.AtomPort.{AtomPort}
use Rattle.lmn_instr_code.specs.declared.instr.NewPort.{NewPort}
use Rattle.lmn_instr_code.specs.declared.instr.Instr.{Instr}
use Rattle.lmn_instr_code.specs.declared.instr.Instr.TheVariants.{RemoveAtom, RemovePart, RemoveMem, DropCells, Proceed}
use Rattle.lmn_solid_bodies.specs.declared.items.BodyItem.{BodyItem}
use Rattle.lmn_solid_bodies.specs.declared.items.BodyItem.TheVariants.{Atom, Connector, Copy, Bound, Membrane, Rest, Rule, Rules}
use Rattle.lmn_solid_bodies.specs.Code.{making, drops, link_code, links_code}
use Rattle.lmn_solid_bodies.specs.Items.{new_ports, old_ports, connectors, new_ports_from, once_in}
use Rattle.lmn_congruence_splice.specs.Splice as splice
use Rattle.lmn_solid_bodies.specs.Made.{copies_of}
use Rattle.lmn_solid_bodies.specs.Rules.{StandsIn, IsHeadMembrane, WellPlaced}
use Rattle.lmn_solid_bodies.proofs.Firing.{rising_below}
use Rattle.lmn_machine_registers.specs.declared.stack.TheConstants.{ROOM}
use Rattle.lmn_machine_commit.specs.Preparing.{UsesPort, BodyInOrder}
use Rattle.lmn_machine_commit.specs.Orders.{atoms_in_body, membranes_in_body, copies_in_body, BoundBelow, BodiesAreInOrder}
use Rattle.lmn_base.proofs.Lists.{get_below}
use Rattle.lmn_base.specs.Lists.{In}

-- it copies only the first g typed contexts
abbrev CopiedBelow : ℕ → List BodyItem → Type 0
CopiedBelow g [] = Unit {0}
CopiedBelow g (Atom functor links inside ∷ xs) = CopiedBelow g xs
CopiedBelow g (Connector left right ∷ xs) = CopiedBelow g xs
CopiedBelow g (Copy part link inside ∷ xs) = (part < g) × CopiedBelow g xs
CopiedBelow g (Bound integer link inside ∷ xs) = CopiedBelow g xs
CopiedBelow g (Membrane inside ∷ xs) = CopiedBelow g xs
CopiedBelow g (Rest of closed inside ∷ xs) = CopiedBelow g xs
CopiedBelow g (Rule rule inside ∷ xs) = CopiedBelow g xs
CopiedBelow g (Rules of inside ∷ xs) = CopiedBelow g xs

copied_below : (g c : ℕ) (body : List BodyItem) → ((e : ℕ × ℕ) → splice.IsOneOf e (copies_of c body) → e.1 < g) → CopiedBelow g body
copied_below g c [] h = tt
copied_below g c (Atom functor links inside ∷ xs) h = copied_below g c xs h
copied_below g c (Connector left right ∷ xs) h = copied_below g c xs h
copied_below g c (Copy part link inside ∷ xs) h = (h (c, part) (inl refl), copied_below g (c + 1) xs (λ e i. h e (inr i)))
copied_below g c (Bound integer link inside ∷ xs) h = copied_below g c xs h
copied_below g c (Membrane inside ∷ xs) h = copied_below g c xs h
copied_below g c (Rest of closed inside ∷ xs) h = copied_below g c xs h
copied_below g c (Rule rule inside ∷ xs) h = copied_below g c xs h
copied_below g c (Rules of inside ∷ xs) h = copied_below g c xs h

order_same : (a b m n g v c d : ℕ) (is : List Instr) → a ≡ b → m ≡ n → c ≡ d → BodyInOrder a m g v c is → BodyInOrder b n g v d is
order_same a b m n g v c d is e f h o = subst (λ x. BodyInOrder x n g v d is) e (subst (λ y. BodyInOrder a y g v d is) f (subst (λ z. BodyInOrder a m g v z is) h o))

-- an instruction that makes nothing
still : (a m g v c : ℕ) (is : List Instr) → BodyInOrder a m g v c is → BodyInOrder (a + 0) (m + 0) g v (c + 0) is
still a m g v c is o = order_same a (a + 0) m (m + 0) g v c (c + 0) is (omega arith) (omega arith) (omega arith) o

atoms_in_order : (a m g v c : ℕ) (ns : List ℕ) (rest : List Instr) → ((n : ℕ) → In n ns → n < a) → BodyInOrder a m g v c rest → BodyInOrder a m g v c (map RemoveAtom ns ++ rest)
atoms_in_order a m g v c [] rest b o = o
atoms_in_order a m g v c (n ∷ ns) rest b o = (b n (inl refl), still a m g v c (map RemoveAtom ns ++ rest) (atoms_in_order a m g v c ns rest (λ k i. b k (inr i)) o))

parts_in_order : (a m g v c : ℕ) (ns : List ℕ) (rest : List Instr) → ((n : ℕ) → In n ns → n < g) → BodyInOrder a m g v c rest → BodyInOrder a m g v c (map RemovePart ns ++ rest)
parts_in_order a m g v c [] rest b o = o
parts_in_order a m g v c (n ∷ ns) rest b o = (b n (inl refl), still a m g v c (map RemovePart ns ++ rest) (parts_in_order a m g v c ns rest (λ k i. b k (inr i)) o))

mems_in_order : (a m g v c : ℕ) (ns : List ℕ) (rest : List Instr) → ((n : ℕ) → In n ns → n < m) → BodyInOrder a m g v c rest → BodyInOrder a m g v c (map RemoveMem ns ++ rest)
mems_in_order a m g v c [] rest b o = o
mems_in_order a m g v c (n ∷ ns) rest b o = (b n (inl refl), still a m g v c (map RemoveMem ns ++ rest) (mems_in_order a m g v c ns rest (λ k i. b k (inr i)) o))

drops_in_order : (a m g v c k : ℕ) (bs : List HeadMembrane) (rest : List Instr) → k + length bs ≤ m → BodyInOrder a m g v c rest → BodyInOrder a m g v c (drops k bs ++ rest)
drops_in_order a m g v c k [] rest l o = o
drops_in_order a m g v c k (b ∷ bs) rest l o = by b.has_closed_context (drops_in_order a m g v c (k + 1) bs rest (omega (arith, l)) o)
  where
    by : (t : Bool) → BodyInOrder a m g v c (drops (k + 1) bs ++ rest) → BodyInOrder a m g v c (cond t (DropCells k ∷ []) [] ++ drops (k + 1) bs ++ rest)
    by true q = ((let z : k < m = omega (arith, l) in z), still a m g v c (drops (k + 1) bs ++ rest) q)
    by false q = q

inside_below : (k m inside : ℕ) → 1 + k ≤ m → StandsIn k m inside → inside < m
inside_below k m inside l (inl e) = omega (arith, l, e)
inside_below k m inside l (inr w) = w.1

head_below : (k m of : ℕ) → 1 + k ≤ m → IsHeadMembrane k of → of < m
head_below k m of l w = let e = w.1 in let b = w.2 in omega (arith, l, e, b)

making_in_order : (k a m g v c : ℕ) (body : List BodyItem) (rest : List Instr) → 1 + k ≤ m → WellPlaced k m body → BoundBelow v body → CopiedBelow g body →
    a + atoms_in_body body ≤ ROOM → m + membranes_in_body body ≤ ROOM → c + copies_in_body body ≤ ROOM →
    BodyInOrder (a + atoms_in_body body) (m + membranes_in_body body) g v (c + copies_in_body body) rest → BodyInOrder a m g v c (making a m c body ++ rest)
making_in_order k a m g v c [] rest l w b h r q p o = order_same (a + 0) a (m + 0) m g v (c + 0) c rest (omega arith) (omega arith) (omega arith) o
making_in_order k a m g v c (Atom functor links inside ∷ xs) rest l w b h r q p o = (
  ((refl, omega (arith, r)), inside_below k m inside l w.0),
  order_same (a + 1) (a + 1) m (m + 0) g v c (c + 0) (making (a + 1) m c xs ++ rest) refl (omega arith) (omega arith)
      (making_in_order k (a + 1) m g v c xs rest l w.1 b h (omega (arith, r)) q p
      (order_same (a + (1 + atoms_in_body xs)) (a + 1 + atoms_in_body xs) (m + membranes_in_body xs) (m + membranes_in_body xs) g v (c + copies_in_body xs) (c + copies_in_body xs) rest (omega arith) refl refl o)),
)
making_in_order k a m g v c (Connector left right ∷ xs) rest l w b h r q p o = making_in_order k a m g v c xs rest l w b h r q p o
making_in_order k a m g v c (Copy part link inside ∷ xs) rest l w b h r q p o = (
  ((refl, omega (arith, p)), inside_below k m inside l w.0, h.0),
  order_same a (a + 0) m (m + 0) g v (c + 1) (c + 1) (making a m (c + 1) xs ++ rest) (omega arith) (omega arith) refl
      (making_in_order k a m g v (c + 1) xs rest l w.1 b h.1 r q (omega (arith, p))
      (order_same (a + atoms_in_body xs) (a + atoms_in_body xs) (m + membranes_in_body xs) (m + membranes_in_body xs) g v (c + (1 + copies_in_body xs)) (c + 1 + copies_in_body xs) rest refl refl (omega arith) o)),
)
making_in_order k a m g v c (Bound integer link inside ∷ xs) rest l w b h r q p o = (
  ((refl, omega (arith, r)), inside_below k m inside l w.0, b.0),
  order_same (a + 1) (a + 1) m (m + 0) g v c (c + 0) (making (a + 1) m c xs ++ rest) refl (omega arith) (omega arith)
      (making_in_order k (a + 1) m g v c xs rest l w.1 b.1 h (omega (arith, r)) q p
      (order_same (a + (1 + atoms_in_body xs)) (a + 1 + atoms_in_body xs) (m + membranes_in_body xs) (m + membranes_in_body xs) g v (c + copies_in_body xs) (c + copies_in_body xs) rest (omega arith) refl refl o)),
)
making_in_order k a m g v c (Membrane inside ∷ xs) rest l w b h r q p o = (
  ((refl, omega (arith, q)), inside_below k m inside l w.0),
  order_same a (a + 0) (m + 1) (m + 1) g v c (c + 0) (making a (m + 1) c xs ++ rest) (omega arith) refl (omega arith)
      (making_in_order k a (m + 1) g v c xs rest (omega (arith, l)) w.1 b h r (omega (arith, q)) p
      (order_same (a + atoms_in_body xs) (a + atoms_in_body xs) (m + (1 + membranes_in_body xs)) (m + 1 + membranes_in_body xs) g v (c + copies_in_body xs) (c + copies_in_body xs) rest refl (omega arith) refl o)),
)
making_in_order k a m g v c (Rest of false inside ∷ xs) rest l w b h r q p o =
    ((head_below k m of l w.0, inside_below k m inside l w.2), still a m g v c (making a m c xs ++ rest) (making_in_order k a m g v c xs rest l w.3 b h r q p o))
making_in_order k a m g v c (Rest of true inside ∷ xs) rest l w b h r q p o =
    ((head_below k m of l w.0, inside_below k m inside l w.1), still a m g v c (making a m c xs ++ rest) (making_in_order k a m g v c xs rest l w.2 b h r q p o))
making_in_order k a m g v c (Rule rule inside ∷ xs) rest l w b h r q p o =
    (inside_below k m inside l w.0, still a m g v c (making a m c xs ++ rest) (making_in_order k a m g v c xs rest l w.1 b h r q p o))
making_in_order k a m g v c (Rules of inside ∷ xs) rest l w b h r q p o =
    ((head_below k m of l w.0, inside_below k m inside l w.1), still a m g v c (making a m c xs ++ rest) (making_in_order k a m g v c xs rest l w.2 b h r q p o))

-- Ports of made atoms and copies, the first a and c, and of atoms of the head

abbrev EachNew : ℕ → ℕ → List NewPort → Type 0
EachNew a c [] = Unit {0}
EachNew a c (p ∷ ps) = UsesPort a c p × EachNew a c ps

abbrev EachOld : ℕ → List AtomPort → Type 0
EachOld a [] = Unit {0}
EachOld a (p ∷ ps) = (p.atom < a) × EachOld a ps

abbrev News : ℕ → ℕ → List (NewPort × ℕ) → Type 0
News a c [] = Unit {0}
News a c (e ∷ es) = UsesPort a c e.0 × News a c es

abbrev Olds : ℕ → List (AtomPort × ℕ) → Type 0
Olds a [] = Unit {0}
Olds a (e ∷ es) = (e.0.atom < a) × Olds a es

ends_new : (a c : ℕ) (m : ℕ → ℕ) (z : ℕ) (es : List (NewPort × ℕ)) → News a c es → EachNew a c (ends_of_class m z es)
ends_new a c m z [] w = tt
ends_new a c m z (e ∷ es) w = by (m e.1 == z) (ends_new a c m z es w.1)
  where
    by : (t : Bool) → EachNew a c (ends_of_class m z es) → EachNew a c (cond t (e.0 ∷ ends_of_class m z es) (ends_of_class m z es))
    by true q = (w.0, q)
    by false q = q

ends_old : (a : ℕ) (m : ℕ → ℕ) (z : ℕ) (es : List (AtomPort × ℕ)) → Olds a es → EachOld a (ends_of_class m z es)
ends_old a m z [] w = tt
ends_old a m z (e ∷ es) w = by (m e.1 == z) (ends_old a m z es w.1)
  where
    by : (t : Bool) → EachOld a (ends_of_class m z es) → EachOld a (cond t (e.0 ∷ ends_of_class m z es) (ends_of_class m z es))
    by true q = (w.0, q)
    by false q = q

news_append : (a c : ℕ) (xs ys : List (NewPort × ℕ)) → News a c xs → News a c ys → News a c (xs ++ ys)
news_append a c [] ys p q = q
news_append a c (x ∷ xs) ys p q = (p.0, news_append a c xs ys p.1 q)

news_of : (b d a i : ℕ) (xs : List ℕ) → a < b → News b d (new_ports_from a i xs)
news_of b d a i [] l = tt
news_of b d a i (x ∷ xs) l = (l, news_of b d a (i + 1) xs l)

news_below : (b d a c : ℕ) (body : List BodyItem) → a + atoms_in_body body ≤ b → c + copies_in_body body ≤ d → News b d (new_ports a c body)
news_below b d a c [] l k = tt
news_below b d a c (Atom functor links inside ∷ xs) l k = news_append b d (new_ports_from a 0 links) (new_ports (a + 1) c xs) (news_of b d a 0 links (omega (arith, l))) (news_below b d (a + 1) c xs (omega (arith, l)) k)
news_below b d a c (Connector left right ∷ xs) l k = news_below b d a c xs l k
news_below b d a c (Copy part link inside ∷ xs) l k = (let q : c < d = omega (arith, k) in q, news_below b d a (c + 1) xs l (omega (arith, k)))
news_below b d a c (Bound integer link inside ∷ xs) l k = (let q : a < b = omega (arith, l) in q, news_below b d (a + 1) c xs (omega (arith, l)) k)
news_below b d a c (Membrane inside ∷ xs) l k = news_below b d a c xs l k
news_below b d a c (Rest of closed inside ∷ xs) l k = news_below b d a c xs l k
news_below b d a c (Rule rule inside ∷ xs) l k = news_below b d a c xs l k
news_below b d a c (Rules of inside ∷ xs) l k = news_below b d a c xs l k

abbrev Stand : ℕ → List Occurrence → Type 0
Stand b [] = Unit {0}
Stand b (o ∷ os) = (o.port.0 < b) × Stand b os

stand_append : (b : ℕ) (xs ys : List Occurrence) → Stand b xs → Stand b ys → Stand b (xs ++ ys)
stand_append b [] ys p q = q
stand_append b (x ∷ xs) ys p q = (p.0, stand_append b xs ys p.1 q)

stand_ports : (b n i : ℕ) (xs : List ℕ) → n < b → Stand b (at_ports n i xs)
stand_ports b n i [] l = tt
stand_ports b n i (x ∷ xs) l = (l, stand_ports b n (i + 1) xs l)

stand_atoms : (b n : ℕ) (xs : List HeadAtom) → n + length xs ≤ b → Stand b (at_atoms n xs)
stand_atoms b n [] l = tt
stand_atoms b n (x ∷ xs) l = stand_append b (at_ports n 0 x.links) (at_atoms (n + 1) xs) (stand_ports b n 0 x.links (omega (arith, l))) (stand_atoms b (n + 1) xs (omega (arith, l)))

olds_once : (b : ℕ) (xs : List ℕ) (os : List Occurrence) → Stand b os → Olds b (once_in xs os)
olds_once b xs [] w = tt
olds_once b xs (o ∷ os) w = by (times o.link xs == 1) (olds_once b xs os w.1)
  where
    by : (t : Bool) → Olds b (once_in xs os) → Olds b (cond t ((record { atom = o.port.0; port = o.port.1 }, o.link) ∷ once_in xs os) (once_in xs os))
    by true q = (w.0, q)
    by false q = q

link_in_order : (a m g v c : ℕ) (ps : List NewPort) (hs : List AtomPort) (rest : List Instr) → EachNew a c ps → EachOld a hs → BodyInOrder a m g v c rest → BodyInOrder a m g v c (link_code ps hs ++ rest)
link_in_order a m g v c [] [] rest p h o = o
link_in_order a m g v c [] (x ∷ []) rest p h o = o
link_in_order a m g v c [] (x ∷ y ∷ []) rest p h o = ((h.0, h.1.0), still a m g v c rest o)
link_in_order a m g v c [] (x ∷ y ∷ z ∷ hs) rest p h o = o
link_in_order a m g v c (q ∷ []) [] rest p h o = o
link_in_order a m g v c (q ∷ []) (x ∷ []) rest p h o = ((p.0, h.0), still a m g v c rest o)
link_in_order a m g v c (q ∷ []) (x ∷ y ∷ hs) rest p h o = o
link_in_order a m g v c (q ∷ w ∷ []) [] rest p h o = ((p.0, p.1.0), still a m g v c rest o)
link_in_order a m g v c (q ∷ w ∷ []) (x ∷ hs) rest p h o = o
link_in_order a m g v c (q ∷ w ∷ u ∷ ps) hs rest p h o = o

links_in_order : (a m g v c : ℕ) (f : ℕ → ℕ) (news : List (NewPort × ℕ)) (olds : List (AtomPort × ℕ)) (zs : List ℕ) (rest : List Instr) → News a c news → Olds a olds → BodyInOrder a m g v c rest → BodyInOrder a m g v c (links_code f news olds zs ++ rest)
links_in_order a m g v c f news olds [] rest p h o = o
links_in_order a m g v c f news olds (z ∷ zs) rest p h o =
    subst (BodyInOrder a m g v c) (sym (append_assoc (link_code (ends_of_class f z news) (ends_of_class f z olds)) (links_code f news olds zs) rest))
    (link_in_order a m g v c (ends_of_class f z news) (ends_of_class f z olds) (links_code f news olds zs ++ rest) (ends_new a c f z news p) (ends_old a f z olds h) (links_in_order a m g v c f news olds zs rest p h o))

olds_more : (a b : ℕ) → a ≤ b → (es : List (AtomPort × ℕ)) → Olds a es → Olds b es
olds_more a b l [] w = tt
olds_more a b l (e ∷ es) w = let u = w.0 in (omega (arith, l, u), olds_more a b l es w.1)

-- the code of a body sets its registers in order
pub bodies_are_in_order : BodiesAreInOrder
bodies_are_in_order head body n v rule below room room_mems room_copies =
    let copied = copied_below (length (typed_contexts_of head)) 0 body (λ e i. (let w = rule.atoms.copied e i in get_below (typed_contexts_of head) e.1 w.0 w.1)) in
    let a = length (atoms_of head) in
    let k = length (membranes_of head) in
    let g = length (typed_contexts_of head) in
    let e = copies_in_body body in
    let made = making a (1 + k) 0 body in
    let news = news_below (a + atoms_in_body body) (0 + e) a 0 body (omega arith) (omega arith) in
    let olds = olds_more a (a + atoms_in_body body) (omega arith) (old_ports head) (olds_once a (links_of_head head) (at_atoms 0 (atoms_of head)) (stand_atoms a 0 (atoms_of head) (omega arith))) in
    let ls = links_code (class_of (connectors body)) (new_ports a 0 body) (old_ports head) (rising 0 n) in
    let os = map RemoveAtom (rising 0 a) in
    let gs = map RemovePart (rising 0 g) in
    let ms = map RemoveMem (rising 1 k) in
    let ds = drops 1 (membranes_of head) in
    let tail = made ++ (ds ++ (ls ++ (Proceed ∷ []))) in
    let end : BodyInOrder (a + atoms_in_body body) (1 + k + membranes_in_body body) g v (0 + e) (Proceed ∷ []) = (tt, tt) in
    let links = links_in_order (a + atoms_in_body body) (1 + k + membranes_in_body body) g v (0 + e) (class_of (connectors body)) (new_ports a 0 body) (old_ports head) (rising 0 n) (Proceed ∷ []) news olds end in
    let dropping = drops_in_order (a + atoms_in_body body) (1 + k + membranes_in_body body) g v (0 + e) 1 (membranes_of head) (ls ++ (Proceed ∷ [])) (omega arith) links in
    let making_part = making_in_order k a (1 + k) g v 0 body (ds ++ (ls ++ (Proceed ∷ []))) (omega arith) rule.placed below copied room room_mems (omega (arith, room_copies)) dropping in
    let mems_part = mems_in_order a (1 + k) g v 0 (rising 1 k) tail (λ x i. (let b = (rising_below k 1 x i).1 in b)) making_part in
    let parts_part = parts_in_order a (1 + k) g v 0 (rising 0 g) (ms ++ tail) (λ x i. (let b = (rising_below g 0 x i).1 in omega (arith, b))) mems_part in
    let atoms_part = atoms_in_order a (1 + k) g v 0 (rising 0 a) (gs ++ (ms ++ tail)) (λ x i. (let b = (rising_below a 0 x i).1 in omega (arith, b))) parts_part in
    subst (BodyInOrder a (1 + k) g v 0) (sym (append_assoc os (gs ++ ms) tail ∙ ap (λ is. os ++ is) (append_assoc gs ms tail))) atoms_part
