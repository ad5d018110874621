-- How a change of cells is a change of the web.
use Rattle.std.proofs.Common.{◌≡◌, ◌≢◌, ℕ, zero, suc, ◌+◌, ◌<◌, ◌==◌, Bool, true, List, [], ◌∷◌, ◌++◌, length, map, get_or, set, replicate, Option, Some, None, IsSome, is_some, if◌then◌else◌, false, refl, sym, ap, subst, ◌∙◌, inl, inr, arith, length-set, get_or-set_same, get_or-set_other}
use Rattle.std.proofs.lemmas.Bool.{cases_eq, eq-eqb}
use Rattle.std.proofs.lemmas.List.{map-set, length-map, length-replicate}
use Rattle.std.proofs.Math.Seq.{map-set_same}
use Rattle.std.specs.Option.{option_map}
use Rattle.lmn_base.proofs.Numbers.{not_equal}
use Rattle.lmn_store_heap.specs.Heap.{alter}
use Rattle.lmn_store_heap.proofs.Listing.{alter_at, alter_away, alter_keeps}
use Rattle.lmn_web_cells.specs.Cells.{HeldPort, HeldCell, links_of, numbers_of, ports_of, port_of, no_port, with_link, with_number, with_mark as with_port_mark, IsNewIndex}
use Rattle.lmn_web_cells.specs.Ports as cell
use Rattle.lmn_web_cells.specs.Ports.{IsPort, Reaches, Paired, partner_by, partner_in}
use Rattle.lmn_web_cells.proofs.PortLemmas.{cleared_ports, linked_ports}
use Rattle.lmn_web_cells.specs.Links.{HOME}
use Rattle.lmn_web.specs.Webs.{WebCell, partners_of, web_cell, web_with, web_of, list_in, list_link, count_number, partner_at, arity_at, new_cell, with_partner, with_mark, linked, cleared, joined, parted, IsPaired, number_in, label_by}
use Rattle.lmn_web_cells.specs.Numbers.{INDEX, ARITY, KIND, HIGH, LOW, FIRST_MARK}
use Rattle.lmn_web.specs.Indexes.{described, blank_by, numbers_by, IsListed, IsWeb}
use Rattle.lmn_web.proofs.ListedLemmas.{Listing, listing, lists_same, listed_self, listed_beside, web_self, cell_of}
use Rattle.lmn_web.specs.Kinds.{kind_by}
use Rattle.lmn_web.specs.declared.kind.CellKind.{CellKind}
use Rattle.lmn_web.specs.declared.kind.CellKind.TheVariants.{Atom, Membrane}

-- Lists

-- an element is another, and then another
pub set_twice : {X : Type 0} (xs : List X) (i : ℕ) (u v : X) → set (set xs i u) i v ≡ set xs i v
set_twice [] i u v = refl
set_twice (x ∷ xs) zero u v = refl
set_twice (x ∷ xs) (suc i) u v = ap (λ ys. x ∷ ys) (set_twice xs i u v)

-- the other end of a port of a list
get_mapped : (ps : List HeldPort) (i : ℕ) → get_or (map partner_by ps) i None ≡ partner_by (get_or ps i no_port)
get_mapped [] i = refl
get_mapped (p ∷ ps) zero = refl
get_mapped (p ∷ ps) (suc i) = get_mapped ps i

-- Reading

-- a cell that the web has is there
pub some_back : (f : ℕ → Option HeldCell) (ys : ℕ → CellKind → List ℕ) (a : ℕ) → IsSome (web_with f ys a) → IsSome (f a)
some_back f ys a = by (f a)
  where
    by : (o : Option HeldCell) → IsSome (option_map (web_cell (ys a)) o) → IsSome o
    by None t = t
    by (Some c) t = refl

-- the other end of a port, in the cells and in the web
pub partner_same : (f : ℕ → Option HeldCell) (ys : ℕ → CellKind → List ℕ) (a i : ℕ) → partner_at (web_with f ys) a i ≡ partner_in f a i
partner_same f ys a i = by (f a)
  where
    by : (o : Option HeldCell) → get_or (partners_of (option_map (web_cell (ys a)) o)) i None ≡ partner_by (port_of o i)
    by None = refl
    by (Some c) = get_mapped c.ports i

-- how many ports a cell has, in the cells and in the web
pub arity_same : (f : ℕ → Option HeldCell) (ys : ℕ → CellKind → List ℕ) (a : ℕ) → arity_at (web_with f ys) a ≡ length (ports_of (f a))
arity_same f ys a = by (f a)
  where
    by : (o : Option HeldCell) → length (partners_of (option_map (web_cell (ys a)) o)) ≡ length (ports_of o)
    by None = refl
    by (Some c) = length-map c.ports partner_by

-- a port of the web is one of the cells
pub port_back : (f : ℕ → Option HeldCell) (ys : ℕ → CellKind → List ℕ) (a i : ℕ) → i < arity_at (web_with f ys) a → IsPort f a i
port_back f ys a i l = subst (λ n. i < n) (arity_same f ys a) l

-- Changes

-- a change of a cell is a change of what it stands for
pub commutes : (f : ℕ → Option HeldCell) (ys : ℕ → CellKind → List ℕ) (a : ℕ) (g : HeldCell → HeldCell) (h : WebCell → WebCell) → ((c : HeldCell) → f a ≡ Some c → web_cell (ys a) (g c) ≡ h (web_cell (ys a) c))
    → web_with (alter f a (option_map g)) ys ≡ alter (web_with f ys) a (option_map h)
commutes f ys a g h e = λ t b. at b t
  where
    by : (o : Option HeldCell) → ((c : HeldCell) → o ≡ Some c → web_cell (ys a) (g c) ≡ h (web_cell (ys a) c)) → option_map (web_cell (ys a)) (option_map g o) ≡ option_map h (option_map (web_cell (ys a)) o)
    by None k = refl
    by (Some c) k = ap Some (k c refl)

    at : (b : ℕ) → web_with (alter f a (option_map g)) ys b ≡ alter (web_with f ys) a (option_map h) b
    at b = elim (cases_eq b a) [
      | inl s ↦ ap (web_with (alter f a (option_map g)) ys) s ∙ ap (option_map (web_cell (ys a))) (alter_at f a (option_map g)) ∙ by (f a) e
          ∙ sym (ap (alter (web_with f ys) a (option_map h)) s ∙ alter_at (web_with f ys) a (option_map h))
      | inr d ↦ ap (option_map (web_cell (ys b))) (alter_away f a (option_map g) b d) ∙ sym (alter_away (web_with f ys) a (option_map h) b d)
    ]

-- a cell of which two parts are others
parts : (c : WebCell) (ps qs : List (Option (ℕ × ℕ))) (ms ns : List ℕ) → ps ≡ qs → ms ≡ ns → record c { partners = ps; marks = ms } ≡ record c { partners = qs; marks = ns }
parts c ps qs ms ns p m = λ t. record c { partners = p t; marks = m t }

none_cell : (lists : CellKind → List ℕ) (i : ℕ) (c : HeldCell) → web_cell lists (cell.with_partner i None c) ≡ with_partner i None (web_cell lists c)
none_cell lists i c = let q : HeldPort = record (get_or c.ports i no_port) { to = None } in
    parts (web_cell lists c) _ _ _ _ (map-set partner_by c.ports i q) (ap (λ ms. get_or c.numbers FIRST_MARK 0 ∷ ms) (map-set_same (λ (p : HeldPort). p.mark) c.ports i q no_port refl))

some_cell : (lists : CellKind → List ℕ) (i : ℕ) (p : ℕ × ℕ) (c : HeldCell) → i < length c.ports → web_cell lists (cell.with_partner i (Some p) c) ≡ with_partner i (Some p) (web_cell lists c)
some_cell lists i p c l =
    let q : HeldPort = record (get_or c.ports i no_port) { to = Some p.0 } in let one = set c.ports i q in let r : HeldPort = record (get_or one i no_port) { port = p.1 } in
    let there : get_or one i no_port ≡ q = get_or-set_same c.ports i q no_port l in
    parts (web_cell lists c) _ _ _ _
    (map-set partner_by one i r ∙ ap (λ (z : HeldPort). set (map partner_by one) i (partner_by (record z { port = p.1 }))) there ∙ ap (λ ps. set ps i (Some p)) (map-set partner_by c.ports i q) ∙ set_twice (map partner_by c.ports) i (partner_by q) (Some p))
    (ap (λ ms. get_or c.numbers FIRST_MARK 0 ∷ ms) (map-set_same (λ (z : HeldPort). z.mark) one i r no_port refl ∙ map-set_same (λ (z : HeldPort). z.mark) c.ports i q no_port refl))

linked_none : (f : ℕ → Option HeldCell) (ys : ℕ → CellKind → List ℕ) (a i : ℕ) → web_with (cell.linked f a i None) ys ≡ linked (web_with f ys) a i None
linked_none f ys a i = commutes f ys a (cell.with_partner i None) (with_partner i None) (λ c e. none_cell (ys a) i c)

linked_some : (f : ℕ → Option HeldCell) (ys : ℕ → CellKind → List ℕ) (a i : ℕ) (p : ℕ × ℕ) → IsPort f a i → web_with (cell.linked f a i (Some p)) ys ≡ linked (web_with f ys) a i (Some p)
linked_some f ys a i p l = commutes f ys a (cell.with_partner i (Some p)) (with_partner i (Some p)) (λ c e. some_cell (ys a) i p c (subst (λ (o : Option HeldCell). i < length (ports_of o)) e l))

cleared_web : (f : ℕ → Option HeldCell) (ys : ℕ → CellKind → List ℕ) (p : Option (ℕ × ℕ)) → web_with (cell.cleared f p) ys ≡ cleared (web_with f ys) p
cleared_web f ys None = refl
cleared_web f ys (Some p) = linked_none f ys p.0 p.1

-- two ports that are joined
pub joined_web : (f : ℕ → Option HeldCell) (ys : ℕ → CellKind → List ℕ) (a i b j : ℕ) → IsPort f a i → IsPort f b j → web_with (cell.joined f a i b j) ys ≡ joined (web_with f ys) a i b j
joined_web f ys a i b j pa pb =
    let p = partner_in f a i in let q = partner_in f b j in let one = cell.cleared f p in let two = cell.cleared one q in let three = cell.linked two a i (Some (b, j)) in
    linked_some three ys b j (a, i) (linked_ports two a i (Some (b, j)) b j (cleared_ports one q b j (cleared_ports f p b j pb)))
    ∙ ap (λ (w : ℕ → Option WebCell). linked w b j (Some (a, i))) (linked_some two ys a i (b, j) (cleared_ports one q a i (cleared_ports f p a i pa))
    ∙ ap (λ (w : ℕ → Option WebCell). linked w a i (Some (b, j))) (cleared_web one ys q ∙ ap (λ (w : ℕ → Option WebCell). cleared w q) (cleared_web f ys p)
    ∙ sym (λ t. cleared (cleared (web_with f ys) (partner_same f ys a i t)) (partner_same f ys b j t))))

-- a port that is split
pub parted_web : (f : ℕ → Option HeldCell) (ys : ℕ → CellKind → List ℕ) (a i : ℕ) → web_with (cell.parted f a i) ys ≡ parted (web_with f ys) a i
parted_web f ys a i =
    linked_none (cell.cleared f (partner_in f a i)) ys a i
    ∙ ap (λ (w : ℕ → Option WebCell). linked w a i None) (cleared_web f ys (partner_in f a i) ∙ sym (ap (cleared (web_with f ys)) (partner_same f ys a i)))

-- the mark that stands with a port is the one behind it
pub port_mark_web : (f : ℕ → Option HeldCell) (ys : ℕ → CellKind → List ℕ) (a i v : ℕ) → web_with (alter f a (option_map (with_port_mark i v))) ys ≡ alter (web_with f ys) a (option_map (with_mark (suc i) v))
port_mark_web f ys a i v = commutes f ys a (with_port_mark i v) (with_mark (suc i) v) (λ c e.
    let q : HeldPort = record (get_or c.ports i no_port) { mark = v } in
    parts (web_cell (ys a) c) _ _ _ _ (map-set_same partner_by c.ports i q no_port refl)
    (ap (λ ms. get_or c.numbers FIRST_MARK 0 ∷ ms) (map-set (λ (p : HeldPort). p.mark) c.ports i q)))

-- the first mark of a cell
pub own_mark_web : (f : ℕ → Option HeldCell) (ys : ℕ → CellKind → List ℕ) (a v : ℕ) → FIRST_MARK < length (numbers_of (f a)) → web_with (alter f a (option_map (with_number FIRST_MARK v))) ys ≡ alter (web_with f ys) a (option_map (with_mark 0 v))
own_mark_web f ys a v n = commutes f ys a (with_number FIRST_MARK v) (with_mark 0 v) (λ c e.
    let ns = c.numbers in let there : FIRST_MARK < length ns = subst (λ (o : Option HeldCell). FIRST_MARK < length (numbers_of o)) e n in
    let other : (k : ℕ) → k ≢ FIRST_MARK → get_or (set ns FIRST_MARK v) k 0 ≡ get_or ns k 0 = λ k d. get_or-set_other ns FIRST_MARK k v 0 d in
    let ms = map (λ (p : HeldPort). p.mark) c.ports in
    let new : get_or (set ns FIRST_MARK v) FIRST_MARK 0 ∷ ms ≡ v ∷ ms = ap (λ k. k ∷ ms) (get_or-set_same ns FIRST_MARK v 0 there) in
    λ t. record {
      label = label_by (other HIGH (λ z. absurd (omega (arith, z))) t) (other LOW (λ z. absurd (omega (arith, z))) t);
      kind = kind_by (other KIND (λ z. absurd (omega (arith, z))) t);
      partners = map partner_by c.ports;
      marks = new t;
      home = get_or c.links HOME None;
      atoms = ys a Atom;
      membranes = ys a Membrane;
    })

-- What holds of every web

-- a cell has its first mark among its numbers
mark_below : (n k : ℕ) → n ≡ numbers_by k → FIRST_MARK < n
mark_below n k e = by (k == 0) e
  where
    by : (t : Bool) → n ≡ (if t then 6 else 8) → FIRST_MARK < n
    by true e = omega (arith, e)
    by false e = omega (arith, e)

-- a cell of a web has it
pub mark_there : (f : ℕ → Option HeldCell) (made : ℕ) → IsWeb f made → (a : ℕ) → IsSome (f a) → FIRST_MARK < length (numbers_of (f a))
mark_there f made w a there = mark_below (length (numbers_of (f a))) (number_in f a KIND) (w.numbers a there)

-- what tells its kind by a number that is no atom's has all eight numbers
pub eight_by : (k : ℕ) → (kind_by k ≡ Atom → ⊥) → numbers_by k ≡ 8
eight_by k d = by (k == 0) (λ e. d (ap (λ (t : Bool). if t then Atom else Membrane) e))
  where
    by : (t : Bool) → (t ≡ true → ⊥) → ◌≡◌ {A = ℕ} (if t then 6 else 8) 8
    by true d = absurd (d refl)
    by false d = refl

-- what of a cell the web keeps account of
pub record Account : Type 0 where
  pub there : Bool
  pub index : ℕ
  pub arity : ℕ
  pub kind : ℕ
  pub numbers : ℕ
  pub ports : ℕ

-- the account of the cell at a number, or of none
abbrev pub account : Option HeldCell → Account
account o = record { there = is_some o; index = get_or (numbers_of o) INDEX 0; arity = get_or (numbers_of o) ARITY 0; kind = get_or (numbers_of o) KIND 0; numbers = length (numbers_of o); ports = length (ports_of o) }

-- that, and what its lists are read off
pub record Told : Type 0 where
  pub there : Bool
  pub index : ℕ
  pub arity : ℕ
  pub numbers : ℕ
  pub ports : ℕ
  pub high : ℕ
  pub low : ℕ
  pub listing : Listing

-- what is told of the cell at a number, or of none
abbrev pub told : Option HeldCell → Told
told o = record { there = is_some o; index = get_or (numbers_of o) INDEX 0; arity = get_or (numbers_of o) ARITY 0; numbers = length (numbers_of o); ports = length (ports_of o); high = get_or (numbers_of o) HIGH 0; low = get_or (numbers_of o) LOW 0; listing = listing o }

Tells : ℕ → (ℕ → Account) → Type 0
Tells made k = ((b : ℕ) → (k b).there ≡ true → (k b).index < made) × ((a b : ℕ) → (k a).there ≡ true → (k b).there ≡ true → (k a).index ≡ (k b).index → a ≡ b)
    × ((b : ℕ) → (k b).there ≡ true → (k b).arity ≡ (k b).ports) × ((b : ℕ) → (k b).ports < 256) × ((b : ℕ) → (k b).there ≡ true → (k b).numbers ≡ numbers_by (k b).kind)

-- a change that leaves the account of each cell, and all ports paired, leaves a web if the lists are right
pub kept_web : (f g : ℕ → Option HeldCell) (made : ℕ) → IsWeb f made → ((b : ℕ) → account (g b) ≡ account (f b)) → Reaches g → Paired g → IsListed g (list_in g) → IsWeb g made
unfolding Tells
kept_web f g made w same reaches paired listed =
    let e : ◌≡◌ {A = ℕ → Account} (λ b. account (f b)) (λ b. account (g b)) = λ t b. sym (same b) t in
    let k : Tells made (λ b. account (g b)) = subst (Tells made) e (w.indexed, w.single, w.arity, w.few, w.numbers) in
    record { indexed = k.0; single = k.1; arity = k.2; few = k.3; numbers = k.4; reaches = reaches; paired = paired; listed = listed }

-- one that leaves what is told of each cell leaves the lists too
pub same_web : (f g : ℕ → Option HeldCell) (made : ℕ) → IsWeb f made → ((b : ℕ) → told (g b) ≡ told (f b)) → Reaches g → Paired g → IsWeb g made
same_web f g made w same reaches paired =
    kept_web f g made w (λ b. ap (λ (k : Told). record { there = k.there; index = k.index; arity = k.arity; kind = k.listing.kind; numbers = k.numbers; ports = k.ports }) (same b)) reaches paired
    (listed_self g (list_in f) (lists_same f g (λ b. ap (λ (k : Told). k.listing) (same b)) (list_in f) w.listed))

-- and the web has the lists that it had
pub web_keeps : (f g : ℕ → Option HeldCell) (made : ℕ) → IsWeb f made → ((b : ℕ) → told (g b) ≡ told (f b)) → web_of g ≡ web_with g (list_in f)
web_keeps f g made w same = web_self g (list_in f) (lists_same f g (λ b. ap (λ (k : Told). k.listing) (same b)) (list_in f) w.listed)

told_partner : (i : ℕ) (p : Option (ℕ × ℕ)) (o : Option HeldCell) → told (option_map (cell.with_partner i p) o) ≡ told o
told_partner i p None = refl
told_partner i None (Some c) = λ t. record (told (Some c)) { ports = length-set c.ports i (record (get_or c.ports i no_port) { to = None }) t }
told_partner i (Some p) (Some c) = let one = set c.ports i (record (get_or c.ports i no_port) { to = Some p.0 }) in
    λ t. record (told (Some c)) { ports = (length-set one i (record (get_or one i no_port) { port = p.1 }) ∙ length-set c.ports i (record (get_or c.ports i no_port) { to = Some p.0 })) t }

told_linked : (f : ℕ → Option HeldCell) (a i : ℕ) (p : Option (ℕ × ℕ)) (b : ℕ) → told (cell.linked f a i p b) ≡ told (f b)
told_linked f a i p b = alter_keeps f a (option_map (cell.with_partner i p)) told (told_partner i p) b

told_cleared : (f : ℕ → Option HeldCell) (p : Option (ℕ × ℕ)) (b : ℕ) → told (cell.cleared f p b) ≡ told (f b)
told_cleared f None b = refl
told_cleared f (Some p) b = told_linked f p.0 p.1 None b

-- joining leaves what is told of each cell
pub told_joined : (f : ℕ → Option HeldCell) (a i b j c : ℕ) → told (cell.joined f a i b j c) ≡ told (f c)
told_joined f a i b j c =
    let one = cell.cleared f (partner_in f a i) in let two = cell.cleared one (partner_in f b j) in let three = cell.linked two a i (Some (b, j)) in
    told_linked three b j (Some (a, i)) c ∙ told_linked two a i (Some (b, j)) c ∙ told_cleared one (partner_in f b j) c ∙ told_cleared f (partner_in f a i) c

-- splitting too
pub told_parted : (f : ℕ → Option HeldCell) (a i c : ℕ) → told (cell.parted f a i c) ≡ told (f c)
told_parted f a i c = told_linked (cell.cleared f (partner_in f a i)) a i None c ∙ told_cleared f (partner_in f a i) c

-- ports with the partners that they had are paired
pub reaches_same : (f g : ℕ → Option HeldCell) → ((b i : ℕ) → partner_in g b i ≡ partner_in f b i) → ((b : ℕ) → length (ports_of (g b)) ≡ length (ports_of (f b))) → Reaches f → Reaches g
reaches_same f g same t r a i b j e = subst (λ n. j < n) (sym (t b)) (r a i b j (sym (same a i) ∙ e))

-- and nothing else
pub paired_same : (f g : ℕ → Option HeldCell) → ((b i : ℕ) → partner_in g b i ≡ partner_in f b i) → Paired f → Paired g
paired_same f g same p = record {
  back = λ a i b j e. same b j ∙ p.back a i b j (sym (same a i) ∙ e);
  apart = λ a i e. p.apart a i (sym (same a i) ∙ e);
}

-- a mark of a port
pub told_mark : (f : ℕ → Option HeldCell) (a i v b : ℕ) → told (alter f a (option_map (with_port_mark i v)) b) ≡ told (f b)
told_mark f a i v b = alter_keeps f a (option_map (with_port_mark i v)) told counts b
  where
    counts : (o : Option HeldCell) → told (option_map (with_port_mark i v) o) ≡ told o
    counts None = refl
    counts (Some c) = λ t. record (told (Some c)) { ports = length-set c.ports i (record (get_or c.ports i no_port) { mark = v }) t }

-- and a cell's own
pub told_own : (f : ℕ → Option HeldCell) (a v b : ℕ) → told (alter f a (option_map (with_number FIRST_MARK v)) b) ≡ told (f b)
told_own f a v b = alter_keeps f a (option_map (with_number FIRST_MARK v)) told counts b
  where
    counts : (o : Option HeldCell) → told (option_map (with_number FIRST_MARK v) o) ≡ told o
    counts None = refl
    counts (Some c) = λ t. record (told (Some c)) {
      index = get_or-set_other c.numbers FIRST_MARK INDEX v 0 (λ z. absurd (omega (arith, z))) t;
      arity = get_or-set_other c.numbers FIRST_MARK ARITY v 0 (λ z. absurd (omega (arith, z))) t;
      numbers = length-set c.numbers FIRST_MARK v t;
      high = get_or-set_other c.numbers FIRST_MARK HIGH v 0 (λ z. absurd (omega (arith, z))) t;
      low = get_or-set_other c.numbers FIRST_MARK LOW v 0 (λ z. absurd (omega (arith, z))) t;
      listing = record (listing (Some c)) {
        kind = get_or-set_other c.numbers FIRST_MARK KIND v 0 (λ z. absurd (omega (arith, z))) t;
        atoms = get_or-set_other c.numbers FIRST_MARK 6 v 0 (λ z. absurd (omega (arith, z))) t;
        membranes = get_or-set_other c.numbers FIRST_MARK 7 v 0 (λ z. absurd (omega (arith, z))) t;
      };
    }

-- a mark of a port leaves a web
pub port_mark_keeps : (f : ℕ → Option HeldCell) (made : ℕ) (a i v : ℕ) → IsWeb f made → IsWeb (alter f a (option_map (with_port_mark i v))) made
port_mark_keeps f made a i v w =
    let g = alter f a (option_map (with_port_mark i v)) in
    let s : (b k : ℕ) → partner_in g b k ≡ partner_in f b k = λ b k. alter_keeps f a (option_map (with_port_mark i v)) (λ o. partner_by (port_of o k)) (partners k) b in
    same_web f g made w (told_mark f a i v) (reaches_same f g s (λ b. ap (λ (k : Told). k.ports) (told_mark f a i v b)) w.reaches) (paired_same f g s w.paired)
  where
    partners : (k : ℕ) (o : Option HeldCell) → partner_by (port_of (option_map (with_port_mark i v) o) k) ≡ partner_by (port_of o k)
    partners k None = refl
    partners k (Some c) = let q : HeldPort = record (get_or c.ports i no_port) { mark = v } in
        sym (get_mapped (set c.ports i q) k) ∙ ap (λ ps. get_or ps k None) (map-set_same partner_by c.ports i q no_port refl) ∙ get_mapped c.ports k

-- and its lists
pub mark_keeps : (f g : ℕ → Option HeldCell) (made : ℕ) (a i v : ℕ) → IsWeb f made → g ≡ alter f a (option_map (with_port_mark i v)) → web_of g ≡ web_with (alter f a (option_map (with_port_mark i v))) (list_in f)
mark_keeps f g made a i v w e = ap web_of e ∙ web_keeps f (alter f a (option_map (with_port_mark i v))) made w (told_mark f a i v)

-- and so does its own mark
pub own_mark_keeps : (f : ℕ → Option HeldCell) (made : ℕ) (a v : ℕ) → IsWeb f made → IsWeb (alter f a (option_map (with_number FIRST_MARK v))) made
own_mark_keeps f made a v w =
    let g = alter f a (option_map (with_number FIRST_MARK v)) in
    let s : (b k : ℕ) → partner_in g b k ≡ partner_in f b k = λ b k. alter_keeps f a (option_map (with_number FIRST_MARK v)) (λ o. partner_by (port_of o k)) (partners k) b in
    same_web f g made w (told_own f a v) (reaches_same f g s (λ b. ap (λ (k : Told). k.ports) (told_own f a v b)) w.reaches) (paired_same f g s w.paired)
  where
    partners : (k : ℕ) (o : Option HeldCell) → partner_by (port_of (option_map (with_number FIRST_MARK v) o) k) ≡ partner_by (port_of o k)
    partners k None = refl
    partners k (Some c) = refl

-- with its lists
pub own_keeps : (f g : ℕ → Option HeldCell) (made : ℕ) (a v : ℕ) → IsWeb f made → g ≡ alter f a (option_map (with_number FIRST_MARK v)) → web_of g ≡ web_with (alter f a (option_map (with_number FIRST_MARK v))) (list_in f)
own_keeps f g made a v w e = ap web_of e ∙ web_keeps f (alter f a (option_map (with_number FIRST_MARK v))) made w (told_own f a v)

-- no cell, no index
pub empty_web : (f : ℕ → Option HeldCell) (made : ℕ) → f ≡ (λ _. None) → IsWeb f made
empty_web f made none = subst (λ (g : ℕ → Option HeldCell). IsWeb g made) (sym none) record {
  indexed = λ b t. absurd cc;
  single = λ a b t u e. absurd cc;
  arity = λ b t. absurd cc;
  few = λ b. omega arith;
  numbers = λ b t. absurd cc;
  reaches = λ a i b j e. absurd cc;
  paired = record { back = λ a i b j e. absurd cc; apart = λ a i e. absurd cc };
  listed = listed_self (λ _. None) (λ m k. []) record {
    line = λ m k t. absurd (t refl);
    count = λ m k. none_counted k;
    kinds = λ m x k i. absurd i;
    homes = λ m x e. absurd cc;
    bare = λ m k e. refl;
  };
}
  where
    none_counted : (k : CellKind) → number_in (λ _. None) 0 (count_number k) ≡ 0
    none_counted Atom = refl
    none_counted Membrane = refl

-- two cells are one where their indices are
pub same_test : (f : ℕ → Option HeldCell) (made : ℕ) → IsWeb f made → (a b : ℕ) → IsSome (f a) → IsSome (f b) → (number_in f a INDEX == number_in f b INDEX) ≡ (a == b)
same_test f made w a b ta tb = elim (cases_eq a b) [
  | inl e ↦ eq-eqb _ _ (ap (λ k. number_in f k INDEX) e) ∙ sym (eq-eqb a b e)
  | inr d ↦ not_equal _ _ (λ e. d (w.single a b ta tb e)) ∙ sym (not_equal a b d)
]

-- all ports of a web are paired
pub web_paired : (f : ℕ → Option HeldCell) (ys : ℕ → CellKind → List ℕ) → Reaches f → Paired f → IsPaired (web_with f ys)
web_paired f ys r p = record {
  reaches = λ a i b j e. subst (λ n. j < n) (sym (arity_same f ys b)) (r a i b j (sym (partner_same f ys a i) ∙ e));
  back = λ a i b j e. partner_same f ys b j ∙ p.back a i b j (sym (partner_same f ys a i) ∙ e);
  apart = λ a i e. p.apart a i (sym (partner_same f ys a i) ∙ e);
}

-- A new cell

-- two changes of one place are one
alter_twice : (f : ℕ → Option HeldCell) (a : ℕ) (g h : HeldCell → HeldCell) → alter (alter f a (option_map g)) a (option_map h) ≡ alter f a (option_map (λ c. h (g c)))
alter_twice f a g h = λ t b. at b t
  where
    both : (o : Option HeldCell) → option_map h (option_map g o) ≡ option_map (λ c. h (g c)) o
    both None = refl
    both (Some c) = refl

    at : (b : ℕ) → alter (alter f a (option_map g)) a (option_map h) b ≡ alter f a (option_map (λ c. h (g c))) b
    at b = elim (cases_eq b a) [
      | inl s ↦ ap (alter (alter f a (option_map g)) a (option_map h)) s ∙ alter_at (alter f a (option_map g)) a (option_map h) ∙ ap (option_map h) (alter_at f a (option_map g)) ∙ both (f a)
          ∙ sym (ap (alter f a (option_map (λ c. h (g c)))) s ∙ alter_at f a (option_map (λ c. h (g c))))
      | inr d ↦ alter_away (alter f a (option_map g)) a (option_map h) b d ∙ alter_away f a (option_map g) b d ∙ sym (alter_away f a (option_map (λ c. h (g c))) b d)
    ]

-- four changes of one cell
pub four_steps : (f one two three four : ℕ → Option HeldCell) (a : ℕ) (p q r s : HeldCell → HeldCell)
    → one ≡ alter f a (option_map p) → two ≡ alter one a (option_map q) → three ≡ alter two a (option_map r) → four ≡ alter three a (option_map s) → four ≡ alter f a (option_map (λ c. s (r (q (p c)))))
four_steps f one two three four a p q r s e1 e2 e3 e4 =
    e4 ∙ ap (λ (g : ℕ → Option HeldCell). alter g a (option_map s)) (e3 ∙ ap (λ (g : ℕ → Option HeldCell). alter g a (option_map r)) (e2 ∙ ap (λ (g : ℕ → Option HeldCell). alter g a (option_map q)) e1 ∙ alter_twice f a p q) ∙ alter_twice f a (λ c. q (p c)) r)
    ∙ alter_twice f a (λ c. r (q (p c))) s

-- a cell that changes stays there
pub stays_some : (f g : ℕ → Option HeldCell) (a : ℕ) (p : HeldCell → HeldCell) → g ≡ alter f a (option_map p) → IsSome (f a) → IsSome (g a)
stays_some f g a p e there = subst (λ (h : ℕ → Option HeldCell). IsSome (h a)) (sym e) (subst (λ (o : Option HeldCell). IsSome o) (sym (alter_at f a (option_map p))) (by (f a) there))
  where
    by : (o : Option HeldCell) → IsSome o → IsSome (option_map p o)
    by None t = absurd cc
    by (Some c) t = refl

-- a link leaves how many numbers a cell has
pub same_count : (f g : ℕ → Option HeldCell) (a k : ℕ) (v : Option ℕ) → g ≡ alter f a (option_map (with_link k v)) → length (numbers_of (g a)) ≡ length (numbers_of (f a))
same_count f g a k v e = ap (λ (h : ℕ → Option HeldCell). length (numbers_of (h a))) e ∙ ap (λ (o : Option HeldCell). length (numbers_of o)) (alter_at f a (option_map (with_link k v))) ∙ by (f a)
  where
    by : (o : Option HeldCell) → length (numbers_of (option_map (with_link k v) o)) ≡ length (numbers_of o)
    by None = refl
    by (Some c) = refl

-- a cell that is there stays there
pub still_some : (f g : ℕ → Option HeldCell) (a k n : ℕ) → g ≡ alter f a (option_map (with_number k n)) → IsSome (f a) → IsSome (g a)
still_some f g a k n e there = subst (λ (h : ℕ → Option HeldCell). IsSome (h a)) (sym e) (subst (λ (o : Option HeldCell). IsSome o) (sym (alter_at f a (option_map (with_number k n)))) (by (f a) there))
  where
    by : (o : Option HeldCell) → IsSome o → IsSome (option_map (with_number k n) o)
    by None t = absurd cc
    by (Some c) t = refl

none_there : (n k : ℕ) → partner_by (get_or (replicate n no_port) k no_port) ≡ None
none_there zero k = refl
none_there (suc n) zero = refl
none_there (suc n) (suc k) = none_there n k

mapped_none : (n : ℕ) → map partner_by (replicate n no_port) ≡ replicate n None
mapped_none zero = refl
mapped_none (suc n) = ap (λ ps. None ∷ ps) (mapped_none n)

mapped_marks : (n : ℕ) → map (λ (p : HeldPort). p.mark) (replicate n no_port) ≡ replicate n 0
mapped_marks zero = refl
mapped_marks (suc n) = ap (λ ms. 0 ∷ ms) (mapped_marks n)

mark_last : (n : ℕ) → ◌≡◌ {A = List ℕ} (0 ∷ replicate n 0) (replicate n 0 ++ 0 ∷ [])
mark_last zero = refl
mark_last (suc n) = ap (λ ms. 0 ∷ ms) (mark_last n)

-- a new cell stands for a new cell of the web
pub new_web : (lists : CellKind → List ℕ) (l n i k h low : ℕ) (kind : CellKind) → ((j : CellKind) → lists j ≡ []) → label_by h low ≡ l → kind_by k ≡ kind → web_cell lists (described n k h low (blank_by i k n)) ≡ new_cell l n kind
new_web lists l n i k h low kind none el ek =
    λ t. record { label = el t; kind = ek t; partners = mapped_none n t; marks = (ap (λ ms. 0 ∷ ms) (mapped_marks n) ∙ mark_last n) t; home = None; atoms = none Atom t; membranes = none Membrane t }

-- a cell that was made and described is one change
pub made_once : (f one g : ℕ → Option HeldCell) (a : ℕ) (c : HeldCell) (h : HeldCell → HeldCell) → one ≡ alter f a (λ _. Some c) → g ≡ alter one a (option_map h) → g ≡ alter f a (λ _. Some (h c))
made_once f one g a c h e1 e2 = e2 ∙ ap (λ (u : ℕ → Option HeldCell). alter u a (option_map h)) e1 ∙ (λ t b. at b t)
  where
    at : (b : ℕ) → alter (alter f a (λ _. Some c)) a (option_map h) b ≡ alter f a (λ _. Some (h c)) b
    at b = elim (cases_eq b a) [
      | inl s ↦ ap (alter (alter f a (λ _. Some c)) a (option_map h)) s ∙ alter_at (alter f a (λ _. Some c)) a (option_map h) ∙ ap (option_map h) (alter_at f a (λ _. Some c))
          ∙ sym (ap (alter f a (λ _. Some (h c))) s ∙ alter_at f a (λ _. Some (h c)))
      | inr d ↦ alter_away (alter f a (λ _. Some c)) a (option_map h) b d ∙ alter_away f a (λ _. Some c) b d ∙ sym (alter_away f a (λ _. Some (h c)) b d)
    ]

-- the web of a new cell and the others
pub made_is : (f : ℕ → Option HeldCell) (ys : ℕ → CellKind → List ℕ) (a : ℕ) (c : HeldCell) → web_with (alter f a (λ _. Some c)) ys ≡ alter (web_with f ys) a (λ _. Some (web_cell (ys a) c))
made_is f ys a c = λ t b. at b t
  where
    at : (b : ℕ) → web_with (alter f a (λ _. Some c)) ys b ≡ alter (web_with f ys) a (λ _. Some (web_cell (ys a) c)) b
    at b = elim (cases_eq b a) [
      | inl s ↦ ap (web_with (alter f a (λ _. Some c)) ys) s ∙ ap (option_map (web_cell (ys a))) (alter_at f a (λ _. Some c)) ∙ sym (ap (alter (web_with f ys) a (λ _. Some (web_cell (ys a) c))) s ∙ alter_at (web_with f ys) a (λ _. Some (web_cell (ys a) c)))
      | inr d ↦ ap (option_map (web_cell (ys b))) (alter_away f a (λ _. Some c) b d) ∙ sym (alter_away (web_with f ys) a (λ _. Some (web_cell (ys a) c)) b d)
    ]

-- the counts of a new cell are 0, or it has none
blank_tail : (t : Bool) (i : ℕ) → ◌≡◌ {A = ℕ} (get_or (if t then [] else 0 ∷ 0 ∷ []) i 0) 0
blank_tail true i = refl
blank_tail false zero = refl
blank_tail false (suc zero) = refl
blank_tail false (suc (suc i)) = refl

made_tail : (t : Bool) → suc (suc (suc (suc (suc (suc (length {A = ℕ} (if t then [] else 0 ∷ 0 ∷ []))))))) ≡ (if t then 6 else 8)
made_tail true = refl
made_tail false = refl

module _ (f : ℕ → Option HeldCell) (made : ℕ) (w : IsWeb f made) (a n k h low : ℕ) (fresh : f a ≡ None) (small : n < 256) (i : ℕ) (below : i < made) (new : IsNewIndex f i) where
  abbrev cell_made : HeldCell
  cell_made = described n k h low (blank_by i k n)

  abbrev g : ℕ → Option HeldCell
  g = alter f a (λ _. Some cell_made)

  here : g a ≡ Some cell_made
  here = alter_at f a (λ _. Some cell_made)

  away : (b : ℕ) → b ≢ a → g b ≡ f b
  away b d = alter_away f a (λ _. Some cell_made) b d

  -- P of what is at a and of what is elsewhere
  each : (P : ℕ → Option HeldCell → Type 0) → P a (Some cell_made) → ((b : ℕ) → b ≢ a → P b (f b)) → (b : ℕ) → P b (g b)
  each P at else_ b = elim (cases_eq b a) [
    | inl s ↦ subst (λ m. P m (g m)) (sym s) (subst (P a) (sym here) at)
    | inr d ↦ subst (P b) (sym (away b d)) (else_ b d)
  ]

  blank_link : (j : CellKind) → get_or cell_made.links (list_link j) None ≡ None
  blank_link Atom = refl
  blank_link Membrane = refl

  blank_end : (j : CellKind) → get_or cell_made.links (list_link j + 1) None ≡ None
  blank_end Atom = refl
  blank_end Membrane = refl

  blank_count : (j : CellKind) → get_or cell_made.numbers (count_number j) 0 ≡ 0
  blank_count Atom = blank_tail (k == 0) 0
  blank_count Membrane = blank_tail (k == 0) 1

  no_a : IsSome (f a) → ⊥
  no_a t = let h = subst (λ (o : Option HeldCell). IsSome o) fresh t in absurd cc

  partners_stay : (b j : ℕ) → partner_in g b j ≡ partner_in f b j
  partners_stay b j = each (λ m o. partner_by (port_of o j) ≡ partner_in f m j) (none_there n j ∙ sym (ap (λ (o : Option HeldCell). partner_by (port_of o j)) fresh)) (λ m d. refl) b

  -- nothing stands in the lists of a cell that isn't there
  pub no_list : (k : CellKind) → list_in f a k ≡ []
  no_list k = w.listed.bare a k (ap (λ (o : Option HeldCell). kind_by (get_or (numbers_of o) KIND 0)) fresh)

  -- the lists are as they were
  pub made_lists : IsListed g (list_in f)
  made_lists = listed_beside f g a (list_in f) w.listed away (λ m j i. no_a (cell_of f (list_in f) w.listed m a j i).0) no_list
      (λ j. (ap (λ (o : Option HeldCell). get_or (links_of o) (list_link j) None) here ∙ blank_link j, ap (λ (o : Option HeldCell). get_or (links_of o) (list_link j + 1) None) here ∙ blank_end j))
      (λ j. ap (λ (o : Option HeldCell). get_or (numbers_of o) (count_number j) 0) here ∙ blank_count j)
      (ap (λ (o : Option HeldCell). get_or (links_of o) HOME None) here)

  -- a new cell makes a web again
  pub made_web : IsWeb g made
  made_web = record {
    indexed = each (λ m o. IsSome o → get_or (numbers_of o) INDEX 0 < made) (λ t. below) (λ m d t. w.indexed m t);
    single = λ b c. each (λ m o. IsSome o → IsSome (g c) → get_or (numbers_of o) INDEX 0 ≡ number_in g c INDEX → m ≡ c)
        (λ _. each (λ m o. IsSome o → i ≡ get_or (numbers_of o) INDEX 0 → a ≡ m) (λ _ _. refl) (λ m d t e. absurd (new m t (sym e))) c)
        (λ q _ s. each (λ m o. IsSome o → number_in f q INDEX ≡ get_or (numbers_of o) INDEX 0 → q ≡ m) (λ _ e. absurd (new q s e)) (λ m d t e. w.single q m s t e) c) b;
    arity = each (λ m o. IsSome o → get_or (numbers_of o) ARITY 0 ≡ length (ports_of o)) (λ t. sym (length-replicate n no_port)) (λ m d. w.arity m);
    few = each (λ m o. length (ports_of o) < 256) (subst (λ c. c < 256) (sym (length-replicate n no_port)) small) (λ m d. w.few m);
    numbers = each (λ m o. IsSome o → length (numbers_of o) ≡ numbers_by (get_or (numbers_of o) KIND 0)) (λ t. made_tail (k == 0)) (λ m d. w.numbers m);
    reaches = λ c h b j e. let l : IsPort f b j = w.reaches c h b j (sym (partners_stay c h) ∙ e) in
        each (λ m o. (b ≡ m → j < length (ports_of o))) (λ s. absurd (let z : j < length (ports_of (f a)) = subst (λ m. j < length (ports_of (f m))) s l in
        let y : j < 0 = subst (λ (o : Option HeldCell). j < length (ports_of o)) fresh z in omega (arith, y)))
        (λ m d s. subst (λ q. j < length (ports_of (f q))) s l) b refl;
    paired = paired_same f g partners_stay w.paired;
    listed = listed_self g (list_in f) made_lists;
  }

  -- and the web has the new cell and all others
  pub made_with : web_of g ≡ web_with g (list_in f)
  made_with = web_self g (list_in f) made_lists
