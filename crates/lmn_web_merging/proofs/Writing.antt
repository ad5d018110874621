-- Marks and ports of atoms change, and atoms are freed: what is seen of that.
use Rattle.std.proofs.Common.{◌≡◌, ◌≢◌, ℕ, ◌==◌, Bool, true, false, cond, List, [], ◌∷◌, length, Option, Some, None, refl, sym, ap, subst, ◌∙◌, inl, inr, arith, length-set}
use Rattle.std.proofs.lemmas.Bool.{cases_eq}
use Rattle.std.specs.Prelude.{slice_index_or, slice_set}
use Rattle.std.specs.Option.{option_map}
use Rattle.lmn_store_heap.specs.Heap.{alter}
use Rattle.lmn_store_heap.proofs.Listing.{alter_at, alter_away, alter_keeps}
use Rattle.lmn_web.specs.declared.kind.CellKind.{CellKind}
use Rattle.lmn_web.specs.declared.kind.CellKind.TheVariants.{Atom, Membrane}
use Rattle.lmn_web.specs.Webs.{WebCell, web_kind, kind_at, home_of, home_at, partners_of, partner_at, marks_of, cells_of, cells_in, with_partner, with_mark, linked, cleared, joined, IsPaired}
use Rattle.lmn_web.proofs.ListedLemmas.{kind_cases}
use Rattle.lmn_web_merging.specs.Keepers.{led_from, keeper, port_mark, retires, is_retired, seen_partners, seen_marks, seen_cell, looked_at, seen, LENT}
use Rattle.lmn_web_merging.specs.Moves.{AreKept}
use Rattle.lmn_web_merging.proofs.Seen.{not_atom, atom_partners, atom_keeper, own_keeper, led_keeper, partner_kind}
use Rattle.lmn_web_merging.proofs.Relisting.{retired_by}

-- the keeper of a membrane is one
pub keeper_membrane : (w : ℕ → Option WebCell) → AreKept w → (m : ℕ) → kind_at w m ≡ Membrane → kind_at w (keeper w m) ≡ Membrane
keeper_membrane w a m e = by (partner_at w m 0) refl
  where
    by : (p : Option (ℕ × ℕ)) → partner_at w m 0 ≡ p → kind_at w (keeper w m) ≡ Membrane
    by None q = ap (kind_at w) (own_keeper w m q) ∙ e
    by (Some p) q = ap (kind_at w) (led_keeper w m p e q) ∙ (a.joined m 0 p.0 p.1 e q).2

-- A cell changes but for its kind, home and lists

-- what a change of a cell leaves
pub record Keeps (f : WebCell → WebCell) : Type 0 where
  pub kind : (o : Option WebCell) → web_kind (option_map f o) ≡ web_kind o
  pub home : (o : Option WebCell) → home_of (option_map f o) ≡ home_of o
  pub cells : (o : Option WebCell) (k : CellKind) → cells_of (option_map f o) k ≡ cells_of o k

pub keeps_mark : (i n : ℕ) → Keeps (with_mark i n)
keeps_mark i n = record { kind = kind; home = home; cells = cells }
  where
    kind : (o : Option WebCell) → web_kind (option_map (with_mark i n) o) ≡ web_kind o
    kind None = refl
    kind (Some c) = refl

    home : (o : Option WebCell) → home_of (option_map (with_mark i n) o) ≡ home_of o
    home None = refl
    home (Some c) = refl

    cells : (o : Option WebCell) (k : CellKind) → cells_of (option_map (with_mark i n) o) k ≡ cells_of o k
    cells None k = refl
    cells (Some c) Atom = refl
    cells (Some c) Membrane = refl

pub keeps_partner : (i : ℕ) (p : Option (ℕ × ℕ)) → Keeps (with_partner i p)
keeps_partner i p = record { kind = kind; home = home; cells = cells }
  where
    kind : (o : Option WebCell) → web_kind (option_map (with_partner i p) o) ≡ web_kind o
    kind None = refl
    kind (Some c) = refl

    home : (o : Option WebCell) → home_of (option_map (with_partner i p) o) ≡ home_of o
    home None = refl
    home (Some c) = refl

    cells : (o : Option WebCell) (k : CellKind) → cells_of (option_map (with_partner i p) o) k ≡ cells_of o k
    cells None k = refl
    cells (Some c) Atom = refl
    cells (Some c) Membrane = refl

-- One cell changes, and no keeper.
module _ (w : ℕ → Option WebCell) (c : ℕ) (f : WebCell → WebCell) (kp : Keeps f)
    (ports : kind_at w c ≡ Membrane → partners_of (option_map f (w c)) ≡ partners_of (w c))
    (marks : kind_at w c ≡ Membrane → length (marks_of (option_map f (w c))) ≡ length (marks_of (w c)))
    (told : kind_at w c ≡ Membrane → port_mark w c ≢ 0 → slice_index_or (marks_of (option_map f (w c))) 1 0 ≢ 0) where
  abbrev pub v : ℕ → Option WebCell
  v = alter w c (option_map f)

  pub kinds : (y : ℕ) → kind_at v y ≡ kind_at w y
  kinds y = alter_keeps w c (option_map f) web_kind kp.kind y

  homes : (y : ℕ) → home_at v y ≡ home_at w y
  homes y = alter_keeps w c (option_map f) home_of kp.home y

  lists : (y : ℕ) (k : CellKind) → cells_in v y k ≡ cells_in w y k
  lists y k = alter_keeps w c (option_map f) (λ (o : Option WebCell). cells_of o k) (λ o. kp.cells o k) y

  ports_same : (y : ℕ) → kind_at w y ≡ Membrane → partners_of (v y) ≡ partners_of (w y)
  ports_same y e = elim (cases_eq y c) [
    | inl q ↦ subst (λ z. partners_of (v z) ≡ partners_of (w z)) (sym q) (ap partners_of (alter_at w c (option_map f)) ∙ ports (ap (kind_at w) (sym q) ∙ e))
    | inr d ↦ ap partners_of (alter_away w c (option_map f) y d)
  ]

  keeper_at : (y : ℕ) → keeper v y ≡ keeper w y
  keeper_at y = elim (kind_cases (kind_at w y) Atom) [
    | inl e ↦ atom_keeper v y (kinds y ∙ e) ∙ sym (atom_keeper w y e)
    | inr d ↦ (λ i. led_from (kinds y i) y (slice_index_or (ports_same y (not_atom (kind_at w y) d) i) 0 None))
  ]

  pub keepers_stay : keeper v ≡ keeper w
  keepers_stay = λ i y. keeper_at y i

  pub seen_at : (y : ℕ) → seen v y ≡ looked_at (keeper w) (cells_in w (keeper w y) Atom) (cells_in w (keeper w y) Membrane) (v y)
  seen_at y = (λ i. looked_at (keepers_stay i) (cells_in v (keepers_stay i y) Atom) (cells_in v (keepers_stay i y) Membrane) (v y))
      ∙ (λ i. looked_at (keeper w) (lists (keeper w y) Atom i) (lists (keeper w y) Membrane i) (v y))

  -- one cell is seen otherwise
  pub seen_changed : (g : WebCell → WebCell) → ((es ms : List ℕ) → looked_at (keeper w) es ms (option_map f (w c)) ≡ option_map g (looked_at (keeper w) es ms (w c))) → seen v ≡ alter (seen w) c (option_map g)
  seen_changed g h = λ i y. point y i
    where
      point : (y : ℕ) → seen v y ≡ alter (seen w) c (option_map g) y
      point y = elim (cases_eq y c) [
        | inl e ↦ subst (λ z. seen v z ≡ alter (seen w) c (option_map g) z) (sym e)
            (seen_at c ∙ ap (looked_at (keeper w) (cells_in w (keeper w c) Atom) (cells_in w (keeper w c) Membrane)) (alter_at w c (option_map f))
            ∙ h (cells_in w (keeper w c) Atom) (cells_in w (keeper w c) Membrane) ∙ sym (alter_at (seen w) c (option_map g)))
        | inr d ↦ seen_at y ∙ ap (looked_at (keeper w) (cells_in w (keeper w y) Atom) (cells_in w (keeper w y) Membrane)) (alter_away w c (option_map f) y d) ∙ sym (alter_away (seen w) c (option_map g) y d)
      ]

  -- and keepers are kept, where what is there no more is so rightly
  pub changed_kept : AreKept w → ((y : ℕ) → is_retired (v y) ≡ true → (home_at w y ≡ None) × ((k : CellKind) → cells_in w (keeper w y) k ≡ []))
      → ((y : ℕ) → is_retired (v y) ≡ false → (is_retired (w y) ≡ false) × (kind_at w y ≡ Membrane → port_mark w y ≡ LENT → port_mark v y ≡ LENT)) → AreKept v
  changed_kept a idle there = record {
    joined = λ m i b j e q. let e0 = sym (kinds m) ∙ e in let z = a.joined m i b j e0 (ap (λ (ps : List (Option (ℕ × ℕ))). slice_index_or ps i None) (sym (ports_same m e0)) ∙ q) in (z.0, z.1, kinds b ∙ z.2);
    ports = λ m e. let e0 = sym (kinds m) ∙ e in ap (λ (ps : List (Option (ℕ × ℕ))). length ps) (ports_same m e0) ∙ a.ports m e0;
    marks = λ m e. let e0 = sym (kinds m) ∙ e in elim (cases_eq m c) [
      | inl q ↦ subst (λ z. length (marks_of (v z)) ≡ 2) (sym q) (ap (λ (o : Option WebCell). length (marks_of o)) (alter_at w c (option_map f)) ∙ marks (ap (kind_at w) (sym q) ∙ e0) ∙ a.marks c (ap (kind_at w) (sym q) ∙ e0))
      | inr d ↦ ap (λ (o : Option WebCell). length (marks_of o)) (alter_away w c (option_map f) m d) ∙ a.marks m e0
    ];
    told = λ m d e z. let e0 = sym (kinds m) ∙ e in let d0 : keeper w m ≢ m = λ q. d (keeper_at m ∙ q) in elim (cases_eq m c) [
      | inl q ↦ told (ap (kind_at w) (sym q) ∙ e0) (λ x. a.told m d0 e0 (ap (port_mark w) q ∙ x)) (ap (λ (o : Option WebCell). slice_index_or (marks_of o) 1 0) (sym (alter_at w c (option_map f))) ∙ ap (port_mark v) (sym q) ∙ z)
      | inr n ↦ a.told m d0 e0 (ap (λ (o : Option WebCell). slice_index_or (marks_of o) 1 0) (sym (alter_away w c (option_map f) m n)) ∙ z)
    ];
    lent = λ m d k t u. let u0 = ap (λ z. is_retired (v z)) (sym (keeper_at m)) ∙ u in let k0 = sym (kinds m) ∙ k in
        elim (a.lent m (λ q. d (keeper_at m ∙ q)) k0 (there m t).0 (there (keeper w m) u0).0) [
          | inl e ↦ inl ((there m t).1 k0 e)
          | inr e ↦ inr (ap (port_mark v) (keeper_at m) ∙ (there (keeper w m) u0).1 (keeper_membrane w a m k0) e)
        ];
    homeless = λ m t. homes m ∙ (idle m t).0;
    bare = λ m k t. ap (λ z. cells_in v z k) (keeper_at m) ∙ lists (keeper w m) k ∙ (idle m t).1 k;
    apart = λ m e. a.apart m (sym (homes m) ∙ e ∙ ap (λ z. Some z) (keeper_at m));
  }

  -- where as many are there no more
  pub same_kept : AreKept w → is_retired (option_map f (w c)) ≡ is_retired (w c) → (kind_at w c ≡ Membrane → port_mark w c ≡ LENT → slice_index_or (marks_of (option_map f (w c))) 1 0 ≡ LENT) → AreKept v
  same_kept a e lent = changed_kept a (λ y t. let u = sym (same y) ∙ t in (a.homeless y u, λ k. a.bare y k u)) (λ y t. (sym (same y) ∙ t, lent_same y))
    where
      same : (y : ℕ) → is_retired (v y) ≡ is_retired (w y)
      same y = elim (cases_eq y c) [
        | inl q ↦ subst (λ z. is_retired (v z) ≡ is_retired (w z)) (sym q) (ap is_retired (alter_at w c (option_map f)) ∙ e)
        | inr d ↦ ap is_retired (alter_away w c (option_map f) y d)
      ]

      lent_same : (y : ℕ) → kind_at w y ≡ Membrane → port_mark w y ≡ LENT → port_mark v y ≡ LENT
      lent_same y k z = elim (cases_eq y c) [
        | inl q ↦ ap (port_mark v) q ∙ ap (λ (o : Option WebCell). slice_index_or (marks_of o) 1 0) (alter_at w c (option_map f)) ∙ lent (ap (kind_at w) (sym q) ∙ k) (ap (port_mark w) (sym q) ∙ z)
        | inr d ↦ ap (λ (o : Option WebCell). slice_index_or (marks_of o) 1 0) (alter_away w c (option_map f) y d) ∙ z
      ]

-- Marks

-- a membrane isn't an atom
pub no_membrane : {X : Type 0} {k : CellKind} → k ≡ Atom → k ≡ Membrane → X
no_membrane e f = absurd (let z : Atom ≡ Membrane = sym e ∙ f in cc)

-- an atom with another mark
atom_mark : (keep : ℕ → ℕ) (es ms : List ℕ) (i n : ℕ) (o : Option WebCell) → web_kind o ≡ Atom → looked_at keep es ms (option_map (with_mark i n) o) ≡ option_map (with_mark i n) (looked_at keep es ms o)
atom_mark keep es ms i n None e = refl
atom_mark keep es ms i n (Some c) e = (λ j. cond (retires (e j) (slice_set c.marks i n)) None (Some (record (seen_cell keep es ms c) { marks = seen_marks (e j) (slice_set c.marks i n) })))
    ∙ (λ j. option_map (with_mark i n) (cond (retires (sym e j) c.marks) None (Some (record (seen_cell keep es ms c) { marks = seen_marks (sym e j) c.marks }))))

set_first : (es : List ℕ) (n : ℕ) → length es ≡ 2 → (seen_marks Membrane (slice_set es 0 n) ≡ slice_set (seen_marks Membrane es) 0 n) × (retires Membrane (slice_set es 0 n) ≡ retires Membrane es)
set_first [] n e = absurd (omega (arith, e))
set_first (x ∷ xs) n e = (by (slice_index_or xs 0 0 == 0), refl)
  where
    by : (b : Bool) → cond b (n ∷ []) (n ∷ xs) ≡ slice_set (cond b (x ∷ []) (x ∷ xs)) 0 n
    by true = refl
    by false = refl

-- a membrane with another first mark
membrane_mark : (keep : ℕ → ℕ) (es ms : List ℕ) (n : ℕ) (o : Option WebCell) → web_kind o ≡ Membrane → length (marks_of o) ≡ 2 → looked_at keep es ms (option_map (with_mark 0 n) o) ≡ option_map (with_mark 0 n) (looked_at keep es ms o)
membrane_mark keep es ms n None e l = refl
membrane_mark keep es ms n (Some c) e l =
    let s = set_first c.marks n l in
    (λ j. cond (retires (e j) (slice_set c.marks 0 n)) None (Some (record (seen_cell keep es ms c) { marks = seen_marks (e j) (slice_set c.marks 0 n) })))
    ∙ (λ j. cond (s.1 j) None (Some (record (seen_cell keep es ms c) { marks = s.0 j })))
    ∙ by (retires Membrane c.marks)
    ∙ (λ j. option_map (with_mark 0 n) (cond (retires (sym e j) c.marks) None (Some (record (seen_cell keep es ms c) { marks = seen_marks (sym e j) c.marks }))))
  where
    by : (b : Bool) → cond b None (Some (record (seen_cell keep es ms c) { marks = slice_set (seen_marks Membrane c.marks) 0 n })) ≡ option_map (with_mark 0 n) (cond b None (Some (record (seen_cell keep es ms c) { marks = seen_marks Membrane c.marks })))
    by true = refl
    by false = refl

mark_ports : (i n : ℕ) (o : Option WebCell) → partners_of (option_map (with_mark i n) o) ≡ partners_of o
mark_ports i n None = refl
mark_ports i n (Some c) = refl

mark_length : (i n : ℕ) (o : Option WebCell) → length (marks_of (option_map (with_mark i n) o)) ≡ length (marks_of o)
mark_length i n None = refl
mark_length i n (Some c) = length-set c.marks i n

module _ (w : ℕ → Option WebCell) (a : AreKept w) (c n : ℕ) where
  module _ (i : ℕ) (e : kind_at w c ≡ Atom) where
    atom_retired : is_retired (option_map (with_mark i n) (w c)) ≡ is_retired (w c)
    atom_retired = retired_by (option_map (with_mark i n) (w c)) ∙ ap (λ k. retires k (marks_of (option_map (with_mark i n) (w c)))) ((keeps_mark i n).kind (w c) ∙ e) ∙ sym (retired_by (w c) ∙ ap (λ k. retires k (marks_of (w c))) e)

    -- a mark of an atom
    pub atom_marked_kept : AreKept (alter w c (option_map (with_mark i n)))
    atom_marked_kept = same_kept w c (with_mark i n) (keeps_mark i n) (λ f. no_membrane e f) (λ f. no_membrane e f) (λ f. no_membrane e f) a atom_retired (λ f. no_membrane e f)

    pub seen_atom_marked : seen (alter w c (option_map (with_mark i n))) ≡ alter (seen w) c (option_map (with_mark i n))
    seen_atom_marked = seen_changed w c (with_mark i n) (keeps_mark i n) (λ f. no_membrane e f) (λ f. no_membrane e f) (λ f. no_membrane e f) (with_mark i n) (λ es ms. atom_mark (keeper w) es ms i n (w c) e)

  module _ (e : kind_at w c ≡ Membrane) where
    second_same : slice_index_or (marks_of (option_map (with_mark 0 n) (w c))) 1 0 ≡ port_mark w c
    second_same = by (w c)
      where
        behind : (xs : List ℕ) → slice_index_or (slice_set xs 0 n) 1 0 ≡ slice_index_or xs 1 0
        behind [] = refl
        behind (x ∷ xs) = refl

        by : (o : Option WebCell) → slice_index_or (marks_of (option_map (with_mark 0 n) o)) 1 0 ≡ slice_index_or (marks_of o) 1 0
        by None = refl
        by (Some q) = behind q.marks

    first_told : port_mark w c ≢ 0 → slice_index_or (marks_of (option_map (with_mark 0 n) (w c))) 1 0 ≢ 0
    first_told d z = d (sym second_same ∙ z)

    first_retired : is_retired (option_map (with_mark 0 n) (w c)) ≡ is_retired (w c)
    first_retired = by (w c) e (a.marks c e)
      where
        by : (o : Option WebCell) → web_kind o ≡ Membrane → length (marks_of o) ≡ 2 → is_retired (option_map (with_mark 0 n) o) ≡ is_retired o
        by None k l = refl
        by (Some q) k l = ap (λ j. retires j (slice_set q.marks 0 n)) k ∙ (set_first q.marks n l).1 ∙ ap (λ j. retires j q.marks) (sym k)

    -- the mark of a membrane
    pub membrane_marked_kept : AreKept (alter w c (option_map (with_mark 0 n)))
    membrane_marked_kept = same_kept w c (with_mark 0 n) (keeps_mark 0 n) (λ _. mark_ports 0 n (w c)) (λ _. mark_length 0 n (w c)) (λ _. first_told) a first_retired (λ _ z. second_same ∙ z)

    pub seen_membrane_marked : seen (alter w c (option_map (with_mark 0 n))) ≡ alter (seen w) c (option_map (with_mark 0 n))
    seen_membrane_marked = seen_changed w c (with_mark 0 n) (keeps_mark 0 n) (λ _. mark_ports 0 n (w c)) (λ _. mark_length 0 n (w c)) (λ _. first_told) (with_mark 0 n) (λ es ms. membrane_mark (keeper w) es ms n (w c) e (a.marks c e))

-- Ports of atoms

atom_partner : (keep : ℕ → ℕ) (es ms : List ℕ) (i : ℕ) (p : Option (ℕ × ℕ)) (o : Option WebCell) → web_kind o ≡ Atom → looked_at keep es ms (option_map (with_partner i p) o) ≡ option_map (with_partner i p) (looked_at keep es ms o)
atom_partner keep es ms i p None e = refl
atom_partner keep es ms i p (Some c) e = (λ j. cond (retires (e j) c.marks) None (Some (record (seen_cell keep es ms c) { partners = seen_partners (e j) (slice_set c.partners i p) })))
    ∙ (λ j. option_map (with_partner i p) (cond (retires (sym e j) c.marks) None (Some (record (seen_cell keep es ms c) { partners = seen_partners (sym e j) c.partners }))))

module _ (w : ℕ → Option WebCell) (c i : ℕ) (p : Option (ℕ × ℕ)) (e : kind_at w c ≡ Atom) where
  pub linked_kinds : (y : ℕ) → kind_at (linked w c i p) y ≡ kind_at w y
  linked_kinds y = kinds w c (with_partner i p) (keeps_partner i p) (λ f. no_membrane e f) (λ f. no_membrane e f) (λ f. no_membrane e f) y

  pub seen_linked : seen (linked w c i p) ≡ linked (seen w) c i p
  seen_linked = seen_changed w c (with_partner i p) (keeps_partner i p) (λ f. no_membrane e f) (λ f. no_membrane e f) (λ f. no_membrane e f) (with_partner i p) (λ es ms. atom_partner (keeper w) es ms i p (w c) e)

  pub linked_kept : AreKept w → AreKept (linked w c i p)
  linked_kept a = same_kept w c (with_partner i p) (keeps_partner i p) (λ f. no_membrane e f) (λ f. no_membrane e f) (λ f. no_membrane e f) a
      (retired_by (option_map (with_partner i p) (w c)) ∙ ap (λ k. retires k (marks_of (option_map (with_partner i p) (w c)))) ((keeps_partner i p).kind (w c) ∙ e) ∙ sym (retired_by (w c) ∙ ap (λ k. retires k (marks_of (w c))) e)) (λ f. no_membrane e f)

module _ (w : ℕ → Option WebCell) (p : Option (ℕ × ℕ)) (e : (q : ℕ × ℕ) → p ≡ Some q → kind_at w q.0 ≡ Atom) where
  cleared_kinds : (y : ℕ) → kind_at (cleared w p) y ≡ kind_at w y
  cleared_kinds y = by p e
    where
      by : (o : Option (ℕ × ℕ)) → ((q : ℕ × ℕ) → o ≡ Some q → kind_at w q.0 ≡ Atom) → kind_at (cleared w o) y ≡ kind_at w y
      by None h = refl
      by (Some q) h = linked_kinds w q.0 q.1 None (h q refl) y

  seen_cleared : seen (cleared w p) ≡ cleared (seen w) p
  seen_cleared = by p e
    where
      by : (o : Option (ℕ × ℕ)) → ((q : ℕ × ℕ) → o ≡ Some q → kind_at w q.0 ≡ Atom) → seen (cleared w o) ≡ cleared (seen w) o
      by None h = refl
      by (Some q) h = seen_linked w q.0 q.1 None (h q refl)

  cleared_kept : AreKept w → AreKept (cleared w p)
  cleared_kept a = by p e
    where
      by : (o : Option (ℕ × ℕ)) → ((q : ℕ × ℕ) → o ≡ Some q → kind_at w q.0 ≡ Atom) → AreKept (cleared w o)
      by None h = a
      by (Some q) h = linked_kept w q.0 q.1 None (h q refl) a

module _ (w : ℕ → Option WebCell) (r : IsPaired w) (a : AreKept w) (x i y j : ℕ) (ex : kind_at w x ≡ Atom) (ey : kind_at w y ≡ Atom) where
  from_x : (q : ℕ × ℕ) → partner_at w x i ≡ Some q → kind_at w q.0 ≡ Atom
  from_x q e = partner_kind w r a x i q.0 q.1 ex e

  from_y : (q : ℕ × ℕ) → partner_at w y j ≡ Some q → kind_at w q.0 ≡ Atom
  from_y q e = partner_kind w r a y j q.0 q.1 ey e

  abbrev w1 : ℕ → Option WebCell
  w1 = cleared w (partner_at w x i)

  abbrev w2 : ℕ → Option WebCell
  w2 = cleared w1 (partner_at w y j)

  abbrev w3 : ℕ → Option WebCell
  w3 = linked w2 x i (Some (y, j))

  k1 : (z : ℕ) → kind_at w1 z ≡ kind_at w z
  k1 z = cleared_kinds w (partner_at w x i) from_x z

  from_y1 : (q : ℕ × ℕ) → partner_at w y j ≡ Some q → kind_at w1 q.0 ≡ Atom
  from_y1 q e = k1 q.0 ∙ from_y q e

  k2 : (z : ℕ) → kind_at w2 z ≡ kind_at w z
  k2 z = cleared_kinds w1 (partner_at w y j) from_y1 z ∙ k1 z

  k3 : (z : ℕ) → kind_at w3 z ≡ kind_at w z
  k3 z = linked_kinds w2 x i (Some (y, j)) (k2 x ∙ ex) z ∙ k2 z

  under : (z k : ℕ) → kind_at w z ≡ Atom → partner_at (seen w) z k ≡ partner_at w z k
  under z k e = ap (λ (ps : List (Option (ℕ × ℕ))). slice_index_or ps k None) (atom_partners w z e)

  -- two ports of atoms are joined
  pub joined_kept : AreKept (joined w x i y j)
  joined_kept = linked_kept w3 y j (Some (x, i)) (k3 y ∙ ey) (linked_kept w2 x i (Some (y, j)) (k2 x ∙ ex) (cleared_kept w1 (partner_at w y j) from_y1 (cleared_kept w (partner_at w x i) from_x a)))

  pub seen_joined : seen (joined w x i y j) ≡ joined (seen w) x i y j
  seen_joined =
      seen_linked w3 y j (Some (x, i)) (k3 y ∙ ey)
      ∙ ap (λ (g : ℕ → Option WebCell). linked g y j (Some (x, i))) (seen_linked w2 x i (Some (y, j)) (k2 x ∙ ex)
      ∙ ap (λ (g : ℕ → Option WebCell). linked g x i (Some (y, j))) (seen_cleared w1 (partner_at w y j) from_y1 ∙ ap (λ (g : ℕ → Option WebCell). cleared g (partner_at w y j)) (seen_cleared w (partner_at w x i) from_x)))
      ∙ (λ t. linked (linked (cleared (cleared (seen w) (sym (under x i ex) t)) (sym (under y j ey) t)) x i (Some (y, j))) y j (Some (x, i)))
