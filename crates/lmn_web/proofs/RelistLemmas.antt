-- A cell comes into a list, or leaves one.
use Rattle.std.proofs.Common.{◌≡◌, ◌≢◌, ℕ, ◌+◌, ◌-◌, ◌<◌, ◌≤◌, ◌==◌, Bool, true, false, List, [], ◌∷◌, ◌++◌, length, map, get_or, set, Option, Some, None, IsSome, is_some, if◌then◌else◌, refl, sym, ap, subst, ◌∙◌, inl, inr, arith, length-set, get_or-set_same, get_or-set_other}
use Rattle.std.proofs.lemmas.Bool.{cases_eq, eq-eqb}
use Rattle.std.proofs.lemmas.List.{length-map, length-append}
use Rattle.std.specs.Option.{option_map}
use Rattle.lmn_base.specs.Lists.{In}
use Rattle.lmn_base.proofs.Lists.{in_either}
use Rattle.lmn_store_heap.specs.Heap.{alter}
use Rattle.lmn_store_heap.specs.Lists.{Distinct, from, without}
use Rattle.lmn_store_heap.proofs.ListLemmas.{each_in, each_of, in_left, in_right, in_without, short}
use Rattle.lmn_store_heap.proofs.Listing.{alter_at, alter_away, in_without_of}
use Rattle.lmn_web_cells.specs.Rows.{Row}
use Rattle.lmn_web_cells.specs.Cells.{HeldPort, HeldCell, cells_by, links_of, numbers_of, ports_of, port_of, with_link, with_number}
use Rattle.lmn_web_cells.specs.Ports.{partner_by, partner_in}
use Rattle.lmn_web_cells.specs.Runs.{link_in, Line, Apart, with_next, with_prev, unlinked, appended, put_before, inserted}
use Rattle.lmn_web_cells.specs.Links.{HOME, NEXT, PREV}
use Rattle.lmn_web_cells.proofs.LineLemmas.{keeps, link_other, next_away, prev_away, home_low}
use Rattle.lmn_web_cells.proofs.InsertLemmas.{in_put, in_put_old, in_put_new, length_put}
use Rattle.lmn_web.specs.declared.kind.CellKind.{CellKind}
use Rattle.lmn_web.specs.declared.kind.CellKind.TheVariants.{Atom, Membrane}
use Rattle.lmn_web.specs.Kinds.{kind_by}
use Rattle.lmn_web.specs.Webs as web
use Rattle.lmn_web.specs.Webs.{WebCell, web_cell, web_with, web_of, web_by, kind_at, cells_in, list_in, number_in, count_number, list_link, label_by, with_home, with_list, relisted, added_last, added_before}
use Rattle.lmn_web_cells.specs.Numbers.{INDEX, ARITY, KIND, HIGH, LOW, FIRST_MARK}
use Rattle.lmn_web.specs.Classes.{AllButLinks, all_but_links}
use Rattle.lmn_web.specs.Indexes.{cell_kind, IsListed, IsWeb}
use Rattle.lmn_web.proofs.ListedLemmas.{kind_cases, link_behind, links_apart, count_behind, counts_apart, count_below, line_same, listed_self, web_self, home_same, kind_same, list_same, own_line, cell_of, no_atom_by, from_in, front_is}
use Rattle.lmn_web.proofs.WebLemmas.{some_back, Account, account, eight_by, kept_web, reaches_same, paired_same}
use Rattle.lmn_base.proofs.Common.{of_map as in_map}

-- What of a cell no list changes

pub record Core : Type 0 where
  pub index : ℕ
  pub arity : ℕ
  pub kind : ℕ
  pub high : ℕ
  pub low : ℕ
  pub own : ℕ
  pub numbers : ℕ
  pub ports : List HeldPort

-- the core of a cell
abbrev pub core : HeldCell → Core
core c = record { index = get_or c.numbers INDEX 0; arity = get_or c.numbers ARITY 0; kind = get_or c.numbers KIND 0; high = get_or c.numbers HIGH 0; low = get_or c.numbers LOW 0; own = get_or c.numbers FIRST_MARK 0; numbers = length c.numbers; ports = c.ports }

-- the core of a cell, or none
abbrev pub core_of : Option HeldCell → Option Core
core_of o = option_map core o

-- a cell of the web by its core, its home and its lists
abbrev cell_by : Core → Option ℕ → (CellKind → List ℕ) → WebCell
cell_by q h lists = record { label = label_by q.high q.low; kind = kind_by q.kind; partners = map partner_by q.ports; marks = q.own ∷ map (λ (p : HeldPort). p.mark) q.ports; home = h; atoms = lists Atom; membranes = lists Membrane }

core_there : (o : Option HeldCell) → is_some o ≡ is_some (core_of o)
core_there None = refl
core_there (Some c) = refl

abbrev kind_by_core : Option Core → CellKind
kind_by_core None = kind_by 0
kind_by_core (Some q) = kind_by q.kind

kind_core : (o : Option HeldCell) → kind_by (get_or (numbers_of o) KIND 0) ≡ kind_by_core (core_of o)
kind_core None = refl
kind_core (Some c) = refl

abbrev account_by : Option Core → Account
account_by None = record { there = is_some (core_of None); index = 0; arity = 0; kind = 0; numbers = 0; ports = 0 }
account_by (Some q) = record { there = is_some (Some q); index = q.index; arity = q.arity; kind = q.kind; numbers = q.numbers; ports = length q.ports }

account_core : (o : Option HeldCell) → account o ≡ account_by (core_of o)
account_core None = refl
account_core (Some c) = refl

abbrev ports_by_core : Option Core → List HeldPort
ports_by_core None = []
ports_by_core (Some q) = q.ports

ports_core : (o : Option HeldCell) → ports_of o ≡ ports_by_core (core_of o)
ports_core None = refl
ports_core (Some c) = refl

web_core : (o : Option HeldCell) (lists : CellKind → List ℕ) → option_map (web_cell lists) o ≡ option_map (λ q. cell_by q (get_or (links_of o) HOME None) lists) (core_of o)
web_core None lists = refl
web_core (Some c) lists = refl

home_core : (o : Option HeldCell) (h : Option ℕ) (lists : CellKind → List ℕ) → option_map (λ q. cell_by q h lists) (core_of o) ≡ option_map (with_home h) (option_map (web_cell lists) o)
home_core None h lists = refl
home_core (Some c) h lists = refl

-- the lists of a membrane, one of which is another
abbrev pub put_list : CellKind → List ℕ → (CellKind → List ℕ) → CellKind → List ℕ
put_list Atom xs old Atom = xs
put_list Atom xs old Membrane = old Membrane
put_list Membrane xs old Atom = old Atom
put_list Membrane xs old Membrane = xs

put_same : (k : CellKind) (xs : List ℕ) (old : CellKind → List ℕ) → put_list k xs old k ≡ xs
put_same Atom xs old = refl
put_same Membrane xs old = refl

put_other : (k : CellKind) (xs : List ℕ) (old : CellKind → List ℕ) (j : CellKind) → (j ≡ k → ⊥) → put_list k xs old j ≡ old j
put_other Atom xs old Atom d = absurd (d refl)
put_other Atom xs old Membrane d = refl
put_other Membrane xs old Atom d = refl
put_other Membrane xs old Membrane d = absurd (d refl)

list_core : (o : Option HeldCell) (k : CellKind) (xs : List ℕ) (lists : CellKind → List ℕ)
    → option_map (λ q. cell_by q (get_or (links_of o) HOME None) (put_list k xs lists)) (core_of o) ≡ option_map (with_list k xs) (option_map (web_cell lists) o)
list_core None k xs lists = refl
list_core (Some c) Atom xs lists = refl
list_core (Some c) Membrane xs lists = refl

-- g is f where x has another home, and the list of m for its kind is xs
pub record Relists (f g : ℕ → Option HeldCell) (ys : ℕ → CellKind → List ℕ) (m x : ℕ) (h : Option ℕ) (xs : List ℕ) : Type 0 where
  pub cores : (b : ℕ) → core_of (g b) ≡ core_of (f b)
  pub differ : x ≢ m
  pub membrane : cell_kind f m ≡ Atom → ⊥
  pub home_at : link_in g x HOME ≡ h
  pub home_away : (b : ℕ) → b ≢ x → link_in g b HOME ≡ link_in f b HOME
  pub count_at : number_in g m (count_number (cell_kind f x)) ≡ length xs
  pub count_away : (n : ℕ) (j : CellKind) → (n ≡ m → j ≡ cell_kind f x → ⊥) → number_in g n (count_number j) ≡ number_in f n (count_number j)
  pub line : Line g m (list_link (cell_kind f x)) xs
  pub others : (n : ℕ) (j : CellKind) → (cell_kind f n ≡ Atom → ⊥) → (n ≡ m → j ≡ cell_kind f x → ⊥) → Line g n (list_link j) (ys n j)
  pub was : (z : ℕ) → In z xs → z ≢ x → In z (ys m (cell_kind f x))
  pub stays : (z : ℕ) → In z (ys m (cell_kind f x)) → z ≢ x → In z xs
  pub comes : (n : ℕ) → h ≡ Some n → (n ≡ m) × In x xs

module _ (f g : ℕ → Option HeldCell) (ys : ℕ → CellKind → List ℕ) (l : IsListed f ys) (m x : ℕ) (h : Option ℕ) (xs : List ℕ) (r : Relists f g ys m x h xs) where
  abbrev k : CellKind
  k = cell_kind f x

  -- the lists then
  abbrev pub new : ℕ → CellKind → List ℕ
  new = alter ys m (put_list k xs)

  new_away : (n : ℕ) → n ≢ m → new n ≡ ys n
  new_away n d = alter_away ys m (put_list k xs) n d

  -- P of the list that changes and of all others
  pub each : (P : ℕ → CellKind → List ℕ → Type 0) → P m k xs → ((n : ℕ) (j : CellKind) → (n ≡ m → j ≡ k → ⊥) → P n j (ys n j)) → (n : ℕ) (j : CellKind) → P n j (new n j)
  each P at away n j = elim (cases_eq n m) [
    | inl e ↦ subst (λ z. P z j (new z j)) (sym e) (subst (λ (u : CellKind → List ℕ). P m j (u j)) (sym (alter_at ys m (put_list k xs))) (elim (kind_cases j k) [
      | inl s ↦ subst (λ i. P m i (put_list k xs (ys m) i)) (sym s) (subst (P m k) (sym (put_same k xs (ys m))) at)
      | inr d ↦ subst (P m j) (sym (put_other k xs (ys m) j d)) (away m j (λ _. d))
    ]))
    | inr d ↦ subst (λ (u : CellKind → List ℕ). P n j (u j)) (sym (new_away n d)) (away n j (λ e _. d e))
  ]

  -- a cell keeps its kind
  pub kind_is : (b : ℕ) → cell_kind g b ≡ cell_kind f b
  kind_is b = kind_core (g b) ∙ ap kind_by_core (r.cores b) ∙ sym (kind_core (f b))

  there_is : (b : ℕ) → is_some (g b) ≡ is_some (f b)
  there_is b = core_there (g b) ∙ ap (λ (o : Option Core). is_some o) (r.cores b) ∙ sym (core_there (f b))

  -- what is there stays there
  pub there : (b : ℕ) → IsSome (f b) → IsSome (g b)
  there b t = there_is b ∙ t

  -- so is the membrane
  pub m_there : IsSome (f m)
  m_there = by (f m) refl
    where
      by : (o : Option HeldCell) → f m ≡ o → IsSome (f m)
      by None e = absurd (r.membrane (ap (λ (o : Option HeldCell). kind_by (get_or (numbers_of o) KIND 0)) e))
      by (Some c) e = subst (λ (o : Option HeldCell). IsSome o) (sym e) refl

  -- they are lists of the cells
  pub new_lists : IsListed g new
  new_lists = record {
    line = each (λ n j us. (cell_kind g n ≡ Atom → ⊥) → Line g n (list_link j) us) (λ _. r.line) (λ n j d t. r.others n j (λ e. t (kind_is n ∙ e)) d);
    count = each (λ n j us. number_in g n (count_number j) ≡ length us) r.count_at (λ n j d. r.count_away n j d ∙ l.count n j);
    kinds = λ n z j. each (λ n j us. In z us → cell_kind g z ≡ j) (λ i. elim (cases_eq z x) [
      | inl e ↦ ap (cell_kind g) e ∙ kind_is x
      | inr d ↦ kind_is z ∙ l.kinds m z k (r.was z i d)
    ]) (λ n j d i. kind_is z ∙ l.kinds n z j i) n j;
    homes = λ n z e. elim (cases_eq z x) [
      | inl s ↦ (let c = r.comes n (sym r.home_at ∙ ap (λ u. link_in g u HOME) (sym s) ∙ e) in (
        subst (λ u. IsSome (g u)) (sym c.0) (there m m_there),
        subst (λ u. In u (new n (cell_kind g u))) (sym s) (subst (λ u. In x (new u (cell_kind g x))) (sym c.0) (subst (λ j. In x (new m j)) (sym (kind_is x)) (each (λ n j us. n ≡ m → j ≡ k → In x us) (λ _ _. c.1) (λ n j d a b. absurd (d a b)) m k refl refl))),
      ))
      | inr d ↦ (let c = l.homes n z (sym (r.home_away z d) ∙ e) in (
        there n c.0,
        subst (λ j. In z (new n j)) (sym (kind_is z)) (each (λ n j us. In z (ys n j) → In z us) (λ i. r.stays z i d) (λ n j _ i. i) n (cell_kind f z) c.1),
      ))
    ];
    bare = each (λ n j us. cell_kind g n ≡ Atom → us ≡ []) (λ e. absurd (r.membrane (sym (kind_is m) ∙ e))) (λ n j d e. l.bare n j (sym (kind_is n) ∙ e));
  }

  new_web : web_with g new ≡ relisted (web_with f ys) m x h xs
  new_web = λ t b. at b t
    where
      at : (b : ℕ) → web_with g new b ≡ relisted (web_with f ys) m x h xs b
      at b =
          let w = web_with f ys in let one = alter w x (option_map (with_home h)) in let kw = kind_at w x in
          let left : web_with g new b ≡ option_map (λ q. cell_by q (link_in g b HOME) (new b)) (core_of (f b)) =
          web_core (g b) (new b) ∙ ap (option_map (λ q. cell_by q (link_in g b HOME) (new b))) (r.cores b) in
          left ∙ elim (cases_eq b m) [
            | inl e ↦ subst (λ z. option_map (λ q. cell_by q (link_in g z HOME) (new z)) (core_of (f z)) ≡ alter one m (option_map (with_list kw xs)) z) (sym e)
                ((λ t. option_map (λ q. cell_by q (r.home_away m (λ s. r.differ (sym s)) t) (alter_at ys m (put_list k xs) t)) (core_of (f m)))
                ∙ list_core (f m) k xs (ys m) ∙ (λ t. option_map (with_list (sym (kind_same f ys x) t) xs) (w m))
                ∙ sym (alter_at one m (option_map (with_list kw xs)) ∙ ap (option_map (with_list kw xs)) (alter_away w x (option_map (with_home h)) m (λ s. r.differ (sym s)))))
            | inr d ↦ (λ t. option_map (λ q. cell_by q (link_in g b HOME) (new_away b d t)) (core_of (f b))) ∙ elim (cases_eq b x) [
              | inl e ↦ subst (λ z. option_map (λ q. cell_by q (link_in g z HOME) (ys z)) (core_of (f z)) ≡ alter one m (option_map (with_list kw xs)) z) (sym e)
                  ((λ t. option_map (λ q. cell_by q (r.home_at t) (ys x)) (core_of (f x))) ∙ home_core (f x) h (ys x)
                  ∙ sym (alter_away one m (option_map (with_list kw xs)) x r.differ ∙ alter_at w x (option_map (with_home h))))
              | inr n ↦ (λ t. option_map (λ q. cell_by q (r.home_away b n t) (ys b)) (core_of (f b))) ∙ sym (web_core (f b) (ys b))
                  ∙ sym (alter_away one m (option_map (with_list kw xs)) b d ∙ alter_away w x (option_map (with_home h)) b n)
            ]
          ]

-- what such a change leaves is a web
pub relists_web : (f g : ℕ → Option HeldCell) (made : ℕ) (w : IsWeb f made) (m x : ℕ) (h : Option ℕ) (xs : List ℕ) → Relists f g (list_in f) m x h xs → IsWeb g made
relists_web f g made w m x h xs r =
    let ports : (b : ℕ) → ports_of (g b) ≡ ports_of (f b) = λ b. ports_core (g b) ∙ ap ports_by_core (r.cores b) ∙ sym (ports_core (f b)) in
    let partners : (b i : ℕ) → partner_in g b i ≡ partner_in f b i = λ b i. partner_ports (g b) (f b) i (ports b) in
    kept_web f g made w (λ b. account_core (g b) ∙ ap account_by (r.cores b) ∙ sym (account_core (f b))) (reaches_same f g partners (λ b. ap (λ (ps : List HeldPort). length ps) (ports b)) w.reaches) (paired_same f g partners w.paired)
    (listed_self g _ (new_lists f g (list_in f) w.listed m x h xs r))
  where
    partner_ports : (o p : Option HeldCell) (i : ℕ) → ports_of o ≡ ports_of p → partner_by (port_of o i) ≡ partner_by (port_of p i)
    partner_ports o p i e = ap (λ (ps : List HeldPort). partner_by (get_or ps i record { to = None; port = 0; mark = 0 })) e

-- and that web is the other with this list
pub relists_is : (f g : ℕ → Option HeldCell) (made : ℕ) (w : IsWeb f made) (m x : ℕ) (h : Option ℕ) (xs : List ℕ) → Relists f g (list_in f) m x h xs → web_of g ≡ relisted (web_of f) m x h xs
relists_is f g made w m x h xs r = web_self g _ (new_lists f g (list_in f) w.listed m x h xs r) ∙ new_web f g (list_in f) w.listed m x h xs r

-- Two lists of a web

-- have no end and no cell in common
pub apart_lists : (f : ℕ → Option HeldCell) (ys : ℕ → CellKind → List ℕ) → IsListed f ys → (m n : ℕ) (k j : CellKind) → (n ≡ m → j ≡ k → ⊥) → Apart m (list_link k) (ys m k) n (list_link j) (ys n j)
apart_lists f ys l m n k j d = record {
  behind = link_behind j;
  ends = λ e. links_apart j k (d e);
  cells = λ z i o. let a = cell_of f ys l n z j i in let b = cell_of f ys l m z k o in let e : Some n ≡ Some m = sym a.2 ∙ b.2 in let q : n ≡ m = cc in d q (sym (l.kinds n z j i) ∙ l.kinds m z k o);
}

-- what has no home is in no list
pub in_none : (f : ℕ → Option HeldCell) (ys : ℕ → CellKind → List ℕ) → IsListed f ys → (x : ℕ) → link_in f x HOME ≡ None → (m : ℕ) (k : CellKind) → In x (ys m k) → ⊥
in_none f ys l x e m k i = let c = cell_of f ys l m x k i in let z : Some m ≡ None = sym c.2 ∙ e in absurd cc

-- and with such a cell before the one they are apart too
pub apart_more : (f : ℕ → Option HeldCell) (ys : ℕ → CellKind → List ℕ) → IsListed f ys → (x : ℕ) → link_in f x HOME ≡ None → (m n : ℕ) (k j : CellKind) → (n ≡ m → j ≡ k → ⊥) → Apart m (list_link k) (x ∷ ys m k) n (list_link j) (ys n j)
apart_more f ys l x e m n k j d = let a = apart_lists f ys l m n k j d in record {
  behind = a.behind;
  ends = a.ends;
  cells = λ z i o. elim o [ inl s ↦ in_none f ys l x e n j (subst (λ u. In u (ys n j)) (sym s) i) | inr p ↦ a.cells z i p ];
}

-- A list has no more cells than were made

pub distinct_map : (idx : ℕ → ℕ) (xs : List ℕ) → Distinct xs → ((a b : ℕ) → In a xs → In b xs → idx a ≡ idx b → a ≡ b) → Distinct (map idx xs)
distinct_map idx [] d one = tt
distinct_map idx (x ∷ xs) d one = (
  each_of _ (map idx xs) (λ y i e. let r = in_map idx y xs i in each_in (λ u. x ≢ u) xs r.0 d.0 r.1 (one x r.0 (inl refl) (inr r.1) (e ∙ sym r.2))),
  distinct_map idx xs d.1 (λ a b i j. one a b (inr i) (inr j)),
)

-- cells that are there, each once, are no more than were made
pub no_more : (f : ℕ → Option HeldCell) (made : ℕ) → IsWeb f made → (xs : List ℕ) → Distinct xs → ((z : ℕ) → In z xs → IsSome (f z)) → length xs ≤ made
no_more f made w xs d there =
    let idx : ℕ → ℕ = λ z. number_in f z INDEX in
    subst (λ n. n ≤ made) (length-map xs idx) (short made (map idx xs)
    (distinct_map idx xs d (λ a b i j e. w.single a b (there a i) (there b j) e))
    (each_of _ (map idx xs) (λ y i. let r = in_map idx y xs i in subst (λ n. n < made) r.2 (w.indexed r.0 (there r.0 r.1)))))

-- The steps in the cells

pub rest_link : (f : ℕ → Option HeldCell) (a j : ℕ) (v : Option ℕ) (b : ℕ) → all_but_links (alter f a (option_map (with_link j v)) b) ≡ all_but_links (f b)
rest_link f a j v b = keeps all_but_links f a (with_link j v) by b
  where
    by : (o : Option HeldCell) → all_but_links (option_map (with_link j v) o) ≡ all_but_links o
    by None = refl
    by (Some c) = refl

rest_next : (f : ℕ → Option HeldCell) (m e : ℕ) (p n : Option ℕ) (b : ℕ) → all_but_links (with_next f m e p n b) ≡ all_but_links (f b)
rest_next f m e None n b = rest_link f m e n b
rest_next f m e (Some q) n b = rest_link f q NEXT n b

rest_prev : (f : ℕ → Option HeldCell) (m e : ℕ) (n p : Option ℕ) (b : ℕ) → all_but_links (with_prev f m e n p b) ≡ all_but_links (f b)
rest_prev f m e None p b = rest_link f m (e + 1) p b
rest_prev f m e (Some q) p b = rest_link f q PREV p b

-- what the three steps leave

rest_appended : (f : ℕ → Option HeldCell) (m e x b : ℕ) → all_but_links (appended f m e x b) ≡ all_but_links (f b)
rest_appended f m e x b =
    let p = link_in f m (e + 1) in let a1 = alter f x (option_map (with_link HOME (Some m))) in let a2 = alter a1 x (option_map (with_link PREV p)) in let a3 = alter a2 x (option_map (with_link NEXT None)) in
    rest_link (with_next a3 m e p (Some x)) m (e + 1) (Some x) b ∙ rest_next a3 m e p (Some x) b ∙ rest_link a2 x NEXT None b ∙ rest_link a1 x PREV p b ∙ rest_link f x HOME (Some m) b

rest_inserted : (f : ℕ → Option HeldCell) (m e a x b : ℕ) → all_but_links (inserted f m e a x b) ≡ all_but_links (f b)
rest_inserted f m e a x b =
    let p = link_in f a PREV in let a1 = alter f x (option_map (with_link HOME (Some m))) in let a2 = alter a1 x (option_map (with_link PREV p)) in let a3 = alter a2 x (option_map (with_link NEXT (Some a))) in
    rest_link (with_next a3 m e p (Some x)) a PREV (Some x) b ∙ rest_next a3 m e p (Some x) b ∙ rest_link a2 x NEXT (Some a) b ∙ rest_link a1 x PREV p b ∙ rest_link f x HOME (Some m) b

rest_unlinked : (f : ℕ → Option HeldCell) (m e x b : ℕ) → all_but_links (unlinked f m e x b) ≡ all_but_links (f b)
rest_unlinked f m e x b =
    let p = link_in f x PREV in let n = link_in f x NEXT in let f1 = with_next f m e p n in
    rest_link (with_prev f1 m e n p) x HOME None b ∙ rest_prev f1 m e n p b ∙ rest_next f m e p n b

home_appended : (f : ℕ → Option HeldCell) (m e x : ℕ) → PREV < e → (b : ℕ) → b ≢ x → link_in (appended f m e x) b HOME ≡ link_in f b HOME
home_appended f m e x low b d =
    let p = link_in f m (e + 1) in let a1 = alter f x (option_map (with_link HOME (Some m))) in let a2 = alter a1 x (option_map (with_link PREV p)) in let a3 = alter a2 x (option_map (with_link NEXT None)) in
    link_other (with_next a3 m e p (Some x)) m (e + 1) (Some x) b HOME (λ z. absurd (omega (arith, z))) ∙ next_away a3 m e p (Some x) b HOME (home_low e low) (λ z. absurd (omega (arith, z)))
    ∙ link_other a2 x NEXT None b HOME (λ z. absurd (omega (arith, z))) ∙ link_other a1 x PREV p b HOME (λ z. absurd (omega (arith, z))) ∙ link_other f x HOME (Some m) b HOME (λ _. d)

home_inserted : (f : ℕ → Option HeldCell) (m e a x : ℕ) → PREV < e → (b : ℕ) → b ≢ x → link_in (inserted f m e a x) b HOME ≡ link_in f b HOME
home_inserted f m e a x low b d =
    let p = link_in f a PREV in let a1 = alter f x (option_map (with_link HOME (Some m))) in let a2 = alter a1 x (option_map (with_link PREV p)) in let a3 = alter a2 x (option_map (with_link NEXT (Some a))) in
    link_other (with_next a3 m e p (Some x)) a PREV (Some x) b HOME (λ z. absurd (omega (arith, z))) ∙ next_away a3 m e p (Some x) b HOME (home_low e low) (λ z. absurd (omega (arith, z)))
    ∙ link_other a2 x NEXT (Some a) b HOME (λ z. absurd (omega (arith, z))) ∙ link_other a1 x PREV p b HOME (λ z. absurd (omega (arith, z))) ∙ link_other f x HOME (Some m) b HOME (λ _. d)

home_unlinked : (f : ℕ → Option HeldCell) (m e x : ℕ) → PREV < e → (b : ℕ) → b ≢ x → link_in (unlinked f m e x) b HOME ≡ link_in f b HOME
home_unlinked f m e x low b d =
    let p = link_in f x PREV in let n = link_in f x NEXT in let f1 = with_next f m e p n in
    link_other (with_prev f1 m e n p) x HOME None b HOME (λ _. d) ∙ prev_away f1 m e n p b HOME (home_low e low) (λ z. absurd (omega (arith, z))) ∙ next_away f m e p n b HOME (home_low e low) (λ z. absurd (omega (arith, z)))

-- a link that leads nowhere
no_home : (f : ℕ → Option HeldCell) (m e x : ℕ) → link_in (unlinked f m e x) x HOME ≡ None
no_home f m e x =
    let p = link_in f x PREV in let n = link_in f x NEXT in let f2 = with_prev (with_next f m e p n) m e n p in
    ap (λ (o : Option HeldCell). get_or (links_of o) HOME None) (alter_at f2 x (option_map (with_link HOME None))) ∙ by (f2 x)
  where
    none : (ls : List (Option ℕ)) → get_or (set ls HOME None) HOME None ≡ None
    none [] = refl
    none (q ∷ ls) = refl

    by : (o : Option HeldCell) → get_or (links_of (option_map (with_link HOME None) o)) HOME None ≡ None
    by None = refl
    by (Some c) = none c.links

-- the core by what links leave
abbrev pub back : AllButLinks → Option Core
back r = if r.there then Some record { index = get_or r.numbers INDEX 0; arity = get_or r.numbers ARITY 0; kind = get_or r.numbers KIND 0; high = get_or r.numbers HIGH 0; low = get_or r.numbers LOW 0; own = get_or r.numbers FIRST_MARK 0; numbers = length r.numbers; ports = r.ports } else None

-- links leave the core
pub core_rest : (o : Option HeldCell) → core_of o ≡ back (all_but_links o)
core_rest None = refl
core_rest (Some c) = refl

-- the core of a cell of which a count is another
core_count : (j : CellKind) (n : ℕ) (o : Option HeldCell) → core_of (option_map (with_number (count_number j) n) o) ≡ core_of o
core_count j n None = refl
core_count j n (Some c) =
    let far : (i : ℕ) → i ≤ FIRST_MARK → get_or (set c.numbers (count_number j) n) i 0 ≡ get_or c.numbers i 0 = λ i low. get_or-set_other c.numbers (count_number j) i n 0 (λ e. let b = count_behind j in absurd (omega (arith, b, low, e))) in
    λ t. Some record {
      index = far INDEX (omega arith) t;
      arity = far ARITY (omega arith) t;
      kind = far KIND (omega arith) t;
      high = far HIGH (omega arith) t;
      low = far LOW (omega arith) t;
      own = far FIRST_MARK (omega arith) t;
      numbers = length-set c.numbers (count_number j) n t;
      ports = c.ports;
    }

-- f is changed to F by links alone, and in g the length of a list is told too
pub record Moves (f F : ℕ → Option HeldCell) (ys : ℕ → CellKind → List ℕ) (m x : ℕ) (h : Option ℕ) (xs : List ℕ) : Type 0 where
  pub rests : (b : ℕ) → all_but_links (F b) ≡ all_but_links (f b)
  pub home_at : link_in F x HOME ≡ h
  pub home_away : (b : ℕ) → b ≢ x → link_in F b HOME ≡ link_in f b HOME
  pub line : Line F m (list_link (cell_kind f x)) xs
  pub others : (n : ℕ) (j : CellKind) → (cell_kind f n ≡ Atom → ⊥) → (n ≡ m → j ≡ cell_kind f x → ⊥) → Line F n (list_link j) (ys n j)

-- a number of a cell after such a change
pub moved_number : (f F : ℕ → Option HeldCell) (ys : ℕ → CellKind → List ℕ) (m x : ℕ) (h : Option ℕ) (xs : List ℕ) → Moves f F ys m x h xs → (b i : ℕ) → number_in F b i ≡ number_in f b i
moved_number f F ys m x h xs v b i = ap (λ (r : AllButLinks). get_or r.numbers i 0) (v.rests b)

-- and what is there
pub moved_there : (f F : ℕ → Option HeldCell) (ys : ℕ → CellKind → List ℕ) (m x : ℕ) (h : Option ℕ) (xs : List ℕ) → Moves f F ys m x h xs → (b : ℕ) → IsSome (f b) → IsSome (F b)
moved_there f F ys m x h xs v b t = ap (λ (r : AllButLinks). r.there) (v.rests b) ∙ t

module _ (f F : ℕ → Option HeldCell) (made : ℕ) (w : IsWeb f made) (m x : ℕ) (h : Option ℕ) (xs : List ℕ) (v : Moves f F (list_in f) m x h xs) (count : ℕ) (there_m : IsSome (f m)) where
  abbrev kd : CellKind
  kd = cell_kind f x

  abbrev G : ℕ → Option HeldCell
  G = alter F m (option_map (with_number (count_number kd) count))

  links_keep : (b j : ℕ) → link_in G b j ≡ link_in F b j
  links_keep b j = keeps (λ o. get_or (links_of o) j None) F m (with_number (count_number kd) count) by b
    where
      by : (o : Option HeldCell) → get_or (links_of (option_map (with_number (count_number kd) count) o)) j None ≡ get_or (links_of o) j None
      by None = refl
      by (Some c) = refl

  stays_there : (b : ℕ) → IsSome (F b) → IsSome (G b)
  stays_there b t = keeps (λ (o : Option HeldCell). is_some o) F m (with_number (count_number kd) count) by b ∙ t
    where
      by : (o : Option HeldCell) → is_some (option_map (with_number (count_number kd) count) o) ≡ is_some o
      by None = refl
      by (Some c) = refl

  set_there : (o : Option HeldCell) → length (numbers_of o) ≡ 8 → get_or (numbers_of (option_map (with_number (count_number kd) count) o)) (count_number kd) 0 ≡ count
  set_there None e = absurd (omega (arith, e))
  set_there (Some c) e = get_or-set_same c.numbers (count_number kd) count 0 (let l = count_below kd in omega (arith, l, e))

  set_other : (o : Option HeldCell) (j : CellKind) → (j ≡ kd → ⊥) → get_or (numbers_of (option_map (with_number (count_number kd) count) o)) (count_number j) 0 ≡ get_or (numbers_of o) (count_number j) 0
  set_other None j d = refl
  set_other (Some c) j d = get_or-set_other c.numbers (count_number kd) (count_number j) count 0 (counts_apart j kd d)

  -- with the length it is a change of one list
  pub counted : x ≢ m → (cell_kind f m ≡ Atom → ⊥) → count ≡ length xs → ((z : ℕ) → In z xs → z ≢ x → In z (list_in f m kd)) → ((z : ℕ) → In z (list_in f m kd) → z ≢ x → In z xs) → ((n : ℕ) → h ≡ Some n → (n ≡ m) × In x xs)
      → Relists f G (list_in f) m x h xs
  counted differ membrane long was stays comes = record {
    cores = λ b. keeps core_of F m (with_number (count_number kd) count) (core_count kd count) b ∙ core_rest (F b) ∙ ap back (v.rests b) ∙ sym (core_rest (f b));
    differ = differ;
    membrane = membrane;
    home_at = links_keep x HOME ∙ v.home_at;
    home_away = λ b d. links_keep b HOME ∙ v.home_away b d;
    count_at = ap (λ (o : Option HeldCell). get_or (numbers_of o) (count_number kd) 0) (alter_at F m (option_map (with_number (count_number kd) count))) ∙ set_there (F m) (ap (λ (r : AllButLinks). length r.numbers) (v.rests m) ∙ w.numbers m there_m ∙ eight_by (number_in f m KIND) membrane) ∙ long;
    count_away = λ b j d. elim (cases_eq b m) [
      | inl s ↦ subst (λ z. number_in G z (count_number j) ≡ number_in f z (count_number j)) (sym s) (ap (λ (o : Option HeldCell). get_or (numbers_of o) (count_number j) 0) (alter_at F m (option_map (with_number (count_number kd) count)))
          ∙ set_other (F m) j (d s) ∙ moved_number f F (list_in f) m x h xs v m (count_number j))
      | inr a ↦ ap (λ (o : Option HeldCell). get_or (numbers_of o) (count_number j) 0) (alter_away F m (option_map (with_number (count_number kd) count)) b a) ∙ moved_number f F (list_in f) m x h xs v b (count_number j)
    ];
    line = line_same F G links_keep stays_there m (list_link kd) xs v.line;
    others = λ b j t d. line_same F G links_keep stays_there b (list_link j) (list_in f b j) (v.others b j t d);
    was = was;
    stays = stays;
    comes = comes;
  }

-- The three calls

-- a list without one of its numbers is shorter by one
pub length_without : (x : ℕ) (xs : List ℕ) → In x xs → length (without x xs) + 1 ≡ length xs
length_without x [] i = absurd i
length_without x (y ∷ ys) i = by (y == x) refl (length_without x ys) i
  where
    by : (t : Bool) → (y == x) ≡ t → (In x ys → length (without x ys) + 1 ≡ length ys) → In x (y ∷ ys) → length (if t then ys else y ∷ without x ys) + 1 ≡ length (y ∷ ys)
    by true e all_but_links j = omega arith
    by false e all_but_links (inl s) = absurd (let z : true ≡ false = sym (eq-eqb y x s) ∙ e in cc)
    by false e all_but_links (inr j) = let r = all_but_links j in omega (arith, r)

-- a cell of a kind that is no atom is there
pub membrane_there : (f : ℕ → Option HeldCell) (m : ℕ) → (cell_kind f m ≡ Atom → ⊥) → IsSome (f m)
membrane_there f m d = by (f m) refl
  where
    by : (o : Option HeldCell) → f m ≡ o → IsSome (f m)
    by None e = absurd (d (ap (λ (o : Option HeldCell). kind_by (get_or (numbers_of o) KIND 0)) e))
    by (Some c) e = subst (λ (o : Option HeldCell). IsSome o) (sym e) refl

-- x, which is in no list, may come into one of m
pub record Enters (f : ℕ → Option HeldCell) (m x : ℕ) : Type 0 where
  pub there : IsSome (f x)
  pub free : link_in f x HOME ≡ None
  pub differ : x ≢ m
  pub membrane : cell_kind f m ≡ Atom → ⊥

-- what the call for the end of a list asks
pub enters_last : (rows now : List Row) → rows ≡ now → (m x : ℕ) → IsSome (web_by now x) → web.home_at (web_by now) x ≡ None → kind_at (web_by now) m ≡ Membrane → x ≢ m → Enters (cells_by rows) m x
enters_last rows now e m x there free membrane differ =
    let f = cells_by rows in
    record {
      there = some_back f (list_in f) x (subst (λ z. IsSome (web_by z x)) (sym e) there);
      free = sym (home_same f (list_in f) x) ∙ subst (λ z. web.home_at (web_by z) x ≡ None) (sym e) free;
      differ = differ;
      membrane = λ s. (let z : Membrane ≡ Atom = sym (subst (λ z. kind_at (web_by z) m ≡ Membrane) (sym e) membrane) ∙ kind_same f (list_in f) m ∙ s in absurd cc);
    }

-- what the call for a place before another asks: a is in the list of m for the kind of x
pub before_among : (rows now : List Row) (made : ℕ) → rows ≡ now → IsWeb (cells_by rows) made → (m a x : ℕ) → link_in (cells_by rows) a HOME ≡ Some m → kind_at (web_by now) a ≡ kind_at (web_by now) x
    → In a (list_in (cells_by rows) m (cell_kind (cells_by rows) x))
before_among rows now made e w m a x home kind =
    let f = cells_by rows in
    let alike : cell_kind f a ≡ cell_kind f x = sym (kind_same f (list_in f) a) ∙ subst (λ z. kind_at (web_by z) a ≡ kind_at (web_by z) x) (sym e) kind ∙ kind_same f (list_in f) x in
    subst (λ k. In a (list_in f m k)) alike (w.listed.homes m a home).1

-- and x may come there
pub enters_before : (rows now : List Row) (made : ℕ) → rows ≡ now → IsWeb (cells_by rows) made → (m a x : ℕ) → link_in (cells_by rows) a HOME ≡ Some m → kind_at (web_by now) a ≡ kind_at (web_by now) x → IsSome (web_by now x) → web.home_at (web_by now) x ≡ None
    → (web.home_at (web_by now) a ≡ Some x → ⊥) → Enters (cells_by rows) m x
enters_before rows now made e w m a x home kind there free differ =
    let f = cells_by rows in
    record {
      there = some_back f (list_in f) x (subst (λ z. IsSome (web_by z x)) (sym e) there);
      free = sym (home_same f (list_in f) x) ∙ subst (λ z. web.home_at (web_by z) x ≡ None) (sym e) free;
      differ = λ s. differ (ap (λ z. web.home_at (web_by z) a) (sym e) ∙ home_same f (list_in f) a ∙ home ∙ ap Some (sym s));
      membrane = λ s. subst (λ us. In a us) (w.listed.bare m (cell_kind f x) s) (before_among rows now made e w m a x home kind);
    }

-- x is the first in the list of m for its kind
pub record Begins (f : ℕ → Option HeldCell) (m x : ℕ) (k : CellKind) : Type 0 where
  pub membrane : cell_kind f m ≡ Atom → ⊥
  pub inside : In x (list_in f m k)
  pub kind : k ≡ cell_kind f x
  pub home : link_in f x HOME ≡ Some m
  pub begins : link_in f m (list_link k) ≡ Some x

-- what the call for the first of a list asks
pub firsts : (rows now : List Row) (made : ℕ) → rows ≡ now → IsWeb (cells_by rows) made → (m x : ℕ) (k : CellKind) → kind_at (web_by now) m ≡ Membrane → from (Some x) (cells_in (web_by now) m k) ≡ cells_in (web_by now) m k → Begins (cells_by rows) m x k
firsts rows now made e w m x k membrane first =
    let f = cells_by rows in
    let own : cells_in (web_by rows) m k ≡ list_in f m k = list_same f (list_in f) w.listed m k in
    let front : from (Some x) (list_in f m k) ≡ list_in f m k = subst (λ us. from (Some x) us ≡ us) own (subst (λ z. from (Some x) (cells_in (web_by z) m k) ≡ cells_in (web_by z) m k) (sym e) first) in
    let no_atom = no_atom_by f (list_in f) m (subst (λ z. kind_at (web_by z) m ≡ Membrane) (sym e) membrane) in
    let i : In x (list_in f m k) = from_in (Some x) (list_in f m k) front x refl in
    record {
      membrane = no_atom;
      inside = i;
      kind = sym (w.listed.kinds m x k i);
      home = (cell_of f (list_in f) w.listed m x k i).2;
      begins = front_is f m (list_link k) x (list_in f m k) (w.listed.line m k no_atom) front;
    }

module _ (f F g : ℕ → Option HeldCell) (made : ℕ) (w : IsWeb f made) (m x e p q n : ℕ) (enters : Enters f m x)
    (at_e : e ≡ list_link (cell_kind f x)) (at_p : p ≡ count_number (cell_kind f x)) (at_q : q ≡ count_number (cell_kind f x)) (read : n ≡ number_in F m p) where
  abbrev ka : CellKind
  ka = cell_kind f x

  abbrev ls : List ℕ
  ls = list_in f m ka

  there_h : IsSome (f m)
  there_h = membrane_there f m enters.membrane

  line_e : Line f m e ls
  line_e = subst (λ j. Line f m j ls) (sym at_e) (w.listed.line m ka enters.membrane)

  -- it was in no list
  pub out_of : In x ls → ⊥
  out_of = in_none f (list_in f) w.listed x enters.free m ka

  apart_e : (j : ℕ) (i : CellKind) → (j ≡ m → i ≡ ka → ⊥) → Apart m e (x ∷ ls) j (list_link i) (list_in f j i)
  apart_e j i d = subst (λ z. Apart m z (x ∷ ls) j (list_link i) (list_in f j i)) (sym at_e) (apart_more f (list_in f) w.listed x enters.free m j ka i d)

  abbrev Clause : List ℕ → Type 0
  Clause us = (k : ℕ) (j : ℕ) (ys : List ℕ) → Line f k j ys → Apart m e (x ∷ ls) k j ys → Line F k j ys

  -- the change of the cells
  coming : (us : List ℕ) → ((b : ℕ) → all_but_links (F b) ≡ all_but_links (f b)) → ((b : ℕ) → b ≢ x → link_in F b HOME ≡ link_in f b HOME) → In x us → Line F m e us → Clause us → Moves f F (list_in f) m x (Some m) us
  coming us rests homes i line others = record {
    rests = rests;
    home_at = (each_in (λ y. IsSome (F y) × (y ≢ m) × (link_in F y HOME ≡ Some m)) us x line.cells i).2;
    home_away = homes;
    line = subst (λ j. Line F m j us) at_e line;
    others = λ k j t d. others k (list_link j) (list_in f k j) (w.listed.line k j t) (apart_e k j d);
  }

  -- the length that is told then
  told_length : (us : List ℕ) → Moves f F (list_in f) m x (Some m) us → n ≡ length ls
  told_length us v = read ∙ moved_number f F (list_in f) m x (Some m) us v m p ∙ ap (number_in f m) at_p ∙ w.listed.count m ka

  -- the list with one more is no longer than the table
  room : length (x ∷ ls) ≤ made
  room = no_more f made w (x ∷ ls) (each_of _ ls (λ z i s. out_of (subst (λ u. In u ls) (sym s) i)), (w.listed.line m ka enters.membrane).once)
      (λ z i. elim i [ inl s ↦ subst (λ u. IsSome (f u)) s enters.there | inr j ↦ (cell_of f (list_in f) w.listed m z ka j).0 ])

  comes_in : (us : List ℕ) → Moves f F (list_in f) m x (Some m) us → length us ≡ length ls + 1 → ((z : ℕ) → In z us → z ≢ x → In z ls) → ((z : ℕ) → In z ls → In z us) → In x us → g ≡ alter F m (option_map (with_number q (n + 1)))
      → Relists f g (list_in f) m x (Some m) us
  comes_in us v long was stays i is =
      let len : n + 1 ≡ length us = let t = told_length us v in omega (arith, t, long) in
      subst (λ (u : ℕ → Option HeldCell). Relists f u (list_in f) m x (Some m) us) (sym (is ∙ ap (λ j. alter F m (option_map (with_number j (n + 1)))) at_q))
      (counted f F made w m x (Some m) us v (n + 1) there_h enters.differ enters.membrane len was (λ z j d. stays z j) (λ k s. (let z : Some k ≡ Some m = sym s in cc, i)))

  abbrev Appended : Type 0
  Appended = (F ≡ appended f m e x) × ((xs : List ℕ) → Line f m e xs → (In x xs → ⊥) → Line F m e (xs ++ x ∷ []))
      × ((xs : List ℕ) → Line f m e xs → (In x xs → ⊥) → (k j : ℕ) (ys : List ℕ) → Line f k j ys → Apart m e (x ∷ xs) k j ys → Line F k j ys)

  abbrev at_end : List ℕ
  at_end = ls ++ x ∷ []

  in_end : In x at_end
  in_end = in_right x ls (x ∷ []) (inl refl)

  appended_moves : Appended → Moves f F (list_in f) m x (Some m) at_end
  appended_moves a = coming at_end (λ b. ap (λ (u : ℕ → Option HeldCell). all_but_links (u b)) a.0 ∙ rest_appended f m e x b)
      (λ b d. ap (λ (u : ℕ → Option HeldCell). link_in u b HOME) a.0 ∙ home_appended f m e x (subst (λ j. PREV < j) (sym at_e) (link_behind ka)) b d) in_end (a.1 ls line_e out_of) (a.2 ls line_e out_of)

  -- what is there stays there
  pub appended_there : Appended → IsSome (F m)
  appended_there a = moved_there f F (list_in f) m x (Some m) at_end (appended_moves a) m there_h

  -- it has its counts
  pub appended_eight : Appended → length (numbers_of (F m)) ≡ 8
  appended_eight a = ap (λ (r : AllButLinks). length r.numbers) ((appended_moves a).rests m) ∙ w.numbers m there_h ∙ eight_by (number_in f m KIND) enters.membrane

  -- the length stays a number
  pub appended_fits : Appended → n + 1 ≤ made
  appended_fits a = let r = room in let t = told_length at_end (appended_moves a) in omega (arith, r, t)

  -- a cell comes to the end of a list
  pub appends : Appended → g ≡ alter F m (option_map (with_number q (n + 1))) → Relists f g (list_in f) m x (Some m) at_end
  appends a is = comes_in at_end (appended_moves a) (length-append ls (x ∷ []))
      (λ z i d. elim (in_either z ls (x ∷ []) i) [ inl j ↦ j | inr j ↦ elim j [ inl s ↦ absurd (d (sym s)) | inr o ↦ absurd o ] ]) (λ z i. in_left z ls (x ∷ []) i) in_end is

  abbrev Inserted : ℕ → Type 0
  Inserted a = (F ≡ inserted f m e a x) × ((xs : List ℕ) → Line f m e xs → In a xs → (In x xs → ⊥) → Line F m e (put_before x a xs))
      × ((xs : List ℕ) → Line f m e xs → In a xs → (In x xs → ⊥) → (k j : ℕ) (ys : List ℕ) → Line f k j ys → Apart m e (x ∷ xs) k j ys → Line F k j ys)

  inserted_moves : (a : ℕ) → In a ls → Inserted a → Moves f F (list_in f) m x (Some m) (put_before x a ls)
  inserted_moves a i s = coming (put_before x a ls) (λ b. ap (λ (u : ℕ → Option HeldCell). all_but_links (u b)) s.0 ∙ rest_inserted f m e a x b)
      (λ b d. ap (λ (u : ℕ → Option HeldCell). link_in u b HOME) s.0 ∙ home_inserted f m e a x (subst (λ j. PREV < j) (sym at_e) (link_behind ka)) b d) (in_put_new x a ls i) (s.1 ls line_e i out_of) (s.2 ls line_e i out_of)

  -- what is there stays there
  pub inserted_there : (a : ℕ) → In a ls → Inserted a → IsSome (F m)
  inserted_there a i s = moved_there f F (list_in f) m x (Some m) (put_before x a ls) (inserted_moves a i s) m there_h

  -- it has its counts
  pub inserted_eight : (a : ℕ) → In a ls → Inserted a → length (numbers_of (F m)) ≡ 8
  inserted_eight a i s = ap (λ (r : AllButLinks). length r.numbers) ((inserted_moves a i s).rests m) ∙ w.numbers m there_h ∙ eight_by (number_in f m KIND) enters.membrane

  -- the length stays a number
  pub inserted_fits : (a : ℕ) → In a ls → Inserted a → n + 1 ≤ made
  inserted_fits a i s = let r = room in let t = told_length (put_before x a ls) (inserted_moves a i s) in omega (arith, r, t)

  -- a cell comes before another
  pub inserts : (a : ℕ) → In a ls → Inserted a → g ≡ alter F m (option_map (with_number q (n + 1))) → Relists f g (list_in f) m x (Some m) (put_before x a ls)
  inserts a i s is = comes_in (put_before x a ls) (inserted_moves a i s) (length_put x a ls i)
      (λ z j d. elim (in_put x a z ls j) [ inl t ↦ absurd (d t) | inr o ↦ o ]) (λ z j. in_put_old x a z ls j) (in_put_new x a ls i) is

module _ (f F g : ℕ → Option HeldCell) (made : ℕ) (w : IsWeb f made) (m x e p q n : ℕ) (home : link_in f x HOME ≡ Some m)
    (at_e : e ≡ list_link (cell_kind f x)) (at_p : p ≡ count_number (cell_kind f x)) (at_q : q ≡ count_number (cell_kind f x)) (read : n ≡ number_in F m p) where
  abbrev kl : CellKind
  kl = cell_kind f x

  abbrev lx : List ℕ
  lx = list_in f m kl

  abbrev rx : List ℕ
  rx = without x lx

  abbrev Unlinked : Type 0
  Unlinked = (F ≡ unlinked f m e x) × ((xs : List ℕ) → Line f m e xs → In x xs → Line F m e (without x xs))
      × ((xs : List ℕ) → Line f m e xs → In x xs → (k j : ℕ) (ys : List ℕ) → Line f k j ys → Apart m e xs k j ys → Line F k j ys)

  in_it : In x lx
  in_it = (w.listed.homes m x home).1

  there_l : IsSome (f m)
  there_l = (w.listed.homes m x home).0

  line_l : Line f m e lx
  line_l = subst (λ j. Line f m j lx) (sym at_e) (own_line f (list_in f) w.listed m x kl in_it)

  unlinked_moves : Unlinked → Moves f F (list_in f) m x None rx
  unlinked_moves u = record {
    rests = λ b. ap (λ (v : ℕ → Option HeldCell). all_but_links (v b)) u.0 ∙ rest_unlinked f m e x b;
    home_at = ap (λ (v : ℕ → Option HeldCell). link_in v x HOME) u.0 ∙ no_home f m e x;
    home_away = λ b d. ap (λ (v : ℕ → Option HeldCell). link_in v b HOME) u.0 ∙ home_unlinked f m e x (subst (λ j. PREV < j) (sym at_e) (link_behind kl)) b d;
    line = subst (λ j. Line F m j rx) at_e (u.1 lx line_l in_it);
    others = λ k j t d. u.2 lx line_l in_it k (list_link j) (list_in f k j) (w.listed.line k j t) (subst (λ z. Apart m z lx k (list_link j) (list_in f k j)) (sym at_e) (apart_lists f (list_in f) w.listed m k kl j d));
  }

  -- what is there stays there
  pub unlinked_there : Unlinked → IsSome (F m)
  unlinked_there u = moved_there f F (list_in f) m x None rx (unlinked_moves u) m there_l

  -- the list was not empty
  pub unlinked_some : Unlinked → n ≡ length rx + 1
  unlinked_some u = let t = read ∙ moved_number f F (list_in f) m x None rx (unlinked_moves u) m p ∙ ap (number_in f m) at_p ∙ w.listed.count m kl in let s = length_without x lx in_it in omega (arith, t, s)

  no_atom : cell_kind f m ≡ Atom → ⊥
  no_atom s = subst (λ us. In x us) (w.listed.bare m kl s) in_it

  -- it has its counts
  pub unlinked_eight : Unlinked → length (numbers_of (F m)) ≡ 8
  unlinked_eight u = ap (λ (r : AllButLinks). length r.numbers) ((unlinked_moves u).rests m) ∙ w.numbers m there_l ∙ eight_by (number_in f m KIND) no_atom

  -- a cell leaves its list
  pub unlinks : Unlinked → g ≡ alter F m (option_map (with_number q (n - 1))) → Relists f g (list_in f) m x None rx
  unlinks u is =
      let d : Distinct lx = (own_line f (list_in f) w.listed m x kl in_it).once in
      let len : n - 1 ≡ length rx = let t = unlinked_some u in omega (arith, t) in
      subst (λ (v : ℕ → Option HeldCell). Relists f v (list_in f) m x None rx) (sym (is ∙ ap (λ j. alter F m (option_map (with_number j (n - 1)))) at_q))
      (counted f F made w m x None rx (unlinked_moves u) (n - 1) there_l (cell_of f (list_in f) w.listed m x kl in_it).1 no_atom len
      (λ z i _. (in_without_of x z lx d i).0) (λ z i a. in_without x z lx i a) (λ k s. absurd cc))

own_list : (f : ℕ → Option HeldCell) (ys : ℕ → CellKind → List ℕ) → IsListed f ys → (m x : ℕ) → ys m (cell_kind f x) ≡ cells_in (web_with f ys) m (kind_at (web_with f ys) x)
own_list f ys l m x = sym (list_same f ys l m (cell_kind f x)) ∙ ap (cells_in (web_with f ys) m) (sym (kind_same f ys x))

-- a list with a cell at its end, in the words of the web
pub last_is : (f : ℕ → Option HeldCell) (ys : ℕ → CellKind → List ℕ) → IsListed f ys → (m x : ℕ) → relisted (web_with f ys) m x (Some m) (ys m (cell_kind f x) ++ x ∷ []) ≡ added_last (web_with f ys) m x
last_is f ys l m x = λ t. relisted (web_with f ys) m x (Some m) (own_list f ys l m x t ++ x ∷ [])

-- with a cell before another
pub before_is : (f : ℕ → Option HeldCell) (ys : ℕ → CellKind → List ℕ) → IsListed f ys → (m a x : ℕ) → relisted (web_with f ys) m x (Some m) (put_before x a (ys m (cell_kind f x))) ≡ added_before (web_with f ys) m a x
before_is f ys l m a x = λ t. relisted (web_with f ys) m x (Some m) (put_before x a (own_list f ys l m x t))

-- and without one
pub without_is : (f : ℕ → Option HeldCell) (ys : ℕ → CellKind → List ℕ) → IsListed f ys → (m x : ℕ) → relisted (web_with f ys) m x None (without x (ys m (cell_kind f x))) ≡ web.unlinked (web_with f ys) m x
without_is f ys l m x = λ t. relisted (web_with f ys) m x None (without x (own_list f ys l m x t))
