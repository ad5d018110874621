-- The lists of a web: how they are read off its cells, and which changes keep them.
use Rattle.std.proofs.Common.{◌≡◌, ◌≢◌, ◌⊎◌, ℕ, suc, ◌+◌, ◌<◌, ◌==◌, Bool, true, false, if◌then◌else◌, List, [], ◌∷◌, ◌++◌, length, get_or, Option, Some, None, IsSome, IfSome, MatchOption, is_some, refl, sym, ap, subst, ◌∙◌, inl, inr, arith}
use Rattle.std.proofs.lemmas.Bool.{cases_eq, eq-eqb, eqb-true}
use Rattle.std.specs.Option.{option_map}
use Rattle.lmn_base.specs.Lists.{In}
use Rattle.lmn_base.proofs.Lists.{head_is}
use Rattle.lmn_store_heap.specs.Lists.{Distinct, after, from}
use Rattle.lmn_store_heap.proofs.ListLemmas.{each_in, each_of, in_split}
use Rattle.lmn_store_heap.proofs.Trees.{after_split, from_next}
use Rattle.lmn_web_cells.specs.Cells.{HeldCell, links_of, numbers_of}
use Rattle.lmn_web_cells.specs.Runs.{Node, RunsThrough, node_in, link_in, Line}
use Rattle.lmn_web_cells.specs.Links.{HOME, NEXT, PREV}
use Rattle.lmn_web_cells.proofs.RunLemmas.{frame, split}
use Rattle.lmn_web_cells.proofs.LineLemmas.{behind_there}
use Rattle.lmn_web.specs.declared.kind.CellKind.{CellKind}
use Rattle.lmn_web.specs.declared.kind.CellKind.TheVariants.{Atom, Membrane}
use Rattle.lmn_web.specs.Kinds.{kind_by}
use Rattle.lmn_web.specs.Webs.{WebCell, web_cell, web_with, web_of, kind_at, home_at, home_of, cells_in, cells_of, walked, list_in, number_in, count_number, list_link, StandOnce}
use Rattle.lmn_web_cells.specs.Numbers.{KIND, FIRST_MARK}
use Rattle.lmn_web.specs.Indexes.{cell_kind, IsListed}

-- Kinds

-- two kinds are one, or not
pub kind_cases : (j k : CellKind) → (j ≡ k) ⊎ (j ≡ k → ⊥)
kind_cases Atom Atom = inl refl
kind_cases Atom Membrane = inr (λ e. absurd cc)
kind_cases Membrane Atom = inr (λ e. absurd cc)
kind_cases Membrane Membrane = inl refl

-- an atom tells its kind by 0
pub atom_number : (n : ℕ) → kind_by n ≡ Atom → n ≡ 0
atom_number n e = by (n == 0) refl e
  where
    by : (b : Bool) → (n == 0) ≡ b → (if b then Atom else Membrane) ≡ Atom → n ≡ 0
    by true q e = eqb-true n 0 q
    by false q e = absurd (let z : Membrane ≡ Atom = e in cc)

-- the ends of a list are behind the links of its cells
pub link_behind : (k : CellKind) → PREV < list_link k
link_behind Atom = omega arith
link_behind Membrane = omega arith

-- and they are links of a cell
pub link_below : (k : CellKind) → list_link k + 1 < 7
link_below Atom = omega arith
link_below Membrane = omega arith

-- the lists of two kinds have no end in common
pub links_apart : (j k : CellKind) → (j ≡ k → ⊥) → (list_link j ≢ list_link k) × (list_link j ≢ list_link k + 1) × (list_link j + 1 ≢ list_link k)
links_apart Atom Atom d = absurd (d refl)
links_apart Atom Membrane d = (λ e. absurd (omega (arith, e)), λ e. absurd (omega (arith, e)), λ e. absurd (omega (arith, e)))
links_apart Membrane Atom d = (λ e. absurd (omega (arith, e)), λ e. absurd (omega (arith, e)), λ e. absurd (omega (arith, e)))
links_apart Membrane Membrane d = absurd (d refl)

-- the place of a count among the numbers of a cell
pub count_below : (k : CellKind) → count_number k < 8
count_below Atom = omega arith
count_below Membrane = omega arith

-- it is no other number's
pub count_behind : (k : CellKind) → FIRST_MARK < count_number k
count_behind Atom = omega arith
count_behind Membrane = omega arith

-- each kind has a count of its own
pub counts_apart : (j k : CellKind) → (j ≡ k → ⊥) → count_number j ≢ count_number k
counts_apart Atom Atom d = absurd (d refl)
counts_apart Atom Membrane d = λ e. absurd (omega (arith, e))
counts_apart Membrane Atom d = λ e. absurd (omega (arith, e))
counts_apart Membrane Membrane d = absurd (d refl)

-- A list stays one

-- where all links are as they were
pub line_same : (f g : ℕ → Option HeldCell) → ((a k : ℕ) → link_in g a k ≡ link_in f a k) → ((a : ℕ) → IsSome (f a) → IsSome (g a)) → (m e : ℕ) (xs : List ℕ) → Line f m e xs → Line g m e xs
line_same f g same there m e xs l =
    let p : ◌≡◌ {A = ℕ → ℕ → Option ℕ} (λ a k. link_in f a k) (λ a k. link_in g a k) = λ t a k. sym (same a k) t in
    record {
      runs = subst (λ (L : ℕ → ℕ → Option ℕ). RunsThrough (λ a. record { prev = L a PREV; next = L a NEXT }) None (L m e) xs (L m (e + 1)) None) p l.runs;
      cells = each_of _ xs (λ z j. let c = each_in (λ y. IsSome (f y) × (y ≢ m) × (link_in f y HOME ≡ Some m)) xs z l.cells j in (there z c.0, c.1, same z HOME ∙ c.2));
      once = l.once;
    }

-- where the membrane and all cells of the list are as they were
pub line_kept : (f g : ℕ → Option HeldCell) (m e : ℕ) (xs : List ℕ) → g m ≡ f m → ((z : ℕ) → In z xs → g z ≡ f z) → Line f m e xs → Line g m e xs
line_kept f g m e xs at same l =
    let end : (k : ℕ) → link_in f m k ≡ link_in g m k = λ k. ap (λ (o : Option HeldCell). get_or (links_of o) k None) (sym at) in
    record {
      runs = subst (λ o. RunsThrough (node_in g) None o xs (link_in g m (e + 1)) None) (end e)
          (subst (λ o. RunsThrough (node_in g) None (link_in f m e) xs o None) (end (e + 1))
          (frame (node_in f) (node_in g) None (link_in f m e) xs (link_in f m (e + 1)) None
          (each_of _ xs (λ z j t. record { prev = get_or (links_of (same z j t)) PREV None; next = get_or (links_of (same z j t)) NEXT None })) l.runs));
      cells = each_of _ xs (λ z j. let c = each_in (λ y. IsSome (f y) × (y ≢ m) × (link_in f y HOME ≡ Some m)) xs z l.cells j in
          (subst (λ (o : Option HeldCell). IsSome o) (sym (same z j)) c.0, c.1, ap (λ (o : Option HeldCell). get_or (links_of o) HOME None) (same z j) ∙ c.2));
      once = l.once;
    }

-- Lists are read off the cells

-- a run of so many cells
pub walked_is : (f : ℕ → Node) (before first : Option ℕ) (xs : List ℕ) (last : Option ℕ) → RunsThrough f before first xs last None → walked (λ a. (f a).next) (length xs) first ≡ xs
walked_is f before first [] last r = refl
walked_is f before first (x ∷ xs) last r = ap (λ o. walked (λ a. (f a).next) (suc (length xs)) o) r.0 ∙ ap (λ us. x ∷ us) (walked_is f (Some x) (f x).next xs last r.2)

none_long : (xs : List ℕ) → xs ≡ [] → (next : ℕ → Option ℕ) (first : Option ℕ) → walked next (length xs) first ≡ xs
none_long xs e next first = subst (λ us. walked next (length us) first ≡ us) (sym e) refl

-- the lists are those that the cells tell
pub lists_are : (f : ℕ → Option HeldCell) (ys : ℕ → CellKind → List ℕ) → IsListed f ys → (m : ℕ) (k : CellKind) → list_in f m k ≡ ys m k
lists_are f ys l m k = ap (λ n. walked (λ a. link_in f a NEXT) n (link_in f m (list_link k))) (l.count m k) ∙ elim (kind_cases (cell_kind f m) Atom) [
  | inl e ↦ none_long (ys m k) (l.bare m k e) (λ a. link_in f a NEXT) (link_in f m (list_link k))
  | inr d ↦ walked_is (node_in f) None (link_in f m (list_link k)) (ys m k) (link_in f m (list_link k + 1)) (l.line m k d).runs
]

-- all of them
pub same_lists : (f : ℕ → Option HeldCell) (ys : ℕ → CellKind → List ℕ) → IsListed f ys → list_in f ≡ ys
same_lists f ys l = λ t m k. lists_are f ys l m k t

-- so they are lists of the web
pub listed_self : (f : ℕ → Option HeldCell) (ys : ℕ → CellKind → List ℕ) → IsListed f ys → IsListed f (list_in f)
listed_self f ys l = subst (λ (z : ℕ → CellKind → List ℕ). IsListed f z) (sym (same_lists f ys l)) l

-- and the web has them
pub web_self : (f : ℕ → Option HeldCell) (ys : ℕ → CellKind → List ℕ) → IsListed f ys → web_of f ≡ web_with f ys
web_self f ys l = ap (λ (z : ℕ → CellKind → List ℕ). web_with f z) (same_lists f ys l)

-- Changes that no list sees

-- what of a cell its lists are read off
pub record Listing : Type 0 where
  pub there : Bool
  pub links : List (Option ℕ)
  pub kind : ℕ
  pub atoms : ℕ
  pub membranes : ℕ

-- what is told so of the cell at a number, or of none
abbrev pub listing : Option HeldCell → Listing
listing o = record { there = is_some o; links = links_of o; kind = get_or (numbers_of o) KIND 0; atoms = get_or (numbers_of o) 6 0; membranes = get_or (numbers_of o) 7 0 }

module _ (f g : ℕ → Option HeldCell) (same : (b : ℕ) → listing (g b) ≡ listing (f b)) where
  link_is : (b k : ℕ) → link_in g b k ≡ link_in f b k
  link_is b k = ap (λ (o : Listing). get_or o.links k None) (same b)

  there_is : (b : ℕ) → IsSome (f b) → IsSome (g b)
  there_is b t = ap (λ (o : Listing). o.there) (same b) ∙ t

  kind_is : (b : ℕ) → cell_kind g b ≡ cell_kind f b
  kind_is b = ap (λ (o : Listing). kind_by o.kind) (same b)

  count_is : (b : ℕ) (k : CellKind) → number_in g b (count_number k) ≡ number_in f b (count_number k)
  count_is b Atom = ap (λ (o : Listing). o.atoms) (same b)
  count_is b Membrane = ap (λ (o : Listing). o.membranes) (same b)

  -- the lists are as they were
  pub lists_same : (ys : ℕ → CellKind → List ℕ) → IsListed f ys → IsListed g ys
  lists_same ys l = record {
    line = λ m k t. line_same f g link_is there_is m (list_link k) (ys m k) (l.line m k (λ e. t (kind_is m ∙ e)));
    count = λ m k. count_is m k ∙ l.count m k;
    kinds = λ m x k i. kind_is x ∙ l.kinds m x k i;
    homes = λ m x e. let h = l.homes m x (sym (link_is x HOME) ∙ e) in (there_is m h.0, subst (λ k. In x (ys m k)) (sym (kind_is x)) h.1);
    bare = λ m k e. l.bare m k (sym (kind_is m) ∙ e);
  }

-- One cell comes or goes that stands in no list and has none

module _ (f g : ℕ → Option HeldCell) (a : ℕ) (ys : ℕ → CellKind → List ℕ) (l : IsListed f ys) (away : (b : ℕ) → b ≢ a → g b ≡ f b) (out : (m : ℕ) (k : CellKind) → In a (ys m k) → ⊥) (none : (k : CellKind) → ys a k ≡ [])
    (ends : (k : CellKind) → (link_in g a (list_link k) ≡ None) × (link_in g a (list_link k + 1) ≡ None)) (counts : (k : CellKind) → number_in g a (count_number k) ≡ 0) (homeless : link_in g a HOME ≡ None) where
  other : (m x : ℕ) (k : CellKind) → In x (ys m k) → g x ≡ f x
  other m x k i = away x (λ e. out m k (subst (λ z. In z (ys m k)) e i))

  no_list : (k : CellKind) → Line g a (list_link k) (ys a k)
  no_list k = subst (λ us. Line g a (list_link k) us) (sym (none k)) record { runs = ends k; cells = tt; once = tt }

  -- the lists are as they were
  pub listed_beside : IsListed g ys
  listed_beside = record {
    line = λ m k t. elim (cases_eq m a) [
      | inl e ↦ subst (λ z. Line g z (list_link k) (ys z k)) (sym e) (no_list k)
      | inr d ↦ line_kept f g m (list_link k) (ys m k) (away m d) (λ z i. other m z k i) (l.line m k (λ e. t (ap (λ (o : Option HeldCell). kind_by (get_or (numbers_of o) KIND 0)) (away m d) ∙ e)))
    ];
    count = λ m k. elim (cases_eq m a) [
      | inl e ↦ subst (λ z. number_in g z (count_number k) ≡ length (ys z k)) (sym e) (counts k ∙ sym (ap (λ (us : List ℕ). length us) (none k)))
      | inr d ↦ ap (λ (o : Option HeldCell). get_or (numbers_of o) (count_number k) 0) (away m d) ∙ l.count m k
    ];
    kinds = λ m x k i. ap (λ (o : Option HeldCell). kind_by (get_or (numbers_of o) KIND 0)) (other m x k i) ∙ l.kinds m x k i;
    homes = λ m x e. elim (cases_eq x a) [
      | inl s ↦ absurd (let z : Some m ≡ None = sym e ∙ ap (λ u. link_in g u HOME) s ∙ homeless in cc)
      | inr d ↦ (let same = away x d in let h = l.homes m x (sym (ap (λ (o : Option HeldCell). get_or (links_of o) HOME None) same) ∙ e) in
          let kind : cell_kind f x ≡ cell_kind g x = sym (ap (λ (o : Option HeldCell). kind_by (get_or (numbers_of o) KIND 0)) same) in (
            elim (cases_eq m a) [
              | inl s ↦ absurd (subst (λ us. In x us) (ap (λ u. ys u (cell_kind f x)) s ∙ none (cell_kind f x)) h.1)
              | inr n ↦ subst (λ (o : Option HeldCell). IsSome o) (sym (away m n)) h.0
            ],
            subst (λ k. In x (ys m k)) kind h.1,
          ))
    ];
    bare = λ m k e. elim (cases_eq m a) [
      | inl s ↦ ap (λ u. ys u k) s ∙ none k
      | inr d ↦ l.bare m k (sym (ap (λ (o : Option HeldCell). kind_by (get_or (numbers_of o) KIND 0)) (away m d)) ∙ e)
    ];
  }

-- Reading a list

-- where a run begins
pub run_begins : (h : ℕ → Node) (before first : Option ℕ) (us : List ℕ) (last : Option ℕ) → RunsThrough h before first us last None → from first us ≡ us
run_begins h before first [] last r = subst (λ o. from o [] ≡ []) (sym r.0) refl
run_begins h before first (u ∷ us) last r = subst (λ o. from o (u ∷ us) ≡ u ∷ us) (sym r.0) front
  where
    front : u ∷ after u (u ∷ us) ≡ u ∷ us
    front = rw (eq-eqb u u refl) refl

-- what follows a cell of it
pub run_goes_on : (h : ℕ → Node) (before first last : Option ℕ) (x : ℕ) (xs : List ℕ) → RunsThrough h before first xs last None → Distinct xs → In x xs → from (h x).next xs ≡ after x xs
run_goes_on h before first last x xs run once i =
    let s = in_split x xs i in
    let behind : after x xs ≡ s.1 = ap (after x) s.2 ∙ after_split x s.0 s.1 (subst Distinct s.2 once) in
    let r = split h before first s.0 (x ∷ s.1) last None (subst (λ us. RunsThrough h before first us last None) s.2 run) in
    next (h x).next s.1 last behind r.3.2
  where
    next : (o : Option ℕ) (zs : List ℕ) (end : Option ℕ) → after x xs ≡ zs → RunsThrough h (Some x) o zs end None → from o xs ≡ after x xs
    next o [] end b r = subst (λ p. from p xs ≡ after x xs) (sym r.0) (sym b)
    next o (z ∷ zs) end b r = subst (λ p. from p xs ≡ after x xs) (sym r.0) (from_next x z xs zs once b)

-- where a list begins
pub begins_list : (f : ℕ → Option HeldCell) (m e : ℕ) (xs : List ℕ) → Line f m e xs → from (link_in f m e) xs ≡ xs
begins_list f m e xs l = run_begins (node_in f) None (link_in f m e) xs (link_in f m (e + 1)) l.runs

-- a list with a cell begins somewhere
pub begins_somewhere : (o : Option ℕ) (xs : List ℕ) → from o xs ≡ xs → (xs ≡ [] → ⊥) → IsSome o
begins_somewhere None xs e some = absurd (some (sym e))
begins_somewhere (Some x) xs e some = refl

-- what follows a cell of it
pub goes_on : (f : ℕ → Option HeldCell) (m e x : ℕ) (xs : List ℕ) → Line f m e xs → In x xs → from (link_in f x NEXT) xs ≡ after x xs
goes_on f m e x xs l i = run_goes_on (node_in f) None (link_in f m e) (link_in f m (e + 1)) x xs l.runs l.once i

-- where a run ends: at its last cell, or before its beginning
pub run_ends : (h : ℕ → Node) (before first : Option ℕ) (us : List ℕ) (last : Option ℕ) → RunsThrough h before first us last None
    → ((us ≡ []) × (last ≡ before)) ⊎ ((x : ℕ) × (xs : List ℕ) × (us ≡ xs ++ x ∷ []) × (last ≡ Some x))
run_ends h before first [] last r = inl (refl, r.1)
run_ends h before first (u ∷ us) last r = elim (run_ends h (Some u) (h u).next us last r.2) [
  | inl e ↦ inr (u, [], ap (λ vs. u ∷ vs) e.0, e.1)
  | inr e ↦ inr (e.0, u ∷ e.1, ap (λ vs. u ∷ vs) e.2, e.3)
]

-- where a list ends
pub ends_list : (f : ℕ → Option HeldCell) (m e : ℕ) (xs : List ℕ) → Line f m e xs
    → ((xs ≡ []) × (link_in f m (e + 1) ≡ None)) ⊎ ((x : ℕ) × (us : List ℕ) × (xs ≡ us ++ x ∷ []) × (link_in f m (e + 1) ≡ Some x))
ends_list f m e xs l = run_ends (node_in f) None (link_in f m e) xs (link_in f m (e + 1)) l.runs

-- before each cell behind the first of a run stands another
run_behind : (h : ℕ → Node) (y : ℕ) (first : Option ℕ) (us : List ℕ) (last : Option ℕ) → RunsThrough h (Some y) first us last None → (x : ℕ) → In x us → (h x).prev ≡ None → ⊥
run_behind h y first [] last r x i n = absurd i
run_behind h y first (u ∷ us) last r x (inl e) n = (let z : Some y ≡ None = sym r.1 ∙ ap (λ a. (h a).prev) e ∙ n in absurd cc)
run_behind h y first (u ∷ us) last r x (inr i) n = run_behind h u (h u).next us last r.2 x i n

-- so a cell of a list that has none before it is its first
pub first_of_list : (f : ℕ → Option HeldCell) (m e x : ℕ) (xs : List ℕ) → Line f m e xs → In x xs → link_in f x PREV ≡ None → from (Some x) xs ≡ xs
first_of_list f m e x xs l i n = by (link_in f m e) xs l.runs i
  where
    front : (u : ℕ) (us : List ℕ) → from (Some u) (u ∷ us) ≡ u ∷ us
    front u us = rw (eq-eqb u u refl) refl

    by : (first : Option ℕ) (us : List ℕ) → RunsThrough (node_in f) None first us (link_in f m (e + 1)) None → In x us → from (Some x) us ≡ us
    by first [] r i = absurd i
    by first (u ∷ us) r (inl q) = subst (λ a. from (Some a) (u ∷ us) ≡ u ∷ us) q (front u us)
    by first (u ∷ us) r (inr j) = absurd (run_behind (node_in f) u (node_in f u).next us (link_in f m (e + 1)) r.2 x j n)

-- before the cell at which a list begins there is none
pub front_alone : (f : ℕ → Option HeldCell) (m e x : ℕ) (xs : List ℕ) → Line f m e xs → link_in f m e ≡ Some x → link_in f x PREV ≡ None
front_alone f m e x xs l s = by (link_in f m e) xs l.runs s
  where
    by : (first : Option ℕ) (us : List ℕ) → RunsThrough (node_in f) None first us (link_in f m (e + 1)) None → first ≡ Some x → link_in f x PREV ≡ None
    by first [] r s = absurd (let z : ◌≡◌ {A = Option ℕ} None (Some x) = sym r.0 ∙ s in cc)
    by first (u ∷ us) r s = let z : Some u ≡ Some x = sym r.0 ∙ s in let q : u ≡ x = cc in subst (λ a. link_in f a PREV ≡ None) q r.1

-- a list begins at its first cell
pub front_is : (f : ℕ → Option HeldCell) (m e x : ℕ) (xs : List ℕ) → Line f m e xs → from (Some x) xs ≡ xs → link_in f m e ≡ Some x
front_is f m e x xs l s = by (link_in f m e) xs (after x xs) l.runs s
  where
    by : (first : Option ℕ) (us rest : List ℕ) → RunsThrough (node_in f) None first us (link_in f m (e + 1)) None → x ∷ rest ≡ us → first ≡ Some x
    by first [] rest r s = absurd cc
    by first (u ∷ us) rest r s = r.0 ∙ ap Some (sym (head_is s))

-- an option that is none is told by none
pub none_told : {X : Type 0} (id : X → ℕ) (o : Option X) → is_some o ≡ false → option_map id o ≡ None
none_told id None e = refl
none_told id (Some x) e = absurd (cc)

-- and so is one with something
pub some_told : {X : Type 0} (id : X → ℕ) (o : Option X) (p : Option ℕ) → p ≡ option_map id o → is_some o ≡ true → IsSome p
some_told id None p e t = absurd (cc)
some_told id (Some x) p e t = subst IsSome (sym e) refl

-- one that is not nothing has something
pub some_known : {X : Type 0} (id : X → ℕ) (o : Option X) → (option_map id o ≡ None → ⊥) → IsSome o
some_known id None n = absurd (n refl)
some_known id (Some x) n = refl

pub some_there : (o : Option ℕ) → (o ≡ None → ⊥) → IsSome o
some_there None n = absurd (n refl)
some_there (Some x) n = refl

-- what an option that is told by numbers matches
pub matched_by : {X : Type 0} (id : X → ℕ) (r : Option X) (N : Type 0) (P : ℕ → Type 0) → (option_map id r ≡ None → N) → ((q : ℕ) → option_map id r ≡ Some q → P q) → MatchOption r N (λ x. P (id x))
matched_by id None N P n h = n refl
matched_by id (Some x) N P n h = h (id x) refl

-- the first of a list is in it
pub from_in : (o : Option ℕ) (xs : List ℕ) → from o xs ≡ xs → (q : ℕ) → o ≡ Some q → In q xs
from_in o xs e q s = subst (λ us. In q us) (ap (λ p. from p xs) (sym s) ∙ e) (inl refl)

-- What holds of every web

-- the cells of a web, by the web
pub home_same : (f : ℕ → Option HeldCell) (ys : ℕ → CellKind → List ℕ) (a : ℕ) → home_at (web_with f ys) a ≡ link_in f a HOME
home_same f ys a = by (f a)
  where
    by : (o : Option HeldCell) → home_of (option_map (web_cell (ys a)) o) ≡ get_or (links_of o) HOME None
    by None = refl
    by (Some c) = refl

-- the kind of a cell
pub kind_same : (f : ℕ → Option HeldCell) (ys : ℕ → CellKind → List ℕ) (a : ℕ) → kind_at (web_with f ys) a ≡ cell_kind f a
kind_same f ys a = by (f a)
  where
    by : (o : Option HeldCell) → kind_at (λ _. option_map (web_cell (ys a)) o) a ≡ kind_by (get_or (numbers_of o) KIND 0)
    by None = refl
    by (Some c) = refl

-- and its lists
pub list_same : (f : ℕ → Option HeldCell) (ys : ℕ → CellKind → List ℕ) → IsListed f ys → (a : ℕ) (k : CellKind) → cells_in (web_with f ys) a k ≡ ys a k
list_same f ys l a k = by (f a) refl k
  where
    by : (o : Option HeldCell) → f a ≡ o → (j : CellKind) → cells_of (option_map (web_cell (ys a)) o) j ≡ ys a j
    by None e j = sym (l.bare a j (ap (λ (o : Option HeldCell). kind_by (get_or (numbers_of o) KIND 0)) e))
    by (Some c) e Atom = refl
    by (Some c) e Membrane = refl

-- a list in which a cell stands is linked
pub own_line : (f : ℕ → Option HeldCell) (ys : ℕ → CellKind → List ℕ) → IsListed f ys → (m x : ℕ) (k : CellKind) → In x (ys m k) → Line f m (list_link k) (ys m k)
own_line f ys l m x k i = l.line m k (λ e. subst (λ us. In x us) (l.bare m k e) i)

-- a cell of a list is not its home, and has it
pub cell_of : (f : ℕ → Option HeldCell) (ys : ℕ → CellKind → List ℕ) → IsListed f ys → (m x : ℕ) (k : CellKind) → In x (ys m k) → IsSome (f x) × (x ≢ m) × (link_in f x HOME ≡ Some m)
cell_of f ys l m x k i = each_in (λ y. IsSome (f y) × (y ≢ m) × (link_in f y HOME ≡ Some m)) (ys m k) x (own_line f ys l m x k i).cells i

-- the lists of a web
pub web_listed : (f : ℕ → Option HeldCell) (ys : ℕ → CellKind → List ℕ) → IsListed f ys → StandOnce (web_with f ys)
web_listed f ys l =
    let lists : (m : ℕ) (k : CellKind) → ys m k ≡ cells_in (web_with f ys) m k = λ m k. sym (list_same f ys l m k) in
    record {
      once = λ m k. subst Distinct (lists m k) (elim (kind_cases (cell_kind f m) Atom) [ inl e ↦ subst Distinct (sym (l.bare m k e)) tt | inr d ↦ (l.line m k d).once ]);
      homes = λ m x k i. let j : In x (ys m k) = subst (λ us. In x us) (sym (lists m k)) i in let c = cell_of f ys l m x k j in (home_same f ys x ∙ c.2, kind_same f ys x ∙ l.kinds m x k j, c.1);
      listed = λ m x e. subst (λ us. In x us) (lists m (cell_kind f x) ∙ ap (cells_in (web_with f ys) m) (sym (kind_same f ys x))) (l.homes m x (sym (home_same f ys x) ∙ e)).1;
      bare = λ m k e. sym (lists m k) ∙ l.bare m k (sym (kind_same f ys m) ∙ e);
    }

-- what a call answers, if anything, has this
pub if_some : {X : Type 0} (id : X → ℕ) (r : Option X) (P : ℕ → Type 0) → ((q : ℕ) → option_map id r ≡ Some q → P q) → IfSome r (λ x. P (id x))
if_some id None P h = tt
if_some id (Some x) P h = h (id x) refl

-- what has a home in a web is there
pub some_home : (f : ℕ → Option HeldCell) (ys : ℕ → CellKind → List ℕ) (a : ℕ) → IsSome (home_at (web_with f ys) a) → IsSome (f a)
some_home f ys a t = by (f a) t
  where
    by : (o : Option HeldCell) → IsSome (home_of (option_map (web_cell (ys a)) o)) → IsSome o
    by None h = absurd cc
    by (Some c) h = refl

-- the home of what follows a cell
pub next_home : (f : ℕ → Option HeldCell) (ys : ℕ → CellKind → List ℕ) → IsListed f ys → (x : ℕ) → IsSome (home_at (web_with f ys) x) → (q : ℕ) → link_in f x NEXT ≡ Some q → home_at (web_with f ys) q ≡ home_at (web_with f ys) x
next_home f ys l x t q e = by (link_in f x HOME) refl (subst (λ (o : Option ℕ). IsSome o) (home_same f ys x) t)
  where
    by : (o : Option ℕ) → link_in f x HOME ≡ o → IsSome o → home_at (web_with f ys) q ≡ home_at (web_with f ys) x
    by None h s = absurd cc
    by (Some m) h s =
        let i = l.homes m x h in let k = cell_kind f x in
        home_same f ys q ∙ (cell_of f ys l m q k (behind_there f m (list_link k) x (ys m k) (own_line f ys l m x k i.1) i.1 q e)).2 ∙ sym h ∙ sym (home_same f ys x)

-- the kind that a cell is told to have
pub kind_told : (w : ℕ → Option WebCell) (a : ℕ) (k : CellKind) → option_map (λ x. x.kind) (w a) ≡ Some k → kind_at w a ≡ k
kind_told w a k e = by (w a) e
  where
    by : (o : Option WebCell) → option_map (λ x. x.kind) o ≡ Some k → kind_at (λ _. o) a ≡ k
    by None h = absurd cc
    by (Some c) h = (let z : Some c.kind ≡ Some k = h in cc)

-- a membrane is no atom
pub no_atom_by : (f : ℕ → Option HeldCell) (ys : ℕ → CellKind → List ℕ) (m : ℕ) → kind_at (web_with f ys) m ≡ Membrane → cell_kind f m ≡ Atom → ⊥
no_atom_by f ys m e s = let z : Membrane ≡ Atom = sym e ∙ kind_same f ys m ∙ s in absurd cc
