-- The classes of a web stay, and follow its lists.
use Rattle.std.proofs.Common.{◌≡◌, ◌≢◌, ◌==◌, ◌+◌, ◌<◌, ◌≤◌, ◌^◌, Bool, true, false, ℕ, List, [], ◌∷◌, length, get_or, Option, Some, None, IsSome, refl, sym, ap, subst, ◌∙◌, inl, inr, arith}
use Rattle.std.proofs.lemmas.Bool.{cases_eq, eqb-true}
use Rattle.std.specs.Option.{option_map}
use Rattle.lmn_base.specs.Lists.{In}
use Rattle.lmn_store_heap.specs.Heap.{alter}
use Rattle.lmn_store_heap.specs.Lists.{Distinct, from, without}
use Rattle.lmn_store_heap.proofs.Listing.{alter_at, alter_away}
use Rattle.lmn_store_heap.proofs.ListLemmas.{each_in, each_of}
use Rattle.lmn_web_cells.specs.Cells.{HeldCell, links_of, numbers_of, with_link, with_number, IsNewIndex}
use Rattle.lmn_web_cells.specs.Runs.{RunsThrough, node_in, link_in, Line, put_before, with_next, with_prev, appended, inserted, unlinked}
use Rattle.lmn_web_cells.specs.Links.{HOME, NEXT, PREV, CLASS_NEXT, CLASS_PREV, EVEN, ODD, LEADERS}
use Rattle.lmn_web_cells.proofs.LineLemmas.{keeps, link_other}
use Rattle.lmn_web_cells.proofs.RunLemmas.{frame}
use Rattle.lmn_web.specs.declared.kind.CellKind.{CellKind}
use Rattle.lmn_web.specs.declared.kind.CellKind.TheVariants.{Atom, Membrane}
use Rattle.lmn_web.specs.Kinds.{FILED, kind_by}
use Rattle.lmn_web.specs.Webs.{FilesNone, label_by, label_class, list_in, list_link, count_number, number_in, web_cell, web_label, web_of}
use Rattle.lmn_web_cells.specs.Numbers.{ARITY, KIND, HIGH, LOW}
use Rattle.lmn_web.specs.Indexes.{described, blank_by, numbers_by, cell_kind, IsListed, IsWeb, IsClassed, IsClassedWeb}
use Rattle.lmn_web.specs.Classes.{AllButLinks, ClassTree, Bare, IsTree, files, lasts, class_node, key_in, is_key, of_class, IsRing, AreClassed, MayFile, MayEnter, MayLeave, ClassBecomes, Touches, Refiled, FiledAs, put_at}
use Rattle.lmn_web.proofs.ListedLemmas.{same_lists, lists_same, cell_of}
use Rattle.lmn_web.proofs.WebLemmas.{Told, told, made_web, made_lists, no_list}
use Rattle.lmn_web.proofs.RelistLemmas.{Core, Relists, relists_web, in_none, new, new_lists, each, kind_is, there, m_there, core_of, back, core_rest}
use Rattle.lmn_web.proofs.Reclassing.{sorted_keys}
use Rattle.lmn_web.proofs.Rings.{linked_frame}
use Rattle.lmn_web.proofs.ClassEnds.{files_membrane}
use Rattle.lmn_web.proofs.ClassTrees.{tree_kept}
use Rattle.lmn_web.proofs.FilterLemmas.{filter_same, one_before, place_in}
use Rattle.lmn_base.proofs.Truth.{false_not_true as not_true}
use Rattle.lmn_store_heap.proofs.Filters.{in_filter}

-- Where atoms are filed

-- what is filed is an atom
pub filed_atom : (f : ℕ → Option HeldCell) (m : ℕ) (k : CellKind) → files f m k ≡ true → k ≡ Atom
filed_atom f m Atom e = refl
filed_atom f m Membrane e = absurd (not_true e)

-- in a membrane
pub files_inside : (f : ℕ → Option HeldCell) (m : ℕ) → files f m Atom ≡ true → cell_kind f m ≡ Atom → ⊥
files_inside f m e s = let n = eqb-true (number_in f m KIND) FILED e in let z : Membrane ≡ Atom = ap kind_by (sym n) ∙ s in cc

-- a membrane has eight numbers, where it files
pub filed_membrane : (f : ℕ → Option HeldCell) (made m : ℕ) → IsWeb f made → IsSome (f m) → files f m Atom ≡ true → length (numbers_of (f m)) ≡ 8
filed_membrane f made m w there e = let n = eqb-true (number_in f m KIND) FILED e in w.numbers m there ∙ ap numbers_by n

-- a membrane whose label has another class than 0 files nothing
pub files_none : (f : ℕ → Option HeldCell) (ys : ℕ → CellKind → List ℕ) → IsClassed f ys → (m : ℕ) → FilesNone (web_of f) m → (cell_kind f m ≡ Atom → ⊥) → (k : CellKind) → files f m k ≡ false
files_none f ys c m none membrane Membrane = refl
files_none f ys c m none membrane Atom = by (number_in f m KIND == FILED) refl
  where
    zero_class : (high low : ℕ) → high ≡ 0 → low < 2 ^ 64 → label_class (label_by high low) ≡ 0
    zero_class high low e l = omega (arith, e, l)

    at : (o : Option HeldCell) → f m ≡ o → (cell_kind f m ≡ Atom → ⊥) → get_or (numbers_of o) HIGH 0 ≡ 0 → get_or (numbers_of o) LOW 0 < 2 ^ 64 → ((l : ℕ) → web_label (λ _. option_map (web_cell (list_in f m)) o) m ≡ Some l → label_class l ≢ 0) → ⊥
    at None e d h l n = d (ap (λ (o : Option HeldCell). kind_by (get_or (numbers_of o) KIND 0)) e)
    at (Some x) e d h l n = n (label_by (get_or x.numbers HIGH 0) (get_or x.numbers LOW 0)) refl (zero_class (get_or x.numbers HIGH 0) (get_or x.numbers LOW 0) h l)

    by : (b : Bool) → (number_in f m KIND == FILED) ≡ b → b ≡ false
    by false e = refl
    by true e = absurd (at (f m) refl membrane (c.filing m (eqb-true (number_in f m KIND) FILED e)) (c.low m) none)

-- Classes stay

-- where the links of its atoms to each other, and its own to the first class, are as they were
module _ (f g : ℕ → Option HeldCell) (m : ℕ) (xs : List ℕ) (t : ClassTree) (keys : (x : ℕ) → In x xs → key_in g x ≡ key_in f x) (links : (x k : ℕ) → In x xs → PREV < k → link_in g x k ≡ link_in f x k)
    (stay : (x : ℕ) → In x xs → IsSome (f x) → IsSome (g x)) (head : link_in g m LEADERS ≡ link_in f m LEADERS) where
  list_kept : (p : ℕ × ℕ) → of_class g p xs ≡ of_class f p xs
  list_kept p = filter_same (λ a. is_key (key_in g a) p) (λ a. is_key (key_in f a) p) xs (λ x i. ap (λ q. is_key q p) (keys x i))

  -- a membrane keeps its classes
  pub class_kept : AreClassed f m xs t → AreClassed g m xs t
  class_kept c = record {
    tree = subst (λ o. IsTree g o t) (sym head) (tree_kept f g (link_in f m LEADERS) t (λ l i. (links l EVEN (c.inside l i) (omega arith), links l ODD (c.inside l i) (omega arith))) (λ l i. stay l (c.inside l i)) c.tree);
    sorted = sorted_keys f g 0 t (λ l i. keys l (c.inside l i)) c.sorted;
    inside = c.inside;
    every = λ x i. let o = c.every x i in (o.0, o.1, keys o.0 (c.inside o.0 o.1) ∙ o.2 ∙ sym (keys x i));
    rings = λ l i. let q = key_in f l in let r = c.rings l i in
        subst (λ k. IsRing g l (of_class g k xs)) (sym (keys l (c.inside l i)))
        (subst (λ us. IsRing g l us) (sym (list_kept q))
        (linked_frame (class_node f) (class_node g) l (of_class f q xs) (λ z j. let w = class_in l i z j in λ u. record { prev = links z CLASS_PREV w (omega arith) u; next = links z CLASS_NEXT w (omega arith) u }) r.0, r.1, r.2));
    inner = λ x i n. links x EVEN i (omega arith) ∙ c.inner x i n;
  }
    where
      -- a cell of a class is one of the membrane
      class_in : (l : ℕ) → In l (lasts t) → (z : ℕ) → In z (l ∷ of_class f (key_in f l) xs) → In z xs
      class_in l i z (inl e) = subst (λ u. In u xs) e (c.inside l i)
      class_in l i z (inr j) = (in_filter (λ a. is_key (key_in f a) (key_in f l)) z xs j).0

-- the classes of the lists that the cells tell
pub classed_self : (f : ℕ → Option HeldCell) (ys : ℕ → CellKind → List ℕ) → IsListed f ys → IsClassed f ys → IsClassed f (list_in f)
classed_self f ys l c = subst (λ (z : ℕ → CellKind → List ℕ). IsClassed f z) (sym (same_lists f ys l)) c

-- a change that leaves links, classes and halves of labels
pub classed_links : (f g : ℕ → Option HeldCell) (ys : ℕ → CellKind → List ℕ) → ((b k : ℕ) → link_in g b k ≡ link_in f b k) → ((b : ℕ) → key_in g b ≡ key_in f b) → ((b : ℕ) → number_in g b LOW ≡ number_in f b LOW) → ((b : ℕ) → number_in g b KIND ≡ number_in f b KIND)
    → ((b : ℕ) → IsSome (f b) → IsSome (g b)) → IsClassed f ys → IsClassed g ys
classed_links f g ys link key low kind stay c = record {
  classes = λ m d. let o = c.classes m (ap (λ n. n == FILED) (sym (kind m)) ∙ d) in (o.0, class_kept f g m (ys m Atom) o.0 (λ x i. key x) (λ x k i a. link x k) (λ x i t. stay x t) (link m LEADERS) o.1);
  filing = λ m e. ap (λ (q : ℕ × ℕ). q.0) (key m) ∙ c.filing m (sym (kind m) ∙ e);
  low = λ b. subst (λ n. n < 2 ^ 64) (sym (low b)) (c.low b);
}

-- one of ports and marks does
pub classed_told : (f g : ℕ → Option HeldCell) (ys : ℕ → CellKind → List ℕ) → ((b : ℕ) → told (g b) ≡ told (f b)) → IsClassed f ys → IsClassed g ys
classed_told f g ys same c = classed_links f g ys (λ b k. ap (λ (t : Told). get_or t.listing.links k None) (same b)) (λ b t. ((same b t).high, (same b t).arity)) (λ b. ap (λ (t : Told). t.low) (same b))
    (λ b. ap (λ (t : Told). t.listing.kind) (same b)) (λ b t. ap (λ (t : Told). t.listing.there) (same b) ∙ t) c

-- so it leaves a web
pub same_classed : (f g : ℕ → Option HeldCell) (made : ℕ) → IsClassedWeb f made → ((b : ℕ) → told (g b) ≡ told (f b)) → IsWeb g made → IsClassedWeb g made
same_classed f g made w same v = record {
  web = v;
  classed = classed_self g (list_in f) (lists_same f g (λ b. ap (λ (t : Told). t.listing) (same b)) (list_in f) w.web.listed) (classed_told f g (list_in f) same w.classed);
}

-- a cell comes or goes that stands in no list, has none, and has no class
pub classed_beside : (f g : ℕ → Option HeldCell) (a : ℕ) (ys : ℕ → CellKind → List ℕ) → ((b : ℕ) → b ≢ a → g b ≡ f b) → ((m : ℕ) (k : CellKind) → In a (ys m k) → ⊥) → ((k : CellKind) → ys a k ≡ []) → link_in g a LEADERS ≡ None → number_in g a LOW < 2 ^ 64
    → (number_in g a KIND ≡ FILED → number_in g a HIGH ≡ 0) → IsClassed f ys → IsClassed g ys
classed_beside f g a ys away out none head small told c = record {
  classes = λ m d. elim (cases_eq m a) [
    | inl e ↦ (Bare, subst (λ z. AreClassed g z (ys z Atom) Bare) (sym e) (subst (λ us. AreClassed g a us Bare) (sym (none Atom)) bare))
    | inr n ↦ (let o = c.classes m (ap (λ (o : Option HeldCell). get_or (numbers_of o) KIND 0 == FILED) (sym (away m n)) ∙ d) in (
      o.0,
      class_kept f g m (ys m Atom) o.0
          (λ x i t. (get_or (numbers_of (other m x i t)) HIGH 0, get_or (numbers_of (other m x i t)) ARITY 0))
          (λ x k i _. ap (λ (o : Option HeldCell). get_or (links_of o) k None) (other m x i))
          (λ x i t. subst (λ (o : Option HeldCell). IsSome o) (sym (other m x i)) t)
          (ap (λ (o : Option HeldCell). get_or (links_of o) LEADERS None) (away m n)) o.1,
    ))
  ];
  filing = λ m. elim (cases_eq m a) [
    | inl e ↦ subst (λ z. number_in g z KIND ≡ FILED → number_in g z HIGH ≡ 0) (sym e) told
    | inr n ↦ subst (λ (o : Option HeldCell). get_or (numbers_of o) KIND 0 ≡ FILED → get_or (numbers_of o) HIGH 0 ≡ 0) (sym (away m n)) (c.filing m)
  ];
  low = λ b. elim (cases_eq b a) [
    | inl e ↦ subst (λ z. number_in g z LOW < 2 ^ 64) (sym e) small
    | inr n ↦ subst (λ (o : Option HeldCell). get_or (numbers_of o) LOW 0 < 2 ^ 64) (sym (away b n)) (c.low b)
  ];
}
  where
    other : (m x : ℕ) → In x (ys m Atom) → g x ≡ f x
    other m x i = away x (λ e. out m Atom (subst (λ u. In u (ys m Atom)) e i))

    bare : AreClassed g a [] Bare
    bare = record { tree = head; sorted = tt; inside = λ l i. i; every = λ x i. absurd i; rings = λ l i. absurd i; inner = λ x i. absurd i }

-- no cell, no class
pub empty_classed : (f : ℕ → Option HeldCell) (made : ℕ) → f ≡ (λ _. None) → IsWeb f made → IsClassedWeb f made
empty_classed f made none w = record {
  web = w;
  classed = subst (λ (g : ℕ → Option HeldCell). IsClassed g (list_in g)) (sym none) record { classes = λ m d. absurd (not_true d); filing = λ m e. refl; low = λ b. omega arith };
}

-- a new cell has no class
pub made_classed : (f : ℕ → Option HeldCell) (made : ℕ) → IsClassedWeb f made → (a n k h low : ℕ) → f a ≡ None → n < 256 → (i : ℕ) → i < made → IsNewIndex f i → low < 2 ^ 64
    → (k ≡ FILED → h ≡ 0) → IsClassedWeb (alter f a (λ _. Some (described n k h low (blank_by i k n)))) made
made_classed f made w a n k h low fresh small i below new half told =
    let v : HeldCell = described n k h low (blank_by i k n) in let g = alter f a (λ _. Some v) in
    let here : g a ≡ Some v = alter_at f a (λ _. Some v) in
    let gone : IsSome (f a) → ⊥ = λ t. (let e = subst (λ (o : Option HeldCell). IsSome o) fresh t in absurd cc) in
    record {
      web = made_web f made w.web a n k h low fresh small i below new;
      classed = classed_self g (list_in f) (made_lists f made w.web a n k h low fresh small i below new)
          (classed_beside f g a (list_in f) (λ b d. alter_away f a (λ _. Some v) b d) (λ m j i. gone (cell_of f (list_in f) w.web.listed m a j i).0) (no_list f made w.web a n k h low fresh small i below new)
          (ap (λ (o : Option HeldCell). get_or (links_of o) LEADERS None) here) (subst (λ z. z < 2 ^ 64) (sym (ap (λ (o : Option HeldCell). get_or (numbers_of o) LOW 0) here)) half)
          (subst (λ (o : Option HeldCell). get_or (numbers_of o) KIND 0 ≡ FILED → get_or (numbers_of o) HIGH 0 ≡ 0) (sym here) told) w.classed);
    }

-- What the steps of lists leave

-- all links behind those of lists but of the membrane, and its own to the first class
abbrev pub Leaves : (ℕ → Option HeldCell) → (ℕ → Option HeldCell) → ℕ → Type 0
Leaves f g m = (b k : ℕ) → PREV < k → (b ≡ m → k ≡ LEADERS) → link_in g b k ≡ link_in f b k

own_end : (f : ℕ → Option HeldCell) (m e : ℕ) (v : Option ℕ) → e < LEADERS → Leaves f (alter f m (option_map (with_link e v))) m
own_end f m e v low b k d a = link_other f m e v b k (λ s z. let l = a z in absurd (omega (arith, s, l, low)))

list_link_left : (f : ℕ → Option HeldCell) (q j : ℕ) (v : Option ℕ) (m : ℕ) → j ≤ PREV → Leaves f (alter f q (option_map (with_link j v))) m
list_link_left f q j v m low b k d a = link_other f q j v b k (λ s _. absurd (omega (arith, s, d, low)))

next_left : (f : ℕ → Option HeldCell) (m e : ℕ) (p n : Option ℕ) → e < LEADERS → Leaves f (with_next f m e p n) m
next_left f m e None n low = own_end f m e n low
next_left f m e (Some q) n low = list_link_left f q NEXT n m (omega arith)

prev_left : (f : ℕ → Option HeldCell) (m e : ℕ) (n p : Option ℕ) → e + 1 < LEADERS → Leaves f (with_prev f m e n p) m
prev_left f m e None p low = own_end f m (e + 1) p low
prev_left f m e (Some q) p low = list_link_left f q PREV p m (omega arith)

-- one more cell at the end
appended_left : (f : ℕ → Option HeldCell) (m e x : ℕ) → e + 1 < LEADERS → Leaves f (appended f m e x) m
appended_left f m e x low b k d a =
    let p = link_in f m (e + 1) in let a1 = alter f x (option_map (with_link HOME (Some m))) in let a2 = alter a1 x (option_map (with_link PREV p)) in let a3 = alter a2 x (option_map (with_link NEXT None)) in
    own_end (with_next a3 m e p (Some x)) m (e + 1) (Some x) low b k d a ∙ next_left a3 m e p (Some x) (omega (arith, low)) b k d a
    ∙ list_link_left a2 x NEXT None m (omega arith) b k d a ∙ list_link_left a1 x PREV p m (omega arith) b k d a ∙ list_link_left f x HOME (Some m) m (omega arith) b k d a

-- or before another
inserted_left : (f : ℕ → Option HeldCell) (m e z x : ℕ) → e + 1 < LEADERS → Leaves f (inserted f m e z x) m
inserted_left f m e z x low b k d a =
    let p = link_in f z PREV in let a1 = alter f x (option_map (with_link HOME (Some m))) in let a2 = alter a1 x (option_map (with_link PREV p)) in let a3 = alter a2 x (option_map (with_link NEXT (Some z))) in
    list_link_left (with_next a3 m e p (Some x)) z PREV (Some x) m (omega arith) b k d a ∙ next_left a3 m e p (Some x) (omega (arith, low)) b k d a
    ∙ list_link_left a2 x NEXT (Some z) m (omega arith) b k d a ∙ list_link_left a1 x PREV p m (omega arith) b k d a ∙ list_link_left f x HOME (Some m) m (omega arith) b k d a

-- one less
unlinked_left : (f : ℕ → Option HeldCell) (m e x : ℕ) → e + 1 < LEADERS → Leaves f (unlinked f m e x) m
unlinked_left f m e x low b k d a =
    let p = link_in f x PREV in let n = link_in f x NEXT in let f1 = with_next f m e p n in
    list_link_left (with_prev f1 m e n p) x HOME None m (omega arith) b k d a ∙ prev_left f1 m e n p low b k d a ∙ next_left f m e p n (omega (arith, low)) b k d a

-- a number leaves all links
number_left : (f : ℕ → Option HeldCell) (m q n b k : ℕ) → link_in (alter f m (option_map (with_number q n))) b k ≡ link_in f b k
number_left f m q n b k = keeps (λ o. get_or (links_of o) k None) f m (with_number q n) by b
  where
    by : (o : Option HeldCell) → get_or (links_of (option_map (with_number q n) o)) k None ≡ get_or (links_of o) k None
    by None = refl
    by (Some c) = refl

-- the ends of a list come before the link to the first class
pub link_low : (k : CellKind) → list_link k + 1 < LEADERS
link_low Atom = omega arith
link_low Membrane = omega arith

counted_left : (f F g : ℕ → Option HeldCell) (m q n : ℕ) → g ≡ alter F m (option_map (with_number q n)) → Leaves f F m → Leaves f g m
counted_left f F g m q n e l b k d a = ap (λ (u : ℕ → Option HeldCell). link_in u b k) e ∙ number_left F m q n b k ∙ l b k d a

-- what a cell at the end leaves
pub appends_left : (f F g : ℕ → Option HeldCell) (m e x q n : ℕ) (k : CellKind) → e ≡ list_link k → F ≡ appended f m e x → g ≡ alter F m (option_map (with_number q n)) → Leaves f g m
appends_left f F g m e x q n k at is told = counted_left f F g m q n told (subst (λ (u : ℕ → Option HeldCell). Leaves f u m) (sym is) (appended_left f m e x (subst (λ j. j + 1 < LEADERS) (sym at) (link_low k))))

-- one before another
pub inserts_left : (f F g : ℕ → Option HeldCell) (m e z x q n : ℕ) (k : CellKind) → e ≡ list_link k → F ≡ inserted f m e z x → g ≡ alter F m (option_map (with_number q n)) → Leaves f g m
inserts_left f F g m e z x q n k at is told = counted_left f F g m q n told (subst (λ (u : ℕ → Option HeldCell). Leaves f u m) (sym is) (inserted_left f m e z x (subst (λ j. j + 1 < LEADERS) (sym at) (link_low k))))

-- and one that leaves
pub unlinks_left : (f F g : ℕ → Option HeldCell) (m e x q n : ℕ) (k : CellKind) → e ≡ list_link k → F ≡ unlinked f m e x → g ≡ alter F m (option_map (with_number q n)) → Leaves f g m
unlinks_left f F g m e x q n k at is told = counted_left f F g m q n told (subst (λ (u : ℕ → Option HeldCell). Leaves f u m) (sym is) (unlinked_left f m e x (subst (λ j. j + 1 < LEADERS) (sym at) (link_low k))))

-- A list changes, and then its classes

abbrev key_by_core : Option Core → ℕ × ℕ
key_by_core None = (0, 0)
key_by_core (Some q) = (q.high, q.arity)

key_core : (o : Option HeldCell) → (get_or (numbers_of o) HIGH 0, get_or (numbers_of o) ARITY 0) ≡ key_by_core (core_of o)
key_core None = refl
key_core (Some c) = refl

abbrev low_by_core : Option Core → ℕ
low_by_core None = 0
low_by_core (Some q) = q.low

low_core : (o : Option HeldCell) → get_or (numbers_of o) LOW 0 ≡ low_by_core (core_of o)
low_core None = refl
low_core (Some c) = refl

abbrev count_by_core : Option Core → ℕ
count_by_core None = 0
count_by_core (Some q) = q.numbers

count_core : (o : Option HeldCell) → length (numbers_of o) ≡ count_by_core (core_of o)
count_core None = refl
count_core (Some c) = refl

abbrev number_by_core : Option Core → ℕ
number_by_core None = 0
number_by_core (Some q) = q.kind

number_core : (o : Option HeldCell) → get_or (numbers_of o) KIND 0 ≡ number_by_core (core_of o)
number_core None = refl
number_core (Some c) = refl

module _ (f F : ℕ → Option HeldCell) (made : ℕ) (w : IsClassedWeb f made) (m x : ℕ) (h : Option ℕ) (xs : List ℕ) (r : Relists f F (list_in f) m x h xs) (leaves : Leaves f F m) where
  abbrev own : List ℕ
  own = list_in f m (cell_kind f x)

  abbrev lists : ℕ → CellKind → List ℕ
  lists = new f F (list_in f) w.web.listed m x h xs r

  -- a cell of a list of atoms is one, and not the membrane
  atom_of : (n z : ℕ) → In z (list_in f n Atom) → cell_kind f z ≡ Atom
  atom_of n z i = w.web.listed.kinds n z Atom i

  no_m : (n z : ℕ) → In z (list_in f n Atom) → z ≡ m → ⊥
  no_m n z i e = r.membrane (ap (cell_kind f) (sym e) ∙ atom_of n z i)

  -- a cell keeps its class
  pub key_still : (b : ℕ) → key_in F b ≡ key_in f b
  key_still b = key_core (F b) ∙ ap key_by_core (r.cores b) ∙ sym (key_core (f b))

  low_still : (b : ℕ) → number_in F b LOW ≡ number_in f b LOW
  low_still b = low_core (F b) ∙ ap low_by_core (r.cores b) ∙ sym (low_core (f b))

  kind_still : (b : ℕ) → number_in F b KIND ≡ number_in f b KIND
  kind_still b = number_core (F b) ∙ ap number_by_core (r.cores b) ∙ sym (number_core (f b))

  filing_still : (n : ℕ) → number_in F n KIND ≡ FILED → number_in F n HIGH ≡ 0
  filing_still n e = ap (λ (q : ℕ × ℕ). q.0) (key_still n) ∙ w.classed.filing n (sym (kind_still n) ∙ e)

  -- and a membrane files as it did
  files_still : (n : ℕ) → files F n Atom ≡ files f n Atom
  files_still n = ap (λ k. k == FILED) (kind_still n)

  -- the lists as they were have their classes
  pub still_classed : (n : ℕ) → files f n Atom ≡ true → (t : ClassTree) × AreClassed F n (list_in f n Atom) t
  still_classed n d =
      let o = w.classed.classes n d in
      (o.0, class_kept f F n (list_in f n Atom) o.0 (λ z i. key_still z) (λ z k i a. leaves z k a (λ e. absurd (no_m n z i e))) (λ z i t. there f F (list_in f) w.web.listed m x h xs r z t) (leaves n LEADERS (omega arith) (λ _. refl)) o.1)

  -- the classes of the membrane, where it files them
  abbrev tree_by : (b : Bool) → files f m Atom ≡ b → (t : ClassTree) × (b ≡ true → AreClassed F m (list_in f m Atom) t)
  tree_by true e = let o = still_classed m e in (o.0, λ _. o.1)
  tree_by false e = (Bare, λ t. absurd (not_true t))

  abbrev pub tree : ClassTree
  tree = (tree_by (files f m Atom) refl).0

  -- an atom may be filed
  may_file : files f m (cell_kind f x) ≡ true → IsSome (f x) → MayFile F m x own tree
  may_file filed t =
      let atom = filed_atom f m (cell_kind f x) filed in
      let stay : (z : ℕ) → IsSome (f z) → IsSome (F z) = λ z s. there f F (list_in f) w.web.listed m x h xs r z s in
      subst (λ k. MayFile F m x (list_in f m k) tree) (sym atom) record {
        classed = (tree_by (files f m Atom) refl).1 (ap (files f m) (sym atom) ∙ filed);
        once = (w.web.listed.line m Atom r.membrane).once;
        alive = λ z i. stay z (cell_of f (list_in f) w.web.listed m z Atom i).0;
        there_m = stay m (m_there f F (list_in f) w.web.listed m x h xs r);
        membrane = count_core (F m) ∙ ap count_by_core (r.cores m) ∙ sym (count_core (f m)) ∙ filed_membrane f made m w.web (m_there f F (list_in f) w.web.listed m x h xs r) (ap (files f m) (sym atom) ∙ filed);
        there_c = stay x t;
        no_m = λ i. no_m m m i refl;
        not_m = r.differ;
        kinds = λ z i. ap kind_by (kind_still z) ∙ atom_of m z i;
        home = files_membrane F m (files_still m ∙ ap (files f m) (sym atom) ∙ filed);
      }

  -- an atom that came into a list may be filed in its class
  pub may_enter : (place : Option ℕ) → files f m (cell_kind f x) ≡ true → IsSome (f x) → (In x own → ⊥) → ((d : ℕ) → place ≡ Some d → In d own × (key_in F d ≡ key_in F x)) → ClassBecomes F (key_in F x) own (put_at x place (of_class F (key_in F x) own)) xs
      → MayEnter F m x place own tree xs
  may_enter place filed t fresh inside one = record { may = may_file filed t; fresh = fresh; inside = inside; one = one }

  -- and one that left may leave its class
  pub may_leave : files f m (cell_kind f x) ≡ true → IsSome (f x) → In x own → ClassBecomes F (key_in F x) own (without x (of_class F (key_in F x) own)) xs → MayLeave F m x own tree xs
  may_leave filed t inside one = record { may = may_file filed t; inside = inside; one = one }

  -- the classes of a list are as they were
  pub class_still : (p : ℕ × ℕ) (us : List ℕ) → of_class F p us ≡ of_class f p us
  class_still p us = filter_same (λ a. is_key (key_in F a) p) (λ a. is_key (key_in f a) p) us (λ z i. ap (λ q. is_key q p) (key_still z))

  -- one that came before another, by the first of its class from there on
  pub may_before : (a : ℕ) (place : Option ℕ) → put_before x a own ≡ xs → files f m (cell_kind f x) ≡ true → IsSome (f x) → link_in f x HOME ≡ None → In a own
      → from place (of_class f (key_in f x) (list_in f m Atom)) ≡ of_class f (key_in f x) (from (Some a) (list_in f m Atom)) → MayEnter F m x place own tree xs
  may_before a place is filed t free i found =
      let atom = filed_atom f m (cell_kind f x) filed in
      let k = cell_kind f x in let q = key_in f x in
      let found_own : from place (of_class f q own) ≡ of_class f q (from (Some a) own) = subst (λ j. from place (of_class f q (list_in f m j)) ≡ of_class f q (from (Some a) (list_in f m j))) (sym atom) found in
      let still : (us : List ℕ) → of_class F (key_in F x) us ≡ of_class f q us = λ us. class_still (key_in F x) us ∙ ap (λ p. of_class f p us) (key_still x) in
      let found_then : from place (of_class F (key_in F x) own) ≡ of_class F (key_in F x) (from (Some a) own) = ap (from place) (still own) ∙ found_own ∙ sym (still (from (Some a) own)) in
      let once : Distinct own = subst (λ j. Distinct (list_in f m j)) (sym atom) (w.web.listed.line m Atom r.membrane).once in
      may_enter place filed t (in_none f (list_in f) w.web.listed x free m k)
      (λ d s. let n = place_in f q a place own i found_own d s in (n.0, key_still d ∙ n.1 ∙ sym (key_still x)))
      (subst (λ us. ClassBecomes F (key_in F x) own (put_at x place (of_class F (key_in F x) own)) us) is (one_before F x a place own once i found_then))

  module _ (G : ℕ → Option HeldCell) (zs : List ℕ) (p : ℕ × ℕ) (t : Touches F G m zs p) (atoms : (z : ℕ) → In z zs → cell_kind F z ≡ Atom) where
    link_stays : (n e : ℕ) → (cell_kind f n ≡ Atom → ⊥) → (n ≡ m → e ≢ LEADERS) → link_in G n e ≡ link_in F n e
    link_stays n e d c = t.away n e (λ i. d (sym (kind_is f F (list_in f) w.web.listed m x h xs r n) ∙ atoms n i)) c

    line_stays : (n : ℕ) (k : CellKind) (us : List ℕ) → (cell_kind f n ≡ Atom → ⊥) → Line F n (list_link k) us → Line G n (list_link k) us
    line_stays n k us d l = record {
      runs = subst (λ o. RunsThrough (node_in G) None o us (link_in G n (list_link k + 1)) None) (sym (link_stays n (list_link k) d (λ _ e. let b = link_low k in absurd (omega (arith, e, b)))))
          (subst (λ o. RunsThrough (node_in G) None (link_in F n (list_link k)) us o None) (sym (link_stays n (list_link k + 1) d (λ _ e. let b = link_low k in absurd (omega (arith, e, b)))))
          (frame (node_in F) (node_in G) None (link_in F n (list_link k)) us (link_in F n (list_link k + 1)) None
          (each_of _ us (λ z i u. record { prev = t.links z PREV (omega arith) u; next = t.links z NEXT (omega arith) u })) l.runs));
      cells = each_of _ us (λ z i. let c = each_in (λ y. IsSome (F y) × (y ≢ n) × (link_in F y HOME ≡ Some n)) us z l.cells i in
          (ap (λ (u : AllButLinks). u.there) (t.rests z) ∙ c.0, c.1, t.links z HOME (omega arith) ∙ c.2));
      once = l.once;
    }

    -- filing leaves the lists
    touched_relists : Relists f G (list_in f) m x h xs
    touched_relists = record {
      cores = λ b. core_rest (G b) ∙ ap back (t.rests b) ∙ sym (core_rest (F b)) ∙ r.cores b;
      differ = r.differ;
      membrane = r.membrane;
      home_at = t.links x HOME (omega arith) ∙ r.home_at;
      home_away = λ b d. t.links b HOME (omega arith) ∙ r.home_away b d;
      count_at = ap (λ (u : AllButLinks). get_or u.numbers (count_number (cell_kind f x)) 0) (t.rests m) ∙ r.count_at;
      count_away = λ n j d. ap (λ (u : AllButLinks). get_or u.numbers (count_number j) 0) (t.rests n) ∙ r.count_away n j d;
      line = line_stays m (cell_kind f x) xs r.membrane r.line;
      others = λ n j c d. line_stays n j (list_in f n j) c (r.others n j c d);
      was = r.was;
      stays = r.stays;
      comes = r.comes;
    }

    -- and the classes of all other membranes
    others_classed : (n : ℕ) → n ≢ m → files f n Atom ≡ true → ((z : ℕ) → In z (list_in f n Atom) → In z zs → ⊥) → (t : ClassTree) × AreClassed G n (list_in f n Atom) t
    others_classed n d c apart =
        let o = still_classed n c in (
          o.0,
          class_kept F G n (list_in f n Atom) o.0 (λ z i u. (get_or (t.rests z u).numbers HIGH 0, get_or (t.rests z u).numbers ARITY 0)) (λ z k i a. t.away z k (apart z i) (λ e. absurd (no_m n z i e)))
              (λ z i s. ap (λ (u : AllButLinks). u.there) (t.rests z) ∙ s) (link_stays n LEADERS (files_inside f n c) (λ e. absurd (d e))) o.1,
        )

    low_touched : (b : ℕ) → number_in G b LOW < 2 ^ 64
    low_touched b = subst (λ n. n < 2 ^ 64) (sym (ap (λ (u : AllButLinks). get_or u.numbers LOW 0) (t.rests b) ∙ low_still b)) (w.classed.low b)

  -- a change of a list in which nothing is filed leaves all classes
  unfiled_classed : files f m (cell_kind f x) ≡ false → IsClassed F lists
  unfiled_classed e = record {
    classes = λ n d. each f F (list_in f) w.web.listed m x h xs r (λ n j us. j ≡ Atom → files F n Atom ≡ true → (t : ClassTree) × AreClassed F n us t)
        (λ s c. absurd (let z : true ≡ false = sym c ∙ files_still m ∙ ap (files f m) (sym s) ∙ e in cc)) (λ n j _ s c. subst (λ i. (t : ClassTree) × AreClassed F n (list_in f n i) t) (sym s) (still_classed n (sym (files_still n) ∙ c))) n Atom refl d;
    filing = filing_still;
    low = λ b. subst (λ n. n < 2 ^ 64) (sym (low_still b)) (w.classed.low b);
  }

  -- one of a list of atoms and then of its classes
  atom_classed : (G : ℕ → Option HeldCell) (zs : List ℕ) (p : ℕ × ℕ) → cell_kind f x ≡ Atom → (filed : Refiled F G m zs p xs) → (atoms : (z : ℕ) → In z zs → cell_kind F z ≡ Atom) → ((n z : ℕ) → n ≢ m → In z (list_in f n Atom) → In z zs → ⊥)
      → IsClassed G lists
  atom_classed G zs p e filed atoms apart = record {
    classes = λ n d. each f F (list_in f) w.web.listed m x h xs r (λ n j us. j ≡ Atom → files F n Atom ≡ true → (t : ClassTree) × AreClassed G n us t)
        (λ s c. (filed.tree, filed.classed)) (λ n j away s c. subst (λ i. (t : ClassTree) × AreClassed G n (list_in f n i) t) (sym s)
        (let other : n ≢ m = λ q. away q (s ∙ sym e) in
        others_classed G zs p filed.touches atoms n other (sym (files_still n) ∙ c) (λ z i k. apart n z other i k))) n Atom refl
        (ap (λ (u : AllButLinks). get_or u.numbers KIND 0 == FILED) (sym (filed.touches.rests n)) ∙ d);
    filing = λ n d. ap (λ (u : AllButLinks). get_or u.numbers HIGH 0) (filed.touches.rests n) ∙ filing_still n (ap (λ (u : AllButLinks). get_or u.numbers KIND 0) (sym (filed.touches.rests n)) ∙ d);
    low = low_touched G zs p filed.touches atoms;
  }

  module _ (G : ℕ → Option HeldCell) (zs : List ℕ) (p : ℕ × ℕ) (atoms : cell_kind f x ≡ Atom → (z : ℕ) → In z zs → cell_kind F z ≡ Atom) (apart : cell_kind f x ≡ Atom → (n z : ℕ) → n ≢ m → In z (list_in f n Atom) → In z zs → ⊥) where
    -- the list is another
    filed_relists : (b : Bool) → b ≡ files f m (cell_kind f x) → FiledAs b F G m zs p xs → Relists f G (list_in f) m x h xs
    filed_relists true e filed = touched_relists G zs p filed.touches (atoms (filed_atom f m (cell_kind f x) (sym e)))
    filed_relists false e same = subst (λ (u : ℕ → Option HeldCell). Relists f u (list_in f) m x h xs) (sym same) r

    filed_lists : (b : Bool) → b ≡ files f m (cell_kind f x) → FiledAs b F G m zs p xs → IsClassed G lists
    filed_lists true e filed = let atom = filed_atom f m (cell_kind f x) (sym e) in atom_classed G zs p atom filed (atoms atom) (apart atom)
    filed_lists false e same = subst (λ (u : ℕ → Option HeldCell). IsClassed u lists) (sym same) (unfiled_classed (sym e))

    -- and its classes follow
    filed_web : (b : Bool) → b ≡ files f m (cell_kind f x) → FiledAs b F G m zs p xs → IsClassedWeb G made
    filed_web b e filed =
        let v = filed_relists b e filed in
        record {
          web = relists_web f G made w.web m x h xs v;
          classed = classed_self G lists (new_lists f G (list_in f) w.web.listed m x h xs v) (filed_lists b e filed);
        }

  -- The three calls

  own_atom : cell_kind f x ≡ Atom → (z : ℕ) → In z own → cell_kind F z ≡ Atom
  own_atom e z i = kind_is f F (list_in f) w.web.listed m x h xs r z ∙ w.web.listed.kinds m z (cell_kind f x) i ∙ e

  own_apart : (n z : ℕ) → n ≢ m → In z (list_in f n Atom) → In z own → ⊥
  own_apart n z d i k =
      let a = cell_of f (list_in f) w.web.listed n z Atom i in let b = cell_of f (list_in f) w.web.listed m z (cell_kind f x) k in
      let e : Some n ≡ Some m = sym a.2 ∙ b.2 in d (let q : n ≡ m = cc in q)

  more_atoms : cell_kind f x ≡ Atom → (z : ℕ) → In z (x ∷ own) → cell_kind F z ≡ Atom
  more_atoms e z (inl s) = ap (cell_kind F) (sym s) ∙ kind_is f F (list_in f) w.web.listed m x h xs r x ∙ e
  more_atoms e z (inr i) = own_atom e z i

  more_apart : link_in f x HOME ≡ None → (n z : ℕ) → n ≢ m → In z (list_in f n Atom) → In z (x ∷ own) → ⊥
  more_apart free n z d i (inl s) = in_none f (list_in f) w.web.listed x free n Atom (subst (λ u. In u (list_in f n Atom)) (sym s) i)
  more_apart free n z d i (inr k) = own_apart n z d i k

  -- a cell that came into a list and its class leaves a web
  pub entered_web : (G : ℕ → Option HeldCell) (b : Bool) (p : ℕ × ℕ) → b ≡ files f m (cell_kind f x) → link_in f x HOME ≡ None → FiledAs b F G m (x ∷ own) p xs → IsClassedWeb G made
  entered_web G b p e free filed = filed_web G (x ∷ own) p more_atoms (λ _. more_apart free) b e filed

  -- in which the list is another
  pub entered_list : (G : ℕ → Option HeldCell) (b : Bool) (p : ℕ × ℕ) → b ≡ files f m (cell_kind f x) → link_in f x HOME ≡ None → FiledAs b F G m (x ∷ own) p xs → Relists f G (list_in f) m x h xs
  entered_list G b p e free filed = filed_relists G (x ∷ own) p more_atoms (λ _. more_apart free) b e filed

  -- so does one that left both
  pub left_web : (G : ℕ → Option HeldCell) (b : Bool) (p : ℕ × ℕ) → b ≡ files f m (cell_kind f x) → FiledAs b F G m own p xs → IsClassedWeb G made
  left_web G b p e filed = filed_web G own p own_atom (λ _. own_apart) b e filed

  -- and the list is another
  pub left_list : (G : ℕ → Option HeldCell) (b : Bool) (p : ℕ × ℕ) → b ≡ files f m (cell_kind f x) → FiledAs b F G m own p xs → Relists f G (list_in f) m x h xs
  left_list G b p e filed = filed_relists G own p own_atom (λ _. own_apart) b e filed
