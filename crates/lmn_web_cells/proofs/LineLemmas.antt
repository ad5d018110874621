-- What leaves a list, and what comes to its end.
use Rattle.std.proofs.Common.{◌≡◌, ◌≢◌, ℕ, ◌+◌, ◌<◌, ◌==◌, List, [], ◌∷◌, ◌++◌, length, get_or, Option, Some, None, IsSome, IfSome, refl, sym, ap, subst, ◌∙◌, inl, inr, arith, get_or-set_same, get_or-set_other, length-set}
use Rattle.std.proofs.lemmas.Bool.{cases_eq, eq-eqb}
use Rattle.std.specs.Option.{option_map}
use Rattle.std.specs.List.{AllByRecursion}
use Rattle.lmn_base.specs.Lists.{In}
use Rattle.lmn_store_heap.specs.Lists.{Distinct, without}
use Rattle.lmn_store_heap.proofs.ListLemmas.{each_in, each_of, in_left, in_right, in_split, without_at}
use Rattle.lmn_store_heap.proofs.Listing.{distinct_without, distinct_snoc}
use Rattle.lmn_web_cells.specs.Cells.{HeldCell, links_of, with_link, HaveLinks}
use Rattle.lmn_store_heap.specs.Heap.{alter}
use Rattle.lmn_web_cells.specs.Runs.{RunsThrough, node_in, link_in, Line, IsHome, Apart, with_next, with_prev, unlinked, appended}
use Rattle.lmn_web_cells.specs.Links.{HOME, NEXT, PREV}
use Rattle.lmn_web_cells.proofs.CellRows.{if_yes}
use Rattle.lmn_store_heap.proofs.Listing.{alter_at, alter_away}
use Rattle.lmn_base.proofs.Numbers.{not_equal}
use Rattle.lmn_web_cells.proofs.RunLemmas.{Left, Joined, begins, ends, frame, split, leaves, joins, before_in, after_in}
use Rattle.lmn_base.proofs.Truth.{if_no}
use Rattle.lmn_store_heap.proofs.Common.{in_of_without as in_rest}

-- One change

-- a change keeps what is there
pub still_there : (f : ℕ → Option HeldCell) (a : ℕ) (g : HeldCell → HeldCell) (k : ℕ) → IsSome (f k) → IsSome (alter f a (option_map g) k)
still_there f a g k t = elim (cases_eq k a) [
  | inl e ↦ subst (λ m. IsSome (alter f a (option_map g) m)) (sym e) (subst (λ (o : Option HeldCell). IsSome o) (sym (alter_at f a (option_map g))) (by (f a) (subst (λ m. IsSome (f m)) e t)))
  | inr d ↦ subst (λ (o : Option HeldCell). IsSome o) (sym (alter_away f a (option_map g) k d)) t
]
  where
    by : (o : Option HeldCell) → IsSome o → IsSome (option_map g o)
    by None t = absurd cc
    by (Some x) t = refl

-- a change that keeps a part of a cell
pub keeps : {Y : Type 0} (v : Option HeldCell → Y) (f : ℕ → Option HeldCell) (a : ℕ) (g : HeldCell → HeldCell) → ((o : Option HeldCell) → v (option_map g o) ≡ v o) → (k : ℕ) → v (alter f a (option_map g) k) ≡ v (f k)
keeps v f a g h k = elim (cases_eq k a) [
  | inl e ↦ ap (λ m. v (alter f a (option_map g) m)) e ∙ ap v (alter_at f a (option_map g)) ∙ h (f a) ∙ ap (λ m. v (f m)) (sym e)
  | inr d ↦ ap v (alter_away f a (option_map g) k d)
]

-- the link itself
pub link_same : (f : ℕ → Option HeldCell) (q j : ℕ) (v : Option ℕ) → j < length (links_of (f q)) → link_in (alter f q (option_map (with_link j v))) q j ≡ v
link_same f q j v low = ap (λ (o : Option HeldCell). get_or (links_of o) j None) (alter_at f q (option_map (with_link j v))) ∙ by (f q) low
  where
    by : (o : Option HeldCell) → j < length (links_of o) → get_or (links_of (option_map (with_link j v) o)) j None ≡ v
    by None l = absurd (omega (arith, l))
    by (Some c) l = get_or-set_same c.links j v None l

-- other links
pub link_other : (f : ℕ → Option HeldCell) (q j : ℕ) (v : Option ℕ) (a k : ℕ) → (k ≡ j → a ≡ q → ⊥) → link_in (alter f q (option_map (with_link j v))) a k ≡ link_in f a k
link_other f q j v a k d = elim (cases_eq a q) [
  | inl e ↦ ap (λ m. link_in (alter f q (option_map (with_link j v))) m k) e ∙ ap (λ (o : Option HeldCell). get_or (links_of o) k None) (alter_at f q (option_map (with_link j v))) ∙ by (f q) (λ z. d z e) ∙ ap (λ m. link_in f m k) (sym e)
  | inr n ↦ ap (λ (o : Option HeldCell). get_or (links_of o) k None) (alter_away f q (option_map (with_link j v)) a n)
]
  where
    by : (o : Option HeldCell) → (k ≡ j → ⊥) → get_or (links_of (option_map (with_link j v) o)) k None ≡ get_or (links_of o) k None
    by None n = refl
    by (Some c) n = get_or-set_other c.links j k v None (λ e. n e)

-- a link that a list ends at leaves those behind it
pub link_below : (f : ℕ → Option HeldCell) (m i : ℕ) (v : Option ℕ) (a k : ℕ) → k < i → link_in (alter f m (option_map (with_link i v))) a k ≡ link_in f a k
link_below f m i v a k l = link_other f m i v a k (λ z. absurd (omega (arith, z, l)))

-- a link of a node leaves those at which lists end
pub link_above : (f : ℕ → Option HeldCell) (q j : ℕ) (v : Option ℕ) (m i : ℕ) → j < i → link_in (alter f q (option_map (with_link j v))) m i ≡ link_in f m i
link_above f q j v m i l = link_other f q j v m i (λ z. absurd (omega (arith, z, l)))

-- The two steps of leaving

pub count_links : (j : ℕ) (v : Option ℕ) (o : Option HeldCell) → length (links_of (option_map (with_link j v) o)) ≡ length (links_of o)
count_links j v None = refl
count_links j v (Some c) = length-set c.links j v

-- another next leaves each cell its number of links
pub links_next : (f : ℕ → Option HeldCell) (m e : ℕ) (p n : Option ℕ) (a : ℕ) → length (links_of (with_next f m e p n a)) ≡ length (links_of (f a))
links_next f m e None n a = keeps (λ o. length (links_of o)) f m (with_link e n) (count_links e n) a
links_next f m e (Some q) n a = keeps (λ o. length (links_of o)) f q (with_link NEXT n) (count_links NEXT n) a

-- another next leaves each cell
pub there_next : (f : ℕ → Option HeldCell) (m e : ℕ) (p n : Option ℕ) (a : ℕ) → IsSome (f a) → IsSome (with_next f m e p n a)
there_next f m e None n a t = still_there f m (with_link e n) a t
there_next f m e (Some q) n a t = still_there f q (with_link NEXT n) a t

-- another prev leaves each cell
pub there_prev : (f : ℕ → Option HeldCell) (m e : ℕ) (n p : Option ℕ) (a : ℕ) → IsSome (f a) → IsSome (with_prev f m e n p a)
there_prev f m e None p a t = still_there f m (with_link (e + 1) p) a t
there_prev f m e (Some q) p a t = still_there f q (with_link PREV p) a t

-- where a list begins then, and where it ends
pub next_first : (f : ℕ → Option HeldCell) (m e : ℕ) (p n : Option ℕ) → PREV < e → e < length (links_of (f m)) → link_in (with_next f m e p n) m e ≡ begins (link_in f m e) p n
next_first f m e None n b l = link_same f m e n l
next_first f m e (Some q) n b l = link_above f q NEXT n m e (omega (arith, b))

-- another next leaves where a list ends
pub next_last : (f : ℕ → Option HeldCell) (m e : ℕ) (p n : Option ℕ) → PREV < e → link_in (with_next f m e p n) m (e + 1) ≡ link_in f m (e + 1)
next_last f m e None n b = link_other f m e n m (e + 1) (λ z. absurd (omega (arith, z)))
next_last f m e (Some q) n b = link_above f q NEXT n m (e + 1) (omega (arith, b))

prev_first : (f : ℕ → Option HeldCell) (m e : ℕ) (n p : Option ℕ) → PREV < e → link_in (with_prev f m e n p) m e ≡ link_in f m e
prev_first f m e None p b = link_other f m (e + 1) p m e (λ z. absurd (omega (arith, z)))
prev_first f m e (Some q) p b = link_above f q PREV p m e b

prev_last : (f : ℕ → Option HeldCell) (m e : ℕ) (n p : Option ℕ) → PREV < e → e + 1 < length (links_of (f m)) → link_in (with_prev f m e n p) m (e + 1) ≡ ends (link_in f m (e + 1)) n p
prev_last f m e None p b l = link_same f m (e + 1) p l
prev_last f m e (Some q) p b l = link_above f q PREV p m (e + 1) (omega (arith, b))

-- the ends of other lists
pub next_keeps : (f : ℕ → Option HeldCell) (m e : ℕ) (p n : Option ℕ) (b k : ℕ) → PREV < k → (b ≡ m → k ≢ e) → link_in (with_next f m e p n) b k ≡ link_in f b k
next_keeps f m e None n b k l h = link_other f m e n b k (λ z w. h w z)
next_keeps f m e (Some q) n b k l h = link_above f q NEXT n b k (omega (arith, l))

prev_keeps : (f : ℕ → Option HeldCell) (m e : ℕ) (n p : Option ℕ) (b k : ℕ) → PREV < k → (b ≡ m → k ≢ e + 1) → link_in (with_prev f m e n p) b k ≡ link_in f b k
prev_keeps f m e None p b k l h = link_other f m (e + 1) p b k (λ z w. h w z)
prev_keeps f m e (Some q) p b k l h = link_above f q PREV p b k l

-- one more that holds
each_snoc : (P : ℕ → Type 0) (xs : List ℕ) (x : ℕ) → AllByRecursion P xs → P x → AllByRecursion P (xs ++ x ∷ [])
each_snoc P [] x a p = (p, tt)
each_snoc P (y ∷ ys) x a p = (a.0, each_snoc P ys x a.1 p)

-- links after each step
pub next_at : (f : ℕ → Option HeldCell) (m e : ℕ) (p n : Option ℕ) (q : ℕ) → p ≡ Some q → NEXT < length (links_of (f q)) → link_in (with_next f m e p n) q NEXT ≡ n
next_at f m e p n q s l = subst (λ o. link_in (with_next f m e o n) q NEXT ≡ n) (sym s) (link_same f q NEXT n l)

-- links of other cells
pub next_away : (f : ℕ → Option HeldCell) (m e : ℕ) (p n : Option ℕ) (a k : ℕ) → k < e → (k ≡ NEXT → p ≢ Some a) → link_in (with_next f m e p n) a k ≡ link_in f a k
next_away f m e None n a k l d = link_below f m e n a k l
next_away f m e (Some q) n a k l d = link_other f q NEXT n a k (λ z w. d z (ap Some (sym w)))

prev_at : (f : ℕ → Option HeldCell) (m e : ℕ) (n p : Option ℕ) (q : ℕ) → n ≡ Some q → PREV < length (links_of (f q)) → link_in (with_prev f m e n p) q PREV ≡ p
prev_at f m e n p q s l = subst (λ o. link_in (with_prev f m e o p) q PREV ≡ p) (sym s) (link_same f q PREV p l)

-- links of other cells after a change of prev
pub prev_away : (f : ℕ → Option HeldCell) (m e : ℕ) (n p : Option ℕ) (a k : ℕ) → k < e → (k ≡ PREV → n ≢ Some a) → link_in (with_prev f m e n p) a k ≡ link_in f a k
prev_away f m e None p a k l d = link_below f m (e + 1) p a k (omega (arith, l))
prev_away f m e (Some q) p a k l d = link_other f q PREV p a k (λ z w. d z (ap Some (sym w)))

rest_apart : (x z : ℕ) (xs : List ℕ) → Distinct xs → In z (without x xs) → z ≢ x
rest_apart x z [] d j = absurd j
rest_apart x z (y ∷ ys) d j = elim (cases_eq y x) [
  | inl e ↦ (λ w. each_in (λ u. y ≢ u) ys z d.0 (subst (λ us. In z us) (if_yes (y == x) ys (y ∷ without x ys) (eq-eqb y x e)) j) (e ∙ sym w))
  | inr n ↦ by (subst (λ us. In z us) (if_no (y == x) ys (y ∷ without x ys) (not_equal y x n)) j) (rest_apart x z ys d.1) n
]
  where
    by : In z (y ∷ without x ys) → (In z (without x ys) → z ≢ x) → (y ≡ x → ⊥) → z ≢ x
    by (inl e) rest n = λ w. n (e ∙ w)
    by (inr k) rest n = rest k

-- the ends of a list are behind the links of a node
pub home_low : (e : ℕ) → PREV < e → HOME < e
home_low e b = omega (arith, b)

-- so are the links of its neighbours
pub next_low : (e : ℕ) → PREV < e → NEXT < e
next_low e b = omega (arith, b)

-- A cell of a list, with what stands before it and behind it

pub record Found (f : ℕ → Option HeldCell) (m e x : ℕ) (xs : List ℕ) : Type 0 where
  pub ys : List ℕ
  pub zs : List ℕ
  pub is : xs ≡ ys ++ (x ∷ zs)
  pub before : (q : ℕ) → link_in f x PREV ≡ Some q → In q ys
  pub behind : (q : ℕ) → link_in f x NEXT ≡ Some q → In q zs

-- a cell of a list is found
pub found_in : (f : ℕ → Option HeldCell) (m e x : ℕ) (xs : List ℕ) → Line f m e xs → In x xs → Found f m e x xs
found_in f m e x xs line i =
    let s = in_split x xs i in let F = node_in f in
    let r : RunsThrough F None (link_in f m e) (s.0 ++ (x ∷ s.1)) (link_in f m (e + 1)) None = subst (λ us. RunsThrough F None (link_in f m e) us (link_in f m (e + 1)) None) s.2 line.runs in
    let sp = split F None (link_in f m e) s.0 (x ∷ s.1) (link_in f m (e + 1)) None r in
    record {
      ys = s.0;
      zs = s.1;
      is = s.2;
      before = λ q h. before_in F (link_in f m e) s.0 sp.0 sp.1 q sp.2 (sym sp.3.1 ∙ h);
      behind = λ q h. after_in F (Some x) (link_in f x NEXT) s.1 (link_in f m (e + 1)) q sp.3.2 h;
    }

-- its neighbours are of the list, and so they are there
pub before_there : (f : ℕ → Option HeldCell) (m e x : ℕ) (xs : List ℕ) → Line f m e xs → In x xs → (q : ℕ) → link_in f x PREV ≡ Some q → In q xs
before_there f m e x xs line i q h = let d = found_in f m e x xs line i in subst (λ us. In q us) (sym d.is) (in_left q d.ys (x ∷ d.zs) (d.before q h))

-- what follows a cell in its list is in the list
pub behind_there : (f : ℕ → Option HeldCell) (m e x : ℕ) (xs : List ℕ) → Line f m e xs → In x xs → (q : ℕ) → link_in f x NEXT ≡ Some q → In q xs
behind_there f m e x xs line i q h = let d = found_in f m e x xs line i in subst (λ us. In q us) (sym d.is) (in_right q d.ys (x ∷ d.zs) (inr (d.behind q h)))

-- each cell of a list is there
pub cell_there : (f : ℕ → Option HeldCell) (m e : ℕ) (xs : List ℕ) → Line f m e xs → (z : ℕ) → In z xs → IsSome (f z)
cell_there f m e xs line z i = (each_in (λ y. IsSome (f y) × (y ≢ m) × (link_in f y HOME ≡ Some m)) xs z line.cells i).0

module _ (f : ℕ → Option HeldCell) (m e x : ℕ) (xs : List ℕ) (home : IsHome f m e) (have : HaveLinks f) (line : Line f m e xs) (i : In x xs) where
  abbrev p : Option ℕ
  p = link_in f x PREV

  abbrev n : Option ℕ
  n = link_in f x NEXT

  abbrev f1 : ℕ → Option HeldCell
  f1 = with_next f m e p n

  abbrev f2 : ℕ → Option HeldCell
  f2 = with_prev f1 m e n p

  abbrev f3 : ℕ → Option HeldCell
  f3 = unlinked f m e x

  d : Found f m e x xs
  d = found_in f m e x xs line i

  apart_all : Distinct (d.ys ++ (x ∷ d.zs))
  apart_all = subst Distinct d.is line.once

  last_step : (z k : ℕ) → (k ≡ HOME → z ≡ x → ⊥) → link_in f3 z k ≡ link_in f2 z k
  last_step z k h = link_other f2 x HOME None z k h

  other_next : (z : ℕ) → p ≢ Some z → link_in f3 z NEXT ≡ link_in f z NEXT
  other_next z a = last_step z NEXT (λ t. absurd (omega (arith, t))) ∙ prev_away f1 m e n p z NEXT (next_low e home.behind) (λ t. absurd (omega (arith, t))) ∙ next_away f m e p n z NEXT (next_low e home.behind) (λ t. a)

  other_prev : (z : ℕ) → n ≢ Some z → link_in f3 z PREV ≡ link_in f z PREV
  other_prev z a = last_step z PREV (λ t. absurd (omega (arith, t))) ∙ prev_away f1 m e n p z PREV home.behind (λ t. a) ∙ next_away f m e p n z PREV home.behind (λ t. absurd (omega (arith, t)))

  new_next : (q : ℕ) → p ≡ Some q → link_in f3 q NEXT ≡ n
  new_next q s = last_step q NEXT (λ t. absurd (omega (arith, t))) ∙ prev_away f1 m e n p q NEXT (next_low e home.behind) (λ t. absurd (omega (arith, t)))
      ∙ next_at f m e p n q s (let l = have q (cell_there f m e xs line q (before_there f m e x xs line i q s)) in omega (arith, l))

  new_prev : (q : ℕ) → n ≡ Some q → link_in f3 q PREV ≡ p
  new_prev q s = last_step q PREV (λ t. absurd (omega (arith, t)))
      ∙ prev_at f1 m e n p q s (let l = links_next f m e p n q ∙ have q (cell_there f m e xs line q (behind_there f m e x xs line i q s)) in omega (arith, l))

  has_left : Left (node_in f) (node_in f3) x p n
  has_left = record {
    other = λ z a b c t. record { prev = other_prev z c t; next = other_next z b t };
    before = λ q a b c t. record { prev = other_prev q c t; next = new_next q b t };
    behind = λ q a b c t. record { prev = new_prev q c t; next = other_next q b t };
  }

  first_is : link_in f3 m e ≡ begins (link_in f m e) p n
  first_is = link_above f2 x HOME None m e (home_low e home.behind) ∙ prev_first f1 m e n p home.behind ∙ next_first f m e p n home.behind (let l = have m home.there in let b = home.below in omega (arith, l, b))

  last_is : link_in f3 m (e + 1) ≡ ends (link_in f m (e + 1)) n p
  last_is = link_above f2 x HOME None m (e + 1) (let b = home.behind in omega (arith, b)) ∙ prev_last f1 m e n p home.behind (let l = links_next f m e p n m ∙ have m home.there in let b = home.below in omega (arith, l, b)) ∙ ap (λ o. ends o n p) (next_last f m e p n home.behind)

  rest_is : without x xs ≡ d.ys ++ d.zs
  rest_is = ap (without x) d.is ∙ without_at d.ys x d.zs apart_all

  kept : (z : ℕ) → In z (without x xs) → (IsSome (f3 z) × (z ≢ m) × (link_in f3 z HOME ≡ Some m))
  kept z j =
      let was : In z xs = in_rest x z xs j in
      let c = each_in (λ y. IsSome (f y) × (y ≢ m) × (link_in f y HOME ≡ Some m)) xs z line.cells was in
      let away : z ≢ x = rest_apart x z xs line.once j in (
        still_there f2 x _ z (there_prev f1 m e n p z (there_next f m e p n z c.0)),
        c.1,
        last_step z HOME (λ t w. away w) ∙ prev_away f1 m e n p z HOME (home_low e home.behind) (λ t. absurd (omega (arith, t))) ∙ next_away f m e p n z HOME (home_low e home.behind) (λ t. absurd (omega (arith, t))) ∙ c.2,
      )

  -- the list without the cell
  pub unlinked_line : Line f3 m e (without x xs)
  unlinked_line = record {
    runs = subst (λ us. RunsThrough (node_in f3) None (link_in f3 m e) us (link_in f3 m (e + 1)) None) (sym rest_is)
        (subst (λ o. RunsThrough (node_in f3) None o (d.ys ++ d.zs) (link_in f3 m (e + 1)) None) (sym first_is)
        (subst (λ o. RunsThrough (node_in f3) None (begins (link_in f m e) p n) (d.ys ++ d.zs) o None) (sym last_is)
        (leaves (node_in f) (node_in f3) (link_in f m e) (link_in f m (e + 1)) d.ys x d.zs has_left apart_all
        (subst (λ us. RunsThrough (node_in f) None (link_in f m e) us (link_in f m (e + 1)) None) d.is line.runs))));
    cells = each_of _ (without x xs) kept;
    once = distinct_without x xs line.once;
  }

  ends_keep : (b k : ℕ) → PREV < k → (b ≡ m → (k ≢ e) × (k ≢ e + 1)) → link_in f3 b k ≡ link_in f b k
  ends_keep b k l h = link_above f2 x HOME None b k (omega (arith, l)) ∙ prev_keeps f1 m e n p b k l (λ z. (h z).1) ∙ next_keeps f m e p n b k l (λ z. (h z).0)

  -- the lists beside it
  pub unlinked_others : (b k : ℕ) (ys : List ℕ) → Line f b k ys → Apart m e xs b k ys → Line f3 b k ys
  unlinked_others b k ys other away =
      let no : (z : ℕ) → In z ys → (q : Option ℕ) → ((r : ℕ) → q ≡ Some r → In r xs) → q ≢ Some z = λ z j q h s. away.cells z j (h z s) in
      let not_x : (z : ℕ) → In z ys → z ≢ x = λ z j s. away.cells z j (subst (λ u. In u xs) (sym s) i) in
      let same : (z : ℕ) → In z ys → node_in f3 z ≡ node_in f z = λ z j.
      has_left.other z (not_x z j) (no z j p (before_there f m e x xs line i)) (no z j n (behind_there f m e x xs line i)) in
      record {
        runs = subst (λ o. RunsThrough (node_in f3) None o ys (link_in f3 b (k + 1)) None) (sym (ends_keep b k away.behind (λ s. ((away.ends s).0, (away.ends s).1))))
            (subst (λ o. RunsThrough (node_in f3) None (link_in f b k) ys o None) (sym (ends_keep b (k + 1) (let l = away.behind in omega (arith, l)) (λ s. ((away.ends s).2, λ t. (away.ends s).0 (omega (arith, t))))))
            (frame (node_in f) (node_in f3) None (link_in f b k) ys (link_in f b (k + 1)) None (each_of _ ys same) other.runs));
        cells = each_of _ ys (λ z j. let c = each_in (λ y. IsSome (f y) × (y ≢ b) × (link_in f y HOME ≡ Some b)) ys z other.cells j in (
          still_there f2 x _ z (there_prev f1 m e n p z (there_next f m e p n z c.0)),
          c.1,
          last_step z HOME (λ t w. not_x z j w) ∙ prev_away f1 m e n p z HOME (home_low e home.behind) (λ t. absurd (omega (arith, t))) ∙ next_away f m e p n z HOME (home_low e home.behind) (λ t. absurd (omega (arith, t))) ∙ c.2,
        ));
        once = other.once;
      }

-- A cell at the end of a list

module _ (f : ℕ → Option HeldCell) (m e x : ℕ) (xs : List ℕ) (home : IsHome f m e) (have : HaveLinks f) (there : IsSome (f x)) (differ : x ≢ m) (line : Line f m e xs) (fresh : In x xs → ⊥) where
  abbrev last : Option ℕ
  last = link_in f m (e + 1)

  abbrev a1 : ℕ → Option HeldCell
  a1 = alter f x (option_map (with_link HOME (Some m)))

  abbrev a2 : ℕ → Option HeldCell
  a2 = alter a1 x (option_map (with_link PREV last))

  abbrev a3 : ℕ → Option HeldCell
  a3 = alter a2 x (option_map (with_link NEXT None))

  abbrev a4 : ℕ → Option HeldCell
  a4 = with_next a3 m e last (Some x)

  abbrev a5 : ℕ → Option HeldCell
  a5 = appended f m e x

  last_cell : (q : ℕ) → last ≡ Some q → In q xs
  last_cell q s = before_in (node_in f) (link_in f m e) xs last None q line.runs s

  seven1 : length (links_of (a1 x)) ≡ 8
  seven1 = keeps (λ o. length (links_of o)) f x (with_link HOME (Some m)) (count_links HOME (Some m)) x ∙ have x there

  seven2 : length (links_of (a2 x)) ≡ 8
  seven2 = keeps (λ o. length (links_of o)) a1 x (with_link PREV last) (count_links PREV last) x ∙ seven1

  seven3 : (q : ℕ) → IsSome (f q) → length (links_of (a3 q)) ≡ 8
  seven3 q t = keeps (λ o. length (links_of o)) a2 x (with_link NEXT None) (count_links NEXT None) q ∙ keeps (λ o. length (links_of o)) a1 x (with_link PREV last) (count_links PREV last) q
      ∙ keeps (λ o. length (links_of o)) f x (with_link HOME (Some m)) (count_links HOME (Some m)) q ∙ have q t

  -- all links of other cells stay in the first three steps
  before_steps : (z k : ℕ) → z ≢ x → link_in a3 z k ≡ link_in f z k
  before_steps z k n = link_other a2 x NEXT None z k (λ t. n) ∙ link_other a1 x PREV last z k (λ t. n) ∙ link_other f x HOME (Some m) z k (λ t. n)

  a5_link : (z k : ℕ) → k < e → (k ≡ NEXT → last ≢ Some z) → link_in a5 z k ≡ link_in a3 z k
  a5_link z k l h = link_below a4 m (e + 1) (Some x) z k (omega (arith, l)) ∙ next_away a3 m e last (Some x) z k l h

  x_prev : link_in a5 x PREV ≡ last
  x_prev = a5_link x PREV home.behind (λ t. absurd (omega (arith, t))) ∙ link_other a2 x NEXT None x PREV (λ t. absurd (omega (arith, t))) ∙ link_same a1 x PREV last (let l = seven1 in omega (arith, l))

  x_next : link_in a5 x NEXT ≡ None
  x_next = a5_link x NEXT (next_low e home.behind) (λ t s. fresh (last_cell x s)) ∙ link_same a2 x NEXT None (let l = seven2 in omega (arith, l))

  x_home : link_in a5 x HOME ≡ Some m
  x_home = a5_link x HOME (home_low e home.behind) (λ t. absurd (omega (arith, t))) ∙ link_other a2 x NEXT None x HOME (λ t. absurd (omega (arith, t))) ∙ link_other a1 x PREV last x HOME (λ t. absurd (omega (arith, t)))
      ∙ link_same f x HOME (Some m) (let l = have x there in omega (arith, l))

  has_joined : Joined (node_in f) (node_in a5) x last
  has_joined = record {
    here = λ t. record { prev = x_prev t; next = x_next t };
    before = λ q n s t. record {
      prev = (a5_link q PREV home.behind (λ u. absurd (omega (arith, u))) ∙ before_steps q PREV n) t;
      next = (link_below a4 m (e + 1) (Some x) q NEXT (let b = home.behind in omega (arith, b)) ∙ next_at a3 m e last (Some x) q s (let l = seven3 q (cell_there f m e xs line q (last_cell q s)) in omega (arith, l))) t;
    };
    other = λ z n s t. record {
      prev = (a5_link z PREV home.behind (λ u. absurd (omega (arith, u))) ∙ before_steps z PREV n) t;
      next = (a5_link z NEXT (next_low e home.behind) (λ u. s) ∙ before_steps z NEXT n) t;
    };
  }

  steps_to : (b k : ℕ) → PREV < k → link_in a3 b k ≡ link_in f b k
  steps_to b k l = link_above a2 x NEXT None b k (omega (arith, l)) ∙ link_above a1 x PREV last b k l ∙ link_above f x HOME (Some m) b k (omega (arith, l))

  new_first : link_in a5 m e ≡ begins (link_in f m e) last (Some x)
  new_first = link_other a4 m (e + 1) (Some x) m e (λ z. absurd (omega (arith, z))) ∙ next_first a3 m e last (Some x) home.behind (let l = seven3 m home.there in let b = home.below in omega (arith, l, b))
      ∙ ap (λ o. begins o last (Some x)) (steps_to m e home.behind)

  new_last : link_in a5 m (e + 1) ≡ Some x
  new_last = link_same a4 m (e + 1) (Some x) (let l = links_next a3 m e last (Some x) m ∙ seven3 m home.there in let b = home.below in omega (arith, l, b))

  a5_there : (z : ℕ) → IsSome (f z) → IsSome (a5 z)
  a5_there z t = still_there a4 m _ z (there_next a3 m e last (Some x) z (still_there a2 x _ z (still_there a1 x _ z (still_there f x _ z t))))

  kept_cell : (z : ℕ) → In z xs → (IsSome (a5 z) × (z ≢ m) × (link_in a5 z HOME ≡ Some m))
  kept_cell z j =
      let c = each_in (λ y. IsSome (f y) × (y ≢ m) × (link_in f y HOME ≡ Some m)) xs z line.cells j in
      (a5_there z c.0, c.1, a5_link z HOME (home_low e home.behind) (λ t. absurd (omega (arith, t))) ∙ before_steps z HOME (λ s. fresh (subst (λ u. In u xs) s j)) ∙ c.2)

  -- the list with the cell at its end
  pub appended_line : Line a5 m e (xs ++ x ∷ [])
  appended_line = record {
    runs = subst (λ o. RunsThrough (node_in a5) None o (xs ++ x ∷ []) (link_in a5 m (e + 1)) None) (sym new_first)
        (subst (λ o. RunsThrough (node_in a5) None (begins (link_in f m e) last (Some x)) (xs ++ x ∷ []) o None) (sym new_last)
        (joins (node_in f) (node_in a5) (link_in f m e) last xs x has_joined line.once fresh line.runs));
    cells = each_snoc _ xs x (each_of _ xs kept_cell) (a5_there x there, differ, x_home);
    once = distinct_snoc x xs line.once fresh;
  }

  -- the lists beside it
  pub appended_others : (b k : ℕ) (ys : List ℕ) → Line f b k ys → Apart m e (x ∷ xs) b k ys → Line a5 b k ys
  appended_others b k ys other away =
      let not_x : (z : ℕ) → In z ys → z ≢ x = λ z j s. away.cells z j (inl (sym s)) in
      let not_last : (z : ℕ) → In z ys → last ≢ Some z = λ z j s. away.cells z j (inr (last_cell z s)) in
      let keep_end : (i : ℕ) → PREV < i → (b ≡ m → (i ≢ e) × (i ≢ e + 1)) → link_in a5 b i ≡ link_in f b i = λ i l h.
      link_other a4 m (e + 1) (Some x) b i (λ z w. (h w).1 z) ∙ next_keeps a3 m e last (Some x) b i l (λ z. (h z).0) ∙ steps_to b i l in
      record {
        runs = subst (λ o. RunsThrough (node_in a5) None o ys (link_in a5 b (k + 1)) None) (sym (keep_end k away.behind (λ s. ((away.ends s).0, (away.ends s).1))))
            (subst (λ o. RunsThrough (node_in a5) None (link_in f b k) ys o None) (sym (keep_end (k + 1) (let l = away.behind in omega (arith, l)) (λ s. ((away.ends s).2, λ t. (away.ends s).0 (omega (arith, t))))))
            (frame (node_in f) (node_in a5) None (link_in f b k) ys (link_in f b (k + 1)) None (each_of _ ys (λ z j. has_joined.other z (not_x z j) (not_last z j))) other.runs));
        cells = each_of _ ys (λ z j. let c = each_in (λ y. IsSome (f y) × (y ≢ b) × (link_in f y HOME ≡ Some b)) ys z other.cells j in
            (a5_there z c.0, c.1, a5_link z HOME (home_low e home.behind) (λ t. absurd (omega (arith, t))) ∙ before_steps z HOME (not_x z j) ∙ c.2));
        once = other.once;
      }

-- As the calls say it

-- a membrane with a list stays one where a link changes
pub still_home : (f : ℕ → Option HeldCell) (a j : ℕ) (v : Option ℕ) (m e : ℕ) → IsHome f m e → IsHome (alter f a (option_map (with_link j v))) m e
still_home f a j v m e h = record { there = still_there f a (with_link j v) m h.there; behind = h.behind; below = h.below }

-- and where a cell is followed by another
pub home_next : (f : ℕ → Option HeldCell) (n k : ℕ) (p q : Option ℕ) (m e : ℕ) → IsHome f m e → IsHome (with_next f n k p q) m e
home_next f n k p q m e h = record { there = there_next f n k p q m h.there; behind = h.behind; below = h.below }

-- the last cell of a list is of it
pub last_in : (f : ℕ → Option HeldCell) (m e : ℕ) (xs : List ℕ) → Line f m e xs → (q : ℕ) → link_in f m (e + 1) ≡ Some q → In q xs
last_in f m e xs line q s = before_in (node_in f) (link_in f m e) xs (link_in f m (e + 1)) None q line.runs s

-- a cell that is led to, or none, is there
pub if_there : {X : Type 0} (id : X → ℕ) (f : ℕ → Option HeldCell) (r : Option X) (o : Option ℕ) → o ≡ option_map id r → ((q : ℕ) → o ≡ Some q → IsSome (f q)) → IfSome r (λ x. IsSome (f (id x)))
if_there id f None o e h = tt
if_there id f (Some x) o e h = h (id x) e

-- the three steps of leaving
pub unlinked_is : (old one two three : ℕ → Option HeldCell) (m e x : ℕ) (p n : Option ℕ) → link_in old x PREV ≡ p → link_in old x NEXT ≡ n → one ≡ with_next old m e p n → two ≡ with_prev one m e n p
    → three ≡ alter two x (option_map (with_link HOME None)) → three ≡ unlinked old m e x
unlinked_is old one two three m e x p n hp hn a b c =
    c ∙ ap (λ (g : ℕ → Option HeldCell). alter g x (option_map (with_link HOME None))) (b ∙ ap (λ (g : ℕ → Option HeldCell). with_prev g m e n p) a
    ∙ sym (λ t. with_prev (with_next old m e (hp t) (hn t)) m e (hn t) (hp t)))

-- the five steps of coming
pub appended_is : (old one two three four five : ℕ → Option HeldCell) (m e x : ℕ) (p : Option ℕ) → link_in old m (e + 1) ≡ p → one ≡ alter old x (option_map (with_link HOME (Some m)))
    → two ≡ alter one x (option_map (with_link PREV p)) → three ≡ alter two x (option_map (with_link NEXT None)) → four ≡ with_next three m e p (Some x) → five ≡ alter four m (option_map (with_link (e + 1) (Some x)))
    → five ≡ appended old m e x
appended_is old one two three four five m e x p hp a b c d g =
    g ∙ ap (λ (h : ℕ → Option HeldCell). alter h m (option_map (with_link (e + 1) (Some x)))) (d ∙ ap (λ (h : ℕ → Option HeldCell). with_next h m e p (Some x)) (c
    ∙ ap (λ (h : ℕ → Option HeldCell). alter h x (option_map (with_link NEXT None))) (b ∙ ap (λ (h : ℕ → Option HeldCell). alter h x (option_map (with_link PREV p))) a))
    ∙ sym (λ t. with_next (alter (alter (alter old x (option_map (with_link HOME (Some m)))) x (option_map (with_link PREV (hp t)))) x (option_map (with_link NEXT None))) m e (hp t) (Some x)))
