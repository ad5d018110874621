-- The atoms of a membrane are freed, all at once: what is left is a web.
use Rattle.std.proofs.Common.{◌≡◌, ◌≢◌, ℕ, zero, suc, ◌+◌, ◌==◌, ◌<◌, ◌^◌, true, List, [], ◌∷◌, ◌++◌, length, map, get_or, set, Option, Some, None, IsSome, is_some, refl, sym, ap, subst, ◌∙◌, inl, inr, arith, length-set, get_or-set_other}
use Rattle.std.proofs.lemmas.Bool.{cases_eq}
use Rattle.std.proofs.lemmas.List.{append-nil, append_assoc}
use Rattle.std.specs.Option.{option_map}
use Rattle.lmn_base.specs.Lists.{In}
use Rattle.lmn_base.proofs.Lists.{in_either}
use Rattle.lmn_store_heap.specs.Heap.{alter}
use Rattle.lmn_store_heap.specs.Lists.{Distinct, after, from}
use Rattle.lmn_store_heap.proofs.Common.{decide_in}
use Rattle.lmn_store_heap.proofs.ListLemmas.{apart, each_in, each_of, in_left, in_right}
use Rattle.lmn_store_heap.proofs.Trees.{in_here}
use Rattle.lmn_store_heap.proofs.Listing.{alter_at, alter_away, alter_keeps}
use Rattle.lmn_web_cells.specs.Cells.{HeldPort, HeldCell, links_of, numbers_of, ports_of, port_of}
use Rattle.lmn_web_cells.specs.Ports.{partner_by, partner_in}
use Rattle.lmn_web_cells.specs.Runs.{RunsThrough, node_in, link_in, Line}
use Rattle.lmn_web_cells.specs.Links.{HOME, NEXT, PREV, LEADERS}
use Rattle.lmn_web_cells.proofs.RunLemmas.{frame}
use Rattle.lmn_web.specs.declared.kind.CellKind.{CellKind}
use Rattle.lmn_web.specs.declared.kind.CellKind.TheVariants.{Atom, Membrane}
use Rattle.lmn_web.specs.Kinds.{FILED, kind_by}
use Rattle.lmn_web.specs.Webs.{WebCell, WithoutAtoms, web_cell, web_of, cells_in, partner_at, list_in, list_link, count_number, number_in, label_by, with_list}
use Rattle.lmn_web_cells.specs.Numbers.{INDEX, ARITY, KIND, HIGH, LOW, FIRST_MARK}
use Rattle.lmn_web.specs.Indexes.{numbers_by, bare_atoms, cell_kind, IsListed, IsWeb, IsClassed, Without}
use Rattle.lmn_web.specs.Classes.{Bare, AreClassed}
use Rattle.lmn_web.proofs.ListedLemmas.{begins_list, cell_of, goes_on, list_same, listed_self, web_self}
use Rattle.lmn_web.proofs.WebLemmas.{Account, account, partner_same}
use Rattle.lmn_web.proofs.RelistLemmas.{put_list}
use Rattle.lmn_web.proofs.Filing.{class_kept, classed_self, files_inside}

-- Cells go

-- the cells of a list before the one that comes next are gone, and nothing else changed
pub record Frees (f g : ℕ → Option HeldCell) (xs : List ℕ) (next : Option ℕ) : Type 0 where
  pub front : List ℕ
  pub whole : xs ≡ front ++ from next xs
  pub without : Without f g front

-- what is told of a cell of the list that comes next
pub record Comes (f g : ℕ → Option HeldCell) (xs front : List ℕ) (x : ℕ) : Type 0 where
  pub listed : In x xs
  pub left : In x front → ⊥
  pub same : g x ≡ f x
  pub there : IsSome (g x)

module _ (f : ℕ → Option HeldCell) (m e : ℕ) (xs : List ℕ) (line : Line f m e xs) where
  -- none of them yet
  pub frees_none : Frees f f xs (link_in f m e)
  frees_none = record { front = []; whole = sym (begins_list f m e xs line); without = record { gone = λ b i. absurd i; others = λ b n. refl } }

  -- all of them
  pub frees_all : (g : ℕ → Option HeldCell) → Frees f g xs None → Without f g xs
  frees_all g s = subst (Without f g) (sym (s.whole ∙ append-nil s.front)) s.without

  -- the next one stands in the list, and is as it was
  pub next_comes : (g : ℕ → Option HeldCell) (x : ℕ) (s : Frees f g xs (Some x)) → Comes f g xs s.front x
  next_comes g x s =
      let i : In x xs = subst (In x) (sym s.whole) (in_here x s.front (after x xs)) in
      let out : In x s.front → ⊥ = λ j. apart s.front (x ∷ after x xs) x x (subst Distinct s.whole line.once) j (inl refl) refl in
      let same = s.without.others x out in
      record { listed = i; left = out; same = same; there = ap (λ (o : Option HeldCell). is_some o) same ∙ (each_in (λ y. IsSome (f y) × (y ≢ m) × (link_in f y HOME ≡ Some m)) xs x line.cells i).0 }

  -- it goes
  pub frees_next : (g v : ℕ → Option HeldCell) (x : ℕ) → v ≡ alter g x (λ _. None) → Frees f g xs (Some x) → Frees f v xs (link_in g x NEXT)
  frees_next g v x is s =
      let c = next_comes g x s in
      let on : from (link_in g x NEXT) xs ≡ after x xs = ap (λ (o : Option HeldCell). from (get_or (links_of o) NEXT None) xs) c.same ∙ goes_on f m e x xs line c.listed in
      subst (λ (u : ℕ → Option HeldCell). Frees f u xs (link_in g x NEXT)) (sym is) record {
        front = s.front ++ x ∷ [];
        whole = s.whole ∙ sym (append_assoc s.front (x ∷ []) (after x xs)) ∙ ap (λ us. (s.front ++ x ∷ []) ++ us) (sym on);
        without = record {
          gone = λ b i. elim (cases_eq b x) [
            | inl q ↦ subst (λ z. alter g x (λ _. None) z ≡ None) (sym q) (alter_at g x (λ _. None))
            | inr d ↦ alter_away g x (λ _. None) b d ∙ elim (in_either b s.front (x ∷ []) i) [ inl j ↦ s.without.gone b j | inr j ↦ absurd (elim j [ inl q ↦ d (sym q) | inr k ↦ k ]) ]
          ];
          others = λ b n. alter_away g x (λ _. None) b (λ q. n (in_right b s.front (x ∷ []) (inl (sym q)))) ∙ s.without.others b (λ j. n (in_left b s.front (x ∷ []) j));
        };
      }

  -- and one less is left
  pub fewer_left : (g : ℕ → Option HeldCell) (x : ℕ) → Frees f g xs (Some x) → length (from (link_in g x NEXT) xs) < length (from (Some x) xs)
  fewer_left g x s =
      let c = next_comes g x s in
      let on : from (link_in g x NEXT) xs ≡ after x xs = ap (λ (o : Option HeldCell). from (get_or (links_of o) NEXT None) xs) c.same ∙ goes_on f m e x xs line c.listed in
      subst (λ us. length us < length (x ∷ after x xs)) (sym on) (omega arith)

-- A membrane forgets its atoms

unset : (xs : List (Option ℕ)) (i : ℕ) → get_or (set xs i None) i None ≡ None
unset [] i = refl
unset (x ∷ xs) zero = refl
unset (x ∷ xs) (suc i) = unset xs i

zeroed : (xs : List ℕ) (i : ℕ) → get_or (set xs i 0) i 0 ≡ 0
zeroed [] i = refl
zeroed (x ∷ xs) zero = refl
zeroed (x ∷ xs) (suc i) = zeroed xs i

-- the links that lead to no atom then
abbrev pub IsOther : ℕ → Type 0
IsOther k = (k ≢ 3) × (k ≢ 4) × (k ≢ LEADERS)

bare_link : (k : ℕ) → IsOther k → (o : Option HeldCell) → get_or (links_of (option_map bare_atoms o)) k None ≡ get_or (links_of o) k None
bare_link k d None = refl
bare_link k d (Some c) =
    get_or-set_other (set (set c.links 3 None) 4 None) LEADERS k None None d.2 ∙ get_or-set_other (set c.links 3 None) 4 k None None d.1 ∙ get_or-set_other c.links 3 k None None d.0

bare_number : (k : ℕ) → k ≢ 6 → (o : Option HeldCell) → get_or (numbers_of (option_map bare_atoms o)) k 0 ≡ get_or (numbers_of o) k 0
bare_number k d None = refl
bare_number k d (Some c) = get_or-set_other c.numbers 6 k 0 0 d

bare_there : (o : Option HeldCell) → is_some (option_map bare_atoms o) ≡ is_some o
bare_there None = refl
bare_there (Some c) = refl

bare_ports : (o : Option HeldCell) → ports_of (option_map bare_atoms o) ≡ ports_of o
bare_ports None = refl
bare_ports (Some c) = refl

bare_first : (o : Option HeldCell) → get_or (links_of (option_map bare_atoms o)) 3 None ≡ None
bare_first None = refl
bare_first (Some c) =
    get_or-set_other (set (set c.links 3 None) 4 None) LEADERS 3 None None (λ e. absurd (omega (arith, e))) ∙ get_or-set_other (set c.links 3 None) 4 3 None None (λ e. absurd (omega (arith, e))) ∙ unset c.links 3

bare_last : (o : Option HeldCell) → get_or (links_of (option_map bare_atoms o)) 4 None ≡ None
bare_last None = refl
bare_last (Some c) = get_or-set_other (set (set c.links 3 None) 4 None) LEADERS 4 None None (λ e. absurd (omega (arith, e))) ∙ unset (set c.links 3 None) 4

bare_leaders : (o : Option HeldCell) → get_or (links_of (option_map bare_atoms o)) LEADERS None ≡ None
bare_leaders None = refl
bare_leaders (Some c) = unset (set (set c.links 3 None) 4 None) LEADERS

bare_count : (o : Option HeldCell) → get_or (numbers_of (option_map bare_atoms o)) 6 0 ≡ 0
bare_count None = refl
bare_count (Some c) = zeroed c.numbers 6

bare_account : (o : Option HeldCell) → account (option_map bare_atoms o) ≡ account o
bare_account None = refl
bare_account (Some c) = λ t. record {
  there = true;
  index = get_or-set_other c.numbers 6 INDEX 0 0 (λ e. absurd (omega (arith, e))) t;
  arity = get_or-set_other c.numbers 6 ARITY 0 0 (λ e. absurd (omega (arith, e))) t;
  kind = get_or-set_other c.numbers 6 KIND 0 0 (λ e. absurd (omega (arith, e))) t;
  numbers = length-set c.numbers 6 0 t;
  ports = length c.ports;
}

-- h is f without xs, the atoms of m, which forgot them
pub record Emptied (f h : ℕ → Option HeldCell) (m : ℕ) (xs : List ℕ) : Type 0 where
  pub gone : (b : ℕ) → In b xs → h b ≡ None
  pub there : (b : ℕ) → (In b xs → ⊥) → is_some (h b) ≡ is_some (f b)
  pub ports : (b : ℕ) → (In b xs → ⊥) → ports_of (h b) ≡ ports_of (f b)
  pub kept : (b : ℕ) → (In b xs → ⊥) → account (h b) ≡ account (f b)
  pub numbers : (b k : ℕ) → (In b xs → ⊥) → (b ≡ m → k ≢ 6) → number_in h b k ≡ number_in f b k
  pub links : (b k : ℕ) → (In b xs → ⊥) → (b ≡ m → IsOther k) → link_in h b k ≡ link_in f b k
  pub first : link_in h m 3 ≡ None
  pub last : link_in h m 4 ≡ None
  pub lasts : link_in h m LEADERS ≡ None
  pub count : number_in h m 6 ≡ 0

-- what the two steps leave
pub emptied : (f g : ℕ → Option HeldCell) (m : ℕ) (xs : List ℕ) → (In m xs → ⊥) → Without f g xs → Emptied f (alter g m (option_map bare_atoms)) m xs
emptied f g m xs out w = record {
  gone = λ b i. alter_away g m (option_map bare_atoms) b (λ e. out (subst (λ z. In z xs) e i)) ∙ w.gone b i;
  there = λ b n. alter_keeps g m (option_map bare_atoms) (λ (o : Option HeldCell). is_some o) bare_there b ∙ ap (λ (o : Option HeldCell). is_some o) (w.others b n);
  ports = λ b n. alter_keeps g m (option_map bare_atoms) ports_of bare_ports b ∙ ap ports_of (w.others b n);
  kept = λ b n. alter_keeps g m (option_map bare_atoms) account bare_account b ∙ ap account (w.others b n);
  numbers = λ b k n d. elim (cases_eq b m) [
    | inl e ↦ alter_keeps g m (option_map bare_atoms) (λ (o : Option HeldCell). get_or (numbers_of o) k 0) (bare_number k (d e)) b
    | inr a ↦ ap (λ (o : Option HeldCell). get_or (numbers_of o) k 0) (alter_away g m (option_map bare_atoms) b a)
  ] ∙ ap (λ (o : Option HeldCell). get_or (numbers_of o) k 0) (w.others b n);
  links = λ b k n d. elim (cases_eq b m) [
    | inl e ↦ alter_keeps g m (option_map bare_atoms) (λ (o : Option HeldCell). get_or (links_of o) k None) (bare_link k (d e)) b
    | inr a ↦ ap (λ (o : Option HeldCell). get_or (links_of o) k None) (alter_away g m (option_map bare_atoms) b a)
  ] ∙ ap (λ (o : Option HeldCell). get_or (links_of o) k None) (w.others b n);
  first = ap (λ (o : Option HeldCell). get_or (links_of o) 3 None) (alter_at g m (option_map bare_atoms)) ∙ bare_first (g m);
  last = ap (λ (o : Option HeldCell). get_or (links_of o) 4 None) (alter_at g m (option_map bare_atoms)) ∙ bare_last (g m);
  lasts = ap (λ (o : Option HeldCell). get_or (links_of o) LEADERS None) (alter_at g m (option_map bare_atoms)) ∙ bare_leaders (g m);
  count = ap (λ (o : Option HeldCell). get_or (numbers_of o) 6 0) (alter_at g m (option_map bare_atoms)) ∙ bare_count (g m);
}

-- a membrane is there
pub membrane_there : (f : ℕ → Option HeldCell) (m : ℕ) → (cell_kind f m ≡ Atom → ⊥) → IsSome (f m)
membrane_there f m d = by (f m) refl
  where
    by : (o : Option HeldCell) → f m ≡ o → IsSome (f m)
    by None e = absurd (d (ap (λ (o : Option HeldCell). kind_by (get_or (numbers_of o) KIND 0)) e))
    by (Some c) e = subst (λ (o : Option HeldCell). IsSome o) (sym e) refl

-- in the cells the atoms are joined to one another too
pub closed_cells : (f : ℕ → Option HeldCell) (made : ℕ) → IsWeb f made → (m : ℕ) → ((a i b j : ℕ) → In a (cells_in (web_of f) m Atom) → partner_at (web_of f) a i ≡ Some (b, j) → In b (cells_in (web_of f) m Atom))
    → (a i b j : ℕ) → In a (list_in f m Atom) → partner_in f a i ≡ Some (b, j) → In b (list_in f m Atom)
closed_cells f made w m closed a i b j n p =
    let own : cells_in (web_of f) m Atom ≡ list_in f m Atom = list_same f (list_in f) w.listed m Atom in
    subst (λ us. In b us) own (closed a i b j (subst (λ us. In a us) (sym own) n) (partner_same f (list_in f) a i ∙ p))

no_such : (k : ℕ) → k < 3 → IsOther k
no_such k l = (λ e. absurd (omega (arith, l, e)), λ e. absurd (omega (arith, l, e)), λ e. absurd (omega (arith, l, e)))

other_ends : (j : CellKind) → (j ≡ Atom → ⊥) → IsOther (list_link j) × IsOther (list_link j + 1)
other_ends Atom d = absurd (d refl)
other_ends Membrane d = (
  (λ e. absurd (omega (arith, e)), λ e. absurd (omega (arith, e)), λ e. absurd (omega (arith, e))),
  (λ e. absurd (omega (arith, e)), λ e. absurd (omega (arith, e)), λ e. absurd (omega (arith, e))),
)

other_count : (j : CellKind) → (j ≡ Atom → ⊥) → count_number j ≢ 6
other_count Atom d = absurd (d refl)
other_count Membrane d = λ e. absurd (omega (arith, e))

-- a cell of the web, whose index and lists the web doesn't tell
cell_same : (lists : CellKind → List ℕ) (o q : Option HeldCell) → is_some o ≡ is_some q → ports_of o ≡ ports_of q → ((k : ℕ) → k ≢ 6 → get_or (numbers_of o) k 0 ≡ get_or (numbers_of q) k 0)
    → get_or (links_of o) HOME None ≡ get_or (links_of q) HOME None → option_map (web_cell lists) o ≡ option_map (web_cell lists) q
cell_same lists None None t p n l = refl
cell_same lists None (Some d) t p n l = absurd cc
cell_same lists (Some c) None t p n l = absurd cc
cell_same lists (Some c) (Some d) t p n l =
    let high = n HIGH (λ e. absurd (omega (arith, e))) in let low = n LOW (λ e. absurd (omega (arith, e))) in let kind = n KIND (λ e. absurd (omega (arith, e))) in let own = n FIRST_MARK (λ e. absurd (omega (arith, e))) in
    λ i. Some record {
      label = label_by (high i) (low i);
      kind = kind_by (kind i);
      partners = map partner_by (p i);
      marks = own i ∷ map (λ (x : HeldPort). x.mark) (p i);
      home = l i;
      atoms = lists Atom;
      membranes = lists Membrane;
    }

module _ (f h : ℕ → Option HeldCell) (made : ℕ) (W : IsWeb f made) (m : ℕ) (membrane : cell_kind f m ≡ Atom → ⊥) (e : Emptied f h m (list_in f m Atom)) where
  abbrev xs : List ℕ
  xs = list_in f m Atom

  -- the lists then
  abbrev lists : ℕ → CellKind → List ℕ
  lists = alter (list_in f) m (put_list Atom [])

  -- P of the list that is empty and of all others
  each : (P : ℕ → CellKind → List ℕ → Type 0) → P m Atom [] → ((n : ℕ) (j : CellKind) → (n ≡ m → j ≡ Atom → ⊥) → P n j (list_in f n j)) → (n : ℕ) (j : CellKind) → P n j (lists n j)
  each P at away n j = elim (cases_eq n m) [
    | inl s ↦ subst (λ z. P z j (lists z j)) (sym s) (subst (λ (u : CellKind → List ℕ). P m j (u j)) (sym (alter_at (list_in f) m (put_list Atom []))) (by j (λ d. away m j (λ _. d))))
    | inr d ↦ subst (λ (u : CellKind → List ℕ). P n j (u j)) (sym (alter_away (list_in f) m (put_list Atom []) n d)) (away n j (λ s _. d s))
  ]
    where
      by : (j : CellKind) → ((j ≡ Atom → ⊥) → P m j (list_in f m j)) → P m j (put_list Atom [] (list_in f m) j)
      by Atom o = at
      by Membrane o = o (λ s. absurd cc)

  is_atom : (z : ℕ) → In z xs → cell_kind f z ≡ Atom
  is_atom z i = W.listed.kinds m z Atom i

  kind_is : (b : ℕ) → cell_kind h b ≡ cell_kind f b
  kind_is b = elim (decide_in b xs) [
    | inl i ↦ ap (λ (o : Option HeldCell). kind_by (get_or (numbers_of o) KIND 0)) (e.gone b i) ∙ sym (is_atom b i)
    | inr n ↦ ap kind_by (e.numbers b KIND n (λ _ s. absurd (omega (arith, s))))
  ]

  -- what stands in another list is none of those that went
  stays : (n : ℕ) (j : CellKind) (z : ℕ) → (n ≡ m → j ≡ Atom → ⊥) → In z (list_in f n j) → In z xs → ⊥
  stays n j z d i k =
      let s : Some n ≡ Some m = sym (cell_of f (list_in f) W.listed n z j i).2 ∙ (cell_of f (list_in f) W.listed m z Atom k).2 in
      d (cc) (sym (W.listed.kinds n z j i) ∙ is_atom z k)

  line_stays : (n : ℕ) (j : CellKind) → (n ≡ m → j ≡ Atom → ⊥) → (cell_kind f n ≡ Atom → ⊥) → Line h n (list_link j) (list_in f n j)
  line_stays n j d t =
      let l = W.listed.line n j t in let miss : In n xs → ⊥ = λ i. t (is_atom n i) in let us = list_in f n j in
      let first : link_in h n (list_link j) ≡ link_in f n (list_link j) = e.links n (list_link j) miss (λ s. (other_ends j (d s)).0) in
      let last : link_in h n (list_link j + 1) ≡ link_in f n (list_link j + 1) = e.links n (list_link j + 1) miss (λ s. (other_ends j (d s)).1) in
      record {
        runs = subst (λ o. RunsThrough (node_in h) None o us (link_in h n (list_link j + 1)) None) (sym first)
            (subst (λ o. RunsThrough (node_in h) None (link_in f n (list_link j)) us o None) (sym last)
            (frame (node_in f) (node_in h) None (link_in f n (list_link j)) us (link_in f n (list_link j + 1)) None
            (each_of _ us (λ z i q. record { prev = e.links z PREV (stays n j z d i) (λ _. no_such PREV (omega arith)) q; next = e.links z NEXT (stays n j z d i) (λ _. no_such NEXT (omega arith)) q })) l.runs));
        cells = each_of _ us (λ z i. let c = cell_of f (list_in f) W.listed n z j i in
            (e.there z (stays n j z d i) ∙ c.0, c.1, e.links z HOME (stays n j z d i) (λ _. no_such HOME (omega arith)) ∙ c.2));
        once = l.once;
      }

  -- they are lists of the cells
  pub empty_lists : IsListed h lists
  empty_lists = record {
    line = each (λ n j us. (cell_kind h n ≡ Atom → ⊥) → Line h n (list_link j) us) (λ _. record { runs = (e.first, e.last); cells = tt; once = tt }) (λ n j d t. line_stays n j d (λ s. t (kind_is n ∙ s)));
    count = each (λ n j us. number_in h n (count_number j) ≡ length us) e.count (λ n j d. elim (decide_in n xs) [
      | inl i ↦ ap (λ (o : Option HeldCell). get_or (numbers_of o) (count_number j) 0) (e.gone n i) ∙ sym (ap (λ (us : List ℕ). length us) (W.listed.bare n j (is_atom n i)))
      | inr miss ↦ e.numbers n (count_number j) miss (λ s. other_count j (d s)) ∙ W.listed.count n j
    ]);
    kinds = λ n z j. each (λ n j us. In z us → cell_kind h z ≡ j) (λ i. absurd i) (λ n j d i. kind_is z ∙ W.listed.kinds n z j i) n j;
    homes = λ n z q. elim (decide_in z xs) [
      | inl i ↦ absurd (let s : ◌≡◌ {A = Option ℕ} None (Some n) = sym (ap (λ (o : Option HeldCell). get_or (links_of o) HOME None) (e.gone z i)) ∙ q in cc)
      | inr miss ↦ (let c = W.listed.homes n z (sym (e.links z HOME miss (λ _. no_such HOME (omega arith))) ∙ q) in (
        e.there n (λ i. subst (λ us. In z us) (W.listed.bare n (cell_kind f z) (is_atom n i)) c.1) ∙ c.0,
        subst (λ j. In z (lists n j)) (sym (kind_is z)) (each (λ n j us. In z (list_in f n j) → In z us) (λ i. miss i) (λ n j _ i. i) n (cell_kind f z) c.1),
      ))
    ];
    bare = each (λ n j us. cell_kind h n ≡ Atom → us ≡ []) (λ _. refl) (λ n j d s. W.listed.bare n j (sym (kind_is n) ∙ s));
  }

  -- the web is without them
  pub empty_is : WithoutAtoms (web_of f) (web_of h) m
  empty_is =
      let self = web_self h lists empty_lists in let own : cells_in (web_of f) m Atom ≡ xs = list_same f (list_in f) W.listed m Atom in record {
        gone = λ a i. ap (λ (w : ℕ → Option WebCell). w a) self ∙ ap (option_map (web_cell (lists a))) (e.gone a (subst (λ us. In a us) own i));
        others = λ b n d. let miss : In b xs → ⊥ = λ i. n (subst (λ us. In b us) (sym own) i) in
            ap (λ (w : ℕ → Option WebCell). w b) self ∙ ap (λ (u : CellKind → List ℕ). option_map (web_cell u) (h b)) (alter_away (list_in f) m (put_list Atom []) b d)
            ∙ cell_same (list_in f b) (h b) (f b) (e.there b miss) (e.ports b miss) (λ k _. e.numbers b k miss (λ s. absurd (d s))) (e.links b HOME miss (λ _. no_such HOME (omega arith)));
        home = let miss : In m xs → ⊥ = λ i. membrane (is_atom m i) in
            ap (λ (w : ℕ → Option WebCell). w m) self ∙ ap (λ (u : CellKind → List ℕ). option_map (web_cell u) (h m)) (alter_at (list_in f) m (put_list Atom []))
            ∙ cell_same (put_list Atom [] (list_in f m)) (h m) (f m) (e.there m miss) (e.ports m miss) (λ k s. e.numbers m k miss (λ _. s)) (e.links m HOME miss (λ _. no_such HOME (omega arith)))
            ∙ by (f m);
      }
    where
      by : (o : Option HeldCell) → option_map (web_cell (put_list Atom [] (list_in f m))) o ≡ option_map (with_list Atom []) (option_map (web_cell (list_in f m)) o)
      by None = refl
      by (Some c) = refl

  module _ (closed : (a i b j : ℕ) → In a xs → partner_in f a i ≡ Some (b, j) → In b xs) where
    partner_is : (b k : ℕ) → (In b xs → ⊥) → partner_in h b k ≡ partner_in f b k
    partner_is b k n = ap (λ (ps : List HeldPort). partner_by (get_or ps k record { to = None; port = 0; mark = 0 })) (e.ports b n)

    partner_was : (b k c j : ℕ) → partner_in h b k ≡ Some (c, j) → (In b xs → ⊥) × (partner_in f b k ≡ Some (c, j))
    partner_was b k c j p = elim (decide_in b xs) [
      | inl i ↦ absurd (let s : ◌≡◌ {A = Option (ℕ × ℕ)} None (Some (c, j)) = sym (ap (λ (o : Option HeldCell). partner_by (port_of o k)) (e.gone b i)) ∙ p in cc)
      | inr n ↦ (n, sym (partner_is b k n) ∙ p)
    ]

    other_end : (b k c j : ℕ) → (In b xs → ⊥) → partner_in f b k ≡ Some (c, j) → In c xs → ⊥
    other_end b k c j n p i = n (closed c j b k i (W.paired.back b k c j p))

    -- what is there is none of those that went
    left : (b : ℕ) → IsSome (h b) → In b xs → ⊥
    left b t i = absurd (let z = subst (λ (o : Option HeldCell). IsSome o) (e.gone b i) t in cc)

    was : (b : ℕ) → IsSome (h b) → IsSome (f b)
    was b t = sym (e.there b (left b t)) ∙ t

    -- what is left is a web
    pub empty_web : IsWeb h made
    empty_web = record {
      indexed = λ b t. let n = left b t in subst (λ i. i < made) (sym (ap (λ (k : Account). k.index) (e.kept b n))) (W.indexed b (was b t));
      single = λ a b t u s. W.single a b (was a t) (was b u) (sym (ap (λ (k : Account). k.index) (e.kept a (left a t))) ∙ s ∙ ap (λ (k : Account). k.index) (e.kept b (left b u)));
      arity = λ b t. let n = left b t in ap (λ (k : Account). k.arity) (e.kept b n) ∙ W.arity b (was b t) ∙ sym (ap (λ (k : Account). k.ports) (e.kept b n));
      few = λ b. elim (decide_in b xs) [
        | inl i ↦ subst (λ (o : Option HeldCell). length (ports_of o) < 256) (sym (e.gone b i)) (omega arith)
        | inr n ↦ subst (λ (ps : List HeldPort). length ps < 256) (sym (e.ports b n)) (W.few b)
      ];
      numbers = λ b t. let n = left b t in ap (λ (k : Account). k.numbers) (e.kept b n) ∙ W.numbers b (was b t) ∙ ap (λ (k : Account). numbers_by k.kind) (sym (e.kept b n));
      reaches = λ b k c j p. let q = partner_was b k c j p in subst (λ (ps : List HeldPort). j < length ps) (sym (e.ports c (other_end b k c j q.0 q.1))) (W.reaches b k c j q.1);
      paired = record {
        back = λ b k c j p. let q = partner_was b k c j p in partner_is c j (other_end b k c j q.0 q.1) ∙ W.paired.back b k c j q.1;
        apart = λ b k p. W.paired.apart b k (partner_was b k b k p).1;
      };
      listed = listed_self h lists empty_lists;
    }

    -- with the classes of all other lists
    pub empty_classed : IsClassed f (list_in f) → IsClassed h (list_in h)
    empty_classed c = classed_self h lists empty_lists record {
      classes = λ n d. elim (cases_eq n m) [
        | inl s ↦ (Bare, subst (λ z. AreClassed h z (lists z Atom) Bare) (sym s) (subst (λ (u : CellKind → List ℕ). AreClassed h m (u Atom) Bare) (sym (alter_at (list_in f) m (put_list Atom []))) none))
        | inr o ↦ (let miss : In n xs → ⊥ = (λ i. files_inside h n d (kind_is n ∙ is_atom n i)) in
            let q = c.classes n (ap (λ k. k == FILED) (sym (e.numbers n KIND miss (λ s. absurd (o s)))) ∙ d) in
            let out : (x : ℕ) → In x (list_in f n Atom) → In x xs → ⊥ = (λ x i. stays n Atom x (λ s _. o s) i) in
            let not_m : (x : ℕ) → In x (list_in f n Atom) → x ≡ m → ⊥ = (λ x i s. membrane (ap (cell_kind f) (sym s) ∙ W.listed.kinds n x Atom i)) in (
              q.0,
              subst (λ (u : CellKind → List ℕ). AreClassed h n (u Atom) q.0) (sym (alter_away (list_in f) m (put_list Atom []) n o))
                  (class_kept f h n (list_in f n Atom) q.0
                  (λ x i t. (e.numbers x HIGH (out x i) (λ s. absurd (not_m x i s)) t, e.numbers x ARITY (out x i) (λ s. absurd (not_m x i s)) t))
                  (λ x k i _. e.links x k (out x i) (λ s. absurd (not_m x i s)))
                  (λ x i t. e.there x (out x i) ∙ t)
                  (e.links n LEADERS miss (λ s. absurd (o s))) q.1),
            ))
      ];
      filing = λ b. elim (decide_in b xs) [
        | inl i ↦ subst (λ (o : Option HeldCell). get_or (numbers_of o) KIND 0 ≡ FILED → get_or (numbers_of o) HIGH 0 ≡ 0) (sym (e.gone b i)) (λ s. refl)
        | inr n ↦ (λ s. e.numbers b HIGH n (λ _ q. absurd (omega (arith, q))) ∙ c.filing b (sym (e.numbers b KIND n (λ _ q. absurd (omega (arith, q)))) ∙ s))
      ];
      low = λ b. elim (decide_in b xs) [
        | inl i ↦ subst (λ (o : Option HeldCell). get_or (numbers_of o) LOW 0 < 2 ^ 64) (sym (e.gone b i)) (omega arith)
        | inr n ↦ subst (λ k. k < 2 ^ 64) (sym (e.numbers b LOW n (λ _ s. absurd (omega (arith, s))))) (c.low b)
      ];
    }
      where
        none : AreClassed h m [] Bare
        none = record { tree = e.lasts; sorted = tt; inside = λ l i. i; every = λ x i. absurd i; rings = λ l i. absurd i; inner = λ x i. absurd i }
