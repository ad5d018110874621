-- The links of an item get their numbers while it is walked.
use Rattle.std.proofs.Common.{◌≡◌, ℕ, suc, ◌+◌, ◌-◌, ◌*◌, ◌<◌, ◌≤◌, ◌==◌, ◌&&◌, ◌||◌, not, true, false, if◌then◌else◌, List, [], ◌∷◌, ◌++◌, length, Option, Some, None, refl, sym, ap, ◌∙◌, subst, arith}
use Rattle.std.proofs.lemmas.List.{append-nil, append_assoc}
use Rattle.lmn_base.specs.Limits.{most_links}
use Rattle.lmn_store_heap.specs.Heap.{Heap, arity_of, link_of, mark_of, own_mark}
use Rattle.lmn_print_plain.specs.Numbers.{GoOn, Remarks}
use Rattle.lmn_print_plain.proofs.MarkLemmas.{arity_same, link_same}
use Rattle.lmn_print_plain.proofs.NumberLemmas.{go_none, go_more, go_as}
use Rattle.lmn_store_heap.specs.Sound.{Paired}
use Rattle.lmn_print_folding.specs.Marks.{is_item, is_end_of_term, term_by, term_at, argument_count, Event, WalkMeets, link, term, end_of_term, end_of_item, atoms_left, links_met}
use Rattle.lmn_print_folding.proofs.FewTurns.{turns}
use Rattle.lmn_print_folding.proofs.PrintedWalks.{term_is}
use Rattle.lmn_print_folding.proofs.WalkLemmas.{at_link, at_term, at_end_of_term, at_end_of_item, arguments_of_term}
use Rattle.lmn_store_heap.proofs.Common.{same_port}

-- other marks of ports change nothing of how atoms are printed
module _ (s t : Heap) (r : Remarks s t) where
  pub own_same : (a : ℕ) → own_mark t a ≡ own_mark s a
  own_same a = ap (mark_of t a) (arity_same s t r a) ∙ r.own a

  pub item_same : (a : ℕ) → is_item t a ≡ is_item s a
  item_same a = ap (λ k. (k == 1) || (k == 2)) (own_same a)

  pub arguments_same : (a : ℕ) → argument_count t a ≡ argument_count s a
  arguments_same a = ap (λ b. if b then arity_of t a else arity_of t a - 1) (item_same a) ∙ ap (λ k. if is_item s a then k else k - 1) (arity_same s t r a)

  end_same : (p : ℕ × ℕ) → is_end_of_term t p ≡ is_end_of_term s p
  end_same p = ap (λ k. (p.1 + 1 == k) && not (is_item t p.0)) (arity_same s t r p.0) ∙ ap (λ b. (p.1 + 1 == arity_of s p.0) && not b) (item_same p.0)

  by_same : (o : Option (ℕ × ℕ)) → term_by t o ≡ term_by s o
  by_same None = refl
  by_same (Some p) = ap (λ b. if b then Some p.0 else None) (end_same p)

  pub term_same : (a i : ℕ) → term_at t a i ≡ term_at s a i
  term_same a i = ap (term_by t) (link_same s t r a i) ∙ by_same (link_of s a i)

-- Where a walk stands at an atom it is to go back to so many atoms, to ports that are so many together, each at most `most`.
pub data Above (s : Heap) (most : ℕ) : ℕ → ℕ → ℕ → Type 0 where
  top : {a : ℕ} → Above s most a 0 0
  below : {a depth ports : ℕ} (p j : ℕ) → is_item s a ≡ false → link_of s a (arity_of s a - 1) ≡ Some (p, j) → j + 1 ≤ most → Above s most p depth ports → Above s most a (suc depth) (ports + (j + 1))

above_low : (s : Heap) (a depth ports : ℕ) → Above s most_links a depth ports → ports ≤ most_links * depth
above_low s a _ _ top = omega arith
above_low s a _ _ (below {depth = depth} {ports = ports} p j x l low b) = let rest = above_low s p depth ports b in omega (arith, low, rest)

above_more : (s : Heap) (most more a depth ports : ℕ) → most ≤ more → Above s most a depth ports → Above s more a depth ports
above_more s most more a _ _ h top = top
above_more s most more a _ _ h (below {depth = depth} {ports = ports} p j x l low b) = below p j x l (omega (arith, h, low)) (above_more s most more p depth ports h b)

-- the port at which a term stands is that to which the term leads back
term_back : (s : Heap) → Paired s → (a i c : ℕ) → term_at s a i ≡ Some c → (is_item s c ≡ false) × (link_of s c (arity_of s c - 1) ≡ Some (a, i))
term_back s paired a i c e =
    let t = term_is s a i c e in
    let long = t.2 in
    let last : arity_of s c - 1 ≡ t.0 = omega (arith, long) in
    (t.3, ap (link_of s c) last ∙ paired.back a i c t.0 t.1)

-- a walk leaves the atom at which it stands, and those to which it is to go back
above_left : (s : Heap) → Paired s → (most a i depth ports : ℕ) (es : List Event) → WalkMeets s a i es → Above s most a depth ports → depth + 1 ≤ length (atoms_left es)
above_left s paired most a i depth ports _ (link l n w) b = above_left s paired most a (i + 1) depth ports _ w b
above_left s paired most a i depth ports _ (term {es = es} c l t w) b =
    let back = term_back s paired a i c t in
    let deeper = above_left s paired (most + (i + 1)) c 0 (suc depth) (ports + (i + 1)) es w (below a i back.0 back.1 (omega arith) (above_more s most (most + (i + 1)) a depth ports (omega arith) b)) in
    omega (arith, deeper)
above_left s paired most a i _ _ _ (end_of_term p j e x ports l w) top = omega arith
above_left s paired most a i _ _ _ (end_of_term {es = es} p j e x has l w) (below {depth = depth} {ports = ports} q k y f low b) =
    let same = same_port (sym f ∙ ap (link_of s a) (sym (e ∙ arguments_of_term s a x)) ∙ l) in
    let rest = above_left s paired most p (j + 1) depth ports es w (subst (λ z. Above s most z depth ports) same.0 b) in
    omega (arith, rest)
above_left s paired most a i _ _ _ (end_of_item e x) top = omega arith
above_left s paired most a i _ _ _ (end_of_item e x) (below p j y l low b) = absurd (cc (x, y))

-- Where a walk stands at port i of an atom, some atoms are left for good, and n links have numbers: as many as those atoms and the
-- ports before the walk can have at most.
pub record HasRoom (s : Heap) (count a i n : ℕ) (rest es : List Event) : Type 0 where
  pub depth : ℕ
  pub ports : ℕ
  pub gone : ℕ
  pub above : Above s most_links a depth ports
  pub few : n ≤ count + most_links * gone + i + ports
  pub end : gone + length (atoms_left rest) ≤ length (atoms_left es)

-- a walk that leaves a term goes back to where the term stands
room_end : (s : Heap) (count a i p j n depth ports gone : ℕ) → Above s most_links a depth ports → i < 256 → link_of s a (arity_of s a - 1) ≡ Some (p, j) → n ≤ count + most_links * gone + i + ports
    → (d : ℕ) × (m : ℕ) × Above s most_links p d m × (n ≤ count + most_links * suc gone + (j + 1) + m)
room_end s count a i p j n _ _ gone top small l few = (0, 0, top, omega (arith, small, few))
room_end s count a i p j n _ _ gone (below {depth = depth} {ports = ports} q k x f low b) small l few =
    let same = same_port (sym f ∙ l) in
    let at = same.1 in
    (depth, ports, subst (λ z. Above s most_links z depth ports) same.0 b, omega (arith, small, few, at))

module _ (s : Heap) (item count : ℕ) where
  -- where the walk over an item stands at port i of the atom a, the links that were met have their numbers, and there are n
  abbrev pub NumbersLeft : Heap → ℕ → ℕ → ℕ → ℕ → Type 0
  NumbersLeft t a i n k = (es : List Event) → WalkMeets s item 0 es → (rest : List Event) × WalkMeets s a i rest × (done : (ℕ → ℕ → ℕ) → List ℕ)
      × ((name : ℕ → ℕ → ℕ) → done name ++ links_met rest name ≡ links_met es name) × GoOn s t count n done × HasRoom s count a i n rest es × (k + turns rest ≤ turns es)

  pub numbers_first : NumbersLeft s item 0 count 0
  numbers_first es w = (es, w, (λ name. []), (λ name. refl), go_none s count, record { depth = 0; ports = 0; gone = 0; above = top; few = omega arith; end = omega arith }, omega arith)

  pub numbers_link : (t u : Heap) (a i n m k : ℕ) → Remarks s t → NumbersLeft t a i n k → i < argument_count s a → term_at s a i ≡ None
      → GoOn t u n m (λ name. name a i ∷ []) → m ≤ n + 1 → NumbersLeft u a (i + 1) m k
  numbers_link t u a i n m k r h low none go more es w =
      let l = h es w in
      let met = at_link s a i l.0 l.1 low none in
      let e = met.1 in
      let turned : turns l.0 ≡ turns met.0 = ap turns e in
      let leaving : length (atoms_left l.0) ≡ length (atoms_left met.0) = ap (λ x. length (atoms_left x)) e in
      let few = l.5.few in
      let end = l.5.end in
      let some = l.6 in (
        met.0,
        met.2,
        (λ name. l.2 name ++ (name a i ∷ [])),
        (λ name. append_assoc (l.2 name) (name a i ∷ []) (links_met met.0 name) ∙ ap (λ x. l.2 name ++ links_met x name) (sym e) ∙ l.3 name),
        go_more s t u count n m l.2 (λ name. name a i ∷ []) r l.4 go,
        record { depth = l.5.depth; ports = l.5.ports; gone = l.5.gone; above = l.5.above; few = omega (arith, few, more); end = omega (arith, leaving, end) },
        omega (arith, turned, some),
      )

  pub numbers_term : (t : Heap) (a i c n k : ℕ) → Paired s → NumbersLeft t a i n k → i < 255 → i < argument_count s a → term_at s a i ≡ Some c → NumbersLeft t c 0 n (k + 1)
  numbers_term t a i c n k paired h small low is es w =
      let l = h es w in
      let met = at_term s a i c l.0 l.1 low is in
      let e = met.1 in
      let turned : turns l.0 ≡ suc (turns met.0) = ap turns e in
      let leaving : length (atoms_left l.0) ≡ length (atoms_left met.0) = ap (λ x. length (atoms_left x)) e in
      let few = l.5.few in
      let end = l.5.end in
      let some = l.6 in
      let back = term_back s paired a i c is in (
        met.0,
        met.2,
        l.2,
        (λ name. ap (λ x. l.2 name ++ links_met x name) (sym e) ∙ l.3 name),
        l.4,
        record { depth = suc l.5.depth; ports = l.5.ports + (i + 1); gone = l.5.gone; above = below a i back.0 back.1 (omega (arith, small)) l.5.above; few = omega (arith, few); end = omega (arith, leaving, end) },
        omega (arith, turned, some),
      )

  pub numbers_end : (t : Heap) (a i p j port n k : ℕ) → NumbersLeft t a i n k → i < 256 → argument_count s a ≤ i → is_item s a ≡ false
      → port ≡ j + 1 → link_of s a (arity_of s a - 1) ≡ Some (p, j) → NumbersLeft t p port n (k + 1)
  numbers_end t a i p j port n k h small high no_item behind leads es w =
      let l = h es w in
      let met = at_end_of_term s a i l.0 l.1 high no_item in
      let e = met.3 in
      let turned : turns l.0 ≡ suc (turns met.0) = ap turns e in
      let leaving : length (atoms_left l.0) ≡ suc (length (atoms_left met.0)) = ap (λ x. length (atoms_left x)) e in
      let end = l.5.end in
      let some = l.6 in
      let same = same_port (sym met.6 ∙ ap (link_of s a) (met.4 ∙ arguments_of_term s a no_item) ∙ leads) in
      let room = room_end s count a i p j n l.5.depth l.5.ports l.5.gone l.5.above small leads l.5.few in
      let few = room.3 in (
        met.0,
        subst (λ q. WalkMeets s p q met.0) (sym behind) (subst (λ q. WalkMeets s p (q + 1) met.0) same.1 (subst (λ q. WalkMeets s q (met.2 + 1) met.0) same.0 met.7)),
        l.2,
        (λ name. ap (λ x. l.2 name ++ links_met x name) (sym e) ∙ l.3 name),
        l.4,
        record { depth = room.0; ports = room.1; gone = suc l.5.gone; above = room.2; few = omega (arith, few, behind); end = omega (arith, leaving, end) },
        omega (arith, turned, some),
      )

  -- so many links have numbers as the atoms that the walk leaves have ports, at most, and one fewer before a port's end
  room_low : (a i n : ℕ) (rest es : List Event) → Paired s → WalkMeets s a i rest → HasRoom s count a i n rest es → n + 255 ≤ count + most_links * length (atoms_left es) + i
  room_low a i n rest es paired w r =
      let few = r.few in
      let end = r.end in
      let low = above_low s a r.depth r.ports r.above in
      let deep = above_left s paired most_links a i r.depth r.ports rest w r.above in
      omega (arith, few, end, low, deep)

  pub numbers_all : (t : Heap) (a i n k : ℕ) → Paired s → NumbersLeft t a i n k → i < 256 → argument_count s a ≤ i → is_item s a ≡ true
      → (es : List Event) → WalkMeets s item 0 es → GoOn s t count n (links_met es) × (n ≤ count + most_links * length (atoms_left es))
  numbers_all t a i n k paired h small high is es w =
      let l = h es w in
      let e = at_end_of_item s a i l.0 l.1 high is in
      let low = room_low a i n l.0 es paired l.1 l.5 in
      (go_as s t count n l.2 (links_met es) (λ name. sym (append-nil (l.2 name)) ∙ ap (λ x. l.2 name ++ links_met x name) (sym e) ∙ l.3 name) l.4, omega (arith, low, small))

  -- there is room for one number more where a port is met, and at most so many turns were taken as there are
  pub numbers_room : (t : Heap) (a i n k : ℕ) → Paired s → NumbersLeft t a i n k → i < 255 → (es : List Event) → WalkMeets s item 0 es → n + 1 ≤ count + most_links * length (atoms_left es)
  numbers_room t a i n k paired h small es w =
      let l = h es w in
      let low = room_low a i n l.0 es paired l.1 l.5 in
      omega (arith, low, small)

  pub numbers_turns : (t : Heap) (a i n k : ℕ) → NumbersLeft t a i n k → (es : List Event) → WalkMeets s item 0 es → k ≤ turns es
  numbers_turns t a i n k h es w = let some = (h es w).6 in omega (arith, some)
