-- Each solid has a renaming with its links numbered in printed order, and only one.
use Rattle.std.proofs.Common.{ℕ, suc, cond, eqb, List, map, refl, sym, ap, subst, inl, inr, arith, ◌≡◌, ◌≢◌, ◌≤◌, ◌<◌, ◌⊎◌, [], ◌∷◌, ◌∙◌}
use Rattle.std.proofs.lemmas.List.{map-id}
use Rattle.lmn_base.specs.Links.{Numbers, NumbersLinks, known, new, no_more}
use Rattle.lmn_congruence.specs.Fused.{Joins}
use Rattle.lmn_congruence.specs.Links.{places}
use Rattle.lmn_congruence.specs.Orders.{Among, at_head, further}
use Rattle.lmn_congruence.specs.Plains.{SolidOf, level_process}
use Rattle.lmn_congruence.specs.Process.{Closed, OneToOneOn, Process, atom, connector, membrane, nothing, occurrences, pair, rule, together}
use Rattle.lmn_congruence.specs.Regions.{Region, Regions, SolidAtom, no_region, region, region_and, region_process, regions_processes}
use Rattle.lmn_congruence.specs.Rules.{Level}
use Rattle.lmn_congruence.specs.Same.{IsRenamed, renamed_atom, renamed_region, renamed_regions}
use Rattle.lmn_congruence.proofs.Counts.{Occurs}
use Rattle.lmn_reduction.proofs.OneSolid.{level_taken}
use Rattle.lmn_congruence.proofs.RenamedRegions.{region_renamed}
use Rattle.lmn_adequacy.specs.Next.{links_at}
use Rattle.lmn_adequacy.specs.Numbered.{IsNumbered, printed_links, printed_links_in}
use Rattle.lmn_adequacy.proofs.Depth.{renamed_links as atoms_links}
use Rattle.lmn_adequacy.proofs.LiteralHeads.{closed_image}
use Rattle.lmn_adequacy.proofs.Orders.{either}
use Rattle.lmn_adequacy.proofs.SameParts.{atoms_places}
use Rattle.lmn_base.proofs.Common.{numbers_head as one_number}
use Rattle.lmn_base.proofs.Numbers.{same_or_not, chosen_there, chosen_elsewhere}
use Rattle.lmn_congruence.proofs.TranslatedLinks.{no_link_in_rules as no_link_rules, places_append}
use Rattle.lmn_congruence.proofs.Common.{among_left, among_right, places_among, among_places, map_known}
use Rattle.lmn_base.proofs.Lists.{join_maps}

-- ---- printed links

mutual
  region_links : (f : ℕ → ℕ) (S : Region) → printed_links (renamed_region f S) ≡ map f (printed_links S)
  region_links f (region xs ms rs) = join_maps f (links_at xs) (printed_links_in ms) (atoms_links f xs) (regions_links f ms)

  regions_links : (f : ℕ → ℕ) (ms : Regions) → printed_links_in (renamed_regions f ms) ≡ map f (printed_links_in ms)
  regions_links f no_region = refl
  regions_links f (region_and m ms) = join_maps f (printed_links m) (printed_links_in ms) (region_links f m) (regions_links f ms)

mutual
  region_places : (z : ℕ) (S : Region) → occurrences z (region_process S) ≡ places z (printed_links S)
  region_places z (region xs ms rs) = omega (arith, atoms_places z xs, regions_places z ms, places_append z (links_at xs) (printed_links_in ms), no_link_rules z rs)

  regions_places : (z : ℕ) (ms : Regions) → occurrences z (together (regions_processes ms)) ≡ places z (printed_links_in ms)
  regions_places z no_region = refl
  regions_places z (region_and m ms) = omega (arith, region_places z m, regions_places z ms, places_append z (printed_links m) (printed_links_in ms))

-- ---- a map that leaves all links of a region

atoms_left : (f : ℕ → ℕ) (xs : List SolidAtom) → ((x : ℕ) → Among x (links_at xs) → f x ≡ x) → map (renamed_atom f) xs ≡ xs
atoms_left f [] h = refl
atoms_left f (a ∷ xs) h = cc (one a (λ x k. h x (among_left (links_at xs) k)), atoms_left f xs (λ x k. h x (among_right a.links k)))
  where
    one : (a : SolidAtom) → ((x : ℕ) → Among x a.links → f x ≡ x) → renamed_atom f a ≡ a
    one a h = ap (λ k. record { label = a.label; links = k }) (map_known a.links h ∙ map-id a.links)

mutual
  region_left : (f : ℕ → ℕ) (S : Region) → ((x : ℕ) → Among x (printed_links S) → f x ≡ x) → renamed_region f S ≡ S
  region_left f (region xs ms rs) h = cc (atoms_left f xs (λ x k. h x (among_left (printed_links_in ms) k)), regions_left f ms (λ x k. h x (among_right (links_at xs) k)))

  regions_left : (f : ℕ → ℕ) (ms : Regions) → ((x : ℕ) → Among x (printed_links_in ms) → f x ≡ x) → renamed_regions f ms ≡ ms
  regions_left f no_region h = refl
  regions_left f (region_and m ms) h = cc (region_left f m (λ x k. h x (among_left (printed_links_in ms) k)), regions_left f ms (λ x k. h x (among_right (printed_links m) k)))

-- ---- numbers

-- the links numbered so far, those below n, occur, and the map leaves them
record Leaves (f : ℕ → ℕ) (P : Process) (n : ℕ) : Type 0 where
  pub occur : (x : ℕ) → x < n → Occurs x P
  pub stay : (x : ℕ) → x < n → f x ≡ x

module _ (f : ℕ → ℕ) (P : Process) (one : OneToOneOn f P) where
  one_further : (n : ℕ) → Leaves f P n → Occurs n P → f n ≡ n → Leaves f P (suc n)
  one_further n h o e = record { occur = λ x l. below (λ z. Occurs z P) n x l h.occur o; stay = λ x l. below (λ z. f z ≡ z) n x l h.stay e }
    where
      last : (n x : ℕ) → x < suc n → (x < n) ⊎ (x ≡ n)
      last n x l = grind arith

      below : (Q : ℕ → Type 0) (n x : ℕ) → x < suc n → ((z : ℕ) → z < n → Q z) → Q n → Q x
      below Q n x l h k = either (last n x l) (λ i. h x i) (λ e. subst Q (sym e) k)

  not_known : (n : ℕ) → Leaves f P n → Occurs n P → f n < n → ⊥
  not_known n h o l = no_less n (f n) l (one (f n) n (h.occur (f n) l) o (h.stay (f n) l))
    where
      no_less : (n m : ℕ) → m < n → m ≡ n → ⊥
      no_less n m l e = absurd (omega (arith, l, e))

  not_new : (n x : ℕ) → Leaves f P n → x < n → f x ≡ n → ⊥
  not_new n x h l e = absurd (omega (arith, l, e, h.stay x l))

  known_left : {n m y : ℕ} {ys : List ℕ} → Leaves f P n → y < n → Numbers n (f y ∷ ys) m → Numbers n ys m
  known_left {n} {m} {y} {ys} h l s = either (one_number s) (λ k. k.1) (λ k. absurd (not_new n y h l k.0))

  new_left : {n m : ℕ} {ys : List ℕ} → Leaves f P n → Occurs n P → Numbers n (f n ∷ ys) m → (f n ≡ n) × Numbers (suc n) ys m
  new_left {n} h o s = either (one_number s) (λ k. absurd (not_known n h o k.0)) (λ k. k)

  numbers_left : {n m m' : ℕ} {xs : List ℕ} → Numbers n xs m → Numbers n (map f xs) m' → Leaves f P n → ((x : ℕ) → Among x xs → Occurs x P) → (x : ℕ) → Among x xs → f x ≡ x
  numbers_left no_more s h o x k = elim k [ ]
  numbers_left (known {x = y} l r) s h o x at_head = h.stay y l
  numbers_left (known l r) s h o x (further k) = numbers_left r (known_left h l s) h (λ z i. o z (further i)) x k
  numbers_left (new {n = n} r) s h o x at_head = (new_left h (o n at_head) s).0
  numbers_left (new {n = n} r) s h o x (further k) = let e = new_left h (o n at_head) s in numbers_left r e.1 (one_further n h (o n at_head) e.0) (λ z i. o z (further i)) x k

-- a region and its links numbered in printed order: there is one at most
pub numbered_one : (S S' : Region) → IsRenamed S S' → IsNumbered S → IsNumbered S' → S ≡ S'
numbered_one S S' i s s' =
    let numbers : NumbersLinks (map i.to (printed_links S)) s'.0 = subst (λ k. NumbersLinks k s'.0) (ap printed_links i.is ∙ region_links i.to S) s'.1 in
    let left : (x : ℕ) → Among x (printed_links S) → i.to x ≡ x = numbers_left i.to (region_process S) i.one_to_one s.1 numbers (record { occur = λ x l. absurd (none_below x l); stay = λ x l. absurd (none_below x l) }) (λ x k. occurs x (occurrences x (region_process S)) (region_places x S) (among_places k)) in
    sym (i.is ∙ region_left i.to S left)
  where
    none_below : (x : ℕ) → x < 0 → ⊥
    none_below x l = absurd (omega (arith, l))

    occurs : (x m : ℕ) → m ≡ places x (printed_links S) → 1 ≤ places x (printed_links S) → m ≢ 0
    occurs x m e l = grind arith

-- ---- there is a numbering

-- a map of the links seen and of those in the list, which numbers the latter
record Numbered (xs seen : List ℕ) (n : ℕ) (f : ℕ → ℕ) : Type 0 where
  pub to : ℕ → ℕ
  pub end : ℕ
  pub numbers : Numbers n (map to xs) end
  pub stays : (z : ℕ) → Among z seen → to z ≡ f z
  pub links : List ℕ
  pub has : (z : ℕ) → Among z xs → Among z links
  pub has_seen : (z : ℕ) → Among z seen → Among z links
  pub one_to_one : (y z : ℕ) → Among y links → Among z links → to y ≡ to z → y ≡ z

-- the links seen have numbers below n, each its own
record Seen (seen : List ℕ) (n : ℕ) (f : ℕ → ℕ) : Type 0 where
  pub below : (z : ℕ) → Among z seen → f z < n
  pub one_to_one : (y z : ℕ) → Among y seen → Among z seen → f y ≡ f z → y ≡ z

abbrev with_new : ℕ → ℕ → (ℕ → ℕ) → ℕ → ℕ
with_new x n f z = cond (eqb z x) n (f z)

module _ (x n : ℕ) (seen : List ℕ) (f : ℕ → ℕ) (s : Seen seen n f) (fresh : places x seen ≡ 0) where
  not_x : (z : ℕ) → Among z seen → z ≢ x
  not_x z k e = none (places x seen) fresh (subst (λ w. 1 ≤ places w seen) e (among_places k))
    where
      none : (m : ℕ) → m ≡ 0 → ¬ (1 ≤ m)
      none m e l = absurd (omega (arith, e, l))

  same_seen : (z : ℕ) → Among z seen → with_new x n f z ≡ f z
  same_seen z k = chosen_elsewhere x n (f z) z (not_x z k)

  new_number : with_new x n f x ≡ n
  new_number = chosen_there x n (f x) x refl

  one_more_seen : Seen (x ∷ seen) (suc n) (with_new x n f)
  one_more_seen = record { below = below; one_to_one = apart_links }
    where
      below : (z : ℕ) → Among z (x ∷ seen) → with_new x n f z < suc n
      below z at_head = omega (arith, new_number)
      below z (further k) = omega (arith, same_seen z k, s.below z k)

      not_new_one : (m k l : ℕ) → m ≡ n → k ≡ l → l < n → ¬ (m ≡ k)
      not_new_one m k l a b c e = absurd (omega (arith, a, b, c, e))

      apart_links : (y z : ℕ) → Among y (x ∷ seen) → Among z (x ∷ seen) → with_new x n f y ≡ with_new x n f z → y ≡ z
      apart_links y z at_head at_head e = refl
      apart_links y z at_head (further k) e = absurd (not_new_one (with_new x n f x) (with_new x n f z) (f z) new_number (same_seen z k) (s.below z k) e)
      apart_links y z (further k) at_head e = absurd (not_new_one (with_new x n f x) (with_new x n f y) (f y) new_number (same_seen y k) (s.below y k) (sym e))
      apart_links y z (further k) (further l) e = s.one_to_one y z k l (sym (same_seen y k) ∙ e ∙ same_seen z l)

number : (xs seen : List ℕ) (n : ℕ) (f : ℕ → ℕ) → Seen seen n f → Numbered xs seen n f
number [] seen n f s = record { to = f; end = n; numbers = no_more; stays = λ z k. refl; links = seen; has = λ z k. elim k [ ]; has_seen = λ z k. k; one_to_one = s.one_to_one }
number (x ∷ xs) seen n f s = go (same_or_not (places x seen) 0) (number xs seen n f s) (λ e. number xs (x ∷ seen) (suc n) (with_new x n f) (one_more_seen x n seen f s e))
  where
    again : Among x seen → Numbered xs seen n f → Numbered (x ∷ xs) seen n f
    again k u = record { to = u.to; end = u.end; numbers = known (omega (arith, u.stays x k, s.below x k)) u.numbers; stays = u.stays; links = u.links; has = has; has_seen = u.has_seen; one_to_one = u.one_to_one }
      where
        has : (z : ℕ) → Among z (x ∷ xs) → Among z u.links
        has z at_head = u.has_seen z k
        has z (further l) = u.has z l

    once : places x seen ≡ 0 → Numbered xs (x ∷ seen) (suc n) (with_new x n f) → Numbered (x ∷ xs) seen n f
    once e u = record {
      to = u.to;
      end = u.end;
      numbers = subst (λ w. Numbers n (w ∷ map u.to xs) u.end) (sym (u.stays x at_head ∙ new_number x n seen f s e)) (new u.numbers);
      stays = λ z k. u.stays z (further k) ∙ same_seen x n seen f s e z k;
      links = u.links;
      has = has;
      has_seen = λ z k. u.has_seen z (further k);
      one_to_one = u.one_to_one;
    }
      where
        has : (z : ℕ) → Among z (x ∷ xs) → Among z u.links
        has z at_head = u.has_seen x at_head
        has z (further l) = u.has z l

    go : (places x seen ≡ 0) ⊎ (places x seen ≢ 0) → Numbered xs seen n f → (places x seen ≡ 0 → Numbered xs (x ∷ seen) (suc n) (with_new x n f)) → Numbered (x ∷ xs) seen n f
    go (inl e) u v = once e (v e)
    go (inr d) u v = again (places_among x seen d) u

-- each region has one with its links numbered in printed order
pub numbering : (S : Region) → (S' : Region) × IsRenamed S S' × IsNumbered S'
numbering S =
    let u = number (printed_links S) [] 0 (λ z. z) (record { below = λ z k. elim k [ ]; one_to_one = λ y z k. elim k [ ] }) in
    let there : (x : ℕ) → Occurs x (region_process S) → Among x u.links = λ x o. u.has x (places_among x (printed_links S) (λ e. o (region_places x S ∙ e))) in
    (renamed_region u.to S, record { to = u.to; one_to_one = λ x y o o' e. u.one_to_one x y (there x o) (there y o') e; is = refl }, (u.end, subst (λ k. NumbersLinks k u.end) (sym (region_links u.to S)) u.numbers))

-- ---- a renaming of a solid of a level

joins_mapped : (f v : ℕ → ℕ) (P : Process) → Joins v P → Joins (λ x. f (v x)) P
joins_mapped f v nothing j = tt
joins_mapped f v (connector x y) j = ap f j
joins_mapped f v (atom a xs) j = tt
joins_mapped f v (pair P Q) j = (joins_mapped f v P j.0, joins_mapped f v Q j.1)
joins_mapped f v (membrane P) j = joins_mapped f v P j
joins_mapped f v (rule r) j = tt

-- a solid with other numbers for its links is a solid of the same level
pub renamed_solid : {top : Level} {S S' : Region} → SolidOf top S → IsRenamed S S' → SolidOf top S'
renamed_solid {top} {S} {S'} s i = record {
  closed_top = s.closed_top;
  to = λ x. i.to (s.to x);
  joins = joins_mapped i.to s.to (level_process top) s.joins;
  is = i.is ∙ ap (renamed_region i.to) s.is ∙ level_taken i.to s.to (λ x. i.to (s.to x)) top (λ x o. refl);
  closed = subst (λ P. Closed P) (sym (ap region_process i.is ∙ region_renamed i.to S)) (closed_image i.to (region_process S) i.one_to_one s.closed);
}
