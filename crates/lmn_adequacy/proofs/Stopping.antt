-- The strategy stops where nothing embeds, and only there.
use Rattle.std.proofs.Common.{ℕ, zero, suc, List, map, refl, sym, ap, subst, inl, inr, arith, length, take, drop, ◌≡◌, ◌+◌, ◌<◌, ◌⊎◌, [], ◌∷◌, ◌++◌, ◌∙◌}
use Rattle.std.proofs.lemmas.List.{append_assoc}
use Rattle.lmn_congruence.specs.Orders.{Among, at_head, further}
use Rattle.lmn_congruence.specs.Regions.{Region, Regions, SolidAtom}
use Rattle.lmn_congruence.specs.Rules.{Leaf, Level, Levels, atom_leaf, connector_leaf, head_of, level, level_and, no_level, typed_leaf}
use Rattle.lmn_reduction.specs.Assignments.{Assignment}
use Rattle.lmn_adequacy.specs.Choice.{Before, ChosenFrom, asked_paths, less_behind, less_here, paths, paths_from}
use Rattle.lmn_adequacy.specs.Embedding.{AtomImages, HasEmbedding, EmbedsIn, TakenRegion, embeds_below, embeds_here, image_and, no_image, region_first, region_later, typed_later}
use Rattle.lmn_adequacy.specs.Loose.{LevelImages, MembraneImages, level_images, membrane_image_and, no_membrane_image}
use Rattle.lmn_adequacy.proofs.InOrder.{level_images_of}
use Rattle.lmn_adequacy.proofs.OneEmbedding.{region_one, taken_one}
use Rattle.lmn_adequacy.proofs.Orders.{either}
use Rattle.lmn_adequacy.proofs.Positions.{before_is, nothing_before, nothing_behind}
use Rattle.lmn_congruence.proofs.Common.{among_apart as among_append, among_left, among_right, among_map}
use Rattle.lmn_base.proofs.Numbers.{three_ways}

abbrev atom_items : List Leaf → ℕ
atom_items [] = 0
atom_items (atom_leaf a xs ∷ ls) = suc (atom_items ls)
atom_items (connector_leaf x y ∷ ls) = atom_items ls
atom_items (typed_leaf p x ∷ ls) = atom_items ls

abbrev mutual
  level_items : Level → ℕ
  level_items (level leaves membranes contexts rule_contexts rules) = atom_items leaves + membrane_items membranes

  membrane_items : Levels → ℕ
  membrane_items no_level = 0
  membrane_items (level_and l ls) = suc (level_items l + membrane_items ls)

-- ---- embeddings of one rule have as many numbers

length_both : (ns ms : List ℕ) → length (ns ++ ms) ≡ length ns + length ms
length_both [] ms = omega arith
length_both (n ∷ ns) ms = omega (arith, length_both ns ms)

atoms_length : {t : Assignment} {ls : List Leaf} {ns : List ℕ} {xs rest : List SolidAtom} → AtomImages t ls ns xs rest → length ns ≡ atom_items ls
atoms_length no_image = refl
atoms_length (image_and k a) = ap suc (atoms_length a)
atoms_length (typed_later a) = atoms_length a

mutual
  level_length : {t : Assignment} {l : Level} {ns : List ℕ} {m rest : Region} → LevelImages t l ns m rest → length ns ≡ level_items l
  level_length (level_images {ns = ns} {ns' = ns'} a p m) = omega (arith, length_both ns ns', atoms_length a, membranes_length m)

  membranes_length : {t : Assignment} {ls : Levels} {ns : List ℕ} {ms rest : Regions} → MembraneImages t ls ns ms rest → length ns ≡ membrane_items ls
  membranes_length no_membrane_image = refl
  membranes_length (membrane_image_and {ns = ns} {ns' = ns'} k l s f m) = omega (arith, length_both ns ns', level_length l, membranes_length m)

same_length : {path f g : List ℕ} {k : ℕ} {S : Region} → EmbedsIn path k f S → EmbedsIn path k g S → length f ≡ length g
same_length (embeds_here u e) (embeds_here v d) = level_length (level_images_of e.lies) ∙ ap (λ r. level_items (head_of r)) (taken_one u v).0 ∙ sym (level_length (level_images_of d.lies))
same_length {f = f} {g = g} (embeds_below {n = n} {k = k} {path = path} u e) (embeds_below v d) = same_length e (subst (EmbedsIn path k g) (sym (region_one u v).0) d)

-- ---- smallest numbers

length_tail : (x : ℕ) (xs : List ℕ) (n : ℕ) → length (x ∷ xs) ≡ suc n → length xs ≡ n
length_tail x xs n e = omega (arith, e)

no_length : (x : ℕ) (xs : List ℕ) → ¬ (length (x ∷ xs) ≡ 0)
no_length x xs e = absurd (omega (arith, e))

no_nothing : (n : ℕ) → ¬ (0 ≡ suc n)
no_nothing n e = absurd (omega (arith, e))

none_below : (x : ℕ) → ¬ (x < 0)
none_below x l = absurd (omega (arith, l))

one_or_other : (f g : List ℕ) → length f ≡ length g → ((f ≡ g) ⊎ Before f g) ⊎ Before g f
one_or_other [] [] e = inl (inl refl)
one_or_other [] (y ∷ ys) e = absurd (no_length y ys (sym e))
one_or_other (x ∷ xs) [] e = absurd (no_length x xs e)
one_or_other (x ∷ xs) (y ∷ ys) e = go (three_ways x y) (one_or_other xs ys (omega (arith, e)))
  where
    go : (x < y) ⊎ ((x ≡ y) ⊎ (y < x)) → ((xs ≡ ys) ⊎ Before xs ys) ⊎ Before ys xs → (((x ∷ xs) ≡ (y ∷ ys)) ⊎ Before (x ∷ xs) (y ∷ ys)) ⊎ Before (y ∷ ys) (x ∷ xs)
    go (inl l) o = inl (inr (less_here l))
    go (inr (inr l)) o = inr (less_here l)
    go (inr (inl e)) (inl (inl d)) = inl (inl (cc (e, d)))
    go (inr (inl e)) (inl (inr b)) = inl (inr (subst (λ w. Before (x ∷ xs) (w ∷ ys)) e (less_behind b)))
    go (inr (inl e)) (inr b) = inr (subst (λ w. Before (w ∷ ys) (x ∷ xs)) e (less_behind b))

-- a property of all lists of one length, by what is before each
abbrev Rises : ℕ → (List ℕ → Type 0) → Type 0
Rises n Q = (f : List ℕ) → length f ≡ n → ((g : List ℕ) → length g ≡ n → Before g f → Q g) → Q f

earlier_too : (n : ℕ) (Q : List ℕ → Type 0) (x : ℕ) (ys : List ℕ) → ((y : ℕ) → y < x → (zs : List ℕ) → length zs ≡ n → Q (y ∷ zs)) → ((zs : List ℕ) → length zs ≡ n → Before zs ys → Q (x ∷ zs)) → (g : List ℕ) → length g ≡ suc n → Before g (x ∷ ys) → Q g
earlier_too n Q x ys h rec [] c b = absurd (nothing_before b refl)
earlier_too n Q x ys h rec (y ∷ zs) c b = either (before_is b y x zs ys refl refl) (λ l. h y l zs (length_tail y zs n c)) (λ e. subst (λ w. Q (w ∷ zs)) (sym e.0) (rec zs (length_tail y zs n c) e.1))

all_heads : (n : ℕ) (Q : List ℕ → Type 0) → Rises (suc n) Q → ((x : ℕ) → Rises n (λ ys. Q (x ∷ ys)) → (xs : List ℕ) → length xs ≡ n → Q (x ∷ xs)) → (k x : ℕ) → x < k → (xs : List ℕ) → length xs ≡ n → Q (x ∷ xs)
all_heads n Q step rec zero x l xs e = absurd (none_below x l)
all_heads n Q step rec (suc k) x l xs e = rec x (λ ys d before. step (x ∷ ys) (ap suc d) (earlier_too n Q x ys (λ y i zs c. all_heads n Q step rec k y (omega (arith, l, i)) zs c) before)) xs e

by_order : (n : ℕ) (Q : List ℕ → Type 0) → Rises n Q → (f : List ℕ) → length f ≡ n → Q f
by_order zero Q step [] e = step [] e (λ g d b. absurd (nothing_behind b refl))
by_order zero Q step (x ∷ xs) e = absurd (no_length x xs e)
by_order (suc n) Q step [] e = absurd (no_nothing n e)
by_order (suc n) Q step (x ∷ xs) e = all_heads n Q step (λ y s ys d. by_order n (λ zs. Q (y ∷ zs)) s ys d) (suc x) x (omega arith) xs (length_tail x xs n e)

no_least : (P : List ℕ → Type 0) → ((f g : List ℕ) → P f → P g → length f ≡ length g) → ((f : List ℕ) → P f → ¬ ((g : List ℕ) → P g → (f ≡ g) ⊎ Before f g)) → (f : List ℕ) → ¬ (P f)
no_least P long never f p = by_order (length f) (λ g. ¬ (P g)) (λ g e rec q. never g q (λ h r. either (one_or_other g h (long g h q r)) (λ k. k) (λ b. absurd (rec h (long h f r p) b r)))) f refl p

no_number : (P : ℕ → List ℕ → Type 0) → ((k : ℕ) (f g : List ℕ) → P k f → P k g → length f ≡ length g) → ((k : ℕ) (f : List ℕ) → P k f → ((j : ℕ) → j < k → (g : List ℕ) → ¬ (P j g)) → ¬ ((g : List ℕ) → P k g → (f ≡ g) ⊎ Before f g)) → (n k : ℕ) → k < n → (f : List ℕ) → ¬ (P k f)
no_number P long never zero k l f = absurd (none_below k l)
no_number P long never (suc n) k l f = no_least (P k) (long k) (λ g p. never k g p (λ j i. no_number P long never n j (omega (arith, l, i)))) f

-- ---- membranes

path_below : (i j : ℕ) {n : ℕ} {path : List ℕ} {m : Region} {ms rest : Regions} → j ≡ i + n → TakenRegion n m ms rest → Among path (paths m) → Among (j ∷ path) (paths_from i ms)
path_below i j {path = path} {m = m} e (region_first {ms = ms}) a = among_left (paths_from (suc i) ms) (subst (λ w. Among (w ∷ path) (map (λ p. i ∷ p) (paths m))) (omega (arith, e)) (among_map (λ p. i ∷ p) a))
path_below i j e (region_later {n = n} {k = k} u) a = among_right (map (λ p. i ∷ p) (paths k)) (path_below (suc i) j (omega (arith, e)) u a)

path_there : {path f : List ℕ} {k : ℕ} {S : Region} → EmbedsIn path k f S → Among path (paths S)
path_there (embeds_here u e) = at_head
path_there (embeds_below {n = n} u e) = further (path_below 0 n (omega arith) u (path_there e))

cut : (n : ℕ) (ps : List (List ℕ)) {p : List ℕ} → Among p ps → Among p (drop n ps) ⊎ Among p (take n ps)
cut zero ps a = inl a
cut (suc n) [] a = elim a [ ]
cut (suc n) (q ∷ ps) at_head = inr at_head
cut (suc n) (q ∷ ps) (further a) = either (cut n ps a) (λ k. inl k) (λ k. inr (further k))

asked_there : (from : ℕ) (S : Region) {p : List ℕ} → Among p (paths S) → Among p (asked_paths from S)
asked_there from S a = either (cut from (paths S) a) (λ k. among_left (take from (paths S)) k) (λ k. among_right (drop from (paths S)) k)

module _ (from : ℕ) (S : Region) (never : (path : List ℕ) (k : ℕ) (f : List ℕ) → ¬ (ChosenFrom from S path k f)) where
  none_there : (earlier others : List (List ℕ)) (q : List ℕ) → asked_paths from S ≡ earlier ++ (q ∷ others) → ((p : List ℕ) → Among p earlier → (j : ℕ) (g : List ℕ) → ¬ (EmbedsIn p j g S)) → (j : ℕ) (g : List ℕ) → ¬ (EmbedsIn q j g S)
  none_there earlier others q e h j g = no_number (λ k f. EmbedsIn q k f S) (λ k f f' u v. same_length u v) (λ k f u first smallest. never q k f (record { embeds = u; earlier = earlier; later = others; order = e; first_membrane = h; first_rule = first; least = smallest })) (suc j) j (omega arith) g

  none_asked : (earlier others : List (List ℕ)) → asked_paths from S ≡ earlier ++ others → ((p : List ℕ) → Among p earlier → (j : ℕ) (g : List ℕ) → ¬ (EmbedsIn p j g S)) → (p : List ℕ) → Among p others → (j : ℕ) (g : List ℕ) → ¬ (EmbedsIn p j g S)
  none_asked earlier [] e h p a = elim a [ ]
  none_asked earlier (q ∷ others) e h p at_head = none_there earlier others q e h
  none_asked earlier (q ∷ others) e h p (further a) = none_asked (earlier ++ (q ∷ [])) others (e ∙ sym (append_assoc earlier (q ∷ []) others)) (λ r b. either (among_append earlier (q ∷ []) b) (λ c. h r c) (λ c. one_more r c (none_there earlier others q e h))) p a
    where
      one_more : (r : List ℕ) → Among r (q ∷ []) → ((j : ℕ) (g : List ℕ) → ¬ (EmbedsIn q j g S)) → (j : ℕ) (g : List ℕ) → ¬ (EmbedsIn r j g S)
      one_more r at_head n = n
      one_more r (further c) n = elim c [ ]

  pub no_choice : ¬ (HasEmbedding S)
  no_choice e = none_asked [] (asked_paths from S) refl (λ p a. elim a [ ]) e.path (asked_there from S (path_there e.embeds)) e.number e.positions e.embeds
