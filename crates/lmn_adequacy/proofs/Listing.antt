-- The atoms of a ground process have a depth-first order.
use Rattle.std.proofs.Common.{ℕ, zero, suc, List, map, refl, sym, ap, subst, inl, inr, arith, length, ◌≡◌, ◌≢◌, ◌+◌, ◌≤◌, ◌⊎◌, [], ◌∷◌, ◌++◌, ◌∙◌}
use Rattle.std.proofs.lemmas.List.{append-nil, append_assoc}
use Rattle.lmn_congruence.specs.Links.{places}
use Rattle.lmn_congruence.specs.Orders.{Among, Put, Shuffle, at_head, further, here, more, none, there}
use Rattle.lmn_congruence.specs.Process.{OneToOneOn}
use Rattle.lmn_congruence.specs.Regions.{SolidAtom}
use Rattle.lmn_reduction.specs.Parts.{IsGround, ReachesLink, Rooted, across, atoms_at_top, the_root}
use Rattle.lmn_congruence.proofs.Counts.{none_if_apart, one_if_equal}
use Rattle.lmn_congruence.proofs.Renaming.{occurrences_none}
use Rattle.lmn_congruence.proofs.Shuffles.{shuffle_append, shuffle_chain, shuffle_flip, shuffle_same}
use Rattle.lmn_adequacy.specs.Embedding.{IsPart}
use Rattle.lmn_adequacy.specs.Next.{DepthFirst, ReachesAtoms, links_at, reaches_listed, reaches_new, reaches_none}
use Rattle.lmn_adequacy.proofs.Bodies.{Whole}
use Rattle.lmn_adequacy.proofs.Depth.{SameAtoms, at_append, at_cons, at_put, at_same, same_back, same_then}
use Rattle.lmn_adequacy.proofs.Embedding.{part_atom, part_shuffled}
use Rattle.lmn_adequacy.proofs.Exposing.{Source, found, missing, source}
use Rattle.lmn_adequacy.proofs.Images.{positive}
use Rattle.lmn_adequacy.proofs.OneEmbedding.{root_occurs}
use Rattle.lmn_adequacy.proofs.Orders.{either}
use Rattle.lmn_adequacy.proofs.SameParts.{at_among, part_count, part_image, shuffle_among}
use Rattle.lmn_adequacy.proofs.Wires.{at_most_two}
use Rattle.lmn_base.proofs.Numbers.{same_or_not, not_zero_if_one}
use Rattle.lmn_congruence.proofs.Common.{among_apart as among_append, among_left, among_right, among_map, places_among, among_places}
use Rattle.lmn_congruence.proofs.TranslatedLinks.{places_append}

-- each link stands in two places of both lists together, or in none
abbrev Even : List ℕ → List SolidAtom → Type 0
Even seen G = (z : ℕ) → (places z seen + places z (links_at G) ≡ 0) ⊎ (places z seen + places z (links_at G) ≡ 2)

record Reach (ys seen : List ℕ) (G : List SolidAtom) : Type 0 where
  pub listed : List SolidAtom
  pub rest : List SolidAtom
  pub reaches : ReachesAtoms ys seen listed
  pub same : SameAtoms (listed ++ rest) G
  pub done : (z : ℕ) → Among z ys ⊎ Among z (links_at listed) → places z (seen ++ links_at listed) ≡ 2

abbrev Within : List ℕ → List ℕ → Type 0
Within ys seen = (y : ℕ) → Among y ys → places y seen ≢ 0

holder : (y : ℕ) (G : List SolidAtom) → places y (links_at G) ≢ 0 → (b : SolidAtom) × (rest : List SolidAtom) × (Put b rest G) × Among y b.links
holder y [] d = absurd (d refl)
holder y (a ∷ G) d = go (same_or_not (places y a.links) 0) (holder y G)
  where
    in_rest : (m n k : ℕ) → k ≡ m + n → k ≢ 0 → m ≡ 0 → n ≢ 0
    in_rest m n k e d f = grind arith

    go : (places y a.links ≡ 0) ⊎ (places y a.links ≢ 0) → (places y (links_at G) ≢ 0 → (b : SolidAtom) × (rest : List SolidAtom) × (Put b rest G) × Among y b.links) → (b : SolidAtom) × (rest : List SolidAtom) × (Put b rest (a ∷ G)) × Among y b.links
    go (inl e) h = let u = h (in_rest (places y a.links) (places y (links_at G)) (places y (links_at (a ∷ G))) (at_cons y a G) d e) in (u.0, a ∷ u.1, there u.2, u.3)
    go (inr n) h = (a, G, here, places_among y a.links n)

length_put : {a : SolidAtom} {xs ys : List SolidAtom} → Put a xs ys → length ys ≡ suc (length xs)
length_put here = refl
length_put (there p) = ap suc (length_put p)

length_same : {xs ys : List SolidAtom} → SameAtoms xs ys → length xs ≡ length ys
length_same none = refl
length_same (more e s p) = ap suc (length_same s) ∙ sym (length_put p)

length_append : (xs ys : List SolidAtom) → length (xs ++ ys) ≡ length xs + length ys
length_append [] ys = omega arith
length_append (x ∷ xs) ys = omega (arith, length_append xs ys)

one_or_two : (m n : ℕ) → (m + n ≡ 0) ⊎ (m + n ≡ 2) → m ≢ 0 → ((m ≡ 2) × (n ≡ 0)) ⊎ ((m ≡ 1) × (n ≡ 1))
one_or_two m n e d = cases m n (sum m n e d) d
  where
    sum : (m n : ℕ) → (m + n ≡ 0) ⊎ (m + n ≡ 2) → m ≢ 0 → m + n ≡ 2
    sum m n e d = grind arith

    cases : (m n : ℕ) → m + n ≡ 2 → m ≢ 0 → ((m ≡ 2) × (n ≡ 0)) ⊎ ((m ≡ 1) × (n ≡ 1))
    cases zero n e d = absurd (d refl)
    cases (suc zero) n e d = inr (refl, omega (arith, e))
    cases (suc (suc m)) n e d = inl (omega (arith, e), omega (arith, e))

between : (m n : ℕ) → 2 ≤ m → m ≤ 2 → m ≡ 2
between m n a b = omega arith

module _ (n : ℕ) (rec : (ys seen : List ℕ) (G : List SolidAtom) → suc (length G) ≤ n → Even seen G → Within ys seen → Reach ys seen G) where
  found_new : (y : ℕ) (ys seen : List ℕ) (G G₁ : List SolidAtom) (b : SolidAtom) → length G ≤ n → Even seen G → Within ys seen → places y seen ≡ 1 → Put b G₁ G → Among y b.links → Reach (y ∷ ys) seen G
  found_new y ys seen G G₁ b l e w one p k =
      let e₁ : Even (seen ++ b.links) G₁ = λ z. subst (λ m. (m ≡ 0) ⊎ (m ≡ 2)) (omega (arith, at_put z p, places_append z seen b.links)) (e z) in
      let u = rec b.links (seen ++ b.links) G₁ (omega (arith, length_put p, l)) e₁ (λ z i. positive (places z (seen ++ b.links)) (omega (arith, places_append z seen b.links, among_places i))) in
      let ub = u.listed in
      let s : (z : ℕ) → places z (links_at G₁) ≡ places z (links_at ub) + places z (links_at u.rest) = λ z. sym (at_same z u.same) ∙ at_append z ub u.rest in
      let q : (z : ℕ) → places z (seen ++ (b.links ++ links_at ub)) ≡ places z seen + (places z b.links + places z (links_at ub)) = λ z. omega (arith, places_append z seen (b.links ++ links_at ub), places_append z b.links (links_at ub)) in
      let e₂ : Even (seen ++ (b.links ++ links_at ub)) u.rest = λ z. subst (λ m. (m ≡ 0) ⊎ (m ≡ 2)) (omega (arith, at_put z p, s z, q z)) (e z) in
      let v = rec ys (seen ++ (b.links ++ links_at ub)) u.rest (omega (arith, length_put p, l, length_same u.same, length_append ub u.rest)) e₂ (λ z i. more_there (places z seen) (places z b.links + places z (links_at ub)) (places z (seen ++ (b.links ++ links_at ub))) (w z i) (q z)) in
      let vb = v.listed in
      let all : (z : ℕ) → places z (seen ++ links_at (b ∷ (ub ++ vb))) ≡ places z seen + (places z b.links + (places z (links_at ub) + places z (links_at vb))) =
      λ z. omega (arith, places_append z seen (links_at (b ∷ (ub ++ vb))), at_cons z b (ub ++ vb), at_append z ub vb) in
      let s₂ : (z : ℕ) → places z (links_at u.rest) ≡ places z (links_at vb) + places z (links_at v.rest) = λ z. sym (at_same z v.same) ∙ at_append z vb v.rest in
      let at_most : (z : ℕ) → places z (seen ++ links_at (b ∷ (ub ++ vb))) ≤ 2 = λ z. omega (arith, all z, at_put z p, s z, s₂ z, at_most_two (places z seen + places z (links_at G)) (e z)) in
      let first : (z : ℕ) → Among z b.links ⊎ Among z (links_at ub) → places z (seen ++ links_at (b ∷ (ub ++ vb))) ≡ 2 =
      λ z i. between (places z (seen ++ links_at (b ∷ (ub ++ vb)))) 0 (omega (arith, all z, u.done z i, places_append z (seen ++ b.links) (links_at ub), places_append z seen b.links)) (at_most z) in
      let second : (z : ℕ) → Among z ys ⊎ Among z (links_at vb) → places z (seen ++ links_at (b ∷ (ub ++ vb))) ≡ 2 =
      λ z i. omega (arith, all z, v.done z i, places_append z (seen ++ (b.links ++ links_at ub)) (links_at vb), q z) in
      record {
        listed = b ∷ (ub ++ vb);
        rest = v.rest;
        reaches = reaches_new one k u.reaches v.reaches;
        same = more refl (subst (λ x. SameAtoms x G₁) (sym (append_assoc ub vb v.rest)) (same_then (shuffle_append (shuffle_same (λ a. refl) ub) v.same) u.same)) p;
        done = λ z i. either i (λ j. here_or (λ z. places z (seen ++ links_at (b ∷ (ub ++ vb))) ≡ 2) z j (first y (inl k)) (λ h. second z (inl h)))
            (λ j. either (among_append b.links (links_at (ub ++ vb)) j) (λ h. first z (inl h)) (λ h. either (among_links ub vb h) (λ o. first z (inr o)) (λ o. second z (inr o))));
      }
    where
      more_there : (m k j : ℕ) → m ≢ 0 → j ≡ m + k → j ≢ 0
      more_there m k j d e = grind arith

      among_links : (xs ys : List SolidAtom) {z : ℕ} → Among z (links_at (xs ++ ys)) → Among z (links_at xs) ⊎ Among z (links_at ys)
      among_links [] ys i = inr i
      among_links (x ∷ xs) ys i = either (among_append x.links (links_at (xs ++ ys)) i) (λ j. inl (among_left (links_at xs) j)) (λ j. either (among_links xs ys j) (λ o. inl (among_right x.links o)) (λ o. inr o))

      here_or : (A : ℕ → Type 0) {y : ℕ} {ys : List ℕ} (z : ℕ) → Among z (y ∷ ys) → A y → (Among z ys → A z) → A z
      here_or A z at_head a f = a
      here_or A z (further i) a f = f i

  reach_step : (ys seen : List ℕ) (G : List SolidAtom) → length G ≤ n → Even seen G → Within ys seen → Reach ys seen G
  reach_step [] seen G l e w = record { listed = []; rest = G; reaches = reaches_none; same = shuffle_same (λ a. refl) G; done = λ z i. either i (λ k. elim k [ ]) (λ k. elim k [ ]) }
  reach_step (y ∷ ys) seen G l e w = go (one_or_two (places y seen) (places y (links_at G)) (e y) (w y at_head)) (reach_step ys seen G l e (λ z i. w z (further i)))
    where
      go : ((places y seen ≡ 2) × (places y (links_at G) ≡ 0)) ⊎ ((places y seen ≡ 1) × (places y (links_at G) ≡ 1)) → Reach ys seen G → Reach (y ∷ ys) seen G
      go (inl q) u = record {
        listed = u.listed;
        rest = u.rest;
        reaches = reaches_listed q.0 u.reaches;
        same = u.same;
        done = λ z i. either i (λ j. first z j) (λ j. u.done z (inr j));
      }
        where
          first : (z : ℕ) → Among z (y ∷ ys) → places z (seen ++ links_at u.listed) ≡ 2
          first z at_head = omega (arith, q.0, q.1, places_append y seen (links_at u.listed), at_same y u.same, at_append y u.listed u.rest)
          first z (further j) = u.done z (inl j)
      go (inr q) u = let h = holder y G (not_zero_if_one (places y (links_at G)) q.1) in found_new y ys seen G h.1 h.0 l e (λ z i. w z (further i)) q.0 h.2 h.3

not_less : (n : ℕ) → ¬ (suc n ≤ 0)
not_less n b = absurd (omega arith)

reach : (n : ℕ) (ys seen : List ℕ) (G : List SolidAtom) → length G ≤ n → Even seen G → Within ys seen → Reach ys seen G
reach zero ys seen G l e w = reach_step zero (λ ys' seen' G' b. absurd (not_less (length G') b)) ys seen G l e w
reach (suc n) ys seen G l e w = reach_step (suc n) (λ ys' seen' G' b e' w'. reach n ys' seen' G' (omega (arith, b)) e' w') ys seen G l e w

-- ---- a ground process

-- the atoms of a process, renamed, listed depth first from a link
pub record Listed (g : Rooted) (f : ℕ → ℕ) (x : ℕ) : Type 0 where
  pub part : List SolidAtom
  pub atoms : Shuffle (λ a b. part_atom f a ≡ b) (atoms_at_top g.process) part
  pub order : DepthFirst x part

-- each ground part can be listed so
pub listing : (g : Rooted) → IsGround g → Whole g → (f : ℕ → ℕ) → OneToOneOn f g.process → (x : ℕ) → f g.root ≡ x → Listed g f x
listing g ground whole f one x root = record { part = u.listed; atoms = shuffle_chain (λ a b c p q. p ∙ q) i.atoms u.listed (same_back (subst (λ k. SameAtoms k G) (ap (λ k. u.listed ++ k) none_over ∙ append-nil u.listed) u.same)); order = u.reaches }
  where
    G : List SolidAtom
    G = map (part_atom f) (atoms_at_top g.process)

    i : IsPart g x (map (part_atom f) (atoms_at_top g.process))
    i = record { only_atoms = ground.only_atoms; to = f; one_to_one = one; root = root; atoms = part_shuffled f (atoms_at_top g.process) }

    root_places : places x (links_at (map (part_atom f) (atoms_at_top g.process))) ≡ 1
    root_places = ap (λ w. places w (links_at (map (part_atom f) (atoms_at_top g.process)))) (sym root) ∙ part_image i g.root (root_occurs ground) ∙ ground.root_is_free

    even : Even (x ∷ []) (map (part_atom f) (atoms_at_top g.process))
    even z = go (source f g.process z)
      where
        at_root : (z : ℕ) → z ≡ x → (places z (x ∷ []) + places z (links_at (map (part_atom f) (atoms_at_top g.process))) ≡ 0) ⊎ (places z (x ∷ []) + places z (links_at (map (part_atom f) (atoms_at_top g.process))) ≡ 2)
        at_root z e = inr (omega (arith, one_if_equal z x e, ap (λ w. places w (links_at (map (part_atom f) (atoms_at_top g.process)))) e, root_places))

        elsewhere : (z : ℕ) → z ≢ x → (places z (links_at (map (part_atom f) (atoms_at_top g.process))) ≡ 0) ⊎ (places z (links_at (map (part_atom f) (atoms_at_top g.process))) ≡ 2)
            → (places z (x ∷ []) + places z (links_at (map (part_atom f) (atoms_at_top g.process))) ≡ 0) ⊎ (places z (x ∷ []) + places z (links_at (map (part_atom f) (atoms_at_top g.process))) ≡ 2)
        elsewhere z d (inl e) = inl (omega (arith, none_if_apart z x d, e))
        elsewhere z d (inr e) = inr (omega (arith, none_if_apart z x d, e))

        go : Source f g.process z → (places z (x ∷ []) + places z (links_at (map (part_atom f) (atoms_at_top g.process))) ≡ 0) ⊎ (places z (x ∷ []) + places z (links_at (map (part_atom f) (atoms_at_top g.process))) ≡ 2)
        go (found y o e) = by_root (same_or_not y g.root)
          where
            by_root : (y ≡ g.root) ⊎ (y ≢ g.root) → (places z (x ∷ []) + places z (links_at (map (part_atom f) (atoms_at_top g.process))) ≡ 0) ⊎ (places z (x ∷ []) + places z (links_at (map (part_atom f) (atoms_at_top g.process))) ≡ 2)
            by_root (inl q) = at_root z (sym e ∙ ap f q ∙ root)
            by_root (inr d) =
                elsewhere z (λ q. d (one y g.root o (root_occurs ground) (e ∙ q ∙ sym root)))
                (subst (λ k. (k ≡ 0) ⊎ (k ≡ 2)) (sym (ap (λ w. places w (links_at (map (part_atom f) (atoms_at_top g.process)))) (sym e) ∙ part_image i y o)) (whole y d))
        go (missing h) = elsewhere z (λ q. h g.root (root_occurs ground) (root ∙ sym q)) (inl (part_count i z ∙ occurrences_none f z g.process h))

    u : Reach (x ∷ []) (x ∷ []) (map (part_atom f) (atoms_at_top g.process))
    u = reach (length (map (part_atom f) (atoms_at_top g.process))) (x ∷ []) (x ∷ []) (map (part_atom f) (atoms_at_top g.process)) (omega arith) even (λ y k. root_there y k)
      where
        root_there : (y : ℕ) → Among y (x ∷ []) → places y (x ∷ []) ≢ 0
        root_there y at_head = not_zero_if_one (places y (y ∷ [])) (omega (arith, one_if_equal y y refl))
        root_there y (further k) = elim k [ ]

    count : (z : ℕ) → places z (x ∷ []) + (places z (links_at u.listed) + places z (links_at u.rest)) ≤ 2
    count z = omega (arith, at_most_two (places z (x ∷ []) + places z (links_at (map (part_atom f) (atoms_at_top g.process)))) (even z), at_same z u.same, at_append z u.listed u.rest)

    -- each link that is reached has both places among what is listed
    reached_done : {y : ℕ} → ReachesLink g y → places (f y) ((x ∷ []) ++ links_at u.listed) ≡ 2
    reached_done the_root = u.done (f g.root) (inl (subst (λ k. Among k (x ∷ [])) (sym root) at_head))
    reached_done (across {a = a} {xs = ys} {x = y} {y = z} k l l' r) =
        let b : Among (part_atom f (a, ys)) (map (part_atom f) (atoms_at_top g.process)) = among_map (part_atom f) k in
        let v = shuffle_among (shuffle_flip u.same) b in
        either (among_append u.listed u.rest v.1)
        (λ w. u.done (f z) (inr (at_there (f z) (subst (λ c. Among (f z) c.links) (sym v.2) (among_map f l')) w)))
        (λ w. absurd (too_many (f y) (reached_done r) (at_among w (subst (λ c. Among (f y) c.links) (sym v.2) (among_map f l)))))
      where
        too_many : (z : ℕ) → places z ((x ∷ []) ++ links_at u.listed) ≡ 2 → ¬ (1 ≤ places z (links_at u.rest))
        too_many z e b = absurd (omega (arith, count z, places_append z (x ∷ []) (links_at u.listed)))

        at_there : (z : ℕ) {c : SolidAtom} {xs : List SolidAtom} → Among z c.links → Among c xs → Among z (links_at xs)
        at_there z k (at_head {ys = ys}) = among_left (links_at ys) k
        at_there z {c} k (further {y = d} i) = among_right d.links (at_there z k i)

    none_over : u.rest ≡ []
    none_over = go u.rest refl
      where
        go : (us : List SolidAtom) → us ≡ u.rest → u.rest ≡ []
        go [] e = sym e
        go (b ∷ us) e = absurd (clash (shuffle_among u.same (among_right u.listed (subst (Among b) e at_head))))
          where
            clash : (c : SolidAtom) × (Among c (map (part_atom f) (atoms_at_top g.process))) × (b ≡ c) → ⊥
            clash v =
                let w = shuffle_among (shuffle_flip i.atoms) v.1 in
                let c = ground.connected w.1 in
                let k : Among (f c.0) b.links = subst (λ d. Among (f c.0) d.links) (w.2 ∙ sym v.2) (among_map f c.1) in
                absurd (omega (arith, count (f c.0), reached_done c.2, places_append (f c.0) (x ∷ []) (links_at u.listed), at_among (subst (Among b) e at_head) k))
