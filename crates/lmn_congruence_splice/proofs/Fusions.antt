-- The ties of a body make the fusion of its connectors.
use Rattle.std.proofs.Common.{ℕ, zero, suc, ◌+◌, ◌<◌, ◌≤◌, ◌≡◌, ◌≢◌, ◌⊎◌, List, [], ◌∷◌, ◌++◌, map, length, Option, Some, None, refl, sym, ap, subst, ◌∙◌, inl, inr, arith}
use Rattle.std.proofs.lemmas.List.{map-append}
use Rattle.lmn_congruence_splice.specs.Ports.{Partners, Coloured}
use Rattle.lmn_congruence_splice.specs.Ties.{Tie, AnyNew, AnyOld, Live, Apart, TiesFit, Ties, Effects}
use Rattle.lmn_congruence_splice.specs.Classes.{class_of, ends_of_class, ties_of, rising, body_ties}
use Rattle.lmn_congruence_splice.specs.Splice.{IsOneOf, NoneTwice, TwiceOrNever, both_links, ports, links, link_at, of_rule, of_solid, raw_by, raw_link, LiveBefore, Splice, Fusion}
use Rattle.lmn_congruence_splice.proofs.ClassLemmas.{classes_twice, connected, class_least, ends_length}
use Rattle.lmn_congruence_splice.proofs.EndLemmas.{in_ports, ports_in, one_link, link_in, link_found, link_absent, ends_in, in_ends, ends_distinct, Shape, shape_of, new_cases, old_cases, new_here, old_here, apart_head, tied_head, in_rising, rising_distinct}
use Rattle.lmn_congruence_splice.proofs.Splicing.{spliced}
use Rattle.lmn_base.specs.Graphs.{Port}
use Rattle.lmn_congruence.specs.Links.{places}
use Rattle.lmn_congruence.proofs.TranslatedLinks.{places_append as often_append}

-- Even and odd

-- a number by whether it is even or odd, and its half
pub data Half : Type 0 where
  even : ℕ → Half
  odd : ℕ → Half

-- that of the next number
abbrev pub next_half : Half → Half
next_half (even x) = odd x
next_half (odd x) = even (suc x)

-- that of a number
abbrev pub half : ℕ → Half
half zero = even zero
half (suc z) = next_half (half z)

-- links of a rule are even,
pub half_rule : (x : ℕ) → half (of_rule x) ≡ even x
half_rule zero = refl
half_rule (suc x) = let e : suc x + suc x ≡ suc (suc (x + x)) = omega arith in rw (e, half_rule x) refl

-- and those of the solid odd
pub half_solid : (x : ℕ) → half (of_solid x) ≡ odd x
half_solid x = rw (half_rule x) refl

-- a link of the rule is none of the solid
pub apart_rule : (x y : ℕ) → of_rule x ≢ of_solid y
apart_rule x y e = omega arith

-- links of the rule are different where their numbers are
pub rule_once : (x y : ℕ) → of_rule x ≡ of_rule y → x ≡ y
rule_once x y e = omega arith

-- and so are those of the solid
pub solid_once : (x y : ℕ) → of_solid x ≡ of_solid y → x ≡ y
solid_once x y e = omega arith

-- Live ports by other colours
recoloured : (c d : Port → ℕ) (L L' : Port → Type 0) (k : Partners) → Coloured c L k → ((p : Port) → L' p → L p) → ((p : Port) → L p → L' p)
    → ((p : Port) → L p → d p ≡ of_solid (c p)) → Coloured d L' k
recoloured c d L L' k h into back e = record {
  partner = λ p l. let w = h.partner p (into p l) in (w.0, back w.0 w.1, w.2, w.3, e w.0 w.1 ∙ ap of_solid w.4 ∙ sym (e p (into p l)));
  only = λ p q lp lq f. h.only p q (into p lp) (into q lq) (solid_once (c p) (c q) (sym (e p (into p lp)) ∙ f ∙ e q (into q lq)));
}

same_colours : (c d : Port → ℕ) (F : Port → Type 0) (k : Partners) → Coloured c F k → ((p : Port) → d p ≡ c p) → Coloured d F k
same_colours c d F k h e = record {
  partner = λ p l. let w = h.partner p l in (w.0, w.1, w.2, w.3, e w.0 ∙ w.4 ∙ sym (e p));
  only = λ p q lp lq f. h.only p q lp lq (sym (e p) ∙ f ∙ e q);
}

-- The classes have two ends or none.
module _ (m : ℕ → ℕ) (news olds : List (Port × ℕ)) (twice : TwiceOrNever (map m (links news ++ links olds))) where
  abbrev new_of : ℕ → List Port
  new_of z = ends_of_class m z news

  abbrev old_of : ℕ → List Port
  old_of z = ends_of_class m z olds

  pub shaped : (z : ℕ) → Shape (new_of z) (old_of z)
  shaped z = shape_of (new_of z) (old_of z) (elim (twice z) [ inl e ↦ inl (number ∙ e) | inr e ↦ inr (number ∙ e) ])
    where
      number : length (new_of z) + length (old_of z) ≡ places z (map m (links news ++ links olds))
      number = rw (ends_length m z news, ends_length m z olds) (sym (ap (places z) (map-append m (links news) (links olds)) ∙ often_append z (map m (links news)) (map m (links olds))))

  pub news_of : (zs : List ℕ) (r : Port) → AnyNew r (ties_of m news olds zs) → (z : ℕ) × IsOneOf z zs × IsOneOf r (new_of z)
  news_of [] r n = absurd n
  news_of (z ∷ zs) r n = elim (new_cases (new_of z) (old_of z) (ties_of m news olds zs) r (shaped z) n) [
    | inl i ↦ (z, inl refl, i)
    | inr v ↦ (let w = news_of zs r v in (w.0, inr w.1, w.2))
  ]

  pub olds_of : (zs : List ℕ) (r : Port) → AnyOld r (ties_of m news olds zs) → (z : ℕ) × IsOneOf z zs × IsOneOf r (old_of z)
  olds_of [] r n = absurd n
  olds_of (z ∷ zs) r n = elim (old_cases (new_of z) (old_of z) (ties_of m news olds zs) r (shaped z) n) [
    | inl i ↦ (z, inl refl, i)
    | inr v ↦ (let w = olds_of zs r v in (w.0, inr w.1, w.2))
  ]

  pub of_news : (zs : List ℕ) (r : Port) (z : ℕ) → IsOneOf z zs → IsOneOf r (new_of z) → AnyNew r (ties_of m news olds zs)
  of_news [] r z i j = absurd i
  of_news (y ∷ zs) r z (inl e) j = new_here (new_of y) (old_of y) (ties_of m news olds zs) r (shaped y) (inl (subst (λ x. IsOneOf r (new_of x)) (sym e) j))
  of_news (y ∷ zs) r z (inr i) j = new_here (new_of y) (old_of y) (ties_of m news olds zs) r (shaped y) (inr (of_news zs r z i j))

  pub of_olds : (zs : List ℕ) (r : Port) (z : ℕ) → IsOneOf z zs → IsOneOf r (old_of z) → AnyOld r (ties_of m news olds zs)
  of_olds [] r z i j = absurd i
  of_olds (y ∷ zs) r z (inl e) j = old_here (new_of y) (old_of y) (ties_of m news olds zs) r (shaped y) (inl (subst (λ x. IsOneOf r (old_of x)) (sym e) j))
  of_olds (y ∷ zs) r z (inr i) j = old_here (new_of y) (old_of y) (ties_of m news olds zs) r (shaped y) (inr (of_olds zs r z i j))

  -- the two ends of each class have one image
  pub tied : (M : ℕ → ℕ) (c : Port → ℕ) (zs : List ℕ) → Ties M c (ties_of m news olds zs) → (z : ℕ) → IsOneOf z zs
      → (a b : Port) → IsOneOf a (new_of z) ⊎ IsOneOf a (old_of z) → IsOneOf b (new_of z) ⊎ IsOneOf b (old_of z) → M (c a) ≡ M (c b)
  tied M c [] w z i = absurd i
  tied M c (y ∷ zs) w z (inl e) = λ a b i j. (tied_head M c (new_of y) (old_of y) (ties_of m news olds zs) (shaped y) w).0 a b
      (subst (λ x. IsOneOf a (new_of x) ⊎ IsOneOf a (old_of x)) (sym e) i) (subst (λ x. IsOneOf b (new_of x) ⊎ IsOneOf b (old_of x)) (sym e) j)
  tied M c (y ∷ zs) w z (inr i) = tied M c zs (tied_head M c (new_of y) (old_of y) (ties_of m news olds zs) (shaped y) w).1 z i

  -- No port stands in two ties, and new ports of different classes have different colours.
  pub ties_apart : NoneTwice (ports news) → NoneTwice (ports olds) → ((p h : Port) → IsOneOf p (ports news) → IsOneOf h (ports olds) → p ≢ h)
      → (c : Port → ℕ) → ((p : Port) (x : ℕ) → IsOneOf {A = Port × ℕ} (p, x) news → c p ≡ of_rule (m x)) → (zs : List ℕ) → NoneTwice zs → Apart c (ties_of m news olds zs)
  ties_apart dn dl d c e [] w = tt
  ties_apart dn dl d c e (z ∷ zs) w = apart_head c (new_of z) (old_of z) (ties_of m news olds zs) (shaped z) (ends_distinct m z news dn) (ends_distinct m z olds dl)
      (λ p h i j. let u = ends_in m z news p i in let v = ends_in m z olds h j in d p h (in_ports news p u.0 u.1) (in_ports olds h v.0 v.1))
      (λ r i n. let u = ends_in m z news r i in let v = news_of zs r n in let x = ends_in m v.0 news r v.2 in
      w.0 (subst (λ y. IsOneOf y zs) (sym x.2 ∙ ap m (one_link news dn r x.0 u.0 x.1 u.1) ∙ u.2) v.1))
      (λ r i n. let u = ends_in m z olds r i in let v = olds_of zs r n in let x = ends_in m v.0 olds r v.2 in
      w.0 (subst (λ y. IsOneOf y zs) (sym x.2 ∙ ap m (one_link olds dl r x.0 u.0 x.1 u.1) ∙ u.2) v.1))
      (λ r q i n f. let u = ends_in m z news r i in let v = news_of zs q n in let x = ends_in m v.0 news q v.2 in
      w.0 (subst (λ y. IsOneOf y zs) (sym x.2 ∙ sym (rule_once (m u.0) (m x.0) (sym (e r u.0 u.1) ∙ f ∙ e q x.0 x.1)) ∙ u.2) v.1))
      (ties_apart dn dl d c e zs w.1)

-- The image of a link of the rule whose class has these old ends: that of the first one, if there is one.
abbrev by_olds : (ℕ → ℕ) → (Port → ℕ) → ℕ → List Port → ℕ
by_olds M c z [] = M (of_rule z)
by_olds M c z (h ∷ hs) = M (c h)

abbrev by_half : (ℕ → ℕ) → (ℕ → ℕ) → Half → ℕ
by_half f g (even x) = f x
by_half f g (odd x) = g x

abbrev map_link : (ℕ → ℕ) → Option ℕ → Option ℕ
map_link m None = None
map_link m (Some x) = Some (m x)

module _ (F : Port → Type 0) (c : Port → ℕ) (k : Partners) (news olds : List (Port × ℕ)) (es : List (ℕ × ℕ)) (n : ℕ) (s : Splice F c k news olds es)
    (below : (x : ℕ) → IsOneOf x (links news ++ links olds) → x < n) where
  abbrev m : ℕ → ℕ
  m = class_of es

  abbrev ts : List (Tie Port)
  ts = body_ties news olds es n

  abbrev zs : List ℕ
  zs = rising 0 n

  -- a new port has the colour of its class
  abbrev pub d : Port → ℕ
  d p = raw_by (c p) (map_link m (link_at news p))

  map_id : (xs : List ℕ) → map (λ (x : ℕ). x) xs ≡ xs
  map_id [] = refl
  map_id (x ∷ xs) = ap (λ ys. x ∷ ys) (map_id xs)

  twice : TwiceOrNever (map m (links news ++ links olds))
  twice = classes_twice (λ z. z) es (links news ++ links olds) (subst TwiceOrNever (sym (map_id (both_links es ++ (links news ++ links olds)))) s.linked)

  in_left : (x : ℕ) (xs ys : List ℕ) → IsOneOf x xs → IsOneOf x (xs ++ ys)
  in_left x [] ys i = absurd i
  in_left x (y ∷ xs) ys (inl e) = inl e
  in_left x (y ∷ xs) ys (inr i) = inr (in_left x xs ys i)

  in_right : (x : ℕ) (xs ys : List ℕ) → IsOneOf x ys → IsOneOf x (xs ++ ys)
  in_right x [] ys i = i
  in_right x (y ∷ xs) ys i = inr (in_right x xs ys i)

  in_links : (fs : List (Port × ℕ)) (p : Port) (x : ℕ) → IsOneOf {A = Port × ℕ} (p, x) fs → IsOneOf x (links fs)
  in_links [] p x i = absurd i
  in_links (f ∷ fs) p x (inl e) = inl (ap (λ (w : Port × ℕ). w.1) e)
  in_links (f ∷ fs) p x (inr i) = inr (in_links fs p x i)

  covered : (x : ℕ) → x < n → IsOneOf (m x) zs
  covered x h = in_rising n 0 (m x) (omega arith) (less (m x) (class_least (λ z. z) es x))
    where
      less : (y : ℕ) → y ≤ x → y < 0 + n
      less y g = omega arith

  new_covered : (p : Port) (x : ℕ) → IsOneOf {A = Port × ℕ} (p, x) news → IsOneOf (m x) zs
  new_covered p x i = covered x (below x (in_left x (links news) (links olds) (in_links news p x i)))

  old_covered : (p : Port) (x : ℕ) → IsOneOf {A = Port × ℕ} (p, x) olds → IsOneOf (m x) zs
  old_covered p x i = covered x (below x (in_right x (links news) (links olds) (in_links olds p x i)))

  is_new : (p : Port) → AnyNew p ts → IsOneOf p (ports news)
  is_new p w = let v = news_of m news olds twice zs p w in let u = ends_in m v.0 news p v.2 in in_ports news p u.0 u.1

  pub is_old : (p : Port) → AnyOld p ts → IsOneOf p (ports olds)
  is_old p w = let v = olds_of m news olds twice zs p w in let u = ends_in m v.0 olds p v.2 in in_ports olds p u.0 u.1

  new_is : (p : Port) → IsOneOf p (ports news) → AnyNew p ts
  new_is p i = let w = ports_in news p i in of_news m news olds twice zs p (m w.0) (new_covered p w.0 w.1) (in_ends m (m w.0) news p w.0 w.1 refl)

  old_is : (p : Port) → IsOneOf p (ports olds) → AnyOld p ts
  old_is p i = let w = ports_in olds p i in of_olds m news olds twice zs p (m w.0) (old_covered p w.0 w.1) (in_ends m (m w.0) olds p w.0 w.1 refl)

  not_both : (p : Port) → IsOneOf p (ports olds) → IsOneOf p (ports news) → ⊥
  not_both p i j = s.gone p i (s.made p j).0

  new_colour : (p : Port) (x : ℕ) → IsOneOf {A = Port × ℕ} (p, x) news → d p ≡ of_rule (m x)
  new_colour p x i = ap (λ o. raw_by (c p) (map_link m o)) (link_found news s.new_once p x i)

  other_colour : (p : Port) → (IsOneOf p (ports news) → ⊥) → d p ≡ of_solid (c p)
  other_colour p w = ap (λ o. raw_by (c p) (map_link m o)) (link_absent news p w)

  into : (p : Port) → Live F ts p → LiveBefore F news olds p
  into p (inl w) = inl (w.0, λ i. w.1 (new_is p i))
  into p (inr o) = inr (is_old p o)

  back : (p : Port) → LiveBefore F news olds p → Live F ts p
  back p (inl w) = inl (w.0, λ i. w.1 (is_new p i))
  back p (inr o) = inr (old_is p o)

  live_colour : (p : Port) → LiveBefore F news olds p → d p ≡ of_solid (c p)
  live_colour p (inl w) = other_colour p w.1
  live_colour p (inr i) = other_colour p (not_both p i)

  pub before : Coloured d (Live F ts) k
  before = recoloured c d (LiveBefore F news olds) (Live F ts) k s.coloured into back live_colour

  pub fits : TiesFit F d k ts
  fits = record {
    apart = ties_apart m news olds twice s.new_once s.old_once (λ p h i j e. not_both h j (subst (λ z. IsOneOf z (ports news)) e i)) d new_colour zs (rising_distinct n 0);
    made = λ r w. (s.made r (is_new r w)).0;
    no_partner = λ r w. (s.made r (is_new r w)).1;
    gone = λ r w. s.gone r (is_old r w);
    fresh = λ r q w l e. let v = ports_in news r (is_new r w) in apart_rule (m v.0) (c q) (sym (new_colour r v.0 v.1) ∙ e ∙ live_colour q (into q l));
  }

  module _ (k' : Partners) (runs : Effects (body_ties news olds es n) k k') where
    after : (M : ℕ → ℕ) × Ties M d ts × Coloured (λ p. M (d p)) F k'
    after = spliced F d k k' ts runs fits before

    abbrev rule_image : ℕ → ℕ
    rule_image z = by_olds after.0 d z (ends_of_class m z olds)

    abbrev to : ℕ → ℕ
    to x = by_half (λ y. rule_image (m y)) (λ y. after.0 (of_solid y)) (half x)

    to_rule : (x : ℕ) → to (of_rule x) ≡ rule_image (m x)
    to_rule x = ap (by_half (λ y. rule_image (m y)) (λ y. after.0 (of_solid y))) (half_rule x)

    to_solid : (x : ℕ) → to (of_solid x) ≡ after.0 (of_solid x)
    to_solid x = ap (by_half (λ y. rule_image (m y)) (λ y. after.0 (of_solid y))) (half_solid x)

    tied_at : (z : ℕ) → IsOneOf z zs → (a b : Port) → IsOneOf a (ends_of_class m z news) ⊎ IsOneOf a (ends_of_class m z olds) → IsOneOf b (ends_of_class m z news) ⊎ IsOneOf b (ends_of_class m z olds) → after.0 (d a) ≡ after.0 (d b)
    tied_at = tied m news olds twice after.0 d zs after.1

    heads : (e : Port × ℕ) → IsOneOf e olds → to (of_rule e.1) ≡ to (of_solid (c e.0))
    heads e i = to_rule e.1 ∙ by (ends_of_class m (m e.1) olds) (in_ends m (m e.1) olds e.0 e.1 i refl) (λ h j. tied_at (m e.1) (old_covered e.0 e.1 i) h e.0 (inr j) (inr (in_ends m (m e.1) olds e.0 e.1 i refl)))
        ∙ ap after.0 (live_colour e.0 (inr (in_ports olds e.0 e.1 i))) ∙ sym (to_solid (c e.0))
      where
        by : (hs : List Port) → IsOneOf e.0 hs → ((h : Port) → IsOneOf h hs → after.0 (d h) ≡ after.0 (d e.0)) → by_olds after.0 d (m e.1) hs ≡ after.0 (d e.0)
        by [] w t = absurd w
        by (h ∷ hs) w t = t h (inl refl)

    images : (p : Port) → to (raw_link news c p) ≡ after.0 (d p)
    images p = by (link_at news p) refl
      where
        at_new : (x : ℕ) → IsOneOf {A = Port × ℕ} (p, x) news → rule_image (m x) ≡ after.0 (d p)
        at_new x i = from (ends_of_class m (m x) olds) (λ h j. tied_at (m x) (new_covered p x i) h p (inr j) (inl (in_ends m (m x) news p x i refl)))
          where
            from : (hs : List Port) → ((h : Port) → IsOneOf h hs → after.0 (d h) ≡ after.0 (d p)) → by_olds after.0 d (m x) hs ≡ after.0 (d p)
            from [] t = ap after.0 (sym (new_colour p x i))
            from (h ∷ hs) t = t h (inl refl)

        by : (o : Option ℕ) → link_at news p ≡ o → to (raw_link news c p) ≡ after.0 (d p)
        by None e = rw e (to_solid (c p))
        by (Some x) e = ap (λ o. to (raw_by (c p) o)) e ∙ to_rule x ∙ at_new x (link_in news p x e)

    pub fusion : Fusion F c k' news olds es
    fusion = record {
      to = to;
      connectors = λ e i. to_rule e.0 ∙ ap rule_image (connected (λ z. z) es e i) ∙ sym (to_rule e.1);
      heads = heads;
      coloured = same_colours (λ p. after.0 (d p)) (λ p. to (raw_link news c p)) F k' after.2 images;
    }
