-- Each end of a link has another end that is coloured alike, whatever is taken to one colour besides the fused links.
use Rattle.std.proofs.Common.{ℕ, ◌≡◌, ◌≢◌, ◌⊎◌, List, ◌++◌, length, Some, refl, sym, subst, ◌∙◌, inl, inr, arith}
use Rattle.std.proofs.lemmas.Bool.{cases_eq}
use Rattle.std.proofs.lemmas.List.{length-append}
use Rattle.lmn_base.specs.Graphs.{Port}
use Rattle.lmn_congruence_splice.specs.Classes.{ends_of_class}
use Rattle.lmn_congruence_splice.specs.Ports.{Partners}
use Rattle.lmn_congruence_splice.specs.Splice.{IsOneOf, NoneTwice, TwiceOrNever, both_links, links, ports}
use Rattle.lmn_congruence_splice.proofs.Common.{distinct_append, in_append, in_back, in_front}
use Rattle.lmn_congruence_splice.proofs.EndLemmas.{ends_distinct, ends_in, in_ends, in_ports, ports_in}
use Rattle.lmn_verify_renaming.proofs.Pairs.{Chosen, Even, HasPartners, chosen, even_ends, even_others, even_partners, has_other}

-- Ends and their colours.
--   back, apart      partners are partners of each other, and none is its own
--   twice            each link of the rule stands twice or never
--   news_once, olds_once   no port is named twice
--   not_old, not_new       a port that stays is none of these
--   live             a port that stays, or an old one, has a partner that stays or is old, of its colour
--   wires, olds_colour     the images of fused links are one
--   new_code, stay_code    what lives in the end has the code of its link
pub record Ends (k : Partners) (news olds : List (Port × ℕ)) (es : List (ℕ × ℕ)) (S : Port → Type 0) (image : ℕ → ℕ) (colour code : Port → ℕ) : Type 0 where
  pub back : (p q : Port) → k p ≡ Some q → k q ≡ Some p
  pub apart : (p : Port) → k p ≡ Some p → ⊥
  pub twice : TwiceOrNever (both_links es ++ (links news ++ links olds))
  pub news_once : NoneTwice (ports news)
  pub olds_once : NoneTwice (ports olds)
  pub not_old : (p : Port) → S p → IsOneOf p (ports olds) → ⊥
  pub not_new : (p : Port) → S p → IsOneOf p (ports news) → ⊥
  pub live : (p : Port) → S p ⊎ IsOneOf p (ports olds) → (q : Port) × (k p ≡ Some q) × (S q ⊎ IsOneOf q (ports olds)) × (colour q ≡ colour p)
  pub wires : (e : ℕ × ℕ) → IsOneOf e es → image e.0 ≡ image e.1
  pub olds_colour : (e : Port × ℕ) → IsOneOf e olds → image e.1 ≡ colour e.0
  pub new_code : (e : Port × ℕ) → IsOneOf e news → code e.0 ≡ image e.1
  pub stay_code : (p : Port) → S p → code p ≡ colour p

module _ (k : Partners) (news olds : List (Port × ℕ)) (es : List (ℕ × ℕ)) (S : Port → Type 0) (image : ℕ → ℕ) (colour code : Port → ℕ) (h : Ends k news olds es S image colour code)
    (x y : Port) (differ : x ≢ y) (stays_x : S x ⊎ (S x → ⊥)) (stays_y : S y ⊎ (S y → ⊥)) (end_x : S x ⊎ IsOneOf x (ports news))
    (only : (p : Port) → S p ⊎ IsOneOf p (ports news) → code p ≡ code x → (p ≡ x) ⊎ (p ≡ y)) where
  abbrev new_ends : List Port
  new_ends = ends_of_class image (code x) news

  abbrev old_ends : List Port
  old_ends = ends_of_class image (code x) olds

  -- a port that stays, with the code of x
  abbrev Alike : Port → Type 0
  Alike p = S p × (code p ≡ code x)

  kept : Chosen Alike x y
  kept = chosen Alike x y differ
      (elim stays_x [ inl s ↦ inl (s, refl) | inr d ↦ inr (λ w. d w.0) ])
      (elim stays_y [ inl s ↦ elim (cases_eq (code y) (code x)) [ inl e ↦ inl (s, e) | inr d ↦ inr (λ w. d w.1) ] | inr d ↦ inr (λ w. d w.0) ])

  live_in : (p : Port) → IsOneOf p (old_ends ++ kept.list) → (S p ⊎ IsOneOf p (ports olds)) × (colour p ≡ code x)
  live_in p i = elim (in_append p old_ends kept.list i) [
    | inl j ↦ (let w = ends_in image (code x) olds p j in (inr (in_ports olds p w.0 w.1), sym (h.olds_colour (p, w.0) w.1) ∙ w.2))
    | inr j ↦ (let w = kept.holds p j in (inl w.0.0, sym (h.stay_code p w.0.0) ∙ w.0.1))
  ]

  in_live : (p : Port) → S p ⊎ IsOneOf p (ports olds) → colour p ≡ code x → IsOneOf p (old_ends ++ kept.list)
  in_live p (inl s) e = let c : code p ≡ code x = h.stay_code p s ∙ e in in_back p old_ends kept.list (kept.all p (s, c) (only p (inl s) c))
  in_live p (inr i) e = let w = ports_in olds p i in in_front p old_ends kept.list (in_ends image (code x) olds p w.0 w.1 (h.olds_colour (p, w.0) w.1 ∙ e))

  -- the old ends and those that stay have their partners among them
  closed : HasPartners k (old_ends ++ kept.list)
  closed p i = let l = live_in p i in let w = h.live p l.0 in (w.0, in_live w.0 w.2 (w.3 ∙ l.1), w.1)

  old_once : NoneTwice (old_ends ++ kept.list)
  old_once = distinct_append old_ends kept.list (ends_distinct image (code x) olds h.olds_once) kept.once
      (λ p i j. let w = ends_in image (code x) olds p i in h.not_old p (kept.holds p j).0.0 (in_ports olds p w.0 w.1))

  new_once : NoneTwice (new_ends ++ kept.list)
  new_once = distinct_append new_ends kept.list (ends_distinct image (code x) news h.news_once) kept.once
      (λ p i j. let w = ends_in image (code x) news p i in h.not_new p (kept.holds p j).0.0 (in_ports news p w.0 w.1))

  -- so there are evenly many ends in the end
  even : Even (length (new_ends ++ kept.list))
  even = subst Even (sym (length-append new_ends kept.list))
      (even_others (length new_ends) (length old_ends) (length kept.list) (even_ends image (code x) news olds es h.twice h.wires)
      (subst Even (length-append old_ends kept.list) (even_partners k h.back h.apart (length (old_ends ++ kept.list)) (old_ends ++ kept.list) (omega arith) old_once closed)))

  end_in : (p : Port) → IsOneOf p (new_ends ++ kept.list) → (S p ⊎ IsOneOf p (ports news)) × (code p ≡ code x)
  end_in p i = elim (in_append p new_ends kept.list i) [
    | inl j ↦ (let w = ends_in image (code x) news p j in (inr (in_ports news p w.0 w.1), h.new_code (p, w.0) w.1 ∙ w.2))
    | inr j ↦ (let w = kept.holds p j in (inl w.0.0, w.0.1))
  ]

  first_in : S x ⊎ IsOneOf x (ports news) → IsOneOf x (new_ends ++ kept.list)
  first_in (inl s) = in_back x new_ends kept.list (kept.all x (s, refl) (inl refl))
  first_in (inr i) = let w = ports_in news x i in in_front x new_ends kept.list (in_ends image (code x) news x w.0 w.1 (sym (h.new_code (x, w.0) w.1)))

  -- The other end has the same code.
  pub other_alike : code y ≡ code x
  other_alike = (end_in y (has_other x y (new_ends ++ kept.list) new_once (λ p i. let w = end_in p i in only p w.0 w.1) (first_in end_x) even)).1
