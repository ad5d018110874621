-- What a walk meets where it stands.
use Rattle.std.proofs.Common.{◌≡◌, ℕ, ◌+◌, ◌-◌, ◌<◌, ◌≤◌, Bool, true, false, if◌then◌else◌, List, [], ◌∷◌, Some, None, refl, sym, ap, ◌∙◌, subst, arith}
use Rattle.lmn_store_heap.specs.Heap.{Heap, arity_of, link_of}
use Rattle.lmn_print_folding.specs.Marks.{is_item, term_at, argument_count, Event, meets_link, meets_term, leaves, WalkMeets, link, term, end_of_term, end_of_item}
use Rattle.lmn_store_heap.proofs.Common.{same_port}

absurd_less : {A : Type 0} (i n : ℕ) → i < n → i ≡ n → A
absurd_less i n l e = absurd (omega (arith, l, e))

-- a port that is printed as a link
pub at_link : (s : Heap) (a i : ℕ) (es : List Event) → WalkMeets s a i es → i < argument_count s a → term_at s a i ≡ None
    → (more : List Event) × (es ≡ meets_link a i ∷ more) × WalkMeets s a (i + 1) more
at_link s a i _ (link l n w) low none = (_, refl, w)
at_link s a i _ (term c l t w) low none = absurd (cc (none, t))
at_link s a i _ (end_of_term p j e x ports l w) low none = absurd_less i (argument_count s a) low e
at_link s a i _ (end_of_item e x) low none = absurd_less i (argument_count s a) low e

-- a port that is printed as a term
pub at_term : (s : Heap) (a i c : ℕ) (es : List Event) → WalkMeets s a i es → i < argument_count s a → term_at s a i ≡ Some c
    → (more : List Event) × (es ≡ meets_term a i c ∷ more) × WalkMeets s c 0 more
at_term s a i c _ (link l n w) low is = absurd (cc (n, is))
at_term s a i c _ (term {es = es} d l t w) low is = let same : d ≡ c = cc (t, is) in (es, ap (λ x. meets_term a i x ∷ es) same, subst (λ x. WalkMeets s x 0 es) same w)
at_term s a i c _ (end_of_term p j e x ports l w) low is = absurd_less i (argument_count s a) low e
at_term s a i c _ (end_of_item e x) low is = absurd_less i (argument_count s a) low e

-- the end of the arguments of a term, which stands at port j of the atom p
pub at_end_of_term : (s : Heap) (a i : ℕ) (es : List Event) → WalkMeets s a i es → argument_count s a ≤ i → is_item s a ≡ false
    → (more : List Event) × (p : ℕ) × (j : ℕ) × (es ≡ leaves a ∷ more) × (i ≡ argument_count s a) × (0 < arity_of s a) × (link_of s a i ≡ Some (p, j)) × WalkMeets s p (j + 1) more
at_end_of_term s a i _ (link l n w) high x = absurd (omega (arith, l, high))
at_end_of_term s a i _ (term c l t w) high x = absurd (omega (arith, l, high))
at_end_of_term s a i _ (end_of_term p j e x ports l w) high term_is = (_, p, j, refl, e, ports, l, w)
at_end_of_term s a i _ (end_of_item e x) high no_item = absurd (cc (x, no_item))

-- the end of the item
pub at_end_of_item : (s : Heap) (a i : ℕ) (es : List Event) → WalkMeets s a i es → argument_count s a ≤ i → is_item s a ≡ true → es ≡ leaves a ∷ []
at_end_of_item s a i _ (link l n w) high is = absurd (omega (arith, l, high))
at_end_of_item s a i _ (term c l t w) high is = absurd (omega (arith, l, high))
at_end_of_item s a i _ (end_of_term p j e x ports l w) high is = absurd (cc (x, is))
at_end_of_item s a i _ (end_of_item e x) high is = refl

-- Of two walks from one place the first is the second.
pub one_walk : (s : Heap) (a i : ℕ) (es fs : List Event) → WalkMeets s a i es → WalkMeets s a i fs → es ≡ fs
one_walk s a i _ fs (link l n w) v = let m = at_link s a i fs v l n in ap (λ z. meets_link a i ∷ z) (one_walk s a (i + 1) _ m.0 w m.2) ∙ sym m.1
one_walk s a i _ fs (term c l t w) v = let m = at_term s a i c fs v l t in ap (λ z. meets_term a i c ∷ z) (one_walk s c 0 _ m.0 w m.2) ∙ sym m.1
one_walk s a i _ fs (end_of_term p j e x ports l w) v =
    let m = at_end_of_term s a i fs v (omega (arith, e)) x in
    let same = same_port (sym m.6 ∙ l) in
    ap (λ z. leaves a ∷ z) (one_walk s p (j + 1) _ m.0 w (subst (λ q. WalkMeets s q (j + 1) m.0) same.0 (subst (λ k. WalkMeets s m.1 (k + 1) m.0) same.1 m.7))) ∙ sym m.3
one_walk s a i _ fs (end_of_item e x) v = sym (at_end_of_item s a i fs v (omega (arith, e)) x)

-- an atom that is printed as a term doesn't print its last argument
pub arguments_of_term : (s : Heap) (a : ℕ) → is_item s a ≡ false → argument_count s a ≡ arity_of s a - 1
arguments_of_term s a e = ap (λ b. if b then arity_of s a else arity_of s a - 1) e

-- an atom prints no more arguments than it has
pub arguments_low : (s : Heap) (a : ℕ) → argument_count s a ≤ arity_of s a
arguments_low s a = by_item (is_item s a)
  where
    by_item : (b : Bool) → (if b then arity_of s a else arity_of s a - 1) ≤ arity_of s a
    by_item true = omega arith
    by_item false = omega arith

-- a term has ports, and its last is joined to the port at which it stands
pub term_ends : (s : Heap) (a i : ℕ) (es : List Event) → WalkMeets s a i es → argument_count s a ≤ i → is_item s a ≡ false → 0 < arity_of s a
term_ends s a i es w high no_item = (at_end_of_term s a i es w high no_item).5
