-- What is written to the links of classes.
use Rattle.std.proofs.Common.{◌≡◌, ◌<◌, ℕ, true, false, List, length, get_or, Option, Some, IsSome, refl, sym, ap, subst, ◌∙◌, inl, inr, arith}
use Rattle.lmn_base.specs.Lists.{In}
use Rattle.lmn_web_cells.specs.Cells.{HeldCell, IsLinkWord, links_of, numbers_of, with_link}
use Rattle.lmn_web_cells.proofs.LineLemmas.{still_there, link_other, keeps, count_links}
use Rattle.lmn_web_cells.specs.Runs.{link_in}
use Rattle.lmn_web_cells.specs.Numbers.{HIGH, ARITY}
use Rattle.lmn_web.specs.Classes.{AllButLinks, Touches, key_in, is_key, link_written, put_between, closed, taken_over}
use Rattle.lmn_web_cells.specs.Links.{CLASS_NEXT, CLASS_PREV, EVEN, ODD, LEADERS}
use Rattle.lmn_web.proofs.ClassTrees.{Holds}
use Rattle.lmn_web.proofs.RelistLemmas.{rest_link}

-- a write keeps what is there
pub kept : (f g : ℕ → Option HeldCell) (a k : ℕ) (v : Option ℕ) (x : ℕ) → g ≡ link_written f a k v → IsSome (f x) → IsSome (g x)
kept f g a k v x e t = subst (λ (h : ℕ → Option HeldCell). IsSome (h x)) (sym e) (still_there f a (with_link k v) x t)

-- Reading after a write

-- as many links as before
pub length_kept : (f : ℕ → Option HeldCell) (a k : ℕ) (v : Option ℕ) (x : ℕ) → length (links_of (link_written f a k v x)) ≡ length (links_of (f x))
length_kept f a k v x = keeps (λ o. length (links_of o)) f a (with_link k v) (count_links k v) x

-- and as many numbers
pub numbers_kept : (f g : ℕ → Option HeldCell) (a k : ℕ) (v : Option ℕ) (x : ℕ) → g ≡ link_written f a k v → length (numbers_of (g x)) ≡ length (numbers_of (f x))
numbers_kept f g a k v x e = ap (λ (h : ℕ → Option HeldCell). length (numbers_of (h x))) e ∙ ap (λ (r : AllButLinks). length r.numbers) (rest_link f a k v x)

-- a word of a link is one
pub word_kept : (f g : ℕ → Option HeldCell) (a k : ℕ) (v : Option ℕ) (x word : ℕ) → g ≡ link_written f a k v → IsLinkWord (f x) word → IsLinkWord (g x) word
word_kept f g a k v x word e (inl low) = inl low
word_kept f g a k v x word e (inr last) = inr (last.0, numbers_kept f g a k v x e ∙ last.1)

-- several writes keep it too
pub put_kept : (f g : ℕ → Option HeldCell) (p d c x : ℕ) → g ≡ put_between f p d c → IsSome (f x) → IsSome (g x)
put_kept f g p d c x e t =
    let f1 = link_written f c CLASS_NEXT (Some d) in let f2 = link_written f1 c CLASS_PREV (Some p) in let f3 = link_written f2 p CLASS_NEXT (Some c) in
    kept f3 g d CLASS_PREV (Some c) x e (kept f2 f3 p CLASS_NEXT (Some c) x refl (kept f1 f2 c CLASS_PREV (Some p) x refl (kept f f1 c CLASS_NEXT (Some d) x refl t)))

pub put_word : (f g : ℕ → Option HeldCell) (p d c x word : ℕ) → g ≡ put_between f p d c → IsLinkWord (f x) word → IsLinkWord (g x) word
put_word f g p d c x word e t =
    let f1 = link_written f c CLASS_NEXT (Some d) in let f2 = link_written f1 c CLASS_PREV (Some p) in let f3 = link_written f2 p CLASS_NEXT (Some c) in
    word_kept f3 g d CLASS_PREV (Some c) x word e (word_kept f2 f3 p CLASS_NEXT (Some c) x word refl (word_kept f1 f2 c CLASS_PREV (Some p) x word refl (word_kept f f1 c CLASS_NEXT (Some d) x word refl t)))

pub closed_kept : (f g : ℕ → Option HeldCell) (p n x : ℕ) → g ≡ closed f p n → IsSome (f x) → IsSome (g x)
closed_kept f g p n x e t = let f1 = link_written f p CLASS_NEXT (Some n) in kept f1 g n CLASS_PREV (Some p) x e (kept f f1 p CLASS_NEXT (Some n) x refl t)

pub closed_word : (f g : ℕ → Option HeldCell) (p n x word : ℕ) → g ≡ closed f p n → IsLinkWord (f x) word → IsLinkWord (g x) word
closed_word f g p n x word e t = let f1 = link_written f p CLASS_NEXT (Some n) in word_kept f1 g n CLASS_PREV (Some p) x word e (word_kept f f1 p CLASS_NEXT (Some n) x word refl t)

pub taken_kept : (f g : ℕ → Option HeldCell) (h k y n x : ℕ) → g ≡ taken_over f h k y n → IsSome (f x) → IsSome (g x)
taken_kept f g h k y n x e t =
    let f1 = link_written f n EVEN (link_in f y EVEN) in let f2 = link_written f1 n ODD (link_in f y ODD) in
    kept f2 g h k (Some n) x e (kept f1 f2 n ODD (link_in f y ODD) x refl (kept f f1 n EVEN (link_in f y EVEN) x refl t))

-- nothing was written
pub touches_none : (f : ℕ → Option HeldCell) (m : ℕ) (xs : List ℕ) (p : ℕ × ℕ) → Touches f f m xs p
touches_none f m xs p = record { rests = λ b. refl; lengths = λ b. refl; links = λ b j l. refl; away = λ b j o d. refl; nodes = λ z e. refl }

-- a write to a cell of the class
pub touches_own : (f g : ℕ → Option HeldCell) (m : ℕ) (xs : List ℕ) (p : ℕ × ℕ) → Touches f g m xs p → (a k : ℕ) (v : Option ℕ) → In a xs → is_key (key_in f a) p ≡ true → 2 < k → Touches f (link_written g a k v) m xs p
touches_own f g m xs p t a k v i own low = record {
  rests = λ b. rest_link g a k v b ∙ t.rests b;
  lengths = λ b. length_kept g a k v b ∙ t.lengths b;
  links = λ b j l. link_other g a k v b j (λ e. absurd (omega (arith, e, l, low))) ∙ t.links b j l;
  away = λ b j o d. link_other g a k v b j (λ _ s. o (subst (λ u. In u xs) (sym s) i)) ∙ t.away b j o d;
  nodes = λ z e. (λ u. record { prev = link_other g a k v z CLASS_PREV (λ _ s. other z e s) u; next = link_other g a k v z CLASS_NEXT (λ _ s. other z e s) u }) ∙ t.nodes z e;
}
  where
    other : (z : ℕ) → is_key (key_in f z) p ≡ false → z ≡ a → ⊥
    other z e s = let w : true ≡ false = sym own ∙ ap (λ u. is_key (key_in f u) p) (sym s) ∙ e in absurd cc

-- a write to a link to other classes
touches_side : (f g : ℕ → Option HeldCell) (m : ℕ) (xs : List ℕ) (p : ℕ × ℕ) → Touches f g m xs p → (a k : ℕ) (v : Option ℕ) → In a xs → 4 < k → Touches f (link_written g a k v) m xs p
touches_side f g m xs p t a k v i low = record {
  rests = λ b. rest_link g a k v b ∙ t.rests b;
  lengths = λ b. length_kept g a k v b ∙ t.lengths b;
  links = λ b j l. link_other g a k v b j (λ e. absurd (omega (arith, e, l, low))) ∙ t.links b j l;
  away = λ b j o d. link_other g a k v b j (λ _ s. o (subst (λ u. In u xs) (sym s) i)) ∙ t.away b j o d;
  nodes = λ z e. (λ u. record { prev = link_other g a k v z CLASS_PREV (λ n. absurd (omega (arith, n, low))) u; next = link_other g a k v z CLASS_NEXT (λ n. absurd (omega (arith, n, low))) u }) ∙ t.nodes z e;
}

-- a write to where the tree begins
touches_head : (f g : ℕ → Option HeldCell) (m : ℕ) (xs : List ℕ) (p : ℕ × ℕ) → Touches f g m xs p → (v : Option ℕ) → Touches f (link_written g m LEADERS v) m xs p
touches_head f g m xs p t v = record {
  rests = λ b. rest_link g m LEADERS v b ∙ t.rests b;
  lengths = λ b. length_kept g m LEADERS v b ∙ t.lengths b;
  links = λ b j l. link_other g m LEADERS v b j (λ e. absurd (omega (arith, e, l))) ∙ t.links b j l;
  away = λ b j o d. link_other g m LEADERS v b j (λ e s. d s e) ∙ t.away b j o d;
  nodes = λ z e. (λ u. record { prev = link_other g m LEADERS v z CLASS_PREV (λ n. absurd (omega (arith, n))) u; next = link_other g m LEADERS v z CLASS_NEXT (λ n. absurd (omega (arith, n))) u }) ∙ t.nodes z e;
}

-- a write to a link of the tree
pub touches_tree : (f g : ℕ → Option HeldCell) (m : ℕ) (xs : List ℕ) (p : ℕ × ℕ) → Touches f g m xs p → (a k : ℕ) (v : Option ℕ) → Holds m LEADERS xs a k → Touches f (link_written g a k v) m xs p
touches_tree f g m xs p t a k v (inl e) = subst (λ (u : ℕ × ℕ). Touches f (link_written g u.0 u.1 v) m xs p) (λ i. (sym e.0 i, sym e.1 i)) (touches_head f g m xs p t v)
touches_tree f g m xs p t a k v (inr (i, inl e)) = touches_side f g m xs p t a k v i (omega (arith, e))
touches_tree f g m xs p t a k v (inr (i, inr e)) = touches_side f g m xs p t a k v i (omega (arith, e))

-- the keys are as they were
pub touches_keys : (f g : ℕ → Option HeldCell) (m : ℕ) (xs : List ℕ) (p : ℕ × ℕ) → Touches f g m xs p → (b : ℕ) → key_in g b ≡ key_in f b
touches_keys f g m xs p t b = λ u. (get_or (t.rests b u).numbers HIGH 0, get_or (t.rests b u).numbers ARITY 0)

-- and so is what is there
pub touches_there : (f g : ℕ → Option HeldCell) (m : ℕ) (xs : List ℕ) (p : ℕ × ℕ) → Touches f g m xs p → (b : ℕ) → IsSome (f b) → IsSome (g b)
touches_there f g m xs p t b s = ap (λ (r : AllButLinks). r.there) (t.rests b) ∙ s
