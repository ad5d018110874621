-- A search goes through the items of a head, and through the choices for one of them.
use Rattle.std.proofs.Common.{◌≡◌, ◌∙◌, ◌==◌, ◌⊎◌, ℕ, zero, suc, ◌+◌, ◌-◌, ◌<◌, ◌≤◌, Bool, true, false, if◌then◌else◌, List, [], ◌∷◌, ◌++◌, length, take, drop, slice_get, slice_index_or, get_or, Option, Some, IfSome, MatchOption, refl, sym, ap, subst, inl, inr, arith}
use Rattle.std.proofs.lemmas.List.{length_push}
use Rattle.std.proofs.lemmas.Option.{same_Some}
use Rattle.lmn_base.specs.declared.functor.Functor.{Functor}
use Rattle.lmn_base.specs.declared.guard.Cond.{Cond}
use Rattle.lmn_base.specs.Lists.{In}
use Rattle.lmn_base.proofs.Lists.{in_snoc, take_whole}
use Rattle.lmn_base.proofs.Numbers.{equal_itself, equal_when, three_ways as order_of}
use Rattle.lmn_guards.specs.declared.plan.TypeKind.{TypeKind}
use Rattle.lmn_store_heap.specs.Heap.{Heap, IsAtom, IsMem}
use Rattle.lmn_solid_heads.specs.declared.items.HeadItem.{HeadItem}
use Rattle.lmn_solid_heads.specs.declared.items.HeadItem.TheVariants.{Atom, Typed, Membrane}
use Rattle.lmn_solid_heads.specs.Heads.{atoms_of, membranes_of}
use Rattle.lmn_solid_heads.specs.Embeddings.{index_of, ListNotAfter}
use Rattle.lmn_compile_head.specs.Heads.{EachInside}
use Rattle.lmn_solid_search.specs.Binding.{after_all}
use Rattle.lmn_solid_search.specs.Choosing.{Allowed, Answers, AnswersAmong, AnswersWith, CanBe, Chooses, Fails, IsFound, IsNew, RefusesAtom, Sits, atoms_inside, membranes_inside, places, with_atom, with_membrane}
use Rattle.lmn_solid_search.specs.Knowing.{Knows}
use Rattle.lmn_solid_search.specs.Meeting.{Meets, named_meaning}
use Rattle.lmn_solid_search.specs.Parting.{AreTaken}
use Rattle.lmn_solid_search.specs.Placing.{ArePlaced, membrane_at}
use Rattle.lmn_solid_search.specs.Reasoning.{Agrees, RestsOnLess, SameImages}
use Rattle.lmn_solid_search.specs.declared.head.Head.{Head}
use Rattle.lmn_solid_search.specs.declared.meeting.Fulfilled.{Fulfilled}
use Rattle.lmn_solid_search.specs.declared.numbers.Numbers.{Numbers}
use Rattle.lmn_solid_search.specs.declared.numbers.Numbers.TheVariants.{All}
use Rattle.lmn_solid_search.specs.declared.parts.Part.{Part}
use Rattle.lmn_solid_search.specs.declared.placed.Placed.{Placed}
use Rattle.lmn_solid_search.specs.declared.reasons.Reasons.{Reasons}
use Rattle.lmn_solid_search.specs.declared.search.Sought.{Sought}
use Rattle.lmn_solid_search.specs.declared.search.Sought.TheVariants.{Failed, Found}
use Rattle.lmn_solid_search.proofs.EmbeddingLemmas.{keeps_on}
use Rattle.lmn_solid_search.proofs.ReasoningLemmas.{agrees_all, agrees_fewer, agrees_itself}
use Rattle.lmn_solid_search.proofs.SearchLemmas.{popped}
use Rattle.lmn_solid_search.proofs.WholeLemmas.{all_so_far, in_whole}
use Rattle.lmn_adequacy_heaps.proofs.OutOf.{index_in as item_in}
use Rattle.lmn_solid_heads.proofs.Common.{same_index}

-- ---- lists

-- a list by its first item and the rest of it
pub begins_with : (xs : List HeadItem) (first x : HeadItem) → 1 ≤ length xs → first ≡ get_or xs 0 first → first ≡ x → xs ≡ x ∷ take (length xs - 1) (drop 1 xs)
begins_with [] first x l e g = absurd (omega (arith, l))
begins_with (y ∷ ys) first x low e g =
    let l : suc (length ys) - 1 ≡ length ys = omega arith in
    ap (λ z. z ∷ ys) (sym e ∙ g) ∙ ap (λ zs. x ∷ zs) (sym (take_whole ys) ∙ ap (λ k. take k ys) (sym l))

pub nothing_left : (xs : List HeadItem) → length xs < 1 → [] ≡ xs
nothing_left [] l = refl
nothing_left (y ∷ ys) l = absurd (omega (arith, l))

-- what stands at an index stands there
index_get : (b : ℕ) (cs : List ℕ) → In b cs → slice_get cs (index_of b cs) ≡ Some b
index_get b [] i = absurd i
index_get b (y ∷ ys) i = by (y == b) refl i (index_get b ys)
  where
    by : (t : Bool) → (y == b) ≡ t → In b (y ∷ ys) → (In b ys → slice_get ys (index_of b ys) ≡ Some b) → slice_get (y ∷ ys) (if t then 0 else suc (index_of b ys)) ≡ Some b
    by true e i h = ap Some (equal_when y b e)
    by false e (inl same) h = let u = subst (λ z. (y == z) ≡ true) same (equal_itself y) in absurd (cc)
    by false e (inr j) h = h j

-- the index is that of the first
index_least : (a : ℕ) (cs : List ℕ) (i : ℕ) → i < length cs → slice_index_or cs i 0 ≡ a → index_of a cs ≤ i
index_least a [] i l e = absurd (omega (arith, l))
index_least a (y ∷ ys) i l e = by (y == a) refl i l e (index_least a ys)
  where
    by : (t : Bool) → (y == a) ≡ t → (i : ℕ) → i < suc (length ys) → slice_index_or (y ∷ ys) i 0 ≡ a → ((j : ℕ) → j < length ys → slice_index_or ys j 0 ≡ a → index_of a ys ≤ j) → (if t then 0 else suc (index_of a ys)) ≤ i
    by true e i l g h = omega arith
    by false e zero l g h = let u = subst (λ z. (y == z) ≡ true) g (equal_itself y) in absurd (cc)
    by false e (suc j) l g h = let r = h j (omega (arith, l)) g in omega (arith, r)

get_early : (cs : List ℕ) (j i b : ℕ) → slice_get cs j ≡ Some b → j < i → In b (take i cs)
get_early [] j i b e l = absurd (cc)
get_early (y ∷ ys) j zero b e l = absurd (omega (arith, l))
get_early (y ∷ ys) zero (suc i) b e l = inl (same_Some _ _ e)
get_early (y ∷ ys) (suc j) (suc i) b e l = inr (get_early ys j i b e (omega (arith, l)))

-- ---- the choices for one item, in their order

module _ (h : Heap) (head : Head) (guard : List Cond) (xs : List HeadItem) (May : Placed → ℕ → Type 0) (next : Placed → ℕ → Placed) (listed : Placed → List ℕ) (choices : List ℕ) (p : Placed) where
  -- a choice leads to nothing, for these reasons; none of the first does
  abbrev pub LeadsToNothing : Reasons → ℕ → Type 0
  LeadsToNothing e a = (q r : Placed) → Agrees e p q → May q a → Chooses h head xs (next q a) r → CanBe h head guard r → ⊥

  abbrev pub NoneOf : Reasons → ℕ → Type 0
  NoneOf e i = (a : ℕ) → In a (take i choices) → LeadsToNothing e a

  pub none_more : (d e : Reasons) (i : ℕ) → i < length choices → RestsOnLess d e → LeadsToNothing e (slice_index_or choices i 0) → NoneOf d i → NoneOf e (i + 1)
  none_more d e i l less here none = all_so_far (LeadsToNothing e) choices i l here (λ a k q r g. none a k q r (agrees_fewer d e p q less g))

  pub none_all : (e : Reasons) (i : ℕ) (q : Placed) → length choices ≤ i → q ≡ p → choices ≡ listed p → ((z : Placed) → Agrees e p z → listed z ≡ listed p) → NoneOf e i → AnswersAmong h head guard xs May next listed p q (Failed e)
  none_all e i q l same is kept none = (same, λ z a r g k. none a (in_whole a choices i l (subst (In a) (kept z g ∙ sym is) k)) z r g)

  -- the first of these choices with which one is found
  abbrev pub FoundAmong : Placed → Fulfilled → List ℕ → Type 0
  FoundAmong q found cs = (a : ℕ) × In a cs × May p a × (c : Chooses h head xs (next p a) q) × IsFound h head guard q found
      × ((b : ℕ) → In b cs → May p b → (r : Placed) (d : Chooses h head xs (next p b) r) → CanBe h head guard r
      → ListNotAfter (index_of a cs ∷ places h head xs (next p a) q c) (index_of b cs ∷ places h head xs (next p b) r d))

  pub found_here : (e : Reasons) (i a : ℕ) (q : Placed) (found : Fulfilled) → i < length choices → slice_index_or choices i 0 ≡ a → choices ≡ listed p → NoneOf e i → May p a → Answers h head guard xs (next p a) q (Found found)
      → AnswersAmong h head guard xs May next listed p q (Found found)
  found_here e i a q found l g is none may (c, found_is, least) = subst (FoundAmong q found) is (
    a,
    there,
    may,
    c,
    found_is,
    λ b j may' r d w. by b j may' r d w (order_of (index_of a choices) (index_of b choices)),
  )
    where
      there : In a choices
      there = subst (λ z. In z choices) g (item_in choices i l)

      by : (b : ℕ) → In b choices → May p b → (r : Placed) (d : Chooses h head xs (next p b) r) → CanBe h head guard r
          → (index_of a choices < index_of b choices) ⊎ ((index_of a choices ≡ index_of b choices) ⊎ (index_of b choices < index_of a choices))
          → ListNotAfter (index_of a choices ∷ places h head xs (next p a) q c) (index_of b choices ∷ places h head xs (next p b) r d)
      by b j may' r d w (inl before) = inl before
      by b j may' r d w (inr (inl same)) = inr (
        same,
        subst (λ z. (d' : Chooses h head xs (next p z) r) → ListNotAfter (places h head xs (next p a) q c) (places h head xs (next p z) r d')) (same_index a b choices same there j) (λ d'. least r d' w) d,
      )
      by b j may' r d w (inr (inr behind)) =
          let low = index_least a choices i l g in
          absurd (none b (get_early choices (index_of b choices) i b (index_get b choices j) (omega (arith, behind, low))) p r (agrees_itself e p) may' d w)

-- ---- one choice

pub atom_back : (q p : Placed) (a : ℕ) (ys : List ℕ) (o : Option ℕ) → q ≡ with_atom p a → MatchOption o ((q.atoms ≡ []) × (ys ≡ [])) (λ last. q.atoms ≡ ys ++ last ∷ []) → record q { atoms = ys } ≡ p
atom_back q p a ys o e m = λ i. record (e i) { atoms = popped o q.atoms ys p.atoms a (ap (λ (z : Placed). z.atoms) e) m i }

pub membrane_back : (q p : Placed) (a : ℕ) (ys : List ℕ) (o : Option ℕ) → q ≡ with_membrane p a → MatchOption o ((q.membranes ≡ []) × (ys ≡ [])) (λ last. q.membranes ≡ ys ++ last ∷ []) → record q { membranes = ys } ≡ p
membrane_back q p a ys o e m = λ i. record (e i) { membranes = popped o q.membranes ys p.membranes a (ap (λ (z : Placed). z.membranes) e) m i }

-- a choice that was made leads to the first, or to nothing
module _ (h : Heap) (head : Head) (guard : List Cond) (xs : List HeadItem) (May : Placed → ℕ → Type 0) (next : Placed → ℕ → Placed) (p : Placed) (a : ℕ) where
  pub with_found : (made q : Placed) (o : Sought) (found : Fulfilled) → made ≡ next p a → May p a → o ≡ Found found → Answers h head guard xs made q o → AnswersWith h head guard xs May next p a q (Found found)
  with_found made q o found e may is w = (may, subst (λ (z : Placed). Answers h head guard xs z q (Found found)) e (subst (Answers h head guard xs made q) is w))

  pub with_failed : (made q back : Placed) (o : Sought) (e : Reasons) → made ≡ next p a → o ≡ Failed e → back ≡ p → Answers h head guard xs made q o → AnswersWith h head guard xs May next p a back (Failed e)
  with_failed made q back o e g is same w = (same, λ z b r agrees may. (subst (Answers h head guard xs made q) is w).1 (next z b) r (subst (λ (y : Placed). Agrees e y (next z b)) (sym g) agrees))

  pub left_so : (made q : Placed) (o : Sought) (e : Reasons) → made ≡ next p a → o ≡ Failed e → Answers h head guard xs made q o → q ≡ next p a
  left_so made q o e g is w = (subst (Answers h head guard xs made q) is w).0 ∙ g

-- an atom that was refused leads to nothing
pub refused_atom : (h : Heap) (head : Head) (guard : List Cond) (xs : List HeadItem) (functor : Functor) (p q : Placed) (a : ℕ) (e : Reasons) (numbers : Numbers) → q ≡ p → e.atoms ≡ numbers
    → RefusesAtom h head guard functor (length p.atoms) (p.atoms ++ a ∷ []) numbers → AnswersWith h head guard xs (λ z. Allowed h head z functor) with_atom p a q (Failed e)
refused_atom h head guard xs functor p q a e numbers same is refuses = (
  same,
  λ z b r agrees may c can. refuses z b r
      (let l = length_push p.atoms a in let m = length_push z.atoms b in let n = agrees.atoms_long in omega (arith, l, m, n))
      (subst (λ d. SameImages d (p.atoms ++ a ∷ []) (z.atoms ++ b ∷ [])) is agrees.atoms)
      may
      (λ k x at u. (keeps_on h head xs (with_atom z b) r c).atoms k x at)
      can,
)

-- ---- where items sit

module _ (h : Heap) (head : Head) (p : Placed) (xs : List HeadItem) where
  pub sits_atom : (functor : Functor) (links : List ℕ) (inside a : ℕ) → Sits h head (Atom functor links inside ∷ xs) p → IsAtom h a → Sits h head xs (with_atom p a)
  sits_atom functor links inside a s there = record {
    placed = record { home = s.placed.home; atoms = λ b i. elim (in_snoc b a p.atoms i) [ inl j ↦ s.placed.atoms b j | inr same ↦ subst (IsAtom h) (sym same) there ]; membranes = s.placed.membranes };
    atoms = (let l = length_push p.atoms a in let m = s.atoms in omega (arith, l, m));
    membranes = s.membranes;
    inside = s.inside.1;
  }

  pub sits_membrane : (inside : ℕ) (has_context has_closed_context has_rule_context : Bool) (m : ℕ) → Sits h head (Membrane inside has_context has_closed_context has_rule_context ∷ xs) p → IsMem h m → Sits h head xs (with_membrane p m)
  sits_membrane inside has_context has_closed_context has_rule_context m s there = record {
    placed = record { home = s.placed.home; atoms = s.placed.atoms; membranes = λ b i. elim (in_snoc b m p.membranes i) [ inl j ↦ s.placed.membranes b j | inr same ↦ subst (IsMem h) (sym same) there ] };
    atoms = s.atoms;
    membranes = (let l = length_push p.membranes m in let k = s.membranes in omega (arith, l, k));
    inside = subst (λ n. EachInside n xs) (sym (length_push p.membranes m)) s.inside.1;
  }

  pub sits_typed : (name : ℕ) (kind : TypeKind) (link inside : ℕ) → Sits h head (Typed name kind link inside ∷ xs) p → Sits h head xs p
  sits_typed name kind link inside s = record { placed = s.placed; atoms = s.atoms; membranes = s.membranes; inside = s.inside.1 }

-- an atom that is placed is an atom, and there is room for it
pub made_there : (h : Heap) (head : Head) (xs : List HeadItem) (p : Placed) (a : ℕ) → Sits h head xs (with_atom p a) → IsAtom h a
made_there h head xs p a s = s.placed.atoms a (last p.atoms)
  where
    last : (ys : List ℕ) → In a (ys ++ a ∷ [])
    last [] = inl refl
    last (y ∷ ys) = inr (last ys)

pub before_there : (h : Heap) (head : Head) (xs : List HeadItem) (p : Placed) (a : ℕ) → Sits h head xs (with_atom p a) → (b : ℕ) → In b p.atoms → IsAtom h b
before_there h head xs p a s b i = s.placed.atoms b (front p.atoms i)
  where
    front : (ys : List ℕ) → In b ys → In b (ys ++ a ∷ [])
    front [] i = absurd i
    front (y ∷ ys) (inl e) = inl e
    front (y ∷ ys) (inr j) = inr (front ys j)

pub room_for : (h : Heap) (head : Head) (xs : List HeadItem) (p : Placed) (a : ℕ) → Sits h head xs (with_atom p a) → length p.atoms < length head.atoms
room_for h head xs p a s = let l = length_push p.atoms a in let m = s.atoms in omega (arith, l, m)

pub membrane_there : (h : Heap) (p : Placed) (k m : ℕ) → ArePlaced h p → k ≤ length p.membranes → m ≡ membrane_at p.home p.membranes k → IsMem h m
membrane_there h p zero m are l e = subst (IsMem h) (sym e) are.home
membrane_there h p (suc k) m are l e = subst (IsMem h) (sym e) (are.membranes (slice_index_or p.membranes k 0) (item_in p.membranes k (omega (arith, l))))

-- none is left
module _ (h : Heap) (head : Head) (items : List HeadItem) (p : Placed) (e : [] ≡ items) (s : Sits h head items p) where
  pub end_atoms : length p.atoms ≡ length head.atoms
  end_atoms = let m : length p.atoms + 0 ≡ length head.atoms = subst (λ ys. length p.atoms + length (atoms_of ys) ≡ length head.atoms) (sym e) s.atoms in omega (arith, m)

  pub end_membranes : length p.membranes ≡ length head.membranes
  end_membranes = let m : length p.membranes + 0 ≡ length head.membranes = subst (λ ys. length p.membranes + length (membranes_of ys) ≡ length head.membranes) (sym e) s.membranes in omega (arith, m)

-- ---- what is answered for the items

module _ (h : Heap) (head : Head) (guard : List Cond) (p q : Placed) where
  pub answers_atom : (functor : Functor) (links : List ℕ) (inside : ℕ) (items xs : List HeadItem) (o : Sought) → items ≡ Atom functor links inside ∷ xs
      → AnswersAmong h head guard xs (λ z. Allowed h head z functor) with_atom (atoms_inside h inside) p q o → Answers h head guard items p q o
  answers_atom functor links inside items xs o e w = subst (λ ys. Answers h head guard ys p q o) (sym e) (by o w)
    where
      by : (o : Sought) → AnswersAmong h head guard xs (λ z. Allowed h head z functor) with_atom (atoms_inside h inside) p q o → Answers h head guard (Atom functor links inside ∷ xs) p q o
      by (Failed d) w = (w.0, λ z r g c. w.1 z c.0 r g c.1 c.2 c.3)
      by (Found found) (a, i, may, c, is, least) = ((a, i, may, c), is, λ r d f. least d.0 d.1 d.2 r d.3 f)

  pub answers_membrane : (inside : ℕ) (has_context has_closed_context has_rule_context : Bool) (items xs : List HeadItem) (o : Sought) → items ≡ Membrane inside has_context has_closed_context has_rule_context ∷ xs
      → AnswersAmong h head guard xs IsNew with_membrane (membranes_inside h inside) p q o → Answers h head guard items p q o
  answers_membrane inside has_context has_closed_context has_rule_context items xs o e w = subst (λ ys. Answers h head guard ys p q o) (sym e) (by o w)
    where
      by : (o : Sought) → AnswersAmong h head guard xs IsNew with_membrane (membranes_inside h inside) p q o → Answers h head guard (Membrane inside has_context has_closed_context has_rule_context ∷ xs) p q o
      by (Failed d) w = (w.0, λ z r g c. w.1 z c.0 r g c.1 c.2 c.3)
      by (Found found) (a, i, may, c, is, least) = ((a, i, may, c), is, λ r d f. least d.0 d.1 d.2 r d.3 f)

  pub answers_typed : (name : ℕ) (kind : TypeKind) (link inside : ℕ) (items xs : List HeadItem) (o : Sought) → items ≡ Typed name kind link inside ∷ xs → Answers h head guard xs p q o → Answers h head guard items p q o
  answers_typed name kind link inside items xs o e w = subst (λ ys. Answers h head guard ys p q o) (sym e) (by o w)
    where
      by : (o : Sought) → Answers h head guard xs p q o → Answers h head guard (Typed name kind link inside ∷ xs) p q o
      by (Failed d) w = w
      by (Found found) w = w

-- no item is left
pub ends_found : (h : Heap) (head : Head) (guard : List Cond) (items : List HeadItem) (p : Placed) (o : Option Fulfilled) (found : Fulfilled) → [] ≡ items → o ≡ Some found
    → IfSome o (λ found. AreTaken h head.atoms p head.typed found.parts (length head.typed) × Meets h head guard p found.parts × Knows h found.known (after_all h (named_meaning head.typed found.parts) guard))
    → Answers h head guard items p p (Found found)
ends_found h head guard items p o found e is some =
    subst (λ ys. Answers h head guard ys p p (Found found)) e
    (refl, subst (λ o. IfSome o (λ found. AreTaken h head.atoms p head.typed found.parts (length head.typed) × Meets h head guard p found.parts × Knows h found.known (after_all h (named_meaning head.typed found.parts) guard))) is some, λ r d w. tt)

pub ends_failed : (h : Heap) (head : Head) (guard : List Cond) (items : List HeadItem) (p : Placed) (reasons : Reasons) → [] ≡ items → reasons ≡ record { atoms = All; membranes = All }
    → ((parts : List Part) → AreTaken h head.atoms p head.typed parts (length head.typed) → Meets h head guard p parts → ⊥) → Answers h head guard items p p (Failed reasons)
ends_failed h head guard items p reasons e is none =
    subst (λ ys. Answers h head guard ys p p (Failed reasons)) e
    (refl, λ q r g c can. (let can' : CanBe h head guard p = subst (CanBe h head guard) (c ∙ agrees_all reasons p q is g) can in none can'.0 can'.1 can'.2))

-- one item fewer is left
pub rest_long : (xs : List HeadItem) → 1 ≤ length xs → length (take (length xs - 1) (drop 1 xs)) + 1 ≡ length xs
rest_long [] l = absurd (omega (arith, l))
rest_long (y ∷ ys) low =
    let l : suc (length ys) - 1 ≡ length ys = omega arith in
    let e : length (take (suc (length ys) - 1) ys) ≡ length ys = ap (λ k. length (take k ys)) l ∙ ap length (take_whole ys) in
    omega (arith, e)

-- one attempt of a loop, where the placement is as before
module _ (h : Heap) (head : Head) (guard : List Cond) (xs : List HeadItem) (May : Placed → ℕ → Type 0) (next : Placed → ℕ → Placed) (listed : Placed → List ℕ) (choices : List ℕ) (p l q : Placed) (same : l ≡ p) (i : ℕ) (o : Sought)
    (w : AnswersWith h head guard xs May next l (slice_index_or choices i 0) q o) where
  here : AnswersWith h head guard xs May next p (slice_index_or choices i 0) q o
  here = subst (λ (z : Placed). AnswersWith h head guard xs May next z (slice_index_or choices i 0) q o) same w

  failed : (e : Reasons) → o ≡ Failed e → (q ≡ p) × Fails h head guard xs May next e p (slice_index_or choices i 0)
  failed e is = subst (AnswersWith h head guard xs May next p (slice_index_or choices i 0) q) is here

  pub one_found : (e : Reasons) (found : Fulfilled) → i < length choices → choices ≡ listed p → NoneOf h head guard xs May next listed choices p e i → o ≡ Found found → AnswersAmong h head guard xs May next listed p q (Found found)
  one_found e found low is none g =
      let t = subst (AnswersWith h head guard xs May next p (slice_index_or choices i 0) q) g here in
      found_here h head guard xs May next listed choices p e i (slice_index_or choices i 0) q found low refl is none t.0 t.1

  -- where the failure doesn't rest on what was chosen, there is nothing
  pub one_past : (e : Reasons) → o ≡ Failed e → ((z : Placed) (b : ℕ) → Agrees e p z → Agrees e (next p (slice_index_or choices i 0)) (next z b)) → AnswersAmong h head guard xs May next listed p q (Failed e)
  one_past e is past = let t = failed e is in (t.0, λ z b r g k. t.1 z b r (past z b g))

  -- else the next choice is tried
  pub one_failed : (d e f : Reasons) → i < length choices → o ≡ Failed e → RestsOnLess d f → RestsOnLess e f → ((z : Placed) → Agrees f p z → Agrees f (next p (slice_index_or choices i 0)) (next z (slice_index_or choices i 0)))
      → NoneOf h head guard xs May next listed choices p d i → (q ≡ p) × NoneOf h head guard xs May next listed choices p f (i + 1)
  one_failed d e f low is these those on none =
      let t = failed e is in
      (t.0, none_more h head guard xs May next listed choices p d f i low these (λ z r g. t.1 z (slice_index_or choices i 0) r (agrees_fewer e f (next p (slice_index_or choices i 0)) (next z (slice_index_or choices i 0)) those (on z g))) none)
