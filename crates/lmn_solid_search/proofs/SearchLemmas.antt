-- A search goes on by one image.
use Rattle.std.proofs.Common.{◌≡◌, ◌∙◌, ℕ, ◌+◌, ◌<◌, ◌≤◌, IfSome, List, [], ◌∷◌, ◌++◌, length, slice_get, slice_index_or, Option, Some, None, MatchOption, sym, ap, subst, inl, inr, arith}
use Rattle.std.proofs.lemmas.List.{length_push}
use Rattle.std.proofs.lemmas.Option.{same_Some}
use Rattle.lmn_base.specs.declared.functor.Functor.{Functor}
use Rattle.lmn_base.specs.Lists.{In}
use Rattle.lmn_base.specs.declared.guard.Cond.{Cond}
use Rattle.lmn_base.proofs.Lists.{in_snoc, ends_in_one_way, get_below, get_either, get_front, get_index, get_last, get_there, never_nil, read_or, weaker}
use Rattle.lmn_store_heap.specs.Heap.{Heap, IsAtom, functor_of, link_of}
use Rattle.lmn_solid_search.specs.Taking.{LinksFit, LinksFitTo}
use Rattle.lmn_solid_search.specs.Choosing.{Allowed, Refuses, RefusesAtom}
use Rattle.lmn_solid_search.specs.Reasoning.{IsAmong}
use Rattle.lmn_solid_search.specs.declared.head.Head.{Head}
use Rattle.lmn_solid_search.specs.declared.numbers.Numbers.{Numbers}
use Rattle.lmn_solid_search.specs.declared.placed.Placed.{Placed}
use Rattle.lmn_solid_search.proofs.ReasoningLemmas.{last_same, same_on}
use Rattle.lmn_adequacy_heaps.proofs.OutOf.{index_in as item_in}

pub atoms_more : (h : Heap) (xs ys zs : List ℕ) (a : ℕ) → zs ≡ ys → ys ≡ xs ++ a ∷ [] → ((b : ℕ) → In b xs → IsAtom h b) → IsAtom h a → (b : ℕ) → In b zs → IsAtom h b
atoms_more h xs ys zs a e g all there b i = elim (in_snoc b a xs (subst (In b) (e ∙ g) i)) [ inl j ↦ all b j | inr same ↦ subst (IsAtom h) (sym same) there ]

-- an atom with another functor is refused
pub other_functor : (h : Heap) (head : Head) (guard : List Cond) (functor f : Functor) (p : Placed) (a n : ℕ) (e : Numbers) → functor_of h a ≡ Some f → (f ≡ functor → ⊥) → n ≡ length p.atoms → IsAmong n e
    → RefusesAtom h head guard functor (length p.atoms) (p.atoms ++ a ∷ []) e
other_functor h head guard functor f p a n e is apart last among q b r long same may keeps can =
    let equal = last_same e p.atoms q.atoms a b long (subst (λ n. IsAmong n e) last among) same in
    apart (same_Some _ _ (sym is ∙ subst (λ z. functor_of h z ≡ Some functor) equal may.0))

module _ (h : Heap) (head : Head) (guard : List Cond) (n : ℕ) (images : List ℕ) (e : Numbers) where
  -- so is one for which the conditions don't hold,
  pub by_conditions : Refuses h head guard images e → (functor : Functor) → RefusesAtom h head guard functor n images e
  by_conditions refuses functor q b r long same may keeps can = refuses r (same_on e images (q.atoms ++ b ∷ []) r.atoms same keeps) can

  module _ (whole : length images ≡ n + 1) (last : IsAmong n e) (m : ℕ) (among : IsAmong m e) where
    -- one that is an image before,
    pub placed_before : m < n → slice_get images m ≡ slice_get images n → (functor : Functor) → RefusesAtom h head guard functor n images e
    placed_before low equal functor q b r long same may keeps can =
        let last_image = get_there images n (omega (arith, whole)) in
        let end : slice_get (q.atoms ++ b ∷ []) n ≡ Some last_image.0 = same n last_image.0 last_image.1 last in
        let is : b ≡ last_image.0 = same_Some _ _ (sym (get_last q.atoms b) ∙ subst (λ k. slice_get (q.atoms ++ b ∷ []) k ≡ Some last_image.0) (sym long) end) in
        let there : slice_get (q.atoms ++ b ∷ []) m ≡ Some last_image.0 = same m last_image.0 (equal ∙ last_image.1) among in
        may.1 (subst (λ z. In z q.atoms) (sym is) (elim (get_either q.atoms b m last_image.0 there) [
          | inl here ↦ subst (λ z. In z q.atoms) (read_or q.atoms m last_image.0 here) (item_in q.atoms m (get_below q.atoms m last_image.0 here))
          | inr past ↦ absurd (let k = past.0 in omega (arith, k, long, low))
        ]))

    -- and one whose links lead elsewhere
    pub leads_elsewhere : m < length images → (LinksFitTo h head.atoms images n m → ⊥) → (functor : Functor) → RefusesAtom h head guard functor n images e
    leads_elsewhere low misfit functor q b r long same may keeps can = misfit (λ i x at j other apart.
        let fits : LinksFit h head.atoms (q.atoms ++ b ∷ []) n = subst (LinksFit h head.atoms (q.atoms ++ b ∷ [])) long may.2 in
        let below : m < length (q.atoms ++ b ∷ []) = (let l = length_push q.atoms b in omega (arith, l, long, low, whole)) in
        let image : (k : ℕ) → k < length images → IsAmong k e → slice_index_or (q.atoms ++ b ∷ []) k 0 ≡ slice_index_or images k 0 =
        λ k l rests. read_or (q.atoms ++ b ∷ []) k (slice_index_or images k 0) (same k (slice_index_or images k 0) (get_index images k l) rests) in
        subst (λ z. link_of h z i ≡ Some (slice_index_or images m 0, j)) (image n (omega (arith, whole)) last)
        (subst (λ z. link_of h (slice_index_or (q.atoms ++ b ∷ []) n 0) i ≡ Some (z, j)) (image m low among) (fits i x at (m, j) below other apart)))

-- an atom that wasn't refused is allowed
pub allowed_by : (h : Heap) (head : Head) (p : Placed) (functor f : Functor) (a n : ℕ) (images : List ℕ) → functor_of h a ≡ Some f → f ≡ functor → (In a p.atoms → ⊥) → images ≡ p.atoms ++ a ∷ [] → n ≡ length p.atoms
    → LinksFit h head.atoms images n → Allowed h head p functor a
allowed_by h head p functor f a n images e g apart is long fits =
    (e ∙ ap Some g, apart, subst (LinksFit h head.atoms (p.atoms ++ a ∷ [])) long (subst (λ (xs : List ℕ). LinksFit h head.atoms xs n) is fits))

-- what was pushed is popped
pub popped : (o : Option ℕ) (old new xs : List ℕ) (a : ℕ) → old ≡ xs ++ a ∷ [] → MatchOption o ((old ≡ []) × (new ≡ [])) (λ last. old ≡ new ++ last ∷ []) → new ≡ xs
popped None old new xs a e m = absurd (never_nil xs a (sym m.0 ∙ e))
popped (Some last) old new xs a e m = (ends_in_one_way new xs last a (sym m ∙ e)).0

pub apart_in : (a : ℕ) (xs ys : List ℕ) → ys ≡ xs → (In a ys → ⊥) → In a xs → ⊥
apart_in a xs ys e d i = d (subst (In a) (sym e) i)

-- ---- the image that was pushed

pub long_enough : (xs images : List ℕ) (a n : ℕ) → images ≡ xs ++ a ∷ [] → length xs < n → length images ≤ n
long_enough xs images a n is low = let l : length images ≡ length (xs ++ a ∷ []) = ap length is in let m = length_push xs a in omega (arith, l, m, low)

pub longer_by : (xs images : List ℕ) (a n : ℕ) → images ≡ xs ++ a ∷ [] → n ≡ length xs → length images ≡ n + 1
longer_by xs images a n is long = let l : length images ≡ length (xs ++ a ∷ []) = ap length is in let m = length_push xs a in omega (arith, l, m, long)

-- where it stood before
pub before_last : (xs ys images : List ℕ) (a n : ℕ) (o : Option ℕ) → ys ≡ xs → images ≡ xs ++ a ∷ [] → n ≡ length xs → IfSome o (λ k. slice_get ys k ≡ Some a) → IfSome o (λ k. (k < n) × (slice_get images k ≡ slice_get images n))
before_last xs ys images a n o same is long = weaker o (λ k. slice_get ys k ≡ Some a) (λ k. (k < n) × (slice_get images k ≡ slice_get images n)) (λ k at.
    let here : slice_get xs k ≡ Some a = subst (λ zs. slice_get zs k ≡ Some a) same at in
    let low = get_below xs k a here in
    (omega (arith, low, long), (ap (λ zs. slice_get zs k) is ∙ get_front xs (a ∷ []) k a here) ∙ sym (ap (λ zs. slice_get zs n) is ∙ ap (slice_get (xs ++ a ∷ [])) long ∙ get_last xs a)))

-- its refusal is one behind the placement
pub refused_as : (h : Heap) (head : Head) (guard : List Cond) (functor : Functor) (p : Placed) (a n : ℕ) (images : List ℕ) (e : Numbers) → n ≡ length p.atoms → images ≡ p.atoms ++ a ∷ []
    → RefusesAtom h head guard functor n images e → RefusesAtom h head guard functor (length p.atoms) (p.atoms ++ a ∷ []) e
refused_as h head guard functor p a n images e long is refused = subst (λ k. RefusesAtom h head guard functor k (p.atoms ++ a ∷ []) e) long (subst (λ xs. RefusesAtom h head guard functor n xs e) is refused)
