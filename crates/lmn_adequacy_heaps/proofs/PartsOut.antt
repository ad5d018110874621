-- The parts of the typed contexts of a level, taken out of a list of atoms by their numbers.
use Rattle.std.proofs.Common.{ℕ, ◌≡◌, ◌≢◌, ◌+◌, ◌⊎◌, List, [], ◌∷◌, ◌++◌, map, refl, sym, ap, subst, ◌∙◌, inl, inr, arith}
use Rattle.std.proofs.lemmas.List.{append_assoc}
use Rattle.lmn_store_heap.specs.Lists.{Distinct}
use Rattle.lmn_store_heap.proofs.ListLemmas.{each_in, each_of, in_left, in_right}
use Rattle.lmn_congruence.specs.Links.{places}
use Rattle.lmn_congruence.specs.Regions.{SolidAtom}
use Rattle.lmn_congruence.specs.Rules.{Label, Leaf, Name, atom_leaf, typed_leaf}
use Rattle.lmn_reduction.specs.Assignments.{Assignment}
use Rattle.lmn_reduction.specs.Parts.{IsGround, Rooted}
use Rattle.lmn_adequacy.specs.Embedding.{TypedParts, no_part, no_part_of_atom, part_and, IsPart, Merged, merged_none, from_first, from_second}
use Rattle.lmn_base.proofs.Lists.{weigh, weigh_append}
use Rattle.lmn_congruence.proofs.TranslatedLinks.{places_append as places_both}
use Rattle.lmn_base.specs.Lists.{In}

-- each typed context of the leaves has its part, one list each
pub data PartsOut (g : ℕ → SolidAtom) (link_of : ℕ → ℕ) (typed_of : Name → Rooted) : List Leaf → List (List ℕ) → List ℕ → List ℕ → Type 0 where
  parts_none : {xs : List ℕ} → PartsOut g link_of typed_of [] [] xs xs
  parts_atom : {a : Label} {ys : List ℕ} {ls : List Leaf} {parts : List (List ℕ)} {xs rest : List ℕ} → PartsOut g link_of typed_of ls parts xs rest → PartsOut g link_of typed_of (atom_leaf a ys ∷ ls) parts xs rest
  parts_typed : {p : Name} {x : ℕ} {ls : List Leaf} {parts : List (List ℕ)} {part xs xs' rest : List ℕ} →
      IsGround (typed_of p) → IsPart (typed_of p) (link_of x) (map g part) → Merged part xs' xs → PartsOut g link_of typed_of ls parts xs' rest →
      PartsOut g link_of typed_of (typed_leaf p x ∷ ls) (part ∷ parts) xs rest

-- the atoms of all parts
abbrev pub flattened : List (List ℕ) → List ℕ
flattened [] = []
flattened (part ∷ parts) = part ++ flattened parts

-- ---- as parts of the calculus

-- the images of two merged lists merge
pub merged_map : {A B : Type 0} (g : A → B) {xs ys zs : List A} → Merged xs ys zs → Merged (map g xs) (map g ys) (map g zs)
merged_map g merged_none = merged_none
merged_map g (from_first m) = from_first (merged_map g m)
merged_map g (from_second m) = from_second (merged_map g m)

-- parts by their numbers are parts of the calculus
pub parts_of_leaves : (g : ℕ → SolidAtom) (t : Assignment) {ls : List Leaf} {parts : List (List ℕ)} {xs rest : List ℕ} → PartsOut g t.link_of t.typed_of ls parts xs rest → TypedParts t ls (map g xs) (map g rest)
parts_of_leaves g t parts_none = no_part
parts_of_leaves g t (parts_atom p) = no_part_of_atom (parts_of_leaves g t p)
parts_of_leaves g t (parts_typed ground is m p) = part_and ground is (merged_map g m) (parts_of_leaves g t p)

-- ---- and from them

record Unmerged (g : ℕ → SolidAtom) (xs : List ℕ) (part rest : List SolidAtom) : Type 0 where
  first : List ℕ
  second : List ℕ
  merged : Merged first second xs
  is_first : part ≡ map g first
  is_second : rest ≡ map g second

unmerge : (g : ℕ → SolidAtom) (xs : List ℕ) {part rest zs : List SolidAtom} → Merged part rest zs → zs ≡ map g xs → Unmerged g xs part rest
unmerge g [] merged_none e = record { first = []; second = []; merged = merged_none; is_first = refl; is_second = refl }
unmerge g [] (from_first m) e = absurd (cc)
unmerge g [] (from_second m) e = absurd (cc)
unmerge g (x ∷ xs) merged_none e = absurd (cc)
unmerge g (x ∷ xs) (from_first {x = y} {xs = zs} m) e =
    let p : y ≡ g x = cc in
    let q : zs ≡ map g xs = cc in
    let u = unmerge g xs m q in
    record { first = x ∷ u.first; second = u.second; merged = from_first u.merged; is_first = λ j. p j ∷ u.is_first j; is_second = u.is_second }
unmerge g (x ∷ xs) (from_second {x = y} {xs = zs} m) e =
    let p : y ≡ g x = cc in
    let q : zs ≡ map g xs = cc in
    let u = unmerge g xs m q in
    record { first = u.first; second = x ∷ u.second; merged = from_second u.merged; is_first = u.is_first; is_second = λ j. p j ∷ u.is_second j }

-- parts of the calculus, by their numbers
pub record FoundParts (g : ℕ → SolidAtom) (t : Assignment) (ls : List Leaf) (xs : List ℕ) (rest : List SolidAtom) : Type 0 where
  pub parts : List (List ℕ)
  pub left_over : List ℕ
  pub out : PartsOut g t.link_of t.typed_of ls parts xs left_over
  pub is : rest ≡ map g left_over

-- parts of the calculus have numbers
pub find_parts : (g : ℕ → SolidAtom) (t : Assignment) (xs : List ℕ) {ls : List Leaf} {zs rest : List SolidAtom} → TypedParts t ls zs rest → zs ≡ map g xs → FoundParts g t ls xs rest
find_parts g t xs no_part e = record { parts = []; left_over = xs; out = parts_none; is = e }
find_parts g t xs (no_part_of_atom p) e = let w = find_parts g t xs p e in record { parts = w.parts; left_over = w.left_over; out = parts_atom w.out; is = w.is }
find_parts g t xs (part_and {p = p} {x = x} ground is m k) e =
    let u = unmerge g xs m e in
    let w = find_parts g t u.second k u.is_second in
    record { parts = u.first ∷ w.parts; left_over = w.left_over; out = parts_typed ground (subst (IsPart (t.typed_of p) (t.link_of x)) u.is_first is) u.merged w.out; is = w.is }

-- ---- weights

-- two lists weigh what they make together
pub weigh_merged : (w : ℕ → ℕ) {xs ys zs : List ℕ} → Merged xs ys zs → weigh w xs + weigh w ys ≡ weigh w zs
weigh_merged w merged_none = omega arith
weigh_merged w (from_first m) = omega (arith, weigh_merged w m)
weigh_merged w (from_second m) = omega (arith, weigh_merged w m)

-- parts and what is left weigh what there was
pub parts_weigh : (w : ℕ → ℕ) {g : ℕ → SolidAtom} {link_of : ℕ → ℕ} {typed_of : Name → Rooted} {ls : List Leaf} {parts : List (List ℕ)} {xs rest : List ℕ} → PartsOut g link_of typed_of ls parts xs rest →
    weigh w (flattened parts) + weigh w rest ≡ weigh w xs
parts_weigh w parts_none = omega arith
parts_weigh w (parts_atom p) = parts_weigh w p
parts_weigh w (parts_typed {parts = parts} {part = part} ground is m p) = omega (arith, parts_weigh w p, weigh_merged w m, weigh_append w part (flattened parts))

-- ---- what is merged

-- what is in a merged list is in one of the two
pub merged_either : {xs ys zs : List ℕ} → Merged xs ys zs → (a : ℕ) → In a zs → In a xs ⊎ In a ys
merged_either merged_none a k = absurd k
merged_either (from_first m) a (inl e) = inl (inl e)
merged_either (from_first m) a (inr k) = elim (merged_either m a k) [ inl i ↦ inl (inr i) | inr i ↦ inr i ]
merged_either (from_second m) a (inl e) = inr (inl e)
merged_either (from_second m) a (inr k) = elim (merged_either m a k) [ inl i ↦ inl i | inr i ↦ inr (inr i) ]

-- what is left was there
pub merged_second : {xs ys zs : List ℕ} → Merged xs ys zs → (a : ℕ) → In a ys → In a zs
merged_second merged_none a k = k
merged_second (from_first m) a k = inr (merged_second m a k)
merged_second (from_second m) a (inl e) = inl e
merged_second (from_second m) a (inr k) = inr (merged_second m a k)

-- what is left has no repetition
pub merged_once : {xs ys zs : List ℕ} → Merged xs ys zs → Distinct zs → Distinct ys
merged_once merged_none d = tt
merged_once (from_first m) d = merged_once m d.1
merged_once (from_second {x = x} {zs = ys} {xs = zs} m) d = (each_of (λ y. x ≢ y) ys (λ a k. each_in (λ y. x ≢ y) zs a d.0 (merged_second m a k)), merged_once m d.1)

-- what is taken was there
pub merged_first : {xs ys zs : List ℕ} → Merged xs ys zs → (a : ℕ) → In a xs → In a zs
merged_first merged_none a k = k
merged_first (from_first m) a (inl e) = inl e
merged_first (from_first m) a (inr k) = inr (merged_first m a k)
merged_first (from_second m) a k = inr (merged_first m a k)

-- ---- two lists of parts

-- the atoms of two lists of parts in a row
pub flattened_both : (ps qs : List (List ℕ)) → flattened (ps ++ qs) ≡ flattened ps ++ flattened qs
flattened_both [] qs = refl
flattened_both (p ∷ ps) qs = ap (λ z. p ++ z) (flattened_both ps qs) ∙ sym (append_assoc p (flattened ps) (flattened qs))

-- an atom of the first parts is one of all
pub flattened_left : (b : ℕ) (ps qs : List (List ℕ)) → In b (flattened ps) → In b (flattened (ps ++ qs))
flattened_left b ps qs k = subst (In b) (sym (flattened_both ps qs)) (in_left b (flattened ps) (flattened qs) k)

-- an atom of the later parts is one of all
pub flattened_right : (b : ℕ) (ps qs : List (List ℕ)) → In b (flattened qs) → In b (flattened (ps ++ qs))
flattened_right b ps qs k = subst (In b) (sym (flattened_both ps qs)) (in_right b (flattened ps) (flattened qs) k)

-- the weight of two lists of parts in a row
pub parts_both : (w : ℕ → ℕ) (ps qs : List (List ℕ)) → weigh w (flattened (ps ++ qs)) ≡ weigh w (flattened ps) + weigh w (flattened qs)
parts_both w ps qs = ap (weigh w) (flattened_both ps qs) ∙ weigh_append w (flattened ps) (flattened qs)

-- places in two lists of parts in a row
pub places_parts : (b : ℕ) (ps qs : List (List ℕ)) → places b (flattened (ps ++ qs)) ≡ places b (flattened ps) + places b (flattened qs)
places_parts b ps qs = ap (places b) (flattened_both ps qs) ∙ places_both b (flattened ps) (flattened qs)

-- an atom takes no part out
pub out_rest : {g : ℕ → SolidAtom} {link_of : ℕ → ℕ} {typed_of : Name → Rooted} {a : Label} {ys : List ℕ} {ls : List Leaf} {parts : List (List ℕ)} {xs rest : List ℕ} →
    PartsOut g link_of typed_of (atom_leaf a ys ∷ ls) parts xs rest → PartsOut g link_of typed_of ls parts xs rest
out_rest (parts_atom p) = p
