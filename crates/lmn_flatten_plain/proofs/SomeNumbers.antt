-- Links can be numbered by first occurrence.
use Rattle.std.proofs.Common.{◌≡◌, ℕ, zero, suc, ◌<◌, ◌⊎◌, inl, inr, Bool, true, false, if◌then◌else◌, List, [], ◌∷◌, ◌++◌, map, length, slice_index_or, refl, sym, ap, ◌∙◌, subst, arith, Decides}
use Rattle.std.specs.Prelude.{bytes_eq}
use Rattle.std.proofs.lemmas.List.{append_assoc, append-nil, length-append}
use Rattle.std.proofs.lemmas.Slice.Eq.{bytes_eq-Decides}
use Rattle.lmn_base.specs.Links.{Numbers, NumbersLinks, no_more, known, new}
use Rattle.lmn_flatten_plain.specs.Links.{Link, written, made, fresh, same_link}
use Rattle.lmn_flatten_plain.specs.Keys.{IsLinkIn, link_index}
use Rattle.lmn_flatten_plain.specs.Plains.{OneToOne}

not_false : (t : Bool) → false ≡ t → t ≡ true → ⊥
not_false t h e = cc

-- links that pass the test are the same
pub link_same : (a b : Link) → same_link a b ≡ true → a ≡ b
link_same (written m) (written n) h = ap written (by (bytes_eq m n) (bytes_eq-Decides m n) h)
  where
    by : (t : Bool) → Decides t (m ≡ n) → t ≡ true → m ≡ n
    by true d e = d.0 refl
    by false d e = absurd (cc)
link_same (made m) (made n) h = ap made (by (bytes_eq m n) (bytes_eq-Decides m n) h)
  where
    by : (t : Bool) → Decides t (m ≡ n) → t ≡ true → m ≡ n
    by true d e = d.0 refl
    by false d e = absurd (cc)
link_same (fresh a) (fresh b) h = ap fresh (link_same a b h)
link_same (written m) (made n) h = absurd (cc)
link_same (written m) (fresh n) h = absurd (cc)
link_same (made m) (written n) h = absurd (cc)
link_same (made m) (fresh n) h = absurd (cc)
link_same (fresh m) (written n) h = absurd (cc)
link_same (fresh m) (made n) h = absurd (cc)

-- a link passes the test against itself
pub link_itself : (a : Link) → same_link a a ≡ true
link_itself (written m) = (bytes_eq-Decides m m).1 refl
link_itself (made m) = (bytes_eq-Decides m m).1 refl
link_itself (fresh a) = link_itself a

-- what is read below the length stands in the list
pub contains_in : (xs : List Link) (a : Link) (k : ℕ) → k < length xs → slice_index_or xs k a ≡ a → IsLinkIn a xs
contains_in [] a k l e = absurd (omega (arith, l))
contains_in (x ∷ xs) a zero l e = inl (sym e)
contains_in (x ∷ xs) a (suc k) l e = inr (contains_in xs a k (omega (arith, l)) e)

index_here : (a b : Link) (bs : List Link) → a ≡ b → link_index a (b ∷ bs) ≡ 0
index_here a b bs e = ap (λ c. link_index a (c ∷ bs)) (sym e) ∙ ap (λ t. if t then 0 else suc (link_index a bs)) (link_itself a)

index_later : (a b : Link) (bs : List Link) → same_link a b ≡ false → link_index a (b ∷ bs) ≡ suc (link_index a bs)
index_later a b bs e = ap (λ t. if t then 0 else suc (link_index a bs)) e

-- the number of a link that stands in a list is below the length
pub index_below : (a : Link) (xs : List Link) → IsLinkIn a xs → link_index a xs < length xs
index_below a [] h = absurd h
index_below a (b ∷ bs) h = go (same_link a b) refl h (index_below a bs)
  where
    go : (t : Bool) → same_link a b ≡ t → (a ≡ b) ⊎ IsLinkIn a bs → (IsLinkIn a bs → link_index a bs < length bs) → link_index a (b ∷ bs) < length (b ∷ bs)
    go t e (inl i) more = let k = index_here a b bs i in omega (arith, k)
    go true e (inr i) more = let k = index_here a b bs (link_same a b e) in omega (arith, k)
    go false e (inr i) more = let k = index_later a b bs e in let l = more i in omega (arith, k, l)

-- and stays the same in a longer list
pub index_front : (a : Link) (xs ys : List Link) → IsLinkIn a xs → link_index a (xs ++ ys) ≡ link_index a xs
index_front a [] ys h = absurd h
index_front a (b ∷ bs) ys h = go (same_link a b) refl h (index_front a bs ys)
  where
    go : (t : Bool) → same_link a b ≡ t → (a ≡ b) ⊎ IsLinkIn a bs → (IsLinkIn a bs → link_index a (bs ++ ys) ≡ link_index a bs) → link_index a (b ∷ (bs ++ ys)) ≡ link_index a (b ∷ bs)
    go t e (inl i) more = index_here a b (bs ++ ys) i ∙ sym (index_here a b bs i)
    go true e (inr i) more = index_here a b (bs ++ ys) (link_same a b e) ∙ sym (index_here a b bs (link_same a b e))
    go false e (inr i) more = index_later a b (bs ++ ys) e ∙ ap suc (more i) ∙ sym (index_later a b bs e)

-- that of a link added behind is the old length
pub index_last : (a : Link) (xs ys : List Link) → (IsLinkIn a xs → ⊥) → link_index a (xs ++ a ∷ ys) ≡ length xs
index_last a [] ys h = index_here a a ys refl
index_last a (b ∷ bs) ys h = go (same_link a b) refl (index_last a bs ys (λ i. h (inr i)))
  where
    go : (t : Bool) → same_link a b ≡ t → link_index a (bs ++ a ∷ ys) ≡ length bs → link_index a (b ∷ (bs ++ a ∷ ys)) ≡ length (b ∷ bs)
    go true e more = absurd (h (inl (link_same a b e)))
    go false e more = let k = index_later a b (bs ++ a ∷ ys) e in omega (arith, k, more)

-- links with one number are one
pub index_one : (a b : Link) (xs : List Link) → IsLinkIn a xs → IsLinkIn b xs → link_index a xs ≡ link_index b xs → a ≡ b
index_one a b [] h g e = absurd h
index_one a b (c ∷ cs) h g e = go (same_link a c) (same_link b c) refl refl h g (λ i j f. index_one a b cs i j f)
  where
    go : (t u : Bool) → same_link a c ≡ t → same_link b c ≡ u → IsLinkIn a (c ∷ cs) → IsLinkIn b (c ∷ cs) → (IsLinkIn a cs → IsLinkIn b cs → link_index a cs ≡ link_index b cs → a ≡ b) → a ≡ b
    go true true p q h g more = link_same a c p ∙ sym (link_same b c q)
    go true false p q h g more = let k = index_here a c cs (link_same a c p) in let l = index_later b c cs q in absurd (omega (arith, k, l, e))
    go false true p q h g more = let k = index_later a c cs p in let l = index_here b c cs (link_same b c q) in absurd (omega (arith, k, l, e))
    go false false p q (inl i) g more = absurd (not_false _ (sym p) (ap (λ x. same_link a x) (sym i) ∙ link_itself a))
    go false false p q (inr i) (inl j) more = absurd (not_false _ (sym q) (ap (λ x. same_link b x) (sym j) ∙ link_itself b))
    go false false p q (inr i) (inr j) more =
        let k = index_later a c cs p in let l = index_later b c cs q in more i j (omega (arith, k, l, e))

-- a test whether a link stands in a list
abbrev pub is_in : Link → List Link → Bool
is_in a [] = false
is_in a (b ∷ bs) = if same_link a b then true else is_in a bs

-- a link that passes it does
pub in_yes : (a : Link) (xs : List Link) → is_in a xs ≡ true → IsLinkIn a xs
in_yes a [] h = absurd (cc)
in_yes a (b ∷ bs) h = go (same_link a b) refl h (in_yes a bs)
  where
    go : (t : Bool) → same_link a b ≡ t → (if t then true else is_in a bs) ≡ true → (is_in a bs ≡ true → IsLinkIn a bs) → IsLinkIn a (b ∷ bs)
    go true e h more = inl (link_same a b e)
    go false e h more = inr (more h)

-- and one that doesn't doesn't
pub in_no : (a : Link) (xs : List Link) → is_in a xs ≡ false → IsLinkIn a xs → ⊥
in_no a [] h i = i
in_no a (b ∷ bs) h i = go (same_link a b) refl h i (in_no a bs)
  where
    go : (t : Bool) → same_link a b ≡ t → (if t then true else is_in a bs) ≡ false → IsLinkIn a (b ∷ bs) → (is_in a bs ≡ false → IsLinkIn a bs → ⊥) → ⊥
    go true e h i more = not_false true (sym h) refl
    go false e h (inl i) more = not_false _ (sym e) (ap (λ x. same_link a x) (sym i) ∙ link_itself a)
    go false e h (inr i) more = more h i

-- a link of a list is one of a longer list
pub in_front : (a : Link) (xs ys : List Link) → IsLinkIn a xs → IsLinkIn a (xs ++ ys)
in_front a [] ys h = absurd h
in_front a (b ∷ bs) ys (inl e) = inl e
in_front a (b ∷ bs) ys (inr i) = inr (in_front a bs ys i)

-- a link that is added behind stands in the list
pub in_last : (a : Link) (xs ys : List Link) → IsLinkIn a (xs ++ a ∷ ys)
in_last a [] ys = inl refl
in_last a (b ∷ bs) ys = inr (in_last a bs ys)

in_cases : (x : Link) (xs ys : List Link) (a : Link) → (a ≡ x) ⊎ IsLinkIn a xs → IsLinkIn x ys → ((a : Link) → IsLinkIn a xs → IsLinkIn a ys) → IsLinkIn a ys
in_cases x xs ys a (inl f) i all = let P : Link → Type 0 = λ b. IsLinkIn b ys in subst P (sym f) i
in_cases x xs ys a (inr h) i all = all a h

-- Links of a list behind those that are seen: all of these, each once.
record FirstOnes (seen xs : List Link) : Type 0 where
  more : List Link
  all : (a : Link) → IsLinkIn a xs → IsLinkIn a (seen ++ more)
  numbers : Numbers (length seen) (map (λ a. link_index a (seen ++ more)) xs) (length (seen ++ more))

first_ones : (xs seen : List Link) → FirstOnes seen xs
first_ones [] seen =
    let P : List Link → Type 0 = λ ys. Numbers (length seen) [] (length ys) in
    record { more = []; all = λ a h. absurd h; numbers = subst P (sym (append-nil seen)) no_more }
first_ones (x ∷ xs) seen = go (is_in x seen) refl (λ s. first_ones xs s)
  where
    go : (t : Bool) → is_in x seen ≡ t → ((s : List Link) → FirstOnes s xs) → FirstOnes seen (x ∷ xs)
    go true e rest =
        let r = rest seen in
        let i = in_yes x seen e in
        record {
          more = r.more;
          all = λ a h. in_cases x xs (seen ++ r.more) a h (in_front x seen r.more i) r.all;
          numbers = known (let k = index_front x seen r.more i in let l = index_below x seen i in omega (arith, k, l)) r.numbers;
        }
    go false e rest =
        let r = rest (seen ++ x ∷ []) in
        let same : (seen ++ x ∷ []) ++ r.more ≡ seen ++ x ∷ r.more = append_assoc seen (x ∷ []) r.more in
        let size = length-append seen (x ∷ []) in
        let one : length (seen ++ x ∷ []) ≡ suc (length seen) = omega (arith, size) in
        let P : List Link → Type 0 = λ ys. Numbers (length (seen ++ x ∷ [])) (map (λ a. link_index a ys) xs) (length ys) in
        let D = seen ++ x ∷ r.more in
        let Q : ℕ → Type 0 = λ n. Numbers n (map (λ a. link_index a D) xs) (length D) in
        let R : ℕ → Type 0 = λ n. Numbers (length seen) (n ∷ map (λ a. link_index a D) xs) (length D) in
        let S : List Link → Type 0 = λ ys. (a : Link) → IsLinkIn a xs → IsLinkIn a ys in
        let behind = subst Q one (subst P same r.numbers) in
        record {
          more = x ∷ r.more;
          all = λ a h. in_cases x xs (seen ++ x ∷ r.more) a h (in_last x seen r.more) (subst S same r.all);
          numbers = subst R (sym (index_last x seen r.more (in_no x seen e))) (new behind);
        }

-- a list of links is numbered one to one by first occurrence
pub some_numbers : (xs : List Link) → (number : Link → ℕ) × (n : ℕ) × OneToOne number xs × NumbersLinks (map number xs) n
some_numbers xs =
    let f = first_ones xs [] in (
      λ a. link_index a f.more,
      length f.more,
      λ a b i j e. index_one a b f.more (f.all a (contains_in xs a i.0 i.1 i.2)) (f.all b (contains_in xs b j.0 j.1 j.2)) e,
      f.numbers,
    )
