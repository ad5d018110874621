-- Lists whose elements match, in order or in another one.
use Rattle.std.specs.Prelude.{List, [], ◌∷◌}

-- an element of a list
pub data Among {A : Type 0} (x : A) : List A → Type 0 where
  at_head : {ys : List A} → Among x (x ∷ ys)
  further : {y : A} {ys : List A} → Among x ys → Among x (y ∷ ys)

-- the last list is the first one with an element put in at some place
pub data Put {A : Type 0} : A → List A → List A → Type 0 where
  here : {y : A} {ys : List A} → Put y ys (y ∷ ys)
  there : {y z : A} {ys zs : List A} → Put y ys zs → Put y (z ∷ ys) (z ∷ zs)

-- the elements of two lists match one by one, in some order
pub data Shuffle {A B : Type 0} (R : A → B → Type 0) : List A → List B → Type 0 where
  none : Shuffle R [] []
  more : {x : A} {y : B} {xs : List A} {ys zs : List B} →
      R x y → Shuffle R xs ys → Put y ys zs → Shuffle R (x ∷ xs) zs

-- the elements of two lists match one by one, in order
pub data OneByOne {A B : Type 0} (R : A → B → Type 0) : List A → List B → Type 0 where
  no_pairs : OneByOne R [] []
  pair_and : {x : A} {y : B} {xs : List A} {ys : List B} → R x y → OneByOne R xs ys → OneByOne R (x ∷ xs) (y ∷ ys)

-- no element stands twice in a list
abbrev pub EachOnce : {A : Type 0} → List A → Type 0
EachOnce [] = Unit {0}
EachOnce (x ∷ xs) = (¬ (Among x xs)) × EachOnce xs
