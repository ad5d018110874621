-- Failures that name images.
use Rattle.std.proofs.Common.{◌≡◌, ◌∙◌, ℕ, zero, suc, ◌≤◌, ◌<◌, List, [], ◌∷◌, ◌++◌, length, slice_get, slice_index_or, Some, refl, sym, ap, subst, inl, inr, arith}
use Rattle.std.specs.Int.Bits.{bit_or, or_self}
use Rattle.std.proofs.lemmas.List.{length_push}
use Rattle.std.proofs.lemmas.Option.{same_Some}
use Rattle.lmn_base.specs.Lists.{In}
use Rattle.lmn_base.proofs.Lists.{get_below, get_either, get_front, get_index, get_last, read_or}
use Rattle.lmn_base.proofs.Bits.{or_assoc}
use Rattle.lmn_solid_search.specs.Choosing.{with_atom, with_membrane}
use Rattle.lmn_solid_search.specs.Placing.{membrane_at}
use Rattle.lmn_solid_search.specs.Reasoning.{Agrees, IsAmong, RestsOnLess, SameImages, Within, bit}
use Rattle.lmn_solid_search.specs.declared.numbers.Numbers.{Numbers}
use Rattle.lmn_solid_search.specs.declared.numbers.Numbers.TheVariants.{All, These}
use Rattle.lmn_solid_search.specs.declared.placed.Placed.{Placed}
use Rattle.lmn_solid_search.specs.declared.reasons.Reasons.{Reasons}
use Rattle.lmn_adequacy_heaps.proofs.OutOf.{index_in as item_in}

-- ---- sets of numbers

-- numbers are among themselves
pub within_itself : (e : Numbers) → Within e e
within_itself All = tt
within_itself (These d) = or_self d

-- what is among some is among more
pub within_on : (d e f : Numbers) → Within d e → Within e f → Within d f
within_on d e All p q = tt
within_on All All (These f) p q = q
within_on All (These e) (These f) p q = absurd p
within_on (These d) All (These f) p q = absurd q
within_on (These d) (These e) (These f) p q = ap (λ x. bit_or d x) (sym q) ∙ (sym (or_assoc d e f) ∙ (ap (λ x. bit_or x f) p ∙ q))

-- ---- images that are the same

pub same_fewer : (d e : Numbers) (xs ys : List ℕ) → Within d e → SameImages e xs ys → SameImages d xs ys
same_fewer d e xs ys w same k a at among = same k a at (within_on (These (bit k)) d e among w)

pub same_itself : (e : Numbers) (xs : List ℕ) → SameImages e xs xs
same_itself e xs k a at among = at

-- one after another
pub same_on : (e : Numbers) (xs ys zs : List ℕ) → SameImages e xs ys → SameImages All ys zs → SameImages e xs zs
same_on e xs ys zs first then' k a at among = then' k a (first k a at among) tt

-- the next image is the same,
pub same_next : (e : Numbers) (xs ys : List ℕ) (a : ℕ) → length ys ≡ length xs → SameImages e xs ys → SameImages e (xs ++ a ∷ []) (ys ++ a ∷ [])
same_next e xs ys a long same k b at among = elim (get_either xs a k b at) [
  | inl there ↦ get_front ys (a ∷ []) k b (same k b there among)
  | inr last ↦ subst (λ n. slice_get (ys ++ a ∷ []) n ≡ Some b) (long ∙ sym last.0) (get_last ys a ∙ ap Some last.1)
]

-- or the failure doesn't rest on it
pub same_past : (e : Numbers) (xs ys : List ℕ) (a b : ℕ) → length ys ≡ length xs → (IsAmong (length xs) e → ⊥) → SameImages e xs ys → SameImages e (xs ++ a ∷ []) (ys ++ b ∷ [])
same_past e xs ys a b long apart same k c at among = elim (get_either xs a k c at) [
  | inl there ↦ get_front ys (b ∷ []) k c (same k c there among)
  | inr last ↦ absurd (apart (subst (λ n. IsAmong n e) last.0 among))
]

-- where all are the same
pub same_all : (xs ys : List ℕ) → length ys ≡ length xs → SameImages All xs ys → ys ≡ xs
same_all [] [] l same = refl
same_all [] (y ∷ ys) l same = absurd (omega (arith, l))
same_all (x ∷ xs) [] l same = absurd (omega (arith, l))
same_all (x ∷ xs) (y ∷ ys) l same =
    let here : y ≡ x = same_Some _ _ (same 0 x refl tt) in
    let rest : ys ≡ xs = same_all xs ys (omega (arith, l)) (λ k a at u. same (suc k) a at tt) in
    λ i. here i ∷ rest i

-- the last image is the same, where the failure rests on it
pub last_same : (e : Numbers) (xs ys : List ℕ) (a b : ℕ) → length ys ≡ length xs → IsAmong (length xs) e → SameImages e (xs ++ a ∷ []) (ys ++ b ∷ []) → b ≡ a
last_same e xs ys a b long among same =
    same_Some _ _ (sym (get_last ys b) ∙ subst (λ n. slice_get (ys ++ b ∷ []) n ≡ Some a) (sym long) (same (length xs) a (get_last xs a) among))

-- an image on which the failure rests is among the others
pub kept_in : (e : Numbers) (xs ys : List ℕ) (a b c k : ℕ) → length ys ≡ length xs → slice_get xs k ≡ Some c → IsAmong k e → SameImages e (xs ++ a ∷ []) (ys ++ b ∷ []) → In c ys
kept_in e xs ys a b c k long at among same = elim (get_either ys b k c (same k c (get_front xs (a ∷ []) k c at) among)) [
  | inl there ↦ subst (λ z. In z ys) (read_or ys k c there) (item_in ys k (get_below ys k c there))
  | inr last ↦ absurd (let l = get_below xs k c at in let n = last.0 in omega (arith, l, n, long))
]

-- ---- placements that agree

pub agrees_itself : (e : Reasons) (p : Placed) → Agrees e p p
agrees_itself e p = record { home = refl; atoms_long = refl; membranes_long = refl; atoms = same_itself e.atoms p.atoms; membranes = same_itself e.membranes p.membranes }

pub agrees_fewer : (d e : Reasons) (p q : Placed) → RestsOnLess d e → Agrees e p q → Agrees d p q
agrees_fewer d e p q less g = record {
  home = g.home;
  atoms_long = g.atoms_long;
  membranes_long = g.membranes_long;
  atoms = same_fewer d.atoms e.atoms p.atoms q.atoms less.0 g.atoms;
  membranes = same_fewer d.membranes e.membranes p.membranes q.membranes less.1 g.membranes;
}

longer : (xs ys : List ℕ) (a b : ℕ) → length ys ≡ length xs → length (ys ++ b ∷ []) ≡ length (xs ++ a ∷ [])
longer xs ys a b long = let l = length_push xs a in let m = length_push ys b in omega (arith, long, l, m)

-- by an atom more
pub agrees_atom : (e : Reasons) (p q : Placed) (a : ℕ) → Agrees e p q → Agrees e (with_atom p a) (with_atom q a)
agrees_atom e p q a g = record {
  home = g.home;
  atoms_long = longer p.atoms q.atoms a a g.atoms_long;
  membranes_long = g.membranes_long;
  atoms = same_next e.atoms p.atoms q.atoms a g.atoms_long g.atoms;
  membranes = g.membranes;
}

pub past_atom : (e : Reasons) (p q : Placed) (a b : ℕ) → (IsAmong (length p.atoms) e.atoms → ⊥) → Agrees e p q → Agrees e (with_atom p a) (with_atom q b)
past_atom e p q a b apart g = record {
  home = g.home;
  atoms_long = longer p.atoms q.atoms a b g.atoms_long;
  membranes_long = g.membranes_long;
  atoms = same_past e.atoms p.atoms q.atoms a b g.atoms_long apart g.atoms;
  membranes = g.membranes;
}

-- by a membrane more
pub agrees_membrane : (e : Reasons) (p q : Placed) (a : ℕ) → Agrees e p q → Agrees e (with_membrane p a) (with_membrane q a)
agrees_membrane e p q a g = record {
  home = g.home;
  atoms_long = g.atoms_long;
  membranes_long = longer p.membranes q.membranes a a g.membranes_long;
  atoms = g.atoms;
  membranes = same_next e.membranes p.membranes q.membranes a g.membranes_long g.membranes;
}

pub past_membrane : (e : Reasons) (p q : Placed) (a b : ℕ) → (IsAmong (length p.membranes) e.membranes → ⊥) → Agrees e p q → Agrees e (with_membrane p a) (with_membrane q b)
past_membrane e p q a b apart g = record {
  home = g.home;
  atoms_long = g.atoms_long;
  membranes_long = longer p.membranes q.membranes a b g.membranes_long;
  atoms = g.atoms;
  membranes = same_past e.membranes p.membranes q.membranes a b g.membranes_long apart g.membranes;
}

-- the image of a membrane on which the failure rests is the same
pub same_inside : (e : Reasons) (p q : Placed) (number : ℕ) → ((k : ℕ) → number ≡ suc k → IsAmong k e.membranes) → number ≤ length p.membranes → Agrees e p q → membrane_at q.home q.membranes number ≡ membrane_at p.home p.membranes number
same_inside e p q zero among l g = g.home
same_inside e p q (suc k) among l g =
    let low : k < length p.membranes = omega (arith, l) in
    read_or q.membranes k (slice_index_or p.membranes k 0) (g.membranes k (slice_index_or p.membranes k 0) (get_index p.membranes k low) (among k refl))

-- placements that agree in all images are one
pub agrees_all : (e : Reasons) (p q : Placed) → e ≡ record { atoms = All; membranes = All } → Agrees e p q → q ≡ p
agrees_all e p q is g =
    let every = subst (λ (z : Reasons). Agrees z p q) is g in
    λ i. record { home = every.home i; atoms = same_all p.atoms q.atoms every.atoms_long every.atoms i; membranes = same_all p.membranes q.membranes every.membranes_long every.membranes i }
