-- What holds of each atom and of each rule of a region holds of those of a region that is the same.
use Rattle.std.proofs.Common.{List, ◌≡◌, ℕ, subst}
use Rattle.std.specs.List.{AllByRecursion}
use Rattle.lmn_congruence.specs.Orders.{Put, here, there, Shuffle, none, more}
use Rattle.lmn_congruence.specs.Regions.{SolidAtom, Region, region, Regions, no_region, region_and}
use Rattle.lmn_congruence.specs.Rules.{Rule}
use Rattle.lmn_congruence.specs.Same.{renamed_atom, PutRegion, first, later, SameRegion, same_region, SameRegions, none_left, one_more}

module _ (P : SolidAtom → Type 0) (Q : Rule → Type 0) where
  abbrev mutual
    pub Everywhere : Region → Type 0
    Everywhere (region atoms membranes rules) = AllByRecursion P atoms × EverywhereIn membranes × AllByRecursion Q rules

    pub EverywhereIn : Regions → Type 0
    EverywhereIn no_region = Unit {0}
    EverywhereIn (region_and r rs) = Everywhere r × EverywhereIn rs

all_put : {A : Type 0} (P : A → Type 0) {y : A} {ys zs : List A} → Put y ys zs → P y → AllByRecursion P ys → AllByRecursion P zs
all_put P here a h = (a, h)
all_put P (there p) a h = (h.0, all_put P p a h.1)

all_shuffled : {A B : Type 0} (R : A → B → Type 0) (P : A → Type 0) (Q : B → Type 0) → ((a : A) (b : B) → R a b → P a → Q b)
    → {xs : List A} {ys : List B} → Shuffle R xs ys → AllByRecursion P xs → AllByRecursion Q ys
all_shuffled R P Q f none h = tt
all_shuffled R P Q f (more r s p) h = all_put Q p (f _ _ r h.0) (all_shuffled R P Q f s h.1)

module _ (P : SolidAtom → Type 0) (Q : Rule → Type 0) (to : ℕ → ℕ) (renamed : (a b : SolidAtom) → renamed_atom to a ≡ b → P a → P b) where
  put_everywhere : {m : Region} {ms ns : Regions} → PutRegion m ms ns → Everywhere P Q m → EverywhereIn P Q ms → EverywhereIn P Q ns
  put_everywhere first a h = (a, h)
  put_everywhere (later p) a h = (h.0, put_everywhere p a h.1)

  mutual
    pub kept : {S T : Region} → SameRegion to S T → Everywhere P Q S → Everywhere P Q T
    kept (same_region a m r) h =
        (all_shuffled _ P P renamed a h.0, all_kept m h.1, all_shuffled _ Q Q (λ a b e q. subst Q e q) r h.2)

    all_kept : {ms ns : Regions} → SameRegions to ms ns → EverywhereIn P Q ms → EverywhereIn P Q ns
    all_kept none_left h = tt
    all_kept (one_more r rs p) h = put_everywhere p (kept r h.0) (all_kept rs h.1)
