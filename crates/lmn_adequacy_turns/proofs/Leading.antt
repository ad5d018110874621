-- Where a rule embeds at the end of a path on a heap, it embeds in the membrane to which the path leads.
use Rattle.std.proofs.Common.{ℕ, zero, suc, ◌≡◌, List, [], ◌∷◌, Some, map, refl, sym, subst}
use Rattle.std.specs.Prelude.{slice_get}
use Rattle.std.proofs.lemmas.Option.{same_Some}
use Rattle.lmn_store_heap.specs.Heap.{Heap, mems_in, rules_in}
use Rattle.lmn_store_heap.specs.Sound.{Forest, bare, mem, Forms}
use Rattle.lmn_store_heap.proofs.Groves.{forms_one}
use Rattle.lmn_congruence.specs.Regions.{Region, Regions, SolidAtom, region}
use Rattle.lmn_congruence.specs.Rules.{Rule}
use Rattle.lmn_adequacy.specs.Embedding.{EmbedsAt, EmbedsIn, embeds_here, embeds_below, Taken, taken_first, taken_later, TakenRegion, region_first, region_later}
use Rattle.lmn_adequacy_heaps.specs.HeapRegions.{HeapReading, regions_at, region_at}
use Rattle.lmn_adequacy_turns.specs.Turning.{Leads, stays, enters}

-- one item has a number in a list
one_taken : {A : Type 0} {n : ℕ} {y z : A} {xs ys zs : List A} → Taken n y xs ys → Taken n z xs zs → y ≡ z
one_taken taken_first taken_first = refl
one_taken (taken_later a) (taken_later b) = one_taken a b

-- a rule of a list has its place
pub taken_at : (g : ℕ → Rule) (ks : List ℕ) (i k : ℕ) → slice_get ks i ≡ Some k → (others : List Rule) × Taken i (g k) (map g ks) others
taken_at g [] i k e = absurd (cc)
taken_at g (j ∷ ks) zero k e = let same : j ≡ k = cc in subst (λ z. (others : List Rule) × Taken 0 (g z) (map g (j ∷ ks)) others) same (map g ks, taken_first)
taken_at g (j ∷ ks) (suc i) k e = let u = taken_at g ks i k e in (g j ∷ u.0, taken_later u.1)

-- an embedding below, and one at the end of the path
below : {n k : ℕ} {path g : List ℕ} {xs : List SolidAtom} {ms : Regions} {rs : List Rule} → EmbedsIn (n ∷ path) k g (region xs ms rs) → (s : Region) × (others : Regions) × TakenRegion n s ms others × EmbedsIn path k g s
below (embeds_below t e) = (_, _, t, e)

here : {k : ℕ} {g : List ℕ} {xs : List SolidAtom} {ms : Regions} {rs : List Rule} → EmbedsIn [] k g (region xs ms rs) → (rule : Rule) × (others : List Rule) × Taken k rule rs others × EmbedsAt rule g (region xs ms rs)
here (embeds_here t e) = (_, _, t, e)

module _ (h : Heap) (r : HeapReading) where
  -- the region with a number in a forest is that of the membrane with this number
  region_there : {n : ℕ} {s : Region} {all others : Regions} → TakenRegion n s all others → (i : Forest) (ms : List ℕ) (y : ℕ) → regions_at h r i ≡ all → Forms h i ms → slice_get ms n ≡ Some y →
      (j : Forest) × Forms h j (mems_in h y) × (s ≡ region_at h r y j)
  region_there region_first bare ms y e F q = absurd (cc)
  region_there {s = s} region_first (mem k j rest) ms y e F q =
      let same : k ≡ y = same_Some k y (subst (λ z. slice_get z 0 ≡ Some y) F.1 q) in
      let is : region_at h r k j ≡ s = cc in
      subst (λ z. (j : Forest) × Forms h j (mems_in h z) × (s ≡ region_at h r z j)) same (j, F.2, sym is)
  region_there (region_later t) bare ms y e F q = absurd (cc)
  region_there {n = suc n} (region_later {ms = all} t) (mem k j rest) ms y e F q =
      let tail : regions_at h r rest ≡ all = cc in
      region_there t rest F.0 y tail F.3 (subst (λ z. slice_get z (suc n) ≡ Some y) F.1 q)

  -- a rule that embeds at the end of a path embeds in the membrane there
  pub led : {m x : ℕ} {path : List ℕ} → Leads h m path x → (i mi : Forest) → Forms h i (mems_in h x) → Forms h mi (mems_in h m) → (k : ℕ) (g : List ℕ) → EmbedsIn path k g (region_at h r x i) → EmbedsIn [] k g (region_at h r m mi)
  led {m = m} stays i mi F G k g e = subst (λ z. EmbedsIn [] k g (region_at h r m z)) (forms_one h i mi (mems_in h m) F G) e
  led (enters {y = y} q l) i mi F G k g e =
      let u = below e in
      let w = region_there u.2 i _ y refl F q in
      led l w.0 mi w.1 G k g (subst (EmbedsIn _ k g) w.2 u.3)

  -- rule number k of this membrane
  pub embeds_there : (m : ℕ) (mi : Forest) (index k : ℕ) (g : List ℕ) → slice_get (rules_in h m) index ≡ Some k → EmbedsIn [] index g (region_at h r m mi) → EmbedsAt (r.rule k) g (region_at h r m mi)
  embeds_there m mi index k g q e =
      let u = here e in
      subst (λ z. EmbedsAt z g (region_at h r m mi)) (one_taken u.2 (taken_at r.rule (rules_in h m) index k q).1) u.3
