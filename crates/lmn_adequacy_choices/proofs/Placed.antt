-- Embeddings at the end of a path are embeddings in the membrane to which it leads.
use Rattle.std.proofs.Common.{ℕ, suc, ◌≡◌, List, [], ◌∷◌, map, Some, refl, sym, ap, subst}
use Rattle.std.specs.Prelude.{slice_get}
use Rattle.lmn_store_heap.specs.Heap.{Heap, mems_in, rules_in}
use Rattle.lmn_store_heap.specs.Sound.{Forest, Forms}
use Rattle.lmn_store_heap.proofs.Groves.{forms_one}
use Rattle.lmn_congruence.specs.Regions.{Region}
use Rattle.lmn_congruence.specs.Rules.{Rule}
use Rattle.lmn_adequacy.specs.Embedding.{EmbedsAt, EmbedsIn, embeds_here, embeds_below, Taken, taken_first, taken_later}
use Rattle.lmn_adequacy_heaps.specs.HeapRegions.{HeapReading, region_at}
use Rattle.lmn_adequacy_heaps.specs.Premises.{HasForest}
use Rattle.lmn_adequacy_heaps.proofs.Lying.{TakenTree, tree_first, tree_later, taken_region}
use Rattle.lmn_adequacy_heaps.proofs.Read.{find_tree}
use Rattle.lmn_adequacy_heaps.proofs.Wholes.{taken_forest}
use Rattle.lmn_adequacy_turns.specs.Turning.{Leads, enters, stays}
use Rattle.lmn_adequacy_choices.proofs.Paths.{child}
use Rattle.lmn_adequacy.proofs.OneEmbedding.{membranes_in as membranes_part, rules_in as rules_part}
use Rattle.lmn_adequacy_turns.proofs.Leading.{taken_at as rule_at}

-- what embeds in a membrane embeds at the end of the path to it
pub at_path : (h : Heap) (r : HeapReading) (place k : ℕ) (g : List ℕ) {m x : ℕ} {path : List ℕ} → Leads h m path x → (i mi : Forest) → HasForest h x i → HasForest h m mi → slice_get (rules_in h m) place ≡ Some k → EmbedsAt (r.rule k) g (region_at h r m mi) →
    EmbedsIn path place g (region_at h r x i)
at_path h r place k g {m} stays i mi H F q e =
    let same = forms_one h mi i (mems_in h m) F.forms H.forms in
    embeds_here (rule_at r.rule (rules_in h m) place k q).1 (subst (λ z. EmbedsAt (r.rule k) g (region_at h r m z)) same e)
at_path h r place k g {m} {x} (enters {n = n} {y = y} p l) i mi H F q e =
    let c = child h i (mems_in h x) H.forms H.once.1 n y p in
    embeds_below (taken_region h r c.taken) (at_path h r place k g l c.inner mi c.has F q e)

-- the tree with a number in a forest is that of the membrane with this number
taken_number : (h : Heap) {n m : ℕ} {i f others : Forest} (ms : List ℕ) → TakenTree n m i f others → Forms h f ms → slice_get ms n ≡ Some m
taken_number h ms (tree_first {m = m}) F = subst (λ z. slice_get z 0 ≡ Some m) (sym F.1) refl
taken_number h ms (tree_later {n = n} {m = m} t) F = subst (λ z. slice_get z (suc n) ≡ Some m) (sym F.1) (taken_number h F.0 t F.3)

-- the rule with a number in a list is that with the number which stands there
taken_rule : (g : ℕ → Rule) (ks : List ℕ) {j : ℕ} {x : Rule} {xs others : List Rule} → Taken j x xs others → xs ≡ map g ks → (k : ℕ) × (slice_get ks j ≡ Some k) × (g k ≡ x)
taken_rule g [] taken_first e = absurd (cc)
taken_rule g [] (taken_later t) e = absurd (cc)
taken_rule g (k ∷ ks) (taken_first {y = y}) e = let q : y ≡ g k = cc in (k, refl, sym q)
taken_rule g (k ∷ ks) (taken_later {zs = zs} t) e = let q : zs ≡ map g ks = cc in let u = taken_rule g ks t q in (u.0, u.1, u.2)

-- A rule of the membrane to which a path leads embeds there.
pub record AtEnd (h : Heap) (r : HeapReading) (path : List ℕ) (j : ℕ) (g : List ℕ) (x : ℕ) : Type 0 where
  pub membrane : ℕ
  pub leads : Leads h membrane path x
  pub forest : Forest
  pub has : HasForest h membrane forest
  pub number : ℕ
  pub stands : slice_get (rules_in h membrane) j ≡ Some number
  pub embeds : EmbedsAt (r.rule number) g (region_at h r membrane forest)

-- what embeds at the end of a path embeds in the membrane to which it leads
pub at_end : (h : Heap) (r : HeapReading) {path : List ℕ} {j : ℕ} {g : List ℕ} {S : Region} → EmbedsIn path j g S → (x : ℕ) (i : Forest) → HasForest h x i → S ≡ region_at h r x i → AtEnd h r path j g x
at_end h r (embeds_here {r = rule} {f = f} t e) x i H q =
    let u = taken_rule r.rule (rules_in h x) t (ap rules_part q) in
    record { membrane = x; leads = stays; forest = i; has = H; number = u.0; stands = u.1; embeds = subst (λ z. EmbedsAt z f (region_at h r x i)) (sym u.2) (subst (EmbedsAt rule f) q e) }
at_end h r (embeds_below {n = n} {path = path} t e) x i H q =
    let u = find_tree h r i t (ap membranes_part q) in
    let w = at_end h r e u.number u.inner (taken_forest h (mems_in h x) u.taken H.forms H.once.1) u.is in
    record {
      membrane = w.membrane;
      leads = enters {n = n} {x = x} {y = u.number} {path = path} (taken_number h (mems_in h x) u.taken H.forms) w.leads;
      forest = w.forest;
      has = w.has;
      number = w.number;
      stands = w.stands;
      embeds = w.embeds;
    }
