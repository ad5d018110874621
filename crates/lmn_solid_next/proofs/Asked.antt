-- A rule that is asked, found to lie least, and matched, fires.
use Rattle.std.proofs.Common.{ℕ, ◌≡◌, ◌+◌, List, [], ◌∷◌, length, sym, ap, subst}
use Rattle.lmn_base.specs.declared.rule.Plain.{Plain}
use Rattle.lmn_base.specs.declared.rule.RuleTree.{RuleTree}
use Rattle.lmn_base.specs.declared.solid.Solid.{Solid}
use Rattle.lmn_base.specs.Lists.{In}
use Rattle.lmn_base.proofs.Lists.{plus_nothing}
use Rattle.lmn_guards.specs.declared.plan.GuardPlan.{GuardPlan}
use Rattle.lmn_store_heap.specs.Heap.{Heap}
use Rattle.lmn_store_heap.specs.Sound.{Forest, bare, mem, flat as members}
use Rattle.lmn_solid_heads.specs.Embeddings.{Images, IsLeast}
use Rattle.lmn_compile_head.specs.Accepted.{head_items}
use Rattle.lmn_congruence.specs.Rules.{Name, head_of}
use Rattle.lmn_congruence.specs.Translation.{region_of, rule_tree}
use Rattle.lmn_adequacy_heaps.specs.HeapRegions.{HeapReading}
use Rattle.lmn_adequacy_heaps.specs.Premises.{HasForest}
use Rattle.lmn_adequacy_choices.proofs.Paths.{forest_there}
use Rattle.lmn_solid_settle.specs.Raw.{CanSettle, IsSettled, RawRegion, laid}
use Rattle.lmn_solid_settle.specs.declared.settling.RawMembrane.{RawMembrane}
use Rattle.lmn_solid_tables.specs.Flats.{heap_of, reading_of}
use Rattle.lmn_solid_tables.specs.declared.flat.Flat.{Flat}
use Rattle.lmn_solid_search.specs.Finding.{images}
use Rattle.lmn_solid_search.specs.declared.embedding.Found.{Found}
use Rattle.lmn_solid_firing.specs.Matched.{IsMatched}
use Rattle.lmn_solid_firing.specs.Making.{IsMade}
use Rattle.lmn_solid_firing.specs.Meant.{wire_pairs}
use Rattle.lmn_solid_firing.specs.declared.match_.Match.{Match}
use Rattle.lmn_solid_next.specs.Asking.{Fires, IsAsked}
use Rattle.lmn_solid_next.specs.Choosing.{LiesLeast, numbers_of}
use Rattle.lmn_solid_next.specs.Firing.{AskedRulesFire, CanFire, HasMatch, MatchesAreOfEmbeddings, MayFire, SearchedRulesMayFire, TellsIntegers}
use Rattle.lmn_solid_next.specs.Laws.{LeastImagesLie}
use Rattle.lmn_solid_next.specs.Settling.{FiringsSettle, SettlesToNext}

module _ (may : SearchedRulesMayFire) (lie : LeastImagesLie) (match : MatchesAreOfEmbeddings) (settle : FiringsSettle) (names : List Name) (plain : Plain) (plans : List GuardPlan) (s : Solid) (flat : Flat) (place : ℕ) (rule : RuleTree) (plan : GuardPlan) where
  -- in the membrane in which it is matched
  module _ (found : Found) (t : Match) (a : IsAsked names plain plans s flat t.home place rule plan) (least : IsLeast (heap_of flat) (head_items rule plan) rule.guard t.home (images t.home found))
      (tells : TellsIntegers (heap_of flat) (head_items rule plan) rule.guard t.home found) (is : IsMatched flat rule (head_items rule plan) t.home found t) where
    abbrev f : Images
    f = images t.home found

    abbrev h : Heap
    h = heap_of flat

    abbrev r : HeapReading
    r = reading_of names plain.rules flat

    abbrev root : Forest
    root = a.searched.is_flat.inner

    abbrev ready : MayFire names plain flat root a.number rule
    ready = may names plain plans a.searched.can s a.searched.by flat a.searched.is_flat a.number rule a.is

    abbrev mi : (i : Forest) × HasForest h t.home i
    mi = let tree = a.searched.is_flat.tree in forest_there h (mem 0 root bare) (0 ∷ []) tree.forms tree.once t.home (tree.all t.home a.there)

    abbrev lies : LiesLeast h r rule plan t.home mi.0 f
    lies = lie plain.rules rule plan (a.searched.can.whole.whole a.number rule plan a.is a.plan_is) h r ready.read ready.is_rule t.home mi.0 mi.1 f least

    abbrev has : HasMatch flat r rule plan f t lies.embeds.contents lies.embeds.rest
    has = match flat names plain.rules rule plan (a.searched.can.whole.whole a.number rule plan a.is a.plan_is) ready.read ready.is_rule t.home mi.0 a.there found least tells lies t is

    inside : In t.home (0 ∷ members root)
    inside = subst (In t.home) (ap (λ z. 0 ∷ z) (plus_nothing (members root))) (a.searched.is_flat.tree.all t.home a.there)

    module _ (rows : List RawMembrane) (pairs : List (ℕ × ℕ)) (links : ℕ)
        (made : IsMade flat t has.left root rule.body (t.links + length rule.links) (wire_pairs t.links lies.embeds.contents.link_of (head_of (rule_tree names r.rule rule)) (length rule.links)) rows pairs links) where
      next : SettlesToNext h t.home names plain.rules (region_of names plain.rules s) place (numbers_of h rule plan f) rows pairs links
      next = subst (λ S. SettlesToNext h t.home names plain.rules S place (numbers_of h rule plan f) rows pairs links) (a.searched.is_flat.region names plain.rules)
          (settle flat names plain.rules t rule has.left root mi.0 place a.number (numbers_of h rule plan f) ready.read.valid ready.forms ready.once inside mi.1.forms a.stands ready.numbered
          ready.is_rule.accepted ready.closed ready.rules ready.named lies.embeds has.is rows pairs links made)

      fires : (n : Solid) → IsSettled next.region pairs n → Fires names plain s flat t.home place rule plan n
      fires n q = record {
        found = f;
        least = least;
        path = next.path;
        leads = next.leads;
        next_at = record { raw = next.level; fires = next.fires; fuses = (next.solid n q).is };
        by = record { solid = q.is_solid; each_rule = (next.solid n q).each_rule; named = (a.searched.by.named.0, a.searched.by.named.1, (next.solid n q).named) };
      }

      pub settled : (region : RawRegion) × (rows ≡ laid 0 0 region) × CanSettle region pairs links × ((n : Solid) → IsSettled region pairs n → Fires names plain s flat t.home place rule plan n)
      settled = (next.region, next.is_laid, next.can_settle, fires)

    pub can_fire : CanFire names plain s flat t.home place rule plan (images t.home found) t
    can_fire = record {
      left = has.left;
      forms = has.forms;
      inner = root;
      whole = ready.forms;
      link_of = lies.embeds.contents.link_of;
      ports = has.ports;
      head = head_of (rule_tree names r.rule rule);
      often = has.often;
      settles = settled;
    }

  pub can_fire_at : (m : ℕ) → IsAsked names plain plans s flat m place rule plan → (found : Found) → IsLeast (heap_of flat) (head_items rule plan) rule.guard m (images m found) →
      TellsIntegers (heap_of flat) (head_items rule plan) rule.guard m found → (t : Match) → IsMatched flat rule (head_items rule plan) m found t → CanFire names plain s flat m place rule plan (images m found) t
  can_fire_at m a found least tells t is = subst (λ z. CanFire names plain s flat z place rule plan (images z found) t) is.home (can_fire found t
      (subst (λ z. IsAsked names plain plans s flat z place rule plan) (sym is.home) a)
      (subst (λ z. IsLeast (heap_of flat) (head_items rule plan) rule.guard z (images z found)) (sym is.home) least)
      (subst (λ z. TellsIntegers (heap_of flat) (head_items rule plan) rule.guard z found) (sym is.home) tells)
      (subst (λ z. IsMatched flat rule (head_items rule plan) z found t) (sym is.home) is))

pub asked_rules_fire : SearchedRulesMayFire → LeastImagesLie → MatchesAreOfEmbeddings → FiringsSettle → AskedRulesFire
asked_rules_fire may lie match settle names plain plans s flat m place rule plan a found least tells t is = can_fire_at may lie match settle names plain plans s flat place rule plan m a found least tells t is
