-- A flattened rule is one for which the laws of firing hold.
use Rattle.std.proofs.Common.{ℕ, zero, suc, ◌+◌, ◌<◌, ◌≤◌, ◌≡◌, ◌≢◌, ◌⊎◌, Bool, List, [], ◌∷◌, ◌++◌, map, length, Some, refl, sym, ap, subst, ◌∙◌, inl, inr, arith}
use Rattle.std.specs.Prelude.{slice_get}
use Rattle.lmn_base.specs.declared.level.Level.{Level}
use Rattle.lmn_base.specs.Levels.{links_of}
use Rattle.lmn_guards.specs.declared.plan.TypeKind.{TypeKind}
use Rattle.lmn_solid_heads.specs.declared.items.HeadItem.{HeadItem}
use Rattle.lmn_solid_heads.specs.Heads.{HeadTyped, HeadMembrane, Occurrence, at_atoms, atoms_of, typed_contexts_of, membranes_of, times}
use Rattle.lmn_solid_heads.specs.Heads as heads
use Rattle.lmn_solid_heads.specs.Embeddings.{HasTyped, HasMembrane, HasLink}
use Rattle.lmn_solid_bodies.specs.Rules.{IsHeadMembrane}
use Rattle.lmn_base.proofs.Lists.{get_below}
use Rattle.lmn_solid_heads.specs.Flattening.{items_of_head}
use Rattle.lmn_congruence_splice.specs.Splice.{IsOneOf}
use Rattle.lmn_solid_bodies.specs.declared.items.BodyItem.{BodyItem}
use Rattle.lmn_solid_bodies.specs.Items.{body_links, LinkedItems}
use Rattle.lmn_solid_bodies.specs.Flattening.{BodyNames, body_items}
use Rattle.lmn_solid_bodies.specs.Laws.{FlattenedRules}
use Rattle.lmn_solid_bodies.proofs.HeadPorts.{in_map, in_at_atoms}
use Rattle.lmn_solid_bodies.proofs.Firing.{in_often, often_in}
use Rattle.lmn_solid_bodies.proofs.Contexts.{placed, contexts_stand_there, each_open, each_closed, body_has}
use Rattle.lmn_solid_bodies.proofs.CopiedParts.{copies_named}
use Rattle.lmn_solid_bodies.proofs.BodyLinks.{links_kept, all_made}
use Rattle.lmn_solid_bodies.proofs.HeadItems.{nests, stand_inside, head_made, flattened_are_linked}
use Rattle.lmn_solid_heads.proofs.HeadLinks.{head_links}
use Rattle.lmn_congruence.specs.Links.{places}
use Rattle.lmn_base.specs.Graphs.{Port}
use Rattle.lmn_congruence.proofs.Counts.{one_if_equal as one_same}
use Rattle.lmn_congruence.proofs.TranslatedLinks.{places_append as often_append}
use Rattle.lmn_congruence_splice.proofs.Common.{in_back, in_front}
use Rattle.lmn_solid_heads.proofs.Common.{times_places as times_often}

typed_in : (ts : List HeadTyped) (g : ℕ) (t : HeadTyped) → slice_get ts g ≡ Some t → IsOneOf t.link (map (λ t. t.link) ts)
typed_in [] g t e = absurd (cc)
typed_in (u ∷ ts) zero t e = inl (let same : u ≡ t = (cc) in ap (λ (t : HeadTyped). t.link) same)
typed_in (u ∷ ts) (suc g) t e = inr (typed_in ts g t e)

-- two typed contexts with one link are two of its places
typed_twice : (ts : List HeadTyped) (g k : ℕ) (t u : HeadTyped) → slice_get ts g ≡ Some t → slice_get ts k ≡ Some u → g ≢ k → t.link ≡ u.link → 2 ≤ places t.link (map (λ t. t.link) ts)
typed_twice [] g k t u e f d l = absurd (cc)
typed_twice (v ∷ ts) zero zero t u e f d l = absurd (d refl)
typed_twice (v ∷ ts) zero (suc k) t u e f d l =
    let first : v ≡ t = (cc) in
    let o = one_same t.link v.link (sym (ap (λ (t : HeadTyped). t.link) first)) in
    let i = in_often t.link (map (λ (t : HeadTyped). t.link) ts) (subst (λ x. IsOneOf x (map (λ (t : HeadTyped). t.link) ts)) (sym l) (typed_in ts k u f)) in
    omega arith
typed_twice (v ∷ ts) (suc g) zero t u e f d l =
    let first : v ≡ u = (cc) in
    let o = one_same t.link v.link (l ∙ sym (ap (λ (t : HeadTyped). t.link) first)) in
    let i = in_often t.link (map (λ (t : HeadTyped). t.link) ts) (typed_in ts g t e) in
    omega arith
typed_twice (v ∷ ts) (suc g) (suc k) t u e f d l = let r = typed_twice ts g k t u e f (λ q. d (ap suc q)) l in omega arith

-- where typed contexts are held by atoms, and links stand twice, each has a link of its own
typed_once : (head : List HeadItem) (body : List BodyItem) → LinkedItems head body → ((g : ℕ) (t : HeadTyped) → HasTyped head g t → (p : Port) × HasLink head t.link p) →
    (g k : ℕ) (t u : HeadTyped) → HasTyped head g t → HasTyped head k u → g ≢ k → t.link ≢ u.link
typed_once head body linked held g k t u e f d l =
    let p = held g t e in
    let o = p.1.0 in
    let at = map (λ (o : Occurrence). o.link) (at_atoms 0 (atoms_of head)) in
    let typed = map (λ (t : HeadTyped). t.link) (typed_contexts_of head) in
    let one = in_often t.link at (in_map (λ (o : Occurrence). o.link) _ (at_atoms 0 (atoms_of head)) (in_at_atoms 0 (atoms_of head) (p.0.0) (p.0.1) t.link o (p.1.1) (p.1.2))) in
    off (places t.link at) (places t.link typed) (times t.link (heads.links_of_head head)) (times t.link (body_links body)) (times_often t.link (heads.links_of_head head) ∙ often_append t.link at typed) one
    (typed_twice (typed_contexts_of head) g k t u e f d l) (linked t.link)
  where
    off : (a b h m : ℕ) → h ≡ a + b → 1 ≤ a → 2 ≤ b → (h + m ≡ 0) ⊎ (h + m ≡ 2) → ⊥
    off a b h m e x y (inl z) = omega arith
    off a b h m e x y (inr z) = omega arith

links_below : (kind : ℕ → TypeKind) (s : BodyNames) (k : ℕ) (head body : Level) (n : ℕ) → ((x : ℕ) → IsOneOf x (links_of head ++ links_of body) → x < n) →
    (x : ℕ) → IsOneOf x (heads.links_of_head (items_of_head kind head)) ⊎ IsOneOf x (body_links (body_items s k body)) → x < n
links_below kind s k head body n low x (inl i) =
    let l = in_often x (heads.links_of_head (items_of_head kind head)) i in
    let e = sym (times_often x (heads.links_of_head (items_of_head kind head))) ∙ head_links kind head x ∙ times_often x (links_of head) in
    low x (in_front x (links_of head) (links_of body) (often_in x (links_of head) (subst (λ m. 1 ≤ m) e l)))
links_below kind s k head body n low x (inr i) = low x (in_back x (links_of head) (links_of body) (subst (IsOneOf x) (links_kept s k body) i))

-- a membrane of a head whose context has this form
abbrev Formed : List HeadItem → ℕ → Bool → Type 0
Formed items k closed = (b : HeadMembrane) × HasMembrane items k b × (b.has_closed_context ≡ closed)

-- what is the number of a membrane of a head is one of its numbers
head_number : (items : List HeadItem) (k : ℕ) (b : HeadMembrane) → HasMembrane items k b → IsHeadMembrane (length (membranes_of items)) k
head_number items k b w = (w.0, w.1, get_below (membranes_of items) w.0 b w.2)

-- a rule that is flattened is a nested one, where its links and contexts stand as they should
pub flattened_rules : FlattenedRules
flattened_rules kind s head body n twice low fits_head fits_body named held owned rules_owned once contexts =
    let items = items_of_head kind head in
    let k = length (membranes_of items) in
    let linked = flattened_are_linked kind s k head body twice in
    record {
      atoms = record {
        copied = copies_named s k (λ g. (t : HeadTyped) × HasTyped items g t) named body;
        held = held;
        typed_once = typed_once items (body_items s k body) linked held;
        head_made = head_made kind head fits_head;
        made = all_made s k body fits_body;
        linked = linked;
        below = links_below kind s k head body n low;
      };
      placed = placed s k body (λ u i. head_number items (s.context u.name) (owned u i).0 (owned u i).1) rules_owned once;
      head_nests = nests kind head;
      inside = stand_inside kind head;
      contexts = λ i b h c o. contexts_stand_there s k body i (contexts i b h c o);
      of_open = each_open (Formed items) (body_items s k body) (body_has s k (Formed items) body owned);
      of_closed = each_closed (Formed items) (body_items s k body) (body_has s k (Formed items) body owned);
    }
