-- An embedding has a next solid.
use Rattle.std.proofs.Common.{ℕ, List, refl, sym, subst, arith, ◌≡◌, ◌+◌, ◌≤◌, [], ◌∷◌, ◌∙◌}
use Rattle.lmn_congruence.specs.FreeLinks.{above_all, link_bound}
use Rattle.lmn_congruence.specs.LinkedRules.{leaves_occurrences, level_occurrences, levels_occurrences}
use Rattle.lmn_congruence.specs.Plains.{level_process}
use Rattle.lmn_congruence.specs.Process.{Closed, Process, nothing, pair, renamed}
use Rattle.lmn_congruence.specs.Regions.{Region, Regions, SolidAtom, region, region_process}
use Rattle.lmn_congruence.specs.Rules.{Leaf, Level, Levels, Rule, atom_leaf, body_of, connector_leaf, head_of, level, level_and, no_level, no_rule, typed_leaf}
use Rattle.lmn_congruence.specs.Translation.{levels, rules as listed_rules}
use Rattle.lmn_congruence.specs.UpToOrder.{Reordered, r_back, r_beside, r_chain, r_regroup, r_same}
use Rattle.lmn_congruence.proofs.Crossings.{places_above}
use Rattle.lmn_reduction.proofs.Plains.{plain_has_solid}
use Rattle.lmn_congruence.proofs.Reordered.{r_right, reordered_count}
use Rattle.lmn_congruence.proofs.Solids.{put_together}
use Rattle.lmn_adequacy.specs.Accepted.{Accepted, all_contexts, open_names}
use Rattle.lmn_adequacy.specs.Embedding.{AllRules, EmbedsIn, TakenRegion, embeds_below, embeds_here, assignment_of, EmbedsAt, HasEmbedding}
use Rattle.lmn_adequacy.specs.Loose.{LevelImages}
use Rattle.lmn_adequacy.specs.Next.{FiresInOrder, NextAt, RawAt, fires_below, fires_here, kept_atoms, kept_membranes, raw_level, replaced, wire_leaves}
use Rattle.lmn_adequacy.proofs.Accepting.{accepted_bare}
use Rattle.lmn_adequacy.proofs.Bodies.{Copied, LevelMade, context_places}
use Rattle.lmn_adequacy.proofs.Closing.{body_ground, body_whole, head_whole, raw_closes}
use Rattle.lmn_adequacy.proofs.Commits.{beside_nothing, closed_as, region_out}
use Rattle.lmn_adequacy.proofs.Heads.{region_there, rule_there}
use Rattle.lmn_adequacy.proofs.InOrder.{contents_plain, held, level_images_of, kept_listed, level_listed, made_process, raw_joined, replaced_put}
use Rattle.lmn_adequacy.proofs.MadeBodies.{level_listed_from}
use Rattle.lmn_adequacy.proofs.Orders.{r_over, taken_put}
use Rattle.lmn_adequacy.proofs.RawProcesses.{head_wires}
use Rattle.lmn_adequacy.proofs.Skeleton.{level_skeleton}
use Rattle.lmn_congruence_splice.specs.Splice.{of_rule, of_solid}

leaves_bound : (ls : List Leaf) → (n : ℕ) × ((x : ℕ) → n ≤ x → leaves_occurrences x ls ≡ 0)
leaves_bound [] = (0, λ x b. refl)
leaves_bound (atom_leaf a ys ∷ ls) = let u = leaves_bound ls in (above_all ys + u.0, λ x b. omega (arith, places_above x ys (omega (arith, b)), u.1 x (omega (arith, b))))
leaves_bound (connector_leaf y z ∷ ls) = let u = leaves_bound ls in (above_all (y ∷ z ∷ []) + u.0, λ x b. omega (arith, places_above x (y ∷ z ∷ []) (omega (arith, b)), u.1 x (omega (arith, b))))
leaves_bound (typed_leaf q y ∷ ls) = let u = leaves_bound ls in (above_all (y ∷ []) + u.0, λ x b. omega (arith, places_above x (y ∷ []) (omega (arith, b)), u.1 x (omega (arith, b))))

mutual
  pub level_bound : (l : Level) → (n : ℕ) × ((x : ℕ) → n ≤ x → level_occurrences x l ≡ 0)
  level_bound (level leaves membranes contexts rule_contexts rules) =
      let u = leaves_bound leaves in let w = levels_bound membranes in (u.0 + w.0, λ x b. omega (arith, u.1 x (omega (arith, b)), w.1 x (omega (arith, b))))

  levels_bound : (ls : Levels) → (n : ℕ) × ((x : ℕ) → n ≤ x → levels_occurrences x ls ≡ 0)
  levels_bound no_level = (0, λ x b. refl)
  levels_bound (level_and l ls) =
      let u = level_bound l in let w = levels_bound ls in (u.0 + w.0, λ x b. omega (arith, u.1 x (omega (arith, b)), w.1 x (omega (arith, b))))

-- what the rule makes at an embedding, closed with what stands beside it
pub record Fired (r : Rule) (f : List ℕ) (m : Region) (O : Process) : Type 0 where
  pub raw : Level
  pub fires : FiresInOrder r f m raw
  pub closed : Closed (pair (level_process raw) (renamed of_solid O))

-- an accepted rule fires at each embedding
pub embedding_fires : {r : Rule} {f : List ℕ} {m : Region} → Accepted r → EmbedsAt r f m → (O : Process) → Closed (pair (region_process m) O) → Fired r f m O
embedding_fires {r} {f} {m} a e O closed =
    let c = e.contents in
    let t = assignment_of c in
    let p = contents_plain c e.closed e.root_is_free in
    let b = accepted_bare r a in
    let i : LevelImages t (level b.leaves b.membranes [] [] no_rule) f m e.rest = subst (λ k. LevelImages t k f m e.rest) b.is (level_images_of e.lies) in
    let u = level_skeleton t p i in
    let n = level_bound (head_of r) in
    let whole = head_whole r a t p e.guard b.leaves b.membranes b.is m e.rest u O closed in
    let v = level_listed_from c p (body_of r) (λ q k. (body_ground a t e.guard q k, body_whole a t e.guard whole q k)) (link_bound (region_process m) + link_bound O) in
    let B = made_process c v.makes in
    let made_body : LevelMade t p (body_of r) (link_bound (region_process m) + link_bound O) = record {
      process = B.process;
      is = B.is;
      count = λ x. sym (reordered_count B.order (of_rule x)) ∙ v.count x;
      next = v.next;
      later = v.later;
      odd = λ L. subst (Copied (link_bound (region_process m) + link_bound O) v.next L (context_places t p L (open_names (all_contexts (body_of r))))) (reordered_count B.order (of_solid L)) (v.odd L);
    } in
    let W = wire_leaves c.link_of (head_of r) n.0 in
    let k = raw_closes r a t p e.guard b.leaves b.membranes b.is m e.rest u O closed made_body n.0 n.1 in
    let o = raw_joined t (head_of r) n.0 B.process e.rest v.outs v.membranes v.rule_list B.order in
    record {
      raw = raw_level e.rest W v.outs v.membranes v.rule_list;
      fires = record { at = e; outs = v.outs; made_membranes = v.membranes; made_rules = v.rule_list; makes = v.makes; bound = n.0; bounded = n.1; is = refl };
      closed = closed_as (pair (pair B.process (pair (head_wires t (head_of r) n.0) (renamed of_solid (region_process e.rest)))) (renamed of_solid O)) (pair (level_process (raw_level e.rest W v.outs v.membranes v.rule_list)) (renamed of_solid O)) (λ z. omega (arith, reordered_count o z)) k;
    }

-- the same in a membrane of a region
pub record RawClosed (path : List ℕ) (k : ℕ) (f : List ℕ) (S : Region) (O : Process) : Type 0 where
  pub raw : Level
  pub fires : RawAt path k f S raw
  pub closed : Closed (pair (level_process raw) (renamed of_solid O))

-- a membrane of a raw level in its place
pub below_order : {n : ℕ} {m : Region} {ms ms' : Regions} (xs : List SolidAtom) (rs : List Rule) (L : Level) → TakenRegion n m ms ms'
    → Reordered (level_process (level (kept_atoms xs) (levels (replaced n L (kept_membranes ms))) [] [] (listed_rules rs))) (pair (held L) (renamed of_solid (region_process (region xs ms' rs))))
below_order {n = n} {ms = ms} {ms' = ms'} xs rs L k =
    r_chain (r_same (level_listed (kept_atoms xs) (replaced n L (kept_membranes ms)) rs))
    (r_chain (r_right (r_chain (r_beside (r_back (put_together (replaced_put L k)))) (r_back r_regroup))) (r_chain r_over (r_right (r_same (kept_listed xs ms' rs)))))

-- wherever an accepted rule embeds it fires, and leaves a raw level that is closed with what stands beside it
pub embeds_raw : {path : List ℕ} {k : ℕ} {f : List ℕ} {S : Region} → EmbedsIn path k f S → AllRules Accepted S → (O : Process) → Closed (pair (region_process S) O) → RawClosed path k f S O
embeds_raw (embeds_here k e) h O c =
    let a = rule_there Accepted h.0 (taken_put k) in
    let u = embedding_fires a e O c in
    record { raw = u.raw; fires = fires_here k u.fires; closed = u.closed }
embeds_raw (embeds_below {m = m} {xs = xs} {ms = ms} {ms' = ms'} {rs = rs} k i) h O c =
    let S = region xs ms rs in
    let Q = region_process (region xs ms' rs) in
    let out = region_out xs rs k in
    let u = embeds_raw i (region_there Accepted h.1 k) (pair Q O) (closed_as (pair (region_process S) O) (pair (region_process m) (pair Q O)) (λ z. omega (arith, reordered_count out z)) c) in
    let o = below_order xs rs u.raw k in
    record {
      raw = _;
      fires = fires_below k u.fires;
      closed = closed_as (pair (level_process u.raw) (renamed of_solid (pair Q O))) (pair (level_process (level (kept_atoms xs) (levels (replaced _ u.raw (kept_membranes ms))) [] [] (listed_rules rs))) (renamed of_solid O)) (λ z. omega (arith, reordered_count o z)) u.closed;
    }

-- An embedding has a next solid.
pub embeds_next : (path f : List ℕ) (k : ℕ) (S : Region) → Closed (region_process S) → AllRules Accepted S → EmbedsIn path k f S → (S' : Region) × NextAt path k f S S'
embeds_next path f k S c h e =
    let u = embeds_raw e h nothing (beside_nothing (region_process S) c) in
    let o : Closed (level_process u.raw) = closed_as (pair (level_process u.raw) nothing) (level_process u.raw) (λ z. omega arith) u.closed in
    let v = plain_has_solid u.raw o in
    (v.0, record { raw = u.raw; fires = u.fires; fuses = v.1 })

raw_embeds : {path : List ℕ} {k : ℕ} {f : List ℕ} {S : Region} {L : Level} → RawAt path k f S L → EmbedsIn path k f S
raw_embeds (fires_here k F) = embeds_here k F.at
raw_embeds (fires_below k R) = embeds_below k (raw_embeds R)

-- and only an embedding has one
pub next_embeds : {path : List ℕ} {k : ℕ} {f : List ℕ} {S S' : Region} → NextAt path k f S S' → EmbedsIn path k f S
next_embeds n = raw_embeds n.fires

-- where a rule embeds in a membrane of a region it embeds in the region
pub in_a_membrane : {n : ℕ} {m : Region} {xs : List SolidAtom} {ms ms' : Regions} {rs : List Rule} → TakenRegion n m ms ms' → HasEmbedding m → HasEmbedding (region xs ms rs)
in_a_membrane k e = record { path = _; number = e.number; positions = e.positions; embeds = embeds_below k e.embeds }
