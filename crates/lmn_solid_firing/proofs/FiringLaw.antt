-- What a firing makes is a raw level of the calculus.
use Rattle.std.proofs.Common.{ℕ, ◌≡◌, ◌+◌, ◌-◌, ◌≤◌, cond, List, [], ◌∷◌, ◌++◌, Some, length, map, sym, ap, subst, ◌∙◌, arith}
use Rattle.std.specs.Prelude.{slice_get}
use Rattle.lmn_base.proofs.Numbers.{equal_itself}
use Rattle.lmn_base.specs.Lists.{In}
use Rattle.lmn_base.specs.declared.rule.RuleTree.{RuleTree}
use Rattle.lmn_congruence.specs.Plains.{level_process}
use Rattle.lmn_congruence.specs.Process.{Closed, nothing, occurrences, pair, renamed}
use Rattle.lmn_congruence.specs.Regions.{region, region_process}
use Rattle.lmn_congruence.specs.Rules as tree
use Rattle.lmn_congruence.specs.Rules.{Name, head_of}
use Rattle.lmn_congruence.specs.Translation.{level_of, numbered_rule, rule_tree}
use Rattle.lmn_adequacy.specs.Accepted.{Accepted}
use Rattle.lmn_adequacy.specs.Embedding.{EmbedsAt, Taken}
use Rattle.lmn_adequacy.proofs.Commits.{closed_as}
use Rattle.lmn_congruence_splice.specs.Splice.{of_solid}
use Rattle.lmn_adequacy.specs.Next.{RawAt, FiresInOrder, fires_here, raw_level, wire_leaves}
use Rattle.lmn_store_heap.specs.Heap.{atoms_in, mems_in, rules_in}
use Rattle.lmn_store_heap.specs.Lists.{Distinct}
use Rattle.lmn_store_heap.specs.Sound.{Forest, flat as members, Forms}
use Rattle.lmn_adequacy_heaps.specs.HeapRegions.{HeapReading, atoms_at, region_at, regions_at}
use Rattle.lmn_solid_settle.specs.Raw.{RawRegion, raw}
use Rattle.lmn_adequacy_turns.proofs.Leading.{taken_at}
use Rattle.lmn_adequacy_turns.specs.Turning.{Leads, stays}
use Rattle.lmn_solid_tables.specs.Flats.{heap_of, reading_of}
use Rattle.lmn_solid_tables.specs.declared.flat.Flat.{Flat}
use Rattle.lmn_solid_firing.specs.declared.match_.Match.{Match}
use Rattle.lmn_solid_firing.specs.declared.writing.Writing.TheVariants.{Shifted}
use Rattle.lmn_solid_firing.specs.Laws.{IsMatch}
use Rattle.lmn_solid_firing.specs.Making.{LevelMade, fired_region, fired_regions, home_region, left_of, level_made, level_pairs, written_atoms}
use Rattle.lmn_solid_firing.specs.Meant.{wire_pairs}
use Rattle.lmn_solid_firing.specs.Spelled.{Writes, mapped_pair}
use Rattle.lmn_solid_firing.proofs.FiredLevels.{FiredAt, home_spelt, root_fires, wires_fused, wires_read}
use Rattle.lmn_solid_firing.proofs.MadeLevels.{LevelAt, body_spelt}
use Rattle.lmn_solid_firing.proofs.NumberLemmas.{found_again, number_of, raw_link}
use Rattle.lmn_solid_firing.proofs.LinksUnder.{region_none}
use Rattle.lmn_solid_firing.proofs.Ranges.{ranged_closes, ranged_made}
use Rattle.lmn_solid_firing.proofs.Reading.{read_region, settled_read}

module _ (flat : Flat) (names : List Name) (table : List RuleTree) (t : Match) (rule : RuleTree) (left : ℕ → Forest) (inner mi : Forest) (index k : ℕ) (ns : List ℕ)
    (formed : Forms (heap_of flat) mi (mems_in (heap_of flat) t.home)) (at : slice_get (rules_in (heap_of flat) t.home) index ≡ Some k)
    (is_at : numbered_rule names table k ≡ rule_tree names (numbered_rule names table) rule)
    (e : EmbedsAt (rule_tree names (numbered_rule names table) rule) ns (region_at (heap_of flat) (reading_of names table flat) t.home mi))
    (is : IsMatch flat (reading_of names table flat) t rule left e.contents e.rest) where
  abbrev number : ℕ → tree.Rule
  number = numbered_rule names table

  abbrev R : ℕ
  R = length rule.links

  abbrev head : tree.Level
  head = head_of (rule_tree names (numbered_rule names table) rule)

  abbrev b : LevelMade
  b = level_made flat t left rule.body

  abbrev start : ℕ
  start = t.links + length rule.links

  abbrev ws : List (ℕ × ℕ)
  ws = wire_pairs t.links e.contents.link_of (head_of (rule_tree names (numbered_rule names table) rule)) (length rule.links)

  abbrev made : RawRegion
  made = home_region flat t left (level_made flat t left rule.body) (t.links + length rule.links)

  abbrev reading : HeapReading
  reading = reading_of names table flat

  body : LevelAt flat t names number R e.contents is.below left (level_of names number rule.body) b (level_pairs t rule.body) start
  body = (body_spelt flat t names number R e.contents is.below left rule.body is.fits).spells start (omega arith)

  abbrev wires : List tree.Leaf
  wires = wire_leaves e.contents.link_of (head_of (rule_tree names (numbered_rule names table) rule)) (length rule.links)

  abbrev L : tree.Level
  L = raw_level (region (atoms_at (heap_of flat) reading (left_of t.atoms (atoms_in (heap_of flat) t.home))) (regions_at (heap_of flat) reading (left t.home)) (map number (rules_in (heap_of flat) t.home)))
      wires body.outs body.membranes body.rules

  fires : FiresInOrder (rule_tree names number rule) ns (region_at (heap_of flat) reading t.home mi) L
  fires = record {
    at = e;
    outs = body.outs;
    made_membranes = body.membranes;
    made_rules = body.rules;
    makes = ranged_made e.contents body.makes;
    bound = length rule.links;
    bounded = is.bounded;
    is = ap (λ z. raw_level z wires body.outs body.membranes body.rules) (sym is.rest);
  }

  at_home : FiredAt flat names number t.links R is.below (Accepted (rule_tree names (numbered_rule names table) rule)) index ns t.home mi formed made (ws ++ level_pairs t rule.body) t.home mi
  at_home =
      let u = home_spelt flat names number t.links R is.below (left_of t.atoms (atoms_in (heap_of flat) t.home)) (left t.home) (rules_in (heap_of flat) t.home) wires body.outs body.membranes body.rules
      (b.atoms start) (b.membranes (b.start start) (b.own start)) b.rules ws (level_pairs t rule.body)
      (wires_fused e.contents.link_of head R) (wires_read t.links R e.contents.link_of head is.wired R (omega arith)) body.atoms body.spelt body.are body.pairs in
      let w = taken_at number (rules_in (heap_of flat) t.home) index k at in
      let other = raw (written_atoms flat (Shifted 0) (atoms_in (heap_of flat) t.home)) (fired_regions flat t.home made mi) (rules_in (heap_of flat) t.home) in record {
        path = [];
        leads = stays;
        level = L;
        fires = fires_here (subst (λ z. Taken index z (map number (rules_in (heap_of flat) t.home)) w.0) is_at w.1) fires;
        is = u.0 ∙ ap (λ c. read_region names number (raw_link t.links R) (cond c made other)) (sym (equal_itself t.home));
        pairs = u.1;
        closes = λ a O closed low.
            let S = region_at (heap_of flat) reading t.home mi in
            let from = start - R in
            let end = b.after (b.own start) - R in
            let same : from ≡ t.links = omega arith in
            subst (λ z. Closed (pair (level_process (raw_level z wires body.outs body.membranes body.rules)) (renamed of_solid O))) is.rest
            (ranged_closes (rule_tree names number rule) ns S a e O closed from end R body.outs body.membranes body.rules body.makes (λ z m. low z (omega (arith, m, same))) is.bounded);
      }

  pub whole : Forms (heap_of flat) inner (mems_in (heap_of flat) 0) → Distinct (0 ∷ members inner) → In t.home (0 ∷ members inner) →
      FiredAt flat names number t.links R is.below (Accepted (rule_tree names (numbered_rule names table) rule)) index ns t.home mi formed made (ws ++ level_pairs t rule.body) 0 inner
  whole f d p = root_fires flat names number t.links R is.below (Accepted (rule_tree names (numbered_rule names table) rule)) index ns t.home mi formed made (ws ++ level_pairs t rule.body) at_home 0 inner f d p

module _ (flat : Flat) (names : List Name) (table : List RuleTree) (t : Match) (rule : RuleTree) (left : ℕ → Forest) (inner mi : Forest) (index k : ℕ) (ns : List ℕ)
    (f : Forms (heap_of flat) inner (mems_in (heap_of flat) 0)) (d : Distinct (0 ∷ members inner)) (p : In t.home (0 ∷ members inner))
    (formed : Forms (heap_of flat) mi (mems_in (heap_of flat) t.home)) (at : slice_get (rules_in (heap_of flat) t.home) index ≡ Some k)
    (is_at : numbered_rule names table k ≡ rule_tree names (numbered_rule names table) rule)
    (e : EmbedsAt (rule_tree names (numbered_rule names table) rule) ns (region_at (heap_of flat) (reading_of names table flat) t.home mi))
    (is : IsMatch flat (reading_of names table flat) t rule left e.contents e.rest)
    (pairs : List (ℕ × ℕ)) (joined : pairs ≡ wire_pairs t.links e.contents.link_of (head_of (rule_tree names (numbered_rule names table) rule)) (length rule.links) ++ level_pairs t rule.body) where
  -- it writes a raw level, which is closed where the rule is accepted and the region is closed
  pub made_is_written : (L : tree.Level) × (path : List ℕ) × Leads (heap_of flat) t.home path 0 × RawAt path index ns (region_at (heap_of flat) (reading_of names table flat) 0 inner) L
      × Writes names table L (fired_region flat t.home (home_region flat t left (level_made flat t left rule.body) (t.links + length rule.links)) 0 inner) pairs
      × (Accepted (rule_tree names (numbered_rule names table) rule) → Closed (region_process (region_at (heap_of flat) (reading_of names table flat) 0 inner)) → Closed (level_process L))
  made_is_written =
      let F = t.links in
      let R = length rule.links in
      let u = whole flat names table t rule left inner mi index k ns formed at is_at e is f d p in (
        u.level,
        u.path,
        u.leads,
        u.fires,
        record {
          from = raw_link F R;
          to = number_of F R;
          back = found_again F R;
          level = settled_read names (numbered_rule names table) (raw_link F R) (fired_region flat t.home (home_region flat t left (level_made flat t left rule.body) (t.links + length rule.links)) 0 inner) ∙ sym u.is;
          joins = u.pairs ∙ ap (map (mapped_pair (raw_link F R))) (sym joined);
        },
        (λ a closed.
            let h = heap_of flat in
            let reading = reading_of names table flat in
            let P = region_process (region_at h reading 0 inner) in
            let alone : (z : ℕ) → occurrences z P ≡ occurrences z (pair P nothing) = λ z. omega arith in
            let none : (z : ℕ) → t.links ≤ z → occurrences z P ≡ 0 = λ z m. region_none h reading t.links is.below z m (atoms_in h 0) inner (map reading.rule (rules_in h 0)) in
            closed_as (pair (level_process u.level) nothing) (level_process u.level) (λ z. omega arith)
            (u.closes a nothing (closed_as P (pair P nothing) alone closed) (λ z m. omega (arith, none z m)))),
      )
