-- The law: what a firing makes spells a raw level of the calculus.
use Rattle.std.proofs.Common.{ℕ, ◌≡◌, ◌≢◌, ◌+◌, ◌<◌, ◌≤◌, List, [], ◌∷◌, ◌++◌, Some, length, sym, subst, arith}
use Rattle.std.specs.List.{AllByRecursion}
use Rattle.std.proofs.lemmas.List.Elements.{All-from_recursion, recursion_from_All}
use Rattle.std.specs.Prelude.{flat_map}
use Rattle.lmn_base.proofs.Lists.{all_left}
use Rattle.lmn_base.specs.Levels.{contexts_of, leaves_of, rule_contexts_of, rules_of}
use Rattle.lmn_base.specs.Names.{context_names, label_names, leaf_names, level_names}
use Rattle.lmn_base.specs.declared.functor.Functor.{Functor}
use Rattle.lmn_base.specs.Solids.{connector}
use Rattle.lmn_base.specs.declared.level.Leaf.{Leaf}
use Rattle.lmn_base.specs.declared.level.Leaf.TheVariants as leaf
use Rattle.lmn_congruence_classes.specs.Tables.{PairsBelow}
use Rattle.lmn_congruence.specs.Rules.{head_of}
use Rattle.lmn_congruence.specs.Translation.{numbered_rule, rule_tree}
use Rattle.lmn_adequacy.specs.Embedding.{Contents}
use Rattle.lmn_adequacy_heaps.specs.HeapRegions.{HeapReading}
use Rattle.lmn_store_heap.specs.Heap.{Heap, HeapAtom}
use Rattle.lmn_solid_tables.specs.Flats.{heap_of}
use Rattle.lmn_solid_settle.specs.Raw.{raw_atoms, raw_links}
use Rattle.lmn_solid_firing.specs.declared.match_.Match.{Match}
use Rattle.lmn_solid_firing.specs.Laws.{FiringsAreSpelled}
use Rattle.lmn_solid_firing.specs.Making.{fired_region, home_region, level_made, level_pairs}
use Rattle.lmn_solid_firing.specs.Meant.{LeafFits, wire_pairs}
use Rattle.lmn_solid_firing.proofs.Fine.{Fine}
use Rattle.lmn_solid_firing.proofs.FineLevels.{HasLinks, body_is_fine, body_is_paired, fine_long, fine_low, fine_other, home_fine, pairs_both, region_fine, wires_low}
use Rattle.lmn_solid_firing.proofs.FiringLaw.{made_is_written}
use Rattle.lmn_solid_firing.proofs.Known.{LeafKnown, atoms_named, body_known, home_known, leaves_named, whole_known}
use Rattle.lmn_solid_firing.proofs.MadeLevels.{body_spelt}
use Rattle.lmn_solid_firing.specs.Spelled.{raw_rules}

has_links : (h : Heap) (r : HeapReading) (t : Match) (c : Contents) (R : ℕ) (ls : List Leaf) → AllByRecursion (LeafFits h r t c R) ls → AllByRecursion (HasLinks R) ls
has_links h r t c R [] f = tt
has_links h r t c R (leaf.Atom g os pos ∷ ls) f = (f.0, has_links h r t c R ls f.1)
has_links h r t c R (leaf.Typed name o pos ∷ ls) f = (f.0.0, has_links h r t c R ls f.1)

any_leaf : (ls : List Leaf) → AllByRecursion (LeafKnown (λ f. Unit {0})) ls
any_leaf [] = tt
any_leaf (leaf.Atom g os pos ∷ ls) = (tt, any_leaf ls)
any_leaf (leaf.Typed name o pos ∷ ls) = (tt, any_leaf ls)

any_rule : (ks : List ℕ) → AllByRecursion (λ k. Unit {0}) ks
any_rule [] = tt
any_rule (k ∷ ks) = (tt, any_rule ks)

pub firings_are_spelled : FiringsAreSpelled
firings_are_spelled flat names table t rule left inner mi index k ns valid f d p formed at is_at e is rows pairs links m =
    let number = numbered_rule names table in
    let R = length rule.links in
    let start = t.links + length rule.links in
    let b = level_made flat t left rule.body in
    let N = b.after (b.own start) in
    let w = made_is_written flat names table t rule left inner mi index k ns f d p formed at is_at e is pairs m.connectors in
    let head = head_of (rule_tree names number rule) in
    let ws = wire_pairs t.links e.contents.link_of head R in
    let enough : start ≤ N = (body_spelt flat t names number R e.contents is.below left rule.body is.fits).grows start in
    let has : AllByRecursion (HasLinks R) (leaves_of rule.body) = has_links _ _ t e.contents R (leaves_of rule.body) is.fits.leaves_fit in
    let made = home_region flat t left b start in
    let r = fired_region flat t.home made 0 inner in
    let fine : AllByRecursion (Fine N) (raw_atoms r) =
    region_fine flat valid t left R N is.below enough t.home made (home_fine flat valid t left R N is.below enough b start (body_is_fine flat valid t left R N is.below enough rule.body has) (omega arith)) 0 inner in
    let low : PairsBelow N (ws ++ level_pairs t rule.body) =
    pairs_both flat valid t left R N is.below enough ws (level_pairs t rule.body) (wires_low t.links R N e.contents.link_of head enough is.wired R (omega arith)) (body_is_paired flat valid t left R N is.below enough rule.body has) in
    let u = w.4 in (
      r,
      w.0,
      w.1,
      m.membranes,
      w.2,
      w.3,
      record {
        from = u.from;
        to = u.to;
        back = u.back;
        level = u.level;
        joins = u.joins;
        arities = All-from_recursion (λ a. length a.links ≡ a.functor.arity) (raw_atoms r) (fine_long N (raw_atoms r) fine);
        no_connector = All-from_recursion (λ a. a.functor ≢ connector) (raw_atoms r) (fine_other N (raw_atoms r) fine);
        links_below = All-from_recursion (λ x. x < links) (raw_links r) (subst (λ z. AllByRecursion (λ x. x < z) (raw_links r)) (sym m.bound) (fine_low N (raw_atoms r) fine));
        pairs_below = subst (λ z. PairsBelow links z) (sym m.connectors) (subst (λ z. PairsBelow z (ws ++ level_pairs t rule.body)) (sym m.bound) low);
      },
      w.5,
      (λ n g.
          let known = body_known (λ k. k < n) (λ f. Unit {0}) flat t left g.0 (λ a x q. tt) (λ z. tt) rule.body (any_leaf (leaves_of rule.body)) (recursion_from_All (λ k. k < n) (rules_of rule.body) g.1) in
          let all = whole_known (λ k. k < n) (λ f. Unit {0}) flat t left g.0 (λ a x q. tt) (λ z. tt) t.home made (home_known (λ k. k < n) (λ f. Unit {0}) flat t left g.0 (λ a x q. tt) (λ z. tt) b start known) 0 inner in
          All-from_recursion (λ k. k < n) (raw_rules r) all.1),
      (λ g.
          let N : ℕ → Type 0 = λ k. k < length names in
          let Q : Functor → Type 0 = λ f. AllByRecursion (λ k. k < length names) (label_names f.label) in
          let there : (a : ℕ) (x : HeapAtom) → (heap_of flat).atoms a ≡ Some x → AllByRecursion (λ k. k < length names) (label_names x.functor.label) = λ a x q. recursion_from_All (λ k. k < length names) (label_names x.functor.label) (g.0 a x q) in
          let leaves = flat_map leaf_names (leaves_of rule.body) in
          let of_body = recursion_from_All N (level_names rule.body) g.1 in
          let named = leaves_named N (leaves_of rule.body) (all_left N leaves (context_names (contexts_of rule.body)) (all_left N (leaves ++ context_names (contexts_of rule.body)) (context_names (rule_contexts_of rule.body)) of_body)) in
          let known = body_known (λ k. Unit {0}) Q flat t left (λ m k q. tt) there (λ z. tt) rule.body named (any_rule (rules_of rule.body)) in
          let all = whole_known (λ k. Unit {0}) Q flat t left (λ m k q. tt) there (λ z. tt) t.home made (home_known (λ k. Unit {0}) Q flat t left (λ m k q. tt) there (λ z. tt) b start known) 0 inner in
          All-from_recursion N (flat_map (λ a. label_names a.functor.label) (raw_atoms r)) (atoms_named N (raw_atoms r) all.0)),
    )
