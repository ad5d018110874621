-- One membrane of a line is freed.
use Rattle.std.proofs.Common.{◌≡◌, ◌≢◌, ℕ, zero, suc, ◌+◌, ◌-◌, ◌<◌, ◌≤◌, List, [], ◌∷◌, length, Option, Some, None, IsSome, refl, sym, ap, subst, ◌∙◌, inl, inr, arith}
use Rattle.std.proofs.lemmas.List.{get_or_past, get_or-set_other}
use Rattle.std.specs.Prelude.{slice_index_or, slice_set, unwrap_or}
use Rattle.std.proofs.lemmas.Bool.{cases_eq, eq-eqb}
use Rattle.std.specs.Option.{option_map}
use Rattle.lmn_store_heap.specs.Heap.{HeapMem}
use Rattle.lmn_store_heap.specs.Lists.{without, after, from}
use Rattle.lmn_store_counts.specs.RuleLists.{RuleList}
use Rattle.lmn_store_counts.specs.Counts.{with_rules}
use Rattle.lmn_store_counts.proofs.CensusLemmas.{census_less}
use Rattle.lmn_web.specs.declared.kind.CellKind.{CellKind}
use Rattle.lmn_web.specs.declared.kind.CellKind.TheVariants.{Atom, Membrane}
use Rattle.lmn_web.specs.Webs as web
use Rattle.lmn_web_merging.specs.Keepers.{port_mark}
use Rattle.lmn_web.specs.Webs.{WebCell, kind_at, home_at, partner_at, cells_in, web_label, StandOnce}
use Rattle.lmn_store_web.specs.Frees.{Drops, CanFree, Frees}
use Rattle.lmn_store_web.specs.WebHeaps.{Posts, no_rules, mem_by, mems_of}
use Rattle.lmn_store_web.specs.WebStores.{HasRules}
use Rattle.lmn_web_merging.proofs.Sending.{kind_there}
use Rattle.lmn_store_web.proofs.ReadLemmas.{mems_are, mem_is}
use Rattle.lmn_store_web.proofs.PlaceLemmas.{first_is}
use Rattle.lmn_store_web.proofs.FreeLemmas.{list_rest, other_rest, mem_freed, dropped_frees}
use Rattle.lmn_store_web.proofs.TableLemmas.{atoms_none}

-- without its first a list is shorter
pub shorter : (x : ℕ) (us : List ℕ) → from (Some x) us ≡ us → length (without x us) < length us
shorter x us e = by us (after x us) e
  where
    by : (us rest : List ℕ) → x ∷ rest ≡ us → length (without x us) < length us
    by us rest e = subst (λ ys. length (without x ys) < length ys) e (rw (eq-eqb x x refl) (omega arith))

set_same : (xs : List (Option RuleList)) (k : ℕ) → slice_index_or (slice_set xs k None) k None ≡ None
set_same [] k = refl
set_same (x ∷ xs) zero = refl
set_same (x ∷ xs) (suc k) = set_same xs k

module _ (p : Posts) (l : ℕ) (t : List (Option RuleList)) (w : ℕ → Option WebCell) (n m s : ℕ) (c : CanFree p l t w n m s) where
  -- the line is a membrane of the web
  pub line_kind : kind_at w l ≡ Membrane
  line_kind = elim c.line [ inl e ↦ ap (kind_at w) e ∙ c.stored.waiting | inr e ↦ ap (kind_at w) e ∙ c.stored.gone ]

  -- that never had a keeper,
  pub line_plain : port_mark w l ≡ 0
  line_plain = c.stored.plain l line_kind (elim c.line [ inl e ↦ inl e | inr e ↦ inr (inl e) ])

  -- so it is there
  pub line_is : IsSome (w l)
  line_is = kind_there (w l) line_kind

  -- A membrane
  module _ (o : StandOnce w) (x : ℕ) (first : from (Some x) (cells_in w l Membrane) ≡ cells_in w l Membrane) where
    -- the first membrane of the line stands in it
    pub mem_home : home_at w x ≡ Some l
    mem_home = (first_is w o l x Membrane first).0

    mem_kind : kind_at w x ≡ Membrane
    mem_kind = (first_is w o l x Membrane first).1

    x_is : IsSome (w x)
    x_is = kind_there (w x) mem_kind

    no_waiting : x ≢ p.waiting
    no_waiting e = let z : Some l ≡ None = sym mem_home ∙ (c.stored.homeless x x_is).1 (inr (inl e)) in absurd (cc)

    no_gone : x ≢ p.gone
    no_gone e = let z : Some l ≡ None = sym mem_home ∙ (c.stored.homeless x x_is).1 (inr (inr e)) in absurd (cc)

    -- it has rules
    pub mem_rules : (i : ℕ) × HasRules t w x i
    mem_rules = c.stored.rules x mem_kind no_waiting no_gone

    -- no partner
    pub mem_alone : (i : ℕ) → partner_at w x i ≡ None
    mem_alone i = get_or_past (web.partners_of (w x)) i None (let z = c.stored.portless x mem_kind in omega (arith, z))

    -- and nothing stands in it
    pub mem_empty : (k : CellKind) → cells_in w x k ≡ []
    mem_empty k = c.empty x k mem_home

    module _ (key : ℕ) (label : web_label w x ≡ Some key) where
      -- its rules are in the table
      pub key_there : IsSome (slice_index_or t key None)
      key_there = let r = mem_rules in let z : Some r.0 ≡ Some key = sym r.1.0 ∙ label in let q : r.0 ≡ key = (cc) in subst (λ i. IsSome (slice_index_or t i None)) q r.1.1

      module _ (row : RuleList) (value : slice_index_or t key None ≡ Some row) where
        mem_item : (b : HeapMem) × (mems_of p t w x ≡ Some b) × (length b.rules ≡ length row.numbers) × (b.spare ≡ row.spare)
        mem_item = by (w x) refl x_is label
          where
            by : (q : Option WebCell) → w x ≡ q → IsSome q → option_map (λ (d : WebCell). d.label) q ≡ Some key → (b : HeapMem) × (mems_of p t w x ≡ Some b) × (length b.rules ≡ length row.numbers) × (b.spare ≡ row.spare)
            by None e i f = absurd (cc)
            by (Some d) e i f =
                let same : d.label ≡ key = (cc) in
                let at : unwrap_or (slice_index_or t d.label None) no_rules ≡ row = ap (λ k. unwrap_or (slice_index_or t k None) no_rules) same ∙ ap (λ (r : Option RuleList). unwrap_or r no_rules) value in
                (mem_by p t d, mems_are p t w x mem_kind no_waiting no_gone ∙ ap (option_map (mem_by p t)) e, ap (λ (r : RuleList). length r.numbers) at, ap (λ (r : RuleList). r.spare) at)

        -- it and its rules are counted
        pub mem_counted : length row.numbers + 1 ≤ m
        mem_counted = let b = mem_item in let z = b.2 in let y = census_less with_rules (mems_of p t w) m x b.0 b.1 c.counts.mem_census in omega (arith, z, y)

        -- and its spare
        pub spare_counted : row.spare ≤ s
        spare_counted = let b = mem_item in let z = b.3 in let y = census_less (λ (x : HeapMem). x.spare) (mems_of p t w) s x b.0 b.1 c.counts.spare_census in omega (arith, z, y)

        module _ (v : ℕ → Option WebCell) (g : List (Option RuleList)) (e : g ≡ slice_set t key None) (d : Drops w v l x) (strange : (a i b j : ℕ) → partner_at w a i ≡ Some (b, j) → b ≢ x) where
          rows : (y i : ℕ) → y ≢ x → IsSome (mems_of p t w y) → web_label w y ≡ Some i → slice_index_or g i None ≡ slice_index_or t i None
          rows y i q r f = ap (λ (h : List (Option RuleList)). slice_index_or h i None) e ∙ get_or-set_other t key i None None (λ z. q (c.stored.own_rules y x key r (mem_is p t w x mem_kind no_waiting no_gone x_is) (f ∙ ap Some z) label))

          row_left : (i : ℕ) → IsSome (slice_index_or g i None) → IsSome (slice_index_or t i None) × (kind_at w x ≡ Membrane → web_label w x ≡ Some i → ⊥)
          row_left i q = elim (cases_eq i key) [
            | inl z ↦ absurd (let h : IsSome {T = RuleList} None = subst (λ (r : Option RuleList). IsSome r) (ap (λ (h : List (Option RuleList)). slice_index_or h i None) e ∙ ap (λ k. slice_index_or (slice_set t key None) k None) z ∙ set_same t key) q in cc)
            | inr z ↦ (subst (λ (r : Option RuleList). IsSome r) (ap (λ (h : List (Option RuleList)). slice_index_or h i None) e ∙ get_or-set_other t key i None None z) q, λ _ f. z (let h : Some i ≡ Some key = sym f ∙ label in cc))
          ]

          -- what is left when it is freed
          pub mem_step : (a b : ℕ) → a ≡ m - 1 - length row.numbers → b ≡ s - row.spare → CanFree p l g v n a b × Frees p l t w g v
          mem_step a b ea eb =
              let i = mem_item in let i2 = i.2 in let i3 = i.3 in
              let m1 : m - with_rules i.0 ≡ a = omega (arith, ea, i2) in let s1 : s - i.0.spare ≡ b = omega (arith, eb, i3) in (
                subst (λ k. CanFree p l g v n a k) s1 (subst (λ k. CanFree p l g v n k (s - i.0.spare)) m1 (mem_freed w v l x d p t g n m s c mem_home strange rows row_left i.0 i.1 (atoms_none p w x mem_kind))),
                dropped_frees w v l x d p t g n m s c mem_home strange rows row_left,
              )

          -- the line is shorter then
          pub mem_fewer : length (cells_in v l Membrane) < length (cells_in w l Membrane)
          mem_fewer =
              let list : cells_in v l Membrane ≡ without x (cells_in w l Membrane) = subst (λ k. cells_in v l k ≡ without x (cells_in w l k)) mem_kind (list_rest w v l x d line_is) in
              subst (λ us. length us < length (cells_in w l Membrane)) (sym list) (shorter x (cells_in w l Membrane) first)

          -- and its atoms are as they were
          pub atoms_left : cells_in v l Atom ≡ cells_in w l Atom
          atoms_left = other_rest w v l x d Atom (λ e. let z : Atom ≡ Membrane = e ∙ mem_kind in absurd (cc))
