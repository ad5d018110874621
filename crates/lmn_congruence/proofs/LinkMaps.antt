-- Maps of links that read a process, and processes without connectors.
use Rattle.std.proofs.Common.{ℕ, ◌≡◌, ◌≢◌, ◌+◌, ◌≤◌, ◌⊎◌, List, [], ◌∷◌, map, refl, sym, ◌∙◌, ap, inl, inr, arith}
use Rattle.lmn_congruence.specs.Links.{one_if_same, places}
use Rattle.lmn_congruence.specs.Process.{Process, nothing, connector, atom, pair, membrane, rule, occurrences, Free, Local, Fresh, Linked, Closed, renamed, OneToOneOn}
use Rattle.lmn_congruence.specs.Congruence.{Congruent}
use Rattle.lmn_congruence.specs.Fused.{NoConnector, Joins, fused}
use Rattle.lmn_congruence.specs.UpToOrder.{Reordered, r_same, r_back, r_chain}
use Rattle.lmn_congruence.specs.LinkMaps.{ReadsByMap}
use Rattle.lmn_congruence.specs.Laws.{BothSidesLinked, SameFreeLinks}
use Rattle.lmn_congruence.proofs.Counts.{one_if_equal, none_if_apart, same_free, linked_both, Occurs}
use Rattle.lmn_congruence.proofs.Crossings.{same_crossings}
use Rattle.lmn_congruence.proofs.Reordered.{reordered_crossings}
use Rattle.lmn_congruence.proofs.Carried.{congruence_carries}
use Rattle.lmn_congruence.proofs.Renaming.{rename_all, renamed_id}
use Rattle.lmn_congruence.proofs.FewestCrossings.{same_crossings_each}
use Rattle.lmn_base.proofs.Numbers.{same_or_not, not_one_if_even}

-- ---- processes without connectors

-- where no connector stands every map joins them all
pub joins_plain : (v : ℕ → ℕ) (P : Process) → NoConnector P → Joins v P
joins_plain v nothing n = tt
joins_plain v (connector x y) n = absurd n
joins_plain v (atom a xs) n = tt
joins_plain v (pair P Q) n = (joins_plain v P n.0, joins_plain v Q n.1)
joins_plain v (membrane P) n = joins_plain v P n
joins_plain v (rule r) n = tt

-- where no connector stands fusing is renaming
pub fused_is_renamed : (v : ℕ → ℕ) (P : Process) → NoConnector P → fused v P ≡ renamed v P
fused_is_renamed v nothing n = refl
fused_is_renamed v (connector x y) n = absurd n
fused_is_renamed v (atom a xs) n = refl
fused_is_renamed v (pair P Q) n = cc (fused_is_renamed v P n.0, fused_is_renamed v Q n.1)
fused_is_renamed v (membrane P) n = cc (fused_is_renamed v P n)
fused_is_renamed v (rule r) n = refl

-- where no connector stands the map that changes nothing fuses nothing
pub fused_id : (P : Process) → NoConnector P → fused (λ x. x) P ≡ P
fused_id P n = fused_is_renamed (λ x. x) P n ∙ renamed_id P

-- in a fused process no connector stands
pub fused_plain : (v : ℕ → ℕ) (P : Process) → NoConnector (fused v P)
fused_plain v nothing = tt
fused_plain v (connector x y) = tt
fused_plain v (atom a xs) = tt
fused_plain v (pair P Q) = (fused_plain v P, fused_plain v Q)
fused_plain v (membrane P) = fused_plain v P
fused_plain v (rule r) = tt

-- a process that is congruent to one without connectors is read as this
pub congruent_reads : (P N : Process) → NoConnector N → Congruent P N → ReadsByMap P N
congruent_reads P N n c =
    let i = (congruence_carries c).1 (λ x. x) (joins_plain (λ x. x) N n) in
    let o : Reordered (fused i.to P) N = r_chain (r_back i.order) (r_same (fused_id N n)) in
    record {
      to = i.to;
      leaves = λ x f. i.agrees x ((same_free c x).there f);
      joins = i.joins;
      order = o;
      crossings = same_crossings_each i.to P i.joins (linked_both c).0 (reordered_crossings o ∙ sym (same_crossings c));
    }

-- ---- maps that leave the free links

-- the map leaves the free links of the process as they are
abbrev pub Leaves : (ℕ → ℕ) → Process → Type 0
Leaves v P = (x : ℕ) → Free x P → v x ≡ x

-- a closed process is linked
pub closed_linked : {P : Process} → Closed P → Linked P
closed_linked {P = P} c = record { at_most_twice = λ z. go z (c z) }
  where
    go : (z : ℕ) → Fresh z P ⊎ Local z P → occurrences z P ≤ 2
    go z (inl e) = omega arith
    go z (inr e) = omega arith

-- every map leaves the free links of a closed process, since there are none
pub closed_leaves : (v : ℕ → ℕ) (P : Process) → Closed P → Leaves v P
closed_leaves v P c = λ x f. absurd (not_one_if_even (occurrences x P) (c x) f)

-- two links that go to one: their places add up there
two_places : (v : ℕ → ℕ) (x y z : ℕ) → x ≢ y → v x ≡ v y → one_if_same x z + one_if_same y z ≤ one_if_same (v x) (v z)
two_places v x y z d e = go (same_or_not x z) (same_or_not y z)
  where
    go : (x ≡ z) ⊎ (x ≢ z) → (y ≡ z) ⊎ (y ≢ z) → one_if_same x z + one_if_same y z ≤ one_if_same (v x) (v z)
    go (inl p) (inl q) = absurd (d (p ∙ sym q))
    go (inl p) (inr q) = omega (arith, one_if_equal x z p, none_if_apart y z q, one_if_equal (v x) (v z) (ap v p))
    go (inr p) (inl q) = omega (arith, none_if_apart x z p, one_if_equal y z q, one_if_equal (v x) (v z) (e ∙ ap v q))
    go (inr p) (inr q) = omega (arith, none_if_apart x z p, none_if_apart y z q)

two_in_list : (v : ℕ → ℕ) (x y : ℕ) (zs : List ℕ) → x ≢ y → v x ≡ v y → places x zs + places y zs ≤ places (v x) (map v zs)
two_in_list v x y [] d e = omega arith
two_in_list v x y (z ∷ zs) d e = omega (arith, two_places v x y z d e, two_in_list v x y zs d e)

-- the one image of two links occurs as often as both together, or more often
pub two_occurrences : (v : ℕ → ℕ) (x y : ℕ) (P : Process) → x ≢ y → v x ≡ v y → occurrences x P + occurrences y P ≤ occurrences (v x) (renamed v P)
two_occurrences v x y nothing d e = omega arith
two_occurrences v x y (connector z z') d e = omega (arith, two_places v x y z d e, two_places v x y z' d e)
two_occurrences v x y (atom a zs) d e = two_in_list v x y zs d e
two_occurrences v x y (pair P Q) d e = omega (arith, two_occurrences v x y P d e, two_occurrences v x y Q d e)
two_occurrences v x y (membrane P) d e = two_occurrences v x y P d e
two_occurrences v x y (rule r) d e = omega arith

both_free : (m n k : ℕ) → m ≢ 0 → n ≢ 0 → m + n ≤ k → k ≤ 2 → (m ≡ 1) × (n ≡ 1)
both_free m n k p q l l' = (omega arith, omega arith)

-- such a map is one to one where its image is linked
pub one_to_one : (v : ℕ → ℕ) (P : Process) → Leaves v P → Linked (renamed v P) → OneToOneOn v P
one_to_one v P s l = λ x y o o' e. go x y o o' e (same_or_not x y)
  where
    go : (x y : ℕ) → Occurs x P → Occurs y P → v x ≡ v y → (x ≡ y) ⊎ (x ≢ y) → x ≡ y
    go x y o o' e (inl p) = p
    go x y o o' e (inr d) =
        let b = both_free (occurrences x P) (occurrences y P) (occurrences (v x) (renamed v P)) o o' (two_occurrences v x y P d e) (l.at_most_twice (v x)) in
        sym (s x b.0) ∙ e ∙ s y b.1

-- a map that leaves the free links takes a process without connectors to a congruent one, where that is linked
pub plain_congruent : (v : ℕ → ℕ) (P : Process) → NoConnector P → Linked P → Leaves v P → Linked (fused v P) → Congruent P (fused v P)
plain_congruent v P n l s k =
    let e = fused_is_renamed v P n in
    rw e (rename_all v P l (one_to_one v P s (rw (← e) k)) s)

-- ---- the laws of congruence alone

-- both sides of a congruence are linked
pub both_sides_linked : BothSidesLinked
both_sides_linked P Q c = linked_both c

-- and have the same free links
pub same_free_links : SameFreeLinks
same_free_links P Q c x = let i = same_free c x in (i.there, i.back_again)
