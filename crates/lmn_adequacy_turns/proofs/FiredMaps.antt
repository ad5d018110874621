-- The map of raw links after a firing, with the links inside copies, and what the firing says by it.
use Rattle.std.proofs.Common.{ℕ, ◌≡◌, ◌+◌, ◌<◌, ◌≤◌, List, ◌++◌, length, sym, ap, ◌∙◌, arith}
use Rattle.lmn_base.specs.declared.solid.SolidAtom.{SolidAtom}
use Rattle.lmn_store_heap.specs.Heap.{Heap, IsMem, atoms_in}
use Rattle.lmn_store_heap.specs.Lists.{without_all}
use Rattle.lmn_store_heap.specs.Solid.{solid_atoms_at}
use Rattle.lmn_congruence.specs.Regions as region
use Rattle.lmn_solid_heads.specs.declared.items.HeadItem.{HeadItem}
use Rattle.lmn_solid_heads.specs.Heads.{atoms_of as atoms_of_head}
use Rattle.lmn_congruence_splice.specs.Splice as splice
use Rattle.lmn_solid_bodies.specs.declared.items.BodyItem.{BodyItem}
use Rattle.lmn_solid_bodies.specs.Items.{connectors}
use Rattle.lmn_solid_bodies.specs.Made.{copies_of}
use Rattle.lmn_solid_bodies.specs.Running.{Registers}
use Rattle.lmn_solid_bodies.specs.Within.{FiresWithin, FiredSolid, added_with_copies, left_solid, rest_solid}
use Rattle.lmn_solid_bodies.specs.CopiedSolid.{AreSolidRests}
use Rattle.lmn_adequacy_heaps.specs.HeapRegions.{HeapReading}
use Rattle.lmn_adequacy_turns.proofs.Adders.{EachRest, closed_past}
use Rattle.lmn_adequacy_turns.proofs.RestMaps.{RestKnown, rest_maps, rests_known}
use Rattle.lmn_adequacy_turns.proofs.CopyLinks.{over, over_rule, over_solid}
use Rattle.lmn_adequacy_turns.proofs.CopyMaps.{CopyData, Copies, all_maps, chosen, KnownBy, each_known, raw_part}
use Rattle.lmn_adequacy_turns.proofs.EachCopy.{EachCopy}
use Rattle.lmn_adequacy_turns.proofs.LinksBelow.{links_limit}
use Rattle.lmn_adequacy_turns.proofs.LinksKept.{left_same}
use Rattle.lmn_adequacy_turns.proofs.Turns.{FiredTo}
use Rattle.lmn_congruence_splice.specs.Splice.{of_rule, of_solid}
use Rattle.lmn_base.specs.Lists.{In}

-- All membranes are among ms, and the links of their atoms are below the limit.
module _ (h h' : Heap) (r : HeapReading) (s : Registers) (head : List HeadItem) (body : List BodyItem) (taken : List ℕ) (f : FiresWithin h (λ p. r.name p.0 p.1) s head body taken h')
    (solid : FiredSolid h (λ p. r.name p.0 p.1) s head body taken h' f) (copies : Copies h h' (λ p. r.name p.0 p.1) f.number s (λ z. f.to (of_rule z)) (copies_of 0 body))
    (rests : AreSolidRests h (λ p. r.name p.0 p.1) h' f.number (λ k. without_all taken (atoms_in h k)) s f.rests body) (ms : List ℕ) (all : (x : ℕ) → IsMem h x → In x ms) (limit : ℕ) (above : links_limit h r ms ≤ limit) where
  -- the copies of the body by their numbers
  abbrev pub data_of : ℕ → CopyData
  data_of = chosen h h' (λ p. r.name p.0 p.1) f.number s (λ z. f.to (of_rule z)) (copies_of 0 body) copies

  -- where the links of the copies of rests go
  abbrev pub rests_of : ℕ → ℕ → ℕ
  rests_of = rest_maps h h' (λ p. r.name p.0 p.1) f.number (λ k. without_all taken (atoms_in h k)) s f.rests f.rests body rests

  -- a number above those of all copies
  abbrev pub count : ℕ
  count = of_solid (length (copies_of 0 body) + closed_past 0 body)

  -- the map of the firing, with the links inside each copy at those of the heap's copy
  abbrev pub map_of : ℕ → ℕ
  map_of = over f.to limit count (all_maps data_of rests_of)

  -- the atoms of each copy after the firing, and those of the raw level at a link of the rule
  abbrev pub copy_of : ℕ → List SolidAtom
  copy_of k = solid_atoms_at h' (λ a i. f.number (a, i)) (s.copied k)

  abbrev pub part_of : ℕ → ℕ → List region.SolidAtom
  part_of k x = raw_part h r limit (data_of k) (of_rule k) x

  -- it is the firing's map at links of the rule and of the solid
  pub map_rule : (x : ℕ) → map_of (of_rule x) ≡ f.to (of_rule x)
  map_rule = over_rule f.to limit count (all_maps data_of rests_of)

  pub map_solid : (y : ℕ) → y < limit → map_of (of_solid y) ≡ f.to (of_solid y)
  map_solid = over_solid f.to limit count (all_maps data_of rests_of)

  -- so it fuses the connectors of the body,
  pub map_joins : (d : ℕ × ℕ) → splice.IsOneOf d (connectors body) → map_of (of_rule d.0) ≡ map_of (of_rule d.1)
  map_joins d i = map_rule d.0 ∙ f.connectors_fused d i ∙ sym (map_rule d.1)

  left_is : left_solid h (λ p. r.name p.0 p.1) taken (λ z. f.to (of_solid z)) ≡ left_solid h (λ p. r.name p.0 p.1) taken (λ z. map_of (of_solid z))
  left_is = λ i x. left_same h r ms all taken (λ z. f.to (of_solid z)) (λ z. map_of (of_solid z)) (λ y l. sym (map_solid y (omega (arith, l, above)))) x i

  rule_is : ◌≡◌ {A = ℕ → ℕ} (λ z. f.to (of_rule z)) (λ z. map_of (of_rule z))
  rule_is = λ i z. sym (map_rule z) i

  -- and by it the atoms of each membrane are what is left and what is added
  pub map_fired : FiredTo h (λ p. r.name p.0 p.1) s f.rests head body taken h' (λ a i. f.number (a, i)) map_of copy_of
  map_fired x o = solid x o ∙ (λ i. left_is i x ++ added_with_copies s f.rests (left_is i) copy_of (rest_solid h' f.number s (λ k. without_all taken (atoms_in h k))) (rule_is i) 0 body x)

  -- what is known of each copy
  abbrev pub Known : ℕ → ℕ → ℕ → Type 0
  Known k p x = KnownBy h h' (λ q. r.name q.0 q.1) f.number s (λ z. f.to (of_rule z)) count (data_of k) k p x

  pub copies_known : EachCopy Known 0 body
  copies_known =
      each_known h h' (λ q. r.name q.0 q.1) f.number s (λ z. f.to (of_rule z)) count (length (copies_of 0 body)) (omega arith) data_of body (length (atoms_of_head head)) 0 copies f.made_links
      (λ j. let z : 0 + j ≡ j = omega arith in ap data_of z) (omega arith)

  pub rests_are_known : EachRest (RestKnown h h' (λ p. r.name p.0 p.1) f.number (λ k. without_all taken (atoms_in h k)) s f.rests rests_of count) 0 body
  rests_are_known =
      rests_known h h' (λ p. r.name p.0 p.1) f.number (λ k. without_all taken (atoms_in h k)) s f.rests count (closed_past 0 body) (omega arith) rests_of 0 body rests
      (λ j. let z : 0 + j ≡ j = omega arith in ap rests_of z) (omega arith)
