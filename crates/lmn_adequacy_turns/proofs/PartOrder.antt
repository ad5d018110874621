-- The atoms of a part, in the order of a walk on the heap, are listed depth first by their links.
use Rattle.std.proofs.Common.{ℕ, zero, suc, ◌≡◌, ◌≢◌, ◌⊎◌, ◌+◌, ◌<◌, ◌==◌, ◌&&◌, Bool, true, false, cond, List, [], ◌∷◌, ◌++◌, map, Option, Some, None, IsSome, refl, sym, ap, subst, ◌∙◌, inl, inr, arith}
use Rattle.std.proofs.lemmas.Bool.{eq-eqb, eqb-true}
use Rattle.std.proofs.lemmas.List.{append-nil, append_assoc}
use Rattle.std.proofs.lemmas.Option.{same_Some}
use Rattle.std.specs.Option.{option_and_then}
use Rattle.lmn_store_heap.specs.Heap.{Heap, HeapAtom, IsAtom, arity_of, functor_of, link_of}
use Rattle.lmn_store_heap.specs.Lists.{Distinct}
use Rattle.lmn_store_heap.proofs.ListLemmas.{each_of, in_left}
use Rattle.lmn_store_heap.proofs.Listing.{distinct_snoc}
use Rattle.lmn_ground_parts.specs.Walks.{HasPort, Walk, ends, passes, finds, port_range, is_port, net, neighbour, kept}
use Rattle.lmn_ground_parts.proofs.WalkLaws.{kept_seen, in_last, by_port, ports_named}
use Rattle.lmn_congruence.specs.Links.{one_if_same, places}
use Rattle.lmn_congruence.specs.Orders.{Among}
use Rattle.lmn_congruence.specs.Regions.{SolidAtom}
use Rattle.lmn_adequacy.specs.Next.{ReachesAtoms, links_at, reaches_listed, reaches_new, reaches_none}
use Rattle.lmn_adequacy.proofs.Depth.{at_cons}
use Rattle.lmn_adequacy_heaps.specs.HeapRegions.{HeapReading}
use Rattle.lmn_adequacy_heaps.specs.Premises.{IsRead}
use Rattle.lmn_adequacy_heaps.proofs.Counting.{times_at, ends_among}
use Rattle.lmn_adequacy_heaps.proofs.Forests.{none_of, some_of, once_of}
use Rattle.lmn_adequacy_heaps.proofs.GroundParts.{link_among}
use Rattle.lmn_adequacy_heaps.proofs.Pieces.{atom_at, atom_by}
use Rattle.lmn_base.proofs.Lists.{weigh, map_append as map_both, some_is}
use Rattle.lmn_base.proofs.Common.{port_cases}
use Rattle.lmn_congruence.proofs.Counts.{none_if_apart as apart_none, one_if_equal as same_one}
use Rattle.lmn_store_heap.proofs.Replacing.{port_within}
use Rattle.lmn_base.specs.Lists.{In}

-- ---- what is reached over two lists of links

-- what is reached over the first list, and then over the second one
record Split (ys zs seen : List ℕ) (ds : List SolidAtom) : Type 0 where
  first : List SolidAtom
  later : List SolidAtom
  is : ds ≡ first ++ later
  before : ReachesAtoms ys seen first
  behind : ReachesAtoms zs (seen ++ links_at first) later

-- the links of two lists of atoms are those of both
pub links_both : (xs ys : List SolidAtom) → links_at (xs ++ ys) ≡ links_at xs ++ links_at ys
links_both [] ys = refl
links_both (x ∷ xs) ys = ap (λ k. x.links ++ k) (links_both xs ys) ∙ sym (append_assoc x.links (links_at xs) (links_at ys))

split : {ws seen : List ℕ} {ds : List SolidAtom} → ReachesAtoms ws seen ds → (ys zs : List ℕ) → ws ≡ ys ++ zs → Split ys zs seen ds
split {seen = seen} {ds = ds} d [] zs e = record {
  first = [];
  later = ds;
  is = refl;
  before = reaches_none;
  behind = subst (λ k. ReachesAtoms zs k ds) (sym (append-nil seen)) (subst (λ k. ReachesAtoms k seen ds) e d);
}
split reaches_none (y ∷ ys) zs e = absurd (cc)
split (reaches_listed {y = z} {ys = ws} {seen = seen} c d) (y ∷ ys) zs e =
    let head : z ≡ y = cc in
    let tail : ws ≡ ys ++ zs = cc in
    let u = split d ys zs tail in
    record { first = u.first; later = u.later; is = u.is; before = reaches_listed (subst (λ k. places k seen ≡ 2) head c) u.before; behind = u.behind }
split (reaches_new {y = z} {ys = ws} {seen = seen} {b = b} {bs = bs} {cs = cs} c k d d') (y ∷ ys) zs e =
    let head : z ≡ y = cc in
    let tail : ws ≡ ys ++ zs = cc in
    let u = split d' ys zs tail in
    let all : (seen ++ (b.links ++ links_at bs)) ++ links_at u.first ≡ seen ++ (b.links ++ links_at (bs ++ u.first)) =
    append_assoc seen (b.links ++ links_at bs) (links_at u.first) ∙ ap (λ w. seen ++ w) (append_assoc b.links (links_at bs) (links_at u.first) ∙ ap (λ w. b.links ++ w) (sym (links_both bs u.first))) in
    record {
      first = b ∷ (bs ++ u.first);
      later = u.later;
      is = ap (λ w. b ∷ (bs ++ w)) u.is ∙ ap (λ w. b ∷ w) (sym (append_assoc bs u.first u.later));
      before = reaches_new (subst (λ w. places w seen ≡ 1) head c) (subst (λ w. Among w b.links) head k) d u.before;
      behind = subst (λ w. ReachesAtoms zs w u.later) all u.behind;
    }

-- ---- ports of an atom

-- a port of a range is one of its atom
pub port_at : (p : ℕ × ℕ) (a i n : ℕ) → HasPort p (port_range a i n) → (p.0 ≡ a) × (p.1 < i + n)
port_at p a i zero k = absurd k
port_at p a i (suc n) (inl e) = let z : p.1 ≡ i = ap (λ q. q.1) (sym e) in (ap (λ q. q.0) (sym e), omega (arith, z))
port_at p a i (suc n) (inr k) = let u = port_at p a (i + 1) n k in (u.0, omega (arith, u.1))

port_either : (p : ℕ × ℕ) (ps qs : List (ℕ × ℕ)) → HasPort p (ps ++ qs) → HasPort p ps ⊎ HasPort p qs
port_either p [] qs k = inr k
port_either p (r ∷ ps) qs (inl e) = inl (inl e)
port_either p (r ∷ ps) qs (inr k) = again (port_either p ps qs k)
  where
    again : HasPort p ps ⊎ HasPort p qs → ((r ≡ p) ⊎ HasPort p ps) ⊎ HasPort p qs
    again (inl j) = inl (inr j)
    again (inr j) = inr j

module _ (h : Heap) (r : HeapReading) (read : IsRead h r) where
  -- the links of an atom, by its ports
  pub links_of_ports : (a : ℕ) → IsAtom h a → (atom_at h r a).links ≡ map (by_port r.name) (port_range a 0 (arity_of h a))
  links_of_ports a s = by (h.atoms a) refl s
    where
      by : (o : Option HeapAtom) → h.atoms a ≡ o → IsSome o → (atom_by r a o).links ≡ map (by_port r.name) (port_range a 0 (arity_of h a))
      by None q s = absurd (cc)
      by (Some y) q s =
          let f : functor_of h a ≡ Some y.functor = rw q refl in
          let n : arity_of h a ≡ y.functor.arity = read.valid.sound.shaped.ports a y.functor f in
          sym (ap (λ k. map (by_port r.name) (port_range a 0 k)) n ∙ ports_named r.name a 0 y.functor.arity)

  -- the links of atoms, as weights
  pub links_weigh : (y : ℕ) (xs : List ℕ) → places y (links_at (map (atom_at h r) xs)) ≡ weigh (times_at h r y) xs
  links_weigh y [] = refl
  links_weigh y (x ∷ xs) = omega (arith, at_cons y (atom_at h r x) (map (atom_at h r) xs), links_weigh y xs)

  module _ (root q : ℕ × ℕ) (link : link_of h root.0 root.1 ≡ Some q) where
    abbrev pub to : ℕ × ℕ → Option ℕ
    to = neighbour (net h) root (λ _. true)

    abbrev pub name : ℕ × ℕ → ℕ
    name = by_port r.name

    -- the root's link, and the links at the ports of these atoms
    abbrev pub links : List ℕ → List ℕ
    links seen = name root ∷ links_at (map (atom_at h r) seen)

    -- a port of one of these atoms
    abbrev pub Here : List ℕ → ℕ × ℕ → Type 0
    Here seen p = In p.0 seen × (p.1 < arity_of h p.0)

    no_way : to root ≡ None
    no_way = rw (eq-eqb root.0 root.0 refl) (rw (eq-eqb root.1 root.1 refl) refl)

    way : (p s : ℕ × ℕ) → p ≢ root → link_of h p.0 p.1 ≡ Some s → to p ≡ Some s.0
    way p s d e = ap (λ o. cond (is_port p root) None (option_and_then (kept (λ _. true)) o)) e ∙ by (is_port p root) refl
      where
        both : (t u : Bool) → (p.0 == root.0) ≡ t → (p.1 == root.1) ≡ u → (t && u) ≡ true → p ≡ root
        both true true f g k = λ i. (eqb-true p.0 root.0 f i, eqb-true p.1 root.1 g i)
        both true false f g k = absurd (cc)
        both false u f g k = absurd (cc)

        by : (t : Bool) → is_port p root ≡ t → cond t None (Some s.0) ≡ Some s.0
        by true f = absurd (d (both (p.0 == root.0) (p.1 == root.1) refl refl f))
        by false f = refl

    -- How often the link at a port stands there: the root's twice; another once for this port, and once where the atom of its
    -- partner has been seen.
    at_the_root : (seen : List ℕ) → Distinct seen → ((a : ℕ) → In a seen → IsAtom h a) → (In q.0 seen → ⊥) → In root.0 seen → places (name root) (links seen) ≡ 2
    at_the_root seen once atoms away k =
        let e = ends_among h r read.valid read.naming root.0 root.1 q.0 q.1 (port_within h root.0 root.1 _ link) link seen (each_of (IsAtom h) seen atoms) in
        omega (arith, e, links_weigh (name root) seen, same_one (name root) (name root) refl, once_of root.0 seen once, some_of root.0 seen k, none_of q.0 seen away)

    elsewhere : (seen : List ℕ) → Distinct seen → ((a : ℕ) → In a seen → IsAtom h a) → (In q.0 seen → ⊥) → (p s : ℕ × ℕ) → Here seen p → p ≢ root → link_of h p.0 p.1 ≡ Some s → places (name p) (links seen) ≡ 1 + places s.0 seen
    elsewhere seen once atoms away p s k d l =
        let e = ends_among h r read.valid read.naming p.0 p.1 s.0 s.1 k.1 l seen (each_of (IsAtom h) seen atoms) in
        let other : one_if_same (name p) (name root) ≡ 0 = apart_none (name p) (name root) differs in
        omega (arith, e, links_weigh (name p) seen, other, once_of p.0 seen once, some_of p.0 seen k.0)
      where
        differs : name p ≢ name root
        differs f = elim (read.naming.apart p.0 p.1 root.0 root.1 k.1 (port_within h root.0 root.1 _ link) f) [
          | inl same ↦ d (λ i. (same.0 i, same.1 i))
          | inr across ↦ (let back = read.valid.sound.paired.back p.0 p.1 root.0 root.1 across in
              let same : p ≡ q = same_Some p q (sym back ∙ link) in
              away (subst (λ z. In z.0 seen) same k.0))
        ]

    -- the atoms that a walk finds besides those that were seen
    pub record Lists (seen all : List ℕ) (ps : List (ℕ × ℕ)) : Type 0 where
      pub new : List ℕ
      pub is : all ≡ seen ++ new
      pub reaches : ReachesAtoms (map name ps) (links seen) (map (atom_at h r) new)

    pub lists : {seen all : List ℕ} {ps : List (ℕ × ℕ)} → Walk (arity_of h) to seen ps all → (In q.0 all → ⊥) → ((a : ℕ) → In a all → IsAtom h a) → Distinct seen → ((p : ℕ × ℕ) → HasPort p ps → Here seen p) → Lists seen all ps
    lists (ends {seen = seen}) away atoms once here = record { new = []; is = sym (append-nil seen); reaches = reaches_none }
    lists (passes {seen = seen} {all = all} {ps = ps} {p = p} k w) away atoms once here =
        let u = lists w away atoms once (λ s m. here s (inr m)) in
        record { new = u.new; is = u.is; reaches = reaches_listed (by (port_cases p root)) u.reaches }
      where
        seen_atoms : (a : ℕ) → In a seen → IsAtom h a
        seen_atoms a m = atoms a (kept_seen (arity_of h) to w a m)

        out : In q.0 seen → ⊥
        out m = away (kept_seen (arity_of h) to w q.0 m)

        at : Here seen p
        at = here p (inl refl)

        by : (p ≡ root) ⊎ (p ≢ root) → places (name p) (links seen) ≡ 2
        by (inl e) = subst (λ z. places (name z) (links seen) ≡ 2) (sym e) (at_the_root seen once seen_atoms out (subst (λ z. In z.0 seen) e at.0))
        by (inr d) =
            let s = some_is (link_of h p.0 p.1) (read.valid.full p.0 p.1 at.1) in
            omega (arith, elsewhere seen once seen_atoms out p s.0 at d s.1, once_of s.0.0 seen once, some_of s.0.0 seen (k s.0.0 (way p s.0 d s.1)))
    lists (finds {seen = seen} {all = all} {ps = ps} {p = p} {b = b} e n w) away atoms once here =
        let u = lists w away atoms (distinct_snoc b seen once n) ports_here in
        let own : (atom_at h r b).links ≡ map name (port_range b 0 (arity_of h b)) = links_of_ports b there in
        let d : ReachesAtoms ((atom_at h r b).links ++ map name ps) (links seen ++ (atom_at h r b).links) (map (atom_at h r) u.new) =
        subst (λ k. ReachesAtoms k (links seen ++ (atom_at h r b).links) (map (atom_at h r) u.new)) (map_both name (port_range b 0 (arity_of h b)) ps ∙ ap (λ k. k ++ map name ps) (sym own))
        (subst (λ k. ReachesAtoms (map name (port_range b 0 (arity_of h b) ++ ps)) k (map (atom_at h r) u.new)) seen_more u.reaches) in
        let v = split d (atom_at h r b).links (map name ps) refl in
        record {
          new = b ∷ u.new;
          is = u.is ∙ append_assoc seen (b ∷ []) u.new;
          reaches = subst (λ k. ReachesAtoms (name p ∷ map name ps) (links seen) (atom_at h r b ∷ k)) (sym v.is)
              (reaches_new (found (port_cases p root)) (holds (port_cases p root)) v.before
              (subst (λ k. ReachesAtoms (map name ps) k v.later) (append_assoc (links seen) (atom_at h r b).links (links_at v.first)) v.behind));
        }
      where
        there : IsAtom h b
        there = atoms b (kept_seen (arity_of h) to w b (in_last b seen))

        seen_atoms : (a : ℕ) → In a seen → IsAtom h a
        seen_atoms a m = atoms a (kept_seen (arity_of h) to w a (in_left a seen (b ∷ []) m))

        out : In q.0 seen → ⊥
        out m = away (kept_seen (arity_of h) to w q.0 (in_left q.0 seen (b ∷ []) m))

        at : Here seen p
        at = here p (inl refl)

        ports_here : (s : ℕ × ℕ) → HasPort s (port_range b 0 (arity_of h b) ++ ps) → Here (seen ++ b ∷ []) s
        ports_here s m = elim (port_either s (port_range b 0 (arity_of h b)) ps m) [
          | inl j ↦ (let t = port_at s b 0 (arity_of h b) j in
              (subst (λ z. In z (seen ++ b ∷ [])) (sym t.0) (in_last b seen), subst (λ z. s.1 < arity_of h z) (sym t.0) (omega (arith, t.1))))
          | inr j ↦ (let t = here s (inr j) in (in_left s.0 seen (b ∷ []) t.0, t.1))
        ]

        seen_more : links (seen ++ b ∷ []) ≡ links seen ++ (atom_at h r b).links
        seen_more = ap (λ k. name root ∷ k) (ap links_at (map_both (atom_at h r) seen (b ∷ [])) ∙ links_both (map (atom_at h r) seen) (atom_at h r b ∷ []) ∙ ap (λ k. links_at (map (atom_at h r) seen) ++ k) (append-nil (atom_at h r b).links))

        not_root : p ≡ root → ⊥
        not_root f = let z : None ≡ Some b = sym no_way ∙ ap to (sym f) ∙ e in absurd (cc)

        -- the partner of the port is at the new atom
        partner : p ≢ root → (j : ℕ) × (link_of h p.0 p.1 ≡ Some (b, j))
        partner d =
            let s = some_is (link_of h p.0 p.1) (read.valid.full p.0 p.1 at.1) in
            let same : s.0.0 ≡ b = same_Some s.0.0 b (sym (way p s.0 d s.1) ∙ e) in
            (s.0.1, s.1 ∙ ap (λ (z : ℕ). Some (z, s.0.1)) same)

        found : (p ≡ root) ⊎ (p ≢ root) → places (name p) (links seen) ≡ 1
        found (inl f) = absurd (not_root f)
        found (inr d) = let s = partner d in omega (arith, elsewhere seen once seen_atoms out p (b, s.0) at d s.1, none_of b seen n)

        holds : (p ≡ root) ⊎ (p ≢ root) → Among (name p) (atom_at h r b).links
        holds (inl f) = absurd (not_root f)
        holds (inr d) =
            let s = partner d in
            subst (λ k. Among k (atom_at h r b).links) (sym (read.naming.joined p.0 p.1 b s.0 s.1))
            (link_among h r read.valid b s.0 (port_within h b s.0 _ (read.valid.sound.paired.back p.0 p.1 b s.0 s.1)))
