-- Two embeddings of one rule at one list of positions give the parts of the rule the same.
use Rattle.std.proofs.Common.{ℕ, List, map, refl, sym, ap, subst, inl, inr, arith, ◌≡◌, ◌+◌, ◌≤◌, ◌⊎◌, [], ◌∷◌, ◌++◌, ◌∙◌}
use Rattle.std.proofs.lemmas.List.{append_assoc}
use Rattle.lmn_congruence.specs.Links.{places}
use Rattle.lmn_congruence.specs.Orders.{Among, at_head, further}
use Rattle.lmn_congruence.specs.Process.{occurrences, together}
use Rattle.lmn_congruence.specs.Regions.{Region, Regions, SolidAtom, region, region_and, region_process, regions_processes}
use Rattle.lmn_congruence.specs.Rules.{Context, Leaf, Level, Levels, Name, Rule, level}
use Rattle.lmn_reduction.specs.Assignments.{Assignment}
use Rattle.lmn_reduction.specs.Firing.{typed_contexts, typed_contexts_in, typed_leaves}
use Rattle.lmn_reduction.specs.Parts.{IsGround, Rooted, EqualParts}
use Rattle.lmn_congruence.proofs.Counts.{Occurs}
use Rattle.lmn_congruence.proofs.Reordered.{reordered_count}
use Rattle.lmn_congruence.proofs.Solids.{put_together}
use Rattle.lmn_adequacy.specs.Accepted.{contexts_in, own_membranes, port_links, port_links_in, port_links_of, rule_contexts_in, typed_links, typed_links_in, typed_links_of}
use Rattle.lmn_adequacy.specs.Embedding.{AtomImages, IsPart, Merged, Taken, TakenRegion, TypedParts, image_and, no_image, no_part, no_part_of_atom, part_and, region_first, region_later, taken_first, taken_later, typed_later, Contents, LeftTo, LeftToContext, LeftToRuleContext, no_context, no_rule_context, one_context, one_rule_context}
use Rattle.lmn_adequacy.specs.Loose.{LevelImages, MembraneImages, level_images, membrane_image_and, no_membrane_image, EachLeft, EachLeftIn}
use Rattle.lmn_adequacy.specs.Next.{links_at}
use Rattle.lmn_adequacy.proofs.Depth.{at_put}
use Rattle.lmn_adequacy.proofs.Orders.{either, region_put, taken_put}
use Rattle.lmn_adequacy.proofs.SameParts.{atoms_places, merged_count, one_graph, one_part}
use Rattle.lmn_congruence.proofs.Common.{among_apart as among_append, among_left, among_right, among_map, among_places}
use Rattle.lmn_congruence.proofs.TranslatedLinks.{no_link_in_rules as no_link_rules}
use Rattle.lmn_base.proofs.Numbers.{not_zero_if_one}

-- two assignments give these links the same links
abbrev pub AgreeOn : Assignment → Assignment → List ℕ → Type 0
AgreeOn t s xs = (x : ℕ) → Among x xs → t.link_of x ≡ s.link_of x

-- and these typed contexts equal parts
abbrev pub SameTyped : Assignment → Assignment → List Name → Type 0
SameTyped t s ps = (p : Name) → Among p ps → EqualParts (t.typed_of p) (s.typed_of p)

-- and these contexts the same lists
abbrev pub SameContexts : Contents → Contents → List Context → Type 0
SameContexts c d ps = (p : Context) → Among p ps → (c.atoms_of p ≡ d.atoms_of p) × (c.membranes_of p ≡ d.membranes_of p)

-- and these rule contexts the same rules
abbrev pub SameRuleContexts : Contents → Contents → List Name → Type 0
SameRuleContexts c d ps = (p : Name) → Among p ps → c.rules_of p ≡ d.rules_of p

-- ---- what is taken

-- lists of links that are the same begin alike
pub same_head : (x y : ℕ) (xs ys : List ℕ) → (x ∷ xs) ≡ (y ∷ ys) → x ≡ y
same_head x y xs ys e = cc e

-- and go on alike
pub same_tail : (x y : ℕ) (xs ys : List ℕ) → (x ∷ xs) ≡ (y ∷ ys) → xs ≡ ys
same_tail x y xs ys e = cc e

-- by one number one item is taken, and the same are left
pub taken_one : {A : Type 0} {n : ℕ} {x y : A} {xs rest rest' : List A} → Taken n x xs rest → Taken n y xs rest' → (x ≡ y) × (rest ≡ rest')
taken_one taken_first taken_first = (refl, refl)
taken_one (taken_later {z = z} k) (taken_later k') = let i = taken_one k k' in (i.0, ap (λ w. z ∷ w) i.1)

-- and one membrane
pub region_one : {n : ℕ} {m m' : Region} {ms rest rest' : Regions} → TakenRegion n m ms rest → TakenRegion n m' ms rest' → (m ≡ m') × (rest ≡ rest')
region_one region_first region_first = (refl, refl)
region_one (region_later {k = z} k) (region_later k') = let i = region_one k k' in (i.0, ap (region_and z) i.1)

-- links of atoms that are one
same_links : (f g : ℕ → ℕ) (ys : List ℕ) → map f ys ≡ map g ys → (x : ℕ) → Among x ys → f x ≡ g x
same_links f g [] e x k = elim k [ ]
same_links f g (y ∷ ys) e x at_head = same_head (f y) (g y) (map f ys) (map g ys) e
same_links f g (y ∷ ys) e x (further k) = same_links f g ys (same_tail (f y) (g y) (map f ys) (map g ys) e) x k

-- ---- the links at ports

-- two lists of images of the same leaves leave the same, by the same links and numbers
pub record AtomsAgree (t s : Assignment) (ls : List Leaf) (rest rest' : List SolidAtom) (ks ks' : List ℕ) : Type 0 where
  pub rests : rest ≡ rest'
  pub links : AgreeOn t s (port_links_of ls)
  pub numbers : ks ≡ ks'

-- so it is where the numbers are the same
pub images_agree : {t s : Assignment} {ls : List Leaf} {ns ns' : List ℕ} {xs xs' rest rest' : List SolidAtom} → AtomImages t ls ns xs rest → AtomImages s ls ns' xs' rest' → xs ≡ xs' → {ks ks' : List ℕ} → ns ++ ks ≡ ns' ++ ks' → AtomsAgree t s ls rest rest' ks ks'
images_agree no_image no_image e f = record { rests = e; links = λ x k. elim k [ ]; numbers = f }
images_agree {t} {s} (image_and {a = a} {ys = ys} {ls = ls} {n = n} {ns = ns} {xs = xs} k i) (image_and {n = n'} {ns = ns'} {xs = xs'} {xs' = us} k' i') e {ks} {ks'} f =
    let h = same_head n n' (ns ++ ks) (ns' ++ ks') f in
    let b : SolidAtom = record { label = a; links = map s.link_of ys } in
    let q : Taken n b xs us = subst (λ w. Taken w b xs us) (sym h) (subst (λ w. Taken n' b w us) (sym e) k') in
    let u = taken_one k q in
    let v = images_agree i i' u.1 (same_tail n n' (ns ++ ks) (ns' ++ ks') f) in
    record {
      rests = v.rests;
      links = λ x l. either (among_append ys (port_links_of ls) l) (λ w. same_links t.link_of s.link_of ys (ap (λ z. z.links) u.0) x w) (λ w. v.links x w);
      numbers = v.numbers;
    }
images_agree (typed_later i) (typed_later i') e f = let v = images_agree i i' e f in record { rests = v.rests; links = v.links; numbers = v.numbers }

-- the links are the same and the numbers that are over
pub record LinksAgree (t s : Assignment) (xs : List ℕ) (ks ks' : List ℕ) : Type 0 where
  pub links : AgreeOn t s xs
  pub numbers : ks ≡ ks'

-- the atoms of a region
abbrev pub atoms_in : Region → List SolidAtom
atoms_in (region xs ms rs) = xs

-- the membranes of a region
abbrev pub membranes_in : Region → Regions
membranes_in (region xs ms rs) = ms

-- and its rules
abbrev pub rules_in : Region → List Rule
rules_in (region xs ms rs) = rs

mutual
  pub ports_agree : {t s : Assignment} {l : Level} {ns ns' : List ℕ} {m m' rest rest' : Region} → LevelImages t l ns m rest → LevelImages s l ns' m' rest' → m ≡ m' → {ks ks' : List ℕ} → ns ++ ks ≡ ns' ++ ks' → LinksAgree t s (port_links l) ks ks'
  ports_agree (level_images {leaves = leaves} {membranes = membranes} {ns = ns} {ns' = os} i j k) (level_images {ns = ns'} {ns' = os'} i' j' k') e {ks} {ks'} f =
      let u = images_agree i i' (ap atoms_in e) (sym (append_assoc ns os ks) ∙ f ∙ append_assoc ns' os' ks') in
      let v = membrane_ports_agree k k' (ap membranes_in e) u.numbers in
      record { links = λ x l. either (among_append (port_links_of leaves) (port_links_in membranes) l) (λ w. u.links x w) (λ w. v.links x w); numbers = v.numbers }

  pub membrane_ports_agree : {t s : Assignment} {ls : Levels} {ns ns' : List ℕ} {ms ms' rest rest' : Regions} → MembraneImages t ls ns ms rest → MembraneImages s ls ns' ms' rest' → ms ≡ ms' → {ks ks' : List ℕ} → ns ++ ks ≡ ns' ++ ks' → LinksAgree t s (port_links_in ls) ks ks'
  membrane_ports_agree no_membrane_image no_membrane_image e f = record { links = λ x k. elim k [ ]; numbers = f }
  membrane_ports_agree (membrane_image_and {leaves = leaves} {membranes = membranes} {ls = ls} {contexts = ps} {rule_contexts = qs} {rules = rules} {n = n} {ns = ns} {ns' = os} {m = m} {ms = ms} k i a b c) (membrane_image_and {n = n'} {ns = ns'} {ns' = os'} {m = m'} {ms = ms₁} {ms' = ms₂} k' i' a' b' c') e {ks} {ks'} f =
      let h = same_head n n' ((ns ++ os) ++ ks) ((ns' ++ os') ++ ks') f in
      let g = same_tail n n' ((ns ++ os) ++ ks) ((ns' ++ os') ++ ks') f in
      let q : TakenRegion n m' ms ms₂ = subst (λ w. TakenRegion w m' ms ms₂) (sym h) (subst (λ w. TakenRegion n' m' w ms₂) (sym e) k') in
      let r = region_one k q in
      let u = ports_agree i i' r.0 (sym (append_assoc ns os ks) ∙ g ∙ append_assoc ns' os' ks') in
      let v = membrane_ports_agree c c' r.1 u.numbers in
      record { links = λ x l. either (among_append (port_links (level leaves membranes ps qs rules)) (port_links_in ls) l) (λ w. u.links x w) (λ w. v.links x w); numbers = v.numbers }

-- ---- places of the links of the head

taken_at : {n : ℕ} {a : SolidAtom} {xs rest : List SolidAtom} (z : ℕ) → Taken n a xs rest → places z (links_at xs) ≡ places z a.links + places z (links_at rest)
taken_at z k = at_put z (taken_put k)

images_less : {t : Assignment} {ls : List Leaf} {ns : List ℕ} {xs rest : List SolidAtom} (z : ℕ) → AtomImages t ls ns xs rest → places z (links_at rest) ≤ places z (links_at xs)
images_less z no_image = omega arith
images_less z (image_and k i) = omega (arith, taken_at z k, images_less z i)
images_less z (typed_later i) = images_less z i

-- a link at a port of a head atom has a place among the images
images_have : {t : Assignment} {ls : List Leaf} {ns : List ℕ} {xs rest : List SolidAtom} (x : ℕ) → AtomImages t ls ns xs rest → Among x (port_links_of ls) → 1 + places (t.link_of x) (links_at rest) ≤ places (t.link_of x) (links_at xs)
images_have x no_image k = elim k [ ]
images_have {t} x (image_and {a = a} {ys = ys} {ls = ls} {xs' = xs'} q i) k =
    either (among_append ys (port_links_of ls) k)
    (λ w. here_now (t.link_of x) (map t.link_of ys) (among_places (among_map t.link_of w)) (taken_at (t.link_of x) q) (images_less (t.link_of x) i))
    (λ w. omega (arith, taken_at (t.link_of x) q, images_have x i w))
  where
    here_now : (z : ℕ) (zs : List ℕ) → 1 ≤ places z zs → {p r u : ℕ} → p ≡ places z zs + u → r ≤ u → 1 + r ≤ p
    here_now z zs b e c = omega (arith, b, e, c)
images_have x (typed_later i) k = images_have x i k

atom_count : (z : ℕ) (xs : List SolidAtom) (ms : Regions) (rs : List Rule) → occurrences z (region_process (region xs ms rs)) ≡ places z (links_at xs) + occurrences z (together (regions_processes ms))
atom_count z xs ms rs = omega (arith, atoms_places z xs, no_link_rules z rs)

region_count : {n : ℕ} {m : Region} {ms ms' : Regions} (z : ℕ) → TakenRegion n m ms ms' → occurrences z (together (regions_processes ms)) ≡ occurrences z (region_process m) + occurrences z (together (regions_processes ms'))
region_count z k = sym (reordered_count (put_together (region_put k)) z)

mutual
  pub ports_occur : {t : Assignment} {l : Level} {ns : List ℕ} {m rest : Region} (x : ℕ) → LevelImages t l ns m rest → Among x (port_links l) → 1 ≤ occurrences (t.link_of x) (region_process m)
  ports_occur {t} x (level_images {leaves = leaves} {membranes = membranes} {xs = xs} {ms = ms} {rs = rs} i j k) l =
      either (among_append (port_links_of leaves) (port_links_in membranes) l)
      (λ w. omega (arith, atom_count (t.link_of x) xs ms rs, images_have x i w))
      (λ w. omega (arith, atom_count (t.link_of x) xs ms rs, membrane_ports_occur x k w))

  membrane_ports_occur : {t : Assignment} {ls : Levels} {ns : List ℕ} {ms rest : Regions} (x : ℕ) → MembraneImages t ls ns ms rest → Among x (port_links_in ls) → 1 ≤ occurrences (t.link_of x) (together (regions_processes ms))
  membrane_ports_occur x no_membrane_image l = elim l [ ]
  membrane_ports_occur {t} x (membrane_image_and {leaves = leaves} {membranes = membranes} {ls = ls} {contexts = ps} {rule_contexts = qs} {rules = rules} k i a b c) l =
      either (among_append (port_links (level leaves membranes ps qs rules)) (port_links_in ls) l)
      (λ w. omega (arith, region_count (t.link_of x) k, ports_occur x i w))
      (λ w. omega (arith, region_count (t.link_of x) k, membrane_ports_occur x c w))

-- ---- the typed parts

-- the root of a ground part occurs in it
pub root_occurs : {g : Rooted} → IsGround g → Occurs g.root g.process
root_occurs {g} i = not_zero_if_one (occurrences g.root g.process) i.root_is_free

with_first : (A : Name → Type 0) {p : Name} {ps : List Name} → A p → ((q : Name) → Among q ps → A q) → (q : Name) → Among q (p ∷ ps) → A q
with_first A z f q at_head = z
with_first A z f q (further k) = f q k

-- two lists of parts of the same typed contexts leave the same, and are equal
pub record PartsAgree (t s : Assignment) (ls : List Leaf) (rest rest' : List SolidAtom) : Type 0 where
  pub rests : rest ≡ rest'
  pub typed : SameTyped t s (typed_leaves ls)

-- so it is where their links are the same
pub parts_agree : {t s : Assignment} {ls : List Leaf} {xs xs' rest rest' : List SolidAtom} → TypedParts t ls xs rest → TypedParts s ls xs' rest' → xs ≡ xs' → AgreeOn t s (typed_links_of ls)
    → ((z : ℕ) → places z (links_at xs) ≤ 2) → ((x : ℕ) → Among x (typed_links_of ls) → places (t.link_of x) (links_at xs) ≤ 1) → PartsAgree t s ls rest rest'
parts_agree no_part no_part e h two one = record { rests = e; typed = λ p k. elim k [ ] }
parts_agree (no_part_of_atom j) (no_part_of_atom j') e h two one = let v = parts_agree j j' e h two one in record { rests = v.rests; typed = v.typed }
parts_agree {t} {s} (part_and {p = p} {x = x} {part = part} {xs = xs} {xs' = us} g i m j) (part_and {part = part'} {xs' = us'} g' i' m' j') e h two one =
    let L = t.link_of x in
    let i₁ : IsPart (s.typed_of p) L part' = subst (λ w. IsPart (s.typed_of p) w part') (sym (h x at_head)) i' in
    let m₁ : Merged part' us' xs = subst (Merged part' us') (sym e) m' in
    let u = one_part g i m g' i₁ m₁ two (one x at_head) in
    let i₂ : IsPart (s.typed_of p) L part = subst (IsPart (s.typed_of p) L) (sym u.0) i₁ in
    let v = parts_agree j j' u.1 (λ y k. h y (further k)) (λ z. omega (arith, merged_count m z, two z)) (λ y k. omega (arith, merged_count m (t.link_of y), one y (further k))) in
    record { rests = v.rests; typed = with_first (λ q. EqualParts (t.typed_of q) (s.typed_of q)) (one_graph i i₂ (root_occurs g) (root_occurs g')) v.typed }

-- ---- what is left to contexts

left_atoms : {c : Contents} {p : Context} {xs : List SolidAtom} {ms : Regions} → LeftToContext c (p ∷ []) xs ms → (c.atoms_of p ≡ xs) × (c.membranes_of p ≡ ms)
left_atoms one_context = (refl, refl)

left_contexts : {c d : Contents} {ps : List Context} {xs xs' : List SolidAtom} {ms ms' : Regions} → LeftToContext c ps xs ms → LeftToContext d ps xs' ms' → xs ≡ xs' → ms ≡ ms' → SameContexts c d ps
left_contexts no_context no_context e f p k = elim k [ ]
left_contexts one_context u e f p at_head = let v = left_atoms u in (e ∙ sym v.0, f ∙ sym v.1)
left_contexts one_context u e f p (further k) = elim k [ ]

left_rules_is : {c : Contents} {p : Name} {rs : List Rule} → LeftToRuleContext c (p ∷ []) rs → c.rules_of p ≡ rs
left_rules_is one_rule_context = refl

left_rule_contexts : {c d : Contents} {ps : List Name} {rs rs' : List Rule} → LeftToRuleContext c ps rs → LeftToRuleContext d ps rs' → rs ≡ rs' → SameRuleContexts c d ps
left_rule_contexts no_rule_context no_rule_context e p k = elim k [ ]
left_rule_contexts one_rule_context u e p at_head = e ∙ sym (left_rules_is u)
left_rule_contexts one_rule_context u e p (further k) = elim k [ ]

left_same : (c d : Contents) {ps : List Context} {qs : List Name} (m m' : Region) → LeftTo c ps qs m → LeftTo d ps qs m' → m ≡ m' → SameContexts c d ps × SameRuleContexts c d qs
left_same c d (region xs ms rs) (region xs' ms' rs') u v e = (left_contexts u.0 v.0 (ap atoms_in e) (ap membranes_in e), left_rule_contexts u.1 v.1 (ap rules_in e))

-- ---- all of it

-- two embeddings of a level leave the same region, and their contexts stand for the same
pub record PartsSame (t s : Assignment) (c d : Contents) (rest rest' : Region) (typed : List Name) (contexts : List Context) (rule_contexts : List Name) : Type 0 where
  pub rests : rest ≡ rest'
  pub same_typed : SameTyped t s typed
  pub same_contexts : SameContexts c d contexts
  pub same_rules : SameRuleContexts c d rule_contexts

-- and so for the membranes of a level
pub record MembranesSame (t s : Assignment) (c d : Contents) (rest rest' : Regions) (typed : List Name) (contexts : List Context) (rule_contexts : List Name) : Type 0 where
  pub rests : rest ≡ rest'
  pub same_typed : SameTyped t s typed
  pub same_contexts : SameContexts c d contexts
  pub same_rules : SameRuleContexts c d rule_contexts

-- the link of each typed context stands at a port of a head atom, of this level or outside
abbrev HeldIn : Assignment → (ℕ → ℕ) → List ℕ → List ℕ → Type 0
HeldIn t out typed ports = (x : ℕ) → Among x typed → Among x ports ⊎ (1 ≤ out (t.link_of x))

both_names : {K : Type 0} {A : K → Type 0} (ps qs : List K) → ((p : K) → Among p ps → A p) → ((p : K) → Among p qs → A p) → (p : K) → Among p (ps ++ qs) → A p
both_names ps qs f g p k = either (among_append ps qs k) (λ w. f p w) (λ w. g p w)

module _ (t s : Assignment) (c d : Contents) where
  mutual
    pub parts_same : {l : Level} {ns ns' : List ℕ} {m m' rest rest' : Region} (i : LevelImages t l ns m rest) (i' : LevelImages s l ns' m' rest') → m ≡ m' → (ks ks' : List ℕ) → ns ++ ks ≡ ns' ++ ks'
        → (out : ℕ → ℕ) → ((z : ℕ) → occurrences z (region_process m) + out z ≤ 2) → AgreeOn t s (typed_links l) → HeldIn t out (typed_links l) (port_links l) → EachLeft c i → EachLeft d i'
        → PartsSame t s c d rest rest' (typed_contexts l) (contexts_in (own_membranes l)) (rule_contexts_in (own_membranes l))
    parts_same (level_images {leaves = leaves} {membranes = membranes} {ns = ns} {ns' = os} {xs = xs} {ms = ms} {rs = rs} i j k) (level_images {ns = ns'} {ns' = os'} {rs = rs'} i' j' k') e ks ks' f out two h held u u' =
        let v = images_agree i i' (ap atoms_in e) (sym (append_assoc ns os ks) ∙ f ∙ append_assoc ns' os' ks') in
        let w = parts_agree j j' v.rests (λ x a. h x (among_left (typed_links_in membranes) a)) (λ z. omega (arith, atom_count z xs ms rs, images_less z i, two z))
        (λ x a. either (held x (among_left (typed_links_in membranes) a))
        (λ b. either (among_append (port_links_of leaves) (port_links_in membranes) b)
        (λ q. omega (arith, atom_count (t.link_of x) xs ms rs, images_have x i q, two (t.link_of x)))
        (λ q. omega (arith, atom_count (t.link_of x) xs ms rs, images_less (t.link_of x) i, membrane_ports_occur x k q, two (t.link_of x))))
        (λ b. omega (arith, atom_count (t.link_of x) xs ms rs, images_less (t.link_of x) i, b, two (t.link_of x)))) in
        let y = membranes_same k k' (ap membranes_in e) ks ks' v.numbers (λ z. places z (links_at xs) + out z) (λ z. omega (arith, atom_count z xs ms rs, two z)) (λ x a. h x (among_right (typed_links_of leaves) a))
        (λ x a. either (held x (among_right (typed_links_of leaves) a))
        (λ b. either (among_append (port_links_of leaves) (port_links_in membranes) b) (λ q. inr (omega (arith, images_have x i q))) (λ q. inl q))
        (λ b. inr (omega (arith, b)))) u u' in
        record {
          rests = cc (w.rests, y.rests, ap rules_in e);
          same_typed = both_names (typed_leaves leaves) (typed_contexts_in membranes) w.typed y.same_typed;
          same_contexts = y.same_contexts;
          same_rules = y.same_rules;
        }

    pub membranes_same : {ls : Levels} {ns ns' : List ℕ} {ms ms' rest rest' : Regions} (k : MembraneImages t ls ns ms rest) (k' : MembraneImages s ls ns' ms' rest') → ms ≡ ms' → (ks ks' : List ℕ) → ns ++ ks ≡ ns' ++ ks'
        → (out : ℕ → ℕ) → ((z : ℕ) → occurrences z (together (regions_processes ms)) + out z ≤ 2) → AgreeOn t s (typed_links_in ls) → HeldIn t out (typed_links_in ls) (port_links_in ls) → EachLeftIn c k → EachLeftIn d k'
        → MembranesSame t s c d rest rest' (typed_contexts_in ls) (contexts_in ls) (rule_contexts_in ls)
    membranes_same no_membrane_image no_membrane_image e ks ks' f out two h held u u' = record { rests = e; same_typed = λ p k. elim k [ ]; same_contexts = λ p k. elim k [ ]; same_rules = λ p k. elim k [ ] }
    membranes_same (membrane_image_and {leaves = leaves} {membranes = membranes} {ls = ls} {contexts = ps} {rule_contexts = qs} {rules = rules} {n = n} {ns = ns} {ns' = os} {m = m} {rest = rest} {ms = ms} {ms' = us} k i a b q)
        (membrane_image_and {n = n'} {ns = ns'} {ns' = os'} {m = m'} {rest = rest'} {ms = ms₁} {ms' = us'} k' i' a' b' q') e ks ks' f out two h held u u' =
        let l = level leaves membranes ps qs rules in
        let hd = same_head n n' ((ns ++ os) ++ ks) ((ns' ++ os') ++ ks') f in
        let g = same_tail n n' ((ns ++ os) ++ ks) ((ns' ++ os') ++ ks') f in
        let tk : TakenRegion n m' ms us' = subst (λ w. TakenRegion w m' ms us') (sym hd) (subst (λ w. TakenRegion n' m' w us') (sym e) k') in
        let r = region_one k tk in
        let g' : ns ++ (os ++ ks) ≡ ns' ++ (os' ++ ks') = sym (append_assoc ns os ks) ∙ g ∙ append_assoc ns' os' ks' in
        let v = parts_same i i' r.0 (os ++ ks) (os' ++ ks') g' (λ z. occurrences z (together (regions_processes us)) + out z) (λ z. omega (arith, region_count z k, two z)) (λ x y. h x (among_left (typed_links_in ls) y))
        (λ x y. either (held x (among_left (typed_links_in ls) y))
        (λ o. either (among_append (port_links l) (port_links_in ls) o) (λ w. inl w) (λ w. inr (omega (arith, membrane_ports_occur x q w))))
        (λ o. inr (omega (arith, o)))) u.1 u'.1 in
        let o = ports_agree i i' r.0 g' in
        let w = membranes_same q q' r.1 ks ks' o.numbers (λ z. occurrences z (region_process m) + out z) (λ z. omega (arith, region_count z k, two z)) (λ x y. h x (among_right (typed_links l) y))
        (λ x y. either (held x (among_right (typed_links l) y))
        (λ o. either (among_append (port_links l) (port_links_in ls) o) (λ w. inr (omega (arith, ports_occur x i w))) (λ w. inl w))
        (λ o. inr (omega (arith, o)))) u.2 u'.2 in
        let z = left_same c d rest rest' u.0 u'.0 v.rests in
        record {
          rests = w.rests;
          same_typed = both_names (typed_contexts l) (typed_contexts_in ls) v.same_typed w.same_typed;
          same_contexts = both_names (ps ++ contexts_in membranes) (contexts_in ls) (both_names ps (contexts_in membranes) z.0 v.same_contexts) w.same_contexts;
          same_rules = both_names (qs ++ rule_contexts_in membranes) (rule_contexts_in ls) (both_names qs (rule_contexts_in membranes) z.1 v.same_rules) w.same_rules;
        }
