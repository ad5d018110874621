-- Solids have congruent processes exactly where they are the same.
use Rattle.std.proofs.Common.{ℕ, ◌≡◌, Option, Some, None, List, [], ◌∷◌, ◌++◌, map, refl, sym, ◌∙◌, ap, subst, subst₂}
use Rattle.std.proofs.lemmas.List.{append-nil, map-id}
use Rattle.lmn_congruence.proofs.Reordered.{pieces, SamePiece, itself, content, reordered_pieces, reordered_congruent, reordered_count, r_right}
use Rattle.lmn_congruence.proofs.Renaming.{renamed_id, rename_all}
use Rattle.lmn_congruence.proofs.Counts.{linked_both, linked_as}
use Rattle.lmn_congruence.proofs.LinkMaps.{congruent_reads, fused_is_renamed, one_to_one, closed_leaves, closed_linked}
use Rattle.lmn_congruence.specs.Laws.{CongruentSolids}
use Rattle.lmn_congruence.specs.Fused.{NoConnector}
use Rattle.lmn_congruence.specs.UpToOrder.{Reordered, r_swap, r_regroup, r_beside, r_inside, r_same, r_back, r_chain}
use Rattle.lmn_congruence.specs.Orders.{Put, here, there, Shuffle, none, more}
use Rattle.lmn_congruence.specs.Process.{Process, nothing, connector, atom, pair, membrane, rule, Linked, Closed, renamed, together}
use Rattle.lmn_congruence.specs.Congruence.{Congruent, chain}
use Rattle.lmn_congruence.specs.Rules.{Rule}
use Rattle.lmn_congruence.specs.Regions.{SolidAtom, Region, region, Regions, no_region, region_and, region_process, regions_processes, atom_process}
use Rattle.lmn_congruence.specs.Same.{renamed_atom, PutRegion, first, later, SameRegion, same_region, SameRegions, none_left, one_more, Same}

-- ---- the pieces of one kind

-- a value before a list, where there is one
abbrev pub onto : {B : Type 0} → Option B → List B → List B
onto None bs = bs
onto (Some b) bs = b ∷ bs

-- what is picked from the elements of a list
abbrev pub picks : {A B : Type 0} → (A → Option B) → List A → List B
picks p [] = []
picks p (x ∷ xs) = onto (p x) (picks p xs)

-- both are there and related, or neither is
pub data Both {B C : Type 0} (R : B → C → Type 0) : Option B → Option C → Type 0 where
  neither : Both R None None
  each : {b : B} {c : C} → R b c → Both R (Some b) (Some c)

-- an element was put into a list, where there is one
pub data PutOnto {B : Type 0} : Option B → List B → List B → Type 0 where
  absent : {bs : List B} → PutOnto None bs bs
  present : {b : B} {bs cs : List B} → Put b bs cs → PutOnto (Some b) bs cs

onto_here : {B : Type 0} (o : Option B) (bs : List B) → PutOnto o bs (onto o bs)
onto_here None bs = absent
onto_here (Some b) bs = present here

onto_there : {B : Type 0} (o : Option B) {o' : Option B} {bs cs : List B} → PutOnto o' bs cs → PutOnto o' (onto o bs) (onto o cs)
onto_there None p = p
onto_there (Some b) absent = absent
onto_there (Some b) (present p) = present (there p)

-- of a list with an element put in is picked what was picked before, and what the element gives
pub put_picks : {A B : Type 0} (p : A → Option B) {y : A} {ys zs : List A} → Put y ys zs → PutOnto (p y) (picks p ys) (picks p zs)
put_picks p (here {y = y} {ys = ys}) = onto_here (p y) (picks p ys)
put_picks p (there {z = z} q) = onto_there (p z) (put_picks p q)

both_onto : {B C : Type 0} {R : B → C → Type 0} {o : Option B} {o' : Option C} → Both R o o' → (bs : List B) (cs ds : List C) → Shuffle R bs cs → PutOnto o' cs ds → Shuffle R (onto o bs) ds
both_onto neither bs cs ds s absent = s
both_onto (each r) bs cs ds s (present p) = more r s p

-- of lists that match are picked lists that match
pub shuffle_picks : {A B C D : Type 0} {R : A → C → Type 0} (S : B → D → Type 0) (p : A → Option B) (q : C → Option D) → ((x : A) (y : C) → R x y → Both S (p x) (q y)) → {xs : List A} {ys : List C} → Shuffle R xs ys → Shuffle S (picks p xs) (picks q ys)
shuffle_picks S p q h none = none
shuffle_picks S p q h (more {x = x} {y = y} {xs = xs} {ys = ys} {zs = zs} r s k) = both_onto (h x y r) (picks p xs) (picks q ys) (picks q zs) (shuffle_picks S p q h s) (put_picks q k)

onto_append : {B : Type 0} (o : Option B) (xs ys : List B) → onto o (xs ++ ys) ≡ onto o xs ++ ys
onto_append None xs ys = refl
onto_append (Some b) xs ys = refl

-- what is picked from two lists joined is what is picked from both
pub picks_append : {A B : Type 0} (p : A → Option B) (xs ys : List A) → picks p (xs ++ ys) ≡ picks p xs ++ picks p ys
picks_append p [] ys = refl
picks_append p (x ∷ xs) ys = ap (onto (p x)) (picks_append p xs ys) ∙ onto_append (p x) (picks p xs) (picks p ys)

picks_three : {A B : Type 0} (p : A → Option B) (xs ys zs : List A) → picks p (xs ++ (ys ++ zs)) ≡ picks p xs ++ (picks p ys ++ picks p zs)
picks_three p xs ys zs = picks_append p xs (ys ++ zs) ∙ ap (λ k. picks p xs ++ k) (picks_append p ys zs)

-- ---- the three kinds

-- a piece as an atom, where it is one
abbrev pub as_atom : Process → Option SolidAtom
as_atom nothing = None
as_atom (connector x y) = None
as_atom (atom a xs) = Some (record { label = a; links = xs })
as_atom (pair P Q) = None
as_atom (membrane P) = None
as_atom (rule r) = None

-- the content of a piece, where it is a membrane
abbrev pub as_content : Process → Option Process
as_content nothing = None
as_content (connector x y) = None
as_content (atom a xs) = None
as_content (pair P Q) = None
as_content (membrane P) = Some P
as_content (rule r) = None

-- a piece as a rule, where it is one
abbrev pub as_rule : Process → Option Rule
as_rule nothing = None
as_rule (connector x y) = None
as_rule (atom a xs) = None
as_rule (pair P Q) = None
as_rule (membrane P) = None
as_rule (rule r) = Some r

both_same : {B : Type 0} {R : B → B → Type 0} → ((b : B) → R b b) → (o : Option B) → Both R o o
both_same h None = neither
both_same h (Some b) = each (h b)

-- of pieces that are the same either both are that atom or none is an atom
pub same_atoms : (P Q : Process) → SamePiece P Q → Both (λ a b. a ≡ b) (as_atom P) (as_atom Q)
same_atoms P Q itself = both_same (λ a. refl) (as_atom P)
same_atoms P Q (content d) = neither

-- and either both are membranes of the same content or none is
pub same_contents : (P Q : Process) → SamePiece P Q → Both Reordered (as_content P) (as_content Q)
same_contents P Q itself = both_same (λ a. r_same refl) (as_content P)
same_contents P Q (content d) = each d

-- of pieces that are the same either both are that rule or none is a rule
pub same_rules : (P Q : Process) → SamePiece P Q → Both (λ a b. a ≡ b) (as_rule P) (as_rule Q)
same_rules P Q itself = both_same (λ a. refl) (as_rule P)
same_rules P Q (content d) = neither

-- ---- the pieces of the process of a region, its links renamed

module _ (v : ℕ → ℕ) where
  abbrev of_atoms : List SolidAtom → List Process
  of_atoms xs = pieces (renamed v (together (map atom_process xs)))

  abbrev of_regions : Regions → List Process
  of_regions ms = pieces (renamed v (together (regions_processes ms)))

  abbrev of_rules : List Rule → List Process
  of_rules rs = pieces (renamed v (together (map rule rs)))

  abbrev pub contents : Regions → List Process
  contents no_region = []
  contents (region_and r rs) = renamed v (region_process r) ∷ contents rs

  atoms_atoms : (xs : List SolidAtom) → picks as_atom (of_atoms xs) ≡ map (renamed_atom v) xs
  atoms_atoms [] = refl
  atoms_atoms (x ∷ xs) = ap (λ k. renamed_atom v x ∷ k) (atoms_atoms xs)

  atoms_contents : (xs : List SolidAtom) → picks as_content (of_atoms xs) ≡ []
  atoms_contents [] = refl
  atoms_contents (x ∷ xs) = atoms_contents xs

  atoms_rules : (xs : List SolidAtom) → picks as_rule (of_atoms xs) ≡ []
  atoms_rules [] = refl
  atoms_rules (x ∷ xs) = atoms_rules xs

  regions_atoms : (ms : Regions) → picks as_atom (of_regions ms) ≡ []
  regions_atoms no_region = refl
  regions_atoms (region_and m ms) = regions_atoms ms

  regions_contents : (ms : Regions) → picks as_content (of_regions ms) ≡ contents ms
  regions_contents no_region = refl
  regions_contents (region_and m ms) = ap (λ k. renamed v (region_process m) ∷ k) (regions_contents ms)

  regions_rules : (ms : Regions) → picks as_rule (of_regions ms) ≡ []
  regions_rules no_region = refl
  regions_rules (region_and m ms) = regions_rules ms

  rules_atoms : (rs : List Rule) → picks as_atom (of_rules rs) ≡ []
  rules_atoms [] = refl
  rules_atoms (r ∷ rs) = rules_atoms rs

  rules_contents : (rs : List Rule) → picks as_content (of_rules rs) ≡ []
  rules_contents [] = refl
  rules_contents (r ∷ rs) = rules_contents rs

  rules_rules : (rs : List Rule) → picks as_rule (of_rules rs) ≡ rs
  rules_rules [] = refl
  rules_rules (r ∷ rs) = ap (λ k. r ∷ k) (rules_rules rs)

  pub region_atoms : (xs : List SolidAtom) (ms : Regions) (rs : List Rule) → picks as_atom (pieces (renamed v (region_process (region xs ms rs)))) ≡ map (renamed_atom v) xs
  region_atoms xs ms rs = picks_three as_atom (of_atoms xs) (of_regions ms) (of_rules rs) ∙ rw (atoms_atoms xs, regions_atoms ms, rules_atoms rs) (append-nil (map (renamed_atom v) xs))

  pub region_contents : (xs : List SolidAtom) (ms : Regions) (rs : List Rule) → picks as_content (pieces (renamed v (region_process (region xs ms rs)))) ≡ contents ms
  region_contents xs ms rs = picks_three as_content (of_atoms xs) (of_regions ms) (of_rules rs) ∙ rw (atoms_contents xs, regions_contents ms, rules_contents rs) (append-nil (contents ms))

  pub region_rules : (xs : List SolidAtom) (ms : Regions) (rs : List Rule) → picks as_rule (pieces (renamed v (region_process (region xs ms rs)))) ≡ rs
  region_rules xs ms rs = picks_three as_rule (of_atoms xs) (of_regions ms) (of_rules rs) ∙ rw (atoms_rules xs, regions_rules ms, rules_rules rs) refl

-- ---- reordered processes of regions

-- the map of links that changes nothing
abbrev pub stay : ℕ → ℕ
stay x = x

unmap : {A B : Type 0} (g : A → B) (xs : List A) (ys : List B) → Shuffle (λ a b. a ≡ b) (map g xs) ys → Shuffle (λ a b. g a ≡ b) xs ys
unmap g [] ys none = none
unmap g (x ∷ xs) ys (more {ys = zs} r s p) = more r (unmap g xs zs s) p

-- the map that changes nothing leaves atoms as they are
pub stay_atoms : (xs : List SolidAtom) → map (renamed_atom stay) xs ≡ xs
stay_atoms [] = refl
stay_atoms (x ∷ xs) = cc (stay_atoms xs, stay_atom x)
  where
    stay_atom : (a : SolidAtom) → renamed_atom stay a ≡ a
    stay_atom a = ap (λ k. record { label = a.label; links = k }) (map-id a.links)

-- a content among those of membranes is that of one of them
pub record PutContent (y : Process) (ys : List Process) (ns : Regions) : Type 0 where
  pub region : Region
  pub rest : Regions
  pub is : y ≡ renamed stay (region_process region)
  pub others : ys ≡ contents stay rest
  pub joins : PutRegion region rest ns

-- so it is for each that was put in
pub put_content : (ns : Regions) {y : Process} {ys : List Process} → Put y ys (contents stay ns) → PutContent y ys ns
put_content no_region p = elim p [ ]
put_content (region_and n ns) here = record { region = n; rest = ns; is = refl; others = refl; joins = first }
put_content (region_and n ns) (there p) =
    let u = put_content ns p in
    record { region = u.region; rest = region_and n u.rest; is = u.is; others = ap (λ k. renamed stay (region_process n) ∷ k) u.others; joins = later u.joins }

mutual
  pub same_from : (v : ℕ → ℕ) (S S' : Region) → Reordered (renamed v (region_process S)) (renamed stay (region_process S')) → SameRegion v S S'
  same_from v (region xs ms rs) (region ys ns ss) d =
      let k = reordered_pieces d in
      let a = subst₂ (Shuffle (λ a b. a ≡ b)) (region_atoms v xs ms rs) (region_atoms stay ys ns ss ∙ stay_atoms ys) (shuffle_picks (λ a b. a ≡ b) as_atom as_atom same_atoms k) in
      let c = subst₂ (Shuffle Reordered) (region_contents v xs ms rs) (region_contents stay ys ns ss) (shuffle_picks Reordered as_content as_content same_contents k) in
      let r = subst₂ (Shuffle (λ a b. a ≡ b)) (region_rules v xs ms rs) (region_rules stay ys ns ss) (shuffle_picks (λ a b. a ≡ b) as_rule as_rule same_rules k) in
      same_region (unmap (renamed_atom v) xs ys a) (same_regions_from v ms ns c) r

  pub same_regions_from : (v : ℕ → ℕ) (ms ns : Regions) → Shuffle Reordered (contents v ms) (contents stay ns) → SameRegions v ms ns
  same_regions_from v no_region no_region s = none_left
  same_regions_from v no_region (region_and n ns) s = elim s [ ]
  same_regions_from v (region_and m ms) ns (more r s p) =
      let u = put_content ns p in
      one_more (same_from v m u.region (subst (Reordered (renamed v (region_process m))) u.is r)) (same_regions_from v ms u.rest (subst (Shuffle Reordered (contents v ms)) u.others s)) u.joins

-- ---- congruent solids

atoms_plain : (xs : List SolidAtom) → NoConnector (together (map atom_process xs))
atoms_plain [] = tt
atoms_plain (x ∷ xs) = (tt, atoms_plain xs)

rules_plain : (rs : List Rule) → NoConnector (together (map rule rs))
rules_plain [] = tt
rules_plain (r ∷ rs) = (tt, rules_plain rs)

mutual
  pub region_plain : (S : Region) → NoConnector (region_process S)
  region_plain (region xs ms rs) = (atoms_plain xs, (regions_plain ms, rules_plain rs))

  pub regions_plain : (ms : Regions) → NoConnector (together (regions_processes ms))
  regions_plain no_region = tt
  regions_plain (region_and m ms) = (region_plain m, regions_plain ms)

-- solids with congruent processes are the same
pub congruent_same : (S S' : Region) → Closed (region_process S) → Congruent (region_process S) (region_process S') → Same S S'
congruent_same S S' closed c =
    let r = congruent_reads (region_process S) (region_process S') (region_plain S') c in
    let e = fused_is_renamed r.to (region_process S) (region_plain S) in
    let o : Reordered (renamed r.to (region_process S)) (region_process S') = subst (λ k. Reordered k (region_process S')) e r.order in
    let k : Linked (renamed r.to (region_process S)) = linked_as (λ z. sym (reordered_count o z)) (linked_both c).1 in
    record {
      to = r.to;
      one_to_one = one_to_one r.to (region_process S) (closed_leaves r.to (region_process S) closed) k;
      same = same_from r.to S S' (r_chain o (r_same (sym (renamed_id (region_process S')))));
    }

-- ---- and back

-- an item moves to its place
pub put_together : {P : Process} {Ps Qs : List (Process)} → Put P Ps Qs → Reordered (pair P (together Ps)) (together Qs)
put_together here = r_same refl
put_together (there p) = r_chain r_regroup (r_chain (r_beside r_swap) (r_chain (r_back r_regroup) (r_right (put_together p))))

-- where an element was put into a list its image was put into the images
pub put_map : {A B : Type 0} (g : A → B) {y : A} {ys zs : List A} → Put y ys zs → Put (g y) (map g ys) (map g zs)
put_map g here = here
put_map g (there p) = there (put_map g p)

atoms_shuffled : (f : ℕ → ℕ) {xs ys : List SolidAtom} → Shuffle (λ a b. renamed_atom f a ≡ b) xs ys → Reordered (renamed f (together (map atom_process xs))) (together (map atom_process ys))
atoms_shuffled f none = r_same refl
atoms_shuffled f (more r s p) = r_chain (r_beside (r_same (ap atom_process r))) (r_chain (r_right (atoms_shuffled f s)) (put_together (put_map atom_process p)))

rules_shuffled : (f : ℕ → ℕ) {rs ss : List Rule} → Shuffle (λ r s. r ≡ s) rs ss → Reordered (renamed f (together (map rule rs))) (together (map rule ss))
rules_shuffled f none = r_same refl
rules_shuffled f (more r s p) = r_chain (r_beside (r_same (ap rule r))) (r_chain (r_right (rules_shuffled f s)) (put_together (put_map rule p)))

joins_put : {n : Region} {ns ns' : Regions} → PutRegion n ns ns' → Put (membrane (region_process n)) (regions_processes ns) (regions_processes ns')
joins_put first = here
joins_put (later j) = there (joins_put j)

mutual
  region_shuffled : (f : ℕ → ℕ) {S S' : Region} → SameRegion f S S' → Reordered (renamed f (region_process S)) (region_process S')
  region_shuffled f (same_region a m r) = r_chain (r_beside (atoms_shuffled f a)) (r_right (r_chain (r_beside (regions_shuffled f m)) (r_right (rules_shuffled f r))))

  regions_shuffled : (f : ℕ → ℕ) {ms ns : Regions} → SameRegions f ms ns → Reordered (renamed f (together (regions_processes ms))) (together (regions_processes ns))
  regions_shuffled f none_left = r_same refl
  regions_shuffled f (one_more m s j) = r_chain (r_beside (r_inside (region_shuffled f m))) (r_chain (r_right (regions_shuffled f s)) (put_together (joins_put j)))

-- solids that are the same have congruent processes
pub same_congruent : (S S' : Region) → Closed (region_process S) → Same S S' → Congruent (region_process S) (region_process S')
same_congruent S S' c s =
    let P = region_process S in
    let d = rename_all s.to P (closed_linked c) s.one_to_one (closed_leaves s.to P c) in
    chain d (reordered_congruent (region_shuffled s.to s.same) (linked_both d).1)

-- solids have congruent processes exactly where they are the same
pub congruent_exactly_same : CongruentSolids
congruent_exactly_same S S' c = ((λ d. congruent_same S S' c d), (λ s. same_congruent S S' c s))
