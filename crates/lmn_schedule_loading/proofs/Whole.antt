-- What is loaded is valid, and its solid is that of the plain.
use Rattle.std.proofs.Common.{ℕ, suc, ◌≡◌, ◌≢◌, ◌⊎◌, ◌<◌, List, [], ◌∷◌, ◌++◌, map, length, Option, Some, None, IsSome, refl, sym, ap, subst, ◌∙◌, inl, inr, arith}
use Rattle.std.specs.List.{flat_map}
use Rattle.std.specs.Option.{option_map, option_and_then}
use Rattle.std.specs.Prelude.{slice_index_or}
use Rattle.std.proofs.lemmas.Bool.{cases_lt}
use Rattle.std.proofs.lemmas.List.{map-id, get_or_past}
use Rattle.lmn_base.specs.declared.level.Leaf.{Leaf}
use Rattle.lmn_base.specs.declared.level.Level.{out-Level}
use Rattle.lmn_base.specs.declared.rule.Plain.{Plain}
use Rattle.lmn_base.specs.declared.solid.Region.{Region}
use Rattle.lmn_base.specs.declared.solid.Region.TheViews.{roll-Region}
use Rattle.lmn_base.specs.declared.solid.Solid.{Solid}
use Rattle.lmn_base.specs.declared.solid.SolidAtom.{SolidAtom}
use Rattle.lmn_base.specs.Levels.{leaves_of}
use Rattle.lmn_base.specs.WellMade.{IsWellMade}
use Rattle.lmn_base_walks.proofs.ItemLemmas.{leaves_apart}
use Rattle.lmn_congruence.specs.SolidsOfPlains.{fused_leaf, fused_region, IsSolidOf}
use Rattle.lmn_adequacy.proofs.PlainSolids.{solids_of_plains_exist}
use Rattle.lmn_store_heap.specs.Heap.{Heap, HeapAtom, HeapMem, Place, top, home_by, partners_of, marks_of, IsAtom, IsMem, IsTopOrWithin, functor_of, arity_of, link_of, mark_of, mem_place_of, atoms_in, mems_in, rules_in, mems_by, atoms_by, rules_by}
use Rattle.lmn_store_heap.specs.Solid.{IsNaming, links_from, solid_atom_at, solid_atoms_at, regions_of}
use Rattle.lmn_store_heap.specs.Sound.{Sound, Valid, Forest, bare, mem, flat, Forms, IsTree}
use Rattle.lmn_store_heap.proofs.Depths.{tree_once}
use Rattle.lmn_store_heap.proofs.Groves.{forms_frame}
use Rattle.lmn_store_heap.proofs.SolidLemmas.{regions_frame}
use Rattle.lmn_congruence_splice.specs.Splice.{IsOneOf, TwiceOrNever, both_links, ports, links, link_at}
use Rattle.lmn_congruence_splice.specs.Classes.{class_of, ends_of_class}
use Rattle.lmn_congruence_splice.proofs.ClassLemmas.{ends_length}
use Rattle.lmn_congruence_splice.proofs.EndLemmas.{in_ports, ports_in, link_found, in_ends}
use Rattle.lmn_schedule_loading.specs.Adding.{CanBeFilled, Named, atom_links, IsMadeAtom, AddsToMembrane, Fills, by_id}
use Rattle.lmn_schedule_loading.specs.Joining.{connectors_of_leaves, AreFree, AreJoined}
use Rattle.lmn_schedule_loading.specs.Loaded.{IsEmpty, IsLoaded}
use Rattle.lmn_schedule_loading.proofs.Composing.{leaves_both}
use Rattle.lmn_schedule_loading.proofs.Membranes.{fused_apart}
use Rattle.lmn_schedule_loading.proofs.PlainLinks.{in_often, often_in, numbers_below, all_links, of_class, connectors_joined, region_links}
use Rattle.lmn_base.specs.Graphs.{Port}
use Rattle.lmn_congruence.specs.Links.{places}
use Rattle.lmn_congruence.proofs.TranslatedLinks.{counted, places_append as often_append}
use Rattle.lmn_store_heap.proofs.Common.{atom_with_links as has_links, nothing_in as no_some}
use Rattle.lmn_congruence_splice.proofs.Common.{in_back as right_in, in_front as left_in}
use Rattle.lmn_base.proofs.Lists.{joined_alike as both, none_is_not}
use Rattle.lmn_congruence_classes.specs.Tables.{PairsBelow, LinksBelow}
use Rattle.lmn_base.specs.Levels as levels
use Rattle.lmn_base.specs.Links as base
use Rattle.lmn_base.specs.Solids as solids
use Rattle.lmn_store_heap.proofs.ListLemmas as lemmas
use Rattle.lmn_base.specs.Lists.{In}

-- An empty heap is ready

place_none : (o : Option HeapAtom) (P : Place) → o ≡ None → option_map (λ x. x.place) o ≡ Some P → ⊥
place_none o P e f = absurd (cc (e, f))

place_mem : (o : Option HeapMem) (P : Place) → option_map (λ x. x.place) o ≡ Some P → IsSome o
place_mem None P e = absurd (cc)
place_mem (Some x) P e = refl

module _ (s : Heap) (sound : Sound s) (empty : IsEmpty s) where
  root_place : mem_place_of s s.root ≡ Some top
  root_place = (sound.listed.root s.root).1 refl

  only_top : (m : ℕ) (P : Place) → mem_place_of s m ≡ Some P → Some P ≡ Some top
  only_top m P e = sym e ∙ ap (mem_place_of s) (empty.only_root m (place_mem (s.mems m) P e)) ∙ root_place

  pub empty_ready : CanBeFilled s s.root
  empty_ready = record {
    sound = sound;
    no_atoms = no_some s.new_atoms (λ a i. place_none (s.atoms a) _ (empty.no_atom a) ((sound.listed.new_atoms a).0 i));
    no_mems = no_some s.new_mems (λ m i. absurd (let w = only_top m _ ((sound.listed.new_mems m).0 i) in cc));
    there = subst IsTopOrWithin (sym root_place) tt;
  }

  pub no_atoms_in : atoms_in s s.root ≡ []
  no_atoms_in = no_some (atoms_in s s.root) (λ a i. place_none (s.atoms a) _ (empty.no_atom a) ((sound.listed.atoms s.root a).0 i))

  pub no_mems_in : mems_in s s.root ≡ []
  no_mems_in = no_some (mems_in s s.root) (λ m i. absurd (let w = only_top m _ ((sound.listed.mems s.root m).0 i) in cc))

-- Small facts

home_kept : (o u : Option HeapAtom) → option_map (λ x. x.place) u ≡ option_map (λ x. x.place) o → IsSome (option_and_then (λ x. home_by x.place) o) → IsSome (option_and_then (λ x. home_by x.place) u)
home_kept None u e i = absurd (let w : IsSome {T = ℕ} None = i in cc)
home_kept (Some x) None e i = absurd (cc)
home_kept (Some x) (Some y) e i = let w : y.place ≡ x.place = (cc) in subst (λ P. IsSome (home_by P)) (sym w) i

kept_some : (o u : Option HeapAtom) → option_map (λ x. x.functor) u ≡ option_map (λ x. x.functor) o → IsSome u → IsSome o
kept_some None None e i = i
kept_some None (Some y) e i = absurd (cc)
kept_some (Some x) u e i = refl

-- atoms with the same functors read alike
same_atom : (name : ℕ → ℕ → ℕ) (a : ℕ) (o u : Option HeapAtom) → option_map (λ x. x.functor) u ≡ option_map (λ x. x.functor) o → solid_atom_at name a u ≡ solid_atom_at name a o
same_atom name a None None e = refl
same_atom name a None (Some y) e = absurd (cc)
same_atom name a (Some x) None e = absurd (cc)
same_atom name a (Some x) (Some y) e = let w : y.functor ≡ x.functor = (cc) in ap (λ f. record { functor = f; links = links_from name a 0 f.arity } ∷ []) w

same_atoms : (s t : Heap) (name : ℕ → ℕ → ℕ) (xs : List ℕ) → ((a : ℕ) → functor_of t a ≡ functor_of s a) → solid_atoms_at t name xs ≡ solid_atoms_at s name xs
same_atoms s t name [] h = refl
same_atoms s t name (a ∷ xs) h = both (same_atom name a (s.atoms a) (t.atoms a) (h a)) (same_atoms s t name xs h)

-- the links of pairs are below the bound
pub all_pairs : (n : ℕ) (es : List (ℕ × ℕ)) → ((z : ℕ) → IsOneOf z (both_links es) → z < n) → PairsBelow n es
all_pairs n [] h = tt
all_pairs n (e ∷ es) h = (h e.0 (inl refl), h e.1 (inr (inl refl)), all_pairs n es (λ z i. h z (inr (inr i))))

-- and those of ports
pub all_ports : {P : Type 0} (n : ℕ) (ps : List (P × ℕ)) → ((z : ℕ) → IsOneOf z (map (λ e. e.1) ps) → z < n) → LinksBelow n ps
all_ports {P} n [] h = tt
all_ports {P} n (e ∷ ps) h = (h e.1 (inl refl), all_ports n ps (λ z i. h z (inr i)))

-- of three ends of a link two are one
of_two : (L : List Port) (p q r : Port) → (length L ≡ 0) ⊎ (length L ≡ 2) → IsOneOf p L → IsOneOf q L → IsOneOf r L → p ≢ r → (p ≡ q) ⊎ (r ≡ q)
of_two [] p q r h i j k d = absurd i
of_two (a ∷ []) p q r h i j k d = absurd (elim h [ inl e ↦ (let w : 1 ≡ 0 = e in absurd (cc)) | inr e ↦ (let w : 1 ≡ 2 = e in absurd (omega (arith, w))) ])
of_two (a ∷ b ∷ []) p q r h (inl e) (inl f) k d = inl (sym e ∙ f)
of_two (a ∷ b ∷ []) p q r h (inr (inl e)) (inr (inl f)) k d = inl (sym e ∙ f)
of_two (a ∷ b ∷ []) p q r h (inl e) (inr (inl f)) (inl g) d = absurd (d (sym e ∙ g))
of_two (a ∷ b ∷ []) p q r h (inl e) (inr (inl f)) (inr (inl g)) d = inr (sym g ∙ f)
of_two (a ∷ b ∷ []) p q r h (inr (inl e)) (inl f) (inl g) d = inr (sym g ∙ f)
of_two (a ∷ b ∷ []) p q r h (inr (inl e)) (inl f) (inr (inl g)) d = absurd (d (sym e ∙ g))
of_two (a ∷ b ∷ []) p q r h (inr (inr e)) j k d = absurd e
of_two (a ∷ b ∷ []) p q r h i (inr (inr e)) k d = absurd e
of_two (a ∷ b ∷ []) p q r h i j (inr (inr e)) d = absurd e
of_two (a ∷ b ∷ c ∷ L) p q r h i j k d = absurd (elim h [ inl e ↦ (let w : suc (suc (suc (length L))) ≡ 0 = e in absurd (omega (arith, w))) | inr e ↦ (let w : suc (suc (suc (length L))) ≡ 2 = e in absurd (omega (arith, w))) ])

abbrev by_link : (ℕ → ℕ) → Option ℕ → ℕ
by_link v None = 0
by_link v (Some x) = v x

named_all : (name : ℕ → ℕ → ℕ) (v : ℕ → ℕ) (qs : List (Port × ℕ)) → ((e : Port × ℕ) → IsOneOf e qs → name e.0.0 e.0.1 ≡ v e.1) → Named name v qs
named_all name v [] h = tt
named_all name v (e ∷ qs) h = (h e (inl refl), named_all name v qs (λ f i. h f (inr i)))

-- A plain, an empty heap, and the heap in which its top was put without joining ports
module _ (p : Plain) (s t : Heap) (ps : List (Port × ℕ)) (sound : Sound s) (empty : IsEmpty s) (well : IsWellMade p) (closed : base.EachTwice (levels.links_of p.top))
    (a : AddsToMembrane s t s.root (out-Level p.top).leaves (out-Level p.top).membranes (out-Level p.top).rules ps) where
  abbrev ls : List Leaf
  ls = leaves_of p.top

  abbrev es : List (ℕ × ℕ)
  es = connectors_of_leaves ls

  made_atom : (x : ℕ) → IsAtom t x → IsMadeAtom (t.atoms x) x ps
  made_atom x i = elim (a.new_atoms x i) [ inl j ↦ absurd (none_is_not (s.atoms x) (empty.no_atom x) j) | inr h ↦ h ]

  no_partner : (x i : ℕ) → link_of t x i ≡ None
  no_partner x i = elim (cases_lt i (length (partners_of (t.atoms x)))) [
    | inl l ↦ (a.made (x, i) ((made_atom x (has_links (t.atoms x) i l)).ports i l)).1.2
    | inr l ↦ get_or_past (partners_of (t.atoms x)) i None l
  ]

  pub free : AreFree t ps
  free = record { once = a.once; there = λ q i. (let w = (a.made q i).1 in (w.0, w.1)); no_partner = no_partner }

  -- the links at ports are those of the atoms
  at_ports : (v : ℕ → ℕ) (z : ℕ) → places z (map v (links ps)) ≡ places z (map v (atom_links ls))
  at_ports v z = a.links v z ∙ sym (leaves_both v z (out-Level p.top).leaves (flat_map leaves_of (out-Level p.top).membranes)) ∙ ap (λ xs. places z (map v (atom_links xs))) (sym (leaves_apart p.top))

  unmapped : (z : ℕ) (xs : List ℕ) → places z (map (λ x. x) xs) ≡ places z xs
  unmapped z xs = ap (places z) (map-id xs)

  each : (z : ℕ) → places z (both_links es ++ links ps) ≡ places z (levels.links_of p.top)
  each z =
      let w = all_links z ls well.arities well.only_atoms in
      let k = at_ports (λ x. x) z in
      let c = unmapped z (links ps) in
      let d = unmapped z (atom_links ls) in
      let e = often_append z (both_links es) (links ps) in
      omega (arith, w, k, c, d, e)

  pub twice : TwiceOrNever (both_links es ++ links ps)
  twice z = subst (λ n. (n ≡ 0) ⊎ (n ≡ 2)) (counted z (levels.links_of p.top) ∙ sym (each z)) (closed z)

  numbered_top : (z : ℕ) → IsOneOf z (levels.links_of p.top) → z < length p.links
  numbered_top z i = (numbers_below well.table.numbered).1 z (left_in z (levels.links_of p.top) [] i)

  below : (z : ℕ) → IsOneOf z (both_links es ++ links ps) → z < length p.links
  below z i = numbered_top z (often_in z (levels.links_of p.top) (λ e. in_often z (both_links es ++ links ps) i (each z ∙ e)))

  pub pairs_below : PairsBelow (length p.links) es
  pairs_below = all_pairs (length p.links) es (λ z i. below z (left_in z (both_links es) (links ps) i))

  pub ports_below : (z : ℕ) → IsOneOf z (links ps) → z < length p.links
  ports_below z i = below z (right_in z (both_links es) (links ps) i)

  -- Then the ports of each class are joined
  module _ (u : Heap) (now : Sound u) (j : AreJoined (class_of es) ps t u) where
    abbrev m : ℕ → ℕ
    m = class_of es

    abbrev f : Forest
    f = mem s.root a.forest bare

    the_solid : (x : Solid) × IsSolidOf p x
    the_solid = solids_of_plains_exist p well closed

    abbrev x : Solid
    x = the_solid.0

    of_plain : IsSolidOf p x
    of_plain = the_solid.1

    abbrev v : ℕ → ℕ
    v = of_plain.to

    by_class : (y : ℕ) → v (m y) ≡ v y
    by_class = of_class v (λ z. z) es (λ y. refl) (connectors_joined v ls well.arities of_plain.joins)

    one_image : (y z : ℕ) → m y ≡ m z → v y ≡ v z
    one_image y z e = sym (by_class y) ∙ ap v e ∙ by_class z

    images_twice : TwiceOrNever (map v (links ps))
    images_twice z = subst (λ n. (n ≡ 0) ⊎ (n ≡ 2)) (counted z (solids.links_of_region x.root) ∙ ap (λ r. places z (solids.links_of_region r)) of_plain.is ∙ ap (places z) (region_links v p.top) ∙ sym (at_ports v z)) (of_plain.is_solid.closed z)

    atom_before : (y : ℕ) → IsAtom u y → IsAtom t y
    atom_before y i = kept_some (t.atoms y) (u.atoms y) (j.items.functors y) i

    port_of : (y i : ℕ) → i < arity_of u y → IsOneOf {A = Port} (y, i) (ports ps)
    port_of y i l = let k : i < arity_of t y = subst (λ n. i < n) (j.items.arities y) l in (made_atom y (has_links (t.atoms y) i k)).ports i k

    -- the tree
    root_is : u.root ≡ s.root
    root_is = j.items.root ∙ a.root

    mems_same : (k : ℕ) → u.mems k ≡ t.mems k
    mems_same k = ap (λ g. g k) j.items.mems

    no_mems : mems_in t s.root ≡ a.mems
    no_mems = a.mems_are ∙ ap (λ xs. xs ++ a.mems) (no_mems_in s sound empty)

    inner_forms : Forms u a.forest (mems_in u s.root)
    inner_forms = forms_frame t u a.forest (mems_in u s.root) (λ k i. ap mems_by (mems_same k)) (subst (Forms t a.forest) (sym (ap mems_by (mems_same s.root) ∙ no_mems)) a.forms)

    forms : Forms u f (u.root ∷ [])
    forms = ([], ap (λ r. r ∷ []) root_is, inner_forms, refl)

    mem_inside : (k : ℕ) → IsMem u k → (k ≡ s.root) ⊎ In k (flat a.forest)
    mem_inside k i = elim (a.new_mems k (subst (λ (o : Option HeapMem). IsSome o) (mems_same k) i)) [ inl h ↦ inl (empty.only_root k h) | inr h ↦ inr h ]

    tree : IsTree u f
    tree = record {
      forms = forms;
      once = tree_once u now.listed f forms;
      all = λ k i. elim (mem_inside k i) [ inl e ↦ inl (sym e) | inr h ↦ inr (lemmas.in_left k (flat a.forest) [] h) ];
    }

    valid : Valid u
    valid = record {
      sound = now;
      settled = record {
        atoms = λ y i. home_kept (t.atoms y) (u.atoms y) (j.items.places y) (made_atom y (atom_before y i)).in_place;
        mems = λ k i. elim (mem_inside k i) [
          | inl e ↦ inl ((now.listed.root k).1 (e ∙ sym root_is))
          | inr h ↦ inr (subst (λ (o : Option HeapMem). IsSome (option_and_then (λ z. home_by z.place) o)) (sym (mems_same k)) (a.new k h).1)
        ];
      };
      full = λ y i l. j.all (y, i) (port_of y i l);
      no_connector = λ y i e. (let w = home_atom (u.atoms y) i in (made_atom y (atom_before y w)).no_connector (sym (j.items.functors y) ∙ e));
      tree = (f, tree);
    }
      where
        home_atom : (o : Option HeapAtom) → IsSome (option_and_then (λ z. home_by z.place) o) → IsSome o
        home_atom None i = absurd (let w : IsSome {T = ℕ} None = i in cc)
        home_atom (Some z) i = refl

    unmarked : (y i : ℕ) → mark_of u y i ≡ 0
    unmarked y i = j.items.marks y i ∙ by (t.atoms y) refl
      where
        by : (o : Option HeapAtom) → t.atoms y ≡ o → slice_index_or (marks_of o) i 0 ≡ 0
        by None e = refl
        by (Some z) e = ap (λ (o : Option HeapAtom). slice_index_or (marks_of o) i 0) (sym e) ∙ (made_atom y (subst (λ (o : Option HeapAtom). IsSome o) (sym e) refl)).unmarked i

    -- its solid
    abbrev name : ℕ → ℕ → ℕ
    name y i = by_link v (link_at ps (y, i))

    name_at : (q : Port) (y : ℕ) → IsOneOf {A = Port × ℕ} (q, y) ps → name q.0 q.1 ≡ v y
    name_at q y i = ap (by_link v) (link_found ps a.once q y i)

    named : Named name v ps
    named = named_all name v ps (λ e i. name_at e.0 e.1 i)

    joined_names : (q r : Port) → link_of u q.0 q.1 ≡ Some r → name q.0 q.1 ≡ name r.0 r.1
    joined_names q r e = let w = j.one_class q r e in name_at q w.first w.at_first ∙ one_image w.first w.second w.same ∙ sym (name_at r w.second w.at_second)

    the_ends : (z : ℕ) → (length (ends_of_class v z ps) ≡ 0) ⊎ (length (ends_of_class v z ps) ≡ 2)
    the_ends z = elim (images_twice z) [ inl e ↦ inl (ends_length v z ps ∙ e) | inr e ↦ inr (ends_length v z ps ∙ e) ]

    end_of : (q : Port) (z : ℕ) → IsOneOf q (ports ps) → name q.0 q.1 ≡ z → IsOneOf q (ends_of_class v z ps)
    end_of q z i e = let w = ports_in ps q i in in_ends v z ps q w.0 w.1 (sym (name_at q w.0 w.1) ∙ e)

    apart_names : (q r : Port) → IsOneOf q (ports ps) → IsOneOf r (ports ps) → name q.0 q.1 ≡ name r.0 r.1 → (q ≡ r) ⊎ (link_of u q.0 q.1 ≡ Some r)
    apart_names q r i k e = by (link_of u q.0 q.1) refl (j.all q i)
      where
        by : (o : Option Port) → link_of u q.0 q.1 ≡ o → IsSome o → (q ≡ r) ⊎ (link_of u q.0 q.1 ≡ Some r)
        by None c h = absurd (let w : IsSome {T = Port} None = h in cc)
        by (Some b) c h =
            let w = j.one_class q b c in
            let z : ℕ = name q.0 q.1 in
            let d : q ≢ b = λ g. now.paired.apart q.0 q.1 (c ∙ ap Some (sym g)) in
            elim (of_two (ends_of_class v z ps) q r b (the_ends z) (end_of q z i refl) (end_of r z k (sym e)) (end_of b z (in_ports ps b w.second w.at_second) (sym (joined_names q b c))) d) [
              | inl g ↦ inl g
              | inr g ↦ inr (c ∙ ap Some g)
            ]

    naming : IsNaming u name
    naming = record {
      joined = λ y i b k e. joined_names (y, i) (b, k) e;
      apart = λ y i b k l h e. elim (apart_names (y, i) (b, k) (port_of y i l) (port_of b k h) e) [
        | inl g ↦ inl (ap (λ (q : Port). q.0) g, ap (λ (q : Port). q.1) g)
        | inr g ↦ inr g
      ];
    }

    root_atoms : solid_atoms_at u name (atoms_in u s.root) ≡ flat_map (fused_leaf v) (out-Level p.top).leaves
    root_atoms = same_atoms t u name (atoms_in u s.root) j.items.functors ∙ ap (λ (o : Option HeapMem). solid_atoms_at t name (atoms_by o)) (mems_same s.root)
        ∙ ap (solid_atoms_at t name) (a.atoms_are ∙ ap (λ xs. xs ++ a.atoms) (no_atoms_in s sound empty)) ∙ a.here v name named

    inner_regions : regions_of u name a.forest ≡ map (fused_region v) (out-Level p.top).membranes
    inner_regions = regions_frame u t name name a.forest (λ k i. (
      same_atoms t u name (atoms_in u k) j.items.functors ∙ ap (λ (o : Option HeapMem). solid_atoms_at t name (atoms_by o)) (mems_same k),
      ap rules_by (mems_same k),
    )) ∙ a.below v name named

    root_rules : rules_in u s.root ≡ (out-Level p.top).rules
    root_rules = ap rules_by (mems_same s.root) ∙ a.rules_are ∙ ap (λ xs. xs ++ (out-Level p.top).rules) empty.no_rule

    abbrev region : List SolidAtom → List Region → List ℕ → Region
    region xs rs ks = roll-Region (record { atoms = xs; membranes = rs; rules = ks })

    root_region : regions_of u name f ≡ x.root ∷ []
    root_region = (λ z. region (root_atoms z) (inner_regions z) (root_rules z) ∷ []) ∙ ap (λ r. r ∷ []) (sym (fused_apart v p.top) ∙ sym of_plain.is)

    pub loaded : IsLoaded p u
    loaded = record {
      valid = valid;
      unmarked = unmarked;
      solid = x;
      of_heap = record { forest = f; tree = tree; name = name; naming = naming; root = root_region; count = of_plain.is_solid.numbered.0; numbers = of_plain.is_solid.numbered.1 };
      of_plain = of_plain;
    }

-- The same by the handles of a store
module _ {A : Type 0} (id : A → ℕ) (p : Plain) (s t : Heap) (r n : ℕ) (none filled slice : List ((A × ℕ) × ℕ)) (pairs : List (ℕ × ℕ)) (sound : Sound s) (empty : IsEmpty s) (well : IsWellMade p) (closed : base.EachTwice (levels.links_of p.top))
    (root : r ≡ s.root) (size : n ≡ length p.links) (start : none ≡ []) (f : Fills id s t r (out-Level p.top).leaves (out-Level p.top).membranes (out-Level p.top).rules none filled) (e : slice ≡ filled) (d : pairs ≡ connectors_of_leaves (leaves_of p.top)) where
  whole : slice ≡ f.more
  whole = e ∙ f.are ∙ ap (λ ps. ps ++ f.more) start

  adds : AddsToMembrane s t s.root (out-Level p.top).leaves (out-Level p.top).membranes (out-Level p.top).rules (by_id id slice)
  adds = subst (λ k. AddsToMembrane s t k (out-Level p.top).leaves (out-Level p.top).membranes (out-Level p.top).rules (by_id id slice)) root
      (subst (λ ps. AddsToMembrane s t r (out-Level p.top).leaves (out-Level p.top).membranes (out-Level p.top).rules (by_id id ps)) (sym whole) f.adds)

  links_kept : (ps : List ((A × ℕ) × ℕ)) → links (by_id id ps) ≡ map (λ e. e.1) ps
  links_kept [] = refl
  links_kept (x ∷ ps) = ap (λ xs. x.1 ∷ xs) (links_kept ps)

  pub connectors_fit : PairsBelow n pairs
  connectors_fit = subst (λ k. PairsBelow k pairs) (sym size) (subst (PairsBelow (length p.links)) (sym d) (pairs_below p s t (by_id id slice) sound empty well closed adds))

  pub ports_fit : LinksBelow n slice
  ports_fit = subst (λ k. LinksBelow k slice) (sym size) (all_ports (length p.links) slice (λ z i. ports_below p s t (by_id id slice) sound empty well closed adds z (subst (IsOneOf z) (sym (links_kept slice)) i)))

  pub are_free : AreFree t (by_id id slice)
  are_free = free p s t (by_id id slice) sound empty well closed adds

  pub are_twice : TwiceOrNever (both_links pairs ++ links (by_id id slice))
  are_twice = subst (λ es. TwiceOrNever (both_links es ++ links (by_id id slice))) (sym d) (twice p s t (by_id id slice) sound empty well closed adds)

  pub is_loaded : (u : Heap) → Sound u → AreJoined (class_of pairs) (by_id id slice) t u → IsLoaded p u
  is_loaded u now j = loaded p s t (by_id id slice) sound empty well closed adds u now (subst (λ es. AreJoined (class_of es) (by_id id slice) t u) d j)
