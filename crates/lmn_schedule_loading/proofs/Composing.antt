-- What is added to a membrane, one part after another.
use Rattle.std.proofs.Common.{ℕ, ◌≡◌, ◌≢◌, ◌⊎◌, ◌+◌, List, [], ◌∷◌, ◌++◌, map, Option, Some, None, IsSome, refl, sym, ap, subst, ◌∙◌, inl, inr, arith, append_assoc}
use Rattle.std.specs.List.{flat_map}
use Rattle.std.specs.Option.{option_and_then}
use Rattle.std.proofs.lemmas.Grind.{flat_map-append}
use Rattle.std.proofs.lemmas.List.{map-append}
use Rattle.lmn_base.specs.declared.level.Leaf.{Leaf}
use Rattle.lmn_base.specs.declared.level.Level.{Level}
use Rattle.lmn_base.specs.Levels.{leaves_of}
use Rattle.lmn_congruence.specs.SolidsOfPlains.{fused_leaf, fused_region}
use Rattle.lmn_store_heap.specs.Heap.{Heap, HeapAtom, HeapMem, home_by, IsAtom, IsMem, IsPlacedMem, atoms_in, mems_in, rules_in, mems_by, atoms_by, rules_by}
use Rattle.lmn_store_heap.specs.Solid.{solid_atoms_at, solid_atom_at, regions_of}
use Rattle.lmn_store_heap.specs.Sound.{Forest, bare, mem, flat}
use Rattle.lmn_store_heap.proofs.Groves.{beside, forms_frame, forms_beside}
use Rattle.lmn_store_heap.proofs.SolidLemmas.{atoms_append, regions_beside, regions_frame}
use Rattle.lmn_congruence_splice.specs.Splice.{IsOneOf, NoneTwice, ports, links}
use Rattle.lmn_schedule_loading.specs.Adding.{CanBeFilled, Named, atom_links, atom_leaf_links, IsMadeAtom, IsFreePort, AddsToMembrane}
use Rattle.lmn_base.specs.Graphs.{Port}
use Rattle.lmn_congruence.specs.Links.{places}
use Rattle.lmn_base.proofs.Lists.{nothing_added as none_more, joined_alike as both, in_either, none_is_not}
use Rattle.lmn_congruence.proofs.TranslatedLinks.{places_append as often_append}
use Rattle.lmn_store_heap.proofs.Calls.{stands_some as standing_is_mem}
use Rattle.lmn_congruence_splice.proofs.Common.{in_append as either_in, in_back as right_in, in_front as left_in, links_append, ports_append, distinct_append}
use Rattle.lmn_store_heap.proofs.ListLemmas as lemmas
use Rattle.lmn_base.specs.Lists.{In}
use Rattle.lmn_store_heap.proofs.Common.{listed_atom as listed_is_atom, placed_is_mem}

-- Lists

-- ports of two lists that are named are so in the first
pub named_first : (name : ℕ → ℕ → ℕ) (v : ℕ → ℕ) (ps qs : List (Port × ℕ)) → Named name v (ps ++ qs) → Named name v ps
named_first name v [] qs n = tt
named_first name v (e ∷ ps) qs n = (n.0, named_first name v ps qs n.1)

-- and in the second
pub named_second : (name : ℕ → ℕ → ℕ) (v : ℕ → ℕ) (ps qs : List (Port × ℕ)) → Named name v (ps ++ qs) → Named name v qs
named_second name v [] qs n = n
named_second name v (e ∷ ps) qs n = named_second name v ps qs n.1

-- Forests side by side

-- a membrane of two forests is in one of them
pub in_beside : (f g : Forest) (k : ℕ) → In k (flat (beside f g)) → In k (flat f) ⊎ In k (flat g)
in_beside bare g k i = inr i
in_beside (mem m x r) g k (inl e) = inl (inl e)
in_beside (mem m x r) g k (inr i) = elim (in_either k (flat x) (flat (beside r g)) i) [
  | inl j ↦ inl (inr (lemmas.in_left k (flat x) (flat r) j))
  | inr j ↦ elim (in_beside r g k j) [ inl q ↦ inl (inr (lemmas.in_right k (flat x) (flat r) q)) | inr q ↦ inr q ]
]

-- and one of the first is in both
pub beside_first : (f g : Forest) (k : ℕ) → In k (flat f) → In k (flat (beside f g))
beside_first bare g k i = absurd i
beside_first (mem m x r) g k (inl e) = inl e
beside_first (mem m x r) g k (inr i) = elim (in_either k (flat x) (flat r) i) [
  | inl j ↦ inr (lemmas.in_left k (flat x) (flat (beside r g)) j)
  | inr j ↦ inr (lemmas.in_right k (flat x) (flat (beside r g)) (beside_first r g k j))
]

-- and so one of the second
pub beside_second : (f g : Forest) (k : ℕ) → In k (flat g) → In k (flat (beside f g))
beside_second bare g k i = i
beside_second (mem m x r) g k i = inr (lemmas.in_right k (flat x) (flat (beside r g)) (beside_second r g k i))

-- Items

-- the atoms of a list, in two heaps
pub atoms_frame : (s t : Heap) (name : ℕ → ℕ → ℕ) (xs : List ℕ) → ((a : ℕ) → In a xs → t.atoms a ≡ s.atoms a) → solid_atoms_at t name xs ≡ solid_atoms_at s name xs
atoms_frame s t name [] h = refl
atoms_frame s t name (a ∷ xs) h = both (ap (solid_atom_at name a) (h a (inl refl))) (atoms_frame s t name xs (λ b i. h b (inr i)))

made_more : (o : Option HeapAtom) (a : ℕ) (ps qs : List (Port × ℕ)) → ((p : Port) → IsOneOf p (ports ps) → IsOneOf p (ports qs)) → IsMadeAtom o a ps → IsMadeAtom o a qs
made_more o a ps qs f h = record { in_place = h.in_place; no_connector = h.no_connector; ports = λ i l. f (a, i) (h.ports i l); unmarked = h.unmarked }

-- a port of the first list is one of both
pub in_first : (ps qs : List (Port × ℕ)) (p : Port) → IsOneOf p (ports ps) → IsOneOf p (ports (ps ++ qs))
in_first ps qs p i = subst (IsOneOf p) (sym (ports_append ps qs)) (left_in p (ports ps) (ports qs) i)

-- and so is one of the second
pub in_second : (ps qs : List (Port × ℕ)) (p : Port) → IsOneOf p (ports qs) → IsOneOf p (ports (ps ++ qs))
in_second ps qs p i = subst (IsOneOf p) (sym (ports_append ps qs)) (right_in p (ports ps) (ports qs) i)

-- how often a link is among those of two lists
pub often_both : (v : ℕ → ℕ) (z : ℕ) (xs ys : List ℕ) → places z (map v (xs ++ ys)) ≡ places z (map v xs) + places z (map v ys)
often_both v z xs ys = ap (places z) (map-append v xs ys) ∙ often_append z (map v xs) (map v ys)

-- a link has in both lists the places of each
pub links_both : (v : ℕ → ℕ) (z : ℕ) (ps qs : List (Port × ℕ)) → places z (map v (links (ps ++ qs))) ≡ places z (map v (links ps)) + places z (map v (links qs))
links_both v z ps qs = ap (λ xs. places z (map v xs)) (links_append ps qs) ∙ often_both v z (links ps) (links qs)

-- and so in leaves
pub leaves_both : (v : ℕ → ℕ) (z : ℕ) (ls ks : List Leaf) → places z (map v (atom_links (ls ++ ks))) ≡ places z (map v (atom_links ls)) + places z (map v (atom_links ks))
leaves_both v z ls ks = ap (λ xs. places z (map v xs)) (flat_map-append atom_leaf_links ls ks) ∙ often_both v z (atom_links ls) (atom_links ks)

-- and in membranes
pub inner_both : (v : ℕ → ℕ) (z : ℕ) (ls ks : List Level) →
    places z (map v (atom_links (flat_map leaves_of (ls ++ ks)))) ≡ places z (map v (atom_links (flat_map leaves_of ls))) + places z (map v (atom_links (flat_map leaves_of ks)))
inner_both v z ls ks = ap (λ xs. places z (map v (atom_links xs))) (flat_map-append leaves_of ls ks) ∙ leaves_both v z (flat_map leaves_of ls) (flat_map leaves_of ks)

-- One part and then another
module _ (s t u : Heap) (m : ℕ) (ls ls' : List Leaf) (is is' : List Level) (rs rs' : List ℕ) (ps ps' : List (Port × ℕ)) (here : CanBeFilled s m)
    (a : AddsToMembrane s t m ls is rs ps) (b : AddsToMembrane t u m ls' is' rs' ps') where
  is_mem : IsMem s m
  is_mem = standing_is_mem (s.mems m) here.there

  not_here : (k : ℕ) → In k (flat a.forest) → k ≢ m
  not_here k i e = none_is_not (s.mems m) (subst (λ j. s.mems j ≡ None) e (a.new k i).0) is_mem

  mem_stays : (k : ℕ) → In k (flat a.forest) → u.mems k ≡ t.mems k
  mem_stays k i = b.mems_kept k (placed_is_mem (t.mems k) (a.new k i).1) (not_here k i)

  atom_stays : (k x : ℕ) → In x (atoms_in t k) → u.atoms x ≡ t.atoms x
  atom_stays k x i = b.atoms_kept x (listed_is_atom t a.ready.sound.listed k x i)

  own_atom : (x : ℕ) → In x a.atoms → u.atoms x ≡ t.atoms x
  own_atom x i = atom_stays m x (subst (In x) (sym a.atoms_are) (lemmas.in_right x (atoms_in s m) a.atoms i))

  region_stays : (name : ℕ → ℕ → ℕ) → regions_of u name a.forest ≡ regions_of t name a.forest
  region_stays name = regions_frame u t name name a.forest (λ k i. (
    ap (λ (o : Option HeapMem). solid_atoms_at u name (atoms_by o)) (mem_stays k i) ∙ atoms_frame t u name (atoms_in t k) (atom_stays k),
    ap rules_by (mem_stays k i),
  ))

  port_stays : (p : Port) → IsOneOf p (ports ps) → u.atoms p.0 ≡ t.atoms p.0
  port_stays p i = b.atoms_kept p.0 (a.made p i).1.0

  apart_ports : (p : Port) → IsOneOf p (ports ps) → IsOneOf p (ports ps') → ⊥
  apart_ports p i j = none_is_not (t.atoms p.0) (b.made p j).0 (a.made p i).1.0

  keeps_atom : (x : ℕ) → IsAtom s x → IsAtom t x
  keeps_atom x i = subst (λ (o : Option HeapAtom). IsSome o) (sym (a.atoms_kept x i)) i

  fresh_before : (x : ℕ) → t.atoms x ≡ None → s.atoms x ≡ None
  fresh_before x e = by (s.atoms x) refl
    where
      by : (o : Option HeapAtom) → s.atoms x ≡ o → s.atoms x ≡ None
      by None f = f
      by (Some y) f = absurd (none_is_not (t.atoms x) e (keeps_atom x (subst (λ (o : Option HeapAtom). IsSome o) (sym f) refl)))

  made_ports : (p : Port) → IsOneOf p (ports ps) ⊎ IsOneOf p (ports ps') → (s.atoms p.0 ≡ None) × IsFreePort (u.atoms p.0) p.1
  made_ports p (inl i) = ((a.made p i).0, subst (λ o. IsFreePort o p.1) (sym (port_stays p i)) (a.made p i).1)
  made_ports p (inr i) = (fresh_before p.0 (b.made p i).0, (b.made p i).1)

  all_atoms : (x : ℕ) → IsAtom t x ⊎ IsMadeAtom (u.atoms x) x ps' → IsAtom s x ⊎ IsMadeAtom (u.atoms x) x (ps ++ ps')
  all_atoms x (inl i) = elim (a.new_atoms x i) [
    | inl j ↦ inl j
    | inr h ↦ inr (subst (λ o. IsMadeAtom o x (ps ++ ps')) (sym (b.atoms_kept x i)) (made_more (t.atoms x) x ps (ps ++ ps') (in_first ps ps') h))
  ]
  all_atoms x (inr h) = inr (made_more (u.atoms x) x ps' (ps ++ ps') (in_second ps ps') h)

  all_mems : (k : ℕ) → IsMem t k ⊎ In k (flat b.forest) → IsMem s k ⊎ In k (flat (beside a.forest b.forest))
  all_mems k (inl i) = elim (a.new_mems k i) [ inl j ↦ inl j | inr j ↦ inr (beside_first a.forest b.forest k j) ]
  all_mems k (inr i) = inr (beside_second a.forest b.forest k i)

  fresh_mem : (k : ℕ) → k ≢ m → t.mems k ≡ None → s.mems k ≡ None
  fresh_mem k d e = by (s.mems k) refl
    where
      by : (o : Option HeapMem) → s.mems k ≡ o → s.mems k ≡ None
      by None f = f
      by (Some y) f = absurd (none_is_not (t.mems k) e (subst (λ (o : Option HeapMem). IsSome o) (sym (a.mems_kept k (subst (λ (o : Option HeapMem). IsSome o) (sym f) refl) d ∙ f)) refl))

  not_there : (k : ℕ) → t.mems k ≡ None → k ≢ m
  not_there k e d = none_is_not (t.mems m) (subst (λ j. t.mems j ≡ None) d e) (standing_is_mem (t.mems m) a.ready.there)

  new_ones : (k : ℕ) → In k (flat a.forest) ⊎ In k (flat b.forest) → (s.mems k ≡ None) × IsPlacedMem u k
  new_ones k (inl i) = ((a.new k i).0, subst (λ (o : Option HeapMem). IsSome (option_and_then (λ x. home_by x.place) o)) (sym (mem_stays k i)) (a.new k i).1)
  new_ones k (inr i) = (fresh_mem k (not_there k (b.new k i).0) (b.new k i).0, (b.new k i).1)

  kept_mem : (k : ℕ) → IsMem s k → k ≢ m → u.mems k ≡ s.mems k
  kept_mem k i d = b.mems_kept k (subst (λ (o : Option HeapMem). IsSome o) (sym (a.mems_kept k i d)) i) d ∙ a.mems_kept k i d

  all_links : (v : ℕ → ℕ) (z : ℕ) → places z (map v (links (ps ++ ps'))) ≡ places z (map v (atom_links (ls ++ ls'))) + places z (map v (atom_links (flat_map leaves_of (is ++ is'))))
  all_links v z = omega (arith, links_both v z ps ps', leaves_both v z ls ls', inner_both v z is is', a.links v z, b.links v z)

  pub composed : AddsToMembrane s u m (ls ++ ls') (is ++ is') (rs ++ rs') (ps ++ ps')
  composed = record {
    ready = b.ready;
    root = b.root ∙ a.root;
    place = b.place ∙ a.place;
    atoms = a.atoms ++ b.atoms;
    mems = a.mems ++ b.mems;
    forest = beside a.forest b.forest;
    atoms_are = b.atoms_are ∙ ap (λ k. k ++ b.atoms) a.atoms_are ∙ append_assoc (atoms_in s m) a.atoms b.atoms;
    mems_are = b.mems_are ∙ ap (λ k. k ++ b.mems) a.mems_are ∙ append_assoc (mems_in s m) a.mems b.mems;
    rules_are = b.rules_are ∙ ap (λ k. k ++ rs') a.rules_are ∙ append_assoc (rules_in s m) rs rs';
    forms = forms_beside u a.forest b.forest a.mems b.mems (forms_frame t u a.forest a.mems (λ k i. ap mems_by (mem_stays k i)) a.forms) b.forms;
    here = λ v name n. atoms_append u name a.atoms b.atoms
        ∙ both (atoms_frame t u name a.atoms own_atom ∙ a.here v name (named_first name v ps ps' n)) (b.here v name (named_second name v ps ps' n))
        ∙ sym (flat_map-append (fused_leaf v) ls ls');
    below = λ v name n. regions_beside u name a.forest b.forest
        ∙ both (region_stays name ∙ a.below v name (named_first name v ps ps' n)) (b.below v name (named_second name v ps ps' n))
        ∙ sym (map-append (fused_region v) is is');
    links = all_links;
    once = subst NoneTwice (sym (ports_append ps ps')) (distinct_append (ports ps) (ports ps') a.once b.once apart_ports);
    made = λ p i. made_ports p (either_in p (ports ps) (ports ps') (subst (IsOneOf p) (ports_append ps ps') i));
    atoms_kept = λ x i. b.atoms_kept x (keeps_atom x i) ∙ a.atoms_kept x i;
    mems_kept = kept_mem;
    new_atoms = λ x i. all_atoms x (b.new_atoms x i);
    new_mems = λ k i. all_mems k (b.new_mems k i);
    new = λ k i. new_ones k (in_beside a.forest b.forest k i);
  }

-- Nothing is added
pub nothing_added : (s : Heap) (m : ℕ) → CanBeFilled s m → AddsToMembrane s s m [] [] [] []
nothing_added s m h = record {
  ready = h;
  root = refl;
  place = refl;
  atoms = [];
  mems = [];
  forest = bare;
  atoms_are = none_more (atoms_in s m);
  mems_are = none_more (mems_in s m);
  rules_are = none_more (rules_in s m);
  forms = refl;
  here = λ v name n. refl;
  below = λ v name n. refl;
  links = λ v z. refl;
  once = tt;
  made = λ p i. absurd i;
  atoms_kept = λ a i. refl;
  mems_kept = λ k i d. refl;
  new_atoms = λ a i. inl i;
  new_mems = λ k i. inl i;
  new = λ k i. absurd i;
}
