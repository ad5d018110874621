-- The links of two firings of one rule: two ports are joined in the one where their images are in the other.
use Rattle.std.proofs.Common.{ℕ, true, ◌<◌, ◌≤◌, ◌≡◌, ◌⊎◌, List, ◌++◌, length, Option, Some, None, IsSome, refl, sym, ap, subst, ◌∙◌, inl, inr, arith}
use Rattle.std.specs.Option.{option_and_then, option_map}
use Rattle.std.specs.Prelude.{slice_index_or}
use Rattle.lmn_base.specs.Graphs.{Port}
use Rattle.lmn_base.specs.Lists.{In}
use Rattle.lmn_base.proofs.Common.{port_cases, port_number, port_of_number}
use Rattle.lmn_store_heap.specs.Heap.{Heap, HeapAtom, IsMemInPlace, arity_of, home_by, partners_of}
use Rattle.lmn_store_heap.specs.Sound.{Valid}
use Rattle.lmn_store_heap.proofs.Common.{in_place_atom}
use Rattle.lmn_solid_heads.specs.declared.items.HeadItem.{HeadItem}
use Rattle.lmn_solid_heads.specs.Heads.{atoms_of}
use Rattle.lmn_solid_heads.specs.Embeddings.{Lies}
use Rattle.lmn_congruence_splice.specs.Splice.{IsOneOf, of_rule, of_solid, ports}
use Rattle.lmn_congruence_splice.proofs.Joining.{same_some}
use Rattle.lmn_instr_code.specs.declared.instr.AtomPort.{AtomPort}
use Rattle.lmn_instr_code.specs.declared.instr.NewPort.{NewPort}
use Rattle.lmn_ground_parts.specs.Walks.{neighbour, net}
use Rattle.lmn_ground_parts.proofs.AnswerLaws.{answer_in}
use Rattle.lmn_ground_parts.proofs.WalkLaws.{kept_seen}
use Rattle.lmn_solid_bodies.specs.declared.items.BodyItem.{BodyItem}
use Rattle.lmn_solid_bodies.specs.Fired.{images_of}
use Rattle.lmn_solid_bodies.specs.Items.{connectors, new_ports, old_ports}
use Rattle.lmn_solid_bodies.specs.Made.{new_atoms}
use Rattle.lmn_solid_bodies.specs.Names.{StandsPort}
use Rattle.lmn_solid_bodies.specs.Rules.{NestedRule}
use Rattle.lmn_solid_bodies.specs.Running.{Registers, new_port, old_port}
use Rattle.lmn_solid_bodies.specs.Tied.{partners}
use Rattle.lmn_solid_bodies.specs.Within.{FiresFlat, FiresWithin, HoldsRests, IsCopyIn, dropped_atoms}
use Rattle.lmn_solid_bodies.proofs.BodyPorts.{of_heap, heap_in}
use Rattle.lmn_solid_bodies.proofs.Brought.{atom_not_none}
use Rattle.lmn_solid_bodies.proofs.Firing.{RestsHold}
use Rattle.lmn_solid_bodies.proofs.HeadPorts.{in_map, of_map}
use Rattle.lmn_solid_bodies.proofs.Held.{held}
use Rattle.lmn_verify_renaming.specs.Renamed.{Renaming, SameButRoom, renamed, renamed_port}
use Rattle.lmn_verify_renaming.proofs.Reading.{arity_there, home_there, link_kept}
use Rattle.lmn_verify_renaming.specs.FiringLaws.{SameMatch}
use Rattle.lmn_verify_renaming.proofs.Ends.{CopiesOwn, Raw, Stays, links_twice, live_stands, new_port_atom, new_ports_once, news, old_ports_once, old_register, old_taken, olds, other_lives}
use Rattle.lmn_verify_renaming.proofs.Others.{Ends, other_alike}

-- the root port of a copy is one of its atoms
copy_own : (h h' : Heap) (root copy : Port) (copied : List ℕ) → IsCopyIn h h' root copy copied → In copy.0 copied
copy_own h h' root copy copied w =
    subst (λ z. In z copied) (sym (ap (λ (z : Port). z.0) w.entered))
    (answer_in w.atoms copied root.0 (same_long (length w.atoms) (length copied) w.long) (kept_seen (arity_of h) (neighbour (net h) root (λ _. true)) w.part root.0 (inl refl)))
  where
    same_long : (a b : ℕ) → b ≡ a → a ≤ b
    same_long a b e = omega (arith, e)

module _ (p : Renaming) (h k : Heap) (alike : SameButRoom (renamed p h) k) where
  -- a port as a port of the other heap
  abbrev pub there : Port → Port
  there x = renamed_port p.atoms.to x

  pub partner_there : (x y : Port) → partners h x ≡ Some y → partners k (there x) ≡ Some (there y)
  partner_there x y e = ap (λ (o : Option HeapAtom). slice_index_or (partners_of o) x.1 None) (alike.atoms (p.atoms.to x.0)) ∙ link_kept p h x.0 x.1 y.0 y.1 e

  pub stands_there : (x : Port) → StandsPort h x → StandsPort k (there x)
  stands_there x w = (
    subst (λ (o : Option ℕ). IsSome o) (sym (ap (λ (o : Option HeapAtom). option_and_then (λ y. home_by y.place) o) (alike.atoms (p.atoms.to x.0)) ∙ home_there p h x.0)) (mapped _ w.0),
    subst (λ z. x.1 < z) (sym (ap (λ (o : Option HeapAtom). length (partners_of o)) (alike.atoms (p.atoms.to x.0)) ∙ arity_there p h x.0)) w.1,
  )
    where
      mapped : (o : Option ℕ) → IsSome o → IsSome (option_map p.mems.to o)
      mapped None i = absurd (cc)
      mapped (Some y) i = refl

module _ (head : List HeadItem) (body : List BodyItem) (n : ℕ) (nested : NestedRule head body n) (p : Renaming) (h k : Heap) (vh : Valid h) (alike : SameButRoom (renamed p h) k)
    (m : ℕ) (stand : IsMemInPlace h m) (r s : Registers) (lies : Lies h head m r.head.images) (rests_h : HoldsRests h r head) (same : SameMatch p head body r s)
    (h' k' : Heap) (f : FiresFlat head body r h h') (g : FiresFlat head body s k k')
    (new_there : (e : NewPort × ℕ) → IsOneOf e (new_ports (length (atoms_of head)) 0 body) → new_port s e.0 ≡ renamed_port p.atoms.to (new_port r e.0))
    (raw_stands : (x : Port) → Raw h r head body f.parts x → StandsPort h' x) where
  abbrev N : ℕ
  N = length (atoms_of head)

  abbrev first : FiresWithin h f.name r head body (images_of r head ++ f.parts) h'
  first = f.fires

  abbrev second : FiresWithin k g.name s head body (images_of s head ++ g.parts) k'
  second = g.fires

  abbrev taken_atoms : List ℕ
  taken_atoms = images_of r head ++ f.parts

  abbrev S : Port → Type 0
  S x = Stays h taken_atoms (dropped_atoms r head) x

  rests : RestsHold h r body taken_atoms (dropped_atoms r head)
  rests = (held h vh head body n m r nested lies stand rests_h f.parts f.are f.name f.named).rests

  abbrev made_ports : List (Port × ℕ)
  made_ports = news h vh head body n m r nested.atoms lies f.parts f.are (dropped_atoms r head) rests

  abbrev left_ports : List (Port × ℕ)
  left_ports = olds h vh head body n m r nested.atoms lies f.parts f.are (dropped_atoms r head) rests

  own : CopiesOwn r 0 body
  own e i = copy_own h h' (r.head.images.part e.1) (r.copy e.0) (r.copied e.0) (first.copies e i)

  -- the images of a link of the rule, of the link of a port of the heap before, and of one after
  abbrev image : ℕ → ℕ
  image x = port_number (first.to (of_rule x), second.to (of_rule x))

  abbrev colour : Port → ℕ
  colour x = port_number (first.to (of_solid (f.name x)), second.to (of_solid (g.name (renamed_port p.atoms.to x))))

  abbrev code : Port → ℕ
  code x = port_number (first.number x, second.number (renamed_port p.atoms.to x))

  colour_of_partner : (x y : Port) → StandsPort h x → partners h x ≡ Some y → colour y ≡ colour x
  colour_of_partner x y st e =
      let w = f.named.partner x st in
      let v = g.named.partner (there p h k alike x) (stands_there p h k alike x st) in
      let one : f.name y ≡ f.name x = ap f.name (same_some y w.0 (sym e ∙ w.2)) ∙ w.4 in
      let two : g.name (renamed_port p.atoms.to y) ≡ g.name (renamed_port p.atoms.to x) = ap g.name (same_some (there p h k alike y) v.0 (sym (partner_there p h k alike x y e) ∙ v.2)) ∙ v.4 in
      λ t. port_number (first.to (of_solid (one t)), second.to (of_solid (two t)))

  old_there : (e : AtomPort × ℕ) → IsOneOf e (old_ports head) → old_port s e.0 ≡ renamed_port p.atoms.to (old_port r e.0)
  old_there e i = let q = same.atoms e.0.atom (old_register h vh head body n m r nested.atoms lies f.parts f.are (dropped_atoms r head) rests e i) in λ t. (q t, e.0.port)

  old_code : (e : AtomPort × ℕ) → IsOneOf e (old_ports head) → image e.1 ≡ colour (old_port r e.0)
  old_code e i =
      let one = first.heads_fused e i in
      let two : second.to (of_rule e.1) ≡ second.to (of_solid (g.name (renamed_port p.atoms.to (old_port r e.0)))) = second.heads_fused e i ∙ ap (λ z. second.to (of_solid (g.name z))) (old_there e i) in
      λ t. port_number (one t, two t)

  new_code : (e : NewPort × ℕ) → IsOneOf e (new_ports N 0 body) → code (new_port r e.0) ≡ image e.1
  new_code e i =
      let one = first.made_links e i in
      let two : second.number (renamed_port p.atoms.to (new_port r e.0)) ≡ second.to (of_rule e.1) = ap second.number (sym (new_there e i)) ∙ second.made_links e i in
      λ t. port_number (one t, two t)

  stay_code : (x : Port) → S x → code x ≡ colour x
  stay_code x w =
      let one = first.kept_links x w.0 in
      let two = second.kept_links (renamed_port p.atoms.to x) (stands_there p h k alike x (w.0, w.1)).0 in
      λ t. port_number (one t, two t)

  new_not_there : (x : Port) → S x → IsOneOf x (ports made_ports) → ⊥
  new_not_there x w i =
      let v = of_map (λ (e : Port × ℕ). e.0) x made_ports i in
      let j = new_port_atom r first.rests N 0 body own v.0 v.1 in
      atom_not_none (h.atoms x.0) (first.new_fresh x.0 (subst (λ (z : Port). In z.0 (new_atoms r first.rests N 0 body)) v.2 j)) (in_place_atom h x.0 w.0)

  ends : Ends (partners h) made_ports left_ports (connectors body) S image colour code
  ends = record {
    back = λ x y e. vh.sound.paired.back x.0 x.1 y.0 y.1 e;
    apart = λ x e. vh.sound.paired.apart x.0 x.1 e;
    twice = links_twice h vh head body n m r nested.atoms lies f.parts f.are (dropped_atoms r head) rests;
    news_once = new_ports_once r first.rests N 0 body own first.new_once;
    olds_once = old_ports_once h vh head body n m r nested.atoms lies f.parts f.are (dropped_atoms r head) rests;
    not_old = λ x w i. w.2 (old_taken h vh head body n m r nested.atoms lies f.parts f.are (dropped_atoms r head) rests x i);
    not_new = new_not_there;
    live = λ x l.
        let st = live_stands h vh head body n m r nested.atoms lies f.parts f.are (dropped_atoms r head) rests x l in
        let w = f.named.partner x st in
        (w.0, w.2, other_lives h vh head body n m r nested.atoms lies f.parts f.are (dropped_atoms r head) rests x w.0 l w.1 (vh.sound.paired.back x.0 x.1 w.0.0 w.0.1 w.2), colour_of_partner x w.0 st w.2);
    wires = λ e i. let one = first.connectors_fused e i in let two = second.connectors_fused e i in λ t. port_number (one t, two t);
    olds_colour = λ e i. let u = of_heap (old_port r) e (old_ports head) i in subst (λ (z : Port × ℕ). image z.1 ≡ colour z.0) u.2 (old_code u.0 u.1);
    new_code = λ e i. let u = of_heap (new_port r) e (new_ports N 0 body) i in subst (λ (z : Port × ℕ). code z.0 ≡ image z.1) u.2 (new_code u.0 u.1);
    stay_code = stay_code;
  }

  -- a port with a raw link stays or is listed as a new one, and stands in the end
  listed : (x : Port) → Raw h r head body f.parts x → S x ⊎ IsOneOf x (ports made_ports)
  listed x (inl w) = inl w
  listed x (inr w) = inr (subst (λ z. IsOneOf z (ports made_ports)) w.2 (in_map (λ (e : Port × ℕ). e.0) (new_port r w.0.0, w.0.1) made_ports (heap_in (new_port r) w.0 (new_ports N 0 body) w.1)))

  raw_of : (x : Port) → S x ⊎ IsOneOf x (ports made_ports) → Raw h r head body f.parts x
  raw_of x (inl w) = inl w
  raw_of x (inr i) =
      let v = of_map (λ (e : Port × ℕ). e.0) x made_ports i in
      let u = of_heap (new_port r) v.0 (new_ports N 0 body) v.1 in
      inr (u.0, u.1, ap (λ (e : Port × ℕ). e.0) u.2 ∙ v.2)

  decided : (x : Port) → Raw h r head body f.parts x → S x ⊎ (S x → ⊥)
  decided x w = elim (listed x w) [ inl v ↦ inl v | inr i ↦ inr (λ v. new_not_there x v i) ]

  -- Two ports that have one number after the one firing have one after the other.
  pub numbers_alike : (x y : Port) → Raw h r head body f.parts x → Raw h r head body f.parts y → f.fires.number x ≡ f.fires.number y
      → g.fires.number (renamed_port p.atoms.to x) ≡ g.fires.number (renamed_port p.atoms.to y)
  numbers_alike x y raw_x raw_y e = elim (port_cases x y) [
    | inl same_port ↦ ap (λ (z : Port). second.number (renamed_port p.atoms.to z)) same_port
    | inr differ ↦ elim (first.named.only x y (raw_stands x raw_x) (raw_stands y raw_y) e) [
      | inl same_port ↦ absurd (differ same_port)
      | inr join ↦ sym (ap (λ (z : Port). z.1) (port_of_number (first.number y, second.number (renamed_port p.atoms.to y)) (first.number x, second.number (renamed_port p.atoms.to x))
          (other_alike (partners h) made_ports left_ports (connectors body) S image colour code ends x y differ (decided x raw_x) (decided y raw_y) (listed x raw_x)
          (λ z w c. elim (first.named.only x z (raw_stands x raw_x) (raw_stands z (raw_of z w)) (sym (ap (λ (q : Port). q.0) (port_of_number (first.number z, second.number (renamed_port p.atoms.to z)) (first.number x, second.number (renamed_port p.atoms.to x)) c)))) [
            | inl one ↦ inl (sym one)
            | inr other ↦ inr (same_some z y (sym other ∙ join))
          ]))))
    ]
  ]
