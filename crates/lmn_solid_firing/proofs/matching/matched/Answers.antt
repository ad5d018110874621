use Rattle.std.proofs.Common.{◌≡◌, ◌≤◌, ◌<◌, ◌+◌, ◌↔◌, ◌++◌, ◌∙◌, length, map, refl, ap, subst, sym, arith}
use Rattle.std.specs.Prelude.{flat_map, slice_index_or}
use Rattle.lmn_base.specs.Lists.{In}
use Rattle.lmn_solid_bodies.specs.Flattening.{membrane_named, numbering}
use Rattle.lmn_solid_firing.specs.Meant.{integer_named}
use Rattle.lmn_solid_firing.specs.Making.{AreThere}
use Rattle.std.specs.List.{zip}
use Rattle.std.proofs.lemmas.List.{length-map}
use Rattle.lmn_store_heap.specs.Heap.{IsAtom, arity_of}
use Rattle.lmn_solid_heads.specs.Embeddings.{IsMembraneImage}
use Rattle.lmn_solid_heads.specs.Heads.{atoms_of, membranes_of, typed_contexts_of}
use Rattle.lmn_solid_tables.specs.Flats.{heap_of}
use Rattle.lmn_solid_search.specs.Finding.{images, port_at}
use Rattle.lmn_solid_search.specs.Placing.{membrane_at}
use Rattle.lmn_solid_firing.specs.Pieces.{AreParts, ends_from, imaged, images_from, wires}
use Rattle.lmn_solid_firing.proofs.Telling.{atom_there, contexts_there, entry_there, images_are, named_image, named_integer, named_part, parts_there, taken_are}
use Rattle.lmn_solid_firing.proofs.Wiring.{times_split, wires_are}
use Rattle.lmn_solid_firing.proofs.matching.matched.Goals as goal

pub parts_of-requires-clause-ports : goal.parts_of-requires-clause-ports
parts_of-requires-clause-ports c = λ g l.
    let h = heap_of c.args.flat.now in
    let f = images c.args.membrane c.args.found.now in
    let k = length-map (typed_contexts_of c.args.items.now) (λ t. t.name) in
    subst (λ ps. (port_at ps g).1 < arity_of h (port_at ps g).0) (sym c.as_slice-3.ensures) (entry_there h c.requires.valid c.args.items.now c.args.membrane f c.requires.lies c.requires.head g (omega (arith, l, k)))

pub add_wires-requires-clause-images : goal.add_wires-requires-clause-images
add_wires-requires-clause-images c = λ n l.
    subst (λ xs. IsAtom (heap_of c.args.flat.now) (slice_index_or xs n 0)) (sym c.as_slice-5.ensures)
    (atom_there (heap_of c.args.flat.now) c.requires.valid c.args.items.now c.args.membrane (images c.args.membrane c.args.found.now) c.requires.lies n l)

pub add_wires-requires-clause-twice : goal.add_wires-requires-clause-twice
add_wires-requires-clause-twice c = λ x. subst (λ n. n ≤ 2) (times_split c.args.flat.now c.as_slice-5.result.now c.args.items.now x) (c.requires.head.at_most_twice x)

pub returns-clause-matched : goal.returns-clause-matched
returns-clause-matched c =
    let flat = c.args.flat.now in
    let items = c.args.items.now in
    let found = c.args.found.now in
    let f = images c.args.membrane found in
    let names = (numbering (λ l. l.contexts) c.args.rule.now.head).names 0 1 in
    let rule_names = (numbering (λ l. l.rule_contexts) c.args.rule.now.head).names 0 1 in
    let are = subst (AreParts flat (port_at found.parts) 0 (map (λ t. t.name) (typed_contexts_of items))) (sym c.parts.view_is)
    (subst (λ qs. AreParts flat (port_at qs) 0 (map (λ t. t.name) (typed_contexts_of items)) c.in_ok-parts.parts) c.as_slice-3.ensures c.in_ok-parts.ensures) in
    let first = c.in_ok-atoms.ensures ∙ ap (λ xs. images_from xs 0 (atoms_of items)) c.as_slice.ensures in
    let parts = c.as_slice-4.ensures ∙ sym c.parts.view_is in
    let membranes = c.membranes.view_is ∙ c.in_ok-membranes.ensures ∙ ap (λ xs. images_from xs 0 (membranes_of items)) c.as_slice-2.ensures in
    record {
      home = refl;
      links = c.above_links-links.ensures;
      atoms = taken_are flat items f found.atoms _ _ (λ n. refl) are (c.atoms-2.view_is ∙ c.in_ok-add_atoms.ensures ∙ (λ i. first i ++ flat_map (λ p. p.atoms) (parts i)));
      membranes = λ b. subst (λ xs. In b xs ↔ IsMembraneImage items f b) (sym membranes) (images_are found.membranes (membranes_of items) b);
      parts = λ x. named_part flat f 0 (typed_contexts_of items) _ are x;
      integers = λ x. ap (λ es. integer_named es x) (c.in_ok-integers_of.ensures ∙ (λ i. zip (c.as_slice-6.ensures.value i) (c.as_slice-7.ensures.value i))) ∙ named_integer found.names.items found.values.items x;
      contexts = λ x i. ap (λ es. membrane_named es x) (c.in_ok-context_images.ensures ∙ ap (λ ms. imaged (membrane_at c.args.membrane ms) names names) c.as_slice-8.ensures) ∙ named_image f.membrane names names x i;
      rule_contexts = λ x i. ap (λ es. membrane_named es x) (c.in_ok-rule_context_images.ensures ∙ ap (λ ms. imaged (membrane_at c.args.membrane ms) rule_names rule_names) c.as_slice-9.ensures) ∙ named_image f.membrane rule_names rule_names x i;
    }

pub returns-clause-ready : goal.returns-clause-ready
returns-clause-ready c =
    let flat = c.args.flat.now in
    let h = heap_of flat in
    let items = c.args.items.now in
    let found = c.args.found.now in
    let m = c.args.membrane in
    let f = images m found in
    let names = (numbering (λ l. l.contexts) c.args.rule.now.head).names 0 1 in
    let rule_names = (numbering (λ l. l.rule_contexts) c.args.rule.now.head).names 0 1 in
    let kind = c.requires.items in
    let are = subst (AreParts flat (port_at found.parts) 0 (map (λ t. t.name) (typed_contexts_of items))) (sym c.parts.view_is)
    (subst (λ qs. AreParts flat (port_at qs) 0 (map (λ t. t.name) (typed_contexts_of items)) c.in_ok-parts.parts) c.as_slice-3.ensures c.in_ok-parts.ensures) in
    record {
      parts = parts_there flat c.requires.valid f.part 0 (typed_contexts_of items) _ are (λ k l. (let z : k ≡ 0 + k = omega arith in subst (λ g. (f.part g).1 < arity_of h (f.part g).0) z (entry_there h c.requires.valid items m f c.requires.lies c.requires.head k l)));
      contexts = subst (AreThere h) (sym (c.in_ok-context_images.ensures ∙ ap (λ ms. imaged (membrane_at m ms) names names) c.as_slice-8.ensures))
          (contexts_there h c.requires.valid items m f c.requires.lies c.requires.membrane (λ l. l.contexts) kind.0 c.args.rule.now.head kind.1 names);
      rule_contexts = subst (AreThere h) (sym (c.in_ok-rule_context_images.ensures ∙ ap (λ ms. imaged (membrane_at m ms) rule_names rule_names) c.as_slice-9.ensures))
          (contexts_there h c.requires.valid items m f c.requires.lies c.requires.membrane (λ l. l.rule_contexts) kind.0 c.args.rule.now.head kind.1 rule_names);
    }

pub returns-clause-connectors : goal.returns-clause-connectors
returns-clause-connectors c = λ link_of l linked occurs.
    let flat = c.args.flat.now in
    let items = c.args.items.now in
    let F = c.above_links-links.result in
    let typed = map (λ t. t.link) (typed_contexts_of items) in
    c.in_ok-add_wires.ensures
    ∙ (λ i. c.args.connectors.now ++ wires F (ends_from flat (c.as_slice-5.ensures i) 0 (atoms_of items)) typed (c.len.ensures i))
    ∙ ap (λ ws. c.args.connectors.now ++ ws) (wires_are flat c.args.found.now.atoms items c.requires.head F link_of l linked occurs (length c.args.rule.now.links))
