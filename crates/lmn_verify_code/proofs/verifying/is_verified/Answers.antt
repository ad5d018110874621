use Rattle.std.proofs.Common.{◌≡◌, ◌≤◌, ◌+◌, ◌++◌, length, map, sym, ap, ◌∙◌, arith}
use Rattle.std.specs.Prelude.{count_by, filter_map}
use Rattle.std.specs.List.{list_all, flat_map}
use Rattle.lmn_verify_code.specs.Verified.{at_first, in_order, atoms_found, membranes_found, parts_found, arities, arity_made, is_copy, places, is_emptied}
use Rattle.lmn_verify_code.specs.Passing.{head_passes, body_passes, ports_pass}
use Rattle.lmn_verify_code.proofs.Deciding.{body_refuted, decided}
use Rattle.lmn_verify_code.proofs.verifying.is_verified.Goals as goal

pub returns-then-not-body_passes : goal.returns-then-not-body_passes
returns-then-not-body_passes c =
    let hp = c.as_slice-head.ensures in
    let bp = c.as_slice-body.ensures in
    let a : c.len-3.result ≡ length (atoms_found c.args.code.now.head) = c.len-3.ensures ∙ ap length (c.in_ok-atoms.ensures ∙ ap atoms_found hp) in
    let m : c.len-4.result ≡ length (membranes_found c.args.code.now.head) = c.len-4.ensures ∙ sym c.as_slice-2.ensures.len ∙ ap length (c.as_slice-2.ensures.value ∙ c.in_ok-membranes.ensures ∙ ap membranes_found hp) in
    let g : c.len-5.result ≡ length (parts_found c.args.code.now.head) = c.len-5.ensures ∙ sym c.as_slice-3.ensures.len ∙ ap length (c.as_slice-3.ensures.value ∙ c.in_ok-parts.ensures ∙ ap parts_found hp) in
    body_refuted c.args.code.now c.args.rules (sym (c.body_passes.ensures ∙ (λ j. body_passes (bp j) (a j) (m j) (g j) c.args.rules)) ∙ c.if-not-body_passes.true)

pub returns : goal.returns
returns c =
    let code = c.args.code.now in
    let hp = c.as_slice-head.ensures in
    let bp = c.as_slice-body.ensures in
    let atoms : c.in_ok-atoms.atoms ≡ atoms_found code.head = c.in_ok-atoms.ensures ∙ ap atoms_found hp in
    let membranes : c.in_ok-membranes.membranes.items ≡ membranes_found code.head = c.in_ok-membranes.ensures ∙ ap membranes_found hp in
    let parts : c.in_ok-parts.parts.items ≡ parts_found code.head = c.in_ok-parts.ensures ∙ ap parts_found hp in
    let a : c.len-3.result ≡ length (atoms_found code.head) = c.len-3.ensures ∙ ap length atoms in
    let m : c.len-4.result ≡ length (membranes_found code.head) = c.len-4.ensures ∙ sym c.as_slice-2.ensures.len ∙ ap length (c.as_slice-2.ensures.value ∙ membranes) in
    let g : c.len-5.result ≡ length (parts_found code.head) = c.len-5.ensures ∙ sym c.as_slice-3.ensures.len ∙ ap length (c.as_slice-3.ensures.value ∙ parts) in
    let a2 : c.len.result ≡ length (atoms_found code.head) = c.len.ensures ∙ ap length atoms in
    let m2 : c.len-2.result ≡ length (membranes_found code.head) = c.len-2.ensures ∙ sym c.as_slice-2.ensures.len ∙ ap length (c.as_slice-2.ensures.value ∙ membranes) in
    let low : c.len.result + c.len-2.result ≤ 128 = c.are_few.ensures.yes c.if-not-are_few.false in
    let few : length (atoms_found code.head) + length (membranes_found code.head) ≤ 128 = omega arith in
    let order = sym (c.is_in_order.ensures ∙ (λ j. in_order at_first (hp j ++ bp j))) ∙ c.if-not-is_in_order.false in
    let ah : c.as_slice.result.now ≡ atoms_found code.head = c.as_slice.ensures ∙ atoms in
    let mh : c.as_slice-2.result.now ≡ membranes_found code.head = c.as_slice-2.ensures.value ∙ membranes in
    let gh : c.as_slice-3.result.now ≡ parts_found code.head = c.as_slice-3.ensures.value ∙ parts in
    let heads = sym (c.in_ok-head_stands.ensures ∙ (λ j. head_passes (hp j) (ah j) (mh j) (gh j))) ∙ c.if-not-head_stands.false in
    let bodies = sym (c.body_passes.ensures ∙ (λ j. body_passes (bp j) (a j) (m j) (g j) c.args.rules)) ∙ c.if-not-body_passes.false in
    let empty = sym (c.all_emptied.ensures ∙ ap (list_all (is_emptied code)) (c.as_slice-5.ensures.value ∙ membranes)) ∙ c.if-not-all_emptied.false in
    let ns : c.as_slice-9.result.now ≡ arities code =
    c.as_slice-9.ensures.value ∙ c.in_ok-arities.ensures ∙ (λ j. map (λ x. x.functor.arity) ((c.as_slice-7.ensures ∙ atoms) j) ++ filter_map arity_made (bp j)) in
    let stands : c.as_slice-8.result.now ≡ flat_map places code.head ++ flat_map places code.body =
    c.as_slice-8.ensures ∙ c.in_ok-add_all_places-2.ensures ∙ ap (λ s. s ++ flat_map places c.as_slice-body.result.now) (c.in_ok-add_all_places.ensures ∙ ap (λ s. s ++ flat_map places c.as_slice-head.result.now) c.new-stands.ensures)
    ∙ (λ j. flat_map places (hp j) ++ flat_map places (bp j)) in
    let copies = c.copies_of.ensures ∙ ap (count_by is_copy) bp in
    decided code c.args.rules order few heads bodies empty c.in_ok-ports_stand.ports_stand (c.in_ok-ports_stand.ensures ∙ (λ j. ports_pass (hp j) (bp j) (stands j) (ns j) (copies j)))
