use Rattle.std.proofs.Common.{◌≡◌, ◌∙◌, map, true, Option, Some, None, IsSome, refl, sym, subst}
use Rattle.std.specs.Option.{option_map, is_some}
use Rattle.lmn_ground_parts.specs.Copies.{answer}
use Rattle.std.proofs.lemmas.List.{length-map}
use Rattle.lmn_ground.proofs.CopyLaws.{port_differs, port_is_joined, has_port_as}
use Rattle.lmn_ground.proofs.JoinLaws.{b_in, ports_there}
use Rattle.lmn_ground.proofs.JoinAgain.{port_again}
use Rattle.lmn_base.proofs.Truth.{false_not_true}
use Rattle.lmn_ground.proofs.copying.join_inner_port.Goals as goal

pub copy_of-d-requires-clause-among : goal.copy_of-d-requires-clause-among
copy_of-d-requires-clause-among g c = b_in _ _ _ _ c.requires.copying (g.S.LinkStore.atom_id c.args.a) c.args.i c.requires.among _ _
    c.requires.inner c.in-Some.ensures.link

pub copy_of-d-requires-clause-long : goal.copy_of-d-requires-clause-long
copy_of-d-requires-clause-long g c = sym (length-map c.args.copies.now g.S.LinkStore.atom_id) ∙ (c.requires.copying.long ∙ length-map c.args.atoms.now g.S.LinkStore.atom_id)

pub join-requires-clause-b : goal.join-requires-clause-b
join-requires-clause-b g c = (has_port_as (g.S.LinkStore.heap c.args.store.now) _ _ _ c.copy_of-d.ensures (ports_there _ _ _ _ c.requires.copying (g.S.LinkStore.atom_id c.args.a) c.args.i c.requires.among _ _
    c.requires.inner c.in-Some.ensures.link).1).0

pub join-requires-clause-j : goal.join-requires-clause-j
join-requires-clause-j g c = (has_port_as (g.S.LinkStore.heap c.args.store.now) _ _ _ c.copy_of-d.ensures (ports_there _ _ _ _ c.requires.copying (g.S.LinkStore.atom_id c.args.a) c.args.i c.requires.among _ _
    c.requires.inner c.in-Some.ensures.link).1).1

pub join-requires-clause-differ : goal.join-requires-clause-differ
join-requires-clause-differ g c =
    port_differs _ _ _ _ _ _ _ _ _ _ c.requires.copying c.requires.among c.requires.inner c.in-Some.ensures.link c.requires.copy c.copy_of-d.ensures

pub returns-in-Some : goal.returns-in-Some
returns-in-Some g c =
    port_is_joined (g.S.LinkStore.heap c.args.store.now) (g.S.LinkStore.heap c.join.new.self) (g.S.LinkStore.atom_id c.args.root.0, c.args.root.1)
    (answer (map g.S.LinkStore.atom_id c.args.atoms.now) (map g.S.LinkStore.atom_id c.args.copies.now)) (g.S.LinkStore.atom_id c.args.a) c.args.i _ _ _ _
    c.join.ensures c.requires.inner
    c.in-Some.ensures.link c.requires.copy c.copy_of-d.ensures

some_link : {A B : Type 0} (f : A → B) (o : Option A) (q : Option B) → q ≡ option_map f o → true ≡ is_some o → IsSome q
some_link f None q e t = absurd (false_not_true (sym t))
some_link f (Some x) q e t = subst (λ z. IsSome z) (sym e) refl

pub returns-then-is_some : goal.returns-then-is_some
returns-then-is_some g c =
    port_again (g.S.LinkStore.heap c.args.store.now) (g.S.LinkStore.atom_id c.args.root.0, c.args.root.1) (map g.S.LinkStore.atom_id c.args.atoms.now) (map g.S.LinkStore.atom_id c.args.copies.now)
    (g.S.LinkStore.atom_id c.args.a) c.args.i (g.S.LinkStore.atom_id c.args.c) c.requires.copying c.requires.among
    c.requires.inner
    c.requires.copy (some_link _ _ _ c.partner.ensures.link c.if-is_some.ensures)
