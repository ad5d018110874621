use Rattle.std.proofs.Common.{ap, map, refl, subst, sym, ◌∙◌, ◌≡◌, ℕ}
use Rattle.std.specs.Prelude.{IfSome}
use Rattle.lmn_base.specs.Lists.{In}
use Rattle.lmn_store_heap.specs.Heap.{Heap, arity_of}
use Rattle.lmn_ground_parts.specs.Copies.{all_joined, answer, ports_of}
use Rattle.lmn_ground.specs.Copies.{Copying}
use Rattle.lmn_ground.specs.Marks.{first_marks}
use Rattle.lmn_ground.specs.Spread.{Numbered}
use Rattle.lmn_ground.proofs.CopyLaws.{length_map, map_long, member}
use Rattle.lmn_ground.proofs.RestCopyLaws.{made_all_there, made_arity, rest_copying, rest_joined, rest_numbered, rest_there}
use Rattle.lmn_ground.proofs.cells.copy_numbered.Goals as goal

pub returns-in_err-make_copies-clause-there : goal.returns-in_err-make_copies-clause-there
returns-in_err-make_copies-clause-there g c =
    made_all_there (g.S.LinkStore.heap c.args.store.now) (g.S.LinkStore.heap c.make_copies.new.store) (map g.S.LinkStore.atom_id c.args.atoms.now) _ c.make_copies.ensures.some.1 c.requires.there

pub arity-requires : goal.arity-requires
arity-requires g c =
    made_all_there (g.S.LinkStore.heap c.args.store.now) (g.S.LinkStore.heap c.make_copies.new.store) (map g.S.LinkStore.atom_id c.args.atoms.now) _ c.in_ok-make_copies.ensures.all c.requires.there
    _ (member g.S.LinkStore.atom_id c.args.atoms.now 0 _ c.at-first.ensures)

pub join_copies-requires-clause-copying : goal.join_copies-requires-clause-copying
join_copies-requires-clause-copying g c =
    let h = g.S.LinkStore.heap c.args.store.now in
    let xs = map g.S.LinkStore.atom_id c.args.atoms.now in
    let ys = map g.S.LinkStore.atom_id c.make_copies.new.copies in
    let first = g.S.LinkStore.atom_id c.at-first.result.now in
    let root : ℕ × ℕ = (first, c.arity.result) in
    let made = c.in_ok-make_copies.ensures.all in
    let long = map_long g.S.LinkStore.atom_id _ _ c.in_ok-make_copies.ensures.long in
    let first_in : In first xs = member g.S.LinkStore.atom_id c.args.atoms.now 0 _ c.at-first.ensures in
    let off : c.arity.result ≡ arity_of h first = c.arity.ensures.arity ∙ ap (λ (z : Heap). arity_of z first) made.is ∙ made_arity h xs ys first c.requires.there made.fresh first_in in
    subst (λ (z : Heap). Copying z root xs ys) (sym made.is) (rest_copying h root xs ys c.root-sound.ensures.sound c.requires.there made.fresh long c.requires.once first_in c.requires.stays off)

pub join_copies-requires-clause-numbers : goal.join_copies-requires-clause-numbers
join_copies-requires-clause-numbers g c =
    let h = g.S.LinkStore.heap c.args.store.now in
    let xs = map g.S.LinkStore.atom_id c.args.atoms.now in
    let ys = map g.S.LinkStore.atom_id c.make_copies.new.copies in
    let first = g.S.LinkStore.atom_id c.at-first.result.now in
    let root : ℕ × ℕ = (first, c.arity.result) in
    let made = c.in_ok-make_copies.ensures.all in
    let long = map_long g.S.LinkStore.atom_id _ _ c.in_ok-make_copies.ensures.long in
    let first_in : In first xs = member g.S.LinkStore.atom_id c.args.atoms.now 0 _ c.at-first.ensures in
    let off : c.arity.result ≡ arity_of h first = c.arity.ensures.arity ∙ ap (λ (z : Heap). arity_of z first) made.is ∙ made_arity h xs ys first c.requires.there made.fresh first_in in
    subst (λ (z : Heap). Numbered (first_marks z) 2 xs) (sym made.is) (rest_numbered h root xs ys c.root-sound.ensures.sound c.requires.there made.fresh long c.requires.once first_in c.requires.stays off c.requires.numbers)

pub returns-clause-there : goal.returns-clause-there
returns-clause-there g c =
    let h = g.S.LinkStore.heap c.args.store.now in
    let xs = map g.S.LinkStore.atom_id c.args.atoms.now in
    let ys = map g.S.LinkStore.atom_id c.make_copies.new.copies in
    let first = g.S.LinkStore.atom_id c.at-first.result.now in
    let root : ℕ × ℕ = (first, c.arity.result) in
    let made = c.in_ok-make_copies.ensures.all in
    let long = map_long g.S.LinkStore.atom_id _ _ c.in_ok-make_copies.ensures.long in
    let first_in : In first xs = member g.S.LinkStore.atom_id c.args.atoms.now 0 _ c.at-first.ensures in
    let off : c.arity.result ≡ arity_of h first = c.arity.ensures.arity ∙ ap (λ (z : Heap). arity_of z first) made.is ∙ made_arity h xs ys first c.requires.there made.fresh first_in in
    rest_there h root xs ys c.root-sound.ensures.sound c.requires.there made.fresh long c.requires.once first_in c.requires.stays off (g.S.LinkStore.heap c.join_copies.new.store) (c.join_copies.ensures ∙ ap (λ (z : Heap). all_joined (answer xs ys) root z (ports_of z xs)) made.is)

pub returns-clause-ok : goal.returns-clause-ok
returns-clause-ok g c =
    let h = g.S.LinkStore.heap c.args.store.now in
    let xs = map g.S.LinkStore.atom_id c.args.atoms.now in
    let ys = map g.S.LinkStore.atom_id c.make_copies.new.copies in
    let first = g.S.LinkStore.atom_id c.at-first.result.now in
    let root : ℕ × ℕ = (first, c.arity.result) in
    let made = c.in_ok-make_copies.ensures.all in
    let long = map_long g.S.LinkStore.atom_id _ _ c.in_ok-make_copies.ensures.long in
    let first_in : In first xs = member g.S.LinkStore.atom_id c.args.atoms.now 0 _ c.at-first.ensures in
    let off : c.arity.result ≡ arity_of h first = c.arity.ensures.arity ∙ ap (λ (z : Heap). arity_of z first) made.is ∙ made_arity h xs ys first c.requires.there made.fresh first_in in (
      ys,
      record { fresh = made.fresh; is = refl; short = made.short },
      long ∙ length_map g.S.LinkStore.atom_id c.args.atoms.now,
      rest_joined h root xs ys c.root-sound.ensures.sound c.requires.there made.fresh long c.requires.once first_in c.requires.stays off (g.S.LinkStore.heap c.join_copies.new.store) (c.join_copies.ensures ∙ ap (λ (z : Heap). all_joined (answer xs ys) root z (ports_of z xs)) made.is),
    )

pub join_copies-requires-clause-first : goal.join_copies-requires-clause-first
join_copies-requires-clause-first g c = subst (λ o. IfSome o (λ a. g.S.LinkStore.atom_id a ≡ g.S.LinkStore.atom_id c.at-first.result.now)) (sym c.at-first.ensures) refl
