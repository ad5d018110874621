use Rattle.std.proofs.Common.{List, length, sym, subst}
use Rattle.lmn_base.proofs.Lists.{holds_of_item}
use Rattle.lmn_solid_tables.specs.Flats.{heap_of}
use Rattle.lmn_solid_search.specs.Holding.{AreAtoms}
use Rattle.lmn_solid_search.specs.Meeting.{Meets}
use Rattle.lmn_solid_search.specs.Parting.{AreEntered, AreTaken}
use Rattle.lmn_solid_search.specs.declared.parts.Part.{Part}
use Rattle.lmn_solid_search.proofs.FulfillingLemmas.{are_atoms, are_entered, entries, meets_same, taken_parts}
use Rattle.lmn_solid_search.proofs.meeting.fulfil.Goals as goal

pub meets-requires-clause-entries : goal.meets-requires-clause-entries
meets-requires-clause-entries c = subst (λ (qs : List Part). AreEntered (heap_of c.args.flat.now) qs) (sym c.as_slice.ensures) (are_entered (heap_of c.args.flat.now) c.requires.valid c.args.head.now c.args.placed.now c.requires.placed.atoms c.requires.held c.in-Some.parts
    (holds_of_item (λ qs. AreTaken (heap_of c.args.flat.now) c.args.head.now.atoms c.args.placed.now c.args.head.now.typed qs (length c.args.head.now.typed)) c.in_ok-parts.field-0 c.in-Some.parts c.in-Some.is c.in_ok-parts.ensures.some))

pub meets-requires-clause-parts : goal.meets-requires-clause-parts
meets-requires-clause-parts c = subst (λ (qs : List Part). AreAtoms (heap_of c.args.flat.now) qs) (sym c.as_slice.ensures) (are_atoms (heap_of c.args.flat.now) c.requires.valid c.args.head.now c.args.placed.now c.requires.placed.atoms c.requires.held c.in-Some.parts
    (holds_of_item (λ qs. AreTaken (heap_of c.args.flat.now) c.args.head.now.atoms c.args.placed.now c.args.head.now.typed qs (length c.args.head.now.typed)) c.in_ok-parts.field-0 c.in-Some.parts c.in-Some.is c.in_ok-parts.ensures.some))

pub returns-in-None-2-clause-none : goal.returns-in-None-2-clause-none
returns-in-None-2-clause-none c = λ e parts w m. c.in_ok-known-in-Some.ensures.none c.in-None-2.is (subst (λ (qs : List Part). Meets (heap_of c.args.flat.now) c.args.head.now c.args.guard.now c.args.placed.now qs) (sym c.as_slice.ensures)
    (meets_same (heap_of c.args.flat.now) c.requires.valid c.args.head.now c.args.placed.now c.requires.placed.atoms c.requires.held c.args.guard.now c.in-Some.parts parts
    (holds_of_item (λ qs. AreTaken (heap_of c.args.flat.now) c.args.head.now.atoms c.args.placed.now c.args.head.now.typed qs (length c.args.head.now.typed)) c.in_ok-parts.field-0 c.in-Some.parts c.in-Some.is c.in_ok-parts.ensures.some) w m))

pub returns-in-None-clause-none : goal.returns-in-None-clause-none
returns-in-None-clause-none c = λ e parts w m. c.in_ok-parts.ensures.none c.in-None.is (entries parts) (taken_parts (heap_of c.args.flat.now) c.args.head.now c.args.placed.now parts w)
