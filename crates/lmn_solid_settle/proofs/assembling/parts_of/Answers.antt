use Rattle.std.proofs.Common.{[], ◌∷◌, ◌≡◌, ◌++◌, ◌∙◌, ap, map, sym, append_assoc, append-nil}
use Rattle.std.proofs.lemmas.List.{map-append, nil_from_length}
use Rattle.lmn_solid_settle.specs.Tables.{empty_part}
use Rattle.lmn_solid_settle.proofs.assembling.parts_of.Goals as goal

pub loop-membrane-init : goal.loop-membrane-init
loop-membrane-init c = (c.new-parts.ensures.items, c.into_iter-membrane-iterator.ensures.into_iter_gives.0)

pub loop-membrane-preserved : goal.loop-membrane-preserved
loop-membrane-preserved c =
    let m = c.in-Some.membrane in (
      c.in_ok-push.ensures.items ∙ (λ i. c.loop-membrane.invariant.0 i ++ record { around = m.around; atoms = m.atoms; membranes = c.new.ensures i; rules = m.rules } ∷ [])
          ∙ sym (map-append empty_part c.loop-membrane.yielded (m ∷ [])),
      append_assoc c.loop-membrane.yielded (m ∷ []) c.next.new.self.rest.items ∙ ap (λ xs. c.loop-membrane.yielded ++ xs) (sym c.in-Some.ensures.steps.0) ∙ c.loop-membrane.invariant.1,
    )

pub returns : goal.returns
returns c =
    let rest = c.loop-membrane.membrane-iterator.rest in
    let none : rest.items ≡ [] = nil_from_length rest.items (sym rest.ok.0 ∙ c.in-None.ensures.steps.0) in
    c.loop-membrane.invariant.0 ∙ ap (map empty_part) (sym (append-nil c.loop-membrane.yielded) ∙ ap (λ xs. c.loop-membrane.yielded ++ xs) (sym none) ∙ c.loop-membrane.invariant.1)
