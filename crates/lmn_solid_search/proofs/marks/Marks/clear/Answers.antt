use Rattle.std.proofs.Common.{◌∙◌, ℕ, None, Option, ap, map, rules}
use Rattle.std.proofs.lemmas.List.{places, with_items_is}
use Rattle.lmn_solid_search.specs.Marks.{shown}
use Rattle.lmn_solid_search.proofs.MarkLemmas.{never_shown}
use Rattle.lmn_solid_search.proofs.marks.Marks.clear.Goals as goal

pub returns-then-self : goal.returns-then-self
returns-then-self c =
    let round = c.self.inside.round in
    ap (map (shown 1)) (with_items_is c.self.inside.marks c.forget.new.marks (search (rules, places)) ∙ c.forget.ensures)
    ∙ never_shown round c.as_mut_slice.result.now
    ∙ ap (λ xs. map (λ (_ : Option ℕ). None) (map (shown round) xs)) c.as_mut_slice.ensures.value
    ∙ ap (map (λ (_ : Option ℕ). None)) c.self.view_is
