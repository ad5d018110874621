use Rattle.std.proofs.Common.{[], ◌++◌, true, false, sym, ap, ◌∙◌, if◌then◌else◌, codes}
use Rattle.std.proofs.lemmas.List.{append-nil}
use Rattle.lmn_io.proofs.TakingLemmas.{adds_as, adds_more}
use Rattle.lmn_print_plain.specs.Parts.{context_text}
use Rattle.lmn_print_plain.proofs.leaves.add_open_or_closed.Goals as goal

pub returns-then-use_ : goal.returns-then-use_
returns-then-use_ g c =
    adds_as (ap (λ b. context_text c.args.names.now (codes "$") c.args.use_.now ++ (if b then codes "[]" else [])) (sym c.if-use_.true))
    (adds_more (context_text c.args.names.now (codes "$") c.args.use_.now) (codes "[]") _ _ _ c.add_context.ensures c.add.ensures)

pub returns-else-use_ : goal.returns-else-use_
returns-else-use_ g c =
    adds_as (sym (append-nil (context_text c.args.names.now (codes "$") c.args.use_.now)) ∙ ap (λ b. context_text c.args.names.now (codes "$") c.args.use_.now ++ (if b then codes "[]" else [])) (sym c.if-use_.false))
    c.add_context.ensures
