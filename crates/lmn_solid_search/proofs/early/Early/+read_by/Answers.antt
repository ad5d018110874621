use Rattle.std.proofs.Common.{subst, sym}
use Rattle.lmn_base.specs.declared.guard.Expr.{Expr}
use Rattle.lmn_solid_search.specs.Foretelling.{RestsOn, on_name}
use Rattle.lmn_solid_search.specs.Reasoning.{Within}
use Rattle.lmn_solid_search.proofs.ForetellingLemmas.{rests_more}
use Rattle.lmn_solid_search.proofs.ReasoningLemmas.{within_itself}
use Rattle.lmn_solid_search.proofs.early.Early.+read_by.Goals as goal

pub returns-in-Int : goal.returns-in-Int
returns-in-Int t c =
    subst (λ (x : Expr). RestsOn (on_name c.args.self.now) x c.none.result) (sym c.in-Int.is) tt

pub returns-in-Ctx : goal.returns-in-Ctx
returns-in-Ctx t c =
    subst (λ (x : Expr). RestsOn (on_name c.args.self.now) x c.on_name.result) (sym c.in-Ctx.is) (subst (Within (on_name c.args.self.now c.in-Ctx.context.name)) (sym c.on_name.ensures) (within_itself (on_name c.args.self.now c.in-Ctx.context.name)))

pub returns-in-Op : goal.returns-in-Op
returns-in-Op t c =
    subst (λ (x : Expr). RestsOn (on_name c.args.self.now) x c.with.result) (sym c.in-Op.is) (
      subst (λ (x : Expr). RestsOn (on_name c.args.self.now) x c.with.result) c.deref.ensures (rests_more (on_name c.args.self.now) c.deref.result.now c.read_by-first.result c.with.result c.with.ensures.these c.read_by-first.ensures),
      subst (λ (x : Expr). RestsOn (on_name c.args.self.now) x c.with.result) c.deref-in-Op.ensures (rests_more (on_name c.args.self.now) c.deref-in-Op.result.now c.read_by-second.result c.with.result c.with.ensures.those c.read_by-second.ensures),
    )
