use Rattle.std.proofs.Common.{List, sym, subst, ℕ}
use Rattle.lmn_base.specs.Lists.{In}
use Rattle.lmn_solid_tables.specs.Flats.{heap_of}
use Rattle.lmn_solid_search.proofs.OutsideLemmas.{atom_listed}
use Rattle.lmn_solid_search.proofs.filled.holds_only.Goals as goal

pub all_marked-requires : goal.all_marked-requires
all_marked-requires c = λ a i. c.requires.places a (atom_listed (heap_of c.args.flat.now) c.args.membrane a c.requires.valid (subst (λ (xs : List ℕ). In a xs) c.atoms.ensures i))

pub returns-then-all_marked : goal.returns-then-all_marked
returns-then-all_marked c = (
  (λ z. ((λ b i. c.all_marked.ensures.0 c.if-all_marked.true b (subst (λ (xs : List ℕ). In b xs) (sym c.atoms.ensures) i)), λ b i. c.all_among.ensures.0 z b (subst (λ (xs : List ℕ). In b xs) (sym c.membranes.ensures) i))),
  λ f. c.all_among.ensures.1 (λ b i. f.1 b (subst (λ (xs : List ℕ). In b xs) c.membranes.ensures i)),
)
