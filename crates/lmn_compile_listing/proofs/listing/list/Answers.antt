use Rattle.std.proofs.Common.{subst}
use Rattle.lmn_io.specs.Gathering.{Adds, nothing_pending, output}
use Rattle.lmn_instr_code.specs.Listings.{code_listing}
use Rattle.lmn_compile_listing.proofs.listing.list.Goals as goal
use Rattle.lmn_compile_listing.proofs.listing.list.Given as given

-- the whole listing was added
whole : (g : given.Over) (c : goal.After-finish g)
    → Adds (code_listing c.args.names.now c.args.code.now c.args.number) (output nothing_pending (g.O.Sink.told c.args.sink.now) (g.O.Sink.faults c.args.sink.now))
    (output c.add_code.new.buffer (g.O.Sink.told c.add_code.new.out) (g.O.Sink.faults c.add_code.new.out))
whole g c =
    subst (λ pending. Adds (code_listing c.args.names.now c.args.code.now c.args.number) (output pending (g.O.Sink.told c.args.sink.now) (g.O.Sink.faults c.args.sink.now)) (output c.add_code.new.buffer (g.O.Sink.told c.add_code.new.out) (g.O.Sink.faults c.add_code.new.out)))
    c.new-buffer.ensures c.add_code.ensures

pub returns : goal.returns
returns g c = c.finish.ensures _ _ _ (whole g c)
