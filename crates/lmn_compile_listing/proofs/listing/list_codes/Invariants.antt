use Rattle.std.proofs.Common.{Ok, take}
use Rattle.lmn_io.specs.declared.sink.Failed.{Failed}
use Rattle.lmn_io.specs.Writing.{WritesText}
use Rattle.lmn_compile_listing.specs.Listings.{code_listings}
use Rattle.lmn_compile_listing.proofs.listing.list_codes.Given as goal

abbrev pub invariant-loop-k : goal.invariant-loop-k
invariant-loop-k g l =
    let told = g.O.Sink.told in
    let faults = g.O.Sink.faults in
    WritesText {A = Unit {0}} {E = Failed} (code_listings l.names 0 (take l.k l.codes)) (Ok tt) (told l.initial.out) (faults l.initial.out) (told l.out) (faults l.out)
