use Rattle.std.proofs.Common.{[], ◌∷◌, ◌≡◌, ◌∙◌, ap, length, arith, sym}
use Rattle.std.proofs.lemmas.List.{length-append}
use Rattle.lmn_solid_settle.specs.Tables.{class_in}
use Rattle.lmn_congruence_splice.specs.Classes.{class_of}
use Rattle.lmn_solid_settle.proofs.NumberLoops.{read_more}
use Rattle.lmn_solid_settle.proofs.numbers.least_links.Goals as goal
use Rattle.lmn_base.proofs.Numbers.{below_next2 as below_or_at}

pub loop-link-init : goal.loop-link-init
loop-link-init c =
    let e = c.in_ok-table.ensures in
    record { size = e.0; forest = e.1; represents = e.2; many = ap length c.new-least.ensures; are = λ x l. absurd (omega (arith, l)) }

pub find-requires-clause-below : goal.find-requires-clause-below
find-requires-clause-below c = let s = c.loop-link.invariant.size in let l = c.loop-link-test.true in omega (arith, s, l)

pub find-requires-clause-forest : goal.find-requires-clause-forest
find-requires-clause-forest c = c.loop-link.invariant.forest

pub loop-link-preserved : goal.loop-link-preserved
loop-link-preserved c =
    let i = c.loop-link.invariant in
    let f = c.find.ensures.class (class_of c.args.connectors.now) i.represents in
    let put = c.in_ok-push.ensures.ok in
    let one = length-append c.loop-link.least (c.find.result ∷ []) in
    record {
      size = c.find.ensures.length ∙ i.size;
      forest = c.find.ensures.forest;
      represents = f.0;
      many = let e = ap length put in let m = i.many in omega (arith, e, one, m);
      are = λ x l.
          let m = i.many in
          ap (λ xs. class_in xs x) put
          ∙ read_more c.loop-link.least c.find.result x (below_or_at x (length c.loop-link.least) (omega (arith, l, m))) (class_of c.args.connectors.now)
          (λ z k. i.are z (omega (arith, k, m))) (f.1 ∙ ap (class_of c.args.connectors.now) (sym m));
    }

pub returns : goal.returns
returns c =
    let i = c.loop-link.invariant in
    let same : c.loop-link.link ≡ c.args.links = (let l = c.loop-link-test.false in let k = c.loop-link.auto.link-end in omega (arith, l, k)) in
    record { many = i.many ∙ same; are = λ x l. i.are x (omega (arith, same, l)) }
