use Rattle.std.proofs.Common.{◌∙◌, ◌≡◌, ap, arith, length}
use Rattle.lmn_io.proofs.FetchLemmas.{HasRead, on_ok, read_more, read_whole}
use Rattle.lmn_io.proofs.file_shelf.read_all.Goals as goal

pub returns : goal.returns
returns g c =
    let counted : c.len.result ≡ length c.read_to_end.new.buf.items = c.len.ensures ∙ c.read_to_end.new.buf.ok.0 in
    let room = c.read_to_end.new.buf.ok.1 in
    let small = c.read_to_end.new.buf.small in
    let limit = c.saturating_add.ensures in
    let is = c.take.ensures.limit in
    let fits = c.if-len-most.false in
    let len = c.read_to_end.new.buf.ok.0 in
    let r : HasRead (g.F.Read.remaining c.args.file) c.read_to_end.new.buf.items c.args.most = record {
      before = g.F.Read.remaining c.take.result.inner;
      old = c.new-bytes.result.items;
      limit = c.take.result.limit;
      of = ap g.F.Read.remaining c.take.ensures.inner;
      empty = c.new-bytes.ensures.items;
      below = λ few. omega (arith, few, len, room, small, limit, is);
      read = on_ok c.read_to_end.result _ c.in_ok-map_err.ensures.variant c.read_to_end.ensures.bytes;
    } in
    read_whole (g.F.Read.remaining c.args.file) c.from_vec.result c.read_to_end.new.buf.items c.args.most r c.from_vec.ensures (omega (arith, counted, fits))

pub returns-then-len-most : goal.returns-then-len-most
returns-then-len-most g c =
    let counted : c.len.result ≡ length c.read_to_end.new.buf.items = c.len.ensures ∙ c.read_to_end.new.buf.ok.0 in
    let many = c.if-len-most.true in
    let r : HasRead (g.F.Read.remaining c.args.file) c.read_to_end.new.buf.items c.args.most = record {
      before = g.F.Read.remaining c.take.result.inner;
      old = c.new-bytes.result.items;
      limit = c.take.result.limit;
      of = ap g.F.Read.remaining c.take.ensures.inner;
      empty = c.new-bytes.ensures.items;
      below = λ few. omega (arith, few, counted, many);
      read = on_ok c.read_to_end.result _ c.in_ok-map_err.ensures.variant c.read_to_end.ensures.bytes;
    } in
    read_more (g.F.Read.remaining c.args.file) c.read_to_end.new.buf.items c.args.most r (omega (arith, counted, many))
