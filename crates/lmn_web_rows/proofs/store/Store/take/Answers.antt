use Rattle.std.proofs.Common.{◌<◌, ◌∙◌, length, get_or, set, sym, refl, subst, arith}
use denote.RawPtr.{null_ptr}
use Rattle.lmn_web_rows.specs.Rows.{place_of}
use Rattle.lmn_web_rows.specs.Seen.{Stored, shown, IsMade}
use Rattle.lmn_web_rows.specs.Keeping.{IsStore}
use Rattle.lmn_web_rows.proofs.StoreLemmas.{first_near, has_kept, next_is, taken, taken_numbers}
use Rattle.lmn_web_rows.proofs.store.Store.take.Goals as goal

pub is_nowhere-requires : goal.is_nowhere-requires
is_nowhere-requires c = first_near _ _ _ _ _ c.self.inside.firsts c.args.words _ c.self.invariant.0 refl

pub link-requires : goal.link-requires
link-requires c =
    let low : c.args.words < length c.self.inside.firsts = (let l = c.if-words-ge-LENGTHS.false in let n = c.self.invariant.0.lengths in omega (arith, l, n)) in
    let h = has_kept _ _ _ _ _ c.self.inside.firsts c.args.words (get_or c.self.inside.firsts c.args.words null_ptr) c.self.invariant.0 low refl (sym c.is_nowhere.ensures ∙ c.if-is_nowhere.false) in
    (h.start, omega arith, (h.next, h.word))

pub revive-requires : goal.revive-requires
revive-requires c =
    let low : c.args.words < length c.self.inside.firsts = (let l = c.if-words-ge-LENGTHS.false in let n = c.self.invariant.0.lengths in omega (arith, l, n)) in
    (has_kept _ _ _ _ _ c.self.inside.firsts c.args.words (get_or c.self.inside.firsts c.args.words null_ptr) c.self.invariant.0 low refl (sym c.is_nowhere.ensures ∙ c.if-is_nowhere.false)).start

pub invariant_of-self : goal.invariant_of-self
invariant_of-self c =
    let s = c.self.inside in let p = get_or s.firsts c.args.words null_ptr in
    let low : c.args.words < length s.firsts = (let l = c.if-words-ge-LENGTHS.false in let n = c.self.invariant.0.lengths in omega (arith, l, n)) in
    let h = has_kept _ _ _ _ _ s.firsts c.args.words p c.self.invariant.0 low refl (sym c.is_nowhere.ensures ∙ c.if-is_nowhere.false) in (
      subst (λ q. IsStore c.revive.new.self.rows s.blocks.blocks s.all.items s.rest s.left (set s.firsts c.args.words q)) (next_is _ h.next c.link.result h.word c.link.ensures)
          (subst (λ z. IsStore z s.blocks.blocks s.all.items s.rest s.left (set s.firsts c.args.words h.next)) (sym c.revive.ensures) h.store),
      taken_numbers s.rows.rows c.revive.new.self.rows (place_of p) s.count h.number.0 c.self.invariant.1 h.number.1 c.revive.ensures,
    )

pub returns : goal.returns
returns c =
    let s = c.self.inside in let p = get_or s.firsts c.args.words null_ptr in
    let low : c.args.words < length s.firsts = (let l = c.if-words-ge-LENGTHS.false in let n = c.self.invariant.0.lengths in omega (arith, l, n)) in
    let h = has_kept _ _ _ _ _ s.firsts c.args.words p c.self.invariant.0 low refl (sym c.is_nowhere.ensures ∙ c.if-is_nowhere.false) in
    (h.start, subst (λ (v : Stored). IsMade v.rows (shown c.revive.new.self.rows) (place_of p) c.args.words) c.self.view_is (taken s.rows.rows c.revive.new.self.rows (place_of p) c.args.words s.count h.number.0 c.self.invariant.1 (omega arith) h.spare h.words h.number.1 c.revive.ensures))
