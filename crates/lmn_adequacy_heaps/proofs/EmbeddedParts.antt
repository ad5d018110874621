-- The parts of an embedded head are ground.
use Rattle.std.proofs.Common.{ℕ, Option, Some, refl, sym, ap, ◌∙◌, ◌≡◌}
use Rattle.lmn_store_heap.specs.Heap.{link_of}
use Rattle.lmn_solid_heads.specs.Heads.{atoms_of}
use Rattle.lmn_adequacy_heaps.specs.Parts.{EmbeddedPartsAreApart, EmbeddedPartsAreGround}
use Rattle.lmn_adequacy_heaps.proofs.PartsApart.{parts_are_apart}
use Rattle.lmn_adequacy_heaps.proofs.PartLaws.{whole_parts_are_ground}
use Rattle.lmn_base.proofs.Lists.{get_below}
use Rattle.lmn_store_heap.proofs.Common.{same_port}

-- the part of an embedded typed context is ground
pub embedded_parts_are_ground : EmbeddedPartsAreGround
embedded_parts_are_ground h r items guard m f n u p xs read e k l once has =
    let w = e.lies.parts n u k in
    whole_parts_are_ground h r (f.membrane u.inside) (f.part n) (f.atom p.0, p.1) xs read w.whole
    (read.valid.sound.paired.back (f.atom p.0) p.1 (f.part n).0 (f.part n).1 (w.held p l))
    (λ c. w.apart (f.atom p.0) c (p.0, get_below (atoms_of items) p.0 l.0 l.1, refl)) once has

-- two such parts have no common atom
pub embedded_parts_are_apart : EmbeddedPartsAreApart
embedded_parts_are_apart h r items guard m f n k u w p q read e tn tk lp lq d =
    let a = e.lies.parts n u tn in
    let b = e.lies.parts k w tk in
    let back = read.valid.sound.paired.back in
    let jp = back (f.atom p.0) p.1 (f.part n).0 (f.part n).1 (a.held p lp) in
    let jq = back (f.atom q.0) q.1 (f.part k).0 (f.part k).1 (b.held q lq) in
    let ip = get_below (atoms_of items) p.0 lp.0 lp.1 in
    let iq = get_below (atoms_of items) q.0 lq.0 lq.1 in
    parts_are_apart h r (f.part n) (f.part k) (f.atom p.0, p.1) (f.atom q.0, q.1) read
    (λ s.
    let z : ◌≡◌ {A = Option (ℕ × ℕ)} (Some (f.atom p.0, p.1)) (Some (f.atom q.0, q.1)) = sym jp ∙ ap (λ o. link_of h o.0 o.1) s ∙ jq in
    let y = same_port z in
    let i = e.lies.atoms_differ p.0 q.0 ip iq y.0 in
    d (λ t. (i t, y.1 t)))
    jp jq (λ c. b.apart (f.atom p.0) c (p.0, ip, refl)) (λ c. a.apart (f.atom q.0) c (q.0, iq, refl))
