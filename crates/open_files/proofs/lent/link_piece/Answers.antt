use Rattle.std.proofs.Common.{◌≡◌, ℕ, ◌<◌, ◌∷◌, [], List, length, get_or, sym, ap, ◌∙◌, add-zero, arith}
use Rattle.rom_tree.specs.Tree.{places_of}
use Rattle.rom_tree.specs.Image.{Image}
use Rattle.open_files.specs.Lending.{first_place, lent_of, bytes_of}
use Rattle.open_files.proofs.lent.link_piece.Goals as goal

first_is : (ps : List ℕ) (p : ℕ) → 0 < length ps → get_or ps 0 0 ≡ p → first_place ps ≡ p
first_is [] p l e = absurd (omega (arith, l))
first_is (q ∷ qs) p l e = e

pub returns-in-Some : goal.returns-in-Some
returns-in-Some g c = λ x h.
    let m : Image = g.T.Viewed.image c.args.image.now in
    let r = c.in-Some.ensures.row x h in
    let e : first_place (places_of x) ≡ c.in-Some.run'.place =
    first_is (places_of x) c.in-Some.run'.place (omega (arith, r.some, r.within))
    (r.row 0 r.some ∙ add-zero c.in-Some.run'.place) in
    ap (λ p. lent_of p (bytes_of m.bytes (places_of x))) e
    ∙ ap (λ bs. lent_of c.in-Some.run'.place bs) (sym (c.link_text-bytes.ensures x h))
