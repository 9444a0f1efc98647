use Rattle.std.proofs.Common.{◌≡◌, ◌∙◌, ◌<◌, ap, sym, refl, ℕ, List, length, arith}
use Rattle.std.specs.Prelude.{slice_index}
use Rattle.std.proofs.lemmas.Bool.{lt-ltb, le-ltb}
use Rattle.rom_tree.specs.Tree.{ino_of, places_of}
use Rattle.rom_tree.specs.Image.{IsRun}
use Rattle.rom_tree.proofs.Named.{node_number}
use Rattle.romfs_format.proofs.Trees.{known}
use Rattle.linux_misreads.specs.Tables.{romfs_view}
use Rattle.linux_misreads.specs.Readers.{romfs_data}
use Rattle.linux_misreads.proofs.nodes.place_at.Goals as goal

pub romfs_data-requires : goal.romfs_data-requires
romfs_data-requires c =
    let h = (known c.args.image.now.sound c.args.n.0 c.requires).sound.header in
    let w = c.args.image.now.within in
    let e : length c.bytes.result.now ≡ length c.args.image.now.all.now = ap length c.bytes.ensures in
    omega (arith, h, w, e)

pub returns-in-Some : goal.returns-in-Some
returns-in-Some c = λ x e.
    let n : c.args.n.0 ≡ ino_of x = sym (node_number (romfs_view c.args.image.now) c.args.n.0 x e) in
    let d : c.romfs_data.result ≡ romfs_data c.args.image.now.all.now (ino_of x) =
    c.romfs_data.ensures ∙ (ap (λ (v : List ℕ). romfs_data v c.args.n.0) c.bytes.ensures
    ∙ ap (romfs_data c.args.image.now.all.now) n) in
    let r : IsRun (places_of x) 0 c.in-Some.run' = c.in-Some.ensures.row x e in
    let a : slice_index (places_of x) 0 ≡ c.from.result =
    let q = r.row 0 r.some in let f = c.from.ensures in omega (arith, q, f) in
    let l : 0 < length (places_of x) = let q = r.some in let f = r.within in omega (arith, q, f) in
    rw (lt-ltb 0 (length (places_of x)) l, a, sym d) refl

pub returns-in-None : goal.returns-in-None
returns-in-None c = λ x e. rw (le-ltb 0 (length (places_of x)) (c.in-None.ensures.row x e)) refl
