use Rattle.std.proofs.Common.{◌≡◌, ◌==◌, true, sym, ◌∙◌, eq-eqb, arith}
use Rattle.std.proofs.lemmas.Bool.{false_from_ne_true, eqb-true}
use Rattle.rom_tree.specs.Tree.{ino_of, is_directory}
use Rattle.rom_tree.proofs.Named.{node_number}
use Rattle.open_files.proofs.mounts.check_cover.Goals as goal

pub returns-then-root-dir : goal.returns-then-root-dir
returns-then-root-dir g c = λ x e us i s.
    let m = g.T.Viewed.image c.args.image.now in
    let d : is_directory x ≡ true = sym (c.is_directory_at.ensures x e) ∙ c.if-not-is_directory_at.false in
    let r : (ino_of x == ino_of m.tree) ≡ true =
    eq-eqb (ino_of x) (ino_of m.tree)
    (node_number m c.args.dir.0 x e ∙ (sym c.if-root-dir.true ∙ c.root.ensures)) in
    rw (d, r)

pub returns : goal.returns
returns g c = λ x e.
    let m = g.T.Viewed.image c.args.image.now in
    let d : is_directory x ≡ true = sym (c.is_directory_at.ensures x e) ∙ c.if-not-is_directory_at.false in
    let n = node_number m c.args.dir.0 x e in (
      d,
      false_from_ne_true (ino_of x == ino_of m.tree)
          (λ t. absurd (omega (arith, n, eqb-true (ino_of x) (ino_of m.tree) t, c.root.ensures, c.if-root-dir.false))),
    )
