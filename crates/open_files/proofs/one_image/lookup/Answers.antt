use Rattle.std.proofs.Common.{ℕ, None, Ok, ap, ◌∙◌}
use Rattle.rom_tree.specs.Tree.{ino_of}
use Rattle.rom_tree.specs.Image.{Image}
use Rattle.rom_tree.proofs.Named.{node_number}
use Rattle.open_files.specs.Calls.{Of, answer, give}
use Rattle.open_files.specs.Machine.{walked}
use Rattle.open_files.proofs.one_image.lookup.Goals as goal

pub returns-clause-reply : goal.returns-clause-reply
returns-clause-reply g c = λ n t.
    let m : Image = g.T.Viewed.image c.args.image.now in
    let w = c.in_ok-node.ensures.leads in
    ap (walked {R = Of ℕ} t (λ x. give (None, ino_of x) t)) w.1
    ∙ ap (λ (z : ℕ). answer {R = Of ℕ} (Ok (None, z)) t) (node_number m c.in_ok-node.node.0 w.0 w.2)
