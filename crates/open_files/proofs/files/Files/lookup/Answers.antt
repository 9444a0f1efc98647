use Rattle.std.proofs.Common.{ℕ, sym, ap, ◌∙◌}
use Rattle.rom_tree.specs.Image.{Image}
use Rattle.open_files.specs.Calls.{Of, answer, viewed}
use Rattle.open_files.specs.Slots.{image_view, table_of, unlabelled}
use Rattle.open_files.proofs.files.Files.lookup.Goals as goal

pub returns-clause-reply : goal.returns-clause-reply
returns-clause-reply g c =
    let slots = c.args.self.now.slots.slots in
    c.lookup.ensures.reply g.row.N (table_of (image_view (g.T.Viewed.image c.args.self.now.image)) slots)
    ∙ ap (λ (m : Image). answer {R = Of ℕ} (viewed (unlabelled (λ z. z.0)) c.lookup.result)
    (table_of (image_view m) slots)) (sym c.lookup.ensures.stays)
