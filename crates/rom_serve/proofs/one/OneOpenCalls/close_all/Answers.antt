use Rattle.open_files.specs.Slots.{image_view, table_of}
use Rattle.rom_serve.proofs.one.OneOpenCalls.close_all.Goals as goal

pub returns-clause-reply : goal.returns-clause-reply
returns-clause-reply g c =
    c.close_all.ensures.reply (table_of
    (image_view (g.T.Viewed.image c.args.self.now.image.now)) c.args.self.now.slots.slots)
