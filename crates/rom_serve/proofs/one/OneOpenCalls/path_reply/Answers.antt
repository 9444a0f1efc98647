use Rattle.std.proofs.Common.{refl}
use Rattle.open_files.specs.Slots.{image_view, table_of}
use Rattle.rom_serve.specs.Obeyed.{of_node, of_stat, of_piece}
use Rattle.rom_serve.proofs.PathSaid.{path_said}
use Rattle.rom_serve.proofs.one.OneOpenCalls.path_reply.Goals as goal

pub returns-in-Lookup-clause-reply : goal.returns-in-Lookup-clause-reply
returns-in-Lookup-clause-reply g c =
    path_said of_node _ _ c.args.self.now.slots.slots _ _ _ _ _ _ c.in-Lookup.is refl
    (c.lookup.ensures.reply 64 (table_of
    (image_view (g.T.Viewed.image c.args.self.now.image.now)) c.args.self.now.slots.slots)) c.node_reply.ensures
    c.lookup.ensures.stays

pub returns-in-Stat-clause-reply : goal.returns-in-Stat-clause-reply
returns-in-Stat-clause-reply g c =
    path_said of_stat _ _ c.args.self.now.slots.slots _ _ _ _ _ _ c.in-Stat.is refl
    (c.stat.ensures.reply 64 (table_of
    (image_view (g.T.Viewed.image c.args.self.now.image.now)) c.args.self.now.slots.slots)) c.stat_reply.ensures
    c.stat.ensures.stays

pub returns-in-Lstat-clause-reply : goal.returns-in-Lstat-clause-reply
returns-in-Lstat-clause-reply g c =
    path_said of_stat _ _ c.args.self.now.slots.slots _ _ _ _ _ _ c.in-Lstat.is refl
    (c.lstat.ensures.reply 64 (table_of
    (image_view (g.T.Viewed.image c.args.self.now.image.now)) c.args.self.now.slots.slots))
    c.stat_reply-in-Lstat.ensures c.lstat.ensures.stays

pub returns-in-Readlink-clause-reply : goal.returns-in-Readlink-clause-reply
returns-in-Readlink-clause-reply g c =
    path_said of_piece _ _ c.args.self.now.slots.slots _ _ _ _ _ _ c.in-Readlink.is refl
    (c.readlink.ensures.reply 64 (table_of
    (image_view (g.T.Viewed.image c.args.self.now.image.now)) c.args.self.now.slots.slots)) c.piece_reply.ensures
    c.readlink.ensures.stays
