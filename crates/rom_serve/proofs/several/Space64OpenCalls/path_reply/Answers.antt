use Rattle.std.proofs.Common.{List, map, sym, ap, ◌∙◌, ℕ}
use Rattle.open_files.specs.Space.{space_state}
use Rattle.rom_serve.specs.Obeyed.{of_stat, said, says}
use Rattle.rom_serve.proofs.several.Space64OpenCalls.path_reply.Goals as goal

pub returns-in-Lstat-clause-reply : goal.returns-in-Lstat-clause-reply
returns-in-Lstat-clause-reply g c =
    let now = c.lstat.new.self in
    let state =
    space_state 64 (map g.T.Viewed.image now.images.items) now.mounts.items (map (λ t. t.slots) now.tables) in
    rw c.in-Lstat.is
    (ap (said of_stat) c.lstat.ensures.reply ∙ ap (λ (t : List ℕ). says t state) (sym c.stat_reply-in-Lstat.ensures))
