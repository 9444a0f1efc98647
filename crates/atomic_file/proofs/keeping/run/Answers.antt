use Rattle.atomic_file.proofs.Finishes.{unsynced, unclosed, unrenamed, undurable}
use Rattle.atomic_file.proofs.keeping.run.Goals as goal

pub returns-in-Err-clause-stopped : goal.returns-in-Err-clause-stopped
returns-in-Err-clause-stopped g c =
    unsynced c.args.names c.args.begun.name (g.D.Part.ByteWrite.output c.args.begun.part).contents _ _ _
    c.in-Err.ensures.logged c.abandon.ensures.run

pub returns-in-Err-close-clause-stopped : goal.returns-in-Err-close-clause-stopped
returns-in-Err-close-clause-stopped g c =
    unclosed c.args.names c.args.begun.name (g.D.Part.ByteWrite.output c.args.begun.part).contents _ _ _ _
    c.in-Ok.ensures.logged c.in-Err-close.ensures.logged c.abandon-in-Err-close.ensures.run

pub returns-in-Err-rename-clause-stopped : goal.returns-in-Err-rename-clause-stopped
returns-in-Err-rename-clause-stopped g c =
    unrenamed c.args.names c.args.begun.name (g.D.Part.ByteWrite.output c.args.begun.part).contents _ _ _ _ _
    c.in-Ok.ensures.logged c.in-Ok-close.ensures.logged c.in-Err-rename.ensures.logged
    c.abandon-in-Err-rename.ensures.run

pub returns-in-Err-sync_directory-clause-stopped : goal.returns-in-Err-sync_directory-clause-stopped
returns-in-Err-sync_directory-clause-stopped g c =
    undurable c.args.names c.args.begun.name (g.D.Part.ByteWrite.output c.args.begun.part).contents _ _ _ _ _
    c.in-Ok.ensures.logged c.in-Ok-close.ensures.logged c.in-Ok-rename.ensures.logged
    c.in-Err-sync_directory.ensures.logged
