use Rattle.std.proofs.Common.{refl}
use Rattle.manifest.proofs.Adding.{adds}
use Rattle.manifest.proofs.reader.Reader.add.Goals as goal

pub returns : goal.returns
returns c =
    let paths = c.in_ok-note_path.ensures in
    let more = rw (c.as_bytes.ensures, c.leads_to-reached.ensures) at paths in
    adds _ _ c.args.line c.requires.kept c.requires.leads c.in_ok-push.ensures.items refl refl more
    c.in_ok-note_source.ensures
