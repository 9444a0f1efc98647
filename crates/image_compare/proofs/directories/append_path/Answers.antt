use Rattle.image_compare.proofs.Directed.{with_name, name_room}
use Rattle.image_compare.proofs.directories.append_path.Goals as goal

pub append_name-requires : goal.append_name-requires
append_name-requires c =
    let ws = c.requires.0 in
    name_room c.args.path.now.items c.append_way.new.path.items _ c.args.name.now (c.append_way.ensures ws c.requires.1)
    c.requires.2

pub returns : goal.returns
returns c = λ ws h.
    with_name c.args.path.now.items c.append_way.new.path.items c.append_name.new.path.items _ c.args.name.now
    (c.append_way.ensures ws h) c.append_name.ensures
