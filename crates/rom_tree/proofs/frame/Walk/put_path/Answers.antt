use Rattle.std.proofs.Common.{ℕ, ◌∷◌, [], List, subst}
use Rattle.rom_fields.specs.Texts.{escaped}
use Rattle.rom_fields.specs.Written.{Puts, Sink, sink}
use Rattle.rom_fields.proofs.Joins.{chain}
use Rattle.rom_tree.specs.Frames.{path_text}
use Rattle.rom_tree.specs.declared.frame.Frame.{Frame}
use Rattle.rom_tree.proofs.Paths.{escaped_slash, escaped_both}
use Rattle.rom_tree.proofs.frame.Walk.put_path.Goals as goal

pub returns-in-None : goal.returns-in-None
returns-in-None g c = rw (c.in-None.is, escaped_slash) c.put.ensures

pub returns-then-not-self : goal.returns-then-not-self
returns-then-not-self g c =
    let fs : List Frame = c.args.self.now.stack.items in
    let name : List ℕ = c.in-Some.name.now in
    let from : Sink = sink (g.W.ByteWrite.output c.args.w.now) c.args.failed.now in
    let mid : Sink = sink (g.W.ByteWrite.output c.put_frames.new.w) c.put_frames.new.failed in
    let P : List Frame → Type 0 = λ v. Puts from mid (escaped (path_text [] v)) in
    rw (c.in-Some.is, c.if-not-self.true, escaped_both (path_text [] fs) (47 ∷ name))
    (chain (subst P c.as_slice.ensures.value c.put_frames.ensures) c.put_name.ensures)
