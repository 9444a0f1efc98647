use Rattle.std.proofs.Common.{◌≡◌, ℕ, List, length, subst, Err}
use Rattle.std.specs.Prelude.{OnOk}
use Rattle.rom_fields.specs.Failures.{Rose}
use Rattle.rom_tree.specs.Tree.{Node}
use Rattle.rom_tree.specs.Image.{Image}
use Rattle.open_files.specs.Machine.{Table, image_calls}
use Rattle.serve_lines.specs.declared.error.ServeError.TheVariants.{ReadFault, WriteFault, TooManyReads}
use Rattle.serve_lines.specs.Served.{Serves, Finishes, Breaks}
use Rattle.rom_serve.specs.Machines.{image_machine}
use Rattle.rom_serve.proofs.LongLines.{alone_long}
use Rattle.rom_serve.proofs.serving.serve_bounded.Goals as goal

pub serve_lines-requires : goal.serve_lines-requires
serve_lines-requires g c = alone_long (image_calls 64 (g.T.Viewed.image c.args.image))

pub returns-clause-ok : goal.returns-clause-ok
returns-clause-ok g c =
    let m : Image = g.T.Viewed.image c.args.image in
    let P : Table Node → Type 0 = λ s. OnOk c.serve_lines.result (Serves (image_machine m) s
    (g.R.ByteRead.remaining c.args.r.now) (g.R.ByteRead.remaining c.serve_lines.new.r)
    (g.W.ByteWrite.output c.args.w.now) (g.W.ByteWrite.output c.serve_lines.new.w)) in
    subst P (c.new.ensures.empty m) c.serve_lines.ensures.ok

pub returns-clause-read_fault : goal.returns-clause-read_fault
returns-clause-read_fault g c =
    let m : Image = g.T.Viewed.image c.args.image in
    let P : Table Node → Type 0 = λ s. c.serve_lines.result ≡ Err ReadFault
    → Rose (g.R.ByteRead.failures c.args.r.now) (g.R.ByteRead.failures c.serve_lines.new.r)
    × ((y : List ℕ) × Finishes (image_machine m) s
    (g.R.ByteRead.remaining c.args.r.now) (g.R.ByteRead.remaining c.serve_lines.new.r)
    (g.W.ByteWrite.output c.args.w.now) (g.W.ByteWrite.output c.serve_lines.new.w) y) in
    subst P (c.new.ensures.empty m) c.serve_lines.ensures.read_fault

pub returns-clause-write_fault : goal.returns-clause-write_fault
returns-clause-write_fault g c =
    let m : Image = g.T.Viewed.image c.args.image in
    let P : Table Node → Type 0 = λ s. c.serve_lines.result ≡ Err WriteFault
    → Rose ((g.W.ByteWrite.output c.args.w.now).failures) ((g.W.ByteWrite.output c.serve_lines.new.w).failures)
    × Breaks (image_machine m) s
    (g.R.ByteRead.remaining c.args.r.now) (g.R.ByteRead.remaining c.serve_lines.new.r)
    (g.W.ByteWrite.output c.args.w.now) (g.W.ByteWrite.output c.serve_lines.new.w) in
    subst P (c.new.ensures.empty m) c.serve_lines.ensures.write_fault

pub returns-clause-too_many : goal.returns-clause-too_many
returns-clause-too_many g c =
    let m : Image = g.T.Viewed.image c.args.image in
    let P : Table Node → Type 0 =
    λ s. c.serve_lines.result ≡ Err TooManyReads → (y : List ℕ) × (length y ≡ c.args.reads)
    × Finishes (image_machine m) s
    (g.R.ByteRead.remaining c.args.r.now) (g.R.ByteRead.remaining c.serve_lines.new.r)
    (g.W.ByteWrite.output c.args.w.now) (g.W.ByteWrite.output c.serve_lines.new.w) y in
    subst P (c.new.ensures.empty m) c.serve_lines.ensures.too_many
