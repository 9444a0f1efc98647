use Rattle.std.proofs.Common.{◌≡◌, ◌^◌, ℕ, List, length, map, subst, ap, Err}
use Rattle.std.specs.Prelude.{OnOk}
use Rattle.rom_fields.specs.Failures.{Rose}
use Rattle.rom_tree.specs.Image.{Image}
use Rattle.path_walk.specs.declared.mount.Mount.{Mount}
use Rattle.path_walk.specs.Graft.{MountedNode}
use Rattle.open_files.specs.Machine.{Table}
use Rattle.open_files.specs.Sessions.{Sessions, space_calls, no_sessions}
use Rattle.serve_lines.specs.declared.error.ServeError.TheVariants.{ReadFault, WriteFault, TooManyReads}
use Rattle.serve_lines.specs.Served.{Serves, Finishes, Breaks}
use Rattle.rom_serve.specs.Machines.{space_machine}
use Rattle.rom_serve.proofs.LongLines.{among_long}
use Rattle.rom_serve.proofs.serving.serve_space.Goals as goal

pub serve_lines-requires : goal.serve_lines-requires
serve_lines-requires g c = among_long (space_calls 64 (map g.T.Viewed.image c.new-calls.result.images.items))

pub returns-clause-ok : goal.returns-clause-ok
returns-clause-ok g c =
    let same : map g.T.Viewed.image c.new-calls.result.images.items ≡ map g.T.Viewed.image c.args.images.items =
    ap (λ v. map g.T.Viewed.image v.items) c.new-calls.ensures.images in
    let P : List Image → Sessions (List Mount) (Table MountedNode) → Type 0 =
    λ ms s. OnOk c.serve_lines.result (Serves (space_machine ms) s
    (g.R.ByteRead.remaining c.args.r.now) (g.R.ByteRead.remaining c.serve_lines.new.r)
    (g.W.ByteWrite.output c.args.w.now) (g.W.ByteWrite.output c.serve_lines.new.w)) in
    subst (λ ms. P ms (no_sessions 64)) same
    (subst (P (map g.T.Viewed.image c.new-calls.result.images.items)) c.new-calls.ensures.empty
    c.serve_lines.ensures.ok)

pub returns-clause-write_fault : goal.returns-clause-write_fault
returns-clause-write_fault g c =
    let same : map g.T.Viewed.image c.new-calls.result.images.items ≡ map g.T.Viewed.image c.args.images.items =
    ap (λ v. map g.T.Viewed.image v.items) c.new-calls.ensures.images in
    let P : List Image → Sessions (List Mount) (Table MountedNode) → Type 0 =
    λ ms s. c.serve_lines.result ≡ Err WriteFault
    → Rose ((g.W.ByteWrite.output c.args.w.now).failures) ((g.W.ByteWrite.output c.serve_lines.new.w).failures)
    × Breaks (space_machine ms) s
    (g.R.ByteRead.remaining c.args.r.now) (g.R.ByteRead.remaining c.serve_lines.new.r)
    (g.W.ByteWrite.output c.args.w.now) (g.W.ByteWrite.output c.serve_lines.new.w) in
    subst (λ ms. P ms (no_sessions 64)) same
    (subst (P (map g.T.Viewed.image c.new-calls.result.images.items)) c.new-calls.ensures.empty
    c.serve_lines.ensures.write_fault)

pub returns-clause-read_fault : goal.returns-clause-read_fault
returns-clause-read_fault g c =
    let same : map g.T.Viewed.image c.new-calls.result.images.items ≡ map g.T.Viewed.image c.args.images.items =
    ap (λ v. map g.T.Viewed.image v.items) c.new-calls.ensures.images in
    let P : List Image → Sessions (List Mount) (Table MountedNode) → Type 0 =
    λ ms s. c.serve_lines.result ≡ Err ReadFault
    → Rose (g.R.ByteRead.failures c.args.r.now) (g.R.ByteRead.failures c.serve_lines.new.r)
    × ((y : List ℕ) × Finishes (space_machine ms) s
    (g.R.ByteRead.remaining c.args.r.now) (g.R.ByteRead.remaining c.serve_lines.new.r)
    (g.W.ByteWrite.output c.args.w.now) (g.W.ByteWrite.output c.serve_lines.new.w) y) in
    subst (λ ms. P ms (no_sessions 64)) same
    (subst (P (map g.T.Viewed.image c.new-calls.result.images.items)) c.new-calls.ensures.empty
    c.serve_lines.ensures.read_fault)

pub returns-clause-too_many : goal.returns-clause-too_many
returns-clause-too_many g c =
    let same : map g.T.Viewed.image c.new-calls.result.images.items ≡ map g.T.Viewed.image c.args.images.items =
    ap (λ v. map g.T.Viewed.image v.items) c.new-calls.ensures.images in
    let P : List Image → Sessions (List Mount) (Table MountedNode) → Type 0 =
    λ ms s. c.serve_lines.result ≡ Err TooManyReads
    → (y : List ℕ) × (length y ≡ 2 ^ 40)
    × Finishes (space_machine ms) s
    (g.R.ByteRead.remaining c.args.r.now) (g.R.ByteRead.remaining c.serve_lines.new.r)
    (g.W.ByteWrite.output c.args.w.now) (g.W.ByteWrite.output c.serve_lines.new.w) y in
    subst (λ ms. P ms (no_sessions 64)) same
    (subst (P (map g.T.Viewed.image c.new-calls.result.images.items)) c.new-calls.ensures.empty
    c.serve_lines.ensures.too_many)

pub returns-clause-bounded : goal.returns-clause-bounded
returns-clause-bounded g c = c.serve_lines.ensures.bounded
