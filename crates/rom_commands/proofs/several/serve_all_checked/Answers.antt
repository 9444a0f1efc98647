use Rattle.std.proofs.Common.{◌≡◌, map, refl, subst, sym, arith}
use Rattle.std.proofs.lemmas.List.{length-map}
use Rattle.image_check.specs.Any.{any_view}
use Rattle.lookups.specs.Inner.{inner}
use Rattle.open_files.specs.Sessions.{no_sessions}
use Rattle.rom_fields.specs.Written.{Output}
use Rattle.rom_serve.specs.Machines.{space_machine}
use Rattle.rom_commands.specs.Refused.{EndsUnserved}
use Rattle.rom_commands.specs.Serving.{Input, input_of, EndsServed}
use Rattle.rom_commands.specs.declared.several.NoImage.{NoImage}
use Rattle.rom_commands.specs.declared.several.NoImage.TheVariants as none
use Rattle.rom_commands.proofs.Endings.{answers_by, answered_by}
use Rattle.rom_commands.proofs.several.serve_all_checked.Goals as goal

pub returns-in-Ok-clause-served : goal.returns-in-Ok-clause-served
returns-in-Ok-clause-served g c =
    let m = space_machine (map (λ x. any_view (inner x)) c.in-Ok.images.items) in
    let r₀ : Input = input_of (g.R.ByteRead.remaining c.args.r.now) (g.R.ByteRead.failures c.args.r.now) in
    let r : Input =
    input_of (g.R.ByteRead.remaining c.serve_space.new.r) (g.R.ByteRead.failures c.serve_space.new.r) in
    let w₀ : Output = g.W.ByteWrite.output c.args.w.now in
    let w : Output = g.W.ByteWrite.output c.serve_space.new.w in
    rw c.in-Ok.is (answered_by (λ s. EndsServed m (no_sessions 64) r₀ r w₀ w s) (λ f i. ⊥) c.serve_space.result
    c.answered.result c.answered.ensures
    (answers_by m (no_sessions 64) r₀ r w₀ w c.serve_space.result c.serve_space.ensures.ok c.serve_space.ensures.quiet
    c.serve_space.ensures.read_fault c.serve_space.ensures.write_fault c.serve_space.ensures.too_many))

pub returns-in-Err-Fault-clause-unserved : goal.returns-in-Err-Fault-clause-unserved
returns-in-Err-Fault-clause-unserved g c =
    let v = c.in-Err-Fault in
    let r₀ : Input = input_of (g.R.ByteRead.remaining c.args.r.now) (g.R.ByteRead.failures c.args.r.now) in
    let w₀ : Output = g.W.ByteWrite.output c.args.w.now in
    let w : Output = g.W.ByteWrite.output c.write_fault.new.w in
    let e : v.field-0 ≡ none.Fault v.number v.at v.image = rw v.is at v.field-0-is in
    rw v.is (subst (λ (f : NoImage). EndsUnserved f r₀ r₀ w₀ w c.write_fault.result) (sym e)
    (refl, c.write_fault.ensures))

pub serve_space-requires : goal.serve_space-requires
serve_space-requires g c κs =
    let l = length-map c.in-Ok.images.items (λ x. any_view (inner x)) in
    let some = rw c.in-Ok.is at c.requires.some in
    let few = rw c.in-Ok.is at c.requires.few in
    ((refl, tt), (omega (arith, l, some), (omega (arith, l, few), rw c.in-Ok.is at c.requires.shallow)))
