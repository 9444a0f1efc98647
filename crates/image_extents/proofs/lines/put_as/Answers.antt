use Rattle.std.proofs.Common.{◌≡◌, ◌∙◌, ◌++◌, ◌∷◌, ◌+◌, [], ℕ, List, ap, get_or, subst, sym, take, append-nil}
use Rattle.std.proofs.lemmas.Grind.{flat_map-append}
use Rattle.std.proofs.lemmas.List.{take_more, take_all}
use Rattle.std.specs.List.{flat_map}
use Rattle.rom_fields.specs.Written.{Puts, sink}
use Rattle.rom_fields.proofs.Joins.{chain, puts_nothing}
use Rattle.image_extents.specs.declared.extent.Extent.{Extent}
use Rattle.image_extents.specs.declared.extent.Kind.TheVariants.{Super}
use Rattle.image_extents.specs.Lines.{line_of}
use Rattle.image_extents.proofs.lines.put_as.Goals as goal

abbrev none : Extent
none = record { kind = Super; start = 0; len = 0; offset = 0; owner = 0 }

pub loop-x-init : goal.loop-x-init
loop-x-init g c = puts_nothing (sink (g.W.ByteWrite.output c.args.w.now) c.args.failed.now)

pub loop-x-preserved : goal.loop-x-preserved
loop-x-preserved g c =
    let f : Extent → List ℕ = λ x. line_of c.args.base c.args.found.now c.args.at x c.args.number in
    let xs : List Extent = c.args.run.now in
    let i : ℕ = c.loop-x.x-index in
    let P : List ℕ → Type 0 = λ v. Puts (sink (g.W.ByteWrite.output c.args.w.now) c.args.failed.now)
    (sink (g.W.ByteWrite.output c.put_line.new.w) c.put_line.new.failed) v in
    let x : Extent = get_or xs i none in
    let more : flat_map f (take (i + 1) xs) ≡ flat_map f (take i xs) ++ f x =
    ap (flat_map f) (take_more xs i none c.loop-x-test.true) ∙ flat_map-append f (take i xs) (x ∷ [])
    ∙ ap (λ (v : List ℕ). flat_map f (take i xs) ++ v) (append-nil (f x)) in
    subst P (sym more) (chain c.loop-x.invariant c.put_line.ensures)

pub returns : goal.returns
returns g c =
    let f : Extent → List ℕ = λ x. line_of c.args.base c.args.found.now c.args.at x c.args.number in
    let P : List ℕ → Type 0 = λ v. Puts (sink (g.W.ByteWrite.output c.args.w.now) c.args.failed.now)
    (sink (g.W.ByteWrite.output c.loop-x.w) c.loop-x.failed) v in
    subst P (ap (flat_map f) (take_all c.loop-x.x-index c.args.run.now c.loop-x-test.false)) c.loop-x.invariant
