use Rattle.std.proofs.Common.{◌≡◌, ◌∙◌, ◌++◌, ◌∷◌, ◌+◌, [], ℕ, List, ap, get_or, subst, sym, take, append-nil}
use Rattle.std.proofs.lemmas.Grind.{flat_map-append}
use Rattle.std.proofs.lemmas.List.{take_more, take_all}
use Rattle.std.specs.List.{flat_map}
use Rattle.rom_fields.specs.Written.{Puts, sink}
use Rattle.rom_fields.proofs.Joins.{chain, puts_nothing}
use Rattle.image_extents.specs.declared.extent.Extent.{Extent}
use Rattle.image_extents.specs.declared.extent.Kind.TheVariants.{Super}
use Rattle.image_extents.specs.Lines.{lines_as, lines_by, owners}
use Rattle.image_extents.proofs.Texts.{one_of}
use Rattle.image_extents.proofs.lines.put_each.Goals as goal

abbrev none : Extent
none = record { kind = Super; start = 0; len = 0; offset = 0; owner = 0 }

pub loop-number-init : goal.loop-number-init
loop-number-init g c = puts_nothing (sink (g.W.ByteWrite.output c.args.w.now) c.args.failed.now)

pub loop-number-preserved : goal.loop-number-preserved
loop-number-preserved g c =
    let f : Extent → List ℕ = λ y. lines_by c.args.base c.args.found.now c.args.at (y ∷ []) y in
    let xs : List Extent = c.args.run.now in
    let i : ℕ = c.loop-number.number in
    let x : Extent = get_or xs i none in
    let P : List ℕ → Type 0 = λ v. Puts (sink (g.W.ByteWrite.output c.args.w.now) c.args.failed.now)
    (sink (g.W.ByteWrite.output c.put_by.new.w) c.put_by.new.failed) v in
    let Q : List Extent → Type 0 = λ v. Puts (sink (g.W.ByteWrite.output c.loop-number.w) c.loop-number.failed)
    (sink (g.W.ByteWrite.output c.put_by.new.w) c.put_by.new.failed)
    (flat_map (lines_as c.args.base c.args.found.now c.args.at v) (owners c.args.found.now x)) in
    let more : flat_map f (take (i + 1) xs) ≡ flat_map f (take i xs) ++ f x =
    ap (flat_map f) (take_more xs i none c.loop-number-test.true) ∙ flat_map-append f (take i xs) (x ∷ [])
    ∙ ap (λ (v : List ℕ). flat_map f (take i xs) ++ v) (append-nil (f x)) in
    subst P (sym more)
    (chain c.loop-number.invariant (subst Q (one_of xs i none c.loop-number-test.true) c.put_by.ensures))

pub returns : goal.returns
returns g c =
    let f : Extent → List ℕ = λ y. lines_by c.args.base c.args.found.now c.args.at (y ∷ []) y in
    let P : List ℕ → Type 0 = λ v. Puts (sink (g.W.ByteWrite.output c.args.w.now) c.args.failed.now)
    (sink (g.W.ByteWrite.output c.loop-number.w) c.loop-number.failed) v in
    subst P (ap (flat_map f) (take_all c.loop-number.number c.args.run.now c.loop-number-test.false))
    c.loop-number.invariant
