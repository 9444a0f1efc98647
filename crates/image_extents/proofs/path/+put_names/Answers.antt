use Rattle.std.proofs.Common.{◌≡◌, ◌∙◌, ◌-◌, ◌∷◌, [], ◌++◌, ℕ, List, ap, sym, subst, get_or}
use Rattle.rom_fields.specs.Texts.{escaped}
use Rattle.rom_fields.specs.Written.{Puts, sink}
use Rattle.rom_fields.proofs.Joins.{chain, puts_nothing}
use Rattle.rom_tree.proofs.Paths.{escaped_none, escaped_below, escaped_both}
use Rattle.image_extents.specs.declared.extent.Record.{Record}
use Rattle.image_extents.specs.Listed.{path_in, name_in}
use Rattle.image_extents.proofs.Texts.{path_root, path_out, path_more}
use Rattle.image_extents.proofs.path.+put_names.Goals as goal

abbrev none : Record
none = record { offset = 0; name = 0; length = 0; directory = 0 }

pub returns-then-most-eq0 : goal.returns-then-most-eq0
returns-then-most-eq0 g k c =
    let P : List ℕ → Type 0 = λ v. Puts (sink (g.W.ByteWrite.output c.args.w.now) c.args.failed.now)
    (sink (g.W.ByteWrite.output c.args.w.now) c.args.failed.now) v in
    let e : path_in c.args.bytes.now c.args.records.now c.args.most c.args.number ≡ [] =
    ap (λ (v : ℕ). path_in c.args.bytes.now c.args.records.now v c.args.number) c.if-most-eq0.true in
    subst P (sym (ap escaped e ∙ escaped_none))
    (puts_nothing (sink (g.W.ByteWrite.output c.args.w.now) c.args.failed.now))

pub returns-then-number-eq0 : goal.returns-then-number-eq0
returns-then-number-eq0 g k c =
    let P : List ℕ → Type 0 = λ v. Puts (sink (g.W.ByteWrite.output c.args.w.now) c.args.failed.now)
    (sink (g.W.ByteWrite.output c.args.w.now) c.args.failed.now) v in
    let e = path_root c.args.bytes.now c.args.records.now c.args.most c.args.number c.if-number-eq0.true in
    subst P (sym (ap escaped e ∙ escaped_none))
    (puts_nothing (sink (g.W.ByteWrite.output c.args.w.now) c.args.failed.now))

pub returns-then-number-records : goal.returns-then-number-records
returns-then-number-records g k c =
    let P : List ℕ → Type 0 = λ v. Puts (sink (g.W.ByteWrite.output c.args.w.now) c.args.failed.now)
    (sink (g.W.ByteWrite.output c.args.w.now) c.args.failed.now) v in
    let e = path_out c.args.bytes.now c.args.records.now c.args.most c.args.number c.if-number-eq0.false
    c.if-number-records.true in
    subst P (sym (ap escaped e ∙ escaped_none))
    (puts_nothing (sink (g.W.ByteWrite.output c.args.w.now) c.args.failed.now))

pub returns : goal.returns
returns g k c =
    let x : Record = get_or c.args.records.now c.args.number none in
    let P : List ℕ → Type 0 = λ v. Puts (sink (g.W.ByteWrite.output c.args.w.now) c.args.failed.now)
    (sink (g.W.ByteWrite.output c.put_escaped.new.w) c.put_escaped.new.failed) v in
    let Q : List ℕ → Type 0 = λ v. Puts (sink (g.W.ByteWrite.output c.put.new.w) c.put.new.failed)
    (sink (g.W.ByteWrite.output c.put_escaped.new.w) c.put_escaped.new.failed) (escaped v) in
    let above = path_in c.args.bytes.now c.args.records.now (c.args.most - 1) x.directory in
    let name = name_in c.args.bytes.now x in
    let e : path_in c.args.bytes.now c.args.records.now c.args.most c.args.number ≡ above ++ 47 ∷ name =
    path_more c.args.bytes.now c.args.records.now c.args.most c.args.number none c.if-most-eq0.false
    c.if-number-eq0.false c.if-number-records.false in
    subst P (sym (ap escaped e ∙ escaped_both above (47 ∷ name)
    ∙ ap (λ (v : List ℕ). escaped above ++ v) (escaped_below name)))
    (chain c.put_names.ensures (chain c.put.ensures (subst Q c.bytes_at.ensures c.put_escaped.ensures)))
