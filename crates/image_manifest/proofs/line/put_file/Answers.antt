use Rattle.std.proofs.Common.{List, ℕ, sym, subst}
use Rattle.rom_fields.specs.Written.{Puts, sink}
use Rattle.rom_fields.proofs.Joins.{chain}
use Rattle.image_manifest.proofs.Lined.{file_text}
use Rattle.image_manifest.proofs.line.put_file.Goals as goal

pub returns : goal.returns
returns g c =
    let P : List ℕ → Type 0 = λ v. Puts (sink (g.W.ByteWrite.output c.args.w.now) c.args.failed.now)
    (sink (g.W.ByteWrite.output c.put-7.new.w) c.put-7.new.failed) v in
    let rules = c.args.rules in
    subst P (sym (file_text c.args.path.now rules.directory.now rules.align c.args.stat c.requires))
    (chain c.put.ensures (chain c.put_escaped.ensures
    (chain c.put-2.ensures (chain c.put_octal.ensures (chain c.put-3.ensures
    (chain c.put_decimal.ensures (chain c.put-4.ensures (chain c.put_decimal-2.ensures (chain c.put-5.ensures
    (chain c.put_decimal-3.ensures (chain c.put-6.ensures
    (chain c.put_escaped-2.ensures (chain c.put_escaped-3.ensures c.put-7.ensures)))))))))))))
