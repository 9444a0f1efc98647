use Rattle.std.proofs.Common.{◌≡◌, ℕ, List, length, take, sym, ap, ◌∙◌, subst}
use Rattle.rom_tree.specs.declared.types.Report.{Report}
use Rattle.romfs_format.specs.Made.{made, IsRomfs}
use Rattle.romfs_image.proofs.image.Romfs.parts.Goals as goal

pub returns-clause-depth : goal.returns-clause-depth
returns-clause-depth c = ap (λ (r : Report). r.depth) c.report-report.ensures

pub returns-clause-are : goal.returns-clause-are
returns-clause-are c =
    let s = c.args.self.now in
    let r : ℕ = s.accessible.root in
    let e : c.report-report.result.references ≡ s.references =
    ap (λ (v : Report). v.references) c.report-report.ensures in
    record {
      within = s.within;
      below = s.accessible.below;
      header = s.accessible.header;
      sound = subst (λ (k : ℕ). IsRomfs (take (length s.accessible.bytes.now) s.all.now) r k) (sym e)
          (subst (λ (v : List ℕ). IsRomfs v r s.references) s.front s.sound);
    }

pub returns-clause-tree : goal.returns-clause-tree
returns-clause-tree c =
    let s = c.args.self.now in
    let r : ℕ = s.accessible.root in
    let e : c.report-report.result.references ≡ s.references =
    ap (λ (v : Report). v.references) c.report-report.ensures in
    ap (λ (v : List ℕ). made v r s.references r) s.front
    ∙ ap (λ (k : ℕ). made (take (length s.accessible.bytes.now) s.all.now) r k r) (sym e)
