use Rattle.std.proofs.Common.{◌≡◌, ℕ, List, length, take, sym, ap, ◌∙◌, subst}
use Rattle.rom_tree.specs.declared.types.Report.{Report}
use Rattle.cramfs_format.specs.declared.order.Order.{Order}
use Rattle.cramfs_format.specs.Refers.{root_place}
use Rattle.cramfs_format.specs.Made.{made, IsCramfs}
use Rattle.cramfs_image.proofs.image.Cramfs.parts.Goals as goal

pub returns-clause-are : goal.returns-clause-are
returns-clause-are c =
    let s = c.args.self.now in
    let o : Order = s.accessible.order in
    let e : c.report-report.result.references ≡ s.references =
    ap (λ (v : Report). v.references) c.report-report.ensures in
    record {
      within = s.within;
      sound = subst (λ (k : ℕ). IsCramfs o (take (length s.accessible.bytes.now) s.all.now) k) (sym e)
          (subst (λ (v : List ℕ). IsCramfs o v s.references) s.front s.sound);
    }

pub returns-clause-tree : goal.returns-clause-tree
returns-clause-tree c =
    let s = c.args.self.now in
    let o : Order = s.accessible.order in
    let e : c.report-report.result.references ≡ s.references =
    ap (λ (v : Report). v.references) c.report-report.ensures in
    ap (λ (v : List ℕ). made o v s.references root_place) s.front
    ∙ ap (λ (k : ℕ). made o (take (length s.accessible.bytes.now) s.all.now) k root_place) (sym e)
