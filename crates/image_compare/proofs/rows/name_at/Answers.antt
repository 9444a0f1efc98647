use Rattle.std.proofs.Common.{◌≡◌, ◌∙◌, ℕ, ◌<◌, ◌++◌, List, length, get_or, ap, arith, subst, sym}
use Rattle.std.proofs.lemmas.Bool.Decides.{nat_tests}
use Rattle.rom_tree.specs.Image.{Image}
use Rattle.image_compare.specs.declared.directories.Directory.{Directory}
use Rattle.image_compare.specs.declared.rows.Row.{Row}
use Rattle.image_compare.specs.Directories.{AreWays}
use Rattle.image_compare.specs.Rows.{row_path}
use Rattle.image_compare.proofs.Listed.{at_short, first_at}
use Rattle.image_compare.proofs.rows.name_at.Goals as goal

pub append_path-requires : goal.append_path-requires
append_path-requires c =
    let m : Image = c.requires.0 in
    let h = c.requires.1.1 in
    let r : Row = c.in_ok-row.row.now in
    let q = c.in_ok-row.ensures.lookup in
    let t = q.0 in
    let k : c.args.at < length c.deref.result.now = grind (arith, nat_tests, t) in
    let P : List Row → Type 0 = λ v. c.args.at < length v in
    let Q : List Row → Type 0 = λ v. get_or v c.args.at r ≡ r in
    let l = subst P c.deref.ensures.value k in
    let e = subst Q c.deref.ensures.value (sym q.1) in
    let D : List Directory → Type 0 = λ v. AreWays v h.ways in
    let s = at_short m c.args.rows.now c.requires.1.0 h c.args.at r l e in
    let z = ap (λ (v : List ℕ). length v) c.clear.ensures in
    (h.ways, subst D (sym c.as_slice.ensures.value) h.directories, omega (arith, s, z))

pub returns-clause-next : goal.returns-clause-next
returns-clause-next c = λ m ns h.
    let r : Row = c.in_ok-row.row.now in
    let q = c.in_ok-row.ensures.lookup in
    let t = q.0 in
    let k : c.args.at < length c.deref.result.now = grind (arith, nat_tests, t) in
    let P : List Row → Type 0 = λ v. c.args.at < length v in
    let Q : List Row → Type 0 = λ v. get_or v c.args.at r ≡ r in
    let l = subst P c.deref.ensures.value k in
    let e = subst Q c.deref.ensures.value (sym q.1) in
    let D : List Directory → Type 0 = λ v. AreWays v h.ways in
    first_at m c.args.rows.now ns h c.args.at r c.as_slice-2.result.now l e
    (c.as_slice-2.ensures.value
    ∙ (c.append_path.ensures h.ways (subst D (sym c.as_slice.ensures.value) h.directories)
    ∙ ap (λ (v : List ℕ). v ++ row_path h.ways r) c.clear.ensures))
