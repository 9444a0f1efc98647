use Rattle.std.proofs.Common.{ap, sym, subst, ◌∙◌, Some, reverse}
use Rattle.std.specs.Option.{option_map}
use Rattle.std.proofs.lemmas.Option.{slice_get_past}
use Rattle.manifest_tree.specs.Tree.{inode_of}
use Rattle.manifest.specs.Lines.{led}
use Rattle.plan_rows.specs.Files.{IsIndexOf}
use Rattle.plan_rows.proofs.Knowing.{got}
use Rattle.plan_rows.proofs.Made.{no_file_at, file_is}
use Rattle.plan_rows.proofs.inodes.inode_at.Goals as goal

pub returns-in_default : goal.returns-in_default
returns-in_default c = λ sizes h.
    let all = c.args.m.now.lines in
    let path = c.args.path.now in
    no_file_at all sizes path (subst (λ o. IsIndexOf all o (led (reverse all) path)) c.in_default.is
    (c.line.ensures all sizes h))

pub returns-in-None : goal.returns-in-None
returns-in-None c = λ sizes h.
    let all = c.args.m.now.lines in
    let i = c.in-Some.index in
    let past = c.in-None.ensures.lookup.3 in
    sym (ap (option_map (inode_of all sizes)) (slice_get_past all i (rw c.lines.ensures.lines at past)))
    ∙ file_is all sizes c.args.path.now i (c.in-Some.ensures all sizes h)

pub returns-in-Some-get : goal.returns-in-Some-get
returns-in-Some-get c = λ sizes h.
    let all = c.args.m.now.lines in
    let i = c.in-Some.index in
    let l = c.in-Some-get.line.now in
    let below = c.in-Some-get.ensures.lookup.3.0 in
    let is = c.in-Some-get.ensures.lookup.1 in
    ap (λ x. Some x) (c.inode_of.ensures all sizes h)
    ∙ sym (ap (option_map (inode_of all sizes))
    (got all i l l (rw c.lines.ensures.lines at below) (rw c.lines.ensures.lines at is)))
    ∙ file_is all sizes c.args.path.now i (c.in-Some.ensures all sizes h)
