use Rattle.std.proofs.Common.{◌≡◌, sym, subst}
use Rattle.rom_tree.proofs.Answered.{err_by}
use Rattle.image_check.specs.Checked.{IsRefused, IsLeastFaultUnder, least_of_cramfs}
use Rattle.image_check.proofs.Formats.{begins_romfs, begins_cramfs, refused_romfs, refused_cramfs, no_tree}
use Rattle.image_check.proofs.checking.check.Goals as goal

pub returns-in_err-check-in-Romfs-clause-fault : goal.returns-in_err-check-in-Romfs-clause-fault
returns-in_err-check-in-Romfs-clause-fault c =
    let b = begins_romfs c.in-Some.format c.args.bytes.now c.in-Romfs.is c.in-Some.ensures.begins in
    err_by c.from_residual.result c.from_residual.ensures.1 (λ e is.
    subst (IsRefused c.args.bytes.now c.args.limits) (sym is)
    (refused_romfs c.args.bytes.now c.args.limits c.in_err-check-in-Romfs.field-0.0 b
    c.in_err-check-in-Romfs.ensures.fault))

pub returns-in_err-check-in-Cramfs-clause-fault : goal.returns-in_err-check-in-Cramfs-clause-fault
returns-in_err-check-in-Cramfs-clause-fault c =
    let b = begins_cramfs c.in-Some.format c.args.bytes.now c.in-Cramfs.is c.in-Some.ensures.begins in
    err_by c.from_residual-in_err-check-in-Cramfs.result c.from_residual-in_err-check-in-Cramfs.ensures.1 (λ e is.
    subst (IsRefused c.args.bytes.now c.args.limits) (sym is)
    (refused_cramfs c.args.bytes.now c.args.limits c.in_err-check-in-Cramfs.field-0.0 b
    c.in_err-check-in-Cramfs.ensures.fault))

pub returns-in_err-check-in-Cramfs-clause-least : goal.returns-in_err-check-in-Cramfs-clause-least
returns-in_err-check-in-Cramfs-clause-least c =
    let b = begins_cramfs c.in-Some.format c.args.bytes.now c.in-Cramfs.is c.in-Some.ensures.begins in
    err_by c.from_residual-in_err-check-in-Cramfs.result c.from_residual-in_err-check-in-Cramfs.ensures.1 (λ e is.
    subst (IsLeastFaultUnder c.args.bytes.now c.args.limits) (sym is)
    (least_of_cramfs b c.in_err-check-in-Cramfs.ensures.least))

pub returns-in_default-clause-fault : goal.returns-in_default-clause-fault
returns-in_default-clause-fault c =
    let none = c.in_default.ensures.none in
    rw c.neither.ensures (no_tree c.args.bytes.now c.args.limits none.0 none.1)
