use Rattle.std.proofs.Common.{◌≢◌, ℕ, sym, ap, subst, ◌∙◌, arith}
use Rattle.romfs_format.specs.Record.{IsSound, HasRecordFault}
use Rattle.romfs_format.specs.Refers.{reference_offset, some_offset}
use Rattle.romfs_format.proofs.Bridge.{offset_some}
use Rattle.romfs_format.proofs.Faults.{sound_faultless}
use Rattle.romfs_format.proofs.Lawful.{own_list, after_following}
use Rattle.romfs_image.proofs.accessible.AccessibleRecords.edges.Goals as goal

pub returns-in-Some-clause-unsound : goal.returns-in-Some-clause-unsound
returns-in-Some-clause-unsound c = λ s.
    let e = offset_some (reference_offset c.args.self.now.bytes.now c.args.self.now.root c.args.x) c.args.at
    c.requires.target in
    sound_faultless (subst (IsSound c.args.self.now.bytes.now c.args.self.now.root)
    (sym e.1) s) c.in-Some.number c.in-Some.ensures.fault.here

pub returns-clause-faultless : goal.returns-clause-faultless
returns-clause-faultless c = λ f l.
    let e = offset_some (reference_offset c.args.self.now.bytes.now c.args.self.now.root c.args.x) c.args.at
    c.requires.target in
    sound_faultless c.in_default.ensures.sound f.number
    (subst (λ (p : ℕ). HasRecordFault c.args.self.now.bytes.now c.args.self.now.root p f.number) (sym e.1) l.number)

pub returns-clause-own_target : goal.returns-clause-own_target
returns-clause-own_target c =
    let w = c.in_default.ensures.sound.from_root in
    let v = c.args.self.now.below in
    let live : c.args.at ≢ 0 = λ z. omega arith in
    c.some.ensures ∙ ap some_offset (c.list_at.ensures
    ∙ sym (own_list c.args.self.now.bytes.now c.args.self.now.root c.args.at live))

pub returns-clause-after_target : goal.returns-clause-after_target
returns-clause-after_target c =
    let w = c.in_default.ensures.sound.from_root in
    let v = c.args.self.now.below in
    let live : c.args.at ≢ 0 = λ z. omega arith in
    c.some-2.ensures ∙ ap some_offset (c.record_after.ensures
    ∙ sym (after_following c.args.self.now.bytes.now c.args.self.now.root c.args.at live))
