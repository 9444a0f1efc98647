use Rattle.std.proofs.Common.{◌≤◌, ap, ◌∙◌, arith}
use Rattle.rom_tree.specs.Image.{stat_of}
use Rattle.library_tests.specs.Sample.{root, bin, sh, deep, pipe, link, disk, tty, log}
use Rattle.library_tests.proofs.Answering.{stat_is, is_last, within, node1, node2, node3, node4, node5, node6, node7}
use Rattle.library_tests.proofs.Answering.{node8, node9}
use Rattle.library_tests.proofs.sample_image.SampleTreeImage.stat.Goals as goal

pub returns-in-1 : goal.returns-in-1
returns-in-1 c = stat_is c.args.n.0 1 root c.plain.result node1 c.in-1.is c.plain.ensures

pub returns-in-2 : goal.returns-in-2
returns-in-2 c = stat_is c.args.n.0 2 bin c.plain-in-2.result node2 c.in-2.is c.plain-in-2.ensures

pub returns-in-3 : goal.returns-in-3
returns-in-3 c = stat_is c.args.n.0 3 sh c.plain-in-3.result node3 c.in-3.is c.plain-in-3.ensures

pub returns-in-4 : goal.returns-in-4
returns-in-4 c = stat_is c.args.n.0 4 deep c.plain-in-4.result node4 c.in-4.is c.plain-in-4.ensures

pub returns-in-5 : goal.returns-in-5
returns-in-5 c = stat_is c.args.n.0 5 pipe c.plain-in-5.result node5 c.in-5.is c.plain-in-5.ensures

pub returns-in-6 : goal.returns-in-6
returns-in-6 c = stat_is c.args.n.0 6 link c.plain-in-6.result node6 c.in-6.is c.plain-in-6.ensures

pub returns-in-7 : goal.returns-in-7
returns-in-7 c = stat_is c.args.n.0 7 disk c.device.result node7 c.in-7.is c.device.ensures

pub returns-in-8 : goal.returns-in-8
returns-in-8 c = stat_is c.args.n.0 8 tty c.device-in-8.result node8 c.in-8.is c.device-in-8.ensures

pub returns-in-9 : goal.returns-in-9
returns-in-9 c = stat_is c.args.n.0 9 log c.plain-in-9.result node9 c.in-9.is c.plain-in-9.ensures

pub returns-in_default : goal.returns-in_default
returns-in_default c = λ x e. let n : 10 ≤ c.args.n.0 =
    (let h = within c.args.n.0 c.requires in omega arith) in c.plain-in_default.ensures
    ∙ ap stat_of (is_last c.args.n.0 x e n)
