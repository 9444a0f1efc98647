use Rattle.std.proofs.Common.{subst, arith}
use Rattle.rom_tree.specs.Tree.{Node, places_of}
use Rattle.rom_tree.specs.Image.{GivesRun, GivesWhole}
use Rattle.library_tests.specs.Sample.{sh, link}
use Rattle.library_tests.proofs.Answering.{is_node, no_places, node3, node6}
use Rattle.library_tests.proofs.sample_image.SampleTreeImage.run.Goals as goal

pub returns-in-3-clause-row : goal.returns-in-3-clause-row
returns-in-3-clause-row c = λ x e. let P : Node → Type 0 =
    λ v. GivesRun (places_of v) c.args.off c.row_run.result in subst P
    (is_node c.args.n.0 3 sh node3 c.in-3.is x e) c.row_run.ensures.row

pub returns-in-3-clause-whole : goal.returns-in-3-clause-whole
returns-in-3-clause-whole c = λ x e. let P : Node → Type 0 =
    λ v. GivesWhole v c.args.off c.row_run.result in subst P (is_node c.args.n.0 3 sh node3 c.in-3.is x e)
    (λ l. c.row_run.ensures.whole)

pub returns-in-6-clause-row : goal.returns-in-6-clause-row
returns-in-6-clause-row c = λ x e. let P : Node → Type 0 =
    λ v. GivesRun (places_of v) c.args.off c.row_run-in-6.result in subst P
    (is_node c.args.n.0 6 link node6 c.in-6.is x e) c.row_run-in-6.ensures.row

pub returns-in-6-clause-whole : goal.returns-in-6-clause-whole
returns-in-6-clause-whole c = λ x e. let P : Node → Type 0 =
    λ v. GivesWhole v c.args.off c.row_run-in-6.result in subst P (is_node c.args.n.0 6 link node6 c.in-6.is x e)
    (λ l. c.row_run-in-6.ensures.whole)

pub returns-in_default-clause-row : goal.returns-in_default-clause-row
returns-in_default-clause-row c =
    λ x e. let z = no_places c.args.n.0 x e (λ h. omega arith) (λ h. omega arith) in omega (arith, z)
