use Rattle.std.proofs.Common.{◌≡◌, true, [], Some, sym, ◌∙◌, subst}
use Rattle.image_manifest.specs.ExtractedMembers.{made_in, members_in}
use Rattle.tree_extract.specs.Extracted.{AreOf, IsExtracted}
use Rattle.library_tests.specs.Kept.{log_of}
use Rattle.library_tests.specs.SampleLaws.{sample}
use Rattle.library_tests.proofs.Noted.{all_made, on_ok}
use Rattle.library_tests.proofs.extracted.extracted.Goals as goal

pub returns-clause-only : goal.returns-clause-only
returns-clause-only c =
    let log = log_of c.extract_image-result.new.directory.notes.items in
    subst (λ ms. AreOf (Some []) ms log)
    (all_made (members_in c.args.giving sample) c.deref-3.result.now
    (c.deref-3.ensures.value ∙ c.in_ok-kinds.ensures.made c.args.giving))
    c.extract_image-result.ensures.only

pub returns-clause-finished : goal.returns-clause-finished
returns-clause-finished c = λ (h : c.is_ok.result ≡ true).
    let log = log_of c.extract_image-result.new.directory.notes.items in
    let kinds = c.deref-3.result.now in
    let top = c.extract_image-result.new.filled in
    subst (λ ms. (top.times ≡ 1) × IsExtracted (Some []) ms log)
    (all_made (members_in c.args.giving sample) kinds
    (c.deref-3.ensures.value ∙ c.in_ok-kinds.ensures.made c.args.giving))
    (on_ok c.extract_image-result.result
    ((top.times ≡ 1) × IsExtracted (Some []) (made_in c.args.giving sample kinds) log)
    c.extract_image-result.ensures.finished (sym c.is_ok.ensures.value ∙ h))
