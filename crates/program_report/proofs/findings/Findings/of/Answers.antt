use Rattle.std.proofs.Common.{◌≡◌, ◌∙◌, ℕ, List, Bool, true, None, Option, IfSome, ap, sym, subst, if◌then◌else◌}
use Rattle.rom_tree.specs.Tree.{is_regular, places_of}
use Rattle.rom_tree.specs.Image.{Image}
use Rattle.rom_tree.proofs.Named.{node_by}
use Rattle.image_check.specs.declared.any.AnyImage.{AnyImage}
use Rattle.image_check.specs.Any.{any_view}
use Rattle.image_info.specs.declared.data.Data.{Data}
use Rattle.image_info.specs.Data.{data_cmp, data_places}
use Rattle.image_info.proofs.Noted.{exact_data, still_right}
use Rattle.program_report.specs.declared.finding.Found.{Found}
use Rattle.program_report.specs.declared.question.Question.{Question}
use Rattle.program_report.specs.Found.{found_in, found_on}
use Rattle.program_report.specs.Findings.{IsFinding}
use Rattle.program_report.proofs.findings.Findings.of.Goals as goal

pub returns-in-Some-clause-within : goal.returns-in-Some-clause-within
returns-in-Some-clause-within c =
    let a : AnyImage = c.args.image.now in
    let ps : List ℕ = data_places (any_view a).bytes c.args.self.now.parts c.data_of-data.result in
    let P : Option (Option Found) → Type 0 = λ v. IfSome v (IsFinding a c.args.question.now ps) in
    (subst P (sym c.in-Some.ensures.value) (c.requires.known.known c.data_of-data.result)).within

pub returns-in-Ok-clause-known : goal.returns-in-Ok-clause-known
returns-in-Ok-clause-known c =
    let a : AnyImage = c.args.image.now in
    let q : Question = c.args.question.now in
    let m : Image = any_view a in
    let d : Data = c.data_of-data.result in
    let x = node_by m c.args.n.0 c.requires.node in
    let r : is_regular x.0 ≡ true = sym (c.if-not-is_regular_at.ensures x.0 x.1) in
    let f : found_in a q x.0 ≡ found_on a q (data_places m.bytes c.args.self.now.parts d) =
    ap (λ (v : Bool). if v then found_on a q (places_of x.0) else None) r
    ∙ ap (found_on a q) (c.data_of-data.ensures x.0 x.1) in
    record {
      parts = c.requires.known.parts;
      tree = c.requires.known.tree;
      known = still_right data_cmp exact_data (λ e v. IsFinding a q (data_places m.bytes c.args.self.now.parts e) v)
          c.args.self.now.known c.insert.new.self d c.found_in-found.result c.requires.known.known
          c.in-Ok.ensures.updates
          (record { is = c.found_in-found.ensures.is x.0 x.1 ∙ f; within = c.found_in-found.ensures.within });
    }
