use Rattle.manifest.specs.Printed.{manifest_text}
use Rattle.image_manifest.specs.Lines.{member_lines}
use Rattle.image_manifest.specs.Sources.{file_contents}
use Rattle.headline.proofs.built_again.Goals as goal

pub returns : goal.returns
returns c = λ m volume rules f bytes whole built.
    let text = manifest_text volume (member_lines m rules) in
    let law = c.built_is_accepted.ensures in (
      law.faultless f text (file_contents m) bytes built,
      λ t h.
          let means = law.meant f text (file_contents m) bytes built t h in
          c.built_again_is_alike.ensures m volume rules whole means.0 bytes t means.1 means.2,
    )
