use Rattle.std.proofs.Common.{ap, ◌∙◌}
use Rattle.manifest_layout.specs.Tests.{is_large, is_long}
use Rattle.manifest_layout.specs.Misfit.{name_len}
use Rattle.manifest.specs.Paths.{names_of}
use Rattle.formats.specs.Format.{format_of}
use Rattle.plan_rows.proofs.Numbers.{number_of_line_is}
use Rattle.plan_rows.proofs.lines.number_of_line.Goals as goal

pub returns : goal.returns
returns c = λ m sizes h.
    let f = format_of c.args.format in
    let large = c.is_large-large.ensures ∙ ap (is_large f) (c.size_of.ensures m.lines sizes h) in
    let long = c.is_long-long.ensures ∙ ap (is_long f)
    (c.name_len.ensures ∙ ap (λ p. name_len (names_of p)) c.as_bytes.ensures) in
    let known = c.least_number.ensures in
    (rw (c.is_hard.ensures, c.has_no_links.ensures) at known)
    ∙ number_of_line_is f m sizes c.args.line.now _ _ _ c.has_bad_attribute-bad_attribute.ensures large long
