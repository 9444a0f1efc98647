use Rattle.std.proofs.Common.{◌≡◌, ◌∙◌, sym, ap, subst, arith, rules, nat_eq, true, false, ◌^◌, ◌<◌, Ok}
use Rattle.std.specs.Str.{IsUtf8}
use Rattle.std.specs.Fmt.{decimal}
use Rattle.std.proofs.lemmas.Str.{IsUtf8-from_ascii}
use Rattle.std.proofs.lemmas.Fmt.{IsAscii-decimal, parse-decimal}
use Rattle.std.proofs.lemmas.Cmp.{nat_list_eq_equiv}
use Rattle.std.proofs.lemmas.Slice.Eq.{bytes_eq-Decides}
use Rattle.std.specs.Cmp.Lexicographic.{pointwise}
use Rattle.serve_lines.proofs.Numerals.{number_some, number_none}
use Rattle.serve_lines.proofs.field.number.Goals as goal

pub returns-in_default : goal.returns-in_default
returns-in_default c = sym (number_none c.args.field.now (λ n small e.
    let fits : n < 2 ^ 64 = omega arith in
    c.in_default.ensures.cases.0 (subst IsUtf8 (sym e) (IsUtf8-from_ascii (decimal n) (IsAscii-decimal n fits)))))

pub returns-in_default-from_str_radix : goal.returns-in_default-from_str_radix
returns-in_default-from_str_radix c = sym (number_none c.args.field.now (λ n small e.
    let fits : n < 2 ^ 64 = omega arith in
    c.in_default-from_str_radix.not-Ok n
    (parse-decimal 32 n c.in-Ok.s.now c.from_str_radix.result small fits
    (c.in-Ok.ensures.cases.0 ∙ e) c.from_str_radix.ensures.value)))

pub returns-then-eq : goal.returns-then-eq
returns-then-eq c =
    let small : c.in-Ok-from_str_radix.n < 2 ^ 32 = search rules in
    let same : c.as_bytes.result.now ≡ c.args.field.now =
    (bytes_eq-Decides c.as_bytes.result.now c.args.field.now).0 (sym c.if-eq.ensures) in
    sym (number_some c.in-Ok-from_str_radix.n c.args.field.now small
    (sym same ∙ c.as_bytes.ensures.value ∙ c.format.ensures.text))

pub returns-else-eq : goal.returns-else-eq
returns-else-eq c = sym (number_none c.args.field.now (λ n small e.
    let fits : n < 2 ^ 64 = omega arith in
    let read : Ok c.in-Ok-from_str_radix.n ≡ Ok n =
    sym c.in-Ok-from_str_radix.is ∙ parse-decimal 32 n c.in-Ok.s.now c.from_str_radix.result small fits
    (c.in-Ok.ensures.cases.0 ∙ e) c.from_str_radix.ensures.value in
    let same : c.in-Ok-from_str_radix.n ≡ n = cc in
    let text : c.as_bytes.result.now ≡ c.args.field.now =
    c.as_bytes.ensures.value ∙ c.format.ensures.text ∙ ap decimal same ∙ sym e in
    let equal : false ≡ true = c.if-eq.ensures ∙ ap (λ t. pointwise nat_eq t c.args.field.now) text
    ∙ nat_list_eq_equiv.refl c.args.field.now in
    cc))
