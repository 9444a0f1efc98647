use Rattle.std.proofs.Common.{◌∙◌, ◌++◌, ap, refl, sym, take, take-append-drop}
use Rattle.rom_c.proofs.lending.read_in.Goals as goal

pub returns-in-Ok-clause-read : goal.returns-in-Ok-clause-read
returns-in-Ok-clause-read c = λ o h.
    let n = c.in-Ok.copied in
    let new = c.read.new.buf in
    let m = c.in-Ok.ensures.moves o h in
    let all = sym (take-append-drop n new) ∙ ap (λ v. take n new ++ v) c.in-Ok.ensures.rest in
    rw m.1 ((refl, c.in-Ok.ensures.bound.1, all), m.2)
