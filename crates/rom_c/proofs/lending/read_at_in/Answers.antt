use Rattle.std.proofs.Common.{◌≡◌, ℕ, Bool, true, false, Ok, Err, ap, sym, subst, length}
use Rattle.open_files.specs.Machine.{Outcome, file_only, read_on}
use Rattle.image_check.specs.Any.{any_view}
use Rattle.rom_c.specs.Outcomes.{IsCopied}
use Rattle.rom_c.proofs.lending.read_at_in.Goals as goal

-- the position after a seek that was not refused
abbrev position_of : Outcome (Unit {0}) → ℕ
position_of (Ok a) = a.1
position_of (Err e) = 0

sought : (d : Bool) (off q : ℕ) → file_only {R = Unit {0}} d (Ok (tt, off)) ≡ Ok (tt, q) → off ≡ q
sought true off q h = absurd (cc)
sought false off q h = ap position_of h

pub returns-in-Ok : goal.returns-in-Ok
returns-in-Ok c = λ o h.
    let m = any_view c.args.image.now in
    let w = c.in-Ok.ensures o h in
    let r = c.read_in.ensures.read (record { place = o.place; position = w.0 }) w.2 in
    let P : ℕ → Type 0 = λ q. IsCopied (read_on m.bytes (length c.args.buffer.now) o.place q) c.read_in.result
    c.read_in.new.count c.read_in.new.buffer c.args.buffer.now in
    subst P (sym (sought _ c.args.off w.0 w.1)) r.0
