use Rattle.std.proofs.Common.{◌∙◌, ap}
use Rattle.serve_lines.specs.declared.word.Word.{Word}
use Rattle.serve_lines.specs.Commands.{asks, on_fd, lend, seek, map_part, quit, umount, call_of, fields_left}
use Rattle.serve_lines.proofs.Cutting.{some_fields}
use Rattle.serve_lines.proofs.command.call.Goals as goal

pub returns-in-Err-clause-asks : goal.returns-in-Err-clause-asks
returns-in-Err-clause-asks c = ap (λ (w : Word). call_of w (fields_left c.args.rest)) c.in-Fd.is
    ∙ c.in-Err.ensures (λ fd. asks (on_fd c.in-Fd.fd_call fd))

pub returns-in-Ok-clause-asks : goal.returns-in-Ok-clause-asks
returns-in-Ok-clause-asks c = ap (λ (w : Word). call_of w (fields_left c.args.rest)) c.in-Fd.is
    ∙ c.in-Ok.ensures (λ fd. asks (on_fd c.in-Fd.fd_call fd))

pub returns-in-Err-two_numbers-clause-asks : goal.returns-in-Err-two_numbers-clause-asks
returns-in-Err-two_numbers-clause-asks c =
    ap (λ (w : Word). call_of w (fields_left c.args.rest)) c.in-Lend.is
    ∙ c.in-Err-two_numbers.ensures (λ fd len. asks (lend fd len))

pub returns-in-Ok-two_numbers-clause-asks : goal.returns-in-Ok-two_numbers-clause-asks
returns-in-Ok-two_numbers-clause-asks c =
    ap (λ (w : Word). call_of w (fields_left c.args.rest)) c.in-Lend.is
    ∙ c.in-Ok-two_numbers.ensures (λ fd len. asks (lend fd len))

pub returns-in-Err-two_numbers-2-clause-asks : goal.returns-in-Err-two_numbers-2-clause-asks
returns-in-Err-two_numbers-2-clause-asks c =
    ap (λ (w : Word). call_of w (fields_left c.args.rest)) c.in-Seek.is
    ∙ c.in-Err-two_numbers-2.ensures (λ fd off. asks (seek fd off))

pub returns-in-Ok-two_numbers-2-clause-asks : goal.returns-in-Ok-two_numbers-2-clause-asks
returns-in-Ok-two_numbers-2-clause-asks c =
    ap (λ (w : Word). call_of w (fields_left c.args.rest)) c.in-Seek.is
    ∙ c.in-Ok-two_numbers-2.ensures (λ fd off. asks (seek fd off))

pub returns-in-Err-three_numbers-clause-asks : goal.returns-in-Err-three_numbers-clause-asks
returns-in-Err-three_numbers-clause-asks c =
    ap (λ (w : Word). call_of w (fields_left c.args.rest)) c.in-Map.is
    ∙ c.in-Err-three_numbers.ensures (λ fd off len. asks (map_part fd off len))

pub returns-in-Ok-three_numbers-clause-asks : goal.returns-in-Ok-three_numbers-clause-asks
returns-in-Ok-three_numbers-clause-asks c =
    ap (λ (w : Word). call_of w (fields_left c.args.rest)) c.in-Map.is
    ∙ c.in-Ok-three_numbers.ensures (λ fd off len. asks (map_part fd off len))

pub returns-in-Some-rest-clause-asks : goal.returns-in-Some-rest-clause-asks
returns-in-Some-rest-clause-asks c =
    ap (λ (w : Word). call_of w (fields_left c.args.rest)) c.in-Quit.is
    ∙ some_fields c.args.rest c.in-Some-rest.field-0 (asks quit) c.in-Some-rest.is

pub returns-in-Err-one_number-clause-asks : goal.returns-in-Err-one_number-clause-asks
returns-in-Err-one_number-clause-asks c =
    ap (λ (w : Word). call_of w (fields_left c.args.rest)) c.in-Umount.is
    ∙ c.in-Err-one_number.ensures (λ image. asks (umount image))

pub returns-in-Ok-one_number-clause-asks : goal.returns-in-Ok-one_number-clause-asks
returns-in-Ok-one_number-clause-asks c =
    ap (λ (w : Word). call_of w (fields_left c.args.rest)) c.in-Umount.is
    ∙ c.in-Ok-one_number.ensures (λ image. asks (umount image))
