use Rattle.std.proofs.Common.{Err, subst, length, ap}
use Rattle.directory_walk.specs.Views.{names_of}
use Rattle.build_commands.specs.ScanPrinted.{IsPrinted}
use Rattle.build_commands.proofs.scan.scan_directory.Goals as goal

pub returns-clause-err : goal.returns-clause-err
returns-clause-err g c =
    let names = names_of c.in-Ok.walked.entries.items in
    let out = g.W.ByteWrite.output c.args.out.now in
    let out' = g.W.ByteWrite.output c.print_walked.new.w in
    let same = ap length c.as_bytes-front.ensures.value in (
      names,
      subst (λ front. IsPrinted {T = Unit {0}} front names out out' (Err c.in-Err-print_walked.e)) same
          c.in-Err-print_walked.ensures.printed,
    )
