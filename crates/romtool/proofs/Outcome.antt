-- How a file got an image, by the answers of the calls.
use Rattle.std.proofs.Common.{◌≡◌, ℕ, List, Option, Result, Ok, sym, subst}
use Rattle.std.specs.Prelude.{IfOk}
use Rattle.rom_fields.specs.Written.{Output}
use Rattle.atomic_file.specs.Accounts.{log_of}
use Rattle.atomic_file.specs.Log.{Event}
use Rattle.atomic_file.specs.declared.account.Account.{Account}
use Rattle.build_commands.specs.Built.{IsBuilt}
use Rattle.build_commands.specs.declared.limits.Foreseen.{Foreseen}
use Rattle.build_commands.specs.declared.limits.Wanted.{Wanted}
use Rattle.manifest_layout.specs.Plans.{Planned}
use Rattle.romtool.specs.declared.placed.Placed.{Placed}
use Rattle.romtool.specs.declared.placed.Placed.TheVariants.{Renamed, Written}
use Rattle.romtool.specs.Placed.{IsRenamedAs, IsWrittenAs}
use Rattle.atomic_file.specs.declared.directory.Durability.{Durability}

pub ok_of : {A E : Type 0} (P : A → Type 0) (r : Result A E) (a : A) → r ≡ Ok a → IfOk r P → P a
ok_of P r a e h = subst (λ v. IfOk v P) e h

pub renamed : {E : Type 0} (Q : List Event → Type 0) (r : Result Placed E) (account known : Account)
    → r ≡ Ok (Renamed account) → account ≡ known → Q (log_of known) → IfOk r (IsRenamedAs Q)
renamed Q r account known e same h =
    subst (λ v. IfOk v (IsRenamedAs Q)) (sym e) (subst (λ (a : Account). Q (log_of a)) (sym same) h)

pub written : {E : Type 0} (Q : Type 0) (r : Result Placed E) (d : Durability) → r ≡ Ok (Written d) → Q
    → IfOk r (IsWrittenAs Q)
written Q r d e h = subst (λ v. IfOk v (IsWrittenAs Q)) (sym e) h

-- a file that is as the first says is as the second says
pub built_more : {P Q : List (List ℕ) → Type 0} (wanted : Wanted) (text : List ℕ) (foreseen : Foreseen) (p : Planned)
    (out out' : Output) → ((names : List (List ℕ)) → P names → Q names)
    → IsBuilt wanted text foreseen P p out out' → IsBuilt wanted text foreseen Q p out out'
built_more wanted text foreseen p out out' more h = record {
  lines = h.lines;
  manifest = h.manifest;
  planned = h.planned;
  format = h.format;
  within = h.within;
  strict = h.strict;
  in_place = h.in_place;
  file = more _ h.file;
  reported = h.reported;
}
