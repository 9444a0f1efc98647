use Rattle.std.proofs.Common.{rules, ◌≡◌, ◌+◌, List, ℕ, subst}
use Rattle.std.proofs.lemmas.Bool.{eqb-true}
use Rattle.std.proofs.lemmas.List.{take_rest}
use Rattle.command_line.specs.Numbers.{IsNumber, IsOwner, user_and_group}
use Rattle.command_line.proofs.Loops.{parted}
use Rattle.command_line.proofs.numbers.owner_named.Goals as goal

pub returns : goal.returns
returns c =
    let word : List ℕ = c.as_bytes-word.result.now in
    let colon : ℕ = c.in_ok-colon.colon in
    let gid = subst (λ (g : List ℕ). IsNumber 10 g c.in_ok-gid.gid) (take_rest word (colon + 1)) c.in_ok-gid.ensures in
    subst (λ (w : List ℕ). IsOwner w (record
    { uid = c.in_ok-uid.uid; gid = c.in_ok-gid.gid })) c.as_bytes-word.ensures.value
    (user_and_group _ _
    (parted word colon 58 c.in_ok-colon.ensures.0.high (eqb-true _ _ c.in_ok-colon.ensures.1)) c.in_ok-uid.ensures gid)
