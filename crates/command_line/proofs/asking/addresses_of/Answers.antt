use Rattle.std.proofs.Common.{rules, ◌≡◌, List, ℕ, [], ◌∷◌, ◌++◌, subst, sym, ap, ◌∙◌, map, take, get_or}
use Rattle.std.specs.Borrow.{Bor}
use Rattle.command_line.specs.Numbers.{AreAddresses, no_address, next_address}
use Rattle.command_line.proofs.Loops.{map_more, whole}
use Rattle.command_line.proofs.asking.addresses_of.Goals as goal

pub loop-word-init : goal.loop-word-init
loop-word-init c = subst (λ (ns : List ℕ). AreAddresses [] ns) (sym c.new-addresses.ensures.items) no_address

pub loop-word-preserved : goal.loop-word-preserved
loop-word-preserved c =
    let words : List (Bor (List ℕ)) = c.deref-word-items.result.now in
    let i : ℕ = c.loop-word.word-index in
    let none : Bor (List ℕ) = record { ref_ptr = (0, 0); now = [] } in
    subst (λ (ws : List (List ℕ)). AreAddresses ws c.push.new.self.items)
    (sym (map_more (λ v. v.now) words i none c.loop-word-test.true))
    (subst (λ (ns : List ℕ). AreAddresses (map (λ v. v.now) (take i words) ++ (get_or words i none).now ∷ []) ns)
    (sym c.in_default.ensures.items)
    (next_address (map (λ v. v.now) (take i words)) c.loop-word.addresses.items (get_or words i none).now
    c.in_ok-address.address c.loop-word.invariant c.in_ok-address.ensures))

pub returns : goal.returns
returns c =
    subst (λ (ws : List (List ℕ)). AreAddresses ws c.loop-word.addresses.items)
    (ap (map (λ v. v.now)) c.deref-word-items.ensures.value ∙ c.in_ok-words.ensures)
    (subst (λ (vs : List (Bor (List ℕ))). AreAddresses (map (λ v. v.now) vs) c.loop-word.addresses.items)
    (whole c.deref-word-items.result.now c.loop-word.word-index c.loop-word-test.false) c.loop-word.invariant)
