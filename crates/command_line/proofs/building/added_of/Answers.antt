use Rattle.std.proofs.Common.{List, ℕ, [], subst, sym, ap, ◌∙◌, map}
use Rattle.std.specs.Borrow.{Bor}
use Rattle.command_line.specs.Numbers.{AreDevices, DeviceWords, no_device, next_device}
use Rattle.command_line.proofs.Loops.{map_more, whole}
use Rattle.command_line.proofs.building.added_of.Goals as goal

pub loop-word-init : goal.loop-word-init
loop-word-init c = subst (λ (ds : List DeviceWords). AreDevices [] ds) (sym c.new-devices.ensures.items) no_device

pub loop-word-preserved : goal.loop-word-preserved
loop-word-preserved c =
    subst (λ (ws : List (List ℕ)). AreDevices ws c.note_device.new.devices.items)
    (sym (map_more (λ v. v.now) c.deref-word-items.result.now c.loop-word.word-index _ c.loop-word-test.true))
    (next_device _ _ _ _ c.loop-word.invariant c.in_ok-note_device.ensures)

pub returns : goal.returns
returns c =
    subst (λ (ws : List (List ℕ)). AreDevices ws c.loop-word.devices.items)
    (ap (map (λ v. v.now)) c.deref-word-items.ensures.value ∙ c.in_ok-words.ensures)
    (subst (λ (vs : List (Bor (List ℕ))). AreDevices (map (λ v. v.now) vs) c.loop-word.devices.items)
    (whole c.deref-word-items.result.now c.loop-word.word-index c.loop-word-test.false) c.loop-word.invariant)
