-- Steps of putting files together, one after the other, with what was read in each.
use Rattle.std.proofs.Common.{◌≡◌, List, [], ◌∷◌, ◌++◌, Option, Some, refl, ap, subst, sym}
use Rattle.build_commands.specs.Composed.{IsBefore, IsNext, IsRead, IsRefusal, IsStepRefusal, IsUnlaid}
use Rattle.build_commands.specs.Composed.{Logs, Reading, told}
use Rattle.build_commands.specs.declared.composing.ComposeError.{ComposeError}
use Rattle.build_commands.specs.declared.composing.ComposeError.TheVariants as error
use Rattle.build_commands.specs.declared.composing.DeviceText.{DeviceText}
use Rattle.build_commands.specs.declared.composing.Owner.{Owner}
use Rattle.build_commands.specs.declared.inventory.NamedFile.{NamedFile}

assoc : (xs ys zs : List Reading) → (xs ++ ys) ++ zs ≡ xs ++ (ys ++ zs)
assoc [] ys zs = refl
assoc (x ∷ xs) ys zs = ap (λ (l : List Reading). x ∷ l) (assoc xs ys zs)

pub logs_join : (was mid is : List Reading → Type 0) (one two : List Reading) → Logs was mid one
    → Logs mid is two → Logs was is (one ++ two)
logs_join was mid is one two f g log h = subst is (assoc log one two) (g (log ++ one) (f log h))

-- files that were made by steps, and what was read in these
abbrev pub IsMade : (List Reading → Type 0) → (List Reading → Type 0) → (List Reading → List NamedFile → Type 0)
    → List NamedFile → Type 0
IsMade was is Step fs = (answers : List Reading) × Logs was is answers × Step answers fs

pub next : (which : DeviceText) (Before : List Reading → List NamedFile → Type 0) (was mid is : List Reading → Type 0)
    (fs gs : List NamedFile) → IsMade was mid Before fs → IsRead mid is which fs gs
    → IsMade was is (IsNext which Before) gs
next which Before was mid is fs gs made read =
    let last = told which read.0 ∷ [] in (
      made.0 ++ last,
      logs_join was mid is made.0 last made.1 read.1,
      record { earlier = made.0; fs = fs; before = made.2; t = read.0; read = refl; laid = read.2 },
    )

pub step_refused : {E : Type 0} → (which : DeviceText) (owner : Option Owner) (found : List NamedFile)
    (was mid is : List Reading → Type 0) (fs : List NamedFile) (e : ComposeError E)
    → IsMade was mid (IsBefore which owner found) fs → IsStepRefusal which fs mid is e → IsRefusal owner found was is e
step_refused which owner found was mid is fs error.OutOfMemory made h = tt
step_refused which owner found was mid is fs (error.Unread e) made h = tt
step_refused which owner found was mid is fs (error.Kinds f) made h = absurd h
step_refused which owner found was mid is fs (error.Unlaid by t e) made h =
    let last = told which (Some t.items) ∷ [] in (
      made.0 ++ last,
      logs_join was mid is made.0 last made.1 h.1,
      subst (λ (w : DeviceText). IsUnlaid owner found w t.items e (made.0 ++ last)) (sym h.0)
          (record { earlier = made.0; fs = fs; before = made.2; refused = h.2; read = refl }),
    )
