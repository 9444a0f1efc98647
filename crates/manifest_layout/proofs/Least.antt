-- There is no more than one least misfit, and none if there is no misfit.
use Rattle.std.proofs.Common.{◌≡◌, ℕ, List, sym, ap, ◌∙◌, arith, inl, inr}
use Rattle.rom_fields.specs.declared.fault.Fault.{Fault}
use Rattle.record_forest.specs.Faults.{NotAfter}
use Rattle.manifest.specs.Lines.{ManifestLines}
use Rattle.formats.specs.Format.{Format}
use Rattle.manifest_layout.specs.Misfit.{IsLeastMisfit, line_misfit, whole_misfit, HasNoMisfit}

pub excluded : (f : Format) (m : ManifestLines) (sizes : List ℕ) (e : Fault) → HasNoMisfit f m sizes
    → IsLeastMisfit f m sizes e → ⊥
excluded f m sizes e h (line_misfit l) = h.lines e l.here
excluded f m sizes e h (whole_misfit n w i) = h.whole w

abbrev fault : ℕ → ℕ → Fault
fault number at = record { number = number; at = at }

same_fault : (d e : Fault) → NotAfter d e → NotAfter e d → d ≡ e
same_fault d e (inl l) (inl k) = absurd (omega arith)
same_fault d e (inl l) (inr k) = absurd (omega arith)
same_fault d e (inr l) (inl k) = absurd (omega arith)
same_fault d e (inr l) (inr k) =
    let n : d.number ≡ e.number = omega arith in
    ap (λ (x : ℕ). fault x d.at) n ∙ ap (λ (x : ℕ). fault e.number x) l.0

pub alone : (f : Format) (m : ManifestLines) (sizes : List ℕ) (d e : Fault) → IsLeastMisfit f m sizes d
    → IsLeastMisfit f m sizes e → d ≡ e
alone f m sizes d e (line_misfit l) (line_misfit k) = same_fault d e (l.least e k.here) (k.least d l.here)
alone f m sizes d e (line_misfit l) (whole_misfit n w i) = absurd (n d l.here)
alone f m sizes d e (whole_misfit n w i) (line_misfit l) = absurd (n e l.here)
alone f m sizes d e (whole_misfit n w i) (whole_misfit o v j) = i ∙ sym j
