-- What is misread of values that are the same.
use Rattle.std.proofs.Common.{◌≡◌, ◌∙◌, ap, ℕ, List, Option}
use Rattle.linux_misreads.specs.Differences.{cramfs_misreads, romfs_misreads}
use Rattle.linux_misreads.specs.declared.judged.CramfsMisreads.{CramfsMisreads}
use Rattle.linux_misreads.specs.declared.judged.RomfsMisreads.{RomfsMisreads}
use Rattle.linux_misreads.specs.declared.seen.Known.{Known}
use Rattle.linux_misreads.specs.declared.seen.Place.{Place}
use Rattle.linux_misreads.specs.declared.seen.Seen.{Seen}

pub romfs_alike : (name text : List ℕ) (x : Seen) (p : Option Place) (m : RomfsMisreads) {text' : List ℕ} {x' : Seen}
    {p' : Option Place} → m ≡ romfs_misreads name text x p → text ≡ text' → x ≡ x' → p ≡ p'
    → m ≡ romfs_misreads name text' x' p'
romfs_alike name text x p m {text'} {x'} {p'} h e f g =
    h ∙ (ap (λ (v : List ℕ). romfs_misreads name v x p) e ∙ (ap (λ (v : Seen). romfs_misreads name text' v p) f
    ∙ ap (λ (v : Option Place). romfs_misreads name text' x' v) g))

pub cramfs_alike : (name text : List ℕ) (x : Seen) (room : ℕ) (k : Option Known) (m : CramfsMisreads)
    {text' : List ℕ} {x' : Seen} {room' : ℕ} {k' : Option Known} → m ≡ cramfs_misreads name text x room k
    → text ≡ text' → x ≡ x' → room ≡ room' → k ≡ k' → m ≡ cramfs_misreads name text' x' room' k'
cramfs_alike name text x room k m {text'} {x'} {room'} {k'} h e f g i =
    h ∙ (ap (λ (v : List ℕ). cramfs_misreads name v x room k) e
    ∙ (ap (λ (v : Seen). cramfs_misreads name text' v room k) f
    ∙ (ap (λ (v : ℕ). cramfs_misreads name text' x' v k) g
    ∙ ap (λ (v : Option Known). cramfs_misreads name text' x' room' v) i)))
