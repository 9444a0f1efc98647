use Rattle.std.proofs.Common.{◌≡◌, ◌<◌, ◌∙◌, ◌∷◌, List, ap, arith, length, max, subst, ℕ}
use Rattle.image_extents.specs.declared.extent.Record.{Record}
use Rattle.image_extents.proofs.CramfsWalk as cramfs
use Rattle.image_extents.proofs.Inside.{cramfs_all_in, romfs_all_in}
use Rattle.image_extents.proofs.RomfsWalk as romfs
use Rattle.image_extents.proofs.Shares.{shared}
use Rattle.image_extents.specs.Lines.{extents_text}
use Rattle.image_extents.specs.Ranges.{ShareOut}
use Rattle.image_extents.proofs.laws.lines_share_out.Goals as goal

some_record : (rs rest : List Record) (x : Record) → rs ≡ x ∷ rest → 0 < length rs
some_record rs rest x h = let l = ap length h in omega (arith, l)

pub returns-clause-romfs : goal.returns-clause-romfs
returns-clause-romfs c = λ all r e base file h a.
    subst (λ (b : List ℕ). ShareOut base (max (length b) file) (extents_text base file e)) a.bytes
    (shared base e file (some_record e.records.items _ _ (a.records ∙ romfs.whole _ r))
    a.extents.sorted a.apart (romfs_all_in all r e h a))

pub returns-clause-cramfs : goal.returns-clause-cramfs
returns-clause-cramfs c = λ o all e base file h a.
    subst (λ (b : List ℕ). ShareOut base (max (length b) file) (extents_text base file e)) a.blocks.bytes
    (shared base e file (some_record e.records.items _ _ (a.blocks.records ∙ cramfs.whole o _))
    a.blocks.extents.sorted a.apart (cramfs_all_in o all e h a))
