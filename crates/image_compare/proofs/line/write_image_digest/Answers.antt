use Rattle.std.proofs.Common.{◌≡◌, List, ℕ, ap, ◌∙◌, codes, subst}
use Rattle.hex.specs.Hex.{encode_lower}
use Rattle.sha2.specs.Sha256.{sha256}
use Rattle.rom_fields.specs.Written.{Puts, Sink}
use Rattle.rom_fields.proofs.Joins.{chain, said_ok, said_front, said_rose, said_quiet}
use Rattle.image_compare.specs.Digests.{input_line}
use Rattle.image_compare.proofs.line.write_image_digest.Goals as goal

-- the digits, and what follows them
line_put : (s t u : Sink) (digest digits image : List ℕ) → digest ≡ sha256 image → digits ≡ encode_lower digest
    → Puts s t digits → Puts t u (codes "  -\n") → Puts s u (input_line image)
unfolding input_line
line_put s t u digest digits image d e p q =
    let P : List ℕ → Type 0 = λ v. Puts s t v in
    chain (subst P (e ∙ ap encode_lower d) p) q

pub returns-then-failed-clause-text : goal.returns-then-failed-clause-text
returns-then-failed-clause-text g c = said_front _ _ _ _ c.if-failed.true
    (line_put _ _ _ _ _ c.args.image.now c.digest.ensures c.digits_of.ensures c.put.ensures c.put-2.ensures)

pub returns-then-failed-clause-count : goal.returns-then-failed-clause-count
returns-then-failed-clause-count g c = said_rose _ _ _ _ c.if-failed.true
    (line_put _ _ _ _ _ c.args.image.now c.digest.ensures c.digits_of.ensures c.put.ensures c.put-2.ensures)

pub returns-else-failed-clause-text : goal.returns-else-failed-clause-text
returns-else-failed-clause-text g c = said_ok _ _ _ _ c.if-failed.false
    (line_put _ _ _ _ _ c.args.image.now c.digest.ensures c.digits_of.ensures c.put.ensures c.put-2.ensures)

pub returns-else-failed-clause-count : goal.returns-else-failed-clause-count
returns-else-failed-clause-count g c = said_quiet _ _ _ _ c.if-failed.false
    (line_put _ _ _ _ _ c.args.image.now c.digest.ensures c.digits_of.ensures c.put.ensures c.put-2.ensures)
