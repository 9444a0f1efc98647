use Rattle.std.proofs.Common.{◌≡◌, ◌+◌, ℕ, map, Option, Some, None, refl, if◌then◌else◌, ap, ◌∙◌, arith, true, false}
use Rattle.std.proofs.Common.{Bool}
use Rattle.rom_fields.specs.Padding.{pad}
use Rattle.plan_rows.specs.Rows.{deepest, row_view}
use Rattle.romfs_layout.specs.Layout.{ends}
use Rattle.romfs_format.specs.Record.{pad16}
use Rattle.romfs_plan.specs.Passes.{places_end}
use Rattle.romfs_plan.specs.Rows.{header_count, IsFitRow}
use Rattle.romfs_plan.proofs.Lists.{each}
use Rattle.romfs_plan.proofs.Passing.{rows_end_is}
use Rattle.romfs_plan.proofs.Sizes.{fewer, too_many, too_deep, too_long, not_large}
use Rattle.std.proofs.lemmas.List.{length-map}
use Rattle.romfs_plan.proofs.size.image_len.Goals as goal

large : (b : Bool) (len : ℕ) → b ≡ true → ◌≡◌ {A = Option ℕ} None (if b then None else Some len)
large true len e = refl
large false len e = absurd (cc)

fits : (b : Bool) (len : ℕ) → b ≡ false → ◌≡◌ {A = Option ℕ} (Some len) (if b then None else Some len)
fits true len e = absurd (cc)
fits false len e = refl

pub returns-then-rows-gt-MOST_HEADERS : goal.returns-then-rows-gt-MOST_HEADERS
returns-then-rows-gt-MOST_HEADERS c = λ root n e.
    let f = fewer (map row_view c.args.rows.now) in
    let g = length-map c.args.rows.now row_view in
    let h = ap header_count e in
    let k = c.if-rows-gt-MOST_HEADERS.true in
    large _ _ (too_many c.args.volume.now root n (omega (arith, f, g, h, k)))

pub returns-then-header_count-gt-MOST_HEADERS : goal.returns-then-header_count-gt-MOST_HEADERS
returns-then-header_count-gt-MOST_HEADERS c = λ root n e.
    let g = c.header_count.ensures.count in
    let h = ap header_count e in
    let k = c.if-header_count-gt-MOST_HEADERS.true in
    large _ _ (too_many c.args.volume.now root n (omega (arith, g, h, k)))

pub returns-then-deepest-gt-MOST_NAMES : goal.returns-then-deepest-gt-MOST_NAMES
returns-then-deepest-gt-MOST_NAMES c = λ root n e.
    let g = c.deepest.ensures in
    let h = ap deepest e in
    let k = c.if-deepest-gt-MOST_NAMES.true in
    large _ _ (too_deep c.args.volume.now root n (omega (arith, g, h, k)))

pub rows_end-requires-clause-fit : goal.rows_end-requires-clause-fit
rows_end-requires-clause-fit c = each IsFitRow row_view c.args.rows.now c.requires.fit

pub returns-then-len-gt-MOST_BYTES : goal.returns-then-len-gt-MOST_BYTES
returns-then-len-gt-MOST_BYTES c = λ root n e.
    let r = c.root_at.ensures.root in
    let end = c.rows_end.ensures.end ∙ ap (places_end (c.root_at.result + 64)) e
    ∙ rows_end_is 1 (c.root_at.result + 64) n ∙ ap (λ (k : ℕ). ends (k + 64) n) r in
    let len = c.padded-len.ensures.padded ∙ ap (λ (k : ℕ). pad k 1024) (c.padded.ensures.padded ∙ ap pad16 end) in
    let k = c.if-len-gt-MOST_BYTES.true in
    large _ _ (too_long c.args.volume.now root n (omega (arith, len, k)))

pub returns : goal.returns
returns c = λ root n e.
    let r = c.root_at.ensures.root in
    let end = c.rows_end.ensures.end ∙ ap (places_end (c.root_at.result + 64)) e
    ∙ rows_end_is 1 (c.root_at.result + 64) n ∙ ap (λ (k : ℕ). ends (k + 64) n) r in
    let len = c.padded-len.ensures.padded ∙ ap (λ (k : ℕ). pad k 1024) (c.padded.ensures.padded ∙ ap pad16 end) in
    let few = c.header_count.ensures.count in
    let a = ap header_count e in
    let k = c.if-header_count-gt-MOST_HEADERS.false in
    let d = c.deepest.ensures in
    let b = ap deepest e in
    let m = c.if-deepest-gt-MOST_NAMES.false in
    let l = c.if-len-gt-MOST_BYTES.false in
    ap Some len ∙ fits _ _ (not_large c.args.volume.now root n (omega (arith, few, a, k)) (omega (arith, d, b, m))
    (omega (arith, len, l)))
