use Rattle.std.proofs.Common.{◌≡◌, ◌<◌, ◌≤◌, ℕ, suc, ◌+◌, ◌-◌, List}
use Rattle.std.proofs.Common.{◌∙◌, Some, ap, arith, get_or, length, subst, sym}
use Rattle.std.proofs.Common.{inl, inr}
use Rattle.std.proofs.lemmas.Bool.{cases_lt}
use Rattle.rom_fields.specs.Written.{Puts, sink}
use Rattle.image_extents.specs.Lines.{between, run_text}
use Rattle.image_extents.specs.Which.{next_start}
use Rattle.image_extents.specs.declared.extent.Extent.{Extent}
use Rattle.image_extents.specs.declared.extent.Extents.{Extents}
use Rattle.image_extents.specs.declared.extent.Kind.TheVariants.{Super}
use Rattle.image_extents.proofs.Owners.{Parts, at_gap, at_none, at_owner, next_none, next_some, pred_is}
use Rattle.image_extents.proofs.which.put_among.Goals as goal

abbrev none : Extent
none = record { kind = Super; start = 0; len = 0; offset = 0; owner = 0 }

-- where the next one begins, as the code has it
next_is : (xs : List Extent) (at size n to : ℕ) → Parts xs (at + 1) n
    → ((d : Extent) → n < length xs → to ≡ (get_or xs n d).start) → (length xs ≤ n → to ≡ size)
    → to ≡ next_start at size xs
next_is xs at size n to p there gone =
    elim (cases_lt n (length xs)) [
      | inl l ↦ there none l ∙ sym (next_some xs at size n none p l)
      | inr l ↦ gone l ∙ sym (next_none xs at size n p l)
    ]

pub returns-then-next-eq0 : goal.returns-then-next-eq0
returns-then-next-eq0 g c =
    let xs : List Extent = c.args.extents.now in
    let e : Extents = c.args.found.now in
    let p : Parts xs (c.args.at + 1) c.begun-next.result = c.begun-next.ensures.parts in
    let Q : ℕ → Type 0 = λ v. Parts xs (c.args.at + 1) v in
    let P : List ℕ → Type 0 = λ v. Puts (sink (g.W.ByteWrite.output c.args.w.now) c.args.failed.now)
    (sink (g.W.ByteWrite.output c.put_between.new.w) c.put_between.new.failed) v in
    subst P (ap (λ (v : ℕ). between c.args.base e.bytes.now 0 v)
    (next_is xs c.args.at (length e.bytes.now) c.begun-next.result c.start_at-to.result p c.start_at-to.ensures.there
    c.start_at-to.ensures.none)
    ∙ sym (at_none c.args.base e c.args.at xs (subst Q c.if-next-eq0.true p))) c.put_between.ensures

pub returns-then-end-at : goal.returns-then-end-at
returns-then-end-at g c =
    let xs : List Extent = c.args.extents.now in
    let e : Extents = c.args.found.now in
    let n : ℕ = c.begun-next.result in
    let p : Parts xs (c.args.at + 1) n = c.begun-next.ensures.parts in
    let s : suc (n - 1) ≡ n = pred_is n c.if-next-eq0.false in
    let Q : ℕ → Type 0 = λ v. Parts xs (c.args.at + 1) v in
    let w = c.begun-next.ensures.within in
    let P : List ℕ → Type 0 = λ v. Puts (sink (g.W.ByteWrite.output c.args.w.now) c.args.failed.now)
    (sink (g.W.ByteWrite.output c.put_between-then-end-at.new.w) c.put_between-then-end-at.new.failed) v in
    let x : Extent = get_or xs (n - 1) none in
    let over : x.start + x.len ≤ c.args.at = subst (λ v. v ≤ c.args.at) c.end.ensures c.if-end-at.true in
    subst P (ap (λ (v : ℕ). between c.args.base e.bytes.now v c.start_at-to.result) c.end-then-end-at.ensures
    ∙ (ap (λ (v : ℕ). between c.args.base e.bytes.now (x.start + x.len) v)
    (next_is xs c.args.at (length e.bytes.now) n c.start_at-to.result p c.start_at-to.ensures.there
    c.start_at-to.ensures.none)
    ∙ sym (at_gap c.args.base e c.args.at xs (n - 1) none (subst Q (sym s) p) (omega (arith, w, s)) over)))
    c.put_between-then-end-at.ensures

pub returns : goal.returns
returns g c =
    let xs : List Extent = c.args.extents.now in
    let e : Extents = c.args.found.now in
    let n : ℕ = c.begun-next.result in
    let p : Parts xs (c.args.at + 1) n = c.begun-next.ensures.parts in
    let s : suc (n - 1) ≡ n = pred_is n c.if-next-eq0.false in
    let Q : ℕ → Type 0 = λ v. Parts xs (c.args.at + 1) v in
    let w = c.begun-next.ensures.within in
    let x : Extent = get_or xs (n - 1) none in
    let has : c.args.at < x.start + x.len = subst (λ v. c.args.at < v) c.end.ensures c.if-end-at.false in
    let l : n - 1 < length xs = omega (arith, w, s) in
    let P : List ℕ → Type 0 = λ v. Puts (sink (g.W.ByteWrite.output c.args.w.now) c.args.failed.now)
    (sink (g.W.ByteWrite.output c.put_run.new.w) c.put_run.new.failed) v in
    subst P (ap (run_text c.args.base e (Some c.args.at)) c.run_at.ensures
    ∙ sym (at_owner c.args.base e c.args.at xs (n - 1) none (subst Q (sym s) p) l has)) c.put_run.ensures
