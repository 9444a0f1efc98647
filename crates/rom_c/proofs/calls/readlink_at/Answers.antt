use Rattle.std.proofs.Common.{◌≡◌, ◌<◌, ℕ, true, refl, sym, ◌∙◌, subst, arith}
use Rattle.rom_tree.specs.Tree.{is_link, places_of}
use Rattle.rom_tree.proofs.Nodes.{node_at-some}
use Rattle.rom_tree.proofs.Rows.{row_front}
use Rattle.image_check.specs.Any.{any_view}
use Rattle.rom_c.proofs.calls.readlink_at.Goals as goal

pub returns-in-Some : goal.returns-in-Some
returns-in-Some c = λ x e.
    let l : true ≡ is_link x = sym c.if-not-is_link_at.false ∙ c.is_link_at.ensures x e in
    let row = c.in-Some.ensures.row x e in
    let whole = c.in-Some.ensures.whole x e (sym l) refl in
    let Q : ℕ → ℕ → Type 0 = λ k z. k < z in
    rw (← l) (
      refl,
      c.from.ensures ∙ whole,
      λ k h. row_front (places_of x) c.in-Some.run'.place c.in-Some.run'.len row.row k
          (subst (Q k) c.from.ensures h),
    )

pub returns-in-None : goal.returns-in-None
returns-in-None c = λ x e.
    let m = any_view c.args.image.now in
    let l : true ≡ is_link x = sym c.if-not-is_link_at.false ∙ c.is_link_at.ensures x e in
    let none = c.in-None.ensures.row x e in
    let some = (m.links x (node_at-some m.tree c.args.node.0 x e).within (sym l)).0 in
    absurd (omega (arith, none, some))
