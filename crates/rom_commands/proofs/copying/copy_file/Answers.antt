use Rattle.std.proofs.Common.{◌≡◌, List, ℕ, Bool, true, Ok, Err, arith, refl, subst}
use Rattle.std.proofs.lemmas.Grind.{common_steps}
use Rattle.rom_tree.specs.Tree.{Node}
use Rattle.rom_tree.specs.Image.{Image}
use Rattle.path_walk.specs.Resolution.{resolution, tree_namespace}
use Rattle.path_walk.specs.declared.error.WalkError.{WalkError}
use Rattle.image_check.specs.Any.{any_view}
use Rattle.rom_commands.specs.Copying.{Leads}
use Rattle.rom_commands.proofs.copying.copy_file.Goals as goal

-- where a path leads, of a walk that follows the last link
leads : (m : Image) (path : List ℕ) (follow : Bool) (x : Node)
    → resolution (tree_namespace m.bytes m.tree) path follow ≡ Ok x → follow ≡ true → Leads m path x
leads m path follow x h e = subst (λ (b : Bool). resolution (tree_namespace m.bytes m.tree) path b ≡ Ok x) e h

leads_nowhere : (m : Image) (path : List ℕ) (follow : Bool) (error : WalkError)
    → resolution (tree_namespace m.bytes m.tree) path follow ≡ Err error → follow ≡ true
    → resolution (tree_namespace m.bytes m.tree) path true ≡ Err error
leads_nowhere m path follow error h e =
    subst (λ (b : Bool). resolution (tree_namespace m.bytes m.tree) path b ≡ Err error) e h

pub returns-in-Err : goal.returns-in-Err
returns-in-Err g c = (leads_nowhere (any_view c.args.image.now) c.args.path.now _ _ c.in-Err.ensures.leads refl, refl)

pub returns-then-is_directory_at : goal.returns-then-is_directory_at
returns-then-is_directory_at g c =
    let h = c.in-Ok.ensures.leads in
    ((h.0, leads (any_view c.args.image.now) c.args.path.now _ h.0 h.1 refl, grind (arith, common_steps, h)), refl)

pub returns-then-not-is_regular_at : goal.returns-then-not-is_regular_at
returns-then-not-is_regular_at g c =
    let h = c.in-Ok.ensures.leads in (
      (
        h.0,
        leads (any_view c.args.image.now) c.args.path.now _ h.0 h.1 refl,
        grind (arith, common_steps, h),
        grind (arith, common_steps, h),
      ),
      refl,
    )

pub returns-in-Ok-cat : goal.returns-in-Ok-cat
returns-in-Ok-cat g c =
    let h = c.in-Ok.ensures.leads in (
      h.0,
      (leads (any_view c.args.image.now) c.args.path.now _ h.0 h.1 refl, grind (arith, common_steps, h)),
      grind (arith, common_steps, h),
      grind (arith, common_steps, h),
    )

pub returns-in-Err-cat : goal.returns-in-Err-cat
returns-in-Err-cat g c =
    let h = c.in-Ok.ensures.leads in (
      h.0,
      (leads (any_view c.args.image.now) c.args.path.now _ h.0 h.1 refl, grind (arith, common_steps, h)),
      grind (arith, common_steps, h),
      grind (arith, common_steps, h),
    )
