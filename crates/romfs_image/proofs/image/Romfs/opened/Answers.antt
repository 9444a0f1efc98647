use Rattle.std.proofs.Common.{◌≡◌, ◌≤◌, length, length-take, refl, ap, arith, ◌∙◌, take, ℕ, List, sym}
use Rattle.std.proofs.lemmas.List.{take_min}
use Rattle.romfs_format.specs.Tree.{full_size}
use Rattle.romfs_image.proofs.Trees.{romfs_by, shows_by, deepest_is}
use Rattle.romfs_image.proofs.image.Romfs.opened.Goals as goal

-- the accessible bytes are no more than all
within : (all b : List ℕ) (n : ℕ) → b ≡ take n all → length b ≤ length all
within all b n e = let k = ap length e ∙ length-take n all in omega arith

-- the accessible bytes are the front of all
front : (all b : List ℕ) (n : ℕ) → b ≡ take n all → b ≡ take (length b) all
front all b n e =
    e ∙ (sym (take_min n all) ∙ sym (ap (λ k. take k all) (ap length e ∙ length-take n all)))

pub invariant_of-result : goal.invariant_of-result
invariant_of-result c =
    let w = c.requires.tree in
    record {
      sound = romfs_by c.requires.superblock c.args.limits.references c.args.limits.depth w.0 c.args.rows.now
          c.args.b.small w.1 w.2;
      few = c.requires.few;
      front = front c.args.all.now c.args.b.bytes.now (full_size c.args.all.now) c.requires.superblock.cut;
      within = within c.args.all.now c.args.b.bytes.now (full_size c.args.all.now) c.requires.superblock.cut;
    }

pub returns : goal.returns
returns c =
    let w = c.requires.tree in
    shows_by c.requires.superblock c.args.limits w.0 c.args.rows.now c.greatest_depth-depth.result _ c.args.b.small w.1
    w.2
    (deepest_is c.requires.superblock c.args.limits.references c.args.limits.depth c.greatest_depth-depth.result w.0
    c.args.rows.now w.1 w.2 c.greatest_depth-depth.ensures.bound c.greatest_depth-depth.ensures.reached) refl refl
