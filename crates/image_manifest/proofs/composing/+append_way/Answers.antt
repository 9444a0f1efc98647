use Rattle.std.proofs.Common.{[], ◌++◌, append-nil, sym, ap, ◌∙◌, arith}
use Rattle.std.proofs.lemmas.Grind.{common_steps}
use Rattle.image_manifest.proofs.Upwards.{root_way, below_way, later_way, below_length, with_name, name_room}
use Rattle.image_manifest.proofs.composing.+append_way.Goals as goal
use Rattle.image_manifest.proofs.composing.+append_way.Goals.{then-parent-index, else-parent-index}

pub returns-in_default : goal.returns-in_default
returns-in_default t c =
    sym (append-nil c.args.path.now.items)
    ∙ ap (λ v. c.args.path.now.items ++ v)
    (sym (root_way c.args.members.now c.args.index _ c.requires.within c.in_default.is))

pub append_way-requires : goal.append_way-requires
append_way-requires t c =
    let w = below_way c.args.members.now c.args.index c.in-Some.parent _ c.requires.within c.in-Some.is
    c.if-parent-index.true in
    (omega arith, (omega arith, omega (arith, c.requires.room, below_length _ _ _ w)))

pub push-requires : goal.push-requires
push-requires t c =
    elim c.if-parent-index.branch [
      | then-parent-index w ↦
          let way = below_way c.args.members.now c.args.index c.in-Some.parent _ c.requires.within c.in-Some.is
          w.if-parent-index.true in
          let room = name_room c.args.path.now.items c.if-parent-index.path.items _ _ _
          (ap (λ v. v.items) w.path-is ∙ w.append_way.ensures) way c.requires.room in
          (omega arith, omega (arith, room))
      | else-parent-index w ↦
          let way = later_way c.args.members.now c.args.index c.in-Some.parent _ c.requires.within c.in-Some.is
          w.if-parent-index.false in
          let room = name_room c.args.path.now.items c.if-parent-index.path.items [] _ _
          (ap (λ v. v.items) w.path-is ∙ sym (append-nil c.args.path.now.items)) way c.requires.room in
          (omega arith, omega (arith, room))
    ]

pub returns : goal.returns
returns t c =
    elim c.if-parent-index.branch [
      | then-parent-index w ↦
          let way = below_way c.args.members.now c.args.index c.in-Some.parent _ c.requires.within c.in-Some.is
          w.if-parent-index.true in
          let mid = ap (λ v. v.items) w.path-is ∙ w.append_way.ensures in
          let room = name_room c.args.path.now.items c.if-parent-index.path.items _ _ _ mid way c.requires.room in
          let ok = c.try_extend_from_slice.ensures.variant.1 (omega (arith, room, c.push.ensures.len)) in
          with_name c.args.path.now.items c.if-parent-index.path.items c.push.new.self.items _ _ _ _ mid way
          c.push.ensures.items (grind (arith, common_steps))
      | else-parent-index w ↦
          let way = later_way c.args.members.now c.args.index c.in-Some.parent _ c.requires.within c.in-Some.is
          w.if-parent-index.false in
          let mid = ap (λ v. v.items) w.path-is ∙ sym (append-nil c.args.path.now.items) in
          let room = name_room c.args.path.now.items c.if-parent-index.path.items [] _ _ mid way c.requires.room in
          let ok = c.try_extend_from_slice.ensures.variant.1 (omega (arith, room, c.push.ensures.len)) in
          with_name c.args.path.now.items c.if-parent-index.path.items c.push.new.self.items _
          [] _ _ mid way c.push.ensures.items (grind (arith, common_steps))
    ]
