use Rattle.std.proofs.Common.{sym, ap, subst, ◌∙◌, arith}
use Rattle.cramfs_format.specs.Inode.{list_end, list_start, end_of}
use Rattle.cramfs_format.specs.Refers.{LeadsToFault}
use Rattle.cramfs_format.proofs.Faults.{led_faultless}
use Rattle.cramfs_format.proofs.Lists.{end_after}
use Rattle.record_forest.specs.Faults.{IsLeastFaultOf}
use Rattle.cramfs_image.proofs.Reading.{by_parts, target_is, target_after_root, place_is, place_live, root_header}
use Rattle.cramfs_image.proofs.Reading.{root_place_is, source_header, source_end, place_header, place_end, sound_led}
use Rattle.cramfs_image.proofs.accessible.AccessibleRecords.edges.Goals as goal
use Rattle.cramfs_image.proofs.accessible.AccessibleRecords.edges.Goals.{then-x-eq0, else-x-eq0}

pub fault_of-requires-clause-root : goal.fault_of-requires-clause-root
fault_of-requires-clause-root c = root_header c.args.at c.args.self.now.long c.requires.reached c.requires.target

pub fault_of-requires-clause-source : goal.fault_of-requires-clause-source
fault_of-requires-clause-source c = source_header c.args.at c.args.self.now.long c.requires.reached c.requires.target

pub fault_of-requires-clause-end : goal.fault_of-requires-clause-end
fault_of-requires-clause-end c = source_end c.args.at c.args.self.now.long c.requires.reached c.requires.target

pub returns-in-Some-clause-unsound : goal.returns-in-Some-clause-unsound
returns-in-Some-clause-unsound c = λ s. led_faultless s c.in-Some.fault c.in-Some.ensures.least.here

pub offset_at-requires : goal.offset_at-requires
offset_at-requires c = place_header c.args.at c.args.self.now.long c.requires.reached c.requires.target
    (sound_led c.args.self.now.order c.args.self.now.bytes.now c.args.x
    (subst (IsLeastFaultOf (LeadsToFault c.args.self.now.order c.args.self.now.bytes.now c.args.x)) c.in_default.is
    c.fault_of.ensures.least))

pub list_end_at-requires : goal.list_end_at-requires
list_end_at-requires c = place_header c.args.at c.args.self.now.long c.requires.reached c.requires.target
    (sound_led c.args.self.now.order c.args.self.now.bytes.now c.args.x
    (subst (IsLeastFaultOf (LeadsToFault c.args.self.now.order c.args.self.now.bytes.now c.args.x)) c.in_default.is
    c.fault_of.ensures.least))

pub list_end_at-end-requires : goal.list_end_at-end-requires
list_end_at-end-requires c =
    source_header c.args.at c.args.self.now.long c.requires.reached c.requires.target c.if-x-eq0.false

pub end_at-requires : goal.end_at-requires
end_at-requires c = place_header c.args.at c.args.self.now.long c.requires.reached c.requires.target
    (sound_led c.args.self.now.order c.args.self.now.bytes.now c.args.x
    (subst (IsLeastFaultOf (LeadsToFault c.args.self.now.order c.args.self.now.bytes.now c.args.x)) c.in_default.is
    c.fault_of.ensures.least))

pub overflow_cast-end_at : goal.overflow_cast-end_at
overflow_cast-end_at c = let l = place_end c.args.at c.args.self.now.long c.requires.reached c.requires.target
    (sound_led c.args.self.now.order c.args.self.now.bytes.now c.args.x
    (subst (IsLeastFaultOf (LeadsToFault c.args.self.now.order c.args.self.now.bytes.now c.args.x)) c.in_default.is
    c.fault_of.ensures.least)) c.args.self.now.small c.end_at.result c.end_at.ensures.end c.end_at.ensures.near in omega
    arith

pub returns-clause-ok : goal.returns-clause-ok
returns-clause-ok c = (sound_led c.args.self.now.order c.args.self.now.bytes.now c.args.x
    (subst (IsLeastFaultOf (LeadsToFault c.args.self.now.order c.args.self.now.bytes.now c.args.x)) c.in_default.is
    c.fault_of.ensures.least))

pub returns-clause-own : goal.returns-clause-own
returns-clause-own c =
    let e = place_is c.args.at c.args.self.now.long c.requires.reached c.requires.target in
    by_parts c.edge_to-own.result.reference _ _ (c.edge_to-own.ensures.source ∙ e)
    (c.edge_to-own.ensures.which ∙ c.offset_at.ensures.start
    ∙ ap (list_start c.args.self.now.order c.args.self.now.bytes.now) e)

pub returns-clause-own_target : goal.returns-clause-own_target
returns-clause-own_target c =
    let live = place_live c.args.at c.args.self.now.long c.requires.reached c.requires.target in
    let s = c.edge_to-own.ensures.source in
    c.edge_to-own.ensures.target ∙ target_is c.args.self.now.order c.args.self.now.bytes.now
    c.edge_to-own.result.reference _ _ (λ z. live (sym s ∙ z)) c.edge_to-own.ensures.which
    (c.list_end_at.ensures ∙ ap (list_end c.args.self.now.order c.args.self.now.bytes.now) (sym s))

pub returns-clause-after : goal.returns-clause-after
returns-clause-after c =
    let e = place_is c.args.at c.args.self.now.long c.requires.reached c.requires.target in
    by_parts c.edge_to-after.result.reference _ _ c.edge_to-after.ensures.source
    (c.edge_to-after.ensures.which ∙ c.end_at.ensures.end
    ∙ ap (end_of c.args.self.now.order c.args.self.now.bytes.now) e)

pub returns-clause-after_target : goal.returns-clause-after_target
returns-clause-after_target c =
    let b = c.args.self.now.bytes.now in
    let s = c.edge_to-after.ensures.source in
    let w = c.edge_to-after.ensures.which in
    c.edge_to-after.ensures.target ∙ (elim c.if-x-eq0.branch [
      | then-x-eq0 v ↦
          let a = end_after c.args.self.now.order b c.args.at in
          let e = c.end_at.ensures.end in
          let header =
          root_header c.args.at c.args.self.now.long c.requires.reached c.requires.target v.if-x-eq0.true in
          let p = place_is c.args.at c.args.self.now.long c.requires.reached c.requires.target in
          let z = root_place_is c.args.at c.args.self.now.long c.requires.reached c.requires.target v.if-x-eq0.true in
          target_after_root c.args.self.now.order b c.edge_to-after.result.reference _ _ (s ∙ v.if-x-eq0.true) v.end-is
          (omega arith)
      | else-x-eq0 v ↦ target_is c.args.self.now.order b c.edge_to-after.result.reference _ _
          (λ z. v.if-x-eq0.false (sym s ∙ z)) w
          (v.end-is ∙ v.list_end_at-end.ensures ∙ ap (list_end c.args.self.now.order b) (sym s))
    ])
