use Rattle.std.proofs.Common.{◌≡◌, ◌+◌, refl, sym, arith}
use Rattle.plan_rows.specs.Rows.{inode_view}
use Rattle.cramfs_plan.specs.Entries.{stored_item, Knows}
use Rattle.cramfs_plan.specs.Passes.{item_by, state_by}
use Rattle.cramfs_plan.proofs.Placing.{by_file}
use Rattle.cramfs_plan.proofs.walk.Placer.stored.Goals as goal

pub returns-in_ok-stored-in-Leaf : goal.returns-in_ok-stored-in-Leaf
returns-in_ok-stored-in-Leaf c =
    let i = inode_view c.args.row.inode in
    let r = c.in_ok-stored-in-Leaf.stored in
    let e = c.in_ok-stored-in-Leaf.ensures in
    let len = c.args.len in
    let z = c.args.row.what in
    record {
      item = λ w st o l name.
          let x = e.item w.state (sym st.at) st.tables o l name in
          by_file (λ v. stored_item o l name i r i.fill ≡ item_by o w.state l name len v) z i c.in-Leaf.is x x;
      end = λ w st.
          let x = e.end w.state (sym st.at) st.tables in
          by_file (λ v. r.end ≡ (state_by w.state len v).at) z i c.in-Leaf.is x x;
      tables = λ w st.
          let x = e.knows w.state (sym st.at) st.tables in
          by_file (λ v. Knows (state_by w.state len v).tables c.stored_file.new.tables) z i c.in-Leaf.is x x;
      same = (refl, refl);
      near = λ near h. let at =
          h.at in e.tables (near + 3) (λ k t is. let l = h.tables k t is in omega (arith, l)) (omega (arith, at));
      small = (let l = e.near in omega (arith, l), e.small.0, e.small.1);
    }
