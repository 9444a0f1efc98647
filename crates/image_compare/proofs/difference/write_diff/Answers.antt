use Rattle.image_compare.proofs.difference.write_diff.Goals as goal

pub returns-in-Ok-write_lines : goal.returns-in-Ok-write_lines
returns-in-Ok-write_lines g c =
    let h = c.in-Ok.ensures.ok in
    let k = c.in-Ok-rows_of.ensures.ok in
    record {
      old_names = h.names;
      new_names = k.names;
      old_sorted = h.sorted;
      new_sorted = k.sorted;
      lines = c.in-Ok-write_lines.ensures h.names k.names h.rows k.rows;
    }

pub returns : goal.returns
returns g c =
    let h = c.in-Ok.ensures.ok in
    let k = c.in-Ok-rows_of.ensures.ok in
    record {
      old_names = h.names;
      new_names = k.names;
      old_sorted = h.sorted;
      new_sorted = k.sorted;
      lines = c.in-Err.ensures h.names k.names h.rows k.rows;
    }
