use Rattle.std.proofs.Common.{ℕ, ◌<◌, List, [], ◌∷◌, ◌++◌, length, refl, sym, ap, ◌∙◌, subst, arith}
use Rattle.std.proofs.Common.{length-append}
use Rattle.rom_tree.specs.Image.{Image}
use Rattle.rom_tree.specs.Names.{path_below}
use Rattle.rom_tree.proofs.Answered.{err_by}
use Rattle.image_check.specs.Any.{any_view}
use Rattle.image_compare.specs.declared.directories.Directory.{Directory}
use Rattle.image_compare.specs.declared.rows.Rows.{Rows}
use Rattle.image_compare.specs.Directories.{AreWays, way_at}
use Rattle.image_compare.specs.Rows.{HasLong, frame_of}
use Rattle.image_compare.proofs.Entered.{all_left, child, fewer, further, here, next, no_entries_below, none_left, room}
use Rattle.image_compare.proofs.Entered.{target, target_is, target_there}
use Rattle.image_compare.proofs.Listed.{Collected, at_end, at_front, below_is, deeper, directory_added, leaf}
use Rattle.image_compare.proofs.Listed.{long_below}
use Rattle.image_compare.proofs.Listed.{long_path, path_yet, there_yet, with_this}
use Rattle.image_compare.proofs.rows.+collect.Goals as goal
use Rattle.image_compare.proofs.rows.+collect.Goals.{then-is_directory_at+in_ok-index+in_ok-collect}
use Rattle.image_compare.proofs.rows.+collect.Goals.{else-is_directory_at}

pub loop-entry-init : goal.loop-entry-init
loop-entry-init t c = record {
  frame = c.requires.frame;
  so_far = λ ws ns x h l i.
      let m : Image = any_view c.args.image.now in
      at_front m c.args.found.now ws ns c.args.directory (frame_of c.args.node 0) x h (all_left m c.args.node x i);
}

pub path_len-requires : goal.path_len-requires
path_len-requires t c =
    let m : Image = any_view c.args.image.now in
    let k = c.requires.known in
    let o = here m c.args.above c.args.node c.loop-entry.cursor.0 c.in-Some.entry.cursor.0 c.loop-entry.invariant.frame
    c.in-Some.entry.name.now c.in-Some.entry.node c.in-Some.ensures in
    let s = c.loop-entry.invariant.so_far k.0 k.1 o.dir k.2 k.3 o.is_dir in
    let P : List Directory → Type 0 = λ v. AreWays v (k.0 ++ s.added) in
    (k.0 ++ s.added, subst P (sym c.as_slice.ensures.value) s.has.ways)

pub returns-in_err-len-clause-long : goal.returns-in_err-len-clause-long
returns-in_err-len-clause-long t c = err_by c.from_residual.result c.from_residual.ensures.1 (λ e is eq ws ns x h l i.
    let m : Image = any_view c.args.image.now in
    let f = frame_of c.args.node c.loop-entry.cursor.0 in
    let f' = frame_of c.args.node c.in-Some.entry.cursor.0 in
    let name = c.in-Some.entry.name in
    let n = c.in-Some.entry.node in
    let x' = target m c.args.above c.args.node c.loop-entry.cursor.0 c.in-Some.entry.cursor.0
    c.loop-entry.invariant.frame name.now n c.in-Some.ensures in
    let step = next m c.args.above c.args.node c.loop-entry.cursor.0 c.in-Some.entry.cursor.0
    c.loop-entry.invariant.frame name.now n c.in-Some.ensures in
    let s = c.loop-entry.invariant.so_far ws ns x h l i in
    let P : List Directory → Type 0 = λ v. AreWays v (ws ++ s.added) in
    let Q : List ℕ → Type 0 = λ v. 16384 < length v in
    long_path m c.loop-entry.found ws ns c.args.directory f f' x l s name x' step
    (subst Q (path_yet m c.loop-entry.found ws ns c.args.directory f f' x l s name x' step)
    (c.in_err-len.ensures.long (ws ++ s.added) (subst P (sym c.as_slice.ensures.value) s.has.ways))))

pub is_directory_at-requires : goal.is_directory_at-requires
is_directory_at-requires t c κs = (
  (refl, tt),
  target_there (any_view c.args.image.now) c.args.above c.args.node c.loop-entry.cursor.0
      c.in-Some.entry.cursor.0 c.loop-entry.invariant.frame c.in-Some.entry.name.now c.in-Some.entry.node
      c.in-Some.ensures,
)

pub collect-requires : goal.collect-requires
collect-requires t c =
    let m : Image = any_view c.args.image.now in
    let f = frame_of c.args.node c.loop-entry.cursor.0 in
    let f' = frame_of c.args.node c.in-Some.entry.cursor.0 in
    let name = c.in-Some.entry.name in
    let n = c.in-Some.entry.node in
    let k = c.requires.known in
    let g = c.loop-entry.invariant.frame in
    let a = c.loop-entry.cursor.0 in
    let b = c.in-Some.entry.cursor.0 in
    let o = here m c.args.above c.args.node a b g name.now n c.in-Some.ensures in
    let x' = target m c.args.above c.args.node a b g name.now n c.in-Some.ensures in
    let i = target_is m c.args.above c.args.node a b g name.now n c.in-Some.ensures in
    let step = next m c.args.above c.args.node a b g name.now n c.in-Some.ensures in
    let s = c.loop-entry.invariant.so_far k.0 k.1 o.dir k.2 k.3 o.is_dir in
    let ws : List (List ℕ) = k.0 ++ s.added in
    let path : List ℕ = path_below (way_at k.0 c.args.directory) name.now in
    let P : List Directory → Type 0 = λ v. AreWays v ws in
    let ways : AreWays c.as_slice.result.now ws = subst P (sym c.as_slice.ensures.value) s.has.ways in
    let yet = path_yet m c.loop-entry.found k.0 k.1 c.args.directory f f' o.dir k.3 s name x' step in
    let size = c.in_ok-len.ensures.size ws ways ∙ ap (λ (v : List ℕ). length v) yet in
    let one = with_this m c.loop-entry.found k.0 k.1 c.args.directory f f' o.dir k.3 s name x' step
    c.add_name.new.found n
    c.in_ok-add_name.ensures.directories c.in_ok-add_name.ensures.names i
    (let z = c.in_ok-len.ensures.short in omega (arith, size, z)) in
    let d : Directory = record { parent = c.args.directory; name = name; len = c.in_ok-len.len } in
    let two = directory_added m c.add_name.new.found c.add_directory.new.found ws _ one d _ c.in_ok-index.ensures.names
    c.in_ok-index.ensures.directories
    (there_yet m c.loop-entry.found k.0 k.1 c.args.directory f f' o.dir k.3 s name x' step) (sym size)
    c.in_ok-len.ensures.short (sym yet) in
    let r = room m c.args.above c.args.node a b g name.now n c.in-Some.ensures in (
      omega (arith, r, c.decreases),
      (
        child m c.args.above c.args.node a b g name.now n c.in-Some.ensures (sym (c.if-is_directory_at.ensures x' i)),
        (
          ws ++ path ∷ [],
          _,
          two,
          (let e = length-append ws (path ∷ []) in
              omega (arith, e, one.ways.count, c.in_ok-index.ensures.index)),
        ),
      ),
    )

pub returns-in_err-collect-clause-long : goal.returns-in_err-collect-clause-long
returns-in_err-collect-clause-long t c =
    err_by c.from_residual-in_err-collect.result c.from_residual-in_err-collect.ensures.1 (λ e is eq ws' ns x h l z.
    let m : Image = any_view c.args.image.now in
    let f = frame_of c.args.node c.loop-entry.cursor.0 in
    let f' = frame_of c.args.node c.in-Some.entry.cursor.0 in
    let name = c.in-Some.entry.name in
    let n = c.in-Some.entry.node in
    let g = c.loop-entry.invariant.frame in
    let a = c.loop-entry.cursor.0 in
    let b = c.in-Some.entry.cursor.0 in
    let x' = target m c.args.above c.args.node a b g name.now n c.in-Some.ensures in
    let i = target_is m c.args.above c.args.node a b g name.now n c.in-Some.ensures in
    let step = next m c.args.above c.args.node a b g name.now n c.in-Some.ensures in
    let s = c.loop-entry.invariant.so_far ws' ns x h l z in
    let ws : List (List ℕ) = ws' ++ s.added in
    let path : List ℕ = path_below (way_at ws' c.args.directory) name.now in
    let P : List Directory → Type 0 = λ v. AreWays v ws in
    let ways : AreWays c.as_slice.result.now ws = subst P (sym c.as_slice.ensures.value) s.has.ways in
    let yet = path_yet m c.loop-entry.found ws' ns c.args.directory f f' x l s name x' step in
    let size = c.in_ok-len.ensures.size ws ways ∙ ap (λ (v : List ℕ). length v) yet in
    let one = with_this m c.loop-entry.found ws' ns c.args.directory f f' x l s name x' step c.add_name.new.found n
    c.in_ok-add_name.ensures.directories c.in_ok-add_name.ensures.names i
    (let z = c.in_ok-len.ensures.short in omega (arith, size, z)) in
    let d : Directory = record { parent = c.args.directory; name = name; len = c.in_ok-len.len } in
    let two = directory_added m c.add_name.new.found c.add_directory.new.found ws _ one d _ c.in_ok-index.ensures.names
    c.in_ok-index.ensures.directories
    (there_yet m c.loop-entry.found ws' ns c.args.directory f f' x l s name x' step) (sym size)
    c.in_ok-len.ensures.short (sym yet) in
    let there : c.in_ok-index.index < length (ws ++ path ∷ []) =
    (let e = length-append ws (path ∷ []) in omega (arith, e, one.ways.count, c.in_ok-index.ensures.index)) in
    long_below m c.loop-entry.found ws' ns c.args.directory f f' x l s name x' step
    (subst HasLong (below_is m c.loop-entry.found ws' ns c.args.directory f f' x l s name x' step c.in_ok-index.index
    (c.in_ok-index.ensures.index ∙ sym one.ways.count))
    (c.in_err-collect.ensures.long (sym is ∙ eq) _ _ x' two there i)))

pub loop-entry-smaller : goal.loop-entry-smaller
loop-entry-smaller t c =
    fewer (any_view c.args.image.now) c.args.above c.args.node c.loop-entry.cursor.0
    c.in-Some.entry.cursor.0 c.loop-entry.invariant.frame c.in-Some.entry.name.now c.in-Some.entry.node
    c.in-Some.ensures

pub loop-entry-preserved : goal.loop-entry-preserved
loop-entry-preserved t c =
    let m : Image = any_view c.args.image.now in
    let f = frame_of c.args.node c.loop-entry.cursor.0 in
    let f' = frame_of c.args.node c.in-Some.entry.cursor.0 in
    let name = c.in-Some.entry.name in
    let n = c.in-Some.entry.node in
    let g = c.loop-entry.invariant.frame in
    let a = c.loop-entry.cursor.0 in
    let b = c.in-Some.entry.cursor.0 in
    let x' = target m c.args.above c.args.node a b g name.now n c.in-Some.ensures in
    let i = target_is m c.args.above c.args.node a b g name.now n c.in-Some.ensures in
    let step = next m c.args.above c.args.node a b g name.now n c.in-Some.ensures in
    record {
      frame = further m c.args.above c.args.node a b g name.now n c.in-Some.ensures;
      so_far = λ ws' ns x h l z.
          let s = c.loop-entry.invariant.so_far ws' ns x h l z in
          let ws : List (List ℕ) = ws' ++ s.added in
          let path : List ℕ = path_below (way_at ws' c.args.directory) name.now in
          let P : List Directory → Type 0 = λ v. AreWays v ws in
          let ways : AreWays c.as_slice.result.now ws = subst P (sym c.as_slice.ensures.value) s.has.ways in
          let yet = path_yet m c.loop-entry.found ws' ns c.args.directory f f' x l s name x' step in
          let size = c.in_ok-len.ensures.size ws ways ∙ ap (λ (v : List ℕ). length v) yet in
          let one = with_this m c.loop-entry.found ws' ns c.args.directory f f' x l s name x' step
          c.add_name.new.found n
          c.in_ok-add_name.ensures.directories c.in_ok-add_name.ensures.names i
          (let z = c.in_ok-len.ensures.short in omega (arith, size, z)) in
          let Q : Rows → Type 0 = λ v. Collected m v ws' ns c.args.directory f' x in
          elim c.if-is_directory_at.branch [
            | then-is_directory_at+in_ok-index+in_ok-collect w ↦
                let d : Directory = record { parent = c.args.directory; name = name; len = c.in_ok-len.len } in
                let two = directory_added m c.add_name.new.found w.add_directory.new.found ws _ one d _
                w.in_ok-index.ensures.names w.in_ok-index.ensures.directories
                (there_yet m c.loop-entry.found ws' ns c.args.directory f f' x l s name x' step) (sym size)
                c.in_ok-len.ensures.short (sym yet) in
                let there : w.in_ok-index.index < length (ws ++ path ∷ []) =
                (let e = length-append ws (path ∷ [])
                in omega (arith, e, one.ways.count, w.in_ok-index.ensures.index)) in
                subst Q (sym w.found-is)
                (deeper m c.loop-entry.found ws' ns c.args.directory f f' x l s name x' step w.collect.new.found
                w.in_ok-index.index (w.in_ok-index.ensures.index ∙ sym one.ways.count)
                (w.in_ok-collect.ensures.ok _ _ x' two there i))
            | else-is_directory_at w ↦
                subst Q (sym w.found-is)
                (leaf m c.loop-entry.found ws' ns c.args.directory f f' x l s name x' step c.add_name.new.found one
                (no_entries_below m c.args.above c.args.node a b g name.now n c.in-Some.ensures
                (w.if-is_directory_at.ensures x' i)))
          ];
    }

pub returns-clause-ok : goal.returns-clause-ok
returns-clause-ok t c = λ ws ns x h l i.
    let m : Image = any_view c.args.image.now in
    at_end m c.loop-entry.found ws ns c.args.directory (frame_of c.args.node c.loop-entry.cursor.0) x
    (c.loop-entry.invariant.so_far ws ns x h l i)
    (none_left m c.args.above c.args.node c.loop-entry.cursor.0 c.loop-entry.invariant.frame c.in_default.ensures)
