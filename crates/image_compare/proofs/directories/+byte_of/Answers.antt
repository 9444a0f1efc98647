use Rattle.std.proofs.Common.{ℕ, ◌-◌, ◌<◌, List, length, ap, sym, ◌∙◌, subst, arith, []}
use Rattle.std.specs.Prelude.{slice_index}
use Rattle.image_compare.specs.declared.directories.Directory.{Directory}
use Rattle.image_compare.specs.Directories.{way_at}
use Rattle.image_compare.proofs.Directed.{next_earlier, next_way, byte_above, byte_name}
use Rattle.image_compare.proofs.directories.+byte_of.Goals as goal

abbrev none : Directory
none = record { parent = 0; name = record { ref_ptr = (0, 0); now = [] }; len = 0 }

pub byte_of-requires : goal.byte_of-requires
byte_of-requires t c =
    let ds : List Directory = c.args.directories.now in
    let ws : List (List ℕ) = c.requires.0 in
    let l : c.args.at < length (way_at ws c.args.directory) =
    subst (λ (v : ℕ). c.args.at < v) (c.len_at-len.ensures.size ws c.requires.1) c.if-at-len.true in (
      (let e = next_earlier ds ws c.requires.1 c.args.directory c.args.at none l in omega (arith, e, c.decreases)),
      (
        ws,
        c.requires.1,
        subst (λ (v : List ℕ). c.args.at < length v)
            (next_way ds ws c.requires.1 c.args.directory c.args.at none l) l,
      ),
    )

pub returns-then-at-len : goal.returns-then-at-len
returns-then-at-len t c = λ ws h.
    let ds : List Directory = c.args.directories.now in
    let l : c.args.at < length (way_at ws c.args.directory) =
    subst (λ (v : ℕ). c.args.at < v) (c.len_at-len.ensures.size ws h) c.if-at-len.true in
    c.byte_of.ensures ws h
    ∙ (ap (λ (v : List ℕ). slice_index v c.args.at) (sym (next_way ds ws h c.args.directory c.args.at none l))
    ∙ sym (byte_above (way_at ws c.args.directory) c.args.name.now c.args.at l))

pub returns : goal.returns
returns t c = λ ws h.
    let e = c.len_at-len.ensures.size ws h in
    ap (λ (v : ℕ). slice_index c.args.name.now (c.args.at - v - 1)) e
    ∙ sym (byte_name (way_at ws c.args.directory) c.args.name.now c.args.at
    (omega (arith, e, c.if-at-len.false, c.if-at-len-2.false)))
