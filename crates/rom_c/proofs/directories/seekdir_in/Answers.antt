use Rattle.std.proofs.Common.{◌≡◌, Bool, true, false, Ok, Err, refl, sym, subst, ap, ◌∙◌}
use Rattle.std.specs.Prelude.{is_some, nat_lt, if◌then◌else◌}
use Rattle.rom_tree.specs.Tree.{entries_of, entry_count, is_directory}
use Rattle.path_walk.proofs.Trails.{lt_true, lt_false}
use Rattle.open_files.specs.declared.error.CallError.TheVariants.{Einval}
use Rattle.open_files.specs.Machine.{Outcome, directory_only}
use Rattle.open_files.specs.Slots.{image_view}
use Rattle.open_files.proofs.Standing.{node_asks}
use Rattle.open_files.proofs.OneNode.{node_here, entry_asks, refuses_file, moves_directory}
use Rattle.image_check.specs.Any.{any_view}
use Rattle.rom_c.specs.Outcomes.{error_reported, Follows}
use Rattle.rom_c.proofs.directories.seekdir_in.Goals as goal

pub is_directory_at-requires : goal.is_directory_at-requires
is_directory_at-requires c = λ κs. ((refl, tt), node_asks (any_view c.args.image.now) c.args.opened.now c.requires)

pub returns-then-not-is_directory_at-clause-sought : goal.returns-then-not-is_directory_at-clause-sought
returns-then-not-is_directory_at-clause-sought c = λ o h.
    let m = any_view c.args.image.now in
    let P : Outcome (Unit {0}) → Type 0 = λ v. (c.number.result ≡ error_reported v)
    × Follows (image_view m) o c.args.opened.now c.args.opened.now v in
    subst P (sym (refuses_file m c.args.opened.now o h c.is_directory_at.ensures c.if-not-is_directory_at.true
    (if nat_lt (entry_count (entries_of o.place)) c.args.entries then Err Einval else Ok (tt, c.args.entries))))
    (c.number.ensures, refl)

pub cursor_after-requires : goal.cursor_after-requires
cursor_after-requires c =
    (entry_asks (any_view c.args.image.now) c.args.opened.now c.requires.0 c.requires.1 c.is_directory_at.ensures
    c.if-not-is_directory_at.false).0

pub returns-in_default-clause-sought : goal.returns-in_default-clause-sought
returns-in_default-clause-sought c = λ o h.
    let m = any_view c.args.image.now in
    let here = node_here m c.args.opened.now o h in
    let d : is_directory o.place ≡ true =
    sym (c.is_directory_at.ensures o.place here) ∙ c.if-not-is_directory_at.false in
    let l : nat_lt (entry_count (entries_of o.place)) c.args.entries ≡ true =
    lt_true (entry_count (entries_of o.place)) c.args.entries (c.in_default.ensures o.place here) in
    let P : Outcome (Unit {0}) → Type 0 = λ v. (c.number-in_default.result ≡ error_reported v)
    × Follows (image_view m) o c.args.opened.now c.args.opened.now v in
    let Q : Bool → Bool → Outcome (Unit {0}) =
    λ a b. directory_only a (if b then Err Einval else Ok (tt, c.args.entries)) in
    subst P (sym (ap (λ a. Q a (nat_lt (entry_count (entries_of o.place)) c.args.entries)) d ∙ ap (Q true) l))
    (c.number-in_default.ensures, refl)

pub returns-clause-sought : goal.returns-clause-sought
returns-clause-sought c = λ o h.
    let m = any_view c.args.image.now in
    let here = node_here m c.args.opened.now o h in
    let w = c.in-Some.ensures o.place here in
    let l : nat_lt (entry_count (entries_of o.place)) c.args.entries ≡ false =
    lt_false (entry_count (entries_of o.place)) c.args.entries w.0 in
    let a : Outcome (Unit {0}) =
    if nat_lt (entry_count (entries_of o.place)) c.args.entries then Err Einval else Ok (tt, c.args.entries) in
    let moves = moves_directory m c.args.opened.now o h c.is_directory_at.ensures c.if-not-is_directory_at.false a tt
    c.in-Some.cursor.0 c.args.entries w.1
    (ap (λ (b : Bool). let r : Outcome (Unit {0}) = if b then Err Einval else Ok (tt, c.args.entries) in r) l) in
    let P : Outcome (Unit {0}) → Type 0 = λ v. (0 ≡ error_reported v)
    × Follows (image_view m) o c.args.opened.now
    (record {
      image = c.args.opened.now.image;
      node = c.args.opened.now.node;
      position = c.in-Some.cursor.0;
    }) v in
    subst P (sym moves.1) (refl, moves.2)

pub returns-clause-stands : goal.returns-clause-stands
returns-clause-stands c =
    let m = any_view c.args.image.now in
    let o = c.requires.0 in
    let h = c.requires.1 in
    let here = node_here m c.args.opened.now o h in
    let w = c.in-Some.ensures o.place here in
    let a : Outcome (Unit {0}) = Ok (tt, c.args.entries) in
    let e : a ≡ a = refl in
    let moves = moves_directory m c.args.opened.now o h c.is_directory_at.ensures c.if-not-is_directory_at.false a tt
    c.in-Some.cursor.0 c.args.entries w.1 e in
    ap is_some moves.2
