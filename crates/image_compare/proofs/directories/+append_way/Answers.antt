use Rattle.std.proofs.Common.{◌≡◌, ℕ, ◌+◌, ◌<◌, ◌≤◌, ◌++◌, ◌∷◌, [], List, length, get_or, ap, sym, ◌∙◌, subst, arith}
use Rattle.std.proofs.Common.{append-nil}
use Rattle.image_compare.specs.declared.directories.Directory.{Directory}
use Rattle.image_compare.specs.Directories.{AreWays, way_at}
use Rattle.image_compare.proofs.Directed.{next_earlier, next_way, below_length, way_empty, with_name, name_room}
use Rattle.image_compare.proofs.directories.+append_way.Goals as goal

abbrev none : Directory
none = record { parent = 0; name = record { ref_ptr = (0, 0); now = [] }; len = 0 }

-- a length that is not 0
some : (n : ℕ) (w : List ℕ) → n ≡ length w → (n ≡ 0 → ⊥) → 0 < length w
some n [] e d = absurd (d e)
some n (b ∷ bs) e d = omega arith

pub returns-then-len_at-eq0 : goal.returns-then-len_at-eq0
returns-then-len_at-eq0 t c = λ ws h.
    sym (append-nil c.args.path.now.items)
    ∙ ap (λ (v : List ℕ). c.args.path.now.items ++ v)
    (sym (way_empty (way_at ws c.args.directory) (sym (c.len_at.ensures.size ws h) ∙ c.if-len_at-eq0.true)))

pub append_way-requires : goal.append_way-requires
append_way-requires t c =
    let ds : List Directory = c.args.directories.now in
    let ws : List (List ℕ) = c.requires.0 in
    let h : AreWays ds ws = c.requires.1 in
    let l : 0 < length (way_at ws c.args.directory) =
    some _ (way_at ws c.args.directory) (c.len_at.ensures.size ws h) c.if-len_at-eq0.false in
    let k = next_earlier ds ws h c.args.directory 0 none l in
    let s = ap (λ (v : List ℕ). length v) (next_way ds ws h c.args.directory 0 none l) in
    let d : Directory = get_or ds c.args.directory none in
    let b = below_length (way_at ws d.parent) d.name.now in
    (omega (arith, k, c.decreases), (ws, h, omega (arith, s, c.requires.2, b)))

pub append_name-requires : goal.append_name-requires
append_name-requires t c =
    let ds : List Directory = c.args.directories.now in
    let ws : List (List ℕ) = c.requires.0 in
    let h : AreWays ds ws = c.requires.1 in
    let l : 0 < length (way_at ws c.args.directory) =
    some _ (way_at ws c.args.directory) (c.len_at.ensures.size ws h) c.if-len_at-eq0.false in
    let d : Directory = get_or ds c.args.directory none in
    let P : List ℕ → Type 0 = λ v. length c.args.path.now.items + length v ≤ 16384 in
    name_room c.args.path.now.items c.append_way.new.path.items (way_at ws d.parent) d.name.now
    (c.append_way.ensures ws h) (subst P (next_way ds ws h c.args.directory 0 none l) c.requires.2)

pub returns : goal.returns
returns t c = λ ws h.
    let ds : List Directory = c.args.directories.now in
    let l : 0 < length (way_at ws c.args.directory) =
    some _ (way_at ws c.args.directory) (c.len_at.ensures.size ws h) c.if-len_at-eq0.false in
    let d : Directory = get_or ds c.args.directory none in
    with_name c.args.path.now.items c.append_way.new.path.items c.append_name.new.path.items (way_at ws d.parent)
    d.name.now (c.append_way.ensures ws h) c.append_name.ensures
    ∙ ap (λ (v : List ℕ). c.args.path.now.items ++ v) (sym (next_way ds ws h c.args.directory 0 none l))
