use Rattle.std.proofs.Common.{◌≡◌, ℕ, List, length, sym, ◌∙◌, arith, false}
use Rattle.path_walk.specs.Components.{is_empty}
use Rattle.path_walk.proofs.Trails.{lt_true, lt_false}
use Rattle.path_walk.proofs.Turns.{empty_is, empty_not, walk-long, walk-empty, walk-relative, walk-goes}
use Rattle.path_walk.proofs.Counted.{names_long, names_empty, names_relative, names_go}
use Rattle.path_walk.proofs.paths.check_path.Goals as goal

pub returns-then-path-gt-PATH_MAX-clause-leads : goal.returns-then-path-gt-PATH_MAX-clause-leads
returns-then-path-gt-PATH_MAX-clause-leads c = λ g follow.
    let path : List ℕ = c.args.path.now in
    walk-long g path follow (lt_true 4095 (length path) c.if-path-gt-PATH_MAX.true)

pub returns-then-is_empty-clause-leads : goal.returns-then-is_empty-clause-leads
returns-then-is_empty-clause-leads c = λ g follow.
    let path : List ℕ = c.args.path.now in
    walk-empty g path follow (lt_false 4095 (length path) (omega arith))
    (empty_is path (sym c.is_empty.ensures ∙ c.if-is_empty.true))

pub returns-then-not-is_absolute-clause-leads : goal.returns-then-not-is_absolute-clause-leads
returns-then-not-is_absolute-clause-leads c = λ g follow.
    let path : List ℕ = c.args.path.now in
    let e : is_empty path ≡ false = empty_not path (sym c.is_empty.ensures ∙ c.if-is_empty.false) in
    walk-relative g path follow (lt_false 4095 (length path) (omega arith)) e
    (sym c.is_absolute.ensures ∙ c.if-not-is_absolute.true)

pub returns-clause-leads : goal.returns-clause-leads
returns-clause-leads c = λ g follow.
    let path : List ℕ = c.args.path.now in
    let e : is_empty path ≡ false = empty_not path (sym c.is_empty.ensures ∙ c.if-is_empty.false) in
    walk-goes g path follow (lt_false 4095 (length path) (omega arith)) e
    (sym c.is_absolute.ensures ∙ c.if-not-is_absolute.false)

pub returns-then-path-gt-PATH_MAX-clause-compared : goal.returns-then-path-gt-PATH_MAX-clause-compared
returns-then-path-gt-PATH_MAX-clause-compared c = λ g follow.
    let path : List ℕ = c.args.path.now in
    names_long g path follow (lt_true 4095 (length path) c.if-path-gt-PATH_MAX.true)

pub returns-then-is_empty-clause-compared : goal.returns-then-is_empty-clause-compared
returns-then-is_empty-clause-compared c = λ g follow.
    let path : List ℕ = c.args.path.now in
    names_empty g path follow (lt_false 4095 (length path) (omega arith))
    (empty_is path (sym c.is_empty.ensures ∙ c.if-is_empty.true))

pub returns-then-not-is_absolute-clause-compared : goal.returns-then-not-is_absolute-clause-compared
returns-then-not-is_absolute-clause-compared c = λ g follow.
    let path : List ℕ = c.args.path.now in
    let e : is_empty path ≡ false = empty_not path (sym c.is_empty.ensures ∙ c.if-is_empty.false) in
    names_relative g path follow (lt_false 4095 (length path) (omega arith)) e
    (sym c.is_absolute.ensures ∙ c.if-not-is_absolute.true)

pub returns-clause-compared : goal.returns-clause-compared
returns-clause-compared c = λ g follow.
    let path : List ℕ = c.args.path.now in
    let e : is_empty path ≡ false = empty_not path (sym c.is_empty.ensures ∙ c.if-is_empty.false) in
    names_go g path follow (lt_false 4095 (length path) (omega arith)) e
    (sym c.is_absolute.ensures ∙ c.if-not-is_absolute.false)
