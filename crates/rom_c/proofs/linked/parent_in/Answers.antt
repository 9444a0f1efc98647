use Rattle.std.proofs.Common.{◌≡◌, ◌==◌, ℕ, Bool, true, false, sym, ap, ◌∙◌, eq-eqb}
use Rattle.std.proofs.lemmas.Bool.{ne_eqb}
use Rattle.std.specs.Prelude.{if◌then◌else◌}
use Rattle.rom_tree.specs.Tree.{ino_of, is_directory}
use Rattle.rom_tree.proofs.Named.{node_number}
use Rattle.image_check.specs.Any.{any_view}
use Rattle.rom_c.specs.declared.answers.RomtoolNode.{RomtoolNode}
use Rattle.rom_c.specs.Linked.{entered_from}
use Rattle.rom_c.specs.Reported.{found_reported, no_node}
use Rattle.rom_c.proofs.linked.parent_in.Goals as goal

pub returns-then-directory-root : goal.returns-then-directory-root
returns-then-directory-root c = λ x h.
    let t = (any_view c.args.image.now).tree in
    let d : is_directory x ≡ true = sym (c.is_directory_at.ensures x h) ∙ c.if-not-is_directory_at.false in
    let n : ino_of x ≡ c.args.directory.0 = node_number (any_view c.args.image.now) c.args.directory.0 x h in
    let b : (ino_of x == ino_of t) ≡ true =
    eq-eqb (ino_of x) (ino_of t) (n ∙ (c.if-directory-root.true ∙ c.root-root.ensures)) in
    let Q : Bool → Bool → RomtoolNode = λ a b. if a then (if b then record { error = 0; node = ino_of t }
    else found_reported (entered_from t (ino_of x))) else no_node 2 in
    let e : Q (is_directory x) (ino_of x == ino_of t) ≡ Q true true =
    ap (λ (a : Bool). Q a (ino_of x == ino_of t)) d ∙ ap (Q true) b in
    ap (λ (k : ℕ). let r : RomtoolNode = record { error = 0; node = k } in r) c.root-root.ensures ∙ sym e

pub returns : goal.returns
returns c = λ x h.
    let t = (any_view c.args.image.now).tree in
    let d : is_directory x ≡ true = sym (c.is_directory_at.ensures x h) ∙ c.if-not-is_directory_at.false in
    let n : ino_of x ≡ c.args.directory.0 = node_number (any_view c.args.image.now) c.args.directory.0 x h in
    let b : (ino_of x == ino_of t) ≡ false =
    ne_eqb (ino_of x) (ino_of t) (λ k. c.if-directory-root.false (sym n ∙ (k ∙ sym c.root-root.ensures))) in
    let Q : Bool → Bool → RomtoolNode = λ a b. if a then (if b then record { error = 0; node = ino_of t }
    else found_reported (entered_from t (ino_of x))) else no_node 2 in
    let e : Q (is_directory x) (ino_of x == ino_of t) ≡ Q true false =
    ap (λ (a : Bool). Q a (ino_of x == ino_of t)) d ∙ ap (Q true) b in
    c.entered_from.ensures ∙ (ap (λ (k : ℕ). found_reported (entered_from t k)) (sym n) ∙ sym e)
