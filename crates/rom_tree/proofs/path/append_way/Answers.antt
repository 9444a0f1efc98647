use Rattle.std.proofs.Common.{◌≡◌, ◌++◌, List, ℕ, [], Bool, true, Option, Some, sym, ap, ◌∙◌, append-nil, rules, arith}
use Rattle.std.proofs.lemmas.Grind.{common_steps}
use Rattle.std.specs.Borrow.{Bor}
use Rattle.rom_tree.specs.declared.frame.Frame.{Frame}
use Rattle.rom_tree.specs.Frames.{path_text, way_of}
use Rattle.rom_tree.proofs.path.append_way.Goals as goal

-- the path of a directory is that of the frames, whose last one it is
entered_way : (old new : List ℕ) (name : Option (Bor (List ℕ))) (n : Bor (List ℕ)) (entered : Bool) (fs : List Frame)
    → name ≡ Some n → entered ≡ true
    → new ≡ old ++ path_text [] fs → new ≡ old ++ way_of name entered fs
entered_way old new name n entered fs is e frames =
    rw (is, e) (frames ∙ ap (λ (v : List ℕ). old ++ v) (sym (append-nil (path_text [] fs))))

pub returns-then-entered-clause-ok : goal.returns-then-entered-clause-ok
returns-then-entered-clause-ok g c =
    entered_way c.args.path.now.items _ c.args.name c.in-Some.field-0 c.args.entered c.args.frames.now c.in-Some.is
    c.if-entered.true (search rules)

pub returns-clause-ok : goal.returns-clause-ok
returns-clause-ok g c =
    let frames : c.append_frames.new.path.items ≡ c.args.path.now.items ++ path_text [] c.args.frames.now =
    c.in_ok-append_frames.ensures.ok in grind (arith, common_steps)
