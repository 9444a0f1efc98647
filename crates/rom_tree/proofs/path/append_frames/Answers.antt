use Rattle.std.proofs.Common.{rules, ◌≡◌, ◌+◌, ℕ, [], ◌++◌, List, None, take, get_or, length, sym, ap, ◌∙◌, arith}
use Rattle.std.proofs.Common.{append_assoc, append-nil, length-append}
use Rattle.std.proofs.lemmas.List.{take_more}
use Rattle.rom_tree.specs.declared.frame.Frame.{Frame}
use Rattle.rom_tree.specs.Frames.{path_text, name_text}
use Rattle.rom_tree.proofs.Stacks.{path_text-push, path_text-nil}
use Rattle.rom_tree.proofs.Paths.{path_within}
use Rattle.rom_tree.proofs.path.append_frames.Goals as goal

abbrev default : Frame
default = record { directory = record { 0 = 0 }; cursor = record { 0 = 0 }; name = None }

pub loop-frame-init : goal.loop-frame-init
loop-frame-init g c = rw (path_text-nil []) (sym (append-nil c.args.path.now.items))

pub loop-frame-preserved : goal.loop-frame-preserved
loop-frame-preserved g c =
    let i : ℕ = c.loop-frame.frame-index in
    let frames : List Frame = c.args.frames.now in
    let old : List ℕ = c.args.path.now.items in
    let name : List ℕ = name_text (get_or frames i default).name in
    rw (take_more frames i default c.loop-frame-test.true, path_text-push [] (take i frames) (get_or frames i default))
    (c.in_ok-append_name.ensures.ok ∙ (ap (λ (v : List ℕ). v ++ name) c.loop-frame.invariant
    ∙ append_assoc old (path_text [] (take i frames)) name))

pub returns-in_err-append_name-clause-fits : goal.returns-in_err-append_name-clause-fits
returns-in_err-append_name-clause-fits g c = λ h.
    let i : ℕ = c.loop-frame.frame-index in
    let frames : List Frame = c.args.frames.now in
    let old : List ℕ = c.args.path.now.items in
    let w = path_within [] frames i default c.loop-frame-test.true in
    let l : length c.loop-frame.path.items ≡ length old + length (path_text [] (take i frames)) =
    ap length c.loop-frame.invariant ∙ length-append old (path_text [] (take i frames)) in
    let e = c.in_err-append_name.ensures.fits (omega (arith, w, l, h)) in
    absurd (search rules)
