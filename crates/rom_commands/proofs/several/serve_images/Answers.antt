use Rattle.std.proofs.Common.{◌<◌, ◌≤◌, ℕ, List, length, map, arith, Vec, Global}
use Rattle.std.proofs.lemmas.List.{length-map}
use Rattle.image_check.specs.Any.{any_view}
use Rattle.lookups.specs.Inner.{inner}
use Rattle.rom_commands.specs.Serving.{Input, input_of, HoldAll}
use Rattle.rom_commands.proofs.Holding.{some_held, most_held}
use Rattle.rom_commands.proofs.Endings.{all_by, ok_by}
use Rattle.rom_commands.proofs.several.serve_images.Goals as goal

pub serve_all_checked-requires-clause-some : goal.serve_all_checked-requires-clause-some
serve_all_checked-requires-clause-some g c =
    let m = length-map c.args.files.now (λ (f : Vec ℕ Global). f.items) in
    let some = c.requires.some in
    let all : List (List ℕ) = map (λ (f : Vec ℕ Global). f.items) c.args.files.now in
    ok_by c.check_all-checked.result (λ v. HoldAll all (map (λ x. any_view (inner x)) v.items))
    (λ v. 0 < length (map (λ x. any_view (inner x)) v.items))
    (λ v h. some_held all (map (λ x. any_view (inner x)) v.items) h (omega arith)) c.check_all-checked.ensures.held

pub serve_all_checked-requires-clause-few : goal.serve_all_checked-requires-clause-few
serve_all_checked-requires-clause-few g c =
    let m = length-map c.args.files.now (λ (f : Vec ℕ Global). f.items) in
    let few = c.requires.few in
    let all : List (List ℕ) = map (λ (f : Vec ℕ Global). f.items) c.args.files.now in
    ok_by c.check_all-checked.result (λ v. HoldAll all (map (λ x. any_view (inner x)) v.items))
    (λ v. length (map (λ x. any_view (inner x)) v.items) ≤ 8)
    (λ v h. most_held all (map (λ x. any_view (inner x)) v.items) h (omega arith)) c.check_all-checked.ensures.held

pub returns : goal.returns
returns g c =
    let all : List (List ℕ) = map (λ (f : Vec ℕ Global). f.items) c.args.files.now in
    let r₀ : Input = input_of (g.R.ByteRead.remaining c.args.r.now) (g.R.ByteRead.failures c.args.r.now) in
    let r : Input =
    input_of (g.R.ByteRead.remaining c.serve_all_checked.new.r) (g.R.ByteRead.failures c.serve_all_checked.new.r) in
    all_by (λ v. map (λ x. any_view (inner x)) v.items) all c.check_all-checked.result r₀ r
    (g.W.ByteWrite.output c.args.w.now) (g.W.ByteWrite.output c.serve_all_checked.new.w) c.serve_all_checked.result
    c.check_all-checked.ensures.held c.check_all-checked.ensures.fault c.serve_all_checked.ensures.served
    c.serve_all_checked.ensures.unserved
