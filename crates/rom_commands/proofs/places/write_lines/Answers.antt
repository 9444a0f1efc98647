use Rattle.std.proofs.Common.{ℕ, ◌+◌, Bool, List, take, drop, get_or, refl, sym, subst, ◌∙◌, ap}
use Rattle.std.specs.Prelude.{◌&&◌}
use Rattle.std.specs.Io.KnownBytes.{Appends}
use Rattle.rom_fields.specs.Written.{AppendsPrefix}
use Rattle.rom_fields.proofs.Joins.{appends_join, appends_none, front_after, front_first, rose_after}
use Rattle.image_extents.specs.Which.{which_text}
use Rattle.rom_commands.specs.Texts.{are_inside, places_text}
use Rattle.rom_commands.proofs.Lines.{inside_end, inside_more, places_end, places_front, places_more, places_none}
use Rattle.rom_commands.proofs.places.write_lines.Goals as goal

pub loop-address-init : goal.loop-address-init
loop-address-init g c =
    let old = (g.W.ByteWrite.output c.args.w.now).contents in
    record {
      whole = subst (λ (v : List ℕ). Appends old old v)
          (sym (places_none c.args.base c.args.file c.args.found.now c.args.addresses.now)) (appends_none old);
      quiet = refl;
      inside = refl;
    }

pub loop-address-preserved : goal.loop-address-preserved
loop-address-preserved g c =
    let i : ℕ = c.loop-address.address-index in
    let xs : List ℕ = c.args.addresses.now in
    let old = (g.W.ByteWrite.output c.args.w.now).contents in
    let mid = (g.W.ByteWrite.output c.loop-address.w).contents in
    let new = (g.W.ByteWrite.output c.write_which.new.w).contents in
    let base : ℕ = c.args.base in
    let file : ℕ = c.args.file in
    let e = c.args.found.now in
    record {
      whole = subst (λ (v : List ℕ). Appends old new v) (places_more base file e xs i c.loop-address-test.true)
          (appends_join old mid new (places_text base file e (take i xs)) (which_text base file e (get_or xs i 0))
          c.loop-address.invariant.whole c.in-Ok.ensures.text);
      quiet = c.in-Ok.ensures.count ∙ c.loop-address.invariant.quiet;
      inside = c.both-inside.ensures
          ∙ (ap (λ (v : Bool). v && c.in-Ok.here) c.loop-address.invariant.inside
          ∙ (ap (λ (v : Bool). are_inside base file e (take i xs) && v) c.in-Ok.ensures.inside
          ∙ inside_more base file e xs i c.loop-address-test.true));
    }

pub returns-in-Err-clause-text : goal.returns-in-Err-clause-text
returns-in-Err-clause-text g c =
    let i : ℕ = c.loop-address.address-index in
    let xs : List ℕ = c.args.addresses.now in
    let old = (g.W.ByteWrite.output c.args.w.now).contents in
    let mid = (g.W.ByteWrite.output c.loop-address.w).contents in
    let new = (g.W.ByteWrite.output c.write_which.new.w).contents in
    let base : ℕ = c.args.base in
    let file : ℕ = c.args.file in
    let e = c.args.found.now in
    let front : AppendsPrefix old new (places_text base file e (take (i + 1) xs)) =
    subst (λ (v : List ℕ). AppendsPrefix old new v) (places_more base file e xs i c.loop-address-test.true)
    (front_after old mid new (places_text base file e (take i xs)) (which_text base file e (get_or xs i 0))
    c.loop-address.invariant.whole c.in-Err.ensures.text) in
    subst (λ (v : List ℕ). AppendsPrefix old new v) (places_front base file e xs (i + 1))
    (front_first old new (places_text base file e (take (i + 1) xs)) (places_text base file e (drop (i + 1) xs)) front)

pub returns-in-Err-clause-count : goal.returns-in-Err-clause-count
returns-in-Err-clause-count g c = rose_after (g.W.ByteWrite.output c.args.w.now).failures
    (g.W.ByteWrite.output c.loop-address.w).failures (g.W.ByteWrite.output c.write_which.new.w).failures
    c.loop-address.invariant.quiet c.in-Err.ensures.count

pub returns-clause-text : goal.returns-clause-text
returns-clause-text g c =
    let old = (g.W.ByteWrite.output c.args.w.now).contents in
    let new = (g.W.ByteWrite.output c.loop-address.w).contents in
    subst (λ (v : List ℕ). Appends old new v)
    (places_end c.args.base c.args.file c.args.found.now c.args.addresses.now c.loop-address.address-index
    c.loop-address-test.false) c.loop-address.invariant.whole

pub returns-clause-count : goal.returns-clause-count
returns-clause-count g c = c.loop-address.invariant.quiet

pub returns-clause-inside : goal.returns-clause-inside
returns-clause-inside g c = c.loop-address.invariant.inside
    ∙ inside_end c.args.base c.args.file c.args.found.now c.args.addresses.now c.loop-address.address-index
    c.loop-address-test.false
