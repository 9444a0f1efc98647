use Rattle.std.proofs.Common.{rules, ◌++◌, ◌≡◌, ◌∙◌, ap, sym, List, ℕ}
use Rattle.std.specs.Str.{bytes_eq}
use Rattle.serve_lines.proofs.Decoding.{room_left, path_of-dash, path_of-text}
use Rattle.percent_encoding.specs.Percent.{percent_decode}
use Rattle.percent_encoding.specs.Iter.{decoded_bytes}
use Rattle.serve_lines.proofs.path_text.PathText.decoded.Goals as goal

pub returns-then-eq : goal.returns-then-eq
returns-then-eq c =
    c.new-path.ensures ∙ path_of-dash c.args.self.text.now
    (ap (bytes_eq c.args.self.text.now) (sym c.as_slice.ensures) ∙ sym c.if-eq.ensures)

pub push-requires : goal.push-requires
push-requires c =
    let room = room_left c.args.self.text.now c.loop-b.path.items (decoded_bytes c.next.new.self) c.in-Some.b
    (c.loop-b.invariant.left ∙ ap (λ (t : List ℕ). c.loop-b.path.items
    ++ t) c.in-Some.ensures.steps) c.args.self.short in
    search rules

pub returns : goal.returns
returns c =
    let all : percent_decode c.args.self.text.now ≡ c.loop-b.path.items = search rules in
    sym all ∙ path_of-text c.args.self.text.now
    (ap (bytes_eq c.args.self.text.now) (sym c.as_slice.ensures) ∙ sym c.if-eq.ensures)
