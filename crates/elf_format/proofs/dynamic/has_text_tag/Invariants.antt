use Rattle.std.proofs.Common.{◌≡◌, ◌+◌, ◌*◌, ◌≤◌, length}
use Rattle.elf_format.specs.Dynamic.{has_text_tag}
use Rattle.elf_format.specs.Header.{width}
use Rattle.elf_format.proofs.dynamic.has_text_tag.Given as goal

abbrev pub invariant-loop-left : goal.invariant-loop-left
invariant-loop-left l = record {
  within : l.at + l.left * (2 * width l.class) ≤ length l.b;
  same : has_text_tag l.class l.order l.b l.left l.at ≡ has_text_tag l.class l.order l.b l.fn.count l.fn.at;
}

abbrev pub decreases-loop-left : goal.decreases-loop-left
decreases-loop-left l = l.left
