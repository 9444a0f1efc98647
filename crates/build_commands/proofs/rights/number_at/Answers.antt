use Rattle.std.proofs.Common.{rules}
use Rattle.std.specs.Cmp.Lexicographic.{slice_cmp}
use Rattle.std.specs.Ordering.{nat_cmp}
use Rattle.std.proofs.lemmas.Cmp.{nat_list_cmp_total}
use Rattle.std.proofs.lemmas.Fn.{always_returns_same}
use Rattle.std.proofs.lemmas.List.Sorted.{searchable_from_sorted}
use Rattle.build_commands.specs.Inventory.{path_of}
use Rattle.build_commands.specs.declared.inventory.NamedFile.{NamedFile}
use Rattle.build_commands.proofs.Ordered.{never_equal, same_from_equal, still_sorted}
use Rattle.build_commands.proofs.rights.number_at.Goals as goal

pub returns-in-Ok-clause-at : goal.returns-in-Ok-clause-at
returns-in-Ok-clause-at c = (
  c.in-Ok.ensures.bound,
  λ d. same_from_equal _ _
      (c.in-Ok.ensures.position (λ (f : NamedFile). slice_cmp nat_cmp (path_of f) c.args.path.now)
      (always_returns_same _ _ _ (λ a r k called. search rules)) d),
)

pub returns-in-Err-clause-none : goal.returns-in-Err-clause-none
returns-in-Err-clause-none c = λ o.
    never_equal _ _ c.in-Err.field-0
    (c.in-Err.ensures.position (λ (f : NamedFile). slice_cmp nat_cmp (path_of f) c.args.path.now)
    (always_returns_same _ _ _ (λ a r k called. search rules))
    (searchable_from_sorted nat_list_cmp_total path_of c.args.found.now c.args.path.now
    (still_sorted c.args.found.now o)))
