use Rattle.std.proofs.Common.{◌∷◌, string_bytes}
use Rattle.std.proofs.lemmas.List.Sorted.{IsPermutation-sym, IsPermutation-trans, IsPermutation-cons}
use Rattle.directory_walk.specs.Trees.{entered}
use Rattle.directory_walk.specs.Views.{names_of, paths_of}
use Rattle.directory_walk.proofs.Moved.{entered_moved}
use Rattle.directory_walk.proofs.Walks.{all_sorted}
use Rattle.directory_walk.proofs.walking.walk.Goals as goal

pub returns-in-Ok-sort-clause-all : goal.returns-in-Ok-sort-clause-all
returns-in-Ok-sort-clause-all g c = all_sorted _ _ _ c.in-Ok.ensures.all c.in-Ok-sort.ensures.same

pub returns-in-Ok-sort-clause-entered : goal.returns-in-Ok-sort-clause-entered
returns-in-Ok-sort-clause-entered g c =
    let top = string_bytes c.args.top.path in
    let found = names_of c.in-Ok.walked.entries.items in
    let sorted = names_of c.sort.new.entries.items in
    IsPermutation-trans (top ∷ entered sorted) (top ∷ entered found) (paths_of c.in-Ok.walked.directories.items)
    (IsPermutation-cons top (entered sorted) (entered found)
    (IsPermutation-sym (entered found) (entered sorted) (entered_moved found sorted c.in-Ok-sort.ensures.same)))
    c.in-Ok.ensures.entered
