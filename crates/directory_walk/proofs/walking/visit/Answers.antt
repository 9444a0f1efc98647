use Rattle.std.proofs.Common.{◌≡◌, ℕ, List, [], ◌∷◌, ◌++◌, length, refl, sym, ◌∙◌, ap, subst, arith}
use Rattle.std.proofs.Common.{string_bytes}
use Rattle.std.proofs.lemmas.List.{map-append}
use Rattle.directory_walk.specs.Trees.{IsDirectoryOf, IsReached}
use Rattle.directory_walk.specs.Views.{IsRefusal, listed_names, names_of, paths_of}
use Rattle.directory_walk.specs.declared.lister.Directory.{Directory}
use Rattle.directory_walk.proofs.Taken.{nothing_left}
use Rattle.directory_walk.proofs.Walks.{walking_begins, walking_goes_on, walking_ends, walking_reached}
use Rattle.directory_walk.proofs.Walks.{entered_begins, entered_goes_on}
use Rattle.directory_walk.proofs.walking.visit.Goals as goal

pub loop-init : goal.loop-init
loop-init g c =
    let empty = ap (λ l. names_of l) c.new-entries.ensures.items in
    record {
      walking = walking_begins _ (string_bytes c.args.top.path) _ _ c.requires empty c.in-Ok.ensures;
      entered = entered_begins (string_bytes c.args.top.path) _ _ _ empty
          (ap (λ l. paths_of l) c.new-directories.ensures.items) c.in-Ok.ensures;
      same = refl;
    }

pub returns-in_default-clause-all : goal.returns-in_default-clause-all
returns-in_default-clause-all g c =
    let none : length c.loop.waiting.items ≡ 0 = omega (arith, c.in_default.ensures.cases.0) in
    walking_ends _ _ _ c.loop.invariant.walking (ap (λ l. paths_of l) (nothing_left c.loop.waiting.items none))

pub returns-in-Err-list_one-clause-error : goal.returns-in-Err-list_one-clause-error
returns-in-Err-list_one-clause-error g c =
    let d = c.in-Some.directory in
    let p : List ℕ = string_bytes d.path in
    let rest = paths_of c.pop.new.self.items in
    let same = c.loop.invariant.same in
    let waited : paths_of c.loop.waiting.items ≡ rest ++ p ∷ [] =
    ap (λ l. paths_of l) c.in-Some.ensures.items
    ∙ map-append (λ (x : Directory g.row.L-State.Denot). string_bytes x.path) c.pop.new.self.items (d ∷ []) in
    let reached = walking_reached (g.L.Lister.tree c.args.lister.now) (names_of c.loop.entries.items)
    (paths_of c.loop.waiting.items) rest p c.loop.invariant.walking waited in
    subst (λ (o : _). IsRefusal o (g.L.Lister.refuses c.list_one.new.lister) c.in-Err-list_one.e) same
    (c.in-Err-list_one.ensures.error (subst (λ (o : _). IsReached o p) (sym same) reached))

pub loop-preserved : goal.loop-preserved
loop-preserved g c =
    let top = g.L.Lister.tree c.args.lister.now in
    let d = c.in-Some.directory in
    let p : List ℕ = string_bytes d.path in
    let rest = paths_of c.pop.new.self.items in
    let ns = listed_names c.in-Ok-list_one.both.1.items in
    let f = c.in-Ok-list_one.both.0 in
    let waited : paths_of c.loop.waiting.items ≡ rest ++ p ∷ [] =
    ap (λ l. paths_of l) c.in-Some.ensures.items
    ∙ map-append (λ (x : Directory g.row.L-State.Denot). string_bytes x.path) c.pop.new.self.items (d ∷ []) in
    let done : paths_of c.push.new.self.items ≡ paths_of c.loop.directories.items ++ p ∷ [] =
    ap (λ l. paths_of l) c.in-Ok-push.ensures.items
    ∙ map-append (λ (x : Directory g.row.L-State.Denot). string_bytes x.path) c.loop.directories.items (f ∷ [])
    ∙ ap (λ (q : List ℕ). paths_of c.loop.directories.items ++ q ∷ []) c.in-Ok-list_one.ensures.path in
    record {
      walking = walking_goes_on top (names_of c.loop.entries.items) (names_of c.take_in.new.found.items) ns
          (paths_of c.loop.waiting.items) rest (paths_of c.take_in.new.waiting.items) p
          c.loop.invariant.walking
          waited
          (λ t within. c.in-Ok-list_one.ensures.known t
          (subst (λ (o : _). IsDirectoryOf o p t) (sym c.loop.invariant.same) within))
          c.in-Ok-take_in.ensures.found
          c.in-Ok-take_in.ensures.waiting;
      entered = entered_goes_on (string_bytes c.args.top.path) (names_of c.loop.entries.items)
          (names_of c.take_in.new.found.items) ns
          (paths_of c.loop.directories.items) (paths_of c.push.new.self.items)
          (paths_of c.loop.waiting.items) rest (paths_of c.take_in.new.waiting.items) p
          c.loop.invariant.entered
          waited
          c.in-Ok-take_in.ensures.found
          c.in-Ok-take_in.ensures.waiting
          done;
      same = c.in-Ok-list_one.ensures.same ∙ c.loop.invariant.same;
    }
