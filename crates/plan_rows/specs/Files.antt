-- `IsOf`: the code's map has the line and the contents to which each path of a manifest leads, if
-- its sources have these sizes. `contents_at`: the contents to which a path leads. (This project's
-- own.)
use Rattle.std.specs.Prelude.{◌≡◌, ℕ, if◌then◌else◌, List, get_or, reverse, Option, Some, None, Vec}
use Rattle.std.specs.List.{slice_get}
use Rattle.std.specs.Option.{option_map}
use Rattle.std.specs.HashMap.{get_by, HashMap}
use Rattle.std.specs.Str.{bytes_eq}
use Rattle.manifest.specs.declared.line.Line.{Line}
use Rattle.manifest.specs.Lines.{is_file, is_hard, is_same, filed, led}
use Rattle.manifest_tree.specs.Tree.{sources_before}
use Rattle.plan_rows.specs.declared.files.SourceUse.{SourceUse}
use Rattle.plan_rows.specs.declared.files.Target.{Target}
use Rattle.plan_rows.specs.declared.files.PathTargets.{PathTargets}

-- the contents of a `file` line: those of its source, with the line's alignment
abbrev pub contents_of : List Line → List ℕ → Line → SourceUse
contents_of lines sizes l =
    let k = sources_before l.number lines in record
    { align = l.align; size = get_or sizes k 0; source = k }

-- The contents to which a path leads among the lines `latest`, which are in reverse order. `all`
-- has all lines.
abbrev pub contents_in : List Line → List ℕ → List Line → List ℕ → Option SourceUse
contents_in all sizes latest path = option_map (contents_of all sizes) (filed latest path)

abbrev pub contents_at : List Line → List ℕ → List ℕ → Option SourceUse
contents_at lines sizes path = contents_in lines sizes (reverse lines) path

-- this is the index of the line, or there is no line and no index
abbrev pub IsIndexOf : List Line → Option ℕ → Option Line → Type 0
IsIndexOf lines k l = option_map (λ i. slice_get lines i) k ≡ option_map (λ x. Some x) l

-- the line and the contents to which a path leads among these lines
pub record IsTarget (all : List Line) (sizes : List ℕ) (latest : List Line) (path : List ℕ)
    (t : Target) : Type 0 where
  pub line : IsIndexOf all t.line (led latest path)
  pub contents : t.contents ≡ contents_in all sizes latest path

abbrev pub or_nowhere : Option Target → Target
or_nowhere None = record { line = None; contents = None }
or_nowhere (Some t) = t

-- the value of the map at a path
abbrev pub noted : {A S : Type 0} → HashMap (Vec ℕ A) Target S → List ℕ → Option Target
noted m path = get_by (λ k. bytes_eq path k.items) m

-- the map now has this value at a path, and its old values at other paths
abbrev pub HasMore : {A S : Type 0} → List ℕ → Target → HashMap (Vec ℕ A) Target S
    → HashMap (Vec ℕ A) Target S → Type 0
HasMore path t old new =
    (q : List ℕ) → noted new q ≡ (if bytes_eq path q then Some t else noted old q)

-- for each path, the map has what it leads to among these lines
abbrev pub Knows : {A S : Type 0} → List Line → List ℕ → List Line → HashMap (Vec ℕ A) Target S
    → Type 0
Knows all sizes latest m =
    (path : List ℕ) → IsTarget all sizes latest path (or_nowhere (noted m path))

-- the contents of a line that is not `hard`; `source` is the number of sources before it
abbrev pub own_contents : {A S : Type 0} → HashMap (Vec ℕ A) Target S → List ℕ → ℕ → Line
    → Option SourceUse
own_contents m sizes source l =
    if is_same l.word then (or_nowhere (noted m l.text)).contents
    else (if is_file l.word then Some
    (record { align = l.align; size = get_or sizes source 0; source = source })
    else None)

-- what the path of the line at an index leads to, if the map has what the paths before it lead to
abbrev pub own_target : {A S : Type 0} → HashMap (Vec ℕ A) Target S → List ℕ → ℕ → ℕ → Line → Target
own_target m sizes source index l =
    if is_hard l.word then or_nowhere (noted m l.text)
    else record { line = Some index; contents = own_contents m sizes source l }

-- the map has what the paths of a manifest lead to
abbrev pub IsOf : List Line → List ℕ → PathTargets → Type 0
IsOf lines sizes f = Knows lines sizes (reverse lines) f.paths
